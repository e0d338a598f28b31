-- The table of kids in numbers, as the code has it: a set of kinds is a number whose bit k is the kind k.
use Rattle.std.specs.Prelude.{◌+◌, ◌*◌, ◌/◌, ◌%◌, ◌^◌, ◌≡◌, ◌∷◌, if◌then◌else◌}
use Rattle.rows.specs.Base.{ℕ, zero, suc, Bool, List, [], eqb, length, get_or}
use Rattle.rows.specs.Shape.{Shape, nothing}

unfoldable pub has : ℕ → ℕ → Bool  -- the bit k is 1
has kinds k = eqb (kinds / 2 ^ k % 2) 1

unfoldable pub bits : (ℕ → Bool) → ℕ → ℕ → ℕ  -- n bits, from the kind k on
bits kinds zero k = 0
bits kinds (suc n) k = (if kinds k then 1 else 0) + 2 * bits kinds n (k + 1)

unfoldable pub mask : (ℕ → Bool) → ℕ  -- the number whose bits are the kinds below 64
mask kinds = bits kinds 64 0

-- how many kids stand in front, the kinds of three of them, of any number, of one closing kid, how many stand at the end, and the kinds of the last
unfoldable pub cells : Shape → List ℕ
cells shape =
    length shape.front
    ∷ mask (get_or shape.front 0 nothing)
    ∷ mask (get_or shape.front 1 nothing)
    ∷ mask (get_or shape.front 2 nothing)
    ∷ mask shape.many
    ∷ mask shape.closing
    ∷ length shape.ending
    ∷ mask (get_or shape.ending 0 nothing)
    ∷ []

pub record Cell (shape : Shape) (place x : ℕ) : Type 0 where  -- x is the number at a place of the table's line
  pub is : x ≡ get_or (cells shape) place 0
