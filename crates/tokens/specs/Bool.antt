-- Tests, joined and branched on: every definition of this project picks its cases with these. And what the definitions take of numbers, lists and tests.
pub use Rattle.std.specs.Prelude.{ℕ, zero, suc, max, min}
pub use mathlib.Core.{Bool.false, Bool.Bool, Bool.true, Bool.not, List.List, List.[]}
pub use lib.{Dec.eqb, Dec.leb, Dec.ltb, ListN.length, ListN.get_or, ListN.take, ListN.drop, ListN.replicate, ListN.set}

infixr 30 ◌or◌
infixr 35 ◌and◌
infix 40 ◌is◌
abbrev pub ◌or◌ : Bool → Bool → Bool
◌or◌ true b = true
◌or◌ false b = b

abbrev pub ◌and◌ : Bool → Bool → Bool
◌and◌ true b = b
◌and◌ false b = false

abbrev pub ◌is◌ : ℕ → ℕ → Bool  -- two numbers are the same
◌is◌ k a = eqb k a

abbrev pub between : ℕ → ℕ → ℕ → Bool  -- k is one of a, .., b
between a b k = leb a k and leb k b
