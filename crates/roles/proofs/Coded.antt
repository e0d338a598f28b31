-- What a plan that is written as a number says, by its kind and by what it holds.
-- Assumes nothing.
use Prim.Native.Nat.{ℕ, ◌+◌, ◌-◌, ◌<◌}
use mathlib.Core.Path.{◌≡◌, ap, ◌∙◌}
use mathlib.Core.List.{List, [], ◌∷◌}
use native.Mathlib.Omega.{arith}
use borrow.Author.Tests.{ne_eqb}
use Rattle.rows.specs.Row as row
use Rattle.rows.specs.Record.{Record, rest_comma, compound_default}
use Rattle.conversion.specs.Conversion as def
use Rattle.roles.specs.Plan as code
use Rattle.roles.specs.Numbers.{word, commas, plan_as, plan, Coded}

pub planned : (begins : ℕ) {kind held of : ℕ} → Coded kind held of → plan begins of ≡ plan_as begins kind held
unfolding plan
planned begins c = rw (c.kind_is, c.held_is)

word_is : {n : ℕ} → n < 4294967296 → word n ≡ n
word_is h = omega arith

pub kept : (begins : ℕ) {kind held of : ℕ} → Coded code.Keep held of → held ≡ kind → kind < 4294967296 → plan begins of ≡ def.keep kind []
kept begins c e h = planned begins c ∙ ap (λ (n : ℕ). def.keep n []) (ap word e ∙ word_is h)

pub compound : (begins : ℕ) {mark held of : ℕ} → Coded code.Compound held of → held ≡ mark → mark < 4294967296
    → plan begins of ≡ def.keep row.TargetDefault (compound_default mark ∷ [])
compound begins c e h = planned begins c ∙ ap (λ (n : ℕ). def.keep row.TargetDefault (compound_default n ∷ [])) (ap word e ∙ word_is h)

-- what a literal holds that has a comma after its rest
comma_held : (first held : ℕ) → held ≡ first + 1 → first < 4294967296 → commas held ≡ rest_comma first ∷ []
comma_held first held e h =
    let some : held ≡ 0 → ⊥ = λ z. omega arith in
    let place : word (held - 1) ≡ first = omega arith in
    rw (ne_eqb held 0 some, place)

pub closed_array : (begins : ℕ) {first held of : ℕ} → Coded code.Array held of → held ≡ first + 1 → first < 4294967296
    → plan begins of ≡ def.turn row.TargetArray [] (def.each def.element (def.last_element (rest_comma first ∷ []))) []
closed_array begins {first} {held} c e h =
    planned begins c ∙ ap (λ (rs : List Record). def.turn row.TargetArray [] (def.each def.element (def.last_element rs)) []) (comma_held first held e h)

pub closed_object : (begins : ℕ) {first held of : ℕ} → Coded code.Object held of → held ≡ first + 1 → first < 4294967296
    → plan begins of ≡ def.turn row.TargetObject [] (def.each def.property (def.last_property (rest_comma first ∷ []))) []
closed_object begins {first} {held} c e h =
    planned begins c ∙ ap (λ (rs : List Record). def.turn row.TargetObject [] (def.each def.property (def.last_property rs)) []) (comma_held first held e h)
