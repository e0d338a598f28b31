-- Balanced brackets, in any list of tokens: what readings (`agreement`) and derivations (`standard`) both say of brackets is said here.
-- The statement: `partner`, an opening bracket has one closing partner. Assumes nothing.
use Rattle.std.specs.Prelude.{if◌then◌else◌}
use Prim.Native.Nat.{ℕ, ◌+◌}
use mathlib.Core.Path.{◌≡◌, refl, sym, ap, ◌∙◌, subst}
use mathlib.Core.Bool.{Bool, true, false}
use mathlib.Core.List.{[], ◌∷◌}
use native.Mathlib.Omega.{arith}
use lib.Dec.{ltb}
use borrow.Author.Tests.{ne_eqb, ltb-true, lt-ltb}
use Rattle.tokens.specs.Bool.{◌or◌, ◌is◌}
use Rattle.tokens.specs.Kind.{LParen, RParen, LBrack, RBrack, LCurly, RCurly}
use Rattle.tokens.specs.Token.{is_name, is_word, is_literal}
use Rattle.operators.specs.Precedence.{level, expression_level}
use Rattle.grammar.specs.Sheet.{Sheet, sheet_of, token}

-- which way a token goes: 1 it opens a bracket, 2 it closes one, 0 neither
unfoldable pub side_of : ℕ → ℕ
side_of k = if k is LParen or k is LBrack or k is LCurly then 1 else if k is RParen or k is RBrack or k is RCurly then 2 else 0

-- the way that the token at a place goes
pub record Side (sheet : Sheet) (at way : ℕ) : Type 0 where
  pub goes : side_of (token sheet at) ≡ way

-- the tokens from a place up to another are balanced
pub data Balanced (sheet : Sheet) : ℕ → ℕ → Type 0 where
  none : {i : ℕ} → Balanced sheet i i
  skip : {i j : ℕ} → Side sheet i 0 → Balanced sheet (i + 1) j → Balanced sheet i j
  nest : {i k j : ℕ} → Side sheet i 1 → Balanced sheet (i + 1) k → Side sheet k 2 → Balanced sheet (k + 1) j → Balanced sheet i j

apart : {sheet : Sheet} {p s t : ℕ} → Side sheet p s → Side sheet p t → s ≡ t
apart a b = omega arith

-- an opening bracket has one partner
pub partner : {sheet : Sheet} {i j k : ℕ} → Balanced sheet i j → Balanced sheet i k → Side sheet j 2 → Side sheet k 2 → j ≡ k
partner none none s t = refl
partner none (skip a b) s t = absurd (omega (arith, apart a s))
partner none (nest a b c d) s t = absurd (omega (arith, apart a s))
partner (skip a b) none s t = absurd (omega (arith, apart a t))
partner (skip a b) (skip a' b') s t = partner b b' s t
partner (skip a b) (nest a' b' c' d') s t = absurd (omega (arith, apart a a'))
partner (nest a b c d) none s t = absurd (omega (arith, apart a t))
partner (nest a b c d) (skip a' b') s t = absurd (omega (arith, apart a a'))
partner {sheet} {k = z} (nest a b c d) (nest a' b' c' d') s t = partner d (subst (λ x. Balanced sheet (x + 1) z) (sym (partner b b' c c')) d') s t

pub joined : {sheet : Sheet} {i j k : ℕ} → Balanced sheet i j → Balanced sheet j k → Balanced sheet i k
joined none b = b
joined (skip s a) b = skip s (joined a b)
joined (nest s a t c) b = nest s a t (joined c b)

-- a token of a kind goes the kind's way
pub side : {sheet : Sheet} {at k : ℕ} → token sheet at ≡ k → Side sheet at (side_of k)
side e = record { goes = ap side_of e }

-- a kind that passes a test which no bracket passes
pub flat : (holds : ℕ → Bool) → holds LParen ≡ false → holds LBrack ≡ false → holds LCurly ≡ false → holds RParen ≡ false → holds RBrack ≡ false → holds RCurly ≡ false
    → {sheet : Sheet} {at : ℕ} → holds (token sheet at) ≡ true → Side sheet at 0
unfolding side_of
flat holds a b c d e f {sheet} {at} t =
    record { goes = rw (no LParen a, no LBrack b, no LCurly c, no RParen d, no RBrack e, no RCurly f) }
  where
    no : (k : ℕ) → holds k ≡ false → token sheet at is k ≡ false
    no k z = ne_eqb _ _ (λ q. let y : true ≡ false = sym t ∙ ap holds q ∙ z in let x : ◌≡◌ {A = ℕ} 0 1 = cc in omega arith)

pub name_flat : {sheet : Sheet} {at : ℕ} → is_name (token sheet at) ≡ true → Side sheet at 0
unfolding is_name
name_flat t = flat is_name refl refl refl refl refl refl t

pub word_flat : {sheet : Sheet} {at : ℕ} → is_word (token sheet at) ≡ true → Side sheet at 0
unfolding is_word
word_flat t = flat is_word refl refl refl refl refl refl t

pub literal_flat : {sheet : Sheet} {at : ℕ} → is_literal (token sheet at) ≡ true → Side sheet at 0
unfolding is_literal
literal_flat t = flat is_literal refl refl refl refl refl refl t

pub operator_flat : {sheet : Sheet} {at : ℕ} (floor : ℕ) → ltb floor (expression_level (token sheet at)) ≡ true → Side sheet at 0
unfolding expression_level level
operator_flat {sheet} {at} floor t =
    flat (λ k. ltb 0 (expression_level k)) refl refl refl refl refl refl (lt-ltb 0 (expression_level (token sheet at)) (omega (arith, ltb-true floor (expression_level (token sheet at)) t)))

-- `([{}])` is balanced
pub six : Balanced (sheet_of (LParen ∷ LBrack ∷ LCurly ∷ RCurly ∷ RBrack ∷ RParen ∷ []) []) 0 6
unfolding side_of
six = nest (record { goes = refl }) (nest (record { goes = refl }) (nest (record { goes = refl }) none (record { goes = refl }) none) (record { goes = refl }) none) (record { goes = refl }) none
