-- What each three-way answer says about the next tokens, with both flags off.
use Rattle.std.specs.Prelude.{◌+◌, ◌≤◌, ◌≡◌}
use Rattle.tokens.specs.Bool.{ℕ, false, List}
use Rattle.tokens.specs.Kind.{Ident, Async, As, Modifier, Const, This, Await, Yield, LParen, RParen, LBrack, LCurly, Comma, Colon, Question, Dot3, Arrow, LAngle, In, Eq}
use Rattle.tokens.specs.Token.{kind_at, flag_at, is_literal}

-- the opening token stands at p: at the place itself, or right after an Async there, with no break between them
pub data Opening (kinds flags : List ℕ) (at p : ℕ) : Type 0 where
  bare : p ≡ at → Opening kinds flags at p
  after_async : kind_at kinds at ≡ Async → (flag_at flags (at + 1) ≡ 1 → ⊥) → p ≡ at + 1 → Opening kinds flags at p

pub data Name (k : ℕ) : Type 0 where  -- what the three-way answer takes for a name: 1 to 5, Await, Yield
  name : Ident ≤ k → k ≤ Modifier → Name k
  await : k ≡ Await → Name k
  yield : k ≡ Yield → Name k

pub data First (k : ℕ) : Type 0 where  -- what may stand first in `(`: a name or This
  a_name : Name k → First k
  this : k ≡ This → First k

pub data Modifies (k : ℕ) : Type 0 where  -- a modifier but no Async
  modifier : k ≡ Modifier → Modifies k
  const : k ≡ Const → Modifies k
  in_word : k ≡ In → Modifies k

pub data Optional (k : ℕ) : Type 0 where  -- what makes `(a?` a head
  colon : k ≡ Colon → Optional k
  comma : k ≡ Comma → Optional k
  equals : k ≡ Eq → Optional k
  close : k ≡ RParen → Optional k

pub data Types (k : ℕ) : Type 0 where  -- what may stand after `<`: a name or Const
  type_name : Name k → Types k
  type_const : k ≡ Const → Types k

pub data TrueCase (kinds : List ℕ) (p : ℕ) : Type 0 where  -- True: the tokens from the opening one on
  empty_arrow : kind_at kinds p ≡ LParen → kind_at kinds (p + 1) ≡ RParen → kind_at kinds (p + 2) ≡ Arrow → TrueCase kinds p  -- "() =>"
  empty_body : kind_at kinds p ≡ LParen → kind_at kinds (p + 1) ≡ RParen → kind_at kinds (p + 2) ≡ LCurly → TrueCase kinds p  -- "() {"
  rest_ident : kind_at kinds p ≡ LParen → kind_at kinds (p + 1) ≡ Dot3 → kind_at kinds (p + 2) ≡ Ident → TrueCase kinds p  -- "(...ident"
  -- "(static a"
  modified : kind_at kinds p ≡ LParen → Modifies (kind_at kinds (p + 1)) → Name (kind_at kinds (p + 2)) → (kind_at kinds (p + 2) ≡ As → ⊥) → TrueCase kinds p
  typed : kind_at kinds p ≡ LParen → First (kind_at kinds (p + 1)) → kind_at kinds (p + 2) ≡ Colon → TrueCase kinds p  -- "(a:"
  -- "(a?:", "(a?,", "(a?=", "(a?)"
  optional : kind_at kinds p ≡ LParen → First (kind_at kinds (p + 1)) → kind_at kinds (p + 2) ≡ Question → Optional (kind_at kinds (p + 3)) → TrueCase kinds p

pub data MaybeCase (kinds : List ℕ) (p : ℕ) : Type 0 where  -- Maybe: the tokens from the opening one on
  array : kind_at kinds p ≡ LParen → kind_at kinds (p + 1) ≡ LBrack → MaybeCase kinds p  -- "(["
  object : kind_at kinds p ≡ LParen → kind_at kinds (p + 1) ≡ LCurly → MaybeCase kinds p  -- "({"
  -- "(..." and then neither a plain name nor a literal
  rest_other : kind_at kinds p ≡ LParen → kind_at kinds (p + 1) ≡ Dot3 → (kind_at kinds (p + 2) ≡ Ident → ⊥) → is_literal (kind_at kinds (p + 2)) ≡ false → MaybeCase kinds p
  name_comma : kind_at kinds p ≡ LParen → First (kind_at kinds (p + 1)) → kind_at kinds (p + 2) ≡ Comma → MaybeCase kinds p  -- "(a,"
  name_equals : kind_at kinds p ≡ LParen → First (kind_at kinds (p + 1)) → kind_at kinds (p + 2) ≡ Eq → MaybeCase kinds p  -- "(a="
  name_close : kind_at kinds p ≡ LParen → First (kind_at kinds (p + 1)) → kind_at kinds (p + 2) ≡ RParen → MaybeCase kinds p  -- "(a)"
  type_parameters : kind_at kinds p ≡ LAngle → Types (kind_at kinds (p + 1)) → MaybeCase kinds p  -- "<a"

pub record Found (kinds flags : List ℕ) (at : ℕ) (Case : ℕ → Type 0) : Type 0 where  -- where the opening token stands, and what holds from there on
  pub p : ℕ
  pub opening : Opening kinds flags at p
  pub tokens : Case p
