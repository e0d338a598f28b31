-- The checks of a list before it is read (RULES A1, A2, A5, A6, A7), each by itself.
-- An entry runs those that RULES X names for it, in the order of their numbers: the first refusal is the answer.
use Rattle.std.specs.Prelude.{◌+◌, ◌-◌, ◌∷◌, if◌then◌else◌, ◌≡◌, Ok, Err, Result, ⊤, Option, position}
use Rattle.tokens.specs.Bool.{ℕ, suc, zero, Bool, true, not, List, [], ltb, length, ◌or◌, ◌is◌, ◌and◌, between}
use Rattle.tokens.specs.declared.cause.Cause.{Cause}
use Rattle.tokens.specs.Kind as Kind

abbrev pub Checked : Type 0  -- what a check finds: nothing, or a refusal
Checked = Result ⊤ Cause

infixr 15 ◌and_then◌
abbrev pub ◌and_then◌ : Checked → Checked → Checked  -- the first check's refusal, or the second check
◌and_then◌ (Ok fine) second = second
◌and_then◌ (Err cause) second = Err cause

unfoldable pub check_length : List ℕ → Checked  -- 1: no tokens, or over 2,048
check_length kinds = if length kinds is 0 or ltb 2048 (length kinds) then Err (Cause.Length 0) else Ok tt

unfoldable pub check_flag_length : List ℕ → List ℕ → Checked  -- 2: a flag list of another length
check_flag_length kinds flags = if length flags is length kinds then Ok tt else Err (Cause.FlagLength 0)

unfoldable pub first_such : (ℕ → Bool) → (ℕ → Cause) → ℕ → List ℕ → Checked  -- the first place, counted from p, at which a test of its entry passes
first_such test cause p [] = Ok tt
first_such test cause p (x ∷ xs) = if test x then Err (cause p) else first_such test cause (suc p) xs

unfoldable pub check_flags : List ℕ → Checked  -- 5: a flag not 0 or 1
check_flags flags = first_such (λ flag. ltb 1 flag) Cause.Flag 0 flags

unfoldable pub check_kinds : List ℕ → Checked  -- 6: kind 0 or above 78
check_kinds kinds = first_such (λ kind. kind is 0 or ltb 78 kind) Cause.Kind 0 kinds

unfoldable pub depth_after : ℕ → ℕ → ℕ  -- how many brackets are open after a token: `( [ {` add one and any closing token takes one away, not below 0
depth_after depth k =
    if k is Kind.LParen or k is Kind.LBrack or k is Kind.LCurly then depth + 1
    else if k is Kind.RParen or k is Kind.RBrack or k is Kind.RCurly then depth - 1
    else depth

unfoldable pub nesting : ℕ → ℕ → List ℕ → Checked  -- over 64 brackets open, where so many are open before the place p
nesting depth p [] = Ok tt
nesting depth p (k ∷ ks) =
    if ltb 64 (depth_after depth k) then Err (Cause.Nesting p) else nesting (depth_after depth k) (suc p) ks

unfoldable pub check_nesting : List ℕ → Checked  -- 7: over 64 brackets open
check_nesting kinds = nesting 0 0 kinds

-- The quick looks before a check, which only functions inside promise: whether all bytes are between two, and how many tokens open and close a bracket.
unfoldable pub all_between : ℕ → ℕ → List ℕ → Bool  -- each byte is one of low, .., high
all_between low high [] = true
all_between low high (x ∷ xs) = between low high x and all_between low high xs

unfoldable pub first_outside : ℕ → ℕ → List ℕ → Option ℕ  -- the first place whose byte is not one of low, .., high
first_outside low high xs = position (λ x. not (between low high x)) xs

unfoldable pub one_of : ℕ → ℕ → ℕ → ℕ → ℕ  -- 1 for one of three kinds, 0 for another
one_of k a b c = if k is a or k is b or k is c then 1 else 0

unfoldable pub count : ℕ → ℕ → ℕ → ℕ → List ℕ → ℕ  -- how many of the first n tokens are of one of three kinds
count a b c zero ks = 0
count a b c (suc n) [] = 0
count a b c (suc n) (k ∷ ks) = one_of k a b c + count a b c n ks

abbrev pub openings : ℕ → List ℕ → ℕ  -- how many of the first n tokens open a bracket
openings n ks = count Kind.LParen Kind.LBrack Kind.LCurly n ks

abbrev pub closings : ℕ → List ℕ → ℕ  -- how many of them close one
closings n ks = count Kind.RParen Kind.RBrack Kind.RCurly n ks

-- of the first 32 tokens, so many open a bracket and so many close one
pub record Counted (kinds : List ℕ) (opened closed : ℕ) : Type 0 where
  pub opens : opened ≡ openings 32 kinds
  pub closes : closed ≡ closings 32 kinds
