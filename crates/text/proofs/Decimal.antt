-- Laws of decimal numbers: one digit after the digits of a tenth; they read back as the number, and have no zero in front.
-- Assumes nothing.
use Prim.Native.Nat.{ℕ, zero, suc, ◌+◌, ◌-◌, ◌*◌, ◌/◌, ◌%◌, ◌≤◌, ◌<◌}
use mathlib.Core.Path.{◌≡◌, refl, sym, ap, ◌∙◌}
use mathlib.Core.Bool.{Bool, true, false}
use mathlib.Core.List.{List, [], ◌∷◌, ◌++◌}
use native.Mathlib.Omega.{arith}
use lib.Dec.{ltb}
use borrow.Author.Tests.{lt-ltb, le-ltb, ltb-true, ltb-false}
use Rattle.text.specs.Text.{last_digits, decimal}

-- two bounds on the digits, if they agree on the digits of a tenth
step : (a b n : ℕ) → (10 ≤ n → last_digits a (n / 10) ≡ last_digits b (n / 10)) → (t : Bool) → ltb n 10 ≡ t → last_digits (suc a) n ≡ last_digits (suc b) n
unfolding last_digits
step a b n tenth true e = rw e
step a b n tenth false e = rw (e, tenth (ltb-false n 10 e))

-- a bound on the digits does not matter if it is above the number
enough : (a b n : ℕ) → n < a → n < b → last_digits a n ≡ last_digits b n
enough zero b n p q = absurd (omega arith)
enough (suc a) zero n p q = absurd (omega arith)
enough (suc a) (suc b) n p q = step a b n (λ l. enough a b (n / 10) (omega arith) (omega arith)) (ltb n 10) refl

pub one_digit : (n : ℕ) → n < 10 → decimal n ≡ (48 + n % 10) ∷ []
unfolding last_digits decimal
one_digit n l = rw (lt-ltb n 10 l)

pub more_digits : (n : ℕ) → 10 ≤ n → decimal n ≡ decimal (n / 10) ++ ((48 + n % 10) ∷ [])
unfolding last_digits decimal
more_digits n l = rw (le-ltb n 10 l) (ap (λ (ds : List ℕ). ds ++ ((48 + n % 10) ∷ [])) (enough n (suc (n / 10)) (n / 10) (omega arith) (omega arith)))

-- the number that digits are, after some that were read before
pub value_after : ℕ → List ℕ → ℕ
value_after n [] = n
value_after n (d ∷ ds) = value_after (10 * n + (d - 48)) ds

pub value : List ℕ → ℕ
value ds = value_after 0 ds

value_snoc : (n : ℕ) (ds : List ℕ) (d : ℕ) → value_after n (ds ++ (d ∷ [])) ≡ 10 * value_after n ds + (d - 48)
unfolding value_after
value_snoc n [] d = refl
value_snoc n (x ∷ ds) d = value_snoc (10 * n + (x - 48)) ds d

-- what holds of a number with one digit, and of a number if it holds of its tenth, holds of every number
by_digits : (P : ℕ → Type 0) → ((n : ℕ) → n < 10 → P n) → ((n : ℕ) → 10 ≤ n → P (n / 10) → P n) → (n : ℕ) → P n
by_digits P one more n = below (suc n) n (omega arith)
  where
    pick : (a m : ℕ) → m < suc a → ((k : ℕ) → k < a → P k) → (t : Bool) → ltb m 10 ≡ t → P m
    pick a m l all true e = one m (ltb-true m 10 e)
    pick a m l all false e = let g : 10 ≤ m = ltb-false m 10 e in more m g (all (m / 10) (omega arith))

    below : (a m : ℕ) → m < a → P m
    below zero m l = absurd (omega arith)
    below (suc a) m l = pick a m l (λ k. below a k) (ltb m 10) refl

-- read back they are the number
pub reads_back : (n : ℕ) → value (decimal n) ≡ n
unfolding value value_after
reads_back =
    by_digits (λ n. value (decimal n) ≡ n)
    (λ n l. rw (one_digit n l) (omega arith))
    (λ n l e. rw (more_digits n l) (value_snoc 0 (decimal (n / 10)) (48 + n % 10) ∙ rw e (omega arith)))

-- so no two numbers have the same digits
pub decimal_once : (m n : ℕ) → decimal m ≡ decimal n → m ≡ n
decimal_once m n e = sym (reads_back m) ∙ ap value e ∙ reads_back n

-- there is a first digit, and it is no zero unless the number is
pub record Begins (n : ℕ) (ds : List ℕ) : Type 0 where
  pub first : ℕ
  pub others : List ℕ
  pub text : ds ≡ first ∷ others
  pub zero_only : first ≡ 48 → n ≡ 0

pub no_zero_in_front : (n : ℕ) → Begins n (decimal n)
no_zero_in_front =
    by_digits (λ n. Begins n (decimal n))
    (λ n l. record { first = 48 + n % 10; others = []; text = one_digit n l; zero_only = λ e. omega arith })
    (λ n l b. record {
      first = b.first;
      others = b.others ++ ((48 + n % 10) ∷ []);
      text = more_digits n l ∙ ap (λ (ds : List ℕ). ds ++ ((48 + n % 10) ∷ [])) b.text;
      zero_only = λ e. let z : n / 10 ≡ 0 = b.zero_only e in absurd (omega arith);
    })
