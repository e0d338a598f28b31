-- The quick look at a list of bytes, seen from a place inside it; and the first place outside two bounds, which the checks of flags and kinds look for.
-- Assumes nothing.
use Rattle.std.proofs.Common.{◌≡◌, ℕ, suc, ◌+◌, ◌≤◌, ◌<◌, min, max, Bool, true, false, not, List, [], ◌∷◌, length, get_or, drop, Option, Some, None, Ok, Err, refl, sym, ◌∙◌, leb, ltb, arith, add-one, drop-cons, drop_of_length-le, ap}
use Rattle.std.specs.List.{position_from}
use Rattle.std.proofs.lemmas.Bool.Decides.{nat_tests}
use Rattle.std.proofs.lemmas.Iterator.Adapters.{position_from-zero}
use Rattle.tokens.specs.Bool.{◌or◌, ◌and◌, ◌is◌, between}
use Rattle.tokens.specs.Check.{Checked, first_such, check_flags, check_kinds, all_between, first_outside}
use Rattle.tokens.specs.declared.cause.Cause.{Cause}

-- a bound holds of the smaller or the larger of two where it holds of both
least_two : (low a b : ℕ) → leb low (min a b) ≡ leb low a and leb low b
least_two low a b = grind (arith, nat_tests)

most_two : (high a b : ℕ) → leb (max a b) high ≡ leb a high and leb b high
most_two high a b = grind (arith, nat_tests)

regroup : (a b c d e : Bool) → (a and b) and ((c and d) and e) ≡ ((a and c) and (b and d)) and e
regroup a b c d e = grind arith

-- the least and the greatest byte before the place i
pub record Seen (low high : ℕ) (xs : List ℕ) (least most i : ℕ) : Type 0 where
  pub inside : i ≤ length xs
  pub same : all_between low high xs ≡ (leb low least and leb most high) and all_between low high (drop i xs)

module _ {low high : ℕ} {xs : List ℕ} where
  pub seen_starts : low ≤ 255 → Seen low high xs 255 0 0
  seen_starts h = record { inside = omega arith; same = grind (arith, nat_tests) }

  pub seen_passes : {least most less more i : ℕ} → Seen low high xs least most i → i < length xs → less ≡ min least (get_or xs i 0) → more ≡ max most (get_or xs i 0)
      → Seen low high xs less more (i + 1)
  unfolding all_between
  seen_passes {least} {most} {i = i} s h p q =
      let x = get_or xs i 0 in
      record {
        inside = omega arith;
        same =
            s.same
            ∙ rw (drop-cons xs i 0 h, p, q, least_two low least x, most_two high most x, add-one i) (regroup (leb low least) (leb most high) (leb low x) (leb x high) (all_between low high (drop (suc i) xs)));
      }

  pub seen_ends : {least most i : ℕ} → Seen low high xs least most i → length xs ≤ i → (leb low least and leb most high) ≡ all_between low high xs
  unfolding all_between
  seen_ends s h = sym (s.same ∙ rw (drop_of_length-le xs h) (grind arith))

pub ruleset seen = (seen_starts, seen_passes, seen_ends)

-- nothing is found where all bytes are between the two
none_outside : (low high p : ℕ) (xs : List ℕ) → all_between low high xs ≡ true → position_from (λ x. not (between low high x)) p xs ≡ None
unfolding all_between
none_outside low high p [] e = refl
none_outside low high p (x ∷ xs) e = grind (arith, none_outside low high (p + 1) xs)

pub outside_none : (low high : ℕ) (xs : List ℕ) → all_between low high xs ≡ true → None ≡ first_outside low high xs
unfolding first_outside
outside_none low high xs e = sym (position_from-zero (λ x. not (between low high x)) xs ∙ none_outside low high 0 xs e)

-- nor by another test that passes all bytes between the two
none_such : (test : ℕ → Bool) (cause : ℕ → Cause) (low high : ℕ) → ((x : ℕ) → low ≤ x → x ≤ high → test x ≡ false) → (p : ℕ) (xs : List ℕ) → all_between low high xs ≡ true
    → Ok tt ≡ first_such test cause p xs
unfolding all_between first_such
none_such test cause low high h p [] e = refl
none_such test cause low high h p (x ∷ xs) e = grind (arith, nat_tests, h x, none_such test cause low high h (suc p) xs)

-- a refusal at the place that was found, if any was
abbrev pub refusal : (ℕ → Cause) → Option ℕ → Checked
refusal cause None = Ok tt
refusal cause (Some place) = Err (cause place)

first_by : (test : ℕ → Bool) (cause : ℕ → Cause) (low high : ℕ) → ((x : ℕ) → test x ≡ not (between low high x)) → (p : ℕ) (xs : List ℕ)
    → first_such test cause p xs ≡ refusal cause (position_from (λ x. not (between low high x)) p xs)
unfolding first_such
first_by test cause low high same p [] = refl
first_by test cause low high same p (x ∷ xs) = grind (arith, same x, first_by test cause low high same (suc p) xs)

-- the refusal that a check comes to, by the first place outside
module _ (test : ℕ → Bool) (cause : ℕ → Cause) (low high : ℕ) (same : (x : ℕ) → test x ≡ not (between low high x)) where
  refused : (xs : List ℕ) (found : Option ℕ) → found ≡ first_outside low high xs → refusal cause found ≡ first_such test cause 0 xs
  unfolding first_outside
  refused xs found e = ap (refusal cause) (e ∙ position_from-zero (λ x. not (between low high x)) xs) ∙ sym (first_by test cause low high same 0 xs)

pub flags_refused : (flags : List ℕ) (found : Option ℕ) → found ≡ first_outside 0 1 flags → refusal Cause.Flag found ≡ check_flags flags
unfolding check_flags
flags_refused flags found e = refused (λ flag. ltb 1 flag) Cause.Flag 0 1 (λ x. grind (arith, nat_tests)) flags found e

pub kinds_refused : (kinds : List ℕ) (found : Option ℕ) → found ≡ first_outside 1 78 kinds → refusal Cause.Kind found ≡ check_kinds kinds
unfolding check_kinds
kinds_refused kinds found e = refused (λ kind. kind is 0 or ltb 78 kind) Cause.Kind 1 78 (λ x. grind (arith, nat_tests)) kinds found e

-- so where all bytes are between the two, the check of flags finds nothing, and that of kinds
pub flags_fine : (flags : List ℕ) → all_between 0 1 flags ≡ true → Ok tt ≡ check_flags flags
flags_fine flags e = flags_refused flags None (outside_none 0 1 flags e)

pub kinds_fine : (kinds : List ℕ) → all_between 1 78 kinds ≡ true → Ok tt ≡ check_kinds kinds
kinds_fine kinds e = kinds_refused kinds None (outside_none 1 78 kinds e)
