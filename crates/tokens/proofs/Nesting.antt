-- The open brackets of a list, seen from a place inside it: token by token, and 32 tokens at a time.
-- Assumes nothing.
use Rattle.std.proofs.Common.{◌≡◌, ℕ, zero, suc, ◌+◌, ◌-◌, ◌*◌, ◌%◌, ◌≤◌, ◌<◌, true, List, [], ◌∷◌, ◌++◌, length, get_or, drop, Ok, Err, refl, sym, ap, ◌∙◌, arith, add-one, drop-cons, drop_of_length-le, append-nil, length-append}
use borrow.Author.Tests.{lt-ltb, le-ltb, leb-true}
use lib.Dec.{leb}
use Rattle.tokens.specs.Check.{nesting, depth_after, check_nesting, one_of, count, openings, closings, Counted}
use Rattle.tokens.specs.Kind as Kind
use Rattle.tokens.specs.declared.cause.Cause.{Cause}

-- before the place i never more than 64 brackets are open, and so many are open there
pub record Nested (xs : List ℕ) (depth i : ℕ) : Type 0 where
  pub inside : i ≤ length xs
  pub few : depth ≤ 64
  pub same : check_nesting xs ≡ nesting depth i (drop i xs)

module _ {xs : List ℕ} where
  pub nested_starts : Nested xs 0 0
  unfolding check_nesting
  nested_starts = record { inside = omega arith; few = omega arith; same = refl }

  pub nested_finds : {depth deeper i : ℕ} → Nested xs depth i → i < length xs → deeper ≡ depth_after depth (get_or xs i 0) → 64 < deeper → Err (Cause.Nesting i) ≡ check_nesting xs
  unfolding nesting
  nested_finds {i = i} p h e t = sym (p.same ∙ rw (drop-cons xs i 0 h, sym e, lt-ltb _ _ t))

  pub nested_passes : {depth deeper i : ℕ} → Nested xs depth i → i < length xs → deeper ≡ depth_after depth (get_or xs i 0) → deeper ≤ 64 → Nested xs deeper (i + 1)
  unfolding nesting
  nested_passes {i = i} p h e t = record { inside = omega arith; few = t; same = p.same ∙ rw (drop-cons xs i 0 h, sym e, le-ltb _ _ t, add-one i) }

  pub nested_ends : {depth i : ℕ} → Nested xs depth i → length xs ≤ i → Ok tt ≡ check_nesting xs
  unfolding nesting
  nested_ends p h = sym (p.same ∙ rw (drop_of_length-le xs h))

-- one token counts at most once, and n tokens at most n times
one_few : (k a b c : ℕ) → one_of k a b c ≤ 1
unfolding one_of
one_few k a b c = grind arith

count_few : (a b c n : ℕ) (ks : List ℕ) → count a b c n ks ≤ n
unfolding count
count_few a b c zero ks = omega arith
count_few a b c (suc n) [] = omega arith
count_few a b c (suc n) (k ∷ ks) = omega (arith, one_few k a b c, count_few a b c n ks)

pub count_none : (a b c : ℕ) (ks : List ℕ) → 0 ≡ count a b c 0 ks
unfolding count
count_none a b c ks = refl

-- one token more
pub count_more : (a b c n : ℕ) (ks : List ℕ) → n < length ks → count a b c (n + 1) ks ≡ count a b c n ks + one_of (get_or ks n 0) a b c
unfolding count
count_more a b c n [] h = absurd (omega arith)
count_more a b c zero (k ∷ ks) h = omega arith
count_more a b c (suc n) (k ∷ ks) h = let e = rw add-one at (count_more a b c n ks (omega arith)) in rw add-one (omega (arith, e))

pub count_fits : (a b c n : ℕ) (ks : List ℕ) → count a b c n ks + one_of (get_or ks n 0) a b c ≤ n + 1
count_fits a b c n ks = omega (arith, count_few a b c n ks, one_few (get_or ks n 0) a b c)

pub ruleset counts = (count_none, count_more, count_fits)

-- what a token does to the number of open brackets
depth_step : (depth k : ℕ) → depth_after depth k ≡ depth - one_of k Kind.RParen Kind.RBrack Kind.RCurly + one_of k Kind.LParen Kind.LBrack Kind.LCurly
unfolding depth_after one_of
depth_step depth k = grind arith

-- n tokens on, from a place where at most so many brackets are open and with so few openings that never more than 64 are
record Walked (depth most p n : ℕ) (ks rest : List ℕ) : Type 0 where
  after : ℕ
  few : after ≤ most - closings n ks + openings n ks
  same : nesting depth p (ks ++ rest) ≡ nesting after (p + n) rest

-- from the token after the first
walked_more : {depth most p n k : ℕ} {ks rest : List ℕ} → depth ≤ most → most + openings (suc n) (k ∷ ks) ≤ 64
    → Walked (depth_after depth k) (most - one_of k Kind.RParen Kind.RBrack Kind.RCurly + one_of k Kind.LParen Kind.LBrack Kind.LCurly) (suc p) n ks rest → Walked depth most p (suc n) (k ∷ ks) rest
unfolding count nesting
walked_more {depth} {most} {p} {n} {k} {ks} {rest} d h w =
    let e : suc p + n ≡ p + suc n = omega arith in
    record {
      after = w.after;
      few = omega (arith, w.few);
      same = rw (le-ltb 64 (depth_after depth k) (omega (arith, depth_step depth k))) (w.same ∙ ap (λ (i : ℕ). nesting w.after i rest) e);
    }

walked : (depth most p n : ℕ) (ks rest : List ℕ) → depth ≤ most → n ≡ length ks → most + openings n ks ≤ 64 → Walked depth most p n ks rest
unfolding count
walked depth most p zero [] rest d l h = record { after = depth; few = omega arith; same = let e : p + 0 ≡ p = omega arith in rw e }
walked depth most p (suc n) [] rest d l h = absurd (omega arith)
walked depth most p zero (k ∷ ks) rest d l h = absurd (omega arith)
walked depth most p (suc n) (k ∷ ks) rest d l h = walked_more d h (walked (depth_after depth k) (most - one_of k Kind.RParen Kind.RBrack Kind.RCurly + one_of k Kind.LParen Kind.LBrack Kind.LCurly) (suc p) n ks rest (omega (arith, depth_step depth k)) (omega arith) (omega arith))

-- before the rest of a list never more than 64 brackets are open, and at most so many are open there; what goes before is whole chunks
pub record Shallow (xs : List ℕ) (most size : ℕ) (rest : List ℕ) : Type 0 where
  pub sized : size ≡ 32
  pub chunks : ℕ
  pub whole : length rest + 32 * chunks ≡ length xs
  pub bound : most ≤ 64
  pub depth : ℕ
  pub place : ℕ
  pub few : depth ≤ most
  pub same : check_nesting xs ≡ nesting depth place rest

module _ {xs : List ℕ} where
  pub shallow_starts : {size : ℕ} {rest : List ℕ} → size ≡ 32 → rest ≡ xs → Shallow xs 0 size rest
  unfolding check_nesting
  shallow_starts s e = record { sized = s; chunks = 0; whole = omega (arith, ap length e); bound = omega arith; depth = 0; place = 0; few = omega arith; same = rw e }

  pub shallow_passes : {most more opened closed size same : ℕ} {rest chunk after : List ℕ} → Shallow xs most size rest → same ≡ size → rest ≡ chunk ++ after → length chunk ≡ size
      → Counted chunk opened closed → most + opened ≤ 64 → more ≡ most - closed + opened → Shallow xs more same after
  shallow_passes {most} {rest = rest} {chunk = chunk} {after = after} s z e l c h m =
      let w = walked s.depth most s.place 32 chunk after s.few (omega (arith, s.sized, l)) (omega (arith, c.opens)) in
      record {
        sized = z ∙ s.sized;
        chunks = s.chunks + 1;
        whole = omega (arith, s.whole, l, s.sized, ap length e, length-append chunk after);
        bound = omega (arith, s.bound, h, m);
        depth = w.after;
        place = s.place + 32;
        few = omega (arith, w.few, c, m);
        same = s.same ∙ rw e w.same;
      }

  -- the rest is too short to open so many
  pub shallow_ends : {most more size : ℕ} {rest : List ℕ} → Shallow xs most size rest → length rest < size → more ≡ length xs % 32 → leb (most + more) 64 ≡ true → Ok tt ≡ check_nesting xs
  unfolding nesting
  shallow_ends {most} {more} {rest = rest} s l e h =
      let w = walked s.depth most s.place (length rest) rest [] s.few refl (omega (arith, count_few Kind.LParen Kind.LBrack Kind.LCurly (length rest) rest, s.whole, s.sized, e, l, leb-true (most + more) 64 h)) in
      sym (s.same ∙ ap (λ (ks : List ℕ). nesting s.depth s.place ks) (sym (append-nil rest)) ∙ w.same)
