-- The entry, check by check.
-- Assumes nothing.
use Rattle.std.specs.Prelude.{Err, Ok}
use Prim.Native.Nat.{ℕ, ◌+◌, ◌-◌, ◌*◌, ◌/◌, ◌≤◌, ◌<◌}
use mathlib.Core.Path.{◌≡◌, refl, sym, ap, ◌∙◌}
use mathlib.Core.Bool.{Bool, true, false}
use mathlib.Core.List.{List, ◌++◌}
use native.Mathlib.Omega.{arith}
use borrow.Author.Rules.{rules}
use lib.ListN.{length, take, drop, replicate, take-append-drop}
use lib.Seq.{length-take-le, drop-drop, take_at}
use Rattle.tokens.specs.declared.cause.Cause.{Cause}
use Rattle.tokens.specs.declared.cause.Cause.TheVariants.{RecordRoom, Tree as NoTree, Outside}
use Rattle.tokens.specs.declared.cause.Answer.{Answer}
use Rattle.rows.specs.Tree.{Tree, one, size, sizes, flat, flats}
use Rattle.rows.specs.Record.{Record, record_words}
use Rattle.rows.specs.Part.{WellFormed}
use Rattle.rows.specs.Part.{Rooted, subtree}
use Rattle.rows.specs.Post.{Word, Cleared}
use Rattle.rows.specs.Part.{Decides}
use Rattle.trees.proofs.Whole.{subtree_in}
use Rattle.rows.proofs.Flat.{long}
use Rattle.rows.proofs.Records.{length_record_words}
use Rattle.conversion.specs.Conversion as def
use Rattle.conversion.specs.Conversion.{Outcome, turned, refused, convert}
use Rattle.targets.specs.Post.{Subtree, Filled, Room, RowConverted}
use Rattle.conversion.specs.Entry.{Result, holds, fails, Sized, unchanged, done, Entry, Answered}
use Rattle.targets.specs.Outcome.{Conversion}
use Rattle.conversion.proofs.Potentials.{potential_size, pays}
use Rattle.targets.specs.Outcome as outcome
use Rattle.targets.proofs.Looking.{reads_size}
use Rattle.targets.proofs.Judging.{found_turned, found_refused}

size_one : (t : Tree) → sizes (one t) ≡ size t
unfolding sizes
size_one t = search rules

flat_one : (t : Tree) → flats (one t) ≡ flat t
unfolding flats
flat_one t = search rules

-- the words of a part, between those before it and those after it
part_text : (w : List ℕ) (a c b : ℕ) (x : List ℕ) → a + c ≡ b → a ≤ length w → take c (drop a w) ≡ x → w ≡ take a w ++ (x ++ drop b w)
part_text w a c b x e h t =
    sym (take-append-drop a w)
    ∙ ap (λ (l : List ℕ). take a w ++ l)
    (sym (take-append-drop c (drop a w))
    ∙ ap (λ (l : List ℕ). l ++ drop c (drop a w)) t
    ∙ ap (λ (l : List ℕ). x ++ l) (drop-drop c a w ∙ ap (λ (n : ℕ). drop n w) e))

pub root_text : {w : List ℕ} {n : ℕ} (t : Tree) → Rooted w n t → (w ≡ take (6 * (n + 1 - size t)) w ++ (flat t ++ drop (6 * (n + 1)) w)) × (size t ≤ n + 1) × (6 * (n + 1) ≤ length w)
root_text {w} {n} t r =
    let p = r.part in
    let s = size_one t in
    let u = p.used in
    let i = p.inside in
    let low : size t ≤ n + 1 = omega arith in
    (part_text w (6 * (n + 1 - size t)) (6 * sizes (one t)) (6 * (n + 1)) (flat t) (omega arith) (omega arith) (p.text ∙ flat_one t), low, i)

-- the root of a tree in A's form is the root of a subtree
abbrev pub at_root : {w : List ℕ} {n : ℕ} (t : Tree) → Rooted w n t → Subtree w n
at_root {w} {n} t r =
    record {
      before = take (6 * (n + 1 - size t)) w;
      tree = t;
      after = drop (6 * (n + 1)) w;
      text = (root_text t r).0;
      place = let q = root_text t r in let e = length-take-le (6 * (n + 1 - size t)) w (omega arith) in omega arith;
    }

sized : (words : List ℕ) → (length words ≡ 0 → ⊥) → length words ≤ 12288 → Sized words
sized words some few = record { some = omega (arith, some); few = few }

pub enter_tree : {words r : List ℕ} {row : ℕ} {b : Bool} → (length words ≡ 0 → ⊥) → length words ≤ 12288 → Decides (WellFormed words) b → b ≡ false
    → Answered words r row (Answer.Refused (NoTree 0)) words r
enter_tree {words} some few d no_tree = record { is = holds (sized words some few) (fails (d.fails no_tree) refl) }

pub enter_outside : {words r : List ℕ} {row : ℕ} {b : Bool} → (length words ≡ 0 → ⊥) → length words ≤ 12288 → Decides (WellFormed words) b → b ≡ true
    → length words / 6 ≤ row → Answered words r row (Answer.Refused (Outside 0)) words r
enter_outside {words} some few d tree h =
    let w = d.holds tree in
    let n = long w in
    record { is = holds (sized words some few) (holds w (fails (λ lt. omega arith) refl)) }

same_result : {a b : Answer} {w v r s : List ℕ} → a ≡ b → w ≡ v → r ≡ s
    → ◌≡◌ {A = Result} (record { answer = a; words = w; records = r }) (record { answer = b; words = v; records = s })
same_result p q e = rw (p, q, e)

same_counts : {n m k l : ℕ} → n ≡ m → k ≡ l
    → ◌≡◌ {A = Answer} (Answer.Read (record { rows = n; records = k; abandoned = 0 })) (Answer.Read (record { rows = m; records = l; abandoned = 0 }))
same_counts p q = rw (p, q)

done_refused : (words r : List ℕ) (row : ℕ) (t : Tree) (cause : Cause) → convert t ≡ refused cause → done words r row t (convert t) ≡ unchanged words r row cause
unfolding done
done_refused words r row t cause f = search rules

done_turned : (words r : List ℕ) (row : ℕ) (t t' : Tree) (rs : List Record) → convert t ≡ turned t' rs
    → done words r row t (convert t)
    ≡ record {
      answer = Answer.Read (record { rows = size t; records = length rs; abandoned = 0 });
      words = take (6 * (row + 1 - size t)) words ++ (flat t' ++ drop (6 * (row + 1)) words);
      records = record_words rs ++ replicate (length r - 2 * length rs) 0;
    }
unfolding done
done_turned words r row t t' rs f = search rules

-- the words of the records, and 0 past them
cleared : (r r' : List ℕ) (rs : List Record) (n : ℕ) → Filled r 0 rs r' → n ≡ length rs → length r' ≡ length r
    → take (2 * n) r' ++ replicate (length r' - 2 * n) 0 ≡ record_words rs ++ replicate (length r - 2 * length rs) 0
cleared r r' rs n f l same =
    let t : take (2 * length rs) r' ≡ record_words rs = ap (take (2 * length rs)) f.text ∙ take_at (record_words rs) _ (2 * length rs) (length_record_words rs) in
    rw (l, same, t)

-- the checks 1, 13 and 14 are passed
pub record Passed (words : List ℕ) (row : ℕ) : Type 0 where
  pub sizes : Sized words
  pub whole : WellFormed words
  pub has_row : row < size whole.tree

pub passed : {words : List ℕ} {row : ℕ} {b : Bool} → (length words ≡ 0 → ⊥) → length words ≤ 12288 → Decides (WellFormed words) b → b ≡ true
    → row < length words / 6 → Passed words row
passed {words} some few d tree h =
    let w = d.holds tree in
    let n = long w in
    record { sizes = sized words some few; whole = w; has_row = omega arith }

module _ {words : List ℕ} {row : ℕ} (p : Passed words row) where
  abbrev pub there : Subtree words row
  there = at_root (subtree p.whole.tree row) (subtree_in p.whole p.has_row)

  module _ {x size' : ℕ} (s : Word words row 5 x) (e : size' ≡ x) where
    sizes_are : size' ≡ size (subtree p.whole.tree row)
    sizes_are = e ∙ reads_size there s

    pub enter_room : {r : List ℕ} → length r < 2 * size' → Answered words r row (Answer.Refused (RecordRoom 0)) words r
    enter_room h = let n = sizes_are in record { is = holds p.sizes (holds p.whole (holds p.has_row (fails (λ few. omega arith) refl))) }

    pub enter_ready : {room : ℕ} → 2 * size' ≤ room → Room words row room 0
    enter_ready h = let n = sizes_are in let f = potential_size (subtree p.whole.tree row) in record { rooted = there; room = omega arith }

    enough : {room : ℕ} → 2 * size' ≤ room → 2 * size (subtree p.whole.tree row) ≤ room
    enough h = let n = sizes_are in omega arith

    -- all checks are passed, and so it goes by what comes of the conversion
    by_outcome : {r : List ℕ} {x : Result} → 2 * size' ≤ length r → x ≡ done words r row (subtree p.whole.tree row) (convert (subtree p.whole.tree row))
        → Entry words r row x
    by_outcome h q = holds p.sizes (holds p.whole (holds p.has_row (holds (enough h) q)))

    module _ {r words' r' : List ℕ} {y : Conversion} (h : 2 * size' ≤ length r) (c : RowConverted words r row def.any 0 words' r' y) where
      -- what was found is what comes of it
      found_is : y ≡ outcome.found (convert (subtree p.whole.tree row))
      found_is = go (convert (subtree p.whole.tree row)) refl
        where
          go : (out : Outcome Tree) → convert (subtree p.whole.tree row) ≡ out → y ≡ outcome.found out
          go (turned t rs) f = (c.done there t rs f).0
          go (refused cause) f = (c.fail there cause f).0

      pub enter_refused : {cause : Cause} → y ≡ Err cause → Answered words r row (Answer.Refused cause) words' r'
      enter_refused {cause} q =
          let f = found_refused (convert (subtree p.whole.tree row)) cause (sym found_is ∙ q) in
          let m = c.fail there cause f in
          record { is = by_outcome h (same_result refl m.1 m.2 ∙ sym (done_refused words r row _ cause f)) }

      -- what was added, and that it is no more than there is room for
      pub enter_few : {n : ℕ} → y ≡ Ok n → 2 * n ≤ length r
      enter_few {n} q =
          let a = found_turned (convert (subtree p.whole.tree row)) n (sym found_is ∙ q) in
          omega (arith, a.3, (pays (subtree p.whole.tree row) def.any a.0 a.1 a.2).is, potential_size (subtree p.whole.tree row), enough h)

      pub enter_read : {n : ℕ} {r'' : List ℕ} → y ≡ Ok n → length r' ≡ length r → Cleared r' (2 * n) r''
          → Answered words r row (Answer.Read (record { rows = size'; records = n; abandoned = 0 })) words' r''
      enter_read {n} q same k =
          let a = found_turned (convert (subtree p.whole.tree row)) n (sym found_is ∙ q) in
          let m = (c.done there a.0 a.1 a.2).1 in
          let l = sym a.3 in
          record {
            is =
                by_outcome h
                (same_result (same_counts sizes_are l) m.text (k.text ∙ cleared r r' a.1 n m.filled l same) ∙ sym (done_turned words r row _ a.0 a.1 a.2));
          }
