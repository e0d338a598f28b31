-- Conversion of the tree that was read last: its rows stand from `from` up to n.
-- Assumes nothing.
use Rattle.std.specs.Prelude.{Ok, Err}
use Prim.Native.Nat.{ℕ, ◌+◌, ◌*◌, ◌≤◌}
use mathlib.Core.Path.{◌≡◌, refl, sym, ap, ◌∙◌}
use mathlib.Core.List.{List, ◌++◌, append-nil, append_assoc}
use native.Mathlib.Omega.{arith}
use lib.ListN.{length, take, drop, take-append-drop, length-append}
use lib.Seq.{length-take-le, take_at}
use Rattle.tokens.specs.declared.cause.Cause.{Cause}
use Rattle.rows.specs.Tree.{Tree, one, size, sizes, flat, flats}
use Rattle.rows.specs.Record.{Record, record_words}
use Rattle.rows.specs.Post.{Grown}
use Rattle.rows.proofs.Flat.{length_flat}
use Rattle.rows.proofs.Records.{length_record_words}
use Rattle.conversion.specs.Conversion.{Role, simple, Outcome, turned, refused, convert_as}
use Rattle.conversion.specs.Conversion.{potential}
use Rattle.targets.specs.Post as Targets
use Rattle.targets.specs.Outcome.{Conversion}
use Rattle.laws.proofs.Owed.{same_size, pays}
use Rattle.build.specs.Post.{cursor, Made}

pub flats_one : (t : Tree) → flats (one t) ≡ flat t
unfolding flats
flats_one t = append-nil (flat t)

pub sizes_one : (t : Tree) → sizes (one t) ≡ size t
unfolding sizes
sizes_one t = omega arith

-- the tree is a subtree of the words
abbrev pub rooted : {r : List ℕ} {from n root : ℕ} {t : Tree} → Grown r from r n (one t) → n ≡ root + 1 → 6 * n ≤ length r → Targets.Subtree r root
rooted {r} {from} {n} {root} {t} g e room =
    record {
      before = take (6 * from) r;
      tree = t;
      after = drop (6 * n) r;
      text =
          sym (take-append-drop (6 * n) r)
          ∙ ap (λ (l : List ℕ). l ++ drop (6 * n) r) (g.text ∙ ap (λ (l : List ℕ). take (6 * from) r ++ l) (flats_one t))
          ∙ append_assoc (take (6 * from) r) (flat t) (drop (6 * n) r);
      place = let u = g.used in let s = sizes_one t in let l = length-take-le (6 * from) r (omega (arith, u, s)) in omega (arith, u, s, l);
    }

-- what conversion made of it
pub record Turned (r₀ s₀ : List ℕ) (from n k : ℕ) (left : Tree) (role : Role) (count : ℕ) (r s : List ℕ) : Type 0 where
  pub target : Tree
  pub records : List Record
  pub converts : convert_as left role ≡ turned target records
  pub counted : count ≡ length records
  pub made : (at : ℕ) → Made r₀ s₀ from k r s (cursor at n (k + count)) (one target) records

pub record Unturned (r₀ s₀ : List ℕ) (left : Tree) (role : Role) (cause : Cause) (r s : List ℕ) : Type 0 where
  pub converts : convert_as left role ≡ refused cause
  pub rows_same : r ≡ r₀
  pub records_same : s ≡ s₀

module _ {r₀ s₀ r s : List ℕ} {from n root k : ℕ} {role : Role} {x : Conversion} (h : Targets.RowConverted r₀ s₀ root role k r s x) (left : Tree) (g : Grown r₀ from r₀ n (one left))
    (e : n ≡ root + 1) (room : 6 * n ≤ length r₀) (deep : 2 * (k + potential left) ≤ length s₀) where
  tree_made : (t : Tree) (records : List Record) → convert_as left role ≡ turned t records
      → Targets.Made (take (6 * from) r₀) (drop (6 * n) r₀) s₀ t k records r s → (at : ℕ) → Made r₀ s₀ from k r s (cursor at n (k + length records)) (one t) records
  tree_made t records c m at =
      let z : size t ≡ size left = same_size left role t records c in
      let u = g.used in
      let p = sizes_one left in
      let q = sizes_one t in
      let b = length-take-le (6 * from) r₀ (omega (arith, u, p)) in
      record {
        grown = record {
          used = omega (arith, u, p, q, z);
          text =
              ap (take (6 * n)) (m.text ∙ sym (append_assoc (take (6 * from) r₀) (flat t) (drop (6 * n) r₀)))
              ∙ take_at (take (6 * from) r₀ ++ flat t) (drop (6 * n) r₀) (6 * n) (length-append (take (6 * from) r₀) (flat t) ∙ omega (arith, b, length_flat t, u, p, z))
              ∙ ap (λ (l : List ℕ). take (6 * from) r₀ ++ l) (sym (flats_one t));
        };
        recorded = record {
          used = refl;
          text =
              ap (take (2 * (k + length records))) (m.filled.text ∙ sym (append_assoc (take (2 * k) s₀) (record_words records) (drop (2 * (k + length records)) s₀)))
              ∙ take_at (take (2 * k) s₀ ++ record_words records) (drop (2 * (k + length records)) s₀) (2 * (k + length records))
              (length-append (take (2 * k) s₀) (record_words records) ∙ omega (arith, length-take-le (2 * k) s₀ (omega (arith, deep)), length_record_words records));
        };
      }

  cases : {count : ℕ} → x ≡ Ok count → (o : Outcome Tree) → convert_as left role ≡ o → Turned r₀ s₀ from n k left role count r s
  cases {count} q (turned t records) c =
      let m = h.done (rooted g e room) t records c in
      let a : count ≡ length records = cc in
      record { target = t; records = records; converts = c; counted = a; made = λ at. rw a (tree_made t records c m.1 at) }
  cases q (refused cause) c = let m = h.fail (rooted g e room) cause c in absurd (cc)

  pub is_turned : {count : ℕ} → x ≡ Ok count → Turned r₀ s₀ from n k left role count r s
  is_turned q = cases q (convert_as left role) refl

  cases' : {cause : Cause} → x ≡ Err cause → (o : Outcome Tree) → convert_as left role ≡ o → Unturned r₀ s₀ left role cause r s
  cases' q (turned t records) c = let m = h.done (rooted g e room) t records c in absurd (cc)
  cases' q (refused other) c = let m = h.fail (rooted g e room) other c in record { converts = cc; rows_same = m.1; records_same = m.2 }

  pub is_refused : {cause : Cause} → x ≡ Err cause → Unturned r₀ s₀ left role cause r s
  is_refused q = cases' q (convert_as left role) refl

-- the records of a conversion are no more than what the tree owed
pub turned_few : {r₀ s₀ r s : List ℕ} {from n k count : ℕ} {left : Tree} → (t : Turned r₀ s₀ from n k left simple count r s) → count + potential t.target ≤ potential left
turned_few {left = left} t = let p = pays left simple t.target t.records t.converts in let c = t.counted in omega (arith, p, c)
