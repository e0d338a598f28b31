-- `unary`, 13.5 and 13.4: prefix operators are skipped, the operand is read, an update may follow it, and the operators' rows are written.
-- Assumes nothing.
use Rattle.std.specs.Prelude.{Ok, Err}
use Prim.Native.Nat.{ℕ, ◌+◌, ◌*◌, ◌≤◌, ◌<◌}
use mathlib.Core.Path.{◌≡◌, refl, sym, ap, ◌∙◌}
use mathlib.Core.Bool.{true, false}
use mathlib.Core.List.{List, ◌++◌}
use native.Mathlib.Omega.{arith}
use lib.ListN.{length, get_or}
use Rattle.tokens.specs.declared.cause.Cause.{Cause}
use Rattle.rows.specs.Tree.{one}
use Rattle.rows.specs.Post.{Grown}
use Rattle.grammar.specs.Sheet.{Out}
use Rattle.grammar.specs.Job.{unary, postfix, left_hand_side}
use Rattle.grammar.specs.Update.{is_unary_operator, is_update_operator}
use Rattle.laws.proofs.Owed.{owed, oweds}
use Rattle.build.specs.Post.{Room, Comes, ReadTo, Met}
use Rattle.build.specs.Operation.{is_prefix_operator, OperandFits, MetPostfix, PostfixTo, PrefixFits, Before, MetPrefixes}
use Rattle.build.specs.declared.cursor.Cursor.{Cursor}
use Rattle.build.specs.Post.{Step}
use Rattle.build.proofs.Rules.{postfix_fails, unary_none}
use Rattle.build.proofs.Ends.{is_fail, moved}
use Rattle.build.proofs.Makes.{stands_now, made_over, unmade_past, unmade_over}
use Rattle.build.proofs.Steps.Prefixes.{prefix_stands, all_fail}
use Rattle.waiting.proofs.Root.{some_row}
use Rattle.parse.proofs.Steps.Left.{owed_one}
use Rattle.parse.proofs.Steps.Rest.{OneTo, one_to}
use Rattle.parse.proofs.Steps.Singles.{neither}

-- prefix operators stand from the first place up to here
pub record Skipped (ks : List ℕ) (first at : ℕ) : Type 0 where
  pub low : first ≤ at
  pub high : at ≤ length ks
  pub operators : (i : ℕ) → first ≤ i → i < at → is_prefix_operator (get_or ks i 0) ≡ true

pub skips_one : {ks : List ℕ} {first at k : ℕ} → Skipped ks first at → k ≡ get_or ks at 0 → true ≡ is_prefix_operator k → Skipped ks first (at + 1)
skips_one {ks} {first} {at} w k p =
    let here : is_prefix_operator (get_or ks at 0) ≡ true = ap is_prefix_operator (sym k) ∙ sym p in
    record {
      low = omega (arith, w);
      high = let s = prefix_stands ks at here in omega arith;
      operators = λ i a b. go i a b here (native.Mathlib.Decide.dec_lt i at);
    }
  where
    go : (i : ℕ) → first ≤ i → i < at + 1 → is_prefix_operator (get_or ks at 0) ≡ true → Dec (i < at) → is_prefix_operator (get_or ks i 0) ≡ true
    go i a b h (yes l) = w.operators i a l
    go i a b h (no l) = let e : i ≡ at = omega arith in rw e h

pub skips_inside : {ks : List ℕ} {first at k : ℕ} → Skipped ks first at → k ≡ get_or ks at 0 → true ≡ is_prefix_operator k → at < length ks
skips_inside {ks} {at = at} w k p = prefix_stands ks at (ap is_prefix_operator (sym k) ∙ sym p)

module _ {ks fs r₀ s₀ m₀ : List ℕ} {c : Cursor} {at k : ℕ} (room : Room ks r₀ s₀ c) (w : Skipped ks c.at at) (kind : k ≡ get_or ks at 0)
    (p : false ≡ is_prefix_operator k) where
  no_prefix : {out : Out (List ℕ)} → Comes ks fs (postfix at) m₀ out → Comes ks fs (unary at) m₀ out
  no_prefix h = let n = neither (is_unary_operator (get_or ks at 0)) (is_update_operator (get_or ks at 0)) (ap is_prefix_operator (sym kind) ∙ sym p) in unary_none n.0 n.1 h

  pub unary_operand_fails : {r s m : List ℕ} {cause : Cause} → Met ks fs r₀ s₀ m₀ r s m (left_hand_side at) c.rows c.records (Err cause)
      → Met ks fs r₀ s₀ m₀ r s m (unary c.at) c.rows c.records (Err cause)
  unary_operand_fails h = let f = h.fail_at _ refl in is_fail refl record { comes = all_fail c.at at w.low w.operators (no_prefix (postfix_fails f.comes)); unmade = f.unmade }

  module _ {r₁ s₁ m : List ℕ} {d : Cursor} (h : Met ks fs r₀ s₀ m₀ r₁ s₁ m (left_hand_side at) c.rows c.records (Ok d)) (l₁ : length r₁ ≡ length r₀)
      (l₂ : length s₁ ≡ length s₀) where
    pub got : OneTo ks fs r₀ s₀ m₀ r₁ s₁ m (left_hand_side at) c.rows c.records d (h.done_to d refl).trees
    got = one_to at (h.done_to d refl) refl

    stood : Grown r₁ c.rows r₁ d.rows (one got.tree)
    stood = stands_now (omega (arith, room)) got.made.grown

    deep_now : 2 * (d.records + owed got.tree) ≤ length s₁
    deep_now = let v = moved at (h.done_to d refl) refl in omega (arith, v, room, w, l₂, ap oweds got.alone, owed_one got.tree)

    pub operand_fits : OperandFits ks r₁ s₁ d c.rows
    operand_fits =
        let v = moved at (h.done_to d refl) refl in
        record {
          short = room.short;
          wide = omega (arith, room, l₁);
          inside = v.inside;
          few = omega (arith, v, room, w);
          some = some_row stood;
          operand = got.tree;
          stands = stood;
          deep = deep_now;
          records_small = omega (arith, v, room, w);
        }

    -- an update of what is no simple target
    pub unary_update_fails : {r s : List ℕ} {cause : Cause} → MetPostfix ks fs r₁ s₁ d at c.rows r s (Err cause)
        → Met ks fs r₀ s₀ m₀ r s m (unary c.at) c.rows c.records (Err cause)
    unary_update_fails a =
        let f = a.fail_at _ refl got.tree stood deep_now in
        is_fail refl record {
          comes = all_fail c.at at w.low w.operators (no_prefix (f.comes got.comes));
          unmade = rw (f.rows_same, f.records_same) (unmade_past (omega (arith, room)) (omega (arith, room)) got.made);
        }

    module _ {r₂ s₂ : List ℕ} {v : Cursor} (a : MetPostfix ks fs r₁ s₁ d at c.rows r₂ s₂ (Ok v)) (k₁ : length r₂ ≡ length r₁) (k₂ : length s₂ ≡ length s₁) where
      pub after : PostfixTo ks fs r₁ s₁ d at c.rows r₂ s₂ got.tree v
      after = a.done_to v refl got.tree stood deep_now

      -- the operand with its update, as a nonterminal that was read
      read : ReadTo ks fs r₀ s₀ m₀ r₂ s₂ m (postfix at) c.rows c.records v
      read =
          record {
            trees = one after.tree;
            records = got.records ++ after.records;
            comes = after.comes got.comes;
            made = made_over (omega (arith, room)) got.made after.made;
          }

      pub known : Before ks fs r₂ s₂ v at c.rows m₀ m (got.records ++ after.records)
      unfolding read
      known =
          let mv = moved at read refl in
          record {
            left = after.tree;
            stands = stands_now (omega (arith, room)) read.made.grown;
            deep = omega (arith, mv, room, w, owed_one after.tree, l₂, k₂);
            comes = no_prefix read.comes;
          }

      pub prefixes_fit : PrefixFits ks r₂ s₂ v c.at at c.rows
      unfolding read known
      prefixes_fit =
          let mv = moved at read refl in
          record {
            room = omega (arith, mv, room, w, l₁, k₁);
            rows_small = omega (arith, mv, room, w);
            place_small = omega (arith, mv, room);
            before = w.low;
            start_small = omega (arith, w, room);
            some = some_row (stands_now (omega (arith, room)) read.made.grown);
            operand = after.tree;
            stands = stands_now (omega (arith, room)) read.made.grown;
            deep = known.deep;
            records_small = omega (arith, mv, room, w, owed_one after.tree);
            operators = w.operators;
          }

      pub unary_ends : {r s : List ℕ} {z : Step} → MetPrefixes ks r₂ s₂ v c.at at c.rows r s z → Met ks fs r₀ s₀ m₀ r s m (unary c.at) c.rows c.records z
      unfolding read
      unary_ends f =
          record {
            done_to = λ t j.
                let o = f.done_to t j fs m₀ m _ known in
                record { trees = one o.tree; records = (got.records ++ after.records) ++ o.records; comes = o.comes; made = made_over (omega (arith, room)) read.made o.made };
            fail_at = λ cause j.
                let o = f.fail_at cause j fs m₀ m _ known in
                record { comes = o.comes; unmade = unmade_over (omega (arith, room)) (omega (arith, room)) read.made o.unmade };
          }
