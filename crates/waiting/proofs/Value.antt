-- What comes of an AssignmentExpression, of its operands and operators, its arrow, its assignment and its Conditional: each way. For `start`, and for rows that wait.
-- Assumes nothing.
use Rattle.std.specs.Prelude.{if◌then◌else◌, Ok, Err}
use Prim.Native.Nat.{ℕ, ◌+◌, ◌-◌, ◌<◌, ◌*◌, ◌≤◌}
use mathlib.Core.Path.{◌≡◌, refl, sym, ap, subst, ◌∙◌}
use mathlib.Core.Bool.{Bool, true, false, not}
use mathlib.Core.List.{List, [], ◌++◌}
use native.Mathlib.Omega.{arith}
use lib.ListN.{length, get_or}
use borrow.Author.Tests.{eq-eqb, ne_eqb, lt-ltb, le-ltb}
use Rattle.tokens.specs.Bool.{◌and◌, ◌is◌}
use Rattle.tokens.specs.Kind.{Async, Arrow, Question, Eq}
use Rattle.tokens.specs.Token.{is_name}
use Rattle.tokens.specs.declared.cause.Cause.{Cause}
use Rattle.tokens.proofs.Stands.{stands_not}
use Rattle.rows.specs.Tree.{Tree, Forest, one, count, kind_of, node, nil, cons, size, join}
use Rattle.rows.specs.Record.{Record}
use Rattle.rows.specs.Post.{Grown, Word}
use Rattle.rows.proofs.Rows.{grown_leaf, kept_grown, kept_past, count_join}
use Rattle.grammar.specs.Sheet.{sheet_of, Out, done, leaf, first_tree, break_before, after_records, fail}
use Rattle.grammar.specs.Job.{Job, value, binary, assign, conditional, body, unary, assignment}
use Rattle.grammar.specs.Assignment.{is_assignment_operator, is_async_name}
use Rattle.laws.proofs.Good.{inside, and_right}
use Rattle.laws.proofs.Bounds.{alone, operation_one, operation_free, sizes_nil, sizes_cons, oweds_nil, oweds_cons, size_node, owed_node, lent_either}
use Rattle.build.specs.Post.{cursor, Room, Comes, Made, ReadTo, Met, MetAfter, Leafed, Operand, HeadFits, Topped, Said}
use Rattle.build.specs.declared.cursor.Cursor.{Cursor}
use Rattle.build.specs.Post.{Step}
use Rattle.build.proofs.Rules.{value_async, value_fails, value_arrow, value_assigns, value_chooses, value_stops, binary_fails, binary_more, operators_end, operators_fail, operators_more, body_curly, body_fails, body_done, assign_refused, assign_fails, assign_done, conditional_fails, conditional_no_colon, conditional_fails_after, conditional_done}
use Rattle.build.proofs.Ends.{is_done, is_fail, moved, single}
use Rattle.build.proofs.Makes.{stands_now, made_leaf, made_over, unmade_over, made_then, unmade_after, stands_made, unmade_past, count_one, is_topped, unmade_none}
use Rattle.rows.specs.Row as Row
use Rattle.roles.specs.Meaning as means
use Rattle.targets.specs.Post as Targets
use Rattle.waiting.proofs.Root.{some_row, root_kind}
use Rattle.waiting.proofs.Shared.{after_none, comes_to, comes_as, after_after, after_done}
use lib.Dec.{ltb}
use Rattle.operators.specs.Precedence.{level, expression_level}
use Rattle.grammar.specs.Binary.{operation_kind, right_floor, operation_records}
use Rattle.build.specs.Operation.{Finished}
use Rattle.waiting.specs.Waiting.{Grouped, Breaks, broken, kind_for}
use Rattle.rows.proofs.Records.{grown_records_none, grown_record}
use Rattle.heads.specs.declared.Head.{Head}
use Rattle.conversion.specs.Conversion.{Role, any, simple}
use Rattle.targets.specs.Outcome.{Conversion}
use Rattle.laws.proofs.Owed.{pays}
use Rattle.build.proofs.Converts.{rooted, Turned, is_turned, is_refused}

-- OPERANDS AND OPERATORS (13.6 to 13.13), from an operand or a row over operands on
-- an operator stands before the end
pub operator_stands : (ks : List ℕ) {at operator above floor : ℕ} → operator ≡ get_or ks at 0 → above ≡ expression_level operator → floor < above → at < length ks
unfolding expression_level level
operator_stands ks {at} t l lt = stands_not ks at (λ z. let e : expression_level (get_or ks at 0) ≡ 0 = ap expression_level z in let f = l ∙ ap expression_level t ∙ e in omega arith)

-- one tree has a row at least
tall : (t : Tree) → 1 ≤ size t
tall (node kind mark first end kids) = omega (arith, size_node kind mark first end kids)

-- an operand that was read has a row
pub operand_rows : {ks fs r₀ s₀ m₀ r s m : List ℕ} {floor at n k : ℕ} {d : Cursor} → ReadTo ks fs r₀ s₀ m₀ r s m (binary floor at) n k d → n < d.rows
operand_rows g = omega (arith, alone (single _ g refl), tall (first_tree g.trees), g.made.grown.used)

module _ {ks fs r₀ s₀ m₀ : List ℕ} {c : Cursor} {floor : ℕ} (room : Room ks r₀ s₀ c) where
  pub binary_refuses : {r s m : List ℕ} {x : Step} {p : Cause} → Met ks fs r₀ s₀ m₀ r s m (unary c.at) c.rows c.records x → x ≡ Err p
      → Met ks fs r₀ s₀ m₀ r s m (binary floor c.at) c.rows c.records x
  binary_refuses h e = let f = h.fail_at _ e in is_fail e record { comes = binary_fails f.comes; unmade = f.unmade }

  -- an operand that was read, with the operators that follow it
  pub binary_grouped : {r s m : List ℕ} {x : Step} {d : Cursor} → Met ks fs r₀ s₀ m₀ r s m (unary c.at) c.rows c.records x → x ≡ Ok d
      → Grouped ks fs r₀ s₀ m₀ floor c.at c.rows c.records r s m d d.at
  binary_grouped {r} {s} {m} {d = d} h e =
      let a = h.done_to _ e in
      let w = moved _ a refl in
      let t = first_tree a.trees in
      let lone : a.trees ≡ one t = single _ a refl in
      let weighs = alone lone in
      record {
        wide = omega (arith, room);
        deep = omega (arith, room);
        place = refl;
        forward = w.forward;
        inside = w.inside;
        some = omega (arith, weighs, tall t, a.made.grown.used);
        few = w.few;
        tree = t;
        said = a.records;
        few_records = omega (arith, w, weighs);
        made = subst (λ (f : Forest). Made r₀ s₀ c.rows c.records r s d f a.records) lone a.made;
        rest = λ out f. binary_more (subst (λ (q : Forest). Comes ks fs (unary c.at) m₀ (done d.at q a.records m)) lone a.comes) f;
      }

module _ {ks fs r₀ s₀ m₀ : List ℕ} {floor first n k₀ : ℕ} {r₁ s₁ m₁ : List ℕ} {here : Cursor} {at operator above : ℕ}
    (w : Grouped ks fs r₀ s₀ m₀ floor first n k₀ r₁ s₁ m₁ here at) (t : operator ≡ get_or ks at 0) (l : above ≡ expression_level operator) where
  pub binary_ends : above ≤ floor → Met ks fs r₀ s₀ m₀ r₁ s₁ m₁ (binary floor first) n k₀ (Ok here)
  binary_ends le =
      let e : ltb floor (expression_level (get_or ks at 0)) ≡ false = le-ltb _ _ (subst (λ (i : ℕ). i ≤ floor) (l ∙ ap expression_level t) le) in
      let h = comes_to (w.rest _ (operators_end e)) (after_done w.said _ _ _) in
      is_done refl record {
        trees = one w.tree;
        records = w.said;
        comes = subst (λ (i : ℕ). Comes ks fs (binary floor first) m₀ (done i (one w.tree) w.said m₁)) w.place h;
        made = w.made;
      }

  module _ {next : ℕ} {r s m : List ℕ} {x : Step} (lt : floor < above) (f : next ≡ right_floor operator)
      (h : Met ks fs r₁ s₁ m₁ r s m (binary next (at + 1)) here.rows here.records x) where
    level_goes_on : ltb floor (expression_level (get_or ks at 0)) ≡ true
    level_goes_on = lt-ltb _ _ (subst (λ (i : ℕ). floor < i) (l ∙ ap expression_level t) lt)

    next_is : next ≡ right_floor (get_or ks at 0)
    next_is = f ∙ ap right_floor t

    pub binary_stops : {p : Cause} → x ≡ Err p → Met ks fs r₀ s₀ m₀ r s m (binary floor first) n k₀ x
    unfolding after_records
    binary_stops {p} e =
        let g = h.fail_at _ e in
        is_fail e record {
          comes = w.rest _ (operators_fail (operator_stands ks t l lt) level_goes_on (subst (λ (i : ℕ). Comes ks fs (binary i (at + 1)) m₁ (fail p m)) next_is g.comes));
          unmade = unmade_after w.wide w.deep w.made g.unmade;
        }

    pub binary_operates : {r' s' : List ℕ} {d u : Cursor} → x ≡ Ok d → 6 * here.rows ≤ length r₁ → Finished ks r s d at first here.rows n r' s' u
        → Grouped ks fs r₀ s₀ m₀ floor first n k₀ r' s' m u d.at
    binary_operates {r'} {s'} {d} {u} e fits fin =
        let g = h.done_to _ e in
        let move = moved _ g refl in
        let b = first_tree g.trees in
        let lone : g.trees ≡ one b = single _ g refl in
        let a = w.tree in
        let weighs = alone lone in
        let right : Made r₁ s₁ here.rows here.records r s d (one b) g.records =
        subst (λ (q : Forest). Made r₁ s₁ here.rows here.records r s d q g.records) lone g.made in
        let left_stands : Grown r₀ n r here.rows (one a) = record { used = w.made.grown.used; text = (kept_past fits g.made.grown).text ∙ w.made.grown.text } in
        let ops = operation_records (sheet_of ks fs) at a b in
        let kind = operation_kind (get_or ks at 0) in
        let top : Made r s n d.records r' s' u (one (node kind at first d.at (cons a (one b)))) ops = fin.made fs a b (stands_now w.wide left_stands) (stands_now fits right.grown) in
        let rows = top.grown.used in
        let records = top.recorded.used in
        let size_one = sizes_cons (node kind at first d.at (cons a (one b))) nil in
        let size_all = size_node kind at first d.at (cons a (one b)) in
        let sizes_all = sizes_cons a (one b) in
        let sizes_right = sizes_cons b nil in
        let owe = owed_node kind at first d.at (cons a (one b)) in
        let owe_all = oweds_cons a (one b) in
        let owe_right = oweds_cons b nil in
        record {
          wide = w.wide;
          deep = w.deep;
          place = sym fin.place;
          forward = omega (arith, w, move);
          inside = move.inside;
          some = omega (arith, rows, size_one, size_all, sizes_all, sizes_right, sizes_nil);
          few = omega (arith, w.few, w.made.grown.used, right.grown.used, sizes_cons a nil, move, rows, size_one, size_all, sizes_all, sizes_right, sizes_nil);
          tree = node kind at first d.at (cons a (one b));
          said = (w.said ++ g.records) ++ ops;
          few_records = omega (arith, w.few_records, move, weighs, records, owe, owe_all, owe_right, oweds_nil, operation_free (get_or ks at 0), operation_one (sheet_of ks fs) at a b);
          made = made_over w.wide (made_then w.made right) top;
          rest = λ out j.
              let right_comes = subst (λ (q : Forest). Comes ks fs (binary (right_floor (get_or ks at 0)) (at + 1)) m₁ (done d.at q g.records m)) lone
              (subst (λ (i : ℕ). Comes ks fs (binary i (at + 1)) m₁ (done d.at g.trees g.records m)) next_is g.comes) in
              comes_to (w.rest _ (operators_more (operator_stands ks t l lt) level_goes_on right_comes j))
              (after_after w.said g.records (after_records ops out) ∙ after_after (w.said ++ g.records) ops out);
        }

-- AN ARROW (15.3 and 15.9), from its `=>` on
module _ {fs s₀ s : List ℕ} {c d : Cursor} {y : ℕ} where
  pub breaks : {s' : List ℕ} {d' : Cursor} → y ≡ get_or fs c.at 0 → y ≡ 1 → Said s₀ (cursor (c.at + 1) c.rows c.records) 1 c.at s' d' → length s' ≡ length s₀ → s ≡ s' → d ≡ d' → Breaks fs s₀ c s d
  breaks k t h l p q =
      let e : get_or fs c.at 0 ≡ 1 = sym k ∙ t in
      let w = q ∙ h.is in
      record {
        at = ap (λ (x : Cursor). x.at) w;
        rows = ap (λ (x : Cursor). x.rows) w;
        few = let z = ap (λ (x : Cursor). x.records) w in omega arith;
        long = ap length p ∙ l;
        said = rw (e, w, p) (grown_record h.pushed);
      }

  pub no_break : y ≡ get_or fs c.at 0 → (y ≡ 1 → ⊥) → s ≡ s₀ → d ≡ cursor (c.at + 1) c.rows c.records → Breaks fs s₀ c s d
  no_break k t p w =
      record {
        at = ap (λ (x : Cursor). x.at) w;
        rows = ap (λ (x : Cursor). x.rows) w;
        few = let z = ap (λ (x : Cursor). x.records) w in omega arith;
        long = ap length p;
        said = rw (ne_eqb _ _ (λ q. t (k ∙ q)), w, p) (grown_records_none s₀ c.records);
      }

before : {fs r₀ s₀ s₁ : List ℕ} {c d : Cursor} {from : ℕ} {trees : Forest} → Breaks fs s₀ c s₁ d → Grown r₀ from r₀ c.rows trees
    → Made r₀ s₀ from c.records r₀ s₁ d trees (broken fs c.at)
before {r₀ = r₀} {from = from} {trees} b g = record { grown = subst (λ (x : ℕ). Grown r₀ from r₀ x trees) (sym b.rows) g; recorded = b.said }

module _ {ks fs r₀ s₀ m₀ : List ℕ} {c : Cursor} {h : Head} (room : Room ks r₀ s₀ c) (fits : HeadFits ks c h) where
  pub body_curlies : {y : ℕ} → y ≡ get_or ks (c.at + 1) 0 → y ≡ 22
      → MetAfter ks fs r₀ s₀ m₀ r₀ s₀ m₀ (body h.kind h.first c.at) h.from c.rows h.kids c.records (Err (Cause.Unexpected (c.at + 1)))
  body_curlies k t =
      record {
        over_all = λ trees number g.
            is_fail refl record { comes = body_curly (sym k ∙ t); unmade = unmade_past (omega (arith, room, fits)) (omega (arith, room)) (stands_made c g) };
      }

  module _ {y : ℕ} {s₁ : List ℕ} {d : Cursor} (k : y ≡ get_or ks (c.at + 1) 0) (t : y ≡ 22 → ⊥) (b : Breaks fs s₀ c s₁ d) where
    pub body_refused : {r s m : List ℕ} {x : Step} {p : Cause} → Met ks fs r₀ s₁ m₀ r s m (assignment d.at) d.rows d.records x → x ≡ Err p
        → MetAfter ks fs r₀ s₀ m₀ r s m (body h.kind h.first c.at) h.from c.rows h.kids c.records x
    body_refused a e =
        record {
          over_all = λ trees number g.
              let f = a.fail_at _ e in
              is_fail e record {
                comes = body_fails fits.arrow (λ q. t (k ∙ q)) (comes_as f.comes (ap assignment b.at));
                unmade = unmade_after (omega (arith, room, fits)) (omega (arith, room)) (before b g) f.unmade;
              };
        }

    pub body_dones : {r₁ r s m : List ℕ} {x : Step} {e u : Cursor} → Met ks fs r₀ s₁ m₀ r₁ s m (assignment d.at) d.rows d.records x → x ≡ Ok e
        → Topped r₁ e h.kind c.at h.first e.at (h.kids + 1) h.from r u
        → MetAfter ks fs r₀ s₀ m₀ r s m (body h.kind h.first c.at) h.from c.rows h.kids c.records (Ok u)
    body_dones a q top =
        record {
          over_all = λ trees number g.
              let f = a.done_to _ q in
              let one_f = count_one _ _ (single _ f refl) in
              is_topped top (body_done fits.arrow (λ z. t (k ∙ z)) (comes_as f.comes (ap assignment b.at))) (made_then (before b g) f.made)
              (omega (arith, number, one_f, count_join trees f.trees));
        }

-- AN ASSIGNMENT (13.15), from its operator on
-- what `=` and the other operators convert to
abbrev role_of : Bool → Role
role_of plain = if plain then any else simple

aimed : (plain : Bool) → means.aim (not plain) ≡ role_of plain
aimed true = refl
aimed false = refl

-- room for the conversion
pub assigned_room : {ks r s : List ℕ} {c : Cursor} {first from root : ℕ} → Room ks r s c → Operand ks r c first from → c.rows ≡ root + 1 → Targets.Room r root (length s) c.records
assigned_room room o n = record { rooted = rooted o.stands n (omega (arith, room)); room = omega (arith, room, o.few_records) }

module _ {ks r₀ s₀ : List ℕ} {c : Cursor} {first from root y : ℕ} (room : Room ks r₀ s₀ c) (o : Operand ks r₀ c first from) (k : y ≡ get_or ks c.at 0) (n : c.rows ≡ root + 1)
    {r₁ s₁ : List ℕ} {z : Conversion} (h : Targets.RowConverted r₀ s₀ root (means.aim (not (y is Eq))) c.records r₁ s₁ z) where
  converted : Targets.RowConverted r₀ s₀ root (role_of (get_or ks c.at 0 is Eq)) c.records r₁ s₁ z
  converted = subst (λ (p : Role). Targets.RowConverted r₀ s₀ root p c.records r₁ s₁ z) (aimed (y is Eq) ∙ ap (λ (i : ℕ). role_of (i is Eq)) k) h

  target : {counted : ℕ} → z ≡ Ok counted → Turned r₀ s₀ from c.rows c.records o.left (role_of (get_or ks c.at 0 is Eq)) counted r₁ s₁
  target e = is_turned converted o.left o.stands n (omega (arith, room)) (omega (arith, room, o.few_records)) e

  -- its records are no more than it owed
  pub assigned_few : {counted : ℕ} → z ≡ Ok counted → c.records + counted ≤ c.at
  assigned_few e =
      let t = target e in
      omega (arith, t.counted, pays o.left (role_of (get_or ks c.at 0 is Eq)) t.target t.records t.converts, lent_either (get_or ks c.at 0 is Eq), o.few_records)

  module _ {fs m₀ : List ℕ} where
    pub assigned_refuses : {cause : Cause} → z ≡ Err cause → Met ks fs r₀ s₀ m₀ r₁ s₁ m₀ (assign first c.at o.left) from c.records (Err cause)
    assigned_refuses e =
        let u = is_refused converted o.left o.stands n (omega (arith, room)) (omega (arith, room, o.few_records)) e in
        is_fail refl record { comes = assign_refused u.converts; unmade = rw (u.rows_same, u.records_same) unmade_none }

    module _ {counted : ℕ} {r s m : List ℕ} {x : Step} (e : z ≡ Ok counted) (a : Met ks fs r₁ s₁ m₀ r s m (assignment (c.at + 1)) c.rows (c.records + counted) x) where
      pub assigned_fails : {p : Cause} → x ≡ Err p → Met ks fs r₀ s₀ m₀ r s m (assign first c.at o.left) from c.records x
      assigned_fails q =
          let t = target e in
          let f = a.fail_at _ q in
          is_fail q record {
            comes = assign_fails o.next t.converts f.comes;
            unmade = unmade_after (omega (arith, room, o)) (omega (arith, room)) (t.made 0) f.unmade;
          }

      pub assigned_done : {r' : List ℕ} {d u : Cursor} {kind : ℕ} → x ≡ Ok d → kind ≡ kind_for (y is Eq) → Topped r d kind c.at first d.at 2 from r' u
          → Met ks fs r₀ s₀ m₀ r' s m (assign first c.at o.left) from c.records (Ok u)
      unfolding count
      assigned_done {r'} {d} {u} q w top =
          let t = target e in
          let g = a.done_to _ q in
          let row = subst (λ (i : ℕ). Topped r d i c.at first d.at 2 from r' u) (w ∙ ap (λ (i : ℕ). kind_for (i is Eq)) k) top in
          is_topped row (assign_done o.next t.converts g.comes) (made_then (t.made 0) g.made)
          (omega (arith, count_join (one t.target) g.trees, count_one _ _ (single _ g refl)))

-- A CONDITIONAL (13.14), from its `?` on
module _ {ks fs r₀ s₀ m₀ : List ℕ} {c : Cursor} {first from : ℕ} (room : Room ks r₀ s₀ c) (o : Operand ks r₀ c first from)
    {r₁ s₁ m₁ : List ℕ} {x : Step} (h : Met ks fs r₀ s₀ m₀ r₁ s₁ m₁ (assignment (c.at + 1)) c.rows c.records x) where
  pub choice_fails : {p : Cause} → x ≡ Err p → Met ks fs r₀ s₀ m₀ r₁ s₁ m₁ (conditional first c.at o.left) from c.records x
  choice_fails e =
      let f = h.fail_at _ e in
      is_fail e record { comes = conditional_fails o.next f.comes; unmade = unmade_after (omega (arith, room, o)) (omega (arith, room)) (stands_made c o.stands) f.unmade }

  module _ {d : Cursor} {y : ℕ} (e : x ≡ Ok d) (k : y ≡ get_or ks d.at 0) where
    pub choice_opens : (y ≡ 25 → ⊥) → Met ks fs r₀ s₀ m₀ r₁ s₁ m₁ (conditional first c.at o.left) from c.records (Err (Cause.Unexpected d.at))
    choice_opens t =
        let a = h.done_to _ e in
        is_fail refl record {
          comes = conditional_no_colon o.next a.comes (λ q. t (k ∙ q));
          unmade = unmade_past (omega (arith, room, o)) (omega (arith, room)) (made_then (stands_made c o.stands) a.made);
        }

    module _ {r s m : List ℕ} {z : Step} (t : y ≡ 25) (h' : Met ks fs r₁ s₁ m₁ r s m (assignment (d.at + 1)) d.rows d.records z) where
      pub choice_fails_after : {p : Cause} → z ≡ Err p → Met ks fs r₀ s₀ m₀ r s m (conditional first c.at o.left) from c.records z
      choice_fails_after e' =
          let a = h.done_to _ e in
          let f = h'.fail_at _ e' in
          is_fail e' record {
            comes = conditional_fails_after o.next a.comes (sym k ∙ t) f.comes;
            unmade = unmade_after (omega (arith, room, o)) (omega (arith, room)) (made_then (stands_made c o.stands) a.made) f.unmade;
          }

      pub choice_done : {r' : List ℕ} {g u : Cursor} → z ≡ Ok g → Topped r g Row.Conditional c.at first g.at 3 from r' u
          → Met ks fs r₀ s₀ m₀ r' s m (conditional first c.at o.left) from c.records (Ok u)
      unfolding join count
      choice_done e' top =
          let a = h.done_to _ e in
          let b = h'.done_to _ e' in
          is_topped top (conditional_done o.next a.comes (sym k ∙ t) b.comes) (made_then (made_then (stands_made c o.stands) a.made) b.made)
          (omega (arith, count_one _ _ (single _ a refl), count_one _ _ (single _ b refl), count_join a.trees b.trees))

-- AN ASSIGNMENTEXPRESSION PAST A HEAD (13.15), from its binary level on
-- an async arrow of one name: its `=>` stands
pub async_stands : (ks fs : List ℕ) (at : ℕ) {b : Bool} → b ≡ is_async_name (sheet_of ks fs) at → b ≡ true → at + 2 < length ks
unfolding is_async_name
async_stands ks fs at i j =
    inside (sheet_of ks fs) (at + 2) (λ k. k is Arrow) refl
    (and_right (not (break_before (sheet_of ks fs) (at + 1))) _ (and_right (is_name (get_or ks (at + 1) 0)) _ (and_right (get_or ks at 0 is Async) _ (sym i ∙ j))))

-- an assignment operator stands
pub assignment_stands : (ks : List ℕ) (at : ℕ) {y : ℕ} {b : Bool} → y ≡ get_or ks at 0 → b ≡ is_assignment_operator y → b ≡ true → at < length ks
unfolding is_assignment_operator
assignment_stands ks at k i j = inside (sheet_of ks []) at is_assignment_operator refl (ap is_assignment_operator (sym k) ∙ sym i ∙ j)

and_no : (a b : Bool) → b ≡ false → a and b ≡ false
and_no true b e = e
and_no false b e = refl

no_and : (a b : Bool) → a ≡ false → a and b ≡ false
no_and true b e = absurd (cc)
no_and false b e = refl

no_assignment : {y : ℕ} → y ≡ Arrow → is_assignment_operator y ≡ false
unfolding is_assignment_operator
no_assignment e = rw e

module _ {ks fs r₀ s₀ m₀ : List ℕ} {c : Cursor} (room : Room ks r₀ s₀ c) where
  -- over what was made
  pub goes_on : {r₁ s₁ m₁ r s m : List ℕ} {x : Step} {job job' : Job} {d : Cursor} {ts : Forest} {rs : List Record}
      → ((out : Out (List ℕ)) → Comes ks fs job' m₁ out → Comes ks fs job m₀ (after_records rs out))
      → Made r₀ s₀ c.rows c.records r₁ s₁ d ts rs → Met ks fs r₁ s₁ m₁ r s m job' c.rows d.records x
      → Met ks fs r₀ s₀ m₀ r s m job c.rows c.records x
  unfolding after_records
  goes_on {rs = rs} rule a f =
      record {
        done_to = λ u w. let t = f.done_to u w in
            record { trees = t.trees; records = rs ++ t.records; comes = rule _ t.comes; made = made_over (omega (arith, room)) a t.made };
        fail_at = λ p w. let t = f.fail_at p w in
            record { comes = rule _ t.comes; unmade = unmade_over (omega (arith, room)) (omega (arith, room)) a t.unmade };
      }

  pub value_asyncs : {r₁ r s m : List ℕ} {x : Step} {b : Bool} {d : Cursor} → b ≡ is_async_name (sheet_of ks fs) c.at → b ≡ true
      → Leafed r₀ (cursor (c.at + 1) c.rows c.records) Row.BindingName r₁ d
      → MetAfter ks fs r₁ s₀ m₀ r s m (body Row.AsyncArrow c.at d.at) c.rows d.rows 1 d.records x
      → Met ks fs r₀ s₀ m₀ r s m (value c.at) c.rows c.records x
  unfolding count
  value_asyncs {r₁} {d = d} i j top a =
      let name = leaf Row.BindingName (c.at + 1) in
      let made : Made r₀ s₀ c.rows c.records r₁ s₀ d (one name) [] = made_leaf top in
      let place : d.at ≡ c.at + 2 = ap (λ (z : Cursor). z.at) top.is ∙ omega arith in
      goes_on
      (λ out h. after_nothing (value_async (sym i ∙ j) (comes_as h (ap (λ (p : ℕ). body Row.AsyncArrow c.at p (one name)) place)))) made
      (a.over_all (one name) refl (stands_now (omega (arith, room)) made.grown))
    where
      after_nothing : {job : Job} {out : Out (List ℕ)} → Comes ks fs job m₀ out → Comes ks fs job m₀ (after_records [] out)
      after_nothing {job} {out} h = comes_to h (sym (after_none out))

  module _ {b : Bool} {r₁ s₁ m₁ : List ℕ} {x : Step} (i : b ≡ is_async_name (sheet_of ks fs) c.at) (j : b ≡ false)
      (a : Met ks fs r₀ s₀ m₀ r₁ s₁ m₁ (binary 0 c.at) c.rows c.records x) where
    pub value_refuses : {p : Cause} → x ≡ Err p → Met ks fs r₀ s₀ m₀ r₁ s₁ m₁ (value c.at) c.rows c.records x
    value_refuses e = let f = a.fail_at _ e in is_fail e record { comes = value_fails (sym i ∙ j) f.comes; unmade = f.unmade }

    module _ {d : Cursor} {y : ℕ} (q : x ≡ Ok d) (k : y ≡ get_or ks d.at 0) where
      abbrev g : ReadTo ks fs r₀ s₀ m₀ r₁ s₁ m₁ (binary 0 c.at) c.rows c.records d
      g = a.done_to d q

      abbrev left : Tree
      left = first_tree g.trees

      read_left : Comes ks fs (binary 0 c.at) m₀ (done d.at (one left) g.records m₁)
      read_left = subst (λ (f : Forest). Comes ks fs (binary 0 c.at) m₀ (done d.at f g.records m₁)) (single _ g refl) g.comes

      made_left : Made r₀ s₀ c.rows c.records r₁ s₁ d (one left) g.records
      made_left = subst (λ (f : Forest). Made r₀ s₀ c.rows c.records r₁ s₁ d f g.records) (single _ g refl) g.made

      pub stands_left : Grown r₁ c.rows r₁ d.rows (one left)
      stands_left = stands_now (omega (arith, room)) made_left.grown

      -- one row at least was read
      pub value_some : c.rows < d.rows
      value_some = some_row made_left.grown

      abbrev pub value_operand : d.at < length ks → Operand ks r₁ d c.at c.rows
      value_operand next =
          let w = moved _ g refl in
          record {
            next = next;
            began = omega (arith, w);
            some = value_some;
            left = left;
            stands = stands_left;
            few_rows = omega (arith, w);
            few_records = omega (arith, w, alone (single _ g refl), room);
          }

      -- a lone Identifier and `=>`: a row of the name is written over it
      pub value_arrows : {r₂ r s m : List ℕ} {v : Step} {z : ℕ} {e : Cursor} → y ≡ Arrow → Word r₁ (d.rows - 1) 0 z → z ≡ Row.Identifier
          → Leafed r₁ (cursor c.at c.rows d.records) Row.BindingName r₂ e
          → MetAfter ks fs r₂ s₁ m₁ r s m (body Row.Arrow c.at d.at) c.rows e.rows 1 e.records v
          → Met ks fs r₀ s₀ m₀ r s m (value c.at) c.rows c.records v
      unfolding count
      value_arrows {r₂} {e = e} t w h top f =
          let name = leaf Row.BindingName c.at in
          let kind = sym (root_kind (omega (arith, room)) made_left.grown w) ∙ h in
          let made : Made r₀ s₀ c.rows c.records r₂ s₁ e (one name) g.records =
          rw top.is record { grown = kept_grown (kept_past (omega (arith, room)) g.made.grown) (grown_leaf top.pushed); recorded = g.made.recorded } in
          goes_on (λ out u. value_arrow (sym i ∙ j) read_left (eq-eqb _ _ kind) (sym k ∙ t) u) made (f.over_all (one name) refl (stands_now (omega (arith, room)) made.grown))

      -- `=>` after what is no Identifier
      pub value_stays : {z : ℕ} → y ≡ Arrow → Word r₁ (d.rows - 1) 0 z → (z ≡ Row.Identifier → ⊥) → Met ks fs r₀ s₀ m₀ r₁ s₁ m₁ (value c.at) c.rows c.records (Ok d)
      value_stays t w h =
          let kind = root_kind (omega (arith, room)) made_left.grown w in
          is_done refl record {
            trees = one left;
            records = g.records;
            comes =
                value_stops (sym i ∙ j) read_left (no_and (kind_of left is Row.Identifier) (get_or ks d.at 0 is Arrow) (ne_eqb _ _ (λ u. h (kind ∙ u)))) (no_assignment (sym k ∙ t))
                (λ u. let z : ◌≡◌ {A = ℕ} Arrow Question = sym t ∙ k ∙ u in omega arith);
            made = made_left;
          }

      module _ (t : y ≡ Arrow → ⊥) where
        no_arrow : (kind_of left is Row.Identifier and get_or ks d.at 0 is Arrow) ≡ false
        no_arrow = and_no (kind_of left is Row.Identifier) (get_or ks d.at 0 is Arrow) (ne_eqb _ _ (λ u. t (k ∙ u)))

        module _ {o : Bool} (l : o ≡ is_assignment_operator y) where
          operator : {v : Bool} → o ≡ v → is_assignment_operator (get_or ks d.at 0) ≡ v
          operator e = ap is_assignment_operator (sym k) ∙ sym l ∙ e

          pub value_assigned : {r s m : List ℕ} {v : Step} → o ≡ true → Met ks fs r₁ s₁ m₁ r s m (assign c.at d.at left) c.rows d.records v
              → Met ks fs r₀ s₀ m₀ r s m (value c.at) c.rows c.records v
          value_assigned e f = goes_on (λ out u. value_assigns (sym i ∙ j) read_left no_arrow (operator e) u) made_left f

          pub value_choices : {r s m : List ℕ} {v : Step} → o ≡ false → y ≡ Question → Met ks fs r₁ s₁ m₁ r s m (conditional c.at d.at left) c.rows d.records v
              → Met ks fs r₀ s₀ m₀ r s m (value c.at) c.rows c.records v
          value_choices e h f = goes_on (λ out u. value_chooses (sym i ∙ j) read_left no_arrow (operator e) (eq-eqb _ _ (sym k ∙ h)) u) made_left f

          pub value_ends : o ≡ false → (y ≡ Question → ⊥) → Met ks fs r₀ s₀ m₀ r₁ s₁ m₁ (value c.at) c.rows c.records (Ok d)
          value_ends e h =
              is_done refl record { trees = one left; records = g.records; comes = value_stops (sym i ∙ j) read_left no_arrow (operator e) (λ u. h (k ∙ u)); made = made_left }
