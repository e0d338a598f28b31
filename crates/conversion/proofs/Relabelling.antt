-- A conversion that is accepted changes kind words of target rows, and no other word.
-- Assumes nothing.
use Prim.Native.Nat.{ℕ}
use mathlib.Core.Path.{◌≡◌, refl, sym}
use mathlib.Core.List.{List}
use Rattle.rows.specs.Tree.{Tree, Forest, node, nil, cons, count}
use Rattle.rows.specs.Record.{Record}
use Rattle.conversion.specs.Conversion.{Outcome, turned, refused, Role, Change, refuse, keep, turn, seen, change, roles, over, convert_as, convert_kids}
use Rattle.conversion.proofs.Relabelled.{kept, Relabelled, relabelled, AllRelabelled, no_more, one_more}
use Rattle.conversion.proofs.RuleHolds.{refused_turned, cons_parts}
use Rattle.conversion.proofs.Potentials.{Fair, keeps, turns, changes, turned_is}

over_labels : {w : ℕ} (ch : Change) (k m f e : ℕ) (kids : Forest) (out : Outcome Forest) (t' : Tree) (rs : List Record) → Fair (seen (node k m f e kids)) w ch → AllRelabelled kids kids
    → over ch (node k m f e kids) out ≡ turned t' rs → ((ts' : Forest) (ss : List Record) → out ≡ turned ts' ss → AllRelabelled kids ts')
    → Relabelled (node k m f e kids) t'
unfolding over seen
over_labels (refuse c) k m f e kids out t' rs l s h ih = absurd (refused_turned h)
over_labels (keep k' records) k m f e kids out t' rs (keeps l _) s h ih = rw (sym (turned_is h)) (relabelled l s)
over_labels (turn k' before each after) k m f e kids (refused c) t' rs l s h ih = absurd (refused_turned h)
over_labels (turn k' before each after) k m f e kids (turned ts' ss) t' rs (turns l _ _) s h ih = rw (sym (turned_is h)) (relabelled l (ih ts' ss refl))

mutual
  itself : (t : Tree) → Relabelled t t
  itself (node k m f e kids) = relabelled kept (all_itself kids)

  all_itself : (ts : Forest) → AllRelabelled ts ts
  all_itself nil = no_more
  all_itself (cons t ts) = one_more (itself t) (all_itself ts)

mutual
  unfolding convert_as convert_kids seen

  pub relabels : (t : Tree) (role : Role) (t' : Tree) (rs : List Record) → convert_as t role ≡ turned t' rs → Relabelled t t'
  relabels (node k m f e kids) role t' rs h =
      over_labels (change role (seen (node k m f e kids))) k m f e kids (convert_kids kids (roles (change role (seen (node k m f e kids))))) t' rs
      (changes (node k m f e kids) role) (all_itself kids) h
      (λ ts' ss q. all_relabels kids (roles (change role (seen (node k m f e kids)))) ts' ss q)

  pub all_relabels : (ts : Forest) (each : ℕ → Role) (ts' : Forest) (rs : List Record) → convert_kids ts each ≡ turned ts' rs → AllRelabelled ts ts'
  all_relabels nil each ts' rs h = rw (sym (turned_is h)) no_more
  all_relabels (cons t ts) each ts' rs h =
      let b = cons_parts t ts each ts' rs h in
      rw b.made (one_more (relabels t (each (count ts)) b.one b.first b.one_is) (all_relabels ts each b.rest b.later b.rest_is))
