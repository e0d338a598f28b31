-- `read_full` meets its contract: what one read gave stands after what the reads before it gave.
use Rattle.std.proofs.Common.{◌≡◌, ℕ, ◌+◌, ◌-◌, ◌≤◌, List, ◌++◌, rules, arith, length, take, drop, sym, ap, ◌∙◌, subst, drop_at, length-take-le, append_assoc, Option, Some, None}
use Rattle.std.proofs.lemmas.List.{take_at, take-append-le}
use Rattle.std.specs.Io.KnownBytes.{Consumes}
use borrow.Rule.Slice.PartMut.{put_mid, post_of}
use lib.Seq.{take-add}
use Rattle.input.proofs.read_full.Goals as goal

-- one part after another
consumes_then : (a b c : Option (List ℕ)) (xs ys : List ℕ) → Consumes a b xs → Consumes b c ys → Consumes a c (xs ++ ys)
consumes_then None b c xs ys p q = tt
consumes_then (Some a) None c xs ys p q = absurd p
consumes_then (Some a) (Some b) None xs ys p q = absurd q
consumes_then (Some a) (Some b) (Some c) xs ys p q = p ∙ ap (λ (l : List ℕ). xs ++ l) q ∙ sym (append_assoc xs ys c)

-- a list whose part from a place on was written, as far as n bytes of the part
written : (at room n : ℕ) (old part : List ℕ) → at ≤ length old → n ≤ length part → take (at + n) (put_mid at room old part) ≡ take at old ++ take n part
written at room n old part inside fits =
    let after = post_of at room old in
    let front = length-take-le at old inside in
    take-add at n (put_mid at room old part)
    ∙ ap (λ (l : List ℕ). l ++ take n (drop at (put_mid at room old part))) (take_at (take at old) (part ++ after) at front)
    ∙ ap (λ (l : List ℕ). take at old ++ take n l) (drop_at (take at old) (part ++ after) at front)
    ∙ ap (λ (l : List ℕ). take at old ++ l) (take-append-le n part after fits)

pub loop-at-preserved : goal.loop-at-preserved
loop-at-preserved g c =
    let at = c.loop-at.at in
    let read = written at (length c.loop-at.bytes - at) c.in_ok-n.n c.loop-at.bytes c.read.new.buf c.loop-at.invariant.1 c.in_ok-n.ensures.bound.0 in
    (search rules, search rules, subst (Consumes _ _) (sym read) (consumes_then _ _ _ _ _ c.loop-at.invariant.2 c.in_ok-n.ensures.bytes.0))
