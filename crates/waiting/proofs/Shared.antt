-- What the laws of several functions share: records before records, and what a nonterminal comes to, by an equation.
-- Assumes nothing.
use Prim.Native.Nat.{ℕ}
use mathlib.Core.Path.{◌≡◌, refl, sym, ap, subst}
use mathlib.Core.List.{List, [], ◌++◌, append-nil, append_assoc}
use Rattle.tokens.specs.declared.cause.Cause.{Cause}
use Rattle.rows.specs.Tree.{Forest}
use Rattle.rows.specs.Record.{Record}
use Rattle.grammar.specs.Sheet.{Out, done, fail, stuck, after_records}
use Rattle.grammar.specs.Job.{Job}
use Rattle.build.specs.Post.{Comes}

-- no records, and records before records
pub after_none : {N : Type 0} (out : Out N) → after_records [] out ≡ out
unfolding after_records
after_none (done end trees more notes) = refl
after_none (fail cause notes) = refl
after_none stuck = refl

pub after_after : {N : Type 0} (rs rs' : List Record) (out : Out N) → after_records rs (after_records rs' out) ≡ after_records (rs ++ rs') out
unfolding after_records
after_after rs rs' (done end trees more notes) = ap (λ (l : List Record). done end trees l notes) (sym (append_assoc rs rs' more))
after_after rs rs' (fail cause notes) = refl
after_after rs rs' stuck = refl

-- an outcome by an equation
pub comes_to : {ks fs m : List ℕ} {job : Job} {out out' : Out (List ℕ)} → Comes ks fs job m out → out ≡ out' → Comes ks fs job m out'
comes_to {ks} {fs} {m} {job} h e = subst (λ (x : Out (List ℕ)). Comes ks fs job m x) e h

-- the nonterminal, too
pub comes_as : {ks fs m : List ℕ} {job job' : Job} {out : Out (List ℕ)} → Comes ks fs job m out → job ≡ job' → Comes ks fs job' m out
comes_as {ks} {fs} {m} {out = out} h e = subst (λ (x : Job). Comes ks fs x m out) e h

-- records before an outcome that is done, and that has no records of its own
pub after_done : {N : Type 0} (rs : List Record) (end : ℕ) (trees : Forest) (notes : N) → after_records rs (done end trees [] notes) ≡ done end trees rs notes
unfolding after_records
after_done rs end trees notes = ap (λ (l : List Record). done end trees l notes) (append-nil rs)

-- records before an outcome that is a failure
pub after_fail : {N : Type 0} (rs : List Record) (cause : Cause) (notes : N) → after_records rs (fail cause notes) ≡ fail cause notes
unfolding after_records
after_fail rs cause notes = refl

-- a loop that has said records goes on with a part that says more
pub said_then : {ks fs m₀ : List ℕ} {job : Job} (rs rs' : List Record) (out : Out (List ℕ)) → Comes ks fs job m₀ (after_records rs (after_records rs' out))
    → Comes ks fs job m₀ (after_records (rs ++ rs') out)
said_then rs rs' out h = comes_to h (after_after rs rs' out)
