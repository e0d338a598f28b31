-- The two entries: each way out of them.
-- Assumes nothing.
use Rattle.std.specs.Prelude.{Ok, Err}
use Prim.Native.Nat.{ℕ, zero, suc, ◌≤◌}
use mathlib.Core.Path.{◌≡◌, refl, sym, subst, ◌∙◌}
use mathlib.Core.List.{List}
use native.Mathlib.Omega.{arith}
use lib.ListN.{length, get_or, replicate}
use lib.Seq.{get_or-set_other}
use Rattle.tokens.specs.declared.cause.Cause.{Cause}
use Rattle.tokens.specs.declared.cause.Answer.{Answer}
use Rattle.tokens.specs.Check.{Checked}
use Rattle.rows.specs.Tree.{Forest}
use Rattle.rows.specs.Record.{Record}
use Rattle.grammar.specs.Sheet.{sheet_of, Out, done}
use Rattle.grammar.specs.Job.{Job}
use Rattle.grammar.specs.Step as Step
use Rattle.grammar.specs.Reading.{Whole, whole, refused, box, cleared, at_end, reading}
use Rattle.grammar.specs.Lent.{answered, checked, entry, Answers, Ready}
use Rattle.laws.proofs.Settles.{in_plenty}
use Rattle.laws.proofs.Owed.{pays_lasts}
use Rattle.laws.proofs.Bounds.{limits, reads}
use Rattle.laws.specs.Settles.{looked_at}
use Rattle.laws.proofs.Steady.{kept_if_done}
use Rattle.laws.proofs.Abandoned.{fine_cleared, notes_stay}
use Rattle.build.specs.Post.{cursor, Room, Met}
use Rattle.build.specs.Post as Made
use Rattle.build.proofs.Ends.{moved}
use Rattle.reader.specs.Post.{Within, Checks, Came, CameOut, Finished}
use Rattle.grammar.proofs.Checked.{ready}

-- the list passes the checks: there is room to begin
pub begins : {ks fs r s : List ℕ} {x : Checked} → Checks ks fs r s x → x ≡ Ok tt → Room ks r s (cursor 0 0 0)
begins {ks} {fs} {r} {s} e q =
    let h = ready ks fs r s (sym e.found ∙ q) in
    record { short = h.short; wide = omega (arith, h.wide); deep = h.deep; inside = omega arith; few = omega arith; said = omega arith }

-- and there still is
pub ends : {ks fs r₀ s₀ r s : List ℕ} {x : Checked} → Checks ks fs r₀ s₀ x → x ≡ Ok tt → length r ≡ length r₀ → length s ≡ length s₀ → Ready ks r s
ends {ks} {fs} {r₀} {s₀} e q u v =
    let h = ready ks fs r₀ s₀ (sym e.found ∙ q) in
    record { short = h.short; wide = omega (arith, h.wide); deep = omega (arith, h.deep) }

-- what the nonterminal comes to
pub outcome : Job → (ks fs : List ℕ) → Out (List ℕ)
outcome job ks fs = Step.read (box (sheet_of ks fs)) (sheet_of ks fs) (Step.plenty (sheet_of ks fs)) job cleared

-- no place past the list is noted
within_cleared : (size tokens : ℕ) → Within tokens (replicate size 0)
within_cleared size tokens = record { past = λ place l. clear size place }
  where
    clear : (size place : ℕ) → ◌≡◌ {A = ℕ} (get_or (replicate size 0) place 0) 0
    clear zero place = refl
    clear (suc size) zero = refl
    clear (suc size) (suc place) = clear size place

within_stays : (ks fs : List ℕ) (job : Job) → looked_at job ≤ length ks → {end : ℕ} {trees : Forest} {records : List Record} {after : List ℕ}
    → Step.read (box (sheet_of ks fs)) (sheet_of ks fs) (Step.plenty (sheet_of ks fs)) job cleared ≡ done end trees records after → Within (length ks) after
within_stays ks fs job there e =
    kept_if_done (box (sheet_of ks fs)) (sheet_of ks fs) 0 (Within (length ks))
    (λ at m l i w. record { past = λ place h. get_or-set_other m at place 1 0 (omega arith) ∙ w.past place h })
    job (omega arith) there cleared (within_cleared 2048 (length ks)) (Step.plenty (sheet_of ks fs)) (in_plenty (sheet_of ks fs) job) e

-- a nonterminal of one tree, read from the first token on, came to what it comes to
pub came : {ks fs r₀ s₀ r s m : List ℕ} {got : Made.Step} (job : Job) → looked_at job ≡ 0 → limits (sheet_of ks fs) job ≡ reads (sheet_of ks fs) 0 0 0
    → Met ks fs r₀ s₀ cleared r s m job 0 0 got → Came ks r s m got (outcome job ks fs)
unfolding outcome
came {ks} {fs} {m = m} job start lone h =
    record {
      done_to = λ d e.
          let g = h.done_to d e in
          let a = g.comes.settles.with (Step.plenty (sheet_of ks fs)) (in_plenty (sheet_of ks fs) job) in
          let b = moved 0 g lone in
          record {
            trees = g.trees;
            said = g.records;
            outcome = a;
            rows = record { used = g.made.grown.used; text = g.made.grown.text };
            records = record { used = g.made.recorded.used; text = g.made.recorded.text };
            few = omega (arith, b);
            paid = omega (arith, b, pays_lasts g.trees);
            fine = notes_stay (sheet_of ks fs) job (omega (arith, start)) fine_cleared a;
            within = within_stays ks fs job (omega (arith, start)) a;
          };
      fail_at = λ cause e. (h.fail_at cause e).comes.settles.with (Step.plenty (sheet_of ks fs)) (in_plenty (sheet_of ks fs) job);
    }

pub came_out : {ks fs r₀ s₀ r s m : List ℕ} {got : Made.Step} (job : Job) → looked_at job ≡ 0 → limits (sheet_of ks fs) job ≡ reads (sheet_of ks fs) 0 0 0
    → Met ks fs r₀ s₀ cleared r s m job 0 0 got → CameOut ks r s m got
came_out {ks} {fs} job start lone h = record { out = outcome job ks fs; came = came job start lone h }

-- the list is refused by a check
pub entry_refuses : {ks fs r s : List ℕ} {x : Checked} {cause : Cause} (job : Job) → Checks ks fs r s x → x ≡ Err cause
    → Answers (entry job (sheet_of ks fs) r s) r s (Answer.Refused cause)
unfolding entry checked
entry_refuses job e q = rw (sym e.found ∙ q) record { answer = refl; rows = refl; records = refl }

-- only the lengths of the buffers matter for what is left in them
same_answered : (r₀ s₀ r s : List ℕ) (w : Whole (List ℕ)) → length r ≡ length r₀ → length s ≡ length s₀ → answered r s w ≡ answered r₀ s₀ w
unfolding answered
same_answered r₀ s₀ r s (whole trees said notes) u v = rw (u, v)
same_answered r₀ s₀ r s (refused cause) u v = rw (u, v)

-- the list is read, or refused on the way
pub entry_ends : {ks fs r₀ s₀ r₁ s₁ r s m : List ℕ} {x : Checked} {got : Made.Step} {answer : Answer} (job : Job) → looked_at job ≡ 0
    → limits (sheet_of ks fs) job ≡ reads (sheet_of ks fs) 0 0 0 → Checks ks fs r₀ s₀ x → x ≡ Ok tt → Met ks fs r₀ s₀ cleared r₁ s₁ m job 0 0 got
    → length r₁ ≡ length r₀ → length s₁ ≡ length s₀ → Finished ks r₁ s₁ m got r s answer → Answers (entry job (sheet_of ks fs) r₀ s₀) r s answer
unfolding entry checked reading outcome
entry_ends {ks} {fs} {r₀} {s₀} {r₁} {s₁} {r} {s} {answer = answer} job start lone e q h u v f =
    rw (sym e.found ∙ q)
    (subst (λ given. Answers given r s answer) (same_answered r₀ s₀ r₁ s₁ (at_end (length ks) (outcome job ks fs)) u v)
    (f.answers (outcome job ks fs) (came job start lone h)))
