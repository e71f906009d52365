-- A step on a task of a sound table: refused by its first checks, refused by a later one, or done. Assumes nothing.
use Rattle.std.specs.Prelude.{Result, Err}
use Prim.Native.Nat.{ℕ, ◌≤◌, ◌<◌}
use mathlib.Core.Path.{◌≡◌, sym, ap, ◌∙◌}
use mathlib.Core.Bool.{Bool, true, false}
use mathlib.Core.List.{List}
use lib.ListN.{length}
use borrow.Author.Tests.{le-leb, lt-leb}
use Rattle.table.specs.State.{TaskRow, State, task_of}
use Rattle.table.specs.Words.{sound, state_of, words}
use Rattle.table.proofs.Places.{words-state_of}
use Rattle.table.proofs.Sound.{exact}
use Rattle.rules.specs.Outcome.{Outcome, answers}
use Rattle.rules.specs.OnTable.{result_of, in_words}
use Rattle.work.specs.Answers.{told}
use Rattle.work.specs.Entering.{entering, Inside}
use Rattle.work.specs.declared.answers.Reply.{Reply}
use Rattle.work.specs.declared.answers.Refusal.{Refusal}
use Rattle.table.specs.declared.records.TaskRecord.{TaskRecord}

-- a refusal leaves every word as it was
pub refused : (t : List ℕ) → sound t ≡ true → (n : ℕ) → result_of n 0 t ≡ in_words (answers n 0 (state_of t))
refused t e n = ap (result_of n 0) (sym (words-state_of t (exact t e)))

-- the first checks
module _ (s : State) (k : ℕ) (asked : TaskRow → Bool) (rest : Outcome) where
  pub no_task_lem : length s.tasks ≤ k → entering asked s k rest ≡ answers 3 0 s
  unfolding entering
  no_task_lem h = rw (le-leb (length s.tasks) k h)

  pub wrong-phase : k < length s.tasks → asked (task_of s k) ≡ false → entering asked s k rest ≡ answers 4 0 s
  unfolding entering
  wrong-phase h w = rw (lt-leb (length s.tasks) k h, w)

  pub entered : k < length s.tasks → asked (task_of s k) ≡ true → entering asked s k rest ≡ rest
  unfolding entering
  entered h w = rw (lt-leb (length s.tasks) k h, w)

-- an outcome that enters is refused where its entry is
pub out : (t : List ℕ) (k : ℕ) (asked : TaskRow → Bool) {x : Refusal} {answer : Result Reply Refusal} → answer ≡ Err x → ((rest : Outcome) → told (Err x) t ≡ in_words (entering asked (state_of t) k rest))
    → {o : Outcome} (rest : Outcome) → o ≡ entering asked (state_of t) k rest → told answer t ≡ in_words o
out t k asked e h rest q = rw e (h rest) ∙ ap in_words (sym q)

-- past the entry, an outcome is what the rest of its step is: a refusal, or what was done
module _ (t : List ℕ) (k : ℕ) (asked : TaskRow → Bool) (r : TaskRecord) (h : Inside t k asked r) (o rest : Outcome) (q : o ≡ entering asked (state_of t) k rest) where
  pub own : sound t ≡ true → (n : ℕ) → rest ≡ answers n 0 (state_of t) → result_of n 0 t ≡ in_words o
  own e n p = refused t e n ∙ ap in_words (sym (q ∙ entered (state_of t) k asked rest h.below h.phase ∙ p))

  pub does : (n v : ℕ) (s' : State) → rest ≡ answers n v s' → result_of n v (words s') ≡ in_words o
  does n v s' p = ap in_words (sym (q ∙ entered (state_of t) k asked rest h.below h.phase ∙ p))
