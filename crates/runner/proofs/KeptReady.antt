-- Whatever is carried out, the buffer stays whole and its table sound. Assumes nothing.
use Prim.Native.Nat.{ℕ, ◌≤◌}
use mathlib.Core.Path.{◌≡◌, refl, sym, ap, ◌∙◌, subst}
use mathlib.Core.Bool.{true, cond}
use mathlib.Core.List.{List, ◌++◌}
use native.Mathlib.Omega.{arith}
use lib.Dec.{eqb}
use lib.ListN.{length, take, drop, take-append-drop, length-replicate}
use lib.Seq.{length-take-le, length_front, take_at}
use borrow.Author.Tests.{eqb-true, eqb-false}
use Rattle.table.specs.State.{State, idle_task, free_block}
use Rattle.table.specs.declared.sizes.Sizes.{Sizes}
use Rattle.table.specs.Soundness.{sized}
use Rattle.table.specs.Words.{sound, state_of, words, length_for}
use Rattle.table.proofs.Tests.{decide}
use Rattle.table.proofs.Places.{exact_words, words-state_of}
use Rattle.table.proofs.Sound.{exact, facts, words-sound}
use Rattle.rules.specs.OnTable.{result_of, in_words}
use Rattle.rules.specs.Calls.{Call, step}
use Rattle.rules.specs.Steps.{opened}
use Rattle.rules.proofs.Changes.{step_keeps}
use Rattle.rules.proofs.Kept.{step-sound, opened-sound}
use Rattle.reclaim.specs.Promises.{PublicCall, promised}
use Rattle.reclaim.specs.Promises.PublicCall.{opens, calls}
use Rattle.reclaim.proofs.Tables.{on_sound, open_length, open_bad_size, open_done}
use Rattle.work.specs.Answers.{Answer, kind_of, told}
use Rattle.runner.specs.Running.{held, lent, Carried, Ready, buffer_length, carried, ran_to, opening}
use Rattle.runner.proofs.Carrying.{put_back_lem, no_table, stepped, accepted, refused}

-- two states of the same sizes have as many words
record SameSizes (s s' : State) : Type 0 where
  tasks : length s'.tasks ≡ length s.tasks
  blocks : length s'.blocks ≡ length s.blocks
  slots : length s'.slots ≡ length s.slots

step_sizes : (s : State) (c : Call) → SameSizes s (step s c).after
step_sizes s c =
    step_keeps (SameSizes s) s c (λ a b ch o. record { tasks = ch.tasks_length ∙ o.tasks; blocks = ch.blocks_length ∙ o.blocks; slots = ch.slots_length ∙ o.slots }) (record { tasks = refl; blocks = refl; slots = refl })

words-length : (s : State) → length (words s) ≡ length_for (length s.tasks) (length s.blocks) (length s.slots)
unfolding words
words-length s = exact_words s

opened-length : (T N P F E : ℕ) → length (words (opened T N P F E)) ≡ length_for T N P
opened-length T N P F E = words-length (opened T N P F E) ∙ rw (length-replicate T idle_task, length-replicate N free_block, length-replicate {A = ℕ} P 0)

step-length : (t : List ℕ) (c : Call) → sound t ≡ true → length (words (step (state_of t) c).after) ≡ length t
step-length t c e =
    let z = step_sizes (state_of t) c in
    words-length (step (state_of t) c).after ∙ rw (z.tasks, z.blocks, z.slots) (sym (words-length (state_of t))) ∙ ap length (words-state_of t (exact t e))

-- a sound table at the front of the buffer
at_front : (b t : List ℕ) (n : ℕ) → length b ≡ buffer_length → n ≤ buffer_length → length t ≡ n → sound t ≡ true → Ready (held (t ++ drop n b) n)
at_front b t n whole inside l e = record {
  whole = length_front b t n (l ∙ sym (length-take-le n b (omega arith))) ∙ whole;
  inside = inside;
  table = λ _. rw (take_at t (drop n b) n l) e;
}

module _ (b : List ℕ) (used : ℕ) (h : Ready (held b used)) where
  -- the lent words left as they were
  unchanged : (n : ℕ) → Ready (held (take n b ++ drop n b) used)
  unchanged n = rw (take-append-drop n b) h

  -- before an accepted open, and on a table
  step_kept : (c : Call) → Ready (carried (held b used) (calls c)).after
  step_kept c = decide (eqb used 0)
      (λ z. subst Ready (ap (λ (o : Carried). o.after) (no_table b used c (eqb-true used 0 z))) h)
      (λ z. let t = take used b in
      let e = h.table (eqb-false used 0 z) in
      subst (λ (o : Carried). Ready o.after) (put_back_lem (held b used) (calls c) (on_sound t (λ s. step s c) e))
      (at_front b (words (step (state_of t) c).after) used h.whole h.inside
      (step-length t c e ∙ length-take-le used b (omega arith)) (words-sound _ (step-sound (state_of t) c (facts t e)))))

  -- accepted, and refused
  open_kept : (T N P F E : ℕ) → Ready (carried (held b used) (opens T N P F E)).after
  open_kept T N P F E =
      let Kept : Carried → Type 0 = λ o. Ready o.after in
      let n = length_for T N P in
      let t = words (opened T N P F E) in
      decide (sized T N P F E)
      (λ e. let l : n ≤ length b = omega (arith, open_length T N P F E e) in
      subst Kept (put_back_lem (held b used) (opens T N P F E) {r = result_of 0 n t} (rw e (open_done (take n b) T N P F E e (length-take-le n b l) n t refl refl)))
      (rw e (at_front b t n h.whole (omega arith) (opened-length T N P F E) (words-sound _ (opened-sound T N P F E e)))))
      (λ e. subst Kept (put_back_lem (held b used) (opens T N P F E) {r = result_of 2 0 (take (length b) b)} (rw e (open_bad_size (take (length b) b) T N P F E e))) (rw e (unchanged (length b))))

  pub ready_kept : (c : PublicCall) → Ready (carried (held b used) c).after
  ready_kept (opens T N P F E) = open_kept T N P F E
  ready_kept (calls c) = step_kept c

  -- so that whoever meets the promise leaves the buffer ready
  pub and_ready : (c : PublicCall) {o : Carried} → o ≡ carried (held b used) c → (o ≡ carried (held b used) c) × Ready o.after
  and_ready c e = (e, subst (λ (z : Carried). Ready z.after) (sym e) (ready_kept c))

-- a step on the table, and an open that is refused or accepted: what is lent, what became of it, and what is held then
module _ {b : List ℕ} {used : ℕ} (h : Ready (held b used)) (a : Answer) {t : List ℕ} where
  pub stepped_ready : (c : Call) → (used ≡ 0 → ⊥) → told a t ≡ in_words (step (state_of (take used b)) c)
      → (ran_to a (held (t ++ drop used b) used) ≡ carried (held b used) (calls c)) × Ready (held (t ++ drop used b) used)
  stepped_ready c z e = and_ready b used h (calls c) (stepped b used a t c (h.table z) e)

  module _ (n : Sizes) {m : ℕ} (asked : m ≡ cond (sized n.tasks n.blocks n.slots n.per_epoch n.per_sweep) (length_for n.tasks n.blocks n.slots) buffer_length) (e : told a t ≡ promised (take m b) (opening n)) where
    of_buffer : m ≡ lent (held b used) (opening n)
    of_buffer = rw h.whole asked

    pub refused_ready : (kind_of a ≡ 0 → ⊥) → (ran_to a (held (t ++ drop m b) used) ≡ carried (held b used) (opening n)) × Ready (held (t ++ drop m b) used)
    refused_ready k = and_ready b used h (opening n) (refused b used a t n m of_buffer e k)

    pub accepted_ready : kind_of a ≡ 0 → (ran_to a (held (t ++ drop m b) m) ≡ carried (held b used) (opening n)) × Ready (held (t ++ drop m b) m)
    accepted_ready k = and_ready b used h (opening n) (accepted b used a t n m of_buffer e k)

-- before an accepted open any buffer of the whole length is ready
pub not_opened : (b : List ℕ) → length b ≡ buffer_length → Ready (held b 0)
not_opened b l = record { whole = l; inside = omega arith; table = λ z. absurd (z refl) }
