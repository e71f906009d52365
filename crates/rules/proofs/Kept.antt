-- A freshly opened state is sound, and every step keeps a sound state sound. Assumes nothing.
use Prim.Native.Nat.{ℕ, zero, suc, ◌≤◌}
use native.Mathlib.Nat.{le_refl}
use native.Mathlib.Omega.{arith}
use mathlib.Core.Path.{◌≡◌, refl, ap, ◌∙◌}
use mathlib.Core.Bool.{true}
use mathlib.Core.List.{List, [], ◌∷◌}
use lib.ListN.{length, get_or, replicate, length-replicate}
use Rattle.table.specs.State.{State, TaskRow, BlockRow, idle_task, free_block, slot_of}
use Rattle.table.specs.Soundness.{sized}
use Rattle.table.proofs.Sound.{Sound, TaskOk, BlockOk, SlotOk, sized_of, interval, spoken, below, born, held}
use Rattle.rules.specs.Effects.{counted}
use Rattle.rules.specs.Steps.{opened}
use Rattle.rules.specs.Calls.{Call, step, after}
use Rattle.rules.proofs.Changes.{Change, TaskMove, BlockMove, SlotMove, step_keeps}

pub at_replicate : {A : Type 0} (n : ℕ) (a : A) (i : ℕ) → get_or (replicate n a) i a ≡ a
at_replicate zero a i = refl
at_replicate (suc n) a zero = refl
at_replicate (suc n) a (suc i) = at_replicate n a i

pub opened-sound : (T N P F E : ℕ) → sized T N P F E ≡ true → Sound (opened T N P F E)
opened-sound T N P F E e = let l = sized_of T N P F E e in record {
  limits = rw (length-replicate T idle_task, length-replicate N free_block, length-replicate {A = ℕ} P 0) l;
  last = omega arith;
  tasks = λ k. rw (at_replicate T idle_task k) (TaskOk.idle refl refl refl refl);
  blocks = λ i. rw (at_replicate N free_block i) (BlockOk.free (omega (arith, length-replicate T idle_task, l.tasks.0)) refl refl refl refl);
  slots = λ p. SlotOk.empty (at_replicate P 0 p);
}

-- a later epoch is as good
later_task : {e e' N : ℕ} {r : TaskRow} → e ≤ e' → TaskOk e N r → TaskOk e' N r
later_task l (TaskOk.idle a b d e) = TaskOk.idle a b d e
later_task l (TaskOk.working a b d e) = TaskOk.working a b (omega arith) e
later_task l (TaskOk.looking a b d e) = TaskOk.looking a b (omega arith) e

later_block : {e e' T : ℕ} {b : BlockRow} → e ≤ e' → BlockOk e T b → BlockOk e' T b
later_block l (BlockOk.free t p u v w) = BlockOk.free t p u v w
later_block l (BlockOk.made t p u v) = BlockOk.made t p (omega arith) v
later_block l (BlockOk.shown t p u v w) = BlockOk.shown t p u (omega arith) w
later_block l (BlockOk.retired t p u v) = BlockOk.retired t p u (omega arith)

-- how many makes a task counts is all one
counted-task : {e N : ℕ} {r : TaskRow} → TaskOk e N r → TaskOk e N (counted r)
counted-task (TaskOk.idle a b d e) = TaskOk.idle a b d e
counted-task (TaskOk.working a b d e) = TaskOk.working a b d e
counted-task (TaskOk.looking a b d e) = TaskOk.looking a b d e

-- a made block has no retire yet
unretired : {e T : ℕ} {b : BlockRow} → BlockOk e T b → b.state ≡ 1 → b.retire ≡ 0
unretired (BlockOk.free t p u v w) z = w
unretired (BlockOk.made t p u v) z = v
unretired (BlockOk.shown t p u v w) z = w
unretired (BlockOk.retired t p u v) z = absurd (omega arith)

module _ (s₀ : State) (c : Call) (s s' : State) (ch : Change s₀ c s s') (h : Sound s) where
  task-kept : (k : ℕ) (r r' : TaskRow) → TaskMove s₀ c s k r r' → TaskOk s.epoch (length s.blocks) r → TaskOk s'.epoch (length s'.blocks) r'
  task-kept k r r' (TaskMove.stays q) o = rw (q, ch.blocks_length) (later_task ch.rises o)
  task-kept k r r' (TaskMove.begins z q) o = rw q (TaskOk.working refl (le_refl _) ch.rises ((spoken o).1 (omega arith)))
  task-kept k r r' (TaskMove.looked m p z q) o = let i = interval o z in
      rw (q, ch.blocks_length) (TaskOk.looking refl i.0 (omega (arith, ch.rises)) (held (h.slots p)))
  task-kept k r r' (TaskMove.settling m z q) o = let i = interval o (λ e. omega arith) in rw q (TaskOk.working refl (omega arith) ch.rises refl)
  task-kept k r r' (TaskMove.counting m z q) o = rw (q, ch.blocks_length) (counted-task (later_task ch.rises o))
  task-kept k r r' (TaskMove.ending m z q) o = rw q (TaskOk.idle refl refl refl refl)

  block_kept : (i : ℕ) (b b' : BlockRow) → BlockMove c s s' i b b' → BlockOk s.epoch (length s.tasks) b → BlockOk s'.epoch (length s'.tasks) b'
  block_kept i b b' (BlockMove.stays q) o = rw (q, ch.tasks_length) (later_block ch.rises o)
  block_kept i b b' (BlockMove.making m k l z q) o = rw (q, ch.tasks_length) (BlockOk.made l refl (le_refl _) refl)
  block_kept i b b' (BlockMove.showing z q) o = rw (q, ch.tasks_length)
      (BlockOk.shown (omega (arith, below o)) refl refl (omega (arith, born o, ch.rises)) (unretired o z))
  block_kept i b b' (BlockMove.retiring k l y z w q) o = rw (q, ch.tasks_length) (BlockOk.retired l refl (born o) ch.rises)
  block_kept i b b' (BlockMove.freeing z u q) o = rw (q, ch.tasks_length) (BlockOk.free (omega (arith, below o)) refl refl refl refl)

  -- a block that a slot names stays shown
  named-kept : (p i : ℕ) (b b' : BlockRow) → slot_of s p ≡ suc i → b.state ≡ 2 → BlockMove c s s' i b b' → b'.state ≡ 2
  named-kept p i b b' e z (BlockMove.stays q) = ap (λ (r : BlockRow). r.state) q ∙ z
  named-kept p i b b' e z (BlockMove.making m k t y q) = absurd (omega arith)
  named-kept p i b b' e z (BlockMove.showing y q) = absurd (omega arith)
  named-kept p i b b' e z (BlockMove.retiring k t x y w q) = absurd (w p e)
  named-kept p i b b' e z (BlockMove.freeing y u q) = absurd (omega arith)

  slot_kept : (p v v' : ℕ) → slot_of s p ≡ v → SlotMove s' v v' → SlotOk s v → SlotOk s' v'
  slot_kept p v v' e (SlotMove.stays q) (SlotOk.empty z) = SlotOk.empty (q ∙ z)
  slot_kept p zero v' e (SlotMove.stays q) (SlotOk.names z) = SlotOk.empty q
  slot_kept p (suc i) v' e (SlotMove.stays q) (SlotOk.names z) = rw q (SlotOk.names (named-kept p i _ _ e z (ch.blocks i)))
  slot_kept p v v' e (SlotMove.empties q) o = SlotOk.empty q
  slot_kept p v v' e (SlotMove.gets z) o = SlotOk.names z

  pub change_sound : Sound s'
  change_sound = record {
    limits = rw (ch.tasks_length, ch.blocks_length, ch.slots_length, ch.per_epoch, ch.per_sweep) h.limits;
    last = ch.last h.last;
    tasks = λ k. task-kept k _ _ (ch.tasks k) (h.tasks k);
    blocks = λ i. block_kept i _ _ (ch.blocks i) (h.blocks i);
    slots = λ p. slot_kept p _ _ refl (ch.slots p) (h.slots p);
  }

pub step-sound : (s : State) (c : Call) → Sound s → Sound (step s c).after
step-sound s c h = step_keeps Sound s c (λ a b ch o. change_sound s c a b ch o) h

pub run_sound : (s : State) (cs : List Call) → Sound s → Sound (after s cs)
run_sound s [] h = h
run_sound s (c ∷ cs) h = run_sound (step s c).after cs (step-sound s c h)
