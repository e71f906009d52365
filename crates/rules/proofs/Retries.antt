-- A settle answers "look again" only where the epoch rose. Assumes nothing.
use Prim.Native.Nat.{ℕ, ◌≤◌, ◌<◌}
use native.Mathlib.Nat.{le_refl}
use native.Mathlib.Decide.{ℕ_discrete}
use native.Mathlib.Omega.{arith}
use mathlib.Core.Path.{◌≡◌, refl, sym, ap, ◌∙◌}
use mathlib.Core.Bool.{true, false, not, ◌||◌, true≢false}
use mathlib.Core.List.{List, [], ◌∷◌}
use lib.ListN.{length}
use lib.Seq.{get_or-set_same}
use lib.Dec.{eqb}
use borrow.Author.Tests.{leb-false, lt-leb, eq-eqb, not-true}
use Rattle.table.specs.State.{State, TaskRow, idle_task, task_of, slot_of}
use Rattle.table.proofs.Tests.{two, three, or_right}
use Rattle.rules.specs.Outcome.{Outcome}
use Rattle.rules.specs.Effects.{begun, looking, settled}
use Rattle.rules.specs.Steps.{start, start_checks, start_done, look, look_checks, look_done, settle}
use Rattle.rules.specs.Calls.{Call, step, after, tag, who, ends_task}
use Rattle.rules.specs.Terms.{ends_look, look_stands}
use Rattle.rules.proofs.Checks.{accepted}
use Rattle.rules.proofs.Changes.{TaskMove, step_keeps}
use Rattle.rules.proofs.Guarded.{busy_below}

-- a look is outstanding that found v, and the task's upper end is u
record Looks (u v : ℕ) (r : TaskRow) : Type 0 where
  phase : r.phase ≡ 2
  upper : r.upper ≡ u
  candidate : r.candidate ≡ v

-- an accepted end ends the look too
ends-look : (k : ℕ) (s : State) (c : Call) → ends_task k s c ≡ true → ends_look k s c ≡ true
ends-look k s c e = let t = three (eqb (tag c) 9) (eqb (who c) k) (eqb (step s c).kind 0) e in
    rw (or_right (eqb (tag c) 3 || eqb (tag c) 4) _ t.0, t.1, t.2)

-- only an accepted look, settle or end of its task changes an outstanding look
look-same : (s₀ : State) (c : Call) (s : State) (k u v : ℕ) (r r' : TaskRow) → ends_look k s₀ c ≡ false → TaskMove s₀ c s k r r' → Looks u v r → Looks u v r'
look-same s₀ c s k u v r r' e (TaskMove.stays q) h = rw q h
look-same s₀ c s k u v r r' e (TaskMove.begins y q) h = absurd (omega (arith, h.phase))
look-same s₀ c s k u v r r' e (TaskMove.looked m p y q) h = absurd (true≢false (sym m ∙ e))
look-same s₀ c s k u v r r' e (TaskMove.settling m y q) h = absurd (true≢false (sym m ∙ e))
look-same s₀ c s k u v r r' e (TaskMove.counting m y q) h = rw q (record { phase = h.phase; upper = h.upper; candidate = h.candidate })
look-same s₀ c s k u v r r' e (TaskMove.ending m y q) h = absurd (true≢false (sym (ends-look k s₀ c m) ∙ e))

run-looks : (k u v : ℕ) (s : State) (cs : List Call) → look_stands k s cs ≡ true → Looks u v (task_of s k) → Looks u v (task_of (after s cs) k)
run-looks k u v s [] e h = h
run-looks k u v s (c ∷ cs) e h = let t = two (not (ends_look k s c)) _ e in run-looks k u v (step s c).after cs t.1
    (step_keeps (λ z. Looks u v (task_of z k)) s c (λ a b ch o. look-same s c a k u v _ _ (not-true _ t.0) (ch.tasks k) o) h)

-- an accepted look
looked_now : (s : State) (k p : ℕ) → (look s k p).kind ≡ 0 → task_of (look s k p).after k ≡ looking (slot_of s p) (task_of s k)
unfolding look
looked_now s k p e = let a = accepted s (look_checks s k p) (look_done s k p) refl e in
    ap (λ (o : Outcome). task_of o.after k) a.0 ∙ get_or-set_same s.tasks k _ idle_task (leb-false _ _ a.1.0)

-- the epoch never falls
pub never_falls : (s : State) (cs : List Call) → s.epoch ≤ (after s cs).epoch
never_falls s [] = le_refl _
never_falls s (c ∷ cs) = omega (arith, never_falls (step s c).after cs, step_keeps (λ z. s.epoch ≤ z.epoch) s c (λ a b ch o. omega (arith, ch.rises)) (le_refl _))

-- a settle whose task has reserved up to the present epoch is done
settles_now : (s : State) (k v : ℕ) → Looks s.epoch v (task_of s k) → ((settle s k).kind ≡ 0) × ((settle s k).value ≡ v)
unfolding settle
settles_now s k v h =
    let l = lt-leb (length s.tasks) k (busy_below s k (λ z. omega (arith, h.phase))) in
    let u = eq-eqb (task_of s k).upper s.epoch h.upper in
    (rw (l, h.phase, u), rw (l, h.phase, u) h.candidate)

module _ (s : State) (k p : ℕ) (cs : List Call) (e : (look s k p).kind ≡ 0) (upper : (task_of s k).upper ≡ s.epoch)
    (stands : look_stands k (look s k p).after cs ≡ true) where
  pub no_retry : (after (look s k p).after cs).epoch ≡ s.epoch
      → ((settle (after (look s k p).after cs) k).kind ≡ 0) × ((settle (after (look s k p).after cs) k).value ≡ slot_of s p)
  no_retry same = settles_now (after (look s k p).after cs) k (slot_of s p)
      (rw same (run-looks k s.epoch (slot_of s p) (look s k p).after cs stands (rw (looked_now s k p e) (record { phase = refl; upper = upper; candidate = refl }))))

  -- so where it says "look again", the epoch rose: it never falls
  pub retry_rose : (settle (after (look s k p).after cs) k).kind ≡ 11 → s.epoch < (after (look s k p).after cs).epoch
  retry_rose r = go (ℕ_discrete (after (look s k p).after cs).epoch s.epoch)
    where
      go : Dec ((after (look s k p).after cs).epoch ≡ s.epoch) → s.epoch < (after (look s k p).after cs).epoch
      go (yes q) = absurd (omega (arith, (no_retry q).0))
      go (no n) = omega (arith, never_falls s (Call.looks k p ∷ cs))

-- nothing between: a look leaves the epoch
pub look_still : (s : State) (k p : ℕ) → (look s k p).after.epoch ≡ s.epoch
look_still s k p = step_keeps (λ z. z.epoch ≡ s.epoch) s (Call.looks k p) (λ a b ch o. ch.still refl ∙ o) refl

-- a start leaves the task's upper end at the epoch, and so does a settle, whichever it answers: its next look begins so
pub upper_at_start : (s : State) (k : ℕ) → (start s k).kind ≡ 0 → (task_of (start s k).after k).upper ≡ (start s k).after.epoch
unfolding start
upper_at_start s k e = let a = accepted s (start_checks s k) (start_done s k) refl e in
    rw (a.0, get_or-set_same s.tasks k (begun s.epoch (task_of s k)) idle_task (leb-false _ _ a.1.0))

pub upper_at_settle : (s : State) (k : ℕ) → (task_of s k).phase ≡ 2 → (task_of (settle s k).after k).upper ≡ (settle s k).after.epoch
unfolding settle
upper_at_settle s k e = let b = busy_below s k (λ z. omega arith) in
    rw (lt-leb (length s.tasks) k b, e, get_or-set_same s.tasks k (settled s.epoch (task_of s k)) idle_task b)
