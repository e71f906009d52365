-- A block that a settle has handed out is not freed before its task ends its operation. Assumes nothing.
use Prim.Native.Nat.{ℕ, zero, suc, ◌≤◌, ◌<◌}
use native.Mathlib.Decide.{dec_lt}
use native.Mathlib.Omega.{arith}
use mathlib.Core.Path.{◌≡◌, refl, sym, ap, ◌∙◌}
use mathlib.Core.Logic.{◌≢◌}
use mathlib.Core.Bool.{Bool, true, false, cond, not, ◌||◌, true≢false}
use mathlib.Core.List.{List, [], ◌∷◌}
use lib.ListN.{length, get_or-eq_default}
use lib.Seq.{get_or-set_same}
use borrow.Author.Tests.{leb-false, eqb-true, le-leb, not-true, not-false}
use Rattle.table.specs.State.{State, TaskRow, BlockRow, idle_task, task_of, block_of, slot_of, is_shown, is_retired, met_by, with_task}
use Rattle.table.specs.Soundness.{sized}
use Rattle.table.proofs.Tests.{two, both}
use Rattle.table.proofs.ByPlace.{some_at}
use Rattle.table.proofs.Sound.{Sound, TaskOk, SlotOk, interval, born}
use Rattle.rules.specs.Effects.{settled}
use Rattle.rules.specs.Sweeping.{unmet}
use Rattle.rules.specs.Steps.{opened, settle, settle_checks, settle_done, reserved}
use Rattle.rules.specs.Calls.{Call, step, after, ends_task, never_ends}
use Rattle.rules.specs.Terms.{Reached}
use Rattle.rules.proofs.Checks.{checked_cases}
use Rattle.rules.proofs.Changes.{Change, TaskMove, BlockMove, step_keeps}
use Rattle.rules.proofs.Kept.{at_replicate, opened-sound, step-sound, change_sound}

-- shown, or retired no earlier than l
pub data Alive (l : ℕ) (x : BlockRow) : Type 0 where
  shown : x.state ≡ 2 → Alive l x
  retired : x.state ≡ 3 → l ≤ x.retire → Alive l x

-- block x, born at β, is guarded by task r: once it is retired, r's interval meets it
pub record Guarded (β : ℕ) (r : TaskRow) (x : BlockRow) : Type 0 where
  pub busy : r.phase ≢ 0
  pub alive : Alive r.lower x
  pub same : x.birth ≡ β
  pub covers : x.birth ≤ r.upper

pub busy_below : (s : State) (k : ℕ) → (task_of s k).phase ≢ 0 → k < length s.tasks
busy_below s k h = go (dec_lt k (length s.tasks))
  where
    go : Dec (k < length s.tasks) → k < length s.tasks
    go (yes l) = l
    go (no n) = absurd (h (ap (λ (r : TaskRow). r.phase) (get_or-eq_default s.tasks idle_task {n = k} (omega arith))))

-- no sweep frees a block that a task's interval meets
met : (s : State) (k : ℕ) (x : BlockRow) → (task_of s k).phase ≢ 0 → x.birth ≤ (task_of s k).upper → (task_of s k).lower ≤ x.retire → unmet s.tasks x ≡ true → ⊥
unfolding unmet
met s k x z u l e = true≢false (sym (some_at (met_by x) s.tasks idle_task k (busy_below s k z) (both _ _ (le-leb _ _ u) (le-leb _ _ l))) ∙ not-true _ e)

not_shown : {l : ℕ} {x : BlockRow} → Alive l x → x.state ≢ 2 → (x.state ≡ 3) × (l ≤ x.retire)
not_shown (Alive.shown p) n = absurd (n p)
not_shown (Alive.retired p l) n = (p, l)

alive_states : {l : ℕ} {x : BlockRow} → Alive l x → (2 ≤ x.state) × (x.state ≤ 3)
alive_states (Alive.shown p) = omega arith
alive_states (Alive.retired p l) = omega arith

pub alive_says : {l : ℕ} {x : BlockRow} → Alive l x → is_shown x || is_retired x ≡ true
alive_says {l} {x} (Alive.shown p) = rw p
alive_says {l} {x} (Alive.retired p m) = rw p

-- what may become of a block leaves it guarded, and what may become of a task at work leaves guarded what it guards
block_guarded : (c : Call) (s s' : State) (β i k : ℕ) (x x' : BlockRow) → Sound s → BlockMove c s s' i x x' → Guarded β (task_of s k) x → Guarded β (task_of s k) x'
block_guarded c s s' β i k x x' h (BlockMove.stays q) g = rw q g
block_guarded c s s' β i k x x' h (BlockMove.making m j l z q) g = absurd (omega (arith, alive_states g.alive))
block_guarded c s s' β i k x x' h (BlockMove.showing z q) g = absurd (omega (arith, alive_states g.alive))
block_guarded c s s' β i k x x' h (BlockMove.retiring j l y z w q) g = let v = interval (h.tasks k) g.busy in
    rw q (record { busy = g.busy; alive = Alive.retired refl (omega arith); same = g.same; covers = g.covers })
block_guarded c s s' β i k x x' h (BlockMove.freeing z u q) g = absurd (met s k x g.busy g.covers (not_shown g.alive (λ e. omega arith)).1 u)

task_guarded : (s₀ : State) (c : Call) (s : State) (β k : ℕ) (x : BlockRow) (r r' : TaskRow)
    → TaskOk s.epoch (length s.blocks) r → TaskMove s₀ c s k r r' → r'.phase ≢ 0 → Guarded β r x → Guarded β r' x
task_guarded s₀ c s β k x r r' o (TaskMove.stays q) n g = rw q g
task_guarded s₀ c s β k x r r' o (TaskMove.begins z q) n g = absurd (g.busy z)
task_guarded s₀ c s β k x r r' o (TaskMove.looked m p z q) n g = rw q (record { busy = λ e. omega arith; alive = g.alive; same = g.same; covers = g.covers })
task_guarded s₀ c s β k x r r' o (TaskMove.settling m z q) n g = let v = interval o g.busy in
    rw q (record { busy = λ e. omega arith; alive = g.alive; same = g.same; covers = omega (arith, g.covers) })
task_guarded s₀ c s β k x r r' o (TaskMove.counting m z q) n g = rw q (record { busy = g.busy; alive = g.alive; same = g.same; covers = g.covers })
task_guarded s₀ c s β k x r r' o (TaskMove.ending m z q) n g = absurd (n (ap (λ (t : TaskRow). t.phase) q))

-- so a change does: the block first, under the task as it was
guarded_kept : (s₀ : State) (c : Call) (s s' : State) (β k b : ℕ) → Sound s → Change s₀ c s s' → (task_of s' k).phase ≢ 0
    → Guarded β (task_of s k) (block_of s b) → Guarded β (task_of s' k) (block_of s' b)
guarded_kept s₀ c s s' β k zero h ch n g = absurd (omega (arith, alive_states g.alive))
guarded_kept s₀ c s s' β k (suc i) h ch n g = task_guarded s₀ c s β k (block_of s' (suc i)) (task_of s k) (task_of s' k) (h.tasks k) (ch.tasks k) n
    (block_guarded c s s' β i k (block_of s (suc i)) (block_of s' (suc i)) h (ch.blocks i) g)

-- only an accepted end puts a task to rest
pub awake : (s₀ : State) (c : Call) (s : State) (k : ℕ) (r r' : TaskRow) → ends_task k s₀ c ≡ false → TaskMove s₀ c s k r r' → r.phase ≢ 0 → r'.phase ≢ 0
awake s₀ c s k r r' e (TaskMove.stays q) z = rw q z
awake s₀ c s k r r' e (TaskMove.begins y q) z = absurd (z y)
awake s₀ c s k r r' e (TaskMove.looked m p y q) z = rw q (λ w. omega arith)
awake s₀ c s k r r' e (TaskMove.settling m y q) z = rw q (λ w. omega arith)
awake s₀ c s k r r' e (TaskMove.counting m y q) z = rw q z
awake s₀ c s k r r' e (TaskMove.ending m y q) z = absurd (true≢false (sym m ∙ e))

-- what a look has found is guarded, while the epoch has not risen past the task's upper end
pub Looking : State → Type 0
Looking s = (k : ℕ) → (task_of s k).phase ≡ 2 → (task_of s k).candidate ≢ 0 → (task_of s k).upper ≡ s.epoch
    → Guarded (block_of s (task_of s k).candidate).birth (task_of s k) (block_of s (task_of s k).candidate)

-- a slot's block is shown, and born by now
block_born : (s : State) (v : ℕ) → Sound s → (block_of s v).birth ≤ s.epoch
block_born s zero h = omega arith
block_born s (suc i) h = born (h.blocks i)

found : (s₀ : State) (c : Call) (s : State) (k e : ℕ) (r : TaskRow) → Sound s → Looking s → s.epoch ≤ e
    → TaskMove s₀ c s k (task_of s k) r → r.phase ≡ 2 → r.candidate ≢ 0 → r.upper ≡ e
    → Guarded (block_of s r.candidate).birth (task_of s k) (block_of s r.candidate)
unfolding Looking
found s₀ c s k e r h f l (TaskMove.stays q) p n u = rw q (f k p' (rw q at n) (omega (arith, interval (h.tasks k) (λ z. omega (arith, p')), rw q at u)))
  where
    p' : (task_of s k).phase ≡ 2
    p' = rw q at p
found s₀ c s k e r h f l (TaskMove.begins y q) p n u = absurd (omega (arith, rw q at p))
found s₀ c s k e r h f l (TaskMove.looked m j y q) p n u = rw q (go (h.slots j))
  where
    go : SlotOk s (slot_of s j) → Guarded (block_of s (slot_of s j)).birth (task_of s k) (block_of s (slot_of s j))
    go (SlotOk.empty z) = absurd (n (ap (λ (t : TaskRow). t.candidate) q ∙ z))
    go (SlotOk.names z) = record { busy = y; alive = Alive.shown z; same = refl; covers = omega (arith, block_born s (slot_of s j) h, interval (h.tasks k) y, rw q at u) }
found s₀ c s k e r h f l (TaskMove.settling m y q) p n u = absurd (omega (arith, rw q at p))
found s₀ c s k e r h f l (TaskMove.counting m y q) p n u = rw q (f k (rw q at p) (rw q at n) (omega (arith, interval (h.tasks k) y, rw q at u)))
found s₀ c s k e r h f l (TaskMove.ending m y q) p n u = absurd (omega (arith, rw q at p))

change_looking : (s₀ : State) (c : Call) (s s' : State) → Sound s → Change s₀ c s s' → Looking s → Looking s'
unfolding Looking
change_looking s₀ c s s' h ch f k p n u = anew (guarded_kept s₀ c s s' _ k (task_of s' k).candidate h ch (λ z. omega arith)
    (found s₀ c s k s'.epoch (task_of s' k) h f ch.rises (ch.tasks k) p n u))
  where
    anew : {β : ℕ} {r : TaskRow} {x : BlockRow} → Guarded β r x → Guarded x.birth r x
    anew g = record { busy = g.busy; alive = g.alive; same = refl; covers = g.covers }

-- both invariants, of a run
pub record Right (s : State) : Type 0 where
  pub sound : Sound s
  pub looking : Looking s

run_right : (s : State) (cs : List Call) → Right s → Right (after s cs)
run_right s [] h = h
run_right s (c ∷ cs) h = run_right (step s c).after cs
    (step_keeps Right s c (λ a b ch o. record { sound = change_sound s c a b ch o.sound; looking = change_looking s c a b o.sound ch o.looking }) h)

opened_right : (T N P F E : ℕ) → sized T N P F E ≡ true → Right (opened T N P F E)
unfolding Looking
opened_right T N P F E e = record { sound = opened-sound T N P F E e; looking = λ k p. absurd (omega (arith, rw (at_replicate T idle_task k) at p)) }

pub reached_right : {s : State} → Reached s → Right s
reached_right r = rw r.leads (run_right _ r.calls (opened_right r.T r.N r.P r.F r.E r.within))

-- a guarded block stays guarded by a run of calls that don't end its task
pub record Held (β k b : ℕ) (s : State) : Type 0 where
  pub sound : Sound s
  pub guarded : Guarded β (task_of s k) (block_of s b)

pub run-held : (β k b : ℕ) (s : State) (cs : List Call) → never_ends k s cs ≡ true → Held β k b s → Held β k b (after s cs)
run-held β k b s [] e h = h
run-held β k b s (c ∷ cs) e h = let t = two (not (ends_task k s c)) _ e in run-held β k b (step s c).after cs t.1
    (step_keeps (Held β k b) s c (λ a z ch o. record {
      sound = change_sound s c a z ch o.sound;
      guarded = guarded_kept s c a z β k b o.sound ch (awake s c a k (task_of a k) (task_of z k) (not-true _ t.0) (ch.tasks k) o.guarded.busy) o.guarded;
    }) h)

-- a settle of kind 0 guards what it hands out: upper was the epoch already
pub settle_guards : (s : State) (k : ℕ) → Right s → (settle s k).kind ≡ 0 → (settle s k).value ≢ 0
    → Guarded (block_of s (settle s k).value).birth (task_of (settle s k).after k) (block_of (settle s k).after (settle s k).value)
unfolding settle Looking
settle_guards s k h = checked_cases
    (λ o. o.kind ≡ 0 → o.value ≢ 0 → Guarded (block_of s o.value).birth (task_of o.after k) (block_of o.after o.value)) s (settle_checks s k) (settle_done s k)
    (λ n e z. absurd (z refl)) (λ t e z. go (eqb-true _ _ (not-false _ t.1.0)) (leb-false _ _ t.0) (reserved s k) refl z)
  where
    go : (task_of s k).phase ≡ 2 → k < length s.tasks → (x : Bool) → reserved s k ≡ x → cond x (task_of s k).candidate 0 ≢ 0
        → Guarded (block_of s (cond x (task_of s k).candidate 0)).birth (task_of (with_task s k (settled s.epoch (task_of s k))) k)
        (block_of s (cond x (task_of s k).candidate 0))
    go p l true q z = let g = h.looking k p z (eqb-true _ _ q) in
        rw (get_or-set_same s.tasks k (settled s.epoch (task_of s k)) idle_task l)
        (record { busy = λ e. omega arith; alive = g.alive; same = g.same; covers = omega (arith, g.covers, eqb-true (task_of s k).upper s.epoch q) })
    go p l false q z = absurd (z refl)

pub safe : (s : State) (k : ℕ) (cs : List Call) → Right s → (settle s k).kind ≡ 0 → (settle s k).value ≢ 0 → never_ends k (settle s k).after cs ≡ true
    → Guarded (block_of s (settle s k).value).birth (task_of (after (settle s k).after cs) k) (block_of (after (settle s k).after cs) (settle s k).value)
safe s k cs h e z n = (run-held _ k (settle s k).value (settle s k).after cs n
    (record { sound = step-sound s (Call.settles k) h.sound; guarded = settle_guards s k h e z })).guarded
