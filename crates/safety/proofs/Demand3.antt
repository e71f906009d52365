-- Demand 3, of any calls by the rules after an accepted open and before another, refused calls among them. The words it is said in are in
-- `Terms` and `Calls` of rules' specs; what it rests on is in rules' proofs. Assumes nothing.
use Prim.Native.Nat.{ℕ, ◌+◌, ◌-◌, ◌*◌, ◌≤◌, ◌<◌}
use mathlib.Core.Path.{◌≡◌, refl, ap, ◌∙◌}
use mathlib.Core.Logic.{◌≢◌}
use mathlib.Core.Bool.{true, ◌&&◌, ◌||◌}
use mathlib.Core.List.{List, [], map}
use lib.ListN.{length}
use lib.Dec.{eqb}
use Rattle.table.specs.Lists.{some}
use Rattle.table.specs.State.{State, task_of, block_of, slot_of, is_shown, is_retired, met_by}
use Rattle.table.specs.Soundness.{sized, sound_state}
use Rattle.table.specs.Words.{words, state_of}
use Rattle.table.proofs.Sound.{sound_of, of_sound}
use Rattle.rules.specs.OnTable.{on_table, in_words}
use Rattle.rules.specs.Steps.{opened, start, look, settle}
use Rattle.rules.specs.Calls.{Call, step, after, table_after, never_ends}
use Rattle.rules.specs.Terms.{Reached, ReachedTable, look_stands, kept, held_back, limit, spare, swept_all}
use Rattle.rules.proofs.Kept.{opened-sound, step-sound}
use Rattle.rules.proofs.Guarded.{reached_right, safe, alive_says}
use Rattle.rules.proofs.Limit.{lower_stays, sharp_limit, within-limit}
use Rattle.rules.proofs.Sweeps.{sweep-all, still_retired}
use Rattle.rules.proofs.Runs.{table_reached, table-words, call_on_words, run_on_words}
use Rattle.rules.proofs.Retries.{no_retry, retry_rose, look_still, upper_at_start, upper_at_settle}

-- Every state that is reached is sound.
pub always_sound : {s : State} → Reached s → sound_state s ≡ true
always_sound {s} r = of_sound s (reached_right r).sound

-- For an accepted open leaves a sound state,
pub open_is_sound : (T N P F E : ℕ) → sized T N P F E ≡ true → sound_state (opened T N P F E) ≡ true
open_is_sound T N P F E e = of_sound _ (opened-sound T N P F E e)

-- and every step, whatever its numbers and its answer, keeps a sound state sound.
pub step_keeps_sound : (s : State) (c : Call) → sound_state s ≡ true → sound_state (step s c).after ≡ true
step_keeps_sound s c e = of_sound _ (step-sound s c (sound_of s e))

-- SAFE. A block that a settled read hands to a task isn't freed before that task ends its operation: where a settle of task k answers kind 0
-- and block b, then after any calls in which no end of k is accepted, and so at each point on the way, b is shown or retired, with the birth
-- that it had.
pub never_freed : {s e : State} → Reached s → (k b : ℕ) (cs : List Call) → (settle s k).kind ≡ 0 → (settle s k).value ≡ b → b ≢ 0
    → never_ends k (settle s k).after cs ≡ true → e ≡ after (settle s k).after cs
    → (is_shown (block_of e b) || is_retired (block_of e b) ≡ true) × ((block_of e b).birth ≡ (block_of s b).birth)
never_freed {s} r k b cs z v n never q = rw (q, ← v) (let g = safe s k cs (reached_right r) z (rw v n) never in (alive_says g.alive, g.same))

-- LIMIT. While an operation's reserved interval is L to U, the retired blocks that meet it number at most K + (U − L) × F and the makes that
-- the tasks had left before one of each raises the epoch; where K blocks were not free, and these were left, just before it started: a start of
-- task k is accepted in s, then come any calls in which no end of k is accepted.
pub at_most_sharply : {s e : State} → Reached s → (k L U : ℕ) (cs : List Call) → (start s k).kind ≡ 0
    → never_ends k (start s k).after cs ≡ true → e ≡ after (start s k).after cs → (task_of e k).lower ≡ L → (task_of e k).upper ≡ U
    → held_back e L U ≤ kept s + (U - L) * s.per_epoch + spare s
at_most_sharply {s} r k L U cs z never q l u = let h = (reached_right r).sound in rw (← u, ← l, q, lower_stays s k cs h z never) (sharp_limit s k cs h z never)

-- So they number at most K + (U − L) × F + T × (F − 1), since each task has at most F − 1 left.
pub at_most : {s e : State} → Reached s → (k L U : ℕ) (cs : List Call) → (start s k).kind ≡ 0
    → never_ends k (start s k).after cs ≡ true → e ≡ after (start s k).after cs → (task_of e k).lower ≡ L → (task_of e k).upper ≡ U
    → held_back e L U ≤ limit (kept s) L U s.per_epoch (length s.tasks)
at_most {s} r k L U cs z never q l u = let h = (reached_right r).sound in rw (← u, ← l, q, lower_stays s k cs h z never) (within-limit s k cs h z never)

-- And L is the epoch of that start, all the while.
pub lower_is_start : {s e : State} → Reached s → (k : ℕ) (cs : List Call) → (start s k).kind ≡ 0
    → never_ends k (start s k).after cs ≡ true → e ≡ after (start s k).after cs → (task_of e k).lower ≡ s.epoch
lower_is_start {s} r k cs z never q = rw q (lower_stays s k cs (reached_right r).sound z never)

-- SWEEPS. If all tasks are swept with nothing between, in any order, the retired blocks left are exactly those that some task's interval
-- meets: each other retired block is free, and nothing else has changed.
pub all-swept : (s : State) (ks : List ℕ) → sound_state s ≡ true → ((k : ℕ) → k < length s.tasks → some (eqb k) ks ≡ true)
    → after s (map Call.sweeps ks) ≡ swept_all s
all-swept s ks h every = sweep-all s ks (sound_of s h) every

-- Of each block, by its number.
pub left-retired : (s : State) (ks : List ℕ) → sound_state s ≡ true → ((k : ℕ) → k < length s.tasks → some (eqb k) ks ≡ true)
    → (b : ℕ) → is_retired (block_of (after s (map Call.sweeps ks)) b) ≡ is_retired (block_of s b) && some (met_by (block_of s b)) s.tasks
left-retired s ks h every b = ap (λ (z : State). is_retired (block_of z b)) (all-swept s ks h every) ∙ still_retired s b

-- WORDS. All of this is so of the lent words. A table that calls have led to from an accepted open says a state that is reached, and is that
-- state's words;
pub words_reached : {t : List ℕ} → ReachedTable t → Reached (state_of t) × (t ≡ words (state_of t))
words_reached r = (table_reached r, table-words r)

-- a call on it answers what the rule answers of that state, and leaves the words of the state after it;
pub words_step : {t : List ℕ} → ReachedTable t → (c : Call) → on_table t (λ s. step s c) ≡ in_words (step (state_of t) c)
words_step r c = call_on_words r c

-- and calls lead from it to the words of the state that they lead to.
pub words-run : {t : List ℕ} → ReachedTable t → (cs : List Call) → table_after t cs ≡ words (after (state_of t) cs)
words-run r cs = run_on_words r cs

-- RETRIES only where the epoch rose. A look of task k is accepted while its upper end is the epoch; then come calls that don't raise the epoch,
-- no accepted look, settle or end of k among them: k's settle answers kind 0 with what the slot held.
pub settles : (s : State) {e : State} (k p : ℕ) (cs : List Call) → (look s k p).kind ≡ 0 → (task_of s k).upper ≡ s.epoch
    → look_stands k (look s k p).after cs ≡ true → e ≡ after (look s k p).after cs → e.epoch ≡ s.epoch
    → ((settle e k).kind ≡ 0) × ((settle e k).value ≡ slot_of s p)
settles s k p cs z u stands q same = rw q (no_retry s k p cs z u stands (rw q at same))

-- With nothing between.
pub settles_at_once : (s : State) (k p : ℕ) → (look s k p).kind ≡ 0 → (task_of s k).upper ≡ s.epoch
    → ((settle (look s k p).after k).kind ≡ 0) × ((settle (look s k p).after k).value ≡ slot_of s p)
settles_at_once s k p z u = no_retry s k p [] z u refl (look_still s k p)

-- So where it answers kind 11, look again, the epoch rose since the look.
pub retried_after_rise : (s : State) {e : State} (k p : ℕ) (cs : List Call) → (look s k p).kind ≡ 0 → (task_of s k).upper ≡ s.epoch
    → look_stands k (look s k p).after cs ≡ true → e ≡ after (look s k p).after cs → (settle e k).kind ≡ 11 → s.epoch < e.epoch
retried_after_rise s k p cs z u stands q again = rw q (retry_rose s k p cs z u stands (rw q at again))

-- And upper is the epoch after each accepted start, and after each settle, whichever it answers.
pub begins-reserved : (s : State) (k : ℕ) → (start s k).kind ≡ 0 → (task_of (start s k).after k).upper ≡ (start s k).after.epoch
begins-reserved = upper_at_start

pub settles-reserved : (s : State) (k : ℕ) → (task_of s k).phase ≡ 2 → (task_of (settle s k).after k).upper ≡ (settle s k).after.epoch
settles-reserved = upper_at_settle
