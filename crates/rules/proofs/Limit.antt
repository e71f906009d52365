-- How many retired blocks a task's interval may hold back: first with what each task had spare, then demand 3's limit. Assumes nothing.
use Prim.Native.Nat.{ℕ, ◌+◌, ◌-◌, ◌*◌, ◌≤◌, ◌<◌}
use native.Mathlib.Nat.{le_refl, mod-lt}
use native.Mathlib.Omega.{arith}
use mathlib.Core.Path.{◌≡◌, refl, sym, ap, ◌∙◌}
use mathlib.Core.Logic.{◌≢◌}
use mathlib.Core.Bool.{Bool, true, false, cond, not, ◌&&◌, true≢false}
use mathlib.Core.List.{List, [], ◌∷◌}
use lib.ListN.{length, get_or}
use lib.Seq.{get_or-set_same}
use lib.Dec.{leb}
use borrow.Author.Tests.{leb-false, eqb-true, not-true}
use Rattle.table.specs.State.{State, TaskRow, BlockRow, idle_task, free_block, task_of, is_retired}
use Rattle.table.proofs.Tests.{two, cond_cases}
use Rattle.table.proofs.Sound.{Sound, interval}
use Rattle.rules.specs.Outcome.{Outcome}
use Rattle.rules.specs.Effects.{begun}
use Rattle.rules.specs.Steps.{start, start_checks, start_done}
use Rattle.rules.specs.Calls.{Call, step, after, ends_task, never_ends}
use Rattle.rules.specs.Terms.{sum, in_use, kept, held_by, held_back, spare_of, spare, limit}
use Rattle.rules.proofs.Sums.{count-sum, sum_le, sum_bound, sum_split}
use Rattle.rules.proofs.Checks.{accepted}
use Rattle.rules.proofs.Changes.{TaskMove, step_keeps}
use Rattle.rules.proofs.Kept.{step-sound, change_sound}
use Rattle.rules.proofs.Guarded.{awake}
use Rattle.rules.proofs.Bounded.{live, over, Bounded, run_bounded, bounded_says}

-- a retired block that the interval meets is live, and a live block is in use
held_live : (L U : ℕ) (b : BlockRow) → cond (held_by L U b) 1 0 ≤ live U b
held_live L U b = go (is_retired b) (leb b.birth U) refl refl
  where
    go : (x y : Bool) → is_retired b ≡ x → leb b.birth U ≡ y → cond (x && (y && leb L b.retire)) 1 0 ≤ cond (in_use b && y) 1 0
    go false y p q = omega arith
    go true false p q = omega arith
    go true true p q = rw (eqb-true b.state 3 p) (cond_cases (λ n. n ≤ 1) (leb L b.retire) 1 0 (λ e. le_refl _) (λ e. omega arith))

live_used : (U : ℕ) (b : BlockRow) → live U b ≤ cond (in_use b) 1 0
live_used U b = go (in_use b) (leb b.birth U)
  where
    go : (x y : Bool) → cond (x && y) 1 0 ≤ cond x 1 0
    go true true = le_refl _
    go true false = omega arith
    go false y = le_refl _

-- from any sound state on, for any U: what is in use there, what the epochs between allow, and what the tasks have spare there
pub any_limit : (s : State) (cs : List Call) (U : ℕ) → Sound s → s.epoch ≤ U
    → held_back (after s cs) s.epoch U ≤ kept s + (U - s.epoch) * s.per_epoch + spare s
any_limit s cs U h l = omega (
  arith,
  split,
  bounded_says _ _ _ _ _ _ p (after s cs) (run_bounded (kept s) R s.epoch U s.per_epoch (length s.tasks) p s cs at_first),
  held,
)
  where
    R : ℕ
    R = sum (over s.per_epoch) s.tasks

    p : 0 < s.per_epoch
    p = h.limits.per_epoch.0

    used : sum (live U) s.blocks ≤ kept s
    used = rw (count-sum in_use s.blocks) (sum_le (live U) _ s.blocks s.blocks free_block refl (λ i. live_used U (get_or s.blocks i free_block)))

    at_first : Bounded (kept s) R s.epoch U s.per_epoch (length s.tasks) s
    at_first = record { per_epoch = refl; tasks = refl; late = le_refl _; low = λ m. omega (arith, used); high = λ m. absurd (omega arith) }

    split : spare s + R ≡ length s.tasks * (s.per_epoch - 1)
    split = sum_split _ (over s.per_epoch) s.tasks (s.per_epoch - 1) (λ r. omega (arith, mod-lt r.makes p))

    held : held_back (after s cs) s.epoch U ≤ sum (live U) (after s cs).blocks
    held = rw (count-sum (held_by s.epoch U) (after s cs).blocks)
        (sum_le _ (live U) (after s cs).blocks (after s cs).blocks free_block refl (λ i. held_live s.epoch U (get_or (after s cs).blocks i free_block)))

-- a task at work keeps its lower end until it ends
record At (k L : ℕ) (s : State) : Type 0 where
  sound : Sound s
  busy : (task_of s k).phase ≢ 0
  lower : (task_of s k).lower ≡ L

lower-same : (s₀ : State) (c : Call) (s : State) (k : ℕ) (r r' : TaskRow) → ends_task k s₀ c ≡ false → r.phase ≢ 0 → TaskMove s₀ c s k r r' → r'.lower ≡ r.lower
lower-same s₀ c s k r r' e z (TaskMove.stays q) = ap (λ (t : TaskRow). t.lower) q
lower-same s₀ c s k r r' e z (TaskMove.begins y q) = absurd (z y)
lower-same s₀ c s k r r' e z (TaskMove.looked m p y q) = ap (λ (t : TaskRow). t.lower) q
lower-same s₀ c s k r r' e z (TaskMove.settling m y q) = ap (λ (t : TaskRow). t.lower) q
lower-same s₀ c s k r r' e z (TaskMove.counting m y q) = ap (λ (t : TaskRow). t.lower) q
lower-same s₀ c s k r r' e z (TaskMove.ending m y q) = absurd (true≢false (sym m ∙ e))

run_at : (k L : ℕ) (s : State) (cs : List Call) → never_ends k s cs ≡ true → At k L s → At k L (after s cs)
run_at k L s [] e h = h
run_at k L s (c ∷ cs) e h = let t = two (not (ends_task k s c)) _ e in run_at k L (step s c).after cs t.1
    (step_keeps (At k L) s c (λ a b ch o. record {
      sound = change_sound s c a b ch o.sound;
      busy = awake s c a k (task_of a k) (task_of b k) (not-true _ t.0) (ch.tasks k) o.busy;
      lower = lower-same s c a k (task_of a k) (task_of b k) (not-true _ t.0) o.busy (ch.tasks k) ∙ o.lower;
    }) h)

-- an accepted start
pub started : (s : State) (k : ℕ) → (start s k).kind ≡ 0 → task_of (start s k).after k ≡ begun s.epoch (task_of s k)
unfolding start
started s k e = let a = accepted s (start_checks s k) (start_done s k) refl e in
    ap (λ (o : Outcome). task_of o.after k) a.0 ∙ get_or-set_same s.tasks k _ idle_task (leb-false _ _ a.1.0)

-- from an accepted start of task k in s, while k has not ended
module _ (s : State) (k : ℕ) (cs : List Call) (h : Sound s) (e : (start s k).kind ≡ 0) (n : never_ends k (start s k).after cs ≡ true) where
  at_work : At k s.epoch (after (start s k).after cs)
  at_work = run_at k s.epoch (start s k).after cs n
      (record { sound = step-sound s (Call.starts k) h; busy = rw (started s k e) (λ z. omega arith); lower = ap (λ (t : TaskRow). t.lower) (started s k e) })

  pub lower_stays : (task_of (after (start s k).after cs) k).lower ≡ s.epoch
  lower_stays = at_work.lower

  pub sharp_limit : held_back (after (start s k).after cs) s.epoch (task_of (after (start s k).after cs) k).upper
      ≤ kept s + ((task_of (after (start s k).after cs) k).upper - s.epoch) * s.per_epoch + spare s
  sharp_limit = let a = at_work in
      any_limit s (Call.starts k ∷ cs) (task_of (after (start s k).after cs) k).upper h (omega (arith, a.lower, interval (a.sound.tasks k) a.busy))

  pub within-limit : held_back (after (start s k).after cs) s.epoch (task_of (after (start s k).after cs) k).upper
      ≤ limit (kept s) s.epoch (task_of (after (start s k).after cs) k).upper s.per_epoch (length s.tasks)
  within-limit = omega (arith, sharp_limit, sum_bound (spare_of s.per_epoch) s.tasks (s.per_epoch - 1) (λ r. omega arith))
