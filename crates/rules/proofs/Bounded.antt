-- How many blocks may be in use and born by an epoch: every call keeps the bound. Assumes nothing.
use Prim.Native.Nat.{ℕ, suc, ◌+◌, ◌-◌, ◌*◌, ◌%◌, ◌≤◌, ◌<◌}
use native.Mathlib.Nat.{le_refl, mul-le-mul_right, suc-mul, mod-lt}
use native.Mathlib.Decide.{dec_lt}
use native.Mathlib.Omega.{arith}
use mathlib.Core.Path.{◌≡◌, refl, sym, ap, ◌∙◌}
use mathlib.Core.Logic.{◌≢◌}
use mathlib.Core.Bool.{true, false, cond, ◌&&◌, true≢false}
use mathlib.Core.List.{List, [], ◌∷◌}
use lib.ListN.{length, get_or, length-set}
use lib.Dec.{leb}
use borrow.Author.Tests.{leb-false, ne_eqb, le-leb, lt-leb}
use Rattle.table.specs.State.{State, TaskRow, BlockRow, idle_task, free_block, task_of, is_free}
use Rattle.rules.specs.Effects.{counted, made}
use Rattle.rules.specs.Steps.{make, make_checks, make_done, made_at, epoch_after}
use Rattle.rules.specs.Calls.{Call, step, after}
use Rattle.rules.specs.Terms.{sum, in_use}
use Rattle.rules.proofs.Sums.{sum_le, sum-set, sum_bound, Steps, steps}
use Rattle.rules.proofs.Checks.{passed, checked_cases}
use Rattle.rules.proofs.Changes.{is_make, Change, TaskMove, BlockMove, step_keeps, taken}

-- in use and born no later than U, as 1 or 0
abbrev pub live : (U : ℕ) → BlockRow → ℕ
live U b = cond (in_use b && leb b.birth U) 1 0

-- a task's makes since the last that raised the epoch
abbrev pub over : (F : ℕ) → TaskRow → ℕ
over F r = r.makes % F

-- a make's arithmetic. n blocks are live and the tasks' makes over are S. One more make: x over becomes 0 while the epoch rises, or one more;
-- and past U the bound is the last that was reached
low_wraps : (K R L F n n' S S' x e e' : ℕ) → e' ≡ e + 1 → L ≤ e → x + 1 ≡ F → S' + x ≡ S + 0 → n' ≡ n + 1 → n + R ≤ K + (e - L) * F + S → n' + R ≤ K + (e' - L) * F + S'
low_wraps K R L F n n' S S' x e e' q l w t b h = rw (shift, suc-mul (e - L) F) (omega arith)
  where
    shift : e' - L ≡ suc (e - L)
    shift = omega arith

low_grows : (K R L F n n' S S' x e e' : ℕ) → e' ≡ e → S' + x ≡ S + (x + 1) → n' ≡ n + 1 → n + R ≤ K + (e - L) * F + S → n' + R ≤ K + (e' - L) * F + S'
low_grows K R L F n n' S S' x e e' q t b h = rw q (omega arith)

high_meets : (K R L U F n n' S B e : ℕ) → e ≤ U → S ≤ B → n' ≡ n + 0 → n + R ≤ K + (e - L) * F + S → n' + R ≤ K + (U - L) * F + B
high_meets K R L U F n n' S B e l m b h = omega (arith, mul-le-mul_right {m = e - L} {n = U - L} F (omega arith))

-- K blocks in use and R makes over at epoch L, T tasks, F makes per epoch
module _ (K R L U F T : ℕ) where
  pub record Bounded (s : State) : Type 0 where
    pub per_epoch : s.per_epoch ≡ F
    pub tasks : length s.tasks ≡ T
    pub late : L ≤ s.epoch
    pub low : s.epoch ≤ U → sum (live U) s.blocks + R ≤ K + (s.epoch - L) * F + sum (over F) s.tasks
    pub high : U < s.epoch → sum (live U) s.blocks + R ≤ K + (U - L) * F + T * (F - 1)

  -- only a make adds a block, and only a make counts
  live_falls : (c : Call) (s s' : State) (i : ℕ) (b b' : BlockRow) → is_make c ≡ false → BlockMove c s s' i b b' → live U b' ≤ live U b
  live_falls c s s' i b b' e (BlockMove.stays q) = rw q (le_refl _)
  live_falls c s s' i b b' e (BlockMove.making m k l z q) = absurd (true≢false (sym m ∙ e))
  live_falls c s s' i b b' e (BlockMove.showing z q) = rw (q, z) (le_refl _)
  live_falls c s s' i b b' e (BlockMove.retiring k l y z w q) = rw (q, ne_eqb _ _ y) (le_refl _)
  live_falls c s s' i b b' e (BlockMove.freeing z u q) = rw q (omega arith)

  makes-same : (s₀ : State) (c : Call) (s : State) (k : ℕ) (r r' : TaskRow) → is_make c ≡ false → TaskMove s₀ c s k r r' → r'.makes ≡ r.makes
  makes-same s₀ c s k r r' e (TaskMove.stays q) = ap (λ (t : TaskRow). t.makes) q
  makes-same s₀ c s k r r' e (TaskMove.begins y q) = ap (λ (t : TaskRow). t.makes) q
  makes-same s₀ c s k r r' e (TaskMove.looked m p y q) = ap (λ (t : TaskRow). t.makes) q
  makes-same s₀ c s k r r' e (TaskMove.settling m y q) = ap (λ (t : TaskRow). t.makes) q
  makes-same s₀ c s k r r' e (TaskMove.counting m y q) = absurd (true≢false (sym m ∙ e))
  makes-same s₀ c s k r r' e (TaskMove.ending m y q) = ap (λ (t : TaskRow). t.makes) q

  change_bounded : (s₀ : State) (c : Call) (s s' : State) → is_make c ≡ false → Change s₀ c s s' → Bounded s → Bounded s'
  change_bounded s₀ c s s' e ch h =
      let b : sum (live U) s'.blocks ≤ sum (live U) s.blocks =
      sum_le (live U) (live U) s'.blocks s.blocks free_block ch.blocks_length (λ i. live_falls c s s' i _ _ e (ch.blocks i)) in
      let m : sum (over F) s.tasks ≤ sum (over F) s'.tasks =
      sum_le (over F) (over F) s.tasks s'.tasks idle_task (sym ch.tasks_length) (λ k. rw (makes-same s₀ c s k _ _ e (ch.tasks k)) (le_refl _)) in
      record {
        per_epoch = ch.per_epoch ∙ h.per_epoch;
        tasks = ch.tasks_length ∙ h.tasks;
        late = rw (ch.still e) h.late;
        low = rw (ch.still e) (λ l. omega (arith, h.low l));
        high = rw (ch.still e) (λ l. omega (arith, h.high l));
      }

  over_bound : 0 < F → (ts : List TaskRow) → length ts ≡ T → sum (over F) ts ≤ T * (F - 1)
  over_bound p ts e = rw (← e) (sum_bound (over F) ts (F - 1) (λ r. omega (arith, mod-lt r.makes p)))

  -- a make of task k, of the free block at place i, at the epoch after it
  made_bounded : (s : State) (k i : ℕ) → 0 < F → Bounded s → k < length s.tasks → i < length s.blocks → is_free (get_or s.blocks i free_block) ≡ true
      → Bounded (made_at s k (suc i) (epoch_after s (task_of s k).makes))
  made_bounded s k i p h lk li z = record {
    per_epoch = h.per_epoch;
    tasks = length-set s.tasks k _ ∙ h.tasks;
    late = go_late (steps F (task_of s k).makes p);
    low = go_low (steps F (task_of s k).makes p);
    high = go_high (dec_lt U s.epoch);
  }
    where
      e' : ℕ
      e' = epoch_after s (task_of s k).makes

      n' : ℕ
      n' = sum (live U) (made_at s k (suc i) (epoch_after s (task_of s k).makes)).blocks

      S' : ℕ
      S' = sum (over F) (made_at s k (suc i) (epoch_after s (task_of s k).makes)).tasks

      raised : ((task_of s k).makes + 1) % F ≡ 0 → e' ≡ s.epoch + 1
      raised e = rw (h.per_epoch, e)

      level : ((task_of s k).makes + 1) % F ≢ 0 → e' ≡ s.epoch
      level e = rw (h.per_epoch, ne_eqb _ _ e)

      blocks : n' ≡ sum (live U) s.blocks + cond (leb e' U) 1 0
      blocks = let e : live U (get_or s.blocks i free_block) ≡ 0 = rw z in
          let q : n' + live U (get_or s.blocks i free_block) ≡ sum (live U) s.blocks + cond (leb e' U) 1 0 = sum-set (live U) s.blocks i (made k e') free_block li in
          omega arith

      tasks : S' + (task_of s k).makes % F ≡ sum (over F) s.tasks + ((task_of s k).makes + 1) % F
      tasks = sum-set (over F) s.tasks k (counted (task_of s k)) idle_task lk

      more : e' ≤ U → n' ≡ sum (live U) s.blocks + 1
      more l = rw (le-leb e' U l) at blocks

      equal : U < e' → n' ≡ sum (live U) s.blocks + 0
      equal l = rw (lt-leb e' U l) at blocks

      go_late : Steps F (task_of s k).makes → L ≤ e'
      go_late (Steps.wraps z w) = rw (raised z) (omega (arith, h.late))
      go_late (Steps.grows z w) = rw (level z) h.late

      go_low : Steps F (task_of s k).makes → e' ≤ U → n' + R ≤ K + (e' - L) * F + S'
      go_low (Steps.wraps z w) l = low_wraps K R L F _ _ _ _ ((task_of s k).makes % F) s.epoch _
          (raised z) h.late w (rw z at tasks) (more l) (h.low (omega (arith, raised z)))
      go_low (Steps.grows z w) l = low_grows K R L F _ _ _ _ ((task_of s k).makes % F) s.epoch _
          (level z) (rw w at tasks) (more l) (h.low (omega (arith, level z)))

      go_high : Dec (U < s.epoch) → U < e' → n' + R ≤ K + (U - L) * F + T * (F - 1)
      go_high (yes m) l = omega (arith, equal l, h.high m)
      go_high (no m) l = high_meets K R L U F (sum (live U) s.blocks) _ (sum (over F) s.tasks) _ s.epoch
          (omega arith) (over_bound p s.tasks h.tasks) (equal l) (h.low (omega arith))

  make_bounded : (s : State) (k : ℕ) → 0 < F → Bounded s → passed (make_checks s k) → Bounded (make_done s k).after
  make_bounded s k p h t = let f = taken s t.1.1.0 in rw f.1 (made_bounded s k f.0 p h (leb-false _ _ t.0) f.2 f.3)

  other_bounded : (s : State) (c : Call) → is_make c ≡ false → Bounded s → Bounded (step s c).after
  other_bounded s c e h = step_keeps Bounded s c (λ a b ch o. change_bounded s c a b e ch o) h

  step_bounded : 0 < F → (s : State) (c : Call) → Bounded s → Bounded (step s c).after
  unfolding make
  step_bounded p s (Call.makes k) h = checked_cases (λ o. Bounded o.after) s (make_checks s k) (make_done s k) (λ n. h) (λ t. make_bounded s k p h t)
  step_bounded p s (Call.starts k) h = other_bounded s (Call.starts k) refl h
  step_bounded p s (Call.looks k q) h = other_bounded s (Call.looks k q) refl h
  step_bounded p s (Call.settles k) h = other_bounded s (Call.settles k) refl h
  step_bounded p s (Call.swaps k q old new) h = other_bounded s (Call.swaps k q old new) refl h
  step_bounded p s (Call.retires k b) h = other_bounded s (Call.retires k b) refl h
  step_bounded p s (Call.sweeps k) h = other_bounded s (Call.sweeps k) refl h
  step_bounded p s (Call.ends k) h = other_bounded s (Call.ends k) refl h
  step_bounded p s (Call.tallies state) h = other_bounded s (Call.tallies state) refl h

  pub run_bounded : 0 < F → (s : State) (cs : List Call) → Bounded s → Bounded (after s cs)
  run_bounded p s [] h = h
  run_bounded p s (c ∷ cs) h = run_bounded p (step s c).after cs (step_bounded p s c h)

  -- what either half says in the end
  pub bounded_says : 0 < F → (s : State) → Bounded s → sum (live U) s.blocks + R ≤ K + (U - L) * F + T * (F - 1)
  bounded_says p s h = go (dec_lt U s.epoch)
    where
      go : Dec (U < s.epoch) → sum (live U) s.blocks + R ≤ K + (U - L) * F + T * (F - 1)
      go (yes m) = h.high m
      go (no m) = high_meets K R L U F (sum (live U) s.blocks) _ (sum (over F) s.tasks) _ s.epoch
          (omega arith) (over_bound p s.tasks h.tasks) (omega arith) (h.low (omega arith))
