-- What each step may change of a task, a block and a slot. Every step is none, one or two such changes, so that what every change keeps,
-- a step keeps, and so a run. Assumes nothing.
use Prim.Native.Nat.{ℕ, zero, suc, ◌+◌, ◌≤◌, ◌<◌}
use native.Mathlib.Nat.{le_refl}
use native.Mathlib.Omega.{arith}
use mathlib.Core.Path.{◌≡◌, refl, sym, ap, ◌∙◌}
use mathlib.Core.Logic.{◌≢◌}
use mathlib.Core.Bool.{Bool, true, false, cond, not, true≢false}
use mathlib.Core.List.{List}
use lib.ListN.{length, get_or, length-set, length-map, get_or-map}
use lib.Seq.{get_or-set_same}
use lib.Dec.{eqb}
use borrow.Author.Tests.{leb-false, ltb-false, eqb-true, eqb-false, eq-eqb, not-false}
use Rattle.numbers.specs.Epochs.{last_epoch}
use Rattle.table.specs.Lists.{some}
use Rattle.table.specs.State.{TaskRow, BlockRow, State, idle_task, free_block, task_of, block_of, slot_of, is_free, is_made, is_shown, with_task, with_blocks}
use Rattle.table.proofs.Tests.{two, both, either, neither, cond_cases}
use Rattle.table.proofs.ByPlace.{at_all, at_set, none_at, first_at, first_none}
use Rattle.rules.specs.Outcome.{Outcome}
use Rattle.rules.specs.Effects.{begun, looking, settled, counted, ended, made, shown, shown_if_made, retired, freed}
use Rattle.rules.specs.Sweeping.{unmet, retired_by, frees, after_sweep, swept, sweep_done}
use Rattle.rules.specs.Steps.{start, start_checks, start_done, look, look_checks, look_done, settle, settle_checks, settle_done, reserved, make, make_checks, make_done, made_at, lowest_free, raises, epoch_after, most_makes, swap, swap_checks, swap_done, above_n, made_by, in_hand, shown_in, retire, retire_checks, retire_done, retired_in, named, sweeps_now, sweep, sweep_checks, end, end_checks, end_done, tally, tally_checks, tally_done}
use Rattle.rules.specs.Calls.{Call, starts, looks, settles, makes, swaps, retires, sweeps, ends, tallies, step, tag, ends_task}
use Rattle.rules.specs.Terms.{ends_look, is_accepted}
use Rattle.rules.proofs.Checks.{passed, checked_cases, works}

abbrev pub is_make : Call → Bool
is_make c = eqb (tag c) 5

-- what may become of task k, from state s on, by a call c that was made in state s₀
pub data TaskMove (s₀ : State) (c : Call) (s : State) (k : ℕ) (r r' : TaskRow) : Type 0 where
  stays : r' ≡ r → TaskMove s₀ c s k r r'
  begins : r.phase ≡ 0 → r' ≡ begun s.epoch r → TaskMove s₀ c s k r r'
  looked : ends_look k s₀ c ≡ true → (p : ℕ) → r.phase ≢ 0 → r' ≡ looking (slot_of s p) r → TaskMove s₀ c s k r r'
  settling : ends_look k s₀ c ≡ true → r.phase ≡ 2 → r' ≡ settled s.epoch r → TaskMove s₀ c s k r r'
  counting : is_make c ≡ true → r.phase ≢ 0 → r' ≡ counted r → TaskMove s₀ c s k r r'
  ending : ends_task k s₀ c ≡ true → r.phase ≢ 0 → r' ≡ ended r → TaskMove s₀ c s k r r'

-- what may become of the block at place i, whose number is one more
pub data BlockMove (c : Call) (s s' : State) (i : ℕ) (b b' : BlockRow) : Type 0 where
  stays : b' ≡ b → BlockMove c s s' i b b'
  making : is_make c ≡ true → (k : ℕ) → k < length s.tasks → b.state ≡ 0 → b' ≡ made k s'.epoch → BlockMove c s s' i b b'
  showing : b.state ≡ 1 → b' ≡ shown b → BlockMove c s s' i b b'
  retiring : (k : ℕ) → k < length s.tasks → b.state ≢ 0 → b.state ≢ 3 → ((p : ℕ) → slot_of s p ≢ suc i) → b' ≡ retired k s.epoch b → BlockMove c s s' i b b'
  freeing : b.state ≡ 3 → unmet s.tasks b ≡ true → b' ≡ freed → BlockMove c s s' i b b'

-- what may become of a slot
pub data SlotMove (s' : State) (v v' : ℕ) : Type 0 where
  stays : v' ≡ v → SlotMove s' v v'
  empties : v' ≡ 0 → SlotMove s' v v'
  gets : (block_of s' v').state ≡ 2 → SlotMove s' v v'

pub record Change (s₀ : State) (c : Call) (s s' : State) : Type 0 where
  pub tasks_length : length s'.tasks ≡ length s.tasks
  pub blocks_length : length s'.blocks ≡ length s.blocks
  pub slots_length : length s'.slots ≡ length s.slots
  pub per_epoch : s'.per_epoch ≡ s.per_epoch
  pub per_sweep : s'.per_sweep ≡ s.per_sweep
  pub rises : s.epoch ≤ s'.epoch
  pub last : s.epoch ≤ last_epoch → s'.epoch ≤ last_epoch
  pub still : is_make c ≡ false → s'.epoch ≡ s.epoch
  pub tasks : (k : ℕ) → TaskMove s₀ c s k (task_of s k) (task_of s' k)
  pub blocks : (i : ℕ) → BlockMove c s s' i (get_or s.blocks i free_block) (get_or s'.blocks i free_block)
  pub slots : (p : ℕ) → SlotMove s' (slot_of s p) (slot_of s' p)

-- a shown block, or one that the task made, is neither free nor retired
may_retire : (k : ℕ) (b : BlockRow) → in_hand k b ≡ true → (b.state ≢ 0) × (b.state ≢ 3)
may_retire k b e = either (is_shown b) (made_by k b) e
    (λ a. let h = eqb-true b.state 2 a in omega arith)
    (λ a. let h = eqb-true b.state 1 (two (is_made b) _ a).0 in omega arith)

-- and it is shown once a swap has put it into a slot
shown-after : (k : ℕ) (b : BlockRow) → in_hand k b ≡ true → (shown_if_made b).state ≡ 2
shown-after k b e = cond_cases (λ r. r.state ≡ 2) (is_made b) _ b (λ m. refl)
    (λ m. either (is_shown b) (made_by k b) e (λ a. eqb-true _ 2 a) (λ a. absurd (true≢false (sym (two (is_made b) _ a).0 ∙ m))))

-- the block that a make takes
pub taken : (s : State) → not (some is_free s.blocks) ≡ false
    → (i : ℕ) × (lowest_free s ≡ suc i) × (i < length s.blocks) × (is_free (get_or s.blocks i free_block) ≡ true)
taken s e = go (lowest_free s) refl
  where
    go : (n : ℕ) → lowest_free s ≡ n → (i : ℕ) × (lowest_free s ≡ suc i) × (i < length s.blocks) × (is_free (get_or s.blocks i free_block) ≡ true)
    go zero q = absurd (eqb-false (lowest_free s) 0 (first_none is_free 0 s.blocks ∙ e) q)
    go (suc m) q = let f = first_at is_free 0 s.blocks free_block m q in (f.0, q ∙ ap suc (omega (arith, f.1)), f.2, f.3)

module _ (s₀ : State) (c : Call) (s : State) where
  -- a change of one task
  task_change : (k : ℕ) (r : TaskRow) → TaskMove s₀ c s k (task_of s k) r → Change s₀ c s (with_task s k r)
  task_change k r m = record {
    tasks_length = length-set s.tasks k r;
    blocks_length = refl;
    slots_length = refl;
    per_epoch = refl;
    per_sweep = refl;
    rises = le_refl _;
    last = λ h. h;
    still = λ h. refl;
    tasks = at_set (TaskMove s₀ c s) s.tasks k r idle_task (λ j. stays refl) (λ h. m);
    blocks = λ i. stays refl;
    slots = λ p. stays refl;
  }

  -- a change of blocks alone
  blocks_change : (bs : List BlockRow) → length bs ≡ length s.blocks
      → ((i : ℕ) → BlockMove c s (with_blocks s bs) i (get_or s.blocks i free_block) (get_or bs i free_block))
      → Change s₀ c s (with_blocks s bs)
  blocks_change bs l m = record {
    tasks_length = refl;
    blocks_length = l;
    slots_length = refl;
    per_epoch = refl;
    per_sweep = refl;
    rises = le_refl _;
    last = λ h. h;
    still = λ h. refl;
    tasks = λ k. stays refl;
    blocks = m;
    slots = λ p. stays refl;
  }

  -- a sweep frees only blocks that no interval meets
  sweep_change : (k : ℕ) → Change s₀ c s (swept s k)
  unfolding frees
  sweep_change k = blocks_change _ (length-map s.blocks _) (λ i. rw (get_or-map (after_sweep s.tasks k) s.blocks i free_block) (move i))
    where
      move : (i : ℕ) → BlockMove c s (swept s k) i (get_or s.blocks i free_block) (after_sweep s.tasks k (get_or s.blocks i free_block))
      move i = cond_cases (BlockMove c s (swept s k) i (get_or s.blocks i free_block)) (frees s.tasks k (get_or s.blocks i free_block)) _ _
          (λ e. let t = two (retired_by k (get_or s.blocks i free_block)) _ e in freeing (eqb-true _ _ (two _ _ t.0).0) t.1 refl) (λ e. stays refl)

  retire_change : (k b : ℕ) → passed (retire_checks s k b) → Change s₀ c s (retired_in s k b)
  unfolding named
  retire_change k zero t = absurd (true≢false t.1.1.0)
  retire_change k (suc i) t = let may = may_retire k (block_of s (suc i)) (not-false _ t.1.1.1.0) in
      blocks_change _ (length-set s.blocks i _)
      (at_set (BlockMove c s (retired_in s k (suc i))) s.blocks i _ free_block (λ j. stays refl)
      (λ h. retiring k (leb-false _ _ t.0) may.0 may.1 unnamed refl))
    where
      unnamed : (p : ℕ) → slot_of s p ≢ suc i
      unnamed = at_all (λ v. v ≢ suc i) s.slots 0 (λ e. omega arith)
          (λ p l e. omega (arith, eqb-false (suc i) (slot_of s p) (none_at (eqb (suc i)) s.slots 0 p l t.1.1.1.1.0)))

  swap_change : (k p old new : ℕ) → passed (swap_checks s k p old new) → Change s₀ c s (shown_in s p new)
  swap_change k p old zero t = record {
    tasks_length = refl;
    blocks_length = refl;
    slots_length = length-set s.slots p 0;
    per_epoch = refl;
    per_sweep = refl;
    rises = le_refl _;
    last = λ h. h;
    still = λ h. refl;
    tasks = λ j. stays refl;
    blocks = λ i. stays refl;
    slots = at_set (λ j. SlotMove (shown_in s p 0)) s.slots p 0 0 (λ j. stays refl) (λ h. empties refl);
  }
  swap_change k p old (suc i) t = record {
    tasks_length = refl;
    blocks_length = length-set s.blocks i _;
    slots_length = length-set s.slots p (suc i);
    per_epoch = refl;
    per_sweep = refl;
    rises = le_refl _;
    last = λ h. h;
    still = λ h. refl;
    tasks = λ j. stays refl;
    blocks = at_set (BlockMove c s (shown_in s p (suc i))) s.blocks i _ free_block (λ j. stays refl) (λ h. move);
    slots = at_set (λ j. SlotMove (shown_in s p (suc i))) s.slots p (suc i) 0 (λ j. stays refl) (λ h. gets now);
  }
    where
      move : BlockMove c s (shown_in s p (suc i)) i (block_of s (suc i)) (shown_if_made (block_of s (suc i)))
      move = cond_cases (BlockMove c s (shown_in s p (suc i)) i (block_of s (suc i))) (is_made (block_of s (suc i))) _ _
          (λ e. showing (eqb-true _ _ e) refl) (λ e. stays refl)

      hand : in_hand k (block_of s (suc i)) ≡ true
      hand = either (eqb (suc i) 0) _ (not-false _ t.1.1.1.1.0) (λ (z : eqb (suc i) 0 ≡ true). absurd (omega (arith, eqb-true (suc i) 0 z))) (λ z. z)

      now : (block_of (shown_in s p (suc i)) (suc i)).state ≡ 2
      now = let l = ltb-false (length s.blocks) (suc i) (neither (above_n s old) _ t.1.1.1.0).1 in
          rw (get_or-set_same s.blocks i (shown_if_made (block_of s (suc i))) free_block (omega arith)) (shown-after k (block_of s (suc i)) hand)

  make_change : (k : ℕ) → is_make c ≡ true → passed (make_checks s k) → Change s₀ c s (make_done s k).after
  make_change k m t = rw f.1 record {
    tasks_length = length-set s.tasks k _;
    blocks_length = length-set s.blocks f.0 _;
    slots_length = refl;
    per_epoch = refl;
    per_sweep = refl;
    rises = cond_cases (λ e. s.epoch ≤ e) (raises s.per_epoch (task_of s k).makes) (s.epoch + 1) s.epoch (λ e. omega arith) (λ e. le_refl _);
    last = λ h. ltb-false last_epoch (epoch_after s (task_of s k).makes) (neither (eqb (task_of s k).makes most_makes) _ t.1.1.1.0).1;
    still = λ h. absurd (true≢false (sym m ∙ h));
    tasks = at_set (TaskMove s₀ c s) s.tasks k (counted (task_of s k)) idle_task (λ j. stays refl) (λ h. counting m (works (task_of s k) t.1.0) refl);
    blocks = at_set (BlockMove c s (made_at s k (suc f.0) (epoch_after s (task_of s k).makes))) s.blocks f.0 _ free_block (λ j. stays refl)
        (λ h. making m k (leb-false _ _ t.0) (eqb-true _ _ f.3) refl);
    slots = λ p. stays refl;
  }
    where
      f : (i : ℕ) × (lowest_free s ≡ suc i) × (i < length s.blocks) × (is_free (get_or s.blocks i free_block) ≡ true)
      f = taken s t.1.1.0

module _ (P : State → Type 0) (s : State) where
  Keeps : Call → Type 0
  Keeps c = ((a b : State) → Change s c a b → P a → P b) → P s → P (step s c).after

  start_keeps : (k : ℕ) → Keeps (starts k)
  unfolding Keeps start
  start_keeps k f h = checked_cases (λ o. P o.after) s (start_checks s k) (start_done s k) (λ n. h)
      (λ t. f s _ (task_change s _ s k _ (begins (eqb-true _ _ (not-false _ t.1.0)) refl)) h)

  look_keeps : (k p : ℕ) → Keeps (looks k p)
  unfolding Keeps look
  look_keeps k p f h = checked_cases (λ o. (is_accepted o.kind ≡ true → ends_look k s (looks k p) ≡ true) → P o.after) s
      (look_checks s k p) (look_done s k p) (λ n g. h)
      (λ t g. f s _ (task_change s _ s k _ (looked (g refl) p (works (task_of s k) t.1.0) refl)) h) (λ e. both (eqb k k) _ (eq-eqb k k refl) e)

  settle_keeps : (k : ℕ) → Keeps (settles k)
  unfolding Keeps settle
  settle_keeps k f h = checked_cases (λ o. (is_accepted o.kind ≡ true → ends_look k s (settles k) ≡ true) → P o.after) s
      (settle_checks s k) (settle_done s k) (λ n g. h)
      (λ t g. f s _ (task_change s _ s k _ (settling (g (answered (reserved s k))) (eqb-true _ _ (not-false _ t.1.0)) refl)) h)
      (λ e. both (eqb k k) _ (eq-eqb k k refl) e)
    where
      answered : (b : Bool) → is_accepted (cond b 0 11) ≡ true
      answered true = refl
      answered false = refl

  end_keeps : (k : ℕ) → Keeps (ends k)
  unfolding Keeps end
  end_keeps k f h = checked_cases (λ o. (o.kind ≡ 0 → ends_task k s (ends k) ≡ true) → P o.after) s (end_checks s k) (end_done s k) (λ n g. h)
      (λ t g. f s _ (task_change s _ s k _ (ending (g refl) (works (task_of s k) t.1.0) refl)) h) (λ e. both _ _ (eq-eqb k k refl) (eq-eqb _ _ e))

  make_keeps : (k : ℕ) → Keeps (makes k)
  unfolding Keeps make
  make_keeps k f h = checked_cases (λ o. P o.after) s (make_checks s k) (make_done s k) (λ n. h) (λ t. f s _ (make_change s _ s k refl t) h)

  swap_keeps : (k p old new : ℕ) → Keeps (swaps k p old new)
  unfolding Keeps swap
  swap_keeps k p old new f h = checked_cases (λ o. P o.after) s (swap_checks s k p old new) (swap_done s k p old new) (λ n. h)
      (λ t. cond_cases {A = Outcome} (λ o. P o.after) (eqb (slot_of s p) old) _ _ (λ e. f s _ (swap_change s _ s k p old new t) h) (λ e. h))

  retire_keeps : (k b : ℕ) → Keeps (retires k b)
  unfolding Keeps retire
  retire_keeps k b f h = checked_cases (λ o. P o.after) s (retire_checks s k b) (retire_done s k b) (λ n. h)
      (λ t. cond_cases {A = Outcome} (λ o. P o.after) (sweeps_now (retired_in s k b) k) _ _
      (λ e. f (retired_in s k b) _ (sweep_change s _ (retired_in s k b) k) (f s _ (retire_change s _ s k b t) h))
      (λ e. f s _ (retire_change s _ s k b t) h))

  sweep_keeps : (k : ℕ) → Keeps (sweeps k)
  unfolding Keeps sweep
  sweep_keeps k f h = checked_cases (λ o. P o.after) s (sweep_checks s k) (sweep_done s k) (λ n. h) (λ t. f s _ (sweep_change s _ s k) h)

  tally_keeps : (state : ℕ) → Keeps (tallies state)
  unfolding Keeps tally
  tally_keeps state f h = checked_cases (λ o. P o.after) s (tally_checks s state) (tally_done s state) (λ n. h) (λ t. h)

  -- what every change keeps, a step keeps
  pub step_keeps : (c : Call) → ((a b : State) → Change s c a b → P a → P b) → P s → P (step s c).after
  unfolding Keeps
  step_keeps (starts k) = start_keeps k
  step_keeps (looks k p) = look_keeps k p
  step_keeps (settles k) = settle_keeps k
  step_keeps (makes k) = make_keeps k
  step_keeps (swaps k p old new) = swap_keeps k p old new
  step_keeps (retires k b) = retire_keeps k b
  step_keeps (sweeps k) = sweep_keeps k
  step_keeps (ends k) = end_keeps k
  step_keeps (tallies state) = tally_keeps state
