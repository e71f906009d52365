-- What a sound state says of each task, block and slot, as facts and back. A place past the end reads as an idle task, a free block, an
-- empty slot, so that nothing here asks that a place is within its list. Assumes nothing.
use Prim.Native.Nat.{ℕ, zero, suc, ◌≤◌, ◌<◌}
use native.Mathlib.Decide.{dec_lt}
use native.Mathlib.Omega.{arith}
use mathlib.Core.Path.{◌≡◌, refl, ap}
use mathlib.Core.Bool.{true, ◌&&◌, ◌||◌}
use mathlib.Core.List.{List}
use mathlib.Core.Logic.{◌≢◌}
use lib.ListN.{length, get_or, get_or-eq_default}
use lib.Dec.{leb, ltb, eqb}
use borrow.Author.Tests.{leb-true, ltb-true, eqb-true, le-leb, lt-ltb, eq-eqb}
use Rattle.numbers.specs.Epochs.{idle_mark, last_epoch}
use Rattle.table.specs.State.{State, TaskRow, BlockRow, idle_task, free_block, task_of, block_of, slot_of, is_free, is_made, is_shown, is_retired}
use Rattle.table.specs.Soundness.{within, sized, sound_interval, sound_task, sound_block, sound_slot, sound_numbers, sound_tasks, sound_blocks, sound_slots, sound_state}
use Rattle.table.specs.Words.{sound, is_exact, state_of, words, Exact}
use Rattle.table.proofs.Tests.{two, three, both, either, or_right}
use Rattle.table.proofs.ByPlace.{at_all, all_at, all_of}
use Rattle.table.proofs.Places.{exact_words, state_of-words}

pub data TaskOk (epoch N : ℕ) (r : TaskRow) : Type 0 where
  idle : r.phase ≡ 0 → r.lower ≡ idle_mark → r.upper ≡ idle_mark → r.candidate ≡ 0 → TaskOk epoch N r
  working : r.phase ≡ 1 → r.lower ≤ r.upper → r.upper ≤ epoch → r.candidate ≡ 0 → TaskOk epoch N r
  looking : r.phase ≡ 2 → r.lower ≤ r.upper → r.upper ≤ epoch → r.candidate ≤ N → TaskOk epoch N r

pub data BlockOk (epoch T : ℕ) (b : BlockRow) : Type 0 where
  free : b.task < T → b.state ≡ 0 → b.task ≡ 0 → b.birth ≡ 0 → b.retire ≡ 0 → BlockOk epoch T b
  made : b.task < T → b.state ≡ 1 → b.birth ≤ epoch → b.retire ≡ 0 → BlockOk epoch T b
  shown : b.task < T → b.state ≡ 2 → b.task ≡ 0 → b.birth ≤ epoch → b.retire ≡ 0 → BlockOk epoch T b
  retired : b.task < T → b.state ≡ 3 → b.birth ≤ b.retire → b.retire ≤ epoch → BlockOk epoch T b

pub data SlotOk (s : State) (v : ℕ) : Type 0 where
  empty : v ≡ 0 → SlotOk s v
  names : (block_of s v).state ≡ 2 → SlotOk s v

-- the limits, as orders
pub record Sized (T N P F E : ℕ) : Type 0 where
  pub tasks : (1 ≤ T) × (T ≤ 32)
  pub blocks : (1 ≤ N) × (N ≤ 1024)
  pub slots : (1 ≤ P) × (P ≤ 256)
  pub per_epoch : (1 ≤ F) × (F ≤ 65536)
  pub per_sweep : (1 ≤ E) × (E ≤ 1024)

pub record Sound (s : State) : Type 0 where
  pub limits : Sized (length s.tasks) (length s.blocks) (length s.slots) s.per_epoch s.per_sweep
  pub last : s.epoch ≤ last_epoch
  pub tasks : (k : ℕ) → TaskOk s.epoch (length s.blocks) (task_of s k)
  pub blocks : (i : ℕ) → BlockOk s.epoch (length s.tasks) (get_or s.blocks i free_block)
  pub slots : (p : ℕ) → SlotOk s (slot_of s p)

-- each as a test, and back
within_of : (n limit : ℕ) → within n limit ≡ true → (1 ≤ n) × (n ≤ limit)
within_of n limit e = let t = two (leb 1 n) _ e in (leb-true _ _ t.0, leb-true _ _ t.1)

of_within : (n limit : ℕ) → (1 ≤ n) × (n ≤ limit) → within n limit ≡ true
of_within n limit h = both (leb 1 n) _ (le-leb _ _ h.0) (le-leb _ _ h.1)

module _ (T N P F E : ℕ) where
  pub sized_of : sized T N P F E ≡ true → Sized T N P F E
  sized_of e =
      let last = two (within T 32 && within N 1024 && within P 256 && within F 65536) (within E 1024) e in
      let rate = two (within T 32 && within N 1024 && within P 256) (within F 65536) last.0 in
      let sizes = three (within T 32) (within N 1024) (within P 256) rate.0 in
      record { tasks = within_of T _ sizes.0; blocks = within_of N _ sizes.1; slots = within_of P _ sizes.2; per_epoch = within_of F _ rate.1; per_sweep = within_of E _ last.1 }

  pub of_sized : Sized T N P F E → sized T N P F E ≡ true
  of_sized h = rw (of_within T _ h.tasks, of_within N _ h.blocks, of_within P _ h.slots, of_within F _ h.per_epoch, of_within E _ h.per_sweep)

module _ (epoch N : ℕ) (r : TaskRow) where
  interval_of : sound_interval epoch r ≡ true → (r.lower ≤ r.upper) × (r.upper ≤ epoch)
  interval_of e = let t = two (leb r.lower r.upper) _ e in (leb-true _ _ t.0, leb-true _ _ t.1)

  task_of_lem : sound_task epoch N r ≡ true → TaskOk epoch N r
  task_of_lem e =
      let resting = eqb r.lower idle_mark && eqb r.upper idle_mark && eqb r.candidate 0 in
      let plain = sound_interval epoch r && eqb r.candidate 0 in
      let looks = sound_interval epoch r && leb r.candidate N in
      either (eqb r.phase 0 && resting || eqb r.phase 1 && plain) (eqb r.phase 2 && looks) e
      (λ a. either (eqb r.phase 0 && resting) (eqb r.phase 1 && plain) a
      (λ b. let p = two (eqb r.phase 0) resting b in let t = three _ _ _ p.1 in
      idle (eqb-true _ _ p.0) (eqb-true _ _ t.0) (eqb-true _ _ t.1) (eqb-true _ _ t.2))
      (λ b. let p = two (eqb r.phase 1) plain b in let t = two (sound_interval epoch r) _ p.1 in let i = interval_of t.0 in
      working (eqb-true _ _ p.0) i.0 i.1 (eqb-true _ _ t.1)))
      (λ a. let p = two (eqb r.phase 2) looks a in let t = two (sound_interval epoch r) _ p.1 in let i = interval_of t.0 in
      looking (eqb-true _ _ p.0) i.0 i.1 (leb-true _ _ t.1))

  of_task : TaskOk epoch N r → sound_task epoch N r ≡ true
  of_task (idle p l u c) = rw (p, l, u, c)
  of_task (working p l u c) = rw (p, c, le-leb _ _ l, le-leb _ _ u)
  of_task (looking p l u c) = rw (p, le-leb _ _ l, le-leb _ _ u, le-leb _ _ c)

module _ (epoch T : ℕ) (b : BlockRow) where
  block_of_lem : sound_block epoch T b ≡ true → BlockOk epoch T b
  block_of_lem e =
      let wasFree = is_free b && (eqb b.task 0 && eqb b.birth 0 && eqb b.retire 0) in
      let wasMade = is_made b && (leb b.birth epoch && eqb b.retire 0) in
      let wasShown = is_shown b && (eqb b.task 0 && leb b.birth epoch && eqb b.retire 0) in
      let wasRetired = is_retired b && (leb b.birth b.retire && leb b.retire epoch) in
      let h = two (ltb b.task T) (wasFree || wasMade || wasShown || wasRetired) e in
      let l = ltb-true b.task T h.0 in
      either (wasFree || wasMade || wasShown) wasRetired h.1
      (λ x. either (wasFree || wasMade) wasShown x
      (λ y. either wasFree wasMade y
      (λ z. let p = two (is_free b) _ z in let t = three _ _ _ p.1 in free l (eqb-true _ _ p.0) (eqb-true _ _ t.0) (eqb-true _ _ t.1) (eqb-true _ _ t.2))
      (λ z. let p = two (is_made b) _ z in let t = two _ _ p.1 in made l (eqb-true _ _ p.0) (leb-true _ _ t.0) (eqb-true _ _ t.1)))
      (λ y. let p = two (is_shown b) _ y in let t = three _ _ _ p.1 in shown l (eqb-true _ _ p.0) (eqb-true _ _ t.0) (leb-true _ _ t.1) (eqb-true _ _ t.2)))
      (λ x. let p = two (is_retired b) _ x in let t = two _ _ p.1 in retired l (eqb-true _ _ p.0) (leb-true _ _ t.0) (leb-true _ _ t.1))

  of_block : BlockOk epoch T b → sound_block epoch T b ≡ true
  of_block (free l p t u v) = rw (lt-ltb _ _ l, p, t, u, v)
  of_block (made l p u v) = rw (lt-ltb _ _ l, p, v, le-leb _ _ u)
  of_block (shown l p t u v) = rw (lt-ltb _ _ l, p, t, v, le-leb _ _ u)
  of_block (retired l p u v) = rw (lt-ltb _ _ l, p, le-leb _ _ u, le-leb _ _ v)

module _ (s : State) (v : ℕ) where
  slot_of_lem : sound_slot s v ≡ true → SlotOk s v
  slot_of_lem e = either (eqb v 0) _ e (λ p. empty (eqb-true _ _ p)) (λ p. names (eqb-true _ _ p))

  of_slot : SlotOk s v → sound_slot s v ≡ true
  of_slot (empty p) = rw p
  of_slot (names p) = or_right (eqb v 0) _ (eq-eqb _ _ p)

-- the facts of a sound state, and back
module _ (s : State) where
  pub sound_of : sound_state s ≡ true → Sound s
  unfolding sound_state sound_numbers sound_tasks sound_blocks sound_slots
  sound_of e =
      let slots = two (sound_numbers s && sound_tasks s && sound_blocks s) (sound_slots s) e in
      let parts = three (sound_numbers s) (sound_tasks s) (sound_blocks s) slots.0 in
      let numbers = two (sized (length s.tasks) (length s.blocks) (length s.slots) s.per_epoch s.per_sweep) _ parts.0 in
      let limits = sized_of _ _ _ _ _ numbers.0 in
      record {
        limits = limits;
        last = leb-true _ _ numbers.1;
        tasks = at_all (TaskOk _ _) s.tasks idle_task (idle refl refl refl refl) (λ i l. task_of_lem _ _ _ (all_at _ s.tasks idle_task i l parts.1));
        blocks = at_all (BlockOk _ _) s.blocks free_block (free limits.tasks.0 refl refl refl refl) (λ i l. block_of_lem _ _ _ (all_at _ s.blocks free_block i l parts.2));
        slots = at_all (SlotOk s) s.slots 0 (empty refl) (λ i l. slot_of_lem s _ (all_at _ s.slots 0 i l slots.1));
      }

  pub of_sound : Sound s → sound_state s ≡ true
  unfolding sound_state sound_numbers sound_tasks sound_blocks sound_slots
  of_sound h = rw (
    of_sized _ _ _ _ _ h.limits,
    le-leb _ _ h.last,
    all_of (sound_task s.epoch (length s.blocks)) s.tasks idle_task (λ i l. of_task _ _ _ (h.tasks i)),
    all_of (sound_block s.epoch (length s.tasks)) s.blocks free_block (λ i l. of_block _ _ _ (h.blocks i)),
    all_of (sound_slot s) s.slots 0 (λ i l. of_slot s _ (h.slots i)),
  )

-- of a table: its length is exact and its state is sound
module _ (t : List ℕ) (e : sound t ≡ true) where
  pub exact : Exact t
  unfolding sound
  exact = eqb-true _ _ (two (is_exact t) (sound_state (state_of t)) e).0

  pub facts : Sound (state_of t)
  unfolding sound
  facts = sound_of (state_of t) (two (is_exact t) (sound_state (state_of t)) e).1

-- and the words of a sound state are a sound table
pub words-sound : (s : State) → Sound s → sound (words s) ≡ true
unfolding sound
words-sound s h = both (is_exact (words s)) _ (eq-eqb _ _ (exact_words s)) (rw (state_of-words s) (of_sound s h))

-- what is most asked of a sound task, block and slot
pub interval : {epoch N : ℕ} {r : TaskRow} → TaskOk epoch N r → r.phase ≢ 0 → (r.lower ≤ r.upper) × (r.upper ≤ epoch)
interval (idle p l u c) h = absurd (h p)
interval (working p l u c) h = (l, u)
interval (looking p l u c) h = (l, u)

-- without an outstanding look there is no candidate
pub spoken : {epoch N : ℕ} {r : TaskRow} → TaskOk epoch N r → (r.phase ≤ 2) × (r.phase < 2 → r.candidate ≡ 0)
spoken (idle p l u c) = (omega arith, λ _. c)
spoken (working p l u c) = (omega arith, λ _. c)
spoken (looking p l u c) = (omega arith, λ h. absurd (omega arith))

pub below : {epoch T : ℕ} {b : BlockRow} → BlockOk epoch T b → b.task < T
below (free t p u v w) = t
below (made t p u v) = t
below (shown t p u v w) = t
below (retired t p u v) = t

pub born : {epoch T : ℕ} {b : BlockRow} → BlockOk epoch T b → b.birth ≤ epoch
born (free t p u v w) = omega arith
born (made t p u v) = u
born (shown t p u v w) = v
born (retired t p u v) = omega arith

-- the number of a block that is not free is one that the table has
pub numbered : (s : State) (b : ℕ) → (block_of s b).state ≢ 0 → (1 ≤ b) × (b ≤ length s.blocks)
numbered s zero h = absurd (h refl)
numbered s (suc i) h = go (dec_lt i (length s.blocks))
  where
    go : Dec (i < length s.blocks) → (1 ≤ suc i) × (suc i ≤ length s.blocks)
    go (yes l) = (omega arith, omega arith)
    go (no n) = absurd (h (ap (λ (r : BlockRow). r.state) (get_or-eq_default s.blocks free_block {n = i} (omega arith))))

pub held : {s : State} {v : ℕ} → SlotOk s v → v ≤ length s.blocks
held (empty p) = omega arith
held {s} {v} (names p) = (numbered s v (λ z. omega arith)).1
