-- Laws of the layout: a table of exact length and its state say the same, and each record is read and stored at its place. Assumes nothing.
use Prim.Native.Nat.{ℕ, zero, suc, ◌+◌, ◌-◌, ◌*◌, ◌≤◌, ◌<◌}
use mathlib.Core.Path.{◌≡◌, refl, sym, ap, ◌∙◌, subst}
use mathlib.Core.List.{List, [], ◌∷◌, ◌++◌, append_assoc, append-nil}
use native.Mathlib.Nat.{add-zero, add-suc, suc-add, add_assoc}
use native.Mathlib.Numerals.{add-one}
use native.Mathlib.Omega.{arith}
use lib.ListN.{length, get_or, take, drop, set, length-append, length-set, length-drop, take-append-drop}
use lib.Seq.{sets, drop-cons, drop-drop, take_all, get_or-append-add, get_or-append_seam, set-get_or, get_or-set_other}
use Rattle.table.specs.State.{TaskRow, BlockRow, State, task_of, block_of, slot_of, idle_task, free_block, with_interval, with_task, with_block, with_blocks, with_slot, with_epoch}
use Rattle.table.specs.Words.{flat, read_from, task_words, task_at, block_words, block_at, slot_words, slot_at, header, words, state_of, header_width, task_width, block_width, slot_width, blocks_at, slots_at, tasks_in, blocks_in, slots_in, Exact}
use Rattle.table.proofs.ByPlace.{from_one_lem, put_from_one_lem}
use Rattle.table.proofs.Flat.{length-flat, put_in, length_read, read_at, read_flat, flat_read}

-- a run of words, from a place on
run : List ℕ → ℕ → ℕ → List ℕ
run t at zero = []
run t at (suc n) = get_or t at 0 ∷ run t (at + 1) n

take-run : (t : List ℕ) (at n : ℕ) → at + n ≤ length t → run t at n ≡ take n (drop at t)
unfolding run
take-run t at zero h = refl
take-run t at (suc n) h =
    let l : at < length t = omega arith in
    rw (drop-cons t at 0 l, take-run t (at + 1) n (omega arith), add-one)

seam : (t : List ℕ) (at n : ℕ) → take n (drop at t) ++ drop (at + n) t ≡ drop at t
seam t at n = rw (← drop-drop n at t, take-append-drop)

-- the words of a record that was read are those that stand there
module _ (t : List ℕ) where
  task_forth : (at : ℕ) → at + task_width ≤ length t → task_words (task_at t at) ≡ take task_width (drop at t)
  unfolding run
  task_forth at h = rw (← take-run t at task_width h) (simp add_assoc)

  block_forth : (at : ℕ) → at + block_width ≤ length t → block_words (block_at t at) ≡ take block_width (drop at t)
  unfolding run
  block_forth at h = rw (← take-run t at block_width h) (simp add_assoc)

  slot_forth : (at : ℕ) → at + slot_width ≤ length t → slot_words (slot_at t at) ≡ take slot_width (drop at t)
  unfolding run
  slot_forth at h = rw (← take-run t at slot_width h)

  header_forth : header_width ≤ length t → tasks_in t ∷ blocks_in t ∷ slots_in t ∷ get_or t 3 0 ∷ get_or t 4 0 ∷ get_or t 5 0 ∷ [] ≡ take header_width t
  unfolding run
  header_forth h = take-run t 0 header_width h

-- and what was written is read back
task_back : (p : List ℕ) (x : TaskRow) (q : List ℕ) → task_at (p ++ (task_words x ++ q)) (length p) ≡ x
task_back p x q = simp (get_or-append_seam, get_or-append-add)

block_back : (p : List ℕ) (x : BlockRow) (q : List ℕ) → block_at (p ++ (block_words x ++ q)) (length p) ≡ x
block_back p x q = simp (get_or-append_seam, get_or-append-add)

slot_back : (p : List ℕ) (x : ℕ) (q : List ℕ) → slot_at (p ++ (slot_words x ++ q)) (length p) ≡ x
slot_back p x q = simp (get_or-append_seam)

-- the words before the blocks and before the slots
before-blocks : State → List ℕ
before-blocks s = header s ++ flat task_words s.tasks

before-slots : State → List ℕ
before-slots s = before-blocks s ++ flat block_words s.blocks

module _ (s : State) where
  length-before_blocks : length (before-blocks s) ≡ blocks_at (length s.tasks)
  unfolding before-blocks
  length-before_blocks = omega (arith, length-flat task_words task_width (λ x. refl) s.tasks)

  length-before_slots : length (before-slots s) ≡ slots_at (length s.tasks) (length s.blocks)
  unfolding before-slots
  length-before_slots = omega (arith, length-append (before-blocks s) (flat block_words s.blocks), length-before_blocks, length-flat block_words block_width (λ x. refl) s.blocks)

  words-blocks : words s ≡ before-blocks s ++ (flat block_words s.blocks ++ flat slot_words s.slots)
  unfolding words before-blocks
  words-blocks = simp append_assoc

  words-slots : words s ≡ before-slots s ++ (flat slot_words s.slots ++ [])
  unfolding before-slots
  words-slots = words-blocks ∙ sym (append_assoc (before-blocks s) (flat block_words s.blocks) (flat slot_words s.slots)) ∙ rw (append-nil (flat slot_words s.slots))

-- any state's words have exact length
pub exact_words : (s : State) → Exact (words s)
unfolding words
exact_words s =
    let T : tasks_in (words s) ≡ length s.tasks = refl in
    let N : blocks_in (words s) ≡ length s.blocks = refl in
    let P : slots_in (words s) ≡ length s.slots = refl in
    let whole : length (words s) ≡ length (before-slots s) + length (flat slot_words s.slots) = ap length (words-slots s) ∙ rw (append-nil, length-append) in
    omega (arith, length-before_slots s, length-flat slot_words slot_width (λ x. refl) s.slots)

-- laying out what was read gives the words, where the length is exact
pub words-state_of : (t : List ℕ) → Exact t → words (state_of t) ≡ t
unfolding words state_of
words-state_of t h =
    let T = tasks_in t in
    let N = blocks_in t in
    let P = slots_in t in
    let last : take (slot_width * P) (drop (slots_at T N) t) ≡ drop (slots_at T N) t = take_all (slot_width * P) (drop (slots_at T N) t) (omega (arith, length-drop (slots_at T N) t)) in
    rw (
      length_read task_at task_width t header_width T,
      length_read block_at block_width t (blocks_at T) N,
      length_read slot_at slot_width t (slots_at T N) P,
      flat_read task_words task_at task_width t (task_forth t) header_width T (omega arith),
      flat_read block_words block_at block_width t (block_forth t) (blocks_at T) N (omega arith),
      flat_read slot_words slot_at slot_width t (slot_forth t) (slots_at T N) P (omega arith),
      last,
      seam,
      seam,
    )
    (ap (λ (l : List ℕ). l ++ drop header_width t) (header_forth t (omega arith)) ∙ take-append-drop header_width t)

-- reading back what was laid out gives the state
module _ (s : State) where
  tasks_back : (state_of (words s)).tasks ≡ s.tasks
  unfolding words state_of
  tasks_back = read_flat task_words task_at task_width (λ x. refl) task_back (header s) s.tasks _

  blocks_back : (state_of (words s)).blocks ≡ s.blocks
  unfolding words state_of
  blocks_back =
      ap (λ (t : List ℕ). read_from block_at block_width t (blocks_at (length s.tasks)) (length s.blocks)) (words-blocks s)
      ∙ rw (← length-before_blocks s) (read_flat block_words block_at block_width (λ x. refl) block_back (before-blocks s) s.blocks _)

  slots_back : (state_of (words s)).slots ≡ s.slots
  unfolding words state_of
  slots_back =
      ap (λ (t : List ℕ). read_from slot_at slot_width t (slots_at (length s.tasks) (length s.blocks)) (length s.slots)) (words-slots s)
      ∙ rw (← length-before_slots s) (read_flat slot_words slot_at slot_width (λ x. refl) slot_back (before-slots s) s.slots [])

  pub state_of-words : state_of (words s) ≡ s
  unfolding words state_of
  state_of-words = λ i. record { tasks = tasks_back i; blocks = blocks_back i; slots = slots_back i; per_epoch = s.per_epoch; per_sweep = s.per_sweep; epoch = s.epoch }

-- what a writing call leaves, read for the next call: the length is exact, and the state is the one written
pub says : (t : List ℕ) (s : State) → t ≡ words s → Exact t × (state_of t ≡ s)
says t s e = (subst Exact (sym e) (exact_words s), ap state_of e ∙ state_of-words s)

-- each number and each record, read
module _ (t : List ℕ) where
  pub tasks_read : length (state_of t).tasks ≡ tasks_in t
  unfolding state_of
  tasks_read = length_read task_at task_width t header_width (tasks_in t)

  pub blocks_read : length (state_of t).blocks ≡ blocks_in t
  unfolding state_of
  blocks_read = length_read block_at block_width t (blocks_at (tasks_in t)) (blocks_in t)

  pub slots_read : length (state_of t).slots ≡ slots_in t
  unfolding state_of
  slots_read = length_read slot_at slot_width t (slots_at (tasks_in t) (blocks_in t)) (slots_in t)

  pub per_epoch_read : (state_of t).per_epoch ≡ get_or t 3 0
  unfolding state_of
  per_epoch_read = refl

  pub per_sweep_read : (state_of t).per_sweep ≡ get_or t 4 0
  unfolding state_of
  per_sweep_read = refl

  pub epoch_read : (state_of t).epoch ≡ get_or t 5 0
  unfolding state_of
  epoch_read = refl

  pub task_read : (k at : ℕ) → k < length (state_of t).tasks → at ≡ header_width + task_width * k → task_at t at ≡ task_of (state_of t) k
  unfolding state_of
  task_read k at h e = rw e (sym (read_at task_at task_width t header_width (tasks_in t) k idle_task (omega (arith, tasks_read))))

  pub block_read : (b at : ℕ) → 1 ≤ b → b ≤ length (state_of t).blocks → at ≡ blocks_at (tasks_in t) + block_width * (b - 1) → block_at t at ≡ block_of (state_of t) b
  unfolding state_of
  block_read b at o h e =
      rw (e, from_one_lem (state_of t).blocks b free_block o)
      (sym (read_at block_at block_width t (blocks_at (tasks_in t)) (blocks_in t) (b - 1) free_block (omega (arith, blocks_read))))

  pub slot_read : (p at : ℕ) → p < length (state_of t).slots → at ≡ slots_at (tasks_in t) (blocks_in t) + slot_width * p → slot_at t at ≡ slot_of (state_of t) p
  unfolding state_of
  slot_read p at h e = rw e (sym (read_at slot_at slot_width t (slots_at (tasks_in t) (blocks_in t)) (slots_in t) p 0 (omega (arith, slots_read))))

-- the code's at + 2 is the laws' suc (suc at)
sucs : ℕ → ℕ → ℕ
sucs zero at = at
sucs (suc n) at = sucs n (suc at)

ahead : (n at : ℕ) → at + n ≡ sucs n at
unfolding sucs
ahead zero at = add-zero at
ahead (suc n) at = rw (add-suc, ← suc-add) (ahead n (suc at))

-- each record stored: first in a state's own words
module _ (s : State) where
  task_stored : (k : ℕ) (r : TaskRow) → k < length s.tasks → sets (words s) (header_width + task_width * k) (task_words r) ≡ words (with_task s k r)
  unfolding words
  task_stored k r h =
      put_in task_words task_width (λ x. refl) (header s) s.tasks (flat block_words s.blocks ++ flat slot_words s.slots) header_width k r refl h
      ∙ rw (words, length-set)

  block_stored : (b : ℕ) (r : BlockRow) → 1 ≤ b → b ≤ length s.blocks → sets (words s) (blocks_at (length s.tasks) + block_width * (b - 1)) (block_words r) ≡ words (with_block s b r)
  unfolding before-blocks
  block_stored b r o h =
      ap (λ (t : List ℕ). sets t (blocks_at (length s.tasks) + block_width * (b - 1)) (block_words r)) (words-blocks s)
      ∙ put_in block_words block_width (λ x. refl) (before-blocks s) s.blocks (flat slot_words s.slots) (blocks_at (length s.tasks)) (b - 1) r (length-before_blocks s) (omega arith)
      ∙ rw (words-blocks (with_block s b r), put_from_one_lem s.blocks b r o, length-set)

  slot_stored : (p b : ℕ) → p < length s.slots → sets (words s) (slots_at (length s.tasks) (length s.blocks) + slot_width * p) (slot_words b) ≡ words (with_slot s p b)
  unfolding before-slots before-blocks
  slot_stored p b h =
      ap (λ (t : List ℕ). sets t (slots_at (length s.tasks) (length s.blocks) + slot_width * p) (slot_words b)) (words-slots s)
      ∙ put_in slot_words slot_width (λ x. refl) (before-slots s) s.slots [] (slots_at (length s.tasks) (length s.blocks)) p b (length-before_slots s) h
      ∙ rw (words-slots (with_slot s p b), length-set)

  epoch_stored : (e : ℕ) → set (words s) 5 e ≡ words (with_epoch s e)
  unfolding words
  epoch_stored e = refl

-- then in any table of exact length, in the form that code leaves: a store for each word
module _ (t : List ℕ) (h : Exact t) where
  pub task_put : (k at : ℕ) (r : TaskRow) → k < length (state_of t).tasks → at ≡ header_width + task_width * k
      → set (set (set (set (set t at r.lower) (at + 1) r.upper) (at + 2) r.makes) (at + 3) r.phase) (at + 4) r.candidate ≡ words (with_task (state_of t) k r)
  unfolding sucs
  task_put k at r l e =
      simp (ahead 1, ahead 2, ahead 3, ahead 4, e)
      (ap (λ (u : List ℕ). sets u (header_width + task_width * k) (task_words r)) (sym (words-state_of t h)) ∙ task_stored (state_of t) k r l)

  -- stores into two words leave the words behind them
  behind : (at lower upper i : ℕ) → at + 1 < i → set (set (set t at lower) (at + 1) upper) i (get_or t i 0) ≡ set (set t at lower) (at + 1) upper
  behind at lower upper i l =
      let u = set (set t at lower) (at + 1) upper in
      let same : get_or u i 0 ≡ get_or t i 0 = get_or-set_other (set t at lower) (at + 1) i upper 0 (λ z. omega arith) ∙ get_or-set_other t at i lower 0 (λ z. omega arith) in
      ap (set u i) (sym same) ∙ set-get_or u i 0

  pub interval_put : (k at lower upper : ℕ) → k < length (state_of t).tasks → at ≡ header_width + task_width * k
      → set (set t at lower) (at + 1) upper ≡ words (with_task (state_of t) k (with_interval lower upper (task_of (state_of t) k)))
  interval_put k at lower upper l e =
      sym (rw (behind at lower upper (at + 2) (omega arith), behind at lower upper (at + 3) (omega arith), behind at lower upper (at + 4) (omega arith)))
      ∙ task_put k at (with_interval lower upper (task_at t at)) l e
      ∙ ap (λ (r : TaskRow). words (with_task (state_of t) k (with_interval lower upper r))) (task_read t k at l e)

  pub block_put : (b at : ℕ) (r : BlockRow) → 1 ≤ b → b ≤ length (state_of t).blocks → at ≡ blocks_at (tasks_in t) + block_width * (b - 1)
      → set (set (set (set t at r.state) (at + 1) r.task) (at + 2) r.birth) (at + 3) r.retire ≡ words (with_block (state_of t) b r)
  unfolding sucs
  block_put b at r o l e =
      let e' : at ≡ blocks_at (length (state_of t).tasks) + block_width * (b - 1) = rw tasks_read e in
      simp (ahead 1, ahead 2, ahead 3, e')
      (ap (λ (u : List ℕ). sets u (blocks_at (length (state_of t).tasks) + block_width * (b - 1)) (block_words r)) (sym (words-state_of t h)) ∙ block_stored (state_of t) b r o l)

  pub slot_put : (p at b : ℕ) → p < length (state_of t).slots → at ≡ slots_at (tasks_in t) (blocks_in t) + slot_width * p → set t at b ≡ words (with_slot (state_of t) p b)
  slot_put p at b l e =
      let e' : at ≡ slots_at (length (state_of t).tasks) (length (state_of t).blocks) + slot_width * p = rw (tasks_read, blocks_read) e in
      rw e' (ap (λ (u : List ℕ). set u (slots_at (length (state_of t).tasks) (length (state_of t).blocks) + slot_width * p) b) (sym (words-state_of t h)) ∙ slot_stored (state_of t) p b l)

  pub epoch_put : (e : ℕ) → set t 5 e ≡ words (with_epoch (state_of t) e)
  epoch_put e = ap (λ (u : List ℕ). set u 5 e) (sym (words-state_of t h)) ∙ epoch_stored (state_of t) e

-- a block put back as it was changes nothing
pub block_same : (t : List ℕ) → Exact t → (b : ℕ) → t ≡ words (with_block (state_of t) b (block_of (state_of t) b))
block_same t h zero = sym (words-state_of t h)
block_same t h (suc i) = sym (words-state_of t h) ∙ ap (λ (bs : List BlockRow). words (with_blocks (state_of t) bs)) (sym (set-get_or (state_of t).blocks i free_block))

-- what a place reads as, and what a store there leaves
pub ruleset places = (tasks_read, blocks_read, slots_read, per_epoch_read, per_sweep_read, epoch_read, task_read, block_read, slot_read, epoch_put, interval_put, slot_put)
