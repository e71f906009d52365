-- One law for each way out of each step: from what the code found there to the step's rule. Assumes nothing.
use Prim.Native.Nat.{ℕ, ◌≤◌, ◌<◌}
use mathlib.Core.Path.{◌≡◌, refl, sym, ap, ap₂, ◌∙◌}
use mathlib.Core.Logic.{◌≢◌}
use mathlib.Core.Bool.{Bool, true, false, not, ◌||◌}
use mathlib.Core.List.{List, [], ◌∷◌}
use lib.ListN.{length}
use lib.Dec.{ltb, eqb}
use native.Mathlib.Omega.{arith}
use borrow.Author.Tests.{le-leb, lt-leb, le-ltb, lt-ltb, eq-eqb, ne_eqb, eqb-true, not-true, not-false}
use Rattle.numbers.specs.Epochs.{last_epoch}
use Rattle.table.specs.Lists.{some, count}
use Rattle.table.specs.State.{TaskRow, State, task_of, block_of, slot_of, is_idle, is_working, is_looking, is_free, with_task}
use Rattle.table.specs.Words.{sound, state_of, words}
use Rattle.table.specs.Records.{phase_number, candidate_of, task_row}
use Rattle.table.specs.declared.records.TaskRecord.{TaskRecord}
use Rattle.table.specs.declared.records.Phase.{Phase}
use Rattle.table.specs.declared.records.Phase.TheVariants.{Idle, Working, Looked}
use Rattle.table.proofs.ByPlace.{first_none, some-count}
use Rattle.table.proofs.Places.{words-state_of}
use Rattle.table.proofs.Sound.{exact}
use Rattle.rules.specs.Outcome.{Outcome, refused_where, checked}
use Rattle.rules.specs.Effects.{begun, looking, settled, ended}
use Rattle.rules.specs.Sweeping.{sweep_done}
use Rattle.rules.specs.Steps.{no_slot, above_n, made_by, in_hand, named, lowest_free, most_makes, epoch_after, exhausted, made_at, shown_in, retired_in, after_retire, in_state, start, start_done, look, look_done, settle, settle_done, make, make_done, swap, swap_done, retire, retire_done, sweep, unshown, end, end_done, tally}
use Rattle.rules.specs.OnTable.{result_of, in_words}
use Rattle.work.specs.Entering.{entering, Inside}
use Rattle.work.proofs.Entries.{refused, own, does}

-- each step enters, and then goes on with its rest
abbrev pub look_rest : State → (k p : ℕ) → Outcome
look_rest s k p = checked s (no_slot s p ∷ []) (look_done s k p)

abbrev pub make_rest : State → (k : ℕ) → Outcome
make_rest s k = checked s (refused_where (not (some is_free s.blocks)) 9 ∷ refused_where (exhausted s (task_of s k).makes) 10 ∷ []) (make_done s k)

abbrev pub swap_rest : State → (k p old new : ℕ) → Outcome
swap_rest s k p old new =
    checked s
    (no_slot s p ∷ refused_where (above_n s old || above_n s new) 6 ∷ refused_where (not (eqb new 0 || in_hand k (block_of s new))) 7 ∷ [])
    (swap_done s k p old new)

abbrev pub retire_rest : State → (k b : ℕ) → Outcome
retire_rest s k b =
    checked s
    (refused_where (eqb b 0 || above_n s b) 6 ∷ refused_where (not (in_hand k (block_of s b))) 7 ∷ refused_where (named s b) 8 ∷ [])
    (retire_done s k b)

abbrev pub end_rest : State → (k : ℕ) → Outcome
end_rest s k = checked s (refused_where (unshown s k) 12 ∷ []) (end_done s k)

module _ (s : State) (k : ℕ) where
  pub start_enters : start s k ≡ entering is_idle s k (start_done s k)
  unfolding start entering
  start_enters = refl

  pub look_enters : (p : ℕ) → look s k p ≡ entering is_working s k (look_rest s k p)
  unfolding look entering
  look_enters p = refl

  pub settle_enters : settle s k ≡ entering is_looking s k (settle_done s k)
  unfolding settle entering
  settle_enters = refl

  pub make_enters : make s k ≡ entering is_working s k (make_rest s k)
  unfolding make entering
  make_enters = refl

  pub swap_enters : (p old new : ℕ) → swap s k p old new ≡ entering is_working s k (swap_rest s k p old new)
  unfolding swap entering
  swap_enters p old new = refl

  pub retire_enters : (b : ℕ) → retire s k b ≡ entering is_working s k (retire_rest s k b)
  unfolding retire entering
  retire_enters b = refl

  pub sweep_enters : sweep s k ≡ entering (λ _. true) s k (sweep_done s k)
  unfolding sweep entering
  sweep_enters = refl

  pub end_enters : end s k ≡ entering is_working s k (end_rest s k)
  unfolding end entering
  end_enters = refl

-- without an outstanding look a phase has no candidate
no_candidate : (p : Phase) → phase_number p ≢ 2 → candidate_of p ≡ 0
no_candidate Idle n = refl
no_candidate Working n = refl
no_candidate (Looked b) n = absurd (n refl)

-- start, look, settle and end: the task's record is put anew, as x, which is what the step makes of the record that the code read
module _ (t : List ℕ) (k : ℕ) (r : TaskRecord) where
  pub start_candidate : Inside t k is_idle r → candidate_of r.phase ≡ 0
  start_candidate h =
      let idle : phase_number r.phase ≡ 0 = ap (λ (x : TaskRow). x.phase) h.row ∙ eqb-true _ 0 h.phase in
      no_candidate r.phase (λ z. omega arith)

  put_anew : (f : TaskRow → TaskRow) (x : TaskRow) (t' : List ℕ) → task_row r ≡ task_of (state_of t) k → x ≡ f (task_row r) → t' ≡ words (with_task (state_of t) k x)
      → t' ≡ words (with_task (state_of t) k (f (task_of (state_of t) k)))
  put_anew f x t' row q w = w ∙ ap (λ (y : TaskRow). words (with_task (state_of t) k y)) (q ∙ ap f row)

  pub start_done_lem : (h : Inside t k is_idle r) (now : ℕ) (x : TaskRow) (t' : List ℕ) → now ≡ (state_of t).epoch → x ≡ begun now (task_row r)
      → t' ≡ words (with_task (state_of t) k x) → result_of 0 now t' ≡ in_words (start (state_of t) k)
  start_done_lem h now x t' p q w =
      ap₂ (result_of 0) p (put_anew (begun (state_of t).epoch) x t' h.row (q ∙ ap (λ (e : ℕ). begun e (task_row r)) p) w)
      ∙ does t k is_idle r h _ _ (start_enters (state_of t) k) 0 _ _ refl

  pub look-no_slot : (h : Inside t k is_working r) → sound t ≡ true → (p : ℕ) → length (state_of t).slots ≤ p → result_of 5 0 t ≡ in_words (look (state_of t) k p)
  look-no_slot h e p l = own t k is_working r h _ _ (look_enters (state_of t) k p) e 5 (rw (le-leb (length (state_of t).slots) p l))

  pub look_done_lem : (h : Inside t k is_working r) (p content : ℕ) (x : TaskRow) (t' : List ℕ) → p < length (state_of t).slots → content ≡ slot_of (state_of t) p
      → x ≡ looking content (task_row r) → t' ≡ words (with_task (state_of t) k x) → result_of 0 0 t' ≡ in_words (look (state_of t) k p)
  look_done_lem h p content x t' l c q w =
      ap (result_of 0 0) (put_anew (looking (slot_of (state_of t) p)) x t' h.row (q ∙ ap (λ (v : ℕ). looking v (task_row r)) c) w)
      ∙ does t k is_working r h _ _ (look_enters (state_of t) k p) 0 0 _ (rw (lt-leb (length (state_of t).slots) p l))

  -- settle leaves the same words whether the candidate is handed out or not
  module _ (h : Inside t k is_looking r) (now : ℕ) (x : TaskRow) (t' : List ℕ) (p : now ≡ (state_of t).epoch) (q : x ≡ settled now (task_row r))
      (w : t' ≡ words (with_task (state_of t) k x)) where
    settled-words : t' ≡ words (with_task (state_of t) k (settled (state_of t).epoch (task_of (state_of t) k)))
    settled-words = put_anew (settled (state_of t).epoch) x t' h.row (q ∙ ap (λ (e : ℕ). settled e (task_row r)) p) w

    reserved_as : {b : Bool} → eqb r.interval.upper.0 now ≡ b → eqb (task_of (state_of t) k).upper (state_of t).epoch ≡ b
    reserved_as u = ap₂ eqb (sym (ap (λ (y : TaskRow). y.upper) h.row)) (sym p) ∙ u

    pub settle_done_lem : eqb r.interval.upper.0 now ≡ true → result_of 0 (candidate_of r.phase) t' ≡ in_words (settle (state_of t) k)
    settle_done_lem u =
        ap₂ (result_of 0) (ap (λ (y : TaskRow). y.candidate) h.row) settled-words ∙ does t k is_looking r h _ _ (settle_enters (state_of t) k) 0 _ _ (rw (reserved_as u))

    pub settle_again : eqb r.interval.upper.0 now ≡ false → result_of 11 0 t' ≡ in_words (settle (state_of t) k)
    settle_again u = ap (result_of 11 0) settled-words ∙ does t k is_looking r h _ _ (settle_enters (state_of t) k) 11 0 _ (rw (reserved_as u))

  -- end: so many blocks are made by the task
  module _ (h : Inside t k is_working r) {n : ℕ} (found : n ≡ count (made_by k) (state_of t).blocks) where
    counted : unshown (state_of t) k ≡ ltb 0 n
    unfolding unshown
    counted = some-count (made_by k) (state_of t).blocks ∙ ap (ltb 0) (sym found)

    pub end-unshown : sound t ≡ true → 0 < n → result_of 12 0 t ≡ in_words (end (state_of t) k)
    end-unshown e l = own t k is_working r h _ _ (end_enters (state_of t) k) e 12 (rw (counted, lt-ltb 0 n l))

    pub end_done_lem : n ≤ 0 → (x : TaskRow) (t' : List ℕ) → x ≡ ended (task_row r) → t' ≡ words (with_task (state_of t) k x)
        → result_of 0 0 t' ≡ in_words (end (state_of t) k)
    end_done_lem z x t' q w =
        ap (result_of 0 0) (put_anew ended x t' h.row q w) ∙ does t k is_working r h _ _ (end_enters (state_of t) k) 0 0 _ (rw (counted, le-ltb 0 n z))

-- whether a make is exhausted, by what the code tests
module _ (s : State) (makes : ℕ) where
  made_all : makes ≡ most_makes → exhausted s makes ≡ true
  made_all p = rw (eq-eqb makes most_makes p)

  module _ (n : makes ≢ most_makes) (birth : ℕ) (p : birth ≡ epoch_after s makes) where
    by_birth : {b : Bool} → ltb last_epoch birth ≡ b → exhausted s makes ≡ b
    by_birth l = rw (ne_eqb makes most_makes n, ← p) l

-- make: none is free; the task has made all it can; the epoch would pass the last one; done
module _ (t : List ℕ) (k : ℕ) (r : TaskRecord) (h : Inside t k is_working r) where
  makes_is : r.makes ≡ (task_of (state_of t) k).makes
  makes_is = ap (λ (x : TaskRow). x.makes) h.row

  one_free : lowest_free (state_of t) ≢ 0 → some is_free (state_of t).blocks ≡ true
  one_free n = not-false _ (sym (first_none is_free 0 (state_of t).blocks) ∙ ne_eqb _ 0 n)

  pub make_none_free : sound t ≡ true → lowest_free (state_of t) ≡ 0 → result_of 9 0 t ≡ in_words (make (state_of t) k)
  make_none_free e z =
      let none : some is_free (state_of t).blocks ≡ false = not-true _ (sym (first_none is_free 0 (state_of t).blocks) ∙ eq-eqb _ 0 z) in
      own t k is_working r h _ _ (make_enters (state_of t) k) e 9 (rw none)

  -- the same tests of the task in the table
  in_table : {x : Bool} → exhausted (state_of t) r.makes ≡ x → exhausted (state_of t) (task_of (state_of t) k).makes ≡ x
  in_table p = ap (exhausted (state_of t)) (sym makes_is) ∙ p

  module _ (f : lowest_free (state_of t) ≢ 0) where
    pub make_full : sound t ≡ true → r.makes ≡ most_makes → result_of 10 0 t ≡ in_words (make (state_of t) k)
    make_full e p = own t k is_working r h _ _ (make_enters (state_of t) k) e 10 (rw (one_free f, in_table (made_all (state_of t) _ p)))

    module _ (n : r.makes ≢ most_makes) (birth : ℕ) (p : birth ≡ epoch_after (state_of t) r.makes) where
      pub make_last : sound t ≡ true → ltb last_epoch birth ≡ true → result_of 10 0 t ≡ in_words (make (state_of t) k)
      make_last e l = own t k is_working r h _ _ (make_enters (state_of t) k) e 10 (rw (one_free f, in_table (by_birth (state_of t) _ n birth p l)))

      pub make_done_lem : ltb last_epoch birth ≡ false → (b : ℕ) (t' : List ℕ) → b ≡ lowest_free (state_of t) → t' ≡ words (made_at (state_of t) k b birth) → result_of 0 b t' ≡ in_words (make (state_of t) k)
      make_done_lem l b t' q w =
          ap₂ (result_of 0) q (w ∙ ap₂ (λ (c d : ℕ). words (made_at (state_of t) k c d)) q (p ∙ ap (epoch_after (state_of t)) makes_is))
          ∙ does t k is_working r h _ _ (make_enters (state_of t) k) 0 _ _ (rw (one_free f, in_table (by_birth (state_of t) _ n birth p l)))

-- swap: no such slot; no such block; the new block is not in hand; the slot holds another; done
module _ (t : List ℕ) (k : ℕ) (r : TaskRecord) (h : Inside t k is_working r) (p old new : ℕ) where
  pub swap-no_slot : sound t ≡ true → length (state_of t).slots ≤ p → result_of 5 0 t ≡ in_words (swap (state_of t) k p old new)
  swap-no_slot e l = own t k is_working r h _ _ (swap_enters (state_of t) k p old new) e 5 (rw (le-leb (length (state_of t).slots) p l))

  module _ (l : p < length (state_of t).slots) where
    pub swap_no_block : sound t ≡ true → above_n (state_of t) old || above_n (state_of t) new ≡ true → result_of 6 0 t ≡ in_words (swap (state_of t) k p old new)
    swap_no_block e a = own t k is_working r h _ _ (swap_enters (state_of t) k p old new) e 6 (rw (lt-leb (length (state_of t).slots) p l, a))

    module _ (a : above_n (state_of t) old || above_n (state_of t) new ≡ false) where
      pub swap-wrong_block : sound t ≡ true → eqb new 0 || in_hand k (block_of (state_of t) new) ≡ false → result_of 7 0 t ≡ in_words (swap (state_of t) k p old new)
      swap-wrong_block e b = own t k is_working r h _ _ (swap_enters (state_of t) k p old new) e 7 (rw (lt-leb (length (state_of t).slots) p l, a, b))

      module _ (b : eqb new 0 || in_hand k (block_of (state_of t) new) ≡ true) where
        pub swap-kept : sound t ≡ true → eqb (slot_of (state_of t) p) old ≡ false → result_of 0 0 t ≡ in_words (swap (state_of t) k p old new)
        swap-kept e n =
            own t k is_working r h _ _ (swap_enters (state_of t) k p old new) e 0 (rw (lt-leb (length (state_of t).slots) p l, a, b, n))

        pub swap_done_lem : eqb (slot_of (state_of t) p) old ≡ true → result_of 0 1 (words (shown_in (state_of t) p new)) ≡ in_words (swap (state_of t) k p old new)
        swap_done_lem q =
            does t k is_working r h _ _ (swap_enters (state_of t) k p old new) 0 1 _ (rw (lt-leb (length (state_of t).slots) p l, a, b, q))

-- retire: no such block; not in hand; still named; done
module _ (t : List ℕ) (k : ℕ) (r : TaskRecord) (h : Inside t k is_working r) (b : ℕ) where
  pub retire_no_block : sound t ≡ true → eqb b 0 || above_n (state_of t) b ≡ true → result_of 6 0 t ≡ in_words (retire (state_of t) k b)
  retire_no_block e a = own t k is_working r h _ _ (retire_enters (state_of t) k b) e 6 (rw a)

  module _ (a : eqb b 0 || above_n (state_of t) b ≡ false) where
    pub retire-wrong_block : sound t ≡ true → in_hand k (block_of (state_of t) b) ≡ false → result_of 7 0 t ≡ in_words (retire (state_of t) k b)
    retire-wrong_block e i = own t k is_working r h _ _ (retire_enters (state_of t) k b) e 7 (rw (a, i))

    module _ (i : in_hand k (block_of (state_of t) b) ≡ true) where
      pub retire-named : sound t ≡ true → named (state_of t) b ≡ true → result_of 8 0 t ≡ in_words (retire (state_of t) k b)
      retire-named e n = own t k is_working r h _ _ (retire_enters (state_of t) k b) e 8 (rw (a, i, n))

      pub retire_done_lem : named (state_of t) b ≡ false → in_words (after_retire (retired_in (state_of t) k b) k) ≡ in_words (retire (state_of t) k b)
      retire_done_lem n = does t k is_working r h _ _ (retire_enters (state_of t) k b) _ _ _ (rw (a, i, n))

-- sweep and tally
pub sweep_done_lem : (t : List ℕ) (k : ℕ) (r : TaskRecord) → Inside t k (λ _. true) r → in_words (sweep_done (state_of t) k) ≡ in_words (sweep (state_of t) k)
sweep_done_lem t k r h = does t k (λ _. true) r h _ _ (sweep_enters (state_of t) k) _ _ _ refl

pub tally_refused : (t : List ℕ) (state : ℕ) → sound t ≡ true → 3 < state → result_of 3 0 t ≡ in_words (tally (state_of t) state)
unfolding tally
tally_refused t state e l = refused t e 3 ∙ rw (lt-ltb 3 state l)

pub tally_done_lem : (t : List ℕ) (state value : ℕ) → sound t ≡ true → state ≤ 3 → value ≡ count (in_state state) (state_of t).blocks → result_of 0 value t ≡ in_words (tally (state_of t) state)
unfolding tally
tally_done_lem t state value e l v = ap₂ (result_of 0) v (sym (words-state_of t (exact t e))) ∙ rw (le-ltb 3 state l)
