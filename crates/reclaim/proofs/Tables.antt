-- A step on a table that is sound or not, and an open that fits or not. Assumes nothing.
use Prim.Native.Nat.{ℕ, ◌≤◌}
use mathlib.Core.Path.{◌≡◌, ap₂, ◌∙◌}
use mathlib.Core.Logic.{◌≢◌}
use mathlib.Core.Bool.{true, false}
use mathlib.Core.List.{List}
use native.Mathlib.Omega.{arith}
use lib.ListN.{length}
use borrow.Author.Tests.{eq-eqb, ne_eqb}
use Rattle.table.specs.State.{State}
use Rattle.table.specs.Soundness.{sized}
use Rattle.table.specs.Words.{sound, state_of, words, length_for}
use Rattle.table.proofs.Sound.{sized_of}
use Rattle.rules.specs.Outcome.{Outcome}
use Rattle.rules.specs.Steps.{opened}
use Rattle.rules.specs.OnTable.{result_of, in_words, on_table, open_table}

module _ (t : List ℕ) (rule : State → Outcome) where
  pub unsound : sound t ≡ false → result_of 1 0 t ≡ on_table t rule
  unfolding on_table
  unsound e = rw e

  pub on_sound : sound t ≡ true → in_words (rule (state_of t)) ≡ on_table t rule
  unfolding on_table
  on_sound e = rw e

module _ (t : List ℕ) (T N P F E : ℕ) where
  pub open_bad_size : sized T N P F E ≡ false → result_of 2 0 t ≡ open_table t T N P F E
  unfolding open_table
  open_bad_size e = rw e

  module _ (e : sized T N P F E ≡ true) where
    pub open_bad_length : length t ≢ length_for T N P → result_of 2 0 t ≡ open_table t T N P F E
    unfolding open_table
    open_bad_length n = rw (e, ne_eqb (length t) (length_for T N P) n)

    pub open_done : length t ≡ length_for T N P → (value : ℕ) (u : List ℕ) → value ≡ length_for T N P → u ≡ words (opened T N P F E) → result_of 0 value u ≡ open_table t T N P F E
    unfolding open_table
    open_done l value u p q = ap₂ (result_of 0) p q ∙ rw (e, eq-eqb (length t) (length_for T N P) l)

-- an accepted length fits a word
pub open_length : (T N P F E : ℕ) → sized T N P F E ≡ true → length_for T N P ≤ 4518
open_length T N P F E e = let z = sized_of T N P F E e in omega (arith, z.tasks, z.blocks, z.slots)
