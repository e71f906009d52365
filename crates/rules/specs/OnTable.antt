-- What a call answers, and what it leaves in the lent words (01, "Answer numbers"). Assumes nothing.
use Rattle.std.specs.Prelude.{ℕ, Bool, cond, ◌&&◌, List, length, ◌==◌}
use Rattle.table.specs.State.{State}
use Rattle.table.specs.Soundness.{sized}
use Rattle.table.specs.Words.{words, state_of, length_for, sound}
use Rattle.rules.specs.Outcome.{Outcome, answers}
use Rattle.rules.specs.Steps.{opened}

pub record Result : Type 0 where
  pub kind : ℕ
  pub value : ℕ
  pub table : List ℕ

abbrev pub result_of : (kind value : ℕ) → List ℕ → Result
result_of kind value t = record { kind = kind; value = value; table = t }

-- an outcome, with the words of the state after it
abbrev pub in_words : Outcome → Result
in_words o = result_of o.kind o.value (words o.after)

-- every step but open: its rule where the table is sound; kind 1 and the same words where it isn't
unfoldable pub on_table : List ℕ → (State → Outcome) → Result
on_table t rule = cond (sound t) (in_words (rule (state_of t))) (result_of 1 0 t)

-- Open. Value: the table's length. It doesn't look at what stood there. Kind 2: a size outside its limits, or the length isn't exact
abbrev pub fits : List ℕ → (T N P F E : ℕ) → Bool
fits t T N P F E = sized T N P F E && length t == length_for T N P

unfoldable pub open_table : List ℕ → (T N P F E : ℕ) → Result
open_table t T N P F E = cond (fits t T N P F E) (in_words (answers 0 (length_for T N P) (opened T N P F E))) (result_of 2 0 t)
