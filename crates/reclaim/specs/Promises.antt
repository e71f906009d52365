-- The ten promises as one definition: what each public step's answer and the words it leaves are equal to. Assumes nothing.
use Rattle.std.specs.Prelude.{ℕ, List}
use Rattle.rules.specs.OnTable.{Result, on_table, open_table}
use Rattle.rules.specs.Calls.{Call, step}

-- a public call: open, or one of the nine others
pub data PublicCall : Type 0 where
  opens : (T N P F E : ℕ) → PublicCall
  calls : Call → PublicCall

-- the answer's kind and value and the words left, for a call on these words
abbrev pub promised : List ℕ → PublicCall → Result
promised t (opens T N P F E) = open_table t T N P F E
promised t (calls c) = on_table t (λ s. step s c)
