-- A step's answer and the state after it, and the checks that a step begins with. Assumes nothing.
use Rattle.std.specs.Prelude.{ℕ, Bool, cond, List, [], ◌∷◌}
use Rattle.table.specs.State.{State}

-- the answer's kind and value, and the state after the step
pub record Outcome : Type 0 where
  pub kind : ℕ
  pub value : ℕ
  pub after : State

abbrev pub answers : (kind value : ℕ) → State → Outcome
answers kind value s = record { kind = kind; value = value; after = s }

-- a check that refuses with a kind where its test passes
pub record Check : Type 0 where
  pub fails : Bool
  pub number : ℕ

abbrev pub refused_where : Bool → ℕ → Check
refused_where fails number = record { fails = fails; number = number }

-- the checks in their order: the first that fails gives its kind, with value 0 and nothing changed; where none fails, what is done
abbrev pub checked : State → List Check → Outcome → Outcome
checked s [] done = done
checked s (c ∷ cs) done = cond c.fails (answers c.number 0 s) (checked s cs done)
