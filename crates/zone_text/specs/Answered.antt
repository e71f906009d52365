-- What reading answers, as C has it: kind 0 and the minutes, or a refusal's kind and 0 minutes. Assumes nothing.
use Rattle.std.specs.Prelude.{ℕ, ℤ}

pub record ZoneMinutes : Type 0 where
  pub kind : ℕ
  pub minutes : ℤ
