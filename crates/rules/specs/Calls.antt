-- The nine steps that are not open, as calls with any numbers, and runs of calls. Assumes nothing.
use Rattle.std.specs.Prelude.{ℕ, Bool, true, not, ◌&&◌, List, [], ◌∷◌, ◌==◌}
use Rattle.table.specs.State.{State}
use Rattle.rules.specs.Outcome.{Outcome}
use Rattle.rules.specs.OnTable.{on_table}
use Rattle.rules.specs.Steps.{start, look, settle, make, swap, retire, sweep, end, tally}

pub data Call : Type 0 where
  starts : (k : ℕ) → Call
  looks : (k p : ℕ) → Call
  settles : (k : ℕ) → Call
  makes : (k : ℕ) → Call
  swaps : (k p old new : ℕ) → Call
  retires : (k b : ℕ) → Call
  sweeps : (k : ℕ) → Call
  ends : (k : ℕ) → Call
  tallies : (state : ℕ) → Call

abbrev pub step : State → Call → Outcome
step s (starts k) = start s k
step s (looks k p) = look s k p
step s (settles k) = settle s k
step s (makes k) = make s k
step s (swaps k p old new) = swap s k p old new
step s (retires k b) = retire s k b
step s (sweeps k) = sweep s k
step s (ends k) = end s k
step s (tallies state) = tally s state

-- the state that calls lead to, refused ones among them
abbrev pub after : State → List Call → State
after s [] = s
after s (c ∷ cs) = after (step s c).after cs

-- the same on the lent words
abbrev pub table_after : List ℕ → List Call → List ℕ
table_after t [] = t
table_after t (c ∷ cs) = table_after (on_table t (λ s. step s c)).table cs

-- a call's tag in a schedule, and its task; a tally has none
abbrev pub tag : Call → ℕ
tag (starts k) = 2
tag (looks k p) = 3
tag (settles k) = 4
tag (makes k) = 5
tag (swaps k p old new) = 6
tag (retires k b) = 7
tag (sweeps k) = 8
tag (ends k) = 9
tag (tallies state) = 10

abbrev pub who : Call → ℕ
who (starts k) = k
who (looks k p) = k
who (settles k) = k
who (makes k) = k
who (swaps k p old new) = k
who (retires k b) = k
who (sweeps k) = k
who (ends k) = k
who (tallies state) = 0

-- this call is an accepted end of task k
abbrev pub ends_task : (k : ℕ) → State → Call → Bool
ends_task k s c = tag c == 9 && who c == k && (step s c).kind == 0

-- no call on the way is
abbrev pub never_ends : (k : ℕ) → State → List Call → Bool
never_ends k s [] = true
never_ends k s (c ∷ cs) = not (ends_task k s c) && never_ends k (step s c).after cs
