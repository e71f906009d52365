-- The words that demand 3 speaks in: a state or table that is reached, a look that stands, how many blocks are kept, and what sweeps of all tasks
-- leave. Assumes nothing.
use Rattle.std.specs.Prelude.{ℕ, ◌+◌, ◌-◌, ◌*◌, ◌%◌, ◌≡◌, Bool, true, cond, not, ◌&&◌, ◌||◌, List, [], ◌∷◌, map, ◌==◌}
use Rattle.numbers.specs.Epochs.{meets}
use Rattle.table.specs.Lists.{count}
use Rattle.table.specs.State.{TaskRow, BlockRow, State, is_free, is_retired, with_blocks}
use Rattle.table.specs.Soundness.{sized}
use Rattle.rules.specs.Effects.{freed}
use Rattle.rules.specs.Sweeping.{unmet}
use Rattle.rules.specs.Steps.{opened}
use Rattle.rules.specs.OnTable.{open_table}
use Rattle.rules.specs.Calls.{Call, step, after, table_after, tag, who}

-- a state that some calls lead to from a freshly opened one, whose sizes are within their limits
pub record Reached (s : State) : Type 0 where
  pub T : ℕ
  pub N : ℕ
  pub P : ℕ
  pub F : ℕ
  pub E : ℕ
  pub within : sized T N P F E ≡ true
  pub calls : List Call
  pub leads : s ≡ after (opened T N P F E) calls

-- the same of a lent table: calls have led to it from an accepted open, and nothing else has written it
pub record ReachedTable (t : List ℕ) : Type 0 where
  pub before : List ℕ
  pub T : ℕ
  pub N : ℕ
  pub P : ℕ
  pub F : ℕ
  pub E : ℕ
  pub accepted : (open_table before T N P F E).kind ≡ 0
  pub calls : List Call
  pub leads : t ≡ table_after (open_table before T N P F E).table calls

-- kinds 0 and 11 are the answers that aren't refusals
abbrev pub is_accepted : (kind : ℕ) → Bool
is_accepted kind = kind == 0 || kind == 11

-- this call is an accepted look, settle or end of task k
abbrev pub ends_look : (k : ℕ) → State → Call → Bool
ends_look k s c = (tag c == 3 || tag c == 4 || tag c == 9) && who c == k && is_accepted (step s c).kind

-- no call on the way is, so that task k's look is the one that its next settle is about
abbrev pub look_stands : (k : ℕ) → State → List Call → Bool
look_stands k s [] = true
look_stands k s (c ∷ cs) = not (ends_look k s c) && look_stands k (step s c).after cs

-- K: the blocks that are not free
abbrev pub in_use : BlockRow → Bool
in_use b = not (is_free b)

abbrev pub kept : State → ℕ
kept s = count in_use s.blocks

-- the retired blocks that the interval L to U meets
abbrev pub held_by : (L U : ℕ) → BlockRow → Bool
held_by L U b = is_retired b && meets L U b.birth b.retire

abbrev pub held_back : State → (L U : ℕ) → ℕ
held_back s L U = count (held_by L U) s.blocks

-- K + (U − L) × F + T × (F − 1)
abbrev pub limit : (K L U F T : ℕ) → ℕ
limit K L U F T = K + (U - L) * F + T * (F - 1)

abbrev pub sum : {A : Type 0} → (A → ℕ) → List A → ℕ
sum f [] = 0
sum f (x ∷ xs) = f x + sum f xs

-- how many makes a task has left before one raises the epoch, and all tasks together: at most T × (F − 1)
abbrev pub spare_of : (F : ℕ) → TaskRow → ℕ
spare_of F r = F - 1 - r.makes % F

abbrev pub spare : State → ℕ
spare s = sum (spare_of s.per_epoch) s.tasks

-- the state in which each retired block that no task's interval meets is free, and all else is as it was
abbrev pub after_sweeps : List TaskRow → BlockRow → BlockRow
after_sweeps ts b = cond (is_retired b && unmet ts b) freed b

abbrev pub swept_all : State → State
swept_all s = with_blocks s (map (after_sweeps s.tasks) s.blocks)
