-- The premises of demand 3 can be met: the night of 01 with its printed answers, and one in which a block is handed out, retired and swept
-- for. Assumes nothing.
use Prim.Native.Nat.{ℕ}
use mathlib.Core.Path.{◌≡◌, refl}
use mathlib.Core.Bool.{true}
use mathlib.Core.List.{List, [], ◌∷◌, ◌++◌}
use Rattle.table.specs.State.{State, task_of, block_of}
use Rattle.rules.specs.Sweeping.{unmet, frees}
use Rattle.rules.specs.Steps.{opened, start, look, settle, make, swap, retire, named, retired_count, sweep, unshown, end}
use Rattle.rules.specs.Calls.{Call, starts, looks, settles, makes, swaps, retires, sweeps, ends, step, after, never_ends}
use Rattle.rules.specs.Terms.{Reached, look_stands}

-- the answers of calls, each its kind and its value
abbrev replies : State → List Call → List (ℕ × ℕ)
replies s [] = []
replies s (c ∷ cs) = ((step s c).kind, (step s c).value) ∷ replies (step s c).after cs

-- steps 2 to 15 of the night with one reader
abbrev night : List Call
night = starts 0 ∷ starts 1 ∷ makes 1 ∷ makes 1 ∷ swaps 1 0 0 2 ∷ looks 0 0 ∷ settles 0
    ∷ swaps 1 0 2 0 ∷ retires 1 2 ∷ looks 0 0 ∷ settles 0 ∷ ends 0 ∷ sweeps 1 ∷ makes 1 ∷ []

pub night_replies : replies (opened 2 4 1 2 1) night
    ≡ (0, 0) ∷ (0, 0) ∷ (0, 1) ∷ (0, 2) ∷ (0, 1) ∷ (0, 0) ∷ (11, 0) ∷ (0, 1) ∷ (0, 0) ∷ (0, 0) ∷ (0, 0) ∷ (0, 0) ∷ (0, 1) ∷ (0, 2) ∷ []
unfolding start look settle make swap retire named retired_count sweep unshown end frees unmet
night_replies = refl

-- with the settle of step 8 moved after step 10: the retire frees block 2, and the settle says to look again
abbrev moved : List Call
moved = starts 0 ∷ starts 1 ∷ makes 1 ∷ makes 1 ∷ swaps 1 0 0 2 ∷ looks 0 0 ∷ swaps 1 0 2 0 ∷ retires 1 2 ∷ settles 0 ∷ []

pub moved_replies : replies (opened 2 4 1 2 1) moved ≡ (0, 0) ∷ (0, 0) ∷ (0, 1) ∷ (0, 2) ∷ (0, 1) ∷ (0, 0) ∷ (0, 1) ∷ (0, 1) ∷ (11, 0) ∷ []
unfolding start look settle make swap retire named retired_count frees unmet
moved_replies = refl

-- a reader that looks again at once: task 0 has settled with kind 11, and its upper end is the epoch
abbrev up_to_settle : List Call
up_to_settle = starts 0 ∷ starts 1 ∷ makes 1 ∷ makes 1 ∷ swaps 1 0 0 2 ∷ looks 0 0 ∷ settles 0 ∷ []

abbrev pub retried : State
retried = after (opened 2 4 1 2 1) up_to_settle

-- block 2 is taken out of the slot between its look and its settle, which hands it out all the same: the epoch has not risen
abbrev pub looked : State
looked = after (look retried 0 0).after (swaps 1 0 2 0 ∷ [])

pub looked_reached : Reached looked
looked_reached = record { T = 2; N = 4; P = 1; F = 2; E = 1; within = refl; calls = up_to_settle ++ looks 0 0 ∷ swaps 1 0 2 0 ∷ []; leads = refl }

pub look_stands_lem : ((look retried 0 0).kind ≡ 0) × ((task_of retried 0).upper ≡ retried.epoch)
    × (look_stands 0 (look retried 0 0).after (swaps 1 0 2 0 ∷ []) ≡ true) × (looked.epoch ≡ retried.epoch)
unfolding start look settle make swap
look_stands_lem = (refl, refl, refl, refl)

-- it is retired, swept for and makes go on
abbrev from_settle : List Call
from_settle = retires 1 2 ∷ sweeps 1 ∷ makes 1 ∷ []

pub handed_out : ((settle looked 0).kind ≡ 0) × ((settle looked 0).value ≡ 2) × (never_ends 0 (settle looked 0).after from_settle ≡ true)
unfolding start look settle make swap retire named retired_count sweep frees unmet
handed_out = (refl, refl, refl)

-- and not freed, though both tasks are swept, until task 0 ends
abbrev pub later : State
later = after (settle looked 0).after from_settle

pub still_there : (block_of (after later (sweeps 0 ∷ sweeps 1 ∷ [])) 2).state ≡ 3
unfolding start look settle make swap retire named retired_count sweep frees unmet
still_there = refl

pub freed-after_end : (block_of (after later (ends 0 ∷ sweeps 0 ∷ sweeps 1 ∷ [])) 2).state ≡ 0
unfolding start look settle make swap retire named retired_count sweep unshown end frees unmet
freed-after_end = refl
