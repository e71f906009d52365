-- The read of source 001, section 3.3, as it is printed, beside ours: it hands out a block that is free. Assumes nothing.
use Prim.Native.Nat.{ℕ}
use mathlib.Core.Path.{◌≡◌, refl}
use mathlib.Core.Bool.{Bool, cond}
use mathlib.Core.List.{List, [], ◌∷◌, ◌++◌}
use lib.Dec.{leb, eqb}
use Rattle.table.specs.State.{State, task_of, block_of, with_task}
use Rattle.rules.specs.Outcome.{Outcome, answers, checked}
use Rattle.rules.specs.Effects.{settled}
use Rattle.rules.specs.Sweeping.{unmet, frees}
use Rattle.rules.specs.Steps.{opened, start, look, settle, settle_checks, make, swap, retire, named, retired_count}
use Rattle.rules.specs.Calls.{Call, starts, looks, makes, swaps, retires, after}
use Rattle.rules.specs.Terms.{Reached}

-- as printed: pointer and epoch were read by the look; now the epoch seen is reserved where it is larger than upper, and then the epoch is
-- seen to be unchanged since the look. Ours asks that upper was the epoch already when the pointer was looked at
abbrev larger : (a b : ℕ) → ℕ
larger a b = cond (leb a b) b a

abbrev unchanged : State → (seen : ℕ) → Bool
unchanged s seen = eqb s.epoch seen

abbrev settle_printed : State → (k seen : ℕ) → Outcome
settle_printed s k seen = checked s (settle_checks s k)
    (answers (cond (unchanged s seen) 0 11) (cond (unchanged s seen) (task_of s k).candidate 0) (with_task s k (settled (larger (task_of s k).upper seen) (task_of s k))))

-- task 1 makes block 2 in epoch 1 and shows it; task 0, which has reserved epoch 0 alone, looks at it; task 1 takes it out and retires it
abbrev up_to_look : List Call
up_to_look = starts 0 ∷ starts 1 ∷ makes 1 ∷ makes 1 ∷ swaps 1 0 0 2 ∷ looks 0 0 ∷ []

abbrev from_look : List Call
from_look = swaps 1 0 2 0 ∷ retires 1 2 ∷ []

abbrev pub at_look : State
at_look = after (opened 2 4 1 2 1) up_to_look

abbrev pub now : State
now = after at_look from_look

pub now_reached : Reached now
now_reached = record { T = 2; N = 4; P = 1; F = 2; E = 1; within = refl; calls = up_to_look ++ from_look; leads = refl }

-- within one epoch: as printed the read hands out block 2, which is free, where ours says to look again
pub hands_out_free : ((settle_printed now 0 at_look.epoch).kind ≡ 0) × ((settle_printed now 0 at_look.epoch).value ≡ 2) × ((block_of now 2).state ≡ 0)
unfolding start look make swap retire named retired_count frees unmet
hands_out_free = (refl, refl, refl)

pub ours_looks_again : (settle now 0).kind ≡ 11
unfolding start look settle make swap retire named retired_count frees unmet
ours_looks_again = refl
