-- The bound of source 001, section 4.3.1, as it is printed, beside ours: it is 0 where two blocks are held back. Assumes nothing.
use Prim.Native.Nat.{ℕ, ◌*◌}
use mathlib.Core.Path.{◌≡◌, refl}
use mathlib.Core.Bool.{true}
use mathlib.Core.List.{List, [], ◌∷◌}
use Rattle.table.specs.State.{State, task_of}
use Rattle.rules.specs.Sweeping.{unmet, frees}
use Rattle.rules.specs.Steps.{opened, start, make, retire, named, retired_count}
use Rattle.rules.specs.Calls.{Call, starts, makes, retires, after, never_ends}
use Rattle.rules.specs.Terms.{Reached, kept, held_back, limit}

-- as printed: the largest epoch that is reserved, times the makes per epoch, times the tasks
abbrev bound_printed : (most F T : ℕ) → ℕ
bound_printed most F T = most * F * T

-- two tasks, two makes per epoch: task 0 starts, and each task makes a block and retires it, all in epoch 0
abbrev before : State
before = opened 2 4 1 2 1

abbrev calls : List Call
calls = starts 1 ∷ makes 0 ∷ makes 1 ∷ retires 0 1 ∷ retires 1 2 ∷ []

abbrev pub held : State
held = after (start before 0).after calls

-- the premises of demand 3's limit hold
pub before_reached : Reached before
before_reached = record { T = 2; N = 4; P = 1; F = 2; E = 1; within = refl; calls = []; leads = refl }

pub started : ((start before 0).kind ≡ 0) × (never_ends 0 (start before 0).after calls ≡ true)
unfolding start make retire named retired_count frees unmet
started = (refl, refl)

-- every interval is 0 to 0, so that the printed bound is 0, and two blocks are held back: as many as our limit allows
pub intervals : ((task_of held 0).lower ≡ 0) × ((task_of held 0).upper ≡ 0) × ((task_of held 1).lower ≡ 0) × ((task_of held 1).upper ≡ 0)
unfolding start make retire named retired_count frees unmet
intervals = (refl, refl, refl, refl)

pub printed_says_none : bound_printed 0 2 2 ≡ 0
printed_says_none = refl

pub two_held : held_back held 0 0 ≡ 2
unfolding start make retire named retired_count frees unmet
two_held = refl

pub ours_says_two : limit (kept before) 0 0 2 2 ≡ 2
ours_says_two = refl
