-- `soundness::every`: the numbers passed so far all pass the test, or one fails it. Assumes nothing.
use Rattle.std.proofs.Common.{◌≡◌, ◌≤◌, ◌<◌, ℕ, Bool}
use Rattle.soundness.proofs.Numbers.{Found}
use Rattle.soundness.proofs.every.Given as goal

abbrev pub invariant-loop-i : goal.invariant-loop-i
invariant-loop-i g l =
    (l.i ≤ l.n)
    × ((passes : ℕ → Bool) → ((i : ℕ) (b : Bool) → i < l.n → goal.F-post g l.test i b → b ≡ passes i) → Found passes l.ok l.i)
