-- What an end's answer says of the blocks that its task made and has neither shown nor retired (02, request iii). Assumes nothing.
use Prim.Native.Nat.{ℕ, zero, suc, ◌<◌}
use native.Mathlib.Omega.{arith}
use mathlib.Core.Path.{◌≡◌, refl}
use mathlib.Core.Bool.{Bool, true, false, cond, not}
use lib.Dec.{leb}
use lib.ListN.{length}
use borrow.Author.Tests.{lt-leb, leb-false, not-false}
use Rattle.table.specs.Lists.{count}
use Rattle.table.specs.State.{BlockRow, State, free_block, task_of, block_of, is_working}
use Rattle.table.proofs.ByPlace.{at_all, none_at, some-count, count_none}
use Rattle.rules.specs.Outcome.{answers}
use Rattle.rules.specs.Steps.{made_by, unshown, end, end_checks, end_done}
use Rattle.rules.proofs.Checks.{accepted}

module _ (s : State) (k : ℕ) where
  -- no block is in state made by the task
  none_made : unshown s k ≡ false → (b : ℕ) → made_by k (block_of s b) ≡ false
  unfolding unshown
  none_made e zero = refl
  none_made e (suc i) = at_all (λ (b : BlockRow). made_by k b ≡ false) s.blocks free_block refl (λ j l. none_at (made_by k) s.blocks free_block j l e) i

  -- An end that is done leaves no block in state made by its task.
  pub end_leaves_none : (end s k).kind ≡ 0 → (b : ℕ) → made_by k (block_of (end s k).after b) ≡ false
  unfolding end
  end_leaves_none e b = let a = accepted s (end_checks s k) (end_done s k) refl e in rw a.0 (none_made a.1.1.1.0 b)

  -- the third of three checks
  third : (x y z : Bool) → (cond x (answers 3 0 s) (cond y (answers 4 0 s) (cond z (answers 12 0 s) (end_done s k)))).kind ≡ 12 → (x ≡ false) × (y ≡ false) × (z ≡ true)
  third true y z e = absurd (omega arith)
  third false true z e = absurd (omega arith)
  third false false true e = (refl, refl, refl)
  third false false false e = absurd (omega arith)

  -- Kind 12 comes last: an end that is refused so is of a task that is there and works.
  pub kept_back : (end s k).kind ≡ 12 → (k < length s.tasks) × (is_working (task_of s k) ≡ true) × (unshown s k ≡ true)
  unfolding end
  kept_back e =
      let t = third (leb (length s.tasks) k) (not (is_working (task_of s k))) (unshown s k) e in
      (leb-false _ _ t.0, not-false _ t.1, t.2)

  -- What other tasks have made hinders no end.
  pub end_of_the_shown : k < length s.tasks → is_working (task_of s k) ≡ true → ((b : ℕ) → made_by k (block_of s b) ≡ false) → (end s k).kind ≡ 0
  unfolding end unshown
  end_of_the_shown l w h =
      let none : count (made_by k) s.blocks ≡ 0 = count_none (made_by k) s.blocks free_block (λ i _. h (suc i)) in
      rw (lt-leb (length s.tasks) k l, w, some-count (made_by k) s.blocks, none)
