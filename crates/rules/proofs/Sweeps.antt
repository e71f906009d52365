-- Sweeps in turn are one sweep of all the tasks they name; where they name every task, the retired blocks left are those that an interval
-- meets. Assumes nothing.
use Prim.Native.Nat.{ℕ, zero, suc, ◌<◌}
use mathlib.Core.Path.{◌≡◌, refl, sym, ap, ◌∙◌}
use mathlib.Core.Bool.{Bool, true, false, cond, not, ◌&&◌, ◌||◌}
use mathlib.Core.List.{List, [], ◌∷◌, map}
use lib.ListN.{length, get_or, get_or-map}
use lib.Dec.{leb, ltb, eqb}
use borrow.Author.Tests.{leb-true, leb-false, eqb-true, le-ltb, lt-ltb}
use Rattle.table.specs.Lists.{some}
use Rattle.table.specs.State.{State, TaskRow, BlockRow, free_block, block_of, is_retired, met_by, with_blocks}
use Rattle.table.proofs.Tests.{both}
use Rattle.table.proofs.ByPlace.{some_weaken, map_same, map_twice, map_id}
use Rattle.table.proofs.Sound.{Sound, below}
use Rattle.rules.specs.Outcome.{answers}
use Rattle.rules.specs.Effects.{freed}
use Rattle.rules.specs.Sweeping.{unmet, frees, after_sweep, sweep_done}
use Rattle.rules.specs.Steps.{sweep}
use Rattle.rules.specs.Calls.{Call, after}
use Rattle.rules.specs.Terms.{after_sweeps, swept_all}

and_false : (a : Bool) → a && false ≡ false
and_false true = refl
and_false false = refl

and_true : (a : Bool) → a && true ≡ a
and_true true = refl
and_true false = refl

-- a sweep of all tasks whose numbers pass a test
abbrev pub freed_if : List TaskRow → (ℕ → Bool) → BlockRow → BlockRow
freed_if ts t b = cond (is_retired b && t b.task && unmet ts b) freed b

abbrev pub swept_if : State → (ℕ → Bool) → State
swept_if s t = with_blocks s (map (freed_if s.tasks t) s.blocks)

-- two in turn are one with "or"
freed_twice : (ts : List TaskRow) (t u : ℕ → Bool) (b : BlockRow) → freed_if ts u (freed_if ts t b) ≡ freed_if ts (λ j. t j || u j) b
freed_twice ts t u b = go (is_retired b) (t b.task) (unmet ts b) refl refl refl
  where
    go : (x y z : Bool) → is_retired b ≡ x → t b.task ≡ y → unmet ts b ≡ z → freed_if ts u (freed_if ts t b) ≡ freed_if ts (λ j. t j || u j) b
    go false y z p q r = simp p
    go true true true p q r = rw (p, q, r)
    go true true false p q r = simp (p, q, r, and_false)
    go true false z p q r = simp (p, q)

pub swept_twice : (s : State) (t u : ℕ → Bool) → swept_if (swept_if s t) u ≡ swept_if s (λ j. t j || u j)
swept_twice s t u = ap (with_blocks s)
    (map_twice (freed_if s.tasks u) (freed_if s.tasks t) s.blocks
    ∙ map_same _ _ s.blocks free_block (λ i l. freed_twice s.tasks t u (get_or s.blocks i free_block)))

swept_none : (s : State) (t : ℕ → Bool) → ((j : ℕ) → t j ≡ false) → swept_if s t ≡ s
swept_none s t h = ap (with_blocks s) (map_same _ (λ b. b) s.blocks free_block (λ i l. rw (h (get_or s.blocks i free_block).task, and_false)) ∙ map_id s.blocks)

-- one sweep, refused or not, sweeps the task that it names, where there is one
abbrev only : State → (k : ℕ) → ℕ → Bool
only s k j = ltb k (length s.tasks) && eqb j k

sweep_is : (s : State) (k : ℕ) → (sweep s k).after ≡ swept_if s (only s k)
unfolding sweep frees
sweep_is s k = go (leb (length s.tasks) k) refl
  where
    go : (x : Bool) → leb (length s.tasks) k ≡ x → (cond x (answers 3 0 s) (sweep_done s k)).after ≡ swept_if s (only s k)
    go true e = sym (swept_none s (only s k) (λ j. rw (le-ltb k (length s.tasks) (leb-true _ _ e))))
    go false e = ap (with_blocks s) (map_same (after_sweep s.tasks k) (freed_if s.tasks (only s k)) s.blocks free_block
        (λ i l. rw (lt-ltb k (length s.tasks) (leb-false _ _ e))))

-- sweeps in turn sweep the tasks that any of them names
pub sweeps-are : (s : State) (ks : List ℕ) → after s (map Call.sweeps ks) ≡ swept_if s (λ j. some (λ k. only s k j) ks)
sweeps-are s [] = sym (swept_none s _ (λ j. refl))
sweeps-are s (k ∷ ks) = ap (λ (z : State). after z (map Call.sweeps ks)) (sweep_is s k) ∙ sweeps-are (swept_if s (only s k)) ks ∙ swept_twice s _ _

-- every task swept, in any order, and any task more than once
pub sweep-all : (s : State) (ks : List ℕ) → Sound s → ((k : ℕ) → k < length s.tasks → some (eqb k) ks ≡ true) → after s (map Call.sweeps ks) ≡ swept_all s
sweep-all s ks h every = sweeps-are s ks ∙ ap (with_blocks s) (map_same _ _ s.blocks free_block (λ i l. go (get_or s.blocks i free_block) (below (h.blocks i))))
  where
    go : (b : BlockRow) → b.task < length s.tasks → freed_if s.tasks (λ j. some (λ k. only s k j) ks) b ≡ after_sweeps s.tasks b
    go b l = rw (some_weaken (eqb b.task) (λ k. only s k b.task) ks (λ k e. both _ _ (lt-ltb _ _ (rw (eqb-true b.task k e) at l)) e) (every _ l), and_true)

-- by block number
pub still_retired : (s : State) (b : ℕ) → is_retired (block_of (swept_all s) b) ≡ is_retired (block_of s b) && some (met_by (block_of s b)) s.tasks
unfolding unmet
still_retired s zero = refl
still_retired s (suc i) = rw (get_or-map (after_sweeps s.tasks) s.blocks i free_block) (go (is_retired x) (some (met_by x) s.tasks) refl)
  where
    x : BlockRow
    x = block_of s (suc i)

    go : (p q : Bool) → is_retired x ≡ p → is_retired (cond (p && not q) freed x) ≡ p && q
    go true true e = e
    go true false e = refl
    go false q e = e
