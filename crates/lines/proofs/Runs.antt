-- Where the first byte stands that does not pass a test. Assumes nothing.
use Prim.Native.Nat.{ℕ, suc, ◌+◌, ◌≤◌}
use native.Mathlib.Omega.{arith}
use mathlib.Core.Path.{◌≡◌, refl}
use mathlib.Core.Bool.{Bool, not, cond}
use mathlib.Core.List.{List, [], ◌∷◌}
use lib.Dec.{ltb}
use lib.ListN.{length}
use borrow.Author.Tests.{ltb-false}
use Rattle.std.specs.Prelude.{Option, Some, None}
use Rattle.std.specs.List.{position_or_len}
use Rattle.std.specs.Option.{unwrap_or}
use Rattle.schedule.proofs.Faults.{by_test}
use Rattle.lines.specs.Words.{front}

module _ (p : ℕ → Bool) where
  runs : (s : List ℕ) → position_or_len (λ c. not (p c)) s ≡ front p s
  runs [] = refl
  runs (x ∷ xs) = by_test (λ (n : ℕ). cond (not (not (p x))) (1 + position_or_len (λ c. not (p c)) xs) 0 ≡ n) (p x) (λ e. rw (e, runs xs) (omega arith)) (λ e. rw e)

  within : (s : List ℕ) → front p s ≤ length s
  within [] = omega arith
  within (x ∷ xs) = by_test (λ (n : ℕ). n ≤ suc (length xs)) (p x) (λ e. omega (arith, within xs)) (λ e. omega arith)

  -- the place of the first that does not pass, or the length
  pub run_end : (s : List ℕ)
      → unwrap_or (cond (ltb (position_or_len (λ c. not (p c)) s) (length s)) (Some (position_or_len (λ c. not (p c)) s)) None) (length s) ≡ front p s
  run_end s =
      rw (runs s)
      (by_test (λ (o : Option ℕ). unwrap_or o (length s) ≡ front p s) (ltb (front p s) (length s)) (λ e. refl) (λ e. omega (arith, within s, ltb-false)))
