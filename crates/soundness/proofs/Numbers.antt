-- A test of the numbers below a bound, one number after another. Assumes nothing.
use Rattle.std.proofs.Common.{ℕ, ◌+◌, ◌<◌, ◌≡◌, Bool, true, false, ◌&&◌, sym, subst, arith}
use Rattle.std.specs.Bool.{MatchBool}
use native.Mathlib.Decide.{ℕ_discrete}

-- every number below n passes where ok is true, and one fails where it is false
abbrev pub Found : (ℕ → Bool) → (ok : Bool) → (n : ℕ) → Type 0
Found passes ok n = MatchBool ok ((i : ℕ) → i < n → passes i ≡ true) ((i : ℕ) × (i < n) × (passes i ≡ false))

pub found_more : (passes : ℕ → Bool) (ok b : Bool) (n : ℕ) → Found passes ok n → b ≡ passes n → Found passes (ok && b) (n + 1)
found_more passes false b n f e = (f.0, omega arith, f.2)
found_more passes true false n f e = (n, omega arith, sym e)
found_more passes true true n f e = λ i l. go i l (ℕ_discrete i n)
  where
    go : (i : ℕ) → i < n + 1 → Dec (i ≡ n) → passes i ≡ true
    go i l (yes p) = subst (λ (k : ℕ). passes k ≡ true) (sym p) (sym e)
    go i l (no k) = f i (omega arith)
