-- The number of a word, digit by digit and up to a limit, and a word of digits alone. Assumes nothing.
use Prim.Native.Nat.{ℕ, suc, min}
use native.Mathlib.Omega.{arith}
use mathlib.Core.Path.{◌≡◌, refl, ap}
use mathlib.Core.Bool.{Bool, true, false}
use mathlib.Core.List.{List, [], ◌∷◌, foldl}
use lib.ListN.{length}
use Rattle.std.specs.List.{list_all}
use Rattle.schedule.proofs.Faults.{by_test}
use Rattle.lines.specs.Words.{front}
use Rattle.lines.specs.Values.{one_more}

-- one digit more, up to the largest number of 64 bits
abbrev pub capped : (value digit : ℕ) → ℕ
capped value digit = min 18446744073709551615 (one_more value digit)

pub up_to : (word : List ℕ) (v w : ℕ) → v ≡ min 18446744073709551615 w → foldl capped v word ≡ min 18446744073709551615 (foldl one_more w word)
up_to [] v w e = e
up_to (x ∷ xs) v w e = up_to xs (capped v x) (one_more w x) (omega arith)

-- every byte passes a test just where the run of those that do is the whole
pub all_whole : (p : ℕ → Bool) (s : List ℕ) → list_all p s ≡ true → front p s ≡ length s
all_whole p [] = λ e. refl
all_whole p (x ∷ xs) = by_test (λ (n : ℕ). list_all p (x ∷ xs) ≡ true → n ≡ suc (length xs)) (p x) (λ t e. ap suc (all_whole p xs (rw t at e))) (λ t e. absurd (let z = rw t at e in cc))

pub not_whole : (p : ℕ → Bool) (s : List ℕ) → list_all p s ≡ false → front p s ≡ length s → ⊥
not_whole p [] = λ e h. cc
not_whole p (x ∷ xs) =
    by_test (λ (n : ℕ). list_all p (x ∷ xs) ≡ false → n ≡ suc (length xs) → ⊥) (p x) (λ t e h. not_whole p xs (rw t at e) (omega arith)) (λ t e h. omega arith)
