-- What a write leaves in five bytes. Assumes nothing.
use Prim.Native.Nat.{ℕ, ◌+◌, ◌/◌, ◌%◌}
use native.Mathlib.Omega.{arith}
use mathlib.Core.Path.{◌≡◌, refl, ap}
use mathlib.Core.Bool.{true}
use mathlib.Core.List.{List, [], ◌∷◌}
use lib.IntN.{ℤ}
use lib.ListN.{length, get_or}
use borrow.Author.Tests.{eq-eqb}
use Rattle.zone_text.specs.Offsets.{in_range, sign_of, hours_of, rest_of}
use Rattle.zone_text.specs.Zone.{characters, written, zone_write}

module _ (z : ℤ) (s : List ℕ) (h : in_range z ≡ true) where
  pub five : length s ≡ 5 → {l : List ℕ} → l ≡ characters z → written 0 l ≡ zone_write z s
  unfolding zone_write
  five n e = simp (h, eq-eqb (length s) 5 n) (ap (written 0) e)

-- the five characters, from the sign, the hours and the minutes
pub spelled : (z : ℤ) {h m a b c d e : ℕ} → h ≡ hours_of z → m ≡ rest_of z → a ≡ sign_of z → b ≡ 48 + h / 10 → c ≡ 48 + h % 10 → d ≡ 48 + m / 10 → e ≡ 48 + m % 10
    → a ∷ b ∷ c ∷ d ∷ e ∷ [] ≡ characters z
unfolding characters
spelled z hours rest sign b c d e = cc

-- a list of five
pub of_five : (s : List ℕ) → length s ≡ 5 → s ≡ get_or s 0 0 ∷ get_or s 1 0 ∷ get_or s 2 0 ∷ get_or s 3 0 ∷ get_or s 4 0 ∷ []
of_five (_ ∷ _ ∷ _ ∷ _ ∷ _ ∷ []) h = refl
of_five [] h = absurd (omega arith)
of_five (_ ∷ []) h = absurd (omega arith)
of_five (_ ∷ _ ∷ []) h = absurd (omega arith)
of_five (_ ∷ _ ∷ _ ∷ []) h = absurd (omega arith)
of_five (_ ∷ _ ∷ _ ∷ _ ∷ []) h = absurd (omega arith)
of_five (_ ∷ _ ∷ _ ∷ _ ∷ _ ∷ _ ∷ _) h = absurd (omega arith)
