-- An offset's size, and its hours and minutes, which are its size's. Assumes nothing.
use Prim.Native.Nat.{zero, suc, ◌/◌, ◌%◌, ◌≤◌}
use native.Mathlib.Omega.{arith}
use mathlib.Core.Path.{◌≡◌, refl}
use mathlib.Core.Bool.{true}
use lib.IntN.{ℤ, pos, negsuc, nat_abs, neg_ℤ}
use borrow.Author.Tests.{leb-true}
use Rattle.table.proofs.Tests.{two}
use Rattle.zone_text.specs.Offsets.{in_range, hours_of, rest_of}

-- a number and its negation have one size
pub size_neg : (z : ℤ) → nat_abs (neg_ℤ z) ≡ nat_abs z
size_neg (pos zero) = refl
size_neg (pos (suc n)) = refl
size_neg (negsuc n) = refl

-- an offset's size is at most 900, and its hours and minutes are its size's
pub within : (z : ℤ) → in_range z ≡ true → nat_abs z ≤ 900
within (pos n) h = leb-true n 900 h
within (negsuc n) h = let k = leb-true n 899 (two _ _ h).0 in omega arith

pub hours_size : (z : ℤ) → hours_of z ≡ nat_abs z / 60
hours_size (pos n) = refl
hours_size (negsuc n) = size_neg (pos (suc n / 60))

pub rest_size : (z : ℤ) → rest_of z ≡ nat_abs z % 60
rest_size (pos n) = refl
rest_size (negsuc n) = size_neg (pos (suc n % 60))
