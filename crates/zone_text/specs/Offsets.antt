-- Offsets in minutes (02, request i): their range, their sign, and their hours and minutes by division by 60 toward zero. Assumes nothing.
use Rattle.std.specs.Prelude.{ℕ, Bool, ◌&&◌, ℤ, pos, negsuc, nat_abs}
use Rattle.std.specs.Int.Signed.{le_z, quot_z, rem_z}

-- offsets run from −900 to +900
abbrev pub in_range : ℤ → Bool
in_range z = le_z (negsuc 899) z && le_z z (pos 900)

-- the character of the sign: + for 0
abbrev pub sign_of : ℤ → ℕ
sign_of (pos n) = 43
sign_of (negsuc n) = 45

-- whole hours, toward zero, and the minutes beside them, without the sign
abbrev pub hours_of : ℤ → ℕ
hours_of z = nat_abs (quot_z z (pos 60))

abbrev pub rest_of : ℤ → ℕ
rest_of z = nat_abs (rem_z z (pos 60))
