-- The five characters of the Fortran ZONE argument (02, request i): what writing them leaves and answers, and what reading them answers. Assumes
-- nothing.
use Rattle.std.specs.Prelude.{ℕ, ◌+◌, ◌*◌, ◌-◌, ◌/◌, ◌%◌, Bool, cond, not, ◌&&◌, ◌||◌, List, [], ◌∷◌, nat_le, ◌==◌, ℤ, pos, neg_ℤ, length, get_or}
use Rattle.zone_text.specs.Offsets.{in_range, sign_of, hours_of, rest_of}
use Rattle.zone_text.specs.Answered.{ZoneMinutes}

-- a sign, two digits of hours and two of minutes: −210 is -0330, −30 is -0030 and 0 is +0000
unfoldable pub characters : ℤ → List ℕ
characters z = sign_of z ∷ (48 + hours_of z / 10) ∷ (48 + hours_of z % 10) ∷ (48 + rest_of z / 10) ∷ (48 + rest_of z % 10) ∷ []

-- a write's kind, and what stands in the buffer after it
pub record Written : Type 0 where
  pub kind : ℕ
  pub buffer : List ℕ

abbrev pub written : (kind : ℕ) → List ℕ → Written
written kind buffer = record { kind = kind; buffer = buffer }

-- 30, offset out of range, then 33, buffer not five bytes; a refusal writes nothing
unfoldable pub zone_write : ℤ → List ℕ → Written
zone_write z buffer = cond (in_range z) (cond (length buffer == 5) (written 0 (characters z)) (written 33 buffer)) (written 30 buffer)

abbrev pub is_sign : ℕ → Bool
is_sign c = c == 43 || c == 45

abbrev pub is_digit : ℕ → Bool
is_digit c = nat_le 48 c && nat_le c 57

-- the number of two digits, and the minutes of four
abbrev pub two_of : (tens ones : ℕ) → ℕ
two_of tens ones = (tens - 48) * 10 + (ones - 48)

abbrev pub size_of : (b c d e : ℕ) → ℕ
size_of b c d e = two_of b c * 60 + two_of d e

-- a sign and four digits, minutes not above 59, and not -0000
unfoldable pub is_zone : (a b c d e : ℕ) → Bool
is_zone a b c d e = is_sign a && is_digit b && is_digit c && is_digit d && is_digit e && nat_le (two_of d e) 59 && not (a == 45 && size_of b c d e == 0)

-- the minutes that they say
abbrev pub minutes_of : (a b c d e : ℕ) → ℤ
minutes_of a b c d e = cond (a == 45) (neg_ℤ (pos (size_of b c d e))) (pos (size_of b c d e))

abbrev pub zone_minutes : (kind : ℕ) → ℤ → ZoneMinutes
zone_minutes kind z = record { kind = kind; minutes = z }

-- 32, not such characters, then 30, out of range; a refusal gives 0 minutes
unfoldable pub zone_of : (a b c d e : ℕ) → ZoneMinutes
zone_of a b c d e =
    cond (is_zone a b c d e) (cond (in_range (minutes_of a b c d e)) (zone_minutes 0 (minutes_of a b c d e)) (zone_minutes 30 (pos 0))) (zone_minutes 32 (pos 0))

-- 32 too where there aren't five
unfoldable pub zone_read : List ℕ → ZoneMinutes
zone_read s = cond (length s == 5) (zone_of (get_or s 0 0) (get_or s 1 0) (get_or s 2 0) (get_or s 3 0) (get_or s 4 0)) (zone_minutes 32 (pos 0))
