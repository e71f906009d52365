-- Zone records (02, request i): eight bytes, the offset and then a name; the fixed table of the whole hours; and what eight bytes say. Assumes
-- nothing.
use Rattle.std.specs.Prelude.{ℕ, zero, suc, ◌+◌, ◌*◌, ◌-◌, ◌/◌, ◌%◌, cond, List, [], ◌∷◌, ◌++◌, nat_lt, ◌==◌, ℤ, pos, negsuc, ◌-ℤ◌, ◌*ℤ◌, length, get_or, take}
use Rattle.zone_text.specs.Answered.{ZoneMinutes}
use Rattle.zone_text.specs.Offsets.{in_range}
use Rattle.zone_text.specs.Zone.{characters, zone_minutes}

-- two bytes, most significant first, as a signed number
unfoldable pub signed : (high low : ℕ) → ℤ
signed high low = cond (nat_lt (high * 256 + low) 32768) (pos (high * 256 + low)) (pos (high * 256 + low) -ℤ pos 65536)

-- the offset of a record, in minutes
abbrev pub offset_of : List ℕ → ℤ
offset_of r = signed (get_or r 0 0) (get_or r 1 0)

-- the two bytes of a signed number
abbrev pub two_bytes : ℕ → List ℕ
two_bytes n = n / 256 ∷ n % 256 ∷ []

abbrev pub bytes_of : ℤ → List ℕ
bytes_of (pos n) = two_bytes n
bytes_of (negsuc n) = two_bytes (65535 - n)

-- the record of a whole hour: its minutes, and the name UTC, a sign (+ for 0) and two digits
unfoldable pub hour_record : (hour : ℤ) → List ℕ
hour_record hour = bytes_of (pos 60 *ℤ hour) ++ 85 ∷ 84 ∷ 67 ∷ take 3 (characters (pos 60 *ℤ hour))

-- n records in order, the first at this place of the table, where the hours count from −15
abbrev pub hour_at : (place : ℕ) → ℤ
hour_at place = pos place -ℤ pos 15

abbrev pub hours_from : (place n : ℕ) → List ℕ
hours_from place zero = []
hours_from place (suc n) = hour_record (hour_at place) ++ hours_from (suc place) n

-- the fixed table: 31 records, −15 to +15, in order from byte 0
unfoldable pub fixed_table : List ℕ
fixed_table = hours_from 0 31

-- 31, no eight bytes, then 30, offset in the record out of range; a refusal gives 0 minutes
unfoldable pub minutes_of : List ℕ → ZoneMinutes
minutes_of part =
    cond (length part == 8) (cond (in_range (offset_of part)) (zone_minutes 0 (offset_of part)) (zone_minutes 30 (pos 0))) (zone_minutes 31 (pos 0))
