-- What a request gets of the two stores (02, request i): the eight bytes as a part of the store they came from, and not a copy; or an empty part;
-- and the number of the refusal with the minutes. Assumes nothing.
use Rattle.std.specs.Prelude.{ℕ, ◌+◌, ◌*◌, ◌-◌, Bool, cond, ◌&&◌, List, [], nat_le, ◌==◌, ℤ, pos, negsuc, nat_abs, ◌+ℤ◌, length, take, drop}
use Rattle.std.specs.Int.Signed.{le_z}
use Rattle.std.specs.Borrow.{Bor}
use Rattle.zone_text.specs.Answered.{ZoneMinutes}
use Rattle.zones.specs.Records.{minutes_of}
use Rattle.zones.specs.declared.requests.Request.{Request}
use Rattle.zones.specs.declared.requests.Request.TheVariants.{Hour, Block}

-- a lent store, or a part of one: where it begins in memory, and its bytes
pub record Lent : Type 0 where
  pub begins : ℕ × ℕ
  pub bytes : List ℕ

abbrev pub lent : Bor (List ℕ) → Lent
lent r = record { begins = r.ref_ptr; bytes = r.now }

-- n bytes of a store from a place on, where they lie; and none of them
abbrev pub part : Lent → (at n : ℕ) → Lent
part store at n = record { begins = (store.begins.0, at + store.begins.1); bytes = take n (drop at store.bytes) }

abbrev pub no_part : Lent → Lent
no_part store = record { begins = store.begins; bytes = [] }

-- the eight bytes from a place on; an empty part where the store is too short
unfoldable pub eight_at : Lent → (at : ℕ) → Lent
eight_at store at = cond (nat_le (at + 8) (length store.bytes)) (part store at 8) (no_part store)

-- the table has the hours −15 to +15, in order from byte 0
abbrev pub in_table : ℤ → Bool
in_table hour = le_z (negsuc 14) hour && le_z hour (pos 15)

abbrev pub place_of : ℤ → ℕ
place_of hour = nat_abs (hour +ℤ pos 15)

unfoldable pub hour_part : (table : Lent) → ℤ → Lent
hour_part table hour = cond (in_table hour) (eight_at table (8 * place_of hour)) (no_part table)

-- block n lies at byte 8 × (n − 1) of the room; block 0 is none
abbrev pub room_of : (block : ℕ) → ℕ
room_of block = 8 * (block - 1)

unfoldable pub block_part : (room : Lent) → (block : ℕ) → Lent
block_part room block = cond (block == 0) (no_part room) (eight_at room (room_of block))

-- the eight bytes that a request names
abbrev pub found : (table room : Lent) → Request → Lent
found table room (Hour hour) = hour_part table hour
found table room (Block block) = block_part room block.0

-- the refusal's number, or 0 and the minutes
abbrev pub answer_to : (table room : Lent) → Request → ZoneMinutes
answer_to table room request = minutes_of (found table room request).bytes

-- eight bytes that are accepted, or none of them
unfoldable pub accepted : Lent → Lent
accepted eight = cond ((minutes_of eight.bytes).kind == 0) eight (no_part eight)

abbrev pub record_of : (table room : Lent) → Request → Lent
record_of table room request = accepted (found table room request)
