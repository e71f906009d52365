-- The rule of the fixed table, at each of its hours: where the hour's record lies, and that it says the hour's minutes. Assumes nothing.
use Prim.Native.Nat.{ℕ, zero, suc, ◌+◌, ◌*◌, ◌-◌, ◌/◌, ◌%◌, ◌≤◌, ◌<◌}
use native.Mathlib.Nat.{zero-add}
use native.Mathlib.Omega.{arith}
use mathlib.Core.Path.{◌≡◌, refl, sym, ap, ◌∙◌}
use mathlib.Core.Bool.{true}
use mathlib.Core.List.{List, ◌∷◌, ◌++◌}
use lib.IntN.{ℤ, pos, negsuc, nat_abs, neg_ℤ, ◌-ℤ◌, ◌*ℤ◌, +ℤ-neg_ℤ_cancel}
use lib.ListN.{length, take, drop}
use lib.Seq.{take_at, drop-append-add}
use borrow.Author.Tests.{leb-true, le-leb, lt-ltb, le-ltb}
use Rattle.table.proofs.Tests.{two, both}
use Rattle.zone_text.specs.Answered.{ZoneMinutes}
use Rattle.zone_text.specs.Offsets.{in_range}
use Rattle.zone_text.specs.Zone.{characters, zone_minutes}
use Rattle.zone_text.proofs.Signs.{within}
use Rattle.zones.specs.declared.requests.Request.TheVariants.{Hour}
use Rattle.zones.specs.Records.{signed, offset_of, bytes_of, hour_record, hour_at, hours_from, fixed_table, minutes_of}
use Rattle.zones.specs.Requests.{Lent, part, eight_at, in_table, place_of, hour_part, answer_to, record_of}
use Rattle.zones.proofs.Offsets.{placed}
use Rattle.zones.proofs.Parts.{in_reach, kept}

-- a record is eight bytes
eight_long : (z : ℤ) → length (bytes_of z ++ 85 ∷ 84 ∷ 67 ∷ take 3 (characters z)) ≡ 8
unfolding characters
eight_long (pos n) = refl
eight_long (negsuc n) = refl

record_long : (hour : ℤ) → length (hour_record hour) ≡ 8
unfolding hour_record
record_long hour = eight_long (pos 60 *ℤ hour)

-- the records lie in order
in_order : (k n place : ℕ) → k < n → take 8 (drop (8 * k) (hours_from place n)) ≡ hour_record (hour_at (place + k))
in_order k zero place h = absurd (omega arith)
in_order zero (suc n) place h = let e : place + 0 ≡ place = omega arith in rw e (take_at (hour_record (hour_at place)) (hours_from (suc place) n) 8 (record_long _))
in_order (suc k) (suc n) place h =
    let r = hour_record (hour_at place) in
    let l = record_long (hour_at place) in
    let e : 8 * suc k ≡ length r + 8 * k = omega arith in
    let f : suc place + k ≡ place + suc k = omega arith in
    ap (take 8) (ap (λ (i : ℕ). drop i (r ++ hours_from (suc place) n)) e ∙ drop-append-add r (hours_from (suc place) n) (8 * k))
    ∙ in_order k n (suc place) (omega arith) ∙ ap (λ (i : ℕ). hour_record (hour_at i)) f

-- two bytes say the number that they are of
both_halves : (n : ℕ) → n / 256 * 256 + n % 256 ≡ n
both_halves n = omega arith

two_bytes_lem : (z : ℤ) (name : List ℕ) → nat_abs z ≤ 900 → offset_of (bytes_of z ++ name) ≡ z
unfolding signed
two_bytes_lem (pos n) name h = rw (both_halves n) (simp (lt-ltb n 32768 (omega arith)))
two_bytes_lem (negsuc n) name h =
    let e : 65536 - suc (65535 - n) ≡ n = omega arith in
    rw (both_halves (65535 - n)) (simp (le-ltb (65535 - n) 32768 (omega arith), lt-ltb (65535 - n) 65536 (omega arith), e))

-- a whole hour's minutes are in range
hour_in_range : (hour : ℤ) → in_table hour ≡ true → in_range (pos 60 *ℤ hour) ≡ true
hour_in_range (pos n) h = let k = leb-true n 15 h in le-leb (60 * n) 900 (omega arith)
hour_in_range (negsuc n) h = let k = leb-true n 14 (two _ _ h).0 in below (60 * suc n) (omega arith)
  where
    below : (m : ℕ) → m ≤ 900 → in_range (neg_ℤ (pos m)) ≡ true
    below zero l = refl
    below (suc m) l = both _ _ (le-leb m 899 (omega arith)) refl

says_minutes : (hour : ℤ) → in_table hour ≡ true → offset_of (hour_record hour) ≡ pos 60 *ℤ hour
unfolding hour_record
says_minutes hour h = two_bytes_lem (pos 60 *ℤ hour) _ (within (pos 60 *ℤ hour) (hour_in_range hour h))

-- THE FIXED TABLE. At each hour of the table stands the hour's record,
pub hour_stands : (hour : ℤ) → in_table hour ≡ true → take 8 (drop (8 * place_of hour) fixed_table) ≡ hour_record hour
unfolding fixed_table
hour_stands hour h = let p = placed hour h in
    in_order (place_of hour) 31 0 (omega (arith, p.1)) ∙ ap hour_record (ap (λ (i : ℕ). hour_at i) (zero-add (place_of hour))
    ∙ ap (λ (z : ℤ). z -ℤ pos 15) (sym p.0) ∙ +ℤ-neg_ℤ_cancel hour (pos 15))

-- and it says, accepted, the hour's minutes.
pub hour_says : (hour : ℤ) → in_table hour ≡ true → minutes_of (hour_record hour) ≡ zone_minutes 0 (pos 60 *ℤ hour)
hour_says hour h = sym (in_reach (hour_record hour) (record_long hour) (sym (says_minutes hour h)) (hour_in_range hour h))

-- So a request for a whole hour gets, of the fixed table, the eight bytes at the hour's place, and the hour's minutes.
table_long : length fixed_table ≡ 248
unfolding fixed_table hour_record characters
table_long = refl

module _ (table room : Lent) (hour : ℤ) (fixed : table.bytes ≡ fixed_table) (h : in_table hour ≡ true) where
  eight : Lent
  eight = part table (8 * place_of hour) 8

  hour_found : hour_part table hour ≡ eight
  unfolding hour_part eight_at eight
  hour_found =
      let p = (placed hour h).1 in
      let l = ap length fixed ∙ table_long in
      simp (h, le-leb (8 * place_of hour + 8) (length table.bytes) (omega arith))

  hour_answer : minutes_of eight.bytes ≡ zone_minutes 0 (pos 60 *ℤ hour)
  unfolding eight
  hour_answer = ap (λ (bytes : List ℕ). minutes_of (take 8 (drop (8 * place_of hour) bytes))) fixed ∙ ap minutes_of (hour_stands hour h) ∙ hour_says hour h

  pub whole_hour : (record_of table room (Hour hour) ≡ part table (8 * place_of hour) 8) × (answer_to table room (Hour hour) ≡ zone_minutes 0 (pos 60 *ℤ hour))
  unfolding eight
  whole_hour = rw hour_found (sym (kept eight refl (ap (λ (a : ZoneMinutes). a.kind) hour_answer)), hour_answer)
