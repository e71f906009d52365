-- What is written reads back as the same minutes, and every five characters that are accepted are what would be written for them. Assumes
-- nothing.
use Prim.Native.Nat.{ℕ, zero, suc, ◌+◌, ◌/◌, ◌%◌, ◌≤◌, ◌<◌}
use native.Mathlib.Omega.{arith}
use mathlib.Core.Path.{◌≡◌, refl, sym, ap, ◌∙◌}
use mathlib.Core.Bool.{true, false, cond, ◌&&◌}
use mathlib.Core.List.{List, [], ◌∷◌}
use lib.Dec.{leb, eqb}
use lib.IntN.{ℤ, pos, negsuc, neg_ℤ, nat_abs}
use lib.ListN.{length, get_or}
use borrow.Author.Tests.{leb-true, le-leb, eqb-true, eqb-false, ne_eqb, not-true}
use Rattle.table.proofs.Tests.{two, both, either, decide, cond_cases}
use Rattle.zone_text.specs.Answered.{ZoneMinutes}
use Rattle.zone_text.specs.Offsets.{in_range, sign_of, hours_of, rest_of}
use Rattle.zone_text.specs.Zone.{characters, Written, written, zone_write, is_sign, is_digit, two_of, size_of, is_zone, minutes_of, zone_minutes, zone_of, zone_read}
use Rattle.zone_text.proofs.Signs.{within, hours_size, rest_size, size_neg}
use Rattle.zone_text.proofs.Writing.{five, spelled, of_five}
use Rattle.zone_text.proofs.Reading.{zone}

-- what the test of five characters says of them
record Formed (a b c d e : ℕ) : Type 0 where
  sign : is_sign a ≡ true
  digits : (is_digit b ≡ true) × (is_digit c ≡ true) × (is_digit d ≡ true) × (is_digit e ≡ true)
  minutes : two_of d e ≤ 59
  signed : eqb a 45 && eqb (size_of b c d e) 0 ≡ false

module _ (a b c d e : ℕ) where
  formed : is_zone a b c d e ≡ true → Formed a b c d e
  unfolding is_zone
  formed h =
      let t = two _ _ h in
      let u = two _ _ t.0 in
      let v = two _ _ u.0 in
      let w = two _ _ v.0 in
      let x = two _ _ w.0 in
      let y = two _ _ x.0 in
      record { sign = y.0; digits = (y.1, x.1, w.1, v.1); minutes = leb-true _ _ u.1; signed = not-true _ t.1 }

  form : Formed a b c d e → is_zone a b c d e ≡ true
  unfolding is_zone
  form f = simp (f.sign, f.digits.0, f.digits.1, f.digits.2, f.digits.3, le-leb (two_of d e) 59 f.minutes, f.signed)

-- the sign of an offset: it is a sign, - stands before no 0, and with the size it says the offset
plain_sign : (z : ℤ) → is_sign (sign_of z) ≡ true
plain_sign (pos k) = refl
plain_sign (negsuc k) = refl

unsigned : (z : ℤ) → eqb (sign_of z) 45 && eqb (nat_abs z) 0 ≡ false
unsigned (pos k) = refl
unsigned (negsuc k) = ne_eqb (suc k) 0 (λ e. omega arith)

turned : (z : ℤ) → z ≡ cond (eqb (sign_of z) 45) (neg_ℤ (pos (nat_abs z))) (pos (nat_abs z))
turned (pos k) = refl
turned (negsuc k) = refl

-- the four digits of a size, after the sign of a number of that size
digit : (k : ℕ) → k < 10 → is_digit (48 + k) ≡ true
digit k l = both _ _ (le-leb 48 (48 + k) (omega arith)) (le-leb (48 + k) 57 (omega arith))

module _ (z : ℤ) (r : in_range z ≡ true) where
  abbrev n : ℕ
  n = nat_abs z

  spelt : characters z ≡ sign_of z ∷ (48 + n / 60 / 10) ∷ (48 + n / 60 % 10) ∷ (48 + n % 60 / 10) ∷ (48 + n % 60 % 10) ∷ []
  unfolding characters
  spelt = rw (hours_size z, rest_size z)

  size : size_of (48 + n / 60 / 10) (48 + n / 60 % 10) (48 + n % 60 / 10) (48 + n % 60 % 10) ≡ n
  size = omega (arith, within z r)

  -- the characters of an offset are well formed, and say it
  good : Formed (sign_of z) (48 + n / 60 / 10) (48 + n / 60 % 10) (48 + n % 60 / 10) (48 + n % 60 % 10)
  good = let k = within z r in record {
    sign = plain_sign z;
    digits =
        (digit (n / 60 / 10) (omega arith), digit (n / 60 % 10) (omega arith), digit (n % 60 / 10) (omega arith), digit (n % 60 % 10) (omega arith));
    minutes = omega arith;
    signed = rw size (unsigned z);
  }

  say : z ≡ minutes_of (sign_of z) (48 + n / 60 / 10) (48 + n / 60 % 10) (48 + n % 60 / 10) (48 + n % 60 % 10)
  say = rw size (turned z)

  reads_back : zone_read (characters z) ≡ zone_minutes 0 z
  unfolding zone_read
  reads_back = rw spelt (sym (zone _ _ _ _ _ (form _ _ _ _ _ good) say r))

-- WRITTEN AND READ. What an accepted write leaves reads back, accepted, as the minutes that were written.
pub written_reads_back : (z : ℤ) (buffer : List ℕ) → (zone_write z buffer).kind ≡ 0 → zone_read (zone_write z buffer).buffer ≡ zone_minutes 0 z
unfolding zone_write
written_reads_back z buffer = cond_cases Back (in_range z) _ _
    (λ r. cond_cases Back (eqb (length buffer) 5) _ _ (λ h k. reads_back z r) (λ h k. absurd (omega arith))) (λ r k. absurd (omega arith))
  where
    Back : Written → Type 0
    Back w = w.kind ≡ 0 → zone_read w.buffer ≡ zone_minutes 0 z

-- four digits are those of the size that they say
digits_of_lem : (c : ℕ) → is_digit c ≡ true → (48 ≤ c) × (c ≤ 57)
digits_of_lem c h = let t = two (leb 48 c) _ h in (leb-true 48 c t.0, leb-true c 57 t.1)

below-zero : (k : ℕ) → (k ≡ 0 → ⊥) → sign_of (neg_ℤ (pos k)) ≡ 45
below-zero zero h = absurd (h refl)
below-zero (suc k) h = refl

module _ (a b c d e : ℕ) (f : Formed a b c d e) where
  abbrev z : ℤ
  z = minutes_of a b c d e

  size_said : nat_abs z ≡ size_of b c d e
  size_said = decide (eqb a 45) (λ h. simp h (size_neg (pos (size_of b c d e)))) (λ h. simp h)

  sign_said : a ≡ sign_of z
  sign_said = either (eqb a 43) (eqb a 45) f.sign (λ h. let p = eqb-true a 43 h in simp (ne_eqb a 45 (λ q. omega arith)) p)
      (λ h. simp h (eqb-true a 45 h ∙ sym (below-zero (size_of b c d e) (eqb-false _ _ (simp h at f.signed)))))

  written_so : a ∷ b ∷ c ∷ d ∷ e ∷ [] ≡ characters z
  written_so =
      let p = digits_of_lem b f.digits.0 in
      let q = digits_of_lem c f.digits.1 in
      let s = digits_of_lem d f.digits.2 in
      let t = digits_of_lem e f.digits.3 in
      let h : hours_of z ≡ two_of b c = hours_size z ∙ ap (λ (k : ℕ). k / 60) size_said ∙ omega arith in
      let m : rest_of z ≡ two_of d e = rest_size z ∙ ap (λ (k : ℕ). k % 60) size_said ∙ omega arith in
      spelled z refl refl sign_said (omega arith) (omega arith) (omega arith) (omega arith)

-- READ AND WRITTEN. Five characters that are accepted are what is written for their minutes, into any five bytes.
module _ (s buffer : List ℕ) where
  abbrev at : ℕ → ℕ
  at i = get_or s i 0

  Same : ZoneMinutes → Type 0
  Same r = r.kind ≡ 0 → length buffer ≡ 5 → zone_write r.minutes buffer ≡ written 0 s

  five_same : length s ≡ 5 → Same (zone_of (at 0) (at 1) (at 2) (at 3) (at 4))
  unfolding zone_of Same
  five_same l = cond_cases Same (is_zone (at 0) (at 1) (at 2) (at 3) (at 4)) _ _
      (λ h. cond_cases Same (in_range (minutes_of (at 0) (at 1) (at 2) (at 3) (at 4))) _ _
      (λ r k b. sym (five (minutes_of (at 0) (at 1) (at 2) (at 3) (at 4)) buffer r b (of_five s l ∙ written_so (at 0) (at 1) (at 2) (at 3) (at 4)
      (formed _ _ _ _ _ h))))
      (λ r k. absurd (omega arith)))
      (λ h k. absurd (omega arith))

  pub accepted_is_written : (zone_read s).kind ≡ 0 → length buffer ≡ 5 → zone_write (zone_read s).minutes buffer ≡ written 0 s
  unfolding zone_read Same
  accepted_is_written = cond_cases Same (eqb (length s) 5) _ _ (λ l. five_same (eqb-true _ _ l)) (λ l k. absurd (omega arith))
