-- What a read answers where five characters are a zone in range. Assumes nothing.
use Prim.Native.Nat.{ℕ}
use mathlib.Core.Path.{◌≡◌}
use mathlib.Core.Bool.{true}
use lib.IntN.{ℤ}
use Rattle.zone_text.specs.Offsets.{in_range}
use Rattle.zone_text.specs.Zone.{is_zone, minutes_of, zone_minutes, zone_of}

module _ (a b c d e : ℕ) (h : is_zone a b c d e ≡ true) {z : ℤ} (q : z ≡ minutes_of a b c d e) where
  pub zone : in_range z ≡ true → zone_minutes 0 z ≡ zone_of a b c d e
  unfolding zone_of
  zone k = simp (h, rw q at k, q)
