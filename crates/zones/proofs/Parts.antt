-- What eight bytes in range say, and that they are handed out where they are accepted. Assumes nothing.
use Prim.Native.Nat.{ℕ}
use mathlib.Core.Path.{◌≡◌}
use mathlib.Core.Bool.{true}
use mathlib.Core.List.{List}
use lib.IntN.{ℤ}
use lib.ListN.{length}
use borrow.Author.Tests.{eq-eqb}
use Rattle.zone_text.specs.Answered.{ZoneMinutes}
use Rattle.zone_text.specs.Offsets.{in_range}
use Rattle.zone_text.specs.Zone.{zone_minutes}
use Rattle.zones.specs.Records.{offset_of, minutes_of}
use Rattle.zones.specs.Requests.{Lent, accepted}

module _ (part : List ℕ) (h : length part ≡ 8) {z : ℤ} (q : z ≡ offset_of part) where
  pub in_reach : in_range z ≡ true → zone_minutes 0 z ≡ minutes_of part
  unfolding minutes_of
  in_reach k = simp (eq-eqb (length part) 8 h, rw q at k, q)

module _ (eight : Lent) {answer : ZoneMinutes} (a : answer ≡ minutes_of eight.bytes) where
  pub kept : answer.kind ≡ 0 → eight ≡ accepted eight
  unfolding accepted
  kept h = simp (← a, eq-eqb answer.kind 0 h)
