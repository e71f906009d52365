-- An hour's place in the table. Assumes nothing.
use Prim.Native.Nat.{suc, ◌-◌, ◌≤◌}
use native.Mathlib.Omega.{arith}
use mathlib.Core.Path.{◌≡◌, refl}
use mathlib.Core.Bool.{true}
use lib.IntN.{ℤ, pos, negsuc, ◌+ℤ◌}
use borrow.Author.Tests.{leb-true, le-ltb}
use Rattle.table.proofs.Tests.{two}
use Rattle.zones.specs.Requests.{in_table, place_of}

-- the hours of the table stand at the places 0 to 30
pub placed : (hour : ℤ) → in_table hour ≡ true → (hour +ℤ pos 15 ≡ pos (place_of hour)) × (place_of hour ≤ 30)
placed (pos n) h = let k = leb-true n 15 h in (refl, omega arith)
placed (negsuc n) h =
    let k = leb-true n 14 (two _ _ h).0 in
    let e : negsuc n +ℤ pos 15 ≡ pos (15 - suc n) = simp (le-ltb 15 (suc n) (omega arith)) in
    rw e (refl, omega arith)
