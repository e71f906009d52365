-- An answer says what no second answer says. Assumes nothing.
use Prim.Native.Nat.{ℕ}
use mathlib.Core.Path.{◌≡◌, refl, sym, ap, ◌∙◌}
use mathlib.Core.Bool.{cond}
use lib.Dec.{eqb}
use lib.IntN.{ℤ}
use Rattle.std.specs.Prelude.{Result, Ok, Err}
use Rattle.zone_text.specs.declared.ZoneError.{ZoneError}
use Rattle.zone_text.specs.declared.ZoneError.TheVariants.{OutOfRange, NoRecord, NotAZone, NotFiveBytes}
use Rattle.zone_text.specs.Answered.{ZoneMinutes}
use Rattle.zone_text.specs.Said.{number_of, kind_said, said}

-- the refusal of a number
refusal : ℕ → ZoneError
refusal n = cond (eqb n 30) OutOfRange (cond (eqb n 31) NoRecord (cond (eqb n 32) NotAZone NotFiveBytes))

numbered : (e : ZoneError) → refusal (number_of e) ≡ e
unfolding refusal
numbered OutOfRange = refl
numbered NoRecord = refl
numbered NotAZone = refl
numbered NotFiveBytes = refl

-- the answer that says a kind and a value
answer : {A : Type 0} → ℕ → A → Result A ZoneError
answer kind a = cond (eqb kind 0) (Ok a) (Err (refusal kind))

refused : {A : Type 0} (e : ZoneError) (a : A) → answer (number_of e) a ≡ Err e
unfolding answer
refused OutOfRange a = ap Err (numbered OutOfRange)
refused NoRecord a = ap Err (numbered NoRecord)
refused NotAZone a = ap Err (numbered NotAZone)
refused NotFiveBytes a = ap Err (numbered NotFiveBytes)

meant : (r : Result ℤ ZoneError) → answer (said r).kind (said r).minutes ≡ r
unfolding answer
meant (Ok z) = refl
meant (Err e) = refused e _

pub no_second : (r s : Result ℤ ZoneError) → said r ≡ said s → r ≡ s
no_second r s h = sym (meant r) ∙ ap (λ (m : ZoneMinutes). answer m.kind m.minutes) h ∙ meant s

-- a write's answer too, whose value is none
kind_meant : (r : Result (Unit {0}) ZoneError) → answer (kind_said r) tt ≡ r
unfolding answer
kind_meant (Ok tt) = refl
kind_meant (Err e) = refused e tt

pub no_second_kind : (r s : Result (Unit {0}) ZoneError) → kind_said r ≡ kind_said s → r ≡ s
no_second_kind r s h = sym (kind_meant r) ∙ ap (λ (k : ℕ). answer k tt) h ∙ kind_meant s
