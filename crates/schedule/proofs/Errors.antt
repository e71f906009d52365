-- The kinds of faults and refusals are none of them 0, and what a failed search for a tag answers. Assumes nothing.
use mathlib.Core.Path.{◌≡◌}
use native.Mathlib.Omega.{arith}
use Rattle.std.specs.Prelude.{Option, Some, None, Err}
use Rattle.std.specs.Option.{ok_or}
use Rattle.schedule.specs.declared.FaultKind.{FaultKind}
use Rattle.schedule.specs.declared.FaultKind.TheVariants.{CutShort, UnknownTag, OtherLength}
use Rattle.schedule.specs.Said.{fault_number}

pub fault_is : (kind : FaultKind) → fault_number kind ≡ 0 → ⊥
fault_is CutShort e = omega arith
fault_is UnknownTag e = omega arith
fault_is OtherLength e = omega arith

pub its_error : {T E : Type 0} (o : Option T) {e d : E} → Err e ≡ ok_or o d → e ≡ d
its_error None r = cc
its_error (Some x) r = cc
