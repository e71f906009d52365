-- `schedule::field_at`: the end, a fault, or a whole field. Assumes nothing.
use Rattle.std.proofs.Common.{arith, refl, sym, ap, ◌∙◌}
use Rattle.schedule.proofs.Faults.{kind_says}
use Rattle.schedule.proofs.Stands.{no_bytes, fault, whole}
use Rattle.schedule.specs.Fields.{fault_kind}
use Rattle.schedule.proofs.Errors.{fault_is}
use Rattle.schedule.proofs.TagBytes.{read}
use Rattle.schedule.proofs.field_at.Goals as goal

pub returns-in_err-byte-clause-field : goal.returns-in_err-byte-clause-field
returns-in_err-byte-clause-field c = rw c.from_residual.ensures (no_bytes _ _ c.in_err-byte.ensures.lookup.3)

-- where no check fails the body is within the schedule
pub slice_bounds-numbers_of-end : goal.slice_bounds-numbers_of-end
slice_bounds-numbers_of-end c =
    let t = read c.in-Ok.tag c.in-Ok.ensures.tag in
    omega (arith, t.same, (kind_says _ _ _).inside (sym c.in-Ok.ensures.kind))

pub returns-in-Err-clause-field : goal.returns-in-Err-clause-field
returns-in-Err-clause-field c =
    let h = c.in_ok-byte.ensures.lookup.3 in
    rw (h.1 0) (fault _ _ h.0 refl c.in-Err.ensures.kind (fault_is c.in-Err.kind))

pub returns-in-Ok-clause-field : goal.returns-in-Ok-clause-field
returns-in-Ok-clause-field c =
    let t = read c.in-Ok.tag c.in-Ok.ensures.tag in
    let n = c.length.ensures.0 ∙ t.same in
    rw c.in-Ok.ensures.tag
    (whole _ _ c.in_ok-byte.ensures.lookup.3.0 n (c.in-Ok.ensures.kind ∙ ap (fault_kind _ _) (sym n)) refl c.numbers_of-numbers.ensures)
