-- `schedule::writing::put_field`: the tag, the length and the numbers, one behind the other. Assumes nothing.
use Rattle.std.proofs.Common.{arith, ap, sym, ◌∙◌, length-drop}
use Rattle.schedule.specs.Fields.{length_of}
use Rattle.schedule.proofs.Stores.{field_made}
use Rattle.schedule.proofs.writing.put_field.Goals as goal

pub returns : goal.returns
returns c =
    rw (c.put_numbers.ensures, c.copy_from_slice.ensures.after, ← c.from.ensures)
    (field_made c.args.field.now c.to_be_bytes.result c.from.result c.length.result _ c.args.numbers.now c.to_be_bytes.ensures
    (c.length.ensures.0 ∙ ap length_of (sym c.from.ensures)) (simp length-drop (omega arith)) (simp length-drop (omega arith)))
