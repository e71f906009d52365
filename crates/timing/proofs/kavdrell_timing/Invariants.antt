-- `timing::kavdrell_timing`: every field is at least three bytes, so that the sum stays below the place reached. Assumes nothing.
use Rattle.std.proofs.Common.{◌≡◌, ◌≤◌, length}
use Rattle.timing.proofs.kavdrell_timing.Given as goal

abbrev pub invariant-loop-field : goal.invariant-loop-field
invariant-loop-field l =
    (goal.iterator-loop-field).can_next l.field-iterator ×
    (goal.iterator-loop-field).is_finite l.field-iterator ×
    (l.sum ≤ l.field-iterator.place) × (l.field-iterator.place ≤ length l.schedule) × (l.field-iterator.schedule.now ≡ l.schedule)
