-- `reclaim::open`: a size outside its limits, another length, or done. Assumes nothing.
use Rattle.std.proofs.Common.{arith, sym, ◌∙◌}
use Rattle.reclaim.proofs.Tables.{open_bad_size, open_bad_length, open_done}
use Rattle.reclaim.proofs.open.Goals as goal

pub returns-then-not-sizes_sound : goal.returns-then-not-sizes_sound
returns-then-not-sizes_sound c = open_bad_size _ _ _ _ _ _ (sym c.sizes_sound.ensures ∙ c.if-not-sizes_sound.true)

pub returns-then-table-length : goal.returns-then-table-length
returns-then-table-length c =
    open_bad_length _ _ _ _ _ _ (sym c.sizes_sound.ensures ∙ c.if-not-sizes_sound.false) (λ z. omega arith)

pub returns : goal.returns
returns c =
    open_done _ _ _ _ _ _ (sym c.sizes_sound.ensures ∙ c.if-not-sizes_sound.false) (omega arith) _ _
    c.length_for-length.ensures c.put_opened.ensures
