-- What becomes of a block that a slot gets. Assumes nothing.
use Rattle.std.proofs.Common.{◌≡◌, ◌∙◌, false, ◌==◌}
use Prim.Native.Nat.{ℕ}
use Rattle.table.specs.State.{BlockRow, State, with_slot}
use Rattle.table.specs.Records.{block_row}
use Rattle.table.specs.declared.records.BlockRecord.{BlockRecord}
use Rattle.rules.specs.Effects.{shown, shown_if_made}
use Rattle.rules.specs.Steps.{shown_in}

-- what becomes of a block that a slot gets, by the record that the code read; block 0 is none
module _ (b : BlockRecord) (x : BlockRow) (q : block_row b ≡ x) where
  pub shown_other : b.state.0 == 1 ≡ false → x ≡ shown_if_made x
  shown_other n = rw (← q, n)
