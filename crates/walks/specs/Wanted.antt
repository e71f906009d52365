-- Which blocks a count counts. Assumes nothing.
use Rattle.std.specs.Prelude.{◌≡◌, Bool}
use Rattle.table.specs.declared.records.BlockRecord.{BlockRecord}
use Rattle.table.specs.Records.{block_row}
use Rattle.table.specs.State.{BlockRow}

-- what a test answers of a record is what another says of its row
abbrev pub Decides : (BlockRecord → Bool → Type 0) → (BlockRow → Bool) → Type 0
Decides answers test = (b : BlockRecord) (r : Bool) → answers b r → r ≡ test (block_row b)
