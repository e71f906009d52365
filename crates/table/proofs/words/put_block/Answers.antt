-- `table::words::put_block`: the words stored are the block put anew. Assumes nothing.
use Rattle.table.proofs.Places.{block_put}
use Rattle.table.proofs.words.put_block.Goals as goal

pub returns : goal.returns
returns c = block_put _ c.requires.0 _ _ _ c.requires.1 c.requires.2 c.block_place-at.ensures.0
