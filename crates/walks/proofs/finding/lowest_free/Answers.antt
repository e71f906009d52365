-- `walks::finding::lowest_free`: each test is made of the words that stand at its block. Assumes nothing.
use Rattle.std.proofs.Common.{rules}
use Rattle.table.specs.State.{is_free, free_block}
use Rattle.table.specs.Words.{state_of}
use Rattle.table.proofs.ByPlace.{from_next}
use Rattle.table.proofs.Ranges.{first_place}
use Rattle.walks.proofs.finding.lowest_free.Goals as goal

pub returns : goal.returns
returns c =
    let blocks = (state_of c.args.table.now).blocks in
    let found = first_place is_free blocks free_block c.find.result _ (search rules) c.find.ensures.ran (λ i b q k. search (rules, from_next blocks i free_block)) in
    search (rules, found)
