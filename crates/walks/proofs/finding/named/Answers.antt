-- `walks::finding::named`: each test is made of the word that stands at its slot. Assumes nothing.
use Rattle.std.proofs.Common.{rules, nat_eq}
use Rattle.table.specs.Words.{state_of}
use Rattle.table.proofs.Ranges.{any_place}
use Rattle.rules.specs.Steps.{named}
use Rattle.walks.proofs.finding.named.Goals as goal

pub returns : goal.returns
unfolding named
returns c = any_place (nat_eq c.args.block.0) (state_of c.args.table.now).slots 0 c.any.result (search rules) c.any.ensures.ran (λ i b q k. search rules)
