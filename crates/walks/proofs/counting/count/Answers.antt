-- `walks::counting::count`: one block more is counted. Assumes nothing.
use Rattle.std.proofs.Common.{rules, arith, sym, ap, ◌∙◌}
use Rattle.table.specs.State.{free_block}
use Rattle.table.specs.Words.{state_of}
use Rattle.table.proofs.Along.{count-step}
use Rattle.table.proofs.ByPlace.{from_next}
use Rattle.walks.proofs.counting.count.Goals as goal

pub loop-i-preserved : goal.loop-i-preserved
loop-i-preserved g c = (
  omega arith,
  search rules,
  search rules,
  λ test decided.
      let blocks = (state_of c.args.table.now).blocks in
      let i = c.loop-i.i in
      let says = decided _ _ c.wanted.ensures ∙ ap test (c.block_at.ensures ∙ from_next blocks i free_block) in
      rw c.from-found.ensures (sym (count-step test blocks i c.loop-i.found free_block c.wanted.result (omega arith) says) ∙ c.loop-i.invariant.3 test decided),
)
