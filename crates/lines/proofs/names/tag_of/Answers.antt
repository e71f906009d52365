-- `lines::names::tag_of`: the search goes on past a name that is not the word, and ends at one that is. Assumes nothing.
use Rattle.std.proofs.Common.{refl, sym, ◌∙◌}
use Rattle.lines.specs.Names.{tag_of}
use Rattle.lines.proofs.Table.{goes_past, found_there}
use Rattle.lines.proofs.names.tag_of.Goals as goal

pub loop-tag-init : goal.loop-tag-init
unfolding tag_of
loop-tag-init c = refl

pub returns-then-eq : goal.returns-then-eq
returns-then-eq c = found_there _ _ _ c.loop-tag-test.true (c.as_bytes.ensures.value ∙ c.name_of.ensures) c.eq.ensures c.if-eq.true ∙ sym c.loop-tag.invariant

pub loop-tag-preserved : goal.loop-tag-preserved
loop-tag-preserved c = c.loop-tag.invariant ∙ goes_past _ _ _ c.loop-tag-test.true (c.as_bytes.ensures.value ∙ c.name_of.ensures) c.eq.ensures c.if-eq.false
