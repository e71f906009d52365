-- `lines::names::tag_of`: the names from the tag on decide. Assumes nothing.
use Rattle.std.proofs.Common.{◌≡◌, ◌+◌, [], ◌∷◌, drop}
use Rattle.lines.specs.Names.{names, tag_from, tag_of}
use Rattle.lines.proofs.names.tag_of.Given as goal

abbrev pub invariant-loop-tag : goal.invariant-loop-tag
invariant-loop-tag l = tag_of l.word ≡ tag_from (l.tag-index + 1) (drop (l.tag-index + 1) ([] ∷ names)) l.word
