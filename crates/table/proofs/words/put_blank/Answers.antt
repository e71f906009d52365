-- `table::words::put_blank`: zeros, and the sizes and rates stored among them, are a blank table. Assumes nothing.
use Rattle.std.proofs.Common.{ℕ, rules, ap, ◌∙◌, replicate}
use Rattle.table.proofs.Blanks.{blank-words}
use Rattle.table.proofs.words.put_blank.Goals as goal

pub returns : goal.returns
returns c = blank-words _ _ _ _ _ _ (c.fill.ensures.after (search rules) ∙ ap (λ (n : ℕ). replicate n 0) c.requires)
