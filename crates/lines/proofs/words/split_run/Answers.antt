-- `lines::words::split_run`: the run goes as far as the test passes. Assumes nothing.
use Rattle.std.proofs.Common.{◌≡◌, ◌∙◌, ap, rules, tests, take, drop, not, length}
use Rattle.std.specs.Option.{unwrap_or}
use Rattle.std.proofs.lemmas.Iterator.{YieldsList-from_slice}
use Rattle.std.proofs.lemmas.Iterator.Search.{position_from_yields_List}
use Rattle.lines.specs.Words.{front}
use Rattle.lines.proofs.Runs.{run_end}
use Rattle.lines.proofs.words.split_run.Goals as goal

pub returns : goal.returns
returns g c = λ p h.
    let s = c.args.text.now in
    let found = position_from_yields_List (λ b. not (p b)) _ _ c.position.result c.position.ensures.ran (YieldsList-from_slice s cc) (λ x b q k. search (rules, tests, h)) in
    let end : c.unwrap_or-end.result ≡ front p s = c.unwrap_or-end.ensures ∙ ap (λ o. unwrap_or o (length s)) found ∙ run_end p s in
    (c.split_at.ensures.front ∙ ap (λ n. take n s) end, c.split_at.ensures.back ∙ ap (λ n. drop n s) end)
