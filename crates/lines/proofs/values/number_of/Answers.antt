-- `lines::values::number_of`: not all digits, too large, or the number. Assumes nothing.
use Rattle.std.proofs.Common.{◌∙◌, refl, sym, rules, tests}
use Rattle.std.proofs.lemmas.Iterator.{YieldsList-from_slice}
use Rattle.std.proofs.lemmas.Iterator.Search.{all_from_yields_List}
use Rattle.lines.specs.Words.{is_digit}
use Rattle.lines.proofs.Cases.{not_digits, fits}
use Rattle.lines.proofs.Digits.{all_whole, not_whole}
use Rattle.lines.proofs.values.number_of.Goals as goal

pub returns-then-not-all : goal.returns-then-not-all
returns-then-not-all c =
    let e = all_from_yields_List is_digit _ _ c.all.result c.all.ensures.ran (YieldsList-from_slice c.args.word.now cc) (λ x b q k. search (rules, tests)) in
    not_digits _ refl (not_whole is_digit c.args.word.now (sym e ∙ c.if-not-all.true))

pub returns : goal.returns
returns c =
    let e = all_from_yields_List is_digit _ _ c.all.result c.all.ensures.ran (YieldsList-from_slice c.args.word.now cc) (λ x b q k. search (rules, tests)) in
    let w = all_whole is_digit c.args.word.now (sym e ∙ c.if-not-all.false) in
    fits c.args.word.now refl w c.decimal.ensures c.try_from.result c.map_err.result c.try_from.ensures (search rules)
