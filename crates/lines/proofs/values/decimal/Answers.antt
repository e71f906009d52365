-- `lines::values::decimal`: the fold over the digits, each step up to the limit. Assumes nothing.
use Rattle.std.proofs.Common.{◌≡◌, ◌∙◌, refl, rules}
use Rattle.std.specs.Prelude.{fold}
use Rattle.lines.specs.Values.{decimal}
use Rattle.lines.proofs.Digits.{capped, up_to}
use Rattle.lines.proofs.values.decimal.Goals as goal

pub returns : goal.returns
unfolding decimal
returns c =
    let e : c.fold.result ≡ fold capped 0 c.args.word.now = search rules in
    e ∙ up_to c.args.word.now 0 0 refl
