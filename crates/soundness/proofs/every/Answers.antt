-- `soundness::every`: one number more is tested. Assumes nothing.
use Rattle.std.proofs.Common.{◌≡◌, subst, arith}
use Rattle.soundness.proofs.Numbers.{Found, found_more}
use Rattle.soundness.proofs.every.Goals as goal

pub loop-i-preserved : goal.loop-i-preserved
loop-i-preserved g c = (omega arith, λ passes agree. found_more passes _ _ _ (c.loop-i.invariant.1 passes agree) (agree _ _ (omega arith) c.test-ok.ensures))

pub returns : goal.returns
returns g c = λ passes agree. subst (Found passes c.loop-i.ok) (let e : c.loop-i.i ≡ c.args.n = omega arith in e) (c.loop-i.invariant.1 passes agree)
