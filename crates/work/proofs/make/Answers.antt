-- `work::make`: refused on entering, none free, all made or the last epoch passed, or done. Assumes nothing.
use Rattle.std.proofs.Common.{rules, tests, arith}
use Rattle.table.specs.State.{is_working}
use Rattle.table.proofs.Sound.{exact, facts}
use Rattle.work.proofs.Entries.{out}
use Rattle.work.proofs.Cases.{make_enters, make_none_free, make_full, make_last, make_done_lem}
use Rattle.work.proofs.make.Goals as goal

pub returns-in_err-r : goal.returns-in_err-r
returns-in_err-r c = out _ _ is_working (search rules) (c.in_err-r.ensures.entered is_working (λ r b q. search rules)) _ (make_enters _ _)

pub returns-in_default : goal.returns-in_default
returns-in_default c = make_none_free _ _ _ (c.in_ok-r.ensures.entered is_working (λ r b q. search rules)) c.requires c.in_default.ensures

pub returns-then-r : goal.returns-then-r
returns-then-r c = make_full _ _ _ (c.in_ok-r.ensures.entered is_working (λ r b q. search rules)) (λ z. omega (arith, z)) c.requires c.if-r.true

pub epoch_after-birth-requires : goal.epoch_after-birth-requires
epoch_after-birth-requires c =
    let f = facts _ c.requires in
    (exact _ c.requires, f.limits.per_epoch.0, omega (arith, f.last), omega arith)

pub returns-then-gt : goal.returns-then-gt
returns-then-gt c =
    let inside = c.in_ok-r.ensures.entered is_working (λ r b q. search rules) in
    make_last _ _ _ inside (λ z. omega (arith, z)) c.if-r.false _ c.epoch_after-birth.ensures c.requires (search (rules, tests))

pub returns : goal.returns
returns c =
    let inside = c.in_ok-r.ensures.entered is_working (λ r b q. search rules) in
    make_done_lem _ _ _ inside (λ z. omega (arith, z)) c.if-r.false _ c.epoch_after-birth.ensures (search (rules, tests)) _ _ c.in-Some.ensures.0 c.put_made.ensures
