-- `soundness::slot_sound`: a number above the last block names no shown one. Assumes nothing.
use Rattle.std.proofs.Common.{◌≡◌, false, arith}
use Rattle.table.specs.State.{is_shown, block_of}
use Rattle.table.specs.Words.{state_of}
use Rattle.table.proofs.Sound.{numbered}
use borrow.Author.Tests.{ne_eqb}
use Rattle.soundness.proofs.slot_sound.Goals as goal

pub returns-then-b-blocks : goal.returns-then-b-blocks
returns-then-b-blocks c =
    let b = c.slot_at-b.result.0 in
    let s = state_of c.args.table.now in
    let e : is_shown (block_of s b) ≡ false =
    ne_eqb _ 2 (λ (z : (block_of s b).state ≡ 2). omega (arith, (numbered s b (λ (n : (block_of s b).state ≡ 0). omega arith)).1)) in
    rw (← c.slot_at-b.ensures, ne_eqb b 0 (omega arith), e)
