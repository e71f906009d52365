-- `work::retire`: refused on entering, no such block, not in hand, still named, or done. Assumes nothing.
use Rattle.std.proofs.Common.{◌≡◌, ◌≤◌, ◌||◌, ℕ, Bool, false, nat_lt, rules, arith, sym, ap, ap₂, ◌∙◌, ◌==◌}
use borrow.Author.Tests.{eqb-false, ltb-false}
use Rattle.table.proofs.Tests.{neither}
use Rattle.table.proofs.Sound.{exact, facts}
use Rattle.table.specs.State.{is_working}
use Rattle.rules.specs.Steps.{in_hand}
use Rattle.work.proofs.Entries.{out}
use Rattle.work.proofs.Cases.{retire_enters, retire_no_block, retire-wrong_block, retire-named, retire_done_lem}
use Rattle.work.proofs.retire.Goals as goal

-- the test of the block's number, by the number of blocks that the code read
said : (b : ℕ) {n m : ℕ} {none x : Bool} → none ≡ (b == 0) → m ≡ n → none || nat_lt m b ≡ x → b == 0 || nat_lt n b ≡ x
said b q e h = ap₂ (λ (none : Bool) (k : ℕ). none || nat_lt k b) (sym q) (sym e) ∙ h

there : (n b : ℕ) → b == 0 || nat_lt n b ≡ false → (1 ≤ b) × (b ≤ n)
there n b h = let t = neither (b == 0) _ h in (omega (arith, eqb-false b 0 t.0), ltb-false _ _ t.1)

pub returns-in_err-enter : goal.returns-in_err-enter
returns-in_err-enter c = out _ _ is_working (search rules) (c.in_err-enter.ensures.entered is_working (λ r b q. search rules)) _ (retire_enters _ _ _)

pub returns-then-eq-block : goal.returns-then-eq-block
returns-then-eq-block c = retire_no_block _ _ _ (c.in_ok-enter.ensures.entered is_working (λ r b q. search rules)) _ c.requires (said _ c.eq.ensures c.blocks-2.ensures c.if-eq-block.true)

pub returns-then-not-in_hand : goal.returns-then-not-in_hand
returns-then-not-in_hand c =
    let hand = sym (c.in_hand.ensures ∙ ap (in_hand c.args.task.0) c.block_at.ensures) in
    retire-wrong_block _ _ _ (c.in_ok-enter.ensures.entered is_working (λ r b q. search rules)) _ (said _ c.eq.ensures c.blocks-2.ensures c.if-eq-block.false) c.requires (hand ∙ c.if-not-in_hand.true)

pub returns-then-named : goal.returns-then-named
returns-then-named c =
    let hand = sym (c.in_hand.ensures ∙ ap (in_hand c.args.task.0) c.block_at.ensures) in
    retire-named _ _ _ (c.in_ok-enter.ensures.entered is_working (λ r b q. search rules)) _ (said _ c.eq.ensures c.blocks-2.ensures c.if-eq-block.false) (hand ∙ c.if-not-in_hand.false) c.requires (sym c.named.ensures ∙ c.if-named.true)

pub put_retired-requires : goal.put_retired-requires
put_retired-requires c =
    let t = there _ _ (said _ c.eq.ensures c.blocks-2.ensures c.if-eq-block.false) in
    (exact _ c.requires, t.0, t.1, (facts _ c.requires).limits.per_sweep.0)

pub returns : goal.returns
returns c =
    let hand = sym (c.in_hand.ensures ∙ ap (in_hand c.args.task.0) c.block_at.ensures) in
    c.put_retired.ensures
    ∙ retire_done_lem _ _ _ (c.in_ok-enter.ensures.entered is_working (λ r b q. search rules)) _ (said _ c.eq.ensures c.blocks-2.ensures c.if-eq-block.false) (hand ∙ c.if-not-in_hand.false) (sym c.named.ensures ∙ c.if-named.false)
