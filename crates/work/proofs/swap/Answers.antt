-- `work::swap`: refused on entering, no such slot or block, not to be shown, another block in the slot, or done. Assumes nothing.
use Rattle.std.proofs.Common.{◌≡◌, ◌||◌, ℕ, Bool, nat_lt, rules, arith, sym, ap, ◌∙◌}
use Rattle.table.specs.State.{is_working}
use Rattle.rules.specs.OnTable.{result_of}
use Rattle.work.proofs.Entries.{out}
use Rattle.work.proofs.Cases.{swap_enters, swap-no_slot, swap_no_block, swap-wrong_block, swap-kept, swap_done_lem}
use Rattle.work.proofs.swap.Goals as goal

-- the test of the blocks' numbers, by the number of blocks that the code read
said : (a b : ℕ) {n m : ℕ} {x : Bool} → m ≡ n → nat_lt m a || nat_lt m b ≡ x → nat_lt n a || nat_lt n b ≡ x
said a b e h = ap (λ (k : ℕ). nat_lt k a || nat_lt k b) (sym e) ∙ h

pub returns-in_err-enter : goal.returns-in_err-enter
returns-in_err-enter c = out _ _ is_working (search rules) (c.in_err-enter.ensures.entered is_working (λ r b q. search rules)) _ (swap_enters _ _ _ _ _)

pub returns-then-slot-slots : goal.returns-then-slot-slots
returns-then-slot-slots c = swap-no_slot _ _ _ (c.in_ok-enter.ensures.entered is_working (λ r b q. search rules)) _ _ _ c.requires (omega arith)

pub returns-then-old-n : goal.returns-then-old-n
returns-then-old-n c =
    let inside = c.in_ok-enter.ensures.entered is_working (λ r b q. search rules) in
    swap_no_block _ _ _ inside _ _ _ (omega arith) c.requires (said _ _ c.blocks-n.ensures c.if-old-n.true)

pub returns-then-not-may_show : goal.returns-then-not-may_show
returns-then-not-may_show c =
    let inside = c.in_ok-enter.ensures.entered is_working (λ r b q. search rules) in
    swap-wrong_block _ _ _ inside _ _ _ (omega arith) (said _ _ c.blocks-n.ensures c.if-old-n.false) c.requires (sym c.may_show.ensures ∙ c.if-not-may_show.true)

pub returns-then-ne : goal.returns-then-ne
returns-then-ne c =
    let inside = c.in_ok-enter.ensures.entered is_working (λ r b q. search rules) in
    swap-kept _ _ _ inside _ _ _ (omega arith) (said _ _ c.blocks-n.ensures c.if-old-n.false) (sym c.may_show.ensures ∙ c.if-not-may_show.false) c.requires (search rules)

pub returns : goal.returns
returns c =
    let inside = c.in_ok-enter.ensures.entered is_working (λ r b q. search rules) in
    ap (result_of 0 1) c.put_shown.ensures
    ∙ swap_done_lem _ _ _ inside _ _ _ (omega arith) (said _ _ c.blocks-n.ensures c.if-old-n.false) (sym c.may_show.ensures ∙ c.if-not-may_show.false) (search rules)
