-- No second answer meets what `read_line` promises. Assumes nothing.
use Prim.Native.Nat.{ℕ}
use mathlib.Core.Path.{◌≡◌, refl, sym, ap, ◌∙◌}
use mathlib.Core.Bool.{cond}
use mathlib.Core.List.{List}
use lib.Dec.{eqb}
use lib.ListN.{length}
use Rattle.std.specs.Prelude.{Option, Some, None, Result, Ok, Err}
use Rattle.schedule.specs.declared.Step.{Step as ReadStep}
use Rattle.schedule.specs.declared.tags.Tag.{Tag}
use Rattle.schedule.specs.Tags.{tag_number}
use Rattle.schedule.specs.Writing.{five_of}
use Rattle.schedule.proofs.Unique.{one_tag, one_five}
use Rattle.lines.specs.declared.Wrong.{Wrong as Complaint}
use Rattle.lines.specs.declared.Wrong.TheVariants.{UnknownStep, NotANumber, TooLarge, TooFewNumbers, TooManyNumbers}
use Rattle.lines.specs.Said.{wrong_number, said}

-- what a number says is wrong
complaint_of : ℕ → Complaint
complaint_of n = cond (eqb n 1) UnknownStep (cond (eqb n 2) NotANumber (cond (eqb n 3) TooLarge (cond (eqb n 4) TooFewNumbers TooManyNumbers)))

complaint_back : (wrong : Complaint) → complaint_of (wrong_number wrong) ≡ wrong
unfolding complaint_of
complaint_back UnknownStep = refl
complaint_back NotANumber = refl
complaint_back TooLarge = refl
complaint_back TooFewNumbers = refl
complaint_back TooManyNumbers = refl

-- a step has five numbers
abbrev Five : Result (Option ReadStep) Complaint → Type 0
Five (Ok (Some step)) = length step.numbers ≡ 5
Five (Ok None) = Unit {0}
Five (Err wrong) = Unit {0}

abbrev made : Tag → List ℕ → ReadStep
made tag numbers = record { tag = tag; numbers = numbers }

same_step : {t u : Tag} {ns ms : List ℕ} → t ≡ u → ns ≡ ms → made t ns ≡ made u ms
same_step a b = rw (a, b)

pub one_line : (a b : Result (Option ReadStep) Complaint) → Five a → Five b → said a ≡ said b → a ≡ b
one_line (Ok None) (Ok None) h k e = refl
one_line (Ok None) (Ok (Some y)) h k e = cc
one_line (Ok None) (Err y) h k e = cc
one_line (Ok (Some x)) (Ok None) h k e = cc
one_line (Ok (Some x)) (Err y) h k e = cc
one_line (Err x) (Ok None) h k e = cc
one_line (Err x) (Ok (Some y)) h k e = cc
one_line (Ok (Some x)) (Ok (Some y)) h k e =
    let t : tag_number x.tag ≡ tag_number y.tag = cc in
    let n : five_of x.numbers ≡ five_of y.numbers = cc in
    ap (λ (s : ReadStep). Ok (Some s)) (same_step (one_tag _ _ t) (one_five _ _ h k n))
one_line (Err x) (Err y) h k e =
    let w : wrong_number x ≡ wrong_number y = cc in
    ap Err (sym (complaint_back x) ∙ ap complaint_of w ∙ complaint_back y)
