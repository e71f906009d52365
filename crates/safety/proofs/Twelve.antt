-- The proved twelve of 01: one table of cases, and one statement over it. Assumes nothing.
use Prim.Native.Nat.{ℕ}
use mathlib.Core.Path.{◌≡◌, refl}
use mathlib.Core.Bool.{Bool, true, cond}
use mathlib.Core.List.{List, [], ◌∷◌}
use lib.Dec.{eqb}
use Rattle.numbers.specs.Epochs.{idle_mark, last_epoch, meets}
use Rattle.table.specs.Lists.{all}
use Rattle.rules.specs.Steps.{divisible, raises}
use Rattle.rules.specs.Terms.{limit}

-- what is asked: does an interval meet a block, does a make raise the epoch, what is the limit, does a sweep follow the retirement
pub data Question : Type 0 where
  interval : (L U birth retire : ℕ) → Question
  make : (F makes : ℕ) → Question
  most : (K L U F T : ℕ) → Question
  sweep : (E retired : ℕ) → Question

-- it does, or does not, as a number
abbrev does : ℕ
does = 1

abbrev does_not : ℕ
does_not = 0

abbrev as_number : Bool → ℕ
as_number b = cond b does does_not

-- what the rules answer
abbrev answer : Question → ℕ
answer (interval L U birth retire) = as_number (meets L U birth retire)
answer (make F makes) = as_number (raises F makes)
answer (most K L U F T) = limit K L U F T
answer (sweep E retired) = as_number (divisible retired E)

pub record Case : Type 0 where
  pub question : Question
  pub expected : ℕ

abbrev case : Question → ℕ → Case
case q n = record { question = q; expected = n }

-- the cases in 01's order; the twelfth asks twice
abbrev twelve : List Case
twelve =
    case (interval 0 0 1 1) does_not
    ∷ case (interval 0 1 1 1) does
    ∷ case (interval 2 2 0 1) does_not
    ∷ case (interval 2 2 0 2) does
    ∷ case (interval idle_mark idle_mark 0 last_epoch) does_not
    ∷ case (interval 0 last_epoch 5 5) does
    ∷ case (make 2 1) does
    ∷ case (make 1 0) does
    ∷ case (make 65536 65534) does_not
    ∷ case (most 0 0 0 2 2) 2
    ∷ case (most 3 4 6 10 2) 41
    ∷ case (sweep 4 4) does
    ∷ case (sweep 4 5) does_not
    ∷ []

-- the rules answer each as the paper does
pub all_twelve : all (λ c. eqb (answer c.question) c.expected) twelve ≡ true
all_twelve = refl
