-- What a step's checks say once they are passed. Assumes nothing.
use Prim.Native.Nat.{ℕ}
use native.Mathlib.Omega.{arith}
use mathlib.Core.Path.{◌≡◌, refl}
use mathlib.Core.Logic.{◌≢◌}
use mathlib.Core.Bool.{Bool, true, false, cond, not}
use mathlib.Core.List.{List, [], ◌∷◌}
use lib.Dec.{leb, eqb}
use borrow.Author.Tests.{leb-true, eqb-true, not-false}
use Rattle.table.specs.Lists.{all}
use Rattle.table.specs.State.{TaskRow, State, is_working}
use Rattle.table.proofs.Tests.{two, either}
use Rattle.rules.specs.Outcome.{Outcome, Check, answers, checked}

-- none of the checks fails
abbrev pub passed : List Check → Type 0
passed [] = Unit {0}
passed (c ∷ cs) = (c.fails ≡ false) × passed cs

-- a step is refused, and nothing changed, or all its checks are passed and it is done
pub checked_cases : (Q : Outcome → Type 0) (s : State) (cs : List Check) (done : Outcome) → ((n : ℕ) → Q (answers n 0 s)) → (passed cs → Q done) → Q (checked s cs done)
checked_cases Q s [] done refused accepted = accepted tt
checked_cases Q s (c ∷ cs) done refused accepted = go c.fails refl (λ h. checked_cases Q s cs done refused (λ t. accepted (h, t)))
  where
    go : (b : Bool) → c.fails ≡ b → (c.fails ≡ false → Q (checked s cs done)) → Q (cond b (answers c.number 0 s) (checked s cs done))
    go true p rest = refused c.number
    go false p rest = rest p

-- an answer of kind 0 has passed every check: no check's number is 0
pub accepted : (s : State) (cs : List Check) (done : Outcome) → all (λ c. leb 1 c.number) cs ≡ true → (checked s cs done).kind ≡ 0
    → (checked s cs done ≡ done) × passed cs
accepted s [] done n e = (refl, tt)
accepted s (c ∷ cs) done n e = let m = two (leb 1 c.number) _ n in go c.fails refl m.0 (accepted s cs done m.1) e
  where
    go : (b : Bool) → c.fails ≡ b → leb 1 c.number ≡ true → ((checked s cs done).kind ≡ 0 → (checked s cs done ≡ done) × passed cs)
        → (cond b (answers c.number 0 s) (checked s cs done)).kind ≡ 0
        → (cond b (answers c.number 0 s) (checked s cs done) ≡ done) × ((c.fails ≡ false) × passed cs)
    go true p l rest e = absurd (omega (arith, leb-true 1 c.number l))
    go false p l rest e = let r = rest e in (r.0, (p, r.1))

-- a task at work is not idle
pub works : (r : TaskRow) → not (is_working r) ≡ false → r.phase ≢ 0
works r e = either (eqb r.phase 1) (eqb r.phase 2) (not-false _ e) (λ p z. omega (arith, eqb-true r.phase 1 p)) (λ p z. omega (arith, eqb-true r.phase 2 p))
