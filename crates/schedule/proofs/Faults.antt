-- The kind of the first check that fails, from facts on numbers, and what a kind says. Assumes nothing.
use Prim.Native.Nat.{ℕ, ◌+◌, ◌≤◌, ◌<◌}
use mathlib.Core.Path.{◌≡◌, refl}
use mathlib.Core.Bool.{Bool, true, false, cond, not}
use mathlib.Core.List.{List}
use lib.Dec.{ltb, eqb}
use lib.ListN.{length}
use native.Mathlib.Omega.{arith}
use borrow.Author.Tests.{lt-ltb, le-ltb, eq-eqb, ne_eqb, ltb-false, eqb-true, eqb-false, not-false}
use Rattle.schedule.specs.Fields.{number, left, fault_kind}

-- a case by what a test says, with the equation kept
pub by_test : {A : Type 0} (Q : A → Type 0) (b : Bool) {x y : A} → (b ≡ true → Q x) → (b ≡ false → Q y) → Q (cond b x y)
by_test Q true passes fails = passes refl
by_test Q false passes fails = fails refl

-- kind 0: the tag is known, its length is said and the body is within the schedule; any other is from 21 to 23
pub record Kind (s : List ℕ) (at n kind : ℕ) : Type 0 where
  pub known : kind ≡ 0 → n ≡ 0 → ⊥
  pub said : kind ≡ 0 → number 2 s (at + 1) ≡ n
  pub inside : kind ≡ 0 → at + 3 + n ≤ length s
  pub low : (kind ≡ 0 → ⊥) → 21 ≤ kind
  pub high : kind ≤ 23

module _ (s : List ℕ) (at n : ℕ) where
  fault : (kind : ℕ) → 21 ≤ kind → kind ≤ 23 → Kind s at n kind
  fault kind l h = record { known = λ e z. omega arith; said = λ e. omega arith; inside = λ e. omega arith; low = λ _. l; high = h }

  pub kind_says : Kind s at n (fault_kind s at n)
  unfolding fault_kind
  kind_says =
      by_test (Kind s at n) (ltb (left s at) 3) (λ _. fault 21 (omega arith) (omega arith)) (λ three.
      by_test (Kind s at n) (eqb n 0) (λ _. fault 22 (omega arith) (omega arith)) (λ known.
      by_test (Kind s at n) (not (eqb (number 2 s (at + 1)) n)) (λ _. fault 23 (omega arith) (omega arith)) (λ said.
      by_test (Kind s at n) (ltb (left s (at + 3)) n) (λ _. fault 21 (omega arith) (omega arith)) (λ inside.
      record { known = λ _. eqb-false n 0 known; said = λ _. eqb-true _ _ (not-false _ said); inside = λ _. omega (arith, ltb-false); low = λ z. absurd (z refl); high = omega arith }))))

  pub cut : left s at < 3 → 21 ≡ fault_kind s at n
  unfolding fault_kind
  cut h = simp (lt-ltb (left s at) 3 h)

  module _ (three : 3 ≤ left s at) where
    pub unknown : n ≡ 0 → 22 ≡ fault_kind s at n
    unfolding fault_kind
    unknown e = simp (le-ltb (left s at) 3 three, eq-eqb n 0 e)

    module _ (known : n ≡ 0 → ⊥) where
      pub other : (number 2 s (at + 1) ≡ n → ⊥) → 23 ≡ fault_kind s at n
      unfolding fault_kind
      other d = simp (le-ltb (left s at) 3 three, ne_eqb n 0 known, ne_eqb (number 2 s (at + 1)) n d)

      module _ (said : number 2 s (at + 1) ≡ n) where
        pub past : left s (at + 3) < n → 21 ≡ fault_kind s at n
        unfolding fault_kind
        past h = simp (le-ltb (left s at) 3 three, ne_eqb n 0 known, eq-eqb (number 2 s (at + 1)) n said, lt-ltb (left s (at + 3)) n h)

        pub none : n ≤ left s (at + 3) → 0 ≡ fault_kind s at n
        unfolding fault_kind
        none h = simp (le-ltb (left s at) 3 three, ne_eqb n 0 known, eq-eqb (number 2 s (at + 1)) n said, le-ltb (left s (at + 3)) n h)
