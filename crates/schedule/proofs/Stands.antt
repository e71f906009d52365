-- The field at a place, from how many bytes are left and its kind, and what holds of it. Assumes nothing.
use Prim.Native.Nat.{ℕ, zero, suc, ◌+◌, ◌-◌, ◌≤◌, ◌<◌}
use mathlib.Core.Path.{◌≡◌, refl, sym, subst}
use mathlib.Core.List.{List}
use lib.Dec.{leb, eqb}
use lib.ListN.{length, get_or, get_or-eq_default}
use native.Mathlib.Omega.{arith}
use borrow.Author.Tests.{eq-eqb, ne_eqb, leb-true, leb-false, eqb-true, eqb-false}
use Rattle.schedule.specs.Fields.{Numbers, Field, Step, Fault, End, lengths, length_of, number, numbers_of, left, part, fault_kind, tagged, field_at}
use Rattle.schedule.proofs.Faults.{by_test, kind_says}

module _ (s : List ℕ) (at : ℕ) where
  pub no_bytes : length s ≤ at → End ≡ field_at s at
  unfolding field_at
  no_bytes h = simp (eq-eqb (left s at) 0 (omega arith))

  module _ {n kind : ℕ} (some : at < length s) (asked : n ≡ length_of (get_or s at 0)) (found : kind ≡ fault_kind s at n) where
    of_kind : {f : Field} → f ≡ tagged s at (get_or s at 0) n kind → f ≡ field_at s at
    unfolding field_at
    of_kind e = simp (ne_eqb (left s at) 0 (λ z. omega arith)) (rw (found, asked) at e)

    pub fault : (kind ≡ 0 → ⊥) → Fault kind (get_or s at 0) ≡ field_at s at
    fault d = of_kind (simp (ne_eqb kind 0 d))

    pub whole : {r : Numbers} → kind ≡ 0 → r ≡ numbers_of (part s (at + 3) (at + 3 + n - (at + 3))) → Step (get_or s at 0) r (at + 3 + n) ≡ field_at s at
    whole z e =
        let m : at + 3 + n - (at + 3) ≡ n = omega arith in
        of_kind (simp (e, m, eq-eqb kind 0 z))

-- a whole field has one of the ten tags, the length of that tag and the numbers of its body; the next place is after the body, and within the
-- schedule
pub record Whole (s : List ℕ) (at tag : ℕ) (numbers : Numbers) (next : ℕ) : Type 0 where
  pub its_tag : tag ≡ get_or s at 0
  pub low : 1 ≤ tag
  pub high : tag ≤ 10
  pub known : length_of tag ≡ 0 → ⊥
  pub said : number 2 s (at + 1) ≡ length_of tag
  pub its_numbers : numbers ≡ numbers_of (part s (at + 3) (length_of tag))
  pub after : next ≡ at + 3 + length_of tag
  pub within : next ≤ length s

-- a fault has a tag byte
pub record Faulty (s : List ℕ) (at kind tag : ℕ) : Type 0 where
  pub its_tag : tag ≡ get_or s at 0
  pub low : 21 ≤ kind
  pub high : kind ≤ 23
  pub within : at < length s

abbrev pub Stands : List ℕ → (at : ℕ) → Field → Type 0
Stands s at (Step tag numbers next) = Whole s at tag numbers next
Stands s at (Fault kind tag) = Faulty s at kind tag
Stands s at End = length s ≤ at

-- a tag that has a length is one of the ten
above : (tag : ℕ) → (length_of tag ≡ 0 → ⊥) → 1 ≤ tag
above zero known = absurd (known refl)
above (suc k) known = omega arith

below : (tag : ℕ) → (length_of tag ≡ 0 → ⊥) → tag ≤ 10
below tag known = by_test (λ (k : ℕ). tag ≤ 10) (leb tag 10) {x = 0} {y = 0} (leb-true tag 10) (λ e. absurd (known (get_or-eq_default lengths 0 (leb-false tag 10 e))))

module _ (s : List ℕ) (at : ℕ) where
  at_place : Stands s at (field_at s at)
  unfolding field_at
  at_place =
      let tag = get_or s at 0 in
      let n = length_of tag in
      let kind = fault_kind s at n in
      let says = kind_says s at n in
      by_test (Stands s at) (eqb (left s at) 0) (λ none. omega (arith, eqb-true)) (λ some.
      by_test (Stands s at) (eqb kind 0) (λ passed.
      let z = eqb-true kind 0 passed in
      record { its_tag = refl; low = above tag (says.known z); high = below tag (says.known z); known = says.known z; said = says.said z; its_numbers = refl; after = refl; within = says.inside z }) (λ fails.
      record { its_tag = refl; low = says.low (eqb-false kind 0 fails); high = says.high; within = omega (arith, eqb-false) }))

  -- what holds of whatever stands at a place
  pub stands : {f : Field} → f ≡ field_at s at → Stands s at f
  stands e = subst (Stands s at) (sym e) at_place
