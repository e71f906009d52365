-- The kind of a write: each from the checks before it, and what kind 0 says. Assumes nothing.
use Prim.Native.Nat.{ℕ, zero, suc, ◌*◌, ◌/◌, ◌≤◌, ◌<◌}
use mathlib.Core.Path.{◌≡◌}
use mathlib.Core.Bool.{not}
use mathlib.Core.List.{List, [], ◌∷◌}
use lib.Dec.{ltb, eqb}
use lib.ListN.{get_or}
use native.Mathlib.Omega.{arith}
use borrow.Author.Rules.{rules}
use borrow.Author.Tests.{lt-ltb, le-ltb, eq-eqb, ne_eqb, ltb-false, eqb-false, eqb-true, not-false}
use Rattle.schedule.specs.Fields.{lengths, length_of}
use Rattle.schedule.specs.Writing.{count_of, size_of, write_kind}
use Rattle.schedule.proofs.Faults.{by_test}

-- what holds of every entry of a list, and of 0 past its end, holds at every place
module _ (P : ℕ → Type 0) where
  abbrev Each : List ℕ → Type 0
  Each [] = P 0
  Each (n ∷ ns) = P n × Each ns

  at_place : (ns : List ℕ) → Each ns → (k : ℕ) → P (get_or ns k 0)
  at_place [] e k = e
  at_place (n ∷ ns) e zero = e.0
  at_place (n ∷ ns) e (suc k) = at_place ns e.1 k

-- a length of the table is that of whole numbers, at most five
pub record Fours (n : ℕ) : Type 0 where
  pub whole : 4 * (n / 4) ≡ n
  pub most : n ≤ 20

pub fours : (tag : ℕ) → Fours (length_of tag)
fours = at_place Fours lengths (search rules)

-- kind 0: the tag is known, the numbers are as many as it has, and there is room
pub record Allowed (tag count room : ℕ) : Type 0 where
  pub known : length_of tag ≡ 0 → ⊥
  pub counted : count ≡ count_of tag
  pub fits : size_of tag ≤ room

module _ (tag count room : ℕ) where
  pub unknown : length_of tag ≡ 0 → 22 ≡ write_kind tag count room
  unfolding write_kind
  unknown e = simp (eq-eqb (length_of tag) 0 e)

  module _ (known : length_of tag ≡ 0 → ⊥) where
    pub other : (count ≡ count_of tag → ⊥) → 23 ≡ write_kind tag count room
    unfolding write_kind
    other d = simp (ne_eqb (length_of tag) 0 known, ne_eqb count (count_of tag) d)

    module _ (counted : count ≡ count_of tag) where
      pub no_room : room < size_of tag → 25 ≡ write_kind tag count room
      unfolding write_kind
      no_room h = simp (ne_eqb (length_of tag) 0 known, eq-eqb count (count_of tag) counted, lt-ltb room (size_of tag) h)

      pub none : size_of tag ≤ room → 0 ≡ write_kind tag count room
      unfolding write_kind
      none h = simp (ne_eqb (length_of tag) 0 known, eq-eqb count (count_of tag) counted, le-ltb room (size_of tag) h)

  pub allowed : write_kind tag count room ≡ 0 → Allowed tag count room
  unfolding write_kind
  allowed =
      by_test Q (eqb (length_of tag) 0) (λ _ z. absurd (omega arith)) (λ known.
      by_test Q (not (eqb count (count_of tag))) (λ _ z. absurd (omega arith)) (λ counted.
      by_test Q (ltb room (size_of tag)) (λ _ z. absurd (omega arith)) (λ fits _.
      record { known = eqb-false _ _ known; counted = eqb-true _ _ (not-false _ counted); fits = ltb-false _ _ fits })))
    where
      Q : ℕ → Type 0
      Q kind = kind ≡ 0 → Allowed tag count room
