-- Each tag has a length, and a byte that no tag is written as has none. Assumes nothing.
use Prim.Native.Nat.{ℕ, zero, suc}
use mathlib.Core.Path.{◌≡◌, refl, ap, ◌∙◌}
use native.Mathlib.Omega.{arith}
use lib.Dec.{ltb}
use mathlib.Core.List.{List, ◌∷◌}
use lib.ListN.{length, get_or, drop, get_or-eq_default}
use borrow.Author.Tests.{ltb-true, ltb-false}
use Rattle.std.specs.Prelude.{Option, Some, None, MatchOption}
use Rattle.std.specs.List.{slice_get}
use Rattle.std.proofs.lemmas.Option.{MatchOption-at_some, MatchOption-at_none, slice_get-get_or}
use Rattle.schedule.specs.declared.tags.Tag.{Tag}
use Rattle.schedule.specs.declared.tags.Tag.TheVariants.{Open, Start, Look, Settle, Make, Swap, Retire, Sweep, End, Tally}
use Rattle.schedule.specs.declared.tags.TheConstants.Tag.{ALL}
use Rattle.schedule.specs.Fields.{lengths, length_of}
use Rattle.schedule.specs.Tags.{tag_number, Unknown}
use Rattle.schedule.proofs.Faults.{by_test}

pub known : (tag : Tag) → length_of (tag_number tag) ≡ 0 → ⊥
known Open e = omega arith
known Start e = omega arith
known Look e = omega arith
known Settle e = omega arith
known Make e = omega arith
known Swap e = omega arith
known Retire e = omega arith
known Sweep e = omega arith
known End e = omega arith
known Tally e = omega arith

-- what is found of a byte: the tag that is written as it, or that none is
abbrev pub Found : ℕ → Option Tag → Type 0
Found byte found = MatchOption found (Unknown byte) (λ tag. tag_number tag ≡ byte)

pub none_at_0 : Unknown 0
none_at_0 tag e = known tag (ap length_of e)

-- the table has each tag at its byte less one
pub table : (k : ℕ) → Found (suc k) (slice_get ALL k)
table zero = refl
table (suc zero) = refl
table (suc (suc zero)) = refl
table (suc (suc (suc zero))) = refl
table (suc (suc (suc (suc zero)))) = refl
table (suc (suc (suc (suc (suc zero))))) = refl
table (suc (suc (suc (suc (suc (suc zero)))))) = refl
table (suc (suc (suc (suc (suc (suc (suc zero))))))) = refl
table (suc (suc (suc (suc (suc (suc (suc (suc zero)))))))) = refl
table (suc (suc (suc (suc (suc (suc (suc (suc (suc zero))))))))) = refl
table (suc (suc (suc (suc (suc (suc (suc (suc (suc (suc k)))))))))) = λ tag e. known tag (ap length_of e)

pub found_of : {a b : ℕ} {o p : Option Tag} → a ≡ b → o ≡ p → Found a p → Found b o
found_of e f h = rw (f, ← e) h

-- a table that has one entry for each tag behind one for none says of such a byte what it says of none
pub at_none : {A : Type 0} (d : A) (entries : List A) → length entries ≡ 10 → (byte : ℕ) → Unknown byte → get_or (d ∷ entries) byte d ≡ d
at_none d entries ten zero none = refl
at_none d entries ten (suc k) none =
    by_test (λ (_ : ℕ). get_or (d ∷ entries) (suc k) d ≡ d) (ltb k 10) {x = 0} {y = 0}
    (λ below. absurd (none _ (MatchOption-at_some _ _ _ (slice_get-get_or ALL k Open (ltb-true k 10 below)) (table k))))
    (λ above. get_or-eq_default (d ∷ entries) d {n = suc k} (omega (arith, ten, ltb-false k 10 above)))

pub unknown : (byte : ℕ) → Unknown byte → length_of byte ≡ 0
unknown = at_none 0 (drop 1 lengths) refl

-- what a tag says of the byte that it was read from
pub record ReadFrom (tag : Tag) (byte : ℕ) : Type 0 where
  pub is : tag_number tag ≡ byte
  pub same : length_of (tag_number tag) ≡ length_of byte
  pub known : length_of byte ≡ 0 → ⊥

pub read : (tag : Tag) {byte : ℕ} → tag_number tag ≡ byte → ReadFrom tag byte
read tag e = record { is = e; same = ap length_of e; known = λ z. known tag (ap length_of e ∙ z) }

-- the same of a tag that was looked for, and of a byte of no tag
pub in_some : (byte : ℕ) {o : Option Tag} {tag : Tag} → o ≡ Some tag → Found byte o → ReadFrom tag byte
in_some byte {tag = tag} e h = read tag (MatchOption-at_some _ _ _ e h)

pub in_none : (byte : ℕ) {o : Option Tag} → o ≡ None → Found byte o → length_of byte ≡ 0
in_none byte e h = unknown byte (MatchOption-at_none _ _ e h)
