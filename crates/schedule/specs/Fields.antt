-- The fields of a schedule (01, "Schedule files"): tags and lengths, the numbers of a body, and what stands at a place. Assumes nothing.
use Rattle.std.specs.Prelude.{ℕ, zero, suc, ◌+◌, ◌*◌, ◌-◌, cond, not, List, [], ◌∷◌, nat_lt, ◌==◌, length, get_or, take, drop}

-- the numbers of a body in their order; 0 for those that it has not
pub record Numbers : Type 0 where
  pub first : ℕ
  pub second : ℕ
  pub third : ℕ
  pub fourth : ℕ
  pub fifth : ℕ

-- what stands at a place: a whole field and the place after it, a fault with its kind and the tag byte, or the end
pub data Field : Type 0 where
  Step : (tag : ℕ) (numbers : Numbers) (next : ℕ) → Field
  Fault : (kind tag : ℕ) → Field
  End : Field

-- entry n is the length of tag n: no tag, open, start, look, settle, make, swap, retire, sweep, end, tally
abbrev pub lengths : List ℕ
lengths = 0 ∷ 20 ∷ 4 ∷ 8 ∷ 4 ∷ 4 ∷ 16 ∷ 8 ∷ 4 ∷ 4 ∷ 4 ∷ []

-- the length of a tag; 0 where the tag is unknown
abbrev pub length_of : (tag : ℕ) → ℕ
length_of tag = get_or lengths tag 0

-- the number of n bytes from a place on, most significant byte first; a byte past the end reads as 0
abbrev pub number : (n : ℕ) → List ℕ → (at : ℕ) → ℕ
number zero s at = 0
number (suc n) s at = number n s at * 256 + get_or s (at + n) 0

-- the numbers of a body, 4 bytes each
abbrev pub numbers_of : List ℕ → Numbers
numbers_of body = record { first = number 4 body 0; second = number 4 body 4; third = number 4 body 8; fourth = number 4 body 12; fifth = number 4 body 16 }

-- how many bytes are left at a place: none past the end
abbrev pub left : List ℕ → (at : ℕ) → ℕ
left s at = length s - at

-- the part of n bytes from a place on
abbrev pub part : List ℕ → (at n : ℕ) → List ℕ
part s at n = take n (drop at s)

-- the checks on a field whose tag asks for n bytes, in order: fewer than three bytes left, 21; unknown tag, 22; length not the tag's, 23;
-- body past the end, 21; 0 where none fails
unfoldable pub fault_kind : List ℕ → (at n : ℕ) → ℕ
fault_kind s at n =
    cond (nat_lt (left s at) 3) 21
    (cond (n == 0) 22
    (cond (not (number 2 s (at + 1) == n)) 23
    (cond (nat_lt (left s (at + 3)) n) 21 0)))

-- a field of a tag that asks for n bytes, where the checks give this kind: a fault yields no step and no numbers
abbrev pub tagged : List ℕ → (at tag n kind : ℕ) → Field
tagged s at tag n kind = cond (kind == 0) (Step tag (numbers_of (part s (at + 3) n)) (at + 3 + n)) (Fault kind tag)

-- what stands at a place: no bytes left, or a place past the end, is the end
unfoldable pub field_at : List ℕ → (at : ℕ) → Field
field_at s at = cond (left s at == 0) End (tagged s at (get_or s at 0) (length_of (get_or s at 0)) (fault_kind s at (length_of (get_or s at 0))))
