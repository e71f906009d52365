-- The writing of a field (01, "Schedule files"; the same layout as in Fields): its bytes, the checks, and what a write leaves. Assumes nothing.
use Rattle.std.specs.Prelude.{ℕ, zero, suc, ◌+◌, ◌/◌, ◌%◌, cond, not, List, [], ◌∷◌, ◌++◌, nat_lt, ◌==◌, length, get_or, take, drop}
use Rattle.schedule.specs.Fields.{Numbers, length_of, left}

-- the last n bytes of a number, most significant byte first
unfoldable pub bytes_of : (n x : ℕ) → List ℕ
bytes_of zero x = []
bytes_of (suc n) x = bytes_of n (x / 256) ++ (x % 256 ∷ [])

-- the bytes of a body: its numbers one after another, 4 bytes each
unfoldable pub body_of : List ℕ → List ℕ
body_of [] = []
body_of (x ∷ xs) = bytes_of 4 x ++ body_of xs

-- the bytes of a field: the tag, the body's length in 2 bytes, the body
unfoldable pub field_of : (tag : ℕ) → List ℕ → List ℕ
field_of tag numbers = tag ∷ (bytes_of 2 (length_of tag) ++ body_of numbers)

-- how many numbers a tag has, 4 bytes each, and how many bytes its field has
abbrev pub count_of : (tag : ℕ) → ℕ
count_of tag = length_of tag / 4

abbrev pub size_of : (tag : ℕ) → ℕ
size_of tag = 3 + length_of tag

-- a tag's numbers as a list, and a list as a body's five numbers, 0 for those that it has not
abbrev pub list_of : (tag : ℕ) → Numbers → List ℕ
list_of tag n = take (count_of tag) (n.first ∷ n.second ∷ n.third ∷ n.fourth ∷ n.fifth ∷ [])

abbrev pub five_of : List ℕ → Numbers
five_of ns = record { first = get_or ns 0 0; second = get_or ns 1 0; third = get_or ns 2 0; fourth = get_or ns 3 0; fifth = get_or ns 4 0 }

-- the checks, in order: unknown tag, 22; count of numbers not the tag's, 23; fewer bytes from the place on than the field needs, 25
unfoldable pub write_kind : (tag count room : ℕ) → ℕ
write_kind tag count room =
    cond (length_of tag == 0) 22
    (cond (not (count == count_of tag)) 23
    (cond (nat_lt room (size_of tag)) 25 0))

-- a write's kind and value, and what stands in the buffer after it
pub record Outcome : Type 0 where
  pub kind : ℕ
  pub value : ℕ
  pub buffer : List ℕ

abbrev pub outcome : (kind value : ℕ) → List ℕ → Outcome
outcome kind value buffer = record { kind = kind; value = value; buffer = buffer }

-- a buffer with these bytes from a place on, in place of as many
abbrev pub placed : List ℕ → (at : ℕ) → List ℕ → List ℕ
placed buffer at bytes = take at buffer ++ bytes ++ drop (at + length bytes) buffer

-- where the checks give this kind: the field is written and the value is the place after it; a refusal has the value 0 and writes nothing
abbrev pub wrote : List ℕ → (at tag : ℕ) → List ℕ → (kind : ℕ) → Outcome
wrote buffer at tag numbers kind =
    cond (kind == 0) (outcome 0 (at + size_of tag) (placed buffer at (field_of tag numbers))) (outcome kind 0 buffer)

-- what writing a tag and its numbers at a place of a buffer answers and leaves
unfoldable pub field_write : List ℕ → (at tag : ℕ) → List ℕ → Outcome
field_write buffer at tag numbers = wrote buffer at tag numbers (write_kind tag (length numbers) (left buffer at))
