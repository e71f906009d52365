-- The names of the steps. Assumes nothing.
use Rattle.std.specs.Prelude.{ℕ, suc, ◌≤◌, ◌≡◌, Bool, true, false, cond, List, [], ◌∷◌, ◌==◌, length, get_or, take}

-- open, start, look, settle, make, swap, retire, sweep, end, tally: tags 1 to 10
abbrev pub names : List (List ℕ)
names =
    (111 ∷ 112 ∷ 101 ∷ 110 ∷ [])
    ∷ (115 ∷ 116 ∷ 97 ∷ 114 ∷ 116 ∷ [])
    ∷ (108 ∷ 111 ∷ 111 ∷ 107 ∷ [])
    ∷ (115 ∷ 101 ∷ 116 ∷ 116 ∷ 108 ∷ 101 ∷ [])
    ∷ (109 ∷ 97 ∷ 107 ∷ 101 ∷ [])
    ∷ (115 ∷ 119 ∷ 97 ∷ 112 ∷ [])
    ∷ (114 ∷ 101 ∷ 116 ∷ 105 ∷ 114 ∷ 101 ∷ [])
    ∷ (115 ∷ 119 ∷ 101 ∷ 101 ∷ 112 ∷ [])
    ∷ (101 ∷ 110 ∷ 100 ∷ [])
    ∷ (116 ∷ 97 ∷ 108 ∷ 108 ∷ 121 ∷ [])
    ∷ []

-- the name of a tag; empty where the tag is unknown
abbrev pub name_of : (tag : ℕ) → List ℕ
name_of tag = get_or ([] ∷ names) tag []

-- the first n bytes of a buffer are the name of a tag. The last two parts are stated so that callers have the part of the buffer.
abbrev pub NameAtStart : (tag n : ℕ) → List ℕ → Type 0
NameAtStart tag n out = (take n out ≡ name_of tag) × (n ≤ length out) × (n ≡ length (take n out))

-- two words are the same, byte for byte
abbrev pub same : List ℕ → List ℕ → Bool
same [] [] = true
same [] (y ∷ ys) = false
same (x ∷ xs) [] = false
same (x ∷ xs) (y ∷ ys) = cond (x == y) (same xs ys) false

-- the tag of the first name that is the word, where the names' tags count from a number on; 0 where none is
abbrev pub tag_from : (tag : ℕ) → List (List ℕ) → List ℕ → ℕ
tag_from tag [] word = 0
tag_from tag (name ∷ more) word = cond (same word name) tag (tag_from (suc tag) more word)

unfoldable pub tag_of : List ℕ → ℕ
tag_of word = tag_from 1 names word
