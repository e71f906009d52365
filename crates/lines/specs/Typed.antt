-- A step typed as text. Assumes nothing.
use Rattle.std.specs.Prelude.{ℕ, zero, suc, ◌+◌, ◌/◌, ◌%◌, cond, List, [], ◌∷◌, ◌++◌, map, nat_lt}
use Rattle.lines.specs.Names.{name_of}

-- a number's decimal digits with no 0 in front, the last k of them
abbrev pub last_digits : (k n : ℕ) → List ℕ
last_digits zero n = []
last_digits (suc k) n = cond (nat_lt n 10) ((48 + n) ∷ []) (last_digits k (n / 10) ++ ((48 + n % 10) ∷ []))

-- all of them: a number of 32 bits has at most ten
unfoldable pub digits_of : ℕ → List ℕ
digits_of n = last_digits 10 n

-- words, each after a space
abbrev pub spaced : List (List ℕ) → List ℕ
spaced [] = []
spaced (word ∷ more) = 32 ∷ (word ++ spaced more)

-- a step's name, then its numbers
abbrev pub typed : (tag : ℕ) → List ℕ → List ℕ
typed tag numbers = name_of tag ++ spaced (map digits_of numbers)
