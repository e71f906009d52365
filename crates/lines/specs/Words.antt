-- The words of a text: runs of bytes that are no blanks. Assumes nothing.
use Rattle.std.specs.Prelude.{ℕ, suc, Bool, cond, not, ◌||◌, ◌&&◌, List, [], ◌∷◌, nat_le, ◌==◌, length, take, drop}

-- how many bytes at the start pass a test, up to the first that does not
abbrev pub front : (ℕ → Bool) → List ℕ → ℕ
front p [] = 0
front p (x ∷ xs) = cond (p x) (suc (front p xs)) 0

-- these bytes
abbrev pub take_while : (ℕ → Bool) → List ℕ → List ℕ
take_while p s = take (front p s) s

-- what is left after them
abbrev pub drop_while : (ℕ → Bool) → List ℕ → List ℕ
drop_while p s = drop (front p s) s

-- no bytes
abbrev pub is_empty : List ℕ → Bool
is_empty s = length s == 0

-- space, tab and carriage return are blanks
abbrev pub is_blank : ℕ → Bool
is_blank c = c == 32 || c == 9 || c == 13

-- any other byte may be in a word
abbrev pub not_blank : ℕ → Bool
not_blank c = not (is_blank c)

-- any byte but #
abbrev pub not_hash : ℕ → Bool
not_hash c = not (c == 35)

-- 0 to 9
abbrev pub is_digit : ℕ → Bool
is_digit c = nat_le 48 c && nat_le c 57

-- what counts of a line: the bytes before its first #
abbrev pub before_comment : List ℕ → List ℕ
before_comment line = take_while not_hash line

-- the first word of a text; empty where the text has none
unfoldable pub first_word : List ℕ → List ℕ
first_word s = take_while not_blank (drop_while is_blank s)

-- what follows it
unfoldable pub after_word : List ℕ → List ℕ
after_word s = drop_while not_blank (drop_while is_blank s)
