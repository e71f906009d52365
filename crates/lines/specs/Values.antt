-- The numbers of a text: words of decimal digits. Assumes nothing.
use Rattle.std.specs.Prelude.{ℕ, zero, suc, ◌+◌, ◌*◌, ◌-◌, Bool, cond, not, nat_lt, ◌==◌, length}
use mathlib.Core.List.{List, [], ◌∷◌, foldl}
use Rattle.schedule.specs.Fields.{Numbers}
use Rattle.schedule.specs.Writing.{five_of}
use Rattle.lines.specs.Words.{front, is_digit, is_empty, first_word, after_word}

-- a word's number, or what is wrong with the word
pub data OneNumber : Type 0 where
  Value : ℕ → OneNumber
  NoValue : ℕ → OneNumber

-- a step's numbers, or what is wrong with them
pub data AllNumbers : Type 0 where
  Are : Numbers → AllNumbers
  NotAll : ℕ → AllNumbers

-- every byte is a digit
abbrev pub is_digits : List ℕ → Bool
is_digits word = front is_digit word == length word

-- a number with one digit more
abbrev pub one_more : (value digit : ℕ) → ℕ
one_more value digit = value * 10 + (digit - 48)

-- the number of a word of digits, however many
unfoldable pub decimal : List ℕ → ℕ
decimal word = foldl one_more 0 word

-- the number of a word, or what is wrong with it: not a number, 2; too large, 3
unfoldable pub number_of : List ℕ → OneNumber
number_of word = cond (not (is_digits word)) (NoValue 2) (cond (nat_lt 4294967295 (decimal word)) (NoValue 3) (Value (decimal word)))

-- the number that a text starts with, or what is wrong with it: no word is left, 4
unfoldable pub next_number : List ℕ → OneNumber
next_number s = cond (is_empty (first_word s)) (NoValue 4) (number_of (first_word s))

-- the numbers of a step in their order, or what is wrong
pub data Numbered : Type 0 where
  are : List ℕ → Numbered
  wrong : (what : ℕ) → Numbered

-- a number, or what is wrong with it, before those that follow
abbrev pub before : OneNumber → Numbered → Numbered
before (NoValue what) more = wrong what
before (Value v) (are vs) = are (v ∷ vs)
before (Value v) (wrong what) = wrong what

-- the numbers of a step that takes so many, from the text after its name; a word after the last is one too many, 5
unfoldable pub numbers_from : (count : ℕ) → List ℕ → Numbered
numbers_from zero s = cond (is_empty (first_word s)) (are []) (wrong 5)
numbers_from (suc n) s = before (next_number s) (numbers_from n (after_word s))

-- the numbers of a step as five, 0 for those that it has not, or what is wrong
abbrev pub told : Numbered → AllNumbers
told (are vs) = Are (five_of vs)
told (wrong what) = NotAll what
