-- What the numbers of a text are in each of their cases. Assumes nothing.
use Prim.Native.Nat.{ℕ, ◌≤◌, ◌<◌, min}
use native.Mathlib.Omega.{arith}
use mathlib.Core.Path.{◌≡◌, sym, ◌∙◌}
use mathlib.Core.List.{List, []}
use lib.ListN.{length}
use borrow.Author.Tests.{eq-eqb, ne_eqb, lt-ltb, le-ltb}
use Rattle.std.specs.Prelude.{Result, Ok, Err}
use Rattle.std.specs.Result.{OkIff, MatchResult}
use Rattle.lines.specs.declared.Wrong.{Wrong}
use Rattle.lines.specs.declared.Wrong.TheVariants.{TooLarge}
use Rattle.lines.specs.Said.{one}
use Rattle.lines.specs.Words.{front, is_digit, first_word}
use Rattle.lines.specs.Values.{OneNumber, Value, NoValue, decimal, number_of, next_number, are, wrong, numbers_from}

-- the number of a word
module _ (word : List ℕ) {n : ℕ} (run : n ≡ front is_digit word) where
  pub not_digits : (n ≡ length word → ⊥) → NoValue 2 ≡ number_of word
  unfolding number_of
  not_digits h = simp (ne_eqb (front is_digit word) (length word) (λ e. h (run ∙ e)))

  module _ (all : n ≡ length word) {v : ℕ} (capped : v ≡ min 18446744073709551615 (decimal word)) where
    pub too_large : 4294967296 ≤ v → NoValue 3 ≡ number_of word
    unfolding number_of
    too_large h = simp (eq-eqb (front is_digit word) (length word) (sym run ∙ all), lt-ltb 4294967295 (decimal word) (omega arith))

    pub value : v < 4294967296 → Value v ≡ number_of word
    unfolding number_of
    value h =
        let e : v ≡ decimal word = omega arith in
        simp (eq-eqb (front is_digit word) (length word) (sym run ∙ all), le-ltb 4294967295 (decimal word) (omega arith), e)

    -- where the number fits 32 bits, or else is too large
    pub fits : {E : Type 0} (r : Result ℕ E) (o : Result ℕ Wrong) → OkIff r (v < 4294967296) v → MatchResult r (λ x. o ≡ Ok x) (λ _. o ≡ Err TooLarge)
        → one o ≡ number_of word
    fits (Ok x) o h e = rw (e, h.1) (value h.0)
    fits (Err d) o h e = rw e (too_large (omega arith))

-- the number that a text starts with, and a text from which no more numbers are taken
module _ (s : List ℕ) {word : List ℕ} (is : word ≡ first_word s) where
  module _ (h : length word ≡ 0) where
    pub too_few : NoValue 4 ≡ next_number s
    unfolding next_number
    too_few = simp (eq-eqb (length (first_word s)) 0 (rw is at h))

    pub no_more : numbers_from 0 s ≡ are []
    unfolding numbers_from
    no_more = simp (eq-eqb (length (first_word s)) 0 (rw is at h))

  module _ (h : length word ≡ 0 → ⊥) where
    pub a_word : {r : OneNumber} → r ≡ number_of word → r ≡ next_number s
    unfolding next_number
    a_word e = simp (ne_eqb (length (first_word s)) 0 (rw is at h)) (rw is at e)

    pub too_many : numbers_from 0 s ≡ wrong 5
    unfolding numbers_from
    too_many = simp (ne_eqb (length (first_word s)) 0 (rw is at h))
