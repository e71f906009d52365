-- What a text says in each of its cases. Assumes nothing.
use Prim.Native.Nat.{ℕ}
use mathlib.Core.Path.{◌≡◌, sym, ap, ◌∙◌}
use mathlib.Core.List.{List}
use lib.ListN.{length}
use borrow.Author.Tests.{eq-eqb, ne_eqb}
use Rattle.schedule.specs.Fields.{Numbers}
use Rattle.schedule.specs.Writing.{count_of, five_of}
use Rattle.lines.specs.Words.{first_word, after_word}
use Rattle.lines.specs.Values.{AllNumbers, Are, NotAll, Numbered, are, wrong, numbers_from, told}
use Rattle.lines.specs.Names.{tag_of}
use Rattle.lines.specs.Lines.{Line, Blank, Step, Wrong, step_of, text_of}

-- the numbers of a step, or what is wrong with them
step_of_lem : (tag : ℕ) {m : Numbers} (x : Numbered) → Are m ≡ told x → Step tag m ≡ step_of tag x
step_of_lem tag {m} (are vs) e = let same : m ≡ five_of vs = cc in ap (Step tag) same
step_of_lem tag (wrong what) e = cc

wrong_of : (tag : ℕ) {w : ℕ} (x : Numbered) → NotAll w ≡ told x → Wrong w ≡ step_of tag x
wrong_of tag (are vs) e = cc
wrong_of tag {w} (wrong what) e = let same : w ≡ what = cc in ap Wrong same

module _ (s : List ℕ) {word : List ℕ} (is : word ≡ first_word s) where
  pub blank : length word ≡ 0 → Blank ≡ text_of s
  unfolding text_of
  blank h = simp (eq-eqb (length (first_word s)) 0 (rw is at h))

  module _ (h : length word ≡ 0 → ⊥) {tag : ℕ} (named : tag ≡ tag_of word) where
    named-first : tag ≡ tag_of (first_word s)
    named-first = rw is at named

    pub unknown : tag ≡ 0 → Wrong 1 ≡ text_of s
    unfolding text_of
    unknown z = simp (ne_eqb (length (first_word s)) 0 (rw is at h), eq-eqb (tag_of (first_word s)) 0 (sym named-first ∙ z))

    module _ (k : tag ≡ 0 → ⊥) {n : ℕ} {rest : List ℕ} {all : AllNumbers} (after : rest ≡ after_word s) (size : n ≡ count_of tag) (found : all ≡ told (numbers_from n rest)) where
      the_rest : {l : Line} → l ≡ step_of tag (numbers_from (count_of tag) (after_word s)) → l ≡ text_of s
      unfolding text_of
      the_rest e = simp (ne_eqb (length (first_word s)) 0 (rw is at h), ne_eqb (tag_of (first_word s)) 0 (λ z. k (named-first ∙ z))) (rw named-first at e)

      the_numbers : all ≡ told (numbers_from (count_of tag) (after_word s))
      the_numbers = rw (after, size) at found

      pub step : {m : Numbers} → all ≡ Are m → Step tag m ≡ text_of s
      step e = the_rest (step_of_lem tag (numbers_from (count_of tag) (after_word s)) (sym e ∙ the_numbers))

      pub no_step : {what : ℕ} → all ≡ NotAll what → Wrong what ≡ text_of s
      no_step e = the_rest (wrong_of tag (numbers_from (count_of tag) (after_word s)) (sym e ∙ the_numbers))
