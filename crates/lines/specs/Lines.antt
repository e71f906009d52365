-- What a line of a schedule typed as text says. Assumes nothing.
use Rattle.std.specs.Prelude.{ℕ, cond, List, ◌==◌}
use Rattle.schedule.specs.Fields.{Numbers}
use Rattle.schedule.specs.Writing.{count_of, five_of}
use Rattle.lines.specs.Words.{is_empty, before_comment, first_word, after_word}
use Rattle.lines.specs.Values.{Numbered, are, wrong, numbers_from}
use Rattle.lines.specs.Names.{tag_of}

-- what a line says: nothing, a step and its numbers (0 for those that it has not), or what is wrong with it
pub data Line : Type 0 where
  Blank : Line
  Step : (tag : ℕ) (numbers : Numbers) → Line
  Wrong : (what : ℕ) → Line

-- a step and its numbers, or what is wrong with them
abbrev pub step_of : (tag : ℕ) → Numbered → Line
step_of tag (are vs) = Step tag (five_of vs)
step_of tag (wrong what) = Wrong what

-- a text of no comment: no word is blank, a first word that is no step's name is 1, and else the numbers decide
unfoldable pub text_of : List ℕ → Line
text_of s =
    cond (is_empty (first_word s)) Blank
    (cond (tag_of (first_word s) == 0) (Wrong 1)
    (step_of (tag_of (first_word s)) (numbers_from (count_of (tag_of (first_word s))) (after_word s))))

-- what a line says
unfoldable pub line_of : List ℕ → Line
line_of line = text_of (before_comment line)
