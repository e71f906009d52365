-- One field carried out on a buffer, part of which is the table (01, "Schedule files"). Assumes nothing.
use Rattle.std.specs.Prelude.{ℕ, ◌≤◌, ◌≡◌, ◌≢◌, true, cond, List, ◌++◌, ◌==◌, length, take, drop}
use Rattle.table.specs.declared.sizes.Sizes.{Sizes}
use Rattle.table.specs.Soundness.{sized}
use Rattle.table.specs.Words.{sound, length_for}
use Rattle.rules.specs.OnTable.{Result}
use Rattle.rules.specs.Calls.{Call}
use Rattle.rules.specs.Calls.Call.{starts, looks, settles, makes, swaps, retires, sweeps, ends, tallies}
use Rattle.work.specs.Answers.{Answer, kind_of, value_of}
use Rattle.reclaim.specs.Promises.{PublicCall, promised}
use Rattle.reclaim.specs.Promises.PublicCall.{opens, calls}
use Rattle.schedule.specs.Fields.{Numbers}
use Rattle.schedule.specs.Tags.{tag_number}
use Rattle.schedule.specs.Writing.{five_of}
use Rattle.schedule.specs.declared.Step.{Step}
use Rattle.runner.specs.declared.Ran.{Ran}

-- the program works on a buffer of 4,518 words
abbrev pub buffer_length : ℕ
buffer_length = 4518

-- the buffer, and how many of its first words are the table: 0 before an accepted open
pub record Held : Type 0 where
  pub buffer : List ℕ
  pub used : ℕ

abbrev pub held : List ℕ → (used : ℕ) → Held
held buffer used = record { buffer = buffer; used = used }

-- the step of each tag but open's, with the numbers of its body in their order; of the ten tags the last is left for tally
unfoldable pub step_of : (tag : ℕ) → Numbers → Call
step_of tag n =
    cond (tag == 2) (starts n.first)
    (cond (tag == 3) (looks n.first n.second)
    (cond (tag == 4) (settles n.first)
    (cond (tag == 5) (makes n.first)
    (cond (tag == 6) (swaps n.first n.second n.third n.fourth)
    (cond (tag == 7) (retires n.first n.second)
    (cond (tag == 8) (sweeps n.first)
    (cond (tag == 9) (ends n.first)
    (tallies n.first))))))))

-- open's: T tasks, N blocks, P slots, F makes per epoch, E retirements per sweep
abbrev pub open_of : Numbers → PublicCall
open_of n = opens n.first n.second n.third n.fourth n.fifth

-- the same numbers as the code's sizes
abbrev pub sizes_of : Numbers → Sizes
sizes_of n = record { tasks = n.first; blocks = n.second; slots = n.third; per_epoch = n.fourth; per_sweep = n.fifth }

-- the open of such sizes
abbrev pub opening : Sizes → PublicCall
opening s = opens s.tasks s.blocks s.slots s.per_epoch s.per_sweep

-- the call of each tag: 1 opens
abbrev pub call_of : (tag : ℕ) → Numbers → PublicCall
call_of tag n = cond (tag == 1) (open_of n) (calls (step_of tag n))

-- the call that a field asks for, as it was read
abbrev pub asked : Step → PublicCall
asked field = call_of (tag_number field.tag) (five_of field.numbers)

-- open is lent as many words as its sizes ask for, or the whole buffer where a size is outside its limits; any other step the table
abbrev pub lent : Held → PublicCall → ℕ
lent h (opens T N P F E) = cond (sized T N P F E) (length_for T N P) (length h.buffer)
lent h (calls c) = h.used

-- an accepted open fixes how much of the buffer is the table
abbrev pub used_after : Held → PublicCall → (kind : ℕ) → ℕ
used_after h (opens T N P F E) kind = cond (kind == 0) (lent h (opens T N P F E)) h.used
used_after h (calls c) kind = h.used

-- the answer's kind and value, and what is held after it
pub record Carried : Type 0 where
  pub kind : ℕ
  pub value : ℕ
  pub after : Held

-- a result on the lent words: the other words of the buffer stay
abbrev pub put_back : Held → PublicCall → Result → Carried
put_back h c r = record { kind = r.kind; value = r.value; after = held (r.table ++ drop (lent h c) h.buffer) (used_after h c r.kind) }

-- a call carried out: its promise on the words that it is lent
unfoldable pub carried : Held → PublicCall → Carried
carried h c = put_back h c (promised (take (lent h c) h.buffer) c)

-- what the code answered and left in the buffer
abbrev pub ran : Ran → List ℕ → Carried
ran r buffer = record { kind = kind_of r.answer; value = value_of r.answer; after = held buffer r.used }

-- the same of what is held after it
abbrev pub ran_to : Answer → Held → Carried
ran_to a h = ran (record { answer = a; used = h.used }) h.buffer

-- what every field finds and leaves: the whole buffer, and a table that is sound where there is one
pub record Ready (h : Held) : Type 0 where
  pub whole : length h.buffer ≡ buffer_length
  pub inside : h.used ≤ buffer_length
  pub table : h.used ≢ 0 → sound (take h.used h.buffer) ≡ true
