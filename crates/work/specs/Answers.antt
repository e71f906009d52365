-- The numbers of an answer (01, "Answer numbers"): each case's kind and value. Assumes nothing.
use Rattle.std.specs.Prelude.{ℕ, List, Result, Ok, Err}
use Rattle.rules.specs.OnTable.{result_of}
use Rattle.rules.specs.OnTable as on_table
use Rattle.work.specs.declared.answers.Reply.{Reply}
use Rattle.work.specs.declared.answers.Reply.TheVariants.{Done, LookAgain}
use Rattle.work.specs.declared.answers.Refusal.{Refusal}
use Rattle.work.specs.declared.answers.Refusal.TheVariants.{Unsound, BadSize, NotThere, WrongPhase, NoSlot, NoBlock, WrongBlock, StillNamed, NoneFree, Exhausted, Unshown}

abbrev pub refusal_kind : Refusal → ℕ
refusal_kind Unsound = 1
refusal_kind BadSize = 2
refusal_kind NotThere = 3
refusal_kind WrongPhase = 4
refusal_kind NoSlot = 5
refusal_kind NoBlock = 6
refusal_kind WrongBlock = 7
refusal_kind StillNamed = 8
refusal_kind NoneFree = 9
refusal_kind Exhausted = 10
refusal_kind Unshown = 12

-- a reply, or a refusal
abbrev pub Answer : Type 0
Answer = Result Reply Refusal

abbrev pub kind_of : Answer → ℕ
kind_of (Ok (Done value)) = 0
kind_of (Ok LookAgain) = 11
kind_of (Err refusal) = refusal_kind refusal

abbrev pub value_of : Answer → ℕ
value_of (Ok (Done value)) = value
value_of (Ok LookAgain) = 0
value_of (Err refusal) = 0

-- what a call told its caller and left in the table
abbrev pub told : Answer → List ℕ → on_table.Result
told a t = result_of (kind_of a) (value_of a) t
