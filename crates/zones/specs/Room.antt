-- Runs in which tasks write the room too (02, request i): a task may write the eight bytes of a block that it has made and not yet shown, and
-- nothing else writes the room. Assumes nothing.
use Rattle.std.specs.Prelude.{ℕ, Bool, true, false, cond, not, ◌&&◌, List, [], ◌∷◌, ◌==◌, length, take, drop}
use Rattle.std.proofs.lemmas.List.Edits.{sets}
use Rattle.table.specs.State.{State, block_of}
use Rattle.rules.specs.Steps.{made_by}
use Rattle.rules.specs.Calls.{Call, step, ends_task}
use Rattle.zones.specs.Requests.{room_of}

-- what the table says, and the bytes of the room
pub record World : Type 0 where
  pub state : State
  pub room : List ℕ

abbrev pub world : State → List ℕ → World
world s room = record { state = s; room = room }

-- a call, or a write of bytes into the room of block b by task k
pub data Action : Type 0 where
  calls : Call → Action
  writes : (k b : ℕ) → List ℕ → Action

-- eight bytes, for a block that the task has made and not yet shown
abbrev pub may_write : State → (k b : ℕ) → List ℕ → Bool
may_write s k b bytes = made_by k (block_of s b) && length bytes == 8

-- a call changes the state and no byte of the room; a write that may be changes the block's bytes, and any other changes nothing
abbrev pub act : World → Action → World
act w (calls c) = world (step w.state c).after w.room
act w (writes k b bytes) = world w.state (cond (may_write w.state k b bytes) (sets w.room (room_of b) bytes) w.room)

abbrev pub run : World → List Action → World
run w [] = w
run w (a ∷ acts) = run (act w a) acts

-- no action on the way is an accepted end of task k
abbrev pub is_end : (k : ℕ) → World → Action → Bool
is_end k w (calls c) = ends_task k w.state c
is_end k w (writes j b bytes) = false

abbrev pub no_end : (k : ℕ) → World → List Action → Bool
no_end k w [] = true
no_end k w (a ∷ acts) = not (is_end k w a) && no_end k (act w a) acts

-- the eight bytes of block b
abbrev pub bytes_of_block : (room : List ℕ) → (b : ℕ) → List ℕ
bytes_of_block room b = take 8 (drop (room_of b) room)
