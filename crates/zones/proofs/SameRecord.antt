-- The bytes stay the same record. This is the sentence that the night of +210 broke: a bought-in reclaimer freed the block of a zone record under a
-- slow logger task, which took +210 minutes for −210 from the record that came next, and a night was filed under the wrong date. Assumes nothing.
use Prim.Native.Nat.{ℕ, suc, ◌+◌, ◌-◌, ◌≤◌, ◌<◌}
use native.Mathlib.Decide.{dec_lt}
use native.Mathlib.Omega.{arith}
use mathlib.Core.Path.{◌≡◌, refl, sym, ap, ◌∙◌}
use mathlib.Core.Logic.{◌≢◌}
use mathlib.Core.Bool.{true, not}
use mathlib.Core.List.{List, [], ◌∷◌}
use lib.ListN.{length, take, drop, set}
use lib.Seq.{sets, length-sets, take-set-le, drop-set-lt, drop-set-add}
use borrow.Author.Tests.{eqb-true}
use Rattle.table.specs.State.{State, BlockRow, block_of, is_made}
use Rattle.table.proofs.Tests.{two, both, cond_cases}
use Rattle.rules.specs.Steps.{settle, made_by}
use Rattle.rules.specs.Calls.{Call, ends_task}
use Rattle.rules.specs.Terms.{Reached}
use Rattle.rules.proofs.Kept.{step-sound}
use Rattle.rules.proofs.Guarded.{Alive, Held, reached_right, run-held, settle_guards}
use Rattle.numbers.specs.declared.Block.{Block}
use Rattle.zones.specs.declared.requests.Request.TheVariants.{Block as InBlock}
use Rattle.zones.specs.Requests.{Lent, eight_at, room_of, block_part, answer_to, record_of}
use Rattle.zones.specs.Room.{World, world, Action, may_write, act, run, no_end, bytes_of_block}

-- a write leaves what lies before it and what lies after it
written_after : (bytes room : List ℕ) (at p : ℕ) → at + length bytes ≤ p → drop p (sets room at bytes) ≡ drop p room
written_after [] room at p h = refl
written_after (x ∷ xs) room at p h = written_after xs (set room at x) (suc at) p (omega arith) ∙ drop-set-lt p room at x (omega arith)

stored_before : (room : List ℕ) (x at p : ℕ) → p + 8 ≤ at → take 8 (drop p (set room at x)) ≡ take 8 (drop p room)
stored_before room x at p h = let e : p + (at - p) ≡ at = omega arith in
    ap (λ (i : ℕ). take 8 (drop p (set room i x))) (sym e) ∙ ap (take 8) (drop-set-add p room (at - p) x) ∙ take-set-le 8 (drop p room) (at - p) x (omega arith)

written-before : (bytes room : List ℕ) (at p : ℕ) → p + 8 ≤ at → take 8 (drop p (sets room at bytes)) ≡ take 8 (drop p room)
written-before [] room at p h = refl
written-before (x ∷ xs) room at p h = written-before xs (set room at x) (suc at) p (omega arith) ∙ stored_before room x at p h

-- so that a write into one block leaves the bytes of another
other_block : (room bytes : List ℕ) (b d : ℕ) → length bytes ≡ 8 → b ≢ 0 → d ≢ 0 → d ≢ b → bytes_of_block (sets room (room_of d) bytes) b ≡ bytes_of_block room b
other_block room bytes b d l y z n = go (dec_lt d b)
  where
    go : Dec (d < b) → bytes_of_block (sets room (room_of d) bytes) b ≡ bytes_of_block room b
    go (yes h) = ap (take 8) (written_after bytes room (room_of d) (room_of b) (omega arith))
    go (no h) = written-before bytes room (room_of d) (room_of b) (omega arith)

-- a block that is guarded is not one that a task has made and not yet shown
unmade : {l : ℕ} {x : BlockRow} → Alive l x → x.state ≢ 1
unmade (Alive.shown p) e = omega arith
unmade (Alive.retired p h) e = omega arith

made-state : (k : ℕ) (x : BlockRow) → made_by k x ≡ true → x.state ≡ 1
made-state k x e = eqb-true _ _ (two (is_made x) _ e).0

module _ (β k b : ℕ) (z : b ≢ 0) where
  write_keeps : (w : World) (j d : ℕ) (bytes : List ℕ) → Held β k b w.state → bytes_of_block (act w (Action.writes j d bytes)).room b ≡ bytes_of_block w.room b
  write_keeps w j d bytes h = cond_cases (λ room. bytes_of_block room b ≡ bytes_of_block w.room b) (may_write w.state j d bytes) _ _ may (λ m. refl)
    where
      may : may_write w.state j d bytes ≡ true → bytes_of_block (sets w.room (room_of d) bytes) b ≡ bytes_of_block w.room b
      may m = let t = two (made_by j (block_of w.state d)) _ m in
          let made = made-state j (block_of w.state d) t.0 in
          other_block w.room bytes b d (eqb-true _ _ t.1) z (λ e. omega (arith, ap (λ (i : ℕ). (block_of w.state i).state) e, made))
          (λ e. unmade h.guarded.alive (ap (λ (i : ℕ). (block_of w.state i).state) (sym e) ∙ made))

  run_keeps : (w : World) (acts : List Action) → no_end k w acts ≡ true → Held β k b w.state → bytes_of_block (run w acts).room b ≡ bytes_of_block w.room b
  run_keeps w [] e h = refl
  run_keeps w (Action.calls c ∷ acts) e h = let t = two (not (ends_task k w.state c)) _ e in
      run_keeps (act w (Action.calls c)) acts t.1 (run-held β k b w.state (c ∷ []) (both _ _ t.0 refl) h)
  run_keeps w (Action.writes j d bytes ∷ acts) e h = run_keeps (act w (Action.writes j d bytes)) acts e h ∙ write_keeps w j d bytes h

-- SAME RECORD. Where a settle of task k answers kind 0 and block b, then after any actions in which no end of k is accepted, and so at each point
-- on the way, the eight bytes of b are those that they were.
pub same_record : {s : State} → Reached s → (k b : ℕ) (room : List ℕ) (acts : List Action) → (settle s k).kind ≡ 0 → (settle s k).value ≡ b → b ≢ 0
    → no_end k (world (settle s k).after room) acts ≡ true → bytes_of_block (run (world (settle s k).after room) acts).room b ≡ bytes_of_block room b
same_record {s} r k b room acts e v z never = run_keeps (block_of s b).birth k b z (world (settle s k).after room) acts never
    (rw (← v) record { sound = step-sound s (Call.settles k) (reached_right r).sound; guarded = settle_guards s k (reached_right r) e (rw v z) })

-- So a request for block b, whose room is lent anew, gets the same part with the same bytes, and the same minutes.
room_long : (w : World) (acts : List Action) → length (run w acts).room ≡ length w.room
room_long w [] = refl
room_long w (Action.calls c ∷ acts) = room_long (act w (Action.calls c)) acts
room_long w (Action.writes k b bytes ∷ acts) = room_long (act w (Action.writes k b bytes)) acts
    ∙ cond_cases (λ room. length room ≡ length w.room) (may_write w.state k b bytes) _ _ (λ m. length-sets w.room (room_of b) bytes) (λ m. refl)

abbrev pub lies : ℕ × ℕ → List ℕ → Lent
lies place bytes = record { begins = place; bytes = bytes }

same-part : (place : ℕ × ℕ) (room later : List ℕ) (b : ℕ) → length later ≡ length room → bytes_of_block later b ≡ bytes_of_block room b
    → block_part (lies place later) b ≡ block_part (lies place room) b
unfolding block_part eight_at
same-part place room later b l e = rw (l, e)

pub same_answer : {s : State} → Reached s → (k : ℕ) (b : Block) (room : List ℕ) (acts : List Action) → (settle s k).kind ≡ 0 → (settle s k).value ≡ b.0 → b.0 ≢ 0
    → no_end k (world (settle s k).after room) acts ≡ true → (table : Lent) (place : ℕ × ℕ)
    → (record_of table (lies place (run (world (settle s k).after room) acts).room) (InBlock b) ≡ record_of table (lies place room) (InBlock b))
    × (answer_to table (lies place (run (world (settle s k).after room) acts).room) (InBlock b) ≡ answer_to table (lies place room) (InBlock b))
same_answer {s} r k b room acts e v z never table place =
    rw (same-part place room (run (world (settle s k).after room) acts).room b.0 (room_long (world (settle s k).after room) acts)
    (same_record r k b.0 room acts e v z never)) (refl, refl)
