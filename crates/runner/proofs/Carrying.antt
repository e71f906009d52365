-- What is carried out, from an answer on the lent words. Assumes nothing.
use Prim.Native.Nat.{ℕ}
use mathlib.Core.Path.{◌≡◌, refl, sym, ap, ◌∙◌, subst}
use mathlib.Core.Logic.{◌≢◌}
use mathlib.Core.Bool.{true, false}
use mathlib.Core.List.{List, [], ◌∷◌, ◌++◌, map}
use native.Mathlib.Omega.{arith}
use lib.Dec.{eqb}
use lib.ListN.{take, drop}
use borrow.Author.Tests.{eq-eqb, ne_eqb}
use Rattle.table.specs.declared.sizes.Sizes.{Sizes}
use Rattle.table.specs.Words.{sound, state_of}
use Rattle.table.proofs.Tests.{decide}
use Rattle.rules.specs.OnTable.{Result, in_words, fits, open_table}
use Rattle.rules.specs.Calls.{Call, step, tag}
use Rattle.std.specs.Prelude.{Ok, Err}
use Rattle.work.specs.Answers.{Answer, kind_of, told}
use Rattle.work.specs.declared.answers.Reply.{Reply}
use Rattle.work.specs.declared.answers.Reply.TheVariants.{Done, LookAgain}
use Rattle.work.specs.declared.answers.Refusal.{Refusal}
use Rattle.work.specs.declared.answers.Refusal.TheVariants.{Unsound, BadSize, NotThere, WrongPhase, NoSlot, NoBlock, WrongBlock, StillNamed, NoneFree, Exhausted, Unshown}
use Rattle.reclaim.specs.Promises.{PublicCall, promised}
use Rattle.reclaim.specs.Promises.PublicCall.{calls}
use Rattle.reclaim.proofs.Tables.{unsound, on_sound}
use Rattle.schedule.specs.Fields.{Numbers}
use Rattle.schedule.specs.Tags.{tag_number}
use Rattle.schedule.specs.Writing.{five_of}
use Rattle.schedule.specs.declared.Step.{Step}
use Rattle.schedule.specs.declared.tags.Tag.{Tag}
use Rattle.schedule.specs.declared.tags.Tag.TheVariants.{Open}
use Rattle.runner.specs.Running.{Held, held, lent, put_back, carried, ran, step_of, opening, asked}
use Rattle.runner.specs.declared.Ran.{Ran}

-- each tag's step is the call that has this tag
pub of_its_tag : (n : Numbers) → map (λ k. tag (step_of k n)) (2 ∷ 3 ∷ 4 ∷ 5 ∷ 6 ∷ 7 ∷ 8 ∷ 9 ∷ 10 ∷ []) ≡ 2 ∷ 3 ∷ 4 ∷ 5 ∷ 6 ∷ 7 ∷ 8 ∷ 9 ∷ 10 ∷ []
unfolding step_of
of_its_tag n = refl

-- a field of another tag than open's asks for a step
not_one : (t : Tag) → t ≢ Open → eqb (tag_number t) 1 ≡ false
not_one Open other = absurd (other refl)
not_one _ other = refl

pub not_open : (field : Step) → field.tag ≢ Open → asked field ≡ calls (step_of (tag_number field.tag) (five_of field.numbers))
not_open field other = rw (not_one field.tag other)

abbrev answered : Answer → (used : ℕ) → Ran
answered a used = record { answer = a; used = used }

-- a refusal's kind is not 0, and an open that is not refused is done
pub refusal_not_0 : (x : Refusal) → kind_of (Err x) ≡ 0 → ⊥
refusal_not_0 Unsound z = omega arith
refusal_not_0 BadSize z = omega arith
refusal_not_0 NotThere z = omega arith
refusal_not_0 WrongPhase z = omega arith
refusal_not_0 NoSlot z = omega arith
refusal_not_0 NoBlock z = omega arith
refusal_not_0 WrongBlock z = omega arith
refusal_not_0 StillNamed z = omega arith
refusal_not_0 NoneFree z = omega arith
refusal_not_0 Exhausted z = omega arith
refusal_not_0 Unshown z = omega arith

reply_not_2 : (r : Reply) → kind_of (Ok r) ≡ 2 → ⊥
reply_not_2 (Done v) z = omega arith
reply_not_2 LookAgain z = omega arith

pub open_done_is_0 : (t : List ℕ) (T N P F E : ℕ) (r : Reply) {u : List ℕ} → told (Ok r) u ≡ open_table t T N P F E → kind_of (Ok r) ≡ 0
unfolding open_table
open_done_is_0 t T N P F E r e =
    let kind = ap (λ (o : Result). o.kind) e in
    decide (fits t T N P F E) (λ f. kind ∙ rw f refl) (λ f. absurd (reply_not_2 r (kind ∙ rw f refl)))

pub open_ok_is_0 : (t : List ℕ) (T N P F E : ℕ) {a : Answer} {r : Reply} {u : List ℕ} → a ≡ Ok r → told a u ≡ open_table t T N P F E → kind_of a ≡ 0
open_ok_is_0 t T N P F E {r = r} {u = u} e h = ap kind_of e ∙ open_done_is_0 t T N P F E r (subst (λ (z : Answer). told z u ≡ open_table t T N P F E) e h)

pub refused_not_0 : {a : Answer} {x : Refusal} → a ≡ Err x → kind_of a ≡ 0 → ⊥
refused_not_0 {x = x} e z = refusal_not_0 x (ap kind_of (sym e) ∙ z)

-- no words are no table
none_sound : sound [] ≡ false
unfolding sound
none_sound = refl

-- a result on the lent words, put back into the buffer
pub put_back_lem : (h : Held) (c : PublicCall) {r : Result} → r ≡ promised (take (lent h c) h.buffer) c → put_back h c r ≡ carried h c
unfolding carried
put_back_lem h c e = ap (put_back h c) e

module _ (b : List ℕ) (used : ℕ) (a : Answer) (t : List ℕ) where
  -- a step on a sound table
  pub stepped : (c : Call) → sound (take used b) ≡ true → told a t ≡ in_words (step (state_of (take used b)) c) → ran (answered a used) (t ++ drop used b) ≡ carried (held b used) (calls c)
  stepped c s e = put_back_lem (held b used) (calls c) (e ∙ on_sound (take used b) (λ z. step z c) s)

  -- an open, accepted or refused
  module _ (sizes : Sizes) (n : ℕ) (asked : n ≡ lent (held b used) (opening sizes)) (e : told a t ≡ promised (take n b) (opening sizes)) where
    at_lent : put_back (held b used) (opening sizes) (told a t) ≡ carried (held b used) (opening sizes)
    at_lent = put_back_lem (held b used) (opening sizes) (rw asked at e)

    pub accepted : kind_of a ≡ 0 → ran (answered a n) (t ++ drop n b) ≡ carried (held b used) (opening sizes)
    accepted k = rw asked (rw (eq-eqb (kind_of a) 0 k) at at_lent)

    pub refused : kind_of a ≢ 0 → ran (answered a used) (t ++ drop n b) ≡ carried (held b used) (opening sizes)
    refused k = rw asked (rw (ne_eqb (kind_of a) 0 k) at at_lent)

module _ (b : List ℕ) (used : ℕ) where
  -- a step before an accepted open
  pub no_table : (c : Call) → used ≡ 0 → ran (answered (Err Unsound) used) b ≡ carried (held b used) (calls c)
  no_table c z = rw z (put_back_lem (held b 0) (calls c) (unsound [] (λ s. step s c) none_sound))
