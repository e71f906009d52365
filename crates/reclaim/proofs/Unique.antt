-- No second answer and table meet a promise: one theorem over the ten steps. Assumes nothing.
use Rattle.std.specs.Prelude.{Ok, Err}
use Prim.Native.Nat.{ℕ}
use mathlib.Core.Path.{◌≡◌, refl, sym, ap, ap₂, ◌∙◌}
use mathlib.Core.Bool.{cond}
use mathlib.Core.List.{List}
use lib.Dec.{eqb}
use Rattle.rules.specs.OnTable.{Result}
use Rattle.work.specs.Answers.{Answer, kind_of, value_of, told}
use Rattle.work.specs.declared.answers.Reply.TheVariants.{Done, LookAgain}
use Rattle.work.specs.declared.answers.Refusal.{Refusal}
use Rattle.work.specs.declared.answers.Refusal.TheVariants.{Unsound, BadSize, NotThere, WrongPhase, NoSlot, NoBlock, WrongBlock, StillNamed, NoneFree, Exhausted, Unshown}
use Rattle.reclaim.specs.Promises.{PublicCall, promised}

-- the answer that a kind and a value say
refusal_of : ℕ → Refusal
refusal_of n =
    cond (eqb n 1) Unsound (cond (eqb n 2) BadSize (cond (eqb n 3) NotThere (cond (eqb n 4) WrongPhase (cond (eqb n 5) NoSlot
    (cond (eqb n 6) NoBlock (cond (eqb n 7) WrongBlock (cond (eqb n 8) StillNamed (cond (eqb n 9) NoneFree (cond (eqb n 10) Exhausted Unshown)))))))))

answer_of : (kind value : ℕ) → Answer
answer_of kind value = cond (eqb kind 0) (Ok (Done value)) (cond (eqb kind 11) (Ok LookAgain) (Err (refusal_of kind)))

answer_back : (a : Answer) → answer_of (kind_of a) (value_of a) ≡ a
unfolding answer_of refusal_of
answer_back (Ok (Done value)) = refl
answer_back (Ok LookAgain) = refl
answer_back (Err Unsound) = refl
answer_back (Err BadSize) = refl
answer_back (Err NotThere) = refl
answer_back (Err WrongPhase) = refl
answer_back (Err NoSlot) = refl
answer_back (Err NoBlock) = refl
answer_back (Err WrongBlock) = refl
answer_back (Err StillNamed) = refl
answer_back (Err NoneFree) = refl
answer_back (Err Exhausted) = refl
answer_back (Err Unshown) = refl

-- two answers with the same kind and value are the same answer
same_answer : (a b : Answer) → kind_of a ≡ kind_of b → value_of a ≡ value_of b → a ≡ b
same_answer a b k v = sym (answer_back a) ∙ ap₂ answer_of k v ∙ answer_back b

-- whatever the call and the words it was lent, two answers with the words left that both meet its promise are the same
pub only_one : (t : List ℕ) (c : PublicCall) (a b : Answer) (u v : List ℕ) → told a u ≡ promised t c → told b v ≡ promised t c → (a ≡ b) × (u ≡ v)
only_one t c a b u v p q =
    let e : told a u ≡ told b v = p ∙ sym q in
    (same_answer a b (ap (λ (r : Result). r.kind) e) (ap (λ (r : Result). r.value) e), ap (λ (r : Result). r.table) e)
