-- No second answer meets what `field_at` and `write_field` promise. Assumes nothing.
use Prim.Native.Nat.{ℕ, ◌-◌}
use mathlib.Core.Path.{◌≡◌, refl, sym, ap, ◌∙◌}
use mathlib.Core.Bool.{cond}
use mathlib.Core.List.{List, [], ◌∷◌}
use native.Mathlib.Omega.{arith}
use lib.Dec.{eqb}
use lib.ListN.{length}
use Rattle.std.specs.Prelude.{Option, Some, None, Result, Ok, Err}
use Rattle.std.specs.List.{slice_get}
use Rattle.std.proofs.lemmas.Option.{same_Some}
use Rattle.schedule.specs.declared.FaultKind.{FaultKind}
use Rattle.schedule.specs.declared.FaultKind.TheVariants.{CutShort, UnknownTag, OtherLength}
use Rattle.schedule.specs.declared.Fault.{Fault as ReadFault}
use Rattle.schedule.specs.declared.Read.{Read}
use Rattle.schedule.specs.declared.tags.Tag.{Tag}
use Rattle.schedule.specs.declared.tags.Tag.TheVariants.{Open, Start, Look, Settle, Make, Swap, Retire, Sweep, End, Tally}
use Rattle.schedule.specs.declared.tags.TheConstants.Tag.{ALL}
use Rattle.schedule.specs.declared.writing.WriteRefusal.{WriteRefusal}
use Rattle.schedule.specs.declared.writing.WriteRefusal.TheVariants as refusals
use Rattle.schedule.specs.Fields.{Numbers}
use Rattle.schedule.specs.Tags.{tag_number}
use Rattle.schedule.specs.Said.{fault_number, refusal_number, said, FaultAt, written}
use Rattle.schedule.specs.Writing.{five_of, Outcome}

-- what a number names: a tag, a kind of fault, a refusal to write
tag_back : (tag : Tag) → slice_get ALL (tag_number tag - 1) ≡ Some tag
tag_back Open = refl
tag_back Start = refl
tag_back Look = refl
tag_back Settle = refl
tag_back Make = refl
tag_back Swap = refl
tag_back Retire = refl
tag_back Sweep = refl
tag_back End = refl
tag_back Tally = refl

kind_of : ℕ → FaultKind
kind_of n = cond (eqb n 21) CutShort (cond (eqb n 22) UnknownTag OtherLength)

kind_back : (kind : FaultKind) → kind_of (fault_number kind) ≡ kind
unfolding kind_of
kind_back CutShort = refl
kind_back UnknownTag = refl
kind_back OtherLength = refl

refusal_of : ℕ → WriteRefusal
refusal_of n = cond (eqb n 22) refusals.UnknownTag (cond (eqb n 23) refusals.OtherCount refusals.NoRoom)

refusal_back : (refusal : WriteRefusal) → refusal_of (refusal_number refusal) ≡ refusal
unfolding refusal_of
refusal_back refusals.UnknownTag = refl
refusal_back refusals.OtherCount = refl
refusal_back refusals.NoRoom = refl

pub one_tag : (a b : Tag) → tag_number a ≡ tag_number b → a ≡ b
one_tag a b e = same_Some a b (sym (tag_back a) ∙ ap (λ (n : ℕ). slice_get ALL (n - 1)) e ∙ tag_back b)

pub one_kind : (a b : FaultKind) → fault_number a ≡ fault_number b → a ≡ b
one_kind a b e = sym (kind_back a) ∙ ap kind_of e ∙ kind_back b

pub one_refusal : (a b : WriteRefusal) → refusal_number a ≡ refusal_number b → a ≡ b
one_refusal a b e = sym (refusal_back a) ∙ ap refusal_of e ∙ refusal_back b

-- five numbers make one list of five
pub one_five : (xs ys : List ℕ) → length xs ≡ 5 → length ys ≡ 5 → five_of xs ≡ five_of ys → xs ≡ ys
one_five (a ∷ b ∷ c ∷ d ∷ e ∷ []) (u ∷ v ∷ w ∷ x ∷ y ∷ []) h k s =
    let p : a ≡ u = ap (λ (n : Numbers). n.first) s in
    let q : b ≡ v = ap (λ (n : Numbers). n.second) s in
    let r : c ≡ w = ap (λ (n : Numbers). n.third) s in
    let t : d ≡ x = ap (λ (n : Numbers). n.fourth) s in
    let l : e ≡ y = ap (λ (n : Numbers). n.fifth) s in
    cc
one_five xs ys h k s = absurd (omega arith)

-- a read step has five numbers
abbrev Five : Option (Result Read ReadFault) → Type 0
Five (Some (Ok read)) = length read.step.numbers ≡ 5
Five (Some (Err fault)) = Unit {0}
Five None = Unit {0}

abbrev made : Tag → List ℕ → (next : ℕ) → Read
made tag numbers next = record { step = record { tag = tag; numbers = numbers }; next = next }

same_read : {t u : Tag} {ns ms : List ℕ} {n m : ℕ} → t ≡ u → ns ≡ ms → n ≡ m → made t ns n ≡ made u ms m
same_read a b c = rw (a, b, c)

abbrev faulty : FaultKind → (tag place : ℕ) → ReadFault
faulty kind tag place = record { kind = kind; tag = tag; place = place }

same_fault : {j k : FaultKind} {t u p q : ℕ} → j ≡ k → t ≡ u → p ≡ q → faulty j t p ≡ faulty k u q
same_fault a b c = rw (a, b, c)

-- what is found at a place
pub one_found : (at : ℕ) (a b : Option (Result Read ReadFault)) → Five a → Five b → said a ≡ said b → FaultAt at a → FaultAt at b → a ≡ b
one_found at None None h k e p q = refl
one_found at None (Some (Ok y)) h k e p q = cc
one_found at None (Some (Err y)) h k e p q = cc
one_found at (Some (Ok x)) None h k e p q = cc
one_found at (Some (Err x)) None h k e p q = cc
one_found at (Some (Ok x)) (Some (Err y)) h k e p q = cc
one_found at (Some (Err x)) (Some (Ok y)) h k e p q = cc
one_found at (Some (Ok x)) (Some (Ok y)) h k e p q =
    let t : tag_number x.step.tag ≡ tag_number y.step.tag = cc in
    let n : five_of x.step.numbers ≡ five_of y.step.numbers = cc in
    let behind : x.next ≡ y.next = cc in
    ap (λ (r : Read). Some (Ok r)) (same_read (one_tag _ _ t) (one_five _ _ h k n) behind)
one_found at (Some (Err x)) (Some (Err y)) h k e p q =
    let t : fault_number x.kind ≡ fault_number y.kind = cc in
    let b : x.tag ≡ y.tag = cc in
    ap (λ (f : ReadFault). Some (Err f)) (same_fault (one_kind _ _ t) b (p ∙ sym q))

-- what a write answers and leaves
refused : (refusal : WriteRefusal) → refusal_number refusal ≡ 0 → ⊥
refused refusals.UnknownTag e = omega arith
refused refusals.OtherCount e = omega arith
refused refusals.NoRoom e = omega arith

pub one_written : (a b : Result ℕ WriteRefusal) (l m : List ℕ) → written a l ≡ written b m → (a ≡ b) × (l ≡ m)
one_written (Ok x) (Ok y) l m e = (ap Ok (ap (λ (o : Outcome). o.value) e), ap (λ (o : Outcome). o.buffer) e)
one_written (Ok x) (Err y) l m e = absurd (refused y (sym (ap (λ (o : Outcome). o.kind) e)))
one_written (Err x) (Ok y) l m e = absurd (refused x (ap (λ (o : Outcome). o.kind) e))
one_written (Err x) (Err y) l m e = (ap Err (one_refusal x y (ap (λ (o : Outcome). o.kind) e)), ap (λ (o : Outcome). o.buffer) e)
