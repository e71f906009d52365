-- The numbers of a step, one after another. Assumes nothing.
use Prim.Native.Nat.{ℕ, zero, suc, ◌-◌, ◌≤◌}
use native.Mathlib.Omega.{arith}
use mathlib.Core.Path.{◌≡◌, refl, sym, ap}
use mathlib.Core.List.{List, [], ◌∷◌, ◌++◌, append-nil}
use lib.ListN.{length, get_or, take, replicate}
use Rattle.schedule.specs.Writing.{five_of}
use Rattle.lines.specs.Words.{first_word, after_word}
use Rattle.lines.specs.Values.{Value, NoValue, NotAll, next_number, Numbered, are, wrong, before, numbers_from, told}
use Rattle.lines.proofs.Cases.{no_more, too_many}

-- numbers before those that follow
abbrev pub prepend : List ℕ → Numbered → Numbered
prepend [] more = more
prepend (v ∷ vs) more = before (Value v) (prepend vs more)

prepend-push : (vs : List ℕ) (v : ℕ) (more : Numbered) → prepend (vs ++ (v ∷ [])) more ≡ prepend vs (before (Value v) more)
prepend-push [] v more = refl
prepend-push (x ∷ vs) v more = ap (before (Value x)) (prepend-push vs v more)

prepend_are : (vs ws : List ℕ) → prepend vs (are ws) ≡ are (vs ++ ws)
prepend_are [] ws = refl
prepend_are (v ∷ vs) ws = rw (prepend_are vs ws)

prepend_wrong : (vs : List ℕ) (what : ℕ) → prepend vs (wrong what) ≡ wrong what
prepend_wrong [] what = refl
prepend_wrong (v ∷ vs) what = rw (prepend_wrong vs what)

-- the first of some numbers, before those that follow it
one_by_one : (count : ℕ) (s : List ℕ) → (count ≡ 0 → ⊥) → numbers_from count s ≡ before (next_number s) (numbers_from (count - 1) (after_word s))
unfolding numbers_from
one_by_one zero s some = absurd (some refl)
one_by_one (suc n) s some = let e : suc n - 1 ≡ n = omega arith in rw e

-- no numbers are 0 from a place on
abbrev pub ZeroFrom : ℕ → List ℕ → Type 0
ZeroFrom n numbers = (k : ℕ) → n ≤ k → get_or numbers k 0 ≡ 0

pub zeros : (n : ℕ) → ZeroFrom 0 (replicate n 0)
zeros zero k h = refl
zeros (suc n) zero h = refl
zeros (suc n) (suc k) h = zeros n k (omega arith)

-- so that the first ones are all
cut : (numbers : List ℕ) (n k : ℕ) → ZeroFrom n numbers → get_or (take n numbers) k 0 ≡ get_or numbers k 0
cut numbers zero k h = sym (h k (omega arith))
cut [] (suc n) k h = refl
cut (x ∷ numbers) (suc n) zero h = refl
cut (x ∷ numbers) (suc n) (suc k) h = cut numbers n k (λ j l. h (suc j) (omega arith))

-- the numbers read so far, before the n of the text that is left
pub record SoFar (whole : Numbered) (vs : List ℕ) (n : ℕ) (left : List ℕ) : Type 0 where
  pub same : whole ≡ prepend vs (numbers_from n left)

module _ {whole : Numbered} {vs : List ℕ} {n : ℕ} {left : List ℕ} (so_far : SoFar whole vs n left) where
  pub wrong_at : (n ≡ 0 → ⊥) → {what : ℕ} → NoValue what ≡ next_number left → NotAll what ≡ told whole
  wrong_at some {what} e = rw (so_far.same, one_by_one n left some, ← e, prepend_wrong vs what)

  pub one_on : (n ≡ 0 → ⊥) → {v m : ℕ} {rest : List ℕ} → Value v ≡ next_number left → rest ≡ after_word left → m ≡ n - 1
      → SoFar whole (vs ++ (v ∷ [])) m rest
  one_on some {v} {m} {rest} e after less = record { same = rw (so_far.same, one_by_one n left some, ← e, after, less, prepend-push) }

  module _ (end : n ≡ 0) {word : List ℕ} (is : word ≡ first_word left) where
    pub one_too_many : (length word ≡ 0 → ⊥) → NotAll 5 ≡ told whole
    one_too_many some = rw (so_far.same, end, too_many left is some, prepend_wrong vs 5)

    pub all_read : length word ≡ 0 → whole ≡ are vs
    all_read none = rw (so_far.same, end, no_more left is none, prepend_are vs [], append-nil)

-- as five, 0 for those that were not read
pub five_read : (numbers : List ℕ) (n : ℕ) → ZeroFrom n numbers → five_of numbers ≡ five_of (take n numbers)
five_read numbers n h = rw (cut numbers n 0 h, cut numbers n 1 h, cut numbers n 2 h, cut numbers n 3 h, cut numbers n 4 h)
