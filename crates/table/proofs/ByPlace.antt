-- Laws of `all`, `some`, `count` and `first`, of `set` and `map`, each read by place, and of lists counted from 1. Assumes nothing.
use Prim.Native.Nat.{ℕ, zero, suc, ◌+◌, ◌-◌, ◌≤◌, ◌<◌}
use native.Mathlib.Nat.{le_of_suc-le-suc, not-suc-le-zero}
use native.Mathlib.Decide.{ℕ_discrete, dec_lt}
use native.Mathlib.Numerals.{add-one}
use native.Mathlib.Omega.{arith}
use mathlib.Core.Path.{◌≡◌, refl, sym, ap, ap₂, ◌∙◌}
use mathlib.Core.Bool.{Bool, true, false, cond, not, true≢false}
use mathlib.Core.List.{List, [], ◌∷◌, map}
use lib.ListN.{length, get_or, set, get_or-eq_default}
use lib.Dec.{ltb, eqb}
use borrow.Author.Tests.{lt-ltb, ne_eqb}
use lib.Seq.{get_or-set_same, get_or-set_other, set_out}
use Rattle.table.specs.Lists.{all, some, count, first, from_one, put_from_one}
use Rattle.table.proofs.Tests.{two, both, neither, either, or_right, decide}

module _ {A : Type 0} where
  -- what holds of each element, and of what a place past the end reads as, holds at every place
  pub at_all : (P : A → Type 0) (l : List A) (d : A) → P d → ((i : ℕ) → i < length l → P (get_or l i d)) → (i : ℕ) → P (get_or l i d)
  at_all P l d past h i = go (dec_lt i (length l))
    where
      go : Dec (i < length l) → P (get_or l i d)
      go (yes b) = h i b
      go (no n) = rw (get_or-eq_default l d {n = i} (omega arith)) past

  -- `all` is every place's test
  pub all_at : (f : A → Bool) (l : List A) (d : A) (i : ℕ) → i < length l → all f l ≡ true → f (get_or l i d) ≡ true
  all_at f [] d i h e = absurd (not-suc-le-zero h)
  all_at f (x ∷ xs) d zero h e = (two (f x) (all f xs) e).0
  all_at f (x ∷ xs) d (suc i) h e = all_at f xs d i (le_of_suc-le-suc h) (two (f x) (all f xs) e).1

  pub all_of : (f : A → Bool) (l : List A) (d : A) → ((i : ℕ) → i < length l → f (get_or l i d) ≡ true) → all f l ≡ true
  all_of f [] d h = refl
  all_of f (x ∷ xs) d h = both (f x) _ (h 0 (omega arith)) (all_of f xs d (λ i l. h (suc i) (omega arith)))

  -- `some` fails where every place's test does, and passes where one does
  pub none_at : (f : A → Bool) (l : List A) (d : A) (i : ℕ) → i < length l → some f l ≡ false → f (get_or l i d) ≡ false
  none_at f [] d i h e = absurd (not-suc-le-zero h)
  none_at f (x ∷ xs) d zero h e = (neither (f x) (some f xs) e).0
  none_at f (x ∷ xs) d (suc i) h e = none_at f xs d i (le_of_suc-le-suc h) (neither (f x) (some f xs) e).1

  pub some_at : (f : A → Bool) (l : List A) (d : A) (i : ℕ) → i < length l → f (get_or l i d) ≡ true → some f l ≡ true
  some_at f l d i h e = decide (some f l) (λ p. p) (λ p. absurd (true≢false (sym e ∙ none_at f l d i h p)))

  pub none_of : (f : A → Bool) (l : List A) (d : A) → ((i : ℕ) → i < length l → f (get_or l i d) ≡ false) → some f l ≡ false
  none_of f [] d h = refl
  none_of f (x ∷ xs) d h = rw (h 0 (omega arith)) (none_of f xs d (λ i l. h (suc i) (omega arith)))

  pub some_weaken : (f g : A → Bool) (l : List A) → ((x : A) → f x ≡ true → g x ≡ true) → some f l ≡ true → some g l ≡ true
  some_weaken f g [] h e = e
  some_weaken f g (x ∷ xs) h e = either (f x) _ e (λ p. rw (h x p)) (λ p. or_right (g x) _ (some_weaken f g xs h p))

  -- the first that passes, numbered from n + 1 on, stands within the list and passes; where none passes there is none
  pub first_at : (f : A → Bool) (n : ℕ) (l : List A) (d : A) (m : ℕ) → first f (suc n) l ≡ suc m → (i : ℕ) × (m ≡ n + i) × (i < length l) × (f (get_or l i d) ≡ true)
  first_at f n [] d m e = absurd (omega arith)
  first_at f n (x ∷ xs) d m e = decide (f x)
      (λ p. let e' : suc n ≡ suc m = rw p at e in (0, omega arith, omega arith, p))
      (λ p. let r = first_at f (suc n) xs d m (rw p at e) in (suc r.0, omega (arith, r.1), omega (arith, r.2), r.3))

  pub first_none : (f : A → Bool) (n : ℕ) (l : List A) → eqb (first f (suc n) l) 0 ≡ not (some f l)
  first_none f n [] = refl
  first_none f n (x ∷ xs) = decide (f x) (λ p. rw p (ne_eqb (suc n) 0 (λ z. omega arith))) (λ p. rw p (first_none f (suc n) xs))

  -- and the first that passes is the one that no place before does
  pub first_zero : (f : A → Bool) (n : ℕ) (l : List A) (d : A) → ((i : ℕ) → i < length l → f (get_or l i d) ≡ false) → first f n l ≡ 0
  first_zero f n [] d h = refl
  first_zero f n (x ∷ xs) d h = rw (h 0 (omega arith)) (first_zero f (suc n) xs d (λ i l. h (suc i) (omega arith)))

  pub first_is : (f : A → Bool) (n : ℕ) (l : List A) (d : A) (i : ℕ) → i < length l → f (get_or l i d) ≡ true → ((k : ℕ) → k < i → f (get_or l k d) ≡ false) → first f n l ≡ n + i
  first_is f n [] d i h e none = absurd (not-suc-le-zero h)
  first_is f n (x ∷ xs) d zero h e none = rw e (omega arith)
  first_is f n (x ∷ xs) d (suc i) h e none =
      let more : first f (suc n) xs ≡ suc n + i = first_is f (suc n) xs d i (le_of_suc-le-suc h) e (λ k l. none (suc k) (omega arith)) in
      rw (none 0 (omega arith)) (omega (arith, more))

  -- what stands at each place after a `set`: what stood there, but for one place
  pub at_set : (R : ℕ → A → A → Type 0) (l : List A) (i : ℕ) (x d : A) → ((j : ℕ) → R j (get_or l j d) (get_or l j d)) → (i < length l → R i (get_or l i d) x)
      → (j : ℕ) → R j (get_or l j d) (get_or (set l i x) j d)
  at_set R l i x d same new j = go (ℕ_discrete j i)
    where
      go : Dec (j ≡ i) → R j (get_or l j d) (get_or (set l i x) j d)
      go (no n) = rw (get_or-set_other l i j x d n) (same j)
      go (yes e) = rw e (go₂ (dec_lt i (length l)))
        where
          go₂ : Dec (i < length l) → R i (get_or l i d) (get_or (set l i x) i d)
          go₂ (yes h) = rw (get_or-set_same l i x d h) (new h)
          go₂ (no n) = rw (set_out l i x (omega arith)) (same i)

  -- two maps agree where they agree at each place
  pub map_same : {B : Type 0} (f g : A → B) (l : List A) (d : A) → ((i : ℕ) → i < length l → f (get_or l i d) ≡ g (get_or l i d)) → map f l ≡ map g l
  map_same f g [] d h = refl
  map_same f g (x ∷ xs) d h = ap₂ ◌∷◌ (h 0 (omega arith)) (map_same f g xs d (λ i l. h (suc i) (omega arith)))

  pub map_twice : {B C : Type 0} (g : B → C) (f : A → B) (l : List A) → map g (map f l) ≡ map (λ x. g (f x)) l
  map_twice g f [] = refl
  map_twice g f (x ∷ xs) = ap (λ r. g (f x) ∷ r) (map_twice g f xs)

  pub map_id : (l : List A) → map (λ x. x) l ≡ l
  map_id [] = refl
  map_id (x ∷ xs) = ap {B = List A} (λ r. x ∷ r) (map_id xs)

  -- how many pass
  pub count_map : (f : A → Bool) (g : A → A) (l : List A) → count f (map g l) ≡ count (λ x. f (g x)) l
  count_map f g [] = refl
  count_map f g (x ∷ xs) = ap (λ n. cond (f (g x)) 1 0 + n) (count_map f g xs)

  pub count_none : (f : A → Bool) (l : List A) (d : A) → ((i : ℕ) → i < length l → f (get_or l i d) ≡ false) → count f l ≡ 0
  count_none f [] d h = refl
  count_none f (x ∷ xs) d h = rw (h 0 (omega arith), count_none f xs d (λ i l. h (suc i) (omega arith)))

  pub some-count : (f : A → Bool) (l : List A) → some f l ≡ ltb 0 (count f l)
  some-count f [] = refl
  some-count f (x ∷ xs) =
      let none : count f xs ≡ 0 + count f xs = omega arith in
      decide (f x) (λ p. rw p (sym (lt-ltb 0 (1 + count f xs) (omega arith)))) (λ p. rw p (some-count f xs ∙ ap (ltb 0) none))

  pub count_same : (f g : A → Bool) (l : List A) → ((x : A) → f x ≡ g x) → count f l ≡ count g l
  count_same f g [] h = refl
  count_same f g (x ∷ xs) h = rw (h x, count_same f g xs h)

  -- a list counted from 1, by place
  pub from_one_lem : (l : List A) (n : ℕ) (d : A) → 1 ≤ n → from_one l n d ≡ get_or l (n - 1) d
  from_one_lem l zero d h = absurd (omega arith)
  from_one_lem l (suc i) d h = ap (λ (j : ℕ). get_or l j d) (let e : i ≡ suc i - 1 = omega arith in e)

  pub put_from_one_lem : (l : List A) (n : ℕ) (x : A) → 1 ≤ n → put_from_one l n x ≡ set l (n - 1) x
  put_from_one_lem l zero x h = absurd (omega arith)
  put_from_one_lem l (suc i) x h = ap (λ (j : ℕ). set l j x) (let e : i ≡ suc i - 1 = omega arith in e)

  -- and one further than a place
  pub from_next : (l : List A) (i : ℕ) (d : A) → from_one l (i + 1) d ≡ get_or l i d
  from_next l i d = rw add-one

  pub put_next : (l : List A) (i : ℕ) (x : A) → put_from_one l (i + 1) x ≡ set l i x
  put_next l i x = rw add-one
