-- Laws of sums over a list, by place, and of a remainder one further on. Assumes nothing.
use Prim.Native.Nat.{ℕ, zero, suc, ◌+◌, ◌*◌, ◌%◌, ◌≤◌, ◌<◌}
use native.Mathlib.Nat.{le_of_suc-le-suc, not-suc-le-zero, le_refl, suc-mod, mod-eq_of_lt, mod_self, mod-lt, suc-mul}
use native.Mathlib.Numerals.{add-one}
use native.Mathlib.Decide.{dec_lt}
use native.Mathlib.Omega.{arith}
use mathlib.Core.Path.{◌≡◌, refl, ap, ◌∙◌}
use mathlib.Core.Logic.{◌≢◌}
use mathlib.Core.Bool.{Bool, cond}
use mathlib.Core.List.{List, [], ◌∷◌}
use lib.ListN.{length, get_or, set}
use Rattle.table.specs.Lists.{count}
use Rattle.rules.specs.Terms.{sum}

module _ {A : Type 0} where
  -- how many pass is a sum of ones
  pub count-sum : (f : A → Bool) (l : List A) → count f l ≡ sum (λ x. cond (f x) 1 0) l
  count-sum f [] = refl
  count-sum f (x ∷ xs) = ap (λ n. cond (f x) 1 0 + n) (count-sum f xs)

  -- by place
  pub sum_le : (f g : A → ℕ) (l m : List A) (d : A) → length l ≡ length m → ((i : ℕ) → f (get_or l i d) ≤ g (get_or m i d)) → sum f l ≤ sum g m
  sum_le f g [] [] d e h = le_refl _
  sum_le f g [] (y ∷ ys) d e h = absurd (omega arith)
  sum_le f g (x ∷ xs) [] d e h = absurd (omega arith)
  sum_le f g (x ∷ xs) (y ∷ ys) d e h = omega (arith, h 0, sum_le f g xs ys d (omega arith) (λ i. h (suc i)))

  pub sum-set : (f : A → ℕ) (l : List A) (i : ℕ) (x d : A) → i < length l → sum f (set l i x) + f (get_or l i d) ≡ sum f l + f x
  sum-set f [] i x d h = absurd (not-suc-le-zero h)
  sum-set f (y ∷ ys) zero x d h = omega arith
  sum-set f (y ∷ ys) (suc i) x d h = omega (arith, sum-set f ys i x d (le_of_suc-le-suc h))

  pub sum_bound : (f : A → ℕ) (l : List A) (n : ℕ) → ((x : A) → f x ≤ n) → sum f l ≤ length l * n
  sum_bound f [] n h = omega arith
  sum_bound f (x ∷ xs) n h = rw (suc-mul (length xs) n) (omega (arith, h x, sum_bound f xs n h))

  -- a part and the rest of it
  pub sum_split : (f g : A → ℕ) (l : List A) (n : ℕ) → ((x : A) → f x + g x ≡ n) → sum f l + sum g l ≡ length l * n
  sum_split f g [] n h = omega arith
  sum_split f g (x ∷ xs) n h = rw (suc-mul (length xs) n) (omega (arith, h x, sum_split f g xs n h))

-- a number's remainder, one further on: back to 0, or one more
pub data Steps (F m : ℕ) : Type 0 where
  wraps : (m + 1) % F ≡ 0 → m % F + 1 ≡ F → Steps F m
  grows : (m + 1) % F ≢ 0 → (m + 1) % F ≡ m % F + 1 → Steps F m

pub steps : (F m : ℕ) → 0 < F → Steps F m
steps F m h = go (dec_lt (suc (m % F)) F)
  where
    e : (m + 1) % F ≡ suc (m % F) % F
    e = rw add-one (suc-mod m F)

    go : Dec (suc (m % F) < F) → Steps F m
    go (yes l) = let q = e ∙ mod-eq_of_lt l in Steps.grows (λ z. omega arith) (omega arith)
    go (no n) = let q : suc (m % F) ≡ F = omega (arith, mod-lt m h) in Steps.wraps (e ∙ ap (λ (x : ℕ). x % F) q ∙ mod_self F) (omega arith)
