-- Laws of loops that go along a list. Assumes nothing.
use Prim.Native.Nat.{ℕ, zero, suc, ◌+◌, ◌≤◌, ◌<◌}
use mathlib.Core.Path.{◌≡◌, refl, ap}
use mathlib.Core.Bool.{Bool, true, false, cond}
use mathlib.Core.List.{List, [], ◌∷◌, map}
use native.Mathlib.Nat.{le_of_suc-le-suc}
use native.Mathlib.Numerals.{add-one}
use native.Mathlib.Omega.{arith}
use lib.ListN.{length, get_or, set, drop, drop_of_length-le}
use lib.Seq.{drop-cons}
use Rattle.std.specs.Int.{from_bool}
use Rattle.table.specs.Lists.{count}

-- what is left of the list at i begins with the next element, and is empty past the end
module _ {A : Type 0} (xs : List A) (i : ℕ) where
  pub next : (d : A) → i < length xs → drop i xs ≡ get_or xs i d ∷ drop (i + 1) xs
  next d h = rw (drop-cons xs i d h, add-one)

  pub ended : length xs ≤ i → drop i xs ≡ []
  ended h = drop_of_length-le xs h

-- a loop that counts them: found says how many of the first i pass, with those that are left
module _ {A : Type 0} (f : A → Bool) (xs : List A) (i : ℕ) where
  pub count-step : (found : ℕ) (d : A) (b : Bool) → i < length xs → b ≡ f (get_or xs i d) → found + count f (drop i xs) ≡ (found + from_bool b) + count f (drop (i + 1) xs)
  count-step found d b h e = rw (next xs i d h, ← e) (one b)
    where
      one : (b : Bool) → found + (cond b 1 0 + count f (drop (i + 1) xs)) ≡ (found + from_bool b) + count f (drop (i + 1) xs)
      one true = omega arith
      one false = omega arith

-- a loop that changes the elements one by one: g has been applied to the first i
module _ {A : Type 0} (g : A → A) where
  pub along : ℕ → List A → List A
  along zero xs = xs
  along (suc i) [] = []
  along (suc i) (x ∷ xs) = g x ∷ along i xs

  pub along_none : (xs : List A) → along 0 xs ≡ xs
  unfolding along
  along_none xs = refl

  pub along_length : (i : ℕ) (xs : List A) → length (along i xs) ≡ length xs
  unfolding along
  along_length zero xs = refl
  along_length (suc i) [] = refl
  along_length (suc i) (x ∷ xs) = ap suc (along_length i xs)

  pub along_at : (i : ℕ) (xs : List A) (d : A) → get_or (along i xs) i d ≡ get_or xs i d
  unfolding along
  along_at zero xs d = refl
  along_at (suc i) [] d = refl
  along_at (suc i) (x ∷ xs) d = along_at i xs d

  step : (i : ℕ) (xs : List A) (d : A) → i < length xs → set (along i xs) i (g (get_or xs i d)) ≡ along (suc i) xs
  unfolding along
  step i [] d h = absurd (omega arith)
  step zero (x ∷ xs) d h = refl
  step (suc i) (x ∷ xs) d h = ap (λ (l : List A). g x ∷ l) (step i xs d (le_of_suc-le-suc h))

  pub along_step : (i : ℕ) (xs : List A) (d : A) → i < length xs → set (along i xs) i (g (get_or xs i d)) ≡ along (i + 1) xs
  along_step i xs d h = rw add-one (step i xs d h)

  pub along_all : (i : ℕ) (xs : List A) → length xs ≤ i → along i xs ≡ map g xs
  unfolding along
  along_all zero [] h = refl
  along_all zero (x ∷ xs) h = absurd (omega arith)
  along_all (suc i) [] h = refl
  along_all (suc i) (x ∷ xs) h = ap (λ (l : List A). g x ∷ l) (along_all i xs (le_of_suc-le-suc h))
