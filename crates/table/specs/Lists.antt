-- Tests over a list, the number of elements that pass, the first that passes, and lists whose elements count from 1. Assumes nothing.
use Rattle.std.specs.Prelude.{ℕ, zero, suc, ◌+◌, Bool, true, false, cond, ◌&&◌, ◌||◌, List, [], ◌∷◌, get_or, set}

module _ {A : Type 0} where
  -- every element passes
  abbrev pub all : (A → Bool) → List A → Bool
  all f [] = true
  all f (x ∷ xs) = f x && all f xs

  -- some element passes
  abbrev pub some : (A → Bool) → List A → Bool
  some f [] = false
  some f (x ∷ xs) = f x || some f xs

  -- how many pass
  abbrev pub count : (A → Bool) → List A → ℕ
  count f [] = 0
  count f (x ∷ xs) = cond (f x) 1 0 + count f xs

  -- the number of the first that passes, the elements being numbered from n on; 0 where none does
  abbrev pub first : (A → Bool) → ℕ → List A → ℕ
  first f n [] = 0
  first f n (x ∷ xs) = cond (f x) n (first f (suc n) xs)

  -- element n of a list counted from 1, d where there is none; 0 is none
  abbrev pub from_one : List A → ℕ → A → A
  from_one xs zero d = d
  from_one xs (suc i) d = get_or xs i d

  -- the list with element n put anew, where there is one
  abbrev pub put_from_one : List A → ℕ → A → List A
  put_from_one xs zero x = xs
  put_from_one xs (suc i) x = set xs i x
