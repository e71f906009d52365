-- Records of w words each that lie one after another: read by place, stored by place, read back as they were written. Stated once, over
-- the width. Assumes nothing.
use Prim.Native.Nat.{ℕ, zero, suc, ◌+◌, ◌*◌, ◌≤◌, ◌<◌}
use mathlib.Core.Path.{◌≡◌, refl, sym, ap, ◌∙◌}
use mathlib.Core.List.{List, [], ◌∷◌, ◌++◌, append_assoc}
use native.Mathlib.Nat.{add-zero, add-suc, suc-add, zero-add, add_comm, mul-zero, mul-suc, le_of_suc-le-suc, mul-le-mul_left}
use native.Mathlib.Omega.{arith}
use lib.ListN.{length, get_or, take, drop, set, length-append, length-set}
use lib.Seq.{sets, sets-eq, set-append_left, drop_at, drop-drop, take-add}
use Rattle.table.specs.Words.{flat, read_from}

module _ {A : Type 0} where
  -- stores right of a seam, and left of it
  set_right : (p q : List A) (i : ℕ) (v : A) → set (p ++ q) (length p + i) v ≡ p ++ set q i v
  set_right [] q i v = rw zero-add
  set_right (x ∷ p) q i v = rw suc-add (ap (λ (l : List A). x ∷ l) (set_right p q i v))

  sets_right : (p q : List A) (i : ℕ) (vs : List A) → sets (p ++ q) (length p + i) vs ≡ p ++ sets q i vs
  sets_right p q i [] = refl
  sets_right p q i (v ∷ vs) = rw (set_right, ← add-suc) (sets_right p (set q i v) (suc i) vs)

  sets-left : (p q : List A) (i : ℕ) (vs : List A) → i + length vs ≤ length p → sets (p ++ q) i vs ≡ sets p i vs ++ q
  sets-left p q i [] h = refl
  sets-left p q i (v ∷ vs) h =
      let l : i < length p = omega arith in
      rw (set-append_left p q i v l) (sets-left (set p i v) q (suc i) vs (simp length-set (omega arith)))

-- written by f
module _ {A : Type 0} (f : A → List ℕ) (w : ℕ) (wide : (x : A) → length (f x) ≡ w) where
  pub length-flat : (xs : List A) → length (flat f xs) ≡ w * length xs
  length-flat [] = rw mul-zero
  length-flat (x ∷ xs) = rw (length-append, wide, length-flat xs, mul-suc) (add_comm _ _)

  -- storing the words of one is putting it anew
  flat-set : (xs : List A) (i : ℕ) (x : A) → i < length xs → sets (flat f xs) (w * i) (f x) ≡ flat f (set xs i x)
  flat-set [] i x h = absurd (omega arith)
  flat-set (y ∷ ys) zero x h =
      let r : length (f x) ≤ length (f y ++ flat f ys) = omega (arith, length-append (f y) (flat f ys), wide x, wide y) in
      rw (mul-zero, sets-eq (f x) (f y ++ flat f ys) 0 (omega arith), zero-add, drop_at (f y) (flat f ys) (length (f x)) (wide y ∙ sym (wide x)))
  flat-set (y ∷ ys) (suc i) x h =
      let e : w * suc i ≡ length (f y) + w * i = omega (arith, mul-suc w i, wide y) in
      rw (e, sets_right) (ap (λ (l : List ℕ). f y ++ l) (flat-set ys i x (le_of_suc-le-suc h)))

  -- the store law: the same between other words, n of them before
  pub put_in : (p : List ℕ) (xs : List A) (q : List ℕ) (n i : ℕ) (x : A) → length p ≡ n → i < length xs
      → sets (p ++ (flat f xs ++ q)) (n + w * i) (f x) ≡ p ++ (flat f (set xs i x) ++ q)
  put_in p xs q n i x e h =
      let m : w * i + w ≤ w * length xs = omega (arith, mul-suc w i, mul-le-mul_left w h) in
      rw (← e, sets_right, sets-left (flat f xs) q (w * i) (f x) (omega (arith, wide x, length-flat xs)), flat-set xs i x h)

-- read by g
module _ {A : Type 0} (g : List ℕ → ℕ → A) (w : ℕ) where
  pub length_read : (t : List ℕ) (at n : ℕ) → length (read_from g w t at n) ≡ n
  length_read t at zero = refl
  length_read t at (suc n) = ap suc (length_read t (at + w) n)

  -- the read law: what is read at i
  pub read_at : (t : List ℕ) (at n i : ℕ) (d : A) → i < n → get_or (read_from g w t at n) i d ≡ g t (at + w * i)
  read_at t at zero i d h = absurd (omega arith)
  read_at t at (suc n) zero d h = rw (mul-zero, add-zero)
  read_at t at (suc n) (suc i) d h =
      let e : at + w * suc i ≡ at + w + w * i = omega (arith, mul-suc w i) in
      rw e (read_at t (at + w) n i d (le_of_suc-le-suc h))

module _ {A : Type 0} (f : A → List ℕ) (g : List ℕ → ℕ → A) (w : ℕ) where
  -- what was written is read back
  pub read_flat : (wide : (x : A) → length (f x) ≡ w) (back : (p : List ℕ) (x : A) (q : List ℕ) → g (p ++ (f x ++ q)) (length p) ≡ x)
      (p : List ℕ) (xs : List A) (q : List ℕ) → read_from g w (p ++ (flat f xs ++ q)) (length p) (length xs) ≡ xs
  read_flat wide back p [] q = refl
  read_flat wide back p (x ∷ xs) q =
      let whole : p ++ (flat f (x ∷ xs) ++ q) ≡ p ++ (f x ++ (flat f xs ++ q)) = ap (λ (l : List ℕ). p ++ l) (append_assoc (f x) (flat f xs) q) in
      let e : length p + w ≡ length (p ++ f x) = omega (arith, length-append p (f x), wide x) in
      let first : g (p ++ (flat f (x ∷ xs) ++ q)) (length p) ≡ x = rw whole (back p x (flat f xs ++ q)) in
      let rest : read_from g w (p ++ (flat f (x ∷ xs) ++ q)) (length p + w) (length xs) ≡ xs =
      rw (whole, e, ← append_assoc p (f x) (flat f xs ++ q)) (read_flat wide back (p ++ f x) xs q) in
      rw first (ap (λ (l : List A). x ∷ l) rest)

  -- what is read says the words it was read from
  pub flat_read : (t : List ℕ) (forth : (at : ℕ) → at + w ≤ length t → f (g t at) ≡ take w (drop at t))
      (at n : ℕ) → at + w * n ≤ length t → flat f (read_from g w t at n) ≡ take (w * n) (drop at t)
  flat_read t forth at zero h = rw mul-zero
  flat_read t forth at (suc n) h =
      let e : w * suc n ≡ w + w * n = omega (arith, mul-suc w n) in
      let h' : at + w + w * n ≤ length t = omega arith in
      rw (e, take-add, drop-drop, forth at (omega arith), flat_read t forth (at + w) n h')
