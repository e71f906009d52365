-- Bytes and numbers: the bytes of a number say it, and a number says the bytes that it was read from; the same of a body. Assumes nothing.
use Prim.Native.Nat.{ℕ, zero, suc, ◌+◌, ◌*◌, ◌^◌, ◌/◌, ◌%◌, ◌≤◌, ◌<◌}
use mathlib.Core.Path.{◌≡◌, refl, sym}
use mathlib.Core.List.{List, [], ◌∷◌, ◌++◌, append_assoc}
use native.Mathlib.Nat.{zero-add, add_assoc, pow-suc}
use native.Mathlib.Omega.{arith}
use lib.ListN.{length, get_or, take, drop, length-drop}
use lib.Seq.{get_or-append-add, get_or_at, get_or-drop, take-suc, take-add, drop-drop}
use Rattle.schedule.specs.Fields.{number, part}
use Rattle.schedule.specs.Writing.{bytes_of, body_of}
use Rattle.schedule.proofs.Stores.{length-bytes}

-- every number of a list is below a bound
abbrev pub Below : ℕ → List ℕ → Type 0
Below bound xs = (i : ℕ) → get_or xs i 0 < bound

-- a number behind other bytes
pub number_behind : (n : ℕ) (p q : List ℕ) (k : ℕ) → number n (p ++ q) (length p + k) ≡ number n q k
number_behind zero p q k = refl
number_behind (suc n) p q k = rw (number_behind n p q k, add_assoc, get_or-append-add)

-- the bytes of a number say it
pub number-bytes : (n x : ℕ) (q : List ℕ) → x < 256 ^ n → number n (bytes_of n x ++ q) 0 ≡ x
unfolding bytes_of
number-bytes zero x q h = omega arith
number-bytes (suc n) x q h =
    let l : x / 256 < 256 ^ n = omega (arith, pow-suc 256 n) in
    rw (append_assoc, number-bytes n (x / 256) (x % 256 ∷ q) l, zero-add, get_or_at (bytes_of n (x / 256)) (x % 256) q 0 n (length-bytes n (x / 256)))
    (omega arith)

-- a body says its numbers, and 0 past them
pub number_body : (ns : List ℕ) (i : ℕ) → Below 4294967296 ns → number 4 (body_of ns) (4 * i) ≡ get_or ns i 0
unfolding body_of
number_body [] i h = refl
number_body (x ∷ ns) zero h = number-bytes 4 x (body_of ns) (h 0)
number_body (x ∷ ns) (suc i) h =
    let e : 4 * suc i ≡ length (bytes_of 4 x) + 4 * i = omega (arith, length-bytes 4 x) in
    rw (e, number_behind 4 (bytes_of 4 x) (body_of ns) (4 * i)) (number_body ns i (λ k. h (suc k)))

-- a part, and the part behind it
pub part_add : (s : List ℕ) (at n m : ℕ) → part s at (n + m) ≡ part s at n ++ part s (at + n) m
part_add s at n m = rw (take-add n m (drop at s), drop-drop)

-- a part has bytes where the whole has
pub below-take : (bound n : ℕ) (s : List ℕ) → 0 < bound → Below bound s → Below bound (take n s)
below-take bound zero s z h i = z
below-take bound (suc n) [] z h i = z
below-take bound (suc n) (x ∷ s) z h zero = h 0
below-take bound (suc n) (x ∷ s) z h (suc i) = below-take bound n s z (λ k. h (suc k)) i

pub below-part : (bound : ℕ) (s : List ℕ) (at n : ℕ) → 0 < bound → Below bound s → Below bound (part s at n)
below-part bound s at n z h = below-take bound n (drop at s) z (λ i. rw get_or-drop (h (at + i)))

-- k numbers, read one after another
abbrev pub read_from : List ℕ → (k at : ℕ) → List ℕ
read_from s zero at = []
read_from s (suc k) at = number 4 s at ∷ read_from s k (at + 4)

pub take_read : (s : List ℕ) (k m at : ℕ) → k ≤ m → take k (read_from s m at) ≡ read_from s k at
take_read s zero m at h = refl
take_read s (suc k) zero at h = absurd (omega arith)
take_read s (suc k) (suc m) at h = rw (take_read s k m (at + 4) (omega arith))

-- a number, and a body, say the bytes that they were read from
module _ (s : List ℕ) (bytes : Below 256 s) where
  pub number-below : (n at : ℕ) → number n s at < 256 ^ n
  number-below zero at = omega arith
  number-below (suc n) at =
      let b = bytes (at + n) in
      let l = number-below n at in
      omega (arith, pow-suc 256 n)

  pub bytes-number : (n at : ℕ) → at + n ≤ length s → bytes_of n (number n s at) ≡ part s at n
  unfolding bytes_of
  bytes-number zero at h = refl
  bytes-number (suc n) at h =
      let b = bytes (at + n) in
      let high : (number n s at * 256 + get_or s (at + n) 0) / 256 ≡ number n s at = omega arith in
      let low : (number n s at * 256 + get_or s (at + n) 0) % 256 ≡ get_or s (at + n) 0 = omega arith in
      rw (high, low, bytes-number n at (omega arith), ← get_or-drop at s n 0) (sym (take-suc (drop at s) n 0 (simp length-drop (omega arith))))

  pub body_numbers : (k at : ℕ) → at + 4 * k ≤ length s → body_of (read_from s k at) ≡ part s at (4 * k)
  unfolding body_of
  body_numbers zero at h = refl
  body_numbers (suc k) at h =
      let e : 4 * suc k ≡ 4 + 4 * k = omega arith in
      rw (e, part_add s at 4 (4 * k), bytes-number 4 at (omega arith), body_numbers k (at + 4) (omega arith))
