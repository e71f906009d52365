-- How many bytes a field has, and its bytes put in their place: a body number by number, a field part by part. Assumes nothing.
use Prim.Native.Nat.{ℕ, zero, suc, ◌+◌, ◌*◌, ◌≤◌, ◌<◌, ◌/◌, ◌%◌}
use mathlib.Core.Path.{◌≡◌, refl, ap, ◌∙◌}
use mathlib.Core.List.{List, [], ◌∷◌, ◌++◌, append_assoc, append-nil}
use native.Mathlib.Numerals.{add-one}
use native.Mathlib.Omega.{arith}
use lib.ListN.{length, get_or, take, drop, length-append, length-drop, drop_of_length-le}
use lib.Seq.{take-suc}
use borrow.Rule.Slice.PartMut.{put_mid}
use Rattle.std.proofs.lemmas.Slice.{take-put_mid}
use Rattle.std.specs.Int.{w16, w32, to_be_bytes}
use Rattle.schedule.specs.Fields.{length_of}
use Rattle.schedule.specs.Writing.{bytes_of, body_of, field_of}

-- how many bytes a number, a body and a field have
pub length-bytes : (n x : ℕ) → length (bytes_of n x) ≡ n
unfolding bytes_of
length-bytes zero x = refl
length-bytes (suc n) x = rw (length-append, length-bytes n (x / 256)) (add-one n)

pub length_body : (ns : List ℕ) → length (body_of ns) ≡ 4 * length ns
unfolding body_of
length_body [] = refl
length_body (x ∷ ns) = rw (length-append, length-bytes, length_body ns) (omega arith)

pub length_field : (tag : ℕ) (ns : List ℕ) → length (field_of tag ns) ≡ 3 + 4 * length ns
unfolding field_of
length_field tag ns = rw (length-append, length-bytes, length_body) (omega arith)

-- the bytes that the library makes of a number of four bytes
pub four_bytes : (x : ℕ) → to_be_bytes w32 x ≡ bytes_of 4 x
unfolding bytes_of
four_bytes x =
    let a : x / 16777216 % 256 ≡ x / 256 / 256 / 256 % 256 = omega arith in
    let b : x / 65536 % 256 ≡ x / 256 / 256 % 256 = omega arith in
    rw (a, b)

body-append : (ns ms : List ℕ) → body_of (ns ++ ms) ≡ body_of ns ++ body_of ms
unfolding body_of
body-append [] ms = refl
body-append (x ∷ ns) ms = rw (body-append ns ms, append_assoc)

-- the number at i, behind those before it
pub body_next : (ns body bytes : List ℕ) (i k : ℕ) → i < length ns → bytes ≡ bytes_of 4 (get_or ns i 0) → k ≡ 4 → 4 * i ≤ length body
    → take (4 * i) body ≡ body_of (take i ns) → take (4 * (i + 1)) (put_mid (4 * i) k body bytes) ≡ body_of (take (i + 1) ns)
unfolding body_of
body_next ns body bytes i k h e f l before =
    let n : 4 * (i + 1) ≡ 4 * i + length bytes = omega (arith, ap length e, length-bytes 4 (get_or ns i 0)) in
    take-put_mid (4 * i) k body bytes _ n l ∙ rw (before, e, add-one i, take-suc ns i 0 h, body-append, append-nil)

-- the tag and the two bytes of the length, and the body behind them
pub field_made : (field bytes : List ℕ) (tag n k : ℕ) (ns : List ℕ) → bytes ≡ to_be_bytes w16 n → n ≡ length_of tag → 4 * length ns ≤ k → length field ≤ 3 + k
    → put_mid 3 k (tag ∷ get_or bytes 0 0 ∷ get_or bytes 1 0 ∷ drop 3 field) (body_of ns) ≡ field_of tag ns
unfolding field_of bytes_of
field_made field bytes tag n k ns e f l m =
    let rest : length (drop 3 field) ≤ k = simp length-drop (omega arith) in
    rw (e, f, drop_of_length-le (drop 3 field) rest, append-nil)
