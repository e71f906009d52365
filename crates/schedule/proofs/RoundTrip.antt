-- What is written reads back as the same step, every field that the reader accepts is what would be written for it, and bytes outside the field
-- stay. Assumes nothing.
use Prim.Native.Nat.{ℕ, ◌+◌, ◌-◌, ◌*◌, ◌≤◌}
use mathlib.Core.Path.{◌≡◌, refl, sym, ap, ◌∙◌}
use mathlib.Core.List.{List, [], ◌∷◌, ◌++◌, append_assoc}
use native.Mathlib.Nat.{add_assoc}
use native.Mathlib.Omega.{arith}
use lib.ListN.{length, get_or, take, drop, length-append, length-drop, take-append-drop}
use lib.Seq.{get_or-append_seam, take_at, drop_at, drop-append-add, length-take-le, take_all, take-add, drop-cons}
use Rattle.schedule.specs.Fields.{Numbers, Step, length_of, number, numbers_of, left, part, fault_kind, field_at}
use Rattle.schedule.specs.Writing.{bytes_of, body_of, field_of, count_of, size_of, list_of, five_of, Outcome, outcome, placed, field_write}
use Rattle.schedule.proofs.Bytes.{Below, number_behind, number-bytes, number_body, part_add, below-part, take_read, bytes-number, body_numbers}
use Rattle.schedule.proofs.Faults as faults
use Rattle.schedule.proofs.Refusals.{fours, allowed, none}
use Rattle.schedule.proofs.Stands.{stands, whole, Whole}
use Rattle.schedule.proofs.Stores.{length-bytes, length_body, length_field}
use Rattle.schedule.proofs.Writes.{its_kind, inside, made, by_kind}

-- a field between other bytes, p before it and q behind it
module _ (p : List ℕ) (tag : ℕ) (ns q : List ℕ) {at : ℕ} (place : length p ≡ at) (counted : 4 * length ns ≡ length_of tag) where
  abbrev t : List ℕ
  t = p ++ field_of tag ns ++ q

  abbrev tail : List ℕ
  tail = bytes_of 2 (length_of tag) ++ (body_of ns ++ q)

  -- the same bytes, from the tag on
  split : t ≡ p ++ (tag ∷ tail)
  unfolding field_of
  split = rw (append_assoc p (field_of tag ns) q, append_assoc (bytes_of 2 (length_of tag)) (body_of ns) q)

  size_there : length t ≡ at + size_of tag + length q
  size_there = rw (length-append, length-append, length_field) (omega arith)

  tag_there : get_or t at 0 ≡ tag
  tag_there = rw (split, ← place) (get_or-append_seam p tag tail 0)

  length_there : number 2 t (at + 1) ≡ length_of tag
  length_there =
      rw (split, ← place) (number_behind 2 p (tag ∷ tail) 1 ∙ number_behind 2 (tag ∷ []) tail 0
      ∙ number-bytes 2 (length_of tag) (body_of ns ++ q) (omega (arith, (fours tag).most)))

  body_there : part t (at + 3) (length_of tag) ≡ body_of ns
  body_there =
      rw (split, ← place, drop-append-add p (tag ∷ tail) 3, drop_at (bytes_of 2 (length_of tag)) (body_of ns ++ q) 2 (length-bytes 2 (length_of tag)))
      (take_at (body_of ns) q (length_of tag) (length_body ns ∙ counted))

  five_said : Below 4294967296 ns → five_of ns ≡ numbers_of (body_of ns)
  five_said h = rw (number_body ns 0 h, number_body ns 1 h, number_body ns 2 h, number_body ns 3 h, number_body ns 4 h)

  read_there : Below 4294967296 ns → (length_of tag ≡ 0 → ⊥) → field_at t at ≡ Step tag (five_of ns) (at + size_of tag)
  read_there below known =
      let n = length_of tag in
      let l = size_there in
      let m : at + 3 + n - (at + 3) ≡ n = omega arith in
      let asked : n ≡ length_of (get_or t at 0) = rw tag_there in
      let found : 0 ≡ fault_kind t at n = faults.none t at n (omega arith) known length_there (omega arith) in
      let read : Step (get_or t at 0) (five_of ns) (at + 3 + n) ≡ field_at t at = whole t at (omega arith) asked found refl (rw (m, body_there) (five_said below)) in
      sym read ∙ rw (tag_there, add_assoc at 3 n)

-- WRITTEN AND READ. What an accepted write leaves reads back as the same step: its tag, its numbers, and the write's value as the place after it;
pub written_reads_back : (b : List ℕ) (at tag : ℕ) (ns : List ℕ) → Below 4294967296 ns → (field_write b at tag ns).kind ≡ 0
    → field_at (field_write b at tag ns).buffer at ≡ Step tag (five_of ns) (field_write b at tag ns).value
written_reads_back b at tag ns below accepted =
    let z = its_kind b at tag ns ∙ accepted in
    let i = inside b at tag ns z in
    rw (made b at tag ns z)
    (read_there (take at b) tag ns _ (length-take-le at b (omega arith)) i.1 below (allowed tag (length ns) (left b at) z).known)

-- and these five numbers are all that were written
pub none_lost : (b : List ℕ) (at tag : ℕ) (ns : List ℕ) → (field_write b at tag ns).kind ≡ 0 → list_of tag (five_of ns) ≡ ns
none_lost b at tag ns accepted =
    let f = allowed tag (length ns) (left b at) (its_kind b at tag ns ∙ accepted) in
    let k = (fours tag).most in
    rw (← f.counted) (five_back ns (omega arith))
  where
    five_back : (xs : List ℕ) → length xs ≤ 5 → take (length xs) (get_or xs 0 0 ∷ get_or xs 1 0 ∷ get_or xs 2 0 ∷ get_or xs 3 0 ∷ get_or xs 4 0 ∷ []) ≡ xs
    five_back [] h = refl
    five_back (_ ∷ []) h = refl
    five_back (_ ∷ _ ∷ []) h = refl
    five_back (_ ∷ _ ∷ _ ∷ []) h = refl
    five_back (_ ∷ _ ∷ _ ∷ _ ∷ []) h = refl
    five_back (_ ∷ _ ∷ _ ∷ _ ∷ _ ∷ []) h = refl
    five_back (_ ∷ _ ∷ _ ∷ _ ∷ _ ∷ _ ∷ _) h = absurd (omega arith)

-- what the reader accepts at a place
module _ (s : List ℕ) (at : ℕ) (bytes : Below 256 s) {tag next : ℕ} {numbers : Numbers} (reads : field_at s at ≡ Step tag numbers next) where
  found : Whole s at tag numbers next
  found = stands s at (sym reads)

  body_said : body_of (list_of tag numbers) ≡ part s (at + 3) (length_of tag)
  body_said =
      let n = length_of tag in
      let w = found in
      let f = fours tag in
      let body = part s (at + 3) n in
      let l : length body ≡ n = length-take-le n (drop (at + 3) s) (simp length-drop (omega arith)) in
      rw (w.its_numbers, take_read body (count_of tag) 5 0 (omega arith))
      (body_numbers body (below-part 256 s (at + 3) n (omega arith) bytes) (count_of tag) 0 (omega arith)
      ∙ ap (λ (k : ℕ). take k body) f.whole ∙ take_all n body (omega arith))

  -- the bytes of a field that is accepted are those of its tag and its numbers
  pub accepted-bytes : field_of tag (list_of tag numbers) ≡ part s at (size_of tag)
  unfolding field_of
  accepted-bytes =
      let n = length_of tag in
      let w = found in
      let first : tag ∷ [] ≡ part s at 1 = rw (drop-cons s at 0 (omega arith)) (ap (λ (x : ℕ). x ∷ []) w.its_tag) in
      let second : bytes_of 2 n ≡ part s (at + 1) 2 = ap (bytes_of 2) (sym w.said) ∙ bytes-number s bytes 2 (at + 1) (omega arith) in
      rw (second, body_said, part_add s at 3 n, part_add s at 1 2, ← first)

  -- READ AND WRITTEN. The same bytes are written for it into any buffer with room,
  pub accepted_is_written : (b : List ℕ) (place : ℕ) → place + size_of tag ≤ length b
      → field_write b place tag (list_of tag numbers) ≡ outcome 0 (place + size_of tag) (placed b place (part s at (size_of tag)))
  accepted_is_written b place room =
      let f = fours tag in
      let l : length (list_of tag numbers) ≡ count_of tag = length-take-le (count_of tag) _ (omega arith) in
      let z = none tag (length (list_of tag numbers)) (left b place) found.known l (omega arith) in
      made b place tag (list_of tag numbers) (sym z) ∙ rw accepted-bytes

  -- and writing it where it stands leaves the buffer as it is
  pub accepted_stays : field_write s at tag (list_of tag numbers) ≡ outcome 0 next s
  accepted_stays =
      let w = found in
      let v : at + size_of tag ≡ next = omega arith in
      let l : length (part s at (size_of tag)) ≡ size_of tag = length-take-le (size_of tag) (drop at s) (simp length-drop (omega arith)) in
      accepted_is_written s at (omega arith) ∙ rw (l, ← take-add at (size_of tag) s, take-append-drop (at + size_of tag) s, v)

-- what stays of a buffer around bytes from a place to an end: its length, what is before them, and what is behind
pub record Stays (b after : List ℕ) (at end : ℕ) : Type 0 where
  pub long : length after ≡ length b
  pub before : take at after ≡ take at b
  pub behind : drop end after ≡ drop end b

around : (b : List ℕ) (at : ℕ) (bytes : List ℕ) {end : ℕ} → at + length bytes ≡ end → end ≤ length b → Stays b (placed b at bytes) at end
around b at bytes {end} e h =
    let p = take at b in
    let q = drop (at + length bytes) b in
    let l : length p ≡ at = length-take-le at b (omega arith) in
    let m : length (p ++ bytes) ≡ end = rw length-append (omega arith) in
    record {
      long = rw (length-append, m, e, length-drop) (omega arith);
      before = rw append_assoc (take_at p (bytes ++ q) at l);
      behind = drop_at (p ++ bytes) q end m ∙ rw e;
    }

-- BYTES OUTSIDE THE FIELD STAY, whatever a write answers.
module _ (b : List ℕ) (at tag : ℕ) (ns : List ℕ) where
  pub outside_stays : Stays b (field_write b at tag ns).buffer at (at + size_of tag)
  outside_stays =
      by_kind b at tag ns (λ (o : Outcome). Stays b o.buffer at (at + size_of tag))
      (λ z. let i = inside b at tag ns z in around b at (field_of tag ns) (omega (arith, length_field tag ns)) i.0)
      (λ _. record { long = refl; before = refl; behind = refl })

  -- A REFUSAL has the value 0, and writes nothing.
  pub refusal_writes_nothing : ((field_write b at tag ns).kind ≡ 0 → ⊥) → ((field_write b at tag ns).value ≡ 0) × ((field_write b at tag ns).buffer ≡ b)
  refusal_writes_nothing =
      by_kind b at tag ns (λ (o : Outcome). (o.kind ≡ 0 → ⊥) → (o.value ≡ 0) × (o.buffer ≡ b)) (λ z d. absurd (d refl)) (λ _ _. (refl, refl))

  -- The value is a place of the buffer that is left, or its end.
  pub value-within : {kind value : ℕ} {after : List ℕ} → outcome kind value after ≡ field_write b at tag ns → value ≤ length after
  value-within e =
      let v : (field_write b at tag ns).value ≤ length b = by_kind b at tag ns (λ (o : Outcome). o.value ≤ length b) (λ z. (inside b at tag ns z).0) (λ _. omega arith) in
      omega (arith, ap (λ (o : Outcome). o.value) e, ap (λ (o : Outcome). length o.buffer) e, outside_stays.long)
