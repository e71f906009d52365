-- A field that the reader accepts, typed as text, is read as a step that is written as the same bytes. Assumes nothing.
use Prim.Native.Nat.{ℕ, zero, suc, ◌+◌}
use mathlib.Core.Path.{◌≡◌, sym, ap}
use mathlib.Core.List.{List, [], ◌∷◌}
use native.Mathlib.Omega.{arith}
use lib.ListN.{length}
use lib.Seq.{length-take-le}
use Rattle.schedule.specs.Fields.{Numbers, Step, number, length_of, part, field_at}
use Rattle.schedule.specs.Writing.{field_of, count_of, size_of, list_of, five_of, Outcome}
use Rattle.schedule.proofs.Bytes.{Below, below-take, below-part, number-below}
use Rattle.schedule.proofs.Refusals.{fours}
use Rattle.schedule.proofs.Stands.{Whole, stands}
use Rattle.schedule.proofs.RoundTrip.{none_lost, accepted-bytes, accepted_stays}
use Rattle.lines.specs.Lines.{Step as LineStep, line_of}
use Rattle.lines.specs.Typed.{typed}
use Rattle.lines.proofs.ReadBack.{read_back}

-- five numbers of a body of bytes are numbers of 32 bits
five_below : (body : List ℕ) → Below 256 body → Below 4294967296 (number 4 body 0 ∷ number 4 body 4 ∷ number 4 body 8 ∷ number 4 body 12 ∷ number 4 body 16 ∷ [])
five_below body h zero = number-below body h 4 0
five_below body h (suc zero) = number-below body h 4 4
five_below body h (suc (suc zero)) = number-below body h 4 8
five_below body h (suc (suc (suc zero))) = number-below body h 4 12
five_below body h (suc (suc (suc (suc zero)))) = number-below body h 4 16
five_below body h (suc (suc (suc (suc (suc i))))) = omega arith

module _ (s : List ℕ) (at : ℕ) (bytes : Below 256 s) {tag next : ℕ} {numbers : Numbers} (reads : field_at s at ≡ Step tag numbers next) where
  found : Whole s at tag numbers next
  found = stands s at (sym reads)

  small : Below 4294967296 (list_of tag numbers)
  small =
      let body = part s (at + 3) (length_of tag) in
      rw found.its_numbers (below-take 4294967296 (count_of tag) _ (omega arith) (five_below body (below-part 256 s (at + 3) (length_of tag) (omega arith) bytes)))

  counted : length (list_of tag numbers) ≡ count_of tag
  counted = let f = fours tag in length-take-le (count_of tag) _ (omega arith)

  -- The line that it is typed as is read as a step,
  pub listed_is_read : line_of (typed tag (list_of tag numbers)) ≡ LineStep tag (five_of (list_of tag numbers))
  listed_is_read = read_back tag found.low found.high (list_of tag numbers) small counted

  -- whose numbers are written as the field's own bytes.
  pub listed_is_written : field_of tag (list_of tag (five_of (list_of tag numbers))) ≡ part s at (size_of tag)
  listed_is_written =
      let accepted = ap (λ (o : Outcome). o.kind) (accepted_stays s at bytes reads) in
      rw (none_lost s at tag (list_of tag numbers) accepted) (accepted-bytes s at bytes reads)
