-- What a write answers and leaves, from its kind. Assumes nothing.
use Prim.Native.Nat.{ℕ, ◌+◌, ◌*◌, ◌≤◌}
use mathlib.Core.Path.{◌≡◌, refl}
use mathlib.Core.List.{List, append_assoc}
use lib.Dec.{eqb}
use lib.ListN.{length}
use lib.Seq.{drop-drop}
use borrow.Rule.Slice.PartMut.{put_mid}
use native.Mathlib.Omega.{arith}
use borrow.Author.Tests.{eqb-true, eqb-false, ne_eqb}
use Rattle.schedule.specs.Fields.{length_of, left}
use Rattle.schedule.specs.Writing.{field_of, size_of, write_kind, Outcome, outcome, placed, field_write}
use Rattle.schedule.proofs.Faults.{by_test}
use Rattle.schedule.proofs.Refusals.{fours, allowed}
use Rattle.schedule.proofs.Stores.{length_field}

module _ (b : List ℕ) (at tag : ℕ) (ns : List ℕ) where
  -- what the checks give
  abbrev pub kind : ℕ
  kind = write_kind tag (length ns) (left b at)

  pub refused : {k : ℕ} → k ≡ kind → (k ≡ 0 → ⊥) → outcome k 0 b ≡ field_write b at tag ns
  unfolding field_write
  refused {k} e d = rw (← e) (simp (ne_eqb k 0 d))

  -- a case by it
  pub by_kind : (Q : Outcome → Type 0) → (kind ≡ 0 → Q (outcome 0 (at + size_of tag) (placed b at (field_of tag ns)))) → ((kind ≡ 0 → ⊥) → Q (outcome kind 0 b))
      → Q (field_write b at tag ns)
  unfolding field_write
  by_kind Q passed fails = by_test Q (eqb kind 0) (λ e. passed (eqb-true kind 0 e)) (λ e. fails (eqb-false kind 0 e))

  pub its_kind : kind ≡ (field_write b at tag ns).kind
  its_kind = by_kind (λ (o : Outcome). kind ≡ o.kind) (λ z. z) (λ _. refl)

  module _ (z : kind ≡ 0) where
    -- the field is within the buffer, and its body has the tag's length
    pub inside : (at + size_of tag ≤ length b) × (4 * length ns ≡ length_of tag)
    inside = let f = allowed tag (length ns) (left b at) z in let w = (fours tag).whole in (omega arith, omega arith)

    pub made : field_write b at tag ns ≡ outcome 0 (at + size_of tag) (placed b at (field_of tag ns))
    unfolding field_write
    made = rw z

    -- the field's bytes are in their place
    pub done : {value k : ℕ} {l f : List ℕ} → l ≡ put_mid at k b f → f ≡ field_of tag ns → k ≡ size_of tag → value ≡ at + size_of tag → outcome 0 value l ≡ field_write b at tag ns
    done {k = k} p e n v =
        let long : k ≡ length (field_of tag ns) = omega (arith, inside.1, length_field tag ns) in
        rw (made, v, p, e, long, drop-drop, append_assoc)
