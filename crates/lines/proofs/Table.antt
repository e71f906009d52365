-- The table of names: the search for a word, and the comparison with the name of a tag. Assumes nothing.
use Prim.Native.Nat.{ℕ, ◌+◌, ◌<◌}
use native.Mathlib.Numerals.{add-one}
use native.Mathlib.Omega.{arith}
use mathlib.Core.Path.{◌≡◌, refl, sym, ap, ◌∙◌}
use mathlib.Core.Bool.{Bool, true, false}
use mathlib.Core.List.{List, [], ◌∷◌}
use lib.Dec.{eqb}
use lib.ListN.{length, get_or, drop}
use lib.Pointwise.{pointwise}
use lib.Seq.{drop-cons}
use borrow.Author.Tests.{eqb-true, eqb-false}
use Rattle.std.proofs.lemmas.Bool.Decides.{Decides-eqb}
use Rattle.std.specs.Prelude.{Option, None}
use Rattle.std.proofs.lemmas.Option.{MatchOption-at_some, MatchOption-at_none, slice_get-get_or}
use Rattle.std.proofs.lemmas.Slice.Eq.{slice_eq-Decides}
use Rattle.schedule.specs.declared.tags.Tag.{Tag}
use Rattle.schedule.specs.declared.tags.Tag.TheVariants.{Open}
use Rattle.schedule.specs.declared.tags.TheConstants.Tag.{ALL}
use Rattle.schedule.specs.Tags.{tag_number}
use Rattle.schedule.proofs.Faults.{by_test}
use Rattle.schedule.proofs.TagBytes.{table, at_none, Found}
use Rattle.lines.specs.Names.{names, name_of, same, tag_from}

-- a byte that no tag is written as has no name
pub no_name : (byte : ℕ) {o : Option Tag} → o ≡ None → Found byte o → name_of byte ≡ []
no_name byte e h = at_none [] names refl byte (MatchOption-at_none _ _ e h)

-- a test that passes just where two words are equal
refused : (r : Bool) → (r ≡ true → ⊥) → r ≡ false
refused true h = absurd (h refl)
refused false h = refl

pub tells : (a b : List ℕ) (r : Bool) → (r ≡ true → a ≡ b) → (a ≡ b → r ≡ true) → r ≡ same a b
tells [] [] r to back = back refl
tells [] (y ∷ ys) r to back = refused r (λ t. let e = to t in let z : ◌≡◌ {A = ℕ} 0 1 = cc in omega arith)
tells (x ∷ xs) [] r to back = refused r (λ t. let e = to t in let z : ◌≡◌ {A = ℕ} 0 1 = cc in omega arith)
tells (x ∷ xs) (y ∷ ys) r to back =
    by_test (λ (t : Bool). r ≡ t) (eqb x y)
    (λ e. let k = eqb-true x y e in tells xs ys r (λ t. let q = to t in cc) (λ q. back (cc)))
    (λ e. refused r (λ t. let q = to t in eqb-false x y e (cc)))

-- the search goes on past a name that is not the word, and ends at one that is
module _ (ns : List (List ℕ)) (word : List ℕ) (tag : ℕ) (h : tag < length ns) where
  pub goes_on : same word (get_or ns tag []) ≡ false → tag_from tag (drop tag ns) word ≡ tag_from (tag + 1) (drop (tag + 1) ns) word
  goes_on e = rw (drop-cons ns tag [] h, e, add-one tag)

  pub found : same word (get_or ns tag []) ≡ true → tag_from tag (drop tag ns) word ≡ tag
  found e = rw (drop-cons ns tag [] h, e)

-- the tag at a place of the table, and the comparison with its name
at_index : (i : ℕ) → i < 10 → tag_number (get_or ALL i Open) ≡ i + 1
at_index i h = MatchOption-at_some _ _ _ (slice_get-get_or ALL i Open h) (table i) ∙ sym (add-one i)

module _ (word bytes : List ℕ) (i : ℕ) (h : i < 10) (named : bytes ≡ name_of (tag_number (get_or ALL i Open))) {r : Bool} (compared : r ≡ pointwise eqb bytes word) where
  tested : r ≡ same word (name_of (i + 1))
  tested =
      let name = named ∙ ap name_of (at_index i h) in
      let d = slice_eq-Decides Decides-eqb bytes word r compared in
      tells word (name_of (i + 1)) r (λ t. sym (d.0 t) ∙ name) (λ e. d.1 (name ∙ sym e))

  pub goes_past : r ≡ false → tag_from (i + 1) (drop (i + 1) ([] ∷ names)) word ≡ tag_from (i + 1 + 1) (drop (i + 1 + 1) ([] ∷ names)) word
  goes_past miss = goes_on ([] ∷ names) word (i + 1) (omega arith) (sym tested ∙ miss)

  pub found_there : r ≡ true → tag_number (get_or ALL i Open) ≡ tag_from (i + 1) (drop (i + 1) ([] ∷ names)) word
  found_there hit = at_index i h ∙ sym (found ([] ∷ names) word (i + 1) (omega arith) (sym tested ∙ hit))
