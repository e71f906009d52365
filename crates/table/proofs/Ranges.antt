-- Laws of `every`, and of the library's `any` and `find`, over the places of a list: a closure that tests what stands at each place tests the list. Assumes nothing.
use Rattle.std.proofs.Common.{ℕ, ◌+◌, ◌≤◌, ◌<◌, ◌≡◌, sym, subst, ◌∙◌, Bool, true, false, Option, None, Some, List, length, get_or, arith}
use Rattle.std.specs.declared.ops.Range.{Range}
use Rattle.std.specs.Bool.{MatchBool}
use Rattle.std.specs.Fn.{Called, CalledAt}
use Rattle.std.specs.List.{range_with_len, AllWithin, HoldsAt}
use Rattle.std.specs.Iterator.{ChecksAny, FindsItem}
use Rattle.std.proofs.iter.Yields.{nat_range_steps}
use Rattle.std.proofs.lemmas.Iterator.{cases_from_any, first_from_Range, YieldsList-from_range}
use Rattle.std.proofs.lemmas.List.FromFn.{length-range_with_len, get_or-range_with_len}
use Rattle.std.specs.Option.{MatchOption}
use denote.Param.Members.{Mut}
use denote.Ref.{Bor}
use mathlib.Core.Bool.{true≢false}
use Rattle.table.specs.Lists.{all, some, first}
use Rattle.table.proofs.Tests.{decide}
use Rattle.table.proofs.ByPlace.{all_at, all_of, none_of, some_at, first_zero, first_is}

module _ {A : Type 0} (f : A → Bool) (xs : List A) (d : A) where
  -- the test at a place of the list
  abbrev Says : Bool → ℕ → Type 0
  Says b i = i < length xs → f (get_or xs i d) ≡ b

  at_place : (b : Bool) (k : ℕ) → k < length (range_with_len 0 (length xs)) → HoldsAt (Says b) (range_with_len 0 (length xs)) k → (k < length xs) × (f (get_or xs k d) ≡ b)
  at_place b k l s =
      let m : k < length xs = omega (arith, length-range_with_len 0 (length xs)) in
      let z : 0 + k ≡ k = omega arith in
      (m, subst (Says b) (get_or-range_with_len 0 (length xs) k 0 m ∙ z) (s 0) m)

  -- the closure's answer at a place is the test there
  abbrev pub Tests : {F : Type 0} → Mut F (ℕ × Unit {0}) Bool → F → Type 0
  Tests {F} g h = (i : ℕ) (b : Bool) (q : F) → Called g h (i, tt) b q → (q ≡ h) × (i < length xs → b ≡ f (get_or xs i d))

  -- the test passes at every number below the length, or fails at one
  pub every_place : (r : Bool) {n : ℕ} → n ≡ length xs
      → MatchBool r ((i : ℕ) → i < n → f (get_or xs i d) ≡ true) ((i : ℕ) × (i < n) × (f (get_or xs i d) ≡ false)) → r ≡ all f xs
  every_place true e m = sym (all_of f xs d (λ i l. m i (omega arith)))
  every_place false e m = decide (all f xs) (λ p. absurd (true≢false (sym (all_at f xs d m.0 (omega arith) p) ∙ m.2))) (λ p. sym p)

  module _ {F : Type 0} {g : Mut F (ℕ × Unit {0}) Bool} {h : F} {s u : Range ℕ} (r : Bool) (whole : s ≡ record { start = 0; end = length xs }) where
    pub any_place : ChecksAny nat_range_steps g s h r u → Tests g h → r ≡ some f xs
    any_place ran t = go r (cases_from_any u h r (Says true) (Says false) ran (YieldsList-from_range 0 _ _ whole (omega arith)) (λ i q c l. sym ((t i true q c).1 l)) (λ i q c. let k = t i false q c in (k.0, λ l. sym (k.1 l))))
      where
        places : List ℕ
        places = range_with_len 0 (length xs)

        go : (r : Bool) → MatchBool r ((k : ℕ) × (k < length places) × HoldsAt (Says true) places k) (AllWithin (Says false) places 0 (length places)) → r ≡ some f xs
        go true m = let p = at_place true m.0 m.1 m.2 in sym (some_at f xs d m.0 p.0 p.1)
        go false m = sym (none_of f xs d (λ i l. let w : i < length places = omega (arith, length-range_with_len 0 (length xs)) in (at_place false i w (λ e. m i e (omega arith) w)).1))

  -- the same of a closure that is lent the place
  abbrev pub TestsAt : {F : Type 0} → Mut F (Bor ℕ × Unit {0}) Bool → F → Type 0
  TestsAt {F} g h = (i : ℕ) (b : Bool) (q : F) → CalledAt g h i b q → (q ≡ h) × (i < length xs → b ≡ f (get_or xs i d))

  module _ {F : Type 0} {g : Mut F (Bor ℕ × Unit {0}) Bool} {h : F} {s : Range ℕ} (r : Option ℕ) (u : Range ℕ) (whole : s ≡ record { start = 0; end = length xs }) where
    pub first_place : FindsItem nat_range_steps g s h r u → TestsAt g h → MatchOption r (first f 1 xs ≡ 0) (λ i. (i < length xs) × (first f 1 xs ≡ i + 1))
    first_place ran t = go r (first_from_Range s u h r (Says true) (Says false) ran (λ i q c l. sym ((t i true q c).1 l)) (λ i q c. let k = t i false q c in (k.0, λ l. sym (k.1 l))))
      where
        go : (r : Option ℕ)
            → MatchOption r ((k : ℕ) → s.start ≤ k → k < s.end → Says false k) (λ i. (s.start ≤ i) × (i < s.end) × Says true i × ((k : ℕ) → s.start ≤ k → k < i → Says false k))
            → MatchOption r (first f 1 xs ≡ 0) (λ i. (i < length xs) × (first f 1 xs ≡ i + 1))
        go None m = first_zero f 1 xs d (λ i l. m i (rw whole (omega arith)) (rw whole l) l)
        go (Some i) m =
            let within : i < length xs = rw whole at m.1 in
            let e : first f 1 xs ≡ 1 + i = first_is f 1 xs d i within (m.2 within) (λ k l. m.3 k (rw whole (omega arith)) l (omega arith)) in
            (within, omega (arith, e))
