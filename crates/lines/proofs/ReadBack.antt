-- A step that is typed as text is read back as that step. Assumes nothing.
use Prim.Native.Nat.{ℕ, zero, suc, ◌+◌, ◌/◌, ◌%◌, ◌^◌, ◌≤◌, ◌<◌, min}
use native.Mathlib.Nat.{pow-suc}
use native.Mathlib.Decide.{ℕ_discrete}
use native.Mathlib.Omega.{arith}
use mathlib.Core.Path.{◌≡◌, refl, sym, ap, ◌∙◌}
use mathlib.Core.Bool.{Bool, true, false, ◌&&◌}
use mathlib.Core.List.{List, [], ◌∷◌, ◌++◌, map, foldl-append}
use lib.Dec.{ltb}
use lib.ListN.{length, length-append, length-map}
use lib.Seq.{take_at, drop_at, take_all}
use borrow.Author.Tests.{leb-true, ltb-true, le-leb, ne_eqb, not-true}
use Rattle.schedule.proofs.Faults.{by_test}
use Rattle.schedule.proofs.Bytes.{Below}
use Rattle.schedule.specs.Writing.{count_of, five_of}
use Rattle.lines.specs.Words.{front, take_while, drop_while, is_blank, not_blank, not_hash, is_digit, first_word, after_word}
use Rattle.lines.specs.Values.{Value, one_more, decimal, next_number, are, numbers_from, told}
use Rattle.lines.specs.Names.{name_of, tag_of}
use Rattle.lines.specs.Lines.{Step, text_of, line_of}
use Rattle.lines.specs.Typed.{last_digits, digits_of, spaced, typed}
use Rattle.lines.proofs.Cases.{value, a_word}
use Rattle.lines.proofs.Texts.{step}

-- a run that goes on to the end of a word
abbrev pub Whole : (ℕ → Bool) → List ℕ → Type 0
Whole p word = front p word ≡ length word

whole_on : (p : ℕ → Bool) (x : ℕ) (xs : List ℕ) → Whole p (x ∷ xs) → (p x ≡ true) × Whole p xs
whole_on p x xs = by_test (λ (n : ℕ). n ≡ suc (length xs) → (p x ≡ true) × Whole p xs) (p x) (λ e h. (e, omega arith)) (λ e h. absurd (omega arith))

-- goes on into what follows
front-append : (p : ℕ → Bool) (word s : List ℕ) → Whole p word → front p (word ++ s) ≡ length word + front p s
front-append p [] s h = omega arith
front-append p (x ∷ xs) s h = let q = whole_on p x xs h in rw q.0 (omega (arith, front-append p xs s q.1))

whole_append : (p : ℕ → Bool) (word s : List ℕ) → Whole p word → Whole p s → Whole p (word ++ s)
whole_append p word s h k = front-append p word s h ∙ simp (length-append, k)

-- and is a run of any kind that has these bytes
whole_of : (p q : ℕ → Bool) → ((c : ℕ) → p c ≡ true → q c ≡ true) → (word : List ℕ) → Whole p word → Whole q word
whole_of p q each [] h = refl
whole_of p q each (x ∷ xs) h = let w = whole_on p x xs h in rw (each x w.0) (ap suc (whole_of p q each xs w.1))

-- digits are no blanks, and no #
first : (a b : Bool) → a && b ≡ true → a ≡ true
first true b e = refl
first false b e = e

digit_above : (c : ℕ) → is_digit c ≡ true → 48 ≤ c
digit_above c h = leb-true 48 c (first _ _ h)

digit_no_blank : (c : ℕ) → is_digit c ≡ true → not_blank c ≡ true
digit_no_blank c h = let l = digit_above c h in simp (ne_eqb c 32 (λ e. omega arith), ne_eqb c 9 (λ e. omega arith), ne_eqb c 13 (λ e. omega arith))

digit_no_hash : (c : ℕ) → is_digit c ≡ true → not_hash c ≡ true
digit_no_hash c h = let l = digit_above c h in simp (ne_eqb c 35 (λ e. omega arith))

-- a word between blanks and what follows is the first word
no_blanks : (word s : List ℕ) → Whole not_blank word → 1 ≤ length word → front is_blank (word ++ s) ≡ 0
no_blanks [] s h some = absurd (omega arith)
no_blanks (x ∷ xs) s h some = simp (not-true (is_blank x) (whole_on not_blank x xs h).0)

module _ (blanks word s : List ℕ) (b : Whole is_blank blanks) (w : Whole not_blank word) (some : 1 ≤ length word) (end : front not_blank s ≡ 0) where
  dropped : drop_while is_blank (blanks ++ (word ++ s)) ≡ word ++ s
  dropped = drop_at blanks (word ++ s) (front is_blank (blanks ++ (word ++ s))) (omega (arith, front-append is_blank blanks (word ++ s) b, no_blanks word s w some))

  size : length word ≡ front not_blank (word ++ s)
  size = omega (arith, front-append not_blank word s w)

  first_word_lem : first_word (blanks ++ (word ++ s)) ≡ word
  unfolding first_word
  first_word_lem = ap (take_while not_blank) dropped ∙ take_at word s (front not_blank (word ++ s)) size

  after_word_lem : after_word (blanks ++ (word ++ s)) ≡ s
  unfolding after_word
  after_word_lem = ap (drop_while not_blank) dropped ∙ drop_at word s (front not_blank (word ++ s)) size

-- words that are numbers
pub record Numeral (word : List ℕ) : Type 0 where
  pub some : 1 ≤ length word
  pub digits : Whole is_digit word
  pub small : decimal word < 4294967296

abbrev pub Numerals : List (List ℕ) → Type 0
Numerals [] = 0 ≤ 0
Numerals (word ∷ more) = Numeral word × Numerals more

spaced-end : (words : List (List ℕ)) → front not_blank (spaced words) ≡ 0
spaced-end [] = refl
spaced-end (word ∷ more) = refl

numbers_back : (words : List (List ℕ)) → Numerals words → numbers_from (length words) (spaced words) ≡ are (map decimal words)
unfolding numbers_from first_word
numbers_back [] h = refl
numbers_back (word ∷ more) (n, ns) =
    let w = whole_of is_digit not_blank digit_no_blank word n.digits in
    let some = n.some in
    let small = n.small in
    let v : Value (decimal word) ≡ next_number (spaced (word ∷ more)) =
    a_word (spaced (word ∷ more)) (sym (first_word_lem (32 ∷ []) word (spaced more) refl w some (spaced-end more))) (λ z. omega arith)
    (value word (sym n.digits) refl {v = decimal word} (omega arith) (omega arith)) in
    rw (← v, after_word_lem (32 ∷ []) word (spaced more) refl w some (spaced-end more), numbers_back more ns)

spaced-whole : (words : List (List ℕ)) → Numerals words → Whole not_hash (spaced words)
spaced-whole [] h = refl
spaced-whole (word ∷ more) (n, ns) =
    ap suc (whole_append not_hash word (spaced more) (whole_of is_digit not_hash digit_no_hash word n.digits) (spaced-whole more ns))

-- each name is a word of no #, and is found at its tag
abbrev Named : ℕ → Type 0
Named tag =
    (front not_blank (name_of tag) ∷ front not_hash (name_of tag) ∷ min 1 (length (name_of tag)) ∷ tag_of (name_of tag) ∷ [])
    ≡ (length (name_of tag) ∷ length (name_of tag) ∷ 1 ∷ tag ∷ [])

abbrev UpTo : ℕ → Type 0
UpTo zero = 0 ≤ 0
UpTo (suc n) = UpTo n × Named (suc n)

named_at : (n : ℕ) → UpTo n → (tag : ℕ) → 1 ≤ tag → tag ≤ n → Named tag
named_at zero e tag low high = absurd (omega arith)
named_at (suc n) e tag low high = elim (ℕ_discrete tag (suc n)) [ yes q ↦ rw q e.1 | no q ↦ named_at n e.0 tag low (omega arith) ]

all_named : UpTo 10
unfolding tag_of
all_named = ((((((((((search arith, refl), refl), refl), refl), refl), refl), refl), refl), refl), refl)

module _ (tag : ℕ) (low : 1 ≤ tag) (high : tag ≤ 10) (words : List (List ℕ)) (h : Numerals words) where
  -- a name and numbers after spaces are read as that step with those numbers
  pub words_back : length words ≡ count_of tag → line_of (name_of tag ++ spaced words) ≡ Step tag (five_of (map decimal words))
  unfolding line_of
  words_back e =
      let name = name_of tag in
      let rest = spaced words in
      let known = named_at 10 all_named tag low high in
      let b : Whole not_blank name = cc in
      let m : min 1 (length name) ≡ 1 = cc in
      let l : 1 ≤ length name = omega arith in
      let k : tag ≡ tag_of name = cc in
      let w = whole_append not_hash name rest (cc) (spaced-whole words h) in
      let n : numbers_from (count_of tag) rest ≡ are (map decimal words) = rw (← e) (numbers_back words h) in
      ap text_of (take_all (front not_hash (name ++ rest)) (name ++ rest) (omega arith))
      ∙ sym (step (name ++ rest) (sym (first_word_lem [] name rest refl b l (spaced-end words))) (λ z. omega arith) k (λ z. omega arith)
      (sym (after_word_lem [] name rest refl b l (spaced-end words))) refl refl (ap told n))

-- the digits of a number spell it
abbrev Spells : ℕ → List ℕ → Type 0
Spells n word = Whole is_digit word × (decimal word ≡ n)

digit : (d : ℕ) → d < 10 → is_digit (48 + d) ≡ true
digit d h = simp (le-leb 48 (48 + d) (omega arith), le-leb (48 + d) 57 (omega arith))

one_digit : (d : ℕ) → d < 10 → Spells d ((48 + d) ∷ [])
unfolding decimal
one_digit d h = (simp (digit d h), omega arith)

one_more_lem : (n : ℕ) (word : List ℕ) → Spells (n / 10) word → Spells n (word ++ ((48 + n % 10) ∷ []))
unfolding decimal
one_more_lem n word (w, e) =
    let l : n % 10 < 10 = omega arith in
    (whole_append is_digit word ((48 + n % 10) ∷ []) w (one_digit (n % 10) l).0, foldl-append one_more 0 word ((48 + n % 10) ∷ []) ∙ omega arith)

last_spell : (k n : ℕ) → n < 10 ^ k → Spells n (last_digits k n)
unfolding decimal
last_spell zero n h = (refl, omega arith)
last_spell (suc k) n h =
    let b = rw pow-suc at h in
    by_test (Spells n) (ltb n 10) (λ t. one_digit n (ltb-true n 10 t)) (λ t. one_more_lem n (last_digits k (n / 10)) (last_spell k (n / 10) (omega arith)))

spelled : (n : ℕ) → n < 4294967296 → Spells n (digits_of n)
unfolding digits_of
spelled n h = last_spell 10 n (omega arith)

some_digit : (n : ℕ) → 1 ≤ length (digits_of n)
unfolding digits_of
some_digit n = by_test (λ (l : List ℕ). 1 ≤ length l) (ltb n 10) (λ t. omega arith) (λ t. simp length-append (omega arith))

all_numerals : (ns : List ℕ) → Below 4294967296 ns → Numerals (map digits_of ns)
all_numerals [] h = omega arith
all_numerals (n ∷ more) h =
    let e = spelled n (h 0) in
    let l = h 0 in
    (record { some = some_digit n; digits = e.0; small = omega arith }, all_numerals more (λ i. h (suc i)))

all_spelled : (ns : List ℕ) → Below 4294967296 ns → map decimal (map digits_of ns) ≡ ns
all_spelled [] h = refl
all_spelled (n ∷ more) h = rw ((spelled n (h 0)).1, all_spelled more (λ i. h (suc i)))

-- a step typed as text, its name and its numbers, is read back as that step with those numbers
pub read_back : (tag : ℕ) → 1 ≤ tag → tag ≤ 10 → (numbers : List ℕ) → Below 4294967296 numbers → length numbers ≡ count_of tag → line_of (typed tag numbers) ≡ Step tag (five_of numbers)
read_back tag low high numbers h e =
    words_back tag low high (map digits_of numbers) (all_numerals numbers h) (length-map numbers digits_of ∙ e)
    ∙ ap (λ (ns : List ℕ). Step tag (five_of ns)) (all_spelled numbers h)
