-- What a test that is passed in says of each byte. Assumes nothing.
use Rattle.std.specs.Prelude.{ℕ, ◌≡◌, Bool}

-- each answer is what p says
abbrev pub Tests : {F : Type 0} → (F → ℕ → Bool → Type 0) → F → (ℕ → Bool) → Type 0
Tests post test p = (byte : ℕ) (answer : Bool) → post test byte answer → answer ≡ p byte
