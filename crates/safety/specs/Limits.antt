-- What each answer of `limit` says of the number that it is about. Assumes nothing.
use Rattle.std.specs.Prelude.{ℕ, ◌≤◌, ◌<◌, ◌≡◌, Option, Some, None}

-- the number itself, which a word holds; or that no word holds it
abbrev pub Says : Option ℕ → ℕ → Type 0
Says (Some n) m = (n ≡ m) × (m ≤ 4294967295)
Says None m = 4294967295 < m
