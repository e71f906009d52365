-- The lines of a text, one after another. Assumes nothing.
use Rattle.std.specs.Prelude.{ℕ, ◌≡◌, ◌≢◌, ◌<◌, ◌⊎◌, List, [], ◌∷◌, ◌++◌, length, slice_index, Option, Some, None}
use denote.Ref.{Bor}
use Rattle.write.specs.declared.Lines.{Lines}

-- a byte 10 ends a line
abbrev pub NoNewline : List ℕ → Type 0
NoNewline line = (k : ℕ) → k < length line → slice_index line k ≢ 10

-- the first line of what is left is the bytes before its first newline, or all of them where there is none, and what is behind is left then;
-- no line comes where no bytes are left
abbrev pub GivesLine : Lines → Option (Bor (List ℕ)) → Lines → Type 0
GivesLine old None new = (old.left.now ≡ []) × (new.left.now ≡ [])
GivesLine old (Some line) new =
    NoNewline line.now × (((old.left.now ≡ line.now) × (new.left.now ≡ [])) ⊎ (old.left.now ≡ line.now ++ (10 ∷ new.left.now)))
