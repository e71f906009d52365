-- What an answer to C says: kind × 2^32 + value. Assumes nothing.
use Rattle.std.specs.Prelude.{ℕ, ◌/◌, ◌%◌, List}
use Rattle.rules.specs.OnTable.{Result, result_of}

-- the kind and the value of an answer, with the words left
abbrev pub unpacked : (answer : ℕ) → List ℕ → Result
unpacked answer t = result_of (answer / 4294967296) (answer % 4294967296) t
