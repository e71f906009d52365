-- A packed answer says the answer's kind and value. Assumes nothing.
use Prim.Native.Nat.{ℕ, ◌+◌, ◌*◌, ◌/◌, ◌%◌, ◌<◌}
use mathlib.Core.Path.{◌≡◌, ap₂, ◌∙◌}
use mathlib.Core.List.{List}
use native.Mathlib.Omega.{arith}
use Rattle.rules.specs.OnTable.{Result, result_of}
use Rattle.work.specs.Answers.{Answer, kind_of, value_of, told}
use Rattle.exports.specs.Packed.{unpacked}

pub says : (a : Answer) (n : ℕ) (t : List ℕ) (r : Result) → (n ≡ kind_of a * 4294967296 + value_of a) × (value_of a < 4294967296) → told a t ≡ r → unpacked n t ≡ r
says a n t r p e =
    let kind : n / 4294967296 ≡ kind_of a = omega arith in
    let value : n % 4294967296 ≡ value_of a = omega arith in
    ap₂ (λ (k v : ℕ). result_of k v t) kind value ∙ e
