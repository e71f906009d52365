-- No second answer meets the promise of `limit`. Assumes nothing.
use Rattle.std.specs.Prelude.{ℕ, ◌≡◌, Option, Some, None}
use Rattle.std.proofs.Common.{arith, ap, sym, refl, ◌∙◌}
use Rattle.safety.specs.Limits.{Says}

pub one_answer : (a b : Option ℕ) (m : ℕ) → Says a m → Says b m → a ≡ b
one_answer (Some n) (Some o) m p q = ap Some (p.0 ∙ sym q.0)
one_answer (Some n) None m p q = absurd (omega arith)
one_answer None (Some o) m p q = absurd (omega arith)
one_answer None None m p q = refl
