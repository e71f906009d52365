-- A blank table with every task put to rest is a freshly opened one. Assumes nothing.
use Prim.Native.Nat.{ℕ, zero, suc}
use mathlib.Core.Path.{◌≡◌, refl, ap}
use mathlib.Core.List.{List, ◌∷◌, map}
use lib.ListN.{replicate}
use Rattle.numbers.specs.Epochs.{idle_mark}
use Rattle.table.specs.State.{TaskRow, with_interval, with_tasks}
use Rattle.table.specs.Blank.{blank}
use Rattle.rules.specs.Steps.{opened}

each : {A B : Type 0} (f : A → B) (n : ℕ) (a : A) → map f (replicate n a) ≡ replicate n (f a)
each f zero a = refl
each f (suc n) a = ap (λ (l : List _). f a ∷ l) (each f n a)

pub opened_is : (T N P F E : ℕ) → with_tasks (blank T N P F E) (map (with_interval idle_mark idle_mark) (blank T N P F E).tasks) ≡ opened T N P F E
opened_is T N P F E = ap (λ (ts : List TaskRow). with_tasks (blank T N P F E) ts) (each (with_interval idle_mark idle_mark) T _)
