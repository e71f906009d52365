-- A table of zeros, once its sizes and rates stand in it, is the blank state's words. Assumes nothing.
use Prim.Native.Nat.{ℕ, zero, suc, ◌+◌, ◌*◌}
use mathlib.Core.Path.{◌≡◌, refl, sym, ap, ◌∙◌}
use mathlib.Core.List.{List, ◌++◌}
use native.Mathlib.Nat.{add_comm, mul-zero, mul-suc}
use native.Mathlib.Omega.{arith}
use lib.ListN.{set, replicate, length-replicate, replicate-append-replicate}
use Rattle.table.specs.State.{free_block}
use Rattle.table.specs.Blank.{zero_task, blank}
use Rattle.table.specs.Words.{flat, task_words, block_words, slot_words, words, header_width, task_width, block_width, slot_width, length_for}

-- records whose words are all 0
flat_zeros : {A : Type 0} (f : A → List ℕ) (w : ℕ) (x : A) → f x ≡ replicate w 0 → (n : ℕ) → flat f (replicate n x) ≡ replicate (w * n) 0
flat_zeros f w x e zero = rw mul-zero
flat_zeros f w x e (suc n) = rw (e, flat_zeros f w x e n, replicate-append-replicate, mul-suc, add_comm w (w * n))

pub blank-words : (t : List ℕ) (T N P F E : ℕ) → t ≡ replicate (length_for T N P) 0 → set (set (set (set (set t 0 T) 1 N) 2 P) 3 F) 4 E ≡ words (blank T N P F E)
unfolding words
blank-words t T N P F E h =
    let o : ℕ = 0 in
    let ts = task_width * T in
    let bs = block_width * N in
    let ps = slot_width * P in
    let m : length_for T N P ≡ header_width + (ts + (bs + ps)) = omega arith in
    let e : t ≡ replicate header_width 0 ++ (replicate ts 0 ++ (replicate bs 0 ++ replicate ps 0))
    = h ∙ ap (λ (n : ℕ). replicate n 0) m
    ∙ sym (rw (replicate-append-replicate bs ps o, replicate-append-replicate ts (bs + ps) o, replicate-append-replicate header_width (ts + (bs + ps)) o)) in
    ap (λ (u : List ℕ). set (set (set (set (set u 0 T) 1 N) 2 P) 3 F) 4 E) e
    ∙ sym (rw (
      length-replicate T zero_task,
      length-replicate N free_block,
      length-replicate P o,
      flat_zeros task_words task_width zero_task refl T,
      flat_zeros block_words block_width free_block refl N,
      flat_zeros slot_words slot_width 0 refl P,
    ))
