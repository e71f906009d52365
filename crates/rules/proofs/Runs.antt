-- A run on the lent words is the run of the state they say. Assumes nothing.
use Prim.Native.Nat.{ℕ}
use native.Mathlib.Omega.{arith}
use mathlib.Core.Path.{◌≡◌, refl, sym, ap, ◌∙◌}
use mathlib.Core.Bool.{Bool, true, false, cond}
use mathlib.Core.List.{List, [], ◌∷◌}
use Rattle.table.specs.State.{State}
use Rattle.table.specs.Soundness.{sized}
use Rattle.table.specs.Words.{words, state_of, length_for}
use Rattle.table.proofs.Tests.{two}
use Rattle.table.proofs.Places.{state_of-words}
use Rattle.table.proofs.Sound.{Sound, words-sound}
use Rattle.rules.specs.Outcome.{answers}
use Rattle.rules.specs.Steps.{opened}
use Rattle.rules.specs.OnTable.{Result, result_of, in_words, on_table, fits, open_table}
use Rattle.rules.specs.Calls.{Call, step, after, table_after}
use Rattle.rules.specs.Terms.{Reached, ReachedTable}
use Rattle.rules.proofs.Kept.{opened-sound, step-sound}
use Rattle.rules.proofs.Guarded.{reached_right}

-- a call on the words of a sound state answers what the rule answers, and leaves the words of the state after it
table_step : (s : State) (c : Call) → Sound s → on_table (words s) (λ z. step z c) ≡ in_words (step s c)
unfolding on_table
table_step s c h = rw (words-sound s h, state_of-words s)

table-run : (s : State) (cs : List Call) → Sound s → table_after (words s) cs ≡ words (after s cs)
table-run s [] h = refl
table-run s (c ∷ cs) h = ap (λ (r : Result). table_after r.table cs) (table_step s c h) ∙ table-run (step s c).after cs (step-sound s c h)

-- an accepted open had its sizes within their limits, and left the words of the opened state
open_accepted : (t : List ℕ) (T N P F E : ℕ) → (open_table t T N P F E).kind ≡ 0 → (sized T N P F E ≡ true) × ((open_table t T N P F E).table ≡ words (opened T N P F E))
unfolding open_table
open_accepted t T N P F E = go (fits t T N P F E) refl
  where
    go : (x : Bool) → fits t T N P F E ≡ x → (cond x (in_words (answers 0 (length_for T N P) (opened T N P F E))) (result_of 2 0 t)).kind ≡ 0
        → (sized T N P F E ≡ true) × ((cond x (in_words (answers 0 (length_for T N P) (opened T N P F E))) (result_of 2 0 t)).table ≡ words (opened T N P F E))
    go true e k = ((two (sized T N P F E) _ e).0, refl)
    go false e k = absurd (omega arith)

-- a table that is reached is the words of a state that is reached: the one that it says
module _ {t : List ℕ} (r : ReachedTable t) where
  led : State
  led = after (opened r.T r.N r.P r.F r.E) r.calls

  led_words : t ≡ words led
  unfolding led
  led_words = let a = open_accepted r.before r.T r.N r.P r.F r.E r.accepted in
      r.leads ∙ ap (λ (u : List ℕ). table_after u r.calls) a.1
      ∙ table-run (opened r.T r.N r.P r.F r.E) r.calls (opened-sound r.T r.N r.P r.F r.E a.0)

  said : state_of t ≡ led
  said = ap state_of led_words ∙ state_of-words led

  pub table_reached : Reached (state_of t)
  unfolding led
  table_reached = record {
    T = r.T;
    N = r.N;
    P = r.P;
    F = r.F;
    E = r.E;
    within = (open_accepted r.before r.T r.N r.P r.F r.E r.accepted).0;
    calls = r.calls;
    leads = said;
  }

  pub table-words : t ≡ words (state_of t)
  table-words = led_words ∙ ap words (sym said)

  -- so that a call and a run on it are the rule and the run of that state
  pub call_on_words : (c : Call) → on_table t (λ z. step z c) ≡ in_words (step (state_of t) c)
  call_on_words c = ap (λ (u : List ℕ). on_table u (λ z. step z c)) table-words ∙ table_step (state_of t) c (reached_right table_reached).sound

  pub run_on_words : (cs : List Call) → table_after t cs ≡ words (after (state_of t) cs)
  run_on_words cs = ap (λ (u : List ℕ). table_after u cs) table-words ∙ table-run (state_of t) cs (reached_right table_reached).sound
