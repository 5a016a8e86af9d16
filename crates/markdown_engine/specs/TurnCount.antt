-- how many turns a run of a layer's states takes, of which each calls a state or goes on with an attempt, and what it ends with
use Rattle.std.specs.Prelude.{ℕ, zero, suc, ◌+◌, List, [], ◌∷◌, Bool, true, false}
use Rattle.markdown_event.specs.declared.state.State.{State}
use Rattle.markdown_event.specs.declared.state.State.TheVariants.{Next, Retry, Ok, Nok}
use Rattle.markdown_event.specs.declared.state.StateName.{StateName}
use Rattle.markdown_engine.specs.declared.tokenizer.Attempt.{Attempt}
use Rattle.markdown_engine.specs.declared.tokenizer.Tokenizer.{Tokenizer}
use Rattle.markdown_engine.specs.StateRuns.{Stepped, settled, going_state, going_in}

-- the turns that a run took, and its end
pub record Ran : Type 0 where
  pub turns : ℕ
  pub ok : Bool
  pub left : Tokenizer

-- with these turns before
abbrev pub later : ℕ → Ran → Ran
later k r = record { turns = k + r.turns; ok = r.ok; left = r.left }

-- by runs of one state, the run from a state where these attempts wait, the innermost first
abbrev pub runs_out : (State → Tokenizer → Ran) → List Attempt → State → Tokenizer → Ran
runs_out R [] st T = R st T
runs_out R (f ∷ fs) st T =
    let r : Ran = R st T in
    later (suc r.turns) (runs_out R fs (going_state f r.ok) (going_in f r.ok r.left))

-- the run from a state whose number is below n, where no attempt waits
abbrev pub ran : (StateName → Tokenizer → Stepped) → ℕ → State → Tokenizer → Ran
ran step n Ok T = record { turns = 0; ok = true; left = T }
ran step n Nok T = record { turns = 0; ok = false; left = T }
ran step zero (Next s) T = record { turns = 0; ok = false; left = T }
ran step zero (Retry s) T = record { turns = 0; ok = false; left = T }
ran step (suc n) (Next s) T = later 1 (runs_out (ran step n) (step s T).left.attempts (step s T).state (settled (step s T).left))
ran step (suc n) (Retry s) T = later 1 (runs_out (ran step n) (step s T).left.attempts (step s T).state (settled (step s T).left))
