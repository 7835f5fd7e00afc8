-- What holds of the trail of a script's run, once it was written.
use Rattle.std.specs.Prelude.{◌≡◌, ◌≤◌, ℕ, List, length, Ok, All}
use Rattle.kd_base.specs.Limits.{longest_text}
use Rattle.kdcs_types.specs.Tables.{TableRows}
use Rattle.abstract_monitor.specs.declared.command.Command.{Command}
use Rattle.abstract_monitor.specs.State.{Application}
use Rattle.audit_trail.specs.declared.entry.Trail.{Trail}
use Rattle.audit_trail.specs.Places.{trail_in, trail_of}
use Rattle.trail_run.specs.OwnTrails.{CanBeTrailed, HasShortRun, entries_of}
use Rattle.trail_run.specs.Auditing.{IsJudged}
use Rattle.trail_run.specs.declared.trail_words.verdict.Verdict.TheVariants.{Holds}
use Rattle.trail_run.specs.Trailing.{HasBytes, text_of}

-- the trail of a script's run from these tables, which texts with this fingerprint generate
abbrev pub own_trail : Application → (fingerprint : List ℕ) → TableRows → List Command → Trail
own_trail app fingerprint t script = trail_of fingerprint t (entries_of app t script)

-- the text was written as that of the run's trail; it is no longer than a text that is read, and no transaction has more
-- statements than a line may say
pub record IsOwnTrail (app : Application) (fingerprint : List ℕ) (t : TableRows) (script : List Command) (text : List ℕ) : Type 0 where
  pub run : CanBeTrailed app t script
  pub fingerprint_length : length fingerprint ≡ 32
  pub written : text ≡ text_of app fingerprint t script
  pub bytes : HasBytes app fingerprint t script
  pub short : length text ≤ longest_text
  pub short_runs : All HasShortRun (entries_of app t script)

-- its text says the trail of the run, and all entries of that hold
abbrev pub OwnTrailsHold : Type 0
OwnTrailsHold =
    (app : Application) (fingerprint : List ℕ) (t : TableRows) (script : List Command) (text : List ℕ) → IsOwnTrail app fingerprint t script text
    → (trail_in text ≡ Ok (own_trail app fingerprint t script)) × IsJudged app (own_trail app fingerprint t script) (Holds (length (entries_of app t script)))
