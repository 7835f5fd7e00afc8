-- What an audit of a trail finds.
use Rattle.std.specs.Prelude.{◌≡◌, ℕ, ◌+◌, List, ◌∷◌, ◌++◌, length, codes}
use Rattle.std.specs.Fmt.{decimal}
use Rattle.kdcs_types.specs.Tables.{TableRows}
use Rattle.abstract_monitor.specs.State.{Application}
use Rattle.audit_trail.specs.declared.entry.Trail.{Trail}
use Rattle.audit_trail.specs.declared.entry.TrailEntry.{TrailEntry}
use Rattle.serial_audit.specs.Audit.{HoldsFor}
use Rattle.trail_run.specs.InTurn.{AllHold, HoldInTurn}
use Rattle.trail_run.specs.declared.trail_words.verdict.Verdict.{Verdict}
use Rattle.trail_run.specs.declared.trail_words.verdict.Verdict.TheVariants.{Holds, Differs}

-- the entry with this number, counted from 1, does not hold, and those before it do, one after another
pub record IsFirstToDiffer (app : Application) (before : TableRows) (entries : List TrailEntry) (number : ℕ) : Type 0 where
  pub first : List TrailEntry
  pub entry : TrailEntry
  pub rest : List TrailEntry
  pub parts : entries ≡ first ++ entry ∷ rest
  pub count : number ≡ length first + 1
  pub between : TableRows
  pub held : HoldInTurn app before first between
  pub differs : (after : TableRows) → HoldsFor app between entry after → ⊥

-- all entries hold, and there are so many; or this is the first that does not
abbrev pub IsJudged : Application → Trail → Verdict → Type 0
IsJudged app trail (Holds count) = AllHold app trail.start trail.entries × (count ≡ length trail.entries)
IsJudged app trail (Differs number) = IsFirstToDiffer app trail.start trail.entries number

-- a trail is judged in one way
abbrev pub TrailsAreJudgedOnce : Type 0
TrailsAreJudgedOnce = (app : Application) (trail : Trail) (one other : Verdict) → IsJudged app trail one → IsJudged app trail other → one ≡ other

-- the line of a trail all of whose entries hold, and of one with this first entry that does not
abbrev pub verdict_line : Verdict → List ℕ
verdict_line (Holds count) = codes "AUDIT OK " ++ (decimal count ++ codes "\n")
verdict_line (Differs number) = codes "AUDIT " ++ (decimal number ++ codes "\n")
