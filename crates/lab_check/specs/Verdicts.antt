-- What texts are taken for, and what is told of it.
use Rattle.std.specs.Prelude.{ℕ, List, ◌∷◌, ◌≡◌, false}
use Rattle.std.specs.List.{All}
use Rattle.application_types.specs.Fitted.{IsFit}
use Rattle.application_read.specs.declared.fault.ApplicationFault.{ApplicationFault}
use Rattle.application_read.specs.Faults.{text_of, line_of, name_of}
use Rattle.application_read.specs.Texts.{TextsGenerate, TextsHaveFault, is_memory}
use Rattle.lab_check.specs.Lines.{word_of}
use Rattle.lab_check.specs.declared.lab_findings.refusal.Refusal.{Refusal}
use Rattle.lab_check.specs.declared.lab_findings.text_name.TextName.TheVariants as text
use Rattle.lab_check.specs.declared.whole.Verdict.{Verdict}
use Rattle.lab_check.specs.declared.whole.Verdict.TheVariants.{Accepted, Refused}

-- the application that the texts generate, whose units fit, or their first fault
abbrev pub IsVerdict : (definition units : List ℕ) → Verdict → Type 0
IsVerdict definition units (Accepted a) = TextsGenerate definition units a × IsFit a.generation a.units
IsVerdict definition units (Refused fault) = TextsHaveFault definition units fault

-- want of memory is no verdict
abbrev pub IsNoMemory : Verdict → Type 0
IsNoMemory (Accepted a) = Unit {0}
IsNoMemory (Refused fault) = is_memory fault ≡ false

-- the first refusal has the text, the line and the name of the fault
abbrev pub IsToldFirst : ApplicationFault → List Refusal → Type 0
IsToldFirst fault refusals = (first : Refusal) × (others : List Refusal) × (refusals ≡ first ∷ others) × (word_of first.text ≡ text_of fault) × (first.line ≡ line_of fault) × (first.name.now ≡ name_of fault)

-- a refusal of the script
abbrev pub IsOfScript : Refusal → Type 0
IsOfScript r = r.text ≡ text.Script

-- such refusals alone were added
abbrev pub AddsOfScript : (before after : List Refusal) → Type 0
AddsOfScript before after = All IsOfScript before → All IsOfScript after

-- a fault of the texts is told first; of texts that make an application none is told
abbrev pub AreToldFor : Verdict → List Refusal → Type 0
AreToldFor (Accepted a) refusals = All IsOfScript refusals
AreToldFor (Refused fault) refusals = IsToldFirst fault refusals
