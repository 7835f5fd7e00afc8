-- The laws of the script of a call over two copies.
use Rattle.std.proofs.Common.{◌≡◌, true, List, ℕ, sym, ap, subst}
use Rattle.std.specs.Prelude.{Ok}
use Rattle.kd_device.specs.Room.{RoomState}
use Rattle.kd_device.specs.Twin.{Both}
use Rattle.kdcs_types.specs.Tables.{TableRows, IsSortedTables}
use Rattle.laws_of_states.specs.Suits.{Suits}
use Rattle.audit_trail.specs.Facts.{IsTrail}
use Rattle.kdcfile_update.specs.Updating.{Stored}
use Rattle.call_parts.specs.Asking.{Errand, CanBeAudited, TextsOfTwoCanRun, app_of}
use Rattle.call_ends.specs.LawfulRuns.{RunsLawfully, ScriptsRunLawfully}
use Rattle.call_ends.specs.OpenedLaws.{opened_two}
use Rattle.call_parts.specs.Words.{audits}
use Rattle.call_parts.specs.declared.words.Word.{Word}
use Rattle.call_parts.specs.declared.words.Word.TheVariants.{Gen, Run, Show, Update, Trail, Audit, Make}
use Rattle.utm_cli.specs.DoingTwo.{StartsTwo, StartsTwoBy}
use Rattle.call_parts.specs.Requests.{ReadsTwo}

suited_two : (word : Word) (e : Errand) → CanBeAudited (audits word) e.application e.trail → (a : Both) (t : TableRows) → StartsTwoBy word e a t → IsSortedTables t × Suits e.application.generation t
suited_two Gen e trail a t starts = opened_two e a t starts
suited_two Run e trail a t starts = opened_two e a t starts
suited_two Show e trail a t starts = opened_two e a t starts
suited_two Update e trail a t starts = absurd starts
suited_two Trail e trail a t starts = opened_two e a t starts
suited_two Audit e trail a t holds =
    let there : IsTrail holds.trail × Suits e.application.generation holds.trail.start = subst (CanBeAudited true e.application) holds.is trail in
    let is : t ≡ holds.trail.start = ap (λ (x : Stored). x.tables) holds.start in
    (subst IsSortedTables (sym is) there.0.sorted, subst (Suits e.application.generation) (sym is) there.1)
suited_two (Make n) e trail a t starts = absurd starts

-- from whatever tables a call over two copies goes on
pub laws_over_two : TextsOfTwoCanRun → ScriptsRunLawfully → (words : List (List ℕ)) (room : RoomState) (e : Errand) → ReadsTwo words room (Ok e) → (a : Both) (t : TableRows) → StartsTwo e a t → RunsLawfully (app_of e) t e.commands
laws_over_two can lawful words room e reads a t starts =
    let r = reads.reads in
    let runs = can reads.word r.definition r.units r.text e r.says in
    let there = suited_two e.word e runs.trail a t starts in lawful (app_of e) runs.applies t there.0 there.1 e.commands runs.names
