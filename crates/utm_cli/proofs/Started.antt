-- Tables that a call starts from, and the laws of its script.
use Rattle.std.proofs.Common.{◌≡◌, inl, true, List, [], refl, sym, ap, subst}
use Rattle.std.specs.Prelude.{ℕ}
use Rattle.kdcs_types.specs.Tables.{IsSortedTables}
use Rattle.laws_of_states.specs.Suits.{Suits}
use Rattle.application_types.specs.Soundness.{AreLimits}
use Rattle.kdcfile_update.specs.Laws.{TakenTablesSuit}
use Rattle.kdcfile_update.specs.Updating.{Stored}
use Rattle.audit_trail.specs.Facts.{IsTrail}
use Rattle.call_parts.specs.Asking.{Errand, CanBeAudited, CanRun, app_of}
use Rattle.call_parts.specs.Words.{audits}
use Rattle.utm_cli.specs.Doing.{StartsBy, Starts, tables_by, tables_of}
use Rattle.call_parts.specs.declared.words.Word.{Word}
use Rattle.call_parts.specs.declared.words.Word.TheVariants.{Gen, Run, Show, Update, Trail, Audit, Make}
use Rattle.call_ends.specs.LawfulRuns.{RunsLawfully, ScriptsRunLawfully}
use Rattle.call_ends.specs.OpenedLaws.{opened_one}

suited_by : (word : Word) (e : Errand) → CanBeAudited (audits word) e.application e.trail → TakenTablesSuit → AreLimits e.application.generation.limits → (bytes : List ℕ) (s : Stored) → StartsBy word e bytes s → IsSortedTables (tables_by word e s) × Suits e.application.generation (tables_by word e s)
suited_by Gen e trail taken limits bytes s starts = opened_one e bytes s.tables starts.opens
suited_by Run e trail taken limits bytes s starts = opened_one e bytes s.tables starts.opens
suited_by Show e trail taken limits bytes s starts = opened_one e bytes s.tables starts.opens
suited_by Update e trail taken limits bytes s takes = let on = taken e.application.generation e.fingerprint bytes s limits takes in (on.tables.sorted, on.suits)
suited_by Trail e trail taken limits bytes s starts = opened_one e bytes s.tables starts.opens
suited_by Audit e trail taken limits bytes s holds =
    let there : IsTrail holds.trail × Suits e.application.generation holds.trail.start = subst (CanBeAudited true e.application) holds.is trail in
    let is : s.tables ≡ holds.trail.start = ap (λ (x : Stored). x.tables) holds.start in
    (subst IsSortedTables (sym is) there.0.sorted, subst (Suits e.application.generation) (sym is) there.1)
suited_by (Make n) e trail taken limits bytes s is = opened_one e [] s.tables (inl (refl, ap (λ (x : Stored). x.tables) is))

pub runs_lawfully : (e : Errand) → CanRun e → AreLimits e.application.generation.limits → TakenTablesSuit → ScriptsRunLawfully → (bytes : List ℕ) (s : Stored) → Starts e bytes s → RunsLawfully (app_of e) (tables_of e s) e.commands
runs_lawfully e can limits taken suited bytes s starts =
    let there = suited_by e.word e can.trail taken limits bytes s starts in suited (app_of e) can.applies (tables_of e s) there.0 there.1 e.commands can.names
