-- The report of the made script is the made lines, and the digest after them: line feeds count the lines.
use Rattle.std.proofs.Common.{ℕ, ◌++◌, ap, arith, refl}
use Rattle.std.specs.Prelude.{codes}
use Rattle.std.specs.Fmt.{digits}
use Rattle.std.proofs.lemmas.List.Elements.{All-from_recursion}
use Rattle.kd_base.specs.Text.{IsName}
use Rattle.application_types.specs.declared.kdcdef_types.entry.LtermEntry.{LtermEntry}
use Rattle.application_types.specs.declared.kdcdef_types.entry.PtermEntry.{PtermEntry}
use Rattle.application_types.specs.declared.kdcdef_types.entry.TacEntry.{TacEntry}
use Rattle.application_types.specs.declared.kdcdef_types.entry.UserEntry.{UserEntry}
use Rattle.application_types.specs.Soundness.{AreNamed}
use Rattle.kdcs_types.specs.RowLaws.{empty_sorted}
use Rattle.kdcs_types.specs.Tables.{empty_tables}
use Rattle.abstract_monitor.specs.Bytes.{Bytes}
use Rattle.abstract_monitor.specs.Made.{made_generation, made_application, made_script, made_lines, number_line, total_line}
use Rattle.abstract_monitor.specs.Trace.{tables_after, bytes_of}
use Rattle.laws_of_states.specs.Applications.{IsApplication}
use Rattle.laws_of_states.specs.Cut.{commits_in}
use Rattle.laws_of_states.specs.EmptyTablesLaws.{empty_suit}
use Rattle.script_read.specs.Spelling.{CommandsAreSaid}
use Rattle.call_parts.specs.EmittedLines.{CanStart, EmitsAreLines}
use Rattle.call_parts.specs.MadeReading.{made_acts, MakeReports}
use Rattle.call_parts.specs.MadeReport.{digest_line}
use Rattle.call_parts.proofs.MadeScript.{script_known}

names : AreNamed made_generation
unfolding digits
names = record {
  tacs = All-from_recursion (λ (e : Bytes × TacEntry). IsName e.0) made_generation.tacs ((omega arith, omega arith, refl), ((omega arith, omega arith, refl), tt));
  users = All-from_recursion (λ (e : Bytes × UserEntry). IsName e.0) made_generation.users
      ((omega arith, omega arith, refl), ((omega arith, omega arith, refl), ((omega arith, omega arith, refl), ((omega arith, omega arith, refl), tt))));
  pterms = All-from_recursion (λ (e : Bytes × PtermEntry). IsName e.0) made_generation.pterms
      ((omega arith, omega arith, refl), ((omega arith, omega arith, refl), ((omega arith, omega arith, refl), ((omega arith, omega arith, refl), tt))));
  lterms = All-from_recursion (λ (e : Bytes × LtermEntry). IsName e.0) made_generation.lterms
      ((omega arith, omega arith, refl), ((omega arith, omega arith, refl), ((omega arith, omega arith, refl), ((omega arith, omega arith, refl), tt))));
}

module _ (said : CommandsAreSaid) (emits : EmitsAreLines) (applies : IsApplication made_application) where
  can_start : (n : ℕ) → CanStart made_application empty_tables (made_script n)
  can_start n = record { application = applies; names = names; commands = script_known said n; order = empty_sorted; suits = empty_suit made_generation }

  pub make_reports : MakeReports
  unfolding made_lines
  make_reports n =
      let acts = made_acts n in
      let last = tables_after empty_tables acts in
      ap
      (λ (lines : ℕ).
      number_line (codes "INPUTS") n ++ number_line (codes "COMMITS") (commits_in acts) ++ number_line (codes "LINES") lines ++ number_line (codes "CLOCK") last.clock ++ total_line last ++ digest_line (bytes_of acts) last)
      (emits.count made_application empty_tables (made_script n) (can_start n))
