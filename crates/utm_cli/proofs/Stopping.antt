-- A run that stopped, or on which a call failed.
use Rattle.std.proofs.Common.{◌≡◌, ◌≤◌, inl, inr, ⊎_elim, subst, ◌∙◌, arith}
use Rattle.std.specs.Prelude.{Result, Ok, Err, OnErr}
use Rattle.kd_device.specs.Device.{State}
use Rattle.kdcfile_update.specs.Updating.{Stored}
use Rattle.kdcs_types.specs.Tables.{TableRows}
use Rattle.device_acts.specs.Stands.{StandsForTables}
use Rattle.device_run.specs.StoppingLaws.{halted_after, stopped_after}
use Rattle.call_parts.specs.Asking.{Errand, app_of, looking_word}
use Rattle.call_parts.specs.Opening.{Opens, identity_of}
use Rattle.utm_cli.specs.Doing.{acts_of, own}
use Rattle.utm_cli.specs.Promise.{HaltsRun, StopsRun, begun_with}
use Rattle.call_parts.specs.declared.errand.Looking.{Looking}
use Rattle.call_parts.specs.declared.errand.Looking.TheVariants as looking
use Rattle.call_parts.specs.declared.words.Word.TheVariants.{Run}
use Rattle.utm_cli.proofs.ByWord.{opened_once}

-- what holds at all holds after an error
pub at_error : {T E : Type 0} (P : Type 0) (r : Result T E) → P → OnErr r P
at_error P (Ok x) h = tt
at_error P (Err e) h = h

pub on_err_weaker : {T E P Q : Type 0} (r : Result T E) → (P → Q) → OnErr r P → OnErr r Q
on_err_weaker (Ok x) f h = tt
on_err_weaker (Err e) f h = f h

-- what is looked at is no run
pub looking_is_no_run : (l : Looking) → looking_word l ≡ Run → ⊥
looking_is_no_run looking.Listing is = cc
looking_is_no_run (looking.Trail commands) is = cc

-- ---- seen from before the file was opened

module _ (e : Errand) (s : Stored) (a b d : State) (sent : b.sent ≡ a.sent) (lines : a.line_faults ≤ b.line_faults) where
  stops_over : StopsRun e s b d → StopsRun e s a d
  stops_over (inl silent) = inl (silent ∙ sent)
  stops_over (inr (n, h)) = inr (n, stopped_after a b d sent lines (StandsForTables (identity_of e)) (begun_with (app_of e) s.tables) e.commands n d.holds h)

  halts_over : HaltsRun e s b d → HaltsRun e s a d
  halts_over (inl rose) = inl (omega (arith, lines, rose))
  halts_over (inr (inl silent)) = inr (inl (silent ∙ sent))
  halts_over (inr (inr h)) = ⊎_elim (λ line. inl line) (λ halts. inr (inr halts)) (halted_after a b d sent lines (acts_of e s) (inr h))

module _ (e : Errand) (t u : TableRows) (a b d : State) (starts : Opens e a.holds t) (again : Opens e a.holds u) (sent : b.sent ≡ a.sent) (lines : a.line_faults ≤ b.line_faults) where
  same_tables : t ≡ u
  same_tables = opened_once e a.holds t u starts again

  pub opened_stops : StopsRun e (own e t) b d → StopsRun e (own e u) a d
  opened_stops h = subst (λ (v : TableRows). StopsRun e (own e v) a d) same_tables (stops_over e (own e t) a b d sent lines h)

  pub opened_halts : HaltsRun e (own e t) b d → HaltsRun e (own e u) a d
  opened_halts h = subst (λ (v : TableRows). HaltsRun e (own e v) a d) same_tables (halts_over e (own e t) a b d sent lines h)
