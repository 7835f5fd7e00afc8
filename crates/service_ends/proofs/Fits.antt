-- What outlives a stop fits into the page pool while the end of a transaction is committed.
use Rattle.std.specs.Prelude.{◌≡◌, refl, ◌≤◌, Bool, true, false, cond, [], ◌∷◌, Option, None}
use Rattle.std.proofs.Common.{arith, ap, sym, subst, ◌∙◌}
use Rattle.kd_base.specs.ToolsLaws.{both_true}
use Rattle.kdcs_types.specs.declared.act.Changes.{Changes}
use Rattle.kdcs_types.specs.declared.key.ServiceId.{ServiceId}
use Rattle.kdcs_types.specs.declared.service.Service.{Service}
use Rattle.kdcs_types.specs.declared.service.Settled.{Settled}
use Rattle.kdcs_types.specs.RowLaws.{changed_sorted}
use Rattle.kdcs_types.specs.Tables.{TableRows, AreChanges, change_fits, changed}
use Rattle.abstract_monitor.specs.declared.outcome.Outcome.{Outcome}
use Rattle.abstract_monitor.specs.Charges.{total_charge}
use Rattle.abstract_monitor.specs.Endings.{broken, durable, is_durable, refusal, service_change, synchronised, with_service}
use Rattle.laws_of_states.specs.CommitLaws.{durable_difference}
use Rattle.laws_of_states.specs.ShownEndsLaws.{end_made, point_made}
use Rattle.laws_of_states.specs.EndsLaws.{ends_stay_sound}
use Rattle.laws_of_states.specs.PointLaws.{AreSound, IsSoundlyOpen}
use Rattle.laws_of_states.specs.PointsLaws.{not_refused}
use Rattle.open_transaction.specs.Transactions.{Boxed, boxed_transaction}
use Rattle.table_fit.specs.Pages.{FitPool}
use Rattle.sync_points.specs.MadeLaws.{service_durable}
use Rattle.service_ends.specs.declared.core_state.parts.MonitorParts.{MonitorParts}
use Rattle.service_ends.specs.Ending.{CanCommit}
use Rattle.service_ends.proofs.Ended.{IsPassed}

-- a commit that comes to tables whose durable rows fit
commits : (p : MonitorParts) (c : Changes) (id : ServiceId) (row : Option Service) (new : TableRows) → AreSound p.generation p.tables → AreChanges c.items → AreChanges (service_change id row ∷ [])
    → with_service (changed p.tables c) id row ≡ new → (is_durable p.generation id ≡ true → changed p.tables c ≡ new) → FitPool p.generation new → CanCommit p c id row
commits p c id row new sound are own tables alone fit = record {
  changes = are;
  own = own;
  alone = λ lasts. alone lasts ∙ sym tables;
  before = sound.suits.charge;
  between = by (is_durable p.generation id) refl;
  after = with_row;
}
  where
    with_row : FitPool p.generation (with_service (changed p.tables c) id row)
    with_row = subst (FitPool p.generation) (sym tables) fit

    -- a row that no stop leaves takes no pages, and any other is among the changes
    by : (b : Bool) → is_durable p.generation id ≡ b → FitPool p.generation (changed p.tables c)
    by true kept = subst (FitPool p.generation) (sym (alone kept)) fit
    by false none =
        let made = changed p.tables c in
        let same : durable p.generation (with_service made id row) ≡ durable p.generation made =
        service_durable p.generation made id row (changed_sorted p.tables c sound.order are) (both_true (change_fits (service_change id row)) true own.fit).0
        ∙ ap (λ (b : Bool). cond b (with_service (durable p.generation made) id row) (durable p.generation made)) none in
        subst (λ (u : TableRows). total_charge p.generation.limits.blksize u ≤ p.generation.limits.pgpool) same with_row

-- an abnormal end takes no more pages
pub end_commits : (p : MonitorParts) (w : Boxed) (c : Changes) (id : ServiceId) → c ≡ durable_difference p.generation p.tables (broken p.generation p.tables w.value.id (boxed_transaction w)) → id ≡ w.value.id
    → IsSoundlyOpen p.generation p.tables w.value.id (boxed_transaction w) → CanCommit p c id None
end_commits p w c id is own stands =
    let g = p.generation in
    let t = p.tables in
    let new = broken g t w.value.id (boxed_transaction w) in
    let made = end_made g t w.value.id (boxed_transaction w) stands.sound.order in
    let less = (ends_stay_sound g t w.value.id (boxed_transaction w) stands.sound).charge in
    let fit : FitPool g new = omega (arith, less, stands.sound.suits.charge) in
    subst (λ (i : ServiceId). CanCommit p c i None) (sym own)
    (subst (λ (cs : Changes). CanCommit p cs w.value.id None) (sym is) (commits p (durable_difference g t new) w.value.id None new stands.sound made.changes made.own made.tables made.alone fit))

-- a point that needs too many is refused
pub point_commits : (p : MonitorParts) (w : Boxed) (o : Outcome) (c : Changes) (row : Option Service) (kept : Settled) (id : ServiceId)
    → IsPassed p.generation p.tables w o (refusal p.generation (durable p.generation (synchronised p.generation p.tables w.value.id (boxed_transaction w) o))) c row kept → id ≡ w.value.id
    → IsSoundlyOpen p.generation p.tables w.value.id (boxed_transaction w) → CanCommit p c id row
point_commits p w o c row kept id passed own stands =
    let g = p.generation in
    let t = p.tables in
    let new = synchronised g t w.value.id (boxed_transaction w) o in
    let made = point_made g t w.value.id (boxed_transaction w) o stands in
    let all = commits p (durable_difference g t new) w.value.id _ new stands.sound made.changes made.own made.tables made.alone (not_refused g (durable g new) passed.none).charge in
    subst (λ (i : ServiceId). CanCommit p c i row) (sym own)
    (subst (λ (cs : Changes). CanCommit p cs w.value.id row) (sym passed.changes_are) (subst (λ (r : Option Service). CanCommit p (durable_difference g t new) w.value.id r) (sym passed.row_is) all))
