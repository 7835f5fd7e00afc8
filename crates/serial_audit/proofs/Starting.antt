-- What holds where a replay starts.
use Rattle.std.specs.Prelude.{◌≡◌, ◌-◌, ◌^◌, ℕ, true, false, cond, min, Option, None, Result, IfOk}
use Rattle.std.proofs.Common.{arith, sym, ap, subst, ◌∙◌}
use Rattle.std.proofs.lemmas.Result.{IfOk-weaker}
use Rattle.kdcs_types.specs.declared.act.Changes.{Changes}
use Rattle.kdcs_types.specs.declared.service.Settled.{Settled}
use Rattle.kdcs_types.specs.Tables.{TableRows, IsSortedTables}
use Rattle.application_types.specs.Soundness.{AreLimits}
use Rattle.application_types.specs.declared.kdcdef_types.limits.Limits.{Limits}
use Rattle.application_types.specs.Generation.{Generated}
use Rattle.abstract_monitor.specs.Charges.{total_charge}
use Rattle.abstract_monitor.specs.Endings.{durable, is_durable, with_service}
use Rattle.abstract_monitor.specs.Statements.{kept_of}
use Rattle.laws_of_runs.specs.Applied.{applied}
use Rattle.laws_of_states.specs.Applications.{IsApplication}
use Rattle.laws_of_states.specs.Replay.{with_began}
use Rattle.laws_of_states.specs.Suits.{Suits}
use Rattle.application_types.specs.Fitted.{FittedUnits, IsFit}
use Rattle.serial_audit.specs.Audit.{BeganIn, IsTrailRecord}
use Rattle.serial_audit.specs.Expecting.{ExpectsReplay, IsReady, IsReplayed}
use Rattle.serial_audit.specs.Opening.{Rooted}
use Rattle.serial_audit.specs.Replaying.{Auditable}
use Rattle.serial_audit.proofs.Bases.{restored, start_durable, start_job, start_service, start_sound}
use Rattle.serial_audit.proofs.Expects.{replay_expected}

module _ (g : Generated) (units : FittedUnits) (t : TableRows) (r : Settled) (sorted : IsSortedTables t) (suits : Suits g t) (ready : IsReady g t r) where
  abbrev start : TableRows
  start = with_began g t (kept_of r)

  -- the service's row lasts, or it is put in
  pub lasting : is_durable g r.service ≡ true → t ≡ start
  lasting e = sym (ap (λ b. cond b t (with_service t r.service r.began)) e)

  pub put_in : is_durable g r.service ≡ false → (u : TableRows) → u ≡ with_service t r.service r.began → u ≡ start
  put_in e u is = is ∙ sym (ap (λ b. cond b t (with_service t r.service r.began)) e)

  -- and taken out again
  pub taken_out : is_durable g r.service ≡ false → (u v : TableRows) → u ≡ with_service t r.service r.began → v ≡ with_service u r.service None → v ≡ t
  taken_out e u v is out =
      out ∙ ap (λ (w : TableRows). with_service w r.service None) is
      ∙ restored g t sorted suits r.service r.began e (subst (λ b. BeganIn g t r.service b r.began) e ready.began)

  module _ (u : TableRows) (is : u ≡ start) where
    pub start_auditable : IsFit g units → IsApplication (applied g units) → IsTrailRecord r → Auditable g units u (kept_of r)
    start_auditable fit application kept = subst (λ (v : TableRows). Auditable g units v (kept_of r)) (sym is) (record {
      fit = fit;
      application = application;
      sound = start_sound g t sorted suits (kept_of r) ready.began;
      begins = ready.begins;
      short = ready.short;
      made = kept.notes;
    })

    pub start_rooted : Rooted g u (kept_of r)
    start_rooted = subst (λ (v : TableRows). Rooted g v (kept_of r)) (sym is) (record {
      rooted = start_service g t sorted suits (kept_of r) ready.began;
      user = ready.user;
      job = start_job g t sorted suits (kept_of r) ready.began ready.job;
    })

    -- its durable rows are the tables, and take no more pages than there are
    pub start_charged : AreLimits g.limits → (limits : Limits) (charge : ℕ) → limits ≡ g.limits → charge ≡ min (total_charge limits.blksize t) (2 ^ 64 - 1) → charge ≡ total_charge g.limits.blksize (durable g u)
    start_charged are limits charge same e =
        let whole : charge ≡ min (total_charge g.limits.blksize t) (2 ^ 64 - 1) = e ∙ ap (λ (m : Limits). min (total_charge m.blksize t) (2 ^ 64 - 1)) same in
        let few : charge ≡ total_charge g.limits.blksize t = omega (arith, whole, suits.charge, are.pgpool) in
        few ∙ ap (total_charge g.limits.blksize) (sym (ap (durable g) is ∙ start_durable g t sorted suits (kept_of r) ready.began))

    pub start_expects : (o : Option Changes) → IsReplayed (applied g units) u r o → ExpectsReplay (applied g units) t r o
    start_expects o replayed = replay_expected (applied g units) t sorted suits r ready o (subst (λ (v : TableRows). IsReplayed (applied g units) v r o) is replayed)

    pub start_expects_ok : {E : Type 0} (o : Result (Option Changes) E) → IfOk o (IsReplayed (applied g units) u r) → IfOk o (ExpectsReplay (applied g units) t r)
    start_expects_ok o replayed = IfOk-weaker o _ _ start_expects replayed
