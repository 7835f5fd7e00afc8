-- Laws: what refuses a synchronisation point, by what the transaction wrote.
use Rattle.std.specs.Prelude.{◌≡◌, refl, ℕ, ◌+◌, true, false, List, [], ◌∷◌, length, sum_by, Option, Some, None, nat_lt, if◌then◌else◌}
use Rattle.std.proofs.Common.{sym, ap, ◌∙◌, arith}
use Rattle.std.proofs.lemmas.List.Sums.{sum_by-cons}
use Rattle.std.proofs.lemmas.Bool.Decides.{nat_tests}
use Rattle.kdcs_types.specs.declared.act.Change.{Change}
use Rattle.kdcs_types.specs.declared.call.Cause.{Cause}
use Rattle.kdcs_types.specs.declared.call.Cause.TheVariants.{E09, E10, E11}
use Rattle.kdcs_types.specs.declared.key.ServiceId.{ServiceId}
use Rattle.kdcs_types.specs.declared.key.ServiceId.TheVariants.{Dialogue, Asynchronous}
use Rattle.kdcs_types.specs.declared.service.Service.{Service}
use Rattle.kd_base.specs.Limits.{last_next_job}
use Rattle.kdcs_types.specs.RowLaws.{numbers_changed}
use Rattle.kdcs_types.specs.Tables.{AreChanges, IsSortedTables, TableRows, changed, gssb_row, job_row, service_row, shown_row, tls_row, uls_row, with_changes}
use Rattle.application_types.specs.Generation.{Generated}
use Rattle.abstract_monitor.specs.declared.outcome.Outcome.{Outcome}
use Rattle.abstract_monitor.specs.Charges.{total_charge}
use Rattle.abstract_monitor.specs.Endings.{durable, refusal, row_after, synchronised, with_areas, with_drafts, with_service, without_own_job}
use Rattle.abstract_monitor.specs.State.{OpenTransaction}
use Rattle.laws_of_states.specs.PointLaws.{IsSoundlyOpen}
use Rattle.table_fit.specs.Weights.{made_weight, replaced_weight, weight}
use Rattle.table_fit.specs.WeightsLaws.{changes_weigh}
use Rattle.service_parts.specs.Areas.{changes_of}
use Rattle.sync_points.specs.PointChanges.{point_changes}
use Rattle.sync_points.specs.MadeLaws.{points_after, points_make, written_made}
use Rattle.sync_points.specs.Refusals.{gssb_weight}

-- ---- GSSBs

zeros : {X : Type 0} (xs : List X) → sum_by (λ x. 0) xs ≡ 0
zeros [] = refl
zeros (x ∷ xs) = omega (arith, sum_by-cons (λ x. 0) x xs, zeros xs)

ones : {X : Type 0} (xs : List X) → sum_by (λ x. 1) xs ≡ length xs
ones [] = refl
ones (x ∷ xs) = omega (arith, sum_by-cons (λ x. 1) x xs, ones xs)

pub gssbs_weigh : (t : TableRows) → weight gssb_weight t ≡ length t.gssbs
gssbs_weigh t =
    let a : sum_by (λ r. gssb_weight (gssb_row r)) t.gssbs ≡ length t.gssbs = ones t.gssbs in
    let b : sum_by (λ r. gssb_weight (tls_row r)) t.tlss ≡ 0 = zeros t.tlss in
    let c : sum_by (λ r. gssb_weight (uls_row r)) t.ulss ≡ 0 = zeros t.ulss in
    let d : sum_by (λ s. gssb_weight (service_row s)) t.services ≡ 0 = zeros t.services in
    let e : sum_by (λ j. gssb_weight (job_row j)) t.jobs ≡ 0 = zeros t.jobs in
    let f : sum_by (λ r. gssb_weight (shown_row r)) t.shown ≡ 0 = zeros t.shown in
    omega arith

-- how many GSSBs there are after changes
pub gssbs_after : (t : TableRows) (cs : List Change) → IsSortedTables t → AreChanges cs → length (with_changes t cs).gssbs + replaced_weight gssb_weight t cs ≡ length t.gssbs + made_weight gssb_weight cs
gssbs_after t cs h are = omega (arith, changes_weigh gssb_weight t cs h are.ascending are.fit, gssbs_weigh t, gssbs_weigh (with_changes t cs))

-- two differences that are the same
pub lt_alike : (a b c d : ℕ) → a + d ≡ c + b → nat_lt a b ≡ nat_lt c d
lt_alike a b c d e = grind (arith, nat_tests)

-- ---- the tests

abbrev pub refused_by : Generated → (gssbs next pages : ℕ) → Option Cause
refused_by g gssbs next pages =
    if nat_lt g.limits.gssbs gssbs then Some E10
    else if nat_lt last_next_job next then Some E11
    else if nat_lt g.limits.pgpool pages then Some E09
    else None

module _ (g : Generated) (t : TableRows) (id : ServiceId) (x : OpenTransaction) (o : Outcome) where
  gssbs_of : (u : TableRows) (began r : Option Service) → (durable g (with_service (with_drafts (without_own_job u id began) x) id r)).gssbs ≡ u.gssbs
  unfolding durable
  gssbs_of u began r = by id began r
    where
      by : (i : ServiceId) (began r : Option Service) → (with_service (with_drafts (without_own_job u i began) x) i r).gssbs ≡ u.gssbs
      by (Dialogue user) began None = refl
      by (Dialogue user) began (Some r) = refl
      by (Asynchronous number) (Some began) None = refl
      by (Asynchronous number) (Some began) (Some r) = refl
      by (Asynchronous number) None None = refl
      by (Asynchronous number) None (Some r) = refl

  gssbs_left : (durable g (synchronised g t id x o)).gssbs ≡ (with_changes t (changes_of x.written)).gssbs
  unfolding synchronised
  gssbs_left = gssbs_of (with_areas t x.written) x.began (row_after g id x o) ∙ ap (λ (u : TableRows). u.gssbs) (sym (written_made x.written t))

  -- the tests of a refusal, by what the transaction wrote
  pub refusal_is : IsSoundlyOpen g t id x → refusal g (durable g (synchronised g t id x o)) ≡ refused_by g (length (with_changes t (changes_of x.written)).gssbs) (t.next_job + length x.drafts) (total_charge g.limits.blksize (durable g (changed t (point_changes g t id x o))))
  unfolding refusal
  refusal_is s i =
      let made = points_make g t id x o s in
      let next : (durable g (synchronised g t id x o)).next_job ≡ t.next_job + length x.drafts = ap (λ (u : TableRows). u.next_job) made ∙ (numbers_changed (durable g t) (point_changes g t id x o)).1 in
      refused_by g (length (gssbs_left i)) (next i) (total_charge g.limits.blksize (points_after g t id x o s i))

-- what a test found
module _ (g : Generated) (gssbs next pages : ℕ) where
  pub too_many : nat_lt g.limits.gssbs gssbs ≡ true → refused_by g gssbs next pages ≡ Some E10
  too_many a i = if a i then Some E10 else if nat_lt last_next_job next then Some E11 else if nat_lt g.limits.pgpool pages then Some E09 else None

  pub spent : nat_lt g.limits.gssbs gssbs ≡ false → nat_lt last_next_job next ≡ true → refused_by g gssbs next pages ≡ Some E11
  spent a b i = if a i then Some E10 else if b i then Some E11 else if nat_lt g.limits.pgpool pages then Some E09 else None

  pub full : nat_lt g.limits.gssbs gssbs ≡ false → nat_lt last_next_job next ≡ false → nat_lt g.limits.pgpool pages ≡ true → refused_by g gssbs next pages ≡ Some E09
  full a b c i = if a i then Some E10 else if b i then Some E11 else if c i then Some E09 else None

  pub passed : nat_lt g.limits.gssbs gssbs ≡ false → nat_lt last_next_job next ≡ false → nat_lt g.limits.pgpool pages ≡ false → refused_by g gssbs next pages ≡ None
  passed a b c i = if a i then Some E10 else if b i then Some E11 else if c i then Some E09 else None
