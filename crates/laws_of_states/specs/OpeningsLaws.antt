-- Transactions that open can go on.
use Rattle.std.specs.Prelude.{◌≡◌, refl, ◌≤◌, Bool, true, false, cond, ◌&&◌, IsTrue, List, [], ◌∷◌, length, sum_by, nat_le, Option, None, Some}
use Rattle.std.proofs.Common.{sym, subst, arith, true≢false}
use Rattle.std.proofs.lemmas.Bool.{leb-true}
use Rattle.std.proofs.lemmas.Bool.Decides.{Decides-eqb}
use Rattle.std.proofs.lemmas.List.{length-replicate}
use Rattle.std.proofs.lemmas.List.Sums.{sum_by-cons}
use Rattle.std.specs.List.{list_all}
use Rattle.std.specs.FinMap.{is_sorted}
use Rattle.kd_base.specs.ToolsLaws.{both_true, true_both}
use Rattle.kdcs_types.specs.declared.key.ServiceId.{ServiceId}
use Rattle.kdcs_types.specs.declared.key.ServiceId.TheVariants.{Dialogue, Asynchronous}
use Rattle.kdcs_types.specs.declared.key.Target.{Target}
use Rattle.kdcs_types.specs.declared.key.Target.TheVariants.{Tac}
use Rattle.kdcs_types.specs.declared.run_state.Header.{Header}
use Rattle.kdcs_types.specs.declared.service.Job.{Job}
use Rattle.kdcs_types.specs.declared.service.Service.{Service}
use Rattle.application_types.specs.declared.kdcdef_types.entry.TacEntry.{TacEntry}
use Rattle.application_types.specs.declared.kdcdef_types.entry.LtermEntry.{LtermEntry}
use Rattle.application_types.specs.Generation.{Generated, tac_of, lterm_of}
use Rattle.abstract_monitor.specs.Bytes.{Bytes, bytes_cmp}
use Rattle.abstract_monitor.specs.State.{OpenTransaction}
use Rattle.abstract_monitor.specs.Outcomes.{goes_first}
use Rattle.abstract_monitor.specs.Calls.{target_by, job_target}
use Rattle.abstract_monitor.specs.Endings.{is_asynchronous, header_of, kb_of, lssbs_of, opened, user_in_row, opened_by_start, opened_by_input, opened_by_row, opened_by_job, followed_by_input}
use Rattle.laws_of_states.specs.Suits.{fits_content, fits_message, has_kind, has_kind_by, is_user, is_lterm, owner_suits, service_suits, value_suits, target_suits, target_name, job_suits, last_due}
use Rattle.laws_of_states.specs.Transactions.{IsMessage, IsOwner, CanGoOn}
use Rattle.laws_of_states.specs.OpenLaws.{FurtherRunsGoOn, OpeningsGoOn}
use Rattle.laws_of_states.specs.RowPartsLaws.{RowSuits, row_parts}
use Rattle.laws_of_states.specs.StatedLaws.{puts_none, next_run_can, followed_can}
use Rattle.std.proofs.lemmas.Slice.Eq.{bytes_eq-Decides}

-- one part
pub one_message : (g : Generated) (input : Bytes) → IsTrue (fits_message g input) → IsMessage g (input ∷ [])
one_message g input h = record { count = omega arith; bytes = omega (arith, sum_by-cons length input [], leb-true (length input) g.limits.nb h) }

no_message : (g : Generated) → IsMessage g []
no_message g = record { count = omega arith; bytes = omega arith }

-- ---- openings

-- what a transaction opens with
record OpensWith (g : Generated) (id : ServiceId) (began : Option Service) (h : Header) (unread : List Bytes) : Type 0 where
  owner : IsOwner id h.benid
  user : IsTrue (is_user g h.benid)
  lterm : IsTrue (is_lterm g h.logter)
  first : IsTrue (has_kind g h.tacvg (is_asynchronous id))
  current : IsTrue (has_kind g h.tacal (is_asynchronous id))
  kb : length (kb_of g began) ≡ g.limits.kb
  message : IsMessage g unread
  lssbs_order : IsTrue (is_sorted bytes_cmp (lssbs_of began))
  lssbs_count : length (lssbs_of began) ≤ g.limits.lssbs
  lssbs : IsTrue (list_all (λ (l : Bytes × Bytes). fits_content l.1) (lssbs_of began))

opened_can : (g : Generated) (id : ServiceId) (began : Option Service) (h : Header) (unread inputs : List Bytes) → OpensWith g id began h unread → CanGoOn g id (opened g began h unread inputs)
unfolding opened
opened_can g id began h unread inputs w = record {
  owner = w.owner;
  user = w.user;
  lterm = w.lterm;
  first = w.first;
  current = w.current;
  header = refl;
  place = omega arith;
  read_length = omega arith;
  time = omega arith;
  kb = w.kb;
  spab = length-replicate g.limits.spab 32;
  unread = w.message;
  parts = no_message g;
  puts = puts_none id;
  written_order = refl;
  written = refl;
  written_held = refl;
  held_once = λ area. omega arith;
  lssbs_order = w.lssbs_order;
  lssbs_count = w.lssbs_count;
  lssbs = w.lssbs;
  drafts = refl;
}

pub starts_can : (g : Generated) (user lterm tac input : Bytes) → IsTrue (is_user g user) → IsTrue (is_lterm g lterm) → IsTrue (has_kind g tac false) → IsTrue (fits_message g input)
    → CanGoOn g (Dialogue user) (opened_by_start g user lterm tac input)
starts_can g user lterm tac input u l kind fits =
    opened_can g (Dialogue user) None (header_of user lterm tac tac) (input ∷ []) (input ∷ [])
    (record { owner = refl; user = u; lterm = l; first = kind; current = kind; kb = length-replicate g.limits.kb 32; message = one_message g input fits; lssbs_order = refl; lssbs_count = omega arith; lssbs = refl })

row_owner : (g : Generated) (id : ServiceId) (row : Service) → IsTrue (owner_suits id row) → IsTrue (is_user g row.user) → IsOwner id (user_in_row id row) × IsTrue (is_user g (user_in_row id row))
row_owner g (Dialogue user) row owner is = (refl, subst (λ (u : Bytes). IsTrue (is_user g u)) (sym ((bytes_eq-Decides user row.user).0 owner)) is)
row_owner g (Asynchronous number) row owner is = (tt, is)

row_opens : (g : Generated) (row : Service) (lterm : Bytes) (unread : List Bytes) → RowSuits g row → IsTrue (is_lterm g lterm) → IsMessage g unread
    → OpensWith g row.id (Some row) (header_of (user_in_row row.id row) lterm row.first row.next) unread
row_opens g row lterm unread r l message =
    let who = row_owner g row.id row r.owner r.user in
    record {
      owner = who.0;
      user = who.1;
      lterm = l;
      first = r.first;
      current = r.next;
      kb = (Decides-eqb (length row.kb) g.limits.kb).0 r.kb;
      message = message;
      lssbs_order = r.lssbs_order;
      lssbs_count = leb-true (length row.lssbs) g.limits.lssbs r.lssbs_count;
      lssbs = r.lssbs;
    }

pub inputs_can : (g : Generated) (user : Bytes) (row : Service) (lterm input : Bytes) → IsTrue (service_suits g row) → row.id ≡ Dialogue user → IsTrue (is_lterm g lterm) → IsTrue (fits_message g input)
    → CanGoOn g (Dialogue user) (opened_by_input g (Dialogue user) row lterm input)
inputs_can g user row lterm input suits same l fits =
    subst (λ (i : ServiceId). CanGoOn g i (opened_by_input g i row lterm input)) same
    (opened_can g row.id (Some row) (header_of (user_in_row row.id row) lterm row.first row.next) (input ∷ []) (input ∷ []) (row_opens g row lterm (input ∷ []) (row_parts g row suits) l (one_message g input fits)))

pub rows_can : (g : Generated) (id : ServiceId) (row : Service) (lterm : Bytes) → IsTrue (service_suits g row) → row.id ≡ id → IsTrue (is_lterm g lterm) → CanGoOn g id (opened_by_row g id row lterm)
rows_can g id row lterm suits same l =
    let r = row_parts g row suits in
    let message : IsMessage g row.handed = record { count = leb-true (length row.handed) 16 r.handed_count; bytes = leb-true (sum_by length row.handed) g.limits.nb r.handed } in
    subst (λ (i : ServiceId). CanGoOn g i (opened_by_row g i row lterm)) same
    (opened_can g row.id (Some row) (header_of (user_in_row row.id row) lterm row.first row.next) row.handed [] (row_opens g row lterm row.handed r l message))

-- ---- jobs

-- a target that a job may have and that is a TAC is an asynchronous one
target_by_kind : (g : Generated) (tac : Bytes) (l : Option LtermEntry) (t : Option TacEntry) → IsTrue (target_suits g (Tac tac) (target_by tac l t)) → IsTrue (has_kind_by t true)
target_by_kind g tac (Some l) t h = absurd (true≢false (sym h))
target_by_kind g tac None None h = absurd (true≢false (sym h))
target_by_kind g tac None (Some t) h = by (t.asynchronous && goes_first t.call && t.on) refl h
  where
    by : (b : Bool) → (t.asynchronous && goes_first t.call && t.on) ≡ b → IsTrue (target_suits g (Tac tac) (cond b (Some (Tac tac)) None)) → IsTrue t.asynchronous
    by true e k = (both_true t.asynchronous (goes_first t.call) (both_true (t.asynchronous && goes_first t.call) t.on e).0).0
    by false e k = absurd (true≢false (sym k))

pub tac_kind : (g : Generated) (tac : Bytes) → IsTrue (target_suits g (Tac tac) (job_target g tac)) → IsTrue (has_kind g tac true)
unfolding job_target
tac_kind g tac h = target_by_kind g tac (lterm_of g tac) (tac_of g tac) h

-- a job that suits, part by part
pub record JobSuits (g : Generated) (j : Job) : Type 0 where
  pub due : IsTrue (nat_le j.value.due last_due)
  pub user : IsTrue (is_user g j.value.user)
  pub lterm : IsTrue (is_lterm g j.value.lterm)
  pub message : IsTrue (fits_message g j.value.message)
  pub target : IsTrue (target_suits g j.value.to (job_target g (target_name j.value.to)))

pub job_parts : (g : Generated) (j : Job) → IsTrue (job_suits g j) → JobSuits g j
job_parts g j h =
    let a = both_true (value_suits g j.value && fits_message g j.value.message) (target_suits g j.value.to (job_target g (target_name j.value.to))) h in
    let b = both_true (value_suits g j.value) (fits_message g j.value.message) a.0 in
    let c = both_true (nat_le j.value.due last_due && is_user g j.value.user) (is_lterm g j.value.lterm) b.0 in
    let d = both_true (nat_le j.value.due last_due) (is_user g j.value.user) c.0 in
    record { due = d.0; user = d.1; lterm = c.1; message = b.1; target = a.1 }

pub job_whole : (g : Generated) (j : Job) → JobSuits g j → IsTrue (job_suits g j)
job_whole g j s =
    let c : IsTrue (nat_le j.value.due last_due && is_user g j.value.user) = true_both (nat_le j.value.due last_due) (is_user g j.value.user) s.due s.user in
    let b : IsTrue (value_suits g j.value) = true_both (nat_le j.value.due last_due && is_user g j.value.user) (is_lterm g j.value.lterm) c s.lterm in
    let a : IsTrue (value_suits g j.value && fits_message g j.value.message) = true_both (value_suits g j.value) (fits_message g j.value.message) b s.message in
    true_both (value_suits g j.value && fits_message g j.value.message) (target_suits g j.value.to (job_target g (target_name j.value.to))) a s.target

pub jobs_can : (g : Generated) (job : Job) (tac : Bytes) → IsTrue (job_suits g job) → job.value.to ≡ Tac tac → CanGoOn g (Asynchronous job.number) (opened_by_job g job.value tac)
jobs_can g job tac suits to =
    let s = job_parts g job suits in
    let kind = tac_kind g tac (subst (λ (t : Target). IsTrue (target_suits g t (job_target g (target_name t)))) to s.target) in
    opened_can g (Asynchronous job.number) None (header_of job.value.user job.value.lterm tac tac) (job.value.message ∷ []) []
    (record { owner = tt; user = s.user; lterm = s.lterm; first = kind; current = kind; kb = length-replicate g.limits.kb 32; message = one_message g job.value.message s.message; lssbs_order = refl; lssbs_count = omega arith; lssbs = refl })

pub openings_go_on : OpeningsGoOn
openings_go_on = record { starts = starts_can; inputs = inputs_can; rows = rows_can; jobs = jobs_can }

pub further_by_input : (g : Generated) (id : ServiceId) (x : OpenTransaction) (tac input : Bytes) → IsTrue (has_kind g tac (is_asynchronous id)) → IsTrue (fits_message g input) → CanGoOn g id x → CanGoOn g id (followed_by_input g x tac input)
unfolding followed_by_input
further_by_input g id x tac input kind fits can = next_run_can g id x tac (input ∷ []) (input ∷ []) kind (one_message g input fits) can

pub further_runs_go_on : FurtherRunsGoOn
further_runs_go_on = record { followed = followed_can; by_input = further_by_input }
