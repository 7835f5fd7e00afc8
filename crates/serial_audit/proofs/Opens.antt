-- How the transaction of a record opens.
use Rattle.std.specs.Prelude.{◌≡◌, refl, ℕ, zero, suc, Bool, true, false, IsTrue, IsSome, List, [], ◌∷◌, slice_get, Option, Some, None, Result, Ok, Err, IfOk, is_some}
use Rattle.std.specs.List.{list_all}
use Rattle.std.proofs.lemmas.Bool.{le-leb}
use Rattle.std.proofs.Common.{arith, sym, ap, subst, ◌∙◌, true≢false}
use Rattle.kd_base.specs.ToolsLaws.{both_true}
use Rattle.kdcs_types.specs.declared.key.ServiceId.{ServiceId}
use Rattle.kdcs_types.specs.declared.key.ServiceId.TheVariants.{Dialogue, Asynchronous}
use Rattle.kdcs_types.specs.declared.key.Key.TheVariants.{Service as ServiceKey}
use Rattle.kdcs_types.specs.declared.run_state.Header.{Header}
use Rattle.kdcs_types.specs.declared.service.JobValue.{JobValue}
use Rattle.kdcs_types.specs.declared.service.Service.{Service}
use Rattle.kdcs_types.specs.KeyedLaws.{found_passes}
use Rattle.kdcs_types.specs.Tables.{TableRows, job_of, lterm_fits, service_fits, service_key, service_of}
use Rattle.application_types.specs.Generation.{Generated}
use Rattle.abstract_monitor.specs.Bytes.{Bytes}
use Rattle.abstract_monitor.specs.Calls.{or_empty}
use Rattle.abstract_monitor.specs.Endings.{is_asynchronous, lterm_of_row, opened, opened_by_job}
use Rattle.abstract_monitor.specs.State.{Application}
use Rattle.abstract_monitor.specs.Statements.{Kept}
use Rattle.laws_of_states.specs.Replay.{accepted, dialogue_from, input_at, job_from, lterm_in, opened_from, tac_in}
use Rattle.laws_of_states.specs.Suits.{fits_message, has_kind, is_lterm, lterm_suits}
use Rattle.laws_of_states.specs.Transactions.{CanGoOn, HasOwnJob}
use Rattle.laws_of_states.specs.OpeningsLaws.{inputs_can, jobs_can, rows_can, starts_can}
use Rattle.laws_of_states.specs.PointLaws.{AreSound}
use Rattle.laws_of_states.specs.RowPartsLaws.{row_parts}
use Rattle.laws_of_states.specs.StatesLaws.{FoundRow, job_found, row_found}
use Rattle.open_transaction.specs.Transactions.{Boxed, HasOrder, boxed_transaction}
use Rattle.serial_audit.specs.Opening.{CanOpen, IsOpened, first_read, reads_first}
use Rattle.serial_audit.specs.Replaying.{IsAuditable, app_of, kept_in, tables_in}
use Rattle.serial_audit.specs.declared.replay.Replay.{Replay}
use Rattle.serial_audit.specs.Audit.{BeginsRightly, HasDueJob, HasShortItems, IsDueFor, has_user}

-- ---- what is read at the opening

-- an opening has the record's row
module _ (app : Application) (t : TableRows) (r : Kept) where
  pub opened_began : (id : ServiceId) (began : Option Service) → (opened_from app t r id began).began ≡ began
  unfolding opened
  opened_began (Dialogue user) None = refl
  opened_began (Dialogue user) (Some row) = by row.awaits
    where
      by : (b : Bool) → (dialogue_from app r user row b).began ≡ Some row
      by true = refl
      by false = refl
  opened_began (Asynchronous number) None = by (job_of t number)
    where
      by : (o : Option JobValue) → (job_from app r o).began ≡ None
      by None = refl
      by (Some job) = refl
  opened_began (Asynchronous number) (Some row) = refl

  -- holds nothing, has done nothing
  pub opened_fresh : (id : ServiceId) (began : Option Service) → ((opened_from app t r id began).touched ≡ []) × ((opened_from app t r id began).statements ≡ 0)
  unfolding opened
  opened_fresh (Dialogue user) None = (refl, refl)
  opened_fresh (Dialogue user) (Some row) = by row.awaits
    where
      by : (b : Bool) → ((dialogue_from app r user row b).touched ≡ []) × ((dialogue_from app r user row b).statements ≡ 0)
      by true = (refl, refl)
      by false = (refl, refl)
  opened_fresh (Asynchronous number) None = by (job_of t number)
    where
      by : (o : Option JobValue) → ((job_from app r o).touched ≡ []) × ((job_from app r o).statements ≡ 0)
      by None = (refl, refl)
      by (Some job) = (refl, refl)
  opened_fresh (Asynchronous number) (Some row) = (refl, refl)

-- an input is one of the record; an absent one would be empty
pub input_fits : (g : Generated) (inputs : List Bytes) (n : ℕ) → IsTrue (list_all (fits_message g) inputs) → IsTrue (fits_message g (or_empty (slice_get inputs n)))
input_fits g [] n all = le-leb 0 g.limits.nb (omega arith)
input_fits g (input ∷ inputs) zero all = (both_true (fits_message g input) (list_all (fits_message g) inputs) all).0
input_fits g (input ∷ inputs) (suc n) all = input_fits g inputs n (both_true (fits_message g input) (list_all (fits_message g) inputs) all).1

-- the LTERM of an asynchronous service's row is there, and is the generation's
pub row_lterm : (g : Generated) (t : TableRows) (number : ℕ) (row : Service) → AreSound g t → service_of t (Asynchronous number) ≡ Some row → IsSome row.lterm × IsTrue (is_lterm g (lterm_of_row row.lterm))
row_lterm g t number row sound e = by row.lterm fits (row_parts g row found.suits).lterm
  where
    found : FoundRow g (Asynchronous number) row
    found = row_found g t (Asynchronous number) row sound e

    fits : IsTrue (lterm_fits (Asynchronous number) row.lterm)
    fits =
        subst (λ (id : ServiceId). IsTrue (lterm_fits id row.lterm)) found.own
        (both_true (lterm_fits row.id row.lterm) _ (found_passes service_key service_fits (ServiceKey (Asynchronous number)) t.services row sound.order.services_fit e)).0

    by : (o : Option Bytes) → IsTrue (lterm_fits (Asynchronous number) o) → IsTrue (lterm_suits g o) → IsSome o × IsTrue (is_lterm g (lterm_of_row o))
    by None there suits = absurd (true≢false (sym there))
    by (Some lterm) there suits = (refl, suits)

-- a row has its LSSBs in order
pub row_order : (g : Generated) (t : TableRows) (id : ServiceId) (began : Option Service) → AreSound g t → service_of t id ≡ began → HasOrder began
row_order g t id None sound e = tt
row_order g t id (Some row) sound e = (row_parts g row (row_found g t id row sound e).suits).lssbs_order

-- a due job is there
pub due_there : (clock : ℕ) (tac : Bytes) (o : Option JobValue) → IsDueFor clock tac o → IsSome o
due_there clock tac None due = absurd due
due_there clock tac (Some job) due = refl

pub own_job : (t : TableRows) (r : Kept) (id : ServiceId) (began : Option Service) → HasDueJob t r id began → HasOwnJob t id began
own_job t r (Dialogue user) began due = tt
own_job t r (Asynchronous number) (Some row) due = tt
own_job t r (Asynchronous number) None due = due_there t.clock (tac_in r) (job_of t number) due

-- the transaction of a record can go on
module _ (app : Application) (t : TableRows) (r : Kept) (sound : AreSound app.generation t) (begins : BeginsRightly app.generation r) (short : HasShortItems app.generation r) where
  abbrev g : Generated
  g = app.generation

  first_fits : IsTrue (fits_message g (input_at r 0))
  first_fits = input_fits g (accepted r) 0 short.inputs

  dialogue_can : (user : Bytes) (row : Service) → FoundRow g (Dialogue user) row → (b : Bool) → CanGoOn g (Dialogue user) (dialogue_from app r user row b)
  dialogue_can user row found true = inputs_can g user row (lterm_in r) (input_at r 0) found.suits found.own begins.lterm first_fits
  dialogue_can user row found false = rows_can g (Dialogue user) row (lterm_in r) found.suits found.own begins.lterm

  job_can : (number : ℕ) (o : Option JobValue) → job_of t number ≡ o → IsDueFor t.clock (tac_in r) o → CanGoOn g (Asynchronous number) (job_from app r o)
  job_can number None is due = absurd due
  job_can number (Some job) is due =
      let found = job_found g t number job sound is in
      subst (λ (v : JobValue). CanGoOn g (Asynchronous number) (opened_by_job g v (tac_in r))) found.value_is
      (subst (λ (n : ℕ). CanGoOn g (Asynchronous n) (opened_by_job g found.job.value (tac_in r))) found.number_is
      (jobs_can g found.job (tac_in r) found.suits (ap (λ (v : JobValue). v.to) found.value_is ∙ due.1)))

  pub opened_can : (id : ServiceId) (began : Option Service) → service_of t id ≡ began → IsTrue (has_user g id) → IsTrue (has_kind g (tac_in r) (is_asynchronous id)) → HasDueJob t r id began → CanGoOn g id (opened_from app t r id began)
  opened_can (Dialogue user) None e there kind due = starts_can g user (lterm_in r) (tac_in r) (input_at r 0) there begins.lterm kind first_fits
  opened_can (Dialogue user) (Some row) e there kind due = dialogue_can user row (row_found g t (Dialogue user) row sound e) row.awaits
  opened_can (Asynchronous number) None e there kind due = job_can number (job_of t number) refl due
  opened_can (Asynchronous number) (Some row) e there kind due =
      let found = row_found g t (Asynchronous number) row sound e in
      rows_can g (Asynchronous number) row (lterm_of_row row.lterm) found.suits found.own (row_lterm g t number row sound e).1

-- ---- the row of a record

-- its LSSBs are in order
pub began_order : (p : Replay) (row : Service) → IsAuditable p → CanOpen p → (kept_in p).began ≡ Some row → HasOrder (Some row)
began_order p row auditable can is = row_order (app_of p).generation (tables_in p) (kept_in p).service (Some row) auditable.sound (can.rooted ∙ is)

-- and an asynchronous service's has its LTERM
pub began_lterm : (p : Replay) (number : ℕ) (row : Service) → IsAuditable p → CanOpen p → (kept_in p).service ≡ Asynchronous number → (kept_in p).began ≡ Some row → row.lterm ≡ None → ⊥
began_lterm p number row auditable can own is none =
    true≢false
    (sym (row_lterm (app_of p).generation (tables_in p) number row auditable.sound (ap (service_of (tables_in p)) (sym own) ∙ can.rooted ∙ is)).0
    ∙ ap (λ (o : Option Bytes). is_some o) none)

-- ---- the opening in the code

module _ (p : Replay) where
  -- a dialogue service without a row reads the first input
  pub started : (user : Bytes) → (kept_in p).service ≡ Dialogue user → (kept_in p).began ≡ None → (tac lterm : Bytes) → tac ≡ tac_in (kept_in p) → lterm ≡ lterm_in (kept_in p)
      → reads_first p None (record { benid = user; logter = lterm; tacvg = tac; tacal = tac }) ≡ opened_from (app_of p) (tables_in p) (kept_in p) (kept_in p).service (kept_in p).began
  started user own none tac lterm tac_is lterm_is =
      (λ i. reads_first p None (record { benid = user; logter = lterm_is i; tacvg = tac_is i; tacal = tac_is i }))
      ∙ (λ i. opened_from (app_of p) (tables_in p) (kept_in p) (sym own i) (sym none i))

  pub opened_with : (began : Option Service) (header : Header) (input : Bytes) → input ≡ first_read (kept_in p) → {E : Type 0} (o : Result Boxed E)
      → IfOk o (λ (b : Boxed). boxed_transaction b ≡ opened (app_of p).generation began header (input ∷ []) (input ∷ []))
      → IfOk o (λ (b : Boxed). b.value.id ≡ (kept_in p).service)
      → IfOk o (λ (b : Boxed). b.value.messages.nb ≡ (app_of p).generation.limits.nb)
      → IfOk o (IsOpened p (reads_first p began header))
  opened_with began header input same (Err e) is own nb = tt
  opened_with began header input same (Ok b) is own nb = record { is = is ∙ ap (λ (k : Bytes). opened (app_of p).generation began header (k ∷ []) (k ∷ [])) same; own = own; nb = nb }
