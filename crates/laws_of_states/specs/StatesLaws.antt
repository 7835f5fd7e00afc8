-- Parts of a sound state, one after another: tables, sessions and open transactions.
use Rattle.std.specs.Prelude.{◌≡◌, refl, ℕ, Bool, true, false, cond, ◌&&◌, not, IsTrue, IsSome, IfSome, List, Option, None, Some, bytes_eq}
use Rattle.std.proofs.Common.{sym, ap, subst, ◌∙◌, true≢false}
use Rattle.std.specs.Option.{option_map}
use Rattle.std.specs.Ordering.{eq_by_cmp}
use Rattle.std.specs.declared.cmp.Ordering.TheVariants.{Equal}
use Rattle.std.specs.Cmp.Lexicographic.{nat_list_cmp_total}
use Rattle.std.specs.FinMap.{find, put, slice_cmp-IsAntisymmetric, nat_cmp-IsAntisymmetric}
use Rattle.std.specs.FinMap.Entries.{where_key, find-put, find-where_key}
use Rattle.kd_base.specs.ToolsLaws.{both_true, some_is}
use Rattle.kdcs_types.specs.declared.key.Area.{Area}
use Rattle.kdcs_types.specs.declared.key.Area.TheVariants.{Gssb, Tls, Uls}
use Rattle.kdcs_types.specs.declared.key.Key.TheVariants.{Gssb as GssbKey, Tls as TlsKey, Uls as UlsKey, Service as ServiceKey, Job as JobKey}
use Rattle.kdcs_types.specs.declared.key.ServiceId.{ServiceId}
use Rattle.kdcs_types.specs.declared.service.Job.{Job}
use Rattle.kdcs_types.specs.declared.service.JobValue.{JobValue}
use Rattle.kdcs_types.specs.declared.service.Service.{Service}
use Rattle.kdcs_types.specs.Keys.{id_cmp, id_eq}
use Rattle.kdcs_types.specs.Keyed.{item_at}
use Rattle.kdcs_types.specs.KeyLaws.{id_total, same_id, id_eq_same}
use Rattle.kdcs_types.specs.KeyedLaws.{found_key, found_passes}
use Rattle.kdcs_types.specs.Tables.{TableRows, gssb_key, tls_key, uls_key, service_key, job_key, content_of, service_of, job_of}
use Rattle.application_types.specs.declared.kdcdef_types.entry.PtermEntry.{PtermEntry}
use Rattle.application_types.specs.Generation.{Generated, pterm_of, has_tls, has_uls}
use Rattle.abstract_monitor.specs.Bytes.{Bytes, bytes_cmp}
use Rattle.abstract_monitor.specs.State.{Application, OpenTransaction, Session, State}
use Rattle.abstract_monitor.specs.Locks.{Active, Locks, told_now}
use Rattle.abstract_monitor.specs.Commands.{lterm_at}
use Rattle.abstract_monitor.specs.Sessions.{lterm_by}
use Rattle.laws_of_states.specs.Applications.{IsApplication}
use Rattle.abstract_monitor.specs.CommandsOf.{is_pterm}
use Rattle.laws_of_states.specs.Suits.{gssb_suits, tls_suits, uls_suits, is_user, is_lterm, fits_content, service_suits, job_suits}
use Rattle.laws_of_states.specs.Transactions.{fits_if_there, CanGoOn}
use Rattle.laws_of_states.specs.Facts.{IsSessionOf, IsSoundState}
use Rattle.laws_of_states.specs.ItemsLaws.{job_number}
use Rattle.laws_of_states.specs.OpenLaws.{ToldFits}
use Rattle.laws_of_states.specs.PointLaws.{AreSound}
use Rattle.laws_of_states.specs.SoundRowsLaws.{good}
use Rattle.std.specs.Cmp.{Equal-is}

-- sessions are of declared PTERMs and users
abbrev pub Sessions : Application → List (Bytes × Session) → Type 0
Sessions app signed = (pterm : Bytes) → IfSome (find bytes_cmp pterm signed) (λ (v : Session). IsSessionOf app (pterm, v))

-- each open transaction can go on
abbrev pub Opens : Application → Active → Type 0
Opens app active = (id : ServiceId) (x : OpenTransaction) → find id_cmp id active ≡ Some x → CanGoOn app.generation id x

pub record Parts (app : Application) (s : State) : Type 0 where
  pub tables : AreSound app.generation s.tables
  pub sessions : Sessions app s.signed
  pub opens : Opens app s.active

pub parts_of : (app : Application) (s : State) → IsSoundState app s → Parts app s
parts_of app s h = record { tables = record { order = h.order; suits = h.suits; rows = h.rows }; sessions = h.sessions; opens = h.transactions }

pub sound_state : (app : Application) (s : State) → Parts app s → IsSoundState app s
sound_state app s p = record { order = p.tables.order; suits = p.tables.suits; rows = p.tables.rows; sessions = p.sessions; transactions = p.opens }

-- ---- open transactions

pub opens_put : (app : Application) (active : Active) (id : ServiceId) (y : OpenTransaction) → Opens app active → CanGoOn app.generation id y → Opens app (put id_cmp id y active)
opens_put app active id y opens can q x e = by (id_eq q id) refl (sym (find-put id_cmp id_total q id y active) ∙ e)
  where
    by : (b : Bool) → id_eq q id ≡ b → cond b (Some y) (find id_cmp q active) ≡ Some x → CanGoOn app.generation q x
    by true same is = subst (λ (z : OpenTransaction). CanGoOn app.generation q z) (some_is y x is) (subst (λ (i : ServiceId). CanGoOn app.generation i y) (sym (id_eq_same q id same)) can)
    by false same is = opens q x is

pub opens_without : (app : Application) (active : Active) (id : ServiceId) → Opens app active → Opens app (where_key id_cmp (λ i. not (id_eq id i)) active)
opens_without app active id opens q x e = by (not (id_eq id q)) (sym (find-where_key id_cmp (λ k. not (id_eq id k)) q alike active) ∙ e)
  where
    alike : (k : ServiceId) → id_cmp q k ≡ Equal → not (id_eq id k) ≡ not (id_eq id q)
    alike k same = ap (λ (i : ServiceId). not (id_eq id i)) (sym (same_id q k same))

    by : (b : Bool) → cond b (find id_cmp q active) None ≡ Some x → CanGoOn app.generation q x
    by true is = opens q x is
    by false is = absurd cc

-- ---- sessions

names_same : (a b : Bytes) → bytes_cmp a b ≡ Equal → a ≡ b
names_same a b e = slice_cmp-IsAntisymmetric nat_cmp-IsAntisymmetric a b e

pub sessions_put : (app : Application) (signed : List (Bytes × Session)) (pterm : Bytes) (v : Session) → Sessions app signed → IsSessionOf app (pterm, v) → Sessions app (put bytes_cmp pterm v signed)
sessions_put app signed pterm v sessions is q =
    subst (λ (o : Option Session). IfSome o (λ (w : Session). IsSessionOf app (q, w))) (sym (find-put bytes_cmp nat_list_cmp_total q pterm v signed)) (by (eq_by_cmp bytes_cmp q pterm) refl)
  where
    by : (b : Bool) → eq_by_cmp bytes_cmp q pterm ≡ b → IfSome (cond b (Some v) (find bytes_cmp q signed)) (λ (w : Session). IsSessionOf app (q, w))
    by true same = subst (λ (p : Bytes). IsSessionOf app (p, v)) (sym (names_same q pterm ((Equal-is _).0 same))) is
    by false same = sessions q

pub sessions_without : (app : Application) (signed : List (Bytes × Session)) (pterm : Bytes) → Sessions app signed → Sessions app (where_key bytes_cmp (λ p. not (bytes_eq pterm p)) signed)
sessions_without app signed pterm sessions q =
    subst (λ (o : Option Session). IfSome o (λ (w : Session). IsSessionOf app (q, w))) (sym (find-where_key bytes_cmp (λ p. not (bytes_eq pterm p)) q alike signed)) (by (not (bytes_eq pterm q)))
  where
    alike : (k : Bytes) → bytes_cmp q k ≡ Equal → not (bytes_eq pterm k) ≡ not (bytes_eq pterm q)
    alike k same = ap (λ (p : Bytes). not (bytes_eq pterm p)) (sym (names_same q k same))

    by : (b : Bool) → IfSome (cond b (find bytes_cmp q signed) None) (λ (w : Session). IsSessionOf app (q, w))
    by true = sessions q
    by false = tt

pub session_found : (app : Application) (signed : List (Bytes × Session)) (pterm : Bytes) (v : Session) → Sessions app signed → find bytes_cmp pterm signed ≡ Some v → IsSessionOf app (pterm, v)
session_found app signed pterm v sessions e = subst (λ (o : Option Session). IfSome o (λ (w : Session). IsSessionOf app (pterm, w))) e (sessions pterm)

-- the LTERM of a declared PTERM is declared
pub lterm_declared : (app : Application) (pterm : Bytes) → IsApplication app → IsTrue (is_pterm app.generation pterm) → IsTrue (is_lterm app.generation (lterm_at app pterm))
lterm_declared app pterm application is = by (pterm_of app.generation pterm) (application.terminals pterm) is
  where
    by : (o : Option PtermEntry) → IfSome o (λ (p : PtermEntry). IsTrue (is_lterm app.generation p.lterm)) → IsSome o → IsTrue (is_lterm app.generation (lterm_by o))
    by None h is = absurd (true≢false (sym is))
    by (Some p) h is = h

-- ---- what is found in sound tables

-- a service's row
pub record FoundRow (g : Generated) (id : ServiceId) (row : Service) : Type 0 where
  pub suits : IsTrue (service_suits g row)
  pub own : row.id ≡ id

pub row_found : (g : Generated) (t : TableRows) (id : ServiceId) (row : Service) → AreSound g t → service_of t id ≡ Some row → FoundRow g id row
row_found g t id row s e = record {
  suits = found_passes service_key (service_suits g) (ServiceKey id) t.services row s.rows e;
  own = same row.id (found_key service_key (ServiceKey id) t.services row e);
}
  where
    same : (i : ServiceId) → ServiceKey i ≡ ServiceKey id → i ≡ id
    same i f = cc

-- a job
pub record FoundJob (g : Generated) (number : ℕ) (value : JobValue) : Type 0 where
  pub job : Job
  pub suits : IsTrue (job_suits g job)
  pub number_is : job.number ≡ number
  pub value_is : job.value ≡ value

pub job_found : (g : Generated) (t : TableRows) (number : ℕ) (value : JobValue) → AreSound g t → job_of t number ≡ Some value → FoundJob g number value
job_found g t number value s e = by (item_at job_key (JobKey number) t.jobs) refl e
  where
    by : (o : Option Job) → item_at job_key (JobKey number) t.jobs ≡ o → option_map (λ (j : Job). j.value) o ≡ Some value → FoundJob g number value
    by None is f = absurd cc
    by (Some j) is f = record {
      job = j;
      suits = found_passes job_key (job_suits g) (JobKey number) t.jobs j (good g t s).jobs.1 is;
      number_is = job_number number t.jobs j is;
      value_is = some_is j.value value f;
    }

-- the content of an area is short
content_fits : (g : Generated) (t : TableRows) (area : Area) → AreSound g t → IsTrue (fits_if_there (content_of t area))
content_fits g t (Gssb name) s = by (item_at gssb_key (GssbKey name) t.gssbs) refl
  where
    by : (o : Option (Bytes × Bytes)) → item_at gssb_key (GssbKey name) t.gssbs ≡ o → IsTrue (fits_if_there (option_map (λ (r : Bytes × Bytes). r.1) o))
    by None e = refl
    by (Some r) e = found_passes gssb_key gssb_suits (GssbKey name) t.gssbs r (good g t s).gssbs.1 e
content_fits g t (Tls block lterm) s = by (item_at tls_key (TlsKey block lterm) t.tlss) refl
  where
    by : (o : Option (Bytes × Bytes × Bytes)) → item_at tls_key (TlsKey block lterm) t.tlss ≡ o → IsTrue (fits_if_there (option_map (λ (r : Bytes × Bytes × Bytes). r.2) o))
    by None e = refl
    by (Some r) e = (both_true (has_tls g r.0 && is_lterm g r.1) (fits_content r.2) (found_passes tls_key (tls_suits g) (TlsKey block lterm) t.tlss r (good g t s).tlss.2 e)).1
content_fits g t (Uls block user) s = by (item_at uls_key (UlsKey block user) t.ulss) refl
  where
    by : (o : Option (Bytes × Bytes × Bytes)) → item_at uls_key (UlsKey block user) t.ulss ≡ o → IsTrue (fits_if_there (option_map (λ (r : Bytes × Bytes × Bytes). r.2) o))
    by None e = refl
    by (Some r) e = (both_true (has_uls g r.0 && is_user g r.1) (fits_content r.2) (found_passes uls_key (uls_suits g) (UlsKey block user) t.ulss r (good g t s).ulss.2 e)).1

pub told_fits : (g : Generated) (t : TableRows) (l : Locks) (reswait : ℕ) (id : ServiceId) (o : Option Area) → AreSound g t → ToldFits (told_now l reswait t id o)
unfolding told_now
told_fits g t l reswait id None s = refl
told_fits g t l reswait id (Some area) s = content_fits g t area s
