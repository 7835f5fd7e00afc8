-- What holds of a state where a terminal input has its use.
use Rattle.std.specs.Prelude.{◌≡◌, refl, Bool, true, false, not, ◌||◌, length, Option, Some, None, nat_lt, bytes_eq, codes, if◌then◌else◌}
use Rattle.std.specs.FinMap.{find}
use Rattle.std.specs.List.{list_any}
use Rattle.kd_base.specs.Text.{name_of}
use Rattle.kdcs_types.specs.declared.key.ServiceId.TheVariants.{Dialogue}
use Rattle.application_types.specs.declared.kdcdef_types.entry.TacEntry.{TacEntry}
use Rattle.application_types.specs.declared.kdcdef_types.entry.UserEntry.{UserEntry}
use Rattle.application_types.specs.Generation.{Generated, user_of}
use Rattle.abstract_monitor.specs.declared.access.Denial.{Denial}
use Rattle.abstract_monitor.specs.declared.input_use.ServiceState.{ServiceState}
use Rattle.abstract_monitor.specs.declared.input_use.ServiceState.TheVariants.{NoService, Awaits, Running}
use Rattle.abstract_monitor.specs.declared.input_use.Use.{Use}
use Rattle.abstract_monitor.specs.declared.input_use.Use.TheVariants.{Sign, SignFirst, AlreadySigned, Off, Display, Output, Again, TooLong, Next, Start}
use Rattle.abstract_monitor.specs.Bytes.{Bytes, bytes_cmp}
use Rattle.abstract_monitor.specs.Access.{denial_of}
use Rattle.abstract_monitor.specs.Commands.{lterm_at, user_by, use_now}
use Rattle.abstract_monitor.specs.Outcomes.{goes_first}
use Rattle.abstract_monitor.specs.Sessions.{Split, split_at, first_word, after_word, is_running, is_awaiting, service_state_by, service_state, same_password, has_user, sign_by, sign_user, sign_name}
use Rattle.abstract_monitor.specs.Sessions.{sign_on_use, use_unsigned, admitted, start_by, tac_named, use_of_text, off_use, use_signed, use_by, use_under, use_of}
use Rattle.abstract_monitor.specs.State.{Application, Session, State}

-- the user is signed on at the terminal, and its service is neither ready nor in a task
pub record IsAtRest (s : State) (pterm : Bytes) (v : Session) : Type 0 where
  pub signed : find bytes_cmp pterm s.signed ≡ Some v
  pub rests : is_running s (Dialogue v.user) ≡ false

-- a user signs on where nobody is, and is signed on nowhere else; a service goes on where it awaits an input, and starts where there is none
abbrev pub IsFor : State → Bytes → Use → Type 0
IsFor s pterm (Sign name) = (find bytes_cmp pterm s.signed ≡ None) × (list_any (has_user name) s.signed ≡ false)
IsFor s pterm Off = (v : Session) × (find bytes_cmp pterm s.signed ≡ Some v)
IsFor s pterm (Next text) = (v : Session) × IsAtRest s pterm v × (is_awaiting s (Dialogue v.user) ≡ true)
IsFor s pterm (Start tac text) = (v : Session) × IsAtRest s pterm v × (is_awaiting s (Dialogue v.user) ≡ false)
IsFor s pterm _ = Unit {0}

either : (s : State) (pterm : Bytes) (b : Bool) (x y : Use) → IsFor s pterm x → IsFor s pterm y → IsFor s pterm (if b then x else y)
either s pterm true x y a h = a
either s pterm false x y a h = h

-- ---- without a session

module _ (s : State) (pterm : Bytes) (free : find bytes_cmp pterm s.signed ≡ None) where
  sign_fits : (right other : Bool) (name : Bytes) → list_any (has_user name) s.signed ≡ other → IsFor s pterm (sign_by right (not other) name)
  sign_fits false other name e = tt
  sign_fits true true name e = tt
  sign_fits true false name e = (free, e)

  user_fits : (name : Bytes) (pass : Option Bytes) (u : Option UserEntry) → IsFor s pterm (sign_user s.signed name pass u)
  user_fits name pass None = tt
  user_fits name pass (Some u) = sign_fits (same_password u.pass pass) (list_any (has_user name) s.signed) name refl

  name_fits : (g : Generated) (pass name : Option Bytes) → IsFor s pterm (sign_name g s.signed pass name)
  name_fits g pass None = tt
  name_fits g pass (Some name) = user_fits name pass (user_of g name)

  unsigned_fits : (g : Generated) (r : Split) → IsFor s pterm (use_unsigned g s.signed r)
  unsigned_fits g r =
      let q = split_at 44 (after_word r) in
      either s pterm (bytes_eq r.word (codes "KDCSIGN")) (sign_on_use g s.signed q) SignFirst (name_fits g q.rest (name_of q.word)) tt

-- ---- within a session

module _ (s : State) (pterm : Bytes) (v : Session) (on : find bytes_cmp pterm s.signed ≡ Some v) where
  admitted_fits : (g : Generated) (tac text : Bytes) (o : Option Denial) → IsAtRest s pterm v → is_awaiting s (Dialogue v.user) ≡ false → IsFor s pterm (admitted g tac text o)
  admitted_fits g tac text (Some denial) rest none = tt
  admitted_fits g tac text None rest none = either s pterm (nat_lt g.limits.nb (length text)) _ _ tt (v, rest, none)

  start_fits : (g : Generated) (denies : Bytes → Option Denial) (tac text : Bytes) (t : Option TacEntry) → IsAtRest s pterm v → is_awaiting s (Dialogue v.user) ≡ false
      → IsFor s pterm (start_by g denies tac text t)
  start_fits g denies tac text None rest none = tt
  start_fits g denies tac text (Some t) rest none =
      either s pterm (t.asynchronous || not (goes_first t.call)) _ _ tt
      (either s pterm (not t.on) _ _ tt (admitted_fits g tac text (denies tac) rest none))

  text_fits : (g : Generated) (denies : Bytes → Option Denial) (text : Bytes) (r : Split) (running awaiting : Bool) → is_running s (Dialogue v.user) ≡ running → is_awaiting s (Dialogue v.user) ≡ awaiting
      → IsFor s pterm (use_of_text g denies text r (service_state_by running awaiting))
  text_fits g denies text r true awaiting e f = tt
  text_fits g denies text r false true e f = either s pterm (nat_lt g.limits.nb (length text)) TooLong (Next text) tt (v, record { signed = on; rests = e }, f)
  text_fits g denies text r false false e f = start_fits g denies r.word (after_word r) (tac_named g r.word) (record { signed = on; rests = e }) f

  off_fits : (state : ServiceState) → IsFor s pterm (off_use state)
  off_fits Running = tt
  off_fits Awaits = (v, on)
  off_fits NoService = (v, on)

  signed_fits : (g : Generated) (denies : Bytes → Option Denial) (text : Bytes) (r : Split) → IsFor s pterm (use_signed g denies text r (service_state s v.user))
  unfolding service_state
  signed_fits g denies text r =
      let state = service_state s v.user in
      either s pterm (bytes_eq r.word (codes "KDCSIGN")) AlreadySigned _ tt
      (either s pterm (bytes_eq r.word (codes "KDCDISP")) Display _ tt
      (either s pterm (bytes_eq r.word (codes "KDCOUT")) Output _ tt
      (either s pterm (bytes_eq r.word (codes "KDCLAST")) Again _ tt
      (either s pterm (bytes_eq r.word (codes "KDCOFF")) (off_use state) (use_of_text g denies text r state) (off_fits state)
      (text_fits g denies text r (is_running s (Dialogue v.user)) (is_awaiting s (Dialogue v.user)) refl refl)))))

-- what the use of an input may take of the state
pub use_fits : (app : Application) (s : State) (pterm text : Bytes) → IsFor s pterm (use_now app s pterm text)
unfolding use_of use_under use_now
use_fits app s pterm text = by (find bytes_cmp pterm s.signed) refl
  where
    by : (o : Option Session) → find bytes_cmp pterm s.signed ≡ o → IsFor s pterm (use_by app.generation (denial_of app.generation) s.signed (service_state s (user_by o)) (lterm_at app pterm) text o)
    by None e = unsigned_fits s pterm e app.generation (first_word text)
    by (Some v) e = signed_fits s pterm v e app.generation (denial_of app.generation v.user (lterm_at app pterm)) text (first_word text)
