-- What holds of an input's use: its user, TAC and text are declared and short.
use Rattle.std.specs.Prelude.{◌≡◌, refl, Bool, true, false, ◌||◌, ◌&&◌, not, IsTrue, IfSome, List, [], length, Option, None, Some, is_some, nat_lt, nat_le, option_and_then, bytes_eq, codes}
use Rattle.std.specs.Prelude.{if◌then◌else◌}
use Rattle.std.proofs.Common.{ap, ◌∙◌}
use Rattle.std.proofs.lemmas.Bool.{le-leb, ltb-false}
use Rattle.std.specs.List.{list_any, list_all}
use Rattle.application_types.specs.declared.kdcdef_types.entry.TacEntry.{TacEntry}
use Rattle.application_types.specs.declared.kdcdef_types.entry.UserEntry.{UserEntry}
use Rattle.application_types.specs.Generation.{Generated, tac_of, user_of}
use Rattle.kd_base.specs.Text.{name_of, is_name_byte}
use Rattle.abstract_monitor.specs.declared.access.Denial.{Denial}
use Rattle.abstract_monitor.specs.declared.input_use.TacFault.TheVariants.{NotAllowed, IsOff}
use Rattle.abstract_monitor.specs.declared.input_use.ServiceState.{ServiceState}
use Rattle.abstract_monitor.specs.declared.input_use.ServiceState.TheVariants.{NoService, Awaits, Running}
use Rattle.abstract_monitor.specs.declared.input_use.Use.{Use}
use Rattle.abstract_monitor.specs.declared.input_use.Use.TheVariants.{Sign, SignFirst, AlreadySigned, Display, Output, Again, TooLong, Next, Start, TacRefused}
use Rattle.abstract_monitor.specs.Bytes.{Bytes}
use Rattle.abstract_monitor.specs.Access.{Rule}
use Rattle.abstract_monitor.specs.State.{Session}
use Rattle.abstract_monitor.specs.Outcomes.{goes_first}
use Rattle.abstract_monitor.specs.Sessions.{Split, first_word, after_word, split_at, same_password, has_user, sign_by, sign_user, sign_name, sign_on_use, use_unsigned, admitted, start_by, tac_named}
use Rattle.abstract_monitor.specs.Sessions.{use_of_text, off_use, use_signed, use_by}
use Rattle.abstract_monitor.specs.Commands.{user_by}
use Rattle.laws_of_states.specs.Suits.{is_user, has_kind, has_kind_by, fits_message}

-- the input that a service awaits
pub record NextFits (g : Generated) (user : Bytes) (state : ServiceState) (text : Bytes) : Type 0 where
  pub is : IsTrue (is_user g user)
  pub awaits : state ≡ Awaits
  pub fits : IsTrue (fits_message g text)

-- an input that starts a service
pub record StartFits (g : Generated) (user tac text : Bytes) : Type 0 where
  pub is : IsTrue (is_user g user)
  pub kind : IsTrue (has_kind g tac false)
  pub fits : IsTrue (fits_message g text)

abbrev pub UseFits : Generated → (user : Bytes) → ServiceState → Use → Type 0
UseFits g user state (Sign name) = IsTrue (is_user g name)
UseFits g user state (Next text) = NextFits g user state text
UseFits g user state (Start tac text) = StartFits g user tac text
UseFits g user state _ = Unit {0}

module _ (g : Generated) (user : Bytes) (state : ServiceState) where
  abbrev Fits : Use → Type 0
  Fits u = UseFits g user state u

  either : (b : Bool) (u w : Use) → Fits u → Fits w → Fits (if b then u else w)
  either true u w h k = h
  either false u w h k = k

  short_or_too_long : (text : Bytes) (u : Use) → (IsTrue (fits_message g text) → Fits u) → Fits (if nat_lt g.limits.nb (length text) then TooLong else u)
  short_or_too_long text u h = by (nat_lt g.limits.nb (length text)) refl
    where
      by : (b : Bool) → nat_lt g.limits.nb (length text) ≡ b → Fits (if b then TooLong else u)
      by true e = tt
      by false e = h (le-leb (length text) g.limits.nb (ltb-false g.limits.nb (length text) e))

  sign_by_fits : (right free : Bool) (name : Bytes) → IsTrue (is_user g name) → Fits (sign_by right free name)
  sign_by_fits false free name h = tt
  sign_by_fits true false name h = tt
  sign_by_fits true true name h = h

  sign_user_fits : (signed : List (Bytes × Session)) (name : Bytes) (pass : Option Bytes) (o : Option UserEntry) → user_of g name ≡ o → Fits (sign_user signed name pass o)
  sign_user_fits signed name pass None e = tt
  sign_user_fits signed name pass (Some u) e = sign_by_fits (same_password u.pass pass) (not (list_any (has_user name) signed)) name (ap (λ (o : Option UserEntry). is_some o) e)

  sign_name_fits : (signed : List (Bytes × Session)) (pass o : Option Bytes) → Fits (sign_name g signed pass o)
  sign_name_fits signed pass None = tt
  sign_name_fits signed pass (Some name) = sign_user_fits signed name pass (user_of g name) refl

  unsigned_fits : (signed : List (Bytes × Session)) (r : Split) → Fits (use_unsigned g signed r)
  unsigned_fits signed r =
      let split = split_at 44 (after_word r) in
      either (bytes_eq r.word (codes "KDCSIGN")) (sign_on_use g signed split) SignFirst (sign_name_fits signed split.rest (name_of split.word)) tt

  -- a word that names a TAC is its name
  named_tac : (word : Bytes) (t : TacEntry) → tac_named g word ≡ Some t → tac_of g word ≡ Some t
  named_tac word t e = by (nat_le 1 (length word) && nat_le (length word) 8 && list_all is_name_byte word) e
    where
      by : (b : Bool) → option_and_then (tac_of g) (if b then Some word else None) ≡ Some t → tac_of g word ≡ Some t
      by true h = h
      by false h = absurd cc

  admitted_fits : (tac text : Bytes) (o : Option Denial) → (IsTrue (fits_message g text) → Fits (Start tac text)) → Fits (admitted g tac text o)
  admitted_fits tac text (Some denial) h = tt
  admitted_fits tac text None h = short_or_too_long text (Start tac text) h

  start_fits : (denies : Bytes → Option Denial) (tac text : Bytes) (o : Option TacEntry) → tac_named g tac ≡ o → IsTrue (is_user g user) → Fits (start_by g denies tac text o)
  start_fits denies tac text None e is = tt
  start_fits denies tac text (Some t) e is = by t.asynchronous refl (not (goes_first t.call))
    where
      by : (a : Bool) → t.asynchronous ≡ a → (b : Bool) → Fits (if a || b then TacRefused NotAllowed else if not t.on then TacRefused IsOff else admitted g tac text (denies tac))
      by true d b = tt
      by false d true = tt
      by false d false =
          either (not t.on) (TacRefused IsOff) (admitted g tac text (denies tac)) tt
          (admitted_fits tac text (denies tac) (λ fits. record { is = is; kind = ap (λ (o : Option TacEntry). has_kind_by o false) (named_tac tac t e) ∙ ap not d; fits = fits }))

  text_fits : (denies : Bytes → Option Denial) (text : Bytes) (r : Split) (s : ServiceState) → state ≡ s → IsTrue (is_user g user) → Fits (use_of_text g denies text r s)
  text_fits denies text r Running e is = tt
  text_fits denies text r Awaits e is = short_or_too_long text (Next text) (λ fits. record { is = is; awaits = e; fits = fits })
  text_fits denies text r NoService e is = start_fits denies r.word (after_word r) (tac_named g r.word) refl is

  off_fits : (s : ServiceState) → Fits (off_use s)
  off_fits Running = tt
  off_fits Awaits = tt
  off_fits NoService = tt

  signed_fits : (denies : Bytes → Option Denial) (text : Bytes) (r : Split) → IsTrue (is_user g user) → Fits (use_signed g denies text r state)
  signed_fits denies text r is =
      either (bytes_eq r.word (codes "KDCSIGN")) AlreadySigned _ tt
      (either (bytes_eq r.word (codes "KDCDISP")) Display _ tt
      (either (bytes_eq r.word (codes "KDCOUT")) Output _ tt
      (either (bytes_eq r.word (codes "KDCLAST")) Again _ tt
      (either (bytes_eq r.word (codes "KDCOFF")) (off_use state) (use_of_text g denies text r state) (off_fits state) (text_fits denies text r state refl is)))))

pub use_fits : (g : Generated) (rule : Rule) (signed : List (Bytes × Session)) (state : Bytes → ServiceState) (lterm text : Bytes) (o : Option Session) → IfSome o (λ (v : Session). IsTrue (is_user g v.user))
    → UseFits g (user_by o) (state (user_by o)) (use_by g rule signed (state (user_by o)) lterm text o)
use_fits g rule signed state lterm text None h = unsigned_fits g [] (state []) signed (first_word text)
use_fits g rule signed state lterm text (Some v) h = signed_fits g v.user (state v.user) (rule v.user lterm) text (first_word text) h
