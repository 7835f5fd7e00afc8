-- What a generation says is the same without key sets, but for its rule: how inputs and statements read it.
use Rattle.std.specs.Prelude.{◌≡◌, refl, Bool, true, false, List, [], ◌∷◌, map, filter, length, cond, Option, Some, None, option_map, is_some, nat_le, bytes_eq, codes, if◌then◌else◌}
use Rattle.std.proofs.Common.{sym, ap, ◌∙◌}
use Rattle.std.specs.FinMap.{find}
use Rattle.kd_base.specs.Text.{name_of}
use Rattle.kd_base.specs.declared.words.Variant.{Variant}
use Rattle.kdcs_types.specs.declared.call.Call.{Call}
use Rattle.kdcs_types.specs.declared.call.Call.TheVariants.{Init, Mget, Mput, Fget, Fput, Dput, SgetGb, SputGb, SrelGb, SgetKp, SgetRl, SputMs, SrelLb, SgetUs, SputUs, Gtda, Ptda, UnlkGb, UnlkUs}
use Rattle.kdcs_types.specs.declared.call.Call.TheVariants.{UnlkDa, Pend}
use Rattle.kdcs_types.specs.declared.key.ServiceId.{ServiceId}
use Rattle.kdcs_types.specs.declared.key.ServiceId.TheVariants.{Dialogue, Asynchronous}
use Rattle.kdcs_types.specs.declared.key.Target.{Target}
use Rattle.kdcs_types.specs.declared.service.JobValue.{JobValue}
use Rattle.kdcs_types.specs.declared.service.Service.{Service}
use Rattle.kdcs_types.specs.declared.act.Act.TheVariants.{Commit}
use Rattle.kdcs_types.specs.Difference.{difference}
use Rattle.kdcs_types.specs.Tables.{TableRows}
use Rattle.application_types.specs.declared.kdcdef_types.entry.LtermEntry.{LtermEntry}
use Rattle.application_types.specs.declared.kdcdef_types.entry.TacEntry.{TacEntry}
use Rattle.application_types.specs.declared.kdcdef_types.entry.UserEntry.{UserEntry}
use Rattle.application_types.specs.Generation.{Generated, entry_of, tac_of, user_of, lterm_of, pterm_of}
use Rattle.application_types.specs.UnitText.{UnitText}
use Rattle.abstract_monitor.specs.declared.draft.Due.{Due}
use Rattle.abstract_monitor.specs.declared.input_use.ServiceState.{ServiceState}
use Rattle.abstract_monitor.specs.declared.input_use.Use.{Use}
use Rattle.abstract_monitor.specs.declared.input_use.Use.TheVariants.{SignFirst}
use Rattle.abstract_monitor.specs.Access.{Rule, denial_of}
use Rattle.abstract_monitor.specs.Bytes.{Bytes, bytes_cmp}
use Rattle.abstract_monitor.specs.Calls.{Told, Performed, name_in_operand, with_name, within_length, drafted, target_by, job_target, put_job, moment_by, follow_up_entry, name_by}
use Rattle.abstract_monitor.specs.Calls.{has_message, pend, pended, called, called_by, call_outcome}
use Rattle.abstract_monitor.specs.Contents.{number_of}
use Rattle.abstract_monitor.specs.Endings.{followed, followed_by_input, restarts_by, restarts, is_durable, durable}
use Rattle.abstract_monitor.specs.Outcomes.{pend_outcome}
use Rattle.abstract_monitor.specs.Redelivery.{is_tried_again, dead_letter_queue, fate_by, fate}
use Rattle.abstract_monitor.specs.Sessions.{Split, first_word, after_word, split_at, sign_user, sign_name, use_unsigned, lterm_by, use_by, use_under, use_of}
use Rattle.abstract_monitor.specs.State.{Application, OpenTransaction, Session, unit_of}
use Rattle.abstract_monitor.specs.Statement.{Meaning, Plain, Asks, Ends, step}
use Rattle.abstract_monitor.specs.Statements.{area_in_unit, area_of, by_performed, by_step, in_unit, statement}
use Rattle.abstract_monitor.specs.Turns.{commit_of}
use Rattle.laws_of_runs.specs.Access.{HasNoLocks, user_without_keys, lterm_without_keys, without_keys, keyless}
use Rattle.laws_of_runs.proofs.laws_of_access.Ruleless.{nothing_denied}

-- an entry is found where it was, without its keys
found : {A B : Type 0} (f : A → B) (name : Bytes) (entries : List (Bytes × A)) → entry_of (map (λ (e : Bytes × A). (e.0, f e.1)) entries) name ≡ option_map f (entry_of entries name)
found f name [] = refl
found {A = A} {B = B} f name (e ∷ es) = by (found f name es) (bytes_eq name e.0)
  where
    by : entry_of (map (λ (d : Bytes × A). (d.0, f d.1)) es) name ≡ option_map f (entry_of es name)
        → (b : Bool) → cond b (Some (f e.1)) (entry_of (map (λ (d : Bytes × A). (d.0, f d.1)) es) name) ≡ option_map f (cond b (Some e.1) (entry_of es name))
    by rest true = refl
    by rest false = rest

module _ (g : Generated) where
  abbrev k : Generated
  k = without_keys g

  user_same : (name : Bytes) → user_of k name ≡ option_map user_without_keys (user_of g name)
  user_same name = found user_without_keys name g.users

  lterm_same : (name : Bytes) → lterm_of k name ≡ option_map lterm_without_keys (lterm_of g name)
  lterm_same name = found lterm_without_keys name g.lterms

  -- ---- durable rows

  pub restarts_same : (user : Bytes) → restarts k user ≡ restarts g user
  restarts_same user = ap restarts_by (user_same user) ∙ by (user_of g user)
    where
      by : (o : Option UserEntry) → restarts_by (option_map user_without_keys o) ≡ restarts_by o
      by None = refl
      by (Some u) = refl

  durable_row_same : (id : ServiceId) → is_durable k id ≡ is_durable g id
  durable_row_same (Dialogue user) = restarts_same user
  durable_row_same (Asynchronous number) = refl

  pub durable_same : (t : TableRows) → durable k t ≡ durable g t
  unfolding durable
  durable_same t = ap (λ (test : ServiceId → Bool). record t { services = filter (λ (s : Service). test s.id) t.services }) (λ i id. durable_row_same id i)

  -- ---- inputs

  sign_user_same : (signed : List (Bytes × Session)) (user : Bytes) (pass : Option Bytes) (o : Option UserEntry) → sign_user signed user pass (option_map user_without_keys o) ≡ sign_user signed user pass o
  sign_user_same signed user pass None = refl
  sign_user_same signed user pass (Some u) = refl

  sign_name_same : (signed : List (Bytes × Session)) (pass name : Option Bytes) → sign_name k signed pass name ≡ sign_name g signed pass name
  sign_name_same signed pass None = refl
  sign_name_same signed pass (Some user) = ap (sign_user signed user pass) (user_same user) ∙ sign_user_same signed user pass (user_of g user)

  unsigned_same : (signed : List (Bytes × Session)) (r : Split) → use_unsigned k signed r ≡ use_unsigned g signed r
  unsigned_same signed r = ap (λ (u : Use). if bytes_eq r.word (codes "KDCSIGN") then u else SignFirst) (sign_name_same signed (split_at 44 (after_word r)).rest (name_of (split_at 44 (after_word r)).word))

  use_by_same : (rule : Rule) (signed : List (Bytes × Session)) (state : ServiceState) (lterm text : Bytes) (o : Option Session) → use_by k rule signed state lterm text o ≡ use_by g rule signed state lterm text o
  use_by_same rule signed state lterm text None = unsigned_same signed (first_word text)
  use_by_same rule signed state lterm text (Some v) = refl

  under_same : (rule : Rule) (signed : List (Bytes × Session)) (state : ServiceState) (pterm text : Bytes) → use_under rule k signed state pterm text ≡ use_under rule g signed state pterm text
  unfolding use_under
  under_same rule signed state pterm text = use_by_same rule signed state (lterm_by (pterm_of g pterm)) text (find bytes_cmp pterm signed)

  -- ---- jobs

  target_same : (name : Bytes) → job_target k name ≡ job_target g name
  unfolding job_target
  target_same name = ap (λ (l : Option LtermEntry). target_by name l (tac_of g name)) (lterm_same name) ∙ by (lterm_of g name) (tac_of g name)
    where
      by : (l : Option LtermEntry) (t : Option TacEntry) → target_by name (option_map lterm_without_keys l) t ≡ target_by name l t
      by None t = refl
      by (Some l) t = refl

  pub fate_same : (v : JobValue) → fate k v ≡ fate g v
  unfolding fate
  fate_same v = ap (λ (has : Bool). fate_by (is_tried_again g.limits.redelivery v.redelivered) has v) (ap is_some (lterm_same dead_letter_queue) ∙ by (lterm_of g dead_letter_queue))
    where
      by : (l : Option LtermEntry) → is_some (option_map lterm_without_keys l) ≡ is_some l
      by None = refl
      by (Some l) = refl

  -- ---- transactions that open and go on

  pub input_same : (x : OpenTransaction) (tac input : Bytes) → followed_by_input k x tac input ≡ followed_by_input g x tac input
  unfolding followed_by_input
  input_same x tac input = refl

  -- ---- without locks

  module _ (none : HasNoLocks g) where
    rule_same : ◌≡◌ {A = Rule} (denial_of k) (denial_of g)
    rule_same = nothing_denied k none ∙ sym (nothing_denied g none)

    pub use_same : (signed : List (Bytes × Session)) (state : ServiceState) (pterm text : Bytes) → use_of k signed state pterm text ≡ use_of g signed state pterm text
    unfolding use_of
    use_same signed state pterm text = under_same (denial_of k) signed state pterm text ∙ ap (λ (rule : Rule). use_under rule g signed state pterm text) rule_same

    pend_same : (asynchronous : Bool) (x : OpenTransaction) (variant : Variant) (op : Option Bytes) → pend k asynchronous x variant op ≡ pend g asynchronous x variant op
    pend_same asynchronous x variant op =
        ap (λ (rule : Rule). pended x variant (pend_outcome asynchronous variant (has_message x.parts) (follow_up_entry rule g x variant (name_by op)) (name_by op))) rule_same

    put_same : (x : OpenTransaction) (to : Bytes) (due : Option Due) (message : Bytes) → put_job k x to due message ≡ put_job g x to due message
    put_same x to due message =
        ap (λ (target : Bytes → Option Target). within_length x (nat_le (length message) g.limits.nb) (with_name x (name_in_operand to) (λ name. drafted x (target name) due message))) (λ i name. target_same name i)

    called_same : (v : Told) (asynchronous : Bool) (x : OpenTransaction) (call : Call) → called k v asynchronous x call ≡ called g v asynchronous x call
    unfolding called
    called_same v asynchronous x Init = refl
    called_same v asynchronous x (Mget capacity) = refl
    called_same v asynchronous x (Mput bytes) = refl
    called_same v asynchronous x (Fget capacity) = refl
    called_same v asynchronous x (Fput to message) = put_same x to _ message
    called_same v asynchronous x (Dput to mode d h m s message) = put_same x to (moment_by mode (number_of d) (number_of h) (number_of m) (number_of s)) message
    called_same v asynchronous x (SgetGb name capacity) = refl
    called_same v asynchronous x (SputGb name bytes) = refl
    called_same v asynchronous x (SrelGb name) = refl
    called_same v asynchronous x (SgetKp name capacity) = refl
    called_same v asynchronous x (SgetRl name capacity) = refl
    called_same v asynchronous x (SputMs name bytes) = refl
    called_same v asynchronous x (SrelLb name) = refl
    called_same v asynchronous x (SgetUs name capacity) = refl
    called_same v asynchronous x (SputUs name bytes) = refl
    called_same v asynchronous x (Gtda name capacity) = refl
    called_same v asynchronous x (Ptda name bytes) = refl
    called_same v asynchronous x (UnlkGb name) = refl
    called_same v asynchronous x (UnlkUs name) = refl
    called_same v asynchronous x (UnlkDa name) = refl
    called_same v asynchronous x (Pend variant op) = pend_same asynchronous x variant op

    call_same : (v : Told) (asynchronous : Bool) (x : OpenTransaction) (call : Call) → call_outcome k v asynchronous x call ≡ call_outcome g v asynchronous x call
    unfolding call_outcome
    call_same v asynchronous x call = by x.inited
      where
        by : (inited : Bool) → called_by k v asynchronous x call inited ≡ called_by g v asynchronous x call inited
        by true = called_same v asynchronous x call
        by false = refl

-- ---- statements

module _ (app : Application) where
  abbrev bare : Application
  bare = keyless app

  pub commit_same : (old new : TableRows) → commit_of bare old new ≡ commit_of app old new
  commit_same old new i = Commit (difference (durable_same app.generation old i) (durable_same app.generation new i))

  unit_same : (tac : Bytes) → unit_of bare tac ≡ unit_of app tac
  unfolding unit_of
  unit_same tac = refl

  pub area_same : (x : OpenTransaction) → area_of bare x ≡ area_of app x
  unfolding area_of
  area_same x = ap (area_in_unit x) (unit_same x.current)

  call_done_same : (asynchronous : Bool) (unit : UnitText) (p : Performed) → by_performed bare asynchronous unit p ≡ by_performed app asynchronous unit p
  unfolding followed
  call_done_same asynchronous unit p = refl

  module _ (none : HasNoLocks app.generation) where
    step_same : (v : Told) (asynchronous : Bool) (x : OpenTransaction) (unit : UnitText) (m : Meaning) → by_step bare v asynchronous x unit m ≡ by_step app v asynchronous x unit m
    step_same v asynchronous x unit (Plain after) = refl
    step_same v asynchronous x unit (Ends cause) = refl
    step_same v asynchronous x unit (Asks call) = ap (by_performed bare asynchronous unit) (call_same app.generation none v asynchronous x call) ∙ call_done_same asynchronous unit (call_outcome app.generation v asynchronous x call)

    pub statement_same : (v : Told) (asynchronous : Bool) (x : OpenTransaction) → statement bare v asynchronous x ≡ statement app v asynchronous x
    unfolding statement
    statement_same v asynchronous x = ap (in_unit bare v asynchronous x) (unit_same x.current) ∙ by (unit_of app x.current)
      where
        by : (o : Option UnitText) → in_unit bare v asynchronous x o ≡ in_unit app v asynchronous x o
        by None = refl
        by (Some unit) = step_same v asynchronous x unit (step unit x.run)
