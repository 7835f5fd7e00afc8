-- Typed lines from tables that a store keeps: the monitor begins with them.
use Rattle.std.proofs.Common.{◌≡◌, ◌∙◌, ◌++◌, inl, ℕ, List, [], Result, Ok, Err, ap, subst, sym, arith, refl}
use Rattle.std.specs.Prelude.{IsErrAnd, IsErrOf, OnOk}
use Rattle.std.proofs.lemmas.List.{append-nil}
use Rattle.application_types.specs.Soundness.{AreLimits}
use Rattle.kd_device.specs.Device.{State, LeavesOnly}
use Rattle.kdcfile_store.specs.Kept.{IsKept}
use Rattle.kdcfile_store.specs.Paged.{HasFile, Paged}
use Rattle.kdcs_types.specs.Tables.{TableRows}
use Rattle.abstract_monitor.specs.Commands.{started}
use Rattle.abstract_monitor.specs.Endings.{durable}
use Rattle.abstract_monitor.specs.State.{Application}
use Rattle.abstract_monitor.specs.Trace.{bytes_of, tables_after}
use Rattle.laws_of_states.specs.Applications.{IsApplication}
use Rattle.laws_of_states.specs.EndsLaws.{durable_same}
use Rattle.laws_of_states.specs.Keeping.{HasFacts}
use Rattle.laws_of_states.specs.Suits.{Suits}
use Rattle.laws_of_states.specs.TablesStayLaws.{started_tables}
use Rattle.device_acts.specs.Acting.{IsCutOf}
use Rattle.device_acts.specs.MeaningLaws.{kept_stands}
use Rattle.device_acts.specs.Stands.{KeepsTables, StandsForTables, identity_for}
use Rattle.device_acts.specs.WritingLaws.{none_begun}
use Rattle.device_run.specs.Running.{IsRunning, commits_most}
use Rattle.device_run.specs.TablesLaws.{tables_go}
use Rattle.kdcfile_double.specs.CommitTwoLaws.{on_err}
use Rattle.monitor_core.specs.CoreSteps.{durable_of}
use Rattle.monitor_core.specs.CoreValue.{CoreValue}
use Rattle.call_parts.specs.Asking.{Errand, app_of}
use Rattle.call_parts.specs.Opening.{identity_of}
use Rattle.live_run.specs.Sessions.{AreAnswered, session_acts}
use Rattle.live_run.specs.Talking.{EachInTurn, EndedBetween}
use Rattle.live_run.specs.Typing.{TypingState}
use Rattle.live_run.specs.declared.error.LiveError.{LiveError}
use Rattle.live_run.specs.declared.error.LiveError.TheVariants as live
use Rattle.live_cli.specs.Living.{EndsOver, LivedFrom, LivedOver, acts_lived, begun}

-- the durable tables of a monitor that begins with these
pub durable_begun : (e : Errand) (t : TableRows) → Suits e.application.generation t → durable_of (begun e t) ≡ t
durable_begun e t suits = ap (durable e.application.generation) (started_tables (app_of e) t) ∙ durable_same e.application.generation t suits

-- an error promises nothing of a success
pub none_ok : {T E : Type 0} (r : Result T E) (P : E → Type 0) (Q : Type 0) → IsErrAnd r P → OnOk r Q
none_ok (Ok x) P Q h = absurd h
none_ok (Err e) P Q h = tt

module _ (e : Errand) (t : TableRows) (core : CoreValue) (application : core.application ≡ app_of e) (state : core.state ≡ started core.application t) (steps : core.steps ≡ 0) (suits : Suits e.application.generation t) where
  pub core_is : core ≡ begun e t
  core_is =
      let here : core.state ≡ started (app_of e) t = state ∙ ap (λ (app : Application). started app t) application in
      λ i. record { application = application i; state = here i; steps = steps i }

  pub core_runs : IsApplication core.application → HasFacts core.application core.state → AreLimits core.application.generation.limits → (store : Paged) → KeepsTables (identity_of e) store t → IsRunning e.fingerprint core store
  core_runs applies facts limits store keeps = record {
    application = applies;
    limits = limits;
    facts = facts;
    keeps = subst (λ (c : CoreValue). KeepsTables (identity_for c.application.generation e.fingerprint) store (durable_of c)) (sym core_is)
        (subst (λ (u : TableRows). KeepsTables (identity_of e) store u) (sym (durable_begun e t suits)) keeps);
  }

  module _ (i : TypingState) (a b : State) (la lb : ℕ → List ℕ → List ℕ → Type 0) (result : Result Unit LiveError) where
    pub from_over : LivedOver e.fingerprint core i a b la lb result → LivedFrom e t i a b la lb result
    from_over over =
        let h : LivedOver e.fingerprint (begun e t) i a b la lb result = subst (λ (c : CoreValue). LivedOver e.fingerprint c i a b la lb result) core_is over in
        record {
          exchanges = h.exchanges;
          answered = h.answered;
          read = h.read;
          stops = subst (λ (u : TableRows). LeavesOnly a b la lb (IsCutOf tables_after (StandsForTables (identity_of e)) u (acts_lived e t h.exchanges) a.sent)) (durable_begun e t suits) h.stops;
          ends = subst (λ (u : TableRows). EndsOver (identity_of e) (begun e t) u i h.exchanges a b lb result) (durable_begun e t suits) h.ends;
        }

-- an error that is handed on is no other one
pub no_other : {T E : Type 0} (r : Result T E) (e f : E) → IsErrAnd r (λ x. x ≡ e) → (e ≡ f → ⊥) → IsErrOf r f → ⊥
no_other (Ok x) e f h none is = h
no_other (Err x) e f h none is = let same : x ≡ f = cc in none (sym h ∙ same)

no_acts : (e : Errand) (t : TableRows) → bytes_of (acts_lived e t []) ≡ []
unfolding bytes_of session_acts
no_acts e t = refl

no_tables : (e : Errand) (t u : TableRows) → tables_after u (acts_lived e t []) ≡ u
unfolding tables_after session_acts
no_tables e t u = refl

-- no line was read, for want of memory
module _ (e : Errand) (t : TableRows) (suits : Suits e.application.generation t) (store : Paged) (keeps : KeepsTables (identity_of e) store t) (i : TypingState) (a : State) (la : ℕ → List ℕ → List ℕ → Type 0) (kept : IsKept (HasFile store) a la) where
  stands_now : StandsForTables (identity_of e) t a.holds
  stands_now = kept_stands (identity_of e) store t a.holds keeps kept.bytes

  between : EndedBetween (StandsForTables (identity_of e)) (begun e t) [] a a a.holds
  between = record {
    sent = sym (ap (λ (l : List ℕ). a.sent ++ l) (no_acts e t) ∙ append-nil a.sent);
    file = subst (λ (u : TableRows). StandsForTables (identity_of e) u a.holds) (sym (no_tables e t (durable_of (begun e t)) ∙ durable_begun e t suits)) stands_now;
  }

  pub none_from : (result : Result Unit LiveError) → IsErrAnd result (λ x. x ≡ live.Memory) → LivedFrom e t i a a la la result
  unfolding AreAnswered EachInTurn
  none_from result error = record {
    exchanges = [];
    answered = tt;
    read = tt;
    stops = record { later = omega arith; only = λ m c out le left. inl left };
    ends = record {
      written = none_begun tables_after tables_go (StandsForTables (identity_of e)) t (commits_most (identity_of e)) (acts_lived e t []) a a a.holds (omega arith) refl stands_now;
      done = none_ok result _ _ error;
      stopped = on_err result _ (inl between);
      halted = λ failed. absurd (no_other result live.Memory live.Failed error (λ is. cc) failed);
    };
  }
