-- A content that is kept in one file of a device, under a run.
use Rattle.std.proofs.Common.{◌≡◌, inl, inr, ⊎_elim, ℕ, List, [], ◌++◌, subst}
use Rattle.std.specs.Prelude.{IsTrue, Result, Ok, Err, OnErr, OnOk}
use Rattle.std.proofs.lemmas.Result.{on_ok_weaker}
use Rattle.kd_device.specs.Device.{State}
use Rattle.kd_device.specs.Rest.{Rests, Before}
use Rattle.kd_device.specs.TimeLaws.{leaves_weaker}
use Rattle.kd_records.specs.Identity.{Identity}
use Rattle.application_types.specs.Generation.{Generated}
use Rattle.kdcfile_layout.specs.Bound.{write_bound}
use Rattle.kdcfile_layout.specs.Layout.{StandsFor}
use Rattle.kdcfile_store.specs.Paged.{Paged, HasFile}
use Rattle.kdcs_types.specs.Tables.{TableRows}
use Rattle.abstract_monitor.specs.Commands.{ScriptStep, acts_of}
use Rattle.abstract_monitor.specs.Trace.{bytes_of, tables_after}
use Rattle.abstract_monitor.specs.declared.command.Command.{Command}
use Rattle.kdcs_types.specs.declared.act.Act.{Act}
use Rattle.laws_of_states.specs.Suits.{Suits}
use Rattle.device_acts.specs.MeaningLaws.{kept_stands, nothing_stands}
use Rattle.device_acts.specs.Opening.{StartsFrom, IsRefused, IsOfOtherTexts, AnswersExcludeEachOther}
use Rattle.device_acts.specs.Stands.{StandsForTables, KeepsTables, identity_for}
use Rattle.monitor_core.specs.CoreSteps.{durable_of}
use Rattle.monitor_core.specs.CoreValue.{CoreValue}
use Rattle.device_acts.specs.Acting.{IsCutOf, IsKeptBy, OwnFile}
use Rattle.device_run.specs.Running.{IsRunning, Ran, StepsWrite, Stops, WithinSteps, acts_before, acts_then, identity_of}
use Rattle.device_run.specs.Keeping.{IsRunningWith, KeepsRows, KeepsSuited, RanWith, Reopening, StandsForRows, StepsWriteWith, StopsWith, WithinStepsWith}

-- ---- what it keeps

pub running_with : (fingerprint : List ℕ) (c : CoreValue) (store : Paged) → IsRunning fingerprint c store → IsRunningWith fingerprint c store.identity store.content
running_with fingerprint c store h = record {
  application = h.application;
  limits = h.limits;
  facts = h.facts;
  keeps = record { identity_is = h.keeps.identity_is; tables = h.keeps.tables; content = h.keeps.content };
}

rows_kept : (i : Identity) (store : Paged) (t : TableRows) → KeepsRows i store.identity store.content t → KeepsTables i store t
rows_kept i store t h = record { identity_is = h.identity_is; tables = h.tables; content = h.content }

-- ---- a run

cut_single : (i : Identity) (t : TableRows) (acts : List Act) (sent image out : List ℕ) → IsCutOf tables_after (StandsForRows StandsFor i) t acts sent image out → IsCutOf tables_after (StandsForTables i) t acts sent image out
cut_single i t acts sent image out h = record { since = h.since; more = h.more; done = h.done; left = h.left; whole = h.whole; file = record { tables = h.file.tables; content = h.file.content }; bytes = h.bytes }

pub within_single : (fingerprint : List ℕ) (c : CoreValue) (steps : List ScriptStep) (a b : State) (la lb : ℕ → List ℕ → List ℕ → Type 0) → WithinStepsWith StandsFor fingerprint c steps a b la lb → WithinSteps fingerprint c steps a b la lb
within_single fingerprint c steps a b la lb h =
    let i = identity_of fingerprint c in
    record {
      frame = h.frame;
      names = h.names;
      any_moment = λ told. leaves_weaker a b la lb (IsCutOf tables_after (StandsForRows StandsFor i) (durable_of c) (acts_of steps) a.sent) (IsCutOf tables_after (StandsForTables i) (durable_of c) (acts_of steps) a.sent) (h.any_moment told) (cut_single i (durable_of c) (acts_of steps) a.sent);
      quiet = h.quiet;
    }

-- what was written, and where it stopped
rows_single : (i : Identity) (t : TableRows) (image : List ℕ) → StandsForRows StandsFor i t image → StandsForTables i t image
rows_single i t image h = record { tables = h.tables; content = h.content }

pub writes_single : (fingerprint : List ℕ) (c : CoreValue) (steps : List ScriptStep) (a b : State) (lb : ℕ → List ℕ → List ℕ → Type 0) → (IsTrue a.told → lb b.moment b.holds b.sent) → StepsWriteWith StandsFor write_bound fingerprint c steps a b lb → StepsWrite fingerprint c steps a b
writes_single fingerprint c steps a b lb now h = λ told.
    let i = identity_of fingerprint c in
    let here = h told b.holds (now told) in
    record {
      writes = here.writes;
      file = ⊎_elim
          (λ file. inl (rows_single i (tables_after (durable_of c) here.writes.done) b.holds file))
          (λ last. inr (last.0, last.1, last.2, rows_single i (tables_after (durable_of c) last.0) b.holds last.3))
          here.file;
    }

pub stops_single : (fingerprint : List ℕ) (c : CoreValue) (script : List Command) (n : ℕ) (a b : State) (lb : ℕ → List ℕ → List ℕ → Type 0) → (IsTrue a.told → lb b.moment b.holds b.sent) → StopsWith StandsFor fingerprint c script n a b lb → Stops fingerprint c script n a b
stops_single fingerprint c script n a b lb now h = λ told.
    let here = h told b.holds (now told) in
    record {
      command = here.command;
      rest = here.rest;
      split = here.split;
      part = cut_single (identity_of fingerprint c) (tables_after (durable_of c) (acts_before c script n)) (acts_then c script n here.command) (a.sent ++ bytes_of (acts_before c script n)) b.holds b.sent here.part;
      restart = here.restart;
    }

pub ran_single : (fingerprint : List ℕ) (c : CoreValue) (steps : List ScriptStep) (store : Paged) (a b : State) (lb : ℕ → List ℕ → List ℕ → Type 0) → lb b.moment b.holds b.sent → RanWith fingerprint c steps store.identity store.content (OwnFile (HasFile store) b) a b lb → Ran fingerprint c steps a b lb
ran_single fingerprint c steps store a b lb now h = record {
  sent = h.sent;
  holds = kept_stands (identity_of fingerprint c) store (tables_after (durable_of c) (acts_of steps)) b.holds (rows_kept (identity_of fingerprint c) store (tables_after (durable_of c) (acts_of steps)) h.keeps) (h.at_rest b.holds now).0;
  at_rest = λ image left. (h.at_rest image left).1;
}

-- ---- its file is opened again

module _ (one : AnswersExcludeEachOther) (g : Generated) (fingerprint : List ℕ) (store : Paged) (a : State) (la : ℕ → List ℕ → List ℕ → Type 0) (now : la a.moment a.holds a.sent) (kept : IsKeptBy (OwnFile (HasFile store) a) a la) (u : TableRows) (keeps : KeepsSuited g fingerprint store.identity store.content u) where
  stands_now : StandsForTables (identity_for g fingerprint) u a.holds
  stands_now = kept_stands (identity_for g fingerprint) store u a.holds (rows_kept (identity_for g fingerprint) store u keeps.keeps) (kept a.holds now).0

  starts_now : StartsFrom g fingerprint a.holds u
  starts_now = inr (stands_now, keeps.suits)

  not_empty : a.holds ≡ [] → ⊥
  not_empty none = nothing_stands (identity_for g fingerprint) u (subst (λ (l : List ℕ). StandsForTables (identity_for g fingerprint) u l) none stands_now)

  pub never_refused : IsRefused g fingerprint a.holds → ⊥
  never_refused refused = (one g fingerprint a.holds).started_or_refused u starts_now refused

  pub never_other : (stored : List ℕ) → IsOfOtherTexts stored fingerprint a.holds → ⊥
  never_other stored other = (one g fingerprint a.holds).started_or_other u stored starts_now other

  pub same_start : (t : TableRows) → StartsFrom g fingerprint a.holds t → t ≡ u
  same_start t from = (one g fingerprint a.holds).started_once t u from starts_now

  pub stays : (b : State) (lb : ℕ → List ℕ → List ℕ → Type 0) → ((a.holds ≡ [] → ⊥) → Rests a b la lb) → Reopening (StandsFor store.identity store.content) a b la lb
  stays b lb rests =
      let rest = rests not_empty in
      record {
        disk = record { holds = rest.holds; put = rest.put };
        sent = rest.sent;
        leaves = leaves_weaker a b la lb (Before a la) (λ image out. (out ≡ a.sent) × StandsFor store.identity store.content image) rest.leaves (λ image out before. (before.0, (store.second, store.layout, (kept image before.1).0)));
      }

pub suited_single : (g : Generated) (fingerprint : List ℕ) (store : Paged) (t : TableRows) → KeepsTables (identity_for g fingerprint) store t → Suits g t → KeepsSuited g fingerprint store.identity store.content t
suited_single g fingerprint store t h suits = record { keeps = record { identity_is = h.identity_is; tables = h.tables; content = h.content }; suits = suits }

-- ---- the device of the keeper, given back

module _ {T : Type 0} (state : T → State) (leaves : T → ℕ → List ℕ → List ℕ → Type 0) (fingerprint : List ℕ) (c : CoreValue) (steps : List ScriptStep) (x : T) {y : T} where
  pub within_given : WithinStepsWith StandsFor fingerprint c steps (state x) (state y) (leaves x) (leaves y) → (z : T) → y ≡ z → WithinSteps fingerprint c steps (state x) (state z) (leaves x) (leaves z)
  within_given h z is = subst (λ (t : T). WithinSteps fingerprint c steps (state x) (state t) (leaves x) (leaves t)) is (within_single fingerprint c steps (state x) (state y) (leaves x) (leaves y) h)

  pub ran_given : {N : Type 0} {E : Type 0} (result : Result N E) (store : Paged) → (IsTrue (state x).told → leaves y (state y).moment (state y).holds (state y).sent)
      → OnOk result (IsTrue (state x).told → RanWith fingerprint c steps store.identity store.content (OwnFile (HasFile store) (state y)) (state x) (state y) (leaves y)) → (z : T) → y ≡ z → OnOk result (IsTrue (state x).told → Ran fingerprint c steps (state x) (state z) (leaves z))
  ran_given result store now h z is =
      on_ok_weaker result
      (λ ran told. subst (λ (t : T). Ran fingerprint c steps (state x) (state t) (leaves t)) is (ran_single fingerprint c steps store (state x) (state y) (leaves y) (now told) (ran told)))
      h

  pub writes_given : (IsTrue (state x).told → leaves y (state y).moment (state y).holds (state y).sent) → StepsWriteWith StandsFor write_bound fingerprint c steps (state x) (state y) (leaves y) → (z : T) → y ≡ z → StepsWrite fingerprint c steps (state x) (state z)
  writes_given now h z is = subst (λ (t : T). StepsWrite fingerprint c steps (state x) (state t)) is (writes_single fingerprint c steps (state x) (state y) (leaves y) now h)

  pub stops_given : {N : Type 0} {E : Type 0} (result : Result N E) (script : List Command) (n : ℕ) → (IsTrue (state x).told → leaves y (state y).moment (state y).holds (state y).sent) → OnErr result (StopsWith StandsFor fingerprint c script n (state x) (state y) (leaves y)) → (z : T) → y ≡ z → OnErr result (Stops fingerprint c script n (state x) (state z))
  stops_given (Ok v) script n now h z is = tt
  stops_given (Err e) script n now h z is = subst (λ (t : T). Stops fingerprint c script n (state x) (state t)) is (stops_single fingerprint c script n (state x) (state y) (leaves y) now h)
