-- Typed lines over one file of a device, as over what keeps the tables.
use Rattle.std.proofs.Common.{◌≡◌, ⊎_elim, inl, inr, ℕ, List, Result, subst}
use Rattle.std.specs.Prelude.{IsTrue}
use Rattle.std.proofs.lemmas.Result.{on_err_weaker, on_ok_weaker}
use Rattle.kd_device.specs.Device.{Frame, SameNames, State}
use Rattle.kd_device.specs.TimeLaws.{leaves_weaker}
use Rattle.kd_records.specs.Identity.{Identity}
use Rattle.kdcfile_layout.specs.Bound.{write_bound}
use Rattle.kdcfile_layout.specs.Layout.{StandsFor}
use Rattle.kdcfile_store.specs.Paged.{Paged, HasFile}
use Rattle.kdcs_types.specs.declared.act.Act.{Act}
use Rattle.kdcs_types.specs.Tables.{TableRows}
use Rattle.abstract_monitor.specs.Trace.{tables_after}
use Rattle.device_acts.specs.Acting.{IsCutOf, OwnFile, WritesBegun}
use Rattle.device_acts.specs.MeaningLaws.{kept_stands}
use Rattle.device_acts.specs.Stands.{KeepsTables, StandsForTables}
use Rattle.device_run.specs.Keeping.{KeepsRows, StandsForRows}
use Rattle.device_run.specs.Running.{commits_most, identity_of}
use Rattle.monitor_core.specs.CoreSteps.{durable_of}
use Rattle.monitor_core.specs.CoreValue.{CoreValue}
use Rattle.live_run.specs.Sessions.{Exchange}
use Rattle.live_run.specs.Talking.{EndedEarly, Talked, TalkedOut, acts_of_session}
use Rattle.live_run.specs.Typing.{TypingState}
use Rattle.live_run.specs.declared.error.LiveError.{LiveError}
use Rattle.live_cli.specs.Living.{LivedOut, LivedOver}

rows_kept : (i : Identity) (store : Paged) (t : TableRows) → KeepsRows i store.identity store.content t → KeepsTables i store t
rows_kept i store t h = record { identity_is = h.identity_is; tables = h.tables; content = h.content }

cut_single : (i : Identity) (t : TableRows) (acts : List Act) (sent image out : List ℕ) → IsCutOf tables_after (StandsForRows StandsFor i) t acts sent image out → IsCutOf tables_after (StandsForTables i) t acts sent image out
cut_single i t acts sent image out h = record { since = h.since; more = h.more; done = h.done; left = h.left; whole = h.whole; file = record { tables = h.file.tables; content = h.file.content }; bytes = h.bytes }

rows_single : (i : Identity) (t : TableRows) (image : List ℕ) → StandsForRows StandsFor i t image → StandsForTables i t image
rows_single i t image h = record { tables = h.tables; content = h.content }

writes_single : (i : Identity) (t : TableRows) (acts : List Act) (a b : State) (image : List ℕ) → WritesBegun tables_after (StandsForRows StandsFor i) t (commits_most i) acts a b image → WritesBegun tables_after (StandsForTables i) t (commits_most i) acts a b image
writes_single i t acts a b image h = record {
  writes = h.writes;
  file = ⊎_elim (λ file. inl (rows_single i (tables_after t h.writes.done) image file)) (λ last. inr (last.0, last.1, last.2, rows_single i (tables_after t last.0) image last.3)) h.file;
}

early_single : (i : Identity) (c : CoreValue) (exchanges : List Exchange) (a b : State) (image : List ℕ) → EndedEarly (StandsForRows StandsFor i) c exchanges a b image → EndedEarly (StandsForTables i) c exchanges a b image
early_single i c exchanges a b image (inl h) = inl (record { sent = h.sent; file = rows_single i _ image h.file })
early_single i c exchanges a b image (inr h) = inr (record { before = h.before; last = h.last; split = h.split; part = cut_single i _ _ _ image b.sent h.part; restart = h.restart })

module _ (fingerprint : List ℕ) (c : CoreValue) (i : TypingState) (store : Paged) (a b : State) (la lb : ℕ → List ℕ → List ℕ → Type 0) (told : IsTrue a.told) (now : lb b.moment b.holds b.sent) where
  out_single : (exchanges : List Exchange) → TalkedOut fingerprint c i store.identity store.content (OwnFile (HasFile store) b) exchanges a b lb → LivedOut (StandsForTables (identity_of fingerprint c)) (durable_of c) (acts_of_session c exchanges) i exchanges a b lb
  out_single exchanges h = record {
    at_end = h.at_end;
    sent = h.sent told;
    holds = kept_stands (identity_of fingerprint c) store (tables_after (durable_of c) (acts_of_session c exchanges)) b.holds (rows_kept (identity_of fingerprint c) store (tables_after (durable_of c) (acts_of_session c exchanges)) (h.keeps told)) (h.at_rest told b.holds now).0;
    at_rest = λ image left. (h.at_rest told image left).1;
  }

  over_single : (result : Result Unit LiveError) → Talked StandsFor write_bound fingerprint c i store.identity store.content (OwnFile (HasFile store) b) a b la lb result → LivedOver fingerprint c i a b la lb result
  over_single result h =
      let j = identity_of fingerprint c in
      record {
        exchanges = h.exchanges;
        answered = h.answered told;
        read = h.read;
        stops = leaves_weaker a b la lb (IsCutOf tables_after (StandsForRows StandsFor j) (durable_of c) (acts_of_session c h.exchanges) a.sent) (IsCutOf tables_after (StandsForTables j) (durable_of c) (acts_of_session c h.exchanges) a.sent) (h.within.any_moment told)
            (cut_single j (durable_of c) (acts_of_session c h.exchanges) a.sent);
        ends = record {
          written = writes_single j (durable_of c) (acts_of_session c h.exchanges) a b b.holds (h.written told b.holds now);
          done = on_ok_weaker result (out_single h.exchanges) h.done;
          stopped = on_err_weaker result (λ early. early_single j c h.exchanges a b b.holds (early told b.holds now)) h.stopped;
          halted = λ failed. h.halted failed told;
        };
      }

-- ---- the device of the keeper, given back

module _ {T : Type 0} (state : T → State) (leaves : T → ℕ → List ℕ → List ℕ → Type 0) (fingerprint : List ℕ) (c : CoreValue) (i : TypingState) (x : T) {y : T} (store : Paged) (result : Result Unit LiveError)
    (h : Talked StandsFor write_bound fingerprint c i store.identity store.content (OwnFile (HasFile store) (state y)) (state x) (state y) (leaves x) (leaves y) result) where
  pub lived_given : (IsTrue (state x).told → leaves y (state y).moment (state y).holds (state y).sent) → IsTrue (state x).told → (z : T) → y ≡ z → LivedOver fingerprint c i (state x) (state z) (leaves x) (leaves z) result
  lived_given now told z is = subst (λ (t : T). LivedOver fingerprint c i (state x) (state t) (leaves x) (leaves t) result) is (over_single fingerprint c i store (state x) (state y) (leaves x) (leaves y) told (now told) result h)

  pub frame_given : (z : T) → y ≡ z → Frame (state x) (state z)
  frame_given z is = subst (λ (t : T). Frame (state x) (state t)) is h.within.frame

  pub names_given : (z : T) → y ≡ z → SameNames (state x) (state z)
  names_given z is = subst (λ (t : T). SameNames (state x) (state t)) is h.within.names
