-- What a task over one file did, from what its parts did.
use Rattle.std.proofs.Common.{◌≡◌, inl, ℕ, List, [], ◌∷◌, ◌++◌, refl, sym, ap, subst, ◌∙◌, arith}
use Rattle.std.specs.Prelude.{IsTrue, Result, Ok, Err, OnOk, OnErr, IsErrOf}
use Rattle.std.proofs.lemmas.Bool.Decides.{nat_tests}
use Rattle.std.proofs.lemmas.Result.{on_ok_weaker}
use Rattle.kd_device.specs.Device.{State, Frame, LeavesOnly, SameFaults}
use Rattle.kd_device.specs.Rest.{Rests}
use Rattle.kdcs_types.specs.Tables.{TableRows, empty_tables}
use Rattle.abstract_monitor.specs.declared.command.Command.{Command}
use Rattle.device_acts.specs.Said.{SameDisk, Said}
use Rattle.kdcfile_update.specs.Updating.{Stored, UpdateWrites}
use Rattle.audit_trail.specs.declared.entry.Trail.{Trail as Kept}
use Rattle.refusals.specs.Statuses.{IsOneOf}
use Rattle.refusals.specs.declared.error.FileRefusal.{FileRefusal}
use Rattle.call_parts.specs.Asking.{Errand, app_of, audit_errand, looking_errand, making, storing_errand, update_errand}
use Rattle.utm_cli.specs.Doing.{AuditRefuses, HoldsAll, IsOverFile, UpdateRefuses, UpdateTakes, held_line, own}
use Rattle.call_parts.specs.Opening.{Opens, OpeningRefuses, identity_of}
use Rattle.call_parts.specs.MadeReport.{report_of}
use Rattle.utm_cli.specs.Parts.{DoesOne, EndsOne, ErrandHalts, ErrandStops, HasTrailBytes, LooksBytes, LooksFront, RanOpened, RanUpdate, StopsInUpdate, StopsOverStore, StoreWrites, looked_by}
use Rattle.call_parts.specs.Leaving.{CallFailed, MayAttach}
use Rattle.utm_cli.specs.Promise.{HaltsRun, IsCutOfRun, LeavesLines, MakesFile, Ran, SaysFront, StopsRun}
use Rattle.call_parts.specs.declared.error.CallError.{CallError}
use Rattle.call_parts.specs.declared.error.CallError.TheVariants.{Refused, Failed}
use Rattle.call_parts.specs.declared.errand.Looking.{Looking}
use Rattle.call_parts.specs.declared.errand.Storing.{Storing}
use Rattle.call_parts.specs.declared.errand.Work.{Work}
use Rattle.utm_cli.proofs.ByWord.{OpensFile, cut_aside, cut_stored, for_opened, hands_on, is_there, looking_opens, looking_sends, may_hand_on, opened_once, opening_over}
use Rattle.utm_cli.proofs.ByWord.{ran_aside, ran_stored, refuses_opening, starts, stored_opening, storing_keeps, told_over}
use Rattle.utm_cli.proofs.Stopping.{at_error, looking_is_no_run, on_err_weaker}
use Rattle.utm_cli.proofs.Updated.{update_cut, update_ran, update_written}
use Rattle.utm_cli.proofs.Writing.{run_written}

-- what holds at all holds after a success
always : {T E : Type 0} (P : Type 0) (r : Result T E) → P → OnOk r P
always P (Ok x) h = h
always P (Err e) h = tt

-- ---- what is kept

module _ (w : Work) (s : Storing) (name : List ℕ) (r : Result Unit CallError) (a b : State) (la lb : ℕ → List ℕ → List ℕ → Type 0) where
  abbrev stored : Errand
  stored = storing_errand w s

  keeps : MakesFile stored.word
  keeps = storing_keeps s

  opens : OpensFile stored.word
  opens = stored_opening stored keeps

  over : IsOverFile stored.word
  over = opening_over stored opens

  pub store_does : OnOk r (RanOpened stored a b lb) → ((why : FileRefusal) → IsErrOf r (Refused why) → IsTrue a.told → OpeningRefuses stored a.holds why) → ((IsErrOf r Failed → ⊥) → SameFaults a b) → (IsErrOf r Failed → CallFailed a b)
      → OnErr r ((t : TableRows) → Opens stored a.holds t → ErrandStops stored t a b) → (IsErrOf r Failed → (t : TableRows) → Opens stored a.holds t → ErrandHalts stored t a b)
      → (IsTrue a.told → ((t : TableRows) → Opens stored a.holds t → ⊥) → Rests a b la lb) → StopsOverStore stored a b la lb → (IsTrue a.told → StoreWrites stored a b)
      → (IsTrue a.told → (t : TableRows) → Opens stored a.holds t → (a.holds ≡ [] → ⊥) → LeavesLines stored (own stored t) a b) → (IsTrue a.told → MayAttach name a b) → OnOk r (IsTrue a.told → b.names ≡ a.names ++ name ∷ []) → Frame a b → DoesOne stored name r a b la lb
  store_does done refused fine failed stopped halted still any written left names named frame = record {
    done = on_ok_weaker r (λ h tells. let did = h (told_over stored over a.told tells) in (own stored did.0, starts stored a.holds opens did.0 did.1, λ told. ran_stored stored keeps did.0 a b lb did.2)) done;
    refused = λ why is tells. refuses_opening stored a.holds opens why (refused why is (told_over stored over a.told tells));
    fine = fine;
    failed = failed;
    stopped = on_err_weaker r (λ h told u from run. for_opened stored a.holds opens (λ (x : Stored). StopsRun stored x a b) (λ t from_t. h t from_t told run) u from) stopped;
    halted = λ is told u from run. for_opened stored a.holds opens (λ (x : Stored). HaltsRun stored x a b) (λ t from_t. halted is t from_t told run) u from;
    still = λ told none. still told (λ t from. none (own stored t) (starts stored a.holds opens t from));
    any_moment = λ told only u from. for_opened stored a.holds opens (λ (x : Stored). LeavesOnly a b la lb (IsCutOfRun stored x a)) (λ t from_t. cut_stored stored keeps t a b la lb (any told only t from_t)) u from;
    written = λ told. run_written stored keeps a b (written told);
    left = λ told u from alone. for_opened stored a.holds opens (λ (x : Stored). LeavesLines stored x a b) (λ t from_t. left told t from_t (is_there stored keeps u a alone)) u from;
    bytes = always _ r (λ told u from is. absurd (subst MakesFile is keeps));
    names = λ told. may_hand_on stored over name a b (names told);
    named = on_ok_weaker r (λ h told. hands_on stored over name a b (h told)) named;
    frame = frame;
  }

-- ---- what is looked at

module _ (w : Work) (l : Looking) (name : List ℕ) (r : Result Unit CallError) (a b : State) (la lb : ℕ → List ℕ → List ℕ → Type 0) where
  abbrev looked : Errand
  looked = looking_errand w l

  looks : OpensFile looked.word
  looks = looking_opens l

  looks_over : IsOverFile looked.word
  looks_over = opening_over looked looks

  pub look_does : OnOk r (IsTrue a.told → (t : TableRows) × Opens looked a.holds t × Said (looked_by l looked t) a b × LooksBytes looked t) → ((why : FileRefusal) → IsErrOf r (Refused why) → IsTrue a.told → OpeningRefuses looked a.holds why)
      → ((IsErrOf r Failed → ⊥) → SameFaults a b) → (IsErrOf r Failed → CallFailed a b) → (IsTrue a.told → ((t : TableRows) → Opens looked a.holds t → ⊥) → Rests a b la lb) → LooksFront l looked a b la lb → (IsTrue a.told → b.put ≡ a.put)
      → (IsTrue a.told → MayAttach name a b) → OnOk r (IsTrue a.told → b.names ≡ a.names ++ name ∷ []) → Frame a b → DoesOne looked name r a b la lb
  look_does done refused fine failed still front unwritten names named frame = record {
    done = on_ok_weaker r
        (λ h tells.
        let did = h (told_over looked looks_over a.told tells) in
        (own looked did.0, starts looked a.holds looks did.0 did.1, λ told. ran_aside looked did.0 (looked_by l looked did.0) (looking_sends l looked did.0) a b la lb did.2)) done;
    refused = λ why is tells. refuses_opening looked a.holds looks why (refused why is (told_over looked looks_over a.told tells));
    fine = fine;
    failed = failed;
    stopped = at_error _ r (λ told u from run. absurd (looking_is_no_run l run));
    halted = λ is told u from run. absurd (looking_is_no_run l run);
    still = λ told none. still told (λ t from. none (own looked t) (starts looked a.holds looks t from));
    any_moment = λ told only u from.
        for_opened looked a.holds looks (λ (x : Stored). LeavesOnly a b la lb (IsCutOfRun looked x a))
        (λ t from_t. cut_aside looked t (looked_by l looked t) (looking_sends l looked t) a b la lb only (front told t from_t)) u from;
    written = λ told. inl (unwritten told);
    left = λ told u from alone. for_opened looked a.holds looks (λ (x : Stored). LeavesLines looked x a b) (λ t from_t lines. (front told t from_t).part.disk) u from;
    bytes = on_ok_weaker r
        (λ h told u from.
        let did = h told in
        for_opened looked a.holds looks (λ (x : Stored). HasTrailBytes looked x) (λ t from_t. subst (λ (v : TableRows). LooksBytes looked v) (opened_once looked a.holds did.0 t did.1 from_t) did.3) u from) done;
    names = λ told. may_hand_on looked looks_over name a b (names told);
    named = on_ok_weaker r (λ h told. hands_on looked looks_over name a b (h told)) named;
    frame = frame;
  }

-- ---- what is carried

module _ (w : Work) (name : List ℕ) (r : Result Unit CallError) (a b : State) (la lb : ℕ → List ℕ → List ℕ → Type 0) where
  abbrev updated : Errand
  updated = update_errand w

  pub update_does : OnOk r (RanUpdate updated a b lb) → ((why : FileRefusal) → IsErrOf r (Refused why) → IsTrue a.told → UpdateRefuses updated a.holds why) → ((IsErrOf r Failed → ⊥) → SameFaults a b) → (IsErrOf r Failed → CallFailed a b)
      → (IsTrue a.told → ((s : Stored) → UpdateTakes updated a.holds s → ⊥) → Rests a b la lb) → StopsInUpdate updated a b la lb → (IsTrue a.told → UpdateWrites w.application.generation w.fingerprint a b)
      → (IsTrue a.told → (s : Stored) → UpdateTakes updated a.holds s → s.identity ≡ identity_of updated → SameDisk a b) → (IsTrue a.told → MayAttach name a b) → OnOk r (IsTrue a.told → b.names ≡ a.names ++ name ∷ []) → Frame a b → DoesOne updated name r a b la lb
  update_does done refused fine failed still any written left names named frame = record {
    done = on_ok_weaker r (λ h told. let did = h told in (did.0, did.1, λ again. update_ran updated updated refl refl did.0 a b lb did.2)) done;
    refused = refused;
    fine = fine;
    failed = failed;
    stopped = at_error _ r (λ told u from run. absurd cc);
    halted = λ is told u from run. absurd cc;
    still = still;
    any_moment = λ told only s from. update_cut updated updated refl refl s a b la lb (any told only s from);
    written = λ told. update_written updated updated refl refl a b (written told);
    left = λ told s from alone lines. left told s from alone;
    bytes = always _ r (λ told s from is. absurd cc);
    names = names;
    named = named;
    frame = frame;
  }

-- ---- what is audited

-- what is stored is the errand's own, with the tables at the start
own_start : (e : Errand) (s : Stored) → HoldsAll e s → s ≡ own e s.tables
own_start e s holds = holds.start ∙ ap (λ (x : Stored). own e x.tables) (sym holds.start)

module _ (w : Work) (trail : Kept) (name : List ℕ) (r : Result Unit CallError) (a b : State) (la lb : ℕ → List ℕ → List ℕ → Type 0) where
  abbrev audited : Errand
  audited = audit_errand w trail

  pub audit_does : OnOk r ((s : Stored) × HoldsAll audited s × (IsTrue a.told → Said (held_line audited) a b)) → ((why : FileRefusal) → IsErrOf r (Refused why) → AuditRefuses audited why) → ((IsErrOf r Failed → ⊥) → SameFaults a b) → (IsErrOf r Failed → CallFailed a b)
      → (IsTrue a.told → ((s : Stored) → HoldsAll audited s → ⊥) → Rests a b la lb) → (IsTrue a.told → SaysFront (held_line audited) a b la lb) → Frame a b → b.names ≡ a.names → DoesOne audited name r a b la lb
  audit_does done refused fine failed still front frame names = record {
    done = on_ok_weaker r (λ h tells. (h.0, h.1, λ told. subst (λ (u : Stored). Ran audited u a b lb) (sym (own_start audited h.0 h.1)) (ran_aside audited h.0.tables (held_line audited) refl a b la lb (h.2 told)))) done;
    refused = λ why is tells. refused why is;
    fine = fine;
    failed = failed;
    stopped = at_error _ r (λ told u from run. absurd cc);
    halted = λ is told u from run. absurd cc;
    still = still;
    any_moment = λ told only s from. subst (λ (u : Stored). LeavesOnly a b la lb (IsCutOfRun audited u a)) (sym (own_start audited s from)) (cut_aside audited s.tables (held_line audited) refl a b la lb only (front told));
    written = λ told. inl (front told).part.disk.put;
    left = λ told s from alone lines. (front told).part.disk;
    bytes = always _ r (λ told s from is. absurd cc);
    names = λ told. inl names;
    named = always _ r (λ told. names);
    frame = frame;
  }

-- ---- what is made

made_code : (n : ℕ) → IsOneOf (0 ∷ 5 ∷ 7 ∷ []) n → IsOneOf (0 ∷ 4 ∷ 5 ∷ 7 ∷ 8 ∷ []) n
made_code n h = grind (arith, nat_tests)

made_not_refused : (n : ℕ) → IsOneOf (0 ∷ 5 ∷ 7 ∷ []) n → IsOneOf (4 ∷ 8 ∷ []) n → ⊥
made_not_refused n h is = grind (arith, nat_tests)

module _ (n : ℕ) (w : Work) (commands : List Command) (base : List ℕ) (a b : State) (la lb : ℕ → List ℕ → List ℕ → Type 0) (status : ℕ) where
  abbrev made : Errand
  made = making n w commands

  abbrev report : List ℕ
  report = report_of n (app_of made) commands

  pub make_ends : IsOneOf (0 ∷ 5 ∷ 7 ∷ []) status → (status ≡ 0 → IsTrue a.told → Said report a b) → ((status ≡ 5 → ⊥) → SameFaults a b) → (status ≡ 5 → CallFailed a b) → (IsTrue a.told → SaysFront report a b la lb) → Frame a b → b.names ≡ a.names → EndsOne made base a b la lb status
  make_ends code done fine failed front frame names = record {
    code = made_code status code;
    refused = λ tells why refuses. absurd refuses;
    refused_only = λ is. absurd (made_not_refused status code is);
    refused_part = λ told why refuses. absurd refuses;
    accepted = λ tells s from. code;
    done = λ zero tells. (own made empty_tables, refl, λ told. ran_aside made empty_tables report refl a b la lb (done zero told));
    any_moment = λ told only s from. subst (λ (u : Stored). LeavesOnly a b la lb (IsCutOfRun made u a)) (sym from) (cut_aside made empty_tables report refl a b la lb only (front told));
    written = λ told. inl (front told).part.disk.put;
    left = λ told s from alone lines. (front told).part.disk;
    bytes = λ zero told s from is. absurd cc;
    names = λ told. inl names;
    attached = λ zero told. names;
    fine = fine;
    failed = failed;
    stopped = λ code told s from run. absurd cc;
    halted = λ five told s from run. absurd cc;
    frame = frame;
  }
