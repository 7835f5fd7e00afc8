-- The word `update`: after the file is attached, and as what was asked for.
use Rattle.std.proofs.Common.{◌≡◌, inl, inr, ⊎_elim, ℕ, List, Bool, true, false, ◌++◌, refl, sym, ap, subst, ◌∙◌, arith}
use Rattle.kd_device.specs.Device.{State, LeavesOnly, Only}
use Rattle.kd_device.specs.Rest.{Rests, Before}
use Rattle.kd_device.specs.RestLaws.{rests_then}
use Rattle.kd_device.specs.TimeLaws.{leaves_weaker, leaves_then}
use Rattle.kdcs_types.specs.Tables.{TableRows}
use Rattle.application_types.specs.Generation.{Generated}
use Rattle.abstract_monitor.specs.Trace.{bytes_of}
use Rattle.kd_update.specs.Carrying.{carried}
use Rattle.device_acts.specs.Stands.{StandsForTables}
use Rattle.device_acts.specs.Acting.{commits_nothing}
use Rattle.device_acts.specs.LinesLaws.{tables_same}
use Rattle.device_acts.specs.Said.{SameDisk}
use Rattle.kdcfile_update.specs.Report.{is_same_print, report_by}
use Rattle.kdcfile_update.specs.Updating.{Stored, IsUpToDate, IsUpdated, IsUpdateCut, RefusesAs, UpdateWrites, report_of}
use Rattle.kd_update.specs.declared.error.UpdateError.{UpdateError}
use Rattle.call_parts.specs.declared.words.Word.{Word}
use Rattle.call_parts.specs.declared.words.Word.TheVariants.{Update}
use Rattle.call_parts.specs.Asking.{Errand}
use Rattle.utm_cli.specs.Doing.{StartsBy, Starts, UpdateTakes, tables_by, acts_by}
use Rattle.call_parts.specs.Opening.{identity_of}
use Rattle.utm_cli.specs.Promise.{RanBy, Ran, IsCutBy, IsCutOfRun, WritesBy, WritesFor}
use Rattle.utm_cli.specs.CutsLaws.{cut_since}

-- ---- a file that is taken

up_to_date : (e : Errand) (bytes : List ℕ) (s : Stored) → UpdateTakes e bytes s → s.identity ≡ identity_of e → IsUpToDate e.application.generation e.fingerprint s
up_to_date e bytes s takes own_texts = ⊎_elim (λ is. is) (λ may. absurd (may.differs (ap (λ i. i.fingerprint) own_texts))) takes.how

-- of an errand by its parts, after the file was attached
module _ (v e : Errand) (same : v ≡ e) (a b d : State) (la lb ld : ℕ → List ℕ → List ℕ → Type 0) (rests : Rests a b la lb) where
  takes_then : (s : Stored) → UpdateTakes e a.holds s → UpdateTakes v b.holds s
  takes_then s takes = subst (λ (x : Errand). UpdateTakes x b.holds s) (sym same) (subst (λ (l : List ℕ). UpdateTakes e l s) (sym rests.holds) takes)

  takes_before : (s : Stored) → UpdateTakes v b.holds s → UpdateTakes e a.holds s
  takes_before s takes = subst (λ (x : Errand). UpdateTakes x a.holds s) same (subst (λ (l : List ℕ). UpdateTakes v l s) rests.holds takes)

  pub still_then : (((s : Stored) → UpdateTakes v b.holds s → ⊥) → Rests b d lb ld) → ((s : Stored) → UpdateTakes e a.holds s → ⊥) → Rests a d la ld
  still_then still none = rests_then a b la lb d ld rests (still (λ s takes. none s (takes_before s takes)))

  pub judged_then : (why : UpdateError) → RefusesAs v.application.generation v.fingerprint b.holds why → RefusesAs e.application.generation e.fingerprint a.holds why
  judged_then why so = subst (λ (x : Errand). RefusesAs x.application.generation x.fingerprint a.holds why) same (subst (λ (l : List ℕ). RefusesAs v.application.generation v.fingerprint l why) rests.holds so)

  pub updated_then : ((s : Stored) × UpdateTakes v b.holds s × IsUpdated v.application.generation v.fingerprint s b d ld) → (s : Stored) × UpdateTakes e a.holds s × IsUpdated e.application.generation e.fingerprint s a d ld
  updated_then h = (
    h.0,
    takes_before h.0 h.1,
    subst (λ (x : Errand). IsUpdated x.application.generation x.fingerprint h.0 a d ld) same
        (record { sent = h.2.sent ∙ ap (λ (l : List ℕ). l ++ bytes_of (report_of v.application.generation v.fingerprint h.0)) rests.sent; holds = h.2.holds; at_rest = h.2.at_rest }),
  )

  pub cut_then : Only a.holds a la → (s : Stored) → UpdateTakes e a.holds s
      → (Only b.holds b lb → (u : Stored) → UpdateTakes v b.holds u → LeavesOnly b d lb ld (IsUpdateCut v.application.generation v.fingerprint u b.sent))
      → LeavesOnly a d la ld (IsUpdateCut e.application.generation e.fingerprint s a.sent)
  cut_then only s takes h =
      subst (λ (x : Errand). LeavesOnly a d la ld (IsUpdateCut x.application.generation x.fingerprint s a.sent)) same
      (leaves_then a b la lb d ld (IsUpdateCut v.application.generation v.fingerprint s a.sent)
      (leaves_weaker a b la lb (Before a la) (IsUpdateCut v.application.generation v.fingerprint s a.sent) rests.leaves
      (λ c out now. inl (now.0, subst (λ (l : List ℕ). StandsForTables s.identity s.tables l) (sym (only c now.1)) takes.stands)))
      (subst (λ (l : List ℕ). LeavesOnly b d lb ld (IsUpdateCut v.application.generation v.fingerprint s l)) rests.sent (h (λ c left. only c (rests.stop c left) ∙ sym rests.holds) s (takes_then s takes))))

  pub written_then : UpdateWrites v.application.generation v.fingerprint b d → UpdateWrites e.application.generation e.fingerprint a d
  written_then (inl none) = inl (none ∙ rests.put)
  written_then (inr (s, takes, w)) =
      let put = rests.put in
      subst (λ (x : Errand). UpdateWrites x.application.generation x.fingerprint a d) same
      (inr (s, subst (λ (l : List ℕ). UpdateTakes v l s) rests.holds takes, record { since = w.since; more = w.more ∙ ap (λ (l : List ℕ). l ++ w.since) rests.sent; done = w.done; left = w.left; whole = w.whole; bytes = w.bytes; put = omega (arith, w.put, put) }))

  pub left_then : (s : Stored) → UpdateTakes e a.holds s → s.identity ≡ identity_of e → ((u : Stored) → UpdateTakes v b.holds u → IsUpToDate v.application.generation v.fingerprint u → SameDisk b d) → SameDisk a d
  left_then s takes own_texts left =
      let is = up_to_date v b.holds s (takes_then s takes) (own_texts ∙ ap identity_of (sym same)) in
      let disk = left s (takes_then s takes) is in
      record { holds = disk.holds ∙ rests.holds; put = disk.put ∙ rests.put }

-- ---- as what was asked for

-- the report is lines alone
report_lines : (g : Generated) (fingerprint : List ℕ) (s : Stored) → commits_nothing (report_of g fingerprint s) ≡ true
report_lines g fingerprint s = by (is_same_print s.identity.fingerprint fingerprint)
  where
    by : (same : Bool) → commits_nothing (report_by same g s.tables) ≡ true
    by true = refl
    by false = refl

module _ (v e : Errand) (same : v ≡ e) (is : v.word ≡ Update) where
  update : e.word ≡ Update
  update = sym (ap (λ (x : Errand). x.word) same) ∙ is

  pub update_starts : (bytes : List ℕ) (s : Stored) → UpdateTakes e bytes s → Starts e bytes s
  update_starts bytes s takes = subst (λ (w : Word). StartsBy w e bytes s) (sym update) takes

  pub update_ran : (s : Stored) (a b : State) (lb : ℕ → List ℕ → List ℕ → Type 0) → IsUpdated e.application.generation e.fingerprint s a b lb → Ran e s a b lb
  update_ran s a b lb h =
      let stays = tables_same (report_of e.application.generation e.fingerprint s) (carried e.application.generation s.tables) (report_lines e.application.generation e.fingerprint s) in
      subst (λ (w : Word). RanBy w (identity_of e) (acts_by w e s) (tables_by w e s) a b lb) (sym update)
      (record { sent = h.sent; holds = subst (λ (u : TableRows). StandsForTables (identity_of e) u b.holds) (sym stays) h.holds; at_rest = h.at_rest })

  pub update_cut : (s : Stored) (a b : State) (la lb : ℕ → List ℕ → List ℕ → Type 0) → LeavesOnly a b la lb (IsUpdateCut e.application.generation e.fingerprint s a.sent) → LeavesOnly a b la lb (IsCutOfRun e s a)
  update_cut s a b la lb h =
      leaves_weaker a b la lb (IsUpdateCut e.application.generation e.fingerprint s a.sent) (IsCutOfRun e s a) h
      (λ c out cut.
      subst (λ (w : Word). IsCutBy w (identity_of e) (acts_by w e s) (tables_by w e s) s a c out) (sym update)
      (⊎_elim (λ old. inl (record { silent = old.0; stands = old.1 })) (λ done. inr (cut_since (StandsForTables (identity_of e)) (carried e.application.generation s.tables) (report_of e.application.generation e.fingerprint s) a.sent c out done)) cut))

  pub update_written : (a b : State) → UpdateWrites e.application.generation e.fingerprint a b → WritesFor e a b
  update_written a b (inl none) = inl none
  update_written a b (inr (s, takes, h)) =
      inr (
        s,
        update_starts a.holds s takes,
        subst (λ (w : Word). WritesBy w e (acts_by w e s) s a b) (sym update) h,
      )
