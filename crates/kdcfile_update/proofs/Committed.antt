-- What became of the update of an opened file whose tables may be carried.
use Rattle.std.proofs.Common.{◌≡◌, ◌≤◌, ◌+◌, inl, inr, ℕ, Bool, true, false, List, [], ◌++◌, refl, sym, ap, subst, ◌∙◌, arith}
use Rattle.std.specs.Prelude.{IsTrue, nat_eq}
use Rattle.std.specs.Cmp.Lexicographic.{pointwise}
use Rattle.std.proofs.lemmas.List.{append-nil}
use Rattle.kd_base.specs.OrderLaws.{equal_is_same}
use Rattle.kd_device.specs.Device.{State, Frame, SameNames, LeavesOnly}
use Rattle.kd_device.specs.TimeLaws.{leaves_weaker, leaves_then, told_after}
use Rattle.kd_records.specs.Identity.{Identity}
use Rattle.kd_records.specs.declared.content.Content.{Content}
use Rattle.kdcfile_layout.specs.Layout.{StandsFor}
use Rattle.kdcfile_layout.specs.Commit.{Either}
use Rattle.kdcfile_store.specs.Carried.{LeavesCarried, carry_most}
use Rattle.kdcfile_store.specs.Paged.{Paged, identity_with}
use Rattle.kdcfile_store.specs.declared.store.StoreLimits.{StoreLimits}
use Rattle.kdcs_types.specs.declared.act.Act.{Act}
use Rattle.kdcs_types.specs.Tables.{TableRows}
use Rattle.application_types.specs.Soundness.{AreLimits}
use Rattle.application_types.specs.Generation.{Generated}
use Rattle.abstract_monitor.specs.Trace.{tables_after, bytes_of}
use Rattle.record_codec.specs.Records.{content_of_tables}
use Rattle.device_acts.specs.MeaningLaws.{kept_means}
use Rattle.device_acts.specs.Stands.{KeepsTables, StandsForTables, identity_for, limits_of}
use Rattle.kd_update.specs.Carrying.{carried}
use Rattle.device_acts.specs.Acting.{IsCutOf, WithinActs, WritesUpTo}
use Rattle.device_acts.specs.WritingLaws.{writes_after, writes_none}
use Rattle.kdcfile_update.specs.Parts.{WithinUpdate, IsReported, stored_in}
use Rattle.kdcfile_update.specs.Report.{is_same_print, report_by}
use Rattle.kdcfile_update.specs.Updating.{MayCarry, IsUpdateCut, IsUpdated, report_of, update_most, most_by}
use Rattle.kdcfile_update.specs.UpdatingLaws.{carried_are_tables, not_both}
use Rattle.kdcfile_update.proofs.Updated.{same_cut}

prints_differ : (a b : List ℕ) → (a ≡ b → ⊥) → is_same_print a b ≡ false
prints_differ a b differs = by (pointwise nat_eq a b) refl
  where
    by : (r : Bool) → pointwise nat_eq a b ≡ r → r ≡ false
    by true e = absurd (differs ((equal_is_same a b).0 e))
    by false e = refl

module _ (g : Generated) (fingerprint : List ℕ) (store : Paged) (t : TableRows) (may : MayCarry g fingerprint (stored_in store t)) where
  prints : is_same_print store.identity.fingerprint fingerprint ≡ false
  prints = prints_differ store.identity.fingerprint fingerprint may.differs

  module _ (acts : List Act) (is : acts ≡ report_by false g t) where
    new_report : acts ≡ report_of g fingerprint (stored_in store t)
    new_report = is ∙ sym (ap (λ same. report_by same g t) prints)

    new_writes : (a b d : State) → b.sent ≡ a.sent → b.put ≤ a.put + carry_most (identity_for g fingerprint) (content_of_tables (carried g t)) → WritesUpTo (λ l. 0) acts b d → WritesUpTo (λ l. update_most g fingerprint (stored_in store t)) (report_of g fingerprint (stored_in store t)) a d
    new_writes a b d sent put h =
        let k = carry_most (identity_for g fingerprint) (content_of_tables (carried g t)) in
        let most : update_most g fingerprint (stored_in store t) ≡ k = ap (λ same. most_by same (identity_for g fingerprint) (carried g t)) prints in
        let same : k + 0 ≡ update_most g fingerprint (stored_in store t) = omega (arith, most) in
        subst (λ (l : List Act). WritesUpTo (λ m. update_most g fingerprint (stored_in store t)) l a d) new_report
        (subst (λ (n : ℕ). WritesUpTo (λ m. n) acts a d) same (writes_after k (λ l. 0) acts a b d sent put h))

  module _ (limits : AreLimits g.limits) (keeps : KeepsTables store.identity store t) (told : StoreLimits) (told_is : told ≡ limits_of g) (y : Content) (y_is : y ≡ content_of_tables (carried g t)) where
    -- what the file is made with then
    made_is : identity_with told fingerprint ≡ identity_for g fingerprint
    made_is = ap (λ (l : StoreLimits). identity_with l fingerprint) told_is

    pub new_keeps : (after : Paged) → after.identity ≡ identity_with told fingerprint → after.content ≡ y → KeepsTables (identity_for g fingerprint) after (carried g t)
    new_keeps after identity content = record { identity_is = identity ∙ made_is; tables = carried_are_tables g t limits keeps.tables; content = content ∙ y_is }

    -- the old tables, or the new ones with nothing sent
    commit_cut : (sent image out : List ℕ) → Either store.identity store.content (identity_with told fingerprint) y sent image out → IsUpdateCut g fingerprint (stored_in store t) sent image out
    unfolding tables_after bytes_of
    commit_cut sent image out (same, inl old) = inl (same, kept_means store.identity store t keeps image old)
    commit_cut sent image out (same, inr new) =
        inr (record {
          since = [];
          more = same ∙ sym (append-nil sent);
          done = [];
          left = report_of g fingerprint (stored_in store t);
          whole = refl;
          file = record {
            tables = carried_are_tables g t limits keeps.tables;
            content = subst (λ (z : Content). StandsFor (identity_for g fingerprint) z image) y_is (subst (λ (j : Identity). StandsFor j y image) made_is new);
          };
          bytes = inl refl;
        })

    module _ (a b : State) (la lb : ℕ → List ℕ → List ℕ → Type 0) (frame : Frame a b) (names : SameNames a b) (sent : IsTrue a.told → b.sent ≡ a.sent)
        (put : IsTrue a.told → b.put ≤ a.put + carry_most (identity_with told fingerprint) y) (left : IsTrue a.told → LeavesCarried store.identity store.content (identity_with told fingerprint) y a b la lb) where
      cut_then : IsTrue a.told → LeavesOnly a b la lb (IsUpdateCut g fingerprint (stored_in store t) a.sent)
      cut_then h =
          leaves_weaker a b la lb (Either store.identity store.content (identity_with told fingerprint) y a.sent) (IsUpdateCut g fingerprint (stored_in store t) a.sent) (left h) (commit_cut a.sent)

      put_then : IsTrue a.told → b.put ≤ a.put + carry_most (identity_for g fingerprint) (content_of_tables (carried g t))
      put_then h =
          subst (λ (z : Content). b.put ≤ a.put + carry_most (identity_for g fingerprint) z) y_is (subst (λ (j : Identity). b.put ≤ a.put + carry_most j y) made_is (put h))

      -- the commit, done or not
      pub commit_within : WithinUpdate g fingerprint (stored_in store t) a b la lb
      commit_within = record {
        frame = frame;
        names = names;
        still = λ h none. absurd (none (inr may));
        any_moment = cut_then;
        written = λ h. inr (inr may, new_writes (report_by false g t) refl a b b (sent h) (put_then h) (writes_none (λ l. 0) (report_by false g t) b b refl (omega arith)));
        left = λ h up. absurd (not_both g fingerprint (stored_in store t) up may.differs);
      }

      -- and the report after it
      module _ (acts : List Act) (is : acts ≡ report_by false g t) (d : State) (ld : ℕ → List ℕ → List ℕ → Type 0) where
        pub report_within : WithinActs tables_after (StandsForTables (identity_for g fingerprint)) (carried g t) acts b d lb ld → (IsTrue b.told → WritesUpTo (λ l. 0) acts b d) → WithinUpdate g fingerprint (stored_in store t) a d la ld
        report_within h writes = record {
          frame = record {
            told = h.frame.told ∙ frame.told;
            disk_faults = omega (arith, frame.disk_faults, h.frame.disk_faults);
            line_faults = omega (arith, frame.line_faults, h.frame.line_faults);
            moment = omega (arith, frame.moment, h.frame.moment);
          };
          names = h.names ∙ names;
          still = λ k none. absurd (none (inr may));
          any_moment = λ k.
              leaves_then a b la lb d ld (IsUpdateCut g fingerprint (stored_in store t) a.sent) (cut_then k)
              (leaves_weaker b d lb ld (IsCutOf tables_after (StandsForTables (identity_for g fingerprint)) (carried g t) acts b.sent) (IsUpdateCut g fingerprint (stored_in store t) a.sent) (h.any_moment (told_after a b frame k))
              (λ image out cut. inr (same_cut refl refl (new_report acts is) a.sent image out (subst (λ (z : List ℕ). IsCutOf tables_after (StandsForTables (identity_for g fingerprint)) (carried g t) acts z image out) (sent k) cut))));
          written = λ k. inr (inr may, new_writes acts is a b d (sent k) (put_then k) (writes (told_after a b frame k)));
          left = λ k up. absurd (not_both g fingerprint (stored_in store t) up may.differs);
        }

        pub report_updated : IsTrue a.told → IsReported (identity_for g fingerprint) (carried g t) acts b d ld → IsUpdated g fingerprint (stored_in store t) a d ld
        report_updated k h = record {
          sent = h.sent ∙ (λ i. sent k i ++ bytes_of (new_report acts is i));
          holds = h.holds;
          at_rest = h.at_rest;
        }
