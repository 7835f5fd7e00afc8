-- What became of the update of an opened file.
use Rattle.std.proofs.Common.{◌≡◌, inl, inr, ℕ, true, List, ◌++◌, sym, ap, subst, ◌∙◌}
use Rattle.std.specs.Prelude.{IsTrue}
use Rattle.kd_base.specs.OrderLaws.{equal_is_same}
use Rattle.kd_device.specs.Device.{State}
use Rattle.kd_device.specs.TimeLaws.{leaves_weaker}
use Rattle.kd_records.specs.Identity.{Identity}
use Rattle.kdcfile_store.specs.Paged.{Paged}
use Rattle.kdcs_types.specs.declared.act.Act.{Act}
use Rattle.kdcs_types.specs.Tables.{TableRows}
use Rattle.application_types.specs.Generation.{Generated}
use Rattle.abstract_monitor.specs.Trace.{tables_after, bytes_of}
use Rattle.laws_of_states.specs.Suits.{SuitsFrom}
use Rattle.device_acts.specs.Stands.{StandsForTables}
use Rattle.device_acts.specs.Acting.{IsCutOf, WithinActs, commits_nothing}
use Rattle.device_acts.specs.Said.{SameDisk}
use Rattle.kdcfile_update.specs.Parts.{WithinUpdate, IsReported, stored_in}
use Rattle.kdcfile_update.specs.Report.{report_by}
use Rattle.kdcfile_update.specs.Updating.{Stored, IsUpToDate, IsUpdateCut, IsUpdated, report_of}
use Rattle.kdcfile_update.specs.UpdatingLaws.{own_texts, stays}

-- ---- tables that suit

-- those of a store whose sizes were told, with its own fingerprint
pub up_there : (g : Generated) (store : Paged) (t : TableRows) (blksize pgpool : ℕ) → SuitsFrom g blksize pgpool t → blksize ≡ store.identity.blksize → pgpool ≡ store.identity.pages → IsUpToDate g store.identity.fingerprint (stored_in store t)
up_there g store t blksize pgpool suits block pool =
    let size = sym block ∙ suits.pages in
    let pages = sym pool ∙ suits.pool in
    record { identity_is = λ i. record { blksize = size i; pages = pages i; fingerprint = store.identity.fingerprint }; suits = suits.tables }

-- ---- the same acts, over the same tables

module _ {i j : Identity} {t u : TableRows} (identity : i ≡ j) (tables : t ≡ u) where
  same_holds : (bytes : List ℕ) → StandsForTables i t bytes → StandsForTables j u bytes
  same_holds bytes h = subst (λ (v : TableRows). StandsForTables j v bytes) tables (subst (λ (k : Identity). StandsForTables k t bytes) identity h)

  pub same_cut : {p q : List Act} → p ≡ q → (sent image out : List ℕ) → IsCutOf tables_after (StandsForTables i) t p sent image out → IsCutOf tables_after (StandsForTables j) u q sent image out
  same_cut {p} acts sent image out h =
      subst (λ (l : List Act). IsCutOf tables_after (StandsForTables j) u l sent image out) acts
      (subst (λ (v : TableRows). IsCutOf tables_after (StandsForTables j) v p sent image out) tables
      (subst (λ (k : Identity). IsCutOf tables_after (StandsForTables k) t p sent image out) identity h))

module _ (g : Generated) (fingerprint : List ℕ) (s : Stored) where
  -- ---- a file that is up to date

  module _ (up : IsUpToDate g fingerprint s) (acts : List Act) (is : acts ≡ report_by true g s.tables) where
    kept_report : acts ≡ report_of g fingerprint s
    kept_report = is ∙ sym (ap (λ same. report_by same g s.tables) ((equal_is_same s.identity.fingerprint fingerprint).1 (own_texts g fingerprint s up)))

    module _ (a b : State) (la lb : ℕ → List ℕ → List ℕ → Type 0) where
      pub kept_within : WithinActs tables_after (StandsForTables s.identity) s.tables acts a b la lb → WithinUpdate g fingerprint s a b la lb
      kept_within h =
          let disk : IsTrue a.told → SameDisk a b = λ told. h.quiet told (ap commits_nothing is) in
          record {
            frame = h.frame;
            names = h.names;
            still = λ told none. absurd (none (inl up));
            any_moment = λ told.
                leaves_weaker a b la lb (IsCutOf tables_after (StandsForTables s.identity) s.tables acts a.sent) (IsUpdateCut g fingerprint s a.sent) (h.any_moment told)
                (λ image out cut. inr (same_cut up.identity_is (sym (stays g fingerprint s up)) kept_report a.sent image out cut));
            written = λ told. inl (disk told).put;
            left = λ told also. disk told;
          }

      pub kept_updated : IsReported s.identity s.tables acts a b lb → IsUpdated g fingerprint s a b lb
      kept_updated h = record {
        sent = h.sent ∙ ap (λ (l : List Act). a.sent ++ bytes_of l) kept_report;
        holds = same_holds up.identity_is (sym (stays g fingerprint s up)) b.holds h.holds;
        at_rest = h.at_rest;
      }
