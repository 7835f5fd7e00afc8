-- What a store keeps, and which tables its file stands for.
use Rattle.std.proofs.Common.{◌≡◌, ℕ, ◌≤◌, Bool, true, false, not, List, refl, sym, ap, subst, ◌∙◌, Result, Ok, Err}
use Rattle.std.specs.Prelude.{nat_eq, IfOk}
use Rattle.std.specs.Cmp.Lexicographic.{pointwise}
use Rattle.std.proofs.lemmas.List.Elements.{All-nil}
use Rattle.kd_base.specs.OrderLaws.{equal_is_same}
use Rattle.kd_records.specs.Identity.{Identity}
use Rattle.kd_records.specs.Charge.{total_charge as records_charge}
use Rattle.kd_records.specs.declared.content.Content.{Content}
use Rattle.application_types.specs.Generation.{Generated}
use Rattle.kdcs_types.specs.Tables.{TableRows, empty_tables}
use Rattle.kdcfile_layout.specs.Layout.{IsNoImage}
use Rattle.kdcfile_layout.specs.ReadFilesLaws.{one_meaning}
use Rattle.kdcfile_store.specs.Paged.{Paged, HasFile}
use Rattle.laws_of_states.specs.Suits.{Suits, SuitsFrom}
use Rattle.record_codec.specs.Records.{content_of_tables, AreTablesOf}
use Rattle.record_codec.specs.RowReadings.{IsProperRow}
use Rattle.record_codec.specs.TableReadings.{AreProperTables}
use Rattle.device_acts.specs.Stands.{AreTables, StandsForNoTables, StandsForTables, KeepsTables, identity_for}
use Rattle.device_acts.specs.Kept.{KeepsNoneFor, KeepsOthers}
use Rattle.device_acts.specs.Opening.{HasNoTablesFor, IsOfOtherTexts}
use Rattle.device_acts.specs.MeaningLaws.{one_table, kept_stands, none_for, content_fits}
use Rattle.device_acts.specs.declared.warm_start.error.OpenError.{OpenError}

-- ---- tables that are read from what a store keeps

keeps : (s : Paged) (x : Content) (t : TableRows) → x ≡ s.content → AreTablesOf x t → AreProperTables t → KeepsTables s.identity s t
keeps s x t is are proper = record { identity_is = refl; tables = record { sorted = are.sorted; proper = proper }; content = sym is ∙ are.records }

module _ (g : Generated) (fingerprint : List ℕ) (s : Paged) (t : TableRows) (k : KeepsTables s.identity s t) where
  -- a store keeps one list of tables
  only_these : (i : Identity) (u : TableRows) → KeepsTables i s u → u ≡ t
  only_these i u h = one_table u t h.tables k.tables (sym h.content ∙ k.content)

  keeps_unsuited : s.identity.fingerprint ≡ fingerprint → (SuitsFrom g s.identity.blksize s.identity.pages t → ⊥) → KeepsNoneFor g fingerprint s
  keeps_unsuited own not_suited = record {
    own_texts = λ i u h. ap (λ (j : Identity). j.fingerprint) (sym h.identity_is) ∙ own;
    unsuited = λ i u h suits. not_suited (subst (λ (v : TableRows). SuitsFrom g s.identity.blksize s.identity.pages v) (only_these i u h) (subst (λ (j : Identity). SuitsFrom g j.blksize j.pages u) (sym h.identity_is) suits));
  }

pub none_suited : (g : Generated) (fingerprint : List ℕ) (s : Paged) (x : Content) (t : TableRows) → x ≡ s.content → AreTablesOf x t → AreProperTables t → (stored : List ℕ) → stored ≡ s.identity.fingerprint → stored ≡ fingerprint
    → (blksize pages : ℕ) → blksize ≡ s.identity.blksize → pages ≡ s.identity.pages → (SuitsFrom g blksize pages t → ⊥) → KeepsNoneFor g fingerprint s
none_suited g fingerprint s x t is are proper stored made own blksize pages blksize_is pages_are not_suited =
    keeps_unsuited g fingerprint s t (keeps s x t is are proper) (sym made ∙ own)
    (λ suits. not_suited (record { pages = blksize_is ∙ suits.pages; pool = pages_are ∙ suits.pool; tables = suits.tables }))

-- fingerprints that were compared and found equal
pub same_print : (r : Bool) (a b : List ℕ) → r ≡ false → r ≡ not (pointwise nat_eq a b) → a ≡ b
same_print r a b is gives = (equal_is_same a b).0 (not_false (pointwise nat_eq a b) (sym gives ∙ is))
  where
    not_false : (b : Bool) → not b ≡ false → b ≡ true
    not_false true e = refl
    not_false false e = sym e

-- ---- a file, by the store that was loaded from it

module _ (s : Paged) (bytes : List ℕ) (file : HasFile s bytes) where
  keeps_meant : (i : Identity) (t : TableRows) → StandsForTables i t bytes → KeepsTables i s t
  keeps_meant i t stands =
      let same = one_meaning s.identity i s.content (content_of_tables t) bytes (s.second, s.layout, file) stands.content in
      record { identity_is = same.0; tables = stands.tables; content = same.1 }

  pub stands_none : (g : Generated) (fingerprint : List ℕ) → KeepsNoneFor g fingerprint s → HasNoTablesFor g fingerprint bytes
  stands_none g fingerprint none = record {
    own_texts = λ i t stands. none.own_texts i t (keeps_meant i t stands);
    unsuited = λ i t stands. none.unsuited i t (keeps_meant i t stands);
  }

  pub others_stand : (stored fingerprint : List ℕ) → KeepsOthers stored fingerprint s → IsOfOtherTexts stored fingerprint bytes
  others_stand stored fingerprint others = record {
    differs = others.differs;
    stands = (s.identity, others.keeps.0, kept_stands s.identity s others.keeps.0 bytes others.keeps.1 file, others.made_with);
  }

  -- a content that no tables have
  pub none_kept : ((t : TableRows) → AreProperTables t → AreTablesOf s.content t → ⊥) → StandsForNoTables bytes
  none_kept none i t stands =
      let k = keeps_meant i t stands in
      none t k.tables.proper (record { sorted = k.tables.sorted; records = k.content })

-- bytes that stand for no image stand for no tables
pub none_there : (bytes : List ℕ) → IsNoImage bytes → StandsForNoTables bytes
none_there bytes none i t stands = none i (content_of_tables t) stands.content

pub no_tables : (g : Generated) (fingerprint bytes : List ℕ) → IsNoImage bytes → HasNoTablesFor g fingerprint bytes
no_tables g fingerprint bytes none = none_for g fingerprint bytes (none_there bytes none)

-- ---- the empty tables

pub empty_are_tables : AreTables empty_tables
empty_are_tables = record {
  sorted = record { gssbs = refl; tlss = refl; ulss = refl; services = refl; jobs = refl; shown = refl; tlss_filled = refl; ulss_filled = refl; services_fit = refl };
  proper = All-nil IsProperRow;
}

-- there are pages for what the store keeps, where one was opened
pub fits_there : (g : Generated) (fingerprint : List ℕ) (r : Result (Paged × TableRows) OpenError) → IfOk r (λ o. KeepsTables (identity_for g fingerprint) o.0 o.1) → IfOk r (λ o. Suits g o.1) → IfOk r (λ o. records_charge o.0.identity.blksize o.0.content.items ≤ o.0.identity.pages)
fits_there g fingerprint (Ok o) keeps suits = content_fits g fingerprint o.0 o.1 keeps suits
fits_there g fingerprint (Err e) keeps suits = tt
