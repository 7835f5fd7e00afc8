-- Which tables a file stands for, against what a store keeps; and that a file is answered in one way.
use Rattle.std.proofs.Common.{◌≡◌, inl, inr, ℕ, ◌≤◌, List, [], length, refl, sym, ap, subst, ◌∙◌, arith}
use Rattle.std.proofs.lemmas.List.{length-take}
use Rattle.kd_records.specs.Identity.{Identity}
use Rattle.kd_records.specs.Charge.{total_charge as records_charge}
use Rattle.kd_records.specs.declared.content.Content.{Content}
use Rattle.application_types.specs.Generation.{Generated}
use Rattle.kdcs_types.specs.Tables.{TableRows}
use Rattle.kdcfile_layout.specs.ReadFilesLaws.{one_meaning}
use Rattle.kdcfile_layout.specs.Layout.{StandsFor}
use Rattle.kdcfile_store.specs.Paged.{Paged, HasFile}
use Rattle.laws_of_states.specs.Suits.{Suits}
use Rattle.record_codec.specs.Records.{content_of_tables}
use Rattle.record_codec.specs.OneToOneLaws.{tables_are_one_to_one}
use Rattle.device_acts.specs.ContentLaws.{content_charged}
use Rattle.device_acts.specs.Stands.{AreTables, StandsForNoTables, StandsForTables, KeepsTables, OneMeaningOfTables, identity_for}
use Rattle.device_acts.specs.Opening.{StartsFrom, HasNoTablesFor, IsRefused, IsOfOtherTexts, AnswersExcludeEachOther}

pub one_table : (t u : TableRows) → AreTables t → AreTables u → content_of_tables t ≡ content_of_tables u → t ≡ u
one_table t u h k same = tables_are_one_to_one t u h.proper k.proper h.sorted k.sorted same

pub one_meaning_of_tables : OneMeaningOfTables
one_meaning_of_tables i j t u bytes h k =
    let same = one_meaning i j (content_of_tables t) (content_of_tables u) bytes h.content k.content in
    (same.0, one_table t u h.tables k.tables same.1)

-- an empty file stands for nothing
pub nothing_stands : (i : Identity) (t : TableRows) → StandsForTables i t [] → ⊥
nothing_stands i t stands = absurd (omega (arith, ap (λ (l : List ℕ). length l) stands.content.2.image.headed, length-take {A = ℕ} 13 []))

-- where a store keeps tables, its content stands for them, and so do the bytes of its file
pub kept_means : (i : Identity) (store : Paged) (t : TableRows) → KeepsTables i store t → (bytes : List ℕ) → StandsFor store.identity store.content bytes → StandsForTables i t bytes
kept_means i store t keeps bytes stands =
    record { tables = keeps.tables; content = subst (λ (x : Content). StandsFor i x bytes) keeps.content (subst (λ (j : Identity). StandsFor j store.content bytes) keeps.identity_is stands) }

pub kept_stands : (i : Identity) (store : Paged) (t : TableRows) (bytes : List ℕ) → KeepsTables i store t → HasFile store bytes → StandsForTables i t bytes
kept_stands i store t bytes keeps file = kept_means i store t keeps bytes (store.second, store.layout, file)

-- bytes that stand for no tables have none for any texts
pub none_for : (g : Generated) (fingerprint bytes : List ℕ) → StandsForNoTables bytes → HasNoTablesFor g fingerprint bytes
none_for g fingerprint bytes none = record { own_texts = λ i t stands. absurd (none i t stands); unsuited = λ i t stands suits. none i t stands }

-- ---- a file is answered in one way

module _ (g : Generated) (fingerprint bytes : List ℕ) where
  started_once : (t u : TableRows) → StartsFrom g fingerprint bytes t → StartsFrom g fingerprint bytes u → t ≡ u
  started_once t u (inl (empty, is)) (inl (again, too)) = is ∙ sym too
  started_once t u (inl (empty, is)) (inr (stands, suits)) = absurd (nothing_stands (identity_for g fingerprint) u (subst (λ (l : List ℕ). StandsForTables (identity_for g fingerprint) u l) empty stands))
  started_once t u (inr (stands, suits)) (inl (empty, is)) = absurd (nothing_stands (identity_for g fingerprint) t (subst (λ (l : List ℕ). StandsForTables (identity_for g fingerprint) t l) empty stands))
  started_once t u (inr (stands, suits)) (inr (again, too)) = (one_meaning_of_tables (identity_for g fingerprint) (identity_for g fingerprint) t u bytes stands again).1

  started_or_refused : (t : TableRows) → StartsFrom g fingerprint bytes t → IsRefused g fingerprint bytes → ⊥
  started_or_refused t (inl (empty, is)) refused = refused.0 empty
  started_or_refused t (inr (stands, suits)) refused = refused.1.unsuited (identity_for g fingerprint) t stands (record { pages = refl; pool = refl; tables = suits })

  started_or_other : (t : TableRows) (stored : List ℕ) → StartsFrom g fingerprint bytes t → IsOfOtherTexts stored fingerprint bytes → ⊥
  started_or_other t stored (inl (empty, is)) other = nothing_stands other.stands.0 other.stands.1 (subst (λ (l : List ℕ). StandsForTables other.stands.0 other.stands.1 l) empty other.stands.2)
  started_or_other t stored (inr (stands, suits)) other =
      let same = one_meaning_of_tables other.stands.0 (identity_for g fingerprint) other.stands.1 t bytes other.stands.2 stands in
      other.differs (sym other.stands.3 ∙ ap (λ (i : Identity). i.fingerprint) same.0)

  refused_or_other : (stored : List ℕ) → IsRefused g fingerprint bytes → IsOfOtherTexts stored fingerprint bytes → ⊥
  refused_or_other stored refused other = other.differs (sym other.stands.3 ∙ refused.1.own_texts other.stands.0 other.stands.1 other.stands.2)

  other_once : (stored again : List ℕ) → IsOfOtherTexts stored fingerprint bytes → IsOfOtherTexts again fingerprint bytes → stored ≡ again
  other_once stored again h k =
      let same = one_meaning_of_tables h.stands.0 k.stands.0 h.stands.1 k.stands.1 bytes h.stands.2 k.stands.2 in
      sym h.stands.3 ∙ ap (λ (i : Identity). i.fingerprint) same.0 ∙ k.stands.3

pub answers_exclude_each_other : AnswersExcludeEachOther
answers_exclude_each_other g fingerprint bytes = record {
  started_once = started_once g fingerprint bytes;
  started_or_refused = started_or_refused g fingerprint bytes;
  started_or_other = started_or_other g fingerprint bytes;
  refused_or_other = refused_or_other g fingerprint bytes;
  other_once = other_once g fingerprint bytes;
}

-- ---- there are pages for what a store keeps

pub content_fits : (g : Generated) (fingerprint : List ℕ) (s : Paged) (t : TableRows) → KeepsTables (identity_for g fingerprint) s t → Suits g t → records_charge s.identity.blksize s.content.items ≤ s.identity.pages
content_fits g fingerprint s t k suits =
    subst (λ (i : Identity). records_charge i.blksize s.content.items ≤ i.pages) (sym k.identity_is)
    (subst (λ (x : Content). records_charge g.limits.blksize x.items ≤ g.limits.pgpool) (sym k.content) (content_charged g t k.tables.proper suits))
