-- Laws: which copies are in use after two files were read, and which tables they keep.
use Rattle.std.specs.Prelude.{◌≡◌, ℕ, ◌+◌, List, [], length, Option, Some, None}
use Rattle.std.proofs.Common.{inl, inr, arith, refl, sym, ap, subst, ◌∙◌}
use Rattle.std.proofs.lemmas.List.{length-take}
use Rattle.kd_records.specs.Identity.{Identity}
use Rattle.kd_records.specs.declared.content.Content.{Content}
use Rattle.application_types.specs.Generation.{Generated}
use Rattle.kdcs_types.specs.Tables.{TableRows}
use Rattle.kd_device.specs.declared.half.Half.{Half}
use Rattle.kdcfile_store.specs.Paged.{HasFile}
use Rattle.kdcfile_store.specs.declared.store.StoreLimits.{StoreLimits}
use Rattle.kdcfile_copies.specs.declared.answer.LoadedCopy.{LoadedCopy}
use Rattle.kdcfile_copies.specs.declared.answer.Found.{Found}
use Rattle.kdcfile_copies.specs.declared.answer.Found.TheVariants.{Empty, NoCopy, Copy}
use Rattle.kdcfile_copies.specs.Copies.{AtMost, Below, IsChosen, IsCopyOf, IsNoCopy, bare, with_sequence}
use Rattle.kdcfile_copies.specs.CopiesLaws.{one_is_chosen, one_meaning_of_copies, store_is_copy}
use Rattle.kdcfile_copies.specs.Finding.{IsAnswer, IsFound, IsLoaded}
use Rattle.kdcfile_copies.specs.Keeping.{CopyKeeps}
use Rattle.record_codec.specs.Records.{content_of_tables, AreTablesOf}
use Rattle.record_codec.specs.TableReadings.{AreProperTables}
use Rattle.device_acts.specs.Stands.{AreTables}
use Rattle.kdcfile_double.specs.Twice.{Twice, AreSame, IsTwice, KeepsIf, IsOpen, with_copies, identity_of, sequence_of, content_of}
use Rattle.kdcfile_double.specs.Opening.{HasNoTablesInTwo, IsChosenTables, IsTwoOfOtherTexts, KeepsTablesTwice, identity_twice}
use Rattle.kdcfile_double.specs.Choice.{copy_in, HasCopy, IsLoadedIf, IsOfTwo, IsChoice, AreOfFiles, IsCounted, SuitsTwice, KeepsNoneTwice, KeepsOthersTwice}
use Rattle.kdcfile_double.specs.ChosenLaws.{both_chosen, none_is_below, below_at_most, copy_at_most, copy_below}

-- no bytes are no copy
pub nothing_is_no_copy : IsNoCopy []
nothing_is_no_copy i n x copy = absurd (omega (arith, ap (λ (l : List ℕ). length l) copy.content.2.image.headed, length-take {A = ℕ} 13 []))

pub found_has : (f : Found) (bytes : List ℕ) → IsAnswer f bytes → HasCopy (copy_in f) bytes
found_has Empty bytes is = subst (λ (l : List ℕ). IsNoCopy l) (sym is) nothing_is_no_copy
found_has NoCopy bytes is = is.1
found_has (Copy p) bytes is = is

pub found_loaded : (f : Found) → IsFound f → IsLoadedIf (copy_in f)
found_loaded Empty is = tt
found_loaded NoCopy is = tt
found_loaded (Copy p) is = is

-- ---- the invariant

lost_none : {h : Half} → None ≡ Some h → ⊥
lost_none e = absurd cc

some_none : {A : Type 0} {x : A} → None ≡ Some x → ⊥
some_none e = absurd cc

own : (p : LoadedCopy) → IsLoaded p → KeepsIf p.store.identity p.sequence (bare p.store.content) (Some p)
own p is = (refl, refl, is.keeps)

pub one_is_twice : (p : LoadedCopy) → IsLoaded p → IsTwice (with_copies (Some p) None)
one_is_twice p is = record { alike = record { first_keeps = own p is; second_keeps = tt }; lost_is_unused = λ h e. absurd (lost_none e) }

same_keeps : (p q : LoadedCopy) → IsLoaded q → AreSame p q → KeepsIf p.store.identity p.sequence (bare p.store.content) (Some q)
same_keeps p q is same =
    (sym same.identity, sym same.sequence, subst (λ (n : ℕ). CopyKeeps q.store n (bare p.store.content)) (sym same.sequence) (subst (λ (x : Content). CopyKeeps q.store q.sequence x) (ap bare (sym same.content)) is.keeps))

pub two_are_twice : (p q : LoadedCopy) → IsLoaded p → IsLoaded q → AreSame p q → IsTwice (with_copies (Some p) (Some q))
two_are_twice p q is too same = record { alike = record { first_keeps = own p is; second_keeps = same_keeps p q too same }; lost_is_unused = λ h e. absurd (lost_none e) }

-- ---- what is in use

pub choice_is_open : (p q : Option LoadedCopy) (s : Twice) → IsChoice p q s → IsOpen s
choice_is_open (Some p) (Some q) s (inl only) = inr (q, ap (λ (u : Twice). u.second) only.1)
choice_is_open (Some p) (Some q) s (inr (inl only)) = inl (p, ap (λ (u : Twice). u.first) only.2)
choice_is_open (Some p) (Some q) s (inr (inr both)) = inl (p, ap (λ (u : Twice). u.first) both.1)
choice_is_open (Some p) None s is = inl (p, ap (λ (u : Twice). u.first) is)
choice_is_open None (Some q) s is = inr (q, ap (λ (u : Twice). u.second) is)
choice_is_open None None s is = absurd is

copy_of : (p : LoadedCopy) (bytes : List ℕ) → IsLoaded p → HasFile p.store bytes → IsCopyOf p.store.identity p.sequence (bare p.store.content) bytes
copy_of p bytes is has = store_is_copy p.store p.sequence (bare p.store.content) bytes is.keeps has

same_copy : (p q : LoadedCopy) (bytes : List ℕ) → AreSame p q → IsCopyOf q.store.identity q.sequence (bare q.store.content) bytes → IsCopyOf p.store.identity p.sequence (bare p.store.content) bytes
same_copy p q bytes same is =
    subst (λ (i : Identity). IsCopyOf i p.sequence (bare p.store.content) bytes) (sym same.identity)
    (subst (λ (n : ℕ). IsCopyOf q.store.identity n (bare p.store.content) bytes) (sym same.sequence) (subst (λ (x : Content). IsCopyOf q.store.identity q.sequence x bytes) (ap bare (sym same.content)) is))

inner : (p q : LoadedCopy) → Some p ≡ Some q → p ≡ q
inner p q e = cc

pub first_alone : (p : LoadedCopy) (a b : List ℕ) → IsLoaded p → HasFile p.store a → AtMost p.sequence b → (IsCopyOf p.store.identity p.sequence (bare p.store.content) b → ⊥) → AreOfFiles (with_copies (Some p) None) a b
first_alone p a b is has most differs = record {
  chosen = inl (copy_of p a is has, most);
  in_use = record {
    first_is = λ used. copy_of p a is has;
    second_is = λ used. absurd (some_none used.1);
    first_is_not = λ unused. absurd (unused (p, refl));
    second_is_not = λ unused. (most, differs);
  };
  first_has = λ q e. subst (λ (r : LoadedCopy). HasFile r.store a) (inner p q e) has;
  second_has = λ q e. absurd (some_none e);
}

pub second_alone : (q : LoadedCopy) (a b : List ℕ) → IsLoaded q → HasFile q.store b → Below q.sequence a → AreOfFiles (with_copies None (Some q)) a b
second_alone q a b is has below = record {
  chosen = inr (copy_of q b is has, below);
  in_use = record {
    first_is = λ used. absurd (some_none used.1);
    second_is = λ used. copy_of q b is has;
    first_is_not = λ unused. below;
    second_is_not = λ unused. absurd (unused (q, refl));
  };
  first_has = λ r e. absurd (some_none e);
  second_has = λ r e. subst (λ (u : LoadedCopy). HasFile u.store b) (inner q r e) has;
}

pub both_in_use : (p q : LoadedCopy) (a b : List ℕ) → IsLoaded p → IsLoaded q → HasFile p.store a → HasFile q.store b → AreSame p q → AreOfFiles (with_copies (Some p) (Some q)) a b
both_in_use p q a b is too has holds same = record {
  chosen = both_chosen p.store.identity p.sequence (bare p.store.content) a b (copy_of p a is has) (same_copy p q b same (copy_of q b too holds));
  in_use = record {
    first_is = λ used. copy_of p a is has;
    second_is = λ used. same_copy p q b same (copy_of q b too holds);
    first_is_not = λ unused. absurd (unused (p, refl));
    second_is_not = λ unused. absurd (unused (q, refl));
  };
  first_has = λ r e. subst (λ (u : LoadedCopy). HasFile u.store a) (inner p r e) has;
  second_has = λ r e. subst (λ (u : LoadedCopy). HasFile u.store b) (inner q r e) holds;
}

same_of_copies : (p q : LoadedCopy) → IsLoaded p → IsLoaded q → p.store.identity ≡ q.store.identity → p.sequence ≡ q.sequence → bare p.store.content ≡ bare q.store.content → AreSame p q
same_of_copies p q is too made numbered kept = record {
  sequence = numbered;
  identity = made;
  content = is.keeps.content ∙ (λ i. with_sequence (numbered i) (kept i)) ∙ sym too.keeps.content;
}

module _ (p q : LoadedCopy) (a b : List ℕ) (is : IsLoaded p) (too : IsLoaded q) (has : HasFile p.store a) (holds : HasFile q.store b) where
  two_fit : (s : Twice) → IsOfTwo p q s → AreOfFiles s a b
  two_fit s (inl only) = subst (λ (u : Twice). AreOfFiles u a b) (sym only.1) (second_alone q a b too holds (copy_below p.store.identity p.sequence q.sequence (bare p.store.content) a (copy_of p a is has) only.0))
  two_fit s (inr (inl only)) =
      subst (λ (u : Twice). AreOfFiles u a b) (sym only.2)
      (first_alone p a b is has (copy_at_most q.store.identity q.sequence p.sequence (bare q.store.content) b (copy_of q b too holds) only.0)
      (λ copy.
      let one = one_meaning_of_copies p.store.identity q.store.identity p.sequence q.sequence (bare p.store.content) (bare q.store.content) b copy (copy_of q b too holds) in
      only.1 (same_of_copies p q is too one.0 one.1 one.2)))
  two_fit s (inr (inr both)) = subst (λ (u : Twice). AreOfFiles u a b) (sym both.1) (both_in_use p q a b is too has holds both.0)

-- what is chosen of two files are their copies
pub choice_fits : (p q : Option LoadedCopy) (s : Twice) (a b : List ℕ) → IsLoadedIf p → IsLoadedIf q → IsChoice p q s → HasCopy p a → HasCopy q b → AreOfFiles s a b
choice_fits (Some p) (Some q) s a b is too choice has holds = two_fit p q a b is too has holds s choice
choice_fits (Some p) None s a b is too choice has none =
    subst (λ (u : Twice). AreOfFiles u a b) (sym choice)
    (first_alone p a b is has (below_at_most p.sequence b (none_is_below p.sequence b none)) (none p.store.identity p.sequence (bare p.store.content)))
choice_fits None (Some q) s a b is too choice none holds = subst (λ (u : Twice). AreOfFiles u a b) (sym choice) (second_alone q a b too holds (none_is_below q.sequence a none))
choice_fits None None s a b is too choice none neither = absurd choice

-- ---- tables

pub identity_made : (g : Generated) (fingerprint : List ℕ) (i : Identity) → i.blksize ≡ g.limits.blksize → i.pages ≡ g.limits.pgpool + 1 → i.fingerprint ≡ fingerprint → i ≡ identity_twice g fingerprint
identity_made g fingerprint i size pages print = λ j. record { blksize = size j; pages = pages j; fingerprint = print j }

module _ (s : Twice) (p : LoadedCopy) (x : Content) (counted : IsCounted p s) (content : x ≡ bare p.store.content) where
  kept_content : content_of s ≡ x
  kept_content = sym counted.content ∙ sym content

  module _ (t : TableRows) (are : AreTablesOf x t) (proper : AreProperTables t) where
    these : AreTables t
    these = record { sorted = are.sorted; proper = proper }

    module _ (g : Generated) (fingerprint stored : List ℕ) (limits : StoreLimits) (print : stored ≡ p.store.identity.fingerprint) (own_print : stored ≡ fingerprint) (size : limits.blksize ≡ p.store.identity.blksize) (pages : limits.pgpool ≡ p.store.identity.pages) where
      made_for : identity_of s ≡ p.store.identity
      made_for = sym counted.identity

      printed : (identity_of s).fingerprint ≡ fingerprint
      printed = ap (λ (i : Identity). i.fingerprint) made_for ∙ sym print ∙ own_print

      pub keeps_suited : SuitsTwice g limits t → KeepsTablesTwice (identity_twice g fingerprint) s t
      keeps_suited suits = record {
        identity_is =
            identity_made g fingerprint (identity_of s) (ap (λ (i : Identity). i.blksize) made_for ∙ sym size ∙ suits.pages) (ap (λ (i : Identity). i.pages) made_for ∙ sym pages ∙ suits.pool) printed;
        tables = these;
        content = kept_content ∙ are.records;
      }

-- ---- which tables two files stand for

module _ (s : Twice) (a b : List ℕ) (fits : AreOfFiles s a b) where
  pub chosen_tables : (i : Identity) (t : TableRows) → KeepsTablesTwice i s t → IsChosenTables i (sequence_of s) t a b
  chosen_tables i t keeps = record {
    tables = keeps.tables;
    chosen = subst (λ (j : Identity). IsChosen j (sequence_of s) (content_of_tables t) a b) keeps.identity_is (subst (λ (x : Content). IsChosen (identity_of s) (sequence_of s) x a b) keeps.content fits.chosen);
  }

  keeps_chosen : (i : Identity) (n : ℕ) (t : TableRows) → IsChosenTables i n t a b → KeepsTablesTwice i s t
  keeps_chosen i n t h =
      let one = one_is_chosen (identity_of s) i (sequence_of s) n (content_of s) (content_of_tables t) a b fits.chosen h.chosen in
      record { identity_is = one.0; tables = h.tables; content = one.2 }

  pub none_in_two : (g : Generated) (fingerprint : List ℕ) → KeepsNoneTwice g fingerprint s → HasNoTablesInTwo g fingerprint a b
  none_in_two g fingerprint none = record {
    own_texts = λ i n t h. none.own_texts i t (keeps_chosen i n t h);
    unsuited = λ i n t h. none.unsuited i t (keeps_chosen i n t h);
  }

  pub others_in_two : (stored fingerprint : List ℕ) → KeepsOthersTwice stored fingerprint s → IsTwoOfOtherTexts stored fingerprint a b
  others_in_two stored fingerprint others = record {
    differs = others.differs;
    stands = (identity_of s, sequence_of s, others.keeps.0, chosen_tables (identity_of s) others.keeps.0 others.keeps.1, others.made_with);
  }

no_chosen : (a b : List ℕ) → IsNoCopy a → IsNoCopy b → (i : Identity) (n : ℕ) (x : Content) → IsChosen i n x a b → ⊥
no_chosen a b none neither i n x (inl is) = none i n x is.0
no_chosen a b none neither i n x (inr is) = neither i n x is.0

-- where no file is a copy
pub nothing_in_two : (g : Generated) (fingerprint a b : List ℕ) → IsNoCopy a → IsNoCopy b → HasNoTablesInTwo g fingerprint a b
nothing_in_two g fingerprint a b none neither = record {
  own_texts = λ i n t h. absurd (no_chosen a b none neither i n (content_of_tables t) h.chosen);
  unsuited = λ i n t h size pages suits. no_chosen a b none neither i n (content_of_tables t) h.chosen;
}
