-- The copy that counts of two files, and the tables that it keeps.
use Rattle.std.specs.Prelude.{◌≡◌, ◌≤◌, ◌<◌, ℕ, Bool, false, IsTrue, List, Option, Some, None}
use Rattle.std.proofs.Common.{inl, inr, refl, sym, ap, subst, ◌∙◌, arith}
use Rattle.kd_base.specs.ToolsLaws.{some_is}
use Rattle.kd_device.specs.declared.half.Half.{Half}
use Rattle.kd_device.specs.Twin.{other}
use Rattle.kd_device.specs.declared.half.Half.TheVariants.{First, Second}
use Rattle.kd_records.specs.Identity.{Identity}
use Rattle.kd_records.specs.declared.content.Content.{Content}
use Rattle.kdcs_types.specs.Tables.{TableRows}
use Rattle.record_codec.specs.Records.{content_of_tables}
use Rattle.device_acts.specs.Stands.{AreTables, StandsForNoTables}
use Rattle.kdcfile_store.specs.Paged.{HasFile, Paged}
use Rattle.kdcfile_copies.specs.Beside.{file_of}
use Rattle.kdcfile_copies.specs.declared.answer.LoadedCopy.{LoadedCopy}
use Rattle.kdcfile_copies.specs.Copies.{AtMost, Below, IsChosen, IsCopyOf, IsNoCopy, bare, with_sequence}
use Rattle.kdcfile_copies.specs.CopiesLaws.{one_is_chosen, one_meaning_of_copies, store_is_copy}
use Rattle.kdcfile_copies.specs.Finding.{IsLoaded}
use Rattle.kdcfile_double.specs.ChosenLaws.{below_at_most, copy_at_most, copy_below, none_is_below}
use Rattle.kdcfile_double.specs.Twice.{AreSame}
use Rattle.kdcfile_carry.specs.declared.finding.Counted.{Counted}
use Rattle.kdcfile_carry.specs.declared.finding.Kept.{Kept}
use Rattle.kdcfile_carry.specs.Files.{AreFilesBy, AreNone}
use Rattle.kdcfile_carry.specs.FilesLaws.{copy_has_no_tables, tables_are_no_copy}
use Rattle.kdcfile_carry.specs.Finding.{AreCounted, IsKeptIn, KeepsNoTables}
use Rattle.kdcfile_carry.specs.Keeping.{IsIn, IsSource}
use Rattle.kdcfile_carry.specs.KeepingLaws.{source_files}

loaded_copy : (p : LoadedCopy) (bytes : List ℕ) → IsLoaded p → HasFile p.store bytes → IsCopyOf p.store.identity p.sequence (bare p.store.content) bytes
loaded_copy p bytes is has = store_is_copy p.store p.sequence (bare p.store.content) bytes is.keeps has

pub second_counts : (q : LoadedCopy) (a b : List ℕ) → IsLoaded q → HasFile q.store b → Below q.sequence a → AreCounted (record { copy = q; home = Second; alike = false }) a b
second_counts q a b is has below = record {
  chosen = inr (loaded_copy q b is has, below);
  has = has;
  behind = λ second. below;
  alike = λ same half. absurd cc;
  unlike = λ differs copy. absurd (omega (arith, below q.store.identity q.sequence (bare q.store.content) copy));
}

pub first_counts : (p : LoadedCopy) (alike : Bool) (a b : List ℕ) → IsLoaded p → HasFile p.store a → AtMost p.sequence b → (IsTrue alike → IsCopyOf p.store.identity p.sequence (bare p.store.content) b) → (alike ≡ false → IsCopyOf p.store.identity p.sequence (bare p.store.content) b → ⊥)
    → AreCounted (record { copy = p; home = First; alike = alike }) a b
first_counts p alike a b is has most same differs = record {
  chosen = inl (loaded_copy p a is has, most);
  has = has;
  behind = λ second. absurd cc;
  alike = by;
  unlike = differs;
}
  where
    by : IsTrue alike → (half : Half) → IsCopyOf p.store.identity p.sequence (bare p.store.content) (file_of half a b)
    by alike_is First = loaded_copy p a is has
    by alike_is Second = same alike_is

module _ (p q : LoadedCopy) (a b : List ℕ) (is : IsLoaded p) (too : IsLoaded q) (has : HasFile p.store a) (holds : HasFile q.store b) where
  pub greater_counts : p.sequence < q.sequence → AreCounted (record { copy = q; home = Second; alike = false }) a b
  greater_counts less = second_counts q a b too holds (copy_below p.store.identity p.sequence q.sequence (bare p.store.content) a (loaded_copy p a is has) less)

  same_copy : AreSame p q → IsCopyOf p.store.identity p.sequence (bare p.store.content) b
  same_copy same =
      subst (λ (i : Identity). IsCopyOf i p.sequence (bare p.store.content) b) (sym same.identity)
      (subst (λ (n : ℕ). IsCopyOf q.store.identity n (bare p.store.content) b) (sym same.sequence) (subst (λ (x : Content). IsCopyOf q.store.identity q.sequence x b) (ap bare (sym same.content)) (loaded_copy q b too holds)))

  -- the second file is the same copy only where both were read as the same
  same_read : IsCopyOf p.store.identity p.sequence (bare p.store.content) b → AreSame p q
  same_read copy =
      let one = one_meaning_of_copies p.store.identity q.store.identity p.sequence q.sequence (bare p.store.content) (bare q.store.content) b copy (loaded_copy q b too holds) in
      record { sequence = one.1; identity = one.0; content = is.keeps.content ∙ (λ i. with_sequence (one.1 i) (one.2 i)) ∙ sym too.keeps.content }

  pub equal_counts : (alike : Bool) → q.sequence ≤ p.sequence → (IsTrue alike → AreSame p q) → (alike ≡ false → AreSame p q → ⊥) → AreCounted (record { copy = p; home = First; alike = alike }) a b
  equal_counts alike least same differs =
      first_counts p alike a b is has (copy_at_most q.store.identity q.sequence p.sequence (bare q.store.content) b (loaded_copy q b too holds) least) (λ yes. same_copy (same yes)) (λ no copy. differs no (same_read copy))

pub first_alone : (p : LoadedCopy) (a b : List ℕ) → IsLoaded p → HasFile p.store a → IsNoCopy b → AreCounted (record { copy = p; home = First; alike = false }) a b
first_alone p a b is has none = first_counts p false a b is has (below_at_most p.sequence b (none_is_below p.sequence b none)) (λ yes. absurd cc) (λ no. none p.store.identity p.sequence (bare p.store.content))

pub second_alone : (q : LoadedCopy) (a b : List ℕ) → IsLoaded q → HasFile q.store b → IsNoCopy a → AreCounted (record { copy = q; home = Second; alike = false }) a b
second_alone q a b is has none = second_counts q a b is has (none_is_below q.sequence a none)

-- ---- what is kept

-- the same copy by the tables that were found
as_tables : (from : Counted) (k : Kept) (n : ℕ) (bytes : List ℕ) → IsKeptIn k from → k.sequence ≡ Some n → IsCopyOf from.copy.store.identity from.copy.sequence (bare from.copy.store.content) bytes → IsCopyOf k.file.store.identity n (content_of_tables k.tables) bytes
as_tables from k n bytes kept is copy =
    let made : from.copy.store.identity ≡ k.file.store.identity = ap (λ (s : Paged). s.identity) (sym kept.store) in
    let numbered : from.copy.sequence ≡ n = some_is from.copy.sequence n (sym kept.sequence ∙ is) in
    let content : bare from.copy.store.content ≡ content_of_tables k.tables = ap (λ (s : Paged). bare s.content) (sym kept.store) ∙ kept.records in
    subst (λ (i : Identity). IsCopyOf i n (content_of_tables k.tables) bytes) made
    (subst (λ (m : ℕ). IsCopyOf from.copy.store.identity m (content_of_tables k.tables) bytes) numbered (subst (λ (x : Content). IsCopyOf from.copy.store.identity from.copy.sequence x bytes) content copy))

-- and back
as_counted : (from : Counted) (k : Kept) (n : ℕ) (bytes : List ℕ) → IsKeptIn k from → k.sequence ≡ Some n → IsCopyOf k.file.store.identity n (content_of_tables k.tables) bytes → IsCopyOf from.copy.store.identity from.copy.sequence (bare from.copy.store.content) bytes
as_counted from k n bytes kept is copy =
    let made : from.copy.store.identity ≡ k.file.store.identity = ap (λ (s : Paged). s.identity) (sym kept.store) in
    let numbered : from.copy.sequence ≡ n = some_is from.copy.sequence n (sym kept.sequence ∙ is) in
    let content : bare from.copy.store.content ≡ content_of_tables k.tables = ap (λ (s : Paged). bare s.content) (sym kept.store) ∙ kept.records in
    subst (λ (i : Identity). IsCopyOf i from.copy.sequence (bare from.copy.store.content) bytes) (sym made)
    (subst (λ (m : ℕ). IsCopyOf k.file.store.identity m (bare from.copy.store.content) bytes) (sym numbered) (subst (λ (x : Content). IsCopyOf k.file.store.identity n x bytes) (sym content) copy))

as_chosen : (from : Counted) (k : Kept) (a b : List ℕ) → IsKeptIn k from → AreCounted from a b → IsChosen k.file.store.identity from.copy.sequence (content_of_tables k.tables) a b
as_chosen from k a b kept counted =
    subst (λ (i : Identity). IsChosen i from.copy.sequence (content_of_tables k.tables) a b) (ap (λ (s : Paged). s.identity) (sym kept.store))
    (subst (λ (x : Content). IsChosen from.copy.store.identity from.copy.sequence x a b) (ap (λ (s : Paged). bare s.content) (sym kept.store) ∙ kept.records) counted.chosen)

-- a copy of a lesser sequence is another one
below_not : (i : Identity) (n : ℕ) (t : TableRows) (a : List ℕ) → Below n a → IsCopyOf i n (content_of_tables t) a → ⊥
below_not i n t a below copy = absurd (omega (arith, below i n (content_of_tables t) copy))

-- the home of the copy that counts has it, and the other half stays behind
source_at : (home : Half) (i : Identity) (n : ℕ) (t : TableRows) (a b : List ℕ) → AreTables t → IsCopyOf i n (content_of_tables t) (file_of home a b) → IsChosen i n (content_of_tables t) a b → (home ≡ Second → Below n a) → (home ≡ Second → StandsForNoTables a) → IsSource home i n t a b
source_at First i n t a b tables copy chosen below none = record { tables = tables; copy = copy; behind = by chosen; none = copy_has_no_tables i n t a copy }
  where
    by : IsChosen i n (content_of_tables t) a b → AtMost n b
    by (inl is) = is.1
    by (inr is) = copy_at_most i n n (content_of_tables t) b is.0 (omega arith)
source_at Second i n t a b tables copy chosen below none = record { tables = tables; copy = copy; behind = inl (below refl); none = none refl }

module _ (from : Counted) (k : Kept) (a b : List ℕ) (loaded : IsLoaded from.copy) (kept : IsKeptIn k from) (counted : AreCounted from a b) (none : from.home ≡ Second → StandsForNoTables a) where
  there : HasFile k.file.store (file_of k.home a b)
  there = subst (λ (h : Half). HasFile k.file.store (file_of h a b)) (sym kept.home) (subst (λ (s : Paged). HasFile s (file_of from.home a b)) (sym kept.store) counted.has)

  source : (n : ℕ) → k.sequence ≡ Some n → IsSource k.home k.file.store.identity n k.tables a b
  source n is =
      let numbered : from.copy.sequence ≡ n = some_is from.copy.sequence n (sym kept.sequence ∙ is) in
      source_at k.home k.file.store.identity n k.tables a b kept.tables
      (as_tables from k n (file_of k.home a b) kept is (subst (λ (h : Half). IsCopyOf from.copy.store.identity from.copy.sequence (bare from.copy.store.content) (file_of h a b)) (sym kept.home) (loaded_copy from.copy (file_of from.home a b) loaded counted.has)))
      (subst (λ (m : ℕ). IsChosen k.file.store.identity m (content_of_tables k.tables) a b) numbered (as_chosen from k a b kept counted))
      (λ second. subst (λ (m : ℕ). Below m a) numbered (counted.behind (sym kept.home ∙ second)))
      (λ second. none (sym kept.home ∙ second))

  pub counted_is_in : IsIn k a b
  counted_is_in = record {
    files = subst (λ (s : Option ℕ). AreFilesBy k.file.store.identity k.tables s a b) (sym kept.sequence) (source_files k.home k.file.store.identity from.copy.sequence k.tables a b (source from.copy.sequence kept.sequence));
    has = there;
    source = source;
    first_not = λ second n is copy. let numbered : from.copy.sequence ≡ n = some_is from.copy.sequence n (sym kept.sequence ∙ is) in below_not k.file.store.identity n k.tables a (subst (λ (m : ℕ). Below m a) numbered (counted.behind (sym kept.home ∙ second))) copy;
    alike = λ yes n is half. as_tables from k n (file_of half a b) kept is (counted.alike (subst IsTrue kept.alike yes) half);
    unlike = λ no n is copy. counted.unlike (sym kept.alike ∙ no) (subst (λ (h : Half). IsCopyOf from.copy.store.identity from.copy.sequence (bare from.copy.store.content) (file_of (other h) a b)) kept.home (as_counted from k n (file_of (other k.home) a b) kept is copy));
  }

-- ---- files of no application

pub counted_none : (from : Counted) (a b : List ℕ) → IsLoaded from.copy → KeepsNoTables from → AreCounted from a b → (from.home ≡ Second → StandsForNoTables a) → AreNone a b
counted_none from a b loaded none counted second f are = by f.sequence are
  where
    no_tables : (h : Half) → from.home ≡ h → StandsForNoTables a
    no_tables First is = λ i t h. tables_are_no_copy i t a h from.copy.store.identity from.copy.sequence (bare from.copy.store.content) (loaded_copy from.copy a loaded (subst (λ (x : Half). HasFile from.copy.store (file_of x a b)) is counted.has))
    no_tables Second is = second is

    by : (s : Option ℕ) → AreFilesBy f.identity f.tables s a b → ⊥
    by None h = no_tables from.home refl f.identity f.tables h.0
    by (Some n) h = none f.tables h.0.tables (one_is_chosen from.copy.store.identity f.identity from.copy.sequence n (bare from.copy.store.content) (content_of_tables f.tables) a b counted.chosen h.0.chosen).2

pub nothing_none : (a b : List ℕ) → StandsForNoTables a → IsNoCopy a → IsNoCopy b → AreNone a b
nothing_none a b none no_copy neither f are = by f.sequence are
  where
    by : (s : Option ℕ) → AreFilesBy f.identity f.tables s a b → ⊥
    by None h = none f.identity f.tables h.0
    by (Some n) h = chosen h.0.chosen
      where
        chosen : IsChosen f.identity n (content_of_tables f.tables) a b → ⊥
        chosen (inl is) = no_copy f.identity n (content_of_tables f.tables) is.0
        chosen (inr is) = neither f.identity n (content_of_tables f.tables) is.0

-- the second file is a copy where it has the one that counts
pub second_is_copy : (from : Counted) (a b : List ℕ) → IsLoaded from.copy → AreCounted from a b → from.home ≡ Second → IsNoCopy b → ⊥
second_is_copy from a b loaded counted second none =
    none from.copy.store.identity from.copy.sequence (bare from.copy.store.content) (loaded_copy from.copy b loaded (subst (λ (h : Half). HasFile from.copy.store (file_of h a b)) second counted.has))
