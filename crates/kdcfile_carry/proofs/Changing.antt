-- The first file is changed by one commit, between what is ready before and what stands afterwards.
use Rattle.std.specs.Prelude.{◌≡◌, ◌⊎◌, ◌≤◌, ◌<◌, ◌^◌, ℕ, ◌+◌, Bool, true, false, IsTrue, List, Option, Some, None, IfSome, is_some, get_or}
use Rattle.std.proofs.Common.{inl, inr, ⊎_elim, refl, sym, ap, subst, ◌∙◌, arith}
use Rattle.kd_device.specs.Twin.{Both, Disk, disk_of, half_leaves, half_state, other}
use Rattle.kd_device.specs.declared.half.Half.{Half}
use Rattle.kd_device.specs.declared.half.Half.TheVariants.{First, Second}
use Rattle.kd_records.specs.Identity.{Identity}
use Rattle.kd_records.specs.declared.content.Content.{Content}
use Rattle.kdcs_types.specs.Tables.{TableRows}
use Rattle.application_types.specs.Generation.{Generated}
use Rattle.record_codec.specs.Records.{content_of_tables}
use Rattle.device_acts.specs.Stands.{AreTables}
use Rattle.kdcfile_layout.specs.Commit.{Either}
use Rattle.kdcfile_layout.specs.Layout.{StandsFor}
use Rattle.kdcfile_store.specs.Carried.{carry_most}
use Rattle.kdcfile_store.specs.Kept.{IsKept}
use Rattle.kdcfile_store.specs.Paged.{HasFile, Paged}
use Rattle.kdcfile_copies.specs.Beside.{LeavesBeside, OtherStays, SameDisk, file_of}
use Rattle.kdcfile_copies.specs.Copies.{IsCopyOf, IsNoCopy}
use Rattle.kdcfile_copies.specs.Mending.{BeginsWith}
use Rattle.kdcfile_copies.specs.MendingLaws.{copies_mean_the_same}
use Rattle.kdcfile_double.specs.ChosenLaws.{copy_at_most}
use Rattle.kdcfile_double.specs.Mended.{BothRest}
use Rattle.kdcfile_double.specs.MendLaws.{copy_open}
use Rattle.kdcfile_double.specs.Opening.{last_sequence}
use Rattle.carry_steps.specs.Deciding.{next_sequence}
use Rattle.kdcfile_carry.specs.declared.finding.Kept.{Kept}
use Rattle.kd_update.specs.Carrying.{carried}
use Rattle.kdcfile_carry.specs.Doing.{AreEither, IsOnFirst, IsReady}
use Rattle.kdcfile_carry.specs.Files.{AreFiles, AreFilesBy, Files}
use Rattle.kdcfile_carry.specs.FilesLaws.{copy_has_no_tables}
use Rattle.kdcfile_carry.specs.Keeping.{BesideBy, IsIn, IsKnown, IsSource, content_by, files_in}
use Rattle.kdcfile_carry.specs.KeepingLaws.{beside_next, first_files, first_is_source, source_files}
use Rattle.kdcfile_carry.specs.Leaving.{EachStands, LeavesFiles, StaysWithin}
use Rattle.kdcfile_carry.specs.LeavingLaws.{HalfHas, half_stays, stays_weaker}
use Rattle.kdcfile_carry.specs.Promise.{IsBehind}
use Rattle.kdcfile_carry.specs.Writing.{IsOther, commit_most}
use Rattle.kdcfile_carry.specs.Ways.{carried_files, made_with}

-- where nothing is done, what is there stays
pub stays_here : (P : List ℕ → List ℕ → Type 0) (b : Both) (lb : ℕ → List ℕ → List ℕ → List ℕ → Type 0) → BothRest b lb → P b.first.holds b.second.holds → StaysWithin P b b lb lb
stays_here P b lb rest has = record {
  sent = refl;
  now = λ c d left. subst (λ (x : List ℕ). P x d) (sym (rest.first_rests c d left)) (subst (λ (x : List ℕ). P b.first.holds x) (sym (rest.second_rests c d left)) has);
  leaves = record { later = omega arith; only = λ t c d out at left. inl left };
}

-- ---- the copy that counts, on the first half

module _ (k : Kept) (known : IsKnown k) where
  -- a copy is what the second half has
  pub numbered : k.home ≡ Second → (n : ℕ) × (k.sequence ≡ Some n)
  numbered second = by k.sequence refl
    where
      by : (s : Option ℕ) → k.sequence ≡ s → (n : ℕ) × (k.sequence ≡ Some n)
      by None is = let no : First ≡ Second = sym (known.first is) ∙ second in absurd cc
      by (Some n) is = (n, is)

module _ (k : Kept) (a b : Both) (is_in : IsIn k a.first.holds a.second.holds) where
  pub source_second : k.home ≡ Second → (n : ℕ) → k.sequence ≡ Some n → IsSource Second k.file.store.identity n k.tables a.first.holds a.second.holds
  source_second second n is = subst (λ (h : Half). IsSource h k.file.store.identity n k.tables a.first.holds a.second.holds) second (is_in.source n is)

  source_first : k.home ≡ First → (n : ℕ) → k.sequence ≡ Some n → IsSource First k.file.store.identity n k.tables a.first.holds a.second.holds
  source_first first n is = subst (λ (h : Half). IsSource h k.file.store.identity n k.tables a.first.holds a.second.holds) first (is_in.source n is)

  has_first : k.home ≡ First → HasFile k.file.store a.first.holds
  has_first first = subst (λ (h : Half). HasFile k.file.store (file_of h a.first.holds a.second.holds)) first is_in.has

  pub open_second : k.home ≡ Second → (n : ℕ) → k.sequence ≡ Some n → get_or a.second.holds 0 0 ≡ 75
  open_second second n is = copy_open k.file.store.identity n (content_of_tables k.tables) a.second.holds (source_second second n is).copy

  -- after the first half was written anew from the second
  module _ (second : k.home ≡ Second) (begins : BeginsWith a.second.holds b.first.holds) (same : b.second.holds ≡ a.second.holds) where
    has_anew : HasFile k.file.store b.first.holds
    has_anew =
        copies_mean_the_same k.file.store.identity k.file.store.second k.file.store.content k.file.store.layout a.second.holds b.first.holds
        (subst (λ (h : Half). HasFile k.file.store (file_of h a.first.holds a.second.holds)) second is_in.has) begins

    source_anew : (n : ℕ) → k.sequence ≡ Some n → EachStands k.file.store.identity k.tables (Some n) None b → IsSource First k.file.store.identity n k.tables b.first.holds b.second.holds
    source_anew n is each =
        let was = source_second second n is in
        let copy : IsCopyOf k.file.store.identity n (content_of_tables k.tables) b.first.holds = ⊎_elim (λ lost. absurd cc) (λ is_copy. is_copy) (each First) in
        record {
          tables = was.tables;
          copy = copy;
          behind = copy_at_most k.file.store.identity n n (content_of_tables k.tables) b.second.holds (subst (λ (l : List ℕ). IsCopyOf k.file.store.identity n (content_of_tables k.tables) l) (sym same) was.copy) (omega arith);
          none = copy_has_no_tables k.file.store.identity n k.tables b.first.holds copy;
        }

-- the first half has what was found
pub first_is_on : (k : Kept) (a : Both) → IsIn k a.first.holds a.second.holds → k.home ≡ First → IsOnFirst k a.first.holds a.second.holds
first_is_on k a is_in first = record { files = is_in.files; has = has_first k a a is_in first; source = source_first k a a is_in first }

-- two copies, where the other half is not the same
pub not_alone : (k : Kept) → IsKnown k → k.alike ≡ false → (n : ℕ) × (k.sequence ≡ Some n)
not_alone k known differs = by k.sequence refl
  where
    by : (s : Option ℕ) → k.sequence ≡ s → (n : ℕ) × (k.sequence ≡ Some n)
    by None is = let other : true ≡ false = sym (known.alone is) ∙ differs in absurd cc
    by (Some n) is = (n, is)

-- the other half is not the copy that counts
pub is_behind : (k : Kept) (a : Both) → IsIn k a.first.holds a.second.holds → k.alike ≡ false → (half : Half) → half ≡ other k.home → IsBehind (files_in k) half a
is_behind k a is_in differs half is = λ n numbered copy. is_in.unlike differs n numbered (subst (λ (h : Half). IsCopyOf k.file.store.identity n (content_of_tables k.tables) (file_of h a.first.holds a.second.holds)) is (by n half copy))
  where
    by : (n : ℕ) (h : Half) → IsCopyOf k.file.store.identity n (content_of_tables k.tables) (disk_of h a).holds → IsCopyOf k.file.store.identity n (content_of_tables k.tables) (file_of h a.first.holds a.second.holds)
    by n First copy = copy
    by n Second copy = copy

-- two copies, of which this half is the other one
module _ (k : Kept) (known : IsKnown k) (a : Both) (is_in : IsIn k a.first.holds a.second.holds) where
  two_copies : (n : ℕ) → k.sequence ≡ Some n → is_some k.sequence ≡ true
  two_copies n is = ap (λ (s : Option ℕ). is_some s) is

  pub first_other : k.home ≡ Second → IsOther (files_in k) First a
  first_other second = let n = numbered k known second in record { two = two_copies n.0 n.1; behind = λ m is copy. is_in.first_not second m is copy }

  pub half_other : k.alike ≡ false → IsOther (files_in k) (other k.home) a
  half_other differs = let n = not_alone k known differs in record { two = two_copies n.0 n.1; behind = is_behind k a is_in differs (other k.home) refl }

-- where the other half is the same, each one stands
pub alike_stands : (k : Kept) (a : Both) → IsIn k a.first.holds a.second.holds → IsTrue k.alike → EachStands k.file.store.identity k.tables k.sequence None a
alike_stands k a is_in same = by k.sequence refl is_in.files
  where
    by : (s : Option ℕ) → k.sequence ≡ s → AreFilesBy k.file.store.identity k.tables s a.first.holds a.second.holds → EachStands k.file.store.identity k.tables s None a
    by None is h = (h.0, h.1, refl)
    by (Some n) is h = halves
      where
        halves : EachStands k.file.store.identity k.tables (Some n) None a
        halves First = inr (is_in.alike same n is First)
        halves Second = inr (is_in.alike same n is Second)

-- files, by the source of a copy
pub source_in : (k : Kept) (half : Half) (n : ℕ) (c d : List ℕ) → k.sequence ≡ Some n → IsSource half k.file.store.identity n k.tables c d → AreFiles (files_in k) c d
source_in k half n c d is source = subst (λ (s : Option ℕ). AreFilesBy k.file.store.identity k.tables s c d) (sym is) (source_files half k.file.store.identity n k.tables c d source)

-- the first half was written anew from the second
pub anew_on_first : (k : Kept) → IsKnown k → (a b : Both) → IsIn k a.first.holds a.second.holds → k.home ≡ Second → BeginsWith a.second.holds b.first.holds → b.second.holds ≡ a.second.holds → ((n : ℕ) → k.sequence ≡ Some n → EachStands k.file.store.identity k.tables (Some n) None b)
    → IsOnFirst k b.first.holds b.second.holds
anew_on_first k known a b is_in second begins same each =
    let source : (n : ℕ) → k.sequence ≡ Some n → IsSource First k.file.store.identity n k.tables b.first.holds b.second.holds = λ n is. source_anew k a b is_in second begins same n is (each n is) in
    let n = numbered k known second in
    record {
      files = source_in k First n.0 b.first.holds b.second.holds n.1 (source n.0 n.1);
      has = has_anew k a b is_in second begins same;
      source = source;
    }

-- ---- the second file is ready

module _ (k : Kept) (c d : List ℕ) (files : AreFiles (files_in k) c d) (source : (n : ℕ) → k.sequence ≡ Some n → IsSource First k.file.store.identity n k.tables c d) where
  pub beside_now : BesideBy k.sequence d
  beside_now = by k.sequence refl files
    where
      by : (s : Option ℕ) → k.sequence ≡ s → AreFilesBy k.file.store.identity k.tables s c d → BesideBy s d
      by None is h = h.1
      by (Some n) is h = (source n is).behind

  pub ready : HasFile k.file.store c → (double : Bool) → (double ≡ false → (s : ℕ) → k.sequence ≡ Some s → IsNoCopy d) → IsReady k double c d
  ready has double none = record {
    files = files;
    has = has;
    beside = beside_now;
    beside_next = beside_next double k.sequence d beside_now (λ single. by single k.sequence refl files);
  }
    where
      by : double ≡ false → (s : Option ℕ) → k.sequence ≡ s → AreFilesBy k.file.store.identity k.tables s c d → IsNoCopy d
      by single None is h = h.1
      by single (Some n) is h = none single n is

-- ---- the commit

next_small : (double : Bool) (s : Option ℕ) → IfSome (next_sequence double s) (λ n. n ≤ last_sequence) → IfSome (next_sequence double s) (λ n. n < 2 ^ 64)
next_small false s le = tt
next_small true None le = omega arith
next_small true (Some n) le = omega (arith, le)

module _ (g : Generated) (fingerprint : List ℕ) (k : Kept) (known : IsKnown k) (tables : AreTables (carried g k.tables)) (small : IfSome (next_sequence (is_some g.double) k.sequence) (λ n. n ≤ last_sequence))
    (j : Identity) (y : Content) (made : j ≡ made_with g fingerprint) (content : y ≡ content_by (next_sequence (is_some g.double) k.sequence) (content_of_tables (carried g k.tables))) where
  abbrev pub new : Files
  new = carried_files g fingerprint (files_in k)

  new_stands : (c : List ℕ) → StandsFor j y c → StandsFor new.identity (content_by new.sequence (content_of_tables new.tables)) c
  new_stands c is = subst (λ (z : Content). StandsFor (made_with g fingerprint) z c) content (subst (λ (i : Identity). StandsFor i y c) made is)

  pub new_files : (c d : List ℕ) → StandsFor j y c → BesideBy new.sequence d → AreFiles new c d
  new_files c d is beside = first_files new.identity new.tables new.sequence c d tables (next_small (is_some g.double) k.sequence small) (new_stands c is) beside

  pub new_source : (n : ℕ) (c d : List ℕ) → new.sequence ≡ Some n → StandsFor j y c → BesideBy new.sequence d → IsSource First new.identity n new.tables c d
  new_source n c d numbered is beside =
      first_is_source new.identity new.tables n c d tables
      (subst (λ (s : Option ℕ). IfSome s (λ m. m < 2 ^ 64)) numbered (next_small (is_some g.double) k.sequence small))
      (subst (λ (s : Option ℕ). StandsFor new.identity (content_by s (content_of_tables new.tables)) c) numbered (new_stands c is))
      (subst (λ (s : Option ℕ). BesideBy s d) numbered beside)

  old_files : (c d : List ℕ) → StandsFor k.file.store.identity k.file.store.content c → BesideBy k.sequence d → AreFiles (files_in k) c d
  old_files c d is beside = first_files k.file.store.identity k.tables k.sequence c d known.tables known.small (subst (λ (x : Content). StandsFor k.file.store.identity x c) known.records is) beside

  module _ (a b : Both) (la lb : ℕ → List ℕ → List ℕ → List ℕ → Type 0) (ready_now : IsReady k (is_some g.double) a.first.holds a.second.holds) (rest : BothRest a la) where
    abbrev Has : List ℕ → Type 0
    Has c = StandsFor k.file.store.identity k.file.store.content c ⊎ StandsFor j y c

    either : (c d : List ℕ) → HalfHas First a Has c d → AreEither (files_in k) new c d
    either c d h =
        let same : d ≡ a.second.holds = h.0 in
        ⊎_elim (λ old. inl (old_files c d old (subst (BesideBy k.sequence) (sym same) ready_now.beside))) (λ is. inr (new_files c d is (subst (BesideBy new.sequence) (sym same) ready_now.beside_next))) h.1

    pub change_stays : ((c d out : List ℕ) → la a.moment c d out → out ≡ a.sent) → b.sent ≡ a.sent → ((t u : ℕ) (c d out : List ℕ) → t ≤ u → lb u c d out → lb t c d out)
        → LeavesBeside First a b la lb (Either k.file.store.identity k.file.store.content j y a.sent) → StaysWithin (AreEither (files_in k) new) a b la lb
    change_stays sent_now same earlier beside =
        stays_weaker a b la lb (HalfHas First a Has) (AreEither (files_in k) new) either
        (half_stays First a b la lb rest sent_now Has (inl (k.file.store.second, k.file.store.layout, ready_now.has)) same earlier beside)

    -- afterwards
    module _ (store : Paged) (made_is : store.identity ≡ j) (content_is : store.content ≡ y) (kept : IsKept (HasFile store) (half_state First b) (half_leaves First lb)) (second : SameDisk Second a b) (stays : OtherStays First a b la lb) where
      stands : StandsFor j y b.first.holds
      stands = subst (λ (i : Identity). StandsFor i y b.first.holds) made_is (subst (λ (x : Content). StandsFor store.identity x b.first.holds) content_is (store.second, store.layout, kept.bytes))

      beside_after : BesideBy new.sequence b.second.holds
      beside_after = subst (λ (x : Disk). BesideBy new.sequence x.holds) (sym second) ready_now.beside_next

      pub changed_files : AreFiles new b.first.holds b.second.holds
      changed_files = new_files b.first.holds b.second.holds stands beside_after

      pub changed_source : (n : ℕ) → new.sequence ≡ Some n → IsSource First new.identity n new.tables b.first.holds b.second.holds
      changed_source n is = new_source n b.first.holds b.second.holds is stands beside_after

      pub changed_rest : BothRest b lb
      changed_rest = record {
        first_rests = λ c d left. kept.at_rest c (d, left);
        second_rests = λ c d left. let was = stays d (c, left) in rest.second_rests was.0 d was.1 ∙ sym (ap (λ (x : Disk). x.holds) second);
      }

-- how much the commit writes
pub commit_is : (g : Generated) (fingerprint : List ℕ) (f : Files) (j : Identity) (y : Content) → j ≡ made_with g fingerprint → y ≡ content_by (next_sequence (is_some g.double) f.sequence) (content_of_tables (carried g f.tables)) → carry_most j y ≡ commit_most g fingerprint f
commit_is g fingerprint f j y made content = ap (λ (i : Identity). carry_most i y) made ∙ ap (λ (x : Content). carry_most (made_with g fingerprint) x) content

-- ---- what there is of two copies

pub next_some : (double : Bool) (s : Option ℕ) → double ≡ true → (n : ℕ) × (next_sequence double s ≡ Some n)
next_some true None two = (0, refl)
next_some true (Some n) two = (n + 1, refl)
next_some false s two = absurd cc

-- what is asked for
pub two_asked : (asked double : Option ℕ) (line : ℕ) → asked ≡ double → asked ≡ Some line → is_some double ≡ true
two_asked asked (Some n) line same is = refl
two_asked asked None line same is = let no : None ≡ Some line = sym same ∙ is in absurd cc

pub one_asked : (asked double : Option ℕ) → asked ≡ double → asked ≡ None → is_some double ≡ false
one_asked asked None same is = refl
one_asked asked (Some n) same is = let no : Some n ≡ None = sym same ∙ is in absurd cc

pub next_none : (double : Bool) (s : Option ℕ) → double ≡ false → next_sequence double s ≡ None
next_none false s one = refl
next_none true s one = absurd cc

-- there is one file, and nothing was lost
pub one_stands_alone : (i : Identity) (t : TableRows) (s : Option ℕ) (b : Both) → s ≡ None → AreFilesBy i t s b.first.holds b.second.holds → EachStands i t s None b
one_stands_alone i t None b is h = (h.0, h.1, refl)
one_stands_alone i t (Some n) b is h = absurd cc

-- both files at rest are what they are now
pub now_leaves : (f : Files) (b : Both) (lb : ℕ → List ℕ → List ℕ → List ℕ → Type 0) → BothRest b lb → AreFiles f b.first.holds b.second.holds → LeavesFiles f b lb
now_leaves f b lb rest are = λ c d left. subst (λ (x : List ℕ). AreFiles f x d) (sym (rest.first_rests c d left)) (subst (λ (x : List ℕ). AreFiles f b.first.holds x) (sym (rest.second_rests c d left)) are)

-- the second file was written anew from the first one, or is lost
module _ (f : Files) (j : Identity) (t : TableRows) (s : Option ℕ) (n : ℕ) (is : s ≡ Some n) where
  pub new_copy_files : (c d : List ℕ) → IsSource First j n t c d → AreFilesBy j t s c d
  new_copy_files c d source = subst (λ (r : Option ℕ). AreFilesBy j t r c d) (sym is) (source_files First j n t c d source)

  pub new_halves : (lost : Option Half) (b : Both) → EachStands j t (Some n) lost b → EachStands j t s lost b
  new_halves lost b each = subst (λ (r : Option ℕ). EachStands j t r lost b) (sym is) each
