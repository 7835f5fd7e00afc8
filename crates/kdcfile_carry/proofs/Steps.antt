-- Calls one after another: what they leave, and which of them failed.
use Rattle.std.specs.Prelude.{◌≡◌, ℕ, IsTrue, List, Option, Some, None, Result, Ok, Err, IfOk}
use Rattle.std.proofs.Common.{inl, inr, sym, ap, subst, ◌∙◌, arith}
use Rattle.kd_device.specs.Twin.{Both, Disk, other}
use Rattle.kd_device.specs.declared.half.Half.{Half}
use Rattle.kd_device.specs.declared.half.Half.TheVariants.{First, Second}
use Rattle.application_types.specs.Generation.{Generated}
use Rattle.record_codec.specs.Records.{content_of_tables}
use Rattle.kdcfile_copies.specs.Beside.{SameDisk}
use Rattle.kdcfile_copies.specs.Copies.{IsCopyOf}
use Rattle.kdcfile_copies.specs.Mending.{Goes}
use Rattle.kdcfile_double.specs.MakingLaws.{RestsBoth, rests_then, rose_then}
use Rattle.kdcfile_double.specs.Twice.{FrameBoth, NoneRose, RoseAt, SameFaultsAt}
use Rattle.kdcfile_carry.specs.declared.losing.Losses.{Losses}
use Rattle.kdcfile_carry.specs.declared.outcome.Alike.{Alike}
use Rattle.kdcfile_carry.specs.declared.outcome.Alike.TheVariants.{Already, Mended, Lost}
use Rattle.kdcfile_carry.specs.declared.outcome.Carried.{Carried}
use Rattle.kdcfile_carry.specs.declared.outcome.Carried.TheVariants.{UpToDate, Stand, WouldLose}
use Rattle.kdcfile_carry.specs.Doing.{FailsAlone, RoseOnOne}
use Rattle.kdcfile_carry.specs.Files.{Files}
use Rattle.kdcfile_carry.specs.Promise.{Fails, IsBehind, Outcome, WereAlike, lost_of}

-- ---- both files are as they were

module _ (a b : Both) (la lb : ℕ → List ℕ → List ℕ → List ℕ → Type 0) (rests : RestsBoth a b la lb) (P : List ℕ → List ℕ → Type 0) where
  pub as_after : P a.first.holds a.second.holds → P b.first.holds b.second.holds
  as_after h = subst (λ (x : List ℕ). P x b.second.holds) (sym rests.files.first_holds) (subst (λ (x : List ℕ). P a.first.holds x) (sym rests.files.second_holds) h)

-- ---- calls on the second half alone

pub second_frame : (a b : Both) → Goes Second a b → (IsTrue a.told → b.sent ≡ a.sent) → FrameBoth a b
second_frame a b goes sent = record {
  told = goes.told;
  first_faults = goes.source_faults;
  second_faults = goes.faults;
  line_faults = let same = goes.line in omega (arith, same);
  moment = goes.moment;
  first_names = λ told. goes.source_names;
  second_names = λ told. goes.names;
  sent = sent;
}

pub second_fine : (a b : Both) → Goes Second a b → SameDisk First a b → b.second.disk_faults ≡ a.second.disk_faults → NoneRose a b
second_fine a b goes same fine = record { first_same = ap (λ (x : Disk). x.disk_faults) same; second_same = fine; line_same = goes.line }

-- ---- calls that failed

pub faults_then : (half : Half) (a b e : Both) → NoneRose a b → SameFaultsAt half b e → SameFaultsAt half a e
faults_then First a b e none same = same ∙ none.first_same
faults_then Second a b e none same = same ∙ none.second_same

pub rose_on : (half : Half) (a b : Both) → RoseAt half a b → RoseOnOne a b
rose_on First a b rose = inl rose
rose_on Second a b rose = inr rose

pub alone_then : (lost : Option Half) (a b e : Both) → NoneRose a b → FailsAlone lost b e → FailsAlone lost a e
alone_then lost a b e none alone = record {
  spared = λ half no. faults_then half a b e none (alone.spared half no);
  failed = λ half is. rose_then half a b e none (alone.failed half is);
  line = alone.line ∙ none.line_same;
}

-- no call failed
pub none_alone : (a b : Both) → NoneRose a b → FailsAlone None a b
none_alone a b none = record { spared = λ half no. by half; failed = λ half is. absurd cc; line = none.line_same }
  where
    by : (half : Half) → SameFaultsAt half a b
    by First = none.first_same
    by Second = none.second_same

pub fails_then : (o : Carried) (a b e : Both) → NoneRose a b → Fails o b e → Fails o a e
fails_then (UpToDate alike) a b e none h = alone_then (lost_of alike) a b e none h
fails_then (Stand gone lost) a b e none h = alone_then lost a b e none h
fails_then (WouldLose rows) a b e none h = alone_then None a b e none h

behind_then : (f : Files) (half : Half) (a b : Both) (la lb : ℕ → List ℕ → List ℕ → List ℕ → Type 0) → RestsBoth a b la lb → IsBehind f half b → IsBehind f half a
behind_then f First a b la lb rests behind n is copy = behind n is (subst (λ (l : List ℕ). IsCopyOf f.identity n (content_of_tables f.tables) l) (sym rests.files.first_holds) copy)
behind_then f Second a b la lb rests behind n is copy = behind n is (subst (λ (l : List ℕ). IsCopyOf f.identity n (content_of_tables f.tables) l) (sym rests.files.second_holds) copy)

alike_then : (f : Files) (alike : Alike) (a b e : Both) (la lb le : ℕ → List ℕ → List ℕ → List ℕ → Type 0) → RestsBoth a b la lb → WereAlike f alike b e lb le → WereAlike f alike a e la le
alike_then f Already a b e la lb le rests h = rests_then a b la lb rests e le h
alike_then f (Mended half) a b e la lb le rests h = behind_then f half a b la lb rests h
alike_then f (Lost half) a b e la lb le rests h = behind_then f half a b la lb rests h

pub outcome_then : (g : Generated) (fingerprint : List ℕ) (losses : Losses) (f : Files) (o : Carried) (a b e : Both) (la lb le : ℕ → List ℕ → List ℕ → List ℕ → Type 0) → RestsBoth a b la lb → Outcome g fingerprint losses f o b e lb le → Outcome g fingerprint losses f o a e la le
outcome_then g fingerprint losses f (UpToDate alike) a b e la lb le rests h = (h.0, h.1, alike_then f alike a b e la lb le rests h.2)
outcome_then g fingerprint losses f (Stand gone lost) a b e la lb le rests h = h
outcome_then g fingerprint losses f (WouldLose rows) a b e la lb le rests h = (h.0, h.1, h.2, h.3, rests_then a b la lb rests e le h.4)

pub alone_of : (source : Half) (lost : Option Half) (a b : Both) → ((half : Half) → lost ≡ Some half → (half ≡ other source) × RoseAt half a b) → ((half : Half) → (lost ≡ Some half → ⊥) → SameFaultsAt half a b) → b.line_faults ≡ a.line_faults → FailsAlone lost a b
alone_of source lost a b rose same line = record { spared = same; failed = λ half is. (rose half is).1; line = line }

-- ---- answers

pub if_ok_weaker : {A E : Type 0} (P Q : A → Type 0) (r : Result A E) → ((v : A) → P v → Q v) → IfOk r P → IfOk r Q
if_ok_weaker P Q (Ok v) f h = f v h
if_ok_weaker P Q (Err e) f h = h

pub if_ok_both : {A E : Type 0} (P Q R : A → Type 0) (r : Result A E) → ((v : A) → P v → Q v → R v) → IfOk r P → IfOk r Q → IfOk r R
if_ok_both P Q R (Ok v) f h k = f v h k
if_ok_both P Q R (Err e) f h k = h
