-- A half that is written anew from the other one, or shut beside it.
use Rattle.std.specs.Prelude.{◌≡◌, ◌≤◌, ℕ, List, Option, Some}
use Rattle.std.proofs.Common.{inl, inr, refl, sym, ap, subst}
use Rattle.kd_device.specs.declared.half.Half.{Half}
use Rattle.kd_device.specs.declared.half.Half.TheVariants.{First, Second}
use Rattle.kd_device.specs.Twin.{Both, disk_of, other}
use Rattle.kd_records.specs.Identity.{Identity}
use Rattle.kdcs_types.specs.Tables.{TableRows}
use Rattle.record_codec.specs.Records.{content_of_tables}
use Rattle.kdcfile_copies.specs.Copies.{IsCopyOf}
use Rattle.kdcfile_copies.specs.Mending.{BeginsWith, IsMending, LeavesHalf}
use Rattle.kdcfile_double.specs.MendLaws.{copied}
use Rattle.kdcfile_double.specs.Mended.{BothRest}
use Rattle.kdcfile_carry.specs.Keeping.{IsSource}
use Rattle.kdcfile_carry.specs.KeepingLaws.{mending_source}
use Rattle.kdcfile_carry.specs.Leaving.{EachStands, StaysWithin}
use Rattle.kdcfile_carry.specs.LeavingLaws.{HalfHas, copying_stays, stays_weaker}

pub each_half : (source : Half) (P : Half → Type 0) → P source → P (other source) → (half : Half) → P half
each_half First P own that First = own
each_half First P own that Second = that
each_half Second P own that First = that
each_half Second P own that Second = own

module _ (a b : Both) (la lb : ℕ → List ℕ → List ℕ → List ℕ → Type 0) where
  pub anew_stays : (source : Half) → BothRest a la → ((c d out : List ℕ) → la a.moment c d out → out ≡ a.sent) → b.sent ≡ a.sent → ((t u : ℕ) (c d out : List ℕ) → t ≤ u → lb u c d out → lb t c d out)
      → LeavesHalf (other source) (disk_of source a).holds (IsMending (disk_of source a).holds (disk_of (other source) a).holds) a b la lb
      → (i : Identity) (n : ℕ) (t : TableRows) → IsSource source i n t a.first.holds a.second.holds → StaysWithin (IsSource source i n t) a b la lb
  anew_stays First rest sent_now same earlier left i n t is =
      stays_weaker a b la lb (HalfHas Second a (IsMending a.first.holds a.second.holds)) (IsSource First i n t) (λ c d has. mending_source i n t First a c d is has)
      (copying_stays Second a b la lb rest sent_now (IsMending a.first.holds a.second.holds) (inl refl) same earlier left)
  anew_stays Second rest sent_now same earlier left i n t is =
      stays_weaker a b la lb (HalfHas First a (IsMending a.second.holds a.first.holds)) (IsSource Second i n t) (λ c d has. mending_source i n t Second a c d is has)
      (copying_stays First a b la lb rest sent_now (IsMending a.second.holds a.first.holds) (inl refl) same earlier left)

pub both_stand : (source : Half) (a b : Both) → (disk_of source b).holds ≡ (disk_of source a).holds → BeginsWith (disk_of source a).holds (disk_of (other source) b).holds → (i : Identity) (n : ℕ) (t : TableRows) → IsSource source i n t a.first.holds a.second.holds → (lost : Option Half) → EachStands i t (Some n) lost b
both_stand First a b same begins i n t is lost First = inr (subst (λ (l : List ℕ). IsCopyOf i n (content_of_tables t) l) (sym same) is.copy)
both_stand First a b same begins i n t is lost Second = inr (copied i n (content_of_tables t) a.first.holds b.second.holds is.copy begins)
both_stand Second a b same begins i n t is lost First = inr (copied i n (content_of_tables t) a.second.holds b.first.holds is.copy begins)
both_stand Second a b same begins i n t is lost Second = inr (subst (λ (l : List ℕ). IsCopyOf i n (content_of_tables t) l) (sym same) is.copy)

pub one_stands : (source : Half) (a b : Both) → (disk_of source b).holds ≡ (disk_of source a).holds → (i : Identity) (n : ℕ) (t : TableRows) → IsSource source i n t a.first.holds a.second.holds → (lost : Half) → lost ≡ other source → EachStands i t (Some n) (Some lost) b
one_stands First a b same i n t is lost lost_is First = inr (subst (λ (l : List ℕ). IsCopyOf i n (content_of_tables t) l) (sym same) is.copy)
one_stands First a b same i n t is lost lost_is Second = inl (ap Some lost_is)
one_stands Second a b same i n t is lost lost_is First = inl (ap Some lost_is)
one_stands Second a b same i n t is lost lost_is Second = inr (subst (λ (l : List ℕ). IsCopyOf i n (content_of_tables t) l) (sym same) is.copy)
