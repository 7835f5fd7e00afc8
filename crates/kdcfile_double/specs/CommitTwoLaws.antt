-- Laws: a call on the first half and then one on the second, within a commit, and which half is lost of them.
use Rattle.std.specs.Prelude.{OnErr, ◌≡◌, ◌⊎◌, ◌≤◌, ◌<◌, ◌^◌, ℕ, ◌+◌, List, IsTrue, Option, Some, None, is_some}
use Rattle.std.proofs.Common.{Bool, true, false, not, Result, Ok, Err, inl, inr, ⊎_elim, arith, refl, sym, ap, subst, ◌∙◌}
use Rattle.kd_device.specs.Device.{Rose, Frame, SameNames}
use Rattle.kd_records.specs.Charge.{total_charge}
use Rattle.kd_records.specs.Contents.{patched}
use Rattle.kd_records.specs.Identity.{Identity}
use Rattle.kd_records.specs.declared.content.Content.{Content}
use Rattle.kd_records.specs.declared.content.Patch.{Patch}
use Rattle.kd_device.specs.HalfLaws.{earlier_half}
use Rattle.kd_device.specs.Twin.{Both, Disk, other, disk_of, half_state, half_leaves}
use Rattle.kd_device.specs.declared.half.Half.{Half}
use Rattle.kd_device.specs.declared.half.Half.TheVariants.{First, Second}
use Rattle.kdcfile_copies.specs.declared.answer.LoadedCopy.{LoadedCopy}
use Rattle.kdcfile_copies.specs.Copies.{bare, next_patch}
use Rattle.kdcfile_copies.specs.CopiesLaws.{kept_bare}
use Rattle.kdcfile_copies.specs.Keeping.{CopyKeeps}
use Rattle.kdcfile_copies.specs.Beside.{file_of, LeavesBeside, OtherStays, SameDisk}
use Rattle.kdcfile_copies.specs.BesideLaws.{pairs_then, pairs_weaker}
use Rattle.kdcfile_double.specs.Twice.{Twice, AreAlike, KeepsIf, IsCommitting, IsInUse, IsOpen, IsKeptTwice, IsTwice, FrameBoth, LeavesBoth, LeavesCommitted, LosesBy, LostIsUnused, RoseAt}
use Rattle.kdcfile_double.specs.Twice.{FineTwice, SameFaultsAt, SideWithin, SparesLine, SparesOne, content_of, copy_at, identity_of, sequence_of, with_copies}
use Rattle.kdcfile_double.specs.Committing.{CanTakeIf, AreLostSo, AreWithin, IsKeptAt, IsLineFine, IsLostSo, IsNextIf, IsWithin, WithinOne, lost_with}
use Rattle.kdcfile_double.specs.ChosenLaws.{IsSomeOf}
use Rattle.kdcfile_double.specs.CommitLaws.{alike_after, content_after, first_kept_at, identity_after, kept_after, sequence_after, second_kept_at, kept_within, still_within, step_within}
use Rattle.kdcfile_double.specs.CommitLaws.{within_is_committing, within_one}

-- ---- the laws of a twin at one moment

abbrev pub HoldsAt : Both → (ℕ → List ℕ → List ℕ → List ℕ → Type 0) → Type 0
HoldsAt b l = IsTrue b.told → l b.moment b.first.holds b.second.holds b.sent

abbrev pub SentAt : Both → (ℕ → List ℕ → List ℕ → List ℕ → Type 0) → Type 0
SentAt b l = (c d out : List ℕ) → IsTrue b.told → l b.moment c d out → out ≡ b.sent

abbrev pub EarlierAt : Both → (ℕ → List ℕ → List ℕ → List ℕ → Type 0) → Type 0
EarlierAt b l = (t u : ℕ) (c d out : List ℕ) → IsTrue b.told → t ≤ u → l u c d out → l t c d out

sent_of_half : (b : Both) (l : ℕ → List ℕ → List ℕ → List ℕ → Type 0) → SentAt b l → IsTrue b.told → (h : Half) (c out : List ℕ) → half_leaves h l b.moment c out → out ≡ b.sent
sent_of_half b l sent told First c out left = sent c left.0 out told left.1
sent_of_half b l sent told Second c out left = sent left.0 c out told left.1

-- ---- one call, within the commit of a patch on both

module _ (s : Twice) (patch : Patch) (alike : AreAlike s) where
  keeps_at : (half : Half) (sent c out : List ℕ) → WithinOne (copy_at half s) patch sent c out → (out ≡ sent) × SideWithin half (identity_of s) (sequence_of s) (content_of s) (patched (content_of s) patch) (copy_at half s) c
  keeps_at First sent c out w = within_one (identity_of s) (sequence_of s) (content_of s) patch First s.first alike.first_keeps sent c out w
  keeps_at Second sent c out w = within_one (identity_of s) (sequence_of s) (content_of s) patch Second s.second alike.second_keeps sent c out w

  module _ (half : Half) (a b : Both) (la lb : ℕ → List ℕ → List ℕ → List ℕ → Type 0) (told : IsTrue a.told) (before : AreWithin s (patched (content_of s) patch) a la)
      (beside : LeavesBeside half a b la lb (WithinOne (copy_at half s) patch a.sent)) where
    pub one_moment : SentAt a la → LeavesBoth a b la lb (IsWithin s (patched (content_of s) patch) a.sent)
    one_moment sent_now =
        step_within s (patched (content_of s) patch) half a b la lb (WithinOne (copy_at half s) patch a.sent) before (keeps_at half a.sent) beside (sent_of_half a la sent_now told)

    pub one_after : b.sent ≡ a.sent → b.told ≡ a.told → EarlierAt b lb → OtherStays half a b la lb → AreWithin s (patched (content_of s) patch) b lb
    one_after sent same_told earlier stays =
        still_within s (patched (content_of s) patch) half a b la lb (WithinOne (copy_at half s) patch a.sent) before (keeps_at half a.sent) beside sent
        (earlier_half half lb (λ t u c d out. earlier t u c d out (subst IsTrue (sym same_told) told))) stays

-- both calls
module _ (s : Twice) (y : Content) (a b e : Both) (la lb le : ℕ → List ℕ → List ℕ → List ℕ → Type 0) where
  pub two_moments : b.sent ≡ a.sent → LeavesBoth a b la lb (IsWithin s y a.sent) → LeavesBoth b e lb le (IsWithin s y b.sent) → LeavesBoth a e la le (IsWithin s y a.sent)
  two_moments sent first second = pairs_then a b la lb e le (IsWithin s y a.sent) first (subst (λ (o : List ℕ). LeavesBoth b e lb le (IsWithin s y o)) sent second)

-- what is known of one call
pub record Called (half : Half) (s : Twice) (patch : Patch) (a b : Both) (la lb : ℕ → List ℕ → List ℕ → List ℕ → Type 0) : Type 0 where
  pub same_told : b.told ≡ a.told
  pub sent : IsTrue a.told → b.sent ≡ a.sent
  pub beside : IsTrue a.told → LeavesBeside half a b la lb (WithinOne (copy_at half s) patch a.sent)
  pub stays : IsTrue a.told → OtherStays half a b la lb

module _ (s : Twice) (patch : Patch) (alike : AreAlike s) (a : Both) (la : ℕ → List ℕ → List ℕ → List ℕ → Type 0) (kept : IsTrue a.told → IsKeptTwice s a la) (sent_a : SentAt a la) (b : Both) (lb : ℕ → List ℕ → List ℕ → List ℕ → Type 0) (first : Called First s patch a b la lb)
    (told : IsTrue a.told) where
  at_first : AreWithin s (patched (content_of s) patch) a la
  at_first = kept_within s (patched (content_of s) patch) a la alike (kept told)

  pub first_moment : LeavesBoth a b la lb (IsWithin s (patched (content_of s) patch) a.sent)
  first_moment = one_moment s patch alike First a b la lb told at_first (first.beside told) sent_a

  pub first_within : EarlierAt b lb → AreWithin s (patched (content_of s) patch) b lb
  first_within earlier = one_after s patch alike First a b la lb told at_first (first.beside told) (first.sent told) first.same_told earlier (first.stays told)

  module _ (earlier : EarlierAt b lb) (sent_b : SentAt b lb) (e : Both) (le : ℕ → List ℕ → List ℕ → List ℕ → Type 0) (second : Called Second s patch b e lb le) where
    still_told : IsTrue b.told
    still_told = subst IsTrue (sym first.same_told) told

    pub both_moments : LeavesBoth a e la le (IsWithin s (patched (content_of s) patch) a.sent)
    both_moments =
        two_moments s (patched (content_of s) patch) a b e la lb le (first.sent told) first_moment
        (one_moment s patch alike Second b e lb le still_told (first_within earlier) (second.beside still_told) sent_b)

    pub both_within : EarlierAt e le → AreWithin s (patched (content_of s) patch) e le
    both_within earlier_e = one_after s patch alike Second b e lb le still_told (first_within earlier) (second.beside still_told) (second.sent still_told) second.same_told earlier_e (second.stays still_told)

-- before them
module _ (s : Twice) (b : Both) (l : ℕ → List ℕ → List ℕ → List ℕ → Type 0) (holds : HoldsAt b l) (kept : IsTrue b.told → IsKeptTwice s b l) where
  pub first_is_kept : IsTrue b.told → IsKeptAt First s.first b l
  first_is_kept told = first_kept_at b l (identity_of s) (sequence_of s) (content_of s) s.first (holds told) (kept told).first_rests

  pub second_is_kept : IsTrue b.told → IsKeptAt Second s.second b l
  second_is_kept told = second_kept_at b l (identity_of s) (sequence_of s) (content_of s) s.second (holds told) (kept told).second_rests

-- ---- what no call changes or lowers

pub one_frame : (half : Half) (a b : Both) → Frame (half_state half a) (half_state half b) → SameNames (half_state half a) (half_state half b) → SameDisk (other half) a b → (IsTrue a.told → b.sent ≡ a.sent) → FrameBoth a b
one_frame First a b f names same sent = record {
  told = f.told;
  first_faults = f.disk_faults;
  second_faults = subst (λ (d : Disk). a.second.disk_faults ≤ d.disk_faults) (sym same) (omega arith);
  line_faults = f.line_faults;
  moment = f.moment;
  first_names = λ told. names;
  second_names = λ told. ap (λ (d : Disk). d.names) same;
  sent = sent;
}
one_frame Second a b f names same sent = record {
  told = f.told;
  first_faults = subst (λ (d : Disk). a.first.disk_faults ≤ d.disk_faults) (sym same) (omega arith);
  second_faults = f.disk_faults;
  line_faults = f.line_faults;
  moment = f.moment;
  first_names = λ told. ap (λ (d : Disk). d.names) same;
  second_names = λ told. names;
  sent = sent;
}

-- ---- which half is lost

pub faults_later : (half : Half) (a b e : Both) → SameDisk half b e → SameFaultsAt half a b → SameFaultsAt half a e
faults_later half a b e same faults = ap (λ (d : Disk). d.disk_faults) same ∙ faults

pub faults_before : (half : Half) (a b e : Both) → SameDisk half a b → SameFaultsAt half b e → SameFaultsAt half a e
faults_before half a b e same faults = faults ∙ ap (λ (d : Disk). d.disk_faults) same

pub rose_later : (half : Half) (a b e : Both) → SameDisk half b e → RoseAt half a b → RoseAt half a e
rose_later half a b e same rose = subst (λ (d : Disk). Rose (disk_of half a).disk_faults d.disk_faults) (sym same) rose

pub rose_before : (half : Half) (a b e : Both) → SameDisk half a b → RoseAt half b e → RoseAt half a e
rose_before half a b e same rose = subst (λ (d : Disk). Rose d.disk_faults (disk_of half e).disk_faults) same rose

pub lost_later : (half : Half) (p q : Option LoadedCopy) (l m : Option Half) (a b e : Both) → SameDisk half b e → IsLostSo half p q l m a b → IsLostSo half p q l m a e
lost_later half (Some p) (Some q) l m a b e same so = (so.0, faults_later half a b e same so.1)
lost_later half (Some p) None l m a b e same so = (so.0, rose_later half a b e same so.1)
lost_later half None q l m a b e same so = (so.0, faults_later half a b e same so.1)

pub lost_before : (half : Half) (p q : Option LoadedCopy) (l m : Option Half) (a b e : Both) → SameDisk half a b → IsLostSo half p q l m b e → IsLostSo half p q l m a e
lost_before half (Some p) (Some q) l m a b e same so = (so.0, faults_before half a b e same so.1)
lost_before half (Some p) None l m a b e same so = (so.0, rose_before half a b e same so.1)
lost_before half None q l m a b e same so = (so.0, faults_before half a b e same so.1)

pub two_lost : (p q p' q' : Option LoadedCopy) (l k m : Option Half) (a b e : Both) → SameDisk First b e → SameDisk Second a b → IsLostSo First p p' l k a b → IsLostSo Second q q' k m b e → AreLostSo p q p' q' l m a e
two_lost p q p' q' l k m a b e later before so also = record { between = k; first_so = lost_later First p p' l k a b e later so; second_so = lost_before Second q q' k m a b e before also }

-- no call failed on a half that was not in use
pub unused_fine : (half : Half) (p q : Option LoadedCopy) (l m : Option Half) (a b : Both) → p ≡ None → IsLostSo half p q l m a b → SameFaultsAt half a b
unused_fine half (Some p) q l m a b none so = absurd cc
unused_fine half None q l m a b none so = so.1

pub used_fine : (half : Half) (p q : Option LoadedCopy) (l m : Option Half) (a b : Both) (x : LoadedCopy) → q ≡ Some x → IsLostSo half p q l m a b → SameFaultsAt half a b
used_fine half (Some p) (Some q) l m a b x is so = so.1
used_fine half (Some p) None l m a b x is so = absurd cc
used_fine half None q l m a b x is so = so.1

-- one call on a half keeps which half is lost, or it is this one
pub record OneLost (half : Half) (q : Option LoadedCopy) (l m : Option Half) (a b : Both) : Type 0 where
  pub stays : (h : Half) → l ≡ Some h → m ≡ Some h
  pub newly : (h : Half) → m ≡ Some h → (l ≡ Some h) ⊎ ((half ≡ h) × (q ≡ None) × RoseAt half a b)

some_none : {x : LoadedCopy} → Some x ≡ None → ⊥
some_none e = absurd cc

half_is : {h k : Half} → Some h ≡ Some k → h ≡ k
half_is e = ap (λ (o : Option Half). get o) e
  where
    get : Option Half → Half
    get (Some x) = x
    get None = First

same_lost : (half : Half) (q : Option LoadedCopy) (l m : Option Half) (a b : Both) → m ≡ l → OneLost half q l m a b
same_lost half q l m a b same = record { stays = λ h is. same ∙ is; newly = λ h is. inl (sym same ∙ is) }

pub one_lost : (half : Half) (p q : Option LoadedCopy) (l m : Option Half) (a b : Both) → IsLostSo half p q l m a b → OneLost half q l m a b
one_lost half (Some p) (Some q) l m a b so = same_lost half (Some q) l m a b so.0
one_lost half (Some p) None (Some o) m a b so = same_lost half None (Some o) m a b so.0
one_lost half (Some p) None None m a b so = record { stays = λ h is. absurd cc; newly = λ h is. inr (half_is (sym so.0 ∙ is), refl, so.1) }
one_lost half None q l m a b so = same_lost half q l m a b so.0

pub lost_stays : (half : Half) (p q : Option LoadedCopy) (l m : Option Half) (a b : Both) → IsLostSo half p q l m a b → (h : Half) → l ≡ Some h → m ≡ Some h
lost_stays half p q l m a b so = (one_lost half p q l m a b so).stays

pub lost_newly : (half : Half) (p q : Option LoadedCopy) (l m : Option Half) (a b : Both) → IsLostSo half p q l m a b → (h : Half) → m ≡ Some h → (l ≡ Some h) ⊎ RoseAt h a b
lost_newly half p q l m a b so h is = ⊎_elim (λ was. inl was) (λ new. inr (subst (λ (k : Half). RoseAt k a b) new.0 new.2)) ((one_lost half p q l m a b so).newly h is)

pub next_none : (p q : Option LoadedCopy) (patch : Patch) → IsNextIf p patch q → p ≡ None → q ≡ None
next_none (Some p) q patch next none = absurd cc
next_none None (Some q) patch next none = absurd next
next_none None None patch next none = refl

pub next_some : (p q : Option LoadedCopy) (patch : Patch) → IsNextIf p patch q → (x : LoadedCopy) → q ≡ Some x → (z : LoadedCopy) × (p ≡ Some z)
next_some (Some p) q patch next x is = (p, refl)
next_some None (Some q) patch next x is = absurd next
next_some None None patch next x is = absurd cc

-- ---- after both calls

module _ (s : Twice) (patch : Patch) (p q : Option LoadedCopy) (m : Option Half) (a b : Both) (unused : LostIsUnused s) (first_next : IsNextIf s.first patch p) (second_next : IsNextIf s.second patch q)
    (so : AreLostSo s.first s.second p q s.lost m a b) where
  abbrev pub after_both : Twice
  after_both = record { first = p; second = q; mended = s.mended; lost = m }

  none_after : (half : Half) → copy_at half s ≡ None → copy_at half after_both ≡ None
  none_after First none = next_none s.first p patch first_next none
  none_after Second none = next_none s.second q patch second_next none

  pub lost_unused : (half : Half) → m ≡ Some half → copy_at half after_both ≡ None
  lost_unused half is =
      ⊎_elim
      (λ between.
      ⊎_elim (λ was. none_after half (unused half was)) (λ new. subst (λ (k : Half). copy_at k after_both ≡ None) new.0 new.1) ((one_lost First s.first p s.lost so.between a b so.first_so).newly half between))
      (λ new. subst (λ (k : Half). copy_at k after_both ≡ None) new.0 new.1)
      ((one_lost Second s.second q so.between m a b so.second_so).newly half is)

  pub loses_by : LosesBy s (record { first = p; second = q; mended = s.mended; lost = m }) a b
  loses_by = record {
    stays = λ half is. lost_stays Second s.second q so.between m a b so.second_so half (lost_stays First s.first p s.lost so.between a b so.first_so half is);
    newly = λ half is.
        ⊎_elim
        (λ between. lost_newly First s.first p s.lost so.between a b so.first_so half between)
        (λ rose. inr rose)
        (lost_newly Second s.second q so.between m a b so.second_so half is);
    unused = lost_unused;
  }

  pub no_other_after : (half : Half) → IsInUse half (record { first = p; second = q; mended = s.mended; lost = m }) → IsInUse half s
  no_other_after First used = next_some s.first p patch first_next used.0 used.1
  no_other_after Second used = next_some s.second q patch second_next used.0 used.1

  pub fine_after : (half : Half) → IsInUse half (record { first = p; second = q; mended = s.mended; lost = m }) → SameFaultsAt half a b
  fine_after First used = used_fine First s.first p s.lost so.between a b used.0 used.1 so.first_so
  fine_after Second used = used_fine Second s.second q so.between m a b used.0 used.1 so.second_so

-- where a half in use is lost, the other one stays in use, and none was lost before
stays_by : (p q p' q' : Option LoadedCopy) (patch : Patch) (l k m : Option Half) (a b : Both) → (l ≡ Some First → p ≡ None) → (l ≡ Some Second → q ≡ None) → IsNextIf p patch p' → IsNextIf q patch q' → IsLostSo First p p' l k a b → IsLostSo Second q q' k m a b
    → ((p' ≡ None) × (q' ≡ None) → ⊥) → ((x : LoadedCopy) → p ≡ Some x → ((z : LoadedCopy) × (p' ≡ Some z)) ⊎ (m ≡ Some First)) × ((x : LoadedCopy) → q ≡ Some x → ((z : LoadedCopy) × (q' ≡ Some z)) ⊎ (m ≡ Some Second))
stays_by (Some p) (Some q) (Some p') (Some q') patch l k m a b f g next also so too some = (λ x is. inl (p', refl), λ x is. inl (q', refl))
stays_by (Some p) (Some q) None (Some q') patch None k m a b f g next also so too some = (λ x is. inr (too.0 ∙ so.0), λ x is. inl (q', refl))
stays_by (Some p) (Some q) (Some p') None patch None k m a b f g next also so too some = (λ x is. inl (p', refl), λ x is. inr (too.0 ∙ ap (λ (o : Option Half). lost_with o Second) so.0))
stays_by (Some p) (Some q) None (Some q') patch (Some First) k m a b f g next also so too some = absurd (some_none (f refl))
stays_by (Some p) (Some q) None (Some q') patch (Some Second) k m a b f g next also so too some = absurd (some_none (g refl))
stays_by (Some p) (Some q) (Some p') None patch (Some First) k m a b f g next also so too some = absurd (some_none (f refl))
stays_by (Some p) (Some q) (Some p') None patch (Some Second) k m a b f g next also so too some = absurd (some_none (g refl))
stays_by p q None None patch l k m a b f g next also so too some = absurd (some (refl, refl))
stays_by (Some p) None (Some p') q' patch l k m a b f g next also so too some = (λ x is. inl (p', refl), λ x is. absurd cc)
stays_by (Some p) None None (Some q') patch l k m a b f g next also so too some = absurd also
stays_by None (Some q) p' (Some q') patch l k m a b f g next also so too some = (λ x is. absurd cc, λ x is. inl (q', refl))
stays_by None (Some q) (Some p') None patch l k m a b f g next also so too some = absurd next
stays_by None None p' q' patch l k m a b f g next also so too some = (λ x is. absurd cc, λ x is. absurd cc)

-- ---- the two copies of a store alone

pub alike_with : (s : Twice) → AreAlike s → AreAlike (with_copies s.first s.second)
alike_with s alike = record { first_keeps = alike.first_keeps; second_keeps = alike.second_keeps }

pub kept_with : (s : Twice) (b : Both) (l : ℕ → List ℕ → List ℕ → List ℕ → Type 0) → IsKeptTwice s b l → IsKeptTwice (with_copies s.first s.second) b l
kept_with s b l kept = record { first_rests = kept.first_rests; second_rests = kept.second_rests }

pub within_of : (s : Twice) (y : Content) (b : Both) (l : ℕ → List ℕ → List ℕ → List ℕ → Type 0) → AreWithin (with_copies s.first s.second) y b l → AreWithin s y b l
within_of s y b l within First c left = within First c left
within_of s y b l within Second c left = within Second c left

sides_of : (s : Twice) (y : Content) (sent c d out : List ℕ) → IsWithin (with_copies s.first s.second) y sent c d out → (half : Half) → SideWithin half (identity_of s) (sequence_of s) (content_of s) y (copy_at half s) (file_of half c d)
sides_of s y sent c d out w First = w.sides First
sides_of s y sent c d out w Second = w.sides Second

pub committing_moment : (s : Twice) (patch : Patch) (a b : Both) (la lb : ℕ → List ℕ → List ℕ → List ℕ → Type 0) → IsOpen s → LeavesBoth a b la lb (IsWithin (with_copies s.first s.second) (patched (content_of s) patch) a.sent) → LeavesCommitted s patch a b la lb
committing_moment s patch a b la lb is_open moment =
    pairs_weaker a b la lb (IsWithin (with_copies s.first s.second) (patched (content_of s) patch) a.sent) (IsCommitting s (patched (content_of s) patch) a b) moment
    (λ c d out w. within_is_committing s (patched (content_of s) patch) a b c d out is_open (record { silent = w.silent; sides = sides_of s (patched (content_of s) patch) a.sent c d out w }))

-- a commit may be done on a copy of the store
pub can_take : (i : Identity) (n : ℕ) (x : Content) (p : Option LoadedCopy) (patch next : Patch) → KeepsIf i n x p → next ≡ next_patch (n + 1) patch → n + 1 < 2 ^ 64
    → total_charge i.blksize x.items + 1 ≤ i.pages → total_charge i.blksize (patched x patch).items + 1 ≤ i.pages → CanTakeIf p patch next
can_take i n x None patch next keeps is small before later = tt
can_take i n x (Some p) patch next keeps is small before later =
    let same : x ≡ bare p.store.content = sym (kept_bare p.store n x keeps.2) in
    record {
      keeps = subst (λ (m : ℕ). CopyKeeps p.store m (bare p.store.content)) (sym keeps.1) (subst (λ (z : Content). CopyKeeps p.store n z) same keeps.2);
      next_is = subst (λ (m : ℕ). next ≡ next_patch (m + 1) patch) (sym keeps.1) is;
      small = subst (λ (m : ℕ). m + 1 < 2 ^ 64) (sym keeps.1) small;
      charge_before = subst (λ (j : Identity). total_charge j.blksize (bare p.store.content).items + 1 ≤ j.pages) (sym keeps.0) (subst (λ (z : Content). total_charge i.blksize z.items + 1 ≤ i.pages) same before);
      charge_after =
          subst (λ (j : Identity). total_charge j.blksize (patched (bare p.store.content) patch).items + 1 ≤ j.pages) (sym keeps.0)
          (subst (λ (z : Content). total_charge i.blksize (patched z patch).items + 1 ≤ i.pages) same later);
    }

-- which half is lost where memory ran out
pub loses_all : (s : Twice) (m : Option Half) (a b : Both) → ((half : Half) → m ≡ Some half → (s.lost ≡ Some half) ⊎ RoseAt half a b) → ((half : Half) → s.lost ≡ Some half → m ≡ Some half)
    → LosesBy s (record { first = None; second = None; mended = s.mended; lost = m }) a b
loses_all s m a b newly stays = record { stays = stays; newly = newly; unused = none_used }
  where
    none_used : (half : Half) → m ≡ Some half → copy_at half (record { first = None; second = None; mended = s.mended; lost = m }) ≡ None
    none_used First is = refl
    none_used Second is = refl

pub not_in_use : (half : Half) (s : Twice) → (IsInUse half s → ⊥) → copy_at half (with_copies s.first s.second) ≡ None
not_in_use First s none = by s.first refl
  where
    by : (o : Option LoadedCopy) → s.first ≡ o → o ≡ None
    by None is = refl
    by (Some p) is = absurd (none (p, is))
not_in_use Second s none = by s.second refl
  where
    by : (o : Option LoadedCopy) → s.second ≡ o → o ≡ None
    by None is = refl
    by (Some p) is = absurd (none (p, is))

-- where no copy is left, a call failed on each half that was in use
pub all_rose : (s : Twice) (m : Option Half) (a b : Both) → AreLostSo s.first s.second None None s.lost m a b → (half : Half) → IsInUse half s → RoseAt half a b
all_rose s m a b so First used = (subst (λ (o : Option LoadedCopy). IsLostSo First o None s.lost so.between a b) used.1 so.first_so).1
all_rose s m a b so Second used = (subst (λ (o : Option LoadedCopy). IsLostSo Second o None so.between m a b) used.1 so.second_so).1

pub stays_after : (s : Twice) (patch : Patch) (p q : Option LoadedCopy) (m : Option Half) (a b : Both) → LostIsUnused s → IsNextIf s.first patch p → IsNextIf s.second patch q → AreLostSo s.first s.second p q s.lost m a b
    → ((p ≡ None) × (q ≡ None) → ⊥) → (half : Half) → IsInUse half s → IsInUse half (record { first = p; second = q; mended = s.mended; lost = m }) ⊎ (m ≡ Some half)
stays_after s patch p q m a b unused next also so some half =
    let by = stays_by s.first s.second p q patch s.lost so.between m a b (unused First) (unused Second) next also so.first_so so.second_so some in
    at half by
  where
    at : (half : Half) → ((x : LoadedCopy) → s.first ≡ Some x → ((z : LoadedCopy) × (p ≡ Some z)) ⊎ (m ≡ Some First)) × ((x : LoadedCopy) → s.second ≡ Some x → ((z : LoadedCopy) × (q ≡ Some z)) ⊎ (m ≡ Some Second))
        → IsInUse half s → IsInUse half (record { first = p; second = q; mended = s.mended; lost = m }) ⊎ (m ≡ Some half)
    at First by used = by.0 used.0 used.1
    at Second by used = by.1 used.0 used.1

-- ---- where no call failed on a half

pub one_fine : (a b : Both) → SameFaultsAt First a b → SameDisk Second a b → (half : Half) → SameFaultsAt half a b
one_fine a b fine same First = fine
one_fine a b fine same Second = ap (λ (d : Disk). d.disk_faults) same

module _ (p q p' : Option LoadedCopy) (l k m : Option Half) (a b e : Both) (later : SameDisk First b e) (so : IsLostSo First p p' l k a b) where
  pub second_newly : m ≡ k → (half : Half) → m ≡ Some half → (l ≡ Some half) ⊎ RoseAt half a e
  second_newly same half is = lost_newly First p p' l k a e (lost_later First p p' l k a b e later so) half (sym same ∙ is)

  pub second_stays : m ≡ k → (half : Half) → l ≡ Some half → m ≡ Some half
  second_stays same half is = same ∙ lost_stays First p p' l k a b so half is

  pub second_unused : SameFaultsAt Second a e → (half : Half) → copy_at half (with_copies p q) ≡ None → SameFaultsAt half a e
  second_unused fine First none = unused_fine First p p' l k a e none (lost_later First p p' l k a b e later so)
  second_unused fine Second none = fine

pub two_unused : (p q p' q' : Option LoadedCopy) (l m : Option Half) (a b : Both) → AreLostSo p q p' q' l m a b → (half : Half) → copy_at half (with_copies p q) ≡ None → SameFaultsAt half a b
two_unused p q p' q' l m a b so First none = unused_fine First p p' l so.between a b none so.first_so
two_unused p q p' q' l m a b so Second none = unused_fine Second q q' so.between m a b none so.second_so

pub on_err : {A E : Type 0} (r : Result A E) (P : Type 0) → P → OnErr r P
on_err (Ok x) P p = tt
on_err (Err e) P p = p

pub first_newly : (l k : Option Half) (a b : Both) → k ≡ l → (half : Half) → k ≡ Some half → (l ≡ Some half) ⊎ RoseAt half a b
first_newly l k a b same half is = inl (sym same ∙ is)

pub first_stays : (l k : Option Half) → k ≡ l → (half : Half) → l ≡ Some half → k ≡ Some half
first_stays l k same half is = same ∙ is

-- ---- calls that did not fail as a whole

-- no call was made
pub fine_still : (s : Twice) (a : Both) → IsOpen s → FineTwice s a a
fine_still s a (inl used) = record { spared = (First, used, refl); line = inl refl }
fine_still s a (inr used) = record { spared = (Second, used, refl); line = inl refl }

-- of the line, in two calls
pub two_line : (p q : Option LoadedCopy) (a b e : Both) → SameDisk Second a b → SameDisk First b e → IsLineFine First p a b → IsLineFine Second q b e → SparesLine (with_copies p q) a e
two_line p q a b e before later (inr rose) also = inr (First, (rose.0, rose.1), rose_later First a b e later rose.2)
two_line p q a b e before later (inl same) (inr rose) = inr (Second, (rose.0, rose.1), rose_before Second a b e before rose.2)
two_line p q a b e before later (inl same) (inl too) = inl (too ∙ same)

pub first_line : (p q : Option LoadedCopy) (a b : Both) → IsLineFine First p a b → SparesLine (with_copies p q) a b
first_line p q a b (inr rose) = inr (First, (rose.0, rose.1), rose.2)
first_line p q a b (inl same) = inl same

used_with : (s : Twice) (half : Half) → IsInUse half (with_copies s.first s.second) → IsInUse half s
used_with s First used = used
used_with s Second used = used

-- of the two copies of a store alone
pub line_with : (u s : Twice) → u ≡ s → (a b : Both) → SparesLine (with_copies u.first u.second) a b → SparesLine s a b
line_with u s is a b (inl same) = inl same
line_with u s is a b (inr rose) = inr (rose.0, subst (λ (z : Twice). IsInUse rose.0 z) is (used_with u rose.0 rose.1), rose.2)

pub spared_with : (u s : Twice) → u ≡ s → (a b : Both) → SparesOne (with_copies u.first u.second) a b → SparesOne s a b
spared_with u s is a b one = (one.0, subst (λ (z : Twice). IsInUse one.0 z) is (used_with u one.0 one.1), one.2)

-- where a half is in use after them
pub spared_open : (s s' : Twice) (a b : Both) → IsOpen s' → ((half : Half) → IsInUse half s' → IsInUse half s) → ((half : Half) → IsInUse half s' → SameFaultsAt half a b) → SparesOne s a b
spared_open s s' a b (inl used) before fine = (First, before First used, fine First used)
spared_open s s' a b (inr used) before fine = (Second, before Second used, fine Second used)

-- ---- the ends of a commit

-- it was done
pub record IsDone (s : Twice) (patch : Patch) (a b : Both) (la lb : ℕ → List ℕ → List ℕ → List ℕ → Type 0) (s' : Twice) : Type 0 where
  pub content : content_of s' ≡ patched (content_of s) patch
  pub sequence : sequence_of s' ≡ sequence_of s + 1
  pub identity : identity_of s' ≡ identity_of s
  pub is_open : IsOpen s'
  pub kept : IsTrue a.told → IsKeptTwice s' b lb
  pub mended : s'.mended ≡ s.mended
  pub lost : LosesBy s s' a b
  pub stays : (half : Half) → IsInUse half s → IsInUse half s' ⊎ (s'.lost ≡ Some half)
  pub no_other : (half : Half) → IsInUse half s' → IsInUse half s
  pub fine : (half : Half) → IsInUse half s' → SameFaultsAt half a b
  pub unused : (half : Half) → (IsInUse half s → ⊥) → SameFaultsAt half a b
  pub any_moment : IsTrue a.told → LeavesCommitted s patch a b la lb

-- it was not done, and no half is in use
pub record IsBroken (s : Twice) (patch : Patch) (a b : Both) (la lb : ℕ → List ℕ → List ℕ → List ℕ → Type 0) (s' : Twice) : Type 0 where
  pub mended : s'.mended ≡ s.mended
  pub lost : LosesBy s s' a b
  pub no_other : (half : Half) → IsInUse half s' → IsInUse half s
  pub unused : (half : Half) → (IsInUse half s → ⊥) → SameFaultsAt half a b
  pub any_moment : IsTrue a.told → LeavesCommitted s patch a b la lb

none_used : (half : Half) (m l : Option Half) → IsInUse half (record { first = None; second = None; mended = m; lost = l }) → ⊥
none_used First m l used = absurd (some_none (sym used.1))
none_used Second m l used = absurd (some_none (sym used.1))

some_of : (p q : Option LoadedCopy) → ((p ≡ None) × (q ≡ None) → ⊥) → IsSomeOf p q
some_of (Some p) q some = tt
some_of None (Some q) some = tt
some_of None None some = absurd (some (refl, refl))

open_of : (p q : Option LoadedCopy) (m l : Option Half) → IsSomeOf p q → IsOpen (record { first = p; second = q; mended = m; lost = l })
open_of (Some p) q m l some = inl (p, refl)
open_of None (Some q) m l some = inr (q, refl)
open_of None None m l some = absurd some

module _ (s : Twice) (patch : Patch) (a b : Both) (la lb : ℕ → List ℕ → List ℕ → List ℕ → Type 0) (m : Option Half) (twice : IsTwice s) (is_open : IsOpen s)
    (moment : IsTrue a.told → LeavesBoth a b la lb (IsWithin (with_copies s.first s.second) (patched (content_of s) patch) a.sent))
    (idle : (half : Half) → copy_at half (with_copies s.first s.second) ≡ None → SameFaultsAt half a b) where
  broken_end : LosesBy s (record { first = None; second = None; mended = s.mended; lost = m }) a b → IsBroken s patch a b la lb (record { first = None; second = None; mended = s.mended; lost = m })
  broken_end loses = record {
    mended = refl;
    lost = loses;
    no_other = λ half used. absurd (none_used half s.mended m used);
    unused = λ half none. idle half (not_in_use half s none);
    any_moment = λ told. committing_moment s patch a b la lb is_open (moment told);
  }

  pub memory_end : ((half : Half) → m ≡ Some half → (s.lost ≡ Some half) ⊎ RoseAt half a b) → ((half : Half) → s.lost ≡ Some half → m ≡ Some half) → IsBroken s patch a b la lb (record { first = None; second = None; mended = s.mended; lost = m })
  memory_end newly stays = broken_end (loses_all s m a b newly stays)

  module _ (p q : Option LoadedCopy) (first_next : IsNextIf s.first patch p) (second_next : IsNextIf s.second patch q) (so : AreLostSo s.first s.second p q s.lost m a b) where
    pub failed_end : p ≡ None → q ≡ None → IsBroken s patch a b la lb (record { first = None; second = None; mended = s.mended; lost = m })
    failed_end none too =
        broken_end
        (subst (λ (o : Option LoadedCopy). LosesBy s (record { first = None; second = o; mended = s.mended; lost = m }) a b) too
        (subst (λ (o : Option LoadedCopy). LosesBy s (record { first = o; second = q; mended = s.mended; lost = m }) a b) none (loses_by s patch p q m a b twice.lost_is_unused first_next second_next so)))

    pub failed_rose : p ≡ None → q ≡ None → (half : Half) → IsInUse half s → RoseAt half a b
    failed_rose none too =
        all_rose s m a b
        (subst (λ (o : Option LoadedCopy). AreLostSo s.first s.second None o s.lost m a b) too (subst (λ (o : Option LoadedCopy). AreLostSo s.first s.second o q s.lost m a b) none so))

    module _ (some : (p ≡ None) × (q ≡ None) → ⊥) where
      pub done_twice : IsTwice (record { first = p; second = q; mended = s.mended; lost = m })
      done_twice = record {
        alike = alike_after s patch p q twice.alike first_next second_next (some_of p q some) s.mended m;
        lost_is_unused = lost_unused s patch p q m a b twice.lost_is_unused first_next second_next so;
      }

      pub done_end : (IsTrue a.told → IsKeptAt First p b lb) → (IsTrue a.told → IsKeptAt Second q b lb) → (IsTrue a.told → AreWithin (with_copies s.first s.second) (patched (content_of s) patch) b lb)
          → IsDone s patch a b la lb (record { first = p; second = q; mended = s.mended; lost = m })
      done_end first_at second_at within = record {
        content = content_after s patch p q twice.alike first_next second_next (some_of p q some);
        sequence = sequence_after s patch p q twice.alike first_next second_next (some_of p q some);
        identity = identity_after s patch p q twice.alike first_next second_next (some_of p q some);
        is_open = open_of p q s.mended m (some_of p q some);
        kept = λ told. kept_after s patch p q twice.alike first_next second_next (some_of p q some) s.mended m b lb (first_at told) (second_at told) (within_of s (patched (content_of s) patch) b lb (within told));
        mended = refl;
        lost = loses_by s patch p q m a b twice.lost_is_unused first_next second_next so;
        stays = stays_after s patch p q m a b twice.lost_is_unused first_next second_next so some;
        no_other = no_other_after s patch p q m a b twice.lost_is_unused first_next second_next so;
        fine = fine_after s patch p q m a b twice.lost_is_unused first_next second_next so;
        unused = λ half none. idle half (not_in_use half s none);
        any_moment = λ told. committing_moment s patch a b la lb is_open (moment told);
      }

-- ---- what the code knows of the ends

-- the store before the call, by the copies that were taken out of it
pub record IsTaken (u s : Twice) : Type 0 where
  pub same : u ≡ s
  pub twice : IsTwice s
  pub known : IsTwice u
  pub opened : IsOpen u

pub taken : (f g p q : Option LoadedCopy) (m l : Option Half) (s : Twice) → f ≡ p → g ≡ q → record { first = p; second = q; mended = m; lost = l } ≡ s → IsTwice (record { first = p; second = q; mended = m; lost = l }) → IsOpen s
    → IsTaken (record { first = f; second = g; mended = m; lost = l }) s
taken f g p q m l s is_p is_q is twice is_open =
    let there : record { first = f; second = g; mended = m; lost = l } ≡ s = (λ i. record { first = is_p i; second = is_q i; mended = m; lost = l }) ∙ is in
    let here : IsTwice s = subst IsTwice is twice in
    record { same = there; twice = here; known = subst IsTwice (sym there) here; opened = subst IsOpen (sym there) is_open }

-- where no copy is put back, it is broken
pub broken_so : (u s : Twice) → u ≡ s → (patch : Patch) (a b : Both) (la lb : ℕ → List ℕ → List ℕ → List ℕ → Type 0) (m : Option Half) (f g : Option LoadedCopy) → f ≡ None → g ≡ None
    → IsBroken u patch a b la lb (record { first = None; second = None; mended = u.mended; lost = m }) → IsBroken s patch a b la lb (record { first = f; second = g; mended = u.mended; lost = m })
broken_so u s is patch a b la lb m f g none too broken =
    subst (λ (z : Twice). IsBroken z patch a b la lb (record { first = f; second = g; mended = u.mended; lost = m })) is
    (subst (λ (o : Option LoadedCopy). IsBroken u patch a b la lb (record { first = o; second = g; mended = u.mended; lost = m })) (sym none)
    (subst (λ (o : Option LoadedCopy). IsBroken u patch a b la lb (record { first = None; second = o; mended = u.mended; lost = m })) (sym too) broken))

false_true : false ≡ true → ⊥
false_true e = absurd cc

pub none_is : (p : Option LoadedCopy) (r : Bool) → is_some p ≡ not r → r ≡ true → p ≡ None
none_is None r gives is = refl
none_is (Some p) r gives is = absurd (false_true (sym (gives ∙ ap not is)))

pub none_isnt : (p : Option LoadedCopy) (r : Bool) → is_some p ≡ not r → r ≡ false → p ≡ None → ⊥
none_isnt None r gives isnt is = absurd (false_true (gives ∙ ap not isnt))
none_isnt (Some p) r gives isnt is = absurd (some_none is)

module _ (s : Twice) (patch next : Patch) (alike : AreAlike s) (is_next : next ≡ next_patch (sequence_of s + 1) patch) (small : sequence_of s + 1 < 2 ^ 64)
    (before : total_charge (identity_of s).blksize (content_of s).items + 1 ≤ (identity_of s).pages) (later : total_charge (identity_of s).blksize (patched (content_of s) patch).items + 1 ≤ (identity_of s).pages) where
  pub first_takes : CanTakeIf s.first patch next
  first_takes = can_take (identity_of s) (sequence_of s) (content_of s) s.first patch next alike.first_keeps is_next small before later

  pub second_takes : CanTakeIf s.second patch next
  second_takes = can_take (identity_of s) (sequence_of s) (content_of s) s.second patch next alike.second_keeps is_next small before later
