-- Laws: a half that is behind is written anew from the one in use, and the copy that counts stays the same.
use Rattle.std.specs.Prelude.{◌≡◌, ◌⊎◌, ◌≤◌, ℕ, List, Option, Some, None, Result, Ok, Err, OnOk, IsTrue, get_or}
use Rattle.std.proofs.Common.{inl, inr, ⊎_elim, arith, refl, sym, ap, subst, ◌∙◌}
use Rattle.kd_base.specs.ToolsLaws.{some_is}
use Rattle.kd_device.specs.Device.{Frame, Rose, SameNames}
use Rattle.kd_device.specs.Rest.{Rests}
use Rattle.kd_device.specs.declared.error.DeviceError.{DeviceError}
use Rattle.kd_records.specs.Identity.{Identity}
use Rattle.kd_records.specs.declared.content.Content.{Content}
use Rattle.kd_device.specs.Twin.{Both, Disk, other, disk_of, half_leaves, half_state}
use Rattle.kd_device.specs.declared.half.Half.{Half}
use Rattle.kd_device.specs.declared.half.Half.TheVariants.{First, Second}
use Rattle.kdcfile_store.specs.Paged.{HasFile}
use Rattle.kdcfile_copies.specs.declared.answer.LoadedCopy.{LoadedCopy}
use Rattle.kdcfile_copies.specs.declared.answer.Found.{Found}
use Rattle.kdcfile_copies.specs.declared.answer.Found.TheVariants.{Empty, NoCopy, Copy}
use Rattle.kdcfile_copies.specs.Copies.{IsCopyOf, IsNoCopy, bare, with_sequence}
use Rattle.kdcfile_copies.specs.CopiesLaws.{no_image_is_no_copy, one_meaning_of_copies, some_none, store_is_copy}
use Rattle.kdcfile_copies.specs.Finding.{IsAnswer, IsFound, IsLoaded}
use Rattle.kdcfile_copies.specs.Beside.{IsBeside, LeavesBeside, NoMore, OtherStays, SameDisk, file_of}
use Rattle.kdcfile_copies.specs.BesideLaws.{beside_pairs, pairs_then, pairs_weaker}
use Rattle.kdcfile_copies.specs.Mending.{BeginsWith, HalfRests, IsMending, LeavesHalf, BothRest as EachRests}
use Rattle.kdcfile_copies.specs.MendingLaws.{copy_stands_for, gate_open, shut_means_nothing}
use Rattle.kdcfile_double.specs.Twice.{Twice, AreAlike, AreSame, FrameBoth, IsInUse, IsKeptTwice, KeepsIf, LeavesBoth, RoseAt, SameFaultsAt, SideRests, StaysBehind, copy_at, identity_of, sequence_of, content_of}
use Rattle.kdcfile_double.specs.ChosenLaws.{IsSomeOf, below_at_most, copy_at_most, kept_copy, none_is_below, second_chosen}
use Rattle.kdcfile_double.specs.CommitLaws.{content_kept, identity_kept, sequence_kept}
use Rattle.kdcfile_double.specs.Choice.{copy_in}
use Rattle.kdcfile_double.specs.Mended.{BothRest, FineMending, IsBehind, IsMendingOne, IsSameCopy, IsTaken, TakesAfter, lost_at}
use Rattle.kdcfile_double.specs.ReopenLaws.{same_keeps_if}

-- ---- both halves at rest, as a record and by halves

pub each_rests : (b : Both) (leaves : ℕ → List ℕ → List ℕ → List ℕ → Type 0) → BothRest b leaves → EachRests b leaves
each_rests b leaves rest First d c left = rest.first_rests c d left
each_rests b leaves rest Second d c left = rest.second_rests d c left

pub both_rest : (b : Both) (leaves : ℕ → List ℕ → List ℕ → List ℕ → Type 0) → EachRests b leaves → BothRest b leaves
both_rest b leaves rest = record { first_rests = λ c d left. rest First d c left; second_rests = λ c d left. rest Second c d left }

-- ---- what the halves hold

pub kept_at : (half : Half) (s : Twice) → AreAlike s → (p : LoadedCopy) → copy_at half s ≡ Some p → KeepsIf (identity_of s) (sequence_of s) (content_of s) (Some p)
kept_at First s alike p is = subst (λ (o : Option LoadedCopy). KeepsIf (identity_of s) (sequence_of s) (content_of s) o) is alike.first_keeps
kept_at Second s alike p is = subst (λ (o : Option LoadedCopy). KeepsIf (identity_of s) (sequence_of s) (content_of s) o) is alike.second_keeps

-- a half in use holds its copy
pub has_file : (half : Half) (s : Twice) (b : Both) (leaves : ℕ → List ℕ → List ℕ → List ℕ → Type 0) → IsKeptTwice s b leaves → leaves b.moment b.first.holds b.second.holds b.sent → (p : LoadedCopy) → copy_at half s ≡ Some p → HasFile p.store (disk_of half b).holds
has_file First s b leaves kept now p is = (subst (λ (o : Option LoadedCopy). SideRests First (identity_of s) (sequence_of s) (content_of s) o b.first.holds b.first.holds) is (kept.first_rests b.first.holds b.second.holds now)).1
has_file Second s b leaves kept now p is = (subst (λ (o : Option LoadedCopy). SideRests Second (identity_of s) (sequence_of s) (content_of s) o b.second.holds b.second.holds) is (kept.second_rests b.first.holds b.second.holds now)).1

pub holds_copy : (half : Half) (s : Twice) (b : Both) (leaves : ℕ → List ℕ → List ℕ → List ℕ → Type 0) → AreAlike s → IsKeptTwice s b leaves → leaves b.moment b.first.holds b.second.holds b.sent → (p : LoadedCopy) → copy_at half s ≡ Some p → IsCopyOf (identity_of s) (sequence_of s) (content_of s) (disk_of half b).holds
holds_copy half s b leaves alike kept now p is = kept_copy (identity_of s) (sequence_of s) (content_of s) p (disk_of half b).holds (kept_at half s alike p is) (has_file half s b leaves kept now p is)

-- the gate of a copy is open
pub copy_open : (i : Identity) (n : ℕ) (x : Content) (bytes : List ℕ) → IsCopyOf i n x bytes → get_or bytes 0 0 ≡ 75
copy_open i n x bytes is = let stands = is.content in gate_open i stands.0 (with_sequence n x) stands.1 bytes stands.2.image

-- and one that is not in use stays behind
pub holds_behind : (half : Half) (s : Twice) (b : Both) (leaves : ℕ → List ℕ → List ℕ → List ℕ → Type 0) → IsKeptTwice s b leaves → leaves b.moment b.first.holds b.second.holds b.sent → copy_at half s ≡ None → StaysBehind half (identity_of s) (sequence_of s) (content_of s) (disk_of half b).holds
holds_behind First s b leaves kept now is = subst (λ (o : Option LoadedCopy). SideRests First (identity_of s) (sequence_of s) (content_of s) o b.first.holds b.first.holds) is (kept.first_rests b.first.holds b.second.holds now)
holds_behind Second s b leaves kept now is = subst (λ (o : Option LoadedCopy). SideRests Second (identity_of s) (sequence_of s) (content_of s) o b.second.holds b.second.holds) is (kept.second_rests b.first.holds b.second.holds now)

-- ---- what a mending leaves of the half that is behind

module _ (i : Identity) (n : ℕ) (x : Content) where
  pub copied : (front file : List ℕ) → IsCopyOf i n x front → BeginsWith front file → IsCopyOf i n x file
  copied front file is begins = record { content = copy_stands_for i (with_sequence n x) front file is.content begins; bare = is.bare; small = is.small }

  pub copy_behind : (half : Half) (image : List ℕ) → IsCopyOf i n x image → StaysBehind half i n x image
  copy_behind First image is = inr is
  copy_behind Second image is = copy_at_most i n n x image is (omega arith)

  none_behind : (half : Half) (image : List ℕ) → IsNoCopy image → StaysBehind half i n x image
  none_behind First image none = inl (none_is_below n image none)
  none_behind Second image none = below_at_most n image (none_is_below n image none)

  pub mending_behind : (half : Half) (source before image : List ℕ) → IsCopyOf i n x source → StaysBehind half i n x before → IsMending source before image → StaysBehind half i n x image
  mending_behind half source before image is behind (inl same) = subst (λ (l : List ℕ). StaysBehind half i n x l) (sym same) behind
  mending_behind half source before image is behind (inr (inl shut)) = none_behind half image (no_image_is_no_copy image (shut_means_nothing image shut))
  mending_behind half source before image is behind (inr (inr begins)) = copy_behind half image (copied source image is begins)

  -- a half at rest with the same copy, in use or not
  pub side_rests : (half : Half) (o : Option LoadedCopy) (holds image : List ℕ) → image ≡ holds → ((q : LoadedCopy) → o ≡ Some q → HasFile q.store holds) → IsCopyOf i n x holds → SideRests half i n x o holds image
  side_rests half (Some q) holds image same has is = (same, subst (λ (l : List ℕ). HasFile q.store l) (sym same) (has q refl))
  side_rests half None holds image same has is = copy_behind half image (subst (λ (l : List ℕ). IsCopyOf i n x l) (sym same) is)

-- ---- a stop within a mending

pub one_mending : (source : Half) (s : Twice) (sent c d out : List ℕ) → copy_at (other source) s ≡ None → out ≡ sent → IsCopyOf (identity_of s) (sequence_of s) (content_of s) (file_of source c d) → StaysBehind (other source) (identity_of s) (sequence_of s) (content_of s) (file_of (other source) c d) → IsMendingOne s sent c d out
one_mending First s sent c d out none silent is behind = record {
  silent = silent;
  chosen = inl (is, behind);
  first_is = λ used. is;
  second_is = λ used. absurd (some_none (sym used.1 ∙ none));
}
one_mending Second s sent c d out none silent is behind = record {
  silent = silent;
  chosen = second_chosen (identity_of s) (sequence_of s) (content_of s) c d is behind;
  first_is = λ used. absurd (some_none (sym used.1 ∙ none));
  second_is = λ used. is;
}

-- within the copying
pub mending_pairs : (source : Half) (s : Twice) (a b : Both) (la lb : ℕ → List ℕ → List ℕ → List ℕ → Type 0) → copy_at (other source) s ≡ None → IsCopyOf (identity_of s) (sequence_of s) (content_of s) (disk_of source a).holds
    → StaysBehind (other source) (identity_of s) (sequence_of s) (content_of s) (disk_of (other source) a).holds → LeavesHalf (other source) (disk_of source a).holds (IsMending (disk_of source a).holds (disk_of (other source) a).holds) a b la lb → LeavesBoth a b la lb (IsMendingOne s a.sent)
mending_pairs First s a b la lb none is behind h = record {
  later = (h a.sent).later;
  only = λ t c d out at left.
      ⊎_elim
      (λ l. inl l)
      (λ p.
      inr
      (one_mending First s a.sent c d out none p.0 (subst (λ (l : List ℕ). IsCopyOf (identity_of s) (sequence_of s) (content_of s) l) (sym p.1) is)
      (mending_behind (identity_of s) (sequence_of s) (content_of s) Second a.first.holds a.second.holds d is behind p.2)))
      ((h c).only t d out at left);
}
mending_pairs Second s a b la lb none is behind h = record {
  later = (h a.sent).later;
  only = λ t c d out at left.
      ⊎_elim
      (λ l. inl l)
      (λ p.
      inr
      (one_mending Second s a.sent c d out none p.0 (subst (λ (l : List ℕ). IsCopyOf (identity_of s) (sequence_of s) (content_of s) l) (sym p.1) is)
      (mending_behind (identity_of s) (sequence_of s) (content_of s) First a.second.holds a.first.holds c is behind p.2)))
      ((h d).only t c out at left);
}

-- and where both halves stand as they do
pub rest_mending : (source : Half) (s : Twice) (b : Both) (sent c d out : List ℕ) → copy_at (other source) s ≡ None → b.sent ≡ sent → IsCopyOf (identity_of s) (sequence_of s) (content_of s) (disk_of source b).holds
    → StaysBehind (other source) (identity_of s) (sequence_of s) (content_of s) (disk_of (other source) b).holds → (out ≡ b.sent) × (c ≡ b.first.holds) × (d ≡ b.second.holds) → IsMendingOne s sent c d out
rest_mending First s b sent c d out none same is behind p =
    one_mending First s sent c d out none (p.0 ∙ same) (subst (λ (l : List ℕ). IsCopyOf (identity_of s) (sequence_of s) (content_of s) l) (sym p.1) is)
    (subst (λ (l : List ℕ). StaysBehind Second (identity_of s) (sequence_of s) (content_of s) l) (sym p.2) behind)
rest_mending Second s b sent c d out none same is behind p =
    one_mending Second s sent c d out none (p.0 ∙ same) (subst (λ (l : List ℕ). IsCopyOf (identity_of s) (sequence_of s) (content_of s) l) (sym p.2) is)
    (subst (λ (l : List ℕ). StaysBehind First (identity_of s) (sequence_of s) (content_of s) l) (sym p.1) behind)

-- a stop at the end of the copying
pub mending_images : (source : Half) (a b : Both) (la lb : ℕ → List ℕ → List ℕ → List ℕ → Type 0) → EachRests a la → ((t u : ℕ) (c d out : List ℕ) → t ≤ u → lb u c d out → lb t c d out) → b.sent ≡ a.sent
    → LeavesHalf (other source) (disk_of source a).holds (IsMending (disk_of source a).holds (disk_of (other source) a).holds) a b la lb → (c d : List ℕ) → lb b.moment c d b.sent → IsMending (disk_of source a).holds (disk_of (other source) a).holds (file_of (other source) c d)
mending_images First a b la lb rest earlier sent h c d left =
    ⊎_elim (λ was. inl (rest Second c d (subst (λ (o : List ℕ). la a.moment c d o) sent was))) (λ p. p.2) ((h c).only a.moment d b.sent (omega arith) (earlier a.moment b.moment c d b.sent (h c).later left))
mending_images Second a b la lb rest earlier sent h c d left =
    ⊎_elim (λ was. inl (rest First d c (subst (λ (o : List ℕ). la a.moment c d o) sent was))) (λ p. p.2) ((h d).only a.moment c b.sent (omega arith) (earlier a.moment b.moment c d b.sent (h d).later left))

-- ---- what is kept after it

rest_file : (half : Half) (b : Both) (leaves : ℕ → List ℕ → List ℕ → List ℕ → Type 0) → HalfRests half b leaves → (c d : List ℕ) → leaves b.moment c d b.sent → file_of half c d ≡ (disk_of half b).holds
rest_file First b leaves rests c d left = rests d c left
rest_file Second b leaves rests c d left = rests c d left

copy_as : (i j : Identity) (n m : ℕ) (x z : Content) (bytes : List ℕ) → j ≡ i → m ≡ n → z ≡ x → IsCopyOf i n x bytes → IsCopyOf j m z bytes
copy_as i j n m x z bytes made numbered kept is =
    subst (λ (k : Identity). IsCopyOf k m z bytes) (sym made) (subst (λ (k : ℕ). IsCopyOf i k z bytes) (sym numbered) (subst (λ (k : Content). IsCopyOf i n k bytes) (sym kept) is))

-- the half in use is at rest, and the other one is at rest or stays behind
pub kept_by : (source : Half) (s : Twice) (b : Both) (leaves : ℕ → List ℕ → List ℕ → List ℕ → Type 0) (p : LoadedCopy) → copy_at source s ≡ Some p → HasFile p.store (disk_of source b).holds
    → ((c d : List ℕ) → leaves b.moment c d b.sent → (file_of source c d ≡ (disk_of source b).holds) × SideRests (other source) (identity_of s) (sequence_of s) (content_of s) (copy_at (other source) s) (disk_of (other source) b).holds (file_of (other source) c d)) → IsKeptTwice s b leaves
kept_by First s b leaves p is has f = record {
  first_rests = λ c d left.
      let same = (f c d left).0 in
      subst (λ (o : Option LoadedCopy). SideRests First (identity_of s) (sequence_of s) (content_of s) o b.first.holds c) (sym is) (same, subst (λ (l : List ℕ). HasFile p.store l) (sym same) has);
  second_rests = λ c d left. (f c d left).1;
}
kept_by Second s b leaves p is has f = record {
  first_rests = λ c d left. (f c d left).1;
  second_rests = λ c d left.
      let same = (f c d left).0 in
      subst (λ (o : Option LoadedCopy). SideRests Second (identity_of s) (sequence_of s) (content_of s) o b.second.holds d) (sym is) (same, subst (λ (l : List ℕ). HasFile p.store l) (sym same) has);
}

-- ---- a copy that is taken into use

-- what is loaded from a file with the same copy is the same
pub loaded_same : (s : Twice) (copy : LoadedCopy) (bytes : List ℕ) → IsLoaded copy → HasFile copy.store bytes → IsCopyOf (identity_of s) (sequence_of s) (content_of s) bytes → IsSameCopy copy s
loaded_same s copy bytes loaded file is =
    let same = one_meaning_of_copies copy.store.identity (identity_of s) copy.sequence (sequence_of s) (bare copy.store.content) (content_of s) bytes (store_is_copy copy.store copy.sequence (bare copy.store.content) bytes loaded.keeps file) is in
    record { sequence = same.1; identity = same.0; content = same.2 }

module _ (half : Half) (s s' : Twice) (own copy : LoadedCopy) (alike : AreAlike s) (uses : copy_at (other half) s ≡ Some own) (same : AreSame own copy) (here : copy_at half s' ≡ Some copy) (there : copy_at (other half) s' ≡ copy_at (other half) s) where
  taken_keeps : (k : Half) → KeepsIf (identity_of s) (sequence_of s) (content_of s) (copy_at k s')
  taken_keeps = by half (sym here) (sym there) uses
    where
      fits : (o : Option LoadedCopy) → Some copy ≡ o → KeepsIf (identity_of s) (sequence_of s) (content_of s) (Some own) → KeepsIf (identity_of s) (sequence_of s) (content_of s) o
      fits o is keeps = subst (λ (r : Option LoadedCopy). KeepsIf (identity_of s) (sequence_of s) (content_of s) r) is (same_keeps_if (identity_of s) (sequence_of s) (content_of s) (Some own) (Some copy) keeps same)

      by : (h : Half) → Some copy ≡ copy_at h s' → copy_at (other h) s ≡ copy_at (other h) s' → copy_at (other h) s ≡ Some own → (k : Half) → KeepsIf (identity_of s) (sequence_of s) (content_of s) (copy_at k s')
      by First now stays was First = fits s'.first now (kept_at Second s alike own was)
      by First now stays was Second = subst (λ (o : Option LoadedCopy). KeepsIf (identity_of s) (sequence_of s) (content_of s) o) stays alike.second_keeps
      by Second now stays was First = subst (λ (o : Option LoadedCopy). KeepsIf (identity_of s) (sequence_of s) (content_of s) o) stays alike.first_keeps
      by Second now stays was Second = fits s'.second now (kept_at First s alike own was)

  taken_some : IsSomeOf s'.first s'.second
  taken_some = by half here
    where
      by : (h : Half) → copy_at h s' ≡ Some copy → IsSomeOf s'.first s'.second
      by First is = subst (λ (o : Option LoadedCopy). IsSomeOf o s'.second) (sym is) tt
      by Second is = subst (λ (o : Option LoadedCopy). IsSomeOf s'.first o) (sym is) (any s'.first)
        where
          any : (o : Option LoadedCopy) → IsSomeOf o (Some copy)
          any (Some p) = tt
          any None = tt

  pub taken_identity : identity_of s' ≡ identity_of s
  taken_identity = identity_kept (identity_of s) (sequence_of s) (content_of s) s'.first s'.second taken_some (taken_keeps First) (taken_keeps Second)

  pub taken_sequence : sequence_of s' ≡ sequence_of s
  taken_sequence = sequence_kept (identity_of s) (sequence_of s) (content_of s) s'.first s'.second taken_some (taken_keeps First) (taken_keeps Second)

  pub taken_content : content_of s' ≡ content_of s
  taken_content = content_kept (identity_of s) (sequence_of s) (content_of s) s'.first s'.second taken_some (taken_keeps First) (taken_keeps Second)

  pub is_taken : s'.mended ≡ Some half → s'.lost ≡ s.lost → IsTaken half s s' copy
  is_taken mended lost = record {
    content = taken_content;
    sequence = taken_sequence;
    identity = taken_identity;
    lost = lost;
    others = there;
    taken = inl (mended, here);
  }

-- what is loaded from the half that was written anew is taken
pub taken_again : (half : Half) (s s' : Twice) (copy : LoadedCopy) (bytes : List ℕ) → IsTaken half s s' copy → IsLoaded copy → HasFile copy.store bytes → IsCopyOf (identity_of s) (sequence_of s) (content_of s) bytes → (s'.mended ≡ Some half) × IsInUse half s'
taken_again half s s' copy bytes taken loaded file is =
    ⊎_elim (λ took. (took.0, (copy, took.1))) (λ refused. absurd (refused.1 (loaded_same s copy bytes loaded file is))) taken.taken

pub taken_first : (half : Half) (s s' : Twice) (own copy : LoadedCopy) → AreAlike s → copy_at (other half) s ≡ Some own → AreSame own copy → half ≡ First → s'.first ≡ Some copy → s'.second ≡ s.second → s'.mended ≡ Some half → s'.lost ≡ s.lost → IsTaken half s s' copy
taken_first half s s' own copy alike uses same is first second mended lost =
    is_taken half s s' own copy alike uses same (subst (λ (h : Half). copy_at h s' ≡ Some copy) (sym is) first) (subst (λ (h : Half). copy_at (other h) s' ≡ copy_at (other h) s) (sym is) second) mended lost

pub taken_second : (half : Half) (s s' : Twice) (own copy : LoadedCopy) → AreAlike s → copy_at (other half) s ≡ Some own → AreSame own copy → half ≡ Second → s'.first ≡ s.first → s'.second ≡ Some copy → s'.mended ≡ Some half → s'.lost ≡ s.lost → IsTaken half s s' copy
taken_second half s s' own copy alike uses same is first second mended lost =
    is_taken half s s' own copy alike uses same (subst (λ (h : Half). copy_at h s' ≡ Some copy) (sym is) second) (subst (λ (h : Half). copy_at (other h) s' ≡ copy_at (other h) s) (sym is) first) mended lost

pub found_copy : (f : Found) (p : LoadedCopy) → copy_in f ≡ Some p → IsFound f → IsLoaded p
found_copy Empty p is found = absurd cc
found_copy NoCopy p is found = absurd cc
found_copy (Copy q) p is found = subst IsLoaded (some_is q p is) found

pub found_file : (f : Found) (p : LoadedCopy) (bytes : List ℕ) → copy_in f ≡ Some p → IsAnswer f bytes → HasFile p.store bytes
found_file Empty p bytes is answer = absurd cc
found_file NoCopy p bytes is answer = absurd cc
found_file (Copy q) p bytes is answer = subst (λ (r : LoadedCopy). HasFile r.store bytes) (some_is q p is) answer

pub nothing_found : (f : Found) (i : Identity) (n : ℕ) (x : Content) (bytes : List ℕ) → copy_in f ≡ None → IsAnswer f bytes → IsCopyOf i n x bytes → ⊥
nothing_found Empty i n x bytes none answer is = let e : 0 ≡ 75 = ap (λ (l : List ℕ). get_or l 0 0) (sym answer) ∙ copy_open i n x bytes is in omega (arith, e)
nothing_found NoCopy i n x bytes none answer is = answer.1 i n x is
nothing_found (Copy q) i n x bytes none answer is = some_none none

-- the copy that was taken is that of the file
pub taken_file : (half : Half) (s s' : Twice) (copy : LoadedCopy) (bytes : List ℕ) → copy_at half s ≡ None → IsTaken half s s' copy → HasFile copy.store bytes → (p : LoadedCopy) → copy_at half s' ≡ Some p → HasFile p.store bytes
taken_file half s s' copy bytes none taken file p is =
    ⊎_elim (λ took. subst (λ (r : LoadedCopy). HasFile r.store bytes) (some_is copy p (sym took.1 ∙ is)) file)
    (λ refused. absurd (some_none (sym is ∙ ap (λ (t : Twice). copy_at half t) refused.0 ∙ none))) taken.taken

pub unused_lost : (half : Half) (s s' : Twice) (p : LoadedCopy) → copy_at half s ≡ None → s' ≡ lost_at half s → copy_at half s' ≡ Some p → ⊥
unused_lost half s s' p none same is = some_none (sym is ∙ ap (λ (t : Twice). copy_at half t) same ∙ still half none)
  where
    still : (h : Half) → copy_at h s ≡ None → copy_at h (lost_at half s) ≡ None
    still First e = e
    still Second e = e

-- ---- a half that is read again

module _ (half : Half) (a b : Both) (la lb : ℕ → List ℕ → List ℕ → List ℕ → Type 0) (rest : BothRest a la) where
  pub rest_again : Rests (half_state half a) (half_state half b) (half_leaves half la) (half_leaves half lb) → SameDisk (other half) a b → OtherStays half a b la lb → BothRest b lb
  rest_again = by half
    where
      by : (h : Half) → Rests (half_state h a) (half_state h b) (half_leaves h la) (half_leaves h lb) → SameDisk (other h) a b → OtherStays h a b la lb → BothRest b lb
      by First rests same stays = record {
        first_rests = λ c d left. let l = rests.stop c (d, left) in rest.first_rests c l.0 l.1 ∙ sym rests.holds;
        second_rests = λ c d left. let l = stays d (c, left) in rest.second_rests l.0 d l.1 ∙ sym (ap (λ (x : Disk). x.holds) same);
      }
      by Second rests same stays = record {
        first_rests = λ c d left. let l = stays c (d, left) in rest.first_rests c l.0 l.1 ∙ sym (ap (λ (x : Disk). x.holds) same);
        second_rests = λ c d left. let l = rests.stop d (c, left) in rest.second_rests l.0 d l.1 ∙ sym rests.holds;
      }

  pub rest_pairs : ((c d out : List ℕ) → la a.moment c d out → out ≡ a.sent) → LeavesBeside half a b la lb NoMore → LeavesBoth a b la lb (λ c d out. (out ≡ a.sent) × (c ≡ a.first.holds) × (d ≡ a.second.holds))
  rest_pairs silent beside =
      pairs_weaker a b la lb (IsBeside half a la NoMore) (λ c d out. (out ≡ a.sent) × (c ≡ a.first.holds) × (d ≡ a.second.holds)) (beside_pairs a b la lb half NoMore beside) (by half)
    where
      by : (h : Half) (c d out : List ℕ) → IsBeside h a la NoMore c d out → (out ≡ a.sent) × (c ≡ a.first.holds) × (d ≡ a.second.holds)
      by First c d out p =
          ⊎_elim
          (λ l.
          let e : out ≡ a.sent = silent c l.0 out l.1 in
          (e, rest.first_rests c l.0 (subst (λ (o : List ℕ). la a.moment c l.0 o) e l.1), rest.second_rests p.0.0 d p.0.1))
          (λ no. absurd no) p.1
      by Second c d out p =
          ⊎_elim
          (λ l.
          let e : out ≡ a.sent = silent l.0 d out l.1 in
          (e, rest.first_rests c p.0.0 p.0.1, rest.second_rests l.0 d (subst (λ (o : List ℕ). la a.moment l.0 d o) e l.1)))
          (λ no. absurd no) p.1

-- ---- what no call changes

pub on_ok : {A E : Type 0} (r : Result A E) (P : Type 0) → P → OnOk r P
on_ok (Ok x) P p = p
on_ok (Err e) P p = tt

pub on_ok_then : {A E : Type 0} (r : Result A E) (P Q : Type 0) → (P → Q) → OnOk r P → OnOk r Q
on_ok_then (Ok x) P Q f p = f p
on_ok_then (Err e) P Q f p = tt

pub frame_of_halves : (a b : Both) → ((half : Half) → Frame (half_state half a) (half_state half b)) → ((half : Half) → SameNames (half_state half a) (half_state half b)) → (IsTrue a.told → b.sent ≡ a.sent) → FrameBoth a b
frame_of_halves a b frame names sent = record {
  told = (frame First).told;
  first_faults = (frame First).disk_faults;
  second_faults = (frame Second).disk_faults;
  line_faults = (frame First).line_faults;
  moment = (frame First).moment;
  first_names = λ told. names First;
  second_names = λ told. names Second;
  sent = sent;
}

pub other_other : (half : Half) → other (other half) ≡ half
other_other First = refl
other_other Second = refl

-- ---- one half in use, and the other one behind

module _ (source : Half) (s : Twice) (used : IsInUse source s) (behind : IsBehind (other source) s) where
  -- the half that is behind is the other one
  pub behind_is : (half : Half) → IsBehind half s → other source ≡ half
  behind_is = by source used
    where
      by : (h : Half) → IsInUse h s → (half : Half) → IsBehind half s → other h ≡ half
      by First own First none = absurd (some_none (sym own.1 ∙ none.0))
      by First own Second none = refl
      by Second own First none = refl
      by Second own Second none = absurd (some_none (sym own.1 ∙ none.0))

  -- no call failed on the half in use
  source_fine : (a b : Both) → SameFaultsAt source a b → (half : Half) → IsInUse half s → SameFaultsAt half a b
  source_fine a b fine = by source behind.0 fine
    where
      by : (h : Half) → copy_at (other h) s ≡ None → SameFaultsAt h a b → (half : Half) → IsInUse half s → SameFaultsAt half a b
      by First none fine First own = fine
      by First none fine Second own = absurd (some_none (sym own.1 ∙ none))
      by Second none fine First own = absurd (some_none (sym own.1 ∙ none))
      by Second none fine Second own = fine

  pub copying_fine : (a b : Both) → SameFaultsAt source a b → b.line_faults ≡ a.line_faults → FineMending s a b
  copying_fine a b fine line = record { spared = source_fine a b fine; line = inl line }

  pub mending_fine : (a b e : Both) → SameFaultsAt source a b → SameFaultsAt (other source) a b → b.line_faults ≡ a.line_faults → SameDisk source b e → (e.line_faults ≡ b.line_faults) ⊎ RoseAt (other source) b e → FineMending s a e
  mending_fine a b e fine also line same later = record {
    spared = source_fine a e (ap (λ (d : Disk). d.disk_faults) same ∙ fine);
    line = ⊎_elim (λ l. inl (l ∙ line)) (λ rose. inr (other source, behind, subst (λ (n : ℕ). Rose n (disk_of (other source) e).disk_faults) also rose)) later;
  }

  module _ (s' : Twice) (a b e : Both) (result : Result Unit DeviceError) (takes : TakesAfter (other source) s s' b e result) where
    pub source_stays : copy_at source s' ≡ copy_at source s
    source_stays = subst (λ (h : Half). copy_at h s' ≡ copy_at h s) (other_other source) takes.others

    pub after_mended : (s'.mended ≡ Some (other source)) × IsInUse (other source) s' ⊎ (s'.lost ≡ Some (other source)) → (half : Half) → IsBehind half s → (s'.mended ≡ Some half) × IsInUse half s' ⊎ (s'.lost ≡ Some half)
    after_mended found half is = subst (λ (h : Half). (s'.mended ≡ Some h) × IsInUse h s' ⊎ (s'.lost ≡ Some h)) (behind_is half is) found

  -- ---- where the twin tells

  module _ (a b : Both) (la lb : ℕ → List ℕ → List ℕ → List ℕ → Type 0) (alike : AreAlike s) (kept : IsKeptTwice s a la) (now : la a.moment a.first.holds a.second.holds a.sent) (sent : b.sent ≡ a.sent) (same : (disk_of source b).holds ≡ (disk_of source a).holds)
      (leaves : LeavesHalf (other source) (disk_of source a).holds (IsMending (disk_of source a).holds (disk_of (other source) a).holds) a b la lb) where
    source_is : IsCopyOf (identity_of s) (sequence_of s) (content_of s) (disk_of source a).holds
    source_is = holds_copy source s a la alike kept now used.0 used.1

    still_is : IsCopyOf (identity_of s) (sequence_of s) (content_of s) (disk_of source b).holds
    still_is = subst (λ (l : List ℕ). IsCopyOf (identity_of s) (sequence_of s) (content_of s) l) (sym same) source_is

    source_has : HasFile used.0.store (disk_of source b).holds
    source_has = subst (λ (l : List ℕ). HasFile used.0.store l) (sym same) (has_file source s a la kept now used.0 used.1)

    target_behind : StaysBehind (other source) (identity_of s) (sequence_of s) (content_of s) (disk_of (other source) a).holds
    target_behind = holds_behind (other source) s a la kept now behind.0

    pub copying_pairs : LeavesBoth a b la lb (IsMendingOne s a.sent)
    copying_pairs = mending_pairs source s a b la lb behind.0 source_is target_behind leaves

    -- where a call on the half that is behind failed
    pub kept_lost : EachRests a la → ((t u : ℕ) (c d out : List ℕ) → t ≤ u → lb u c d out → lb t c d out) → HalfRests source b lb → (l : Option Half) → IsKeptTwice (record { first = s.first; second = s.second; mended = s.mended; lost = l }) b lb
    kept_lost rest earlier rests l = again (kept_by source s b lb used.0 used.1 source_has sides)
      where
        sides : (c d : List ℕ) → lb b.moment c d b.sent → (file_of source c d ≡ (disk_of source b).holds) × SideRests (other source) (identity_of s) (sequence_of s) (content_of s) (copy_at (other source) s) (disk_of (other source) b).holds (file_of (other source) c d)
        sides c d left = (
          rest_file source b lb rests c d left,
          subst (λ (o : Option LoadedCopy). SideRests (other source) (identity_of s) (sequence_of s) (content_of s) o (disk_of (other source) b).holds (file_of (other source) c d)) (sym behind.0)
              (mending_behind (identity_of s) (sequence_of s) (content_of s) (other source) (disk_of source a).holds (disk_of (other source) a).holds (file_of (other source) c d) source_is target_behind (mending_images source a b la lb rest earlier sent leaves c d left)),
        )

        again : IsKeptTwice s b lb → IsKeptTwice (record { first = s.first; second = s.second; mended = s.mended; lost = l }) b lb
        again is = record { first_rests = is.first_rests; second_rests = is.second_rests }

    module _ (begins : BeginsWith (disk_of source a).holds (disk_of (other source) b).holds) where
      -- the half that was behind has the same copy
      pub target_is : IsCopyOf (identity_of s) (sequence_of s) (content_of s) (disk_of (other source) b).holds
      target_is = copied (identity_of s) (sequence_of s) (content_of s) (disk_of source a).holds (disk_of (other source) b).holds source_is begins

      module _ (e : Both) (le : ℕ → List ℕ → List ℕ → List ℕ → Type 0) where
        pub mended_pairs : LeavesBoth b e lb le (λ c d out. (out ≡ b.sent) × (c ≡ b.first.holds) × (d ≡ b.second.holds)) → LeavesBoth a e la le (IsMendingOne s a.sent)
        mended_pairs then_left =
            pairs_then a b la lb e le (IsMendingOne s a.sent) copying_pairs
            (pairs_weaker b e lb le (λ c d out. (out ≡ b.sent) × (c ≡ b.first.holds) × (d ≡ b.second.holds)) (IsMendingOne s a.sent) then_left
            (λ c d out p. rest_mending source s b a.sent c d out behind.0 sent still_is (copy_behind (identity_of s) (sequence_of s) (content_of s) (other source) (disk_of (other source) b).holds target_is) p))

        pub kept_mended : (s' : Twice) (result : Result Unit DeviceError) → TakesAfter (other source) s s' b e result → BothRest e le → disk_of (other (other source)) e ≡ disk_of (other (other source)) b → (disk_of (other source) e).holds ≡ (disk_of (other source) b).holds
            → ((q : LoadedCopy) → copy_at (other source) s' ≡ Some q → HasFile q.store (disk_of (other source) b).holds) → IsKeptTwice s' e le
        kept_mended s' result takes rest same_source same_target has =
            kept_by source s' e le used.0 (source_stays s' a b e result takes ∙ used.1) (subst (λ (l : List ℕ). HasFile used.0.store l) (sym source_same) source_has)
            (λ c d left. (
              rest_file source e le (each_rests e le rest source) c d left,
              side_rests (identity_of s') (sequence_of s') (content_of s') (other source) (copy_at (other source) s') (disk_of (other source) e).holds (file_of (other source) c d) (rest_file (other source) e le (each_rests e le rest (other source)) c d left)
                  (λ q is. subst (λ (l : List ℕ). HasFile q.store l) (sym same_target) (has q is))
                  (copy_as (identity_of s) (identity_of s') (sequence_of s) (sequence_of s') (content_of s) (content_of s') (disk_of (other source) e).holds takes.identity takes.sequence takes.content
                  (subst (λ (l : List ℕ). IsCopyOf (identity_of s) (sequence_of s) (content_of s) l) (sym same_target) target_is)),
            ))
          where
            source_same : (disk_of source e).holds ≡ (disk_of source b).holds
            source_same = ap (λ (x : Disk). x.holds) (subst (λ (h : Half). disk_of h e ≡ disk_of h b) (other_other source) same_source)
