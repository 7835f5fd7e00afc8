-- Laws: two copies as what keeps a content.
use Rattle.std.specs.Prelude.{◌≡◌, ◌≤◌, ◌↔◌, ℕ, zero, suc, ◌+◌, ◌-◌, ◌^◌, min, Bool, true, false, ◌&&◌, cond, nat_le, List, [], ◌∷◌, ◌++◌, length, take, drop, Option, Some, None}
use Rattle.std.proofs.Common.{inl, inr, ⊎_elim, refl, sym, ap, subst, ◌∙◌, arith}
use Rattle.std.proofs.Math.Seq.{take-append_seam, drop-append_seam}
use Rattle.std.proofs.lemmas.Bool.{leb-true, leb-false, le-leb, cases_Bool}
use Rattle.kd_base.specs.ToolsLaws.{both_true, true_both}
use Rattle.kd_device.specs.Device.{Rose}
use Rattle.kd_records.specs.Identity.{Identity}
use Rattle.kd_records.specs.declared.content.Content.{Content}
use Rattle.kd_records.specs.declared.content.Patch.{Patch}
use Rattle.kd_device.specs.HalfLaws.{earlier_half}
use Rattle.kd_device.specs.Twin.{Both, disk_of, half_leaves}
use Rattle.kd_device.specs.declared.half.Half.{Half}
use Rattle.kd_device.specs.declared.half.Half.TheVariants.{First, Second}
use Rattle.kdcfile_copies.specs.Copies.{IsChosen, IsCopyOf}
use Rattle.kdcfile_copies.specs.declared.answer.LoadedCopy.{LoadedCopy}
use Rattle.device_acts.specs.Acting.{JoinsParts, IsKeptBy}
use Rattle.kdcfile_double.specs.ChosenLaws.{IsSomeOf, both_chosen, kept_copy, second_chosen}
use Rattle.kdcfile_double.specs.CommitLaws.{open_some}
use Rattle.kdcfile_double.specs.MendLaws.{kept_at}
use Rattle.kdcfile_double.specs.Twice.{FineTwice, IsInUse, IsKeptTwice, IsOpen, IsTwice, KeepsIf, RoseAt, SameFaultsAt, SideRests, Twice, content_of, identity_of, sequence_of}
use Rattle.twin_run.specs.Images.{OfImage, alone_image, pair_image}
use Rattle.twin_run.specs.Keeping.{CopiesSince, IsFineSince, IsSpared, RestBoth, RestsAlone, StaysFine, failures, faults_kept, file_kept}
use Rattle.twin_run.specs.Keeping.{is_gone, leaves_kept, one_more, stands_kept, state_kept}

-- ---- images

-- what holds of each image of both files, and of each of one of them by itself
pub of_image : (X : List ℕ → Type 0) (P : List ℕ → List ℕ → Type 0) (A : Half → List ℕ → Type 0) → ((n : ℕ) (bytes : List ℕ) → P (take n bytes) (drop n bytes) → X (0 ∷ n ∷ bytes)) → ((bytes : List ℕ) → A First bytes → X (1 ∷ bytes)) → ((n : ℕ) (bytes : List ℕ) → A Second bytes → X (suc (suc n) ∷ bytes)) → (image : List ℕ) → OfImage P A image → X image
of_image X P A pair first second [] h = absurd h
of_image X P A pair first second (zero ∷ []) h = absurd h
of_image X P A pair first second (zero ∷ n ∷ bytes) h = pair n bytes h
of_image X P A pair first second (suc zero ∷ bytes) h = first bytes h
of_image X P A pair first second (suc (suc n) ∷ bytes) h = second n bytes h

module _ (P : List ℕ → List ℕ → Type 0) (A : Half → List ℕ → Type 0) where
  -- a fact that follows
  pub image_weaker : (Q : List ℕ → List ℕ → Type 0) (B : Half → List ℕ → Type 0) → ((c d : List ℕ) → P c d → Q c d) → ((half : Half) (c : List ℕ) → A half c → B half c) → (image : List ℕ) → OfImage P A image → OfImage Q B image
  image_weaker Q B pair alone =
      of_image (λ image. OfImage Q B image) P A
      (λ n bytes h. pair (take n bytes) (drop n bytes) h) (λ bytes h. alone First bytes h) (λ n bytes h. alone Second bytes h)

  -- a fact that speaks of no image
  pub image_gives : (X : Type 0) → ((c d : List ℕ) → P c d → X) → ((half : Half) (c : List ℕ) → A half c → X) → (image : List ℕ) → OfImage P A image → X
  image_gives X pair alone =
      of_image (λ image. X) P A
      (λ n bytes h. pair (take n bytes) (drop n bytes) h) (λ bytes h. alone First bytes h) (λ n bytes h. alone Second bytes h)

  -- what the image of two files says of them
  pub pair_decodes : (c d : List ℕ) → OfImage P A (pair_image c d) ↔ P c d
  pair_decodes c d =
      let front = take-append_seam c d in
      let rest = drop-append_seam c d in (
        λ h. subst (λ (x : List ℕ). P x d) front (subst (λ (y : List ℕ). P (take (length c) (c ++ d)) y) rest h),
        λ h. subst (λ (y : List ℕ). P (take (length c) (c ++ d)) y) (sym rest) (subst (λ (x : List ℕ). P x d) (sym front) h),
      )

  pub alone_decodes : (half : Half) (c : List ℕ) → OfImage P A (alone_image half c) ↔ A half c
  alone_decodes First c = (λ h. h, λ h. h)
  alone_decodes Second c = (λ h. h, λ h. h)

-- ---- which copy counts

chosen_by : (i : Identity) (n : ℕ) (x : Content) (p q : Option LoadedCopy) (a b c d : List ℕ) → IsSomeOf p q → KeepsIf i n x p → KeepsIf i n x q → SideRests First i n x p a c → SideRests Second i n x q b d → IsChosen i n x c d
chosen_by i n x (Some p) (Some q) a b c d some keeps too rests stays = both_chosen i n x c d (kept_copy i n x p c keeps rests.1) (kept_copy i n x q d too stays.1)
chosen_by i n x (Some p) None a b c d some keeps too rests stays = inl (kept_copy i n x p c keeps rests.1, stays)
chosen_by i n x None (Some q) a b c d some keeps too rests stays = second_chosen i n x c d (kept_copy i n x q d too stays.1) rests
chosen_by i n x None None a b c d some keeps too rests stays = absurd some

module _ (s : Twice) (b : Both) (twice : IsTwice s) where
  pub pair_stands : IsOpen s → (c d : List ℕ) → RestBoth s b c d → IsChosen (identity_of s) (sequence_of s) (content_of s) c d
  pair_stands is c d rest = chosen_by (identity_of s) (sequence_of s) (content_of s) s.first s.second b.first.holds b.second.holds c d (open_some s is) twice.alike.first_keeps twice.alike.second_keeps rest.first_rests rest.second_rests

  pub alone_stands : (half : Half) (c : List ℕ) → RestsAlone half s b c → IsCopyOf (identity_of s) (sequence_of s) (content_of s) c
  alone_stands half c h =
      let p = h.used.0 in
      let rests = subst (λ (o : Option LoadedCopy). SideRests half (identity_of s) (sequence_of s) (content_of s) o (disk_of half b).holds c) h.used.1 h.rests in
      kept_copy (identity_of s) (sequence_of s) (content_of s) p c (kept_at half s twice.alike p h.used.1) rests.1

  module _ (i : Identity) (made : identity_of s ≡ one_more i) (is : IsOpen s) where
    pub rest_stands : (image : List ℕ) → OfImage (RestBoth s b) (λ half c. RestsAlone half s b c) image → stands_kept i (content_of s) image
    rest_stands =
        image_weaker (RestBoth s b) (λ half c. RestsAlone half s b c) (λ c d. (n : ℕ) × IsChosen (one_more i) n (content_of s) c d) (λ half c. (n : ℕ) × IsCopyOf (one_more i) n (content_of s) c)
        (λ c d h. (sequence_of s, subst (λ (j : Identity). IsChosen j (sequence_of s) (content_of s) c d) made (pair_stands is c d h)))
        (λ half c h. (sequence_of s, subst (λ (j : Identity). IsCopyOf j (sequence_of s) (content_of s) c) made (alone_stands half c h)))

pub chosen_stands : (i : Identity) (s : Twice) (b : Both) (image : List ℕ) → file_kept i s b image → stands_kept i (content_of s) image
chosen_stands i s b image file = rest_stands s b file.0 i file.2 file.1 image file.3

-- ---- the laws of what keeps a content

pub goes_fine : (s0 : Twice) (b0 : Both) → JoinsParts (StaysFine s0 b0)
goes_fine s0 b0 = record { none = λ a fine. fine; after = λ a b d h k fine. k (h fine) }

module _ (s0 : Twice) (b0 b : Both) where
  faults_at : (half : Half) → faults_kept half (state_kept s0 b0 b) ≡ (disk_of half b).disk_faults
  faults_at First = refl
  faults_at Second = refl

  pub fine_since : FineTwice s0 b0 b → IsFineSince s0 b0 (state_kept s0 b0 b)
  fine_since h = record {
    spared = (h.spared.0, h.spared.1, faults_at h.spared.0 ∙ h.spared.2);
    line = ⊎_elim (λ same. inl same) (λ rose. inr (rose.0, rose.1, subst (λ (n : ℕ). Rose (disk_of rose.0 b0).disk_faults n) (sym (faults_at rose.0)) rose.2)) h.line;
  }

  pub since_fine : IsFineSince s0 b0 (state_kept s0 b0 b) → FineTwice s0 b0 b
  since_fine h = record {
    spared = (h.spared.0, h.spared.1, sym (faults_at h.spared.0) ∙ h.spared.2);
    line = ⊎_elim (λ same. inl same) (λ rose. inr (rose.0, rose.1, subst (λ (n : ℕ). Rose (disk_of rose.0 b0).disk_faults n) (faults_at rose.0) rose.2)) h.line;
  }

pub none_written : (i : Identity) (x : Content) (patch : Patch) → 0 ≤ 0
none_written i x patch = omega arith

module _ (s0 : Twice) (b0 b : Both) (leaves : ℕ → List ℕ → List ℕ → List ℕ → Type 0) where
  -- the image of both files as they are
  pub left_kept : leaves b.moment b.first.holds b.second.holds b.sent → (image : List ℕ) × leaves_kept s0 b0 b leaves b.moment image b.sent
  left_kept now = (pair_image b.first.holds b.second.holds, (pair_decodes (λ c d. leaves b.moment c d b.sent) (λ half c. IsSpared half s0 b0 b × half_leaves half leaves b.moment c b.sent) b.first.holds b.second.holds).1 now)

  half_sent : (half : Half) (t : ℕ) (c out : List ℕ) → ((c d : List ℕ) → leaves t c d out → out ≡ b.sent) → half_leaves half leaves t c out → out ≡ b.sent
  half_sent First t c out sent h = sent c h.0 h.1
  half_sent Second t c out sent h = sent h.0 c h.1

  pub sent_kept : ((c d out : List ℕ) → leaves b.moment c d out → out ≡ b.sent) → (image out : List ℕ) → leaves_kept s0 b0 b leaves b.moment image out → out ≡ b.sent
  sent_kept sent image out =
      image_gives (λ c d. leaves b.moment c d out) (λ half c. IsSpared half s0 b0 b × half_leaves half leaves b.moment c out) (out ≡ b.sent)
      (λ c d h. sent c d out h) (λ half c h. half_sent half b.moment c out (λ x y l. sent x y out l) h.1) image

  pub earlier_kept : ((t u : ℕ) (c d out : List ℕ) → t ≤ u → leaves u c d out → leaves t c d out) → (t u : ℕ) (image out : List ℕ) → t ≤ u → leaves_kept s0 b0 b leaves u image out → leaves_kept s0 b0 b leaves t image out
  earlier_kept earlier t u image out le =
      image_weaker (λ c d. leaves u c d out) (λ half c. IsSpared half s0 b0 b × half_leaves half leaves u c out) (λ c d. leaves t c d out) (λ half c. IsSpared half s0 b0 b × half_leaves half leaves t c out)
      (λ c d h. earlier t u c d out le h) (λ half c h. (h.0, (h.1.0, earlier_half half leaves earlier h.1.0 t u c out le h.1.1))) image

-- ---- counts of faults

gone_rose : (o : Option LoadedCopy) (before now : ℕ) → is_gone o before now ≡ true → (p : LoadedCopy) → o ≡ Some p → Rose before now
gone_rose None before now gone p is = absurd cc
gone_rose (Some q) before now gone p is = leb-true (min (before + 1) (2 ^ 64 - 1)) now gone

rose_gone : (o : Option LoadedCopy) (before now : ℕ) → ((p : LoadedCopy) → o ≡ Some p → Rose before now) → is_gone o before now ≡ true
rose_gone None before now rose = refl
rose_gone (Some p) before now rose = le-leb (min (before + 1) (2 ^ 64 - 1)) now (rose p refl)

at_end : (gone : Bool) (m : ℕ) → Rose m (cond gone (2 ^ 64 - 1) 0) → gone ≡ true
at_end true m rose = refl
at_end false m rose = absurd (omega (arith, rose))

module _ (s0 : Twice) (b0 : Both) where
  abbrev are_gone : Both → Bool
  are_gone b = is_gone s0.first b0.first.disk_faults b.first.disk_faults && is_gone s0.second b0.second.disk_faults b.second.disk_faults

  gone_all : (b : Both) → are_gone b ≡ true → (half : Half) → IsInUse half s0 → RoseAt half b0 b
  gone_all b gone First used = gone_rose s0.first b0.first.disk_faults b.first.disk_faults (both_true (is_gone s0.first b0.first.disk_faults b.first.disk_faults) (is_gone s0.second b0.second.disk_faults b.second.disk_faults) gone).0 used.0 used.1
  gone_all b gone Second used = gone_rose s0.second b0.second.disk_faults b.second.disk_faults (both_true (is_gone s0.first b0.first.disk_faults b.first.disk_faults) (is_gone s0.second b0.second.disk_faults b.second.disk_faults) gone).1 used.0 used.1

  all_gone_is : (b : Both) → ((half : Half) → IsInUse half s0 → RoseAt half b0 b) → are_gone b ≡ true
  all_gone_is b rose =
      true_both (is_gone s0.first b0.first.disk_faults b.first.disk_faults) (is_gone s0.second b0.second.disk_faults b.second.disk_faults)
      (rose_gone s0.first b0.first.disk_faults b.first.disk_faults (λ p is. rose First (p, is))) (rose_gone s0.second b0.second.disk_faults b.second.disk_faults (λ p is. rose Second (p, is)))

  -- the count rose: a call failed on each half that was in use
  pub all_gone : (a b : Both) → Rose (failures s0 b0 a) (failures s0 b0 b) → (half : Half) → IsInUse half s0 → RoseAt half b0 b
  all_gone a b rose = gone_all b (at_end (are_gone b) (failures s0 b0 a) rose)

  -- and the other way round
  pub all_failed : (a b : Both) → ((half : Half) → IsInUse half s0 → RoseAt half b0 b) → Rose (failures s0 b0 a) (failures s0 b0 b)
  all_failed a b rose =
      let at : failures s0 b0 b ≡ 2 ^ 64 - 1 = ap (λ (gone : Bool). cond gone (2 ^ 64 - 1) 0) (all_gone_is b rose) in
      omega (arith, at)

  up : (b : Both) (gone : Bool) → (gone ≡ true → are_gone b ≡ true) → cond gone (2 ^ 64 - 1) 0 ≤ failures s0 b0 b
  up b true stays = let at : failures s0 b0 b ≡ 2 ^ 64 - 1 = ap (λ (gone : Bool). cond gone (2 ^ 64 - 1) 0) (stays refl) in omega (arith, at)
  up b false stays = omega arith

  pub failures_rise : (a b : Both) → ((half : Half) → (disk_of half a).disk_faults ≤ (disk_of half b).disk_faults) → failures s0 b0 a ≤ failures s0 b0 b
  failures_rise a b rise = up b (are_gone a) (λ gone. all_gone_is b (λ half used. later half (gone_all a gone half used)))
    where
      later : (half : Half) → RoseAt half b0 a → RoseAt half b0 b
      later half rose = let more = rise half in omega (arith, rose, more)

-- ---- a half on which no call failed

pub not_rose : (m n : ℕ) → (Rose m n → ⊥) → n ≤ m
not_rose m n none =
    elim (cases_Bool (nat_le (min (m + 1) (2 ^ 64 - 1)) n)) [
      | inl h ↦ absurd (none (leb-true (min (m + 1) (2 ^ 64 - 1)) n h))
      | inr h ↦ omega (arith, leb-false (min (m + 1) (2 ^ 64 - 1)) n h)
    ]

module _ (half : Half) (s0 : Twice) (b0 a b : Both) where
  pub spared_before : (disk_of half a).disk_faults ≤ (disk_of half b).disk_faults → IsSpared half s0 b0 b → IsSpared half s0 b0 a
  spared_before le h = record { used = h.used; whole = λ rose. h.whole (omega (arith, rose, le)) }

  pub spared_same : (disk_of half b0).disk_faults ≤ (disk_of half a).disk_faults → (disk_of half a).disk_faults ≤ (disk_of half b).disk_faults → IsSpared half s0 b0 b → SameFaultsAt half a b
  spared_same before le h = omega (arith, before, le, not_rose (disk_of half b0).disk_faults (disk_of half b).disk_faults h.whole)

pub spared_uses : (half : Half) (s0 : Twice) (b0 b : Both) (i : Identity) (s : Twice) → CopiesSince s0 b0 b i s → IsSpared half s0 b0 b → IsInUse half s
spared_uses half s0 b0 b i s since h = ⊎_elim (λ used. used) (λ gone. absurd (h.whole gone.1)) (since.unused half h.used)

-- ---- the images of copies, and what a stop leaves of both

module _ (i : Identity) (s0 : Twice) (b0 b : Both) (s : Twice) (leaves : ℕ → List ℕ → List ℕ → List ℕ → Type 0) where
  pub kept_both : IsKeptBy (file_kept i s b) (state_kept s0 b0 b) (leaves_kept s0 b0 b leaves) → IsKeptTwice s b leaves
  kept_both kept = record { first_rests = λ c d left. (rests c d left).first_rests; second_rests = λ c d left. (rests c d left).second_rests }
    where
      rests : (c d : List ℕ) → leaves b.moment c d b.sent → RestBoth s b c d
      rests c d left =
          (pair_decodes (RestBoth s b) (λ half e. RestsAlone half s b e) c d).0
          (kept (pair_image c d) ((pair_decodes (λ x y. leaves b.moment x y b.sent) (λ half e. IsSpared half s0 b0 b × half_leaves half leaves b.moment e b.sent) c d).1 left)).3

  pub kept_images : IsTwice s → CopiesSince s0 b0 b i s → IsKeptTwice s b leaves → IsKeptBy (file_kept i s b) (state_kept s0 b0 b) (leaves_kept s0 b0 b leaves)
  kept_images twice since kept image left = (
    twice,
    since.is_open,
    since.identity,
    image_weaker (λ c d. leaves b.moment c d b.sent) (λ half c. IsSpared half s0 b0 b × half_leaves half leaves b.moment c b.sent) (RestBoth s b) (λ half c. RestsAlone half s b c)
        (λ c d l. record { first_rests = kept.first_rests c d l; second_rests = kept.second_rests c d l }) (λ half c h. alone half c h.0 h.1) image left,
  )
    where
      alone : (half : Half) (c : List ℕ) → IsSpared half s0 b0 b → half_leaves half leaves b.moment c b.sent → RestsAlone half s b c
      alone First c spared l = record { used = spared_uses First s0 b0 b i s since spared; rests = kept.first_rests c l.0 l.1 }
      alone Second c spared l = record { used = spared_uses Second s0 b0 b i s since spared; rests = kept.second_rests l.0 c l.1 }
