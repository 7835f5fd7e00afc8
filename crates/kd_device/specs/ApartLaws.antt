-- Laws: calls on one half of a twin and on its line leave the other half as it was.
use Rattle.std.specs.Prelude.{◌≡◌, ◌≤◌, ℕ, List, IsTrue, Result, refl}
use Rattle.std.proofs.Common.{inl, inr, ⊎_elim, ◌∙◌, arith, sym, subst}
use Rattle.kd_device.specs.Device.{Quiet, Writes, Emits}
use Rattle.kd_device.specs.declared.half.Half.{Half}
use Rattle.kd_device.specs.Twin.{Both, other, disk_of, half_state, slice, half_leaves}
use Rattle.kd_device.specs.Apart.{SentAt, EarlierAt, SentNow, Earlier, Parted, Apart, IsSince}
use Rattle.kd_device.specs.HalfLaws.{slice_other, slice_back, sent_half, earlier_half}

-- what may be left of a half now, beside the image of the other one
other_now : (half : Half) (a : Both) (la : ℕ → List ℕ → List ℕ → List ℕ → Type 0) → SentNow half a la → (d c out : List ℕ) → slice half d la a.moment c out → half_leaves (other half) la a.moment d a.sent
other_now half a la sent d c out left = (c, slice_other half la d a.moment c a.sent (subst (λ (o : List ℕ). slice half d la a.moment c o) (sent d c out left) left))

module _ (half : Half) (a b : Both) (la lb : ℕ → List ℕ → List ℕ → List ℕ → Type 0) where
  -- some calls after others
  pub apart_then : (e : Both) (le : ℕ → List ℕ → List ℕ → List ℕ → Type 0) → (IsTrue a.told → Earlier half lb) → (IsTrue a.told → Earlier half le) → Apart half a b la lb → Apart half b e lb le → Apart half a e la le
  apart_then e le earlier_b earlier_e h k =
      let told_b : IsTrue a.told → IsTrue b.told = λ told. subst IsTrue (sym h.told) told in
      record {
        told = k.told ∙ h.told;
        later = omega (arith, h.later, k.later);
        disk = k.disk ∙ h.disk;
        parted = λ told d t c out at left.
            ⊎_elim
            (λ l. ⊎_elim (λ p. inl p) (λ s. inr (k.keeps (told_b told) d a.moment c out h.later s)) (h.parted told d t c out at l))
            (λ s. inr (earlier_e told d a.moment b.moment c out h.later s))
            (k.parted (told_b told) d t c out (omega (arith, at, h.later)) left);
        keeps = λ told d t c out at left. k.keeps (told_b told) d t c out (omega (arith, at, h.later)) (h.keeps told d t c out at left);
        others = λ told d c out left.
            ⊎_elim
            (λ l. h.others told d c out l)
            (λ s. let o = k.others (told_b told) d c out s in h.others told d o.0 b.sent (earlier_b told d a.moment b.moment o.0 b.sent h.later (slice_back half lb d b.moment o.0 b.sent o.1)))
            (k.parted (told_b told) d a.moment c out h.later left);
      }

  -- one call, whose clauses hold for each image of the other half
  module _ (later : a.moment ≤ b.moment) (told_is : b.told ≡ a.told) (disk_is : disk_of (other half) b ≡ disk_of (other half) a) (sent_a : IsTrue a.told → SentNow half a la) (earlier_b : IsTrue a.told → Earlier half lb) where
    -- a stop at the end of the call is one since its beginning
    at_end : IsTrue a.told → (d c out : List ℕ) → (out ≡ b.sent) × slice half d lb b.moment c b.sent → slice half d lb a.moment c out
    at_end told d c out now = subst (λ (o : List ℕ). slice half d lb a.moment c o) (sym now.0) (earlier_b told d a.moment b.moment c b.sent later now.1)

    pub quiet_apart : (IsTrue a.told → (d : List ℕ) → Quiet (half_state half a) (half_state half b) (slice half d la) (slice half d lb)) → Apart half a b la lb
    quiet_apart q = record {
      told = told_is;
      later = later;
      disk = disk_is;
      parted = λ told d t c out at left. ⊎_elim (λ l. inl l) (λ now. inr (at_end told d c out now)) ((q told d).time.only t c out at left);
      keeps = λ told d t c out at left. (q told d).keeps t c out at left;
      others = λ told d c out left. ⊎_elim (λ l. other_now half a la (sent_a told) d c out l) (λ now. other_now half a la (sent_a told) d c a.sent ((q told d).stop c now.1)) ((q told d).time.only a.moment c out (omega arith) left);
    }

    pub writes_apart : {E : Type 0} (at : ℕ) (bytes : List ℕ) (result : Result Unit E) → (IsTrue a.told → (d : List ℕ) → Writes at bytes (half_state half a) (half_state half b) (slice half d la) (slice half d lb) result) → Apart half a b la lb
    writes_apart at bytes result w = record {
      told = told_is;
      later = later;
      disk = disk_is;
      parted = λ told d t c out at left. ⊎_elim (λ l. inl l) (λ now. inr (at_end told d c out now)) ((w told d).time.only t c out at left);
      keeps = λ told d t c out at left. (w told d).keeps t c out at left;
      others = λ told d c out left. ⊎_elim (λ l. other_now half a la (sent_a told) d c out l) (λ now. let was = (w told d).stop c now.1 in other_now half a la (sent_a told) d was.0 a.sent was.1) ((w told d).time.only a.moment c out (omega arith) left);
    }

    pub emits_apart : {E : Type 0} (piece : List ℕ) (result : Result Unit E) → (IsTrue a.told → Parted half a.moment la lb) → (IsTrue a.told → (d : List ℕ) → Emits piece (half_state half a) (half_state half b) (slice half d la) (slice half d lb) result) → Apart half a b la lb
    emits_apart piece result parted e = record {
      told = told_is;
      later = later;
      disk = disk_is;
      parted = parted;
      keeps = λ told d t c out at left. (e told d).keeps t c out at left;
      others = λ told d c out left. ⊎_elim (λ l. other_now half a la (sent_a told) d c out l) (λ sending. other_now half a la (sent_a told) d c a.sent sending.image) ((e told d).time.only a.moment c out (omega arith) left);
    }

-- a twin as it is now is an origin
pub since_now : (b : Both) (l : ℕ → List ℕ → List ℕ → List ℕ → Type 0) → SentAt b l → EarlierAt b l → (half : Half) (place : ℕ) → IsSince half place place b b l l
since_now b l sent earlier half place =
    let sent_is : IsTrue b.told → SentNow half b l = λ told. sent_half half b l (λ c d out. sent c d out told) in
    record {
      same_place = refl;
      apart = record {
        told = refl;
        later = omega arith;
        disk = refl;
        parted = λ told d t c out le left. inl left;
        keeps = λ told d t c out le left. left;
        others = λ told d c out left. other_now half b l (sent_is told) d c out left;
      };
      sent_then = sent_is;
      earlier_then = λ told. earlier_half half l (λ t u c d out. earlier t u c d out told);
    }

-- a half in use since an origin, after one call more
pub since_then : (half : Half) (place0 place place' : ℕ) (b0 b b' : Both) (l0 l l' : ℕ → List ℕ → List ℕ → List ℕ → Type 0) → (IsTrue b0.told → Earlier half l) → (IsTrue b0.told → Earlier half l')
    → IsSince half place0 place b0 b l0 l → place' ≡ place → Apart half b b' l l' → IsSince half place0 place' b0 b' l0 l'
since_then half place0 place place' b0 b b' l0 l l' earlier earlier' h same k = record {
  same_place = same ∙ h.same_place;
  apart = apart_then half b0 b l0 l b' l' earlier earlier' h.apart k;
  sent_then = h.sent_then;
  earlier_then = h.earlier_then;
}
