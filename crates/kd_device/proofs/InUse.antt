-- A half in use, after one call more.
use Rattle.std.proofs.Common.{◌≡◌, ℕ, List, Result, sym, subst}
use Rattle.std.specs.Prelude.{IsTrue}
use Rattle.kd_device.specs.Device.{Frame, Quiet, Writes, Emits}
use Rattle.kd_device.specs.declared.half.Half.{Half}
use Rattle.kd_device.specs.Twin.{Both, other, disk_of, half_state, slice}
use Rattle.kd_device.specs.Apart.{SentAt, EarlierAt, SentNow, Earlier, Parted, Apart, IsSince}
use Rattle.kd_device.specs.HalfLaws.{sent_half, earlier_half}
use Rattle.kd_device.specs.ApartLaws.{quiet_apart, writes_apart, emits_apart, since_then}

sent_is : (half : Half) (b : Both) (l : ℕ → List ℕ → List ℕ → List ℕ → Type 0) → SentAt b l → IsTrue b.told → SentNow half b l
sent_is half b l sent told = sent_half half b l (λ c d out. sent c d out told)

earlier_is : (half : Half) (b : Both) (l : ℕ → List ℕ → List ℕ → List ℕ → Type 0) → EarlierAt b l → IsTrue b.told → Earlier half l
earlier_is half b l earlier told = earlier_half half l (λ t u c d out. earlier t u c d out told)

module _ {half0 half : Half} {place0 place place' : ℕ} {b0 b b' : Both} {l0 l l' : ℕ → List ℕ → List ℕ → List ℕ → Type 0} (is : half ≡ half0) (since : IsSince half0 place0 place b0 b l0 l) (sent : SentAt b l) (earlier : EarlierAt b l) (earlier' : EarlierAt b' l') (same : place' ≡ place) (frame : Frame (half_state half b) (half_state half b')) (disk : disk_of (other half) b' ≡ disk_of (other half) b) where
  after : Apart half b b' l l' → IsSince half0 place0 place' b0 b' l0 l'
  after k =
      let told_b : IsTrue b0.told → IsTrue b.told = λ told. subst IsTrue (sym since.apart.told) told in
      since_then half0 place0 place place' b0 b b' l0 l l'
      (λ told. earlier_is half0 b l earlier (told_b told))
      (λ told. earlier_is half0 b' l' earlier' (subst IsTrue (sym frame.told) (told_b told)))
      since same (subst (λ (h : Half). Apart h b b' l l') is k)

  pub quiet : (IsTrue b.told → (d : List ℕ) → Quiet (half_state half b) (half_state half b') (slice half d l) (slice half d l')) → IsSince half0 place0 place' b0 b' l0 l'
  quiet q = after (quiet_apart half b b' l l' frame.moment frame.told disk (sent_is half b l sent) (λ told. earlier_is half b' l' earlier' (subst IsTrue (sym frame.told) told)) q)

  pub writes : {E : Type 0} (at : ℕ) (bytes : List ℕ) (result : Result Unit E) → (IsTrue b.told → (d : List ℕ) → Writes at bytes (half_state half b) (half_state half b') (slice half d l) (slice half d l') result) → IsSince half0 place0 place' b0 b' l0 l'
  writes at bytes result w = after (writes_apart half b b' l l' frame.moment frame.told disk (sent_is half b l sent) (λ told. earlier_is half b' l' earlier' (subst IsTrue (sym frame.told) told)) at bytes result w)

  pub emits : {E : Type 0} (piece : List ℕ) (result : Result Unit E) → (IsTrue b.told → Parted half b.moment l l') → (IsTrue b.told → (d : List ℕ) → Emits piece (half_state half b) (half_state half b') (slice half d l) (slice half d l') result) → IsSince half0 place0 place' b0 b' l0 l'
  emits piece result parted e = after (emits_apart half b b' l l' frame.moment frame.told disk (sent_is half b l sent) (λ told. earlier_is half b' l' earlier' (subst IsTrue (sym frame.told) told)) piece result parted e)
