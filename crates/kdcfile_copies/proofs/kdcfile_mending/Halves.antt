-- Calls on one half of a twin that is at rest.
use Rattle.std.proofs.Common.{◌≡◌, ℕ, ◌+◌, min, List, length, Result, inl, inr, ⊎_elim, refl, sym, ap, subst, ◌∙◌, arith}
use Rattle.kd_device.specs.Device.{Frame, SameNames, Quiet, Writes, Only, Torn}
use Rattle.kd_device.specs.TimeLaws.{leaves_weaker, leaves_then}
use Rattle.kd_device.specs.declared.half.Half.{Half}
use Rattle.kd_device.specs.declared.half.Half.TheVariants.{First, Second}
use Rattle.kd_device.specs.Twin.{Both, other, disk_of, half_state, slice}
use Rattle.kd_device.specs.HalfLaws.{slice_other, slice_back}
use Rattle.kdcfile_copies.specs.Mending.{HalfRests, BothRest, Goes, Mends}

-- ---- what no call changes

pub goes_then : (target : Half) (a b e : Both) → Goes target a b → Goes target b e → Goes target a e
goes_then target a b e h k = record {
  told = k.told ∙ h.told;
  moment = omega (arith, h.moment, k.moment);
  line = k.line ∙ h.line;
  names = k.names ∙ h.names;
  source_names = k.source_names ∙ h.source_names;
  faults = omega (arith, h.faults, k.faults);
  source_faults = omega (arith, h.source_faults, k.source_faults);
}

-- a call on the target, or on the other half
pub goes_on : (target : Half) (a b : Both) → Frame (half_state target a) (half_state target b) → b.line_faults ≡ a.line_faults → SameNames (half_state target a) (half_state target b) → disk_of (other target) b ≡ disk_of (other target) a → Goes target a b
goes_on target a b frame line names same = record {
  told = frame.told;
  moment = frame.moment;
  line = line;
  names = names;
  source_names = ap (λ d. d.names) same;
  faults = frame.disk_faults;
  source_faults = omega (arith, ap (λ d. d.disk_faults) same);
}

pub frame_of : (target : Half) (a b : Both) → Goes target a b → (half : Half) → Frame (half_state half a) (half_state half b)
frame_of First a b h First = record { told = h.told; disk_faults = h.faults; line_faults = omega (arith, h.line); moment = h.moment }
frame_of First a b h Second = record { told = h.told; disk_faults = h.source_faults; line_faults = omega (arith, h.line); moment = h.moment }
frame_of Second a b h First = record { told = h.told; disk_faults = h.source_faults; line_faults = omega (arith, h.line); moment = h.moment }
frame_of Second a b h Second = record { told = h.told; disk_faults = h.faults; line_faults = omega (arith, h.line); moment = h.moment }

pub names_of : (target : Half) (a b : Both) → Goes target a b → (half : Half) → SameNames (half_state half a) (half_state half b)
names_of First a b h First = h.names
names_of First a b h Second = h.source_names
names_of Second a b h First = h.source_names
names_of Second a b h Second = h.names

-- ---- rest

pub both_images : (half : Half) (a : Both) (la : ℕ → List ℕ → List ℕ → List ℕ → Type 0) → BothRest a la → (d c : List ℕ) → slice half d la a.moment c a.sent → (c ≡ (disk_of half a).holds) × (d ≡ (disk_of (other half) a).holds)
both_images half a la rest d c left = (rest half d c left, rest (other half) c d (slice_other half la d a.moment c a.sent left))

pub rest_from : (half : Half) (b : Both) (lb : ℕ → List ℕ → List ℕ → List ℕ → Type 0) → ((d c : List ℕ) → slice half d lb b.moment c b.sent → (c ≡ (disk_of half b).holds) × (d ≡ (disk_of (other half) b).holds)) → BothRest b lb
rest_from First b lb f First = λ d c left. (f d c left).0
rest_from First b lb f Second = λ d c left. (f c d left).1
rest_from Second b lb f First = λ d c left. (f c d left).1
rest_from Second b lb f Second = λ d c left. (f d c left).0

-- a quiet call on a half keeps both at rest
pub quiet_rest : (half : Half) (a b : Both) (la lb : ℕ → List ℕ → List ℕ → List ℕ → Type 0) → BothRest a la → ((d : List ℕ) → Quiet (half_state half a) (half_state half b) (slice half d la) (slice half d lb)) → disk_of (other half) b ≡ disk_of (other half) a → BothRest b lb
quiet_rest half a b la lb rest q same =
    rest_from half b lb
    (λ d c left.
    let i = both_images half a la rest d c ((q d).stop c left) in
    (i.0 ∙ sym (q d).holds, i.1 ∙ ap (λ x. x.holds) (sym same)))

-- the source is at rest whatever the target is
pub source_rests : (target : Half) (P : List ℕ → Type 0) (a b : Both) (la lb : ℕ → List ℕ → List ℕ → List ℕ → Type 0) → Mends target P a b la lb → HalfRests (other target) b lb
source_rests target P a b la lb h = λ d c left. (h.stop c d (slice_back target lb c b.moment d b.sent left)).0 ∙ sym h.source

-- after a sync both are
pub synced_rest : (target : Half) (P : List ℕ → Type 0) (a b : Both) (la lb : ℕ → List ℕ → List ℕ → List ℕ → Type 0) → Mends target P a b la lb → ((d : List ℕ) → Only (disk_of target b).holds (half_state target b) (slice target d lb)) → BothRest b lb
synced_rest target P a b la lb h only = rest_from target b lb (λ d c left. (only d c left, (h.stop d c left).0 ∙ sym h.source))

-- ---- what a stop leaves

pub mends_none : (target : Half) (a : Both) (la : ℕ → List ℕ → List ℕ → List ℕ → Type 0) → BothRest a la → Mends target (λ c. c ≡ (disk_of target a).holds) a a la la
mends_none target a la rest = record {
  sent = refl;
  source = refl;
  source_put = refl;
  stop = λ d c left. let i = both_images target a la rest d c left in (i.1, i.0);
  leaves = λ d. record { later = omega arith; only = λ t c out le left. inl left };
}

module _ (target : Half) (P : List ℕ → Type 0) (a b : Both) (la lb : ℕ → List ℕ → List ℕ → List ℕ → Type 0) (h : Mends target P a b la lb) where
  pub mends_weaker : (Q : List ℕ → Type 0) → ((c : List ℕ) → P c → Q c) → Mends target Q a b la lb
  mends_weaker Q f = record {
    sent = h.sent;
    source = h.source;
    source_put = h.source_put;
    stop = λ d c left. let i = h.stop d c left in (i.0, f c i.1);
    leaves = λ d. leaves_weaker (half_state target a) (half_state target b) (slice target d la) (slice target d lb) (λ c out. (out ≡ a.sent) × (d ≡ (disk_of (other target) a).holds) × P c) (λ c out. (out ≡ a.sent) × (d ≡ (disk_of (other target) a).holds) × Q c) (h.leaves d) (λ c out is. (is.0, is.1, f c is.2));
  }

  module _ (e : Both) (le : ℕ → List ℕ → List ℕ → List ℕ → Type 0) where
    -- one part after another
    pub mends_then : (Q : List ℕ → Type 0) → Mends target Q b e lb le → ((c : List ℕ) → Q c → P c) → Mends target P a e la le
    mends_then Q k f = record {
      sent = k.sent ∙ h.sent;
      source = k.source ∙ h.source;
      source_put = k.source_put ∙ h.source_put;
      stop = λ d c left. let i = k.stop d c left in (i.0 ∙ h.source, f c i.1);
      leaves = λ d.
          let R : List ℕ → List ℕ → Type 0 = λ c out. (out ≡ a.sent) × (d ≡ (disk_of (other target) a).holds) × P c in
          leaves_then (half_state target a) (half_state target b) (slice target d la) (slice target d lb) (half_state target e) (slice target d le) R (h.leaves d)
          (leaves_weaker (half_state target b) (half_state target e) (slice target d lb) (slice target d le) (λ c out. (out ≡ b.sent) × (d ≡ (disk_of (other target) b).holds) × Q c) R (k.leaves d) (λ c out is. (is.0 ∙ h.sent, is.1 ∙ h.source, f c is.2)));
    }

    -- a call on the target that changes no byte
    pub mends_quiet : ((d : List ℕ) → Quiet (half_state target b) (half_state target e) (slice target d lb) (slice target d le)) → disk_of (other target) e ≡ disk_of (other target) b → Mends target P a e la le
    mends_quiet q same = mends_then P
        (record {
          sent = (q (disk_of target b).holds).sent;
          source = ap (λ x. x.holds) same;
          source_put = ap (λ x. x.put) same;
          stop = λ d c left. let i = h.stop d c ((q d).stop c left) in (i.0 ∙ sym h.source, i.1);
          leaves = λ d. record {
            later = (q d).time.later;
            only = λ t c out le left. ⊎_elim (λ l. inl l) (λ now. let i = h.stop d c ((q d).stop c now.1) in inr (now.0 ∙ (q d).sent, i.0 ∙ sym h.source, i.1)) ((q d).time.only t c out le left);
          };
        })
        (λ c p. p)

-- a call on the source that changes no byte
pub mends_beside : (target : Half) (a b : Both) (la lb : ℕ → List ℕ → List ℕ → List ℕ → Type 0) → BothRest a la → ((d : List ℕ) → Quiet (half_state (other target) a) (half_state (other target) b) (slice (other target) d la) (slice (other target) d lb)) → Mends target (λ c. c ≡ (disk_of target a).holds) a b la lb
mends_beside target a b la lb rest q = record {
  sent = (q (disk_of target a).holds).sent;
  source = (q (disk_of target a).holds).holds;
  source_put = (q (disk_of target a).holds).put;
  stop = λ d c left. let i = here d c left in (i.1, i.0);
  leaves = λ d. record {
    later = (q d).time.later;
    only = λ t c out le left.
        ⊎_elim (λ l. inl (slice_back target la d t c out l)) (λ now. let i = here d c (slice_back target lb d b.moment c b.sent now.1) in inr (now.0 ∙ (q c).sent, i.1, i.0))
        ((q c).time.only t d out le (slice_other target lb d t c out left));
  };
}
  where
    here : (d c : List ℕ) → slice target d lb b.moment c b.sent → (c ≡ (disk_of target a).holds) × (d ≡ (disk_of (other target) a).holds)
    here d c left = both_images target a la rest d c (slice_back target la d a.moment c a.sent ((q c).stop d (slice_other target lb d b.moment c b.sent left)))

-- a write to the target
pub mends_write : {E : Type 0} (target : Half) (a b : Both) (la lb : ℕ → List ℕ → List ℕ → List ℕ → Type 0) (at : ℕ) (bytes : List ℕ) (r : Result Unit E) → BothRest a la → ((d : List ℕ) → Writes at bytes (half_state target a) (half_state target b) (slice target d la) (slice target d lb) r) → disk_of (other target) b ≡ disk_of (other target) a
    → Mends target (λ c. Torn (min at (length (disk_of target a).holds)) (at + length bytes) (disk_of target a).holds c) a b la lb
mends_write target a b la lb at bytes r rest w same = record {
  sent = (w (disk_of target a).holds).sent;
  source = ap (λ x. x.holds) same;
  source_put = ap (λ x. x.put) same;
  stop = here;
  leaves = λ d. record {
    later = (w d).time.later;
    only = λ t c out le left. ⊎_elim (λ l. inl l) (λ now. let i = here d c now.1 in inr (now.0 ∙ (w d).sent, i.0, i.1)) ((w d).time.only t c out le left);
  };
}
  where
    here : (d c : List ℕ) → slice target d lb b.moment c b.sent → (d ≡ (disk_of (other target) a).holds) × Torn (min at (length (disk_of target a).holds)) (at + length bytes) (disk_of target a).holds c
    here d c left =
        let was = (w d).stop c left in
        let i = both_images target a la rest d was.0 was.1 in
        (i.1, subst (λ (l : List ℕ). Torn (min at (length (disk_of target a).holds)) (at + length bytes) l c) i.0 was.2)

-- a call that is on neither half alone
pub goes_each : (target : Half) (a b : Both) → Frame (half_state target a) (half_state target b) → b.line_faults ≡ a.line_faults → ((h : Half) → disk_of h b ≡ disk_of h a) → Goes target a b
goes_each target a b frame line same = goes_on target a b frame line (ap (λ d. d.names) (same target)) (same (other target))

-- a call on the source, which is the other half of the target
pub beside_same : (target : Half) (a b : Both) → disk_of (other (other target)) b ≡ disk_of (other (other target)) a → disk_of target b ≡ disk_of target a
beside_same First a b e = e
beside_same Second a b e = e

pub beside_rest : (target : Half) (a b : Both) (la lb : ℕ → List ℕ → List ℕ → List ℕ → Type 0) → BothRest a la → ((d : List ℕ) → Quiet (half_state (other target) a) (half_state (other target) b) (slice (other target) d la) (slice (other target) d lb)) → disk_of target b ≡ disk_of target a → BothRest b lb
beside_rest First a b la lb rest q same = quiet_rest Second a b la lb rest q same
beside_rest Second a b la lb rest q same = quiet_rest First a b la lb rest q same

-- the other one of the other one
pub other_back : (source target : Half) → target ≡ other source → other target ≡ source
other_back First target is = ap other is
other_back Second target is = ap other is

-- a call on the target that changes no byte, from a twin at rest
pub mends_same : (target : Half) (a b : Both) (la lb : ℕ → List ℕ → List ℕ → List ℕ → Type 0) → BothRest a la → ((d : List ℕ) → Quiet (half_state target a) (half_state target b) (slice target d la) (slice target d lb)) → disk_of (other target) b ≡ disk_of (other target) a
    → Mends target (λ c. c ≡ (disk_of target a).holds) a b la lb
mends_same target a b la lb rest q same = mends_quiet target (λ c. c ≡ (disk_of target a).holds) a a la la (mends_none target a la rest) b lb q same
