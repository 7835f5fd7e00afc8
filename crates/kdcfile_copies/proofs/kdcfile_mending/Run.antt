-- The steps of a mending, one after another.
use Rattle.std.proofs.Common.{◌≡◌, ◌⊎◌, inl, inr, ⊎_elim, ℕ, ◌+◌, ◌≤◌, min, List, ◌∷◌, [], length, take, drop, get_or, sym, ap, subst, ◌∙◌, arith}
use Rattle.std.specs.Prelude.{IsTrue}
use Rattle.std.proofs.lemmas.List.{take_all}
use Rattle.kd_device.specs.Device.{Torn, written}
use Rattle.kd_device.specs.declared.half.Half.{Half}
use Rattle.kd_device.specs.Twin.{Both, other, disk_of}
use Rattle.kdcfile_layout.specs.Gates.{IsShut}
use Rattle.kdcfile_copies.specs.Mending.{BothRest, BeginsWith, IsMending, Goes, Mends, HasShutGate, HasNoShutGate, opened}
use Rattle.kdcfile_copies.proofs.kdcfile_mending.Halves.{goes_then, mends_weaker, mends_then}
use Rattle.kdcfile_copies.proofs.kdcfile_mending.Copies.{gate_shuts, still_shut, shut_after, copied_start, copied_more, gate_opens, source_some}

-- the source is copied up to a place
pub record Copied (target : Half) (at end : ℕ) (a b : Both) (la lb : ℕ → List ℕ → List ℕ → List ℕ → Type 0) : Type 0 where
  pub one : 1 ≤ at
  pub goes : Goes target a b
  pub fine : (disk_of target b).disk_faults ≡ (disk_of target a).disk_faults
  pub fine_source : (disk_of (other target) b).disk_faults ≡ (disk_of (other target) a).disk_faults
  pub mends : IsTrue a.told → Mends target IsShut a b la lb
  pub put : IsTrue a.told → (disk_of target b).put + 1 ≤ (disk_of target a).put + at
  pub rest : IsTrue a.told → BothRest b lb
  pub shut : IsTrue a.told → HasShutGate (disk_of target b).holds
  pub end_is : IsTrue a.told → end ≡ length (disk_of (other target) a).holds
  pub within : IsTrue a.told → at ≤ end
  pub copied : IsTrue a.told → take at (opened (disk_of target b).holds) ≡ take at (disk_of (other target) a).holds

-- a call that changes no byte of a target whose gate is closed
pub stays_shut : (target : Half) (a b : Both) (la lb : ℕ → List ℕ → List ℕ → List ℕ → Type 0) → HasShutGate (disk_of target a).holds → Mends target (λ c. c ≡ (disk_of target a).holds) a b la lb → Mends target IsShut a b la lb
stays_shut target a b la lb shut h = mends_weaker target _ a b la lb h IsShut (λ c is. inr (λ e. shut.shut (ap (λ (l : List ℕ). get_or l 0 0) (sym is) ∙ e)))

pub copied_begin : (target : Half) (end : ℕ) (a b : Both) (la lb : ℕ → List ℕ → List ℕ → List ℕ → Type 0) → Goes target a b → disk_of target b ≡ disk_of target a → (disk_of (other target) b).disk_faults ≡ (disk_of (other target) a).disk_faults
    → (IsTrue a.told → Mends target (λ c. c ≡ (disk_of target a).holds) a b la lb) → (IsTrue a.told → BothRest b lb) → (IsTrue a.told → end ≡ length (disk_of (other target) a).holds)
    → (IsTrue a.told → HasShutGate (disk_of target a).holds) → (IsTrue a.told → get_or (disk_of (other target) a).holds 0 0 ≡ 75) → Copied target 1 end a b la lb
copied_begin target end a b la lb goes same fine mends rest end_is shut is_open = record {
  one = omega arith;
  goes = goes;
  fine = ap (λ d. d.disk_faults) same;
  fine_source = fine;
  mends = λ told. stays_shut target a b la lb (shut told) (mends told);
  put = λ told. let none : (disk_of target b).put ≡ (disk_of target a).put = ap (λ d. d.put) same in omega (arith, none);
  rest = rest;
  shut = λ told. subst HasShutGate (ap (λ d. d.holds) (sym same)) (shut told);
  end_is = end_is;
  within = λ told. omega (arith, end_is told, source_some (disk_of (other target) a).holds (is_open told));
  copied = λ told. copied_start (disk_of (other target) a).holds (disk_of target b).holds (is_open told);
}

module _ (target : Half) (at end : ℕ) (a b : Both) (la lb : ℕ → List ℕ → List ℕ → List ℕ → Type 0) (so_far : Copied target at end a b la lb) where
  pub copied_all : end ≤ at → IsTrue a.told → BeginsWith (disk_of (other target) a).holds (opened (disk_of target b).holds)
  copied_all le told =
      let s = (disk_of (other target) a).holds in
      let is : at ≡ length s = omega (arith, le, so_far.within told, so_far.end_is told) in
      subst (λ (n : ℕ). take n (opened (disk_of target b).holds) ≡ s) is (so_far.copied told ∙ take_all at s (omega (arith, is)))

  pub put_all : IsTrue a.told → (disk_of target b).put + 1 ≤ (disk_of target a).put + length (disk_of (other target) a).holds
  put_all told = omega (arith, so_far.put told, so_far.within told, so_far.end_is told)

  pub told_b : IsTrue a.told → IsTrue b.told
  told_b told = subst IsTrue (sym so_far.goes.told) told

  module _ (k : ℕ) (e : Both) (le : ℕ → List ℕ → List ℕ → List ℕ → Type 0) (step : IsTrue b.told → Mends target (λ c. Torn (min at (length (disk_of target b).holds)) (at + k) (disk_of target b).holds c) b e lb le) where
    pub copied_within : IsTrue a.told → Mends target IsShut a e la le
    copied_within told = mends_then target IsShut a b la lb (so_far.mends told) e le _ (step (told_b told)) (λ c torn. still_shut at (at + k) (disk_of target b).holds c so_far.one (so_far.shut told) torn)

    pub put_within : (IsTrue b.told → (disk_of target e).put ≤ (disk_of target b).put + k) → IsTrue a.told → (disk_of target e).put + 1 ≤ (disk_of target a).put + (at + k)
    put_within more told = omega (arith, so_far.put told, more (told_b told))

    pub put_inside : (IsTrue b.told → (disk_of target e).put ≤ (disk_of target b).put + k) → at + k ≤ end → IsTrue a.told → (disk_of target e).put + 1 ≤ (disk_of target a).put + length (disk_of (other target) a).holds
    put_inside more inside told = omega (arith, put_within more told, inside, so_far.end_is told)

    pub copied_next : (IsTrue b.told → (disk_of target e).put ≤ (disk_of target b).put + k) → at + k ≤ end → Goes target b e → (disk_of target e).disk_faults ≡ (disk_of target b).disk_faults → (disk_of (other target) e).disk_faults ≡ (disk_of (other target) b).disk_faults
        → (IsTrue b.told → (disk_of target e).holds ≡ written (disk_of target b).holds at (take k (drop at (disk_of (other target) b).holds))) → (IsTrue b.told → BothRest e le) → Copied target (at + k) end a e la le
    copied_next more inside goes fine fine_source holds rest = record {
      one = omega (arith, so_far.one);
      goes = goes_then target a b e so_far.goes goes;
      fine = fine ∙ so_far.fine;
      fine_source = fine_source ∙ so_far.fine_source;
      mends = copied_within;
      put = put_within more;
      rest = λ told. rest (told_b told);
      shut = λ told. subst HasShutGate (sym (holds (told_b told))) (shut_after at (disk_of target b).holds (take k (drop at (disk_of (other target) b).holds)) so_far.one (so_far.shut told));
      end_is = so_far.end_is;
      within = λ told. inside;
      copied = λ told.
          ap (λ (l : List ℕ). take (at + k) (opened l)) (holds (told_b told))
          ∙ copied_more (disk_of (other target) a).holds (disk_of target b).holds (take k (drop at (disk_of (other target) b).holds)) at k so_far.one (so_far.shut told) (so_far.copied told) (omega (arith, inside, so_far.end_is told)) (ap (λ (l : List ℕ). take k (drop at l)) (so_far.mends told).source);
    }

-- ---- the three steps: the gate is closed to b, the rest is copied to d, the gate is opened to e
module _ (target : Half) (a b : Both) (la lb : ℕ → List ℕ → List ℕ → List ℕ → Type 0) where
  pub shutting : Mends target (λ c. (c ≡ (disk_of target a).holds) ⊎ IsShut c) a b la lb → Mends target (IsMending (disk_of (other target) a).holds (disk_of target a).holds) a b la lb
  shutting h = mends_weaker target _ a b la lb h (IsMending (disk_of (other target) a).holds (disk_of target a).holds) (λ c is. ⊎_elim (λ e. inl e) (λ s. inr (inl s)) is)

  module _ (first : Mends target (λ c. (c ≡ (disk_of target a).holds) ⊎ IsShut c) a b la lb) (d : Both) (ld : ℕ → List ℕ → List ℕ → List ℕ → Type 0) (second : Mends target IsShut b d lb ld) where
    pub copying : Mends target (IsMending (disk_of (other target) a).holds (disk_of target a).holds) a d la ld
    copying = mends_then target (IsMending (disk_of (other target) a).holds (disk_of target a).holds) a b la lb (shutting first) d ld IsShut second (λ c s. inr (inl s))

    pub opening : (e : Both) (le : ℕ → List ℕ → List ℕ → List ℕ → Type 0) → BeginsWith (disk_of (other target) b).holds (opened (disk_of target d).holds)
        → Mends target (λ c. Torn (min 0 (length (disk_of target d).holds)) 1 (disk_of target d).holds c) d e ld le → Mends target (IsMending (disk_of (other target) a).holds (disk_of target a).holds) a e la le
    opening e le copied third =
        mends_then target (IsMending (disk_of (other target) a).holds (disk_of target a).holds) a d la ld copying e le _ third
        (λ c torn. inr (subst (λ (s : List ℕ). IsShut c ⊎ BeginsWith s c) first.source (gate_opens (disk_of (other target) b).holds (disk_of target d).holds c (min 0 (length (disk_of target d).holds)) copied torn)))

pub whole_copy : (s s' t u : List ℕ) → s' ≡ s → BeginsWith s' (opened t) → u ≡ written t 0 (75 ∷ []) → BeginsWith s u
whole_copy s s' t u same copied is = subst (λ (l : List ℕ). BeginsWith s l) (sym is) (subst (λ (l : List ℕ). BeginsWith l (opened t)) same copied)

-- what is told before is told after, and the other way round
pub told_then : (target : Half) (a b : Both) → Goes target a b → IsTrue a.told → IsTrue b.told
told_then target a b goes told = subst IsTrue (sym goes.told) told

pub told_before : (target : Half) (a b : Both) → Goes target a b → IsTrue b.told → IsTrue a.told
told_before target a b goes told = subst IsTrue goes.told told

-- the gate is closed, where it was open or there was none
pub closing : (target : Half) (a b : Both) (la lb : ℕ → List ℕ → List ℕ → List ℕ → Type 0) → HasNoShutGate (disk_of target a).holds → (disk_of target b).holds ≡ (disk_of target a).holds
    → Mends target (λ c. c ≡ (disk_of target a).holds) a b la lb → (e : Both) (le : ℕ → List ℕ → List ℕ → List ℕ → Type 0)
    → Mends target (λ c. Torn (min 0 (length (disk_of target b).holds)) 1 (disk_of target b).holds c) b e lb le → Mends target (λ c. (c ≡ (disk_of target a).holds) ⊎ IsShut c) a e la le
closing target a b la lb not_shut same first e le second =
    mends_then target (λ c. (c ≡ (disk_of target a).holds) ⊎ IsShut c) a b la lb (mends_weaker target _ a b la lb first (λ c. (c ≡ (disk_of target a).holds) ⊎ IsShut c) (λ c is. inl is)) e le _ second
    (λ c torn. subst (λ (h : List ℕ). (c ≡ h) ⊎ IsShut c) same (gate_shuts (disk_of target b).holds c _ (subst HasNoShutGate (sym same) not_shut) torn))
