-- A write to the target with room made before it and a sync after it.
use Rattle.std.proofs.Common.{◌≡◌, ◌≤◌, ℕ, ◌+◌, min, List, length, Result, sym, ap, subst, ◌∙◌, arith}
use Rattle.kd_device.specs.Device.{Quiet, Writes, Only, Torn}
use Rattle.kd_device.specs.TornLaws.{torn_not}
use Rattle.kd_device.specs.declared.half.Half.{Half}
use Rattle.kd_device.specs.Twin.{Both, other, disk_of, half_state, slice}
use Rattle.kdcfile_copies.specs.Mending.{BothRest, Mends}
use Rattle.kdcfile_copies.proofs.kdcfile_mending.Halves.{quiet_rest, synced_rest, mends_none, mends_weaker, mends_then, mends_quiet, mends_write}

-- room is made to b, the write is made to d, the sync to e
module _ (target : Half) (at : ℕ) (bytes : List ℕ) (a b : Both) (la lb : ℕ → List ℕ → List ℕ → List ℕ → Type 0) (rest : BothRest a la) (same : (h : Half) → disk_of h b ≡ disk_of h a) (q : (h : Half) (o : List ℕ) → Quiet (half_state h a) (half_state h b) (slice h o la) (slice h o lb)) where
  pub put_reserved : Mends target (λ c. Torn (min at (length (disk_of target a).holds)) (at + length bytes) (disk_of target a).holds c) a b la lb
  put_reserved =
      mends_weaker target (λ c. c ≡ (disk_of target a).holds) a b la lb (mends_quiet target (λ c. c ≡ (disk_of target a).holds) a a la la (mends_none target a la rest) b lb (q target) (same (other target))) (λ c. Torn (min at (length (disk_of target a).holds)) (at + length bytes) (disk_of target a).holds c)
      (λ c is. subst (λ (l : List ℕ). Torn (min at (length (disk_of target a).holds)) (at + length bytes) (disk_of target a).holds l) (sym is) (torn_not _ _ (disk_of target a).holds))

  pub reserved_put : (disk_of target b).put ≤ (disk_of target a).put + length bytes
  reserved_put = let none : (disk_of target b).put ≡ (disk_of target a).put = ap (λ x. x.put) (same target) in omega (arith, none)

  reserved_rest : BothRest b lb
  reserved_rest = quiet_rest target a b la lb rest (q target) (same (other target))

  module _ {E : Type 0} (d : Both) (ld : ℕ → List ℕ → List ℕ → List ℕ → Type 0) (r : Result Unit E) (w : (o : List ℕ) → Writes at bytes (half_state target b) (half_state target d) (slice target o lb) (slice target o ld) r) (same_d : disk_of (other target) d ≡ disk_of (other target) b) where
    pub put_wrote : Mends target (λ c. Torn (min at (length (disk_of target a).holds)) (at + length bytes) (disk_of target a).holds c) a d la ld
    put_wrote =
        mends_then target (λ c. Torn (min at (length (disk_of target a).holds)) (at + length bytes) (disk_of target a).holds c) a b la lb put_reserved d ld _ (mends_write target b d lb ld at bytes r reserved_rest w same_d)
        (λ c torn. subst (λ (l : List ℕ). Torn (min at (length l)) (at + length bytes) l c) (ap (λ x. x.holds) (same target)) torn)

    pub wrote_put : (disk_of target d).put ≤ (disk_of target a).put + length bytes
    wrote_put =
        let none : (disk_of target b).put ≡ (disk_of target a).put = ap (λ x. x.put) (same target) in
        let more : (disk_of target d).put ≡ (disk_of target b).put + length bytes = (w (disk_of target b).holds).put in
        omega (arith, none, more)

    module _ (e : Both) (le : ℕ → List ℕ → List ℕ → List ℕ → Type 0) (s : (o : List ℕ) → Quiet (half_state target d) (half_state target e) (slice target o ld) (slice target o le)) (same_e : disk_of (other target) e ≡ disk_of (other target) d) where
      pub put_synced : Mends target (λ c. Torn (min at (length (disk_of target a).holds)) (at + length bytes) (disk_of target a).holds c) a e la le
      put_synced = mends_quiet target (λ c. Torn (min at (length (disk_of target a).holds)) (at + length bytes) (disk_of target a).holds c) a d la ld put_wrote e le s same_e

      pub synced_put : (disk_of target e).put ≤ (disk_of target a).put + length bytes
      synced_put = let none : (disk_of target e).put ≡ (disk_of target d).put = (s (disk_of target d).holds).put in omega (arith, none, wrote_put)

      pub put_rest : ((o : List ℕ) → Only (disk_of target d).holds (half_state target e) (slice target o le)) → BothRest e le
      put_rest only = synced_rest target (λ c. Torn (min at (length (disk_of target a).holds)) (at + length bytes) (disk_of target a).holds c) a e la le put_synced (λ o c left. only o c left ∙ sym (s o).holds)
