-- A call that reads the half which is copied to the target.
use Rattle.std.proofs.Common.{◌≡◌, ℕ, List, sym, subst}
use Rattle.kd_device.specs.Device.{Quiet}
use Rattle.kd_device.specs.declared.half.Half.{Half}
use Rattle.kd_device.specs.Twin.{Both, other, disk_of, half_state, slice}
use Rattle.kdcfile_copies.specs.Mending.{BothRest, Mends}
use Rattle.kdcfile_copies.proofs.kdcfile_mending.Halves.{beside_same, beside_rest, mends_beside}

module _ (target half : Half) (is : half ≡ other target) (a b : Both) where
  pub source_same : disk_of (other half) b ≡ disk_of (other half) a → disk_of target b ≡ disk_of target a
  source_same = subst (λ (h : Half). disk_of (other h) b ≡ disk_of (other h) a → disk_of target b ≡ disk_of target a) (sym is) (beside_same target a b)

  module _ (la lb : ℕ → List ℕ → List ℕ → List ℕ → Type 0) (rest : BothRest a la) where
    pub source_mends : ((d : List ℕ) → Quiet (half_state half a) (half_state half b) (slice half d la) (slice half d lb)) → Mends target (λ c. c ≡ (disk_of target a).holds) a b la lb
    source_mends = subst (λ (h : Half). ((d : List ℕ) → Quiet (half_state h a) (half_state h b) (slice h d la) (slice h d lb)) → Mends target (λ c. c ≡ (disk_of target a).holds) a b la lb) (sym is) (mends_beside target a b la lb rest)

    pub source_rest : ((d : List ℕ) → Quiet (half_state half a) (half_state half b) (slice half d la) (slice half d lb)) → disk_of target b ≡ disk_of target a → BothRest b lb
    source_rest = subst (λ (h : Half). ((d : List ℕ) → Quiet (half_state h a) (half_state h b) (slice h d la) (slice h d lb)) → disk_of target b ≡ disk_of target a → BothRest b lb) (sym is) (beside_rest target a b la lb rest)
