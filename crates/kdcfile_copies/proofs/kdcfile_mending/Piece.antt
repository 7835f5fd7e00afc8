-- A piece is read from the source and put at the same place of the target.
use Rattle.std.proofs.Common.{◌≡◌, ℕ, ◌+◌, ◌≤◌, min, List, length, take, drop, sym, ap, subst, arith, length-take, length-drop}
use Rattle.kd_device.specs.Device.{Torn}
use Rattle.kd_device.specs.TornLaws.{torn_not}
use Rattle.kd_device.specs.declared.half.Half.{Half}
use Rattle.kd_device.specs.Twin.{Both, other, disk_of}
use Rattle.kdcfile_copies.specs.Mending.{Mends}
use Rattle.kdcfile_copies.proofs.kdcfile_mending.Halves.{mends_weaker, mends_then}

module _ (target : Half) (at len : ℕ) (a b : Both) (la lb : ℕ → List ℕ → List ℕ → List ℕ → Type 0) (read : Mends target (λ c. c ≡ (disk_of target a).holds) a b la lb) where
  pub piece_read : Mends target (λ c. Torn (min at (length (disk_of target a).holds)) (at + len) (disk_of target a).holds c) a b la lb
  piece_read =
      mends_weaker target (λ c. c ≡ (disk_of target a).holds) a b la lb read (λ c. Torn (min at (length (disk_of target a).holds)) (at + len) (disk_of target a).holds c)
      (λ c is. subst (λ (l : List ℕ). Torn (min at (length (disk_of target a).holds)) (at + len) (disk_of target a).holds l) (sym is) (torn_not _ _ (disk_of target a).holds))

  pub piece_put : (p : List ℕ) → p ≡ take len (drop at (disk_of (other target) a).holds) → at + len ≤ length (disk_of (other target) a).holds → disk_of target b ≡ disk_of target a → (e : Both) (le : ℕ → List ℕ → List ℕ → List ℕ → Type 0)
      → Mends target (λ c. Torn (min at (length (disk_of target b).holds)) (at + length p) (disk_of target b).holds c) b e lb le → Mends target (λ c. Torn (min at (length (disk_of target a).holds)) (at + len) (disk_of target a).holds c) a e la le
  piece_put p is has same e le put =
      let wide : length p ≡ len = omega (arith, ap (λ (l : List ℕ). length l) is, length-take len (drop at (disk_of (other target) a).holds), length-drop at (disk_of (other target) a).holds, has) in
      mends_then target (λ c. Torn (min at (length (disk_of target a).holds)) (at + len) (disk_of target a).holds c) a b la lb piece_read e le _ put
      (λ c torn. subst (λ (n : ℕ). Torn (min at (length (disk_of target a).holds)) (at + n) (disk_of target a).holds c) wide (subst (λ (l : List ℕ). Torn (min at (length l)) (at + length p) l c) (ap (λ d. d.holds) same) torn))
