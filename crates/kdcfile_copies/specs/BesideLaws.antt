-- Laws: what a stop leaves of both files after several calls.
use Rattle.std.specs.Prelude.{◌⊎◌, ℕ, List}
use Rattle.std.proofs.Common.{inl, inr, ⊎_elim, ◌∙◌, ap, arith, subst, sym}
use Rattle.kd_device.specs.declared.half.Half.{Half}
use Rattle.kd_device.specs.declared.half.Half.TheVariants.{First, Second}
use Rattle.kd_device.specs.Twin.{Disk, Both, other, half_state, half_leaves}
use Rattle.kd_device.specs.Apart.{Earlier}
use Rattle.kdcfile_store.specs.Kept.{IsKept}
use Rattle.kdcfile_copies.specs.Beside.{SameDisk, LeavesBeside, OtherStays, LeavesPairs, LeavesSamePairs, IsBeside}

module _ (a b : Both) (la lb : ℕ → List ℕ → List ℕ → List ℕ → Type 0) where
  -- a fact that says less
  pub pairs_weaker : (P Q : List ℕ → List ℕ → List ℕ → Type 0) → LeavesPairs a b la lb P → ((c d out : List ℕ) → P c d out → Q c d out) → LeavesPairs a b la lb Q
  pairs_weaker P Q h f = record { later = h.later; only = λ t c d out le left. ⊎_elim (λ l. inl l) (λ p. inr (f c d out p)) (h.only t c d out le left) }

  -- one part after another
  pub pairs_then : (e : Both) (le : ℕ → List ℕ → List ℕ → List ℕ → Type 0) (P : List ℕ → List ℕ → List ℕ → Type 0) → LeavesPairs a b la lb P → LeavesPairs b e lb le P → LeavesPairs a e la le P
  pairs_then e le P h k = record {
    later = omega (arith, h.later, k.later);
    only = λ t c d out at left. ⊎_elim (h.only t c d out at) (λ p. inr p) (k.only t c d out (omega (arith, at, h.later)) left);
  }

  -- what a call on one half leaves, of the first file and the second
  pub beside_pairs : (half : Half) (P : List ℕ → List ℕ → Type 0) → LeavesBeside half a b la lb P → LeavesPairs a b la lb (IsBeside half a la P)
  beside_pairs First P h = record { later = (h a.sent).later; only = λ t c d out at left. (h d).only t c out at left }
  beside_pairs Second P h = record { later = (h a.sent).later; only = λ t c d out at left. (h c).only t d out at left }

  -- what a stop at its end leaves of that half
  pub left_after : (half : Half) (P : List ℕ → List ℕ → Type 0) → Earlier half lb → LeavesBeside half a b la lb P → (c : List ℕ) → half_leaves half lb b.moment c b.sent → half_leaves half la a.moment c b.sent ⊎ P c b.sent
  left_after half P earlier h c left =
      ⊎_elim
      (λ l. inl (left.0, l))
      (λ n. n.1)
      ((h left.0).only a.moment c b.sent (omega arith) (earlier left.0 a.moment b.moment c b.sent (h left.0).later left.1))

-- what is kept on the other half stays kept
pub other_kept : (half : Half) (a b : Both) (la lb : ℕ → List ℕ → List ℕ → List ℕ → Type 0) (file : List ℕ → Type 0) → SameDisk (other half) a b → OtherStays half a b la lb
    → IsKept file (half_state (other half) a) (half_leaves (other half) la) → IsKept file (half_state (other half) b) (half_leaves (other half) lb)
other_kept half a b la lb file same stays kept = record {
  bytes = subst (λ (x : Disk). file x.holds) (sym same) kept.bytes;
  at_rest = λ c left. kept.at_rest c (stays c left) ∙ sym (ap (λ (x : Disk). x.holds) same);
}

-- ---- a line that is sent

pub said_stays : (half : Half) (a b : Both) (la lb : ℕ → List ℕ → List ℕ → List ℕ → Type 0) → LeavesSamePairs a b la lb → (c : List ℕ) → half_leaves half lb b.moment c b.sent → half_leaves half la a.moment c a.sent
said_stays First a b la lb same c left = (left.0, same c left.0 left.1)
said_stays Second a b la lb same c left = (left.0, same left.0 c left.1)
