-- What a stop within the opening of the KDCFILE leaves.
use Rattle.std.proofs.Common.{inl, inr, ⊎_elim, ℕ, List, sym, ◌∙◌}
use Rattle.kd_device.specs.Device.{State, LeavesOnly}
use Rattle.kd_device.specs.TimeLaws.{leaves_weaker, leaves_then}
use Rattle.kd_device.specs.Rest.{Rests, Before}
use Rattle.kd_records.specs.Identity.{Identity}
use Rattle.device_acts.specs.Opening.{IsOpening}

module _ (i : Identity) (a b : State) (la lb : ℕ → List ℕ → List ℕ → Type 0) (rests : Rests a b la lb) where
  -- before the file is opened
  pub opening_rests : LeavesOnly a b la lb (IsOpening i a la)
  opening_rests = leaves_weaker a b la lb (Before a la) (IsOpening i a la) rests.leaves (λ c out now. record { silent = now.0; file = inl now.1 })

  pub opening_then : (d : State) (ld : ℕ → List ℕ → List ℕ → Type 0) → LeavesOnly b d lb ld (IsOpening i b lb) → LeavesOnly a d la ld (IsOpening i a la)
  opening_then d ld h =
      leaves_then a b la lb d ld (IsOpening i a la) opening_rests
      (leaves_weaker b d lb ld (IsOpening i b lb) (IsOpening i a la) h (λ c out o. record {
        silent = o.silent ∙ rests.sent;
        file = ⊎_elim (λ left. inl (rests.stop c left)) (λ made. inr (record { empty = sym rests.holds ∙ made.empty; image_is = made.image_is })) o.file;
      }))
