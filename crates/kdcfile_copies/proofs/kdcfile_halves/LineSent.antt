-- A line that is sent by one call, after room was reserved for it.
use Rattle.std.proofs.Common.{◌≡◌, ℕ, List, [], ◌++◌, take, Result, sym, subst, ap, ◌∙◌, inl, inr, ⊎_elim, arith}
use Rattle.std.specs.Prelude.{IsTrue}
use Rattle.std.proofs.lemmas.List.{append-nil}
use Rattle.kd_device.specs.Device.{Frame, Quiet, Emits}
use Rattle.kd_device.specs.declared.half.Half.{Half}
use Rattle.kd_device.specs.declared.half.Half.TheVariants.{First}
use Rattle.kd_device.specs.Twin.{Both, half_state, slice}
use Rattle.kdcfile_copies.specs.Beside.{SaidBoth, SaidPartBoth, LeavesSamePairs, LeavesFrontBoth}
use Rattle.kdcfile_copies.specs.BesideLaws.{pairs_then}

-- what was sent and what a stop leaves, after part of the call
pub record Sends (line : List ℕ) (a b : Both) (la lb : ℕ → List ℕ → List ℕ → List ℕ → Type 0) : Type 0 where
  pub part : SaidPartBoth line a b
  pub stop : LeavesSamePairs a b la lb
  pub any_moment : LeavesFrontBoth line a b la lb

pub frame_then : (a b e : Both) → ((half : Half) → Frame (half_state half a) (half_state half b)) → ((half : Half) → Frame (half_state half b) (half_state half e)) → (half : Half) → Frame (half_state half a) (half_state half e)
frame_then a b e h k half = record {
  told = (k half).told ∙ (h half).told;
  disk_faults = omega (arith, (h half).disk_faults, (k half).disk_faults);
  line_faults = omega (arith, (h half).line_faults, (k half).line_faults);
  moment = omega (arith, (h half).moment, (k half).moment);
}

module _ (line : List ℕ) (a b : Both) (la lb : ℕ → List ℕ → List ℕ → List ℕ → Type 0) (told : IsTrue a.told) (quiet : IsTrue a.told → (half : Half) (d : List ℕ) → Quiet (half_state half a) (half_state half b) (slice half d la) (slice half d lb)) where
  -- room was reserved
  pub none_sent : b.sent ≡ a.sent
  none_sent = (quiet told First []).sent

  reserved_front : (t : ℕ) (c d out : List ℕ) → (out ≡ b.sent) × lb b.moment c d b.sent → la a.moment c d a.sent × ((n : ℕ) × (out ≡ a.sent ++ take n line))
  reserved_front t c d out now = ((quiet told First d).stop c now.1, (0, now.0 ∙ none_sent ∙ sym (append-nil a.sent)))

  -- and the whole line was sent
  pub all_sent : (e : Both) → ((half : Half) → Frame (half_state half a) (half_state half b)) → (IsTrue b.told → e.sent ≡ b.sent ++ line) → SaidBoth line a e
  all_sent e frame is = is (subst IsTrue (sym (frame First).told) told) ∙ ap (λ (l : List ℕ). l ++ line) none_sent

  pub reserved : Sends line a b la lb
  reserved = record {
    part = (0, none_sent ∙ sym (append-nil a.sent));
    stop = λ c d left. (quiet told First d).stop c left;
    any_moment = record {
      later = (quiet told First []).time.later;
      only = λ t c d out at left. ⊎_elim (λ l. inl l) (λ now. inr (reserved_front t c d out now)) ((quiet told First d).time.only t c out at left);
    };
  }

  module _ {E : Type 0} (e : Both) (le : ℕ → List ℕ → List ℕ → List ℕ → Type 0) (frame : (half : Half) → Frame (half_state half a) (half_state half b)) (result : Result Unit E) (sending : IsTrue b.told → (half : Half) (d : List ℕ) → Emits line (half_state half b) (half_state half e) (slice half d lb) (slice half d le) result) where
    told_b : IsTrue b.told
    told_b = subst IsTrue (sym (frame First).told) told

    -- and the line, or a front of it, was sent
    pub sent : Sends line a e la le
    sent = record {
      part = let p = (sending told_b First []).part in (p.0, p.1 ∙ ap (λ (l : List ℕ). l ++ take p.0 line) none_sent);
      stop = λ c d left. (quiet told First d).stop c ((sending told_b First d).stop c left);
      any_moment = pairs_then a b la lb e le (λ c d out. la a.moment c d a.sent × ((n : ℕ) × (out ≡ a.sent ++ take n line))) reserved.any_moment
          (record {
            later = (sending told_b First []).time.later;
            only = λ t c d out at left.
                ⊎_elim
                (λ l. inl l)
                (λ s. inr ((quiet told First d).stop c s.image, (s.prefix.0, s.prefix.1 ∙ ap (λ (l : List ℕ). l ++ take s.prefix.0 line) none_sent)))
                ((sending told_b First d).time.only t c out at left);
          });
    }
