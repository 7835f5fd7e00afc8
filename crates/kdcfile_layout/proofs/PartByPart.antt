-- A write in parts, one after another.
use Rattle.std.proofs.Common.{◌≡◌, ℕ, ◌+◌, ◌-◌, ◌≤◌, min, List, ◌++◌, length, take, drop, Result, sym, ap, subst, ◌∙◌, arith, length-append}
use Rattle.std.specs.Prelude.{IsTrue}
use Rattle.std.proofs.lemmas.List.{take-take, drop-drop}
use Rattle.kd_device.specs.Device.{State, Frame, SameFaults, SameNames, LeavesOnly, Now, Torn, Writes, written}
use Rattle.kd_device.specs.TimeLaws.{leaves_weaker, leaves_then, faults_then}
use Rattle.kd_device.specs.TornLaws.{torn_not, length_written}
use Rattle.kdcfile_layout.specs.Synced.{WritesOnly}
use Rattle.kdcfile_layout.specs.WritesLaws.{written_on}

-- a torn write, and then one that begins no earlier and ends no earlier
torn_on : (from upto start end : ℕ) (h e c : List ℕ) → from ≤ start → upto ≤ end → Torn from upto h e → Torn start end e c → Torn from end h c
torn_on from upto start end h e c begins ends first second = record {
  before =
      sym (take-take from start c begins)
      ∙ ap (λ (l : List ℕ). take from l) second.before
      ∙ take-take from start e begins
      ∙ first.before;
  after =
      second.after
      ∙ past e
      ∙ ap (λ (l : List ℕ). drop (end - upto) l) first.after
      ∙ sym (past h);
  no_shorter = omega (arith, first.no_shorter, second.no_shorter);
  no_longer = omega (arith, first.no_longer, second.no_longer);
}
  where
    past : (l : List ℕ) → drop end l ≡ drop (end - upto) (drop upto l)
    past l = ap (λ (n : ℕ). drop n l) (omega arith) ∙ sym (drop-drop (end - upto) upto l)

-- from a to b these bytes were written from a place within the file on, by so many calls
pub record Laid (at : ℕ) (bytes : List ℕ) (k : ℕ) (a b : State) (la lb : ℕ → List ℕ → List ℕ → Type 0) : Type 0 where
  pub frame : Frame a b
  pub names : SameNames a b
  pub fine : SameFaults a b
  pub calls : b.spare_calls + k ≡ a.spare_calls
  pub room : b.spare_bytes + length bytes ≡ a.spare_bytes
  pub end : b.spare_end ≡ a.spare_end
  pub holds : IsTrue a.told → b.holds ≡ written a.holds at bytes
  pub sent : IsTrue a.told → b.sent ≡ a.sent
  pub put : IsTrue a.told → b.put ≡ a.put + length bytes
  pub stop : IsTrue a.told → (c : List ℕ) → lb b.moment c b.sent → Torn (min at (length a.holds)) (at + length bytes) a.holds c
  pub leaves : IsTrue a.told → LeavesOnly a b la lb (λ c out. (out ≡ a.sent) × Torn (min at (length a.holds)) (at + length bytes) a.holds c)

module _ (at : ℕ) (x : List ℕ) (k : ℕ) (a b : State) (la lb : ℕ → List ℕ → List ℕ → Type 0) (so_far : Laid at x k a b la lb) where
  module _ {E : Type 0} (y : List ℕ) (d : State) (ld : ℕ → List ℕ → List ℕ → Type 0) (r : Result Unit E) (writes : IsTrue b.told → Writes (at + length x) y b d lb ld r) where
    step : IsTrue a.told → Writes (at + length x) y b d lb ld r
    step told = writes (rw so_far.frame.told told)

    long : IsTrue a.told → length a.holds ≤ length b.holds
    long told = omega (arith, ap (λ (l : List ℕ). length l) (so_far.holds told), length_written a.holds at x)

    next_stop : IsTrue a.told → (c : List ℕ) → ld d.moment c d.sent → Torn (min at (length a.holds)) (at + length (x ++ y)) a.holds c
    next_stop told c left =
        let old = (step told).stop c left in
        subst (λ n. Torn (min at (length a.holds)) n a.holds c) (omega (arith, length-append x y))
        (torn_on (min at (length a.holds)) (at + length x) (min (at + length x) (length b.holds)) (at + length x + length y) a.holds old.0 c (omega (arith, long told)) (omega arith) (so_far.stop told old.0 old.1) old.2)

    wider : (c : List ℕ) → Torn (min at (length a.holds)) (at + length x) a.holds c → Torn (min at (length a.holds)) (at + length (x ++ y)) a.holds c
    wider c torn = torn_on (min at (length a.holds)) (at + length x) (min at (length a.holds)) (at + length (x ++ y)) a.holds c c (omega arith) (omega (arith, length-append x y)) torn (torn_not _ _ c)

    next_leaves : IsTrue a.told → LeavesOnly a d la ld (λ c out. (out ≡ a.sent) × Torn (min at (length a.holds)) (at + length (x ++ y)) a.holds c)
    next_leaves told =
        leaves_then a b la lb d ld (λ c out. (out ≡ a.sent) × Torn (min at (length a.holds)) (at + length (x ++ y)) a.holds c)
        (leaves_weaker a b la lb (λ c out. (out ≡ a.sent) × Torn (min at (length a.holds)) (at + length x) a.holds c) (λ c out. (out ≡ a.sent) × Torn (min at (length a.holds)) (at + length (x ++ y)) a.holds c) (so_far.leaves told)
        (λ c out h. (h.0, wider c h.1)))
        (leaves_weaker b d lb ld (Now d ld) (λ c out. (out ≡ a.sent) × Torn (min at (length a.holds)) (at + length (x ++ y)) a.holds c) (step told).time (λ c out now. (now.0 ∙ (step told).sent ∙ so_far.sent told, next_stop told c now.1)))

    -- whether the last call failed or not
    pub laid_within : (whole : ℕ) → length x + length y ≤ whole → IsTrue a.told → WritesOnly at (at + whole) whole a d la ld
    laid_within whole le told = record {
      sent = (step told).sent ∙ so_far.sent told;
      put = omega (arith, (step told).put, so_far.put told);
      leaves =
          leaves_weaker a d la ld (λ c out. (out ≡ a.sent) × Torn (min at (length a.holds)) (at + length (x ++ y)) a.holds c) (λ c out. (out ≡ a.sent) × Torn (min at (length a.holds)) (at + whole) a.holds c) (next_leaves told)
          (λ c out h. (h.0, torn_on (min at (length a.holds)) (at + length (x ++ y)) (min at (length a.holds)) (at + whole) a.holds c c (omega arith) (omega (arith, length-append x y, le)) h.1 (torn_not _ _ c)));
    }

    pub laid_more : Frame b d → SameNames b d → SameFaults b d → d.spare_calls + 1 ≡ b.spare_calls → d.spare_bytes + length y ≡ b.spare_bytes → d.spare_end ≡ b.spare_end → (IsTrue b.told → d.holds ≡ written b.holds (at + length x) y) → Laid at (x ++ y) (k + 1) a d la ld
    laid_more frame names fine calls room end holds = record {
      frame = record { told = frame.told ∙ so_far.frame.told; disk_faults = omega (arith, frame.disk_faults, so_far.frame.disk_faults); line_faults = omega (arith, frame.line_faults, so_far.frame.line_faults); moment = omega (arith, frame.moment, so_far.frame.moment) };
      names = names ∙ so_far.names;
      fine = faults_then a b d so_far.fine fine;
      calls = omega (arith, calls, so_far.calls);
      room = omega (arith, room, so_far.room, length-append x y);
      end = end ∙ so_far.end;
      holds = λ told. holds (rw so_far.frame.told told) ∙ ap (λ (l : List ℕ). written l (at + length x) y) (so_far.holds told) ∙ written_on a.holds at x y;
      sent = λ told. (step told).sent ∙ so_far.sent told;
      put = λ told. omega (arith, (step told).put, so_far.put told, length-append x y);
      stop = next_stop;
      leaves = next_leaves;
    }
