-- Writes one after another.
use Rattle.std.proofs.Common.{◌≡◌, ◌⊎◌, ⊎_elim, ℕ, ◌+◌, ◌≤◌, ◌<◌, min, List, [], ◌∷◌, ◌++◌, length, take, get_or, Result, sym, ap, subst, ◌∙◌, arith}
use Rattle.std.specs.Prelude.{IsTrue}
use Rattle.std.proofs.lemmas.List.{take_more}
use Rattle.std.proofs.lemmas.List.Sums.{sum_by_more, sum_by-take-le}
use Rattle.kd_device.specs.Device.{State, Frame, SameFaults, SameNames, LeavesOnly, Now, Torn, Writes, written}
use Rattle.kd_device.specs.TimeLaws.{leaves_weaker, leaves_then, faults_then}
use Rattle.kdcfile_layout.specs.PartsLaws.{stands_below, stands_above}
use Rattle.kdcfile_layout.specs.declared.page.PageWrite.{PageWrite}
use Rattle.kdcfile_layout.specs.WritesLaws.{written_joined, longer}
use Rattle.kdcfile_layout.specs.Writes.{written_all, total, IsApart, Keeps, Stages}

-- one more write torn
pub keeps_torn : (ws : List PageWrite) (h e c : List ℕ) (at n size : ℕ) → Keeps ws h e → length h ≤ size → Torn (min at size) (at + n) e c → ((q m : ℕ) → IsApart q m ws → (q + m ≤ at) ⊎ (at + n ≤ q)) → Keeps ws h c
keeps_torn ws h e c at n size keeps le torn apart = record {
  stands = λ q part stands inside far.
      ⊎_elim
      (λ below. stands_below (min at size) (at + n) e c torn q part (keeps.stands q part stands inside far) (omega (arith, below, inside, le)))
      (λ above. stands_above (min at size) (at + n) e c torn q part (keeps.stands q part stands inside far) above)
      (apart q (length part) far);
  no_shorter = omega (arith, keeps.no_shorter, torn.no_shorter);
}

-- after the first i writes
pub record Writing (ws : List PageWrite) (i : ℕ) (a b : State) (la lb : ℕ → List ℕ → List ℕ → Type 0) : Type 0 where
  pub frame : Frame a b
  pub names : SameNames a b
  pub fine : SameFaults a b
  pub calls : b.spare_calls + i ≡ a.spare_calls
  pub bytes : b.spare_bytes + total (take i ws) ≡ a.spare_bytes
  pub end : b.spare_end ≡ a.spare_end
  pub holds : IsTrue a.told → b.holds ≡ written_all a.holds (take i ws)
  pub sent : IsTrue a.told → b.sent ≡ a.sent
  pub put : IsTrue a.told → b.put ≡ a.put + total (take i ws)
  pub stop : IsTrue a.told → (c : List ℕ) → lb b.moment c b.sent → Keeps ws a.holds c
  pub leaves : IsTrue a.told → LeavesOnly a b la lb (λ c out. (out ≡ a.sent) × Keeps ws a.holds c)

total_more : (ws : List PageWrite) (i : ℕ) (w : PageWrite) → w ≡ get_or ws i w → i < length ws → total (take (i + 1) ws) ≡ total (take i ws) + length w.bytes
total_more ws i w is lt = sum_by_more (λ (v : PageWrite). length v.bytes) ws i w lt ∙ ap (λ (v : PageWrite). total (take i ws) + length v.bytes) (sym is)

total_front : (ws : List PageWrite) (i : ℕ) → total (take i ws) ≤ total ws
total_front ws i = sum_by-take-le (λ (v : PageWrite). length v.bytes) ws i

written_more : (h : List ℕ) (ws : List PageWrite) (i : ℕ) (w : PageWrite) → w ≡ get_or ws i w → i < length ws → written_all h (take (i + 1) ws) ≡ written (written_all h (take i ws)) w.at w.bytes
written_more h ws i w is lt =
    ap (λ (l : List PageWrite). written_all h l) (take_more ws i w lt ∙ ap (λ (v : PageWrite). take i ws ++ v ∷ []) (sym is))
    ∙ written_joined h (take i ws) (w ∷ [])

module _ (ws : List PageWrite) (i : ℕ) (w : PageWrite) (is : w ≡ get_or ws i w) (lt : i < length ws) where
  apart_here : (q m : ℕ) → IsApart q m ws → (q + m ≤ w.at) ⊎ (w.at + length w.bytes ≤ q)
  apart_here q m far = subst (λ (v : PageWrite). (q + m ≤ v.at) ⊎ (v.at + length v.bytes ≤ q)) (sym is) (far i w lt)

  module _ (a b : State) (la lb : ℕ → List ℕ → List ℕ → Type 0) (so_far : Writing ws i a b la lb) where
    long : IsTrue a.told → length a.holds ≤ length b.holds
    long told = omega (arith, longer (take i ws) a.holds, ap (λ (l : List ℕ). length l) (so_far.holds told))

    module _ {E : Type 0} (d : State) (ld : ℕ → List ℕ → List ℕ → Type 0) (r : Result Unit E) (writes : IsTrue b.told → Writes w.at w.bytes b d lb ld r) where
      step : IsTrue a.told → Writes w.at w.bytes b d lb ld r
      step told = writes (rw so_far.frame.told told)

      next_stop : IsTrue a.told → (c : List ℕ) → ld d.moment c d.sent → Keeps ws a.holds c
      next_stop told c left =
          let old = (step told).stop c left in
          keeps_torn ws a.holds old.0 c w.at (length w.bytes) (length b.holds) (so_far.stop told old.0 old.1) (long told) old.2 apart_here

      next_leaves : IsTrue a.told → LeavesOnly a d la ld (λ c out. (out ≡ a.sent) × Keeps ws a.holds c)
      next_leaves told =
          leaves_then a b la lb d ld (λ c out. (out ≡ a.sent) × Keeps ws a.holds c) (so_far.leaves told)
          (leaves_weaker b d lb ld (Now d ld) (λ c out. (out ≡ a.sent) × Keeps ws a.holds c) (step told).time (λ c out now. (now.0 ∙ (step told).sent ∙ so_far.sent told, next_stop told c now.1)))

      pub stages_more : IsTrue a.told → Stages ws a d la ld
      stages_more told = record {
        sent = (step told).sent ∙ so_far.sent told;
        put = omega (arith, (step told).put, so_far.put told, total_more ws i w is lt, total_front ws (i + 1));
        leaves = next_leaves told;
      }

      pub writing_more : Frame b d → SameNames b d → SameFaults b d → d.spare_calls + 1 ≡ b.spare_calls → d.spare_bytes + length w.bytes ≡ b.spare_bytes → d.spare_end ≡ b.spare_end → (IsTrue b.told → d.holds ≡ written b.holds w.at w.bytes) → Writing ws (i + 1) a d la ld
      writing_more frame names fine calls bytes end holds = record {
        frame = record { told = frame.told ∙ so_far.frame.told; disk_faults = omega (arith, frame.disk_faults, so_far.frame.disk_faults); line_faults = omega (arith, frame.line_faults, so_far.frame.line_faults); moment = omega (arith, frame.moment, so_far.frame.moment) };
        names = names ∙ so_far.names;
        fine = faults_then a b d so_far.fine fine;
        calls = omega (arith, calls, so_far.calls);
        bytes = omega (arith, bytes, so_far.bytes, total_more ws i w is lt);
        end = end ∙ so_far.end;
        holds = λ told. holds (rw so_far.frame.told told) ∙ ap (λ (l : List ℕ). written l w.at w.bytes) (so_far.holds told) ∙ sym (written_more a.holds ws i w is lt);
        sent = λ told. (step told).sent ∙ so_far.sent told;
        put = λ told. omega (arith, (step told).put, so_far.put told, total_more ws i w is lt);
        stop = next_stop;
        leaves = next_leaves;
      }
