-- Laws: disks and a line by the calls that were made.
use Rattle.std.specs.Prelude.{◌≡◌, ◌≤◌, ℕ, zero, suc, ◌+◌, min, Bool, true, false, if◌then◌else◌, List, [], ◌∷◌, ◌++◌, length, refl}
use native.Mathlib.Omega.{arith}
use Rattle.std.proofs.Common.{inr}
use Rattle.kd_device.specs.Device.{Torn}
use Rattle.kd_device.specs.History.{Event, Wrote, Synced, Emitted, Disk, Moment, at_first, is_on, moved, step, after, Torns, StopLeaves, AtRest, Left, Since}
use Rattle.kd_device.specs.TornLaws.{torn_done, torn_not}

-- one range more
pub torns_push : (rs : List (ℕ × ℕ)) (r : ℕ × ℕ) (old mid new : List ℕ) → Torns rs old mid → Torn r.0 r.1 mid new → Torns (rs ++ r ∷ []) old new
torns_push [] r old mid new same torn = (new, (let P : List ℕ → Type 0 = λ l. Torn r.0 r.1 l new in subst_torn P mid old same torn), refl)
  where
    subst_torn : (P : List ℕ → Type 0) (a b : List ℕ) → a ≡ b → P a → P b
    subst_torn P a b e h = rw (← e) h
torns_push (q ∷ rs) r old mid new torns torn = (torns.0, torns.1, torns_push rs r torns.0 mid new torns.2 torn)

-- a stop may leave what reads give
moved_has : (e : Event) (d : Disk) → StopLeaves d d.bytes → StopLeaves (moved e d) (moved e d).bytes
moved_has (Wrote disk at bytes true) d h = torns_push d.pending (min at (length d.bytes), at + length bytes) d.base d.bytes _ h (torn_done d.bytes at bytes)
moved_has (Wrote disk at bytes false) d h = torns_push d.pending (min at (length d.bytes), at + length bytes) d.base d.bytes _ h (torn_not _ _ d.bytes)
moved_has (Synced disk true) d h = refl
moved_has (Synced disk false) d h = h
moved_has (Emitted piece done) d h = h

step_has : (on : Bool) (e : Event) (d : Disk) → StopLeaves d d.bytes → StopLeaves (if on then moved e d else d) (if on then moved e d else d).bytes
step_has true e d h = moved_has e d h
step_has false e d h = h

after_has : (i : ℕ) (s : Moment) (es : List Event) → StopLeaves (s.disk i) (s.disk i).bytes → StopLeaves ((after s es).disk i) ((after s es).disk i).bytes
after_has i s [] h = h
after_has i s (e ∷ es) h = after_has i (step s e) es (step_has (is_on i e) e (s.disk i) h)

pub has_bytes : (i : ℕ) (starts : List (List ℕ)) (es : List Event) → StopLeaves ((after (at_first starts) es).disk i) ((after (at_first starts) es).disk i).bytes
has_bytes i starts es = after_has i (at_first starts) es refl

module _ (P : (ℕ → Disk) → Type 0) where
  -- since the last call there is what a stop now leaves
  pub now_from : (s : Moment) (es : List Event) (out : List ℕ) → Since P (length es) s es out → AtRest P (after s es) out
  now_from s [] out left = left
  now_from s (e ∷ es) out left = now_from (step s e) es out left

  pub now_to : (s : Moment) (es : List Event) (out : List ℕ) → AtRest P (after s es) out → Since P (length es) s es out
  now_to s [] out rest = rest
  now_to s (e ∷ es) out rest = now_to (step s e) es out rest

  pub sent_is : (starts : List (List ℕ)) (es : List Event) (out : List ℕ) → Since P (length es) (at_first starts) es out → out ≡ (after (at_first starts) es).sent
  sent_is starts es out left = (now_from (at_first starts) es out left).1

  left_earlier : (u : ℕ) (s : Moment) (es : List Event) (out : List ℕ) → Since P u s es out → Left P s es out
  left_earlier zero s es out left = left
  left_earlier (suc u) s [] out left = absurd left
  left_earlier (suc u) s (e ∷ es) out left = inr (inr (left_earlier u (step s e) es out left))

  -- a stop since a later call is one since an earlier call
  pub since_less : (t u : ℕ) (s : Moment) (es : List Event) (out : List ℕ) → t ≤ u → Since P u s es out → Since P t s es out
  since_less zero u s es out le left = left_earlier u s es out left
  since_less (suc t) zero s es out le left = absurd (omega (arith, le))
  since_less (suc t) (suc u) s [] out le left = absurd left
  since_less (suc t) (suc u) s (e ∷ es) out le left = since_less t u (step s e) es out (omega (arith, le)) left
