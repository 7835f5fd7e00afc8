-- What is on a half while it is mended.
use Rattle.std.proofs.Common.{◌≡◌, ◌⊎◌, inl, inr, ⊎_elim, ℕ, zero, suc, ◌+◌, ◌-◌, ◌≤◌, min, List, [], ◌∷◌, ◌++◌, length, take, drop, replicate, get_or, refl, sym, ap, subst, ◌∙◌, arith, append_assoc}
use Rattle.std.proofs.Common.{length-append, length-take, length-drop}
use Rattle.std.proofs.lemmas.Bool.{cases_eq}
use Rattle.std.proofs.lemmas.List.{get_or-take, drop_more, take-take, drop-take, take-append-le, take-append-drop, take_at}
use Rattle.kd_device.specs.Device.{Torn, written}
use Rattle.kd_device.specs.TornLaws.{torn_done, length_written}
use Rattle.kdcfile_layout.specs.Gates.{IsShut}
use Rattle.kdcfile_copies.specs.Mending.{BeginsWith, HasShutGate, HasNoShutGate, opened}

-- ---- the gate

pub source_some : (h : List ℕ) → get_or h 0 0 ≡ 75 → 1 ≤ length h
source_some [] e = absurd (omega (arith, e))
source_some (b ∷ h) e = omega arith

-- a file with an open gate is the gate and the rest
with_gate : (h : List ℕ) → get_or h 0 0 ≡ 75 → h ≡ opened h
with_gate h e = drop_more h 0 0 (source_some h e) ∙ ap (λ (b : ℕ). b ∷ drop 1 h) e

pub gate_shuts : (h c : List ℕ) (from : ℕ) → HasNoShutGate h → Torn from 1 h c → (c ≡ h) ⊎ IsShut c
gate_shuts h c from (inl short) torn = inr (inl (omega (arith, short, torn.no_longer)))
gate_shuts h c from (inr is) torn =
    ⊎_elim (λ e. inl (with_gate c e ∙ ap (λ (l : List ℕ). 75 ∷ l) torn.after ∙ sym (with_gate h is))) (λ ne. inr (inr ne)) (cases_eq (get_or c 0 0) 75)

-- a closed gate is written
pub closed_gate : (h : List ℕ) → HasShutGate (written h 0 (0 ∷ []))
closed_gate h = record { some = omega arith; shut = λ e. omega (arith, e) }

-- what is torn after it leaves it
gate_stays : (at upto : ℕ) (h c : List ℕ) → 1 ≤ at → 1 ≤ length h → Torn (min at (length h)) upto h c → get_or c 0 0 ≡ get_or h 0 0
gate_stays at upto h c after some torn =
    sym (get_or-take (min at (length h)) c 0 0 (omega (arith, after, some)))
    ∙ ap (λ (l : List ℕ). get_or l 0 0) torn.before
    ∙ get_or-take (min at (length h)) h 0 0 (omega (arith, after, some))

pub still_shut : (at upto : ℕ) (h c : List ℕ) → 1 ≤ at → HasShutGate h → Torn (min at (length h)) upto h c → IsShut c
still_shut at upto h c after shut torn = inr (λ e. shut.shut (sym (gate_stays at upto h c after shut.some torn) ∙ e))

pub shut_after : (at : ℕ) (h p : List ℕ) → 1 ≤ at → HasShutGate h → HasShutGate (written h at p)
shut_after at h p after shut = record {
  some = omega (arith, shut.some, length_written h at p);
  shut = λ e. shut.shut (sym (gate_stays at (at + length p) h (written h at p) after shut.some (torn_done h at p)) ∙ e);
}

pub gate_opens : (s t c : List ℕ) (from : ℕ) → BeginsWith s (opened t) → Torn from 1 t c → IsShut c ⊎ BeginsWith s c
gate_opens s t c from copied torn =
    ⊎_elim (λ e. inr (subst (λ (l : List ℕ). BeginsWith s l) (sym (with_gate c e ∙ ap (λ (l : List ℕ). 75 ∷ l) torn.after)) copied)) (λ ne. inl (inr ne)) (cases_eq (get_or c 0 0) 75)

-- ---- the copy, piece by piece

pub copied_start : (s t : List ℕ) → get_or s 0 0 ≡ 75 → take 1 (opened t) ≡ take 1 s
copied_start s t e = sym (ap (λ (l : List ℕ). take 1 l) (with_gate s e))

drop_first : (n b e : ℕ) (t : List ℕ) → 1 ≤ n → drop n (b ∷ t) ≡ drop n (e ∷ t)
drop_first zero b e t one = absurd (omega (arith, one))
drop_first (suc n) b e t one = refl

opened_more : (t : List ℕ) (m : ℕ) (p : List ℕ) → 1 ≤ length t → opened (written t (suc m) p) ≡ written (opened t) (suc m) p
opened_more [] m p some = absurd (omega (arith, some))
opened_more (b ∷ t) m p some =
    ap (λ (r : List ℕ). 75 ∷ (take m (t ++ replicate (suc m - suc (length t)) 0) ++ (p ++ r))) (drop_first (suc m + length p) b 75 t (omega arith))

opened_written : (t : List ℕ) (at : ℕ) (p : List ℕ) → 1 ≤ length t → 1 ≤ at → opened (written t at p) ≡ written (opened t) at p
opened_written t zero p some one = absurd (omega (arith, one))
opened_written t (suc m) p some one = opened_more t m p some

piece_on : (x s p : List ℕ) (at k : ℕ) → take at x ≡ take at s → at + k ≤ length s → p ≡ take k (drop at s) → take (at + k) (written x at p) ≡ take (at + k) s
piece_on x s p at k same le is =
    let fill : List ℕ = replicate (at - length x) 0 in
    let rest : List ℕ = drop (at + length p) x in
    let front : List ℕ = take at (x ++ fill) in
    let wide : length p ≡ k = omega (arith, ap (λ (l : List ℕ). length l) is, length-take k (drop at s), length-drop at s, le) in
    let long : at ≤ length x = omega (arith, ap (λ (l : List ℕ). length l) same, length-take at x, length-take at s, le) in
    let front_is : front ≡ take at s = take-append-le at x fill long ∙ same in
    let front_long : length front ≡ at = omega (arith, ap (λ (l : List ℕ). length l) front_is, length-take at s, le) in
    ap (λ (l : List ℕ). take (at + k) l) (sym (append_assoc front p rest))
    ∙ take_at (front ++ p) rest (at + k) (omega (arith, length-append front p, front_long, wide))
    ∙ ap (λ (l : List ℕ). l ++ p) front_is
    ∙ ap (λ (l : List ℕ). take at s ++ l) is
    ∙ ap (λ (l : List ℕ). l ++ take k (drop at s)) (sym (take-take at (at + k) s (omega arith)))
    ∙ ap (λ (l : List ℕ). take at (take (at + k) s) ++ l) (sym (drop-take at k s))
    ∙ take-append-drop at (take (at + k) s)

pub copied_more : (s t p : List ℕ) (at k : ℕ) → 1 ≤ at → HasShutGate t → take at (opened t) ≡ take at s → at + k ≤ length s → p ≡ take k (drop at s) → take (at + k) (opened (written t at p)) ≡ take (at + k) s
copied_more s t p at k after shut same le is =
    ap (λ (l : List ℕ). take (at + k) l) (opened_written t at p shut.some after) ∙ piece_on (opened t) s p at k same le is
