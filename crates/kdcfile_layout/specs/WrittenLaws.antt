-- Parts of a file after a write.
use Rattle.std.proofs.Common.{◌≡◌, ℕ, ◌+◌, ◌-◌, ◌≤◌, min, List, ◌++◌, length, take, drop, replicate, refl, sym, ap, ◌∙◌, arith, length-append}
use Rattle.std.proofs.Math.Seq.{take-append-add}
use Rattle.std.proofs.lemmas.List.{take-append-drop, drop-drop, take_at, drop_at}
use Rattle.kd_device.specs.Device.{written}
use Rattle.kd_device.specs.TornLaws.{torn_done, length_front}
use Rattle.kdcfile_layout.specs.Layout.{StandsAt}
use Rattle.kdcfile_layout.specs.PartsLaws.{stands_below, stands_above}

-- what was written is there
pub written_stands : (h : List ℕ) (at : ℕ) (part : List ℕ) → StandsAt at part (written h at part)
written_stands h at part =
    ap (λ (l : List ℕ). take (length part) l) (drop_at (take at (h ++ replicate (at - length h) 0)) (part ++ drop (at + length part) h) at (length_front h at part))
    ∙ take_at part (drop (at + length part) h) (length part) refl

-- two parts, one after the other
pub joined_stand : (p : ℕ) (xs ys c : List ℕ) → StandsAt p xs c → StandsAt (p + length xs) ys c → StandsAt p (xs ++ ys) c
joined_stand p xs ys c first second =
    let rest : drop p c ≡ xs ++ drop (p + length xs) c = sym (take-append-drop (length xs) (drop p c)) ∙ ap (λ (l : List ℕ). l ++ drop (length xs) (drop p c)) first ∙ ap (λ (l : List ℕ). xs ++ l) (drop-drop (length xs) p c) in
    ap (λ (n : ℕ). take n (drop p c)) (length-append xs ys) ∙ ap (λ (l : List ℕ). take (length xs + length ys) l) rest ∙ take-append-add xs (drop (p + length xs) c) (length ys) ∙ ap (λ (l : List ℕ). xs ++ l) second

-- a part below a write stays
pub below_write : (h : List ℕ) (at : ℕ) (bytes : List ℕ) (q : ℕ) (part : List ℕ) → StandsAt q part h → q + length part ≤ at → q + length part ≤ length h → StandsAt q part (written h at bytes)
below_write h at bytes q part stands le inside = stands_below (min at (length h)) (at + length bytes) h (written h at bytes) (torn_done h at bytes) q part stands (omega arith)

-- a part after a write stays
pub above_write : (h : List ℕ) (at : ℕ) (bytes : List ℕ) (q : ℕ) (part : List ℕ) → StandsAt q part h → at + length bytes ≤ q → StandsAt q part (written h at bytes)
above_write h at bytes q part stands le = stands_above (min at (length h)) (at + length bytes) h (written h at bytes) (torn_done h at bytes) q part stands le
