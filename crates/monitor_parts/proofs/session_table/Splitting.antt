-- Where bytes part at a byte.
use Rattle.std.proofs.Common.{◌≡◌, refl, sym, ℕ, ◌+◌, ◌-◌, ◌<◌, zero, suc, true, false, List, [], ◌∷◌, length, take, drop, get_or, Some, None, add-one, length-drop, arith}
use Rattle.std.proofs.lemmas.List.{take_all}
use Rattle.std.specs.Prelude.{◌==◌}
use Rattle.abstract_monitor.specs.Bytes.{Bytes}
use Rattle.abstract_monitor.specs.Sessions.{split_at}

-- the byte is not among those before a place
abbrev pub IsBefore : (mark : ℕ) → Bytes → (n : ℕ) → Type 0
IsBefore mark bytes n = (k : ℕ) → k < n → get_or bytes k 0 ≡ mark → ⊥

-- it is at this place first
pub parts_at : (mark : ℕ) (bytes : List ℕ) (n : ℕ) → n < length bytes → IsBefore mark bytes n → get_or bytes n 0 ≡ mark → split_at mark bytes ≡ record { word = take n bytes; rest = Some (drop (suc n) bytes) }
unfolding split_at
parts_at mark [] n lt before here = absurd (omega arith)
parts_at mark (c ∷ cs) zero lt before here =
    let same : (c == mark) ≡ true = grind arith in
    rw same refl
parts_at mark (c ∷ cs) (suc n) lt before here =
    let other : (c == mark) ≡ false = grind (arith, before 0 (omega arith)) in
    let rest = parts_at mark cs n (omega arith) (λ k below is. before (suc k) (omega arith) is) here in
    rw (other, rest) refl

-- it is nowhere
pub parts_nowhere : (mark : ℕ) (bytes : List ℕ) → IsBefore mark bytes (length bytes) → split_at mark bytes ≡ record { word = bytes; rest = None }
unfolding split_at
parts_nowhere mark [] before = refl
parts_nowhere mark (c ∷ cs) before =
    let other : (c == mark) ≡ false = grind (arith, before 0 (omega arith)) in
    let rest = parts_nowhere mark cs (λ k below is. before (suc k) (omega arith) is) in
    rw (other, rest) refl

-- the same, as a slice's rest is read
pub parts_there : (mark : ℕ) (bytes : List ℕ) (n : ℕ) → n < length bytes → IsBefore mark bytes n → get_or bytes n 0 ≡ mark → record { word = take n bytes; rest = Some (take (length bytes - (n + 1)) (drop (n + 1) bytes)) } ≡ split_at mark bytes
parts_there mark bytes n lt before here =
    let whole : take (length bytes - (n + 1)) (drop (n + 1) bytes) ≡ drop (n + 1) bytes = take_all _ _ (omega (arith, length-drop (n + 1) bytes)) in
    rw (whole, add-one) (sym (parts_at mark bytes n lt before here))
