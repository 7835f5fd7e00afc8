-- Several writes before one sync, and a selector after them.
use Rattle.std.specs.Prelude.{◌≡◌, ◌⊎◌, ◌≤◌, ◌+◌, ℕ, min, List, ◌∷◌, length, sum_by, All}
use Rattle.kd_device.specs.Device.{State, LeavesOnly, Torn, written}
use Rattle.kdcfile_layout.specs.Layout.{StandsAt}
use Rattle.kdcfile_layout.specs.declared.page.PageWrite.{PageWrite}
use Rattle.std.proofs.Common.{[]}

-- the file after these writes
abbrev pub written_all : List ℕ → List PageWrite → List ℕ
written_all h [] = h
written_all h (w ∷ ws) = written_all (written h w.at w.bytes) ws

-- how many bytes they are
abbrev pub total : List PageWrite → ℕ
total ws = sum_by (λ w. length w.bytes) ws

-- none passes this end
abbrev pub AllBelow : ℕ → List PageWrite → Type 0
AllBelow end ws = All (λ w. w.at + length w.bytes ≤ end) ws

-- so many bytes from a place on are none of the bytes that are written
abbrev pub IsApart : ℕ → ℕ → List PageWrite → Type 0
IsApart at n ws = All (λ w. (at + n ≤ w.at) ⊎ (w.at + length w.bytes ≤ at)) ws

-- what is in h apart from the writes is in c too, and no byte is cut off
pub record Keeps (ws : List PageWrite) (h c : List ℕ) : Type 0 where
  pub stands : (q : ℕ) (part : List ℕ) → StandsAt q part h → q + length part ≤ length h → IsApart q (length part) ws → StandsAt q part c
  pub no_shorter : length h ≤ length c

-- what a stop leaves where these writes are made and then selected: what is apart from them, or all of them with any
-- selector
abbrev pub KeepsOrSelects : List PageWrite → List ℕ → List ℕ → Type 0
KeepsOrSelects ws h c = Keeps ws h c ⊎ Torn (min 4096 (length (written_all h ws))) 4097 (written_all h ws) c

-- from a to b at most these writes were made
pub record Stages (ws : List PageWrite) (a b : State) (la lb : ℕ → List ℕ → List ℕ → Type 0) : Type 0 where
  pub sent : b.sent ≡ a.sent
  pub put : b.put ≤ a.put + total ws
  pub leaves : LeavesOnly a b la lb (λ c out. (out ≡ a.sent) × Keeps ws a.holds c)

-- from a to b at most these writes were made, and then the selector's
pub record Selects (ws : List PageWrite) (a b : State) (la lb : ℕ → List ℕ → List ℕ → Type 0) : Type 0 where
  pub sent : b.sent ≡ a.sent
  pub put : b.put ≤ a.put + total ws + 1
  pub leaves : LeavesOnly a b la lb (λ c out. (out ≡ a.sent) × KeepsOrSelects ws a.holds c)
