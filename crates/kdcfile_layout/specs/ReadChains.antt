-- Chains that are read, and chains that stand.
use Rattle.std.proofs.Common.{◌≡◌, ℕ, ◌+◌, ◌-◌, ◌*◌, ◌<◌, ◌≤◌, ◌^◌, List, length, take, drop, Some}
use Rattle.std.specs.Prelude.{All}
use Rattle.kd_records.specs.declared.key.RecordKey.{RecordKey}
use Rattle.kdcfile_layout.specs.Layout.{PartStands, page_place, chain_head, chain_parts, first_of_pages}
use Rattle.kdcfile_layout.specs.Chains.{page_at, Held, Chained, chain_of}

-- so many pages hold so many bytes
pub record Holds (size left room : ℕ) : Type 0 where
  pub block : 48 < size
  pub some : 1 ≤ left
  pub least : (left - 1) * (size - 48) ≤ room
  pub most : room ≤ left * (size - 48)

-- the pages are there, and each part stands on its own
pub record ChainStands (size count : ℕ) (h : List ℕ) (k : RecordKey) (n part : ℕ) (value pages : List ℕ) : Type 0 where
  pub below : All (λ (p : ℕ). p < count) pages
  pub parts : All (PartStands size h) (chain_parts (size - 48) k n part value pages)

-- what stands is read
abbrev pub ChainsAreRead : Type 0
ChainsAreRead = (size count : ℕ) (h : List ℕ) (k : RecordKey) (n part left room : ℕ) (value pages : List ℕ) → length k.bytes ≡ 24 → count < 2 ^ 32 - 1 → Holds size left room → length pages ≡ left → length value ≡ room → ChainStands size count h k n part value pages
    → chain_of size count h k n part left room (first_of_pages pages) ≡ Some (pages, value)

-- what is read stands
abbrev pub ReadChainsStand : Type 0
ReadChainsStand = (size count : ℕ) (h : List ℕ) (k : RecordKey) (n part left room p : ℕ) (value pages : List ℕ) → length k.bytes ≡ 24 → Holds size left room → chain_of size count h k n part left room p ≡ Some (pages, value)
    → (first_of_pages pages ≡ p) × (length pages ≡ left) × (length value ≡ room) × ChainStands size count h k n part value pages

-- what is known of a part that is held
pub record IsHeld (size count : ℕ) (h : List ℕ) (k : RecordKey) (n part p : ℕ) (q : Held) : Type 0 where
  pub below : p < count
  pub inside : page_place size p + size ≤ length h
  pub headed : take 48 (page_at size h p) ≡ chain_head k n part q.0
  pub after : q.1 ≡ drop 48 (page_at size h p)

-- a chain that was read, with what stands
abbrev pub Read : ℕ → ℕ → List ℕ → RecordKey → ℕ → ℕ → ℕ → ℕ → ℕ → Chained → Type 0
Read size count h k n part left room p r = (first_of_pages r.0 ≡ p) × (length r.0 ≡ left) × (length r.1 ≡ room) × ChainStands size count h k n part r.1 r.0
