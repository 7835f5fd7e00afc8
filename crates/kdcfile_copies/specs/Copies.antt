-- What a copy of a KDCFILE is, which of two files counts, and which patch makes the next copy.
use Rattle.std.specs.FinMap as map
use Rattle.std.specs.Prelude.{◌≡◌, ◌≢◌, ◌⊎◌, ◌≤◌, ◌<◌, ◌^◌, ℕ, List, [], ◌∷◌, replicate, Some, None, All}
use Rattle.std.specs.FinMap.{put}
use Rattle.std.specs.Int.{w64, to_be_bytes}
use Rattle.kd_records.specs.declared.content.Content.{Content}
use Rattle.kd_records.specs.declared.content.Patch.{Patch}
use Rattle.kd_records.specs.declared.key.RecordKey.{RecordKey}
use Rattle.kd_records.specs.Contents.{Change, without}
use Rattle.kd_records.specs.Identity.{Identity}
use Rattle.kd_records.specs.Keys.{key_cmp}
use Rattle.kdcfile_layout.specs.Layout.{StandsFor}

-- the key of the record that only a copy has
unfoldable pub sequence_key : RecordKey
sequence_key = record { kind = 7; bytes = replicate 24 0 }

-- its value: the sequence in eight bytes
unfoldable pub sequence_value : ℕ → List ℕ
sequence_value n = to_be_bytes w64 n

-- a content with that record
abbrev pub with_sequence : ℕ → Content → Content
with_sequence n x = record x { items = put key_cmp sequence_key (sequence_value n) x.items }

-- a content without it
abbrev pub bare : Content → Content
bare y = record y { items = without sequence_key y.items }

abbrev pub IsBare : Content → Type 0
IsBare x = map.find key_cmp sequence_key x.items ≡ None

-- the content has that record, and its value is this sequence
pub record HasSequence (n : ℕ) (y : Content) : Type 0 where
  pub found : map.find key_cmp sequence_key y.items ≡ Some (sequence_value n)
  pub small : n < 2 ^ 64

-- the bytes are a copy of this sequence with this content
pub record IsCopyOf (i : Identity) (n : ℕ) (x : Content) (bytes : List ℕ) : Type 0 where
  pub content : StandsFor i (with_sequence n x) bytes
  pub bare : IsBare x
  pub small : n < 2 ^ 64

abbrev pub IsNoCopy : List ℕ → Type 0
IsNoCopy bytes = (i : Identity) (n : ℕ) (x : Content) → IsCopyOf i n x bytes → ⊥

-- no copy of a greater sequence
abbrev pub AtMost : ℕ → List ℕ → Type 0
AtMost n bytes = (j : Identity) (m : ℕ) (y : Content) → IsCopyOf j m y bytes → m ≤ n

-- no copy, or one of a lesser sequence
abbrev pub Below : ℕ → List ℕ → Type 0
Below n bytes = (j : Identity) (m : ℕ) (y : Content) → IsCopyOf j m y bytes → m < n

-- of two files, the copy that counts: that of the greater sequence, and the first one where both have the same
abbrev pub IsChosen : Identity → ℕ → Content → (a b : List ℕ) → Type 0
IsChosen i n x a b = (IsCopyOf i n x a × AtMost n b) ⊎ (IsCopyOf i n x b × Below n a)

-- a file beside which a copy stays the one that counts, whichever of the two is the first
abbrev pub IsNoRival : Identity → ℕ → Content → List ℕ → Type 0
IsNoRival i n x bytes = Below n bytes ⊎ IsCopyOf i n x bytes

-- the patch that sets the sequence too
abbrev pub next_patch : ℕ → Patch → Patch
next_patch n p = record p { items = put key_cmp sequence_key (Some (sequence_value n)) p.items }

-- no key of the patch has the kind of that record
abbrev pub HasNoSequence : Patch → Type 0
HasNoSequence p = All (λ (c : Change). c.0.kind ≢ 7) p.items

-- the patch that sets the sequence alone
abbrev pub sequence_alone : ℕ → Content → Patch
sequence_alone n x = record { clock = x.clock; next_job = x.next_job; items = (sequence_key, Some (sequence_value n)) ∷ [] }
