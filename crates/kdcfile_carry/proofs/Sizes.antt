-- How many bytes a backup writes.
use Rattle.std.specs.Prelude.{◌≡◌, ◌⊎◌, ◌≤◌, ℕ, ◌+◌, List, []}
use Rattle.std.proofs.Common.{inl, inr, subst, arith}
use Rattle.kd_device.specs.Device.{State}
use Rattle.kd_records.specs.Identity.{Identity}
use Rattle.kd_records.specs.declared.content.Content.{Content}
use Rattle.kdcs_types.specs.Tables.{TableRows}
use Rattle.application_types.specs.Generation.{Generated}
use Rattle.record_codec.specs.Records.{content_of_tables}
use Rattle.device_acts.specs.Stands.{identity_for}
use Rattle.kdcfile_store.specs.Carried.{carry_most}
use Rattle.kdcfile_store.specs.Paged.{made_length}
use Rattle.kdcfile_carry.specs.Files.{AreFiles, Files}
use Rattle.kdcfile_carry.specs.Ways.{IsUpToDate}
use Rattle.kdcfile_carry.specs.Writing.{WritesBackup, backup_most}

-- the file was made, with these sizes
pub made_only : (s t : State) (i j : Identity) (x : Content) → i ≡ j → t.put ≤ s.put + made_length i + 1 → t.put ≤ s.put + (made_length j + 1 + carry_most j x)
made_only s t i j x same most = subst (λ (k : Identity). t.put ≤ s.put + (made_length k + 1 + carry_most k x)) same (by (made_length i) (carry_most i x) most)
  where
    by : (m n : ℕ) → t.put ≤ s.put + m + 1 → t.put ≤ s.put + (m + 1 + n)
    by m n le = omega (arith, le)

-- and the content carried into it
pub made_then : (s t u : State) (i j : Identity) (x : Content) → i ≡ j → t.put ≤ s.put + made_length i + 1 → u.put ≤ t.put + carry_most i x → u.put ≤ s.put + (made_length j + 1 + carry_most j x)
made_then s t u i j x same most more = subst (λ (k : Identity). u.put ≤ s.put + (made_length k + 1 + carry_most k x)) same (by (made_length i) (carry_most i x) most more)
  where
    by : (m n : ℕ) → t.put ≤ s.put + m + 1 → u.put ≤ t.put + n → u.put ≤ s.put + (m + 1 + n)
    by m n one two = omega (arith, one, two)

-- after the file was looked at
pub written_since : (g : Generated) (fingerprint : List ℕ) (t : TableRows) (s b u : State) (x : Content) → x ≡ content_of_tables t → s.holds ≡ [] → b.put ≡ s.put → u.put ≤ b.put + (made_length (identity_for g fingerprint) + 1 + carry_most (identity_for g fingerprint) x)
    → (u.put ≡ s.put) ⊎ ((s.holds ≡ []) × (u.put ≤ s.put + backup_most g fingerprint t))
written_since g fingerprint t s b u x is empty same most =
    inr (empty, subst (λ (n : ℕ). u.put ≤ n + backup_most g fingerprint t) same (subst (λ (y : Content). u.put ≤ b.put + (made_length (identity_for g fingerprint) + 1 + carry_most (identity_for g fingerprint) y)) is most))

-- of these files
pub of_files : (g : Generated) (fingerprint p q : List ℕ) (f : Files) (s u : State) → AreFiles f p q → IsUpToDate g fingerprint f → (u.put ≡ s.put) ⊎ ((s.holds ≡ []) × (u.put ≤ s.put + backup_most g fingerprint f.tables)) → WritesBackup g fingerprint p q s u
of_files g fingerprint p q f s u are up (inl none) = inl none
of_files g fingerprint p q f s u are up (inr h) = inr (h.0, (f, are, up, h.1))
