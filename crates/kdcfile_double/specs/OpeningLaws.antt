-- Laws: what is known of a store that was chosen of two files.
use Rattle.std.specs.Prelude.{◌≡◌, ◌≤◌, ◌<◌, ℕ, ◌+◌, List, Option, Some, None}
use Rattle.std.proofs.Common.{inl, inr, arith, refl, sym, subst, ◌∙◌}
use Rattle.kd_records.specs.Charge.{total_charge}
use Rattle.kd_records.specs.Identity.{Identity}
use Rattle.kd_records.specs.declared.content.Content.{Content}
use Rattle.kd_device.specs.Twin.{Both}
use Rattle.kd_device.specs.declared.half.Half.TheVariants.{First, Second}
use Rattle.application_types.specs.Generation.{Generated}
use Rattle.kdcs_types.specs.Tables.{TableRows}
use Rattle.laws_of_states.specs.Suits.{Suits}
use Rattle.kdcfile_store.specs.Paged.{HasFile}
use Rattle.kdcfile_copies.specs.declared.answer.LoadedCopy.{LoadedCopy}
use Rattle.kdcfile_copies.specs.Copies.{AtMost, Below}
use Rattle.device_acts.specs.ContentLaws.{content_charged}
use Rattle.kdcfile_double.specs.Twice.{Twice, IsKeptTwice, SideRests, identity_of, sequence_of, content_of}
use Rattle.kdcfile_double.specs.Opening.{IsSpent, KeepsTablesTwice, StartsFromTwo, identity_twice, last_sequence}
use Rattle.kdcfile_double.specs.Mended.{BothRest}
use Rattle.kdcfile_double.specs.Choice.{AreOfFiles}
use Rattle.kdcfile_double.specs.ChoiceLaws.{chosen_tables}

none_some : {A : Type 0} {x : A} → None ≡ Some x → ⊥
none_some e = absurd cc

-- a stop leaves of both files what they hold
module _ (s : Twice) (b : Both) (leaves : ℕ → List ℕ → List ℕ → List ℕ → Type 0) (fits : AreOfFiles s b.first.holds b.second.holds) where
  first_at_rest : (o : Option LoadedCopy) → s.first ≡ o → (c : List ℕ) → c ≡ b.first.holds → SideRests First (identity_of s) (sequence_of s) (content_of s) o b.first.holds c
  first_at_rest (Some p) e c same = (same, subst (λ (l : List ℕ). HasFile p.store l) (sym same) (fits.first_has p e))
  first_at_rest None e c same = inl (subst (λ (l : List ℕ). Below (sequence_of s) l) (sym same) (fits.in_use.first_is_not (λ used. none_some (sym e ∙ used.1))))

  second_at_rest : (o : Option LoadedCopy) → s.second ≡ o → (d : List ℕ) → d ≡ b.second.holds → SideRests Second (identity_of s) (sequence_of s) (content_of s) o b.second.holds d
  second_at_rest (Some q) e d same = (same, subst (λ (l : List ℕ). HasFile q.store l) (sym same) (fits.second_has q e))
  second_at_rest None e d same = subst (λ (l : List ℕ). AtMost (sequence_of s) l) (sym same) (fits.in_use.second_is_not (λ used. none_some (sym e ∙ used.1))).0

  pub kept_of_files : BothRest b leaves → IsKeptTwice s b leaves
  kept_of_files rest = record {
    first_rests = λ c d left. first_at_rest s.first refl c (rest.first_rests c d left);
    second_rests = λ c d left. second_at_rest s.second refl d (rest.second_rests c d left);
  }

-- there are pages for what is kept and for the record of the sequence
pub fits_twice : (g : Generated) (fingerprint : List ℕ) (s : Twice) (t : TableRows) → KeepsTablesTwice (identity_twice g fingerprint) s t → Suits g t → total_charge (identity_of s).blksize (content_of s).items + 1 ≤ (identity_of s).pages
fits_twice g fingerprint s t k suits =
    subst (λ (i : Identity). total_charge i.blksize (content_of s).items + 1 ≤ i.pages) (sym k.identity_is)
    (subst (λ (x : Content). total_charge g.limits.blksize x.items + 1 ≤ g.limits.pgpool + 1) (sym k.content) (omega (arith, content_charged g t k.tables.proper suits)))

module _ (g : Generated) (fingerprint : List ℕ) (s : Twice) (a b : List ℕ) (fits : AreOfFiles s a b) where
  pub starts_two : (t : TableRows) → KeepsTablesTwice (identity_twice g fingerprint) s t → Suits g t → sequence_of s ≤ last_sequence → StartsFromTwo g fingerprint a b t
  starts_two t keeps suits most = inr (sequence_of s, most, (chosen_tables s a b fits (identity_twice g fingerprint) t keeps, suits))

  pub is_spent : (t : TableRows) → KeepsTablesTwice (identity_twice g fingerprint) s t → Suits g t → last_sequence < sequence_of s → IsSpent g fingerprint (sequence_of s) a b
  is_spent t keeps suits great = record { great = great; goes_on = (t, (chosen_tables s a b fits (identity_twice g fingerprint) t keeps, suits)) }
