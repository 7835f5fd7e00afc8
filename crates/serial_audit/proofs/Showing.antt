-- Tables that show a content in one area.
use Rattle.std.specs.Prelude.{◌≡◌, refl, ℕ, Bool, true, false, cond, IsTrue, [], ◌∷◌, Option, Some, None, option_map}
use Rattle.std.proofs.Common.{ap, inl, inr, ◌∙◌}
use Rattle.kdcs_types.specs.declared.key.Area.{Area}
use Rattle.kdcs_types.specs.declared.key.Area.TheVariants.{Gssb, Tls, Uls}
use Rattle.kdcs_types.specs.declared.key.Key.TheVariants as key
use Rattle.kdcs_types.specs.KeyLaws.{key_eq_itself}
use Rattle.kdcs_types.specs.Keys.{key_eq}
use Rattle.kdcs_types.specs.Tables.{content_of}
use Rattle.abstract_monitor.specs.Bytes.{Bytes}
use Rattle.laws_of_states.specs.Suits.{fits_content}
use Rattle.laws_of_states.specs.Transactions.{fits_if_there}
use Rattle.kdcs_calls.specs.Stating.{ContentsFit}
use Rattle.serial_audit.specs.Asking.{showing}
use Rattle.serial_audit.proofs.Relabelling.{IsShownAs}

-- one row, or none
row_or_none : {E : Type 0} (content : E → Bytes) (e : E) (bytes : Bytes) → content e ≡ bytes → IsTrue (fits_content bytes) → (b : Bool) → IsTrue (fits_if_there (option_map content (cond b (Some e) None)))
row_or_none content e bytes is fits true = ap fits_content is ∙ fits
row_or_none content e bytes is fits false = refl

module _ (clock : ℕ) where
  pub shown_fits : (area : Area) (content : Option Bytes) → IsTrue (fits_if_there content) → ContentsFit (showing clock area content)
  shown_fits area None fits (Gssb m) = refl
  shown_fits area None fits (Tls c m) = refl
  shown_fits area None fits (Uls c m) = refl
  shown_fits (Gssb n) (Some bytes) fits (Gssb m) = row_or_none (λ (r : Bytes × Bytes). r.1) (n, bytes) bytes refl fits (key_eq (key.Gssb m) (key.Gssb n))
  shown_fits (Tls b l) (Some (x ∷ xs)) fits (Tls c m) = row_or_none (λ (r : Bytes × Bytes × Bytes). r.2) (b, l, x ∷ xs) (x ∷ xs) refl fits (key_eq (key.Tls c m) (key.Tls b l))
  shown_fits (Uls b l) (Some (x ∷ xs)) fits (Uls c m) = row_or_none (λ (r : Bytes × Bytes × Bytes). r.2) (b, l, x ∷ xs) (x ∷ xs) refl fits (key_eq (key.Uls c m) (key.Uls b l))
  shown_fits (Tls b l) (Some []) fits (Gssb m) = refl
  shown_fits (Tls b l) (Some []) fits (Tls c m) = refl
  shown_fits (Tls b l) (Some []) fits (Uls c m) = refl
  shown_fits (Uls b l) (Some []) fits (Gssb m) = refl
  shown_fits (Uls b l) (Some []) fits (Tls c m) = refl
  shown_fits (Uls b l) (Some []) fits (Uls c m) = refl
  shown_fits (Gssb n) (Some bytes) fits (Tls c m) = refl
  shown_fits (Gssb n) (Some bytes) fits (Uls c m) = refl
  shown_fits (Tls b l) (Some (x ∷ xs)) fits (Gssb m) = refl
  shown_fits (Tls b l) (Some (x ∷ xs)) fits (Uls c m) = refl
  shown_fits (Uls b l) (Some (x ∷ xs)) fits (Gssb m) = refl
  shown_fits (Uls b l) (Some (x ∷ xs)) fits (Tls c m) = refl

  pub shown_as : (area : Area) (content : Option Bytes) → IsShownAs area content (content_of (showing clock area content) area)
  shown_as (Gssb n) None = inl refl
  shown_as (Tls b l) None = inl refl
  shown_as (Uls b l) None = inl refl
  shown_as (Gssb n) (Some bytes) = inl (ap (λ (k : Bool). option_map (λ (r : Bytes × Bytes). r.1) (cond k (Some (n, bytes)) None)) (key_eq_itself (key.Gssb n)))
  shown_as (Tls b l) (Some []) = inr (refl, refl, refl)
  shown_as (Uls b l) (Some []) = inr (refl, refl, refl)
  shown_as (Tls b l) (Some (x ∷ xs)) = inl (ap (λ (k : Bool). option_map (λ (r : Bytes × Bytes × Bytes). r.2) (cond k (Some (b, l, x ∷ xs)) None)) (key_eq_itself (key.Tls b l)))
  shown_as (Uls b l) (Some (x ∷ xs)) = inl (ap (λ (k : Bool). option_map (λ (r : Bytes × Bytes × Bytes). r.2) (cond k (Some (b, l, x ∷ xs)) None)) (key_eq_itself (key.Uls b l)))
