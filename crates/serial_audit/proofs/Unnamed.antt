-- What is no name names nothing in a generation.
use Rattle.std.specs.Prelude.{◌≡◌, refl, ◌≤◌, Bool, false, IfSome, List, get_or, length, slice_get, Option, Some, None, is_some}
use Rattle.std.proofs.Common.{arith, sym, ap, ◌∙◌}
use Rattle.std.proofs.lemmas.Option.{slice_get-get_or}
use Rattle.kd_base.specs.Text.{IsName}
use Rattle.application_types.specs.declared.kdcdef_types.entry.LtermEntry.{LtermEntry}
use Rattle.application_types.specs.declared.kdcdef_types.entry.TacEntry.{TacEntry}
use Rattle.application_types.specs.Generation.{Generated, entry_of}
use Rattle.application_types.specs.Soundness.{AreNamed, HaveProperNames}
use Rattle.abstract_monitor.specs.Bytes.{Bytes}
use Rattle.abstract_monitor.specs.Calls.{or_empty}
use Rattle.abstract_monitor.specs.Statements.{Kept}
use Rattle.laws_of_states.specs.Replay.{tac_in}
use Rattle.laws_of_states.specs.Suits.{has_kind, has_kind_by, is_lterm}
use Rattle.laws_of_states.specs.KeptEntriesLaws.{entries_have}

unnamed : {A : Type 0} (entries : List (Bytes × A)) → HaveProperNames entries → (bytes : Bytes) → (IsName bytes → ⊥) → entry_of entries bytes ≡ None
unnamed {A} entries proper bytes not = by (entry_of entries bytes) (entries_have (λ (e : Bytes × A). IsName e.0) entries proper bytes)
  where
    by : (o : Option A) → IfSome o (λ (a : A). IsName bytes) → o ≡ None
    by None is = refl
    by (Some a) is = absurd (not is)

pub no_tac : (g : Generated) → AreNamed g → (bytes : Bytes) (asynchronous : Bool) → (IsName bytes → ⊥) → has_kind g bytes asynchronous ≡ false
no_tac g names bytes asynchronous not = ap (λ (o : Option TacEntry). has_kind_by o asynchronous) (unnamed g.tacs names.tacs bytes not)

pub no_lterm : (g : Generated) → AreNamed g → (bytes : Bytes) → (IsName bytes → ⊥) → is_lterm g bytes ≡ false
no_lterm g names bytes not = ap (λ (o : Option LtermEntry). is_some o) (unnamed g.lterms names.lterms bytes not)

-- the first name of the inputs
pub first_named : (r : Kept) (slice : List Bytes) (bytes : Bytes) → slice ≡ r.inputs → 2 ≤ length r.inputs → bytes ≡ get_or slice 0 bytes → tac_in r ≡ bytes
first_named r slice bytes same both is =
    ap (λ (l : List Bytes). or_empty (slice_get l 0)) (sym same)
    ∙ ap or_empty (slice_get-get_or slice 0 bytes (omega (arith, both, ap length same)))
    ∙ sym is
