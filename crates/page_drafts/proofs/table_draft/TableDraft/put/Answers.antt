use Rattle.std.proofs.Common.{◌≡◌, ◌++◌, ℕ, List, Option, Some, None, get_or, ap, sym, subst}
use Rattle.std.proofs.lemmas.List.{append-nil}
use Rattle.std.proofs.lemmas.Option.{slice_get-get_or}
use Rattle.kd_records.specs.declared.key.RecordKey.{RecordKey}
use Rattle.kdcfile_layout.specs.declared.chain.Chain.{Chain}
use Rattle.kdcfile_layout.specs.Places.{At}
use Rattle.page_drafts.specs.Tables.{IsPlaceFor, IsAbsent, pages_in}
use Rattle.page_drafts.proofs.table_draft.TableDraft.put.Goals as goal

-- no chain is in a slot for a key that no slot has
none_freed : (slots : List (Option Chain)) (k : RecordKey) (s : ℕ) (freed : List ℕ) → IsAbsent k slots → IsPlaceFor k s slots → freed ≡ freed ++ pages_in (get_or slots s None)
none_freed slots k s freed absent place = by (get_or slots s None) (slice_get-get_or slots s None place.there)
  where
    by : (o : Option Chain) → At slots s o → freed ≡ freed ++ pages_in o
    by None at = sym (append-nil freed)
    by (Some c) at = absurd (absent s c at (place.own c at))

pub returns-in_ok-add-in-None-clause-freed : goal.returns-in_ok-add-in-None-clause-freed
returns-in_ok-add-in-None-clause-freed c =
    none_freed c.args.self.now.slots c.args.chain.key c.in_ok-add-in-None.field-0 c.args.freed.now.items (subst (λ slots. IsAbsent c.args.chain.key slots) (ap (λ v. v.slots) c.self.view_is) c.in-None.ensures.none) c.in_ok-add-in-None.ensures.place
