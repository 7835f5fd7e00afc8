-- What an auditor may take of the entries of a trail.
use Rattle.std.proofs.Common.{◌≡◌, ℕ, ◌<◌, length, get_or, refl, sym, subst, inl, inr}
use Rattle.std.specs.Prelude.{IsTrue}
use Rattle.std.proofs.lemmas.List.Elements.{All-weaker}
use Rattle.std.proofs.lemmas.List.Sums.{list_all-from_AllPass}
use Rattle.kdcs_types.specs.declared.call.Code.{Code}
use Rattle.kdcs_types.specs.declared.service.Note.{Note}
use Rattle.kdcs_types.specs.declared.service.Note.TheVariants.{Released, Refused}
use Rattle.laws_of_states.specs.Replay.{is_made, refuses}
use Rattle.audit_trail.specs.declared.entry.By.{By}
use Rattle.audit_trail.specs.declared.entry.By.TheVariants.{Tick, Shown, Transaction}
use Rattle.audit_trail.specs.declared.entry.Trail.{Trail}
use Rattle.audit_trail.specs.declared.entry.TrailEntry.{TrailEntry}
use Rattle.audit_trail.specs.Facts.{IsEntry, IsMaker, IsNote, IsRefusal, IsTrail}
use Rattle.serial_audit.specs.Audit.{HasTrailRecord}

refusal_refuses : (code : Code) → IsRefusal code → IsTrue (refuses code)
refusal_refuses code (inl is) = subst (λ (c : Code). IsTrue (refuses c)) (sym is) refl
refusal_refuses code (inr is) = subst (λ (c : Code). IsTrue (refuses c)) (sym is) refl

note_is_made : (note : Note) → IsNote note → IsTrue (is_made note)
note_is_made (Released area content) h = refl
note_is_made (Refused area code) h = refusal_refuses code h.1

has_record : (by : By) → IsMaker by → HasTrailRecord by
has_record (Tick ticks) h = tt
has_record (Shown lterm) h = tt
has_record (Transaction kept) h = record {
  statements = h.statements;
  notes = list_all-from_AllPass is_made kept.notes (All-weaker IsNote (λ (n : Note). IsTrue (is_made n)) note_is_made kept.notes h.notes);
}

pub entry_record : (trail : Trail) → IsTrail trail → (i : ℕ) (e : TrailEntry) → e ≡ get_or trail.entries i e → i < length trail.entries → HasTrailRecord e.by
entry_record trail is_trail i e is lt = has_record e.by (subst IsEntry (sym is) (is_trail.entries i e lt)).by
