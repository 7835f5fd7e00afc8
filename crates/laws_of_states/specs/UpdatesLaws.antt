-- An open transaction that can go on still can after one part of it changed.
use Rattle.std.specs.Prelude.{◌≡◌, ◌≤◌, ℕ, Bool, List, length, IsTrue, Option, count_by}
use Rattle.std.proofs.Common.{◌∙◌}
use Rattle.std.specs.List.{list_all, list_any}
use Rattle.std.specs.FinMap.{is_sorted}
use Rattle.kdcs_types.specs.declared.key.Area.{Area}
use Rattle.kdcs_types.specs.declared.key.ServiceId.{ServiceId}
use Rattle.kdcs_types.specs.declared.service.Note.{Note}
use Rattle.kdcs_types.specs.Keys.{area_cmp, area_eq}
use Rattle.kdcs_types.specs.declared.run_state.RunState.{RunState}
use Rattle.abstract_monitor.specs.KeepsReady.{SameLengths}
use Rattle.application_types.specs.Generation.{Generated}
use Rattle.abstract_monitor.specs.declared.draft.Draft.{Draft}
use Rattle.abstract_monitor.specs.Bytes.{Bytes, bytes_cmp}
use Rattle.abstract_monitor.specs.State.{OpenTransaction}
use Rattle.abstract_monitor.specs.Endings.{is_asynchronous, header_of}
use Rattle.laws_of_states.specs.Suits.{fits_content, has_kind, is_user, is_lterm}
use Rattle.laws_of_states.specs.Transactions.{IsMessage, IsOwner, PutsNone, written_fits, draft_fits, CanGoOn}

-- the parts of what holds, each of some fields alone: where these stay, so does the part

-- owner, user, LTERM, first and current TAC, header
abbrev pub WhoPart : Generated → ServiceId → OpenTransaction → Type 0
WhoPart g id x =
    IsOwner id x.user × IsTrue (is_user g x.user) × IsTrue (is_lterm g x.lterm) × IsTrue (has_kind g x.first (is_asynchronous id)) × IsTrue (has_kind g x.current (is_asynchronous id))
    × (x.run.header ≡ header_of x.user x.lterm x.first x.current)

-- place, length read, time, KB and SPAB
abbrev pub RunPart : Generated → OpenTransaction → Type 0
RunPart g x = (1 ≤ x.run.place) × (x.run.length ≤ 99999) × (x.run.count ≤ x.run.budget) × (length x.run.kb ≡ g.limits.kb) × (length x.run.spab ≡ g.limits.spab)

-- what is unread, and what is put
abbrev pub MessagePart : Generated → ServiceId → OpenTransaction → Type 0
MessagePart g id x = IsMessage g x.unread × IsMessage g x.parts × PutsNone id x.parts

-- each area that is written is held
abbrev pub IsHeldIn : List Area → List (Area × Option Bytes) → Type 0
IsHeldIn touched written = IsTrue (list_all (λ (w : Area × Option Bytes). list_any (λ (held : Area). area_eq held w.0) touched) written)

-- order, content and locks of the areas written, and the locks
abbrev pub AreaPart : Generated → OpenTransaction → Type 0
AreaPart g x =
    IsTrue (is_sorted area_cmp x.written) × IsTrue (list_all (written_fits g) x.written) × IsHeldIn x.touched x.written
    × ((area : Area) → count_by (λ (held : Area). area_eq held area) x.touched ≤ 1)

-- order, count and content
abbrev pub LssbPart : Generated → List (Bytes × Bytes) → Type 0
LssbPart g lssbs = IsTrue (is_sorted bytes_cmp lssbs) × (length lssbs ≤ g.limits.lssbs) × IsTrue (list_all (λ (l : Bytes × Bytes). fits_content l.1) lssbs)

-- the whole from its parts
pub can_from : (g : Generated) (id : ServiceId) (x : OpenTransaction) → WhoPart g id x → RunPart g x → MessagePart g id x → AreaPart g x → LssbPart g x.lssbs → IsTrue (list_all (draft_fits g) x.drafts) → CanGoOn g id x
can_from g id x who run messages areas lssbs drafts = record {
  owner = who.0;
  user = who.1;
  lterm = who.2;
  first = who.3;
  current = who.4;
  header = who.5;
  place = run.0;
  read_length = run.1;
  time = run.2;
  kb = run.3;
  spab = run.4;
  unread = messages.0;
  parts = messages.1;
  puts = messages.2;
  written_order = areas.0;
  written = areas.1;
  written_held = areas.2;
  held_once = areas.3;
  lssbs_order = lssbs.0;
  lssbs_count = lssbs.1;
  lssbs = lssbs.2;
  drafts = drafts;
}

module _ (g : Generated) (id : ServiceId) (x : OpenTransaction) (can : CanGoOn g id x) where
  -- the parts of the whole
  pub who : WhoPart g id x
  who = (can.owner, can.user, can.lterm, can.first, can.current, can.header)

  pub run_part : RunPart g x
  run_part = (can.place, can.read_length, can.time, can.kb, can.spab)

  pub messages : MessagePart g id x
  messages = (can.unread, can.parts, can.puts)

  pub areas : AreaPart g x
  areas = (can.written_order, can.written, can.written_held, can.held_once)

  pub lssb_part : LssbPart g x.lssbs
  lssb_part = (can.lssbs_order, can.lssbs_count, can.lssbs)

  -- one field is another
  pub with_inited : (inited : Bool) → CanGoOn g id (record x { inited = inited })
  with_inited inited = can_from g id (record x { inited = inited }) who run_part messages areas lssb_part can.drafts

  pub with_notes : (notes : List Note) → CanGoOn g id (record x { notes = notes })
  with_notes notes = can_from g id (record x { notes = notes }) who run_part messages areas lssb_part can.drafts

  pub with_unread : (unread : List Bytes) → IsMessage g unread → CanGoOn g id (record x { unread = unread })
  with_unread unread fits = can_from g id (record x { unread = unread }) who run_part (fits, can.parts, can.puts) areas lssb_part can.drafts

  pub with_parts : (parts : List Bytes) → IsMessage g parts → PutsNone id parts → CanGoOn g id (record x { parts = parts })
  with_parts parts fits puts = can_from g id (record x { parts = parts }) who run_part (can.unread, fits, puts) areas lssb_part can.drafts

  pub with_written : (written : List (Area × Option Bytes)) → IsTrue (is_sorted area_cmp written) → IsTrue (list_all (written_fits g) written) → IsHeldIn x.touched written → CanGoOn g id (record x { written = written })
  with_written written order fits held = can_from g id (record x { written = written }) who run_part messages (order, fits, held, can.held_once) lssb_part can.drafts

  pub with_touched : (touched : List Area) → IsHeldIn touched x.written → ((area : Area) → count_by (λ (held : Area). area_eq held area) touched ≤ 1) → CanGoOn g id (record x { touched = touched })
  with_touched touched held once = can_from g id (record x { touched = touched }) who run_part messages (can.written_order, can.written, held, once) lssb_part can.drafts

  pub with_lssbs : (lssbs : List (Bytes × Bytes)) → LssbPart g lssbs → CanGoOn g id (record x { lssbs = lssbs })
  with_lssbs lssbs fit = can_from g id (record x { lssbs = lssbs }) who run_part messages areas fit can.drafts

  pub with_drafts : (drafts : List Draft) → IsTrue (list_all (draft_fits g) drafts) → CanGoOn g id (record x { drafts = drafts })
  with_drafts drafts fit = can_from g id (record x { drafts = drafts }) who run_part messages areas lssb_part fit

  -- a unit run that went on, and a count of statements
  pub with_run : (run : RunState) (statements : ℕ) → run.header ≡ x.run.header → 1 ≤ run.place → run.length ≤ 99999 → run.count ≤ run.budget → SameLengths x.run run → CanGoOn g id (record x { run = run; statements = statements })
  with_run run statements header place read_length time same =
      can_from g id (record x { run = run; statements = statements })
      (can.owner, can.user, can.lterm, can.first, can.current, header ∙ can.header)
      (place, read_length, time, same.kb ∙ can.kb, same.spab ∙ can.spab)
      messages areas lssb_part can.drafts
