-- An outline tells the whole state.
use Rattle.std.specs.Prelude.{◌≡◌, refl, Bool, true, false, cond, IsTrue, List, [], ◌∷◌, ◌++◌, map, is_some, Some, None}
use Rattle.std.proofs.Common.{sym, ap, ◌∙◌, true≢false}
use Rattle.std.proofs.lemmas.List.{append-nil}
use Rattle.std.specs.FinMap.{find, is_sorted}
use Rattle.std.specs.FinMap.Entries.{below_all}
use Rattle.kd_base.specs.ToolsLaws.{both_true}
use Rattle.kdcs_types.specs.declared.key.ServiceId.{ServiceId}
use Rattle.kdcs_types.specs.declared.service.Note.{Note}
use Rattle.kdcs_types.specs.declared.service.Settled.{Settled}
use Rattle.kdcs_types.specs.KeyLaws.{id_eq_same, id_eq_itself}
use Rattle.kdcs_types.specs.Keys.{id_cmp, id_eq}
use Rattle.kdcs_types.specs.Tables.{TableRows}
use Rattle.abstract_monitor.specs.Bytes.{Bytes}
use Rattle.abstract_monitor.specs.Locks.{Active}
use Rattle.abstract_monitor.specs.State.{Application, OpenTransaction, State}
use Rattle.abstract_monitor.specs.Statements.{kept_of}
use Rattle.laws_of_states.specs.EntriesLaws.{none_below}
use Rattle.laws_of_states.specs.Keeping.{HasFacts}
use Rattle.laws_of_states.specs.Replay.{replay}
use Rattle.laws_of_runs.specs.Replays.{AllReplay}
use Rattle.laws_of_runs.specs.ReplaysLaws.{alike_itself}
use Rattle.lab_states.specs.Outlines.{Outlined, kept_now, outlined, OutlinesTellStates}

-- a record, run again over tables
abbrev run_again : Application → TableRows → Settled → ServiceId × OpenTransaction
run_again app t r = (r.service, replay app t (kept_of r) r.statements)

-- an open transaction that replays to itself is its record, run again
again_itself : (app : Application) (s : State) → AllReplay app s → (id : ServiceId) (x : OpenTransaction) → find id_cmp id s.active ≡ Some x → run_again app s.tables (kept_now (id, x)) ≡ (id, x)
again_itself app s all id x is =
    ap (λ (n : List Note). kept x.inputs n) (sym (append-nil x.notes)) ∙ ap (λ (i : List Bytes). kept i (x.notes ++ [])) (sym (append-nil x.inputs))
    ∙ ap (λ (y : OpenTransaction). (id, y)) (all id x is s.tables [] [] (alike_itself s.tables id x))
  where
    kept : List Bytes → List Note → ServiceId × OpenTransaction
    kept inputs notes = (id, replay app s.tables (record { service = id; began = x.began; inputs = x.first ∷ x.lterm ∷ inputs; notes = notes; statements = x.statements }) x.statements)

-- where each that is found is its record, run again, so are all of them
all_again : (again : Settled → ServiceId × OpenTransaction) (es : Active) → IsTrue (is_sorted id_cmp es)
    → ((id : ServiceId) (x : OpenTransaction) → find id_cmp id es ≡ Some x → again (kept_now (id, x)) ≡ (id, x)) → map again (map kept_now es) ≡ es
all_again again [] sorted each = refl
all_again again (e ∷ es) sorted each =
    ap (λ first. first ∷ map again (map kept_now es)) (each e.0 e.1 (ap (λ b. cond b (Some e.1) (find id_cmp e.0 es)) (id_eq_itself e.0)))
    ∙ ap (λ rest. e ∷ rest) (all_again again es parts.1 (λ id x is. each id x (later id x is (id_eq id e.0) refl)))
  where
    parts : (below_all id_cmp e.0 es ≡ true) × (is_sorted id_cmp es ≡ true)
    parts = both_true (below_all id_cmp e.0 es) (is_sorted id_cmp es) sorted

    later : (id : ServiceId) (x : OpenTransaction) → find id_cmp id es ≡ Some x → (b : Bool) → id_eq id e.0 ≡ b → cond b (Some e.1) (find id_cmp id es) ≡ Some x
    later id x is false apart = is
    later id x is true same =
        let none : find id_cmp id es ≡ None = ap (λ i. find id_cmp i es) (id_eq_same id e.0 same) ∙ none_below id_cmp e.0 es parts.0 in
        absurd (true≢false (sym (ap is_some is) ∙ ap is_some none))

-- the open transactions of a state, from the tables and what they have kept
active_again : (app : Application) (s : State) → HasFacts app s → AllReplay app s → map (run_again app s.tables) (map kept_now s.active) ≡ s.active
active_again app s facts all = all_again (run_again app s.tables) s.active facts.0.active (again_itself app s all)

-- the state of an outline
abbrev of_outline : Application → Outlined → State
of_outline app o = record { tables = o.tables; signed = o.signed; ready = o.ready; tasks = o.tasks; active = map (run_again app o.tables) o.kept; waits = o.waits }

whole : (app : Application) (s : State) → HasFacts app s → AllReplay app s → of_outline app (outlined s) ≡ s
whole app s facts all = ap (λ (active : Active). record s { active = active }) (active_again app s facts all)

pub outlines_tell_states : OutlinesTellStates
outlines_tell_states app s u facts facts_too all all_too same = sym (whole app s facts all) ∙ ap (of_outline app) same ∙ whole app u facts_too all_too
