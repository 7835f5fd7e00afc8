-- How many bytes a call writes.
use Rattle.std.proofs.Common.{◌≡◌, ◌≤◌, ◌+◌, inl, inr, ℕ, List, [], ◌∷◌, refl, sym, ◌∙◌, arith}
use Rattle.std.specs.Prelude.{IsTrue}
use Rattle.kd_device.specs.Device.{State}
use Rattle.kd_device.specs.Rest.{Rests}
use Rattle.kdcfile_store.specs.Kept.{IsKept}
use Rattle.kdcfile_store.specs.Paged.{Paged, HasFile}
use Rattle.kdcs_types.specs.declared.act.Act.{Act}
use Rattle.kdcs_types.specs.Tables.{TableRows, empty_tables}
use Rattle.abstract_monitor.specs.Trace.{tables_after}
use Rattle.device_acts.specs.Acting.{WritesBegun}
use Rattle.device_acts.specs.MeaningLaws.{kept_stands}
use Rattle.device_acts.specs.Opening.{opening_most}
use Rattle.device_acts.specs.Stands.{KeepsTables, StandsForTables}
use Rattle.device_acts.specs.WritingLaws.{begun_after, none_begun}
use Rattle.device_run.specs.Running.{commits_most}
use Rattle.device_run.specs.TablesLaws.{tables_go}
use Rattle.call_parts.specs.declared.words.Word.{Word}
use Rattle.call_parts.specs.declared.words.Word.TheVariants.{Gen, Run, Show, Update, Trail, Audit, Make}
use Rattle.kdcfile_update.specs.Updating.{Stored}
use Rattle.call_parts.specs.Asking.{Errand}
use Rattle.call_parts.specs.Opening.{Opens, identity_of}
use Rattle.utm_cli.specs.Doing.{own, acts_of}
use Rattle.utm_cli.specs.Parts.{ErrandWrites, StoreWrites}
use Rattle.utm_cli.specs.Promise.{MakesFile, WritesBy, WritesFor, WritesOver}
use Rattle.utm_cli.proofs.ByWord.{starts, stored_opening}

-- ---- over the store

-- nothing was done
pub none_written : (e : Errand) (t : TableRows) (store : Paged) → KeepsTables (identity_of e) store t → (a : State) (la : ℕ → List ℕ → List ℕ → Type 0) → (IsTrue a.told → IsKept (HasFile store) a la) → ErrandWrites e t a a
none_written e t store keeps a la kept = λ told.
    none_begun tables_after tables_go (StandsForTables (identity_of e)) t (commits_most (identity_of e)) (acts_of e (own e t)) a a a.holds (omega arith) refl
    (kept_stands (identity_of e) store t a.holds keeps (kept told).bytes)

-- the opening, and the acts from the tables that it answers
pub store_written : (e : Errand) (t : TableRows) (a b d : State) → Opens e a.holds t → b.sent ≡ a.sent → b.put ≤ a.put + opening_most (identity_of e) a.holds
    → WritesBegun tables_after (StandsForTables (identity_of e)) t (commits_most (identity_of e)) (acts_of e (own e t)) b d d.holds → StoreWrites e a d
store_written e t a b d opens silent most h =
    inr (t, opens, inr (begun_after (opening_most (identity_of e) a.holds) (commits_most (identity_of e)) (acts_of e (own e t)) a b d silent most tables_after (StandsForTables (identity_of e)) t d.holds h))

-- the opening alone
pub opening_written : (e : Errand) (a b : State) (la lb : ℕ → List ℕ → List ℕ → Type 0) → b.sent ≡ a.sent → b.put ≤ a.put + opening_most (identity_of e) a.holds → ((a.holds ≡ [] → ⊥) → Rests a b la lb) → StoreWrites e a b
opening_written e a b la lb silent most still = by a.holds refl
  where
    by : (bytes : List ℕ) → a.holds ≡ bytes → StoreWrites e a b
    by [] is = inr (empty_tables, inl (is, refl), inl (silent, most))
    by (n ∷ ns) is = inl (still (λ none. cc (sym is ∙ none))).put

-- ---- an errand

written_by : (word : Word) → MakesFile word → (e : Errand) (acts : List Act) (s : Stored) (a b : State) → WritesOver (opening_most (identity_of e) a.holds) (identity_of e) acts s.tables a b → WritesBy word e acts s a b
written_by Gen stored e acts s a b h = h
written_by Run stored e acts s a b h = h
written_by Show stored e acts s a b h = absurd stored
written_by Update stored e acts s a b h = absurd stored
written_by Trail stored e acts s a b h = absurd stored
written_by Audit stored e acts s a b h = absurd stored
written_by (Make n) stored e acts s a b h = absurd stored

pub run_written : (e : Errand) → MakesFile e.word → (a b : State) → StoreWrites e a b → WritesFor e a b
run_written e stored a b (inl none) = inl none
run_written e stored a b (inr (t, opens, h)) = inr (own e t, starts e a.holds (stored_opening e stored) t opens, written_by e.word stored e (acts_of e (own e t)) (own e t) a b h)
