-- What made a commit, and what it changed, can be written, and is read again.
use Rattle.std.specs.Prelude.{◌≡◌, refl, ℕ, ◌^◌, ◌<◌, ◌≤◌, Bool, true, false, cond, IsTrue, List, [], ◌∷◌, ◌++◌, length, map, nat_lt, IsSome, Option, Some, None, All}
use Rattle.std.proofs.Common.{sym, subst, arith, true≢false, inl, inr, length-append}
use Rattle.std.proofs.lemmas.Bool.{leb-true, ltb-true}
use Rattle.std.proofs.lemmas.List.Elements.{All-from_recursion}
use Rattle.std.proofs.ByRecursion.{All-append}
use Rattle.std.specs.FinMap.{find, put}
use Rattle.std.specs.FinMap.Entries.{by_order}
use Rattle.std.specs.Int.{w32, to_be_bytes}
use Rattle.std.specs.List.{list_all, AllByRecursion as Each}
use Rattle.std.specs.Option.{option_map}
use Rattle.std.specs.declared.cmp.Ordering.{Ordering}
use Rattle.std.specs.declared.cmp.Ordering.TheVariants.{Less, Equal, Greater}
use Rattle.kd_base.specs.Limits.{last_next_job}
use Rattle.kd_base.specs.Text.{IsName}
use Rattle.kd_base.specs.ToolsLaws.{both_true, true_both, map_some, some_is}
use Rattle.application_types.specs.Soundness.{AreLimits, AreNamed}
use Rattle.application_types.specs.Generation.{Generated}
use Rattle.kdcs_types.specs.declared.act.Change.{Change}
use Rattle.kdcs_types.specs.declared.act.Row.{Row}
use Rattle.kdcs_types.specs.declared.act.Row.TheVariants.{Service as ServiceRow}
use Rattle.kdcs_types.specs.declared.call.Code.{Code}
use Rattle.kdcs_types.specs.declared.call.Code.TheVariants.{K04, K05}
use Rattle.kdcs_types.specs.declared.key.Key.{Key}
use Rattle.kdcs_types.specs.declared.key.Key.TheVariants as key
use Rattle.kdcs_types.specs.declared.key.ServiceId.{ServiceId}
use Rattle.kdcs_types.specs.declared.key.ServiceId.TheVariants.{Dialogue, Asynchronous}
use Rattle.kdcs_types.specs.declared.service.Ending.{Ending}
use Rattle.kdcs_types.specs.declared.service.Job.{Job}
use Rattle.kdcs_types.specs.declared.service.Note.{Note}
use Rattle.kdcs_types.specs.declared.service.Note.TheVariants.{Released, Refused}
use Rattle.kdcs_types.specs.declared.service.Service.{Service}
use Rattle.kdcs_types.specs.declared.service.Settled.{Settled}
use Rattle.kdcs_types.specs.Difference.{keys_of, change_to, noted_unless, differing, difference}
use Rattle.kdcs_types.specs.Keyed.{keyed, item_at, with_item}
use Rattle.kdcs_types.specs.KeyedLaws.{items_back, found_passes}
use Rattle.kdcs_types.specs.Keys.{id_cmp, id_eq, key_cmp, key_eq}
use Rattle.kdcs_types.specs.KeyLaws.{id_eq_itself}
use Rattle.kdcs_types.specs.Same.{row_same}
use Rattle.kdcs_types.specs.Tables.{TableRows, change_key, gssb_key, gssb_row, job_key, job_row, row_at, row_fits, service_fits, service_key, service_of, service_row, shown_key, shown_row, tls_key}
use Rattle.kdcs_types.specs.Tables.{tls_row, uls_key, uls_row}
use Rattle.abstract_monitor.specs.Bytes.{Bytes}
use Rattle.abstract_monitor.specs.Charges.{service_length}
use Rattle.abstract_monitor.specs.Endings.{is_asynchronous, durable}
use Rattle.abstract_monitor.specs.State.{Application, OpenTransaction, State}
use Rattle.abstract_monitor.specs.Statements.{kept_record}
use Rattle.laws_of_states.specs.Keeping.{HasFacts}
use Rattle.laws_of_states.specs.Replay.{refuses}
use Rattle.laws_of_states.specs.Suits.{fits_content, number_is_below}
use Rattle.laws_of_states.specs.Transactions.{HasOwnJob, IsOwner, fits_if_there}
use Rattle.laws_of_states.specs.ItemsLaws.{job_number}
use Rattle.laws_of_states.specs.PointLaws.{AreSound}
use Rattle.laws_of_states.specs.SoundRowsLaws.{good}
use Rattle.laws_of_states.specs.StatesLaws.{parts_of, row_found}
use Rattle.record_codec.specs.Fields.{IsShort}
use Rattle.record_codec.specs.Order.{IsProperKey}
use Rattle.record_codec.specs.PatchesLaws.{EachRow, each_row}
use Rattle.record_codec.specs.Records.{HasShortValues}
use Rattle.record_codec.specs.RowReadings.{IsProperRow}
use Rattle.record_codec.specs.TableReadings.{AreProperTables}
use Rattle.record_codec.specs.Values.{last_bytes, service_bytes, HasShortChange, HasShortValue}
use Rattle.table_fit.specs.ChargingLaws.{service_short}
use Rattle.table_fit.specs.LengthsLaws.{lengths_are_those_of_the_bytes}
use Rattle.audit_trail.specs.Facts.{IsProperChange, IsRowOf, IsNote, IsRefusal}
use Rattle.audit_trail.specs.Written.{HasShortRow, HasShortNote, HasShortParts}
use Rattle.trail_run.proofs.laws_of_trails.WrittenRows.{area_proper, user_named, lterm_named, tac_named, service_proper}
use Rattle.trail_run.specs.WrittenNames.{is_named_area, is_kept_note, has_named_lssbs, StateKeepsNames}

-- ---- what holds of each change of a difference

module _ {E : Type 0} (key_of : E → Key) (P : E → Type 0) where
  each_with : (e : E) (es : List E) → P e → Each P es → Each P (with_item key_of e es)
  each_with e [] h k = (h, tt)
  each_with e (x ∷ xs) h k = by (each_with e xs h k.1) (key_cmp (key_of e) (key_of x))
    where
      behind : Each P xs → Each P (map (λ p. p.1) (keyed key_of xs))
      behind = subst (Each P) (sym (items_back key_of xs))

      by : Each P (with_item key_of e xs) → (o : Ordering) → Each P (map (λ p. p.1) (by_order o ((key_of e, e) ∷ (key_of x, x) ∷ keyed key_of xs) ((key_of x, e) ∷ keyed key_of xs) ((key_of x, x) ∷ put key_cmp (key_of e) e (keyed key_of xs))))
      by rest Less = (h, (k.0, behind k.1))
      by rest Equal = (h, behind k.1)
      by rest Greater = (k.0, rest)

  each_found : (q : Key) (es : List E) → Each P es → (e : E) → item_at key_of q es ≡ Some e → P e
  each_found q [] all e is = absurd cc
  each_found q (x ∷ xs) all e is = by (key_eq q (key_of x)) (each_found q xs all.1 e) is
    where
      by : (b : Bool) → (item_at key_of q xs ≡ Some e → P e) → cond b (Some x) (item_at key_of q xs) ≡ Some e → P e
      by true rest found = subst P (some_is x e found) all.0
      by false rest found = rest found

row_found_in : {E : Type 0} (key_of : E → Key) (row_of : E → Row) (P : Row → Type 0) (q : Key) (es : List E) → Each (λ e. P (row_of e)) es → (r : Row) → option_map row_of (item_at key_of q es) ≡ Some r → P r
row_found_in key_of row_of P q es all r is =
    let found = map_some row_of (item_at key_of q es) r is in
    subst P found.2 (each_found key_of (λ e. P (row_of e)) q es all found.0 found.1)

row_in : (P : Row → Type 0) (t : TableRows) → EachRow P t → (k : Key) (r : Row) → row_at t k ≡ Some r → P r
row_in P t all (key.Gssb name) r is = row_found_in gssb_key gssb_row P (key.Gssb name) t.gssbs all.gssbs r is
row_in P t all (key.Tls block lterm) r is = row_found_in tls_key tls_row P (key.Tls block lterm) t.tlss all.tlss r is
row_in P t all (key.Uls block user) r is = row_found_in uls_key uls_row P (key.Uls block user) t.ulss all.ulss r is
row_in P t all (key.Service id) r is = row_found_in service_key service_row P (key.Service id) t.services all.services r is
row_in P t all (key.Job number) r is = row_found_in job_key job_row P (key.Job number) t.jobs all.jobs r is
row_in P t all (key.Shown lterm) r is = row_found_in shown_key shown_row P (key.Shown lterm) t.shown all.shown r is

each_key : {E : Type 0} (key_of : E → Key) (row_of : E → Row) → ((e : E) → IsProperRow (row_of e) → IsProperKey (key_of e)) → (es : List E) → Each (λ e. IsProperRow (row_of e)) es → Each IsProperKey (map key_of es)
each_key key_of row_of to [] all = tt
each_key key_of row_of to (e ∷ es) all = (to e all.0, each_key key_of row_of to es all.1)

keys_proper : (t : TableRows) → AreProperTables t → Each IsProperKey (keys_of t)
keys_proper t proper =
    let each = each_row IsProperRow t proper in
    All-append IsProperKey (map gssb_key t.gssbs) _ (each_key gssb_key gssb_row (λ e h. h.key) t.gssbs each.gssbs)
    (All-append IsProperKey (map tls_key t.tlss) _ (each_key tls_key tls_row (λ e h. h.key) t.tlss each.tlss)
    (All-append IsProperKey (map uls_key t.ulss) _ (each_key uls_key uls_row (λ e h. h.key) t.ulss each.ulss)
    (All-append IsProperKey (map service_key t.services) _ (each_key service_key service_row (λ e h. h.key) t.services each.services)
    (All-append IsProperKey (map job_key t.jobs) _ (each_key job_key job_row (λ e h. h.key) t.jobs each.jobs) (each_key shown_key shown_row (λ e h. h.key) t.shown each.shown)))))

-- short, and of a proper row or key
abbrev pub IsGoodChange : Change → Type 0
IsGoodChange c = HasShortChange c × IsProperChange c

abbrev IsGoodRow : Row → Type 0
IsGoodRow r = HasShortValue r × IsProperRow r

change_good : (new : TableRows) → EachRow IsGoodRow new → (k : Key) → IsProperKey k → (o : Option Row) → row_at new k ≡ o → IsGoodChange (change_to k o)
change_good new all k proper None is = (tt, proper)
change_good new all k proper (Some r) is = row_in IsGoodRow new all k r is

differing_good : (old new : TableRows) → EachRow IsGoodRow new → (ks : List Key) → Each IsProperKey ks → Each IsGoodChange (differing old new ks)
unfolding differing
differing_good old new all [] proper = tt
differing_good old new all (k ∷ ks) proper = by (row_same (row_at old k) (row_at new k)) (differing_good old new all ks proper.1)
  where
    by : (b : Bool) → Each IsGoodChange (differing old new ks) → Each IsGoodChange (noted_unless b (change_to k (row_at new k)) (differing old new ks))
    by true rest = rest
    by false rest = each_with change_key IsGoodChange (change_to k (row_at new k)) (differing old new ks) (change_good new all k proper.0 (row_at new k) refl) rest

pub difference_good : (old new : TableRows) → AreProperTables old → AreProperTables new → HasShortValues new → Each IsGoodChange (difference old new).items
difference_good old new proper_old proper_new short =
    differing_good old new (each_row IsGoodRow new (λ k d i. (short k d i, proper_new k d i))) (keys_of old ++ keys_of new) (All-append IsProperKey (keys_of old) (keys_of new) (keys_proper old proper_old) (keys_proper new proper_new))

-- ---- what a transaction kept

-- what it kept is proper and short, but for the number of its statements
pub record IsKeptWell (kept : Settled) : Type 0 where
  pub service : IsProperKey (key.Service kept.service)
  pub began : IsRowOf kept.service kept.began
  pub notes : All IsNote kept.notes
  pub short : HasShortParts kept

refused_with : (code : Code) → IsTrue (refuses code) → IsRefusal code
refused_with K04 h = inl refl
refused_with K05 h = inr refl
refused_with _ h = absurd (true≢false (sym h))

note_proper : (n : Note) → IsTrue (is_kept_note n) → IsNote n
note_proper (Released area content) h = area_proper area (both_true (is_named_area area) (fits_if_there content) h).0
note_proper (Refused area code) h = let both = both_true (is_named_area area) (refuses code) h in (area_proper area both.0, refused_with code both.1)

content_short : (content : Option Bytes) → IsTrue (fits_if_there content) → IsShort (last_bytes content)
content_short None h = omega arith
content_short (Some bytes) h = omega (arith, leb-true (length bytes) 32767 h, length-append (to_be_bytes w32 (length bytes)) bytes)

note_short : (n : Note) → IsTrue (is_kept_note n) → HasShortNote n
note_short (Released area content) h = content_short content (both_true (is_named_area area) (fits_if_there content) h).1
note_short (Refused area code) h = tt

each_test : {E : Type 0} (p : E → Bool) (P : E → Type 0) → ((e : E) → IsTrue (p e) → P e) → (es : List E) → IsTrue (list_all p es) → Each P es
each_test p P to [] h = tt
each_test p P to (e ∷ es) h = let parts = both_true (p e) (list_all p es) h in (to e parts.0, each_test p P to es parts.1)

input_short : (bytes : Bytes) → IsTrue (fits_content bytes) → IsShort bytes
input_short bytes h = omega (arith, leb-true (length bytes) 32767 h)

name_short : (bytes : Bytes) → IsName bytes → IsShort bytes
name_short bytes h = omega (arith, h.1)

module _ (app : Application) (limits : AreLimits app.generation.limits) (names : AreNamed app.generation) (s : State) (facts : HasFacts app s) (h : StateKeepsNames s) (id : ServiceId) (x : OpenTransaction) (is : find id_cmp id s.active ≡ Some x) where
  abbrev g : Generated
  g = app.generation

  sound : AreSound g s.tables
  sound = (parts_of app s facts.1).tables

  next_few : s.tables.next_job ≤ last_next_job
  unfolding durable
  next_few = facts.1.suits.next_job

  number_few : (n : ℕ) → IsTrue (nat_lt n s.tables.next_job) → n < 2 ^ 64
  number_few n below = omega (arith, ltb-true n s.tables.next_job below, next_few)

  key_proper : (i : ServiceId) → IsOwner i x.user → (began : Option Service) → service_of s.tables i ≡ began → HasOwnJob s.tables i began → IsProperKey (key.Service i)
  key_proper (Dialogue user) own began e job = subst IsName (sym own) (user_named g limits names x.user (facts.1.transactions id x is).user)
  key_proper (Asynchronous number) own (Some row) e job =
      let found = row_found g s.tables (Asynchronous number) row sound e in
      let below = found_passes service_key (λ (r : Service). number_is_below s.tables.next_job r.id) (key.Service (Asynchronous number)) s.tables.services row (good g s.tables sound).numbers.1 e in
      number_few number (subst (λ (i : ServiceId). IsTrue (number_is_below s.tables.next_job i)) found.own below)
  key_proper (Asynchronous number) own None e job = by (item_at job_key (key.Job number) s.tables.jobs) refl job
    where
      same : (j : Job) → key.Job j.number ≡ key.Job number → j.number ≡ number
      same j e = cc

      by : (o : Option Job) → item_at job_key (key.Job number) s.tables.jobs ≡ o → IsSome (option_map (λ (j : Job). j.value) o) → number < 2 ^ 64
      by None f there = absurd (true≢false (sym there))
      by (Some j) f there =
          let below = found_passes job_key (λ (k : Job). nat_lt k.number s.tables.next_job) (key.Job number) s.tables.jobs j (good g s.tables sound).numbers.0 f in
          number_few number (subst (λ (n : ℕ). IsTrue (nat_lt n s.tables.next_job)) (job_number number s.tables.jobs j f) below)

  row_there : (row : Service) → service_of s.tables id ≡ Some row → IsProperKey (key.Service id) → (IsProperRow (ServiceRow id row) × IsTrue (row_fits (ServiceRow id row))) × IsShort (service_bytes row)
  row_there row e proper =
      let found = row_found g s.tables id row sound e in
      let fits = found_passes service_key service_fits (key.Service id) s.tables.services row facts.1.order.services_fit e in
      let named = found_passes service_key has_named_lssbs (key.Service id) s.tables.services row h.0.3 e in
      let row_proper : IsProperRow (ServiceRow id row) = record { key = proper; value = service_proper g limits names row found.suits fits named } in
      let own : IsTrue (id_eq row.id id) = subst (λ (i : ServiceId). IsTrue (id_eq row.id i)) found.own (id_eq_itself row.id) in
      let long : service_length row ≡ length (service_bytes row) = lengths_are_those_of_the_bytes (ServiceRow id row) row_proper in
      ((row_proper, true_both (id_eq row.id id) (service_fits row) own fits), omega (arith, long, service_short g limits row found.suits))

  began_proper : (began : Option Service) → service_of s.tables id ≡ began → IsProperKey (key.Service id) → IsRowOf id began × HasShortRow began
  began_proper None e proper = (tt, tt)
  began_proper (Some row) e proper = let there = row_there row e proper in (there.0, there.1)

  pub transaction_kept : (ending : Ending) → IsKeptWell (kept_record id x ending)
  transaction_kept ending =
      let can = facts.1.transactions id x is in
      let rooted = facts.0.rooted id x is in
      let k = h.1 id x is in
      let proper = key_proper id can.owner x.began rooted.began rooted.job in
      let began = began_proper x.began rooted.began proper in
      let first = name_short x.first (tac_named g limits names x.first (is_asynchronous id) can.first) in
      let lterm = name_short x.lterm (lterm_named g limits names x.lterm can.lterm) in
      let inputs : Each IsShort (x.first ∷ x.lterm ∷ x.inputs) = (first, (lterm, each_test fits_content IsShort input_short x.inputs k.2)) in
      record {
        service = proper;
        began = began.0;
        notes = All-from_recursion IsNote x.notes (each_test is_kept_note IsNote note_proper x.notes k.3);
        short = record {
          began = began.1;
          inputs = All-from_recursion IsShort (x.first ∷ x.lterm ∷ x.inputs) inputs;
          notes = All-from_recursion HasShortNote x.notes (each_test is_kept_note HasShortNote note_short x.notes k.3);
        };
      }
