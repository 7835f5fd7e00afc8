-- Rows that suit and keep names are proper, and so are the keys of areas and services.
use Rattle.std.specs.Prelude.{◌≡◌, refl, ℕ, ◌^◌, ◌<◌, ◌≤◌, Bool, true, false, cond, ◌&&◌, IsTrue, List, [], ◌∷◌, length, sum_by, nat_le, nat_lt, bytes_eq, is_some, IfSome, Option, Some, None}
use Rattle.std.proofs.Common.{sym, ap, subst, arith, true≢false}
use Rattle.std.proofs.lemmas.Bool.{leb-true, le-leb, ltb-true, eqb-true}
use Rattle.std.proofs.lemmas.List.Elements.{recursion_from_All}
use Rattle.std.proofs.lemmas.List.Sums.{sum_by-cons}
use Rattle.std.specs.Cmp.Lexicographic.{slice_cmp, bytes_decides}
use Rattle.std.specs.FinMap.{is_sorted}
use Rattle.std.specs.List.{list_all, AllByRecursion as Each}
use Rattle.std.specs.Ordering.{nat_cmp}
use Rattle.kd_base.specs.Limits.{last_next_job}
use Rattle.kd_base.specs.Text.{IsName, is_name_byte}
use Rattle.kd_base.specs.ToolsLaws.{both_true, true_both}
use Rattle.kdcs_types.specs.declared.key.Area.{Area}
use Rattle.kdcs_types.specs.declared.key.Area.TheVariants.{Gssb, Tls, Uls}
use Rattle.kdcs_types.specs.declared.key.Key.TheVariants.{Service as ServiceKey}
use Rattle.kdcs_types.specs.declared.key.ServiceId.{ServiceId}
use Rattle.kdcs_types.specs.declared.key.ServiceId.TheVariants.{Dialogue, Asynchronous}
use Rattle.kdcs_types.specs.declared.key.Target.{Target}
use Rattle.kdcs_types.specs.declared.key.Target.TheVariants.{Tac, Lterm}
use Rattle.kdcs_types.specs.declared.service.Job.{Job}
use Rattle.kdcs_types.specs.declared.service.JobValue.{JobValue}
use Rattle.kdcs_types.specs.declared.service.Service.{Service}
use Rattle.kdcs_types.specs.Keys.{area_key}
use Rattle.kdcs_types.specs.Same.{target_eq}
use Rattle.kdcs_types.specs.Tables.{TableRows, IsSortedTables, gssb_row, tls_row, uls_row, service_row, job_row, shown_row, lterm_fits, service_fits}
use Rattle.application_types.specs.Soundness.{AreLimits, AreNamed, HaveProperNames}
use Rattle.application_types.specs.declared.kdcdef_types.entry.LtermEntry.{LtermEntry}
use Rattle.application_types.specs.declared.kdcdef_types.entry.TacEntry.{TacEntry}
use Rattle.application_types.specs.Generation.{Generated, entry_of, tac_of, lterm_of}
use Rattle.abstract_monitor.specs.Bytes.{Bytes}
use Rattle.abstract_monitor.specs.Calls.{target_by, job_target}
use Rattle.abstract_monitor.specs.Endings.{is_asynchronous}
use Rattle.laws_of_states.specs.Suits.{Suits, is_user, is_lterm, fits_content, fits_message, has_kind_by, has_kind, last_fits, lterm_suits, owner_suits, service_suits, last_due, target_suits}
use Rattle.laws_of_states.specs.Suits.{target_name, value_suits, job_suits, shown_suits, number_is_below}
use Rattle.laws_of_states.specs.RowPartsLaws.{row_parts}
use Rattle.record_codec.specs.Fields.{IsShort}
use Rattle.record_codec.specs.Order.{IsProperKey}
use Rattle.record_codec.specs.PatchesLaws.{all_rows, each_row}
use Rattle.record_codec.specs.Readings.{LastFits, TargetFits, LtermFits}
use Rattle.record_codec.specs.RowReadings.{IsProperRow}
use Rattle.record_codec.specs.TableReadings.{AreProperTables}
use Rattle.record_codec.specs.WholeValues.{JobFits, LssbFits, ServiceFits}
use Rattle.table_fit.specs.Charging.{most_bytes, has_few_bytes}
use Rattle.table_fit.specs.ChargingLaws.{shown_few}
use Rattle.trail_run.specs.WrittenNames.{is_name, has_name, has_names, has_named_lssbs, is_counted, is_counted_job, is_counted_shown, RowsKeepNames, is_named_area}

-- ---- names

pub name_is : (bytes : Bytes) → IsTrue (is_name bytes) → IsName bytes
name_is bytes h =
    let outer = both_true (nat_le 1 (length bytes) && nat_le (length bytes) 8) (list_all is_name_byte bytes) h in
    let inner = both_true (nat_le 1 (length bytes)) (nat_le (length bytes) 8) outer.0 in
    (leb-true 1 (length bytes) inner.0, leb-true (length bytes) 8 inner.1, outer.1)

pub name_passes : (bytes : Bytes) → IsName bytes → IsTrue (is_name bytes)
name_passes bytes n =
    true_both (nat_le 1 (length bytes) && nat_le (length bytes) 8) (list_all is_name_byte bytes)
    (true_both (nat_le 1 (length bytes)) (nat_le (length bytes) 8) (le-leb 1 (length bytes) n.0) (le-leb (length bytes) 8 n.1)) n.2

entries_named : {A : Type 0} (entries : List (Bytes × A)) → Each (λ (e : Bytes × A). IsName e.0) entries → (name : Bytes) → IsTrue (is_some (entry_of entries name)) → IsName name
entries_named [] all name h = absurd (true≢false (sym h))
entries_named {A} (e ∷ es) all name h = by (bytes_eq name e.0) refl (entries_named es all.1 name) h
  where
    by : (b : Bool) → bytes_eq name e.0 ≡ b → (IsTrue (is_some (entry_of es name)) → IsName name) → IsTrue (is_some (cond b (Some e.1) (entry_of es name))) → IsName name
    by true is rest k = subst IsName (sym ((bytes_decides name e.0).0 is)) all.0
    by false is rest k = rest k

entry_named : {A : Type 0} (entries : List (Bytes × A)) → HaveProperNames entries → (name : Bytes) → IsTrue (is_some (entry_of entries name)) → IsName name
entry_named {A} entries proper name h = entries_named entries (recursion_from_All (λ (e : Bytes × A). IsName e.0) entries proper) name h

kind_some : (o : Option TacEntry) (asynchronous : Bool) → IsTrue (has_kind_by o asynchronous) → IsTrue (is_some o)
kind_some None asynchronous h = absurd (true≢false (sym h))
kind_some (Some t) asynchronous h = refl

target_is : (to : Target) → IsName (target_name to) → TargetFits to
target_is (Tac tac) h = h
target_is (Lterm lterm) h = h

parts_short : (ps : List Bytes) → sum_by length ps < 2 ^ 32 → Each IsShort ps
parts_short [] h = tt
parts_short (p ∷ ps) h = (omega (arith, h, sum_by-cons length p ps), parts_short ps (omega (arith, h, sum_by-cons length p ps)))

-- what passes tests has what follows from them
each_by : {E : Type 0} (p q r s : E → Bool) (P : E → Type 0) → ((e : E) → IsTrue (p e) → IsTrue (q e) → IsTrue (r e) → IsTrue (s e) → P e) → (es : List E) → IsTrue (list_all p es) → IsTrue (list_all q es) → IsTrue (list_all r es) → IsTrue (list_all s es) → Each P es
each_by p q r s P to [] h i j k = tt
each_by p q r s P to (e ∷ es) h i j k =
    let a = both_true (p e) (list_all p es) h in
    let b = both_true (q e) (list_all q es) i in
    let c = both_true (r e) (list_all r es) j in
    let d = both_true (s e) (list_all s es) k in
    (to e a.0 b.0 c.0 d.0, each_by p q r s P to es a.1 b.1 c.1 d.1)

pub area_proper : (area : Area) → IsTrue (is_named_area area) → IsProperKey (area_key area)
area_proper (Gssb name) h = name_is name h
area_proper (Tls block lterm) h = let both = both_true (is_name block) (is_name lterm) h in (name_is block both.0, name_is lterm both.1)
area_proper (Uls block user) h = let both = both_true (is_name block) (is_name user) h in (name_is block both.0, name_is user both.1)

-- a dialogue service has no LTERM, and an asynchronous one has a name
lterm_there : (id : ServiceId) (lterm : Option Bytes) → IsTrue (lterm_fits id lterm) → IfSome lterm IsName → LtermFits id lterm
lterm_there (Dialogue user) None fits named = tt
lterm_there (Dialogue user) (Some lterm) fits named = absurd (true≢false (sym fits))
lterm_there (Asynchronous number) None fits named = absurd (true≢false (sym fits))
lterm_there (Asynchronous number) (Some lterm) fits named = named

module _ (g : Generated) (limits : AreLimits g.limits) (names : AreNamed g) where
  pub user_named : (user : Bytes) → IsTrue (is_user g user) → IsName user
  user_named user h = entry_named g.users names.users user h

  pub lterm_named : (lterm : Bytes) → IsTrue (is_lterm g lterm) → IsName lterm
  lterm_named lterm h = entry_named g.lterms names.lterms lterm h

  pub tac_named : (tac : Bytes) (asynchronous : Bool) → IsTrue (has_kind g tac asynchronous) → IsName tac
  tac_named tac asynchronous h = entry_named g.tacs names.tacs tac (kind_some (tac_of g tac) asynchronous h)

  target_named : (to : Target) → IsTrue (target_suits g to (job_target g (target_name to))) → IsName (target_name to)
  unfolding job_target
  target_named to h = by (lterm_of g (target_name to)) refl (tac_of g (target_name to)) refl h
    where
      by : (l : Option LtermEntry) → lterm_of g (target_name to) ≡ l → (t : Option TacEntry) → tac_of g (target_name to) ≡ t → IsTrue (target_suits g to (target_by (target_name to) l t)) → IsName (target_name to)
      by (Some l) e t f k = lterm_named (target_name to) (ap (λ (o : Option LtermEntry). is_some o) e)
      by None e None f k = absurd (true≢false (sym k))
      by None e (Some t) f k = entry_named g.tacs names.tacs (target_name to) (ap (λ (o : Option TacEntry). is_some o) f)

  row_lterm : (lterm : Option Bytes) → IsTrue (lterm_suits g lterm) → IfSome lterm IsName
  row_lterm None h = tt
  row_lterm (Some lterm) h = lterm_named lterm h

  last_short : (last : Option Bytes) → IsTrue (last_fits g last) → LastFits last
  last_short None h = tt
  last_short (Some message) h = omega (arith, leb-true (length message) g.limits.nb h, limits.nb)

  lssb_fits : (l : Bytes × Bytes) → IsTrue (has_name l) → IsTrue (fits_content l.1) → LssbFits l
  lssb_fits l named fits = (name_is l.0 named, omega (arith, leb-true (length l.1) 32767 fits))

  pub service_proper : (s : Service) → IsTrue (service_suits g s) → IsTrue (service_fits s) → IsTrue (has_named_lssbs s) → ServiceFits s
  service_proper s suits fits named =
      let r = row_parts g s suits in
      let count = leb-true (length s.handed) 16 r.handed_count in
      let handed = leb-true (sum_by length s.handed) g.limits.nb r.handed in
      let lssbs = leb-true (length s.lssbs) g.limits.lssbs r.lssbs_count in
      record {
        first = tac_named s.first (is_asynchronous s.id) r.first;
        next = tac_named s.next (is_asynchronous s.id) r.next;
        user = user_named s.user r.user;
        lterm = lterm_there s.id s.lterm (both_true (lterm_fits s.id s.lterm) (is_sorted (slice_cmp nat_cmp) s.lssbs) fits).0 (row_lterm s.lterm r.lterm);
        kb = omega (arith, eqb-true (length s.kb) g.limits.kb r.kb, limits.kb);
        handed = (omega (arith, count), parts_short s.handed (omega (arith, handed, limits.nb)));
        last = last_short s.last r.last;
        lssbs = (omega (arith, lssbs, limits.lssbs), each_by has_name (λ (l : Bytes × Bytes). fits_content l.1) has_name has_name LssbFits (λ l a b _ _. lssb_fits l a b) s.lssbs named r.lssbs named named);
      }

  -- the user of a dialogue service is that of its row, and the number of another has eight bytes
  own_key : (next : ℕ) → next ≤ last_next_job → (id : ServiceId) (s : Service) → IsTrue (owner_suits id s) → IsTrue (is_user g s.user) → IsTrue (number_is_below next id) → IsProperKey (ServiceKey id)
  own_key next few (Dialogue user) s owner is below = subst IsName (sym ((bytes_decides user s.user).0 owner)) (user_named s.user is)
  own_key next few (Asynchronous number) s owner is below = omega (arith, ltb-true number next below, few)

  service_row_proper : (next : ℕ) → next ≤ last_next_job → (s : Service) → IsTrue (service_suits g s) → IsTrue (service_fits s) → IsTrue (has_named_lssbs s) → IsTrue (number_is_below next s.id) → IsProperRow (service_row s)
  service_row_proper next few s suits fits named below =
      let r = row_parts g s suits in
      record { key = own_key next few s.id s r.owner r.user below; value = service_proper s suits fits named }

  -- due, user and LTERM
  record ValueNamed (v : JobValue) : Type 0 where
    due : v.due < 2 ^ 56
    user : IsName v.user
    lterm : IsName v.lterm

  value_named : (v : JobValue) → IsTrue (value_suits g v) → ValueNamed v
  value_named v h =
      let a = both_true (nat_le v.due last_due && is_user g v.user) (is_lterm g v.lterm) h in
      let b = both_true (nat_le v.due last_due) (is_user g v.user) a.0 in
      record { due = omega (arith, leb-true v.due last_due b.0); user = user_named v.user b.1; lterm = lterm_named v.lterm a.1 }

  counted_few : (v : JobValue) → IsTrue (is_counted v) → v.redelivered < 2 ^ 8
  counted_few v h = omega (arith, leb-true v.redelivered 255 h)

  job_proper : (next : ℕ) → next ≤ last_next_job → (j : Job) → IsTrue (job_suits g j) → IsTrue (is_counted j.value) → IsTrue (nat_lt j.number next) → IsProperRow (job_row j)
  job_proper next few j suits counted below =
      let a = both_true (value_suits g j.value && fits_message g j.value.message) (target_suits g j.value.to (job_target g (target_name j.value.to))) suits in
      let b = both_true (value_suits g j.value) (fits_message g j.value.message) a.0 in
      let v = value_named j.value b.0 in
      record {
        key = omega (arith, ltb-true j.number next below, few);
        value = record {
          to = target_is j.value.to (target_named j.value.to a.1);
          due = v.due;
          redelivered = counted_few j.value counted;
          user = v.user;
          lterm = v.lterm;
          message = omega (arith, leb-true (length j.value.message) g.limits.nb b.1, limits.nb);
        };
      }

  -- a shown message went to its LTERM
  shown_target : (lterm : Bytes) → IsName lterm → (to : Target) → IsTrue (target_eq to (Lterm lterm)) → TargetFits to
  shown_target lterm named (Tac tac) h = absurd (true≢false (sym h))
  shown_target lterm named (Lterm other) h = subst IsName (sym ((bytes_decides other lterm).0 h)) named

  shown_proper : (r : Bytes × JobValue) → IsTrue (shown_suits g r) → IsTrue (is_counted r.1) → IsTrue (has_few_bytes r) → IsProperRow (shown_row r)
  shown_proper r suits counted few =
      let a = both_true (is_lterm g r.0 && value_suits g r.1) (target_eq r.1.to (Lterm r.0)) suits in
      let b = both_true (is_lterm g r.0) (value_suits g r.1) a.0 in
      let v = value_named r.1 b.1 in
      let lterm = lterm_named r.0 b.0 in
      record {
        key = lterm;
        value = record {
          to = shown_target r.0 lterm r.1.to a.1;
          due = v.due;
          redelivered = counted_few r.1 counted;
          user = v.user;
          lterm = v.lterm;
          message = omega (arith, leb-true (length r.1.message) most_bytes few);
        };
      }

  pub tables_proper : (t : TableRows) → IsSortedTables t → Suits g t → RowsKeepNames t → AreProperTables t
  tables_proper t sorted suits h =
      let few = shown_few g.limits.blksize g.limits.pgpool t limits.blksize (omega (arith, limits.pgpool)) suits.charge in
      all_rows IsProperRow t (record {
        gssbs = each_by has_name has_name has_name has_name (λ (r : Bytes × Bytes). IsProperRow (gssb_row r)) (λ r a _ _ _. record { key = name_is r.0 a; value = tt }) t.gssbs h.0 h.0 h.0 h.0;
        tlss = each_by has_names has_names has_names has_names (λ (r : Bytes × Bytes × Bytes). IsProperRow (tls_row r)) (λ r a _ _ _. record { key = area_proper (Tls r.0 r.1) a; value = tt }) t.tlss h.1 h.1 h.1 h.1;
        ulss = each_by has_names has_names has_names has_names (λ (r : Bytes × Bytes × Bytes). IsProperRow (uls_row r)) (λ r a _ _ _. record { key = area_proper (Uls r.0 r.1) a; value = tt }) t.ulss h.2 h.2 h.2 h.2;
        services = each_by (service_suits g) service_fits has_named_lssbs (λ (s : Service). number_is_below t.next_job s.id) (λ (s : Service). IsProperRow (service_row s)) (service_row_proper t.next_job suits.next_job) t.services suits.services sorted.services_fit h.3 suits.service_numbers;
        jobs = each_by (job_suits g) is_counted_job (λ (j : Job). nat_lt j.number t.next_job) is_counted_job (λ (j : Job). IsProperRow (job_row j)) (λ j a b c _. job_proper t.next_job suits.next_job j a b c) t.jobs suits.jobs h.4 suits.job_numbers h.4;
        shown = each_by (shown_suits g) is_counted_shown has_few_bytes is_counted_shown (λ (r : Bytes × JobValue). IsProperRow (shown_row r)) (λ r a b c _. shown_proper r a b c) t.shown suits.shown h.5 few h.5;
      })

-- ---- the names that proper tables keep

listed_by : {E : Type 0} (P : E → Type 0) (p : E → Bool) → ((e : E) → P e → IsTrue (p e)) → (es : List E) → Each P es → IsTrue (list_all p es)
listed_by P p to [] h = refl
listed_by P p to (e ∷ es) h = true_both (p e) (list_all p es) (to e h.0) (listed_by P p to es h.1)

two_pass : (a b : Bytes) → IsName a × IsName b → IsTrue (is_name a && is_name b)
two_pass a b h = true_both (is_name a) (is_name b) (name_passes a h.0) (name_passes b h.1)

lssbs_pass : (s : Service) → IsProperRow (service_row s) → IsTrue (has_named_lssbs s)
lssbs_pass s proper = listed_by LssbFits has_name (λ l fits. name_passes l.0 fits.0) s.lssbs proper.value.lssbs.1

counted_pass : (v : JobValue) → JobFits v → IsTrue (is_counted v)
counted_pass v fits = le-leb v.redelivered 255 (omega (arith, fits.redelivered))

pub proper_keep : (t : TableRows) → AreProperTables t → RowsKeepNames t
proper_keep t proper =
    let each = each_row IsProperRow t proper in (
      listed_by (λ (r : Bytes × Bytes). IsProperRow (gssb_row r)) has_name (λ r h. name_passes r.0 h.key) t.gssbs each.gssbs,
      listed_by (λ (r : Bytes × Bytes × Bytes). IsProperRow (tls_row r)) has_names (λ r h. two_pass r.0 r.1 h.key) t.tlss each.tlss,
      listed_by (λ (r : Bytes × Bytes × Bytes). IsProperRow (uls_row r)) has_names (λ r h. two_pass r.0 r.1 h.key) t.ulss each.ulss,
      listed_by (λ (s : Service). IsProperRow (service_row s)) has_named_lssbs lssbs_pass t.services each.services,
      listed_by (λ (j : Job). IsProperRow (job_row j)) is_counted_job (λ j h. counted_pass j.value h.value) t.jobs each.jobs,
      listed_by (λ (r : Bytes × JobValue). IsProperRow (shown_row r)) is_counted_shown (λ r h. counted_pass r.1 h.value) t.shown each.shown,
    )
