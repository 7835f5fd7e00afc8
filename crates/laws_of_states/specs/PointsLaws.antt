-- Synchronisation points that are not refused leave sound tables.
use Rattle.std.specs.Prelude.{◌≡◌, refl, ℕ, suc, ◌+◌, ◌≤◌, Bool, true, false, cond, ◌&&◌, not, IsTrue, IsSome, IfSome, List, [], ◌∷◌, ◌++◌, length, sum_by, Option, None, Some, is_some, nat_lt, nat_le}
use Rattle.std.specs.Prelude.{bytes_eq, if◌then◌else◌}
use Rattle.std.proofs.Common.{sym, ap, subst, ◌∙◌, arith, true≢false, length-append}
use Rattle.std.proofs.lemmas.Bool.{leb-true, le-leb, ltb-true, lt-ltb, ltb-false}
use Rattle.std.proofs.lemmas.Bool.Decides.{Decides-eqb}
use Rattle.std.proofs.lemmas.List.{length-replicate}
use Rattle.std.proofs.lemmas.List.Sums.{sum_by-cons}
use Rattle.std.specs.List.{list_all}
use Rattle.std.specs.Option.{option_map}
use Rattle.kd_base.specs.ToolsLaws.{both_true, true_both}
use Rattle.kdcs_types.specs.declared.call.Cause.TheVariants.{E09, E10, E11}
use Rattle.kdcs_types.specs.declared.key.Area.{Area}
use Rattle.kdcs_types.specs.declared.key.Area.TheVariants.{Gssb, Tls, Uls}
use Rattle.kdcs_types.specs.declared.key.Key.{Key}
use Rattle.kdcs_types.specs.declared.key.Key.TheVariants.{Gssb as GssbKey, Tls as TlsKey, Uls as UlsKey, Service as ServiceKey, Job as JobKey}
use Rattle.kdcs_types.specs.declared.key.ServiceId.{ServiceId}
use Rattle.kdcs_types.specs.declared.key.ServiceId.TheVariants.{Dialogue, Asynchronous}
use Rattle.kdcs_types.specs.declared.service.Job.{Job}
use Rattle.kdcs_types.specs.declared.service.Service.{Service}
use Rattle.kdcs_types.specs.Keys.{key_eq}
use Rattle.kdcs_types.specs.Keyed.{ascends, item_at, with_item, without_item}
use Rattle.kdcs_types.specs.KeyLaws.{key_eq_same, key_eq_itself, id_eq_itself}
use Rattle.kdcs_types.specs.KeyedLaws.{item_at_with, ascends_with, ascends_without, all_with, all_without, found_key, found_passes}
use Rattle.kdcs_types.specs.RowLaws.{own_id}
use Rattle.kd_base.specs.Limits.{last_clock, last_next_job}
use Rattle.kdcs_types.specs.Tables.{TableRows, gssb_key, tls_key, uls_key, service_key, job_key, is_filled, service_fits, lterm_fits, service_of, with_change, change_fits}
use Rattle.application_types.specs.Generation.{Generated}
use Rattle.abstract_monitor.specs.declared.draft.Due.{Due}
use Rattle.abstract_monitor.specs.declared.draft.Due.TheVariants.{After, At}
use Rattle.abstract_monitor.specs.declared.draft.Draft.{Draft}
use Rattle.abstract_monitor.specs.declared.outcome.Outcome.{Outcome}
use Rattle.abstract_monitor.specs.declared.outcome.Outcome.TheVariants.{Wait, Point, Finish, Follow}
use Rattle.abstract_monitor.specs.Bytes.{Bytes, bytes_cmp}
use Rattle.abstract_monitor.specs.Calls.{job_target}
use Rattle.abstract_monitor.specs.Charges.{total_charge}
use Rattle.abstract_monitor.specs.State.{OpenTransaction}
use Rattle.abstract_monitor.specs.Endings.{is_asynchronous, joined, spaces, area_change, with_areas, with_service, without_own_job, due_at, numbered, with_drafts, last_of, lterm_in_row, point_row}
use Rattle.abstract_monitor.specs.Endings.{new_row, row_after, synchronised, durable, refusal, service_change}
use Rattle.laws_of_states.specs.JobLaw.{jobs_left}
use Rattle.laws_of_states.specs.Suits.{fits_message, gssb_suits, tls_suits, uls_suits, is_user, is_lterm, is_empty, last_fits, lterm_suits, owner_suits, service_suits, last_due, target_suits}
use Rattle.laws_of_states.specs.Suits.{target_name, job_suits, number_is_below}
use Rattle.laws_of_states.specs.Transactions.{HasOwnJob, IsRooted, written_fits, last_moment, due_fits, draft_fits, IsOwner, CanGoOn}
use Rattle.laws_of_states.specs.OpenLaws.{OutcomeFits}
use Rattle.laws_of_states.specs.PointLaws.{IsSoundlyOpen, PointsStaySound}
use Rattle.laws_of_states.specs.ItemsLaws.{ascends_append, ascends_behind}
use Rattle.laws_of_states.specs.ListsLaws.{bytes_eq_itself, all_imply, all_both, filter_passes, all_append}
use Rattle.laws_of_states.specs.OpeningsLaws.{job_whole}
use Rattle.laws_of_states.specs.RowPartsLaws.{RowSuits, row_parts, row_suits}
use Rattle.laws_of_states.specs.SoundRowsLaws.{BlockRows, ServiceRows, JobRows, has_no_service, NumbersFit, GoodRows, IsWithinLimits, with_gssbs, with_tlss, with_ulss, some_jobs, some_services, sound}
use Rattle.laws_of_states.specs.SoundRowsLaws.{good}
use Rattle.std.specs.FinMap.{is_sorted}

-- ---- areas

module _ (key_of : Bytes × Bytes × Bytes → Key) (suits : Bytes × Bytes × Bytes → Bool) where
  block_gone : (k : Key) (l : List (Bytes × Bytes × Bytes)) → BlockRows key_of suits l → BlockRows key_of suits (without_item key_of k l)
  block_gone k l r = (ascends_without key_of k l r.0, all_without key_of (λ (e : Bytes × Bytes × Bytes). is_filled e.2) k l r.1, all_without key_of suits k l r.2)

  block_set : (e : Bytes × Bytes × Bytes) (l : List (Bytes × Bytes × Bytes)) → IsTrue (is_filled e.2) → IsTrue (suits e) → BlockRows key_of suits l → BlockRows key_of suits (with_item key_of e l)
  block_set e l filled fit r = (ascends_with key_of e l r.0, all_with key_of (λ (b : Bytes × Bytes × Bytes). is_filled b.2) e l filled r.1, all_with key_of suits e l fit r.2)

area_good : (g : Generated) (t : TableRows) (area : Area) (o : Option Bytes) → IsTrue (written_fits g (area, o)) → GoodRows g t → GoodRows g (with_change t (area_change area o))
area_good g t (Gssb name) None h r =
    with_gssbs g t r (without_item gssb_key (GssbKey name) t.gssbs) (ascends_without gssb_key (GssbKey name) t.gssbs r.gssbs.0, all_without gssb_key gssb_suits (GssbKey name) t.gssbs r.gssbs.1)
area_good g t (Gssb name) (Some bytes) h r =
    with_gssbs g t r (with_item gssb_key (name, bytes) t.gssbs) (ascends_with gssb_key (name, bytes) t.gssbs r.gssbs.0, all_with gssb_key gssb_suits (name, bytes) t.gssbs h r.gssbs.1)
area_good g t (Tls block lterm) None h r = with_tlss g t r _ (block_gone tls_key (tls_suits g) (TlsKey block lterm) t.tlss r.tlss)
area_good g t (Tls block lterm) (Some []) h r = with_tlss g t r _ (block_gone tls_key (tls_suits g) (TlsKey block lterm) t.tlss r.tlss)
area_good g t (Tls block lterm) (Some (c ∷ cs)) h r = with_tlss g t r _ (block_set tls_key (tls_suits g) (block, lterm, c ∷ cs) t.tlss refl h r.tlss)
area_good g t (Uls block user) None h r = with_ulss g t r _ (block_gone uls_key (uls_suits g) (UlsKey block user) t.ulss r.ulss)
area_good g t (Uls block user) (Some []) h r = with_ulss g t r _ (block_gone uls_key (uls_suits g) (UlsKey block user) t.ulss r.ulss)
area_good g t (Uls block user) (Some (c ∷ cs)) h r = with_ulss g t r _ (block_set uls_key (uls_suits g) (block, user, c ∷ cs) t.ulss refl h r.ulss)

-- ---- the own service

-- no job that is left has the number of the service
abbrev not_own : ServiceId → Job → Bool
not_own id j = not (key_eq (ServiceKey (Asynchronous j.number)) (ServiceKey id))

-- good rows, the service's number below the next job number, and its job not among those that are left
record OwnRows (g : Generated) (t : TableRows) (id : ServiceId) (began : Option Service) : Type 0 where
  rows : GoodRows g t
  below : IsTrue (number_is_below t.next_job id)
  left : IsTrue (list_all (not_own id) (jobs_left id began t.jobs))

area_own : (g : Generated) (t : TableRows) (id : ServiceId) (began : Option Service) (area : Area) (o : Option Bytes) → IsTrue (written_fits g (area, o)) → OwnRows g t id began → OwnRows g (with_change t (area_change area o)) id began
area_own g t id began (Gssb name) None h r = record { rows = area_good g t (Gssb name) None h r.rows; below = r.below; left = r.left }
area_own g t id began (Gssb name) (Some bytes) h r = record { rows = area_good g t (Gssb name) (Some bytes) h r.rows; below = r.below; left = r.left }
area_own g t id began (Tls block lterm) None h r = record { rows = area_good g t (Tls block lterm) None h r.rows; below = r.below; left = r.left }
area_own g t id began (Tls block lterm) (Some []) h r = record { rows = area_good g t (Tls block lterm) (Some []) h r.rows; below = r.below; left = r.left }
area_own g t id began (Tls block lterm) (Some (c ∷ cs)) h r = record { rows = area_good g t (Tls block lterm) (Some (c ∷ cs)) h r.rows; below = r.below; left = r.left }
area_own g t id began (Uls block user) None h r = record { rows = area_good g t (Uls block user) None h r.rows; below = r.below; left = r.left }
area_own g t id began (Uls block user) (Some []) h r = record { rows = area_good g t (Uls block user) (Some []) h r.rows; below = r.below; left = r.left }
area_own g t id began (Uls block user) (Some (c ∷ cs)) h r = record { rows = area_good g t (Uls block user) (Some (c ∷ cs)) h r.rows; below = r.below; left = r.left }

areas_own : (g : Generated) (id : ServiceId) (began : Option Service) (ws : List (Area × Option Bytes)) (t : TableRows) → IsTrue (list_all (written_fits g) ws) → OwnRows g t id began → OwnRows g (with_areas t ws) id began
unfolding with_areas
areas_own g id began [] t h r = r
areas_own g id began (w ∷ ws) t h r =
    let parts = both_true (written_fits g w) (list_all (written_fits g) ws) h in
    areas_own g id began ws (with_change t (area_change w.0 w.1)) parts.1 (area_own g t id began w.0 w.1 parts.0 r)

-- the own job is gone
record NoOwnJob (g : Generated) (t : TableRows) (id : ServiceId) : Type 0 where
  rows : GoodRows g t
  below : IsTrue (number_is_below t.next_job id)
  left : IsTrue (list_all (not_own id) t.jobs)

own_job_gone : (g : Generated) (t : TableRows) (id : ServiceId) (began : Option Service) → OwnRows g t id began → NoOwnJob g (without_own_job t id began) id
own_job_gone g t (Dialogue user) began r = record { rows = r.rows; below = r.below; left = r.left }
own_job_gone g t (Asynchronous number) (Some row) r = record { rows = r.rows; below = r.below; left = r.left }
own_job_gone g t (Asynchronous number) None r =
    record { rows = some_jobs g t r.rows (λ (j : Job). not (key_eq (JobKey number) (job_key j))); below = r.below; left = r.left }

-- a transaction that is rooted
rooted_own : (g : Generated) (t : TableRows) (id : ServiceId) (began : Option Service) → GoodRows g t → service_of t id ≡ began → HasOwnJob t id began → OwnRows g t id began
rooted_own g t (Dialogue user) began r e job = record { rows = r; below = refl; left = all_true t.jobs }
  where
    all_true : (js : List Job) → IsTrue (list_all (not_own (Dialogue user)) js)
    all_true [] = refl
    all_true (j ∷ js) = true_both (not_own (Dialogue user) j) (list_all (not_own (Dialogue user)) js) refl (all_true js)
rooted_own g t (Asynchronous number) (Some row) r e job = record {
  rows = r;
  below = subst (λ (i : ServiceId). IsTrue (number_is_below t.next_job i)) (own_id t (Asynchronous number) row e) (found_passes service_key (λ (s : Service). number_is_below t.next_job s.id) (ServiceKey (Asynchronous number)) t.services row r.numbers.1 e);
  left = all_imply (has_no_service t.services) (not_own (Asynchronous number)) apart t.jobs r.numbers.2;
}
  where
    apart : (j : Job) → IsTrue (not (is_some (service_of t (Asynchronous j.number)))) → IsTrue (not_own (Asynchronous number) j)
    apart j none = by (key_eq (ServiceKey (Asynchronous j.number)) (ServiceKey (Asynchronous number))) refl
      where
        by : (b : Bool) → key_eq (ServiceKey (Asynchronous j.number)) (ServiceKey (Asynchronous number)) ≡ b → IsTrue (not b)
        by false is = refl
        by true is =
            let same : ServiceKey (Asynchronous j.number) ≡ ServiceKey (Asynchronous number) = key_eq_same (ServiceKey (Asynchronous j.number)) (ServiceKey (Asynchronous number)) is in
            absurd (true≢false (sym (sym (ap (λ (k : Key). not (is_some (item_at service_key k t.services))) same) ∙ none) ∙ ap (λ (o : Option Service). not (is_some o)) e))
rooted_own g t (Asynchronous number) None r e job =
    let found = number_found (item_at job_key (JobKey number) t.jobs) refl job in
    record {
      rows = r;
      below = subst (λ n. IsTrue (nat_lt n t.next_job)) (own_number found.0 (found_key job_key (JobKey number) t.jobs found.0 found.1)) (found_passes job_key (λ (j : Job). nat_lt j.number t.next_job) (JobKey number) t.jobs found.0 r.numbers.0 found.1);
      left = all_imply (λ (j : Job). not (key_eq (JobKey number) (job_key j))) (not_own (Asynchronous number)) other (without_item job_key (JobKey number) t.jobs) (filter_passes (λ (j : Job). not (key_eq (JobKey number) (job_key j))) t.jobs);
    }
  where
    number_found : (o : Option Job) → item_at job_key (JobKey number) t.jobs ≡ o → IsSome (option_map (λ (j : Job). j.value) o) → (j : Job) × (item_at job_key (JobKey number) t.jobs ≡ Some j)
    number_found None is h = absurd (true≢false (sym h))
    number_found (Some j) is h = (j, is)

    own_number : (j : Job) → JobKey j.number ≡ JobKey number → j.number ≡ number
    own_number j same = cc

    same_number : (j : Job) → ServiceKey (Asynchronous j.number) ≡ ServiceKey (Asynchronous number) → number ≡ j.number
    same_number j same = cc

    other : (j : Job) → IsTrue (not (key_eq (JobKey number) (job_key j))) → IsTrue (not_own (Asynchronous number) j)
    other j apart = by (key_eq (ServiceKey (Asynchronous j.number)) (ServiceKey (Asynchronous number))) refl
      where
        by : (b : Bool) → key_eq (ServiceKey (Asynchronous j.number)) (ServiceKey (Asynchronous number)) ≡ b → IsTrue (not b)
        by false is = refl
        by true is =
            let same : number ≡ j.number = same_number j (key_eq_same (ServiceKey (Asynchronous j.number)) (ServiceKey (Asynchronous number)) is) in
            absurd (true≢false (sym (subst (λ n. IsTrue (not (key_eq (JobKey number) (JobKey n)))) (sym same) apart) ∙ ap not (key_eq_itself (JobKey number))))

-- ---- new jobs

-- jobs with numbers from one up to another, that suit
record AreNew (g : Generated) (from to : ℕ) (js : List Job) : Type 0 where
  suit : IsTrue (list_all (job_suits g) js)
  low : IsTrue (list_all (λ (j : Job). nat_le from j.number) js)
  high : IsTrue (list_all (λ (j : Job). nat_lt j.number to) js)
  up : IsTrue (ascends job_key js)

due_le : (d : Due) (clock : ℕ) → clock ≤ last_clock → IsTrue (due_fits d) → due_at d clock ≤ last_due
due_le (After ticks) clock h fits = omega (arith, h, leb-true ticks last_moment fits)
due_le (At ticks) clock h fits = omega (arith, h, leb-true ticks last_moment fits)

draft_job : (g : Generated) (d : Draft) (number clock : ℕ) (user lterm : Bytes) → clock ≤ last_clock → IsTrue (is_user g user) → IsTrue (is_lterm g lterm) → IsTrue (draft_fits g d)
    → IsTrue (job_suits g (record { number = number; value = record { to = d.to; due = due_at d.due clock; redelivered = 0; user = user; lterm = lterm; message = d.message } }))
draft_job g d number clock user lterm h u l fits =
    let a = both_true (target_suits g d.to (job_target g (target_name d.to)) && fits_message g d.message) (due_fits d.due) fits in
    let b = both_true (target_suits g d.to (job_target g (target_name d.to))) (fits_message g d.message) a.0 in
    job_whole g (record { number = number; value = record { to = d.to; due = due_at d.due clock; redelivered = 0; user = user; lterm = lterm; message = d.message } })
    (record { due = le-leb (due_at d.due clock) last_due (due_le d.due clock h a.1); user = u; lterm = l; message = b.1; target = b.0 })

numbered_new : (g : Generated) (clock : ℕ) (user lterm : Bytes) → clock ≤ last_clock → IsTrue (is_user g user) → IsTrue (is_lterm g lterm) → (ds : List Draft) (next : ℕ) → IsTrue (list_all (draft_fits g) ds)
    → AreNew g next (next + length ds) (numbered next clock user lterm ds)
unfolding numbered
numbered_new g clock user lterm h u l [] next fits = record { suit = refl; low = refl; high = refl; up = refl }
numbered_new g clock user lterm h u l (d ∷ ds) next fits =
    let parts = both_true (draft_fits g d) (list_all (draft_fits g) ds) fits in
    let rest = numbered_new g clock user lterm h u l ds (next + 1) parts.1 in
    let js = numbered (next + 1) clock user lterm ds in
    let job : Job = record { number = next; value = record { to = d.to; due = due_at d.due clock; redelivered = 0; user = user; lterm = lterm; message = d.message } } in
    record {
      suit = true_both (job_suits g job) (list_all (job_suits g) js) (draft_job g d next clock user lterm h u l parts.0) rest.suit;
      low = true_both (nat_le next next) (list_all (λ (j : Job). nat_le next j.number) js) (le-leb next next (omega arith))
          (all_imply (λ (j : Job). nat_le (next + 1) j.number) (λ (j : Job). nat_le next j.number) (λ j le. le-leb next j.number (omega (arith, leb-true (next + 1) j.number le))) js rest.low);
      high = true_both (nat_lt next (next + suc (length ds))) (list_all (λ (j : Job). nat_lt j.number (next + suc (length ds))) js) (lt-ltb next (next + suc (length ds)) (omega arith))
          (all_imply (λ (j : Job). nat_lt j.number (next + 1 + length ds)) (λ (j : Job). nat_lt j.number (next + suc (length ds))) (λ j lt. lt-ltb j.number (next + suc (length ds)) (omega (arith, ltb-true j.number (next + 1 + length ds) lt))) js rest.high);
      up = ascends_behind job js rest.low rest.up;
    }

below_more : (n m : ℕ) (id : ServiceId) → n ≤ m → IsTrue (number_is_below n id) → IsTrue (number_is_below m id)
below_more n m (Dialogue user) le h = refl
below_more n m (Asynchronous number) le h = lt-ltb number m (omega (arith, le, ltb-true number n h))

-- a number from the next one on is no service's
high_apart : (next number : ℕ) (id : ServiceId) → IsTrue (number_is_below next id) → IsTrue (nat_le next number) → IsTrue (not (key_eq (ServiceKey (Asynchronous number)) (ServiceKey id)))
high_apart next number id below high = by (key_eq (ServiceKey (Asynchronous number)) (ServiceKey id)) refl
  where
    ids : (i : ServiceId) → ServiceKey (Asynchronous number) ≡ ServiceKey i → Asynchronous number ≡ i
    ids i same = cc

    by : (b : Bool) → key_eq (ServiceKey (Asynchronous number)) (ServiceKey id) ≡ b → IsTrue (not b)
    by false is = refl
    by true is =
        let same : Asynchronous number ≡ id = ids id (key_eq_same (ServiceKey (Asynchronous number)) (ServiceKey id) is) in
        let lt : IsTrue (nat_lt number next) = subst (λ (i : ServiceId). IsTrue (number_is_below next i)) (sym same) below in
        absurd (omega (arith, ltb-true number next lt, leb-true next number high))

high_none : (next number : ℕ) → IsTrue (nat_le next number) → (ss : List Service) → IsTrue (list_all (λ (s : Service). number_is_below next s.id) ss) → IsTrue (not (is_some (item_at service_key (ServiceKey (Asynchronous number)) ss)))
high_none next number high [] below = refl
high_none next number high (s ∷ ss) below =
    let parts = both_true (number_is_below next s.id) (list_all (λ (u : Service). number_is_below next u.id) ss) below in
    by (key_eq (ServiceKey (Asynchronous number)) (ServiceKey s.id)) (high_apart next number s.id parts.0 high) (high_none next number high ss parts.1)
  where
    by : (b : Bool) → IsTrue (not b) → IsTrue (not (is_some (item_at service_key (ServiceKey (Asynchronous number)) ss))) → IsTrue (not (is_some (cond b (Some s) (item_at service_key (ServiceKey (Asynchronous number)) ss))))
    by true h rest = absurd (true≢false (sym h))
    by false h rest = rest

-- the new jobs follow those that are left
more_jobs : (g : Generated) (t : TableRows) (id : ServiceId) (n : ℕ) (js : List Job) → AreNew g t.next_job (t.next_job + n) js → NoOwnJob g t id → NoOwnJob g (record t { jobs = t.jobs ++ js; next_job = t.next_job + n }) id
more_jobs g t id n js new r =
    let next = t.next_job in
    let below : Job → Bool = λ (j : Job). nat_lt j.number (next + n) in
    let from_next : Job → Bool = λ (j : Job). nat_le next j.number in
    let jobs : JobRows g (t.jobs ++ js) = (ascends_append next t.jobs js r.rows.jobs.0 new.up r.rows.numbers.0 new.low, all_append (job_suits g) t.jobs js r.rows.jobs.1 new.suit) in
    let job_numbers = all_append below t.jobs js (all_imply (λ (j : Job). nat_lt j.number next) below (λ j lt. lt-ltb j.number (next + n) (omega (arith, ltb-true j.number next lt))) t.jobs r.rows.numbers.0) new.high in
    let service_numbers = all_imply (λ (s : Service). number_is_below next s.id) (λ (s : Service). number_is_below (next + n) s.id) (λ s h. below_more next (next + n) s.id (omega arith) h) t.services r.rows.numbers.1 in
    let apart = all_append (has_no_service t.services) t.jobs js r.rows.numbers.2 (all_imply from_next (has_no_service t.services) (λ j high. high_none next j.number high t.services r.rows.numbers.1) js new.low) in
    record {
      rows = record { clock = r.rows.clock; next_job = omega (arith, r.rows.next_job); gssbs = r.rows.gssbs; tlss = r.rows.tlss; ulss = r.rows.ulss; services = r.rows.services; jobs = jobs; shown = r.rows.shown; numbers = (job_numbers, service_numbers, apart) };
      below = below_more next (next + n) id (omega arith) r.below;
      left = all_append (not_own id) t.jobs js r.left (all_imply from_next (not_own id) (λ j high. high_apart next j.number id r.below high) js new.low);
    }

drafts_good : (g : Generated) (t : TableRows) (id : ServiceId) (x : OpenTransaction) → CanGoOn g id x → NoOwnJob g t id → NoOwnJob g (with_drafts t x) id
drafts_good g t id x can r =
    more_jobs g t id (length x.drafts) (numbered t.next_job t.clock x.user x.lterm x.drafts)
    (numbered_new g t.clock x.user x.lterm r.rows.clock can.user can.lterm x.drafts t.next_job can.drafts) r

-- ---- the row of the service

-- a row that may be there
record RowFits (g : Generated) (id : ServiceId) (row : Service) : Type 0 where
  own : row.id ≡ id
  suits : IsTrue (service_suits g row)
  fits : IsTrue (service_fits row)

with_row_good : (g : Generated) (t : TableRows) (row : Service) → IsTrue (service_suits g row) → IsTrue (service_fits row) → NoOwnJob g t row.id → GoodRows g (record t { services = with_item service_key row t.services })
with_row_good g t row suits fits r =
    let services : ServiceRows g (with_item service_key row t.services) =
    (ascends_with service_key row t.services r.rows.services.0, all_with service_key service_fits row t.services fits r.rows.services.1, all_with service_key (service_suits g) row t.services suits r.rows.services.2) in
    let numbers : NumbersFit t.next_job t.jobs (with_item service_key row t.services) =
    (r.rows.numbers.0, all_with service_key (λ (s : Service). number_is_below t.next_job s.id) row t.services r.below r.rows.numbers.1, all_both (not_own row.id) (has_no_service t.services) (has_no_service (with_item service_key row t.services)) still t.jobs r.left r.rows.numbers.2) in
    record { clock = r.rows.clock; next_job = r.rows.next_job; gssbs = r.rows.gssbs; tlss = r.rows.tlss; ulss = r.rows.ulss; services = services; jobs = r.rows.jobs; shown = r.rows.shown; numbers = numbers }
  where
    still : (j : Job) → IsTrue (not_own row.id j) → IsTrue (has_no_service t.services j) → IsTrue (has_no_service (with_item service_key row t.services) j)
    still j apart none =
        ap (λ (o : Option Service). not (is_some o)) (item_at_with service_key (ServiceKey (Asynchronous j.number)) row t.services)
        ∙ by (key_eq (ServiceKey (Asynchronous j.number)) (service_key row)) apart
      where
        by : (b : Bool) → IsTrue (not b) → not (is_some (cond b (Some row) (service_of t (Asynchronous j.number)))) ≡ true
        by true h = absurd (true≢false (sym h))
        by false h = none

service_good : (g : Generated) (t : TableRows) (id : ServiceId) (o : Option Service) → IfSome o (λ (row : Service). RowFits g id row) → NoOwnJob g t id → GoodRows g (with_service t id o)
service_good g t id None fits r = some_services g t r.rows (λ (s : Service). not (key_eq (ServiceKey id) (service_key s)))
service_good g t id (Some row) fits r = with_row_good g t row fits.suits fits.fits (subst (NoOwnJob g t) (sym fits.own) r)

pub length_joined : (parts : List Bytes) → length (joined parts) ≡ sum_by length parts
length_joined [] = refl
length_joined (p ∷ ps) = omega (arith, length-append p (joined ps), length_joined ps, sum_by-cons length p ps)

owner_is : (id : ServiceId) (x : OpenTransaction) → IsOwner id x.user → is_asynchronous id ≡ false → (s : Service) → s.user ≡ x.user → IsTrue (owner_suits id s)
owner_is (Dialogue user) x owner e s same = ap (λ (u : Bytes). bytes_eq u s.user) (owner ∙ sym same) ∙ bytes_eq_itself s.user
owner_is (Asynchronous number) x owner e s same = absurd (true≢false e)

lterm_row_suits : (g : Generated) (id : ServiceId) (lterm : Bytes) → IsTrue (is_lterm g lterm) → IsTrue (lterm_suits g (lterm_in_row id lterm))
lterm_row_suits g (Dialogue user) lterm h = refl
lterm_row_suits g (Asynchronous number) lterm h = h

pub lterm_row_there : (id : ServiceId) (lterm : Bytes) → IsTrue (lterm_fits id (lterm_in_row id lterm))
lterm_row_there (Dialogue user) lterm = refl
lterm_row_there (Asynchronous number) lterm = refl

pub point_row_fits : (g : Generated) (id : ServiceId) (x : OpenTransaction) (o : Outcome) → IsTrue (is_sorted bytes_cmp x.lssbs) → IsTrue (change_fits (service_change id (row_after g id x o)))
unfolding row_after
point_row_fits g id x (Wait tac) h = true_both _ _ (id_eq_itself id) (true_both _ _ (lterm_row_there id x.lterm) h)
point_row_fits g id x (Point tac) h = true_both _ _ (id_eq_itself id) (true_both _ _ (lterm_row_there id x.lterm) h)
point_row_fits g id x (Follow tac) h = true_both _ _ (id_eq_itself id) (true_both _ _ (lterm_row_there id x.lterm) refl)
point_row_fits g id x _ h = refl

-- the row from which the transaction began suits
abbrev BeganSuits : Generated → ServiceId → Option Service → Type 0
BeganSuits g id began = IfSome began (λ (row : Service). RowSuits g row × (row.id ≡ id))

last_of_fits : (g : Generated) (id : ServiceId) (began : Option Service) → BeganSuits g id began → IsTrue (last_fits g (last_of began))
last_of_fits g id None h = refl
last_of_fits g id (Some row) h = h.0.last

-- a point that goes on: an asynchronous service has no message and no last message
no_last : (number : ℕ) (g : Generated) (began : Option Service) → BeganSuits g (Asynchronous number) began → IsTrue (not (is_some (last_of began)))
no_last number g None h = refl
no_last number g (Some row) h =
    let owner : IsTrue (owner_suits (Asynchronous number) row) = subst (λ (i : ServiceId). IsTrue (owner_suits i row)) h.1 h.0.owner in
    (both_true (not row.awaits && is_empty row.handed) (not (is_some row.last)) owner).1

point_owner : (g : Generated) (id : ServiceId) (x : OpenTransaction) (tac : Bytes) → CanGoOn g id x → BeganSuits g id x.began → IsTrue (owner_suits id (point_row id x tac false x.parts (last_of x.began)))
point_owner g (Dialogue user) x tac can began = ap (λ (u : Bytes). bytes_eq u x.user) can.owner ∙ bytes_eq_itself x.user
point_owner g (Asynchronous number) x tac can began =
    true_both (not false && is_empty x.parts) (not (is_some (last_of x.began))) (ap (λ (ps : List Bytes). is_empty ps) can.puts) (no_last number g x.began began)

row_after_suits : (g : Generated) (id : ServiceId) (x : OpenTransaction) (o : Outcome) → CanGoOn g id x → BeganSuits g id x.began → OutcomeFits g (is_asynchronous id) o → IfSome (row_after g id x o) (λ (row : Service). RowFits g id row)
unfolding row_after
row_after_suits g id x (Wait tac) can began fits = record {
  own = refl;
  suits = row_suits g (point_row id x tac true [] (Some (joined x.parts))) (record {
    user = can.user;
    lterm = lterm_row_suits g id x.lterm can.lterm;
    owner = owner_is id x can.owner fits.1 (point_row id x tac true [] (Some (joined x.parts))) refl;
    first = can.first;
    next = fits.0;
    kb = (Decides-eqb (length x.run.kb) g.limits.kb).1 can.kb;
    lssbs_count = le-leb (length x.lssbs) g.limits.lssbs can.lssbs_count;
    lssbs_order = can.lssbs_order;
    lssbs = can.lssbs;
    awaits = refl;
    last = le-leb (length (joined x.parts)) g.limits.nb (omega (arith, length_joined x.parts, can.parts.bytes));
    handed_count = le-leb 0 16 (omega arith);
    handed = le-leb 0 g.limits.nb (omega arith);
  });
  fits = true_both _ _ (lterm_row_there id x.lterm) can.lssbs_order;
}
row_after_suits g id x (Point tac) can began fits = record {
  own = refl;
  suits = row_suits g (point_row id x tac false x.parts (last_of x.began)) (record {
    user = can.user;
    lterm = lterm_row_suits g id x.lterm can.lterm;
    owner = point_owner g id x tac can began;
    first = can.first;
    next = fits;
    kb = (Decides-eqb (length x.run.kb) g.limits.kb).1 can.kb;
    lssbs_count = le-leb (length x.lssbs) g.limits.lssbs can.lssbs_count;
    lssbs_order = can.lssbs_order;
    lssbs = can.lssbs;
    awaits = refl;
    last = last_of_fits g id x.began began;
    handed_count = le-leb (length x.parts) 16 can.parts.count;
    handed = le-leb (sum_by length x.parts) g.limits.nb can.parts.bytes;
  });
  fits = true_both _ _ (lterm_row_there id x.lterm) can.lssbs_order;
}
row_after_suits g id x (Follow tac) can began fits = record {
  own = refl;
  suits = row_suits g (new_row g id x tac) (record {
    user = can.user;
    lterm = lterm_row_suits g id x.lterm can.lterm;
    owner = owner_is id x can.owner fits.1 (new_row g id x tac) refl;
    first = fits.0;
    next = fits.0;
    kb = (Decides-eqb (length (spaces g.limits.kb)) g.limits.kb).1 (length-replicate g.limits.kb 32);
    lssbs_count = le-leb 0 g.limits.lssbs (omega arith);
    lssbs_order = refl;
    lssbs = refl;
    awaits = refl;
    last = refl;
    handed_count = le-leb (length x.parts) 16 can.parts.count;
    handed = le-leb (sum_by length x.parts) g.limits.nb can.parts.bytes;
  });
  fits = true_both _ _ (lterm_row_there id x.lterm) refl;
}
row_after_suits g id x Finish can began fits = tt
row_after_suits g id x _ can began fits = tt

-- ---- synchronisation points

began_suits : (g : Generated) (t : TableRows) (id : ServiceId) (began : Option Service) → GoodRows g t → service_of t id ≡ began → BeganSuits g id began
began_suits g t id None r e = tt
began_suits g t id (Some row) r e = (row_parts g row (found_passes service_key (service_suits g) (ServiceKey id) t.services row r.services.2 e), own_id t id row e)

point_good : (g : Generated) (t : TableRows) (id : ServiceId) (x : OpenTransaction) (o : Outcome) → GoodRows g t → CanGoOn g id x → IsRooted t id x → OutcomeFits g (is_asynchronous id) o → GoodRows g (synchronised g t id x o)
unfolding synchronised
point_good g t id x o r can rooted fits =
    let u = without_own_job (with_areas t x.written) id x.began in
    let own = rooted_own g t id x.began r rooted.began rooted.job in
    let gone = own_job_gone g (with_areas t x.written) id x.began (areas_own g id x.began x.written t can.written own) in
    service_good g (with_drafts u x) id (row_after g id x o) (row_after_suits g id x o can (began_suits g t id x.began r rooted.began) fits) (drafts_good g u id x can gone)

pub not_refused : (g : Generated) (t : TableRows) → refusal g t ≡ None → IsWithinLimits g t
unfolding refusal
not_refused g t h = by (nat_lt g.limits.gssbs (length t.gssbs)) refl (nat_lt last_next_job t.next_job) refl (nat_lt g.limits.pgpool (total_charge g.limits.blksize t)) refl h
  where
    by : (a : Bool) → nat_lt g.limits.gssbs (length t.gssbs) ≡ a → (b : Bool) → nat_lt last_next_job t.next_job ≡ b → (c : Bool) → nat_lt g.limits.pgpool (total_charge g.limits.blksize t) ≡ c
        → (if a then Some E10 else if b then Some E11 else if c then Some E09 else None) ≡ None → IsWithinLimits g t
    by true e b f c k is = absurd cc
    by false e true f c k is = absurd cc
    by false e false f true k is = absurd cc
    by false e false f false k is = record {
      next_job = omega (arith, ltb-false last_next_job t.next_job f);
      charge = omega (arith, ltb-false g.limits.pgpool (total_charge g.limits.blksize t) k);
      count = omega (arith, ltb-false g.limits.gssbs (length t.gssbs) e);
    }

pub points_stay_sound : PointsStaySound
points_stay_sound g t id x o stands fits h =
    sound g (synchronised g t id x o) (point_good g t id x o (good g t stands.sound) stands.can stands.rooted fits) (not_refused g (durable g (synchronised g t id x o)) h)

-- the row after a point suits
pub next_row : (g : Generated) (t : TableRows) (id : ServiceId) (x : OpenTransaction) (o : Outcome) → IsSoundlyOpen g t id x → OutcomeFits g (is_asynchronous id) o → (row : Service) → row_after g id x o ≡ Some row → IsTrue (service_suits g row) × (row.id ≡ id)
next_row g t id x o stands fits row e =
    let row_fits : RowFits g id row =
    subst (λ (r : Option Service). IfSome r (λ (s : Service). RowFits g id s)) e (row_after_suits g id x o stands.can (began_suits g t id x.began (good g t stands.sound) stands.rooted.began) fits) in
    (row_fits.suits, row_fits.own)
