-- One more service that goes on at a start.
use Rattle.std.specs.Prelude.{◌≡◌, refl, ℕ, zero, suc, true, List, [], ◌∷◌, map, replicate, Option, None}
use Rattle.std.specs.List.{list_all}
use Rattle.std.proofs.Common.{ap, sym, subst, ◌∙◌}
use Rattle.kdcs_types.specs.declared.key.ServiceId.{ServiceId}
use Rattle.kdcs_types.specs.declared.service.Job.{Job}
use Rattle.kdcs_types.specs.declared.service.Service.{Service}
use Rattle.kdcs_types.specs.Tables.{TableRows, IsSortedTables}
use Rattle.application_types.specs.Generation.{Generated}
use Rattle.monitor_parts.specs.Asked.{no_locks}
use Rattle.open_transaction.specs.MarksLaws.{untaken_of}
use Rattle.open_transaction.specs.Queue.{untaken}
use Rattle.service_ends.specs.Schedule.{all_free, service_in}
use Rattle.abstract_monitor.specs.Charges.{total_charge}
use Rattle.abstract_monitor.specs.Commands.{asynchronous_rows, started}
use Rattle.abstract_monitor.specs.Endings.{durable}
use Rattle.abstract_monitor.specs.Picks.{is_free}
use Rattle.abstract_monitor.specs.State.{Application, State}
use Rattle.service_ends.specs.declared.core_state.parts.MonitorParts.{MonitorParts}
use Rattle.service_ends.specs.Standing.{Each, IsIndexed, PlaceHasClass, SameApplication, state_of}
use Rattle.service_ends.specs.Whole.{app_of}
use Rattle.service_ends.specs.WholeLaws.{same_app}
use Rattle.monitor_core.specs.Starting.{AreFresh, all_opened, idle, opened_then}
use Rattle.monitor_core.specs.StartingLaws.{fresh_of, fresh_then, started_so}

module _ (p q r : MonitorParts) (row : Service) (all rest : List Service) (same : SameApplication p q) (steps : all ≡ row ∷ rest) (state : state_of r ≡ opened_then (app_of q) (state_of q) row) where
  pub fresh_more : AreFresh (state_of q) all → AreFresh (state_of r) rest
  fresh_more h =
      let parts : AreFresh (state_of q) (row ∷ rest) = subst (AreFresh (state_of q)) steps h in
      subst (λ (s : State). AreFresh s rest) (sym state) (fresh_then (app_of q) (state_of q) row rest parts.1 parts.2)

  pub made_more : (whole : State) → all_opened (app_of p) (state_of q) all ≡ whole → all_opened (app_of p) (state_of r) rest ≡ whole
  made_more whole made =
      ap (λ (s : State). all_opened (app_of p) s rest) (state ∙ ap (λ (app : Application). opened_then app (state_of q) row) (same_app p q same.generation same.units))
      ∙ sym (ap (all_opened (app_of p) (state_of q)) steps)
      ∙ made

-- ---- nobody is anywhere

free_places : (n : ℕ) → map service_in (replicate n None) ≡ replicate n None
free_places zero = refl
free_places (suc n) = ap (λ (l : List (Option ServiceId)). None ∷ l) (free_places n)

no_classes : (g : Generated) (n : ℕ) → Each (PlaceHasClass g []) (replicate n None)
no_classes g zero = tt
no_classes g (suc n) = (tt, no_classes g n)

all_free_jobs : (jobs : List Job) → list_all (is_free []) jobs ≡ true
all_free_jobs [] = refl
all_free_jobs (job ∷ jobs) = all_free_jobs jobs

pub rest_state : (p : MonitorParts) → p.scheduler ≡ all_free p.generation.limits.tasks → p.sessions ≡ [] → p.active ≡ [] → p.locks ≡ no_locks → state_of p ≡ idle p.generation p.tables
rest_state p scheduler sessions active locks =
    (λ i. state_of (record p { scheduler = scheduler i; sessions = sessions i; active = active i; locks = locks i }))
    ∙ ap (λ (l : List (Option ServiceId)). record (idle p.generation p.tables) { tasks = l }) (free_places p.generation.limits.tasks)

abbrev pub IsCharged : MonitorParts → Type 0
IsCharged p = p.charge ≡ total_charge p.generation.limits.blksize (durable p.generation p.tables)

resting : (p : MonitorParts) → IsCharged p → IsIndexed (record p { scheduler = all_free p.generation.limits.tasks; sessions = []; active = []; locks = no_locks; jobs = map untaken p.tables.jobs })
resting p charge = record { owned = tt; ready = tt; places = no_classes p.generation p.generation.limits.tasks; locks = λ id area. refl; jobs = untaken_of [] p.tables.jobs (all_free_jobs p.tables.jobs); charge = charge }

pub rest_indexed : (p : MonitorParts) → p.scheduler ≡ all_free p.generation.limits.tasks → p.sessions ≡ [] → p.active ≡ [] → p.locks ≡ no_locks → p.jobs ≡ map untaken p.tables.jobs → IsCharged p → IsIndexed p
rest_indexed p scheduler sessions active locks jobs charge =
    subst IsIndexed (sym (λ i. record p { scheduler = scheduler i; sessions = sessions i; active = active i; locks = locks i; jobs = jobs i })) (resting p charge)

-- ---- the whole start

pub fresh_there : (p : MonitorParts) (g : Generated) (t : TableRows) (rows : List Service) → state_of p ≡ idle g t → rows ≡ asynchronous_rows t → IsSortedTables t → AreFresh (state_of p) rows
fresh_there p g t rows state e order =
    subst (λ (s : State). AreFresh s rows) (sym state) (subst (AreFresh (idle g t)) (sym e) (fresh_of g t order))

pub started_there : (p q : MonitorParts) (g : Generated) (t : TableRows) (rows : List Service) → SameApplication p q → p.generation ≡ g → state_of p ≡ idle g t → rows ≡ asynchronous_rows t → IsSortedTables t
    → state_of q ≡ all_opened (app_of p) (state_of p) rows → state_of q ≡ started (app_of q) t
started_there p q g t rows same generation state e order opened =
    opened
    ∙ ap (λ (s : State). all_opened (app_of p) s rows) (state ∙ ap (λ (h : Generated). idle h t) (sym generation))
    ∙ ap (all_opened (app_of p) (idle p.generation t)) e
    ∙ started_so (app_of p) t order
    ∙ ap (λ (app : Application). started app t) (sym (same_app p q same.generation same.units))
