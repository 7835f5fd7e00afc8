-- Whether any task's turn has an effect, asked of one task after another.
use Rattle.std.proofs.Common.{◌≡◌, ℕ, zero, suc, ◌+◌, ◌-◌, ◌<◌, ◌≤◌, refl, sym, ap, subst, ◌∙◌, arith}
use Rattle.std.specs.Prelude.{Bool, true, false, ◌==◌, cond}
use Rattle.std.proofs.lemmas.Bool.{eqb-true, true≢false}
use Rattle.std.proofs.lemmas.Bool.Decides.{Decides-eqb}
use Rattle.application_types.specs.Statements.{IsWithin}
use Rattle.abstract_monitor.specs.State.{Application, State}
use Rattle.laws_of_states.specs.Keeping.{HasFacts}
use Rattle.monitor_core.specs.CoreValue.{CoreValue}
use Rattle.lab_walks.specs.Orders.{has_effect}
use Rattle.lab_walks.specs.Walks.{idle_count, idle_from}
use Rattle.lab_orders.specs.Trying.{Rested, TriedEffect}
use Rattle.lab_orders.proofs.Searching.{idle_none, idle_one}

idle_most : (app : Application) (s : State) (task n : ℕ) → idle_from app s task n ≤ n
idle_most app s task zero = omega arith
idle_most app s task (suc n) = by (has_effect app s task) (idle_most app s (task + 1) n)
  where
    by : (b : Bool) → idle_from app s (task + 1) n ≤ n → cond b 0 1 + idle_from app s (task + 1) n ≤ suc n
    by true h = omega (arith, h)
    by false h = omega (arith, h)

-- so many tasks have turns without effect
pub record Asking (c d : CoreValue) (at : ℕ) : Type 0 where
  pub application : d.application ≡ c.application
  pub state : d.state ≡ c.state
  pub facts : HasFacts d.application d.state
  pub steps : d.steps ≤ c.steps + at
  pub idle : at + idle_from c.application c.state (at + 1) (c.application.generation.limits.tasks - at) ≡ idle_count c.application c.state

pub asking_start : (c : CoreValue) → HasFacts c.application c.state → Asking c c 0
asking_start c facts = record {
  application = refl;
  state = refl;
  facts = facts;
  steps = omega arith;
  idle =
      let all : c.application.generation.limits.tasks - 0 ≡ c.application.generation.limits.tasks = omega arith in
      let front : idle_from c.application c.state 1 (c.application.generation.limits.tasks - 0) ≡ idle_count c.application c.state = ap (idle_from c.application c.state 1) all in
      omega (arith, front);
}

module _ (c d : CoreValue) (at : ℕ) (asking : Asking c d at) where
  pub asking_over : at ≡ c.application.generation.limits.tasks → Rested c d true
  asking_over over = record {
    application = asking.application;
    is =
        let none : c.application.generation.limits.tasks - at ≡ 0 = omega (arith, over) in
        let front : idle_from c.application c.state (at + 1) (c.application.generation.limits.tasks - at) ≡ 0 = ap (idle_from c.application c.state (at + 1)) none in
        let all : idle_count c.application c.state ≡ c.application.generation.limits.tasks = omega (arith, over, front, asking.idle) in
        sym ((Decides-eqb (idle_count c.application c.state) c.application.generation.limits.tasks).1 all);
    stays = λ rests. asking.state;
  }

  module _ (lt : at < c.application.generation.limits.tasks) where
    one_less : c.application.generation.limits.tasks - at ≡ suc (c.application.generation.limits.tasks - (at + 1))
    one_less = omega (arith, lt)

    pub asking_within : IsWithin 1 d.application.generation.limits.tasks (at + 1)
    asking_within = (omega arith, subst (λ (a : Application). at + 1 ≤ a.generation.limits.tasks) (sym asking.application) (omega (arith, lt)))

    module _ (next : CoreValue) where
      effect_here : (moved : Bool) → TriedEffect d (at + 1) next moved → has_effect c.application c.state (at + 1) ≡ moved
      effect_here moved tried = (λ i. has_effect (sym asking.application i) (sym asking.state i) (at + 1)) ∙ tried.effect

      pub asking_more : (moved : Bool) → moved ≡ false → TriedEffect d (at + 1) next moved → next.steps ≡ d.steps + 1 → Asking c next (at + 1)
      asking_more moved none tried steps = record {
        application = tried.application ∙ asking.application;
        state = tried.stays none ∙ asking.state;
        facts = tried.facts;
        steps = omega (arith, steps, asking.steps);
        idle =
            let front : idle_from c.application c.state (at + 1) (c.application.generation.limits.tasks - at) ≡ 1 + idle_from c.application c.state (at + 1 + 1) (c.application.generation.limits.tasks - (at + 1)) =
            ap (idle_from c.application c.state (at + 1)) one_less ∙ idle_one c.application c.state (at + 1) (c.application.generation.limits.tasks - (at + 1)) (effect_here moved tried ∙ none) in
            omega (arith, front, asking.idle);
      }

      pub asking_moved : (moved : Bool) → moved ≡ true → TriedEffect d (at + 1) next moved → Rested c next false
      asking_moved moved some tried = record {
        application = tried.application ∙ asking.application;
        is = sym (by (idle_count c.application c.state == c.application.generation.limits.tasks) refl);
        stays = λ rests. absurd (true≢false (sym rests));
      }
        where
          few : idle_count c.application c.state < c.application.generation.limits.tasks
          few =
              let front : idle_from c.application c.state (at + 1) (c.application.generation.limits.tasks - at) ≡ idle_from c.application c.state (at + 1 + 1) (c.application.generation.limits.tasks - (at + 1)) =
              ap (idle_from c.application c.state (at + 1)) one_less ∙ idle_none c.application c.state (at + 1) (c.application.generation.limits.tasks - (at + 1)) (effect_here moved tried ∙ some) in
              let most = idle_most c.application c.state (at + 1 + 1) (c.application.generation.limits.tasks - (at + 1)) in
              omega (arith, front, most, lt, asking.idle)

          by : (b : Bool) → (idle_count c.application c.state == c.application.generation.limits.tasks) ≡ b → (idle_count c.application c.state == c.application.generation.limits.tasks) ≡ false
          by true e = let same = eqb-true (idle_count c.application c.state) c.application.generation.limits.tasks e in absurd (omega (arith, few, same))
          by false e = e
