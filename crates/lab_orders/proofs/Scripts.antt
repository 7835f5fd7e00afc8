-- The script of an order, command after command.
use Rattle.std.proofs.Common.{◌≡◌, ℕ, zero, suc, ◌+◌, ◌-◌, ◌<◌, ◌≤◌, List, [], ◌∷◌, ◌++◌, refl, sym, ap, ◌∙◌, append_assoc, arith, drop, length}
use Rattle.std.proofs.lemmas.List.{append-nil, drop_all}
use Rattle.abstract_monitor.specs.declared.command.Command.{Command}
use Rattle.abstract_monitor.specs.declared.command.Command.TheVariants.{Input, Tick, Run, Turn, Drop, Print, PrintLast, Restart}
use Rattle.lab_walks.specs.Orders.{turned_run, turned_script}
use Rattle.lab_orders.specs.Walking.{IsNoRun}

-- ---- a RUN

-- some turns of a RUN are put
pub record Putting (before now : List Command) (turns at : ℕ) (order rest : List ℕ) : Type 0 where
  pub puts : (follows : List ℕ → List Command) → now ++ turned_run (turns - at) follows rest ≡ before ++ turned_run turns follows order

-- a RUN is put, and what follows is behind it
abbrev pub Put : (before now : List Command) (turns : ℕ) (order rest : List ℕ) → Type 0
Put before now turns order rest = (follows : List ℕ → List Command) → now ++ follows rest ≡ before ++ turned_run turns follows order

none_left : (follows : List ℕ → List Command) (rest : List ℕ) → turned_run 0 follows rest ≡ follows rest
unfolding turned_run
none_left follows rest = refl

nothing_behind : (n : ℕ) (follows : List ℕ → List Command) → turned_run (suc n) follows [] ≡ follows []
unfolding turned_run
nothing_behind n follows = refl

ended_behind : (n : ℕ) (follows : List ℕ → List Command) (behind : List ℕ) → turned_run (suc n) follows (0 ∷ behind) ≡ follows behind
unfolding turned_run
ended_behind n follows behind = refl

turn_behind : (n : ℕ) (follows : List ℕ → List Command) (task : ℕ) (behind : List ℕ) → (task ≡ 0 → ⊥) → turned_run (suc n) follows (task ∷ behind) ≡ Turn task ∷ turned_run n follows behind
unfolding turned_run
turn_behind n follows zero behind ne = absurd (ne refl)
turn_behind n follows (suc t) behind ne = refl

pub none_here : {X : Type 0} (rest : List X) → length rest ≡ 0 → rest ≡ []
none_here [] e = refl
none_here (x ∷ rest) e = absurd (omega (arith, e))

module _ (before now : List Command) (turns at : ℕ) (order rest : List ℕ) (putting : Putting before now turns at order rest) where
  pub putting_over : turns ≤ at → Put before now turns order rest
  putting_over over follows =
      let none : turns - at ≡ 0 = omega (arith, over) in
      ap (λ (l : List Command). now ++ l) (sym (none_left follows rest)) ∙ ap (λ n. now ++ turned_run n follows rest) (sym none) ∙ putting.puts follows

  module _ (lt : at < turns) where
    here : (follows : List ℕ → List Command) → now ++ turned_run (suc (turns - (at + 1))) follows rest ≡ before ++ turned_run turns follows order
    here follows = let one_less : suc (turns - (at + 1)) ≡ turns - at = omega (arith, lt) in ap (λ n. now ++ turned_run n follows rest) one_less ∙ putting.puts follows

    pub putting_none : rest ≡ [] → Put before now turns order rest
    putting_none none follows =
        ap (λ (l : List ℕ). now ++ follows l) none
        ∙ ap (λ (l : List Command). now ++ l) (sym (nothing_behind (turns - (at + 1)) follows))
        ∙ ap (λ (l : List ℕ). now ++ turned_run (suc (turns - (at + 1))) follows l) (sym none)
        ∙ here follows

    module _ (task : ℕ) (behind : List ℕ) (is : rest ≡ task ∷ behind) where
      pub putting_end : task ≡ 0 → Put before now turns order behind
      putting_end zero_is follows =
          ap (λ (l : List Command). now ++ l) (sym (ended_behind (turns - (at + 1)) follows behind))
          ∙ ap (λ (l : List ℕ). now ++ turned_run (suc (turns - (at + 1))) follows l) (sym (is ∙ ap (λ n. n ∷ behind) zero_is))
          ∙ here follows

      pub putting_more : (task ≡ 0 → ⊥) → Putting before (now ++ Turn task ∷ []) turns (at + 1) order behind
      putting_more ne = record {
        puts = λ follows.
            append_assoc now (Turn task ∷ []) (turned_run (turns - (at + 1)) follows behind)
            ∙ ap (λ (l : List Command). now ++ l) (sym (turn_behind (turns - (at + 1)) follows task behind ne))
            ∙ ap (λ (l : List ℕ). now ++ turned_run (suc (turns - (at + 1))) follows l) (sym is)
            ∙ here follows;
      }

-- ---- a command

run_script : (turns : ℕ) (cs : List Command) (order : List ℕ) → turned_run turns (turned_script cs) order ≡ turned_script (Run turns ∷ cs) order
unfolding turned_script
run_script turns cs order = refl

command_script : (c : Command) (cs : List Command) (order : List ℕ) → IsNoRun c → turned_script (c ∷ cs) order ≡ c ∷ turned_script cs order
unfolding turned_script
command_script (Run turns) cs order h = absurd h
command_script (Input pterm text) cs order h = refl
command_script (Tick ticks) cs order h = refl
command_script (Turn task) cs order h = refl
command_script (Drop pterm) cs order h = refl
command_script (Print pterm) cs order h = refl
command_script (PrintLast pterm) cs order h = refl
command_script Restart cs order h = refl

pub run_put : (before now : List Command) (command : Command) (turns : ℕ) (order rest : List ℕ) → command ≡ Run turns → Put before now turns order rest → (cs : List Command) → now ++ turned_script cs rest ≡ before ++ turned_script (command ∷ cs) order
run_put before now command turns order rest is put cs =
    put (turned_script cs) ∙ ap (λ (l : List Command). before ++ l) (run_script turns cs order ∙ ap (λ (x : Command). turned_script (x ∷ cs) order) (sym is))

pub command_put : (before : List Command) (command : Command) (order : List ℕ) → IsNoRun command → (cs : List Command) → (before ++ command ∷ []) ++ turned_script cs order ≡ before ++ turned_script (command ∷ cs) order
command_put before command order no_run cs = append_assoc before (command ∷ []) (turned_script cs order) ∙ ap (λ (l : List Command). before ++ l) (sym (command_script command cs order no_run))

-- ---- a script

-- some commands are put
abbrev pub Turning : (commands now : List Command) (at : ℕ) (order rest : List ℕ) → Type 0
Turning commands now at order rest = now ++ turned_script (drop at commands) rest ≡ turned_script commands order

no_more : (order : List ℕ) → turned_script [] order ≡ []
unfolding turned_script
no_more order = refl

pub turning_over : (commands now : List Command) (at : ℕ) (order rest : List ℕ) → Turning commands now at order rest → length commands ≤ at → now ≡ turned_script commands order
turning_over commands now at order rest turning over =
    sym (append-nil now)
    ∙ ap (λ (l : List Command). now ++ l) (sym (ap (λ (l : List Command). turned_script l rest) (drop_all at commands over) ∙ no_more rest))
    ∙ turning
