-- What texts ask for can run, and a trail can be audited.
use Rattle.std.proofs.Common.{◌≡◌, Bool, true, false, List, ℕ, [], sym, subst, arith}
use Rattle.std.specs.Prelude.{◌≤◌, length, All}
use Rattle.std.proofs.lemmas.List.Elements.{All-nil}
use Rattle.application_read.specs.Laws.{GenerationsAreSound, UnitsFit}
use Rattle.application_read.specs.Texts.{TextsGenerate}
use Rattle.abstract_monitor.specs.CommandsOf.{IsCommandOf}
use Rattle.abstract_monitor.specs.declared.command.Command.{Command}
use Rattle.audit_trail.specs.Laws.{ReadTrailsAreTrails}
use Rattle.application_types.specs.Generation.{Generated}
use Rattle.script_read.specs.Spelling.{CommandsOnly}
use Rattle.call_parts.specs.Asking.{Errand, ThirdAsks, CanBeAudited, CanRun, IsShort, TextsCanRun, TextsOfTwoCanRun}
use Rattle.call_parts.specs.Words.{audits}
use Rattle.call_parts.specs.declared.words.Word.{Word}
use Rattle.laws_of_runs.proofs.laws_of_applications.Made.{application_made}
use Rattle.call_parts.proofs.Scripts.{script_count, script_names, script_short}

-- ---- the third text

-- no commands have all names, are few, and take no turns
no_names : (g : Generated) (commands : List Command) → commands ≡ [] → All (IsCommandOf g) commands
no_names g commands none = subst (λ (l : List Command). All (IsCommandOf g) l) (sym none) (All-nil (IsCommandOf g))

no_few : (commands : List Command) → commands ≡ [] → length commands ≤ 1000000
no_few commands none = subst (λ (l : List Command). length l ≤ 1000000) (sym none) (omega arith)

no_short : (commands : List Command) → commands ≡ [] → All IsShort commands
no_short commands none = subst (λ (l : List Command). All IsShort l) (sym none) (All-nil IsShort)

module _ (only : CommandsOnly) (read : ReadTrailsAreTrails) (e : Errand) (text : List ℕ) where
  third_names : (audit : Bool) → ThirdAsks audit e.application e.fingerprint text e.commands e.trail → All (IsCommandOf e.application.generation) e.commands
  third_names false asks = script_names e.application.generation only text e.commands asks.0
  third_names true asks = no_names e.application.generation e.commands asks.0

  third_few : (audit : Bool) → ThirdAsks audit e.application e.fingerprint text e.commands e.trail → length e.commands ≤ 1000000
  third_few false asks = script_count e.application.generation only text e.commands asks.0
  third_few true asks = no_few e.commands asks.0

  third_short : (audit : Bool) → ThirdAsks audit e.application e.fingerprint text e.commands e.trail → All IsShort e.commands
  third_short false asks = script_short e.application.generation only text e.commands asks.0
  third_short true asks = no_short e.commands asks.0

  third_trail : (audit : Bool) → ThirdAsks audit e.application e.fingerprint text e.commands e.trail → CanBeAudited audit e.application e.trail
  third_trail false asks = asks.1
  third_trail true asks = let t = asks.1 in subst (CanBeAudited true e.application) (sym t.1) (read text t.0 t.2.says, t.2.suits)

-- the trail of a word is that of its errand
trail_of_word : (e : Errand) (word : Word) → e.word ≡ word → CanBeAudited (audits word) e.application e.trail → CanBeAudited (audits e.word) e.application e.trail
trail_of_word e word is can = subst (λ (w : Word). CanBeAudited (audits w) e.application e.trail) (sym is) can

-- an errand whose application the texts make, and for which the third text asks
pub errand_runs : GenerationsAreSound → UnitsFit → CommandsOnly → ReadTrailsAreTrails → (word : Word) (d u s : List ℕ) (e : Errand) → e.word ≡ word → TextsGenerate d u e.application → ThirdAsks (audits word) e.application e.fingerprint s e.commands e.trail → CanRun e
errand_runs sound units only read word d u s e is generates asks =
    let g = e.application.generation in
    let fit = units d u e.application generates in
    let keeps = sound d g generates.0 in
    record {
      fit = fit.0;
      named = keeps.names;
      applies = application_made g e.application.units fit.0 fit.1 keeps;
      names = third_names only read e s (audits word) asks;
      few = third_few only read e s (audits word) asks;
      short = third_short only read e s (audits word) asks;
      trail = trail_of_word e word is (third_trail only read e s (audits word) asks);
    }

pub texts_run : GenerationsAreSound → UnitsFit → CommandsOnly → ReadTrailsAreTrails → TextsCanRun
texts_run sound units only read word d u s e h = errand_runs sound units only read word d u s e h.0 h.1 h.4

pub texts_of_two_run : GenerationsAreSound → UnitsFit → CommandsOnly → ReadTrailsAreTrails → TextsOfTwoCanRun
texts_of_two_run sound units only read word d u s e h = errand_runs sound units only read word d u s e h.0 h.1 h.4
