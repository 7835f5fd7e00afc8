-- A place is put together of what was read.
use Rattle.std.proofs.Common.{◌≡◌, ◌∙◌, inr, ℕ, Bool, List, Option, Some, None, Ok, Err, refl, sym, subst, arith}
use Rattle.std.specs.Prelude.{All, IsTrue}
use Rattle.kd_device.specs.Room.{RoomState, SameRoom}
use Rattle.application_types.specs.Fitted.{IsFit}
use Rattle.application_types.specs.Generation.{Generated}
use Rattle.laws_of_states.specs.Suits.{Suits}
use Rattle.abstract_monitor.specs.CommandsOf.{IsCommandOf}
use Rattle.application_read.specs.declared.application.Application.{Application as Made}
use Rattle.application_read.specs.declared.fault.ApplicationFault.{ApplicationFault}
use Rattle.application_read.specs.declared.fault.ApplicationFault.TheVariants as application
use Rattle.application_read.specs.Texts.{TextsGenerate, TextsHaveFault}
use Rattle.abstract_monitor.specs.declared.command.Command.{Command}
use Rattle.script_read.specs.Commands.{script_in}
use Rattle.script_read.specs.declared.fault.ScriptFault.{ScriptFault}
use Rattle.script_read.specs.declared.fault.ScriptFault.TheVariants as fault
use Rattle.device_acts.specs.Fingerprints.{fingerprint as print_of}
use Rattle.lab_turns.specs.Sources.{source_of}
use Rattle.refusals.specs.Causes.{of_application, of_fault}
use Rattle.refusals.specs.Texts.{NoReadFailed}
use Rattle.refusals.specs.declared.error.Refusal.{Refusal}
use Rattle.refusals.specs.declared.error.Refusal.TheVariants.{Application, Double, Script, Trail}
use Rattle.refusals.specs.declared.error.TextError.{TextError}
use Rattle.refusals.specs.declared.error.TextError.TheVariants as error
use Rattle.lab_cli.specs.Causes.{of_text}
use Rattle.lab_cli.specs.Places.{AreRead, CanStart, IsAskedBy, IsPlaceOf, MissesFile, StartsOver}
use Rattle.lab_cli.specs.Stops.{IsAccepted, IsCauseAt, IsCauseOfOne, IsCauseOfTexts, IsCauseOfTwo, IsCauseOver, IsTextFault, MissesAt, ScriptRefuses, StopsAt, StopsFor, StopsOver, TextsRefuse}
use Rattle.lab_cli.specs.declared.reading.Place.{Place}
use Rattle.lab_cli.specs.declared.stop.Stop.{Stop}
use Rattle.lab_cli.specs.declared.stop.Stop.TheVariants as stop
use Rattle.lab_cli.proofs.Rooms.{cause_stops, stops_later}

-- what stays the same over one read stays so over two
pub same_twice : (old mid new : RoomState) → SameRoom old mid → SameRoom mid new → SameRoom old new
same_twice old mid new h k = record { told = k.told ∙ h.told; texts = k.texts ∙ h.texts; sure = k.sure ∙ h.sure; faults = omega (arith, h.faults, k.faults) }

-- ---- faults

pub application_refused : (d u : List ℕ) (e : ApplicationFault) → ((e ≡ application.Memory → ⊥) → TextsHaveFault d u e) → IsTextFault (λ why. (s : List ℕ) → TextsRefuse d u s why) (of_application e)
application_refused d u (application.Definition f) h = λ s. h (λ is. absurd cc)
application_refused d u (application.Units f) h = λ s. h (λ is. absurd cc)
application_refused d u (application.Fit f) h = λ s. h (λ is. absurd cc)
application_refused d u application.Memory h = tt

pub script_refused : (g : Generated) (s : List ℕ) (e : ScriptFault) → ((e ≡ fault.Memory → ⊥) → script_in g s ≡ Err e) → IsTextFault (ScriptRefuses g s) (of_fault e)
script_refused g s (fault.BadLine line) h = h (λ is. absurd cc)
script_refused g s (fault.OutOfRange line) h = h (λ is. absurd cc)
script_refused g s fault.TooLong h = h (λ is. absurd cc)
script_refused g s fault.Memory h = tt

pub texts_refused : (d u s : List ℕ) (P : Refusal → Type 0) → ((why : Refusal) → P why → TextsRefuse d u s why) → (e : TextError) → IsTextFault P e → StopsFor (IsCauseOfTexts d u s) (of_text e)
texts_refused d u s P causes (error.Refused why) h = causes why h
texts_refused d u s P causes error.Room h = absurd h
texts_refused d u s P causes error.Memory h = tt

pub script_cause : (d u s : List ℕ) (a : Made) → TextsGenerate d u a → (why : Refusal) → ScriptRefuses a.generation s why → TextsRefuse d u s why
script_cause d u s a generates (Application f) h = absurd h
script_cause d u s a generates (Double line) h = absurd h
script_cause d u s a generates (Script f) h = (a, generates, h)
script_cause d u s a generates (Trail f) h = absurd h

-- ---- the texts, as they were lent to their readers

module _ (d d' u u' s s' : List ℕ) (d_is : d' ≡ d) (u_is : u' ≡ u) (s_is : s' ≡ s) where
  pub lent_refused : (e : TextError) → IsTextFault (λ why. (x : List ℕ) → TextsRefuse d' u' x why) e → StopsFor (IsCauseOfTexts d u s) (of_text e)
  lent_refused e h = texts_refused d u s (λ why. (x : List ℕ) → TextsRefuse d' u' x why) (λ why k. subst (λ (l : List ℕ). TextsRefuse l u s why) d_is (subst (λ (l : List ℕ). TextsRefuse d' l s why) u_is (k s))) e h

  pub lent_generates : (a : Made) → TextsGenerate d' u' a → TextsGenerate d u a
  lent_generates a h = subst (λ (l : List ℕ). TextsGenerate l u a) d_is (subst (λ (l : List ℕ). TextsGenerate d' l a) u_is h)

  pub lent_script : (a : Made) → TextsGenerate d' u' a → (e : TextError) → IsTextFault (ScriptRefuses a.generation s') e → StopsFor (IsCauseOfTexts d u s) (of_text e)
  lent_script a generates e h = texts_refused d u s (ScriptRefuses a.generation s') (λ why k. script_cause d u s a (lent_generates a generates) why (subst (λ (l : List ℕ). ScriptRefuses a.generation l why) s_is k)) e h

  pub lent_asks : (a : Made) (f : List ℕ) (source : List (List ℕ)) (commands : List Command) → TextsGenerate d' u' a → f ≡ print_of d u → source ≡ source_of u → script_in a.generation s' ≡ Ok commands → IsAskedBy d u s a f source s commands
  lent_asks a f source commands generates print source_is says = record { generates = lent_generates a generates; fingerprint_is = print; source_is = source_is; script_is = refl; says = subst (λ (l : List ℕ). script_in a.generation l ≡ Ok commands) s_is says }

-- ---- stops

-- no file is refused so
no_cause : (g : Generated) (f base : List ℕ) (texts : List (List ℕ × List ℕ)) (double : Option ℕ) (why : Stop) → ((x : List ℕ) → IsCauseOfOne g f x why → ⊥) → ((x y : List ℕ) → IsCauseOfTwo g f x y why → ⊥) → IsCauseOver double g f base texts why → ⊥
no_cause g f base texts None why one two h = one h.0 h.2
no_cause g f base texts (Some line) why one two h = two h.0 h.1 h.4

module _ (w : Bool) (base : List ℕ) (old mid : RoomState) (fine : NoReadFailed old mid) where
  module _ (d u s : List ℕ) (read : IsTrue old.told → AreRead w base old.texts d u s) where
    texts_cause : (why : Stop) → IsTrue old.told → IsCauseOfTexts d u s why → IsCauseAt w base old.texts why
    texts_cause (stop.Texts why) told h = (d, u, s, read told, h)
    texts_cause stop.NotKdcfile told h = absurd h
    texts_cause (stop.OtherGeneration stored) told h = absurd h
    texts_cause stop.Spent told h = absurd h
    texts_cause stop.Room told h = absurd h
    texts_cause stop.Output told h = absurd h
    texts_cause stop.Memory told h = absurd h

    pub texts_stop : (why : Stop) → StopsFor (IsCauseOfTexts d u s) why → StopsAt w base old mid why
    texts_stop why h = cause_stops (IsCauseAt w base old.texts) (MissesAt w base old.texts) old mid (IsCauseOfTexts d u s) fine texts_cause why h

  module _ (new : RoomState) (same : SameRoom old mid) (a : Made) (f : List ℕ) (accepted : IsTrue old.told → IsAccepted w base old.texts a f) where
    over : (why : Stop) → IsCauseOver a.generation.double a.generation f base mid.texts why → IsCauseOver a.generation.double a.generation f base old.texts why
    over why h = subst (λ (l : List (List ℕ × List ℕ)). IsCauseOver a.generation.double a.generation f base l why) same.texts h

    files_cause : (why : Stop) → IsTrue old.told → IsCauseOver a.generation.double a.generation f base mid.texts why → IsCauseAt w base old.texts why
    files_cause (stop.Texts why) told h = absurd (no_cause a.generation f base mid.texts a.generation.double (stop.Texts why) (λ x c. c) (λ x y c. c) h)
    files_cause stop.NotKdcfile told h = (a, f, accepted told, over stop.NotKdcfile h)
    files_cause (stop.OtherGeneration stored) told h = (a, f, accepted told, over (stop.OtherGeneration stored) h)
    files_cause stop.Spent told h = (a, f, accepted told, over stop.Spent h)
    files_cause stop.Room told h = absurd (no_cause a.generation f base mid.texts a.generation.double stop.Room (λ x c. c) (λ x y c. c) h)
    files_cause stop.Output told h = absurd (no_cause a.generation f base mid.texts a.generation.double stop.Output (λ x c. c) (λ x y c. c) h)
    files_cause stop.Memory told h = absurd (no_cause a.generation f base mid.texts a.generation.double stop.Memory (λ x c. c) (λ x y c. c) h)

    pub files_stop : (why : Stop) → StopsOver a.generation.double a.generation f base mid new why → StopsAt w base old new why
    files_stop why h =
        stops_later old mid new fine same (IsCauseOver a.generation.double a.generation f base mid.texts) (IsCauseAt w base old.texts) (MissesFile a.generation.double base mid.texts) (MissesAt w base old.texts) files_cause
        (λ told misses. inr (a, f, accepted told, subst (λ (l : List (List ℕ × List ℕ)). MissesFile a.generation.double base l) same.texts misses)) why h

-- ---- the place

pub can_start : (d u s : List ℕ) (p : Place) (f : List ℕ) → IsAskedBy d u s p.application f p.units p.script.items p.commands.items → IsFit p.application.generation p.application.units → All (IsCommandOf p.application.generation) p.commands.items → Suits p.application.generation p.tables → CanStart p
can_start d u s p f asked fit names suits = record { fit = fit; suits = suits; names = names; says = subst (λ (l : List ℕ). script_in p.application.generation l ≡ Ok p.commands.items) (sym asked.script_is) asked.says }

module _ (w : Bool) (base : List ℕ) (texts : List (List ℕ × List ℕ)) (d u s : List ℕ) (read : AreRead w base texts d u s) where
  pub accepted : (a : Made) (f : List ℕ) (source : List (List ℕ)) (own : List ℕ) (commands : List Command) → IsAskedBy d u s a f source own commands → IsAccepted w base texts a f
  accepted a f source own commands asked = record { definition = d; units = u; script = s; commands = commands; read = read; generates = asked.generates; says = asked.says; print = asked.fingerprint_is }

  pub place_is : (mid : List (List ℕ × List ℕ)) → mid ≡ texts → (p : Place) (f : List ℕ) → IsAskedBy d u s p.application f p.units p.script.items p.commands.items → StartsOver p.application.generation.double p.application.generation f base mid p.tables → IsPlaceOf w base texts p
  place_is mid same p f asked starts = record {
    definition = d;
    units = u;
    read = subst (λ (l : List ℕ). AreRead w base texts d u l) (sym asked.script_is) read;
    generates = asked.generates;
    source_is = asked.source_is;
    says = subst (λ (l : List ℕ). script_in p.application.generation l ≡ Ok p.commands.items) (sym asked.script_is) asked.says;
    starts = subst (λ (l : List (List ℕ × List ℕ)). StartsOver p.application.generation.double p.application.generation (print_of d u) base l p.tables) same (subst (λ (l : List ℕ). StartsOver p.application.generation.double p.application.generation l base mid p.tables) asked.fingerprint_is starts);
  }
