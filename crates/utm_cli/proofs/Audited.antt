-- What an audit finds; the trail of a run is read, and all its entries hold.
use Rattle.std.proofs.Common.{◌≡◌, List, [], ℕ, Option, Some, None, Ok, true, refl}
use Rattle.std.specs.Prelude.{IsSome}
use Rattle.kd_device.specs.Room.{RoomState}
use Rattle.device_acts.specs.Fingerprints.{fingerprint as print_of}
use Rattle.laws_of_runs.specs.Applied.{applied}
use Rattle.refusals.specs.declared.error.FileRefusal.{FileRefusal}
use Rattle.trail_run.specs.Auditing.{TrailsAreJudgedOnce}
use Rattle.trail_run.specs.OwnAudits.{OwnTrailsHold, own_trail}
use Rattle.call_parts.specs.declared.words.Word.TheVariants.{Audit}
use Rattle.call_parts.specs.Asking.{Errand, ThirdAsks}
use Rattle.call_parts.specs.Requests.{ReadsTwo, Reads}
use Rattle.utm_cli.specs.Doing.{HoldsAll, AuditRefuses, own}
use Rattle.utm_cli.specs.Promise.{AuditsOwn}
use Rattle.utm_cli.specs.AuditLaws.{holds_or_differs}

module _ (hold : OwnTrailsHold) (IsOf : Option ℕ → Type 0) (words : List (List ℕ)) (room : RoomState) (o : AuditsOwn IsOf words room) where
  -- what such a call asks for
  abbrev pub own_errand : Errand
  own_errand = record {
    word = Audit;
    application = o.application;
    fingerprint = print_of o.definition o.units;
    commands = [];
    trail = Some (own_trail (applied o.application.generation o.application.units) (print_of o.definition o.units) o.start o.script);
  }

  own_asks : ThirdAsks true o.application (print_of o.definition o.units) o.text [] own_errand.trail
  own_asks =
      let holds = hold (applied o.application.generation o.application.units) (print_of o.definition o.units) o.start o.script o.text o.own in
      (refl, (own_trail (applied o.application.generation o.application.units) (print_of o.definition o.units) o.start o.script, refl, record { says = holds.0; own_texts = refl; suits = o.own.run.suits }))

  -- over one file
  pub own_reading : o.application.generation.double ≡ None → Reads words room (Ok own_errand)
  own_reading single = record {
    word = Audit;
    base = o.base;
    asked = o.asked;
    reads = record { definition = o.definition; units = o.units; text = o.text; there = o.there; says = (refl, o.generate, single, refl, own_asks) };
  }

  -- over two copies
  pub own_reading_two : IsSome o.application.generation.double → ReadsTwo words room (Ok own_errand)
  own_reading_two double = record {
    word = Audit;
    base = o.base;
    asked = o.asked;
    reads = record { of_base = tt; definition = o.definition; units = o.units; text = o.text; there = o.there; says = (refl, o.generate, double, refl, own_asks) };
  }

  pub own_not_refused : TrailsAreJudgedOnce → (why : FileRefusal) → AuditRefuses own_errand why → ⊥
  own_not_refused once why refuses =
      let holds = hold (applied o.application.generation o.application.units) (print_of o.definition o.units) o.start o.script o.text o.own in
      let trail = own_trail (applied o.application.generation o.application.units) (print_of o.definition o.units) o.start o.script in
      let all : HoldsAll own_errand (own own_errand trail.start) = record { trail = trail; is = refl; start = refl; holds = holds.1.0 } in
      holds_or_differs once own_errand (own own_errand trail.start) why all refuses
