use Rattle.std.proofs.Common.{◌≡◌, refl, sym, subst}
use Rattle.std.specs.Prelude.{IfOk, IsErrOf}
use Rattle.refusals.specs.declared.error.Refusal.{Refusal}
use Rattle.refusals.specs.declared.error.TextError.TheVariants as error
use Rattle.refusals.specs.Statuses.{status_of}
use Rattle.call_parts.specs.Asking.{HasWork, IsOfWord, MakesFit, SaysFault, SaysOver}
use Rattle.call_parts.proofs.AskedSaid.{errand_fits, faults, fits, has_work, never_room, none_refused, of_word, refused_none, says}
use Rattle.call_parts.proofs.MadeReading.{made_single, not_refused, runs_make}
use Rattle.call_parts.proofs.TextsSaid.{application_is, application_one, made_is, not_generated}
use Rattle.call_parts.proofs.reading.asked_of.Goals as goal

-- ---- the definition or the units are refused

pub returns-in_err-application-clause-refused : goal.returns-in_err-application-clause-refused
returns-in_err-application-clause-refused c = λ why is.
    let e = c.in_err-application.field-0.0 in
    let same = application_is _ c.from_residual.result e why c.from_residual.ensures.1 is in
    subst (λ (k : Refusal). SaysFault c.args.word c.args.definition.now c.args.units.now c.args.third.now k) same.1
    (record {
      one = c.in_err-application.ensures.fault same.0;
      one_only = application_one c.args.word c.args.definition.now c.args.units.now c.args.third.now e same.0 c.in_err-application.ensures.only c.in_err-application.ensures.refused;
      none = refused_none c.args.word c.args.definition.now c.args.units.now c.args.third.now (not_generated c.args.word c.args.definition.now c.args.units.now c.args.third.now e same.0 c.in_err-application.ensures.only c.in_err-application.ensures.refused);
    })

pub returns-in_err-application-clause-made : goal.returns-in_err-application-clause-made
returns-in_err-application-clause-made c = λ n word why is.
    not_refused c.made_texts_are_taken.ensures c.args.word (runs_make c.args.word n word) n (c.requires.made n word).0 c.args.definition.now c.args.units.now c.args.third.now (c.requires.made n word).1 why (returns-in_err-application-clause-refused c why is).one_only

-- ---- they make an application

pub returns-clause-word : goal.returns-clause-word
returns-clause-word c = subst (λ r. IfOk r (IsOfWord c.args.word)) (sym c.with_copies.ensures) (of_word c.args.word (record { application = c.in_ok-application.application; fingerprint = c.fingerprint_of-fingerprint.result }) c.args.definition.now c.args.units.now c.args.third.now c.fingerprint_of-fingerprint.ensures c.in_ok-application.ensures.found c.in_ok-application.ensures.only c.in_ok-application.ensures.refused (λ n is. made_single c.made_texts_are_taken.ensures c.args.word (runs_make c.args.word n is) n (c.requires.made n is).0 c.args.definition.now c.args.units.now c.args.third.now (c.requires.made n is).1 c.in_ok-application.application (made_is c.args.word c.args.definition.now c.args.units.now c.args.third.now c.in_ok-application.application c.in_ok-application.ensures.only c.in_ok-application.ensures.refused)) c.double-double.result (sym c.double-double.ensures) c.errand_of.result c.errand_of.ensures.asks)

pub returns-clause-says : goal.returns-clause-says
returns-clause-says c = subst (λ r. IfOk r (SaysOver c.args.word c.args.definition.now c.args.units.now c.args.third.now)) (sym c.with_copies.ensures) (says c.args.word (record { application = c.in_ok-application.application; fingerprint = c.fingerprint_of-fingerprint.result }) c.args.definition.now c.args.units.now c.args.third.now c.fingerprint_of-fingerprint.ensures c.in_ok-application.ensures.found c.in_ok-application.ensures.only c.in_ok-application.ensures.refused (λ n is. made_single c.made_texts_are_taken.ensures c.args.word (runs_make c.args.word n is) n (c.requires.made n is).0 c.args.definition.now c.args.units.now c.args.third.now (c.requires.made n is).1 c.in_ok-application.application (made_is c.args.word c.args.definition.now c.args.units.now c.args.third.now c.in_ok-application.application c.in_ok-application.ensures.only c.in_ok-application.ensures.refused)) c.double-double.result (sym c.double-double.ensures) c.errand_of.result c.errand_of.ensures.asks c.errand_of.ensures.refused)

pub returns-clause-fit : goal.returns-clause-fit
returns-clause-fit c =
    subst (λ r. IfOk r MakesFit) (sym c.with_copies.ensures)
    (fits c.args.word (record { application = c.in_ok-application.application; fingerprint = c.fingerprint_of-fingerprint.result }) c.args.definition.now c.args.units.now c.args.third.now c.fingerprint_of-fingerprint.ensures c.in_ok-application.ensures.found c.in_ok-application.ensures.only c.in_ok-application.ensures.refused (λ n is. made_single c.made_texts_are_taken.ensures c.args.word (runs_make c.args.word n is) n (c.requires.made n is).0 c.args.definition.now c.args.units.now c.args.third.now (c.requires.made n is).1 c.in_ok-application.application (made_is c.args.word c.args.definition.now c.args.units.now c.args.third.now c.in_ok-application.application c.in_ok-application.ensures.only c.in_ok-application.ensures.refused)) c.double-double.result (sym c.double-double.ensures) c.errand_of.result c.errand_of.ensures.asks c.errand_of.ensures.refused
    (errand_fits c.generations_are_sound.ensures.sound c.generations_are_sound.ensures.fit c.commands_are_said.ensures.commands_only c.says_what_its_lines_say.ensures.trails c.args.word (record { application = c.in_ok-application.application; fingerprint = c.fingerprint_of-fingerprint.result }) c.args.definition.now c.args.units.now c.args.third.now c.in_ok-application.ensures.found))

pub returns-clause-refused : goal.returns-clause-refused
returns-clause-refused c = λ why is. faults c.args.word (record { application = c.in_ok-application.application; fingerprint = c.fingerprint_of-fingerprint.result }) c.args.definition.now c.args.units.now c.args.third.now c.fingerprint_of-fingerprint.ensures c.in_ok-application.ensures.found c.in_ok-application.ensures.only c.in_ok-application.ensures.refused (λ n is. made_single c.made_texts_are_taken.ensures c.args.word (runs_make c.args.word n is) n (c.requires.made n is).0 c.args.definition.now c.args.units.now c.args.third.now (c.requires.made n is).1 c.in_ok-application.application (made_is c.args.word c.args.definition.now c.args.units.now c.args.third.now c.in_ok-application.application c.in_ok-application.ensures.only c.in_ok-application.ensures.refused)) c.double-double.result (sym c.double-double.ensures) c.errand_of.result c.errand_of.ensures.refused why (subst (λ r. IsErrOf r (error.Refused why)) c.with_copies.ensures is)

pub returns-clause-never : goal.returns-clause-never
returns-clause-never c = λ is. never_room c.double-double.result c.errand_of.result c.errand_of.ensures.never (subst (λ r. IsErrOf r error.Room) c.with_copies.ensures is)

pub returns-clause-made : goal.returns-clause-made
returns-clause-made c = λ n word why is.
    not_refused c.made_texts_are_taken.ensures c.args.word (runs_make c.args.word n word) n (c.requires.made n word).0 c.args.definition.now c.args.units.now c.args.third.now (c.requires.made n word).1 why (returns-clause-refused c why is).one_only

-- ---- a word without a third text

pub returns-in_err-application-clause-third_refused : goal.returns-in_err-application-clause-third_refused
returns-in_err-application-clause-third_refused c = λ none why is.
    let same = application_is _ c.from_residual.result c.in_err-application.field-0.0 why c.from_residual.ensures.1 is in
    subst (λ (k : Refusal). status_of k ≡ 2) same.1 refl

pub returns-clause-third : goal.returns-clause-third
returns-clause-third c = λ none. subst (λ r. IfOk r HasWork) (sym c.with_copies.ensures) (has_work c.double-double.result c.errand_of.result (c.errand_of.ensures.third none))

pub returns-clause-third_refused : goal.returns-clause-third_refused
returns-clause-third_refused c = λ none why is. absurd (none_refused c.double-double.result c.errand_of.result (c.errand_of.ensures.third none) why (subst (λ r. IsErrOf r (error.Refused why)) c.with_copies.ensures is))
