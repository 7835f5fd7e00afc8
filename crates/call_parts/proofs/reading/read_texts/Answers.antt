use Rattle.std.proofs.Common.{◌∙◌, subst}
use Rattle.call_parts.specs.Words.{IsForm}
use Rattle.call_parts.specs.declared.words.Word.{Word}
use Rattle.call_parts.proofs.AskedSaid.{ok_both, told_fault, told_over}
use Rattle.call_parts.proofs.MadeReading.{room_not_refused}
use Rattle.call_parts.proofs.TextsSaid.{read_same, room_failed}
use Rattle.call_parts.proofs.reading.read_texts.Goals as goal

pub asked_of-requires-clause-none : goal.asked_of-requires-clause-none
asked_of-requires-clause-none g c = λ none. c.deref-3.ensures.value ∙ c.in_ok-texts.ensures.none none

pub asked_of-requires-clause-made : goal.asked_of-requires-clause-made
asked_of-requires-clause-made g c = λ n word.
    let made = c.in_ok-texts.ensures.made n word in
    (subst (λ (w : Word). IsForm w) word c.requires, record { definition_is = c.deref.ensures.value ∙ made.definition_is; units_are = c.deref-2.ensures.value ∙ made.units_are; script_is = c.deref-3.ensures.value ∙ made.script_is })

pub returns-in_err-texts-clause-sure : goal.returns-in_err-texts-clause-sure
returns-in_err-texts-clause-sure g c = λ sure d u s there is. c.in_err-texts.ensures.sure sure d u s there (room_failed _ _ c.from_residual.result c.in_err-texts.field-0.0 c.from_residual.ensures.1 is)

pub returns-clause-says : goal.returns-clause-says
returns-clause-says g c =
    ok_both c.asked_of.result _ _ _ (λ o of says tells. told_over c.args.word c.args.base.now (g.R.Room.room c.args.room.now) _ _ _ (read_same c.args.word c.args.base.now (g.R.Room.room c.args.room.now) _ _ _ _ _ _ c.deref.ensures.value c.deref-2.ensures.value c.deref-3.ensures.value (c.in_ok-texts.ensures.read tells)) o of says) c.asked_of.ensures.word c.asked_of.ensures.says

pub returns-clause-refused : goal.returns-clause-refused
returns-clause-refused g c = λ why is tells. told_fault c.args.word c.args.base.now (g.R.Room.room c.args.room.now) _ _ _ (read_same c.args.word c.args.base.now (g.R.Room.room c.args.room.now) _ _ _ _ _ _ c.deref.ensures.value c.deref-2.ensures.value c.deref-3.ensures.value (c.in_ok-texts.ensures.read tells)) why (c.asked_of.ensures.refused why is)

-- ---- those of `make`

pub returns-in_err-texts-clause-refused : goal.returns-in_err-texts-clause-refused
returns-in_err-texts-clause-refused g c = λ why is. absurd (room_not_refused _ c.from_residual.result c.in_err-texts.field-0.0 why c.from_residual.ensures.1 is)

pub returns-in_err-texts-clause-made : goal.returns-in_err-texts-clause-made
returns-in_err-texts-clause-made g c = λ n word why is. room_not_refused _ c.from_residual.result c.in_err-texts.field-0.0 why c.from_residual.ensures.1 is

pub returns-in_err-texts-clause-made_there : goal.returns-in_err-texts-clause-made_there
returns-in_err-texts-clause-made_there g c = λ n word is. c.in_err-texts.ensures.made_there n word (room_failed _ _ c.from_residual.result c.in_err-texts.field-0.0 c.from_residual.ensures.1 is)

-- ---- a word without a third text

pub returns-in_err-texts-clause-third_refused : goal.returns-in_err-texts-clause-third_refused
returns-in_err-texts-clause-third_refused g c = λ none why is. absurd (room_not_refused _ c.from_residual.result c.in_err-texts.field-0.0 why c.from_residual.ensures.1 is)
