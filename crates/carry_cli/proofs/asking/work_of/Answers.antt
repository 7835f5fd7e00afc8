use Rattle.std.proofs.Common.{◌∙◌, inl, sym, ap, subst, Err}
use Rattle.std.specs.Prelude.{IsErrOf}
use Rattle.refusals.specs.declared.error.TextError.{TextError}
use Rattle.call_parts.specs.Asking.{IsOfWord, ToldOver, update_errand}
use Rattle.call_parts.specs.declared.errand.Asked.{Asked}
use Rattle.call_parts.specs.declared.errand.Asked.TheVariants.{Two}
use Rattle.call_parts.specs.declared.errand.TwoFiles.{TwoFiles}
use Rattle.call_parts.specs.declared.errand.Work.{Work}
use Rattle.call_parts.specs.declared.words.Word.TheVariants.{Update}
use Rattle.carry_cli.proofs.Asks.{one_only, refused_only, refuses, two_only}
use Rattle.carry_cli.proofs.asking.work_of.Goals as goal

-- the same error beside another value
again : {A B : Type 0} (x y : TextError) → IsErrOf {T = A} (Err x) y → IsErrOf {T = B} (Err x) y
again x y is = cc

pub returns-in-Ok-One-clause-only : goal.returns-in-Ok-One-clause-only
returns-in-Ok-One-clause-only g c = λ told e asked.
    let r = g.R.Room.room c.args.room.now in
    let base = c.args.base.now in
    one_only base r c.in-Ok-One.asked (subst (λ (a : Asked). ToldOver Update base r a) c.in-Ok-One.field-0-is (c.in-Ok-One.ensures.says (inl told))) (subst (λ (a : Asked). IsOfWord Update a) c.in-Ok-One.field-0-is c.in-Ok-One.ensures.word) e asked
    ∙ ap (λ (w : Work). update_errand w) (sym c.into_work.ensures)

pub returns-in-Ok-Two-default-Over-clause-only : goal.returns-in-Ok-Two-default-Over-clause-only
returns-in-Ok-Two-default-Over-clause-only g c = λ told e asked.
    let r = g.R.Room.room c.args.room.now in
    let base = c.args.base.now in
    let is = c.in-Ok-Two-default-Over.field-0-is ∙ ap (λ (k : TwoFiles). Two c.in-Ok-Two-default-Over._line k) c.in-Ok-Two-default-Over.field-0-1-is in
    two_only base r c.in-Ok-Two-default-Over._line c.in-Ok-Two-default-Over.work c.in-Ok-Two-default-Over._task (subst (λ (a : Asked). ToldOver Update base r a) is (c.in-Ok-Two-default-Over.ensures.says (inl told)))
    (subst (λ (a : Asked). IsOfWord Update a) is c.in-Ok-Two-default-Over.ensures.word) e asked

pub returns-in-Err-clause-refused : goal.returns-in-Err-clause-refused
returns-in-Err-clause-refused g c = λ why is. (c.in-Err.ensures.third_refused tt why (again _ _ is), λ told. refuses c.args.base.now (g.R.Room.room c.args.room.now) why (c.in-Err.ensures.refused why (again _ _ is) (inl told)))

pub returns-in-Err-clause-refused_only : goal.returns-in-Err-clause-refused_only
returns-in-Err-clause-refused_only g c = λ why is told e asked. refused_only c.args.base.now (g.R.Room.room c.args.room.now) why (c.in-Err.ensures.refused why (again _ _ is) (inl told)) e asked
