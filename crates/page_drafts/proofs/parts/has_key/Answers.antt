use Rattle.std.proofs.Common.{◌≡◌, true, ap, sym, subst, true≢false, ◌∙◌, is_eq}
use Rattle.std.proofs.lemmas.Option.{same_Some}
use Rattle.std.specs.Cmp.{Equal-is}
use Rattle.kd_records.specs.declared.key.RecordKey.{RecordKey}
use Rattle.kd_records.specs.Keys.{key_cmp}
use Rattle.kd_records.specs.KeyLaws.{same_key}
use Rattle.kdcfile_layout.specs.declared.chain.Chain.{Chain}
use Rattle.page_drafts.specs.TablesLaws.{tied}
use Rattle.page_drafts.proofs.parts.has_key.Goals as goal

pub returns-in-Some-clause-found : goal.returns-in-Some-clause-found
returns-in-Some-clause-found c = λ is. (c.in-Some.chain, c.in-Some.is, same_key _ _ ((Equal-is (key_cmp c.in-Some.chain.key c.args.key.now)).0 (ap is_eq (sym c.compared.ensures) ∙ sym c.is_eq.ensures ∙ is)))

pub returns-in-Some-clause-none : goal.returns-in-Some-clause-none
returns-in-Some-clause-none c = λ is x e key.
    let same : c.in-Some.chain.key ≡ c.args.key.now = ap (λ (o : Chain). o.key) (same_Some c.in-Some.chain x (sym c.in-Some.is ∙ e)) ∙ key in
    let tie = subst (λ (k : RecordKey). is_eq (key_cmp c.in-Some.chain.key k) ≡ true) same (tied c.in-Some.chain.key) in
    true≢false (sym tie ∙ ap is_eq (sym c.compared.ensures) ∙ sym c.is_eq.ensures ∙ is)
