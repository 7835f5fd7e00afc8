-- What reading answers, against what the text spells.
use Rattle.std.proofs.Common.{ℕ, List, Result, Ok, Err, refl, subst}
use Rattle.std.specs.Prelude.{◌≢◌, All, IfOk, IfErr}
use Rattle.std.specs.Global.{Vec}
use Rattle.kd_base.specs.FirstFaults.{items_of}
use Rattle.application_types.specs.UnitText.{UnitText, IsSpellable}
use Rattle.unit_read.specs.declared.fault.UnitFault.{UnitFault}
use Rattle.unit_read.specs.declared.fault.UnitFault.TheVariants.{Memory}
use Rattle.unit_read.specs.Answers.{Gives}
use Rattle.unit_read.specs.Reading.{read_text}
use Rattle.unit_read.specs.Spelling.{SpellsUnits}
use Rattle.unit_read.specs.WholeLaws.{spelled_whole}
use Rattle.unit_read.specs.Faults.{HasTextFault}
use Rattle.unit_read.proofs.FaultsAt.{text_is, text_again, fault_stands, fault_answered}

module _ (text : List ℕ) (r : Result (Vec UnitText) UnitFault) (h : Gives (items_of r) (read_text text)) where
  pub only_that : (us : List UnitText) → SpellsUnits text us → Gives (items_of r) (Ok us)
  only_that us spells = subst (Gives (items_of r)) (text_again text us spells) h

  pub refused_for : (e : UnitFault) → HasTextFault text e → Gives (items_of r) (Err e)
  refused_for e stands = subst (Gives (items_of r)) (fault_answered text e stands) h

pub found_stands : (text : List ℕ) (r : Result (Vec UnitText) UnitFault) → Gives (items_of r) (read_text text) → IfOk r (λ v. SpellsUnits text v.items)
found_stands text (Ok v) h = text_is text v.items h
found_stands text (Err e) h = tt

pub read_whole : (text : List ℕ) (r : Result (Vec UnitText) UnitFault) → IfOk r (λ v. SpellsUnits text v.items) → IfOk r (λ v. All IsSpellable v.items)
read_whole text (Ok v) h = spelled_whole text v.items h
read_whole text (Err e) h = tt

pub fault_found : (text : List ℕ) (r : Result (Vec UnitText) UnitFault) → Gives (items_of r) (read_text text) → IfErr r (λ e. e ≢ Memory → HasTextFault text e)
fault_found text (Ok v) h = tt
fault_found text (Err Memory) h = λ some. absurd (some refl)
fault_found text (Err e) h = λ _. fault_stands text e h
