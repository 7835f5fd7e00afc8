-- The made texts generate the made application: their readers compute it.
use Rattle.std.proofs.Common.{◌≡◌, ℕ, zero, suc, Bool, true, false, not, ◌&&◌, List, [], ◌∷◌, ◌++◌, take, Option, Some, None, Ok, refl, sym, ap, ◌∙◌, subst, append_assoc, arith, true≢false}
use Rattle.std.specs.Prelude.{IsTrue, codes, slice_get, is_none, IsSome, IfSome, ◌==◌}
use Rattle.std.specs.Fmt.{digits}
use Rattle.std.specs.List.{All}
use Rattle.std.proofs.lemmas.List.{append-nil}
use Rattle.std.proofs.lemmas.List.Elements.{All-from_recursion, All-head, All-tail}
use Rattle.kd_base.specs.ToolsLaws.{both_true}
use Rattle.application_types.specs.declared.kdcdef_types.statement.Said.{Said}
use Rattle.application_types.specs.declared.kdcdef_types.statement.Said.TheVariants as says
use Rattle.application_types.specs.declared.kdcdef_types.statement.Statement.{Statement}
use Rattle.application_types.specs.declared.kdcdef_types.entry.TacEntry.{TacEntry}
use Rattle.application_types.specs.Statements.{EndsOnce}
use Rattle.texts.specs.declared.kdcdef_lex.statement.RawValue.TheVariants as values
use Rattle.texts.specs.declared.kdcdef_lex.statement.RawOperand.{RawOperand}
use Rattle.texts.specs.declared.kdcdef_lex.statement.RawStatement.{RawStatement}
use Rattle.texts.specs.Reading.{read_text as read_statements}
use Rattle.texts.specs.Found.{ReadStatementsAreSpelled}
use Rattle.kdcdef_read.specs.Meaning.{Say}
use Rattle.application_check.specs.declared.kdcdef_check.fault.CheckFault.{CheckFault}
use Rattle.application_check.specs.declared.kdcdef_check.fault.CheckFault.TheVariants as faults
use Rattle.application_check.specs.Generating.{generated, max_given}
use Rattle.application_check.specs.EndsLaws.{end_is}
use Rattle.application_check.specs.Faults.{AreFaultless, shows, is_taken, shares_lterm, kind_of, kind_count, lacks_program, lacks_lterm, has_other_class, is_end, has_small_pool, lacks_user}
use Rattle.application_check.specs.Faults.{lacks_kset, has_full_pool}
use Rattle.application_types.specs.declared.unit_types.action.UnitStatement.{UnitStatement}
use Rattle.application_types.specs.UnitText.{UnitText, IsSpellable, jump_of, label_place}
use Rattle.unit_read.specs.Reading.{read_text as read_units}
use Rattle.unit_read.specs.Spelling.{SpellsUnits}
use Rattle.unit_read.specs.Found.{ReadUnitsAreSpelled}
use Rattle.unit_read.specs.WholeLaws.{spelled_whole}
use Rattle.application_types.specs.Fitted.{unit_named, IsInside, literal_follow_up, tac_in, IsFitted, AreFittedTo}
use Rattle.application_read.specs.Definition.{Generates}
use Rattle.application_read.specs.Texts.{SpellsFitted, TextsGenerate}
use Rattle.abstract_monitor.specs.Made.{made_tac, made_user, made_lterm, made_pterm, made_generation, add_unit, tally_unit}
use Rattle.call_parts.specs.MadeTexts.{definition_text, units_text}
use Rattle.call_parts.specs.MadeApplication.{fitted_units, generated_application}

-- ---- the statements of the definition

-- an operand without a key, and one with a key
abbrev plain : List ℕ → RawOperand
plain word = record { key = None; value = values.Word word }

abbrev keyed : List ℕ → List ℕ → RawOperand
keyed key word = record { key = Some key; value = values.Word word }

abbrev written : ℕ → List ℕ → List RawOperand → RawStatement
written line keyword operands = record { line = line; keyword = keyword; operands = operands }

-- as they are written
abbrev raw : List RawStatement
raw =
    written 1 (codes "MAX")
    (keyed (codes "APPLINAME") (codes "MAKE") ∷ keyed (codes "TASKS") (codes "2") ∷ keyed (codes "KB") (codes "16") ∷ keyed (codes "SPAB") (codes "64") ∷ keyed (codes "NB") (codes "80") ∷ keyed (codes "PGPOOL") (codes "64") ∷ keyed (codes "BLKSIZE") (codes "2K") ∷ [])
    ∷ written 2 (codes "PROGRAM") (plain (codes "ADD") ∷ [])
    ∷ written 3 (codes "PROGRAM") (plain (codes "TALLY") ∷ [])
    ∷ written 4 (codes "TAC") (plain (codes "ADD") ∷ keyed (codes "PROGRAM") (codes "ADD") ∷ [])
    ∷ written 5 (codes "TAC") (plain (codes "TALLY") ∷ keyed (codes "PROGRAM") (codes "TALLY") ∷ keyed (codes "TYPE") (codes "A") ∷ [])
    ∷ written 6 (codes "USER") (plain (codes "U1") ∷ [])
    ∷ written 7 (codes "LTERM") (plain (codes "L1") ∷ [])
    ∷ written 8 (codes "PTERM") (plain (codes "P1") ∷ keyed (codes "LTERM") (codes "L1") ∷ [])
    ∷ written 9 (codes "USER") (plain (codes "U2") ∷ [])
    ∷ written 10 (codes "LTERM") (plain (codes "L2") ∷ [])
    ∷ written 11 (codes "PTERM") (plain (codes "P2") ∷ keyed (codes "LTERM") (codes "L2") ∷ [])
    ∷ written 12 (codes "USER") (plain (codes "U3") ∷ [])
    ∷ written 13 (codes "LTERM") (plain (codes "L3") ∷ [])
    ∷ written 14 (codes "PTERM") (plain (codes "P3") ∷ keyed (codes "LTERM") (codes "L3") ∷ [])
    ∷ written 15 (codes "USER") (plain (codes "U4") ∷ [])
    ∷ written 16 (codes "LTERM") (plain (codes "L4") ∷ [])
    ∷ written 17 (codes "PTERM") (plain (codes "P4") ∷ keyed (codes "LTERM") (codes "L4") ∷ [])
    ∷ written 18 (codes "END") []
    ∷ []

statements_read : read_statements definition_text ≡ Ok raw
unfolding digits
statements_read = refl

abbrev stated : ℕ → Said → Statement
stated line said = record { line = line; passed = 0; said = said }

-- the TAC, the user and the terminal that are made so
abbrev tac : List ℕ × TacEntry → Said
tac e = says.Tac e.0 e.1

abbrev user : ℕ → Said
user k = says.User (made_user k).0 (made_user k).1

abbrev lterm : ℕ → Said
lterm k = says.Lterm (made_lterm k).0 (made_lterm k).1

abbrev pterm : ℕ → Said
pterm k = says.Pterm (made_pterm k).0 (made_pterm k).1

-- what they say
abbrev typed : List Statement
typed =
    stated 1 (says.Max (record {
      appliname = Some (codes "MAKE");
      tasks = Some 2;
      asyntasks = None;
      gssbs = None;
      lssbs = None;
      kb = Some 16;
      spab = Some 64;
      nb = Some 80;
      pgpool = Some 64;
      reswait = None;
      blksize = Some 2048;
      redelivery = None;
      double = None;
    }))
    ∷ stated 2 (says.Program (codes "ADD"))
    ∷ stated 3 (says.Program (codes "TALLY"))
    ∷ stated 4 (tac (made_tac (codes "ADD") false 0))
    ∷ stated 5 (tac (made_tac (codes "TALLY") true 16))
    ∷ stated 6 (user 1)
    ∷ stated 7 (lterm 1)
    ∷ stated 8 (pterm 1)
    ∷ stated 9 (user 2)
    ∷ stated 10 (lterm 2)
    ∷ stated 11 (pterm 2)
    ∷ stated 12 (user 3)
    ∷ stated 13 (lterm 3)
    ∷ stated 14 (pterm 3)
    ∷ stated 15 (user 4)
    ∷ stated 16 (lterm 4)
    ∷ stated 17 (pterm 4)
    ∷ stated 18 says.End
    ∷ []

statements_say : Say [] raw typed
unfolding digits
statements_say =
    (refl, (refl, (refl, (refl, (refl, (refl, (refl, (refl, (refl, (refl, (refl, (refl, (refl, (refl, (refl, (refl, (refl, (refl, tt))))))))))))))))))

-- ---- END is the last

abbrev ends_once : List Statement → Bool
ends_once [] = false
ends_once (s ∷ []) = is_end s.said
ends_once (s ∷ t ∷ more) = not (is_end s.said) && ends_once (t ∷ more)

no_end : (said : Said) → not (is_end said) ≡ true → said ≡ says.End → ⊥
no_end said h is = true≢false (sym (ap (λ (x : Said). not (is_end x)) (sym is) ∙ h))

ends : (ss : List Statement) → ends_once ss ≡ true → EndsOnce ss
ends [] h = true≢false (sym h)
ends (s ∷ []) h = end_is s.said h
ends (s ∷ t ∷ more) h = let a = both_true (not (is_end s.said)) (ends_once (t ∷ more)) h in (no_end s.said a.0, ends (t ∷ more) a.1)

-- ---- there is no fault

-- what the statement says shows no fault
abbrev shows_none : List Statement → List Statement → Said → Bool
shows_none all before said =
    not (is_taken (generated before) said)
    && (not (lacks_program (generated all) said)
    && (not (lacks_lterm (generated all) said)
    && (not (shares_lterm (generated before) said)
    && (not (is_end said && is_none (max_given all).appliname)
    && (not (has_other_class said)
    && (not (is_end said && has_small_pool (generated all))
    && (not (is_end said && lacks_user (generated all))
    && (not (kind_count (kind_of said) before == 20000)
    && (not (lacks_kset (generated all) said) && not (is_end said && has_full_pool (generated all)))))))))))

abbrev is_clear : List Statement → List Statement → List Statement → Bool
is_clear all before [] = true
is_clear all before (s ∷ ss) = shows_none all before s.said && is_clear all (before ++ s ∷ []) ss

neither : (b : Bool) → not b ≡ true → IsTrue b → ⊥
neither true h is = true≢false (sym h)
neither false h is = true≢false (sym is)

module _ (all before : List Statement) (said : Said) (clear : shows_none all before said ≡ true) where
  none_shown : (fault : CheckFault) → IsTrue (shows all before said fault) → ⊥
  none_shown fault is =
      let a = both_true _ _ clear in
      let b = both_true _ _ a.1 in
      let c = both_true _ _ b.1 in
      let d = both_true _ _ c.1 in
      let e = both_true _ _ d.1 in
      let f = both_true _ _ e.1 in
      let g = both_true _ _ f.1 in
      let h = both_true _ _ g.1 in
      let i = both_true _ _ h.1 in
      let j = both_true _ _ i.1 in
      by a.0 b.0 c.0 d.0 e.0 f.0 g.0 h.0 i.0 j.0 j.1 fault is
    where
      by : not (is_taken (generated before) said) ≡ true → not (lacks_program (generated all) said) ≡ true → not (lacks_lterm (generated all) said) ≡ true → not (shares_lterm (generated before) said) ≡ true
          → not (is_end said && is_none (max_given all).appliname) ≡ true → not (has_other_class said) ≡ true → not (is_end said && has_small_pool (generated all)) ≡ true → not (is_end said && lacks_user (generated all)) ≡ true
          → not (kind_count (kind_of said) before == 20000) ≡ true → not (lacks_kset (generated all) said) ≡ true → not (is_end said && has_full_pool (generated all)) ≡ true → (fault : CheckFault) → IsTrue (shows all before said fault) → ⊥
      by a b c d e f g h i j k (faults.NameTwice n) is = neither _ a is
      by a b c d e f g h i j k (faults.NoProgram n) is = neither _ b is
      by a b c d e f g h i j k (faults.NoLterm n) is = neither _ c is
      by a b c d e f g h i j k (faults.LtermTwice n) is = neither _ d is
      by a b c d e f g h i j k (faults.NoMax n) is = neither _ e is
      by a b c d e f g h i j k (faults.ClassOfWrongKind n) is = neither _ f is
      by a b c d e f g h i j k (faults.PoolTooSmall n) is = neither _ g is
      by a b c d e f g h i j k (faults.NoUser n) is = neither _ h is
      by a b c d e f g h i j k (faults.TooMany n) is = neither _ i is
      by a b c d e f g h i j k (faults.NoKset n) is = neither _ j is
      by a b c d e f g h i j k (faults.PoolForDouble n) is = neither _ k is
      by a b c d e f g h i j k faults.Memory is = true≢false (sym is)

clear_at : (all before ss : List Statement) (i : ℕ) (s : Statement) → is_clear all before ss ≡ true → slice_get ss i ≡ Some s → shows_none all (before ++ take i ss) s.said ≡ true
clear_at all before [] i s clear at = absurd cc
clear_at all before (x ∷ ss) zero s clear at =
    let is : x ≡ s = cc in
    subst (λ (y : Statement). shows_none all (before ++ []) y.said ≡ true) is
    (subst (λ (b : List Statement). shows_none all b x.said ≡ true) (sym (append-nil before)) (both_true (shows_none all before x.said) (is_clear all (before ++ x ∷ []) ss) clear).0)
clear_at all before (x ∷ ss) (suc i) s clear at =
    subst (λ (b : List Statement). shows_none all b s.said ≡ true) (append_assoc before (x ∷ []) (take i ss))
    (clear_at all (before ++ x ∷ []) ss i s (both_true (shows_none all before x.said) (is_clear all (before ++ x ∷ []) ss) clear).1 at)

faultless : (ss : List Statement) → is_clear ss [] ss ≡ true → AreFaultless ss
faultless ss clear fault (i, s, at, has) = none_shown ss (take i ss) s.said (clear_at ss [] ss i s clear at) fault has.1

typed_clear : is_clear typed [] typed ≡ true
unfolding digits
typed_clear = refl

generation_is : made_generation ≡ generated typed
unfolding digits
generation_is = refl

definition_generates : ReadStatementsAreSpelled → Generates definition_text made_generation
definition_generates spelled = (typed, (raw, spelled definition_text raw statements_read, (statements_say, ends typed refl)), faultless typed typed_clear, generation_is)

-- ---- the units

abbrev units : List UnitText
units = add_unit ∷ tally_unit ∷ []

units_read : read_units units_text ≡ Ok units
units_read = refl

-- its statements name no label, and no TAC as a follow-up
abbrev HasNoNames : UnitText → UnitStatement → Type 0
HasNoNames unit s = (jump_of s.action ≡ None) × (literal_follow_up s.action ≡ None)

module _ (unit : UnitText) (inside : All (IsInside made_generation.limits) unit.fields) (none : All (HasNoNames unit) unit.statements) (whole : IsSpellable unit) where
  fits : IsFitted made_generation.limits made_generation.tacs unit
  fits = record {
    fields = inside;
    labels = λ k d lt. no_name (λ label. IsSome (label_place unit label)) _ (none k d lt).0;
    follow_ups = λ k d lt. no_name (λ bytes. IsSome (tac_in made_generation.tacs bytes)) _ (none k d lt).1;
    whole = whole;
  }
    where
      no_name : (P : List ℕ → Type 0) (o : Option (List ℕ)) → o ≡ None → IfSome o P
      no_name P None h = tt
      no_name P (Some x) h = absurd cc

module _ (spells : SpellsUnits units_text units) where
  whole : All IsSpellable units
  whole = spelled_whole units_text units spells

  add_fits : IsFitted made_generation.limits made_generation.tacs add_unit
  add_fits =
      fits add_unit (All-from_recursion (IsInside made_generation.limits) add_unit.fields (omega arith, (omega arith, tt)))
      (All-from_recursion (HasNoNames add_unit) add_unit.statements ((refl, refl), ((refl, refl), ((refl, refl), ((refl, refl), ((refl, refl), ((refl, refl), ((refl, refl), ((refl, refl), tt)))))))))
      (All-head IsSpellable add_unit (tally_unit ∷ []) whole)

  tally_fits : IsFitted made_generation.limits made_generation.tacs tally_unit
  tally_fits =
      fits tally_unit (All-from_recursion (IsInside made_generation.limits) tally_unit.fields (omega arith, (omega arith, tt)))
      (All-from_recursion (HasNoNames tally_unit) tally_unit.statements ((refl, refl), ((refl, refl), ((refl, refl), ((refl, refl), ((refl, refl), ((refl, refl), tt)))))))
      (All-head IsSpellable tally_unit [] (All-tail IsSpellable add_unit (tally_unit ∷ []) whole))

  fitted : AreFittedTo made_generation units fitted_units
  fitted = record {
    units = refl;
    limits = refl;
    tacs = refl;
    programs = All-from_recursion (λ (p : List ℕ × ℕ). IsSome (unit_named units p.0)) made_generation.programs (refl, (refl, tt));
    fit = record {
      fitted = All-from_recursion (IsFitted made_generation.limits made_generation.tacs) units (add_fits, (tally_fits, tt));
      named = All-from_recursion (λ (t : List ℕ × TacEntry). IsSome (unit_named units t.1.program)) made_generation.tacs (refl, (refl, tt));
    };
  }

units_fit : ReadUnitsAreSpelled → SpellsFitted made_generation units_text fitted_units
units_fit spelled = let spells = spelled units_text units units_read in (units, spells, fitted spells)

pub texts_generate : ReadStatementsAreSpelled → ReadUnitsAreSpelled → TextsGenerate definition_text units_text generated_application
texts_generate statements units_spelled = (definition_generates statements, units_fit units_spelled)
