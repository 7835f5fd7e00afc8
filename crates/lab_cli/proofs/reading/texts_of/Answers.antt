use Rattle.std.proofs.Common.{◌++◌, ◌∙◌, inl, inr, Err, Global, List, Vec, ℕ, sym, subst}
use Rattle.std.specs.Prelude.{IsTrue, codes}
use Rattle.lab_cli.specs.Places.{IsMissing, IsRead, IsScriptRead, MissesScript, MissesText}
use Rattle.lab_cli.specs.Stops.{FailsSo}
use Rattle.lab_cli.proofs.Rooms.{fails_later, fails_weaker, fine_later, handed, read_fails}
use Rattle.lab_cli.proofs.Placing.{same_twice}
use Rattle.lab_cli.proofs.reading.texts_of.Goals as goal

pub returns-in_err-definition-clause-fails : goal.returns-in_err-definition-clause-fails
returns-in_err-definition-clause-fails g c =
    let r = g.R.Room.room c.args.room.now in
    let k = g.R.Room.room c.text.new.room in
    let e = c.in_err-definition.field-0.0 in
    handed (FailsSo (MissesText c.args.with_script c.args.base.now r.texts) r k) c.from_residual.result e c.from_residual.ensures.1
    (fails_weaker (IsMissing r.texts (c.args.base.now ++ codes ".def")) (MissesText c.args.with_script c.args.base.now r.texts) r k inl e
    (read_fails {A = Vec ℕ Global} (c.args.base.now ++ codes ".def") r k (Err e) c.in_err-definition.ensures.room c.in_err-definition.ensures.sure c.in_err-definition.ensures.memory))

pub returns-in_err-units-clause-fails : goal.returns-in_err-units-clause-fails
returns-in_err-units-clause-fails g c =
    let r = g.R.Room.room c.args.room.now in
    let k = g.R.Room.room c.text.new.room in
    let l = g.R.Room.room c.text-2.new.room in
    let e = c.in_err-units.field-0.0 in
    handed (FailsSo (MissesText c.args.with_script c.args.base.now r.texts) r l) c.from_residual-in_err-units.result e c.from_residual-in_err-units.ensures.1
    (fails_later r k l c.in_ok-definition.ensures.fine c.text.ensures.same (IsMissing k.texts (c.args.base.now ++ codes ".units")) (MissesText c.args.with_script c.args.base.now r.texts)
    (λ m. inr (inl (subst (λ (t : List (List ℕ × List ℕ)). IsMissing t (c.args.base.now ++ codes ".units")) c.text.ensures.same.texts m))) e
    (read_fails {A = Vec ℕ Global} (c.args.base.now ++ codes ".units") k l (Err e) c.in_err-units.ensures.room c.in_err-units.ensures.sure c.in_err-units.ensures.memory))

pub returns-in_err-script-clause-fails : goal.returns-in_err-script-clause-fails
returns-in_err-script-clause-fails g c =
    let r = g.R.Room.room c.args.room.now in
    let k = g.R.Room.room c.text.new.room in
    let l = g.R.Room.room c.text-2.new.room in
    let n = g.R.Room.room c.script_of.new.room in
    let e = c.in_err-script.field-0.0 in
    handed (FailsSo (MissesText c.args.with_script c.args.base.now r.texts) r n) c.from_residual-in_err-script.result e c.from_residual-in_err-script.ensures.1
    (fails_later r l n (fine_later r k l c.in_ok-definition.ensures.fine c.text.ensures.same c.in_ok-units.ensures.fine) (same_twice r k l c.text.ensures.same c.text-2.ensures.same) (MissesScript c.args.with_script c.args.base.now l.texts) (MissesText c.args.with_script c.args.base.now r.texts)
    (λ m. inr (inr (subst (λ (t : List (List ℕ × List ℕ)). MissesScript c.args.with_script c.args.base.now t) (c.text-2.ensures.same.texts ∙ c.text.ensures.same.texts) m))) e c.in_err-script.ensures.fails)

pub returns-clause-read : goal.returns-clause-read
returns-clause-read g c = λ told.
    let r = g.R.Room.room c.args.room.now in
    let k = g.R.Room.room c.text.new.room in
    let l = g.R.Room.room c.text-2.new.room in
    let told_k : IsTrue k.told = subst IsTrue (sym c.text.ensures.same.told) told in
    let told_l : IsTrue l.told = subst IsTrue (sym c.text-2.ensures.same.told) told_k in
    record {
      definition_is = c.in_ok-definition.ensures.value told;
      units_are = subst (λ (t : List (List ℕ × List ℕ)). IsRead t (c.args.base.now ++ codes ".units") c.in_ok-units.units.items) c.text.ensures.same.texts (c.in_ok-units.ensures.value told_k);
      script_is = subst (λ (t : List (List ℕ × List ℕ)). IsScriptRead c.args.with_script c.args.base.now t c.in_ok-script.script.items) (c.text-2.ensures.same.texts ∙ c.text.ensures.same.texts) (c.in_ok-script.ensures.read told_l);
    }
