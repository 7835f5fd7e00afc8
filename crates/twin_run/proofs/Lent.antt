-- A twin that was lent, and is known by its equal.
use Rattle.std.proofs.Common.{◌≡◌, ℕ, List, subst}
use Rattle.std.specs.Prelude.{IsTrue, Option, Result, IfOk}
use Rattle.kd_records.specs.Identity.{Identity}
use Rattle.kd_device.specs.Twin.{Both}
use Rattle.kd_device.specs.declared.half.Half.{Half}
use Rattle.kdcs_types.specs.Tables.{TableRows}
use Rattle.kdcs_types.specs.declared.act.Act.{Act}
use Rattle.kdcfile_double.specs.Opening.{KeepsTablesTwice}
use Rattle.kdcfile_double.specs.Twice.{FineTwice, Twice}
use Rattle.twin_run.specs.Parts.{DidTwice, PartTwice}
use Rattle.twin_run.specs.Running.{FailsTwice, FrameTwice}

module _ {T : Type 0} (both : T → Both) (leaves : T → ℕ → List ℕ → List ℕ → List ℕ → Type 0) (x : T) {y : T} where
  pub frame_lent : FrameTwice (both x) (both y) → (z : T) → y ≡ z → FrameTwice (both x) (both z)
  frame_lent h z is = subst (λ (w : T). FrameTwice (both x) (both w)) is h

  pub part_lent : {i : Identity} {s : Twice} {t : TableRows} {acts : List Act} → PartTwice i s t acts (both x) (both y) (leaves x) (leaves y) → (z : T) → y ≡ z → PartTwice i s t acts (both x) (both z) (leaves x) (leaves z)
  part_lent {i} {s} {t} {acts} h z is = subst (λ (w : T). PartTwice i s t acts (both x) (both w) (leaves x) (leaves w)) is h

  module _ (s : Twice) where
    pub fails_lent : FailsTwice s (both x) (both y) → (z : T) → y ≡ z → FailsTwice s (both x) (both z)
    fails_lent h z is = subst (λ (w : T). FailsTwice s (both x) (both w)) is h

    pub fine_lent : FineTwice s (both x) (both y) → (z : T) → y ≡ z → FineTwice s (both x) (both z)
    fine_lent h z is = subst (λ (w : T). FineTwice s (both x) (both w)) is h

    module _ (i : Identity) (acts : List Act) {E : Type 0} (lost : Result (Option Half) E) where
      pub did_lent : (t : TableRows) → IfOk lost (λ half. IsTrue (both x).told → DidTwice i s t acts half (both x) (both y) (leaves y)) → (z : T) → y ≡ z → IfOk lost (λ half. IsTrue (both x).told → DidTwice i s t acts half (both x) (both z) (leaves z))
      did_lent t h z is = subst (λ (w : T). IfOk lost (λ half. IsTrue (both x).told → DidTwice i s t acts half (both x) (both w) (leaves w))) is h

      -- lines, over copies of any tables
      pub lines_lent : IfOk lost (λ half. IsTrue (both x).told → (t : TableRows) → KeepsTablesTwice i s t → DidTwice i s t acts half (both x) (both y) (leaves y))
          → (z : T) → y ≡ z → IfOk lost (λ half. IsTrue (both x).told → (t : TableRows) → KeepsTablesTwice i s t → DidTwice i s t acts half (both x) (both z) (leaves z))
      lines_lent h z is = subst (λ (w : T). IfOk lost (λ half. IsTrue (both x).told → (t : TableRows) → KeepsTablesTwice i s t → DidTwice i s t acts half (both x) (both w) (leaves w))) is h
