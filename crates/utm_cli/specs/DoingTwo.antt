-- What a call over two disks does, once its texts are read: which files it starts from, which it refuses, and its acts.
use Rattle.std.specs.Prelude.{◌≡◌, ⊤, List}
use Rattle.kd_device.specs.Twin.{Both}
use Rattle.kdcs_types.specs.declared.act.Act.{Act}
use Rattle.kdcs_types.specs.Tables.{TableRows}
use Rattle.refusals.specs.declared.error.FileRefusal.{FileRefusal}
use Rattle.refusals.specs.declared.error.FileRefusal.TheVariants.{TwoCopies}
use Rattle.call_parts.specs.Asking.{Errand}
use Rattle.utm_cli.specs.Doing.{AuditRefuses, HoldsAll, acts_of, own}
use Rattle.call_parts.specs.declared.words.Word.{Word}
use Rattle.call_parts.specs.declared.words.Word.TheVariants.{Gen, Run, Show, Update, Trail, Audit, Make}
use Rattle.call_parts.specs.Opening.{OpensTwo, OpeningRefusesTwo}

-- where the errand starts: over the files from the tables that they are opened with, and `audit` from those of a trail that holds; `update` carries no two copies
abbrev pub StartsTwoBy : Word → Errand → Both → TableRows → Type 0
StartsTwoBy Gen e a t = OpensTwo e a t
StartsTwoBy Run e a t = OpensTwo e a t
StartsTwoBy Show e a t = OpensTwo e a t
StartsTwoBy Update e a t = ⊥
StartsTwoBy Trail e a t = OpensTwo e a t
StartsTwoBy Audit e a t = HoldsAll e (own e t)
StartsTwoBy (Make n) e a t = ⊥

abbrev pub StartsTwo : Errand → Both → TableRows → Type 0
StartsTwo e a t = StartsTwoBy e.word e a t

-- why an errand refuses two files: `update` always does, and `audit` as over one file
abbrev pub RefusesTwoBy : Word → Errand → Both → FileRefusal → Type 0
RefusesTwoBy Gen e a why = OpeningRefusesTwo e a why
RefusesTwoBy Run e a why = OpeningRefusesTwo e a why
RefusesTwoBy Show e a why = OpeningRefusesTwo e a why
RefusesTwoBy Update e a why = why ≡ TwoCopies
RefusesTwoBy Trail e a why = OpeningRefusesTwo e a why
RefusesTwoBy Audit e a why = AuditRefuses e why
RefusesTwoBy (Make n) e a why = ⊥

abbrev pub RefusesTwo : Errand → Both → FileRefusal → Type 0
RefusesTwo e a why = RefusesTwoBy e.word e a why

-- the acts of an errand from these tables, without the lines of the copies
abbrev pub acts_two : Errand → TableRows → List Act
acts_two e t = acts_of e (own e t)

-- the word makes both files where they are empty, mends one where it is behind, and says what became of the copies
abbrev pub KeepsTwo : Word → Type 0
KeepsTwo Gen = ⊤
KeepsTwo Run = ⊤
KeepsTwo Show = ⊥
KeepsTwo Update = ⊥
KeepsTwo Trail = ⊥
KeepsTwo Audit = ⊥
KeepsTwo (Make n) = ⊥
