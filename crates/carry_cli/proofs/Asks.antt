-- What the texts of a BASE ask for that is carried.
use Rattle.std.specs.Prelude.{◌≡◌, ℕ, List, Ok, Err}
use Rattle.std.proofs.Common.{inl, inr, refl, subst, ◌∙◌}
use Rattle.kd_device.specs.Room.{RoomState}
use Rattle.refusals.specs.declared.error.Refusal.{Refusal}
use Rattle.refusals.specs.declared.error.Refusal.TheVariants.{Double}
use Rattle.call_parts.specs.Asking.{Errand, Reading, ReadsFor, ReadsForTwo, ToldFault, ToldOver, errand_for, one_errand, task_word, update_errand, work_of}
use Rattle.call_parts.specs.declared.errand.Work.{Work}
use Rattle.call_parts.specs.declared.errand.Task.{Task}
use Rattle.call_parts.specs.declared.errand.Task.TheVariants as task
use Rattle.call_parts.specs.declared.errand.Storing.TheVariants as storing
use Rattle.call_parts.specs.declared.errand.Looking.TheVariants as looking
use Rattle.call_parts.specs.declared.errand.OneFile.{OneFile}
use Rattle.call_parts.specs.declared.errand.OneFile.TheVariants as file
use Rattle.call_parts.specs.declared.errand.TwoFiles.TheVariants as files
use Rattle.call_parts.specs.declared.errand.Asked.TheVariants.{One, Two}
use Rattle.call_parts.specs.declared.words.Word.TheVariants.{Update}
use Rattle.carry_cli.specs.Promise.{AsksToCarry, RefusesTexts}

-- a task of `update` is just that
pub task_is : (w : Work) (t : Task) → task_word t ≡ Update → errand_for w t ≡ update_errand w
task_is w (task.Store storing.Report) is = absurd cc
task_is w (task.Store (storing.Script commands)) is = absurd cc
task_is w (task.Look looking.Listing) is = absurd cc
task_is w (task.Look (looking.Trail commands)) is = absurd cc
task_is w task.Update is = refl
task_is w (task.Audit trail) is = absurd cc

pub one_is : (o : OneFile) → (one_errand o).word ≡ Update → one_errand o ≡ update_errand (work_of o)
one_is (file.Over w t) is = task_is w t is
one_is (file.Make n w commands) is = absurd cc

-- these texts ask for that
abbrev asking : Errand → Reading
asking e = Ok e

ok_is : (e h : Errand) → asking e ≡ asking h → e ≡ h
ok_is e h same = cc

module _ (base : List ℕ) (room : RoomState) where
  -- over one file
  module _ (o : OneFile) (told : ToldOver Update base room (One o)) (is : (one_errand o).word ≡ Update) where
    pub one_asks : AsksToCarry base room (update_errand (work_of o))
    one_asks = inl (subst (λ (e : Errand). ReadsFor Update base room (Ok e)) (one_is o is) told.one)

    pub one_only : (e : Errand) → AsksToCarry base room e → e ≡ update_errand (work_of o)
    one_only e (inl reads) = ok_is e (one_errand o) (told.one_only (Ok e) reads) ∙ one_is o is
    one_only e (inr reads) = absurd (told.two_only (Ok e) reads)

  -- over two
  module _ (line : ℕ) (w : Work) (t : Task) (told : ToldOver Update base room (Two line (files.Over w t))) (is : task_word t ≡ Update) where
    pub two_asks : AsksToCarry base room (update_errand w)
    two_asks = inr (subst (λ (e : Errand). ReadsForTwo Update base room (Ok e)) (task_is w t is) (told.two (Ok (errand_for w t)) refl))

    pub two_only : (e : Errand) → AsksToCarry base room e → e ≡ update_errand w
    two_only e (inl reads) = absurd (not_two (told.one_only (Ok e) reads))
      where
        not_two : Ok e ≡ Err (Double line) → ⊥
        not_two same = absurd cc
    two_only e (inr reads) = ok_is e (errand_for w t) (told.two_only (Ok e) reads) ∙ task_is w t is

  -- refused
  module _ (why : Refusal) (told : ToldFault Update base room why) where
    pub refuses : RefusesTexts base room why
    refuses = record { one = told.one; none = told.none }

    pub refused_only : (e : Errand) → AsksToCarry base room e → ⊥
    refused_only e (inl reads) = not_ok (told.one_only (Ok e) reads)
      where
        not_ok : Ok e ≡ Err why → ⊥
        not_ok same = absurd cc
    refused_only e (inr reads) = told.none (Ok e) reads
