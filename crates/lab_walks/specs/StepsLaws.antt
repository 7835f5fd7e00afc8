-- Some steps, and more.
use Rattle.std.proofs.Common.{◌≡◌, List, [], ◌∷◌, ◌++◌, refl, sym, ap, ◌∙◌, append_assoc}
use Rattle.kdcs_types.specs.declared.act.Act.{Act}
use Rattle.kdcs_types.specs.declared.act.Act.TheVariants.{Commit, Emit}
use Rattle.abstract_monitor.specs.Bytes.{Bytes}
use Rattle.abstract_monitor.specs.Commands.{ScriptStep, acts_of, state_after}
use Rattle.abstract_monitor.specs.State.{State}
use Rattle.abstract_monitor.specs.Trace.{bytes_of}
use Rattle.lab_walks.specs.Ahead.{sent_over}

pub bytes_both : (xs ys : List Act) → bytes_of (xs ++ ys) ≡ bytes_of xs ++ bytes_of ys
unfolding bytes_of
bytes_both [] ys = refl
bytes_both (Commit c ∷ xs) ys = bytes_both xs ys
bytes_both (Emit line ∷ xs) ys = ap (λ (b : Bytes). line ++ b) (bytes_both xs ys) ∙ sym (append_assoc line (bytes_of xs) (bytes_of ys))

pub acts_both : (xs ys : List ScriptStep) → acts_of (xs ++ ys) ≡ acts_of xs ++ acts_of ys
acts_both [] ys = refl
acts_both (d ∷ xs) ys = ap (λ (l : List Act). d.acts ++ l) (acts_both xs ys) ∙ sym (append_assoc d.acts (acts_of xs) (acts_of ys))

pub sent_both : (xs ys : List ScriptStep) → sent_over (xs ++ ys) ≡ sent_over xs ++ sent_over ys
sent_both xs ys = ap bytes_of (acts_both xs ys) ∙ bytes_both (acts_of xs) (acts_of ys)

pub after_both : (s : State) (xs ys : List ScriptStep) → state_after s (xs ++ ys) ≡ state_after (state_after s xs) ys
unfolding state_after
after_both s [] ys = refl
after_both s (d ∷ xs) ys = after_both d.after xs ys
