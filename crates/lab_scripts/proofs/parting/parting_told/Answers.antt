use Rattle.std.proofs.Common.{◌∙◌}
use Rattle.laws_of_runs.specs.Applied.{applied}
use Rattle.lab_scripts.specs.Parting.{parting_text}
use Rattle.lab_scripts.proofs.Next.{next_again}
use Rattle.lab_scripts.proofs.parting.parting_told.Goals as goal

pub returns-clause-told : goal.returns-clause-told
returns-clause-told c = record {
  at = c.parting_of-at.result;
  text = c.in_ok-setting.text;
  its = c.in_ok-setting-2.its;
  parts = c.parting_of-at.ensures;
  tells = c.in_ok-setting.ensures.told;
  tells_its = next_again (applied c.args.setting.generation c.args.setting.units) (applied c.in_ok-setting.setting.generation c.in_ok-setting.setting.units) c.args.tables.now c.args.setting.source c.in_ok-setting.setting.source c.parting_of-at.result c.args.other.now c.in_ok-setting-2.its c.in_ok-setting.ensures.again.application c.in_ok-setting.ensures.again.source c.in_ok-setting-2.ensures.told;
  all = c.in_ok-told.ensures ∙ (λ i. parting_text c.args.from c.parting_of-at.result (c.as_slice.ensures i) (c.as_slice-2.ensures i));
}
