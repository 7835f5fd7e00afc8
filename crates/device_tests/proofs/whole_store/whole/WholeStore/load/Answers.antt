use Rattle.kdcfile_load.specs.declared.fault.LoadError.TheVariants as load
use Rattle.kd_base.specs.ToolsLaws.{error_same}
use Rattle.device_tests.proofs.whole_store.whole.WholeStore.load.Goals as goal

pub returns-in_err-loaded-clause-none : goal.returns-in_err-loaded-clause-none
returns-in_err-loaded-clause-none g c = λ is told. c.in_err-loaded.ensures.none (error_same _ _ c.from_residual.result c.in_err-loaded.field-0.0 load.NotKdcfile c.from_residual.ensures.1 is) told
