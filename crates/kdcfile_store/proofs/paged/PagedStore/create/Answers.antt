use Rattle.kdcfile_store.proofs.FreshStored.{made_stored, made_stands}
use Rattle.kdcfile_store.specs.Paged.{identity_with}
use Rattle.kdcfile_store.proofs.paged.PagedStore.create.Goals as goal

pub invariant_of-result : goal.invariant_of-result
invariant_of-result g c =
    made_stored (identity_with c.args.limits.now c.args.fingerprint.now) c.in_ok-image.image c.new.result c.in_ok-table.table c.in_ok-image.ensures.image c.new.ensures c.in_ok-table.ensures c.requires.identity c.in_ok-pool.pool c.in_ok-pool.ensures

pub returns-clause-kept : goal.returns-clause-kept
returns-clause-kept g c = λ told. record {
  bytes = made_stands (identity_with c.args.limits.now c.args.fingerprint.now) c.in_ok-image.image c.new.result c.in_ok-table.table c.in_ok-image.ensures.image c.new.ensures c.in_ok-table.ensures (g.D.Device.state c.create.new.device).holds (c.in_ok-image.ensures.stands told);
  at_rest = c.in_ok-image.ensures.at_rest told;
}
