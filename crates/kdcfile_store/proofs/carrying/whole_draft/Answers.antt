use Rattle.std.proofs.Common.{ap, arith, List, Bool}
use Rattle.kdcfile_layout.specs.Pools.{free_count}
use Rattle.kdcfile_store.proofs.WholeMaking.{enough_others, can_begin}
use Rattle.kdcfile_store.proofs.carrying.whole_draft.Goals as goal

pub plan-requires : goal.plan-requires
plan-requires c =
    record { enough = omega (arith, c.directory_pages.ensures.value, ap (λ (u : List Bool). free_count u) c.requires.used, enough_others c.args.limits.now.blksize c.args.limits.now.pgpool c.args.plan.now c.args.records.now c.requires.can) }

pub prepare_whole-requires-clause-room : goal.prepare_whole-requires-clause-room
prepare_whole-requires-clause-room c = (
  c.args.limits.now.pgpool,
  can_begin c.args.limits.now.blksize c.args.limits.now.pgpool c.args.plan.now c.args.records.now c.requires.can c.args.pool.now c.requires.used c.directory_pages.result c.directory_pages.ensures.value
      c.in_ok-others.others.pages c.in_ok-others.ensures.planned c.into_vec.result.items c.in_ok-table.table c.in_ok-draft.draft c.into_vec.ensures c.in_ok-table.ensures c.in_ok-draft.ensures,
)

pub returns : goal.returns
returns c = record {
  from = c.in_ok-draft.draft.layout;
  can =
      can_begin c.args.limits.now.blksize c.args.limits.now.pgpool c.args.plan.now c.args.records.now c.requires.can c.args.pool.now c.requires.used c.directory_pages.result c.directory_pages.ensures.value
      c.in_ok-others.others.pages c.in_ok-others.ensures.planned c.into_vec.result.items c.in_ok-table.table c.in_ok-draft.draft c.into_vec.ensures c.in_ok-table.ensures c.in_ok-draft.ensures;
  prepared = c.in_ok-prepare_whole.ensures;
}
