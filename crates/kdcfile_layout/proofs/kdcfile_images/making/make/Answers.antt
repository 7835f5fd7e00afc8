use Rattle.std.proofs.Common.{◌∙◌}
use Rattle.kdcfile_layout.specs.Fresh.{made_with}
use Rattle.kdcfile_layout.proofs.kdcfile_images.Fresh.{few_pages, root_fits, fresh_opened}
use Rattle.kdcfile_layout.proofs.kdcfile_images.making.make.Goals as goal

pub root_bytes-requires : goal.root_bytes-requires
root_bytes-requires c = few_pages (made_with c.args.blksize c.args.pgpool c.args.fingerprint.now) c.requires c.in_ok-root.root c.in_ok-root.ensures

pub front_bytes-requires-clause-root : goal.front_bytes-requires-clause-root
front_bytes-requires-clause-root c = root_fits (made_with c.args.blksize c.args.pgpool c.args.fingerprint.now) c.requires c.in_ok-root.root c.in_ok-root.ensures c.as_slice.result.now (c.as_slice.ensures ∙ c.in_ok-bytes.ensures)

pub new-requires : goal.new-requires
new-requires c = fresh_opened (made_with c.args.blksize c.args.pgpool c.args.fingerprint.now) c.requires c.in_ok-root.root c.in_ok-root.ensures
