use Rattle.kdcfile_layout.proofs.kdcfile_images.Staging.{with_root}
use Rattle.kdcfile_layout.proofs.kdcfile_images.commit.writes_of.Goals as goal

pub returns : goal.returns
returns c =
    rw (c.in_ok-push.ensures.items, c.root_place.ensures, c.second.ensures, c.in_ok-root_bytes.ensures)
    (with_root c.args.image.now c.args.pages.items c.args.root.now c.in_ok-writes.writes.items c.in_ok-writes.ensures)
