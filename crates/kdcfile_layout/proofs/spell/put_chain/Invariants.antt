use Rattle.std.proofs.Common.{◌≡◌, ◌++◌, ◌-◌, drop, length}
use Rattle.kdcfile_layout.specs.Layout.{chain_parts}
use Rattle.kdcfile_layout.specs.Pages.{part_writes}
use Rattle.kdcfile_layout.proofs.spell.put_chain.Given as goal

abbrev pub invariant-loop-part : goal.invariant-loop-part
invariant-loop-part l =
    l.writes.items ++ part_writes l.size l.long (chain_parts (l.size - 48) l.chain.key (length l.fn.value) l.part l.left (drop l.part l.pages)) ≡ l.fn.writes.items ++ part_writes l.size l.long (chain_parts (l.size - 48) l.chain.key (length l.fn.value) 0 l.fn.value l.chain.pages)
