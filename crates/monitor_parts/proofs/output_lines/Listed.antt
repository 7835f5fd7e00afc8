-- The listing, part by part.
use Rattle.std.specs.Prelude.{◌≡◌, refl, ◌++◌, flat_map, codes}
use Rattle.kdcs_types.specs.Tables.{TableRows}
use Rattle.abstract_monitor.specs.Listing.{gssb_line, block_line, service_lines, job_line, shown_line, listing}
use Rattle.monitor_parts.specs.Parts.{number_line}

pub listed : (t : TableRows) → listing t ≡ number_line (codes "CLOCK") t.clock ++ number_line (codes "NEXT") t.next_job ++ flat_map gssb_line t.gssbs ++ flat_map (block_line (codes "TLS")) t.tlss ++ flat_map (block_line (codes "ULS")) t.ulss ++ flat_map service_lines t.services ++ flat_map job_line t.jobs ++ flat_map shown_line t.shown
unfolding listing
listed t = refl
