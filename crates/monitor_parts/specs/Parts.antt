-- Lines of which the listing speaks only as parts of it, and those of one row.
use Rattle.std.specs.Prelude.{ℕ, List, [], ◌∷◌, ◌++◌, codes, decimal, flat_map}
use Rattle.kd_base.specs.Text.{escaped}
use Rattle.kdcs_types.specs.declared.act.Row.{Row}
use Rattle.kdcs_types.specs.declared.act.Row.TheVariants as row
use Rattle.kdcs_types.specs.declared.service.Service.{Service}
use Rattle.abstract_monitor.specs.Bytes.{Bytes}
use Rattle.abstract_monitor.specs.Lines.{line, owner_text}
use Rattle.abstract_monitor.specs.Listing.{block_line, gssb_line, job_line, last_text, service_lines, shown_line, spaced, state_text}

-- a number of the tables
abbrev pub number_line : (kind : Bytes) → ℕ → Bytes
number_line kind n = line (kind ++ spaced (decimal n ∷ []))

-- SERVICE, the owner, the first and the next TAC, WAITS or GOES, and the last dialogue message
abbrev pub service_line : Service → Bytes
service_line s = line (codes "SERVICE" ++ spaced (owner_text s.id ∷ s.first ∷ s.next ∷ state_text s.awaits ∷ last_text s.last ∷ []))

-- KB, the owner and the content
abbrev pub kb_line : Service → Bytes
kb_line s = line (codes "KB" ++ spaced (owner_text s.id ∷ escaped s.kb ∷ []))

-- the lines of a row: one, or those of a service with its KB and its LSSBs
abbrev pub row_text : Row → Bytes
row_text (row.Gssb name content) = gssb_line (name, content)
row_text (row.Tls block lterm content) = block_line (codes "TLS") (block, lterm, content)
row_text (row.Uls block user content) = block_line (codes "ULS") (block, user, content)
row_text (row.Service id service) = service_lines service
row_text (row.Job number value) = job_line (record { number = number; value = value })
row_text (row.Shown lterm value) = shown_line (lterm, value)

-- the lines of rows, one row after the other
abbrev pub rows_text : List Row → Bytes
rows_text rows = flat_map row_text rows
