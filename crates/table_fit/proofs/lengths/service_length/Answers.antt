use Rattle.std.proofs.Common.{◌≡◌, ◌∙◌, ap, arith, length, List}
use Rattle.std.specs.Prelude.{flat_map, sum_by}
use Rattle.abstract_monitor.specs.Bytes.{Bytes}
use Rattle.abstract_monitor.specs.Charges.{list_length}
use Rattle.record_codec.specs.Values.{lssb_bytes}
use Rattle.table_fit.specs.LengthsLaws.{service_parts}
use Rattle.table_fit.proofs.lengths.service_length.Goals as goal

pub returns-clause-bytes : goal.returns-clause-bytes
returns-clause-bytes c =
    let s = c.args.service.now in
    let parts : c.parts_length-parts.result ≡ sum_by list_length s.handed = c.parts_length-parts.ensures ∙ ap (λ (ps : List Bytes). sum_by list_length ps) c.as_slice.ensures in
    let lssbs : c.lssbs_length-lssbs.result ≡ length (flat_map lssb_bytes s.lssbs) = c.lssbs_length-lssbs.ensures.bytes ∙ ap (λ (ls : List (Bytes × Bytes)). length (flat_map lssb_bytes ls)) c.as_slice-2.ensures in
    omega (arith, service_parts s, c.name_length.ensures.bytes, c.name_length-2.ensures.bytes, c.name_length-3.ensures.bytes, c.lterm_length.ensures.bytes, c.list_length.ensures, c.last_length.ensures, parts, lssbs)
