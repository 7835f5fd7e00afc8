use Rattle.std.proofs.Common.{map}
use Rattle.kdcs_types.specs.Tables.{gssb_row, job_row, service_row, shown_row, tls_row, uls_row}
use Rattle.kdcfile_carry.specs.Losing.{is_gone}
use Rattle.kdcfile_carry.proofs.Gone.{all_gone, list_more}
use Rattle.kdcfile_carry.proofs.losing.rows_gone.Goals as goal

pub returns : goal.returns
returns c =
    let goes = is_gone c.args.new.now in
    let t = c.args.old.now in
    all_gone goes (map gssb_row t.gssbs) (map tls_row t.tlss) (map uls_row t.ulss) (map service_row t.services) (map job_row t.jobs) (map shown_row t.shown) _ _ _ _ _ _ _ c.new-gone.ensures.items
    (list_more gssb_row goes _ _ c.gssbs.result.now t.gssbs c.in_ok-add_gone.ensures c.gssbs.ensures)
    (list_more tls_row goes _ _ c.tlss.result.now t.tlss c.in_ok-add_gone-2.ensures c.tlss.ensures)
    (list_more uls_row goes _ _ c.ulss.result.now t.ulss c.in_ok-add_gone-3.ensures c.ulss.ensures)
    (list_more service_row goes _ _ c.services.result.now t.services c.in_ok-add_gone-4.ensures c.services.ensures)
    (list_more job_row goes _ _ c.jobs.result.now t.jobs c.in_ok-add_gone-5.ensures c.jobs.ensures)
    (list_more shown_row goes _ _ c.shown.result.now t.shown c.in_ok-add_gone-6.ensures c.shown.ensures)
