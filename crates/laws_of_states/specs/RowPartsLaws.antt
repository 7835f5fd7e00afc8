-- A row that suits, part by part.
use Rattle.std.specs.Prelude.{◌&&◌, IsTrue, length, sum_by, nat_le, ◌==◌}
use Rattle.std.specs.List.{list_all}
use Rattle.std.specs.FinMap.{is_sorted}
use Rattle.kd_base.specs.ToolsLaws.{both_true, true_both}
use Rattle.kdcs_types.specs.declared.service.Service.{Service}
use Rattle.application_types.specs.Generation.{Generated}
use Rattle.abstract_monitor.specs.Bytes.{Bytes, bytes_cmp}
use Rattle.abstract_monitor.specs.Endings.{is_asynchronous}
use Rattle.laws_of_states.specs.Suits.{is_user, lterm_suits, owner_suits, has_kind, fits_content, awaits_rightly, last_fits, service_suits}

-- the conditions on a service's row
pub record RowSuits (g : Generated) (s : Service) : Type 0 where
  pub user : IsTrue (is_user g s.user)
  pub lterm : IsTrue (lterm_suits g s.lterm)
  pub owner : IsTrue (owner_suits s.id s)
  pub first : IsTrue (has_kind g s.first (is_asynchronous s.id))
  pub next : IsTrue (has_kind g s.next (is_asynchronous s.id))
  pub kb : IsTrue (length s.kb == g.limits.kb)
  pub lssbs_count : IsTrue (nat_le (length s.lssbs) g.limits.lssbs)
  pub lssbs_order : IsTrue (is_sorted bytes_cmp s.lssbs)
  pub lssbs : IsTrue (list_all (λ (l : Bytes × Bytes). fits_content l.1) s.lssbs)
  pub awaits : IsTrue (awaits_rightly s s.awaits)
  pub last : IsTrue (last_fits g s.last)
  pub handed_count : IsTrue (nat_le (length s.handed) 16)
  pub handed : IsTrue (nat_le (sum_by length s.handed) g.limits.nb)

pub row_parts : (g : Generated) (s : Service) → IsTrue (service_suits g s) → RowSuits g s
row_parts g s h =
    let p13 = both_true (is_user g s.user && lterm_suits g s.lterm && owner_suits s.id s && has_kind g s.first (is_asynchronous s.id) && has_kind g s.next (is_asynchronous s.id) && length s.kb == g.limits.kb && nat_le (length s.lssbs) g.limits.lssbs && is_sorted bytes_cmp s.lssbs && list_all (λ (l : Bytes × Bytes). fits_content l.1) s.lssbs && awaits_rightly s s.awaits && last_fits g s.last && nat_le (length s.handed) 16) (nat_le (sum_by length s.handed) g.limits.nb) h in
    let p12 = both_true (is_user g s.user && lterm_suits g s.lterm && owner_suits s.id s && has_kind g s.first (is_asynchronous s.id) && has_kind g s.next (is_asynchronous s.id) && length s.kb == g.limits.kb && nat_le (length s.lssbs) g.limits.lssbs && is_sorted bytes_cmp s.lssbs && list_all (λ (l : Bytes × Bytes). fits_content l.1) s.lssbs && awaits_rightly s s.awaits && last_fits g s.last) (nat_le (length s.handed) 16) p13.0 in
    let p11 = both_true (is_user g s.user && lterm_suits g s.lterm && owner_suits s.id s && has_kind g s.first (is_asynchronous s.id) && has_kind g s.next (is_asynchronous s.id) && length s.kb == g.limits.kb && nat_le (length s.lssbs) g.limits.lssbs && is_sorted bytes_cmp s.lssbs && list_all (λ (l : Bytes × Bytes). fits_content l.1) s.lssbs && awaits_rightly s s.awaits) (last_fits g s.last) p12.0 in
    let p10 = both_true (is_user g s.user && lterm_suits g s.lterm && owner_suits s.id s && has_kind g s.first (is_asynchronous s.id) && has_kind g s.next (is_asynchronous s.id) && length s.kb == g.limits.kb && nat_le (length s.lssbs) g.limits.lssbs && is_sorted bytes_cmp s.lssbs && list_all (λ (l : Bytes × Bytes). fits_content l.1) s.lssbs) (awaits_rightly s s.awaits) p11.0 in
    let p9 = both_true (is_user g s.user && lterm_suits g s.lterm && owner_suits s.id s && has_kind g s.first (is_asynchronous s.id) && has_kind g s.next (is_asynchronous s.id) && length s.kb == g.limits.kb && nat_le (length s.lssbs) g.limits.lssbs && is_sorted bytes_cmp s.lssbs) (list_all (λ (l : Bytes × Bytes). fits_content l.1) s.lssbs) p10.0 in
    let p8 = both_true (is_user g s.user && lterm_suits g s.lterm && owner_suits s.id s && has_kind g s.first (is_asynchronous s.id) && has_kind g s.next (is_asynchronous s.id) && length s.kb == g.limits.kb && nat_le (length s.lssbs) g.limits.lssbs) (is_sorted bytes_cmp s.lssbs) p9.0 in
    let p7 = both_true (is_user g s.user && lterm_suits g s.lterm && owner_suits s.id s && has_kind g s.first (is_asynchronous s.id) && has_kind g s.next (is_asynchronous s.id) && length s.kb == g.limits.kb) (nat_le (length s.lssbs) g.limits.lssbs) p8.0 in
    let p6 = both_true (is_user g s.user && lterm_suits g s.lterm && owner_suits s.id s && has_kind g s.first (is_asynchronous s.id) && has_kind g s.next (is_asynchronous s.id)) (length s.kb == g.limits.kb) p7.0 in
    let p5 = both_true (is_user g s.user && lterm_suits g s.lterm && owner_suits s.id s && has_kind g s.first (is_asynchronous s.id)) (has_kind g s.next (is_asynchronous s.id)) p6.0 in
    let p4 = both_true (is_user g s.user && lterm_suits g s.lterm && owner_suits s.id s) (has_kind g s.first (is_asynchronous s.id)) p5.0 in
    let p3 = both_true (is_user g s.user && lterm_suits g s.lterm) (owner_suits s.id s) p4.0 in
    let p2 = both_true (is_user g s.user) (lterm_suits g s.lterm) p3.0 in
    record { user = p2.0; lterm = p2.1; owner = p3.1; first = p4.1; next = p5.1; kb = p6.1; lssbs_count = p7.1; lssbs_order = p8.1; lssbs = p9.1; awaits = p10.1; last = p11.1; handed_count = p12.1; handed = p13.1 }

pub row_suits : (g : Generated) (s : Service) → RowSuits g s → IsTrue (service_suits g s)
row_suits g s r =
    let q2 : IsTrue (is_user g s.user && lterm_suits g s.lterm) = true_both (is_user g s.user) (lterm_suits g s.lterm) r.user r.lterm in
    let q3 : IsTrue (is_user g s.user && lterm_suits g s.lterm && owner_suits s.id s) = true_both (is_user g s.user && lterm_suits g s.lterm) (owner_suits s.id s) q2 r.owner in
    let q4 : IsTrue (is_user g s.user && lterm_suits g s.lterm && owner_suits s.id s && has_kind g s.first (is_asynchronous s.id)) = true_both (is_user g s.user && lterm_suits g s.lterm && owner_suits s.id s) (has_kind g s.first (is_asynchronous s.id)) q3 r.first in
    let q5 : IsTrue (is_user g s.user && lterm_suits g s.lterm && owner_suits s.id s && has_kind g s.first (is_asynchronous s.id) && has_kind g s.next (is_asynchronous s.id)) = true_both (is_user g s.user && lterm_suits g s.lterm && owner_suits s.id s && has_kind g s.first (is_asynchronous s.id)) (has_kind g s.next (is_asynchronous s.id)) q4 r.next in
    let q6 : IsTrue (is_user g s.user && lterm_suits g s.lterm && owner_suits s.id s && has_kind g s.first (is_asynchronous s.id) && has_kind g s.next (is_asynchronous s.id) && length s.kb == g.limits.kb) = true_both (is_user g s.user && lterm_suits g s.lterm && owner_suits s.id s && has_kind g s.first (is_asynchronous s.id) && has_kind g s.next (is_asynchronous s.id)) (length s.kb == g.limits.kb) q5 r.kb in
    let q7 : IsTrue (is_user g s.user && lterm_suits g s.lterm && owner_suits s.id s && has_kind g s.first (is_asynchronous s.id) && has_kind g s.next (is_asynchronous s.id) && length s.kb == g.limits.kb && nat_le (length s.lssbs) g.limits.lssbs) = true_both (is_user g s.user && lterm_suits g s.lterm && owner_suits s.id s && has_kind g s.first (is_asynchronous s.id) && has_kind g s.next (is_asynchronous s.id) && length s.kb == g.limits.kb) (nat_le (length s.lssbs) g.limits.lssbs) q6 r.lssbs_count in
    let q8 : IsTrue (is_user g s.user && lterm_suits g s.lterm && owner_suits s.id s && has_kind g s.first (is_asynchronous s.id) && has_kind g s.next (is_asynchronous s.id) && length s.kb == g.limits.kb && nat_le (length s.lssbs) g.limits.lssbs && is_sorted bytes_cmp s.lssbs) = true_both (is_user g s.user && lterm_suits g s.lterm && owner_suits s.id s && has_kind g s.first (is_asynchronous s.id) && has_kind g s.next (is_asynchronous s.id) && length s.kb == g.limits.kb && nat_le (length s.lssbs) g.limits.lssbs) (is_sorted bytes_cmp s.lssbs) q7 r.lssbs_order in
    let q9 : IsTrue (is_user g s.user && lterm_suits g s.lterm && owner_suits s.id s && has_kind g s.first (is_asynchronous s.id) && has_kind g s.next (is_asynchronous s.id) && length s.kb == g.limits.kb && nat_le (length s.lssbs) g.limits.lssbs && is_sorted bytes_cmp s.lssbs && list_all (λ (l : Bytes × Bytes). fits_content l.1) s.lssbs) = true_both (is_user g s.user && lterm_suits g s.lterm && owner_suits s.id s && has_kind g s.first (is_asynchronous s.id) && has_kind g s.next (is_asynchronous s.id) && length s.kb == g.limits.kb && nat_le (length s.lssbs) g.limits.lssbs && is_sorted bytes_cmp s.lssbs) (list_all (λ (l : Bytes × Bytes). fits_content l.1) s.lssbs) q8 r.lssbs in
    let q10 : IsTrue (is_user g s.user && lterm_suits g s.lterm && owner_suits s.id s && has_kind g s.first (is_asynchronous s.id) && has_kind g s.next (is_asynchronous s.id) && length s.kb == g.limits.kb && nat_le (length s.lssbs) g.limits.lssbs && is_sorted bytes_cmp s.lssbs && list_all (λ (l : Bytes × Bytes). fits_content l.1) s.lssbs && awaits_rightly s s.awaits) = true_both (is_user g s.user && lterm_suits g s.lterm && owner_suits s.id s && has_kind g s.first (is_asynchronous s.id) && has_kind g s.next (is_asynchronous s.id) && length s.kb == g.limits.kb && nat_le (length s.lssbs) g.limits.lssbs && is_sorted bytes_cmp s.lssbs && list_all (λ (l : Bytes × Bytes). fits_content l.1) s.lssbs) (awaits_rightly s s.awaits) q9 r.awaits in
    let q11 : IsTrue (is_user g s.user && lterm_suits g s.lterm && owner_suits s.id s && has_kind g s.first (is_asynchronous s.id) && has_kind g s.next (is_asynchronous s.id) && length s.kb == g.limits.kb && nat_le (length s.lssbs) g.limits.lssbs && is_sorted bytes_cmp s.lssbs && list_all (λ (l : Bytes × Bytes). fits_content l.1) s.lssbs && awaits_rightly s s.awaits && last_fits g s.last) = true_both (is_user g s.user && lterm_suits g s.lterm && owner_suits s.id s && has_kind g s.first (is_asynchronous s.id) && has_kind g s.next (is_asynchronous s.id) && length s.kb == g.limits.kb && nat_le (length s.lssbs) g.limits.lssbs && is_sorted bytes_cmp s.lssbs && list_all (λ (l : Bytes × Bytes). fits_content l.1) s.lssbs && awaits_rightly s s.awaits) (last_fits g s.last) q10 r.last in
    let q12 : IsTrue (is_user g s.user && lterm_suits g s.lterm && owner_suits s.id s && has_kind g s.first (is_asynchronous s.id) && has_kind g s.next (is_asynchronous s.id) && length s.kb == g.limits.kb && nat_le (length s.lssbs) g.limits.lssbs && is_sorted bytes_cmp s.lssbs && list_all (λ (l : Bytes × Bytes). fits_content l.1) s.lssbs && awaits_rightly s s.awaits && last_fits g s.last && nat_le (length s.handed) 16) = true_both (is_user g s.user && lterm_suits g s.lterm && owner_suits s.id s && has_kind g s.first (is_asynchronous s.id) && has_kind g s.next (is_asynchronous s.id) && length s.kb == g.limits.kb && nat_le (length s.lssbs) g.limits.lssbs && is_sorted bytes_cmp s.lssbs && list_all (λ (l : Bytes × Bytes). fits_content l.1) s.lssbs && awaits_rightly s s.awaits && last_fits g s.last) (nat_le (length s.handed) 16) q11 r.handed_count in
    true_both (is_user g s.user && lterm_suits g s.lterm && owner_suits s.id s && has_kind g s.first (is_asynchronous s.id) && has_kind g s.next (is_asynchronous s.id) && length s.kb == g.limits.kb && nat_le (length s.lssbs) g.limits.lssbs && is_sorted bytes_cmp s.lssbs && list_all (λ (l : Bytes × Bytes). fits_content l.1) s.lssbs && awaits_rightly s s.awaits && last_fits g s.last && nat_le (length s.handed) 16) (nat_le (sum_by length s.handed) g.limits.nb) q12 r.handed
