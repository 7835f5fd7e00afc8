-- The value of a service whose parts are bounded is short.
use Rattle.std.specs.Prelude.{◌≡◌, refl, ◌+◌, ◌*◌, ◌^◌, ◌<◌, ◌≤◌, IsTrue, List, [], ◌∷◌, length, sum_by}
use Rattle.std.proofs.Common.{arith}
use Rattle.std.proofs.lemmas.Bool.{leb-true}
use Rattle.std.proofs.lemmas.List.Sums.{sum_by-cons}
use Rattle.std.specs.List.{list_all}
use Rattle.kd_base.specs.ToolsLaws.{both_true}
use Rattle.kdcs_types.specs.declared.service.Service.{Service}
use Rattle.abstract_monitor.specs.Bytes.{Bytes}
use Rattle.abstract_monitor.specs.Charges.{last_length, list_length, service_length}
use Rattle.laws_of_states.specs.Suits.{fits_content}

parts_sum : (ps : List Bytes) → sum_by list_length ps ≡ 4 * length ps + sum_by length ps
parts_sum [] = refl
parts_sum (p ∷ ps) = omega (arith, parts_sum ps, sum_by-cons list_length p ps, sum_by-cons (λ (q : Bytes). length q) p ps)

lssbs_sum : (ls : List (Bytes × Bytes)) → IsTrue (list_all (λ (l : Bytes × Bytes). fits_content l.1) ls) → sum_by (λ (l : Bytes × Bytes). 8 + list_length l.1) ls ≤ 32779 * length ls
lssbs_sum [] h = omega arith
lssbs_sum (l ∷ ls) h =
    let parts = both_true (fits_content l.1) (list_all (λ (k : Bytes × Bytes). fits_content k.1) ls) h in
    omega (arith, lssbs_sum ls parts.1, leb-true (length l.1) 32767 parts.0, sum_by-cons (λ (k : Bytes × Bytes). 8 + list_length k.1) l ls)

-- what a row may have at most
pub record IsSmall (s : Service) : Type 0 where
  pub kb : length s.kb ≤ 32767
  pub count : length s.handed ≤ 16
  pub handed : sum_by length s.handed ≤ 32700
  pub last : last_length s.last ≤ 32705
  pub lssbs_count : length s.lssbs ≤ 1000
  pub lssbs : IsTrue (list_all (λ (l : Bytes × Bytes). fits_content l.1) s.lssbs)

pub small_short : (s : Service) → IsSmall s → service_length s < 2 ^ 32
small_short s h = omega (arith, h.kb, h.count, h.handed, h.last, h.lssbs_count, parts_sum s.handed, lssbs_sum s.lssbs h.lssbs)
