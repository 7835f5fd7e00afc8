-- The marks of the ready services, as services come and go.
use Rattle.std.specs.Prelude.{◌≡◌, refl, ℕ, Bool, true, false, cond, not, List, Option, None, Some}
use Rattle.std.proofs.Common.{ap, sym, subst, ◌∙◌}
use Rattle.std.specs.Ordering.{nat_cmp, eq_by_cmp}
use Rattle.std.specs.Cmp.{IsTotalOrder, nat_cmp_total}
use Rattle.std.specs.FinMap.{find, put}
use Rattle.std.specs.FinMap.Entries.{find-put}
use Rattle.kd_base.specs.Places.{without}
use Rattle.kd_base.specs.PlacesLaws.{find_without}
use Rattle.kdcs_types.specs.Keys.{id_cmp}
use Rattle.kdcs_types.specs.KeyLaws.{id_total}
use Rattle.abstract_monitor.specs.Picks.{Classed, place_passes}
use Rattle.service_ends.specs.declared.step_scheduler.kinds.Kind.{Kind}
use Rattle.service_ends.specs.declared.step_scheduler.marks.Marks.{Marks}
use Rattle.service_ends.specs.contracts.step_scheduler.kinds.KindOrd.TheImpl.Laws as laws
use Rattle.service_ends.specs.Arrivals.{Arrivals, AreMarks, is_of_kinds, passes}
use Rattle.service_ends.specs.Index.{mark_cmp}
use Rattle.service_ends.specs.Kinds.{kind_cmp, kind_of}
use Rattle.service_ends.proofs.step_scheduler.Indexed.{IsIndex, found_with, index_with, index_without, restored, same_index}

pub kind_total : IsTotalOrder kind_cmp
kind_total = laws.total-law

-- each service is of one of these kinds
abbrev AreNoted : List Kind → Arrivals → Type 0
AreNoted kinds es = (n : ℕ) → passes (λ e. not (is_of_kinds kinds e)) es n ≡ false

abbrev AreKept : List Kind → List Kind → Type 0
AreKept kinds more = (e : Classed) → is_of_kinds kinds e ≡ true → is_of_kinds more e ≡ true

is_noted : (kinds more : List Kind) → AreKept kinds more → (found : Option Classed) → place_passes (λ e. not (is_of_kinds kinds e)) found ≡ false → place_passes (λ e. not (is_of_kinds more e)) found ≡ false
is_noted kinds more kept None h = refl
is_noted kinds more kept (Some e) h = ap not (kept e (by (is_of_kinds kinds e) h))
  where
    by : (b : Bool) → not b ≡ false → b ≡ true
    by true h = refl
    by false h = absurd cc

module _ (number : ℕ) (entry : Classed) (es : Arrivals) where
  noted_with : (kinds more : List Kind) → AreKept kinds more → is_of_kinds more entry ≡ true → AreNoted kinds es → AreNoted more (put nat_cmp number entry es)
  noted_with kinds more kept here h n = ap (place_passes unknown) (find-put nat_cmp nat_cmp_total n number entry es) ∙ by (eq_by_cmp nat_cmp n number)
    where
      unknown : Classed → Bool
      unknown e = not (is_of_kinds more e)

      by : (b : Bool) → place_passes unknown (cond b (Some entry) (find nat_cmp n es)) ≡ false
      by true = ap not here
      by false = is_noted kinds more kept (find nat_cmp n es) (h n)

  noted_without : (kinds : List Kind) → AreNoted kinds es → AreNoted kinds (without nat_cmp number es)
  noted_without kinds h n = ap (place_passes unknown) (find_without nat_cmp nat_cmp_total n number es) ∙ by (eq_by_cmp nat_cmp n number)
    where
      unknown : Classed → Bool
      unknown e = not (is_of_kinds kinds e)

      by : (b : Bool) → place_passes unknown (cond b None (find nat_cmp n es)) ≡ false
      by true = refl
      by false = h n

  module _ (m : Marks) (h : AreMarks m es) where
    -- a service came
    pub marks_with : (n : Marks) → find nat_cmp number es ≡ None → AreKept m.kinds.items n.kinds.items → is_of_kinds n.kinds.items entry ≡ true
        → n.by_kind ≡ put (mark_cmp kind_cmp) (kind_of entry, number) tt m.by_kind → n.by_service ≡ put (mark_cmp id_cmp) (entry.0, number) tt m.by_service → AreMarks n (put nat_cmp number entry es)
    marks_with n absent kept here kind service = record {
      kinds = noted_with m.kinds.items n.kinds.items kept here h.kinds;
      by_kind = subst (λ index. IsIndex kind_cmp kind_total kind_of index (put nat_cmp number entry es)) (sym kind) (index_with kind_cmp kind_total kind_of number entry m.by_kind es h.by_kind absent);
      by_service = subst (λ index. IsIndex id_cmp id_total (λ e. e.0) index (put nat_cmp number entry es)) (sym service) (index_with id_cmp id_total (λ e. e.0) number entry m.by_service es h.by_service absent);
    }

    -- it came in part, and went again
    pub marks_back : (n : Marks) → find nat_cmp number es ≡ None → AreKept m.kinds.items n.kinds.items
        → n.by_kind ≡ without (mark_cmp kind_cmp) (kind_of entry, number) (put (mark_cmp kind_cmp) (kind_of entry, number) tt m.by_kind) → n.by_service ≡ m.by_service → AreMarks n es
    marks_back n absent kept kind service =
        let gone = index_without kind_cmp kind_total kind_of number entry _ _ (index_with kind_cmp kind_total kind_of number entry m.by_kind es h.by_kind absent) (found_with number entry es) in
        record {
          kinds = λ k. is_noted m.kinds.items n.kinds.items kept (find nat_cmp k es) (h.kinds k);
          by_kind = subst (λ index. IsIndex kind_cmp kind_total kind_of index es) (sym kind) (same_index kind_cmp kind_total kind_of _ _ es (restored number entry es absent) gone);
          by_service = subst (λ index. IsIndex id_cmp id_total (λ e. e.0) index es) (sym service) h.by_service;
        }

    -- a service went
    pub marks_without : (n : Marks) → find nat_cmp number es ≡ Some entry → n.kinds ≡ m.kinds
        → n.by_kind ≡ without (mark_cmp kind_cmp) (kind_of entry, number) m.by_kind → n.by_service ≡ without (mark_cmp id_cmp) (entry.0, number) m.by_service → AreMarks n (without nat_cmp number es)
    marks_without n there kinds kind service = record {
      kinds = subst (λ ks. AreNoted ks.items (without nat_cmp number es)) (sym kinds) (noted_without m.kinds.items h.kinds);
      by_kind = subst (λ index. IsIndex kind_cmp kind_total kind_of index (without nat_cmp number es)) (sym kind) (index_without kind_cmp kind_total kind_of number entry m.by_kind es h.by_kind there);
      by_service = subst (λ index. IsIndex id_cmp id_total (λ e. e.0) index (without nat_cmp number es)) (sym service) (index_without id_cmp id_total (λ e. e.0) number entry m.by_service es h.by_service there);
    }

pub same_marks : (m : Marks) (es fs : Arrivals) → ((n : ℕ) → find nat_cmp n es ≡ find nat_cmp n fs) → AreMarks m es → AreMarks m fs
same_marks m es fs same h = record {
  kinds = λ n. ap (place_passes (λ e. not (is_of_kinds m.kinds.items e))) (sym (same n)) ∙ h.kinds n;
  by_kind = same_index kind_cmp kind_total kind_of m.by_kind es fs same h.by_kind;
  by_service = same_index id_cmp id_total (λ e. e.0) m.by_service es fs same h.by_service;
}
