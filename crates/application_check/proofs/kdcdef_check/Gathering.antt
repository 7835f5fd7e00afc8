-- One more statement among those that were gathered.
use Rattle.std.proofs.Common.{◌≡◌, ℕ, ◌+◌, ◌<◌, List, [], ◌∷◌, ◌++◌, length, set, None, bytes_eq, false, refl, sym, ap, ◌∙◌, subst, arith, append_assoc, length-append}
use Rattle.std.specs.Prelude.{slice_index}
use Rattle.std.proofs.lemmas.List.{append-nil, get_or_append_left}
use Rattle.std.proofs.lemmas.List.Elements.{All-nil, All-push}
use Rattle.application_types.specs.declared.kdcdef_types.statement.Said.{Said}
use Rattle.application_types.specs.declared.kdcdef_types.statement.Said.TheVariants.{Program, Lterm, Kset}
use Rattle.application_types.specs.declared.kdcdef_types.statement.Statement.{Statement}
use Rattle.application_check.specs.declared.kdcdef_check.gathered.Gathered.{Gathered}
use Rattle.application_check.specs.declared.kdcdef_check.tables.Tables.{Tables}
use Rattle.application_check.specs.Generating.{as_program, as_lterm, as_kset, generated}
use Rattle.application_check.specs.Faults.{kind_of, kind_count}
use Rattle.application_check.specs.Steps.{put, IsFirstOf, AmongFirst, OwnFault, own_fault, IsAdded, AreFilled, AreNamedFilled, IsNamed}
use Rattle.application_check.specs.Gathering.{may_be_named, IsBehind, WereGathered}
use Rattle.application_check.proofs.kdcdef_check.Filling.{further, filled_further}
use Rattle.application_check.proofs.kdcdef_check.Fronts.{one_more_first, one_more_tally}

-- the three tables, with one more statement
pub record IsNameAdded (old new : Tables) (line : ℕ) (said : Said) : Type 0 where
  pub programs : new.programs.entries ≡ put bytes_eq (as_program line said) old.programs.entries
  pub lterms : new.lterms.entries ≡ put bytes_eq (as_lterm said) old.lterms.entries
  pub ksets : new.ksets.entries ≡ put bytes_eq (as_kset said) old.ksets.entries

pub names_of_added : (old new : Tables) (line : ℕ) (said : Said) → IsAdded old new line said → IsNameAdded old new line said
names_of_added old new line said h = record { programs = h.programs; lterms = h.lterms; ksets = h.ksets }

-- a statement that no other may name adds no name
pub no_name : (t : Tables) (line : ℕ) (said : Said) → may_be_named said ≡ false → IsNameAdded t t line said
no_name t line (Program name) h = absurd cc
no_name t line (Lterm name entry) h = absurd cc
no_name t line (Kset name set) h = absurd cc
no_name t line _ h = record { programs = refl; lterms = refl; ksets = refl }

named_further : (ss : List Statement) (s : Statement) (old new : Tables) → AreNamedFilled old ss → IsNameAdded old new s.line s.said → AreNamedFilled new (ss ++ s ∷ [])
named_further ss s old new was added = record {
  programs = further (put bytes_eq) (λ (s : Statement). as_program s.line s.said) ss s _ _ was.programs added.programs;
  lterms = further (put bytes_eq) (λ (s : Statement). as_lterm s.said) ss s _ _ was.lterms added.lterms;
  ksets = further (put bytes_eq) (λ (s : Statement). as_kset s.said) ss s _ _ was.ksets added.ksets;
}

-- where nothing is left out, all are kept
pub all_kept : (g : Gathered) (ss : List Statement) → WereGathered g ss → g.first ≡ None → ss ≡ g.kept.items
all_kept g ss was none = was.all ∙ ap (λ (later : List Statement). g.kept.items ++ later) (was.none_later none) ∙ append-nil g.kept.items

-- a statement is kept
pub one_kept : (old new : Gathered) (ss : List Statement) (s : Statement) → WereGathered old ss → old.first ≡ None → new.kept.items ≡ old.kept.items ++ s ∷ []
    → new.first ≡ own_fault (generated old.kept.items) (kind_count (kind_of s.said) old.kept.items) s → IsAdded old.tables.value new.tables.value s.line s.said
    → new.tally.counts ≡ set old.tally.counts (kind_of s.said) (slice_index old.tally.counts (kind_of s.said) + 1) → IsNamed s.said → WereGathered new (ss ++ s ∷ [])
one_kept old new ss s was none kept first added counted named =
    let all = all_kept old ss was none in
    let now : ss ++ s ∷ [] ≡ new.kept.items = ap (λ (xs : List Statement). xs ++ s ∷ []) all ∙ sym kept in
    let filled : AreFilled new.tables.value (old.kept.items ++ s ∷ []) = filled_further old.kept.items s old.tables.value new.tables.value (was.filled none) added in
    let faults : IsFirstOf (AmongFirst old.kept.items (OwnFault old.kept.items) (length old.kept.items)) None = subst (IsFirstOf (AmongFirst old.kept.items (OwnFault old.kept.items) (length old.kept.items))) none was.first in
    record {
      later = [];
      all = now ∙ sym (append-nil new.kept.items);
      behind = All-nil _;
      none_later = λ _. refl;
      first = rw (kept, first) (one_more_first old.kept.items s None faults);
      filled = λ _. rw kept filled;
      named_filled = named_further ss s old.tables.value new.tables.value was.named_filled (names_of_added old.tables.value new.tables.value s.line s.said added);
      tally = rw kept (one_more_tally old.kept.items s old.tally new.tally was.tally counted);
      named = rw kept (All-push (λ (t : Statement). IsNamed t.said) old.kept.items s was.named named);
    }

-- what is behind all is behind those in front
front_behind : (xs ys all : List Statement) (s : Statement) → all ≡ xs ++ ys → IsBehind all s → IsBehind xs s
front_behind xs ys all s is h = λ k d below.
    let h2 : IsBehind (xs ++ ys) s = subst (λ (zs : List Statement). IsBehind zs s) is h in
    let wide : k < length (xs ++ ys) = omega (arith, below, length-append xs ys) in
    subst (λ (t : Statement). t.line < s.line) (get_or_append_left xs ys d k below) (h2 k d wide)

-- a statement is not kept, but its name
pub one_named : (old new : Gathered) (ss : List Statement) (s : Statement) → WereGathered old ss → (old.first ≡ None → ⊥) → IsBehind ss s → new.kept ≡ old.kept → new.first ≡ old.first → new.tally ≡ old.tally
    → IsNameAdded old.tables.value new.tables.value s.line s.said → WereGathered new (ss ++ s ∷ [])
one_named old new ss s was some behind kept first tally added = record {
  later = was.later ++ s ∷ [];
  all = rw kept (ap (λ (xs : List Statement). xs ++ s ∷ []) was.all ∙ append_assoc old.kept.items was.later (s ∷ []));
  behind = rw kept (All-push (λ (t : Statement). IsBehind old.kept.items t) was.later s was.behind (front_behind old.kept.items was.later ss s was.all behind));
  none_later = λ none. absurd (some (sym first ∙ none));
  first = rw (kept, first) was.first;
  filled = λ none. absurd (some (sym first ∙ none));
  named_filled = named_further ss s old.tables.value new.tables.value was.named_filled added;
  tally = rw (kept, tally) was.tally;
  named = rw kept was.named;
}
