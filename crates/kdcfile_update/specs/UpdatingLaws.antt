-- Laws: a file is answered in one way, and the tables that it keeps after its update suit the generation.
use Rattle.std.proofs.Common.{◌≡◌, inl, inr, ℕ, List, Err, sym, ap, subst, ◌∙◌}
use Rattle.kd_records.specs.Identity.{Identity}
use Rattle.kdcs_types.specs.Tables.{TableRows}
use Rattle.application_types.specs.Soundness.{AreLimits}
use Rattle.application_types.specs.Generation.{Generated}
use Rattle.laws_of_states.specs.Suits.{Suits, SuitsFrom}
use Rattle.device_acts.specs.MeaningLaws.{one_meaning_of_tables}
use Rattle.device_acts.specs.Opening.{HasNoTablesFor}
use Rattle.device_acts.specs.Stands.{AreTables, StandsForTables}
use Rattle.kd_update.specs.Carrying.{carried}
use Rattle.kd_update.specs.CarryingLaws.{carried_sorted}
use Rattle.kd_update.specs.ProperLaws.{carried_proper}
use Rattle.kd_update.specs.SuitingLaws.{carried_tables_suit, what_suits_stays}
use Rattle.kd_update.specs.declared.error.UpdateError.{UpdateError}
use Rattle.kdcfile_update.specs.Laws.{TakenTablesSuit}
use Rattle.kdcfile_update.specs.Updating.{Stored, IsUpToDate, IsTaken, Takes, IsJudgedSo, RefusesAs, UpdateAnswersExcludeEachOther, judgement}

-- ---- what the bytes stand for

-- they stand for one thing
pub stored_once : (bytes : List ℕ) (s u : Stored) → StandsForTables s.identity s.tables bytes → StandsForTables u.identity u.tables bytes → s ≡ u
stored_once bytes s u h k =
    let same = one_meaning_of_tables s.identity u.identity s.tables u.tables bytes h k in
    λ i. record { identity = same.0 i; tables = same.1 i }

-- ---- tables that are taken

module _ (g : Generated) (fingerprint : List ℕ) (s : Stored) where
  pub own_texts : IsUpToDate g fingerprint s → s.identity.fingerprint ≡ fingerprint
  own_texts u = ap (λ (i : Identity). i.fingerprint) u.identity_is

  -- tables of these texts that suit come from a file of its sizes
  suits_there : IsUpToDate g fingerprint s → SuitsFrom g s.identity.blksize s.identity.pages s.tables
  suits_there u = record { pages = ap (λ (i : Identity). i.blksize) u.identity_is; pool = ap (λ (i : Identity). i.pages) u.identity_is; tables = u.suits }

  -- tables are not up to date and of other texts
  pub not_both : IsUpToDate g fingerprint s → (s.identity.fingerprint ≡ fingerprint → ⊥) → ⊥
  not_both u differs = differs (own_texts u)

  -- what suits is carried as it is
  pub stays : IsUpToDate g fingerprint s → carried g s.tables ≡ s.tables
  stays u = what_suits_stays g s.tables u.suits

  pub taken_suits : IsTaken g fingerprint s → Suits g (carried g s.tables)
  taken_suits (inl u) = subst (Suits g) (sym (stays u)) u.suits
  taken_suits (inr may) = carried_tables_suit g s.identity.blksize s.identity.pages s.tables may.judged

pub carried_are_tables : (g : Generated) (t : TableRows) → AreLimits g.limits → AreTables t → AreTables (carried g t)
carried_are_tables g t limits h = record { sorted = carried_sorted g t h.sorted; proper = carried_proper g t limits h.proper }

pub taken_tables_suit : TakenTablesSuit
taken_tables_suit g fingerprint bytes s limits takes = record {
  tables = carried_are_tables g s.tables limits takes.stands.tables;
  suits = taken_suits g fingerprint s takes.how;
}

-- ---- a file is answered in one way

module _ (g : Generated) (fingerprint bytes : List ℕ) where
  pub taken_once : (s u : Stored) → Takes g fingerprint bytes s → Takes g fingerprint bytes u → s ≡ u
  taken_once s u h k = stored_once bytes s u h.stands k.stands

  taken_or_none : (s : Stored) → StandsForTables s.identity s.tables bytes → IsTaken g fingerprint s → HasNoTablesFor g fingerprint bytes → ⊥
  taken_or_none s stands (inl u) none = none.unsuited s.identity s.tables stands (suits_there g fingerprint s u)
  taken_or_none s stands (inr may) none = may.differs (none.own_texts s.identity s.tables stands)

  taken_or_judged : (s : Stored) (why : UpdateError) → IsTaken g fingerprint s → (s.identity.fingerprint ≡ fingerprint → ⊥) → judgement g s ≡ Err why → ⊥
  taken_or_judged s why (inl u) differs judged = not_both g fingerprint s u differs
  taken_or_judged s why (inr may) differs judged = cc (sym may.judged ∙ judged)

  taken_or_refused : (s : Stored) (why : UpdateError) → Takes g fingerprint bytes s → RefusesAs g fingerprint bytes why → ⊥
  taken_or_refused s why takes (inl (is, none)) = taken_or_none s takes.stands takes.how none
  taken_or_refused s why takes (inr so) =
      let same = stored_once bytes s so.stored takes.stands so.stands in
      taken_or_judged so.stored why (subst (IsTaken g fingerprint) same takes.how) so.differs so.judged

  judged_once : (why again : UpdateError) → IsJudgedSo g fingerprint bytes why → IsJudgedSo g fingerprint bytes again → why ≡ again
  judged_once why again h k =
      let same = stored_once bytes h.stored k.stored h.stands k.stands in
      let both : Err why ≡ Err again = sym h.judged ∙ ap (judgement g) same ∙ k.judged in
      cc

  none_or_judged : (why : UpdateError) → HasNoTablesFor g fingerprint bytes → IsJudgedSo g fingerprint bytes why → ⊥
  none_or_judged why none so = so.differs (none.own_texts so.stored.identity so.stored.tables so.stands)

  refused_once : (why again : UpdateError) → RefusesAs g fingerprint bytes why → RefusesAs g fingerprint bytes again → why ≡ again
  refused_once why again (inl (is, none)) (inl (too, none_again)) = is ∙ sym too
  refused_once why again (inl (is, none)) (inr so) = absurd (none_or_judged again none so)
  refused_once why again (inr so) (inl (is, none)) = absurd (none_or_judged why none so)
  refused_once why again (inr so) (inr too) = judged_once why again so too

pub update_answers_exclude_each_other : UpdateAnswersExcludeEachOther
update_answers_exclude_each_other g fingerprint bytes = record {
  taken_once = taken_once g fingerprint bytes;
  taken_or_refused = taken_or_refused g fingerprint bytes;
  refused_once = refused_once g fingerprint bytes;
}
