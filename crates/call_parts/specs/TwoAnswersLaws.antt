-- Laws: two files are answered in one way when they are opened.
use Rattle.std.specs.Prelude.{◌≡◌, ℕ, List}
use Rattle.std.proofs.Common.{inl, inr, arith, refl, sym, ap, subst, ◌∙◌}
use Rattle.kd_records.specs.Identity.{Identity}
use Rattle.application_types.specs.Generation.{Generated}
use Rattle.kdcs_types.specs.Tables.{TableRows}
use Rattle.record_codec.specs.Records.{content_of_tables}
use Rattle.device_acts.specs.MeaningLaws.{one_table}
use Rattle.kdcfile_copies.specs.Copies.{IsChosen, IsCopyOf}
use Rattle.kdcfile_copies.specs.CopiesLaws.{one_is_chosen}
use Rattle.kdcfile_double.specs.ChoiceLaws.{nothing_is_no_copy}
use Rattle.kdcfile_double.specs.Opening.{AreEmpty, IsChosenTables, IsRefusedTwo, IsSpent, IsTwoOfOtherTexts, StartsFromTwo, identity_twice}

-- two files are answered in one way: by the tables from which an application starts, or by one cause why it does not
pub record AnswersOfTwoExcludeEachOther (g : Generated) (fingerprint a b : List ℕ) : Type 0 where
  pub started_once : (t u : TableRows) → StartsFromTwo g fingerprint a b t → StartsFromTwo g fingerprint a b u → t ≡ u
  pub started_or_refused : (t : TableRows) → StartsFromTwo g fingerprint a b t → IsRefusedTwo g fingerprint a b → ⊥
  pub started_or_other : (t : TableRows) (stored : List ℕ) → StartsFromTwo g fingerprint a b t → IsTwoOfOtherTexts stored fingerprint a b → ⊥
  pub started_or_spent : (t : TableRows) (n : ℕ) → StartsFromTwo g fingerprint a b t → IsSpent g fingerprint n a b → ⊥
  pub refused_or_other : (stored : List ℕ) → IsRefusedTwo g fingerprint a b → IsTwoOfOtherTexts stored fingerprint a b → ⊥
  pub refused_or_spent : (n : ℕ) → IsRefusedTwo g fingerprint a b → IsSpent g fingerprint n a b → ⊥
  pub other_or_spent : (stored : List ℕ) (n : ℕ) → IsTwoOfOtherTexts stored fingerprint a b → IsSpent g fingerprint n a b → ⊥
  pub other_once : (stored again : List ℕ) → IsTwoOfOtherTexts stored fingerprint a b → IsTwoOfOtherTexts again fingerprint a b → stored ≡ again

-- of two empty files no copy counts
pub nothing_counts : (i : Identity) (n : ℕ) (t : TableRows) (a b : List ℕ) → AreEmpty a b → IsChosenTables i n t a b → ⊥
nothing_counts i n t a b empty is = by is.chosen
  where
    by : IsChosen i n (content_of_tables t) a b → ⊥
    by (inl first) = nothing_is_no_copy i n (content_of_tables t) (subst (λ (l : List ℕ). IsCopyOf i n (content_of_tables t) l) empty.0 first.0)
    by (inr second) = nothing_is_no_copy i n (content_of_tables t) (subst (λ (l : List ℕ). IsCopyOf i n (content_of_tables t) l) empty.1 second.0)

-- one list of tables counts, of one identity and with one sequence
pub one_counts : (i j : Identity) (n m : ℕ) (t u : TableRows) (a b : List ℕ) → IsChosenTables i n t a b → IsChosenTables j m u a b → (i ≡ j) × (n ≡ m) × (t ≡ u)
one_counts i j n m t u a b h k =
    let same = one_is_chosen i j n m (content_of_tables t) (content_of_tables u) a b h.chosen k.chosen in
    (same.0, same.1, one_table t u h.tables k.tables same.2)

module _ (g : Generated) (fingerprint a b : List ℕ) where
  -- tables of other texts do not count beside those of this generation
  other_counts : (stored : List ℕ) → IsTwoOfOtherTexts stored fingerprint a b → (n : ℕ) (t : TableRows) → IsChosenTables (identity_twice g fingerprint) n t a b → ⊥
  other_counts stored other n t own =
      let s = other.stands in
      let same = one_counts s.0 (identity_twice g fingerprint) s.1 n s.2 t a b s.3 own in
      other.differs (sym s.4 ∙ ap (λ (i : Identity). i.fingerprint) same.0)

  pub started_two_once : (t u : TableRows) → StartsFromTwo g fingerprint a b t → StartsFromTwo g fingerprint a b u → t ≡ u
  started_two_once t u (inl (empty, is)) (inl (again, too)) = is ∙ sym too
  started_two_once t u (inl (empty, is)) (inr (m, most, goes)) = absurd (nothing_counts (identity_twice g fingerprint) m u a b empty goes.0)
  started_two_once t u (inr (n, most, goes)) (inl (empty, is)) = absurd (nothing_counts (identity_twice g fingerprint) n t a b empty goes.0)
  started_two_once t u (inr (n, most, goes)) (inr (m, few, on)) = (one_counts (identity_twice g fingerprint) (identity_twice g fingerprint) n m t u a b goes.0 on.0).2

  started_or_refused : (t : TableRows) → StartsFromTwo g fingerprint a b t → IsRefusedTwo g fingerprint a b → ⊥
  started_or_refused t (inl (empty, is)) refused = refused.0 empty
  started_or_refused t (inr (n, most, goes)) refused = refused.1.unsuited (identity_twice g fingerprint) n t goes.0 refl refl goes.1

  started_or_other : (t : TableRows) (stored : List ℕ) → StartsFromTwo g fingerprint a b t → IsTwoOfOtherTexts stored fingerprint a b → ⊥
  started_or_other t stored (inl (empty, is)) other = let s = other.stands in nothing_counts s.0 s.1 s.2 a b empty s.3
  started_or_other t stored (inr (n, most, goes)) other = other_counts stored other n t goes.0

  started_or_spent : (t : TableRows) (n : ℕ) → StartsFromTwo g fingerprint a b t → IsSpent g fingerprint n a b → ⊥
  started_or_spent t n (inl (empty, is)) spent = nothing_counts (identity_twice g fingerprint) n spent.goes_on.0 a b empty spent.goes_on.1.0
  started_or_spent t n (inr (m, most, goes)) spent =
      let same = one_counts (identity_twice g fingerprint) (identity_twice g fingerprint) m n t spent.goes_on.0 a b goes.0 spent.goes_on.1.0 in
      omega (arith, most, spent.great, same.1)

  refused_or_other : (stored : List ℕ) → IsRefusedTwo g fingerprint a b → IsTwoOfOtherTexts stored fingerprint a b → ⊥
  refused_or_other stored refused other = let s = other.stands in other.differs (sym s.4 ∙ refused.1.own_texts s.0 s.1 s.2 s.3)

  refused_or_spent : (n : ℕ) → IsRefusedTwo g fingerprint a b → IsSpent g fingerprint n a b → ⊥
  refused_or_spent n refused spent = refused.1.unsuited (identity_twice g fingerprint) n spent.goes_on.0 spent.goes_on.1.0 refl refl spent.goes_on.1.1

  other_or_spent : (stored : List ℕ) (n : ℕ) → IsTwoOfOtherTexts stored fingerprint a b → IsSpent g fingerprint n a b → ⊥
  other_or_spent stored n other spent = other_counts stored other n spent.goes_on.0 spent.goes_on.1.0

  other_once : (stored again : List ℕ) → IsTwoOfOtherTexts stored fingerprint a b → IsTwoOfOtherTexts again fingerprint a b → stored ≡ again
  other_once stored again h k =
      let s = h.stands in
      let r = k.stands in
      sym s.4 ∙ ap (λ (i : Identity). i.fingerprint) (one_counts s.0 r.0 s.1 r.1 s.2 r.2 a b s.3 r.3).0 ∙ r.4

  pub answers_of_two_exclude_each_other : AnswersOfTwoExcludeEachOther g fingerprint a b
  answers_of_two_exclude_each_other = record {
    started_once = started_two_once;
    started_or_refused = started_or_refused;
    started_or_other = started_or_other;
    started_or_spent = started_or_spent;
    refused_or_other = refused_or_other;
    refused_or_spent = refused_or_spent;
    other_or_spent = other_or_spent;
    other_once = other_once;
  }
