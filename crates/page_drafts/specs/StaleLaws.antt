-- Laws: numbers of pages, and a flag for each page.
use Rattle.std.proofs.Common.{◌≡◌, ⊎_elim, ℕ, ◌<◌, ◌≤◌, Bool, true, false, cond, List, [], ◌∷◌, length, get_or, Option, Some, None, refl, ap, sym, subst, ◌∙◌, arith}
use Rattle.std.specs.Prelude.{set, replicate, is_some, IsTrue, slice_index_or, Result, Ok, Err, OnOk, OnErr}
use Rattle.std.specs.declared.cmp.Ordering.{Ordering}
use Rattle.std.specs.declared.cmp.Ordering.TheVariants.{Less, Equal, Greater}
use Rattle.std.specs.Ordering.{is_eq, is_lt, eq_by_cmp, nat_cmp}
use Rattle.std.specs.Cmp.{nat_cmp_total, ranked, tied_itself}
use Rattle.std.specs.FinMap.{find, put, is_sorted, nat_cmp-IsAntisymmetric}
use Rattle.std.specs.FinMap.Entries.{below_all, find-put}
use Rattle.std.proofs.lemmas.Bool.{cases_eq, false≢true}
use Rattle.std.proofs.lemmas.Option.{slice_get-get_or, get_or_from_slice_get}
use Rattle.std.proofs.lemmas.List.{length-set, length-replicate, get_or-replicate, get_or-set_same, get_or-set_other, same_lists}
use Rattle.std.proofs.lemmas.List.FromFn.{length-map-range_with_len, get_or-map-range_with_len, fill_by_all}
use Rattle.kd_base.specs.OrderLaws.{is_less}
use Rattle.kd_base.specs.Places.{without}
use Rattle.kd_base.specs.PlacesLaws.{find_without, up_head}
use Rattle.kd_base.specs.ToolsLaws.{both_true}
use Rattle.kdcfile_layout.specs.Places.{At}
use Rattle.page_drafts.specs.Stale.{is_among, flags_of, AllBelow}

differ : (k page : ℕ) → (k ≡ page → ⊥) → eq_by_cmp nat_cmp k page ≡ false
differ k page ne = by (nat_cmp k page) refl
  where
    by : (r : Ordering) → nat_cmp k page ≡ r → is_eq r ≡ false
    by Less e = refl
    by Equal e = absurd (ne (nat_cmp-IsAntisymmetric k page e))
    by Greater e = refl

tied : (k : ℕ) → eq_by_cmp nat_cmp k k ≡ true
tied k = ap is_eq (tied_itself nat_cmp_total k)

module _ {X : Type 0} where
  is_some_cond : (b : Bool) (o p : Option X) → is_some (cond b o p) ≡ cond b (is_some o) (is_some p)
  is_some_cond true o p = refl
  is_some_cond false o p = refl

  -- ---- which pages are there after a change

  among_put : (page : ℕ) (v : X) (pages : List (ℕ × X)) (k : ℕ) → is_among (put nat_cmp page v pages) k ≡ cond (eq_by_cmp nat_cmp k page) true (is_among pages k)
  among_put page v pages k = ap is_some (find-put nat_cmp nat_cmp_total k page v pages) ∙ is_some_cond (eq_by_cmp nat_cmp k page) (Some v) (find nat_cmp k pages)

  among_without : (page : ℕ) (pages : List (ℕ × X)) (k : ℕ) → is_among (without nat_cmp page pages) k ≡ cond (eq_by_cmp nat_cmp k page) false (is_among pages k)
  among_without page pages k = ap is_some (find_without nat_cmp nat_cmp_total k page pages) ∙ is_some_cond (eq_by_cmp nat_cmp k page) None (find nat_cmp k pages)

  same_put : (page : ℕ) (v : X) (pages : List (ℕ × X)) → is_among (put nat_cmp page v pages) page ≡ true
  same_put page v pages = among_put page v pages page ∙ ap (λ b. cond b true (is_among pages page)) (tied page)

  other_put : (page : ℕ) (v : X) (pages : List (ℕ × X)) (k : ℕ) → (k ≡ page → ⊥) → is_among (put nat_cmp page v pages) k ≡ is_among pages k
  other_put page v pages k ne = among_put page v pages k ∙ ap (λ b. cond b true (is_among pages k)) (differ k page ne)

  same_without : (page : ℕ) (pages : List (ℕ × X)) → is_among (without nat_cmp page pages) page ≡ false
  same_without page pages = among_without page pages page ∙ ap (λ b. cond b false (is_among pages page)) (tied page)

  other_without : (page : ℕ) (pages : List (ℕ × X)) (k : ℕ) → (k ≡ page → ⊥) → is_among (without nat_cmp page pages) k ≡ is_among pages k
  other_without page pages k ne = among_without page pages k ∙ ap (λ b. cond b false (is_among pages k)) (differ k page ne)

  -- ---- the flags

  pub length_flags : (count : ℕ) (pages : List (ℕ × X)) → length (flags_of count pages) ≡ count
  length_flags count pages = length-map-range_with_len (λ k. is_among pages k) 0 count

  flag_is : (count : ℕ) (pages : List (ℕ × X)) (k : ℕ) → k < count → get_or (flags_of count pages) k false ≡ is_among pages k
  flag_is count pages k lt = get_or-map-range_with_len (λ j. is_among pages j) 0 count k k false lt (omega arith)

  flag_at : (count : ℕ) (pages : List (ℕ × X)) (k : ℕ) (b : Bool) → k < count → is_among pages k ≡ b → At (flags_of count pages) k b
  flag_at count pages k b lt e =
      subst (λ c. At (flags_of count pages) k c) (flag_is count pages k lt ∙ e)
      (slice_get-get_or (flags_of count pages) k false (omega (arith, lt, length_flags count pages)))

  -- one flag set
  set_flags : (count : ℕ) (old new : List (ℕ × X)) (page : ℕ) (b : Bool) → is_among new page ≡ b → ((k : ℕ) → (k ≡ page → ⊥) → is_among new k ≡ is_among old k) → flags_of count new ≡ set (flags_of count old) page b
  set_flags count old new page b same other =
      sym (fill_by_all (λ k. is_among new k) (set (flags_of count old) page b) count false (length-set (flags_of count old) page b ∙ length_flags count old)
      (λ k lt. ⊎_elim
      (λ is.
      ap (λ j. get_or (set (flags_of count old) page b) j false) is
      ∙ get_or-set_same (flags_of count old) page b false (omega (arith, is, lt, length_flags count old))
      ∙ sym same
      ∙ ap (λ j. is_among new j) (sym is))
      (λ ne. get_or-set_other (flags_of count old) page k b false ne ∙ flag_is count old k lt ∙ sym (other k ne))
      (cases_eq k page)))

  pub marked : (count page : ℕ) (v : X) (pages : List (ℕ × X)) → flags_of count (put nat_cmp page v pages) ≡ set (flags_of count pages) page true
  marked count page v pages = set_flags count pages (put nat_cmp page v pages) page true (same_put page v pages) (λ k ne. other_put page v pages k ne)

  pub cleared : (count page : ℕ) (pages : List (ℕ × X)) → flags_of count (without nat_cmp page pages) ≡ set (flags_of count pages) page false
  cleared count page pages = set_flags count pages (without nat_cmp page pages) page false (same_without page pages) (λ k ne. other_without page pages k ne)

  pub none_flagged : (count : ℕ) (pages : List (ℕ × X)) → pages ≡ [] → flags_of count pages ≡ replicate count false
  none_flagged count pages e =
      ap (λ es. flags_of count es) e
      ∙ sym (fill_by_all (λ k. is_among {X = X} [] k) (replicate count false) count false (length-replicate count false) (λ k lt. get_or-replicate count k false false lt))

  -- ---- the pages are below

  pub marked_below : (count page : ℕ) (v : X) (pages : List (ℕ × X)) → page < count → AllBelow count pages → AllBelow count (put nat_cmp page v pages)
  marked_below count page v pages lt below k is =
      ⊎_elim (λ e. omega (arith, e, lt)) (λ ne. below k (sym (other_put page v pages k ne) ∙ is)) (cases_eq k page)

  -- a call that may want memory
  pub put_below : {A E : Type 0} (r : Result A E) (count page : ℕ) (v : X) (old new : List (ℕ × X)) → page < count → AllBelow count old → OnOk r (new ≡ put nat_cmp page v old) → OnErr r (new ≡ old) → AllBelow count new
  put_below (Ok a) count page v old new lt below ok err = subst (λ (l : List (ℕ × X)). AllBelow count l) (sym ok) (marked_below count page v old lt below)
  put_below (Err e) count page v old new lt below ok err = subst (λ (l : List (ℕ × X)). AllBelow count l) (sym err) below

  pub cleared_below : (count page : ℕ) (pages : List (ℕ × X)) → AllBelow count pages → AllBelow count (without nat_cmp page pages)
  cleared_below count page pages below k is =
      ⊎_elim
      (λ e. absurd (false≢true (sym (same_without page pages) ∙ ap (λ j. is_among (without nat_cmp page pages) j) (sym e) ∙ is)))
      (λ ne. below k (sym (other_without page pages k ne) ∙ is))
      (cases_eq k page)

  -- ---- the first page

  none_before : (page : ℕ) (pages : List (ℕ × X)) → IsTrue (below_all nat_cmp page pages) → (k : ℕ) → k ≤ page → is_among pages k ≡ false
  none_before page [] up k le = refl
  none_before page (e ∷ es) up k le =
      let parts = both_true (is_lt (nat_cmp page e.0)) (below_all nat_cmp page es) up in
      let lt : page < e.0 = ranked page e.0 Less (sym (is_less _ parts.0)) in
      ap (λ b. is_some (cond b (Some e.1) (find nat_cmp k es))) (differ k e.0 (λ is. omega (arith, is, le, lt)))
      ∙ none_before page es parts.1 k le

  among_first : (e : ℕ × X) (es : List (ℕ × X)) → is_among (e ∷ es) e.0 ≡ true
  among_first e es = ap (λ b. is_some (cond b (Some e.1) (find nat_cmp e.0 es))) (tied e.0)

  pub first_flag : (count : ℕ) (e : ℕ × X) (es : List (ℕ × X)) → AllBelow count (e ∷ es) → At (flags_of count (e ∷ es)) e.0 true
  first_flag count e es below = flag_at count (e ∷ es) e.0 true (below e.0 (among_first e es)) (among_first e es)

  pub lesser_flag : (count : ℕ) (e : ℕ × X) (es : List (ℕ × X)) → IsTrue (is_sorted nat_cmp (e ∷ es)) → AllBelow count (e ∷ es) → (k : ℕ) → k < e.0 → At (flags_of count (e ∷ es)) k false
  lesser_flag count e es up below k lt =
      flag_at count (e ∷ es) k false (omega (arith, lt, below e.0 (among_first e es)))
      (ap (λ b. is_some (cond b (Some e.1) (find nat_cmp k es))) (differ k e.0 (λ is. omega (arith, is, lt)))
      ∙ none_before e.0 es (up_head nat_cmp nat_cmp_total e es up) k (omega (arith, lt)))

  -- the same of what is read of the pages

  pub first_read : (count : ℕ) (read pages : List (ℕ × X)) (d : ℕ × X) → read ≡ pages → 1 ≤ length read → AllBelow count pages → At (flags_of count pages) (slice_index_or read 0 d).0 true
  first_read count [] pages d is some below = absurd (omega (arith, some))
  first_read count (e ∷ es) pages d is some below =
      subst (λ (l : List (ℕ × X)). At (flags_of count l) e.0 true) is
      (first_flag count e es (subst (λ (l : List (ℕ × X)). AllBelow count l) (sym is) below))

  pub lesser_read : (count : ℕ) (read pages : List (ℕ × X)) (d : ℕ × X) → read ≡ pages → 1 ≤ length read → IsTrue (is_sorted nat_cmp pages) → AllBelow count pages → (k : ℕ) → k < (slice_index_or read 0 d).0 → At (flags_of count pages) k false
  lesser_read count [] pages d is some up below k lt = absurd (omega (arith, some))
  lesser_read count (e ∷ es) pages d is some up below k lt =
      subst (λ (l : List (ℕ × X)). At (flags_of count l) k false) is
      (lesser_flag count e es (subst (λ (l : List (ℕ × X)). IsTrue (is_sorted nat_cmp l)) (sym is) up) (subst (λ (l : List (ℕ × X)). AllBelow count l) (sym is) below) k lt)

  pub none_read : (count : ℕ) (read pages : List (ℕ × X)) → read ≡ pages → length read < 1 → (k : ℕ) → k < length (flags_of count pages) → At (flags_of count pages) k false
  none_read count [] pages is none k lt =
      subst (λ (l : List (ℕ × X)). At (flags_of count l) k false) is
      (flag_at count [] k false (omega (arith, lt, length_flags count pages)) refl)
  none_read count (e ∷ es) pages is none k lt = absurd (omega (arith, none))

-- a list of flags that are all set
pub all_set : (flags : List Bool) (count : ℕ) → length flags ≡ count → ((k : ℕ) → k < count → At flags k true) → flags ≡ replicate count true
all_set flags count long at = same_lists flags (replicate count true) (long ∙ sym (length-replicate count true))
    (λ k d lt. get_or_from_slice_get flags k true d (at k (omega (arith, lt, long))) ∙ sym (get_or-replicate count k true d (omega (arith, lt, long))))
