-- Laws: tables with one content are one.
use Rattle.std.specs.Prelude.{◌≡◌, refl, List, [], ◌∷◌, ◌++◌, map, filter_map, Option, Some, None}
use Rattle.std.proofs.Common.{sym, ap, ◌∙◌}
use Rattle.std.proofs.lemmas.List.{append-nil}
use Rattle.std.proofs.lemmas.List.Elements.{filter_map-append, recursion_from_All}
use Rattle.std.specs.List.{cons_option, AllByRecursion as Each}
use Rattle.kd_records.specs.declared.content.Content.{Content}
use Rattle.kdcs_types.specs.declared.act.Row.{Row}
use Rattle.kdcs_types.specs.RowLaws.{gssb_in, tls_in, uls_in, service_in, job_in, shown_in}
use Rattle.kdcs_types.specs.Tables.{TableRows, gssb_row, tls_row, uls_row, service_row, job_row, shown_row}
use Rattle.record_codec.specs.Values.{record_of}
use Rattle.record_codec.specs.Records.{rows_of}
use Rattle.record_codec.specs.RowReadings.{IsProperRow}
use Rattle.record_codec.specs.RowReadingsLaws.{records_are_one_to_one}
use Rattle.record_codec.specs.TableReadingsLaws.{FitsThere, rows_fit}
use Rattle.record_codec.specs.OneToOne.{TablesAreOneToOne}

-- ---- rows

rows_are_one : (rs qs : List Row) → Each IsProperRow rs → Each IsProperRow qs → Each FitsThere rs → Each FitsThere qs → map record_of rs ≡ map record_of qs → rs ≡ qs
rows_are_one [] [] hr hq fr fq e = refl
rows_are_one [] (q ∷ qs) hr hq fr fq e = absurd (cc e)
rows_are_one (r ∷ rs) [] hr hq fr fq e = absurd (cc e)
rows_are_one (r ∷ rs) (q ∷ qs) hr hq fr fq e =
    let first : record_of r ≡ record_of q = cc e in
    let rest : map record_of rs ≡ map record_of qs = cc e in
    λ i. records_are_one_to_one r q hr.0 hq.0 fr.0 fq.0 first i ∷ rows_are_one rs qs hr.1 hq.1 fr.1 fq.1 rest i

-- ---- the rows of one kind among all

module _ {E : Type 0} (pick : Row → Option E) where
  whole : (f : E → Row) → ((e : E) → pick (f e) ≡ Some e) → (es : List E) → filter_map pick (map f es) ≡ es
  whole f is [] = refl
  whole f is (e ∷ es) = λ i. cons_option (is e i) (whole f is es i)

  none : {A : Type 0} (f : A → Row) → ((a : A) → pick (f a) ≡ None) → (xs : List A) → filter_map pick (map f xs) ≡ []
  none f is [] = refl
  none f is (x ∷ xs) = λ i. cons_option (is x i) (none f is xs i)

  both : (xs ys : List Row) (a b : List E) → filter_map pick xs ≡ a → filter_map pick ys ≡ b → filter_map pick (xs ++ ys) ≡ a ++ b
  both xs ys a b p q = filter_map-append pick xs ys ∙ (λ i. p i ++ q i)

  of_kinds : (t : TableRows) (a b c d e f : List E) → filter_map pick (map gssb_row t.gssbs) ≡ a → filter_map pick (map tls_row t.tlss) ≡ b → filter_map pick (map uls_row t.ulss) ≡ c → filter_map pick (map service_row t.services) ≡ d
      → filter_map pick (map job_row t.jobs) ≡ e → filter_map pick (map shown_row t.shown) ≡ f → filter_map pick (rows_of t) ≡ a ++ (b ++ (c ++ (d ++ (e ++ f))))
  of_kinds t a b c d e f p q r s v w = both _ _ a _ p (both _ _ b _ q (both _ _ c _ r (both _ _ d _ s (both _ _ e f v w))))

gssbs_in : (t : TableRows) → filter_map gssb_in (rows_of t) ≡ t.gssbs
gssbs_in t = of_kinds gssb_in t t.gssbs [] [] [] [] [] (whole gssb_in gssb_row (λ e. refl) t.gssbs) (none gssb_in tls_row (λ e. refl) t.tlss) (none gssb_in uls_row (λ e. refl) t.ulss) (none gssb_in service_row (λ e. refl) t.services) (none gssb_in job_row (λ e. refl) t.jobs) (none gssb_in shown_row (λ e. refl) t.shown) ∙ append-nil t.gssbs

tlss_in : (t : TableRows) → filter_map tls_in (rows_of t) ≡ t.tlss
tlss_in t = of_kinds tls_in t [] t.tlss [] [] [] [] (none tls_in gssb_row (λ e. refl) t.gssbs) (whole tls_in tls_row (λ e. refl) t.tlss) (none tls_in uls_row (λ e. refl) t.ulss) (none tls_in service_row (λ e. refl) t.services) (none tls_in job_row (λ e. refl) t.jobs) (none tls_in shown_row (λ e. refl) t.shown) ∙ append-nil t.tlss

ulss_in : (t : TableRows) → filter_map uls_in (rows_of t) ≡ t.ulss
ulss_in t = of_kinds uls_in t [] [] t.ulss [] [] [] (none uls_in gssb_row (λ e. refl) t.gssbs) (none uls_in tls_row (λ e. refl) t.tlss) (whole uls_in uls_row (λ e. refl) t.ulss) (none uls_in service_row (λ e. refl) t.services) (none uls_in job_row (λ e. refl) t.jobs) (none uls_in shown_row (λ e. refl) t.shown) ∙ append-nil t.ulss

services_in : (t : TableRows) → filter_map service_in (rows_of t) ≡ t.services
services_in t = of_kinds service_in t [] [] [] t.services [] [] (none service_in gssb_row (λ e. refl) t.gssbs) (none service_in tls_row (λ e. refl) t.tlss) (none service_in uls_row (λ e. refl) t.ulss) (whole service_in service_row (λ e. refl) t.services) (none service_in job_row (λ e. refl) t.jobs) (none service_in shown_row (λ e. refl) t.shown) ∙ append-nil t.services

jobs_in : (t : TableRows) → filter_map job_in (rows_of t) ≡ t.jobs
jobs_in t = of_kinds job_in t [] [] [] [] t.jobs [] (none job_in gssb_row (λ e. refl) t.gssbs) (none job_in tls_row (λ e. refl) t.tlss) (none job_in uls_row (λ e. refl) t.ulss) (none job_in service_row (λ e. refl) t.services) (whole job_in job_row (λ e. refl) t.jobs) (none job_in shown_row (λ e. refl) t.shown) ∙ append-nil t.jobs

all_shown_in : (t : TableRows) → filter_map shown_in (rows_of t) ≡ t.shown
all_shown_in t = of_kinds shown_in t [] [] [] [] [] t.shown (none shown_in gssb_row (λ e. refl) t.gssbs) (none shown_in tls_row (λ e. refl) t.tlss) (none shown_in uls_row (λ e. refl) t.ulss) (none shown_in service_row (λ e. refl) t.services) (none shown_in job_row (λ e. refl) t.jobs) (whole shown_in shown_row (λ e. refl) t.shown)

-- ---- tables

same_kind : {E : Type 0} (pick : Row → Option E) (t u : TableRows) (xs ys : List E) → rows_of t ≡ rows_of u → filter_map pick (rows_of t) ≡ xs → filter_map pick (rows_of u) ≡ ys → xs ≡ ys
same_kind pick t u xs ys e x y = sym x ∙ ap (filter_map pick) e ∙ y

pub tables_are_one_to_one : TablesAreOneToOne
tables_are_one_to_one t u ht hu st su e =
    let rows : rows_of t ≡ rows_of u =
    rows_are_one (rows_of t) (rows_of u) (recursion_from_All IsProperRow (rows_of t) ht) (recursion_from_All IsProperRow (rows_of u) hu) (rows_fit t st) (rows_fit u su)
    (ap (λ (x : Content). x.items) e) in
    λ i. record {
      clock = (e i).clock;
      next_job = (e i).next_job;
      gssbs = same_kind gssb_in t u t.gssbs u.gssbs rows (gssbs_in t) (gssbs_in u) i;
      tlss = same_kind tls_in t u t.tlss u.tlss rows (tlss_in t) (tlss_in u) i;
      ulss = same_kind uls_in t u t.ulss u.ulss rows (ulss_in t) (ulss_in u) i;
      services = same_kind service_in t u t.services u.services rows (services_in t) (services_in u) i;
      jobs = same_kind job_in t u t.jobs u.jobs rows (jobs_in t) (jobs_in u) i;
      shown = same_kind shown_in t u t.shown u.shown rows (all_shown_in t) (all_shown_in u) i;
    }
