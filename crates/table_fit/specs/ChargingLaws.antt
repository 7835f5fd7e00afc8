-- Laws: rows that suit have short values, and what they leave of a page pool.
use Rattle.std.specs.Prelude.{◌≡◌, refl, ℕ, ◌+◌, ◌-◌, ◌*◌, ◌^◌, ◌<◌, ◌≤◌, Bool, true, false, ◌&&◌, cond, IsTrue, List, [], ◌∷◌, length, sum_by, nat_le, Option, Some, None, SomeIff, All}
use Rattle.std.proofs.Common.{arith, ap, sym, subst, ◌∙◌, true≢false}
use Rattle.std.proofs.Math.Nat.{mul-le-mul_left, mul-le-mul_right}
use Rattle.std.proofs.lemmas.Bool.{le-leb, lt-leb, leb-true, leb-false, eqb-true}
use Rattle.std.proofs.lemmas.List.Elements.{All-nil, All-cons, All-weaker}
use Rattle.std.proofs.lemmas.List.Sums.{sum_by-cons, AllPass-from_list_all, list_all-from_AllPass}
use Rattle.std.specs.List.{list_all}
use Rattle.kd_base.specs.ToolsLaws.{both_true}
use Rattle.kd_records.specs.Charge.{IsBlockSize}
use Rattle.kd_records.specs.ChargeLaws.{block_from, block_upto, charge_covers}
use Rattle.kdcs_types.specs.declared.service.Job.{Job}
use Rattle.kdcs_types.specs.declared.service.JobValue.{JobValue}
use Rattle.kdcs_types.specs.declared.service.Service.{Service}
use Rattle.kdcs_types.specs.Tables.{TableRows}
use Rattle.application_types.specs.Generation.{Generated, has_tls, has_uls}
use Rattle.application_types.specs.Soundness.{AreLimits}
use Rattle.abstract_monitor.specs.Bytes.{Bytes}
use Rattle.abstract_monitor.specs.Calls.{job_target}
use Rattle.abstract_monitor.specs.Charges.{charge_of, job_length, last_length, service_length, total_charge}
use Rattle.laws_of_states.specs.Suits.{Suits, fits_content, fits_message, gssb_suits, is_lterm, is_user, job_suits, last_fits, service_suits, target_name, target_suits, tls_suits, uls_suits}
use Rattle.laws_of_states.specs.Suits.{value_suits}
use Rattle.table_fit.specs.SmallLaws.{small_short}
use Rattle.table_fit.specs.Charging.{RowsSuit, AreShort, most_bytes, has_few_bytes, left_after}

-- ---- values are short

pub content_short : (content : Bytes) → IsTrue (fits_content content) → length content < 2 ^ 32
content_short content h = omega (arith, leb-true (length content) 32767 h)

last_small : (g : Generated) → AreLimits g.limits → (last : Option Bytes) → IsTrue (last_fits g last) → last_length last ≤ 32705
last_small g limits None h = omega arith
last_small g limits (Some message) h = omega (arith, leb-true (length message) g.limits.nb h, limits.nb)

pub service_short : (g : Generated) → AreLimits g.limits → (s : Service) → IsTrue (service_suits g s) → service_length s < 2 ^ 32
service_short g limits s h =
    let bytes = both_true _ _ h in
    let count = both_true _ _ bytes.0 in
    let last = both_true _ _ count.0 in
    let awaits = both_true _ _ last.0 in
    let lssbs = both_true _ _ awaits.0 in
    let sorted = both_true _ _ lssbs.0 in
    let few = both_true _ _ sorted.0 in
    let kb = both_true _ _ few.0 in
    small_short s (record {
      kb = omega (arith, eqb-true (length s.kb) g.limits.kb kb.1, limits.kb);
      count = leb-true (length s.handed) 16 count.1;
      handed = omega (arith, leb-true (sum_by length s.handed) g.limits.nb bytes.1, limits.nb);
      last = last_small g limits s.last last.1;
      lssbs_count = omega (arith, leb-true (length s.lssbs) g.limits.lssbs few.1, limits.lssbs);
      lssbs = lssbs.1;
    })

pub job_short : (g : Generated) → AreLimits g.limits → (j : Job) → IsTrue (job_suits g j) → job_length j.value < 2 ^ 32
job_short g limits j h =
    let parts = both_true (value_suits g j.value && fits_message g j.value.message) (target_suits g j.value.to (job_target g (target_name j.value.to))) h in
    omega (arith, leb-true (length j.value.message) g.limits.nb (both_true (value_suits g j.value) (fits_message g j.value.message) parts.0).1, limits.nb)

short_by : {X : Type 0} (p : X → Bool) (f : X → ℕ) → ((x : X) → IsTrue (p x) → f x < 2 ^ 32) → (xs : List X) → IsTrue (list_all p xs) → All (λ x. f x < 2 ^ 32) xs
short_by p f to xs h = All-weaker (λ x. p x ≡ true) (λ x. f x < 2 ^ 32) to xs (AllPass-from_list_all p xs h)

-- rows that suit are short, where the shown messages are
pub rows_short : (g : Generated) (t : TableRows) → AreLimits g.limits → RowsSuit g t → IsTrue (list_all has_few_bytes t.shown) → AreShort t
rows_short g t limits h few = record {
  gssbs = short_by gssb_suits (λ (r : Bytes × Bytes). length r.1) (λ r k. content_short r.1 k) t.gssbs h.gssbs;
  tlss = short_by (tls_suits g) (λ (r : Bytes × Bytes × Bytes). length r.2) (λ r k. content_short r.2 (both_true (has_tls g r.0 && is_lterm g r.1) (fits_content r.2) k).1) t.tlss h.tlss;
  ulss = short_by (uls_suits g) (λ (r : Bytes × Bytes × Bytes). length r.2) (λ r k. content_short r.2 (both_true (has_uls g r.0 && is_user g r.1) (fits_content r.2) k).1) t.ulss h.ulss;
  services = short_by (service_suits g) service_length (service_short g limits) t.services h.services;
  jobs = short_by (job_suits g) (λ (j : Job). job_length j.value) (job_short g limits) t.jobs h.jobs;
  shown = short_by has_few_bytes (λ (r : Bytes × JobValue). job_length r.1) (λ r k. omega (arith, leb-true (length r.1.message) most_bytes k)) t.shown few;
}

-- ---- a message that is not short takes more pages than there are

each_in : {X : Type 0} (f : X → ℕ) (xs : List X) → All (λ x. f x ≤ sum_by f xs) xs
each_in f [] = All-nil (λ x. f x ≤ sum_by f [])
each_in f (x ∷ xs) =
    All-cons (λ y. f y ≤ sum_by f (x ∷ xs)) x xs (omega (arith, sum_by-cons f x xs))
    (All-weaker (λ y. f y ≤ sum_by f xs) (λ y. f y ≤ sum_by f (x ∷ xs)) (λ y h. omega (arith, h, sum_by-cons f x xs)) xs (each_in f xs))

few_by : (block n c : ℕ) → 29 + n ≤ c * block → c ≤ 30000 → block ≤ 8192 → n ≤ most_bytes
few_by block n c h few upto = omega (arith, mul-le-mul_left c upto, mul-le-mul_right 8192 few)

message_few : (block c : ℕ) (r : Bytes × JobValue) → IsBlockSize block → charge_of block (job_length r.1) ≤ c → c ≤ 30000 → has_few_bytes r ≡ true
message_few block c r is h most =
    let n = job_length r.1 in
    let few : n ≤ most_bytes = few_by block n (charge_of block n) (charge_covers block n (block_from block is)) (omega (arith, h, most)) (block_upto block is) in
    le-leb (length r.1.message) most_bytes (omega (arith, few))

pub shown_few : (block pages : ℕ) (t : TableRows) → IsBlockSize block → pages ≤ 30000 → total_charge block t ≤ pages → IsTrue (list_all has_few_bytes t.shown)
unfolding total_charge
shown_few block pages t is most within =
    let one : Bytes × JobValue → ℕ = λ r. charge_of block (job_length r.1) in
    list_all-from_AllPass has_few_bytes t.shown
    (All-weaker (λ r. one r ≤ sum_by one t.shown) (λ r. has_few_bytes r ≡ true)
    (λ r h. message_few block (sum_by one t.shown) r is h (omega (arith, within, most)))
    t.shown (each_in one t.shown))

-- so such rows are charged too much
pub charged_too_much : (g : Generated) (t : TableRows) → AreLimits g.limits → list_all has_few_bytes t.shown ≡ false → false ≡ nat_le (total_charge g.limits.blksize t) g.limits.pgpool
charged_too_much g t limits none = by (nat_le (total_charge g.limits.blksize t) g.limits.pgpool) refl
  where
    by : (b : Bool) → nat_le (total_charge g.limits.blksize t) g.limits.pgpool ≡ b → false ≡ b
    by true e =
        absurd (true≢false (sym (shown_few g.limits.blksize g.limits.pgpool t limits.blksize (omega (arith, limits.pgpool)) (leb-true (total_charge g.limits.blksize t) g.limits.pgpool e)) ∙ none))
    by false e = refl

-- the rows of tables that suit are short
pub suiting_short : (g : Generated) (t : TableRows) → AreLimits g.limits → Suits g t → AreShort t
suiting_short g t limits s =
    rows_short g t limits
    (record { count = s.count; gssbs = s.gssbs; tlss = s.tlss; ulss = s.ulss; services = s.services; durable = s.durable; jobs = s.jobs; shown = s.shown })
    (shown_few g.limits.blksize g.limits.pgpool t limits.blksize (omega (arith, limits.pgpool)) s.charge)

-- ---- what is left of the pages

is_left : (o : Option ℕ) (pages taken : ℕ) → o ≡ left_after (Some pages) taken → SomeIff o (taken ≤ pages) (pages - taken)
is_left o pages taken e = subst (λ (x : Option ℕ). SomeIff x (taken ≤ pages) (pages - taken)) (sym e) (by (nat_le taken pages) refl)
  where
    by : (b : Bool) → nat_le taken pages ≡ b → SomeIff (cond b (Some (pages - taken)) None) (taken ≤ pages) (pages - taken)
    by true e = (leb-true taken pages e, refl)
    by false e = λ h. true≢false (sym (le-leb taken pages h) ∙ e)

both_left : (pages a b : ℕ) → left_after (left_after (Some pages) a) b ≡ left_after (Some pages) (a + b)
both_left pages a b = by (nat_le a pages) refl
  where
    less : (c : Bool) → nat_le b (pages - a) ≡ c → a ≤ pages → cond c (Some (pages - a - b)) None ≡ left_after (Some pages) (a + b)
    less true e h =
        ap (λ (n : ℕ). Some n) (omega (arith, h, leb-true b (pages - a) e))
        ∙ ap (λ (c : Bool). cond c (Some (pages - (a + b))) None) (sym (le-leb (a + b) pages (omega (arith, h, leb-true b (pages - a) e))))
    less false e h = ap (λ (c : Bool). cond c (Some (pages - (a + b))) None) (sym (lt-leb (a + b) pages (omega (arith, h, leb-false b (pages - a) e))))

    by : (c : Bool) → nat_le a pages ≡ c → left_after (cond c (Some (pages - a)) None) b ≡ left_after (Some pages) (a + b)
    by true e = less (nat_le b (pages - a)) refl (leb-true a pages e)
    by false e = ap (λ (c : Bool). cond c (Some (pages - (a + b))) None) (sym (lt-leb (a + b) pages (omega (arith, leb-false a pages e))))

more_left : (pages a b : ℕ) (o p : Option ℕ) → o ≡ left_after (Some pages) a → p ≡ left_after o b → p ≡ left_after (Some pages) (a + b)
more_left pages a b o p e f = f ∙ ap (λ (x : Option ℕ). left_after x b) e ∙ both_left pages a b

pub all_left : (pages a b c d e f : ℕ) (m n o p q r : Option ℕ) → m ≡ left_after (Some pages) a → n ≡ left_after m b → o ≡ left_after n c → p ≡ left_after o d → q ≡ left_after p e → r ≡ left_after q f
    → SomeIff r (a + b + c + d + e + f ≤ pages) (pages - (a + b + c + d + e + f))
all_left pages a b c d e f m n o p q r h1 h2 h3 h4 h5 h6 =
    is_left r pages (a + b + c + d + e + f)
    (more_left pages (a + b + c + d + e) f q r (more_left pages (a + b + c + d) e p q (more_left pages (a + b + c) d o p (more_left pages (a + b) c n o (more_left pages a b m n h1 h2) h3) h4) h5) h6)
