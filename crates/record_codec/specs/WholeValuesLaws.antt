-- Laws: whole values: a job's and a service's.
use Rattle.std.specs.Prelude.{◌≡◌, refl, ℕ, ◌+◌, ◌*◌, ◌^◌, ◌/◌, ◌%◌, ◌<◌, List, [], ◌∷◌, ◌++◌, length, Option, Some, option_and_then}
use Rattle.std.proofs.Common.{sym, ap, subst, ◌∙◌, append_assoc, append-nil, arith, length-append}
use Rattle.std.specs.Int.{w64, to_be_bytes, byte_at, bytes_high_first}
use Rattle.kd_base.specs.Text.{IsName, padded}
use Rattle.kd_base.specs.Field.{list}
use Rattle.kd_base.specs.ToolsLaws.{some_is, and_some}
use Rattle.kdcs_types.specs.declared.key.ServiceId.{ServiceId}
use Rattle.kdcs_types.specs.declared.service.JobValue.{JobValue}
use Rattle.kdcs_types.specs.declared.service.Service.{Service}
use Rattle.record_codec.specs.Values.{counted, last_bytes, flag, lterm_bytes, lssb_bytes, service_bytes, target_bytes, times_bytes, job_bytes}
use Rattle.record_codec.specs.Fields.{AreBytes, IsShort, FitAll, name_field, list_field}
use Rattle.record_codec.specs.FieldsLaws.{IsReading, names_are_read, u64s_are_read, lists_are_read, both_are_read, counted_are_read}
use Rattle.record_codec.specs.ReadingsLaws.{turned_back, turned_there, AnyFlag, flags_are_read, lasts_are_read, targets_are_read, lterms_are_read}
use Rattle.record_codec.specs.Readings.{LastFits, TargetFits, LtermFits}
use Rattle.record_codec.specs.WholeValues.{JobFits, JobPart, job_part, job_of, job_reading, lssb_reading, LssbFits, ServiceFits, EndPart, ServicePart, end_part, service_part, service_of}
use Rattle.record_codec.specs.WholeValues.{service_reading, ended, whole}

-- ---- bytes one after another

abbrev joined : List ℕ → List (List ℕ) → List ℕ
joined a [] = a
joined a (b ∷ bs) = joined (a ++ b) bs

abbrev nested : List ℕ → List (List ℕ) → List ℕ
nested a [] = a
nested a (b ∷ bs) = a ++ nested b bs

abbrev lengths : List ℕ → List (List ℕ) → ℕ
lengths a [] = length a
lengths a (b ∷ bs) = length a + lengths b bs

nested_front : (a b : List ℕ) (bs : List (List ℕ)) → nested (a ++ b) bs ≡ a ++ nested b bs
nested_front a b [] = refl
nested_front a b (c ∷ bs) = append_assoc a b (nested c bs)

joined_nested : (a : List ℕ) (bs : List (List ℕ)) → joined a bs ≡ nested a bs
joined_nested a [] = refl
joined_nested a (b ∷ bs) = joined_nested (a ++ b) bs ∙ nested_front a b bs

nested_long : (a : List ℕ) (bs : List (List ℕ)) → length (nested a bs) ≡ lengths a bs
nested_long a [] = refl
nested_long a (b ∷ bs) = omega (arith, length-append a (nested b bs), nested_long b bs)

joined_long : (a : List ℕ) (bs : List (List ℕ)) → length (joined a bs) ≡ lengths a bs
joined_long a bs = ap length (joined_nested a bs) ∙ nested_long a bs

-- ---- jobs

abbrev part_of_job : JobValue → JobPart
part_of_job v = (v.to, (v.redelivered * 2 ^ 56 + v.due, (v.user, (v.lterm, v.message))))

abbrev job_part_bytes : JobPart → List ℕ
job_part_bytes p = target_bytes p.0 ++ (to_be_bytes w64 p.1.0 ++ (padded p.1.1.0 ++ (padded p.1.1.1.0 ++ list p.1.1.1.1)))

abbrev JobPartFits : JobPart → Type 0
JobPartFits p = TargetFits p.0 × ((p.1.0 < 2 ^ 64) × (IsName p.1.1.0 × (IsName p.1.1.1.0 × IsShort p.1.1.1.1)))

job_parts_are_read : IsReading job_part job_part_bytes JobPartFits
job_parts_are_read = both_are_read _ _ _ _ _ _ targets_are_read (both_are_read _ _ _ _ _ _ u64s_are_read (both_are_read _ _ _ _ _ _ names_are_read (both_are_read _ _ _ _ _ _ names_are_read lists_are_read)))

abbrev behind_target : JobValue → List (List ℕ)
behind_target v = times_bytes v ∷ padded v.user ∷ padded v.lterm ∷ list v.message ∷ []

-- eight bytes as one number
times_parted : (n : ℕ) → n < 2 ^ 64 → (n / 2 ^ 56) ∷ bytes_high_first 7 (n % 2 ^ 56) ≡ to_be_bytes w64 n
times_parted n h =
    let a : n / 2 ^ 56 ≡ byte_at 7 n = omega (arith, h) in
    let b : byte_at 6 (n % 2 ^ 56) ≡ byte_at 6 n = omega arith in
    let c : byte_at 5 (n % 2 ^ 56) ≡ byte_at 5 n = omega arith in
    let d : byte_at 4 (n % 2 ^ 56) ≡ byte_at 4 n = omega arith in
    let e : byte_at 3 (n % 2 ^ 56) ≡ byte_at 3 n = omega arith in
    let f : byte_at 2 (n % 2 ^ 56) ≡ byte_at 2 n = omega arith in
    let g : byte_at 1 (n % 2 ^ 56) ≡ byte_at 1 n = omega arith in
    let k : byte_at 0 (n % 2 ^ 56) ≡ byte_at 0 n = omega arith in
    λ i. a i ∷ b i ∷ c i ∷ d i ∷ e i ∷ f i ∷ g i ∷ k i ∷ []

job_parted : (p : JobPart) → p.1.0 < 2 ^ 64 → job_bytes (job_of p) ≡ job_part_bytes p
job_parted p h =
    joined_nested (target_bytes p.0) (behind_target (job_of p))
    ∙ ap (λ (l : List ℕ). target_bytes p.0 ++ (l ++ (padded p.1.1.0 ++ (padded p.1.1.1.0 ++ list p.1.1.1.1)))) (times_parted p.1.0 h)

-- the number of eight bytes says what it was made of
times_there : (v : JobValue) → JobFits v → v.redelivered * 2 ^ 56 + v.due < 2 ^ 64
times_there v fits = omega (arith, fits.redelivered, fits.due)

job_there : (v : JobValue) → JobFits v → job_of (part_of_job v) ≡ v
job_there v fits =
    let due : (v.redelivered * 2 ^ 56 + v.due) % 2 ^ 56 ≡ v.due = omega (arith, fits.due) in
    let redelivered : (v.redelivered * 2 ^ 56 + v.due) / 2 ^ 56 ≡ v.redelivered = omega (arith, fits.due) in
    λ i. record { to = v.to; due = due i; redelivered = redelivered i; user = v.user; lterm = v.lterm; message = v.message }

pub job_lengths : (v : JobValue) → length (job_bytes v) ≡ length (target_bytes v.to) + (8 + (length (padded v.user) + (length (padded v.lterm) + length (list v.message))))
job_lengths v = joined_long (target_bytes v.to) (behind_target v)

pub jobs_are_read : IsReading job_reading job_bytes JobFits
jobs_are_read = record {
  comes_back = λ v rest fits.
      let there = job_there v fits in
      let short = times_there v fits in
      ap (λ (l : List ℕ). job_reading (l ++ rest)) (ap job_bytes (sym there) ∙ job_parted (part_of_job v) short)
      ∙ turned_back job_of job_part job_part_bytes JobPartFits job_parts_are_read (part_of_job v) rest (fits.to, (short, (fits.user, (fits.lterm, fits.message))))
      ∙ ap (λ (w : JobValue). Some (w, rest)) there;
  stands_there = λ v bytes rest are e.
      let t = turned_there job_of job_part job_part_bytes JobPartFits job_parts_are_read v bytes rest are e in
      let f = t.3 in
      subst (λ (w : JobValue). (bytes ≡ job_bytes w ++ rest) × JobFits w) t.1 (t.2 ∙ ap (λ (l : List ℕ). l ++ rest) (sym (job_parted t.0 f.1.0)), record { to = f.0; due = omega arith; redelivered = omega (arith, f.1.0); user = f.1.1.0; lterm = f.1.1.1.0; message = f.1.1.1.1 });
}

-- ---- services

lssbs_one : IsReading lssb_reading lssb_bytes LssbFits
lssbs_one = both_are_read name_field list_field padded list IsName IsShort names_are_read lists_are_read

abbrev part_of_service : Service → ServicePart
part_of_service s = (s.first, (s.next, (s.awaits, (s.user, (s.lterm, (s.kb, (s.handed, (s.last, s.lssbs))))))))

abbrev end_bytes : EndPart → List ℕ
end_bytes p = counted list p.0 ++ (last_bytes p.1.0 ++ counted lssb_bytes p.1.1)

abbrev service_part_bytes : ServicePart → List ℕ
service_part_bytes p = padded p.0 ++ (padded p.1.0 ++ (flag p.1.1.0 ++ (padded p.1.1.1.0 ++ (lterm_bytes p.1.1.1.1.0 ++ (list p.1.1.1.1.1.0 ++ end_bytes p.1.1.1.1.1.1)))))

abbrev EndFits : EndPart → Type 0
EndFits p = FitAll IsShort p.0 × (LastFits p.1.0 × FitAll LssbFits p.1.1)

abbrev ServicePartFits : ServiceId → ServicePart → Type 0
ServicePartFits id p = IsName p.0 × (IsName p.1.0 × (AnyFlag p.1.1.0 × (IsName p.1.1.1.0 × (LtermFits id p.1.1.1.1.0 × (IsShort p.1.1.1.1.1.0 × EndFits p.1.1.1.1.1.1)))))

ends_are_read : IsReading end_part end_bytes EndFits
ends_are_read =
    both_are_read _ _ _ _ _ _ (counted_are_read list_field list IsShort lists_are_read)
    (both_are_read _ _ _ _ _ _ lasts_are_read (counted_are_read lssb_reading lssb_bytes LssbFits lssbs_one))

service_parts_are_read : (id : ServiceId) → IsReading (service_part id) service_part_bytes (ServicePartFits id)
service_parts_are_read id =
    both_are_read _ _ _ _ _ _ names_are_read (both_are_read _ _ _ _ _ _ names_are_read (both_are_read _ _ _ _ _ _ flags_are_read (both_are_read _ _ _ _ _ _ names_are_read
    (both_are_read _ _ _ _ _ _ (lterms_are_read id) (both_are_read _ _ _ _ _ _ lists_are_read ends_are_read)))))

abbrev pub IsServiceOf : ServiceId → Service → Type 0
IsServiceOf id s = (s.id ≡ id) × ServiceFits s

abbrev behind_first : Service → List (List ℕ)
behind_first s = padded s.next ∷ flag s.awaits ∷ padded s.user ∷ lterm_bytes s.lterm ∷ list s.kb ∷ counted list s.handed ∷ last_bytes s.last ∷ counted lssb_bytes s.lssbs ∷ []

service_parted : (id : ServiceId) (p : ServicePart) → service_bytes (service_of id p) ≡ service_part_bytes p
service_parted id p = joined_nested (padded p.0) (behind_first (service_of id p))

pub service_lengths : (s : Service) → length (service_bytes s)
    ≡ length (padded s.first) + (length (padded s.next) + (length (flag s.awaits) + (length (padded s.user) + (length (lterm_bytes s.lterm) + (length (list s.kb) + (length (counted list s.handed) + (length (last_bytes s.last) + length (counted lssb_bytes s.lssbs))))))))
service_lengths s = joined_long (padded s.first) (behind_first s)

pub services_are_read : (id : ServiceId) → IsReading (service_reading id) service_bytes (IsServiceOf id)
services_are_read id = record {
  comes_back = λ s rest is.
      let fits = is.1 in
      ap (λ (l : List ℕ). service_reading id (l ++ rest)) (service_parted s.id (part_of_service s))
      ∙ turned_back (service_of id) (service_part id) service_part_bytes (ServicePartFits id) (service_parts_are_read id) (part_of_service s) rest
      (fits.first, (fits.next, (tt, (fits.user, (subst (λ i. LtermFits i s.lterm) is.0 fits.lterm, (fits.kb, (fits.handed, (fits.last, fits.lssbs))))))))
      ∙ ap (λ i. Some (service_of i (part_of_service s), rest)) (sym is.0);
  stands_there = λ s bytes rest are e.
      let t = turned_there (service_of id) (service_part id) service_part_bytes (ServicePartFits id) (service_parts_are_read id) s bytes rest are e in
      let f = t.3 in
      subst (λ (w : Service). (bytes ≡ service_bytes w ++ rest) × IsServiceOf id w) t.1
      (t.2 ∙ ap (λ (l : List ℕ). l ++ rest) (sym (service_parted id t.0)), (refl, record { first = f.0; next = f.1.0; user = f.1.1.1.0; lterm = f.1.1.1.1.0; kb = f.1.1.1.1.1.0; handed = f.1.1.1.1.1.1.0; last = f.1.1.1.1.1.1.1.0; lssbs = f.1.1.1.1.1.1.1.1 }));
}

-- ---- nothing is left

pub whole_back : {A : Type 0} (reads : List ℕ → Option (A × List ℕ)) (of_a : A → List ℕ) (F : A → Type 0) → IsReading reads of_a F → (x : A) → F x → whole reads (of_a x) ≡ Some x
whole_back reads of_a F h x fits = ap (whole reads) (sym (append-nil (of_a x))) ∙ ap (option_and_then (λ p. ended p.0 p.1)) (h.comes_back x [] fits)

pub whole_there : {A : Type 0} (reads : List ℕ → Option (A × List ℕ)) (of_a : A → List ℕ) (F : A → Type 0) → IsReading reads of_a F → (x : A) (bytes : List ℕ) → AreBytes bytes → whole reads bytes ≡ Some x → (bytes ≡ of_a x) × F x
whole_there {A} reads of_a F h x bytes are e =
    let a = and_some (λ (p : A × List ℕ). ended p.0 p.1) (reads bytes) x e in
    by a.0.0 a.0.1 a.1 a.2
  where
    by : (y : A) (rest : List ℕ) → reads bytes ≡ Some (y, rest) → ended y rest ≡ Some x → (bytes ≡ of_a x) × F x
    by y [] e f =
        let s = h.stands_there y bytes [] are e in
        subst (λ (z : A). (bytes ≡ of_a z) × F z) (some_is y x f) (s.0 ∙ append-nil (of_a y), s.1)
    by y (b ∷ rest) e f = absurd (cc f)
