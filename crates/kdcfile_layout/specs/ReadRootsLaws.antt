-- What a root and the numbers after it say, and what is written there.
use Rattle.std.proofs.Common.{◌≡◌, ℕ, zero, suc, ◌<◌, ◌≤◌, ◌^◌, ◌&&◌, eqb, leb, ltb, List, [], ◌∷◌, ◌++◌, length, take, drop, Option, Some, refl, sym, ap, subst, ◌∙◌, arith, append_assoc}
use Rattle.std.proofs.Common.{length-append}
use Rattle.std.specs.Prelude.{codes, All}
use Rattle.std.specs.List.{flat_map}
use Rattle.std.specs.Int.{w32, w64, to_be_bytes}
use Rattle.std.specs.Str.{bytes_eq}
use Rattle.std.specs.Option.{option_map}
use Rattle.std.proofs.lemmas.Bool.{ltb-false, le-ltb, le-leb, eqb-true, eq-eqb, and_parts, and_from, cond-true, cond-false}
use Rattle.std.proofs.lemmas.Slice.Eq.{bytes_eq-Decides}
use Rattle.std.proofs.lemmas.Option.{same_Some}
use Rattle.std.proofs.lemmas.List.{append-nil, take_at, drop_at, drop_all, take-append-drop, length-drop}
use Rattle.std.proofs.lemmas.List.Elements.{All-head, All-tail}
use Rattle.kd_base.specs.ToolsLaws.{map_some}
use Rattle.kd_records.specs.declared.content.Content.{Content}
use Rattle.kd_records.specs.Contents.{IsContent}
use Rattle.kd_records.specs.Identity.{Identity, IsIdentity}
use Rattle.kdcfile_layout.specs.Fields.{AreBytes, number}
use Rattle.kdcfile_layout.specs.FieldsLaws.{after, field, parted, read_4, read_8, written_4, written_8, AreBytes_drop}
use Rattle.kdcfile_layout.specs.TestsLaws.{unless, when}
use Rattle.kdcfile_layout.specs.Layout.{directory_pages}
use Rattle.kdcfile_layout.specs.declared.kdcfile_read.root.RootFields.{RootFields}
use Rattle.kdcfile_layout.specs.Reading.{is_pool, is_root, fields_of, root_of, numbers_of}
use Rattle.kdcfile_layout.specs.Reads.{fields_in}

-- ---- the root

-- a root without the numbers of the directory's pages, of which there are so many
abbrev pub front_of_root : Identity → Content → ℕ → List ℕ
front_of_root i x n =
    i.fingerprint ++ to_be_bytes w64 x.clock ++ to_be_bytes w64 x.next_job ++ to_be_bytes w32 i.pages ++ to_be_bytes w32 n ++ to_be_bytes w32 (length x.items) ++ codes "ROOT"

grouped : (a b c d e f g : List ℕ) → (((((a ++ b) ++ c) ++ d) ++ e) ++ f) ++ g ≡ a ++ (b ++ (c ++ (d ++ (e ++ (f ++ (g ++ []))))))
grouped a b c d e f g = regrouped ∙ ap (λ (l : List ℕ). a ++ (b ++ (c ++ (d ++ (e ++ (f ++ l)))))) (sym (append-nil g))
  where
    regrouped : (((((a ++ b) ++ c) ++ d) ++ e) ++ f) ++ g ≡ a ++ (b ++ (c ++ (d ++ (e ++ (f ++ g)))))
    regrouped = simp append_assoc

joined : (w a b c d e f g : List ℕ) → w ≡ a ++ drop 32 w → drop 32 w ≡ b ++ drop 40 w → drop 40 w ≡ c ++ drop 48 w → drop 48 w ≡ d ++ drop 52 w → drop 52 w ≡ e ++ drop 56 w → drop 56 w ≡ f ++ drop 60 w → drop 60 w ≡ g ++ []
    → w ≡ (((((a ++ b) ++ c) ++ d) ++ e) ++ f) ++ g
joined w a b c d e f g h0 h1 h2 h3 h4 h5 h6 =
    h0
    ∙ ap (λ (l : List ℕ). a ++ l) (h1 ∙ ap (λ (l : List ℕ). b ++ l) (h2 ∙ ap (λ (l : List ℕ). c ++ l) (h3 ∙ ap (λ (l : List ℕ). d ++ l) (h4 ∙ ap (λ (l : List ℕ). e ++ l) (h5 ∙ ap (λ (l : List ℕ). f ++ l) h6)))))
    ∙ sym (grouped a b c d e f g)

-- the fields of a root
record Fields (whole : List ℕ) (i : Identity) (x : Content) (n : ℕ) : Type 0 where
  fingerprint : take 32 whole ≡ i.fingerprint
  clock : number w64 32 whole ≡ x.clock
  next_job : number w64 40 whole ≡ x.next_job
  pages : number w32 48 whole ≡ i.pages
  directory : number w32 52 whole ≡ n
  count : number w32 56 whole ≡ length x.items
  mark : take 4 (drop 60 whole) ≡ codes "ROOT"
  long : length whole ≡ 64

fields_written : (i : Identity) (x : Content) (n : ℕ) → IsIdentity i → IsContent x → n < 2 ^ 32 → Fields (front_of_root i x n) i x n
fields_written i x n is content small =
    let whole : List ℕ = front_of_root i x n in
    let f : List ℕ = i.fingerprint in
    let c : List ℕ = to_be_bytes w64 x.clock in
    let j : List ℕ = to_be_bytes w64 x.next_job in
    let p : List ℕ = to_be_bytes w32 i.pages in
    let d : List ℕ = to_be_bytes w32 n in
    let r : List ℕ = to_be_bytes w32 (length x.items) in
    let m : List ℕ = codes "ROOT" in
    let all : front_of_root i x n ≡ f ++ (c ++ (j ++ (p ++ (d ++ (r ++ (m ++ [])))))) = grouped f c j p d r m in
    let at_32 : drop 32 (front_of_root i x n) ≡ c ++ (j ++ (p ++ (d ++ (r ++ (m ++ []))))) = ap (λ (l : List ℕ). drop 32 l) all ∙ drop_at f (c ++ (j ++ (p ++ (d ++ (r ++ (m ++ [])))))) 32 is.fingerprint in
    let at_40 : drop 40 (front_of_root i x n) ≡ j ++ (p ++ (d ++ (r ++ (m ++ [])))) = after (front_of_root i x n) c (j ++ (p ++ (d ++ (r ++ (m ++ []))))) 32 8 at_32 refl in
    let at_48 : drop 48 (front_of_root i x n) ≡ p ++ (d ++ (r ++ (m ++ []))) = after (front_of_root i x n) j (p ++ (d ++ (r ++ (m ++ [])))) 40 8 at_40 refl in
    let at_52 : drop 52 (front_of_root i x n) ≡ d ++ (r ++ (m ++ [])) = after (front_of_root i x n) p (d ++ (r ++ (m ++ []))) 48 4 at_48 refl in
    let at_56 : drop 56 (front_of_root i x n) ≡ r ++ (m ++ []) = after (front_of_root i x n) d (r ++ (m ++ [])) 52 4 at_52 refl in
    let at_60 : drop 60 (front_of_root i x n) ≡ m ++ [] = after (front_of_root i x n) r (m ++ []) 56 4 at_56 refl in
    record {
      fingerprint = ap (λ (l : List ℕ). take 32 l) all ∙ take_at f (c ++ (j ++ (p ++ (d ++ (r ++ (m ++ [])))))) 32 is.fingerprint;
      clock = written_8 (front_of_root i x n) (j ++ (p ++ (d ++ (r ++ (m ++ []))))) 32 x.clock at_32 content.clock;
      next_job = written_8 (front_of_root i x n) (p ++ (d ++ (r ++ (m ++ [])))) 40 x.next_job at_40 content.next_job;
      pages = written_4 (front_of_root i x n) (d ++ (r ++ (m ++ []))) 48 i.pages at_48 (omega (arith, is.most));
      directory = written_4 (front_of_root i x n) (r ++ (m ++ [])) 52 n at_52 small;
      count = written_4 (front_of_root i x n) (m ++ []) 56 (length x.items) at_56 content.few;
      mark = field (front_of_root i x n) m [] 60 4 at_60 refl;
      long = omega (arith, ap (λ (l : List ℕ). length l) at_60, length-drop 60 (front_of_root i x n));
    }

pub length_front_of_root : (i : Identity) (x : Content) (n : ℕ) → IsIdentity i → IsContent x → n < 2 ^ 32 → length (front_of_root i x n) ≡ 64
length_front_of_root i x n is content small = (fields_written i x n is content small).long

-- a root that is written is read
pub root_written : (i : Identity) (x : Content) → IsIdentity i → IsContent x → directory_pages i.blksize i.pages < 2 ^ 32 → root_of i.blksize (front_of_root i x (directory_pages i.blksize i.pages)) ≡ Some (fields_in i x)
root_written i x is content small = passes (front_of_root i x (directory_pages i.blksize i.pages)) (fields_written i x (directory_pages i.blksize i.pages) is content small)
  where
    same : {a b : List ℕ} {c d j k m n p q : ℕ} → a ≡ b → c ≡ d → j ≡ k → p ≡ q → m ≡ n
        → ◌≡◌ {A = Option RootFields} (Some (record { fingerprint = a; clock = c; next_job = j; pgpool = p; records = m })) (Some (record { fingerprint = b; clock = d; next_job = k; pgpool = q; records = n }))
    same f c j p r = λ z. Some (record { fingerprint = f z; clock = c z; next_job = j z; pgpool = p z; records = r z })

    passes : (whole : List ℕ) → Fields whole i x (directory_pages i.blksize i.pages) → root_of i.blksize whole ≡ Some (fields_in i x)
    passes whole f =
        let pool : ℕ = number w32 48 whole in
        cond-false (ltb (length whole) 64) _ _ (le-ltb (length whole) 64 (omega (arith, f.long)))
        ∙ cond-true (is_root i.blksize whole) _ _
        (and_from (is_pool (number w32 48 whole) && eqb (number w32 52 whole) (directory_pages i.blksize (number w32 48 whole))) (bytes_eq (take 4 (drop 60 whole)) (codes "ROOT"))
        (and_from (is_pool (number w32 48 whole)) (eqb (number w32 52 whole) (directory_pages i.blksize (number w32 48 whole)))
        (and_from (leb 16 (number w32 48 whole)) (leb (number w32 48 whole) 30000) (le-leb 16 (number w32 48 whole) (omega (arith, f.pages, is.least))) (le-leb (number w32 48 whole) 30000 (omega (arith, f.pages, is.most))))
        (eq-eqb (number w32 52 whole) (directory_pages i.blksize (number w32 48 whole)) (f.directory ∙ ap (λ (p : ℕ). directory_pages i.blksize p) (sym f.pages))))
        ((bytes_eq-Decides (take 4 (drop 60 whole)) (codes "ROOT")).1 f.mark))
        ∙ same f.fingerprint f.clock f.next_job f.pages f.count

-- a root that is read is written so
pub root_read : (i : Identity) (x : Content) (whole : List ℕ) → AreBytes whole → length whole ≤ 64 → root_of i.blksize whole ≡ Some (fields_in i x) → whole ≡ front_of_root i x (directory_pages i.blksize i.pages)
root_read i x whole bytes short e =
    let long = unless (ltb (length whole) 64) _ (fields_in i x) e in
    let passes = when (is_root i.blksize whole) (Some (fields_of whole)) (fields_in i x) long.1 in
    let tests = and_parts (is_pool (number w32 48 whole) && eqb (number w32 52 whole) (directory_pages i.blksize (number w32 48 whole))) (bytes_eq (take 4 (drop 60 whole)) (codes "ROOT")) passes.0 in
    let sizes = and_parts (is_pool (number w32 48 whole)) (eqb (number w32 52 whole) (directory_pages i.blksize (number w32 48 whole))) tests.0 in
    made (ltb-false (length whole) 64 long.0) ((bytes_eq-Decides (take 4 (drop 60 whole)) (codes "ROOT")).0 tests.1) (eqb-true (number w32 52 whole) (directory_pages i.blksize (number w32 48 whole)) sizes.1) (same_Some (fields_of whole) (fields_in i x) passes.1)
  where
    made : 64 ≤ length whole → take 4 (drop 60 whole) ≡ codes "ROOT" → number w32 52 whole ≡ directory_pages i.blksize (number w32 48 whole) → fields_of whole ≡ fields_in i x → whole ≡ front_of_root i x (directory_pages i.blksize i.pages)
    made long mark directory is =
        let pages : number w32 48 whole ≡ i.pages = ap (λ (r : RootFields). r.pgpool) is in
        joined whole i.fingerprint (to_be_bytes w64 x.clock) (to_be_bytes w64 x.next_job) (to_be_bytes w32 i.pages) (to_be_bytes w32 (directory_pages i.blksize i.pages)) (to_be_bytes w32 (length x.items)) (codes "ROOT")
        (sym (take-append-drop 32 whole) ∙ ap (λ (l : List ℕ). l ++ drop 32 whole) (ap (λ (r : RootFields). r.fingerprint) is))
        (parted 32 8 whole ∙ ap (λ (l : List ℕ). l ++ drop 40 whole) (sym (read_8 32 whole bytes (omega (arith, long))) ∙ ap (λ (r : RootFields). to_be_bytes w64 r.clock) is))
        (parted 40 8 whole ∙ ap (λ (l : List ℕ). l ++ drop 48 whole) (sym (read_8 40 whole bytes (omega (arith, long))) ∙ ap (λ (r : RootFields). to_be_bytes w64 r.next_job) is))
        (parted 48 4 whole ∙ ap (λ (l : List ℕ). l ++ drop 52 whole) (sym (read_4 48 whole bytes (omega (arith, long))) ∙ ap (λ (n : ℕ). to_be_bytes w32 n) pages))
        (parted 52 4 whole ∙ ap (λ (l : List ℕ). l ++ drop 56 whole) (sym (read_4 52 whole bytes (omega (arith, long))) ∙ ap (λ (n : ℕ). to_be_bytes w32 n) (directory ∙ ap (λ (p : ℕ). directory_pages i.blksize p) pages)))
        (parted 56 4 whole ∙ ap (λ (l : List ℕ). l ++ drop 60 whole) (sym (read_4 56 whole bytes (omega (arith, long))) ∙ ap (λ (r : RootFields). to_be_bytes w32 r.records) is))
        (parted 60 4 whole ∙ ap (λ (l : List ℕ). l ++ drop 64 whole) mark ∙ ap (λ (l : List ℕ). codes "ROOT" ++ l) (drop_all 64 whole short))

-- ---- the numbers of the directory's pages

pub a_number : (n : ℕ) (bytes : List ℕ) → 4 ≤ length bytes → numbers_of (suc n) bytes ≡ option_map (λ (ps : List ℕ). number w32 0 bytes ∷ ps) (numbers_of n (drop 4 bytes))
unfolding numbers_of
a_number n bytes le = cond-false (ltb (length bytes) 4) _ _ (le-ltb (length bytes) 4 le)

abbrev pub spelled_numbers : List ℕ → List ℕ
spelled_numbers ps = flat_map (λ (p : ℕ). to_be_bytes w32 p) ps

-- numbers that are written are read
pub numbers_written : (ps tail : List ℕ) → All (λ (p : ℕ). p < 2 ^ 32) ps → numbers_of (length ps) (spelled_numbers ps ++ tail) ≡ Some ps
unfolding numbers_of
numbers_written [] tail small = refl
numbers_written (p ∷ ps) tail small =
    let rest = spelled_numbers ps ++ tail in
    let whole = to_be_bytes w32 p ++ rest in
    ap (λ (l : List ℕ). numbers_of (suc (length ps)) l) (append_assoc (to_be_bytes w32 p) (spelled_numbers ps) tail)
    ∙ a_number (length ps) whole (omega (arith, length-append (to_be_bytes w32 p) rest))
    ∙ ap (λ (m : ℕ). option_map (λ (qs : List ℕ). m ∷ qs) (numbers_of (length ps) (drop 4 whole))) (written_4 whole rest 0 p refl (All-head (λ (q : ℕ). q < 2 ^ 32) p ps small))
    ∙ ap (λ (l : List ℕ). option_map (λ (qs : List ℕ). p ∷ qs) (numbers_of (length ps) l)) (drop_at (to_be_bytes w32 p) rest 4 refl)
    ∙ ap (λ (o : Option (List ℕ)). option_map (λ (qs : List ℕ). p ∷ qs) o) (numbers_written ps tail (All-tail (λ (q : ℕ). q < 2 ^ 32) p ps small))

-- numbers that are read are written so
pub numbers_read : (n : ℕ) (bytes ps : List ℕ) → AreBytes bytes → numbers_of n bytes ≡ Some ps → (length ps ≡ n) × ((tail : List ℕ) × (bytes ≡ spelled_numbers ps ++ tail))
unfolding numbers_of
numbers_read zero bytes ps are e =
    let P : List ℕ → Type 0 = λ l. (length l ≡ 0) × ((tail : List ℕ) × (bytes ≡ spelled_numbers l ++ tail)) in
    subst P (same_Some [] ps e) (refl, (bytes, refl))
numbers_read (suc n) bytes ps are e =
    let long = unless (ltb (length bytes) 4) (option_map (λ (qs : List ℕ). number w32 0 bytes ∷ qs) (numbers_of n (drop 4 bytes))) ps e in
    let found = map_some (λ (qs : List ℕ). number w32 0 bytes ∷ qs) (numbers_of n (drop 4 bytes)) ps long.1 in
    let rest = numbers_read n (drop 4 bytes) found.0 (AreBytes_drop 4 bytes are) found.1 in
    let P : List ℕ → Type 0 = λ l. (length l ≡ suc n) × ((tail : List ℕ) × (bytes ≡ spelled_numbers l ++ tail)) in
    subst P found.2 (
      ap suc rest.0,
      (
        rest.1.0,
        parted 0 4 bytes
            ∙ ap (λ (l : List ℕ). l ++ drop 4 bytes) (sym (read_4 0 bytes are (omega (arith, ltb-false (length bytes) 4 long.0))))
            ∙ ap (λ (l : List ℕ). to_be_bytes w32 (number w32 0 bytes) ++ l) rest.1.1
            ∙ sym (append_assoc (to_be_bytes w32 (number w32 0 bytes)) (spelled_numbers found.0) rest.1.0),
      ),
    )
