-- Images that are read, and images that are written.
use Rattle.std.proofs.Common.{◌≡◌, ℕ, ◌%◌, ◌<◌, ◌≤◌, Bool, true, ◌&&◌, eqb, ltb, List, ◌++◌, length, take, drop, get_or, Option, Some, None, refl, sym, ap, subst, ◌∙◌, arith, append_assoc}
use Rattle.std.proofs.Common.{length-append}
use Rattle.std.specs.Prelude.{codes}
use Rattle.std.specs.List.{flat_map}
use Rattle.std.specs.Int.{w32, w64, to_be_bytes}
use Rattle.std.specs.Str.{bytes_eq}
use Rattle.std.specs.Option.{option_map, option_and_then}
use Rattle.std.proofs.lemmas.Bool.{ltb-false, le-ltb, eqb-true, eq-eqb, and_parts, and_from, cond-true, cond-false}
use Rattle.std.proofs.lemmas.Slice.Eq.{bytes_eq-Decides}
use Rattle.std.proofs.lemmas.Option.{none-some, same_Some}
use Rattle.std.proofs.lemmas.List.{take-take, take_at, drop_at, take-append-drop, get_or-take, length-take, length-drop}
use Rattle.kd_records.specs.declared.content.Content.{Content}
use Rattle.kd_records.specs.Contents.{Record, IsContent}
use Rattle.kd_records.specs.Identity.{Identity, IsIdentity}
use Rattle.device_tests.specs.declared.whole_store.head.Head.{Head}
use Rattle.device_tests.specs.declared.whole_store.image.Root.{Root}
use Rattle.device_tests.specs.Opened.{Opened, identity_of, content_in}
use Rattle.device_tests.specs.File.{Stands, IsNoImage, OneMeaning, root, spelled_record, spelled, place, image_size}
use Rattle.kdcfile_layout.specs.Fields.{AreBytes, number}
use Rattle.device_tests.specs.Reading.{HasSizes, head_of, is_root, root_with, root_of, records_of, image_of, size_of, place_of}
use Rattle.kdcfile_layout.specs.FieldsLaws.{after, field, parted, read_4, read_8, small_8, small_4, written_4, written_8, length_piece, AreBytes_drop}
use Rattle.kdcfile_layout.specs.TestsLaws.{unless, when}
use Rattle.device_tests.specs.HeadsLaws.{Headed, head_written, head_read}
use Rattle.device_tests.specs.ReadRecordsLaws.{records_written, records_read}
use Rattle.kd_base.specs.ToolsLaws.{and_some, map_some}

regrouped : (a b c d e f g h : List ℕ) → ((((((a ++ b) ++ c) ++ d) ++ e) ++ f) ++ g) ++ h ≡ a ++ (b ++ (c ++ (d ++ (e ++ (f ++ (g ++ h))))))
regrouped a b c d e f g h = simp append_assoc

joined : (w a b c d e f g : List ℕ) → w ≡ a ++ drop 32 w → drop 32 w ≡ b ++ drop 40 w → drop 40 w ≡ c ++ drop 48 w → drop 48 w ≡ d ++ drop 52 w → drop 52 w ≡ e ++ drop 56 w → drop 56 w ≡ f ++ drop 60 w → drop 60 w ≡ g ++ drop 64 w
    → w ≡ ((((((a ++ b) ++ c) ++ d) ++ e) ++ f) ++ g) ++ drop 64 w
joined w a b c d e f g h0 h1 h2 h3 h4 h5 h6 =
    h0
    ∙ ap (λ (l : List ℕ). a ++ l) (h1 ∙ ap (λ (l : List ℕ). b ++ l) (h2 ∙ ap (λ (l : List ℕ). c ++ l) (h3 ∙ ap (λ (l : List ℕ). d ++ l) (h4 ∙ ap (λ (l : List ℕ). e ++ l) (h5 ∙ ap (λ (l : List ℕ). f ++ l) h6)))))
    ∙ sym (regrouped a b c d e f g (drop 64 w))

-- the fields of a root
record Fields (whole : List ℕ) (i : Identity) (x : Content) (body : List ℕ) : Type 0 where
  fingerprint : take 32 whole ≡ i.fingerprint
  clock : number w64 32 whole ≡ x.clock
  next_job : number w64 40 whole ≡ x.next_job
  pages : number w32 48 whole ≡ i.pages
  directory : number w32 52 whole ≡ 0
  count : number w32 56 whole ≡ length x.items
  mark : take 4 (drop 60 whole) ≡ codes "ROOT"
  behind : drop 64 whole ≡ body
  long : 64 ≤ length whole

fields_of : (i : Identity) (x : Content) (body : List ℕ) → IsIdentity i → IsContent x → Fields (root i x ++ body) i x body
fields_of i x body is content =
    let whole : List ℕ = root i x ++ body in
    let f : List ℕ = i.fingerprint in
    let c : List ℕ = to_be_bytes w64 x.clock in
    let j : List ℕ = to_be_bytes w64 x.next_job in
    let p : List ℕ = to_be_bytes w32 i.pages in
    let d : List ℕ = to_be_bytes w32 0 in
    let n : List ℕ = to_be_bytes w32 (length x.items) in
    let m : List ℕ = codes "ROOT" in
    let all : root i x ++ body ≡ f ++ (c ++ (j ++ (p ++ (d ++ (n ++ (m ++ body)))))) = regrouped f c j p d n m body in
    let at_32 : drop 32 (root i x ++ body) ≡ c ++ (j ++ (p ++ (d ++ (n ++ (m ++ body))))) = ap (λ (l : List ℕ). drop 32 l) all ∙ drop_at f (c ++ (j ++ (p ++ (d ++ (n ++ (m ++ body)))))) 32 is.fingerprint in
    let at_40 : drop 40 (root i x ++ body) ≡ j ++ (p ++ (d ++ (n ++ (m ++ body)))) = after (root i x ++ body) c (j ++ (p ++ (d ++ (n ++ (m ++ body))))) 32 8 at_32 refl in
    let at_48 : drop 48 (root i x ++ body) ≡ p ++ (d ++ (n ++ (m ++ body))) = after (root i x ++ body) j (p ++ (d ++ (n ++ (m ++ body)))) 40 8 at_40 refl in
    let at_52 : drop 52 (root i x ++ body) ≡ d ++ (n ++ (m ++ body)) = after (root i x ++ body) p (d ++ (n ++ (m ++ body))) 48 4 at_48 refl in
    let at_56 : drop 56 (root i x ++ body) ≡ n ++ (m ++ body) = after (root i x ++ body) d (n ++ (m ++ body)) 52 4 at_52 refl in
    let at_60 : drop 60 (root i x ++ body) ≡ m ++ body = after (root i x ++ body) n (m ++ body) 56 4 at_56 refl in
    record {
      fingerprint = ap (λ (l : List ℕ). take 32 l) all ∙ take_at f (c ++ (j ++ (p ++ (d ++ (n ++ (m ++ body)))))) 32 is.fingerprint;
      clock = written_8 (root i x ++ body) (j ++ (p ++ (d ++ (n ++ (m ++ body))))) 32 x.clock at_32 content.clock;
      next_job = written_8 (root i x ++ body) (p ++ (d ++ (n ++ (m ++ body)))) 40 x.next_job at_40 content.next_job;
      pages = written_4 (root i x ++ body) (d ++ (n ++ (m ++ body))) 48 i.pages at_48 (omega (arith, is.most));
      directory = written_4 (root i x ++ body) (n ++ (m ++ body)) 52 0 at_52 (omega arith);
      count = written_4 (root i x ++ body) (m ++ body) 56 (length x.items) at_56 content.few;
      mark = field (root i x ++ body) m body 60 4 at_60 refl;
      behind = after (root i x ++ body) m body 60 4 at_60 refl;
      long = omega (arith, ap (λ (l : List ℕ). length l) at_60, length-drop 60 (root i x ++ body), length-append m body);
    }

-- the root of a content
abbrev pub root_made : Identity → Content → Root
root_made i x = record { fingerprint = i.fingerprint; clock = x.clock; next_job = x.next_job; pgpool = i.pages; records = length x.items }

root_written : (whole : List ℕ) (i : Identity) (x : Content) (body : List ℕ) → Fields whole i x body → root_of i.pages whole ≡ Some (root_made i x)
root_written whole i x body f =
    cond-false (ltb (length whole) 64) _ _ (le-ltb (length whole) 64 f.long)
    ∙ cond-true (is_root i.pages whole) _ _
    (and_from _ _ (and_from _ _ (eq-eqb (number w32 48 whole) i.pages f.pages) (eq-eqb (number w32 52 whole) 0 f.directory)) ((bytes_eq-Decides (take 4 (drop 60 whole)) (codes "ROOT")).1 f.mark))
    ∙ same f.fingerprint f.clock f.next_job f.count
  where
    same : {a b : List ℕ} {c d j k m n : ℕ} → a ≡ b → c ≡ d → j ≡ k → m ≡ n
        → ◌≡◌ {A = Option Root} (Some (record { fingerprint = a; clock = c; next_job = j; pgpool = i.pages; records = m })) (Some (record { fingerprint = b; clock = d; next_job = k; pgpool = i.pages; records = n }))
    same p q s t = λ z. Some (record { fingerprint = p z; clock = q z; next_job = s z; pgpool = i.pages; records = t z })

-- what is known of a file, from what it was made with
abbrev pub opened : Identity → Content → Bool → Opened
opened i x second = record { blksize = i.blksize; root = root_made i x; second = second }

abbrev pub head_made : Identity → Bool → Head
head_made i second = record { blksize = i.blksize; pages = i.pages; second = second }

abbrev pub records_in : Head → List ℕ → Root → Option (Opened × List Record)
records_in h image r = option_map (λ items. (record { blksize = h.blksize; root = r; second = h.second }, items)) (records_of None r.records (drop 64 image))

image_written : (i : Identity) (x : Content) (second : Bool) (tail : List ℕ) → IsIdentity i → IsContent x → image_of (head_made i second) (spelled i x ++ tail) ≡ Some (opened i x second, x.items)
image_written i x second tail is content =
    let body : List ℕ = flat_map spelled_record x.items ++ tail in
    let f = fields_of i x (flat_map spelled_record x.items ++ tail) is content in
    ap (λ (l : List ℕ). image_of (head_made i second) l) (append_assoc (root i x) (flat_map spelled_record x.items) tail)
    ∙ ap (λ (o : Option Root). option_and_then (λ r. records_in (head_made i second) (root i x ++ (flat_map spelled_record x.items ++ tail)) r) o) (root_written (root i x ++ (flat_map spelled_record x.items ++ tail)) i x (flat_map spelled_record x.items ++ tail) f)
    ∙ ap (λ (l : List ℕ). option_map (λ (items : List Record). (opened i x second, items)) (records_of None (length x.items) l)) f.behind
    ∙ ap (λ (o : Option (List Record)). option_map (λ (items : List Record). (opened i x second, items)) o) (records_written None x.items tail content.records content.ascending tt)

-- an image that was read, with the bytes that it stands on
record ReadImage (h : Head) (image : List ℕ) (o : Opened) (items : List Record) : Type 0 where
  of_head : ◌≡◌ {A = Head} (record { blksize = o.blksize; pages = o.root.pgpool; second = o.second }) h
  identity : IsIdentity (identity_of o)
  content : IsContent (content_in o.root items)
  stands : (tail : List ℕ) × (image ≡ spelled (identity_of o) (content_in o.root items) ++ tail)

image_made : (h : Head) (image : List ℕ) (items : List Record) → HasSizes h.blksize h.pages → AreBytes image → 64 ≤ length image → is_root h.pages image ≡ true → records_of None (number w32 56 image) (drop 64 image) ≡ Some items
    → ReadImage h image (record { blksize = h.blksize; root = root_with h.pages image; second = h.second }) items
image_made h image items sizes bytes long passes found =
    let rs = records_read None (number w32 56 image) (drop 64 image) items (AreBytes_drop 64 image bytes) found in
    let tests = and_parts (eqb (number w32 48 image) h.pages && eqb (number w32 52 image) 0) (bytes_eq (take 4 (drop 60 image)) (codes "ROOT")) passes in
    let numbers = and_parts (eqb (number w32 48 image) h.pages) (eqb (number w32 52 image) 0) tests.0 in
    let pages : number w32 48 image ≡ h.pages = eqb-true (number w32 48 image) h.pages numbers.0 in
    let directory : number w32 52 image ≡ 0 = eqb-true (number w32 52 image) 0 numbers.1 in
    let mark : take 4 (drop 60 image) ≡ codes "ROOT" = (bytes_eq-Decides (take 4 (drop 60 image)) (codes "ROOT")).0 tests.1 in
    let whole =
    joined image (take 32 image) (to_be_bytes w64 (number w64 32 image)) (to_be_bytes w64 (number w64 40 image)) (to_be_bytes w32 h.pages) (to_be_bytes w32 0) (to_be_bytes w32 (length items)) (codes "ROOT")
    (sym (take-append-drop 32 image))
    (parted 32 8 image ∙ ap (λ (l : List ℕ). l ++ drop 40 image) (sym (read_8 32 image bytes (omega (arith, long)))))
    (parted 40 8 image ∙ ap (λ (l : List ℕ). l ++ drop 48 image) (sym (read_8 40 image bytes (omega (arith, long)))))
    (parted 48 4 image ∙ ap (λ (l : List ℕ). l ++ drop 52 image) (sym (read_4 48 image bytes (omega (arith, long))) ∙ ap (λ (n : ℕ). to_be_bytes w32 n) pages))
    (parted 52 4 image ∙ ap (λ (l : List ℕ). l ++ drop 56 image) (sym (read_4 52 image bytes (omega (arith, long))) ∙ ap (λ (n : ℕ). to_be_bytes w32 n) directory))
    (parted 56 4 image ∙ ap (λ (l : List ℕ). l ++ drop 60 image) (sym (read_4 56 image bytes (omega (arith, long))) ∙ ap (λ (n : ℕ). to_be_bytes w32 n) (sym rs.count)))
    (parted 60 4 image ∙ ap (λ (l : List ℕ). l ++ drop 64 image) mark) in
    let i : Identity = record { blksize = h.blksize; pages = h.pages; fingerprint = take 32 image } in
    let x : Content = record { clock = number w64 32 image; next_job = number w64 40 image; items = items } in
    record {
      of_head = refl;
      identity = record { blksize = sizes.size; least = sizes.least; most = sizes.most; fingerprint = length_piece 0 32 image (omega (arith, long)) };
      content = record {
        clock = small_8 32 image bytes;
        next_job = small_8 40 image bytes;
        records = rs.fit;
        ascending = rs.ascending;
        few = omega (arith, rs.count, small_4 56 image bytes);
      };
      stands = (rs.spelled.0, whole ∙ ap (λ (l : List ℕ). root i x ++ l) rs.spelled.1 ∙ sym (append_assoc (root i x) (flat_map spelled_record items) rs.spelled.0));
    }

image_read : (h : Head) (image : List ℕ) (o : Opened) (items : List Record) → HasSizes h.blksize h.pages → AreBytes image → image_of h image ≡ Some (o, items) → ReadImage h image o items
image_read h image o items sizes bytes e =
    let found = and_some (λ r. records_in h image r) (root_of h.pages image) (o, items) e in
    let long = unless (ltb (length image) 64) _ found.0 found.1 in
    let passes = when (is_root h.pages image) _ found.0 long.1 in
    let r_is : root_with h.pages image ≡ found.0 = same_Some (root_with h.pages image) found.0 passes.1 in
    let Q : Root → Type 0 = λ r. records_in h image r ≡ Some (o, items) in
    let more = map_some (λ (l : List Record). (record { blksize = h.blksize; root = root_with h.pages image; second = h.second }, l)) (records_of None (number w32 56 image) (drop 64 image)) (o, items) (subst Q (sym r_is) found.2) in
    let P : Opened × List Record → Type 0 = λ p. ReadImage h image p.0 p.1 in
    subst P more.2 (image_made h image more.0 sizes bytes (ltb-false (length image) 64 long.0) passes.0 more.1)

-- the bytes of a file
some_spelled : (i : Identity) (x : Content) → IsIdentity i → IsContent x → 0 < length (spelled i x)
some_spelled i x is content = omega (arith, (fields_of i x (flat_map spelled_record x.items) is content).long)

file_head : (i : Identity) (x : Content) (second : Bool) (bytes : List ℕ) → Stands i second x bytes → head_of (take 4097 bytes) ≡ Some (head_made i second)
file_head i x second bytes stands = head_written i x second bytes (some_spelled i x stands.identity stands.content) stands

abbrev pub image_in : Head → List ℕ → List ℕ
image_in h bytes = take (size_of h) (drop (place_of h) bytes)

-- bytes that were read by these numbers, from a file that has not changed
pub image_taken : (h : Head) (holds now taken slice : List ℕ) (at len : ℕ) → slice ≡ taken → taken ≡ take len (drop at now) → len ≡ size_of h → at ≡ place_of h → now ≡ holds → slice ≡ image_in h holds
image_taken h holds now taken slice at len same read len_is at_is now_is =
    same ∙ read ∙ ap (λ (n : ℕ). take n (drop at now)) len_is ∙ ap (λ (n : ℕ). take (size_of h) (drop n now)) at_is ∙ ap (λ (l : List ℕ). take (size_of h) (drop (place_of h) l)) now_is

file_image : (i : Identity) (x : Content) (second : Bool) (bytes : List ℕ) → Stands i second x bytes → image_of (head_made i second) (image_in (head_made i second) bytes) ≡ Some (opened i x second, x.items)
file_image i x second bytes stands =
    let s : List ℕ = spelled i x in
    let image : List ℕ = take (image_size i) (drop (place i second) bytes) in
    let begins : take (length (spelled i x)) (take (image_size i) (drop (place i second) bytes)) ≡ spelled i x = take-take (length (spelled i x)) (image_size i) (drop (place i second) bytes) stands.inside ∙ stands.image in
    ap (λ (l : List ℕ). image_of (head_made i second) l) (sym (take-append-drop (length (spelled i x)) image) ∙ ap (λ (l : List ℕ). l ++ drop (length (spelled i x)) image) begins)
    ∙ image_written i x second (drop (length (spelled i x)) image) stands.identity stands.content

pub one_meaning : OneMeaning
one_meaning i j x y bytes (s, a) (t, b) =
    let heads : head_made i s ≡ head_made j t = same_Some (head_made i s) (head_made j t) (sym (file_head i x s bytes a) ∙ file_head j y t bytes b) in
    let images : (opened i x s, x.items) ≡ (opened j y t, y.items) =
    same_Some (opened i x s, x.items) (opened j y t, y.items) (sym (file_image i x s bytes a) ∙ ap (λ (h : Head). image_of h (image_in h bytes)) heads ∙ file_image j y t bytes b) in
    (ap (λ (p : Opened × List Record). identity_of p.0) images, ap (λ (p : Opened × List Record). content_in p.0.root p.1) images)

-- what is read of a file, against what it holds
module _ (holds front : List ℕ) (front_is : front ≡ take 4097 (drop 0 holds)) where
  pub no_head : head_of front ≡ None → IsNoImage holds
  no_head e i x (second, stands) = none-some (head_made i second) (sym e ∙ ap head_of front_is ∙ file_head i x second holds stands)

  module _ (h : Head) (head_is : head_of front ≡ Some h) (image : List ℕ) (image_is : image ≡ take (size_of h) (drop (place_of h) holds)) where
    pub no_image : image_of h image ≡ None → IsNoImage holds
    no_image e i x (second, stands) =
        let same : h ≡ head_made i second = same_Some h (head_made i second) (sym head_is ∙ ap head_of front_is ∙ file_head i x second holds stands) in
        none-some (opened i x second, x.items) (sym e ∙ ap (λ (l : List ℕ). image_of h l) image_is ∙ ap (λ (g : Head). image_of g (image_in g holds)) same ∙ file_image i x second holds stands)

    pub stands_read : AreBytes front → AreBytes image → (o : Opened) (items : List Record) → image_of h image ≡ Some (o, items) → Stands (identity_of o) o.second (content_in o.root items) holds
    stands_read front_bytes image_bytes o items e =
        let headed = head_read front h front_bytes head_is in
        let read = image_read h image o items headed.sizes image_bytes e in
        let P : Head → Type 0 = λ g. Headed g front × (image ≡ take (size_of g) (drop (place_of g) holds)) in
        let known = subst P (sym read.of_head) (headed, image_is) in
        stands_of holds front front_is o items image known.0 known.1 read.identity read.content read.stands.0 read.stands.1
      where
        stands_of : (holds front : List ℕ) → front ≡ take 4097 (drop 0 holds) → (o : Opened) (items : List Record) (image : List ℕ) → Headed (record { blksize = o.blksize; pages = o.root.pgpool; second = o.second }) front
            → image ≡ take (image_size (identity_of o)) (drop (place (identity_of o) o.second) holds) → IsIdentity (identity_of o) → IsContent (content_in o.root items) → (tail : List ℕ) → image ≡ spelled (identity_of o) (content_in o.root items) ++ tail
            → Stands (identity_of o) o.second (content_in o.root items) holds
        stands_of holds front front_is o items image headed image_is identity content tail spelled_is =
            let len : length (spelled (identity_of o) (content_in o.root items)) ≤ image_size (identity_of o) =
            omega (arith, ap (λ (l : List ℕ). length l) image_is, ap (λ (l : List ℕ). length l) spelled_is, length-append (spelled (identity_of o) (content_in o.root items)) tail, length-take (image_size (identity_of o)) (drop (place (identity_of o) o.second) holds)) in
            record {
              identity = identity;
              content = content;
              headed = sym (take-take 17 4097 holds (omega arith)) ∙ ap (λ (l : List ℕ). take 17 l) (sym front_is) ∙ headed.first;
              selected = ap (λ (n : ℕ). n % 2) (sym (get_or-take 4097 holds 4096 0 (omega arith)) ∙ ap (λ (l : List ℕ). get_or l 4096 0) (sym front_is)) ∙ headed.selected;
              image =
                  sym (take-take (length (spelled (identity_of o) (content_in o.root items))) (image_size (identity_of o)) (drop (place (identity_of o) o.second) holds) len)
                  ∙ ap (λ (l : List ℕ). take (length (spelled (identity_of o) (content_in o.root items))) l) (sym image_is ∙ spelled_is)
                  ∙ take_at (spelled (identity_of o) (content_in o.root items)) tail (length (spelled (identity_of o) (content_in o.root items))) refl;
              inside = len;
            }
