-- One call more of what is kept.
use Rattle.std.proofs.Common.{◌≡◌, ◌≢◌, ℕ, suc, ◌+◌, ◌≤◌, ◌<◌, List, [], ◌∷◌, ◌++◌, length, take, drop, get_or, set, Bool, true, false, cond}
use Rattle.std.proofs.Common.{refl, sym, ap, subst, ◌∙◌, inl, inr, arith, length-append}
use Rattle.std.specs.Prelude.{nat_eq, replicate}
use Rattle.std.proofs.lemmas.List.{take-append-le, take-take, drop-append-le, drop_at, length-drop, length-take-le, map_push, get_or-map, get_or-set_same, get_or-set_other, length-set, length-map, map-set}
use Rattle.std.proofs.lemmas.Bool.{eqb-true, eqb-false, cases_Bool}
use Rattle.std.proofs.Math.Seq.{map-set_same}
use Rattle.kd_device.specs.Device.{written}
use Rattle.kd_device.specs.declared.call.Span.{Span}
use Rattle.kd_device.specs.declared.call.Call.{Call}
use Rattle.kd_device.specs.declared.call.Call.TheVariants.{Write, Sync, Emit}
use Rattle.kd_device.specs.History.{Event, Wrote, Synced, Emitted, Disk, Moment, at_first, moved, step, after}
use Rattle.kd_device.specs.Recording.{FileNow, piece, event, events, kept_name, kept_names, Fits, IsInside, AllInside, AllFit, IsBehind}
use Rattle.kd_device.specs.Recording.{starts_of, bytes_of, ends_of, AreAsMade, IsRecording, HaveRoom, SameFiles}
use Rattle.kd_device.proofs.Grows.{after_push}

piece_same : (kept more : List ℕ) (span : Span) → Fits (length kept) span → piece (kept ++ more) span ≡ piece kept span
piece_same kept more span fits =
    ap (λ (l : List ℕ). l ++ replicate span.zeros 0)
    (ap (λ (l : List ℕ). take span.len l) (drop-append-le span.from kept more (omega (arith, fits.within)))
    ∙ take-append-le span.len (drop span.from kept) more (omega (arith, fits.within, length-drop span.from kept)))

event_same : (kept more : List ℕ) (x : Call) → IsInside (length kept) x → event (kept ++ more) x ≡ event kept x
event_same kept more (Write disk at span done) h = ap (λ (l : List ℕ). Wrote disk at l done) (piece_same kept more span h)
event_same kept more (Sync disk done) h = refl
event_same kept more (Emit span done) h = ap (λ (l : List ℕ). Emitted l done) (piece_same kept more span h)

-- what is kept, with more bytes behind it
pub events_same : (kept more : List ℕ) (calls : List Call) → AllInside (length kept) calls → events (kept ++ more) calls ≡ events kept calls
events_same kept more [] h = refl
events_same kept more (x ∷ calls) h = rw (event_same kept more x h.0, events_same kept more calls h.1) refl

pub names_same : (kept more : List ℕ) (spans : List (ℕ × Span)) → AllFit (length kept) spans → kept_names (kept ++ more) spans ≡ kept_names kept spans
names_same kept more [] h = refl
names_same kept more (x ∷ spans) h = rw (piece_same kept more x.1 h.0, names_same kept more spans h.1) refl

fits_wider : (n m : ℕ) (span : Span) → n ≤ m → Fits n span → Fits m span
fits_wider n m span le fits = record { within = omega (arith, le, fits.within); small = fits.small }

inside_wider : (n m : ℕ) (x : Call) → n ≤ m → IsInside n x → IsInside m x
inside_wider n m (Write disk at span done) le h = fits_wider n m span le h
inside_wider n m (Sync disk done) le h = tt
inside_wider n m (Emit span done) le h = fits_wider n m span le h

pub all_inside : (n m : ℕ) (calls : List Call) → n ≤ m → AllInside n calls → AllInside m calls
all_inside n m [] le h = tt
all_inside n m (x ∷ calls) le h = (inside_wider n m x le h.0, all_inside n m calls le h.1)

pub all_fit : (n m : ℕ) (spans : List (ℕ × Span)) → n ≤ m → AllFit n spans → AllFit m spans
all_fit n m [] le h = tt
all_fit n m (x ∷ spans) le h = (fits_wider n m x.1 le h.0, all_fit n m spans le h.1)

inside_push : (n : ℕ) (calls : List Call) (x : Call) → AllInside n calls → IsInside n x → AllInside n (calls ++ x ∷ [])
inside_push n [] x h i = (i, tt)
inside_push n (y ∷ calls) x h i = (h.0, inside_push n calls x h.1 i)

fit_push : (n : ℕ) (spans : List (ℕ × Span)) (x : ℕ × Span) → AllFit n spans → Fits n x.1 → AllFit n (spans ++ x ∷ [])
fit_push n [] x h i = (i, tt)
fit_push n (y ∷ spans) x h i = (h.0, fit_push n spans x h.1 i)

-- the bytes after those that were kept
pub last_piece : (kept more : List ℕ) (span : Span) → IsBehind kept more span → piece (kept ++ take span.len more) span ≡ more
last_piece kept more span behind =
    let front : List ℕ = take span.len more in
    ap (λ (n : ℕ). take span.len (drop n (kept ++ front)) ++ replicate span.zeros 0) behind.from
    ∙ ap (λ (l : List ℕ). take span.len l ++ replicate span.zeros 0) (drop_at kept front (length kept) refl)
    ∙ ap (λ (l : List ℕ). l ++ replicate span.zeros 0) (take-take span.len span.len more (omega arith))
    ∙ sym behind.zeros

pub behind_fits : (kept more : List ℕ) (span : Span) → IsBehind kept more span → Fits (length (kept ++ take span.len more)) span
behind_fits kept more span behind =
    record { within = omega (arith, behind.from, length-append kept (take span.len more), length-take-le span.len more behind.within); small = behind.small }

-- one call more
module _ (kept more : List ℕ) (calls : List Call) (spans : List (ℕ × Span)) (kept' : List ℕ) (keeps : kept' ≡ kept ++ more) (inside : AllInside (length kept) calls) (fit : AllFit (length kept) spans) where
  pub names_stay : kept_names kept' spans ≡ kept_names kept spans
  names_stay = rw keeps (names_same kept more spans fit)

  pub events_stay : events kept' calls ≡ events kept calls
  events_stay = rw keeps (events_same kept more calls inside)

  wider : length kept ≤ length kept'
  wider = rw keeps (omega (arith, length-append kept more))

  pub fit_still : AllFit (length kept') spans
  fit_still = all_fit (length kept) (length kept') spans wider fit

  pub inside_still : AllInside (length kept') calls
  inside_still = all_inside (length kept) (length kept') calls wider inside

  module _ (x : Call) (e : Event) (calls' : List Call) (adds : calls' ≡ calls ++ x ∷ []) (is : event (kept ++ more) x ≡ e) where
    pub events_are : events kept' calls' ≡ events kept calls ++ e ∷ []
    events_are = rw (adds) (map_push (event kept') calls x ∙ ap (λ (es : List Event). es ++ event kept' x ∷ []) events_stay ∙ ap (λ (y : Event). events kept calls ++ y ∷ []) (ap (λ (l : List ℕ). event l x) keeps ∙ is))

    pub kept_push : (files files' : List FileNow) (sent sent' : List ℕ) → starts_of files' ≡ starts_of files → IsInside (length kept') x
        → AreAsMade files' sent' (step (after (at_first (starts_of files)) (events kept calls)) e) → IsRecording files' sent' kept' calls' spans
    kept_push files files' sent sent' starts i made = record {
      made = rw (starts, events_are, after_push (at_first (starts_of files)) (events kept calls) e) made;
      inside = rw adds (inside_push (length kept') calls x inside_still i);
      fit = fit_still;
    }

  module _ (disk : ℕ) (name : List ℕ) (span : Span) (spans' : List (ℕ × Span)) (adds : spans' ≡ spans ++ (disk, span) ∷ []) (is : piece (kept ++ more) span ≡ name) (fits : Fits (length (kept ++ more)) span) where
    pub names_are : kept_names kept' spans' ≡ kept_names kept spans ++ (disk, name) ∷ []
    names_are = rw adds (map_push (kept_name kept') spans (disk, span) ∙ ap (λ (ns : List (ℕ × List ℕ)). ns ++ kept_name kept' (disk, span) ∷ []) names_stay ∙ ap (λ (l : List ℕ). kept_names kept spans ++ (disk, l) ∷ []) (ap (λ (l : List ℕ). piece l span) keeps ∙ is))

    pub named_push : (files : List FileNow) (sent : List ℕ) → AreAsMade files sent (after (at_first (starts_of files)) (events kept calls)) → IsRecording files sent kept' calls spans'
    named_push files sent made = record {
      made = rw events_stay made;
      inside = inside_still;
      fit = rw (adds) (fit_push (length kept') spans (disk, span) fit_still (rw keeps fits));
    }

-- after a write, or a sync, or an emit, that the files follow
pub made_sent : (files : List FileNow) (sent sent' : List ℕ) (s : Moment) (piece : List ℕ) (done : Bool) → AreAsMade files sent s → sent' ≡ cond done (sent ++ piece) sent → AreAsMade files sent' (step s (Emitted piece done))
made_sent files sent sent' s piece done h is = record { bytes_are = h.bytes_are; sent_is = is ∙ ap (λ (l : List ℕ). cond done (l ++ piece) l) h.sent_is }

synced_bytes : (b : Bool) (disk : ℕ) (done : Bool) (d : Disk) → (cond b (moved (Synced disk done) d) d).bytes ≡ d.bytes
synced_bytes true disk done d = refl
synced_bytes false disk done d = refl

pub made_synced : (files : List FileNow) (sent : List ℕ) (s : Moment) (disk : ℕ) (done : Bool) → AreAsMade files sent s → AreAsMade files sent (step s (Synced disk done))
made_synced files sent s disk done h = record { bytes_are = λ i lt. h.bytes_are i lt ∙ sym (synced_bytes (nat_eq i disk) disk done (s.disk i)); sent_is = h.sent_is }

-- a file of which the bytes were changed
module _ (files : List FileNow) (disk : ℕ) (f f' : FileNow) (files' : List FileNow) (is : files' ≡ set files disk f') (was : get_or files disk f ≡ f) (lt : disk < length files) (start : f'.start ≡ f.start) (end : f'.end ≡ f.end) where
  pub starts_stay : starts_of files' ≡ starts_of files
  starts_stay = rw is (map-set_same (λ (x : FileNow). x.start) files disk f' f (start ∙ sym (ap (λ (x : FileNow). x.start) was)))

  pub ends_stay : ends_of files' ≡ ends_of files
  ends_stay = rw is (map-set_same (λ (x : FileNow). x.end) files disk f' f (end ∙ sym (ap (λ (x : FileNow). x.end) was)))

  pub lengths_stay : length files' ≡ length files
  lengths_stay = rw is (length-set files disk f')

  bytes_set : bytes_of files' ≡ set (bytes_of files) disk f'.bytes
  bytes_set = rw is (map-set (λ (x : FileNow). x.bytes) files disk f')

  old_bytes : get_or (bytes_of files) disk [] ≡ f.bytes
  old_bytes = get_or-map (λ (x : FileNow). x.bytes) files disk f [] lt ∙ ap (λ (x : FileNow). x.bytes) was

  pub room_stays : (upto : ℕ) → HaveRoom upto files → HaveRoom upto files'
  room_stays upto h = λ i less. rw ends_stay (h i (omega (arith, less, lengths_stay)))

  pub made_wrote : (sent : List ℕ) (s : Moment) (at : ℕ) (bytes : List ℕ) (done : Bool) → AreAsMade files sent s → f'.bytes ≡ cond done (written f.bytes at bytes) f.bytes → AreAsMade files' sent (step s (Wrote disk at bytes done))
  made_wrote sent s at bytes done h now =
      let e = Wrote disk at bytes done in
      record {
        bytes_are = λ i less.
            elim (cases_Bool (nat_eq i disk)) [
              | inl on ↦
                  let at_disk : i ≡ disk = eqb-true i disk on in
                  ap (λ (l : List (List ℕ)). get_or l i []) bytes_set
                  ∙ rw at_disk (get_or-set_same (bytes_of files) disk f'.bytes [] (omega (arith, lt, length-map files (λ (x : FileNow). x.bytes))))
                  ∙ now ∙ ap (λ (b : List ℕ). cond done (written b at bytes) b) (sym old_bytes ∙ h.bytes_are disk lt)
                  ∙ sym (ap (λ (b : Bool). (cond b (moved e (s.disk i)) (s.disk i)).bytes) on ∙ ap (λ (j : ℕ). (moved e (s.disk j)).bytes) at_disk)
              | inr off ↦
                  ap (λ (l : List (List ℕ)). get_or l i []) bytes_set
                  ∙ get_or-set_other (bytes_of files) disk i f'.bytes [] (λ same. eqb-false i disk off same)
                  ∙ h.bytes_are i (omega (arith, less, lengths_stay))
                  ∙ sym (ap (λ (b : Bool). (cond b (moved e (s.disk i)) (s.disk i)).bytes) off)
            ];
        sent_is = h.sent_is;
      }

-- a file among them
pub start_at : (files : List FileNow) (disk : ℕ) (f : FileNow) → disk < length files → get_or files disk f ≡ f → get_or (starts_of files) disk [] ≡ f.start
start_at files disk f lt was = get_or-map (λ (x : FileNow). x.start) files disk f [] lt ∙ ap (λ (x : FileNow). x.start) was

pub end_at : (files : List FileNow) (disk : ℕ) (f : FileNow) → disk < length files → get_or files disk f ≡ f → get_or (ends_of files) disk 0 ≡ f.end
end_at files disk f lt was = get_or-map (λ (x : FileNow). x.end) files disk f 0 lt ∙ ap (λ (x : FileNow). x.end) was

-- one file after another
module _ (old files files' : List FileNow) (i : ℕ) (f f' : FileNow) (same : SameFiles old files) (is : files' ≡ set files i f') (was : get_or files i f ≡ f) (lt : i < length files) (start : f'.start ≡ f.start) (bytes : f'.bytes ≡ f.bytes) (grows : f.end ≤ f'.end) where
  ends_set : ends_of files' ≡ set (ends_of files) i f'.end
  ends_set = rw is (map-set (λ (x : FileNow). x.end) files i f')

  end_same : get_or (ends_of files') i 0 ≡ f'.end
  end_same = ap (λ (l : List ℕ). get_or l i 0) ends_set ∙ get_or-set_same (ends_of files) i f'.end 0 (omega (arith, lt, length-map files (λ (x : FileNow). x.end)))

  end_other : (k : ℕ) → k ≢ i → get_or (ends_of files') k 0 ≡ get_or (ends_of files) k 0
  end_other k ne = ap (λ (l : List ℕ). get_or l k 0) ends_set ∙ get_or-set_other (ends_of files) i k f'.end 0 ne

  by_place : (P : ℕ → Type 0) (k : ℕ) → P i → (k ≢ i → P k) → P k
  by_place P k here there =
      elim (cases_Bool (nat_eq k i)) [
        | inl on ↦ subst P (sym (eqb-true k i on)) here
        | inr off ↦ there (λ e. eqb-false k i off e)
      ]

  pub reserved_one : SameFiles old files'
  reserved_one = record {
    count = rw is (length-set files i f') ∙ same.count;
    starts = rw is (map-set_same (λ (x : FileNow). x.start) files i f' f (start ∙ sym (ap (λ (x : FileNow). x.start) was))) ∙ same.starts;
    bytes = rw is (map-set_same (λ (x : FileNow). x.bytes) files i f' f (bytes ∙ sym (ap (λ (x : FileNow). x.bytes) was))) ∙ same.bytes;
    ends = λ k. by_place (λ j. get_or (ends_of old) j 0 ≤ get_or (ends_of files') j 0) k
        (omega (arith, same.ends i, end_at files i f lt was, grows, end_same))
        (λ ne. omega (arith, same.ends k, end_other k ne));
  }

  pub room_one : (end : ℕ) → end ≤ f'.end → ((k : ℕ) → k < i → end ≤ get_or (ends_of files) k 0) → (k : ℕ) → k < i + 1 → end ≤ get_or (ends_of files') k 0
  room_one end reach h k less = by_place (λ j. j < i + 1 → end ≤ get_or (ends_of files') j 0) k (λ _. omega (arith, reach, end_same)) (λ ne less. omega (arith, h k (omega (arith, less, ne)), end_other k ne)) less

pointwise : (xs ys : List (List ℕ)) → length xs ≡ length ys → ((i : ℕ) → i < length xs → get_or xs i [] ≡ get_or ys i []) → xs ≡ ys
pointwise [] [] len h = refl
pointwise [] (y ∷ ys) len h = absurd (omega (arith, len))
pointwise (x ∷ xs) [] len h = absurd (omega (arith, len))
pointwise (x ∷ xs) (y ∷ ys) len h = rw (h 0 (omega arith), pointwise xs ys (omega (arith, len)) (λ i lt. h (suc i) (omega (arith, lt)))) refl

-- one disk more, before the first call
pub added : (files : List FileNow) (f : FileNow) (files' : List FileNow) (sent kept : List ℕ) (calls : List Call) (spans : List (ℕ × Span)) → files' ≡ files ++ f ∷ [] → events kept calls ≡ [] → f.bytes ≡ f.start
    → IsRecording files sent kept calls spans → IsRecording files' sent kept calls spans
added files f files' sent kept calls spans is none first k =
    let made : AreAsMade files sent (at_first (starts_of files)) = subst (λ (es : List Event). AreAsMade files sent (after (at_first (starts_of files)) es)) none k.made in
    let all : bytes_of files ≡ starts_of files =
    pointwise (bytes_of files) (starts_of files) (omega (arith, length-map files (λ (x : FileNow). x.bytes), length-map files (λ (x : FileNow). x.start))) (λ i lt. made.bytes_are i (omega (arith, lt, length-map files (λ (x : FileNow). x.bytes)))) in
    let now : bytes_of files' ≡ starts_of files' =
    rw is (map_push (λ (x : FileNow). x.bytes) files f ∙ ap (λ (l : List (List ℕ)). l ++ f.bytes ∷ []) all ∙ ap (λ (b : List ℕ). starts_of files ++ b ∷ []) first ∙ sym (map_push (λ (x : FileNow). x.start) files f)) in
    record {
      made = rw none (record { bytes_are = λ i less. ap (λ (l : List (List ℕ)). get_or l i []) now; sent_is = made.sent_is });
      inside = k.inside;
      fit = k.fit;
    }
