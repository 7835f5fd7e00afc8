-- Laws of copies: their bytes have one meaning, one of two counts, and the next patch makes the next one.
use Rattle.std.specs.Prelude.{◌≡◌, ◌≢◌, ◌<◌, ◌+◌, ◌^◌, ℕ, Bool, true, false, cond, not, IsTrue, List, [], ◌∷◌, length, Option, Some, None, All}
use Rattle.std.proofs.Common.{refl, sym, ◌∙◌, ap, subst, inl, inr, arith}
use Rattle.std.specs.Int.{w64, to_be_bytes, from_be_bytes}
use Rattle.std.specs.Option.{unwrap_or}
use Rattle.std.specs.Ordering.{eq_by_cmp, is_eq}
use Rattle.std.specs.declared.cmp.Ordering.{Ordering}
use Rattle.std.specs.declared.cmp.Ordering.TheVariants.{Less, Equal, Greater}
use Rattle.std.specs.Cmp.{Equal-is}
use Rattle.std.specs.FinMap.{find, put, is_sorted}
use Rattle.std.specs.FinMap.Entries.{by_order, find-put, is_sorted-put, same_entries}
use Rattle.std.proofs.lemmas.Cmp.{tied_itself}
use Rattle.std.proofs.lemmas.List.{take_all}
use Rattle.std.proofs.lemmas.List.Elements.{All-nil, All-cons, All-head, All-tail}
use Rattle.std.proofs.lemmas.List.Sums.{sum_by-cons}
use Rattle.std.proofs.lemmas.Nat.{from_be_bytes-to_be_bytes_8}
use Rattle.kd_base.specs.OrderLaws.{holds, is_true}
use Rattle.kd_base.specs.ToolsLaws.{some_is}
use Rattle.kd_base.specs.Places.{without as others}
use Rattle.kd_base.specs.PlacesLaws.{find_without, left_sorted}
use Rattle.kd_records.specs.declared.content.Content.{Content}
use Rattle.kd_records.specs.declared.content.Patch.{Patch}
use Rattle.kd_records.specs.declared.key.RecordKey.{RecordKey}
use Rattle.kd_records.specs.Charge.{IsBlockSize, charge_of, total_charge}
use Rattle.kd_records.specs.Contents.{Record, Change, patched, IsKey, IsPatch}
use Rattle.kd_records.specs.ContentLaws.{patch_says_what_is_found, patch_keeps_order}
use Rattle.kd_records.specs.Identity.{Identity}
use Rattle.kd_records.specs.KeyLaws.{key_total, same_key}
use Rattle.kd_records.specs.Keys.{key_cmp}
use Rattle.kdcfile_layout.specs.Fields.{AreBytes, number}
use Rattle.kdcfile_layout.specs.FieldsLaws.{read_8}
use Rattle.kdcfile_layout.specs.Layout.{StandsFor, fresh}
use Rattle.kdcfile_layout.specs.ReadFilesLaws.{one_meaning}
use Rattle.kdcfile_store.specs.Paged.{Paged, HasFile}
use Rattle.kdcfile_copies.specs.Copies.{IsBare, HasSequence, IsCopyOf, IsNoCopy, sequence_key, sequence_value, with_sequence, bare, next_patch, sequence_alone}
use Rattle.kdcfile_copies.specs.Keeping.{CopyKeeps}
use Rattle.kdcfile_copies.specs.Statements.{OneMeaningOfCopies, OneIsChosen, NoRivalIsChosen, NoImageIsNoCopy, ImagesAreCopies, OthersAreNoCopies, NextPatchMakesNext, PatchKeepsBare}
use Rattle.kdcfile_copies.specs.Statements.{SequenceIsOnePage}

pub some_none : {A : Type 0} {x : A} → Some x ≡ None → ⊥
some_none e = absurd cc

-- ---- the key

kind_is : sequence_key.kind ≡ 7
unfolding sequence_key
kind_is = refl

pub sequence_is_key : IsKey sequence_key
unfolding sequence_key
sequence_is_key = record { kind_from_one = omega arith; kind_is_byte = omega arith; key_length = refl }

pub length_sequence_value : (n : ℕ) → length (sequence_value n) ≡ 8
unfolding sequence_value
length_sequence_value n = refl

-- eight bytes are the value of the number that they spell
pub eight_bytes : (bytes : List ℕ) (n : ℕ) → AreBytes bytes → length bytes ≡ 8 → n ≡ number w64 0 bytes → bytes ≡ sequence_value n
unfolding sequence_value
eight_bytes bytes n are long is = sym (ap (to_be_bytes w64) is ∙ read_8 0 bytes are (omega (arith, long)) ∙ take_all 8 bytes (omega (arith, long)))

-- ---- a key that is not there, and one that is put in

module _ {X : Type 0} (k : RecordKey) where
  absent_others : (es : List (RecordKey × X)) → find key_cmp k es ≡ None → others key_cmp k es ≡ es
  absent_others [] h = refl
  absent_others (e ∷ es) h = by (eq_by_cmp key_cmp k e.0) h (absent_others es)
    where
      by : (b : Bool) → cond b (Some e.1) (find key_cmp k es) ≡ None → (find key_cmp k es ≡ None → others key_cmp k es ≡ es) → cond (not b) (e ∷ others key_cmp k es) (others key_cmp k es) ≡ e ∷ es
      by true is rest = absurd cc
      by false is rest = ap (λ (l : List (RecordKey × X)). e ∷ l) (rest is)

  -- where a key was not there, it is taken out again
  new_others : (v : X) (es : List (RecordKey × X)) → find key_cmp k es ≡ None → others key_cmp k (put key_cmp k v es) ≡ es
  new_others v [] h = ap (λ r. cond (not (is_eq r)) ((k, v) ∷ []) []) (tied_itself key_total k)
  new_others v (e ∷ es) h = by (key_cmp k e.0) refl (new_others v es)
    where
      by : (o : Ordering) → key_cmp k e.0 ≡ o → (find key_cmp k es ≡ None → others key_cmp k (put key_cmp k v es) ≡ es) → others key_cmp k (by_order o ((k, v) ∷ e ∷ es) ((e.0, v) ∷ es) (e ∷ put key_cmp k v es)) ≡ e ∷ es
      by Less t rest = ap (λ r. cond (not (is_eq r)) ((k, v) ∷ others key_cmp k (e ∷ es)) (others key_cmp k (e ∷ es))) (tied_itself key_total k) ∙ absent_others (e ∷ es) h
      by Equal t rest = absurd (some_none (sym (ap (λ r. cond (is_eq r) (Some e.1) (find key_cmp k es)) t) ∙ h))
      by Greater t rest =
          ap (λ r. cond (not (is_eq r)) (e ∷ others key_cmp k (put key_cmp k v es)) (others key_cmp k (put key_cmp k v es))) t
          ∙ ap (λ (l : List (RecordKey × X)). e ∷ l) (rest (sym (ap (λ r. cond (is_eq r) (Some e.1) (find key_cmp k es)) t) ∙ h))

  put_found : (v : X) (es : List (RecordKey × X)) → find key_cmp k (put key_cmp k v es) ≡ Some v
  put_found v es = find-put key_cmp key_total k k v es ∙ ap (λ r. cond (is_eq r) (Some v) (find key_cmp k es)) (tied_itself key_total k)

  others_absent : (es : List (RecordKey × X)) → find key_cmp k (others key_cmp k es) ≡ None
  others_absent es = find_without key_cmp key_total k k es ∙ ap (λ r. cond (is_eq r) None (find key_cmp k es)) (tied_itself key_total k)

  -- a key that is there is put in again
  put_back : (v : X) (es : List (RecordKey × X)) → IsTrue (is_sorted key_cmp es) → find key_cmp k es ≡ Some v → put key_cmp k v (others key_cmp k es) ≡ es
  put_back v es up found =
      same_entries key_cmp key_total same_key (put key_cmp k v (others key_cmp k es)) es (is_sorted-put key_cmp key_total k v (others key_cmp k es) (holds _ (left_sorted key_cmp k es up))) (holds _ up)
      (λ q. find-put key_cmp key_total q k v (others key_cmp k es) ∙ ap (cond (eq_by_cmp key_cmp q k) (Some v)) (find_without key_cmp key_total q k es) ∙ by q (eq_by_cmp key_cmp q k) refl)
    where
      by : (q : RecordKey) (b : Bool) → eq_by_cmp key_cmp q k ≡ b → cond b (Some v) (cond b None (find key_cmp q es)) ≡ find key_cmp q es
      by q true e = sym found ∙ ap (λ j. find key_cmp j es) (sym (same_key q k ((Equal-is (key_cmp q k)).0 e)))
      by q false e = refl

  keys_put : (v : X) (es : List (RecordKey × X)) → IsKey k → All (λ (e : RecordKey × X). IsKey e.0) es → All (λ (e : RecordKey × X). IsKey e.0) (put key_cmp k v es)
  keys_put v [] is h = All-cons (λ (e : RecordKey × X). IsKey e.0) (k, v) [] is (All-nil (λ (e : RecordKey × X). IsKey e.0))
  keys_put v (e ∷ es) is h = by (keys_put v es is (All-tail (λ (e : RecordKey × X). IsKey e.0) e es h)) (key_cmp k e.0)
    where
      by : All (λ (e : RecordKey × X). IsKey e.0) (put key_cmp k v es) → (o : Ordering) → All (λ (e : RecordKey × X). IsKey e.0) (by_order o ((k, v) ∷ e ∷ es) ((e.0, v) ∷ es) (e ∷ put key_cmp k v es))
      by rest Less = All-cons (λ (e : RecordKey × X). IsKey e.0) (k, v) (e ∷ es) is h
      by rest Equal = All-cons (λ (e : RecordKey × X). IsKey e.0) (e.0, v) es (All-head (λ (e : RecordKey × X). IsKey e.0) e es h) (All-tail (λ (e : RecordKey × X). IsKey e.0) e es h)
      by rest Greater = All-cons (λ (e : RecordKey × X). IsKey e.0) e (put key_cmp k v es) (All-head (λ (e : RecordKey × X). IsKey e.0) e es h) rest

-- ---- charges

more : (a b c d e f : ℕ) → a ≡ b + c → d ≡ b + e → c ≡ e + f → a ≡ d + f
more a b c d e f p q r = omega arith

put_charged : (size : ℕ) (k : RecordKey) (v : List ℕ) (es : List Record) → find key_cmp k es ≡ None → total_charge size (put key_cmp k v es) ≡ total_charge size es + charge_of size (length v)
put_charged size k v [] h = sum_by-cons (λ (r : Record). charge_of size (length r.1)) (k, v) [] ∙ omega arith
put_charged size k v (e ∷ es) h = by (key_cmp k e.0) refl (put_charged size k v es)
  where
    pages : Record → ℕ
    pages r = charge_of size (length r.1)

    by : (o : Ordering) → key_cmp k e.0 ≡ o → (find key_cmp k es ≡ None → total_charge size (put key_cmp k v es) ≡ total_charge size es + charge_of size (length v)) → total_charge size (by_order o ((k, v) ∷ e ∷ es) ((e.0, v) ∷ es) (e ∷ put key_cmp k v es)) ≡ total_charge size (e ∷ es) + charge_of size (length v)
    by Less t rest = turn (charge_of size (length v)) (total_charge size (e ∷ es)) _ (sum_by-cons (λ (r : Record). charge_of size (length r.1)) (k, v) (e ∷ es))
      where
        turn : (a b c : ℕ) → c ≡ a + b → c ≡ b + a
        turn a b c p = omega arith
    by Equal t rest = absurd (some_none (sym (ap (λ r. cond (is_eq r) (Some e.1) (find key_cmp k es)) t) ∙ h))
    by Greater t rest =
        more _ (charge_of size (length e.1)) _ _ (total_charge size es) (charge_of size (length v)) (sum_by-cons (λ (r : Record). charge_of size (length r.1)) e (put key_cmp k v es)) (sum_by-cons (λ (r : Record). charge_of size (length r.1)) e es)
        (rest (sym (ap (λ r. cond (is_eq r) (Some e.1) (find key_cmp k es)) t) ∙ h))

eight_charged : (size : ℕ) → IsBlockSize size → charge_of size 8 ≡ 1
eight_charged size h = elim h [ inl e ↦ ap (λ s. charge_of s 8) e | inr h ↦ elim h [ inl e ↦ ap (λ s. charge_of s 8) e | inr e ↦ ap (λ s. charge_of s 8) e ] ]

pub sequence_is_one_page : SequenceIsOnePage
sequence_is_one_page size n x is none = put_charged size sequence_key (sequence_value n) x.items none ∙ ap (λ (l : ℕ). total_charge size x.items + charge_of size l) (length_sequence_value n) ∙ ap (λ (c : ℕ). total_charge size x.items + c) (eight_charged size is)

-- ---- a content with its sequence, and without it

pub sequence_found : (n : ℕ) (x : Content) → find key_cmp sequence_key (with_sequence n x).items ≡ Some (sequence_value n)
sequence_found n x = put_found sequence_key (sequence_value n) x.items

pub bare_is_bare : (y : Content) → IsBare (bare y)
bare_is_bare y = others_absent sequence_key y.items

pub bare_with_sequence : (n : ℕ) (x : Content) → IsBare x → bare (with_sequence n x) ≡ x
bare_with_sequence n x none = λ i. record { clock = x.clock; next_job = x.next_job; items = new_others sequence_key (sequence_value n) x.items none i }

pub with_sequence_bare : (n : ℕ) (y : Content) → IsTrue (is_sorted key_cmp y.items) → HasSequence n y → with_sequence n (bare y) ≡ y
with_sequence_bare n y up has = λ i. record { clock = y.clock; next_job = y.next_job; items = put_back sequence_key (sequence_value n) y.items up has.found i }

pub same_sequence : (n m : ℕ) → n < 2 ^ 64 → m < 2 ^ 64 → sequence_value n ≡ sequence_value m → n ≡ m
unfolding sequence_value
same_sequence n m small few e = sym (from_be_bytes-to_be_bytes_8 n small) ∙ ap (from_be_bytes w64) e ∙ from_be_bytes-to_be_bytes_8 m few

-- ---- contents that a file can keep

pub next_is_patch : (n : ℕ) (p : Patch) → IsPatch p → IsPatch (next_patch n p)
next_is_patch n p is = record {
  keys = keys_put sequence_key (Some (sequence_value n)) p.items sequence_is_key is.keys;
  ascending = is_true _ (is_sorted-put key_cmp key_total sequence_key (Some (sequence_value n)) p.items (holds _ is.ascending));
}

pub alone_is_patch : (n : ℕ) (x : Content) → IsPatch (sequence_alone n x)
alone_is_patch n x = record {
  keys = All-cons (λ (c : Change). IsKey c.0) (sequence_key, Some (sequence_value n)) [] sequence_is_key (All-nil (λ (c : Change). IsKey c.0));
  ascending = refl;
}

-- ---- the next patch

pub next_patch_makes_next : NextPatchMakesNext
next_patch_makes_next n m x p up is = λ i. record { clock = p.clock; next_job = p.next_job; items = items i }
  where
    own : List ℕ
    own = sequence_value n

    next : List ℕ
    next = sequence_value m

    found : (q : RecordKey) → find key_cmp q (patched (with_sequence n x) (next_patch m p)).items ≡ find key_cmp q (with_sequence m (patched x p)).items
    found q =
        patch_says_what_is_found (with_sequence n x) (next_patch m p) (next_is_patch m p is) q
        ∙ (λ i. unwrap_or (find-put key_cmp key_total q sequence_key (Some (sequence_value m)) p.items i) (find-put key_cmp key_total q sequence_key (sequence_value n) x.items i))
        ∙ by (eq_by_cmp key_cmp q sequence_key) (find key_cmp q p.items) (find key_cmp q x.items)
        ∙ ap (cond (eq_by_cmp key_cmp q sequence_key) (Some (sequence_value m))) (sym (patch_says_what_is_found x p is q))
        ∙ sym (find-put key_cmp key_total q sequence_key (sequence_value m) (patched x p).items)
      where
        by : (b : Bool) (a : Option (Option (List ℕ))) (c : Option (List ℕ)) → unwrap_or (cond b (Some (Some (sequence_value m))) a) (cond b (Some (sequence_value n)) c) ≡ cond b (Some (sequence_value m)) (unwrap_or a c)
        by true a c = refl
        by false a c = refl

    items : (patched (with_sequence n x) (next_patch m p)).items ≡ (with_sequence m (patched x p)).items
    items =
        same_entries key_cmp key_total same_key (patched (with_sequence n x) (next_patch m p)).items (with_sequence m (patched x p)).items
        (holds _ (patch_keeps_order (with_sequence n x) (next_patch m p) (is_true _ (is_sorted-put key_cmp key_total sequence_key (sequence_value n) x.items (holds _ up)))))
        (is_sorted-put key_cmp key_total sequence_key (sequence_value m) (patched x p).items (holds _ (patch_keeps_order x p up)))
        found

absent_changes : (cs : List Change) → All (λ (c : Change). c.0.kind ≢ 7) cs → find key_cmp sequence_key cs ≡ None
absent_changes [] h = refl
absent_changes (c ∷ cs) h = by (eq_by_cmp key_cmp sequence_key c.0) refl (absent_changes cs (All-tail (λ (c : Change). c.0.kind ≢ 7) c cs h))
  where
    by : (b : Bool) → eq_by_cmp key_cmp sequence_key c.0 ≡ b → find key_cmp sequence_key cs ≡ None → cond b (Some c.1) (find key_cmp sequence_key cs) ≡ None
    by true e rest = absurd (All-head (λ (c : Change). c.0.kind ≢ 7) c cs h (ap (λ (k : RecordKey). k.kind) (sym (same_key sequence_key c.0 ((Equal-is (key_cmp sequence_key c.0)).0 e))) ∙ kind_is))
    by false e rest = rest

pub patch_keeps_bare : PatchKeepsBare
patch_keeps_bare x p none is no_sequence = patch_says_what_is_found x p is sequence_key ∙ ap (λ (o : Option (Option (List ℕ))). unwrap_or o (find key_cmp sequence_key x.items)) (absent_changes p.items no_sequence) ∙ none

-- ---- what bytes mean

pub one_meaning_of_copies : OneMeaningOfCopies
one_meaning_of_copies i j n m x y bytes h k =
    let same = one_meaning i j (with_sequence n x) (with_sequence m y) bytes h.content k.content in
    let values : sequence_value n ≡ sequence_value m = some_is (sequence_value n) (sequence_value m) (sym (sequence_found n x) ∙ ap (λ (z : Content). find key_cmp sequence_key z.items) same.1 ∙ sequence_found m y) in
    (same.0, same_sequence n m h.small k.small values, sym (bare_with_sequence n x h.bare) ∙ ap bare same.1 ∙ bare_with_sequence m y k.bare)

pub no_image_is_no_copy : NoImageIsNoCopy
no_image_is_no_copy bytes none i n x copy = none i (with_sequence n x) copy.content

pub images_are_copies : ImagesAreCopies
images_are_copies i y n bytes stands has = record {
  content = subst (λ (z : Content). StandsFor i z bytes) (sym (with_sequence_bare n y stands.2.image.content.ascending has)) stands;
  bare = bare_is_bare y;
  small = has.small;
}

pub others_are_no_copies : OthersAreNoCopies
others_are_no_copies i y bytes stands none j n x copy =
    let same = one_meaning i j y (with_sequence n x) bytes stands copy.content in
    none n (record { found = ap (λ (z : Content). find key_cmp sequence_key z.items) same.1 ∙ sequence_found n x; small = copy.small })

-- a content without the record has no sequence
pub bare_has_none : (y : Content) → IsBare y → (n : ℕ) → HasSequence n y → ⊥
bare_has_none y none n has = some_none (sym has.found ∙ none)

pub bare_is_no_copy : (i : Identity) (y : Content) (bytes : List ℕ) → IsBare y → StandsFor i y bytes → IsNoCopy bytes
bare_is_no_copy i y bytes none stands = others_are_no_copies i y bytes stands (bare_has_none y none)

-- ---- which of two counts

pub one_is_chosen : OneIsChosen
one_is_chosen i j n m x y a b (inl h) (inl k) = one_meaning_of_copies i j n m x y a h.0 k.0
one_is_chosen i j n m x y a b (inl h) (inr k) = absurd (omega (arith, h.1 j m y k.0, k.1 i n x h.0))
one_is_chosen i j n m x y a b (inr h) (inl k) = absurd (omega (arith, h.1 j m y k.0, k.1 i n x h.0))
one_is_chosen i j n m x y a b (inr h) (inr k) = one_meaning_of_copies i j n m x y b h.0 k.0

pub no_rival_is_chosen : NoRivalIsChosen
no_rival_is_chosen i n x copy other is (inl below) = record {
  first = inl (is, λ j m y h. omega (arith, below j m y h));
  second = inr (is, below);
}
no_rival_is_chosen i n x copy other is (inr again) = record {
  first = inl (is, λ j m y h. let same = one_meaning_of_copies i j n m x y other again h in omega (arith, same.1));
  second = inl (again, λ j m y h. let same = one_meaning_of_copies i j n m x y copy is h in omega (arith, same.1));
}

-- ---- what a store of a copy keeps

pub store_is_copy : (s : Paged) (n : ℕ) (x : Content) (bytes : List ℕ) → CopyKeeps s n x → HasFile s bytes → IsCopyOf s.identity n x bytes
store_is_copy s n x bytes keeps file = record {
  content = subst (λ (z : Content). StandsFor s.identity z bytes) keeps.content (s.second, s.layout, file);
  bare = keeps.bare;
  small = keeps.small;
}

pub has_sequence_keeps : (s : Paged) (n : ℕ) → IsBlockSize s.identity.blksize → IsTrue (is_sorted key_cmp s.content.items) → HasSequence n s.content → CopyKeeps s n (bare s.content)
has_sequence_keeps s n size up has = record {
  content = sym (with_sequence_bare n s.content up has);
  bare = bare_is_bare s.content;
  small = has.small;
  ascending = left_sorted key_cmp sequence_key s.content.items up;
  blksize = size;
}

-- what a store keeps without its sequence
pub kept_bare : (s : Paged) (n : ℕ) (x : Content) → CopyKeeps s n x → bare s.content ≡ x
kept_bare s n x keeps = ap bare keeps.content ∙ bare_with_sequence n x keeps.bare

-- ---- the first copy

pub fresh_is_bare : IsBare fresh
fresh_is_bare = refl
