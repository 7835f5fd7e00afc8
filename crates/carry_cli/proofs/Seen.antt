-- What was read of two files: which one counts, and what is told of each.
use Rattle.std.proofs.Common.{◌≡◌, ℕ, ◌≤◌, ◌<◌, Bool, true, false, List, [], Option, Some, None, inl, inr, refl, sym, ap, subst, ◌∙◌, ◌+◌, ◌-◌, get_or, arith}
use Rattle.kd_records.specs.Charge.{total_charge}
use Rattle.kd_records.specs.declared.content.Content.{Content}
use Rattle.kdcfile_store.specs.Paged.{Paged}
use Rattle.kdcfile_copies.specs.Copies.{HasSequence, IsCopyOf, IsNoCopy, bare}
use Rattle.kdcfile_copies.specs.CopiesLaws.{images_are_copies, no_image_is_no_copy, others_are_no_copies, sequence_is_one_page, some_none, store_is_copy}
use Rattle.kdcfile_copies.specs.Finding.{IsAnswer, IsLoaded}
use Rattle.kdcfile_copies.specs.declared.answer.LoadedCopy.{LoadedCopy}
use Rattle.kdcfile_layout.specs.Layout.{IsNoImage}
use Rattle.kdcfile_store.specs.Paged.{HasFile}
use Rattle.kdcfile_double.specs.Choice.{AreOfFiles, HasCopy, IsChoice, IsLoadedIf}
use Rattle.kdcfile_double.specs.ChoiceLaws.{choice_fits, nothing_is_no_copy}
use Rattle.kdcfile_double.specs.Twice.{AreSame, Twice, content_of, identity_of, sequence_of, with_copies}
use Rattle.carry_cli.specs.KindsLaws.{foreign_filled, unfinished_means_nothing}
use Rattle.carry_cli.specs.Kinds.{IsCounting, IsKind, made_once, made_twice, one_less}
use Rattle.carry_cli.specs.Seeing.{IsSeen, IsSound, copy_of, empty_kind, found_of, kind_of}
use Rattle.carry_cli.specs.declared.kinds.Counting.TheVariants as counts
use Rattle.carry_cli.specs.declared.seeing.Seen.{Seen}
use Rattle.carry_cli.specs.declared.seeing.Seen.TheVariants as seen

-- ---- what is read of a file that has bytes and is no copy

pub no_sequence : (s : Paged) (bytes : List ℕ) → HasFile s bytes → IsNoCopy bytes → (n : ℕ) → HasSequence n s.content → ⊥
no_sequence s bytes file none n has = none s.identity n (bare s.content) (images_are_copies s.identity s.content n bytes (s.second, s.layout, file) has)

pub foreign_seen : (a b : List ℕ) → b ≡ a → (get_or b 0 0 ≡ 0 → ⊥) → IsNoImage a → IsSeen seen.Foreign a
foreign_seen a b same gate none = (λ zero. gate (subst (λ (l : List ℕ). get_or l 0 0 ≡ 0) (sym same) zero), none)

pub shut_seen : (a b : List ℕ) → b ≡ a → (a ≡ [] → ⊥) → get_or b 0 0 ≡ 0 → IsSeen seen.Shut a
shut_seen a b same filled gate = (filled, subst (λ (l : List ℕ). get_or l 0 0 ≡ 0) same gate)

-- ---- the page of the sequence

pub charged : (c : LoadedCopy) → IsLoaded c → total_charge c.store.identity.blksize c.store.content.items ≡ total_charge c.store.identity.blksize (bare c.store.content).items + 1
charged c loaded =
    let keeps = loaded.keeps in
    ap (λ (x : Content). total_charge c.store.identity.blksize x.items) keeps.content ∙ sequence_is_one_page c.store.identity.blksize c.sequence (bare c.store.content) keeps.blksize keeps.bare

pub used_some : (c : LoadedCopy) → IsLoaded c → 1 ≤ (made_once c.store.identity c.store.content).used
used_some c loaded = omega (arith, charged c loaded)

pub pool_some : (c : LoadedCopy) → IsLoaded c → 1 ≤ (made_once c.store.identity c.store.content).pgpool
pool_some c loaded = omega (arith, loaded.identity.least)

pub less_made : (c : LoadedCopy) → IsLoaded c → one_less (made_once c.store.identity c.store.content) ≡ made_twice c.store.identity (bare c.store.content)
less_made c loaded =
    let i = c.store.identity in
    let less : total_charge i.blksize c.store.content.items - 1 ≡ total_charge i.blksize (bare c.store.content).items = omega (arith, charged c loaded) in
    ap (λ (u : ℕ). record { blksize = i.blksize; pgpool = i.pages - 1; used = u; fingerprint = i.fingerprint }) less

-- ---- what it is to who opens two copies

pub seen_answer : (s : Seen) (bytes : List ℕ) → IsSeen s bytes → IsAnswer (found_of s) bytes
seen_answer seen.Empty bytes h = h
seen_answer seen.Shut bytes h = (h.0, no_image_is_no_copy bytes (unfinished_means_nothing bytes h))
seen_answer seen.Foreign bytes h = (foreign_filled bytes h, no_image_is_no_copy bytes h.1)
seen_answer (seen.Single store) bytes h = (h.0, others_are_no_copies store.identity store.content bytes (store.second, store.layout, h.1) h.2)
seen_answer (seen.Copy c) bytes h = h

-- ---- what is told of it

pub empty_seen : (s : Seen) (bytes : List ℕ) → IsSound s → IsSeen s bytes → bytes ≡ [] → s ≡ seen.Empty
empty_seen seen.Empty bytes sound h is = refl
empty_seen seen.Shut bytes sound h is = absurd (h.0 is)
empty_seen seen.Foreign bytes sound h is = absurd (foreign_filled bytes h is)
empty_seen (seen.Single store) bytes sound h is = absurd (h.0 is)
empty_seen (seen.Copy c) bytes sound h is = absurd (nothing_is_no_copy c.store.identity c.sequence (bare c.store.content) (subst (λ (l : List ℕ). IsCopyOf c.store.identity c.sequence (bare c.store.content) l) is (store_is_copy c.store c.sequence (bare c.store.content) bytes sound.keeps h)))

empty_is : (there : Bool) (bytes : List ℕ) → bytes ≡ [] → IsKind (empty_kind there) there bytes
empty_is true bytes is = (refl, is)
empty_is false bytes is = (refl, is)

pub kind_is : (there : Bool) (s : Seen) (bytes : List ℕ) → IsSound s → IsSeen s bytes → IsKind (kind_of there s) there bytes
kind_is there seen.Empty bytes sound h = empty_is there bytes h
kind_is there seen.Shut bytes sound h = h
kind_is there seen.Foreign bytes sound h = h
kind_is there (seen.Single store) bytes sound h = (store.identity, store.content, (store.second, store.layout, h.1), h.2, refl)
kind_is there (seen.Copy c) bytes sound h = (c.store.identity, bare c.store.content, store_is_copy c.store c.sequence (bare c.store.content) bytes sound.keeps h, refl)

-- ---- which one counts

sound_if : (s : Seen) → IsSound s → IsLoadedIf (copy_of s)
sound_if seen.Empty h = tt
sound_if seen.Shut h = tt
sound_if seen.Foreign h = tt
sound_if (seen.Single store) h = tt
sound_if (seen.Copy c) h = h

has_copy : (s : Seen) (bytes : List ℕ) → IsSeen s bytes → HasCopy (copy_of s) bytes
has_copy seen.Empty bytes h = subst (λ (l : List ℕ). IsNoCopy l) (sym h) nothing_is_no_copy
has_copy seen.Shut bytes h = (seen_answer seen.Shut bytes h).1
has_copy seen.Foreign bytes h = (seen_answer seen.Foreign bytes h).1
has_copy (seen.Single store) bytes h = (seen_answer (seen.Single store) bytes h).1
has_copy (seen.Copy c) bytes h = h

module _ (p q : Option LoadedCopy) (a b : List ℕ) (p_loaded : IsLoadedIf p) (q_loaded : IsLoadedIf q) (p_has : HasCopy p a) (q_has : HasCopy q b) where
  fits : (s : Twice) → IsChoice p q s → AreOfFiles s a b
  fits s choice = choice_fits p q s a b p_loaded q_loaded choice p_has q_has

-- a copy that stands alone in use
first_counts : (p : LoadedCopy) (a b : List ℕ) → AreOfFiles (with_copies (Some p) None) a b → IsCounting counts.First a b
first_counts p a b h =
    let s = with_copies (Some p) None in
    let behind = h.in_use.second_is_not (λ used. some_none (sym used.1)) in
    (identity_of s, sequence_of s, content_of s, h.in_use.first_is (p, refl), behind.0, behind.1)

second_counts : (q : LoadedCopy) (a b : List ℕ) → AreOfFiles (with_copies None (Some q)) a b → IsCounting counts.Second a b
second_counts q a b h =
    let s = with_copies None (Some q) in
    (identity_of s, sequence_of s, content_of s, h.in_use.second_is (q, refl), h.in_use.first_is_not (λ used. some_none (sym used.1)))

both_count : (p q : LoadedCopy) (a b : List ℕ) → AreOfFiles (with_copies (Some p) (Some q)) a b → IsCounting counts.Alike a b
both_count p q a b h =
    let s = with_copies (Some p) (Some q) in
    (identity_of s, sequence_of s, content_of s, h.in_use.first_is (p, refl), h.in_use.second_is (q, refl))

module _ (f s : Seen) (f_sound : IsSound f) (s_sound : IsSound s) (a b : List ℕ) (f_is : IsSeen f a) (s_is : IsSeen s b) where
  of_files : (p q : Option LoadedCopy) → copy_of f ≡ p → copy_of s ≡ q → (t : Twice) → IsChoice p q t → AreOfFiles t a b
  of_files p q first second t choice =
      fits p q a b (subst IsLoadedIf first (sound_if f f_sound)) (subst IsLoadedIf second (sound_if s s_sound)) (subst (λ (o : Option LoadedCopy). HasCopy o a) first (has_copy f a f_is)) (subst (λ (o : Option LoadedCopy). HasCopy o b) second (has_copy s b s_is)) t choice

  pub neither : copy_of f ≡ None → copy_of s ≡ None → IsCounting counts.Neither a b
  neither first second = (subst (λ (o : Option LoadedCopy). HasCopy o a) first (has_copy f a f_is), subst (λ (o : Option LoadedCopy). HasCopy o b) second (has_copy s b s_is))

  pub second_alone : (q : LoadedCopy) → copy_of f ≡ None → copy_of s ≡ Some q → IsCounting counts.Second a b
  second_alone q first second = second_counts q a b (of_files None (Some q) first second (with_copies None (Some q)) refl)

  pub first_alone : (p : LoadedCopy) → copy_of f ≡ Some p → copy_of s ≡ None → IsCounting counts.First a b
  first_alone p first second = first_counts p a b (of_files (Some p) None first second (with_copies (Some p) None) refl)

  module _ (p q : LoadedCopy) (first : copy_of f ≡ Some p) (second : copy_of s ≡ Some q) where
    pub second_greater : p.sequence < q.sequence → IsCounting counts.Second a b
    second_greater less = second_counts q a b (of_files (Some p) (Some q) first second (with_copies None (Some q)) (inl (less, refl)))

    pub same_copies : AreSame p q → IsCounting counts.Alike a b
    same_copies same = both_count p q a b (of_files (Some p) (Some q) first second (with_copies (Some p) (Some q)) (inr (inr (same, refl))))

    pub first_greater : q.sequence ≤ p.sequence → (AreSame p q → ⊥) → IsCounting counts.First a b
    first_greater le differ = first_counts p a b (of_files (Some p) (Some q) first second (with_copies (Some p) None) (inr (inl (le, differ, refl))))
