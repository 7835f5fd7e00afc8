-- The words of a line are those that are parted by spaces in it.
use Rattle.std.proofs.Common.{◌≡◌, ◌⊎◌, inl, inr, ℕ, zero, suc, ◌+◌, ◌<◌, ◌≤◌, true, false, List, [], ◌∷◌, ◌++◌, length, take, drop, get_or, refl, sym, ap, ◌∙◌, arith, append_assoc, append-nil}
use Rattle.std.specs.Prelude.{filter, replicate, nat_lt}
use Rattle.std.specs.List.{slice_split, prefix_len, position_or_len, All}
use Rattle.std.proofs.lemmas.Bool.{cases_Bool, eqb-true, ltb-true, ltb-false}
use Rattle.std.proofs.lemmas.List.{take-append-drop, drop_more, drop_all, nil_from_length}
use Rattle.std.proofs.lemmas.List.Splits.{slice_split_at}
use Rattle.std.proofs.lemmas.List.Sums.{passes_at_first}
use Rattle.kd_base.specs.Text.{is_space}
use Rattle.script_read.specs.Script.{words, begins_with_space}
use Rattle.script_read.specs.Spelling.{AreParted}
use Rattle.script_read.proofs.Words.{no_space, no_words, word_there, kept, one_word, words_behind_space, words_behind_spaces, behind_spaces}
use Rattle.kd_base.specs.FrontsLaws.{one_add}

-- a word has a byte and no space
pub record IsWord (word : List ℕ) : Type 0 where
  pub some : 0 < length word
  pub none : All (λ b. is_space b ≡ false) word

abbrev pub AreWords : List (List ℕ) → Type 0
AreWords [] = Unit {0}
AreWords (word ∷ more) = IsWord word × AreWords more

-- ---- parted words are the words

-- spaces after which there is nothing
spaces_alone : (n : ℕ) → words (replicate n 32) ≡ []
spaces_alone zero = refl
spaces_alone (suc n) = words_behind_space 32 (replicate n 32) refl ∙ spaces_alone n

spaces_before : (n : ℕ) (rest : List ℕ) → words (replicate n 32 ++ rest) ≡ words rest
spaces_before zero rest = refl
spaces_before (suc n) rest = words_behind_space 32 (replicate n 32 ++ rest) refl ∙ spaces_before n rest

-- a word before a space
word_then : (word rest : List ℕ) → IsWord word → words (word ++ 32 ∷ rest) ≡ word ∷ words rest
word_then word rest w = ap (filter (λ (w : List ℕ). nat_lt 0 (length w))) (slice_split_at is_space word 32 rest w.none refl) ∙ kept word (slice_split is_space rest) w.some

-- a word before spaces alone
word_last : (word : List ℕ) (n : ℕ) → IsWord word → words (word ++ replicate n 32) ≡ word ∷ []
word_last word zero w = ap words (append-nil word) ∙ one_word word w.some w.none
word_last word (suc n) w = word_then word (replicate n 32) w ∙ ap (λ (ws : List (List ℕ)). word ∷ ws) (spaces_alone n)

-- a word before spaces and more
gap_then : (word : List ℕ) (n : ℕ) (rest : List ℕ) → 1 ≤ n → IsWord word → words (word ++ replicate n 32 ++ rest) ≡ word ∷ words rest
gap_then word zero rest le w = absurd (omega arith)
gap_then word (suc n) rest le w =
    ap words (append_assoc word (replicate (suc n) 32) rest)
    ∙ word_then word (replicate n 32 ++ rest) w
    ∙ ap (λ (ws : List (List ℕ)). word ∷ ws) (spaces_before n rest)

pub parted_words : (ws : List (List ℕ)) (line : List ℕ) → AreWords ws → AreParted ws line → words line ≡ ws
parted_words [] line are p = ap words p.1 ∙ spaces_alone p.0
parted_words (word ∷ []) line are p = ap words p.1 ∙ word_last word p.0 are.0
parted_words (word ∷ next ∷ ws) line are p =
    ap words p.3 ∙ gap_then word p.0 p.1 p.2 are.0 ∙ ap (λ (more : List (List ℕ)). word ∷ more) (parted_words (next ∷ ws) p.1 are.1 p.4)

-- ---- the words are parted

spaces_first : (line : List ℕ) → line ≡ replicate (prefix_len is_space line) 32 ++ drop (prefix_len is_space line) line
spaces_first [] = refl
spaces_first (b ∷ line) =
    elim (cases_Bool (is_space b)) [
      | inl h ↦ rw (h, one_add (prefix_len is_space line)) (ap (λ (c : ℕ). c ∷ line) (eqb-true b 32 h) ∙ ap (λ (l : List ℕ). 32 ∷ l) (spaces_first line))
      | inr h ↦ rw (no_space b line h) refl
    ]

-- where no word stands, there are spaces alone
spaces_all : (line : List ℕ) → words line ≡ [] → line ≡ replicate (prefix_len is_space line) 32
spaces_all line none =
    let front = drop (prefix_len is_space line) line in
    elim (cases_Bool (nat_lt 0 (length front))) [
      | inl h ↦ absurd (let there = (word_there line front refl (ltb-true 0 (length front) h)).words in let differ = sym none ∙ there in cc)
      | inr h ↦
          spaces_first line
          ∙ ap (λ (l : List ℕ). replicate (prefix_len is_space line) 32 ++ l) (nil_from_length front (omega (arith, ltb-false 0 (length front) h)))
          ∙ append-nil (replicate (prefix_len is_space line) 32)
    ]

-- the first word and what is after it
record Begins (line word : List ℕ) (others : List (List ℕ)) : Type 0 where
  pub rest : List ℕ
  pub spelled : line ≡ replicate (prefix_len is_space line) 32 ++ (word ++ rest)
  pub behind : words rest ≡ others
  pub spaced : (rest ≡ []) ⊎ (1 ≤ prefix_len is_space rest)

spaces_behind : (front : List ℕ) → (drop (position_or_len is_space front) front ≡ []) ⊎ (1 ≤ prefix_len is_space (drop (position_or_len is_space front) front))
spaces_behind front =
    let m = position_or_len is_space front in
    elim (cases_Bool (nat_lt m (length front))) [
      | inl h ↦ inr (starts front m (ltb-true m (length front) h) (passes_at_first is_space front 0 (ltb-true m (length front) h)))
      | inr h ↦ inl (drop_all m front (ltb-false m (length front) h))
    ]
  where
    one_more : (n : ℕ) → 1 ≤ 1 + n
    one_more n = omega arith

    starts : (front : List ℕ) (m : ℕ) → m < length front → is_space (get_or front m 0) ≡ true → 1 ≤ prefix_len is_space (drop m front)
    starts front m lt h = rw (drop_more front m 0 lt, h) (one_more (prefix_len is_space (drop (m + 1) front)))

begins : (line word : List ℕ) (others : List (List ℕ)) → words line ≡ word ∷ others → Begins line word others
begins line word others h =
    let p = prefix_len is_space line in
    let front = drop p line in
    elim (cases_Bool (nat_lt 0 (length front))) [
      | inl some ↦ at_word front refl (ltb-true 0 (length front) some)
      | inr none ↦ absurd (let nothing = no_words line front p refl refl (omega (arith, ltb-false 0 (length front) none)) in let differ = sym h ∙ nothing in cc)
    ]
  where
    at_word : (front : List ℕ) → front ≡ drop (prefix_len is_space line) line → 0 < length front → Begins line word others
    at_word front at some =
        let m = position_or_len is_space front in
        let there = word_there line front at some in
        let both : word ∷ others ≡ take m front ∷ words (drop m front) = sym h ∙ there.words in
        let first : word ≡ take m front = cc in
        let later : others ≡ words (drop m front) = cc in
        record {
          rest = drop m front;
          spelled =
              spaces_first line
              ∙ ap (λ (l : List ℕ). replicate (prefix_len is_space line) 32 ++ l) (sym at ∙ sym (take-append-drop m front) ∙ ap (λ (w : List ℕ). w ++ drop m front) (sym first));
          behind = sym later;
          spaced = spaces_behind front;
        }

no_front : (line : List ℕ) → begins_with_space line ≡ false → prefix_len is_space line ≡ 0
no_front [] h = refl
no_front (b ∷ line) h = no_space b line h

front_none : (line : List ℕ) → prefix_len is_space line ≡ 0 → begins_with_space line ≡ false
front_none [] h = refl
front_none (b ∷ line) h =
    elim (cases_Bool (is_space b)) [
      | inl k ↦ absurd (let n : 1 + prefix_len is_space line ≡ 0 = rw k at h in omega (arith, n))
      | inr k ↦ k
    ]

-- a line that begins with its first word
first_stands : (line word : List ℕ) (others : List (List ℕ)) → begins_with_space line ≡ false → (b : Begins line word others) → line ≡ word ++ b.rest
first_stands line word others front b = b.spelled ∙ ap (λ (n : ℕ). replicate n 32 ++ (word ++ b.rest)) (no_front line front)

gap_stands : (rest : List ℕ) (next : List ℕ) (ws : List (List ℕ)) → words rest ≡ next ∷ ws → (rest ≡ []) ⊎ (1 ≤ prefix_len is_space rest) → 1 ≤ prefix_len is_space rest
gap_stands rest next ws h (inl none) = absurd (let differ = ap words (sym none) ∙ h in cc)
gap_stands rest next ws h (inr some) = some

pub words_parted : (ws : List (List ℕ)) (line : List ℕ) → begins_with_space line ≡ false → words line ≡ ws → AreParted ws line
words_parted [] line front h = (prefix_len is_space line, spaces_all line h)
words_parted (word ∷ []) line front h =
    let b = begins line word [] h in
    (prefix_len is_space b.rest, first_stands line word [] front b ∙ ap (λ (l : List ℕ). word ++ l) (spaces_all b.rest b.behind))
words_parted (word ∷ next ∷ ws) line front h =
    let b = begins line word (next ∷ ws) h in
    let k = prefix_len is_space b.rest in
    let after = drop k b.rest in (
      k,
      after,
      gap_stands b.rest next ws b.behind b.spaced,
      first_stands line word (next ∷ ws) front b ∙ ap (λ (l : List ℕ). word ++ l) (spaces_first b.rest) ∙ sym (append_assoc word (replicate k 32) after),
      words_parted (next ∷ ws) after (front_none after (behind_spaces b.rest)) (words_behind_spaces b.rest ∙ b.behind),
    )

-- each word has a byte
abbrev pub AreSome : List (List ℕ) → Type 0
AreSome [] = Unit {0}
AreSome (word ∷ more) = (1 ≤ length word) × AreSome more

kept_some : (parts : List (List ℕ)) → AreSome (filter (λ (w : List ℕ). nat_lt 0 (length w)) parts)
kept_some [] = tt
kept_some (part ∷ parts) =
    elim (cases_Bool (nat_lt 0 (length part))) [
      | inl h ↦ rw h (one_at_least part h, kept_some parts)
      | inr h ↦ rw h (kept_some parts)
    ]
  where
    one_at_least : (part : List ℕ) → nat_lt 0 (length part) ≡ true → 1 ≤ length part
    one_at_least part h = omega (arith, ltb-true 0 (length part) h)

pub words_some : (line : List ℕ) → AreSome (words line)
words_some line = kept_some (slice_split is_space line)
