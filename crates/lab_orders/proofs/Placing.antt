-- Lines in their places.
use Rattle.std.proofs.Common.{◌≡◌, ℕ, ◌+◌, ◌<◌, ◌≤◌, List, [], ◌∷◌, ◌++◌, refl, sym, ap, ◌∙◌, append_assoc, get_or, drop, take, length}
use Rattle.std.specs.Prelude.{true, false, ◌==◌, if◌then◌else◌}
use Rattle.std.specs.Ordering.{is_lt}
use Rattle.std.proofs.lemmas.List.{append-nil, drop_all, drop_more, take_all, take_more}
use Rattle.abstract_monitor.specs.Bytes.{Bytes, bytes_cmp}
use Rattle.lab_walks.specs.Outcomes.{before_blank, behind_blank, name_in, placed, placed_all}

-- ---- words

pub behind_here : (c : ℕ) (cs : List ℕ) → (c == 32) ≡ true → behind_blank (c ∷ cs) ≡ cs
unfolding behind_blank
behind_here c cs e = ap (λ b. if b then cs else behind_blank cs) e

pub behind_later : (c : ℕ) (cs : List ℕ) → (c == 32) ≡ false → behind_blank (c ∷ cs) ≡ behind_blank cs
unfolding behind_blank
behind_later c cs e = ap (λ b. if b then cs else behind_blank cs) e

pub behind_none : behind_blank [] ≡ []
unfolding behind_blank
behind_none = refl

before_here : (c : ℕ) (cs : List ℕ) → (c == 32) ≡ true → before_blank (c ∷ cs) ≡ []
unfolding before_blank
before_here c cs e = ap (λ b. if b then [] else c ∷ before_blank cs) e

before_later : (c : ℕ) (cs : List ℕ) → (c == 32) ≡ false → before_blank (c ∷ cs) ≡ c ∷ before_blank cs
unfolding before_blank
before_later c cs e = ap (λ b. if b then [] else c ∷ before_blank cs) e

before_none : before_blank [] ≡ []
unfolding before_blank
before_none = refl

-- no blank is among the first ones
abbrev pub IsFront : List ℕ → ℕ → Type 0
IsFront text at = before_blank text ≡ take at text ++ before_blank (drop at text)

module _ (text : List ℕ) (at : ℕ) (c : ℕ) (is : c ≡ get_or text at 0) (lt : at < length text) (front : IsFront text at) where
  behind_at : drop at text ≡ c ∷ drop (at + 1) text
  behind_at = drop_more text at 0 lt ∙ ap (λ x. x ∷ drop (at + 1) text) (sym is)

  pub front_ends : (c == 32) ≡ true → take at text ≡ before_blank text
  front_ends e = sym (front ∙ ap (λ (l : List ℕ). take at text ++ before_blank l) behind_at ∙ ap (λ (l : List ℕ). take at text ++ l) (before_here c (drop (at + 1) text) e) ∙ append-nil (take at text))

  pub front_more : (c == 32) ≡ false → IsFront text (at + 1)
  front_more e =
      front
      ∙ ap (λ (l : List ℕ). take at text ++ before_blank l) behind_at
      ∙ ap (λ (l : List ℕ). take at text ++ l) (before_later c (drop (at + 1) text) e)
      ∙ sym (append_assoc (take at text) (c ∷ []) (before_blank (drop (at + 1) text)))
      ∙ ap (λ (l : List ℕ). l ++ before_blank (drop (at + 1) text)) (ap (λ x. take at text ++ x ∷ []) is ∙ sym (take_more text at 0 lt))

pub front_whole : (text : List ℕ) (at : ℕ) → length text ≤ at → IsFront text at → text ≡ before_blank text
front_whole text at over front =
    sym (front ∙ (λ i. take_all at text over i ++ before_blank (drop_all at text over i)) ∙ ap (λ (l : List ℕ). text ++ l) before_none ∙ append-nil text)

-- ---- places

placed_here : (line other : Bytes) (rest : List Bytes) → is_lt (bytes_cmp (name_in line) (name_in other)) ≡ true → placed line (other ∷ rest) ≡ line ∷ other ∷ rest
unfolding placed
placed_here line other rest e = ap (λ b. if b then line ∷ other ∷ rest else other ∷ placed line rest) e

placed_later : (line other : Bytes) (rest : List Bytes) → is_lt (bytes_cmp (name_in line) (name_in other)) ≡ false → placed line (other ∷ rest) ≡ other ∷ placed line rest
unfolding placed
placed_later line other rest e = ap (λ b. if b then line ∷ other ∷ rest else other ∷ placed line rest) e

placed_none : (line : Bytes) → placed line [] ≡ line ∷ []
unfolding placed
placed_none line = refl

-- the line is not before this place
abbrev pub IsPast : Bytes → List Bytes → ℕ → Type 0
IsPast line others at = placed line others ≡ take at others ++ placed line (drop at others)

module _ (line : Bytes) (others : List Bytes) (at : ℕ) (other : Bytes) (is : other ≡ get_or others at other) (lt : at < length others) (past : IsPast line others at) where
  other_at : drop at others ≡ other ∷ drop (at + 1) others
  other_at = drop_more others at other lt ∙ ap (λ (x : Bytes). x ∷ drop (at + 1) others) (sym is)

  pub placed_at : is_lt (bytes_cmp (name_in line) (name_in other)) ≡ true → take at others ++ line ∷ drop at others ≡ placed line others
  placed_at e = sym (past ∙ ap (λ (l : List Bytes). take at others ++ placed line l) other_at ∙ ap (λ (l : List Bytes). take at others ++ l) (placed_here line other (drop (at + 1) others) e ∙ ap (λ (l : List Bytes). line ∷ l) (sym other_at)))

  pub past_more : is_lt (bytes_cmp (name_in line) (name_in other)) ≡ false → IsPast line others (at + 1)
  past_more e =
      past
      ∙ ap (λ (l : List Bytes). take at others ++ placed line l) other_at
      ∙ ap (λ (l : List Bytes). take at others ++ l) (placed_later line other (drop (at + 1) others) e)
      ∙ sym (append_assoc (take at others) (other ∷ []) (placed line (drop (at + 1) others)))
      ∙ ap (λ (l : List Bytes). l ++ placed line (drop (at + 1) others)) (ap (λ (x : Bytes). take at others ++ x ∷ []) is ∙ sym (take_more others at other lt))

pub placed_last : (line : Bytes) (others : List Bytes) (at : ℕ) → length others ≤ at → IsPast line others at → take at others ++ line ∷ drop at others ≡ placed line others
placed_last line others at over past =
    sym (past ∙ ap (λ (l : List Bytes). take at others ++ placed line l) (drop_all at others over) ∙ ap (λ (l : List Bytes). take at others ++ l) (placed_none line ∙ ap (λ (l : List Bytes). line ∷ l) (sym (drop_all at others over))))

-- ---- all lines

pub placed_next : (others : List Bytes) (line : Bytes) (rest : List Bytes) → placed_all others (line ∷ rest) ≡ placed_all (placed line others) rest
unfolding placed_all
placed_next others line rest = refl

pub placed_over : (others : List Bytes) → placed_all others [] ≡ others
unfolding placed_all
placed_over others = refl
