-- One more statement among those that are kept.
use Rattle.std.proofs.Common.{◌≡◌, ℕ, ◌+◌, ◌-◌, ◌≤◌, List, [], ◌∷◌, ◌++◌, length, take, drop, suc, refl, ap, ◌∙◌, arith, length-append, length-drop}
use Rattle.std.specs.Prelude.{IsTrue, is_some, slice_range}
use Rattle.std.specs.List.{All}
use Rattle.std.proofs.lemmas.List.{take-append-le, drop-append-le, take_all, map_push}
use Rattle.std.proofs.lemmas.List.Elements.{All-cons, All-nil, All-push}
use Rattle.std.proofs.Math.Seq.{drop-append_seam}
use Rattle.texts.specs.declared.kdcdef_lex.statement.RawStatement.{RawStatement}
use Rattle.texts.specs.declared.kdcdef_lex.statements.Place.{Place}
use Rattle.texts.specs.Parsing.{spelled_at, statement_in}
use Rattle.texts.specs.Kept.{bytes_at, statements_at, IsSpelled, AreSpelled}

-- more bytes behind change no place
still_at : (bytes more : List ℕ) (p : Place) → p.from ≤ p.end → p.end ≤ length bytes → bytes_at (bytes ++ more) p ≡ bytes_at bytes p
still_at bytes more p le within =
    ap (take (p.end - p.from)) (drop-append-le p.from bytes more (omega (arith, le, within)))
    ∙ take-append-le (p.end - p.from) (drop p.from bytes) more (omega (arith, le, within, length-drop p.from bytes))

-- the bytes behind are at their place
there_now : (bytes more : List ℕ) (from end : ℕ) → from ≡ length bytes → end ≡ from + length more → slice_range (bytes ++ more) from end ≡ more
there_now bytes more from end at is =
    ap (λ (n : ℕ). take (end - from) (drop n (bytes ++ more))) at ∙ ap (take (end - from)) (drop-append_seam bytes more) ∙ take_all (end - from) more (omega (arith, is))

spelled_still : (bytes more : List ℕ) (p : Place) → IsSpelled bytes p → IsSpelled (bytes ++ more) p
spelled_still bytes more p h = record {
  from = h.from;
  end = omega (arith, h.end, length-append bytes more);
  spelled = rw (still_at bytes more p h.from h.end) h.spelled;
}

head_of : (P : Place → Type 0) (p : Place) (ps : List Place) → All P (p ∷ ps) → P p
head_of P p ps h = h 0 p (omega arith)

tail_of : (P : Place → Type 0) (p : Place) (ps : List Place) → All P (p ∷ ps) → All P ps
tail_of P p ps h = λ k d below. h (suc k) d (omega (arith, below))

all_still : (bytes more : List ℕ) (ps : List Place) → AreSpelled bytes ps → AreSpelled (bytes ++ more) ps
all_still bytes more [] h = All-nil _
all_still bytes more (p ∷ ps) h =
    All-cons (λ (q : Place). IsSpelled (bytes ++ more) q) p ps (spelled_still bytes more p (head_of (λ (q : Place). IsSpelled bytes q) p ps h)) (all_still bytes more ps (tail_of (λ (q : Place). IsSpelled bytes q) p ps h))

same_still : (bytes more : List ℕ) (ps : List Place) → AreSpelled bytes ps → statements_at (bytes ++ more) ps ≡ statements_at bytes ps
same_still bytes more [] h = refl
same_still bytes more (p ∷ ps) h =
    let here = head_of (λ (q : Place). IsSpelled bytes q) p ps h in
    let first : statement_in p.line (bytes_at (bytes ++ more) p) ≡ statement_in p.line (bytes_at bytes p) = ap (statement_in p.line) (still_at bytes more p here.from here.end) in
    let rest = same_still bytes more ps (tail_of (λ (q : Place). IsSpelled bytes q) p ps h) in
    ap (λ (s : RawStatement). s ∷ statements_at (bytes ++ more) ps) first ∙ ap (λ (ss : List RawStatement). statement_in p.line (bytes_at bytes p) ∷ ss) rest

abbrev place : ℕ → ℕ → ℕ → Place
place line from end = record { line = line; from = from; end = end }

pub kept_more : (bytes text : List ℕ) (ps : List Place) (line from end : ℕ) → from ≡ length bytes → end ≡ from + length text → IsTrue (is_some (spelled_at line text)) → AreSpelled bytes ps
    → AreSpelled (bytes ++ text) (ps ++ place line from end ∷ [])
kept_more bytes text ps line from end at is spelled h =
    All-push (λ (q : Place). IsSpelled (bytes ++ text) q) ps (place line from end) (all_still bytes text ps h)
    (record { from = omega (arith, is); end = omega (arith, at, is, length-append bytes text); spelled = rw (there_now bytes text from end at is) spelled })

pub one_kept : (bytes text : List ℕ) (ps : List Place) (line from end : ℕ) → from ≡ length bytes → end ≡ from + length text → AreSpelled bytes ps
    → statements_at (bytes ++ text) (ps ++ place line from end ∷ []) ≡ statements_at bytes ps ++ statement_in line text ∷ []
one_kept bytes text ps line from end at is h =
    map_push (λ (p : Place). statement_in p.line (bytes_at (bytes ++ text) p)) ps (place line from end)
    ∙ ap (λ (ss : List RawStatement). ss ++ statement_in line (slice_range (bytes ++ text) from end) ∷ []) (same_still bytes text ps h)
    ∙ ap (λ (x : List ℕ). statements_at bytes ps ++ statement_in line x ∷ []) (there_now bytes text from end at is)
