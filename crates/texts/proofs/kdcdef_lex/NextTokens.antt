-- The first token of bytes, and the bytes behind it.
use Rattle.std.proofs.Common.{◌≡◌, ℕ, ◌<◌, true, false, List, [], ◌∷◌, ◌++◌, length, Option, Some, None, refl, sym, ap, ◌∙◌, subst, arith}
use Rattle.std.specs.Prelude.{is_some, unwrap_or}
use Rattle.std.proofs.lemmas.List.{append-nil}
use Rattle.kd_base.specs.ToolsLaws.{some_is}
use Rattle.texts.specs.Blanks.{from_first}
use Rattle.texts.specs.BlanksLaws.{from_gap}
use Rattle.texts.specs.Firsts.{first_of}
use Rattle.texts.specs.declared.kdcdef_lex.token.Token.{Token}
use Rattle.texts.specs.Tokens.{token_at, tokens_of, tokens_in}
use Rattle.texts.specs.Grammar.{written, AreTokens}
use Rattle.texts.specs.Faults.{odd_quotes}
use Rattle.texts.proofs.kdcdef_lex.Quotes.{open_quote}
use Rattle.texts.proofs.kdcdef_lex.Words.{starts, token_again, tokens_are, are_tokens}

-- a token is read of the bytes, and these are left
abbrev IsNext : List ℕ → List Token → Token → List ℕ → Type 0
IsNext bytes ts t rest = (is_some (tokens_of rest) ≡ true) × (Some (t, tokens_in rest) ≡ first_of ts)

next_of : (bytes : List ℕ) (ts : List Token) (t : Token) (rest : List ℕ) → AreTokens ts bytes → 0 < length (from_first bytes) → Some (t, rest) ≡ token_at (from_first bytes) → IsNext bytes ts t rest
next_of bytes [] t rest are some found =
    let nothing : from_first bytes ≡ [] = ap from_first (sym (append-nil bytes)) ∙ from_gap bytes [] are refl in
    absurd (omega (arith, ap length nothing))
next_of bytes (u ∷ us) t rest are some found =
    let gap = are.0 in
    let behind = are.1 in
    let front : from_first bytes ≡ written u ++ behind = ap from_first are.2 ∙ from_gap gap (written u ++ behind) are.3 (starts u behind are.4).0 in
    let same = some_is (t, rest) (u, behind) (found ∙ ap token_at front ∙ token_again u behind are.4 are.5) in
    let left : tokens_of behind ≡ Some us = are_tokens behind us are.6 in
    subst (λ (p : Token × List ℕ). IsNext bytes (u ∷ us) p.0 p.1) (sym same) (rw left refl, rw left refl)

pub next_token : (bytes : List ℕ) (t : Token) (rest : List ℕ) → is_some (tokens_of bytes) ≡ true → 0 < length (from_first bytes) → Some (t, rest) ≡ token_at (from_first bytes)
    → (is_some (tokens_of rest) ≡ true) × (Some (t, tokens_in rest) ≡ first_of (tokens_in bytes))
next_token bytes t rest is some found = by (tokens_of bytes) refl is
  where
    by : (o : Option (List Token)) → tokens_of bytes ≡ o → is_some o ≡ true → (is_some (tokens_of rest) ≡ true) × (Some (t, tokens_in rest) ≡ first_of (unwrap_or o []))
    by None e k = absurd cc
    by (Some ts) e k = next_of bytes ts t rest (tokens_are bytes ts e) some found

-- bytes with all quotes closed have tokens
pub closed_quotes : (bytes : List ℕ) → odd_quotes bytes ≡ false → is_some (tokens_of bytes) ≡ true
closed_quotes bytes h = by (tokens_of bytes) refl
  where
    by : (o : Option (List Token)) → tokens_of bytes ≡ o → is_some o ≡ true
    by None e = absurd (cc (sym (open_quote bytes e) ∙ h))
    by (Some ts) e = refl

-- what is there is what is found
pub some_tokens : (o : Option (List Token)) → is_some o ≡ true → Some (unwrap_or o []) ≡ o
some_tokens None h = absurd cc
some_tokens (Some ts) h = refl
