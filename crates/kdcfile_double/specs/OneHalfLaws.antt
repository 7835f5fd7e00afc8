-- Laws: what is read again from the file of a half in use.
use Rattle.std.specs.Prelude.{ℕ, List, Option, Some}
use Rattle.std.proofs.Common.{ap, sym, ◌∙◌}
use Rattle.kd_records.specs.Identity.{Identity}
use Rattle.kd_records.specs.declared.content.Content.{Content}
use Rattle.kdcfile_store.specs.Paged.{HasFile}
use Rattle.kdcfile_copies.specs.declared.answer.LoadedCopy.{LoadedCopy}
use Rattle.kdcfile_copies.specs.Copies.{IsNoCopy, bare, with_sequence}
use Rattle.kdcfile_copies.specs.CopiesLaws.{one_meaning_of_copies, store_is_copy}
use Rattle.kdcfile_copies.specs.Finding.{IsLoaded}
use Rattle.kdcfile_double.specs.Twice.{AreAlike, AreSame, KeepsIf, Twice, content_of, identity_of, sequence_of}

-- a copy in use keeps some content with its sequence
abbrev pub KeepsSome : Option LoadedCopy → Type 0
KeepsSome copy = (i : Identity) × ((n : ℕ) × ((x : Content) × KeepsIf i n x copy))

pub first_keeps_some : (s : Twice) → AreAlike s → KeepsSome s.first
first_keeps_some s alike = (identity_of s, (sequence_of s, (content_of s, alike.first_keeps)))

pub second_keeps_some : (s : Twice) → AreAlike s → KeepsSome s.second
second_keeps_some s alike = (identity_of s, (sequence_of s, (content_of s, alike.second_keeps)))

-- the file of a copy in use is a copy
pub is_a_copy : (p : LoadedCopy) (bytes : List ℕ) → KeepsSome (Some p) → HasFile p.store bytes → IsNoCopy bytes → ⊥
is_a_copy p bytes (i, (n, (x, keeps))) file none = none p.store.identity n x (store_is_copy p.store n x bytes keeps.2 file)

-- and what is loaded from it is the same copy
pub same_again : (p q : LoadedCopy) (bytes : List ℕ) → KeepsSome (Some p) → HasFile p.store bytes → IsLoaded q → HasFile q.store bytes → AreSame p q
same_again p q bytes (i, (n, (x, keeps))) file loaded again =
    let same = one_meaning_of_copies p.store.identity q.store.identity n q.sequence x (bare q.store.content) bytes (store_is_copy p.store n x bytes keeps.2 file) (store_is_copy q.store q.sequence (bare q.store.content) bytes loaded.keeps again) in
    record {
      sequence = keeps.1 ∙ same.1;
      identity = same.0;
      content = keeps.2.content ∙ ap (λ (m : ℕ). with_sequence m x) same.1 ∙ ap (λ (z : Content). with_sequence q.sequence z) same.2 ∙ sym loaded.keeps.content;
    }
