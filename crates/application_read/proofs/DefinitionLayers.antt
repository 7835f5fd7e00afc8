-- The three readers together.
use Rattle.std.proofs.Common.{◌≡◌, ◌≢◌, ℕ, List, Result, Ok, Err, refl, sym, ap, subst, ◌∙◌}
use Rattle.kd_base.specs.ToolsLaws.{ok_is}
use Rattle.kd_base.specs.FirstFaultsLaws.{holds_unless}
use Rattle.texts.specs.declared.kdcdef_lex.fault.LexFault.{LexFault}
use Rattle.texts.specs.Reading.{is_memory as is_lex_memory, Gives as LexGives}
use Rattle.texts.specs.Faults.{HasTextFault}
use Rattle.texts.specs.Spelling.{SpellsStatements}
use Rattle.texts.specs.declared.kdcdef_lex.statement.RawStatement.{RawStatement}
use Rattle.application_types.specs.declared.kdcdef_types.statement.Statement.{Statement}
use Rattle.application_types.specs.Generation.{Generated}
use Rattle.kdcdef_read.specs.declared.fault.ReadFault.{ReadFault}
use Rattle.kdcdef_read.specs.declared.fault.ReadFault.TheVariants.{Memory as ReadMemory}
use Rattle.kdcdef_read.specs.Faults.{is_memory as is_read_memory}
use Rattle.kdcdef_read.specs.Steps.{Gives as ReadGives}
use Rattle.kdcdef_read.specs.Meaning.{StandFor, HasFault as HasReadFault}
use Rattle.application_check.specs.declared.kdcdef_check.fault.CheckFault.{CheckFault}
use Rattle.application_check.specs.Faults.{is_memory as is_check_memory, Gives as CheckGives, AreFaultless, IsFirstFault}
use Rattle.application_check.specs.Generating.{generated}
use Rattle.application_read.specs.declared.definition_fault.DefinitionFault.{DefinitionFault}
use Rattle.application_read.specs.declared.definition_fault.DefinitionFault.TheVariants.{Lex, Read, Check, Memory}
use Rattle.application_read.specs.Causes.{of_lex, of_read, of_check}
use Rattle.application_read.specs.Definition.{Says, Generates, HasFault, is_memory, Gives}
use Rattle.application_read.specs.HandedLaws.{HandedOn, handed_on}

by_lex : HandedOn Memory is_memory Generated (List RawStatement) LexFault is_lex_memory (λ x. Lex x)
by_lex = handed_on Memory is_lex_memory (λ x. Lex x) is_memory refl

by_read : HandedOn Memory is_memory Generated (List Statement) ReadFault is_read_memory (λ x. Read x)
by_read = handed_on Memory is_read_memory (λ x. Read x) is_memory refl

unless_want : (e : ReadFault) (read : Result (List Statement) ReadFault) → (e ≢ ReadMemory → read ≡ Err e) → ReadGives (Err e) read
unless_want ReadMemory read is = holds_unless (is_read_memory ReadMemory) (read ≡ Err ReadMemory) (λ no. cc)
unless_want e read is = is (λ x. cc)

by_check : HandedOn Memory is_memory Generated Generated CheckFault is_check_memory (λ x. Check x)
by_check = handed_on Memory is_check_memory (λ x. Check x) is_memory refl

-- ---- the text is no spelling

module _ (text : List ℕ) (e : LexFault) (only : (raw : List RawStatement) → SpellsStatements text raw → LexGives {X = List RawStatement} (Err e) (Ok raw)) where
  pub lex_only : (g : Generated) → Generates text g → Gives (Err (of_lex e)) (Ok g)
  lex_only g h = by_lex e (Ok h.1.0) (Ok g) (only h.1.0 h.1.1) (λ x. cc)

  pub lex_fault : ((f : LexFault) → HasTextFault text f → LexGives {X = List RawStatement} (Err e) (Err f)) → (f : DefinitionFault) → HasFault text f → Gives (Err (of_lex e)) (Err f)
  lex_fault refused (Lex f) h = by_lex e (Err f) (Err (Lex f)) (refused f h) (λ x. cc)
  lex_fault refused (Read f) h = by_lex e (Ok h.0) (Err (Read f)) (only h.0 h.1) (λ x. cc)
  lex_fault refused (Check f) h = by_lex e (Ok h.1.0) (Err (Check f)) (only h.1.0 h.1.1) (λ x. cc)
  lex_fault refused Memory h = absurd h

-- ---- the text spells raw statements

module _ (text : List ℕ) (raw : List RawStatement) (one : (rs : List RawStatement) → SpellsStatements text rs → LexGives {X = List RawStatement} (Ok raw) (Ok rs)) where
  said_raw : (ss : List Statement) → Says text ss → StandFor raw ss
  said_raw ss h = subst (λ (rs : List RawStatement). StandFor rs ss) (ok_is LexFault h.0 raw (one h.0 h.1)) h.2

  raw_fault : (f : ReadFault) → HasFault text (Read f) → HasReadFault raw f
  raw_fault f h = subst (λ (rs : List RawStatement). HasReadFault rs f) (ok_is LexFault h.0 raw (one h.0 h.1)) h.2

  module _ (no_lex : (f : LexFault) → HasTextFault text f → LexGives {X = List RawStatement} (Ok raw) (Err f)) where
    not_lexed : (f : LexFault) → HasTextFault text f → ⊥
    not_lexed f h = let e = no_lex f h in cc

    module _ (read : Result (List Statement) ReadFault) (only : (ss : List Statement) → StandFor raw ss → read ≡ Ok ss) (refused : (f : ReadFault) → HasReadFault raw f → read ≡ Err f) where
      -- a raw statement is none
      module _ (e : ReadFault) (fault : e ≢ ReadMemory → read ≡ Err e) where
        pub read_only : (g : Generated) → Generates text g → Gives (Err (of_read e)) (Ok g)
        read_only g h = let is = only h.0 (said_raw h.0 h.1) in by_read e read (Ok g) (unless_want e read fault) (λ failed. let two = sym is ∙ failed in cc)

        pub read_fault : (f : DefinitionFault) → HasFault text f → Gives (Err (of_read e)) (Err f)
        read_fault (Lex f) h = absurd (not_lexed f h)
        read_fault (Read f) h = let is = refused f (raw_fault f h) in by_read e read (Err (Read f)) (unless_want e read fault) (λ failed. let two = sym is ∙ failed in cc)
        read_fault (Check f) h = let is = only h.0 (said_raw h.0 h.1) in by_read e read (Err (Check f)) (unless_want e read fault) (λ failed. let two = sym is ∙ failed in cc)
        read_fault Memory h = absurd h

      -- they stand for statements
      module _ (ss : List Statement) (is : read ≡ Ok ss) where
        same_said : (xs : List Statement) → Says text xs → xs ≡ ss
        same_said xs h = ok_is ReadFault xs ss (sym (only xs (said_raw xs h)) ∙ is)

        not_read : (f : ReadFault) → HasFault text (Read f) → ⊥
        not_read f h = let two = sym (refused f (raw_fault f h)) ∙ is in cc

        module _ (e : CheckFault) (faultless : AreFaultless ss → CheckGives {A = Generated} (Err e) (Ok (generated ss))) where
          pub check_only : (g : Generated) → Generates text g → Gives (Err (of_check e)) (Ok g)
          check_only g h = by_check e (Ok (generated ss)) (Ok g) (faultless (subst AreFaultless (same_said h.0 h.1) h.2)) (λ x. cc)

          pub check_fault : ((f : CheckFault) → IsFirstFault ss f → CheckGives {A = Generated} (Err e) (Err f)) → (f : DefinitionFault) → HasFault text f → Gives (Err (of_check e)) (Err f)
          check_fault first (Lex f) h = absurd (not_lexed f h)
          check_fault first (Read f) h = absurd (not_read f h)
          check_fault first (Check f) h = by_check e (Err f) (Err (Check f)) (first f (subst (λ (xs : List Statement). IsFirstFault xs f) (same_said h.0 h.1) h.2)) (λ x. cc)
          check_fault first Memory h = absurd h

        -- and these generate
        module _ (made : Generated) (generates : made ≡ generated ss) where
          pub all_only : (g : Generated) → Generates text g → Gives (Ok made) (Ok g)
          all_only g h = ap (λ (x : Generated). let r : Result Generated DefinitionFault = Ok x in r) (h.3 ∙ ap generated (same_said h.0 h.1) ∙ sym generates)

          pub all_fault : ((f : CheckFault) → IsFirstFault ss f → CheckGives {A = Generated} (Ok made) (Err f)) → (f : DefinitionFault) → HasFault text f → Gives (Ok made) (Err f)
          all_fault first (Lex f) h = absurd (not_lexed f h)
          all_fault first (Read f) h = absurd (not_read f h)
          all_fault first (Check f) h = absurd (let e = first f (subst (λ (xs : List Statement). IsFirstFault xs f) (same_said h.0 h.1) h.2) in cc)
          all_fault first Memory h = absurd h
