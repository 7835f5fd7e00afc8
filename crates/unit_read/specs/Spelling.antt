-- A text stands for units.
use Rattle.std.specs.Prelude.{◌≡◌, ℕ, ◌+◌, ◌≤◌, ◌⊎◌, Bool, ◌&&◌, ◌==◌, true, false, IsTrue, List, [], ◌∷◌, ◌++◌, length}
use Rattle.std.specs.List.{list_all}
use Rattle.std.specs.Str.Lines.{lines}
use Rattle.kd_base.specs.Limits.{longest_text}
use Rattle.application_types.specs.declared.unit_types.action.UnitStatement.{UnitStatement}
use Rattle.application_types.specs.declared.unit_types.unit.Field.{Field}
use Rattle.application_types.specs.UnitText.{UnitText}
use Rattle.unit_read.specs.declared.piece.Piece.{Piece}
use Rattle.unit_read.specs.declared.piece.Piece.TheVariants as pieces
use Rattle.unit_read.specs.Lines.{is_passed}
use Rattle.unit_read.specs.Grammar.{SpellsPiece}
use Rattle.unit_read.specs.Names.{has_field, has_label, has_unit}
use Rattle.unit_read.specs.Used.{uses}

-- a piece, with the number of its line
pub record Placed : Type 0 where
  pub line : ℕ
  pub piece : Piece

abbrev pub placed : ℕ → Piece → Placed
placed n piece = record { line = n; piece = piece }

-- the lines from number n on, without those that are empty or comments, are these pieces
abbrev pub ArePieces : ℕ → List (List ℕ) → List Placed → Type 0
ArePieces n [] ps = ps ≡ []
ArePieces n (line ∷ rest) ps =
    (IsTrue (is_passed line) × ArePieces (n + 1) rest ps) ⊎ ((piece : Piece) × (more : List Placed) × (ps ≡ placed n piece ∷ more) × SpellsPiece line piece × ArePieces (n + 1) rest more)

-- ---- what the pieces of a unit say

abbrev pub is_field : Piece → Bool
is_field (pieces.Field name spab offset len) = true
is_field _ = false

abbrev pub is_inner : Piece → Bool
is_inner (pieces.Label l) = true
is_inner (pieces.Statement a) = true
is_inner _ = false

abbrev pub are_fields : List Placed → Bool
are_fields ps = list_all (λ (p : Placed). is_field p.piece) ps

abbrev pub are_inner : List Placed → Bool
are_inner ps = list_all (λ (p : Placed). is_inner p.piece) ps

-- the field, the label before statement k, the statement that a piece gives
abbrev pub field_in : ℕ → Piece → List Field
field_in n (pieces.Field name spab offset len) = record { name = name; line = n; spab = spab; offset = offset; length = len } ∷ []
field_in n _ = []

abbrev pub label_in : ℕ → Piece → List (List ℕ × ℕ)
label_in k (pieces.Label l) = (l, k) ∷ []
label_in k _ = []

abbrev pub statement_in : ℕ → Piece → List UnitStatement
statement_in n (pieces.Statement a) = record { line = n; action = a } ∷ []
statement_in n _ = []

abbrev pub fields_in : List Placed → List Field
fields_in [] = []
fields_in (p ∷ ps) = field_in p.line p.piece ++ fields_in ps

abbrev pub statements_in : List Placed → List UnitStatement
statements_in [] = []
statements_in (p ∷ ps) = statement_in p.line p.piece ++ statements_in ps

-- each label with the number of the statement that it is before, where the next statement has number k
abbrev pub labels_in : ℕ → List Placed → List (List ℕ × ℕ)
labels_in k [] = []
labels_in k (p ∷ ps) = label_in k p.piece ++ labels_in (k + length (statement_in p.line p.piece)) ps

-- ---- what holds of a unit

-- no label and no statement
abbrev pub has_no_body : UnitText → Bool
has_no_body u = length u.labels == 0 && length u.statements == 0

-- no field has the name of one before it; likewise labels and units
abbrev pub FieldsAreNew : List Field → List Field → Type 0
FieldsAreNew before [] = Unit {0}
FieldsAreNew before (f ∷ fs) = (has_field before f.name ≡ false) × FieldsAreNew (before ++ f ∷ []) fs

abbrev pub LabelsAreNew : List (List ℕ × ℕ) → List (List ℕ × ℕ) → Type 0
LabelsAreNew before [] = Unit {0}
LabelsAreNew before (l ∷ ls) = (has_label before l.0 ≡ false) × LabelsAreNew (before ++ l ∷ []) ls

-- each statement names fields of these alone
abbrev pub are_defined : List Field → List UnitStatement → Bool
are_defined fields statements = list_all (λ (s : UnitStatement). uses (has_field fields) s.action) statements

-- these pieces are a unit but for its END: its UNIT line, its fields, then its labels and statements
pub record IsBegun (u : UnitText) (ps : List Placed) : Type 0 where
  pub heads : List Placed
  pub body : List Placed
  pub parts : ps ≡ placed u.line (pieces.Unit u.name) ∷ (heads ++ body)
  pub heads_are : are_fields heads ≡ true
  pub body_is : are_inner body ≡ true
  pub fields : u.fields ≡ fields_in heads
  pub labels : u.labels ≡ labels_in 1 body
  pub statements : u.statements ≡ statements_in body
  pub new_fields : FieldsAreNew [] u.fields
  pub new_labels : LabelsAreNew [] u.labels
  pub defined : are_defined u.fields u.statements ≡ true
  pub few : length u.statements ≤ 10000

-- a unit, which may be after these
pub record MayComeAfter (before : List UnitText) (u : UnitText) : Type 0 where
  pub new : has_unit before u.name ≡ false
  pub few : length before + 1 ≤ 1000

-- these pieces are whole units, after those before
abbrev pub AreUnits : List UnitText → List UnitText → List Placed → Type 0
AreUnits before [] ps = ps ≡ []
AreUnits before (u ∷ us) ps =
    (own rest : List Placed) × (last : ℕ) × (ps ≡ own ++ placed last pieces.End ∷ rest) × MayComeAfter before u × IsBegun u own × AreUnits (before ++ u ∷ []) us rest

-- the text is cut into lines, those into pieces, and these into units
abbrev pub SpellsUnits : List ℕ → List UnitText → Type 0
SpellsUnits text us = (length text ≤ longest_text) × (ps : List Placed) × ArePieces 1 (lines text) ps × AreUnits [] us ps
