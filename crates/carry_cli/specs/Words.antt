-- What the words of a call ask for.
use Rattle.std.specs.Prelude.{ℕ, Bool, true, false, List, [], ◌∷◌, codes, Option, Some, None}
use Rattle.script_read.specs.Script.{same}
use Rattle.call_parts.specs.Words.{base_of, is_base}
use Rattle.carry_cli.specs.declared.words.Options.{Options}

abbrev pub state_by : Bool → (rest : List (List ℕ)) → Option (List ℕ)
state_by true rest = base_of rest
state_by false rest = None

-- the BASE of `state BASE`
abbrev pub state_of : List (List ℕ) → Option (List ℕ)
state_of [] = None
state_of (word ∷ rest) = state_by (same word (codes "state")) rest

-- ---- the BASE that is carried, with its options

abbrev pub plain : Options
plain = record { may_drop = false; only_tries = false; alone = false }

-- an option that is not there yet
abbrev pub once : (there : Bool) → Options → Option Options
once true o = None
once false o = Some o

abbrev pub option_by : Options → (drop try alone : Bool) → Option Options
option_by o true t a = once o.may_drop (record { may_drop = true; only_tries = o.only_tries; alone = o.alone })
option_by o false true a = once o.only_tries (record { may_drop = o.may_drop; only_tries = true; alone = o.alone })
option_by o false false true = once o.alone (record { may_drop = o.may_drop; only_tries = o.only_tries; alone = true })
option_by o false false false = None

-- these options and the one of this word
abbrev pub with_option : Option Options → (word : List ℕ) → Option Options
with_option None word = None
with_option (Some o) word = option_by o (same word (codes "--drop")) (same word (codes "--try")) (same word (codes "--alone"))

-- at most three words, since each option stands once
abbrev pub options_of : List (List ℕ) → Option Options
options_of [] = Some plain
options_of (a ∷ []) = with_option (Some plain) a
options_of (a ∷ b ∷ []) = with_option (with_option (Some plain) a) b
options_of (a ∷ b ∷ c ∷ []) = with_option (with_option (with_option (Some plain) a) b) c
options_of (a ∷ b ∷ c ∷ d ∷ rest) = None

-- a BASE that is not `state`, with options
abbrev pub carried_by : (state base : Bool) → List ℕ → Option Options → Option (List ℕ × Options)
carried_by true is base o = None
carried_by false false base o = None
carried_by false true base None = None
carried_by false true base (Some o) = Some (base, o)

-- the BASE and the options of `BASE [--drop] [--try] [--alone]`, in any order
abbrev pub carry_of : List (List ℕ) → Option (List ℕ × Options)
carry_of [] = None
carry_of (base ∷ words) = carried_by (same base (codes "state")) (is_base base) base (options_of words)

-- ---- the BASE that is backed up, and to what

-- both are of a BASE's length, and the second is no option
abbrev pub backup_by : (backup base to : Bool) → (option : Option Options) → List ℕ → List ℕ → Option (List ℕ × List ℕ)
backup_by false is is_to o base to = None
backup_by true false is_to o base to = None
backup_by true true false o base to = None
backup_by true true true (Some o) base to = None
backup_by true true true None base to = Some (base, to)

-- BASE and TO of `backup BASE TO`
abbrev pub backup_of : List (List ℕ) → Option (List ℕ × List ℕ)
backup_of [] = None
backup_of (a ∷ []) = None
backup_of (a ∷ b ∷ []) = None
backup_of (word ∷ base ∷ to ∷ []) = backup_by (same word (codes "backup")) (is_base base) (is_base to) (with_option (Some plain) to) base to
backup_of (a ∷ b ∷ c ∷ d ∷ rest) = None

-- status 1
abbrev pub carry_usage_line : List ℕ
carry_usage_line = codes "USAGE: carry BASE [--drop] [--try] [--alone], carry state BASE, carry backup BASE TO\n"
