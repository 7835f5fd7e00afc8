-- The sample application SHOP: two terminals with users, a printer, and 32 TACs, each with a program of its name.
use Rattle.std.specs.Prelude.{ℕ, Bool, true, false, List, [], ◌∷◌, Option, Some, None, codes}
use Rattle.application_types.specs.declared.kdcdef_types.entry.CallUse.{CallUse}
use Rattle.application_types.specs.declared.kdcdef_types.entry.CallUse.TheVariants.{Both, First, Next as NextOnly}
use Rattle.application_types.specs.declared.kdcdef_types.entry.KeySet.TheVariants.{Codes}
use Rattle.application_types.specs.declared.kdcdef_types.entry.TacEntry.{TacEntry}
use Rattle.application_types.specs.Generation.{Generated}
use Rattle.kd_base.specs.declared.words.Variant.TheVariants.{Er}
use Rattle.application_types.specs.declared.unit_types.action.Action.TheVariants.{Init, Pend}
use Rattle.application_types.specs.declared.unit_types.action.UnitStatement.{UnitStatement}
use Rattle.application_types.specs.declared.unit_types.unit.Field.{Field}
use Rattle.abstract_monitor.specs.Made.{made_generation}
use Rattle.abstract_monitor.specs.State.{Application}
use Rattle.laws_of_states.specs.SampleUnits.{unit, at, hello_unit, other_units}

-- the name, TYPE=A, CALL, TACCLASS and TIME
abbrev pub tac : List ℕ → Bool → CallUse → ℕ → ℕ → List ℕ × TacEntry
tac name asynchronous call class time = (name, record { program = name; asynchronous = asynchronous; call = call; on = true; class = class; time = time; lock = None })

abbrev pub sample_tacs : List (List ℕ × TacEntry)
sample_tacs =
    tac (codes "HELLO") false Both 0 1000
    ∷ tac (codes "ORD1") false First 0 1000
    ∷ tac (codes "ORD2") false NextOnly 0 1000
    ∷ tac (codes "ADD1") false Both 0 1000
    ∷ tac (codes "CROSS1") false Both 0 1000
    ∷ tac (codes "CROSS2") false Both 0 1000
    ∷ tac (codes "HOLD") false First 0 1000
    ∷ tac (codes "HOLD2") false NextOnly 0 1000
    ∷ tac (codes "SEEK") false Both 0 1000
    ∷ tac (codes "UNL") false Both 0 1000
    ∷ tac (codes "NOMSG") false Both 0 1000
    ∷ tac (codes "NOINIT") false Both 0 1000
    ∷ tac (codes "LOOP") false Both 0 5
    ∷ tac (codes "FCA") false Both 0 1000
    ∷ tac (codes "FCB") false Both 0 1000
    ∷ tac (codes "RSA") false Both 0 1000
    ∷ tac (codes "RSB1") false Both 0 1000
    ∷ tac (codes "RSB2") false NextOnly 0 1000
    ∷ tac (codes "FER") false Both 0 1000
    ∷ tac (codes "FSP") false Both 0 1000
    ∷ tac (codes "FSP2") false NextOnly 0 1000
    ∷ tac (codes "JOB1") true Both 16 1000
    ∷ tac (codes "MAKEJ") false Both 0 1000
    ∷ tac (codes "DP") false Both 0 1000
    ∷ tac (codes "FILL") false Both 0 1000
    ∷ tac (codes "R1") false Both 0 1000
    ∷ tac (codes "R2") false NextOnly 0 1000
    ∷ tac (codes "R3") false NextOnly 0 1000
    ∷ tac (codes "TLU") false Both 0 1000
    ∷ tac (codes "TOPRT") false Both 0 1000
    ∷ tac (codes "PRA") false Both 0 1000
    ∷ tac (codes "PRB") false NextOnly 0 1000
    ∷ []

-- names and lines
abbrev pub sample_programs : List (List ℕ × ℕ)
sample_programs =
    (codes "HELLO", 6)
    ∷ (codes "ORD1", 7)
    ∷ (codes "ORD2", 8)
    ∷ (codes "ADD1", 9)
    ∷ (codes "CROSS1", 10)
    ∷ (codes "CROSS2", 11)
    ∷ (codes "HOLD", 12)
    ∷ (codes "HOLD2", 13)
    ∷ (codes "SEEK", 14)
    ∷ (codes "UNL", 15)
    ∷ (codes "NOMSG", 16)
    ∷ (codes "NOINIT", 17)
    ∷ (codes "LOOP", 18)
    ∷ (codes "FCA", 19)
    ∷ (codes "FCB", 20)
    ∷ (codes "RSA", 21)
    ∷ (codes "RSB1", 22)
    ∷ (codes "RSB2", 23)
    ∷ (codes "FER", 24)
    ∷ (codes "FSP", 25)
    ∷ (codes "FSP2", 26)
    ∷ (codes "JOB1", 27)
    ∷ (codes "MAKEJ", 28)
    ∷ (codes "DP", 29)
    ∷ (codes "FILL", 30)
    ∷ (codes "R1", 31)
    ∷ (codes "R2", 32)
    ∷ (codes "R3", 33)
    ∷ (codes "TLU", 34)
    ∷ (codes "TOPRT", 35)
    ∷ (codes "PRA", 36)
    ∷ (codes "PRB", 37)
    ∷ []

-- as what `make` generates, but for these
abbrev pub sample_generation : Generated
sample_generation = record made_generation {
  limits = record made_generation.limits { appliname = codes "SHOP"; gssbs = 4; lssbs = 2; pgpool = 16; reswait = 3 };
  programs = sample_programs;
  tacs = sample_tacs;
  users = (codes "U1", record { pass = Some (codes "PW1"); restart = true; kset = None }) ∷ (codes "U2", record { pass = None; restart = false; kset = None }) ∷ [];
  pterms = (codes "P1", record { lterm = codes "L1" }) ∷ (codes "P2", record { lterm = codes "L2" }) ∷ (codes "P3", record { lterm = codes "L3" }) ∷ [];
  lterms = (codes "L1", record { printer = false; kset = None }) ∷ (codes "L2", record { printer = false; kset = None }) ∷ (codes "L3", record { printer = true; kset = None }) ∷ [];
  tls = codes "T1" ∷ [];
  uls = codes "S1" ∷ [];
  counts = record { users = 2; pterms = 3; lterms = 3; tacs = 32; programs = 32; passed_statements = 1; passed_operands = 33 };
}

abbrev pub shop : Application
shop = record { generation = sample_generation; units = hello_unit ∷ other_units }

-- with other fields and statements in HELLO
abbrev pub hello_as : List Field → List UnitStatement → Application
hello_as fields statements = record shop { units = unit (codes "HELLO") 1 fields [] statements ∷ other_units }

-- with REDELIVERY=1, and a JOB1 that ends abnormally in its second statement
abbrev pub redelivering : Application
redelivering = record shop {
  generation = record sample_generation { limits = record sample_generation.limits { redelivery = 1 } };
  units = unit (codes "JOB1") 1 [] [] (at 2 Init ∷ at 3 (Pend Er None) ∷ []) ∷ hello_unit ∷ other_units;
}

-- the same, with KDCDLETQ in place of L3
abbrev pub with_dead_letters : Application
with_dead_letters = record redelivering {
  generation = record redelivering.generation {
    pterms = (codes "P1", record { lterm = codes "L1" }) ∷ (codes "P2", record { lterm = codes "L2" }) ∷ (codes "P3", record { lterm = codes "KDCDLETQ" }) ∷ [];
    lterms = (codes "L1", record { printer = false; kset = None }) ∷ (codes "L2", record { printer = false; kset = None }) ∷ (codes "KDCDLETQ", record { printer = true; kset = None }) ∷ [];
  };
}

-- with TACCLASS=1 for HELLO, and one task for this class
abbrev pub classed : Application
classed = record shop { generation = record sample_generation { tacs = tac (codes "HELLO") false Both 1 1000 ∷ sample_tacs; classes = (1, 1) ∷ [] } }

-- the same TAC with a lock
abbrev pub with_lock : (code : ℕ) → List ℕ × TacEntry → List ℕ × TacEntry
with_lock code e = (e.0, record e.1 { lock = Some code })

-- HELLO, FCB, JOB1 and ORD2 have locks; U1 has the codes 1 and 7, and L1 this key set, if one
abbrev pub locked : Option (List ℕ) → Application
locked kset = record shop {
  generation = record sample_generation {
    tacs = with_lock 7 (tac (codes "HELLO") false Both 0 1000)
        ∷ with_lock 8 (tac (codes "FCB") false Both 0 1000)
        ∷ with_lock 9 (tac (codes "JOB1") true Both 16 1000)
        ∷ with_lock 9 (tac (codes "ORD2") false NextOnly 0 1000)
        ∷ sample_tacs;
    users = (codes "U1", record { pass = Some (codes "PW1"); restart = true; kset = Some (codes "K1") }) ∷ (codes "U2", record { pass = None; restart = false; kset = None }) ∷ [];
    lterms = (codes "L1", record { printer = false; kset = kset }) ∷ (codes "L2", record { printer = false; kset = None }) ∷ (codes "L3", record { printer = true; kset = None }) ∷ [];
    ksets = (codes "K1", Codes (1 ∷ 7 ∷ [])) ∷ [];
  };
}
