-- The made input as texts: a definition, its units, and a script for each number of inputs.
use Rattle.std.specs.Prelude.{ℕ, ◌+◌, ◌%◌, List, [], ◌∷◌, ◌++◌, flat_map, codes, decimal}
use Rattle.abstract_monitor.specs.Bytes.{Bytes}
use Rattle.abstract_monitor.specs.Lines.{line}
use Rattle.abstract_monitor.specs.Made.{for_four, numbered_name, made_script}
use Rattle.abstract_monitor.specs.declared.command.Command.{Command}
use Rattle.abstract_monitor.specs.declared.command.Command.TheVariants.{Input, Tick, Run, Turn, Drop, Print, PrintLast, Restart}

-- lines, each ended by LF
abbrev pub text_of : List Bytes → Bytes
text_of lines = flat_map line lines

-- user Uk, LTERM Lk, and PTERM Pk at LTERM Lk
abbrev pub terminal_lines : ℕ → List Bytes
terminal_lines k =
    (codes "USER " ++ numbered_name (codes "U") k)
    ∷ (codes "LTERM " ++ numbered_name (codes "L") k)
    ∷ (codes "PTERM " ++ numbered_name (codes "P") k ++ codes ",LTERM=" ++ numbered_name (codes "L") k)
    ∷ []

-- two TACs with a program each, and four terminals with a user each
abbrev pub definition_text : Bytes
definition_text = text_of (
    codes "MAX APPLINAME=MAKE,TASKS=2,KB=16,SPAB=64,NB=80,PGPOOL=64,BLKSIZE=2K"
    ∷ codes "PROGRAM ADD"
    ∷ codes "PROGRAM TALLY"
    ∷ codes "TAC ADD,PROGRAM=ADD"
    ∷ codes "TAC TALLY,PROGRAM=TALLY,TYPE=A"
    ∷ flat_map terminal_lines (for_four (λ k. k))
    ++ codes "END" ∷ [])

-- its units: ADD adds one to CNT and hands its input on to TALLY, which adds it to TOTAL
abbrev pub units_text : Bytes
units_text = text_of (
    codes "UNIT ADD"
    ∷ codes "FIELD v SPAB 0 8"
    ∷ codes "FIELD n SPAB 8 8"
    ∷ codes "INIT"
    ∷ codes "MGET v"
    ∷ codes "SGET GB 'CNT' n"
    ∷ codes "ADD n 1"
    ∷ codes "SPUT GB 'CNT' n"
    ∷ codes "FPUT 'TALLY' v"
    ∷ codes "MPUT n"
    ∷ codes "PEND FI"
    ∷ codes "END"
    ∷ codes "UNIT TALLY"
    ∷ codes "FIELD v SPAB 0 8"
    ∷ codes "FIELD n SPAB 8 8"
    ∷ codes "INIT"
    ∷ codes "FGET v"
    ∷ codes "SGET GB 'TOTAL' n"
    ∷ codes "ADD n v"
    ∷ codes "SPUT GB 'TOTAL' n"
    ∷ codes "PEND FI"
    ∷ codes "END"
    ∷ [])

-- a command, as it is written in a script
abbrev pub command_line : Command → Bytes
command_line (Input pterm text) = line (codes "IN " ++ pterm ++ 32 ∷ text)
command_line (Tick ticks) = line (codes "TICK " ++ decimal ticks)
command_line (Run turns) = line (codes "RUN " ++ decimal turns)
command_line (Turn task) = line (codes "TURN " ++ decimal task)
command_line (Drop pterm) = line (codes "DROP " ++ pterm)
command_line (Print pterm) = line (codes "PRINT " ++ pterm)
command_line (PrintLast pterm) = line (codes "PRINT " ++ pterm ++ codes " LAST")
command_line Restart = line (codes "RESTART")

-- the line of input i: a digit for ADD, at the terminals in rotation
abbrev pub input_line : ℕ → Bytes
input_line i = command_line (Input (numbered_name (codes "P") ((i + 3) % 4 + 1)) (codes "ADD " ++ decimal (i % 10)))

-- the commands of the made script for n inputs, each on a line
abbrev pub script_text : ℕ → Bytes
script_text n = flat_map command_line (made_script n)
