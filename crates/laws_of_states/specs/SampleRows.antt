-- Worked rows of the sample application: what scripts print, and which tables they leave.
use Rattle.std.specs.Prelude.{◌≡◌, IsTrue, List, [], ◌∷◌, ◌++◌, Bool, true, false, map, replicate, Option, Some, None, codes, option_map}
use Rattle.kd_base.specs.declared.words.Mode.TheVariants.{Relative, Absolute}
use Rattle.kd_base.specs.declared.words.Variant.TheVariants.{Pr, Re, Sp, Fi, Fr}
use Rattle.application_types.specs.declared.unit_types.action.Action.TheVariants.{Move, Join, Add, Init, Mget, Mput, Fget, Fput, Dput, SgetGb, SputGb, SrelGb, SgetKp, SgetRl, SputMs, SgetUs, UnlkGb}
use Rattle.application_types.specs.declared.unit_types.action.Action.TheVariants.{Pend}
use Rattle.application_types.specs.declared.unit_types.action.HeaderName.TheVariants.{Crccc, Rlm}
use Rattle.application_types.specs.declared.unit_types.action.Operand.TheVariants.{Field as FieldOf, Literal, Digits, Header}
use Rattle.kdcs_types.specs.declared.call.Code.TheVariants.{K01}
use Rattle.kdcs_types.specs.declared.key.Area.TheVariants.{Gssb}
use Rattle.kdcs_types.specs.declared.service.Note.{Note}
use Rattle.kdcs_types.specs.declared.service.Note.TheVariants.{Released, Refused}
use Rattle.kdcs_types.specs.declared.service.Service.{Service}
use Rattle.kdcs_types.specs.declared.service.Settled.{Settled}
use Rattle.kdcs_types.specs.Tables.{empty_tables}
use Rattle.abstract_monitor.specs.Bytes.{Bytes}
use Rattle.abstract_monitor.specs.declared.command.Command.{Command}
use Rattle.abstract_monitor.specs.declared.command.Command.TheVariants.{Tick, Run, Turn, Drop, Print, PrintLast, Restart}
use Rattle.abstract_monitor.specs.Commands.{ScriptStep, Maker, ByTick, ByShow, ByTransaction, started}
use Rattle.abstract_monitor.specs.Trace.{history}
use Rattle.abstract_monitor.specs.Listing.{listing}
use Rattle.abstract_monitor.specs.Made.{made_lines, made_application, made_script}
use Rattle.laws_of_states.specs.Commits.{is_serial}
use Rattle.laws_of_states.specs.Replay.{noted_area}
use Rattle.laws_of_states.specs.Sample.{shop, hello_as, classed, locked, redelivering, with_dead_letters}
use Rattle.laws_of_states.specs.SampleUnits.{field, at}
use Rattle.laws_of_states.specs.SampleWords.{prints, prints_from, stores, stores_from, lists, p1, p2, s1, s2, signed_1, signed_both}

abbrev pub notes_by : Option Maker → List (List Note) → List (List Note)
notes_by None rest = rest
notes_by (Some (ByTick ticks)) rest = rest
notes_by (Some (ByShow lterm)) rest = rest
notes_by (Some (ByTransaction kept)) rest = kept.notes ∷ rest

-- the notes of each transaction that made a commit
abbrev pub notes_kept : List ScriptStep → List (List Note)
notes_kept [] = []
notes_kept (d ∷ ds) = notes_by d.by (notes_kept ds)

-- each commit of a transaction in the script is that of its record
abbrev pub serial_after : List Command → Bool
serial_after script = is_serial shop empty_tables (history shop (started shop empty_tables) script)

-- a step whose commit is by this record in place of its own
abbrev pub with_record : (Settled → Settled) → ScriptStep → ScriptStep
with_record f d = record d { by = by_record d.by }
  where
    by_record : Option Maker → Option Maker
    by_record None = None
    by_record (Some (ByTick ticks)) = Some (ByTick ticks)
    by_record (Some (ByShow lterm)) = Some (ByShow lterm)
    by_record (Some (ByTransaction kept)) = Some (ByTransaction (f kept))

-- the same where each record is another
abbrev pub serial_by : (Settled → Settled) → List Command → Bool
serial_by f script = is_serial shop empty_tables (map (with_record f) (history shop (started shop empty_tables) script))

-- a record with a row that has another last message than the one of its service
abbrev pub with_stale_row : Settled → Settled
with_stale_row kept = record kept { began = option_map (λ (row : Service). record row { last = Some [] }) kept.began }

-- a record with one more note
abbrev pub with_note : Note → Settled → Settled
with_note n kept = record kept { notes = kept.notes ++ n ∷ [] }

-- a record with a note of K01, which refuses no request, in place of each of its own
abbrev pub with_other_code : Settled → Settled
with_other_code kept = record kept { notes = map (λ (n : Note). Refused (noted_area n) K01) kept.notes }

-- the clock
pub record ClockRows : Type 0 where
  -- one tick
  pub tick : prints (Tick 5 ∷ []) ≡ codes "TICK 5\n"
  -- up to its limit
  pub limit : prints (Tick 0 ∷ Tick 999999999999 ∷ Tick 1 ∷ []) ≡ codes "TICK 0\nTICK 999999999999\nTICK REFUSED\n"
  -- the clock of a second run goes on
  pub kept : prints_from shop (stores (Tick 5 ∷ [])) (Tick 1 ∷ []) ≡ codes "TICK 6\n"

-- dialogue steps, and what a second run finds
pub record DialogueRows : Type 0 where
  -- PEND RE: the KB keeps what the first step read
  pub step : prints (s1 ∷ p1 (codes "ORD1 APPLE") ∷ Run 20 ∷ []) ≡ signed_1 ++ codes "OUT P1 QTY\n"
  -- a second run goes on from the synchronisation point
  pub resumed : prints_from shop (stores (s1 ∷ p1 (codes "ORD1 APPLE") ∷ Run 20 ∷ [])) (s1 ∷ p1 (codes "5") ∷ Run 20 ∷ []) ≡ codes "SYS P1 SIGNED ON U1\nOUT P1 QTY\nOUT P1 APPLE5\n"
  -- and so does a RESTART
  pub restarted : prints (s1 ∷ p1 (codes "ORD1 APPLE") ∷ Run 20 ∷ Restart ∷ s1 ∷ p1 (codes "5") ∷ Run 20 ∷ []) ≡ signed_1 ++ codes "OUT P1 QTY\nRESTART\nSYS P1 SIGNED ON U1\nOUT P1 QTY\nOUT P1 APPLE5\n"
  -- a user with RESTART=NO has no service left
  pub not_restarted : prints_from shop (stores (s2 ∷ p2 (codes "ORD1 APPLE") ∷ Run 20 ∷ [])) (s2 ∷ p2 (codes "5") ∷ []) ≡ codes "SYS P2 SIGNED ON U2\nSYS P2 UNKNOWN TAC\n"
  -- a message that PEND KP sent belongs to no point
  pub keep : prints (s1 ∷ p1 (codes "R1") ∷ Run 20 ∷ p1 (codes "X") ∷ Run 20 ∷ []) ≡ signed_1 ++ codes "OUT P1 ONE\nOUT P1 TWO\n"
  -- and its writes are not stored
  pub keep_listed : lists (s1 ∷ p1 (codes "R1") ∷ Run 20 ∷ p1 (codes "X") ∷ Run 20 ∷ []) ≡ codes "CLOCK 0\nNEXT 1\nSERVICE U1 R1 R2 WAITS ONE\nKB U1                 \n"
  -- the next run shows the message of the point
  pub keep_resumed : prints_from shop (stores (s1 ∷ p1 (codes "R1") ∷ Run 20 ∷ p1 (codes "X") ∷ Run 20 ∷ [])) (s1 ∷ []) ≡ codes "SYS P1 SIGNED ON U1\nOUT P1 ONE\n"
  -- DROP after PEND KP goes back to the point
  pub dropped : prints (s1 ∷ p1 (codes "R1") ∷ Run 20 ∷ p1 (codes "X") ∷ Run 20 ∷ Drop (codes "P1") ∷ s1 ∷ p1 (codes "X") ∷ Run 20 ∷ []) ≡ signed_1 ++ codes "OUT P1 ONE\nOUT P1 TWO\nSYS P1 DROPPED\nSYS P1 SIGNED ON U1\nOUT P1 ONE\nOUT P1 TWO\n"
  -- DROP of a service in a task
  pub dropped_in_task : prints (s1 ∷ p1 (codes "HELLO") ∷ Turn 1 ∷ Turn 1 ∷ Drop (codes "P1") ∷ Drop (codes "P1") ∷ Run 20 ∷ []) ≡ signed_1 ++ codes "SYS P1 DROPPED\nSYS P1 NOT SIGNED ON\n"
  -- PEND PA hands its message on; KDCDISP shows the last one again
  pub handed_on : prints (s1 ∷ p1 (codes "PRA") ∷ Run 30 ∷ p1 (codes "KDCDISP") ∷ p1 (codes "KDCOFF") ∷ p1 (codes "HELLO") ∷ []) ≡ signed_1 ++ codes "OUT P1 ONETWO\nOUT P1 ONETWO\nSYS P1 SIGNED OFF U1\nSYS P1 SIGN ON FIRST\n"
  -- what inputs mean
  pub inputs : prints (p1 (codes "KDCSIGN U9") ∷ p1 (codes "KDCSIGN U1") ∷ s1 ∷ s1 ∷ p2 (codes "KDCSIGN U1,PW1") ∷ p1 (codes "ORD2") ∷ p1 (codes "HELLO") ∷ p1 (codes "KDCOFF") ∷ Restart ∷ s1 ∷ []) ≡ codes "SYS P1 UNKNOWN USER\nSYS P1 WRONG PASSWORD\nSYS P1 SIGNED ON U1\nSYS P1 ALREADY SIGNED ON\nSYS P2 USER IS SIGNED ON\nSYS P1 TAC NOT ALLOWED\nSYS P1 SERVICE RUNNING\nRESTART\nSYS P1 SIGNED ON U1\n"
  -- no message and no job
  pub nothing_to_show : prints (s1 ∷ p1 (codes "KDCOUT") ∷ p1 (codes "KDCDISP") ∷ []) ≡ signed_1 ++ codes "SYS P1 NO MESSAGE\nSYS P1 NO MESSAGE\n"

-- locks, and interleaved services
pub record LockRows : Type 0 where
  -- two services that count
  pub counted : prints (s1 ∷ s2 ∷ p1 (codes "ADD1") ∷ p2 (codes "ADD1") ∷ Run 100 ∷ []) ≡ signed_both ++ codes "OUT P1 0001\nOUT P2 0002\n"
  -- a deadlock is answered K05
  pub crossed : prints (s1 ∷ s2 ∷ p1 (codes "CROSS1") ∷ p2 (codes "CROSS2") ∷ Run 100 ∷ []) ≡ signed_both ++ codes "OUT P2 K05\nOUT P1 K03\n"
  -- RESWAIT is over: K04; PEND KP keeps its locks
  pub late : prints (s1 ∷ s2 ∷ p1 (codes "HOLD") ∷ Run 100 ∷ p2 (codes "SEEK") ∷ Run 100 ∷ Tick 2 ∷ Run 100 ∷ Tick 1 ∷ Run 100 ∷ []) ≡ signed_both ++ codes "OUT P1 HELD\nTICK 2\nTICK 3\nOUT P2 K04\n"
  -- UNLK releases what was not written
  pub unlocked : prints (s1 ∷ s2 ∷ p1 (codes "UNL") ∷ p2 (codes "ADD1") ∷ Turn 1 ∷ Turn 1 ∷ Turn 1 ∷ Turn 1 ∷ Turn 2 ∷ Turn 2 ∷ Turn 2 ∷ Turn 2 ∷ Turn 2 ∷ Turn 2 ∷ Turn 2 ∷ Turn 1 ∷ Turn 1 ∷ Turn 1 ∷ Turn 1 ∷ []) ≡ signed_both ++ codes "OUT P2 0001\nOUT P1 K07\n"
  -- of its UNLKs the one that is done leaves a note, that the area was absent
  pub noted : notes_kept (history shop (started shop empty_tables) (s1 ∷ s2 ∷ p1 (codes "UNL") ∷ p2 (codes "ADD1") ∷ Turn 1 ∷ Turn 1 ∷ Turn 1 ∷ Turn 1 ∷ Turn 2 ∷ Turn 2 ∷ Turn 2 ∷ Turn 2 ∷ Turn 2 ∷ Turn 2 ∷ Turn 2 ∷ Turn 1 ∷ Turn 1 ∷ Turn 1 ∷ Turn 1 ∷ [])) ≡ [] ∷ (Released (Gssb (codes "CNT")) None ∷ []) ∷ []

-- the other ways to end
pub record EndRows : Type 0 where
  -- causes and their places
  pub causes : prints (s1 ∷ p1 (codes "NOMSG") ∷ Run 9 ∷ p1 (codes "NOINIT") ∷ Run 9 ∷ p1 (codes "LOOP") ∷ Run 20 ∷ []) ≡ signed_1 ++ codes "DUMP U1 NOMSG E03 2\nSYS P1 SERVICE ENDED\nDUMP U1 NOINIT E01 1\nSYS P1 SERVICE ENDED\nDUMP U1 LOOP E07 2\nSYS P1 SERVICE ENDED\n"
  -- PEND FC: the message is passed, LSSBs and KB are new
  pub follow : prints (s1 ∷ p1 (codes "FCA") ∷ Run 60 ∷ []) ≡ signed_1 ++ codes "OUT P1 PASSK03\n"
  -- PEND RS, without a point and at one that awaits an input
  pub back : prints (s1 ∷ p1 (codes "RSA") ∷ Run 20 ∷ p1 (codes "ADD1") ∷ Run 20 ∷ p1 (codes "RSB1") ∷ Run 20 ∷ p1 (codes "Y") ∷ Run 20 ∷ []) ≡ signed_1 ++ codes "SYS P1 SERVICE ENDED\nOUT P1 0001\nOUT P1 ASK\nOUT P1 ASK\n"
  -- TACCLASS 1,TASKS=1: the second service waits for the first
  pub classed : prints_from classed empty_tables (s1 ∷ s2 ∷ p1 (codes "HELLO") ∷ p2 (codes "HELLO") ∷ Turn 1 ∷ Turn 2 ∷ Turn 2 ∷ Turn 2 ∷ Turn 2 ∷ Run 20 ∷ []) ≡ signed_both ++ codes "OUT P1 HELLO\nOUT P2 HELLO\n"
  -- without a class it does not
  pub not_classed : prints (s1 ∷ s2 ∷ p1 (codes "HELLO") ∷ p2 (codes "HELLO") ∷ Turn 1 ∷ Turn 2 ∷ Turn 2 ∷ Turn 2 ∷ Turn 2 ∷ Run 20 ∷ []) ≡ signed_both ++ codes "OUT P2 HELLO\nOUT P1 HELLO\n"

-- hELLO with other statements
pub record HelloRows : Type 0 where
  -- a sum that does not fit its field
  pub overflow : prints_from (hello_as (field 2 (codes "n") true 0 4 ∷ []) (at 3 Init ∷ at 4 (Move (codes "n") (Literal (codes "9999"))) ∷ at 5 (Add (codes "n") (Digits (codes "1"))) ∷ at 6 (Mput (FieldOf (codes "n"))) ∷ at 7 (Pend Fi None) ∷ [])) empty_tables (s1 ∷ p1 (codes "HELLO") ∷ Run 20 ∷ []) ≡ signed_1 ++ codes "DUMP U1 HELLO E06 3\nSYS P1 SERVICE ENDED\n"
  -- a unit without PEND
  pub no_pend : prints_from (hello_as [] (at 2 Init ∷ [])) empty_tables (s1 ∷ p1 (codes "HELLO") ∷ Run 20 ∷ []) ≡ signed_1 ++ codes "DUMP U1 HELLO E08 2\nSYS P1 SERVICE ENDED\n"
  -- a follow-up that is no TAC
  pub no_follow_up : prints_from (hello_as (field 2 (codes "n") true 0 4 ∷ []) (at 3 Init ∷ at 4 (Mput (Literal (codes "X"))) ∷ at 5 (Move (codes "n") (Literal (codes "ZZZZ"))) ∷ at 6 (Pend Re (Some (FieldOf (codes "n")))) ∷ [])) empty_tables (s1 ∷ p1 (codes "HELLO") ∷ Run 20 ∷ []) ≡ signed_1 ++ codes "DUMP U1 HELLO E04 4\nSYS P1 SERVICE ENDED\n"
  -- a part of 81 bytes, with NB=80
  pub too_long : prints_from (hello_as [] (at 2 Init ∷ at 3 (Mput (Literal (replicate 81 88))) ∷ at 4 (Pend Fi None) ∷ [])) empty_tables (s1 ∷ p1 (codes "HELLO") ∷ Run 20 ∷ []) ≡ signed_1 ++ codes "DUMP U1 HELLO E12 2\nSYS P1 SERVICE ENDED\n"
  -- a fifth GSSB, with GSSBS=4
  pub too_many_gssbs : prints_from (hello_as [] (at 2 Init ∷ at 3 (SputGb (Literal (codes "A")) (Literal (codes "1"))) ∷ at 4 (SputGb (Literal (codes "B")) (Literal (codes "1"))) ∷ at 5 (SputGb (Literal (codes "C")) (Literal (codes "1"))) ∷ at 6 (SputGb (Literal (codes "D")) (Literal (codes "1"))) ∷ at 7 (SputGb (Literal (codes "E")) (Literal (codes "1"))) ∷ at 8 (Mput (Literal (codes "X"))) ∷ at 9 (Pend Fi None) ∷ [])) empty_tables (s1 ∷ p1 (codes "HELLO") ∷ Run 30 ∷ []) ≡ signed_1 ++ codes "DUMP U1 HELLO E10 8\nSYS P1 SERVICE ENDED\n"
  -- a third LSSB, with LSSBS=2
  pub too_many_lssbs : prints_from (hello_as [] (at 2 Init ∷ at 3 (SputMs (Literal (codes "A")) (Literal (codes "1"))) ∷ at 4 (SputMs (Literal (codes "B")) (Literal (codes "1"))) ∷ at 5 (SputMs (Literal (codes "C")) (Literal (codes "1"))) ∷ at 6 (Mput (Header Crccc)) ∷ at 7 (Pend Fi None) ∷ [])) empty_tables (s1 ∷ p1 (codes "HELLO") ∷ Run 30 ∷ []) ≡ signed_1 ++ codes "OUT P1 K09\n"
  -- a content that is longer than the field
  pub cut : prints_from (hello_as (field 2 (codes "v") true 0 8 ∷ field 3 (codes "a") true 8 8 ∷ []) (at 4 Init ∷ at 5 (SputGb (Literal (codes "A")) (Literal (codes "123456789"))) ∷ at 6 (SgetGb (Literal (codes "A")) (codes "v")) ∷ at 7 (Join (codes "a") (Header Crccc) (Header Rlm)) ∷ at 8 (Mput (FieldOf (codes "a"))) ∷ at 9 (Pend Fi None) ∷ [])) empty_tables (s1 ∷ p1 (codes "HELLO") ∷ Run 30 ∷ []) ≡ signed_1 ++ codes "OUT P1 K0200009\n"
  -- a job for nobody
  pub no_target : prints_from (hello_as [] (at 2 Init ∷ at 3 (Fput (Literal (codes "NOPE")) (Literal (codes "X"))) ∷ at 4 (Mput (Header Crccc)) ∷ at 5 (Pend Fi None) ∷ [])) empty_tables (s1 ∷ p1 (codes "HELLO") ∷ Run 30 ∷ []) ≡ signed_1 ++ codes "OUT P1 K08\n"
  -- a moment that there is not
  pub no_moment : prints_from (hello_as [] (at 2 Init ∷ at 3 (Dput (Literal (codes "L2")) Relative (Digits (codes "0")) (Digits (codes "24")) (Digits (codes "0")) (Digits (codes "0")) (Literal (codes "X"))) ∷ at 4 (Mput (Header Crccc)) ∷ at 5 (Pend Fi None) ∷ [])) empty_tables (s1 ∷ p1 (codes "HELLO") ∷ Run 30 ∷ []) ≡ signed_1 ++ codes "OUT P1 K10\n"
  -- a job that is due at a clock
  pub at_a_clock : prints_from (hello_as [] (at 2 Init ∷ at 3 (Dput (Literal (codes "L2")) Absolute (Digits (codes "0")) (Digits (codes "0")) (Digits (codes "0")) (Digits (codes "5")) (Literal (codes "FIVE"))) ∷ at 4 (Mput (Literal (codes "OK"))) ∷ at 5 (Pend Fi None) ∷ [])) empty_tables (Tick 4 ∷ s1 ∷ s2 ∷ p1 (codes "HELLO") ∷ Run 20 ∷ p2 (codes "KDCOUT") ∷ Tick 1 ∷ p2 (codes "KDCOUT") ∷ []) ≡ codes "TICK 4\nSYS P1 SIGNED ON U1\nSYS P2 SIGNED ON U2\nOUT P1 OK\nSYS P2 NO MESSAGE\nTICK 5\nASY P2 FIVE\n"
  -- and at one that is past
  pub past_a_clock : prints_from (hello_as [] (at 2 Init ∷ at 3 (Dput (Literal (codes "L2")) Absolute (Digits (codes "0")) (Digits (codes "0")) (Digits (codes "0")) (Digits (codes "5")) (Literal (codes "FIVE"))) ∷ at 4 (Mput (Literal (codes "OK"))) ∷ at 5 (Pend Fi None) ∷ [])) empty_tables (Tick 9 ∷ s1 ∷ s2 ∷ p1 (codes "HELLO") ∷ Run 20 ∷ p2 (codes "KDCOUT") ∷ []) ≡ codes "TICK 9\nSYS P1 SIGNED ON U1\nSYS P2 SIGNED ON U2\nOUT P1 OK\nASY P2 FIVE\n"

-- jobs
pub record JobRows : Type 0 where
  -- a job that is rolled back draws no number
  pub numbered : prints (s1 ∷ s2 ∷ p1 (codes "FER") ∷ Run 20 ∷ p2 (codes "KDCOUT") ∷ p1 (codes "FSP") ∷ Run 30 ∷ p2 (codes "KDCOUT") ∷ p2 (codes "KDCLAST") ∷ []) ≡ signed_both ++ codes "DUMP U1 FER ER 3\nSYS P1 SERVICE ENDED\nSYS P2 NO MESSAGE\nDUMP U1 FSP2 ER 2\nSYS P1 SERVICE ENDED\nASY P2 NOTE\nASY P2 NOTE\n"
  -- what is shown stays
  pub numbered_listed : lists (s1 ∷ s2 ∷ p1 (codes "FER") ∷ Run 20 ∷ p2 (codes "KDCOUT") ∷ p1 (codes "FSP") ∷ Run 30 ∷ p2 (codes "KDCOUT") ∷ p2 (codes "KDCLAST") ∷ []) ≡ codes "CLOCK 0\nNEXT 2\nSHOWN L2 NOTE\n"
  -- a job that is taken stays in the tables
  pub taken : prints (s1 ∷ p1 (codes "MAKEJ") ∷ Turn 1 ∷ Turn 1 ∷ Turn 1 ∷ Turn 1 ∷ Turn 1 ∷ Turn 1 ∷ Turn 1 ∷ []) ≡ signed_1 ++ codes "OUT P1 MADE\n"
  -- until the first synchronisation point of its service
  pub taken_listed : lists (s1 ∷ p1 (codes "MAKEJ") ∷ Turn 1 ∷ Turn 1 ∷ Turn 1 ∷ Turn 1 ∷ Turn 1 ∷ Turn 1 ∷ Turn 1 ∷ []) ≡ codes "CLOCK 0\nNEXT 2\nJOB 1 T JOB1 DUE 0 U1 L1 0007\n"
  -- a second run takes it again
  pub taken_again : prints_from shop (stores (s1 ∷ p1 (codes "MAKEJ") ∷ Turn 1 ∷ Turn 1 ∷ Turn 1 ∷ Turn 1 ∷ Turn 1 ∷ Turn 1 ∷ Turn 1 ∷ [])) (Run 20 ∷ []) ≡ []
  -- and its writes are stored once
  pub done_listed : listing (stores_from shop (stores (s1 ∷ p1 (codes "MAKEJ") ∷ Turn 1 ∷ Turn 1 ∷ Turn 1 ∷ Turn 1 ∷ Turn 1 ∷ Turn 1 ∷ Turn 1 ∷ [])) (Run 20 ∷ [])) ≡ codes "CLOCK 0\nNEXT 2\nGSSB CNT 0007\n"
  -- jobs in the order of their due and number
  pub due : prints (s1 ∷ s2 ∷ p1 (codes "DP") ∷ Run 20 ∷ p2 (codes "KDCOUT") ∷ p2 (codes "KDCOUT") ∷ Tick 9 ∷ p2 (codes "KDCOUT") ∷ Tick 1 ∷ p2 (codes "KDCOUT") ∷ p2 (codes "KDCOUT") ∷ []) ≡ signed_both ++ codes "OUT P1 DONE\nASY P2 NOW\nSYS P2 NO MESSAGE\nTICK 9\nSYS P2 NO MESSAGE\nTICK 10\nASY P2 TEN\nASY P2 TWO\n"
  -- a full page pool refuses a synchronisation point, and no abnormal end
  pub full : prints (s1 ∷ p1 (codes "FILL") ∷ Run 200 ∷ p1 (codes "MAKEJ") ∷ Run 20 ∷ p1 (codes "HELLO") ∷ Run 20 ∷ []) ≡ signed_1 ++ codes "OUT P1 FULL\nDUMP U1 MAKEJ E09 4\nSYS P1 SERVICE ENDED\nOUT P1 HELLO\n"
  -- a printer
  pub printed : prints (s1 ∷ p1 (codes "TOPRT") ∷ Run 20 ∷ Print (codes "P3") ∷ Print (codes "P3") ∷ PrintLast (codes "P3") ∷ []) ≡ signed_1 ++ codes "OUT P1 OK\nPRT P3 PAPER\nSYS P3 NO MESSAGE\nPRT P3 PAPER\n"
  -- TLS and ULS blocks; K08 for one that is not declared
  pub blocks : prints (s1 ∷ p1 (codes "TLU") ∷ Run 20 ∷ []) ≡ signed_1 ++ codes "OUT P1 K08\n"
  -- and their rows
  pub blocks_listed : lists (s1 ∷ p1 (codes "TLU") ∷ Run 20 ∷ []) ≡ codes "CLOCK 0\nNEXT 1\nTLS T1 L1 AB\nULS S1 U1 CD\n"
  -- the numbers are spent
  pub spent : prints_from shop (record empty_tables { next_job = 1000000000000 }) (s1 ∷ p1 (codes "MAKEJ") ∷ Run 20 ∷ []) ≡ signed_1 ++ codes "DUMP U1 MAKEJ E11 4\nSYS P1 SERVICE ENDED\n"
  -- and the next job number stays
  pub spent_listed : listing (stores_from shop (record empty_tables { next_job = 1000000000000 }) (s1 ∷ p1 (codes "MAKEJ") ∷ Run 20 ∷ [])) ≡ codes "CLOCK 0\nNEXT 1000000000000\n"

-- locks of TACs, and key sets
pub record AccessRows : Type 0 where
  -- with the code at user and LTERM the service starts; a user without it is denied, and the follow-up of a PEND FC is none
  pub rule : prints_from (locked (Some (codes "K1"))) empty_tables (s1 ∷ s2 ∷ p1 (codes "HELLO") ∷ Run 20 ∷ p2 (codes "HELLO") ∷ p1 (codes "FCA") ∷ Run 60 ∷ []) ≡ signed_both ++ codes "OUT P1 HELLO\nSYS P2 TAC DENIED USER 7\nDUMP U1 FCA E04 5\nSYS P1 SERVICE ENDED\n"
  -- an LTERM without it
  pub lterm : prints_from (locked None) empty_tables (s1 ∷ p1 (codes "HELLO") ∷ []) ≡ signed_1 ++ codes "SYS P1 TAC DENIED LTERM 7\n"
  -- the rule comes before the length of the message
  pub long : prints_from (locked (Some (codes "K1"))) empty_tables (s1 ∷ p1 (codes "FCB " ++ replicate 81 88) ∷ []) ≡ signed_1 ++ codes "SYS P1 TAC DENIED USER 8\n"
  -- no other follow-up asks it
  pub follow_up : prints_from (locked (Some (codes "K1"))) empty_tables (s1 ∷ p1 (codes "ORD1 APPLE") ∷ Run 20 ∷ p1 (codes "5") ∷ Run 20 ∷ []) ≡ signed_1 ++ codes "OUT P1 QTY\nOUT P1 APPLE5\n"
  -- and no job does
  pub job : listing (stores_from (locked (Some (codes "K1"))) empty_tables (s1 ∷ p1 (codes "MAKEJ") ∷ Run 40 ∷ [])) ≡ codes "CLOCK 0\nNEXT 2\nGSSB CNT 0007\n"

-- rules of calls, PENDs and inputs, one by one
pub record RuleRows : Type 0 where
  -- a comma with nothing after it is a password; no name; no sign-on
  pub sign_on : prints (p2 (codes "KDCSIGN U2,") ∷ p2 (codes "KDCSIGN") ∷ p2 (codes "HI") ∷ []) ≡ codes "SYS P2 WRONG PASSWORD\nSYS P2 BAD SIGN ON\nSYS P2 SIGN ON FIRST\n"
  -- a message of 81 bytes after the TAC, with NB=80
  pub too_long_input : prints (s1 ∷ p1 (codes "HELLO " ++ replicate 81 88) ∷ []) ≡ signed_1 ++ codes "SYS P1 INPUT TOO LONG\n"
  -- and one of 80
  pub at_the_limit : prints_from (hello_as (field 2 (codes "v") true 0 8 ∷ []) (at 3 Init ∷ at 4 (Mget (codes "v")) ∷ at 5 (Mput (Header Rlm)) ∷ at 6 (Pend Fi None) ∷ [])) empty_tables (s1 ∷ p1 (codes "HELLO " ++ replicate 80 88) ∷ Run 20 ∷ []) ≡ signed_1 ++ codes "OUT P1 00080\n"
  -- a second MGET
  pub no_part_left : prints_from (hello_as (field 2 (codes "v") true 0 8 ∷ []) (at 3 Init ∷ at 4 (Mget (codes "v")) ∷ at 5 (Mget (codes "v")) ∷ at 6 (Mput (Header Crccc)) ∷ at 7 (Pend Fi None) ∷ [])) empty_tables (s1 ∷ p1 (codes "HELLO") ∷ Run 20 ∷ []) ≡ signed_1 ++ codes "OUT P1 K01\n"
  -- FGET in a dialogue service
  pub wrong_kind : prints_from (hello_as (field 2 (codes "v") true 0 8 ∷ []) (at 3 Init ∷ at 4 (Fget (codes "v")) ∷ at 5 (Pend Fi None) ∷ [])) empty_tables (s1 ∷ p1 (codes "HELLO") ∷ Run 20 ∷ []) ≡ signed_1 ++ codes "DUMP U1 HELLO E02 2\nSYS P1 SERVICE ENDED\n"
  -- INIT again
  pub second_init : prints_from (hello_as [] (at 2 Init ∷ at 3 Init ∷ at 4 (Pend Fi None) ∷ [])) empty_tables (s1 ∷ p1 (codes "HELLO") ∷ Run 20 ∷ []) ≡ signed_1 ++ codes "DUMP U1 HELLO E01 2\nSYS P1 SERVICE ENDED\n"
  -- the follow-up is tested before the message
  pub follow_up_first : prints_from (hello_as [] (at 2 Init ∷ at 3 (Pend Re (Some (Literal (codes "HOLD")))) ∷ [])) empty_tables (s1 ∷ p1 (codes "HELLO") ∷ Run 20 ∷ []) ≡ signed_1 ++ codes "DUMP U1 HELLO E04 2\nSYS P1 SERVICE ENDED\n"
  -- an operand that is no name
  pub no_name : prints_from (hello_as [] (at 2 Init ∷ at 3 (SrelGb (Literal (codes "A-B"))) ∷ at 4 (Mput (Header Crccc)) ∷ at 5 (Pend Fi None) ∷ [])) empty_tables (s1 ∷ p1 (codes "HELLO") ∷ Run 20 ∷ []) ≡ signed_1 ++ codes "OUT P1 K11\n"
  -- a GSSB that there is not
  pub no_gssb : prints_from (hello_as [] (at 2 Init ∷ at 3 (SrelGb (Literal (codes "A"))) ∷ at 4 (Mput (Header Crccc)) ∷ at 5 (Pend Fi None) ∷ [])) empty_tables (s1 ∷ p1 (codes "HELLO") ∷ Run 20 ∷ []) ≡ signed_1 ++ codes "OUT P1 K03\n"
  -- a block that there is not is empty
  pub empty_block : prints_from (hello_as (field 2 (codes "v") true 0 8 ∷ field 3 (codes "a") true 8 8 ∷ []) (at 4 Init ∷ at 5 (SgetUs (Literal (codes "S1")) (codes "v")) ∷ at 6 (Join (codes "a") (Header Crccc) (Header Rlm)) ∷ at 7 (Mput (FieldOf (codes "a"))) ∷ at 8 (Pend Fi None) ∷ [])) empty_tables (s1 ∷ p1 (codes "HELLO") ∷ Run 20 ∷ []) ≡ signed_1 ++ codes "OUT P1 00000000\n"
  -- UNLK of an area that is not held
  pub not_held : prints_from (hello_as [] (at 2 Init ∷ at 3 (UnlkGb (Literal (codes "A"))) ∷ at 4 (Mput (Header Crccc)) ∷ at 5 (Pend Fi None) ∷ [])) empty_tables (s1 ∷ p1 (codes "HELLO") ∷ Run 20 ∷ []) ≡ signed_1 ++ codes "OUT P1 K06\n"
  -- SGET RL deletes
  pub read_away : prints_from (hello_as (field 2 (codes "v") true 0 8 ∷ []) (at 3 Init ∷ at 4 (SputMs (Literal (codes "A")) (Literal (codes "X"))) ∷ at 5 (SgetRl (Literal (codes "A")) (codes "v")) ∷ at 6 (SgetKp (Literal (codes "A")) (codes "v")) ∷ at 7 (Mput (Header Crccc)) ∷ at 8 (Pend Fi None) ∷ [])) empty_tables (s1 ∷ p1 (codes "HELLO") ∷ Run 20 ∷ []) ≡ signed_1 ++ codes "OUT P1 K03\n"
  -- PEND FR has no dump line
  pub broken : prints_from (hello_as [] (at 2 Init ∷ at 3 (Mput (Literal (codes "X"))) ∷ at 4 (Pend Fr None) ∷ [])) empty_tables (s1 ∷ p1 (codes "HELLO") ∷ Run 20 ∷ []) ≡ signed_1 ++ codes "SYS P1 SERVICE ENDED\n"
  -- PEND PR goes on in the same task
  pub stays : prints_from (hello_as [] (at 2 Init ∷ at 3 (Mput (Literal (codes "ONE"))) ∷ at 4 (Pend Pr (Some (Literal (codes "PRB")))) ∷ [])) empty_tables (s1 ∷ p1 (codes "HELLO") ∷ Run 20 ∷ []) ≡ signed_1 ++ codes "OUT P1 ONETWO\n"
  -- PEND RS at a point of PEND SP goes on from it, again and again
  pub back_to_ready : prints_from (hello_as [] (at 2 Init ∷ at 3 (Mput (Literal (codes "X"))) ∷ at 4 (Pend Sp (Some (Literal (codes "RSB2")))) ∷ [])) empty_tables (s1 ∷ p1 (codes "HELLO") ∷ Run 50 ∷ p1 (codes "X") ∷ p1 (codes "KDCDISP") ∷ []) ≡ signed_1 ++ codes "SYS P1 SERVICE RUNNING\nSYS P1 NO MESSAGE\n"

-- a job whose service ends abnormally
abbrev pub failing_job : List Command
failing_job = s1 ∷ p1 (codes "MAKEJ") ∷ Run 40 ∷ []

-- the lines of both deliveries
abbrev pub failed_twice : Bytes
failed_twice = signed_1 ++ codes "OUT P1 MADE\nDUMP #1 JOB1 ER 2\nDUMP #1 JOB1 ER 2\n"

-- repeated delivery, with REDELIVERY=1
pub record RedeliveryRows : Type 0 where
  -- the job is delivered again once
  pub twice : prints_from redelivering empty_tables failing_job ≡ failed_twice
  -- and is gone then
  pub gone : listing (stores_from redelivering empty_tables failing_job) ≡ codes "CLOCK 0\nNEXT 2\n"
  -- a dead letter is printed as any other message
  pub printed : prints_from with_dead_letters empty_tables (failing_job ++ Print (codes "P3") ∷ Print (codes "P3") ∷ []) ≡ failed_twice ++ codes "PRT P3 0007\nSYS P3 NO MESSAGE\n"
  -- and shown
  pub shown : listing (stores_from with_dead_letters empty_tables (failing_job ++ Print (codes "P3") ∷ Print (codes "P3") ∷ [])) ≡ codes "CLOCK 0\nNEXT 2\nSHOWN KDCDLETQ 0007\n"
  -- it has the number and the due of the job
  pub dead_letter : listing (stores_from with_dead_letters empty_tables failing_job) ≡ codes "CLOCK 0\nNEXT 2\nJOB 1 L KDCDLETQ DUE 0 U1 L1 0007\n"
  -- each commit is that of its record
  pub serial : IsTrue (is_serial with_dead_letters empty_tables (history with_dead_letters (started with_dead_letters empty_tables) failing_job))

-- each commit of a transaction is that of its record, run in one go
pub record SerialRows : Type 0 where
  -- two services that count
  pub counted : IsTrue (serial_after (s1 ∷ s2 ∷ p1 (codes "ADD1") ∷ p2 (codes "ADD1") ∷ Run 100 ∷ []))
  -- a deadlock
  pub crossed : IsTrue (serial_after (s1 ∷ s2 ∷ p1 (codes "CROSS1") ∷ p2 (codes "CROSS2") ∷ Run 100 ∷ []))
  -- a request that was late
  pub late : IsTrue (serial_after (s1 ∷ s2 ∷ p1 (codes "HOLD") ∷ Run 100 ∷ p2 (codes "SEEK") ∷ Run 100 ∷ Tick 2 ∷ Run 100 ∷ Tick 1 ∷ Run 100 ∷ p1 (codes "GO") ∷ Run 20 ∷ []))
  -- an area that was released, and then written by another
  pub unlocked : IsTrue (serial_after (s1 ∷ s2 ∷ p1 (codes "UNL") ∷ p2 (codes "ADD1") ∷ Turn 1 ∷ Turn 1 ∷ Turn 1 ∷ Turn 1 ∷ Turn 2 ∷ Turn 2 ∷ Turn 2 ∷ Turn 2 ∷ Turn 2 ∷ Turn 2 ∷ Turn 2 ∷ Turn 1 ∷ Turn 1 ∷ Turn 1 ∷ Turn 1 ∷ []))
  -- abnormal ends
  pub causes : IsTrue (serial_after (s1 ∷ p1 (codes "NOMSG") ∷ Run 9 ∷ p1 (codes "NOINIT") ∷ Run 9 ∷ p1 (codes "LOOP") ∷ Run 20 ∷ []))
  -- PEND FC
  pub follow : IsTrue (serial_after (s1 ∷ p1 (codes "FCA") ∷ Run 60 ∷ []))
  -- PEND RS
  pub back : IsTrue (serial_after (s1 ∷ p1 (codes "RSA") ∷ Run 20 ∷ p1 (codes "ADD1") ∷ Run 20 ∷ p1 (codes "RSB1") ∷ Run 20 ∷ p1 (codes "Y") ∷ Run 20 ∷ []))
  -- PEND SP and jobs
  pub numbered : IsTrue (serial_after (s1 ∷ s2 ∷ p1 (codes "FER") ∷ Run 20 ∷ p2 (codes "KDCOUT") ∷ p1 (codes "FSP") ∷ Run 30 ∷ p2 (codes "KDCOUT") ∷ p2 (codes "KDCLAST") ∷ []))
  -- a user with RESTART=NO
  pub not_durable : IsTrue (serial_after (s2 ∷ p2 (codes "ORD1 APPLE") ∷ Run 20 ∷ p2 (codes "5") ∷ Run 20 ∷ []))
  -- a record that names a stale row of a user with RESTART=YES is none of its commit
  pub stale_row : serial_by with_stale_row (s1 ∷ p1 (codes "ORD1 APPLE") ∷ Run 20 ∷ p1 (codes "5") ∷ Run 20 ∷ []) ≡ false
  -- nor is one with a note that its replay does not use
  pub idle_note : serial_by (with_note (Released (Gssb (codes "CNT")) None)) (s1 ∷ p1 (codes "ADD1") ∷ Run 20 ∷ []) ≡ false
  -- nor one with a note of a code that refuses no request
  pub no_refusal : serial_by with_other_code (s1 ∷ p1 (codes "UNL") ∷ Run 20 ∷ []) ≡ false
  -- jobs that services take
  pub jobs : IsTrue (serial_after (s1 ∷ p1 (codes "MAKEJ") ∷ Run 40 ∷ p1 (codes "FILL") ∷ Run 200 ∷ p1 (codes "MAKEJ") ∷ Run 20 ∷ []))
  -- the made input
  pub made : IsTrue (is_serial made_application empty_tables (history made_application (started made_application empty_tables) (made_script 20)))

-- the made input, without its digest
pub record MadeRows : Type 0 where
  -- `make 1`
  pub one : made_lines 1 ≡ codes "INPUTS 1\nCOMMITS 2\nLINES 5\nCLOCK 0\nTOTAL 00000001\n"
  -- `make 100`
  pub hundred : made_lines 100 ≡ codes "INPUTS 100\nCOMMITS 201\nLINES 105\nCLOCK 1\nTOTAL 00000450\n"
