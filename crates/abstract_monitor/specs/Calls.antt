-- What each KDCS call answers, and how it changes the open transaction. A call is told of the outside in one value, by the running system or by a replay.
use Rattle.std.specs.Prelude.{ℕ, ◌+◌, ◌*◌, Bool, true, false, ◌&&◌, not, List, [], ◌∷◌, ◌++◌, length, sum_by, filter, Option, Some, None, Result, Ok, Err, nat_lt, nat_le, is_some, bytes_eq}
use Rattle.std.specs.Prelude.{if◌then◌else◌}
use Rattle.std.specs.List.{list_any}
use Rattle.std.specs.FinMap.{find, put}
use Rattle.std.specs.FinMap.Entries.{where_key}
use Rattle.kd_base.specs.Text.{name_of}
use Rattle.kd_base.specs.declared.words.Variant.{Variant}
use Rattle.kd_base.specs.declared.words.Variant.TheVariants.{Fc}
use Rattle.kd_base.specs.declared.words.Mode.{Mode}
use Rattle.kd_base.specs.declared.words.Mode.TheVariants.{Relative, Absolute}
use Rattle.kdcs_types.specs.declared.call.Call.{Call}
use Rattle.kdcs_types.specs.declared.call.Call.TheVariants.{Init, Mget, Mput, Fget, Fput, Dput, SgetGb, SputGb, SrelGb, SgetKp, SgetRl, SputMs, SrelLb, SgetUs, SputUs, Gtda, Ptda, UnlkGb, UnlkUs}
use Rattle.kdcs_types.specs.declared.call.Call.TheVariants.{UnlkDa, Pend}
use Rattle.kdcs_types.specs.declared.call.Cause.{Cause}
use Rattle.kdcs_types.specs.declared.call.Cause.TheVariants.{E01, E02, E12}
use Rattle.kdcs_types.specs.declared.call.Code.{Code}
use Rattle.kdcs_types.specs.declared.call.Code.TheVariants.{Done, K01, K02, K03, K04, K05, K06, K07, K08, K09, K10, K11}
use Rattle.kdcs_types.specs.declared.call.Reply.{Reply}
use Rattle.kdcs_types.specs.declared.key.Area.{Area}
use Rattle.kdcs_types.specs.declared.key.Area.TheVariants.{Gssb, Tls, Uls}
use Rattle.kdcs_types.specs.declared.key.Target.{Target}
use Rattle.kdcs_types.specs.declared.key.Target.TheVariants.{Tac, Lterm}
use Rattle.kdcs_types.specs.declared.service.Note.TheVariants.{Released, Refused}
use Rattle.application_types.specs.declared.kdcdef_types.entry.TacEntry.{TacEntry}
use Rattle.application_types.specs.declared.kdcdef_types.entry.LtermEntry.{LtermEntry}
use Rattle.application_types.specs.Generation.{Generated, tac_of, lterm_of, has_tls, has_uls}
use Rattle.abstract_monitor.specs.declared.access.Denial.{Denial}
use Rattle.abstract_monitor.specs.declared.answer.LockAnswer.{LockAnswer}
use Rattle.abstract_monitor.specs.declared.answer.LockAnswer.TheVariants.{Granted, Wait, Busy, Deadlock}
use Rattle.abstract_monitor.specs.declared.answer.Called.{Called}
use Rattle.abstract_monitor.specs.declared.answer.Called.TheVariants.{Replied, Waits, Abnormal, Pends}
use Rattle.abstract_monitor.specs.declared.outcome.Outcome.{Outcome}
use Rattle.abstract_monitor.specs.declared.draft.Due.{Due}
use Rattle.abstract_monitor.specs.declared.draft.Due.TheVariants.{After, At}
use Rattle.abstract_monitor.specs.Bytes.{Bytes, bytes_cmp}
use Rattle.abstract_monitor.specs.Access.{Rule, denial_of}
use Rattle.kdcs_types.specs.Keys.{area_cmp, area_eq}
use Rattle.kd_base.specs.Text.{trim_end}
use Rattle.abstract_monitor.specs.Contents.{number_of}
use Rattle.abstract_monitor.specs.State.{OpenTransaction}
use Rattle.abstract_monitor.specs.Outcomes.{goes_first, pend_outcome}

-- what a call is told of the area of which it asks: how a request for it is answered, and its content in the tables
pub record Told : Type 0 where
  pub answer : LockAnswer
  pub content : Option Bytes

-- what a call is told that asks of no area
abbrev pub nothing_told : Told
nothing_told = record { answer = Granted; content = None }

-- the open transaction after a call, and what the call does
abbrev pub Performed : Type 0
Performed = OpenTransaction × Called

-- ---- answers

-- a code alone, with KCRLM 0
abbrev pub plain_reply : Code → Reply
plain_reply code = record { code = code; length = 0; content = None }

-- a content that was read into a field of this length: K02 where it is longer
abbrev pub read_reply : ℕ → Bytes → Reply
read_reply capacity bytes = record { code = if nat_lt capacity (length bytes) then K02 else Done; length = length bytes; content = Some bytes }

-- the call is answered with a code alone
abbrev pub replied : OpenTransaction → Code → Performed
replied x code = (x, Replied (plain_reply code))

-- the call is answered with what was read into a field of this length
abbrev pub read_answer : OpenTransaction → ℕ → Bytes → Performed
read_answer x capacity bytes = (x, Replied (read_reply capacity bytes))

-- the service ends abnormally, with nothing done
abbrev pub refused : OpenTransaction → Cause → Performed
refused x cause = (x, Abnormal cause)

-- what was read, or this code where there is nothing
abbrev pub read_or : Code → OpenTransaction → ℕ → Option Bytes → Performed
read_or code x capacity None = replied x code
read_or code x capacity (Some bytes) = read_answer x capacity bytes

-- E02 where the call is not for this kind of service
abbrev pub for_kind : OpenTransaction → (allowed : Bool) → Performed → Performed
for_kind x true go = go
for_kind x false go = refused x E02

-- E12 where the bytes are longer than a message may be
abbrev pub within_length : OpenTransaction → (fits : Bool) → Performed → Performed
within_length x true go = go
within_length x false go = refused x E12

-- a name operand: the bytes without trailing spaces, where they are a name
abbrev pub name_in_operand : Bytes → Option Bytes
name_in_operand bytes = name_of (trim_end bytes)

-- K11 where the operand is no name
abbrev pub with_name : OpenTransaction → Option Bytes → (Bytes → Performed) → Performed
with_name x None go = replied x K11
with_name x (Some name) go = go name

-- K08 where the block is not declared
abbrev pub declared : OpenTransaction → Bool → Performed → Performed
declared x true go = go
declared x false go = replied x K08

-- ---- locks

-- the transaction holds the area
abbrev pub touches : OpenTransaction → Area → Bool
touches x area = list_any (λ (held : Area). area_eq held area) x.touched

-- the area is held from now on
abbrev pub touching : OpenTransaction → Area → (held : Bool) → OpenTransaction
touching x area true = x
touching x area false = record x { touched = x.touched ++ area ∷ [] }

-- K04 and K05 are noted
abbrev pub noted : OpenTransaction → Area → Code → OpenTransaction
noted x area code = record x { notes = x.notes ++ Refused area code ∷ [] }

-- the call goes on with the lock, or waits, or is answered K04 or K05
abbrev pub on_answer : OpenTransaction → Area → LockAnswer → (OpenTransaction → Performed) → Performed
on_answer x area Granted go = go (touching x area (touches x area))
on_answer x area Wait go = (x, Waits)
on_answer x area Busy go = replied (noted x area K04) K04
on_answer x area Deadlock go = replied (noted x area K05) K05

-- a request for an area that the transaction holds is granted, whatever it is told
abbrev pub answer_by : Told → (held : Bool) → LockAnswer
answer_by v true = Granted
answer_by v false = v.answer

-- the request for the area: a lock that is granted is held from now on
abbrev pub locked : Told → OpenTransaction → Area → (OpenTransaction → Performed) → Performed
locked v x area go = on_answer x area (answer_by v (touches x area)) go

-- the own write or deletion comes before what lies outside
abbrev pub shown_by : Option (Option Bytes) → Option Bytes → Option Bytes
shown_by None outside = outside
shown_by (Some own) outside = own

-- what the transaction sees: its own last write or deletion of the area, else what lies outside
abbrev pub seen : Told → OpenTransaction → Area → Option Bytes
seen v x area = shown_by (find area_cmp area x.written) v.content

-- ---- messages

-- K01 where no part is left
abbrev pub got_by : OpenTransaction → ℕ → List Bytes → Performed
got_by x capacity [] = replied x K01
got_by x capacity (part ∷ rest) = read_answer (record x { unread = rest }) capacity part

-- MGET and FGET: the next part that is still to be read, a cut part too
abbrev pub got : OpenTransaction → ℕ → Performed
got x capacity = got_by x capacity x.unread

-- one more part makes at most 16 parts, of at most NB bytes together
abbrev pub fits_one_more : (nb : ℕ) → (parts : List Bytes) → Bytes → Bool
fits_one_more nb parts bytes = nat_le (sum_by length parts + length bytes) nb && nat_lt (length parts) 16

-- MPUT: one more message part
abbrev pub put_part : Generated → OpenTransaction → Bytes → Performed
put_part g x bytes = within_length x (fits_one_more g.limits.nb x.parts bytes) (replied (record x { parts = x.parts ++ bytes ∷ [] }) Done)

-- an LTERM and a TAC never have one name
abbrev pub target_by : Bytes → Option LtermEntry → Option TacEntry → Option Target
target_by name (Some l) t = Some (Lterm name)
target_by name None None = None
target_by name None (Some t) = if t.asynchronous && goes_first t.call && t.on then Some (Tac name) else None

-- whom a job may go to: an LTERM, or an asynchronous TAC with CALL other than NEXT and STATUS=ON
unfoldable pub job_target : Generated → Bytes → Option Target
job_target g name = target_by name (lterm_of g name) (tac_of g name)

-- so many ticks from now on, or at this clock
abbrev pub due_in : Mode → ℕ → Due
due_in Relative ticks = After ticks
due_in Absolute ticks = At ticks

-- days, hours, minutes and seconds, where they are in range
unfoldable pub moment_of : Mode → ℕ → ℕ → ℕ → ℕ → Option Due
moment_of mode d h m s =
    if nat_le d 9999 && nat_le h 23 && nat_le m 59 && nat_le s 59
    then Some (due_in mode (86400 * d + 3600 * h + 60 * m + s))
    else None

-- K10 where a number operand is no number
abbrev pub moment_by : Mode → Option ℕ → Option ℕ → Option ℕ → Option ℕ → Option Due
moment_by mode (Some d) (Some h) (Some m) (Some s) = moment_of mode d h m s
moment_by mode _ _ _ _ = None

-- a new draft, once its target (K08) and then its moment (K10) are found
abbrev pub drafted : OpenTransaction → Option Target → Option Due → Bytes → Performed
drafted x None due message = replied x K08
drafted x (Some to) None message = replied x K10
drafted x (Some to) (Some due) message = replied (record x { drafts = x.drafts ++ record { to = to; due = due; message = message } ∷ [] }) Done

-- FPUT and DPUT
abbrev pub put_job : Generated → OpenTransaction → Bytes → Option Due → Bytes → Performed
put_job g x to due message =
    within_length x (nat_le (length message) g.limits.nb) (with_name x (name_in_operand to) (λ name. drafted x (job_target g name) due message))

-- ---- areas

-- the area has this content, or is absent, for this transaction
abbrev pub wrote : OpenTransaction → Area → Option Bytes → Performed
wrote x area content = replied (record x { written = put area_cmp area content x.written }) Done

-- K03 where the area is absent
abbrev pub deleted : OpenTransaction → Area → Option Bytes → Performed
deleted x area None = replied x K03
deleted x area (Some bytes) = wrote x area None

-- SGET GB
abbrev pub read_gssb : Told → OpenTransaction → Bytes → ℕ → Performed
read_gssb v x name capacity = locked v x (Gssb name) (λ y. read_or K03 y capacity (seen v y (Gssb name)))

-- SPUT GB
abbrev pub write_gssb : Told → OpenTransaction → Bytes → Bytes → Performed
write_gssb v x name bytes = locked v x (Gssb name) (λ y. wrote y (Gssb name) (Some bytes))

-- SREL GB
abbrev pub delete_gssb : Told → OpenTransaction → Bytes → Performed
delete_gssb v x name = locked v x (Gssb name) (λ y. deleted y (Gssb name) (seen v y (Gssb name)))

-- an absent block is empty
abbrev pub or_empty : Option Bytes → Bytes
or_empty None = []
or_empty (Some bytes) = bytes

-- SGET US and GTDA: a block that is absent is read as empty
abbrev pub read_block : Told → OpenTransaction → Area → ℕ → Performed
read_block v x area capacity = locked v x area (λ y. read_answer y capacity (or_empty (seen v y area)))

-- SPUT US and PTDA
abbrev pub write_block : Told → OpenTransaction → Area → Bytes → Performed
write_block v x area bytes = locked v x area (λ y. wrote y area (Some bytes))

-- UNLK: the area is held by this transaction (K06), and it has not written or deleted it (K07)
abbrev pub unlocked_by : Told → OpenTransaction → Area → (held written : Bool) → Performed
unlocked_by v x area false _ = replied x K06
unlocked_by v x area true true = replied x K07
unlocked_by v x area true false =
    replied (record x { touched = filter (λ (held : Area). not (area_eq held area)) x.touched; notes = x.notes ++ Released area v.content ∷ [] }) Done

-- UNLK of an area
abbrev pub unlocked : Told → OpenTransaction → Area → Performed
unlocked v x area = unlocked_by v x area (touches x area) (is_some (find area_cmp area x.written))

-- ---- LSSBs

-- the LSSBs without one
abbrev pub without_local : Bytes → List (Bytes × Bytes) → List (Bytes × Bytes)
without_local name lssbs = where_key bytes_cmp (λ n. not (bytes_eq name n)) lssbs

-- SPUT MS: K09 where the name is new and there are LSSBS of them
abbrev pub write_local : Generated → OpenTransaction → Bytes → Bytes → Performed
write_local g x name bytes =
    if not (is_some (find bytes_cmp name x.lssbs)) && nat_le g.limits.lssbs (length x.lssbs)
    then replied x K09
    else replied (record x { lssbs = put bytes_cmp name bytes x.lssbs }) Done

-- K03 where there is no such LSSB
abbrev pub read_away_by : OpenTransaction → Bytes → ℕ → Option Bytes → Performed
read_away_by x name capacity None = replied x K03
read_away_by x name capacity (Some bytes) = read_answer (record x { lssbs = without_local name x.lssbs }) capacity bytes

-- SGET RL: it is read and deleted, for K02 too
abbrev pub read_away : OpenTransaction → Bytes → ℕ → Performed
read_away x name capacity = read_away_by x name capacity (find bytes_cmp name x.lssbs)

-- K03 where there is no such LSSB
abbrev pub delete_local_by : OpenTransaction → Bytes → Option Bytes → Performed
delete_local_by x name None = replied x K03
delete_local_by x name (Some bytes) = replied (record x { lssbs = without_local name x.lssbs }) Done

-- SREL LB
abbrev pub delete_local : OpenTransaction → Bytes → Performed
delete_local x name = delete_local_by x name (find bytes_cmp name x.lssbs)

-- ---- all calls

-- a message is one part put, or more; a part may be empty
abbrev pub has_message : List Bytes → Bool
has_message [] = false
has_message (part ∷ parts) = true

-- the outcome of a PEND, or the cause that refuses it
abbrev pub pended : OpenTransaction → Variant → Result Outcome Cause → Performed
pended x variant (Ok o) = (x, Pends variant o)
pended x variant (Err cause) = refused x cause

-- the name in an operand, if there is one
abbrev pub name_by : Option Bytes → Option Bytes
name_by None = None
name_by (Some operand) = name_in_operand operand

-- a TAC that is denied is no follow-up
abbrev pub unless_denied : Option Denial → Option TacEntry → Option TacEntry
unless_denied None entry = entry
unless_denied (Some denial) entry = None

-- FC begins a service, and so asks the rule; no other follow-up does
abbrev pub follow_up_denial : Rule → OpenTransaction → Variant → Bytes → Option Denial
follow_up_denial rule x Fc tac = rule x.user x.lterm tac
follow_up_denial rule x _ tac = None

-- what the generation says of the follow-up TAC, where the rule does not deny it
abbrev pub follow_up_entry : Rule → Generated → OpenTransaction → Variant → Option Bytes → Option TacEntry
follow_up_entry rule g x variant None = None
follow_up_entry rule g x variant (Some tac) = unless_denied (follow_up_denial rule x variant tac) (tac_of g tac)

-- PEND with its operand
abbrev pub pend : Generated → (asynchronous : Bool) → OpenTransaction → Variant → Option Bytes → Performed
pend g asynchronous x variant op =
    pended x variant (pend_outcome asynchronous variant (has_message x.parts) (follow_up_entry (denial_of g) g x variant (name_by op)) (name_by op))

-- the rows of the calls, once INIT is done
unfoldable pub called : Generated → Told → (asynchronous : Bool) → OpenTransaction → Call → Performed
called g v asynchronous x Init = refused x E01
called g v asynchronous x (Mget capacity) = for_kind x (not asynchronous) (got x capacity)
called g v asynchronous x (Mput bytes) = for_kind x (not asynchronous) (put_part g x bytes)
called g v asynchronous x (Fget capacity) = for_kind x asynchronous (got x capacity)
called g v asynchronous x (Fput to message) = put_job g x to (Some (After 0)) message
called g v asynchronous x (Dput to mode d h m s message) = put_job g x to (moment_by mode (number_of d) (number_of h) (number_of m) (number_of s)) message
called g v asynchronous x (SgetGb name capacity) = with_name x (name_in_operand name) (λ n. read_gssb v x n capacity)
called g v asynchronous x (SputGb name bytes) = with_name x (name_in_operand name) (λ n. write_gssb v x n bytes)
called g v asynchronous x (SrelGb name) = with_name x (name_in_operand name) (λ n. delete_gssb v x n)
called g v asynchronous x (SgetKp name capacity) = with_name x (name_in_operand name) (λ n. read_or K03 x capacity (find bytes_cmp n x.lssbs))
called g v asynchronous x (SgetRl name capacity) = with_name x (name_in_operand name) (λ n. read_away x n capacity)
called g v asynchronous x (SputMs name bytes) = with_name x (name_in_operand name) (λ n. write_local g x n bytes)
called g v asynchronous x (SrelLb name) = with_name x (name_in_operand name) (λ n. delete_local x n)
called g v asynchronous x (SgetUs name capacity) = with_name x (name_in_operand name) (λ n. declared x (has_uls g n) (read_block v x (Uls n x.user) capacity))
called g v asynchronous x (SputUs name bytes) = with_name x (name_in_operand name) (λ n. declared x (has_uls g n) (write_block v x (Uls n x.user) bytes))
called g v asynchronous x (Gtda name capacity) = with_name x (name_in_operand name) (λ n. declared x (has_tls g n) (read_block v x (Tls n x.lterm) capacity))
called g v asynchronous x (Ptda name bytes) = with_name x (name_in_operand name) (λ n. declared x (has_tls g n) (write_block v x (Tls n x.lterm) bytes))
called g v asynchronous x (UnlkGb name) = with_name x (name_in_operand name) (λ n. unlocked v x (Gssb n))
called g v asynchronous x (UnlkUs name) = with_name x (name_in_operand name) (λ n. declared x (has_uls g n) (unlocked v x (Uls n x.user)))
called g v asynchronous x (UnlkDa name) = with_name x (name_in_operand name) (λ n. declared x (has_tls g n) (unlocked v x (Tls n x.lterm)))
called g v asynchronous x (Pend variant op) = pend g asynchronous x variant op

-- before INIT is done, INIT alone is answered
abbrev pub first_call : OpenTransaction → Call → Performed
first_call x Init = replied (record x { inited = true }) Done
first_call x _ = refused x E01

-- E01 where INIT is missing
abbrev pub called_by : Generated → Told → (asynchronous : Bool) → OpenTransaction → Call → (inited : Bool) → Performed
called_by g v asynchronous x call true = called g v asynchronous x call
called_by g v asynchronous x call false = first_call x call

-- what a call answers
unfoldable pub call_outcome : Generated → Told → (asynchronous : Bool) → OpenTransaction → Call → Performed
call_outcome g v asynchronous x call = called_by g v asynchronous x call x.inited
