-- Each line that a step sends has one line feed, at its end.
use Rattle.std.proofs.Common.{◌≡◌, ℕ, zero, suc, ◌+◌, ◌-◌, ◌/◌, ◌%◌, Bool, true, false, not, eqb, cond, List, [], ◌∷◌, ◌++◌, Option, Some, None, refl, sym, ap, ◌∙◌, subst, arith, get_or, true≢false}
use Rattle.std.specs.Prelude.{IfSome, nat_lt, count_by, codes, decimal, slice_get, is_some}
use Rattle.std.specs.FinMap.{find}
use Rattle.std.specs.Fmt.{digits, digits_onto, digit_glyph}
use Rattle.std.specs.List.{list_all, AllByRecursion as Each}
use Rattle.std.specs.Ordering.{is_eq}
use Rattle.std.proofs.lemmas.Bool.Decides.{nat_tests}
use Rattle.std.proofs.lemmas.List.Elements.{All-from_recursion}
use Rattle.std.proofs.lemmas.List.Sums.{sum_by-cons}
use Rattle.std.proofs.lemmas.Map.Text.{is_eq-slice_cmp}
use Rattle.kd_base.specs.Text.{IsName, is_name_byte, is_between, hex_digit, escaped_byte, escaped}
use Rattle.kd_base.specs.ToolsLaws.{both_true, some_is}
use Rattle.application_types.specs.Generation.{entry_of, tac_of}
use Rattle.application_types.specs.declared.kdcdef_types.entry.TacEntry.{TacEntry}
use Rattle.application_types.specs.Soundness.{AreNamed, HaveProperNames}
use Rattle.kdcs_types.specs.declared.act.Act.{Act}
use Rattle.kdcs_types.specs.declared.act.Act.TheVariants.{Commit, Emit}
use Rattle.kdcs_types.specs.declared.call.Cause.{Cause}
use Rattle.kdcs_types.specs.declared.call.Cause.TheVariants.{E01, E02, E03, E04, E05, E06, E07, E08, E09, E10, E11, E12, Er}
use Rattle.kdcs_types.specs.declared.key.ServiceId.{ServiceId}
use Rattle.kdcs_types.specs.declared.key.ServiceId.TheVariants.{Dialogue, Asynchronous}
use Rattle.kdcs_types.specs.declared.key.Target.{Target}
use Rattle.kdcs_types.specs.declared.key.Target.TheVariants.{Tac, Lterm}
use Rattle.kdcs_types.specs.declared.service.Ending.{Ending}
use Rattle.kdcs_types.specs.declared.service.Ending.TheVariants.{Synced, Broken, BrokenFr}
use Rattle.kdcs_types.specs.declared.service.Job.{Job}
use Rattle.kdcs_types.specs.declared.service.JobValue.{JobValue}
use Rattle.kdcs_types.specs.declared.service.Service.{Service}
use Rattle.kdcs_types.specs.declared.service.Settled.{Settled}
use Rattle.kdcs_types.specs.Keys.{id_cmp}
use Rattle.kdcs_types.specs.Tables.{TableRows, service_of, job_of, shown_of}
use Rattle.kd_base.specs.Limits.{last_clock}
use Rattle.std.specs.Prelude.{nat_le, bytes_eq}
use Rattle.abstract_monitor.specs.Bytes.{Bytes, bytes_cmp}
use Rattle.abstract_monitor.specs.CommandsOf.{is_pterm, IsCommandOf}
use Rattle.abstract_monitor.specs.declared.answer.Happened.{Happened}
use Rattle.abstract_monitor.specs.declared.answer.Happened.TheVariants.{Went, Queued, Waited, Held, Settles, Breaks, Returns}
use Rattle.abstract_monitor.specs.declared.command.Command.{Command}
use Rattle.abstract_monitor.specs.declared.command.Command.TheVariants.{Input, Tick, Run, Turn, Drop, Print, PrintLast, Restart}
use Rattle.abstract_monitor.specs.declared.input_use.SignFault.{SignFault}
use Rattle.abstract_monitor.specs.declared.input_use.SignFault.TheVariants.{BadForm, UnknownUser, WrongPassword, InUse}
use Rattle.abstract_monitor.specs.declared.access.Denial.TheVariants as denial
use Rattle.abstract_monitor.specs.declared.input_use.TacFault.{TacFault}
use Rattle.abstract_monitor.specs.declared.input_use.TacFault.TheVariants.{UnknownTac, NotAllowed, IsOff, Denied}
use Rattle.abstract_monitor.specs.declared.input_use.Use.{Use}
use Rattle.abstract_monitor.specs.declared.input_use.Use.TheVariants.{Sign, SignRefused, SignFirst, AlreadySigned, Off, Display, Output, Again, Busy, TooLong, Next, Start, TacRefused}
use Rattle.abstract_monitor.specs.declared.outcome.Outcome.{Outcome}
use Rattle.abstract_monitor.specs.declared.outcome.Outcome.TheVariants.{Wait, Point, Follow, Finish}
use Rattle.abstract_monitor.specs.declared.work.Work.{Work}
use Rattle.abstract_monitor.specs.declared.work.Work.TheVariants as work
use Rattle.abstract_monitor.specs.Endings.{joined, row_after, synchronised}
use Rattle.abstract_monitor.specs.Statements.{kept_record}
use Rattle.abstract_monitor.specs.Lines.{out_line, asy_line, prt_line, sys_line, no_message_line, cause_text, owner_text, dump_line}
use Rattle.abstract_monitor.specs.Made.{is_emit}
use Rattle.abstract_monitor.specs.Picks.{pick}
use Rattle.abstract_monitor.specs.Access.{denial_of}
use Rattle.abstract_monitor.specs.Sessions.{use_under, use_of, service_state}
use Rattle.abstract_monitor.specs.State.{Application, OpenTransaction, Session, State}
use Rattle.abstract_monitor.specs.Trace.{history, trace, bytes_of}
use Rattle.abstract_monitor.specs.Turns.{Turned, pterm_by, pterm_of_user, commit_of, without_transaction, out_acts, user_acts, ended_at, ended_acts, dump_acts, abnormal, message_acts, after_point}
use Rattle.abstract_monitor.specs.Turns.{settled, last_again, back_by, back, happens, statement_now, served, took_job_for, took_job, took, turn_by, turn_of}
use Rattle.abstract_monitor.specs.Commands.{ScriptStep, started, acts_of, user_by, fault_text, refusal_text, out_again, signed_on_by, last_by, due_for, show_by, show_next, show_again_by, show_again}
use Rattle.abstract_monitor.specs.Commands.{display, used, user_at, lterm_at, use_now, tick_by, drop_by, command_of}
use Rattle.laws_of_states.specs.Along.{StepLaw}
use Rattle.laws_of_states.specs.AlongLaws.{EachMeets, meets_along}
use Rattle.laws_of_states.specs.TerminalsLaws.{bytes_itself}
use Rattle.laws_of_states.specs.EachStep.{EachStep}
use Rattle.laws_of_states.specs.EachTurnLaws.{of_point}
use Rattle.laws_of_states.specs.Facts.{IsSoundState, IsSessionOf}
use Rattle.laws_of_states.specs.Keeping.{Leads, HasFacts}
use Rattle.laws_of_states.specs.Suits.{is_user, has_kind_by}
use Rattle.laws_of_states.specs.Transactions.{IsOwner, CanGoOn}
use Rattle.laws_of_states.specs.KeptEntriesLaws.{entries_have}
use Rattle.laws_of_states.specs.UsesLaws.{UseFits, use_fits}
use Rattle.call_parts.specs.MadeReport.{lines_in}
use Rattle.call_parts.specs.EmittedLines.{IsUnbroken, IsOneLine, SendsOneLine, CanStart, EmitsAreLines}

-- ---- texts without a line feed

abbrev is_inner : ℕ → Bool
is_inner b = not (eqb b 10)

both_unbroken : (a b : Bytes) → IsUnbroken a → IsUnbroken b → IsUnbroken (a ++ b)
both_unbroken [] b h k = k
both_unbroken (x ∷ a) b h k = let first = both_true (is_inner x) (list_all is_inner a) h in rw first.0 (both_unbroken a b first.1 k)

name_byte : (b : ℕ) → is_name_byte b ≡ true → is_inner b ≡ true
name_byte b h = by (eqb b 10) refl
  where
    by : (c : Bool) → eqb b 10 ≡ c → not c ≡ true
    by true is = let ten : b ≡ 10 = grind (arith, nat_tests, is) in absurd (true≢false (sym (subst (λ (x : ℕ). is_name_byte x ≡ true) ten h)))
    by false is = refl

name_unbroken : (name : Bytes) → list_all is_name_byte name ≡ true → IsUnbroken name
name_unbroken [] h = refl
name_unbroken (b ∷ name) h = let first = both_true (is_name_byte b) (list_all is_name_byte name) h in rw (name_byte b first.0) (name_unbroken name first.1)

inner_hex : (n : ℕ) → is_inner (hex_digit n) ≡ true
inner_hex n = by (nat_lt n 10)
  where
    by : (b : Bool) → is_inner (cond b (48 + n) (87 + n)) ≡ true
    by true = grind (arith, nat_tests)
    by false = grind (arith, nat_tests)

byte_unbroken : (b : ℕ) → IsUnbroken (escaped_byte b)
byte_unbroken b = by (eqb b 92) (is_between 32 126 b) refl
  where
    printable : is_between 32 126 b ≡ true → is_inner b ≡ true
    printable h = grind (arith, nat_tests, h)

    by : (c d : Bool) → is_between 32 126 b ≡ d → IsUnbroken (cond c (92 ∷ 92 ∷ []) (cond d (b ∷ []) (92 ∷ 120 ∷ hex_digit (b / 16) ∷ hex_digit (b % 16) ∷ [])))
    by true d is = refl
    by false true is = rw (printable is) refl
    by false false is = rw (inner_hex (b / 16), inner_hex (b % 16)) refl

escaped_unbroken : (bytes : Bytes) → IsUnbroken (escaped bytes)
escaped_unbroken [] = refl
escaped_unbroken (b ∷ bytes) = both_unbroken (escaped_byte b) (escaped bytes) (byte_unbroken b) (escaped_unbroken bytes)

inner_digit : (n : ℕ) → is_inner (digit_glyph false (n % 10)) ≡ true
inner_digit n = by (nat_lt (n % 10) 10)
  where
    by : (b : Bool) → is_inner (cond b (48 + n % 10) (87 + n % 10)) ≡ true
    by true = grind (arith, nat_tests)
    by false = grind (arith, nat_tests)

digits_unbroken : (k n : ℕ) (acc : Bytes) → IsUnbroken acc → IsUnbroken (digits_onto k 10 false n acc)
digits_unbroken zero n acc h = h
digits_unbroken (suc k) n acc h =
    let more : IsUnbroken (digit_glyph false (n % 10) ∷ acc) = rw (inner_digit n) h in
    by (eqb (n / 10) 0) more (digits_unbroken k (n / 10) (digit_glyph false (n % 10) ∷ acc) more)
  where
    by : (b : Bool) → IsUnbroken (digit_glyph false (n % 10) ∷ acc) → IsUnbroken (digits_onto k 10 false (n / 10) (digit_glyph false (n % 10) ∷ acc))
        → IsUnbroken (cond b (digit_glyph false (n % 10) ∷ acc) (digits_onto k 10 false (n / 10) (digit_glyph false (n % 10) ∷ acc)))
    by true last more = last
    by false last more = more

number_unbroken : (n : ℕ) → IsUnbroken (decimal n)
unfolding digits
number_unbroken n = digits_unbroken 64 n [] refl

cause_unbroken : (cause : Cause) → IsUnbroken (cause_text cause)
cause_unbroken E01 = refl
cause_unbroken E02 = refl
cause_unbroken E03 = refl
cause_unbroken E04 = refl
cause_unbroken E05 = refl
cause_unbroken E06 = refl
cause_unbroken E07 = refl
cause_unbroken E08 = refl
cause_unbroken E09 = refl
cause_unbroken E10 = refl
cause_unbroken E11 = refl
cause_unbroken E12 = refl
cause_unbroken Er = refl

-- ---- lines

module _ (pterm : Bytes) (named : IsUnbroken pterm) where
  sys : (text : Bytes) → IsUnbroken text → IsOneLine (sys_line pterm text)
  sys text h = (codes "SYS " ++ pterm ++ 32 ∷ text, refl, both_unbroken pterm (32 ∷ text) named h)

  out : (message : Bytes) → IsOneLine (out_line pterm message)
  out message = (codes "OUT " ++ pterm ++ 32 ∷ escaped message, refl, both_unbroken pterm (32 ∷ escaped message) named (escaped_unbroken message))

  asy : (message : Bytes) → IsOneLine (asy_line pterm message)
  asy message = (codes "ASY " ++ pterm ++ 32 ∷ escaped message, refl, both_unbroken pterm (32 ∷ escaped message) named (escaped_unbroken message))

  prt : (message : Bytes) → IsOneLine (prt_line pterm message)
  prt message = (codes "PRT " ++ pterm ++ 32 ∷ escaped message, refl, both_unbroken pterm (32 ∷ escaped message) named (escaped_unbroken message))

dump : (id : ServiceId) (tac : Bytes) (cause : Cause) (place : ℕ) → IsUnbroken (owner_text id) → IsUnbroken tac → IsOneLine (dump_line id tac cause place)
dump id tac cause place owner named = (
  codes "DUMP " ++ owner_text id ++ 32 ∷ tac ++ 32 ∷ cause_text cause ++ 32 ∷ decimal place,
  refl,
  both_unbroken (owner_text id ++ 32 ∷ tac ++ 32 ∷ cause_text cause) (32 ∷ decimal place)
      (both_unbroken (owner_text id ++ 32 ∷ tac) (32 ∷ cause_text cause) (both_unbroken (owner_text id) (32 ∷ tac) owner named) (cause_unbroken cause))
      (number_unbroken place),
)

abbrev AllLines : List Act → Type 0
AllLines acts = Each SendsOneLine acts

both_lines : (xs ys : List Act) → AllLines xs → AllLines ys → AllLines (xs ++ ys)
both_lines [] ys h k = k
both_lines (x ∷ xs) ys h k = (h.0, both_lines xs ys h.1 k)

-- ---- names of a generation

some_then : {A : Type 0} (P : Type 0) (o : Option A) → IfSome o (λ _. P) → is_some o ≡ true → P
some_then P None h is = absurd (true≢false (sym is))
some_then P (Some x) h is = h

proper_unbroken : {A : Type 0} (e : Bytes × A) → IsName e.0 → IsUnbroken e.0
proper_unbroken e h = name_unbroken e.0 h.2

entry_named : {A : Type 0} (entries : List (Bytes × A)) → HaveProperNames entries → (name : Bytes) → is_some (entry_of entries name) ≡ true → IsUnbroken name
entry_named {A} entries proper name is =
    some_then (IsUnbroken name) (entry_of entries name) (entries_have (λ (e : Bytes × A). IsUnbroken e.0) entries (λ k d lt. proper_unbroken (get_or entries k d) (proper k d lt)) name) is

kind_some : (o : Option TacEntry) (asynchronous : Bool) → has_kind_by o asynchronous ≡ true → is_some o ≡ true
kind_some None asynchronous h = h
kind_some (Some t) asynchronous h = refl

-- what holds of each terminal that has a session holds of the terminal of a user
at_terminal : (P : Bytes → Type 0) (signed : List (Bytes × Session)) → ((pterm : Bytes) (v : Session) → find bytes_cmp pterm signed ≡ Some v → P pterm) → (user pterm : Bytes) → pterm_of_user signed user ≡ Some pterm → P pterm
unfolding pterm_of_user
at_terminal P [] all user pterm is = absurd cc
at_terminal P (e ∷ es) all user pterm is = by (bytes_eq e.1.user user) is (at_terminal P es (λ k v found. behind k v found (is_eq (bytes_cmp k e.0)) refl) user pterm)
  where
    first : P e.0
    first = all e.0 e.1 (ap (λ b. cond b (Some e.1) (find bytes_cmp e.0 es)) (is_eq-slice_cmp e.0 e.0 ∙ bytes_itself e.0))

    behind : (k : Bytes) (v : Session) → find bytes_cmp k es ≡ Some v → (b : Bool) → is_eq (bytes_cmp k e.0) ≡ b → P k
    behind k v found true same = all k e.1 (ap (λ b. cond b (Some e.1) (find bytes_cmp k es)) same)
    behind k v found false other = all k v (ap (λ b. cond b (Some e.1) (find bytes_cmp k es)) other ∙ found)

    by : (b : Bool) → pterm_by e.0 b (pterm_of_user es user) ≡ Some pterm → (pterm_of_user es user ≡ Some pterm → P pterm) → P pterm
    by true same later = subst P (some_is e.0 pterm same) first
    by false other later = later other

module _ (app : Application) (names : AreNamed app.generation) (s : State) (sound : IsSoundState app s) where
  pterm_named : (pterm : Bytes) → is_pterm app.generation pterm ≡ true → IsUnbroken pterm
  pterm_named pterm is = entry_named app.generation.pterms names.pterms pterm is

  user_named : (user : Bytes) → is_user app.generation user ≡ true → IsUnbroken user
  user_named user is = entry_named app.generation.users names.users user is

  session_of : (pterm : Bytes) (v : Session) → find bytes_cmp pterm s.signed ≡ Some v → IsSessionOf app (pterm, v)
  session_of pterm v is = subst (λ (o : Option Session). IfSome o (λ (w : Session). IsSessionOf app (pterm, w))) is (sound.sessions pterm)

  -- the terminal of a user
  place_named : (user pterm : Bytes) → pterm_of_user s.signed user ≡ Some pterm → IsUnbroken pterm
  place_named user pterm is = at_terminal IsUnbroken s.signed (λ p v found. pterm_named p (session_of p v found).0) user pterm is

  -- ---- turns

  out_lines : (o : Option Bytes) → ((pterm : Bytes) → o ≡ Some pterm → IsUnbroken pterm) → (message : Bytes) → AllLines (out_acts o message)
  out_lines None named message = tt
  out_lines (Some pterm) named message = (out pterm (named pterm refl) message, tt)

  user_lines : (user message : Bytes) → AllLines (user_acts s user message)
  user_lines user message = out_lines (pterm_of_user s.signed user) (place_named user) message

  ended_lines : (id : ServiceId) → AllLines (ended_acts s id)
  ended_lines (Asynchronous number) = tt
  ended_lines (Dialogue user) = by (pterm_of_user s.signed user) (place_named user)
    where
      by : (o : Option Bytes) → ((pterm : Bytes) → o ≡ Some pterm → IsUnbroken pterm) → AllLines (ended_at o)
      by None named = tt
      by (Some pterm) named = (sys pterm (named pterm refl) (codes "SERVICE ENDED") refl, tt)

  message_lines : (id : ServiceId) (x : OpenTransaction) → AllLines (message_acts s id x)
  message_lines (Dialogue user) x = user_lines user (joined x.parts)
  message_lines (Asynchronous number) x = tt

  module _ (task : ℕ) (id : ServiceId) (x : OpenTransaction) (goes : CanGoOn app.generation id x) where
    owner_unbroken : (i : ServiceId) → IsOwner i x.user → IsUnbroken (owner_text i)
    owner_unbroken (Dialogue user) own = user_named user (subst (λ (u : Bytes). is_user app.generation u ≡ true) (sym own) goes.user)
    owner_unbroken (Asynchronous number) own = number_unbroken number

    tac_unbroken : IsUnbroken x.current
    tac_unbroken = entry_named app.generation.tacs names.tacs x.current (kind_some (tac_of app.generation x.current) _ goes.current)

    dump_lines : (ending : Ending) → AllLines (dump_acts id x ending)
    dump_lines Synced = tt
    dump_lines (Broken cause) = (dump id x.current cause x.run.place (owner_unbroken id goes.owner) tac_unbroken, tt)
    dump_lines BrokenFr = tt

    abnormal_lines : (ending : Ending) → AllLines (abnormal app s task id x ending).acts
    unfolding abnormal
    abnormal_lines ending = (tt, both_lines (dump_acts id x ending) (ended_acts s id) (dump_lines ending) (ended_lines id))

    -- with the sessions of before
    same_lines : (after : State) → after.signed ≡ s.signed → (i : ServiceId) → AllLines (message_acts after i x)
    same_lines after same (Dialogue user) = subst (λ (signed : List (Bytes × Session)). AllLines (out_acts (pterm_of_user signed user) (joined x.parts))) (sym same) (user_lines user (joined x.parts))
    same_lines after same (Asynchronous number) = tt

    point_lines : (after : State) → after.signed ≡ s.signed → (o : Outcome) (row : Option Service) (commit : Act) (kept : Settled) → SendsOneLine commit → AllLines (after_point app after id x o row commit kept).acts
    point_lines after same (Wait tac) row commit kept h = (h, same_lines after same id)
    point_lines after same Finish row commit kept h = (h, same_lines after same id)
    point_lines after same (Point tac) row commit kept h = (h, tt)
    point_lines after same (Follow tac) row commit kept h = (h, tt)
    point_lines after same _ row commit kept h = (h, tt)

    settled_lines : (o : Outcome) → AllLines (settled app s task id x o).acts
    settled_lines o =
        of_point app s task id x o (λ (t : Turned). AllLines t.acts) (λ cause. abnormal_lines (Broken cause))
        (point_lines (record (without_transaction s task id) { tables = synchronised app.generation s.tables id x o }) refl o (row_after app.generation id x o) (commit_of app s.tables (synchronised app.generation s.tables id x o)) (kept_record id x Synced) tt)

    again_lines : (i : ServiceId) (o : Option Bytes) → AllLines (last_again (without_transaction s task id) i o).acts
    again_lines i None = tt
    again_lines (Dialogue user) (Some message) = user_lines user message
    again_lines (Asynchronous number) (Some message) = tt

    back_lines : (o : Option Service) → AllLines (back app (without_transaction s task id) id x o).acts
    back_lines None = gone id
      where
        gone : (i : ServiceId) → AllLines (ended_acts (without_transaction s task id) i)
        gone (Dialogue user) = ended_lines (Dialogue user)
        gone (Asynchronous number) = tt
    back_lines (Some row) = by row.awaits
      where
        by : (b : Bool) → AllLines (back_by app (without_transaction s task id) id x row b).acts
        by true = again_lines id row.last
        by false = tt

    happens_lines : (y : OpenTransaction) (h : Happened) → AllLines (happens app s task id x y h).acts
    unfolding happens
    happens_lines y Went = tt
    happens_lines y Queued = tt
    happens_lines y Waited = tt
    happens_lines y (Held tac) = held id
      where
        held : (i : ServiceId) → AllLines (message_acts s i x)
        held i = message_lines i x
    happens_lines y (Settles o) = settled_lines o
    happens_lines y (Breaks ending) = abnormal_lines ending
    happens_lines y Returns = back_lines x.began

  served_lines : (task : ℕ) (id : ServiceId) (o : Option OpenTransaction) → find id_cmp id s.active ≡ o → AllLines (served app s task id o).acts
  served_lines task id None is = tt
  served_lines task id (Some x) is = let r = statement_now app s id x in happens_lines task id x (sound.transactions id x is) r.0 r.1

  job_lines : (task number : ℕ) (o : Option JobValue) → AllLines (took_job app s task number o).acts
  job_lines task number None = tt
  job_lines task number (Some job) = by job.to
    where
      by : (to : Target) → AllLines (took_job_for app s task number job to).acts
      by (Tac tac) = tt
      by (Lterm lterm) = tt

  work_lines : (task : ℕ) (o : Option Work) → AllLines (took app s task o).acts
  work_lines task None = tt
  work_lines task (Some (work.Service id)) = tt
  work_lines task (Some (work.Job number)) = job_lines task number (job_of s.tables number)

  turn_lines : (task : ℕ) → AllLines (turn_of app s task).acts
  unfolding turn_of
  turn_lines task = by (slice_get s.tasks (task - 1))
    where
      by : (place : Option (Option ServiceId)) → AllLines (turn_by app s task place).acts
      by None = tt
      by (Some None) = work_lines task (pick app s)
      by (Some (Some id)) = served_lines task id (find id_cmp id s.active) refl

  -- ---- commands

  module _ (pterm : Bytes) (is : IsUnbroken pterm) where
    fault_unbroken : (fault : SignFault) → IsUnbroken (fault_text fault)
    fault_unbroken BadForm = refl
    fault_unbroken UnknownUser = refl
    fault_unbroken WrongPassword = refl
    fault_unbroken InUse = refl

    refusal_unbroken : (fault : TacFault) → IsUnbroken (refusal_text fault)
    refusal_unbroken UnknownTac = refl
    refusal_unbroken NotAllowed = refl
    refusal_unbroken IsOff = refl
    refusal_unbroken (Denied (denial.User code)) = number_unbroken code
    refusal_unbroken (Denied (denial.Lterm code)) = number_unbroken code

    signed_lines : (user lterm : Bytes) → IsUnbroken user → (o : Option Service) → AllLines (signed_on_by app s pterm user lterm o).acts
    signed_lines user lterm named None = (sys pterm is (codes "SIGNED ON " ++ user) named, tt)
    signed_lines user lterm named (Some row) = (sys pterm is (codes "SIGNED ON " ++ user) named, again row.last)
      where
        again : (o : Option Bytes) → AllLines (out_again pterm o)
        again None = tt
        again (Some message) = (out pterm is message, tt)

    show_lines : (lterm : Bytes) (line_of : Bytes → Bytes) → ((message : Bytes) → IsOneLine (line_of message)) → AllLines (show_next app s lterm (no_message_line pterm) line_of).acts
    unfolding show_next
    show_lines lterm line_of lines = by (due_for s lterm)
      where
        by : (o : Option Job) → AllLines (show_by app s lterm (no_message_line pterm) line_of o).acts
        by None = (sys pterm is (codes "NO MESSAGE") refl, tt)
        by (Some job) = (tt, (lines job.value.message, tt))

    show_again_lines : (lterm : Bytes) (line_of : Bytes → Bytes) → ((message : Bytes) → IsOneLine (line_of message)) → AllLines (show_again s lterm (no_message_line pterm) line_of).acts
    show_again_lines lterm line_of lines = by (shown_of s.tables lterm)
      where
        by : (o : Option JobValue) → AllLines (show_again_by s (no_message_line pterm) line_of o).acts
        by None = (sys pterm is (codes "NO MESSAGE") refl, tt)
        by (Some value) = (lines value.message, tt)

    display_lines : (o : Option Bytes) → AllLines (display s pterm o).acts
    display_lines None = (sys pterm is (codes "NO MESSAGE") refl, tt)
    display_lines (Some message) = (out pterm is message, tt)

    user_by_named : (o : Option Session) → find bytes_cmp pterm s.signed ≡ o → IsUnbroken (user_by o)
    user_by_named None found = refl
    user_by_named (Some v) found = user_named v.user (session_of pterm v found).1

    drop_lines : (o : Option Session) → AllLines (drop_by app s pterm o).acts
    drop_lines None = (sys pterm is (codes "NOT SIGNED ON") refl, tt)
    drop_lines (Some v) = (sys pterm is (codes "DROPPED") refl, tt)

    -- the user that an input signs on is declared
    abbrev SignsOn : Use → Type 0
    SignsOn (Sign name) = is_user app.generation name ≡ true
    SignsOn _ = Unit {0}

    used_lines : (lterm user : Bytes) → IsUnbroken user → (u : Use) → SignsOn u → AllLines (used app s pterm lterm user u).acts
    unfolding used
    used_lines lterm user named (Sign name) signs = signed_lines name (lterm_at app pterm) (user_named name signs) (service_of s.tables (Dialogue name))
    used_lines lterm user named (SignRefused fault) signs = (sys pterm is (fault_text fault) (fault_unbroken fault), tt)
    used_lines lterm user named SignFirst signs = (sys pterm is (codes "SIGN ON FIRST") refl, tt)
    used_lines lterm user named AlreadySigned signs = (sys pterm is (codes "ALREADY SIGNED ON") refl, tt)
    used_lines lterm user named Off signs = (sys pterm is (codes "SIGNED OFF " ++ user) named, tt)
    used_lines lterm user named Display signs = display_lines (last_by (find bytes_cmp pterm s.signed))
    used_lines lterm user named Output signs = show_lines lterm (asy_line pterm) (asy pterm is)
    used_lines lterm user named Again signs = show_again_lines lterm (asy_line pterm) (asy pterm is)
    used_lines lterm user named Busy signs = (sys pterm is (codes "SERVICE RUNNING") refl, tt)
    used_lines lterm user named TooLong signs = (sys pterm is (codes "INPUT TOO LONG") refl, tt)
    used_lines lterm user named (Next text) signs = tt
    used_lines lterm user named (Start tac text) signs = tt
    used_lines lterm user named (TacRefused fault) signs = (sys pterm is (refusal_text fault) (refusal_unbroken fault), tt)

    signs_on : (user : Bytes) (state : _) (u : Use) → UseFits app.generation user state u → SignsOn u
    signs_on user state (Sign name) h = h
    signs_on user state (SignRefused fault) h = tt
    signs_on user state SignFirst h = tt
    signs_on user state AlreadySigned h = tt
    signs_on user state Off h = tt
    signs_on user state Display h = tt
    signs_on user state Output h = tt
    signs_on user state Again h = tt
    signs_on user state Busy h = tt
    signs_on user state TooLong h = tt
    signs_on user state (Next text) h = tt
    signs_on user state (Start tac text) h = tt
    signs_on user state (TacRefused fault) h = tt

    session_user : (o : Option Session) → find bytes_cmp pterm s.signed ≡ o → IfSome o (λ (v : Session). is_user app.generation v.user ≡ true)
    session_user None found = tt
    session_user (Some v) found = (session_of pterm v found).1

    input_signs : (text : Bytes) → SignsOn (use_now app s pterm text)
    unfolding use_now use_of use_under
    input_signs text =
        let o = find bytes_cmp pterm s.signed in
        signs_on (user_by o) (service_state s (user_by o)) (use_now app s pterm text) (use_fits app.generation (denial_of app.generation) s.signed (λ user. service_state s user) (lterm_at app pterm) text o (session_user o refl))

  tick_lines : (ticks clock : ℕ) (within : Bool) → AllLines (tick_by app s ticks clock within).acts
  tick_lines ticks clock false = ((codes "TICK REFUSED", refl, refl), tt)
  tick_lines ticks clock true = (tt, ((codes "TICK " ++ decimal clock, refl, number_unbroken clock), tt))

  command_lines : (c : Command) → IsCommandOf app.generation c → AllLines (command_of app s c).acts
  unfolding command_of
  command_lines (Input pterm text) of =
      let is = pterm_named pterm of in
      used_lines pterm is (lterm_at app pterm) (user_at s pterm) (user_by_named pterm is (find bytes_cmp pterm s.signed) refl) (use_now app s pterm text) (input_signs pterm is text)
  command_lines (Tick ticks) of = tick_lines ticks (s.tables.clock + ticks) (nat_le (s.tables.clock + ticks) last_clock)
  command_lines (Run turns) of = tt
  command_lines (Turn task) of = turn_lines task
  command_lines (Drop pterm) of = drop_lines pterm (pterm_named pterm of) (find bytes_cmp pterm s.signed)
  command_lines (Print pterm) of = let is = pterm_named pterm of in show_lines pterm is (lterm_at app pterm) (prt_line pterm) (prt pterm is)
  command_lines (PrintLast pterm) of = let is = pterm_named pterm of in show_again_lines pterm is (lterm_at app pterm) (prt_line pterm) (prt pterm is)
  command_lines Restart of = ((codes "RESTART", refl, refl), tt)

-- ---- along every script

abbrev StepSendsLines : StepLaw
StepSendsLines app s d = AreNamed app.generation → AllLines d.acts

each_step : EachMeets HasFacts StepSendsLines
each_step = record {
  turns = λ app s task is_app within facts names. turn_lines app names s facts.1 task;
  commands = λ app s c is_app of facts names. command_lines app names s facts.1 c of;
}

steps_lines : (app : Application) → AreNamed app.generation → (s : State) (steps : List ScriptStep) → EachStep (StepSendsLines app) s steps → AllLines (acts_of steps)
steps_lines app names s [] h = tt
steps_lines app names s (d ∷ ds) h = both_lines d.acts (acts_of ds) (h.0 names) (steps_lines app names d.after ds h.1)

-- ---- the count

none_in : (text : Bytes) → IsUnbroken text → lines_in text ≡ 0
none_in [] h = refl
none_in (b ∷ text) h =
    let first = both_true (is_inner b) (list_all is_inner text) h in
    sum_by-cons (λ x. cond (eqb x 10) 1 0) b text ∙ ap (λ n. n + lines_in text) (other (eqb b 10) first.0) ∙ ap (λ n. 0 + n) (none_in text first.1)
  where
    other : (c : Bool) → not c ≡ true → cond {A = ℕ} c 1 0 ≡ 0
    other true h = absurd (true≢false (sym h))
    other false h = refl

lines_joined : (a b : Bytes) → lines_in (a ++ b) ≡ lines_in a + lines_in b
lines_joined [] b = omega arith
lines_joined (x ∷ a) b =
    let whole = sum_by-cons (λ y. cond (eqb y 10) 1 0) x (a ++ b) in
    let front = sum_by-cons (λ y. cond (eqb y 10) 1 0) x a in
    omega (arith, whole, front, lines_joined a b)

one_in : (bytes : Bytes) → IsOneLine bytes → lines_in bytes ≡ 1
one_in bytes (text, is, unbroken) = ap lines_in is ∙ lines_joined text (10 ∷ []) ∙ ap (λ n. n + 1) (none_in text unbroken)

counted : (acts : List Act) → AllLines acts → lines_in (bytes_of acts) ≡ count_by is_emit acts
unfolding bytes_of
counted [] h = refl
counted (Commit changes ∷ acts) h =
    let whole : count_by is_emit (Commit changes ∷ acts) ≡ 0 + count_by is_emit acts = sum_by-cons (λ (a : Act). cond (is_emit a) 1 0) (Commit changes) acts in
    omega (arith, whole, counted acts h.1)
counted (Emit bytes ∷ acts) h =
    let whole : count_by is_emit (Emit bytes ∷ acts) ≡ 1 + count_by is_emit acts = sum_by-cons (λ (a : Act). cond (is_emit a) 1 0) (Emit bytes) acts in
    omega (arith, whole, lines_joined bytes (bytes_of acts), one_in bytes h.0, counted acts h.1)

module _ (kept : Leads HasFacts HasFacts) where
  trace_lines : (app : Application) (t : TableRows) (script : List Command) → CanStart app t script → AllLines (trace app t script)
  unfolding trace
  trace_lines app t script can =
      steps_lines app can.names (started app t) (history app (started app t) script)
      (meets_along HasFacts kept StepSendsLines each_step app (started app t) script can.application can.commands (kept.starts app t can.application can.order can.suits))

  pub emits_are_lines : EmitsAreLines
  emits_are_lines = record {
    each = λ app t script can. All-from_recursion SendsOneLine (trace app t script) (trace_lines app t script can);
    count = λ app t script can. counted (trace app t script) (trace_lines app t script can);
  }
