-- A call that is performed leaves an open transaction that can go on, and its reply can be stored.
use Rattle.std.specs.Prelude.{◌≡◌, refl, ℕ, ◌+◌, ◌*◌, ◌≤◌, ◌<◌, Bool, true, false, cond, ◌&&◌, ◌||◌, not, IsTrue, IsSome, IfSome, List, [], ◌∷◌, ◌++◌, length, filter, sum_by, count_by, Option, None}
use Rattle.std.specs.Prelude.{Some, Result, Ok, Err, is_some, nat_le, nat_lt, bytes_eq, if◌then◌else◌, option_and_then}
use Rattle.std.proofs.Common.{sym, ap, subst, ◌∙◌, arith, true≢false, length-append}
use Rattle.std.proofs.lemmas.Bool.{leb-true, le-leb, ltb-true, leb-false}
use Rattle.std.proofs.lemmas.List.Sums.{sum_by-cons, sum_by_push}
use Rattle.std.specs.List.{list_all, list_any}
use Rattle.std.specs.Cmp.{IsTotalOrder}
use Rattle.std.specs.Cmp.Lexicographic.{nat_list_cmp_total}
use Rattle.std.specs.FinMap.{find, put, IsAntisymmetric, slice_cmp-IsAntisymmetric, nat_cmp-IsAntisymmetric}
use Rattle.kd_base.specs.declared.words.Variant.{Variant}
use Rattle.kd_base.specs.declared.words.Variant.TheVariants.{Kp, Pr, Pa, Re, Sp, Fc}
use Rattle.kd_base.specs.declared.words.Mode.{Mode}
use Rattle.kd_base.specs.declared.words.Mode.TheVariants.{Relative, Absolute}
use Rattle.kd_base.specs.ToolsLaws.{both_true, true_both, some_is, ok_is}
use Rattle.kdcs_types.specs.declared.call.Call.{Call}
use Rattle.kdcs_types.specs.declared.call.Call.TheVariants.{Init, Mget, Mput, Fget, Fput, Dput, SgetGb, SputGb, SrelGb, SgetKp, SgetRl, SputMs, SrelLb, SgetUs, SputUs, Gtda, Ptda, UnlkGb, UnlkUs}
use Rattle.kdcs_types.specs.declared.call.Call.TheVariants.{UnlkDa, Pend}
use Rattle.kdcs_types.specs.declared.call.Cause.{Cause}
use Rattle.kdcs_types.specs.declared.call.Code.{Code}
use Rattle.kdcs_types.specs.declared.call.Code.TheVariants.{Done, K03, K04, K05, K06, K07, K09}
use Rattle.kdcs_types.specs.declared.key.Area.{Area}
use Rattle.kdcs_types.specs.declared.key.Area.TheVariants.{Gssb, Tls, Uls}
use Rattle.kdcs_types.specs.declared.key.ServiceId.{ServiceId}
use Rattle.kdcs_types.specs.declared.key.ServiceId.TheVariants.{Dialogue, Asynchronous}
use Rattle.kdcs_types.specs.declared.key.Target.{Target}
use Rattle.kdcs_types.specs.declared.key.Target.TheVariants.{Tac, Lterm}
use Rattle.kdcs_types.specs.declared.service.Note.TheVariants.{Released}
use Rattle.kdcs_types.specs.declared.run_state.RunState.{RunState}
use Rattle.kdcs_types.specs.Keys.{area_cmp, area_eq}
use Rattle.kdcs_types.specs.KeyLaws.{area_total, same_area, area_eq_same, area_eq_itself, area_eq_sym}
use Rattle.kdcs_types.specs.Same.{target_eq}
use Rattle.application_types.specs.declared.kdcdef_types.entry.TacEntry.{TacEntry}
use Rattle.application_types.specs.declared.kdcdef_types.entry.LtermEntry.{LtermEntry}
use Rattle.application_types.specs.Generation.{Generated, tac_of, lterm_of, has_tls, has_uls}
use Rattle.abstract_monitor.specs.Contents.{number_of}
use Rattle.abstract_monitor.specs.declared.access.Denial.{Denial}
use Rattle.abstract_monitor.specs.declared.answer.LockAnswer.{LockAnswer}
use Rattle.abstract_monitor.specs.declared.answer.LockAnswer.TheVariants.{Granted, Wait as MustWait, Busy, Deadlock}
use Rattle.abstract_monitor.specs.declared.answer.Called.{Called}
use Rattle.abstract_monitor.specs.declared.answer.Called.TheVariants.{Replied, Waits, Abnormal, Pends}
use Rattle.abstract_monitor.specs.declared.outcome.Outcome.{Outcome}
use Rattle.abstract_monitor.specs.declared.draft.Due.{Due}
use Rattle.abstract_monitor.specs.declared.draft.Due.TheVariants.{After}
use Rattle.abstract_monitor.specs.declared.draft.Draft.{Draft}
use Rattle.abstract_monitor.specs.Bytes.{Bytes, bytes_cmp}
use Rattle.abstract_monitor.specs.State.{OpenTransaction}
use Rattle.abstract_monitor.specs.Outcomes.{same_kind, goes_within, goes_first, is_for_kind, may_follow, takes_follow_up, needs_message, fits_follow_up, goes_by, name_or_empty, pend_by, pend_outcome}
use Rattle.abstract_monitor.specs.Access.{denial_of}
use Rattle.abstract_monitor.specs.Calls.{Told, Performed, replied, read_answer, refused, read_or, for_kind, within_length, with_name, declared, name_in_operand, touches, touching, noted, on_answer}
use Rattle.abstract_monitor.specs.Calls.{answer_by, locked, shown_by, seen, got_by, got, put_part, target_by, job_target, due_in, moment_of, moment_by, drafted, put_job, wrote, deleted, or_empty}
use Rattle.abstract_monitor.specs.Calls.{read_block, write_block, unlocked_by, unlocked, without_local, write_local, read_away_by, delete_local_by, has_message, pended, name_by, unless_denied}
use Rattle.abstract_monitor.specs.Calls.{follow_up_denial, follow_up_entry, called, first_call, called_by, call_outcome}
use Rattle.abstract_monitor.specs.Endings.{is_asynchronous}
use Rattle.laws_of_states.specs.Suits.{fits_content, fits_message, is_user, is_lterm, has_kind_by, target_suits, target_name}
use Rattle.laws_of_states.specs.Transactions.{IsMessage, PutsNone, area_is_declared, fits_if_there, written_fits, last_moment, due_fits, draft_fits, CanGoOn}
use Rattle.laws_of_states.specs.OpenLaws.{reads, has_short_operands, ToldFits, OutcomeFits}
use Rattle.laws_of_states.specs.ListsLaws.{bytes_eq_itself, all_imply, all_both, all_filter, all_append, any_append, any_last, any_filter, length_filter, sum_filter, count_none, found_passes}
use Rattle.laws_of_states.specs.ListsLaws.{missing_apart, all_put, sorted_where, length_put}
use Rattle.laws_of_states.specs.UpdatesLaws.{with_inited, with_unread, with_parts, with_notes, with_written, with_touched, with_lssbs, with_drafts}
use Rattle.kd_base.specs.OrderLaws.{sorted_put}

-- ---- what a performed call keeps

-- a reply is short, and has a content only where the call reads
abbrev pub ReplyFits : Generated → (asynchronous reading : Bool) → Called → Type 0
ReplyFits g asynchronous reading (Replied reply) = (reply.length ≤ 32767) × (IsSome reply.content → IsTrue reading)
ReplyFits g asynchronous reading Waits = Unit {0}
ReplyFits g asynchronous reading (Abnormal cause) = Unit {0}
ReplyFits g asynchronous reading (Pends variant o) = OutcomeFits g asynchronous o

pub record Keeps (g : Generated) (id : ServiceId) (reading : Bool) (run : RunState) (p : Performed) : Type 0 where
  pub can : CanGoOn g id p.0
  pub same_run : p.0.run ≡ run
  pub fits : ReplyFits g (is_asynchronous id) reading p.1

bytes_total : IsTotalOrder bytes_cmp
bytes_total = nat_list_cmp_total

bytes_same : IsAntisymmetric bytes_cmp
bytes_same = slice_cmp-IsAntisymmetric nat_cmp-IsAntisymmetric

-- ---- targets and moments

target_by_name : (name : Bytes) (l : Option LtermEntry) (t : Option TacEntry) (to : Target) → target_by name l t ≡ Some to → target_name to ≡ name
target_by_name name (Some l) t to e = sym (ap target_name (some_is (Lterm name) to e))
target_by_name name None None to e = absurd cc
target_by_name name None (Some t) to e = by (t.asynchronous && goes_first t.call && t.on) e
  where
    by : (b : Bool) → cond b (Some (Tac name)) None ≡ Some to → target_name to ≡ name
    by true is = sym (ap target_name (some_is (Tac name) to is))
    by false is = absurd cc

named : (g : Generated) (name : Bytes) (to : Target) → job_target g name ≡ Some to → target_name to ≡ name
unfolding job_target
named g name to e = target_by_name name (lterm_of g name) (tac_of g name) to e

job_target_suits : (g : Generated) (name : Bytes) (o : Option Target) → job_target g name ≡ o → IfSome o (λ (to : Target). IsTrue (target_suits g to (job_target g (target_name to))))
job_target_suits g name None e = tt
job_target_suits g name (Some to) e =
    subst (λ (n : Bytes). IsTrue (target_suits g to (job_target g n))) (sym (named g name to e)) (subst (λ (o : Option Target). IsTrue (target_suits g to o)) (sym e) (itself to))
  where
    itself : (t : Target) → IsTrue (target_eq t t)
    itself (Tac tac) = bytes_eq_itself tac
    itself (Lterm lterm) = bytes_eq_itself lterm

moment_of_fits : (mode : Mode) (d h m s : ℕ) → IfSome (moment_of mode d h m s) (λ (due : Due). IsTrue (due_fits due))
unfolding moment_of
moment_of_fits mode d h m s = by (nat_le d 9999 && nat_le h 23 && nat_le m 59 && nat_le s 59) refl
  where
    due_in-fits : (n : ℕ) → n ≤ last_moment → (k : Mode) → IsTrue (due_fits (due_in k n))
    due_in-fits n le Relative = le-leb n last_moment le
    due_in-fits n le Absolute = le-leb n last_moment le

    by : (b : Bool) → (nat_le d 9999 && nat_le h 23 && nat_le m 59 && nat_le s 59) ≡ b → IfSome (if b then Some (due_in mode (86400 * d + 3600 * h + 60 * m + s)) else None) (λ (due : Due). IsTrue (due_fits due))
    by true e =
        let p = both_true (nat_le d 9999 && nat_le h 23 && nat_le m 59) (nat_le s 59) e in
        let q = both_true (nat_le d 9999 && nat_le h 23) (nat_le m 59) p.0 in
        let r = both_true (nat_le d 9999) (nat_le h 23) q.0 in
        due_in-fits _ (omega (arith, leb-true d 9999 r.0, leb-true h 23 r.1, leb-true m 59 q.1, leb-true s 59 p.1)) mode
    by false e = tt

moment_by_fits : (mode : Mode) (d h m s : Option ℕ) → IfSome (moment_by mode d h m s) (λ (due : Due). IsTrue (due_fits due))
moment_by_fits mode (Some d) (Some h) (Some m) (Some s) = moment_of_fits mode d h m s
moment_by_fits mode None h m s = tt
moment_by_fits mode (Some d) None m s = tt
moment_by_fits mode (Some d) (Some h) None s = tt
moment_by_fits mode (Some d) (Some h) (Some m) None = tt

module _ (g : Generated) (id : ServiceId) (reading : Bool) (run : RunState) where
  abbrev KeepsOn : Performed → Type 0
  KeepsOn p = Keeps g id reading run p

  keeps_code : (x : OpenTransaction) (code : Code) → CanGoOn g id x → x.run ≡ run → KeepsOn (replied x code)
  keeps_code x code can same = record { can = can; same_run = same; fits = (omega arith, λ e. absurd (true≢false (sym e))) }

  keeps_read : (x : OpenTransaction) (capacity : ℕ) (bytes : Bytes) → IsTrue reading → CanGoOn g id x → x.run ≡ run → length bytes ≤ 32767 → KeepsOn (read_answer x capacity bytes)
  keeps_read x capacity bytes r can same h = record { can = can; same_run = same; fits = (h, λ e. r) }

  keeps_refused : (x : OpenTransaction) (cause : Cause) → CanGoOn g id x → x.run ≡ run → KeepsOn (refused x cause)
  keeps_refused x cause can same = record { can = can; same_run = same; fits = tt }

  keeps_read_or : (code : Code) (x : OpenTransaction) (capacity : ℕ) (o : Option Bytes) → IsTrue reading → CanGoOn g id x → x.run ≡ run → IsTrue (fits_if_there o) → KeepsOn (read_or code x capacity o)
  keeps_read_or code x capacity None r can same h = keeps_code x code can same
  keeps_read_or code x capacity (Some bytes) r can same h = keeps_read x capacity bytes r can same (leb-true (length bytes) 32767 h)

  keeps_kind : (x : OpenTransaction) (b : Bool) (go : Performed) → CanGoOn g id x → x.run ≡ run → (b ≡ true → KeepsOn go) → KeepsOn (for_kind x b go)
  keeps_kind x true go can same h = h refl
  keeps_kind x false go can same h = keeps_refused x _ can same

  keeps_within : (x : OpenTransaction) (b : Bool) (go : Performed) → CanGoOn g id x → x.run ≡ run → (b ≡ true → KeepsOn go) → KeepsOn (within_length x b go)
  keeps_within x true go can same h = h refl
  keeps_within x false go can same h = keeps_refused x _ can same

  keeps_name : (x : OpenTransaction) (o : Option Bytes) (go : Bytes → Performed) → CanGoOn g id x → x.run ≡ run → ((n : Bytes) → KeepsOn (go n)) → KeepsOn (with_name x o go)
  keeps_name x None go can same h = keeps_code x _ can same
  keeps_name x (Some n) go can same h = h n

  keeps_declared : (x : OpenTransaction) (b : Bool) (go : Performed) → CanGoOn g id x → x.run ≡ run → (b ≡ true → KeepsOn go) → KeepsOn (declared x b go)
  keeps_declared x true go can same h = h refl
  keeps_declared x false go can same h = keeps_code x _ can same

  -- the name is one that the generation declares
  keeps_its_name : (x : OpenTransaction) (name : Bytes) (has : Bytes → Bool) (go : Bytes → Performed) → CanGoOn g id x → x.run ≡ run → ((n : Bytes) → has n ≡ true → KeepsOn (go n)) → KeepsOn (with_name x (name_in_operand name) (λ n. declared x (has n) (go n)))
  keeps_its_name x name has go can same h = keeps_name x (name_in_operand name) _ can same (λ n. keeps_declared x (has n) (go n) can same (h n))

  -- ---- locks

  touching_can : (x : OpenTransaction) (area : Area) (b : Bool) → touches x area ≡ b → CanGoOn g id x → CanGoOn g id (touching x area b)
  touching_can x area true e can = can
  touching_can x area false e can =
      with_touched g id x can (x.touched ++ area ∷ [])
      (all_imply (λ (w : Area × Option Bytes). touches x w.0) (λ (w : Area × Option Bytes). list_any (λ (held : Area). area_eq held w.0) (x.touched ++ area ∷ [])) (λ w h. any_append (λ (held : Area). area_eq held w.0) x.touched (area ∷ []) h) x.written can.written_held)
      (λ a. by a (area_eq area a) refl)
    where
      one : (a : Area) → count_by (λ (held : Area). area_eq held a) (x.touched ++ area ∷ []) ≡ count_by (λ (held : Area). area_eq held a) x.touched + cond (area_eq area a) 1 0
      one a = sum_by_push (λ (held : Area). cond (area_eq held a) 1 0) x.touched area

      by : (a : Area) (b : Bool) → area_eq area a ≡ b → count_by (λ (held : Area). area_eq held a) (x.touched ++ area ∷ []) ≤ 1
      by a true is =
          let none : count_by (λ (held : Area). area_eq held a) x.touched ≡ 0 = count_none (λ (held : Area). area_eq held a) x.touched (subst (λ (c : Area). touches x c ≡ false) (area_eq_same area a is) e) in
          omega (arith, one a, none, ap {B = ℕ} (λ c. cond c 1 0) is)
      by a false is = omega (arith, one a, can.held_once a, ap {B = ℕ} (λ c. cond c 1 0) is)

  touching_touches : (x : OpenTransaction) (area : Area) (b : Bool) → touches x area ≡ b → IsTrue (touches (touching x area b) area)
  touching_touches x area true e = e
  touching_touches x area false e = any_last (λ (held : Area). area_eq held area) x.touched area (area_eq_itself area)

  touching_run : (x : OpenTransaction) (area : Area) (b : Bool) → (touching x area b).run ≡ x.run
  touching_run x area true = refl
  touching_run x area false = refl

  keeps_locked : (v : Told) (x : OpenTransaction) (area : Area) (go : OpenTransaction → Performed) → CanGoOn g id x → x.run ≡ run
      → ((y : OpenTransaction) → CanGoOn g id y → y.run ≡ run → IsTrue (touches y area) → KeepsOn (go y)) → KeepsOn (locked v x area go)
  keeps_locked v x area go can same h = by (answer_by v (touches x area))
    where
      by : (a : LockAnswer) → KeepsOn (on_answer x area a go)
      by Granted =
          h (touching x area (touches x area)) (touching_can x area (touches x area) refl can) (touching_run x area (touches x area) ∙ same) (touching_touches x area (touches x area) refl)
      by MustWait = record { can = can; same_run = same; fits = tt }
      by Busy = keeps_code (noted x area K04) K04 (with_notes g id x can _) same
      by Deadlock = keeps_code (noted x area K05) K05 (with_notes g id x can _) same

  -- ---- areas

  seen_fits : (v : Told) (y : OpenTransaction) (area : Area) → ToldFits v → CanGoOn g id y → IsTrue (fits_if_there (seen v y area))
  seen_fits v y area told can = by (find area_cmp area y.written) refl
    where
      by : (o : Option (Option Bytes)) → find area_cmp area y.written ≡ o → IsTrue (fits_if_there (shown_by o v.content))
      by None e = told
      by (Some own) e =
          let k = found_passes area_cmp (written_fits g) area y.written own can.written e in
          (both_true (area_is_declared g k.0) (fits_if_there own) k.1).1

  keeps_wrote : (y : OpenTransaction) (area : Area) (content : Option Bytes) → CanGoOn g id y → y.run ≡ run → IsTrue (touches y area) → IsTrue (area_is_declared g area) → IsTrue (fits_if_there content) → KeepsOn (wrote y area content)
  keeps_wrote y area content can same held is fits =
      keeps_code (record y { written = put area_cmp area content y.written }) Done
      (with_written g id y can (put area_cmp area content y.written)
      (sorted_put area_total area content y.written can.written_order)
      (all_put area_cmp same_area (written_fits g) area content y.written (true_both (area_is_declared g area) (fits_if_there content) is fits) can.written)
      (all_put area_cmp same_area (λ (w : Area × Option Bytes). touches y w.0) area content y.written held can.written_held))
      same

  keeps_deleted : (y : OpenTransaction) (area : Area) (o : Option Bytes) → CanGoOn g id y → y.run ≡ run → IsTrue (touches y area) → IsTrue (area_is_declared g area) → KeepsOn (deleted y area o)
  keeps_deleted y area None can same held is = keeps_code y K03 can same
  keeps_deleted y area (Some bytes) can same held is = keeps_wrote y area None can same held is refl

  or_empty_fits : (o : Option Bytes) → IsTrue (fits_if_there o) → length (or_empty o) ≤ 32767
  or_empty_fits None h = omega arith
  or_empty_fits (Some bytes) h = leb-true (length bytes) 32767 h

  keeps_read_block : (v : Told) (x : OpenTransaction) (area : Area) (capacity : ℕ) → IsTrue reading → ToldFits v → CanGoOn g id x → x.run ≡ run → KeepsOn (read_block v x area capacity)
  keeps_read_block v x area capacity r told can same =
      keeps_locked v x area _ can same (λ y c s held. keeps_read y capacity (or_empty (seen v y area)) r c s (or_empty_fits (seen v y area) (seen_fits v y area told c)))

  keeps_write_block : (v : Told) (x : OpenTransaction) (area : Area) (bytes : Bytes) → CanGoOn g id x → x.run ≡ run → IsTrue (area_is_declared g area) → IsTrue (fits_content bytes) → KeepsOn (write_block v x area bytes)
  keeps_write_block v x area bytes can same is fits = keeps_locked v x area _ can same (λ y c s held. keeps_wrote y area (Some bytes) c s held is fits)

  keeps_unlocked_by : (v : Told) (x : OpenTransaction) (area : Area) (held written : Bool) → is_some (find area_cmp area x.written) ≡ written → CanGoOn g id x → x.run ≡ run → KeepsOn (unlocked_by v x area held written)
  keeps_unlocked_by v x area false written e can same = keeps_code x K06 can same
  keeps_unlocked_by v x area true true e can same = keeps_code x K07 can same
  keeps_unlocked_by v x area true false e can same =
      keeps_code _ Done
      (with_notes g id (record x { touched = left }) (with_touched g id x can left still (λ a. omega (arith, can.held_once a, sum_filter (λ (held : Area). cond (area_eq held a) 1 0) keep x.touched)))
      (x.notes ++ Released area v.content ∷ []))
      same
    where
      keep : Area → Bool
      keep held = not (area_eq held area)

      left : List Area
      left = filter keep x.touched

      other : (w h : Area) → IsTrue (not (area_eq area w)) → IsTrue (area_eq h w) → IsTrue (not (area_eq h area))
      other w h apart is = subst (λ (k : Area). IsTrue (not (area_eq k area))) (sym (area_eq_same h w is)) (ap not (area_eq_sym w area) ∙ apart)

      still : IsTrue (list_all (λ (w : Area × Option Bytes). list_any (λ (h : Area). area_eq h w.0) left) x.written)
      still =
          all_both (λ (w : Area × Option Bytes). touches x w.0) (λ (w : Area × Option Bytes). not (area_eq area w.0)) (λ (w : Area × Option Bytes). list_any (λ (h : Area). area_eq h w.0) left)
          (λ w t apart. any_filter (λ (h : Area). area_eq h w.0) keep (λ h is. other w.0 h apart is) x.touched t)
          x.written can.written_held (missing_apart area_cmp area x.written e)

  keeps_unlocked : (v : Told) (x : OpenTransaction) (area : Area) → CanGoOn g id x → x.run ≡ run → KeepsOn (unlocked v x area)
  keeps_unlocked v x area can same = keeps_unlocked_by v x area (touches x area) (is_some (find area_cmp area x.written)) refl can same

  -- ---- messages

  got_by_keeps : (x : OpenTransaction) (capacity : ℕ) (parts : List Bytes) → x.unread ≡ parts → IsTrue reading → g.limits.nb ≤ 32767 → CanGoOn g id x → x.run ≡ run → KeepsOn (got_by x capacity parts)
  got_by_keeps x capacity [] e r nb can same = keeps_code x _ can same
  got_by_keeps x capacity (part ∷ rest) e r nb can same =
      let m = subst (IsMessage g) e can.unread in
      let all : length part + sum_by length rest ≤ g.limits.nb = omega (arith, sum_by-cons length part rest, m.bytes) in
      let count : length rest ≤ 16 = omega (arith, m.count) in
      keeps_read (record x { unread = rest }) capacity part r (with_unread g id x can rest (record { count = count; bytes = omega arith })) same (omega arith)

  keeps_put_part : (x : OpenTransaction) (bytes : Bytes) → is_asynchronous id ≡ false → CanGoOn g id x → x.run ≡ run → KeepsOn (put_part g x bytes)
  keeps_put_part x bytes dialogue can same =
      keeps_within x (fits && fewer) _ can same
      (λ h. let both = both_true fits fewer h in
      let sum : sum_by length x.parts + length bytes ≤ g.limits.nb = leb-true _ _ both.0 in
      let few : length x.parts < 16 = ltb-true _ _ both.1 in
      keeps_code _ Done
      (with_parts g id x can (x.parts ++ bytes ∷ []) (record { count = omega (arith, few, length-append x.parts (bytes ∷ [])); bytes = omega (arith, sum, sum_by_push length x.parts bytes) }) (puts id dialogue))
      same)
    where
      fits : Bool
      fits = nat_le (sum_by length x.parts + length bytes) g.limits.nb

      fewer : Bool
      fewer = nat_lt (length x.parts) 16

      puts : (i : ServiceId) → is_asynchronous i ≡ false → PutsNone i (x.parts ++ bytes ∷ [])
      puts (Dialogue user) e = tt
      puts (Asynchronous number) e = absurd (true≢false e)

  -- ---- jobs

  keeps_drafted : (x : OpenTransaction) (o : Option Target) (due : Option Due) (message : Bytes) → IfSome o (λ (to : Target). IsTrue (target_suits g to (job_target g (target_name to)))) → IfSome due (λ (d : Due). IsTrue (due_fits d)) → IsTrue (fits_message g message)
      → CanGoOn g id x → x.run ≡ run → KeepsOn (drafted x o due message)
  keeps_drafted x None due message suits moment fits can same = keeps_code x _ can same
  keeps_drafted x (Some to) None message suits moment fits can same = keeps_code x _ can same
  keeps_drafted x (Some to) (Some due) message suits moment fits can same =
      let d : Draft = record { to = to; due = due; message = message } in
      keeps_code _ Done
      (with_drafts g id x can (x.drafts ++ d ∷ [])
      (all_append (draft_fits g) x.drafts (d ∷ []) can.drafts
      (true_both (draft_fits g d) true (true_both (target_suits g to (job_target g (target_name to)) && fits_message g message) (due_fits due) (true_both _ _ suits fits) moment) refl)))
      same

  keeps_put_job : (x : OpenTransaction) (to : Bytes) (due : Option Due) (message : Bytes) → IfSome due (λ (d : Due). IsTrue (due_fits d)) → CanGoOn g id x → x.run ≡ run → KeepsOn (put_job g x to due message)
  keeps_put_job x to due message moment can same =
      keeps_within x _ _ can same
      (λ fits. keeps_name x (name_in_operand to) _ can same (λ name. keeps_drafted x (job_target g name) due message (job_target_suits g name (job_target g name) refl) moment fits can same))

  -- ---- LSSBs

  keeps_write_local : (x : OpenTransaction) (name bytes : Bytes) → IsTrue (fits_content bytes) → CanGoOn g id x → x.run ≡ run → KeepsOn (write_local g x name bytes)
  keeps_write_local x name bytes fits can same = by (is_some (find bytes_cmp name x.lssbs)) refl (nat_le g.limits.lssbs (length x.lssbs)) refl
    where
      put_one : length (put bytes_cmp name bytes x.lssbs) ≤ g.limits.lssbs → KeepsOn (replied (record x { lssbs = put bytes_cmp name bytes x.lssbs }) Done)
      put_one h =
          keeps_code _ Done
          (with_lssbs g id x can (put bytes_cmp name bytes x.lssbs)
          (sorted_put bytes_total name bytes x.lssbs can.lssbs_order, h, all_put bytes_cmp bytes_same (λ (l : Bytes × Bytes). fits_content l.1) name bytes x.lssbs fits can.lssbs))
          same

      long : length (put bytes_cmp name bytes x.lssbs) ≡ cond (is_some (find bytes_cmp name x.lssbs)) (length x.lssbs) (length x.lssbs + 1)
      long = length_put bytes_cmp bytes_total name bytes x.lssbs can.lssbs_order

      by : (a : Bool) → is_some (find bytes_cmp name x.lssbs) ≡ a → (b : Bool) → nat_le g.limits.lssbs (length x.lssbs) ≡ b
          → KeepsOn (if not a && b then replied x K09 else replied (record x { lssbs = put bytes_cmp name bytes x.lssbs }) Done)
      by true e b f = put_one (omega (arith, long, ap {B = ℕ} (λ c. cond c (length x.lssbs) (length x.lssbs + 1)) e, can.lssbs_count))
      by false e true f = keeps_code x K09 can same
      by false e false f = put_one (omega (arith, long, ap {B = ℕ} (λ c. cond c (length x.lssbs) (length x.lssbs + 1)) e, leb-false _ _ f))

  without_local_can : (x : OpenTransaction) (name : Bytes) → CanGoOn g id x → CanGoOn g id (record x { lssbs = without_local name x.lssbs })
  without_local_can x name can =
      let count : length (without_local name x.lssbs) ≤ g.limits.lssbs = omega (arith, can.lssbs_count, length_filter (λ (l : Bytes × Bytes). not (bytes_eq name l.0)) x.lssbs) in
      with_lssbs g id x can (without_local name x.lssbs)
      (sorted_where bytes_cmp (λ n. not (bytes_eq name n)) x.lssbs can.lssbs_order, count, all_filter (λ (l : Bytes × Bytes). fits_content l.1) (λ (l : Bytes × Bytes). not (bytes_eq name l.0)) x.lssbs can.lssbs)

  local_fits : (x : OpenTransaction) (name bytes : Bytes) → CanGoOn g id x → find bytes_cmp name x.lssbs ≡ Some bytes → IsTrue (fits_content bytes)
  local_fits x name bytes can e = (found_passes bytes_cmp (λ (l : Bytes × Bytes). fits_content l.1) name x.lssbs bytes can.lssbs e).1

  keeps_read_local : (x : OpenTransaction) (name : Bytes) (capacity : ℕ) (o : Option Bytes) → find bytes_cmp name x.lssbs ≡ o → IsTrue reading → CanGoOn g id x → x.run ≡ run → KeepsOn (read_or K03 x capacity o)
  keeps_read_local x name capacity None e r can same = keeps_read_or K03 x capacity None r can same refl
  keeps_read_local x name capacity (Some bytes) e r can same = keeps_read_or K03 x capacity (Some bytes) r can same (local_fits x name bytes can e)

  keeps_read_away : (x : OpenTransaction) (name : Bytes) (capacity : ℕ) (o : Option Bytes) → find bytes_cmp name x.lssbs ≡ o → IsTrue reading → CanGoOn g id x → x.run ≡ run → KeepsOn (read_away_by x name capacity o)
  keeps_read_away x name capacity None e r can same = keeps_code x K03 can same
  keeps_read_away x name capacity (Some bytes) e r can same = keeps_read _ capacity bytes r (without_local_can x name can) same (leb-true _ _ (local_fits x name bytes can e))

  keeps_delete_local : (x : OpenTransaction) (name : Bytes) (o : Option Bytes) → CanGoOn g id x → x.run ≡ run → KeepsOn (delete_local_by x name o)
  keeps_delete_local x name None can same = keeps_code x K03 can same
  keeps_delete_local x name (Some bytes) can same = keeps_code _ Done (without_local_can x name can) same

  -- ---- PEND

  keeps_pended : (x : OpenTransaction) (variant : Variant) (r : Result Outcome Cause) → ((o : Outcome) → r ≡ Ok o → OutcomeFits g (is_asynchronous id) o) → CanGoOn g id x → x.run ≡ run → KeepsOn (pended x variant r)
  keeps_pended x variant (Ok o) fits can same = record { can = can; same_run = same; fits = fits o refl }
  keeps_pended x variant (Err cause) fits can same = keeps_refused x cause can same

-- ---- outcomes

kind_from : (asynchronous : Bool) (variant : Variant) (o : Option TacEntry) (name : Bytes) → ((t : TacEntry) → IsTrue (may_follow asynchronous variant t) → IsTrue (same_kind asynchronous t.asynchronous))
    → IsTrue (fits_follow_up asynchronous variant o (Some name)) → IsTrue (has_kind_by o asynchronous)
kind_from asynchronous variant None name kind h = absurd (true≢false (sym h))
kind_from asynchronous variant (Some t) name kind h = kind t h

goes_fits : (g : Generated) (asynchronous : Bool) (variant : Variant) (name : Option Bytes) → IsTrue (is_for_kind asynchronous variant)
    → IsTrue (not (takes_follow_up variant) || fits_follow_up asynchronous variant (option_and_then (tac_of g) name) name) → OutcomeFits g asynchronous (goes_by variant (name_or_empty name))
goes_fits g true Kp name k h = absurd (true≢false (sym k))
goes_fits g false Kp None k h = absurd (true≢false (sym h))
goes_fits g false Kp (Some n) k h = (kind_from false Kp (tac_of g n) n (λ t may. (both_true (not t.asynchronous) (goes_within t.call) may).0) h, refl)
goes_fits g true Re name k h = absurd (true≢false (sym k))
goes_fits g false Re None k h = absurd (true≢false (sym h))
goes_fits g false Re (Some n) k h = (kind_from false Re (tac_of g n) n (λ t may. (both_true (not t.asynchronous) (goes_within t.call) may).0) h, refl)
goes_fits g true Fc name k h = absurd (true≢false (sym k))
goes_fits g false Fc None k h = absurd (true≢false (sym h))
goes_fits g false Fc (Some n) k h =
    (kind_from false Fc (tac_of g n) n (λ t may. (both_true (not t.asynchronous) (goes_first t.call) (both_true (not t.asynchronous && goes_first t.call) t.on may).0).0) h, refl)
goes_fits g asynchronous Pr None k h = absurd (true≢false (sym h))
goes_fits g asynchronous Pr (Some n) k h = kind_from asynchronous Pr (tac_of g n) n (λ t may. (both_true (same_kind asynchronous t.asynchronous) (goes_within t.call) may).0) h
goes_fits g asynchronous Pa None k h = absurd (true≢false (sym h))
goes_fits g asynchronous Pa (Some n) k h = kind_from asynchronous Pa (tac_of g n) n (λ t may. (both_true (same_kind asynchronous t.asynchronous) (goes_within t.call) may).0) h
goes_fits g asynchronous Sp None k h = absurd (true≢false (sym h))
goes_fits g asynchronous Sp (Some n) k h = kind_from asynchronous Sp (tac_of g n) n (λ t may. (both_true (same_kind asynchronous t.asynchronous) (goes_within t.call) may).0) h
goes_fits g asynchronous _ name k h = tt

pended_by_fits : (g : Generated) (asynchronous : Bool) (o p : Outcome) (a b c : Bool) → (IsTrue a → IsTrue b → OutcomeFits g asynchronous p) → pend_by a b c p ≡ Ok o → OutcomeFits g asynchronous o
pended_by_fits g asynchronous o p false b c fits e = absurd cc
pended_by_fits g asynchronous o p true false c fits e = absurd cc
pended_by_fits g asynchronous o p true true false fits e = absurd cc
pended_by_fits g asynchronous o p true true true fits e = subst (OutcomeFits g asynchronous) (ok_is Cause p o e) (fits refl refl)

-- a follow-up that the rule admits is one without the rule
undenied_fits : (g : Generated) (x : OpenTransaction) (asynchronous : Bool) (variant : Variant) (free : Bool) (name : Option Bytes)
    → IsTrue (free || fits_follow_up asynchronous variant (follow_up_entry (denial_of g) g x variant name) name) → IsTrue (free || fits_follow_up asynchronous variant (option_and_then (tac_of g) name) name)
undenied_fits g x asynchronous variant true name h = refl
undenied_fits g x asynchronous variant false None h = absurd (true≢false (sym h))
undenied_fits g x asynchronous variant false (Some n) h = by (follow_up_denial (denial_of g) x variant n) h
  where
    by : (o : Option Denial) → IsTrue (fits_follow_up asynchronous variant (unless_denied o (tac_of g n)) (Some n)) → IsTrue (fits_follow_up asynchronous variant (tac_of g n) (Some n))
    by None h = h
    by (Some denial) h = absurd (true≢false (sym h))

pend_outcome_fits : (g : Generated) (x : OpenTransaction) (asynchronous : Bool) (variant : Variant) (has : Bool) (name : Option Bytes) (o : Outcome)
    → pend_outcome asynchronous variant has (follow_up_entry (denial_of g) g x variant name) name ≡ Ok o → OutcomeFits g asynchronous o
unfolding pend_outcome
pend_outcome_fits g x asynchronous variant has name o e =
    let free = not (takes_follow_up variant) in
    pended_by_fits g asynchronous o (goes_by variant (name_or_empty name)) (is_for_kind asynchronous variant) (free || fits_follow_up asynchronous variant (follow_up_entry (denial_of g) g x variant name) name) (not (needs_message asynchronous variant) || has)
    (λ kind fits. goes_fits g asynchronous variant name kind (undenied_fits g x asynchronous variant free name fits)) e

-- ---- all calls

not_yes : (b : Bool) → IsTrue (not b) → b ≡ false
not_yes true h = absurd (true≢false (sym h))
not_yes false h = refl

second_fits : (a b : Bytes) → IsTrue (list_all fits_content (a ∷ b ∷ [])) → IsTrue (fits_content b)
second_fits a b h = (both_true (fits_content b) true (both_true (fits_content a) (fits_content b && true) h).1).0

called_keeps : (g : Generated) (id : ServiceId) (v : Told) (x : OpenTransaction) (call : Call) → g.limits.nb ≤ 32767 → ToldFits v → IsTrue (has_short_operands call) → CanGoOn g id x → Keeps g id (reads call) x.run (called g v (is_asynchronous id) x call)
unfolding called
called_keeps g id v x Init nb told short can = keeps_refused g id false x.run x _ can refl
called_keeps g id v x (Mget capacity) nb told short can =
    keeps_kind g id true x.run x (not (is_asynchronous id)) (got x capacity) can refl (λ h. got_by_keeps g id true x.run x capacity x.unread refl refl nb can refl)
called_keeps g id v x (Mput bytes) nb told short can =
    keeps_kind g id false x.run x (not (is_asynchronous id)) (put_part g x bytes) can refl (λ h. keeps_put_part g id false x.run x bytes (not_yes (is_asynchronous id) h) can refl)
called_keeps g id v x (Fget capacity) nb told short can =
    keeps_kind g id true x.run x (is_asynchronous id) (got x capacity) can refl (λ h. got_by_keeps g id true x.run x capacity x.unread refl refl nb can refl)
called_keeps g id v x (Fput to message) nb told short can = keeps_put_job g id false x.run x to (Some (After 0)) message (le-leb 0 last_moment (omega arith)) can refl
called_keeps g id v x (Dput to mode d h m s message) nb told short can =
    keeps_put_job g id false x.run x to (moment_by mode (number_of d) (number_of h) (number_of m) (number_of s)) message (moment_by_fits mode (number_of d) (number_of h) (number_of m) (number_of s)) can refl
called_keeps g id v x (SgetGb name capacity) nb told short can =
    keeps_name g id true x.run x (name_in_operand name) _ can refl
    (λ n. keeps_locked g id true x.run v x (Gssb n) _ can refl (λ y c s held. keeps_read_or g id true x.run K03 y capacity (seen v y (Gssb n)) refl c s (seen_fits g id true x.run v y (Gssb n) told c)))
called_keeps g id v x (SputGb name bytes) nb told short can =
    keeps_name g id false x.run x (name_in_operand name) _ can refl
    (λ n. keeps_locked g id false x.run v x (Gssb n) _ can refl (λ y c s held. keeps_wrote g id false x.run y (Gssb n) (Some bytes) c s held refl (second_fits name bytes short)))
called_keeps g id v x (SrelGb name) nb told short can =
    keeps_name g id false x.run x (name_in_operand name) _ can refl
    (λ n. keeps_locked g id false x.run v x (Gssb n) _ can refl (λ y c s held. keeps_deleted g id false x.run y (Gssb n) (seen v y (Gssb n)) c s held refl))
called_keeps g id v x (SgetKp name capacity) nb told short can =
    keeps_name g id true x.run x (name_in_operand name) _ can refl (λ n. keeps_read_local g id true x.run x n capacity (find bytes_cmp n x.lssbs) refl refl can refl)
called_keeps g id v x (SgetRl name capacity) nb told short can =
    keeps_name g id true x.run x (name_in_operand name) _ can refl (λ n. keeps_read_away g id true x.run x n capacity (find bytes_cmp n x.lssbs) refl refl can refl)
called_keeps g id v x (SputMs name bytes) nb told short can =
    keeps_name g id false x.run x (name_in_operand name) _ can refl (λ n. keeps_write_local g id false x.run x n bytes (second_fits name bytes short) can refl)
called_keeps g id v x (SrelLb name) nb told short can =
    keeps_name g id false x.run x (name_in_operand name) _ can refl (λ n. keeps_delete_local g id false x.run x n (find bytes_cmp n x.lssbs) can refl)
called_keeps g id v x (SgetUs name capacity) nb told short can =
    keeps_its_name g id true x.run x name (has_uls g) _ can refl (λ n h. keeps_read_block g id true x.run v x (Uls n x.user) capacity refl told can refl)
called_keeps g id v x (SputUs name bytes) nb told short can =
    keeps_its_name g id false x.run x name (has_uls g) _ can refl
    (λ n h. keeps_write_block g id false x.run v x (Uls n x.user) bytes can refl (true_both (has_uls g n) (is_user g x.user) h can.user) (second_fits name bytes short))
called_keeps g id v x (Gtda name capacity) nb told short can =
    keeps_its_name g id true x.run x name (has_tls g) _ can refl (λ n h. keeps_read_block g id true x.run v x (Tls n x.lterm) capacity refl told can refl)
called_keeps g id v x (Ptda name bytes) nb told short can =
    keeps_its_name g id false x.run x name (has_tls g) _ can refl
    (λ n h. keeps_write_block g id false x.run v x (Tls n x.lterm) bytes can refl (true_both (has_tls g n) (is_lterm g x.lterm) h can.lterm) (second_fits name bytes short))
called_keeps g id v x (UnlkGb name) nb told short can =
    keeps_name g id false x.run x (name_in_operand name) _ can refl (λ n. keeps_unlocked g id false x.run v x (Gssb n) can refl)
called_keeps g id v x (UnlkUs name) nb told short can = keeps_its_name g id false x.run x name (has_uls g) _ can refl (λ n h. keeps_unlocked g id false x.run v x (Uls n x.user) can refl)
called_keeps g id v x (UnlkDa name) nb told short can = keeps_its_name g id false x.run x name (has_tls g) _ can refl (λ n h. keeps_unlocked g id false x.run v x (Tls n x.lterm) can refl)
called_keeps g id v x (Pend variant op) nb told short can =
    keeps_pended g id false x.run x variant (pend_outcome (is_asynchronous id) variant (has_message x.parts) (follow_up_entry (denial_of g) g x variant (name_by op)) (name_by op))
    (pend_outcome_fits g x (is_asynchronous id) variant (has_message x.parts) (name_by op)) can refl

first_keeps : (g : Generated) (id : ServiceId) (reading : Bool) (x : OpenTransaction) (call : Call) → CanGoOn g id x → Keeps g id reading x.run (first_call x call)
first_keeps g id reading x Init can = keeps_code g id reading x.run (record x { inited = true }) Done (with_inited g id x can true) refl
first_keeps g id reading x _ can = keeps_refused g id reading x.run x _ can refl

pub call_keeps : (g : Generated) (id : ServiceId) (v : Told) (x : OpenTransaction) (call : Call) → g.limits.nb ≤ 32767 → ToldFits v → IsTrue (has_short_operands call) → CanGoOn g id x → Keeps g id (reads call) x.run (call_outcome g v (is_asynchronous id) x call)
unfolding call_outcome
call_keeps g id v x call nb told short can = by x.inited
  where
    by : (b : Bool) → Keeps g id (reads call) x.run (called_by g v (is_asynchronous id) x call b)
    by true = called_keeps g id v x call nb told short can
    by false = first_keeps g id (reads call) x call can
