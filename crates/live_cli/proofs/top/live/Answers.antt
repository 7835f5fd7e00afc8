use Rattle.std.proofs.Common.{◌≡◌, ◌∙◌, ap, inl, map, refl, subst, sym, Err, Ok}
use Rattle.std.specs.String.{string_bytes}
use Rattle.kd_device.specs.Twin.{half_leaves, half_state}
use Rattle.kd_device.specs.declared.half.Half.TheVariants.{First}
use Rattle.application_types.specs.Fitted.{IsFit}
use Rattle.refusals.specs.Lines.{refusal_line}
use Rattle.refusals.specs.Statuses.{status_of}
use Rattle.refusals.specs.declared.error.Refusal.{Refusal}
use Rattle.refusals.specs.declared.error.TextError.{TextError}
use Rattle.call_parts.specs.Asking.{Errand, HasWork, IsOfWord, MakesFit, Reading, ReadsFor, ReadsForTwo, errand_for, gen_errand, one_errand, work_of}
use Rattle.call_parts.specs.Beside.{SendsRefusalTwo}
use Rattle.call_parts.specs.Words.{live_usage_line}
use Rattle.call_parts.specs.declared.errand.Asked.TheVariants.{Two}
use Rattle.call_parts.specs.declared.errand.OneFile.TheVariants as file
use Rattle.call_parts.specs.declared.errand.TwoFiles.{TwoFiles}
use Rattle.call_parts.specs.declared.errand.TwoFiles.TheVariants as files
use Rattle.call_parts.specs.declared.errand.Work.{Work}
use Rattle.call_parts.specs.declared.words.Word.TheVariants.{Gen}
use Rattle.call_parts.proofs.AskedSaid.{no_second, of_two_word, one_alone, one_found, two_alone, two_found}
use Rattle.call_parts.proofs.OneHalf.{first_refusal}
use Rattle.live_cli.specs.Ends.{EndsLive}
use Rattle.live_cli.proofs.Answering.{asked_alone, asked_base, asked_none, fit_of, gen_is, not_missed, refused_call, run_not, session_call, some_base, texts_code, two_not, usage_call, usage_not, without_memory, without_room}
use Rattle.live_cli.proofs.AnsweringTwo.{double_call, idle_call, read_two, single_call}
use Rattle.live_cli.proofs.top.live.Goals as goal

-- ---- the words are not one BASE

pub returns-in_default : goal.returns-in_default
returns-in_default g c =
    let none = asked_none _ _ _ c.deref.ensures.value c.in_default.ensures.base in
    let sent = c.refuse_beside.ensures in
    record {
      answers = single_call (map string_bytes c.args.words.now.items) (g.R.Room.room c.args.room.now) (g.R.Room.room c.args.room.now) (g.T.Twin.both c.args.twin.now) (g.T.Twin.both c.refuse_beside.new.twin) (g.T.Twin.leaves c.args.twin.now) (g.T.Twin.leaves c.refuse_beside.new.twin) (g.I.Typing.typing c.args.typing.now) (g.I.Typing.typing c.args.typing.now) c.refuse_beside.result.code
          (usage_call (map string_bytes c.args.words.now.items) (g.R.Room.room c.args.room.now) (g.I.Typing.typing c.args.typing.now) none (half_state First (g.T.Twin.both c.args.twin.now)) (half_state First (g.T.Twin.both c.refuse_beside.new.twin)) (half_leaves First (g.T.Twin.leaves c.args.twin.now)) (half_leaves First (g.T.Twin.leaves c.refuse_beside.new.twin)) c.refuse_beside.result.code (first_refusal (g.T.Twin.both c.args.twin.now) (g.T.Twin.both c.refuse_beside.new.twin) 1 live_usage_line c.refuse_beside.result.code sent))
          sent.second sent.frame (λ told said reads. some_base (map string_bytes c.args.words.now.items) reads.base reads.asked none) (λ told misses. some_base (map string_bytes c.args.words.now.items) misses.base misses.asked none) (λ is. usage_not c.refuse_beside.result.code 6 sent.code refl is);
      laws = c.sessions_live_lawfully.ensures;
    }

-- ---- one file

pub live_first-requires : goal.live_first-requires
live_first-requires g c = record {
  fit = subst (λ (w : Work). IsFit w.application.generation w.application.units) (sym c.into_work.ensures) (fit_of c.in-Ok-One.asked (subst MakesFit c.in-Ok-One.field-0-is c.in-Ok-One.ensures.fit));
}

pub returns-in-Ok-One : goal.returns-in-Ok-One
returns-in-Ok-One g c =
    let r = (g.R.Room.room c.args.room.now) in
    let base = c.in-Some.base.now in
    let asked = (asked_base _ _ _ c.in-Some.base.now c.deref.ensures.value c.in-Some.ensures.base) in
    let f = c.in-Ok-One.asked in
    let word : (one_errand f).word ≡ Gen = subst (IsOfWord Gen) c.in-Ok-One.field-0-is c.in-Ok-One.ensures.word in
    let own : one_errand f ≡ gen_errand (work_of f) = gen_is f word in
    let a = half_state First (g.T.Twin.both c.args.twin.now) in
    let b = half_state First (g.T.Twin.both c.live_first.new.twin) in
    let la = half_leaves First (g.T.Twin.leaves c.args.twin.now) in
    let lb = half_leaves First (g.T.Twin.leaves c.live_first.new.twin) in
    let i = (g.I.Typing.typing c.args.typing.now) in
    let j = g.I.Typing.typing c.live_first.new.typing in
    let ends : EndsLive (gen_errand (work_of f)) base i j a b la lb c.live_first.result.code = subst (λ (w : Work). EndsLive (gen_errand w) base i j a b la lb c.live_first.result.code) c.into_work.ensures c.live_first.ensures.ends in
    record {
      answers = single_call (map string_bytes c.args.words.now.items) r (g.R.Room.room c.read_texts.new.room) (g.T.Twin.both c.args.twin.now) (g.T.Twin.both c.live_first.new.twin) (g.T.Twin.leaves c.args.twin.now) (g.T.Twin.leaves c.live_first.new.twin) i j c.live_first.result.code
          (session_call (map string_bytes c.args.words.now.items) r (g.R.Room.room c.read_texts.new.room) base asked c.in-Ok-One.ensures.same c.in-Ok-One.ensures.fine (gen_errand (work_of f))
          (λ told. subst (λ (e : Errand). ReadsFor Gen base r (Ok e)) own (one_found Gen base r _ c.in-Ok-One.ensures.says f c.in-Ok-One.field-0-is (inl told)))
          (λ told. subst (λ (e : Errand). (said : Reading) → ReadsFor Gen base r said → said ≡ Ok e) own (one_alone Gen base r _ c.in-Ok-One.ensures.says f c.in-Ok-One.field-0-is (inl told)))
          i j a b la lb c.live_first.result.code ends)
          c.live_first.ensures.second c.live_first.ensures.frame
          (λ told said reads. no_second Gen base r _ c.in-Ok-One.ensures.says f c.in-Ok-One.field-0-is (inl told) said (read_two (map string_bytes c.args.words.now.items) r (g.R.Room.room c.read_texts.new.room) base asked c.in-Ok-One.ensures.same said reads))
          (λ told misses. not_missed (map string_bytes c.args.words.now.items) r (g.R.Room.room c.read_texts.new.room) base asked c.in-Ok-One.ensures.same _ (one_found Gen base r _ c.in-Ok-One.ensures.says f c.in-Ok-One.field-0-is (inl told)) misses)
          (λ is. run_not c.live_first.result.code 6 ends.code refl is);
      laws = c.sessions_live_lawfully.ensures;
    }

-- ---- two copies

pub double-requires : goal.double-requires
double-requires g c =
    let fit = subst MakesFit (c.in-Ok-Two-default-Over.field-0-is ∙ ap (λ (k : TwoFiles). Two c.in-Ok-Two-default-Over._line k) c.in-Ok-Two-default-Over.field-0-1-is) c.in-Ok-Two-default-Over.ensures.fit in
    record { fit = fit.0.fit; double = fit.1 }

pub returns-in-Ok-Two-default-Over : goal.returns-in-Ok-Two-default-Over
returns-in-Ok-Two-default-Over g c =
    let r = (g.R.Room.room c.args.room.now) in
    let base = c.in-Some.base.now in
    let own : errand_for c.in-Ok-Two-default-Over.work c.in-Ok-Two-default-Over._task ≡ gen_errand c.in-Ok-Two-default-Over.work = gen_is (file.Over c.in-Ok-Two-default-Over.work c.in-Ok-Two-default-Over._task) (of_two_word Gen base r _ c.in-Ok-Two-default-Over.ensures.says c.in-Ok-Two-default-Over._line (files.Over c.in-Ok-Two-default-Over.work c.in-Ok-Two-default-Over._task) (c.in-Ok-Two-default-Over.field-0-is ∙ ap (λ (k : TwoFiles). Two c.in-Ok-Two-default-Over._line k) c.in-Ok-Two-default-Over.field-0-1-is) c.in-Ok-Two-default-Over.ensures.word) in
    record {
      answers = double_call (map string_bytes c.args.words.now.items) r (g.R.Room.room c.read_texts.new.room) base (asked_base _ _ _ c.in-Some.base.now c.deref.ensures.value c.in-Some.ensures.base) c.in-Ok-Two-default-Over.ensures.same c.in-Ok-Two-default-Over.ensures.fine (gen_errand c.in-Ok-Two-default-Over.work)
          (λ told. subst (λ (e : Errand). ReadsForTwo Gen base r (Ok e)) own (two_found Gen base r _ c.in-Ok-Two-default-Over.ensures.says c.in-Ok-Two-default-Over._line (files.Over c.in-Ok-Two-default-Over.work c.in-Ok-Two-default-Over._task) (c.in-Ok-Two-default-Over.field-0-is ∙ ap (λ (k : TwoFiles). Two c.in-Ok-Two-default-Over._line k) c.in-Ok-Two-default-Over.field-0-1-is) (inl told)))
          (λ told. subst (λ (e : Errand). (said : Reading) → ReadsForTwo Gen base r said → said ≡ Ok e) own (two_alone Gen base r _ c.in-Ok-Two-default-Over.ensures.says c.in-Ok-Two-default-Over._line (files.Over c.in-Ok-Two-default-Over.work c.in-Ok-Two-default-Over._task) (c.in-Ok-Two-default-Over.field-0-is ∙ ap (λ (k : TwoFiles). Two c.in-Ok-Two-default-Over._line k) c.in-Ok-Two-default-Over.field-0-1-is) (inl told)))
          (g.I.Typing.typing c.args.typing.now) (g.I.Typing.typing c.double.new.typing) (g.T.Twin.both c.args.twin.now) (g.T.Twin.both c.double.new.twin) (g.T.Twin.leaves c.args.twin.now) (g.T.Twin.leaves c.double.new.twin) c.double.result.code c.in-Some.alone (asked_alone _ _ _ c.in-Some.alone c.deref.ensures.value c.in-Some.ensures.alone) c.double.ensures;
      laws = c.sessions_live_lawfully.ensures;
    }

-- no third text is read that could be refused
pub returns-in-Ok-Two-default-Refused : goal.returns-in-Ok-Two-default-Refused
returns-in-Ok-Two-default-Refused g c = absurd (subst HasWork (c.in-Ok-Two-default-Refused.field-0-is ∙ ap (λ (k : TwoFiles). Two c.in-Ok-Two-default-Refused._line k) c.in-Ok-Two-default-Refused.field-0-1-is) (c.in-Ok-Two-default-Refused.ensures.third tt))

-- ---- texts that are refused

pub returns-in-Err-Refused : goal.returns-in-Err-Refused
returns-in-Err-Refused g c =
    let r = (g.R.Room.room c.args.room.now) in
    let base = c.in-Some.base.now in
    let asked = (asked_base _ _ _ c.in-Some.base.now c.deref.ensures.value c.in-Some.ensures.base) in
    let why = c.in-Err-Refused.why in
    let is = ap (λ (e : TextError). Err e) c.in-Err-Refused.field-0-is in
    let code = c.refuse_beside-in-Err-Refused.result.code in
    let sends = subst (λ (x : Refusal). SendsRefusalTwo (status_of x) (refusal_line x) (g.T.Twin.both c.args.twin.now) (g.T.Twin.both c.refuse_beside-in-Err-Refused.new.twin) code) c.in-Err-Refused.why-is c.refuse_beside-in-Err-Refused.ensures in
    let two = c.in-Err-Refused.ensures.third_refused tt why is in
    record {
      answers = single_call (map string_bytes c.args.words.now.items) r (g.R.Room.room c.read_texts.new.room) (g.T.Twin.both c.args.twin.now) (g.T.Twin.both c.refuse_beside-in-Err-Refused.new.twin) (g.T.Twin.leaves c.args.twin.now) (g.T.Twin.leaves c.refuse_beside-in-Err-Refused.new.twin) (g.I.Typing.typing c.args.typing.now) (g.I.Typing.typing c.args.typing.now) code
          (refused_call (map string_bytes c.args.words.now.items) r (g.R.Room.room c.read_texts.new.room) base asked c.in-Err-Refused.ensures.same (c.in-Err-Refused.ensures.refused_fine why is) why two (λ told. (c.in-Err-Refused.ensures.refused why is (inl told)).one) (λ told. (c.in-Err-Refused.ensures.refused why is (inl told)).one_only)
          (g.I.Typing.typing c.args.typing.now) (half_state First (g.T.Twin.both c.args.twin.now)) (half_state First (g.T.Twin.both c.refuse_beside-in-Err-Refused.new.twin)) (half_leaves First (g.T.Twin.leaves c.args.twin.now)) (half_leaves First (g.T.Twin.leaves c.refuse_beside-in-Err-Refused.new.twin)) code (first_refusal (g.T.Twin.both c.args.twin.now) (g.T.Twin.both c.refuse_beside-in-Err-Refused.new.twin) (status_of why) (refusal_line why) code sends))
          sends.second sends.frame (λ told said reads. (c.in-Err-Refused.ensures.refused why is (inl told)).none said (read_two (map string_bytes c.args.words.now.items) r (g.R.Room.room c.read_texts.new.room) base asked c.in-Err-Refused.ensures.same said reads))
          (λ told misses. not_missed (map string_bytes c.args.words.now.items) r (g.R.Room.room c.read_texts.new.room) base asked c.in-Err-Refused.ensures.same _ (c.in-Err-Refused.ensures.refused why is (inl told)).one misses)
          (λ six. two_not code 6 (texts_code (status_of why) code two sends.code) refl six);
      laws = c.sessions_live_lawfully.ensures;
    }

-- ---- texts that are not read

pub returns-in-Err-Room : goal.returns-in-Err-Room
returns-in-Err-Room g c =
    let is = ap (λ (e : TextError). Err e) c.in-Err-Room.field-0-is in
    record {
      answers = idle_call (map string_bytes c.args.words.now.items) (g.R.Room.room c.args.room.now) (g.R.Room.room c.read_texts.new.room) c.in-Some.base.now (asked_base _ _ _ c.in-Some.base.now c.deref.ensures.value c.in-Some.ensures.base) c.in-Err-Room.ensures.same (g.I.Typing.typing c.args.typing.now) (g.T.Twin.both c.args.twin.now) (g.T.Twin.leaves c.args.twin.now) 6 refl
          (without_room (map string_bytes c.args.words.now.items) (g.R.Room.room c.args.room.now) (g.R.Room.room c.read_texts.new.room) c.in-Some.base.now (asked_base _ _ _ c.in-Some.base.now c.deref.ensures.value c.in-Some.ensures.base) c.in-Err-Room.ensures.same (g.I.Typing.typing c.args.typing.now) (half_state First (g.T.Twin.both c.args.twin.now)) (half_leaves First (g.T.Twin.leaves c.args.twin.now)) (c.in-Err-Room.ensures.room is) (λ sure d u s there. c.in-Err-Room.ensures.sure sure d u s there is));
      laws = c.sessions_live_lawfully.ensures;
    }

pub returns-in-Err-Memory : goal.returns-in-Err-Memory
returns-in-Err-Memory g c =
    let is = ap (λ (e : TextError). Err e) c.in-Err-Memory.field-0-is in
    record {
      answers = idle_call (map string_bytes c.args.words.now.items) (g.R.Room.room c.args.room.now) (g.R.Room.room c.read_texts.new.room) c.in-Some.base.now (asked_base _ _ _ c.in-Some.base.now c.deref.ensures.value c.in-Some.ensures.base) c.in-Err-Memory.ensures.same (g.I.Typing.typing c.args.typing.now) (g.T.Twin.both c.args.twin.now) (g.T.Twin.leaves c.args.twin.now) 7 refl
          (without_memory (map string_bytes c.args.words.now.items) (g.R.Room.room c.args.room.now) (g.R.Room.room c.read_texts.new.room) c.in-Some.base.now (asked_base _ _ _ c.in-Some.base.now c.deref.ensures.value c.in-Some.ensures.base) c.in-Err-Memory.ensures.same (g.I.Typing.typing c.args.typing.now) (half_state First (g.T.Twin.both c.args.twin.now)) (half_leaves First (g.T.Twin.leaves c.args.twin.now)) (c.in-Err-Memory.ensures.memory is));
      laws = c.sessions_live_lawfully.ensures;
    }
