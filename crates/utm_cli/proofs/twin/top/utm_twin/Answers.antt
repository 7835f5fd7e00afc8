use Rattle.std.proofs.Common.{ap, inl, map, subst, ◌∙◌, Err}
use Rattle.std.specs.String.{string_bytes}
use Rattle.kd_device.specs.Twin.{half_leaves, half_state}
use Rattle.kd_device.specs.declared.half.Half.TheVariants.{First}
use Rattle.refusals.specs.Lines.{refusal_line}
use Rattle.refusals.specs.Statuses.{status_of}
use Rattle.refusals.specs.declared.error.Refusal.{Refusal}
use Rattle.refusals.specs.declared.error.TextError.{TextError}
use Rattle.call_parts.specs.Asking.{IsOfWord, errand_for, one_errand}
use Rattle.call_parts.specs.AskingLaws.{not_missed}
use Rattle.call_parts.specs.declared.errand.Asked.TheVariants.{Two}
use Rattle.call_parts.specs.declared.errand.TwoFiles.{TwoFiles}
use Rattle.call_parts.specs.declared.errand.TwoFiles.TheVariants as files
use Rattle.call_parts.specs.Beside.{SendsRefusalTwo}
use Rattle.utm_cli.proofs.Answering.{asked_nothing, asked_words, refused_call, run_call, without_memory, without_room}
use Rattle.call_parts.proofs.AskedSaid.{double_found, no_second, of_two, of_two_word, one_alone, one_found, two_alone, two_found}
use Rattle.utm_cli.proofs.twin.Calls.{double_call, first_stays, memory_call, read_two, refused_two_call, room_call, single_call, stops_at_first, usage_two_call}
use Rattle.utm_cli.proofs.twin.Lawful.{laws_over_two}
use Rattle.call_parts.proofs.OneHalf.{first_refusal}
use Rattle.utm_cli.proofs.twin.top.utm_twin.Goals as goal

-- ---- they ask for one file

pub returns-in-Ok-One : goal.returns-in-Ok-One
returns-in-Ok-One g c =
    let a = g.T.Twin.both c.args.twin.now in
    let b = g.T.Twin.both c.run_first.new.twin in
    record {
      answers = single_call c.own_trails_hold.ensures (map string_bytes c.args.words.now.items) (g.R.Room.room c.args.room.now) (g.R.Room.room c.read_texts.new.room) a b (g.T.Twin.leaves c.args.twin.now) (g.T.Twin.leaves c.run_first.new.twin) c.run_first.result.code
          (run_call (map string_bytes c.args.words.now.items) (g.R.Room.room c.args.room.now) (g.R.Room.room c.read_texts.new.room) c.in-Some.word c.in-Some.base.now (asked_words _ _ _ c.in-Some.word c.in-Some.base.now c.deref.ensures.value c.in-Some.ensures.value) c.in-Ok-One.ensures.same (c.scripts_run_lawfully.ensures (map string_bytes c.args.words.now.items) (g.R.Room.room c.args.room.now)) c.own_trails_hold.ensures c.verdicts_exclude_each_other.ensures c.in-Ok-One.ensures.fine (one_errand c.in-Ok-One.asked) (subst (IsOfWord c.in-Some.word) c.in-Ok-One.field-0-is c.in-Ok-One.ensures.word)
          (one_found c.in-Some.word c.in-Some.base.now (g.R.Room.room c.args.room.now) _ c.in-Ok-One.ensures.says c.in-Ok-One.asked c.in-Ok-One.field-0-is) (one_alone c.in-Some.word c.in-Some.base.now (g.R.Room.room c.args.room.now) _ c.in-Ok-One.ensures.says c.in-Ok-One.asked c.in-Ok-One.field-0-is)
          (half_state First a) (half_state First b) (half_leaves First (g.T.Twin.leaves c.args.twin.now)) (half_leaves First (g.T.Twin.leaves c.run_first.new.twin)) (λ told m o past. g.met.T.Twin.sent_now c.args.twin.now m past.0 o told past.1)
          (λ told. first_stays g.T.Twin.both g.T.Twin.leaves g.met.T.Twin.holds_now g.met.T.Twin.earlier a c.run_first.new.twin c.run_first.ensures.frame told) c.run_first.result.code c.run_first.ensures.ends)
          c.run_first.ensures.second c.run_first.ensures.frame
          (λ told said reads. no_second c.in-Some.word c.in-Some.base.now (g.R.Room.room c.args.room.now) _ c.in-Ok-One.ensures.says c.in-Ok-One.asked c.in-Ok-One.field-0-is (inl told) said (read_two (map string_bytes c.args.words.now.items) c.in-Some.word c.in-Some.base.now (asked_words _ _ _ c.in-Some.word c.in-Some.base.now c.deref.ensures.value c.in-Some.ensures.value) (g.R.Room.room c.args.room.now) said reads));
    }

pub returns-in-Err-Refused : goal.returns-in-Err-Refused
returns-in-Err-Refused g c =
    let why = c.in-Err-Refused.why in
    let is = ap (λ (e : TextError). Err e) c.in-Err-Refused.field-0-is in
    let a = g.T.Twin.both c.args.twin.now in
    let b = g.T.Twin.both c.refuse_beside-in-Err-Refused.new.twin in
    let sends = subst (λ (x : Refusal). SendsRefusalTwo (status_of x) (refusal_line x) a b c.refuse_beside-in-Err-Refused.result.code) c.in-Err-Refused.why-is c.refuse_beside-in-Err-Refused.ensures in
    record {
      answers = single_call c.own_trails_hold.ensures (map string_bytes c.args.words.now.items) (g.R.Room.room c.args.room.now) (g.R.Room.room c.read_texts.new.room) a b (g.T.Twin.leaves c.args.twin.now) (g.T.Twin.leaves c.refuse_beside-in-Err-Refused.new.twin) c.refuse_beside-in-Err-Refused.result.code
          (refused_call (map string_bytes c.args.words.now.items) (g.R.Room.room c.args.room.now) (g.R.Room.room c.read_texts.new.room) c.in-Some.word c.in-Some.base.now (asked_words _ _ _ c.in-Some.word c.in-Some.base.now c.deref.ensures.value c.in-Some.ensures.value) c.in-Err-Refused.ensures.same (c.scripts_run_lawfully.ensures (map string_bytes c.args.words.now.items) (g.R.Room.room c.args.room.now)) c.own_trails_hold.ensures (c.in-Err-Refused.ensures.refused_fine why is) why (λ tells. (c.in-Err-Refused.ensures.refused why is tells).one) (λ tells. (c.in-Err-Refused.ensures.refused why is tells).one_only) (λ n make. c.in-Err-Refused.ensures.made n make why is)
          (half_state First a) (half_state First b) (half_leaves First (g.T.Twin.leaves c.args.twin.now)) (half_leaves First (g.T.Twin.leaves c.refuse_beside-in-Err-Refused.new.twin)) c.refuse_beside-in-Err-Refused.result.code (first_refusal a b (status_of why) (refusal_line why) c.refuse_beside-in-Err-Refused.result.code sends))
          sends.second sends.frame
          (λ told said reads. (c.in-Err-Refused.ensures.refused why is (inl told)).none said (read_two (map string_bytes c.args.words.now.items) c.in-Some.word c.in-Some.base.now (asked_words _ _ _ c.in-Some.word c.in-Some.base.now c.deref.ensures.value c.in-Some.ensures.value) (g.R.Room.room c.args.room.now) said reads));
    }

-- ---- the texts are not read

pub returns-in-Err-Room : goal.returns-in-Err-Room
returns-in-Err-Room g c =
    let is = ap (λ (e : TextError). Err e) c.in-Err-Room.field-0-is in
    let a = g.T.Twin.both c.args.twin.now in
    let la = g.T.Twin.leaves c.args.twin.now in
    record {
      answers = room_call c.own_trails_hold.ensures (map string_bytes c.args.words.now.items) (g.R.Room.room c.args.room.now) (g.R.Room.room c.read_texts.new.room) (laws_over_two c.texts_of_two_can_run.ensures c.scripts_of_suited_tables_run_lawfully.ensures (map string_bytes c.args.words.now.items) (g.R.Room.room c.args.room.now)) c.in-Some.word c.in-Some.base.now (asked_words _ _ _ c.in-Some.word c.in-Some.base.now c.deref.ensures.value c.in-Some.ensures.value) c.in-Err-Room.ensures.same a la (g.met.T.Twin.sent_now c.args.twin.now) (c.in-Err-Room.ensures.room is) (λ sure d u t there. c.in-Err-Room.ensures.sure sure d u t there is)
          (without_room (map string_bytes c.args.words.now.items) (g.R.Room.room c.args.room.now) (g.R.Room.room c.read_texts.new.room) c.in-Some.word c.in-Some.base.now (asked_words _ _ _ c.in-Some.word c.in-Some.base.now c.deref.ensures.value c.in-Some.ensures.value) c.in-Err-Room.ensures.same (c.scripts_run_lawfully.ensures (map string_bytes c.args.words.now.items) (g.R.Room.room c.args.room.now)) c.own_trails_hold.ensures (half_state First a) (half_leaves First la) (stops_at_first a la (g.met.T.Twin.holds_now c.args.twin.now) (g.met.T.Twin.sent_now c.args.twin.now)) (λ n make. c.in-Err-Room.ensures.made_there n make is) (c.in-Err-Room.ensures.room is) (λ sure d u t there. c.in-Err-Room.ensures.sure sure d u t there is));
    }

pub returns-in-Err-Memory : goal.returns-in-Err-Memory
returns-in-Err-Memory g c =
    let is = ap (λ (e : TextError). Err e) c.in-Err-Memory.field-0-is in
    let a = g.T.Twin.both c.args.twin.now in
    let la = g.T.Twin.leaves c.args.twin.now in
    record {
      answers = memory_call c.own_trails_hold.ensures (map string_bytes c.args.words.now.items) (g.R.Room.room c.args.room.now) (g.R.Room.room c.read_texts.new.room) (laws_over_two c.texts_of_two_can_run.ensures c.scripts_of_suited_tables_run_lawfully.ensures (map string_bytes c.args.words.now.items) (g.R.Room.room c.args.room.now)) c.in-Some.word c.in-Some.base.now (asked_words _ _ _ c.in-Some.word c.in-Some.base.now c.deref.ensures.value c.in-Some.ensures.value) c.in-Err-Memory.ensures.same a la (g.met.T.Twin.sent_now c.args.twin.now) (c.in-Err-Memory.ensures.memory is)
          (without_memory (map string_bytes c.args.words.now.items) (g.R.Room.room c.args.room.now) (g.R.Room.room c.read_texts.new.room) c.in-Some.word c.in-Some.base.now (asked_words _ _ _ c.in-Some.word c.in-Some.base.now c.deref.ensures.value c.in-Some.ensures.value) c.in-Err-Memory.ensures.same (c.scripts_run_lawfully.ensures (map string_bytes c.args.words.now.items) (g.R.Room.room c.args.room.now)) c.own_trails_hold.ensures (half_state First a) (half_leaves First la) (stops_at_first a la (g.met.T.Twin.holds_now c.args.twin.now) (g.met.T.Twin.sent_now c.args.twin.now)) (c.in-Err-Memory.ensures.memory is));
    }

-- ---- they ask for two copies

pub returns-in-Ok-Two-default-Over : goal.returns-in-Ok-Two-default-Over
returns-in-Ok-Two-default-Over g c =
    record {
      answers = double_call c.own_trails_hold.ensures (map string_bytes c.args.words.now.items) (g.R.Room.room c.args.room.now) (g.R.Room.room c.read_texts.new.room) (laws_over_two c.texts_of_two_can_run.ensures c.scripts_of_suited_tables_run_lawfully.ensures (map string_bytes c.args.words.now.items) (g.R.Room.room c.args.room.now)) c.in-Some.word c.in-Some.base.now (asked_words _ _ _ c.in-Some.word c.in-Some.base.now c.deref.ensures.value c.in-Some.ensures.value) c.in-Ok-Two-default-Over.ensures.same c.verdicts_exclude_each_other.ensures c.in-Ok-Two-default-Over.ensures.fine (g.T.Twin.both c.args.twin.now) (g.T.Twin.both c.double.new.twin) (g.T.Twin.leaves c.args.twin.now) (g.T.Twin.leaves c.double.new.twin) c.double.result.code (errand_for c.in-Ok-Two-default-Over.work c.in-Ok-Two-default-Over.task) (of_two_word c.in-Some.word c.in-Some.base.now (g.R.Room.room c.args.room.now) _ c.in-Ok-Two-default-Over.ensures.says c.in-Ok-Two-default-Over._line (files.Over c.in-Ok-Two-default-Over.work c.in-Ok-Two-default-Over.task) (c.in-Ok-Two-default-Over.field-0-is ∙ ap (λ (k : TwoFiles). Two c.in-Ok-Two-default-Over._line k) c.in-Ok-Two-default-Over.field-0-1-is) c.in-Ok-Two-default-Over.ensures.word)
          (of_two c.in-Some.word c.in-Some.base.now (g.R.Room.room c.args.room.now) _ c.in-Ok-Two-default-Over.ensures.says c.in-Ok-Two-default-Over._line (files.Over c.in-Ok-Two-default-Over.work c.in-Ok-Two-default-Over.task) (c.in-Ok-Two-default-Over.field-0-is ∙ ap (λ (k : TwoFiles). Two c.in-Ok-Two-default-Over._line k) c.in-Ok-Two-default-Over.field-0-1-is) c.in-Ok-Two-default-Over.ensures.word) (λ told misses. not_missed (map string_bytes c.args.words.now.items) (g.R.Room.room c.args.room.now) c.in-Some.word c.in-Some.base.now (asked_words _ _ _ c.in-Some.word c.in-Some.base.now c.deref.ensures.value c.in-Some.ensures.value) _ (double_found c.in-Some.word c.in-Some.base.now (g.R.Room.room c.args.room.now) _ c.in-Ok-Two-default-Over.ensures.says c.in-Ok-Two-default-Over._line (files.Over c.in-Ok-Two-default-Over.work c.in-Ok-Two-default-Over.task) (c.in-Ok-Two-default-Over.field-0-is ∙ ap (λ (k : TwoFiles). Two c.in-Ok-Two-default-Over._line k) c.in-Ok-Two-default-Over.field-0-1-is) (inl told)) misses) (two_found c.in-Some.word c.in-Some.base.now (g.R.Room.room c.args.room.now) _ c.in-Ok-Two-default-Over.ensures.says c.in-Ok-Two-default-Over._line (files.Over c.in-Ok-Two-default-Over.work c.in-Ok-Two-default-Over.task) (c.in-Ok-Two-default-Over.field-0-is ∙ ap (λ (k : TwoFiles). Two c.in-Ok-Two-default-Over._line k) c.in-Ok-Two-default-Over.field-0-1-is)) (two_alone c.in-Some.word c.in-Some.base.now (g.R.Room.room c.args.room.now) _ c.in-Ok-Two-default-Over.ensures.says c.in-Ok-Two-default-Over._line (files.Over c.in-Ok-Two-default-Over.work c.in-Ok-Two-default-Over.task) (c.in-Ok-Two-default-Over.field-0-is ∙ ap (λ (k : TwoFiles). Two c.in-Ok-Two-default-Over._line k) c.in-Ok-Two-default-Over.field-0-1-is))
          (record {
            code = c.double.ensures.code;
            done = c.double.ensures.done;
            refused = c.double.ensures.refused;
            refused_part = c.double.ensures.refused_part;
            refused_only = c.double.ensures.refused_only;
            accepted = c.double.ensures.accepted;
            device = c.double.ensures.device;
            device_told = c.double.ensures.device_told;
            fine = c.double.ensures.fine;
            left = c.double.ensures.left;
            any_moment = c.double.ensures.any_moment;
            bytes = c.double.ensures.bytes;
            names = c.double.ensures.names;
            named = c.double.ensures.named;
            frame = c.double.ensures.frame;
          });
    }

pub returns-in-Ok-Two-default-Refused : goal.returns-in-Ok-Two-default-Refused
returns-in-Ok-Two-default-Refused g c =
    let a = g.T.Twin.both c.args.twin.now in
    let b = g.T.Twin.both c.refuse_beside-in-Ok-Two-default-Refused.new.twin in
    record {
      answers = refused_two_call c.own_trails_hold.ensures (map string_bytes c.args.words.now.items) (g.R.Room.room c.args.room.now) (g.R.Room.room c.read_texts.new.room) (laws_over_two c.texts_of_two_can_run.ensures c.scripts_of_suited_tables_run_lawfully.ensures (map string_bytes c.args.words.now.items) (g.R.Room.room c.args.room.now)) c.in-Some.word c.in-Some.base.now (asked_words _ _ _ c.in-Some.word c.in-Some.base.now c.deref.ensures.value c.in-Some.ensures.value) c.in-Ok-Two-default-Refused.ensures.same c.in-Ok-Two-default-Refused.ensures.fine a b (g.T.Twin.leaves c.args.twin.now) (g.T.Twin.leaves c.refuse_beside-in-Ok-Two-default-Refused.new.twin) c.refuse_beside-in-Ok-Two-default-Refused.result.code c.in-Ok-Two-default-Refused.why
          (of_two c.in-Some.word c.in-Some.base.now (g.R.Room.room c.args.room.now) _ c.in-Ok-Two-default-Refused.ensures.says c.in-Ok-Two-default-Refused._line (files.Refused c.in-Ok-Two-default-Refused.why) (c.in-Ok-Two-default-Refused.field-0-is ∙ ap (λ (k : TwoFiles). Two c.in-Ok-Two-default-Refused._line k) c.in-Ok-Two-default-Refused.field-0-1-is) c.in-Ok-Two-default-Refused.ensures.word) (λ told misses. not_missed (map string_bytes c.args.words.now.items) (g.R.Room.room c.args.room.now) c.in-Some.word c.in-Some.base.now (asked_words _ _ _ c.in-Some.word c.in-Some.base.now c.deref.ensures.value c.in-Some.ensures.value) _ (double_found c.in-Some.word c.in-Some.base.now (g.R.Room.room c.args.room.now) _ c.in-Ok-Two-default-Refused.ensures.says c.in-Ok-Two-default-Refused._line (files.Refused c.in-Ok-Two-default-Refused.why) (c.in-Ok-Two-default-Refused.field-0-is ∙ ap (λ (k : TwoFiles). Two c.in-Ok-Two-default-Refused._line k) c.in-Ok-Two-default-Refused.field-0-1-is) (inl told)) misses) (two_found c.in-Some.word c.in-Some.base.now (g.R.Room.room c.args.room.now) _ c.in-Ok-Two-default-Refused.ensures.says c.in-Ok-Two-default-Refused._line (files.Refused c.in-Ok-Two-default-Refused.why) (c.in-Ok-Two-default-Refused.field-0-is ∙ ap (λ (k : TwoFiles). Two c.in-Ok-Two-default-Refused._line k) c.in-Ok-Two-default-Refused.field-0-1-is)) (two_alone c.in-Some.word c.in-Some.base.now (g.R.Room.room c.args.room.now) _ c.in-Ok-Two-default-Refused.ensures.says c.in-Ok-Two-default-Refused._line (files.Refused c.in-Ok-Two-default-Refused.why) (c.in-Ok-Two-default-Refused.field-0-is ∙ ap (λ (k : TwoFiles). Two c.in-Ok-Two-default-Refused._line k) c.in-Ok-Two-default-Refused.field-0-1-is))
          (subst (λ (x : Refusal). SendsRefusalTwo (status_of x) (refusal_line x) a b c.refuse_beside-in-Ok-Two-default-Refused.result.code) c.in-Ok-Two-default-Refused.why-is c.refuse_beside-in-Ok-Two-default-Refused.ensures);
    }

-- ---- the words are none of the forms

pub returns-in_default : goal.returns-in_default
returns-in_default g c =
    let a = g.T.Twin.both c.args.twin.now in
    let b = g.T.Twin.both c.refuse_beside.new.twin in
    let none = asked_nothing _ _ _ c.deref.ensures.value c.in_default.ensures.value in
    record {
      answers = usage_two_call c.own_trails_hold.ensures (map string_bytes c.args.words.now.items) (g.R.Room.room c.args.room.now) none a b (g.T.Twin.leaves c.args.twin.now) (g.T.Twin.leaves c.refuse_beside.new.twin) c.refuse_beside.result.code c.refuse_beside.ensures;
    }
