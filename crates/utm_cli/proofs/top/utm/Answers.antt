use Rattle.std.proofs.Common.{ap, map, subst, sym, Err, refl, arith}
use Rattle.std.specs.Prelude.{IsTrue}
use Rattle.std.specs.String.{string_bytes}
use Rattle.refusals.specs.declared.error.TextError.{TextError}
use Rattle.refusals.specs.Lines.{refusal_line}
use Rattle.refusals.specs.Statuses.{status_of}
use Rattle.refusals.specs.declared.error.Refusal.{Refusal}
use Rattle.call_parts.specs.Asking.{IsOfWord, one_errand}
use Rattle.call_parts.specs.Beside.{SendsRefusal}
use Rattle.utm_cli.proofs.Answering.{asked_nothing, asked_words, refused_call, run_call, usage_call, without_memory, without_room}
use Rattle.call_parts.proofs.AskedSaid.{double_alone, double_found, no_make, of_two, one_alone, one_found}
use Rattle.utm_cli.proofs.top.utm.Goals as goal

pub returns-in-Ok-One : goal.returns-in-Ok-One
returns-in-Ok-One g c =
    let a = g.D.Device.state c.args.device.now in
    let b = g.D.Device.state c.run.new.device in
    record {
      answers = run_call (map string_bytes c.args.words.now.items) (g.R.Room.room c.args.room.now) (g.R.Room.room c.read_texts.new.room) c.in-Some.word c.in-Some.base.now (asked_words _ _ _ c.in-Some.word c.in-Some.base.now c.deref.ensures.value c.in-Some.ensures.value) c.in-Ok-One.ensures.same (c.scripts_run_lawfully.ensures (map string_bytes c.args.words.now.items) (g.R.Room.room c.args.room.now)) c.own_trails_hold.ensures c.verdicts_exclude_each_other.ensures c.in-Ok-One.ensures.fine (one_errand c.in-Ok-One.asked) (subst (IsOfWord c.in-Some.word) c.in-Ok-One.field-0-is c.in-Ok-One.ensures.word)
          (one_found c.in-Some.word c.in-Some.base.now (g.R.Room.room c.args.room.now) _ c.in-Ok-One.ensures.says c.in-Ok-One.asked c.in-Ok-One.field-0-is) (one_alone c.in-Some.word c.in-Some.base.now (g.R.Room.room c.args.room.now) _ c.in-Ok-One.ensures.says c.in-Ok-One.asked c.in-Ok-One.field-0-is)
          a b (g.D.Device.leaves c.args.device.now) (g.D.Device.leaves c.run.new.device) (λ told m o past. g.met.D.Device.sent_now c.args.device.now m o told past)
          (λ told.
          let told_b : IsTrue b.told = subst IsTrue (sym c.run.ensures.frame.told) told in
          g.met.D.Device.earlier c.run.new.device a.moment b.moment b.holds b.sent told_b c.run.ensures.frame.moment (g.met.D.Device.holds_now c.run.new.device told_b)) c.run.result.code c.run.ensures;
    }

pub returns-in-Ok-Two : goal.returns-in-Ok-Two
returns-in-Ok-Two g c =
    record {
      answers = refused_call (map string_bytes c.args.words.now.items) (g.R.Room.room c.args.room.now) (g.R.Room.room c.read_texts.new.room) c.in-Some.word c.in-Some.base.now (asked_words _ _ _ c.in-Some.word c.in-Some.base.now c.deref.ensures.value c.in-Some.ensures.value) c.in-Ok-Two.ensures.same (c.scripts_run_lawfully.ensures (map string_bytes c.args.words.now.items) (g.R.Room.room c.args.room.now)) c.own_trails_hold.ensures c.in-Ok-Two.ensures.fine _ (double_found c.in-Some.word c.in-Some.base.now (g.R.Room.room c.args.room.now) _ c.in-Ok-Two.ensures.says c.in-Ok-Two.line _ c.in-Ok-Two.field-0-is) (double_alone c.in-Some.word c.in-Some.base.now (g.R.Room.room c.args.room.now) _ c.in-Ok-Two.ensures.says c.in-Ok-Two.line _ c.in-Ok-Two.field-0-is)
          (no_make c.in-Some.word (of_two c.in-Some.word c.in-Some.base.now (g.R.Room.room c.args.room.now) _ c.in-Ok-Two.ensures.says c.in-Ok-Two.line _ c.in-Ok-Two.field-0-is c.in-Ok-Two.ensures.word)) _ _ (g.D.Device.leaves c.args.device.now) (g.D.Device.leaves c.refuse_for-in-Ok-Two.new.device) _ c.refuse_for-in-Ok-Two.ensures;
    }

pub returns-in-Err-Refused : goal.returns-in-Err-Refused
returns-in-Err-Refused g c =
    let why = c.in-Err-Refused.why in
    let is = ap (λ (e : TextError). Err e) c.in-Err-Refused.field-0-is in
    record {
      answers = refused_call (map string_bytes c.args.words.now.items) (g.R.Room.room c.args.room.now) (g.R.Room.room c.read_texts.new.room) c.in-Some.word c.in-Some.base.now (asked_words _ _ _ c.in-Some.word c.in-Some.base.now c.deref.ensures.value c.in-Some.ensures.value) c.in-Err-Refused.ensures.same (c.scripts_run_lawfully.ensures (map string_bytes c.args.words.now.items) (g.R.Room.room c.args.room.now)) c.own_trails_hold.ensures (c.in-Err-Refused.ensures.refused_fine why is) why (λ tells. (c.in-Err-Refused.ensures.refused why is tells).one) (λ tells. (c.in-Err-Refused.ensures.refused why is tells).one_only) (λ n make. c.in-Err-Refused.ensures.made n make why is) (g.D.Device.state c.args.device.now) (g.D.Device.state c.refuse_for-in-Err-Refused.new.device) (g.D.Device.leaves c.args.device.now) (g.D.Device.leaves c.refuse_for-in-Err-Refused.new.device) c.refuse_for-in-Err-Refused.result.code
          (subst (λ (x : Refusal). SendsRefusal (status_of x) (refusal_line x) (g.D.Device.state c.args.device.now) (g.D.Device.state c.refuse_for-in-Err-Refused.new.device) c.refuse_for-in-Err-Refused.result.code) c.in-Err-Refused.why-is c.refuse_for-in-Err-Refused.ensures);
    }

pub returns-in-Err-Room : goal.returns-in-Err-Room
returns-in-Err-Room g c =
    let is = ap (λ (e : TextError). Err e) c.in-Err-Room.field-0-is in
    record {
      answers = without_room (map string_bytes c.args.words.now.items) (g.R.Room.room c.args.room.now) (g.R.Room.room c.read_texts.new.room) c.in-Some.word c.in-Some.base.now (asked_words _ _ _ c.in-Some.word c.in-Some.base.now c.deref.ensures.value c.in-Some.ensures.value) c.in-Err-Room.ensures.same (c.scripts_run_lawfully.ensures (map string_bytes c.args.words.now.items) (g.R.Room.room c.args.room.now)) c.own_trails_hold.ensures (g.D.Device.state c.args.device.now) (g.D.Device.leaves c.args.device.now) (record { holds_now = g.met.D.Device.holds_now c.args.device.now; sent_now = λ told m o past. g.met.D.Device.sent_now c.args.device.now m o told past })
          (λ n make. c.in-Err-Room.ensures.made_there n make is) (c.in-Err-Room.ensures.room is) (λ sure d u s there. c.in-Err-Room.ensures.sure sure d u s there is);
    }

pub returns-in-Err-Memory : goal.returns-in-Err-Memory
returns-in-Err-Memory g c =
    let is = ap (λ (e : TextError). Err e) c.in-Err-Memory.field-0-is in
    record { answers = without_memory (map string_bytes c.args.words.now.items) (g.R.Room.room c.args.room.now) (g.R.Room.room c.read_texts.new.room) c.in-Some.word c.in-Some.base.now (asked_words _ _ _ c.in-Some.word c.in-Some.base.now c.deref.ensures.value c.in-Some.ensures.value) c.in-Err-Memory.ensures.same (c.scripts_run_lawfully.ensures (map string_bytes c.args.words.now.items) (g.R.Room.room c.args.room.now)) c.own_trails_hold.ensures (g.D.Device.state c.args.device.now) (g.D.Device.leaves c.args.device.now) (record { holds_now = g.met.D.Device.holds_now c.args.device.now; sent_now = λ told m o past. g.met.D.Device.sent_now c.args.device.now m o told past }) (c.in-Err-Memory.ensures.memory is) }

pub returns-in_default : goal.returns-in_default
returns-in_default g c =
    let r = g.R.Room.room c.args.room.now in
    record {
      answers = usage_call (map string_bytes c.args.words.now.items) r r (asked_nothing _ _ _ c.deref.ensures.value c.in_default.ensures.value) (g.D.Device.state c.args.device.now) (g.D.Device.state c.refuse_for.new.device) (g.D.Device.leaves c.args.device.now) (g.D.Device.leaves c.refuse_for.new.device) c.refuse_for.result.code
          (record { told = refl; texts = refl; sure = refl; faults = omega arith }) refl c.refuse_for.ensures;
    }
