-- Typed lines over two copies, as over what keeps the tables.
use Rattle.std.proofs.Common.{◌≡◌, ◌∙◌, ◌++◌, refl, ℕ, List, [], ap, subst, sym}
use Rattle.std.specs.Prelude.{IsTrue, Option, None, Result, Ok}
use Rattle.std.proofs.lemmas.List.{append-nil}
use Rattle.std.proofs.lemmas.Result.{on_ok_weaker}
use Rattle.std.specs.Result.{result_and}
use Rattle.kd_device.specs.Twin.{Both}
use Rattle.kd_device.specs.declared.half.Half.{Half}
use Rattle.kd_records.specs.Identity.{Identity}
use Rattle.kd_records.specs.declared.content.Patch.{Patch}
use Rattle.kdcs_types.specs.declared.act.Act.{Act}
use Rattle.kdcs_types.specs.Tables.{TableRows}
use Rattle.abstract_monitor.specs.Trace.{bytes_of, tables_after}
use Rattle.kdcfile_double.specs.Twice.{Twice, content_of, identity_of}
use Rattle.device_acts.specs.Acting.{WithinActs}
use Rattle.device_run.specs.Keeping.{KeepsRows, StandsForRows}
use Rattle.device_run.specs.Running.{identity_of as identity_of_core}
use Rattle.monitor_core.specs.CoreSteps.{durable_of}
use Rattle.monitor_core.specs.CoreValue.{CoreValue}
use Rattle.twin_run.specs.Images.{alone_image, pair_image}
use Rattle.twin_run.specs.Keeping.{IsSinceStart, TwinKept, file_kept, leaves_kept, one_more, stands_kept, state_kept}
use Rattle.twin_run.specs.Parts.{DidTwice, IsCutOfTables}
use Rattle.twin_run.specs.Running.{CountsAs, IsCopyOfTables, IsRunningTwice}
use Rattle.twin_run.proofs.Decoding.{half_cut, left_alone, left_pair, pair_cut, spared}
use Rattle.twin_run.proofs.Handing.{done_both}
use Rattle.twin_run.proofs.Keepers.{core_identity, did_made, part_made, told_back, told_made}
use Rattle.live_run.specs.Sessions.{Exchange}
use Rattle.live_run.specs.Talking.{ReadInTurn, Talked, TalkedOut, acts_of_session}
use Rattle.live_run.specs.TalkingLaws.{each_more}
use Rattle.live_run.specs.Typing.{TypingState}
use Rattle.live_run.specs.declared.error.LiveError.{LiveError}
use Rattle.live_cli.specs.LivingTwo.{IsAtEnd, IsCutSinceRead, IsSparedSince, LivedPart, ReadInTurnTwo, acts_since, tables_then}

-- a cut without the line of a half that is lost
pub none_lost : (keeps : TableRows → Type 0) (MayLose : Half → Type 0) (t : TableRows) (acts : List Act) (sent out : List ℕ) → IsCutOfTables keeps t acts sent out → IsCutSinceRead keeps MayLose t acts sent out
none_lost keeps MayLose t acts sent out cut = record { lost = None; lost_may = λ half is. absurd cc; cut = subst (λ (l : List Act). IsCutOfTables keeps t l sent out) (sym (append-nil acts)) cut }

-- ---- a line that was read

module _ (s0 s : Twice) (b0 a b : Both) (lb : ℕ → List ℕ → List ℕ → List ℕ → Type 0) (copies : s0 ≡ s) (begins : b0 ≡ a) (fingerprint : List ℕ) (c : CoreValue) (j : TypingState) (told : IsTrue a.told) (before : List Exchange) (x : Exchange) (behind : List Exchange) where
  turn_over : ReadInTurn stands_kept fingerprint c j (state_kept s0 b0 a) (state_kept s0 b0 b) (leaves_kept s0 b0 b lb) before x behind → ReadInTurnTwo (IsSparedSince s a b) (λ half. ⊥) (one_more (identity_of_core fingerprint c)) c j None a b lb before x behind
  turn_over r =
      let i = identity_of_core fingerprint c in
      let t = tables_then c before in
      let acts = acts_since c before x behind in
      record {
        since = r.since;
        until = r.until;
        typed = r.typed;
        sent = r.sent told;
        pair = λ first second out left.
            none_lost (λ u. CountsAs (one_more i) u first second) (λ half. ⊥) t acts x.seen.sent out
            (pair_cut i t acts x.seen.sent first second out (r.stored told (pair_image first second) out (left_pair s0 s b0 a b lb lb copies begins b lb x.seen.moment first second out left)));
        alone = λ half fine bytes out left.
            none_lost (λ u. IsCopyOfTables (one_more i) u bytes) (λ half. ⊥) t acts x.seen.sent out
            (half_cut i t acts x.seen.sent half bytes out (r.stored told (alone_image half bytes) out (left_alone s0 s b0 a b lb lb copies begins b lb half x.seen.moment bytes out (spared s0 s b0 a b lb lb copies begins half fine.0 fine.1) left)));
      }

-- ---- all lines, of a twin that was lent to a keeper and given back

module _ {T : Type 0} (both : T → Both) (leaves : T → ℕ → List ℕ → List ℕ → List ℕ → Type 0) (s0 s : Twice) (b0 : Both) (x : T) (copies : s0 ≡ s) (begins : b0 ≡ both x) (i : Identity) (identity : identity_of s ≡ one_more i) (k : TwinKept T) (made : k ≡ record { twin = x; store = s; identity = i })
    (k' : TwinKept T) (y : T) (back : y ≡ k'.twin) (since : IsSinceStart s0 b0 (both k'.twin) k'.identity k'.store) (fingerprint : List ℕ) (c : CoreValue) (running : IsRunningTwice fingerprint c s) (j : TypingState) (result : Result Unit LiveError)
    {most : Identity → Patch → ℕ} (talked : Talked stands_kept most fingerprint c j k'.identity (content_of k'.store) (file_kept k'.identity k'.store (both k'.twin)) (state_kept s0 b0 (both k.twin)) (state_kept s0 b0 (both k'.twin)) (leaves_kept s0 b0 (both k.twin) (leaves k.twin)) (leaves_kept s0 b0 (both k'.twin) (leaves k'.twin)) result)
    (told : IsTrue (both x).told) where
  abbrev acts : List Act
  acts = acts_of_session c talked.exchanges

  told_k : IsTrue (both k.twin).told
  told_k = told_made both leaves s0 s b0 x copies begins i identity k made told

  own : i ≡ identity_of_core fingerprint c
  own = core_identity both leaves s0 s b0 x copies begins i identity k made fingerprint c running

  turn_given : (before : List Exchange) (z : Exchange) (behind : List Exchange) → ReadInTurn stands_kept fingerprint c j (state_kept s0 b0 (both k.twin)) (state_kept s0 b0 (both k'.twin)) (leaves_kept s0 b0 (both k'.twin) (leaves k'.twin)) before z behind
      → ReadInTurnTwo (IsSparedSince s (both x) (both y)) (λ half. ⊥) (identity_of s) c j None (both x) (both y) (leaves y) before z behind
  turn_given before z behind r =
      let here = subst (λ (w : TwinKept T). ReadInTurn stands_kept fingerprint c j (state_kept s0 b0 (both w.twin)) (state_kept s0 b0 (both k'.twin)) (leaves_kept s0 b0 (both k'.twin) (leaves k'.twin)) before z behind) made r in
      subst (λ (w : T). ReadInTurnTwo (IsSparedSince s (both x) (both w)) (λ half. ⊥) (identity_of s) c j None (both x) (both w) (leaves w) before z behind) (sym back)
      (subst (λ (m : Identity). ReadInTurnTwo (IsSparedSince s (both x) (both k'.twin)) (λ half. ⊥) m c j None (both x) (both k'.twin) (leaves k'.twin) before z behind) (sym (identity ∙ ap one_more own))
      (turn_over s0 s b0 (both x) (both k'.twin) (leaves k'.twin) copies begins fingerprint c j told before z behind here))

  at_end : TalkedOut fingerprint c j k'.identity (content_of k'.store) (file_kept k'.identity k'.store (both k'.twin)) talked.exchanges (state_kept s0 b0 (both k.twin)) (state_kept s0 b0 (both k'.twin)) (leaves_kept s0 b0 (both k'.twin) (leaves k'.twin)) → IsAtEnd c j None (both x) talked.exchanges
  at_end out = record { seen = state_kept s0 b0 (both k'.twin); sent = out.sent told_k ∙ ap (λ (w : TwinKept T). (both w.twin).sent ++ bytes_of acts) made; none = out.at_end }

  did : (lost : Option Half) → lost ≡ k'.store.lost → (IsTrue (both k'.twin).told → leaves k'.twin (both k'.twin).moment (both k'.twin).first.holds (both k'.twin).second.holds (both k'.twin).sent)
      → TalkedOut fingerprint c j k'.identity (content_of k'.store) (file_kept k'.identity k'.store (both k'.twin)) talked.exchanges (state_kept s0 b0 (both k.twin)) (state_kept s0 b0 (both k'.twin)) (leaves_kept s0 b0 (both k'.twin) (leaves k'.twin)) → DidTwice (identity_of s) s (durable_of c) acts lost (both x) (both y) (leaves y)
  did lost is now out =
      did_made both leaves s0 s b0 x copies begins i identity k made k' y back since (durable_of c) acts lost is
      (subst (λ (m : Identity). KeepsRows m k'.identity (content_of k'.store) (tables_after (durable_of c) acts)) (sym own) (out.keeps told_k)) (out.sent told_k) (out.at_rest told_k)
      (now (told_back both leaves s0 s b0 x copies begins i identity k made k' since told))

  pub lived_given : (lost : Option Half) → lost ≡ k'.store.lost → (IsTrue (both k'.twin).told → leaves k'.twin (both k'.twin).moment (both k'.twin).first.holds (both k'.twin).second.holds (both k'.twin).sent)
      → (o : Result (Option Half) LiveError) → o ≡ result_and result (Ok lost) → LivedPart (identity_of s) s c j (both x) (both y) (leaves x) (leaves y) o
  lived_given lost is now o answer = record {
    exchanges = talked.exchanges;
    answered = talked.answered told_k;
    read = each_more _ _ talked.exchanges (λ before z behind all r. turn_given before z behind r) [] talked.exchanges refl talked.read;
    stops = part_made both leaves s0 s b0 x copies begins i identity k made k' y back since (durable_of c) acts
        (subst (λ (m : Identity). WithinActs tables_after (StandsForRows stands_kept m) (durable_of c) acts (state_kept s0 b0 (both k.twin)) (state_kept s0 b0 (both k'.twin)) (leaves_kept s0 b0 (both k.twin) (leaves k.twin)) (leaves_kept s0 b0 (both k'.twin) (leaves k'.twin))) (sym own) talked.within);
    ends = done_both (λ half. IsAtEnd c j None (both x) talked.exchanges × DidTwice (identity_of s) s (durable_of c) acts half (both x) (both y) (leaves y)) result lost o answer
        (on_ok_weaker result (λ out. (at_end out, did lost is now out)) talked.done);
  }

-- ---- a twin that was lent, and is known by its equal

pub lived_lent : {T : Type 0} (both : T → Both) (leaves : T → ℕ → List ℕ → List ℕ → List ℕ → Type 0) (x : T) {y : T} (i : Identity) (s : Twice) (c : CoreValue) (j : TypingState) (result : Result (Option Half) LiveError) → LivedPart i s c j (both x) (both y) (leaves x) (leaves y) result
    → (z : T) → y ≡ z → LivedPart i s c j (both x) (both z) (leaves x) (leaves z) result
lived_lent {T} both leaves x {y} i s c j result h z is = subst (λ (w : T). LivedPart i s c j (both x) (both w) (leaves x) (leaves w) result) is h
