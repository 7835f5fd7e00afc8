-- A call of typed lines over two disks, from what its parts did.
use Rattle.std.proofs.Common.{◌≡◌, inl, inr, ⊎_elim, refl, ℕ, Bool, List, [], ◌∷◌, Some, Ok, ap, subst, sym, ◌∙◌, arith}
use Rattle.std.specs.Prelude.{IsTrue}
use Rattle.std.proofs.lemmas.Bool.Decides.{nat_tests}
use Rattle.kd_device.specs.Room.{RoomState, SameRoom}
use Rattle.kd_device.specs.Twin.{Both, Disk, disk_of, half_leaves, half_state}
use Rattle.kd_device.specs.declared.half.Half.TheVariants.{First, Second}
use Rattle.refusals.specs.Statuses.{IsOneOf}
use Rattle.refusals.specs.Texts.{NoReadFailed}
use Rattle.call_parts.specs.Asking.{Errand, Reading, ReadsForTwo}
use Rattle.call_parts.specs.Leaving.{MayAttach}
use Rattle.call_parts.specs.LeavingTwo.{FrameTwin, MayAttachTwo}
use Rattle.call_parts.specs.Requests.{Lacks}
use Rattle.call_parts.specs.Words.{file_name, live_base_of, takes_alone}
use Rattle.call_parts.specs.declared.words.Word.TheVariants.{Gen}
use Rattle.call_ends.specs.SaidLaws.{none_failed, same_frame}
use Rattle.live_run.specs.Typing.{TypingState}
use Rattle.live_cli.specs.Answers.{AnswersLive}
use Rattle.live_cli.specs.AnswersTwo.{AnswersLiveTwo}
use Rattle.live_cli.specs.EndsTwo.{EndsLiveTwo}
use Rattle.live_cli.specs.Promise.{IsIdle, LiveMisses, live_call}
use Rattle.live_cli.specs.PromiseTwo.{IsSingleLive, LiveReadsTwo, live_twin_call}
use Rattle.live_cli.proofs.Answering.{idle_code, idle_not, run_code, run_not, same_base, some_base}

-- ---- one file, over the first half

module _ (words : List (List ℕ)) (r r' : RoomState) (a b : Both) (la lb : ℕ → List ℕ → List ℕ → List ℕ → Type 0) (i j : TypingState) (status : ℕ) (h : AnswersLive (live_call words r (half_state First a) i) r' j (half_state First b) (half_leaves First la) (half_leaves First lb) status)
    (second : disk_of Second b ≡ disk_of Second a) (frame : FrameTwin a b) (single : IsTrue r.told → (said : Reading) → LiveReadsTwo words r said → ⊥) (there : IsTrue r.told → LiveMisses words r → ⊥) (read : status ≡ 6 → ⊥) where
  may : (base : List ℕ) → MayAttach (file_name base) (half_state First a) (half_state First b) → MayAttachTwo base a b
  may base named First = named
  may base named Second = inl (ap (λ (d : Disk). d.names) second)

  pub single_call : AnswersLiveTwo (live_twin_call words r a i) r' j b la lb status
  single_call = record {
    code = h.code;
    single = λ one. h;
    single_second = λ one. second;
    usage_only = h.usage_only;
    texts_only = λ told e said. absurd (single told (Ok e) said);
    session = λ told e said. absurd (single told (Ok e) said);
    device = λ is. ⊎_elim (λ call. inl (⊎_elim (λ disk. inr (inl disk)) (λ line. inl line) call)) (λ input. inr input) (h.device is);
    device_fine = λ not. let same = h.device_told not in (record { spared = (First, same.0.disk); line = inl same.0.line }, same.1);
    room = h.room;
    room_told = h.room_told;
    room_sure = h.room_sure;
    room_idle = λ is. absurd (read is);
    missing = λ told misses. absurd (there told misses);
    names = λ told base is. may base (h.names told base is);
    frame = frame;
    same_room = h.same_room;
    same_typing = h.same_typing;
  }

-- ---- the words are one BASE

two_texts : (n : ℕ) → IsOneOf (0 ∷ 4 ∷ 5 ∷ 7 ∷ []) n → IsOneOf (0 ∷ 4 ∷ 5 ∷ 6 ∷ 7 ∷ []) n
two_texts n h = grind (arith, nat_tests)

idle_texts : (n : ℕ) → IsOneOf (6 ∷ 7 ∷ []) n → IsOneOf (0 ∷ 4 ∷ 5 ∷ 6 ∷ 7 ∷ []) n
idle_texts n h = grind (arith, nat_tests)

module _ (words : List (List ℕ)) (r r' : RoomState) (base : List ℕ) (asked : live_base_of words ≡ Some base) (same : SameRoom r r') where
  -- what was read of two copies, whichever BASE it is said of
  pub read_two : (said : Reading) → LiveReadsTwo words r said → ReadsForTwo Gen base r said
  read_two said h = subst (λ (b : List ℕ). ReadsForTwo Gen b r said) (same_base words r r' base asked same h.base h.asked) h.reads

  there_two : (said : Reading) → ReadsForTwo Gen base r said → LiveMisses words r → ⊥
  there_two said h k = by (subst (λ (b : List ℕ). Lacks Gen b r) (same_base words r r' base asked same k.base k.asked) k.not_there)
    where
      by : Lacks Gen base r → ⊥
      by (inl none) = let differ = sym h.there.definition_is ∙ none in cc
      by (inr none) = let differ = sym h.there.units_is ∙ none in cc

  -- the texts make an application of two copies
  module _ (fine : NoReadFailed r r') (e : Errand) (found : IsTrue r.told → ReadsForTwo Gen base r (Ok e)) (alone : IsTrue r.told → (said : Reading) → ReadsForTwo Gen base r said → said ≡ Ok e) (i j : TypingState) (a b : Both) (la lb : ℕ → List ℕ → List ℕ → List ℕ → Type 0) (status : ℕ) (option : Bool) (is_option : option ≡ takes_alone words) (h : EndsLiveTwo e base option i j a b la lb status) where
    own_ends : EndsLiveTwo e base (takes_alone words) i j a b la lb status
    own_ends = subst (λ (x : Bool). EndsLiveTwo e base x i j a b la lb status) is_option h

    not_single : IsSingleLive words r → ⊥
    not_single (inl none) = some_base words base asked none
    not_single (inr one) = one.1 (Ok e) (record { base = base; asked = asked; reads = found one.0 })

    ends_said : IsTrue r.told → (f : Errand) → LiveReadsTwo words r (Ok f) → (b' : List ℕ) → live_base_of words ≡ Some b' → EndsLiveTwo f b' (takes_alone words) i j a b la lb status
    ends_said told f said b' is =
        let one = alone told (Ok f) (read_two (Ok f) said) in
        let own : e ≡ f = cc in
        subst (λ (x : Errand). EndsLiveTwo x b' (takes_alone words) i j a b la lb status) own (subst (λ (n : List ℕ). EndsLiveTwo e n (takes_alone words) i j a b la lb status) (sym (same_base words r r' base asked same b' is)) own_ends)

    pub double_call : AnswersLiveTwo (live_twin_call words r a i) r' j b la lb status
    double_call = record {
      code = run_code status h.code;
      single = λ one. absurd (not_single one);
      single_second = λ one. absurd (not_single one);
      usage_only = λ is. absurd (run_not status 1 h.code refl is);
      texts_only = λ told f said. two_texts status h.code;
      session = λ told f said b' is. inr (ends_said told f said b' is);
      device = h.device;
      device_fine = h.device_fine;
      room = λ is. absurd (run_not status 6 h.code refl is);
      room_told = λ not. fine;
      room_sure = λ is. absurd (run_not status 6 h.code refl is);
      room_idle = λ is. absurd (run_not status 6 h.code refl is);
      missing = λ told misses. absurd (there_two (Ok e) (found told) misses);
      names = λ told b' is. subst (λ (n : List ℕ). MayAttachTwo n a b) (sym (same_base words r r' base asked same b' is)) (h.names told);
      frame = h.frame;
      same_room = same;
      same_typing = h.typing;
    }

  -- nothing was done
  module _ (i : TypingState) (a : Both) (la : ℕ → List ℕ → List ℕ → List ℕ → Type 0) (status : ℕ) (late : IsOneOf (6 ∷ 7 ∷ []) status) (h : AnswersLive (live_call words r (half_state First a) i) r' i (half_state First a) (half_leaves First la) (half_leaves First la) status) where
    idle : IsIdle status a a i i
    idle = record { code = late; device = refl; typing = refl }

    pub idle_call : AnswersLiveTwo (live_twin_call words r a i) r' i a la la status
    idle_call = record {
      code = idle_code status late;
      single = λ one. h;
      single_second = λ one. refl;
      usage_only = h.usage_only;
      texts_only = λ told e said. idle_texts status late;
      session = λ told e said b is. inl idle;
      device = λ is. absurd (idle_not status 5 late (omega arith) is);
      device_fine = λ not. (none_failed a, refl);
      room = h.room;
      room_told = h.room_told;
      room_sure = h.room_sure;
      room_idle = λ is. idle;
      missing = λ told misses. idle;
      names = λ told b is half. inl refl;
      frame = same_frame a;
      same_room = same;
      same_typing = h.same_typing;
    }
