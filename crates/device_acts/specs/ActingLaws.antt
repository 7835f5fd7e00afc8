-- How acts go on from one another, over whatever they make.
use Rattle.std.proofs.Common.{◌≡◌, ◌⊎◌, inl, inr, ℕ, ◌+◌, ◌<◌, List, [], ◌∷◌, ◌++◌, length, take, drop, get_or, refl, sym, ap, subst, ◌∙◌, arith, append_assoc}
use Rattle.std.specs.Prelude.{IsTrue, true}
use Rattle.std.proofs.lemmas.List.{append-nil, take-append-drop, drop_more, take_more}
use Rattle.std.proofs.lemmas.List.Folds.{list_all-append}
use Rattle.kd_base.specs.ToolsLaws.{both_true}
use Rattle.kd_device.specs.Device.{State, Frame, Rose}
use Rattle.kd_device.specs.TimeLaws.{leaves_weaker, leaves_then}
use Rattle.kdcs_types.specs.declared.act.Act.{Act}
use Rattle.kdcs_types.specs.declared.act.Act.TheVariants.{Commit, Emit}
use Rattle.abstract_monitor.specs.Bytes.{Bytes}
use Rattle.abstract_monitor.specs.Trace.{bytes_of}
use Rattle.laws_of_states.specs.Cut.{SentBy}
use Rattle.device_acts.specs.Acting.{is_line, commits_nothing, AsksDisk, JoinsParts, HaltsAt, IsCutOf, IsKeptBy, LineOrDisk, DidActs, WithinActs}

pub bytes_joined : (p q : List Act) → bytes_of (p ++ q) ≡ bytes_of p ++ bytes_of q
unfolding bytes_of
bytes_joined [] q = refl
bytes_joined (Commit c ∷ p) q = bytes_joined p q
bytes_joined (Emit line ∷ p) q = ap (λ (l : List ℕ). line ++ l) (bytes_joined p q) ∙ sym (append_assoc line (bytes_of p) (bytes_of q))

pub no_bytes : bytes_of [] ≡ []
unfolding bytes_of
no_bytes = refl

-- no acts make nothing, and acts in two parts make what one part makes after the other
pub record Goes {X : Type 0} (after : X → List Act → X) : Type 0 where
  pub none : (x : X) → after x [] ≡ x
  pub joined : (x : X) (p q : List Act) → after x (p ++ q) ≡ after (after x p) q

module _ {X : Type 0} (after : X → List Act → X) (goes : Goes after) (stands : X → Bytes → Type 0) where
  -- nothing was done
  pub cut_none : (start : X) (all : List Act) (sent image : Bytes) → stands start image → IsCutOf after stands start all sent image sent
  cut_none start all sent image file = record {
    since = [];
    more = sym (append-nil sent);
    done = [];
    left = all;
    whole = refl;
    file = subst (λ (x : X). stands x image) (sym (goes.none start)) file;
    bytes = inl (sym no_bytes);
  }

  -- some acts were done, and all that they send was sent
  pub cut_after : (start : X) (p q : List Act) (sent image out : Bytes) → stands (after start p) image → out ≡ sent ++ bytes_of p → IsCutOf after stands start (p ++ q) sent image out
  cut_after start p q sent image out file is = record { since = bytes_of p; more = is; done = p; left = q; whole = refl; file = file; bytes = inl refl }

  -- a part of the first line was sent
  pub cut_within_line : (start : X) (line : Bytes) (q : List Act) (sent image out : Bytes) (n : ℕ) → stands start image → out ≡ sent ++ take n line → IsCutOf after stands start (Emit line ∷ q) sent image out
  cut_within_line start line q sent image out n file is = record {
    since = take n line;
    more = is;
    done = [];
    left = Emit line ∷ q;
    whole = refl;
    file = subst (λ (x : X). stands x image) (sym (goes.none start)) file;
    bytes = inr (line, q, refl, n, ap (λ (l : Bytes). l ++ take n line) (sym no_bytes));
  }

  -- a cut of a part is a cut of the whole
  pub cut_of_part : (start : X) (p here q : List Act) (sent image out : Bytes) → IsCutOf after stands (after start p) here (sent ++ bytes_of p) image out → IsCutOf after stands start (p ++ (here ++ q)) sent image out
  cut_of_part start p here q sent image out h = record {
    since = bytes_of p ++ h.since;
    more = h.more ∙ append_assoc sent (bytes_of p) h.since;
    done = p ++ h.done;
    left = h.left ++ q;
    whole = ap (λ (l : List Act). p ++ l) (ap (λ (l : List Act). l ++ q) h.whole ∙ append_assoc h.done h.left q) ∙ sym (append_assoc p h.done (h.left ++ q));
    file = subst (λ (x : X). stands x image) (sym (goes.joined start p h.done)) h.file;
    bytes = wider h.bytes;
  }
    where
      wider : SentBy h.done h.left h.since → SentBy (p ++ h.done) (h.left ++ q) (bytes_of p ++ h.since)
      wider (inl all) = inl (ap (λ (l : Bytes). bytes_of p ++ l) all ∙ sym (bytes_joined p h.done))
      wider (inr part) =
          inr (
            part.0,
            part.1 ++ q,
            ap (λ (l : List Act). l ++ q) part.2,
            part.3,
            ap (λ (l : Bytes). bytes_of p ++ l) part.4 ∙ sym (append_assoc (bytes_of p) (bytes_of h.done) (take part.3 part.0)) ∙ ap (λ (l : Bytes). l ++ take part.3 part.0) (sym (bytes_joined p h.done)),
          )

  -- nothing happened
  pub none_within : (start : X) (acts : List Act) (a : State) (la : ℕ → List ℕ → List ℕ → Type 0) → WithinActs after stands start acts a a la la
  none_within start acts a la = record {
    frame = record { told = refl; disk_faults = omega arith; line_faults = omega arith; moment = omega arith };
    names = refl;
    any_moment = λ told. record { later = omega arith; only = λ u c out le left. inl left };
    quiet = λ told lines. record { holds = refl; put = refl };
  }

-- some first acts of all are done: a is the device at the start, and b the device now
pub record Running {X : Type 0} (fine : State → State → Type 0) (after : X → List Act → X) (stands : X → Bytes → Type 0) (file : List ℕ → Type 0) (start : X) (all done : List Act) (a b : State) (la lb : ℕ → List ℕ → List ℕ → Type 0) : Type 0 where
  pub within : WithinActs after stands start all a b la lb
  pub sent : DidActs fine file done a b lb

module _ {X : Type 0} (fine : State → State → Type 0) (on : JoinsParts fine) (after : X → List Act → X) (goes : Goes after) (stands : X → Bytes → Type 0) where
  pub running_start : (file : List ℕ → Type 0) (start : X) (all : List Act) (a : State) (la : ℕ → List ℕ → List ℕ → Type 0) → (IsTrue a.told → IsKeptBy file a la) → Running fine after stands file start all [] a a la la
  running_start file start all a la kept = record {
    within = none_within after goes stands start all a la;
    sent = record { rest = kept; sent = λ told. sym (ap (λ (l : Bytes). a.sent ++ l) no_bytes ∙ append-nil a.sent); calls = on.none a };
  }

  module _ (file : List ℕ → Type 0) (start now : X) (all done here rest : List Act) (a b d : State) (la lb ld : ℕ → List ℕ → List ℕ → Type 0) (reached : IsTrue a.told → now ≡ after start done) (split : IsTrue a.told → all ≡ done ++ (here ++ rest)) (run : Running fine after stands file start all done a b la lb) (step : WithinActs after stands now here b d lb ld) where
    told_then : IsTrue a.told → IsTrue b.told
    told_then told = rw run.within.frame.told told

    part_cut : (told : IsTrue a.told) (c out : List ℕ) → IsCutOf after stands now here b.sent c out → IsCutOf after stands start all a.sent c out
    part_cut told c out cut =
        subst (λ (l : List Act). IsCutOf after stands start l a.sent c out) (sym (split told))
        (cut_of_part after goes stands start done here rest a.sent c out (subst (λ (x : X). IsCutOf after stands x here (a.sent ++ bytes_of done) c out) (reached told) (subst (λ (s : List ℕ). IsCutOf after stands now here s c out) (run.sent.sent told) cut)))

    -- a part of lines alone is lines alone
    lines_here : IsTrue a.told → commits_nothing all ≡ true → commits_nothing here ≡ true
    lines_here told lines =
        let behind = (both_true (commits_nothing done) (commits_nothing (here ++ rest)) (sym (list_all-append is_line done (here ++ rest)) ∙ ap commits_nothing (sym (split told)) ∙ lines)).1 in
        (both_true (commits_nothing here) (commits_nothing rest) (sym (list_all-append is_line here rest) ∙ behind)).0

    pub running_within : WithinActs after stands start all a d la ld
    running_within = record {
      frame = record { told = step.frame.told ∙ run.within.frame.told; disk_faults = omega (arith, step.frame.disk_faults, run.within.frame.disk_faults); line_faults = omega (arith, step.frame.line_faults, run.within.frame.line_faults); moment = omega (arith, step.frame.moment, run.within.frame.moment) };
      names = step.names ∙ run.within.names;
      any_moment = λ told. leaves_then a b la lb d ld (IsCutOf after stands start all a.sent) (run.within.any_moment told) (leaves_weaker b d lb ld (IsCutOf after stands now here b.sent) (IsCutOf after stands start all a.sent) (step.any_moment (told_then told)) (part_cut told));
      quiet = λ told lines.
          let before = run.within.quiet told lines in
          let here_too = step.quiet (told_then told) (lines_here told lines) in
          record { holds = here_too.holds ∙ before.holds; put = here_too.put ∙ before.put };
    }

    pub running_more : (file' : List ℕ → Type 0) → DidActs fine file' here b d ld → Running fine after stands file' start all (done ++ here) a d la ld
    running_more file' h = record {
      within = running_within;
      sent = record {
        rest = λ told. h.rest (told_then told);
        sent = λ told. h.sent (told_then told) ∙ ap (λ (s : List ℕ). s ++ bytes_of here) (run.sent.sent told) ∙ append_assoc a.sent (bytes_of done) (bytes_of here) ∙ ap (λ (s : List ℕ). a.sent ++ s) (sym (bytes_joined done here));
        calls = on.after a b d run.sent.calls h.calls;
      };
    }

-- ---- where they halt

-- at the first of them, which asks for the disk
pub halts_at_once : (next : Act) (left : List Act) (a b : State) → AsksDisk next → b.sent ≡ a.sent → HaltsAt (next ∷ left) a b
halts_at_once next left a b asks same = record { done = []; next = next; left = left; asks = asks; whole = refl; sent = same ∙ sym (ap (λ (l : Bytes). a.sent ++ l) no_bytes ∙ append-nil a.sent) }

-- within those that come after these
pub halts_within : (all done here rest : List Act) (a b d : State) → Frame a b → (IsTrue a.told → b.sent ≡ a.sent ++ bytes_of done) → (IsTrue a.told → all ≡ done ++ (here ++ rest)) → LineOrDisk here b d → LineOrDisk all a d
halts_within all done here rest a b d frame sent split step told = by (step (subst IsTrue (sym frame.told) told))
  where
    by : Rose b.line_faults d.line_faults ⊎ HaltsAt here b d → Rose a.line_faults d.line_faults ⊎ HaltsAt all a d
    by (inl rose) = inl (omega (arith, frame.line_faults, rose))
    by (inr h) =
        inr (record {
          done = done ++ h.done;
          next = h.next;
          left = h.left ++ rest;
          asks = h.asks;
          whole = split told ∙ ap (λ (l : List Act). done ++ l) (ap (λ (l : List Act). l ++ rest) h.whole ∙ append_assoc h.done (h.next ∷ h.left) rest) ∙ sym (append_assoc done h.done (h.next ∷ (h.left ++ rest)));
          sent = h.sent ∙ ap (λ (s : Bytes). s ++ bytes_of h.done) (sent told) ∙ append_assoc a.sent (bytes_of done) (bytes_of h.done) ∙ ap (λ (s : Bytes). a.sent ++ s) (sym (bytes_joined done h.done));
        })

-- the list around its element at i
pub around : {X : Type 0} (xs : List X) (i : ℕ) (d x : X) → x ≡ get_or xs i d → i < length xs → xs ≡ take i xs ++ ((x ∷ []) ++ drop (i + 1) xs)
around xs i d x is lt = sym (take-append-drop i xs) ∙ ap (λ l. take i xs ++ l) (drop_more xs i d lt) ∙ ap (λ y. take i xs ++ (y ∷ drop (i + 1) xs)) (sym is)

pub one_more : {X : Type 0} (xs : List X) (i : ℕ) (d x : X) → x ≡ get_or xs i d → i < length xs → take (i + 1) xs ≡ take i xs ++ x ∷ []
one_more xs i d x is lt = take_more xs i d lt ∙ ap (λ y. take i xs ++ y ∷ []) (sym is)

-- the act at i is done
module _ {X : Type 0} (fine : State → State → Type 0) (on : JoinsParts fine) (after : X → List Act → X) (goes : Goes after) (stands : X → Bytes → Type 0) (file : List ℕ → Type 0) (start now : X) (all : List Act) (i : ℕ) (act : Act) (is : act ≡ get_or all i act) (lt : i < length all) (a b d : State) (la lb ld : ℕ → List ℕ → List ℕ → Type 0) (reached : IsTrue a.told → now ≡ after start (take i all)) (run : Running fine after stands file start all (take i all) a b la lb) (step : WithinActs after stands now (act ∷ []) b d lb ld) where
  pub act_within : WithinActs after stands start all a d la ld
  act_within = running_within fine on after goes stands file start now all (take i all) (act ∷ []) (drop (i + 1) all) a b d la lb ld reached (λ told. around all i act act is lt) run step

  pub act_more : (file' : List ℕ → Type 0) → DidActs fine file' (act ∷ []) b d ld → Running fine after stands file' start all (take (i + 1) all) a d la ld
  act_more file' h =
      subst (λ (done : List Act). Running fine after stands file' start all done a d la ld) (sym (one_more all i act act is lt))
      (running_more fine on after goes stands file start now all (take i all) (act ∷ []) (drop (i + 1) all) a b d la lb ld reached (λ told. around all i act act is lt) run step file' h)
