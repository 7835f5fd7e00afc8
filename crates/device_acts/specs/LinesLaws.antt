-- Acts that are lines alone: they make nothing.
use Rattle.std.proofs.Common.{◌≡◌, ℕ, true, List, [], ◌∷◌, ◌++◌, refl, sym, ap, subst, ◌∙◌}
use Rattle.std.proofs.lemmas.List.Folds.{list_all-append}
use Rattle.kd_base.specs.ToolsLaws.{both_true}
use Rattle.kd_device.specs.Device.{State}
use Rattle.kd_device.specs.TimeLaws.{leaves_weaker}
use Rattle.kd_records.specs.Identity.{Identity}
use Rattle.kd_records.specs.declared.content.Content.{Content}
use Rattle.kdcs_types.specs.declared.act.Act.{Act}
use Rattle.kdcs_types.specs.declared.act.Act.TheVariants.{Commit, Emit}
use Rattle.kdcs_types.specs.Tables.{TableRows}
use Rattle.abstract_monitor.specs.Trace.{tables_after}
use Rattle.device_acts.specs.Acting.{is_line, commits_nothing, content_after, IsCutOf, WithinActs, AreCommittable}

front_lines : (p q : List Act) → commits_nothing (p ++ q) ≡ true → commits_nothing p ≡ true
front_lines p q lines = (both_true (commits_nothing p) (commits_nothing q) (sym (list_all-append is_line p q) ∙ lines)).0

-- lines ask nothing of a store
pub lines_can : (i : Identity) (x : Content) (p : List Act) → commits_nothing p ≡ true → AreCommittable i x p
lines_can i x [] lines = tt
lines_can i x (Commit c ∷ p) lines = absurd cc
lines_can i x (Emit line ∷ p) lines = lines_can i x p lines

-- ---- what they make

content_same : (p : List Act) (x : Content) → commits_nothing p ≡ true → content_after x p ≡ x
content_same [] x lines = refl
content_same (Commit c ∷ p) x lines = absurd cc
content_same (Emit line ∷ p) x lines = content_same p x lines

pub tables_same : (p : List Act) (t : TableRows) → commits_nothing p ≡ true → tables_after t p ≡ t
unfolding tables_after
tables_same [] t lines = refl
tables_same (Commit c ∷ p) t lines = absurd cc
tables_same (Emit line ∷ p) t lines = tables_same p t lines

pub kept_content : (p : List Act) (x y : Content) → commits_nothing p ≡ true → y ≡ content_after x p → y ≡ x
kept_content p x y lines is = is ∙ content_same p x lines

module _ (keeps : Content → List ℕ → Type 0) (x : Content) (stands : TableRows → List ℕ → Type 0) (t : TableRows) (means : (image : List ℕ) → keeps x image → stands t image) (acts : List Act) (lines : commits_nothing acts ≡ true) where
  pub lines_cut : (sent image out : List ℕ) → IsCutOf content_after keeps x acts sent image out → IsCutOf tables_after stands t acts sent image out
  lines_cut sent image out h =
      let first = front_lines h.done h.left (ap commits_nothing (sym h.whole) ∙ lines) in
      record {
        since = h.since;
        more = h.more;
        done = h.done;
        left = h.left;
        whole = h.whole;
        file = subst (λ (u : TableRows). stands u image) (sym (tables_same h.done t first)) (means image (subst (λ (y : Content). keeps y image) (content_same h.done x first) h.file));
        bytes = h.bytes;
      }

  -- the same lines, as acts on tables
  pub lines_within : (a b : State) (la lb : ℕ → List ℕ → List ℕ → Type 0) → WithinActs content_after keeps x acts a b la lb → WithinActs tables_after stands t acts a b la lb
  lines_within a b la lb h = record {
    frame = h.frame;
    names = h.names;
    any_moment = λ told. leaves_weaker a b la lb (IsCutOf content_after keeps x acts a.sent) (IsCutOf tables_after stands t acts a.sent) (h.any_moment told) (lines_cut a.sent);
    quiet = h.quiet;
  }
