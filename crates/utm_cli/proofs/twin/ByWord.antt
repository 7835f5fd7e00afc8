-- What holds of each word: of those over copies that are kept, and of those that send their lines beside both files.
use Rattle.std.proofs.Common.{◌≡◌, inl, ℕ, List, [], ◌∷◌, sym, subst, ◌∙◌}
use Rattle.std.specs.Prelude.{Bool, IsTrue}
use Rattle.kd_device.specs.Twin.{Both}
use Rattle.kdcs_types.specs.Tables.{TableRows}
use Rattle.kdcs_types.specs.declared.act.Act.{Act}
use Rattle.kdcs_types.specs.declared.act.Act.TheVariants.{Emit}
use Rattle.abstract_monitor.specs.Listing.{listing}
use Rattle.abstract_monitor.specs.Trace.{bytes_of}
use Rattle.std.proofs.lemmas.List.{append-nil}
use Rattle.refusals.specs.declared.error.FileRefusal.{FileRefusal}
use Rattle.audit_trail.specs.declared.entry.Trail.{Trail as Kept}
use Rattle.call_parts.specs.Asking.{Errand, audit_errand, looking_errand, looking_word, storing_word}
use Rattle.utm_cli.specs.Parts.{looked_by}
use Rattle.call_parts.specs.declared.errand.Looking.{Looking}
use Rattle.call_parts.specs.declared.errand.Looking.TheVariants as looking
use Rattle.call_parts.specs.declared.errand.Storing.{Storing}
use Rattle.call_parts.specs.declared.errand.Storing.TheVariants as storing
use Rattle.call_parts.specs.declared.errand.Work.{Work}
use Rattle.utm_cli.specs.Doing.{HoldsAll, held_line, own, trail_of}
use Rattle.call_parts.specs.declared.words.Word.{Word}
use Rattle.call_parts.specs.declared.words.Word.TheVariants.{Gen, Run, Show, Update, Trail, Audit, Make}
use Rattle.utm_cli.specs.DoingTwo.{KeepsTwo, RefusesTwoBy, RefusesTwo, StartsTwoBy, StartsTwo, acts_two}
use Rattle.call_parts.specs.Opening.{OpensTwo, OpeningRefusesTwo, identity_of_two}
use Rattle.call_parts.specs.LeavingTwo.{AttachesBoth, MayAttachTwo, SaidTwo, SameNamesTwo}
use Rattle.call_ends.specs.Stops.{IsStopOfRun, RanTwo}
use Rattle.utm_cli.specs.PromiseTwo.{AttachesTwoBy, EndsBy, IsFrontOfTwo, IsStopBy, MayAttachTwoBy, TellsTwo}
use Rattle.call_ends.specs.SaidLaws.{names_then}

-- what holds of both words that keep copies
by_kept : (P : Word → Type 0) → P Gen → P Run → (word : Word) → KeepsTwo word → P word
by_kept P gen run Gen keeps = gen
by_kept P gen run Run keeps = run
by_kept P gen run Show keeps = absurd keeps
by_kept P gen run Update keeps = absurd keeps
by_kept P gen run Trail keeps = absurd keeps
by_kept P gen run Audit keeps = absurd keeps
by_kept P gen run (Make n) keeps = absurd keeps

-- ---- words that keep copies

module _ (e : Errand) (keeps : KeepsTwo e.word) where
  pub kept_starts : (a : Both) (t : TableRows) → OpensTwo e a t → StartsTwo e a t
  kept_starts a t = by_kept (λ word. OpensTwo e a t → StartsTwoBy word e a t) (λ h. h) (λ h. h) e.word keeps

  pub kept_opens : (a : Both) (t : TableRows) → StartsTwo e a t → OpensTwo e a t
  kept_opens a t = by_kept (λ word. StartsTwoBy word e a t → OpensTwo e a t) (λ h. h) (λ h. h) e.word keeps

  pub kept_refuses : (a : Both) (why : FileRefusal) → OpeningRefusesTwo e a why → RefusesTwo e a why
  kept_refuses a why = by_kept (λ word. OpeningRefusesTwo e a why → RefusesTwoBy word e a why) (λ h. h) (λ h. h) e.word keeps

  pub kept_stop : (t : TableRows) (acts : List Act) (a b : Both) (c d out : List ℕ) → IsStopOfRun (identity_of_two e) t acts a b c d out → IsStopBy e.word (identity_of_two e) t acts a b c d out
  kept_stop t acts a b c d out = by_kept (λ word. IsStopOfRun (identity_of_two e) t acts a b c d out → IsStopBy word (identity_of_two e) t acts a b c d out) (λ h. h) (λ h. h) e.word keeps

  pub kept_ends : (t : TableRows) (acts : List Act) (a b : Both) (lb : ℕ → List ℕ → List ℕ → List ℕ → Type 0) → RanTwo (identity_of_two e) t acts a b lb → EndsBy e.word (identity_of_two e) t acts a b lb
  kept_ends t acts a b lb = by_kept (λ word. RanTwo (identity_of_two e) t acts a b lb → EndsBy word (identity_of_two e) t acts a b lb) (λ h. h) (λ h. h) e.word keeps

  pub kept_attaches : (base : List ℕ) (a b : Both) → AttachesBoth base a b → AttachesTwoBy e.word base a b
  kept_attaches base a b = by_kept (λ word. AttachesBoth base a b → AttachesTwoBy word base a b) (λ h. h) (λ h. h) e.word keeps

  pub kept_may : (base : List ℕ) (a b : Both) → MayAttachTwo base a b → MayAttachTwoBy e.word base a b
  kept_may base a b = by_kept (λ word. MayAttachTwo base a b → MayAttachTwoBy word base a b) (λ h. h) (λ h. h) e.word keeps

  pub kept_told : (told : Bool) → TellsTwo e.word told → IsTrue told
  kept_told told = by_kept (λ word. TellsTwo word told → IsTrue told) (λ h. h) (λ h. h) e.word keeps

  pub kept_is_no_trail : e.word ≡ Trail → ⊥
  kept_is_no_trail = by_kept (λ word. word ≡ Trail → ⊥) (λ is. cc) (λ is. cc) e.word keeps

pub storing_keeps_two : (s : Storing) → KeepsTwo (storing_word s)
storing_keeps_two storing.Report = tt
storing_keeps_two (storing.Script commands) = tt

-- ---- all words

pub tells_two : (word : Word) (told : Bool) → IsTrue told → TellsTwo word told
tells_two Gen told is = is
tells_two Run told is = is
tells_two Show told is = is
tells_two Update told is = tt
tells_two Trail told is = is
tells_two Audit told is = tt
tells_two (Make n) told is = tt

-- a call that attached none
pub none_attached : (word : Word) (base : List ℕ) (a b : Both) → SameNamesTwo a b → MayAttachTwoBy word base a b
none_attached Gen base a b same = λ half. inl (same half)
none_attached Run base a b same = λ half. inl (same half)
none_attached Show base a b same = λ half. inl (same half)
none_attached Update base a b same = same
none_attached Trail base a b same = λ half. inl (same half)
none_attached Audit base a b same = same
none_attached (Make n) base a b same = same

-- after a call that attached none
pub attached_then_none : (word : Word) (base : List ℕ) (a m b : Both) → MayAttachTwoBy word base a m → SameNamesTwo m b → MayAttachTwoBy word base a b
attached_then_none Gen base a m b may same = names_then a m b base may same
attached_then_none Run base a m b may same = names_then a m b base may same
attached_then_none Show base a m b may same = names_then a m b base may same
attached_then_none Update base a m b may same = λ half. same half ∙ may half
attached_then_none Trail base a m b may same = names_then a m b base may same
attached_then_none Audit base a m b may same = λ half. same half ∙ may half
attached_then_none (Make n) base a m b may same = λ half. same half ∙ may half

-- ---- words that send their lines beside both files

bytes_of_line : (line : List ℕ) → bytes_of (Emit line ∷ []) ≡ line
unfolding bytes_of
bytes_of_line line = append-nil line

-- an errand that sends a line of the tables where it starts, and keeps no copies
pub record SendsBeside (e : Errand) (lb : ℕ → List ℕ → List ℕ → List ℕ → Type 0) (Starts : Both → TableRows → Type 0) (line : TableRows → List ℕ) : Type 0 where
  pub starts : (a : Both) (t : TableRows) → Starts a t → StartsTwo e a t
  pub from : (a : Both) (t : TableRows) → StartsTwo e a t → Starts a t
  pub stop : (t : TableRows) (a b : Both) (c d out : List ℕ) → IsFrontOfTwo (line t) a c d out → IsStopBy e.word (identity_of_two e) t (acts_two e t) a b c d out
  pub ends : (t : TableRows) (a b : Both) → SaidTwo (line t) a b → EndsBy e.word (identity_of_two e) t (acts_two e t) a b lb

front_of : (line : List ℕ) (a : Both) (c d out : List ℕ) → IsFrontOfTwo line a c d out → IsFrontOfTwo (bytes_of (Emit line ∷ [])) a c d out
front_of line a c d out h = subst (λ (l : List ℕ). IsFrontOfTwo l a c d out) (sym (bytes_of_line line)) h

said_of : (line : List ℕ) (a b : Both) → SaidTwo line a b → SaidTwo (bytes_of (Emit line ∷ [])) a b
said_of line a b h = subst (λ (l : List ℕ). SaidTwo l a b) (sym (bytes_of_line line)) h

-- what holds of both words that look
by_looking : (P : Word → Type 0) → P Show → P Trail → (l : Looking) → P (looking_word l)
by_looking P show trail looking.Listing = show
by_looking P show trail (looking.Trail commands) = trail

module _ (e : Errand) (base : List ℕ) (a b : Both) where
  pub looking_refuses : (l : Looking) (why : FileRefusal) → OpeningRefusesTwo e a why → RefusesTwoBy (looking_word l) e a why
  looking_refuses l why = by_looking (λ word. OpeningRefusesTwo e a why → RefusesTwoBy word e a why) (λ h. h) (λ h. h) l

  pub looking_attaches : (l : Looking) → AttachesBoth base a b → AttachesTwoBy (looking_word l) base a b
  looking_attaches l = by_looking (λ word. AttachesBoth base a b → AttachesTwoBy word base a b) (λ h. h) (λ h. h) l

  pub looking_may : (l : Looking) → MayAttachTwo base a b → MayAttachTwoBy (looking_word l) base a b
  looking_may l = by_looking (λ word. MayAttachTwo base a b → MayAttachTwoBy word base a b) (λ h. h) (λ h. h) l

pub looking_starts : (e : Errand) (a : Both) (t : TableRows) (l : Looking) → StartsTwoBy (looking_word l) e a t → OpensTwo e a t
looking_starts e a t l = by_looking (λ word. StartsTwoBy word e a t → OpensTwo e a t) (λ h. h) (λ h. h) l

pub looking_told : (l : Looking) (told : Bool) → TellsTwo (looking_word l) told → IsTrue told
looking_told l told = by_looking (λ word. TellsTwo word told → IsTrue told) (λ h. h) (λ h. h) l

pub lists : (w : Work) (l : Looking) (lb : ℕ → List ℕ → List ℕ → List ℕ → Type 0) → SendsBeside (looking_errand w l) lb (OpensTwo (looking_errand w l)) (looked_by l (looking_errand w l))
lists w looking.Listing lb = record { starts = λ a t h. h; from = λ a t h. h; stop = λ t a b c d out h. front_of (listing t) a c d out h; ends = λ t a b h. said_of (listing t) a b h }
lists w (looking.Trail commands) lb =
    let e = looking_errand w (looking.Trail commands) in
    record { starts = λ a t h. h; from = λ a t h. h; stop = λ t a b c d out h. front_of (trail_of e t) a c d out h; ends = λ t a b h. said_of (trail_of e t) a b h }

pub judges : (w : Work) (trail : Kept) (lb : ℕ → List ℕ → List ℕ → List ℕ → Type 0) → SendsBeside (audit_errand w trail) lb (λ a t. HoldsAll (audit_errand w trail) (own (audit_errand w trail) t)) (λ t. held_line (audit_errand w trail))
judges w trail lb =
    let line = held_line (audit_errand w trail) in
    record { starts = λ a t h. h; from = λ a t h. h; stop = λ t a b c d out h. front_of line a c d out h; ends = λ t a b h. said_of line a b h }
