-- What holds of each word: of those over the store, and of those that send their lines aside of it.
use Rattle.std.proofs.Common.{◌≡◌, inl, inr, ℕ, List, [], ◌∷◌, ◌++◌, take, refl, sym, ap, subst, ◌∙◌}
use Rattle.std.specs.Prelude.{⊤, Bool, IsTrue}
use Rattle.std.proofs.lemmas.List.{append-nil}
use Rattle.kd_device.specs.Device.{State, LeavesOnly, Only}
use Rattle.kd_device.specs.TimeLaws.{leaves_weaker, leaves_then}
use Rattle.kd_device.specs.Rest.{Rests, Before}
use Rattle.kdcs_types.specs.Tables.{TableRows, empty_tables}
use Rattle.kdcs_types.specs.declared.act.Act.{Act}
use Rattle.kdcs_types.specs.declared.act.Act.TheVariants.{Emit}
use Rattle.abstract_monitor.specs.Listing.{listing}
use Rattle.abstract_monitor.specs.Trace.{bytes_of}
use Rattle.device_acts.specs.MeaningLaws.{answers_exclude_each_other}
use Rattle.kdcfile_update.specs.Updating.{Stored}
use Rattle.device_acts.specs.Said.{Said, SaidPart}
use Rattle.refusals.specs.declared.error.FileRefusal.{FileRefusal}
use Rattle.call_parts.specs.MadeReport.{report_of}
use Rattle.call_parts.specs.declared.words.Word.{Word}
use Rattle.call_parts.specs.declared.words.Word.TheVariants.{Gen, Run, Show, Update, Trail, Audit, Make}
use Rattle.call_parts.specs.Asking.{Errand, app_of, looking_word, storing_word}
use Rattle.utm_cli.specs.Doing.{IsOverFile, OpensWith, StartsBy, Starts, RefusesBy, Refuses, own, tables_by, tables_of, acts_by, acts_of, held_line, trail_of}
use Rattle.call_parts.specs.Opening.{Opens, OpeningRefuses, identity_of}
use Rattle.utm_cli.specs.Parts.{looked_by}
use Rattle.call_parts.specs.declared.errand.Looking.{Looking}
use Rattle.call_parts.specs.declared.errand.Looking.TheVariants as looking
use Rattle.call_parts.specs.declared.errand.Storing.{Storing}
use Rattle.call_parts.specs.declared.errand.Storing.TheVariants as storing
use Rattle.utm_cli.specs.Promise.{RanOver, RanBy, Ran, IsCutOver, IsCutBy, IsCutOfRun, IsFront, SaysFront, MakesFile, MayHandOn, HandsOn, WritesActsAlone, Tells}
use Rattle.call_parts.specs.Leaving.{MayAttach}
use Rattle.utm_cli.proofs.Ran.{part_then, nothing_said}

-- ---- what a call starts from

-- the words over a file of these texts
abbrev pub OpensFile : Word → Type 0
OpensFile Gen = ⊤
OpensFile Run = ⊤
OpensFile Show = ⊤
OpensFile Update = ⊥
OpensFile Trail = ⊤
OpensFile Audit = ⊥
OpensFile (Make n) = ⊥

opens_by : (word : Word) → OpensFile word → (e : Errand) (bytes : List ℕ) (s : Stored) → StartsBy word e bytes s → OpensWith e bytes s
opens_by Gen opening e bytes s starts = starts
opens_by Run opening e bytes s starts = starts
opens_by Show opening e bytes s starts = starts
opens_by Update opening e bytes s starts = absurd opening
opens_by Trail opening e bytes s starts = starts
opens_by Audit opening e bytes s starts = absurd opening
opens_by (Make n) opening e bytes s starts = absurd opening

starts_by : (word : Word) → OpensFile word → (e : Errand) (bytes : List ℕ) (t : TableRows) → Opens e bytes t → StartsBy word e bytes (own e t)
starts_by Gen opening e bytes t opens = record { own_texts = refl; opens = opens }
starts_by Run opening e bytes t opens = record { own_texts = refl; opens = opens }
starts_by Show opening e bytes t opens = record { own_texts = refl; opens = opens }
starts_by Update opening e bytes t opens = absurd opening
starts_by Trail opening e bytes t opens = record { own_texts = refl; opens = opens }
starts_by Audit opening e bytes t opens = absurd opening
starts_by (Make n) opening e bytes t opens = absurd opening

refuses_by : (word : Word) → OpensFile word → (e : Errand) (bytes : List ℕ) (why : FileRefusal) → OpeningRefuses e bytes why → RefusesBy word e bytes why
refuses_by Gen opening e bytes why refuses = refuses
refuses_by Run opening e bytes why refuses = refuses
refuses_by Show opening e bytes why refuses = refuses
refuses_by Update opening e bytes why refuses = absurd opening
refuses_by Trail opening e bytes why refuses = refuses
refuses_by Audit opening e bytes why refuses = absurd opening
refuses_by (Make n) opening e bytes why refuses = absurd opening

module _ (e : Errand) (bytes : List ℕ) where
  own_is : (s : Stored) → OpensWith e bytes s → own e s.tables ≡ s
  own_is s h = λ i. record { identity = sym h.own_texts i; tables = s.tables }

  pub starts : OpensFile e.word → (t : TableRows) → Opens e bytes t → Starts e bytes (own e t)
  starts opening t from = starts_by e.word opening e bytes t from

  pub refuses_opening : OpensFile e.word → (why : FileRefusal) → OpeningRefuses e bytes why → Refuses e bytes why
  refuses_opening opening why refuses = refuses_by e.word opening e bytes why refuses

  -- what holds of all tables with which the file is opened holds where the call starts
  pub for_opened : OpensFile e.word → (P : Stored → Type 0) → ((t : TableRows) → Opens e bytes t → P (own e t)) → (s : Stored) → Starts e bytes s → P s
  for_opened opening P each s from = let o = opens_by e.word opening e bytes s from in subst P (own_is s o) (each s.tables o.opens)

  pub opened_once : (t u : TableRows) → Opens e bytes t → Opens e bytes u → t ≡ u
  opened_once t u h k = (answers_exclude_each_other e.application.generation e.fingerprint bytes).started_once t u h k

  -- a file that is not opened is not empty
  pub not_empty : ((t : TableRows) → Opens e bytes t → ⊥) → bytes ≡ [] → ⊥
  not_empty none empty = none empty_tables (inl (empty, refl))

-- ---- words over the store

opening_word : (word : Word) → MakesFile word → OpensFile word
opening_word Gen stored = tt
opening_word Run stored = tt
opening_word Show stored = absurd stored
opening_word Update stored = absurd stored
opening_word Trail stored = absurd stored
opening_word Audit stored = absurd stored
opening_word (Make n) stored = absurd stored

over_file : (word : Word) → OpensFile word → IsOverFile word
over_file Gen opening = tt
over_file Run opening = tt
over_file Show opening = tt
over_file Update opening = absurd opening
over_file Trail opening = tt
over_file Audit opening = absurd opening
over_file (Make n) opening = absurd opening

ran_by : (word : Word) → MakesFile word → (e : Errand) (acts : List Act) (s : Stored) (a b : State) (lb : ℕ → List ℕ → List ℕ → Type 0) → RanOver (identity_of e) acts s.tables a b lb → RanBy word (identity_of e) acts (tables_by word e s) a b lb
ran_by Gen stored e acts s a b lb ran = ran
ran_by Run stored e acts s a b lb ran = ran
ran_by Show stored e acts s a b lb ran = absurd stored
ran_by Update stored e acts s a b lb ran = absurd stored
ran_by Trail stored e acts s a b lb ran = absurd stored
ran_by Audit stored e acts s a b lb ran = absurd stored
ran_by (Make n) stored e acts s a b lb ran = absurd stored

cut_by : (word : Word) → MakesFile word → (e : Errand) (acts : List Act) (s : Stored) (a : State) (image out : List ℕ) → IsCutOver (identity_of e) acts s.tables a image out → IsCutBy word (identity_of e) acts (tables_by word e s) s a image out
cut_by Gen stored e acts s a image out cut = cut
cut_by Run stored e acts s a image out cut = cut
cut_by Show stored e acts s a image out cut = absurd stored
cut_by Update stored e acts s a image out cut = absurd stored
cut_by Trail stored e acts s a image out cut = absurd stored
cut_by Audit stored e acts s a image out cut = absurd stored
cut_by (Make n) stored e acts s a image out cut = absurd stored

alone_by : (word : Word) → MakesFile word → (e : Errand) (s : Stored) (a : State) → WritesActsAlone word e s a → a.holds ≡ [] → ⊥
alone_by Gen stored e s a alone = alone
alone_by Run stored e s a alone = alone
alone_by Show stored e s a alone = absurd stored
alone_by Update stored e s a alone = absurd stored
alone_by Trail stored e s a alone = absurd stored
alone_by Audit stored e s a alone = absurd stored
alone_by (Make n) stored e s a alone = absurd stored

hands_by : (word : Word) → IsOverFile word → (name : List ℕ) (a b : State) → b.names ≡ a.names ++ name ∷ [] → HandsOn word name a b
hands_by Gen over name a b is = is
hands_by Run over name a b is = is
hands_by Show over name a b is = is
hands_by Update over name a b is = is
hands_by Trail over name a b is = is
hands_by Audit over name a b is = absurd over
hands_by (Make n) over name a b is = absurd over

module _ (e : Errand) (stored : MakesFile e.word) where
  pub stored_opening : OpensFile e.word
  stored_opening = opening_word e.word stored

  pub ran_stored : (t : TableRows) (a b : State) (lb : ℕ → List ℕ → List ℕ → Type 0) → RanOver (identity_of e) (acts_of e (own e t)) t a b lb → Ran e (own e t) a b lb
  ran_stored t a b lb ran = ran_by e.word stored e (acts_of e (own e t)) (own e t) a b lb ran

  pub cut_stored : (t : TableRows) (a b : State) (la lb : ℕ → List ℕ → List ℕ → Type 0) → LeavesOnly a b la lb (IsCutOver (identity_of e) (acts_of e (own e t)) t a) → LeavesOnly a b la lb (IsCutOfRun e (own e t) a)
  cut_stored t a b la lb h = leaves_weaker a b la lb (IsCutOver (identity_of e) (acts_of e (own e t)) t a) (IsCutOfRun e (own e t) a) h (cut_by e.word stored e (acts_of e (own e t)) (own e t) a)

  -- the file is there, where the word writes nothing before its acts
  pub is_there : (s : Stored) (a : State) → WritesActsAlone e.word e s a → a.holds ≡ [] → ⊥
  is_there s a alone = alone_by e.word stored e s a alone

pub opening_over : (e : Errand) → OpensFile e.word → IsOverFile e.word
opening_over e opening = over_file e.word opening

pub hands_on : (e : Errand) → IsOverFile e.word → (name : List ℕ) (a b : State) → b.names ≡ a.names ++ name ∷ [] → HandsOn e.word name a b
hands_on e over name a b is = hands_by e.word over name a b is

hands_same_by : (word : Word) (name : List ℕ) (a b d : State) → HandsOn word name a b → d.names ≡ b.names → HandsOn word name a d
hands_same_by Gen name a b d h same = same ∙ h
hands_same_by Run name a b d h same = same ∙ h
hands_same_by Show name a b d h same = same ∙ h
hands_same_by Update name a b d h same = same ∙ h
hands_same_by Trail name a b d h same = same ∙ h
hands_same_by Audit name a b d h same = same ∙ h
hands_same_by (Make n) name a b d h same = same ∙ h

-- after a call that handed on nothing
pub may_then : (word : Word) (name : List ℕ) (a b d : State) → MayHandOn word name a b → d.names ≡ b.names → MayHandOn word name a d
may_then word name a b d (inl none) same = inl (same ∙ none)
may_then word name a b d (inr named) same = inr (hands_same_by word name a b d named same)

pub may_hand_on : (e : Errand) → IsOverFile e.word → (name : List ℕ) (a b : State) → MayAttach name a b → MayHandOn e.word name a b
may_hand_on e over name a b (inl none) = inl none
may_hand_on e over name a b (inr named) = inr (hands_on e over name a b named)

-- the bytes of a file that a word looks into are told
told_by : (word : Word) → IsOverFile word → (told : Bool) → Tells word told → IsTrue told
told_by Gen over told tells = tells
told_by Run over told tells = tells
told_by Show over told tells = tells
told_by Update over told tells = tells
told_by Trail over told tells = tells
told_by Audit over told tells = absurd over
told_by (Make n) over told tells = absurd over

pub told_over : (e : Errand) → IsOverFile e.word → (told : Bool) → Tells e.word told → IsTrue told
told_over e over told tells = told_by e.word over told tells

-- ---- tasks

pub storing_keeps : (s : Storing) → MakesFile (storing_word s)
storing_keeps storing.Report = tt
storing_keeps (storing.Script commands) = tt

pub looking_opens : (l : Looking) → OpensFile (looking_word l)
looking_opens looking.Listing = tt
looking_opens (looking.Trail commands) = tt

-- ---- words that send their lines and leave the file

-- the lines of `show`, `trail`, `audit` and `make`
abbrev pub SendsAside : Word → Errand → TableRows → List ℕ → Type 0
SendsAside Gen e t lines = ⊥
SendsAside Run e t lines = ⊥
SendsAside Show e t lines = lines ≡ listing t
SendsAside Update e t lines = ⊥
SendsAside Trail e t lines = lines ≡ trail_of e t
SendsAside Audit e t lines = lines ≡ held_line e
SendsAside (Make n) e t lines = lines ≡ report_of n (app_of e) e.commands

pub looking_sends : (l : Looking) (e : Errand) (t : TableRows) → SendsAside (looking_word l) e t (looked_by l e t)
looking_sends looking.Listing e t = refl
looking_sends (looking.Trail commands) e t = refl

one_line : (line : List ℕ) → line ≡ bytes_of (Emit line ∷ [])
unfolding bytes_of
one_line line = sym (append-nil line)

bytes_by : (word : Word) (e : Errand) (t : TableRows) (lines : List ℕ) → SendsAside word e t lines → lines ≡ bytes_of (acts_by word e (own e t))
bytes_by Gen e t lines is = absurd is
bytes_by Run e t lines is = absurd is
bytes_by Show e t lines is = is ∙ one_line (listing t)
bytes_by Update e t lines is = absurd is
bytes_by Trail e t lines is = is ∙ one_line (trail_of e t)
bytes_by Audit e t lines is = is ∙ one_line (held_line e)
bytes_by (Make n) e t lines is = is ∙ one_line (report_of n (app_of e) e.commands)

said_by : (word : Word) (e : Errand) (t : TableRows) (lines : List ℕ) → SendsAside word e t lines → (acts : List Act) (u : TableRows) (a b : State) (lb : ℕ → List ℕ → List ℕ → Type 0) → Said (bytes_of acts) a b → RanBy word (identity_of e) acts u a b lb
said_by Gen e t lines is acts u a b lb said = absurd is
said_by Run e t lines is acts u a b lb said = absurd is
said_by Show e t lines is acts u a b lb said = said
said_by Update e t lines is acts u a b lb said = absurd is
said_by Trail e t lines is acts u a b lb said = said
said_by Audit e t lines is acts u a b lb said = said
said_by (Make n) e t lines is acts u a b lb said = said

front_by : (word : Word) (e : Errand) (t : TableRows) (lines : List ℕ) → SendsAside word e t lines → (acts : List Act) (u : TableRows) (s : Stored) (a : State) (image out : List ℕ) → IsFront (bytes_of acts) a image out → IsCutBy word (identity_of e) acts u s a image out
front_by Gen e t lines is acts u s a image out front = absurd is
front_by Run e t lines is acts u s a image out front = absurd is
front_by Show e t lines is acts u s a image out front = front
front_by Update e t lines is acts u s a image out front = absurd is
front_by Trail e t lines is acts u s a image out front = front
front_by Audit e t lines is acts u s a image out front = front
front_by (Make n) e t lines is acts u s a image out front = front

module _ (e : Errand) (t : TableRows) (lines : List ℕ) (is : SendsAside e.word e t lines) (a b : State) (la lb : ℕ → List ℕ → List ℕ → Type 0) where
  sends : lines ≡ bytes_of (acts_of e (own e t))
  sends = bytes_by e.word e t lines is

  pub ran_aside : Said lines a b → Ran e (own e t) a b lb
  ran_aside said = said_by e.word e t lines is (acts_of e (own e t)) (tables_of e (own e t)) a b lb (subst (λ (l : List ℕ). Said l a b) sends said)

  pub cut_aside : Only a.holds a la → SaysFront lines a b la lb → LeavesOnly a b la lb (IsCutOfRun e (own e t) a)
  cut_aside only says =
      leaves_weaker a b la lb (λ c out. la a.moment c a.sent × ((n : ℕ) × (out ≡ a.sent ++ take n lines))) (IsCutOfRun e (own e t) a) says.any_moment
      (λ c out left. front_by e.word e t lines is (acts_of e (own e t)) (tables_of e (own e t)) (own e t) a c out (only c left.0, (left.1.0, left.1.1 ∙ ap (λ (l : List ℕ). a.sent ++ take left.1.0 l) sends)))

-- after calls that changed nothing
module _ (line : List ℕ) (a b d : State) (la lb ld : ℕ → List ℕ → List ℕ → Type 0) (rests : Rests a b la lb) where
  abbrev Front : State → (ℕ → List ℕ → List ℕ → Type 0) → List ℕ → List ℕ → Type 0
  Front s ls c out = ls s.moment c s.sent × ((n : ℕ) × (out ≡ s.sent ++ take n line))

  pub front_then : SaidPart line b d → LeavesOnly b d lb ld (Front b lb) → SaysFront line a d la ld
  front_then part h = record {
    part = part_then line a b d la lb rests part;
    any_moment = leaves_then a b la lb d ld (Front a la) (leaves_weaker a b la lb (Before a la) (Front a la) rests.leaves (λ c out now. (now.1, (0, now.0 ∙ sym (append-nil a.sent)))))
        (leaves_weaker b d lb ld (Front b lb) (Front a la) h (λ c out front. (rests.stop c front.0, (front.1.0, front.1.1 ∙ ap (λ (s : List ℕ). s ++ take front.1.0 line) rests.sent))));
  }

-- nothing was said
pub none_front : (line : List ℕ) (a b : State) (la lb : ℕ → List ℕ → List ℕ → Type 0) → Rests a b la lb → SaysFront line a b la lb
none_front line a b la lb rests = record {
  part = nothing_said line a b la lb rests;
  any_moment = leaves_weaker a b la lb (Before a la) (λ c out. la a.moment c a.sent × ((n : ℕ) × (out ≡ a.sent ++ take n line))) rests.leaves (λ c out now. (now.1, (0, now.0 ∙ sym (append-nil a.sent))));
}

-- what is said of the tables that a file stands for, which was looked at
pub looked_front : (says : TableRows → List ℕ) (e : Errand) (tables t : TableRows) (line : List ℕ) → line ≡ says tables → (a b d : State) (la lb ld : ℕ → List ℕ → List ℕ → Type 0) (rests : Rests a b la lb) → Opens e a.holds tables → Opens e a.holds t → SaidPart line b d → LeavesOnly b d lb ld (Front line a b d la lb ld rests b lb) → SaysFront (says t) a d la ld
looked_front says e tables t line is a b d la lb ld rests from opens part h =
    subst (λ (l : List ℕ). SaysFront l a d la ld) (is ∙ ap says (opened_once e a.holds tables t from opens)) (front_then line a b d la lb ld rests part h)
