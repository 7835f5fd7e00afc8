-- Laws: what the words and the texts say, and what is said of it.
use Rattle.std.proofs.Common.{◌≡◌, ◌⊎◌, inl, inr, ⊎_elim, ℕ, List, [], Some, None, Ok, Err, refl, sym, ap, subst, ◌∙◌}
use Rattle.kd_base.specs.ToolsLaws.{cases_option}
use Rattle.kd_device.specs.Room.{RoomState, text_of}
use Rattle.refusals.specs.declared.error.Refusal.{Refusal}
use Rattle.call_parts.specs.declared.words.Word.{Word}
use Rattle.call_parts.specs.declared.words.Word.TheVariants.{Gen, Run, Show, Update, Trail, Audit, Make}
use Rattle.call_parts.specs.MadeTexts.{definition_text as made_definition, units_text as made_units, script_text as made_script}
use Rattle.call_parts.specs.Words.{definition_name, units_name, script_name, trail_name}
use Rattle.call_parts.specs.Asking.{Errand, Reading, AreThere, ReadsFor}
use Rattle.call_parts.specs.Requests.{Request, Reads, IsMissing, Lacks, Misses}
use Rattle.std.proofs.lemmas.Option.{same_Some}

-- ---- the one reading of a call

module _ (words : List (List ℕ)) (room : RoomState) (word : Word) (base : List ℕ) (asked : Request words word base) where
  pub reads_of : (said : Reading) → ReadsFor word base room said → Reads words room said
  reads_of said h = record { word = word; base = base; asked = asked; reads = h }

  same_request : (w : Word) (b : List ℕ) → Request words w b → (w ≡ word) × (b ≡ base)
  same_request w b h =
      let first : Word × List ℕ = (w, b) in
      let second : Word × List ℕ = (word, base) in
      let e : first ≡ second = same_Some first second (sym h ∙ asked) in
      (ap (λ (p : Word × List ℕ). p.0) e, ap (λ (p : Word × List ℕ). p.1) e)

  lacked : (w : Word) (d u s : List ℕ) → AreThere w base room d u s → Lacks w base room → ⊥
  lacked Gen d u s there (inl none) = let differ = sym there.definition_is ∙ none in cc
  lacked Gen d u s there (inr none) = let differ = sym there.units_is ∙ none in cc
  lacked Show d u s there (inl none) = let differ = sym there.definition_is ∙ none in cc
  lacked Show d u s there (inr none) = let differ = sym there.units_is ∙ none in cc
  lacked Update d u s there (inl none) = let differ = sym there.definition_is ∙ none in cc
  lacked Update d u s there (inr none) = let differ = sym there.units_is ∙ none in cc
  lacked (Make n) d u s there none = none
  lacked Run d u s there (inl none) = let differ = sym there.definition_is ∙ none in cc
  lacked Run d u s there (inr (inl none)) = let differ = sym there.units_is ∙ none in cc
  lacked Run d u s there (inr (inr none)) = let differ = sym there.script_is ∙ none in cc
  lacked Trail d u s there (inl none) = let differ = sym there.definition_is ∙ none in cc
  lacked Trail d u s there (inr (inl none)) = let differ = sym there.units_is ∙ none in cc
  lacked Trail d u s there (inr (inr none)) = let differ = sym there.script_is ∙ none in cc
  lacked Audit d u s there (inl none) = let differ = sym there.definition_is ∙ none in cc
  lacked Audit d u s there (inr (inl none)) = let differ = sym there.units_is ∙ none in cc
  lacked Audit d u s there (inr (inr none)) = let differ = sym there.script_is ∙ none in cc

  pub there_not_missed : (d u s : List ℕ) → AreThere word base room d u s → Misses words room → ⊥
  there_not_missed d u s there k =
      let same = same_request k.word k.base k.asked in
      lacked word d u s there (subst (λ (b : List ℕ). Lacks word b room) same.1 (subst (λ (w : Word). Lacks w k.base room) same.0 k.not_there))

  pub not_missed : (said : Reading) → ReadsFor word base room said → Misses words room → ⊥
  not_missed said h k = there_not_missed h.definition h.units h.text h.there k

  -- a text, or none
  found : (name : List ℕ) → (text_of name room.texts ≡ None) ⊎ ((text : List ℕ) × (text_of name room.texts ≡ Some text))
  found name = cases_option (text_of name room.texts)

  -- the definition and the units, or what is not there
  two_texts : {A : Type 0} → (IsMissing (definition_name base) room → A) → (IsMissing (units_name base) room → A) → ((d u : List ℕ) → text_of (definition_name base) room.texts ≡ Some d → text_of (units_name base) room.texts ≡ Some u → A) → A
  two_texts no_definition no_units both =
      ⊎_elim no_definition (λ d. ⊎_elim no_units (λ u. both d.0 u.0 d.1 u.1) (found (units_name base))) (found (definition_name base))

  -- one of three texts is not there
  three_texts : (third : List ℕ) → ((d u s : List ℕ) → text_of (definition_name base) room.texts ≡ Some d → text_of (units_name base) room.texts ≡ Some u → text_of third room.texts ≡ Some s → ⊥) → IsMissing (definition_name base) room ⊎ IsMissing (units_name base) room ⊎ IsMissing third room
  three_texts third all = two_texts inl (λ none. inr (inl none)) (λ d u d_is u_is. ⊎_elim (λ none. inr (inr none)) (λ s. absurd (all d u s.0 d_is u_is s.1)) (found third))

  lacks : (w : Word) → ((d u s : List ℕ) → AreThere w base room d u s → ⊥) → Lacks w base room
  lacks Gen none_there = two_texts inl inr (λ d u d_is u_is. absurd (none_there d u [] (record { definition_is = d_is; units_is = u_is; script_is = refl })))
  lacks Show none_there = two_texts inl inr (λ d u d_is u_is. absurd (none_there d u [] (record { definition_is = d_is; units_is = u_is; script_is = refl })))
  lacks Update none_there = two_texts inl inr (λ d u d_is u_is. absurd (none_there d u [] (record { definition_is = d_is; units_is = u_is; script_is = refl })))
  lacks (Make n) none_there = none_there made_definition made_units (made_script n) (record { definition_is = refl; units_is = refl; script_is = refl })
  lacks Run none_there = three_texts (script_name base) (λ d u s d_is u_is s_is. none_there d u s (record { definition_is = d_is; units_is = u_is; script_is = s_is }))
  lacks Trail none_there = three_texts (script_name base) (λ d u s d_is u_is s_is. none_there d u s (record { definition_is = d_is; units_is = u_is; script_is = s_is }))
  lacks Audit none_there = three_texts (trail_name base) (λ d u s d_is u_is s_is. none_there d u s (record { definition_is = d_is; units_is = u_is; script_is = s_is }))

  pub misses_of : ((d u s : List ℕ) → AreThere word base room d u s → ⊥) → Misses words room
  misses_of none_there = record { word = word; base = base; asked = asked; not_there = lacks word none_there }

  -- the words and the texts say one thing
  pub one_reading : (answer : Reading) → ((said : Reading) → ReadsFor word base room said → said ≡ answer) → (said : Reading) → Reads words room said → said ≡ answer
  one_reading answer one said h =
      let same = same_request h.word h.base h.asked in
      one said (subst (λ (b : List ℕ). ReadsFor word b room said) same.1 (subst (λ (v : Word). ReadsFor v h.base room said) same.0 h.reads))

-- ---- texts that ask for something

module _ (words : List (List ℕ)) (room : RoomState) (e : Errand) (one : (said : Reading) → Reads words room said → said ≡ Ok e) where
  pub ok_not : (why : Refusal) → Reads words room (Err why) → ⊥
  ok_not why h = let differ = one (Err why) h in cc

  -- what holds of what was read holds of what is said
  pub moved : (P : Errand → Type 0) (f : Errand) → Reads words room (Ok f) → P e → P f
  moved P f h p =
      let same = one (Ok f) h in
      let is : e ≡ f = cc in
      subst P is p

-- ---- texts that are refused

module _ (words : List (List ℕ)) (room : RoomState) (why : Refusal) (one : (said : Reading) → Reads words room said → said ≡ Err why) where
  pub err_not : (e : Errand) → Reads words room (Ok e) → ⊥
  err_not e h = let differ = one (Ok e) h in cc

  pub err_same : (other : Refusal) → Reads words room (Err other) → other ≡ why
  err_same other h = let same = one (Err other) h in cc
