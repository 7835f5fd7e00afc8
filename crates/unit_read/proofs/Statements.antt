-- Statements: what is read is written so, and what is written so is read.
use Rattle.std.proofs.Common.{◌≡◌, ℕ, List, [], ◌∷◌, ◌++◌, drop, Option, Some, None, refl, sym, ap, ◌∙◌, subst, inl, inr}
use Rattle.std.specs.Prelude.{codes}
use Rattle.std.specs.Option.{option_map}
use Rattle.std.proofs.lemmas.List.{append-nil}
use Rattle.kd_base.specs.declared.words.Variant.{Variant}
use Rattle.kd_base.specs.declared.words.Variant.TheVariants as variants
use Rattle.kd_base.specs.ToolsLaws.{map_some, some_is, and_some, chosen}
use Rattle.application_types.specs.declared.unit_types.action.Operand.{Operand}
use Rattle.application_types.specs.declared.unit_types.action.Relation.{Relation}
use Rattle.application_types.specs.declared.unit_types.action.Action.{Action}
use Rattle.application_types.specs.declared.unit_types.action.Action.TheVariants as actions
use Rattle.unit_read.specs.declared.word.Word.{Word}
use Rattle.unit_read.specs.declared.word.Word.TheVariants.{Plain}
use Rattle.unit_read.specs.declared.shape.DelayedMessage.{DelayedMessage}
use Rattle.unit_read.specs.declared.key.Key.{Key}
use Rattle.unit_read.specs.declared.key.Key.TheVariants as keys
use Rattle.unit_read.specs.Keys.{variant_keyword, key_of, keyword_count}
use Rattle.unit_read.specs.Shapes.{one_name, one_operand, two_operands, name_and_operand, operand_and_name, name_and_two, compared, delayed}
use Rattle.unit_read.specs.Statements.{takes_follow_up, alone, pend_action, action_at, action_of}
use Rattle.unit_read.specs.Grammar.{spelled, IsAction}
use Rattle.unit_read.proofs.Keys.{keyword_words, keywords_in_front}
use Rattle.unit_read.proofs.Operands.{operand_again, relation_again, mode_again}
use Rattle.unit_read.proofs.Shapes.{Finds, one_name_is, one_operand_is, two_operands_are, name_and_operand_are, operand_and_name_are, name_and_two_are, compared_are, delayed_is}

-- ---- what is read is written

abbrev WrittenBy : List Word → List Word → Action → Type 0
WrittenBy front ws a = (front ++ ws ≡ spelled a) × IsAction a

alone_is : (front ws : List Word) (action a : Action) → front ≡ spelled action → IsAction action → alone action ws ≡ Some a → WrittenBy front ws a
alone_is front [] action a parts is e = subst (WrittenBy front []) (some_is action a e) (append-nil front ∙ parts, is)
alone_is front (w ∷ ws) action a parts is e = absurd cc

pend_is : (v : Variant) (ws : List Word) (a : Action) → pend_action v ws ≡ Some a → WrittenBy (Plain (codes "PEND") ∷ Plain (variant_keyword v) ∷ []) ws a
pend_is v ws a e =
    let front = Plain (codes "PEND") ∷ Plain (variant_keyword v) ∷ [] in
    elim (chosen (takes_follow_up v) (option_map (λ (o : Operand). actions.Pend v (Some o)) (one_operand ws)) (alone (actions.Pend v None) ws) (Some a) e) [
      | inl h ↦
          let m = map_some (λ (o : Operand). actions.Pend v (Some o)) (one_operand ws) a h.1 in
          let s = one_operand_is ws m.0 m.1 in
          subst (WrittenBy front ws) m.2 (ap (λ (x : List Word). front ++ x) s.0, (h.0, s.1))
      | inr h ↦ alone_is front ws (actions.Pend v None) a refl h.0 h.1
    ]

-- what was made of operands that were found
said : {A : Type 0} (key : Key) (ws : List Word) (make : A → Action) (found : Option A) (written : A → List Word) (Is : A → Type 0) → Finds ws found written Is → ((x : A) → Is x → WrittenBy (keyword_words key) (written x) (make x))
    → (a : Action) → option_map make found ≡ Some a → WrittenBy (keyword_words key) ws a
said key ws make found written Is finds by a e =
    let m = map_some make found a e in
    let s = finds m.0 m.1 in
    subst (WrittenBy (keyword_words key) ws) m.2 (subst (λ (x : List Word). WrittenBy (keyword_words key) x (make m.0)) (sym s.0) (by m.0 s.1))

action_is : (key : Key) (ws : List Word) (a : Action) → action_at key ws ≡ Some a → WrittenBy (keyword_words key) ws a
action_is keys.Move ws a e = said keys.Move ws (λ (p : List ℕ × Operand). actions.Move p.0 p.1) (name_and_operand ws) _ _ (name_and_operand_are ws) (λ p h. (refl, h)) a e
action_is keys.Join ws a e = said keys.Join ws (λ (p : List ℕ × Operand × Operand). actions.Join p.0 p.1 p.2) (name_and_two ws) _ _ (name_and_two_are ws) (λ p h. (refl, h)) a e
action_is keys.Add ws a e = said keys.Add ws (λ (p : List ℕ × Operand). actions.Add p.0 p.1) (name_and_operand ws) _ _ (name_and_operand_are ws) (λ p h. (refl, h)) a e
action_is keys.Sub ws a e = said keys.Sub ws (λ (p : List ℕ × Operand). actions.Sub p.0 p.1) (name_and_operand ws) _ _ (name_and_operand_are ws) (λ p h. (refl, h)) a e
action_is keys.Mul ws a e = said keys.Mul ws (λ (p : List ℕ × Operand). actions.Mul p.0 p.1) (name_and_operand ws) _ _ (name_and_operand_are ws) (λ p h. (refl, h)) a e
action_is keys.Div ws a e = said keys.Div ws (λ (p : List ℕ × Operand). actions.Div p.0 p.1) (name_and_operand ws) _ _ (name_and_operand_are ws) (λ p h. (refl, h)) a e
action_is keys.If ws a e = said keys.If ws (λ (p : Operand × Relation × Operand × List ℕ). actions.If p.0 p.1 p.2 p.3) (compared ws) _ _ (compared_are ws) (λ p h. (refl, h)) a e
action_is keys.Jump ws a e = said keys.Jump ws (λ (p : List ℕ). actions.Jump p) (one_name ws) _ _ (one_name_is ws) (λ p h. (refl, h)) a e
action_is keys.Init ws a e = alone_is (keyword_words keys.Init) ws actions.Init a refl tt e
action_is keys.Mget ws a e = said keys.Mget ws (λ (p : List ℕ). actions.Mget p) (one_name ws) _ _ (one_name_is ws) (λ p h. (refl, h)) a e
action_is keys.Mput ws a e = said keys.Mput ws (λ (p : Operand). actions.Mput p) (one_operand ws) _ _ (one_operand_is ws) (λ p h. (refl, h)) a e
action_is keys.Fget ws a e = said keys.Fget ws (λ (p : List ℕ). actions.Fget p) (one_name ws) _ _ (one_name_is ws) (λ p h. (refl, h)) a e
action_is keys.Fput ws a e = said keys.Fput ws (λ (p : Operand × Operand). actions.Fput p.0 p.1) (two_operands ws) _ _ (two_operands_are ws) (λ p h. (refl, h)) a e
action_is keys.Dput ws a e = said keys.Dput ws (λ (p : DelayedMessage). actions.Dput p.to p.mode p.days p.rest.0 p.rest.1 p.rest.2 p.rest.3) (delayed ws) _ _ (delayed_is ws) (λ p h. (refl, h)) a e
action_is keys.SgetGb ws a e = said keys.SgetGb ws (λ (p : Operand × List ℕ). actions.SgetGb p.0 p.1) (operand_and_name ws) _ _ (operand_and_name_are ws) (λ p h. (refl, h)) a e
action_is keys.SputGb ws a e = said keys.SputGb ws (λ (p : Operand × Operand). actions.SputGb p.0 p.1) (two_operands ws) _ _ (two_operands_are ws) (λ p h. (refl, h)) a e
action_is keys.SrelGb ws a e = said keys.SrelGb ws (λ (p : Operand). actions.SrelGb p) (one_operand ws) _ _ (one_operand_is ws) (λ p h. (refl, h)) a e
action_is keys.SgetKp ws a e = said keys.SgetKp ws (λ (p : Operand × List ℕ). actions.SgetKp p.0 p.1) (operand_and_name ws) _ _ (operand_and_name_are ws) (λ p h. (refl, h)) a e
action_is keys.SgetRl ws a e = said keys.SgetRl ws (λ (p : Operand × List ℕ). actions.SgetRl p.0 p.1) (operand_and_name ws) _ _ (operand_and_name_are ws) (λ p h. (refl, h)) a e
action_is keys.SputMs ws a e = said keys.SputMs ws (λ (p : Operand × Operand). actions.SputMs p.0 p.1) (two_operands ws) _ _ (two_operands_are ws) (λ p h. (refl, h)) a e
action_is keys.SrelLb ws a e = said keys.SrelLb ws (λ (p : Operand). actions.SrelLb p) (one_operand ws) _ _ (one_operand_is ws) (λ p h. (refl, h)) a e
action_is keys.SgetUs ws a e = said keys.SgetUs ws (λ (p : Operand × List ℕ). actions.SgetUs p.0 p.1) (operand_and_name ws) _ _ (operand_and_name_are ws) (λ p h. (refl, h)) a e
action_is keys.SputUs ws a e = said keys.SputUs ws (λ (p : Operand × Operand). actions.SputUs p.0 p.1) (two_operands ws) _ _ (two_operands_are ws) (λ p h. (refl, h)) a e
action_is keys.Gtda ws a e = said keys.Gtda ws (λ (p : Operand × List ℕ). actions.Gtda p.0 p.1) (operand_and_name ws) _ _ (operand_and_name_are ws) (λ p h. (refl, h)) a e
action_is keys.Ptda ws a e = said keys.Ptda ws (λ (p : Operand × Operand). actions.Ptda p.0 p.1) (two_operands ws) _ _ (two_operands_are ws) (λ p h. (refl, h)) a e
action_is keys.UnlkGb ws a e = said keys.UnlkGb ws (λ (p : Operand). actions.UnlkGb p) (one_operand ws) _ _ (one_operand_is ws) (λ p h. (refl, h)) a e
action_is keys.UnlkUs ws a e = said keys.UnlkUs ws (λ (p : Operand). actions.UnlkUs p) (one_operand ws) _ _ (one_operand_is ws) (λ p h. (refl, h)) a e
action_is keys.UnlkDa ws a e = said keys.UnlkDa ws (λ (p : Operand). actions.UnlkDa p) (one_operand ws) _ _ (one_operand_is ws) (λ p h. (refl, h)) a e
action_is (keys.Pend variants.Kp) ws a e = pend_is variants.Kp ws a e
action_is (keys.Pend v) ws a e = pend_is v ws a e

pub statement_is : (ws : List Word) (a : Action) → action_of ws ≡ Some a → (ws ≡ spelled a) × IsAction a
statement_is ws a e =
    let k = and_some (λ (key : Key). action_at key (drop (keyword_count key) ws)) (key_of ws) a e in
    let s = action_is k.0 (drop (keyword_count k.0) ws) a k.2 in
    (keywords_in_front ws k.0 k.1 ∙ s.0, s.1)

-- ---- what is written is read

pub statement_again : (a : Action) → IsAction a → action_of (spelled a) ≡ Some a
statement_again (actions.Move f o) h = rw (h.0, operand_again o h.1) refl
statement_again (actions.Join f o p) h = rw (h.0, operand_again o h.1, operand_again p h.2) refl
statement_again (actions.Add f o) h = rw (h.0, operand_again o h.1) refl
statement_again (actions.Sub f o) h = rw (h.0, operand_again o h.1) refl
statement_again (actions.Mul f o) h = rw (h.0, operand_again o h.1) refl
statement_again (actions.Div f o) h = rw (h.0, operand_again o h.1) refl
statement_again (actions.If o r p l) h = rw (operand_again o h.0, relation_again r, operand_again p h.1, h.2) refl
statement_again (actions.Jump f) h = rw (h) refl
statement_again actions.Init h = refl
statement_again (actions.Mget f) h = rw (h) refl
statement_again (actions.Mput o) h = rw (operand_again o h) refl
statement_again (actions.Fget f) h = rw (h) refl
statement_again (actions.Fput n o) h = rw (operand_again n h.0, operand_again o h.1) refl
statement_again (actions.Dput to mode d hours m s o) h = rw (operand_again to h.0, mode_again mode, operand_again d h.1, operand_again hours h.2, operand_again m h.3, operand_again s h.4, operand_again o h.5) refl
statement_again (actions.SgetGb n f) h = rw (operand_again n h.0, h.1) refl
statement_again (actions.SputGb n o) h = rw (operand_again n h.0, operand_again o h.1) refl
statement_again (actions.SrelGb o) h = rw (operand_again o h) refl
statement_again (actions.SgetKp n f) h = rw (operand_again n h.0, h.1) refl
statement_again (actions.SgetRl n f) h = rw (operand_again n h.0, h.1) refl
statement_again (actions.SputMs n o) h = rw (operand_again n h.0, operand_again o h.1) refl
statement_again (actions.SrelLb o) h = rw (operand_again o h) refl
statement_again (actions.SgetUs n f) h = rw (operand_again n h.0, h.1) refl
statement_again (actions.SputUs n o) h = rw (operand_again n h.0, operand_again o h.1) refl
statement_again (actions.Gtda n f) h = rw (operand_again n h.0, h.1) refl
statement_again (actions.Ptda n o) h = rw (operand_again n h.0, operand_again o h.1) refl
statement_again (actions.UnlkGb o) h = rw (operand_again o h) refl
statement_again (actions.UnlkUs o) h = rw (operand_again o h) refl
statement_again (actions.UnlkDa o) h = rw (operand_again o h) refl
statement_again (actions.Pend variants.Fi None) h = refl
statement_again (actions.Pend variants.Fr None) h = refl
statement_again (actions.Pend variants.Er None) h = refl
statement_again (actions.Pend variants.Rs None) h = refl
statement_again (actions.Pend _ None) h = absurd cc
statement_again (actions.Pend variants.Fi (Some o)) h = absurd (cc h.0)
statement_again (actions.Pend variants.Fr (Some o)) h = absurd (cc h.0)
statement_again (actions.Pend variants.Er (Some o)) h = absurd (cc h.0)
statement_again (actions.Pend variants.Rs (Some o)) h = absurd (cc h.0)
statement_again (actions.Pend _ (Some o)) h = rw (operand_again o h.1) refl
