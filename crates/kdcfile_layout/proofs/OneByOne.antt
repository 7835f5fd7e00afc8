-- One write after another is joined with the last one or put after it.
use Rattle.std.proofs.Common.{refl, false, Bool, arith, ◌≡◌, List, [], ◌∷◌, ◌++◌, subst, sym, ap, ◌∙◌, length}
use Rattle.std.specs.Prelude.{IsTrue}
use Rattle.kdcfile_layout.specs.declared.page.PageWrite.{PageWrite}
use Rattle.kdcfile_layout.specs.Joined.{Follows, joined_write, AreJoined}
use Rattle.kdcfile_layout.specs.JoinedLaws.{joined_first, joined_next, joined_more}

pub not_both : (b : Bool) → IsTrue b → b ≡ false → ⊥
not_both b is clear = cc

none_left : (rest : List PageWrite) → length rest ≡ 0 → rest ≡ []
none_left [] e = refl
none_left (w ∷ rest) e = absurd (omega (arith, e))

module _ (ws old new : List PageWrite) (is : AreJoined ws old) where
  pub alone_by : (rest : List PageWrite) (w : PageWrite) → length rest ≡ 0 → old ≡ rest ++ [] → new ≡ rest ++ w ∷ [] → AreJoined (ws ++ w ∷ []) new
  alone_by rest w none was e =
      let empty = none_left rest none in
      subst (λ (l : List PageWrite). AreJoined (ws ++ w ∷ []) l) (sym (e ∙ ap (λ (l : List PageWrite). l ++ w ∷ []) empty))
      (joined_first w ws (subst (λ (l : List PageWrite). AreJoined ws l) (was ∙ ap (λ (l : List PageWrite). l ++ []) empty) is))

  pub last_by : (rest middle : List PageWrite) (u w : PageWrite) → (Follows u w → ⊥) → old ≡ rest ++ u ∷ [] → middle ≡ rest ++ u ∷ [] → new ≡ middle ++ w ∷ [] → AreJoined (ws ++ w ∷ []) new
  last_by rest middle u w far was put e =
      subst (λ (l : List PageWrite). AreJoined (ws ++ w ∷ []) l) (sym (e ∙ ap (λ (l : List PageWrite). l ++ w ∷ []) put))
      (joined_next ws rest u w far (subst (λ (l : List PageWrite). AreJoined ws l) was is))

  pub both_by : (rest : List PageWrite) (u w both : PageWrite) → Follows u w → old ≡ rest ++ u ∷ [] → both ≡ joined_write u w → new ≡ rest ++ both ∷ [] → AreJoined (ws ++ w ∷ []) new
  both_by rest u w both follows was one e =
      subst (λ (l : List PageWrite). AreJoined (ws ++ w ∷ []) l) (sym (e ∙ ap (λ (x : PageWrite). rest ++ x ∷ []) one))
      (joined_more ws rest u w follows (subst (λ (l : List PageWrite). AreJoined ws l) was is))
