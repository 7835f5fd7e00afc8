-- Laws: what holds of each line in its turn.
use Rattle.std.proofs.Common.{◌≡◌, List, [], ◌∷◌, ◌++◌, ◌∙◌, append_assoc}
use Rattle.live_run.specs.Sessions.{Exchange}
use Rattle.live_run.specs.Talking.{EachInTurn}

-- what holds of each line of a session, whatever makes it so
module _ (P Q : (before : List Exchange) → Exchange → (behind : List Exchange) → Type 0) (all : List Exchange) (makes : (before : List Exchange) (x : Exchange) (behind : List Exchange) → before ++ x ∷ behind ≡ all → P before x behind → Q before x behind) where
  pub each_more : (before behind : List Exchange) → before ++ behind ≡ all → EachInTurn P before behind → EachInTurn Q before behind
  unfolding EachInTurn
  each_more before [] is h = tt
  each_more before (x ∷ behind) is h = (makes before x behind is h.0, each_more (before ++ x ∷ []) behind (append_assoc before (x ∷ []) behind ∙ is) h.1)
