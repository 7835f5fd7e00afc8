-- Sessions that are put in, changed and taken out stay sessions.
use Rattle.std.proofs.Common.{◌≡◌, refl, ap, sym, subst, ◌∙◌, not, List, [], Some, None, bytes_eq, inl, inr}
use Rattle.std.proofs.lemmas.Cmp.{nat_list_cmp_total}
use Rattle.std.proofs.lemmas.Map.Text.{is_eq-slice_cmp}
use Rattle.std.proofs.lemmas.Option.{none-some}
use Rattle.std.specs.FinMap.{find, put}
use Rattle.std.specs.FinMap.Entries.{where_key}
use Rattle.kd_base.specs.OrderLaws.{sorted_put}
use Rattle.kd_base.specs.ToolsLaws.{some_is}
use Rattle.kd_base.specs.Places.{without}
use Rattle.kd_base.specs.PlacesLaws.{left_sorted}
use Rattle.abstract_monitor.specs.Bytes.{Bytes, bytes_cmp}
use Rattle.abstract_monitor.specs.State.{Session}
use Rattle.abstract_monitor.specs.Turns.{pterm_of_user}
use Rattle.monitor_parts.specs.Signed.{AreSessions}
use Rattle.monitor_parts.proofs.session_table.Finding.{somewhere}
use Rattle.monitor_parts.proofs.session_table.Keys.{one_or_other, put_here, put_there, left_found}

abbrev Signed : Type 0
Signed = List (Bytes × Session)

pub nobody : (es : Signed) → es ≡ [] → AreSessions es
nobody es is = subst AreSessions (sym is) (record { sorted = refl; once = λ p q v w first second e. absurd (none-some v first) })

-- a session put in, whose user is in no other one
put_once : (k : Bytes) (x : Session) (es : Signed) → AreSessions es → ((q : Bytes) (w : Session) → find bytes_cmp q es ≡ Some w → x.user ≡ w.user → q ≡ k) → AreSessions (put bytes_cmp k x es)
put_once k x es are alone = record {
  sorted = sorted_put nat_list_cmp_total k x es are.sorted;
  once = λ p q v w first second e.
      elim (one_or_other p k) [
        | inl a ↦ elim (one_or_other q k) [
          | inl b ↦ a ∙ sym b
          | inr b ↦ a ∙ sym (alone q w (sym (put_there k es x q b) ∙ second) (own p v a first ∙ e))
        ]
        | inr a ↦ elim (one_or_other q k) [
          | inl b ↦ alone p v (sym (put_there k es x p a) ∙ first) (own q w b second ∙ sym e) ∙ sym b
          | inr b ↦ are.once p q v w (sym (put_there k es x p a) ∙ first) (sym (put_there k es x q b) ∙ second) e
        ]
      ];
}
  where
    own : (p : Bytes) (v : Session) → p ≡ k → find bytes_cmp p (put bytes_cmp k x es) ≡ Some v → x.user ≡ v.user
    own p v here is = ap (λ (s : Session). s.user) (some_is x v (sym (put_here k es x) ∙ ap (λ q. find bytes_cmp q (put bytes_cmp k x es)) (sym here) ∙ is))

-- a user who is signed on nowhere signs on
pub kept_by_sign_on : (k : Bytes) (x : Session) (es : Signed) → AreSessions es → pterm_of_user es x.user ≡ None → AreSessions (put bytes_cmp k x es)
kept_by_sign_on k x es are none = put_once k x es are (λ q w is e. absurd (somewhere q w es is (ap (pterm_of_user es) (sym e) ∙ none)))

-- a session changes, and its user stays
pub kept_by_change : (k : Bytes) (v x : Session) (es : Signed) → AreSessions es → find bytes_cmp k es ≡ Some v → v.user ≡ x.user → AreSessions (put bytes_cmp k x es)
kept_by_change k v x es are is same = put_once k x es are (λ q w other e. are.once q k w v other is (sym e ∙ sym same))

-- sessions end
pub kept_by_sign_off : (key : Bytes) (es : Signed) → AreSessions es → AreSessions (without bytes_cmp key es)
kept_by_sign_off key es are = record {
  sorted = left_sorted bytes_cmp key es are.sorted;
  once = λ p q v w first second e. are.once p q v w (left_found key es p v first).1 (left_found key es q w second).1 e;
}

-- the sessions at other PTERMs
pub left_is : (key : Bytes) (es : Signed) → without bytes_cmp key es ≡ where_key bytes_cmp (λ p. not (bytes_eq key p)) es
left_is key es = simp is_eq-slice_cmp
