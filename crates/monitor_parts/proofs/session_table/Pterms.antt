-- The PTERMs of users stay those of the sessions.
use Rattle.std.proofs.Common.{◌≡◌, ap, sym, subst, ◌∙◌, List, [], Some, None, inl, inr}
use Rattle.std.proofs.lemmas.Option.{none-some}
use Rattle.std.specs.FinMap.{find, put}
use Rattle.kd_base.specs.ToolsLaws.{some_is}
use Rattle.kd_base.specs.Places.{without}
use Rattle.abstract_monitor.specs.Bytes.{Bytes, bytes_cmp}
use Rattle.abstract_monitor.specs.State.{Session}
use Rattle.abstract_monitor.specs.Turns.{pterm_of_user}
use Rattle.monitor_parts.specs.Signed.{ArePterms}
use Rattle.monitor_parts.proofs.session_table.Finding.{somewhere}
use Rattle.monitor_parts.proofs.session_table.Keys.{one_or_other, put_here, put_there, left_here, left_there, left_found}

-- what is found at a key, where it is this one
at_same : {X : Type 0} (q k : Bytes) (x v : X) (es : List (Bytes × X)) → q ≡ k → find bytes_cmp k es ≡ Some x → find bytes_cmp q es ≡ Some v → x ≡ v
at_same q k x v es here own is = some_is x v (sym own ∙ ap (λ p. find bytes_cmp p es) (sym here) ∙ is)

pub no_pterms : (es : List (Bytes × Session)) (us : List (Bytes × Bytes)) → es ≡ [] → us ≡ [] → ArePterms es us
no_pterms es us none absent = subst (λ l. ArePterms l us) (sym none) (subst (ArePterms []) (sym absent) (record { each = λ p v is. absurd (none-some v is); only = λ u p is. absurd (none-some p is) }))

module _ (es : List (Bytes × Session)) (us : List (Bytes × Bytes)) (are : ArePterms es us) where
  -- a user who is signed on nowhere signs on at a PTERM that is free
  pub pterms_with : (k : Bytes) (x : Session) → find bytes_cmp k es ≡ None → pterm_of_user es x.user ≡ None → ArePterms (put bytes_cmp k x es) (put bytes_cmp x.user k us)
  pterms_with k x free none = record {
    each = λ p v is.
        elim (one_or_other p k) [
          | inl here ↦
              let same : x ≡ v = at_same p k x v (put bytes_cmp k x es) here (put_here k es x) is in
              ap (λ (w : Session). find bytes_cmp w.user (put bytes_cmp x.user k us)) (sym same) ∙ put_here x.user us k ∙ ap Some (sym here)
          | inr apart ↦
              let old = sym (put_there k es x p apart) ∙ is in
              put_there x.user us k v.user (λ e. somewhere p v es old (ap (pterm_of_user es) e ∙ none)) ∙ are.each p v old
        ];
    only = λ u p is.
        elim (one_or_other u x.user) [
          | inl here ↦
              let same : k ≡ p = at_same u x.user k p (put bytes_cmp x.user k us) here (put_here x.user us k) is in
              (x, ap (λ q. find bytes_cmp q (put bytes_cmp k x es)) (sym same) ∙ put_here k es x, sym here)
          | inr apart ↦
              let s = are.only u p (sym (put_there x.user us k u apart) ∙ is) in
              (s.0, put_there k es x p (λ e. none-some s.0 (sym free ∙ ap (λ q. find bytes_cmp q es) (sym e) ∙ s.1)) ∙ s.1, s.2)
        ];
  }

  -- a session changes, and its user stays
  pub pterms_changed : (k : Bytes) (v x : Session) → find bytes_cmp k es ≡ Some v → v.user ≡ x.user → ArePterms (put bytes_cmp k x es) us
  pterms_changed k v x found same = record {
    each = λ p w is.
        elim (one_or_other p k) [
          | inl here ↦
              let new : x ≡ w = at_same p k x w (put bytes_cmp k x es) here (put_here k es x) is in
              ap (λ u. find bytes_cmp u us) (sym (same ∙ ap (λ (s : Session). s.user) new)) ∙ are.each k v found ∙ ap Some (sym here)
          | inr apart ↦ are.each p w (sym (put_there k es x p apart) ∙ is)
        ];
    only = λ u p is.
        let s = are.only u p is in
        elim (one_or_other p k) [
          | inl here ↦
              let old : v ≡ s.0 = at_same p k v s.0 es here found s.1 in
              (x, ap (λ q. find bytes_cmp q (put bytes_cmp k x es)) here ∙ put_here k es x, sym same ∙ ap (λ (w : Session). w.user) old ∙ s.2)
          | inr apart ↦ (s.0, put_there k es x p apart ∙ s.1, s.2)
        ];
  }

  -- the session at a PTERM ends
  pub pterms_without : (k : Bytes) (v : Session) → find bytes_cmp k es ≡ Some v → ArePterms (without bytes_cmp k es) (without bytes_cmp v.user us)
  pterms_without k v found = record {
    each = λ p w is.
        let other = left_found k es p w is in
        let kept = are.each p w other.1 in
        left_there v.user us w.user (λ e. other.0 (some_is p k (sym kept ∙ ap (λ u. find bytes_cmp u us) e ∙ are.each k v found))) ∙ kept;
    only = λ u p is.
        let other = left_found v.user us u p is in
        let s = are.only u p other.1 in
        (s.0, left_there k es p (λ here. other.0 (sym s.2 ∙ ap (λ (w : Session). w.user) (sym (at_same p k v s.0 es here found s.1)))) ∙ s.1, s.2);
  }

  -- a PTERM that was put in is taken out again
  pub pterms_taken_back : (user k : Bytes) → find bytes_cmp user us ≡ None → ArePterms es (without bytes_cmp user (put bytes_cmp user k us))
  pterms_taken_back user k absent = record {
    each = λ p v is. same v.user ∙ are.each p v is;
    only = λ u p is. are.only u p (sym (same u) ∙ is);
  }
    where
      same : (u : Bytes) → find bytes_cmp u (without bytes_cmp user (put bytes_cmp user k us)) ≡ find bytes_cmp u us
      same u =
          elim (one_or_other u user) [
            | inl here ↦ subst (λ q. find bytes_cmp q (without bytes_cmp user (put bytes_cmp user k us)) ≡ find bytes_cmp q us) (sym here) (left_here user (put bytes_cmp user k us) ∙ sym absent)
            | inr apart ↦ left_there user (put bytes_cmp user k us) u apart ∙ put_there user us k u apart
          ]
