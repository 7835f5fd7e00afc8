-- Where a user is signed on.
use Rattle.std.proofs.Common.{◌≡◌, refl, ap, sym, ◌∙◌, zero, suc, true, false, List, [], ◌∷◌, Some, None, IsTrue, is_some, ◌||◌, bytes_eq, arith, inl, inr}
use Rattle.std.proofs.lemmas.Bool.{cases_Bool}
use Rattle.std.proofs.lemmas.Cmp.{nat_list_cmp_total, nat_list_eq_equiv}
use Rattle.std.proofs.lemmas.Map.Text.{is_eq-slice_cmp}
use Rattle.std.proofs.lemmas.Option.{none-some}
use Rattle.std.specs.Prelude.{Contains}
use Rattle.std.specs.List.{list_any}
use Rattle.std.specs.Ordering.{eq_by_cmp}
use Rattle.std.specs.FinMap.{find, is_sorted}
use Rattle.kd_base.specs.ToolsLaws.{cases_option}
use Rattle.kd_base.specs.TimesLaws.{found_of}
use Rattle.abstract_monitor.specs.Sessions.{has_user}
use Rattle.abstract_monitor.specs.Bytes.{Bytes, bytes_cmp}
use Rattle.abstract_monitor.specs.State.{Session}
use Rattle.abstract_monitor.specs.Turns.{pterm_of_user, pterm_by}
use Rattle.monitor_parts.specs.Signed.{ArePterms}
use Rattle.monitor_parts.proofs.session_table.Keys.{tied}

abbrev Signed : Type 0
Signed = List (Bytes × Session)

-- a user in a session is signed on somewhere
pub somewhere : (q : Bytes) (w : Session) (es : Signed) → find bytes_cmp q es ≡ Some w → pterm_of_user es w.user ≡ None → ⊥
unfolding pterm_of_user
somewhere q w [] is none = cc
somewhere q w (x ∷ es) is none =
    elim (cases_Bool (bytes_eq x.1.user w.user)) [
      | inl h ↦ absurd (let found = rw h at none in cc)
      | inr h ↦
          let rest = rw h at none in
          elim (cases_Bool (eq_by_cmp bytes_cmp q x.0)) [
            | inl t ↦
                let same : x.1 ≡ w = (let here = rw t at is in cc) in
                absurd (let own = sym (nat_list_eq_equiv.refl w.user) ∙ ap (λ (v : Session). bytes_eq v.user w.user) (sym same) ∙ h in cc)
            | inr t ↦ somewhere q w es (rw t at is) rest
          ]
    ]

-- a user who is signed on somewhere is in a session there
listed : (es : Signed) (user pterm : Bytes) → pterm_of_user es user ≡ Some pterm → (v : Session) × (v.user ≡ user) × Contains es (pterm, v)
unfolding pterm_of_user
listed [] user pterm is = absurd (none-some pterm is)
listed (e ∷ es) user pterm is =
    elim (cases_Bool (bytes_eq e.1.user user)) [
      | inl own ↦
          let here : e.0 ≡ pterm = (let found = rw own at is in cc) in
          (e.1, tied e.1.user user (is_eq-slice_cmp e.1.user user ∙ own), (zero, omega arith, ap (λ (q : Bytes). (q, e.1)) here))
      | inr other ↦ let rest = listed es user pterm (rw other at is) in (rest.0, rest.1, (suc rest.2.0, omega (arith, rest.2.1), rest.2.2))
    ]

-- the PTERM that is kept for a user
pub pterm_kept : (es : Signed) (by_user : List (Bytes × Bytes)) (user : Bytes) → IsTrue (is_sorted bytes_cmp es) → ArePterms es by_user → find bytes_cmp user by_user ≡ pterm_of_user es user
pterm_kept es by_user user up are =
    elim (cases_option (pterm_of_user es user)) [
      | inr there ↦
          let s = listed es user there.0 there.1 in
          ap (λ (u : Bytes). find bytes_cmp u by_user) (sym s.1) ∙ are.each there.0 s.0 (found_of bytes_cmp nat_list_cmp_total there.0 s.0 es up s.2) ∙ sym there.1
      | inl none ↦ elim (cases_option (find bytes_cmp user by_user)) [
        | inl absent ↦ absent ∙ sym none
        | inr kept ↦ let s = are.only user kept.0 kept.1 in absurd (somewhere kept.0 s.0 es s.1 (ap (pterm_of_user es) s.2 ∙ none))
      ]
    ]

-- a user is signed on somewhere where a session is theirs
pub signed_on : (es : Signed) (user : Bytes) → is_some (pterm_of_user es user) ≡ list_any (has_user user) es
unfolding pterm_of_user
signed_on [] user = refl
signed_on (e ∷ es) user =
    elim (bytes_eq e.1.user user) as (λ b. is_some (pterm_by e.0 b (pterm_of_user es user)) ≡ (b || list_any (has_user user) es)) [ true ↦ refl | false ↦ signed_on es user ]
