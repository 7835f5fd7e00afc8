-- What holds of each entry of a table of the generation holds of what is found there.
use Rattle.std.specs.Prelude.{◌≡◌, refl, suc, ◌≤◌, Bool, true, false, cond, IfSome, All, List, [], ◌∷◌, length, Some, bytes_eq}
use Rattle.std.proofs.Common.{sym, subst, arith}
use Rattle.std.specs.Cmp.Lexicographic.{bytes_decides}
use Rattle.application_types.specs.declared.kdcdef_types.entry.LtermEntry.{LtermEntry}
use Rattle.application_types.specs.declared.kdcdef_types.entry.TacEntry.{TacEntry}
use Rattle.application_types.specs.declared.kdcdef_types.entry.UserEntry.{UserEntry}
use Rattle.application_types.specs.Generation.{Generated, entry_of}
use Rattle.abstract_monitor.specs.Bytes.{Bytes}
use Rattle.laws_of_states.specs.Applications.{HasShortNames}

pub entries_have : {A : Type 0} (P : Bytes × A → Type 0) (entries : List (Bytes × A)) → All P entries → (name : Bytes) → IfSome (entry_of entries name) (λ (a : A). P (name, a))
entries_have P [] all name = tt
entries_have {A} P (e ∷ es) all name = by (bytes_eq name e.0) refl (all 0 e (omega arith)) (entries_have P es (λ k d lt. all (suc k) d (omega arith)) name)
  where
    by : (b : Bool) → bytes_eq name e.0 ≡ b → P e → IfSome (entry_of es name) (λ (a : A). P (name, a)) → IfSome (cond b (Some e.1) (entry_of es name)) (λ (a : A). P (name, a))
    by true same first rest = subst (λ (n : Bytes). P (n, e.1)) (sym ((bytes_decides name e.0).0 same)) first
    by false same first rest = rest

-- short names of all entries
pub short_names : (g : Generated) → All (λ e. length e.0 ≤ 8) g.tacs → All (λ e. length e.0 ≤ 8) g.users → All (λ e. length e.0 ≤ 8) g.lterms → HasShortNames g
short_names g tacs users lterms = record {
  tacs = entries_have (λ (e : Bytes × TacEntry). length e.0 ≤ 8) g.tacs tacs;
  users = entries_have (λ (e : Bytes × UserEntry). length e.0 ≤ 8) g.users users;
  lterms = entries_have (λ (e : Bytes × LtermEntry). length e.0 ≤ 8) g.lterms lterms;
}
