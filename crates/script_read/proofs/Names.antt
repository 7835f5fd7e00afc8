-- What a word says where a PTERM is wanted.
use Rattle.std.proofs.Common.{◌≡◌, inl, inr, ℕ, Bool, true, false, List, length, Option, Some, None, refl, ap, ◌∙◌, arith}
use Rattle.std.specs.Prelude.{not, ◌&&◌, nat_le, option_and_then}
use Rattle.std.specs.List.{list_all}
use Rattle.std.proofs.lemmas.Bool.{leb-true, not-true}
use Rattle.std.proofs.lemmas.Bool.Decides.{nat_tests}
use Rattle.kd_base.specs.Text.{is_name_byte, is_space, IsName, name_of}
use Rattle.kd_base.specs.ToolsLaws.{both_true, chosen, some_is, and_some}
use Rattle.application_types.specs.declared.kdcdef_types.entry.PtermEntry.{PtermEntry}
use Rattle.application_types.specs.declared.kdcdef_types.entry.LtermEntry.{LtermEntry}
use Rattle.application_types.specs.Generation.{Generated, pterm_of, lterm_of}
use Rattle.script_read.specs.Script.{Says, IsOutOfRange}
use Rattle.script_read.specs.Commands.{lterm_at, is_wanted, pterm_by, pterm_in}
use Rattle.script_read.specs.Spelling.{IsPterm}
use Rattle.script_read.proofs.Parted.{IsWord}
use Rattle.script_read.proofs.Numbers.{no_spaces}

no_space : (b : ℕ) → is_name_byte b ≡ true → is_space b ≡ false
no_space b h = grind (arith, nat_tests)

pub name_word : (name : List ℕ) → IsName name → IsWord name
name_word name h =
    let some = h.0 in
    record { some = omega arith; none = no_spaces is_name_byte no_space name h.2 }

name_known : (name : List ℕ) → IsName name → name_of name ≡ Some name
name_known name h =
    let some = h.0 in
    let few = h.1 in
    let least : nat_le 1 (length name) ≡ true = grind (arith, nat_tests) in
    let most : nat_le (length name) 8 ≡ true = grind (arith, nat_tests) in
    rw (least, most, h.2) refl

name_is : (word name : List ℕ) → name_of word ≡ Some name → (word ≡ name) × IsName word
name_is word name e =
    elim (chosen (nat_le 1 (length word) && nat_le (length word) 8 && list_all is_name_byte word) (Some word) None (Some name) e) [
      | inl h ↦
          let a = both_true (nat_le 1 (length word) && nat_le (length word) 8) (list_all is_name_byte word) h.0 in
          let b = both_true (nat_le 1 (length word)) (nat_le (length word) 8) a.0 in
          (some_is word name h.1, (leb-true 1 (length word) b.0, leb-true (length word) 8 b.1, a.1))
      | inr h ↦ absurd (cc h.1)
    ]

wanted : (printer : Bool) (lterm : LtermEntry) → lterm.printer ≡ printer → is_wanted printer (Some lterm) ≡ true
wanted true lterm h = h
wanted false lterm h = ap not h

pub pterm_said : (g : Generated) (printer : Bool) (name : List ℕ) → IsPterm g printer name → pterm_in g printer name ≡ Says name
pterm_said g printer name is =
    ap (λ (o : Option (List ℕ)). pterm_by (is_wanted printer (lterm_at g o)) name) (name_known name is.is_name)
    ∙ ap (λ (o : Option PtermEntry). pterm_by (is_wanted printer (option_and_then (λ (p : PtermEntry). lterm_of g p.lterm) o)) name) is.is_pterm
    ∙ ap (λ (o : Option LtermEntry). pterm_by (is_wanted printer o) name) is.is_lterm
    ∙ ap (λ (b : Bool). pterm_by b name) (wanted printer is.lterm is.usage)

-- ---- and nothing else

by_test : (is : Bool) (word name : List ℕ) → pterm_by is word ≡ Says name → (is ≡ true) × (name ≡ word)
by_test true word name h = (refl, cc)
by_test false word name h = absurd cc

wanted_only : (printer : Bool) (o : Option LtermEntry) → is_wanted printer o ≡ true → (lterm : LtermEntry) × (o ≡ Some lterm) × (lterm.printer ≡ printer)
wanted_only true None h = absurd cc
wanted_only false None h = absurd cc
wanted_only true (Some lterm) h = (lterm, refl, h)
wanted_only false (Some lterm) h = (lterm, refl, not-true lterm.printer h)

pub pterm_only : (g : Generated) (printer : Bool) (word name : List ℕ) → pterm_in g printer word ≡ Says name → (name ≡ word) × IsPterm g printer word
pterm_only g printer word name h =
    let t = by_test (is_wanted printer (lterm_at g (name_of word))) word name h in
    let w = wanted_only printer (lterm_at g (name_of word)) t.0 in
    let p = and_some (λ (p : PtermEntry). lterm_of g p.lterm) (option_and_then (pterm_of g) (name_of word)) w.0 w.1 in
    let n = and_some (pterm_of g) (name_of word) p.0 p.1 in
    let is = name_is word n.0 n.1 in (
      t.1,
      record {
        terminal = p.0;
        lterm = w.0;
        is_name = is.1;
        is_pterm = ap (pterm_of g) is.0 ∙ n.2;
        is_lterm = p.2;
        usage = w.2;
      },
    )

never_out : (is : Bool) (word : List ℕ) → pterm_by is word ≡ IsOutOfRange → ⊥
never_out true word h = cc
never_out false word h = cc

pub pterm_never_out : (g : Generated) (printer : Bool) (word : List ℕ) → pterm_in g printer word ≡ IsOutOfRange → ⊥
pterm_never_out g printer word h = never_out (is_wanted printer (lterm_at g (name_of word))) word h
