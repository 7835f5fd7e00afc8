-- What is read is what the statements stand for, and what is refused has the fault.
use Rattle.std.proofs.Common.{◌≡◌, ℕ, ◌+◌, Bool, true, false, List, [], ◌∷◌, ◌++◌, Result, Ok, Err, refl, sym, ap, ◌∙◌, subst, inl, inr}
use Rattle.std.proofs.lemmas.Bool.{cases_Bool}
use Rattle.kd_base.specs.Tools.{◌>>=◌}
use Rattle.kd_base.specs.ToolsLaws.{bind_ok, bind_err, ok_is, err_is, err_of}
use Rattle.texts.specs.declared.kdcdef_lex.statement.RawOperand.{RawOperand}
use Rattle.texts.specs.declared.kdcdef_lex.statement.RawStatement.{RawStatement}
use Rattle.application_types.specs.declared.kdcdef_types.statement.Said.{Said}
use Rattle.application_types.specs.declared.kdcdef_types.statement.Said.TheVariants as says
use Rattle.application_types.specs.declared.kdcdef_types.statement.Statement.{Statement}
use Rattle.application_types.specs.Statements.{EndsOnce}
use Rattle.kdcdef_read.specs.declared.fault.ReadFault.{ReadFault}
use Rattle.kdcdef_read.specs.declared.fault.ReadFault.TheVariants.{AfterEnd, NoEnd}
use Rattle.kdcdef_read.specs.declared.statement.Progress.{Progress}
use Rattle.kdcdef_read.specs.Words.{form_of}
use Rattle.kdcdef_read.specs.Meaning.{shared, says_of, Say, StandFor, HasEndFault, HasNextFault, HasFaultFrom, HasFault}
use Rattle.kdcdef_read.specs.Steps.{no_keys, is_end, statement_by, behind, with_front, read_from, read_all}
use Rattle.kdcdef_read.proofs.Marks.{Marks, no_marks, form_ok, form_err, read_or_not, says_read, says_refused}

-- ---- END

is_end_end : (said : Said) → is_end said ≡ true → said ≡ says.End
is_end_end says.End h = refl
is_end_end said h = absurd cc

end_is_end : (said : Said) → said ≡ says.End → is_end said ≡ true
end_is_end said e = ap is_end e

not_end : (said : Said) → is_end said ≡ false → said ≡ says.End → ⊥
not_end said h e = let t = end_is_end said e in cc

ends_more : (s : Statement) (ss : List Statement) → is_end s.said ≡ false → EndsOnce ss → EndsOnce (s ∷ ss)
ends_more s [] h e = absurd e
ends_more s (t ∷ ss) h e = (not_end s.said h, e)

ends_rest : (s : Statement) (ss : List Statement) → is_end s.said ≡ false → EndsOnce (s ∷ ss) → EndsOnce ss
ends_rest s [] h e = not_end s.said h e
ends_rest s (t ∷ ss) h e = e.1

ends_here : (s : Statement) (ss : List Statement) → is_end s.said ≡ true → EndsOnce (s ∷ ss) → ss ≡ []
ends_here s [] h e = refl
ends_here s (t ∷ ss) h e = absurd (e.0 (is_end_end s.said h))

next_later : (said : Said) (rs : List RawStatement) (fault : ReadFault) (later : Type 0) → is_end said ≡ false → later → HasNextFault said rs fault later
next_later says.End rs fault later h x = absurd cc
next_later said rs fault later h x = x

next_end : (said : Said) (rs : List RawStatement) (fault : ReadFault) (later : Type 0) → is_end said ≡ true → HasEndFault rs fault → HasNextFault said rs fault later
next_end says.End rs fault later h x = x
next_end said rs fault later h x = absurd cc

later_of : (said : Said) (rs : List RawStatement) (fault : ReadFault) (later : Type 0) → is_end said ≡ false → HasNextFault said rs fault later → later
later_of says.End rs fault later h x = absurd cc
later_of said rs fault later h x = x

end_of : (said : Said) (rs : List RawStatement) (fault : ReadFault) (later : Type 0) → is_end said ≡ true → HasNextFault said rs fault later → HasEndFault rs fault
end_of says.End rs fault later h x = x
end_of said rs fault later h x = absurd cc

-- ---- one statement of many

abbrev at : List Bool → Bool → ℕ → Progress
at taken ended next = record { taken = taken; ended = ended; next = next }

abbrev go : RawStatement → List RawStatement → Result (Statement × List Bool) ReadFault → Result (List Statement) ReadFault
go r rs q = (q >>= behind r.line) >>= λ (p : Statement × Progress). with_front (p.0 ∷ []) (read_from p.1 rs)

-- what is read once a statement was
reads_on : (taken : List Bool) (n : ℕ) (r : RawStatement) (rs : List RawStatement) (p : Statement × List Bool) → statement_by taken r ≡ Ok p → read_from (at taken false n) (r ∷ rs) ≡ with_front (p.0 ∷ []) (read_from (at p.1 (is_end p.0.said) (r.line + 1)) rs)
reads_on taken n r rs p e = ap (go r rs) e

stops : (taken : List Bool) (n : ℕ) (r : RawStatement) (rs : List RawStatement) (fault : ReadFault) → statement_by taken r ≡ Err fault → read_from (at taken false n) (r ∷ rs) ≡ Err fault
stops taken n r rs fault e = ap (go r rs) e

abbrev fine : List Statement → Result (List Statement) ReadFault
fine ss = Ok ss

-- after END
ended_ok : (taken : List Bool) (n : ℕ) (rs : List RawStatement) (ss : List Statement) → read_from (at taken true n) rs ≡ Ok ss → (rs ≡ []) × (ss ≡ [])
ended_ok taken n [] ss e = (refl, sym (ok_is ReadFault [] ss e))
ended_ok taken n (r ∷ rs) ss e = absurd cc

ended_err : (taken : List Bool) (n : ℕ) (rs : List RawStatement) (fault : ReadFault) → read_from (at taken true n) rs ≡ Err fault → HasEndFault rs fault
ended_err taken n [] fault e = absurd cc
ended_err taken n (r ∷ rs) fault e = sym (err_is (List Statement) (AfterEnd r.line) fault e)

end_fault : (taken : List Bool) (n : ℕ) (rs : List RawStatement) (fault : ReadFault) → HasEndFault rs fault → read_from (at taken true n) rs ≡ Err fault
end_fault taken n [] fault h = absurd h
end_fault taken n (r ∷ rs) fault h = ap (λ (x : ReadFault). err_of {A = List Statement} x) (sym h)

-- ---- what is read

pub read_says : (before : List RawOperand) (taken : List Bool) (n : ℕ) (rs : List RawStatement) (ss : List Statement) → Marks before taken → read_from (at taken false n) rs ≡ Ok ss → Say before rs ss × EndsOnce ss
read_says before taken n [] ss m e = absurd cc
read_says before taken n (r ∷ rs) ss m e =
    elim (read_or_not (statement_by taken r)) [
      | inl q ↦
          let k = form_ok before taken r (form_of r.keyword) q.0 m q.1 in
          let b = bind_ok (read_from (at q.0.1 (is_end q.0.0.said) (r.line + 1)) rs) (λ (tail : List Statement). fine (q.0.0 ∷ tail)) ss (sym (reads_on taken n r rs q.0 q.1) ∙ e) in
          let P : List Statement → Type 0 = λ x. Say before (r ∷ rs) x × EndsOnce x in
          subst P (ok_is ReadFault (q.0.0 ∷ b.0) ss b.2)
          (elim (cases_Bool (is_end q.0.0.said)) [
            | inl h ↦
                let R : Bool → Type 0 = λ x. read_from (at q.0.1 x (r.line + 1)) rs ≡ Ok b.0 in
                let z = ended_ok q.0.1 (r.line + 1) rs b.0 (subst R h b.1) in
                let Q : List RawStatement → Type 0 = λ x. Say before (r ∷ x) (q.0.0 ∷ b.0) in
                let Q2 : List Statement → Type 0 = λ x. Say before (r ∷ []) (q.0.0 ∷ x) in
                let E : List Statement → Type 0 = λ x. EndsOnce (q.0.0 ∷ x) in
                (subst Q (sym z.0) (subst Q2 (sym z.1) (k.0, tt)), subst E (sym z.1) (is_end_end q.0.0.said h))
            | inr h ↦
                let R : Bool → Type 0 = λ x. read_from (at q.0.1 x (r.line + 1)) rs ≡ Ok b.0 in
                let z = read_says (before ++ shared (form_of r.keyword) r.operands) q.0.1 (r.line + 1) rs b.0 k.1 (subst R h b.1) in
                ((k.0, z.0), ends_more q.0.0 b.0 h z.1)
          ])
      | inr q ↦ let s = stops taken n r rs q.0 q.1 in absurd (cc (s, e))
    ]

pub refused_has : (before : List RawOperand) (taken : List Bool) (n : ℕ) (rs : List RawStatement) (fault : ReadFault) → Marks before taken → read_from (at taken false n) rs ≡ Err fault → HasFaultFrom before n rs fault
refused_has before taken n [] fault m e = sym (err_is (List Statement) (NoEnd n) fault e)
refused_has before taken n (r ∷ rs) fault m e =
    elim (read_or_not (statement_by taken r)) [
      | inl q ↦
          let k = form_ok before taken r (form_of r.keyword) q.0 m q.1 in
          elim (bind_err (read_from (at q.0.1 (is_end q.0.0.said) (r.line + 1)) rs) (λ (tail : List Statement). fine (q.0.0 ∷ tail)) fault (sym (reads_on taken n r rs q.0 q.1) ∙ e)) [
            | inl bad ↦ inr (
              q.0.0,
              k.0,
              elim (cases_Bool (is_end q.0.0.said)) [
                | inl h ↦
                    let R : Bool → Type 0 = λ x. read_from (at q.0.1 x (r.line + 1)) rs ≡ Err fault in
                    next_end q.0.0.said rs fault _ h (ended_err q.0.1 (r.line + 1) rs fault (subst R h bad))
                | inr h ↦
                    let R : Bool → Type 0 = λ x. read_from (at q.0.1 x (r.line + 1)) rs ≡ Err fault in
                    next_later q.0.0.said rs fault _ h (refused_has (before ++ shared (form_of r.keyword) r.operands) q.0.1 (r.line + 1) rs fault k.1 (subst R h bad))
              ],
            )
            | inr b ↦ absurd (cc b.2)
          ]
      | inr q ↦
          let s = stops taken n r rs q.0 q.1 in
          let F : ReadFault → Type 0 = λ x. says_of before r ≡ Err x in
          inl (subst F (err_is (List Statement) q.0 fault (sym s ∙ e)) (form_err before taken r (form_of r.keyword) q.0 m q.1))
    ]

-- ---- the other way round

ended_reads : (taken : List Bool) (n : ℕ) (before : List RawOperand) (rs : List RawStatement) (s : Statement) (ss : List Statement) → ss ≡ [] → Say before rs ss → with_front (s ∷ []) (read_from (at taken true n) rs) ≡ Ok (s ∷ ss)
ended_reads taken n before [] s [] e say = refl
ended_reads taken n before (r ∷ rs) s [] e say = absurd say
ended_reads taken n before rs s (t ∷ ss) e say = absurd cc

pub says_are_read : (before : List RawOperand) (taken : List Bool) (n : ℕ) (rs : List RawStatement) (ss : List Statement) → Marks before taken → Say before rs ss → EndsOnce ss → read_from (at taken false n) rs ≡ Ok ss
says_are_read before taken n [] [] m say ends = absurd ends
says_are_read before taken n [] (s ∷ ss) m say ends = absurd say
says_are_read before taken n (r ∷ rs) [] m say ends = absurd say
says_are_read before taken n (r ∷ rs) (s ∷ ss) m say ends =
    let k = says_read before taken r s m say.0 in
    let S : Statement → Type 0 = λ x. with_front (x ∷ []) (read_from (at k.0.1 (is_end x.said) (r.line + 1)) rs) ≡ Ok (s ∷ ss) in
    reads_on taken n r rs k.0 k.1
    ∙ subst S (sym k.2)
    (elim (cases_Bool (is_end s.said)) [
      | inl h ↦
          let none : ss ≡ [] = ends_here s ss h ends in
          let B : Bool → Type 0 = λ x. with_front (s ∷ []) (read_from (at k.0.1 x (r.line + 1)) rs) ≡ Ok (s ∷ ss) in
          subst B (sym h) (ended_reads k.0.1 (r.line + 1) (before ++ shared (form_of r.keyword) r.operands) rs s ss none say.1)
      | inr h ↦
          let z = says_are_read (before ++ shared (form_of r.keyword) r.operands) k.0.1 (r.line + 1) rs ss k.3 say.1 (ends_rest s ss h ends) in
          let B : Bool → Type 0 = λ x. with_front (s ∷ []) (read_from (at k.0.1 x (r.line + 1)) rs) ≡ Ok (s ∷ ss) in
          subst B (sym h) (ap (with_front (s ∷ [])) z)
    ])

pub faults_are_refused : (before : List RawOperand) (taken : List Bool) (n : ℕ) (rs : List RawStatement) (fault : ReadFault) → Marks before taken → HasFaultFrom before n rs fault → read_from (at taken false n) rs ≡ Err fault
faults_are_refused before taken n [] fault m h = ap (λ (x : ReadFault). err_of {A = List Statement} x) (sym h)
faults_are_refused before taken n (r ∷ rs) fault m (inl bad) = stops taken n r rs fault (says_refused before taken r fault m bad)
faults_are_refused before taken n (r ∷ rs) fault m (inr f) =
    let k = says_read before taken r f.0 m f.1 in
    let S : Statement → Type 0 = λ x. with_front (x ∷ []) (read_from (at k.0.1 (is_end x.said) (r.line + 1)) rs) ≡ Err fault in
    reads_on taken n r rs k.0 k.1
    ∙ subst S (sym k.2)
    (elim (cases_Bool (is_end f.0.said)) [
      | inl h ↦
          let B : Bool → Type 0 = λ x. with_front (f.0 ∷ []) (read_from (at k.0.1 x (r.line + 1)) rs) ≡ Err fault in
          subst B (sym h) (ap (with_front (f.0 ∷ [])) (end_fault k.0.1 (r.line + 1) rs fault (end_of f.0.said rs fault _ h f.2)))
      | inr h ↦
          let B : Bool → Type 0 = λ x. with_front (f.0 ∷ []) (read_from (at k.0.1 x (r.line + 1)) rs) ≡ Err fault in
          subst B (sym h) (ap (with_front (f.0 ∷ [])) (faults_are_refused (before ++ shared (form_of r.keyword) r.operands) k.0.1 (r.line + 1) rs fault k.3 (later_of f.0.said rs fault _ h f.2)))
    ])

-- ---- from the beginning

pub found : (rs : List RawStatement) (ss : List Statement) → read_all rs ≡ Ok ss → StandFor rs ss
found rs ss e = read_says [] no_keys 1 rs ss no_marks e

pub only : (rs : List RawStatement) (ss : List Statement) → StandFor rs ss → read_all rs ≡ Ok ss
only rs ss h = says_are_read [] no_keys 1 rs ss no_marks h.0 h.1

pub fault_is : (rs : List RawStatement) (fault : ReadFault) → read_all rs ≡ Err fault → HasFault rs fault
fault_is rs fault e = refused_has [] no_keys 1 rs fault no_marks e

pub refused : (rs : List RawStatement) (fault : ReadFault) → HasFault rs fault → read_all rs ≡ Err fault
refused rs fault h = faults_are_refused [] no_keys 1 rs fault no_marks h
