-- Conditions with a bound on the steps, written out by hand: register k is variable 30 - k, m is
-- variable 31 and the steps that are left are variable 32, raised by the binders that stand nearer.
use Rattle.std.specs.Prelude.{ℕ, zero, suc, List, [], ◌∷◌, pos, negsuc}
use Rattle.word_ops.specs.declared.Op.TheVariants.{Add, Sub, Cmpult}
use Rattle.word_ops.specs.declared.Rel.TheVariants.{Eq, Ult, Ule}
use Rattle.alpha_words.specs.declared.insn.Rhs.TheVariants.{Lit}
use Rattle.alpha_words.specs.declared.conditions.Cond.TheVariants.{Zero, NotZero}
use Rattle.alpha_words.specs.declared.insn.Insn.{Insn}
use Rattle.alpha_words.specs.declared.insn.Insn.TheVariants.{Lda, Ldq, Stq, Oper, Branch, Br, Ret}
use Rattle.formula_tree.specs.Formulas.{Exp, EReg, ELeft, EVar, ELit, EOp, Form, FTrue, FFalse, FRel, FRd, FWr, FAnd, FImp, FAll}
use Rattle.vcgen.specs.Worked.{closed, plus, filter_asks, tag_asks}

-- for all left, m, r0 to r30
abbrev pub closed_counted : Form → Form
closed_counted F = FAll (closed F)

-- (ult 0 e): a step is left
abbrev pub one_left : Exp → Form
one_left e = FRel Ult (ELit 0) e

-- (sub .. (sub e 1) .. 1), n times
abbrev pub after : ℕ → Exp → Exp
after zero e = e
after (suc n) e = EOp Sub (after n e) (ELit 1)

-- the steps that are left where a part begins
abbrev pub now_left : Exp
now_left = EVar 32

-- ---- `ret` alone, with the bound 7

-- the condition under `filter`
abbrev pub bounded_ret : Form
bounded_ret =
    FAnd
    (closed_counted (FImp filter_asks (FAnd (one_left (ELit 7)) (FRel Ult (EVar 30) (ELit 2)))))
    FTrue

-- ---- stq r1,8(r16); ret, with the bound 2: the step is asked for before the access is

-- the code
abbrev pub storing : List Insn
storing = Stq 1 16 (pos 8) ∷ Ret ∷ []

-- where the tag is stored
abbrev pub tag_place : Exp
tag_place = plus (EVar 14) (ELit 8)

-- the condition under `tag`
abbrev pub bounded_store : Form
bounded_store =
    FAnd
    (closed_counted (FImp tag_asks
    (FAnd (one_left (ELit 2)) (FAnd (FWr tag_place) (FAnd (one_left (after 1 (ELit 2))) FTrue)))))
    FTrue

-- ---- beq r1 over the next; stq r1,8(r16); ret, with the bound 3: the branch is a step on both sides

-- the code
abbrev pub branching : List Insn
branching = Branch Zero 1 (pos 1) ∷ Stq 1 16 (pos 8) ∷ Ret ∷ []

-- the condition under `tag`
abbrev pub bounded_branch : Form
bounded_branch =
    FAnd
    (closed_counted (FImp tag_asks
    (FAnd (one_left (ELit 3))
    (FAnd
    (FImp (FRel Eq (EVar 29) (ELit 0)) (FAnd (one_left (after 1 (ELit 3))) FTrue))
    (FImp (FImp (FRel Eq (EVar 29) (ELit 0)) FFalse)
    (FAnd (one_left (after 1 (ELit 3)))
    (FAnd (FWr tag_place) (FAnd (one_left (after 2 (ELit 3))) FTrue))))))))
    FTrue

-- ---- lda r4,40(r31); cmpult r4,8,r5; bne r5 to the end; subq r4,4,r4; br to index 1; ret, with the
-- ---- bound 41 and, at index 1, an invariant over the steps that are left

-- the code
abbrev pub looping : List Insn
looping =
    Lda 4 31 (pos 40) ∷ Oper Cmpult 4 (Lit 8) 5 ∷ Branch NotZero 5 (pos 2) ∷
    Oper Sub 4 (Lit 4) 4 ∷ Br (negsuc 3) ∷ Ret ∷ []

-- its invariant: (and (eq left r4) (ule 4 r4))
abbrev pub looping_invs : List (ℕ × Form)
looping_invs = (1, FAnd (FRel Eq ELeft (EReg 4)) (FRel Ule (ELit 4) (EReg 4))) ∷ []

-- the invariant at a number of remaining steps and a word of r4: (and (eq 40 40) (ule 4 40)) at 40 and 40
abbrev pub loop_invariant : Exp → Exp → Form
loop_invariant left r4 = FAnd (FRel Eq left r4) (FRel Ule (ELit 4) r4)

-- what is tested; r4 is variable 26
abbrev pub less_than_8 : Exp
less_than_8 = EOp Cmpult (EVar 26) (ELit 8)

-- the condition under `tag`
abbrev pub bounded_loop : Form
bounded_loop =
    FAnd
    (closed_counted (FImp tag_asks
    (FAnd (one_left (ELit 41)) (loop_invariant (after 1 (ELit 41)) (plus (ELit 0) (ELit 40))))))
    (FAnd
    (closed_counted (FImp (loop_invariant now_left (EVar 26))
    (FAnd (one_left now_left)
    (FAnd (one_left (after 1 now_left))
    (FAnd
    (FImp (FImp (FRel Eq less_than_8 (ELit 0)) FFalse) (FAnd (one_left (after 2 now_left)) FTrue))
    (FImp (FRel Eq less_than_8 (ELit 0))
    (FAnd (one_left (after 2 now_left))
    (FAnd (one_left (after 3 now_left))
    (loop_invariant (after 4 now_left) (EOp Sub (EVar 26) (ELit 4)))))))))))
    FTrue)

-- ---- br to itself, with the bound 1,000,000,000 and the invariant (ult 0 left): at the start the
-- ---- bound stands for the steps that are left, and no step is made yet

-- the code
abbrev pub staying : List Insn
staying = Br (negsuc 0) ∷ []

-- its invariant
abbrev pub staying_invs : List (ℕ × Form)
staying_invs = (0, FRel Ult (ELit 0) ELeft) ∷ []

-- the condition under `tag`
abbrev pub bounded_entry : Form
bounded_entry =
    FAnd
    (closed_counted (FImp tag_asks (one_left (ELit 1000000000))))
    (FAnd
    (closed_counted (FImp (one_left now_left)
    (FAnd (one_left now_left) (one_left (after 1 now_left)))))
    FTrue)

-- ---- lda r31,5(r31); addq r31,1,r0; ret, with the bound 3: what goes to register 31 is lost, and
-- ---- the steps that are left aren't register 31

-- the code
abbrev pub losing : List Insn
losing = Lda 31 31 (pos 5) ∷ Oper Add 31 (Lit 1) 0 ∷ Ret ∷ []

-- the condition under `filter`
abbrev pub bounded_zero : Form
bounded_zero =
    FAnd
    (closed_counted (FImp filter_asks
    (FAnd (one_left (ELit 3))
    (FAnd (one_left (after 1 (ELit 3)))
    (FAnd (one_left (after 2 (ELit 3))) (FRel Ult (plus (ELit 0) (ELit 1)) (ELit 2)))))))
    FTrue

-- ---- ldq r1,0(r16); stq r1,8(r16); ret, with the bound 3 and, at index 1, the invariant
-- ---- (and (ult 1 left) (wr (add r16 8))): behind the load it is of one step less

-- the code
abbrev pub tagging : List Insn
tagging = Ldq 1 16 (pos 0) ∷ Stq 1 16 (pos 8) ∷ Ret ∷ []

-- its invariant
abbrev pub tagging_invs : List (ℕ × Form)
tagging_invs = (1, FAnd (FRel Ult (ELit 1) ELeft) (FWr (plus (EReg 16) (ELit 8)))) ∷ []

-- the condition under `tag`
abbrev pub bounded_access : Form
bounded_access =
    FAnd
    (closed_counted (FImp tag_asks
    (FAnd (one_left (ELit 3))
    (FAnd (FRd (plus (EVar 14) (ELit 0)))
    (FAnd (FRel Ult (ELit 1) (after 1 (ELit 3))) (FWr tag_place))))))
    (FAnd
    (closed_counted (FImp (FAnd (FRel Ult (ELit 1) now_left) (FWr tag_place))
    (FAnd (one_left now_left)
    (FAnd (FWr tag_place) (FAnd (one_left (after 1 now_left)) FTrue)))))
    FTrue)
