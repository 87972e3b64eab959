-- Goals with the proofs that an independent implementation gives them, or none.
use Rattle.std.specs.Prelude.{◌≡◌, Bool, Option, Some, None, List, [], ◌∷◌}
use Rattle.term_table.specs.Tree.{Tree, Var, Con, App, Lam, Num, Lit, Calc, Fact}
use Rattle.word_ops.specs.declared.Op.TheVariants.{Add, Sub, Band, Sll, Cmpeq, Cmpult}
use Rattle.word_ops.specs.declared.Rel.TheVariants.{Eq, Ult, Ule}
use Rattle.formula_tree.specs.Formulas.{EVar, ELit, EOp, Form, FFalse, FRel, FRd, FWr, FAnd, FImp, FAll, FAllm}
use Rattle.prover_class.specs.Parts.{part_proof}

-- the class gives each goal its proof, or none, where steps are counted or aren't
abbrev pub AreWorked : Bool → List (Form × Option Tree) → Type 0
AreWorked counted [] = Unit {0}
AreWorked counted (r ∷ l) = (part_proof counted r.0 ≡ r.1) × AreWorked counted l

-- one goal for each way to prove
unfoldable pub small_rows : List (Form × Option Tree)
small_rows =
    -- an upper bound
    ((FAll (FImp (FRel Ule (EVar 0) (ELit 5)) (FRel Ult (EVar 0) (ELit 8)))), Some (App (App (Con (Num 38)) (Lam (App (App (Con (Num 24)) (App (App (Con (Num 17)) (Var 0)) (Con (Lit 5)))) (App (App (Con (Num 16)) (Var 0)) (Con (Lit 8)))))) (Lam (App (App (App (Con (Num 35)) (App (App (Con (Num 17)) (Var 0)) (Con (Lit 5)))) (App (App (Con (Num 16)) (Var 0)) (Con (Lit 8)))) (Lam (App (App (App (App (App (Con (Num 66)) (Var 1)) (Con (Lit 8))) (Con (Lit 8))) (App (App (App (App (App (Con (Num 67)) (Var 1)) (Con (Lit 5))) (Con (Lit 8))) (Var 0)) (Con (Fact 1 5 8)))) (App (Con (Num 63)) (Con (Lit 8))))))))) ∷
    -- a test that isn't 0
    ((FAll (FAll (FImp (FImp (FRel Eq (EOp Cmpult (EVar 1) (EVar 0)) (ELit 0)) FFalse) (FRel Ult (EVar 1) (EVar 0))))), Some (App (App (Con (Num 38)) (Lam (App (Con (Num 25)) (Lam (App (App (Con (Num 24)) (App (App (Con (Num 24)) (App (App (Con (Num 15)) (App (App (Con (Num 9)) (Var 1)) (Var 0))) (Con (Lit 0)))) (Con (Num 14)))) (App (App (Con (Num 16)) (Var 1)) (Var 0))))))) (Lam (App (App (Con (Num 38)) (Lam (App (App (Con (Num 24)) (App (App (Con (Num 24)) (App (App (Con (Num 15)) (App (App (Con (Num 9)) (Var 1)) (Var 0))) (Con (Lit 0)))) (Con (Num 14)))) (App (App (Con (Num 16)) (Var 1)) (Var 0))))) (Lam (App (App (App (Con (Num 35)) (App (App (Con (Num 24)) (App (App (Con (Num 15)) (App (App (Con (Num 9)) (Var 1)) (Var 0))) (Con (Lit 0)))) (Con (Num 14)))) (App (App (Con (Num 16)) (Var 1)) (Var 0))) (Lam (App (App (App (Con (Num 76)) (Var 2)) (Var 1)) (Var 0))))))))) ∷
    -- a test of a test
    ((FAll (FAll (FImp (FImp (FRel Eq (EOp Cmpeq (EOp Cmpult (EVar 1) (EVar 0)) (ELit 0)) (ELit 0)) FFalse) (FRel Ule (EVar 0) (EVar 1))))), Some (App (App (Con (Num 38)) (Lam (App (Con (Num 25)) (Lam (App (App (Con (Num 24)) (App (App (Con (Num 24)) (App (App (Con (Num 15)) (App (App (Con (Num 6)) (App (App (Con (Num 9)) (Var 1)) (Var 0))) (Con (Lit 0)))) (Con (Lit 0)))) (Con (Num 14)))) (App (App (Con (Num 17)) (Var 0)) (Var 1))))))) (Lam (App (App (Con (Num 38)) (Lam (App (App (Con (Num 24)) (App (App (Con (Num 24)) (App (App (Con (Num 15)) (App (App (Con (Num 6)) (App (App (Con (Num 9)) (Var 1)) (Var 0))) (Con (Lit 0)))) (Con (Lit 0)))) (Con (Num 14)))) (App (App (Con (Num 17)) (Var 0)) (Var 1))))) (Lam (App (App (App (Con (Num 35)) (App (App (Con (Num 24)) (App (App (Con (Num 15)) (App (App (Con (Num 6)) (App (App (Con (Num 9)) (Var 1)) (Var 0))) (Con (Lit 0)))) (Con (Lit 0)))) (Con (Num 14)))) (App (App (Con (Num 17)) (Var 0)) (Var 1))) (Lam (App (App (App (Con (Num 70)) (Var 2)) (Var 1)) (App (App (App (Con (Num 81)) (Var 2)) (Var 1)) (App (App (App (Con (Num 73)) (App (App (Con (Num 9)) (Var 2)) (Var 1))) (Con (Lit 0))) (Var 0))))))))))) ∷
    -- what is not below
    ((FAll (FAll (FImp (FImp (FRel Ult (EVar 1) (EVar 0)) FFalse) (FRel Ule (EVar 0) (EVar 1))))), Some (App (App (Con (Num 38)) (Lam (App (Con (Num 25)) (Lam (App (App (Con (Num 24)) (App (App (Con (Num 24)) (App (App (Con (Num 16)) (Var 1)) (Var 0))) (Con (Num 14)))) (App (App (Con (Num 17)) (Var 0)) (Var 1))))))) (Lam (App (App (Con (Num 38)) (Lam (App (App (Con (Num 24)) (App (App (Con (Num 24)) (App (App (Con (Num 16)) (Var 1)) (Var 0))) (Con (Num 14)))) (App (App (Con (Num 17)) (Var 0)) (Var 1))))) (Lam (App (App (App (Con (Num 35)) (App (App (Con (Num 24)) (App (App (Con (Num 16)) (Var 1)) (Var 0))) (Con (Num 14)))) (App (App (Con (Num 17)) (Var 0)) (Var 1))) (Lam (App (App (App (Con (Num 70)) (Var 2)) (Var 1)) (Var 0))))))))) ∷
    -- multiples of 8
    ((FAll (FRel Eq (EOp Band (EOp Add (EOp Sll (EVar 0) (ELit 3)) (EOp Band (EVar 0) (ELit 248))) (ELit 7)) (ELit 0))), Some (App (App (Con (Num 38)) (Lam (App (App (Con (Num 15)) (App (App (Con (Num 2)) (App (App (Con (Num 0)) (App (App (Con (Num 4)) (Var 0)) (Con (Lit 3)))) (App (App (Con (Num 2)) (Var 0)) (Con (Lit 248))))) (Con (Lit 7)))) (Con (Lit 0))))) (Lam (App (App (App (App (Con (Num 57)) (App (App (Con (Num 4)) (Var 0)) (Con (Lit 3)))) (App (App (Con (Num 2)) (Var 0)) (Con (Lit 248)))) (App (Con (Num 58)) (Var 0))) (App (App (App (App (App (Con (Num 43)) (Lam (App (App (Con (Num 15)) (App (App (Con (Num 2)) (App (App (Con (Num 2)) (Var 1)) (Con (Lit 248)))) (Con (Lit 7)))) (Var 0)))) (App (App (Con (Num 2)) (Var 0)) (Con (Lit 0)))) (Con (Lit 0))) (App (Con (Num 53)) (Var 0))) (App (App (App (App (App (Con (Num 43)) (Lam (App (App (Con (Num 15)) (App (App (Con (Num 2)) (App (App (Con (Num 2)) (Var 1)) (Con (Lit 248)))) (Con (Lit 7)))) (App (App (Con (Num 2)) (Var 1)) (Var 0))))) (App (App (Con (Num 2)) (Con (Lit 248))) (Con (Lit 7)))) (Con (Lit 0))) (Con (Calc 2 248 7))) (App (App (App (App (App (Con (Num 43)) (Lam (App (App (Con (Num 15)) (App (App (Con (Num 2)) (App (App (Con (Num 2)) (Var 1)) (Con (Lit 248)))) (Con (Lit 7)))) (Var 0)))) (App (App (Con (Num 2)) (App (App (Con (Num 2)) (Var 0)) (Con (Lit 248)))) (Con (Lit 7)))) (App (App (Con (Num 2)) (Var 0)) (App (App (Con (Num 2)) (Con (Lit 248))) (Con (Lit 7))))) (App (App (App (Con (Num 52)) (Var 0)) (Con (Lit 248))) (Con (Lit 7)))) (App (Con (Num 42)) (App (App (Con (Num 2)) (App (App (Con (Num 2)) (Var 0)) (Con (Lit 248)))) (Con (Lit 7))))))))))) ∷
    -- equal normal forms
    ((FAllm (FAll (FAll (FRel Eq (EOp Add (EVar 0) (EOp Add (ELit 3) (EOp Add (EVar 1) (ELit 4)))) (EOp Sub (EOp Add (EVar 1) (EOp Add (EVar 0) (ELit 8))) (ELit 1)))))), Some (App (App (Con (Num 40)) (Lam (App (Con (Num 25)) (Lam (App (Con (Num 25)) (Lam (App (App (Con (Num 15)) (App (App (Con (Num 0)) (Var 0)) (App (App (Con (Num 0)) (Con (Lit 3))) (App (App (Con (Num 0)) (Var 1)) (Con (Lit 4)))))) (App (App (Con (Num 1)) (App (App (Con (Num 0)) (Var 1)) (App (App (Con (Num 0)) (Var 0)) (Con (Lit 8))))) (Con (Lit 1)))))))))) (Lam (App (App (Con (Num 38)) (Lam (App (Con (Num 25)) (Lam (App (App (Con (Num 15)) (App (App (Con (Num 0)) (Var 0)) (App (App (Con (Num 0)) (Con (Lit 3))) (App (App (Con (Num 0)) (Var 1)) (Con (Lit 4)))))) (App (App (Con (Num 1)) (App (App (Con (Num 0)) (Var 1)) (App (App (Con (Num 0)) (Var 0)) (Con (Lit 8))))) (Con (Lit 1)))))))) (Lam (App (App (Con (Num 38)) (Lam (App (App (Con (Num 15)) (App (App (Con (Num 0)) (Var 0)) (App (App (Con (Num 0)) (Con (Lit 3))) (App (App (Con (Num 0)) (Var 1)) (Con (Lit 4)))))) (App (App (Con (Num 1)) (App (App (Con (Num 0)) (Var 1)) (App (App (Con (Num 0)) (Var 0)) (Con (Lit 8))))) (Con (Lit 1)))))) (Lam (App (App (App (App (App (Con (Num 43)) (Lam (App (App (Con (Num 15)) (App (App (Con (Num 0)) (Var 1)) (App (App (Con (Num 0)) (Con (Lit 3))) (App (App (Con (Num 0)) (Var 2)) (Con (Lit 4)))))) (Var 0)))) (App (App (Con (Num 0)) (Var 1)) (App (App (Con (Num 0)) (Var 0)) (Con (Lit 7))))) (App (App (Con (Num 1)) (App (App (Con (Num 0)) (Var 1)) (App (App (Con (Num 0)) (Var 0)) (Con (Lit 8))))) (Con (Lit 1)))) (App (App (App (App (App (Con (Num 43)) (Lam (App (App (Con (Num 15)) (Var 0)) (App (App (Con (Num 1)) (App (App (Con (Num 0)) (Var 2)) (App (App (Con (Num 0)) (Var 1)) (Con (Lit 8))))) (Con (Lit 1)))))) (App (App (Con (Num 1)) (App (App (Con (Num 0)) (Var 1)) (App (App (Con (Num 0)) (Var 0)) (Con (Lit 8))))) (Con (Lit 1)))) (App (App (Con (Num 0)) (Var 1)) (App (App (Con (Num 0)) (Var 0)) (Con (Lit 7))))) (App (App (App (App (App (Con (Num 43)) (Lam (App (App (Con (Num 15)) (App (App (Con (Num 1)) (App (App (Con (Num 0)) (Var 2)) (App (App (Con (Num 0)) (Var 1)) (Con (Lit 8))))) (Con (Lit 1)))) (App (App (Con (Num 0)) (Var 2)) (App (App (Con (Num 0)) (Var 1)) (Var 0)))))) (App (App (Con (Num 0)) (Con (Lit 8))) (Con (Lit 18446744073709551615)))) (Con (Lit 7))) (Con (Calc 0 8 18446744073709551615))) (App (App (App (App (App (Con (Num 43)) (Lam (App (App (Con (Num 15)) (App (App (Con (Num 1)) (App (App (Con (Num 0)) (Var 2)) (App (App (Con (Num 0)) (Var 1)) (Con (Lit 8))))) (Con (Lit 1)))) (App (App (Con (Num 0)) (Var 2)) (Var 0))))) (App (App (Con (Num 0)) (App (App (Con (Num 0)) (Var 0)) (Con (Lit 8)))) (Con (Lit 18446744073709551615)))) (App (App (Con (Num 0)) (Var 0)) (App (App (Con (Num 0)) (Con (Lit 8))) (Con (Lit 18446744073709551615))))) (App (App (App (Con (Num 47)) (Var 0)) (Con (Lit 8))) (Con (Lit 18446744073709551615)))) (App (App (App (App (App (Con (Num 43)) (Lam (App (App (Con (Num 15)) (App (App (Con (Num 1)) (App (App (Con (Num 0)) (Var 2)) (App (App (Con (Num 0)) (Var 1)) (Con (Lit 8))))) (Con (Lit 1)))) (Var 0)))) (App (App (Con (Num 0)) (App (App (Con (Num 0)) (Var 1)) (App (App (Con (Num 0)) (Var 0)) (Con (Lit 8))))) (Con (Lit 18446744073709551615)))) (App (App (Con (Num 0)) (Var 1)) (App (App (Con (Num 0)) (App (App (Con (Num 0)) (Var 0)) (Con (Lit 8)))) (Con (Lit 18446744073709551615))))) (App (App (App (Con (Num 47)) (Var 1)) (App (App (Con (Num 0)) (Var 0)) (Con (Lit 8)))) (Con (Lit 18446744073709551615)))) (App (App (App (App (App (Con (Num 43)) (Lam (App (App (Con (Num 15)) (App (App (Con (Num 1)) (App (App (Con (Num 0)) (Var 2)) (App (App (Con (Num 0)) (Var 1)) (Con (Lit 8))))) (Con (Lit 1)))) (App (App (Con (Num 0)) (App (App (Con (Num 0)) (Var 2)) (App (App (Con (Num 0)) (Var 1)) (Con (Lit 8))))) (Var 0))))) (App (App (Con (Num 1)) (Con (Lit 0))) (Con (Lit 1)))) (Con (Lit 18446744073709551615))) (Con (Calc 1 0 1))) (App (App (App (App (App (Con (Num 43)) (Lam (App (App (Con (Num 15)) (App (App (Con (Num 1)) (App (App (Con (Num 0)) (Var 2)) (App (App (Con (Num 0)) (Var 1)) (Con (Lit 8))))) (Con (Lit 1)))) (Var 0)))) (App (App (Con (Num 1)) (App (App (Con (Num 0)) (Var 1)) (App (App (Con (Num 0)) (Var 0)) (Con (Lit 8))))) (Con (Lit 1)))) (App (App (Con (Num 0)) (App (App (Con (Num 0)) (Var 1)) (App (App (Con (Num 0)) (Var 0)) (Con (Lit 8))))) (App (App (Con (Num 1)) (Con (Lit 0))) (Con (Lit 1))))) (App (App (Con (Num 50)) (App (App (Con (Num 0)) (Var 1)) (App (App (Con (Num 0)) (Var 0)) (Con (Lit 8))))) (Con (Lit 1)))) (App (Con (Num 42)) (App (App (Con (Num 1)) (App (App (Con (Num 0)) (Var 1)) (App (App (Con (Num 0)) (Var 0)) (Con (Lit 8))))) (Con (Lit 1)))))))))) (App (Con (Num 42)) (App (App (Con (Num 1)) (App (App (Con (Num 0)) (Var 1)) (App (App (Con (Num 0)) (Var 0)) (Con (Lit 8))))) (Con (Lit 1)))))) (App (App (App (App (App (Con (Num 43)) (Lam (App (App (Con (Num 15)) (App (App (Con (Num 0)) (Var 1)) (App (App (Con (Num 0)) (Con (Lit 3))) (App (App (Con (Num 0)) (Var 2)) (Con (Lit 4)))))) (Var 0)))) (App (App (Con (Num 0)) (App (App (Con (Num 0)) (Var 1)) (Var 0))) (Con (Lit 7)))) (App (App (Con (Num 0)) (Var 1)) (App (App (Con (Num 0)) (Var 0)) (Con (Lit 7))))) (App (App (App (Con (Num 47)) (Var 1)) (Var 0)) (Con (Lit 7)))) (App (App (App (App (App (Con (Num 43)) (Lam (App (App (Con (Num 15)) (App (App (Con (Num 0)) (Var 1)) (App (App (Con (Num 0)) (Con (Lit 3))) (App (App (Con (Num 0)) (Var 2)) (Con (Lit 4)))))) (App (App (Con (Num 0)) (Var 0)) (Con (Lit 7)))))) (App (App (Con (Num 0)) (Var 0)) (Var 1))) (App (App (Con (Num 0)) (Var 1)) (Var 0))) (App (App (Con (Num 46)) (Var 0)) (Var 1))) (App (App (App (App (App (Con (Num 43)) (Lam (App (App (Con (Num 15)) (App (App (Con (Num 0)) (Var 1)) (App (App (Con (Num 0)) (Con (Lit 3))) (App (App (Con (Num 0)) (Var 2)) (Con (Lit 4)))))) (Var 0)))) (App (App (Con (Num 0)) (Var 0)) (App (App (Con (Num 0)) (Var 1)) (Con (Lit 7))))) (App (App (Con (Num 0)) (App (App (Con (Num 0)) (Var 0)) (Var 1))) (Con (Lit 7)))) (App (App (App (App (App (Con (Num 43)) (Lam (App (App (Con (Num 15)) (Var 0)) (App (App (Con (Num 0)) (App (App (Con (Num 0)) (Var 1)) (Var 2))) (Con (Lit 7)))))) (App (App (Con (Num 0)) (App (App (Con (Num 0)) (Var 0)) (Var 1))) (Con (Lit 7)))) (App (App (Con (Num 0)) (Var 0)) (App (App (Con (Num 0)) (Var 1)) (Con (Lit 7))))) (App (App (App (Con (Num 47)) (Var 0)) (Var 1)) (Con (Lit 7)))) (App (Con (Num 42)) (App (App (Con (Num 0)) (App (App (Con (Num 0)) (Var 0)) (Var 1))) (Con (Lit 7)))))) (App (App (App (App (App (Con (Num 43)) (Lam (App (App (Con (Num 15)) (App (App (Con (Num 0)) (Var 1)) (App (App (Con (Num 0)) (Con (Lit 3))) (App (App (Con (Num 0)) (Var 2)) (Con (Lit 4)))))) (App (App (Con (Num 0)) (Var 1)) (App (App (Con (Num 0)) (Var 2)) (Var 0)))))) (App (App (Con (Num 0)) (Con (Lit 3))) (Con (Lit 4)))) (Con (Lit 7))) (Con (Calc 0 3 4))) (App (App (App (App (App (Con (Num 43)) (Lam (App (App (Con (Num 15)) (App (App (Con (Num 0)) (Var 1)) (App (App (Con (Num 0)) (Con (Lit 3))) (App (App (Con (Num 0)) (Var 2)) (Con (Lit 4)))))) (App (App (Con (Num 0)) (Var 1)) (Var 0))))) (App (App (Con (Num 0)) (App (App (Con (Num 0)) (Var 1)) (Con (Lit 3)))) (Con (Lit 4)))) (App (App (Con (Num 0)) (Var 1)) (App (App (Con (Num 0)) (Con (Lit 3))) (Con (Lit 4))))) (App (App (App (Con (Num 47)) (Var 1)) (Con (Lit 3))) (Con (Lit 4)))) (App (App (App (App (App (Con (Num 43)) (Lam (App (App (Con (Num 15)) (App (App (Con (Num 0)) (Var 1)) (App (App (Con (Num 0)) (Con (Lit 3))) (App (App (Con (Num 0)) (Var 2)) (Con (Lit 4)))))) (App (App (Con (Num 0)) (Var 1)) (App (App (Con (Num 0)) (Var 0)) (Con (Lit 4))))))) (App (App (Con (Num 0)) (Con (Lit 3))) (Var 1))) (App (App (Con (Num 0)) (Var 1)) (Con (Lit 3)))) (App (App (Con (Num 46)) (Con (Lit 3))) (Var 1))) (App (App (App (App (App (Con (Num 43)) (Lam (App (App (Con (Num 15)) (App (App (Con (Num 0)) (Var 1)) (App (App (Con (Num 0)) (Con (Lit 3))) (App (App (Con (Num 0)) (Var 2)) (Con (Lit 4)))))) (App (App (Con (Num 0)) (Var 1)) (Var 0))))) (App (App (Con (Num 0)) (Con (Lit 3))) (App (App (Con (Num 0)) (Var 1)) (Con (Lit 4))))) (App (App (Con (Num 0)) (App (App (Con (Num 0)) (Con (Lit 3))) (Var 1))) (Con (Lit 4)))) (App (App (App (App (App (Con (Num 43)) (Lam (App (App (Con (Num 15)) (Var 0)) (App (App (Con (Num 0)) (App (App (Con (Num 0)) (Con (Lit 3))) (Var 2))) (Con (Lit 4)))))) (App (App (Con (Num 0)) (App (App (Con (Num 0)) (Con (Lit 3))) (Var 1))) (Con (Lit 4)))) (App (App (Con (Num 0)) (Con (Lit 3))) (App (App (Con (Num 0)) (Var 1)) (Con (Lit 4))))) (App (App (App (Con (Num 47)) (Con (Lit 3))) (Var 1)) (Con (Lit 4)))) (App (Con (Num 42)) (App (App (Con (Num 0)) (App (App (Con (Num 0)) (Con (Lit 3))) (Var 1))) (Con (Lit 4)))))) (App (Con (Num 42)) (App (App (Con (Num 0)) (Var 0)) (App (App (Con (Num 0)) (Con (Lit 3))) (App (App (Con (Num 0)) (Var 1)) (Con (Lit 4))))))))))))))))))))) ∷
    -- the right to load, at another spelling of its address
    ((FAll (FImp (FRd (EOp Add (EVar 0) (ELit 0))) (FRd (EVar 0)))), Some (App (App (Con (Num 38)) (Lam (App (App (Con (Num 24)) (App (Con (Num 20)) (App (App (Con (Num 0)) (Var 0)) (Con (Lit 0))))) (App (Con (Num 20)) (Var 0))))) (Lam (App (App (App (Con (Num 35)) (App (Con (Num 20)) (App (App (Con (Num 0)) (Var 0)) (Con (Lit 0))))) (App (Con (Num 20)) (Var 0))) (Lam (App (App (App (App (App (Con (Num 43)) (Lam (App (Con (Num 20)) (Var 0)))) (App (App (Con (Num 0)) (Var 1)) (Con (Lit 0)))) (Var 1)) (App (App (App (App (App (Con (Num 43)) (Lam (App (App (Con (Num 15)) (App (App (Con (Num 0)) (Var 2)) (Con (Lit 0)))) (Var 0)))) (Var 1)) (Var 1)) (App (App (App (App (App (Con (Num 43)) (Lam (App (App (Con (Num 15)) (Var 0)) (Var 2)))) (Var 1)) (Var 1)) (App (Con (Num 42)) (Var 1))) (App (Con (Num 42)) (Var 1)))) (App (App (App (App (App (Con (Num 43)) (Lam (App (App (Con (Num 15)) (App (App (Con (Num 0)) (Var 2)) (Con (Lit 0)))) (Var 0)))) (App (App (Con (Num 0)) (Var 1)) (Con (Lit 0)))) (Var 1)) (App (Con (Num 48)) (Var 1))) (App (Con (Num 42)) (App (App (Con (Num 0)) (Var 1)) (Con (Lit 0))))))) (Var 0))))))) ∷
    -- an instance of the first form
    ((FAll (FAll (FImp (FAnd (FRel Ule (ELit 64) (EVar 0)) (FAll (FImp (FAnd (FRel Ult (EVar 0) (EVar 1)) (FRel Eq (EOp Band (EVar 0) (ELit 7)) (ELit 0))) (FRd (EOp Add (EVar 2) (EVar 0)))))) (FRd (EOp Add (EVar 1) (ELit 8)))))), Some (App (App (Con (Num 38)) (Lam (App (Con (Num 25)) (Lam (App (App (Con (Num 24)) (App (App (Con (Num 22)) (App (App (Con (Num 17)) (Con (Lit 64))) (Var 0))) (App (Con (Num 25)) (Lam (App (App (Con (Num 24)) (App (App (Con (Num 22)) (App (App (Con (Num 16)) (Var 0)) (Var 1))) (App (App (Con (Num 15)) (App (App (Con (Num 2)) (Var 0)) (Con (Lit 7)))) (Con (Lit 0))))) (App (Con (Num 20)) (App (App (Con (Num 0)) (Var 2)) (Var 0)))))))) (App (Con (Num 20)) (App (App (Con (Num 0)) (Var 1)) (Con (Lit 8))))))))) (Lam (App (App (Con (Num 38)) (Lam (App (App (Con (Num 24)) (App (App (Con (Num 22)) (App (App (Con (Num 17)) (Con (Lit 64))) (Var 0))) (App (Con (Num 25)) (Lam (App (App (Con (Num 24)) (App (App (Con (Num 22)) (App (App (Con (Num 16)) (Var 0)) (Var 1))) (App (App (Con (Num 15)) (App (App (Con (Num 2)) (Var 0)) (Con (Lit 7)))) (Con (Lit 0))))) (App (Con (Num 20)) (App (App (Con (Num 0)) (Var 2)) (Var 0)))))))) (App (Con (Num 20)) (App (App (Con (Num 0)) (Var 1)) (Con (Lit 8))))))) (Lam (App (App (App (Con (Num 35)) (App (App (Con (Num 22)) (App (App (Con (Num 17)) (Con (Lit 64))) (Var 0))) (App (Con (Num 25)) (Lam (App (App (Con (Num 24)) (App (App (Con (Num 22)) (App (App (Con (Num 16)) (Var 0)) (Var 1))) (App (App (Con (Num 15)) (App (App (Con (Num 2)) (Var 0)) (Con (Lit 7)))) (Con (Lit 0))))) (App (Con (Num 20)) (App (App (Con (Num 0)) (Var 2)) (Var 0)))))))) (App (Con (Num 20)) (App (App (Con (Num 0)) (Var 1)) (Con (Lit 8))))) (Lam (App (App (App (App (App (Con (Num 43)) (Lam (App (Con (Num 20)) (Var 0)))) (App (App (Con (Num 0)) (Var 2)) (Con (Lit 8)))) (App (App (Con (Num 0)) (Var 2)) (Con (Lit 8)))) (App (App (App (App (App (Con (Num 43)) (Lam (App (App (Con (Num 15)) (App (App (Con (Num 0)) (Var 3)) (Con (Lit 8)))) (Var 0)))) (App (App (Con (Num 0)) (Var 2)) (Con (Lit 8)))) (App (App (Con (Num 0)) (Var 2)) (Con (Lit 8)))) (App (App (App (App (App (Con (Num 43)) (Lam (App (App (Con (Num 15)) (Var 0)) (App (App (Con (Num 0)) (Var 3)) (Con (Lit 8)))))) (App (App (Con (Num 0)) (Var 2)) (Con (Lit 8)))) (App (App (Con (Num 0)) (Var 2)) (Con (Lit 8)))) (App (Con (Num 42)) (App (App (Con (Num 0)) (Var 2)) (Con (Lit 8))))) (App (Con (Num 42)) (App (App (Con (Num 0)) (Var 2)) (Con (Lit 8)))))) (App (Con (Num 42)) (App (App (Con (Num 0)) (Var 2)) (Con (Lit 8)))))) (App (App (App (App (Con (Num 36)) (App (App (Con (Num 22)) (App (App (Con (Num 16)) (Con (Lit 8))) (Var 1))) (App (App (Con (Num 15)) (App (App (Con (Num 2)) (Con (Lit 8))) (Con (Lit 7)))) (Con (Lit 0))))) (App (Con (Num 20)) (App (App (Con (Num 0)) (Var 2)) (Con (Lit 8))))) (App (App (App (Con (Num 39)) (Lam (App (App (Con (Num 24)) (App (App (Con (Num 22)) (App (App (Con (Num 16)) (Var 0)) (Var 2))) (App (App (Con (Num 15)) (App (App (Con (Num 2)) (Var 0)) (Con (Lit 7)))) (Con (Lit 0))))) (App (Con (Num 20)) (App (App (Con (Num 0)) (Var 3)) (Var 0)))))) (Con (Lit 8))) (App (App (App (Con (Num 31)) (App (App (Con (Num 17)) (Con (Lit 64))) (Var 1))) (App (Con (Num 25)) (Lam (App (App (Con (Num 24)) (App (App (Con (Num 22)) (App (App (Con (Num 16)) (Var 0)) (Var 2))) (App (App (Con (Num 15)) (App (App (Con (Num 2)) (Var 0)) (Con (Lit 7)))) (Con (Lit 0))))) (App (Con (Num 20)) (App (App (Con (Num 0)) (Var 3)) (Var 0))))))) (Var 0)))) (App (App (App (App (Con (Num 29)) (App (App (Con (Num 16)) (Con (Lit 8))) (Var 1))) (App (App (Con (Num 15)) (App (App (Con (Num 2)) (Con (Lit 8))) (Con (Lit 7)))) (Con (Lit 0)))) (App (App (App (App (App (Con (Num 66)) (Con (Lit 8))) (Con (Lit 64))) (Var 1)) (App (App (App (App (App (Con (Num 67)) (Con (Lit 8))) (Con (Lit 8))) (Con (Lit 64))) (App (Con (Num 63)) (Con (Lit 8)))) (Con (Fact 1 8 64)))) (App (App (App (Con (Num 30)) (App (App (Con (Num 17)) (Con (Lit 64))) (Var 1))) (App (Con (Num 25)) (Lam (App (App (Con (Num 24)) (App (App (Con (Num 22)) (App (App (Con (Num 16)) (Var 0)) (Var 2))) (App (App (Con (Num 15)) (App (App (Con (Num 2)) (Var 0)) (Con (Lit 7)))) (Con (Lit 0))))) (App (Con (Num 20)) (App (App (Con (Num 0)) (Var 3)) (Var 0))))))) (Var 0)))) (Con (Calc 2 8 7)))))))))))) ∷
    -- an instance of the second form
    ((FAll (FAll (FAll (FImp (FAnd (FRel Ult (EVar 0) (EVar 1)) (FAll (FImp (FRel Ult (EVar 0) (EVar 2)) (FAnd (FRd (EOp Add (EVar 3) (EOp Sll (EVar 0) (ELit 3)))) (FWr (EOp Add (EVar 3) (EOp Sll (EVar 0) (ELit 3)))))))) (FWr (EOp Add (EVar 2) (EOp Sll (EVar 0) (ELit 3)))))))), Some (App (App (Con (Num 38)) (Lam (App (Con (Num 25)) (Lam (App (Con (Num 25)) (Lam (App (App (Con (Num 24)) (App (App (Con (Num 22)) (App (App (Con (Num 16)) (Var 0)) (Var 1))) (App (Con (Num 25)) (Lam (App (App (Con (Num 24)) (App (App (Con (Num 16)) (Var 0)) (Var 2))) (App (App (Con (Num 22)) (App (Con (Num 20)) (App (App (Con (Num 0)) (Var 3)) (App (App (Con (Num 4)) (Var 0)) (Con (Lit 3)))))) (App (Con (Num 21)) (App (App (Con (Num 0)) (Var 3)) (App (App (Con (Num 4)) (Var 0)) (Con (Lit 3))))))))))) (App (Con (Num 21)) (App (App (Con (Num 0)) (Var 2)) (App (App (Con (Num 4)) (Var 0)) (Con (Lit 3)))))))))))) (Lam (App (App (Con (Num 38)) (Lam (App (Con (Num 25)) (Lam (App (App (Con (Num 24)) (App (App (Con (Num 22)) (App (App (Con (Num 16)) (Var 0)) (Var 1))) (App (Con (Num 25)) (Lam (App (App (Con (Num 24)) (App (App (Con (Num 16)) (Var 0)) (Var 2))) (App (App (Con (Num 22)) (App (Con (Num 20)) (App (App (Con (Num 0)) (Var 3)) (App (App (Con (Num 4)) (Var 0)) (Con (Lit 3)))))) (App (Con (Num 21)) (App (App (Con (Num 0)) (Var 3)) (App (App (Con (Num 4)) (Var 0)) (Con (Lit 3))))))))))) (App (Con (Num 21)) (App (App (Con (Num 0)) (Var 2)) (App (App (Con (Num 4)) (Var 0)) (Con (Lit 3)))))))))) (Lam (App (App (Con (Num 38)) (Lam (App (App (Con (Num 24)) (App (App (Con (Num 22)) (App (App (Con (Num 16)) (Var 0)) (Var 1))) (App (Con (Num 25)) (Lam (App (App (Con (Num 24)) (App (App (Con (Num 16)) (Var 0)) (Var 2))) (App (App (Con (Num 22)) (App (Con (Num 20)) (App (App (Con (Num 0)) (Var 3)) (App (App (Con (Num 4)) (Var 0)) (Con (Lit 3)))))) (App (Con (Num 21)) (App (App (Con (Num 0)) (Var 3)) (App (App (Con (Num 4)) (Var 0)) (Con (Lit 3))))))))))) (App (Con (Num 21)) (App (App (Con (Num 0)) (Var 2)) (App (App (Con (Num 4)) (Var 0)) (Con (Lit 3)))))))) (Lam (App (App (App (Con (Num 35)) (App (App (Con (Num 22)) (App (App (Con (Num 16)) (Var 0)) (Var 1))) (App (Con (Num 25)) (Lam (App (App (Con (Num 24)) (App (App (Con (Num 16)) (Var 0)) (Var 2))) (App (App (Con (Num 22)) (App (Con (Num 20)) (App (App (Con (Num 0)) (Var 3)) (App (App (Con (Num 4)) (Var 0)) (Con (Lit 3)))))) (App (Con (Num 21)) (App (App (Con (Num 0)) (Var 3)) (App (App (Con (Num 4)) (Var 0)) (Con (Lit 3))))))))))) (App (Con (Num 21)) (App (App (Con (Num 0)) (Var 2)) (App (App (Con (Num 4)) (Var 0)) (Con (Lit 3)))))) (Lam (App (App (App (App (App (Con (Num 43)) (Lam (App (Con (Num 21)) (Var 0)))) (App (App (Con (Num 0)) (Var 3)) (App (App (Con (Num 4)) (Var 1)) (Con (Lit 3))))) (App (App (Con (Num 0)) (Var 3)) (App (App (Con (Num 4)) (Var 1)) (Con (Lit 3))))) (App (App (App (App (App (Con (Num 43)) (Lam (App (App (Con (Num 15)) (App (App (Con (Num 0)) (Var 4)) (App (App (Con (Num 4)) (Var 2)) (Con (Lit 3))))) (Var 0)))) (App (App (Con (Num 0)) (Var 3)) (App (App (Con (Num 4)) (Var 1)) (Con (Lit 3))))) (App (App (Con (Num 0)) (Var 3)) (App (App (Con (Num 4)) (Var 1)) (Con (Lit 3))))) (App (App (App (App (App (Con (Num 43)) (Lam (App (App (Con (Num 15)) (Var 0)) (App (App (Con (Num 0)) (Var 4)) (App (App (Con (Num 4)) (Var 2)) (Con (Lit 3))))))) (App (App (Con (Num 0)) (Var 3)) (App (App (Con (Num 4)) (Var 1)) (Con (Lit 3))))) (App (App (Con (Num 0)) (Var 3)) (App (App (Con (Num 4)) (Var 1)) (Con (Lit 3))))) (App (Con (Num 42)) (App (App (Con (Num 0)) (Var 3)) (App (App (Con (Num 4)) (Var 1)) (Con (Lit 3)))))) (App (Con (Num 42)) (App (App (Con (Num 0)) (Var 3)) (App (App (Con (Num 4)) (Var 1)) (Con (Lit 3))))))) (App (Con (Num 42)) (App (App (Con (Num 0)) (Var 3)) (App (App (Con (Num 4)) (Var 1)) (Con (Lit 3))))))) (App (App (App (Con (Num 31)) (App (Con (Num 20)) (App (App (Con (Num 0)) (Var 3)) (App (App (Con (Num 4)) (Var 1)) (Con (Lit 3)))))) (App (Con (Num 21)) (App (App (Con (Num 0)) (Var 3)) (App (App (Con (Num 4)) (Var 1)) (Con (Lit 3)))))) (App (App (App (App (Con (Num 36)) (App (App (Con (Num 16)) (Var 1)) (Var 2))) (App (App (Con (Num 22)) (App (Con (Num 20)) (App (App (Con (Num 0)) (Var 3)) (App (App (Con (Num 4)) (Var 1)) (Con (Lit 3)))))) (App (Con (Num 21)) (App (App (Con (Num 0)) (Var 3)) (App (App (Con (Num 4)) (Var 1)) (Con (Lit 3))))))) (App (App (App (Con (Num 39)) (Lam (App (App (Con (Num 24)) (App (App (Con (Num 16)) (Var 0)) (Var 3))) (App (App (Con (Num 22)) (App (Con (Num 20)) (App (App (Con (Num 0)) (Var 4)) (App (App (Con (Num 4)) (Var 0)) (Con (Lit 3)))))) (App (Con (Num 21)) (App (App (Con (Num 0)) (Var 4)) (App (App (Con (Num 4)) (Var 0)) (Con (Lit 3))))))))) (Var 1)) (App (App (App (Con (Num 31)) (App (App (Con (Num 16)) (Var 1)) (Var 2))) (App (Con (Num 25)) (Lam (App (App (Con (Num 24)) (App (App (Con (Num 16)) (Var 0)) (Var 3))) (App (App (Con (Num 22)) (App (Con (Num 20)) (App (App (Con (Num 0)) (Var 4)) (App (App (Con (Num 4)) (Var 0)) (Con (Lit 3)))))) (App (Con (Num 21)) (App (App (Con (Num 0)) (Var 4)) (App (App (Con (Num 4)) (Var 0)) (Con (Lit 3)))))))))) (Var 0)))) (App (App (App (Con (Num 30)) (App (App (Con (Num 16)) (Var 1)) (Var 2))) (App (Con (Num 25)) (Lam (App (App (Con (Num 24)) (App (App (Con (Num 16)) (Var 0)) (Var 3))) (App (App (Con (Num 22)) (App (Con (Num 20)) (App (App (Con (Num 0)) (Var 4)) (App (App (Con (Num 4)) (Var 0)) (Con (Lit 3)))))) (App (Con (Num 21)) (App (App (Con (Num 0)) (Var 4)) (App (App (Con (Num 4)) (Var 0)) (Con (Lit 3)))))))))) (Var 0)))))))))))))) ∷
    -- a mask
    ((FAll (FRel Ult (EOp Band (EVar 0) (ELit 7)) (ELit 8))), Some (App (App (Con (Num 38)) (Lam (App (App (Con (Num 16)) (App (App (Con (Num 2)) (Var 0)) (Con (Lit 7)))) (Con (Lit 8))))) (Lam (App (App (App (App (App (Con (Num 66)) (App (App (Con (Num 2)) (Var 0)) (Con (Lit 7)))) (Con (Lit 8))) (Con (Lit 8))) (App (App (App (App (App (Con (Num 67)) (App (App (Con (Num 2)) (Var 0)) (Con (Lit 7)))) (Con (Lit 7))) (Con (Lit 8))) (App (App (App (App (App (Con (Num 64)) (App (App (Con (Num 2)) (Var 0)) (Con (Lit 7)))) (Con (Lit 7))) (Con (Lit 7))) (App (App (Con (Num 54)) (Var 0)) (Con (Lit 7)))) (App (Con (Num 63)) (Con (Lit 7))))) (Con (Fact 1 7 8)))) (App (Con (Num 63)) (Con (Lit 8))))))) ∷
    -- an absurdity
    ((FAll (FImp FFalse (FRel Eq (EVar 0) (ELit 0)))), Some (App (App (Con (Num 38)) (Lam (App (App (Con (Num 24)) (Con (Num 14))) (App (App (Con (Num 15)) (Var 0)) (Con (Lit 0)))))) (Lam (App (App (App (Con (Num 35)) (Con (Num 14))) (App (App (Con (Num 15)) (Var 0)) (Con (Lit 0)))) (Lam (App (App (Con (Num 28)) (App (App (Con (Num 15)) (Var 1)) (Con (Lit 0)))) (Var 0))))))) ∷
    -- a sum
    ((FAll (FAll (FRel Ule (EOp Add (EOp Band (EVar 1) (ELit 7)) (EOp Sll (EOp Band (EVar 0) (ELit 3)) (ELit 2))) (ELit 19)))), Some (App (App (Con (Num 38)) (Lam (App (Con (Num 25)) (Lam (App (App (Con (Num 17)) (App (App (Con (Num 0)) (App (App (Con (Num 2)) (Var 1)) (Con (Lit 7)))) (App (App (Con (Num 4)) (App (App (Con (Num 2)) (Var 0)) (Con (Lit 3)))) (Con (Lit 2))))) (Con (Lit 19))))))) (Lam (App (App (Con (Num 38)) (Lam (App (App (Con (Num 17)) (App (App (Con (Num 0)) (App (App (Con (Num 2)) (Var 1)) (Con (Lit 7)))) (App (App (Con (Num 4)) (App (App (Con (Num 2)) (Var 0)) (Con (Lit 3)))) (Con (Lit 2))))) (Con (Lit 19))))) (Lam (App (App (App (App (App (Con (Num 64)) (App (App (Con (Num 0)) (App (App (Con (Num 2)) (Var 1)) (Con (Lit 7)))) (App (App (Con (Num 4)) (App (App (Con (Num 2)) (Var 0)) (Con (Lit 3)))) (Con (Lit 2))))) (Con (Lit 19))) (Con (Lit 19))) (App (App (App (App (App (Con (Num 43)) (Lam (App (App (Con (Num 17)) (App (App (Con (Num 0)) (App (App (Con (Num 2)) (Var 2)) (Con (Lit 7)))) (App (App (Con (Num 4)) (App (App (Con (Num 2)) (Var 1)) (Con (Lit 3)))) (Con (Lit 2))))) (Var 0)))) (App (App (Con (Num 0)) (Con (Lit 7))) (Con (Lit 12)))) (Con (Lit 19))) (Con (Calc 0 7 12))) (App (App (App (App (App (App (App (Con (Num 72)) (App (App (Con (Num 2)) (Var 1)) (Con (Lit 7)))) (App (App (Con (Num 4)) (App (App (Con (Num 2)) (Var 0)) (Con (Lit 3)))) (Con (Lit 2)))) (Con (Lit 7))) (Con (Lit 12))) (App (App (App (App (App (Con (Num 64)) (App (App (Con (Num 2)) (Var 1)) (Con (Lit 7)))) (Con (Lit 7))) (Con (Lit 7))) (App (App (Con (Num 54)) (Var 1)) (Con (Lit 7)))) (App (Con (Num 63)) (Con (Lit 7))))) (App (App (App (App (App (Con (Num 43)) (Lam (App (App (Con (Num 17)) (App (App (Con (Num 4)) (App (App (Con (Num 2)) (Var 1)) (Con (Lit 3)))) (Con (Lit 2)))) (Var 0)))) (App (App (Con (Num 4)) (Con (Lit 3))) (Con (Lit 2)))) (Con (Lit 12))) (Con (Calc 4 3 2))) (App (App (App (App (App (Con (Num 60)) (App (App (Con (Num 2)) (Var 0)) (Con (Lit 3)))) (Con (Lit 3))) (Con (Lit 2))) (App (App (App (App (App (Con (Num 64)) (App (App (Con (Num 2)) (Var 0)) (Con (Lit 3)))) (Con (Lit 3))) (Con (Lit 3))) (App (App (Con (Num 54)) (Var 0)) (Con (Lit 3)))) (App (Con (Num 63)) (Con (Lit 3))))) (App (App (App (App (App (Con (Num 43)) (Lam (App (App (Con (Num 17)) (Con (Lit 3))) (Var 0)))) (Con (Lit 4611686018427387903))) (App (App (Con (Num 5)) (Con (Lit 18446744073709551615))) (Con (Lit 2)))) (App (App (App (App (App (Con (Num 43)) (Lam (App (App (Con (Num 15)) (Var 0)) (App (App (Con (Num 5)) (Con (Lit 18446744073709551615))) (Con (Lit 2)))))) (App (App (Con (Num 5)) (Con (Lit 18446744073709551615))) (Con (Lit 2)))) (Con (Lit 4611686018427387903))) (Con (Calc 5 18446744073709551615 2))) (App (Con (Num 42)) (App (App (Con (Num 5)) (Con (Lit 18446744073709551615))) (Con (Lit 2)))))) (Con (Fact 2 3 4611686018427387903)))))) (App (App (App (App (App (Con (Num 43)) (Lam (App (App (Con (Num 17)) (Con (Lit 7))) (Var 0)))) (Con (Lit 19))) (App (App (Con (Num 0)) (Con (Lit 7))) (Con (Lit 12)))) (App (App (App (App (App (Con (Num 43)) (Lam (App (App (Con (Num 15)) (Var 0)) (App (App (Con (Num 0)) (Con (Lit 7))) (Con (Lit 12)))))) (App (App (Con (Num 0)) (Con (Lit 7))) (Con (Lit 12)))) (Con (Lit 19))) (Con (Calc 0 7 12))) (App (Con (Num 42)) (App (App (Con (Num 0)) (Con (Lit 7))) (Con (Lit 12)))))) (Con (Fact 2 7 19)))))) (App (App (App (App (App (Con (Num 64)) (Con (Lit 19))) (Con (Lit 19))) (Con (Lit 19))) (Con (Fact 2 19 19))) (App (Con (Num 63)) (Con (Lit 19)))))))))) ∷
    -- none
    ((FAll (FRel Ult (EVar 0) (ELit 8))), None) ∷
    -- none: 64 below a word that is at least 64
    ((FAll (FImp (FRel Ule (ELit 64) (EVar 0)) (FRel Ult (ELit 64) (EVar 0)))), None) ∷
    []
