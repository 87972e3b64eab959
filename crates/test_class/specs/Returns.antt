-- Parts of conditions of code that returns and stores, with the proofs that an independent implementation gives them.
use Rattle.std.specs.Prelude.{Option, Some, List, [], ◌∷◌}
use Rattle.term_table.specs.Tree.{Tree, Var, Con, App, Lam, Num, Lit, Calc, Fact}
use Rattle.word_ops.specs.declared.Op.TheVariants.{Add, Band}
use Rattle.word_ops.specs.declared.Rel.TheVariants.{Eq, Ult, Ule}
use Rattle.formula_tree.specs.Formulas.{EVar, ELit, EOp, ESel, MVar, Form, FTrue, FFalse, FRel, FRd, FWr, FAnd, FImp, FAll, FAllm}

-- a part of a condition
unfoldable pub t0_part : Form
t0_part = (FAllm (FAll (FAll (FAll (FAll (FAll (FAll (FAll (FAll (FAll (FAll (FAll (FAll (FAll (FAll (FAll (FAll (FAll (FAll (FAll (FAll (FAll (FAll (FAll (FAll (FAll (FAll (FAll (FAll (FAll (FAll (FAll (FImp (FAnd (FRd (EOp Add (EVar 14) (ELit 0))) (FAnd (FRd (EOp Add (EVar 14) (ELit 8))) (FImp (FImp (FRel Eq (ESel (MVar 31) (EOp Add (EVar 14) (ELit 0))) (ELit 0)) FFalse) (FWr (EOp Add (EVar 14) (ELit 8)))))) FTrue)))))))))))))))))))))))))))))))))

abbrev t0_t0 : Tree
t0_t0 = (App (Con (Num 0)) (Var 14))

abbrev t0_t1 : Tree
t0_t1 = (App t0_t0 (Con (Lit 0)))

abbrev t0_t2 : Tree
t0_t2 = (App t0_t0 (Con (Lit 8)))

abbrev t0_t3 : Tree
t0_t3 = (App (App (Con (Num 22)) (App (Con (Num 20)) t0_t1)) (App (App (Con (Num 22)) (App (Con (Num 20)) t0_t2)) (App (App (Con (Num 24)) (App (App (Con (Num 24)) (App (App (Con (Num 15)) (App (App (Con (Num 11)) (Var 31)) t0_t1)) (Con (Lit 0)))) (Con (Num 14)))) (App (Con (Num 21)) t0_t2))))

abbrev t0_t4 : Tree
t0_t4 = (Lam (App (App (Con (Num 24)) t0_t3) (Con (Num 13))))

abbrev t0_t5 : Tree
t0_t5 = (Lam (App (Con (Num 25)) t0_t4))

abbrev t0_t6 : Tree
t0_t6 = (Lam (App (Con (Num 25)) t0_t5))

abbrev t0_t7 : Tree
t0_t7 = (Lam (App (Con (Num 25)) t0_t6))

abbrev t0_t8 : Tree
t0_t8 = (Lam (App (Con (Num 25)) t0_t7))

abbrev t0_t9 : Tree
t0_t9 = (Lam (App (Con (Num 25)) t0_t8))

abbrev t0_t10 : Tree
t0_t10 = (Lam (App (Con (Num 25)) t0_t9))

abbrev t0_t11 : Tree
t0_t11 = (Lam (App (Con (Num 25)) t0_t10))

abbrev t0_t12 : Tree
t0_t12 = (Lam (App (Con (Num 25)) t0_t11))

abbrev t0_t13 : Tree
t0_t13 = (Lam (App (Con (Num 25)) t0_t12))

abbrev t0_t14 : Tree
t0_t14 = (Lam (App (Con (Num 25)) t0_t13))

abbrev t0_t15 : Tree
t0_t15 = (Lam (App (Con (Num 25)) t0_t14))

abbrev t0_t16 : Tree
t0_t16 = (Lam (App (Con (Num 25)) t0_t15))

abbrev t0_t17 : Tree
t0_t17 = (Lam (App (Con (Num 25)) t0_t16))

abbrev t0_t18 : Tree
t0_t18 = (Lam (App (Con (Num 25)) t0_t17))

abbrev t0_t19 : Tree
t0_t19 = (Lam (App (Con (Num 25)) t0_t18))

abbrev t0_t20 : Tree
t0_t20 = (Lam (App (Con (Num 25)) t0_t19))

abbrev t0_t21 : Tree
t0_t21 = (Lam (App (Con (Num 25)) t0_t20))

abbrev t0_t22 : Tree
t0_t22 = (Lam (App (Con (Num 25)) t0_t21))

abbrev t0_t23 : Tree
t0_t23 = (Lam (App (Con (Num 25)) t0_t22))

abbrev t0_t24 : Tree
t0_t24 = (Lam (App (Con (Num 25)) t0_t23))

abbrev t0_t25 : Tree
t0_t25 = (Lam (App (Con (Num 25)) t0_t24))

abbrev t0_t26 : Tree
t0_t26 = (Lam (App (Con (Num 25)) t0_t25))

abbrev t0_t27 : Tree
t0_t27 = (Lam (App (Con (Num 25)) t0_t26))

abbrev t0_t28 : Tree
t0_t28 = (Lam (App (Con (Num 25)) t0_t27))

abbrev t0_t29 : Tree
t0_t29 = (Lam (App (Con (Num 25)) t0_t28))

abbrev t0_t30 : Tree
t0_t30 = (Lam (App (Con (Num 25)) t0_t29))

abbrev t0_t31 : Tree
t0_t31 = (Lam (App (Con (Num 25)) t0_t30))

abbrev t0_t32 : Tree
t0_t32 = (Lam (App (Con (Num 25)) t0_t31))

abbrev t0_t33 : Tree
t0_t33 = (Lam (App (Con (Num 25)) t0_t32))

abbrev t0_t34 : Tree
t0_t34 = (Lam (App (Con (Num 25)) t0_t33))

-- a part of a condition
unfoldable pub row_18_part : Form
row_18_part = (FAllm (FAll (FAll (FAll (FAll (FAll (FAll (FAll (FAll (FAll (FAll (FAll (FAll (FAll (FAll (FAll (FAll (FAll (FAll (FAll (FAll (FAll (FAll (FAll (FAll (FAll (FAll (FAll (FAll (FAll (FAll (FAll (FImp (FAnd (FRd (EOp Add (EVar 14) (ELit 0))) (FAnd (FRd (EOp Add (EVar 14) (ELit 8))) (FImp (FImp (FRel Eq (ESel (MVar 31) (EOp Add (EVar 14) (ELit 0))) (ELit 0)) FFalse) (FWr (EOp Add (EVar 14) (ELit 8)))))) (FAnd (FRd (EOp Add (EVar 14) (ELit 0))) (FAnd (FImp (FRel Eq (ESel (MVar 31) (EOp Add (EVar 14) (ELit 0))) (ELit 0)) FTrue) (FImp (FImp (FRel Eq (ESel (MVar 31) (EOp Add (EVar 14) (ELit 0))) (ELit 0)) FFalse) (FAnd (FWr (EOp Add (EVar 14) (ELit 8))) FTrue)))))))))))))))))))))))))))))))))))))

abbrev row_18_t0 : Tree
row_18_t0 = (App (Con (Num 0)) (Var 14))

abbrev row_18_t1 : Tree
row_18_t1 = (App row_18_t0 (Con (Lit 0)))

abbrev row_18_t2 : Tree
row_18_t2 = (App (Con (Num 22)) (App (Con (Num 20)) row_18_t1))

abbrev row_18_t3 : Tree
row_18_t3 = (App row_18_t0 (Con (Lit 8)))

abbrev row_18_t4 : Tree
row_18_t4 = (App (Con (Num 24)) (App (App (Con (Num 15)) (App (App (Con (Num 11)) (Var 31)) row_18_t1)) (Con (Lit 0))))

abbrev row_18_t5 : Tree
row_18_t5 = (App (Con (Num 24)) (App row_18_t4 (Con (Num 14))))

abbrev row_18_t6 : Tree
row_18_t6 = (App (Con (Num 21)) row_18_t3)

abbrev row_18_t7 : Tree
row_18_t7 = (App row_18_t2 (App (App (Con (Num 22)) (App (Con (Num 20)) row_18_t3)) (App row_18_t5 row_18_t6)))

abbrev row_18_t8 : Tree
row_18_t8 = (App row_18_t2 (App (App (Con (Num 22)) (App row_18_t4 (Con (Num 13)))) (App row_18_t5 (App (App (Con (Num 22)) row_18_t6) (Con (Num 13))))))

abbrev row_18_t9 : Tree
row_18_t9 = (Lam (App (App (Con (Num 24)) row_18_t7) row_18_t8))

abbrev row_18_t10 : Tree
row_18_t10 = (Lam (App (Con (Num 25)) row_18_t9))

abbrev row_18_t11 : Tree
row_18_t11 = (Lam (App (Con (Num 25)) row_18_t10))

abbrev row_18_t12 : Tree
row_18_t12 = (Lam (App (Con (Num 25)) row_18_t11))

abbrev row_18_t13 : Tree
row_18_t13 = (Lam (App (Con (Num 25)) row_18_t12))

abbrev row_18_t14 : Tree
row_18_t14 = (Lam (App (Con (Num 25)) row_18_t13))

abbrev row_18_t15 : Tree
row_18_t15 = (Lam (App (Con (Num 25)) row_18_t14))

abbrev row_18_t16 : Tree
row_18_t16 = (Lam (App (Con (Num 25)) row_18_t15))

abbrev row_18_t17 : Tree
row_18_t17 = (Lam (App (Con (Num 25)) row_18_t16))

abbrev row_18_t18 : Tree
row_18_t18 = (Lam (App (Con (Num 25)) row_18_t17))

abbrev row_18_t19 : Tree
row_18_t19 = (Lam (App (Con (Num 25)) row_18_t18))

abbrev row_18_t20 : Tree
row_18_t20 = (Lam (App (Con (Num 25)) row_18_t19))

abbrev row_18_t21 : Tree
row_18_t21 = (Lam (App (Con (Num 25)) row_18_t20))

abbrev row_18_t22 : Tree
row_18_t22 = (Lam (App (Con (Num 25)) row_18_t21))

abbrev row_18_t23 : Tree
row_18_t23 = (Lam (App (Con (Num 25)) row_18_t22))

abbrev row_18_t24 : Tree
row_18_t24 = (Lam (App (Con (Num 25)) row_18_t23))

abbrev row_18_t25 : Tree
row_18_t25 = (Lam (App (Con (Num 25)) row_18_t24))

abbrev row_18_t26 : Tree
row_18_t26 = (Lam (App (Con (Num 25)) row_18_t25))

abbrev row_18_t27 : Tree
row_18_t27 = (Lam (App (Con (Num 25)) row_18_t26))

abbrev row_18_t28 : Tree
row_18_t28 = (Lam (App (Con (Num 25)) row_18_t27))

abbrev row_18_t29 : Tree
row_18_t29 = (Lam (App (Con (Num 25)) row_18_t28))

abbrev row_18_t30 : Tree
row_18_t30 = (Lam (App (Con (Num 25)) row_18_t29))

abbrev row_18_t31 : Tree
row_18_t31 = (Lam (App (Con (Num 25)) row_18_t30))

abbrev row_18_t32 : Tree
row_18_t32 = (Lam (App (Con (Num 25)) row_18_t31))

abbrev row_18_t33 : Tree
row_18_t33 = (Lam (App (Con (Num 25)) row_18_t32))

abbrev row_18_t34 : Tree
row_18_t34 = (Lam (App (Con (Num 25)) row_18_t33))

abbrev row_18_t35 : Tree
row_18_t35 = (Lam (App (Con (Num 25)) row_18_t34))

abbrev row_18_t36 : Tree
row_18_t36 = (Lam (App (Con (Num 25)) row_18_t35))

abbrev row_18_t37 : Tree
row_18_t37 = (Lam (App (Con (Num 25)) row_18_t36))

abbrev row_18_t38 : Tree
row_18_t38 = (Lam (App (Con (Num 25)) row_18_t37))

abbrev row_18_t39 : Tree
row_18_t39 = (Lam (App (Con (Num 25)) row_18_t38))

abbrev row_18_t40 : Tree
row_18_t40 = (App (Con (Num 0)) (Var 15))

abbrev row_18_t41 : Tree
row_18_t41 = (App row_18_t40 (Con (Lit 0)))

abbrev row_18_t42 : Tree
row_18_t42 = (App (Con (Num 20)) row_18_t41)

abbrev row_18_t43 : Tree
row_18_t43 = (App (App (Con (Num 15)) (App (App (Con (Num 11)) (Var 32)) row_18_t41)) (Con (Lit 0)))

abbrev row_18_t44 : Tree
row_18_t44 = (App (Con (Num 24)) row_18_t43)

abbrev row_18_t45 : Tree
row_18_t45 = (App row_18_t44 (Con (Num 13)))

abbrev row_18_t46 : Tree
row_18_t46 = (App row_18_t44 (Con (Num 14)))

abbrev row_18_t47 : Tree
row_18_t47 = (App (Con (Num 24)) row_18_t46)

abbrev row_18_t48 : Tree
row_18_t48 = (App row_18_t40 (Con (Lit 8)))

abbrev row_18_t49 : Tree
row_18_t49 = (App (Con (Num 21)) row_18_t48)

abbrev row_18_t50 : Tree
row_18_t50 = (App (App (Con (Num 22)) row_18_t49) (Con (Num 13)))

abbrev row_18_t51 : Tree
row_18_t51 = (App row_18_t47 row_18_t50)

abbrev row_18_t52 : Tree
row_18_t52 = (App (Con (Num 0)) (Var 16))

abbrev row_18_t53 : Tree
row_18_t53 = (App row_18_t52 (Con (Lit 8)))

abbrev row_18_t54 : Tree
row_18_t54 = (App (Con (Num 21)) row_18_t53)

abbrev row_18_t55 : Tree
row_18_t55 = (App (App (Con (Num 0)) (Var 17)) (Con (Lit 8)))

abbrev row_18_t56 : Tree
row_18_t56 = (App (Con (Num 42)) row_18_t53)

abbrev row_18_t57 : Tree
row_18_t57 = (App row_18_t52 (Con (Lit 0)))

abbrev row_18_t58 : Tree
row_18_t58 = (App (App (Con (Num 24)) (App (App (Con (Num 15)) (App (App (Con (Num 11)) (Var 33)) row_18_t57)) (Con (Lit 0)))) (Con (Num 14)))

abbrev row_18_t59 : Tree
row_18_t59 = (App (Con (Num 20)) row_18_t53)

abbrev row_18_t60 : Tree
row_18_t60 = (App (App (Con (Num 24)) row_18_t58) row_18_t54)

-- a part of a condition
unfoldable pub row_1_part : Form
row_1_part = (FAllm (FAll (FAll (FAll (FAll (FAll (FAll (FAll (FAll (FAll (FAll (FAll (FAll (FAll (FAll (FAll (FAll (FAll (FAll (FAll (FAll (FAll (FAll (FAll (FAll (FAll (FAll (FAll (FAll (FAll (FAll (FAll (FImp (FAnd (FRel Ule (ELit 64) (EVar 13)) (FAnd (FAll (FImp (FAnd (FRel Ult (EVar 0) (EVar 14)) (FRel Eq (EOp Band (EVar 0) (ELit 7)) (ELit 0))) (FRd (EOp Add (EVar 15) (EVar 0))))) (FAnd (FAll (FImp (FAnd (FRel Ult (EVar 0) (ELit 16)) (FRel Eq (EOp Band (EVar 0) (ELit 7)) (ELit 0))) (FAnd (FRd (EOp Add (EVar 13) (EVar 0))) (FWr (EOp Add (EVar 13) (EVar 0)))))) (FAll (FAll (FImp (FAnd (FAnd (FRel Ult (EVar 1) (EVar 15)) (FRel Eq (EOp Band (EVar 1) (ELit 7)) (ELit 0))) (FAnd (FRel Ult (EVar 0) (ELit 16)) (FRel Eq (EOp Band (EVar 0) (ELit 7)) (ELit 0)))) (FImp (FRel Eq (EOp Add (EVar 16) (EVar 1)) (EOp Add (EVar 14) (EVar 0))) FFalse))))))) (FRel Ult (EOp Add (ELit 0) (ELit 1)) (ELit 2)))))))))))))))))))))))))))))))))))

abbrev row_1_t0 : Tree
row_1_t0 = (App (Con (Num 16)) (Var 0))

abbrev row_1_t1 : Tree
row_1_t1 = (App (App (Con (Num 15)) (App (App (Con (Num 2)) (Var 0)) (Con (Lit 7)))) (Con (Lit 0)))

abbrev row_1_t2 : Tree
row_1_t2 = (App (App (Con (Num 22)) (App row_1_t0 (Con (Lit 16)))) row_1_t1)

abbrev row_1_t3 : Tree
row_1_t3 = (App (App (Con (Num 0)) (Var 13)) (Var 0))

abbrev row_1_t4 : Tree
row_1_t4 = (App (App (Con (Num 22)) (App (App (Con (Num 17)) (Con (Lit 64))) (Var 13))) (App (App (Con (Num 22)) (App (Con (Num 25)) (Lam (App (App (Con (Num 24)) (App (App (Con (Num 22)) (App row_1_t0 (Var 14))) row_1_t1)) (App (Con (Num 20)) (App (App (Con (Num 0)) (Var 15)) (Var 0))))))) (App (App (Con (Num 22)) (App (Con (Num 25)) (Lam (App (App (Con (Num 24)) row_1_t2) (App (App (Con (Num 22)) (App (Con (Num 20)) row_1_t3)) (App (Con (Num 21)) row_1_t3)))))) (App (Con (Num 25)) (Lam (App (Con (Num 25)) (Lam (App (App (Con (Num 24)) (App (App (Con (Num 22)) (App (App (Con (Num 22)) (App (App (Con (Num 16)) (Var 1)) (Var 15))) (App (App (Con (Num 15)) (App (App (Con (Num 2)) (Var 1)) (Con (Lit 7)))) (Con (Lit 0))))) row_1_t2)) (App (App (Con (Num 24)) (App (App (Con (Num 15)) (App (App (Con (Num 0)) (Var 16)) (Var 1))) (App (App (Con (Num 0)) (Var 14)) (Var 0)))) (Con (Num 14)))))))))))

abbrev row_1_t5 : Tree
row_1_t5 = (App (App (Con (Num 0)) (Con (Lit 0))) (Con (Lit 1)))

abbrev row_1_t6 : Tree
row_1_t6 = (App (Con (Num 16)) row_1_t5)

abbrev row_1_t7 : Tree
row_1_t7 = (App row_1_t6 (Con (Lit 2)))

abbrev row_1_t8 : Tree
row_1_t8 = (Lam (App (App (Con (Num 24)) row_1_t4) row_1_t7))

abbrev row_1_t9 : Tree
row_1_t9 = (Lam (App (Con (Num 25)) row_1_t8))

abbrev row_1_t10 : Tree
row_1_t10 = (Lam (App (Con (Num 25)) row_1_t9))

abbrev row_1_t11 : Tree
row_1_t11 = (Lam (App (Con (Num 25)) row_1_t10))

abbrev row_1_t12 : Tree
row_1_t12 = (Lam (App (Con (Num 25)) row_1_t11))

abbrev row_1_t13 : Tree
row_1_t13 = (Lam (App (Con (Num 25)) row_1_t12))

abbrev row_1_t14 : Tree
row_1_t14 = (Lam (App (Con (Num 25)) row_1_t13))

abbrev row_1_t15 : Tree
row_1_t15 = (Lam (App (Con (Num 25)) row_1_t14))

abbrev row_1_t16 : Tree
row_1_t16 = (Lam (App (Con (Num 25)) row_1_t15))

abbrev row_1_t17 : Tree
row_1_t17 = (Lam (App (Con (Num 25)) row_1_t16))

abbrev row_1_t18 : Tree
row_1_t18 = (Lam (App (Con (Num 25)) row_1_t17))

abbrev row_1_t19 : Tree
row_1_t19 = (Lam (App (Con (Num 25)) row_1_t18))

abbrev row_1_t20 : Tree
row_1_t20 = (Lam (App (Con (Num 25)) row_1_t19))

abbrev row_1_t21 : Tree
row_1_t21 = (Lam (App (Con (Num 25)) row_1_t20))

abbrev row_1_t22 : Tree
row_1_t22 = (Lam (App (Con (Num 25)) row_1_t21))

abbrev row_1_t23 : Tree
row_1_t23 = (Lam (App (Con (Num 25)) row_1_t22))

abbrev row_1_t24 : Tree
row_1_t24 = (Lam (App (Con (Num 25)) row_1_t23))

abbrev row_1_t25 : Tree
row_1_t25 = (Lam (App (Con (Num 25)) row_1_t24))

abbrev row_1_t26 : Tree
row_1_t26 = (Lam (App (Con (Num 25)) row_1_t25))

abbrev row_1_t27 : Tree
row_1_t27 = (Lam (App (Con (Num 25)) row_1_t26))

abbrev row_1_t28 : Tree
row_1_t28 = (Lam (App (Con (Num 25)) row_1_t27))

abbrev row_1_t29 : Tree
row_1_t29 = (Lam (App (Con (Num 25)) row_1_t28))

abbrev row_1_t30 : Tree
row_1_t30 = (Lam (App (Con (Num 25)) row_1_t29))

abbrev row_1_t31 : Tree
row_1_t31 = (Lam (App (Con (Num 25)) row_1_t30))

abbrev row_1_t32 : Tree
row_1_t32 = (Lam (App (Con (Num 25)) row_1_t31))

abbrev row_1_t33 : Tree
row_1_t33 = (Lam (App (Con (Num 25)) row_1_t32))

abbrev row_1_t34 : Tree
row_1_t34 = (Lam (App (Con (Num 25)) row_1_t33))

abbrev row_1_t35 : Tree
row_1_t35 = (Lam (App (Con (Num 25)) row_1_t34))

abbrev row_1_t36 : Tree
row_1_t36 = (Lam (App (Con (Num 25)) row_1_t35))

abbrev row_1_t37 : Tree
row_1_t37 = (Lam (App (Con (Num 25)) row_1_t36))

abbrev row_1_t38 : Tree
row_1_t38 = (Lam (App (Con (Num 25)) row_1_t37))

abbrev row_1_t39 : Tree
row_1_t39 = (App (Con (Num 15)) (Var 0))

abbrev row_1_t40 : Tree
row_1_t40 = (App (Con (Num 42)) (Con (Lit 2)))

abbrev row_1_t41 : Tree
row_1_t41 = (App (Con (Num 42)) row_1_t5)

-- the parts with their proofs, or none
unfoldable pub return_rows : List (Form × Option Tree)
return_rows =
    (t0_part, Some (App (App (Con (Num 40)) (Lam (App (Con (Num 25)) t0_t34))) (Lam (App (App (Con (Num 38)) t0_t34) (Lam (App (App (Con (Num 38)) t0_t33) (Lam (App (App (Con (Num 38)) t0_t32) (Lam (App (App (Con (Num 38)) t0_t31) (Lam (App (App (Con (Num 38)) t0_t30) (Lam (App (App (Con (Num 38)) t0_t29) (Lam (App (App (Con (Num 38)) t0_t28) (Lam (App (App (Con (Num 38)) t0_t27) (Lam (App (App (Con (Num 38)) t0_t26) (Lam (App (App (Con (Num 38)) t0_t25) (Lam (App (App (Con (Num 38)) t0_t24) (Lam (App (App (Con (Num 38)) t0_t23) (Lam (App (App (Con (Num 38)) t0_t22) (Lam (App (App (Con (Num 38)) t0_t21) (Lam (App (App (Con (Num 38)) t0_t20) (Lam (App (App (Con (Num 38)) t0_t19) (Lam (App (App (Con (Num 38)) t0_t18) (Lam (App (App (Con (Num 38)) t0_t17) (Lam (App (App (Con (Num 38)) t0_t16) (Lam (App (App (Con (Num 38)) t0_t15) (Lam (App (App (Con (Num 38)) t0_t14) (Lam (App (App (Con (Num 38)) t0_t13) (Lam (App (App (Con (Num 38)) t0_t12) (Lam (App (App (Con (Num 38)) t0_t11) (Lam (App (App (Con (Num 38)) t0_t10) (Lam (App (App (Con (Num 38)) t0_t9) (Lam (App (App (Con (Num 38)) t0_t8) (Lam (App (App (Con (Num 38)) t0_t7) (Lam (App (App (Con (Num 38)) t0_t6) (Lam (App (App (Con (Num 38)) t0_t5) (Lam (App (App (Con (Num 38)) t0_t4) (Lam (App (App (App (Con (Num 35)) t0_t3) (Con (Num 13))) (Lam (Con (Num 27))))))))))))))))))))))))))))))))))))))))))))))))))))))))))))))))))))) ∷
    (row_18_part, Some (App (App (Con (Num 40)) (Lam (App (Con (Num 25)) row_18_t39))) (Lam (App (App (Con (Num 38)) row_18_t39) (Lam (App (App (Con (Num 38)) row_18_t38) (Lam (App (App (Con (Num 38)) row_18_t37) (Lam (App (App (Con (Num 38)) row_18_t36) (Lam (App (App (Con (Num 38)) row_18_t35) (Lam (App (App (Con (Num 38)) row_18_t34) (Lam (App (App (Con (Num 38)) row_18_t33) (Lam (App (App (Con (Num 38)) row_18_t32) (Lam (App (App (Con (Num 38)) row_18_t31) (Lam (App (App (Con (Num 38)) row_18_t30) (Lam (App (App (Con (Num 38)) row_18_t29) (Lam (App (App (Con (Num 38)) row_18_t28) (Lam (App (App (Con (Num 38)) row_18_t27) (Lam (App (App (Con (Num 38)) row_18_t26) (Lam (App (App (Con (Num 38)) row_18_t25) (Lam (App (App (Con (Num 38)) row_18_t24) (Lam (App (App (Con (Num 38)) row_18_t23) (Lam (App (App (Con (Num 38)) row_18_t22) (Lam (App (App (Con (Num 38)) row_18_t21) (Lam (App (App (Con (Num 38)) row_18_t20) (Lam (App (App (Con (Num 38)) row_18_t19) (Lam (App (App (Con (Num 38)) row_18_t18) (Lam (App (App (Con (Num 38)) row_18_t17) (Lam (App (App (Con (Num 38)) row_18_t16) (Lam (App (App (Con (Num 38)) row_18_t15) (Lam (App (App (Con (Num 38)) row_18_t14) (Lam (App (App (Con (Num 38)) row_18_t13) (Lam (App (App (Con (Num 38)) row_18_t12) (Lam (App (App (Con (Num 38)) row_18_t11) (Lam (App (App (Con (Num 38)) row_18_t10) (Lam (App (App (Con (Num 38)) row_18_t9) (Lam (App (App (App (Con (Num 35)) row_18_t7) row_18_t8) (Lam (App (App (App (App (Con (Num 29)) row_18_t42) (App (App (Con (Num 22)) row_18_t45) row_18_t51)) (App (App (App (Con (Num 30)) row_18_t42) (App (App (Con (Num 22)) (App (Con (Num 20)) row_18_t48)) (App row_18_t47 row_18_t49))) (Var 0))) (App (App (App (App (Con (Num 29)) row_18_t45) row_18_t51) (App (App (App (Con (Num 35)) row_18_t43) (Con (Num 13))) (Lam (Con (Num 27))))) (App (App (App (Con (Num 35)) row_18_t46) row_18_t50) (Lam (App (App (App (App (Con (Num 29)) row_18_t54) (Con (Num 13))) (App (App (App (App (App (Con (Num 43)) (Lam (App (Con (Num 21)) (Var 0)))) row_18_t53) row_18_t53) (App (App (App (App (App (Con (Num 43)) (Lam (App (App (Con (Num 15)) row_18_t55) (Var 0)))) row_18_t53) row_18_t53) (App (App (App (App (App (Con (Num 43)) (Lam (App (App (Con (Num 15)) (Var 0)) row_18_t55))) row_18_t53) row_18_t53) row_18_t56) row_18_t56)) row_18_t56)) (App (App (App (App (Con (Num 36)) row_18_t58) row_18_t54) (App (App (App (Con (Num 31)) row_18_t59) row_18_t60) (App (App (App (Con (Num 31)) (App (Con (Num 20)) row_18_t57)) (App (App (Con (Num 22)) row_18_t59) row_18_t60)) (Var 1)))) (Var 0)))) (Con (Num 27)))))))))))))))))))))))))))))))))))))))))))))))))))))))))))))))))))))))))) ∷
    (row_1_part, Some (App (App (Con (Num 40)) (Lam (App (Con (Num 25)) row_1_t38))) (Lam (App (App (Con (Num 38)) row_1_t38) (Lam (App (App (Con (Num 38)) row_1_t37) (Lam (App (App (Con (Num 38)) row_1_t36) (Lam (App (App (Con (Num 38)) row_1_t35) (Lam (App (App (Con (Num 38)) row_1_t34) (Lam (App (App (Con (Num 38)) row_1_t33) (Lam (App (App (Con (Num 38)) row_1_t32) (Lam (App (App (Con (Num 38)) row_1_t31) (Lam (App (App (Con (Num 38)) row_1_t30) (Lam (App (App (Con (Num 38)) row_1_t29) (Lam (App (App (Con (Num 38)) row_1_t28) (Lam (App (App (Con (Num 38)) row_1_t27) (Lam (App (App (Con (Num 38)) row_1_t26) (Lam (App (App (Con (Num 38)) row_1_t25) (Lam (App (App (Con (Num 38)) row_1_t24) (Lam (App (App (Con (Num 38)) row_1_t23) (Lam (App (App (Con (Num 38)) row_1_t22) (Lam (App (App (Con (Num 38)) row_1_t21) (Lam (App (App (Con (Num 38)) row_1_t20) (Lam (App (App (Con (Num 38)) row_1_t19) (Lam (App (App (Con (Num 38)) row_1_t18) (Lam (App (App (Con (Num 38)) row_1_t17) (Lam (App (App (Con (Num 38)) row_1_t16) (Lam (App (App (Con (Num 38)) row_1_t15) (Lam (App (App (Con (Num 38)) row_1_t14) (Lam (App (App (Con (Num 38)) row_1_t13) (Lam (App (App (Con (Num 38)) row_1_t12) (Lam (App (App (Con (Num 38)) row_1_t11) (Lam (App (App (Con (Num 38)) row_1_t10) (Lam (App (App (Con (Num 38)) row_1_t9) (Lam (App (App (Con (Num 38)) row_1_t8) (Lam (App (App (App (Con (Num 35)) row_1_t4) row_1_t7) (Lam (App (App (App (App (App (Con (Num 43)) (Lam (App row_1_t6 (Var 0)))) (Con (Lit 2))) (Con (Lit 2))) (App (App (App (App (App (Con (Num 43)) (Lam (App row_1_t39 (Con (Lit 2))))) (Con (Lit 2))) (Con (Lit 2))) row_1_t40) row_1_t40)) (App (App (App (App (App (Con (Num 43)) (Lam (App row_1_t0 (Con (Lit 2))))) (Con (Lit 1))) row_1_t5) (App (App (App (App (App (Con (Num 43)) (Lam (App row_1_t39 row_1_t5))) row_1_t5) (Con (Lit 1))) (App (App (App (App (App (Con (Num 43)) (Lam (App (App (Con (Num 15)) row_1_t5) (Var 0)))) row_1_t5) (Con (Lit 1))) (Con (Calc 0 0 1))) row_1_t41)) row_1_t41)) (Con (Fact 1 1 2))))))))))))))))))))))))))))))))))))))))))))))))))))))))))))))))))))))) ∷
    []
