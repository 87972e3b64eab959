-- Parts of conditions of code that loads and loops, with the proofs that an independent implementation gives them.
use Rattle.std.specs.Prelude.{Option, Some, None, List, [], ◌∷◌}
use Rattle.term_table.specs.Tree.{Tree, Var, Con, App, Lam, Num, Lit, Calc, Fact}
use Rattle.word_ops.specs.declared.Op.TheVariants.{Add, Band, Sll, Cmpult}
use Rattle.word_ops.specs.declared.Rel.TheVariants.{Eq, Ult, Ule}
use Rattle.formula_tree.specs.Formulas.{EVar, ELit, EOp, ESel, MVar, Form, FTrue, FFalse, FRel, FRd, FWr, FAnd, FImp, FAll, FAllm}

-- a part of a condition
unfoldable pub row_6_part : Form
row_6_part = (FAllm (FAll (FAll (FAll (FAll (FAll (FAll (FAll (FAll (FAll (FAll (FAll (FAll (FAll (FAll (FAll (FAll (FAll (FAll (FAll (FAll (FAll (FAll (FAll (FAll (FAll (FAll (FAll (FAll (FAll (FAll (FAll (FImp (FAnd (FRel Ule (ELit 64) (EVar 13)) (FAnd (FAll (FImp (FAnd (FRel Ult (EVar 0) (EVar 14)) (FRel Eq (EOp Band (EVar 0) (ELit 7)) (ELit 0))) (FRd (EOp Add (EVar 15) (EVar 0))))) (FAnd (FAll (FImp (FAnd (FRel Ult (EVar 0) (ELit 16)) (FRel Eq (EOp Band (EVar 0) (ELit 7)) (ELit 0))) (FAnd (FRd (EOp Add (EVar 13) (EVar 0))) (FWr (EOp Add (EVar 13) (EVar 0)))))) (FAll (FAll (FImp (FAnd (FAnd (FRel Ult (EVar 1) (EVar 15)) (FRel Eq (EOp Band (EVar 1) (ELit 7)) (ELit 0))) (FAnd (FRel Ult (EVar 0) (ELit 16)) (FRel Eq (EOp Band (EVar 0) (ELit 7)) (ELit 0)))) (FImp (FRel Eq (EOp Add (EVar 16) (EVar 1)) (EOp Add (EVar 14) (EVar 0))) FFalse))))))) (FAnd (FRd (EOp Add (EOp Add (EVar 14) (ELit 0)) (ELit 0))) (FRel Ult (EOp Add (ELit 0) (ELit 1)) (ELit 2))))))))))))))))))))))))))))))))))))

abbrev row_6_t0 : Tree
row_6_t0 = (App (Con (Num 17)) (Con (Lit 64)))

abbrev row_6_t1 : Tree
row_6_t1 = (App (Con (Num 16)) (Var 0))

abbrev row_6_t2 : Tree
row_6_t2 = (App (App (Con (Num 15)) (App (App (Con (Num 2)) (Var 0)) (Con (Lit 7)))) (Con (Lit 0)))

abbrev row_6_t3 : Tree
row_6_t3 = (App (Con (Num 0)) (Var 15))

abbrev row_6_t4 : Tree
row_6_t4 = (App row_6_t3 (Var 0))

abbrev row_6_t5 : Tree
row_6_t5 = (App (App (Con (Num 22)) (App row_6_t1 (Con (Lit 16)))) row_6_t2)

abbrev row_6_t6 : Tree
row_6_t6 = (App (Con (Num 24)) row_6_t5)

abbrev row_6_t7 : Tree
row_6_t7 = (App (App (Con (Num 0)) (Var 13)) (Var 0))

abbrev row_6_t8 : Tree
row_6_t8 = (App (Con (Num 16)) (Var 1))

abbrev row_6_t9 : Tree
row_6_t9 = (App (App (Con (Num 15)) (App (App (Con (Num 2)) (Var 1)) (Con (Lit 7)))) (Con (Lit 0)))

abbrev row_6_t10 : Tree
row_6_t10 = (App (Con (Num 0)) (Var 16))

abbrev row_6_t11 : Tree
row_6_t11 = (App (Con (Num 0)) (Var 14))

abbrev row_6_t12 : Tree
row_6_t12 = (App row_6_t11 (Var 0))

abbrev row_6_t13 : Tree
row_6_t13 = (App (App (Con (Num 22)) (App row_6_t0 (Var 13))) (App (App (Con (Num 22)) (App (Con (Num 25)) (Lam (App (App (Con (Num 24)) (App (App (Con (Num 22)) (App row_6_t1 (Var 14))) row_6_t2)) (App (Con (Num 20)) row_6_t4))))) (App (App (Con (Num 22)) (App (Con (Num 25)) (Lam (App row_6_t6 (App (App (Con (Num 22)) (App (Con (Num 20)) row_6_t7)) (App (Con (Num 21)) row_6_t7)))))) (App (Con (Num 25)) (Lam (App (Con (Num 25)) (Lam (App (App (Con (Num 24)) (App (App (Con (Num 22)) (App (App (Con (Num 22)) (App row_6_t8 (Var 15))) row_6_t9)) row_6_t5)) (App (App (Con (Num 24)) (App (App (Con (Num 15)) (App row_6_t10 (Var 1))) row_6_t12)) (Con (Num 14)))))))))))

abbrev row_6_t14 : Tree
row_6_t14 = (App (App (Con (Num 0)) (Con (Lit 0))) (Con (Lit 1)))

abbrev row_6_t15 : Tree
row_6_t15 = (App (Con (Num 16)) row_6_t14)

abbrev row_6_t16 : Tree
row_6_t16 = (App row_6_t15 (Con (Lit 2)))

abbrev row_6_t17 : Tree
row_6_t17 = (App (App (Con (Num 22)) (App (Con (Num 20)) (App (App (Con (Num 0)) (App row_6_t11 (Con (Lit 0)))) (Con (Lit 0))))) row_6_t16)

abbrev row_6_t18 : Tree
row_6_t18 = (Lam (App (App (Con (Num 24)) row_6_t13) row_6_t17))

abbrev row_6_t19 : Tree
row_6_t19 = (Lam (App (Con (Num 25)) row_6_t18))

abbrev row_6_t20 : Tree
row_6_t20 = (Lam (App (Con (Num 25)) row_6_t19))

abbrev row_6_t21 : Tree
row_6_t21 = (Lam (App (Con (Num 25)) row_6_t20))

abbrev row_6_t22 : Tree
row_6_t22 = (Lam (App (Con (Num 25)) row_6_t21))

abbrev row_6_t23 : Tree
row_6_t23 = (Lam (App (Con (Num 25)) row_6_t22))

abbrev row_6_t24 : Tree
row_6_t24 = (Lam (App (Con (Num 25)) row_6_t23))

abbrev row_6_t25 : Tree
row_6_t25 = (Lam (App (Con (Num 25)) row_6_t24))

abbrev row_6_t26 : Tree
row_6_t26 = (Lam (App (Con (Num 25)) row_6_t25))

abbrev row_6_t27 : Tree
row_6_t27 = (Lam (App (Con (Num 25)) row_6_t26))

abbrev row_6_t28 : Tree
row_6_t28 = (Lam (App (Con (Num 25)) row_6_t27))

abbrev row_6_t29 : Tree
row_6_t29 = (Lam (App (Con (Num 25)) row_6_t28))

abbrev row_6_t30 : Tree
row_6_t30 = (Lam (App (Con (Num 25)) row_6_t29))

abbrev row_6_t31 : Tree
row_6_t31 = (Lam (App (Con (Num 25)) row_6_t30))

abbrev row_6_t32 : Tree
row_6_t32 = (Lam (App (Con (Num 25)) row_6_t31))

abbrev row_6_t33 : Tree
row_6_t33 = (Lam (App (Con (Num 25)) row_6_t32))

abbrev row_6_t34 : Tree
row_6_t34 = (Lam (App (Con (Num 25)) row_6_t33))

abbrev row_6_t35 : Tree
row_6_t35 = (Lam (App (Con (Num 25)) row_6_t34))

abbrev row_6_t36 : Tree
row_6_t36 = (Lam (App (Con (Num 25)) row_6_t35))

abbrev row_6_t37 : Tree
row_6_t37 = (Lam (App (Con (Num 25)) row_6_t36))

abbrev row_6_t38 : Tree
row_6_t38 = (Lam (App (Con (Num 25)) row_6_t37))

abbrev row_6_t39 : Tree
row_6_t39 = (Lam (App (Con (Num 25)) row_6_t38))

abbrev row_6_t40 : Tree
row_6_t40 = (Lam (App (Con (Num 25)) row_6_t39))

abbrev row_6_t41 : Tree
row_6_t41 = (Lam (App (Con (Num 25)) row_6_t40))

abbrev row_6_t42 : Tree
row_6_t42 = (Lam (App (Con (Num 25)) row_6_t41))

abbrev row_6_t43 : Tree
row_6_t43 = (Lam (App (Con (Num 25)) row_6_t42))

abbrev row_6_t44 : Tree
row_6_t44 = (Lam (App (Con (Num 25)) row_6_t43))

abbrev row_6_t45 : Tree
row_6_t45 = (Lam (App (Con (Num 25)) row_6_t44))

abbrev row_6_t46 : Tree
row_6_t46 = (Lam (App (Con (Num 25)) row_6_t45))

abbrev row_6_t47 : Tree
row_6_t47 = (Lam (App (Con (Num 25)) row_6_t46))

abbrev row_6_t48 : Tree
row_6_t48 = (Lam (App (Con (Num 25)) row_6_t47))

abbrev row_6_t49 : Tree
row_6_t49 = (App row_6_t3 (Con (Lit 0)))

abbrev row_6_t50 : Tree
row_6_t50 = (App (App (Con (Num 0)) row_6_t49) (Con (Lit 0)))

abbrev row_6_t51 : Tree
row_6_t51 = (App row_6_t10 (Con (Lit 0)))

abbrev row_6_t52 : Tree
row_6_t52 = (App (Con (Num 43)) (Lam (App (App (Con (Num 15)) row_6_t51) (Var 0))))

abbrev row_6_t53 : Tree
row_6_t53 = (App (Con (Num 15)) (Var 0))

abbrev row_6_t54 : Tree
row_6_t54 = (App (App (Con (Num 0)) row_6_t51) (Con (Lit 0)))

abbrev row_6_t55 : Tree
row_6_t55 = (App (Con (Num 15)) row_6_t54)

abbrev row_6_t56 : Tree
row_6_t56 = (App (Con (Num 48)) (Var 15))

abbrev row_6_t57 : Tree
row_6_t57 = (App (Con (Num 42)) row_6_t50)

abbrev row_6_t58 : Tree
row_6_t58 = (App (App (Con (Num 16)) (Con (Lit 0))) (Var 14))

abbrev row_6_t59 : Tree
row_6_t59 = (App (App (Con (Num 15)) (App (App (Con (Num 2)) (Con (Lit 0))) (Con (Lit 7)))) (Con (Lit 0)))

abbrev row_6_t60 : Tree
row_6_t60 = (Lam (App (App (Con (Num 24)) (App (App (Con (Num 22)) (App row_6_t1 (Var 15))) row_6_t2)) (App (Con (Num 20)) (App row_6_t10 (Var 0)))))

abbrev row_6_t61 : Tree
row_6_t61 = (App (Con (Num 25)) row_6_t60)

abbrev row_6_t62 : Tree
row_6_t62 = (App (App (Con (Num 22)) (App (Con (Num 25)) (Lam (App row_6_t6 (App (App (Con (Num 22)) (App (Con (Num 20)) row_6_t12)) (App (Con (Num 21)) row_6_t12)))))) (App (Con (Num 25)) (Lam (App (Con (Num 25)) (Lam (App (App (Con (Num 24)) (App (App (Con (Num 22)) (App (App (Con (Num 22)) (App row_6_t8 (Var 16))) row_6_t9)) row_6_t5)) (App (App (Con (Num 24)) (App (App (Con (Num 15)) (App (App (Con (Num 0)) (Var 17)) (Var 1))) row_6_t4)) (Con (Num 14)))))))))

abbrev row_6_t63 : Tree
row_6_t63 = (App row_6_t0 (Var 14))

abbrev row_6_t64 : Tree
row_6_t64 = (App (App (Con (Num 22)) row_6_t61) row_6_t62)

abbrev row_6_t65 : Tree
row_6_t65 = (App (Con (Num 42)) (Con (Lit 2)))

abbrev row_6_t66 : Tree
row_6_t66 = (App (Con (Num 42)) row_6_t14)

-- a part of a condition
unfoldable pub row_5_part : Form
row_5_part = (FAllm (FAll (FAll (FAll (FAll (FAll (FAll (FAll (FAll (FAll (FAll (FAll (FAll (FAll (FAll (FAll (FAll (FAll (FAll (FAll (FAll (FAll (FAll (FAll (FAll (FAll (FAll (FAll (FAll (FAll (FAll (FAll (FImp (FAnd (FRel Ule (ELit 64) (EVar 13)) (FAnd (FAll (FImp (FAnd (FRel Ult (EVar 0) (EVar 14)) (FRel Eq (EOp Band (EVar 0) (ELit 7)) (ELit 0))) (FRd (EOp Add (EVar 15) (EVar 0))))) (FAnd (FAll (FImp (FAnd (FRel Ult (EVar 0) (ELit 16)) (FRel Eq (EOp Band (EVar 0) (ELit 7)) (ELit 0))) (FAnd (FRd (EOp Add (EVar 13) (EVar 0))) (FWr (EOp Add (EVar 13) (EVar 0)))))) (FAll (FAll (FImp (FAnd (FAnd (FRel Ult (EVar 1) (EVar 15)) (FRel Eq (EOp Band (EVar 1) (ELit 7)) (ELit 0))) (FAnd (FRel Ult (EVar 0) (ELit 16)) (FRel Eq (EOp Band (EVar 0) (ELit 7)) (ELit 0)))) (FImp (FRel Eq (EOp Add (EVar 16) (EVar 1)) (EOp Add (EVar 14) (EVar 0))) FFalse))))))) (FAnd (FRd (EOp Add (EVar 14) (ELit 64))) (FRel Ult (EOp Add (ELit 0) (ELit 1)) (ELit 2))))))))))))))))))))))))))))))))))))

-- a part of a condition
unfoldable pub row_19_0_part : Form
row_19_0_part = (FAllm (FAll (FAll (FAll (FAll (FAll (FAll (FAll (FAll (FAll (FAll (FAll (FAll (FAll (FAll (FAll (FAll (FAll (FAll (FAll (FAll (FAll (FAll (FAll (FAll (FAll (FAll (FAll (FAll (FAll (FAll (FAll (FImp (FAnd (FRel Ult (EVar 13) (ELit 65536)) (FAll (FImp (FRel Ult (EVar 0) (EVar 14)) (FAnd (FRd (EOp Add (EVar 15) (EOp Sll (EVar 0) (ELit 3)))) (FWr (EOp Add (EVar 15) (EOp Sll (EVar 0) (ELit 3)))))))) (FAll (FImp (FRel Ult (EVar 0) (EVar 14)) (FAnd (FRd (EOp Add (EVar 15) (EOp Sll (EVar 0) (ELit 3)))) (FWr (EOp Add (EVar 15) (EOp Sll (EVar 0) (ELit 3))))))))))))))))))))))))))))))))))))))))

abbrev row_19_0_t0 : Tree
row_19_0_t0 = (App (Con (Num 16)) (Var 0))

abbrev row_19_0_t1 : Tree
row_19_0_t1 = (App (App (Con (Num 4)) (Var 0)) (Con (Lit 3)))

abbrev row_19_0_t2 : Tree
row_19_0_t2 = (App (App (Con (Num 0)) (Var 15)) row_19_0_t1)

abbrev row_19_0_t3 : Tree
row_19_0_t3 = (App (Con (Num 25)) (Lam (App (App (Con (Num 24)) (App row_19_0_t0 (Var 14))) (App (App (Con (Num 22)) (App (Con (Num 20)) row_19_0_t2)) (App (Con (Num 21)) row_19_0_t2)))))

abbrev row_19_0_t4 : Tree
row_19_0_t4 = (App (App (Con (Num 22)) (App (App (Con (Num 16)) (Var 13)) (Con (Lit 65536)))) row_19_0_t3)

abbrev row_19_0_t5 : Tree
row_19_0_t5 = (Lam (App (App (Con (Num 24)) row_19_0_t4) row_19_0_t3))

abbrev row_19_0_t6 : Tree
row_19_0_t6 = (Lam (App (Con (Num 25)) row_19_0_t5))

abbrev row_19_0_t7 : Tree
row_19_0_t7 = (Lam (App (Con (Num 25)) row_19_0_t6))

abbrev row_19_0_t8 : Tree
row_19_0_t8 = (Lam (App (Con (Num 25)) row_19_0_t7))

abbrev row_19_0_t9 : Tree
row_19_0_t9 = (Lam (App (Con (Num 25)) row_19_0_t8))

abbrev row_19_0_t10 : Tree
row_19_0_t10 = (Lam (App (Con (Num 25)) row_19_0_t9))

abbrev row_19_0_t11 : Tree
row_19_0_t11 = (Lam (App (Con (Num 25)) row_19_0_t10))

abbrev row_19_0_t12 : Tree
row_19_0_t12 = (Lam (App (Con (Num 25)) row_19_0_t11))

abbrev row_19_0_t13 : Tree
row_19_0_t13 = (Lam (App (Con (Num 25)) row_19_0_t12))

abbrev row_19_0_t14 : Tree
row_19_0_t14 = (Lam (App (Con (Num 25)) row_19_0_t13))

abbrev row_19_0_t15 : Tree
row_19_0_t15 = (Lam (App (Con (Num 25)) row_19_0_t14))

abbrev row_19_0_t16 : Tree
row_19_0_t16 = (Lam (App (Con (Num 25)) row_19_0_t15))

abbrev row_19_0_t17 : Tree
row_19_0_t17 = (Lam (App (Con (Num 25)) row_19_0_t16))

abbrev row_19_0_t18 : Tree
row_19_0_t18 = (Lam (App (Con (Num 25)) row_19_0_t17))

abbrev row_19_0_t19 : Tree
row_19_0_t19 = (Lam (App (Con (Num 25)) row_19_0_t18))

abbrev row_19_0_t20 : Tree
row_19_0_t20 = (Lam (App (Con (Num 25)) row_19_0_t19))

abbrev row_19_0_t21 : Tree
row_19_0_t21 = (Lam (App (Con (Num 25)) row_19_0_t20))

abbrev row_19_0_t22 : Tree
row_19_0_t22 = (Lam (App (Con (Num 25)) row_19_0_t21))

abbrev row_19_0_t23 : Tree
row_19_0_t23 = (Lam (App (Con (Num 25)) row_19_0_t22))

abbrev row_19_0_t24 : Tree
row_19_0_t24 = (Lam (App (Con (Num 25)) row_19_0_t23))

abbrev row_19_0_t25 : Tree
row_19_0_t25 = (Lam (App (Con (Num 25)) row_19_0_t24))

abbrev row_19_0_t26 : Tree
row_19_0_t26 = (Lam (App (Con (Num 25)) row_19_0_t25))

abbrev row_19_0_t27 : Tree
row_19_0_t27 = (Lam (App (Con (Num 25)) row_19_0_t26))

abbrev row_19_0_t28 : Tree
row_19_0_t28 = (Lam (App (Con (Num 25)) row_19_0_t27))

abbrev row_19_0_t29 : Tree
row_19_0_t29 = (Lam (App (Con (Num 25)) row_19_0_t28))

abbrev row_19_0_t30 : Tree
row_19_0_t30 = (Lam (App (Con (Num 25)) row_19_0_t29))

abbrev row_19_0_t31 : Tree
row_19_0_t31 = (Lam (App (Con (Num 25)) row_19_0_t30))

abbrev row_19_0_t32 : Tree
row_19_0_t32 = (Lam (App (Con (Num 25)) row_19_0_t31))

abbrev row_19_0_t33 : Tree
row_19_0_t33 = (Lam (App (Con (Num 25)) row_19_0_t32))

abbrev row_19_0_t34 : Tree
row_19_0_t34 = (Lam (App (Con (Num 25)) row_19_0_t33))

abbrev row_19_0_t35 : Tree
row_19_0_t35 = (Lam (App (Con (Num 25)) row_19_0_t34))

abbrev row_19_0_t36 : Tree
row_19_0_t36 = (App (App (Con (Num 0)) (Var 16)) row_19_0_t1)

-- a part of a condition
unfoldable pub row_19_1_part : Form
row_19_1_part = (FAllm (FAll (FAll (FAll (FAll (FAll (FAll (FAll (FAll (FAll (FAll (FAll (FAll (FAll (FAll (FAll (FAll (FAll (FAll (FAll (FAll (FAll (FAll (FAll (FAll (FAll (FAll (FAll (FAll (FAll (FAll (FAll (FImp (FAll (FImp (FRel Ult (EVar 0) (EVar 14)) (FAnd (FRd (EOp Add (EVar 15) (EOp Sll (EVar 0) (ELit 3)))) (FWr (EOp Add (EVar 15) (EOp Sll (EVar 0) (ELit 3))))))) (FAnd (FImp (FRel Eq (EOp Cmpult (EVar 26) (EVar 13)) (ELit 0)) FTrue) (FImp (FImp (FRel Eq (EOp Cmpult (EVar 26) (EVar 13)) (ELit 0)) FFalse) (FAnd (FRd (EOp Add (EOp Add (EVar 14) (EOp Sll (EVar 26) (ELit 3))) (ELit 0))) (FAll (FImp (FRel Ult (EVar 0) (EVar 14)) (FAnd (FRd (EOp Add (EVar 15) (EOp Sll (EVar 0) (ELit 3)))) (FWr (EOp Add (EVar 15) (EOp Sll (EVar 0) (ELit 3)))))))))))))))))))))))))))))))))))))))))))

abbrev row_19_1_t0 : Tree
row_19_1_t0 = (App (Con (Num 16)) (Var 0))

abbrev row_19_1_t1 : Tree
row_19_1_t1 = (App (Con (Num 0)) (Var 15))

abbrev row_19_1_t2 : Tree
row_19_1_t2 = (App (App (Con (Num 4)) (Var 0)) (Con (Lit 3)))

abbrev row_19_1_t3 : Tree
row_19_1_t3 = (App (Con (Num 25)) (Lam (App (App (Con (Num 24)) (App row_19_1_t0 (Var 14))) (App (App (Con (Num 22)) (App (Con (Num 20)) (App row_19_1_t1 row_19_1_t2))) (App (Con (Num 21)) (App row_19_1_t1 row_19_1_t2))))))

abbrev row_19_1_t4 : Tree
row_19_1_t4 = (App (Con (Num 24)) (App (App (Con (Num 15)) (App (App (Con (Num 9)) (Var 26)) (Var 13))) (Con (Lit 0))))

abbrev row_19_1_t5 : Tree
row_19_1_t5 = (App (App (Con (Num 22)) (App row_19_1_t4 (Con (Num 13)))) (App (App (Con (Num 24)) (App row_19_1_t4 (Con (Num 14)))) (App (App (Con (Num 22)) (App (Con (Num 20)) (App (App (Con (Num 0)) (App (App (Con (Num 0)) (Var 14)) (App (App (Con (Num 4)) (Var 26)) (Con (Lit 3))))) (Con (Lit 0))))) row_19_1_t3)))

abbrev row_19_1_t6 : Tree
row_19_1_t6 = (Lam (App (App (Con (Num 24)) row_19_1_t3) row_19_1_t5))

abbrev row_19_1_t7 : Tree
row_19_1_t7 = (Lam (App (Con (Num 25)) row_19_1_t6))

abbrev row_19_1_t8 : Tree
row_19_1_t8 = (Lam (App (Con (Num 25)) row_19_1_t7))

abbrev row_19_1_t9 : Tree
row_19_1_t9 = (Lam (App (Con (Num 25)) row_19_1_t8))

abbrev row_19_1_t10 : Tree
row_19_1_t10 = (Lam (App (Con (Num 25)) row_19_1_t9))

abbrev row_19_1_t11 : Tree
row_19_1_t11 = (Lam (App (Con (Num 25)) row_19_1_t10))

abbrev row_19_1_t12 : Tree
row_19_1_t12 = (Lam (App (Con (Num 25)) row_19_1_t11))

abbrev row_19_1_t13 : Tree
row_19_1_t13 = (Lam (App (Con (Num 25)) row_19_1_t12))

abbrev row_19_1_t14 : Tree
row_19_1_t14 = (Lam (App (Con (Num 25)) row_19_1_t13))

abbrev row_19_1_t15 : Tree
row_19_1_t15 = (Lam (App (Con (Num 25)) row_19_1_t14))

abbrev row_19_1_t16 : Tree
row_19_1_t16 = (Lam (App (Con (Num 25)) row_19_1_t15))

abbrev row_19_1_t17 : Tree
row_19_1_t17 = (Lam (App (Con (Num 25)) row_19_1_t16))

abbrev row_19_1_t18 : Tree
row_19_1_t18 = (Lam (App (Con (Num 25)) row_19_1_t17))

abbrev row_19_1_t19 : Tree
row_19_1_t19 = (Lam (App (Con (Num 25)) row_19_1_t18))

abbrev row_19_1_t20 : Tree
row_19_1_t20 = (Lam (App (Con (Num 25)) row_19_1_t19))

abbrev row_19_1_t21 : Tree
row_19_1_t21 = (Lam (App (Con (Num 25)) row_19_1_t20))

abbrev row_19_1_t22 : Tree
row_19_1_t22 = (Lam (App (Con (Num 25)) row_19_1_t21))

abbrev row_19_1_t23 : Tree
row_19_1_t23 = (Lam (App (Con (Num 25)) row_19_1_t22))

abbrev row_19_1_t24 : Tree
row_19_1_t24 = (Lam (App (Con (Num 25)) row_19_1_t23))

abbrev row_19_1_t25 : Tree
row_19_1_t25 = (Lam (App (Con (Num 25)) row_19_1_t24))

abbrev row_19_1_t26 : Tree
row_19_1_t26 = (Lam (App (Con (Num 25)) row_19_1_t25))

abbrev row_19_1_t27 : Tree
row_19_1_t27 = (Lam (App (Con (Num 25)) row_19_1_t26))

abbrev row_19_1_t28 : Tree
row_19_1_t28 = (Lam (App (Con (Num 25)) row_19_1_t27))

abbrev row_19_1_t29 : Tree
row_19_1_t29 = (Lam (App (Con (Num 25)) row_19_1_t28))

abbrev row_19_1_t30 : Tree
row_19_1_t30 = (Lam (App (Con (Num 25)) row_19_1_t29))

abbrev row_19_1_t31 : Tree
row_19_1_t31 = (Lam (App (Con (Num 25)) row_19_1_t30))

abbrev row_19_1_t32 : Tree
row_19_1_t32 = (Lam (App (Con (Num 25)) row_19_1_t31))

abbrev row_19_1_t33 : Tree
row_19_1_t33 = (Lam (App (Con (Num 25)) row_19_1_t32))

abbrev row_19_1_t34 : Tree
row_19_1_t34 = (Lam (App (Con (Num 25)) row_19_1_t33))

abbrev row_19_1_t35 : Tree
row_19_1_t35 = (Lam (App (Con (Num 25)) row_19_1_t34))

abbrev row_19_1_t36 : Tree
row_19_1_t36 = (Lam (App (Con (Num 25)) row_19_1_t35))

abbrev row_19_1_t37 : Tree
row_19_1_t37 = (App (App (Con (Num 15)) (App (App (Con (Num 9)) (Var 27)) (Var 14))) (Con (Lit 0)))

abbrev row_19_1_t38 : Tree
row_19_1_t38 = (App (Con (Num 24)) row_19_1_t37)

abbrev row_19_1_t39 : Tree
row_19_1_t39 = (App row_19_1_t38 (Con (Num 14)))

abbrev row_19_1_t40 : Tree
row_19_1_t40 = (App (Con (Num 0)) (Var 16))

abbrev row_19_1_t41 : Tree
row_19_1_t41 = (App (App (Con (Num 22)) (App (Con (Num 20)) (App (App (Con (Num 0)) (App row_19_1_t1 (App (App (Con (Num 4)) (Var 27)) (Con (Lit 3))))) (Con (Lit 0))))) (App (Con (Num 25)) (Lam (App (App (Con (Num 24)) (App row_19_1_t0 (Var 15))) (App (App (Con (Num 22)) (App (Con (Num 20)) (App row_19_1_t40 row_19_1_t2))) (App (Con (Num 21)) (App row_19_1_t40 row_19_1_t2)))))))

abbrev row_19_1_t42 : Tree
row_19_1_t42 = (App row_19_1_t40 (App (App (Con (Num 4)) (Var 28)) (Con (Lit 3))))

abbrev row_19_1_t43 : Tree
row_19_1_t43 = (App (App (Con (Num 0)) row_19_1_t42) (Con (Lit 0)))

abbrev row_19_1_t44 : Tree
row_19_1_t44 = (App (Con (Num 0)) (Var 17))

abbrev row_19_1_t45 : Tree
row_19_1_t45 = (Lam (App (App (Con (Num 24)) (App row_19_1_t0 (Var 16))) (App (App (Con (Num 22)) (App (Con (Num 20)) (App row_19_1_t44 row_19_1_t2))) (App (Con (Num 21)) (App row_19_1_t44 row_19_1_t2)))))

abbrev row_19_1_t46 : Tree
row_19_1_t46 = (App row_19_1_t44 (App (App (Con (Num 4)) (Var 29)) (Con (Lit 3))))

abbrev row_19_1_t47 : Tree
row_19_1_t47 = (App (App (Con (Num 0)) row_19_1_t46) (Con (Lit 0)))

abbrev row_19_1_t48 : Tree
row_19_1_t48 = (App (Con (Num 42)) row_19_1_t43)

abbrev row_19_1_t49 : Tree
row_19_1_t49 = (App (Con (Num 20)) row_19_1_t42)

abbrev row_19_1_t50 : Tree
row_19_1_t50 = (App (Con (Num 21)) row_19_1_t42)

-- a part of a condition
unfoldable pub row_21_part : Form
row_21_part = (FAllm (FAll (FAll (FAll (FAll (FAll (FAll (FAll (FAll (FAll (FAll (FAll (FAll (FAll (FAll (FAll (FAll (FAll (FAll (FAll (FAll (FAll (FAll (FAll (FAll (FAll (FAll (FAll (FAll (FAll (FAll (FAll (FImp (FAnd (FRel Ule (ELit 64) (EVar 13)) (FAnd (FAll (FImp (FAnd (FRel Ult (EVar 0) (EVar 14)) (FRel Eq (EOp Band (EVar 0) (ELit 7)) (ELit 0))) (FRd (EOp Add (EVar 15) (EVar 0))))) (FAnd (FAll (FImp (FAnd (FRel Ult (EVar 0) (ELit 16)) (FRel Eq (EOp Band (EVar 0) (ELit 7)) (ELit 0))) (FAnd (FRd (EOp Add (EVar 13) (EVar 0))) (FWr (EOp Add (EVar 13) (EVar 0)))))) (FAll (FAll (FImp (FAnd (FAnd (FRel Ult (EVar 1) (EVar 15)) (FRel Eq (EOp Band (EVar 1) (ELit 7)) (ELit 0))) (FAnd (FRel Ult (EVar 0) (ELit 16)) (FRel Eq (EOp Band (EVar 0) (ELit 7)) (ELit 0)))) (FImp (FRel Eq (EOp Add (EVar 16) (EVar 1)) (EOp Add (EVar 14) (EVar 0))) FFalse))))))) (FAnd (FRd (EOp Add (EVar 12) (ELit 0))) (FAnd (FWr (EOp Add (EVar 12) (ELit 0))) (FRel Ult (EOp Band (ESel (MVar 31) (EOp Add (EVar 12) (ELit 0))) (ELit 1)) (ELit 2)))))))))))))))))))))))))))))))))))))

abbrev row_21_t0 : Tree
row_21_t0 = (App (Con (Num 17)) (Con (Lit 64)))

abbrev row_21_t1 : Tree
row_21_t1 = (App (Con (Num 16)) (Var 0))

abbrev row_21_t2 : Tree
row_21_t2 = (App (App (Con (Num 15)) (App (App (Con (Num 2)) (Var 0)) (Con (Lit 7)))) (Con (Lit 0)))

abbrev row_21_t3 : Tree
row_21_t3 = (App (App (Con (Num 0)) (Var 15)) (Var 0))

abbrev row_21_t4 : Tree
row_21_t4 = (App row_21_t1 (Con (Lit 16)))

abbrev row_21_t5 : Tree
row_21_t5 = (App (App (Con (Num 22)) row_21_t4) row_21_t2)

abbrev row_21_t6 : Tree
row_21_t6 = (App (Con (Num 24)) row_21_t5)

abbrev row_21_t7 : Tree
row_21_t7 = (App (Con (Num 0)) (Var 13))

abbrev row_21_t8 : Tree
row_21_t8 = (App row_21_t7 (Var 0))

abbrev row_21_t9 : Tree
row_21_t9 = (App (Con (Num 16)) (Var 1))

abbrev row_21_t10 : Tree
row_21_t10 = (App (App (Con (Num 15)) (App (App (Con (Num 2)) (Var 1)) (Con (Lit 7)))) (Con (Lit 0)))

abbrev row_21_t11 : Tree
row_21_t11 = (App (Con (Num 0)) (Var 16))

abbrev row_21_t12 : Tree
row_21_t12 = (App (Con (Num 0)) (Var 14))

abbrev row_21_t13 : Tree
row_21_t13 = (App row_21_t12 (Var 0))

abbrev row_21_t14 : Tree
row_21_t14 = (App (App (Con (Num 22)) (App row_21_t0 (Var 13))) (App (App (Con (Num 22)) (App (Con (Num 25)) (Lam (App (App (Con (Num 24)) (App (App (Con (Num 22)) (App row_21_t1 (Var 14))) row_21_t2)) (App (Con (Num 20)) row_21_t3))))) (App (App (Con (Num 22)) (App (Con (Num 25)) (Lam (App row_21_t6 (App (App (Con (Num 22)) (App (Con (Num 20)) row_21_t8)) (App (Con (Num 21)) row_21_t8)))))) (App (Con (Num 25)) (Lam (App (Con (Num 25)) (Lam (App (App (Con (Num 24)) (App (App (Con (Num 22)) (App (App (Con (Num 22)) (App row_21_t9 (Var 15))) row_21_t10)) row_21_t5)) (App (App (Con (Num 24)) (App (App (Con (Num 15)) (App row_21_t11 (Var 1))) row_21_t13)) (Con (Num 14)))))))))))

abbrev row_21_t15 : Tree
row_21_t15 = (App (App (Con (Num 0)) (Var 12)) (Con (Lit 0)))

abbrev row_21_t16 : Tree
row_21_t16 = (App (App (Con (Num 22)) (App (Con (Num 20)) row_21_t15)) (App (App (Con (Num 22)) (App (Con (Num 21)) row_21_t15)) (App (App (Con (Num 16)) (App (App (Con (Num 2)) (App (App (Con (Num 11)) (Var 31)) row_21_t15)) (Con (Lit 1)))) (Con (Lit 2)))))

abbrev row_21_t17 : Tree
row_21_t17 = (Lam (App (App (Con (Num 24)) row_21_t14) row_21_t16))

abbrev row_21_t18 : Tree
row_21_t18 = (Lam (App (Con (Num 25)) row_21_t17))

abbrev row_21_t19 : Tree
row_21_t19 = (Lam (App (Con (Num 25)) row_21_t18))

abbrev row_21_t20 : Tree
row_21_t20 = (Lam (App (Con (Num 25)) row_21_t19))

abbrev row_21_t21 : Tree
row_21_t21 = (Lam (App (Con (Num 25)) row_21_t20))

abbrev row_21_t22 : Tree
row_21_t22 = (Lam (App (Con (Num 25)) row_21_t21))

abbrev row_21_t23 : Tree
row_21_t23 = (Lam (App (Con (Num 25)) row_21_t22))

abbrev row_21_t24 : Tree
row_21_t24 = (Lam (App (Con (Num 25)) row_21_t23))

abbrev row_21_t25 : Tree
row_21_t25 = (Lam (App (Con (Num 25)) row_21_t24))

abbrev row_21_t26 : Tree
row_21_t26 = (Lam (App (Con (Num 25)) row_21_t25))

abbrev row_21_t27 : Tree
row_21_t27 = (Lam (App (Con (Num 25)) row_21_t26))

abbrev row_21_t28 : Tree
row_21_t28 = (Lam (App (Con (Num 25)) row_21_t27))

abbrev row_21_t29 : Tree
row_21_t29 = (Lam (App (Con (Num 25)) row_21_t28))

abbrev row_21_t30 : Tree
row_21_t30 = (Lam (App (Con (Num 25)) row_21_t29))

abbrev row_21_t31 : Tree
row_21_t31 = (Lam (App (Con (Num 25)) row_21_t30))

abbrev row_21_t32 : Tree
row_21_t32 = (Lam (App (Con (Num 25)) row_21_t31))

abbrev row_21_t33 : Tree
row_21_t33 = (Lam (App (Con (Num 25)) row_21_t32))

abbrev row_21_t34 : Tree
row_21_t34 = (Lam (App (Con (Num 25)) row_21_t33))

abbrev row_21_t35 : Tree
row_21_t35 = (Lam (App (Con (Num 25)) row_21_t34))

abbrev row_21_t36 : Tree
row_21_t36 = (Lam (App (Con (Num 25)) row_21_t35))

abbrev row_21_t37 : Tree
row_21_t37 = (Lam (App (Con (Num 25)) row_21_t36))

abbrev row_21_t38 : Tree
row_21_t38 = (Lam (App (Con (Num 25)) row_21_t37))

abbrev row_21_t39 : Tree
row_21_t39 = (Lam (App (Con (Num 25)) row_21_t38))

abbrev row_21_t40 : Tree
row_21_t40 = (Lam (App (Con (Num 25)) row_21_t39))

abbrev row_21_t41 : Tree
row_21_t41 = (Lam (App (Con (Num 25)) row_21_t40))

abbrev row_21_t42 : Tree
row_21_t42 = (Lam (App (Con (Num 25)) row_21_t41))

abbrev row_21_t43 : Tree
row_21_t43 = (Lam (App (Con (Num 25)) row_21_t42))

abbrev row_21_t44 : Tree
row_21_t44 = (Lam (App (Con (Num 25)) row_21_t43))

abbrev row_21_t45 : Tree
row_21_t45 = (Lam (App (Con (Num 25)) row_21_t44))

abbrev row_21_t46 : Tree
row_21_t46 = (Lam (App (Con (Num 25)) row_21_t45))

abbrev row_21_t47 : Tree
row_21_t47 = (Lam (App (Con (Num 25)) row_21_t46))

abbrev row_21_t48 : Tree
row_21_t48 = (App row_21_t7 (Con (Lit 0)))

abbrev row_21_t49 : Tree
row_21_t49 = (App (Con (Num 20)) row_21_t48)

abbrev row_21_t50 : Tree
row_21_t50 = (App (Con (Num 21)) row_21_t48)

abbrev row_21_t51 : Tree
row_21_t51 = (App (App (Con (Num 11)) (Var 32)) row_21_t48)

abbrev row_21_t52 : Tree
row_21_t52 = (App (App (Con (Num 2)) row_21_t51) (Con (Lit 1)))

abbrev row_21_t53 : Tree
row_21_t53 = (App (App (Con (Num 16)) row_21_t52) (Con (Lit 2)))

abbrev row_21_t54 : Tree
row_21_t54 = (App row_21_t12 (Con (Lit 0)))

abbrev row_21_t55 : Tree
row_21_t55 = (App (Con (Num 43)) (Lam (App (App (Con (Num 15)) row_21_t54) (Var 0))))

abbrev row_21_t56 : Tree
row_21_t56 = (App (Con (Num 15)) (Var 0))

abbrev row_21_t57 : Tree
row_21_t57 = (App (Con (Num 42)) row_21_t48)

abbrev row_21_t58 : Tree
row_21_t58 = (App (App (App (App row_21_t55 row_21_t48) (Var 13)) (App (Con (Num 48)) (Var 13))) row_21_t57)

abbrev row_21_t59 : Tree
row_21_t59 = (App (App (App (App row_21_t55 (Var 13)) row_21_t48) (App (App (App (App (App (Con (Num 43)) (Lam (App row_21_t56 row_21_t54))) row_21_t48) (Var 13)) row_21_t58) row_21_t57)) row_21_t58)

abbrev row_21_t60 : Tree
row_21_t60 = (App (Con (Num 16)) (Con (Lit 0)))

abbrev row_21_t61 : Tree
row_21_t61 = (App row_21_t60 (Con (Lit 16)))

abbrev row_21_t62 : Tree
row_21_t62 = (App (App (Con (Num 15)) (App (App (Con (Num 2)) (Con (Lit 0))) (Con (Lit 7)))) (Con (Lit 0)))

abbrev row_21_t63 : Tree
row_21_t63 = (Lam (App row_21_t6 (App (App (Con (Num 22)) (App (Con (Num 20)) row_21_t13)) (App (Con (Num 21)) row_21_t13))))

abbrev row_21_t64 : Tree
row_21_t64 = (App (Con (Num 25)) row_21_t63)

abbrev row_21_t65 : Tree
row_21_t65 = (App (Con (Num 25)) (Lam (App (Con (Num 25)) (Lam (App (App (Con (Num 24)) (App (App (Con (Num 22)) (App (App (Con (Num 22)) (App row_21_t9 (Var 16))) row_21_t10)) row_21_t5)) (App (App (Con (Num 24)) (App (App (Con (Num 15)) (App (App (Con (Num 0)) (Var 17)) (Var 1))) row_21_t3)) (Con (Num 14))))))))

abbrev row_21_t66 : Tree
row_21_t66 = (App (Con (Num 25)) (Lam (App (App (Con (Num 24)) (App (App (Con (Num 22)) (App row_21_t1 (Var 15))) row_21_t2)) (App (Con (Num 20)) (App row_21_t11 (Var 0))))))

abbrev row_21_t67 : Tree
row_21_t67 = (App (App (Con (Num 22)) row_21_t64) row_21_t65)

abbrev row_21_t68 : Tree
row_21_t68 = (App (Con (Num 42)) (Con (Lit 16)))

abbrev row_21_t69 : Tree
row_21_t69 = (App (Con (Num 42)) (Con (Lit 0)))

abbrev row_21_t70 : Tree
row_21_t70 = (App (App (App (App (Con (Num 36)) (App (App (Con (Num 22)) row_21_t61) row_21_t62)) (App (App (Con (Num 22)) row_21_t49) row_21_t50)) (App (App (App (Con (Num 39)) row_21_t63) (Con (Lit 0))) (App (App (App (Con (Num 30)) row_21_t64) row_21_t65) (App (App (App (Con (Num 31)) row_21_t66) row_21_t67) (App (App (App (Con (Num 31)) (App row_21_t0 (Var 14))) (App (App (Con (Num 22)) row_21_t66) row_21_t67)) (Var 0)))))) (App (App (App (App (Con (Num 29)) row_21_t61) row_21_t62) (App (App (App (App (App (Con (Num 43)) (Lam (App row_21_t60 (Var 0)))) (Con (Lit 16))) (Con (Lit 16))) (App (App (App (App (App (Con (Num 43)) (Lam (App row_21_t56 (Con (Lit 16))))) (Con (Lit 16))) (Con (Lit 16))) row_21_t68) row_21_t68)) (App (App (App (App (App (Con (Num 43)) (Lam row_21_t4)) (Con (Lit 0))) (Con (Lit 0))) (App (App (App (App (App (Con (Num 43)) (Lam (App row_21_t56 (Con (Lit 0))))) (Con (Lit 0))) (Con (Lit 0))) row_21_t69) row_21_t69)) (Con (Fact 1 0 16))))) (Con (Calc 2 0 7))))

-- the parts with their proofs, or none
unfoldable pub load_rows : List (Form × Option Tree)
load_rows =
    (row_6_part, Some (App (App (Con (Num 40)) (Lam (App (Con (Num 25)) row_6_t48))) (Lam (App (App (Con (Num 38)) row_6_t48) (Lam (App (App (Con (Num 38)) row_6_t47) (Lam (App (App (Con (Num 38)) row_6_t46) (Lam (App (App (Con (Num 38)) row_6_t45) (Lam (App (App (Con (Num 38)) row_6_t44) (Lam (App (App (Con (Num 38)) row_6_t43) (Lam (App (App (Con (Num 38)) row_6_t42) (Lam (App (App (Con (Num 38)) row_6_t41) (Lam (App (App (Con (Num 38)) row_6_t40) (Lam (App (App (Con (Num 38)) row_6_t39) (Lam (App (App (Con (Num 38)) row_6_t38) (Lam (App (App (Con (Num 38)) row_6_t37) (Lam (App (App (Con (Num 38)) row_6_t36) (Lam (App (App (Con (Num 38)) row_6_t35) (Lam (App (App (Con (Num 38)) row_6_t34) (Lam (App (App (Con (Num 38)) row_6_t33) (Lam (App (App (Con (Num 38)) row_6_t32) (Lam (App (App (Con (Num 38)) row_6_t31) (Lam (App (App (Con (Num 38)) row_6_t30) (Lam (App (App (Con (Num 38)) row_6_t29) (Lam (App (App (Con (Num 38)) row_6_t28) (Lam (App (App (Con (Num 38)) row_6_t27) (Lam (App (App (Con (Num 38)) row_6_t26) (Lam (App (App (Con (Num 38)) row_6_t25) (Lam (App (App (Con (Num 38)) row_6_t24) (Lam (App (App (Con (Num 38)) row_6_t23) (Lam (App (App (Con (Num 38)) row_6_t22) (Lam (App (App (Con (Num 38)) row_6_t21) (Lam (App (App (Con (Num 38)) row_6_t20) (Lam (App (App (Con (Num 38)) row_6_t19) (Lam (App (App (Con (Num 38)) row_6_t18) (Lam (App (App (App (Con (Num 35)) row_6_t13) row_6_t17) (Lam (App (App (App (App (Con (Num 29)) (App (Con (Num 20)) row_6_t50)) row_6_t16) (App (App (App (App (App (Con (Num 43)) (Lam (App (Con (Num 20)) (Var 0)))) row_6_t49) row_6_t50) (App (App (App (App row_6_t52 (Var 15)) row_6_t50) (App (App (App (App (App (Con (Num 43)) (Lam (App row_6_t53 row_6_t54))) row_6_t50) (Var 15)) (App (App (App (App (App (Con (Num 43)) (Lam (App row_6_t55 (Var 0)))) row_6_t49) (Var 15)) row_6_t56) (App (App (App (App (App (Con (Num 43)) (Lam (App row_6_t55 (App (App (Con (Num 0)) (Var 0)) (Con (Lit 0)))))) row_6_t49) (Var 15)) row_6_t56) row_6_t57))) row_6_t57)) (App (App (App (App row_6_t52 row_6_t49) (Var 15)) row_6_t56) (App (Con (Num 42)) row_6_t49)))) (App (App (App (App (Con (Num 36)) (App (App (Con (Num 22)) row_6_t58) row_6_t59)) (App (Con (Num 20)) row_6_t49)) (App (App (App (Con (Num 39)) row_6_t60) (Con (Lit 0))) (App (App (App (Con (Num 30)) row_6_t61) row_6_t62) (App (App (App (Con (Num 31)) row_6_t63) row_6_t64) (Var 0))))) (App (App (App (App (Con (Num 29)) row_6_t58) row_6_t59) (App (App (App (App (App (Con (Num 66)) (Con (Lit 0))) (Con (Lit 64))) (Var 14)) (App (App (App (App (App (Con (Num 67)) (Con (Lit 0))) (Con (Lit 0))) (Con (Lit 64))) (App (Con (Num 63)) (Con (Lit 0)))) (Con (Fact 1 0 64)))) (App (App (App (Con (Num 30)) row_6_t63) row_6_t64) (Var 0)))) (Con (Calc 2 0 7)))))) (App (App (App (App (App (Con (Num 43)) (Lam (App row_6_t15 (Var 0)))) (Con (Lit 2))) (Con (Lit 2))) (App (App (App (App (App (Con (Num 43)) (Lam (App row_6_t53 (Con (Lit 2))))) (Con (Lit 2))) (Con (Lit 2))) row_6_t65) row_6_t65)) (App (App (App (App (App (Con (Num 43)) (Lam (App row_6_t1 (Con (Lit 2))))) (Con (Lit 1))) row_6_t14) (App (App (App (App (App (Con (Num 43)) (Lam (App row_6_t53 row_6_t14))) row_6_t14) (Con (Lit 1))) (App (App (App (App (App (Con (Num 43)) (Lam (App (App (Con (Num 15)) row_6_t14) (Var 0)))) row_6_t14) (Con (Lit 1))) (Con (Calc 0 0 1))) row_6_t66)) row_6_t66)) (Con (Fact 1 1 2)))))))))))))))))))))))))))))))))))))))))))))))))))))))))))))))))))))))) ∷
    (row_5_part, None) ∷
    (row_19_0_part, Some (App (App (Con (Num 40)) (Lam (App (Con (Num 25)) row_19_0_t35))) (Lam (App (App (Con (Num 38)) row_19_0_t35) (Lam (App (App (Con (Num 38)) row_19_0_t34) (Lam (App (App (Con (Num 38)) row_19_0_t33) (Lam (App (App (Con (Num 38)) row_19_0_t32) (Lam (App (App (Con (Num 38)) row_19_0_t31) (Lam (App (App (Con (Num 38)) row_19_0_t30) (Lam (App (App (Con (Num 38)) row_19_0_t29) (Lam (App (App (Con (Num 38)) row_19_0_t28) (Lam (App (App (Con (Num 38)) row_19_0_t27) (Lam (App (App (Con (Num 38)) row_19_0_t26) (Lam (App (App (Con (Num 38)) row_19_0_t25) (Lam (App (App (Con (Num 38)) row_19_0_t24) (Lam (App (App (Con (Num 38)) row_19_0_t23) (Lam (App (App (Con (Num 38)) row_19_0_t22) (Lam (App (App (Con (Num 38)) row_19_0_t21) (Lam (App (App (Con (Num 38)) row_19_0_t20) (Lam (App (App (Con (Num 38)) row_19_0_t19) (Lam (App (App (Con (Num 38)) row_19_0_t18) (Lam (App (App (Con (Num 38)) row_19_0_t17) (Lam (App (App (Con (Num 38)) row_19_0_t16) (Lam (App (App (Con (Num 38)) row_19_0_t15) (Lam (App (App (Con (Num 38)) row_19_0_t14) (Lam (App (App (Con (Num 38)) row_19_0_t13) (Lam (App (App (Con (Num 38)) row_19_0_t12) (Lam (App (App (Con (Num 38)) row_19_0_t11) (Lam (App (App (Con (Num 38)) row_19_0_t10) (Lam (App (App (Con (Num 38)) row_19_0_t9) (Lam (App (App (Con (Num 38)) row_19_0_t8) (Lam (App (App (Con (Num 38)) row_19_0_t7) (Lam (App (App (Con (Num 38)) row_19_0_t6) (Lam (App (App (Con (Num 38)) row_19_0_t5) (Lam (App (App (App (Con (Num 35)) row_19_0_t4) row_19_0_t3) (Lam (App (App (App (Con (Num 31)) (App (App (Con (Num 16)) (Var 14)) (Con (Lit 65536)))) (App (Con (Num 25)) (Lam (App (App (Con (Num 24)) (App row_19_0_t0 (Var 15))) (App (App (Con (Num 22)) (App (Con (Num 20)) row_19_0_t36)) (App (Con (Num 21)) row_19_0_t36)))))) (Var 0))))))))))))))))))))))))))))))))))))))))))))))))))))))))))))))))))))) ∷
    (row_19_1_part, Some (App (App (Con (Num 40)) (Lam (App (Con (Num 25)) row_19_1_t36))) (Lam (App (App (Con (Num 38)) row_19_1_t36) (Lam (App (App (Con (Num 38)) row_19_1_t35) (Lam (App (App (Con (Num 38)) row_19_1_t34) (Lam (App (App (Con (Num 38)) row_19_1_t33) (Lam (App (App (Con (Num 38)) row_19_1_t32) (Lam (App (App (Con (Num 38)) row_19_1_t31) (Lam (App (App (Con (Num 38)) row_19_1_t30) (Lam (App (App (Con (Num 38)) row_19_1_t29) (Lam (App (App (Con (Num 38)) row_19_1_t28) (Lam (App (App (Con (Num 38)) row_19_1_t27) (Lam (App (App (Con (Num 38)) row_19_1_t26) (Lam (App (App (Con (Num 38)) row_19_1_t25) (Lam (App (App (Con (Num 38)) row_19_1_t24) (Lam (App (App (Con (Num 38)) row_19_1_t23) (Lam (App (App (Con (Num 38)) row_19_1_t22) (Lam (App (App (Con (Num 38)) row_19_1_t21) (Lam (App (App (Con (Num 38)) row_19_1_t20) (Lam (App (App (Con (Num 38)) row_19_1_t19) (Lam (App (App (Con (Num 38)) row_19_1_t18) (Lam (App (App (Con (Num 38)) row_19_1_t17) (Lam (App (App (Con (Num 38)) row_19_1_t16) (Lam (App (App (Con (Num 38)) row_19_1_t15) (Lam (App (App (Con (Num 38)) row_19_1_t14) (Lam (App (App (Con (Num 38)) row_19_1_t13) (Lam (App (App (Con (Num 38)) row_19_1_t12) (Lam (App (App (Con (Num 38)) row_19_1_t11) (Lam (App (App (Con (Num 38)) row_19_1_t10) (Lam (App (App (Con (Num 38)) row_19_1_t9) (Lam (App (App (Con (Num 38)) row_19_1_t8) (Lam (App (App (Con (Num 38)) row_19_1_t7) (Lam (App (App (Con (Num 38)) row_19_1_t6) (Lam (App (App (App (Con (Num 35)) row_19_1_t3) row_19_1_t5) (Lam (App (App (App (App (Con (Num 29)) (App row_19_1_t38 (Con (Num 13)))) (App (App (Con (Num 24)) row_19_1_t39) row_19_1_t41)) (App (App (App (Con (Num 35)) row_19_1_t37) (Con (Num 13))) (Lam (Con (Num 27))))) (App (App (App (Con (Num 35)) row_19_1_t39) row_19_1_t41) (Lam (App (App (App (App (Con (Num 29)) (App (Con (Num 20)) row_19_1_t43)) (App (Con (Num 25)) row_19_1_t45)) (App (App (App (App (App (Con (Num 43)) (Lam (App (Con (Num 20)) (Var 0)))) row_19_1_t42) row_19_1_t43) (App (App (App (App (App (Con (Num 43)) (Lam (App (App (Con (Num 15)) row_19_1_t46) (Var 0)))) row_19_1_t42) row_19_1_t43) (App (App (App (App (App (Con (Num 43)) (Lam (App (App (Con (Num 15)) (Var 0)) row_19_1_t47))) row_19_1_t43) row_19_1_t42) (App (App (App (App (App (Con (Num 43)) (Lam (App (App (Con (Num 15)) row_19_1_t47) (Var 0)))) row_19_1_t43) row_19_1_t42) (App (Con (Num 48)) row_19_1_t42)) row_19_1_t48)) row_19_1_t48)) (App (Con (Num 42)) row_19_1_t42))) (App (App (App (Con (Num 30)) row_19_1_t49) row_19_1_t50) (App (App (App (App (Con (Num 36)) (App (App (Con (Num 16)) (Var 28)) (Var 15))) (App (App (Con (Num 22)) row_19_1_t49) row_19_1_t50)) (App (App (App (Con (Num 39)) row_19_1_t45) (Var 28)) (Var 1))) (App (App (App (Con (Num 76)) (Var 28)) (Var 15)) (Var 0)))))) (Var 1)))))))))))))))))))))))))))))))))))))))))))))))))))))))))))))))))))))))) ∷
    (row_21_part, Some (App (App (Con (Num 40)) (Lam (App (Con (Num 25)) row_21_t47))) (Lam (App (App (Con (Num 38)) row_21_t47) (Lam (App (App (Con (Num 38)) row_21_t46) (Lam (App (App (Con (Num 38)) row_21_t45) (Lam (App (App (Con (Num 38)) row_21_t44) (Lam (App (App (Con (Num 38)) row_21_t43) (Lam (App (App (Con (Num 38)) row_21_t42) (Lam (App (App (Con (Num 38)) row_21_t41) (Lam (App (App (Con (Num 38)) row_21_t40) (Lam (App (App (Con (Num 38)) row_21_t39) (Lam (App (App (Con (Num 38)) row_21_t38) (Lam (App (App (Con (Num 38)) row_21_t37) (Lam (App (App (Con (Num 38)) row_21_t36) (Lam (App (App (Con (Num 38)) row_21_t35) (Lam (App (App (Con (Num 38)) row_21_t34) (Lam (App (App (Con (Num 38)) row_21_t33) (Lam (App (App (Con (Num 38)) row_21_t32) (Lam (App (App (Con (Num 38)) row_21_t31) (Lam (App (App (Con (Num 38)) row_21_t30) (Lam (App (App (Con (Num 38)) row_21_t29) (Lam (App (App (Con (Num 38)) row_21_t28) (Lam (App (App (Con (Num 38)) row_21_t27) (Lam (App (App (Con (Num 38)) row_21_t26) (Lam (App (App (Con (Num 38)) row_21_t25) (Lam (App (App (Con (Num 38)) row_21_t24) (Lam (App (App (Con (Num 38)) row_21_t23) (Lam (App (App (Con (Num 38)) row_21_t22) (Lam (App (App (Con (Num 38)) row_21_t21) (Lam (App (App (Con (Num 38)) row_21_t20) (Lam (App (App (Con (Num 38)) row_21_t19) (Lam (App (App (Con (Num 38)) row_21_t18) (Lam (App (App (Con (Num 38)) row_21_t17) (Lam (App (App (App (Con (Num 35)) row_21_t14) row_21_t16) (Lam (App (App (App (App (Con (Num 29)) row_21_t49) (App (App (Con (Num 22)) row_21_t50) row_21_t53)) (App (App (App (App (App (Con (Num 43)) (Lam (App (Con (Num 20)) (Var 0)))) row_21_t48) row_21_t48) row_21_t59) (App (App (App (Con (Num 30)) row_21_t49) row_21_t50) row_21_t70))) (App (App (App (App (Con (Num 29)) row_21_t50) row_21_t53) (App (App (App (App (App (Con (Num 43)) (Lam (App (Con (Num 21)) (Var 0)))) row_21_t48) row_21_t48) row_21_t59) (App (App (App (Con (Num 31)) row_21_t49) row_21_t50) row_21_t70))) (App (App (App (App (App (Con (Num 66)) row_21_t52) (Con (Lit 2))) (Con (Lit 2))) (App (App (App (App (App (Con (Num 67)) row_21_t52) (Con (Lit 1))) (Con (Lit 2))) (App (App (App (App (App (Con (Num 64)) row_21_t52) (Con (Lit 1))) (Con (Lit 1))) (App (App (Con (Num 54)) row_21_t51) (Con (Lit 1)))) (App (Con (Num 63)) (Con (Lit 1))))) (Con (Fact 1 1 2)))) (App (Con (Num 63)) (Con (Lit 2))))))))))))))))))))))))))))))))))))))))))))))))))))))))))))))))))))))))) ∷
    []
