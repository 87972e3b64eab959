-- Goals where steps are counted, with the proofs of a second implementation, or none. The parts of
-- conditions with a bound that an independent one proves, and that ask for no access, have the same
-- proofs by it.
use Rattle.std.specs.Prelude.{Option, Some, None, List, [], ◌∷◌}
use Rattle.term_table.specs.Tree.{Tree, Var, Con, App, Lam, Num, Lit, Calc, Fact}
use Rattle.word_ops.specs.declared.Op.TheVariants.{Add, Sub, Band}
use Rattle.word_ops.specs.declared.Rel.TheVariants.{Eq, Ult, Ule}
use Rattle.formula_tree.specs.Formulas.{EVar, ELit, EOp, Form, FRel, FAnd, FImp, FAll, FAllm}

abbrev ct0 : Tree
ct0 = App (App (Con (Num 17)) (Var 0)) (App (App (Con (Num 1)) (Var 2)) (Con (Lit 1)))

abbrev ct1 : Tree
ct1 = App (Con (Num 43)) (Lam ct0)

abbrev ct2 : Tree
ct2 = App ct1 (App (App (Con (Num 1)) (Con (Lit 4))) (Con (Lit 1)))

abbrev ct3 : Tree
ct3 = App ct2 (Con (Lit 3))

abbrev ct4 : Tree
ct4 = App ct3 (Con (Calc 1 4 1))

abbrev ct5 : Tree
ct5 = App (App (App (App (Con (Num 104)) (Var 1)) (Con (Lit 4))) (Con (Lit 1))) (Var 0)

abbrev ct6 : Tree
ct6 = App ct5 (Con (Fact 2 1 4))

abbrev ct7 : Tree
ct7 = App (App (Con (Num 64)) (Con (Lit 3))) (Con (Lit 3))

abbrev ct8 : Tree
ct8 = App ct7 (App (App (Con (Num 1)) (Var 1)) (Con (Lit 1)))

abbrev ct9 : Tree
ct9 = App ct8 (Con (Fact 2 3 3))

abbrev ct10 : Tree
ct10 = App ct9 (App ct4 ct6)

abbrev ct11 : Tree
ct11 = App (App ct8 (App (Con (Num 63)) (Con (Lit 3)))) ct10

abbrev ct12 : Tree
ct12 = App (App (Con (Num 1)) (Var 0)) (Con (Lit 1))

abbrev ct13 : Tree
ct13 = App (App (Con (Num 17)) (Con (Lit 3))) ct12

abbrev ct14 : Tree
ct14 = App (App (Con (Num 35)) (App (App (Con (Num 17)) (Con (Lit 4))) (Var 0))) ct13

abbrev ct15 : Tree
ct15 = App ct14 (Lam ct11)

abbrev ct16 : Tree
ct16 = Lam (App (App (Con (Num 24)) (App (App (Con (Num 17)) (Con (Lit 4))) (Var 0))) ct13)

abbrev ct17 : Tree
ct17 = App (Con (Num 38)) ct16

abbrev ct18 : Tree
ct18 = App (App (App (Con (Num 67)) (Con (Lit 2))) (Con (Lit 2))) (Con (Lit 3))

abbrev ct19 : Tree
ct19 = App ct18 (App (Con (Num 63)) (Con (Lit 2)))

abbrev ct20 : Tree
ct20 = App ct19 (Con (Fact 1 2 3))

abbrev ct21 : Tree
ct21 = App (App (Con (Num 66)) (Con (Lit 2))) (Con (Lit 3))

abbrev ct22 : Tree
ct22 = App ct21 (App (App (Con (Num 1)) (Var 1)) (Con (Lit 1)))

abbrev ct23 : Tree
ct23 = App ct22 ct20

abbrev ct24 : Tree
ct24 = App (App (App (Con (Num 104)) (Var 1)) (Con (Lit 4))) (Con (Lit 1))

abbrev ct25 : Tree
ct25 = App ct24 (App (App (App (Con (Num 65)) (Con (Lit 4))) (Var 1)) (Var 0))

abbrev ct26 : Tree
ct26 = App ct25 (Con (Fact 2 1 4))

abbrev ct27 : Tree
ct27 = App ct23 (App ct4 ct26)

abbrev ct28 : Tree
ct28 = App (Con (Num 35)) (App (App (Con (Num 16)) (Con (Lit 4))) (Var 0))

abbrev ct29 : Tree
ct29 = App ct28 (App (App (Con (Num 16)) (Con (Lit 2))) ct12)

abbrev ct30 : Tree
ct30 = App ct29 (Lam ct27)

abbrev ct31 : Tree
ct31 = App (Con (Num 24)) (App (App (Con (Num 16)) (Con (Lit 4))) (Var 0))

abbrev ct32 : Tree
ct32 = App ct31 (App (App (Con (Num 16)) (Con (Lit 2))) ct12)

abbrev ct33 : Tree
ct33 = App (Con (Num 38)) (Lam ct32)

abbrev ct34 : Tree
ct34 = App (App (Con (Num 43)) (Lam (App (App (Con (Num 17)) (Var 0)) (Var 2)))) (Var 1)

abbrev ct35 : Tree
ct35 = App ct34 (Con (Lit 5))

abbrev ct36 : Tree
ct36 = App ct35 (Var 0)

abbrev ct37 : Tree
ct37 = App ct36 (App (Con (Num 63)) (Var 1))

abbrev ct38 : Tree
ct38 = App (App (App (App (Con (Num 104)) (Var 1)) (Con (Lit 5))) (Con (Lit 1))) ct37

abbrev ct39 : Tree
ct39 = App ct38 (Con (Fact 2 1 5))

abbrev ct40 : Tree
ct40 = App (App ct1 (App (App (Con (Num 1)) (Con (Lit 5))) (Con (Lit 1)))) (Con (Lit 4))

abbrev ct41 : Tree
ct41 = App ct40 (Con (Calc 1 5 1))

abbrev ct42 : Tree
ct42 = App ct41 ct39

abbrev ct43 : Tree
ct43 = App (App (Con (Num 64)) (Con (Lit 4))) (Con (Lit 4))

abbrev ct44 : Tree
ct44 = App ct43 (App (App (Con (Num 1)) (Var 1)) (Con (Lit 1)))

abbrev ct45 : Tree
ct45 = App ct44 (Con (Fact 2 4 4))

abbrev ct46 : Tree
ct46 = App ct45 ct42

abbrev ct47 : Tree
ct47 = App (App ct44 (App (Con (Num 63)) (Con (Lit 4)))) ct46

abbrev ct48 : Tree
ct48 = App (Con (Num 35)) (App (App (Con (Num 15)) (Var 0)) (Con (Lit 5)))

abbrev ct49 : Tree
ct49 = App ct48 (App (App (Con (Num 17)) (Con (Lit 4))) ct12)

abbrev ct50 : Tree
ct50 = App ct49 (Lam ct47)

abbrev ct51 : Tree
ct51 = App (Con (Num 24)) (App (App (Con (Num 15)) (Var 0)) (Con (Lit 5)))

abbrev ct52 : Tree
ct52 = App ct51 (App (App (Con (Num 17)) (Con (Lit 4))) ct12)

abbrev ct53 : Tree
ct53 = App (Con (Num 38)) (Lam ct52)

abbrev ct54 : Tree
ct54 = App (Con (Num 1)) (App (App (Con (Num 1)) (Var 2)) (Con (Lit 1)))

abbrev ct55 : Tree
ct55 = App ct54 (Con (Lit 2))

abbrev ct56 : Tree
ct56 = App (App (Con (Num 17)) (Var 0)) ct55

abbrev ct57 : Tree
ct57 = App (Con (Num 43)) (Lam ct56)

abbrev ct58 : Tree
ct58 = App ct57 (App (App (Con (Num 1)) (Con (Lit 3))) (Con (Lit 2)))

abbrev ct59 : Tree
ct59 = App ct58 (Con (Lit 1))

abbrev ct60 : Tree
ct60 = App ct59 (Con (Calc 1 3 2))

abbrev ct61 : Tree
ct61 = App (Con (Num 104)) (App (App (Con (Num 1)) (Var 1)) (Con (Lit 1)))

abbrev ct62 : Tree
ct62 = App ct61 (Con (Lit 3))

abbrev ct63 : Tree
ct63 = App ct62 (Con (Lit 2))

abbrev ct64 : Tree
ct64 = App ct63 (App ct4 ct6)

abbrev ct65 : Tree
ct65 = App ct64 (Con (Fact 2 2 3))

abbrev ct66 : Tree
ct66 = App ct60 ct65

abbrev ct67 : Tree
ct67 = App (Con (Num 1)) (App (App (Con (Num 1)) (Var 1)) (Con (Lit 1)))

abbrev ct68 : Tree
ct68 = App ct67 (Con (Lit 2))

abbrev ct69 : Tree
ct69 = App (App (App (Con (Num 66)) (Con (Lit 0))) (Con (Lit 1))) ct68

abbrev ct70 : Tree
ct70 = App (App (App (Con (Num 67)) (Con (Lit 0))) (Con (Lit 0))) (Con (Lit 1))

abbrev ct71 : Tree
ct71 = App ct70 (App (Con (Num 63)) (Con (Lit 0)))

abbrev ct72 : Tree
ct72 = App ct71 (Con (Fact 1 0 1))

abbrev ct73 : Tree
ct73 = App ct69 ct72

abbrev ct74 : Tree
ct74 = App ct73 ct66

abbrev ct75 : Tree
ct75 = App (App (Con (Num 16)) (Con (Lit 0))) (App (App (Con (Num 1)) ct12) (Con (Lit 2)))

abbrev ct76 : Tree
ct76 = App (App (Con (Num 35)) (App (App (Con (Num 17)) (Con (Lit 4))) (Var 0))) ct75

abbrev ct77 : Tree
ct77 = App ct76 (Lam ct74)

abbrev ct78 : Tree
ct78 = Lam (App (App (Con (Num 24)) (App (App (Con (Num 17)) (Con (Lit 4))) (Var 0))) ct75)

abbrev ct79 : Tree
ct79 = App (Con (Num 38)) ct78

abbrev ct80 : Tree
ct80 = App (Con (Num 64)) (App (App (Con (Num 2)) (Var 0)) (Con (Lit 1)))

abbrev ct81 : Tree
ct81 = App ct80 (Con (Lit 1))

abbrev ct82 : Tree
ct82 = App ct81 (Con (Lit 1))

abbrev ct83 : Tree
ct83 = App ct82 (App (App (Con (Num 54)) (Var 0)) (Con (Lit 1)))

abbrev ct84 : Tree
ct84 = App ct83 (App (Con (Num 63)) (Con (Lit 1)))

abbrev ct85 : Tree
ct85 = App (Con (Num 67)) (App (App (Con (Num 2)) (Var 0)) (Con (Lit 1)))

abbrev ct86 : Tree
ct86 = App ct85 (Con (Lit 1))

abbrev ct87 : Tree
ct87 = App ct86 (Con (Lit 2))

abbrev ct88 : Tree
ct88 = App ct87 ct84

abbrev ct89 : Tree
ct89 = App ct88 (Con (Fact 1 1 2))

abbrev ct90 : Tree
ct90 = App (Con (Num 66)) (App (App (Con (Num 2)) (Var 0)) (Con (Lit 1)))

abbrev ct91 : Tree
ct91 = App ct90 (Con (Lit 2))

abbrev ct92 : Tree
ct92 = App ct91 (App (App (Con (Num 1)) (Con (Lit 5))) (Con (Lit 3)))

abbrev ct93 : Tree
ct93 = App ct92 ct89

abbrev ct94 : Tree
ct94 = App (App (Con (Num 1)) (Con (Lit 5))) (Con (Lit 3))

abbrev ct95 : Tree
ct95 = App (App (Con (Num 17)) (Var 0)) ct94

abbrev ct96 : Tree
ct96 = App (Con (Num 43)) (Lam ct95)

abbrev ct97 : Tree
ct97 = App ct96 ct94

abbrev ct98 : Tree
ct98 = App ct97 (Con (Lit 2))

abbrev ct99 : Tree
ct99 = App ct98 (Con (Calc 1 5 3))

abbrev ct100 : Tree
ct100 = App (App (App (Con (Num 104)) (Con (Lit 5))) (Con (Lit 5))) (Con (Lit 3))

abbrev ct101 : Tree
ct101 = App ct100 (App (Con (Num 63)) (Con (Lit 5)))

abbrev ct102 : Tree
ct102 = App ct101 (Con (Fact 2 3 5))

abbrev ct103 : Tree
ct103 = App ct99 ct102

abbrev ct104 : Tree
ct104 = App ct93 ct103

abbrev ct105 : Tree
ct105 = Lam (App (App (Con (Num 16)) (App (App (Con (Num 2)) (Var 0)) (Con (Lit 1)))) ct94)

abbrev ct106 : Tree
ct106 = App (Con (Num 38)) ct105

abbrev ct107 : Tree
ct107 = App (App (Con (Num 17)) (Var 0)) (App (App (Con (Num 1)) (Var 2)) (Con (Lit 3)))

abbrev ct108 : Tree
ct108 = App (Con (Num 43)) (Lam ct107)

abbrev ct109 : Tree
ct109 = App ct108 (App (App (Con (Num 1)) (Con (Lit 3))) (Con (Lit 3)))

abbrev ct110 : Tree
ct110 = App ct109 (Con (Lit 0))

abbrev ct111 : Tree
ct111 = App ct110 (Con (Calc 1 3 3))

abbrev ct112 : Tree
ct112 = App (App (App (App (Con (Num 104)) (Var 1)) (Con (Lit 3))) (Con (Lit 3))) (Var 0)

abbrev ct113 : Tree
ct113 = App ct112 (Con (Fact 2 3 3))

abbrev ct114 : Tree
ct114 = App ct111 ct113

abbrev ct115 : Tree
ct115 = App (App (Con (Num 64)) (Con (Lit 0))) (Con (Lit 0))

abbrev ct116 : Tree
ct116 = App ct115 (App (App (Con (Num 1)) (Var 1)) (Con (Lit 3)))

abbrev ct117 : Tree
ct117 = App ct116 (Con (Fact 2 0 0))

abbrev ct118 : Tree
ct118 = App ct117 ct114

abbrev ct119 : Tree
ct119 = App (App ct116 (App (Con (Num 63)) (Con (Lit 0)))) ct118

abbrev ct120 : Tree
ct120 = App (App (Con (Num 1)) (Var 0)) (Con (Lit 3))

abbrev ct121 : Tree
ct121 = App (App (Con (Num 17)) (Con (Lit 0))) ct120

abbrev ct122 : Tree
ct122 = App (App (Con (Num 35)) (App (App (Con (Num 17)) (Con (Lit 3))) (Var 0))) ct121

abbrev ct123 : Tree
ct123 = App ct122 (Lam ct119)

abbrev ct124 : Tree
ct124 = App (App (Con (Num 24)) (App (App (Con (Num 17)) (Con (Lit 3))) (Var 0))) ct121

abbrev ct125 : Tree
ct125 = App (Con (Num 38)) (Lam ct124)

abbrev ct126 : Tree
ct126 = App ct117 (App (Con (Num 61)) (App (App (Con (Num 1)) (Var 1)) (Con (Lit 3))))

abbrev ct127 : Tree
ct127 = App (App ct116 (App (Con (Num 63)) (Con (Lit 0)))) ct126

abbrev ct128 : Tree
ct128 = App (App (Con (Num 35)) (App (App (Con (Num 17)) (Con (Lit 2))) (Var 0))) ct121

abbrev ct129 : Tree
ct129 = App ct128 (Lam ct127)

abbrev ct130 : Tree
ct130 = App (App (Con (Num 24)) (App (App (Con (Num 17)) (Con (Lit 2))) (Var 0))) ct121

abbrev ct131 : Tree
ct131 = App (Con (Num 38)) (Lam ct130)

abbrev ct132 : Tree
ct132 = App (App (Con (Num 1)) (Var 1)) (Con (Lit 1))

abbrev ct133 : Tree
ct133 = App (App (Con (Num 17)) (Con (Lit 3))) ct132

abbrev ct134 : Tree
ct134 = App (App (Con (Num 31)) (App (App (Con (Num 17)) (Con (Lit 4))) (Var 1))) ct133

abbrev ct135 : Tree
ct135 = App ct134 (Var 0)

abbrev ct136 : Tree
ct136 = App (App (App (Con (Num 64)) (Con (Lit 2))) (Con (Lit 3))) ct132

abbrev ct137 : Tree
ct137 = App ct136 (Con (Fact 2 2 3))

abbrev ct138 : Tree
ct138 = App ct137 ct135

abbrev ct139 : Tree
ct139 = App (App (App (Con (Num 64)) (Con (Lit 2))) (Con (Lit 2))) ct132

abbrev ct140 : Tree
ct140 = App ct139 (App (Con (Num 63)) (Con (Lit 2)))

abbrev ct141 : Tree
ct141 = App ct140 ct138

abbrev ct142 : Tree
ct142 = App (App (Con (Num 22)) (App (App (Con (Num 17)) (Con (Lit 4))) (Var 0))) ct13

abbrev ct143 : Tree
ct143 = App (Con (Num 35)) ct142

abbrev ct144 : Tree
ct144 = App ct143 (App (App (Con (Num 17)) (Con (Lit 2))) ct12)

abbrev ct145 : Tree
ct145 = App ct144 (Lam ct141)

abbrev ct146 : Tree
ct146 = Lam (App (App (Con (Num 24)) ct142) (App (App (Con (Num 17)) (Con (Lit 2))) ct12))

abbrev ct147 : Tree
ct147 = App (Con (Num 38)) ct146

abbrev ct148 : Tree
ct148 = App (Con (Num 31)) (App (App (Con (Num 17)) (Con (Lit 2))) ct132)

abbrev ct149 : Tree
ct149 = App ct148 (App (App (Con (Num 17)) (Con (Lit 4))) (Var 1))

abbrev ct150 : Tree
ct150 = App ct149 (Var 0)

abbrev ct151 : Tree
ct151 = App ct24 ct150

abbrev ct152 : Tree
ct152 = App ct151 (Con (Fact 2 1 4))

abbrev ct153 : Tree
ct153 = App ct4 ct152

abbrev ct154 : Tree
ct154 = App ct9 ct153

abbrev ct155 : Tree
ct155 = App (App ct8 (App (Con (Num 63)) (Con (Lit 3)))) ct154

abbrev ct156 : Tree
ct156 = App (Con (Num 22)) (App (App (Con (Num 17)) (Con (Lit 2))) ct12)

abbrev ct157 : Tree
ct157 = App ct156 (App (App (Con (Num 17)) (Con (Lit 4))) (Var 0))

abbrev ct158 : Tree
ct158 = App (Con (Num 35)) ct157

abbrev ct159 : Tree
ct159 = App ct158 ct13

abbrev ct160 : Tree
ct160 = App ct159 (Lam ct155)

abbrev ct161 : Tree
ct161 = App (Con (Num 31)) (App (App (Con (Num 17)) (Con (Lit 4))) (Var 1))

abbrev ct162 : Tree
ct162 = App ct161 (App (App (Con (Num 17)) (Con (Lit 5))) ct132)

abbrev ct163 : Tree
ct163 = App ct162 (Var 0)

abbrev ct164 : Tree
ct164 = App (App (App (Con (Num 64)) (Con (Lit 4))) (Con (Lit 5))) ct132

abbrev ct165 : Tree
ct165 = App ct164 (Con (Fact 2 4 5))

abbrev ct166 : Tree
ct166 = App ct165 ct163

abbrev ct167 : Tree
ct167 = App (App ct44 (App (Con (Num 63)) (Con (Lit 4)))) ct166

abbrev ct168 : Tree
ct168 = App (Con (Num 22)) (App (App (Con (Num 17)) (Con (Lit 4))) (Var 0))

abbrev ct169 : Tree
ct169 = App ct168 (App (App (Con (Num 17)) (Con (Lit 5))) ct12)

abbrev ct170 : Tree
ct170 = App (Con (Num 35)) ct169

abbrev ct171 : Tree
ct171 = App ct170 (App (App (Con (Num 17)) (Con (Lit 4))) ct12)

abbrev ct172 : Tree
ct172 = App ct171 (Lam ct167)

abbrev ct173 : Tree
ct173 = Lam (App (App (Con (Num 24)) ct169) (App (App (Con (Num 17)) (Con (Lit 4))) ct12))

abbrev ct174 : Tree
ct174 = App (Con (Num 38)) ct173

abbrev ct175 : Tree
ct175 = App (App ct57 (App (App (Con (Num 1)) (Con (Lit 7))) (Con (Lit 2)))) (Con (Lit 5))

abbrev ct176 : Tree
ct176 = App ct175 (Con (Calc 1 7 2))

abbrev ct177 : Tree
ct177 = App (App (App (App ct61 (Con (Lit 7))) (Con (Lit 2))) (Var 0)) (Con (Fact 2 2 7))

abbrev ct178 : Tree
ct178 = App ct176 ct177

abbrev ct179 : Tree
ct179 = App (App (App (Con (Num 64)) (Con (Lit 5))) (Con (Lit 5))) ct68

abbrev ct180 : Tree
ct180 = App ct179 (Con (Fact 2 5 5))

abbrev ct181 : Tree
ct181 = App ct180 ct178

abbrev ct182 : Tree
ct182 = App (App ct179 (App (Con (Num 63)) (Con (Lit 5)))) ct181

abbrev ct183 : Tree
ct183 = App (App (Con (Num 17)) (Con (Lit 5))) (App (App (Con (Num 1)) ct12) (Con (Lit 2)))

abbrev ct184 : Tree
ct184 = App (App (Con (Num 35)) (App (App (Con (Num 17)) (Con (Lit 7))) ct12)) ct183

abbrev ct185 : Tree
ct185 = App ct184 (Lam ct182)

abbrev ct186 : Tree
ct186 = Lam (App (App (Con (Num 24)) (App (App (Con (Num 17)) (Con (Lit 7))) ct12)) ct183)

abbrev ct187 : Tree
ct187 = App (Con (Num 38)) ct186

abbrev ct188 : Tree
ct188 = Lam (App (App (Con (Num 15)) (Var 0)) (App (App (Con (Num 0)) (Var 1)) (Var 33)))

abbrev ct189 : Tree
ct189 = App (Con (Num 43)) ct188

abbrev ct190 : Tree
ct190 = App ct189 (App (App (Con (Num 0)) (Var 0)) (Var 32))

abbrev ct191 : Tree
ct191 = App ct190 (App (App (Con (Num 0)) (Var 0)) (Var 32))

abbrev ct192 : Tree
ct192 = App ct191 (App (Con (Num 42)) (App (App (Con (Num 0)) (Var 0)) (Var 32)))

abbrev ct193 : Tree
ct193 = App ct192 (App (Con (Num 42)) (App (App (Con (Num 0)) (Var 0)) (Var 32)))

abbrev ct194 : Tree
ct194 = Lam (App (App (Con (Num 15)) (App (App (Con (Num 0)) (Var 33)) (Var 1))) (Var 0))

abbrev ct195 : Tree
ct195 = App (Con (Num 43)) ct194

abbrev ct196 : Tree
ct196 = App ct195 (App (App (Con (Num 0)) (Var 0)) (Var 32))

abbrev ct197 : Tree
ct197 = App ct196 (App (App (Con (Num 0)) (Var 0)) (Var 32))

abbrev ct198 : Tree
ct198 = App ct197 ct193

abbrev ct199 : Tree
ct199 = App ct195 (App (App (Con (Num 0)) (Var 32)) (Var 0))

abbrev ct200 : Tree
ct200 = App ct199 (App (App (Con (Num 0)) (Var 0)) (Var 32))

abbrev ct201 : Tree
ct201 = App ct200 (App (App (Con (Num 46)) (Var 32)) (Var 0))

abbrev ct202 : Tree
ct202 = App ct201 (App (Con (Num 42)) (App (App (Con (Num 0)) (Var 32)) (Var 0)))

abbrev ct203 : Tree
ct203 = App ct198 ct202

abbrev ct204 : Tree
ct204 = App (Con (Num 15)) (App (App (Con (Num 0)) (Var 32)) (Var 0))

abbrev ct205 : Tree
ct205 = App ct204 (App (App (Con (Num 0)) (Var 0)) (Var 32))

abbrev ct206 : Tree
ct206 = App (Con (Num 38)) (Lam ct205)

abbrev ct207 : Tree
ct207 = App ct206 (Lam ct203)

abbrev ct208 : Tree
ct208 = App (App (Con (Num 38)) (Lam (App (Con (Num 25)) (Lam ct205)))) (Lam ct207)

abbrev ct209 : Tree
ct209 = App (Con (Num 38)) (Lam (App (Con (Num 25)) (Lam (App (Con (Num 25)) (Lam ct205)))))

abbrev ct210 : Tree
ct210 = App ct209 (Lam ct208)

abbrev ct211 : Tree
ct211 = App (Con (Num 25)) (Lam (App (Con (Num 25)) (Lam (App (Con (Num 25)) (Lam ct205)))))

abbrev ct212 : Tree
ct212 = App (Con (Num 38)) (Lam ct211)

abbrev ct213 : Tree
ct213 = App ct212 (Lam ct210)

abbrev ct214 : Tree
ct214 = App (App (Con (Num 38)) (Lam (App (Con (Num 25)) (Lam ct211)))) (Lam ct213)

abbrev ct215 : Tree
ct215 = App (Con (Num 38)) (Lam (App (Con (Num 25)) (Lam (App (Con (Num 25)) (Lam ct211)))))

abbrev ct216 : Tree
ct216 = App ct215 (Lam ct214)

abbrev ct217 : Tree
ct217 = App (Con (Num 25)) (Lam (App (Con (Num 25)) (Lam (App (Con (Num 25)) (Lam ct211)))))

abbrev ct218 : Tree
ct218 = App (Con (Num 38)) (Lam ct217)

abbrev ct219 : Tree
ct219 = App ct218 (Lam ct216)

abbrev ct220 : Tree
ct220 = App (App (Con (Num 38)) (Lam (App (Con (Num 25)) (Lam ct217)))) (Lam ct219)

abbrev ct221 : Tree
ct221 = App (Con (Num 38)) (Lam (App (Con (Num 25)) (Lam (App (Con (Num 25)) (Lam ct217)))))

abbrev ct222 : Tree
ct222 = App ct221 (Lam ct220)

abbrev ct223 : Tree
ct223 = App (Con (Num 25)) (Lam (App (Con (Num 25)) (Lam (App (Con (Num 25)) (Lam ct217)))))

abbrev ct224 : Tree
ct224 = App (Con (Num 38)) (Lam ct223)

abbrev ct225 : Tree
ct225 = App ct224 (Lam ct222)

abbrev ct226 : Tree
ct226 = App (App (Con (Num 38)) (Lam (App (Con (Num 25)) (Lam ct223)))) (Lam ct225)

abbrev ct227 : Tree
ct227 = App (Con (Num 38)) (Lam (App (Con (Num 25)) (Lam (App (Con (Num 25)) (Lam ct223)))))

abbrev ct228 : Tree
ct228 = App ct227 (Lam ct226)

abbrev ct229 : Tree
ct229 = App (Con (Num 25)) (Lam (App (Con (Num 25)) (Lam (App (Con (Num 25)) (Lam ct223)))))

abbrev ct230 : Tree
ct230 = App (Con (Num 38)) (Lam ct229)

abbrev ct231 : Tree
ct231 = App ct230 (Lam ct228)

abbrev ct232 : Tree
ct232 = App (App (Con (Num 38)) (Lam (App (Con (Num 25)) (Lam ct229)))) (Lam ct231)

abbrev ct233 : Tree
ct233 = App (Con (Num 38)) (Lam (App (Con (Num 25)) (Lam (App (Con (Num 25)) (Lam ct229)))))

abbrev ct234 : Tree
ct234 = App ct233 (Lam ct232)

abbrev ct235 : Tree
ct235 = App (Con (Num 25)) (Lam (App (Con (Num 25)) (Lam (App (Con (Num 25)) (Lam ct229)))))

abbrev ct236 : Tree
ct236 = App (Con (Num 38)) (Lam ct235)

abbrev ct237 : Tree
ct237 = App ct236 (Lam ct234)

abbrev ct238 : Tree
ct238 = App (App (Con (Num 38)) (Lam (App (Con (Num 25)) (Lam ct235)))) (Lam ct237)

abbrev ct239 : Tree
ct239 = App (Con (Num 38)) (Lam (App (Con (Num 25)) (Lam (App (Con (Num 25)) (Lam ct235)))))

abbrev ct240 : Tree
ct240 = App ct239 (Lam ct238)

abbrev ct241 : Tree
ct241 = App (Con (Num 25)) (Lam (App (Con (Num 25)) (Lam (App (Con (Num 25)) (Lam ct235)))))

abbrev ct242 : Tree
ct242 = App (Con (Num 38)) (Lam ct241)

abbrev ct243 : Tree
ct243 = App ct242 (Lam ct240)

abbrev ct244 : Tree
ct244 = App (App (Con (Num 38)) (Lam (App (Con (Num 25)) (Lam ct241)))) (Lam ct243)

abbrev ct245 : Tree
ct245 = App (Con (Num 38)) (Lam (App (Con (Num 25)) (Lam (App (Con (Num 25)) (Lam ct241)))))

abbrev ct246 : Tree
ct246 = App ct245 (Lam ct244)

abbrev ct247 : Tree
ct247 = App (Con (Num 25)) (Lam (App (Con (Num 25)) (Lam (App (Con (Num 25)) (Lam ct241)))))

abbrev ct248 : Tree
ct248 = App (Con (Num 38)) (Lam ct247)

abbrev ct249 : Tree
ct249 = App ct248 (Lam ct246)

abbrev ct250 : Tree
ct250 = App (App (Con (Num 38)) (Lam (App (Con (Num 25)) (Lam ct247)))) (Lam ct249)

abbrev ct251 : Tree
ct251 = App (Con (Num 38)) (Lam (App (Con (Num 25)) (Lam (App (Con (Num 25)) (Lam ct247)))))

abbrev ct252 : Tree
ct252 = App ct251 (Lam ct250)

abbrev ct253 : Tree
ct253 = App (Con (Num 25)) (Lam (App (Con (Num 25)) (Lam (App (Con (Num 25)) (Lam ct247)))))

abbrev ct254 : Tree
ct254 = App (Con (Num 38)) (Lam ct253)

abbrev ct255 : Tree
ct255 = App ct254 (Lam ct252)

abbrev ct256 : Tree
ct256 = App (App (Con (Num 38)) (Lam (App (Con (Num 25)) (Lam ct253)))) (Lam ct255)

abbrev ct257 : Tree
ct257 = App (Con (Num 38)) (Lam (App (Con (Num 25)) (Lam (App (Con (Num 25)) (Lam ct253)))))

abbrev ct258 : Tree
ct258 = App ct257 (Lam ct256)

abbrev ct259 : Tree
ct259 = App (Con (Num 25)) (Lam (App (Con (Num 25)) (Lam (App (Con (Num 25)) (Lam ct253)))))

abbrev ct260 : Tree
ct260 = App (Con (Num 38)) (Lam ct259)

abbrev ct261 : Tree
ct261 = App ct260 (Lam ct258)

abbrev ct262 : Tree
ct262 = App (App (Con (Num 38)) (Lam (App (Con (Num 25)) (Lam ct259)))) (Lam ct261)

abbrev ct263 : Tree
ct263 = App (Con (Num 38)) (Lam (App (Con (Num 25)) (Lam (App (Con (Num 25)) (Lam ct259)))))

abbrev ct264 : Tree
ct264 = App ct263 (Lam ct262)

abbrev ct265 : Tree
ct265 = App (Con (Num 25)) (Lam (App (Con (Num 25)) (Lam (App (Con (Num 25)) (Lam ct259)))))

abbrev ct266 : Tree
ct266 = App (Con (Num 38)) (Lam ct265)

abbrev ct267 : Tree
ct267 = App ct266 (Lam ct264)

abbrev ct268 : Tree
ct268 = App (App (Con (Num 40)) (Lam (App (Con (Num 25)) (Lam ct265)))) (Lam ct267)

abbrev ct269 : Tree
ct269 = App (Con (Num 38)) (Lam (App (Con (Num 26)) (Lam (App (Con (Num 25)) (Lam ct265)))))

-- lower bounds of differences, where steps are counted
unfoldable pub counted_differences : List (Form × Option Tree)
counted_differences =
    -- a difference, of what a hypothesis bounds
    (
      (FAll (FImp (FRel Ule (ELit 4) (EVar 0)) (FRel Ule (ELit 3) (EOp Sub (EVar 0) (ELit 1))))),
      Some (App ct17 (Lam ct15)),
    ) ∷
    -- by a strict one
    (
      (FAll (FImp (FRel Ult (ELit 4) (EVar 0)) (FRel Ult (ELit 2) (EOp Sub (EVar 0) (ELit 1))))),
      Some (App ct33 (Lam ct30)),
    ) ∷
    -- by an equation
    (
      (FAll (FImp (FRel Eq (EVar 0) (ELit 5)) (FRel Ule (ELit 4) (EOp Sub (EVar 0) (ELit 1))))),
      Some (App ct53 (Lam ct50)),
    ) ∷
    -- a difference of a difference
    (
      (FAll (FImp (FRel Ule (ELit 4) (EVar 0)) (FRel Ult (ELit 0) (EOp Sub (EOp Sub (EVar 0) (ELit
          1)) (ELit 2))))),
      Some (App ct79 (Lam ct77)),
    ) ∷
    -- of a literal, which is its own bound
    (
      (FAll (FRel Ult (EOp Band (EVar 0) (ELit 1)) (EOp Sub (ELit 5) (ELit 3)))),
      Some (App ct106 (Lam ct104)),
    ) ∷
    -- no more than the bound is taken away: 0, by the rule for differences
    (
      (FAll (FImp (FRel Ule (ELit 3) (EVar 0)) (FRel Ule (ELit 0) (EOp Sub (EVar 0) (ELit 3))))),
      Some (App ct125 (Lam ct123)),
    ) ∷
    -- more is taken away: 0, which is least
    (
      (FAll (FImp (FRel Ule (ELit 2) (EVar 0)) (FRel Ule (ELit 0) (EOp Sub (EVar 0) (ELit 3))))),
      Some (App ct131 (Lam ct129)),
    ) ∷
    -- none: more is taken away than the bound
    (
      (FAll (FImp (FRel Ule (ELit 2) (EVar 0)) (FRel Ule (ELit 1) (EOp Sub (EVar 0) (ELit 3))))),
      None,
    ) ∷
    -- none: one more than the bound of the difference
    (
      (FAll (FImp (FRel Ule (ELit 4) (EVar 0)) (FRel Ule (ELit 4) (EOp Sub (EVar 0) (ELit 1))))),
      None,
    ) ∷
    -- a hypothesis that gives the same word stands first
    (
      (FAll (FImp (FAnd (FRel Ule (ELit 4) (EVar 0)) (FRel Ule (ELit 3) (EOp Sub (EVar 0) (ELit
          1)))) (FRel Ule (ELit 2) (EOp Sub (EVar 0) (ELit 1))))),
      Some (App ct147 (Lam ct145)),
    ) ∷
    -- one that gives less does not
    (
      (FAll (FImp (FAnd (FRel Ule (ELit 2) (EOp Sub (EVar 0) (ELit 1))) (FRel Ule (ELit 4) (EVar
          0))) (FRel Ule (ELit 3) (EOp Sub (EVar 0) (ELit 1))))),
      Some (App (App (Con (Num 38)) (Lam (App (App (Con (Num 24)) ct157) ct13))) (Lam ct160)),
    ) ∷
    -- one that gives more does
    (
      (FAll (FImp (FAnd (FRel Ule (ELit 4) (EVar 0)) (FRel Ule (ELit 5) (EOp Sub (EVar 0) (ELit
          1)))) (FRel Ule (ELit 4) (EOp Sub (EVar 0) (ELit 1))))),
      Some (App ct174 (Lam ct172)),
    ) ∷
    -- a hypothesis on a difference bounds a difference of it
    (
      (FAll (FImp (FRel Ule (ELit 7) (EOp Sub (EVar 0) (ELit 1))) (FRel Ule (ELit 5) (EOp Sub (EOp
          Sub (EVar 0) (ELit 1)) (ELit 2))))),
      Some (App ct187 (Lam ct185)),
    ) ∷
    -- none: what is taken away is no literal
    (
      (FAll (FAll (FImp (FAnd (FRel Ule (ELit 4) (EVar 0)) (FRel Ule (EVar 1) (ELit 1))) (FRel Ule
          (ELit 3) (EOp Sub (EVar 0) (EVar 1)))))),
      None,
    ) ∷
    -- none: a sum with the negated word
    (
      (FAll (FImp (FRel Ule (ELit 4) (EVar 0)) (FRel Ule (ELit 3) (EOp Add (EVar 0) (ELit
          18446744073709551615))))),
      None,
    ) ∷
    -- none: not through a sum
    (
      (FAll (FImp (FRel Ule (ELit 4) (EVar 0)) (FRel Ule (ELit 3) (EOp Sub (EOp Add (EVar 0) (ELit
          0)) (ELit 1))))),
      None,
    ) ∷
    []

-- a sum of a register and of the steps that are left
unfoldable pub counted_sums : List (Form × Option Tree)
counted_sums =
    -- the steps that are left behind r30
    (
      (FAll (FAllm (FAll (FAll (FAll (FAll (FAll (FAll (FAll (FAll (FAll (FAll (FAll (FAll (FAll
          (FAll (FAll (FAll (FAll (FAll (FAll (FAll (FAll (FAll (FAll (FAll (FAll (FAll (FAll
          (FAll (FAll (FAll (FAll (FRel Eq (EOp Add (EVar 32) (EVar 0)) (EOp Add (EVar 0) (EVar
          32)))))))))))))))))))))))))))))))))))),
      Some (App ct269 (Lam ct268)),
    ) ∷
    []

-- the same where no steps are counted
unfoldable pub uncounted_rows : List (Form × Option Tree)
uncounted_rows =
    -- none: no rule for differences
    (
      (FAll (FImp (FRel Ule (ELit 4) (EVar 0)) (FRel Ule (ELit 3) (EOp Sub (EVar 0) (ELit 1))))),
      None,
    ) ∷
    -- none: likewise
    (
      (FAll (FImp (FRel Ule (ELit 4) (EVar 0)) (FRel Ult (ELit 0) (EOp Sub (EOp Sub (EVar 0) (ELit
          1)) (ELit 2))))),
      None,
    ) ∷
    -- 0 is least
    (
      (FAll (FImp (FRel Ule (ELit 3) (EVar 0)) (FRel Ule (ELit 0) (EOp Sub (EVar 0) (ELit 3))))),
      Some (App ct125 (Lam (App ct122 (Lam ct127)))),
    ) ∷
    -- none: no steps are left, and so r30 has no place
    (
      (FAll (FAllm (FAll (FAll (FAll (FAll (FAll (FAll (FAll (FAll (FAll (FAll (FAll (FAll (FAll
          (FAll (FAll (FAll (FAll (FAll (FAll (FAll (FAll (FAll (FAll (FAll (FAll (FAll (FAll
          (FAll (FAll (FAll (FAll (FRel Eq (EOp Add (EVar 32) (EVar 0)) (EOp Add (EVar 0) (EVar
          32)))))))))))))))))))))))))))))))))))),
      None,
    ) ∷
    []
