-- The signature of word arithmetic: the declared type of each constant.
-- Rules as constants: Harper, Honsell and Plotkin, A Framework for Defining Logics, JACM 1993. A logic of words and memories for code: Necula, Proof-Carrying Code, POPL 1997.
use Rattle.std.specs.Prelude.{ℕ, ◌-◌, ◌^◌, Bool, true, false, ◌&&◌, not, nat_lt, if◌then◌else◌, Option, Some, None, List, [], ◌∷◌, ◌++◌, map, length, take, find}
use Rattle.std.specs.Option.{option_map, option_map_or}
use Rattle.term_table.specs.Tree.{Tree, Pi, Const, Num, Lit, Calc, Fact, Deny, Lemma, at}
use Rattle.term_table.specs.Subst.{bind}
use Rattle.word_ops.specs.declared.Op.{Op}
use Rattle.word_ops.specs.declared.Op.TheVariants.{Add, Sub, Band, Bis, Sll, Srl, Cmpeq, Cmplt, Cmple, Cmpult, Cmpule, Xor, Bic, S4add, S8add, Extb, Extw, Extl}
use Rattle.word_ops.specs.declared.Rel.{Rel}
use Rattle.word_ops.specs.declared.Rel.TheVariants.{Eq, Ult, Ule, Slt, Sle}
use Rattle.word_ops.specs.Words.{word_of, test_of}
use Rattle.word_ops.specs.declared.Profile.{Profile}
use Rattle.word_ops.specs.declared.Profile.TheVariants.{One, Two}
use Rattle.word_ops.specs.Operators.{op_of, op_count}
use Rattle.lf_signature.specs.Numbers.{rel_of}
use Rattle.lf_signature.specs.declared.numbers.TheConstants.{FIRST_RULE, FIRST_RULES, XOR, LATER_RULE, SUB_LO, SYMBOLS, COUNT}
use Rattle.lf_signature.specs.declared.tables.Place.{Place}
use Rattle.lf_signature.specs.declared.tables.Place.TheVariants.{Made, ByRule}
use Rattle.lf_signature.specs.declared.tables.Stretch.{Stretch}
use Rattle.lf_signature.specs.declared.editions.WordSignature.{WordSignature}
use Rattle.lf_signature.specs.declared.editions.WordSignature.TheVariants.{Sigma1, Sigma2, Sigma3}
use Rattle.lf_signature.specs.Terms.{exp, mem, form, pf, lit, op_term, rel_term, not_term}
use Rattle.lf_signature.specs.Rules.{Sort, OfExp, OfMem, OfForm, OfExpForm, OfMemForm, SExp, SPar, SOwn, SLit, SOp, SSel, MPar, MOwn, SUpd, SForm, STrue, SFalse, FPar, FOf, FOfMem, SRel, SAnd, SOr, SImp, SAll, SAllm, Premise, Plain, Under, ForExp, ForMem, Rule, rule_type}

-- The symbols, which formulas are made of.
unfoldable pub constant_types : List Tree
constant_types =
    -- 0 to 10: add, sub, band, bis, sll, srl, cmpeq, cmplt, cmple, cmpult, cmpule
    Pi exp (Pi exp exp) ∷
    Pi exp (Pi exp exp) ∷
    Pi exp (Pi exp exp) ∷
    Pi exp (Pi exp exp) ∷
    Pi exp (Pi exp exp) ∷
    Pi exp (Pi exp exp) ∷
    Pi exp (Pi exp exp) ∷
    Pi exp (Pi exp exp) ∷
    Pi exp (Pi exp exp) ∷
    Pi exp (Pi exp exp) ∷
    Pi exp (Pi exp exp) ∷
    -- 11 sel, 12 upd
    Pi mem (Pi exp exp) ∷
    Pi mem (Pi exp (Pi exp mem)) ∷
    -- 13 tt, 14 ff
    form ∷
    form ∷
    -- 15 to 19: eq, ult, ule, slt, sle
    Pi exp (Pi exp form) ∷
    Pi exp (Pi exp form) ∷
    Pi exp (Pi exp form) ∷
    Pi exp (Pi exp form) ∷
    Pi exp (Pi exp form) ∷
    -- 20 rd, 21 wr
    Pi exp form ∷
    Pi exp form ∷
    -- 22 and, 23 or, 24 imp
    Pi form (Pi form form) ∷
    Pi form (Pi form form) ∷
    Pi form (Pi form form) ∷
    -- 25 all, 26 allm
    Pi (Pi exp form) form ∷
    Pi (Pi mem form) form ∷
    -- 88 to 95: xor, bic, s4add, s8add, sra, extb, extw, extl
    Pi exp (Pi exp exp) ∷
    Pi exp (Pi exp exp) ∷
    Pi exp (Pi exp exp) ∷
    Pi exp (Pi exp exp) ∷
    Pi exp (Pi exp exp) ∷
    Pi exp (Pi exp exp) ∷
    Pi exp (Pi exp exp) ∷
    Pi exp (Pi exp exp) ∷
    []

-- The words of the table of rules below.

-- a rule, in the order of the notation
abbrev rule : List Sort → List Premise → SForm → Rule
rule parameters premises conclusion = record { parameters = parameters; premises = premises; conclusion = conclusion }

-- one word
abbrev words1 : List Sort
words1 = OfExp ∷ []

-- two words
abbrev words2 : List Sort
words2 = OfExp ∷ words1

-- three words
abbrev words3 : List Sort
words3 = OfExp ∷ words2

-- four words
abbrev words4 : List Sort
words4 = OfExp ∷ words3

-- one formula
abbrev forms1 : List Sort
forms1 = OfForm ∷ []

-- two formulas
abbrev forms2 : List Sort
forms2 = OfForm ∷ forms1

-- three formulas
abbrev forms3 : List Sort
forms3 = OfForm ∷ forms2

-- the first parameter, a word
abbrev a : SExp
a = SPar 0

-- the second parameter, a word
abbrev b : SExp
b = SPar 1

-- the third parameter, a word
abbrev c : SExp
c = SPar 2

-- the fourth parameter, a word
abbrev d : SExp
d = SPar 3

-- the first parameter, a formula
abbrev A : SForm
A = FPar 0

-- the second parameter, a formula
abbrev B : SForm
B = FPar 1

-- the third parameter, a formula
abbrev C : SForm
C = FPar 2

-- a sum
abbrev add : SExp → SExp → SExp
add = SOp Add

-- a difference
abbrev sub : SExp → SExp → SExp
sub = SOp Sub

-- bitwise and
abbrev band : SExp → SExp → SExp
band = SOp Band

-- bitwise or
abbrev bis : SExp → SExp → SExp
bis = SOp Bis

-- a shift to the left
abbrev sll : SExp → SExp → SExp
sll = SOp Sll

-- a shift to the right
abbrev srl : SExp → SExp → SExp
srl = SOp Srl

-- equality
abbrev eq : SExp → SExp → SForm
eq = SRel Eq

-- unsigned less
abbrev ult : SExp → SExp → SForm
ult = SRel Ult

-- unsigned at most
abbrev ule : SExp → SExp → SForm
ule = SRel Ule

-- that a formula leads to falsity
abbrev no : SForm → SForm
no p = SImp p SFalse

-- the greatest word
abbrev max : SExp
max = SLit 18446744073709551615

-- an operator that gives 1 where its relation holds, else 0
abbrev pairs : List (Op × Rel)
pairs = (Cmpeq, Eq) ∷ (Cmplt, Slt) ∷ (Cmple, Sle) ∷ (Cmpult, Ult) ∷ (Cmpule, Ule) ∷ []

-- an operator that isn't 0 makes its relation hold
abbrev cmp_yes : Op × Rel → Rule
cmp_yes p = rule words2 (Plain (no (eq (SOp p.0 a b) (SLit 0))) ∷ []) (SRel p.1 a b)

-- an operator that is 0 denies its relation
abbrev cmp_no : Op × Rel → Rule
cmp_no p = rule words2 (Plain (eq (SOp p.0 a b) (SLit 0)) ∷ []) (no (SRel p.1 a b))

-- an operator gives at most 1
abbrev cmp_le1 : Op × Rel → Rule
cmp_le1 p = rule words2 [] (ule (SOp p.0 a b) (SLit 1))

-- The rules 96 to 104.
abbrev later_rules : List Rule
later_rules =
    -- 96 xor_self   a ; |- (eq (xor a a) 0)
    rule words1 [] (eq (SOp Xor a a) (SLit 0)) ∷
    -- 97 bic_le     a b ; |- (ule (bic a b) a)
    rule words2 [] (ule (SOp Bic a b) a) ∷
    -- 98 s4_def     a b ; |- (eq (s4add a b) (add (sll a 2) b))
    rule words2 [] (eq (SOp S4add a b) (add (sll a (SLit 2)) b)) ∷
    -- 99 s8_def     a b ; |- (eq (s8add a b) (add (sll a 3) b))
    rule words2 [] (eq (SOp S8add a b) (add (sll a (SLit 3)) b)) ∷
    -- 100 extb_le   a b ; |- (ule (extb a b) 255)
    rule words2 [] (ule (SOp Extb a b) (SLit 255)) ∷
    -- 101 extw_le   a b ; |- (ule (extw a b) 65535)
    rule words2 [] (ule (SOp Extw a b) (SLit 65535)) ∷
    -- 102 extl_le   a b ; |- (ule (extl a b) 4294967295)
    rule words2 [] (ule (SOp Extl a b) (SLit 4294967295)) ∷
    -- 103 bic_def   a b ; |- (eq (bic a b) (band a (xor b MAX)))
    rule words2 [] (eq (SOp Bic a b) (band a (SOp Xor b max))) ∷
    -- 104 sub_lo    a b c ; (ule b a), (ule c b) |- (ule (sub b c) (sub a c))
    rule words3 (Plain (ule b a) ∷ Plain (ule c b) ∷ []) (ule (sub b c) (sub a c)) ∷
    []

-- The rules, constants 27 to 87 and 96 to 104. A comment has the rule's name and says it: parameters ; premises |- conclusion.
-- A, B, C are formulas, a, b, c, d, v words, m a memory, F a formula over a word, G one over a memory; [A], [x], [m] is what a premise binds.
unfoldable pub the_rules : List Rule
the_rules =
    -- 27 tt_i       ; |- tt
    rule [] [] STrue ∷
    -- 28 ff_e       A ; ff |- A
    rule forms1 (Plain SFalse ∷ []) A ∷
    -- 29 and_i      A B ; A, B |- (and A B)
    rule forms2 (Plain A ∷ Plain B ∷ []) (SAnd A B) ∷
    -- 30 and_l      A B ; (and A B) |- A
    rule forms2 (Plain (SAnd A B) ∷ []) A ∷
    -- 31 and_r      A B ; (and A B) |- B
    rule forms2 (Plain (SAnd A B) ∷ []) B ∷
    -- 32 or_l       A B ; A |- (or A B)
    rule forms2 (Plain A ∷ []) (SOr A B) ∷
    -- 33 or_r       A B ; B |- (or A B)
    rule forms2 (Plain B ∷ []) (SOr A B) ∷
    -- 34 or_e       A B C ; (or A B), [A] C, [B] C |- C
    rule forms3 (Plain (SOr A B) ∷ Under A C ∷ Under B C ∷ []) C ∷
    -- 35 imp_i      A B ; [A] B |- (imp A B)
    rule forms2 (Under A B ∷ []) (SImp A B) ∷
    -- 36 imp_e      A B ; (imp A B), A |- B
    rule forms2 (Plain (SImp A B) ∷ Plain A ∷ []) B ∷
    -- 37 em         A ; |- (or A (not A))
    rule forms1 [] (SOr A (no A)) ∷
    -- 38 all_i      F ; [x] F x |- (all F)
    rule (OfExpForm ∷ []) (ForExp (FOf 0 SOwn) ∷ []) (SAll 0) ∷
    -- 39 all_e      F a ; (all F) |- F a
    rule (OfExpForm ∷ OfExp ∷ []) (Plain (SAll 0) ∷ []) (FOf 0 (SPar 1)) ∷
    -- 40 allm_i     G ; [m] G m |- (allm G)
    rule (OfMemForm ∷ []) (ForMem (FOfMem 0 MOwn) ∷ []) (SAllm 0) ∷
    -- 41 allm_e     G m ; (allm G) |- G m
    rule (OfMemForm ∷ OfMem ∷ []) (Plain (SAllm 0) ∷ []) (FOfMem 0 (MPar 1)) ∷
    -- 42 eq_refl    a ; |- (eq a a)
    rule words1 [] (eq a a) ∷
    -- 43 eq_sub     F a b ; (eq a b), F a |- F b
    rule (OfExpForm ∷ OfExp ∷ OfExp ∷ []) (Plain (eq (SPar 1) (SPar 2)) ∷ Plain (FOf 0 (SPar 1)) ∷ []) (FOf 0 (SPar 2)) ∷
    -- 44 sel_same   m a v ; |- (eq (sel (upd m a v) a) v)
    rule (OfMem ∷ OfExp ∷ OfExp ∷ []) [] (eq (SSel (SUpd (MPar 0) (SPar 1) (SPar 2)) (SPar 1)) (SPar 2)) ∷
    -- 45 sel_other  m a b v ; (not (eq a b)) |- (eq (sel (upd m a v) b) (sel m b))
    rule (OfMem ∷ OfExp ∷ OfExp ∷ OfExp ∷ []) (Plain (no (eq (SPar 1) (SPar 2))) ∷ [])
    (eq (SSel (SUpd (MPar 0) (SPar 1) (SPar 3)) (SPar 2)) (SSel (MPar 0) (SPar 2))) ∷
    -- 46 add_comm   a b ; |- (eq (add a b) (add b a))
    rule words2 [] (eq (add a b) (add b a)) ∷
    -- 47 add_assoc  a b c ; |- (eq (add (add a b) c) (add a (add b c)))
    rule words3 [] (eq (add (add a b) c) (add a (add b c))) ∷
    -- 48 add_zero   a ; |- (eq (add a 0) a)
    rule words1 [] (eq (add a (SLit 0)) a) ∷
    -- 49 sub_add    a b ; |- (eq (add (sub a b) b) a)
    rule words2 [] (eq (add (sub a b) b) a) ∷
    -- 50 sub_neg    a b ; |- (eq (sub a b) (add a (sub 0 b)))
    rule words2 [] (eq (sub a b) (add a (sub (SLit 0) b))) ∷
    -- 51 and_comm   a b ; |- (eq (band a b) (band b a))
    rule words2 [] (eq (band a b) (band b a)) ∷
    -- 52 and_assoc  a b c ; |- (eq (band (band a b) c) (band a (band b c)))
    rule words3 [] (eq (band (band a b) c) (band a (band b c))) ∷
    -- 53 and_zero   a ; |- (eq (band a 0) 0)
    rule words1 [] (eq (band a (SLit 0)) (SLit 0)) ∷
    -- 54 and_le     a b ; |- (ule (band a b) b)
    rule words2 [] (ule (band a b) b) ∷
    -- 55 bis_zero   a ; |- (eq (bis a 0) a)
    rule words1 [] (eq (bis a (SLit 0)) a) ∷
    -- 56 bis_zero_l a ; |- (eq (bis 0 a) a)
    rule words1 [] (eq (bis (SLit 0) a) a) ∷
    -- 57 add_al     a b ; (eq (band a 7) 0), (eq (band b 7) 0) |- (eq (band (add a b) 7) 0)
    rule words2 (Plain (eq (band a (SLit 7)) (SLit 0)) ∷ Plain (eq (band b (SLit 7)) (SLit 0)) ∷ []) (eq (band (add a b) (SLit 7)) (SLit 0)) ∷
    -- 58 sll_al     a ; |- (eq (band (sll a 3) 7) 0)
    rule words1 [] (eq (band (sll a (SLit 3)) (SLit 7)) (SLit 0)) ∷
    -- 59 srl_mono   a b c ; (ule a b) |- (ule (srl a c) (srl b c))
    rule words3 (Plain (ule a b) ∷ []) (ule (srl a c) (srl b c)) ∷
    -- 60 sll_mono   a b c ; (ule a b), (ule b (srl MAX c)) |- (ule (sll a c) (sll b c))
    rule words3 (Plain (ule a b) ∷ Plain (ule b (srl max c)) ∷ []) (ule (sll a c) (sll b c)) ∷
    -- 61 zero_le    a ; |- (ule 0 a)
    rule words1 [] (ule (SLit 0) a) ∷
    -- 62 max_le     a ; |- (ule a MAX)
    rule words1 [] (ule a max) ∷
    -- 63 ule_refl   a ; |- (ule a a)
    rule words1 [] (ule a a) ∷
    -- 64 ule_trans  a b c ; (ule a b), (ule b c) |- (ule a c)
    rule words3 (Plain (ule a b) ∷ Plain (ule b c) ∷ []) (ule a c) ∷
    -- 65 ult_ule    a b ; (ult a b) |- (ule a b)
    rule words2 (Plain (ult a b) ∷ []) (ule a b) ∷
    -- 66 lt_le      a b c ; (ult a b), (ule b c) |- (ult a c)
    rule words3 (Plain (ult a b) ∷ Plain (ule b c) ∷ []) (ult a c) ∷
    -- 67 le_lt      a b c ; (ule a b), (ult b c) |- (ult a c)
    rule words3 (Plain (ule a b) ∷ Plain (ult b c) ∷ []) (ult a c) ∷
    -- 68 lt_pred    a b ; (ult a b) |- (ule a (sub b 1))
    rule words2 (Plain (ult a b) ∷ []) (ule a (sub b (SLit 1))) ∷
    -- 69 le_anti    a b ; (ule a b), (ule b a) |- (eq a b)
    rule words2 (Plain (ule a b) ∷ Plain (ule b a) ∷ []) (eq a b) ∷
    -- 70 not_lt     a b ; (not (ult a b)) |- (ule b a)
    rule words2 (Plain (no (ult a b)) ∷ []) (ule b a) ∷
    -- 71 lt_irr     a ; (ult a a) |- ff
    rule words1 (Plain (ult a a) ∷ []) SFalse ∷
    -- 72 add_le     a b c d ; (ule a c), (ule b d), (ule c (add c d)) |- (ule (add a b) (add c d))
    rule words4 (Plain (ule a c) ∷ Plain (ule b d) ∷ Plain (ule c (add c d)) ∷ []) (ule (add a b) (add c d)) ∷
    -- for each pair (o, p) in turn:
    -- 73 to 77 cmp_yes  a b ; (not (eq (o a b) 0)) |- (p a b)
    -- 78 to 82 cmp_no   a b ; (eq (o a b) 0) |- (not (p a b))
    -- 83 to 87 cmp_le1  a b ; |- (ule (o a b) 1)
    map cmp_yes pairs ++ (map cmp_no pairs ++ (map cmp_le1 pairs ++ later_rules))

-- symbols, which formulas are made of, up to a number; so many rules are before them
abbrev symbols : ℕ → ℕ → Stretch
symbols end others = record { end = end; are_rules = false; others = others }

-- rules up to a number; so many symbols are before them
abbrev rules : ℕ → ℕ → Stretch
rules end others = record { end = end; are_rules = true; others = others }

-- the numbered constants, stretch by stretch
abbrev pub layout : List Stretch
layout = symbols FIRST_RULE 0 ∷ rules XOR FIRST_RULE ∷ symbols LATER_RULE FIRST_RULES ∷ rules COUNT SYMBOLS ∷ []

-- the stretch of a number
abbrev pub stretch_of : ℕ → Option Stretch
stretch_of n = find (λ (s : Stretch). nat_lt n s.end) layout

-- the place of a number in its stretch; past the last there are no more rules
abbrev pub place_in : Option Stretch → ℕ → Place
place_in None n = ByRule n
place_in (Some s) n = if s.are_rules then ByRule (n - s.others) else Made (n - s.others)

-- where a numbered constant stands: among the symbols, or among the rules
abbrev pub place_of : ℕ → Place
place_of n = place_in (stretch_of n) n

-- the rule at a place
abbrev pub rule_in : Place → Option Rule
rule_in (Made i) = None
rule_in (ByRule i) = at the_rules i

-- the type at a place
abbrev pub type_in : Place → Option Tree
type_in (Made i) = at constant_types i
type_in (ByRule i) = option_map rule_type (at the_rules i)

-- the rule of a number
abbrev pub rule_at : ℕ → Option Rule
rule_at n = rule_in (place_of n)

-- how many parameters a numbered constant has; those that are no rules have none
abbrev pub parameters_of : ℕ → ℕ
parameters_of n = option_map_or (λ r. length r.parameters) (rule_at n) 0

-- all signatures of word arithmetic, each a part of the next
abbrev pub signatures : List WordSignature
signatures = Sigma1 ∷ Sigma2 ∷ Sigma3 ∷ []

-- the longest, of which each signature is a prefix (`declared-longest`); theorems on all of them are stated over it
abbrev pub Longest : WordSignature
Longest = Sigma3

-- how many numbered constants a signature has: it has the first ones
abbrev pub size_of : WordSignature → ℕ
size_of Sigma1 = XOR
size_of Sigma2 = SUB_LO
size_of Sigma3 = COUNT

-- how many parameters each numbered constant has, as weights go by them
abbrev pub parameter_counts : List ℕ
parameter_counts =
    0 ∷ 0 ∷ 0 ∷ 0 ∷ 0 ∷ 0 ∷ 0 ∷ 0 ∷ 0 ∷ 0 ∷
    0 ∷ 0 ∷ 0 ∷ 0 ∷ 0 ∷ 0 ∷ 0 ∷ 0 ∷ 0 ∷ 0 ∷
    0 ∷ 0 ∷ 0 ∷ 0 ∷ 0 ∷ 0 ∷ 0 ∷ 0 ∷ 1 ∷ 2 ∷
    2 ∷ 2 ∷ 2 ∷ 2 ∷ 3 ∷ 2 ∷ 2 ∷ 1 ∷ 1 ∷ 2 ∷
    1 ∷ 2 ∷ 1 ∷ 3 ∷ 3 ∷ 4 ∷ 2 ∷ 3 ∷ 1 ∷ 2 ∷
    2 ∷ 2 ∷ 3 ∷ 1 ∷ 2 ∷ 1 ∷ 1 ∷ 2 ∷ 1 ∷ 3 ∷
    3 ∷ 1 ∷ 1 ∷ 1 ∷ 3 ∷ 2 ∷ 3 ∷ 3 ∷ 2 ∷ 2 ∷
    2 ∷ 1 ∷ 4 ∷ 2 ∷ 2 ∷ 2 ∷ 2 ∷ 2 ∷ 2 ∷ 2 ∷
    2 ∷ 2 ∷ 2 ∷ 2 ∷ 2 ∷ 2 ∷ 2 ∷ 2 ∷
    -- those of the later operators and rules
    0 ∷ 0 ∷ 0 ∷ 0 ∷ 0 ∷ 0 ∷ 0 ∷ 0 ∷
    1 ∷ 2 ∷ 2 ∷ 2 ∷ 2 ∷ 2 ∷ 2 ∷ 2 ∷
    3 ∷ []

-- the same of a signature's
abbrev pub places_of : WordSignature → List ℕ
places_of s = take (size_of s) parameter_counts

-- the profile whose operators a signature has
abbrev pub operators_of : WordSignature → Profile
operators_of Sigma1 = One
operators_of Sigma2 = Two
operators_of Sigma3 = Two

-- how many operators: it has the first ones
abbrev pub op_count_of : WordSignature → ℕ
op_count_of s = op_count (operators_of s)

-- the operator that evaluations name by a number
abbrev pub op_in : WordSignature → ℕ → Option Op
op_in s o = if nat_lt o (op_count_of s) then op_of o else None

-- whether a number is a 64-bit word
abbrev pub is_word : ℕ → Bool
is_word w = nat_lt w (2 ^ 64)

-- that the operator gives this word
abbrev pub calc_type : Op → ℕ → ℕ → Tree
calc_type o x y = pf (rel_term Eq (op_term o (lit x) (lit y)) (lit (word_of o x y)))

-- that the relation holds
abbrev pub fact_type : Rel → ℕ → ℕ → Tree
fact_type r x y = pf (rel_term r (lit x) (lit y))

-- that it doesn't
abbrev pub deny_type : Rel → ℕ → ℕ → Tree
deny_type r x y = pf (not_term (rel_term r (lit x) (lit y)))

-- The type that a signature declares for a constant. Numbers past its last have none, nor have a literal that is no word, an operator or relation
-- that is none of it, what is claimed wrongly of a relation, and a lemma.
abbrev pub declared : WordSignature → Const → Option Tree
declared s (Num n) = if nat_lt n (size_of s) then type_in (place_of n) else None
declared s (Lit w) = if is_word w then Some exp else None
declared s (Calc o x y) = bind (op_in s o) (λ p. if is_word x && is_word y then Some (calc_type p x y) else None)
declared s (Fact r x y) = bind (rel_of r) (λ p. if (is_word x && is_word y) && test_of p x y then Some (fact_type p x y) else None)
declared s (Deny r x y) = bind (rel_of r) (λ p. if (is_word x && is_word y) && not (test_of p x y) then Some (deny_type p x y) else None)
declared s (Lemma n) = None
