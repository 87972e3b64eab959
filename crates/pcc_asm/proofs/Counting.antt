-- The container of a source has few entries. A leaf with a number below 500 of its own can stand there once; each other entry
-- costs two bytes of the invariants' texts.
use Rattle.std.proofs.Common.{◌≡◌, ⊎_elim, ℕ, zero, suc, ◌+◌, ◌-◌, ◌*◌, ◌<◌, ◌≤◌, Bool, true, false, leb, cond, List, [], ◌∷◌, ◌++◌, length, map, Option, Some, None, refl, sym, ap, ◌∙◌, subst, arith}
use Rattle.std.specs.Prelude.{◌||◌, ◌&&◌, nat_lt, ◌==◌, slice_get}
use Rattle.std.specs.Option.{option_map}
use Rattle.std.specs.List.{AllByRecursion, list_any, IsDistinct}
use Rattle.std.specs.Str.{bytes_eq}
use Rattle.std.proofs.lemmas.Bool.{lt-ltb, le-ltb, leb-true, ltb-true, ltb-false, eqb-true, and_parts, false_from_ne_true}
use Rattle.std.proofs.lemmas.Option.{same_Some}
use Rattle.std.proofs.lemmas.Int.Digits.{digits_value-lt}
use Rattle.std.proofs.lemmas.Map.Steps.{length-le_from_distinct_below}
use Rattle.word_ops.specs.declared.Op.{Op}
use Rattle.word_ops.specs.declared.Rel.{Rel}
use Rattle.word_ops.specs.declared.Rel.TheVariants as R
use Rattle.formula_tree.specs.Formulas.{Exp, EReg, ELeft, EVar, ELit, EOp, ESel, MemExp, MMem, MVar, MUpd, Form, FTrue, FFalse, FRel, FRd, FWr, FAnd, FOr, FImp, FAll, FAllm}
use Rattle.formula_tree.specs.Substitution.{shift_substitution, subst_form}
use Rattle.text_tokens.specs.declared.parens.Paren.{Paren}
use Rattle.text_tokens.specs.Tokens.{Token, Lexeme}
use Rattle.text_tokens.specs.Numbers.{IsNumber}
use Rattle.text_tokens.specs.Registers.{registers, IsRegister}
use Rattle.formula_text.specs.declared.keywords.PhraseSort.{PhraseSort}
use Rattle.formula_text.specs.declared.keywords.PhraseSort.TheVariants as S
use Rattle.formula_text.specs.declared.keywords.Keyword.TheVariants as K
use Rattle.formula_text.specs.Keywords.{relation_text}
use Rattle.formula_text.specs.Bindings.{is_name, Bindings, nearest_binding}
use Rattle.formula_text.specs.Grammar.{SpellsExp, SpellsMem, SpellsForm}
use Rattle.term_table.specs.Tree.{Tree, Var, Con, App, Lam, Fam, TApp, Pi, Const, Num, Lit, Calc, Fact, Deny, Lemma}
use Rattle.term_table.specs.Table.{tree_in, AreDifferent}
use Rattle.lf_signature.specs.declared.numbers.TheConstants.{ALL, ALLM, AND, FIRST_RULE, IMP, OR, RD, SEL, UPD, WR}
use Rattle.word_ops.specs.Operators.{op_constant, op_keyword}
use Rattle.word_ops.proofs.EachOp.{each_op}
use Rattle.lf_signature.specs.Numbers.{rel_constant}
use Rattle.lf_encode.specs.Encoding.{exp_encoding, mem_encoding, form_encoding}
use Rattle.lf_encode.specs.Contexts.{machine_context, machine_names, encoding_in}
use Rattle.lf_encode.specs.Naming.{named_exp, named_mem, named_form}
use Rattle.lf_encode.proofs.Naming.{named_form-is}
use Rattle.lf_encode.proofs.MachineContext.{bound_sorts-machine}
use Rattle.proof_container.specs.Postorder.{is_emitted, emitted_with, emitted_with_all, entries}
use Rattle.proof_container.proofs.Walks.{entries_grow, ArePostorder-different}
use Rattle.pcc_asm.specs.Assembling.{inv_encodings}
use Rattle.pcc_asm.proofs.Ranges.{IsTextual}
use Rattle.pcc_asm.proofs.Heights.{size, size-append, size-two, size-one, size-within}
use Rattle.word_ops.specs.declared.Profile.{Profile}

-- ---- leaves with a number of their own, and what else there is

abbrev const_number : Const → Option ℕ
const_number (Num n) = cond (nat_lt n FIRST_RULE) (Some n) None
const_number (Lit w) = cond (nat_lt w 100) (Some (FIRST_RULE + w)) None
const_number (Calc o a b) = None
const_number (Fact p a b) = None
const_number (Deny p a b) = None
const_number (Lemma n) = None

abbrev leaf_number : Tree → Option ℕ
leaf_number (Var n) = cond (nat_lt n 373) (Some (127 + n)) None
leaf_number (Con c) = const_number c
leaf_number (App f a) = None
leaf_number (Lam b) = None
leaf_number (Fam a) = None
leaf_number (TApp p a) = None
leaf_number (Pi a b) = None

abbrev weigh : Option ℕ → ℕ
weigh None = 1
weigh (Some n) = 0

abbrev pub heavy : Tree → ℕ
heavy (Var n) = weigh (leaf_number (Var n))
heavy (Con c) = weigh (const_number c)
heavy (App f a) = suc (heavy f + heavy a)
heavy (Lam b) = suc (heavy b)
heavy (Fam a) = 1
heavy (TApp p a) = suc (heavy p + heavy a)
heavy (Pi a b) = suc (heavy a + heavy b)

-- how many have no number
abbrev many : List Tree → ℕ
many [] = 0
many (t ∷ ts) = weigh (leaf_number t) + many ts

many-last : (ts : List Tree) (t : Tree) → many (ts ++ t ∷ []) ≡ many ts + weigh (leaf_number t)
many-last [] t = omega arith
many-last (u ∷ ts) t = let h = many-last ts t in omega (arith, h)

-- ---- a walk lists few that have none

unless_few : (b : Bool) (t : Tree) (ts more : List Tree) (k n : ℕ) → many more ≤ many ts + k → weigh (leaf_number t) + k ≤ n → many (cond b ts (more ++ t ∷ [])) ≤ many ts + n
unless_few true t ts more k n h g = omega (arith, h, g)
unless_few false t ts more k n h g = let e = many-last more t in omega (arith, h, g, e)

emitted_few : (t : Tree) (ts : List Tree) → many (emitted_with t ts) ≤ many ts + heavy t
emitted_few (Var n) ts = unless_few (is_emitted (Var n) ts) (Var n) ts ts 0 (heavy (Var n)) (omega arith) (omega arith)
emitted_few (Con c) ts = unless_few (is_emitted (Con c) ts) (Con c) ts ts 0 (heavy (Con c)) (omega arith) (omega arith)
emitted_few (App f a) ts =
    let h = emitted_few f ts in
    let g = emitted_few a (emitted_with f ts) in
    unless_few (is_emitted (App f a) ts) (App f a) ts (emitted_with a (emitted_with f ts)) (heavy f + heavy a) (suc (heavy f + heavy a)) (omega (arith, h, g)) (omega arith)
emitted_few (Lam b) ts = unless_few (is_emitted (Lam b) ts) (Lam b) ts (emitted_with b ts) (heavy b) (suc (heavy b)) (emitted_few b ts) (omega arith)
emitted_few (Fam a) ts = unless_few (is_emitted (Fam a) ts) (Fam a) ts ts 0 1 (omega arith) (omega arith)
emitted_few (TApp p a) ts =
    let h = emitted_few p ts in
    let g = emitted_few a (emitted_with p ts) in
    unless_few (is_emitted (TApp p a) ts) (TApp p a) ts (emitted_with a (emitted_with p ts)) (heavy p + heavy a) (suc (heavy p + heavy a)) (omega (arith, h, g)) (omega arith)
emitted_few (Pi a b) ts =
    let h = emitted_few a ts in
    let g = emitted_few b (emitted_with a ts) in
    unless_few (is_emitted (Pi a b) ts) (Pi a b) ts (emitted_with b (emitted_with a ts)) (heavy a + heavy b) (suc (heavy a + heavy b)) (omega (arith, h, g)) (omega arith)

abbrev AllLight : List Tree → Type 0
AllLight rs = AllByRecursion (λ t. heavy t ≤ 1022) rs

all_few : (rs ts : List Tree) → AllLight rs → many (emitted_with_all rs ts) ≤ many ts + 1022 * length rs
all_few [] ts h = omega arith
all_few (r ∷ rs) ts h =
    let a = emitted_few r ts in
    let b = all_few rs (emitted_with r ts) h.1 in
    omega (arith, a, b, h.0)

-- ---- and few that have one

abbrev put : Option ℕ → List ℕ → List ℕ
put None ns = ns
put (Some n) ns = n ∷ ns

-- the numbers of those that have one
abbrev numbers : List Tree → List ℕ
numbers [] = []
numbers (t ∷ ts) = put (leaf_number t) (numbers ts)

length-put : (o : Option ℕ) (ns : List ℕ) (n m : ℕ) → n ≡ length ns + m → suc n ≡ length (put o ns) + (weigh o + m)
length-put None ns n m e = omega (arith, e)
length-put (Some k) ns n m e = omega (arith, e)

length-split : (ts : List Tree) → length ts ≡ length (numbers ts) + many ts
length-split [] = refl
length-split (t ∷ ts) = length-put (leaf_number t) (numbers ts) (length ts) (many ts) (length-split ts)

-- the leaf of a number
abbrev leaf_of : ℕ → Tree
leaf_of n = cond (nat_lt n FIRST_RULE) (Con (Num n)) (cond (nat_lt n 127) (Con (Lit (n - FIRST_RULE))) (Var (n - 127)))

-- the tree is the number's leaf
abbrev IsLeafOf : ℕ → Tree → Type 0
IsLeafOf n t = (t ≡ leaf_of n) × (n < 500)

some_same : (x y : ℕ) → Some x ≡ Some y → x ≡ y
some_same x y e = cc

var_leaf : (k n : ℕ) (b : Bool) → nat_lt k 373 ≡ b → cond b (Some (127 + k)) None ≡ Some n → IsLeafOf n (Var k)
var_leaf k n false f e = cc
var_leaf k n true f e =
    let l : k < 373 = ltb-true k 373 f in
    let z : 127 + k ≡ n = some_same _ _ e in
    let d : k ≡ n - 127 = omega (arith, z) in
    (ap Var d ∙ sym (ap (λ b. cond b (Con (Num n)) (cond (nat_lt n 127) (Con (Lit (n - FIRST_RULE))) (Var (n - 127)))) (le-ltb n FIRST_RULE (omega (arith, z))) ∙ ap (λ b. cond b (Con (Lit (n - FIRST_RULE))) (Var (n - 127))) (le-ltb n 127 (omega (arith, z)))), omega (arith, l, z))

num_leaf : (k n : ℕ) (b : Bool) → nat_lt k FIRST_RULE ≡ b → cond b (Some k) None ≡ Some n → IsLeafOf n (Con (Num k))
num_leaf k n false f e = cc
num_leaf k n true f e =
    let l : k < FIRST_RULE = ltb-true k FIRST_RULE f in
    let z : k ≡ n = some_same _ _ e in
    (ap (λ x. Con (Num x)) z ∙ sym (ap (λ b. cond b (Con (Num n)) (cond (nat_lt n 127) (Con (Lit (n - FIRST_RULE))) (Var (n - 127)))) (lt-ltb n FIRST_RULE (omega (arith, l, z)))), omega (arith, l, z))

lit_leaf : (k n : ℕ) (b : Bool) → nat_lt k 100 ≡ b → cond b (Some (FIRST_RULE + k)) None ≡ Some n → IsLeafOf n (Con (Lit k))
lit_leaf k n false f e = cc
lit_leaf k n true f e =
    let l : k < 100 = ltb-true k 100 f in
    let z : FIRST_RULE + k ≡ n = some_same _ _ e in
    let d : k ≡ n - FIRST_RULE = omega (arith, z) in
    (ap (λ x. Con (Lit x)) d ∙ sym (ap (λ b. cond b (Con (Num n)) (cond (nat_lt n 127) (Con (Lit (n - FIRST_RULE))) (Var (n - 127)))) (le-ltb n FIRST_RULE (omega (arith, z))) ∙ ap (λ b. cond b (Con (Lit (n - FIRST_RULE))) (Var (n - 127))) (lt-ltb n 127 (omega (arith, l, z)))), omega (arith, l, z))

const_leaf : (c : Const) (n : ℕ) → const_number c ≡ Some n → IsLeafOf n (Con c)
const_leaf (Num k) n e = num_leaf k n (nat_lt k FIRST_RULE) refl e
const_leaf (Lit w) n e = lit_leaf w n (nat_lt w 100) refl e
const_leaf (Calc o a b) n e = cc
const_leaf (Fact p a b) n e = cc
const_leaf (Deny p a b) n e = cc
const_leaf (Lemma k) n e = cc

is_leaf : (t : Tree) (n : ℕ) → leaf_number t ≡ Some n → IsLeafOf n t
is_leaf (Var k) n e = var_leaf k n (nat_lt k 373) refl e
is_leaf (Con c) n e = const_leaf c n e
is_leaf (App f a) n e = cc
is_leaf (Lam b) n e = cc
is_leaf (Fam a) n e = cc
is_leaf (TApp p a) n e = cc
is_leaf (Pi a b) n e = cc

one_leaf : (t u : Tree) (n m : ℕ) → leaf_number t ≡ Some n → leaf_number u ≡ Some m → n ≡ m → t ≡ u
one_leaf t u n m e f g = (is_leaf t n e).0 ∙ ap leaf_of g ∙ sym (is_leaf u m f).0

-- the tree isn't among these
abbrev IsApart : Tree → List Tree → Type 0
IsApart t ts = (j : ℕ) → j < length ts → t ≡ tree_in ts j → ⊥

put_apart : (t u : Tree) (n : ℕ) (ns : List ℕ) (o : Option ℕ) → leaf_number t ≡ Some n → leaf_number u ≡ o → (t ≡ u → ⊥) → AllByRecursion (λ m. (n == m) ≡ false) ns → AllByRecursion (λ m. (n == m) ≡ false) (put o ns)
put_apart t u n ns None e f h g = g
put_apart t u n ns (Some m) e f h g = (false_from_ne_true (n == m) (λ s. h (one_leaf t u n m e f (eqb-true n m s))), g)

numbers_apart : (t : Tree) (n : ℕ) (ts : List Tree) → leaf_number t ≡ Some n → IsApart t ts → AllByRecursion (λ m. (n == m) ≡ false) (numbers ts)
numbers_apart t n [] e h = tt
numbers_apart t n (u ∷ ts) e h = put_apart t u n (numbers ts) (leaf_number u) e refl (h 0 (omega arith)) (numbers_apart t n ts e (λ j l. h (suc j) (omega (arith, l))))

put_distinct : (t : Tree) (ts : List Tree) (o : Option ℕ) → leaf_number t ≡ o → IsApart t ts → IsDistinct (λ n m. n == m) (numbers ts) → IsDistinct (λ n m. n == m) (put o (numbers ts))
unfolding IsDistinct
put_distinct t ts None e h d = d
put_distinct t ts (Some n) e h d = (numbers_apart t n ts e h, d)

rest_different : (t : Tree) (ts : List Tree) → AreDifferent (t ∷ ts) → AreDifferent ts
rest_different t ts d i j a b e = let s : suc i ≡ suc j = d (suc i) (suc j) (omega (arith, a)) (omega (arith, b)) e in omega (arith, s)

first_apart : (t : Tree) (ts : List Tree) → AreDifferent (t ∷ ts) → IsApart t ts
first_apart t ts d j l e = let s : 0 ≡ suc j = d 0 (suc j) (omega arith) (omega (arith, l)) e in absurd (omega (arith, s))

numbers_distinct : (ts : List Tree) → AreDifferent ts → IsDistinct (λ n m. n == m) (numbers ts)
unfolding IsDistinct
numbers_distinct [] d = tt
numbers_distinct (t ∷ ts) d = put_distinct t ts (leaf_number t) refl (first_apart t ts d) (numbers_distinct ts (rest_different t ts d))

either : (a b : Bool) → (a || b) ≡ true → (P : Type 0) → (a ≡ true → P) → (b ≡ true → P) → P
either true b e P f g = f refl
either false b e P f g = g e

put_below : (t : Tree) (o : Option ℕ) (ns : List ℕ) (q : ℕ) → leaf_number t ≡ o → (list_any (λ n. q == n) ns ≡ true → q < 500) → list_any (λ n. q == n) (put o ns) ≡ true → q < 500
put_below t None ns q e h a = h a
put_below t (Some n) ns q e h a = either (q == n) (list_any (λ m. q == m) ns) a (q < 500) (λ s. let l = (is_leaf t n e).1 in let z : q ≡ n = eqb-true q n s in omega (arith, l, z)) h

numbers_below : (ts : List Tree) (q : ℕ) → list_any (λ n. q == n) (numbers ts) ≡ true → q < 500
numbers_below [] q a = cc
numbers_below (t ∷ ts) q a = put_below t (leaf_number t) (numbers ts) q refl (numbers_below ts q) a

roots_few : (rs : List Tree) → AllLight rs → length rs ≤ 256 → length (entries rs) ≤ 262144
unfolding entries
roots_few rs h n =
    let es = entries rs in
    let split = length-split es in
    let one = length-le_from_distinct_below (numbers es) 500 (numbers_distinct es (ArePostorder-different es (entries_grow rs))) (numbers_below es) in
    let none = all_few rs [] h in
    omega (arith, n, split, one, none)

-- ---- an encoding costs two bytes for each that has none

-- an operator's constant has a number, or a keyword of three bytes or more
op_light : (o : Op) → heavy (Con (Num (op_constant o))) ≤ 1
op_light o =
    leb-true (heavy (Con (Num (op_constant o)))) 1
    (each_op (λ p. leb (heavy (Con (Num (op_constant p)))) 1) refl o)

rel_light : (p : Rel) → heavy (Con (Num (rel_constant p))) ≡ 0
rel_light R.Eq = refl
rel_light R.Ult = refl
rel_light R.Ule = refl
rel_light R.Slt = refl
rel_light R.Sle = refl

op_long : (o : Op) → 2 + heavy (Con (Num (op_constant o))) ≤ length (op_keyword o)
op_long o =
    leb-true (2 + heavy (Con (Num (op_constant o)))) (length (op_keyword o))
    (each_op (λ p. leb (2 + heavy (Con (Num (op_constant p)))) (length (op_keyword p))) refl o)

rel_long : (p : Rel) → 2 ≤ length (relation_text p)
rel_long R.Eq = omega arith
rel_long R.Ult = omega arith
rel_long R.Ule = omega arith
rel_long R.Slt = omega arith
rel_long R.Sle = omega arith

-- a head that has a number, and what it is applied to
two_heavy : (a b c k l m n : ℕ) → c ≡ 0 → 2 ≤ k → 2 * a < l → 2 * b < m → n ≡ 2 + (k + (l + m)) → 2 * suc (suc (c + a) + b) < n
two_heavy a b c k l m n z h x y e = omega (arith, z, h, x, y, e)

-- an operator's constant may have none
op_heavy : (a b c k l m n : ℕ) → c ≤ 1 → 2 + c ≤ k → 2 * a < l → 2 * b < m
    → n ≡ 2 + (k + (l + m)) → 2 * suc (suc (c + a) + b) < n
op_heavy a b c k l m n z h x y e = omega (arith, z, h, x, y, e)

pair_heavy : (a b c k l m n : ℕ) → c ≡ 0 → 2 ≤ k → 2 * a ≤ l → 2 * b ≤ m → n ≡ 2 + (k + (l + m)) → 2 * suc (suc (c + a) + b) ≤ n
pair_heavy a b c k l m n z h x y e = omega (arith, z, h, x, y, e)

one_heavy : (a c k l n : ℕ) → c ≡ 0 → 2 ≤ k → 2 * a < l → n ≡ 2 + (k + l) → 2 * suc (c + a) ≤ n
one_heavy a c k l n z h x e = omega (arith, z, h, x, e)

three_heavy : (a b d c k l m o n p : ℕ) → c ≡ 0 → 3 ≤ k → 2 * a < l → 2 * b < m → 2 * d < o → p ≡ l + m → n ≡ 2 + (k + (p + o)) → 2 * suc (suc (suc (c + a) + b) + d) < n
three_heavy a b d c k l m o n p z h x y w q e = omega (arith, z, h, x, y, w, q, e)

binder_heavy : (a c k x l n : ℕ) → c ≡ 0 → 3 ≤ k → 2 * a ≤ l → n ≡ 2 + (k + (x + l)) → 2 * suc (c + suc a) ≤ n
binder_heavy a c k x l n z h y e = omega (arith, z, h, y, e)

var_light : (k : ℕ) → k < 373 → heavy (Var k) ≡ 0
var_light k h = ap (λ b. weigh (cond b (Some (127 + k)) None)) (lt-ltb k 373 h)

none_heavy : (t : Tree) (n : ℕ) → heavy t ≡ 0 → 1 ≤ n → 2 * heavy t < n
none_heavy t n e h = omega (arith, e, h)

reg_light : (d r : ℕ) (b : Bool) → d ≤ 340 → heavy (exp_encoding (cond b (EVar ((30 - r) + d)) (ELit 0))) ≡ 0
reg_light d r true h = var_light ((30 - r) + d) (omega (arith, h))
reg_light d r false h = refl

binding_by : (t : Bool) (b : PhraseSort) (o : Option (ℕ × PhraseSort)) (p : ℕ × PhraseSort) (n : ℕ) → cond t (Some (0, b)) (option_map (λ q. (suc q.0, q.1)) o) ≡ Some p → ((q : ℕ × PhraseSort) → o ≡ Some q → q.0 < n) → p.0 < suc n
binding_by true b o p n e h = let z : (0, b) ≡ p = pair_same (0, b) p e in let f : 0 ≡ p.0 = ap (λ q. q.0) z in omega (arith, f) where
  pair_same : (x y : ℕ × PhraseSort) → Some x ≡ Some y → x ≡ y
  pair_same x y e = cc
binding_by false b None p n e h = cc
binding_by false b (Some q) p n e h = let z : (suc q.0, q.1) ≡ p = pair_same (suc q.0, q.1) p e in let f : suc q.0 ≡ p.0 = ap (λ q. q.0) z in let l = h q refl in omega (arith, f, l) where
  pair_same : (x y : ℕ × PhraseSort) → Some x ≡ Some y → x ≡ y
  pair_same x y e = cc

binding_below : (s : Bindings) (x : List ℕ) (p : ℕ × PhraseSort) → nearest_binding s x ≡ Some p → p.0 < length s
binding_below [] x p e = cc
binding_below (b ∷ s) x p e = binding_by (bytes_eq b.0 x) b.1 (nearest_binding s x) p (length s) e (λ q f. binding_below s x q f)

number_some : (w : List ℕ) (n : ℕ) → IsNumber w n → 1 ≤ length w
number_some w n h = ⊎_elim (λ p. p.0.0) (λ p. let e = ap length p.1 in omega (arith, e)) h

number_long : (w : List ℕ) (n : ℕ) → IsNumber w n → 100 ≤ n → 3 ≤ length w
number_long [] n h l = let k = number_some [] n h in absurd (omega (arith, k))
number_long (b ∷ []) n h l = ⊎_elim (λ p. let k = digits_value-lt 10 (b ∷ []) p.0.1 in absurd (omega (arith, k, p.1, l))) (λ p. let e = ap length p.1 in absurd (omega (arith, e))) h
number_long (b ∷ c ∷ []) n h l = ⊎_elim (λ p. let k = digits_value-lt 10 (b ∷ c ∷ []) p.0.1 in absurd (omega (arith, k, p.1, l))) (λ p. let e = ap length p.1 in absurd (omega (arith, e, p.2.0))) h
number_long (b ∷ c ∷ d ∷ w) n h l = omega arith

lit_by : (n m : ℕ) (b : Bool) → nat_lt n 100 ≡ b → 1 ≤ m → (100 ≤ n → 3 ≤ m) → 2 * weigh (cond b (Some (FIRST_RULE + n)) None) < m
lit_by n m true e s h = omega (arith, s)
lit_by n m false e s h = let l = h (ltb-false n 100 e) in omega (arith, l)

name_some : (prof : Profile) (left : Bool) (x : List ℕ) → is_name prof left x ≡ true → 1 ≤ length x
unfolding is_name
name_some prof left [] e = cc
name_some prof left (b ∷ x) e = omega arith

-- whether each register's other name has a byte
abbrev are_named : List (List ℕ × List ℕ) → Bool
are_named [] = true
are_named (row ∷ rows) = nat_lt 0 (length row.1) && are_named rows

registers-named : are_named registers ≡ true
unfolding registers
registers-named = refl

row_named : (rows : List (List ℕ × List ℕ)) (r : ℕ) (row : List ℕ × List ℕ) → are_named rows ≡ true → slice_get rows r ≡ Some row → 1 ≤ length row.1
row_named [] r row h e = cc
row_named (x ∷ rows) zero row h e = let p = and_parts (nat_lt 0 (length x.1)) (are_named rows) h in subst (λ (y : List ℕ × List ℕ). 1 ≤ length y.1) (same_Some x row e) (ltb-true 0 (length x.1) p.0)
row_named (x ∷ rows) (suc r) row h e = row_named rows r row (and_parts (nat_lt 0 (length x.1)) (are_named rows) h).1 e

register_some : (r : ℕ) (w : List ℕ) → IsRegister r w → 1 ≤ length w
register_some r w h =
    ⊎_elim (λ e. let l = ap length e in omega (arith, l))
    (λ q. ⊎_elim (λ e. let l = ap length e in omega (arith, l)) (λ e. let l = ap length e in let k = row_named registers r h.0 registers-named h.1 in omega (arith, l, k)) q) h.2

-- the tokens stand in a line, under so many binders
abbrev IsRoom : ℕ → ℕ → Type 0
IsRoom d n = 6 * d + n ≤ 2044

mutual
  exp_cost : (prof : Profile) (left : Bool) (a : Exp) (s : Bindings) (ts : List (Token Paren))
      → SpellsExp prof left a s ts → IsRoom (length s) (size ts)
      → 2 * heavy (exp_encoding (named_exp (length s) a)) < size ts
  exp_cost prof left (EReg r) s ts h room =
      let e = ap size h.2 in
      let l = register_some r h.0 h.1 in
      let z = reg_light (length s) r (nat_lt r 31) (omega (arith, room)) in
      omega (arith, z, e, l)
  exp_cost prof left ELeft s ts h room =
      let e = ap size h.1 in
      none_heavy (Var (32 + length s)) (size ts) (var_light (32 + length s) (omega (arith, e, room)))
      (omega (arith, e))
  exp_cost prof left (EVar n) s ts h room =
      let e = ap size h.3 in
      let x = name_some prof left h.0 h.1 in
      let l = binding_below s h.0 (n, S.Exp) h.2 in
      none_heavy (Var n) (size ts) (var_light n (omega (arith, l, room))) (omega (arith, e, x))
  exp_cost prof left (ELit n) s ts h room =
      let e = ap size h.3 in
      let l = lit_by n (length h.0) (nat_lt n 100) refl (number_some h.0 n h.1) (number_long h.0 n h.1) in
      omega (arith, e, l)
  exp_cost prof left (EOp o a b) s ts h room =
      let z = size-two (K.Oper o) h.0 h.1 ts h.4 in
      let l = exp_cost prof left a s h.0 h.2 (omega (arith, z, room)) in
      let r = exp_cost prof left b s h.1 h.3 (omega (arith, z, room)) in
      op_heavy _ _ _ (length (op_keyword o)) (size h.0) (size h.1) (size ts) (op_light o)
      (op_long o) l r z
  exp_cost prof left (ESel m a) s ts h room =
      let z = size-two K.Sel h.0 h.1 ts h.4 in
      let l = mem_cost prof left m s h.0 h.2 (omega (arith, z, room)) in
      let r = exp_cost prof left a s h.1 h.3 (omega (arith, z, room)) in
      two_heavy _ _ (heavy (Con (Num SEL))) 3 (size h.0) (size h.1) (size ts) refl (omega arith) l r z

  mem_cost : (prof : Profile) (left : Bool) (m : MemExp) (s : Bindings) (ts : List (Token Paren))
      → SpellsMem prof left m s ts → IsRoom (length s) (size ts)
      → 2 * heavy (mem_encoding (named_mem (length s) m)) < size ts
  mem_cost prof left MMem s ts h room =
      let e = ap size h in none_heavy (Var (31 + length s)) (size ts)
      (var_light (31 + length s) (omega (arith, room))) (omega (arith, e))
  mem_cost prof left (MVar n) s ts h room =
      let e = ap size h.3 in
      let x = name_some prof left h.0 h.1 in
      let l = binding_below s h.0 (n, S.Mem) h.2 in
      none_heavy (Var n) (size ts) (var_light n (omega (arith, l, room))) (omega (arith, e, x))
  mem_cost prof left (MUpd m a v) s ts h room =
      let y = size-append h.0 h.1 in
      let z = size-two K.Upd (h.0 ++ h.1) h.2 ts h.6 in
      let l = mem_cost prof left m s h.0 h.3 (omega (arith, y, z, room)) in
      let r = exp_cost prof left a s h.1 h.4 (omega (arith, y, z, room)) in
      let w = exp_cost prof left v s h.2 h.5 (omega (arith, y, z, room)) in
      three_heavy _ _ _ (heavy (Con (Num UPD))) 3 (size h.0) (size h.1) (size h.2) (size ts) (size (h.0 ++ h.1)) refl (omega arith) l r w y z

form_cost : (prof : Profile) (left : Bool) (F : Form) (s : Bindings) (ts : List (Token Paren))
    → SpellsForm prof left F s ts → IsRoom (length s) (size ts)
    → 2 * heavy (form_encoding (named_form (length s) F)) ≤ size ts
form_cost prof left FTrue s ts h room = omega arith
form_cost prof left FFalse s ts h room = omega arith
form_cost prof left (FRel p a b) s ts h room =
    let z = size-two (K.Rel p) h.0 h.1 ts h.4 in
    let l = exp_cost prof left a s h.0 h.2 (omega (arith, z, room)) in
    let r = exp_cost prof left b s h.1 h.3 (omega (arith, z, room)) in
    pair_heavy _ _ _ (length (relation_text p)) (size h.0) (size h.1) (size ts) (rel_light p) (rel_long p) (omega (arith, l)) (omega (arith, r)) z
form_cost prof left (FRd a) s ts h room =
    let z = size-one K.Rd h.0 ts h.2 in
    let l = exp_cost prof left a s h.0 h.1 (omega (arith, z, room)) in
    one_heavy _ (heavy (Con (Num RD))) 2 (size h.0) (size ts) refl (omega arith) l z
form_cost prof left (FWr a) s ts h room =
    let z = size-one K.Wr h.0 ts h.2 in
    let l = exp_cost prof left a s h.0 h.1 (omega (arith, z, room)) in
    one_heavy _ (heavy (Con (Num WR))) 2 (size h.0) (size ts) refl (omega arith) l z
form_cost prof left (FAnd A B) s ts h room =
    let z = size-two K.And h.0 h.1 ts h.4 in
    let l = form_cost prof left A s h.0 h.2 (omega (arith, z, room)) in
    let r = form_cost prof left B s h.1 h.3 (omega (arith, z, room)) in
    pair_heavy _ _ (heavy (Con (Num AND))) 3 (size h.0) (size h.1) (size ts) refl (omega arith) l r z
form_cost prof left (FOr A B) s ts h room =
    let z = size-two K.Or h.0 h.1 ts h.4 in
    let l = form_cost prof left A s h.0 h.2 (omega (arith, z, room)) in
    let r = form_cost prof left B s h.1 h.3 (omega (arith, z, room)) in
    pair_heavy _ _ (heavy (Con (Num OR))) 2 (size h.0) (size h.1) (size ts) refl (omega arith) l r z
form_cost prof left (FImp A B) s ts h room =
    let z = size-two K.Imp h.0 h.1 ts h.4 in
    let l = form_cost prof left A s h.0 h.2 (omega (arith, z, room)) in
    let r = form_cost prof left B s h.1 h.3 (omega (arith, z, room)) in
    pair_heavy _ _ (heavy (Con (Num IMP))) 3 (size h.0) (size h.1) (size ts) refl (omega arith) l r z
form_cost prof left (FAll A) s ts h room =
    let z = size-one K.All (Lexeme h.0 ∷ h.1) ts h.4 in
    let x = name_some prof left h.0 h.2 in
    let l = form_cost prof left A ((h.0, S.Exp) ∷ s) h.1 h.3 (omega (arith, z, x, room)) in
    binder_heavy _ (heavy (Con (Num ALL))) 3 (length h.0) (size h.1) (size ts) refl (omega arith) l z
form_cost prof left (FAllm A) s ts h room =
    let z = size-one K.Allm (Lexeme h.0 ∷ h.1) ts h.4 in
    let x = name_some prof left h.0 h.2 in
    let l = form_cost prof left A ((h.0, S.Mem) ∷ s) h.1 h.3 (omega (arith, z, x, room)) in
    binder_heavy _ (heavy (Con (Num ALLM))) 4 (length h.0) (size h.1) (size ts) refl (omega arith) l z

pub encoding-named : (F : Form) → encoding_in machine_context F ≡ form_encoding (named_form 0 F)
encoding-named F = ap form_encoding (ap (λ B. subst_form F (shift_substitution (length B) machine_names)) bound_sorts-machine ∙ named_form-is 0 F)

pub textual_light : (prof : Profile) (left : Bool) (F : Form) → IsTextual prof left F
    → heavy (encoding_in machine_context F) ≤ 1022
textual_light prof left F h =
    let w = size-within h.0 h.2.tokens h.2.consists in
    let c = form_cost prof left F [] h.2.tokens h.2.spelled (omega (arith, w, h.1)) in
    let e = ap heavy (encoding-named F) in
    omega (arith, w, c, e, h.1)

trees_light : (prof : Profile) (left : Bool) (invs : List (ℕ × Form))
    → AllByRecursion (λ x. IsTextual prof left x.1) invs
    → AllLight (map (λ p. p.1) (inv_encodings invs) ++ [])
trees_light prof left [] h = tt
trees_light prof left (v ∷ invs) h = (textual_light prof left v.1 h.0, trees_light prof left invs h.1)

length-trees : (invs : List (ℕ × Form)) → length (map (λ p. p.1) (inv_encodings invs) ++ []) ≡ length invs
length-trees [] = refl
length-trees (v ∷ invs) = ap suc (length-trees invs)

pub entries_few : (prof : Profile) (left : Bool) (invs : List (ℕ × Form)) → length invs ≤ 256
    → AllByRecursion (λ x. IsTextual prof left x.1) invs
    → length (entries (map (λ p. p.1) (inv_encodings invs) ++ [])) ≤ 262144
entries_few prof left invs n h =
    let e = length-trees invs in roots_few (map (λ p. p.1) (inv_encodings invs) ++ [])
    (trees_light prof left invs h) (omega (arith, n, e))
