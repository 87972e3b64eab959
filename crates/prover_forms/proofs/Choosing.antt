-- The rule that is chosen for an operator is the one that rewrites it.
use Rattle.std.proofs.Common.{◌≡◌, ◌↔◌, IsTrue, ℕ, zero, suc, ◌==◌, Bool, true, false, cond, nat_lt, eqb-true, arith, Option, Some, None, IfSome, [], ◌∷◌, refl, sym, ◌∙◌, ap, subst}
use Rattle.term_table.specs.Tree.{Tree}
use Rattle.term_table.specs.Table.{TableView, IsKnown, tree_at}
use Rattle.term_table.specs.Equality.{tree_eq}
use Rattle.term_table.proofs.Equality.{tree_eq_refl, tree_eq-true}
use Rattle.word_ops.specs.declared.Op.{Op}
use Rattle.word_ops.specs.declared.Op.TheVariants.{Add, Sub, Bis, Xor, Bic, S4add, S8add}
use Rattle.formula_tree.specs.Formulas.{Exp, ELit, EOp}
use Rattle.lf_terms.specs.Encoding.{exp_encoding}
use Rattle.lf_terms.specs.ProofTerms.{word_rule}
use Rattle.prover_class.specs.Hypotheses.{same_exp}
use Rattle.prover_class.specs.NormalForms.{whole_step, summand_key, swapped, turned, rewrite_defined, rewrite_at}
use Rattle.prover_forms.specs.declared.rules.Summand.{Summand}
use Rattle.prover_forms.specs.declared.rules.Summand.TheVariants as S
use Rattle.prover_forms.specs.declared.rules.Rule.{Rule}
use Rattle.prover_forms.specs.declared.rules.Rule.TheVariants as L
use Rattle.prover_forms.specs.Rules.{IsRule, IsKnownRule}
use Rattle.prover_forms.specs.Inside.Summands.{IsOther, IsSummand, IsKnownSummand, rule_by_op, rule_at_word, rule_of_sum, rule_before}
use Rattle.lf_signature.specs.declared.numbers.TheConstants.{ADD_COMM, XOR_SELF}

swapped_rule : (t : TableView) (out : ℕ) (x y : Exp) (comes : Bool) → comes ≡ nat_lt (summand_key out y) (summand_key out x)
    → rewrite_at out Add x y ≡ swapped out x y → IsRule t out Add x y (cond comes L.Swapped L.Nothing)
swapped_rule t out x y true e q = q ∙ ap (λ b. cond b (whole_step (EOp Add x y) (EOp Add y x) (word_rule ADD_COMM (x ∷ y ∷ []) [])) []) (sym e)
swapped_rule t out x y false e q = q ∙ ap (λ b. cond b (whole_step (EOp Add x y) (EOp Add y x) (word_rule ADD_COMM (x ∷ y ∷ []) [])) []) (sym e)

no_zero : (n : ℕ) → (suc n == 0) ≡ false
no_zero n = go (suc n == 0) refl
  where
    go : (b : Bool) → (suc n == 0) ≡ b → (suc n == 0) ≡ false
    go true e =
        let no : suc n ≡ 0 = eqb-true (suc n) 0 e in
        absurd (omega (arith, no))
    go false e = e

-- trees are one exactly where their expressions are
pub same_is : (b : Bool) (x y : Exp) (s t : Tree) → s ≡ exp_encoding x → t ≡ exp_encoding y
    → (IsTrue b ↔ (s ≡ t)) → b ≡ same_exp x y
same_is b x y s t qx qy h = go b h (same_exp x y) refl
  where
    go : (b : Bool) → (IsTrue b ↔ (s ≡ t)) → (c : Bool) → same_exp x y ≡ c → b ≡ c
    go true h true q = refl
    go false h false q = refl
    go true h false q =
        let e : exp_encoding x ≡ exp_encoding y = sym qx ∙ h.0 refl ∙ qy in
        let yes : same_exp x y ≡ true =
        ap (λ z. tree_eq z (exp_encoding y)) e ∙ tree_eq_refl (exp_encoding y) in
        sym yes ∙ q
    go false h true q = h.1 (qx ∙ tree_eq-true (exp_encoding x) (exp_encoding y) q ∙ sym qy)

-- an operator that others define, and an exclusive or of an expression with itself
by_op_is : (t : TableView) (out : ℕ) (o : Op) (x y : Exp) (same : Bool) → same ≡ same_exp x y
    → rewrite_at out o x y ≡ rewrite_defined o x y → IsRule t out o x y (rule_by_op o same)
by_op_is t out Xor x y true k q =
    q ∙ ap (λ b. cond b (whole_step (EOp Xor x y) (ELit 0) (word_rule XOR_SELF (x ∷ []) [])) []) (sym k)
by_op_is t out Xor x y false k q =
    q ∙ ap (λ b. cond b (whole_step (EOp Xor x y) (ELit 0) (word_rule XOR_SELF (x ∷ []) [])) []) (sym k)
by_op_is t out S4add x y same k q = q
by_op_is t out S8add x y same k q = q
by_op_is t out Bic x y same k q = q
by_op_is t out o x y same k q = q

-- no word and no sum before a word
other_at_word : (t : TableView) (out : ℕ) (o : Op) (x : Exp) (w : ℕ) (comes same : Bool)
    → IsOther x → comes ≡ nat_lt 32 (summand_key out x) → same ≡ same_exp x (ELit w)
    → IsRule t out o x (ELit w) (rule_at_word o S.Other w comes same)
other_at_word t out o (ELit v) w comes same h e k = absurd h
other_at_word t out o (EOp Add a b) w comes same h e k = absurd h
other_at_word t out Sub x w comes same h e k = refl
other_at_word t out Add x zero comes same h e k = refl
other_at_word t out Add x (suc n) comes same h e k =
    subst (λ b. IsRule t out Add x (ELit (suc n))
    (cond b (L.First 48) (cond comes L.Swapped L.Nothing))) (sym (no_zero n))
    (swapped_rule t out x (ELit (suc n)) comes e refl)
other_at_word t out Bis x zero comes same h e k = refl
other_at_word t out Bis x (suc n) comes same h e k =
    subst (λ b. IsRule t out Bis x (ELit (suc n)) (cond b (L.First 55) L.Nothing))
    (sym (no_zero n)) refl
other_at_word t out o x w comes same h e k = by_op_is t out o x (ELit w) same k refl

sum_at_word : (t : TableView) (out : ℕ) (o : Op) (x y : Exp) (p q w : ℕ) (comes same : Bool)
    → tree_at t p ≡ exp_encoding x → tree_at t q ≡ exp_encoding y
    → same ≡ same_exp (EOp Add x y) (ELit w)
    → IsRule t out o (EOp Add x y) (ELit w) (rule_at_word o (S.Sum p q) w comes same)
sum_at_word t out Sub x y p q w comes same h g k = refl
sum_at_word t out Add x y p q zero comes same h g k = refl
sum_at_word t out Add x y p q (suc n) comes same h g k =
    subst (λ b. IsRule t out Add (EOp Add x y) (ELit (suc n))
    (cond b (L.First 48) (L.Regrouped p q))) (sym (no_zero n))
    (record { left = x; right = y; left_is = h; right_is = g; is = refl })
sum_at_word t out Bis x y p q zero comes same h g k = refl
sum_at_word t out Bis x y p q (suc n) comes same h g k =
    subst (λ b. IsRule t out Bis (EOp Add x y) (ELit (suc n)) (cond b (L.First 55) L.Nothing))
    (sym (no_zero n)) refl
sum_at_word t out o x y p q w comes same h g k =
    by_op_is t out o (EOp Add x y) (ELit w) same k refl

-- the second operand is a word
pub at_word_is : (t : TableView) (out : ℕ) (o : Op) (x : Exp) (first : Summand) (w : ℕ)
    (comes same : Bool) → IsSummand t x first → comes ≡ nat_lt 32 (summand_key out x)
    → same ≡ same_exp x (ELit w)
    → IsRule t out o x (ELit w) (rule_at_word o first w comes same)
at_word_is t out o x (S.Word v) w comes same h e k =
    subst (λ z. IsRule t out o z (ELit w) (L.Value v w)) (sym h) refl
at_word_is t out o x (S.Sum p q) w comes same h e k =
    subst (λ z. IsRule t out o z (ELit w) (rule_at_word o (S.Sum p q) w comes same)) (sym h.is)
    (sum_at_word t out o h.left h.right p q w comes same h.left_is h.right_is
    (k ∙ ap (λ z. same_exp z (ELit w)) h.is))
at_word_is t out o x S.Other w comes same h e k = other_at_word t out o x w comes same h e k

-- a sum before what is no word
sum_before_other : (t : TableView) (out : ℕ) (o : Op) (x y z : Exp) (p q : ℕ)
    (turn : Option (ℕ × ℕ)) (comes same : Bool) → IsOther z → tree_at t p ≡ exp_encoding x
    → tree_at t q ≡ exp_encoding y → same ≡ same_exp (EOp Add x y) z
    → IsRule t out o (EOp Add x y) z (rule_before o (S.Sum p q) turn comes same)
sum_before_other t out o x y (ELit v) p q turn comes same k h g s = absurd k
sum_before_other t out Add x y z p q turn comes same k h g s =
    record { left = x; right = y; left_is = h; right_is = g; is = refl }
sum_before_other t out o x y z p q turn comes same k h g s =
    by_op_is t out o (EOp Add x y) z same s refl

word_before_other : (t : TableView) (out : ℕ) (o : Op) (v : ℕ) (y : Exp) (comes same : Bool)
    → IsOther y → comes ≡ nat_lt (summand_key out y) 32 → same ≡ same_exp (ELit v) y
    → IsRule t out o (ELit v) y (rule_before o (S.Word v) None comes same)
word_before_other t out o v (ELit w) comes same h e k = absurd h
word_before_other t out o v (EOp Add a b) comes same h e k = absurd h
word_before_other t out Add v y comes same h e k = swapped_rule t out (ELit v) y comes e refl
word_before_other t out Bis zero y comes same h e k = refl
word_before_other t out Bis (suc n) y comes same h e k =
    subst (λ b. IsRule t out Bis (ELit (suc n)) y (cond b (L.Second 56) L.Nothing))
    (sym (no_zero n)) refl
word_before_other t out o v y comes same h e k = by_op_is t out o (ELit v) y same k refl

other_before_other : (t : TableView) (out : ℕ) (o : Op) (x y : Exp) (comes same : Bool)
    → IsOther x → IsOther y → comes ≡ nat_lt (summand_key out y) (summand_key out x)
    → same ≡ same_exp x y → IsRule t out o x y (rule_before o S.Other None comes same)
other_before_other t out o (ELit v) y comes same h k e s = absurd h
other_before_other t out o x (ELit w) comes same h k e s = absurd k
other_before_other t out Add (EOp Add a b) y comes same h k e s = absurd h
other_before_other t out Add x (EOp Add a b) comes same h k e s = absurd k
other_before_other t out Add x y comes same h k e s = swapped_rule t out x y comes e refl
other_before_other t out o x y comes same h k e s = by_op_is t out o x y same s refl

-- the second operand is neither a word nor a sum
pub before_other_is : (t : TableView) (out : ℕ) (o : Op) (x y : Exp) (first : Summand)
    (comes same : Bool) → IsSummand t x first → IsOther y
    → comes ≡ nat_lt (summand_key out y) (summand_key out x) → same ≡ same_exp x y
    → IsRule t out o x y (rule_before o first None comes same)
before_other_is t out o x y (S.Word v) comes same h k e s =
    subst (λ z. IsRule t out o z y (rule_before o (S.Word v) None comes same)) (sym h)
    (word_before_other t out o v y comes same k
    (e ∙ ap (λ z. nat_lt (summand_key out y) (summand_key out z)) h)
    (s ∙ ap (λ z. same_exp z y) h))
before_other_is t out o x y (S.Sum p q) comes same h k e s =
    subst (λ z. IsRule t out o z y (rule_before o (S.Sum p q) None comes same)) (sym h.is)
    (sum_before_other t out o h.left h.right y p q None comes same k h.left_is h.right_is
    (s ∙ ap (λ z. same_exp z y) h.is))
before_other_is t out o x y S.Other comes same h k e s =
    other_before_other t out o x y comes same h k e s

-- by the first part of the sum
abbrev pub turn_of : Bool → ℕ → ℕ → Option (ℕ × ℕ)
turn_of true p q = Some (p, q)
turn_of false p q = None

sum_rule : (t : TableView) (out : ℕ) (x l r : Exp) (p q : ℕ) (inner comes : Bool) → inner ≡ nat_lt (summand_key out l) (summand_key out x)
    → comes ≡ nat_lt (summand_key out (EOp Add l r)) (summand_key out x) → tree_at t p ≡ exp_encoding l → tree_at t q ≡ exp_encoding r
    → rewrite_at out Add x (EOp Add l r) ≡ cond (nat_lt (summand_key out l) (summand_key out x)) (turned x l r) (swapped out x (EOp Add l r))
    → IsRule t out Add x (EOp Add l r) (rule_of_sum (turn_of inner p q) comes)
sum_rule t out x l r p q true comes i e h g z = record {
  left = l;
  right = r;
  left_is = h;
  right_is = g;
  whole = refl;
  is = z ∙ ap (λ b. cond b (turned x l r) (swapped out x (EOp Add l r))) (sym i);
}
sum_rule t out x l r p q false comes i e h g z =
    swapped_rule t out x (EOp Add l r) comes e (z ∙ ap (λ b. cond b (turned x l r) (swapped out x (EOp Add l r))) (sym i))

word_before_sum : (t : TableView) (out : ℕ) (o : Op) (v : ℕ) (l r : Exp) (p q : ℕ)
    (inner comes same : Bool) → inner ≡ nat_lt (summand_key out l) 32 → comes ≡ nat_lt 31 32
    → tree_at t p ≡ exp_encoding l → tree_at t q ≡ exp_encoding r
    → same ≡ same_exp (ELit v) (EOp Add l r)
    → IsRule t out o (ELit v) (EOp Add l r)
    (rule_before o (S.Word v) (turn_of inner p q) comes same)
word_before_sum t out Add v l r p q inner comes same i e h g s =
    sum_rule t out (ELit v) l r p q inner comes i e h g refl
word_before_sum t out Bis zero l r p q inner comes same i e h g s = refl
word_before_sum t out Bis (suc n) l r p q inner comes same i e h g s =
    subst (λ b. IsRule t out Bis (ELit (suc n)) (EOp Add l r) (cond b (L.Second 56) L.Nothing))
    (sym (no_zero n)) refl
word_before_sum t out o v l r p q inner comes same i e h g s =
    by_op_is t out o (ELit v) (EOp Add l r) same s refl

other_before_sum : (t : TableView) (out : ℕ) (o : Op) (x l r : Exp) (p q : ℕ)
    (inner comes same : Bool) → IsOther x → inner ≡ nat_lt (summand_key out l) (summand_key out x)
    → comes ≡ nat_lt 31 (summand_key out x) → tree_at t p ≡ exp_encoding l
    → tree_at t q ≡ exp_encoding r → same ≡ same_exp x (EOp Add l r)
    → IsRule t out o x (EOp Add l r) (rule_before o S.Other (turn_of inner p q) comes same)
other_before_sum t out o (ELit v) l r p q inner comes same k i e h g s = absurd k
other_before_sum t out Add (EOp Add a b) l r p q inner comes same k i e h g s = absurd k
other_before_sum t out Add x l r p q inner comes same k i e h g s =
    sum_rule t out x l r p q inner comes i e h g refl
other_before_sum t out o x l r p q inner comes same k i e h g s =
    by_op_is t out o x (EOp Add l r) same s refl

sum_before_sum : (t : TableView) (out : ℕ) (o : Op) (x y l r : Exp) (p q : ℕ)
    (turn : Option (ℕ × ℕ)) (comes same : Bool) → tree_at t p ≡ exp_encoding x
    → tree_at t q ≡ exp_encoding y → same ≡ same_exp (EOp Add x y) (EOp Add l r)
    → IsRule t out o (EOp Add x y) (EOp Add l r) (rule_before o (S.Sum p q) turn comes same)
sum_before_sum t out Add x y l r p q turn comes same h g s =
    record { left = x; right = y; left_is = h; right_is = g; is = refl }
sum_before_sum t out o x y l r p q turn comes same h g s =
    by_op_is t out o (EOp Add x y) (EOp Add l r) same s refl

-- the second operand is a sum of two ids
pub before_sum_is : (t : TableView) (out : ℕ) (o : Op) (x l r : Exp) (first : Summand) (p q : ℕ)
    (inner comes same : Bool) → IsSummand t x first
    → inner ≡ nat_lt (summand_key out l) (summand_key out x)
    → comes ≡ nat_lt 31 (summand_key out x) → tree_at t p ≡ exp_encoding l
    → tree_at t q ≡ exp_encoding r → same ≡ same_exp x (EOp Add l r)
    → IsRule t out o x (EOp Add l r) (rule_before o first (turn_of inner p q) comes same)
before_sum_is t out o x l r (S.Word v) p q inner comes same h i e g k s =
    subst (λ z. IsRule t out o z (EOp Add l r)
    (rule_before o (S.Word v) (turn_of inner p q) comes same)) (sym h)
    (word_before_sum t out o v l r p q inner comes same
    (i ∙ ap (λ z. nat_lt (summand_key out l) (summand_key out z)) h)
    (e ∙ ap (λ z. nat_lt 31 (summand_key out z)) h) g k
    (s ∙ ap (λ z. same_exp z (EOp Add l r)) h))
before_sum_is t out o x l r (S.Sum a b) p q inner comes same h i e g k s =
    subst (λ z. IsRule t out o z (EOp Add l r)
    (rule_before o (S.Sum a b) (turn_of inner p q) comes same)) (sym h.is)
    (sum_before_sum t out o h.left h.right l r a b (turn_of inner p q) comes same h.left_is
    h.right_is (s ∙ ap (λ z. same_exp z (EOp Add l r)) h.is))
before_sum_is t out o x l r S.Other p q inner comes same h i e g k s =
    other_before_sum t out o x l r p q inner comes same h i e g k s

-- ---- the parts that a rule names are the table's

either_known : (t : TableView) (b : Bool) (r s : Rule) → IsKnownRule t r → IsKnownRule t s
    → IsKnownRule t (cond b r s)
either_known t true r s h k = h
either_known t false r s h k = k

known_by_op : (t : TableView) (o : Op) (same : Bool) → IsKnownRule t (rule_by_op o same)
known_by_op t Xor true = tt
known_by_op t Xor false = tt
known_by_op t o same = tt

-- where the second operand is a word
pub known_at_word : (t : TableView) (o : Op) (first : Summand) (w : ℕ) (comes same : Bool)
    → IsKnownSummand t first → IsKnownRule t (rule_at_word o first w comes same)
known_at_word t o (S.Word v) w comes same h = tt
known_at_word t Sub (S.Sum p q) w comes same h = tt
known_at_word t Add (S.Sum p q) w comes same h =
    either_known t (w == 0) (L.First 48) (L.Regrouped p q) tt h
known_at_word t Bis (S.Sum p q) w comes same h =
    either_known t (w == 0) (L.First 55) L.Nothing tt tt
known_at_word t Sub S.Other w comes same h = tt
known_at_word t Add S.Other w comes same h =
    either_known t (w == 0) (L.First 48) (cond comes L.Swapped L.Nothing) tt
    (either_known t comes L.Swapped L.Nothing tt tt)
known_at_word t Bis S.Other w comes same h =
    either_known t (w == 0) (L.First 55) L.Nothing tt tt
known_at_word t o a w comes same h = known_by_op t o same

known_of_sum : (t : TableView) (turn : Option (ℕ × ℕ)) (comes : Bool)
    → IfSome turn (λ p. IsKnown t p.0 × IsKnown t p.1) → IsKnownRule t (rule_of_sum turn comes)
known_of_sum t (Some p) comes k = k
known_of_sum t None comes k = either_known t comes L.Swapped L.Nothing tt tt

-- where it is none
pub known_before : (t : TableView) (o : Op) (first : Summand) (turn : Option (ℕ × ℕ))
    (comes same : Bool) → IsKnownSummand t first
    → IfSome turn (λ p. IsKnown t p.0 × IsKnown t p.1)
    → IsKnownRule t (rule_before o first turn comes same)
known_before t Add (S.Sum p q) turn comes same h k = h
known_before t Add (S.Word v) turn comes same h k = known_of_sum t turn comes k
known_before t Add S.Other turn comes same h k = known_of_sum t turn comes k
known_before t Bis (S.Word v) turn comes same h k =
    either_known t (v == 0) (L.Second 56) L.Nothing tt tt
known_before t o a turn comes same h k = known_by_op t o same
