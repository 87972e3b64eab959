-- Each rule holds over words: what its type says of proofs is true. A rule is a line.
use Rattle.std.proofs.Common.{◌≡◌, ℕ, ◌%◌, ◌^◌, ◌<◌, ◌≤◌, ◌==◌, nat_le, nat_lt, true, Option, List, [], ◌∷◌, refl, sym, ◌∙◌, ap, subst, eqb-true, eq-eqb, add_comm, lt-ltb, arith}
use Rattle.std.proofs.lemmas.Bool.{leb-true, le-leb, ltb-true}
use Rattle.std.proofs.lemmas.Nat.{and_comm, and_assoc, and_le_l, and_le_r}
use Rattle.std.specs.Int.Bits.{and_zero_r, or_zero_l, or_zero_r, xor_self}
use Rattle.word_ops.specs.declared.Rel.TheVariants.{Eq, Ult, Ule, Slt, Sle}
use Rattle.word_ops.specs.Words.{test_of, from_byte}
use Rattle.lf_truth.proofs.LaterWords.{s4_def, s8_def, rest_le, sub_lo}
use Rattle.word_ops.specs.Rights.{Rights}
use Rattle.word_ops.proofs.Memories.{read-write_same, read-write_other}
use Rattle.word_ops.proofs.WordRules.{add_al, sll_al, add_assoc_true, add_zero_true, sub_neg, sub_add, add_le, lt_pred, srl_mono, sll_mono, flag_yes, flag_no, flag_le, not_less}
use Rattle.term_table.specs.Tree.{Tree, Const}
use Rattle.term_table.specs.Subst.{erase}
use Rattle.lf_signature.specs.Rules.{Rule, rule_type}
use Rattle.lf_signature.specs.Constants.{the_rules}
use Rattle.lf_encode.proofs.Adequate.{Lifted}
use Rattle.lf_truth.proofs.Values.{blank, AnyValue, default}
use Rattle.lf_truth.proofs.TypeMeaning.{word_value, memory_value, Means, word_means}
use Rattle.lf_truth.proofs.WordValues.{meaning}

infixr 5 ◌⊕◌
module _ (R : Rights) (sig : Const → Option Tree) where
  -- a rule's type is true of a value that says nothing
  abbrev pub RuleHolds : Rule → Type 1
  RuleHolds r = (ρ : List AnyValue) → Means (meaning R sig) (rule_type r) (erase (rule_type r)) ρ (default (erase (rule_type r)))

  -- the same of each rule of a list
  pub data AllHold : List Rule → Type 1 where
    none : AllHold []
    ◌⊕◌ : {r : Rule} {l : List Rule} → RuleHolds r → AllHold l → AllHold (r ∷ l)

-- Conclusions and premises as facts on numbers.
same : (a b : ℕ) → a ≡ b → Lifted ((a == b) ≡ true)
same a b h = record { out = eq-eqb a b h }

most : (a b : ℕ) → a ≤ b → Lifted (nat_le a b ≡ true)
most a b h = record { out = le-leb a b h }

less : (a b : ℕ) → a < b → Lifted (nat_lt a b ≡ true)
less a b h = record { out = lt-ltb a b h }

is : {a b : ℕ} → Lifted ((a == b) ≡ true) → a ≡ b
is {a} {b} h = eqb-true a b h.out

le : {a b : ℕ} → Lifted (nat_le a b ≡ true) → a ≤ b
le {a} {b} h = leb-true a b h.out

lt : {a b : ℕ} → Lifted (nat_lt a b ≡ true) → a < b
lt {a} {b} h = ltb-true a b h.out

-- The rules in their order: after the parameters, each with what its sort says, come the premises.
pub all_rules : (R : Rights) (sig : Const → Option Tree) → AllHold R sig the_rules
unfolding the_rules
all_rules R sig =
    -- 27 tt_i, 28 ff_e, 29 and_i, 30 and_l, 31 and_r, 32 or_l, 33 or_r, 34 or_e, 35 imp_i, 36 imp_e, 37 em
    (λ ρ. record { out = tt }) ⊕
    (λ ρ a ha p hp. record { out = absurd hp.out }) ⊕
    (λ ρ a ha b hb p hp q hq. record { out = (hp.out, hq.out) }) ⊕
    (λ ρ a ha b hb p hp. record { out = hp.out.0 }) ⊕
    (λ ρ a ha b hb p hp. record { out = hp.out.1 }) ⊕
    (λ ρ a ha b hb p hp. record { out = λ n m. n hp.out }) ⊕
    (λ ρ a ha b hb p hp. record { out = λ n m. m hp.out }) ⊕
    (λ ρ a ha b hb c hc p hp g hg k hk. record { out = hc.out (λ n. hp.out (λ x. n (hg blank (record { out = x })).out) (λ y. n (hk blank (record { out = y })).out)) }) ⊕
    (λ ρ a ha b hb g hg. record { out = λ x. (hg blank (record { out = x })).out }) ⊕
    (λ ρ a ha b hb p hp q hq. record { out = hp.out hq.out }) ⊕
    (λ ρ a ha. record { out = λ n m. m n }) ⊕
    -- 38 all_i, 39 all_e, 40 allm_i, 41 allm_e
    (λ ρ g hg p hp. record { out = λ w h. (hp (word_value w) (word_means w h)).out }) ⊕
    (λ ρ g hg a ha p hp. record { out = subst (λ z. (g z).prop) (sym ha.0) (hp.out a.word ha.1.out) }) ⊕
    (λ ρ g hg p hp. record { out = λ m h. (hp (memory_value m) (refl, record { out = h })).out }) ⊕
    (λ ρ g hg m hm p hp. record { out = subst (λ z. (g z).prop) (sym hm.0) (hp.out m.memory hm.1.out) }) ⊕
    -- 42 eq_refl, 43 eq_sub, 44 sel_same, 45 sel_other
    (λ ρ a ha. same a.word a.word refl) ⊕
    (λ ρ g hg a ha b hb p hp q hq. record { out = subst (λ z. (g z).prop) (ha.0 ∙ ap word_value (is hp) ∙ sym hb.0) hq.out }) ⊕
    (λ ρ m hm a ha v hv. same _ _ (read-write_same m.memory a.word v.word)) ⊕
    (λ ρ m hm a ha b hb v hv p hp. same _ _ (read-write_other m.memory a.word v.word b.word (λ q. hp.out (eq-eqb a.word b.word (sym q))))) ⊕
    -- 46 add_comm, 47 add_assoc, 48 add_zero, 49 sub_add, 50 sub_neg
    (λ ρ a ha b hb. same _ _ (ap (λ z. z % 2 ^ 64) (add_comm a.word b.word))) ⊕
    (λ ρ a ha b hb c hc. same _ _ (add_assoc_true a.word b.word c.word)) ⊕
    (λ ρ a ha. same _ _ (add_zero_true a.word ha.1.out)) ⊕
    (λ ρ a ha b hb. same _ _ (sub_add a.word b.word ha.1.out hb.1.out)) ⊕
    (λ ρ a ha b hb. same _ _ (sub_neg a.word b.word ha.1.out hb.1.out)) ⊕
    -- 51 and_comm, 52 and_assoc, 53 and_zero, 54 and_le, 55 bis_zero, 56 bis_zero_l
    (λ ρ a ha b hb. same _ _ (and_comm a.word b.word)) ⊕
    (λ ρ a ha b hb c hc. same _ _ (and_assoc c.word a.word b.word)) ⊕
    (λ ρ a ha. same _ _ (and_zero_r a.word)) ⊕
    (λ ρ a ha b hb. most _ _ (and_le_r a.word b.word)) ⊕
    (λ ρ a ha. same _ _ (or_zero_r a.word)) ⊕
    (λ ρ a ha. same _ _ (or_zero_l a.word)) ⊕
    -- 57 add_al, 58 sll_al, 59 srl_mono, 60 sll_mono
    (λ ρ a ha b hb p hp q hq. same _ _ (add_al a.word b.word (is hp) (is hq))) ⊕
    (λ ρ a ha. same _ _ (sll_al a.word)) ⊕
    (λ ρ a ha b hb c hc p hp. most _ _ (srl_mono a.word b.word c.word (le hp))) ⊕
    (λ ρ a ha b hb c hc p hp q hq. most _ _ (sll_mono a.word b.word c.word (le hp) (le hq))) ⊕
    -- 61 zero_le, 62 max_le, 63 ule_refl, 64 ule_trans, 65 ult_ule, 66 lt_le, 67 le_lt
    (λ ρ a ha. most _ _ (omega arith)) ⊕
    (λ ρ a ha. let h = ha.1.out in most _ _ (omega (arith, h))) ⊕
    (λ ρ a ha. most a.word a.word (omega arith)) ⊕
    (λ ρ a ha b hb c hc p hp q hq. let h = le hp in let k = le hq in most a.word c.word (omega (arith, h, k))) ⊕
    (λ ρ a ha b hb p hp. let h = lt hp in most a.word b.word (omega (arith, h))) ⊕
    (λ ρ a ha b hb c hc p hp q hq. let h = lt hp in let k = le hq in less a.word c.word (omega (arith, h, k))) ⊕
    (λ ρ a ha b hb c hc p hp q hq. let h = le hp in let k = lt hq in less a.word c.word (omega (arith, h, k))) ⊕
    -- 68 lt_pred, 69 le_anti, 70 not_lt, 71 lt_irr, 72 add_le
    (λ ρ a ha b hb p hp. most _ _ (lt_pred a.word b.word hb.1.out (lt hp))) ⊕
    (λ ρ a ha b hb p hp q hq. let h = le hp in let k = le hq in same a.word b.word (omega (arith, h, k))) ⊕
    (λ ρ a ha b hb p hp. most _ _ (not_less a.word b.word hp.out)) ⊕
    (λ ρ a ha p hp. let h = lt hp in record { out = absurd (omega (arith, h)) }) ⊕
    (λ ρ a ha b hb c hc d hd p hp q hq r hr. most _ _ (add_le a.word b.word c.word d.word hc.1.out hd.1.out (le hp) (le hq) (le hr))) ⊕
    -- 73 to 77 cmp_yes, 78 to 82 cmp_no, 83 to 87 cmp_le1
    (λ ρ a ha b hb p hp. record { out = flag_yes (test_of Eq a.word b.word) hp.out }) ⊕
    (λ ρ a ha b hb p hp. record { out = flag_yes (test_of Slt a.word b.word) hp.out }) ⊕
    (λ ρ a ha b hb p hp. record { out = flag_yes (test_of Sle a.word b.word) hp.out }) ⊕
    (λ ρ a ha b hb p hp. record { out = flag_yes (test_of Ult a.word b.word) hp.out }) ⊕
    (λ ρ a ha b hb p hp. record { out = flag_yes (test_of Ule a.word b.word) hp.out }) ⊕
    (λ ρ a ha b hb p hp. record { out = flag_no (test_of Eq a.word b.word) hp.out }) ⊕
    (λ ρ a ha b hb p hp. record { out = flag_no (test_of Slt a.word b.word) hp.out }) ⊕
    (λ ρ a ha b hb p hp. record { out = flag_no (test_of Sle a.word b.word) hp.out }) ⊕
    (λ ρ a ha b hb p hp. record { out = flag_no (test_of Ult a.word b.word) hp.out }) ⊕
    (λ ρ a ha b hb p hp. record { out = flag_no (test_of Ule a.word b.word) hp.out }) ⊕
    (λ ρ a ha b hb. record { out = flag_le (test_of Eq a.word b.word) }) ⊕
    (λ ρ a ha b hb. record { out = flag_le (test_of Slt a.word b.word) }) ⊕
    (λ ρ a ha b hb. record { out = flag_le (test_of Sle a.word b.word) }) ⊕
    (λ ρ a ha b hb. record { out = flag_le (test_of Ult a.word b.word) }) ⊕
    (λ ρ a ha b hb. record { out = flag_le (test_of Ule a.word b.word) }) ⊕
    -- 96 xor_self, 97 bic_le, 98 s4_def, 99 s8_def, 100 extb_le, 101 extw_le, 102 extl_le, 103 bic_def, 104 sub_lo
    (λ ρ a ha. same _ _ (xor_self a.word)) ⊕
    (λ ρ a ha b hb. most _ _ (and_le_l a.word _)) ⊕
    (λ ρ a ha b hb. same _ _ (s4_def a.word b.word)) ⊕
    (λ ρ a ha b hb. same _ _ (s8_def a.word b.word)) ⊕
    (λ ρ a ha b hb. most _ _ (rest_le (from_byte a.word b.word) (2 ^ 8) (omega arith))) ⊕
    (λ ρ a ha b hb. most _ _ (rest_le (from_byte a.word b.word) (2 ^ 16) (omega arith))) ⊕
    (λ ρ a ha b hb. most _ _ (rest_le (from_byte a.word b.word) (2 ^ 32) (omega arith))) ⊕
    (λ ρ a ha b hb. same _ _ refl) ⊕
    (λ ρ a ha b hb c hc p hp q hq. most _ _ (sub_lo a.word b.word c.word ha.1.out hb.1.out hc.1.out (le hp) (le hq))) ⊕
    none
