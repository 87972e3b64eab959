-- Constants that are proofs: what an operator gives at two words, and whether a relation of two words holds.
use Rattle.std.specs.Prelude.{◌≡◌, ℕ, List, Option, Some, None}
use Rattle.term_table.specs.Tree.{Tree, Con, Const, Num, Lit, Calc, Fact, Deny, Lemma}
use Rattle.term_table.specs.Table.{TableView, tree_at}
use Rattle.lf_signature.specs.Terms.{pf}
use Rattle.lf_sequents.specs.declared.sequent.Sequent.{Sequent}
use Rattle.lf_sequents.specs.Sequents.{IsSequent}

-- the sequent of a constant that is a proof, under any hypotheses, exactly where the constant has a type
abbrev pub IsConstantAnswer : Const → (Const → Option Tree) → TableView → List ℕ → Option Sequent → Type 0
IsConstantAnswer c sig after hyps None = sig c ≡ None
IsConstantAnswer c sig after hyps (Some s) = (s.hyps.items ≡ hyps) × (sig c ≡ Some (pf (tree_at after s.goal))) × (tree_at after s.term ≡ Con c) × IsSequent sig after s

-- a constant that says what an operator gives at two words, or whether a relation of two words holds
abbrev pub IsEvaluation : Const → Type 0
IsEvaluation (Calc o a b) = Unit {0}
IsEvaluation (Fact p a b) = Unit {0}
IsEvaluation (Deny p a b) = Unit {0}
IsEvaluation (Num n) = ⊥
IsEvaluation (Lit w) = ⊥
IsEvaluation (Lemma n) = ⊥
