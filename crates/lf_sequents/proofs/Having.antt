-- Which rules a signature has.
use Rattle.std.proofs.Common.{◌≡◌, ℕ, cond, Option, Some, None, is_some, List, refl, sym, ◌∙◌, subst}
use Rattle.term_table.specs.Tree.{Tree, Const, Num}
use Rattle.term_table.specs.Table.{TableView}
use Rattle.lf_signature.specs.Rules.{Rule, rule_type}
use Rattle.lf_signature.specs.Constants.{rule_at, declared, Longest}
use Rattle.lf_signature.specs.Known.{IsKnownSignature}
use Rattle.lf_signature.specs.Laws.Within.{declared-number, known-longest}
use Rattle.lf_signature.proofs.Lookup.{declared-rule}
use Rattle.lf_sequents.specs.declared.sequent.Sequent.{Sequent}
use Rattle.lf_signature.specs.Terms.{pf}
use Rattle.lf_signature.specs.Typing.{Checks, atom_checks, Synth}
use Rattle.lf_sequents.specs.Answers.{HasForm, Derives, IsRowAnswer, IsRuleAnswer, rule_in_signature}

-- a rule of a known signature is its number's, and the signature gives that number the rule's type
pub has_rule : (sig : Const → Option Tree) → IsKnownSignature sig → (n : ℕ) (r : Rule) → rule_in_signature sig n ≡ Some r
    → (rule_at n ≡ Some r) × (sig (Num n) ≡ Some (rule_type r))
has_rule sig known n r is = go (sig (Num n)) refl is
  where
    go : (o : Option Tree) → sig (Num n) ≡ o → cond (is_some o) (rule_at n) None ≡ Some r → (rule_at n ≡ Some r) × (sig (Num n) ≡ Some (rule_type r))
    go None h e = cc
    go (Some a) h e =
        let d : declared Longest (Num n) ≡ Some a = known-longest (Num n) a (λ l. l) (known.within (Num n) a h) in
        (e, h ∙ sym d ∙ declared-rule Longest n r (declared-number Longest n a d).0 e)

-- parameters or premises haven't the rule's form, or the conclusion's term doesn't check
pub not_derived : (sig : Const → Option Tree) (t u : TableView) (hyps params : List ℕ) (n : ℕ) (r : Rule) (l : List Sequent)
    → rule_in_signature sig n ≡ Some r → (HasForm sig t hyps params r l → Derives sig t hyps params n r l → ⊥) → IsRuleAnswer n sig t u hyps params l None
not_derived sig t u hyps params n r l e none = subst (λ o. IsRowAnswer sig t u hyps params n o l None) (sym e) none

pub no_form : (sig : Const → Option Tree) (t u : TableView) (hyps params : List ℕ) (n : ℕ) (r : Rule) (l : List Sequent)
    → rule_in_signature sig n ≡ Some r → (HasForm sig t hyps params r l → ⊥) → IsRuleAnswer n sig t u hyps params l None
no_form sig t u hyps params n r l e unfit = not_derived sig t u hyps params n r l e (λ form _. unfit form)

-- what checks at a type of proofs synthesises it
pub synthesised : {sig : Const → Option Tree} {ctx : List Tree} {p g : Tree} → Checks sig ctx p (pf g) → Synth sig ctx p (pf g)
synthesised (atom_checks s a) = s
