-- The proof of a condition is one.
use Rattle.std.proofs.Common.{◌≡◌, ℕ, suc, ◌+◌, ◌*◌, ◌^◌, ◌<◌, ◌≤◌, Bool, true, Some, List, [], ◌∷◌, ◌⊎◌, inl, inr, refl, subst, option_map, arith}
use Rattle.term_table.specs.Tree.{Tree}
use Rattle.term_table.proofs.Options.{bind_some, map_some, some_injective}
use Rattle.lf_signature.specs.Terms.{pf}
use Rattle.lf_signature.specs.Typing.{Checks}
use Rattle.lf_signature.specs.Constants.{size_of, declared, the_rules}
use Rattle.formula_tree.specs.Formulas.{Form, FTrue}
use Rattle.lf_terms.specs.Encoding.{form_encoding}
use Rattle.prover_class.proofs.Scope.{Over, nesting}
use Rattle.lf_terms.specs.ProofTerms.{AForm, and_i}
use Rattle.prover_class.specs.Goals.{first_of, levels, by_aligned, by_normal, by_bounds, by_words_alone}
use Rattle.prover_class.specs.Parts.{conjoined, outside_part, part_proof, condition_proof}
use Rattle.prover_class.proofs.Proved.{Proves}
use Rattle.prover_class.proofs.Uses.{rule_proves}
use Rattle.prover_class.proofs.Shapes.{else_some, IsSound, goal_sound}
use Rattle.prover_class.proofs.Goals.{by_aligned_says, by_bounds_says}
use Rattle.prover_class.proofs.NormalForms.{by_normal_says}
use Rattle.prover_class.proofs.Access.{all_sound}
use Rattle.prover_class.specs.Access.{by_all_means}
use Rattle.lf_signature.specs.declared.editions.WordSignature.{WordSignature}
use Rattle.lf_signature.specs.declared.numbers.TheConstants.{AND_I, SUB_LO, TT_I}

module _ (sig : WordSignature) (e d : ℕ) (room : e + (d + d + d) + 16 ≤ 2 ^ 32) (some : 0 < d) (s : ℕ)
    (counted : Bool) where
  pub words_sound : (counted ≡ true → SUB_LO < size_of sig) → IsSound sig e d room some s (by_words_alone counted)
  words_sound rule k out ctx Γ A p w g o nk nd q =
      go (else_some (by_aligned Γ A) (first_of (by_normal out Γ A) (by_bounds counted Γ A)) p q)
    where
      rest : (by_normal out Γ A ≡ Some p) ⊎ (by_bounds counted Γ A ≡ Some p) → Proves sig (e + d) ctx (pf (form_encoding A)) p
      rest (inl f) = by_normal_says sig e d room some k ctx w out Γ A p o f
      rest (inr f) = by_bounds_says sig e d room some k ctx w Γ g counted rule A p o f

      go : (by_aligned Γ A ≡ Some p) ⊎ (first_of (by_normal out Γ A) (by_bounds counted Γ A) ≡ Some p) → Proves sig (e + d) ctx (pf (form_encoding A)) p
      go (inl f) = by_aligned_says sig e d room some k ctx w Γ g A p o f
      go (inr f) = rest (else_some (by_normal out Γ A) (by_bounds counted Γ A) p f)

  module _ (sl : IsSound sig e d room some s (by_all_means counted)) where
    part_says : (A : Form) (p : Tree) → Over sig A [] → nesting A + s ≤ e → nesting A ≤ d → part_proof counted A ≡ Some p → Proves sig (e + d) [] (pf (form_encoding A)) p
    part_says A p o ne nd q =
        goal_sound sig e d room some s (by_all_means counted) sl (levels A) e (outside_part counted) [] [] A p
        (omega arith) tt o ne nd q

    pub proof_says : (l : List Form) (p : Tree) → Over sig (conjoined l) [] → nesting (conjoined l) + s ≤ e → nesting (conjoined l) ≤ d → condition_proof counted l ≡ Some p → Proves sig (e + d) [] (pf (form_encoding (conjoined l))) p
    unfolding the_rules
    proof_says [] p o ne nd q = subst (λ z. Proves sig (e + d) [] (pf (form_encoding FTrue)) z) (some_injective q) (rule_proves sig e d room TT_I _ refl [] (omega arith) [] [] tt tt)
    proof_says (A ∷ l) p o ne nd q =
        let a = bind_some (part_proof counted A) (λ p. option_map (and_i A (conjoined l) p) (condition_proof counted l)) p q in
        let b = map_some (condition_proof counted l) (and_i A (conjoined l) a.0) p a.2 in
        subst (λ z. Proves sig (e + d) [] (pf (form_encoding (conjoined (A ∷ l)))) z) b.2
        (rule_proves sig e d room AND_I _ refl [] (omega arith) (AForm A ∷ AForm (conjoined l) ∷ []) (a.0 ∷ b.0 ∷ []) ((o.0, omega (arith, nd)), ((o.1, omega (arith, nd)), tt))
        (part_says A a.0 o.0 (omega (arith, ne)) (omega (arith, nd)) a.1, (proof_says l b.0 o.1 (omega (arith, ne)) (omega (arith, nd)) b.1, tt)))

pub class_checks : (sig : WordSignature) (counted : Bool) → (counted ≡ true → SUB_LO < size_of sig)
    → (l : List Form) (p : Tree) → Over sig (conjoined l) []
    → 5 * nesting (conjoined l) + 20 ≤ 2 ^ 32 → condition_proof counted l ≡ Some p
    → Checks (declared sig) [] p (pf (form_encoding (conjoined l)))
class_checks sig counted rule l p o r q =
    let n = nesting (conjoined l) in
    let e = n + suc n in
    let room : e + (suc n + suc n + suc n) + 16 ≤ 2 ^ 32 = omega (arith, r) in
    let some : 0 < suc n = omega arith in
    let plain = words_sound sig e (suc n) room some 0 counted rule in
    let roomy = words_sound sig e (suc n) room some (suc n) counted rule in
    (proof_says sig e (suc n) room some (suc n) counted
    (all_sound sig e (suc n) room some counted plain roomy) l p o (omega arith) (omega arith) q).checks
