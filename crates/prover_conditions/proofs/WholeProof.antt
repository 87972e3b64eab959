-- The condition is its parts, and what the class gives of them is a proof of it.
use Rattle.std.proofs.Common.{◌≡◌, ℕ, ◌<◌, ◌≤◌, ◌^◌, Bool, true, false, List, [], ◌∷◌, map, length, Option, Some, None, is_some, refl, sym, ◌∙◌, ap, subst, arith}
use Rattle.alpha_words.specs.declared.insn.Insn.{Insn}
use Rattle.alpha_cfg.specs.Flow.{IsCode, AreOfProfile}
use Rattle.alpha_cfg.specs.Cuts.{AreFlags, IsCut}
use Rattle.formula_tree.specs.Formulas.{Form, FAnd}
use Rattle.formula_tree.specs.Scope.{IsOver}
use Rattle.formula_tree.specs.Sizes.{form_height}
use Rattle.policy_set.specs.Views.{PolicyView, IsPolicy, PolicyUses}
use Rattle.term_table.specs.Tree.{Tree}
use Rattle.lf_signature.specs.Constants.{operators_of, size_of, declared, Longest}
use Rattle.lf_signature.specs.Terms.{pf}
use Rattle.lf_signature.specs.Typing.{Checks}
use Rattle.lf_terms.specs.Encoding.{form_encoding}
use Rattle.vcgen.specs.Conditions.{AnnotatedCode, entry_part, inv_part, inv_parts, condition}
use Rattle.vcgen.specs.Encoded.{annotated, AreForms, EncodesCondition}
use Rattle.vcgen.specs.Safety.{IsBound}
use Rattle.vcgen.proofs.Scopes.{condition-closed}
use Rattle.vcgen.proofs.Encodings.{encoded-annotates}
use Rattle.pcc_gate.specs.First.{formulas}
use Rattle.pcc_gate.proofs.Conditions.{formulas-encoded, condition-one, formulas-used}
use Rattle.pcc_gate.proofs.Safe.{formulas-over}
use Rattle.prover_class.specs.Parts.{conjoined, condition_proof}
use Rattle.term_table.specs.Table.{TableView, tree_at}
use Rattle.prover_conditions.specs.declared.parts.ConditionProof.{ConditionProof}
use Rattle.prover_conditions.specs.declared.parts.ConditionProof.TheVariants.{Proved, NotEasy}
use Rattle.prover_conditions.specs.Conditions.{condition_parts, ProvesParts, IsPartsAnswer, IsProofOfParts}
use Rattle.prover_conditions.proofs.Heights.{parts-low}
use Rattle.policy_set.proofs.AllOperators.{uses-any}
use Rattle.prover_conditions.proofs.AllOperators.{all-declared}
use Rattle.lf_signature.specs.declared.editions.WordSignature.{WordSignature}
use Rattle.lf_signature.specs.declared.editions.WordSignature.TheVariants.{Sigma1}
use Rattle.lf_signature.specs.Known.{HasOp}
use Rattle.lf_signature.specs.Laws.Signatures.{each_signature}
use Rattle.lf_signature.specs.Laws.Within.{has-declared}
use Rattle.lf_signature.specs.declared.numbers.TheConstants.{SUB_LO}
use Rattle.formula_tree.specs.Operators.{Uses}
use Rattle.formula_tree.proofs.Used.{uses-more}
use Rattle.word_ops.specs.declared.Profile.TheVariants.{One}
use Rattle.vcgen.proofs.Used.{profile-operators, condition-uses}
use Rattle.word_ops.specs.declared.Op.{Op}
use Rattle.word_ops.specs.declared.Op.TheVariants.{Add, Sub, Band}
use Rattle.word_ops.specs.Operators.{Last, has_op, IsFirstOp}

-- ---- the condition is its parts

conjoined-parts : (c : AnnotatedCode) (ps : List (ℕ × Form)) → inv_parts c ps ≡ conjoined (map (inv_part c) ps)
conjoined-parts c [] = refl
conjoined-parts c (p ∷ ps) = ap (FAnd (inv_part c p)) (conjoined-parts c ps)

pub condition-parts : (policy : PolicyView) (bound : Option ℕ) (code : List Insn)
    (invs : List (ℕ × Tree))
    → condition (annotated policy bound code (formulas invs))
    ≡ conjoined (condition_parts policy bound code invs)
unfolding condition_parts
condition-parts policy bound code invs =
    let c = annotated policy bound code (formulas invs) in
    ap (FAnd (entry_part c)) (conjoined-parts c c.invs)

-- the encoding of a condition is that of its parts
pub encodes-parts : (policy : PolicyView) (bound : Option ℕ) (code : List Insn)
    (invs : List (ℕ × Tree)) (vc : Tree)
    → AreForms Longest bound invs → EncodesCondition policy bound code invs vc → vc
    ≡ form_encoding (conjoined (condition_parts policy bound code invs))
encodes-parts policy bound code invs vc forms e =
    condition-one Longest policy bound code invs vc forms e
    ∙ ap form_encoding (condition-parts policy bound code invs)

-- ---- what the class gives is a proof

-- what the class gives a closed condition is a proof, over each signature that has its operators
abbrev pub IsSoundClass : Type 0
IsSoundClass =
    (s : WordSignature) (counted : Bool) (parts : List Form) (p : Tree)
    → (counted ≡ true → SUB_LO < size_of s) → IsOver 0 (conjoined parts) []
    → Uses (HasOp (declared s)) (conjoined parts) → form_height (conjoined parts) ≤ 2 ^ 29
    → condition_proof counted parts ≡ Some p
    → Checks (declared s) [] p (pf (form_encoding (conjoined parts)))

module _ (sound : IsSoundClass) (policy : PolicyView) (bound : Option ℕ) (code : List Insn)
    (invs : List (ℕ × Tree))
    (marks : List Bool)
    (forms : AreForms Longest bound invs) (is : IsCode code)
    (flags : AreFlags (map (λ p. p.0) invs) (length code) marks) (cut : IsCut code marks)
    (kept : IsPolicy policy) (fits : IsBound bound)
  where
    abbrev Parts : List Form
    Parts = condition_parts policy bound code invs

    parts-closed : IsOver 0 (conjoined Parts) []
    parts-closed =
        let a = annotated policy bound code (formulas invs) in
        let encoded = formulas-encoded Longest bound invs forms in
        let annotates =
        encoded-annotates policy bound code invs (formulas invs) marks kept fits encoded is flags cut in
        subst (λ F. IsOver 0 F []) (condition-parts policy bound code invs) (condition-closed a annotates (formulas-over bound invs (formulas invs) encoded))

    -- the operators of code and policy of a signature's profile, with invariants over the signature, are
    -- that signature's
    pub parts-used : (s : WordSignature) → AreForms s bound invs → AreOfProfile (operators_of s) code
        → PolicyUses (λ o. has_op (operators_of s) o ≡ true) policy → Uses (HasOp (declared s)) (conjoined Parts)
    parts-used s low of used =
        let Had : Op → Type 0 = λ o. has_op (operators_of s) o ≡ true in
        let a = annotated policy bound code (formulas invs) in
        uses-more Had (HasOp (declared s)) (has-declared s) (conjoined Parts)
        (subst (λ F. Uses Had F) (condition-parts policy bound code invs)
        (condition-uses Had (each_signature (λ z. has_op (operators_of z) Add) refl s)
        (each_signature (λ z. has_op (operators_of z) Band) refl s)
        (each_signature (λ z. has_op (operators_of z) Sub) refl s)
        a (profile-operators (operators_of s) code of) used.0 used.1 (formulas-used s bound invs low)))

    -- the same of the first
    pub parts-first : AreForms Sigma1 bound invs → AreOfProfile One code
        → PolicyUses IsFirstOp policy → Uses (HasOp (declared Sigma1)) (conjoined Parts)
    parts-first = parts-used Sigma1

    pub proof-checks : (s : WordSignature) → (is_some bound ≡ true → SUB_LO < size_of s)
        → Uses (HasOp (declared s)) (conjoined Parts) → (p : Tree)
        → condition_proof (is_some bound) Parts ≡ Some p → ProvesParts s Parts p
    proof-checks s rule used p given low =
        sound s (is_some bound) Parts p rule parts-closed used
        (parts-low (is_some bound) Parts p given low) given

    -- what is found is a proof
    pub found-proves : (s : WordSignature) → (is_some bound ≡ true → SUB_LO < size_of s)
        → Uses (HasOp (declared s)) (conjoined Parts) → (t : TableView) (found : ConditionProof)
        → IsPartsAnswer t (is_some bound) 0 Parts found
        → IsProofOfParts s t Parts found
    found-proves s rule used t (Proved p) h = proof-checks s rule used (tree_at t p) h
    found-proves s rule used t (NotEasy k) h = tt

    -- over a signature that has all operators
    pub parts-any : (s : WordSignature) → operators_of s ≡ Last → Uses (HasOp (declared s)) (conjoined Parts)
    parts-any s e = uses-any (HasOp (declared s)) (all-declared s e) (conjoined Parts)

    -- what is found is a proof over the longest
    pub found-longest : (t : TableView) (found : ConditionProof)
        → IsPartsAnswer t (is_some bound) 0 Parts found → IsProofOfParts Longest t Parts found
    found-longest t found h = found-proves Longest (λ counted. omega arith) (parts-any Longest refl) t found h

-- where no steps are counted, no rule of counted steps is used
pub uncounted : (bound : Option ℕ) → bound ≡ None → (s : WordSignature)
    → is_some bound ≡ true → SUB_LO < size_of s
uncounted bound none s counted = let wrong : false ≡ true = ap is_some (sym none) ∙ counted in cc
