-- The proof of all parts of a condition: six trees for each of them over what the parts and their proofs hold.
use Rattle.std.proofs.Common.{◌≡◌, ◌*◌, true, false, List, [], ◌∷◌, ◌++◌, length, Some, refl, ap, ◌∙◌, subst, arith}
use Rattle.std.specs.Option.{option_map}
use Rattle.std.specs.List.{AllByRecursion}
use Rattle.term_table.specs.Tree.{Tree, Con, App, Num}
use Rattle.term_table.specs.Subst.{bind}
use Rattle.lf_signature.specs.declared.numbers.TheConstants.{AND, AND_I, TT, TT_I}
use Rattle.formula_tree.specs.Formulas.{Form}
use Rattle.lf_terms.specs.Encoding.{form_encoding}
use Rattle.lf_terms.specs.ProofTerms.{tt_i, and_i}
use Rattle.proof_container.specs.Postorder.{is_emitted}
use Rattle.proof_container.proofs.Walks.{listed-right}
use Rattle.prover_class.specs.Parts.{conjoined, condition_proof}
use Rattle.bpf_condition.specs.PartForms.{part_forms}
use Rattle.bpf_condition.proofs.Evaluated.{LightProof, IsPartForm, part-proof}
use Rattle.bpf_condition.specs.Parts.{HoldsParts}
use Rattle.bpf_condition.proofs.Subtrees.{holds-one_more}
use Rattle.bpf_condition.proofs.Held.{class_proof-is, held_for, held_for-holds, constant-held, IsHeld, each-held, later, first-listed}

-- what one part more adds: a is its formula's term, s that of the parts behind it, p and q are their proofs
abbrev six_trees : Tree → Tree → Tree → Tree → List Tree
six_trees a s p q =
    App (App (App (App (Con (Num AND_I)) a) s) p) q
    ∷ App (App (App (Con (Num AND_I)) a) s) p
    ∷ App (App (Con (Num AND_I)) a) s
    ∷ App (Con (Num AND_I)) a
    ∷ App (App (Con (Num AND)) a) s
    ∷ App (Con (Num AND)) a
    ∷ []

-- a list that holds parts, among them what one part more is made of
record IsReady (base : List Tree) (a s p q : Tree) : Type 0 where
  parts : HoldsParts base
  conjunction : is_emitted (Con (Num AND)) base ≡ true
  rule : is_emitted (Con (Num AND_I)) base ≡ true
  formula : is_emitted a base ≡ true
  formulas : is_emitted s base ≡ true
  proof : is_emitted p base ≡ true
  proofs : is_emitted q base ≡ true

module _ (base : List Tree) (a s p q : Tree) (is : IsReady base a s p q) where
  abbrev f1 : Tree
  f1 = App (Con (Num AND)) a

  abbrev f2 : Tree
  f2 = App (App (Con (Num AND)) a) s

  abbrev r1 : Tree
  r1 = App (Con (Num AND_I)) a

  abbrev r2 : Tree
  r2 = App (App (Con (Num AND_I)) a) s

  abbrev r3 : Tree
  r3 = App (App (App (Con (Num AND_I)) a) s) p

  abbrev r4 : Tree
  r4 = App (App (App (App (Con (Num AND_I)) a) s) p) q

  -- what the list holds is there behind the trees before
  over2 : (u : Tree) → is_emitted u base ≡ true → is_emitted u (f2 ∷ f1 ∷ base) ≡ true
  over2 u h = later f2 u (f1 ∷ base) (later f1 u base h)

  over3 : (u : Tree) → is_emitted u base ≡ true → is_emitted u (r1 ∷ f2 ∷ f1 ∷ base) ≡ true
  over3 u h = later r1 u (f2 ∷ f1 ∷ base) (over2 u h)

  over4 : (u : Tree) → is_emitted u base ≡ true → is_emitted u (r2 ∷ r1 ∷ f2 ∷ f1 ∷ base) ≡ true
  over4 u h = later r2 u (r1 ∷ f2 ∷ f1 ∷ base) (over3 u h)

  over5 : (u : Tree) → is_emitted u base ≡ true → is_emitted u (r3 ∷ r2 ∷ r1 ∷ f2 ∷ f1 ∷ base) ≡ true
  over5 u h = later r3 u (r2 ∷ r1 ∷ f2 ∷ f1 ∷ base) (over4 u h)

  six-hold : HoldsParts (six_trees a s p q ++ base)
  six-hold =
      let h1 : HoldsParts (f1 ∷ base) = holds-one_more base f1 is.parts (is.conjunction, is.formula) in
      let h2 : HoldsParts (f2 ∷ f1 ∷ base) = holds-one_more (f1 ∷ base) f2 h1 (first-listed f1 base, later f1 s base is.formulas) in
      let h3 : HoldsParts (r1 ∷ f2 ∷ f1 ∷ base) =
      holds-one_more (f2 ∷ f1 ∷ base) r1 h2 (over2 (Con (Num AND_I)) is.rule, over2 a is.formula) in
      let h4 : HoldsParts (r2 ∷ r1 ∷ f2 ∷ f1 ∷ base) =
      holds-one_more (r1 ∷ f2 ∷ f1 ∷ base) r2 h3 (first-listed r1 (f2 ∷ f1 ∷ base), over3 s is.formulas) in
      let h5 : HoldsParts (r3 ∷ r2 ∷ r1 ∷ f2 ∷ f1 ∷ base) =
      holds-one_more (r2 ∷ r1 ∷ f2 ∷ f1 ∷ base) r3 h4 (first-listed r2 (r1 ∷ f2 ∷ f1 ∷ base), over4 p is.proof) in
      holds-one_more (r3 ∷ r2 ∷ r1 ∷ f2 ∷ f1 ∷ base) r4 h5 (first-listed r3 (r2 ∷ r1 ∷ f2 ∷ f1 ∷ base), over5 q is.proofs)

  formula-in-six : is_emitted f2 (six_trees a s p q ++ base) ≡ true
  formula-in-six =
      later r4 f2 (r3 ∷ r2 ∷ r1 ∷ f2 ∷ f1 ∷ base) (later r3 f2 (r2 ∷ r1 ∷ f2 ∷ f1 ∷ base) (later r2 f2 (r1 ∷ f2 ∷ f1 ∷ base)
      (later r1 f2 (f2 ∷ f1 ∷ base) (first-listed f2 (f1 ∷ base)))))

  proof-in-six : is_emitted r4 (six_trees a s p q ++ base) ≡ true
  proof-in-six = first-listed r4 (r3 ∷ r2 ∷ r1 ∷ f2 ∷ f1 ∷ base)

-- the proof of all parts, with a list that holds it and its parts, beside what the parts of programs hold
pub record IsSpine (parts : List Form) : Type 0 where
  pub proof : Tree
  pub given : condition_proof false parts ≡ Some proof
  pub list : List Tree
  pub count : length list ≡ 6 * length parts
  pub holds : HoldsParts (list ++ held_for part_forms)
  pub formula : is_emitted (form_encoding (conjoined parts)) (list ++ held_for part_forms) ≡ true
  pub proved : is_emitted proof (list ++ held_for part_forms) ≡ true

pub spine : (parts : List Form) → AllByRecursion IsPartForm parts → IsSpine parts
spine [] h = record {
  proof = tt_i;
  given = refl;
  list = [];
  count = omega arith;
  holds = held_for-holds part_forms;
  formula = constant-held part_forms (Con (Num TT)) refl;
  proved = constant-held part_forms (Con (Num TT_I)) refl;
}
spine (A ∷ l) h =
    let rest : IsSpine l = spine l h.1 in
    let light : LightProof A = part-proof A h.0 in
    let held : IsHeld part_forms A = each-held part_forms A h.0.0 h.0.1 h.0.2 in
    let a : Tree = form_encoding A in
    let s : Tree = form_encoding (conjoined l) in
    let p : Tree = light.proof in
    let q : Tree = rest.proof in
    let base : List Tree = rest.list ++ held_for part_forms in
    let behind : (t : Tree) → is_emitted t (held_for part_forms) ≡ true → is_emitted t base ≡ true =
    λ t e. listed-right t rest.list (held_for part_forms) e in
    let count = rest.count in
    let ready : IsReady base a s p q = record {
      parts = rest.holds;
      conjunction = behind (Con (Num AND)) (constant-held part_forms (Con (Num AND)) refl);
      rule = behind (Con (Num AND_I)) (constant-held part_forms (Con (Num AND_I)) refl);
      formula = behind a held.formula;
      formulas = rest.formula;
      proof = behind p (subst (λ t. is_emitted t (held_for part_forms) ≡ true) (class_proof-is A p light.given) held.proof);
      proofs = rest.proved;
    } in
    record {
      proof = and_i A (conjoined l) p q;
      given = ap (λ o. bind o (λ p. option_map (and_i A (conjoined l) p) (condition_proof false l))) light.given
          ∙ ap (λ o. option_map (and_i A (conjoined l) p) o) rest.given;
      list = six_trees a s p q ++ rest.list;
      count = omega (arith, count);
      holds = six-hold base a s p q ready;
      formula = formula-in-six base a s p q ready;
      proved = proof-in-six base a s p q ready;
    }
