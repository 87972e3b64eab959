use Rattle.std.proofs.Common.{◌≡◌, Option, Some, None, [], ◌∷◌, sym, ◌∙◌, ap, subst, arith}
use Rattle.term_table.specs.Tree.{Tree}
use Rattle.term_table.specs.Table.{IsKnown, tree_at, Stands}
use Rattle.word_ops.specs.declared.Op.{Op}
use Rattle.word_ops.specs.declared.Op.TheVariants.{Add, Band, Sll}
use Rattle.lf_signature.specs.Nodes.{IsIdOf}
use Rattle.lf_signature.specs.declared.numbers.TheConstants.{ADD_AL}
use Rattle.formula_tree.specs.Formulas.{Exp, EOp}
use Rattle.lf_terms.specs.Encoding.{exp_encoding}
use Rattle.prover_class.specs.Goals.{first_of, aligned_form, alignment_proof}
use Rattle.prover_ids.proofs.HypRows.{hyps-after}
use Rattle.prover_ids.proofs.Standing.{stands, more, twice, ruled}
use Rattle.prover_hyps.proofs.AlignmentRows.{made_answer, asked_answer, stands_at, part, sum_none, sum_some, no_alignment}
use Rattle.prover_hyps.proofs.alignments.+aligning.Goals as goal

pub alignment_proof-keep-requires-clause-right : goal.alignment_proof-keep-requires-clause-right
alignment_proof-keep-requires-clause-right t c =
    let n = c.in_ok-unkept_alignment in
    let made = made_answer c.args.table.now c.unkept_alignment.new.table c.args.hyps.now c.args.e n.field-0 None c.in-None.is c.requires.hyps c.requires.e n.ensures.extends n.ensures.known n.ensures.exact in
    asked_answer c.unkept_alignment.new.table c.args.hyps.now _ c.args.e _ None c.as_slice-in-None.ensures c.question_of-in-None.ensures made

pub alignment_proof-keep-requires-in-Some-2-clause-right :
    goal.alignment_proof-keep-requires-in-Some-2-clause-right
alignment_proof-keep-requires-in-Some-2-clause-right t c =
    let n = c.in_ok-unkept_alignment in
    let made = made_answer c.args.table.now c.unkept_alignment.new.table c.args.hyps.now c.args.e n.field-0 (Some c.in-Some-2.proof) c.in-Some-2.is c.requires.hyps c.requires.e n.ensures.extends n.ensures.known n.ensures.exact in
    asked_answer c.unkept_alignment.new.table c.args.hyps.now _ c.args.e _ (Some c.in-Some-2.proof) c.as_slice-in-Some-2.ensures c.question_of-in-Some-2.ensures made

pub part_alignment-returns-in-Some-clause-exact : goal.part_alignment-returns-in-Some-clause-exact
part_alignment-returns-in-Some-clause-exact t c = λ Γ x g q.
    let h = hyps-after c.args.table.now c.aligned_form.new.table c.args.hyps.now Γ c.requires.hyps c.in_ok-form.ensures.extends g in
    let found = c.in-Some.ensures.exact Γ (aligned_form x) h (c.in_ok-form.ensures.is x q).is in
    (found.0, ap (λ (z : Option Tree). first_of z (alignment_proof Γ x)) found.1)

pub part_alignment-returns-in_ok-rest-in-None-clause-exact :
    goal.part_alignment-returns-in_ok-rest-in-None-clause-exact
part_alignment-returns-in_ok-rest-in-None-clause-exact t c = λ Γ x g q.
    let e1 = c.in_ok-form.ensures.extends in
    let h = hyps-after c.args.table.now c.aligned_form.new.table c.args.hyps.now Γ c.requires.hyps e1 g in
    let found = c.in-None.ensures.exact Γ (aligned_form x) h (c.in_ok-form.ensures.is x q).is in
    let rest = c.in_ok-rest-in-None.ensures.exact Γ x h (e1.same c.args.e c.requires.e ∙ q) in
    subst (λ (z : Option Tree). Stands c.alignment_proof.new.table z c.in_ok-rest-in-None.rest) (sym (ap (λ (z : Option Tree). first_of z (alignment_proof Γ x)) found)) rest

pub unkept_alignment-returns-in_default-clause-exact : goal.unkept_alignment-returns-in_default-clause-exact
unkept_alignment-returns-in_default-clause-exact t c = λ Γ x g q.
    let p = c.in-Apply.ensures.is x q in
    let n = c.in_default in
    ap (alignment_proof Γ) p.is ∙ no_alignment Γ c.in-Apply.op p.left p.right n.not-Sll n.not-Band n.not-Add

pub unkept_alignment-returns-in_default-3-clause-exact :
    goal.unkept_alignment-returns-in_default-3-clause-exact
unkept_alignment-returns-in_default-3-clause-exact t c = λ Γ x g q.
    let t0 = c.args.table.now in
    let p = c.in-Apply.ensures.is x q in
    let e1 = c.in_ok-p-in-Add.ensures.extends in
    let kb : IsKnown t0 c.in-Apply.b = omega (arith, c.in-Apply.ensures.below.1, c.requires.e) in
    let h = hyps-after t0 c.part_alignment.new.table c.args.hyps.now Γ c.requires.hyps e1 g in
    let second = c.in_ok-q-in-Add.ensures.exact Γ p.right h (e1.same c.in-Apply.b kb ∙ p.right_is) in
    let none = stands_at c.part_alignment-in-Add.new.table (part Γ p.right) c.in_ok-q-in-Add.field-0 None c.in_default-3.is second in
    let is : x ≡ EOp Add p.left p.right = p.is ∙ ap (λ (o : Op). EOp o p.left p.right) c.in-Add.is in
    ap (alignment_proof Γ) is ∙ sum_none Γ p.left p.right none

pub unkept_alignment-returns-in_ok-proof-in-Word-clause-exact :
    goal.unkept_alignment-returns-in_ok-proof-in-Word-clause-exact
unkept_alignment-returns-in_ok-proof-in-Word-clause-exact t c = λ Γ x g q.
    subst (λ (z : Exp). Stands c.alignment_of_word.new.table (alignment_proof Γ z) c.in_ok-proof-in-Word.proof) (sym (c.in-Word.ensures.is x q)) (c.in_ok-proof-in-Word.ensures.exact Γ)

pub unkept_alignment-returns-in_ok-proof-in-Sll-clause-exact :
    goal.unkept_alignment-returns-in_ok-proof-in-Sll-clause-exact
unkept_alignment-returns-in_ok-proof-in-Sll-clause-exact t c = λ Γ x g q.
    let p = c.in-Apply.ensures.is x q in
    let is : x ≡ EOp Sll p.left p.right = p.is ∙ ap (λ (o : Op). EOp o p.left p.right) c.in-Sll.is in
    subst (λ (z : Exp). Stands c.alignment_of_shift.new.table (alignment_proof Γ z) c.in_ok-proof-in-Sll.proof) (sym is) (c.in_ok-proof-in-Sll.ensures.exact Γ p.left p.right p.left_is p.right_is)

pub unkept_alignment-returns-in_ok-proof-in-Band-clause-exact :
    goal.unkept_alignment-returns-in_ok-proof-in-Band-clause-exact
unkept_alignment-returns-in_ok-proof-in-Band-clause-exact t c = λ Γ x g q.
    let p = c.in-Apply.ensures.is x q in
    let is : x ≡ EOp Band p.left p.right = p.is ∙ ap (λ (o : Op). EOp o p.left p.right) c.in-Band.is in
    subst (λ (z : Exp). Stands c.alignment_of_mask.new.table (alignment_proof Γ z) c.in_ok-proof-in-Band.proof) (sym is) (c.in_ok-proof-in-Band.ensures.exact Γ p.left p.right p.left_is p.right_is)

pub unkept_alignment-returns-in_ok-proof-in-Add-clause-exact :
    goal.unkept_alignment-returns-in_ok-proof-in-Add-clause-exact
unkept_alignment-returns-in_ok-proof-in-Add-clause-exact t c = λ Γ x g q.
    let t0 = c.args.table.now in
    let t1 = c.part_alignment.new.table in
    let t2 = c.part_alignment-in-Add.new.table in
    let p = c.in-Apply.ensures.is x q in
    let e1 = c.in_ok-p-in-Add.ensures.extends in
    let e2 = c.in_ok-q-in-Add.ensures.extends in
    let x2 = twice e1 e2 in
    let ka : IsKnown t0 c.in-Apply.a = omega (arith, c.in-Apply.ensures.below.0, c.requires.e) in
    let kb : IsKnown t0 c.in-Apply.b = omega (arith, c.in-Apply.ensures.below.1, c.requires.e) in
    let a = stands t0 (exp_encoding p.left) c.in-Apply.a ka p.left_is in
    let b = stands t0 (exp_encoding p.right) c.in-Apply.b kb p.right_is in
    let h = hyps-after t0 t1 c.args.hyps.now Γ c.requires.hyps e1 g in
    let first = stands_at t1 (part Γ p.left) c.in_ok-p-in-Add.field-0 (Some c.in-Some.p) c.in-Some.is (c.in_ok-p-in-Add.ensures.exact Γ p.left g p.left_is) in
    let second = stands_at t2 (part Γ p.right) c.in_ok-q-in-Add.field-0 (Some c.in-Some-2.q) c.in-Some-2.is (c.in_ok-q-in-Add.ensures.exact Γ p.right h (more b e1).is) in
    let v = tree_at t1 c.in-Some.p in
    let w = tree_at t2 c.in-Some-2.q in
    let made = ruled (λ z. IsIdOf c.rule_term.new.table z c.in_ok-proof-in-Add.proof) ADD_AL (λ i. (more a x2).is i ∷ (more b x2).is i ∷ e2.same c.in-Some.p first.0 i ∷ w ∷ []) c.in_ok-proof-in-Add.ensures.id in
    let is : x ≡ EOp Add p.left p.right = p.is ∙ ap (λ (o : Op). EOp o p.left p.right) c.in-Add.is in
    (made.known, ap (alignment_proof Γ) is ∙ sum_some Γ p.left p.right v w first.1 second.1 ∙ ap Some (sym made.is))
