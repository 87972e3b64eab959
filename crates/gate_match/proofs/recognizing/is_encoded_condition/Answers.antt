use Rattle.std.proofs.Common.{◌≡◌, ◌<◌, ◌^◌, sym, ◌∙◌, subst}
use Rattle.alpha_cfg.specs.Flow.{IsCode}
use Rattle.term_table.specs.Measures.{height_of}
use Rattle.term_table.specs.Table.{tree_at, Extends}
use Rattle.hereditary_subst.proofs.Rows.{grows_more}
use Rattle.lf_encode.proofs.Comparisons.{answer-of}
use Rattle.lf_encode.specs.Contexts.{machine_context, encoding_in}
use Rattle.vcgen.specs.WalkTree.{condition_term}
use Rattle.vcgen.proofs.Walking.{invs-same}
use Rattle.lf_encode.proofs.MachineContext.{in-context, in-machine, encoding-machine}
use Rattle.vcgen.proofs.Parts.{low-here, low-invs}
use Rattle.vcgen.proofs.PolicyHeights.{named-low, encodes-low}
use Rattle.gate_match.proofs.recognizing.is_encoded_condition.Goals as goal

pub encode_form-requires-clause-over : goal.encode_form-requires-clause-over
encode_form-requires-clause-over c =
    in-context c.machine_context-context.result _ c.args.policy.now.pre
    c.machine_context-context.ensures
    c.pre.ensures.exact (in-machine c.args.policy.now.pre c.laws.ensures.asked.over)

pub encode_form-requires-clause-low : goal.encode_form-requires-clause-low
encode_form-requires-clause-low c =
    encodes-low _ c.args.policy.now.pre c.pre.ensures.exact c.laws.ensures.asked.low

pub encode_form-requires-2-clause-low : goal.encode_form-requires-2-clause-low
encode_form-requires-2-clause-low c =
    encodes-low _ c.args.policy.now.post c.post.ensures.exact c.laws.ensures.promised.low

pub encode_form-requires-2-clause-over : goal.encode_form-requires-2-clause-over
encode_form-requires-2-clause-over c =
    in-context c.machine_context-context.result _ c.args.policy.now.post
    c.machine_context-context.ensures
    c.post.ensures.exact (in-machine c.args.policy.now.post c.laws.ensures.promised.over)

pub is_condition_of-requires-clause-program : goal.is_condition_of-requires-clause-program
is_condition_of-requires-clause-program c =
    let o = c.args.table.now in
    let u = c.encode_form-2.new.table in
    let grown : Extends o u = grows_more o c.encode_form.new.table u c.in_ok-pre.ensures.extends c.in_ok-post.ensures.extends in
    let post : tree_at u c.in_ok-post.post ≡ encoding_in machine_context c.args.policy.now.post =
    c.in_ok-post.ensures.exact.is ∙
    (λ i. encoding_in (c.machine_context-context.ensures i) (c.post.ensures.exact i)) in
    record {
      code = subst IsCode c.insns.ensures.value c.insns.ensures.code;
      invs = low-invs o u c.args.invs.now c.requires.invs grown;
      post = c.in_ok-post.ensures.exact.known;
      low =
          subst (λ z. height_of z < 2 ^ 31) (sym (post ∙ encoding-machine c.args.policy.now.post))
          (named-low c.args.policy.now.post c.laws.ensures.promised.low);
    }

pub returns-clause-exact : goal.returns-clause-exact
returns-clause-exact c =
    let o = c.args.table.now in
    let v = c.encode_form.new.table in
    let u = c.encode_form-2.new.table in
    let grown : Extends o u = grows_more o v u c.in_ok-pre.ensures.extends c.in_ok-post.ensures.extends in
    let pre : tree_at u c.in_ok-pre.pre ≡ encoding_in machine_context c.args.policy.now.pre =
    c.in_ok-post.ensures.extends.same c.in_ok-pre.pre c.in_ok-pre.ensures.exact.known ∙ c.in_ok-pre.ensures.exact.is ∙
    (λ i. encoding_in (c.machine_context-context.ensures i) (c.pre.ensures.exact i)) in
    let post : tree_at u c.in_ok-post.post ≡ encoding_in machine_context c.args.policy.now.post =
    c.in_ok-post.ensures.exact.is ∙
    (λ i. encoding_in (c.machine_context-context.ensures i) (c.post.ensures.exact i)) in
    let invs = invs-same o u c.args.invs.now (low-here o c.args.invs.now c.requires.invs) grown in
    answer-of c.is_condition_of.result (tree_at u c.args.goal) (tree_at o c.args.goal) _ _ (grown.same c.args.goal c.requires.goal)
    (λ i. condition_term c.args.bound c.args.code.now (invs i) (pre i) (post i)) c.is_condition_of.ensures.exact
