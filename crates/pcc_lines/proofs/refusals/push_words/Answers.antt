use Rattle.std.proofs.Common.{◌++◌, ap, sym, ◌∙◌, append_assoc, codes}
use Rattle.pcc_gate.specs.declared.refusal.Refusal.{Refusal}
use Rattle.pcc_lines.specs.Refusals.{refusal_words, malformed_text, head_text, code_flaw_text}
use Rattle.pcc_lines.proofs.refusals.push_words.Goals as goal

pub returns-in-Malformed-clause-items : goal.returns-in-Malformed-clause-items
returns-in-Malformed-clause-items c =
    let old = c.args.line.now.items in
    c.push_malformed.ensures.items
    ∙ ap (λ x. x ++ malformed_text c.in-Malformed.offset c.in-Malformed.flaw) c.push_text-in-Malformed.ensures.items
    ∙ append_assoc old (codes "2 Malformed ") (malformed_text c.in-Malformed.offset c.in-Malformed.flaw)
    ∙ ap (λ (r : Refusal). old ++ refusal_words r) (sym c.in-Malformed.is)

pub returns-in-OtherPolicy-clause-items : goal.returns-in-OtherPolicy-clause-items
returns-in-OtherPolicy-clause-items c =
    let old = c.args.line.now.items in
    let text = head_text c.in-OtherPolicy.head in
    c.push_head.ensures.items
    ∙ ap (λ x. x ++ text) c.push_text-in-OtherPolicy.ensures.items
    ∙ append_assoc old (codes "3 OtherPolicy ") text
    ∙ ap (λ (r : Refusal). old ++ refusal_words r) (sym c.in-OtherPolicy.is)

pub returns-in-BadCode-clause-items : goal.returns-in-BadCode-clause-items
returns-in-BadCode-clause-items c =
    let old = c.args.line.now.items in
    c.push_code_flaw.ensures.items
    ∙ ap (λ x. x ++ code_flaw_text c.in-BadCode.flaw) c.push_text-in-BadCode.ensures.items
    ∙ append_assoc old (codes "4 BadCode ") (code_flaw_text c.in-BadCode.flaw)
    ∙ ap (λ (r : Refusal). old ++ refusal_words r) (sym c.in-BadCode.is)
