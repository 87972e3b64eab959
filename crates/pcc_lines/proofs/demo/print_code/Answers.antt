use Rattle.std.proofs.Common.{◌≡◌, ℕ, List, ◌++◌, ◌∙◌, ap, subst, append_assoc, codes}
use Rattle.file_port.specs.Sink.{Puts}
use Rattle.pcc_lines.specs.Demo.{counted_text, demo_code_line}
use Rattle.pcc_lines.proofs.demo.print_code.Goals as goal

pub returns : goal.returns
unfolding demo_code_line
returns g c =
    let first : List ℕ = counted_text (codes "code ") c.args.words in
    let second : List ℕ = counted_text (codes " invariants ") c.args.invariants in
    let end : List ℕ = codes " accepted\n" in
    let line : c.as_slice.result.now ≡ first ++ (second ++ end) =
    c.as_slice.ensures.value ∙ c.push_text.ensures.items
    ∙ ap (λ x. x ++ end) (c.push_count-2.ensures.items ∙ ap (λ x. x ++ second) (c.push_count.ensures.items ∙ ap (λ x. x ++ first) c.new-line.ensures))
    ∙ append_assoc first second end in
    subst (λ x. Puts x (g.S.Sink.state c.args.out.now) (g.S.Sink.state c.put.new.self) c.put.result) line c.put.ensures
