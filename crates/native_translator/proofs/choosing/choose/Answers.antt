use Rattle.std.proofs.Common.{◌≡◌, suc, ◌+◌, subst, ap, ◌∙◌, arith}
use Rattle.std.proofs.lemmas.Option.{slice_get_within}
use Rattle.native_code.specs.Lives.{Lean}
use Rattle.native_code.specs.Calls as calls
use Rattle.native_lives.specs.Certificates.{lean_of}
use Rattle.native_translator.proofs.Choices.{PlacedBelow, placed-more}
use Rattle.native_translator.proofs.choosing.choose.Goals as goal

pub loop-i-preserved : goal.loop-i-preserved
loop-i-preserved c =
    let one : suc c.loop-i.i ≡ c.loop-i.i + 1 = omega arith in
    let lean : Lean = lean_of c.args.lives.now.forms.items c.args.lives.now.live.items in
    subst (PlacedBelow c.place_form_reads.new.places lean c.args.code.now) one
    (placed-more c.loop-i.places c.place_form_reads.new.places lean c.args.code.now c.loop-i.i c.insn.result c.loop-i.invariant c.insn.ensures.at
    c.place_form_reads.ensures.kept
    (λ reads. c.place_form_reads.ensures.placed (ap calls.reads_operands c.form.ensures ∙ reads)))

pub returns : goal.returns
returns c = record {
  places = c.laws.ensures;
  reads = λ i insn here form.
      let low = slice_get_within c.args.code.now i insn here in
      c.loop-i.invariant i insn (omega (arith, low, c.loop-i-test.false, c.count-i-end.ensures.value)) here form;
}
