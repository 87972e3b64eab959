-- What was reached stays right as the table grows.
use Rattle.std.proofs.Common.{Bool, sym, ◌∙◌, arith}
use Rattle.term_table.specs.Table.{TableView, Extends}
use Rattle.view_marks.specs.Inside.Nearness.{IsReach}
use Rattle.view_marks.specs.declared.reached.Reach.{Reach}

-- what was reached stays right as the table grows
pub reach-lasts : (t u : TableView) (q : Reach) (b : Bool) → Extends t u → IsReach t q b
    → IsReach u q b
reach-lasts t u q b x h = record {
  address_known = omega (arith, h.address_known, x.longer);
  form_known = omega (arith, h.form_known, x.longer);
  is = λ a A i j. h.is a A (sym (x.same q.address h.address_known) ∙ i)
      (sym (x.same q.form h.form_known) ∙ j);
}
