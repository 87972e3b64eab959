-- Kept results of substitutions stay right as the table grows.
use Rattle.std.proofs.Common.{◌≡◌, ℕ, refl, sym, ◌∙◌, arith}
use Rattle.term_table.specs.Table.{TableView, IsKnown, tree_at, Extends}
use Rattle.prover_ids.specs.Puts.{IsExpPut, IsMemPut, IsFormPut}
use Rattle.prover_ids.specs.PutRows.{IsPutAt}
use Rattle.prover_ids.specs.declared.puts.Put.{Put}
use Rattle.prover_ids.specs.declared.puts.Put.TheVariants as Q

-- what was put in an earlier table is put in the later one
pub exp_put-now : (t u v : TableView) (id x arg r : ℕ) → IsKnown t id → IsKnown t arg → Extends t u → Extends u v → IsExpPut t u id x arg r → IsExpPut v v id x arg r
exp_put-now t u v id x arg r i a tu uv p = record {
  known = omega (arith, p.known, uv.longer);
  is = λ e o q w.
      let early : tree_at v id ≡ tree_at t id = uv.same id (omega (arith, i, tu.longer)) ∙ tu.same id i in
      let put : tree_at v arg ≡ tree_at t arg = uv.same arg (omega (arith, a, tu.longer)) ∙ tu.same arg a in
      uv.same r p.known ∙ p.is e o (sym early ∙ q) (sym put ∙ w);
}

-- the same of a memory
pub mem_put-now : (t u v : TableView) (id x arg r : ℕ) → IsKnown t id → IsKnown t arg → Extends t u → Extends u v → IsMemPut t u id x arg r → IsMemPut v v id x arg r
mem_put-now t u v id x arg r i a tu uv p = record {
  known = omega (arith, p.known, uv.longer);
  is = λ e o q w.
      let early : tree_at v id ≡ tree_at t id = uv.same id (omega (arith, i, tu.longer)) ∙ tu.same id i in
      let put : tree_at v arg ≡ tree_at t arg = uv.same arg (omega (arith, a, tu.longer)) ∙ tu.same arg a in
      uv.same r p.known ∙ p.is e o (sym early ∙ q) (sym put ∙ w);
}

-- the same of a formula
pub form_put-now : (t u v : TableView) (id x arg r : ℕ) → IsKnown t id → IsKnown t arg → Extends t u → Extends u v → IsFormPut t u id x arg r → IsFormPut v v id x arg r
form_put-now t u v id x arg r i a tu uv p = record {
  known = omega (arith, p.known, uv.longer);
  is = λ e o q w.
      let early : tree_at v id ≡ tree_at t id = uv.same id (omega (arith, i, tu.longer)) ∙ tu.same id i in
      let put : tree_at v arg ≡ tree_at t arg = uv.same arg (omega (arith, a, tu.longer)) ∙ tu.same arg a in
      uv.same r p.known ∙ p.is e o (sym early ∙ q) (sym put ∙ w);
}

extends_refl : (t : TableView) → Extends t t
extends_refl t = record { longer = omega arith; same = λ id h. refl; places = refl }

-- what putting gave stays right as the table grows
pub put-lasts : (t u : TableView) (q : Put) (r : ℕ) → Extends t u → IsPutAt t q r → IsPutAt u q r
put-lasts t u (Q.Exp id x arg) r e h = (omega (arith, h.0, e.longer), omega (arith, h.1, e.longer), exp_put-now t t u id x arg r h.0 h.1 (extends_refl t) e h.2)
put-lasts t u (Q.Mem id x arg) r e h = (omega (arith, h.0, e.longer), omega (arith, h.1, e.longer), mem_put-now t t u id x arg r h.0 h.1 (extends_refl t) e h.2)
put-lasts t u (Q.Form id x arg) r e h = (omega (arith, h.0, e.longer), omega (arith, h.1, e.longer), form_put-now t t u id x arg r h.0 h.1 (extends_refl t) e h.2)
