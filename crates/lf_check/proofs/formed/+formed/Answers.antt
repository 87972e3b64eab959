use Rattle.std.proofs.Common.{rules, ◌≡◌, false, sym, ◌∙◌, ap, arith}
use Rattle.term_table.specs.Tree.{TApp}
use Rattle.term_table.specs.Table.{IsKnown, tree_at, Extends}
use Rattle.lf_signature.specs.Decide.{is_type_of}
use Rattle.lf_check.specs.Inside.Families.{is_proofs}
use Rattle.lf_check.specs.Lists.{types_of}
use Rattle.lf_check.proofs.Families.{other_type}
use Rattle.lf_check.proofs.TypeLists.{grows_more}
use Rattle.lf_check.proofs.Judging.{product_part, judges_formed}
use Rattle.lf_check.proofs.formed.+formed.Goals as goal

pub is_type_at-returns-then-not-is_proofs-clause-answer : goal.is_type_at-returns-then-not-is_proofs-clause-answer
is_type_at-returns-then-not-is_proofs-clause-answer g t c =
    let t₀ = c.args.table.now in
    let e : TApp (tree_at t₀ c.in-TApp.p) (tree_at t₀ c.in-TApp.m) ≡ tree_at t₀ c.args.a = c.in-TApp.ensures.tree in
    let h : is_proofs (tree_at t₀ c.in-TApp.p) ≡ false = search rules in
    other_type (g.S.Signature.declares c.args.sig.now t₀) (types_of (tree_at t₀ c.args.c)) (tree_at t₀ c.in-TApp.p) (tree_at t₀ c.in-TApp.m) (tree_at t₀ c.args.a) e h

pub product_at-keep-requires-clause-judges : goal.product_at-keep-requires-clause-judges
product_at-keep-requires-clause-judges g k c =
    let t = c.args.table.now in
    let u = c.answer_on.new.table in
    let v = c.is_type_at.new.table in
    let w = c.intern_on.new.table in
    let z = c.is_type_at-2.new.table in
    let s = g.S.Signature.declares c.args.sig.now in
    let tu : Extends t u = c.in_ok-answer_on.ensures.extends in
    let uv : Extends u v = c.in_ok-is_type_at.ensures.extends in
    let vw : Extends v w = c.in_ok-inner.ensures.extends in
    let wz : Extends w z = c.in_ok-answer.ensures.extends in
    let tw : Extends t w = grows_more t v w (grows_more t u v tu uv) vw in
    let uz : Extends u z = grows_more u w z (grows_more u v w uv vw) wz in
    let kc : IsKnown u c.args.c = omega (arith, c.requires.c, tu.longer) in
    let same = g.met.S.Signature.same_types c.args.sig.now t in
    let is : c.in_ok-answer.answer ≡ is_type_of (s t) (tree_at t c.args.a) (types_of (tree_at u c.args.c)) =
    product_part (s t) (s u) (s w) t u v w c.args.a c.args.from c.args.to c.args.c c.in_ok-inner.inner c.in_ok-answer.answer tu uv vw
    (same u tu c.requires.holds) (same w tw c.requires.holds)
    c.requires.a c.requires.parts.0 c.requires.parts.1 kc c.requires.is (sym c.if-not-branch.false ∙ c.in_ok-is_type_at.ensures.answer)
    c.in_ok-inner.ensures.id.1 c.in_ok-answer.ensures.answer
    in
    rw (c.number.ensures)
    (judges_formed (s t) (s z) t u z c.args.a c.args.c tu uz (same z (grows_more t u z tu uz) c.requires.holds) c.requires.a kc (sym c.if-answer.true ∙ is))

pub product_at-returns-else-answer-clause-answer : goal.product_at-returns-else-answer-clause-answer
product_at-returns-else-answer-clause-answer g k c =
    let t = c.args.table.now in
    let u = c.answer_on.new.table in
    let v = c.is_type_at.new.table in
    let w = c.intern_on.new.table in
    let s = g.S.Signature.declares c.args.sig.now in
    let tu : Extends t u = c.in_ok-answer_on.ensures.extends in
    let uv : Extends u v = c.in_ok-is_type_at.ensures.extends in
    let vw : Extends v w = c.in_ok-inner.ensures.extends in
    let tw : Extends t w = grows_more t v w (grows_more t u v tu uv) vw in
    let kc : IsKnown u c.args.c = omega (arith, c.requires.c, tu.longer) in
    let same = g.met.S.Signature.same_types c.args.sig.now t in
    let is : c.in_ok-answer.answer ≡ is_type_of (s t) (tree_at t c.args.a) (types_of (tree_at u c.args.c)) =
    product_part (s t) (s u) (s w) t u v w c.args.a c.args.from c.args.to c.args.c c.in_ok-inner.inner c.in_ok-answer.answer tu uv vw
    (same u tu c.requires.holds) (same w tw c.requires.holds)
    c.requires.a c.requires.parts.0 c.requires.parts.1 kc c.requires.is (sym c.if-not-branch.false ∙ c.in_ok-is_type_at.ensures.answer)
    c.in_ok-inner.ensures.id.1 c.in_ok-answer.ensures.answer
    in is ∙ ap (λ z. is_type_of (s t) (tree_at t c.args.a) (types_of z)) (tu.same c.args.c c.requires.c)
