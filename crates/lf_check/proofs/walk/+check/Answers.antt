use Rattle.std.proofs.Common.{◌≡◌, ◌↔◌, IsTrue, true, Some, sym, ◌∙◌, ap, arith}
use Rattle.term_table.specs.Table.{IsKnown, tree_at, node_tree, Stands, Extends}
use Rattle.lf_check.specs.Lists.{types_of}
use Rattle.lf_signature.specs.Decide.{checks_of, synth_of, atom_rule, is_atomic}
use Rattle.lf_check.proofs.TypeLists.{grows_more}
use Rattle.lf_check.proofs.Judging.{under_part, judges_under}
use Rattle.lf_check.proofs.Atoms.{checks_atom, atom_is}
use Rattle.lf_check.proofs.walk.+check.Goals as goal

pub check_at-returns-then-is_atomic_type : goal.check_at-returns-then-is_atomic_type
check_at-returns-then-is_atomic_type g t c =
    let t₀ = c.args.table.now in
    let t₁ = c.synth_at.new.table in
    let m = tree_at t₀ c.args.m in
    let sig = g.S.Signature.declares c.args.sig.now t₀ in
    let ctx = types_of (tree_at t₀ c.args.c) in
    let e : node_tree t₀ c.node.result ≡ m = c.node.ensures.tree in
    let syn : Stands t₁ (synth_of sig m ctx) (Some c.in-Some.p) = rw c.in-Some.is at c.in_ok-synth_at.ensures.tree in
    let x : Extends t₀ t₁ = c.in_ok-synth_at.ensures.extends in
    let ka : tree_at t₁ c.args.a ≡ tree_at t₀ c.args.a = x.same c.args.a c.requires.a in
    let atomic : is_atomic (tree_at t₁ c.args.a) ≡ true = sym c.is_atomic_type.ensures ∙ c.if-is_atomic_type.true in
    let same : IsTrue c.same.result ↔ (tree_at t₁ c.in-Some.p ≡ tree_at t₁ c.args.a) = c.same.ensures in
    let answer : c.same.result ≡ checks_of sig m ctx (tree_at t₀ c.args.a) =
    atom_is (tree_at t₁ c.args.a) (tree_at t₁ c.in-Some.p) c.same.result atomic same
    ∙ ap (λ z. atom_rule z (Some (tree_at t₁ c.in-Some.p))) ka
    ∙ ap (atom_rule (tree_at t₀ c.args.a)) (sym syn.1)
    ∙ sym (checks_atom sig t₀ ctx c.node.result m (tree_at t₀ c.args.a) e c.in_default.not-Lam) in
    record { answer = answer; extends = x; kept = c.in_ok-synth_at.ensures.kept; spends = c.in_ok-synth_at.ensures.spends }

pub under_at-keep-requires-clause-judges : goal.under_at-keep-requires-clause-judges
under_at-keep-requires-clause-judges g k c =
    let t = c.args.table.now in
    let u = c.answer_on.new.table in
    let w = c.intern_on.new.table in
    let s = g.S.Signature.declares c.args.sig.now in
    let tu : Extends t u = c.in_ok-answer_on.ensures.extends in
    let uw : Extends u w = c.in_ok-inner.ensures.extends in
    let kc : IsKnown u c.args.c = omega (arith, c.requires.c, tu.longer) in
    let same = g.met.S.Signature.same_types c.args.sig.now t in
    let is : c.in_ok-answer.answer ≡ checks_of (s t) (tree_at t c.args.m) (types_of (tree_at u c.args.c)) (tree_at t c.args.a) =
    under_part (s t) (s w) t u w c.args.m c.args.a c.args.body c.args.from c.args.to c.args.c c.in_ok-inner.inner c.in_ok-answer.answer tu uw
    (same w (grows_more t u w tu uw) c.requires.holds)
    c.requires.m c.requires.a c.requires.parts kc c.requires.lam c.requires.pi c.in_ok-inner.ensures.id.1 c.in_ok-answer.ensures.answer
    in
    let z = c.check_at.new.table in
    let uz : Extends u z = grows_more u w z uw c.in_ok-answer.ensures.extends in
    rw (c.number.ensures, c.number-2.ensures)
    (judges_under (s t) (s z) t u z c.args.m c.args.a c.args.c tu uz (same z (grows_more t u z tu uz) c.requires.holds) c.requires.m c.requires.a kc
    (sym c.if-answer.true ∙ is))

pub under_at-returns-in_ok-keep-clause-answer : goal.under_at-returns-in_ok-keep-clause-answer
under_at-returns-in_ok-keep-clause-answer g k c =
    let t = c.args.table.now in
    let u = c.answer_on.new.table in
    let w = c.intern_on.new.table in
    let s = g.S.Signature.declares c.args.sig.now in
    let tu : Extends t u = c.in_ok-answer_on.ensures.extends in
    let uw : Extends u w = c.in_ok-inner.ensures.extends in
    let kc : IsKnown u c.args.c = omega (arith, c.requires.c, tu.longer) in
    let same = g.met.S.Signature.same_types c.args.sig.now t in
    let is : c.in_ok-answer.answer ≡ checks_of (s t) (tree_at t c.args.m) (types_of (tree_at u c.args.c)) (tree_at t c.args.a) =
    under_part (s t) (s w) t u w c.args.m c.args.a c.args.body c.args.from c.args.to c.args.c c.in_ok-inner.inner c.in_ok-answer.answer tu uw
    (same w (grows_more t u w tu uw) c.requires.holds)
    c.requires.m c.requires.a c.requires.parts kc c.requires.lam c.requires.pi c.in_ok-inner.ensures.id.1 c.in_ok-answer.ensures.answer
    in
    is ∙ ap (λ z. checks_of (s t) (tree_at t c.args.m) (types_of z) (tree_at t c.args.a)) (tu.same c.args.c c.requires.c)

pub under_at-returns-else-answer-clause-answer : goal.under_at-returns-else-answer-clause-answer
under_at-returns-else-answer-clause-answer g k c =
    let t = c.args.table.now in
    let u = c.answer_on.new.table in
    let w = c.intern_on.new.table in
    let s = g.S.Signature.declares c.args.sig.now in
    let tu : Extends t u = c.in_ok-answer_on.ensures.extends in
    let uw : Extends u w = c.in_ok-inner.ensures.extends in
    let kc : IsKnown u c.args.c = omega (arith, c.requires.c, tu.longer) in
    let same = g.met.S.Signature.same_types c.args.sig.now t in
    let is : c.in_ok-answer.answer ≡ checks_of (s t) (tree_at t c.args.m) (types_of (tree_at u c.args.c)) (tree_at t c.args.a) =
    under_part (s t) (s w) t u w c.args.m c.args.a c.args.body c.args.from c.args.to c.args.c c.in_ok-inner.inner c.in_ok-answer.answer tu uw
    (same w (grows_more t u w tu uw) c.requires.holds)
    c.requires.m c.requires.a c.requires.parts kc c.requires.lam c.requires.pi c.in_ok-inner.ensures.id.1 c.in_ok-answer.ensures.answer
    in
    is ∙ ap (λ z. checks_of (s t) (tree_at t c.args.m) (types_of z) (tree_at t c.args.a)) (tu.same c.args.c c.requires.c)
