use Rattle.std.proofs.Common.{◌≡◌, ◌+◌, ◌↔◌, IsTrue, IfOk, Some, None, length, slice_get, sym, ◌∙◌, subst, arith}
use Rattle.term_table.specs.Table.{IsKnown, tree_at, Extends, id_trees}
use Rattle.hereditary_subst.proofs.Rows.{grows_more, memo-more}
use Rattle.lf_signature.specs.declared.numbers.TheConstants.{AND}
use Rattle.word_ops.specs.declared.Rel.TheVariants.{Ult}
use Rattle.lf_signature.specs.Terms.{app2, lit, rel_term, and_term, imp_term}
use Rattle.lf_encode.specs.PutTree.{machine_terms_at, put_tree}
use Rattle.lf_encode.proofs.KeptRows.{ready-more, ready-same}
use Rattle.lf_encode.proofs.Comparisons.{apart-first, ok-by-second, answer-of, one-answer}
use Rattle.vcgen.specs.WalkTree.{InsnEffect, Computed, Access, Split, Jump, Return, insn_effect, walked, walked_at, one_less}
use Rattle.vcgen.specs.Symbols.{ids_of, IsEffect}
use Rattle.gate_match.specs.Inside.Goals.{AreSides}
use Rattle.gate_match.proofs.Sides.{app2-one}
use Rattle.vcgen.specs.declared.effects.Effect as rust
use Rattle.vcgen.proofs.Walking.{program-more, inv-known, walk-ended, walk-spent, walk-on, walk-same, at-computed, at-access, at-split, at-jump, at-return, walked_at-effect, walked_at-same, walked_at-uncounted, walked_at-counted}
use Rattle.gate_match.proofs.Growing.{comparisons-more, comparing-more}
use Rattle.gate_match.proofs.comparing.+comparing.Goals as goal

-- ---- walk

pub is_walk-is_put_by-requires-clause-known : goal.is_walk-is_put_by-requires-clause-known
is_walk-is_put_by-requires-clause-known t c = (inv-known c.args.table.now c.args.program.now.invs.now c.args.index c.in-Some.inv c.invariant.result
    c.requires.walking.program.invs c.invariant.ensures c.in-Some.is).0

pub is_walk-is_put_by-requires-clause-low : goal.is_walk-is_put_by-requires-clause-low
is_walk-is_put_by-requires-clause-low t c = (inv-known c.args.table.now c.args.program.now.invs.now c.args.index c.in-Some.inv c.invariant.result
    c.requires.walking.program.invs c.invariant.ensures c.in-Some.is).1

pub is_walk-returns-then-fuel-eq0-clause-exact : goal.is_walk-returns-then-fuel-eq0-clause-exact
is_walk-returns-then-fuel-eq0-clause-exact t c =
    let o = c.args.table.now in
    let u = c.intern.new.self in
    let goal = c.args.goal in
    let terms = machine_terms_at o (ids_of c.args.symbols.now) in
    let post = tree_at o c.args.program.now.post in
    let tree = walked c.args.program.now.bound c.args.program.now.code.now (id_trees o c.args.program.now.invs.now) post c.args.fuel c.args.index terms in
    let spent = walk-spent c.args.program.now.bound o c.args.program.now.code.now c.args.program.now.invs.now post c.args.index terms c.args.fuel c.invariant.result
    c.if-fuel-eq0.true c.invariant.ensures c.in-None.is in
    let s = c.in_ok-falsity-in-None.ensures.id in
    one-answer c.same.result (tree_at u goal) (tree_at o goal) (tree_at u c.in_ok-falsity-in-None.falsity) tree
    (c.in_ok-falsity-in-None.ensures.extends.same goal c.requires.goal) (s.1 ∙ sym spent) c.same.ensures

pub is_walk-returns-then-fuel-eq0-clause-walking : goal.is_walk-returns-then-fuel-eq0-clause-walking
is_walk-returns-then-fuel-eq0-clause-walking t c = comparing-more _ _ _ _ _ _ _ _ c.requires.walking c.intern.ensures.extends

pub is_walk-returns-in-Some-clause-exact : goal.is_walk-returns-in-Some-clause-exact
is_walk-returns-in-Some-clause-exact t c =
    let o = c.args.table.now in
    let terms = machine_terms_at o (ids_of c.args.symbols.now) in
    let ended = walk-ended c.args.program.now.bound o c.args.program.now.code.now c.args.program.now.invs.now (tree_at o c.args.program.now.post) c.args.index terms c.args.fuel
    c.in-Some.inv c.invariant.result c.invariant.ensures c.in-Some.is in
    subst (λ z. IfOk c.is_put_by.result (λ b. IsTrue b ↔ (tree_at o c.args.goal ≡ z))) (sym ended) c.is_put_by.ensures.exact

pub is_walk-returns-in-Some-clause-walking : goal.is_walk-returns-in-Some-clause-walking
is_walk-returns-in-Some-clause-walking t c =
    let o = c.args.table.now in
    let u = c.is_put_by.new.table in
    record {
      program = program-more o u c.args.program.now.code.now c.args.program.now.invs.now c.args.program.now.post c.requires.walking.program
          c.is_put_by.ensures.extends;
      ready = ready-more o u (ids_of c.args.symbols.now) c.requires.walking.ready c.is_put_by.ensures.extends;
      shifts = c.is_put_by.ensures.shifts;
      kept = c.is_put_by.ensures.kept;
    }

pub is_walk-returns-else-fuel-eq0-clause-exact : goal.is_walk-returns-else-fuel-eq0-clause-exact
is_walk-returns-else-fuel-eq0-clause-exact t c =
    let o = c.args.table.now in
    let terms = machine_terms_at o (ids_of c.args.symbols.now) in
    let on = walk-on c.args.program.now.bound o c.args.program.now.code.now c.args.program.now.invs.now (tree_at o c.args.program.now.post) c.args.index terms c.args.fuel
    c.invariant.result (omega arith) c.invariant.ensures c.in-None.is in
    subst (λ z. IfOk c.is_walk_from.result (λ b. IsTrue b ↔ (tree_at o c.args.goal ≡ z))) (sym on) c.is_walk_from.ensures.exact

-- ---- the walk with other terms

-- ---- the walk with other terms

pub is_walk_with-returns-in_err-equal-clause-walking : goal.is_walk_with-returns-in_err-equal-clause-walking
is_walk_with-returns-in_err-equal-clause-walking t c =
    let o = c.args.table.now in
    let u = c.is_walk.new.table in
    let grown = c.is_walk.ensures.extends in
    let ids = (ids_of c.args.symbols.now) in
    record {
      program = program-more o u c.args.program.now.code.now c.args.program.now.invs.now c.args.program.now.post c.requires.walking.program grown;
      ready = ready-more o u ids c.requires.walking.ready grown;
      shifts = c.is_walk.ensures.walking.shifts;
      kept = comparisons-more c.inner-inner.new.self o u ids c.inner-inner.ensures.kept c.requires.walking.ready grown;
    }

pub is_walk_with-resume-requires-clause-kept : goal.is_walk_with-resume-requires-clause-kept
is_walk_with-resume-requires-clause-kept t c =
    comparisons-more c.inner-inner.new.self c.args.table.now c.is_walk.new.table (ids_of c.args.symbols.now) c.inner-inner.ensures.kept
    c.requires.walking.ready c.in_ok-equal.ensures.extends

pub is_walk_with-returns-clause-walking : goal.is_walk_with-returns-clause-walking
is_walk_with-returns-clause-walking t c =
    let o = c.args.table.now in
    let u = c.is_walk.new.table in
    let grown = c.in_ok-equal.ensures.extends in
    let ids = (ids_of c.args.symbols.now) in
    record {
      program = program-more o u c.args.program.now.code.now c.args.program.now.invs.now c.args.program.now.post c.requires.walking.program grown;
      ready = ready-more o u ids c.requires.walking.ready grown;
      shifts = c.in_ok-equal.ensures.walking.shifts;
      kept = c.resume.ensures;
    }

-- ---- both sides of a branch

pub is_both-returns-clause-exact : goal.is_both-returns-clause-exact
is_both-returns-clause-exact t c =
    let o = c.args.table.now in
    let u = c.is_side.new.table in
    let p = c.args.program.now in
    let ids = (ids_of c.args.symbols.now) in
    let terms = machine_terms_at o ids in
    let walk = walked p.bound p.code.now (id_trees o p.invs.now) (tree_at o p.post) c.args.fuel in
    let goal = tree_at o c.args.goal in
    let h = subst (λ z. AreSides (app2 AND) o goal z) c.in-Some.is c.sides.ensures in
    let grown : Extends o u = c.in_ok-there.ensures.extends in
    let passed = grown.same c.args.passed.0 c.requires.passed in
    let same = ready-same o u ids c.requires.walking.ready grown in
    let onward = walk-same p.bound o u p.code.now p.invs.now p.post c.args.fuel c.args.passed.1 (machine_terms_at u ids) terms c.requires.walking.program
    grown same in
    let later = walked p.bound p.code.now (id_trees u p.invs.now) (tree_at u p.post) c.args.fuel in
    let there = imp_term (tree_at o c.args.taken.0) (walk c.args.taken.1 terms) in
    let rest = imp_term (tree_at o c.args.passed.0) (walk c.args.passed.1 terms) in
    let side : imp_term (tree_at u c.args.passed.0) (later c.args.passed.1 (machine_terms_at u ids)) ≡ rest = λ i. imp_term (passed i) (onward i) in
    let second = answer-of c.is_side-2.result (tree_at u c.in-Some.parts.second) (tree_at o c.in-Some.parts.second) _ rest
    (grown.same c.in-Some.parts.second h.1) side c.is_side-2.ensures.exact in
    ok-by-second (app2 AND) (app2-one AND) goal (tree_at o c.in-Some.parts.first) (tree_at o c.in-Some.parts.second) there rest h.2
    c.in_ok-there.there c.is_side-2.result c.in_ok-there.ensures.exact c.if-not-there.false second

-- ---- the walk from an instruction

pub is_insn-returns-in_err-after-clause-walking : goal.is_insn-returns-in_err-after-clause-walking
is_insn-returns-in_err-after-clause-walking t c = comparing-more _ _ _ _ _ _ _ _ c.requires.walking c.in_err-after.ensures.extends

pub is_insn-is_put_by-requires-clause-ready : goal.is_insn-is_put_by-requires-clause-ready
is_insn-is_put_by-requires-clause-ready t c = ready-more c.args.table.now c.effect_at.new.table (ids_of c.args.symbols.now)
    c.requires.walking.ready c.in_ok-after.ensures.extends

pub is_insn-is_put_by-requires-clause-shifts : goal.is_insn-is_put_by-requires-clause-shifts
is_insn-is_put_by-requires-clause-shifts t c = memo-more c.args.shifts.now c.args.table.now c.effect_at.new.table c.requires.walking.shifts
    c.in_ok-after.ensures.extends

pub is_insn-is_put_by-requires-clause-kept : goal.is_insn-is_put_by-requires-clause-kept
is_insn-is_put_by-requires-clause-kept t c = comparisons-more c.args.kept.now c.args.table.now c.effect_at.new.table (ids_of c.args.symbols.now)
    c.requires.walking.kept c.requires.walking.ready c.in_ok-after.ensures.extends

pub is_insn-is_walk_with-requires : goal.is_insn-is_walk_with-requires
is_insn-is_walk_with-requires t c =
    let o = c.args.table.now in
    let u = c.effect_at.new.table in
    let p = c.args.program.now in
    let terms = machine_terms_at o (ids_of c.args.symbols.now) in
    let effect : InsnEffect = insn_effect c.args.index c.insn-insn.result terms in
    let exact = subst (λ (e : rust.Effect). IsEffect u (length p.code.now) c.args.index e effect) c.in-Computed.is c.in_ok-after.ensures.exact in
    let has = at-computed u (length p.code.now) c.args.index c.in-Computed.after effect exact in
    let walking = comparing-more _ _ _ _ _ _ _ _ c.requires.walking c.in_ok-after.ensures.extends in
    let known : IsKnown u c.args.goal = omega (arith, c.requires.goal, c.in_ok-after.ensures.extends.longer) in
    (omega (arith, c.decreases), (walking, (has.2, (has.3.ready, known))))

pub is_insn-is_behind-requires : goal.is_insn-is_behind-requires
is_insn-is_behind-requires t c =
    let o = c.args.table.now in
    let u = c.effect_at.new.table in
    let p = c.args.program.now in
    let terms = machine_terms_at o (ids_of c.args.symbols.now) in
    let effect : InsnEffect = insn_effect c.args.index c.insn-insn.result terms in
    let exact = subst (λ (e : rust.Effect). IsEffect u (length p.code.now) c.args.index e effect) c.in-Access.is c.in_ok-after.ensures.exact in
    let has = at-access u (length p.code.now) c.args.index c.in-Access.allowed c.in-Access.after effect exact in
    let walking = comparing-more _ _ _ _ _ _ _ _ c.requires.walking c.in_ok-after.ensures.extends in
    let known : IsKnown u c.args.goal = omega (arith, c.requires.goal, c.in_ok-after.ensures.extends.longer) in
    (omega (arith, c.decreases), (walking, (has.3, (has.4.known, (has.5.ready, known)))))

pub is_insn-is_both-requires : goal.is_insn-is_both-requires
is_insn-is_both-requires t c =
    let o = c.args.table.now in
    let u = c.effect_at.new.table in
    let p = c.args.program.now in
    let terms = machine_terms_at o (ids_of c.args.symbols.now) in
    let effect : InsnEffect = insn_effect c.args.index c.insn-insn.result terms in
    let exact = subst (λ (e : rust.Effect). IsEffect u (length p.code.now) c.args.index e effect) c.in-Split.is c.in_ok-after.ensures.exact in
    let has = at-split u (length p.code.now) c.args.index c.in-Split.taken c.in-Split.passed c.in-Split.target effect exact in
    let walking = comparing-more _ _ _ _ _ _ _ _ c.requires.walking c.in_ok-after.ensures.extends in
    let known : IsKnown u c.args.goal = omega (arith, c.requires.goal, c.in_ok-after.ensures.extends.longer) in
    (omega (arith, c.decreases), (walking, (has.4, (has.3, (has.5.known, (has.6.known, known))))))

pub is_insn-is_walk-requires : goal.is_insn-is_walk-requires
is_insn-is_walk-requires t c =
    let o = c.args.table.now in
    let u = c.effect_at.new.table in
    let p = c.args.program.now in
    let terms = machine_terms_at o (ids_of c.args.symbols.now) in
    let effect : InsnEffect = insn_effect c.args.index c.insn-insn.result terms in
    let exact = subst (λ (e : rust.Effect). IsEffect u (length p.code.now) c.args.index e effect) c.in-Jump.is c.in_ok-after.ensures.exact in
    let has = at-jump u (length p.code.now) c.args.index c.in-Jump.target effect exact in
    let walking = comparing-more _ _ _ _ _ _ _ _ c.requires.walking c.in_ok-after.ensures.extends in
    let known : IsKnown u c.args.goal = omega (arith, c.requires.goal, c.in_ok-after.ensures.extends.longer) in
    (omega (arith, c.decreases), (walking, (has.1, known)))

pub is_insn-returns-in-Computed-clause-exact : goal.is_insn-returns-in-Computed-clause-exact
is_insn-returns-in-Computed-clause-exact t c =
    let o = c.args.table.now in
    let u = c.effect_at.new.table in
    let p = c.args.program.now in
    let terms = machine_terms_at o (ids_of c.args.symbols.now) in
    let effect : InsnEffect = insn_effect c.args.index c.insn-insn.result terms in
    let exact = subst (λ (e : rust.Effect). IsEffect u (length p.code.now) c.args.index e effect) c.in-Computed.is c.in_ok-after.ensures.exact in
    let has = at-computed u (length p.code.now) c.args.index c.in-Computed.after effect exact in
    let walk = walked p.bound p.code.now (id_trees o p.invs.now) (tree_at o p.post) c.args.fuel in
    let at = walked_at-effect walk (tree_at o p.post) c.args.index (slice_get p.code.now c.args.index) c.insn-insn.result terms (Computed has.0)
    c.insn-insn.ensures.at has.1 in
    let made = walk-same p.bound o u p.code.now p.invs.now p.post c.args.fuel (c.args.index + 1)
    (machine_terms_at u (ids_of c.in-Computed.after)) has.0 c.requires.walking.program c.in_ok-after.ensures.extends has.3.are in
    answer-of c.is_walk_with.result (tree_at u c.args.goal) (tree_at o c.args.goal) _ _ (c.in_ok-after.ensures.extends.same c.args.goal c.requires.goal)
    (made ∙ sym at) c.is_walk_with.ensures.exact

pub is_insn-returns-in-Access-clause-exact : goal.is_insn-returns-in-Access-clause-exact
is_insn-returns-in-Access-clause-exact t c =
    let o = c.args.table.now in
    let u = c.effect_at.new.table in
    let p = c.args.program.now in
    let terms = machine_terms_at o (ids_of c.args.symbols.now) in
    let effect : InsnEffect = insn_effect c.args.index c.insn-insn.result terms in
    let exact = subst (λ (e : rust.Effect). IsEffect u (length p.code.now) c.args.index e effect) c.in-Access.is c.in_ok-after.ensures.exact in
    let has = at-access u (length p.code.now) c.args.index c.in-Access.allowed c.in-Access.after effect exact in
    let walk = walked p.bound p.code.now (id_trees o p.invs.now) (tree_at o p.post) c.args.fuel in
    let at = walked_at-effect walk (tree_at o p.post) c.args.index (slice_get p.code.now c.args.index) c.insn-insn.result terms (Access has.0 has.1)
    c.insn-insn.ensures.at has.2 in
    let rest = walk-same p.bound o u p.code.now p.invs.now p.post c.args.fuel (c.args.index + 1)
    (machine_terms_at u (ids_of c.in-Access.after)) has.1 c.requires.walking.program c.in_ok-after.ensures.extends has.5.are in
    let allowed : tree_at u c.in-Access.allowed ≡ has.0 = has.4.is in
    let made : and_term (tree_at u c.in-Access.allowed) (walked p.bound p.code.now (id_trees u p.invs.now) (tree_at u p.post) c.args.fuel (c.args.index + 1)
    (machine_terms_at u (ids_of c.in-Access.after))) ≡ and_term has.0 (walk (c.args.index + 1) has.1) = λ i. and_term (allowed i)
    (rest i) in
    answer-of c.is_behind.result (tree_at u c.args.goal) (tree_at o c.args.goal) _ _ (c.in_ok-after.ensures.extends.same c.args.goal c.requires.goal)
    (made ∙ sym at) c.is_behind.ensures.exact

pub is_insn-returns-in-Split-clause-exact : goal.is_insn-returns-in-Split-clause-exact
is_insn-returns-in-Split-clause-exact t c =
    let o = c.args.table.now in
    let u = c.effect_at.new.table in
    let p = c.args.program.now in
    let terms = machine_terms_at o (ids_of c.args.symbols.now) in
    let effect : InsnEffect = insn_effect c.args.index c.insn-insn.result terms in
    let exact = subst (λ (e : rust.Effect). IsEffect u (length p.code.now) c.args.index e effect) c.in-Split.is c.in_ok-after.ensures.exact in
    let has = at-split u (length p.code.now) c.args.index c.in-Split.taken c.in-Split.passed c.in-Split.target effect exact in
    let walk = walked p.bound p.code.now (id_trees o p.invs.now) (tree_at o p.post) c.args.fuel in
    let at = walked_at-effect walk (tree_at o p.post) c.args.index (slice_get p.code.now c.args.index) c.insn-insn.result terms
    (Split has.0 has.1 (Some c.in-Split.target)) c.insn-insn.ensures.at has.2 in
    let same = ready-same o u (ids_of c.args.symbols.now) c.requires.walking.ready c.in_ok-after.ensures.extends in
    let there = walk-same p.bound o u p.code.now p.invs.now p.post c.args.fuel c.in-Split.target
    (machine_terms_at u (ids_of c.args.symbols.now)) terms c.requires.walking.program c.in_ok-after.ensures.extends same in
    let onward = walk-same p.bound o u p.code.now p.invs.now p.post c.args.fuel (c.args.index + 1)
    (machine_terms_at u (ids_of c.args.symbols.now)) terms c.requires.walking.program c.in_ok-after.ensures.extends same in
    let taken : tree_at u c.in-Split.taken ≡ has.0 = has.5.is in
    let passed : tree_at u c.in-Split.passed ≡ has.1 = has.6.is in
    let later = walked p.bound p.code.now (id_trees u p.invs.now) (tree_at u p.post) c.args.fuel in
    let now = machine_terms_at u (ids_of c.args.symbols.now) in
    let made : and_term (imp_term (tree_at u c.in-Split.taken) (later c.in-Split.target now))
    (imp_term (tree_at u c.in-Split.passed) (later (c.args.index + 1) now)) ≡ and_term (imp_term has.0 (walk c.in-Split.target terms))
    (imp_term has.1 (walk (c.args.index + 1) terms)) =
    λ i. and_term (imp_term (taken i) (there i)) (imp_term (passed i) (onward i)) in
    answer-of c.is_both.result (tree_at u c.args.goal) (tree_at o c.args.goal) _ _ (c.in_ok-after.ensures.extends.same c.args.goal c.requires.goal)
    (made ∙ sym at) c.is_both.ensures.exact

pub is_insn-returns-in-Jump-clause-exact : goal.is_insn-returns-in-Jump-clause-exact
is_insn-returns-in-Jump-clause-exact t c =
    let o = c.args.table.now in
    let u = c.effect_at.new.table in
    let p = c.args.program.now in
    let terms = machine_terms_at o (ids_of c.args.symbols.now) in
    let effect : InsnEffect = insn_effect c.args.index c.insn-insn.result terms in
    let exact = subst (λ (e : rust.Effect). IsEffect u (length p.code.now) c.args.index e effect) c.in-Jump.is c.in_ok-after.ensures.exact in
    let has = at-jump u (length p.code.now) c.args.index c.in-Jump.target effect exact in
    let walk = walked p.bound p.code.now (id_trees o p.invs.now) (tree_at o p.post) c.args.fuel in
    let at = walked_at-effect walk (tree_at o p.post) c.args.index (slice_get p.code.now c.args.index) c.insn-insn.result terms
    (Jump (Some c.in-Jump.target)) c.insn-insn.ensures.at has.0 in
    let same = ready-same o u (ids_of c.args.symbols.now) c.requires.walking.ready c.in_ok-after.ensures.extends in
    let made = walk-same p.bound o u p.code.now p.invs.now p.post c.args.fuel c.in-Jump.target
    (machine_terms_at u (ids_of c.args.symbols.now)) terms c.requires.walking.program c.in_ok-after.ensures.extends same in
    answer-of c.is_walk.result (tree_at u c.args.goal) (tree_at o c.args.goal) _ _ (c.in_ok-after.ensures.extends.same c.args.goal c.requires.goal)
    (made ∙ sym at) c.is_walk.ensures.exact

pub is_insn-returns-in-Return-clause-exact : goal.is_insn-returns-in-Return-clause-exact
is_insn-returns-in-Return-clause-exact t c =
    let o = c.args.table.now in
    let u = c.effect_at.new.table in
    let p = c.args.program.now in
    let terms = machine_terms_at o (ids_of c.args.symbols.now) in
    let effect : InsnEffect = insn_effect c.args.index c.insn-insn.result terms in
    let exact = subst (λ (e : rust.Effect). IsEffect u (length p.code.now) c.args.index e effect) c.in-Return.is c.in_ok-after.ensures.exact in
    let has = at-return u (length p.code.now) c.args.index effect exact in
    let walk = walked p.bound p.code.now (id_trees o p.invs.now) (tree_at o p.post) c.args.fuel in
    let at = walked_at-effect walk (tree_at o p.post) c.args.index (slice_get p.code.now c.args.index) c.insn-insn.result terms (Return)
    c.insn-insn.ensures.at has in
    let same = ready-same o u (ids_of c.args.symbols.now) c.requires.walking.ready c.in_ok-after.ensures.extends in
    let post = c.in_ok-after.ensures.extends.same p.post c.requires.walking.program.post in
    let made : put_tree (machine_terms_at u (ids_of c.args.symbols.now)) 0 (tree_at u p.post) ≡ put_tree terms 0 (tree_at o p.post) =
    λ i. put_tree (same i) 0 (post i) in
    answer-of c.is_put_by.result (tree_at u c.args.goal) (tree_at o c.args.goal) _ _ (c.in_ok-after.ensures.extends.same c.args.goal c.requires.goal)
    (made ∙ sym at) c.is_put_by.ensures.exact

pub is_insn-returns-in-Return-clause-walking : goal.is_insn-returns-in-Return-clause-walking
is_insn-returns-in-Return-clause-walking t c =
    let o = c.args.table.now in
    let v = c.is_put_by.new.table in
    let grown = grows_more o c.effect_at.new.table v c.in_ok-after.ensures.extends c.is_put_by.ensures.extends in
    record {
      program = program-more o v c.args.program.now.code.now c.args.program.now.invs.now c.args.program.now.post c.requires.walking.program grown;
      ready = ready-more o v (ids_of c.args.symbols.now) c.requires.walking.ready grown;
      shifts = c.is_put_by.ensures.shifts;
      kept = c.is_put_by.ensures.kept;
    }

-- ---- a counted step

pub is_insn_with-returns-in_err-equal-clause-walking : goal.is_insn_with-returns-in_err-equal-clause-walking
is_insn_with-returns-in_err-equal-clause-walking t c =
    let o = c.args.table.now in
    let u = c.is_insn.new.table in
    let grown = c.is_insn.ensures.extends in
    let ids = (ids_of c.args.symbols.now) in
    record {
      program = program-more o u c.args.program.now.code.now c.args.program.now.invs.now c.args.program.now.post c.requires.walking.program grown;
      ready = ready-more o u ids c.requires.walking.ready grown;
      shifts = c.is_insn.ensures.walking.shifts;
      kept = comparisons-more c.inner-inner.new.self o u ids c.inner-inner.ensures.kept c.requires.walking.ready grown;
    }

pub is_insn_with-resume-requires-clause-kept : goal.is_insn_with-resume-requires-clause-kept
is_insn_with-resume-requires-clause-kept t c =
    comparisons-more c.inner-inner.new.self c.args.table.now c.is_insn.new.table (ids_of c.args.symbols.now) c.inner-inner.ensures.kept
    c.requires.walking.ready c.in_ok-equal.ensures.extends

pub is_insn_with-returns-clause-walking : goal.is_insn_with-returns-clause-walking
is_insn_with-returns-clause-walking t c =
    let o = c.args.table.now in
    let u = c.is_insn.new.table in
    let grown = c.in_ok-equal.ensures.extends in
    let ids = (ids_of c.args.symbols.now) in
    record {
      program = program-more o u c.args.program.now.code.now c.args.program.now.invs.now c.args.program.now.post c.requires.walking.program grown;
      ready = ready-more o u ids c.requires.walking.ready grown;
      shifts = c.in_ok-equal.ensures.walking.shifts;
      kept = c.resume.ensures;
    }

pub is_counted-returns-in_err-here-clause-walking : goal.is_counted-returns-in_err-here-clause-walking
is_counted-returns-in_err-here-clause-walking t c = comparing-more _ _ _ _ _ _ _ _ c.requires.walking c.in_err-here.ensures.extends

pub is_counted-returns-then-not-same-clause-walking : goal.is_counted-returns-then-not-same-clause-walking
is_counted-returns-then-not-same-clause-walking t c = comparing-more _ _ _ _ _ _ _ _ c.requires.walking c.in_ok-here.ensures.extends

pub is_counted-is_insn_with-requires : goal.is_counted-is_insn_with-requires
is_counted-is_insn_with-requires t c =
    let o = c.args.table.now in
    let u = c.counted_step.new.table in
    let h = subst (λ z. AreSides (app2 AND) o (tree_at o c.args.goal) z) c.in-Some.is c.sides.ensures in
    let known : IsKnown u c.in-Some.parts.second = omega (arith, h.1, c.in_ok-here.ensures.extends.longer) in
    let walking = comparing-more _ _ _ _ _ _ _ _ c.requires.walking c.in_ok-here.ensures.extends in
    (omega (arith, c.decreases), (walking, (c.requires.within, (c.in_ok-here.ensures.after.ready, known))))

pub is_counted-returns-then-not-same-clause-exact : goal.is_counted-returns-then-not-same-clause-exact
is_counted-returns-then-not-same-clause-exact t c =
    let o = c.args.table.now in
    let u = c.counted_step.new.table in
    let p = c.args.program.now in
    let goal = tree_at o c.args.goal in
    let terms = machine_terms_at o (ids_of c.args.symbols.now) in
    let walk = walked p.bound p.code.now (id_trees o p.invs.now) (tree_at o p.post) c.args.fuel in
    let here = rel_term Ult (lit 0) terms.left in
    let rest = walked_at None walk (tree_at o p.post) c.args.index (slice_get p.code.now c.args.index) (one_less terms) in
    let h = subst (λ z. AreSides (app2 AND) o goal z) c.in-Some.is c.sides.ensures in
    let first = one-answer c.same.result (tree_at u c.in-Some.parts.first) (tree_at o c.in-Some.parts.first) _ here
    (c.in_ok-here.ensures.extends.same c.in-Some.parts.first h.0) c.in_ok-here.ensures.allowed.is c.same.ensures in
    apart-first (app2 AND) (app2-one AND) goal (tree_at o c.in-Some.parts.first) (tree_at o c.in-Some.parts.second) here rest h.2
    c.same.result first c.if-not-same.true

pub is_counted-returns-clause-exact : goal.is_counted-returns-clause-exact
is_counted-returns-clause-exact t c =
    let o = c.args.table.now in
    let u = c.counted_step.new.table in
    let p = c.args.program.now in
    let goal = tree_at o c.args.goal in
    let terms = machine_terms_at o (ids_of c.args.symbols.now) in
    let insn = slice_get p.code.now c.args.index in
    let walk = walked p.bound p.code.now (id_trees o p.invs.now) (tree_at o p.post) c.args.fuel in
    let here = rel_term Ult (lit 0) terms.left in
    let rest = walked_at None walk (tree_at o p.post) c.args.index insn (one_less terms) in
    let h = subst (λ z. AreSides (app2 AND) o goal z) c.in-Some.is c.sides.ensures in
    let grown : Extends o u = c.in_ok-here.ensures.extends in
    let first = one-answer c.same.result (tree_at u c.in-Some.parts.first) (tree_at o c.in-Some.parts.first) _ here
    (grown.same c.in-Some.parts.first h.0) c.in_ok-here.ensures.allowed.is c.same.ensures in
    let made = walked_at-same p.bound o u p.code.now p.invs.now p.post c.args.fuel c.args.index insn _ (one_less terms) c.requires.walking.program grown c.in_ok-here.ensures.after.are in
    let second = answer-of c.is_insn_with.result (tree_at u c.in-Some.parts.second) (tree_at o c.in-Some.parts.second) _ rest
    (grown.same c.in-Some.parts.second h.1) made c.is_insn_with.ensures.exact in
    ok-by-second (app2 AND) (app2-one AND) goal (tree_at o c.in-Some.parts.first) (tree_at o c.in-Some.parts.second) here rest h.2
    c.same.result c.is_insn_with.result first c.if-not-same.false second

pub is_walk_from-returns-in-None-clause-exact : goal.is_walk_from-returns-in-None-clause-exact
is_walk_from-returns-in-None-clause-exact t c =
    let o = c.args.table.now in
    let p = c.args.program.now in
    let walk = walked p.bound p.code.now (id_trees o p.invs.now) (tree_at o p.post) c.args.fuel in
    let same = walked_at-uncounted p.bound walk (tree_at o p.post) c.args.index (slice_get p.code.now c.args.index) (machine_terms_at o (ids_of c.args.symbols.now)) c.in-None.is in
    subst (λ z. IfOk c.is_insn.result (λ b. IsTrue b ↔ (tree_at o c.args.goal ≡ z))) same c.is_insn.ensures.exact

pub is_walk_from-returns-in-Some-clause-exact : goal.is_walk_from-returns-in-Some-clause-exact
is_walk_from-returns-in-Some-clause-exact t c =
    let o = c.args.table.now in
    let p = c.args.program.now in
    let walk = walked p.bound p.code.now (id_trees o p.invs.now) (tree_at o p.post) c.args.fuel in
    let same = walked_at-counted p.bound _ walk (tree_at o p.post) p.code.now c.args.index (machine_terms_at o (ids_of c.args.symbols.now)) c.requires.within c.in-Some.is in
    subst (λ z. IfOk c.is_counted.result (λ b. IsTrue b ↔ (tree_at o c.args.goal ≡ z))) same c.is_counted.ensures.exact
