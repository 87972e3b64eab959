use Rattle.std.proofs.Common.{◌≡◌, ◌+◌, IfOk, Some, None, length, slice_get, sym, ◌∙◌, subst, arith}
use Rattle.term_table.specs.Table.{tree_at, Extends, id_trees}
use Rattle.hereditary_subst.proofs.Rows.{grows_more, memo-more}
use Rattle.lf_signature.specs.Nodes.{IsIdOf}
use Rattle.word_ops.specs.declared.Rel.TheVariants.{Ult}
use Rattle.lf_signature.specs.Terms.{lit, rel_term, and_term, imp_term}
use Rattle.lf_encode.specs.PutTree.{machine_terms_at, put_tree}
use Rattle.lf_encode.proofs.KeptRows.{ready-more, ready-same, kept-ready}
use Rattle.vcgen.specs.WalkTree.{InsnEffect, Computed, Access, Split, Jump, Return, insn_effect, walked, walked_at, one_less}
use Rattle.vcgen.specs.Symbols.{ids_of, IsEffect}
use Rattle.vcgen.specs.declared.effects.Effect as rust
use Rattle.vcgen.proofs.Walking.{program-more, walking-more, inv-known, walk-ended, walk-spent, walk-on, walk-same, at-computed, at-access, at-split, at-jump, at-return, walked_at-effect, walked_at-same, walked_at-uncounted, walked_at-counted}
use Rattle.vcgen.proofs.walk.+walking.Goals as goal

-- ---- walk

pub walk-put-requires-clause-known : goal.walk-put-requires-clause-known
walk-put-requires-clause-known t c = (inv-known c.args.table.now c.args.program.now.invs.now c.args.index c.in-Some.inv c.invariant.result c.requires.walking.program.invs c.invariant.ensures c.in-Some.is).0

pub walk-put-requires-clause-low : goal.walk-put-requires-clause-low
walk-put-requires-clause-low t c = (inv-known c.args.table.now c.args.program.now.invs.now c.args.index c.in-Some.inv c.invariant.result c.requires.walking.program.invs c.invariant.ensures c.in-Some.is).1

pub walk-returns-then-fuel-eq0-clause-id : goal.walk-returns-then-fuel-eq0-clause-id
walk-returns-then-fuel-eq0-clause-id t c =
    let o = c.args.table.now in
    let u = c.intern.new.self in
    let terms = machine_terms_at o (ids_of c.args.symbols.now) in
    let post = tree_at o c.args.program.now.post in
    let tree = walked c.args.program.now.bound c.args.program.now.code.now (id_trees o c.args.program.now.invs.now) post c.args.fuel c.args.index terms in
    let spent = walk-spent c.args.program.now.bound o c.args.program.now.code.now c.args.program.now.invs.now post c.args.index terms c.args.fuel c.invariant.result c.if-fuel-eq0.true c.invariant.ensures c.in-None.is in
    let s = c.in_ok-intern-in-None.ensures.id in
    record { known = s.0; is = s.1 ∙ sym spent }

pub walk-returns-then-fuel-eq0-clause-walking : goal.walk-returns-then-fuel-eq0-clause-walking
walk-returns-then-fuel-eq0-clause-walking t c = walking-more _ _ _ _ _ _ _ _ c.requires.walking c.intern.ensures.extends

pub walk-returns-in-Some-clause-id : goal.walk-returns-in-Some-clause-id
walk-returns-in-Some-clause-id t c =
    let o = c.args.table.now in
    let terms = machine_terms_at o (ids_of c.args.symbols.now) in
    let ended = walk-ended c.args.program.now.bound o c.args.program.now.code.now c.args.program.now.invs.now (tree_at o c.args.program.now.post) c.args.index terms c.args.fuel c.in-Some.inv c.invariant.result c.invariant.ensures c.in-Some.is in
    subst (λ z. IfOk c.put.result (IsIdOf c.put.new.table z)) (sym ended) c.put.ensures.exact

pub walk-returns-in-Some-clause-walking : goal.walk-returns-in-Some-clause-walking
walk-returns-in-Some-clause-walking t c =
    let o = c.args.table.now in
    let u = c.put.new.table in
    record {
      program = program-more o u c.args.program.now.code.now c.args.program.now.invs.now c.args.program.now.post c.requires.walking.program c.put.ensures.extends;
      ready = ready-more o u (ids_of c.args.symbols.now) c.requires.walking.ready c.put.ensures.extends;
      shifts = c.put.ensures.shifts;
      kept = c.put.ensures.kept;
    }

pub walk-returns-else-fuel-eq0-clause-id : goal.walk-returns-else-fuel-eq0-clause-id
walk-returns-else-fuel-eq0-clause-id t c =
    let o = c.args.table.now in
    let terms = machine_terms_at o (ids_of c.args.symbols.now) in
    let on = walk-on c.args.program.now.bound o c.args.program.now.code.now c.args.program.now.invs.now (tree_at o c.args.program.now.post) c.args.index terms c.args.fuel c.invariant.result (omega arith) c.invariant.ensures c.in-None.is in
    subst (λ z. IfOk c.walk_from.result (IsIdOf c.walk_from.new.table z)) (sym on) c.walk_from.ensures.id

-- ---- the walk with other terms

pub walk_with-returns-clause-walking : goal.walk_with-returns-clause-walking
walk_with-returns-clause-walking t c =
    let o = c.args.table.now in
    let u = c.walk.new.table in
    record {
      program = program-more o u c.args.program.now.code.now c.args.program.now.invs.now c.args.program.now.post c.requires.walking.program c.walk.ensures.extends;
      ready = ready-more o u (ids_of c.args.symbols.now) c.requires.walking.ready c.walk.ensures.extends;
      shifts = c.walk.ensures.walking.shifts;
      kept = kept-ready c.args.kept.now o u (ids_of c.args.symbols.now) c.requires.walking.kept c.requires.walking.ready c.walk.ensures.extends;
    }

-- ---- the walk behind an access, and both walks of a branch

pub walk_behind-returns-clause-walking : goal.walk_behind-returns-clause-walking
walk_behind-returns-clause-walking t c = walking-more _ _ _ _ _ _ _ _ c.in_ok-rest.ensures.walking c.app2.ensures.extends

pub walk_behind-returns-in_err-app2-clause-walking : goal.walk_behind-returns-in_err-app2-clause-walking
walk_behind-returns-in_err-app2-clause-walking t c = walking-more _ _ _ _ _ _ _ _ c.in_ok-rest.ensures.walking c.app2.ensures.extends

pub walk_both-returns-in_err-first-clause-walking : goal.walk_both-returns-in_err-first-clause-walking
walk_both-returns-in_err-first-clause-walking t c = walking-more _ _ _ _ _ _ _ _ c.in_ok-onward.ensures.walking c.in_err-first.ensures.extends

pub walk_both-returns-in_err-second-clause-walking : goal.walk_both-returns-in_err-second-clause-walking
walk_both-returns-in_err-second-clause-walking t c =
    let grown = grows_more c.walk-2.new.table c.app2.new.table c.app2-2.new.table c.in_ok-first.ensures.extends c.in_err-second.ensures.extends in
    walking-more _ _ _ _ _ _ _ _ c.in_ok-onward.ensures.walking grown

pub walk_both-returns-clause-walking : goal.walk_both-returns-clause-walking
walk_both-returns-clause-walking t c =
    let u = c.walk-2.new.table in
    let v = c.app2-2.new.table in
    let grown = grows_more u v c.app2-3.new.table (grows_more u c.app2.new.table v c.in_ok-first.ensures.extends c.in_ok-second.ensures.extends) c.app2-3.ensures.extends in
    walking-more _ _ _ _ _ _ _ _ c.in_ok-onward.ensures.walking grown

pub walk_both-returns-in_err-app2-clause-walking : goal.walk_both-returns-in_err-app2-clause-walking
walk_both-returns-in_err-app2-clause-walking t c =
    let u = c.walk-2.new.table in
    let v = c.app2-2.new.table in
    let grown = grows_more u v c.app2-3.new.table (grows_more u c.app2.new.table v c.in_ok-first.ensures.extends c.in_ok-second.ensures.extends) c.app2-3.ensures.extends in
    walking-more _ _ _ _ _ _ _ _ c.in_ok-onward.ensures.walking grown

pub walk_both-returns-clause-id : goal.walk_both-returns-clause-id
walk_both-returns-clause-id t c =
    let o = c.args.table.now in
    let u = c.walk.new.table in
    let v = c.walk-2.new.table in
    let w = c.app2.new.table in
    let x = c.app2-2.new.table in
    let p = c.args.program.now in
    let ids = (ids_of c.args.symbols.now) in
    let terms = machine_terms_at o ids in
    let walk = walked p.bound p.code.now (id_trees o p.invs.now) (tree_at o p.post) c.args.fuel in
    let first : tree_at x c.in_ok-first.first ≡ imp_term (tree_at o c.args.taken.0) (walk c.args.taken.1 terms) =
    let known = c.in_ok-first.ensures.id in
    let there = c.in_ok-onward.ensures.extends.same c.in_ok-there.there c.in_ok-there.ensures.id.known ∙ c.in_ok-there.ensures.id.is in
    let taken = c.in_ok-onward.ensures.extends.same c.args.taken.0 (omega (arith, c.requires.taken, c.in_ok-there.ensures.extends.longer)) ∙ c.in_ok-there.ensures.extends.same c.args.taken.0 c.requires.taken in
    c.in_ok-second.ensures.extends.same c.in_ok-first.first known.known ∙ known.is ∙ (λ i. imp_term (taken i) (there i)) in
    let second : tree_at x c.in_ok-second.second ≡ imp_term (tree_at o c.args.passed.0) (walk c.args.passed.1 terms) =
    let same = walk-same p.bound o u p.code.now p.invs.now p.post c.args.fuel c.args.passed.1 (machine_terms_at u ids) terms c.requires.walking.program c.in_ok-there.ensures.extends (ready-same o u ids c.requires.walking.ready c.in_ok-there.ensures.extends) in
    let onward = c.in_ok-first.ensures.extends.same c.in_ok-onward.onward c.in_ok-onward.ensures.id.known ∙ c.in_ok-onward.ensures.id.is ∙ same in
    let grown : Extends o w = grows_more o v w (grows_more o u v c.in_ok-there.ensures.extends c.in_ok-onward.ensures.extends) c.in_ok-first.ensures.extends in
    let passed = grown.same c.args.passed.0 c.requires.passed in
    c.in_ok-second.ensures.id.is ∙ (λ i. imp_term (passed i) (onward i)) in
    subst (λ z. IsIdOf c.app2-3.new.table z c.in_ok-app2.field-0) (λ i. and_term (first i) (second i)) c.in_ok-app2.ensures.id

-- ---- the walk from an instruction

pub walk_insn-returns-in_err-after-clause-walking : goal.walk_insn-returns-in_err-after-clause-walking
walk_insn-returns-in_err-after-clause-walking t c = walking-more _ _ _ _ _ _ _ _ c.requires.walking c.in_err-after.ensures.extends

pub walk_insn-put-requires-clause-ready : goal.walk_insn-put-requires-clause-ready
walk_insn-put-requires-clause-ready t c = ready-more c.args.table.now c.effect_at.new.table (ids_of c.args.symbols.now) c.requires.walking.ready c.in_ok-after.ensures.extends

pub walk_insn-put-requires-clause-shifts : goal.walk_insn-put-requires-clause-shifts
walk_insn-put-requires-clause-shifts t c = memo-more c.args.shifts.now c.args.table.now c.effect_at.new.table c.requires.walking.shifts c.in_ok-after.ensures.extends

pub walk_insn-put-requires-clause-kept : goal.walk_insn-put-requires-clause-kept
walk_insn-put-requires-clause-kept t c = kept-ready c.args.kept.now c.args.table.now c.effect_at.new.table (ids_of c.args.symbols.now) c.requires.walking.kept c.requires.walking.ready c.in_ok-after.ensures.extends

pub walk_insn-walk_with-requires : goal.walk_insn-walk_with-requires
walk_insn-walk_with-requires t c =
    let o = c.args.table.now in
    let u = c.effect_at.new.table in
    let p = c.args.program.now in
    let terms = machine_terms_at o (ids_of c.args.symbols.now) in
    let effect : InsnEffect = insn_effect c.args.index c.insn-insn.result terms in
    let exact = subst (λ (e : rust.Effect). IsEffect u (length p.code.now) c.args.index e effect) c.in-Computed.is c.in_ok-after.ensures.exact in
    let has = at-computed u (length p.code.now) c.args.index c.in-Computed.after effect exact in
    let walking = walking-more _ _ _ _ _ _ _ _ c.requires.walking c.in_ok-after.ensures.extends in
    (omega (arith, c.decreases), (walking, (has.2, has.3.ready)))

pub walk_insn-walk_behind-requires : goal.walk_insn-walk_behind-requires
walk_insn-walk_behind-requires t c =
    let o = c.args.table.now in
    let u = c.effect_at.new.table in
    let p = c.args.program.now in
    let terms = machine_terms_at o (ids_of c.args.symbols.now) in
    let effect : InsnEffect = insn_effect c.args.index c.insn-insn.result terms in
    let exact = subst (λ (e : rust.Effect). IsEffect u (length p.code.now) c.args.index e effect) c.in-Access.is c.in_ok-after.ensures.exact in
    let has = at-access u (length p.code.now) c.args.index c.in-Access.allowed c.in-Access.after effect exact in
    let walking = walking-more _ _ _ _ _ _ _ _ c.requires.walking c.in_ok-after.ensures.extends in
    (omega (arith, c.decreases), (walking, (has.3, (has.4.known, has.5.ready))))

pub walk_insn-walk_both-requires : goal.walk_insn-walk_both-requires
walk_insn-walk_both-requires t c =
    let o = c.args.table.now in
    let u = c.effect_at.new.table in
    let p = c.args.program.now in
    let terms = machine_terms_at o (ids_of c.args.symbols.now) in
    let effect : InsnEffect = insn_effect c.args.index c.insn-insn.result terms in
    let exact = subst (λ (e : rust.Effect). IsEffect u (length p.code.now) c.args.index e effect) c.in-Split.is c.in_ok-after.ensures.exact in
    let has = at-split u (length p.code.now) c.args.index c.in-Split.taken c.in-Split.passed c.in-Split.target effect exact in
    let walking = walking-more _ _ _ _ _ _ _ _ c.requires.walking c.in_ok-after.ensures.extends in
    (omega (arith, c.decreases), (walking, (has.4, (has.3, (has.5.known, has.6.known)))))

pub walk_insn-walk-requires : goal.walk_insn-walk-requires
walk_insn-walk-requires t c =
    let o = c.args.table.now in
    let u = c.effect_at.new.table in
    let p = c.args.program.now in
    let terms = machine_terms_at o (ids_of c.args.symbols.now) in
    let effect : InsnEffect = insn_effect c.args.index c.insn-insn.result terms in
    let exact = subst (λ (e : rust.Effect). IsEffect u (length p.code.now) c.args.index e effect) c.in-Jump.is c.in_ok-after.ensures.exact in
    let has = at-jump u (length p.code.now) c.args.index c.in-Jump.target effect exact in
    let walking = walking-more _ _ _ _ _ _ _ _ c.requires.walking c.in_ok-after.ensures.extends in
    (omega (arith, c.decreases), (walking, has.1))

pub walk_insn-returns-in-Computed-clause-id : goal.walk_insn-returns-in-Computed-clause-id
walk_insn-returns-in-Computed-clause-id t c =
    let o = c.args.table.now in
    let u = c.effect_at.new.table in
    let p = c.args.program.now in
    let terms = machine_terms_at o (ids_of c.args.symbols.now) in
    let effect : InsnEffect = insn_effect c.args.index c.insn-insn.result terms in
    let exact = subst (λ (e : rust.Effect). IsEffect u (length p.code.now) c.args.index e effect) c.in-Computed.is c.in_ok-after.ensures.exact in
    let has = at-computed u (length p.code.now) c.args.index c.in-Computed.after effect exact in
    let walk = walked p.bound p.code.now (id_trees o p.invs.now) (tree_at o p.post) c.args.fuel in
    let at = walked_at-effect walk (tree_at o p.post) c.args.index (slice_get p.code.now c.args.index) c.insn-insn.result terms (Computed has.0) c.insn-insn.ensures.at has.1 in
    let made = walk-same p.bound o u p.code.now p.invs.now p.post c.args.fuel (c.args.index + 1) (machine_terms_at u (ids_of c.in-Computed.after)) has.0 c.requires.walking.program c.in_ok-after.ensures.extends has.3.are in
    subst (λ z. IfOk c.walk_with.result (IsIdOf c.walk_with.new.table z)) (made ∙ sym at) c.walk_with.ensures.id

pub walk_insn-returns-in-Access-clause-id : goal.walk_insn-returns-in-Access-clause-id
walk_insn-returns-in-Access-clause-id t c =
    let o = c.args.table.now in
    let u = c.effect_at.new.table in
    let p = c.args.program.now in
    let terms = machine_terms_at o (ids_of c.args.symbols.now) in
    let effect : InsnEffect = insn_effect c.args.index c.insn-insn.result terms in
    let exact = subst (λ (e : rust.Effect). IsEffect u (length p.code.now) c.args.index e effect) c.in-Access.is c.in_ok-after.ensures.exact in
    let has = at-access u (length p.code.now) c.args.index c.in-Access.allowed c.in-Access.after effect exact in
    let walk = walked p.bound p.code.now (id_trees o p.invs.now) (tree_at o p.post) c.args.fuel in
    let at = walked_at-effect walk (tree_at o p.post) c.args.index (slice_get p.code.now c.args.index) c.insn-insn.result terms (Access has.0 has.1) c.insn-insn.ensures.at has.2 in
    let rest = walk-same p.bound o u p.code.now p.invs.now p.post c.args.fuel (c.args.index + 1) (machine_terms_at u (ids_of c.in-Access.after)) has.1 c.requires.walking.program c.in_ok-after.ensures.extends has.5.are in
    let allowed : tree_at u c.in-Access.allowed ≡ has.0 = has.4.is in
    let made : and_term (tree_at u c.in-Access.allowed) (walked p.bound p.code.now (id_trees u p.invs.now) (tree_at u p.post) c.args.fuel (c.args.index + 1) (machine_terms_at u (ids_of c.in-Access.after))) ≡ and_term has.0 (walk (c.args.index + 1) has.1) = λ i. and_term (allowed i) (rest i) in
    subst (λ z. IfOk c.walk_behind.result (IsIdOf c.walk_behind.new.table z)) (made ∙ sym at) c.walk_behind.ensures.id

pub walk_insn-returns-in-Split-clause-id : goal.walk_insn-returns-in-Split-clause-id
walk_insn-returns-in-Split-clause-id t c =
    let o = c.args.table.now in
    let u = c.effect_at.new.table in
    let p = c.args.program.now in
    let terms = machine_terms_at o (ids_of c.args.symbols.now) in
    let effect : InsnEffect = insn_effect c.args.index c.insn-insn.result terms in
    let exact = subst (λ (e : rust.Effect). IsEffect u (length p.code.now) c.args.index e effect) c.in-Split.is c.in_ok-after.ensures.exact in
    let has = at-split u (length p.code.now) c.args.index c.in-Split.taken c.in-Split.passed c.in-Split.target effect exact in
    let walk = walked p.bound p.code.now (id_trees o p.invs.now) (tree_at o p.post) c.args.fuel in
    let at = walked_at-effect walk (tree_at o p.post) c.args.index (slice_get p.code.now c.args.index) c.insn-insn.result terms (Split has.0 has.1 (Some c.in-Split.target)) c.insn-insn.ensures.at has.2 in
    let same = ready-same o u (ids_of c.args.symbols.now) c.requires.walking.ready c.in_ok-after.ensures.extends in
    let there = walk-same p.bound o u p.code.now p.invs.now p.post c.args.fuel c.in-Split.target (machine_terms_at u (ids_of c.args.symbols.now)) terms c.requires.walking.program c.in_ok-after.ensures.extends same in
    let onward = walk-same p.bound o u p.code.now p.invs.now p.post c.args.fuel (c.args.index + 1) (machine_terms_at u (ids_of c.args.symbols.now)) terms c.requires.walking.program c.in_ok-after.ensures.extends same in
    let taken : tree_at u c.in-Split.taken ≡ has.0 = has.5.is in
    let passed : tree_at u c.in-Split.passed ≡ has.1 = has.6.is in
    let later = walked p.bound p.code.now (id_trees u p.invs.now) (tree_at u p.post) c.args.fuel in
    let now = machine_terms_at u (ids_of c.args.symbols.now) in
    let made : and_term (imp_term (tree_at u c.in-Split.taken) (later c.in-Split.target now)) (imp_term (tree_at u c.in-Split.passed) (later (c.args.index + 1) now)) ≡ and_term (imp_term has.0 (walk c.in-Split.target terms)) (imp_term has.1 (walk (c.args.index + 1) terms)) =
    λ i. and_term (imp_term (taken i) (there i)) (imp_term (passed i) (onward i)) in
    subst (λ z. IfOk c.walk_both.result (IsIdOf c.walk_both.new.table z)) (made ∙ sym at) c.walk_both.ensures.id

pub walk_insn-returns-in-Jump-clause-id : goal.walk_insn-returns-in-Jump-clause-id
walk_insn-returns-in-Jump-clause-id t c =
    let o = c.args.table.now in
    let u = c.effect_at.new.table in
    let p = c.args.program.now in
    let terms = machine_terms_at o (ids_of c.args.symbols.now) in
    let effect : InsnEffect = insn_effect c.args.index c.insn-insn.result terms in
    let exact = subst (λ (e : rust.Effect). IsEffect u (length p.code.now) c.args.index e effect) c.in-Jump.is c.in_ok-after.ensures.exact in
    let has = at-jump u (length p.code.now) c.args.index c.in-Jump.target effect exact in
    let walk = walked p.bound p.code.now (id_trees o p.invs.now) (tree_at o p.post) c.args.fuel in
    let at = walked_at-effect walk (tree_at o p.post) c.args.index (slice_get p.code.now c.args.index) c.insn-insn.result terms (Jump (Some c.in-Jump.target)) c.insn-insn.ensures.at has.0 in
    let same = ready-same o u (ids_of c.args.symbols.now) c.requires.walking.ready c.in_ok-after.ensures.extends in
    let made = walk-same p.bound o u p.code.now p.invs.now p.post c.args.fuel c.in-Jump.target (machine_terms_at u (ids_of c.args.symbols.now)) terms c.requires.walking.program c.in_ok-after.ensures.extends same in
    subst (λ z. IfOk c.walk.result (IsIdOf c.walk.new.table z)) (made ∙ sym at) c.walk.ensures.id

pub walk_insn-returns-in-Return-clause-id : goal.walk_insn-returns-in-Return-clause-id
walk_insn-returns-in-Return-clause-id t c =
    let o = c.args.table.now in
    let u = c.effect_at.new.table in
    let p = c.args.program.now in
    let terms = machine_terms_at o (ids_of c.args.symbols.now) in
    let effect : InsnEffect = insn_effect c.args.index c.insn-insn.result terms in
    let exact = subst (λ (e : rust.Effect). IsEffect u (length p.code.now) c.args.index e effect) c.in-Return.is c.in_ok-after.ensures.exact in
    let has = at-return u (length p.code.now) c.args.index effect exact in
    let walk = walked p.bound p.code.now (id_trees o p.invs.now) (tree_at o p.post) c.args.fuel in
    let at = walked_at-effect walk (tree_at o p.post) c.args.index (slice_get p.code.now c.args.index) c.insn-insn.result terms (Return) c.insn-insn.ensures.at has in
    let same = ready-same o u (ids_of c.args.symbols.now) c.requires.walking.ready c.in_ok-after.ensures.extends in
    let post = c.in_ok-after.ensures.extends.same p.post c.requires.walking.program.post in
    let made : put_tree (machine_terms_at u (ids_of c.args.symbols.now)) 0 (tree_at u p.post) ≡ put_tree terms 0 (tree_at o p.post) = λ i. put_tree (same i) 0 (post i) in
    subst (λ z. IfOk c.put.result (IsIdOf c.put.new.table z)) (made ∙ sym at) c.put.ensures.exact

pub walk_insn-returns-in-Return-clause-walking : goal.walk_insn-returns-in-Return-clause-walking
walk_insn-returns-in-Return-clause-walking t c =
    let o = c.args.table.now in
    let v = c.put.new.table in
    let grown = grows_more o c.effect_at.new.table v c.in_ok-after.ensures.extends c.put.ensures.extends in
    record {
      program = program-more o v c.args.program.now.code.now c.args.program.now.invs.now c.args.program.now.post c.requires.walking.program grown;
      ready = ready-more o v (ids_of c.args.symbols.now) c.requires.walking.ready grown;
      shifts = c.put.ensures.shifts;
      kept = c.put.ensures.kept;
    }

-- ---- a counted step

pub walk_insn_with-returns-clause-walking : goal.walk_insn_with-returns-clause-walking
walk_insn_with-returns-clause-walking t c =
    let o = c.args.table.now in
    let u = c.walk_insn.new.table in
    let grown = c.walk_insn.ensures.extends in
    record {
      program = program-more o u c.args.program.now.code.now c.args.program.now.invs.now c.args.program.now.post c.requires.walking.program grown;
      ready = ready-more o u (ids_of c.args.symbols.now) c.requires.walking.ready grown;
      shifts = c.walk_insn.ensures.walking.shifts;
      kept = kept-ready c.args.kept.now o u (ids_of c.args.symbols.now) c.requires.walking.kept c.requires.walking.ready grown;
    }

pub walk_counted-returns-in_err-here-clause-walking : goal.walk_counted-returns-in_err-here-clause-walking
walk_counted-returns-in_err-here-clause-walking t c = walking-more _ _ _ _ _ _ _ _ c.requires.walking c.in_err-here.ensures.extends

pub walk_counted-walk_insn_with-requires : goal.walk_counted-walk_insn_with-requires
walk_counted-walk_insn_with-requires t c =
    let walking = walking-more _ _ _ _ _ _ _ _ c.requires.walking c.in_ok-here.ensures.extends in
    (omega (arith, c.decreases), (walking, (c.requires.within, c.in_ok-here.ensures.after.ready)))

pub walk_counted-returns-clause-walking : goal.walk_counted-returns-clause-walking
walk_counted-returns-clause-walking t c = walking-more _ _ _ _ _ _ _ _ c.in_ok-rest.ensures.walking c.app2.ensures.extends

pub walk_counted-returns-in_err-app2-clause-walking : goal.walk_counted-returns-in_err-app2-clause-walking
walk_counted-returns-in_err-app2-clause-walking t c = walking-more _ _ _ _ _ _ _ _ c.in_ok-rest.ensures.walking c.app2.ensures.extends

pub walk_counted-returns-clause-id : goal.walk_counted-returns-clause-id
walk_counted-returns-clause-id t c =
    let o = c.args.table.now in
    let u = c.counted_step.new.table in
    let v = c.walk_insn_with.new.table in
    let p = c.args.program.now in
    let terms = machine_terms_at o (ids_of c.args.symbols.now) in
    let insn = slice_get p.code.now c.args.index in
    let walk = walked p.bound p.code.now (id_trees o p.invs.now) (tree_at o p.post) c.args.fuel in
    let here : tree_at v c.in_ok-here.here ≡ rel_term Ult (lit 0) terms.left =
    c.in_ok-rest.ensures.extends.same c.in_ok-here.here c.in_ok-here.ensures.allowed.known ∙ c.in_ok-here.ensures.allowed.is in
    let rest : tree_at v c.in_ok-rest.rest ≡ walked_at None walk (tree_at o p.post) c.args.index insn (one_less terms) =
    c.in_ok-rest.ensures.id.is ∙ walked_at-same p.bound o u p.code.now p.invs.now p.post c.args.fuel c.args.index insn (machine_terms_at u (ids_of c.in_ok-here.after)) (one_less terms) c.requires.walking.program c.in_ok-here.ensures.extends c.in_ok-here.ensures.after.are in
    subst (λ z. IsIdOf c.app2.new.table z c.in_ok-app2.field-0) (λ i. and_term (here i) (rest i)) c.in_ok-app2.ensures.id

pub walk_from-returns-in-None-clause-id : goal.walk_from-returns-in-None-clause-id
walk_from-returns-in-None-clause-id t c =
    let o = c.args.table.now in
    let p = c.args.program.now in
    let walk = walked p.bound p.code.now (id_trees o p.invs.now) (tree_at o p.post) c.args.fuel in
    let same = walked_at-uncounted p.bound walk (tree_at o p.post) c.args.index (slice_get p.code.now c.args.index) (machine_terms_at o (ids_of c.args.symbols.now)) c.in-None.is in
    subst (λ z. IfOk c.walk_insn.result (IsIdOf c.walk_insn.new.table z)) same c.walk_insn.ensures.id

pub walk_from-returns-in-Some-clause-id : goal.walk_from-returns-in-Some-clause-id
walk_from-returns-in-Some-clause-id t c =
    let o = c.args.table.now in
    let p = c.args.program.now in
    let walk = walked p.bound p.code.now (id_trees o p.invs.now) (tree_at o p.post) c.args.fuel in
    let same = walked_at-counted p.bound _ walk (tree_at o p.post) p.code.now c.args.index (machine_terms_at o (ids_of c.args.symbols.now)) c.requires.within c.in-Some.is in
    subst (λ z. IfOk c.walk_counted.result (IsIdOf c.walk_counted.new.table z)) same c.walk_counted.ensures.id
