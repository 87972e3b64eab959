use Rattle.std.proofs.Common.{◌≡◌, refl, sym, ◌∙◌, subst}
use Rattle.word_ops.specs.declared.Op.TheVariants.{Sub}
use Rattle.term_table.specs.Table.{tree_at, Extends}
use Rattle.hereditary_subst.proofs.Rows.{grows_more}
use Rattle.lf_signature.specs.Terms.{lit, app2, op_term}
use Rattle.lf_encode.proofs.KeptRows.{ready-more}
use Rattle.word_ops.specs.Operators.{op_constant}
use Rattle.vcgen.proofs.MachineRegs.{HasRoom, room-app2, left-room}
use Rattle.vcgen.proofs.Walking.{left-after}
use Rattle.vcgen.specs.Symbols.{ids_of}
use Rattle.vcgen.proofs.symbols.Symbols.one_less.Goals as goal

pub with_left-requires-clause-ready : goal.with_left-requires-clause-ready
with_left-requires-clause-ready c =
    let t = c.args.table.now in
    let grown = grows_more t c.intern.new.self c.app2.new.table c.in_ok-one.ensures.extends c.in_ok-fewer.ensures.extends in
    ready-more t c.app2.new.table (ids_of c.args.self.now) c.requires grown

pub with_left-requires-clause-room : goal.with_left-requires-clause-room
with_left-requires-clause-room c =
    let t = c.args.table.now in
    let u = c.intern.new.self in
    let left = c.args.self.now.left in
    let first : tree_at u left ≡ tree_at t left = c.in_ok-one.ensures.extends.same left c.requires.left in
    let second : tree_at u c.in_ok-one.one ≡ lit 1 = c.in_ok-one.ensures.id.1 in
    let made : tree_at c.app2.new.table c.in_ok-fewer.fewer ≡ op_term Sub (tree_at t left) (lit 1) =
    c.in_ok-fewer.ensures.id.is ∙ (λ i. app2 (c.op_constant.ensures i) (first i) (second i)) in
    subst HasRoom (sym made) (room-app2 (op_constant Sub) (tree_at t left) (lit 1) (left-room t (ids_of c.args.self.now) c.requires) refl)

pub returns-clause-after : goal.returns-clause-after
returns-clause-after c =
    let t = c.args.table.now in
    let u = c.intern.new.self in
    let w = c.app2.new.table in
    let left = c.args.self.now.left in
    let grown : Extends t w = grows_more t u w c.in_ok-one.ensures.extends c.in_ok-fewer.ensures.extends in
    let first : tree_at u left ≡ tree_at t left = c.in_ok-one.ensures.extends.same left c.requires.left in
    let second : tree_at u c.in_ok-one.one ≡ lit 1 = c.in_ok-one.ensures.id.1 in
    let made : tree_at w c.in_ok-fewer.fewer ≡ op_term Sub (tree_at t left) (lit 1) =
    c.in_ok-fewer.ensures.id.is ∙ (λ i. app2 (c.op_constant.ensures i) (first i) (second i)) in
    left-after t w c.args.self.now c.with_left.result c.in_ok-fewer.fewer (op_term Sub (tree_at t left) (lit 1)) c.requires grown made c.with_left.ensures.ready c.with_left.ensures.terms
