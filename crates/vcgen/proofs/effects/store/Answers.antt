use Rattle.std.proofs.Common.{rules, ◌≡◌, ◌∙◌, ap}
use Rattle.term_table.specs.Table.{tree_at, Extends}
use Rattle.hereditary_subst.proofs.Rows.{grows_more}
use Rattle.lf_encode.specs.PutTree.{machine_terms_at}
use Rattle.lf_encode.proofs.KeptRows.{ready-more, ready-same}
use Rattle.lf_signature.specs.Terms.{upd}
use Rattle.vcgen.specs.WalkTree.{address_term, reg_term}
use Rattle.vcgen.proofs.Walking.{memory-after}
use Rattle.vcgen.specs.Symbols.{ids_of}
use Rattle.vcgen.proofs.effects.store.Goals as goal

pub stored-requires-clause-ready : goal.stored-requires-clause-ready
stored-requires-clause-ready c = ready-more c.args.table.now c.address.new.table (ids_of c.args.symbols.now) c.requires.ready c.in_ok-address.ensures.extends

pub with_memory-requires-clause-ready : goal.with_memory-requires-clause-ready
with_memory-requires-clause-ready c =
    let t = c.args.table.now in
    let u = c.address.new.table in
    let v = c.stored.new.table in
    let grown = grows_more t v c.app1.new.table (grows_more t u v c.in_ok-address.ensures.extends c.in_ok-memory.ensures.extends) c.in_ok-allowed.ensures.extends in
    ready-more t c.app1.new.table (ids_of c.args.symbols.now) c.requires.ready grown

pub returns-clause-after : goal.returns-clause-after
returns-clause-after c =
    let t = c.args.table.now in
    let u = c.address.new.table in
    let v = c.stored.new.table in
    let w = c.app1.new.table in
    let ids = (ids_of c.args.symbols.now) in
    let m = ids.memory in
    let terms = machine_terms_at t ids in
    let grown : Extends t w = grows_more t v w (grows_more t u v c.in_ok-address.ensures.extends c.in_ok-memory.ensures.extends) c.in_ok-allowed.ensures.extends in
    let memory : tree_at u m ≡ terms.memory = c.in_ok-address.ensures.extends.same m c.requires.ready.memory in
    let address : tree_at u c.in_ok-address.address ≡ address_term terms c.args.rb c.args.disp = search rules in
    let word : reg_term (machine_terms_at u ids) c.args.ra ≡ reg_term terms c.args.ra = ap (λ s. reg_term s c.args.ra) (ready-same t u ids c.requires.ready c.in_ok-address.ensures.extends) in
    let stored : tree_at w c.in_ok-memory.memory ≡ upd terms.memory (address_term terms c.args.rb c.args.disp) (reg_term terms c.args.ra) =
    c.in_ok-allowed.ensures.extends.same c.in_ok-memory.memory c.in_ok-memory.ensures.id.stands.known ∙ c.in_ok-memory.ensures.id.stands.is ∙ (λ i. upd (memory i) (address i) (word i)) in
    memory-after t w c.args.symbols.now c.with_memory.result c.in_ok-memory.memory (upd terms.memory (address_term terms c.args.rb c.args.disp) (reg_term terms c.args.ra)) c.requires.ready grown stored c.with_memory.ensures.ready c.with_memory.ensures.terms
