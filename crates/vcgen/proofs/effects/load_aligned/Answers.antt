use Rattle.std.proofs.Common.{rules, ◌≡◌, ◌∙◌}
use Rattle.term_table.specs.Table.{tree_at, Extends}
use Rattle.hereditary_subst.proofs.Rows.{grows_more}
use Rattle.lf_encode.specs.PutTree.{machine_terms_at}
use Rattle.lf_encode.proofs.KeptRows.{ready-more}
use Rattle.lf_signature.specs.Terms.{sel}
use Rattle.vcgen.specs.WalkTree.{address_term, aligned_term}
use Rattle.vcgen.proofs.Walking.{reg-after}
use Rattle.vcgen.specs.Symbols.{ids_of}
use Rattle.vcgen.proofs.effects.load_aligned.Goals as goal

pub loaded-requires-clause-ready : goal.loaded-requires-clause-ready
loaded-requires-clause-ready c = ready-more c.args.table.now c.aligned_address.new.table (ids_of c.args.symbols.now) c.requires.ready c.in_ok-quad.ensures.extends

pub with_reg-requires-clause-ready : goal.with_reg-requires-clause-ready
with_reg-requires-clause-ready c =
    let t = c.args.table.now in
    let u = c.aligned_address.new.table in
    let v = c.loaded.new.table in
    let grown = grows_more t v c.app1.new.table (grows_more t u v c.in_ok-quad.ensures.extends c.in_ok-word.ensures.extends) c.in_ok-allowed.ensures.extends in
    ready-more t c.app1.new.table (ids_of c.args.symbols.now) c.requires.ready grown

pub returns-clause-after : goal.returns-clause-after
returns-clause-after c =
    let t = c.args.table.now in
    let u = c.aligned_address.new.table in
    let v = c.loaded.new.table in
    let w = c.app1.new.table in
    let terms = machine_terms_at t (ids_of c.args.symbols.now) in
    let grown : Extends t w = grows_more t v w (grows_more t u v c.in_ok-quad.ensures.extends c.in_ok-word.ensures.extends) c.in_ok-allowed.ensures.extends in
    let memory : tree_at u c.args.symbols.now.memory ≡ terms.memory = c.in_ok-quad.ensures.extends.same c.args.symbols.now.memory c.requires.ready.memory in
    let address : tree_at u c.in_ok-quad.quad ≡ aligned_term (address_term terms c.args.rb c.args.disp) = search rules in
    let word : tree_at w c.in_ok-word.word ≡ sel terms.memory (aligned_term (address_term terms c.args.rb c.args.disp)) =
    c.in_ok-allowed.ensures.extends.same c.in_ok-word.word c.in_ok-word.ensures.id.stands.known ∙ c.in_ok-word.ensures.id.stands.is ∙ (λ i. sel (memory i) (address i)) in
    reg-after t w c.args.symbols.now c.with_reg.result c.args.ra c.in_ok-word.word (sel terms.memory (aligned_term (address_term terms c.args.rb c.args.disp))) c.requires.ready grown word c.with_reg.ensures.ready c.with_reg.ensures.terms
