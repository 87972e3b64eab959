use Rattle.std.proofs.Common.{rules, ◌≡◌, ◌<◌, sym, subst, length, IfSome, ◌*ℤ◌, pos}
use Rattle.alpha_words.specs.declared.insn.Insn.{Insn}
use Rattle.alpha_words.specs.declared.insn.Insn.TheVariants.{Lda, Ldah, Oper}
use Rattle.alpha_cfg.specs.Flow.{next_of}
use Rattle.term_table.specs.Table.{tree_at}
use Rattle.lf_signature.specs.Terms.{op_term}
use Rattle.lf_encode.specs.PutTree.{machine_terms_at}
use Rattle.lf_encode.proofs.KeptRows.{ready-more}
use Rattle.vcgen.specs.WalkTree.{insn_effect, reg_term, rhs_term, address_term}
use Rattle.vcgen.specs.Symbols.{ids_of, IsEffect}
use Rattle.vcgen.specs.declared.effects.Effect.TheVariants as E
use Rattle.vcgen.proofs.Walking.{reg-after}
use Rattle.vcgen.proofs.effects.effect_at.Goals as goal

pub with_reg-requires-clause-ready : goal.with_reg-requires-clause-ready
with_reg-requires-clause-ready c = ready-more c.args.table.now c.address.new.table (ids_of c.args.symbols.now) c.requires.ready c.in_ok-address-in-Lda.ensures.extends

pub with_reg-requires-in-Ldah-clause-ready : goal.with_reg-requires-in-Ldah-clause-ready
with_reg-requires-in-Ldah-clause-ready c = ready-more c.args.table.now c.far_address.new.table (ids_of c.args.symbols.now) c.requires.ready c.in_ok-far-in-Ldah.ensures.extends

pub with_reg-requires-in-Oper-clause-ready : goal.with_reg-requires-in-Oper-clause-ready
with_reg-requires-in-Oper-clause-ready c = ready-more c.args.table.now c.operated.new.table (ids_of c.args.symbols.now) c.requires.ready c.in_ok-word-in-Oper.ensures.extends

pub returns-in_ok-address-in-Lda-clause-exact : goal.returns-in_ok-address-in-Lda-clause-exact
returns-in_ok-address-in-Lda-clause-exact c =
    let t = c.args.table.now in
    let terms = machine_terms_at t (ids_of c.args.symbols.now) in
    let address : tree_at c.address.new.table c.in_ok-address-in-Lda.address ≡ address_term terms c.in-Lda.rb c.in-Lda.disp = search rules in
    let on : IfSome (next_of c.args.index (Lda c.in-Lda.ra c.in-Lda.rb c.in-Lda.disp)) (λ j. j < length c.args.code.now) = subst (λ (i : Insn). IfSome (next_of c.args.index i) (λ j. j < length c.args.code.now)) c.in-Lda.is c.requires.on in
    subst (λ (i : Insn). IsEffect c.address.new.table (length c.args.code.now) c.args.index (E.Computed c.with_reg.result) (insn_effect c.args.index i terms)) (sym c.in-Lda.is)
    (on, reg-after t c.address.new.table c.args.symbols.now c.with_reg.result c.in-Lda.ra c.in_ok-address-in-Lda.address (address_term terms c.in-Lda.rb c.in-Lda.disp) c.requires.ready c.in_ok-address-in-Lda.ensures.extends address c.with_reg.ensures.ready c.with_reg.ensures.terms)

pub returns-in_ok-far-in-Ldah-clause-exact : goal.returns-in_ok-far-in-Ldah-clause-exact
returns-in_ok-far-in-Ldah-clause-exact c =
    let t = c.args.table.now in
    let terms = machine_terms_at t (ids_of c.args.symbols.now) in
    let far : tree_at c.far_address.new.table c.in_ok-far-in-Ldah.far ≡ address_term terms c.in-Ldah.rb (c.in-Ldah.disp *ℤ pos 65536) = search rules in
    let insn : Insn = Ldah c.in-Ldah.ra c.in-Ldah.rb c.in-Ldah.disp in
    let on : IfSome (next_of c.args.index insn) (λ j. j < length c.args.code.now) = subst (λ (i : Insn). IfSome (next_of c.args.index i) (λ j. j < length c.args.code.now)) c.in-Ldah.is c.requires.on in
    subst (λ (i : Insn). IsEffect c.far_address.new.table (length c.args.code.now) c.args.index (E.Computed c.with_reg-in-Ldah.result) (insn_effect c.args.index i terms)) (sym c.in-Ldah.is)
    (on, reg-after t c.far_address.new.table c.args.symbols.now c.with_reg-in-Ldah.result c.in-Ldah.ra c.in_ok-far-in-Ldah.far (address_term terms c.in-Ldah.rb (c.in-Ldah.disp *ℤ pos 65536)) c.requires.ready c.in_ok-far-in-Ldah.ensures.extends far c.with_reg-in-Ldah.ensures.ready c.with_reg-in-Ldah.ensures.terms)

pub returns-in_ok-word-in-Oper-clause-exact : goal.returns-in_ok-word-in-Oper-clause-exact
returns-in_ok-word-in-Oper-clause-exact c =
    let t = c.args.table.now in
    let terms = machine_terms_at t (ids_of c.args.symbols.now) in
    let word = c.in_ok-word-in-Oper.ensures.id.stands.is in
    let insn : Insn = Oper c.in-Oper.op c.in-Oper.ra c.in-Oper.rhs c.in-Oper.rc in
    let on : IfSome (next_of c.args.index insn) (λ j. j < length c.args.code.now) = subst (λ (i : Insn). IfSome (next_of c.args.index i) (λ j. j < length c.args.code.now)) c.in-Oper.is c.requires.on in
    subst (λ (i : Insn). IsEffect c.operated.new.table (length c.args.code.now) c.args.index (E.Computed c.with_reg-in-Oper.result) (insn_effect c.args.index i terms)) (sym c.in-Oper.is)
    (on, reg-after t c.operated.new.table c.args.symbols.now c.with_reg-in-Oper.result c.in-Oper.rc c.in_ok-word-in-Oper.word (op_term c.in-Oper.op (reg_term terms c.in-Oper.ra) (rhs_term terms c.in-Oper.rhs)) c.requires.ready c.in_ok-word-in-Oper.ensures.extends word c.with_reg-in-Oper.ensures.ready c.with_reg-in-Oper.ensures.terms)
