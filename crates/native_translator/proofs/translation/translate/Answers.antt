use Rattle.native_lives.specs.Certificates.{lean_of}
use Rattle.native_translator.proofs.Translated.{blocks-fit, text-short, translated}
use Rattle.native_translator.proofs.translation.translate.Goals as goal

pub bytes-requires : goal.bytes-requires
bytes-requires c =
    blocks-fit c.choose.result
    (lean_of c.in_ok-lives.lives.forms.items c.in_ok-lives.lives.live.items) c.args.metered c.args.code.now c.in_ok-layout.layout.insns.items
    c.in_ok-layout.layout.starts.items
    c.count-count.ensures.code c.laws.ensures c.layout_laws.ensures.small c.layout_laws.ensures.targets c.in_ok-layout.ensures

pub returns-clause-exact : goal.returns-clause-exact
returns-clause-exact c =
    translated c.choose.result
    (lean_of c.in_ok-lives.lives.forms.items c.in_ok-lives.lives.live.items) c.args.metered c.args.code.now c.in_ok-layout.layout.insns.items
    c.in_ok-layout.layout.starts.items
    c.in_ok-bytes.bytes.items c.count-count.ensures.code c.in_ok-lives.ensures.right c.choose.ensures c.layout_laws.ensures.targets c.in_ok-layout.ensures
    c.in_ok-bytes.ensures

pub returns-clause-short : goal.returns-clause-short
returns-clause-short c =
    text-short c.choose.result
    (lean_of c.in_ok-lives.lives.forms.items c.in_ok-lives.lives.live.items) c.args.metered c.args.code.now c.in_ok-layout.layout.insns.items
    c.in_ok-layout.layout.starts.items
    c.in_ok-bytes.bytes.items
    (blocks-fit c.choose.result
    (lean_of c.in_ok-lives.lives.forms.items c.in_ok-lives.lives.live.items) c.args.metered c.args.code.now c.in_ok-layout.layout.insns.items
    c.in_ok-layout.layout.starts.items
    c.count-count.ensures.code c.laws.ensures c.layout_laws.ensures.small c.layout_laws.ensures.targets c.in_ok-layout.ensures)
    c.in_ok-bytes.ensures
