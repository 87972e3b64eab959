use Rattle.pcc_c.proofs.Translated.{native-of}
use Rattle.pcc_c.proofs.translating.translated.Goals as goal

pub returns-in_ok-text_of-in-Ok-clause-native : goal.returns-in_ok-text_of-in-Ok-clause-native
returns-in_ok-text_of-in-Ok-clause-native c =
    native-of c.args.policy.now c.args.bytes.now c.in_ok-text_of-in-Ok.field-0.items c.in-Ok.accepted
    c.in-Ok.ensures.exact c.in_ok-text_of-in-Ok.ensures.exact c.in_ok-text_of-in-Ok.ensures.short
