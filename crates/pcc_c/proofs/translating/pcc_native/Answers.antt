use Rattle.pcc_c.specs.Translating.{IsSafeNative}
use Rattle.pcc_c.proofs.Told.{done-front}
use Rattle.pcc_c.proofs.Translated.{native-told}
use Rattle.pcc_c.proofs.translating.pcc_native.Goals as goal

pub returns-clause-exact : goal.returns-clause-exact
returns-clause-exact c =
    native-told c.args.policy.now c.args.bytes.now c.args.out.now c.tell.new.out c.tell.new.written
    c.tell.result c.native_answer-made.result c.native_answer-made.ensures.exact
    c.native_answer-made.ensures.native c.tell.ensures

pub returns-clause-safe : goal.returns-clause-safe
returns-clause-safe c = λ done.
    done-front (IsSafeNative c.args.policy.now c.args.bytes.now) c.native_answer-made.result _ _ _ _
    c.tell.ensures done c.native_answer-made.ensures.safe
