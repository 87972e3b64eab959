use Rattle.std.proofs.Common.{ℕ, Vec, Global}
use Rattle.pcc_c.proofs.Translated.{ok-more, safe-native}
use Rattle.pcc_c.proofs.translating.native_answer.Goals as goal

pub returns-clause-safe : goal.returns-clause-safe
returns-clause-safe c =
    ok-more c.translated.result
    (λ (made : Vec ℕ Global) native.
    safe-native c.args.policy.now c.args.bytes.now made.items c.in_ok-under.under c.in_ok-under.ensures
    native c.laws.ensures c.call_laws.ensures.safe c.call_laws.ensures.ends c.call_laws.ensures.bounded)
    c.translated.ensures.native
