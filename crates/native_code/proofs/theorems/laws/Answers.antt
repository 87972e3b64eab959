use Rattle.native_code.proofs.Called.{called}
use Rattle.native_code.proofs.Following.{follows, spends}
use Rattle.native_code.proofs.Ending.{safe, ends-in-time, returns-in-time}
use Rattle.native_code.proofs.theorems.laws.Goals as goal

pub returns : goal.returns
returns c =
    record { called = called; simulates = follows; spends = spends; safe = safe; ends = ends-in-time; bounded = returns-in-time }
