use Rattle.std.proofs.Common.{◌≡◌, ℕ, ◌<◌, ◌≤◌, get_or}
use Rattle.reference_machine.specs.declared.layout.TheConstants.{ARENA, QUADWORDS}
use Rattle.reference_machine.specs.Agents.{EndBy, end_of_span}
use Rattle.reference_machine.proofs.loading.reach.Given as goal

abbrev pub invariant-loop-span : goal.invariant-loop-span
invariant-loop-span l = record {
  above : l.end ≤ l.most;
  within : l.most ≤ QUADWORDS;
  least : (n : ℕ) → l.end ≤ n → EndBy ARENA n l.spans → l.most ≤ n;
  each : (span : ℕ × ℕ) (k : ℕ) → k < l.span-index → get_or l.spans k span ≡ span → end_of_span ARENA span ≤ l.most;
}
