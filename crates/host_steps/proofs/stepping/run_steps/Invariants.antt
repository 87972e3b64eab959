use Rattle.std.proofs.Common.{◌≡◌, ◌<◌, ◌-◌, length}
use Rattle.alpha_cfg.specs.Machine.{run_of}
use Rattle.host_steps.specs.Stepping.{arena_state}
use Rattle.host_steps.proofs.stepping.run_steps.Given as goal

abbrev pub invariant-loop : goal.invariant-loop
invariant-loop l = record {
  run : run_of l.code (l.budget - l.counter) (arena_state l.base l.at l.slots l.words)
      ≡ run_of l.code l.budget (arena_state l.base l.fn.index l.fn.slots l.fn.words);
  within : l.at < length l.code;
}
