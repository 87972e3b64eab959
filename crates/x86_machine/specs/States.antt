-- States whose memory is one span, and how a state is coded.
use Rattle.std.specs.Prelude.{refl, ℕ, List, [], ◌∷◌, length, Option, Bool}
use Rattle.std.specs.Coded.{Coded, code_by, coded×, coded_ℕ, coded_bool, coded_list, coded_option}
use Rattle.std.specs.FinMap.{code}
use Rattle.word_ops.specs.Memory.{Memory}
use Rattle.reference_machine.specs.Arena.{map_of}
use Rattle.x86_machine.specs.declared.flags.Flags.{Flags}
use Rattle.x86_machine.specs.Machine.{X86}

-- the state with these quadwords from an address on, all of which may be loaded and stored
abbrev pub span_state : ℕ → List ℕ → Option Flags → ℕ → List ℕ → X86
span_state at regs flags base words = record {
  at = at;
  regs = regs;
  flags = flags;
  memory = map_of base words;
  rights = record { reads = (base, length words) ∷ []; writes = (base, length words) ∷ [] };
}

-- flags as nested pairs
abbrev pub flags_code : Coded Flags
flags_code =
    code_by (Bool × (Bool × (Bool × Bool))) (coded× coded_bool (coded× coded_bool (coded× coded_bool coded_bool)))
    (λ f. (f.carry, (f.zero, (f.sign, f.overflow)))) (λ p. record { carry = p.0; zero = p.1.0; sign = p.1.1.0; overflow = p.1.1.1 }) (λ _. refl)

-- a state as nested pairs
abbrev pub x86_code : Coded X86
x86_code =
    let spans : Coded (List (ℕ × ℕ)) = coded_list (coded× coded_ℕ coded_ℕ) in
    code_by (ℕ × (List ℕ × (Option Flags × (Memory × (List (ℕ × ℕ) × List (ℕ × ℕ))))))
    (coded× coded_ℕ (coded× (coded_list coded_ℕ) (coded× (coded_option flags_code) (coded× (code coded_ℕ coded_ℕ) (coded× spans spans)))))
    (λ x. (x.at, (x.regs, (x.flags, (x.memory, (x.rights.reads, x.rights.writes))))))
    (λ p. record { at = p.0; regs = p.1.0; flags = p.1.1.0; memory = p.1.1.1.0; rights = record { reads = p.1.1.1.1.0; writes = p.1.1.1.1.1 } })
    (λ _. refl)
