-- The two invariants are formulas over m and r0 to r30.
use Rattle.std.proofs.Common.{◌≡◌, List, [], refl, sym, subst, arith}
use Rattle.formula_tree.specs.Formulas.{Form}
use Rattle.formula_tree.specs.Scope.{IsOver}
use Rattle.policy_set.specs.Policies.{filter_post}
use Rattle.lf_encode.specs.declared.contexts.Sort.{Sort}
use Rattle.lf_encode.specs.Contexts.{machine_context, IsFormIn}
use Rattle.lf_encode.proofs.MachineContext.{in-machine}
use Rattle.bpf_condition.specs.Invariants.{packet_invariant}

over-machine : (F : Form) → IsOver 32 F [] → IsFormIn machine_context 32 F
over-machine F h = in-machine F h

over-context : (ctx : List Sort) (F G : Form) → ctx ≡ machine_context → F ≡ G → IsOver 32 G [] → IsFormIn ctx 32 F
over-context ctx F G c e h = subst (λ x. IsFormIn x 32 F) (sym c) (over-machine F (subst (λ X. IsOver 32 X []) (sym e) h))

pub packet-over : (ctx : List Sort) (F : Form) → ctx ≡ machine_context → F ≡ packet_invariant → IsFormIn ctx 32 F
packet-over ctx F c e = over-context ctx F packet_invariant c e
    ((omega arith, omega arith), ((((refl, omega arith), ((refl, omega arith), omega arith)), (omega arith, refl))))

pub last-over : (ctx : List Sort) (F : Form) → ctx ≡ machine_context → F ≡ filter_post → IsFormIn ctx 32 F
last-over ctx F c e = over-context ctx F filter_post c e (omega arith, omega arith)
