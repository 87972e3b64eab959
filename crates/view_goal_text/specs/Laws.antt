-- What the last line of a listing says.
use Rattle.std.specs.Prelude.{◌≡◌, ℕ, List, Option, is_some}
use Rattle.alpha_words.specs.declared.insn.Insn.{Insn}
use Rattle.term_table.specs.Tree.{Tree}
use Rattle.policy_set.specs.Views.{PolicyView}
use Rattle.vcgen.specs.Encoded.{annotated}
use Rattle.pcc_gate.specs.First.{formulas}
use Rattle.prover_class.specs.Parts.{first_not_easy}
use Rattle.prover_conditions.specs.Conditions.{condition_parts}
use Rattle.view_goal_text.specs.Listing.{goal_parts, first_hard}

-- It names the first part of the condition that isn't easy, which is the one that `prove` names.
abbrev pub NamesFirst : Type 0
NamesFirst =
    (policy : PolicyView) (bound : Option ℕ) (code : List Insn) (invs : List (ℕ × Tree))
    → first_hard bound 0 (goal_parts (annotated policy bound code (formulas invs)))
    ≡ first_not_easy (is_some bound) 0 (condition_parts policy bound code invs)
