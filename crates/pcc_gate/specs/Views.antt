-- What is accepted, as callers see it.
use Rattle.std.specs.Prelude.{ℕ, Bool, List, Option}
use Rattle.alpha_words.specs.declared.insn.Insn.{Insn}
use Rattle.policy_set.specs.Views.{PolicyView}
use Rattle.formula_tree.specs.Formulas.{Form}
use Rattle.formula_tree.specs.Truth.{IsValid}
use Rattle.term_table.specs.Table.{TableView, id_trees}
use Rattle.vcgen.specs.Conditions.{condition}
use Rattle.vcgen.specs.Safety.{IsAnnotated}
use Rattle.vcgen.specs.Encoded.{annotated, AreEncodings}

-- accepted code: its policy, the most steps that it makes, where they are bounded, the code with
-- its flags, and its invariants as ids of the table
pub record AcceptedView : Type 0 where
  pub policy : PolicyView
  pub bound : Option ℕ
  pub code : List Insn
  pub marks : List Bool
  pub table : TableView
  pub invs : List (ℕ × ℕ)

-- The condition of the policy, the bound, the code and the formulas of the invariants is true in
-- every structure.
abbrev pub IsConditionTrue : AcceptedView → Type 0
IsConditionTrue a =
    (formulas : List (ℕ × Form)) → AreEncodings a.bound (id_trees a.table a.invs) formulas
    → IsValid (condition (annotated a.policy a.bound a.code formulas))

-- the formulas of the invariants annotate the code
abbrev pub AreAnnotations : AcceptedView → Type 0
AreAnnotations a =
    (formulas : List (ℕ × Form)) → AreEncodings a.bound (id_trees a.table a.invs) formulas
    → IsAnnotated (annotated a.policy a.bound a.code formulas)
