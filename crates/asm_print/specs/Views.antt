-- Invariants, comments, hints and notes as they stand in memory, without the places of their boxes.
use Rattle.std.specs.Prelude.{ℕ, List, map}
use Rattle.formula_tree.specs.Formulas.{Form}
use Rattle.formula_tree.specs.Views.{form_view}
use Rattle.formula_tree.specs.declared.form.Form as form
use Rattle.asm_print.specs.declared.printing.Extras as code
use Rattle.asm_print.specs.Listing.{ExtrasView}

-- invariants, each with the index of its instruction
abbrev pub invs_view : List (ℕ × form.Form) → List (ℕ × Form)
invs_view invs = map (λ v. (v.0, form_view v.1)) invs

-- comments, hints and notes
abbrev pub extras_view : code.Extras → ExtrasView
extras_view extras = record {
  comments = map (λ v. v.items) extras.comments.now;
  hints = extras.hints.now;
  notes = map (λ v. v.items) extras.notes.now;
}
