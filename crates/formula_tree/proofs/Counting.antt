-- How many formulas a formula is made of, which a recursion over its parts goes down.
use Rattle.std.proofs.Common.{ℕ, ◌+◌}
use Rattle.formula_tree.specs.Formulas.{Form, FTrue, FFalse, FRel, FRd, FWr, FAnd, FOr, FImp, FAll, FAllm}

abbrev pub form_count : Form → ℕ
form_count FTrue = 1
form_count FFalse = 1
form_count (FRel p a b) = 1
form_count (FRd a) = 1
form_count (FWr a) = 1
form_count (FAnd A B) = 1 + (form_count A + form_count B)
form_count (FOr A B) = 1 + (form_count A + form_count B)
form_count (FImp A B) = 1 + (form_count A + form_count B)
form_count (FAll A) = 1 + form_count A
form_count (FAllm A) = 1 + form_count A
