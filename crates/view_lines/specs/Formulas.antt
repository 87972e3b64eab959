-- How the listing shows a formula that stands as a term over the machine's variables: by its text
-- where that is short, else by the name of its entry.
use Rattle.std.specs.Prelude.{ℕ, nat_le, Bool, false, if◌then◌else◌, List, length, Option, Some, None}
use Rattle.formula_tree.specs.Formulas.{Form}
use Rattle.formula_text.specs.Printing.{form_text}
use Rattle.term_table.specs.Tree.{Tree}
use Rattle.lf_signature.specs.Constants.{Longest}
use Rattle.proof_container.specs.Encoding.{entry_number}
use Rattle.pcc_gate.specs.First.{has_form, formula_of}
use Rattle.view_entries.specs.Sizes.{node_count}
use Rattle.view_entries.specs.Entries.{entry_name}
use Rattle.view_values.specs.Values.{is_false}
use Rattle.view_lines.specs.declared.limits.TheConstants.{MAX_SHOWN}

-- the formula that a term encodes over the variables of code with that bound, where it is one
unfoldable pub formula_in : Option ℕ → Tree → Option Form
formula_in bound t = if has_form Longest bound t then Some (formula_of t) else None

-- the formula's text, where that has at most MAX_SHOWN bytes
abbrev pub text_within : Option Form → Option (List ℕ)
text_within None = None
text_within (Some F) =
    if nat_le (length (form_text 0 F)) MAX_SHOWN then Some (form_text 0 F) else None

-- the formula that a term encodes, where the term has at most MAX_SHOWN nodes
unfoldable pub small_form : Option ℕ → Tree → Option Form
small_form bound t = if nat_le (node_count t) MAX_SHOWN then formula_in bound t else None

-- The text of the formula that a term encodes, where the term has at most MAX_SHOWN nodes and the
-- text at most so many bytes; a formula's text is at least as long as its term is large.
unfoldable pub short_text : Option ℕ → Tree → Option (List ℕ)
short_text bound t = text_within (small_form bound t)

-- whether a formula is there that is false by computing
abbrev pub is_false_form : Option Form → Bool
is_false_form None = false
is_false_form (Some F) = is_false F

-- whether a term has at most MAX_SHOWN nodes and encodes a formula that is false by computing
unfoldable pub is_false_term : Option ℕ → Tree → Bool
is_false_term bound t = is_false_form (small_form bound t)

-- the term, unless it has a short text
abbrev pub if_long : Option (List ℕ) → Tree → Option Tree
if_long (Some text) t = None
if_long None t = Some t

-- the term, where there is one that has no short text
abbrev pub long_term : Option ℕ → Option Tree → Option Tree
long_term bound None = None
long_term bound (Some t) = if_long (short_text bound t) t

-- the short text, or the name of the term's entry
abbrev pub text_or_name : List Tree → Tree → Option (List ℕ) → List ℕ
text_or_name es t (Some text) = text
text_or_name es t None = entry_name (entry_number es t)

-- how a term is shown, these being the entries
abbrev pub shown : Option ℕ → List Tree → Tree → List ℕ
shown bound es t = text_or_name es t (short_text bound t)
