-- Places of tokens and of faults lie in the text, or at its end.
use Rattle.std.proofs.Common.{◌≡◌, ℕ, suc, ◌+◌, ◌≤◌, Bool, true, false, List, [], ◌∷◌, length, Result, Ok, Err, ap, arith}
use Rattle.std.specs.List.{AllByRecursion}
use Rattle.word_ops.specs.declared.Profile.{Profile}
use Rattle.formula_tree.specs.Formulas.{Form}
use Rattle.term_table.specs.Steps.{◌>>=◌}
use Rattle.text_tokens.specs.declared.parens.Paren.{Paren}
use Rattle.text_tokens.specs.declared.tokens.Class.{Class}
use Rattle.text_tokens.specs.declared.tokens.Class.TheVariants as C
use Rattle.text_tokens.specs.Tokens.{Mark, Lexeme, Placed, goes_on, lengthened, with_byte, tokens_at}
use Rattle.text_tokens.specs.Parens.{paren_class}
use Rattle.formula_text.specs.declared.fault.TextFlaw.{TextFlaw}
use Rattle.formula_text.specs.declared.fault.TextFlaw.TheVariants.{Shape}
use Rattle.formula_text.specs.Parsing.{FaultAt, Expected, Inside, Opened, Binding, Whole, ParseState, parse_step, at_position, parse_end, parsed_tokens}
use Rattle.formula_text.specs.Parsing.{parsed_form}

-- each token stands no later than m
abbrev pub AreBefore : {M : Type 0} → ℕ → List (Placed M) → Type 0
AreBefore m ts = AllByRecursion (λ t. t.0 ≤ m) ts

lengthened_before : {M : Type 0} (m p b : ℕ) (ts : List (Placed M)) → p ≤ m → AreBefore m ts → AreBefore m (lengthened p b ts)
lengthened_before m p b [] h g = (h, tt)
lengthened_before m p b ((q, Lexeme w) ∷ ts) h g = (h, g.1)
lengthened_before m p b ((q, Mark k) ∷ ts) h g = (h, g)

byte_before : {M : Type 0} (k : Class M) (on : Bool) (m p b : ℕ) (ts : List (Placed M)) → p ≤ m → AreBefore m ts → AreBefore m (with_byte k on p b ts)
byte_before C.Blank on m p b ts h g = g
byte_before (C.Mark k) on m p b ts h g = (h, g)
byte_before C.Ordinary true m p b ts h g = lengthened_before m p b ts h g
byte_before C.Ordinary false m p b ts h g = (h, g)

pub tokens_before : {M : Type 0} (c : ℕ → Class M) (m p : ℕ) (text : List ℕ) → p + length text ≤ m → AreBefore m (tokens_at c p text)
tokens_before c m p [] h = tt
tokens_before c m p (b ∷ bs) h = byte_before (c b) (goes_on c bs) m p b (tokens_at c (suc p) bs) (omega arith) (tokens_before c m (suc p) bs (omega arith))

ends_at : (end at : ℕ) (flaw : TextFlaw) (next : Expected) → parse_end end next ≡ Err (at, flaw) → at ≤ end
ends_at end at flaw (Whole F) e = cc
ends_at end at flaw Inside e = let s : ◌≡◌ {A = FaultAt} (end, Shape) (at, flaw) = cc in let z : end ≡ at = ap (λ x. x.0) s in omega arith
ends_at end at flaw (Opened q) e = let s : ◌≡◌ {A = FaultAt} (end, Shape) (at, flaw) = cc in let z : end ≡ at = ap (λ x. x.0) s in omega arith
ends_at end at flaw (Binding k) e = let s : ◌≡◌ {A = FaultAt} (end, Shape) (at, flaw) = cc in let z : end ≡ at = ap (λ x. x.0) s in omega arith

step_fault : (end p at : ℕ) (flaw : TextFlaw) (r : Result ParseState TextFlaw) (next : ParseState → Result Form FaultAt) → p ≤ end →
    (at_position p r >>= next) ≡ Err (at, flaw) → ((s : ParseState) → next s ≡ Err (at, flaw) → at ≤ end) → at ≤ end
step_fault end p at flaw (Ok s) next h e g = g s e
step_fault end p at flaw (Err k) next h e g = let s : ◌≡◌ {A = FaultAt} (p, k) (at, flaw) = cc in let z : p ≡ at = ap (λ x. x.0) s in omega arith

tokens_fault : (profile : Profile) (left : Bool) (end at : ℕ) (flaw : TextFlaw) (ts : List (Placed Paren)) (s : ParseState) → AreBefore end ts →
    parsed_tokens profile left end ts s ≡ Err (at, flaw) → at ≤ end
unfolding parsed_tokens
tokens_fault profile left end at flaw [] s h e = ends_at end at flaw s.0 e
tokens_fault profile left end at flaw (t ∷ ts) s h e =
    step_fault end t.0 at flaw (parse_step profile left t.1 s) (λ next. parsed_tokens profile left end ts next) h.0 e
    (λ next f. tokens_fault profile left end at flaw ts next h.1 f)

-- the place of a formula's fault lies in the text, or at its end
pub fault_within : (profile : Profile) (left : Bool) (text : List ℕ) (at : ℕ) (flaw : TextFlaw) → parsed_form profile left text ≡ Err (at, flaw) →
    at ≤ length text
unfolding parsed_form
fault_within profile left text at flaw e =
    tokens_fault profile left (length text) at flaw (tokens_at paren_class 0 text) (Inside, []) (tokens_before paren_class (length text) 0 text (omega arith)) e
