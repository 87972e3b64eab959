-- The tokens of a line as the code sees them are those that asm_text sees.
use Rattle.std.proofs.Common.{◌≡◌, ℕ, suc, Bool, true, false, cond, List, [], ◌∷◌, map, refl, sym, ap, ◌∙◌}
use Rattle.text_tokens.specs.declared.tokens.Class.{Class}
use Rattle.text_tokens.specs.declared.tokens.Class.TheVariants as C
use Rattle.text_tokens.specs.Tokens.{Token, Mark, Lexeme, Placed, is_ordinary, goes_on, lengthened, with_byte, tokens_at}
use Rattle.asm_text.specs.declared.marks.Punct.{Punct}
use Rattle.asm_text.specs.Marks.{source_class}
use Rattle.view_source_faults.specs.declared.tokens.Punct as code
use Rattle.view_source_faults.specs.Inside.Tokens.{punct_class, source_mark, source_token}

-- a placed token as asm_text has it
abbrev pub source_placed : Placed code.Punct → Placed Punct
source_placed t = (t.0, source_token t.1)

-- a class as asm_text has it
abbrev class_of : Class code.Punct → Class Punct
class_of C.Blank = C.Blank
class_of (C.Mark m) = C.Mark (source_mark m)
class_of C.Ordinary = C.Ordinary

classes_by : {A B : Type 0} (f : A → B) (t : Bool) (x y : A) → f (cond t x y) ≡ cond t (f x) (f y)
classes_by f true x y = refl
classes_by f false x y = refl

same_class : (b : ℕ) → class_of (punct_class b) ≡ source_class b
unfolding punct_class source_class
same_class b = simp (classes_by class_of)

ordinary_same : (k : Class code.Punct) → is_ordinary (class_of k) ≡ is_ordinary k
ordinary_same C.Blank = refl
ordinary_same (C.Mark m) = refl
ordinary_same C.Ordinary = refl

goes_same : (bs : List ℕ) → goes_on source_class bs ≡ goes_on punct_class bs
goes_same [] = refl
goes_same (b ∷ bs) = ap is_ordinary (sym (same_class b)) ∙ ordinary_same (punct_class b)

lengthened_same : (p b : ℕ) (ts : List (Placed code.Punct)) → map source_placed (lengthened p b ts) ≡ lengthened p b (map source_placed ts)
lengthened_same p b [] = refl
lengthened_same p b ((q, Lexeme w) ∷ ts) = refl
lengthened_same p b ((q, Mark m) ∷ ts) = refl

byte_same : (k : Class code.Punct) (on : Bool) (p b : ℕ) (ts : List (Placed code.Punct)) →
    map source_placed (with_byte k on p b ts) ≡ with_byte (class_of k) on p b (map source_placed ts)
byte_same C.Blank on p b ts = refl
byte_same (C.Mark m) on p b ts = refl
byte_same C.Ordinary true p b ts = lengthened_same p b ts
byte_same C.Ordinary false p b ts = refl

-- the tokens are the same
pub tokens_same : (p : ℕ) (text : List ℕ) → map source_placed (tokens_at punct_class p text) ≡ tokens_at source_class p text
tokens_same p [] = refl
tokens_same p (b ∷ bs) =
    byte_same (punct_class b) (goes_on punct_class bs) p b (tokens_at punct_class (suc p) bs)
    ∙ ap (λ k. with_byte k (goes_on punct_class bs) p b (map source_placed (tokens_at punct_class (suc p) bs))) (same_class b)
    ∙ ap (λ on. with_byte (source_class b) on p b (map source_placed (tokens_at punct_class (suc p) bs))) (sym (goes_same bs))
    ∙ ap (with_byte (source_class b) (goes_on source_class bs) p b) (tokens_same (suc p) bs)

-- and so is the first of them with those behind it
pub first_same : (p at next : ℕ) (text rest : List ℕ) (t : Token code.Punct) →
    tokens_at punct_class p text ≡ (at, t) ∷ tokens_at punct_class next rest →
    tokens_at source_class p text ≡ (at, source_token t) ∷ tokens_at source_class next rest
first_same p at next text rest t e =
    sym (tokens_same p text) ∙ ap (map source_placed) e
    ∙ ap (λ l. (at, source_token t) ∷ l) (tokens_same next rest)

pub none_same : (p : ℕ) (text : List ℕ) → tokens_at punct_class p text ≡ [] → tokens_at source_class p text ≡ []
none_same p text e = sym (tokens_same p text) ∙ ap (map source_placed) e
