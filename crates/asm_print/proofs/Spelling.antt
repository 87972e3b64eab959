-- Each line spells what it says.
use Rattle.std.proofs.Common.{◌≡◌, ℕ, ◌^◌, ◌<◌, ◌≤◌, Bool, true, false, List, [], ◌∷◌, ◌++◌, length, map, refl, sym, ap}
use Rattle.std.proofs.Common.{subst, append_assoc, arith, length-append}
use Rattle.std.specs.Prelude.{codes}
use Rattle.std.specs.List.{AllByRecursion}
use Rattle.word_ops.specs.declared.Profile.{Profile}
use Rattle.formula_tree.specs.Formulas.{Form}
use Rattle.alpha_words.specs.declared.insn.Insn.{Insn}
use Rattle.text_tokens.specs.declared.tokens.Class.TheVariants as C
use Rattle.text_tokens.specs.Tokens.{Token, Lexeme, is_ordinary, goes_on, Consists, nothing, blank, mark, lexeme}
use Rattle.text_tokens.specs.Parens.{paren_class}
use Rattle.text_tokens.specs.Lines.{AreLines, none, by_lf}
use Rattle.formula_text.specs.Grammar.{Spells}
use Rattle.formula_text.specs.Printing.{form_text}
use Rattle.asm_text.specs.declared.marks.Punct.{Punct}
use Rattle.asm_text.specs.Marks.{source_class}
use Rattle.asm_text.specs.Labels.{is_label}
use Rattle.asm_text.specs.Statements.{NoStatement, AnInsn, AnInv, before_comment, SpellsStatement, SpellsBody, SpellsLine}
use Rattle.asm_text.specs.Sources.{AreSpelled}
use Rattle.asm_print.specs.Printing.{label_text, source_insn}
use Rattle.asm_print.specs.Listing.{Line, LabelOf, InvOf, InsnAt, Note, hinted_text, line_text, line_content, lines_text}
use Rattle.asm_print.specs.Laws.{IsComment}
use Rattle.asm_print.proofs.Returns.{IsInsnText}
use Rattle.asm_print.proofs.Characters.{are_clean, clean-append, decimal_clean, decimal_short, clean_printable}
use Rattle.asm_print.proofs.Characters.{printable-append, clean_whole, before-append, printable_line, printable_no_cr}

blank_class : source_class 32 ≡ C.Blank
unfolding source_class
blank_class = refl

paren_blank : paren_class 32 ≡ C.Blank
unfolding paren_class
paren_blank = refl

-- a blank behind a text changes none of its tokens
blank_behind : (w : List ℕ) (ts : List (Token Punct)) → Consists source_class w ts
    → Consists source_class (w ++ (32 ∷ [])) ts
blank_behind w ts nothing = blank blank_class nothing
blank_behind w ts (blank {bs = bs} e d) = blank e (blank_behind bs ts d)
blank_behind w ts (mark {bs = bs} {ts = us} e d) = mark e (blank_behind bs us d)
blank_behind w ts (lexeme {w = x} {bs = bs} {ts = us} h g d) =
    subst (λ l. Consists source_class l (Lexeme x ∷ us)) (sym (append_assoc x bs (32 ∷ [])))
    (lexeme h (stops bs g) (blank_behind bs us d))
  where
    stops : (bs : List ℕ) → goes_on source_class bs ≡ false
        → goes_on source_class (bs ++ (32 ∷ [])) ≡ false
    stops [] g = ap is_ordinary blank_class
    stops (b ∷ bs) g = g

module _ (profile : Profile) (left : Bool) where
  abbrev pub IsSpelled : Line → Type 0
  IsSpelled l = SpellsLine profile left (line_text l) (line_content l)

  -- ---- labels

  label_clean : (i : ℕ) → i < 2 ^ 64 → are_clean (line_text (LabelOf i)) ≡ true
  label_clean i h = clean-append (label_text i) (codes ":") (decimal_clean i h) refl

  label_short : (i : ℕ) → i < 2 ^ 64 → length (line_text (LabelOf i)) ≤ 2048
  label_short i h = omega (arith, length-append (label_text i) (codes ":"), decimal_short i h)

  pub label_spelled : (i : ℕ) → i < 2 ^ 64 → is_label (label_text i) ≡ true → IsSpelled (LabelOf i)
  label_spelled i h e =
      let clean = label_clean i h in
      record {
        short = label_short i h;
        printable = clean_printable (line_text (LabelOf i)) clean;
        body = subst (λ l. SpellsBody profile left (line_content (LabelOf i)).label NoStatement l)
            (sym (clean_whole (line_text (LabelOf i)) clean))
            ([], ([], [], tt, tt, e, refl), nothing);
      }

  -- ---- invariants

  blank_before : (text : List ℕ) (F : Form) → Spells profile left text F
      → Spells profile left (32 ∷ text) F
  blank_before text F s =
      record { tokens = s.tokens; consists = blank paren_blank s.consists; spelled = s.spelled }

  inv_stands : (text : List ℕ) (F : Form) → Spells profile left text F
      → SpellsStatement profile left (AnInv F) (codes "   .inv " ++ text)
  inv_stands text F s = (
    32 ∷ text,
    (
      32 ∷ 32 ∷ 32 ∷ [],
      (blank_class, (blank_class, (blank_class, tt))),
      ap is_ordinary blank_class,
      refl,
    ),
    blank_before text F s,
  )

  pub inv_spelled : (F : Form) → are_clean (form_text 0 F) ≡ true → length (form_text 0 F) ≤ 2040
      → Spells profile left (form_text 0 F) F → IsSpelled (InvOf F)
  inv_spelled F h l s =
      let clean : are_clean (line_text (InvOf F)) ≡ true =
      clean-append (codes "   .inv ") (form_text 0 F) refl h in
      record {
        short = omega (arith, length-append (codes "   .inv ") (form_text 0 F));
        printable = clean_printable (line_text (InvOf F)) clean;
        body = subst (λ l. SpellsStatement profile left (AnInv F) l)
            (sym (clean_whole (line_text (InvOf F)) clean)) (inv_stands (form_text 0 F) F s);
      }

  -- ---- instructions

  eight_blanks : (w : List ℕ) (ts : List (Token Punct)) → Consists source_class w ts
      → Consists source_class (codes "        " ++ w) ts
  eight_blanks w ts d =
      blank blank_class (blank blank_class
      (blank blank_class (blank blank_class
      (blank blank_class (blank blank_class (blank blank_class (blank blank_class d)))))))

  pub insn_spelled : (i : ℕ) (insn : Insn) (hint : ℕ) (comment : List ℕ)
      → IsInsnText profile (source_insn i insn) (hinted_text i insn hint) → IsComment comment
      → IsSpelled (InsnAt i insn hint comment)
  insn_spelled i insn hint comment t c =
      let text = hinted_text i insn hint in
      let behind = codes " # " ++ comment in
      let body : before_comment (line_text (InsnAt i insn hint comment))
      ≡ codes "        " ++ (text ++ (32 ∷ [])) =
      ap (λ l. codes "        " ++ l) (before-append text behind t.whole) in
      let count : length (text ++ behind) ≤ 555 =
      omega (
        arith,
        t.short,
        c.short,
        length-append text behind,
        length-append (codes " # ") comment,
      ) in
      record {
        short = omega (arith, count, length-append (codes "        ") (text ++ behind));
        printable = printable-append (codes "        ") (text ++ behind) refl
            (printable-append text behind t.printable
            (printable-append (codes " # ") comment refl c.printable));
        body = subst (λ b. SpellsStatement profile left (AnInsn (source_insn i insn)) b) (sym body) (
          t.tokens,
          eight_blanks (text ++ (32 ∷ [])) t.tokens
              (blank_behind text t.tokens t.consists),
          t.spelled,
        );
      }

  -- ---- notes

  pub note_spelled : (note : List ℕ) → IsComment note → IsSpelled (Note note)
  note_spelled note c = record {
    short = omega (arith, c.short, length-append (codes "# ") note);
    printable = printable-append (codes "# ") note refl c.printable;
    body = nothing;
  }

  -- ---- all lines

  pub lines_spelled : (ls : List Line) → AllByRecursion IsSpelled ls
      → AreSpelled profile left (map line_text ls) (map line_content ls)
  lines_spelled [] h = tt
  lines_spelled (l ∷ ls) h = (h.0, lines_spelled ls h.1)

  pub lines_are : (ls : List Line) → AllByRecursion IsSpelled ls
      → AreLines (lines_text ls) (map line_text ls)
  lines_are [] h = none
  lines_are (l ∷ ls) h =
      by_lf (printable_line (line_text l) h.0.printable)
      (printable_no_cr (line_text l) h.0.printable) (lines_are ls h.1)
