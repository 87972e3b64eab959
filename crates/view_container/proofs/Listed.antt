-- Contents that are a source: what their code and their invariants are, and that these can be
-- spelled.
use Rattle.std.proofs.Common.{◌≡◌, inl, inr, ℕ, suc, ◌*◌, ◌/◌, ◌<◌, ◌≤◌, Bool, true, false, List, [], ◌∷◌, length, Option, Some, None, Result, Ok, Err}
use Rattle.std.proofs.Common.{refl, sym, ap, ◌∙◌, subst, arith}
use Rattle.std.specs.Prelude.{is_some, not}
use Rattle.std.specs.List.{AllByRecursion, list_all}
use Rattle.std.proofs.lemmas.Bool.{and_parts, leb-true}
use Rattle.std.proofs.lemmas.List.{length-map}
use Rattle.word_ops.specs.declared.Op.{Op}
use Rattle.word_ops.specs.declared.Profile.{Profile}
use Rattle.word_ops.specs.Operators.{has_op}
use Rattle.alpha_words.specs.declared.insn.Insn.{Insn}
use Rattle.alpha_cfg.specs.declared.fault.CodeFlaw.{CodeFlaw}
use Rattle.alpha_cfg.specs.declared.fault.CodeFault.TheVariants as fault
use Rattle.alpha_cfg.specs.CodeBytes.{EncodesCode}
use Rattle.alpha_cfg.specs.CodeDecoding.{decoded_code}
use Rattle.alpha_cfg.specs.Flow.{IsCode}
use Rattle.alpha_cfg.proofs.Readings.{decoded_code-ok, IsDecoded-IsCodeAnswer, AreOfProfile-EncodesCode}
use Rattle.term_table.specs.Tree.{Tree}
use Rattle.term_table.specs.Steps.{◌>>=◌}
use Rattle.formula_tree.specs.Formulas.{Form}
use Rattle.formula_tree.specs.Operators.{Uses}
use Rattle.formula_tree.specs.Scope.{IsWithin}
use Rattle.formula_tree.proofs.Used.{uses-more}
use Rattle.formula_text.specs.Printing.{form_text}
use Rattle.lf_signature.specs.Constants.{declared}
use Rattle.lf_signature.specs.Known.{HasOp}
use Rattle.lf_signature.specs.Laws.Signatures.{edition-operators}
use Rattle.lf_signature.specs.Laws.Within.{declared_known, declared-has}
use Rattle.lf_encode.specs.Contexts.{machine_context, encoding_in, EncodesForm, IsFormIn}
use Rattle.lf_encode.proofs.Named.{form_encoded}
use Rattle.lf_encode.proofs.MachineContext.{within-wider, of-context, of-left, encoding-either}
use Rattle.view_entries.proofs.Texts.{formula_is}
use Rattle.asm_text.specs.Sources.{HaveInsns}
use Rattle.vcgen.specs.Encoded.{context_of, AreForms}
use Rattle.proof_container.specs.Versions.{profile_of, signature_of}
use Rattle.proof_container.specs.Contents.{Contents, roots}
use Rattle.proof_container.specs.Encoding.{IsContents, AreRising}
use Rattle.pcc_asm.specs.Assembling.{inv_encodings}
use Rattle.pcc_gate.specs.First.{formula_of, formulas}
use Rattle.pcc_gate.proofs.CodeBytes.{code_decided}
use Rattle.asm_print.specs.Laws.{IsInvOf, IsSpellableCode}
use Rattle.asm_print.specs.Listing.{code_text}
use Rattle.view_container.specs.declared.stop.NoSource.{NoSource}
use Rattle.view_container.specs.Beside.{BesideView}
use Rattle.view_container.specs.Sources.{extras_of, unless, if_code, listed_code, if_low, is_short, if_forms, if_short, source_listing}
use Rattle.view_container.proofs.Shorts.{none-bound}
use Rattle.view_container.proofs.Stages.{are-forms}

-- ---- what the stages were

first-ok : {A B : Type 0} (r : Result A NoSource) (f : A → Result B NoSource) (y : B)
    → r >>= f ≡ Ok y → (x : A) × (r ≡ Ok x) × (f x ≡ Ok y)
first-ok (Ok x) f y e = (x, refl, e)
first-ok (Err why) f y e = absurd cc

unless-ok : {A : Type 0} (b : Bool) (why : NoSource) (x y : A) → unless b why x ≡ Ok y
    → (b ≡ false) × (x ≡ y)
unless-ok true why x y e = absurd cc
unless-ok false why x y e = (refl, cc)

code-ok : (r : Result (List Insn) CodeFlaw) (code : List Insn) → if_code r ≡ Ok code → r ≡ Ok code
code-ok (Ok read) code e = cc
code-ok (Err flaw) code e = absurd cc

not-false : (b : Bool) → not b ≡ false → b ≡ true
not-false true e = refl
not-false false e = absurd cc

-- the contents are code, and their invariants formulas with short texts, and this is their source
pub record IsShown (c : Contents) (beside : BesideView) (text : List ℕ) : Type 0 where
  pub code : List Insn
  pub read : decoded_code (profile_of c.version) c.code ≡ Ok code
  pub code_is : listed_code c ≡ Ok code
  pub forms : AreForms (signature_of c.version) c.bound c.invs
  pub short : list_all is_short (formulas c.invs) ≡ true
  pub text_is : code_text (extras_of c beside) code (formulas c.invs) ≡ text

pub shown : (c : Contents) (beside : BesideView) (text : List ℕ) → source_listing c beside ≡ Ok text
    → IsShown c beside text
shown c beside text e =
    let s = signature_of c.version in
    let one = first-ok (listed_code c) _ text e in
    let two = first-ok (if_low (roots c)) _ text one.2 in
    let three = first-ok (if_forms s c.bound c.invs) _ text two.2 in
    let four = first-ok (if_short (formulas c.invs)) _ text three.2 in
    let short = unless-ok (not (list_all is_short (formulas c.invs))) _ (formulas c.invs) four.0 four.1 in
    let whole = unless-ok _ _ _ text four.2 in record {
      code = one.0;
      read = code-ok (decoded_code (profile_of c.version) c.code) one.0 one.1;
      code_is = one.1;
      forms = are-forms s c.bound c.invs three.1;
      short = not-false (list_all is_short (formulas c.invs)) short.0;
      text_is = ap (λ invs. code_text (extras_of c beside) one.0 invs) short.1 ∙ whole.1;
    }

-- ---- code

same_code : (a b : List Insn) → ◌≡◌ {A = Result (List Insn) CodeFlaw} (Ok a) (Ok b) → a ≡ b
same_code a b e = cc

no_flaw : (f : CodeFlaw) (a : List Insn) → ◌≡◌ {A = Result (List Insn) CodeFlaw} (Err f) (Ok a) → ⊥
no_flaw f a e = cc

-- the bytes encode the code that they read as
pub record IsRead (p : Profile) (bytes : List ℕ) (code : List Insn) : Type 0 where
  pub encoded : EncodesCode p bytes code
  pub is_code : IsCode code

pub code_read : (p : Profile) (bytes : List ℕ) (code : List Insn)
    → 4 * (length bytes / 4) ≡ length bytes → 0 < length bytes → length bytes ≤ 4096
    → decoded_code p bytes ≡ Ok code → IsRead p bytes code
code_read p bytes code whole some short e =
    elim (code_decided p bytes whole some short) [
      | inl f ↦
          let same = same_code f.insns code (decoded_code-ok p bytes f.insns f.encoded f.code ∙ e) in
          record {
            encoded = subst (λ l. EncodesCode p bytes l) same f.encoded;
            is_code = subst (λ l. IsCode l) same f.code;
          }
      | inr f ↦
          absurd (no_flaw f.which code
          (IsDecoded-IsCodeAnswer p bytes (Err (fault.At f.which)) f.is ∙ e))
    ]

-- ---- invariants

within : (bound : Option ℕ) (F : Form) → IsFormIn (context_of bound) 31 F
    → IsWithin (is_some bound) 32 F []
within None F h = within-wider false F 31 32 [] (omega arith) (of-context 31 F h)
within (Some most) F h = within-wider true F 31 32 [] (omega arith) (of-left 31 F h)

has-op : (v : ℕ) (o : Op) → HasOp (declared (signature_of v)) o → has_op (profile_of v) o ≡ true
has-op v o h =
    ap (λ p. has_op p o) (sym (edition-operators v)) ∙ declared-has (signature_of v) o h

encoded : (bound : Option ℕ) (F : Form) (t : Tree) → EncodesForm (context_of bound) F t
    → encoding_in machine_context F ≡ t
encoded None F t e = e.is
encoded (Some most) F t e = sym (encoding-either F) ∙ e.is

-- a term of type form is the encoding of its formula, which can stand in an invariant
record IsRead_inv (v : ℕ) (bound : Option ℕ) (t : Tree) : Type 0 where
  within : IsWithin (is_some bound) 32 (formula_of t) []
  uses : Uses (λ o. has_op (profile_of v) o ≡ true) (formula_of t)
  encoding : encoding_in machine_context (formula_of t) ≡ t

read_inv : (v : ℕ) (bound : Option ℕ) (t : Tree)
    → AreForms (signature_of v) bound ((0, t) ∷ []) → IsRead_inv v bound t
read_inv v bound t h =
    let sig = declared (signature_of v) in
    let f = form_encoded sig (declared_known (signature_of v)) (context_of bound) t h.0 in
    let same : formula_of t ≡ f.0 = formula_is (context_of bound) t f.0 (none-bound bound) f.1 in
    let used = uses-more (HasOp sig) (λ o. has_op (profile_of v) o ≡ true) (has-op v) f.0 f.2 in
    record {
      within = subst (λ F. IsWithin (is_some bound) 32 F []) (sym same) (within bound f.0 f.1.over);
      uses = subst (λ F. Uses (λ o. has_op (profile_of v) o ≡ true) F) (sym same) used;
      encoding = ap (encoding_in machine_context) same ∙ encoded bound f.0 t f.1;
    }

inv_forms : (v : ℕ) (bound : Option ℕ) (ps : List (ℕ × Tree)) → AreForms (signature_of v) bound ps
    → list_all is_short (formulas ps) ≡ true
    → AllByRecursion (λ p. IsInvOf (profile_of v) (is_some bound) p.1) (formulas ps)
inv_forms v bound [] h s = tt
inv_forms v bound (p ∷ ps) h s =
    let one = read_inv v bound p.1 (h.0, tt) in
    let fits = and_parts (is_short (p.0, formula_of p.1)) (list_all is_short (formulas ps)) s in (
      record {
        within = one.within;
        uses = one.uses;
        short = leb-true (length (form_text 0 (formula_of p.1))) 2040 fits.0;
      },
      inv_forms v bound ps h.1 fits.1,
    )

pub same_invs : (v : ℕ) (bound : Option ℕ) (ps : List (ℕ × Tree))
    → AreForms (signature_of v) bound ps → ps ≡ inv_encodings (formulas ps)
same_invs v bound [] h = refl
same_invs v bound (p ∷ ps) h =
    let one = read_inv v bound p.1 (h.0, tt) in
    λ i. (p.0, sym one.encoding i) ∷ same_invs v bound ps h.1 i

rising : (low n : ℕ) (ps : List (ℕ × Tree)) → AreRising low n ps → HaveInsns low n (formulas ps)
rising low n [] h = tt
rising low n (p ∷ ps) h = (h.0, h.1, rising (suc p.0) n ps h.2)

-- ---- both

pub spellable_code : (c : Contents) (code : List Insn) → IsContents c
    → IsRead (profile_of c.version) c.code code → AreForms (signature_of c.version) c.bound c.invs
    → list_all is_short (formulas c.invs) ≡ true
    → IsSpellableCode (profile_of c.version) (is_some c.bound) code (formulas c.invs)
spellable_code c code h read forms short =
    let count : length c.code / 4 ≡ length code = omega (arith, read.encoded.whole, h.whole) in
    let few : length (formulas c.invs) ≡ length c.invs = length-map c.invs _ in record {
      is_code = read.is_code;
      of_profile = AreOfProfile-EncodesCode (profile_of c.version) c.code code read.encoded;
      few = omega (arith, few, h.invs);
      belong = subst (λ n. HaveInsns 0 n (formulas c.invs)) count
          (rising 0 (length c.code / 4) c.invs h.rising);
      forms = inv_forms c.version c.bound c.invs forms short;
    }
