-- The texts of code while they are made, and one of them.
use Rattle.std.proofs.Common.{◌≡◌, ℕ, zero, suc, ◌+◌, ◌<◌, Some, refl, sym, ap, ◌∙◌, arith}
use Rattle.std.proofs.Common.{List, [], ◌∷◌, ◌++◌, take, length, get_or, slice_get, map}
use Rattle.std.proofs.lemmas.List.{map-append, take_more}
use Rattle.std.proofs.lemmas.Option.{get_or_from_slice_get}
use Rattle.std.specs.Global.{Global}
use Rattle.std.specs.declared.vec.Vec.{Vec}
use Rattle.alpha_words.specs.declared.insn.Insn.{Insn}
use Rattle.asm_print.specs.Printing.{insn_text}
use Rattle.view_trace.specs.Texts.{texts_from, code_texts}

pub length-texts_from : (n : ℕ) (code : List Insn) → length (texts_from n code) ≡ length code
length-texts_from n [] = refl
length-texts_from n (insn ∷ code) = ap suc (length-texts_from (n + 1) code)

texts_from-at : (n : ℕ) (code : List Insn) (i : ℕ) (insn : Insn) → slice_get code i ≡ Some insn
    → slice_get (texts_from n code) i ≡ Some (insn_text (n + i) insn)
texts_from-at n [] i insn e = absurd cc
texts_from-at n (first ∷ code) zero insn e =
    let same : first ≡ insn = cc in
    let here : n ≡ n + 0 = omega arith in
    ap (λ k. Some (insn_text k first)) here ∙ ap (λ (x : Insn). Some (insn_text (n + 0) x)) same
texts_from-at n (first ∷ code) (suc i) insn e =
    let on : n + 1 + i ≡ n + suc i = omega arith in
    texts_from-at (n + 1) code i insn e ∙ ap (λ k. Some (insn_text k insn)) on

pub code_texts-at : (code : List Insn) (i : ℕ) (insn : Insn) → slice_get code i ≡ Some insn
    → slice_get (code_texts code) i ≡ Some (insn_text i insn)
code_texts-at code i insn e =
    let here : 0 + i ≡ i = omega arith in
    texts_from-at 0 code i insn e ∙ ap (λ k. Some (insn_text k insn)) here

-- the text that stands at the index of an instruction
pub text_at : (code : List Insn) (texts : List (List ℕ)) (i : ℕ) (insn : Insn) (text : List ℕ) → texts ≡ code_texts code
    → slice_get code i ≡ Some insn → slice_get texts i ≡ Some text → text ≡ insn_text i insn
text_at code texts i insn text made at here =
    let e : Some text ≡ Some (insn_text i insn) =
    sym here ∙ ap (λ (l : List (List ℕ)). slice_get l i) made ∙ code_texts-at code i insn at in cc

-- one text more
pub text_made : (code : List Insn) (texts : List (Vec ℕ Global)) (i : ℕ) (insn : Insn) (text : Vec ℕ Global)
    → map (λ (t : Vec ℕ Global). t.items) texts ≡ take i (code_texts code)
    → i < length code → slice_get code i ≡ Some insn → text.items ≡ insn_text i insn
    → map (λ (t : Vec ℕ Global). t.items) (texts ++ text ∷ []) ≡ take (i + 1) (code_texts code)
text_made code texts i insn text so_far lt at is =
    let within : i < length (code_texts code) = omega (arith, length-texts_from 0 code, lt) in
    let last : get_or (code_texts code) i [] ≡ insn_text i insn =
    get_or_from_slice_get (code_texts code) i (insn_text i insn) [] (code_texts-at code i insn at) in
    map-append (λ (t : Vec ℕ Global). t.items) texts (text ∷ [])
    ∙ ap (λ (l : List (List ℕ)). l ++ text.items ∷ []) so_far
    ∙ ap (λ (t : List ℕ). take i (code_texts code) ++ t ∷ []) (is ∙ sym last)
    ∙ sym (take_more (code_texts code) i [] within)
