-- Instructions from an index on, as a walk takes them.
use Rattle.std.proofs.Common.{◌≡◌, ℕ, zero, suc, ◌+◌, ◌-◌, ◌<◌, ◌≤◌, Bool, true, false, cond, List, [], ◌∷◌, ◌++◌, length, get_or, drop, is_some, Option, Some, None, Result, Ok, Err, refl, sym, ap, ◌∙◌, append_assoc, arith}
use Rattle.std.proofs.lemmas.List.{drop_more, drop_all, append-nil}
use Rattle.alpha_words.specs.declared.insn.Insn.{Insn}
use Rattle.alpha_words.specs.declared.insn.Insn.TheVariants as I
use Rattle.alpha_words.specs.declared.fault.BadWord.{BadWord}
use Rattle.alpha_words.specs.Lawful.{fault_of, target_of}
use Rattle.alpha_cfg.specs.Flow.{next_of}
use Rattle.alpha_cfg.specs.CodeDecoding.{is_inside, first_outside, runs_off}
use Rattle.asm_text.specs.declared.insns.SrcInsn.{SrcInsn}
use Rattle.asm_text.specs.declared.insns.SrcInsn.TheVariants as E
use Rattle.asm_text.specs.Insns.{SourceInsn}
use Rattle.asm_text.specs.Views.{source_insn_view}
use Rattle.pcc_asm.specs.declared.fault.AsmFlaw.{AsmFlaw}
use Rattle.pcc_asm.specs.declared.fault.AsmFlaw.TheVariants as A
use Rattle.pcc_asm.specs.Assembling.{resolved_insn, with_resolved, resolved_insns, word_flaw, first_unlawful, line_at}
use Rattle.pcc_asm.specs.Inside.Views.{insn_views}
use Rattle.word_ops.specs.declared.Profile.{Profile}

-- ---- labels

-- instructions in front of others
abbrev pub with_front : List Insn → Result (List Insn) AsmFlaw → Result (List Insn) AsmFlaw
with_front code (Ok rest) = Ok (code ++ rest)
with_front code (Err flaw) = Err flaw

-- what the instructions from index i on come to
abbrev pub rest_of : List (List ℕ × ℕ) → List (ℕ × SrcInsn) → ℕ → Result (List Insn) AsmFlaw
rest_of labels xs i = resolved_insns labels i (insn_views (drop i xs))

insn_step : (labels : List (List ℕ × ℕ)) (xs : List (ℕ × SrcInsn)) (i : ℕ) (d : ℕ × SrcInsn) (o : Option Insn) → i < length xs → resolved_insn labels i (source_insn_view (get_or xs i d).1) ≡ o →
    rest_of labels xs i ≡ with_resolved (get_or xs i d).0 o (rest_of labels xs (i + 1))
insn_step labels xs i d o h e =
    let z : suc i ≡ i + 1 = omega arith in
    ap (λ l. resolved_insns labels i (insn_views l)) (drop_more xs i d h)
    ∙ ap (λ p. with_resolved (get_or xs i d).0 p (resolved_insns labels (suc i) (insn_views (drop (i + 1) xs)))) e
    ∙ ap (λ j. with_resolved (get_or xs i d).0 o (resolved_insns labels j (insn_views (drop (i + 1) xs)))) z

longer : (line : ℕ) (code : List Insn) (insn : Insn) (r : Result (List Insn) AsmFlaw) → with_front (code ++ (insn ∷ [])) r ≡ with_front code (with_resolved line (Some insn) r)
longer line code insn (Ok rest) = ap Ok (append_assoc code (insn ∷ []) rest)
longer line code insn (Err e) = refl

pub insn_more : (labels : List (List ℕ × ℕ)) (xs : List (ℕ × SrcInsn)) (i : ℕ) (d : ℕ × SrcInsn) (code all : List Insn) (insn : Insn) → i < length xs → resolved_insn labels i (source_insn_view (get_or xs i d).1) ≡ Some insn → all ≡ code ++ (insn ∷ []) →
    with_front all (rest_of labels xs (i + 1)) ≡ with_front code (rest_of labels xs i)
insn_more labels xs i d code all insn h e a =
    ap (λ l. with_front l (rest_of labels xs (i + 1))) a
    ∙ longer (get_or xs i d).0 code insn (rest_of labels xs (i + 1)) ∙ ap (with_front code) (sym (insn_step labels xs i d (Some insn) h e))

pub insn_none : (labels : List (List ℕ × ℕ)) (xs : List (ℕ × SrcInsn)) (i : ℕ) (d : ℕ × SrcInsn) (code : List Insn) → i < length xs → resolved_insn labels i (source_insn_view (get_or xs i d).1) ≡ None →
    with_front code (rest_of labels xs i) ≡ Err (A.NoLabel (get_or xs i d).0)
insn_none labels xs i d code h e = ap (with_front code) (insn_step labels xs i d None h e)

pub insn_past : (labels : List (List ℕ × ℕ)) (xs : List (ℕ × SrcInsn)) (i : ℕ) (code : List Insn) → length xs ≤ i → with_front code (rest_of labels xs i) ≡ Ok code
insn_past labels xs i code h = ap (λ l. with_front code (resolved_insns labels i (insn_views l))) (drop_all i xs h) ∙ ap Ok (append-nil code)

no_front : (r : Result (List Insn) AsmFlaw) → with_front [] r ≡ r
no_front (Ok x) = refl
no_front (Err e) = refl

pub insn_first : (labels : List (List ℕ × ℕ)) (xs : List (ℕ × SrcInsn)) (code : List Insn) → code ≡ [] → with_front code (rest_of labels xs 0) ≡ resolved_insns labels 0 (insn_views xs)
insn_first labels xs code e = ap (λ l. with_front l (rest_of labels xs 0)) e ∙ no_front (resolved_insns labels 0 (insn_views xs))

-- ---- what the profile refuses

unlawful_step : (prof : Profile) (xs : List (ℕ × SrcInsn)) (code : List Insn) (i : ℕ)
    (d : ℕ × SrcInsn) (e : Insn) (o : Option BadWord) → i < length xs → i < length code
    → fault_of prof (get_or code i e) ≡ o →
    first_unlawful prof (insn_views (drop i xs)) (drop i code)
    ≡ word_flaw (get_or xs i d).0 o (first_unlawful prof (insn_views (drop (i + 1) xs))
    (drop (i + 1) code))
unlawful_step prof xs code i d e o h k f =
    ap (λ l. first_unlawful prof (insn_views l) (drop i code)) (drop_more xs i d h)
    ∙ ap (λ l. first_unlawful prof (insn_views (get_or xs i d ∷ drop (i + 1) xs)) l)
    (drop_more code i e k)
    ∙ ap (λ p. word_flaw (get_or xs i d).0 p
    (first_unlawful prof (insn_views (drop (i + 1) xs)) (drop (i + 1) code))) f

pub line_here : (xs : List (ℕ × SrcInsn)) (i : ℕ) (d : ℕ × SrcInsn) → i < length xs → (get_or xs i d).0 ≡ line_at (insn_views xs) i
line_here [] i d h = absurd (omega arith)
line_here (x ∷ xs) zero d h = refl
line_here (x ∷ xs) (suc i) d h = line_here xs i d (omega arith)

some_said : ℕ × SrcInsn
some_said = (0, E.Plain I.Ret)

pub unlawful_here : (prof : Profile) (xs : List (ℕ × SrcInsn)) (code : List Insn) (i line : ℕ)
    (e : Insn) (bad : BadWord) → i < length xs → i < length code → line ≡ line_at (insn_views xs) i
    → e ≡ get_or code i e → fault_of prof e ≡ Some bad →
    first_unlawful prof (insn_views (drop i xs)) (drop i code) ≡ Some (A.Word line bad)
unlawful_here prof xs code i line e bad h k l s f =
    unlawful_step prof xs code i some_said e (Some bad) h k (ap (fault_of prof) (sym s) ∙ f)
    ∙ ap (λ n. Some (A.Word n bad)) (line_here xs i some_said h ∙ sym l)

pub unlawful_more : (prof : Profile) (xs : List (ℕ × SrcInsn)) (code : List Insn) (i : ℕ) (e : Insn)
    → i < length xs → i < length code → e ≡ get_or code i e → fault_of prof e ≡ None →
    first_unlawful prof (insn_views (drop (i + 1) xs)) (drop (i + 1) code)
    ≡ first_unlawful prof (insn_views (drop i xs)) (drop i code)
unlawful_more prof xs code i e h k s f =
    sym (unlawful_step prof xs code i some_said e None h k (ap (fault_of prof) (sym s) ∙ f))

none_past : (prof : Profile) (xs : List (ℕ × SourceInsn)) → first_unlawful prof xs [] ≡ None
none_past prof [] = refl
none_past prof (x ∷ xs) = refl

pub unlawful_past : (prof : Profile) (xs : List (ℕ × SrcInsn)) (code : List Insn) (i : ℕ)
    → length code ≤ i → first_unlawful prof (insn_views (drop i xs)) (drop i code) ≡ None
unlawful_past prof xs code i h =
    ap (first_unlawful prof (insn_views (drop i xs))) (drop_all i code h)
    ∙ none_past prof (insn_views (drop i xs))

-- ---- where branches lead

outside_step : (n : ℕ) (code : List Insn) (i : ℕ) (d : Insn) (t : Bool) → i < length code → is_inside n (target_of i (get_or code i d)) ≡ t → first_outside n i (drop i code) ≡ cond t (first_outside n (i + 1) (drop (i + 1) code)) (Some i)
outside_step n code i d t h e =
    let z : suc i ≡ i + 1 = omega arith in
    ap (first_outside n i) (drop_more code i d h)
    ∙ ap (λ b. cond b (first_outside n (suc i) (drop (i + 1) code)) (Some i)) e
    ∙ ap (λ j. cond t (first_outside n j (drop (i + 1) code)) (Some i)) z

pub outside_here : (n : ℕ) (code : List Insn) (i : ℕ) (d : Insn) → i < length code → is_inside n (target_of i (get_or code i d)) ≡ false → first_outside n i (drop i code) ≡ Some i
outside_here n code i d h e = outside_step n code i d false h e

pub outside_more : (n : ℕ) (code : List Insn) (i : ℕ) (d : Insn) → i < length code → is_inside n (target_of i (get_or code i d)) ≡ true → first_outside n (i + 1) (drop (i + 1) code) ≡ first_outside n i (drop i code)
outside_more n code i d h e = sym (outside_step n code i d true h e)

pub outside_past : (n : ℕ) (code : List Insn) (i : ℕ) → length code ≤ i → first_outside n i (drop i code) ≡ None
outside_past n code i h = ap (first_outside n i) (drop_all i code h)

-- ---- the end

pub runs_last : (code : List Insn) (d : Insn) → 0 < length code → is_some (next_of 0 (get_or code (length code - 1) d)) ≡ runs_off code
runs_last [] d h = absurd (omega arith)
runs_last (x ∷ []) d h = refl
runs_last (x ∷ y ∷ code) d h =
    let z : length (x ∷ y ∷ code) - 1 ≡ suc (length (y ∷ code) - 1) = omega arith in
    ap (λ n. is_some (next_of 0 (get_or (x ∷ y ∷ code) n d))) z ∙ runs_last (y ∷ code) d (omega arith)
