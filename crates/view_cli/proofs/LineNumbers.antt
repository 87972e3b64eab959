-- The lines of a source's instructions have numbers that fit 32 bits.
use Rattle.std.proofs.Common.{◌≡◌, ℕ, zero, suc, ◌+◌, ◌<◌, ◌≤◌, Bool, List, [], ◌∷◌, ◌++◌, length, map, slice_get, Some, sym, ◌∙◌, ap, arith}
use Rattle.std.proofs.lemmas.List.{length-append}
use Rattle.std.proofs.lemmas.Option.{none-some, same_Some}
use Rattle.word_ops.specs.declared.Profile.{Profile}
use Rattle.text_tokens.specs.Lines.{AreLines, none, last, by_lf, by_crlf}
use Rattle.asm_text.specs.Insns.{SourceInsn}
use Rattle.asm_text.specs.Statements.{Statement, NoStatement, AnInsn, AnInv, Content}
use Rattle.asm_text.specs.Sources.{Source, AreSpelled, insns_from, add_insn, SpellsSource}
use Rattle.asm_text.specs.declared.limits.TheConstants.{MAX_SOURCE}
use Rattle.view_container.specs.Laws.{AreLineNumbers}

-- a text has at most as many lines as bytes
few_lines : {text : List ℕ} {ls : List (List ℕ)} → AreLines text ls → length ls ≤ length text
few_lines none = omega arith
few_lines (last {l = l} one some) = omega arith
few_lines (by_lf {l = l} {ts = ts} {ls = ls} one whole rest) =
    let less : length ls ≤ length ts = few_lines rest in
    let sum : length (l ++ (10 ∷ ts)) ≡ length l + suc (length ts) = length-append l (10 ∷ ts) in
    omega (arith, less, sum)
few_lines (by_crlf {l = l} {ts = ts} {ls = ls} one rest) =
    let less : length ls ≤ length ts = few_lines rest in
    let sum : length (l ++ (13 ∷ 10 ∷ ts)) ≡ length l + suc (suc (length ts)) = length-append l (13 ∷ 10 ∷ ts) in
    omega (arith, less, sum)

-- they have as many contents
same_count : (p : Profile) (left : Bool) (ls : List (List ℕ)) (cs : List Content) → AreSpelled p left ls cs
    → length cs ≡ length ls
same_count p left [] [] h = omega arith
same_count p left [] (c ∷ cs) h = absurd h
same_count p left (l ∷ ls) [] h = absurd h
same_count p left (l ∷ ls) (c ∷ cs) h = ap suc (same_count p left ls cs h.1)

-- the numbers of the lines of instructions
abbrev numbers : List (ℕ × SourceInsn) → List ℕ
numbers insns = map (λ insn. insn.0) insns

-- a bound of the lines behind a statement is one with the statement's own line
below_first : (n m bound : ℕ) (rest : List (ℕ × SourceInsn)) → n < bound
    → ((j : ℕ) → slice_get (numbers rest) j ≡ Some m → m < bound) → (s : Statement) (i : ℕ)
    → slice_get (numbers (add_insn n s rest)) i ≡ Some m → m < bound
below_first n m bound rest less later NoStatement i at = later i at
below_first n m bound rest less later (AnInv F) i at = later i at
below_first n m bound rest less later (AnInsn x) zero at =
    let same : n ≡ m = same_Some n m at in omega (arith, less, same)
below_first n m bound rest less later (AnInsn x) (suc j) at = later j at

-- an instruction's line is among those from line n on
below : (n : ℕ) (cs : List Content) (i m : ℕ) → slice_get (numbers (insns_from n cs)) i ≡ Some m
    → m < n + length cs
below n [] i m at = absurd (none-some m at)
below n (c ∷ cs) i m at =
    below_first n m (n + suc (length cs)) (insns_from (suc n) cs) (omega arith)
    (λ j there. let less : m < suc n + length cs = below (suc n) cs j m there in omega (arith, less))
    c.statement i at

-- the lines of instructions of a source that isn't too long
pub line_numbers : (p : Profile) (left : Bool) (text : List ℕ) (s : Source) → length text ≤ MAX_SOURCE
    → SpellsSource p left text s → AreLineNumbers (map (λ insn. insn.0) s.insns)
line_numbers p left text s short h i n at =
    let here : slice_get (numbers (insns_from 1 h.contents)) i ≡ Some n =
    sym (ap (λ (x : Source). slice_get (numbers x.insns) i) h.collected) ∙ at in
    let less : n < 1 + length h.contents = below 1 h.contents i n here in
    let count : length h.contents ≡ length h.lines = same_count p left h.lines h.contents h.spelled in
    let few : length h.lines ≤ length text = few_lines h.are_lines in
    omega (arith, less, count, few, short)
