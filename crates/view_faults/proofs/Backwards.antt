-- Lines from their end.
use Rattle.std.proofs.Common.{◌≡◌, ℕ, ◌+◌, ◌-◌, ◌≤◌, List, ◌++◌, length, take, drop, reverse, Some, None, sym, ap, ◌∙◌, subst, arith}
use Rattle.std.proofs.lemmas.List.{drop-take, drop-drop, take_rest, length-take-le}
use Rattle.std.proofs.Math.Seq.{take-add}
use Rattle.view_faults.specs.FormReports.{before_lf, last_line, first_line, line_around, column_of}
use Rattle.view_faults.specs.Marking.{marked_line}

-- a range of a text is the end of what stands before a place in it and the front of what stands behind
pub parted : (text : List ℕ) (a p e : ℕ) → a ≤ p → p ≤ e →
    take (e - a) (drop a text) ≡ drop a (take p text) ++ take (e - p) (drop p text)
parted text a p e h g =
    let z : e - a ≡ (p - a) + (e - p) = omega arith in
    let y : a + (p - a) ≡ p = omega arith in
    ap (λ n. take n (drop a text)) z
    ∙ take-add (p - a) (e - p) (drop a text)
    ∙ ap (λ l. l ++ take (e - p) (drop (p - a) (drop a text))) (sym (drop-take a (p - a) text) ∙ ap (λ n. drop a (take n text)) y)
    ∙ ap (λ l. drop a (take p text) ++ take (e - p) l) (drop-drop (p - a) a text ∙ ap (λ n. drop n text) y)

-- the line that is shown is that around the place, and the mark stands in its column
pub placed : (text : List ℕ) (at start b : ℕ) → at ≤ length text →
    start ≡ length (take at text) - before_lf (reverse (take at text)) →
    length (take at text) - start ≡ before_lf (reverse (take at text)) → start ≤ length (take at text) →
    b ≡ before_lf (take (length text - at) (drop at text)) →
    marked_line (take (at + b - start) (drop start text)) (Some (at - start, 0)) None ≡ marked_line (line_around text at) (Some (column_of text at, 0)) None
placed text at start b h e f g k =
    let len : length (take at text) ≡ at = length-take-le at text h in
    let col : at - start ≡ before_lf (reverse (take at text)) = ap (λ n. n - start) (sym len) ∙ f in
    let back : at + b - at ≡ b = omega arith in
    let low : start ≤ at = subst (λ n. start ≤ n) len g in
    let front : drop start (take at text) ≡ last_line (take at text) = ap (λ n. drop n (take at text)) e in
    let rest : take b (drop at text) ≡ first_line (drop at text) =
    ap (λ n. take n (drop at text)) (k ∙ ap before_lf (take_rest text at)) in
    ap (λ l. marked_line l (Some (at - start, 0)) None)
    (parted text start at (at + b) low (omega arith)
    ∙ ap (λ n. drop start (take at text) ++ take n (drop at text)) back
    ∙ ap (λ l. l ++ take b (drop at text)) front
    ∙ ap (λ l. last_line (take at text) ++ l) rest)
    ∙ ap (λ n. marked_line (line_around text at) (Some (n, 0)) None) col
