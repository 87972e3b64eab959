-- Texts that are appended one after another.
use Rattle.std.proofs.Common.{◌≡◌, ℕ, List, ◌++◌, sym, ◌∙◌, ap, append_assoc}
use Rattle.std.specs.Prelude.{codes, ◌==◌}
use Rattle.std.proofs.lemmas.Bool.{cond-false, ne_eqb}
use Rattle.view_labels.specs.Labels.{numbered, indexed, part_title}

pub four : (old a b c d one two three last : List ℕ) → one ≡ old ++ a → two ≡ one ++ b → three ≡ two ++ c
    → last ≡ three ++ d → last ≡ old ++ (a ++ (b ++ (c ++ d)))
four old a b c d one two three last e f g h =
    h ∙ ap (λ l. l ++ d) g ∙ append_assoc two c d
    ∙ ap (λ l. l ++ (c ++ d)) f ∙ append_assoc one b (c ++ d)
    ∙ ap (λ l. l ++ (b ++ (c ++ d))) e ∙ append_assoc old a (b ++ (c ++ d))

pub title-later : (lines : List ℕ) (k at : ℕ) (old mid new : List ℕ) → (k ≡ 0 → ⊥)
    → mid ≡ old ++ numbered (codes "part ") k
    → new ≡ mid ++ indexed lines (codes ", from index ") at
    → new ≡ old ++ part_title lines k at
title-later lines k at old mid new later first second =
    second
    ∙ ap (λ l. l ++ indexed lines (codes ", from index ") at) first
    ∙ append_assoc old (numbered (codes "part ") k) (indexed lines (codes ", from index ") at)
    ∙ ap (λ l. old ++ l) (sym (cond-false (k == 0) _ _ (ne_eqb k 0 later)))
