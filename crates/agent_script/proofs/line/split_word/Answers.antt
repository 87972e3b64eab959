use Rattle.std.proofs.Common.{◌≡◌, ℕ, ◌<◌, false, List, ◌∷◌, length, get_or, take, drop, sym, ap}
use Rattle.std.proofs.Common.{◌∙◌, subst, arith}
use Rattle.std.proofs.lemmas.List.{take_rest}
use Rattle.agent_script.specs.Lines.{parts_words, line_words}
use Rattle.agent_script.specs.Inside.Words.{IsBlank}
use Rattle.agent_script.proofs.Cuts.{one_word, word_cut}
use Rattle.agent_script.proofs.line.split_word.Goals as goal

pub returns-then-count-line : goal.returns-then-count-line
returns-then-count-line c =
    one_word c.args.line.now c.word_length-count.result (omega (arith, c.if-count-line.true))
    c.word_length-count.ensures.word

pub returns : goal.returns
returns c =
    let line = c.args.line.now in
    let n = c.word_length-count.result in
    let k = c.blank_count.result in
    let cut = c.split_at.result in
    let less : n < length line =
    omega (arith, c.if-count-line.false, c.word_length-count.ensures.within) in
    let blank : IsBlank (take k (drop n line)) =
    subst (λ (x : List ℕ). IsBlank (take k x)) c.split_at.ensures.back
    c.blank_count.ensures.blank in
    let stops : k < length (drop n line) → parts_words (get_or (drop n line) k 0) ≡ false =
    subst (λ (x : List ℕ). k < length x
    → parts_words (get_or x k 0) ≡ false) c.split_at.ensures.back c.blank_count.ensures.stops in
    word_cut line n k less c.word_length-count.ensures.word
    (c.word_length-count.ensures.stops less) blank stops
    ∙ ap (λ (x : List ℕ). x ∷ line_words (drop k (drop n line))) (sym c.split_at.ensures.front)
    ∙ ap (λ (x : List ℕ). cut.0.now ∷ line_words (drop k x)) (sym c.split_at.ensures.back)
    ∙ ap (λ (x : List ℕ). cut.0.now ∷ line_words x) (sym (take_rest cut.1.now k))
