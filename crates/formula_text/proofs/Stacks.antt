-- The open parentheses, kept with the nearest last.
use Rattle.std.proofs.Common.{◌≡◌, ℕ, suc, ◌+◌, ◌<◌, true, false, List, [], ◌∷◌, ◌++◌, length, get_or, take, map, Option, Some, None, refl, sym, ap, ◌∙◌, arith}
use Rattle.std.specs.Prelude.{reverse}
use Rattle.std.specs.Str.{bytes_eq}
use Rattle.std.specs.Option.{option_map}
use Rattle.std.proofs.lemmas.List.{take_more, map-append, reverse-append}
use Rattle.std.proofs.lemmas.Bool.{cond-true, cond-false}
use Rattle.formula_text.specs.declared.keywords.PhraseSort.{PhraseSort}
use Rattle.formula_text.specs.declared.parsing.Frame as A
use Rattle.formula_text.specs.declared.parts.Phrase as D
use Rattle.formula_text.specs.Keywords.{binder_sort}
use Rattle.formula_text.specs.Bindings.{nearest_binding}
use Rattle.formula_text.specs.Parsing.{with_binding, bindings_of}
use Rattle.formula_text.specs.Inside.Views.{phrase_view, frame_view, frames_view}

pub frames_push : (fs : List A.Frame) (f : A.Frame) → frames_view (fs ++ f ∷ []) ≡ frame_view f ∷ frames_view fs
unfolding frames_view
frames_push fs f = ap reverse (map-append frame_view fs (f ∷ [])) ∙ reverse-append (map frame_view fs) (frame_view f ∷ [])

pub frames_none : frames_view [] ≡ []
unfolding frames_view
frames_none = refl

pub parts_push : (xs : List D.Phrase) (x : D.Phrase) → map phrase_view (xs ++ x ∷ []) ≡ map phrase_view xs ++ phrase_view x ∷ []
parts_push xs x = map-append phrase_view xs (x ∷ [])

frames_here : (fs : List A.Frame) (i : ℕ) (d : A.Frame) → i < length fs → frames_view (take (i + 1) fs) ≡ frame_view (get_or fs i d) ∷ frames_view (take i fs)
frames_here fs i d h = ap frames_view (take_more fs i d h) ∙ frames_push (take i fs) (get_or fs i d)

-- so many binders further out
abbrev pub further : ℕ → Option (ℕ × PhraseSort) → Option (ℕ × PhraseSort)
further n o = option_map (λ p. (n + p.0, p.1)) o

-- the nearest binding among the first i, behind n others
abbrev pub binding_from : List A.Frame → List ℕ → ℕ → ℕ → Option (ℕ × PhraseSort)
binding_from fs w n i = further n (nearest_binding (bindings_of (frames_view (take i fs))) w)

scope_here : (fs : List A.Frame) (i : ℕ) (d : A.Frame) (o : Option PhraseSort) → i < length fs → binder_sort (get_or fs i d).keyword ≡ o → bindings_of (frames_view (take (i + 1) fs)) ≡ with_binding o (get_or fs i d).name.now (bindings_of (frames_view (take i fs)))
scope_here fs i d o h e = ap bindings_of (frames_here fs i d h) ∙ ap (λ b. with_binding b (get_or fs i d).name.now (bindings_of (frames_view (take i fs)))) e

pub binding_none : (fs : List A.Frame) (w : List ℕ) (n i : ℕ) (d : A.Frame) → i < length fs → binder_sort (get_or fs i d).keyword ≡ None → binding_from fs w n i ≡ binding_from fs w n (i + 1)
binding_none fs w n i d h e = ap (λ s. further n (nearest_binding s w)) (sym (scope_here fs i d None h e))

pub binding_here : (fs : List A.Frame) (w : List ℕ) (n i : ℕ) (d : A.Frame) (q : PhraseSort) → i < length fs → binder_sort (get_or fs i d).keyword ≡ Some q → bytes_eq (get_or fs i d).name.now w ≡ true → binding_from fs w n (i + 1) ≡ Some (n, q)
binding_here fs w n i d q h e t =
    ap (λ s. further n (nearest_binding s w)) (scope_here fs i d (Some q) h e)
    ∙ ap (further n) (cond-true (bytes_eq (get_or fs i d).name.now w) (Some (0, q)) (option_map (λ p. (suc p.0, p.1)) (nearest_binding (bindings_of (frames_view (take i fs))) w)) t)
    ∙ (let z : n + 0 ≡ n = omega arith in ap (λ k. Some (k, q)) z)

one_further : (n : ℕ) (o : Option (ℕ × PhraseSort)) → further n (option_map (λ p. (suc p.0, p.1)) o) ≡ further (n + 1) o
one_further n None = refl
one_further n (Some p) = let z : n + suc p.0 ≡ n + 1 + p.0 = omega arith in ap (λ k. Some (k, p.1)) z

pub binding_other : (fs : List A.Frame) (w : List ℕ) (n i : ℕ) (d : A.Frame) (q : PhraseSort) → i < length fs → binder_sort (get_or fs i d).keyword ≡ Some q → bytes_eq (get_or fs i d).name.now w ≡ false → binding_from fs w (n + 1) i ≡ binding_from fs w n (i + 1)
binding_other fs w n i d q h e t =
    sym (ap (λ s. further n (nearest_binding s w)) (scope_here fs i d (Some q) h e)
    ∙ ap (further n) (cond-false (bytes_eq (get_or fs i d).name.now w) (Some (0, q)) (option_map (λ p. (suc p.0, p.1)) (nearest_binding (bindings_of (frames_view (take i fs))) w)) t)
    ∙ one_further n (nearest_binding (bindings_of (frames_view (take i fs))) w))

pub binding_past : (fs : List A.Frame) (w : List ℕ) (n : ℕ) → binding_from fs w n 0 ≡ None
binding_past fs w n = ap (λ s. further n (nearest_binding (bindings_of s) w)) frames_none
