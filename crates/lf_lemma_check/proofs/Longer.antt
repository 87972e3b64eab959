-- What is kept over a signature is right over the one with lemmas.
use Rattle.std.proofs.Common.{◌≡◌, ℕ, Option, Some, None, List, sym, ◌∙◌}
use Rattle.term_table.specs.Tree.{Tree, Const, Lemma}
use Rattle.term_table.specs.Table.{TableView, tree_at}
use Rattle.lf_signature.specs.Laws.Decided.{synth_is, synth_follows, checks_is, checks_follows, type_is, type_follows}
use Rattle.lf_signature.specs.Laws.Restricted.{synth_more, checks_more, type_more}
use Rattle.lf_check.specs.Lists.{types_of}
use Rattle.lf_check.specs.Kept.{Judges, AreKept}
use Rattle.lf_check.specs.declared.judgements.Kept.{Kept}
use Rattle.lf_check.specs.declared.judgements.Question.{Question}
use Rattle.lf_check.specs.declared.judgements.Question.TheVariants as Q
use Rattle.lf_lemmas.specs.Lemmas.{with_lemmas, HasNoLemmas}

module _ (sig whole : Const → Option Tree)
    (longer : (c : Const) (a : Tree) → sig c ≡ Some a → whole c ≡ Some a) where
  judges_longer : (t : TableView) (q : Question) (c v : ℕ) → Judges sig t q c v →
      Judges whole t q c v
  judges_longer t (Q.Synth r) c v h =
      let ctx = types_of (tree_at t c) in
      let d = synth_follows sig (tree_at t r) ctx (tree_at t v) h.1 in
      (h.0, synth_is whole (synth_more sig whole longer d))
  judges_longer t (Q.Under m a) c v h =
      let ctx = types_of (tree_at t c) in
      let d = checks_follows sig (tree_at t m) ctx (tree_at t a) h.2 in
      (h.0, h.1, checks_is whole (checks_more sig whole longer d))
  judges_longer t (Q.Formed a) c v h =
      let ctx = types_of (tree_at t c) in
      let d = type_follows sig (tree_at t a) ctx h.1 in
      (h.0, type_is whole (type_more sig whole longer d))
  judges_longer t (Q.Uses m) c v h = h

  kept_longer : (t : TableView) (k : Kept) → AreKept sig t k → AreKept whole t k
  kept_longer t k h = record {
    memo = h.memo;
    each = λ q r e.
        let j = h.each q r e in
        record {
          known = j.known;
          context = j.context;
          judges = judges_longer t q r.context r.answer j.judges;
        };
  }

lemmas_longer : (sig : Const → Option Tree) (forms : List Tree) → HasNoLemmas sig →
    (c : Const) (a : Tree) → sig c ≡ Some a → with_lemmas sig forms c ≡ Some a
lemmas_longer sig forms free (Lemma n) a e = let q : None ≡ Some a = sym (free n) ∙ e in cc
lemmas_longer sig forms free c a e = e

pub kept_over : (sig : Const → Option Tree) (t : TableView) (k : Kept) (forms : List Tree) →
    HasNoLemmas sig → AreKept sig t k → AreKept (with_lemmas sig forms) t k
kept_over sig t k forms free h =
    kept_longer sig (with_lemmas sig forms) (lemmas_longer sig forms free) t k h
