use Rattle.std.proofs.Common.{◌≡◌, ◌<◌, ◌/◌, ℕ, All, List, None, Ok, length, map, sym, ◌∙◌, ap, subst, slice_index_or, arith}
use Rattle.std.proofs.lemmas.Bool.{false≢true}
use Rattle.std.specs.List.Sorted.{IsStrictlyIncreasing}
use Rattle.alpha_cfg.specs.CodeBytes.{EncodesCode}
use Rattle.alpha_cfg.specs.Flow.{IsCode}
use Rattle.term_table.specs.Table.{Extends, id_trees}
use Rattle.lf_lemmas.specs.Laws.Lawful.{lemmas_stay, lemmas_known}
use Rattle.proof_container.specs.Contents.{Contents, roots}
use Rattle.proof_container.specs.Views.{contents_of}
use Rattle.proof_container.specs.Versions.{profile_of, signature_of}
use Rattle.pcc_gate.specs.Inside.Stages.{IsRefusalOf, Refuses, with_roots, IsShaped}
use Rattle.pcc_gate.specs.Inside.Passed.{IsRestAnswer, CountsUntyped}
use Rattle.pcc_gate.specs.First.{first_some, from_code, shape_found, too_high}
use Rattle.pcc_gate.proofs.Flags.{key_below, key_rises}
use Rattle.pcc_gate.proofs.Kept.{known-more, option-more, trees-same, option-same, renamed}
use Rattle.pcc_gate.proofs.Refusing.{carries, keys}
use Rattle.pcc_gate.proofs.Searches.{none_low}
use Rattle.pcc_gate.proofs.Stages.{code-refuses}
use Rattle.pcc_gate.specs.declared.fault.GateFault.TheVariants as fault
use Rattle.hereditary_subst.specs.Limits.{is_limited, NeedsLimit}
use Rattle.pcc_gate.proofs.passing.rest.Goals as goal
use Rattle.word_ops.specs.declared.Profile.{Profile}
use Rattle.lf_signature.specs.declared.editions.WordSignature.{WordSignature}
use Rattle.lf_signature.specs.Constants.{declared}
use Rattle.lf_check.specs.Kept.{AreKept}
use Rattle.alpha_cfg.specs.CodeDecoding.{decoded_code}

pub returns-in_err-insns-clause-answer : goal.returns-in_err-insns-clause-answer
returns-in_err-insns-clause-answer c =
    let k : Contents = contents_of c.args.container in
    let e = c.in_err-insns.field-0.0 in
    let bytes = c.args.container.code.now in
    let here = subst (λ (p : Profile). Refuses (from_code k (decoded_code p bytes)) e)
    c.profile_of-profile.ensures.exact (c.in_err-insns.ensures.answer k) in
    carries (IsRestAnswer k) e here c.from_residual.result c.from_residual.ensures.1

-- what is kept serves any signature
pub shaped-requires-clause-kept : goal.shaped-requires-clause-kept
shaped-requires-clause-kept c = c.requires.kept c.signature_of-signature.result

pub shaped-requires-clause-rising : goal.shaped-requires-clause-rising
shaped-requires-clause-rising c =
    let t = c.args.container.table in
    let ps : List (ℕ × ℕ) = c.args.container.invs.items in
    let n : ℕ = length c.args.container.code.now / 4 in
    let same : map (λ p. p.0) (id_trees t ps) ≡ map (λ p. p.0) c.deref.result.now = keys t ps ∙ ap (λ (l : List (ℕ × ℕ)). map (λ (p : ℕ × ℕ). p.0) l) (sym c.deref.ensures.value) in
    subst (λ l. IsStrictlyIncreasing l) same (λ k h. key_rises (id_trees t ps) 0 n k c.requires.contents.rising h)

pub shaped-requires-clause-below : goal.shaped-requires-clause-below
shaped-requires-clause-below c =
    let t = c.args.container.table in
    let ps : List (ℕ × ℕ) = c.args.container.invs.items in
    let n : ℕ = length c.args.container.code.now / 4 in
    let insns = c.in_ok-insns.insns in
    let count : n ≡ length insns = omega (arith, c.in_ok-insns.ensures.answer.1.whole) in
    let same : map (λ p. p.0) (id_trees t ps) ≡ map (λ p. p.0) c.deref.result.now = keys t ps ∙ ap (λ (l : List (ℕ × ℕ)). map (λ (p : ℕ × ℕ). p.0) l) (sym c.deref.ensures.value) in
    let all : All (λ j. j < length insns) (map (λ p. p.0) (id_trees t ps)) = λ k d h. subst (λ w. slice_index_or (map (λ p. p.0) (id_trees t ps)) k d < w) count (key_below (id_trees t ps) 0 n k d c.requires.contents.rising h) in
    subst (λ l. All (λ j. j < length insns) l) same all

pub returns-in_err-cut-clause-answer : goal.returns-in_err-cut-clause-answer
returns-in_err-cut-clause-answer c =
    let t = c.args.container.table in
    let k : Contents = contents_of c.args.container in
    let insns = c.in_ok-insns.insns in
    let e = c.in_err-cut.field-0.0 in
    let bytes = c.args.container.code.now in
    let first = λ (z : WordSignature) (l m : List (ℕ × ℕ)).
    IsRefusalOf (first_some (shape_found z (with_roots t c.args.container.bound l m c.args.container.proof) insns)) e in
    let here = renamed first c.signature_of-signature.ensures.exact c.deref.ensures.value
    c.deref-2.ensures.value c.in_err-cut.ensures.answer in
    let read = subst (λ (p : Profile). decoded_code p bytes ≡ Ok insns)
    c.profile_of-profile.ensures.exact
    c.in_ok-insns.ensures.answer.0 in
    carries (IsRestAnswer k) e (code-refuses k insns read e here) c.from_residual-in_err-cut.result
    c.from_residual-in_err-cut.ensures.1

pub returns-clause-answer : goal.returns-clause-answer
returns-clause-answer c =
    let t = c.args.container.table in
    let u = c.shaped.new.table in
    let ps : List (ℕ × ℕ) = c.args.container.invs.items in
    let ls : List (ℕ × ℕ) = c.args.container.lemmas.items in
    let proof = c.args.container.proof in
    let bound = c.args.container.bound in
    let insns = c.in_ok-insns.insns in
    let cut = c.in_ok-cut.cut in
    let grown : Extends t u = c.in_ok-cut.ensures.extends in
    let held = c.requires.held in
    let known = held.known in
    let given = λ (z : WordSignature) (l m : List (ℕ × ℕ)). IsShaped z (with_roots t bound l m proof)
    insns cut in
    let shaped = renamed given c.signature_of-signature.ensures.exact c.deref.ensures.value
    c.deref-2.ensures.value c.in_ok-cut.ensures.answer in
    let code : cut.code ≡ insns = shaped.made.code_is in
    let bytes = c.args.container.code.now in
    let encoded = subst (λ (p : Profile). EncodesCode p bytes insns)
    c.profile_of-profile.ensures.exact
    c.in_ok-insns.ensures.answer.1 in
    let sig = signature_of c.args.container.version in
    let mine = subst (λ x. IsShaped sig (with_roots t bound ps ls proof) x cut) (sym code) shaped in
    record {
      contents = λ i. record {
        version = c.args.container.version;
        head = c.args.container.head;
        bound = bound;
        code = bytes;
        invs = sym (trees-same t u ps grown known.0) i;
        lemmas = lemmas_stay ls t u held.lemmas grown i;
        proof = sym (option-same t u proof grown known.1) i;
      };
      held = record {
        known = (known-more t u ps grown known.0, option-more t u proof grown known.1);
        lemmas = lemmas_known ls t u held.lemmas grown;
        places = grown.places ∙ held.places;
      };
      encoded =
          subst (λ x. EncodesCode (profile_of c.args.container.version) bytes x) (sym code) encoded;
      is = subst (λ x. IsCode x) (sym code) c.in_ok-insns.ensures.answer.2;
      shaped = record { none = mine.none; made = mine.made };
    }

pub returns-clause-kept : goal.returns-clause-kept
returns-clause-kept c =
    subst (λ (z : WordSignature). AreKept (declared z) c.shaped.new.table c.shaped.new.kept)
    c.signature_of-signature.ensures.exact c.in_ok-cut.ensures.kept

pub returns-in_err-insns-clause-limit : goal.returns-in_err-insns-clause-limit
returns-in_err-insns-clause-limit c =
    carries (NeedsLimit (is_limited c.args.kept.now.memo) fault.Results) c.in_err-insns.field-0.0 (λ e. absurd (false≢true (c.in_err-insns.ensures.limit e)))
    c.from_residual.result c.from_residual.ensures.1

pub returns-in_err-cut-clause-limit : goal.returns-in_err-cut-clause-limit
returns-in_err-cut-clause-limit c =
    carries (NeedsLimit (is_limited c.args.kept.now.memo) fault.Results) c.in_err-cut.field-0.0 c.in_err-cut.ensures.limit
    c.from_residual-in_err-cut.result c.from_residual-in_err-cut.ensures.1

pub returns-in_err-insns-clause-typed : goal.returns-in_err-insns-clause-typed
returns-in_err-insns-clause-typed c =
    carries (CountsUntyped (contents_of c.args.container)) c.in_err-insns.field-0.0
    (λ e. absurd (false≢true (c.in_err-insns.ensures.limit e)))
    c.from_residual.result c.from_residual.ensures.1

pub returns-in_err-cut-clause-typed : goal.returns-in_err-cut-clause-typed
returns-in_err-cut-clause-typed c =
    let k : Contents = contents_of c.args.container in
    let t = c.args.container.table in
    let insns = c.in_ok-insns.insns in
    let bytes = c.args.container.code.now in
    let low = λ (z : WordSignature) (l m : List (ℕ × ℕ)).
    too_high (roots (with_roots t c.args.container.bound l m c.args.container.proof)) ≡ None in
    carries (CountsUntyped k) c.in_err-cut.field-0.0
    (λ e. record {
      insns = insns;
      encoded = subst (λ (p : Profile). EncodesCode p bytes insns)
          c.profile_of-profile.ensures.exact c.in_ok-insns.ensures.answer.1;
      code = c.in_ok-insns.ensures.answer.2;
      heights = none_low (roots k)
          (renamed low c.signature_of-signature.ensures.exact c.deref.ensures.value
          c.deref-2.ensures.value (c.in_err-cut.ensures.typed e));
    })
    c.from_residual-in_err-cut.result c.from_residual-in_err-cut.ensures.1
