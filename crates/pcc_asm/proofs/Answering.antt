-- What the answers of the code say.
use Rattle.std.proofs.Common.{◌≡◌, ℕ, ◌*◌, ◌/◌, ◌<◌, ◌≤◌, List, [], ◌∷◌, ◌++◌, length, map, Bool, Option, None, is_some, Result, Ok, Err, IfOk, IfErr, refl, sym, ap, ◌∙◌, subst, arith}
use Rattle.std.specs.List.{AllByRecursion}
use Rattle.std.specs.Result.{IsErrAnd}
use Rattle.std.proofs.lemmas.List.{length-map}
use Rattle.alpha_words.specs.declared.insn.Insn.{Insn}
use Rattle.policy_set.specs.Views.{PolicyView}
use Rattle.word_ops.specs.declared.Profile.{Profile}
use Rattle.proof_container.specs.declared.container.Head.{Head}
use Rattle.proof_container.specs.Versions.{IsVersion, IsHead, IsBoundOf, profile_of}
use Rattle.formula_tree.specs.declared.form.Form as lent
use Rattle.formula_tree.specs.Formulas.{Form}
use Rattle.term_table.specs.Tree.{Tree}
use Rattle.term_table.specs.Table.{TableView, tree_at, id_trees}
use Rattle.lf_encode.specs.Contexts.{machine_context, encoding_in}
use Rattle.proof_container.specs.Contents.{Contents}
use Rattle.proof_container.specs.Postorder.{entries}
use Rattle.proof_container.specs.Encoding.{AreRising}
use Rattle.proof_container.specs.Views.{AllTerms}
use Rattle.asm_text.specs.declared.insns.SrcInsn.{SrcInsn}
use Rattle.asm_text.specs.declared.sources.Source as code
use Rattle.asm_text.specs.declared.limits.TheConstants.{MAX_INSNS}
use Rattle.asm_text.specs.Sources.{Source}
use Rattle.asm_text.specs.Views.{source_insn_view, source_view}
use Rattle.pcc_asm.specs.declared.fault.AsmFlaw.{AsmFlaw}
use Rattle.pcc_asm.specs.declared.fault.AsmFault.{AsmFault}
use Rattle.pcc_asm.specs.declared.fault.AsmFault.TheVariants as F
use Rattle.pcc_asm.specs.Words.{code_bytes}
use Rattle.pcc_asm.specs.Assembling.{inv_encodings, head_for, Assembles, resolved_insns, as_code, assembled_code, plain_contents, with_code, assembled_contents}
use Rattle.pcc_asm.specs.Views.{IsSpelled, IsAsmAnswer, AssemblesNone}
use Rattle.pcc_asm.specs.Inside.Held.{held_contents, IsWritableContents}
use Rattle.pcc_asm.specs.Inside.Views.{insn_views, label_views, inv_views, IsStepAnswer, AreLabelIndices, IsEncodable, bytes_or_flaw, IsEncodableForm, AreEncoded}
use Rattle.pcc_asm.proofs.Shaped.{passes}
use Rattle.pcc_asm.proofs.Ranges.{AreUpTo, IsTextual, bounded}
use Rattle.pcc_asm.proofs.Assembly.{IsSound, sound_by, sound_assembled, code_sound, assembled-code}
use Rattle.pcc_asm.proofs.Written.{bytes_length, bytes_encode}
use Rattle.pcc_asm.proofs.Terms.{all_terms, rising}
use Rattle.pcc_asm.proofs.Heights.{textual_closed}
use Rattle.pcc_asm.proofs.Counting.{entries_few}

-- ---- a source as it stands in memory

short_from : (xs : List _) → AreUpTo MAX_INSNS (label_views xs) → AreLabelIndices xs
short_from [] h = tt
short_from (x ∷ xs) h = (h.0, short_from xs h.1)

closed_from : (prof : Profile) (left : Bool) (invs : List (ℕ × Form))
    → AllByRecursion (λ p. IsTextual prof left p.1) invs → AllByRecursion (λ p. IsEncodableForm left p.1) invs
closed_from prof left [] h = tt
closed_from prof left (v ∷ invs) h = (textual_closed prof left v.1 h.0, closed_from prof left invs h.1)

-- an early return keeps what is said of its error
pub carries : {X : Type 0} (P : Result X AsmFault → Type 0) (e : AsmFault) → P (Err e) → (r : Result X AsmFault) → IsErrAnd r (λ y. y ≡ e) → P r
carries P e h (Ok x) k = absurd k
carries P e h (Err y) k = subst (λ z. P (Err z)) (sym k) h

module _ (prof : Profile) (left : Bool) (s : code.Source)
    (h : IsSpelled prof left (source_view s)) where
  pub labels_short : AreLabelIndices s.labels.items
  unfolding source_view
  labels_short = short_from s.labels.items (bounded prof left h.0 (source_view s) h.1).labels

  pub insns_few : length s.insns.items ≤ MAX_INSNS
  unfolding source_view
  insns_few = let n : length (insn_views s.insns.items) ≡ length s.insns.items = length-map s.insns.items (λ (p : ℕ × SrcInsn). (p.0, source_insn_view p.1)) in omega (arith, n, h.1.sound.insns)

  pub insns_some : 0 < length s.insns.items
  unfolding source_view
  insns_some = let n : length (insn_views s.insns.items) ≡ length s.insns.items = length-map s.insns.items (λ (p : ℕ × SrcInsn). (p.0, source_insn_view p.1)) in omega (arith, n, h.1.sound.some)

  pub invs_closed : AllByRecursion (λ p. IsEncodableForm left p.1) (inv_views s.invs.items)
  unfolding source_view
  invs_closed =
      closed_from prof left (inv_views s.invs.items) (bounded prof left h.0 (source_view s) h.1).invs

  passes_sound : (insns : List Insn) → resolved_insns (label_views s.labels.items) 0
      (insn_views s.insns.items) ≡ Ok insns
      → as_code prof (insn_views s.insns.items) (Ok insns) ≡ Ok insns
      → IsSound prof (source_view s) insns
  unfolding source_view
  passes_sound insns e f =
      sound_by prof left h.0 (source_view s) insns h.1 e
      (passes prof (insn_views s.insns.items) insns insns f)

  pub insns_encodable : (insns : List Insn)
      → resolved_insns (label_views s.labels.items) 0 (insn_views s.insns.items) ≡ Ok insns
      → as_code prof (insn_views s.insns.items) (Ok insns) ≡ Ok insns
      → AllByRecursion (IsEncodable prof) insns
  unfolding source_view
  insns_encodable insns e f = (passes_sound insns e f).encodable

-- ---- the bytes of code

module _ (prof : Profile) (s : code.Source) where
  pub gives_no_label : {X Y : Type 0} (view : X → List Insn) (to : Y → List ℕ) (k : AsmFault)
      → IsStepAnswer view (resolved_insns (label_views s.labels.items) 0 (insn_views s.insns.items))
      (Err k) → IsStepAnswer to (bytes_or_flaw (assembled_code prof (source_view s))) (Err k)
  unfolding source_view assembled_code
  gives_no_label view to F.Memory h = tt
  gives_no_label view to (F.At flaw) h =
      ap (λ r. bytes_or_flaw (as_code prof (insn_views s.insns.items) r)) h

  pub gives_flaw : (insns : List Insn) (flaw : AsmFlaw)
      → resolved_insns (label_views s.labels.items) 0 (insn_views s.insns.items) ≡ Ok insns
      → as_code prof (insn_views s.insns.items) (Ok insns) ≡ Err flaw
      → bytes_or_flaw (assembled_code prof (source_view s)) ≡ Err flaw
  unfolding source_view assembled_code
  gives_flaw insns flaw e f =
      ap (λ r. bytes_or_flaw (as_code prof (insn_views s.insns.items) r)) e ∙ ap bytes_or_flaw f

  pub gives_bytes : (insns : List Insn) (bytes : List ℕ)
      → resolved_insns (label_views s.labels.items) 0 (insn_views s.insns.items) ≡ Ok insns
      → as_code prof (insn_views s.insns.items) (Ok insns) ≡ Ok insns → bytes ≡ code_bytes insns →
      bytes_or_flaw (assembled_code prof (source_view s)) ≡ Ok bytes
  unfolding source_view assembled_code
  gives_bytes insns bytes e f b =
      ap (λ r. bytes_or_flaw (as_code prof (insn_views s.insns.items) r)) e ∙ ap bytes_or_flaw f
      ∙ ap Ok (sym b)

-- ---- the contents

pub encoded_source : (s : code.Source) (t : TableView) (ids : List (ℕ × ℕ)) (invs : List (ℕ × lent.Form)) → invs ≡ s.invs.items → AreEncoded t (inv_views invs) ids → AreEncoded t (source_view s).invs ids
unfolding source_view
encoded_source s t ids invs e h = subst (λ l. AreEncoded t (inv_views l) ids) e h

flaw_by : (r : Result (List Insn) AsmFlaw) (flaw : AsmFlaw) → bytes_or_flaw r ≡ Err flaw → r ≡ Err flaw
flaw_by (Ok insns) flaw e = cc
flaw_by (Err k) flaw e = cc

bytes_same : (a b : List ℕ) → ◌≡◌ {A = Result (List ℕ) AsmFlaw} (Ok a) (Ok b) → a ≡ b
bytes_same a b e = cc

bytes_by : (r : Result (List Insn) AsmFlaw) (bytes : List ℕ) → bytes_or_flaw r ≡ Ok bytes → (insns : List Insn) × (r ≡ Ok insns) × (code_bytes insns ≡ bytes)
bytes_by (Ok insns) bytes e = (insns, refl, bytes_same _ _ e)
bytes_by (Err k) bytes e = cc

pub err_answer : (v : ℕ) (bound : Option ℕ) {X : Type 0} (policy : PolicyView) (s : Source) (view : X → List ℕ)
    (k : AsmFault)
    → IsStepAnswer view (bytes_or_flaw (assembled_code (profile_of v) s)) (Err k)
    → IsAsmAnswer v bound policy s (Err k)
unfolding assembled_contents
err_answer v bound policy s view F.Memory h = tt
err_answer v bound policy s view (F.At flaw) h =
    ap (with_code v bound policy s.invs) (flaw_by (assembled_code (profile_of v) s) flaw h)

-- contents without lemmas and proof
abbrev contents_with : ℕ → Head → Option ℕ → List ℕ → List (ℕ × Tree) → Contents
contents_with v head bound bytes invs = record {
  version = v;
  head = head;
  bound = bound;
  code = bytes;
  invs = invs;
  lemmas = [];
  proof = None;
}

contents_same : (v : ℕ) (head : Head) (bound : Option ℕ) (bytes : List ℕ) (a b : List (ℕ × Tree))
    → a ≡ b → contents_with v head bound bytes a ≡ contents_with v head bound bytes b
contents_same v head bound bytes a b e = ap (contents_with v head bound bytes) e

pub ok_answer : (v : ℕ) (bound : Option ℕ) (policy : PolicyView) (s : Source) (head : Head)
    (bytes : List ℕ) (t : TableView) (ids : List (ℕ × ℕ))
    → bytes_or_flaw (assembled_code (profile_of v) s) ≡ Ok bytes → head ≡ head_for v policy
    → AreEncoded t s.invs ids
    → assembled_contents v bound policy s ≡ Ok (held_contents v head bound bytes t ids)
unfolding assembled_contents
ok_answer v bound policy s head bytes t ids e n k =
    let b = bytes_by (assembled_code (profile_of v) s) bytes e in
    ap (with_code v bound policy s.invs) b.1
    ∙ ap Ok (contents_same v (head_for v policy) bound (code_bytes b.0) (inv_encodings s.invs)
    (id_trees t ids) (sym k.trees))
    ∙ ap (λ x. Ok (held_contents v (head_for v policy) bound x t ids)) b.2
    ∙ ap (λ x. Ok (held_contents v x bound bytes t ids)) (sym n)

pub is_held : (v : ℕ) (bound : Option ℕ) (s : Source) (head : Head) (bytes : List ℕ)
    (t : TableView) (ids : List (ℕ × ℕ)) → IsVersion v → IsHead v head → IsBoundOf v bound
    → IsSpelled (profile_of v) (is_some bound) s
    → bytes_or_flaw (assembled_code (profile_of v) s) ≡ Ok bytes → AreEncoded t s.invs ids
    → IsWritableContents t ids (held_contents v head bound bytes t ids)
is_held v bound s head bytes t ids built named fits h e k =
    let b = bytes_by (assembled_code (profile_of v) s) bytes e in
    let sound = code_sound (profile_of v) (is_some bound) h.0 s b.0 h.1 b.1 in
    let size : length bytes ≡ 4 * length b.0 = sym (ap length b.2) ∙ bytes_length b.0 in
    let words : length bytes / 4 ≡ length s.insns = omega (arith, size, sound.count) in
    let count : length ids ≡ length s.invs = sym (length-map ids (λ inv. (inv.0, tree_at t inv.1))) ∙ ap length k.trees ∙ length-map s.invs (λ p. (p.0, encoding_in machine_context p.1)) in
    record {
      version = built;
      head = named;
      bound = fits;
      known = k.known;
      terms =
          subst (λ l. AllTerms v (map (λ p. p.1) l ++ [])) (sym k.trees) (all_terms v s.invs);
      whole = omega (arith, size);
      some = omega (arith, size, sound.count, h.1.sound.some);
      short = omega (arith, size, sound.count, h.1.sound.insns);
      entries =
          subst (λ l. length (entries (map (λ p. p.1) l ++ [])) ≤ 262144) (sym k.trees)
          (entries_few (profile_of v) (is_some bound) s.invs h.1.sound.invs
          (bounded (profile_of v) (is_some bound) h.0 s h.1).invs);
      invs = omega (arith, count, h.1.sound.invs);
      rising = subst (λ n. AreRising 0 n (id_trees t ids)) (sym words) (subst (AreRising 0 (length s.insns)) (sym k.trees) (rising 0 (length s.insns) s.invs h.1.sound.belong));
    }

contents_by : (v : ℕ) (bound : Option ℕ) (policy : PolicyView) (s : Source) (c : Contents)
    (r : Result (List Insn) AsmFlaw)
    → with_code v bound policy s.invs r ≡ Ok c → (insns : List Insn) × (r ≡ Ok insns)
    × (plain_contents v bound policy s.invs insns ≡ c)
contents_by v bound policy s c (Ok insns) e = (insns, refl, contents_ok _ _ e) where
  contents_ok : (a b : Contents) → ◌≡◌ {A = Result Contents AsmFlaw} (Ok a) (Ok b) → a ≡ b
  contents_ok a b e = cc
contents_by v bound policy s c (Err k) e = cc

plain_assembles : (v : ℕ) (bound : Option ℕ) (policy : PolicyView) (s : Source) (insns : List Insn)
    → IsSpelled (profile_of v) (is_some bound) s → IsSound (profile_of v) s insns
    → Assembles v bound policy s (plain_contents v bound policy s.invs insns)
plain_assembles v bound policy s insns h k = record {
  insns = insns;
  assembled = sound_assembled (profile_of v) (is_some bound) h.0 s insns h.1 k;
  code = bytes_encode (profile_of v) insns k.ranges k.encodable;
  version_is = refl;
  head_is = refl;
  bound_is = refl;
  invs = refl;
  no_lemmas = refl;
  no_proof = refl;
}

pub contents_sound : (v : ℕ) (bound : Option ℕ) (policy : PolicyView) (s : Source) (c : Contents)
    → IsSpelled (profile_of v) (is_some bound) s
    → assembled_contents v bound policy s ≡ Ok c
    → (insns : List Insn) × IsSound (profile_of v) s insns
    × (plain_contents v bound policy s.invs insns ≡ c)
unfolding assembled_contents
contents_sound v bound policy s c h e =
    let b = contents_by v bound policy s c (assembled_code (profile_of v) s) e in
    (b.0, code_sound (profile_of v) (is_some bound) h.0 s b.0 h.1 b.1, b.2)

assembles_by : (v : ℕ) (bound : Option ℕ) (policy : PolicyView) (s : Source) (c : Contents)
    → IsSpelled (profile_of v) (is_some bound) s
    → assembled_contents v bound policy s ≡ Ok c → Assembles v bound policy s c
assembles_by v bound policy s c h e =
    let k = contents_sound v bound policy s c h e in subst (Assembles v bound policy s) k.2
    (plain_assembles v bound policy s k.0 h k.1)

pub answer_assembles : (v : ℕ) (bound : Option ℕ) (policy : PolicyView) (s : Source)
    (r : Result Contents AsmFault) → IsSpelled (profile_of v) (is_some bound) s
    → IsAsmAnswer v bound policy s r → IfOk r (λ c. Assembles v bound policy s c)
answer_assembles v bound policy s (Ok c) h e = assembles_by v bound policy s c h e
answer_assembles v bound policy s (Err k) h e = tt

none_by : (v : ℕ) (bound : Option ℕ) (policy : PolicyView) (s : Source) (flaw : AsmFlaw)
    → assembled_contents v bound policy s
    ≡ Err flaw → (c : Contents) → Assembles v bound policy s c → ⊥
unfolding assembled_contents
none_by v bound policy s flaw e c a =
    let f : with_code v bound policy s.invs (Ok a.insns)
    ≡ Err flaw = ap (with_code v bound policy s.invs)
    (sym (assembled-code (profile_of v) s a.insns a.assembled)) ∙ e in
    cc

none_of : (v : ℕ) (bound : Option ℕ) (policy : PolicyView) (s : Source) (k : AsmFault)
    → IsAsmAnswer v bound policy s (Err k) → AssemblesNone v bound policy s k
none_of v bound policy s F.Memory h = tt
none_of v bound policy s (F.At flaw) h = none_by v bound policy s flaw h

pub answer_none : (v : ℕ) (bound : Option ℕ) (policy : PolicyView) (s : Source)
    (r : Result Contents AsmFault) → IsAsmAnswer v bound policy s r → IfErr r (λ k. AssemblesNone v bound policy s k)
answer_none v bound policy s (Ok c) h = tt
answer_none v bound policy s (Err k) h = none_of v bound policy s k h
