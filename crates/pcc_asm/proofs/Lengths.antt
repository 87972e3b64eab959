-- What is assembled keeps to the limits: its terms are low, and its entries short.
use Rattle.std.proofs.Common.{◌≡◌, ℕ, suc, ◌+◌, ◌*◌, ◌/◌, ◌≤◌, Bool, true, false, cond, List, [], ◌∷◌, ◌++◌, length, map, Option, Some, None, is_some, Result, Ok, Err, IfOk, refl, sym, subst, arith, length-append}
use Rattle.std.specs.Prelude.{nat_lt}
use Rattle.std.specs.List.{AllByRecursion, flat_map}
use Rattle.std.proofs.lemmas.List.{length-map}
use Rattle.alpha_words.specs.declared.insn.Insn.{Insn}
use Rattle.policy_set.specs.Views.{PolicyView}
use Rattle.formula_tree.specs.Formulas.{Exp, EReg, ELeft, EVar, ELit, EOp, ESel, MemExp, MMem, MVar, MUpd, Form, FTrue, FFalse, FRel, FRd, FWr, FAnd, FOr, FImp, FAll, FAllm}
use Rattle.formula_tree.specs.Scope.{VarSort, OfWord, OfMem, IsWithinExp, IsWithinMem, IsWithin}
use Rattle.term_table.specs.Tree.{Tree, Var, Con, App, Lam, Fam, TApp, Pi, Const, Num, Lit, Calc, Fact, Deny, Lemma}
use Rattle.term_table.specs.Measures.{height_of}
use Rattle.lf_encode.specs.Encoding.{exp_encoding, mem_encoding, form_encoding}
use Rattle.lf_encode.specs.Contexts.{machine_context, encoding_in}
use Rattle.lf_encode.specs.Naming.{named_exp, named_mem, named_form}
use Rattle.proof_container.specs.Contents.{Contents, roots}
use Rattle.proof_container.specs.Postorder.{is_emitted, emitted_with, emitted_with_all, entries}
use Rattle.proof_container.specs.Encoding.{field_bytes, entry_fields, inv_fields, lemmas_fields, proof_field, magic, policy_bytes, bound_fields, head_bytes, tail_fields, encoding_of}
use Rattle.proof_container.specs.declared.container.Head.TheVariants.{Number, Digest}
use Rattle.proof_container.specs.Versions.{is_numbered, has_lemmas, profile_of}
use Rattle.policy_set.specs.Names.{policy_number}
use Rattle.policy_set.specs.Digest.{policy_text, digest_of}
use Rattle.sha2.proofs.Facts256.{length-sha256}
use Rattle.word_ops.specs.declared.Profile.{Profile}
use Rattle.proof_container.proofs.FieldLaws.{length-field_bytes}
use Rattle.asm_text.specs.declared.limits.TheConstants.{MAX_LINE}
use Rattle.asm_text.specs.Sources.{Source}
use Rattle.pcc_asm.specs.declared.fault.AsmFault.{AsmFault}
use Rattle.pcc_asm.specs.Assembling.{inv_encodings, head_for, plain_contents}
use Rattle.pcc_asm.specs.Views.{IsSpelled, IsAsmAnswer}
use Rattle.pcc_asm.specs.Limits.{IsWithinLimits}
use Rattle.pcc_asm.proofs.Ranges.{IsTextual, bounded}
use Rattle.pcc_asm.proofs.Heights.{textual_closed}
use Rattle.pcc_asm.proofs.Counting.{heavy, textual_light, encoding-named, entries_few}
use Rattle.pcc_asm.proofs.Assembly.{IsSound}
use Rattle.pcc_asm.proofs.Written.{bytes_length}
use Rattle.pcc_asm.proofs.Answering.{contents_sound}

-- ---- heights

high-heavy : (t : Tree) → height_of t ≤ suc (heavy t)
high-heavy (Var n) = omega arith
high-heavy (Con c) = omega arith
high-heavy (App f a) = let h = high-heavy f in let g = high-heavy a in omega (arith, h, g)
high-heavy (Lam b) = let h = high-heavy b in omega (arith, h)
high-heavy (Fam a) = omega arith
high-heavy (TApp p a) = let h = high-heavy p in let g = high-heavy a in omega (arith, h, g)
high-heavy (Pi a b) = let h = high-heavy a in let g = high-heavy b in omega (arith, h, g)

all_low : (prof : Profile) (left : Bool) (invs : List (ℕ × Form)) → AllByRecursion (λ x. IsTextual prof left x.1) invs
    → AllByRecursion (λ p. height_of p.1 ≤ MAX_LINE) (inv_encodings invs)
all_low prof left [] h = tt
all_low prof left (v ∷ invs) h =
    let l = textual_light prof left v.1 h.0 in let k = high-heavy (encoding_in machine_context v.1) in
    (omega (arith, l, k), all_low prof left invs h.1)

-- ---- entries of at most three fields

abbrev IsPlainConst : Const → Type 0
IsPlainConst (Num n) = Unit {0}
IsPlainConst (Lit w) = Unit {0}
IsPlainConst (Calc o a b) = ⊥
IsPlainConst (Fact p a b) = ⊥
IsPlainConst (Deny p a b) = ⊥
IsPlainConst (Lemma n) = ⊥

-- a tree with no evaluation, fact, denial or lemma
abbrev IsPlain : Tree → Type 0
IsPlain (Var n) = Unit {0}
IsPlain (Con c) = IsPlainConst c
IsPlain (App f a) = IsPlain f × IsPlain a
IsPlain (Lam b) = IsPlain b
IsPlain (Fam a) = Unit {0}
IsPlain (TApp p a) = IsPlain p × IsPlain a
IsPlain (Pi a b) = IsPlain a × IsPlain b

reg_plain : (n : ℕ) (b : Bool) → IsPlain (exp_encoding (cond b (EVar n) (ELit 0)))
reg_plain n true = tt
reg_plain n false = tt

mutual
  exp_plain : (l : Bool) (a : Exp) (d : ℕ) (G : List VarSort) → IsWithinExp l 32 a G
      → IsPlain (exp_encoding (named_exp d a))
  exp_plain l (EReg r) d G h = reg_plain _ (nat_lt r 31)
  exp_plain l ELeft d G h = tt
  exp_plain l (EVar n) d G h = tt
  exp_plain l (ELit w) d G h = tt
  exp_plain l (EOp o a b) d G h = ((tt, exp_plain l a d G h.0), exp_plain l b d G h.1)
  exp_plain l (ESel m a) d G h = ((tt, mem_plain l m d G h.0), exp_plain l a d G h.1)

  mem_plain : (l : Bool) (m : MemExp) (d : ℕ) (G : List VarSort) → IsWithinMem l 32 m G
      → IsPlain (mem_encoding (named_mem d m))
  mem_plain l MMem d G h = tt
  mem_plain l (MVar n) d G h = tt
  mem_plain l (MUpd m a v) d G h = (((tt, mem_plain l m d G h.0), exp_plain l a d G h.1), exp_plain l v d G h.2)

form_plain : (l : Bool) (F : Form) (d : ℕ) (G : List VarSort) → IsWithin l 32 F G
    → IsPlain (form_encoding (named_form d F))
form_plain l FTrue d G h = tt
form_plain l FFalse d G h = tt
form_plain l (FRel p a b) d G h = ((tt, exp_plain l a d G h.0), exp_plain l b d G h.1)
form_plain l (FRd a) d G h = (tt, exp_plain l a d G h)
form_plain l (FWr a) d G h = (tt, exp_plain l a d G h)
form_plain l (FAnd A B) d G h = ((tt, form_plain l A d G h.0), form_plain l B d G h.1)
form_plain l (FOr A B) d G h = ((tt, form_plain l A d G h.0), form_plain l B d G h.1)
form_plain l (FImp A B) d G h = ((tt, form_plain l A d G h.0), form_plain l B d G h.1)
form_plain l (FAll A) d G h = (tt, form_plain l A (suc d) (OfWord ∷ G) h)
form_plain l (FAllm A) d G h = (tt, form_plain l A (suc d) (OfMem ∷ G) h)

abbrev AllPlain : List Tree → Type 0
AllPlain ts = AllByRecursion IsPlain ts

last_plain : (ts : List Tree) (t : Tree) → AllPlain ts → IsPlain t → AllPlain (ts ++ t ∷ [])
last_plain [] t h k = (k, tt)
last_plain (u ∷ ts) t h k = (h.0, last_plain ts t h.1 k)

unless_plain : (b : Bool) (t : Tree) (ts more : List Tree) → IsPlain t → AllPlain ts → AllPlain more → AllPlain (cond b ts (more ++ t ∷ []))
unless_plain true t ts more k h g = h
unless_plain false t ts more k h g = last_plain more t g k

emitted_plain : (t : Tree) (ts : List Tree) → IsPlain t → AllPlain ts → AllPlain (emitted_with t ts)
emitted_plain (Var n) ts k h = unless_plain (is_emitted (Var n) ts) (Var n) ts ts k h h
emitted_plain (Con c) ts k h = unless_plain (is_emitted (Con c) ts) (Con c) ts ts k h h
emitted_plain (App f a) ts k h = unless_plain (is_emitted (App f a) ts) (App f a) ts (emitted_with a (emitted_with f ts)) k h (emitted_plain a (emitted_with f ts) k.1 (emitted_plain f ts k.0 h))
emitted_plain (Lam b) ts k h = unless_plain (is_emitted (Lam b) ts) (Lam b) ts (emitted_with b ts) k h (emitted_plain b ts k h)
emitted_plain (Fam a) ts k h = unless_plain (is_emitted (Fam a) ts) (Fam a) ts ts k h h
emitted_plain (TApp p a) ts k h = unless_plain (is_emitted (TApp p a) ts) (TApp p a) ts (emitted_with a (emitted_with p ts)) k h (emitted_plain a (emitted_with p ts) k.1 (emitted_plain p ts k.0 h))
emitted_plain (Pi a b) ts k h = unless_plain (is_emitted (Pi a b) ts) (Pi a b) ts (emitted_with b (emitted_with a ts)) k h (emitted_plain b (emitted_with a ts) k.1 (emitted_plain a ts k.0 h))

all_plain : (rs ts : List Tree) → AllPlain rs → AllPlain ts → AllPlain (emitted_with_all rs ts)
all_plain [] ts k h = h
all_plain (r ∷ rs) ts k h = all_plain rs (emitted_with r ts) k.1 (emitted_plain r ts k.0 h)

entries_plain : (rs : List Tree) → AllPlain rs → AllPlain (entries rs)
unfolding entries
entries_plain rs k = all_plain rs [] k tt

roots_plain : (prof : Profile) (left : Bool) (invs : List (ℕ × Form))
    → AllByRecursion (λ x. IsTextual prof left x.1) invs
    → AllPlain (map (λ p. p.1) (inv_encodings invs) ++ [])
roots_plain prof left [] h = tt
roots_plain prof left (v ∷ invs) h = (
  subst IsPlain (sym (encoding-named v.1)) (form_plain left v.1 0 [] (textual_closed prof left v.1 h.0).0),
  roots_plain prof left invs h.1,
)

const_short : (es : List Tree) (c : Const) → IsPlainConst c → length (entry_fields es (Con c)) ≤ 3
const_short es (Num n) k = omega arith
const_short es (Lit w) k = omega arith
const_short es (Calc o a b) k = absurd k
const_short es (Fact p a b) k = absurd k
const_short es (Deny p a b) k = absurd k
const_short es (Lemma n) k = absurd k

fields_short : (es : List Tree) (t : Tree) → IsPlain t → length (entry_fields es t) ≤ 3
fields_short es (Var n) k = omega arith
fields_short es (Con c) k = const_short es c k
fields_short es (App f a) k = omega arith
fields_short es (Lam b) k = omega arith
fields_short es (Fam a) k = omega arith
fields_short es (TApp p a) k = omega arith
fields_short es (Pi a b) k = omega arith

entries_short : (es us : List Tree) → AllPlain us → length (flat_map (entry_fields es) us) ≤ 3 * length us
entries_short es [] k = omega arith
entries_short es (u ∷ us) k =
    let a : length (flat_map (entry_fields es) (u ∷ us)) ≡ length (entry_fields es u) + length (flat_map (entry_fields es) us) = length-append (entry_fields es u) (flat_map (entry_fields es) us) in
    let f = fields_short es u k.0 in
    let h = entries_short es us k.1 in
    omega (arith, a, f, h)

invs_short : (es : List Tree) (invs : List (ℕ × Tree)) → length (flat_map (inv_fields es) invs) ≡ 2 * length invs
invs_short es [] = refl
invs_short es (v ∷ invs) = let h = invs_short es invs in omega (arith, h)

-- ---- the whole

tail_length : (es : List Tree) (c : Contents) → length (tail_fields es c)
    ≡ 3 + (length (flat_map (entry_fields es) es) + length (flat_map (inv_fields es) c.invs)
    + length (lemmas_fields c.version es c.lemmas))
tail_length es c =
    let es_fields = flat_map (entry_fields es) es in
    let inv_part = flat_map (inv_fields es) c.invs in
    let lemma_part = lemmas_fields c.version es c.lemmas in
    let last = proof_field es c.proof ∷ [] in
    let a = length-append (length es ∷ es_fields)
    ((length c.invs ∷ inv_part) ++ (lemma_part ++ last)) in
    let b = length-append (length c.invs ∷ inv_part) (lemma_part ++ last) in
    let d = length-append lemma_part last in
    omega (arith, a, b, d)

-- no lemmas have at most one field, their count
no_lemmas_length : (v : ℕ) (es : List Tree) → length (lemmas_fields v es []) ≤ 1
no_lemmas_length v es = go (has_lemmas v)
  where
    go : (b : Bool) → length {A = ℕ} (cond b (0 ∷ []) []) ≤ 1
    go true = omega arith
    go false = omega arith

-- a bound has one field
bound_length : (bound : Option ℕ) → length (bound_fields bound) ≤ 1
bound_length None = omega arith
bound_length (Some n) = omega arith

head_size : (c : Contents) (words : ℕ) → length (head_bytes c words)
    ≡ 12 + (length (policy_bytes c.head) + 4 * length (bound_fields c.bound))
head_size c words =
    let first = field_bytes (magic ∷ c.version ∷ []) in
    let last = field_bytes (bound_fields c.bound ++ words ∷ []) in
    let a = length-append first (policy_bytes c.head ++ last) in
    let b = length-append (policy_bytes c.head) last in
    let d = length-append (bound_fields c.bound) (words ∷ []) in
    let f : length first ≡ 8 = length-field_bytes (magic ∷ c.version ∷ []) in
    let l : length last ≡ 4 * length (bound_fields c.bound ++ words ∷ []) =
    length-field_bytes (bound_fields c.bound ++ words ∷ []) in
    omega (arith, a, b, d, f, l)

encoding_length : (c : Contents) → length (encoding_of c)
    ≡ 12 + (length (policy_bytes c.head) + 4 * length (bound_fields c.bound)
    + (length c.code + 4 * length (tail_fields (entries (roots c)) c)))
unfolding encoding_of
encoding_length c =
    let head = head_bytes c (length c.code / 4) in
    let tail = field_bytes (tail_fields (entries (roots c)) c) in
    let a = length-append head (c.code ++ tail) in
    let b = length-append c.code tail in
    let h : length head ≡ 12 + (length (policy_bytes c.head) + 4 * length (bound_fields c.bound)) =
    head_size c (length c.code / 4) in
    let t : length tail ≡ 4 * length (tail_fields (entries (roots c)) c) = length-field_bytes (tail_fields (entries (roots c)) c) in
    omega (arith, a, b, h, t)

-- what names a policy has at most eight fields
number_length : (n : ℕ) → length (policy_bytes (Number n)) ≡ 4
number_length n = length-field_bytes (n ∷ [])

head_length : (v : ℕ) (policy : PolicyView) → length (policy_bytes (head_for v policy)) ≤ 32
head_length v policy = go (is_numbered v)
  where
    go : (b : Bool)
        → length (policy_bytes (cond b (Number (policy_number policy)) (Digest (digest_of policy))))
        ≤ 32
    go true = omega (arith, number_length (policy_number policy))
    go false = omega (arith, length-sha256 (policy_text policy))

pub within_limits : (v : ℕ) (bound : Option ℕ) (policy : PolicyView) (s : Source) (insns : List Insn)
    → IsSpelled (profile_of v) (is_some bound) s
    → IsSound (profile_of v) s insns → IsWithinLimits (plain_contents v bound policy s.invs insns)
within_limits v bound policy s insns h k =
    let texts = (bounded (profile_of v) (is_some bound) h.0 s h.1).invs in
    let c = plain_contents v bound policy s.invs insns in
    let es = entries (roots c) in
    let few = entries_few (profile_of v) (is_some bound) s.invs h.1.sound.invs texts in
    let fields = entries_short es es (entries_plain (roots c)
    (roots_plain (profile_of v) (is_some bound) s.invs texts)) in
    let count : length (inv_encodings s.invs) ≡ length s.invs = length-map s.invs (λ (p : ℕ × Form). (p.0, encoding_in machine_context p.1)) in
    let places = invs_short es (inv_encodings s.invs) in
    let tail = tail_length es c in
    let all = encoding_length c in
    let head = head_length v policy in
    let more = bound_length bound in
    let lemmas = no_lemmas_length v es in
    let code = bytes_length insns in
    record {
      low = all_low (profile_of v) (is_some bound) s.invs texts;
      bytes = omega (
        arith,
        few,
        fields,
        count,
        places,
        tail,
        all,
        head,
        more,
        lemmas,
        code,
        k.count,
        h.1.sound.insns,
        h.1.sound.invs,
      );
    }

pub answer_limits : (v : ℕ) (bound : Option ℕ) (policy : PolicyView) (s : Source)
    (r : Result Contents AsmFault) → IsSpelled (profile_of v) (is_some bound) s
    → IsAsmAnswer v bound policy s r → IfOk r IsWithinLimits
answer_limits v bound policy s (Ok c) h e =
    let k = contents_sound v bound policy s c h e in subst IsWithinLimits k.2
    (within_limits v bound policy s k.0 h k.1)
answer_limits v bound policy s (Err f) h e = tt
