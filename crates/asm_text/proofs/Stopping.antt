-- Reading stops exactly where a text has a fault.
use Rattle.std.proofs.Common.{◌≡◌, ◌⊎◌, ⊎_elim, inl, inr, ℕ, suc, ◌+◌, Bool, List, [], ◌∷◌, ◌++◌, length, take, Option, Some, None, Result, Ok, Err, refl, sym, ap, ◌∙◌, subst, append_assoc, length-append, arith}
use Rattle.std.specs.Prelude.{◌==◌}
use Rattle.std.proofs.lemmas.Bool.{cond-true, eqb-true, eq-eqb}
use Rattle.std.proofs.lemmas.List.{take_at}
use Rattle.formula_tree.specs.Formulas.{Form}
use Rattle.term_table.specs.Steps.{◌>>=◌}
use Rattle.asm_text.specs.declared.fault.LineFlaw.{LineFlaw}
use Rattle.asm_text.specs.declared.fault.LineFlaw.TheVariants as L
use Rattle.asm_text.specs.Insns.{SourceInsn}
use Rattle.text_tokens.specs.Lines.{AreLines, lines_of}
use Rattle.asm_text.specs.Statements.{Statement, NoStatement, AnInsn, AnInv, Content}
use Rattle.asm_text.specs.Sources.{AreSpelled, insns_from, add_insn, source_of, HaveInsns}
use Rattle.asm_text.specs.SourceParsing.{Progress, take_line, at_line, source_end, take_lines, no_progress, parsed_source}
use Rattle.asm_text.specs.Faults.{IsBegun, IsInv, FailsBehind, FailsAt, Lacks, loose, empty, IsSourceFault, BeginsNoSource}
use Rattle.text_tokens.proofs.Endings.{lines_are, are_lines}
use Rattle.asm_text.proofs.Said.{chosen, line_said}
use Rattle.asm_text.proofs.Collected as run
use Rattle.asm_text.proofs.Failing.{Stands, line_fails, fails_line}
use Rattle.word_ops.specs.declared.Profile.{Profile}

same_Err : {A : Type 0} (x y : ℕ × LineFlaw) → ◌≡◌ {A = Result A (ℕ × LineFlaw)} (Err x) (Err y) → x ≡ y
same_Err x y e = cc

-- ---- where it stops

-- these lines are taken, and the next isn't
abbrev StopsAt : (profile : Profile) (left : Bool) → ℕ → List (List ℕ) → List (List ℕ) → Progress → ℕ → LineFlaw → Type 0
StopsAt profile left n ls front r k flaw =
    (line : List ℕ) × (rest : List (List ℕ)) × (ls ≡ front ++ (line ∷ rest)) × (take_line profile left (n + length front) line r ≡ Err flaw) × (k ≡ n + length front)

-- all lines are taken, and they aren't enough
abbrev StopsBehind : List (List ℕ) → List (List ℕ) → Progress → ℕ → LineFlaw → Type 0
StopsBehind ls front r k flaw = (ls ≡ front) × (source_end r r.waiting ≡ Err (k, flaw))

record Stops (profile : Profile) (left : Bool) (n : ℕ) (ls : List (List ℕ)) (p : Progress) (k : ℕ) (flaw : LineFlaw) : Type 0 where
  front : List (List ℕ)
  contents : List Content
  end : Progress
  spelled : AreSpelled profile left front contents
  runs : run.Runs n contents p end
  why : StopsAt profile left n ls front end k flaw ⊎ StopsBehind ls front end k flaw

stops_by : (profile : Profile) (left : Bool) (n : ℕ) (l : List ℕ) (ls : List (List ℕ)) (p : Progress) (k : ℕ) (flaw : LineFlaw) (r : Result Progress LineFlaw) → take_line profile left n l p ≡ r →
    (at_line n r >>= λ q. take_lines profile left (suc n) ls q) ≡ Err (k, flaw) →
    ((q : Progress) → take_lines profile left (suc n) ls q ≡ Err (k, flaw) → Stops profile left (suc n) ls q k flaw) → Stops profile left n (l ∷ ls) p k flaw
stops_by profile left n l ls p k flaw (Err j) f e g =
    let z : n ≡ n + 0 = omega arith in
    let s : (n, j) ≡ (k, flaw) = same_Err (n, j) (k, flaw) e in
    let at : take_line profile left (n + 0) l p ≡ Err flaw = ap (λ i. take_line profile left i l p) (sym z) ∙ f ∙ ap (λ y. Err y.1) s in
    record { front = []; contents = []; end = p; spelled = tt; runs = refl; why = inl (l, ls, refl, at, sym (ap (λ y. y.0) s) ∙ z) }
stops_by profile left n l ls p k flaw (Ok q) f e g =
    let c = line_said profile left n l p q f in
    let s = g q e in
    let z : suc n + length s.front ≡ n + length (l ∷ s.front) = omega arith in
    record {
      front = l ∷ s.front;
      contents = c.0 ∷ s.contents;
      end = s.end;
      spelled = (c.1, s.spelled);
      runs = (q, c.2, s.runs);
      why = ⊎_elim
          (λ a. inl (a.0, a.1, ap (λ x. l ∷ x) a.2, ap (λ i. take_line profile left i a.0 s.end) (sym z) ∙ a.3, a.4 ∙ z))
          (λ a. inr (ap (λ x. l ∷ x) a.0, a.1)) s.why;
    }

stops : (profile : Profile) (left : Bool) (n : ℕ) (ls : List (List ℕ)) (p : Progress) (k : ℕ) (flaw : LineFlaw) → take_lines profile left n ls p ≡ Err (k, flaw) → Stops profile left n ls p k flaw
unfolding take_lines
stops profile left n [] p k flaw e = record { front = []; contents = []; end = p; spelled = tt; runs = refl; why = inr (refl, e) }
stops profile left n (l ∷ ls) p k flaw e = stops_by profile left n l ls p k flaw (take_line profile left n l p) refl e (λ q g. stops profile left (suc n) ls q k flaw g)

-- ---- what stands behind lines that are taken

last_runs : (n : ℕ) (cs : List Content) (p r : Progress) → run.Runs n cs p r → run.IsLast p.waiting p → run.IsLast r.waiting r
last_runs n [] p r h k = subst (λ x. run.IsLast x.waiting x) h k
last_runs n (c ∷ cs) p r h k =
    let t = run.taken n c p h.0 h.1 in
    last_runs (suc n) cs h.0 r h.2
    (subst (λ x. run.IsLast x.waiting x) t.2 (run.last_stated n c.statement (run.labelled c.label p) (run.last_labelled c.label p k)))

run_stands : (cs : List Content) (r : Progress) → run.Runs 1 cs no_progress r → Stands r
run_stands cs r h = record { last = last_runs 1 cs no_progress r h tt; good = run.good_runs 1 cs no_progress r h run.good_start }

run_source : (cs : List Content) (r : Progress) → run.Runs 1 cs no_progress r → r.source ≡ source_of cs
run_source cs r h = sym (run.runs_total 1 cs no_progress r h)

good_begun : (p : Progress) → run.IsGood p → IsBegun p.source
good_begun p g =
    let small = run.waiting_small p.waiting in
    record {
      insns = g.insns;
      invs = g.invs;
      labels = g.labels;
      belong = run.have_up 0 (length p.source.insns + run.waiting_count p.waiting) (suc (length p.source.insns)) p.source.invs (omega (arith, small)) g.belong;
    }

run_begun : (cs : List Content) (r : Progress) → run.Runs 1 cs no_progress r → IsBegun (source_of cs)
run_begun cs r h = subst (λ x. IsBegun x) (run_source cs r h) (good_begun r (run.good_runs 1 cs no_progress r h run.good_start))

-- ---- the invariant that waits

-- an invariant of line m that no instruction follows
abbrev IsLoose : ℕ → List Content → ℕ → Type 0
IsLoose n cs m =
    (front rest : List Content) × (c : Content) × (cs ≡ front ++ (c ∷ rest)) × IsInv c.statement × (m ≡ n + length front) × ((k : ℕ) → insns_from k rest ≡ [])

-- it waited before, and no instruction comes
abbrev IsOld : List Content → Progress → ℕ → Type 0
IsOld cs p m = (p.waiting ≡ Some m) × ((k : ℕ) → insns_from k cs ≡ [])

some_same : {A : Type 0} (x y : A) → Some x ≡ Some y → x ≡ y
some_same x y e = cc

loose_by : (n : ℕ) (o : Option (List ℕ)) (s : Statement) (cs : List Content) (p : Progress) (m : ℕ) →
    (run.stated n s (run.labelled o p)).waiting ≡ Some m → ((k : ℕ) → insns_from k cs ≡ []) →
    IsOld (record { label = o; statement = s } ∷ cs) p m ⊎ IsLoose n (record { label = o; statement = s } ∷ cs) m
loose_by n o NoStatement cs p m e h = inl (sym (run.labelled_waiting o p) ∙ e, λ k. h (suc k))
loose_by n o (AnInsn i) cs p m e h = cc
loose_by n o (AnInv F) cs p m e h =
    let z : n ≡ n + 0 = omega arith in
    inr ([], cs, record { label = o; statement = AnInv F }, refl, tt, sym (some_same _ _ e) ∙ z, h)

loose_is : (n : ℕ) (cs : List Content) (p r : Progress) (m : ℕ) → run.Runs n cs p r → r.waiting ≡ Some m → IsOld cs p m ⊎ IsLoose n cs m
loose_is n [] p r m h e = inl (ap (λ x. x.waiting) h ∙ e, λ k. refl)
loose_is n (c ∷ cs) p r m h e =
    let t = run.taken n c p h.0 h.1 in
    ⊎_elim
    (λ a. loose_by n c.label c.statement cs p m (ap (λ x. x.waiting) t.2 ∙ a.0) a.1)
    (λ a. let z : suc n + length a.0 ≡ n + length (c ∷ a.0) = omega arith in inr (c ∷ a.0, a.1, a.2, ap (λ l. c ∷ l) a.3, a.4, a.5 ∙ z, a.6))
    (loose_is (suc n) cs h.0 r m h.2 e)

-- ---- a fault where reading stops

number_is : (k n : ℕ) → k ≡ 1 + n → k ≡ suc n
number_is k n e = omega arith

fails_at : (profile : Profile) (left : Bool) (text : List ℕ) (k : ℕ) (flaw : LineFlaw) (s : Stops profile left 1 (lines_of text) no_progress k flaw) → StopsAt profile left 1 (lines_of text) s.front s.end k flaw →
    FailsAt profile left text k flaw
fails_at profile left text k flaw s a = record {
  front = s.front;
  line = a.0;
  rest = a.1;
  contents = s.contents;
  lines = subst (λ l. AreLines text l) a.2 (are_lines text);
  number = number_is k (length s.front) a.4;
  spelled = s.spelled;
  begun = run_begun s.contents s.end s.runs;
  fails = subst (λ x. FailsBehind profile left x a.0 flaw) (run_source s.contents s.end s.runs)
      (line_fails profile left (1 + length s.front) a.0 s.end flaw (run_stands s.contents s.end s.runs) a.3);
}

no_invs : (vs : List (ℕ × Form)) → HaveInsns 0 0 vs → vs ≡ []
no_invs [] h = refl
no_invs (v ∷ vs) h = let s = h.1 in absurd (omega arith)

no_items : {A : Type 0} (xs : List A) → length xs ≡ 0 → xs ≡ []
no_items [] e = refl
no_items (x ∷ xs) e = absurd (omega arith)

empty_by : (profile : Profile) (left : Bool) (text : List ℕ) (cs : List Content) (r : Progress) → AreSpelled profile left (lines_of text) cs → run.Runs 1 cs no_progress r → r.waiting ≡ None →
    length r.source.insns ≡ 0 → Lacks profile left text 0 L.Length
empty_by profile left text cs r a h e n =
    let g = run.good_runs 1 cs no_progress r h run.good_start in
    let y : length r.source.insns + 0 ≡ 0 = omega arith in
    let z : length r.source.insns + run.waiting_count r.waiting ≡ 0 = ap (λ w. length r.source.insns + run.waiting_count w) e ∙ y in
    let invs : r.source.invs ≡ [] = no_invs r.source.invs (subst (λ k. HaveInsns 0 k r.source.invs) z g.belong) in
    let same = run_source cs r h in
    empty {lines = lines_of text} cs (are_lines text) a (run_begun cs r h)
    (subst (λ x. x.insns ≡ []) same (no_items r.source.insns n)) (subst (λ x. x.invs ≡ []) same invs)

loose_at : (profile : Profile) (left : Bool) (text : List ℕ) (cs : List Content) (r : Progress) (m : ℕ) → AreSpelled profile left (lines_of text) cs → run.Runs 1 cs no_progress r → IsLoose 1 cs m →
    Lacks profile left text m L.LooseInvariant
loose_at profile left text cs r m a h l =
    subst (λ k. Lacks profile left text k L.LooseInvariant) (sym (number_is m (length l.0) l.5))
    (loose {lines = lines_of text} l.0 l.1 l.2 (are_lines text) (subst (λ x. AreSpelled profile left (lines_of text) x) l.3 a)
    (subst (λ x. IsBegun (source_of x)) l.3 (run_begun cs r h)) l.4 (l.6 1))

lacks_by : (profile : Profile) (left : Bool) (text : List ℕ) (k : ℕ) (flaw : LineFlaw) (cs : List Content) (r : Progress) (w : Option ℕ) → AreSpelled profile left (lines_of text) cs →
    run.Runs 1 cs no_progress r → r.waiting ≡ w → source_end r w ≡ Err (k, flaw) → Lacks profile left text k flaw
lacks_by profile left text k flaw cs r (Some m) a h e f =
    let l : Lacks profile left text m L.LooseInvariant = ⊎_elim
    (λ b. let z : ◌≡◌ {A = Option ℕ} None (Some m) = b.0 in cc)
    (λ b. loose_at profile left text cs r m a h b) (loose_is 1 cs no_progress r m h e) in
    let s : (m, L.LooseInvariant) ≡ (k, flaw) = same_Err (m, L.LooseInvariant) (k, flaw) f in
    subst (λ y. Lacks profile left text y.0 y.1) s l
lacks_by profile left text k flaw cs r None a h e f =
    chosen (length r.source.insns == 0) _ _ _ f (Lacks profile left text k flaw)
    (λ t g. let s : (0, L.Length) ≡ (k, flaw) = same_Err (0, L.Length) (k, flaw) g in
    subst (λ y. Lacks profile left text y.0 y.1) s (empty_by profile left text cs r a h e (eqb-true (length r.source.insns) 0 t)))
    (λ t g. cc)

pub fault_is : (profile : Profile) (left : Bool) (text : List ℕ) (k : ℕ) (flaw : LineFlaw) → parsed_source profile left text ≡ Err (k, flaw) → IsSourceFault profile left text k flaw
unfolding parsed_source
fault_is profile left text k flaw e =
    let s = stops profile left 1 (lines_of text) no_progress k flaw e in
    ⊎_elim
    (λ a. inl (fails_at profile left text k flaw s a))
    (λ a. inr (lacks_by profile left text k flaw s.contents s.end s.end.waiting (subst (λ l. AreSpelled profile left l s.contents) (sym a.0) s.spelled) s.runs refl a.1))
    s.why

-- ---- reading stops where a fault is

fails_taken : (profile : Profile) (left : Bool) (text : List ℕ) (k : ℕ) (flaw : LineFlaw) → FailsAt profile left text k flaw → parsed_source profile left text ≡ Err (k, flaw)
unfolding parsed_source take_lines
fails_taken profile left text k flaw h =
    let f = run.begun_runs 1 h.contents no_progress h.begun tt in
    let n = 1 + length h.front in
    let at : take_line profile left n h.line f.0 ≡ Err flaw = fails_line profile left n h.line f.0 flaw (run_stands h.contents f.0 f.1)
    (subst (λ x. FailsBehind profile left x h.line flaw) (sym (run_source h.contents f.0 f.1)) h.fails) in
    let z : n ≡ k = let y = h.number in omega arith in
    ap (λ ls. take_lines profile left 1 ls no_progress) (lines_are text (h.front ++ (h.line ∷ h.rest)) h.lines)
    ∙ run.lines_taken profile left 1 h.front (h.line ∷ h.rest) h.contents no_progress f.0 h.spelled f.1
    ∙ ap (λ r. at_line n r >>= λ q. take_lines profile left (suc n) h.rest q) at ∙ ap (λ i. Err (i, flaw)) z

add_insn_none : (n : ℕ) (s : Statement) (rest : List (ℕ × SourceInsn)) → add_insn n s rest ≡ [] → rest ≡ []
add_insn_none n NoStatement rest e = e
add_insn_none n (AnInsn i) rest e = cc
add_insn_none n (AnInv F) rest e = e

-- what waits goes on waiting where no instruction comes
waits_stated : (n : ℕ) (s : Statement) (p : Progress) (rest : List (ℕ × SourceInsn)) (m : ℕ) → run.Fits s p → add_insn n s rest ≡ [] → p.waiting ≡ Some m →
    (run.stated n s p).waiting ≡ Some m
waits_stated n NoStatement p rest m h e w = w
waits_stated n (AnInsn i) p rest m h e w = cc
waits_stated n (AnInv F) p rest m h e w = let none : p.waiting ≡ None = h.0 in cc

waits_on : (j n : ℕ) (cs : List Content) (p r : Progress) (m : ℕ) → run.Runs n cs p r → insns_from j cs ≡ [] → p.waiting ≡ Some m → r.waiting ≡ Some m
waits_on j n [] p r m h e w = ap (λ x. x.waiting) (sym h) ∙ w
waits_on j n (c ∷ cs) p r m h e w =
    let t = run.taken n c p h.0 h.1 in
    let q = run.labelled c.label p in
    let more = insns_from (suc j) cs in
    let none : more ≡ [] = add_insn_none j c.statement more e in
    let at : add_insn n c.statement more ≡ [] = none_at n j c.statement more e in
    let next = waits_stated n c.statement q more m t.1 at (run.labelled_waiting c.label p ∙ w) in
    waits_on (suc j) (suc n) cs h.0 r m h.2 none (ap (λ x. x.waiting) (sym t.2) ∙ next)
  where
    none_at : (n j : ℕ) (s : Statement) (rest : List (ℕ × SourceInsn)) → add_insn j s rest ≡ [] → add_insn n s rest ≡ []
    none_at n j NoStatement rest e = e
    none_at n j (AnInsn i) rest e = cc
    none_at n j (AnInv F) rest e = e

inv_waits : (n : ℕ) (s : Statement) (p : Progress) → IsInv s → (run.stated n s p).waiting ≡ Some n
inv_waits n NoStatement p h = absurd h
inv_waits n (AnInsn i) p h = absurd h
inv_waits n (AnInv F) p h = refl

waits_behind : (n : ℕ) (front rest : List Content) (c : Content) (p r : Progress) → run.Runs n (front ++ (c ∷ rest)) p r → IsInv c.statement →
    insns_from 1 rest ≡ [] → r.waiting ≡ Some (n + length front)
waits_behind n [] rest c p r h v e =
    let t = run.taken n c p h.0 h.1 in
    let z : n ≡ n + 0 = omega arith in
    waits_on 1 (suc n) rest h.0 r (n + 0) h.2 e (ap (λ x. x.waiting) (sym t.2) ∙ inv_waits n c.statement (run.labelled c.label p) v ∙ ap Some z)
waits_behind n (d ∷ front) rest c p r h v e =
    let z : suc n + length front ≡ n + length (d ∷ front) = omega arith in
    waits_behind (suc n) front rest c h.0 r h.2 v e ∙ ap Some z

taken_end : (profile : Profile) (left : Bool) (text : List ℕ) (lines : List (List ℕ)) (cs : List Content) (r : Progress) → AreLines text lines → AreSpelled profile left lines cs →
    run.Runs 1 cs no_progress r → parsed_source profile left text ≡ source_end r r.waiting
unfolding parsed_source
taken_end profile left text lines cs r a h f = ap (λ ls. take_lines profile left 1 ls no_progress) (lines_are text lines a) ∙ run.lines_end profile left 1 lines cs no_progress r h f

none_last : (w : Option ℕ) (p : Progress) → run.IsLast w p → p.source.invs ≡ [] → w ≡ None
none_last None p k e = refl
none_last (Some m) p k e =
    let n = ap length (sym e ∙ k.2) ∙ length-append k.0 ((length p.source.insns, k.1) ∷ []) in
    absurd (omega (arith, n))

lacks_taken : (profile : Profile) (left : Bool) (text : List ℕ) (k : ℕ) (flaw : LineFlaw) → Lacks profile left text k flaw → parsed_source profile left text ≡ Err (k, flaw)
lacks_taken profile left text k flaw (loose {lines = ls} front rest c a h b v e) =
    let cs = front ++ (c ∷ rest) in
    let f = run.begun_runs 1 cs no_progress b tt in
    let z : 1 + length front ≡ suc (length front) = omega arith in
    taken_end profile left text ls cs f.0 a h f.1 ∙ ap (source_end f.0) (waits_behind 1 front rest c no_progress f.0 f.1 v e) ∙ ap (λ i. Err (i, L.LooseInvariant)) z
lacks_taken profile left text k flaw (empty {lines = ls} cs a h b e g) =
    let f = run.begun_runs 1 cs no_progress b tt in
    let same = sym (run_source cs f.0 f.1) in
    let none : f.0.waiting ≡ None = none_last f.0.waiting f.0 f.2 (subst (λ x. x.invs ≡ []) same g) in
    let few : length f.0.source.insns ≡ 0 = ap length (subst (λ x. x.insns ≡ []) same e) in
    taken_end profile left text ls cs f.0 a h f.1 ∙ ap (source_end f.0) none ∙ cond-true (length f.0.source.insns == 0) _ _ (eq-eqb (length f.0.source.insns) 0 few)

pub is_fault : (profile : Profile) (left : Bool) (text : List ℕ) (k : ℕ) (flaw : LineFlaw) → IsSourceFault profile left text k flaw → parsed_source profile left text ≡ Err (k, flaw)
is_fault profile left text k flaw h = ⊎_elim (λ a. fails_taken profile left text k flaw a) (λ a. lacks_taken profile left text k flaw a) h

-- ---- no source begins so

pub none_begins : (profile : Profile) (left : Bool) (text : List ℕ) (k : ℕ) (flaw : LineFlaw) (lines : List (List ℕ)) → FailsAt profile left text k flaw → AreLines text lines →
    BeginsNoSource profile left (take k lines)
none_begins profile left text k flaw lines h a = λ other more s b g.
    let l : lines ≡ h.front ++ (h.line ∷ h.rest) = sym (lines_are text lines a) ∙ lines_are text (h.front ++ (h.line ∷ h.rest)) h.lines in
    let c : h.front ++ (h.line ∷ h.rest) ≡ (h.front ++ (h.line ∷ [])) ++ h.rest = sym (append_assoc h.front (h.line ∷ []) h.rest) in
    let y = h.number in
    let z : length h.front + 1 ≡ k = omega arith in
    let n : length (h.front ++ (h.line ∷ [])) ≡ k = length-append h.front (h.line ∷ []) ∙ z in
    let t : take k lines ≡ h.front ++ (h.line ∷ []) = ap (take k) (l ∙ c) ∙ take_at (h.front ++ (h.line ∷ [])) h.rest k n in
    let d : AreLines other (h.front ++ (h.line ∷ more)) = subst (λ x. AreLines other x) (ap (λ x. x ++ more) t ∙ append_assoc h.front (h.line ∷ []) more) b in
    let f : FailsAt profile left other k flaw = record {
      front = h.front;
      line = h.line;
      rest = more;
      contents = h.contents;
      lines = d;
      number = h.number;
      spelled = h.spelled;
      begun = h.begun;
      fails = h.fails;
    } in
    let e : parsed_source profile left other ≡ Err (k, flaw) = fails_taken profile left other k flaw f in
    let o : parsed_source profile left other ≡ Ok s = run.spelled_parsed profile left other s g in
    cc
