-- Access to memory, by hypotheses that give it.
use Rattle.std.specs.Prelude.{ℕ, zero, suc, Bool, true, false, ◌||◌, if◌then◌else◌, ◌==◌, Option, Some, None, List, [], ◌∷◌}
use Rattle.std.specs.Option.{option_map}
use Rattle.term_table.specs.Tree.{Tree}
use Rattle.term_table.specs.Subst.{bind}
use Rattle.word_ops.specs.declared.Op.TheVariants.{Add, Sub, Sll, Srl}
use Rattle.word_ops.specs.Words.{word_of}
use Rattle.formula_tree.specs.Formulas.{Exp, EReg, ELeft, EVar, ELit, EOp, ESel, MemExp, MMem, MVar, MUpd, Form, FRd, FWr, FAnd, FImp, FAll}
use Rattle.formula_tree.specs.Variables.{PExp, subst_var_exp, subst_var}
use Rattle.lf_terms.specs.ProofTerms.{and_l, and_r, imp_e, all_e, move}
use Rattle.prover_class.specs.Hypotheses.{Hyps, same_exp}
use Rattle.prover_class.specs.NormalForms.{normal_form, equal_proof}
use Rattle.prover_class.specs.Goals.{first_of, Prover, levels, goal_proof, by_words_alone}

-- loads and stores
pub data Access : Type 0 where
  Load Store : Access

-- the right to load from a, or to store there
abbrev pub access_form : Access → Exp → Form
access_form Load a = FRd a
access_form Store a = FWr a

-- the address, where the formula is this right
abbrev pub right_address : Access → Form → Option Exp
right_address Load (FRd a) = Some a
right_address Store (FWr a) = Some a
right_address k A = None

-- a way down through conjunctions
pub data Side : Type 0 where
  Left Right : Side

-- the proof at the end of a way
abbrev pub down : Form → List Side → Tree → Tree
down (FAnd A B) (Left ∷ l) p = down A l (and_l A B p)
down (FAnd A B) (Right ∷ l) p = down B l (and_r A B p)
down A l p = p

-- whether variable c occurs in the expression, or in the memory: 0 and 1 occur in (add #0 (sll #1 3))
abbrev mutual
  pub has_var : ℕ → Exp → Bool
  has_var c (EReg r) = false
  has_var c ELeft = false
  has_var c (EVar n) = n == c
  has_var c (ELit w) = false
  has_var c (EOp o a b) = has_var c a || has_var c b
  has_var c (ESel m a) = has_var_mem c m || has_var c a

  pub has_var_mem : ℕ → MemExp → Bool
  has_var_mem c MMem = false
  has_var_mem c (MVar n) = n == c
  has_var_mem c (MUpd m a v) = has_var_mem c m || has_var c a || has_var c v

-- the summands of a normal form, without its literal
abbrev pub summands : Exp → List Exp
summands (ELit w) = []
summands (EOp Add a b) = a ∷ summands b
summands e = e ∷ []

-- the literal at a normal form's end, or 0
abbrev pub literal : Exp → ℕ
literal (ELit w) = w
literal (EOp Add a b) = literal b
literal e = 0

-- the list without the first member that is a; none where there is no such
abbrev pub without : Exp → List Exp → Option (List Exp)
without a [] = None
without a (b ∷ l) = if same_exp a b then Some l else option_map (λ m. b ∷ m) (without a l)

-- the second list without each member of the first; none where one is missing
abbrev pub all_without : List Exp → List Exp → Option (List Exp)
all_without [] m = Some m
all_without (a ∷ l) m = bind (without a m) (all_without l)

-- nested to the right, ended by the literal, unless that is 0 beside other summands
abbrev pub sum_with : List Exp → ℕ → Exp
sum_with [] w = ELit w
sum_with (a ∷ []) w = if w == 0 then a else EOp Add a (ELit w)
sum_with (a ∷ b ∷ l) w = EOp Add a (sum_with (b ∷ l) w)

-- what is left of a without b, both in normal form
abbrev pub rest_of : Exp → Exp → Option Exp
rest_of a b = option_map (λ l. sum_with l (word_of Sub (literal a) (literal b))) (all_without (summands b) (summands a))

-- t where the rest is (sll t 3), or a literal shifted right
abbrev pub eighth : Exp → Option Exp
eighth (ELit w) = Some (ELit (word_of Srl w 3))
eighth (EOp Sll t (ELit (suc (suc (suc zero))))) = Some t
eighth e = None

-- The expression that makes z equal to a if it is put for variable 0: a without the summands of b if z is
-- (add b #0), an eighth of that if z is (add b (sll #0 3)). None if there is no such expression, if variable 0
-- occurs in b, or if z has another form.
abbrev pub instance_of : ℕ → Exp → Exp → Option Exp
instance_of out a (EOp Add b (EVar zero)) = if has_var 0 b then None else rest_of (normal_form out a).now (normal_form out (subst_var_exp b 0 (PExp (ELit 0)))).now
instance_of out a (EOp Add b (EOp Sll (EVar zero) (ELit (suc (suc (suc zero)))))) = if has_var 0 b then None else bind (rest_of (normal_form out a).now (normal_form out (subst_var_exp b 0 (PExp (ELit 0)))).now) eighth
instance_of out a z = None

-- whether two addresses have one normal form
abbrev pub same_address : ℕ → Exp → Exp → Bool
same_address out z a = same_exp (normal_form out z).now (normal_form out a).now

-- the step from access to z to access to a, which have one normal form
abbrev pub access_move : ℕ → Access → Exp → Exp → Tree → Tree
access_move out k z a h = move (access_form k (EVar 0)) z a (equal_proof z a (normal_form out z) (normal_form out a)) h

-- access to z, by h, gives access to a where the normal forms are one
abbrev pub moved : ℕ → Access → Exp → Exp → Tree → Option Tree
moved out k a z h = if same_address out z a then Some (access_move out k z a h) else None

-- an address that a hypothesis offers and that is the address sought, what was put for the variable to make it so,
-- and a proof of the premise
pub record Opened : Type 0 where
  pub address : Exp
  pub put : Exp
  pub proof : Tree

-- the opening with these parts
abbrev pub opening_of : Exp → Exp → Tree → Opened
opening_of z o p = record { address = z; put = o; proof = p }

-- The opening of the address that is offered, with o put for its variable. None if the address sought has another
-- normal form, or if the premise has no proof.
abbrev pub opened_by : Prover → ℕ → Hyps → Exp → Form → Exp → Exp → Option Opened
opened_by prove outside Γ sought premise offered o =
    if same_address outside offered sought then option_map (opening_of offered o) (prove outside Γ premise) else None

-- the opening after o is put for variable 0 of the premise and of the address that is offered
abbrev pub opened_with : Prover → ℕ → Hyps → Exp → Form → Exp → Exp → Option Opened
opened_with prove outside Γ sought premise offered o =
    opened_by prove outside Γ sought (subst_var premise 0 (PExp o)) (subst_var_exp offered 0 (PExp o)) o

-- The opening of an address that a hypothesis (imp premise Q) offers in Q, or if the flag is true a hypothesis
-- (all (imp premise Q)). For example (all i (imp (ult i r17) (rd (add r16 i)))) offers (add r16 i): if (add r16 r3)
-- is sought, r3 is put for i, and (ult r3 r17) has to have a proof.
abbrev pub opened_at : Prover → Bool → ℕ → Hyps → Exp → Form → Exp → Option Opened
opened_at prove true outside Γ sought premise offered =
    bind (instance_of outside sought offered) (opened_with prove outside Γ sought premise offered)
opened_at prove false outside Γ sought premise offered =
    opened_by prove outside Γ sought premise offered offered

-- the way one conjunction longer
abbrev pub from_side : Side → Option (List Side × Opened) → Option (List Side × Opened)
from_side s o = option_map (λ x. (s ∷ x.0, x.1)) o

-- an address itself
abbrev pub no_way : Option Opened → Option (List Side × Opened)
no_way o = option_map (λ x. ([], x)) o

-- the first answer
abbrev pub first_way : Option (List Side × Opened) → Option (List Side × Opened) → Option (List Side × Opened)
first_way None o = o
first_way (Some x) o = Some x

-- what f opens first of the addresses that are reached through conjunctions alone, from the left, with its way
abbrev pub first_opened : Access → (Exp → Option Opened) → Form → Option (List Side × Opened)
first_opened k f (FAnd A B) = first_way (from_side Left (first_opened k f A)) (from_side Right (first_opened k f B))
first_opened k f A = no_way (bind (right_address k A) f)

-- access to a from (imp P Q) by h, by what opened at the end of the way
abbrev pub granted : ℕ → Access → Exp → Form → Form → Tree → List Side × Opened → Tree
granted out k a P Q h x = access_move out k x.1.address a (down Q x.0 (imp_e P Q h x.1.proof))

-- the same, or where quantified from (all (imp P Q))
abbrev pub granted_by : Bool → ℕ → Access → Exp → Form → Form → Tree → List Side × Opened → Tree
granted_by true out k a P Q h x = granted out k a (subst_var P 0 (PExp x.1.put)) (subst_var Q 0 (PExp x.1.put)) (all_e (FImp P Q) x.1.put h) x
granted_by false out k a P Q h x = granted out k a P Q h x

-- the same by the first address that opens
abbrev pub by_grant : Prover → Bool → ℕ → Hyps → Access → Exp → Form → Form → Tree → Option Tree
by_grant prove quantified out Γ k a P Q h = option_map (granted_by quantified out k a P Q h) (first_opened k (opened_at prove quantified out Γ a P) Q)

-- access to a by one hypothesis: as it stands, from an implication, or from an instance
abbrev pub by_hyp : Prover → ℕ → Hyps → Access → Exp → Form → Tree → Option Tree
by_hyp without_access out Γ k a (FImp P Q) h = by_grant without_access false out Γ k a P Q h
by_hyp without_access out Γ k a (FAll (FImp P Q)) h = by_grant without_access true out Γ k a P Q h
by_hyp without_access out Γ k a A h = bind (right_address k A) (λ z. moved out k a z h)

-- by the first hypothesis that gives it
abbrev pub by_hyps : Prover → ℕ → Hyps → Access → Exp → Hyps → Option Tree
by_hyps without_access out Γ k a [] = None
by_hyps without_access out Γ k a (x ∷ l) = first_of (by_hyp without_access out Γ k a x.0 x.1) (by_hyps without_access out Γ k a l)

-- a goal that asks to load or store
abbrev pub by_access : Prover → Prover
by_access without_access out Γ (FRd a) = by_hyps without_access out Γ Load a Γ
by_access without_access out Γ (FWr a) = by_hyps without_access out Γ Store a Γ
by_access without_access out Γ A = None

-- without access
abbrev pub without_access : Bool → Prover
without_access counted out Γ A = goal_proof (by_words_alone counted) (levels A) out Γ A

-- all that proves goals without parts
abbrev pub by_all_means : Bool → Prover
by_all_means counted out Γ A =
    first_of (by_words_alone counted out Γ A) (by_access (without_access counted) out Γ A)
