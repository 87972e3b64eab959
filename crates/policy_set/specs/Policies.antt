-- What each policy asks at the start and promises of the end, in the notation of formula text beside each.
use Rattle.std.specs.Prelude.{ℕ, Bool, true, false, List, [], ◌∷◌, codes}
use Rattle.word_ops.specs.declared.Op.TheVariants.{Add, Band, Sll}
use Rattle.word_ops.specs.declared.Rel.TheVariants.{Eq, Ult, Ule}
use Rattle.formula_tree.specs.Formulas.{Exp, EReg, EVar, ELit, EOp, ESel, MMem, Form, FTrue, FFalse, FRel, FRd, FWr, FAnd, FImp, FAll}
use Rattle.policy_set.specs.declared.kind.PolicyKind.{PolicyKind}
use Rattle.policy_set.specs.declared.kind.PolicyKind.TheVariants.{Filter, Tag, Table}

-- (add rR e)
abbrev pub offset_from : ℕ → Exp → Exp
offset_from r e = EOp Add (EReg r) e

-- (and (ult e bound) (eq (band e 7) 0))
abbrev pub aligned_below : Exp → Exp → Form
aligned_below e bound = FAnd (FRel Ult e bound) (FRel Eq (EOp Band e (ELit 7)) (ELit 0))

-- ---- filter

-- (ule 64 r17)
abbrev pub long_packet : Form
long_packet = FRel Ule (ELit 64) (EReg 17)

-- (all i (imp (and (ult i r17) (eq (band i 7) 0)) (rd (add r16 i))))
abbrev pub readable_packet : Form
readable_packet = FAll (FImp (aligned_below (EVar 0) (EReg 17)) (FRd (offset_from 16 (EVar 0))))

-- (all j (imp (and (ult j 16) (eq (band j 7) 0)) (and (rd (add r18 j)) (wr (add r18 j)))))
abbrev pub usable_scratch : Form
usable_scratch = FAll (FImp (aligned_below (EVar 0) (ELit 16)) (FAnd (FRd (offset_from 18 (EVar 0))) (FWr (offset_from 18 (EVar 0)))))

-- (all i (all j (imp (and (and (ult i r17) (eq (band i 7) 0)) (and (ult j 16) (eq (band j 7) 0))) (imp (eq (add r16 i) (add r18 j)) ff))))
abbrev pub separate_scratch : Form
separate_scratch = FAll (FAll (FImp (FAnd (aligned_below (EVar 1) (EReg 17)) (aligned_below (EVar 0) (ELit 16))) (FImp (FRel Eq (offset_from 16 (EVar 1)) (offset_from 18 (EVar 0))) FFalse)))

-- what `filter` asks
abbrev pub filter_pre : Form
filter_pre = FAnd long_packet (FAnd readable_packet (FAnd usable_scratch separate_scratch))

-- (ult r0 2)
abbrev pub filter_post : Form
filter_post = FRel Ult (EReg 0) (ELit 2)

-- ---- tag

-- (rd (add r16 0))
abbrev pub readable_tag : Form
readable_tag = FRd (offset_from 16 (ELit 0))

-- (rd (add r16 8))
abbrev pub readable_word : Form
readable_word = FRd (offset_from 16 (ELit 8))

-- (imp (imp (eq (sel m (add r16 0)) 0) ff) (wr (add r16 8)))
abbrev pub writable_word : Form
writable_word = FImp (FImp (FRel Eq (ESel MMem (offset_from 16 (ELit 0))) (ELit 0)) FFalse) (FWr (offset_from 16 (ELit 8)))

-- what `tag` asks
abbrev pub tag_pre : Form
tag_pre = FAnd readable_tag (FAnd readable_word writable_word)

-- ---- table

-- (ult r17 65536)
abbrev pub short_table : Form
short_table = FRel Ult (EReg 17) (ELit 65536)

-- (add r16 (sll i 3))
abbrev pub entry_address : Exp
entry_address = offset_from 16 (EOp Sll (EVar 0) (ELit 3))

-- (all i (imp (ult i r17) (and (rd (add r16 (sll i 3))) (wr (add r16 (sll i 3))))))
abbrev pub usable_table : Form
usable_table = FAll (FImp (FRel Ult (EVar 0) (EReg 17)) (FAnd (FRd entry_address) (FWr entry_address)))

-- what `table` asks
abbrev pub table_pre : Form
table_pre = FAnd short_table usable_table

-- ---- the kinds, a row each

-- the number that containers carry, the name, what holds before code starts and after it returned, and whether result lines
-- show the sum of the start's region
pub record PolicyRow : Type 0 where
  pub number : ℕ
  pub name : List ℕ
  pub pre : Form
  pub post : Form
  pub has_sum : Bool

-- a row, its fields in their order
abbrev row : ℕ → List ℕ → Form → Form → Bool → PolicyRow
row n w p q s = record { number = n; name = w; pre = p; post = q; has_sum = s }

-- the table
abbrev pub policy_row : PolicyKind → PolicyRow
policy_row Filter = row 1 (codes "filter") filter_pre filter_post false
policy_row Tag = row 2 (codes "tag") tag_pre FTrue true
policy_row Table = row 3 (codes "table") table_pre FTrue true

-- all kinds, by their numbers
abbrev pub policy_kinds : List PolicyKind
policy_kinds = Filter ∷ Tag ∷ Table ∷ []

-- what holds before code starts
abbrev pub pre_of : PolicyKind → Form
pre_of kind = (policy_row kind).pre

-- what holds after it returned
abbrev pub post_of : PolicyKind → Form
post_of kind = (policy_row kind).post

-- whether result lines show the sum of the start's region
abbrev pub kind_has_sum : PolicyKind → Bool
kind_has_sum kind = (policy_row kind).has_sum
