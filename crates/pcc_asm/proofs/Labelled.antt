-- Labels that are found fast.
use Rattle.std.proofs.Common.{◌≡◌, ℕ, ◌+◌, ◌-◌, ◌<◌, ◌≤◌, Bool, true, false, cond, List, [], ◌∷◌, length, get_or, drop, Option, Some, IfSome, sym, ap, ◌∙◌, subst, arith, Bor}
use Rattle.std.specs.Str.{bytes_eq}
use Rattle.std.specs.Ordering.{is_eq, nat_cmp}
use Rattle.std.specs.Cmp.Lexicographic.{slice_cmp}
use Rattle.std.specs.BTreeMap.{BTreeMap, UpdatesBy, IsEmpty}
use Rattle.std.specs.Map.{lookup}
use Rattle.std.proofs.lemmas.List.{drop_more, drop_all}
use Rattle.std.proofs.lemmas.Map.Text.{btree_map_updates_str}
use Rattle.asm_text.specs.declared.labels.Label.{Label}
use Rattle.asm_text.specs.declared.limits.TheConstants.{MAX_INSNS}
use Rattle.pcc_asm.specs.Assembling.{label_index}
use Rattle.pcc_asm.specs.Inside.Views.{label_views, FindsLabels, AreLabelIndices}

pub none_indexed : (list : List (Label × ℕ)) (m : BTreeMap (Bor (List ℕ)) ℕ) → IsEmpty m → FindsLabels m (label_views (drop (length list - 0) list))
none_indexed list m e l =
    let past : length list ≤ length list - 0 = omega arith in
    ap (λ es. lookup (λ k. is_eq (slice_cmp nat_cmp l k.now)) es) e ∙ sym (ap (λ ls. label_index (label_views ls) l) (drop_all (length list - 0) list past))

step : (list : List (Label × ℕ)) (i : ℕ) (d : Label × ℕ) → i < length list → drop (length list - (i + 1)) list ≡ get_or list (length list - 1 - i) d ∷ drop (length list - i) list
step list i d h =
    let a : length list - (i + 1) ≡ length list - 1 - i = omega arith in
    let b : (length list - 1 - i) + 1 ≡ length list - i = omega arith in
    ap (λ n. drop n list) a ∙ drop_more list (length list - 1 - i) d (omega arith) ∙ ap (λ n. get_or list (length list - 1 - i) d ∷ drop n list) b

pub more_indexed : (list : List (Label × ℕ)) (i : ℕ) (d : Label × ℕ) (m n : BTreeMap (Bor (List ℕ)) ℕ) (text : List ℕ) (index : ℕ) → i < length list → FindsLabels m (label_views (drop (length list - i) list)) →
    text ≡ (get_or list (length list - 1 - i) d).0.text.items → index ≡ (get_or list (length list - 1 - i) d).1 → UpdatesBy (λ x y. slice_cmp nat_cmp x.now y.now) (λ k. slice_cmp nat_cmp text k.now) m n (Some index) →
    FindsLabels n (label_views (drop (length list - (i + 1)) list))
more_indexed list i d m n text index h f t x u l =
    btree_map_updates_str text m n (Some index) u l
    ∙ ap (cond (bytes_eq text l) (Some index)) (f l)
    ∙ ap (λ w. cond (bytes_eq w l) (Some index) (label_index (label_views (drop (length list - i) list)) l)) t
    ∙ ap (λ k. cond (bytes_eq (get_or list (length list - 1 - i) d).0.text.items l) (Some k) (label_index (label_views (drop (length list - i) list)) l)) x
    ∙ sym (ap (λ ls. label_index (label_views ls) l) (step list i d h))

pub all_indexed : (list : List (Label × ℕ)) (i : ℕ) (m : BTreeMap (Bor (List ℕ)) ℕ) → length list ≤ i → FindsLabels m (label_views (drop (length list - i) list)) → FindsLabels m (label_views list)
all_indexed list i m h f = let z : length list - i ≡ 0 = omega arith in subst (λ n. FindsLabels m (label_views (drop n list))) z f

short_by : (t : Bool) (x : ℕ) (o : Option ℕ) → x ≤ MAX_INSNS → IfSome o (λ i. i ≤ MAX_INSNS) → IfSome (cond t (Some x) o) (λ i. i ≤ MAX_INSNS)
short_by true x o h g = h
short_by false x o h g = g

pub index_short : (list : List (Label × ℕ)) (l : List ℕ) → AreLabelIndices list → IfSome (label_index (label_views list) l) (λ i. i ≤ MAX_INSNS)
index_short [] l h = tt
index_short (x ∷ list) l h = short_by (bytes_eq x.0.text.items l) x.1 (label_index (label_views list) l) h.0 (index_short list l h.1)
