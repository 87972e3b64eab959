use Rattle.std.proofs.Common.{◌≡◌, ℕ, ◌+◌, ◌*◌, ◌-◌, ◌^◌, min, List, length, ◌∙◌, ap, arith}
use Rattle.std.specs.Prelude.{sum_by}
use Rattle.std.proofs.lemmas.List.{length-map}
use Rattle.term_table.specs.Tree.{Tree}
use Rattle.term_table.specs.Table.{tree_at}
use Rattle.proof_container.specs.Versions.{lemmas_size}
use Rattle.proof_container.specs.Contents.{Contents, roots}
use Rattle.proof_container.specs.Postorder.{entries}
use Rattle.proof_container.specs.Encoding.{policy_bytes, bound_fields, encoding_of}
use Rattle.proof_container.specs.Decoding.{entry_size}
use Rattle.proof_container.specs.Views.{view_contents}
use Rattle.proof_container.proofs.LemmaIds.{length-lemmas_in}
use Rattle.proof_container.proofs.Written.{length-encoding_of}
use Rattle.proof_container.proofs.writing.extent.Goals as goal

-- sums and a product that stop at the top
capped : (policy bound sizes invs size lemmas code f1 f2 f3 f4 f5 bytes total : ℕ) → f1 ≡ min sizes (2 ^ 64 - 1)
    → f2 ≡ min (f1 + (6 + policy + bound)) (2 ^ 64 - 1) → f3 ≡ min (f2 + 2 * invs) (2 ^ 64 - 1)
    → lemmas ≡ min size (2 ^ 64 - 1) → f4 ≡ min (f3 + lemmas) (2 ^ 64 - 1)
    → f5 ≡ min (f4 * 4) (2 ^ 64 - 1) → bytes ≡ min (f5 + code) (2 ^ 64 - 1)
    → total ≡ 4 * policy + 4 * bound + 4 * (6 + sizes + 2 * invs + size) + code
    → bytes ≡ min total (2 ^ 64 - 1)
capped policy bound sizes invs size lemmas code f1 f2 f3 f4 f5 bytes total a b c d e f g h = omega arith

pub returns-clause-bytes : goal.returns-clause-bytes
returns-clause-bytes c =
    let v = c.args.view.now in
    let held : Contents = view_contents v in
    let sizes : ℕ = sum_by entry_size (entries (roots held)) in
    let len : c.entries_len.result ≡ min sizes (2 ^ 64 - 1) =
    c.entries_len.ensures
    ∙ ap (λ (z : List Tree). min (sum_by entry_size z) (2 ^ 64 - 1))
    c.in_ok-walk.ensures.left in
    let invs : length held.invs ≡ length v.invs.now = length-map {B = ℕ × Tree} v.invs.now (λ inv. (inv.0, tree_at v.table.now inv.1)) in
    let policy : 4 * c.policy_len.result ≡ length (policy_bytes v.head) =
    c.policy_len.ensures.value in
    let bound : c.bound_len.result ≡ length (bound_fields v.bound) = c.bound_len.ensures.value in
    let size : ℕ = lemmas_size v.version (length v.lemmas.now) in
    let lemmas : lemmas_size v.version (length held.lemmas) ≡ size =
    ap (lemmas_size v.version) (length-lemmas_in v.table.now v.lemmas.now) in
    let fields : ℕ = 6 + sizes + 2 * length v.invs.now + size in
    let total : length (encoding_of held)
    ≡ 4 * c.policy_len.result + 4 * c.bound_len.result + 4 * fields + length v.code.now =
    omega (arith, length-encoding_of held, invs, policy, bound, lemmas) in
    capped c.policy_len.result c.bound_len.result sizes (length v.invs.now) size c.lemmas_len.result
    (length v.code.now) c.entries_len.result
    c.saturating_add.result c.saturating_add-2.result c.saturating_add-fields.result
    c.saturating_mul.result c.saturating_add-bytes.result (length (encoding_of held))
    len c.saturating_add.ensures c.saturating_add-2.ensures c.lemmas_len.ensures
    c.saturating_add-fields.ensures c.saturating_mul.ensures c.saturating_add-bytes.ensures total
