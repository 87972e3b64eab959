use Rattle.std.proofs.Common.{ℕ, ◌/◌, ◌≤◌, List, length, Option, Some, Vec, IfSome, refl, sym, subst, arith}
use Rattle.std.specs.Global.{Global}
use Rattle.lf_lemmas.specs.Tables.{LemmasKnown}
use Rattle.lf_lemmas.specs.Laws.Lawful.{lemmas_known}
use Rattle.hereditary_subst.proofs.Rows.{grows_more}
use Rattle.term_table.specs.Table.{TableView, Extends}
use Rattle.auto_search.specs.Inside.Terms.{IsPlain, ArePlain, AreRisingIds}
use Rattle.auto_search.proofs.Copies.{known-plain, plain-more}
use Rattle.auto_search.proofs.Remaking.{can_remake}
use Rattle.auto_search.proofs.containers.with_both.Goals as goal

pub written-requires-clause-roots : goal.written-requires-clause-roots
written-requires-clause-roots c =
    let s : TableView = c.copy_within.new.to in
    let t : TableView = c.copies_of.new.table in
    let proof : ℕ = c.in-Some.proof in
    let first : IsPlain s proof =
    subst (λ (o : Option ℕ). IfSome o (IsPlain s)) c.in-Some.is c.in_ok-proof.ensures.plain in
    let plain : ArePlain t c.in-Some-2.copies.items =
    subst (λ (o : Option (Vec (ℕ × ℕ) Global)). IfSome o (λ v. ArePlain t v.items)) c.in-Some-2.is
    c.in_ok-copies.ensures.plain in (
      known-plain t c.deref-3.result.now
          (subst (λ (l : List (ℕ × ℕ)). ArePlain t l) (sym c.deref-3.ensures.value) plain),
      (plain-more s t proof first c.in_ok-copies.ensures.extends).0,
    )

pub written-requires-clause-lemmas : goal.written-requires-clause-lemmas
written-requires-clause-lemmas c =
    let k = c.args.container in
    let s : TableView = c.copy_within.new.to in
    let t : TableView = c.copies_of.new.table in
    let x : Extends k.table t =
    grows_more k.table s t c.in_ok-proof.ensures.extends c.in_ok-copies.ensures.extends in
    subst (λ (l : List (ℕ × ℕ)). LemmasKnown t l) (sym c.deref-4.ensures.value)
    (lemmas_known k.lemmas.items k.table t c.requires.canonical.known_lemmas x)

pub written-requires-clause-writable : goal.written-requires-clause-writable
written-requires-clause-writable c =
    let k = c.args.container in
    let s : TableView = c.copy_within.new.to in
    let t : TableView = c.copies_of.new.table in
    let proof : ℕ = c.in-Some.proof in
    let first : IsPlain s proof =
    subst (λ (o : Option ℕ). IfSome o (IsPlain s)) c.in-Some.is c.in_ok-proof.ensures.plain in
    let x : Extends k.table t =
    grows_more k.table s t c.in_ok-proof.ensures.extends c.in_ok-copies.ensures.extends in
    let invs : List (ℕ × ℕ) = c.in-Some-2.copies.items in
    let plain : ArePlain t invs =
    subst (λ (o : Option (Vec (ℕ × ℕ) Global)). IfSome o (λ v. ArePlain t v.items)) c.in-Some-2.is
    c.in_ok-copies.ensures.plain in
    let few : length invs ≤ 256 = omega (arith, c.if-len.false, c.len.ensures, c.in-Some-2.copies.ok.0) in
    let rising : AreRisingIds 0 (length k.code.now / 4) invs =
    subst (λ (l : List (ℕ × ℕ)). AreRisingIds 0 (length k.code.now / 4) l) c.deref-2.ensures.value
    (c.are_rising-rising.ensures c.if-not-rising.false) in
    can_remake k t _ invs (Some proof) c.requires.contents c.requires.canonical.known_lemmas x plain
    (plain-more s t proof first c.in_ok-copies.ensures.extends) few
    rising refl refl refl refl refl c.deref-3.ensures.value c.deref-4.ensures.value refl
