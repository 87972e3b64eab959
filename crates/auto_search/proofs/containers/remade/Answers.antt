use Rattle.std.proofs.Common.{◌≡◌, ℕ, ◌/◌, ◌≤◌, List, length, Option, None, Vec, IfSome, refl, sym, subst, arith}
use Rattle.std.specs.Global.{Global}
use Rattle.lf_lemmas.specs.Tables.{LemmasKnown}
use Rattle.lf_lemmas.specs.Laws.Lawful.{lemmas_known}
use Rattle.term_table.specs.Table.{TableView}
use Rattle.auto_search.specs.Inside.Terms.{ArePlain, AreRisingIds}
use Rattle.auto_search.proofs.Copies.{known-plain}
use Rattle.auto_search.proofs.Remaking.{can_remake, remade-written}
use Rattle.auto_search.proofs.containers.remade.Goals as goal

pub written-requires-clause-roots : goal.written-requires-clause-roots
written-requires-clause-roots c =
    let t : TableView = c.copies_of.new.table in
    let plain : ArePlain t c.in-Some.copies.items =
    subst (λ (o : Option (Vec (ℕ × ℕ) Global)). IfSome o (λ v. ArePlain t v.items)) c.in-Some.is
    c.in_ok-copies.ensures.plain in (
      known-plain t c.deref-2.result.now
          (subst (λ (l : List (ℕ × ℕ)). ArePlain t l) (sym c.deref-2.ensures.value) plain),
      tt,
    )

pub written-requires-clause-lemmas : goal.written-requires-clause-lemmas
written-requires-clause-lemmas c =
    let k = c.args.container in
    let t : TableView = c.copies_of.new.table in
    subst (λ (l : List (ℕ × ℕ)). LemmasKnown t l) (sym c.deref-3.ensures.value)
    (lemmas_known k.lemmas.items k.table t c.requires.canonical.known_lemmas c.copies_of.ensures.extends)

pub written-requires-clause-writable : goal.written-requires-clause-writable
written-requires-clause-writable c =
    let k = c.args.container in
    let t : TableView = c.copies_of.new.table in
    let invs : List (ℕ × ℕ) = c.in-Some.copies.items in
    let plain : ArePlain t invs =
    subst (λ (o : Option (Vec (ℕ × ℕ) Global)). IfSome o (λ v. ArePlain t v.items)) c.in-Some.is
    c.in_ok-copies.ensures.plain in
    let few : length invs ≤ 256 = omega (arith, c.if-len.false, c.len.ensures, c.in-Some.copies.ok.0) in
    let rising : AreRisingIds 0 (length k.code.now / 4) invs =
    subst (λ (l : List (ℕ × ℕ)). AreRisingIds 0 (length k.code.now / 4) l) c.deref.ensures.value
    (c.are_rising-rising.ensures c.if-not-rising.false) in
    can_remake k t _ invs None c.requires.contents c.requires.canonical.known_lemmas c.copies_of.ensures.extends plain tt few
    rising refl refl refl refl refl c.deref-2.ensures.value c.deref-3.ensures.value refl

pub returns : goal.returns
returns c =
    let k = c.args.container in
    let t : TableView = c.copies_of.new.table in
    let invs : List (ℕ × ℕ) = c.in-Some.copies.items in
    let size : length invs ≡ length c.args.invs.now =
    subst (λ (o : Option (Vec (ℕ × ℕ) Global)). IfSome o (λ v. length v.items ≡ length c.args.invs.now)) c.in-Some.is
    c.in_ok-copies.ensures.size in
    remade-written c.written.result k t invs c.deref-2.result.now c.deref-3.result.now (length c.args.invs.now)
    c.requires.canonical.known_lemmas c.copies_of.ensures.extends c.deref-2.ensures.value c.deref-3.ensures.value size
    c.written.ensures
