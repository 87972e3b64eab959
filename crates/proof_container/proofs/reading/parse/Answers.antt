use Rattle.std.proofs.Common.{rules, refl, ℕ, List, length, arith}
use Rattle.std.specs.Option.{option_map}
use Rattle.std.proofs.lemmas.List.{length-map}
use Rattle.std.proofs.lemmas.Result.{err_from_is_err_and}
use Rattle.term_table.specs.Tree.{Tree}
use Rattle.term_table.specs.Table.{TableView, tree_at, id_trees}
use Rattle.lf_lemmas.specs.Tables.{lemmas_in}
use Rattle.proof_container.specs.Contents.{Contents}
use Rattle.proof_container.specs.Inside.Fronts.{front_of}
use Rattle.proof_container.specs.Decoding.{Front}
use Rattle.proof_container.proofs.Counted.{with_front}
use Rattle.proof_container.proofs.LemmaIds.{length-lemmas_in}
use Rattle.proof_container.proofs.Whole.{parts_parsed, parsed_order}
use Rattle.proof_container.proofs.Stages.{started, with_entries, with_invs, with_lemmas, with_proof, start_fault, entries_fault, invs_fault, lemmas_fault, proof_fault, end_fault, end_read, all_read}
use Rattle.proof_container.proofs.reading.parse.Goals as goal

pub returns-clause-canonical : goal.returns-clause-canonical
returns-clause-canonical c =
    let bytes = c.args.bytes.now in
    let front : Front = front_of c.in_ok-start.start c.start_of.new.fields in
    let begun = started bytes front c.new-fields.result c.start_of.new.fields c.new-fields.ensures.bytes c.in_ok-start.ensures.read c.in_ok-start.ensures.bytes refl in
    let trees : List Tree = c.entries.new.table.trees in
    let listed = with_entries bytes front c.start_of.new.fields trees c.entries.new.fields begun c.in_ok-entries.ensures.read c.in_ok-entries.ensures.bytes in
    let table : TableView = c.entries.new.table in
    let next = c.entries.new.fields.read in
    let invs : List (ℕ × Tree) = id_trees table c.in_ok-invs.invs.items in
    let held = with_invs bytes front trees c.entries.new.fields invs (length c.in_ok-invs.invs.items) c.invs.new.fields listed c.in_ok-invs.ensures.read (length-map c.in_ok-invs.invs.items _) c.in_ok-invs.ensures.moves in
    let lemmas : List (Tree × Tree) = lemmas_in table c.in_ok-lemmas.lemmas.items in
    let cited = with_lemmas bytes front trees next invs c.invs.new.fields lemmas (length c.in_ok-lemmas.lemmas.items) c.lemmas.new.fields held c.in_ok-lemmas.ensures.read (length-lemmas_in table c.in_ok-lemmas.lemmas.items) c.in_ok-lemmas.ensures.moves in
    let proof = option_map (tree_at table) c.in_ok-proof.proof in
    let proved = with_proof bytes front trees next invs lemmas c.lemmas.new.fields proof c.proof.new.fields cited c.in_ok-proof.ensures.read c.in_ok-proof.ensures.moves in
    let made : Contents = with_front front invs lemmas proof in
    let end_is = end_read bytes front trees next invs lemmas proof c.proof.new.fields c.place-at.result made proved c.place-at.ensures c.in_ok-end.ensures in
    let parsed =
    parts_parsed bytes front trees next invs lemmas proof made
    (λ i. omega (arith, c.type_inv.bytes i)) proved.head_is proved.entries_are proved.invs_are
    proved.lemmas_are proved.proof_is end_is in
    record {
      known = (c.in_ok-invs.ensures.known, c.in_ok-proof.ensures.known);
      known_lemmas = c.in_ok-lemmas.ensures.known;
      trees = parsed_order bytes front.next trees made parsed;
      places = search rules;
    }

pub returns-in_err-start-clause-exact : goal.returns-in_err-start-clause-exact
returns-in_err-start-clause-exact c =
    let bytes = c.args.bytes.now in
    let r = c.from_residual in
    let p = err_from_is_err_and r.result r.ensures.1 in
    rw (p.1, p.2) (start_fault bytes c.new-fields.result c.in_err-start.field-0.0 c.new-fields.ensures.bytes c.in_err-start.ensures.read)

pub returns-in_err-entries-clause-exact : goal.returns-in_err-entries-clause-exact
returns-in_err-entries-clause-exact c =
    let bytes = c.args.bytes.now in
    let r = c.from_residual-in_err-entries in
    let p = err_from_is_err_and r.result r.ensures.1 in
    let front : Front = front_of c.in_ok-start.start c.start_of.new.fields in
    let begun = started bytes front c.new-fields.result c.start_of.new.fields c.new-fields.ensures.bytes c.in_ok-start.ensures.read c.in_ok-start.ensures.bytes refl in
    rw (p.1, p.2) (entries_fault bytes front c.start_of.new.fields c.in_err-entries.field-0.0 begun c.in_err-entries.ensures.read)

pub returns-in_err-invs-clause-exact : goal.returns-in_err-invs-clause-exact
returns-in_err-invs-clause-exact c =
    let bytes = c.args.bytes.now in
    let r = c.from_residual-in_err-invs in
    let p = err_from_is_err_and r.result r.ensures.1 in
    let front : Front = front_of c.in_ok-start.start c.start_of.new.fields in
    let begun = started bytes front c.new-fields.result c.start_of.new.fields c.new-fields.ensures.bytes c.in_ok-start.ensures.read c.in_ok-start.ensures.bytes refl in
    let trees : List Tree = c.entries.new.table.trees in
    let listed = with_entries bytes front c.start_of.new.fields trees c.entries.new.fields begun c.in_ok-entries.ensures.read c.in_ok-entries.ensures.bytes in
    rw (p.1, p.2) (invs_fault bytes front trees c.entries.new.fields c.in_err-invs.field-0.0 listed c.in_err-invs.ensures.read)

pub returns-in_err-lemmas-clause-exact : goal.returns-in_err-lemmas-clause-exact
returns-in_err-lemmas-clause-exact c =
    let bytes = c.args.bytes.now in
    let r = c.from_residual-in_err-lemmas in
    let p = err_from_is_err_and r.result r.ensures.1 in
    let front : Front = front_of c.in_ok-start.start c.start_of.new.fields in
    let begun = started bytes front c.new-fields.result c.start_of.new.fields c.new-fields.ensures.bytes c.in_ok-start.ensures.read c.in_ok-start.ensures.bytes refl in
    let trees : List Tree = c.entries.new.table.trees in
    let listed = with_entries bytes front c.start_of.new.fields trees c.entries.new.fields begun c.in_ok-entries.ensures.read c.in_ok-entries.ensures.bytes in
    let table : TableView = c.entries.new.table in
    let next = c.entries.new.fields.read in
    let invs : List (ℕ × Tree) = id_trees table c.in_ok-invs.invs.items in
    let held = with_invs bytes front trees c.entries.new.fields invs (length c.in_ok-invs.invs.items) c.invs.new.fields listed c.in_ok-invs.ensures.read (length-map c.in_ok-invs.invs.items _) c.in_ok-invs.ensures.moves in
    rw (p.1, p.2) (lemmas_fault bytes front trees next invs c.invs.new.fields c.in_err-lemmas.field-0.0 held c.in_err-lemmas.ensures.read)

pub returns-in_err-proof-clause-exact : goal.returns-in_err-proof-clause-exact
returns-in_err-proof-clause-exact c =
    let bytes = c.args.bytes.now in
    let r = c.from_residual-in_err-proof in
    let p = err_from_is_err_and r.result r.ensures.1 in
    let front : Front = front_of c.in_ok-start.start c.start_of.new.fields in
    let begun = started bytes front c.new-fields.result c.start_of.new.fields c.new-fields.ensures.bytes c.in_ok-start.ensures.read c.in_ok-start.ensures.bytes refl in
    let trees : List Tree = c.entries.new.table.trees in
    let listed = with_entries bytes front c.start_of.new.fields trees c.entries.new.fields begun c.in_ok-entries.ensures.read c.in_ok-entries.ensures.bytes in
    let table : TableView = c.entries.new.table in
    let next = c.entries.new.fields.read in
    let invs : List (ℕ × Tree) = id_trees table c.in_ok-invs.invs.items in
    let held = with_invs bytes front trees c.entries.new.fields invs (length c.in_ok-invs.invs.items) c.invs.new.fields listed c.in_ok-invs.ensures.read (length-map c.in_ok-invs.invs.items _) c.in_ok-invs.ensures.moves in
    let lemmas : List (Tree × Tree) = lemmas_in table c.in_ok-lemmas.lemmas.items in
    let cited = with_lemmas bytes front trees next invs c.invs.new.fields lemmas (length c.in_ok-lemmas.lemmas.items) c.lemmas.new.fields held c.in_ok-lemmas.ensures.read (length-lemmas_in table c.in_ok-lemmas.lemmas.items) c.in_ok-lemmas.ensures.moves in
    rw (p.1, p.2) (proof_fault bytes front trees next invs lemmas c.lemmas.new.fields c.in_err-proof.field-0.0 cited c.in_err-proof.ensures.read)

pub returns-in_err-end-clause-exact : goal.returns-in_err-end-clause-exact
returns-in_err-end-clause-exact c =
    let bytes = c.args.bytes.now in
    let r = c.from_residual-in_err-end in
    let p = err_from_is_err_and r.result r.ensures.1 in
    let front : Front = front_of c.in_ok-start.start c.start_of.new.fields in
    let begun = started bytes front c.new-fields.result c.start_of.new.fields c.new-fields.ensures.bytes c.in_ok-start.ensures.read c.in_ok-start.ensures.bytes refl in
    let trees : List Tree = c.entries.new.table.trees in
    let listed = with_entries bytes front c.start_of.new.fields trees c.entries.new.fields begun c.in_ok-entries.ensures.read c.in_ok-entries.ensures.bytes in
    let table : TableView = c.entries.new.table in
    let next = c.entries.new.fields.read in
    let invs : List (ℕ × Tree) = id_trees table c.in_ok-invs.invs.items in
    let held = with_invs bytes front trees c.entries.new.fields invs (length c.in_ok-invs.invs.items) c.invs.new.fields listed c.in_ok-invs.ensures.read (length-map c.in_ok-invs.invs.items _) c.in_ok-invs.ensures.moves in
    let lemmas : List (Tree × Tree) = lemmas_in table c.in_ok-lemmas.lemmas.items in
    let cited = with_lemmas bytes front trees next invs c.invs.new.fields lemmas (length c.in_ok-lemmas.lemmas.items) c.lemmas.new.fields held c.in_ok-lemmas.ensures.read (length-lemmas_in table c.in_ok-lemmas.lemmas.items) c.in_ok-lemmas.ensures.moves in
    let proof = option_map (tree_at table) c.in_ok-proof.proof in
    let proved = with_proof bytes front trees next invs lemmas c.lemmas.new.fields proof c.proof.new.fields cited c.in_ok-proof.ensures.read c.in_ok-proof.ensures.moves in
    rw (p.1, p.2) (end_fault bytes front trees next invs lemmas proof c.proof.new.fields c.place-at.result c.in_err-end.field-0.0 proved c.place-at.ensures c.in_err-end.ensures)

pub returns-clause-exact : goal.returns-clause-exact
returns-clause-exact c =
    let bytes = c.args.bytes.now in
    let front : Front = front_of c.in_ok-start.start c.start_of.new.fields in
    let begun = started bytes front c.new-fields.result c.start_of.new.fields c.new-fields.ensures.bytes c.in_ok-start.ensures.read c.in_ok-start.ensures.bytes refl in
    let trees : List Tree = c.entries.new.table.trees in
    let listed = with_entries bytes front c.start_of.new.fields trees c.entries.new.fields begun c.in_ok-entries.ensures.read c.in_ok-entries.ensures.bytes in
    let table : TableView = c.entries.new.table in
    let next = c.entries.new.fields.read in
    let invs : List (ℕ × Tree) = id_trees table c.in_ok-invs.invs.items in
    let held = with_invs bytes front trees c.entries.new.fields invs (length c.in_ok-invs.invs.items) c.invs.new.fields listed c.in_ok-invs.ensures.read (length-map c.in_ok-invs.invs.items _) c.in_ok-invs.ensures.moves in
    let lemmas : List (Tree × Tree) = lemmas_in table c.in_ok-lemmas.lemmas.items in
    let cited = with_lemmas bytes front trees next invs c.invs.new.fields lemmas (length c.in_ok-lemmas.lemmas.items) c.lemmas.new.fields held c.in_ok-lemmas.ensures.read (length-lemmas_in table c.in_ok-lemmas.lemmas.items) c.in_ok-lemmas.ensures.moves in
    let proof = option_map (tree_at table) c.in_ok-proof.proof in
    let proved = with_proof bytes front trees next invs lemmas c.lemmas.new.fields proof c.proof.new.fields cited c.in_ok-proof.ensures.read c.in_ok-proof.ensures.moves in
    all_read bytes front trees next invs lemmas proof c.proof.new.fields c.place-at.result (with_front front invs lemmas proof) proved c.place-at.ensures c.in_ok-end.ensures
