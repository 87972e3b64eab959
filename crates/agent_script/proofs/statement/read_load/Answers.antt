use Rattle.std.proofs.Common.{◌≡◌, ℕ, List, [], ◌∷◌, sym, ap, ◌∙◌, subst}
use Rattle.agent_script.specs.Statements.{load_operands}
use Rattle.agent_script.specs.Inside.Reading.{IsStatement}
use Rattle.agent_script.proofs.statement.read_load.Goals as goal

pub returns-in_err-policy : goal.returns-in_err-policy
returns-in_err-policy c =
    rw c.from_residual.ensures (ap load_operands c.in_err-policy.ensures.none)

pub returns-in_err-file : goal.returns-in_err-file
returns-in_err-file c =
    let policy = c.in_ok-policy.policy.now in
    rw c.from_residual-in_err-file.ensures (ap load_operands (c.in_ok-policy.ensures.some
    ∙ ap (λ (l : List (List ℕ)). policy ∷ l) c.in_err-file.ensures.none))

pub returns-in_err-packets : goal.returns-in_err-packets
returns-in_err-packets c =
    let policy = c.in_ok-policy.policy.now in
    let file = c.in_ok-file.file.now in
    rw c.from_residual-in_err-packets.ensures (ap load_operands (c.in_ok-policy.ensures.some
    ∙ ap (λ (l : List (List ℕ)). policy ∷ l) (c.in_ok-file.ensures.some
    ∙ ap (λ (l : List (List ℕ)). file ∷ l) c.in_err-packets.ensures.none)))

pub returns-in-Some : goal.returns-in-Some
returns-in-Some c =
    let policy = c.in_ok-policy.policy.now in
    let file = c.in_ok-file.file.now in
    let packets = c.in_ok-packets.packets.now in
    ap load_operands (c.in_ok-policy.ensures.some
    ∙ ap (λ (l : List (List ℕ)). policy ∷ l) (c.in_ok-file.ensures.some
    ∙ ap (λ (l : List (List ℕ)). file ∷ l) (c.in_ok-packets.ensures.some
    ∙ ap (λ (l : List (List ℕ)). packets ∷ l) c.in-Some.ensures.some)))

pub returns-in-None : goal.returns-in-None
returns-in-None c =
    let policy = c.in_ok-policy.policy.now in
    let file = c.in_ok-file.file.now in
    let packets = c.in_ok-packets.packets.now in
    let whole : c.args.words.now ≡ policy ∷ file ∷ packets ∷ [] =
    c.in_ok-policy.ensures.some ∙ ap (λ (l : List (List ℕ)). policy ∷ l) (c.in_ok-file.ensures.some
    ∙ ap (λ (l : List (List ℕ)). file ∷ l) (c.in_ok-packets.ensures.some
    ∙ ap (λ (l : List (List ℕ)). packets ∷ l) c.in-None.ensures.none)) in
    subst (λ (l : List (List ℕ)). IsStatement (load_operands l) c.load_of.result) (sym whole)
    c.load_of.ensures
