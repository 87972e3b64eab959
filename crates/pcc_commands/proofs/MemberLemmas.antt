-- The agents of a script's loads while they are read.
use Rattle.std.proofs.Common.{◌≡◌, ℕ, suc, ◌+◌, ◌<◌, ◌≤◌, List, [], ◌∷◌, ◌++◌, length, drop, get_or, Result, Ok, Err, Vec, Global, refl, sym, ◌∙◌, ap, subst, arith, append_assoc}
use Rattle.std.specs.Prelude.{map}
use Rattle.std.specs.Result.{IsErrAnd}
use Rattle.std.proofs.lemmas.List.{append-nil, length_push, map_push, drop_more, drop_all}
use mathlib.Core.Path.{fun_ext}
use Rattle.file_port.specs.Events.{Event}
use Rattle.file_port.specs.Files.{FilesState}
use Rattle.alpha_words.specs.declared.insn.Insn.{Insn}
use Rattle.policy_set.specs.Views.{PolicyView}
use Rattle.agent_script.specs.declared.script.Load.{Load}
use Rattle.agent_script.specs.Statements.{LoadView}
use Rattle.agent_script.specs.Scripts.{load_view}
use Rattle.pcc_stages.specs.Stage.{Stage, gives, ◌>>=◌}
use Rattle.pcc_stages.specs.declared.stops.Stop.{Stop}
use Rattle.pcc_stages.specs.declared.stops.Stop.TheVariants as stop
use Rattle.pcc_stages.specs.Stages.Common.{policy_named}
use Rattle.pcc_stages.specs.Answers.{Gives}
use Rattle.pcc_stages.proofs.StageLemmas.{bind-assoc, bind-gives, lifted, stops_first, gives_then}
use Rattle.pcc_commands.specs.declared.commands.host.Admitted.{Admitted}
use Rattle.pcc_commands.specs.Stages.Judging.{accepted_code_of}
use Rattle.pcc_commands.specs.Stages.Hosting.{Member, packet_of, load_of, for_agent, agents_from}
use Rattle.pcc_commands.specs.Inside.Behind.{member_on_packet, load_under}
use Rattle.pcc_commands.specs.Inside.Standing.{HasStart}
use Rattle.pcc_commands.specs.Inside.Turning.{AreReadyFrom, member_view, members_view}
use Rattle.pcc_commands.proofs.AgentLemmas.{for-bind}

-- ---- one load

-- what is told of an agent is told stage by stage
pub load_stages : (a : ℕ) (one : LoadView) → for_agent a (load_of a one) ≡ (for_agent a (policy_named one.policy) >>= load_under a one)
unfolding load_of
load_stages a one =
    for-bind a (policy_named one.policy) (λ policy. accepted_code_of policy one.file >>= λ code. packet_of a policy one.packets >>= λ packet. gives (member_on_packet policy code packet))
    ∙ ap (λ (next : PolicyView → Stage Member). for_agent a (policy_named one.policy) >>= next)
    (fun_ext (λ policy.
    for-bind a (accepted_code_of policy one.file) (λ code. packet_of a policy one.packets >>= λ packet. gives (member_on_packet policy code packet))
    ∙ ap (λ (next : List Insn → Stage Member). for_agent a (accepted_code_of policy one.file) >>= next) (fun_ext (λ code.
    for-bind a (packet_of a policy one.packets) (λ packet. gives (member_on_packet policy code packet))))))

-- ---- loads in order

-- the agents of loads, behind those of the loads before
abbrev rest_stage : ℕ → List LoadView → List Member → Stage (List Member)
rest_stage a loads before = agents_from a loads >>= λ agents. gives (before ++ agents)

-- the first of them, and then the others
rest_more : (a : ℕ) (one : LoadView) (loads : List LoadView) (before : List Member)
    → rest_stage a (one ∷ loads) before ≡ (for_agent a (load_of a one) >>= λ agent. rest_stage (suc a) loads (before ++ agent ∷ []))
rest_more a one loads before =
    bind-assoc (for_agent a (load_of a one)) (λ agent. agents_from (suc a) loads >>= λ agents. gives (agent ∷ agents)) (λ all. gives (before ++ all))
    ∙ ap (λ (next : Member → Stage (List Member)). for_agent a (load_of a one) >>= next) (fun_ext (λ agent.
    bind-assoc (agents_from (suc a) loads) (λ agents. gives (agent ∷ agents)) (λ all. gives (before ++ all))
    ∙ ap (λ (next : List Member → Stage (List Member)). agents_from (suc a) loads >>= next) (fun_ext (λ agents. ap gives (sym (append_assoc before (agent ∷ []) agents))))))

ready-push : (a b : ℕ) (members : List Admitted) (m : Admitted) → b ≡ a + length members → AreReadyFrom a members → HasStart b m.accepted.policy m.packet.items → AreReadyFrom a (members ++ m ∷ [])
ready-push a b [] m same ready start = let here : b ≡ a = omega arith in (subst (λ n. HasStart n m.accepted.policy m.packet.items) here start, tt)
ready-push a b (x ∷ members) m same ready start = (ready.0, ready-push (suc a) b members m (omega arith) ready.1 start)

module _ (loads : List Load) (e : List Event) (f : FilesState) where
  -- The members of so many loads are read, and what the rest comes to, all come to.
  pub record AreReading (i : ℕ) (members : List Admitted) (m : List Event) (n : FilesState) : Type 0 where
    pub count : length members ≡ i
    pub ready : AreReadyFrom 0 members
    pub comes : (e' : List Event) (g : FilesState) (r : Result (Vec Admitted Global) Stop) → Gives members_view (rest_stage i (map load_view (drop i loads)) (map member_view members)) m e' n g r
        → Gives members_view (agents_from 0 (map load_view loads)) e e' f g r

  pub reading-none : AreReading 0 [] e f
  reading-none = record {
    count = refl;
    ready = tt;
    comes = λ e' g r h. subst (λ (s : Stage (List Member)). Gives members_view s e e' f g r) (bind-gives (agents_from 0 (map load_view loads))) h;
  }

  module _ (i : ℕ) (members : List Admitted) (m : List Event) (n : FilesState) (a : AreReading i members m n) where
    -- want of memory
    pub reading-memory : Gives members_view (agents_from 0 (map load_view loads)) e m f n (Err stop.Memory)
    reading-memory = a.comes m n (Err stop.Memory) (lifted members_view (rest_stage i (map load_view (drop i loads)) (map member_view members)) m n (Err stop.Memory) tt)

    -- all are read
    pub reading-all : length loads ≤ i → (all : Vec Admitted Global) → all.items ≡ members → Gives members_view (agents_from 0 (map load_view loads)) e m f n (Ok all)
    reading-all end all is =
        let stage : rest_stage i (map load_view (drop i loads)) (map member_view members) ≡ gives (members_view all) =
        ap (λ (l : List Load). rest_stage i (map load_view l) (map member_view members)) (drop_all i loads end) ∙ ap gives (append-nil (map member_view members))
        ∙ ap (λ (l : List Admitted). gives (map member_view l)) (sym is) in
        a.comes m n (Ok all) (lifted members_view (rest_stage i (map load_view (drop i loads)) (map member_view members)) m n (Ok all) stage)

    module _ (load : Load) (within : i < length loads) (is : load ≡ get_or loads i load) (m' : List Event) (n' : FilesState) where
      -- the loads behind it
      abbrev behind_load : Member → Stage (List Member)
      behind_load agent = rest_stage (suc i) (map load_view (drop (i + 1) loads)) (map member_view members ++ agent ∷ [])

      next_stage : rest_stage i (map load_view (drop i loads)) (map member_view members) ≡ (for_agent i (load_of i (load_view load)) >>= behind_load)
      next_stage =
          ap (λ (l : List Load). rest_stage i (map load_view l) (map member_view members)) (drop_more loads i load within ∙ ap (λ (x : Load). x ∷ drop (i + 1) loads) (sym is))
          ∙ rest_more i (load_view load) (map load_view (drop (i + 1) loads)) (map member_view members)

      -- the next ends the command
      pub reading-stops : (k : ℕ) (why : Stop) (r : Result (Vec Admitted Global) Stop) → k ≡ i → Gives member_view (for_agent k (load_of k (load_view load))) m m' n n' (Err why) → IsErrAnd r (λ y. y ≡ why)
          → Gives members_view (agents_from 0 (map load_view loads)) e m' f n' r
      reading-stops k why r same h is_why =
          a.comes m' n' r (subst (λ (s : Stage (List Member)). Gives members_view s m m' n n' r) (sym next_stage)
          (stops_first behind_load member_view members_view (for_agent i (load_of i (load_view load))) m m' n n' why r
          (subst (λ j. Gives member_view (for_agent j (load_of j (load_view load))) m m' n n' (Err why)) same h) is_why))

      -- the next is read
      pub reading-more : (k : ℕ) (x : Admitted) → k ≡ i → Gives member_view (for_agent k (load_of k (load_view load))) m m' n n' (Ok x) → HasStart k x.accepted.policy x.packet.items
          → AreReading (i + 1) (members ++ x ∷ []) m' n'
      reading-more k x same h start =
          let one : i + 1 ≡ suc i = omega arith in
          let place : k ≡ 0 + length members = omega (arith, same, a.count) in
          record {
            count = length_push members x ∙ ap (λ j. j + 1) a.count;
            ready = ready-push 0 k members x place a.ready start;
            comes = λ e' g r rest.
                a.comes e' g r (subst (λ (s : Stage (List Member)). Gives members_view s m e' n g r) (sym next_stage)
                (gives_then behind_load member_view members_view (for_agent i (load_of i (load_view load))) m m' e' n n' g x r
                (subst (λ j. Gives member_view (for_agent j (load_of j (load_view load))) m m' n n' (Ok x)) same h)
                (subst (λ (before : List Member). Gives members_view (rest_stage (suc i) (map load_view (drop (i + 1) loads)) before) m' e' n' g r) (map_push member_view members x)
                (subst (λ j. Gives members_view (rest_stage j (map load_view (drop (i + 1) loads)) (map member_view (members ++ x ∷ []))) m' e' n' g r) one rest))));
          }

-- the same where they are counted and listed otherwise
pub reading-again : (loads : List Load) (e m : List Event) (f n : FilesState) (i j : ℕ) (members same : List Admitted) → i ≡ j → members ≡ same → AreReading loads e f i members m n → AreReading loads e f j same m n
reading-again loads e m f n i j members same count is a =
    subst (λ k. AreReading loads e f k same m n) count (subst (λ (xs : List Admitted). AreReading loads e f i xs m n) is a)
