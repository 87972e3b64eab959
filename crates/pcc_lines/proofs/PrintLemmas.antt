-- Result lines while they are printed.
use Rattle.std.proofs.Common.{◌≡◌, ℕ, ◌+◌, List, ◌∷◌, ◌++◌, length, Option, sym, ap, ◌∙◌, subst, arith, append_assoc}
use Rattle.file_port.specs.Sink.{SinkState, PutFails, with_piece}
use Rattle.file_port.proofs.PutLemmas.{part_fails, rest_fails, with_piece-with_piece}
use Rattle.policy_set.specs.declared.kind.PolicyKind.{PolicyKind}
use Rattle.packet_store.specs.declared.results.PacketResult.{PacketResult}
use Rattle.packet_store.specs.Packets.{AreShort}
use Rattle.pcc_lines.specs.Results.{result_line, result_lines}

module _ (kind : Option PolicyKind) (results : List ℕ → PacketResult) where
  -- the lines of the packets before those that remain are printed, since the output was s
  pub record Printed (all remaining : List (List ℕ)) (number : ℕ) (s t : SinkState) (now : List ℕ → PacketResult) : Type 0 where
    pub text : List ℕ
    pub state : t ≡ with_piece text s
    pub parts : result_lines kind results 0 all ≡ text ++ result_lines kind results number remaining
    pub count : number + length remaining ≡ length all
    pub short : AreShort remaining
    pub unchanged : now ≡ results

  pub printed_more : (all remaining : List (List ℕ)) (number : ℕ) (s t u : SinkState)
      (now later : List ℕ → PacketResult) (p : List ℕ) (rest : List (List ℕ))
      → Printed all remaining number s t now → remaining ≡ p ∷ rest → later ≡ now
      → (end : PacketResult) → end ≡ now p → u ≡ with_piece (result_line kind number end) t
      → Printed all rest (number + 1) s u later
  printed_more all remaining number s t u now later p rest h e kept end ran done =
      let line = result_line kind number (results p) in
      let l : length remaining ≡ length (p ∷ rest) = ap length e in
      let is : end ≡ results p = ran ∙ ap (λ (f : List ℕ → PacketResult). f p) h.unchanged in
      record {
        text = h.text ++ line;
        state =
            done ∙ ap (λ x. with_piece (result_line kind number x) t) is
            ∙ ap (with_piece line) h.state ∙ with_piece-with_piece h.text line s;
        parts =
            h.parts ∙ ap (λ ps. h.text ++ result_lines kind results number ps) e
            ∙ sym (append_assoc h.text line (result_lines kind results (number + 1) rest));
        count = omega (arith, l, h.count);
        short = (subst (λ ps. AreShort ps) e h.short).1;
        unchanged = kept ∙ h.unchanged;
      }

  pub printed_fails : (all remaining : List (List ℕ)) (number : ℕ) (s t u : SinkState)
      (now : List ℕ → PacketResult) (p : List ℕ) (rest : List (List ℕ))
      → Printed all remaining number s t now → remaining ≡ p ∷ rest → (end : PacketResult) → end
      ≡ now p → PutFails (result_line kind number end) t u
      → PutFails (result_lines kind results 0 all) s u
  printed_fails all remaining number s t u now p rest h e end ran fails =
      let P : List ℕ → Type 0 = λ x. PutFails x s u in
      let is : end ≡ results p = ran ∙ ap (λ (f : List ℕ → PacketResult). f p) h.unchanged in
      let here : PutFails (result_line kind number (results p)) t u =
      subst (λ x. PutFails (result_line kind number x) t u) is fails in
      subst P (sym (h.parts ∙ ap (λ ps. h.text ++ result_lines kind results number ps) e))
      (rest_fails h.text h.state
      (part_fails (result_lines kind results (number + 1) rest) here))
