-- Puts one after another are the put of the whole.
use Rattle.std.proofs.Common.{◌≡◌, ℕ, ◌+◌, List, [], ◌∷◌, ◌++◌, length, take, min, Option, Some, None, refl, sym, ap, subst, ◌∙◌, arith, append_assoc, length-append}
use Rattle.std.proofs.lemmas.List.{take-append-le, take_min, take_all, append-nil}
use Rattle.std.proofs.Math.Seq.{take-append-add}
use Rattle.file_port.specs.Counts.{Rose}
use Rattle.file_port.specs.Events.{Event, was_read, was_written, was_put, put_bytes}
use Rattle.file_port.specs.Inside.Takes.{Takes}
use Rattle.file_port.specs.Sink.{SinkState, PutFails, Puts, extended_contents, with_piece}
use Rattle.file_port.specs.declared.port.Put.{Put}
use Rattle.file_port.specs.declared.port.Put.TheVariants as put

pub extended_contents-extended_contents : (a b : List ℕ) (contents : Option (List ℕ)) → extended_contents b (extended_contents a contents) ≡ extended_contents (a ++ b) contents
extended_contents-extended_contents a b None = refl
extended_contents-extended_contents a b (Some bytes) = ap Some (append_assoc bytes a b)

pub extended_contents-nil : (contents : Option (List ℕ)) → extended_contents [] contents ≡ contents
extended_contents-nil None = refl
extended_contents-nil (Some bytes) = ap Some (append-nil bytes)

pub with_piece-with_piece : (a b : List ℕ) (s : SinkState) → with_piece b (with_piece a s) ≡ with_piece (a ++ b) s
with_piece-with_piece a b s =
    ap (λ (contents : Option (List ℕ)). record s { contents = contents; asked = (s.asked ++ a) ++ b }) (extended_contents-extended_contents a b s.contents)
    ∙ ap (λ (asked : List ℕ). record s { contents = extended_contents (a ++ b) s.contents; asked = asked }) (append_assoc s.asked a b)

pub with_piece-nil : (s : SinkState) → with_piece [] s ≡ s
with_piece-nil s =
    ap (λ (contents : Option (List ℕ)). record s { contents = contents; asked = s.asked ++ [] }) (extended_contents-nil s.contents)
    ∙ ap (λ (asked : List ℕ). record s { asked = asked }) (append-nil s.asked)

-- a prefix of a part is one of the whole
take-min-append : (kept : ℕ) (a b : List ℕ) → take (min kept (length a)) (a ++ b) ≡ take kept a
take-min-append kept a b = take-append-le (min kept (length a)) a b (omega arith) ∙ take_min kept a

-- a failed put of a part is a failed put of the whole
pub part_fails : {a : List ℕ} {s t : SinkState} → (b : List ℕ) → PutFails a s t → PutFails (a ++ b) s t
part_fails {a} {s} {t} b p = record {
  kept = min p.kept (length a);
  contents = p.contents ∙ ap (λ x. extended_contents x s.contents) (sym (take-min-append p.kept a b));
  tried = min p.tried (length a);
  asked = p.asked ∙ ap (λ x. s.asked ++ x) (sym (take-min-append p.tried a b));
  fewer = omega (arith, p.fewer);
  rose = p.rose;
  some = omega (arith, length-append a b, p.some);
}

-- after a whole piece, a failed put of the next is a failed put of both
pub rest_fails : (a : List ℕ) {b : List ℕ} {s t u : SinkState} → t ≡ with_piece a s → PutFails b t u → PutFails (a ++ b) s u
rest_fails a {b} {s} {t} {u} e p = record {
  kept = length a + p.kept;
  contents = p.contents ∙ ap (λ (x : SinkState). extended_contents (take p.kept b) x.contents) e ∙ extended_contents-extended_contents a (take p.kept b) s.contents ∙ ap (λ x. extended_contents x s.contents) (sym (take-append-add a b p.kept));
  tried = length a + p.tried;
  asked =
      p.asked ∙ ap (λ (x : SinkState). x.asked ++ take p.tried b) e ∙ append_assoc s.asked a (take p.tried b)
      ∙ ap (λ x. s.asked ++ x) (sym (take-append-add a b p.tried));
  fewer = omega (arith, p.fewer);
  rose = let P : SinkState → Type 0 = λ x. Rose x.faults u.faults in subst P e p.rose;
  some = omega (arith, length-append a b, p.some);
}

-- after a whole piece, the put of the next is the put of both
pub puts_then : (a b : List ℕ) (s t u : SinkState) (r : Put) → t ≡ with_piece a s → Puts b t u r → Puts (a ++ b) s u r
puts_then a b s t u put.Done e p = p ∙ ap (with_piece b) e ∙ with_piece-with_piece a b s
puts_then a b s t u put.Failed e p = rest_fails a e p

-- one more put in the log
pub put_bytes-put : (events : List Event) (piece : List ℕ) (answer : Put) → put_bytes (events ++ was_put piece answer ∷ []) ≡ put_bytes events ++ piece
put_bytes-put [] piece answer = append-nil piece
put_bytes-put (was_put first r ∷ more) piece answer = ap (λ x. first ++ x) (put_bytes-put more piece answer) ∙ sym (append_assoc first (put_bytes more) piece)
put_bytes-put (was_read name max given ∷ more) piece answer = put_bytes-put more piece answer
put_bytes-put (was_written name bytes r ∷ more) piece answer = put_bytes-put more piece answer

-- what was taken is a put, once the log has it
pub puts_taken : (piece : List ℕ) (s t : SinkState) (asked : List ℕ) (r : Put) → Takes piece s t r → asked ≡ s.asked ++ piece
    → Puts piece s (record t { asked = asked }) r
puts_taken piece s t asked put.Done taken more =
    ap (λ (x : SinkState). record x { asked = asked }) taken
    ∙ ap (λ (x : List ℕ). record s { contents = extended_contents piece s.contents; asked = x }) more
puts_taken piece s t asked put.Failed taken more = record {
  kept = taken.kept;
  contents = taken.contents;
  tried = length piece;
  asked = more ∙ ap (λ x. s.asked ++ x) (sym (take_all (length piece) piece (omega arith)));
  fewer = taken.part;
  rose = taken.rose;
  some = taken.some;
}
