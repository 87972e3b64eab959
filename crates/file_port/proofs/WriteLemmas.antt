-- A write that is in the log.
use Rattle.std.proofs.Common.{◌≡◌, ℕ, Bool, true, false, cond, List, [], ◌∷◌, ◌++◌, refl, ap, ◌∙◌}
use Rattle.file_port.specs.Events.{Event, was_written}
use Rattle.file_port.specs.MemFiles.{MemFilesView, files_fail_next, has_room, stored_write, with_event, after_write}
use Rattle.file_port.specs.declared.port.Put.{Put}

same_log : (roomy fails : Bool) (x y z : MemFilesView × Put) (log : List Event) → x.0.log ≡ log → y.0.log ≡ log → z.0.log ≡ log → (cond roomy (cond fails x y) z).0.log ≡ log
same_log true true x y z log p q r = p
same_log true false x y z log p q r = q
same_log false fails x y z log p q r = r

-- storing leaves the log
pub stored_log : (v : MemFilesView) (name bytes : List ℕ) → (stored_write v name bytes).0.log ≡ v.log
stored_log v name bytes = same_log (has_room v name bytes) (files_fail_next v) _ _ _ v.log refl refl refl

-- the log that has the write, where w is what storing left
pub written_log : (v w old : MemFilesView) (name bytes : List ℕ) (r : Put) (log : List Event) → v ≡ w → log ≡ v.log ++ was_written name bytes r ∷ [] → (w, r) ≡ stored_write old name bytes → log ≡ old.log ++ was_written name bytes r ∷ []
written_log v w old name bytes r log e more stored =
    more ∙ ap (λ (l : List Event). l ++ was_written name bytes r ∷ []) (ap (λ (x : MemFilesView). x.log) e ∙ ap (λ (p : MemFilesView × Put). p.0.log) stored ∙ stored_log old name bytes)

-- and what the write leaves
pub written_whole : (v w old : MemFilesView) (name bytes : List ℕ) (r : Put) (log : List Event) → v ≡ w → log ≡ v.log ++ was_written name bytes r ∷ [] → (w, r) ≡ stored_write old name bytes → (record v { log = log }, r) ≡ after_write old name bytes
written_whole v w old name bytes r log e more stored =
    let left : (record v { log = log }, r) ≡ (with_event (was_written name bytes r) v, r) = ap (λ (l : List Event). (record v { log = l }, r)) more in
    let kept : (with_event (was_written name bytes r) v, r) ≡ (with_event (was_written name bytes r) w, r) = ap (λ (x : MemFilesView). (with_event (was_written name bytes r) x, r)) e in
    left ∙ kept ∙ ap (λ (p : MemFilesView × Put). (with_event (was_written name bytes p.1) p.0, p.1)) stored
