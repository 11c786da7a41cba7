-- A turn under way in which a list is lent: the rows so far, while the list is in the hands of the event's function.
use Rattle.std.proofs.Common.{◌≡◌, ℕ, ◌≤◌, List, [], ◌++◌, length, refl, sym, ap, ◌∙◌, subst, append_assoc}
use Rattle.std.proofs.lemmas.List.Elements.{All-nil}
use Rattle.ndis_base.specs.declared.ModuleId.{ModuleId}
use Rattle.journal_types.specs.declared.Row.{Row}
use Rattle.buffer_pools.specs.Views.{ListView, PoolView}
use Rattle.stack_rules.specs.Net.{Net, after_rows}
use Rattle.promise_rules.specs.declared.Call.{Call}
use Rattle.book_lemmas.specs.Called.{IsCalled}
use Rattle.book_lemmas.specs.Did.{Did}
use Rattle.book_lemmas.specs.Leaves.{Leaves}
use Rattle.book_lemmas.specs.Stands.{Stands, IsCarriedSized}
use Rattle.book_lemmas.specs.Turns.{HasUsed}
use Rattle.book_lemmas.specs.Views.{BookView, HeldView, kept_of, held_pool, hands_of}
use Rattle.book_lemmas.proofs.Goes.{after_rows-append, did_then, used_then}
use Rattle.driver_tray.specs.Tray.{TrayView}
use Rattle.call_lemmas.specs.InCall.{InCall}
use Rattle.call_lemmas.proofs.Ends.{enters, leaves}
use Rattle.book_parts.specs.Events.{IsBook}
use Rattle.book_parts.proofs.Events.{Begins, Ends, ends_still}
use Rattle.binding_work.specs.Sends.{called_with}

-- these rows were written, the drivers did what they say, and the book stands with the lists in hand
pub record Along (old new : BookView) (rows : List Row) (loose : List ListView) : Type 0 where
  pub head : new.tray.head ≡ old.tray.head
  pub turns : new.tray.turns ≡ old.tray.turns
  pub told_by : new.tray.told_by ≡ old.tray.told_by
  pub net : new.tray.net ≡ after_rows old.tray.net rows
  pub rows_are : new.tray.rows ≡ old.tray.rows ++ rows
  pub used : HasUsed old.tray rows new.tray
  pub did : Did old.held.seats old.held new.held old.tray.net rows
  pub seats : new.held.seats ≡ old.held.seats
  pub shelf : new.held.shelf ≡ old.held.shelf
  pub stands : Stands new.tray.net new.tray.queue new.held loose

-- as the event begins
pub along_none : {old : BookView} (t : TrayView) → IsBook old → Begins old.tray t [] → Along old (record { tray = t; held = old.held }) [] []
along_none t k g =
    let e = ends_still t k g in
    record { head = e.head; turns = e.turns; told_by = e.told_by; net = e.net; rows_are = e.rows_are; used = e.used; did = e.did; seats = refl; shelf = refl; stands = e.stands }

-- and as it ends
pub along_ends : {old new : BookView} {rows : List Row} → Along old new rows [] → Ends old new rows
along_ends a = record { head = a.head; turns = a.turns; told_by = a.told_by; net = a.net; rows_are = a.rows_are; used = a.used; did = a.did; stands = a.stands }

-- a module is called with its pool
pub along_enters : {old : BookView} {rows : List Row} {loose : List ListView} (t : TrayView) (held : HeldView) (m : ModuleId) (pool : PoolView) → Along old (record { tray = t; held = held }) rows loose → pool ≡ held_pool held m
    → InCall (called_with t m pool) (hands_of t.queue held loose) m [] [] [] (called_with t m pool) (record { front = []; loose = loose; kept = kept_of held m })
along_enters {loose = loose} t held m pool a is = enters (called_with t m pool) held m [] loose a.stands refl is (All-nil IsCarriedSized) a.stands.sized.carried

-- the rows of a call follow those before it
pub along_further : {old : BookView} {t t' : TrayView} {held : HeldView} {m : ModuleId} {p : PoolView} {rows more : List Row} {calls : List Call} {log : List (List (List ℕ))} {loose loose' kept : List ListView} (held' : HeldView) (pool : PoolView)
    → Along old (record { tray = t; held = held }) rows loose
    → InCall (called_with t m p) (hands_of t.queue held loose) m more calls log t' (record { front = []; loose = loose'; kept = kept })
    → IsCalled held held' m kept t'.pool → Leaves held held' → length held'.miniport.kept ≤ t.net.head.port.ring → Did held.seats held held' t.net more
    → Along old (record { tray = record t' { pool = pool }; held = held' }) (rows ++ more) loose'
along_further {old} {t} {t'} {held} {m} {p} {rows} {more} held' pool a i c l ring did =
    let before : HasUsed old.tray rows (called_with t m p) = record { rows_used = a.used.rows_used; frames = a.used.frames; bytes = a.used.bytes; slack = a.used.slack; turns = a.used.turns; payloads = a.used.payloads } in
    let used : HasUsed old.tray (rows ++ more) t' = used_then old.tray (called_with t m p) t' rows more before i.used in
    record {
      head = i.head ∙ a.head;
      turns = i.turns ∙ a.turns;
      told_by = i.told_by ∙ a.told_by;
      net = i.net ∙ ap (λ n. after_rows n more) a.net ∙ sym (after_rows-append old.tray.net rows more);
      rows_are = i.rows_are ∙ ap (λ rs. rs ++ more) a.rows_are ∙ append_assoc old.tray.rows rows more;
      used = record { rows_used = used.rows_used; frames = used.frames; bytes = used.bytes; slack = used.slack; turns = used.turns; payloads = used.payloads };
      did = did_then old.held.seats old.held held held' old.tray.net rows more a.did
          (subst (λ (n : Net). Did old.held.seats held held' n more) a.net (subst (λ ss. Did ss held held' t.net more) a.seats did));
      seats = l.seats ∙ a.seats;
      shelf = l.shelf ∙ a.shelf;
      stands = leaves a.stands i c l ring;
    }
