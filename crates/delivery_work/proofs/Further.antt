-- One more call in a turn whose rows began before it.
use Rattle.std.proofs.Common.{ℕ, ◌≤◌, List, [], ◌++◌, length, sym, ap, ◌∙◌, subst, append_assoc}
use Rattle.std.proofs.lemmas.List.Elements.{All-nil, All-append}
use Rattle.ndis_base.specs.declared.ModuleId.{ModuleId}
use Rattle.journal_types.specs.declared.Row.{Row}
use Rattle.buffer_pools.specs.Views.{ListView, PoolView}
use Rattle.stack_rules.specs.Net.{Net, after_rows}
use Rattle.promise_rules.specs.declared.Call.{Call}
use Rattle.agenda_items.specs.declared.Carried.{Carried}
use Rattle.hand_lemmas.specs.Hands.{Hands}
use Rattle.book_lemmas.specs.Called.{IsCalled}
use Rattle.book_lemmas.specs.Did.{Did}
use Rattle.book_lemmas.specs.Leaves.{Leaves}
use Rattle.book_lemmas.specs.Stands.{IsCarriedSized}
use Rattle.book_lemmas.specs.Turns.{HasUsed}
use Rattle.book_lemmas.specs.Views.{BookView, HeldView, held_pool, hands_of}
use Rattle.book_lemmas.proofs.Goes.{after_rows-append, did_then, used_then}
use Rattle.driver_tray.specs.Tray.{TrayView}
use Rattle.call_lemmas.specs.InCall.{InCall}
use Rattle.call_lemmas.proofs.Ends.{leaves}
use Rattle.book_parts.proofs.Events.{Ends}
use Rattle.binding_work.specs.Sends.{called_with}

-- the tray with what was taken from it first on its way again
abbrev pub put_back : List Carried → TrayView → TrayView
put_back front t = record t { queue = front ++ t.queue }

-- what was worked stands first on its way still
pub unfronted : {b : TrayView} {h : Hands} {m : ModuleId} {rows : List Row} {calls : List Call} {log : List (List (List ℕ))} {t : TrayView} {loose kept : List ListView} (front : List Carried)
    → InCall b h m rows calls log t (record { front = front; loose = loose; kept = kept }) → InCall b h m rows calls log (put_back front t) (record { front = []; loose = loose; kept = kept })
unfronted {t = t} front i = record {
  agrees = i.agrees;
  net = i.net;
  rows_are = i.rows_are;
  head = i.head;
  turns = i.turns;
  told_by = i.told_by;
  plain = i.plain;
  calls_are = i.calls_are;
  log_is = i.log_is;
  quiet = i.quiet;
  caller = i.caller;
  sized = record { front = All-nil IsCarriedSized; queue = All-append IsCarriedSized front t.queue i.sized.front i.sized.queue; loose = i.sized.loose; kept = i.sized.kept };
  size = i.size;
  bytes = i.bytes;
  used = record { rows_used = i.used.rows_used; frames = i.used.frames; bytes = i.used.bytes; slack = i.used.slack; turns = i.used.turns; payloads = i.used.payloads };
}

-- the rows of the call follow those before it
pub ends_further : {old : BookView} {t' : TrayView} {m : ModuleId} {more : List Row} {calls : List Call} {log : List (List (List ℕ))} {kept : List ListView} (t : TrayView) (held : HeldView) (front : List Carried) (rows : List Row) (held' : HeldView) (pool : PoolView)
    → Ends old (record { tray = put_back front t; held = held }) rows
    → InCall (called_with t m (held_pool held m)) (hands_of (front ++ t.queue) held []) m more calls log t' (record { front = []; loose = []; kept = kept })
    → IsCalled held held' m kept t'.pool → Leaves held held' → length held'.miniport.kept ≤ t.net.head.port.ring → Did old.held.seats held held' t.net more
    → Ends old (record { tray = record t' { pool = pool }; held = held' }) (rows ++ more)
ends_further {old} {t'} {m} {more} t held front rows held' pool e i c l ring did =
    let before : HasUsed old.tray rows (called_with t m (held_pool held m)) = record { rows_used = e.used.rows_used; frames = e.used.frames; bytes = e.used.bytes; slack = e.used.slack; turns = e.used.turns; payloads = e.used.payloads } in
    let used : HasUsed old.tray (rows ++ more) t' = used_then old.tray (called_with t m (held_pool held m)) t' rows more before i.used in
    record {
      head = i.head ∙ e.head;
      turns = i.turns ∙ e.turns;
      told_by = i.told_by ∙ e.told_by;
      net = i.net ∙ ap (λ n. after_rows n more) e.net ∙ sym (after_rows-append old.tray.net rows more);
      rows_are = i.rows_are ∙ ap (λ rs. rs ++ more) e.rows_are ∙ append_assoc old.tray.rows rows more;
      used = record { rows_used = used.rows_used; frames = used.frames; bytes = used.bytes; slack = used.slack; turns = used.turns; payloads = used.payloads };
      did = did_then old.held.seats old.held held held' old.tray.net rows more e.did (subst (λ (n : Net). Did old.held.seats held held' n more) e.net did);
      stands = leaves e.stands i c l ring;
    }
