-- Where a turn ends in which one module was called and the binding that asked is told.
use Rattle.std.proofs.Common.{◌≡◌, ℕ, ◌≤◌, ◌<◌, List, [], ◌++◌, Option, Some, None, length, slice_index_or, slice_set, refl, sym, ap, ◌∙◌, subst, arith}
use Rattle.std.proofs.lemmas.List.{set-get_or}
use Rattle.std.proofs.lemmas.List.Elements.{All-nil}
use Rattle.ndis_base.specs.declared.ModuleId.{ModuleId}
use Rattle.ndis_base.specs.declared.ModuleId.TheVariants.{Binding}
use Rattle.ndis_base.specs.declared.OidNo.{OidNo}
use Rattle.journal_types.specs.declared.Row.{Row}
use Rattle.buffer_pools.specs.Views.{ListView, PoolView}
use Rattle.stack_rules.specs.Net.{Net, after_rows}
use Rattle.promise_rules.specs.declared.Call.{Call}
use Rattle.promise_rules.specs.declared.Called.TheVariants as called
use Rattle.promise_rules.specs.Calls.{call}
use Rattle.driver_views.specs.States.{ProtocolState}
use Rattle.driver_tray.specs.Tray.{TrayView}
use Rattle.book_lemmas.specs.Called.{IsCalled, protocol_called}
use Rattle.book_lemmas.specs.Did.{Did, asker_now}
use Rattle.book_lemmas.specs.Leaves.{Leaves}
use Rattle.book_lemmas.specs.Stands.{Stands, IsCarriedSized}
use Rattle.book_lemmas.specs.Turns.{HasUsed}
use Rattle.book_lemmas.specs.Views.{BookView, HeldView, no_pool, no_protocol, hands_of}
use Rattle.book_lemmas.proofs.Called.{protocol_is_called, protocol_leaves}
use Rattle.book_lemmas.proofs.Goes.{used_then}
use Rattle.call_lemmas.specs.InCall.{InCall}
use Rattle.call_lemmas.proofs.Answers.{Tally, tally_none, tally_protocol, did_tally}
use Rattle.call_lemmas.proofs.Ends.{enters, leaves}
use Rattle.call_lemmas.proofs.Served.{counts_call}
use Rattle.book_parts.specs.Events.{IsBook}
use Rattle.book_parts.proofs.Events.{Begins, Ends, begins_stands}
use Rattle.binding_work.specs.Sends.{called_with}
use Rattle.answer_work.specs.Told.{heard, told_of_answer}

-- only protocols changed
abbrev pub told : HeldView → Option OidNo → ℕ → HeldView
told held parent n = record held { protocols = told_of_answer parent n held.protocols }

-- the protocol's pool is what it was
same_pool : (held : HeldView) (n : ℕ) (s : ProtocolState) → protocol_called held n s (slice_index_or held.protocol_pools n no_pool) ≡ record held { protocols = slice_set held.protocols n s }
same_pool held n s = ap (λ ps. record held { protocols = slice_set held.protocols n s; protocol_pools = ps }) (set-get_or held.protocol_pools n no_pool)

-- the book stands where a protocol is told, which keeps all that it has
pub stands_told : (t : TrayView) (held : HeldView) (parent : Option OidNo) (n : ℕ) → Stands t.net t.queue held [] → n < length held.protocols → length held.protocol_pools ≡ length held.protocols → Stands t.net t.queue (told held parent n) []
stands_told t held (Some parent) n s within pools = s
stands_told t held None n s within pools =
    let p : ProtocolState = slice_index_or held.protocols n no_protocol in
    let pool : PoolView = slice_index_or held.protocol_pools n no_pool in
    let housed : n < length held.protocol_pools = omega (arith, within, pools) in
    let entered = enters (called_with t (Binding n) pool) held (Binding n) [] [] s refl refl (All-nil IsCarriedSized) s.sized.carried in
    subst (λ (h : HeldView). Stands t.net t.queue h []) (same_pool held n (heard p))
    (leaves s entered (protocol_is_called held n (heard p) pool within housed) (protocol_leaves held n (heard p) pool within housed refl refl entered.size entered.bytes) s.ring)

-- and it counts the call of the row
pub tally_told : (held : HeldView) (parent : Option OidNo) (n : ℕ) → n < length held.protocols → Tally held.seats (asker_now parent n) held (told held parent n)
tally_told held (Some parent) n within = tally_none held
tally_told held None n within =
    let p : ProtocolState = slice_index_or held.protocols n no_protocol in
    tally_protocol held n (heard p) (call (Binding n) called.OidComplete) within (refl, tt) (counts_call (Binding n) called.OidComplete p.did)

-- the turn ends
pub ends_told : {old : BookView} {b t : TrayView} {m : ModuleId} {rows : List Row} {calls : List Call} {kept : List ListView} (mid : HeldView) (parent : Option OidNo) (n : ℕ) (pool : PoolView)
    → IsBook old → Begins old.tray b [] → InCall b (hands_of b.queue old.held []) m rows calls [] t (record { front = []; loose = []; kept = kept })
    → IsCalled old.held mid m kept t.pool → Leaves old.held mid → length mid.miniport.kept ≤ old.tray.net.head.port.ring → n < length mid.protocols → length mid.protocol_pools ≡ length mid.protocols
    → Tally old.held.seats calls old.held (told mid parent n)
    → Ends old (record { tray = record t { pool = pool }; held = told mid parent n }) rows
ends_told {old} {b} {t} {m} {rows} {calls} {kept} mid parent n pool k g i c l ring within pools tally =
    let used : HasUsed old.tray rows t = used_then old.tray b t [] rows g.used i.used in
    let stands : Stands t.net t.queue mid [] = leaves (begins_stands k g) i c l (subst (λ (x : Net). length mid.miniport.kept ≤ x.head.port.ring) (sym g.net) ring) in
    record {
      head = i.head ∙ g.head;
      turns = i.turns ∙ g.turns;
      told_by = i.told_by ∙ g.told_by;
      net = i.net ∙ ap (λ x. after_rows x rows) g.net;
      rows_are = i.rows_are ∙ ap (λ rs. rs ++ rows) g.rows;
      used = record { rows_used = used.rows_used; frames = used.frames; bytes = used.bytes; slack = used.slack; turns = used.turns; payloads = used.payloads };
      did = subst (λ (x : Net). Did old.held.seats old.held (told mid parent n) x rows) g.net (did_tally i tally);
      stands = stands_told t mid parent n stands within pools;
    }

-- a book by its parts
pub book_is : {new : BookView} {t : TrayView} {h : HeldView} → new.tray ≡ t → new.held ≡ h → record { tray = t; held = h } ≡ new
book_is {new} {t} {h} e f = ap (λ x. record { tray = x; held = h }) (sym e) ∙ ap (λ x. record { tray = new.tray; held = x }) (sym f)
