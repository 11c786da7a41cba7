-- What the protocol of a binding gives back is what the rules say.
use Rattle.std.proofs.Common.{◌≡◌, ℕ, ◌≤◌, ◌<◌, ◌&&◌, ◌^◌, Bool, true, false, List, [], ◌∷◌, ◌++◌, length, nat_lt, slice_index_or, slice_set, refl, sym, ap, ◌∙◌, subst, arith}
use Rattle.std.proofs.lemmas.Bool.Decides.{nat_tests}
use Rattle.std.proofs.lemmas.List.Elements.{All-nil}
use Rattle.ndis_base.specs.declared.ListNo.{ListNo}
use Rattle.ndis_base.specs.declared.ListStatus.TheVariants.{Success}
use Rattle.ndis_base.specs.declared.ModuleId.{ModuleId}
use Rattle.ndis_base.specs.declared.ModuleId.TheVariants.{Binding}
use Rattle.journal_types.specs.declared.Event.TheVariants as event
use Rattle.journal_types.specs.declared.Refusal.TheVariants as refusal
use Rattle.journal_types.specs.declared.Reply.{Reply}
use Rattle.journal_types.specs.declared.Reply.TheVariants as reply
use Rattle.journal_types.specs.declared.Row.{Row}
use Rattle.buffer_pools.specs.Views.{PoolView}
use Rattle.stack_rules.specs.Conditions.{may_ask, is_between}
use Rattle.stack_rules.specs.Net.{Net}
use Rattle.stack_rules.specs.Outcome.{Outcome}
use Rattle.stack_rules.specs.Receives.{give_back_outcome}
use Rattle.hand_lemmas.specs.Hands.{Hands, in_hand}
use Rattle.driver_views.specs.States.{Record, ProtocolState}
use Rattle.driver_tray.specs.Tray.{TrayView, homeward_row, passed_back}
use Rattle.driver_calls.specs.Protocols.{GivesBack}
use Rattle.driver_calls.specs.Protocols.GivesBack.{lacks_it, gives}
use Rattle.book_lemmas.specs.Called.{protocol_called}
use Rattle.book_lemmas.specs.Stands.{IsCarriedSized}
use Rattle.book_lemmas.specs.Views.{BookView, HeldView, no_pool, no_protocol, held_pool, hands_of}
use Rattle.book_lemmas.proofs.Called.{protocol_is_called, protocol_leaves}
use Rattle.call_lemmas.specs.InCall.{InCall}
use Rattle.call_lemmas.specs.Served.{Counts}
use Rattle.call_lemmas.proofs.Ends.{enters}
use Rattle.call_lemmas.proofs.Miniports.{home_row, homeward_in}
use Rattle.call_lemmas.proofs.Served.{counts_none, did_protocol}
use Rattle.call_lemmas.proofs.Steps.{in_passed_kept, homeward_is}
use Rattle.book_parts.specs.Events.{IsBook, IsIdle}
use Rattle.book_parts.proofs.Events.{Begins, begins_called, begins_stands, did_event, ends_call}
use Rattle.miniport_work.proofs.Sends.{no_choice}
use Rattle.binding_work.specs.Sends.{called_with}
use Rattle.binding_work.proofs.Sending.{IsBound, IsDone, is_bound}
use Rattle.receive_work.specs.Returns.{Returns}
use Rattle.receive_work.proofs.Indicating.{book_is}
use Rattle.receive_work.proofs.Finding.{lacks_list, keeps_list}

-- the answer, by whether the protocol kept the list
abbrev pub answer_of : Bool → Reply
answer_of true = reply.Ok
answer_of false = reply.Refused refusal.NotHeld

-- what a protocol did that gave a list back, or kept none of the number
record IsReturned (old : BookView) (t : TrayView) (binding : ℕ) (list : ListNo) (kept : Bool) (s' : ProtocolState) (mid : TrayView) : Type 0 where
  pub rows : List Row
  pub call : InCall (called_with t (Binding binding) (held_pool old.held (Binding binding))) (hands_of t.queue old.held []) (Binding binding) rows [] [] mid (record { front = []; loose = []; kept = s'.kept })
  pub kind : s'.kind ≡ (slice_index_or old.held.protocols binding no_protocol).kind
  pub is_open : s'.is_open ≡ (slice_index_or old.held.protocols binding no_protocol).is_open
  pub did : s'.did ≡ (slice_index_or old.held.protocols binding no_protocol).did
  pub outcome_is : give_back_outcome old.tray.net binding list ≡ record { reply = answer_of kept; rows = rows }

module _ (old : BookView) (t : TrayView) (binding : ℕ) (list : ListNo) (k : IsBook old) (g : Begins old.tray t []) where
  abbrev m : ModuleId
  m = Binding binding

  abbrev b : TrayView
  b = called_with t (Binding binding) (held_pool old.held (Binding binding))

  abbrev s : ProtocolState
  s = slice_index_or old.held.protocols binding no_protocol

  abbrev h : Hands
  h = hands_of t.queue old.held []

  begun : InCall b h m [] [] [] b (record { front = []; loose = []; kept = s.kept })
  begun =
      let stands = begins_stands k (begins_called m (held_pool old.held m) g) in
      enters b old.held m [] [] stands refl refl (All-nil IsCarriedSized) stands.sized.carried

  returned : (kept : Bool) (s' : ProtocolState) (mid : TrayView) → GivesBack s list.0 s.kept b kept s' mid → IsReturned old t binding list kept s' mid
  returned kept s' mid (lacks_it none kept_is same mid_is) = record {
    rows = [];
    call = subst (λ (x : ProtocolState). InCall b h m [] [] [] mid (record { front = []; loose = []; kept = x.kept })) (sym same)
        (subst (λ (x : TrayView). InCall b h m [] [] [] x (record { front = []; loose = []; kept = s.kept })) (sym mid_is) begun);
    kind = ap (λ (x : ProtocolState). x.kind) same;
    is_open = ap (λ (x : ProtocolState). x.is_open) same;
    did = ap (λ (x : ProtocolState). x.did) same;
    outcome_is = lacks_list old.tray.net (hands_of old.tray.queue old.held []) binding list.0 k.stands.agrees none ∙ ap (λ a. record { reply = answer_of a; rows = [] }) (sym kept_is);
  }
  returned kept s' mid (gives front l back split number kept_is same mid_is) =
      let start : InCall b h m [] [] [] b (record { front = []; loose = []; kept = front ++ l ∷ back }) = subst (λ ls. InCall b h m [] [] [] b (record { front = []; loose = []; kept = ls })) split begun in
      let row_is : homeward_row b l Success ≡ home_row old.tray.net.modules m (in_hand l) Success = homeward_in l Success start ∙ ap (λ (n : Net). home_row n.modules m (in_hand l) Success) g.net in
      let home : InCall b h m (homeward_row b l Success ∷ []) [] [] (passed_back b l Success) (record { front = []; loose = []; kept = front ++ back }) = in_passed_kept front back l (homeward_row b l Success) start (homeward_is b l Success) in
      record {
        rows = home_row old.tray.net.modules m (in_hand l) Success ∷ [];
        call = subst (λ r. InCall b h m (r ∷ []) [] [] mid (record { front = []; loose = []; kept = s'.kept })) row_is
            (subst (λ (x : ProtocolState). InCall b h m (homeward_row b l Success ∷ []) [] [] mid (record { front = []; loose = []; kept = x.kept })) (sym same)
            (subst (λ (x : TrayView). InCall b h m (homeward_row b l Success ∷ []) [] [] x (record { front = []; loose = []; kept = front ++ back })) (sym mid_is) home));
        kind = ap (λ (x : ProtocolState). x.kind) same;
        is_open = ap (λ (x : ProtocolState). x.is_open) same;
        did = ap (λ (x : ProtocolState). x.did) same;
        outcome_is = keeps_list old.tray.net (hands_of old.tray.queue old.held []) binding list.0 front l back k.stands.agrees split number
            ∙ ap (λ a. record { reply = answer_of a; rows = home_row old.tray.net.modules m (in_hand l) Success ∷ [] }) (sym kept_is);
      }

  done : (kept : Bool) (s' : ProtocolState) (mid : TrayView) → IsIdle old → IsBound old binding → 1 ≤ t.room.turns → IsReturned old t binding list kept s' mid
      → IsDone old (record { tray = record mid { pool = t.pool }; held = protocol_called old.held binding s' mid.pool }) (event.GiveBack binding list) (answer_of kept)
  done kept s' mid i there turns r =
      let held : HeldView = protocol_called old.held binding s' mid.pool in
      let called = protocol_is_called old.held binding s' mid.pool there.protocols there.pools in
      let leaves = protocol_leaves old.held binding s' mid.pool there.protocols there.pools r.kind r.is_open r.call.size r.call.bytes in
      let counts : Counts m [] [] s.did s'.did = subst (λ (d : Record). Counts m [] [] s.did d) (sym r.did) (counts_none m s.did) in
      let ends = ends_call held t.pool k (begins_called m (held_pool old.held m) g) r.call called leaves k.stands.ring (did_protocol old.held s' mid.pool r.call there.protocols tt counts) in
      record {
        did = did_event old _ r.rows (event.GiveBack binding list) no_choice (answer_of kept) k i ends (sym (ap (λ (o : Outcome). o.reply) r.outcome_is)) (sym (ap (λ (o : Outcome). o.rows) r.outcome_is)) refl tt (refl, refl);
        turn = record { room = omega (arith, turns, r.call.used.turns) };
      }

-- the binding of a list that is given back is there
below_of : (n m : ℕ) (b c : Bool) → nat_lt n m ≡ b → (b && c) ≡ true → n < m
below_of n m true c e f = grind (arith, nat_tests)
below_of n m false c e f = cc

pub there_of : (old : BookView) (binding : ℕ) (list : ListNo) → IsBook old → IsIdle old → may_ask old.tray.head (event.GiveBack binding list) ≡ true → IsBound old binding
there_of old binding list k i may =
    is_bound old binding k i (below_of binding (length old.tray.head.bindings) (nat_lt binding (length old.tray.head.bindings)) (is_between 1 (2 ^ 60) list.0) refl may)

-- the view with other protocols and pools
pub called_at : (held : HeldView) (i : ℕ) (s' : ProtocolState) (pool : PoolView) (all : List ProtocolState) (each : List PoolView) → all ≡ slice_set held.protocols i s' → each ≡ slice_set held.protocol_pools i pool
    → record held { protocols = all; protocol_pools = each } ≡ protocol_called held i s' pool
called_at held i s' pool all each e f = ap (λ ps. record held { protocols = ps; protocol_pools = each }) e ∙ ap (λ ps. record held { protocols = slice_set held.protocols i s'; protocol_pools = ps }) f

pub returned_event : (old new : BookView) (t : TrayView) (binding : ℕ) (list : ListNo) (kept : Bool) (s' : ProtocolState) (pool' : PoolView) → IsBook old → IsIdle old → may_ask old.tray.head (event.GiveBack binding list) ≡ true
    → Begins old.tray t [] → 1 ≤ t.room.turns → Returns binding list.0 (slice_index_or old.held.protocols binding no_protocol) t (slice_index_or old.held.protocol_pools binding no_pool) kept s' new.tray pool'
    → new.held ≡ protocol_called old.held binding s' pool' → IsDone old new (event.GiveBack binding list) (answer_of kept)
returned_event old new t binding list kept s' pool' k i may g turns r held =
    subst (λ (v : BookView). IsDone old v (event.GiveBack binding list) (answer_of kept)) (book_is r.tray (held ∙ ap (protocol_called old.held binding s') r.pool_is))
    (done old t binding list k g kept s' r.mid i (there_of old binding list k i may) turns
    (returned old t binding list k g kept s' r.mid (r.gives.by (slice_index_or old.held.protocols binding no_protocol).kept refl)))
