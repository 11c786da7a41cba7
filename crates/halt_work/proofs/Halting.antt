-- The event of a halt.
use Rattle.std.proofs.Common.{◌≡◌, ℕ, zero, suc, ◌+◌, ◌==◌, Bool, true, false, cond, List, [], ◌∷◌, ◌++◌, Some, None, length, refl, sym, ap, ◌∙◌, subst, arith}
use Rattle.std.proofs.lemmas.List.{length-map}
use Rattle.std.proofs.lemmas.List.Elements.{All-weaker, All-from_get_or}
use Rattle.ndis_base.specs.declared.ModuleId.TheVariants.{Miniport, Filter, Binding}
use Rattle.ndis_base.specs.declared.ModuleState.TheVariants as state
use Rattle.ndis_base.specs.declared.Phase.{Phase}
use Rattle.ndis_base.specs.declared.Phase.TheVariants as phase
use Rattle.ndis_base.specs.declared.Who.{Who}
use Rattle.journal_types.specs.declared.Event.TheVariants as event
use Rattle.journal_types.specs.declared.Refusal.{Refusal}
use Rattle.journal_types.specs.declared.Refusal.TheVariants as refusal
use Rattle.journal_types.specs.declared.Reply.TheVariants as reply
use Rattle.journal_types.specs.declared.Row.{Row}
use Rattle.stack_rules.specs.Net.{Net, lists, after_rows, attached}
use Rattle.stack_rules.specs.Outcome.{Outcome, refused}
use Rattle.stack_rules.specs.Pauses.{halt_items, halt_rows, halt_outcome}
use Rattle.stack_rules.specs.Tests.{phase_is_paused}
use Rattle.state_laws.proofs.Events.{when_paused}
use Rattle.promise_rules.specs.Drivers.{Shelf, shelf_at, shelf_in_rows, shelf_of, driver_of}
use Rattle.driver_views.specs.States.{ProtocolState}
use Rattle.driver_tray.specs.Tray.{turn_of}
use Rattle.book_lemmas.specs.Stands.{Stands, DriversFit}
use Rattle.book_lemmas.specs.Views.{BookView, HeldView, no_protocol, IsOnShelf, hands_of}
use Rattle.book_lemmas.specs.Leaves.{IsSeatedStill}
use Rattle.book_lemmas.proofs.Goes.{used_none}
use Rattle.book_lemmas.proofs.Phases.{still_phases}
use Rattle.book_parts.specs.Events.{IsBook, IsIdle, DidEvent}
use Rattle.book_parts.proofs.Events.{Begins, Ends, did_event, ends_still}
use Rattle.phase_work.specs.Written.{CountsNothing, each_written, bindings_from}
use Rattle.phase_work.proofs.Written.{HasWritten, did_nothing, ends_moved, has_written}
use Rattle.rewire_work.specs.Refusals.{refused_or}
use Rattle.rewire_work.specs.Rested.{IsAtRest}
use Rattle.rewire_work.specs.Reseated.{AreTheirs, AreSeated}
use Rattle.book_lemmas.specs.Shelves.{FollowsShelf}
use Rattle.rewire_work.proofs.Causes.{attaches}
use Rattle.rewire_work.proofs.Empty.{kept_none, live_none}
use Rattle.rewire_work.proofs.Removed.{is_sitting}
use Rattle.rewire_work.proofs.Reseated.{stands_reseated}
use Rattle.rewire_work.proofs.Shelving.{kinds_of, shelf_then, follows_still}
use Rattle.setup_work.specs.SetUp.{closed}
use Rattle.setup_work.proofs.Rows.{twice, twice_phase}
use Rattle.halt_work.specs.Halted.{halt_refusal, closing, detached, last_rows, halted_rows, shut_down, MayShut, KeepsNothing}
use Rattle.halt_work.specs.Risen.{sides_of, with_sides, risen_each}
use Rattle.halt_work.proofs.Leaving.{AreUp, are_up, did_each, refusals_each, kinds_each, Keeps, keeps_each}
use Rattle.halt_work.proofs.Protocols.{closed_field, are_closed}
use Rattle.halt_work.proofs.Sitting.{EachSits, each_sits}
use Rattle.halt_work.proofs.Written.{closing_phases, halted_written, halted_calls, halted_logs, rows_are, closed_net, left_net, halted_net}

-- the answer of the rules, by the cause that refuses
halt_by : (a b : Bool) (n : ℕ) (p : Phase) (o : Outcome)
    → cond a (cond b o (refused (refusal.Busy n))) (refused (refusal.WrongPhase p))
    ≡ refused_or (cond a (cond b None (Some (refusal.Busy n))) (Some (refusal.WrongPhase p))) o
halt_by true true n p o = refl
halt_by true false n p o = refl
halt_by false b n p o = refl

pub halt_is : (net : Net) → halt_outcome net ≡ refused_or (halt_refusal net) (record { reply = reply.Halted; rows = halt_rows net })
halt_is net = halt_by (phase_is_paused net.phase) (halt_items net == 0) (halt_items net) net.phase (record { reply = reply.Halted; rows = halt_rows net })

paused_by : (a b : Bool) (n : ℕ) (p : Phase) → cond a (cond b None (Some (refusal.Busy n))) (Some (refusal.WrongPhase p)) ≡ None → a ≡ true
paused_by true b n p e = refl
paused_by false b n p e = cc

pub is_paused : (net : Net) → halt_refusal net ≡ None → net.phase ≡ phase.Paused
is_paused net e = when_paused net.phase (paused_by (phase_is_paused net.phase) (halt_items net == 0) (halt_items net) net.phase e)

-- refused
pub did_not_halt : (old : BookView) (cause : Refusal) → IsBook old → IsIdle old → halt_refusal old.tray.net ≡ Some cause → DidEvent old old event.Halt (reply.Refused cause)
did_not_halt old cause k i e =
    let is : halt_outcome old.tray.net ≡ refused cause = halt_is old.tray.net ∙ ap (λ c. refused_or c (record { reply = reply.Halted; rows = halt_rows old.tray.net })) e in
    did_event old old [] event.Halt attaches (reply.Refused cause) k i
    (ends_still old.tray k (record { head = refl; turns = refl; told_by = refl; net = refl; rows = refl; queue = refl; used = used_none old.tray }))
    (sym (ap (λ (o : Outcome). o.reply) is)) (sym (ap (λ (o : Outcome). o.rows) is)) refl tt tt

pub shelf_not_halted : (old : BookView) (cause : Refusal) → IsIdle old → FollowsShelf old old event.Halt (reply.Refused cause)
shelf_not_halted old cause i = follows_still old old _ _ i.rows refl refl refl refl refl (λ kinds shelf. refl)

-- the filters of the order sit
pub order_sits : (old : BookView) → IsBook old → IsAtRest old.tray.net → EachSits old.tray.net.modules.filters old.held.seats old.tray.net.modules.order
order_sits old k rest =
    each_sits old.tray.net.modules.order old.tray.net.modules.filters old.held.seats rest.wired.distinct
    (λ f inside. let s = is_sitting old f k rest inside in record { entry = s.entry; there = s.there; place = s.place; seat = s.seat })

-- a binding that closes leaves the filters
closing_filters : (b n : ℕ) (net : Net) → (after_rows net (twice state.Closing state.Unbound (bindings_from b n))).modules.filters ≡ net.modules.filters
closing_filters b zero net = refl
closing_filters b (suc n) net = closing_filters (b + 1) n (after_rows net (twice state.Closing state.Unbound (Binding b ∷ [])))

-- bindings and the miniport leave the shelf
shelf_append : (xs ys : List Row) (shelf : Shelf) → shelf_in_rows (xs ++ ys) shelf ≡ shelf_in_rows ys (shelf_in_rows xs shelf)
shelf_append [] ys shelf = refl
shelf_append (x ∷ xs) ys shelf = shelf_append xs ys (shelf_at x shelf)

shelf_closing : (b n : ℕ) (shelf : Shelf) → shelf_in_rows (twice state.Closing state.Unbound (bindings_from b n)) shelf ≡ shelf
shelf_closing b zero shelf = refl
shelf_closing b (suc n) shelf = shelf_closing (b + 1) n shelf

shelf_rows : (n : ℕ) (fs : List ℕ) (shelf : Shelf) → shelf_in_rows (halted_rows n fs) shelf ≡ shelf_in_rows (detached fs) shelf
shelf_rows n fs shelf =
    shelf_append (closing n) (detached fs ++ last_rows) shelf
    ∙ ap (shelf_in_rows (detached fs ++ last_rows)) (shelf_closing 0 n shelf)
    ∙ shelf_append (detached fs) last_rows shelf

module _ (old : BookView) (n : ℕ) (k : IsBook old) (i : IsIdle old) (rest : IsAtRest old.tray.net) (quiet : halt_refusal old.tray.net ≡ None) (all : n ≡ length old.tray.net.modules.bindings) where
  abbrev fs : List ℕ
  fs = old.tray.net.modules.order

  abbrev rows : List Row
  rows = halted_rows n fs

  abbrev new : BookView
  new = record { tray = each_written old.tray rows; held = shut_down old.held fs }

  abbrev mid : Net
  mid = closed_net old.tray.net n

  abbrev now : Net
  now = after_rows (left_net old.tray.net n fs) last_rows

  paused : old.tray.net.phase ≡ phase.Paused
  paused = is_paused old.tray.net quiet

  mid_paused : mid.phase ≡ phase.Paused
  mid_paused = twice_phase state.Closing state.Unbound (bindings_from 0 n) old.tray.net ∙ paused

  begun : Begins old.tray old.tray []
  begun = record { head = refl; turns = refl; told_by = refl; net = refl; rows = refl; queue = refl; used = used_none old.tray }

  port_is : DriversFit old.tray.net.head.port old.held phase.Paused
  port_is = subst (DriversFit old.tray.net.head.port old.held) paused k.stands.drivers

  -- the bindings are closed
  w_mid : HasWritten old.tray (closing n) (each_written old.tray (closing n))
  w_mid = has_written (closing n) old.tray (closing_phases n)

  closed_ends : Ends old (record { tray = each_written old.tray (closing n); held = old.held }) (closing n)
  closed_ends = ends_moved (closing n) k begun (closing_phases n) (subst (DriversFit old.tray.net.head.port old.held) (sym mid_paused) port_is)

  mid_stands : Stands mid old.tray.queue old.held []
  mid_stands = subst (λ q. Stands mid q old.held []) w_mid.queue (subst (λ x. Stands x (each_written old.tray (closing n)).queue old.held []) w_mid.net closed_ends.stands)

  still : IsSeatedStill old.tray.net mid
  still = still_phases old.tray.net (closing n) (closing_phases n)

  mid_none : lists mid.things ≡ []
  mid_none = ap lists still.things ∙ rest.nothing

  mid_filters : mid.modules.filters ≡ old.tray.net.modules.filters
  mid_filters = closing_filters 0 n old.tray.net

  mid_sits : EachSits mid.modules.filters old.held.seats fs
  mid_sits = subst (λ es. EachSits es old.held.seats fs) (sym mid_filters) (order_sits old k rest)

  -- the filters are detached
  pub up : AreUp mid old.tray.queue old.held fs
  up = are_up fs mid old.tray.queue old.held mid_stands mid_none mid_paused mid_sits

  abbrev left : Net
  left = left_net old.tray.net n fs

  abbrev off : HeldView
  off = with_sides old.held (risen_each (sides_of old.held) fs)

  -- and the miniport is halted
  theirs : AreTheirs off new.held
  theirs = record {
    miniport_kind = refl;
    miniport_kept = refl;
    miniport_pool = refl;
    protocol_kinds = closed_field (λ (s : ProtocolState). s.kind) (λ s. refl) old.held.protocols;
    protocols_kept = closed_field (λ (s : ProtocolState). s.kept) (λ s. refl) old.held.protocols;
    protocols = length-map old.held.protocols closed;
    protocol_pools = refl;
  }

  seats : AreSeated now new.held
  seats =
      let s = up.stands in
      record {
        kept = λ f. kept_none left (hands_of old.tray.queue off []) s.agrees up.quiet (Filter f);
        empty = λ f. live_none left (hands_of old.tray.queue off []) s.agrees up.quiet (Filter f);
        pools = λ f inside. let p = s.pools (Filter f) inside in record { size = p.size; bytes = p.bytes };
        seated = λ f a there. let x = s.seated f a there in record { place = x.place; seat = x.seat; kind = x.kind; setup = x.setup };
        places = λ f place seat. let p = s.places f place seat in record { driver = p.driver; pool = p.pool };
        shelved = All-weaker (IsOnShelf off) (IsOnShelf new.held) (λ place x. record { is = record { driver = x.is.driver; pool = x.is.pool }; vacant = x.vacant }) off.shelf s.shelved;
        apart = s.apart;
        resting = s.resting;
      }

  now_stands : Stands now old.tray.queue new.held []
  now_stands =
      stands_reseated left now old.tray.queue off new.held up.stands up.quiet (record { head = refl; bindings = refl; things = refl; next = refl }) theirs seats
      (refl, are_closed old.held.protocols)

  w : HasWritten old.tray rows new.tray
  w = halted_written n fs old.tray

  counts : CountsNothing old.held new.held
  counts = record {
    miniport = refl;
    protocols = closed_field (λ (s : ProtocolState). s.did) (λ s. refl) old.held.protocols;
    filters = did_each fs (sides_of old.held) up.may;
    keeps = record {
      miniport = omega arith;
      filters = λ q. let same = refusals_each fs (sides_of old.held) up.may q in omega (arith, same);
      kinds = kinds_each fs (sides_of old.held) up.may;
    };
  }

  ends : Ends old new rows
  ends = record {
    head = w.head;
    turns = w.turns;
    told_by = w.told_by;
    net = w.net;
    rows_are = w.rows_are;
    used = w.used;
    did = did_nothing old.held.seats old.held new.held old.tray.net rows (halted_calls old.tray.net n fs) (λ m. halted_logs m n fs) counts;
    stands = subst (λ q. Stands new.tray.net q new.held []) (sym w.queue) (subst (λ x. Stands x old.tray.queue new.held []) (sym (w.net ∙ halted_net old.tray.net n fs)) now_stands);
  }

  outcome_is : halt_outcome old.tray.net ≡ record { reply = reply.Halted; rows = halt_rows old.tray.net }
  outcome_is = halt_is old.tray.net ∙ ap (λ c. refused_or c (record { reply = reply.Halted; rows = halt_rows old.tray.net })) quiet

  pub did_halt : DidEvent old new event.Halt reply.Halted
  did_halt =
      did_event old new rows event.Halt attaches reply.Halted k i ends
      (sym (ap (λ (o : Outcome). o.reply) outcome_is)) (rows_are n old.tray.net all ∙ sym (ap (λ (o : Outcome). o.rows) outcome_is)) refl tt tt

  -- the shelf
  kinds_are : kinds_of new.held ≡ kinds_of old.held
  kinds_are = kinds_each fs (sides_of old.held) up.may

  abbrev was : Shelf
  was = shelf_of (kinds_of old.held) old.tray.turns

  shelf_after : (who : Who) → shelf_of (kinds_of new.held) (new.tray.turns ++ turn_of new.tray who event.Halt reply.Halted ∷ []) ≡ shelf_in_rows (detached fs) was
  shelf_after who =
      ap (λ ts. shelf_of (kinds_of new.held) (ts ++ turn_of new.tray who event.Halt reply.Halted ∷ [])) w.turns
      ∙ shelf_then (kinds_of new.held) old.tray.turns (turn_of new.tray who event.Halt reply.Halted)
      ∙ ap (λ rs. shelf_in_rows rs (shelf_of (kinds_of new.held) old.tray.turns)) (w.rows_are ∙ ap (λ rs. rs ++ rows) i.rows)
      ∙ ap (λ ks. shelf_in_rows rows (shelf_of ks old.tray.turns)) kinds_are
      ∙ shelf_rows n fs was

  pub shelf_halt : FollowsShelf old new event.Halt reply.Halted
  shelf_halt = record {
    shelved = λ who s.
        let first : Keeps was mid (sides_of old.held) = record { shelf_is = s.shelf; seats_are = λ g a at. s.seats g a (ap (λ es. attached g es) (sym mid_filters) ∙ at) } in
        let last : Keeps (shelf_in_rows (detached fs) was) left (risen_each (sides_of old.held) fs) = keeps_each fs was mid (sides_of old.held) first mid_sits in
        record {
          shelf = last.shelf_is ∙ ap (λ (x : Shelf). x.places) (sym (shelf_after who));
          seats = λ g a at. last.seats_are g a (ap (λ (x : Net). attached g x.modules.filters) (sym (w.net ∙ halted_net old.tray.net n fs)) ∙ at)
              ∙ ap (λ (x : Shelf). driver_of x.drivers g) (sym (shelf_after who));
        };
  }

  pub may_shut : MayShut old.held fs
  may_shut = record {
    miniport = kept_none old.tray.net (hands_of old.tray.queue old.held []) k.stands.agrees rest.nothing Miniport;
    protocols = All-from_get_or KeepsNothing old.held.protocols no_protocol (λ j within. kept_none old.tray.net (hands_of old.tray.queue old.held []) k.stands.agrees rest.nothing (Binding j));
    filters = up.may;
  }
