-- The ring of an adapter that isn't virtual: no list in it waits, so a drain of it is a transmission.
use Rattle.std.proofs.Common.{◌≡◌, ◌||◌, ℕ, not, Bool, true, false, cond, List, [], ◌∷◌, ◌++◌, Option, Some, None, filter, map, is_some, refl, sym, ap, ◌∙◌, append_assoc, eqb-true}
use Rattle.std.specs.List.{list_any}
use Rattle.std.proofs.lemmas.Bool.{cond-false}
use Rattle.ndis_base.specs.declared.ListNo.{ListNo}
use Rattle.ndis_base.specs.declared.ModuleId.{ModuleId}
use Rattle.ndis_base.specs.declared.ModuleId.TheVariants.{Miniport, Filter}
use Rattle.ndis_base.specs.declared.ListStatus.TheVariants.{Paused}
use Rattle.ndis_base.specs.declared.Origin.{Origin}
use Rattle.ndis_base.specs.declared.Origin.TheVariants as origin
use Rattle.journal_types.specs.declared.Event.TheVariants as event
use Rattle.journal_types.specs.declared.Reply.{Reply}
use Rattle.journal_types.specs.declared.Reply.TheVariants as reply
use Rattle.journal_types.specs.declared.Row.{Row}
use Rattle.stack_rules.specs.declared.LiveList.{LiveList}
use Rattle.stack_rules.specs.declared.Stand.{Stand}
use Rattle.stack_rules.specs.declared.Stand.TheVariants as stand
use Rattle.stack_rules.specs.Drains.{returns_all, passes_all, empties, empties_ring, first_rows, drain_rows, drained}
use Rattle.stack_rules.specs.Heads.{binding_numbers}
use Rattle.stack_rules.specs.Net.{Net, lists, list_of}
use Rattle.stack_rules.specs.Outcome.{Outcome}
use Rattle.stack_rules.specs.Places.{is_clone_of, is_crossed, is_kept_by, is_waiting, has_clone, kept_lists, ready_lists}
use Rattle.stack_rules.specs.Pumps.{is_pump_moving, pump_outcome}
use Rattle.stack_rules.specs.Requests.{next_giving}
use Rattle.stack_rules.specs.Sends.{first_of, first_in_ring, transmit_of, transmit_outcome, transmitted}
use Rattle.stack_rules.specs.Tests.{is_virtual, phase_is_running}
use Rattle.stack_rules.specs.Targets.{turned_back}
use Rattle.rule_basics.specs.Live.{Each}
use Rattle.place_laws.specs.Kept.{IsPlaced, HasOriginal, IsOriginal}
use Rattle.place_laws.specs.Listed.{IsListed}
use Rattle.hand_lemmas.proofs.Finds.{found_self}
use Rattle.hand_lemmas.proofs.Tells.{none_away}
use Rattle.book_lemmas.specs.Views.{BookView, hands_of}
use Rattle.book_lemmas.proofs.Between.{listed}
use Rattle.book_parts.specs.Events.{DidEvent}
use Rattle.miniport_work.specs.Works.{wired_as}
use Rattle.drain_work.specs.Drains.{IsResting, DrainsRing, given_rows}
use Rattle.drain_work.proofs.Passed.{between}
use Rattle.drain_work.proofs.FirstRows.{first_none, first_one, drained_rows}

not_true : (b : Bool) → (b ≡ true → ⊥) → b ≡ false
not_true true n = absurd (n refl)
not_true false n = refl

-- no clone of a list that the miniport keeps is live: its original would be kept by a filter
kept_by_filter : (f : ℕ) (s : Stand) (owner : ModuleId) → s ≡ stand.Kept owner → owner ≡ Filter f → is_kept_by Miniport s ≡ false
kept_by_filter f s owner e g = ap (is_kept_by Miniport) (e ∙ ap stand.Kept g)

clone_is : (n : ℕ) (o : Origin) → is_clone_of n o ≡ true → (k : ListNo) × (o ≡ origin.Clone k) × (k.0 ≡ n)
clone_is n origin.Root e = absurd cc
clone_is n (origin.Copy k) e = absurd cc
clone_is n (origin.Clone k) e = (k, refl, eqb-true k.0 n e)

no_clone : (net : Net) (l : LiveList) → list_of l.list.0 (lists net.things) ≡ Some l → is_kept_by Miniport l.stand ≡ true → (xs : List LiveList) → Each (HasOriginal net) xs → list_any (λ x. is_clone_of l.list.0 x.origin) xs ≡ false
no_clone net l found kept [] h = refl
no_clone net l found kept (x ∷ xs) h =
    ap (λ b. b || list_any (λ y. is_clone_of l.list.0 y.origin) xs) (not_true (is_clone_of l.list.0 x.origin) clash) ∙ no_clone net l found kept xs h.1
  where
    differ : (b : Bool) → b ≡ true → b ≡ false → ⊥
    differ true e f = cc
    differ false e f = cc

    clash : is_clone_of l.list.0 x.origin ≡ true → ⊥
    clash e =
        let c = clone_is l.list.0 x.origin e in
        let o : IsOriginal net.modules x l = h.0 c.0 l c.1 (ap (λ n. list_of n (lists net.things)) c.2 ∙ found) in
        differ (is_kept_by Miniport l.stand) kept (kept_by_filter o.filter.0 l.stand x.owner o.kept o.filter.1)

not_waiting : (net : Net) (l : LiveList) → IsListed net → is_virtual net.head.kind ≡ false → list_of l.list.0 (lists net.things) ≡ Some l → IsPlaced net l → is_kept_by Miniport l.stand ≡ true → is_waiting net l ≡ false
not_waiting net l k real found p kept =
    ap (λ b. b || has_clone net l.list.0) (not_true (is_crossed l.crossed) (λ e. clash (is_virtual net.head.kind) (p.crossed e).1 real))
    ∙ no_clone net l found kept (lists net.things) k.originals
  where
    clash : (b : Bool) → b ≡ true → b ≡ false → ⊥
    clash true e f = cc
    clash false e f = cc

ready_by : (net : Net) → IsListed net → is_virtual net.head.kind ≡ false → (xs : List LiveList) → Each (λ l. list_of l.list.0 (lists net.things) ≡ Some l) xs → Each (IsPlaced net) xs
    → filter (λ l. not (is_waiting net l)) (filter (λ l. is_kept_by Miniport l.stand) xs) ≡ filter (λ l. is_kept_by Miniport l.stand) xs
ready_by net k real [] found placed = refl
ready_by net k real (l ∷ ls) found placed = by (is_kept_by Miniport l.stand) refl (ready_by net k real ls found.1 placed.1)
  where
    by : (c : Bool) → is_kept_by Miniport l.stand ≡ c → filter (λ x. not (is_waiting net x)) (filter (λ x. is_kept_by Miniport x.stand) ls) ≡ filter (λ x. is_kept_by Miniport x.stand) ls
        → filter (λ x. not (is_waiting net x)) (cond c (l ∷ filter (λ x. is_kept_by Miniport x.stand) ls) (filter (λ x. is_kept_by Miniport x.stand) ls)) ≡ cond c (l ∷ filter (λ x. is_kept_by Miniport x.stand) ls) (filter (λ x. is_kept_by Miniport x.stand) ls)
    by true e more =
        ap (λ b. cond (not b) (l ∷ filter (λ x. not (is_waiting net x)) (filter (λ x. is_kept_by Miniport x.stand) ls)) (filter (λ x. not (is_waiting net x)) (filter (λ x. is_kept_by Miniport x.stand) ls))) (not_waiting net l k real found.0 placed.0 e)
        ∙ ap (λ xs. l ∷ xs) more
    by false e more = more

ring_ready : (net : Net) → IsListed net → is_virtual net.head.kind ≡ false → ready_lists net Miniport ≡ kept_lists net Miniport
ring_ready net k real = ready_by net k real (lists net.things) (found_self (lists net.things) k.numbered.apart) k.placed

-- so the ring is emptied as by a transmission
empties_as : (net : Net) (o : Option LiveList) → is_virtual net.head.kind ≡ false → empties net o ≡ (transmit_of net o).rows
empties_as net None real = refl
empties_as net (Some l) real = cond-false (is_virtual net.head.kind) (cond (phase_is_running net.phase) [] (turned_back net.modules l Miniport Paused)) (transmitted net l) real

ring_as : (net : Net) → IsListed net → is_virtual net.head.kind ≡ false → empties_ring net ≡ (transmit_outcome net).rows
ring_as net k real =
    ap (λ ls. empties net (first_of ls)) (ring_ready net k real)
    ∙ empties_as net (first_of (kept_lists net Miniport)) real
    ∙ ap (λ o. (transmit_of net o).rows) (sym (cond-false (is_virtual net.head.kind) None (first_of (kept_lists net Miniport)) real))

-- nothing would be moved by a pump
pub no_pump : (v : BookView) → IsResting v → next_giving v.tray.net ≡ None → is_pump_moving v.tray.net ≡ false
no_pump v r none =
    ap (λ o. is_some o || is_some (next_giving v.tray.net)) (none_away v.tray.net (hands_of v.tray.queue v.held []) r.book.stands.agrees r.quiet) ∙ ap (λ o. is_some o) none

pub drains_ring : (v : BookView) → IsResting v → next_giving v.tray.net ≡ None → is_virtual v.tray.net.head.kind ≡ false → given_rows v.tray.net ≡ [] → DrainsRing v
drains_ring v r requests real none =
    let net : Net = v.tray.net in
    let returned : List (List Row) = map (returns_all net) (binding_numbers net.head) in
    let passed : List (List Row) = map (passes_all net) net.modules.order in
    let ring : List (List Row) = empties_ring net ∷ [] in
    let rows : drain_rows net ≡ (transmit_outcome net).rows =
    ap first_rows (sym (append_assoc returned passed ring)) ∙ first_none (returned ++ passed) ring none ∙ first_one (empties_ring net) ∙ ring_as net (listed (between v r) r.live) real in
    record { outcome = λ keeps. cond-false (is_pump_moving net) (pump_outcome net keeps) (drained (drain_rows net)) (no_pump v r requests) ∙ ap drained rows }

-- a drain that transmits
abbrev pub moved_as : Option ListNo → Reply
moved_as None = reply.Idle
moved_as (Some n) = reply.Moved

reply_by : (net : Net) (o : Option LiveList) (wired : Option ListNo) → wired_as wired ≡ (transmit_of net o).reply → moved_as wired ≡ (drained (transmit_of net o).rows).reply
reply_by net None None e = refl
reply_by net None (Some n) e = absurd cc
reply_by net (Some l) None e = absurd cc
reply_by net (Some l) (Some n) e = refl

pub drained_as : (old new : BookView) (wired : Option ListNo) → DrainsRing old → DidEvent old new event.Transmit (wired_as wired) → DidEvent old new event.Drain (moved_as wired)
drained_as old new wired drains d = record {
  book = d.book;
  choice = d.choice;
  reply = reply_by old.tray.net (first_in_ring old.tray.net) wired d.reply ∙ ap (λ (o : Outcome). o.reply) (sym (drains.outcome d.choice.keeps));
  rows = d.rows ∙ drained_rows (transmit_outcome old.tray.net).rows ∙ ap (λ (o : Outcome). o.rows) (sym (drains.outcome d.choice.keeps));
  tells = d.tells;
  goes = d.goes;
  refused = tt;
  still = d.still;
}
