-- A drain where nothing is on its way.
use Rattle.std.proofs.Common.{◌≡◌, ℕ, Bool, true, false, cond, List, [], ◌∷◌, ◌++◌, ◌||◌, not, None, is_some, filter, map, refl, sym, ap, ◌∙◌, subst, append_assoc}
use Rattle.std.proofs.lemmas.Bool.{cond-false}
use Rattle.ndis_base.specs.declared.ModuleId.{ModuleId}
use Rattle.ndis_base.specs.declared.ModuleId.TheVariants.{Miniport, Filter, Binding}
use Rattle.ndis_base.specs.declared.Phase.TheVariants as phase
use Rattle.journal_types.specs.declared.Event.TheVariants as event
use Rattle.journal_types.specs.declared.Reply.TheVariants as reply
use Rattle.journal_types.specs.declared.Row.{Row}
use Rattle.stack_rules.specs.declared.Choice.{Choice}
use Rattle.stack_rules.specs.Drains.{returns_all, returned_by, passes_all, passed_by, empties, empties_ring, first_rows, drain_rows, drained, drain_outcome}
use Rattle.stack_rules.specs.Heads.{binding_numbers, kind_of_binding}
use Rattle.stack_rules.specs.Cancels.{is_hold_filter}
use Rattle.stack_rules.specs.Net.{Net, seen, lists}
use Rattle.stack_rules.specs.Places.{is_kept_by, is_waiting, ready_lists}
use Rattle.stack_rules.specs.Outcome.{Outcome}
use Rattle.stack_rules.specs.Pumps.{is_pump_moving, pump_outcome}
use Rattle.stack_rules.specs.Requests.{next_giving}
use Rattle.stack_rules.specs.Sends.{first_of}
use Rattle.stack_rules.specs.Tests.{is_retain}
use Rattle.hand_lemmas.proofs.Tells.{none_away}
use Rattle.book_lemmas.specs.Views.{BookView, HeldView, hands_of}
use Rattle.work_laws.proofs.Halted.{HasNothing, nothing_while_halted}
use Rattle.book_parts.specs.Events.{IsBook, IsIdle, DidEvent}
use Rattle.book_parts.proofs.Ended.{idle_state}
use Rattle.book_parts.proofs.Events.{Ends, did_event, ends_still}
use Rattle.drain_work.specs.Drains.{IsResting, IsSame, Gave, Gives, returned_from, passed_from, given_rows}
use Rattle.drain_work.proofs.FirstRows.{first_none, first_some, drained_reply, drained_rows}
use Rattle.drain_work.proofs.Rings.{no_pump}
use Rattle.drain_work.proofs.Sames.{book_is, gives_then, gives_rows}

-- no driver chooses anything in such a drain
abbrev pub no_choice : Choice
no_choice = record { keeps = false; refuses = false; shelf_empty = false }

-- first the bindings, then the filters
pub given_first : (old new : BookView) → Gives old new (returned_from old.tray.net 0) true → Gives old new (given_rows old.tray.net) true
given_first old new g = gives_rows (sym (first_some (map (returns_all old.tray.net) (binding_numbers old.tray.net.head)) (map (passes_all old.tray.net) old.tray.net.modules.order) (g.gave refl).some)) g

pub given_later : (old mid new : BookView) (moved : Bool) → Gives old mid (returned_from old.tray.net 0) false → Gives mid new (passed_from mid.tray.net 0) moved → Gives old new (given_rows old.tray.net) moved
given_later old mid new moved first more =
    let s : IsSame old mid = first.still refl in
    let e : passed_from mid.tray.net 0 ≡ given_rows old.tray.net =
    ap (λ (n : Net). passed_from n 0) s.tray.net
    ∙ sym (first_none (map (returns_all old.tray.net) (binding_numbers old.tray.net.head)) (map (passes_all old.tray.net) old.tray.net.modules.order) (first.none refl)) in
    gives_rows e (gives_then s more)

-- rows of these are those of the drain
pub given_drained : (old new : BookView) → IsResting old → next_giving old.tray.net ≡ None → Gave old new (given_rows old.tray.net) → DidEvent old new event.Drain reply.Moved
given_drained old new r requests g =
    let net : Net = old.tray.net in
    let returned : List (List Row) = map (returns_all net) (binding_numbers net.head) in
    let passed : List (List Row) = map (passes_all net) net.modules.order in
    let rows : drain_rows net ≡ given_rows net = ap first_rows (sym (append_assoc returned passed (empties_ring net ∷ []))) ∙ first_some (returned ++ passed) (empties_ring net ∷ []) g.some in
    let is : drain_outcome net false ≡ drained (given_rows net) = cond-false (is_pump_moving net) (pump_outcome net false) (drained (drain_rows net)) (no_pump old r requests) ∙ ap drained rows in
    did_event old new (given_rows net) event.Drain no_choice reply.Moved r.book r.idle g.ends
    (drained_reply (given_rows net) g.some ∙ ap (λ (o : Outcome). o.reply) (sym is)) (drained_rows (given_rows net) ∙ ap (λ (o : Outcome). o.rows) (sym is)) refl tt (g.shelf, g.seats)

-- in a stack that is Halted nothing is kept
all_none : (f : ℕ → List Row) → ((n : ℕ) → f n ≡ []) → (ns : List ℕ) (more : List (List Row)) → first_rows (map f ns ++ more) ≡ first_rows more
all_none f none [] more = refl
all_none f none (n ∷ ns) more = ap (λ rs. first_rows (rs ∷ (map f ns ++ more))) (none n) ∙ all_none f none ns more

either : (b : Bool) (xs : List Row) → xs ≡ [] → cond b xs [] ≡ []
either true xs e = e
either false xs e = refl

halted_rows : (net : Net) → net.things ≡ [] → drain_rows net ≡ []
halted_rows net none =
    all_none (returns_all net) (λ i. either (is_retain (kind_of_binding net.head i)) (map (returned_by net) (ready_lists net (Binding i))) (ap (map (returned_by net)) (no_ready (Binding i)))) (binding_numbers net.head) (map (passes_all net) net.modules.order ++ empties_ring net ∷ [])
    ∙ all_none (passes_all net) (λ f. either (is_hold_filter net.modules f) (map (passed_by net f) (ready_lists net (Filter f))) (ap (map (passed_by net f)) (no_ready (Filter f)))) net.modules.order (empties_ring net ∷ [])
    ∙ ap (λ ls. first_rows (empties net (first_of ls) ∷ [])) (no_ready Miniport)
  where
    no_ready : (m : ModuleId) → ready_lists net m ≡ []
    no_ready m = ap (λ ts. filter (λ l. not (is_waiting net l)) (filter (λ l. is_kept_by m l.stand) (lists ts))) none

pub halted_drained : (old new : BookView) → IsBook old → IsIdle old → old.tray.queue ≡ [] → next_giving old.tray.net ≡ None → old.tray.net.phase ≡ phase.Halted → IsSame old new → DidEvent old new event.Drain reply.Idle
halted_drained old new k i quiet requests halted s =
    let net : Net = old.tray.net in
    let there : HasNothing (seen old.tray.head old.tray.turns) = nothing_while_halted old.tray.head old.tray.turns k.follows.sound (sym (ap (λ (n : Net). n.phase) (idle_state old k i)) ∙ halted) in
    let rows : drain_rows net ≡ [] = halted_rows net (ap (λ (n : Net). n.things) (idle_state old k i) ∙ there.things) in
    let still : is_pump_moving net ≡ false =
    ap (λ o. is_some o || is_some (next_giving net)) (none_away net (hands_of old.tray.queue old.held []) k.stands.agrees quiet) ∙ ap (λ o. is_some o) requests in
    let is : drain_outcome net false ≡ drained [] = cond-false (is_pump_moving net) (pump_outcome net false) (drained (drain_rows net)) still ∙ ap drained rows in
    let ends : Ends old new [] = subst (λ (v : BookView). Ends old v []) (book_is refl s.held) (ends_still new.tray k s.tray) in
    did_event old new [] event.Drain no_choice reply.Idle k i ends (ap (λ (o : Outcome). o.reply) (sym is)) (ap (λ (o : Outcome). o.rows) (sym is)) refl tt (ap (λ (h : HeldView). h.shelf) s.held, ap (λ (h : HeldView). h.seats) s.held)
