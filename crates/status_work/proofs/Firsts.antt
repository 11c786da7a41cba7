-- The status that is first on its way: it is the first item of the agenda, and it goes to a filter that sits at a place, or
-- to the bindings.
use Rattle.std.proofs.Common.{◌≡◌, ℕ, List, [], ◌∷◌, Some, None, IsSome, refl, sym, ap, ◌∙◌, subst}
use Rattle.ndis_base.specs.declared.ModuleId.TheVariants.{Miniport, Filter, Binding}
use Rattle.journal_types.specs.declared.Target.TheVariants.{Module}
use Rattle.stack_rules.specs.declared.Attached.{Attached}
use Rattle.stack_rules.specs.declared.StatusAway.{StatusAway}
use Rattle.stack_rules.specs.declared.Thing.TheVariants as thing
use Rattle.stack_rules.specs.Places.{agenda_first}
use Rattle.state_laws.proofs.Takes.{attached-is}
use Rattle.status_laws.specs.Handlers.{GoesToHandler}
use Rattle.status_laws.proofs.Handlers.{first_goes, is_attached}
use Rattle.agenda_items.specs.declared.Carried.{Carried}
use Rattle.agenda_items.specs.declared.Carried.TheVariants.{List as a_list, Status as a_status, Answer as an_answer}
use Rattle.hand_lemmas.proofs.Tells.{next_status}
use Rattle.driver_tray.specs.Tray.{first_status}
use Rattle.book_lemmas.specs.Stands.{IsSeated}
use Rattle.book_lemmas.specs.Views.{BookView, filter_at, seat_of, hands_of}
use Rattle.book_parts.specs.Events.{IsBook, IsIdle}
use Rattle.book_parts.proofs.Ended.{idle_state}

-- it stands first in the queue
record Starts (queue : List Carried) (s : StatusAway) : Type 0 where
  rest : List Carried
  is : queue ≡ a_status s ∷ rest

starts : (queue : List Carried) (s : StatusAway) → first_status queue ≡ Some s → Starts queue s
starts [] s e = cc
starts (a_status x ∷ rest) s e = let same : x ≡ s = cc in record { rest = rest; is = ap (λ y. a_status y ∷ rest) same }
starts (a_list l way to ∷ rest) s e = cc
starts (an_answer a ∷ rest) s e = cc

pub first_away : (old : BookView) (s : StatusAway) → IsBook old → first_status old.tray.queue ≡ Some s → agenda_first old.tray.net ≡ Some (thing.Status s)
first_away old s k e = let q = starts old.tray.queue s e in next_status old.tray.net (hands_of old.tray.queue old.held []) s q.rest k.stands.agrees q.is

-- where it goes
goes : (old : BookView) (s : StatusAway) → IsBook old → IsIdle old → first_status old.tray.queue ≡ Some s → GoesToHandler old.tray.net.modules s.to
goes old s k i e = first_goes old.tray.head old.tray.turns old.tray.net (idle_state old k i) k.follows.sound s (first_away old s k e)

pub not_miniport : (old : BookView) (s : StatusAway) → IsBook old → IsIdle old → first_status old.tray.queue ≡ Some s → s.to ≡ Module Miniport → ⊥
not_miniport old s k i e to = subst (GoesToHandler old.tray.net.modules) to (goes old s k i e)

pub not_binding : (old : BookView) (s : StatusAway) (b : ℕ) → IsBook old → IsIdle old → first_status old.tray.queue ≡ Some s → s.to ≡ Module (Binding b) → ⊥
not_binding old s b k i e to = subst (GoesToHandler old.tray.net.modules) to (goes old s k i e)

-- the filter that it goes to
record IsThere (old : BookView) (f : ℕ) : Type 0 where
  a : Attached
  number : a.filter ≡ f
  seated : IsSeated old.held a

there : (old : BookView) (s : StatusAway) (f : ℕ) → IsBook old → IsIdle old → first_status old.tray.queue ≡ Some s → s.to ≡ Module (Filter f) → IsThere old f
there old s f k i e to =
    let at = is_attached old.tray.net.modules f (subst (GoesToHandler old.tray.net.modules) to (goes old s k i e)) in
    record { a = at.0; number = attached-is f old.tray.net.modules.filters at.0 at.1; seated = k.stands.seated f at.0 at.1 }

-- it has a place, where a driver stands that is set up
pub has_seat : (old : BookView) (s : StatusAway) (f : ℕ) → IsBook old → IsIdle old → first_status old.tray.queue ≡ Some s → s.to ≡ Module (Filter f) → seat_of old.held.seats f ≡ None → ⊥
has_seat old s f k i e to none =
    let t = there old s f k i e to in
    let some : seat_of old.held.seats f ≡ Some t.seated.place = ap (seat_of old.held.seats) (sym t.number) ∙ t.seated.seat in
    cc (none, some)

same_some : (p q : ℕ) → Some p ≡ Some q → p ≡ q
same_some p q e = cc

pub set_up : (old : BookView) (s : StatusAway) (f place : ℕ) → IsBook old → IsIdle old → first_status old.tray.queue ≡ Some s → s.to ≡ Module (Filter f) → seat_of old.held.seats f ≡ Some place
    → IsSome (filter_at old.held.filters (Some place)).setup
set_up old s f place k i e to seat =
    let t = there old s f k i e to in
    let some : seat_of old.held.seats f ≡ Some t.seated.place = ap (seat_of old.held.seats) (sym t.number) ∙ t.seated.seat in
    let same : t.seated.place ≡ place = same_some t.seated.place place (sym some ∙ seat) in
    subst IsSome (sym (ap (λ q. (filter_at old.held.filters (Some q)).setup) (sym same) ∙ t.seated.setup)) refl
