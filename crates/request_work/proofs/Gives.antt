-- The request that is given next: nothing is on its way, and the filter that it is given to sits at a place.
use Rattle.std.proofs.Common.{◌≡◌, ℕ, List, [], ◌∷◌, Some, None, IsSome, refl, sym, ap, ◌∙◌, subst}
use Rattle.ndis_base.specs.declared.ModuleId.TheVariants.{Filter}
use Rattle.stack_rules.specs.declared.Attached.{Attached}
use Rattle.stack_rules.specs.declared.Request.{Request}
use Rattle.stack_rules.specs.Net.{attached}
use Rattle.stack_rules.specs.Places.{agenda_first}
use Rattle.stack_rules.specs.Requests.{next_giving}
use Rattle.state_laws.proofs.Takes.{attached-is}
use Rattle.attached_laws.proofs.Works.{GivesHere, gives_here}
use Rattle.agenda_items.specs.declared.Carried.{Carried}
use Rattle.agenda_items.specs.declared.Carried.TheVariants.{List as a_list, Status as a_status, Answer as an_answer}
use Rattle.hand_lemmas.proofs.Tells.{none_away}
use Rattle.driver_tray.specs.Tray.{first_way}
use Rattle.book_lemmas.specs.Stands.{IsSeated}
use Rattle.book_lemmas.specs.Views.{BookView, filter_at, seat_of, hands_of}
use Rattle.book_parts.specs.Events.{IsBook}

-- nothing is on its way
nothing : (queue : List Carried) → first_way queue ≡ None → queue ≡ []
nothing [] e = refl
nothing (a_list l way to ∷ rest) e = cc
nothing (a_status s ∷ rest) e = cc
nothing (an_answer a ∷ rest) e = cc

pub first_is : (old : BookView) → IsBook old → first_way old.tray.queue ≡ None → agenda_first old.tray.net ≡ None
first_is old k e = none_away old.tray.net (hands_of old.tray.queue old.held []) k.stands.agrees (nothing old.tray.queue e)

-- a filter is given this request
abbrev pub GivesTo : BookView → Request → ℕ → Type 0
GivesTo old r f = next_giving old.tray.net ≡ Some (record { request = r; module_id = Filter f })

-- it is attached
record IsThere (old : BookView) (f : ℕ) : Type 0 where
  a : Attached
  number : a.filter ≡ f
  seated : IsSeated old.held a

there : (old : BookView) (r : Request) (f : ℕ) → IsBook old → GivesTo old r f → IsThere old f
there old r f k e =
    let at : (a : Attached) × (attached f old.tray.net.modules.filters ≡ Some a) = subst (GivesHere old.tray.net) e (gives_here old.tray.net) in
    record { a = at.0; number = attached-is f old.tray.net.modules.filters at.0 at.1; seated = k.stands.seated f at.0 at.1 }

-- it has a place, where a driver stands that is set up
pub has_seat : (old : BookView) (r : Request) (f : ℕ) → IsBook old → GivesTo old r f → seat_of old.held.seats f ≡ None → ⊥
has_seat old r f k e none =
    let t = there old r f k e in
    let some : seat_of old.held.seats f ≡ Some t.seated.place = ap (seat_of old.held.seats) (sym t.number) ∙ t.seated.seat in
    cc (none, some)

same_some : (p q : ℕ) → Some p ≡ Some q → p ≡ q
same_some p q e = cc

pub set_up : (old : BookView) (r : Request) (f place : ℕ) → IsBook old → GivesTo old r f → seat_of old.held.seats f ≡ Some place → IsSome (filter_at old.held.filters (Some place)).setup
set_up old r f place k e seat =
    let t = there old r f k e in
    let some : seat_of old.held.seats f ≡ Some t.seated.place = ap (seat_of old.held.seats) (sym t.number) ∙ t.seated.seat in
    let same : t.seated.place ≡ place = same_some t.seated.place place (sym some ∙ seat) in
    subst IsSome (sym (ap (λ q. (filter_at old.held.filters (Some q)).setup) (sym same) ∙ t.seated.setup)) refl
