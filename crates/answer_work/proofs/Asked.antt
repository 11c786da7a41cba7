-- What the laws say of requests and their answers between turns: the answer that is first on its way goes to a filter that
-- sits at a place and has the request, and the request that is next for the miniport is there while the miniport is set up.
use Rattle.std.proofs.Common.{◌≡◌, ◌≢◌, ℕ, List, [], ◌∷◌, Some, None, IsSome, refl, sym, ap, ◌∙◌, subst}
use Rattle.ndis_base.specs.declared.ModuleId.TheVariants.{Miniport, Filter, Binding}
use Rattle.ndis_base.specs.declared.Phase.TheVariants as phase
use Rattle.journal_types.specs.declared.StackHead.{StackHead}
use Rattle.journal_types.specs.declared.Turn.{Turn}
use Rattle.stack_rules.specs.declared.Answered.{Answered}
use Rattle.stack_rules.specs.declared.Attached.{Attached}
use Rattle.stack_rules.specs.declared.Request.{Request}
use Rattle.stack_rules.specs.declared.RequestAt.{RequestAt}
use Rattle.stack_rules.specs.declared.RequestAt.TheVariants as at
use Rattle.stack_rules.specs.declared.Thing.TheVariants as thing
use Rattle.stack_rules.specs.Net.{Net, seen, start, after_turn, after_turns, request_of}
use Rattle.stack_rules.specs.Places.{agenda_first, is_away}
use Rattle.stack_rules.specs.Requests.{next_giving}
use Rattle.stack_rules.specs.Sound.{Sound, SoundFrom}
use Rattle.state_laws.specs.Shape.{IsShaped}
use Rattle.state_laws.proofs.Events.{shaped_start}
use Rattle.state_laws.proofs.Takes.{attached-is}
use Rattle.request_laws.proofs.Answers.{answer_found}
use Rattle.request_laws.proofs.Asked.{HasHolder}
use Rattle.request_laws.proofs.Finds.{found_by_number}
use Rattle.request_laws.proofs.Givings.{GivesNext, gives_next}
use Rattle.request_laws.proofs.Rows.{found_in, IsKept, kept_start}
use Rattle.completion_laws.proofs.Events.{kept_turn, shaped_turn}
use Rattle.agenda_items.specs.declared.Carried.{Carried}
use Rattle.agenda_items.specs.declared.Carried.TheVariants.{List as a_list, Status as a_status, Answer as an_answer}
use Rattle.hand_lemmas.proofs.Tells.{next_answer, none_away}
use Rattle.driver_tray.specs.Tray.{first_way, first_answer}
use Rattle.driver_tray.specs.declared.on_way.First.TheVariants as first
use Rattle.book_lemmas.specs.Stands.{IsSeated}
use Rattle.book_lemmas.specs.Views.{BookView, filter_at, seat_of, hands_of}
use Rattle.book_lemmas.proofs.Between.{not_halted, listed}
use Rattle.book_parts.specs.Events.{IsBook, IsIdle}
use Rattle.book_parts.proofs.Ended.{idle_state}
use Rattle.miniport_work.proofs.Firsts.{port_is, is_some}
use Rattle.binding_work.proofs.Sending.{between}
use Rattle.answer_work.specs.Works.{holder_in}

kept_turns : (net : Net) (turns : List Turn) → IsShaped net → IsKept net → SoundFrom net turns → IsKept (after_turns net turns)
kept_turns net [] s k h = k
kept_turns net (turn ∷ turns) s k h = kept_turns (after_turn net turn) turns (shaped_turn net turn s h.0) (kept_turn net turn s k h.0) h.1

kept_journal : (head : StackHead) (turns : List Turn) → Sound head turns → IsKept (seen head turns)
kept_journal head turns h = kept_turns (start head) turns (shaped_start head) (kept_start head) h

kept : (old : BookView) → IsBook old → IsIdle old → IsKept old.tray.net
kept old k i = subst IsKept (sym (idle_state old k i)) (kept_journal old.tray.head old.tray.turns k.follows.sound)

-- The answer that is first on its way.

record Starts (queue : List Carried) (a : Answered) : Type 0 where
  rest : List Carried
  is : queue ≡ an_answer a ∷ rest

starts : (queue : List Carried) (a : Answered) → first_answer queue ≡ Some a → Starts queue a
starts [] a e = cc
starts (an_answer x ∷ rest) a e = let same : x ≡ a = cc in record { rest = rest; is = ap (λ y. an_answer y ∷ rest) same }
starts (a_list l way to ∷ rest) a e = cc
starts (a_status s ∷ rest) a e = cc

pub has_first : (queue : List Carried) → first_way queue ≡ Some first.Answer → first_answer queue ≡ None → ⊥
has_first [] e none = cc
has_first (an_answer x ∷ rest) e none = cc
has_first (a_list l way to ∷ rest) e none = cc
has_first (a_status s ∷ rest) e none = cc

pub first_away : (old : BookView) (a : Answered) → IsBook old → first_answer old.tray.queue ≡ Some a → agenda_first old.tray.net ≡ Some (thing.Answer a)
first_away old a k e = let q = starts old.tray.queue a e in next_answer old.tray.net (hands_of old.tray.queue old.held []) a q.rest k.stands.agrees q.is

holder : (old : BookView) (a : Answered) → IsBook old → IsIdle old → first_answer old.tray.queue ≡ Some a → HasHolder old.tray.net.modules.order (found_in old.tray.net) a.parent.0
holder old a k i e = answer_found (λ x. HasHolder old.tray.net.modules.order (found_in old.tray.net) x.parent.0) is_away old.tray.net.things a (kept old k i).asked.held (first_away old a k e)

-- the request that it answers is there, at a filter
pub has_parent : (old : BookView) (a : Answered) → IsBook old → IsIdle old → first_answer old.tray.queue ≡ Some a → request_of a.parent.0 old.tray.net.requests ≡ None → ⊥
has_parent old a k i e none = let h = holder old a k i e in let some = h.1.here in cc (none, some)

same_request : (r q : Request) → Some r ≡ Some q → r ≡ q
same_request r q e = cc

at_holder : (old : BookView) (a : Answered) (r : Request) (k : IsBook old) (i : IsIdle old) (e : first_answer old.tray.queue ≡ Some a) → request_of a.parent.0 old.tray.net.requests ≡ Some r → r.at ≡ at.Given (Filter (holder old a k i e).0)
at_holder old a r k i e found =
    let h = holder old a k i e in
    ap (λ (q : Request). q.at) (same_request r h.1.request (sym found ∙ h.1.here)) ∙ h.1.at

pub has_holder : (old : BookView) (a : Answered) (r : Request) → IsBook old → IsIdle old → first_answer old.tray.queue ≡ Some a → request_of a.parent.0 old.tray.net.requests ≡ Some r → holder_in r.at ≡ None → ⊥
has_holder old a r k i e found none = let some = ap holder_in (at_holder old a r k i e found) in cc (none, some)

pub given_is : (p : RequestAt) (f : ℕ) → holder_in p ≡ Some f → p ≡ at.Given (Filter f)
given_is at.Entry f e = cc
given_is (at.Waiting m) f e = cc
given_is (at.Given Miniport) f e = cc
given_is (at.Given (Filter g)) f e = ap (λ x. at.Given (Filter x)) (let same : g ≡ f = cc in same)
given_is (at.Given (Binding b)) f e = cc

-- that filter sits at a place
record IsThere (old : BookView) (f : ℕ) : Type 0 where
  a : Attached
  number : a.filter ≡ f
  seated : IsSeated old.held a

same_holder : (f g : ℕ) → Some f ≡ Some g → f ≡ g
same_holder f g e = cc

there : (old : BookView) (a : Answered) (r : Request) (f : ℕ) → IsBook old → IsIdle old → first_answer old.tray.queue ≡ Some a → request_of a.parent.0 old.tray.net.requests ≡ Some r → holder_in r.at ≡ Some f → IsThere old f
there old a r f k i e found at =
    let h = holder old a k i e in
    let same : h.0 ≡ f = same_holder h.0 f (sym (ap holder_in (at_holder old a r k i e found)) ∙ at) in
    let b = between old k i in
    let o = (listed b (not_halted b (thing.Answer a) (first_away old a k e))).ordered.attached h.0 h.1.there in
    record { a = o.0; number = attached-is h.0 old.tray.net.modules.filters o.0 o.1 ∙ same; seated = k.stands.seated h.0 o.0 o.1 }

pub has_seat : (old : BookView) (a : Answered) (r : Request) (f : ℕ) → IsBook old → IsIdle old → first_answer old.tray.queue ≡ Some a → request_of a.parent.0 old.tray.net.requests ≡ Some r → holder_in r.at ≡ Some f → seat_of old.held.seats f ≡ None → ⊥
has_seat old a r f k i e found at none =
    let t = there old a r f k i e found at in
    let some : seat_of old.held.seats f ≡ Some t.seated.place = ap (seat_of old.held.seats) (sym t.number) ∙ t.seated.seat in
    cc (none, some)

-- where its driver is set up
pub set_up : (old : BookView) (a : Answered) (r : Request) (f place : ℕ) → IsBook old → IsIdle old → first_answer old.tray.queue ≡ Some a → request_of a.parent.0 old.tray.net.requests ≡ Some r → holder_in r.at ≡ Some f → seat_of old.held.seats f ≡ Some place
    → IsSome (filter_at old.held.filters (Some place)).setup
set_up old a r f place k i e found at seat =
    let t = there old a r f k i e found at in
    let some : seat_of old.held.seats f ≡ Some t.seated.place = ap (seat_of old.held.seats) (sym t.number) ∙ t.seated.seat in
    let same : t.seated.place ≡ place = same_holder t.seated.place place (sym some ∙ seat) in
    is_some (ap (λ q. (filter_at old.held.filters (Some q)).setup) (sym same) ∙ t.seated.setup)

-- The request that the miniport is given next.

no_queue : (queue : List Carried) → first_way queue ≡ None → queue ≡ []
no_queue [] e = refl
no_queue (an_answer x ∷ rest) e = cc
no_queue (a_list l way to ∷ rest) e = cc
no_queue (a_status s ∷ rest) e = cc

pub nothing_away : (old : BookView) → IsBook old → first_way old.tray.queue ≡ None → agenda_first old.tray.net ≡ None
nothing_away old k e = none_away old.tray.net (hands_of old.tray.queue old.held []) k.stands.agrees (no_queue old.tray.queue e)

pub next_found : (old : BookView) (r : Request) → IsBook old → IsIdle old → next_giving old.tray.net ≡ Some (record { request = r; module_id = Miniport }) → request_of r.request.0 old.tray.net.requests ≡ Some r
next_found old r k i e =
    let g : GivesNext old.tray.net (record { request = r; module_id = Miniport }) = gives_next old.tray.net _ e in
    found_by_number g.test old.tray.net.requests r (kept old k i).apart g.found

asks_not_halted : (old : BookView) (r : Request) → IsBook old → IsIdle old → request_of r.request.0 old.tray.net.requests ≡ Some r → old.tray.net.phase ≢ phase.Halted
asks_not_halted old r k i found halted =
    let none : request_of r.request.0 old.tray.net.requests ≡ None = ap (request_of r.request.0) ((kept old k i).halted halted) in
    cc (none, found)

pub port_up : (old : BookView) (r : Request) → IsBook old → IsIdle old → next_giving old.tray.net ≡ Some (record { request = r; module_id = Miniport }) → IsSome old.held.miniport.port
port_up old r k i e = is_some (port_is old k (asks_not_halted old r k i (next_found old r k i e)))
