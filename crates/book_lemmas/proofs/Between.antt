-- What the laws over sound journals tell of the first thing on its way, between turns.
use Rattle.std.proofs.Common.{◌≡◌, ◌≢◌, ℕ, true, false, List, [], Option, Some, None, find, length, replicate, refl, sym, ap, ◌∙◌, subst}
use Rattle.std.proofs.lemmas.List.{length-replicate}
use Rattle.ndis_base.specs.declared.ListStatus.{ListStatus}
use Rattle.ndis_base.specs.declared.ModuleId.{ModuleId}
use Rattle.ndis_base.specs.declared.ModuleId.TheVariants.{Miniport, Filter, Binding}
use Rattle.ndis_base.specs.declared.Phase.TheVariants as phase
use Rattle.journal_types.specs.declared.StackHead.{StackHead}
use Rattle.journal_types.specs.declared.Turn.{Turn}
use Rattle.journal_types.specs.declared.PassWay.TheVariants as way
use Rattle.journal_types.specs.declared.Target.{Target}
use Rattle.journal_types.specs.declared.Target.TheVariants.{Module, Bindings}
use Rattle.stack_rules.specs.declared.Attached.{Attached}
use Rattle.stack_rules.specs.declared.LiveList.{LiveList}
use Rattle.stack_rules.specs.declared.Stand.TheVariants as stand
use Rattle.stack_rules.specs.declared.Thing.{Thing}
use Rattle.stack_rules.specs.declared.Thing.TheVariants as thing
use Rattle.stack_rules.specs.Tests.{is_down}
use Rattle.stack_rules.specs.Net.{Net, seen, attached}
use Rattle.stack_rules.specs.Places.{agenda_first, is_away}
use Rattle.stack_rules.specs.Rewires.{is_in}
use Rattle.book_lemmas.specs.Between.{IsBetween}
use Rattle.ndis_base.specs.declared.Phase.{Phase}
use Rattle.ndis_base.specs.declared.ModuleState.{ModuleState}
use Rattle.ndis_base.specs.declared.ModuleState.TheVariants as state
use Rattle.state_laws.specs.Shape.{IsShaped}
use Rattle.state_laws.proofs.Events.{at_phase, shaped_journal}
use Rattle.place_laws.specs.Kept.{IsPlaced, StandsPlaced, StopsBelow, StopsAbove}
use Rattle.place_laws.specs.Listed.{IsListed}
use Rattle.place_laws.proofs.Turns.{lists_stand}
use Rattle.pause_laws.proofs.Works.{each_away}
use Rattle.work_laws.proofs.Halted.{HasNothing, nothing_while_halted}

nothing_first : (net : Net) (t : Thing) → net.things ≡ [] → agenda_first net ≡ Some t → ⊥
nothing_first net t none some = clash (find is_away net.things) t (ap (find is_away) none) some
  where
    clash : (o : Option Thing) (t : Thing) → o ≡ None → o ≡ Some t → ⊥
    clash o t e f = cc

-- where something is on its way the stack isn't Halted, so its drivers are set up
pub not_halted : {head : StackHead} {turns : List Turn} {net : Net} → IsBetween head turns net → (t : Thing) → agenda_first net ≡ Some t → net.phase ≢ phase.Halted
not_halted {head} {turns} {net} b t some halted =
    let there : HasNothing (seen head turns) = nothing_while_halted head turns b.sound (sym (ap (λ (n : Net). n.phase) b.is) ∙ halted) in
    nothing_first net t (ap (λ (n : Net). n.things) b.is ∙ there.things) some

pub listed : {head : StackHead} {turns : List Turn} {net : Net} → IsBetween head turns net → net.phase ≢ phase.Halted → IsListed net
listed {head} {turns} {net} b other =
    subst IsListed (sym b.is) (lists_stand head turns b.sound b.bound (λ e. other (ap (λ (n : Net). n.phase) b.is ∙ e)))

-- the first list on its way stands where it may
pub first_placed : {head : StackHead} {turns : List Turn} {net : Net} → IsBetween head turns net → (x : LiveList) → agenda_first net ≡ Some (thing.List x) → IsPlaced net x
first_placed {head} {turns} {net} b x some = each_away (IsPlaced net) net.things x (listed b (not_halted b (thing.List x) some)).placed some

-- a filter of the order is attached
pub record IsAtFilter (net : Net) (f : ℕ) : Type 0 where
  pub a : Attached
  pub there : attached f net.modules.filters ≡ Some a
  pub number : a.filter ≡ f
  pub inside : is_in f net.modules.order ≡ true

at_filter : {head : StackHead} {turns : List Turn} {net : Net} → IsBetween head turns net → net.phase ≢ phase.Halted → (f : ℕ) → is_in f net.modules.order ≡ true → IsAtFilter net f
at_filter b other f inside = let o = (listed b other).ordered.attached f inside in record { a = o.0; there = o.1; number = o.2; inside = inside }

-- where a list on its way down goes: to the miniport, or to a filter that is attached
pub data GoesDown (net : Net) (x : LiveList) : Target → Type 0 where
  to_miniport : is_down x.direction ≡ true → GoesDown net x (Module Miniport)
  to_filter : (f : ℕ) → is_down x.direction ≡ true → IsAtFilter net f → GoesDown net x (Module (Filter f))

down_by : (net : Net) (x : LiveList) (to : Target) → ((f : ℕ) → is_in f net.modules.order ≡ true → IsAtFilter net f) → StandsPlaced net.modules x (stand.Passed way.Down to) → GoesDown net x to
down_by net x (Module Miniport) attach s = to_miniport s
down_by net x (Module (Filter f)) attach s = to_filter f s.0 (attach f s.1)
down_by net x (Module (Binding b)) attach s = absurd s
down_by net x Bindings attach s = absurd s

pub goes_down : {head : StackHead} {turns : List Turn} {net : Net} → IsBetween head turns net → (x : LiveList) (to : Target) → agenda_first net ≡ Some (thing.List x) → x.stand ≡ stand.Passed way.Down to → GoesDown net x to
goes_down {head} {turns} {net} b x to some e =
    down_by net x to (at_filter b (not_halted b (thing.List x) some)) (subst (StandsPlaced net.modules x) e (first_placed b x some).stands)

-- where a list on its way up goes: to a filter that is attached, or to the bindings
pub data GoesUp (net : Net) (x : LiveList) : Target → Type 0 where
  to_bindings : is_down x.direction ≡ false → GoesUp net x Bindings
  up_filter : (f : ℕ) → is_down x.direction ≡ false → IsAtFilter net f → GoesUp net x (Module (Filter f))

up_by : (net : Net) (x : LiveList) (to : Target) → ((f : ℕ) → is_in f net.modules.order ≡ true → IsAtFilter net f) → StandsPlaced net.modules x (stand.Passed way.Up to) → GoesUp net x to
up_by net x Bindings attach s = to_bindings s
up_by net x (Module (Filter f)) attach s = up_filter f s.0 (attach f s.1)
up_by net x (Module Miniport) attach s = absurd s
up_by net x (Module (Binding b)) attach s = absurd s

pub goes_up : {head : StackHead} {turns : List Turn} {net : Net} → IsBetween head turns net → (x : LiveList) (to : Target) → agenda_first net ≡ Some (thing.List x) → x.stand ≡ stand.Passed way.Up to → GoesUp net x to
goes_up {head} {turns} {net} b x to some e =
    up_by net x to (at_filter b (not_halted b (thing.List x) some)) (subst (StandsPlaced net.modules x) e (first_placed b x some).stands)

-- a list that is done is a send, and goes to its owner or to a module below it; a returned one is a receive
pub goes_done : {head : StackHead} {turns : List Turn} {net : Net} → IsBetween head turns net → (x : LiveList) (m : ModuleId) (status : ListStatus) → agenda_first net ≡ Some (thing.List x)
    → x.stand ≡ stand.Passed (way.Done status) (Module m) → (is_down x.direction ≡ true) × StopsBelow net.modules x.owner m
goes_done {head} {turns} {net} b x m status some e = subst (StandsPlaced net.modules x) e (first_placed b x some).stands

pub goes_back : {head : StackHead} {turns : List Turn} {net : Net} → IsBetween head turns net → (x : LiveList) (m : ModuleId) (status : ListStatus) → agenda_first net ≡ Some (thing.List x)
    → x.stand ≡ stand.Passed (way.Back status) (Module m) → (is_down x.direction ≡ false) × StopsAbove net.modules x.owner m
goes_back {head} {turns} {net} b x m status some e = subst (StandsPlaced net.modules x) e (first_placed b x some).stands

-- between turns a stack has as many bindings as its head names
bindings_at : (net : Net) (s : IsShaped net) (p : Phase) → net.phase ≡ p → (st : ModuleState) × (net.modules.bindings ≡ replicate (length net.head.bindings) st)
bindings_at net s phase.Halted e = (state.Unbound, (at_phase net phase.Halted s e).0.bindings)
bindings_at net s phase.Paused e = (state.Paused, (at_phase net phase.Paused s e).1.0.bindings)
bindings_at net s phase.Restarting e = (_, (at_phase net phase.Restarting s e).1.states.bindings)
bindings_at net s phase.Running e = (_, (at_phase net phase.Running s e).1.0.states.bindings)
bindings_at net s phase.Pausing e = (_, (at_phase net phase.Pausing s e).1.states.bindings)

pub bindings_count : {head : StackHead} {turns : List Turn} {net : Net} → IsBetween head turns net → length net.modules.bindings ≡ length net.head.bindings
bindings_count {head} {turns} {net} b =
    let s : IsShaped net = subst IsShaped (sym b.is) (shaped_journal head turns b.sound) in
    let all = bindings_at net s net.phase refl in
    ap length all.1 ∙ length-replicate (length net.head.bindings) all.0
