-- While the stack is Halted each filter's driver stands on the shelf: always each stands there, or is that of a filter
-- that is attached.
use Rattle.std.proofs.Common.{◌≡◌, ℕ, ◌+◌, ◌≤◌, ◌<◌, ◌==◌, ◌||◌, ◌⊎◌, inl, inr, not, Bool, true, false, cond, List, [], ◌∷◌, ◌++◌, Option, Some, None, option_map, filter, find, length, map, refl, sym, ap, ◌∙◌, subst, eq-eqb, arith}
use Rattle.std.proofs.lemmas.Bool.Decides.{nat_tests}
use Rattle.std.proofs.lemmas.List.Elements.{All-nil}
use Rattle.std.proofs.lemmas.List.Folds.{list_any-append}
use Rattle.std.proofs.lemmas.Map.Views.{any-filter_same}
use Rattle.ndis_base.specs.declared.FilterKind.{FilterKind}
use Rattle.ndis_base.specs.declared.ModuleId.TheVariants.{Filter}
use Rattle.ndis_base.specs.declared.ModuleState.{ModuleState}
use Rattle.ndis_base.specs.declared.ModuleState.TheVariants as state
use Rattle.ndis_base.specs.declared.Phase.TheVariants as phase
use Rattle.journal_types.specs.declared.Event.{Event}
use Rattle.journal_types.specs.declared.Event.TheVariants as event
use Rattle.journal_types.specs.declared.PhaseOf.TheVariants as of
use Rattle.journal_types.specs.declared.Reply.{Reply}
use Rattle.journal_types.specs.declared.Reply.TheVariants as reply
use Rattle.journal_types.specs.declared.Row.{Row}
use Rattle.journal_types.specs.declared.Row.TheVariants as row
use Rattle.journal_types.specs.declared.Turn.{Turn}
use Rattle.stack_rules.specs.declared.Attached.{Attached}
use Rattle.stack_rules.specs.declared.Choice.{Choice}
use Rattle.stack_rules.specs.Net.{Net, start, seen, after, after_rows, after_turn, after_turns, told, attached, with_state}
use Rattle.stack_rules.specs.Outcome.{Outcome}
use Rattle.stack_rules.specs.Rewires.{is_in}
use Rattle.stack_rules.specs.Sound.{outcome, Next, SoundFrom}
use Rattle.promise_rules.specs.Drivers.{Shelf, is_of_kind, places_from, without_place, with_place, taken_from, shelf_told, shelf_at, shelf_in_rows, shelf_in_turns, shelf_of, driver_of}
use Rattle.state_laws.specs.Shape.{IsShaped, IsHalted}
use Rattle.state_laws.proofs.Events.{at_phase, shaped_journal}
use Rattle.shelf_laws.specs.Shelves.{EachIsOnShelf}
use Rattle.shelf_laws.proofs.Fresh.{AreBelow, none_below, turn_below, by_insert, by_replace}
use Rattle.shelf_laws.proofs.Was.{IsAmong, among_here, among_later, same_number, less}

none_found : {X : Type 0} (x : X) → None ≡ Some x → ⊥
none_found x e = cc

found_both : {X : Type 0} (o : Option X) (x : X) → o ≡ None → o ≡ Some x → ⊥
found_both o x none some = cc

-- who is attached stays so where one comes, where one takes a state, and where another one goes
among_append : (g : ℕ) (entries more : List Attached) → IsAmong g entries → IsAmong g (entries ++ more)
among_append g [] more a = absurd (none_found a.entry a.there)
among_append g (x ∷ entries) more a = by_number (among_append g entries more) (x.filter == g) refl
  where
    by_number : (IsAmong g entries → IsAmong g (entries ++ more)) → (b : Bool) → (x.filter == g) ≡ b → IsAmong g (x ∷ (entries ++ more))
    by_number rest true e = among_here g x (entries ++ more) e
    by_number rest false e = among_later g x (entries ++ more) (rest (record { entry = a.entry; there = sym (ap (λ b. cond b (Some x) (attached g entries)) e) ∙ a.there }))

among_last : (a : Attached) (entries : List Attached) → IsAmong a.filter (entries ++ a ∷ [])
among_last a [] = among_here a.filter a [] (eq-eqb a.filter a.filter refl)
among_last a (x ∷ entries) = among_later a.filter x (entries ++ a ∷ []) (among_last a entries)

among_map : (f : ℕ) (s : ModuleState) (g : ℕ) (entries : List Attached) → IsAmong g entries → IsAmong g (map (with_state f s) entries)
among_map f s g [] a = absurd (none_found a.entry a.there)
among_map f s g (x ∷ entries) a = by_number (among_map f s g entries) (x.filter == g) refl
  where
    here : ((with_state f s x).filter == g) ≡ (x.filter == g)
    here = ap (λ n. n == g) (same_number f s x)

    by_number : (IsAmong g entries → IsAmong g (map (with_state f s) entries)) → (b : Bool) → (x.filter == g) ≡ b → IsAmong g (map (with_state f s) (x ∷ entries))
    by_number rest true e = among_here g (with_state f s x) (map (with_state f s) entries) (here ∙ e)
    by_number rest false e =
        among_later g (with_state f s x) (map (with_state f s) entries)
        (rest (record { entry = a.entry; there = sym (ap (λ b. cond b (Some x) (attached g entries)) e) ∙ a.there }))

other_number : (f g n : ℕ) → (g == f) ≡ false → (n == f) ≡ true → (n == g) ≡ false
other_number f g n ne e = grind (arith, nat_tests)

among_less : (f g : ℕ) (entries : List Attached) → (g == f) ≡ false → IsAmong g entries → IsAmong g (less f entries)
among_less f g [] ne a = absurd (none_found a.entry a.there)
among_less f g (x ∷ entries) ne a = by_gone (among_less f g entries ne) (x.filter == f) refl
  where
    later : (x.filter == g) ≡ false → IsAmong g entries
    later e = record { entry = a.entry; there = sym (ap (λ b. cond b (Some x) (attached g entries)) e) ∙ a.there }

    by_number : (IsAmong g entries → IsAmong g (less f entries)) → (b : Bool) → (x.filter == g) ≡ b → IsAmong g (x ∷ less f entries)
    by_number rest true e = among_here g x (less f entries) e
    by_number rest false e = among_later g x (less f entries) (rest (later e))

    by_gone : (IsAmong g entries → IsAmong g (less f entries)) → (b : Bool) → (x.filter == f) ≡ b → IsAmong g (less f (x ∷ entries))
    by_gone rest true e = subst (λ b. IsAmong g (cond (not b) (x ∷ less f entries) (less f entries))) (sym e) (rest (later (other_number f g x.filter ne e)))
    by_gone rest false e = subst (λ b. IsAmong g (cond (not b) (x ∷ less f entries) (less f entries))) (sym e) (by_number rest (x.filter == g) refl)

-- the driver at a place is that of a filter that is attached
record IsSat (place : ℕ) (entries : List Attached) (drivers : List (ℕ × ℕ)) : Type 0 where
  number : ℕ
  among : IsAmong number entries
  driver : driver_of drivers number ≡ Some place

abbrev IsSomewhere : ℕ → List Attached → Shelf → Type 0
IsSomewhere place entries shelf = (is_in place shelf.places ≡ true) ⊎ IsSat place entries shelf.drivers

-- a filter gets up
in_with : (place : ℕ) (places : List ℕ) (o : Option ℕ) → is_in place places ≡ true → is_in place (with_place places o) ≡ true
in_with place places None on = on
in_with place places (Some p) on = list_any-append (λ g. g == place) places (p ∷ []) ∙ ap (λ b. b || is_in place (p ∷ [])) on

put_back : (place : ℕ) (places : List ℕ) → is_in place (with_place places (Some place)) ≡ true
put_back place places =
    list_any-append (λ g. g == place) places (place ∷ []) ∙ ap (λ b. is_in place places || (b || false)) (eq-eqb place place refl) ∙ or_true (is_in place places)
  where
    or_true : (b : Bool) → (b || true) ≡ true
    or_true true = refl
    or_true false = refl

same_number_is : (g f : ℕ) → (g == f) ≡ true → g ≡ f
same_number_is g f e = grind (arith, nat_tests)

gets_up : (f : ℕ) (entries : List Attached) (shelf : Shelf) (place : ℕ) → IsSomewhere place entries shelf → IsSomewhere place (less f entries) (record shelf { places = with_place shelf.places (driver_of shelf.drivers f) })
gets_up f entries shelf place (inl on) = inl (in_with place shelf.places (driver_of shelf.drivers f) on)
gets_up f entries shelf place (inr sat) = by_number (sat.number == f) refl
  where
    by_number : (b : Bool) → (sat.number == f) ≡ b → IsSomewhere place (less f entries) (record shelf { places = with_place shelf.places (driver_of shelf.drivers f) })
    by_number true e =
        let mine : driver_of shelf.drivers f ≡ Some place = ap (driver_of shelf.drivers) (sym (same_number_is sat.number f e)) ∙ sat.driver in
        inl (ap (λ o. is_in place (with_place shelf.places o)) mine ∙ put_back place shelf.places)
    by_number false e = inr (record { number = sat.number; among = among_less f sat.number entries e sat.among; driver = sat.driver })

takes_state : (f : ℕ) (s : ModuleState) (entries : List Attached) (shelf : Shelf) (place : ℕ) → IsSomewhere place entries shelf → IsSomewhere place (map (with_state f s) entries) shelf
takes_state f s entries shelf place (inl on) = inl on
takes_state f s entries shelf place (inr sat) = inr (record { number = sat.number; among = among_map f s sat.number entries sat.among; driver = sat.driver })

row_keeps : (net : Net) (r : Row) (shelf : Shelf) (place : ℕ) → IsSomewhere place net.modules.filters shelf → IsSomewhere place (after net r).modules.filters (shelf_at r shelf)
row_keeps net (row.Phase (of.Module (Filter f) state.Detached)) shelf place w = gets_up f net.modules.filters shelf place w
row_keeps net (row.Phase (of.Module (Filter f) s)) shelf place w = takes_state f s net.modules.filters shelf place w
row_keeps net r shelf place w = w

rows_keep : (net : Net) (rows : List Row) (shelf : Shelf) (place : ℕ) → IsSomewhere place net.modules.filters shelf → IsSomewhere place (after_rows net rows).modules.filters (shelf_in_rows rows shelf)
rows_keep net [] shelf place w = w
rows_keep net (r ∷ rows) shelf place w = rows_keep (after net r) rows (shelf_at r shelf) place (row_keeps net r shelf place w)

-- a filter comes, and takes a driver
driver_new : (drivers : List (ℕ × ℕ)) (f place : ℕ) → driver_of drivers f ≡ None → driver_of (drivers ++ (f, place) ∷ []) f ≡ Some place
driver_new [] f place none = ap (λ b. option_map (λ (d : ℕ × ℕ). d.1) (cond b (Some (f, place)) None)) (eq-eqb f f refl)
driver_new (d ∷ ds) f place none = cases (d.0 == f) none (driver_new ds f place)
  where
    cases : (b : Bool) → option_map (λ (e : ℕ × ℕ). e.1) (cond b (Some d) (find (λ e. e.0 == f) ds)) ≡ None → (driver_of ds f ≡ None → driver_of (ds ++ (f, place) ∷ []) f ≡ Some place)
        → option_map (λ (e : ℕ × ℕ). e.1) (cond b (Some d) (find (λ e. e.0 == f) (ds ++ (f, place) ∷ []))) ≡ Some place
    cases true e rest = cc
    cases false e rest = rest e

driver_kept : (drivers more : List (ℕ × ℕ)) (g place : ℕ) → driver_of drivers g ≡ Some place → driver_of (drivers ++ more) g ≡ Some place
driver_kept [] more g place some = absurd (none_found place some)
driver_kept (d ∷ ds) more g place some = cases (d.0 == g) some (driver_kept ds more g place)
  where
    cases : (b : Bool) → option_map (λ (e : ℕ × ℕ). e.1) (cond b (Some d) (find (λ e. e.0 == g) ds)) ≡ Some place → (driver_of ds g ≡ Some place → driver_of (ds ++ more) g ≡ Some place)
        → option_map (λ (e : ℕ × ℕ). e.1) (cond b (Some d) (find (λ e. e.0 == g) (ds ++ more))) ≡ Some place
    cases true e rest = e
    cases false e rest = rest e

still_in : (p place : ℕ) (places : List ℕ) → (p == place) ≡ false → is_in place places ≡ true → is_in place (without_place p places) ≡ true
still_in p place places ne on = any-filter_same (λ g. g == place) (λ q. not (q == p)) true (λ k e. other k e) places ∙ on
  where
    other : (k : ℕ) → (k == place) ≡ true → not (k == p) ≡ true
    other k e = ap not (other_number place p k ne e)

comes : (a : Attached) (entries : List Attached) (shelf : Shelf) (o : Option ℕ) (place : ℕ) → driver_of shelf.drivers a.filter ≡ None → IsSomewhere place entries shelf
    → IsSomewhere place (entries ++ a ∷ []) (taken_from a.filter shelf o)
comes a entries shelf None place none (inl on) = inl on
comes a entries shelf None place none (inr sat) = inr (record { number = sat.number; among = among_append sat.number entries (a ∷ []) sat.among; driver = sat.driver })
comes a entries shelf (Some p) place none (inl on) = by_place (p == place) refl
  where
    by_place : (b : Bool) → (p == place) ≡ b → IsSomewhere place (entries ++ a ∷ []) (taken_from a.filter shelf (Some p))
    by_place true e = inr (record { number = a.filter; among = among_last a entries; driver = driver_new shelf.drivers a.filter p none ∙ ap (λ n. Some n) (same_number_is p place e) })
    by_place false e = inl (still_in p place shelf.places e on)
comes a entries shelf (Some p) place none (inr sat) =
    inr (record { number = sat.number; among = among_append sat.number entries (a ∷ []) sat.among; driver = driver_kept shelf.drivers ((a.filter, p) ∷ []) sat.number place sat.driver })

-- what an event tells leaves each driver on the shelf, or with a filter that is attached
TellsOf : List FilterKind → Net → Event → Outcome → Type 0
TellsOf kinds net e o =
    (shelf : Shelf) (place : ℕ) → AreBelow net.next.filter shelf.drivers → IsSomewhere place net.modules.filters shelf → IsSomewhere place (told net e o.reply).modules.filters (shelf_told kinds e o.reply shelf)

taken_up : (net : Net) (binding vlan : ℕ) (r : Reply) → (told net (event.CrossTakeUp binding vlan) r).modules.filters ≡ net.modules.filters
taken_up net binding vlan (reply.Taken message frames) = refl
taken_up net binding vlan r = refl

event_tells : (kinds : List FilterKind) (net : Net) (e : Event) (c : Choice) → TellsOf kinds net e (outcome net e c)
unfolding TellsOf
event_tells kinds net (event.Insert kind position setup) c =
    by_insert (TellsOf kinds net (event.Insert kind position setup)) net position c (λ why shelf place below w. w)
    (λ shelf place below w.
    comes (record { filter = net.next.filter; kind = kind; setup = setup; state = state.Detached }) net.modules.filters shelf (find (is_of_kind kind kinds) shelf.places) place
    (none_below net.next.filter shelf.drivers below) w)
event_tells kinds net (event.Replace old kind setup) c =
    by_replace (TellsOf kinds net (event.Replace old kind setup)) net old c (λ why shelf place below w. w)
    (λ shelf place below w.
    comes (record { filter = net.next.filter; kind = kind; setup = setup; state = state.Detached }) net.modules.filters shelf (find (is_of_kind kind kinds) shelf.places) place
    (none_below net.next.filter shelf.drivers below) w)
event_tells kinds net (event.CrossTakeUp binding vlan) c = λ shelf place below w. subst (λ entries. IsSomewhere place entries shelf) (sym (taken_up net binding vlan (outcome net (event.CrossTakeUp binding vlan) c).reply)) w
event_tells kinds net e c = λ shelf place below w. w

turn_keeps : (kinds : List FilterKind) (net : Net) (t : Turn) (shelf : Shelf) (place : ℕ) → Next net t → AreBelow net.next.filter shelf.drivers → IsSomewhere place net.modules.filters shelf
    → IsSomewhere place (after_turn net t).modules.filters (shelf_in_rows t.rows (shelf_told kinds t.event t.reply shelf))
unfolding TellsOf
turn_keeps kinds net t shelf place n below w =
    rows_keep (told net t.event t.reply) t.rows (shelf_told kinds t.event t.reply shelf) place
    (subst (λ r. IsSomewhere place (told net t.event r).modules.filters (shelf_told kinds t.event r shelf)) (sym n.reply) (event_tells kinds net t.event n.choice shelf place below w))

turns_keep : (kinds : List FilterKind) (net : Net) (turns : List Turn) (shelf : Shelf) (place : ℕ) → SoundFrom net turns → AreBelow net.next.filter shelf.drivers → IsSomewhere place net.modules.filters shelf
    → IsSomewhere place (after_turns net turns).modules.filters (shelf_in_turns kinds turns shelf)
turns_keep kinds net [] shelf place s below w = w
turns_keep kinds net (t ∷ ts) shelf place s below w =
    turns_keep kinds (after_turn net t) ts (shelf_in_rows t.rows (shelf_told kinds t.event t.reply shelf)) place s.1 (turn_below kinds net t shelf s.0 below) (turn_keeps kinds net t shelf place s.0 below w)

-- before the first turn all stand on the shelf
from_in : (kinds : List FilterKind) (first place : ℕ) → first ≤ place → place < first + length kinds → is_in place (places_from first kinds) ≡ true
from_in [] first place low high = absurd (omega (arith, low, high))
from_in (k ∷ ks) first place low high = by_number (from_in ks (first + 1) place) (first == place) refl
  where
    by_number : (first + 1 ≤ place → place < first + 1 + length ks → is_in place (places_from (first + 1) ks) ≡ true) → (b : Bool) → (first == place) ≡ b → is_in place (places_from first (k ∷ ks)) ≡ true
    by_number rest true e = ap (λ b. b || is_in place (places_from (first + 1) ks)) e
    by_number rest false e =
        let next : first + 1 ≤ place = grind (arith, nat_tests) in
        let within : place < first + 1 + length ks = omega (arith, high) in
        ap (λ b. b || is_in place (places_from (first + 1) ks)) e ∙ rest next within

nobody_sits : (place : ℕ) (entries : List Attached) (shelf : Shelf) → entries ≡ [] → IsSomewhere place entries shelf → is_in place shelf.places ≡ true
nobody_sits place entries shelf none (inl on) = on
nobody_sits place entries shelf none (inr sat) = absurd (none_found sat.among.entry (ap (attached sat.number) (sym none) ∙ sat.among.there))

pub each_is_on_shelf : EachIsOnShelf
each_is_on_shelf head turns kinds s at place within =
    let first : Shelf = record { places = places_from 0 kinds; drivers = [] } in
    let begun : is_in place first.places ≡ true = from_in kinds 0 place (omega arith) (omega (arith, within)) in
    let shaped : IsShaped (seen head turns) = shaped_journal head turns s in
    let halted : IsHalted (length (seen head turns).head.bindings) (seen head turns).modules = (at_phase (seen head turns) phase.Halted shaped at).0 in
    nobody_sits place (seen head turns).modules.filters (shelf_of kinds turns) halted.filters
    (turns_keep kinds (start head) turns first place s (All-nil (λ d. d.0 < (start head).next.filter)) (inl begun))
