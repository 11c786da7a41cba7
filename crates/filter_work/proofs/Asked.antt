-- What is known where a list is first on its way and goes to a filter: the filter is attached and sits at a place, and the
-- list may be worked there.
use Rattle.std.proofs.Common.{◌≡◌, ℕ, true, false, List, [], ◌∷◌, Option, Some, None, IsSome, refl, sym, ap, ◌∙◌, subst}
use Rattle.std.proofs.lemmas.List.Elements.{All-head}
use Rattle.ndis_base.specs.declared.Direction.{Direction}
use Rattle.ndis_base.specs.declared.Direction.TheVariants as direction
use Rattle.ndis_base.specs.declared.ModuleId.TheVariants.{Filter}
use Rattle.journal_types.specs.declared.PassWay.{PassWay}
use Rattle.journal_types.specs.declared.PassWay.TheVariants as way
use Rattle.journal_types.specs.declared.Setup.{Setup}
use Rattle.journal_types.specs.declared.StackHead.{StackHead}
use Rattle.journal_types.specs.declared.Target.TheVariants.{Module}
use Rattle.journal_types.specs.declared.Turn.{Turn}
use Rattle.buffer_pools.specs.Views.{ListView, IsOf}
use Rattle.stack_rules.specs.declared.Attached.{Attached}
use Rattle.stack_rules.specs.declared.LiveList.{LiveList}
use Rattle.stack_rules.specs.declared.Stand.TheVariants as stand
use Rattle.stack_rules.specs.declared.Thing.TheVariants as thing
use Rattle.stack_rules.specs.Net.{Net, lists}
use Rattle.stack_rules.specs.Places.{agenda_first, pool_of}
use Rattle.stack_rules.specs.Tests.{is_down}
use Rattle.agenda_items.specs.declared.Carried.{Carried}
use Rattle.agenda_items.specs.declared.Carried.TheVariants.{List as a_list}
use Rattle.hand_lemmas.specs.Hands.{Common, in_state, in_hand}
use Rattle.hand_lemmas.proofs.Tells.{next_list}
use Rattle.book_lemmas.specs.Between.{IsBetween}
use Rattle.book_lemmas.specs.Stands.{Stands, IsSeated, IsPoolOf, IsCarriedSized}
use Rattle.book_lemmas.specs.Views.{BookView, HeldView, IsPlace, filter_at, pool_at, seat_of, held_pool, hands_of}
use Rattle.book_lemmas.proofs.Between.{IsAtFilter, GoesDown, GoesUp, not_halted, listed, goes_down, goes_up, goes_done, goes_back}
use Rattle.book_lemmas.proofs.Between.GoesDown.{to_filter}
use Rattle.book_lemmas.proofs.Between.GoesUp.{up_filter}
use Rattle.call_lemmas.proofs.Homewards.{KeepsOriginal}
use Rattle.pause_laws.proofs.Works.{each_away}
use Rattle.place_laws.specs.Kept.{HasOriginal}
use Rattle.rule_basics.specs.Live.{Each}
use Rattle.homeward_laws.proofs.Targets.{first_bound}
use Rattle.lent_laws.specs.Lent.{is_lent, IsOwned}
use Rattle.lent_laws.proofs.Lent.{none_is_lent}
use Rattle.stack_rules.specs.Rewires.{is_in}
use Rattle.book_parts.specs.Events.{IsBook, IsIdle}
use Rattle.book_parts.proofs.Ended.{idle_state}
use Rattle.filter_work.specs.Works.{GoesTo, GoesAs, MayWork}

pub between : (old : BookView) → IsBook old → IsIdle old → IsBetween old.tray.head old.tray.turns old.tray.net
between old k i = record { is = idle_state old k i; sound = k.follows.sound; bound = k.bound }

-- the list in the state, and the filter that it goes to
pub record IsFor (net : Net) (held : HeldView) (by : PassWay) (l : ListView) (f : ℕ) : Type 0 where
  pub x : LiveList
  pub first : agenda_first net ≡ Some (thing.List x)
  pub stands : x.stand ≡ stand.Passed by (Module (Filter f))
  pub same : in_state x ≡ in_hand l
  pub at : IsAtFilter net f
  pub seated : IsSeated held at.a
  pub goes : GoesAs by l.label.direction
  pub housed : IsOf (held_pool held l.label.owner) l
  pub keeps : KeepsOriginal net x

down_is : (d : Direction) → is_down d ≡ true → d ≡ direction.Down
down_is direction.Down e = refl
down_is direction.Up e = absurd cc
down_is direction.Lent e = absurd cc

down_to_filter : (net : Net) (x : LiveList) (f : ℕ) → GoesDown net x (Module (Filter f)) → (is_down x.direction ≡ true) × IsAtFilter net f
down_to_filter net x f (to_filter g down at) = (down, at)

up_to_filter : (net : Net) (x : LiveList) (f : ℕ) → GoesUp net x (Module (Filter f)) → (is_down x.direction ≡ false) × IsAtFilter net f
up_to_filter net x f (up_filter g up at) = (up, at)

up_is : (d : Direction) → is_down d ≡ false → is_lent d ≡ false → d ≡ direction.Up
up_is direction.Down e o = absurd cc
up_is direction.Up e o = refl
up_is direction.Lent e o = absurd cc

-- no list on its way is lent
owned_first : {head : StackHead} {turns : List Turn} {net : Net} → IsBetween head turns net → (x : LiveList) → agenda_first net ≡ Some (thing.List x) → is_lent x.direction ≡ false
owned_first {head} {turns} {net} b x first = each_away IsOwned net.things x (subst (λ (n : Net). Each IsOwned (lists n.things)) (sym b.is) (none_is_lent head turns b.sound)) first

at_inside : {head : StackHead} {turns : List Turn} {net : Net} → IsBetween head turns net → (x : LiveList) (f : ℕ) → agenda_first net ≡ Some (thing.List x) → is_in f net.modules.order ≡ true → IsAtFilter net f
at_inside b x f first inside = let o = (listed b (not_halted b (thing.List x) first)).ordered.attached f inside in record { a = o.0; there = o.1; number = o.2; inside = inside }

-- what the laws tell of a list by the way that it goes
pub record IsOnTrack (net : Net) (by : PassWay) (x : LiveList) (f : ℕ) : Type 0 where
  pub at : IsAtFilter net f
  pub goes : GoesAs by x.direction

-- the original of a clone is kept by the clone's owner
keeps_original : {head : StackHead} {turns : List Turn} {net : Net} → IsBetween head turns net → (x : LiveList) → agenda_first net ≡ Some (thing.List x) → KeepsOriginal net x
keeps_original {net = net} b x first o y clone live =
    (each_away (HasOriginal net) net.things x (listed b (not_halted b (thing.List x) first)).originals first o y clone live).kept

-- a list goes to a filter of the order
first_inside : {head : StackHead} {turns : List Turn} {net : Net} → IsBetween head turns net → (by : PassWay) (x : LiveList) (f : ℕ) → agenda_first net ≡ Some (thing.List x) → x.stand ≡ stand.Passed by (Module (Filter f)) → is_in f net.modules.order ≡ true
first_inside {head} {turns} {net} b by x f first stands = (first_bound head turns net b.is b.sound b.bound x by (Filter f) first stands).0

first_goes : {head : StackHead} {turns : List Turn} {net : Net} → IsBetween head turns net → (by : PassWay) (x : LiveList) (f : ℕ) → agenda_first net ≡ Some (thing.List x) → x.stand ≡ stand.Passed by (Module (Filter f)) → GoesAs by x.direction
first_goes b way.Down x f first stands = down_is x.direction (down_to_filter _ x f (goes_down b x (Module (Filter f)) first stands)).0
first_goes b way.Up x f first stands = up_is x.direction (up_to_filter _ x f (goes_up b x (Module (Filter f)) first stands)).0 (owned_first b x first)
first_goes b (way.Done status) x f first stands = down_is x.direction (goes_done b x (Filter f) status first stands).0
first_goes b (way.Back status) x f first stands = up_is x.direction (goes_back b x (Filter f) status first stands).0 (owned_first b x first)

on_track : {head : StackHead} {turns : List Turn} {net : Net} (by : PassWay) (x : LiveList) (f : ℕ) → IsBetween head turns net → agenda_first net ≡ Some (thing.List x) → x.stand ≡ stand.Passed by (Module (Filter f)) → IsOnTrack net by x f
on_track by x f b first stands = record { at = at_inside b x f first (first_inside b by x f first stands); goes = first_goes b by x f first stands }

pub is_for : {head : StackHead} {turns : List Turn} {net : Net} {held : HeldView} {rest : List Carried} (by : PassWay) (l : ListView) (f : ℕ) → IsBetween head turns net → Stands net (a_list l by (Module (Filter f)) ∷ rest) held [] → IsFor net held by l f
is_for {net = net} {held = held} {rest = rest} by l f between s =
    let queue : List Carried = a_list l by (Module (Filter f)) ∷ rest in
    let n = next_list net (hands_of queue held []) l by (Module (Filter f)) rest s.agrees refl in
    let same : in_state n.x ≡ in_hand l = ap in_state (sym n.is) ∙ n.mine.same in
    let track : IsOnTrack net by n.x f = on_track by n.x f between n.first n.stand in
    record {
      x = n.x;
      first = n.first;
      stands = n.stand;
      same = same;
      at = track.at;
      seated = s.seated f track.at.a track.at.there;
      goes = subst (λ (c : Common). GoesAs by c.direction) same track.goes;
      housed = n.mine.housed;
      keeps = keeps_original between n.x n.first;
    }

-- the filter's place
pub record IsPlaced (net : Net) (held : HeldView) (f place : ℕ) (a : Attached) : Type 0 where
  pub seat : seat_of held.seats f ≡ Some place
  pub is : IsPlace held place
  pub kind : (filter_at held.filters (Some place)).kind ≡ a.kind
  pub setup : (filter_at held.filters (Some place)).setup ≡ Some a.setup
  pub size : pool_of net (Filter f) ≡ (pool_at held.filter_pools (Some place)).size
  pub bytes : (pool_at held.filter_pools (Some place)).bytes ≡ 1518

same_some : (p q : ℕ) → Some p ≡ Some q → p ≡ q
same_some p q e = cc

pub is_placed : {net : Net} {queue : List Carried} {held : HeldView} {by : PassWay} {l : ListView} {f : ℕ} (place : ℕ) → Stands net queue held [] → (k : IsFor net held by l f) → seat_of held.seats f ≡ Some place → IsPlaced net held f place k.at.a
is_placed {net} {held = held} {f = f} place s k seat =
    let here : seat_of held.seats f ≡ Some k.seated.place = ap (seat_of held.seats) (sym k.at.number) ∙ k.seated.seat in
    let same : k.seated.place ≡ place = same_some k.seated.place place (sym here ∙ seat) in
    let p : IsPoolOf net (Filter f) (pool_at held.filter_pools (Some place)) = subst (λ o. IsPoolOf net (Filter f) (pool_at held.filter_pools o)) seat (s.pools (Filter f) k.at.inside) in
    record {
      seat = seat;
      is = s.places f place seat;
      kind = ap (λ q. (filter_at held.filters (Some q)).kind) (sym same) ∙ k.seated.kind;
      setup = ap (λ q. (filter_at held.filters (Some q)).setup) (sym same) ∙ k.seated.setup;
      size = sym p.size;
      bytes = p.bytes;
    }

is_some : (o : Option Setup) (p : Setup) → o ≡ Some p → IsSome o
is_some o p e = subst IsSome (sym e) refl

-- the first list may be worked at the filter's place
pub may_work : (old : BookView) (f place : ℕ) → IsBook old → IsIdle old → GoesTo old f → seat_of old.held.seats f ≡ Some place
    → MayWork f (filter_at old.held.filters (Some place)) old.tray (pool_at old.held.filter_pools (Some place))
may_work old f place k i to seat =
    let s : Stands old.tray.net (a_list to.first.list to.by (Module (Filter f)) ∷ to.first.rest) old.held [] = subst (λ q. Stands old.tray.net q old.held []) to.first.first k.stands in
    let here = is_for to.by to.first.list f (between old k i) s in
    let there = is_placed place s here seat in
    record {
      list = to.first.list;
      by = to.by;
      to = Module (Filter f);
      rest = to.first.rest;
      is = to.first.first;
      take = record {
        setup = is_some _ here.at.a.setup there.setup;
        sized = All-head IsCarriedSized (a_list to.first.list to.by (Module (Filter f))) to.first.rest s.sized.carried;
        bytes = there.bytes;
        goes = here.goes;
        own = λ own. subst (λ o. IsOf (pool_at old.held.filter_pools o) to.first.list) seat (subst (λ m. IsOf (held_pool old.held m) to.first.list) own here.housed);
      };
    }

-- the filter has a place
pub has_seat : (old : BookView) (f : ℕ) → IsBook old → IsIdle old → GoesTo old f → seat_of old.held.seats f ≡ None → ⊥
has_seat old f k i to none =
    let s : Stands old.tray.net (a_list to.first.list to.by (Module (Filter f)) ∷ to.first.rest) old.held [] = subst (λ q. Stands old.tray.net q old.held []) to.first.first k.stands in
    let here = is_for to.by to.first.list f (between old k i) s in
    let some : seat_of old.held.seats f ≡ Some here.seated.place = ap (seat_of old.held.seats) (sym here.at.number) ∙ here.seated.seat in
    cc (none, some)
