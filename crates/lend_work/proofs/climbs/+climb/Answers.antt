use Rattle.std.proofs.Common.{◌≡◌, ◌≤◌, ◌-◌, ℕ, true, Some, map, slice_index, sym, ap, ◌∙◌, refl, arith}
use Rattle.std.proofs.lemmas.List.{length-map}
use Rattle.stack_rules.specs.Net.{Modules}
use Rattle.stack_rules.specs.Targets.{has_receive}
use Rattle.book_lemmas.specs.Views.{seat_of}
use Rattle.lend_work.specs.Visits.{Bench, bench}
use Rattle.lend_work.proofs.Placed.{all_still}
use Rattle.lend_work.proofs.Climbing.{served_top, is_placed, may_next, climbs_ended, climbs_on}
use Rattle.lend_work.proofs.climbs.+climb.Goals as goal

pub climb-requires-in-None : goal.climb-requires-in-None
climb-requires-in-None g t c κs within =
    let d : Bench = bench (map g.F.FilterCalls.state c.args.filters.now.items) c.args.pools.now.items c.args.tray.now in
    let mid : Bench = bench (map g.F.FilterCalls.state c.lend_at.new.filters.items) c.lend_at.new.pools.items c.lend_at.new.tray in
    let some : 1 ≤ c.args.many = omega arith in
    let f : ℕ = slice_index c.order.result.now (c.args.many - 1) in
    let is : f ≡ slice_index d.tray.net.modules.order (c.args.many - 1) = ap (λ xs. slice_index xs (c.args.many - 1)) c.order.ensures in
    let has : has_receive d.tray.net.modules f ≡ true = ap (λ (ms : Modules). has_receive ms f) (sym c.modules.ensures) ∙ sym c.has_receive.ensures ∙ c.if-not-has_receive.false in
    let seat : seat_of c.args.seats.now f ≡ Some c.in-Some.place = sym c.place_of.ensures ∙ c.in-Some.is in
    let p = is_placed c.in-Some.place (served_top f c.requires.may some is has) seat in
    let rooms = length-map c.args.filters.now.items g.F.FilterCalls.room in
    let states = length-map c.args.filters.now.items g.F.FilterCalls.state in (
      omega (arith, some, c.decreases),
      (
        within,
        (
          may_next f c.in-Some.place c.requires.may some p c.in-None.ensures.visits,
          all_still _ _ c.in-Some.place _ c.requires.rooms c.lend_at.ensures.rooms (omega (arith, p.driver, rooms, states)) (c.in-None.ensures.room refl),
        ),
      ),
    )

pub returns-in-Some-lend_at : goal.returns-in-Some-lend_at
returns-in-Some-lend_at g t c =
    let d : Bench = bench (map g.F.FilterCalls.state c.args.filters.now.items) c.args.pools.now.items c.args.tray.now in
    let some : 1 ≤ c.args.many = omega arith in
    let f : ℕ = slice_index c.order.result.now (c.args.many - 1) in
    let is : f ≡ slice_index d.tray.net.modules.order (c.args.many - 1) = ap (λ xs. slice_index xs (c.args.many - 1)) c.order.ensures in
    let has : has_receive d.tray.net.modules f ≡ true = ap (λ (ms : Modules). has_receive ms f) (sym c.modules.ensures) ∙ sym c.has_receive.ensures ∙ c.if-not-has_receive.false in
    let seat : seat_of c.args.seats.now f ≡ Some c.in-Some.place = sym c.place_of.ensures ∙ c.in-Some.is in
    climbs_ended c.args.seats.now c.args.list.now c.args.many f c.in-Some.place d _ c.in-Some-lend_at.status some is has seat c.in-Some-lend_at.ensures.visits

pub returns-in-None : goal.returns-in-None
returns-in-None g t c =
    let d : Bench = bench (map g.F.FilterCalls.state c.args.filters.now.items) c.args.pools.now.items c.args.tray.now in
    let mid : Bench = bench (map g.F.FilterCalls.state c.lend_at.new.filters.items) c.lend_at.new.pools.items c.lend_at.new.tray in
    let some : 1 ≤ c.args.many = omega arith in
    let f : ℕ = slice_index c.order.result.now (c.args.many - 1) in
    let is : f ≡ slice_index d.tray.net.modules.order (c.args.many - 1) = ap (λ xs. slice_index xs (c.args.many - 1)) c.order.ensures in
    let has : has_receive d.tray.net.modules f ≡ true = ap (λ (ms : Modules). has_receive ms f) (sym c.modules.ensures) ∙ sym c.has_receive.ensures ∙ c.if-not-has_receive.false in
    let seat : seat_of c.args.seats.now f ≡ Some c.in-Some.place = sym c.place_of.ensures ∙ c.in-Some.is in
    climbs_on c.args.seats.now c.args.list.now c.args.many f c.in-Some.place d mid _ _ some is has seat (is_placed c.in-Some.place (served_top f c.requires.may some is has) seat) c.in-None.ensures.visits c.climb-in-None.ensures
