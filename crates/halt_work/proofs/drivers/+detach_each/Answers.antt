use Rattle.std.proofs.Common.{◌<◌, ap, sym, subst, ◌∙◌, arith, map, slice_index_or}
use Rattle.std.proofs.lemmas.List.{length-map}
use Rattle.book_lemmas.specs.Views.{seat_of}
use Rattle.halt_work.specs.Risen.{Sides, sides}
use Rattle.halt_work.proofs.Rises.{first_item, rest_length, seat_there, place_within, place_keeps, rest_rises, all_rose, none_rose}
use Rattle.halt_work.proofs.drivers.+detach_each.Goals as goal

pub returns-in_default : goal.returns-in_default
returns-in_default g t c = none_rose _ _ c.in_default.len_below

pub unreachable-requires : goal.unreachable-requires
unreachable-requires g t c =
    let s : Sides = sides (map g.F.FilterCalls.state c.args.filters.now.items) c.args.seats.now.items c.args.shelf.now.items in
    seat_there s c.args.order.now (slice_index_or c.args.order.now 0 0) c.in-len1-up.len_at_least (first_item c.args.order.now c.in-len1-up.len_at_least) c.requires.rise
    (ap (λ ss. seat_of ss (slice_index_or c.args.order.now 0 0)) (sym c.as_slice.ensures.value) ∙ sym c.place_of.ensures ∙ c.in_default-place_of.is)

pub detach_at-requires-clause-place : goal.detach_at-requires-clause-place
detach_at-requires-clause-place g t c =
    let s : Sides = sides (map g.F.FilterCalls.state c.args.filters.now.items) c.args.seats.now.items c.args.shelf.now.items in
    subst (λ n. c.in-Some.place < n) (length-map c.args.filters.now.items g.F.FilterCalls.state)
    (place_within s c.args.order.now (slice_index_or c.args.order.now 0 0) c.in-len1-up.len_at_least (first_item c.args.order.now c.in-len1-up.len_at_least) c.requires.rise c.in-Some.place (ap (λ ss. seat_of ss (slice_index_or c.args.order.now 0 0)) (sym c.as_slice.ensures.value) ∙ sym c.place_of.ensures ∙ c.in-Some.is))

pub detach_at-requires-clause-kept : goal.detach_at-requires-clause-kept
detach_at-requires-clause-kept g t c =
    let s : Sides = sides (map g.F.FilterCalls.state c.args.filters.now.items) c.args.seats.now.items c.args.shelf.now.items in
    place_keeps s c.args.order.now (slice_index_or c.args.order.now 0 0) c.in-len1-up.len_at_least (first_item c.args.order.now c.in-len1-up.len_at_least) c.requires.rise c.in-Some.place (ap (λ ss. seat_of ss (slice_index_or c.args.order.now 0 0)) (sym c.as_slice.ensures.value) ∙ sym c.place_of.ensures ∙ c.in-Some.is)

pub get_up-requires : goal.get_up-requires
get_up-requires g t c =
    let some = c.in-len1-up.len_at_least in
    let room = c.requires.room in
    omega (arith, some, room)

pub detach_each-requires : goal.detach_each-requires
detach_each-requires g t c κs lent =
    let s : Sides = sides (map g.F.FilterCalls.state c.args.filters.now.items) c.args.seats.now.items c.args.shelf.now.items in
    let less = rest_length c.args.order.now (slice_index_or c.args.order.now 0 0) c.in-len1-up.len_at_least (first_item c.args.order.now c.in-len1-up.len_at_least) in
    let room = c.requires.room in
    let longer = c.get_up.ensures.longer in
    let capacity = c.get_up.ensures.capacity in (
      omega (arith, less),
      (
        lent,
        (
          omega (arith, less, room, longer, capacity),
          rest_rises s c.args.order.now (slice_index_or c.args.order.now 0 0) c.in-len1-up.len_at_least (first_item c.args.order.now c.in-len1-up.len_at_least) c.requires.rise c.in-Some.place _ _ _ (ap (λ ss. seat_of ss (slice_index_or c.args.order.now 0 0)) (sym c.as_slice.ensures.value) ∙ sym c.place_of.ensures ∙ c.in-Some.is)
              c.detach_at.ensures c.get_up.ensures.seats c.get_up.ensures.shelf,
        ),
      ),
    )

pub returns : goal.returns
returns g t c =
    let s : Sides = sides (map g.F.FilterCalls.state c.args.filters.now.items) c.args.seats.now.items c.args.shelf.now.items in
    all_rose s c.args.order.now (slice_index_or c.args.order.now 0 0) c.in-len1-up.len_at_least (first_item c.args.order.now c.in-len1-up.len_at_least) c.requires.rise c.in-Some.place _ _ _ (ap (λ ss. seat_of ss (slice_index_or c.args.order.now 0 0)) (sym c.as_slice.ensures.value) ∙ sym c.place_of.ensures ∙ c.in-Some.is)
    c.detach_at.ensures c.get_up.ensures.seats c.get_up.ensures.shelf _ c.detach_each.ensures
