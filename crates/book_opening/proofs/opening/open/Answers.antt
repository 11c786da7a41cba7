use Rattle.std.proofs.Common.{length, arith, ap, refl, ◌∙◌, map}
use Rattle.driver_choice.proofs.Choice.{search_of, lacks_nothing, lacks_miniport, taken_at, each_of, all_taken, all_chosen, chosen_count, miniport_of_kind, protocols_of_kinds}
use Rattle.book_lemmas.specs.Views.{no_protocol}
use Rattle.book_opening.specs.Opened.{IsHaltedDriver, IsClosedDriver}
use Rattle.book_opening.proofs.Begun.{opened_book, held_as, none_rest}
use Rattle.book_opening.proofs.opening.open.Goals as goal

pub returns-in_default-clause-lacks : goal.returns-in_default-clause-lacks
returns-in_default-clause-lacks g c =
    (λ e. lacks_miniport _ _ c.args.head _ _ (search_of _ _ _ _ _ _ c.as_slice.ensures.value c.first_miniport.ensures c.in_default.is), λ l. refl)

pub returns-in-Err-clause-lacks : goal.returns-in-Err-clause-lacks
returns-in-Err-clause-lacks g c =
    (λ e. absurd (cc), λ l. absurd (lacks_nothing _ _ c.args.head _ _ _ _ _ _ (search_of _ _ _ _ _ _ c.as_slice.ensures.value c.first_miniport.ensures c.in-Some.is) c.items.ensures c.as_slice-2.ensures.value c.are_enough.ensures c.if-not-are_enough.false l))

pub returns-in-Err-begin-clause-lacks : goal.returns-in-Err-begin-clause-lacks
returns-in-Err-begin-clause-lacks g c =
    (λ e. absurd (cc), λ l. absurd (lacks_nothing _ _ c.args.head _ _ _ _ _ _ (search_of _ _ _ _ _ _ c.as_slice.ensures.value c.first_miniport.ensures c.in-Some.is) c.items.ensures c.as_slice-2.ensures.value c.are_enough.ensures c.if-not-are_enough.false l))

pub returns-clause-enough : goal.returns-clause-enough
returns-clause-enough g c = lacks_nothing _ _ c.args.head _ _ _ _ _ _ (search_of _ _ _ _ _ _ c.as_slice.ensures.value c.first_miniport.ensures c.in-Some.is) c.items.ensures c.as_slice-2.ensures.value c.are_enough.ensures c.if-not-are_enough.false

pub returns-clause-takes : goal.returns-clause-takes
returns-clause-takes g c = record {
  first = rw (c.assemble.ensures.miniport) (taken_at _ _ _ _ _ _ (search_of _ _ _ _ _ _ c.as_slice.ensures.value c.first_miniport.ensures c.in-Some.is) c.remove-miniport.ensures.value c.remove-miniport.ensures.by_index.2);
  each = rw (c.assemble.ensures.protocols) (each_of _ _ _ _ _ _ _ (c.as_slice-4.ensures.value ∙ c.in-Ok-begin.ensures.setups) c.in-Ok.ensures.items c.take_protocols.ensures.chooses);
}

pub returns-clause-opened : goal.returns-clause-opened
returns-clause-opened g c =
    let takes = returns-clause-takes g c in
    opened_book c.args.head _ _ c.requires.bound (rw (c.assemble.ensures.tray) c.in-Ok-begin.ensures.tray)
    (held_as _ g.F.FilterCalls.state _ _ _ _ (ap (λ v. v.items) c.assemble.ensures.shelf) (ap (λ v. v.items) c.assemble.ensures.seats) c.assemble.ensures.miniport_pool (ap (λ v. v.items) c.assemble.ensures.protocol_pools) (ap (λ v. v.items) c.assemble.ensures.filter_pools)
    (ap (λ v. map g.F.FilterCalls.state v.items) (c.assemble.ensures.filters ∙ c.replace-filters.ensures.value)) (c.as_slice-3.ensures.value) c.in-Ok-begin.ensures
    (miniport_of_kind c.args.head.kind _ _ _ takes.first) (protocols_of_kinds no_protocol c.args.head.bindings _ _ _ takes.each)
    (all_taken IsHaltedDriver _ _ _ _ c.requires.idle.miniports takes.first).0
    (all_chosen IsClosedDriver _ _ _ _ c.requires.idle.protocols takes.each).0
    (chosen_count _ _ _ _ takes.each) c.requires.idle.filters)

pub returns-clause-idle : goal.returns-clause-idle
returns-clause-idle g c =
    let takes = returns-clause-takes g c in
    record {
      miniports = (all_taken IsHaltedDriver _ _ _ _ c.requires.idle.miniports takes.first).1;
      protocols = (all_chosen IsClosedDriver _ _ _ _ c.requires.idle.protocols takes.each).1;
      filters = none_rest g.F.FilterCalls.state c.replace-filters.new.dest.items c.new.result.items (ap (λ v. v.items) c.replace-filters.ensures.after) c.new.ensures.items;
    }

pub returns-clause-protocol_room : goal.returns-clause-protocol_room
returns-clause-protocol_room g c =
    let as_many = ap length (c.as_slice-4.ensures.value ∙ c.in-Ok-begin.ensures.setups) in
    omega (arith, as_many, c.take_protocols.ensures.count, c.take_protocols.ensures.capacity, c.args.drivers.protocols.ok)
