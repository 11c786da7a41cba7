use Rattle.std.proofs.Common.{◌==◌, not, filter, [], ap, sym, ◌∙◌}
use Rattle.stack_rules.specs.Pauses.{live_items}
use Rattle.book_lemmas.specs.Views.{BookView, hands_of}
use Rattle.book_parts.specs.Parts.{view_of}
use Rattle.driver_tray.specs.Tray.{TrayView}
use Rattle.rewire_work.proofs.Asked.{on_err_any, same_unmoved}
use Rattle.rewire_work.proofs.AskedToo.{shelf_unmoved, shelf_book, shelf_rest, not_removed, was_removed}
use Rattle.rewire_work.proofs.Causes.{is_there}
use Rattle.rewire_work.proofs.Counted.{statuses_counted}
use Rattle.rewire_work.proofs.removes.remove.Goals as goal

pub live_count-requires : goal.live_count-requires
live_count-requires g c =
    let old : BookView = view_of g.M.MiniportCalls.state g.P.ProtocolCalls.state g.F.FilterCalls.state c.args.book.now in
    statuses_counted old.tray.net (hands_of old.tray.queue old.held []) c.requires.book.stands.agrees

pub returns-in_default-clause-memory : goal.returns-in_default-clause-memory
returns-in_default-clause-memory g c = same_unmoved (view_of g.M.MiniportCalls.state g.P.ProtocolCalls.state g.F.FilterCalls.state c.args.book.now) c.requires.book

pub returns-in_err-make_room-clause-memory : goal.returns-in_err-make_room-clause-memory
returns-in_err-make_room-clause-memory g c =
    on_err_any c.from_residual.result _ (shelf_unmoved (view_of g.M.MiniportCalls.state g.P.ProtocolCalls.state g.F.FilterCalls.state c.args.book.now) c.make_room.new.tray c.make_room.new.places.items c.requires.book c.make_room.ensures.tray c.make_room.ensures.places)

pub rewire_refusal-requires : goal.rewire_refusal-requires
rewire_refusal-requires g c = c.in-Some.ensures ∙ ap live_items (sym (ap (λ (t : TrayView). t.net) c.make_room.ensures.tray.same))

pub returns-in-Some-rewire_refusal-clause-did : goal.returns-in-Some-rewire_refusal-clause-did
returns-in-Some-rewire_refusal-clause-did g c =
    (not_removed (view_of g.M.MiniportCalls.state g.P.ProtocolCalls.state g.F.FilterCalls.state c.args.book.now) c.make_room.new.tray c.make_room.new.places.items c.requires.book c.make_room.ensures.tray c.make_room.ensures.places
    c.requires.idle c.in_ok-make_room.ensures.ready.turns c.args.filter c.in-Some-rewire_refusal.cause (sym c.rewire_refusal.ensures ∙ c.in-Some-rewire_refusal.is)).did

pub returns-in-Some-rewire_refusal-clause-shelf : goal.returns-in-Some-rewire_refusal-clause-shelf
returns-in-Some-rewire_refusal-clause-shelf g c =
    (not_removed (view_of g.M.MiniportCalls.state g.P.ProtocolCalls.state g.F.FilterCalls.state c.args.book.now) c.make_room.new.tray c.make_room.new.places.items c.requires.book c.make_room.ensures.tray c.make_room.ensures.places
    c.requires.idle c.in_ok-make_room.ensures.ready.turns c.args.filter c.in-Some-rewire_refusal.cause (sym c.rewire_refusal.ensures ∙ c.in-Some-rewire_refusal.is)).shelf

pub returns-in-Some-rewire_refusal-clause-turn : goal.returns-in-Some-rewire_refusal-clause-turn
returns-in-Some-rewire_refusal-clause-turn g c = record { room = c.in_ok-make_room.ensures.ready.turns }

pub returns-then-not-is_low-clause-memory : goal.returns-then-not-is_low-clause-memory
returns-then-not-is_low-clause-memory g c =
    shelf_unmoved (view_of g.M.MiniportCalls.state g.P.ProtocolCalls.state g.F.FilterCalls.state c.args.book.now) c.make_room.new.tray c.make_room.new.places.items c.requires.book c.make_room.ensures.tray c.make_room.ensures.places

pub returns-in_err-order-clause-memory : goal.returns-in_err-order-clause-memory
returns-in_err-order-clause-memory g c =
    on_err_any c.from_residual-in_err-order.result _ (shelf_unmoved (view_of g.M.MiniportCalls.state g.P.ProtocolCalls.state g.F.FilterCalls.state c.args.book.now) c.make_room.new.tray c.make_room.new.places.items c.requires.book c.make_room.ensures.tray c.make_room.ensures.places)

pub remove_at-requires-clause-book : goal.remove_at-requires-clause-book
remove_at-requires-clause-book g c =
    shelf_book (view_of g.M.MiniportCalls.state g.P.ProtocolCalls.state g.F.FilterCalls.state c.args.book.now) c.make_room.new.tray c.make_room.new.places.items c.requires.book c.make_room.ensures.tray c.make_room.ensures.places

pub remove_at-requires-clause-rest : goal.remove_at-requires-clause-rest
remove_at-requires-clause-rest g c =
    shelf_rest (view_of g.M.MiniportCalls.state g.P.ProtocolCalls.state g.F.FilterCalls.state c.args.book.now) c.make_room.new.tray c.make_room.new.places.items c.requires.book c.make_room.ensures.tray c.make_room.ensures.places c.requires.idle
    c.args.filter (sym c.rewire_refusal.ensures ∙ c.in_default-rewire_refusal.is)

pub remove_at-requires-clause-ready : goal.remove_at-requires-clause-ready
remove_at-requires-clause-ready g c = c.in_ok-make_room.ensures.ready

pub remove_at-requires-clause-place : goal.remove_at-requires-clause-place
remove_at-requires-clause-place g c = c.in_ok-make_room.ensures.place

pub remove_at-requires-clause-there : goal.remove_at-requires-clause-there
remove_at-requires-clause-there g c = is_there c.make_room.new.tray.net c.args.filter (sym c.rewire_refusal.ensures ∙ c.in_default-rewire_refusal.is)

pub remove_at-requires-clause-order : goal.remove_at-requires-clause-order
remove_at-requires-clause-order g c = c.as_slice.ensures.value ∙ c.in_ok-order.ensures ∙ ap (filter (λ g. not (g == c.args.filter))) c.order.ensures

pub returns-clause-did : goal.returns-clause-did
returns-clause-did g c =
    (was_removed (view_of g.M.MiniportCalls.state g.P.ProtocolCalls.state g.F.FilterCalls.state c.args.book.now) c.make_room.new.tray c.make_room.new.places.items c.requires.book c.make_room.ensures.tray c.make_room.ensures.places
    c.requires.idle c.in_ok-make_room.ensures.ready.turns (view_of g.M.MiniportCalls.state g.P.ProtocolCalls.state g.F.FilterCalls.state c.remove_at.new.book) c.args.filter (sym c.rewire_refusal.ensures ∙ c.in_default-rewire_refusal.is) c.remove_at.ensures).did

pub returns-clause-shelf : goal.returns-clause-shelf
returns-clause-shelf g c =
    (was_removed (view_of g.M.MiniportCalls.state g.P.ProtocolCalls.state g.F.FilterCalls.state c.args.book.now) c.make_room.new.tray c.make_room.new.places.items c.requires.book c.make_room.ensures.tray c.make_room.ensures.places
    c.requires.idle c.in_ok-make_room.ensures.ready.turns (view_of g.M.MiniportCalls.state g.P.ProtocolCalls.state g.F.FilterCalls.state c.remove_at.new.book) c.args.filter (sym c.rewire_refusal.ensures ∙ c.in_default-rewire_refusal.is) c.remove_at.ensures).shelf

pub returns-clause-turn : goal.returns-clause-turn
returns-clause-turn g c =
    (was_removed (view_of g.M.MiniportCalls.state g.P.ProtocolCalls.state g.F.FilterCalls.state c.args.book.now) c.make_room.new.tray c.make_room.new.places.items c.requires.book c.make_room.ensures.tray c.make_room.ensures.places
    c.requires.idle c.in_ok-make_room.ensures.ready.turns (view_of g.M.MiniportCalls.state g.P.ProtocolCalls.state g.F.FilterCalls.state c.remove_at.new.book) c.args.filter (sym c.rewire_refusal.ensures ∙ c.in_default-rewire_refusal.is) c.remove_at.ensures).turn
