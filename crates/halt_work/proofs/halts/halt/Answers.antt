use Rattle.std.proofs.Common.{[], ap, sym, ◌∙◌}
use Rattle.stack_rules.specs.Pauses.{halt_items}
use Rattle.book_lemmas.specs.Views.{BookView, hands_of}
use Rattle.book_parts.specs.Parts.{view_of}
use Rattle.driver_tray.specs.Tray.{TrayView}
use Rattle.rewire_work.proofs.Asked.{on_err_any, same_unmoved}
use Rattle.rewire_work.proofs.AskedToo.{shelf_unmoved}
use Rattle.rewire_work.proofs.Counted.{statuses_counted}
use Rattle.halt_work.proofs.Asked.{not_halted, may_here, numbers_here, few_here, was_halted}
use Rattle.halt_work.proofs.halts.halt.Goals as goal

pub halt_count-requires : goal.halt_count-requires
halt_count-requires g c =
    let old : BookView = view_of g.M.MiniportCalls.state g.P.ProtocolCalls.state g.F.FilterCalls.state c.args.book.now in
    statuses_counted old.tray.net (hands_of old.tray.queue old.held []) c.requires.book.stands.agrees

pub returns-in_default-clause-memory : goal.returns-in_default-clause-memory
returns-in_default-clause-memory g c =
    same_unmoved (view_of g.M.MiniportCalls.state g.P.ProtocolCalls.state g.F.FilterCalls.state c.args.book.now) c.requires.book

pub returns-in_default-halt_count-clause-memory : goal.returns-in_default-halt_count-clause-memory
returns-in_default-halt_count-clause-memory g c =
    same_unmoved (view_of g.M.MiniportCalls.state g.P.ProtocolCalls.state g.F.FilterCalls.state c.args.book.now) c.requires.book

pub returns-in_err-make_room-clause-memory : goal.returns-in_err-make_room-clause-memory
returns-in_err-make_room-clause-memory g c =
    on_err_any c.from_residual.result _ (shelf_unmoved (view_of g.M.MiniportCalls.state g.P.ProtocolCalls.state g.F.FilterCalls.state c.args.book.now) c.make_room.new.tray c.make_room.new.shelf.items c.requires.book c.make_room.ensures.tray c.make_room.ensures.shelf)

pub halt_refusal-requires : goal.halt_refusal-requires
halt_refusal-requires g c =
    c.in-Some-halt_count.ensures ∙ ap halt_items (sym (ap (λ (t : TrayView). t.net) c.make_room.ensures.tray.same))

pub returns-in-Some-halt_refusal-clause-did : goal.returns-in-Some-halt_refusal-clause-did
returns-in-Some-halt_refusal-clause-did g c =
    (not_halted (view_of g.M.MiniportCalls.state g.P.ProtocolCalls.state g.F.FilterCalls.state c.args.book.now) c.make_room.new.tray c.make_room.new.shelf.items c.requires.book c.requires.idle c.make_room.ensures.tray c.make_room.ensures.shelf
    c.in_ok-make_room.ensures.wide.turns c.in-Some-halt_refusal.cause (sym c.halt_refusal.ensures ∙ c.in-Some-halt_refusal.is)).did

pub returns-in-Some-halt_refusal-clause-shelf : goal.returns-in-Some-halt_refusal-clause-shelf
returns-in-Some-halt_refusal-clause-shelf g c =
    (not_halted (view_of g.M.MiniportCalls.state g.P.ProtocolCalls.state g.F.FilterCalls.state c.args.book.now) c.make_room.new.tray c.make_room.new.shelf.items c.requires.book c.requires.idle c.make_room.ensures.tray c.make_room.ensures.shelf
    c.in_ok-make_room.ensures.wide.turns c.in-Some-halt_refusal.cause (sym c.halt_refusal.ensures ∙ c.in-Some-halt_refusal.is)).shelf

pub returns-in-Some-halt_refusal-clause-turn : goal.returns-in-Some-halt_refusal-clause-turn
returns-in-Some-halt_refusal-clause-turn g c =
    record { room = c.in_ok-make_room.ensures.wide.turns }

pub halt_all-requires-clause-may : goal.halt_all-requires-clause-may
halt_all-requires-clause-may g c =
    may_here (view_of g.M.MiniportCalls.state g.P.ProtocolCalls.state g.F.FilterCalls.state c.args.book.now) c.make_room.new.tray c.make_room.new.shelf.items c.requires.book c.requires.idle c.make_room.ensures.tray c.make_room.ensures.shelf (sym c.halt_refusal.ensures ∙ c.in_default-halt_refusal.is) c.in-Some.bindings c.in-Some.ensures.all

pub halt_all-requires-clause-numbers : goal.halt_all-requires-clause-numbers
halt_all-requires-clause-numbers g c =
    numbers_here (view_of g.M.MiniportCalls.state g.P.ProtocolCalls.state g.F.FilterCalls.state c.args.book.now) c.make_room.new.tray c.make_room.new.shelf.items c.requires.book c.requires.idle c.make_room.ensures.tray c.make_room.ensures.shelf (sym c.halt_refusal.ensures ∙ c.in_default-halt_refusal.is) c.next_fits.ensures

pub halt_all-requires-clause-few : goal.halt_all-requires-clause-few
halt_all-requires-clause-few g c =
    few_here (view_of g.M.MiniportCalls.state g.P.ProtocolCalls.state g.F.FilterCalls.state c.args.book.now) c.make_room.new.tray c.make_room.new.shelf.items c.requires.book c.requires.idle c.make_room.ensures.tray c.make_room.ensures.shelf (sym c.halt_refusal.ensures ∙ c.in_default-halt_refusal.is)

pub halt_all-requires-clause-wide : goal.halt_all-requires-clause-wide
halt_all-requires-clause-wide g c =
    c.in_ok-make_room.ensures.wide

pub halt_all-requires-clause-places : goal.halt_all-requires-clause-places
halt_all-requires-clause-places g c =
    c.in_ok-make_room.ensures.places

pub returns-clause-did : goal.returns-clause-did
returns-clause-did g c =
    (was_halted (view_of g.M.MiniportCalls.state g.P.ProtocolCalls.state g.F.FilterCalls.state c.args.book.now) c.make_room.new.tray c.make_room.new.shelf.items c.requires.book c.requires.idle c.make_room.ensures.tray c.make_room.ensures.shelf
    c.in_ok-make_room.ensures.wide.turns (view_of g.M.MiniportCalls.state g.P.ProtocolCalls.state g.F.FilterCalls.state c.halt_all.new.book) c.in-Some.bindings c.in-Some.ensures.all (sym c.halt_refusal.ensures ∙ c.in_default-halt_refusal.is) c.halt_all.ensures).did

pub returns-clause-shelf : goal.returns-clause-shelf
returns-clause-shelf g c =
    (was_halted (view_of g.M.MiniportCalls.state g.P.ProtocolCalls.state g.F.FilterCalls.state c.args.book.now) c.make_room.new.tray c.make_room.new.shelf.items c.requires.book c.requires.idle c.make_room.ensures.tray c.make_room.ensures.shelf
    c.in_ok-make_room.ensures.wide.turns (view_of g.M.MiniportCalls.state g.P.ProtocolCalls.state g.F.FilterCalls.state c.halt_all.new.book) c.in-Some.bindings c.in-Some.ensures.all (sym c.halt_refusal.ensures ∙ c.in_default-halt_refusal.is) c.halt_all.ensures).shelf

pub returns-clause-turn : goal.returns-clause-turn
returns-clause-turn g c =
    (was_halted (view_of g.M.MiniportCalls.state g.P.ProtocolCalls.state g.F.FilterCalls.state c.args.book.now) c.make_room.new.tray c.make_room.new.shelf.items c.requires.book c.requires.idle c.make_room.ensures.tray c.make_room.ensures.shelf
    c.in_ok-make_room.ensures.wide.turns (view_of g.M.MiniportCalls.state g.P.ProtocolCalls.state g.F.FilterCalls.state c.halt_all.new.book) c.in-Some.bindings c.in-Some.ensures.all (sym c.halt_refusal.ensures ∙ c.in_default-halt_refusal.is) c.halt_all.ensures).turn
