use Rattle.std.proofs.Common.{ap, map}
use Rattle.book_parts.specs.Parts.{view_of}
use Rattle.book_opening.specs.Opened.{handed_of}
use Rattle.script_runs.proofs.Back.{are_of_kinds, comes_back, enough_drivers, leaves_drivers}
use Rattle.script_runs.proofs.Only.{only_item, runnable, may_run, few_filters, fine_filters, calls_asked, calls_below}
use Rattle.script_runs.proofs.Run.{is_run}
use Rattle.script_runs.proofs.runs.run_script.Goals as goal

pub run_stack-requires-clause-halted : goal.run_stack-requires-clause-halted
run_stack-requires-clause-halted g c =
    may_run c.stack-item.result c.items-3.result.now c.in-Ok.head (view_of g.M.MiniportCalls.state g.P.ProtocolCalls.state g.F.FilterCalls.state c.in-Ok-open.opened.0)
    (runnable c.args.script.now c.items.result.now c.stack-item.result c.items-3.result.now c.requires.built c.items.ensures
    (only_item c.items.result.now c.stack-item.result c.in-len1.len_at_least c.in-len1.len_below c.stack-item.is) c.items-3.ensures)
    c.in-Ok.ensures c.in-Ok-open.ensures.opened

pub run_stack-requires-clause-few : goal.run_stack-requires-clause-few
run_stack-requires-clause-few g c =
    few_filters c.stack-item.result c.items-3.result.now c.items-2.result.now
    (runnable c.args.script.now c.items.result.now c.stack-item.result c.items-3.result.now c.requires.built c.items.ensures
    (only_item c.items.result.now c.stack-item.result c.in-len1.len_at_least c.in-len1.len_below c.stack-item.is) c.items-3.ensures) c.items-2.ensures

pub run_stack-requires-clause-fine : goal.run_stack-requires-clause-fine
run_stack-requires-clause-fine g c =
    fine_filters c.stack-item.result c.items-3.result.now c.items-2.result.now
    (runnable c.args.script.now c.items.result.now c.stack-item.result c.items-3.result.now c.requires.built c.items.ensures
    (only_item c.items.result.now c.stack-item.result c.in-len1.len_at_least c.in-len1.len_below c.stack-item.is) c.items-3.ensures) c.items-2.ensures

pub run_stack-requires-clause-asked : goal.run_stack-requires-clause-asked
run_stack-requires-clause-asked g c =
    calls_asked c.stack-item.result c.items-3.result.now c.in-Ok-open.opened.0.tray.head c.in-Ok.head
    (runnable c.args.script.now c.items.result.now c.stack-item.result c.items-3.result.now c.requires.built c.items.ensures
    (only_item c.items.result.now c.stack-item.result c.in-len1.len_at_least c.in-len1.len_below c.stack-item.is) c.items-3.ensures)
    c.in-Ok-open.ensures.opened.head_is c.in-Ok.ensures

pub run_stack-requires-clause-below : goal.run_stack-requires-clause-below
run_stack-requires-clause-below g c = calls_below c.args.script.now c.items-3.result.now c.requires.built c.items-3.ensures

pub returns-in-Ok-run_stack-clause-run : goal.returns-in-Ok-run_stack-clause-run
returns-in-Ok-run_stack-clause-run g c =
    is_run c.args.script.now c.args.order.now c.items.result.now c.stack-item.result c.items-3.result.now c.items-2.result.now c.in-Ok.head c.close.result.1.head c.close.result.1.turns
    (view_of g.M.MiniportCalls.state g.P.ProtocolCalls.state g.F.FilterCalls.state c.in-Ok-open.opened.0) (view_of g.M.MiniportCalls.state g.P.ProtocolCalls.state g.F.FilterCalls.state c.run_stack.new.book) c.items.ensures
    (only_item c.items.result.now c.stack-item.result c.in-len1.len_at_least c.in-len1.len_below c.stack-item.is)
    c.items-3.ensures c.items-2.ensures c.in-Ok.ensures c.in-Ok-open.ensures.opened.head_is c.in-Ok-run_stack.ensures.whole c.in-Ok-run_stack.ensures.in_order c.in-Ok-run_stack.ensures.followed c.in-Ok-run_stack.ensures.laws c.in-Ok-run_stack.ensures.sound
    c.in-Ok-run_stack.ensures.served c.close.ensures.head c.close.ensures.turns

pub returns-in-Ok-run_stack-clause-back : goal.returns-in-Ok-run_stack-clause-back
returns-in-Ok-run_stack-clause-back g c =
    comes_back c.args.script.now.stacks c.items.result.now c.stack-item.result c.in-Ok.head c.in-Ok-open.opened.0.tray.head c.items-2.result.now (handed_of g.M.MiniportCalls.state g.P.ProtocolCalls.state g.F.FilterCalls.state c.args.drivers)
    (handed_of g.M.MiniportCalls.state g.P.ProtocolCalls.state g.F.FilterCalls.state c.in-Ok-open.opened.1)
    (handed_of g.M.MiniportCalls.state g.P.ProtocolCalls.state g.F.FilterCalls.state c.close.result.0)
    (view_of g.M.MiniportCalls.state g.P.ProtocolCalls.state g.F.FilterCalls.state c.in-Ok-open.opened.0).held (view_of g.M.MiniportCalls.state g.P.ProtocolCalls.state g.F.FilterCalls.state c.run_stack.new.book).held
    c.run_stack.new.book.tray.turns c.close.result.1.turns c.items.ensures
    (only_item c.items.result.now c.stack-item.result c.in-len1.len_at_least c.in-len1.len_below c.stack-item.is) c.in-Ok.ensures c.in-Ok-open.ensures.takes
    (ap (map g.F.FilterCalls.state) c.in-Ok-open.ensures.no_shelf) c.in-Ok-open.ensures.opened.head_is c.items-2.ensures c.in-Ok-run_stack.ensures.served c.close.ensures.turns c.close.ensures.miniports c.close.ensures.protocols
    (ap (λ v. map g.F.FilterCalls.state v.items) c.close.ensures.shelf) (ap (λ v. map g.F.FilterCalls.state v.items) c.in-Ok-open.ensures.filters)
    (c.in-Ok-run_stack.ensures.filters_served c.in-Ok-open.ensures.opened.shelved)
    (are_of_kinds (view_of g.M.MiniportCalls.state g.P.ProtocolCalls.state g.F.FilterCalls.state c.in-Ok-open.opened.0) (view_of g.M.MiniportCalls.state g.P.ProtocolCalls.state g.F.FilterCalls.state c.run_stack.new.book) c.in-Ok-open.ensures.opened.book
    c.in-Ok-open.ensures.opened.idle c.in-Ok-run_stack.ensures.whole.now.between.book c.in-Ok-run_stack.ensures.whole.now.between.idle c.in-Ok-run_stack.ensures.whole.head_is)

pub returns-in-Ok-run_stack-clause-enough : goal.returns-in-Ok-run_stack-clause-enough
returns-in-Ok-run_stack-clause-enough g c =
    enough_drivers c.args.script.now.stacks c.items.result.now c.stack-item.result c.in-Ok.head (handed_of g.M.MiniportCalls.state g.P.ProtocolCalls.state g.F.FilterCalls.state c.args.drivers) c.items.ensures
    (only_item c.items.result.now c.stack-item.result c.in-len1.len_at_least c.in-len1.len_below c.stack-item.is) c.in-Ok.ensures c.in-Ok-open.ensures.enough

pub returns-in-Err-clause-left : goal.returns-in-Err-clause-left
returns-in-Err-clause-left g c lost =
    leaves_drivers c.args.script.now.stacks c.items.result.now c.stack-item.result c.in-Ok.head (handed_of g.M.MiniportCalls.state g.P.ProtocolCalls.state g.F.FilterCalls.state c.args.drivers)
    (handed_of g.M.MiniportCalls.state g.P.ProtocolCalls.state g.F.FilterCalls.state c.in-Ok-open.opened.1) _ _ c.items.ensures
    (only_item c.items.result.now c.stack-item.result c.in-len1.len_at_least c.in-len1.len_below c.stack-item.is) c.in-Ok.ensures c.in-Ok-open.ensures.takes (ap (map g.F.FilterCalls.state) c.in-Ok-open.ensures.no_shelf)
