use Rattle.binding_work.proofs.Homing.{set_at}
use Rattle.lend_work.proofs.Placed.{visits_at, may_visit_at, room_at, room_left}
use Rattle.lend_work.proofs.visits.lend_at.Goals as goal

pub lend_to-requires-clause-may : goal.lend_to-requires-clause-may
lend_to-requires-clause-may g c =
    may_visit_at g.F.FilterCalls.state c.args.filters.now.items c.args.place c.index_mut.result.now c.args.pools.now.items c.index_mut-2.result.now c.args.list.now c.args.tray.now
    c.requires.filters c.index_mut.ensures.value c.requires.pools c.index_mut-2.ensures.value c.requires.may

pub lend_to-requires-clause-room : goal.lend_to-requires-clause-room
lend_to-requires-clause-room g c = room_at g.F.FilterCalls.room c.args.filters.now.items c.args.place c.index_mut.result.now c.requires.filters c.index_mut.ensures.value c.requires.room

pub returns-clause-visits : goal.returns-clause-visits
returns-clause-visits g c =
    visits_at g.F.FilterCalls.state c.args.filters.now.items c.args.place c.index_mut.result.now c.lend_to.new.filter c.args.pools.now.items c.index_mut-2.result.now c.lend_to.new.pool c.args.f c.args.list.now c.args.tray.now c.lend_to.new.tray
    c.lend_to.result c.requires.filters c.index_mut.ensures.value c.requires.pools c.index_mut-2.ensures.value c.requires.may.setup c.lend_to.ensures.visits

pub returns-clause-rooms : goal.returns-clause-rooms
returns-clause-rooms g c = set_at g.F.FilterCalls.room c.args.filters.now.items c.args.place 0 c.lend_to.new.filter c.requires.filters

pub returns-clause-room : goal.returns-clause-room
returns-clause-room g c = λ none.
    room_left g.F.FilterCalls.room c.args.filters.now.items c.args.place c.index_mut.result.now c.lend_to.new.filter c.requires.filters
    (room_at g.F.FilterCalls.room c.args.filters.now.items c.args.place c.index_mut.result.now c.requires.filters c.index_mut.ensures.value c.requires.room) (c.lend_to.ensures.room none)
