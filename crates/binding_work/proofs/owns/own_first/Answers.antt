use Rattle.std.proofs.Common.{subst}
use Rattle.binding_work.specs.Owns.{Owns}
use Rattle.binding_work.proofs.Owned.{up_begins, taken_own, may_own, count_own}
use Rattle.binding_work.proofs.owns.own_first.Goals as goal

pub take_list-list-requires : goal.take_list-list-requires
take_list-list-requires g c = up_begins c.args.tray.now c.make_room-2.new.self c.requires.first c.in_ok-make_room-2.ensures.same

pub own_to-requires-clause-may : goal.own_to-requires-clause-may
own_to-requires-clause-may g c =
    may_own (g.P.ProtocolCalls.state c.make_room.new.self) c.make_room-2.new.self c.take_list-list.new.tray c.take_list-list.result.0 c.args.pool.now
    (count_own (g.P.ProtocolCalls.state c.make_room.new.self) (g.P.ProtocolCalls.state c.args.protocol.now) c.served.result c.in_ok-make_room.ensures.state c.served.ensures c.if-served-ge-FAR.false) c.requires.pool
    (taken_own c.args.tray.now c.make_room-2.new.self c.take_list-list.new.tray c.take_list-list.result.0 c.take_list-list.result.1 c.take_list-list.result.2 c.requires.first c.in_ok-make_room-2.ensures.same c.take_list-list.ensures)
    c.in_ok-make_room-2.ensures.room.rows c.in_ok-make_room-2.ensures.room.frames c.in_ok-make_room-2.ensures.room.bytes c.in_ok-make_room-2.ensures.slack c.in_ok-make_room-2.ensures.low

pub returns-clause-owns : goal.returns-clause-owns
returns-clause-owns g c =
    record {
      roomy = c.make_room-2.new.self;
      roomed = record { same = c.in_ok-make_room-2.ensures.same; covers = c.in_ok-make_room-2.ensures.room_kept; slack = c.in_ok-make_room-2.ensures.slack_kept };
      turns = c.in_ok-make_room-2.ensures.room.turns;
      list = c.take_list-list.result.0;
      taken = c.take_list-list.new.tray;
      takes = (taken_own c.args.tray.now c.make_room-2.new.self c.take_list-list.new.tray c.take_list-list.result.0 c.take_list-list.result.1 c.take_list-list.result.2 c.requires.first c.in_ok-make_room-2.ensures.same c.take_list-list.ensures).takes;
      owns = subst (λ s. Owns c.args.binding c.take_list-list.result.0 s c.take_list-list.new.tray c.args.pool.now (g.P.ProtocolCalls.state c.own_to.new.protocol) c.own_to.new.tray c.own_to.new.pool) c.in_ok-make_room.ensures.state c.own_to.ensures;
    }
