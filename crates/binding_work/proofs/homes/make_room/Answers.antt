use Rattle.std.proofs.Common.{refl}
use Rattle.book_lemmas.specs.Views.{no_protocol}
use Rattle.binding_work.proofs.Homing.{old_at, count_at}
use Rattle.binding_work.proofs.homes.make_room.Goals as goal

pub returns-clause-ready : goal.returns-clause-ready
returns-clause-ready g c =
    record {
      roomed = record { tray = c.in_ok-make_room.ensures.same; covers = c.in_ok-make_room.ensures.room_kept; slack = c.in_ok-make_room.ensures.slack_kept; held = refl };
      turns = c.in_ok-make_room.ensures.room.turns;
      rows = c.in_ok-make_room.ensures.room.rows;
      count = count_at _ _ c.served.result (old_at g.P.ProtocolCalls.state c.args.book.now.protocols.items c.args.binding no_protocol c.index.result.now c.requires c.index.ensures) c.served.ensures c.if-served-ge-FAR.false;
    }
