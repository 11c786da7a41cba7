use Rattle.std.proofs.Common.{◌∙◌, ap, take}
use Rattle.flat_journal.specs.Payloads.{Payloads}
use Rattle.flat_journal.proofs.Grown.{grown_by_frames}
use Rattle.flat_journal.proofs.journal.FlatJournal.copy_frames.Goals as goal

pub returns-in_err-make_room-clause-grows : goal.returns-in_err-make_room-clause-grows
returns-in_err-make_room-clause-grows c =
    let done = c.make_room.ensures.payloads ∙ c.loop-frame.invariant.done in
    record {
      head = c.make_room.ensures.head ∙ c.loop-frame.invariant.head;
      turns = c.make_room.ensures.turns ∙ c.loop-frame.invariant.turns;
      rows = c.make_room.ensures.rows ∙ c.loop-frame.invariant.rows;
      payloads =
          grown_by_frames c.args.self.now.payloads c.make_room.new.self.payloads
          (take c.loop-frame.frame-index c.args.frames.now)
          (ap (λ (p : Payloads). p.frames) done) (ap (λ (p : Payloads). p.filters) done)
          (ap (λ (p : Payloads). p.setups) done);
    }
