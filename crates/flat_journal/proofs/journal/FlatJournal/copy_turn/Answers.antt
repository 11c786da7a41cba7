use Rattle.std.proofs.Common.{◌≡◌, ◌∙◌, ◌++◌, ap}
use Rattle.flat_journal.specs.Grows.{Grows}
use Rattle.flat_journal.specs.Payloads.{Payloads}
use Rattle.flat_journal.specs.Shown.{event_of, reply_of}
use Rattle.flat_journal.proofs.Grown.{grows_twice, grows_into, event_of_same}
use Rattle.flat_journal.proofs.Copies.{turn_copied}
use Rattle.flat_journal.proofs.journal.FlatJournal.copy_turn.Goals as goal

pub returns-in_err-make_room-clause-payloads : goal.returns-in_err-make_room-clause-payloads
returns-in_err-make_room-clause-payloads c =
    let o : Payloads = c.args.self.now.payloads in
    let p : Payloads = c.copy_rows.new.self.payloads in
    let q : Payloads = c.copy_event.new.self.payloads in
    let r : Payloads = c.copy_reply.new.self.payloads in
    let grows : Grows o r = grows_twice o p r c.copy_rows.ensures.payloads (grows_twice p q r c.copy_event.ensures.grows.payloads c.copy_reply.ensures.grows.payloads) in
    grows_into o r c.make_room.new.self.payloads grows c.make_room.ensures.payloads

pub returns-clause-turns : goal.returns-clause-turns
returns-clause-turns c =
    let q : Payloads = c.copy_event.new.self.payloads in
    let r : Payloads = c.copy_reply.new.self.payloads in
    let now : Payloads = c.make_room.new.self.payloads in
    let payloads : now ≡ r = c.make_room.ensures.payloads in
    let event_shown : event_of q c.in_ok-event.event ≡ c.args.turn.now.event = c.in_ok-event.ensures.shown in
    let event : event_of now c.in_ok-event.event ≡ c.args.turn.now.event =
    ap (λ (x : Payloads). event_of x c.in_ok-event.event) payloads
    ∙ event_of_same q r c.copy_reply.ensures.grows.payloads c.in_ok-event.event c.in_ok-event.ensures.within
    ∙ event_shown in
    let reply_shown : reply_of r c.in_ok-reply.reply ≡ c.args.turn.now.reply = c.in_ok-reply.ensures.shown in
    let reply : reply_of now c.in_ok-reply.reply ≡ c.args.turn.now.reply =
    ap (λ (x : Payloads). reply_of x c.in_ok-reply.reply) payloads ∙ reply_shown in
    let written : c.copy_rows.new.self.rows ≡ c.args.self.now.rows ++ c.items.result.now = c.in_ok-copy_rows.ensures.rows in
    let rows : c.make_room.new.self.rows ≡ c.args.turn.now.rows =
    c.make_room.ensures.rows
    ∙ c.copy_reply.ensures.grows.rows
    ∙ c.copy_event.ensures.grows.rows
    ∙ written
    ∙ ap (λ xs. xs ++ c.items.result.now) c.requires
    ∙ c.items.ensures in
    let turns : c.make_room.new.self.turns ≡ c.args.self.now.turns =
    c.make_room.ensures.turns
    ∙ c.copy_reply.ensures.grows.turns
    ∙ c.copy_event.ensures.grows.turns
    ∙ c.copy_rows.ensures.turns in
    rw (← turns)
    (turn_copied c.make_room.new.self.turns c.end_turn.new.self.turns c.args.turn.now (event_of now c.in_ok-event.event) (reply_of now c.in_ok-reply.reply) c.make_room.new.self.rows c.end_turn.ensures.turns event reply rows)

pub returns-clause-payloads : goal.returns-clause-payloads
returns-clause-payloads c =
    let o : Payloads = c.args.self.now.payloads in
    let p : Payloads = c.copy_rows.new.self.payloads in
    let q : Payloads = c.copy_event.new.self.payloads in
    let r : Payloads = c.copy_reply.new.self.payloads in
    let grows : Grows o r = grows_twice o p r c.copy_rows.ensures.payloads (grows_twice p q r c.copy_event.ensures.grows.payloads c.copy_reply.ensures.grows.payloads) in
    grows_into o r c.end_turn.new.self.payloads grows (c.end_turn.ensures.payloads ∙ c.make_room.ensures.payloads)
