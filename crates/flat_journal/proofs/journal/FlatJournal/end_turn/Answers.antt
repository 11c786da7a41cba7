use Rattle.std.proofs.Common.{◌≡◌, ap, length, arith, sym, subst}
use Rattle.flat_journal.specs.Flat.{FlatView}
use Rattle.flat_journal.specs.Laid.{payloads_of}
use Rattle.flat_journal.specs.Payloads.{Payloads}
use Rattle.flat_journal.specs.Within.{EventWithin, ReplyWithin}
use Rattle.flat_journal.proofs.Laid.{kept-ended}
use Rattle.flat_journal.proofs.journal.FlatJournal.end_turn.Goals as goal

pub invariant_of-self : goal.invariant_of-self
invariant_of-self c =
    let payloads : c.args.self.now.payloads ≡ payloads_of c.self.inside = sym (ap (λ (v : FlatView). v.payloads) c.self.view_is) in
    let E : Payloads → Type 0 = λ p. EventWithin p c.args.event in
    let R : Payloads → Type 0 = λ p. ReplyWithin p c.args.reply in
    let end : c.len-end.result ≡ length c.self.inside.rows.items = omega arith in
    rw (c.push_reserved.ensures.items, end)
    (kept-ended (payloads_of c.self.inside) c.self.inside.turns.items c.self.inside.rows.items c.self.inside.begun
    (record { who = c.args.who; event = c.args.event; reply = c.args.reply; first = c.self.inside.begun; end = length c.self.inside.rows.items }) c.self.invariant
    (record {
      event = subst E payloads c.requires.event;
      reply = subst R payloads c.requires.reply;
      ordered = c.self.invariant.begun_within;
      ended = omega arith;
    }))
