use Rattle.std.proofs.Common.{sym}
use Rattle.plain_walk.proofs.Turns.{stands_more}
use Rattle.plain_walk.proofs.stacks.WalkedStack.turn.Goals as goal

pub invariant_of-self-in-Some : goal.invariant_of-self-in-Some
invariant_of-self-in-Some c =
    stands_more c.self.inside.journal.head c.write.new.journal.head c.self.inside.journal.turns c.write.new.journal.turns
    c.self.inside.net c.in-Some.before c.make_turn.new.net c.in_ok-turn-in-Some.turn c.args.who c.args.event
    c.self.invariant (sym c.in-Some.ensures.value) c.in_ok-turn-in-Some.ensures.turn c.in_ok-turn-in-Some.ensures.after
    c.in_ok-write-in-Some.ensures.head c.in_ok-write-in-Some.ensures.turns
