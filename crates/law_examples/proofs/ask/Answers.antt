use Rattle.law_examples.proofs.Sound.{sound_asked}
use Rattle.law_examples.proofs.ask.Goals as goal

pub returns : goal.returns
returns c = λ done. sound_asked _ _ _ _ _ _ _ c.requires c.may_ask.ensures c.head.ensures c.if-not-may_ask.false c.in_ok-turn.ensures.head c.in_ok-turn.ensures.turn
