use Rattle.stack_steps.proofs.steps.transmit_oldest.Goals as goal

pub returns-clause-within : goal.returns-clause-within
returns-clause-within g c = c.wired_reply.ensures.within c.transmit.new.book.tray.payloads
