use Rattle.std.proofs.Common.{rules}
use Rattle.book_runs.proofs.Called.{answers_so, call_alone, call_tailed}
use Rattle.book_runs.proofs.calls.run_call.Goals as goal

pub returns-then-not-pump-clause-made : goal.returns-then-not-pump-clause-made
returns-then-not-pump-clause-made g c = call_alone _ _ _ _ (search rules) c.in_ok-reply.ensures.turned

pub tail-requires-clause-answers : goal.tail-requires-clause-answers
tail-requires-clause-answers g c = answers_so _ _ c.in_ok-reply.ensures.turned

pub returns-clause-made : goal.returns-clause-made
returns-clause-made g c = call_tailed _ _ _ _ (search rules) c.in_ok-reply.ensures.turned c.in_ok-tail.ensures.tail
