use Rattle.std.proofs.Common.{inr}
use Rattle.outside_io.specs.Edges.{AddsPrefix}
use Rattle.ndis_cli.specs.Answers.{AddsAll}
use Rattle.ndis_cli.proofs.Answered.{gives-up, replayed}
use Rattle.ndis_cli.proofs.top.replay.Goals as goal

pub returns-in-Ok-write_flat_report-clause-done : goal.returns-in-Ok-write_flat_report-clause-done
returns-in-Ok-write_flat_report-clause-done g c e =
    replayed AddsAll _ _ c.args.script.now c.args.order.now _ c.in-Ok.journal _ _ c.from_ref.ensures.value c.in-Ok.ensures.run c.in-Ok.ensures.back c.in-Ok-write_flat_report.ensures.whole

pub returns-in-Err-Failed-clause-cut : goal.returns-in-Err-Failed-clause-cut
returns-in-Err-Failed-clause-cut g c e =
    replayed AddsPrefix _ _ c.args.script.now c.args.order.now _ c.in-Ok.journal _ _ c.from_ref.ensures.value c.in-Ok.ensures.run c.in-Ok.ensures.back c.in-Err-Failed.ensures.prefix

pub returns-clause-memory : goal.returns-clause-memory
returns-clause-memory g c e =
    inr (replayed AddsPrefix _ _ c.args.script.now c.args.order.now _ c.in-Ok.journal _ _ c.from_ref.ensures.value c.in-Ok.ensures.run c.in-Ok.ensures.back c.in-Err-Memory.ensures.prefix)

pub returns-clause-given_up : goal.returns-clause-given_up
returns-clause-given_up g c e = inr (inr (c.in-Ok.journal.turns, c.in-Ok.ensures.back))

pub returns-in-Err-clause-given_up : goal.returns-in-Err-clause-given_up
returns-in-Err-clause-given_up g c e = gives-up _ _ _ _ (c.in-Err.ensures.given_up e)
