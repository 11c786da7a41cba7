use Rattle.std.proofs.Common.{rules, ◌≡◌, false}
use Rattle.script_runs.specs.Built.{is_built}
use Rattle.ndis_cli.proofs.Answered.{faulty, unbuilt, not-fine, not-unbuilt, same-script}
use Rattle.ndis_cli.proofs.top.read_built.Goals as goal

pub returns-in-Err-Bad-clause-bad : goal.returns-in-Err-Bad-clause-bad
returns-in-Err-Bad-clause-bad g c at why e =
    faulty _ _ _ _ _ _ _ at _ _ why c.in-Ok.ensures.all c.in-Ok.ensures.end c.as_slice.ensures.value c.in-Err-Bad.ensures c.in-Err-Bad.field-0-is c.in-Err-Bad.place-is c.in-Err-Bad.cause-is e

pub returns-in-Err-Bad-clause-unfit : goal.returns-in-Err-Bad-clause-unfit
returns-in-Err-Bad-clause-unfit g c at why e fine =
    not-fine _ _ _ _ _ _ _ c.in-Ok.ensures.all c.in-Ok.ensures.end c.as_slice.ensures.value c.in-Err-Bad.ensures c.in-Err-Bad.field-0-is fine

pub returns-then-not-is_built-clause-bad : goal.returns-then-not-is_built-clause-bad
returns-then-not-is_built-clause-bad g c at why e =
    let un : is_built c.in-Ok-read_script.script ≡ false = search rules in
    unbuilt _ _ _ _ c.in-Ok-read_script.script at why c.in-Ok.ensures.all c.in-Ok.ensures.end c.as_slice.ensures.value c.in-Ok-read_script.ensures un e

pub returns-then-not-is_built-clause-unfit : goal.returns-then-not-is_built-clause-unfit
returns-then-not-is_built-clause-unfit g c at why e fine =
    let un : is_built c.in-Ok-read_script.script ≡ false = search rules in
    not-unbuilt _ _ _ _ c.in-Ok-read_script.script c.in-Ok.ensures.all c.in-Ok.ensures.end c.as_slice.ensures.value c.in-Ok-read_script.ensures un fine

pub returns-clause-only : goal.returns-clause-only
returns-clause-only g c fine = same-script _ _ _ _ _ c.in-Ok.ensures.all c.in-Ok.ensures.end c.as_slice.ensures.value c.in-Ok-read_script.ensures fine
