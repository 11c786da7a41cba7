use Rattle.std.proofs.Common.{refl}
use Rattle.std.proofs.lemmas.Bool.{false≢true}
use Rattle.rule_filters.specs.Changes.Copying.{copied, lacking}
use Rattle.rule_filters.proofs.handling.pass_copy.Goals as goal

pub returns-in-Ok : goal.returns-in-Ok
returns-in-Ok c = copied (λ full. false≢true (c.in-Ok.ensures.no_list.1 full)) c.in-Ok.ensures.copies

pub returns-in-Err : goal.returns-in-Err
returns-in-Err c = lacking (c.in-Err.ensures.no_list.0 refl) c.in-Err.ensures.unchanged
