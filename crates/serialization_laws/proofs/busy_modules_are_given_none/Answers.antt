use Rattle.serialization_laws.proofs.Busy.{none_is_busy}
use Rattle.serialization_laws.proofs.busy_modules_are_given_none.Goals as goal

pub returns : goal.returns
returns c = none_is_busy
