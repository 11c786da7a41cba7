use Rattle.home_laws.specs.Rows.{rows_of}
use Rattle.home_laws.proofs.Homes.{shows_issued}
use Rattle.home_laws.proofs.Events.{journal_fits}
use Rattle.home_laws.proofs.frames_as_issued.Goals as goal

pub returns : goal.returns
returns c = λ head turns s. shows_issued (rows_of turns) (journal_fits head turns s).fit
