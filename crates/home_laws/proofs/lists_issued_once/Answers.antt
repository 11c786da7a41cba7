use Rattle.home_laws.specs.Rows.{rows_of}
use Rattle.home_laws.proofs.Homes.{issued_once, named_after_issue, origin_out}
use Rattle.home_laws.proofs.Events.{journal_fits}
use Rattle.home_laws.proofs.lists_issued_once.Goals as goal

pub returns : goal.returns
returns c = record {
  once = λ head turns s. issued_once (rows_of turns) (journal_fits head turns s).fit;
  first = λ head turns s. named_after_issue (rows_of turns) (journal_fits head turns s).fit;
  origin = λ head turns s. origin_out (rows_of turns) (journal_fits head turns s).fit;
}
