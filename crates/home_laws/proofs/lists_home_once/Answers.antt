use Rattle.home_laws.specs.Rows.{rows_of}
use Rattle.home_laws.proofs.Homes.{home_once, home_at_owner}
use Rattle.home_laws.proofs.Events.{journal_fits}
use Rattle.home_laws.proofs.lists_home_once.Goals as goal

pub returns : goal.returns
returns c = record {
  once = λ head turns s. home_once (rows_of turns) (journal_fits head turns s).fit;
  at_owner = λ head turns s. home_at_owner (rows_of turns) (journal_fits head turns s).fit;
}
