use Rattle.book_runs.proofs.Between.{turned_by, unmoved_between}
use Rattle.book_runs.proofs.asking.ask_for.Goals as goal

pub returns-clause-between : goal.returns-clause-between
returns-clause-between g c = (turned_by c.requires.between c.requires.worked c.in_ok-reply.ensures.steps).between

pub returns-clause-turned : goal.returns-clause-turned
returns-clause-turned g c = turned_by c.requires.between c.requires.worked c.in_ok-reply.ensures.steps
