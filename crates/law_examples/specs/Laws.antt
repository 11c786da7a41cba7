-- What the laws say of one journal that ends Halted.
use Rattle.std.specs.Prelude.{List}
use Rattle.journal_types.specs.declared.StackHead.{StackHead}
use Rattle.journal_types.specs.declared.Turn.{Turn}
use Rattle.stack_rules.specs.Net.{seen}
use Rattle.home_laws.specs.Rows.{rows_of}
use Rattle.home_laws.specs.Homes.{EachHomeAtOwner, EachHomeOnce, EachIssuedOnce, EachNamedAfterIssue, EachShowsIssued}
use Rattle.pause_laws.specs.Laws.{PausedHoldsNothing, NothingIsLive}
use Rattle.ended_laws.specs.Ended.{EachIsHome, IsStanding}

pub record MeetsLaws (head : StackHead) (turns : List Turn) : Type 0 where
  pub issued_once : EachIssuedOnce (rows_of turns)
  pub named_after : EachNamedAfterIssue (rows_of turns)
  pub home_once : EachHomeOnce (rows_of turns)
  pub at_owner : EachHomeAtOwner (rows_of turns)
  pub shows_issued : EachShowsIssued (rows_of turns)
  pub paused_is_empty : PausedHoldsNothing (seen head turns)
  pub nothing_is_live : NothingIsLive (seen head turns)
  pub each_is_home : EachIsHome (rows_of turns)
  pub stands : IsStanding head turns
