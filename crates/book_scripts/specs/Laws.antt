-- What holds of the journal of a whole run, by the laws of all sound journals.
use Rattle.std.specs.Prelude.{true, ◌≡◌, ◌⊎◌, List, ◌++◌}
use Rattle.ndis_base.specs.declared.Phase.TheVariants as phase
use Rattle.journal_types.specs.declared.StackHead.{StackHead}
use Rattle.journal_types.specs.declared.Turn.{Turn}
use Rattle.stack_rules.specs.Net.{seen}
use Rattle.promise_rules.specs.Carried.{has_one_configuration}
use Rattle.promise_rules.specs.Fates.{has_fates}
use Rattle.promise_rules.specs.Completions.{completes_once, are_completed}
use Rattle.home_laws.specs.Rows.{rows_of}
use Rattle.home_laws.specs.Homes.{EachHomeOnce, EachHomeAtOwner, EachShowsIssued}
use Rattle.pause_laws.specs.Laws.{PausedHoldsNothing}
use Rattle.ended_laws.specs.Ended.{EachIsHome}

-- after each turn a module that is Paused holds nothing
abbrev pub PausedAlwaysEmpty : StackHead → List Turn → Type 0
PausedAlwaysEmpty head turns = (before later : List Turn) → turns ≡ before ++ later → PausedHoldsNothing (seen head before)

-- after each turn that leaves the stack Paused or Halted, each list that was issued until then has exactly one Home row
abbrev pub HomeWhenQuiet : StackHead → List Turn → Type 0
HomeWhenQuiet head turns =
    (before later : List Turn) → turns ≡ before ++ later → ((seen head before).phase ≡ phase.Paused) ⊎ ((seen head before).phase ≡ phase.Halted) → EachIsHome (rows_of before)

-- The stack ended Halted. Each list that was issued is home, once, at the owner that issued it, and so was each that
-- was issued before a turn that left the stack Paused or Halted; its frames are shown as they were issued; and what
-- was Paused was empty. What is on a wire, crosses or is delivered is its original, carried through the filters of
-- the configuration in which that was issued; each original meets its fate; and each request is done once, by its
-- own clone.
pub record MeetsLaws (head : StackHead) (turns : List Turn) : Type 0 where
  pub halted : (seen head turns).phase ≡ phase.Halted
  pub once : EachHomeOnce (rows_of turns)
  pub at_owner : EachHomeAtOwner (rows_of turns)
  pub home : EachIsHome (rows_of turns)
  pub home_when_quiet : HomeWhenQuiet head turns
  pub shown : EachShowsIssued (rows_of turns)
  pub empty : PausedAlwaysEmpty head turns
  pub configuration : has_one_configuration head turns ≡ true
  pub fates : has_fates head turns ≡ true
  pub requests : completes_once turns ≡ true
  pub completed : are_completed turns ≡ true
