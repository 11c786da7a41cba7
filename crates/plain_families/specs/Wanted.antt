-- The test that each kind of wanted rows stands for.
use Rattle.std.specs.Prelude.{Bool, List}
use Rattle.journal_types.specs.declared.Row.{Row}
use Rattle.journal_types.specs.declared.Turn.{Turn}
use Rattle.promise_rules.specs.Rows.{is_issue, is_home}
use Rattle.promise_rules.specs.Fates.{is_wire_of, is_turned_back, is_delivery_of, takes_family, is_back_of}
use Rattle.promise_rules.specs.Completions.{is_done, is_clone, gives}
use Rattle.promise_rules.specs.Calls.{asks}
use Rattle.plain_families.specs.declared.rows.Wanted.{Wanted}
use Rattle.plain_families.specs.declared.rows.Wanted.TheVariants as wanted

abbrev pub test_of : List Turn → Wanted → Row → Bool
test_of turns (wanted.Issue n) = is_issue n
test_of turns (wanted.Home n) = is_home n
test_of turns (wanted.TurnBack n) = is_back_of n
test_of turns (wanted.FamilyWire r) = is_wire_of turns r
test_of turns (wanted.FamilyTurnBack r) = is_turned_back turns r
test_of turns (wanted.FamilyDeliver r) = is_delivery_of turns r
test_of turns (wanted.FamilyCrossOut r message) = takes_family turns r message
test_of turns (wanted.OidDone n) = is_done n
test_of turns (wanted.OidClone n) = is_clone n
test_of turns (wanted.OidGive n) = gives n
test_of turns (wanted.OidIssue n) = asks n
