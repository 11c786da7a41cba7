use Rattle.std.proofs.Common.{◌+◌, ◌*◌, ◌++◌, List, length, map}
use Rattle.json.specs.Token.{Token}
use Rattle.serde_json.specs.Data.{Data, Members}
use Rattle.serde_json.specs.View.{view, members_view}
use Rattle.json_tokens.specs.Tokens.{AreItemsAt, AreMembersAt}
use Rattle.json_tokens.proofs.tree.+read.Given as goal

abbrev pub decreases-read_value : goal.decreases-read_value
decreases-read_value l = 2 * l.depth

abbrev pub decreases-read_items : goal.decreases-read_items
decreases-read_items l = 2 * l.depth + 1

abbrev pub decreases-read_members : goal.decreases-read_members
decreases-read_members l = 2 * l.depth + 1

-- what is still to come, beside what was found, is what the loop began with
abbrev pub invariant-read_items-items : goal.invariant-read_items-items
invariant-read_items-items l =
    (ds : List Data) (rest : List Token) → AreItemsAt l.depth l.reader ds rest → AreItemsAt l.depth l.initial.reader (map view l.found.items ++ ds) rest

abbrev pub decreases-read_items-items : goal.decreases-read_items-items
decreases-read_items-items l = length l.reader

abbrev pub invariant-read_members-members : goal.invariant-read_members-members
invariant-read_members-members l =
    (all : Members) (rest : List Token) → AreMembersAt l.depth (members_view l.found.entries) l.reader all rest → AreMembersAt l.depth (members_view l.initial.found.entries) l.initial.reader all rest

abbrev pub decreases-read_members-members : goal.decreases-read_members-members
decreases-read_members-members l = length l.reader
