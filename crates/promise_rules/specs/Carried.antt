-- One configuration: what is on a wire or delivered is its original, passed through the filters of the
-- configuration in which the original was issued.
use Rattle.std.specs.Prelude.{ℕ, ◌==◌, Bool, true, false, List, [], ◌∷◌, Option, Some, None, option_and_then, if◌then◌else◌}
use Rattle.std.specs.List.{list_any}
use Rattle.program_types.specs.Apply.{applied}
use Rattle.journal_types.specs.declared.Setup.{Setup}
use Rattle.journal_types.specs.declared.OutWay.TheVariants as out
use Rattle.journal_types.specs.declared.Event.{Event}
use Rattle.journal_types.specs.declared.Event.TheVariants as event
use Rattle.journal_types.specs.declared.Reply.{Reply}
use Rattle.journal_types.specs.declared.Reply.TheVariants as reply
use Rattle.journal_types.specs.declared.Row.{Row}
use Rattle.journal_types.specs.declared.Row.TheVariants as row
use Rattle.journal_types.specs.declared.StackHead.{StackHead}
use Rattle.journal_types.specs.declared.Turn.{Turn}
use Rattle.stack_rules.specs.Outcome.{max_frame}
use Rattle.stack_rules.specs.Tests.{same_frames}
use Rattle.promise_rules.specs.Rows.{all_rows, issue_of, is_issue, frames_in}
use Rattle.promise_rules.specs.Families.{root_of}

-- the set-up of a filter: that of the event whose reply names it
abbrev pub setup_told : ℕ → Event → Reply → Option Setup
setup_told f (event.Insert kind position setup) (reply.Inserted g) = if g == f then Some setup else None
setup_told f (event.Replace old kind setup) (reply.Replaced g) = if g == f then Some setup else None
setup_told f _ _ = None

abbrev pub first_setup : Option Setup → Option Setup → Option Setup
first_setup None other = other
first_setup (Some s) other = Some s

abbrev pub setup_of : List Turn → ℕ → Option Setup
setup_of [] f = None
setup_of (t ∷ ts) f = first_setup (setup_told f t.event t.reply) (setup_of ts f)

-- what a filter's program makes of frames; a filter without the pair is passed by
abbrev pub sent_by : ℕ → Option Setup → List (List ℕ) → Option (List (List ℕ))
sent_by max None frames = Some frames
sent_by max (Some s) frames = if s.handlers.send then applied max s.send frames else Some frames

abbrev pub received_by : ℕ → Option Setup → List (List ℕ) → Option (List (List ℕ))
received_by max None frames = Some frames
received_by max (Some s) frames = if s.handlers.receive then applied max s.receive frames else Some frames

-- frames that are carried down through filters, from top to bottom, or up through them in the other order
abbrev pub carried_down : ℕ → List Turn → List ℕ → List (List ℕ) → Option (List (List ℕ))
carried_down max turns [] frames = Some frames
carried_down max turns (f ∷ fs) frames = option_and_then (carried_down max turns fs) (sent_by max (setup_of turns f) frames)

abbrev pub carried_up : ℕ → List Turn → List ℕ → List (List ℕ) → Option (List (List ℕ))
carried_up max turns [] frames = Some frames
carried_up max turns (f ∷ fs) frames = option_and_then (received_by max (setup_of turns f)) (carried_up max turns fs frames)

-- the row that sets up the configuration in which a list is issued: the last one before its issue
abbrev pub config_at : Option Row → Row → Option Row
config_at before (row.Config config filters) = Some (row.Config config filters)
config_at before _ = before

-- before the row that issues the list, else after all the rows
abbrev pub config_in_rows : ℕ → Option Row → List Row → Option Row
config_in_rows n before [] = before
config_in_rows n before (r ∷ rows) = if is_issue n r then before else config_in_rows n (config_at before r) rows

abbrev pub config_from : ℕ → Option Row → List Turn → Option Row
config_from n before [] = before
config_from n before (t ∷ ts) =
    if list_any (is_issue n) t.rows then config_in_rows n before t.rows else config_from n (config_in_rows n before t.rows) ts

abbrev pub config_of : List Turn → ℕ → Option Row
config_of turns n = config_from n None turns

-- its number, and its filters from top to bottom
abbrev pub number_in : Option Row → ℕ
number_in (Some (row.Config config filters)) = config.0
number_in _ = 0

abbrev pub filters_in : Option Row → List ℕ
filters_in (Some (row.Config config filters)) = filters
filters_in _ = []

abbrev pub are_frames : List (List ℕ) → Option (List (List ℕ)) → Bool
are_frames frames None = false
are_frames frames (Some made) = same_frames made frames

-- the frames of a list of this root, as they are down on the wire, and up at the bindings
abbrev pub is_carried_down : StackHead → List Turn → ℕ → List (List ℕ) → Bool
is_carried_down head turns r frames =
    are_frames frames (carried_down (max_frame head) turns (filters_in (config_of turns r)) (frames_in (issue_of turns r)))

abbrev pub is_carried_up : StackHead → List Turn → ℕ → List (List ℕ) → Bool
is_carried_up head turns r frames =
    are_frames frames (carried_up (max_frame head) turns (filters_in (config_of turns r)) (frames_in (issue_of turns r)))

abbrev pub keeps_configuration : StackHead → List Turn → Row → Bool
keeps_configuration head turns (row.Issue list owner config direction cancel origin frames) =
    config.0 == number_in (config_of turns (root_of turns list.0))
keeps_configuration head turns (row.Wire list frames) = is_carried_down head turns (root_of turns list.0) frames
keeps_configuration head turns (row.CrossOut message (out.Down list) frames) = is_carried_down head turns (root_of turns list.0) frames
keeps_configuration head turns (row.Deliver list b how frames) = is_carried_up head turns (root_of turns list.0) frames
keeps_configuration head turns _ = true

-- each list is issued in the configuration in which its root is, and what a row shows is the root's frames as carried
abbrev pub has_one_configuration : StackHead → List Turn → Bool
has_one_configuration head turns = all_rows (keeps_configuration head turns) turns
