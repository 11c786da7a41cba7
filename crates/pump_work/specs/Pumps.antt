-- What a pump or a drain finds.
use Rattle.std.specs.Prelude.{◌≡◌, Bool, true, false, [], None}
use Rattle.journal_types.specs.declared.Event.TheVariants as event
use Rattle.journal_types.specs.declared.Reply.TheVariants as reply
use Rattle.stack_rules.specs.Requests.{next_giving}
use Rattle.book_lemmas.specs.Views.{BookView}
use Rattle.book_parts.specs.Events.{DidEvent, CanEnd}

-- nothing is on its way, and no request may be given
pub record IsStill (v : BookView) : Type 0 where
  pub queue : v.tray.queue ≡ []
  pub requests : next_giving v.tray.net ≡ None

-- what comes first was worked, as by a pump, and a drain does the same
pub record MovesOne (old new : BookView) : Type 0 where
  pub pump : DidEvent old new event.Pump reply.Moved
  pub drain : DidEvent old new event.Drain reply.Moved
  pub turn : CanEnd new

-- nothing moved, since nothing could
pub record MovesNone (old new : BookView) : Type 0 where
  pub same : new ≡ old
  pub still : IsStill old

-- one of the two, as is told
abbrev pub Moves : BookView → BookView → Bool → Type 0
Moves old new true = MovesOne old new
Moves old new false = MovesNone old new
