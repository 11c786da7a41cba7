use Rattle.std.proofs.Common.{◌≡◌, ◌∙◌}
use Rattle.std.specs.Prelude.{option_map}
use Rattle.frame_arena.specs.Spans.{frames_at, SpanWithin}
use Rattle.flat_journal.specs.declared.copying.EventPlaces.{EventPlaces}
use Rattle.flat_journal.specs.Payloads.{Payloads}
use Rattle.flat_journal.specs.Copied.{event_frames, event_value, event_setup, ValueStands, SetupStands, EventStands}
use Rattle.flat_journal.proofs.Copies.{event_stands, event_shown, event_within}
use Rattle.flat_journal.proofs.journal.FlatJournal.copy_event.Goals as goal

pub returns-clause-shown : goal.returns-clause-shown
returns-clause-shown c =
    let p : Payloads = c.copy_frames.new.self.payloads in
    let q : Payloads = c.copy_value.new.self.payloads in
    let r : Payloads = c.copy_setup.new.self.payloads in
    let at : EventPlaces = record { frames = c.in_ok-frames.frames; value = c.in_ok-value.value; setup = c.in_ok-setup.setup } in
    let frames : frames_at p.frames at.frames ≡ event_frames c.args.event.now = c.in_ok-frames.ensures.shown ∙ c.frames_of_event.ensures in
    let frames_within : SpanWithin p.frames at.frames = c.in_ok-frames.ensures.within in
    let value_stands : ValueStands q at.value (option_map (λ v. v.now) c.value_of_event.result) = c.in_ok-value.ensures.stands in
    let value : ValueStands q at.value (event_value c.args.event.now) = rw c.value_of_event.ensures at value_stands in
    let setup_stands : SetupStands r at.setup (option_map (λ s. s.now) c.setup_of_event.result) = c.in_ok-setup.ensures.stands in
    let setups : SetupStands r at.setup (event_setup c.args.event.now) = rw c.setup_of_event.ensures at setup_stands in
    let stands : EventStands r at c.args.event.now =
    event_stands p q r c.copy_value.ensures.grows.payloads c.copy_setup.ensures.grows.payloads at c.args.event.now frames_within frames value setups in
    rw c.flat_event.ensures (event_shown r at c.args.event.now stands)

pub returns-clause-within : goal.returns-clause-within
returns-clause-within c =
    let p : Payloads = c.copy_frames.new.self.payloads in
    let q : Payloads = c.copy_value.new.self.payloads in
    let r : Payloads = c.copy_setup.new.self.payloads in
    let at : EventPlaces = record { frames = c.in_ok-frames.frames; value = c.in_ok-value.value; setup = c.in_ok-setup.setup } in
    let frames : frames_at p.frames at.frames ≡ event_frames c.args.event.now = c.in_ok-frames.ensures.shown ∙ c.frames_of_event.ensures in
    let frames_within : SpanWithin p.frames at.frames = c.in_ok-frames.ensures.within in
    let value_stands : ValueStands q at.value (option_map (λ v. v.now) c.value_of_event.result) = c.in_ok-value.ensures.stands in
    let value : ValueStands q at.value (event_value c.args.event.now) = rw c.value_of_event.ensures at value_stands in
    let setup_stands : SetupStands r at.setup (option_map (λ s. s.now) c.setup_of_event.result) = c.in_ok-setup.ensures.stands in
    let setups : SetupStands r at.setup (event_setup c.args.event.now) = rw c.setup_of_event.ensures at setup_stands in
    let stands : EventStands r at c.args.event.now =
    event_stands p q r c.copy_value.ensures.grows.payloads c.copy_setup.ensures.grows.payloads at c.args.event.now frames_within frames value setups in
    rw c.flat_event.ensures (event_within r at c.args.event.now stands)
