use Rattle.std.proofs.Common.{◌≡◌, ◌∙◌}
use Rattle.std.specs.Prelude.{option_map}
use Rattle.frame_arena.specs.Spans.{frames_at, SpanWithin}
use Rattle.flat_journal.specs.declared.copying.RowPlaces.{RowPlaces}
use Rattle.flat_journal.specs.Payloads.{Payloads, filters_at}
use Rattle.flat_journal.specs.Within.{FiltersWithin}
use Rattle.flat_journal.specs.Copied.{row_frames, row_value, row_filters, ValueStands, RowStands}
use Rattle.flat_journal.proofs.Copies.{row_stands, row_shown, row_within}
use Rattle.flat_journal.proofs.journal.FlatJournal.copy_row.Goals as goal

pub returns-clause-shown : goal.returns-clause-shown
returns-clause-shown c =
    let p : Payloads = c.copy_frames.new.self.payloads in
    let q : Payloads = c.copy_value.new.self.payloads in
    let r : Payloads = c.copy_filters.new.self.payloads in
    let at : RowPlaces = record { frames = c.in_ok-frames.frames; value = c.in_ok-value.value; filters = c.in_ok-filters.filters } in
    let frames : frames_at p.frames at.frames ≡ row_frames c.args.row.now = c.in_ok-frames.ensures.shown ∙ c.frames_of_row.ensures in
    let frames_within : SpanWithin p.frames at.frames = c.in_ok-frames.ensures.within in
    let value_stands : ValueStands q at.value (option_map (λ v. v.now) c.value_of_row.result) = c.in_ok-value.ensures.stands in
    let value : ValueStands q at.value (row_value c.args.row.now) = rw c.value_of_row.ensures at value_stands in
    let filters : filters_at r.filters at.filters ≡ row_filters c.args.row.now = c.in_ok-filters.ensures.shown ∙ c.filters_of_row.ensures in
    let filters_within : FiltersWithin r at.filters = c.in_ok-filters.ensures.within in
    let stands : RowStands r at c.args.row.now =
    row_stands p q r c.copy_value.ensures.grows.payloads c.copy_filters.ensures.grows.payloads at c.args.row.now frames_within frames value filters_within filters in
    rw c.flat_row.ensures (row_shown r at c.args.row.now stands)

pub returns-clause-within : goal.returns-clause-within
returns-clause-within c =
    let p : Payloads = c.copy_frames.new.self.payloads in
    let q : Payloads = c.copy_value.new.self.payloads in
    let r : Payloads = c.copy_filters.new.self.payloads in
    let at : RowPlaces = record { frames = c.in_ok-frames.frames; value = c.in_ok-value.value; filters = c.in_ok-filters.filters } in
    let frames : frames_at p.frames at.frames ≡ row_frames c.args.row.now = c.in_ok-frames.ensures.shown ∙ c.frames_of_row.ensures in
    let frames_within : SpanWithin p.frames at.frames = c.in_ok-frames.ensures.within in
    let value_stands : ValueStands q at.value (option_map (λ v. v.now) c.value_of_row.result) = c.in_ok-value.ensures.stands in
    let value : ValueStands q at.value (row_value c.args.row.now) = rw c.value_of_row.ensures at value_stands in
    let filters : filters_at r.filters at.filters ≡ row_filters c.args.row.now = c.in_ok-filters.ensures.shown ∙ c.filters_of_row.ensures in
    let filters_within : FiltersWithin r at.filters = c.in_ok-filters.ensures.within in
    let stands : RowStands r at c.args.row.now =
    row_stands p q r c.copy_value.ensures.grows.payloads c.copy_filters.ensures.grows.payloads at c.args.row.now frames_within frames value filters_within filters in
    rw c.flat_row.ensures (row_within r at c.args.row.now stands)
