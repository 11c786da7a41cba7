use Rattle.std.proofs.Common.{◌≡◌, ℕ, List, ◌-◌, ◌++◌, ◌∷◌, [], ◌≤◌, map, arith, ap, sym, subst, ◌∙◌}
use Rattle.frame_arena.specs.Spans.{frames_at}
use Rattle.driver_log.specs.Log.{LogView}
use Rattle.driver_log.proofs.Entries.{fits_bytes, within_added, entries_added, log_of, log_more}
use Rattle.driver_log.proofs.DriverLog.push.Goals as goal

pub push_list-span-requires-clause-byte_room : goal.push_list-span-requires-clause-byte_room
push_list-span-requires-clause-byte_room c =
    let room : 1 ≤ c.self.inside.room = subst (λ (v : LogView). 1 ≤ v.room) (sym c.self.view_is) c.requires.room in
    omega (arith, fits_bytes c.args.list.now.frames c.requires.fits, c.self.invariant.byte_room, room)

pub invariant_of-self : goal.invariant_of-self
invariant_of-self c =
    let room : 1 ≤ c.self.inside.room = subst (λ (v : LogView). 1 ≤ v.room) (sym c.self.view_is) c.requires.room in
    record {
      within = within_added c.self.inside.frames.frames c.args.list.now.frames c.push_list-span.new.frames.frames c.self.inside.spans.items c.push_reserved.new.self.items c.push_list-span.result
          c.self.invariant.within c.push_list-span.ensures.frames c.push_list-span.ensures.within c.push_reserved.ensures.items;
      span_room = omega (arith, c.push_reserved.ensures.len, c.push_reserved.ensures.capacity, c.self.invariant.span_room, room);
      frame_room = omega (arith, c.push_list-span.ensures.frame_room, c.self.invariant.frame_room, c.requires.fits.few, room);
      byte_room = omega (arith, c.push_list-span.ensures.byte_room, c.self.invariant.byte_room, fits_bytes c.args.list.now.frames c.requires.fits, room);
    }

pub returns : goal.returns
returns c =
    let all = c.push_list-span.new.frames.frames in
    let entries : map (frames_at all) c.push_reserved.new.self.items ≡ map (frames_at c.self.inside.frames.frames) c.self.inside.spans.items ++ c.args.list.now.frames ∷ [] =
    ap (map (frames_at all)) c.push_reserved.ensures.items
    ∙ entries_added c.self.inside.frames.frames c.args.list.now.frames all c.self.inside.spans.items c.push_list-span.result c.self.invariant.within c.push_list-span.ensures.frames c.push_list-span.ensures.shown in
    ap (λ (e : List (List (List ℕ))). log_of e (c.self.inside.room - 1)) entries
    ∙ ap (log_more c.args.list.now.frames) c.self.view_is
