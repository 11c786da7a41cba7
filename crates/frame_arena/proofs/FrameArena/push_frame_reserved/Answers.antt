use Rattle.std.proofs.Common.{◌≡◌, ◌+◌, ◌++◌, ◌∷◌, [], ◌∙◌, ap, length, arith, vec_len}
use Rattle.frame_arena.specs.Arena.{ArenaView}
use Rattle.frame_arena.proofs.Places.{frames_added}
use Rattle.frame_arena.proofs.FrameArena.push_frame_reserved.Goals as goal

pub returns-clause-frames : goal.returns-clause-frames
returns-clause-frames c =
    let bytes : c.extend_from_slice.new.self.items ≡ c.self.inside.bytes.items ++ c.args.frame.now = c.in-Ok.ensures.items in
    let len : vec_len c.extend_from_slice.new.self ≡ vec_len c.self.inside.bytes + length c.args.frame.now = c.in-Ok.ensures.len in
    rw (bytes, c.push_reserved.ensures.items)
    (frames_added c.self.inside.bytes.items c.args.frame.now c.self.inside.places.items (record { start = c.len-start.result; end = c.len.result }) c.self.invariant.0 (omega arith) (omega arith) ∙ ap (λ (v : ArenaView). v.frames ++ c.args.frame.now ∷ []) c.self.view_is)
