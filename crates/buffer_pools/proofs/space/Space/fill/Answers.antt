use Rattle.std.proofs.Common.{◌≡◌, ◌<◌, length, arith, rules, ap, ◌∙◌}
use Rattle.std.proofs.lemmas.List.Elements.{All-set}
use Rattle.net_buffer.specs.Buffer.{data_of}
use Rattle.net_buffer.specs.declared.NetBuffer.{NetBuffer}
use Rattle.buffer_pools.proofs.Filling.{map-take_more_set}
use Rattle.buffer_pools.proofs.space.Space.fill.Goals as goal

pub loop-i-preserved : goal.loop-i-preserved
loop-i-preserved c =
    let buffers = c.loop-i.self-inside.buffers.items in
    let within : c.loop-i.i < length buffers = omega arith in
    let before : length c.index_mut.result.now.bytes ≡ c.loop-i.self-inside.bytes = ap (λ (b : NetBuffer). length b.bytes) c.index_mut.ensures.value ∙ c.loop-i.invariant.room c.loop-i.i c.index_mut.result.now within in
    record {
      bytes = search rules;
      eight = search rules;
      room = All-set (λ (b : NetBuffer). length b.bytes ≡ c.loop-i.self-inside.bytes) buffers c.loop-i.i c.place.new.self (c.place.ensures.size ∙ before) c.loop-i.invariant.room;
      filled = map-take_more_set data_of buffers c.loop-i.i c.place.new.self c.args.frames.now c.index-frames-i.result within (omega arith) c.loop-i.invariant.filled (c.place.ensures.holds ∙ c.bytes.ensures ∙ c.index-frames-i.is);
    }
