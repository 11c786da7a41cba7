use Rattle.std.proofs.Common.{◌<◌, length, ◌∙◌, sym, subst, arith}
use Rattle.std.proofs.lemmas.List.Elements.{All-set}
use Rattle.frame_programs.specs.Spaces.{HasRoom}
use Rattle.frame_programs.proofs.Lists.{judged_more}
use Rattle.frame_programs.proofs.judging.judge.Goals as goal

pub loop-i-preserved : goal.loop-i-preserved
loop-i-preserved c =
    let spaces = c.loop-i.spaces.items in
    let below : c.loop-i.i < length c.args.list.now.frames = omega arith in
    let inside : c.loop-i.i < length spaces = omega (arith, c.loop-i.spaces.ok, c.loop-i.invariant.count, c.requires.spaces, below) in
    let read = c.index_mut.result.now in
    let had : HasRoom read = subst HasRoom (sym c.index_mut.ensures.value) (c.loop-i.invariant.room c.loop-i.i read inside) in
    let room : HasRoom c.apply_into-next.new.out = omega (arith, had, c.apply_into-next.ensures.room) in
    record {
      judged = judged_more c.args.program.now c.args.list.now.frames spaces c.loop-i.i c.apply_into-next.new.out c.loop-i.verdict c.apply_into-next.result c.both-verdict.result c.data.result.now below inside (c.data.ensures ∙ c.frame.ensures)
          c.both-verdict.ensures c.loop-i.invariant.judged c.apply_into-next.ensures.verdict;
      room = All-set HasRoom spaces c.loop-i.i c.apply_into-next.new.out room c.loop-i.invariant.room;
      count = c.loop-i.invariant.count;
    }
