use Rattle.std.proofs.Common.{◌≡◌, ℕ, length, ap, ◌∙◌, sym, subst}
use Rattle.hand_lemmas.specs.Frames.{AreAddressed}
use Rattle.frame_programs.specs.Judged.{IsMadeOf}
use Rattle.frame_programs.specs.Spaces.{written}
use Rattle.frame_programs.proofs.Lists.{is_made_of}
use Rattle.program_types.specs.Apply.{applied}
use Rattle.frame_programs.proofs.made.MadeFrames.apply.Goals as goal

pub returns-in-Changed-clause-leaves : goal.returns-in-Changed-clause-leaves
returns-in-Changed-clause-leaves c =
    let frames = c.args.list.now.frames in
    let made : IsMadeOf (applied 1518 c.args.program.now frames) frames (written c.judge.new.spaces.items (length frames)) =
    is_made_of c.args.program.now frames (written c.judge.new.spaces.items (length frames)) (subst AreAddressed c.rules.ensures c.tell_addresses.ensures) c.requires.sized c.in-Changed.ensures.verdict in
    let same : written c.judge.new.spaces.items (length frames) ≡ c.wrap.new.made.items =
    ap (λ (many : ℕ). written c.judge.new.spaces.items many) (sym c.buffers.ensures.count) ∙ sym c.wrap.ensures.frames in
    subst (IsMadeOf (applied 1518 c.args.program.now frames) frames) same made
