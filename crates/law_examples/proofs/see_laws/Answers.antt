use Rattle.std.proofs.Common.{[]}
use Rattle.law_examples.proofs.Sound.{sound_end}
use Rattle.law_examples.proofs.see_laws.Goals as goal

pub returns : goal.returns
returns c = record {
  issued_once = c.lists_issued_once.ensures.once _ _ c.requires.sound;
  named_after = c.lists_issued_once.ensures.first _ _ c.requires.sound;
  home_once = c.lists_home_once.ensures.once _ _ c.requires.sound;
  at_owner = c.lists_home_once.ensures.at_owner _ _ c.requires.sound;
  shows_issued = c.frames_as_issued.ensures _ _ c.requires.sound;
  paused_is_empty = c.paused_holds_nothing.ensures _ _ c.requires.sound;
  nothing_is_live = c.halted_stack_is_empty.ensures _ _ c.requires.sound c.requires.halted;
  each_is_home = c.each_is_home_when_halted.ensures c.args.stack.now.head c.args.stack.now.turns [] (sound_end _ _ c.requires.sound) c.requires.halted;
  stands = c.the_state_stands.ensures c.args.stack.now.head c.args.stack.now.turns [] (sound_end _ _ c.requires.sound);
}
