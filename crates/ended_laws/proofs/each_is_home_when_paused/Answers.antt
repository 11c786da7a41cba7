use Rattle.home_laws.proofs.Standing.{sound_front}
use Rattle.pause_laws.proofs.Turns.{none_while_paused}
use Rattle.ended_laws.proofs.Ended.{each_is_home}
use Rattle.ended_laws.proofs.each_is_home_when_paused.Goals as goal

pub returns : goal.returns
returns c = λ head turns more s at. each_is_home head turns (sound_front head turns more s) (none_while_paused head turns (sound_front head turns more s) at)
