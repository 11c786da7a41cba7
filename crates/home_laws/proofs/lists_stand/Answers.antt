use Rattle.home_laws.proofs.Standing as Standing
use Rattle.home_laws.proofs.lists_stand.Goals as goal

pub returns : goal.returns
returns c = λ head turns more s. Standing.lists_stand head turns (Standing.sound_front head turns more s)
