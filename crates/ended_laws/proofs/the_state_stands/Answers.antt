use Rattle.home_laws.proofs.Standing.{lists_stand, sound_front}
use Rattle.pause_laws.proofs.Turns.{held_journal}
use Rattle.ended_laws.proofs.the_state_stands.Goals as goal

pub returns : goal.returns
returns c = λ head turns more s. record { held = held_journal head turns (sound_front head turns more s); lists = lists_stand head turns (sound_front head turns more s) }
