use Rattle.fate_laws.proofs.Both.{all_meet_their_fates}
use Rattle.fate_laws.proofs.all_lists_meet_their_fates.Goals as goal

pub returns : goal.returns
returns c = all_meet_their_fates
