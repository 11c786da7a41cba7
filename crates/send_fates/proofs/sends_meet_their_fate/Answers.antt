use Rattle.send_fates.proofs.Chain.{each_send_meets_its_fate}
use Rattle.send_fates.proofs.sends_meet_their_fate.Goals as goal

pub returns : goal.returns
returns c = each_send_meets_its_fate
