use Rattle.std.proofs.Common.{rules, refl}
use Rattle.command_words.proofs.Joined.{more_joined, more_told}
use Rattle.command_words.proofs.words.joined.Goals as goal

pub loop-rest-preserved : goal.loop-rest-preserved
loop-rest-preserved c = record {
  some = more_joined c.args.text.now c.loop-rest.rest.now _ c.in-len2-up.len_at_least refl c.loop-rest.invariant.some;
  told = more_told c.args.text.now c.loop-rest.rest.now _ c.loop-rest.lanes.items _ c.in-len2-up.len_at_least refl c.loop-rest.invariant.some c.loop-rest.invariant.told (search rules);
}
