use Rattle.std.proofs.Common.{◌≡◌, map, take}
use Rattle.book_opening.specs.Opened.{pool_for}
use Rattle.book_opening.proofs.pools.make_pools.Given as goal

abbrev pub invariant-loop-setup : goal.invariant-loop-setup
invariant-loop-setup l = l.pools.items ≡ map pool_for (take l.setup-index l.setups)
