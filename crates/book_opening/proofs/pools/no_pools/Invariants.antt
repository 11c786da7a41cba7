use Rattle.std.proofs.Common.{◌≡◌, replicate}
use Rattle.book_lemmas.specs.Views.{no_pool}
use Rattle.book_opening.proofs.pools.no_pools.Given as goal

abbrev pub invariant-loop-place : goal.invariant-loop-place
invariant-loop-place l = l.pools.items ≡ replicate l.place no_pool
