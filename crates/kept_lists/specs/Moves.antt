-- One step of parting the lists that leave from those that stay.
use Rattle.std.specs.Prelude.{◌≡◌, Bool, List, [], ◌∷◌, ◌++◌, if◌then◌else◌}
use Rattle.buffer_pools.specs.Views.{ListView}

-- the first list moves behind those that leave, or behind those that stay
pub record Moves (goes : ListView → Bool) (kept leaving kept' leaving' : List ListView) : Type 0 where
  pub first : ListView
  pub rest : List ListView
  pub was : kept ≡ first ∷ rest
  pub stay : kept' ≡ rest ++ (if goes first then [] else first ∷ [])
  pub leave : leaving' ≡ leaving ++ (if goes first then first ∷ [] else [])
