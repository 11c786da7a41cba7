-- Payloads that are added.
use Rattle.std.specs.Prelude.{◌≡◌, ℕ, ◌++◌, List}
use Rattle.journal_types.specs.declared.Setup.{Setup}
use Rattle.flat_journal.specs.Payloads.{Payloads}
use Rattle.flat_journal.specs.Flat.{FlatView}

-- the payloads `q` are `p` and further ones
pub record Grows (p q : Payloads) : Type 0 where
  pub frames : (more : List (List ℕ)) × (q.frames ≡ p.frames ++ more)
  pub filters : (more : List ℕ) × (q.filters ≡ p.filters ++ more)
  pub setups : (more : List Setup) × (q.setups ≡ p.setups ++ more)

-- nothing changes but that payloads are added; the room may be another
pub record OnlyGrows (before after : FlatView) : Type 0 where
  pub head : after.head ≡ before.head
  pub turns : after.turns ≡ before.turns
  pub rows : after.rows ≡ before.rows
  pub payloads : Grows before.payloads after.payloads
