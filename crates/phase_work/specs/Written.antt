-- Rows that are written one after the other, and what drivers did when they only were set up, paused or halted.
use Rattle.std.specs.Prelude.{◌≡◌, ℕ, zero, suc, ◌+◌, List, [], ◌∷◌, Some, slice_index_or}
use Rattle.ndis_base.specs.declared.ModuleId.{ModuleId}
use Rattle.ndis_base.specs.declared.ModuleId.TheVariants.{Binding}
use Rattle.ndis_base.specs.declared.ModuleState.TheVariants as state
use Rattle.ndis_base.specs.declared.Phase.TheVariants as phase
use Rattle.journal_types.specs.declared.PhaseOf.TheVariants as of
use Rattle.journal_types.specs.declared.Row.{Row}
use Rattle.journal_types.specs.declared.Row.TheVariants as row
use Rattle.stack_rules.specs.Pauses.{state_rows}
use Rattle.driver_tray.specs.Tray.{TrayView, written}
use Rattle.book_lemmas.specs.Did.{KeepsCounts}
use Rattle.book_lemmas.specs.Views.{HeldView, filter_at, no_protocol}

abbrev pub each_written : TrayView → List Row → TrayView
each_written t [] = t
each_written t (r ∷ rows) = each_written (written t r) rows

-- no driver counted a call or logged anything, and no count of refusals fell
pub record CountsNothing (old new : HeldView) : Type 0 where
  pub miniport : new.miniport.did ≡ old.miniport.did
  pub protocols : (i : ℕ) → (slice_index_or new.protocols i no_protocol).did ≡ (slice_index_or old.protocols i no_protocol).did
  pub filters : (place : ℕ) → (filter_at new.filters (Some place)).did ≡ (filter_at old.filters (Some place)).did
  pub keeps : KeepsCounts old new

-- so many bindings, from this one on
abbrev pub bindings_from : ℕ → ℕ → List ModuleId
bindings_from b zero = []
bindings_from b (suc n) = Binding b ∷ bindings_from (b + 1) n

-- the rows of a pause that begins, by how many bindings there are
abbrev pub begin_rows : ℕ → List Row
begin_rows n = row.Phase (of.Stack phase.Pausing) ∷ state_rows (state.Pausing ∷ []) (bindings_from 0 n)
