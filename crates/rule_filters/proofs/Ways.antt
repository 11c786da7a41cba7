-- What becomes of a list, by what was made of its frames.
use Rattle.std.proofs.Common.{◌≡◌, ℕ, List, Some, refl}
use Rattle.journal_types.specs.declared.Setup.{Setup}
use Rattle.buffer_pools.specs.Views.{ListView}
use Rattle.driver_views.specs.States.{FilterState}
use Rattle.driver_tray.specs.Tray.{TrayView, passed_on}
use Rattle.driver_calls.specs.declared.fates.LentFate.{LentFate}
use Rattle.driver_calls.specs.declared.fates.LentFate.TheVariants as fate
use Rattle.driver_calls.specs.Filters.{made_by, Handles, HandlesLent}
use Rattle.driver_calls.specs.Filters.HandlesLent.{leaves, lacks as lacks_copy, copies}
use Rattle.driver_calls.specs.Filters.Handles.{drops, passes, holds, lacks, clones}
use Rattle.frame_filters.specs.Filters.{keeping}
use Rattle.frame_filters.proofs.Passing.{same_itself}
use Rattle.frame_programs.specs.Judged.{IsMadeOf}
use Rattle.rule_filters.specs.Changes.{Changes, Copying}
use Rattle.rule_filters.specs.Changes.Changes.{sends_on, turns_back}
use Rattle.rule_filters.specs.Changes.Copying.{copied, lacking}

-- frames that stay the same pass
pub passes_same : (p : Setup) (l : ListView) (t : TrayView) (kept kept' : List ListView) (t' : TrayView) → made_by p l t ≡ Some l.frames → kept' ≡ kept → t' ≡ passed_on t l → Handles (keeping kept) p l t kept' t'
passes_same p l t kept kept' t' made k w = passes l.frames made (same_itself l.frames) k w

-- frames that were changed go on as a clone's
pub changes : (p : Setup) (l : ListView) (t : TrayView) (kept kept' : List ListView) (made : List (List ℕ)) (t' : TrayView) → IsMadeOf (made_by p l t) l.frames made → Changes kept made l t kept' t' → Handles (keeping kept) p l t kept' t'
changes p l t kept kept' made t' m (sends_on room c k) = clones made c.clone t'.pool m.is m.other room c.label c.frames m.sized c.issues k c.tray
changes p l t kept kept' made t' m (turns_back full k w) = lacks made m.is m.other full k w

-- what becomes of the list depends on the kept lists alone, but for a filter that holds
pub handles_as : (s : FilterState) (p : Setup) (l : ListView) (t : TrayView) (kept' : List ListView) (t' : TrayView) → Handles (keeping s.kept) p l t kept' t' → Handles s p l t kept' t'
handles_as s p l t kept' t' (drops made k w) = drops made k w
handles_as s p l t kept' t' (passes frames made same k w) = passes frames made same k w
handles_as s p l t kept' t' (holds frames made same hold k w) = cc
handles_as s p l t kept' t' (lacks frames made other full k w) = lacks frames made other full k w
handles_as s p l t kept' t' (clones frames c pool made other room label is sized issues k w) = clones frames c pool made other room label is sized issues k w

-- the same of a list that is lent
pub leaves_same : (p : Setup) (l : ListView) (t : TrayView) → made_by p l t ≡ Some l.frames → HandlesLent p l t t fate.Left
leaves_same p l t made = leaves l.frames made (same_itself l.frames) refl

pub copies_changed : (p : Setup) (l : ListView) (t t' : TrayView) (made : List (List ℕ)) (became : LentFate) → IsMadeOf (made_by p l t) l.frames made → Copying made l t t' became → HandlesLent p l t t' became
copies_changed p l t t' made fate.Copied m (copied room c) = copies made m.is m.other room m.sized c
copies_changed p l t t' made fate.Lacking m (lacking full w) = lacks_copy made m.is m.other full w
copies_changed p l t t' made fate.Left m none = elim none [ ]
copies_changed p l t t' made fate.Dropped m none = elim none [ ]
