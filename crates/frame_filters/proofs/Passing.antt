-- A filter whose programs are empty passes each list on.
use Rattle.std.proofs.Common.{◌≡◌, ℕ, Bool, true, ◌&&◌, List, [], ◌∷◌, ◌++◌, Some, refl, arith}
use Rattle.std.specs.Str.{bytes_eq}
use Rattle.std.proofs.lemmas.Slice.Eq.{bytes_eq-Decides}
use Rattle.ndis_base.specs.declared.Direction.{Direction}
use Rattle.ndis_base.specs.declared.Direction.TheVariants as direction
use Rattle.program_types.specs.Apply.{applied}
use Rattle.journal_types.specs.declared.Setup.{Setup}
use Rattle.stack_rules.specs.Tests.{same_frames, is_hold}
use Rattle.stack_rules.specs.Handled.{program}
use Rattle.buffer_pools.specs.Views.{ListView}
use Rattle.driver_views.specs.States.{FilterState}
use Rattle.driver_tray.specs.Tray.{TrayView, passed_on, noted}
use Rattle.driver_calls.specs.declared.fates.LentFate.TheVariants as fate
use Rattle.driver_calls.specs.Filters.{made_by, Handles, HandlesLent}
use Rattle.driver_calls.specs.Filters.Handles.{passes, holds}
use Rattle.driver_calls.specs.Filters.HandlesLent.{leaves}
use Rattle.frame_filters.specs.Filters.{IsEmpty}

-- no rules change nothing
pub applied_nothing : (max : ℕ) (frames : List (List ℕ)) → applied max [] frames ≡ Some frames
applied_nothing max [] = refl
applied_nothing max (f ∷ fs) = rw (applied_nothing max fs) refl

pub same_itself : (xs : List (List ℕ)) → same_frames xs xs ≡ true
same_itself [] = refl
same_itself (x ∷ xs) = both (bytes_eq x x) (same_frames xs xs) (one x) (same_itself xs)
  where
    one : (x : List ℕ) → bytes_eq x x ≡ true
    one x = grind (arith, bytes_eq-Decides x x)

    both : (a b : Bool) → a ≡ true → b ≡ true → (a && b) ≡ true
    both a b h k = cc

-- the program for each direction is empty
pub program_empty : (s : Setup) (d : Direction) → IsEmpty s → program s d ≡ []
program_empty s direction.Down e = e.send
program_empty s direction.Up e = e.receive
program_empty s direction.Lent e = e.receive

-- so the list stays as it is and goes on
pub passes_all : (s : FilterState) (p : Setup) (l : ListView) (t : TrayView) (kept' : List ListView) (t' : TrayView) → IsEmpty p → kept' ≡ s.kept → t' ≡ passed_on t l → Handles s p l t kept' t'
passes_all s p l t kept' t' e k w =
    let made : made_by p l t ≡ Some l.frames = rw (program_empty p l.label.direction e) (applied_nothing 1518 l.frames) in
    passes l.frames made (same_itself l.frames) k w

-- or it is kept
pub holds_all : (s : FilterState) (p : Setup) (l : ListView) (t : TrayView) (kept' : List ListView) (t' : TrayView) → is_hold s.kind ≡ true → IsEmpty p → kept' ≡ s.kept ++ l ∷ [] → t' ≡ noted t l.label.number
    → Handles s p l t kept' t'
holds_all s p l t kept' t' hold e k w =
    let made : made_by p l t ≡ Some l.frames = rw (program_empty p l.label.direction e) (applied_nothing 1518 l.frames) in
    holds l.frames made (same_itself l.frames) hold k w

-- or it is left as it is, where it is lent
pub leaves_all : (p : Setup) (l : ListView) (t : TrayView) (t' : TrayView) → IsEmpty p → t' ≡ t → HandlesLent p l t t' fate.Left
leaves_all p l t t' e w =
    let made : made_by p l t ≡ Some l.frames = rw (program_empty p l.label.direction e) (applied_nothing 1518 l.frames) in
    leaves l.frames made (same_itself l.frames) w
