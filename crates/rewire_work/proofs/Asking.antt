-- A change of the filters that is refused before a driver is asked isn't refused by a driver.
use Rattle.std.proofs.Common.{◌≡◌, ℕ, ◌==◌, Bool, true, false, cond, Option, Some, None, length, refl}
use Rattle.ndis_base.specs.declared.FilterKind.{FilterKind}
use Rattle.journal_types.specs.declared.Event.TheVariants as event
use Rattle.journal_types.specs.declared.Refusal.{Refusal}
use Rattle.journal_types.specs.declared.Refusal.TheVariants as refusal
use Rattle.journal_types.specs.declared.Reply.TheVariants as reply
use Rattle.journal_types.specs.declared.Setup.{Setup}
use Rattle.stack_rules.specs.Net.{Net}
use Rattle.stack_rules.specs.Outcome.{max_filters}
use Rattle.stack_rules.specs.Pauses.{live_items}
use Rattle.stack_rules.specs.Rewires.{is_in, is_bad_position}
use Rattle.stack_rules.specs.Tests.{phase_is_paused}
use Rattle.book_lemmas.specs.Shelves.{Balks}
use Rattle.book_lemmas.specs.Views.{HeldView}
use Rattle.rewire_work.specs.Refusals.{or_cause, quiet_refusal, order_refusal, insert_refusal, module_refusal, rewire_refusal}

abbrev Asks : Option Refusal → Type 0
Asks o = o ≡ Some refusal.AttachRefused

or_asks : (a b : Option Refusal) → (Asks a → ⊥) → (Asks b → ⊥) → Asks (or_cause a b) → ⊥
or_asks None b other never e = never e
or_asks (Some cause) b other never e = other e

quiet_by : (paused none : Bool) (n : ℕ) → Asks (cond paused (cond none None (Some (refusal.Busy n))) (Some refusal.NotPaused)) → ⊥
quiet_by true true n e = absurd cc
quiet_by true false n e = absurd cc
quiet_by false none n e = absurd cc

quiet_asks : (net : Net) → Asks (quiet_refusal net) → ⊥
quiet_asks net e = quiet_by (phase_is_paused net.phase) (live_items net == 0) (live_items net) e

order_by : (full bad : Bool) → Asks (cond full (Some refusal.Full) (cond bad (Some refusal.BadPosition) None)) → ⊥
order_by true bad e = absurd cc
order_by false true e = absurd cc
order_by false false e = absurd cc

module_by : (there : Bool) → Asks (cond there None (Some refusal.NoModule)) → ⊥
module_by true e = absurd cc
module_by false e = absurd cc

pub insert_asks : (net : Net) (position : ℕ) → insert_refusal net position ≡ Some refusal.AttachRefused → ⊥
insert_asks net position e =
    or_asks (quiet_refusal net) (order_refusal net position) (quiet_asks net) (order_by (length net.modules.order == max_filters net.head) (is_bad_position net position)) e

pub rewire_asks : (net : Net) (f : ℕ) → rewire_refusal net f ≡ Some refusal.AttachRefused → ⊥
rewire_asks net f e = or_asks (quiet_refusal net) (module_refusal net f) (quiet_asks net) (module_by (is_in f net.modules.order)) e

-- so other driver is asked to have counted it
pub not_inserted : (kind : FilterKind) (position : ℕ) (setup : Setup) (cause : Refusal) (old new : HeldView) → (cause ≡ refusal.AttachRefused → ⊥) → Balks (event.Insert kind position setup) (reply.Refused cause) old new
not_inserted kind position setup (refusal.WrongPhase p) old new other = tt
not_inserted kind position setup refusal.InitRefused old new other = tt
not_inserted kind position setup refusal.NotPaused old new other = tt
not_inserted kind position setup (refusal.Busy n) old new other = tt
not_inserted kind position setup refusal.Full old new other = tt
not_inserted kind position setup refusal.BadPosition old new other = tt
not_inserted kind position setup refusal.ShelfEmpty old new other = tt
not_inserted kind position setup refusal.AttachRefused old new other = absurd (other refl)
not_inserted kind position setup refusal.NoModule old new other = tt
not_inserted kind position setup (refusal.Paused p) old new other = tt
not_inserted kind position setup refusal.NoList old new other = tt
not_inserted kind position setup refusal.NotRunning old new other = tt
not_inserted kind position setup refusal.NotHeld old new other = tt
not_inserted kind position setup refusal.Unbound old new other = tt
not_inserted kind position setup refusal.HaltedNow old new other = tt
not_inserted kind position setup refusal.TooLong old new other = tt
not_inserted kind position setup refusal.NotTaken old new other = tt

pub not_exchanged : (f : ℕ) (kind : FilterKind) (setup : Setup) (cause : Refusal) (old new : HeldView) → (cause ≡ refusal.AttachRefused → ⊥) → Balks (event.Replace f kind setup) (reply.Refused cause) old new
not_exchanged f kind setup (refusal.WrongPhase p) old new other = tt
not_exchanged f kind setup refusal.InitRefused old new other = tt
not_exchanged f kind setup refusal.NotPaused old new other = tt
not_exchanged f kind setup (refusal.Busy n) old new other = tt
not_exchanged f kind setup refusal.Full old new other = tt
not_exchanged f kind setup refusal.BadPosition old new other = tt
not_exchanged f kind setup refusal.ShelfEmpty old new other = tt
not_exchanged f kind setup refusal.AttachRefused old new other = absurd (other refl)
not_exchanged f kind setup refusal.NoModule old new other = tt
not_exchanged f kind setup (refusal.Paused p) old new other = tt
not_exchanged f kind setup refusal.NoList old new other = tt
not_exchanged f kind setup refusal.NotRunning old new other = tt
not_exchanged f kind setup refusal.NotHeld old new other = tt
not_exchanged f kind setup refusal.Unbound old new other = tt
not_exchanged f kind setup refusal.HaltedNow old new other = tt
not_exchanged f kind setup refusal.TooLong old new other = tt
not_exchanged f kind setup refusal.NotTaken old new other = tt
