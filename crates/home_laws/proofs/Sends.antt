-- The rows of sends fit, and those of what the miniport transmits.
use Rattle.std.proofs.Common.{◌≡◌, ℕ, Bool, true, false, cond, List, [], ◌∷◌, ◌++◌, Option, Some, None, refl}
use Rattle.ndis_base.specs.declared.Direction.TheVariants as direction
use Rattle.ndis_base.specs.declared.ListStatus.TheVariants.{Success, Resources}
use Rattle.ndis_base.specs.declared.ModuleId.{ModuleId}
use Rattle.ndis_base.specs.declared.ModuleId.TheVariants.{Miniport, Filter, Binding}
use Rattle.journal_types.specs.declared.Row.{Row}
use Rattle.stack_rules.specs.declared.Attached.{Attached}
use Rattle.stack_rules.specs.declared.LiveList.{LiveList}
use Rattle.stack_rules.specs.Tests.{phase_is_running, is_virtual}
use Rattle.stack_rules.specs.Net.{Net, attached}
use Rattle.stack_rules.specs.Places.{is_full, position, kept_lists}
use Rattle.stack_rules.specs.Targets.{homeward}
use Rattle.stack_rules.specs.Sends.{send_outcome, ring_is_full, miniport_rows, at_filter, down_rows, loops, transmitted, transmit_of, first_of, first_in_ring, transmit_outcome}
use Rattle.home_laws.specs.Rows.{Label}
use Rattle.home_laws.proofs.Fits.{Register, AllFit, IsSane}
use Rattle.home_laws.proofs.Agreed.{Agrees}
use Rattle.home_laws.proofs.Known.{by_test, Knows, Each-first_of, live_as, framed_as, homeward_fits, turned_back_fits, with_new, still_known}
use Rattle.home_laws.proofs.Issues.{root_label, issued_fits, FitOutcome, KnowsFound, kept_known}
use Rattle.home_laws.proofs.Handled.{filter_fits}

pub send_fits : (net : Net) (reg : Register) (binding : ℕ) (cancel : Option ℕ) (frames : List (List ℕ)) → Agrees net reg → FitOutcome reg (send_outcome net binding cancel frames)
send_fits net reg binding cancel frames h =
    by_test (FitOutcome reg) (phase_is_running net.phase) _ _
    (λ _. by_test (FitOutcome reg) (is_full net (Binding binding)) _ _
    (λ _. tt)
    (λ _. issued_fits net reg net.next.list (Binding binding) direction.Down cancel frames 0 [] h.next tt))
    (λ _. tt)

-- at the miniport
pub miniport_fits : (net : Net) (reg : Register) (l : LiveList) → Knows reg l → AllFit reg (miniport_rows net l)
miniport_fits net reg l k =
    (live_as reg l k, by_test (AllFit reg) (ring_is_full net) _ _ (λ _. turned_back_fits reg net.modules l Miniport Resources k) (λ _. (live_as reg l k, tt)))

at_filter_fits : (net : Net) (reg : Register) (o : Option Attached) (l : LiveList) (keeps : Bool) → Agrees net reg → IsSane reg → Knows reg l → AllFit reg (at_filter net o l keeps)
at_filter_fits net reg None l keeps h s k = tt
at_filter_fits net reg (Some a) l keeps h s k = filter_fits net reg a l keeps h s k

pub down_fits : (net : Net) (reg : Register) (l : LiveList) (m : ModuleId) (keeps : Bool) → Agrees net reg → IsSane reg → Knows reg l → AllFit reg (down_rows net l m keeps)
down_fits net reg l Miniport keeps h s k = miniport_fits net reg l k
down_fits net reg l (Filter f) keeps h s k = at_filter_fits net reg (attached f net.modules.filters) l keeps h s k
down_fits net reg l (Binding b) keeps h s k = tt

-- what is transmitted
pub transmitted_fits : (net : Net) (reg : Register) (l : LiveList) → Agrees net reg → IsSane reg → Knows reg l → AllFit reg (transmitted net l)
transmitted_fits net reg l h s k =
    let last : Row = homeward net.modules l (position net.modules.order Miniport) Success in
    let label : Label = root_label Miniport direction.Up None l.frames in (
      framed_as reg l k,
      by_test (λ rows. AllFit reg (rows ++ last ∷ [])) (loops net) _ _
          (λ _. issued_fits net reg net.next.list Miniport direction.Up None l.frames (position net.modules.order Miniport) (last ∷ []) h.next
          (homeward_fits (with_new reg net.next.list label) net.modules l (position net.modules.order Miniport) Success [] (still_known reg net.next.list label l s h.next k) tt))
          (λ _. homeward_fits reg net.modules l (position net.modules.order Miniport) Success [] k tt),
    )

transmit_of_fits : (net : Net) (reg : Register) (o : Option LiveList) → Agrees net reg → IsSane reg → KnowsFound reg o → FitOutcome reg (transmit_of net o)
transmit_of_fits net reg None h s k = tt
transmit_of_fits net reg (Some l) h s k = transmitted_fits net reg l h s (k l refl)

unless_known : (reg : Register) (b : Bool) (o : Option LiveList) → KnowsFound reg o → KnowsFound reg (cond b None o)
unless_known reg true o k l e = absurd (none_some l e)
  where
    none_some : (l : LiveList) → None ≡ Some l → ⊥
    none_some l e = cc
unless_known reg false o k l e = k l e

pub transmit_fits : (net : Net) (reg : Register) → Agrees net reg → IsSane reg → FitOutcome reg (transmit_outcome net)
transmit_fits net reg h s =
    transmit_of_fits net reg (first_in_ring net) h s (unless_known reg (is_virtual net.head.kind) (first_of (kept_lists net Miniport))
    (λ l e. Each-first_of (Knows reg) (kept_lists net Miniport) l (kept_known net reg Miniport h) e))
