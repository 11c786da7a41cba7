-- The rows of owned receives fit, and those of lists that bindings give back.
use Rattle.std.proofs.Common.{ℕ, ◌==◌, Bool, List, [], Option, Some, None, refl}
use Rattle.ndis_base.specs.declared.Direction.TheVariants as direction
use Rattle.ndis_base.specs.declared.ListNo.{ListNo}
use Rattle.ndis_base.specs.declared.ListStatus.TheVariants.{Success, Paused}
use Rattle.ndis_base.specs.declared.ModuleId.TheVariants.{Miniport, Filter, Binding}
use Rattle.journal_types.specs.declared.Target.{Target}
use Rattle.journal_types.specs.declared.Target.TheVariants.{Module, Bindings}
use Rattle.stack_rules.specs.declared.Attached.{Attached}
use Rattle.stack_rules.specs.declared.LiveList.{LiveList}
use Rattle.stack_rules.specs.Tests.{phase_is_running, is_running}
use Rattle.stack_rules.specs.Net.{Net, attached, lists, list_of}
use Rattle.stack_rules.specs.Places.{is_full, position, is_kept_by}
use Rattle.stack_rules.specs.Receives.{up_at_filter, up_rows, indicate_outcome, give_back_of, give_back_outcome}
use Rattle.home_laws.proofs.Fits.{Register, AllFit, IsSane}
use Rattle.home_laws.proofs.Agreed.{Agrees}
use Rattle.home_laws.proofs.Known.{by_test, Knows, knows_all, Each-find, homeward_fits, turned_back_fits}
use Rattle.home_laws.proofs.Issues.{issued_fits, FitOutcome, KnowsFound}
use Rattle.home_laws.proofs.Handled.{filter_fits}
use Rattle.home_laws.proofs.Deliveries.{delivery_fits}

-- an owned list on its way up
up_at_filter_fits : (net : Net) (reg : Register) (o : Option Attached) (l : LiveList) (keeps : Bool) → Agrees net reg → IsSane reg → Knows reg l → AllFit reg (up_at_filter net o l keeps)
up_at_filter_fits net reg None l keeps h s k = tt
up_at_filter_fits net reg (Some a) l keeps h s k =
    by_test (AllFit reg) (is_running a.state) _ _ (λ _. filter_fits net reg a l keeps h s k) (λ _. turned_back_fits reg net.modules l (Filter a.filter) Paused k)

pub up_fits : (net : Net) (reg : Register) (l : LiveList) (to : Target) (keeps : Bool) → Agrees net reg → IsSane reg → Knows reg l → AllFit reg (up_rows net l to keeps)
up_fits net reg l (Module (Filter f)) keeps h s k = up_at_filter_fits net reg (attached f net.modules.filters) l keeps h s k
up_fits net reg l Bindings keeps h s k =
    by_test (AllFit reg) (phase_is_running net.phase) _ _ (λ _. delivery_fits net reg l keeps h s k) (λ _. turned_back_fits reg net.modules l (Binding 0) Paused k)
up_fits net reg l (Module Miniport) keeps h s k = tt
up_fits net reg l (Module (Binding b)) keeps h s k = tt

pub indicate_fits : (net : Net) (reg : Register) (frames : List (List ℕ)) → Agrees net reg → FitOutcome reg (indicate_outcome net frames)
indicate_fits net reg frames h =
    by_test (FitOutcome reg) (is_running net.modules.miniport) _ _
    (λ _. by_test (FitOutcome reg) (is_full net Miniport) _ _
    (λ _. tt)
    (λ _. issued_fits net reg net.next.list Miniport direction.Up None frames (position net.modules.order Miniport) [] h.next tt))
    (λ _. tt)

-- a binding gives a list back
give_back_of_fits : (net : Net) (reg : Register) (binding : ℕ) (o : Option LiveList) → KnowsFound reg o → FitOutcome reg (give_back_of net binding o)
give_back_of_fits net reg binding None k = tt
give_back_of_fits net reg binding (Some l) k =
    by_test (FitOutcome reg) (is_kept_by (Binding binding) l.stand) _ _ (λ _. homeward_fits reg net.modules l 0 Success [] (k l refl) tt) (λ _. tt)

pub give_back_fits : (net : Net) (reg : Register) (binding : ℕ) (list : ListNo) → Agrees net reg → FitOutcome reg (give_back_outcome net binding list)
give_back_fits net reg binding list h =
    give_back_of_fits net reg binding (list_of list.0 (lists net.things)) (λ l e. Each-find (Knows reg) (λ x. x.list.0 == list.0) (lists net.things) l (knows_all net reg h) e)
