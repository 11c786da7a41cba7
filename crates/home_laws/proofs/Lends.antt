-- The rows of a list that is lent for the time of one turn fit.
use Rattle.std.proofs.Common.{◌≡◌, ℕ, ◌+◌, List, [], ◌∷◌, Option, Some, None, filter, reverse, refl, ap}
use Rattle.ndis_base.specs.declared.Direction.TheVariants as direction
use Rattle.ndis_base.specs.declared.ListNo.{ListNo}
use Rattle.ndis_base.specs.declared.ListStatus.{ListStatus}
use Rattle.ndis_base.specs.declared.ListStatus.TheVariants.{Success, Resources, Dropped, Paused}
use Rattle.ndis_base.specs.declared.ModuleId.{ModuleId}
use Rattle.ndis_base.specs.declared.ModuleId.TheVariants.{Miniport, Filter, Binding}
use Rattle.ndis_base.specs.declared.Origin.TheVariants as origin
use Rattle.program_types.specs.Apply.{applied}
use Rattle.journal_types.specs.declared.How.TheVariants as how
use Rattle.journal_types.specs.declared.Row.{Row}
use Rattle.stack_rules.specs.declared.Attached.{Attached}
use Rattle.stack_rules.specs.Tests.{phase_is_running, is_running, same_frames}
use Rattle.stack_rules.specs.Net.{Net, attached}
use Rattle.stack_rules.specs.Places.{is_full, position}
use Rattle.stack_rules.specs.Targets.{has_receive}
use Rattle.stack_rules.specs.Outcome.{list_no, max_frame}
use Rattle.stack_rules.specs.Deliveries.{takers}
use Rattle.stack_rules.specs.Receives.{lent_home, lent_back, copied, lent_changes, lent_handled, lent_at, lent_delivery, lent_up, lent_rows, lend_outcome}
use Rattle.home_laws.specs.Rows.{Label}
use Rattle.home_laws.proofs.Fits.{Register, AllFit, IsSane}
use Rattle.home_laws.proofs.Registers.{entered-here}
use Rattle.home_laws.proofs.Agreed.{Agrees}
use Rattle.home_laws.proofs.Known.{by_test, onward_fits, with_new, new_live}
use Rattle.home_laws.proofs.Issues.{root_label, sane_new, FitOutcome}
use Rattle.home_laws.proofs.Deliveries.{HasLabel, still_has, is_live, delivered_fits}

-- what is known while a list is lent: it is the miniport's, and the last that was issued
record IsLent (net : Net) (list : ListNo) (label : Label) (reg : Register) : Type 0 where
  sane : IsSane reg
  next : net.next.list + 1 ≡ reg.next
  has : HasLabel reg list label
  owner : label.owner ≡ Miniport

home_fits : (reg : Register) (list : ListNo) (label : Label) (status : ListStatus) → HasLabel reg list label → label.owner ≡ Miniport → AllFit reg (lent_home list status)
home_fits reg list label status k o = (record { label = label; found = k; passes = o }, tt)

back_fits : (reg : Register) (list : ListNo) (label : Label) (m : ModuleId) (status : ListStatus) → HasLabel reg list label → label.owner ≡ Miniport → AllFit reg (lent_back list m status)
back_fits reg list label m status k o = (is_live reg list label k, home_fits reg list label status k o)

module _ (net : Net) (list : ListNo) (label : Label) (reg : Register) (lent : IsLent net list label reg) where
  copied_fits : (a : Attached) (frames : List (List ℕ)) → AllFit reg (copied net a list frames)
  copied_fits a frames =
      let n : ℕ = net.next.list + 1 in
      let new : Label = record { owner = Filter a.filter; direction = direction.Up; cancel = None; origin = origin.Copy list; frames = frames } in
      let more : Register = with_new reg n new in (
        (lent.next, is_live reg list label lent.has),
        onward_fits more net.modules (list_no n) direction.Up (position net.modules.order (Filter a.filter)) (lent_home list Success) (new_live reg n new)
            (home_fits more list label Success (still_has reg n new list label lent.sane lent.next lent.has) lent.owner),
      )

  changes_fit : (a : Attached) (frames : List (List ℕ)) → AllFit reg (lent_changes net a list frames)
  changes_fit a frames =
      by_test (AllFit reg) (is_full net (Filter a.filter)) _ _ (λ _. back_fits reg list label (Filter a.filter) Resources lent.has lent.owner) (λ _. copied_fits a frames)

  handled_fit : (a : Attached) (further : List Row) (made : Option (List (List ℕ))) → AllFit reg further → AllFit reg (lent_handled net a list label.frames further made)
  handled_fit a further None f = back_fits reg list label (Filter a.filter) Dropped lent.has lent.owner
  handled_fit a further (Some made) f = by_test (AllFit reg) (same_frames made label.frames) _ _ (λ _. f) (λ _. changes_fit a made)

  at_fits : (o : Option Attached) (further : List Row) → AllFit reg further → AllFit reg (lent_at net o list label.frames further)
  at_fits None further f = f
  at_fits (Some a) further f =
      by_test (AllFit reg) (is_running a.state) _ _
      (λ _. (is_live reg list label lent.has, handled_fit a further (applied (max_frame net.head) a.setup.receive label.frames) f))
      (λ _. back_fits reg list label (Filter a.filter) Paused lent.has lent.owner)

  lent_delivery_fits : AllFit reg (lent_delivery net list label.frames)
  lent_delivery_fits =
      by_test (AllFit reg) (phase_is_running net.phase) _ _
      (λ _. delivered_fits net list label how.Lent (lent_home list Success) (λ more k. home_fits more list label Success k lent.owner) (takers net label.frames) (net.next.list + 1) reg lent.sane lent.next lent.has)
      (λ _. back_fits reg list label (Binding 0) Paused lent.has lent.owner)

  lent_up_fits : (fs : List ℕ) → AllFit reg (lent_up net list label.frames fs)
  lent_up_fits [] = lent_delivery_fits
  lent_up_fits (f ∷ fs) = at_fits (attached f net.modules.filters) (lent_up net list label.frames fs) (lent_up_fits fs)

lent_fits : (net : Net) (reg : Register) (frames : List (List ℕ)) → Agrees net reg → IsSane reg → AllFit reg (lent_rows net frames)
lent_fits net reg frames h s =
    let label : Label = root_label Miniport direction.Lent None frames in
    let lent : IsLent net (list_no net.next.list) label (with_new reg net.next.list label) = record {
      sane = sane_new net reg net.next.list Miniport direction.Lent None frames s h.next;
      next = ap (λ n. n + 1) h.next;
      has = entered-here net.next.list (Some label) reg.live;
      owner = refl;
    } in
    ((h.next, tt), lent_up_fits net (list_no net.next.list) label (with_new reg net.next.list label) lent (filter (has_receive net.modules) (reverse net.modules.order)))

pub lend_fits : (net : Net) (reg : Register) (frames : List (List ℕ)) → Agrees net reg → IsSane reg → FitOutcome reg (lend_outcome net frames)
lend_fits net reg frames h s =
    by_test (FitOutcome reg) (is_running net.modules.miniport) _ _
    (λ _. by_test (FitOutcome reg) (is_full net Miniport) _ _ (λ _. tt) (λ _. lent_fits net reg frames h s))
    (λ _. tt)
