-- A lent list: it is nowhere until it is home in the same turn.
use Rattle.std.proofs.Common.{◌≡◌, ℕ, ◌+◌, List, [], ◌∷◌, Option, Some, None, filter, reverse, refl, arith, sym, subst}
use Rattle.ndis_base.specs.declared.ModuleId.{ModuleId}
use Rattle.ndis_base.specs.declared.ModuleId.TheVariants.{Miniport, Filter, Binding}
use Rattle.ndis_base.specs.declared.ListNo.{ListNo}
use Rattle.ndis_base.specs.declared.ListStatus.{ListStatus}
use Rattle.ndis_base.specs.declared.ListStatus.TheVariants.{Success, Paused, Dropped, Resources}
use Rattle.ndis_base.specs.declared.Direction.TheVariants as direction
use Rattle.ndis_base.specs.declared.Origin.TheVariants as origin
use Rattle.journal_types.specs.declared.Handler.TheVariants as handler
use Rattle.journal_types.specs.declared.How.TheVariants as how
use Rattle.journal_types.specs.declared.Row.{Row}
use Rattle.journal_types.specs.declared.Row.TheVariants as row
use Rattle.program_types.specs.Apply.{applied}
use Rattle.stack_rules.specs.declared.Attached.{Attached}
use Rattle.stack_rules.specs.Tests.{is_virtual, is_running, phase_is_running, same_frames}
use Rattle.stack_rules.specs.Net.{Net, after, after_rows, attached}
use Rattle.stack_rules.specs.Places.{position, is_full}
use Rattle.stack_rules.specs.Targets.{has_receive, onward}
use Rattle.stack_rules.specs.Outcome.{list_no, config_no, max_frame}
use Rattle.stack_rules.specs.Deliveries.{delivered, takers}
use Rattle.stack_rules.specs.Receives.{lent_home, lent_back, copied, lent_handled, lent_at, lent_delivery, lent_up, lent_rows}
use Rattle.state_laws.proofs.Rows.{by_test, after_rows-append}
use Rattle.place_laws.proofs.Rows.{goes_give, goes_back, goes_home, goes_issue}
use Rattle.place_laws.proofs.Routes.{issue_on}
use Rattle.place_laws.proofs.Keepers.{Good, Going, Facts}
use Rattle.place_laws.proofs.Clones.{Leaves}
use Rattle.place_laws.proofs.Sends.{begins}
use Rattle.place_laws.proofs.Receives.{delivered_goes}

-- a turn while a list is lent
record IsLending (net next : Net) : Type 0 where
  going : Going net next
  next_is : net.next.list + 1 ≡ next.next.list

home_lent : (net next : Net) (list : ListNo) (status : ListStatus) → Going net next → Good net (after_rows next (lent_home list status))
home_lent net next list status h = (goes_home net.modules.order (is_virtual net.head.kind) net next list Miniport status h).now

back_lent : (net next : Net) (list : ListNo) (m : ModuleId) (status : ListStatus) → Going net next → Good net (after_rows next (lent_back list m status))
back_lent net next list m status h = home_lent net (after next (row.TurnBack list m status)) list status (goes_back net.modules.order (is_virtual net.head.kind) net next list m status h)

-- a copy goes on in its place
copied_leaves : (net next : Net) → Facts net → (a : Attached) (list : ListNo) (frames : List (List ℕ)) → IsLending net next → Good net (after_rows next (copied net a list frames))
copied_leaves net next facts a list frames h =
    let f : ModuleId = Filter a.filter in
    let n : ListNo = list_no (net.next.list + 1) in
    home_lent net (after_rows next (row.Issue n f (config_no net.modules.config) direction.Up None (origin.Copy list) frames ∷ onward net.modules n direction.Up (position net.modules.order f) ∷ [])) list Success
    (issue_on net.modules (is_virtual net.head.kind) facts.distinct net next n f (config_no net.modules.config) direction.Up None (origin.Copy list) frames (position net.modules.order f) h.next_is refl refl (λ t. cc) (λ t. omega arith) h.going)

lent_handled_leaves : (net next : Net) → Facts net → (a : Attached) (list : ListNo) (frames : List (List ℕ)) (further : List Row) (o : Option (List (List ℕ))) → IsLending net next → Good net (after_rows next further) → Good net (after_rows next (lent_handled net a list frames further o))
lent_handled_leaves net next facts a list frames further None h k = back_lent net next list (Filter a.filter) Dropped h.going
lent_handled_leaves net next facts a list frames further (Some made) h k =
    by_test (λ rows. Good net (after_rows next rows)) (same_frames made frames) _ _
    (λ _. k)
    (λ _. by_test (λ rows. Good net (after_rows next rows)) (is_full net (Filter a.filter)) _ _
    (λ _. back_lent net next list (Filter a.filter) Resources h.going)
    (λ _. copied_leaves net next facts a list made h))

lent_delivery_leaves : (net next : Net) → Facts net → (list : ListNo) (frames : List (List ℕ)) → IsLending net next → Good net (after_rows next (lent_delivery net list frames))
lent_delivery_leaves net next facts list frames h =
    by_test (λ rows. Good net (after_rows next rows)) (phase_is_running net.phase) _ _
    (λ _.
    let rows : List Row = delivered net list frames how.Lent (net.next.list + 1) (takers net frames) in
    subst (Good net) (sym (after_rows-append next rows (lent_home list Success)))
    (home_lent net (after_rows next rows) list Success (delivered_goes net next facts list frames how.Lent (net.next.list + 1) (takers net frames) h.next_is h.going)))
    (λ _. back_lent net next list (Binding 0) Paused h.going)

-- at a filter, where what happens further up leaves the lists in place
lent_at_leaves : (net next : Net) → Facts net → (list : ListNo) (frames : List (List ℕ)) (further : List Row) (o : Option Attached) → ((x : Net) → IsLending net x → Good net (after_rows x further)) → IsLending net next → Good net (after_rows next (lent_at net o list frames further))
lent_at_leaves net next facts list frames further None again h = again next h
lent_at_leaves net next facts list frames further (Some a) again h =
    by_test (λ rows. Good net (after_rows next rows)) (is_running a.state) _ _
    (λ _.
    let given : Net = after next (row.Give list (Filter a.filter) handler.ReceiveLent) in
    let lending : IsLending net given = record { going = goes_give net.modules.order (is_virtual net.head.kind) net next list (Filter a.filter) handler.ReceiveLent h.going; next_is = h.next_is } in
    lent_handled_leaves net given facts a list frames further (applied (max_frame net.head) a.setup.receive frames) lending (again given lending))
    (λ _. back_lent net next list (Filter a.filter) Paused h.going)

lent_up_leaves : (net next : Net) → Facts net → (list : ListNo) (frames : List (List ℕ)) (fs : List ℕ) → IsLending net next → Good net (after_rows next (lent_up net list frames fs))
lent_up_leaves net next facts list frames [] h = lent_delivery_leaves net next facts list frames h
lent_up_leaves net next facts list frames (f ∷ fs) h =
    lent_at_leaves net next facts list frames (lent_up net list frames fs) (attached f net.modules.filters) (λ x l. lent_up_leaves net x facts list frames fs l) h

pub lent_leaves : (net : Net) → Facts net → (frames : List (List ℕ)) → Leaves net (lent_rows net frames)
lent_leaves net facts frames =
    let list : ListNo = list_no net.next.list in
    let next : Net = after net (row.Issue list Miniport (config_no net.modules.config) direction.Lent None origin.Root frames) in
    let lending : IsLending net next = record {
      going = goes_issue net.modules.order (is_virtual net.head.kind) net net list Miniport (config_no net.modules.config) direction.Lent None origin.Root frames refl refl (λ t. cc) (λ t. omega arith) (begins net facts);
      next_is = refl;
    } in
    lent_up_leaves net next facts list frames (filter (has_receive net.modules) (reverse net.modules.order)) lending
