-- A send on its way down, and what a ring or loop adapter transmits.
use Rattle.std.proofs.Common.{◌≡◌, ℕ, Bool, true, false, cond, List, [], ◌∷◌, ◌++◌, Option, Some, None, refl, arith, ap, sym, subst, ◌∙◌}
use Rattle.ndis_base.specs.declared.ModuleId.TheVariants.{Miniport, Filter, Binding}
use Rattle.ndis_base.specs.declared.ListStatus.TheVariants.{Success, Resources}
use Rattle.ndis_base.specs.declared.Direction.TheVariants as direction
use Rattle.ndis_base.specs.declared.Origin.TheVariants as origin
use Rattle.journal_types.specs.declared.Handler.TheVariants as handler
use Rattle.journal_types.specs.declared.Row.{Row}
use Rattle.journal_types.specs.declared.Row.TheVariants as row
use Rattle.stack_rules.specs.declared.LiveList.{LiveList}
use Rattle.stack_rules.specs.declared.Attached.{Attached}
use Rattle.stack_rules.specs.Tests.{is_down, is_virtual}
use Rattle.stack_rules.specs.Net.{Net, after, after_rows, attached}
use Rattle.stack_rules.specs.Places.{position, is_crossed, kept_lists}
use Rattle.stack_rules.specs.Targets.{onward, homeward}
use Rattle.stack_rules.specs.Outcome.{list_no, config_no, root}
use Rattle.stack_rules.specs.Sends.{ring_is_full, at_filter, down_rows, loops, transmitted, transmit_of, first_of, first_in_ring}
use Rattle.state_laws.proofs.Rows.{by_test}
use Rattle.state_laws.proofs.Takes.{attached-is}
use Rattle.pause_laws.proofs.Works.{each_first}
use Rattle.place_laws.proofs.Rows.{goes_start, goes_give, goes_keep, goes_skip, still_uncloned}
use Rattle.place_laws.proofs.Routes.{IsFree, home_from, back_from, issue_on, same_as}
use Rattle.place_laws.proofs.Keepers.{Good, Going, Facts, IsKeptLive, kept_live, miniport_free}
use Rattle.place_laws.proofs.Clones.{Leaves, MayHave, still_apart, filter_leaves}

-- where a turn begins
pub begins : (net : Net) → Facts net → Going net net
begins net facts = goes_start net.modules.order (is_virtual net.head.kind) net facts.good

-- a send at a module on its way down
at_filter_leaves : (net : Net) → Facts net → (f : ℕ) (o : Option Attached) (l : LiveList) (keeps : Bool) → attached f net.modules.filters ≡ o → MayHave net f l → Leaves net (at_filter net o l keeps)
at_filter_leaves net facts f None l keeps e m = facts.good
at_filter_leaves net facts f (Some a) l keeps e m =
    filter_leaves net facts a l keeps (subst (λ g. MayHave net g l) (sym (attached-is f net.modules.filters a e)) m)

-- at the miniport it goes into the ring, or is turned back
pub miniport_leaves : (net : Net) → Facts net → (l : LiveList) (keeps : Bool) → is_down l.direction ≡ true → is_crossed l.crossed ≡ false → IsFree net l → Leaves net (down_rows net l Miniport keeps)
miniport_leaves net facts l keeps down apart w =
    let order : List ℕ = net.modules.order in
    let virtual : Bool = is_virtual net.head.kind in
    let first : Net = after net (row.Give l.list Miniport handler.Send) in
    let h : Going net first = goes_give order virtual net net l.list Miniport handler.Send (begins net facts) in
    by_test (λ rows. Good net (after_rows first rows)) (ring_is_full net) _ _
    (λ _. (back_from net.modules virtual facts.distinct net first l Miniport Resources w h).now)
    (λ _. (goes_keep order virtual net first l.list Miniport (still_uncloned order virtual net first h l.list.0 w.free)
    (λ x e. (ap is_down (same_as net.modules virtual facts.distinct net first l w h x e).1 ∙ down, still_apart net first l x h w.found e apart)) h).now)

pub down_leaves : (net : Net) → Facts net → (l : LiveList) (f : ℕ) (keeps : Bool) → MayHave net f l → Leaves net (down_rows net l (Filter f) keeps)
down_leaves net facts l f keeps m = at_filter_leaves net facts f (attached f net.modules.filters) l keeps refl m

-- a new list of the miniport, and one of a binding, goes on
pub indicated_goes : (net next : Net) → Facts net → (n : ℕ) (frames : List (List ℕ)) → n ≡ next.next.list → Going net next → Going net (after_rows next (root net n Miniport direction.Up None frames ∷ onward net.modules (list_no n) direction.Up (position net.modules.order Miniport) ∷ []))
indicated_goes net next facts n frames e h =
    issue_on net.modules (is_virtual net.head.kind) facts.distinct net next (list_no n) Miniport (config_no net.modules.config) direction.Up None origin.Root frames (position net.modules.order Miniport) e refl refl (λ t. cc) (λ t. omega arith) h

pub sent_goes : (net next : Net) → Facts net → (n b : ℕ) (cancel : Option ℕ) (frames : List (List ℕ)) → n ≡ next.next.list → Going net next → Going net (after_rows next (root net n (Binding b) direction.Down cancel frames ∷ onward net.modules (list_no n) direction.Down 0 ∷ []))
sent_goes net next facts n b cancel frames e h =
    issue_on net.modules (is_virtual net.head.kind) facts.distinct net next (list_no n) (Binding b) (config_no net.modules.config) direction.Down cancel origin.Root frames 0 e refl refl (λ t. omega arith) (λ t. cc) h

-- a transmit
pub transmitted_leaves : (net : Net) → Facts net → (l : LiveList) → IsFree net l → Leaves net (transmitted net l)
transmitted_leaves net facts l w =
    let first : Net = after net (row.Wire l.list l.frames) in
    let last : Row = homeward net.modules l (position net.modules.order Miniport) Success in
    let h : Going net first = goes_skip net.modules.order (is_virtual net.head.kind) net net (row.Wire l.list l.frames) refl (begins net facts) in
    let home : (next : Net) → Going net next → Good net (after next last) =
    λ next g. (home_from net.modules (is_virtual net.head.kind) facts.distinct net next l (position net.modules.order Miniport) Success w g).now in
    by_test (λ rows. Good net (after_rows first (rows ++ last ∷ []))) (loops net) _ _
    (λ t. home _ (indicated_goes net first facts net.next.list l.frames refl h))
    (λ t. home first h)

-- the oldest list of the ring
ring_first : (net : Net) → Facts net → (b : Bool) (l : LiveList) → cond b None (first_of (kept_lists net Miniport)) ≡ Some l → IsKeptLive net Miniport l
ring_first net facts true l e = cc
ring_first net facts false l e = each_first (IsKeptLive net Miniport) (kept_lists net Miniport) l (kept_live net Miniport facts.apart) e

transmit_by : (net : Net) → Facts net → (o : Option LiveList) → ((l : LiveList) → o ≡ Some l → IsKeptLive net Miniport l) → Leaves net (transmit_of net o).rows
transmit_by net facts None w = facts.good
transmit_by net facts (Some l) w = transmitted_leaves net facts l (miniport_free net facts l (w l refl))

pub transmit_leaves : (net : Net) → Facts net → Leaves net (transmit_of net (first_in_ring net)).rows
transmit_leaves net facts = transmit_by net facts (first_in_ring net) (λ l e. ring_first net facts (is_virtual net.head.kind) l e)
