-- A list at a filter, a send on its way down, and what a ring or loop adapter transmits.
use Rattle.std.proofs.Common.{◌≡◌, ℕ, ◌+◌, ◌<◌, ◌≤◌, ◌==◌, ◌&&◌, Bool, true, false, List, [], ◌∷◌, ◌++◌, Option, Some, None, length, refl, arith, ap, sym, subst, ◌∙◌}
use Rattle.std.proofs.lemmas.Bool.Decides.{nat_tests}
use Rattle.ndis_base.specs.declared.ModuleId.{ModuleId}
use Rattle.ndis_base.specs.declared.ModuleId.TheVariants.{Miniport, Filter, Binding}
use Rattle.ndis_base.specs.declared.ListNo.{ListNo}
use Rattle.ndis_base.specs.declared.ListStatus.{ListStatus}
use Rattle.ndis_base.specs.declared.ListStatus.TheVariants.{Success, Resources, Dropped}
use Rattle.ndis_base.specs.declared.Direction.{Direction}
use Rattle.ndis_base.specs.declared.Direction.TheVariants as direction
use Rattle.ndis_base.specs.declared.Origin.TheVariants as origin
use Rattle.journal_types.specs.declared.Handler.TheVariants as handler
use Rattle.journal_types.specs.declared.Row.{Row}
use Rattle.journal_types.specs.declared.Row.TheVariants as row
use Rattle.stack_rules.specs.declared.LiveList.{LiveList}
use Rattle.stack_rules.specs.declared.Attached.{Attached}
use Rattle.stack_rules.specs.Tests.{is_down, is_hold, same_frames}
use Rattle.stack_rules.specs.Net.{Net, after, after_rows, lists, list_of, attached, had_by, as_kept}
use Rattle.stack_rules.specs.Places.{position, is_full}
use Rattle.stack_rules.specs.Targets.{onward, homeward, turned_back}
use Rattle.stack_rules.specs.Outcome.{list_no, config_no, root}
use Rattle.stack_rules.specs.Handled.{stays, changes, cloned, handled_as, made_of, filter_rows, given_by}
use Rattle.stack_rules.specs.Sends.{ring_is_full, at_filter, down_rows, loops, transmitted, transmit_of}
use Rattle.rule_basics.specs.Live.{is_live, others, with_last}
use Rattle.rule_basics.proofs.Lists.{lists-append, lists-changed, lists-kept}
use Rattle.rule_basics.proofs.Lives.{is_live-retouched}
use Rattle.rule_basics.proofs.Numbered.{below_absent}
use Rattle.state_laws.proofs.Rows.{by_test}
use Rattle.state_laws.proofs.Takes.{attached-is}
use Rattle.pause_laws.specs.Clear.{IsClear}
use Rattle.state_laws.proofs.Tops.{position_most}
use Rattle.pause_laws.proofs.Lists.{hand_take, found-last, found-moved}
use Rattle.pause_laws.proofs.Hands.{Clear, Hand, issued, hand_give, put_keep, issue_beside}
use Rattle.pause_laws.proofs.Routes.{IsOwned, go_on, go_home_from, go_back_from, issue_on}
use Rattle.pause_laws.proofs.Works.{Facts, IsWorked, found_issue_on}

-- what rows leave
abbrev pub Leaves : Net → ℕ → List Row → Type 0
Leaves net front rows = Clear net.modules front (after_rows net rows)

-- a filter that may have the list: it is at the front or below it, and for a send not above its owner
pub record MayHave (net : Net) (front : ℕ) (m : ModuleId) (l : LiveList) : Type 0 where
  pub at : front ≤ position net.modules.order m
  pub below : is_down l.direction ≡ true → position net.modules.order l.owner ≤ position net.modules.order m

-- the list that the filter is given
abbrev given : Net → Attached → LiveList → Net
given net a l = after net (row.Give l.list (Filter a.filter) (given_by l.direction))

in_hand : (net : Net) (front : ℕ) (a : Attached) (l : LiveList) → Clear net.modules front net → IsWorked net front l → Hand net.modules front l.list.0 (had_by (Filter a.filter) l) (given net a l)
in_hand net front a l k w =
    hand_give net.modules front net l.list (Filter a.filter) (given_by l.direction) l (hand_take net.modules front l.list.0 l (lists net.things) net.next.list k w.found)

owned : (net : Net) (front : ℕ) (facts : Facts net front) (a : Attached) (l : LiveList) → IsWorked net front l → MayHave net front (Filter a.filter) l → IsOwned net.modules front facts.distinct (had_by (Filter a.filter) l)
owned net front facts a l w m = record { owner = w.clear.owner; down = m.below }

back_from : (net : Net) (front : ℕ) → Facts net front → (a : Attached) (l : LiveList) (status : ListStatus) → Clear net.modules front net → IsWorked net front l → MayHave net front (Filter a.filter) l → Clear net.modules front (after_rows (given net a l) (turned_back net.modules l (Filter a.filter) status))
back_from net front facts a l status k w m =
    go_back_from net.modules front facts.distinct (given net a l) l (Filter a.filter) status (had_by (Filter a.filter) l) (in_hand net front a l k w) refl refl w.clear.owner m.below m.at

stays_clear : (net : Net) (front : ℕ) → Facts net front → (a : Attached) (l : LiveList) (keeps : Bool) → Clear net.modules front net → IsWorked net front l → MayHave net front (Filter a.filter) l → Clear net.modules front (after_rows (given net a l) (stays net a l keeps))
stays_clear net front facts a l keeps k w m =
    by_test (λ rows. Clear net.modules front (after_rows (given net a l) rows)) (keeps && is_hold a.kind) _ _
    (λ _. put_keep net.modules front (given net a l) l.list (Filter a.filter) (had_by (Filter a.filter) l) (in_hand net front a l k w) record { owner = w.clear.owner; down = m.below; stands = (refl, m.at) })
    (λ _. go_on net.modules front facts.distinct (given net a l) l.list l.direction (position net.modules.order (Filter a.filter)) (had_by (Filter a.filter) l) (in_hand net front a l k w) refl (owned net front facts a l w m) refl m.at)

-- the filter keeps the list, and a clone goes on
cloned_clear : (net : Net) (front : ℕ) → Facts net front → (a : Attached) (l : LiveList) (frames : List (List ℕ)) → Clear net.modules front net → IsWorked net front l → MayHave net front (Filter a.filter) l → Clear net.modules front (after_rows (given net a l) (cloned net a l frames))
cloned_clear net front facts a l frames k w m =
    let f : ModuleId = Filter a.filter in
    let n : ListNo = list_no net.next.list in
    let have : LiveList = had_by f l in
    let new : LiveList = issued n f l.direction l.cancel (origin.Clone l.list) frames in
    let first : Net = given net a l in
    let second : Net = after first (row.Issue n f (config_no net.modules.config) l.direction l.cancel (origin.Clone l.list) frames) in
    let third : Net = after second (row.Keep l.list f) in
    let beside : Hand net.modules front l.list.0 have second = issue_beside net.modules front first l.list.0 have n f (config_no net.modules.config) l.direction l.cancel (origin.Clone l.list) frames refl m.at (in_hand net front a l k w) in
    let kept_now : Clear net.modules front third = put_keep net.modules front second l.list f have beside record { owner = w.clear.owner; down = m.below; stands = (refl, m.at) } in
    let free : is_live net.next.list (lists first.things) ≡ false =
    ap (is_live net.next.list) (lists-changed l.list.0 (had_by f) net.things) ∙ is_live-retouched net.next.list l.list.0 (had_by f) (λ x. refl) (lists net.things) ∙ below_absent net.next.list (lists net.things) k.below in
    let found_second : list_of net.next.list (lists second.things) ≡ Some new = ap (list_of net.next.list) (lists-append first.things _) ∙ found-last net.next.list (lists first.things) new refl free in
    let apart : (l.list.0 == net.next.list) ≡ false = other l.list.0 net.next.list (in_hand net front a l k w).below in
    let found_third : list_of net.next.list (lists third.things) ≡ Some new =
    ap (list_of net.next.list) (lists-kept l.list.0 f second.things ∙ ap (λ o. with_last (others l.list.0 (lists second.things)) (as_kept f o)) beside.found)
    ∙ found-moved l.list.0 net.next.list (lists second.things) _ apart refl ∙ found_second in
    go_on net.modules front facts.distinct third n l.direction (position net.modules.order f) new (hand_take net.modules front net.next.list new (lists third.things) third.next.list kept_now found_third) refl record { owner = m.at; down = λ _. omega arith } refl m.at
  where
    other : (n m : ℕ) → n < m → (n == m) ≡ false
    other n m h = grind (arith, nat_tests)

changes_clear : (net : Net) (front : ℕ) → Facts net front → (a : Attached) (l : LiveList) (frames : List (List ℕ)) → Clear net.modules front net → IsWorked net front l → MayHave net front (Filter a.filter) l → Clear net.modules front (after_rows (given net a l) (changes net a l frames))
changes_clear net front facts a l frames k w m =
    by_test (λ rows. Clear net.modules front (after_rows (given net a l) rows)) (is_full net (Filter a.filter)) _ _
    (λ _. back_from net front facts a l Resources k w m)
    (λ _. cloned_clear net front facts a l frames k w m)

handled_clear : (net : Net) (front : ℕ) → Facts net front → (a : Attached) (l : LiveList) (keeps : Bool) (made : Option (List (List ℕ))) → Clear net.modules front net → IsWorked net front l → MayHave net front (Filter a.filter) l → Clear net.modules front (after_rows (given net a l) (handled_as net a l keeps made))
handled_clear net front facts a l keeps None k w m = back_from net front facts a l Dropped k w m
handled_clear net front facts a l keeps (Some frames) k w m =
    by_test (λ rows. Clear net.modules front (after_rows (given net a l) rows)) (same_frames frames l.frames) _ _
    (λ _. stays_clear net front facts a l keeps k w m)
    (λ _. changes_clear net front facts a l frames k w m)

pub filter_clear : (net : Net) (front : ℕ) → Facts net front → (a : Attached) (l : LiveList) (keeps : Bool) → Clear net.modules front net → IsWorked net front l → MayHave net front (Filter a.filter) l → Leaves net front (filter_rows net a l keeps)
filter_clear net front facts a l keeps k w m = handled_clear net front facts a l keeps (made_of net a l) k w m

-- a send at a module on its way down
at_filter_clear : (net : Net) (front : ℕ) → Facts net front → (f : ℕ) (o : Option Attached) (l : LiveList) (keeps : Bool) → attached f net.modules.filters ≡ o → Clear net.modules front net → IsWorked net front l → MayHave net front (Filter f) l → Leaves net front (at_filter net o l keeps)
at_filter_clear net front facts f None l keeps e k w m = k
at_filter_clear net front facts f (Some a) l keeps e k w m =
    filter_clear net front facts a l keeps k w (subst (λ g. MayHave net front (Filter g) l) (sym (attached-is f net.modules.filters a e)) m)

pub down_clear : (net : Net) (front : ℕ) → Facts net front → (l : LiveList) (m : ModuleId) (keeps : Bool) → Clear net.modules front net → IsWorked net front l → MayHave net front m l → Leaves net front (down_rows net l m keeps)
down_clear net front facts l Miniport keeps k w m =
    let first : Net = after net (row.Give l.list Miniport handler.Send) in
    let hand : Hand net.modules front l.list.0 (had_by Miniport l) first = hand_give net.modules front net l.list Miniport handler.Send l (hand_take net.modules front l.list.0 l (lists net.things) net.next.list k w.found) in
    by_test (λ rows. Clear net.modules front (after_rows first rows)) (ring_is_full net) _ _
    (λ _. go_back_from net.modules front facts.distinct first l Miniport Resources (had_by Miniport l) hand refl refl w.clear.owner m.below m.at)
    (λ _. put_keep net.modules front first l.list Miniport (had_by Miniport l) hand record { owner = w.clear.owner; down = m.below; stands = (refl, m.at) })
down_clear net front facts l (Filter f) keeps k w m = at_filter_clear net front facts f (attached f net.modules.filters) l keeps refl k w m
down_clear net front facts l (Binding b) keeps k w m = k

-- the front is at the miniport or above it where a list is live
pub above_miniport : (net : Net) (front : ℕ) (l : LiveList) → IsClear net.modules front l → front ≤ length net.modules.order + 1
above_miniport net front l c = omega (arith, c.owner, position_most net.modules.order l.owner)

-- a transmit
pub transmitted_clear : (net : Net) (front : ℕ) → Facts net front → (l : LiveList) → Clear net.modules front net → IsWorked net front l → Leaves net front (transmitted net l)
transmitted_clear net front facts l k w =
    let first : Net = after net (row.Wire l.list l.frames) in
    let last : Row = homeward net.modules l (position net.modules.order Miniport) Success in
    let low : front ≤ position net.modules.order Miniport = above_miniport net front l w.clear in
    let home : (next : Net) → Clear net.modules front next → list_of l.list.0 (lists next.things) ≡ Some l → Clear net.modules front (after next last) =
    λ next c f. go_home_from net.modules front facts.distinct next l.list l.owner l.direction (position net.modules.order Miniport) Success l (hand_take net.modules front l.list.0 l (lists next.things) next.next.list c f) refl refl record { owner = w.clear.owner; down = w.clear.down } low in
    by_test (λ rows. Clear net.modules front (after_rows first (rows ++ last ∷ []))) (loops net) _ _
    (λ t.
    let n : ListNo = list_no net.next.list in
    let small : l.list.0 < net.next.list = (hand_take net.modules front l.list.0 l (lists net.things) net.next.list k w.found).below in
    home _ (issue_on net.modules front facts.distinct first n Miniport (config_no net.modules.config) direction.Up None origin.Root l.frames (position net.modules.order Miniport) refl low refl k)
    (found_issue_on net.modules first n Miniport (config_no net.modules.config) direction.Up None origin.Root l.frames (position net.modules.order Miniport) l.list.0 l small w.found))
    (λ t. home first k w.found)

pub transmit_clear : (net : Net) (front : ℕ) → Facts net front → (o : Option LiveList) → ((l : LiveList) → o ≡ Some l → IsWorked net front l) → Clear net.modules front net → Leaves net front (transmit_of net o).rows
transmit_clear net front facts None w k = k
transmit_clear net front facts (Some l) w k = transmitted_clear net front facts l k (w l refl)

-- a new list of a module
pub sent_clear : (net : Net) (front : ℕ) → Facts net front → (owner : ModuleId) (way_of : Direction) (cancel : Option ℕ) (frames : List (List ℕ)) (i : ℕ) → front ≤ position net.modules.order owner → i ≡ position net.modules.order owner → Clear net.modules front net →
    Leaves net front (root net net.next.list owner way_of cancel frames ∷ onward net.modules (list_no net.next.list) way_of i ∷ [])
sent_clear net front facts owner way_of cancel frames i a e k =
    issue_on net.modules front facts.distinct net (list_no net.next.list) owner (config_no net.modules.config) way_of cancel origin.Root frames i refl a e k
