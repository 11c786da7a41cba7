-- Receives on their way up, and their delivery.
use Rattle.std.proofs.Common.{◌≡◌, ℕ, ◌+◌, ◌<◌, ◌≤◌, ◌&&◌, Bool, false, List, [], ◌∷◌, Option, Some, None, refl, arith, ap, sym, subst}
use Rattle.ndis_base.specs.declared.ModuleId.{ModuleId}
use Rattle.ndis_base.specs.declared.ModuleId.TheVariants.{Miniport, Filter, Binding}
use Rattle.ndis_base.specs.declared.ListNo.{ListNo}
use Rattle.ndis_base.specs.declared.ListStatus.TheVariants.{Success, Paused}
use Rattle.ndis_base.specs.declared.Direction.TheVariants as direction
use Rattle.ndis_base.specs.declared.Origin.TheVariants as origin
use Rattle.journal_types.specs.declared.How.{How}
use Rattle.journal_types.specs.declared.How.TheVariants as how
use Rattle.journal_types.specs.declared.Target.{Target}
use Rattle.journal_types.specs.declared.Target.TheVariants.{Module, Bindings}
use Rattle.journal_types.specs.declared.Row.{Row}
use Rattle.journal_types.specs.declared.Row.TheVariants as row
use Rattle.stack_rules.specs.declared.LiveList.{LiveList}
use Rattle.stack_rules.specs.declared.Attached.{Attached}
use Rattle.stack_rules.specs.Tests.{is_down, is_running, is_retain, phase_is_running}
use Rattle.stack_rules.specs.Heads.{kind_of_binding}
use Rattle.stack_rules.specs.Net.{Net, after, after_rows, lists, list_of, attached}
use Rattle.stack_rules.specs.Places.{position, position_of_target}
use Rattle.stack_rules.specs.Targets.{homeward, turned_back}
use Rattle.stack_rules.specs.Outcome.{list_no, config_no}
use Rattle.stack_rules.specs.Deliveries.{echoes, echoed, how_for, delivered, settled, last_of, takers, delivery_rows}
use Rattle.stack_rules.specs.Receives.{up_at_filter, up_rows}
use Rattle.state_laws.proofs.Rows.{by_test, after_rows-append}
use Rattle.state_laws.proofs.Takes.{attached-is}
use Rattle.pause_laws.specs.Clear.{IsClear, IsNearest}
use Rattle.pause_laws.proofs.Places.{back_nearest}
use Rattle.pause_laws.proofs.Lists.{not_both, hand_take}
use Rattle.pause_laws.proofs.Hands.{Clear, put_keep}
use Rattle.pause_laws.proofs.Routes.{go_home_from, go_back, issue_on}
use Rattle.pause_laws.proofs.Works.{Facts, IsWorked, found_issue_on}
use Rattle.pause_laws.proofs.Sends.{Leaves, MayHave, filter_clear}

-- what a delivery leaves: what was live before stays as it was
pub record IsDelivered (net before next : Net) (front n : ℕ) : Type 0 where
  pub clear : Clear net.modules front next
  pub found : (m : ℕ) (l : LiveList) → m < n → list_of m (lists before.things) ≡ Some l → list_of m (lists next.things) ≡ Some l

-- only echo bindings issue lists, and only where nothing is Paused
pub delivered_clear : (net next : Net) (front : ℕ) → Facts net front → front ≡ 0 → (list : ListNo) (frames : List (List ℕ)) (own : How) (n : ℕ) (bs : List ℕ) → n ≡ next.next.list → Clear net.modules front next → IsDelivered net next (after_rows next (delivered net list frames own n bs)) front n
delivered_clear net next front facts z list frames own n [] e k = record { clear = k; found = λ m l b f. f }
delivered_clear net next front facts z list frames own n (b ∷ bs) e k =
    let first : Net = after next (row.Deliver list b (how_for own bs) frames) in
    by_test (λ rows. IsDelivered net next (after_rows first rows) front n) (echoes net b) _ _
    (λ t.
    let second : Net = after_rows first (echoed net n b frames) in
    let clear : Clear net.modules front second = issue_on net.modules front facts.distinct first (list_no n) (Binding b) (config_no net.modules.config) direction.Down None origin.Root frames 0 e (omega (arith, z)) refl k in
    let rest : IsDelivered net second (after_rows second (delivered net list frames own (n + 1) bs)) front (n + 1) = delivered_clear net second front facts z list frames own (n + 1) bs (ap (λ i. i + 1) e) clear in
    record {
      clear = rest.clear;
      found = λ m l a f. rest.found m l (omega arith) (found_issue_on net.modules first (list_no n) (Binding b) (config_no net.modules.config) direction.Down None origin.Root frames 0 m l a f);
    })
    (λ t. let rest : IsDelivered net first (after_rows first (delivered net list frames own n bs)) front n = delivered_clear net first front facts z list frames own n bs e k in record { clear = rest.clear; found = rest.found })

settled_clear : (net next : Net) (front : ℕ) → Facts net front → front ≡ 0 → (l : LiveList) (keeps : Bool) (o : Option ℕ) → is_down l.direction ≡ false → IsClear net.modules front l → list_of l.list.0 (lists next.things) ≡ Some l → Clear net.modules front next → Clear net.modules front (after_rows next (settled net l keeps o))
settled_clear net next front facts z l keeps o up c f k = by o
  where
    home : Clear net.modules front (after next (homeward net.modules l 0 Success))
    home = go_home_from net.modules front facts.distinct next l.list l.owner l.direction 0 Success l (hand_take net.modules front l.list.0 l (lists next.things) next.next.list k f) refl refl record { owner = c.owner; down = c.down } (omega (arith, z))

    by : (o : Option ℕ) → Clear net.modules front (after_rows next (settled net l keeps o))
    by None = home
    by (Some b) =
        by_test (λ rows. Clear net.modules front (after_rows next rows)) (keeps && is_retain (kind_of_binding net.head b)) _ _
        (λ _. put_keep net.modules front next l.list (Binding b) l (hand_take net.modules front l.list.0 l (lists next.things) next.next.list k f) record { owner = c.owner; down = λ d. cc; stands = (refl, omega (arith, z)) })
        (λ _. home)

delivery_clear : (net : Net) (front : ℕ) → Facts net front → front ≡ 0 → (l : LiveList) (keeps : Bool) → is_down l.direction ≡ false → Clear net.modules front net → IsWorked net front l → Leaves net front (delivery_rows net l keeps)
delivery_clear net front facts z l keeps up k w =
    let rows : List Row = delivered net l.list l.frames how.Own net.next.list (takers net l.frames) in
    let d : IsDelivered net net (after_rows net rows) front net.next.list = delivered_clear net net front facts z l.list l.frames how.Own net.next.list (takers net l.frames) refl k in
    let small : l.list.0 < net.next.list = (hand_take net.modules front l.list.0 l (lists net.things) net.next.list k w.found).below in
    subst (Clear net.modules front) (sym (after_rows-append net rows (settled net l keeps (last_of (takers net l.frames)))))
    (settled_clear net (after_rows net rows) front facts z l keeps (last_of (takers net l.frames)) up w.clear (d.found l.list.0 l small w.found) d.clear)

-- what is known of a receive on its way up
pub record IsRising (net : Net) (front : ℕ) (to : Target) (l : LiveList) : Type 0 where
  pub up : is_down l.direction ≡ false
  pub last : front ≤ position net.modules.order l.last
  pub nearest : IsNearest net.modules (position net.modules.order l.last) (position_of_target net.modules.order to)

-- a receive is turned back where it went
rising_back : (net : Net) (front : ℕ) → Facts net front → (l : LiveList) (to : Target) (m : ModuleId) → position net.modules.order m ≡ position_of_target net.modules.order to → Clear net.modules front net → IsWorked net front l → IsRising net front to l → Leaves net front (turned_back net.modules l m Paused)
rising_back net front facts l to m e k w r =
    go_back net.modules front facts.distinct net l m Paused l (hand_take net.modules front l.list.0 l (lists net.things) net.next.list k w.found) refl refl w.clear.owner (λ d. absurd (not_both (is_down l.direction) d r.up))
    (λ _. back_nearest net.modules front (position net.modules.order l.last) (position net.modules.order m) l.owner facts.distinct (subst (IsNearest net.modules (position net.modules.order l.last)) (sym e) r.nearest) r.last w.clear.owner)

up_filter_clear : (net : Net) (front : ℕ) → Facts net front → (f : ℕ) (o : Option Attached) (l : LiveList) (keeps : Bool) → attached f net.modules.filters ≡ o → Clear net.modules front net → IsWorked net front l → IsRising net front (Module (Filter f)) l → Leaves net front (up_at_filter net o l keeps)
up_filter_clear net front facts f None l keeps e k w r = k
up_filter_clear net front facts f (Some a) l keeps e k w r =
    let same : a.filter ≡ f = attached-is f net.modules.filters a e in
    by_test (Leaves net front) (is_running a.state) _ _
    (λ runs. filter_clear net front facts a l keeps k w (subst (λ g. MayHave net front (Filter g) l) (sym same) record { at = facts.filter f a e runs; below = λ d. absurd (not_both (is_down l.direction) d r.up) }))
    (λ _. rising_back net front facts l (Module (Filter f)) (Filter a.filter) (ap (λ g. position net.modules.order (Filter g)) same) k w r)

pub up_clear : (net : Net) (front : ℕ) → Facts net front → (l : LiveList) (to : Target) (keeps : Bool) → Clear net.modules front net → IsWorked net front l → IsRising net front to l → Leaves net front (up_rows net l to keeps)
up_clear net front facts l (Module (Filter f)) keeps k w r = up_filter_clear net front facts f (attached f net.modules.filters) l keeps refl k w r
up_clear net front facts l Bindings keeps k w r =
    by_test (Leaves net front) (phase_is_running net.phase) _ _
    (λ runs. delivery_clear net front facts (facts.running runs) l keeps r.up k w)
    (λ _. rising_back net front facts l Bindings (Binding 0) refl k w r)
up_clear net front facts l (Module Miniport) keeps k w r = k
up_clear net front facts l (Module (Binding b)) keeps k w r = k
