-- Receives on their way up, and their delivery.
use Rattle.std.proofs.Common.{◌≡◌, ℕ, ◌+◌, ◌&&◌, Bool, false, List, [], ◌∷◌, Option, Some, None, refl, ap, sym, subst, ◌∙◌}
use Rattle.ndis_base.specs.declared.ModuleId.TheVariants.{Filter, Binding}
use Rattle.ndis_base.specs.declared.ListNo.{ListNo}
use Rattle.ndis_base.specs.declared.ListStatus.TheVariants.{Success, Paused}
use Rattle.journal_types.specs.declared.How.{How}
use Rattle.journal_types.specs.declared.How.TheVariants as how
use Rattle.journal_types.specs.declared.Row.{Row}
use Rattle.journal_types.specs.declared.Row.TheVariants as row
use Rattle.journal_types.specs.declared.Target.TheVariants.{Module, Bindings}
use Rattle.stack_rules.specs.declared.LiveList.{LiveList}
use Rattle.stack_rules.specs.declared.Attached.{Attached}
use Rattle.stack_rules.specs.Tests.{is_down, is_virtual, is_running, is_retain, phase_is_running}
use Rattle.stack_rules.specs.Heads.{kind_of_binding}
use Rattle.stack_rules.specs.Net.{Net, after, after_rows, attached}
use Rattle.stack_rules.specs.Places.{is_crossed}
use Rattle.stack_rules.specs.Deliveries.{takers, echoes, echoed, how_for, delivered, last_of, settled}
use Rattle.stack_rules.specs.Receives.{up_at_filter, up_rows}
use Rattle.state_laws.proofs.Rows.{by_test, after_rows-append}
use Rattle.state_laws.proofs.Takes.{attached-is}
use Rattle.place_laws.proofs.Rows.{goes_skip, goes_keep, still_uncloned}
use Rattle.place_laws.proofs.Routes.{IsFree, home_from, back_from, same_as}
use Rattle.place_laws.proofs.Keepers.{Good, Going, Facts}
use Rattle.place_laws.proofs.Clones.{Leaves, MayHave, still_apart, filter_leaves}
use Rattle.place_laws.proofs.Sends.{begins, sent_goes}

-- only echo bindings issue lists
pub delivered_goes : (net next : Net) → Facts net → (list : ListNo) (frames : List (List ℕ)) (own : How) (n : ℕ) (bs : List ℕ) → n ≡ next.next.list → Going net next → Going net (after_rows next (delivered net list frames own n bs))
delivered_goes net next facts list frames own n [] e h = h
delivered_goes net next facts list frames own n (b ∷ bs) e h =
    let first : Net = after next (row.Deliver list b (how_for own bs) frames) in
    let g : Going net first = goes_skip net.modules.order (is_virtual net.head.kind) net next (row.Deliver list b (how_for own bs) frames) refl h in
    by_test (λ rows. Going net (after_rows first rows)) (echoes net b) _ _
    (λ t. delivered_goes net (after_rows first (echoed net n b frames)) facts list frames own (n + 1) bs (ap (λ i. i + 1) e) (sent_goes net first facts n b None frames e g))
    (λ t. delivered_goes net first facts list frames own n bs e g)

settled_leaves : (net next : Net) → Facts net → (l : LiveList) (keeps : Bool) (o : Option ℕ) → is_down l.direction ≡ false → is_crossed l.crossed ≡ false → IsFree net l → Going net next → Good net (after_rows next (settled net l keeps o))
settled_leaves net next facts l keeps None up apart w h = (home_from net.modules (is_virtual net.head.kind) facts.distinct net next l 0 Success w h).now
settled_leaves net next facts l keeps (Some b) up apart w h =
    by_test (λ rows. Good net (after_rows next rows)) (keeps && is_retain (kind_of_binding net.head b)) _ _
    (λ _. (goes_keep net.modules.order (is_virtual net.head.kind) net next l.list (Binding b) (still_uncloned net.modules.order (is_virtual net.head.kind) net next h l.list.0 w.free)
    (λ x e. (ap is_down (same_as net.modules (is_virtual net.head.kind) facts.distinct net next l w h x e).1 ∙ up, still_apart net next l x h w.found e apart)) h).now)
    (λ _. (home_from net.modules (is_virtual net.head.kind) facts.distinct net next l 0 Success w h).now)

-- an owned list at the bindings
pub delivery_leaves : (net : Net) → Facts net → (l : LiveList) (keeps : Bool) → is_down l.direction ≡ false → is_crossed l.crossed ≡ false → IsFree net l → Leaves net (up_rows net l Bindings keeps)
delivery_leaves net facts l keeps up apart w =
    by_test (Leaves net) (phase_is_running net.phase) _ _
    (λ _.
    let rows : List Row = delivered net l.list l.frames how.Own net.next.list (takers net l.frames) in
    subst (Good net) (sym (after_rows-append net rows (settled net l keeps (last_of (takers net l.frames)))))
    (settled_leaves net (after_rows net rows) facts l keeps (last_of (takers net l.frames)) up apart w (delivered_goes net net facts l.list l.frames how.Own net.next.list (takers net l.frames) refl (begins net facts))))
    (λ _. (back_from net.modules (is_virtual net.head.kind) facts.distinct net net l (Binding 0) Paused w (begins net facts)).now)

-- a receive at a filter
up_filter_leaves : (net : Net) → Facts net → (f : ℕ) (o : Option Attached) (l : LiveList) (keeps : Bool) → attached f net.modules.filters ≡ o → MayHave net f l → Leaves net (up_at_filter net o l keeps)
up_filter_leaves net facts f None l keeps e m = facts.good
up_filter_leaves net facts f (Some a) l keeps e m =
    by_test (Leaves net) (is_running a.state) _ _
    (λ _. filter_leaves net facts a l keeps (subst (λ g. MayHave net g l) (sym (attached-is f net.modules.filters a e)) m))
    (λ _. (back_from net.modules (is_virtual net.head.kind) facts.distinct net net l (Filter a.filter) Paused m.free (begins net facts)).now)

pub up_leaves : (net : Net) → Facts net → (l : LiveList) (f : ℕ) (keeps : Bool) → MayHave net f l → Leaves net (up_rows net l (Module (Filter f)) keeps)
up_leaves net facts l f keeps m = up_filter_leaves net facts f (attached f net.modules.filters) l keeps refl m
