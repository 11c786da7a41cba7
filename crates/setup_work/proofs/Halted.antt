-- While a stack is Halted its drivers keep nothing, so they may be set up.
use Rattle.std.proofs.Common.{◌≡◌, ℕ, List, [], ◌∷◌, filter, map, length, All, refl, sym, ap, ◌∙◌, subst, arith}
use Rattle.std.proofs.lemmas.List.{length-map}
use Rattle.std.proofs.lemmas.List.Elements.{All-from_get_or}
use Rattle.ndis_base.specs.declared.ModuleId.{ModuleId}
use Rattle.ndis_base.specs.declared.ModuleId.TheVariants.{Miniport, Binding}
use Rattle.ndis_base.specs.declared.Phase.TheVariants as phase
use Rattle.buffer_pools.specs.Views.{ListView}
use Rattle.stack_rules.specs.declared.LiveList.{LiveList}
use Rattle.stack_rules.specs.Net.{Net, seen, lists}
use Rattle.stack_rules.specs.Places.{is_kept_by, kept_lists}
use Rattle.work_laws.proofs.Halted.{HasNothing, nothing_while_halted}
use Rattle.hand_lemmas.specs.Hands.{in_hand, in_state}
use Rattle.driver_views.specs.States.{ProtocolState}
use Rattle.driver_calls.specs.Miniports.{MayInitialize}
use Rattle.driver_calls.specs.Protocols.{MayOpen}
use Rattle.driver_tray.specs.Tray.{TrayView}
use Rattle.book_lemmas.specs.Between.{IsBetween}
use Rattle.book_lemmas.specs.Stands.{DriversFit}
use Rattle.book_lemmas.specs.Views.{BookView, no_protocol, kept_of}
use Rattle.book_lemmas.proofs.Between.{bindings_count}
use Rattle.book_parts.specs.Events.{IsBook, IsIdle}
use Rattle.book_parts.proofs.Ended.{idle_state}
use Rattle.book_parts.proofs.Events.{Begins}

pub between : (v : BookView) → IsBook v → IsIdle v → IsBetween v.tray.head v.tray.turns v.tray.net
between v k i = record { is = idle_state v k i; sound = k.follows.sound; bound = k.bound }

none_shown : (ls : List ListView) (ks : List LiveList) → map in_hand ls ≡ map in_state ks → ks ≡ [] → ls ≡ []
none_shown [] ks e none = refl
none_shown (l ∷ ls) [] e none = cc
none_shown (l ∷ ls) (k ∷ ks) e none = cc

pub nothing_kept : (v : BookView) → IsBook v → IsIdle v → v.tray.net.phase ≡ phase.Halted → (m : ModuleId) → kept_of v.held m ≡ []
nothing_kept v k i halted m =
    let b : IsBetween v.tray.head v.tray.turns v.tray.net = between v k i in
    let nothing : HasNothing (seen v.tray.head v.tray.turns) = nothing_while_halted v.tray.head v.tray.turns b.sound (sym (ap (λ (n : Net). n.phase) b.is) ∙ halted) in
    let things : v.tray.net.things ≡ [] = ap (λ (n : Net). n.things) b.is ∙ nothing.things in
    none_shown (kept_of v.held m) (kept_lists v.tray.net m) (k.stands.agrees.kept_is m) (ap (λ ts. filter (λ l. is_kept_by m l.stand) (lists ts)) things)

pub halted_drivers : (v : BookView) → IsBook v → v.tray.net.phase ≡ phase.Halted → DriversFit v.tray.net.head.port v.held phase.Halted
halted_drivers v k halted = subst (DriversFit v.tray.net.head.port v.held) halted k.stands.drivers

pub may_initialize : (v : BookView) → IsBook v → IsIdle v → v.tray.net.phase ≡ phase.Halted → MayInitialize v.held.miniport
may_initialize v k i halted = record { port = (halted_drivers v k halted).0; kept = nothing_kept v k i halted Miniport }

pub may_open : (v : BookView) → IsBook v → IsIdle v → v.tray.net.phase ≡ phase.Halted → All MayOpen v.held.protocols
may_open v k i halted =
    All-from_get_or MayOpen v.held.protocols no_protocol
    (λ j within. record { is_open = (halted_drivers v k halted).1 j no_protocol within; kept = nothing_kept v k i halted (Binding j) })

-- there are as many protocols as bindings
pub few_protocols : {X : Type 0} (v : BookView) (f : X → ProtocolState) (xs : List X) (many : ℕ) → IsBook v → IsIdle v → v.held.protocols ≡ map f xs → many ≡ length v.tray.net.modules.bindings → length xs ≡ many
few_protocols v f xs many k i are all = omega (arith, k.stands.protocols, bindings_count (between v k i), all, ap length are, length-map xs f)

-- so they may be where an event found the stack Halted
pub was_halted : (old : BookView) (b : TrayView) → Begins old.tray b [] → phase.Halted ≡ b.net.phase → old.tray.net.phase ≡ phase.Halted
was_halted old b g halted = ap (λ (n : Net). n.phase) (sym g.net) ∙ sym halted
