-- The drivers of a Halted stack rest, and keep nothing.
use Rattle.std.proofs.Common.{◌≡◌, ℕ, suc, ◌<◌, ◌==◌, ◌||◌, ◌++◌, Bool, true, false, List, [], ◌∷◌, All, filter, length, map, slice_index_or, refl, sym, ap, ◌∙◌, subst, arith}
use Rattle.std.proofs.lemmas.Bool.Decides.{nat_tests}
use Rattle.std.proofs.lemmas.List.{length-map, map-append}
use Rattle.std.proofs.lemmas.List.Elements.{All-nil, All-cons, All-head, All-tail, All-append}
use Rattle.ndis_base.specs.declared.ModuleId.{ModuleId}
use Rattle.ndis_base.specs.declared.ModuleId.TheVariants.{Miniport, Binding}
use Rattle.ndis_base.specs.declared.Phase.TheVariants as phase
use Rattle.journal_types.specs.declared.StackHead.{StackHead}
use Rattle.buffer_pools.specs.Views.{ListView}
use Rattle.stack_rules.specs.declared.LiveList.{LiveList}
use Rattle.stack_rules.specs.Net.{Net, lists}
use Rattle.stack_rules.specs.Places.{is_kept_by}
use Rattle.stack_rules.specs.Rewires.{is_in}
use Rattle.pause_laws.proofs.Turns.{none_while_halted}
use Rattle.shelf_laws.proofs.Rested.{each_is_on_shelf}
use Rattle.hand_lemmas.specs.Hands.{in_hand, in_state}
use Rattle.driver_views.specs.States.{FilterState, MiniportState, ProtocolState}
use Rattle.book_lemmas.specs.Views.{BookView, HeldView, IsOnShelf, no_filter, no_protocol, kept_of}
use Rattle.book_lemmas.specs.Stands.{DriversFit, IsClosed, IsResting, IsShelved}
use Rattle.book_lemmas.proofs.Heads.{head_seen}
use Rattle.book_parts.specs.Events.{IsBook, IsIdle}
use Rattle.book_parts.proofs.Ended.{idle_state}
use Rattle.book_opening.specs.Opened.{kind_of, IsHaltedDriver, IsClosedDriver, AreIdle}

-- no list is live, so none is kept
none_shown : (ls : List ListView) (ks : List LiveList) → map in_hand ls ≡ map in_state ks → ks ≡ [] → ls ≡ []
none_shown [] ks e none = refl
none_shown (l ∷ ls) [] e none = cc
none_shown (l ∷ ls) (k ∷ ks) e none = cc

keeps_nothing : (b : BookView) → IsBook b → lists b.tray.net.things ≡ [] → (m : ModuleId) → kept_of b.held m ≡ []
keeps_nothing b k none m = none_shown (kept_of b.held m) (filter (λ l. is_kept_by m l.stand) (lists b.tray.net.things)) (k.stands.agrees.kept_is m) (ap (filter (λ l. is_kept_by m l.stand)) none)

all_closed : (ps : List ProtocolState) → All IsClosed ps → ((i : ℕ) → (slice_index_or ps i no_protocol).kept ≡ []) → All IsClosedDriver ps
all_closed [] closed kept = All-nil IsClosedDriver
all_closed (p ∷ ps) closed kept =
    All-cons IsClosedDriver p ps (record { closed = All-head IsClosed p ps closed; kept = kept 0 }) (all_closed ps (All-tail IsClosed p ps closed) (λ i. kept (suc i)))

all_resting : (fs : List FilterState) → ((place : ℕ) → place < length fs → IsResting (slice_index_or fs place no_filter)) → All IsResting fs
all_resting [] rest = All-nil IsResting
all_resting (f ∷ fs) rest = All-cons IsResting f fs (rest 0 (omega arith)) (all_resting fs (λ place within. rest (suc place) (omega (arith, within))))

-- what each of a list has, one of it has
of_list : (P : ℕ → Type 0) (place : ℕ) (places : List ℕ) → All P places → is_in place places ≡ true → P place
of_list P place [] all there = absurd (cc)
of_list P place (p ∷ ps) all there = by_number (p == place) refl there (of_list P place ps (All-tail P p ps all))
  where
    same : (p == place) ≡ true → p ≡ place
    same e = grind (arith, nat_tests)

    by_number : (b : Bool) → (p == place) ≡ b → (b || is_in place ps) ≡ true → (is_in place ps ≡ true → P place) → P place
    by_number true e there rest = subst P (same e) (All-head P p ps all)
    by_number false e there rest = rest there

-- all drivers of a stack rest
pub record AllRest (h : HeldView) : Type 0 where
  pub miniport : IsHaltedDriver h.miniport
  pub protocols : All IsClosedDriver h.protocols
  pub filters : All IsResting h.filters

pub rest_when_halted : (b : BookView) → IsBook b → IsIdle b → b.tray.net.phase ≡ phase.Halted → IsShelved b.tray.net b.tray.turns b.held → AllRest b.held
rest_when_halted b k i at shelved =
    let is = idle_state b k i in
    let journal_at = ap (λ (n : Net). n.phase) (sym is) ∙ at in
    let none : lists b.tray.net.things ≡ [] = ap (λ (n : Net). lists n.things) is ∙ none_while_halted b.tray.head b.tray.turns k.follows.sound journal_at in
    let drivers : DriversFit b.tray.net.head.port b.held phase.Halted = subst (DriversFit b.tray.net.head.port b.held) at k.stands.drivers in
    record {
      miniport = record { port = drivers.0; kept = keeps_nothing b k none Miniport };
      protocols = all_closed b.held.protocols drivers.1 (λ p. keeps_nothing b k none (Binding p));
      filters = all_resting b.held.filters
          (λ place within. k.stands.resting place
          (of_list (IsOnShelf b.held) place b.held.shelf k.stands.shelved
          (ap (is_in place) shelved.shelf ∙ each_is_on_shelf b.tray.head b.tray.turns (map kind_of b.held.filters) k.follows.sound journal_at place (omega (arith, within, length-map b.held.filters kind_of)))).vacant);
    }

-- as many protocols as the head has bindings
pub as_many : (b : BookView) → IsBook b → IsIdle b → length b.held.protocols ≡ length b.tray.head.bindings
as_many b k i = k.stands.protocols ∙ ap (λ (n : Net). length n.head.bindings) (idle_state b k i) ∙ ap (λ (h : StackHead). length h.bindings) (head_seen b.tray.head b.tray.turns)

-- so do all drivers, where a stack's stand before those that rest
pub idle_again : {X Y Z : Type 0} (f : X → MiniportState) (g : Y → ProtocolState) (h : Z → FilterState) (ms ms' : List X) (ps ps' qs : List Y) (fs fs' gs : List Z) (m : X) → ms' ≡ m ∷ ms → ps' ≡ qs ++ ps → fs' ≡ fs
    → IsHaltedDriver (f m) → All IsClosedDriver (map g qs) → All IsResting (map h fs) → AreIdle (record { drivers = record { miniports = map f ms; protocols = map g ps }; shelf = map h gs })
    → AreIdle (record { drivers = record { miniports = map f ms'; protocols = map g ps' }; shelf = map h fs' })
idle_again f g h ms ms' ps ps' qs fs fs' gs m miniports protocols filters halted closed resting idle = record {
  miniports = subst (λ xs. All IsHaltedDriver (map f xs)) (sym miniports) (All-cons IsHaltedDriver (f m) (map f ms) halted idle.miniports);
  protocols = subst (λ xs. All IsClosedDriver (map g xs)) (sym protocols) (subst (All IsClosedDriver) (sym (map-append g qs ps)) (All-append IsClosedDriver (map g qs) (map g ps) closed idle.protocols));
  filters = subst (λ xs. All IsResting (map h xs)) (sym filters) resting;
}
