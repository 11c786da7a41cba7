-- Each list that a pump works leaves less to do.
use Rattle.std.proofs.Common.{◌≡◌, ℕ, ◌+◌, ◌-◌, ◌*◌, ◌≤◌, ◌<◌, Bool, true, false, List, [], ◌∷◌, Option, Some, None, refl, arith, ap, sym, subst, ◌∙◌, ◌⊎◌, inl, inr}
use Rattle.std.proofs.lemmas.Bool.Decides.{nat_tests}
use Rattle.ndis_base.specs.declared.ListNo.{ListNo}
use Rattle.ndis_base.specs.declared.ListStatus.{ListStatus}
use Rattle.ndis_base.specs.declared.ListStatus.TheVariants.{Paused, Resources}
use Rattle.ndis_base.specs.declared.ModuleId.{ModuleId}
use Rattle.ndis_base.specs.declared.ModuleId.TheVariants.{Miniport, Filter, Binding}
use Rattle.ndis_base.specs.declared.Origin.{Origin}
use Rattle.ndis_base.specs.declared.Origin.TheVariants as origin
use Rattle.journal_types.specs.declared.Handler.TheVariants as handler
use Rattle.journal_types.specs.declared.PassWay.TheVariants as way
use Rattle.journal_types.specs.declared.Target.{Target}
use Rattle.journal_types.specs.declared.Target.TheVariants.{Module, Bindings}
use Rattle.journal_types.specs.declared.Row.{Row}
use Rattle.journal_types.specs.declared.Row.TheVariants as row
use Rattle.stack_rules.specs.declared.Attached.{Attached}
use Rattle.stack_rules.specs.declared.LiveList.{LiveList}
use Rattle.stack_rules.specs.declared.Stand.{Stand}
use Rattle.stack_rules.specs.declared.Stand.TheVariants as stand
use Rattle.stack_rules.specs.Tests.{is_down, is_running, phase_is_running, same_module}
use Rattle.stack_rules.specs.Net.{Net, attached, lists, list_of}
use Rattle.stack_rules.specs.Places.{position, is_passed, is_clone_of}
use Rattle.stack_rules.specs.Targets.{next_down, next_up, next_done, next_back, homeward, turned_back}
use Rattle.stack_rules.specs.Sends.{ring_is_full, miniport_rows, at_filter}
use Rattle.stack_rules.specs.Receives.{up_at_filter, up_rows}
use Rattle.stack_rules.specs.Dones.{released_list, released, completed_by, homeward_rows}
use Rattle.stack_rules.specs.Pumps.{moved_rows}
use Rattle.stack_rules.specs.Rewires.{is_in}
use Rattle.stack_rules.specs.Work.{bottom, up_work, list_work, kept_work}
use Rattle.state_laws.specs.Shape.{IsDistinct}
use Rattle.home_laws.proofs.Known.{by_test}
use Rattle.rule_basics.proofs.Lives.{find_is}
use Rattle.work_laws.proofs.Ways.{target_most, in_above, down_far, up_near, done_near, back_far}
use Rattle.work_laws.proofs.Lowers.{IsFree, back_trades, give_trades, give_back_trades, keep_trades, home_only, home_alone, home_releases}
use Rattle.place_laws.specs.Kept.{StopsBelow, StopsAbove, StandsPlaced, IsOriginal, HasOriginal, IsOrdered}
use Rattle.work_laws.proofs.Filters.{Lowers, onward_down, onward_up, homeward_done, homeward_back, AllLess, filter_lowers}
use Rattle.work_laws.proofs.Deliveries.{delivery_lowers}

kept_down : (net : Net) (d : Bool) (m : ModuleId) → d ≡ true → kept_work net d m ≤ 2 * (bottom net - position net.modules.order m) + bottom net + 1
kept_down net true m e = omega arith
kept_down net false m e = cc

kept_up : (net : Net) (d : Bool) (f : ℕ) → d ≡ false → kept_work net d (Filter f) ≤ up_work net (position net.modules.order (Filter f))
kept_up net true f e = cc
kept_up net false f e = omega arith

module _ (net : Net) (l : LiveList) (h : IsFree net l) where
  -- a send that is turned back by a module
  down_back : (m : ModuleId) (status : ListStatus) (rows : Row → List Row) → is_down l.direction ≡ true → ((to : Target) → Lowers net (rows (row.Pass l.list (way.Done status) to))) → Lowers net (rows (homeward net.modules l (position net.modules.order m) status))
  down_back m status rows d f =
      let i : ℕ = position net.modules.order m in
      subst (λ (r : Row). Lowers net (rows r)) (sym (homeward_done net.modules l.list l.owner l.direction i status d)) (f (next_done net.modules i l.owner))

  up_back : (m : ModuleId) (status : ListStatus) (rows : Row → List Row) → is_down l.direction ≡ false → ((to : Target) → Lowers net (rows (row.Pass l.list (way.Back status) to))) → Lowers net (rows (homeward net.modules l (position net.modules.order m) status))
  up_back m status rows d f =
      let i : ℕ = position net.modules.order m in
      subst (λ (r : Row). Lowers net (rows r)) (sym (homeward_back net.modules l.list l.owner l.direction i status d)) (f (next_back net.modules i l.owner))

  -- a send at the miniport
  at_miniport : l.stand ≡ stand.Passed way.Down (Module Miniport) → is_down l.direction ≡ true → Lowers net (miniport_rows net l)
  at_miniport at d =
      let old : bottom net + 2 ≤ list_work net l l.stand = rw at (omega arith) in
      by_test (λ rows. Lowers net (row.Give l.list Miniport handler.Send ∷ rows)) (ring_is_full net) _ _
      (λ _. down_back Miniport Resources (λ r. row.Give l.list Miniport handler.Send ∷ row.TurnBack l.list Miniport Resources ∷ r ∷ []) d
      (λ to. let trade = give_back_trades net l Miniport handler.Send Miniport Resources (way.Done Resources) to h in let most = target_most net.modules.order to in omega (arith, trade, old, most)))
      (λ _. let trade = keep_trades net l Miniport handler.Send Miniport h in let kept = kept_down net (is_down l.direction) Miniport d in omega (arith, trade, old, kept))

  -- at a filter
  module _ (o : IsOrdered net.modules) (f : ℕ) (there : is_in f net.modules.order ≡ true) where
    down_less : l.stand ≡ stand.Passed way.Down (Module (Filter f)) → is_down l.direction ≡ true → AllLess net l f
    down_less at d =
        let i : ℕ = position net.modules.order (Filter f) in
        let low = in_above f net.modules.order there in
        let old : list_work net l l.stand ≡ 2 * (bottom net - i) + bottom net + 2 = ap (list_work net l) at in
        record {
          on_way = way.Down;
          on_to = next_down net.modules i;
          on = λ n. onward_down net.modules n l.direction i d;
          on_less = let far = down_far net.modules i o.distinct (omega (arith, low)) in let most = target_most net.modules.order (next_down net.modules i) in omega (arith, far, most, old, low);
          back_way = λ status. way.Done status;
          back_to = next_done net.modules i l.owner;
          back = λ status. homeward_done net.modules l.list l.owner l.direction i status d;
          back_less = λ status. let most = target_most net.modules.order (next_done net.modules i l.owner) in omega (arith, most, old);
          kept_less = let kept = kept_down net (is_down l.direction) (Filter f) d in omega (arith, kept, old);
        }

    up_less : l.stand ≡ stand.Passed way.Up (Module (Filter f)) → is_down l.direction ≡ false → AllLess net l f
    up_less at d =
        let i : ℕ = position net.modules.order (Filter f) in
        let old : list_work net l l.stand ≡ up_work net i + 1 = ap (list_work net l) at in
        record {
          on_way = way.Up;
          on_to = next_up net.modules i;
          on = λ n. onward_up net.modules n l.direction i d;
          on_less = let near = up_near net.modules i in omega (arith, near, old);
          back_way = λ status. way.Back status;
          back_to = next_back net.modules i l.owner;
          back = λ status. homeward_back net.modules l.list l.owner l.direction i status d;
          back_less = λ status. omega (arith, old);
          kept_less = let kept = kept_up net (is_down l.direction) f d in omega (arith, kept, old);
        }

    down_at : l.stand ≡ stand.Passed way.Down (Module (Filter f)) → is_down l.direction ≡ true → (keeps : Bool) → Lowers net (at_filter net (attached f net.modules.filters) l keeps)
    down_at at d keeps =
        let found = o.attached f there in
        subst (λ (e : Option Attached). Lowers net (at_filter net e l keeps)) (sym found.1) (filter_lowers net found.0 l h (subst (AllLess net l) (sym found.2) (down_less at d)) keeps)

    up_turned : (g : ℕ) → g ≡ f → l.stand ≡ stand.Passed way.Up (Module (Filter f)) → is_down l.direction ≡ false → Lowers net (turned_back net.modules l (Filter g) Paused)
    up_turned g e at d =
        let old : list_work net l l.stand ≡ up_work net (position net.modules.order (Filter f)) + 1 = ap (list_work net l) at in
        up_back (Filter g) Paused (λ r. row.TurnBack l.list (Filter g) Paused ∷ r ∷ []) d
        (λ to. let trade = back_trades net l (Filter g) Paused (way.Back Paused) to h in omega (arith, trade, old))

    up_at : l.stand ≡ stand.Passed way.Up (Module (Filter f)) → is_down l.direction ≡ false → (keeps : Bool) → Lowers net (up_at_filter net (attached f net.modules.filters) l keeps)
    up_at at d keeps =
        let found = o.attached f there in
        subst (λ (e : Option Attached). Lowers net (up_at_filter net e l keeps)) (sym found.1)
        (by_test (Lowers net) (is_running found.0.state) _ _
        (λ _. filter_lowers net found.0 l h (subst (AllLess net l) (sym found.2) (up_less at d)) keeps)
        (λ _. up_turned found.0.filter found.2 at d))

  -- at the bindings
  at_bindings : l.stand ≡ stand.Passed way.Up Bindings → is_down l.direction ≡ false → (keeps : Bool) → Lowers net (up_rows net l Bindings keeps)
  at_bindings at d keeps =
      let old : list_work net l l.stand ≡ up_work net 0 + 1 = ap (list_work net l) at in
      by_test (Lowers net) (phase_is_running net.phase) _ _
      (λ running. delivery_lowers net l keeps h at d running)
      (λ _. up_back (Binding 0) Paused (λ r. row.TurnBack l.list (Binding 0) Paused ∷ r ∷ []) d (λ to. let trade = back_trades net l (Binding 0) Paused (way.Back Paused) to h in omega (arith, trade, old)))

  -- on the way home, at a filter
  done_on : (m : ModuleId) (status : ListStatus) → l.stand ≡ stand.Passed (way.Done status) (Module m) → is_down l.direction ≡ true → position net.modules.order l.owner < position net.modules.order m →
      Lowers net (row.Give l.list m (completed_by l.direction) ∷ homeward net.modules l (position net.modules.order m) status ∷ [])
  done_on m status at d below =
      let i : ℕ = position net.modules.order m in
      let old : list_work net l l.stand ≡ i + 1 = ap (list_work net l) at in
      let near = done_near net.modules i (i - 1) l.owner (omega arith) (omega (arith, below)) in
      let trade = give_trades net l m (completed_by l.direction) (way.Done status) (next_done net.modules i l.owner) h in
      subst (λ (r : Row). Lowers net (row.Give l.list m (completed_by l.direction) ∷ r ∷ [])) (sym (homeward_done net.modules l.list l.owner l.direction i status d)) (omega (arith, old, near, trade, below))

  back_on : (m : ModuleId) (status : ListStatus) → IsDistinct net.modules.order → l.stand ≡ stand.Passed (way.Back status) (Module m) → is_down l.direction ≡ false → position net.modules.order m < position net.modules.order l.owner →
      Lowers net (row.Give l.list m (completed_by l.direction) ∷ homeward net.modules l (position net.modules.order m) status ∷ [])
  back_on m status distinct at d above =
      let i : ℕ = position net.modules.order m in
      let old : list_work net l l.stand ≡ bottom net - i + 1 = ap (list_work net l) at in
      let far = back_far net.modules i l.owner distinct above in
      let most = target_most net.modules.order (next_back net.modules i l.owner) in
      let trade = give_trades net l m (completed_by l.direction) (way.Back status) (next_back net.modules i l.owner) h in
      subst (λ (r : Row). Lowers net (row.Give l.list m (completed_by l.direction) ∷ r ∷ [])) (sym (homeward_back net.modules l.list l.owner l.direction i status d)) (omega (arith, old, far, most, trade))

  -- at home
  module _ (status : ListStatus) (distinct : IsDistinct net.modules.order) (parent : HasOriginal net l) where
    abbrev HomeWork : ℕ → Type 0
    HomeWork old = list_work net l l.stand ≡ old

    release : (o : ListNo) (x : LiveList) → l.origin ≡ origin.Clone o → list_of o.0 (lists net.things) ≡ Some x → IsOriginal net.modules l x →
        ((is_down l.direction ≡ true) × HomeWork (position net.modules.order l.owner + 1)) ⊎ ((is_down l.direction ≡ false) × HomeWork (bottom net - position net.modules.order l.owner + 1)) →
        Lowers net (row.Home l.list l.owner status ∷ homeward net.modules x (position net.modules.order l.owner) status ∷ [])
    release o x e f is (inl (d, old)) =
        let i : ℕ = position net.modules.order l.owner in
        let below = is.down d in
        let near = done_near net.modules i (i - 1) x.owner (omega arith) (omega (arith, below)) in
        let trade = home_releases net l l.owner status o x.list (way.Done status) (next_done net.modules i x.owner) h e (find_is o.0 (lists net.things) x f).0 in
        subst (λ (r : Row). Lowers net (row.Home l.list l.owner status ∷ r ∷ [])) (sym (homeward_done net.modules x.list x.owner x.direction i status (is.same ∙ d))) (omega (arith, old, near, trade, below))
    release o x e f is (inr (d, old)) =
        let i : ℕ = position net.modules.order l.owner in
        let far = back_far net.modules i x.owner distinct (is.up d) in
        let most = target_most net.modules.order (next_back net.modules i x.owner) in
        let trade = home_releases net l l.owner status o x.list (way.Back status) (next_back net.modules i x.owner) h e (find_is o.0 (lists net.things) x f).0 in
        subst (λ (r : Row). Lowers net (row.Home l.list l.owner status ∷ r ∷ [])) (sym (homeward_back net.modules x.list x.owner x.direction i status (is.same ∙ d))) (omega (arith, old, far, most, trade))

    home_lowers : (by : Origin) → l.origin ≡ by → 1 ≤ list_work net l l.stand →
        ((is_down l.direction ≡ true) × HomeWork (position net.modules.order l.owner + 1)) ⊎ ((is_down l.direction ≡ false) × HomeWork (bottom net - position net.modules.order l.owner + 1)) →
        Lowers net (row.Home l.list l.owner status ∷ released net l.owner by status)
    home_lowers origin.Root e some w = let trade = home_only net l l.owner status h (λ n. ap (is_clone_of n) e) in omega (arith, trade, some)
    home_lowers (origin.Copy o) e some w = let trade = home_only net l l.owner status h (λ n. ap (is_clone_of n) e) in omega (arith, trade, some)
    home_lowers (origin.Clone o) e some w = found (list_of o.0 (lists net.things)) refl
      where
        found : (x : Option LiveList) → list_of o.0 (lists net.things) ≡ x → Lowers net (row.Home l.list l.owner status ∷ released_list net l.owner status x)
        found None f = let trade = home_alone net l l.owner status o h e f in omega (arith, trade, some)
        found (Some x) f = release o x e f (parent o x e f) w

pub same_is : (m n : ModuleId) → same_module m n ≡ true → m ≡ n
same_is Miniport Miniport e = refl
same_is Miniport (Filter g) e = cc
same_is Miniport (Binding c) e = cc
same_is (Filter f) Miniport e = cc
same_is (Filter f) (Filter g) e = let same : f ≡ g = grind (arith, nat_tests) in ap (λ i. Filter i) same
same_is (Filter f) (Binding c) e = cc
same_is (Binding b) Miniport e = cc
same_is (Binding b) (Filter g) e = cc
same_is (Binding b) (Binding c) e = let same : b ≡ c = grind (arith, nat_tests) in ap (λ i. Binding i) same

same_self : (m : ModuleId) → same_module m m ≡ true
same_self Miniport = refl
same_self (Filter f) = grind (arith, nat_tests)
same_self (Binding b) = grind (arith, nat_tests)

not_same : (m n : ModuleId) → m ≡ n → same_module m n ≡ false → ⊥
not_same m n e f = let t : same_module m n ≡ true = ap (same_module m) (sym e) ∙ same_self m in cc

homeward_lowers_done : (net : Net) (l : LiveList) (m : ModuleId) (status : ListStatus) → IsFree net l → IsOrdered net.modules → HasOriginal net l → l.stand ≡ stand.Passed (way.Done status) (Module m) → is_down l.direction ≡ true → StopsBelow net.modules l.owner m →
    Lowers net (homeward_rows net l m status)
homeward_lowers_done net l m status h o parent at d stops =
    by_test (Lowers net) (same_module m l.owner) _ _
    (λ t.
    let same : position net.modules.order m ≡ position net.modules.order l.owner = ap (position net.modules.order) (same_is m l.owner t) in
    let old : list_work net l l.stand ≡ position net.modules.order l.owner + 1 = ap (list_work net l) at ∙ ap (λ i. i + 1) same in
    home_lowers net l h status o.distinct parent l.origin refl (omega (arith, old)) (inl (d, old)))
    (λ f. done_on net l h m status at d (below f stops))
  where
    below : same_module m l.owner ≡ false → StopsBelow net.modules l.owner m → position net.modules.order l.owner < position net.modules.order m
    below f (inl e) = absurd (not_same m l.owner e f)
    below f (inr b) = b

homeward_lowers_back : (net : Net) (l : LiveList) (m : ModuleId) (status : ListStatus) → IsFree net l → IsOrdered net.modules → HasOriginal net l → l.stand ≡ stand.Passed (way.Back status) (Module m) → is_down l.direction ≡ false → StopsAbove net.modules l.owner m →
    Lowers net (homeward_rows net l m status)
homeward_lowers_back net l m status h o parent at d stops =
    by_test (Lowers net) (same_module m l.owner) _ _
    (λ t.
    let same : position net.modules.order m ≡ position net.modules.order l.owner = ap (position net.modules.order) (same_is m l.owner t) in
    let old : list_work net l l.stand ≡ bottom net - position net.modules.order l.owner + 1 = ap (list_work net l) at ∙ ap (λ i. bottom net - i + 1) same in
    home_lowers net l h status o.distinct parent l.origin refl (omega (arith, old)) (inr (d, old)))
    (λ f. back_on net l h m status o.distinct at d (above f stops))
  where
    above : same_module m l.owner ≡ false → StopsAbove net.modules l.owner m → position net.modules.order m < position net.modules.order l.owner
    above f (inl e) = absurd (not_same m l.owner e f)
    above f (inr b) = b

-- a list on its way that is placed
pub moved_lowers : (net : Net) (l : LiveList) (s : Stand) (keeps : Bool) → IsFree net l → IsOrdered net.modules → HasOriginal net l → l.stand ≡ s → StandsPlaced net.modules l s → is_passed s ≡ true → Lowers net (moved_rows net l s keeps)
moved_lowers net l stand.Unplaced keeps h o parent at p q = cc
moved_lowers net l (stand.Kept m) keeps h o parent at p q = cc
moved_lowers net l (stand.Passed way.Down (Module Miniport)) keeps h o parent at p q = at_miniport net l h at p
moved_lowers net l (stand.Passed way.Down (Module (Filter f))) keeps h o parent at p q = down_at net l h o f p.1 at p.0 keeps
moved_lowers net l (stand.Passed way.Down (Module (Binding b))) keeps h o parent at p q = absurd p
moved_lowers net l (stand.Passed way.Down Bindings) keeps h o parent at p q = absurd p
moved_lowers net l (stand.Passed way.Up Bindings) keeps h o parent at p q = at_bindings net l h at p keeps
moved_lowers net l (stand.Passed way.Up (Module (Filter f))) keeps h o parent at p q = up_at net l h o f p.1 at p.0 keeps
moved_lowers net l (stand.Passed way.Up (Module Miniport)) keeps h o parent at p q = absurd p
moved_lowers net l (stand.Passed way.Up (Module (Binding b))) keeps h o parent at p q = absurd p
moved_lowers net l (stand.Passed (way.Done status) (Module m)) keeps h o parent at p q = homeward_lowers_done net l m status h o parent at p.0 p.1
moved_lowers net l (stand.Passed (way.Done status) Bindings) keeps h o parent at p q = absurd p
moved_lowers net l (stand.Passed (way.Back status) (Module m)) keeps h o parent at p q = homeward_lowers_back net l m status h o parent at p.0 p.1
moved_lowers net l (stand.Passed (way.Back status) Bindings) keeps h o parent at p q = absurd p
