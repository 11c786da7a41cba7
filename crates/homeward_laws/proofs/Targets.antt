-- A list on its way to a module goes to one of the configuration, by a way that leads there.
use Rattle.std.proofs.Common.{◌≡◌, ◌≤◌, inl, inr, ℕ, Bool, true, false, List, Some, length, sym, subst}
use Rattle.ndis_base.specs.declared.ModuleId.{ModuleId}
use Rattle.ndis_base.specs.declared.ModuleId.TheVariants.{Miniport, Filter, Binding}
use Rattle.journal_types.specs.declared.StackHead.{StackHead}
use Rattle.journal_types.specs.declared.Turn.{Turn}
use Rattle.journal_types.specs.declared.PassWay.{PassWay}
use Rattle.journal_types.specs.declared.PassWay.TheVariants as way
use Rattle.journal_types.specs.declared.Target.TheVariants.{Module, Bindings}
use Rattle.stack_rules.specs.declared.LiveList.{LiveList}
use Rattle.stack_rules.specs.declared.Stand.{Stand}
use Rattle.stack_rules.specs.declared.Stand.TheVariants as stand
use Rattle.stack_rules.specs.declared.Thing.TheVariants as thing
use Rattle.stack_rules.specs.Tests.{is_down}
use Rattle.stack_rules.specs.Net.{Net, Modules, lists, seen}
use Rattle.stack_rules.specs.Places.{agenda_first}
use Rattle.stack_rules.specs.Rewires.{is_in}
use Rattle.stack_rules.specs.Sound.{Sound}
use Rattle.rule_basics.specs.Live.{Each}
use Rattle.rule_basics.proofs.Each.{Each-found, Each-implies}
use Rattle.pause_laws.proofs.Turns.{held_journal}
use Rattle.pause_laws.proofs.Works.{each_away}
use Rattle.place_laws.specs.Kept.{StandsPlaced}
use Rattle.place_laws.proofs.Keepers.{all_found}
use Rattle.place_laws.proofs.Looks.{look}
use Rattle.state_laws.specs.Laws.{IsThere}
use Rattle.homeward_laws.specs.Homeward.{GoesTowards, GoesHomeAt, GoesHome, MayOwn, IsOwned, LeadsTo, IsBoundFor, IsBound, EachIsBound}
use Rattle.homeward_laws.proofs.Homes.{each_goes_home}
use Rattle.homeward_laws.proofs.Owners.{placed, each_is_owned}

-- what isn't a filter is the owner
to_miniport : (ms : Modules) (has : ℕ → Bool) (owner : ModuleId) → GoesTowards ms has owner (Module Miniport) → owner ≡ Miniport
to_miniport ms has owner (inl e) = cc
to_miniport ms has owner (inr p) = let e : Module Miniport ≡ Module (Filter p.filter) = p.is in absurd (cc)

to_binding : (ms : Modules) (has : ℕ → Bool) (owner : ModuleId) (b : ℕ) → GoesTowards ms has owner (Module (Binding b)) → owner ≡ Binding b
to_binding ms has owner b (inl e) = cc
to_binding ms has owner b (inr p) = let e : Module (Binding b) ≡ Module (Filter p.filter) = p.is in absurd (cc)

-- a filter is the owner, or one that passes
filter_there : (net : Net) (has : ℕ → Bool) (owner : ModuleId) (f : ℕ) → IsThere net owner → GoesTowards net.modules has owner (Module (Filter f)) → is_in f net.modules.order ≡ true
filter_there net has owner f there (inl e) = let same : owner ≡ Filter f = cc in subst (IsThere net) same there
filter_there net has owner f there (inr p) =
    let e : Module (Filter f) ≡ Module (Filter p.filter) = p.is in
    let same : p.filter ≡ f = cc in
    subst (λ g. is_in g net.modules.order ≡ true) same p.inside

no_send : (down : Bool) (owner : ModuleId) → owner ≡ Miniport → MayOwn down owner → down ≡ true → ⊥
no_send down owner e may t = let f : down ≡ false = subst (MayOwn down) e may in cc

no_receive : (down : Bool) (owner : ModuleId) (b : ℕ) → owner ≡ Binding b → MayOwn down owner → down ≡ false → ⊥
no_receive down owner b e may t = let f : down ≡ true = subst (MayOwn down) e may in cc

bound_by : (net : Net) (l : LiveList) (by : PassWay) (m : ModuleId) → StandsPlaced net.modules l (stand.Passed by (Module m)) → GoesHomeAt net.modules l (stand.Passed by (Module m)) → IsOwned net l → IsThere net m × LeadsTo by m
bound_by net l way.Down Miniport s g o = (tt, tt)
bound_by net l way.Down (Filter f) s g o = (s.1, tt)
bound_by net l way.Down (Binding b) s g o = absurd s
bound_by net l way.Up Miniport s g o = absurd s
bound_by net l way.Up (Filter f) s g o = (s.1, tt)
bound_by net l way.Up (Binding b) s g o = absurd s
bound_by net l (way.Done status) Miniport s g o = absurd (no_send (is_down l.direction) l.owner (to_miniport net.modules _ l.owner g.1) o.may g.0)
bound_by net l (way.Done status) (Filter f) s g o = (filter_there net _ l.owner f o.there g.1, tt)
bound_by net l (way.Done status) (Binding b) s g o = (subst (IsThere net) (to_binding net.modules _ l.owner b g.1) o.there, tt)
bound_by net l (way.Back status) Miniport s g o = (tt, tt)
bound_by net l (way.Back status) (Filter f) s g o = (filter_there net _ l.owner f o.there g.1, tt)
bound_by net l (way.Back status) (Binding b) s g o = absurd (no_receive (is_down l.direction) l.owner b (to_binding net.modules _ l.owner b g.1) o.may g.0)

bound_at : (net : Net) (l : LiveList) (s : Stand) → StandsPlaced net.modules l s → GoesHomeAt net.modules l s → IsOwned net l → IsBoundFor net s
bound_at net l stand.Unplaced s g o = tt
bound_at net l (stand.Kept m) s g o = tt
bound_at net l (stand.Passed by Bindings) s g o = tt
bound_at net l (stand.Passed by (Module m)) s g o = bound_by net l by m s g o

pub each_is_bound : EachIsBound
each_is_bound head turns s bound =
    let net : Net = seen head turns in
    Each-implies (λ l. look net l.list.0 ≡ Some l) (IsBound net)
    (λ l f. bound_at net l l.stand (placed head turns s bound l f).stands
    (Each-found (GoesHome net.modules) l.list.0 (lists net.things) l (each_goes_home head turns s bound) f)
    (Each-found (IsOwned net) l.list.0 (lists net.things) l (each_is_owned head turns s bound) f))
    (lists net.things) (all_found (lists net.things) (held_journal head turns s).clear.apart)

-- the first list on its way
pub first_bound : (head : StackHead) (turns : List Turn) (net : Net) → net ≡ seen head turns → Sound head turns → 1 ≤ length head.bindings → (x : LiveList) (by : PassWay) (m : ModuleId) → agenda_first net ≡ Some (thing.List x) → x.stand ≡ stand.Passed by (Module m) → IsThere net m × LeadsTo by m
first_bound head turns net is s bound x by m first stands =
    let each : Each (IsBound net) (lists net.things) = subst (λ (n : Net). Each (IsBound n) (lists n.things)) (sym is) (each_is_bound head turns s bound) in
    subst (IsBoundFor net) stands (each_away (IsBound net) net.things x each first)
