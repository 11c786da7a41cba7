-- A list is kept past its owner: a send below it, a receive above it.
use Rattle.std.proofs.Common.{◌≡◌, Bool, true, false, refl, arith, subst}
use Rattle.ndis_base.specs.declared.ModuleId.{ModuleId}
use Rattle.ndis_base.specs.declared.ModuleId.TheVariants.{Miniport, Filter, Binding}
use Rattle.stack_rules.specs.declared.LiveList.{LiveList}
use Rattle.stack_rules.specs.declared.Stand.TheVariants as stand
use Rattle.stack_rules.specs.Tests.{is_down}
use Rattle.stack_rules.specs.Net.{Net, Modules, seen}
use Rattle.stack_rules.specs.Places.{position}
use Rattle.stack_rules.specs.Targets.{has_send, has_receive}
use Rattle.stack_rules.specs.Rewires.{is_in}
use Rattle.state_laws.specs.Laws.{IsThere}
use Rattle.outstanding_laws.specs.Outstanding.{IsKeptApart, EachIsKeptApart}
use Rattle.outstanding_laws.proofs.Rows.{May, MayKeep, Fits, IsRight}
use Rattle.outstanding_laws.proofs.Routes.{and_first}
use Rattle.outstanding_laws.proofs.Turns.{IsSound, each_right}

-- the keeper and the owner stand at different positions
may_apart : (ms : Modules) (sends : Bool) (owner m : ModuleId) → May ms sends owner m → position ms.order m ≡ position ms.order owner → ⊥
may_apart ms true owner m h e = omega (arith, e, (h.sent refl).1)
may_apart ms false owner m h e = omega (arith, e, (h.risen refl).1)

keep_apart : (ms : Modules) (sends : Bool) (owner m : ModuleId) → MayKeep ms sends owner m → position ms.order m ≡ position ms.order owner → ⊥
keep_apart ms sends owner Miniport h e = may_apart ms sends owner Miniport h e
keep_apart ms sends owner (Filter f) h e = may_apart ms sends owner (Filter f) h e
keep_apart ms sends owner (Binding b) h e = omega (arith, e, h.1.1)

-- the keeper is a module of the configuration
pub keep_there : (net : Net) (sends : Bool) (owner m : ModuleId) → MayKeep net.modules sends owner m → IsThere net m
keep_there net sends owner Miniport h = tt
keep_there net true owner (Filter f) h = and_first (is_in f net.modules.order) (has_send net.modules f) (h.sent refl).0
keep_there net false owner (Filter f) h = and_first (is_in f net.modules.order) (has_receive net.modules f) (h.risen refl).0
keep_there net sends owner (Binding b) h = h.1.0

pub kept_fits : (ms : Modules) (l : LiveList) (m : ModuleId) → l.stand ≡ stand.Kept m → IsRight ms l → MayKeep ms (is_down l.direction) l.owner m
kept_fits ms l m e h = let k : Fits ms (is_down l.direction) l.owner l.last (stand.Kept m) = subst (Fits ms (is_down l.direction) l.owner l.last) e h in k.1

pub apart_of : (net : Net) (l : LiveList) → IsSound net l → IsKeptApart net l
apart_of net l h = record { there = h.1; apart = λ m e p. keep_apart net.modules (is_down l.direction) l.owner m (kept_fits net.modules l m e h.0) p }

pub each_is_apart : EachIsKeptApart
each_is_apart head turns s bound = each_right head turns (IsKeptApart (seen head turns)) s bound (λ l h. apart_of (seen head turns) l h)
