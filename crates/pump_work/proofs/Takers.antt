-- Whom requests are given to: filters and the miniport.
use Rattle.std.proofs.Common.{◌≡◌, ℕ, ◌&&◌, ◌||◌, not, List, [], ◌∷◌, Option, Some, None, reverse, filter, find, subst}
use Rattle.ndis_base.specs.declared.ModuleId.{ModuleId}
use Rattle.ndis_base.specs.declared.ModuleId.TheVariants.{Miniport, Filter, Binding}
use Rattle.stack_rules.specs.declared.Request.{Request}
use Rattle.stack_rules.specs.Net.{Net, Modules, has_oid, first_oid}
use Rattle.stack_rules.specs.Requests.{Giving, giving_to, lowest_giving, entry_giving, or_else, next_giving, filter_ids, oid_modules, is_busy, has_waiting, first_waiting, is_at_entry}
use Rattle.stack_rules.specs.Tests.{phase_is_paused, phase_is_halted}
use Rattle.state_laws.proofs.Rows.{by_test}

-- it is no binding
abbrev Takes : ModuleId → Type 0
Takes Miniport = Unit {0}
Takes (Filter f) = Unit {0}
Takes (Binding b) = ⊥

abbrev EachTakes : List ModuleId → Type 0
EachTakes [] = Unit {0}
EachTakes (m ∷ ms) = Takes m × EachTakes ms

filters_take : (fs : List ℕ) → EachTakes (filter_ids fs)
filters_take [] = tt
filters_take (f ∷ fs) = (tt, filters_take fs)

first_takes : (ms : Modules) (fs : List ℕ) → Takes (first_oid ms fs)
first_takes ms [] = tt
first_takes ms (f ∷ fs) = by_test Takes (has_oid ms f) _ _ (λ _. tt) (λ _. first_takes ms fs)

-- whoever is given a request does
abbrev GivenTakes : Option Giving → Type 0
GivenTakes None = Unit {0}
GivenTakes (Some g) = Takes g.module_id

to_takes : (m : ModuleId) (o : Option Request) → Takes m → GivenTakes (giving_to m o)
to_takes m None t = tt
to_takes m (Some r) t = t

lowest_takes : (rs : List Request) (ms : List ModuleId) → EachTakes ms → GivenTakes (lowest_giving rs ms)
lowest_takes rs [] t = tt
lowest_takes rs (m ∷ ms) t = by_test GivenTakes (has_waiting rs m && not (is_busy rs m)) _ _ (λ _. to_takes m (first_waiting rs m) t.0) (λ _. lowest_takes rs ms t.1)

entry_takes : (net : Net) → GivenTakes (entry_giving net)
entry_takes net =
    let ms : Modules = net.modules in
    by_test GivenTakes ((phase_is_paused net.phase || phase_is_halted net.phase) || (is_busy net.requests (first_oid ms ms.order) || has_waiting net.requests (first_oid ms ms.order))) _ _
    (λ _. tt) (λ _. to_takes (first_oid ms ms.order) (find (λ r. is_at_entry r.at) net.requests) (first_takes ms ms.order))

else_takes : (o other : Option Giving) → GivenTakes o → GivenTakes other → GivenTakes (or_else o other)
else_takes None other t u = u
else_takes (Some g) other t u = t

next_takes : (net : Net) → GivenTakes (next_giving net)
next_takes net =
    else_takes (lowest_giving net.requests (oid_modules net.modules)) (entry_giving net)
    (lowest_takes net.requests (oid_modules net.modules) (tt, filters_take (filter (has_oid net.modules) (reverse net.modules.order)))) (entry_takes net)

pub not_binding : (net : Net) (r : Request) (m : ModuleId) (b : ℕ) → next_giving net ≡ Some (record { request = r; module_id = m }) → m ≡ Binding b → ⊥
not_binding net r m b next is = subst Takes is (subst GivenTakes next (next_takes net))
