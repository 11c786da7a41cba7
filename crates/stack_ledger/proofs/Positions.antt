-- How many positions are Paused from the top, and run from the bottom, by the modules' states.
use Rattle.std.proofs.Common.{◌≡◌, ℕ, ◌+◌, ◌&&◌, Bool, true, false, cond, List, [], ◌∷◌, ◌++◌, map, reverse, refl, ap, sym, ◌∙◌}
use Rattle.std.specs.List.{list_all}
use Rattle.std.proofs.lemmas.List.{reverse-append}
use Rattle.ndis_base.specs.declared.ModuleId.{ModuleId}
use Rattle.ndis_base.specs.declared.ModuleId.TheVariants.{Miniport, Filter}
use Rattle.ndis_base.specs.declared.ModuleState.{ModuleState}
use Rattle.stack_rules.specs.Tests.{is_paused, is_running}
use Rattle.stack_rules.specs.Net.{Net, attached}
use Rattle.stack_rules.specs.Places.{state_in}
use Rattle.stack_rules.specs.Pauses.{floors, one, count_front, binding_ids, all_are, first_unpaused, running_floors}
use Rattle.rule_basics.proofs.Plain.{all_are-bindings}
use Rattle.stack_ledger.specs.Bare.{bare}
use Rattle.stack_ledger.specs.Positions.{count_filters, paused_from_top, running_from_below}

and_true : (b : Bool) → (b && true) ≡ b
and_true true = refl
and_true false = refl

-- the filters, and the last position after them
count_rest : (test : ModuleState → Bool) (net : Net) (last : List ModuleId) (fs : List ℕ)
    → count_front (all_are test net) (map (λ f. one (Filter f)) fs ++ last ∷ []) ≡ count_filters test net.modules (all_are test net last) fs
count_rest test net last [] = refl
count_rest test net last (f ∷ fs) =
    ap (λ b. cond b (count_front (all_are test net) (map (λ f. one (Filter f)) fs ++ last ∷ []) + 1) 0) (and_true (test (state_in (attached f net.modules.filters))))
    ∙ ap (λ n. cond (test (state_in (attached f net.modules.filters))) (n + 1) 0) (count_rest test net last fs)

-- the first position, and the others
pub first_unpaused-is : (net : Net) → first_unpaused net ≡ paused_from_top net.modules
first_unpaused-is net =
    ap (λ n. cond (all_are is_paused net (binding_ids 0 net.modules.bindings)) (n + 1) 0) (count_rest is_paused net (one Miniport) net.modules.order)
    ∙ ap (λ b. cond b (count_filters is_paused net.modules (is_paused net.modules.miniport && true) net.modules.order + 1) 0) (all_are-bindings is_paused net)
    ∙ ap (λ b. cond (list_all is_paused net.modules.bindings) (count_filters is_paused net.modules b net.modules.order + 1) 0) (and_true (is_paused net.modules.miniport))

map-more : (fs : List ℕ) (f : ℕ) → map (λ f. one (Filter f)) (fs ++ f ∷ []) ≡ map (λ f. one (Filter f)) fs ++ one (Filter f) ∷ []
map-more [] f = refl
map-more (g ∷ fs) f = ap (λ xs. one (Filter g) ∷ xs) (map-more fs f)

map-reverse : (fs : List ℕ) → reverse (map (λ f. one (Filter f)) fs) ≡ map (λ f. one (Filter f)) (reverse fs)
map-reverse [] = refl
map-reverse (f ∷ fs) =
    reverse-append (one (Filter f) ∷ []) (map (λ f. one (Filter f)) fs)
    ∙ ap (λ xs. xs ++ one (Filter f) ∷ []) (map-reverse fs)
    ∙ sym (map-more (reverse fs) f)
    ∙ ap (map (λ f. one (Filter f))) (sym (reverse-append (f ∷ []) fs))

from_below : (net : Net) → reverse (floors net.modules) ≡ one Miniport ∷ (map (λ f. one (Filter f)) (reverse net.modules.order) ++ binding_ids 0 net.modules.bindings ∷ [])
from_below net =
    reverse-append (binding_ids 0 net.modules.bindings ∷ []) (map (λ f. one (Filter f)) net.modules.order ++ one Miniport ∷ [])
    ∙ ap (λ xs. xs ++ binding_ids 0 net.modules.bindings ∷ []) (reverse-append (map (λ f. one (Filter f)) net.modules.order) (one Miniport ∷ []))
    ∙ ap (λ xs. one Miniport ∷ (xs ++ binding_ids 0 net.modules.bindings ∷ [])) (map-reverse net.modules.order)

pub running_floors-is : (net : Net) → running_floors net ≡ running_from_below net.modules
running_floors-is net =
    ap (count_front (all_are is_running net)) (from_below net)
    ∙ ap (λ b. cond b (count_front (all_are is_running net) (map (λ f. one (Filter f)) (reverse net.modules.order) ++ binding_ids 0 net.modules.bindings ∷ []) + 1) 0) (and_true (is_running net.modules.miniport))
    ∙ ap (λ n. cond (is_running net.modules.miniport) (n + 1) 0) (count_rest is_running net (binding_ids 0 net.modules.bindings) (reverse net.modules.order))
    ∙ ap (λ b. cond (is_running net.modules.miniport) (count_filters is_running net.modules b (reverse net.modules.order) + 1) 0) (all_are-bindings is_running net)

-- both depend on the modules alone
pub bare_unpaused : (net : Net) → first_unpaused (bare net) ≡ first_unpaused net
bare_unpaused net = first_unpaused-is (bare net) ∙ sym (first_unpaused-is net)

pub bare_running : (net : Net) → running_floors (bare net) ≡ running_floors net
bare_running net = running_floors-is (bare net) ∙ sym (running_floors-is net)
