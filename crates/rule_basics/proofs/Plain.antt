-- A stack without filters, and without requests: where lists go next, how many positions are paused or
-- run, and what a pump works.
use Rattle.std.proofs.Common.{◌≡◌, ℕ, zero, suc, ◌+◌, ◌-◌, ◌&&◌, ◌||◌, Bool, true, false, cond, List, [], ◌∷◌, ◌++◌, Option, Some, None, length, get_or, take, drop, reverse, is_some, map, find, refl, ap, sym, ◌∙◌}
use Rattle.std.specs.List.{list_all}
use Rattle.std.proofs.lemmas.List.{get_or_at, append_assoc, length-append}
use Rattle.ndis_base.specs.declared.ModuleId.{ModuleId}
use Rattle.ndis_base.specs.declared.ModuleId.TheVariants.{Miniport, Filter}
use Rattle.ndis_base.specs.declared.ModuleState.{ModuleState}
use Rattle.ndis_base.specs.declared.ModuleState.TheVariants as state
use Rattle.ndis_base.specs.declared.Phase.{Phase}
use Rattle.ndis_base.specs.declared.Phase.TheVariants as phase
use Rattle.journal_types.specs.declared.Target.{Target}
use Rattle.journal_types.specs.declared.Target.TheVariants.{Module, Bindings}
use Rattle.stack_rules.specs.declared.Request.{Request}
use Rattle.stack_rules.specs.Messages.{messages_in_phase}
use Rattle.stack_rules.specs.Net.{Net, Modules}
use Rattle.stack_rules.specs.Places.{agenda_first, position}
use Rattle.stack_rules.specs.Targets.{has_send, has_receive, first_filter, next_down, next_up, next_done, next_back, filters_above, filters_between}
use Rattle.stack_rules.specs.Tests.{is_paused, is_running}
use Rattle.stack_rules.specs.Pauses.{floors, one, count_front, binding_ids, all_are, first_unpaused, running_floors}
use Rattle.stack_rules.specs.Requests.{Giving, lowest_giving, entry_giving, next_giving, or_else, oid_modules, giving_to, is_at_entry}
use Rattle.stack_rules.specs.Pumps.{is_pump_moving}
use Rattle.rule_basics.specs.Live.{front_of_two}

drop-nil : (n : ℕ) → drop {A = ℕ} n [] ≡ []
drop-nil zero = refl
drop-nil (suc n) = refl

take-nil : (n : ℕ) → take {A = ℕ} n [] ≡ []
take-nil zero = refl
take-nil (suc n) = refl

drop-none : (n : ℕ) (fs : List ℕ) → fs ≡ [] → drop n fs ≡ []
drop-none n [] e = drop-nil n
drop-none n (f ∷ fs) e = cc

take-none : (n : ℕ) (fs : List ℕ) → fs ≡ [] → take n fs ≡ []
take-none n [] e = take-nil n
take-none n (f ∷ fs) e = cc

reverse-none : (fs : List ℕ) → fs ≡ [] → reverse fs ≡ []
reverse-none [] e = refl
reverse-none (f ∷ fs) e = cc

first_filter-none : (has : ℕ → Bool) (fs : List ℕ) (other : Target) → fs ≡ [] → first_filter has fs other ≡ other
first_filter-none has [] other e = refl
first_filter-none has (f ∷ fs) other e = cc

-- where lists go next in a stack without filters
pub next_down-plain : (ms : Modules) (i : ℕ) → ms.order ≡ [] → next_down ms i ≡ Module Miniport
next_down-plain ms i e = first_filter-none (has_send ms) (drop i ms.order) (Module Miniport) (drop-none i ms.order e)

pub next_up-plain : (ms : Modules) (i : ℕ) → ms.order ≡ [] → next_up ms i ≡ Bindings
next_up-plain ms i e =
    first_filter-none (has_receive ms) (reverse (filters_above ms i)) Bindings (reverse-none (take (i - 1) ms.order) (take-none (i - 1) ms.order e))

pub next_done-plain : (ms : Modules) (i : ℕ) (owner : ModuleId) → ms.order ≡ [] → next_done ms i owner ≡ Module owner
next_done-plain ms i owner e =
    let top = position ms.order owner in
    first_filter-none (has_send ms) (reverse (filters_between ms top i)) (Module owner) (reverse-none (drop top (take (i - 1) ms.order)) (drop-none top (take (i - 1) ms.order) (take-none (i - 1) ms.order e)))

pub next_back-plain : (ms : Modules) (i : ℕ) (owner : ModuleId) → ms.order ≡ [] → next_back ms i owner ≡ Module owner
next_back-plain ms i owner e =
    let top = position ms.order owner - 1 in
    first_filter-none (has_receive ms) (drop i (take top ms.order)) (Module owner) (drop-none i (take top ms.order) (take-none top ms.order e))

-- all bindings pass a test
bindings_from : (test : ModuleState → Bool) (net : Net) (k : ℕ) (before after : List ModuleState) → net.modules.bindings ≡ before ++ after → length before ≡ k → all_are test net (binding_ids k after) ≡ list_all test after
bindings_from test net k before [] e h = refl
bindings_from test net k before (s ∷ after) e h =
    let here : get_or net.modules.bindings k state.Unbound ≡ s = rw e (get_or_at before s after state.Unbound k h) in
    let rest : all_are test net (binding_ids (k + 1) after) ≡ list_all test after =
    bindings_from test net (k + 1) (before ++ s ∷ []) after (e ∙ sym (append_assoc before (s ∷ []) after)) (length-append before (s ∷ []) ∙ ap (λ n. n + 1) h) in
    rw here (rw rest refl)

pub all_are-bindings : (test : ModuleState → Bool) (net : Net) → all_are test net (binding_ids 0 net.modules.bindings) ≡ list_all test net.modules.bindings
all_are-bindings test net = bindings_from test net 0 [] net.modules.bindings refl refl

length-floors : (first : List ModuleId) (order : List ℕ) → order ≡ [] → length (first ∷ (map (λ f. one (Filter f)) order ++ one Miniport ∷ [])) ≡ 2
length-floors first [] e = refl
length-floors first (f ∷ fs) e = cc

pub floors-plain : (ms : Modules) → ms.order ≡ [] → length (floors ms) ≡ 2
floors-plain ms e = length-floors (binding_ids 0 ms.bindings) ms.order e

counted : (a b : Bool) → cond a (cond b (0 + 1) 0 + 1) 0 ≡ front_of_two a b
counted true true = refl
counted true false = refl
counted false b = refl

front_down : (test : List ModuleId → Bool) (first : List ModuleId) (order : List ℕ) → order ≡ [] → count_front test (first ∷ (map (λ f. one (Filter f)) order ++ one Miniport ∷ [])) ≡ front_of_two (test first) (test (one Miniport))
front_down test first [] e = counted (test first) (test (one Miniport))
front_down test first (f ∷ fs) e = cc

front_up : (test : List ModuleId → Bool) (first : List ModuleId) (order : List ℕ) → order ≡ [] → count_front test (reverse (first ∷ (map (λ f. one (Filter f)) order ++ one Miniport ∷ []))) ≡ front_of_two (test (one Miniport)) (test first)
front_up test first [] e = counted (test (one Miniport)) (test first)
front_up test first (f ∷ fs) e = cc

and_true : (b : Bool) → (b && true) ≡ b
and_true true = refl
and_true false = refl

pub same_front : (a b c d : Bool) → a ≡ c → b ≡ d → front_of_two a b ≡ front_of_two c d
same_front a b c d e f = cc

pub first_unpaused-plain : (net : Net) → net.modules.order ≡ [] → first_unpaused net ≡ front_of_two (list_all is_paused net.modules.bindings) (is_paused net.modules.miniport)
first_unpaused-plain net e =
    front_down (all_are is_paused net) (binding_ids 0 net.modules.bindings) net.modules.order e
    ∙ same_front _ _ _ _ (all_are-bindings is_paused net) (and_true (is_paused net.modules.miniport))

pub running_floors-plain : (net : Net) → net.modules.order ≡ [] → running_floors net ≡ front_of_two (is_running net.modules.miniport) (list_all is_running net.modules.bindings)
running_floors-plain net e =
    front_up (all_are is_running net) (binding_ids 0 net.modules.bindings) net.modules.order e
    ∙ same_front _ _ _ _ (and_true (is_running net.modules.miniport)) (all_are-bindings is_running net)

-- without requests a pump works only what is on its way
lowest_giving-none : (rs : List Request) (ms : List ModuleId) → rs ≡ [] → lowest_giving rs ms ≡ None
lowest_giving-none [] [] e = refl
lowest_giving-none [] (m ∷ ms) e = lowest_giving-none [] ms e
lowest_giving-none (r ∷ rs) ms e = cc

entry_none : (b : Bool) (m : ModuleId) (rs : List Request) → rs ≡ [] → cond b None (giving_to m (find (λ r. is_at_entry r.at) rs)) ≡ None
entry_none true m rs e = refl
entry_none false m [] e = refl
entry_none false m (r ∷ rs) e = cc

neither : (a b : Option Giving) → a ≡ None → b ≡ None → or_else a b ≡ None
neither None b e f = f
neither (Some g) b e f = cc

pub next_giving-none : (net : Net) → net.requests ≡ [] → next_giving net ≡ None
next_giving-none net e =
    neither (lowest_giving net.requests (oid_modules net.modules)) (entry_giving net) (lowest_giving-none net.requests (oid_modules net.modules) e) (entry_none _ _ net.requests e)

or_false : (b : Bool) (g : Option Giving) → g ≡ None → (b || is_some g) ≡ b
or_false true g e = refl
or_false false None e = refl
or_false false (Some g) e = cc

pub pump_moves-lists : (net : Net) → net.requests ≡ [] → is_pump_moving net ≡ is_some (agenda_first net)
pump_moves-lists net e = or_false (is_some (agenda_first net)) (next_giving net) (next_giving-none net e)

-- messages are given up at halt, and none are then none
pub messages_in-none : (p : Phase) → messages_in_phase p [] ≡ []
messages_in-none phase.Halted = refl
messages_in-none _ = refl
