-- As many filters are attached as stand in the order: no filter is attached twice, and each is in the order, which
-- has no filter that isn't attached.
use Rattle.std.proofs.Common.{◌≡◌, ◌≢◌, ℕ, ◌+◌, ◌<◌, ◌==◌, ◌||◌, not, Bool, true, false, cond, List, [], ◌∷◌, ◌++◌, Some, length, map, refl, arith, ap, sym, subst, ◌∙◌}
use Rattle.std.proofs.lemmas.Bool.Decides.{nat_tests}
use Rattle.std.proofs.lemmas.List.{length-map}
use Rattle.ndis_base.specs.declared.FilterKind.{FilterKind}
use Rattle.ndis_base.specs.declared.ModuleId.TheVariants.{Miniport, Filter, Binding}
use Rattle.ndis_base.specs.declared.ModuleState.{ModuleState}
use Rattle.ndis_base.specs.declared.ModuleState.TheVariants as state
use Rattle.ndis_base.specs.declared.Phase.{Phase}
use Rattle.ndis_base.specs.declared.Phase.TheVariants as phase
use Rattle.journal_types.specs.declared.Event.{Event}
use Rattle.journal_types.specs.declared.Event.TheVariants as event
use Rattle.journal_types.specs.declared.PhaseOf.TheVariants as of
use Rattle.journal_types.specs.declared.Reply.{Reply}
use Rattle.journal_types.specs.declared.Reply.TheVariants as reply
use Rattle.journal_types.specs.declared.Row.{Row}
use Rattle.journal_types.specs.declared.Row.TheVariants as row
use Rattle.journal_types.specs.declared.Setup.{Setup}
use Rattle.journal_types.specs.declared.Turn.{Turn}
use Rattle.stack_rules.specs.declared.Attached.{Attached}
use Rattle.stack_rules.specs.declared.Choice.{Choice}
use Rattle.stack_rules.specs.Tests.{phase_is_paused}
use Rattle.stack_rules.specs.Net.{Net, Modules, start, told, after, after_rows, after_turn, after_turns, seen, attached, with_state, is_detached, filters_after}
use Rattle.stack_rules.specs.Outcome.{Outcome, max_filters}
use Rattle.stack_rules.specs.Pauses.{live_items}
use Rattle.stack_rules.specs.Places.{state_in}
use Rattle.stack_rules.specs.Rewires.{is_in, is_bad_position, insert_outcome, replace_outcome}
use Rattle.stack_rules.specs.Sound.{outcome, SoundFrom}
use Rattle.state_laws.specs.Shape.{state_at, FiltersAre, IsDistinct, AllBelow, AllIn, IsWired, IsShaped}
use Rattle.state_laws.proofs.Rows.{by_test}
use Rattle.state_laws.proofs.Takes.{NoneDetached}
use Rattle.state_laws.proofs.Halts.{less}
use Rattle.state_laws.proofs.Changes.{none_at}
use Rattle.state_laws.proofs.Events.{at_phase, when_paused, turn_is, shaped_start, shaped_turns, shaped_journal}
use Rattle.order_laws.specs.Orders.{EachIsAsMany}
use Rattle.order_laws.proofs.Lists.{but, distinct-but, distinct-push, no_longer}

-- the numbers of the attached filters
abbrev numbers : List Attached → List ℕ
numbers entries = map (λ (a : Attached). a.filter) entries

-- no filter is attached twice
abbrev IsApart : List Attached → Type 0
IsApart entries = IsDistinct (numbers entries)

-- after a change of state
numbers-with_state : (f : ℕ) (s : ModuleState) (entries : List Attached) → numbers (map (with_state f s) entries) ≡ numbers entries
numbers-with_state f s [] = refl
numbers-with_state f s (a ∷ entries) =
    elim (a.filter == f) as (λ b. ((cond b (record a { state = s }) a).filter ∷ numbers (map (with_state f s) entries)) ≡ a.filter ∷ numbers entries) [
      | true ↦ ap (λ ns. a.filter ∷ ns) (numbers-with_state f s entries)
      | false ↦ ap (λ ns. a.filter ∷ ns) (numbers-with_state f s entries)
    ]

numbers-less : (f : ℕ) (entries : List Attached) → numbers (less f entries) ≡ but f (numbers entries)
numbers-less f [] = refl
numbers-less f (a ∷ entries) =
    elim (a.filter == f) as (λ b. numbers (cond (not b) (a ∷ less f entries) (less f entries)) ≡ cond (not b) (a.filter ∷ but f (numbers entries)) (but f (numbers entries))) [
      | true ↦ numbers-less f entries
      | false ↦ ap (λ ns. a.filter ∷ ns) (numbers-less f entries)
    ]

numbers-push : (entries : List Attached) (a : Attached) → numbers (entries ++ a ∷ []) ≡ numbers entries ++ a.filter ∷ []
numbers-push [] a = refl
numbers-push (x ∷ entries) a = ap (λ ns. x.filter ∷ ns) (numbers-push entries a)

apart_after : (f : ℕ) (s : ModuleState) (entries : List Attached) → IsApart entries → IsApart (filters_after f s entries)
apart_after f s entries h =
    by_test IsApart (is_detached s) _ _ (λ _. subst IsDistinct (sym (numbers-less f entries)) (distinct-but f (numbers entries) h)) (λ _. subst IsDistinct (sym (numbers-with_state f s entries)) h)

apart_row : (net : Net) (r : Row) → IsApart net.modules.filters → IsApart (after net r).modules.filters
apart_row net (row.Phase (of.Module Miniport s)) h = h
apart_row net (row.Phase (of.Module (Binding b) s)) h = h
apart_row net (row.Phase (of.Module (Filter f) s)) h = apart_after f s net.modules.filters h
apart_row net (row.Phase (of.Stack p)) h = h
apart_row net (row.Issue list owner config direction cancel origin frames) h = h
apart_row net (row.Give list m handler) h = h
apart_row net (row.Pass list way to) h = h
apart_row net (row.Keep list m) h = h
apart_row net (row.TurnBack list m status) h = h
apart_row net (row.Home list owner status) h = h
apart_row net (row.Wire list frames) h = h
apart_row net (row.Deliver list binding how frames) h = h
apart_row net (row.Config config filters) h = h
apart_row net (row.OidIssue request parent binding kind code value) h = h
apart_row net (row.OidGive request m) h = h
apart_row net (row.OidDone request status value) h = h
apart_row net (row.Status number name to) h = h
apart_row net (row.Seen number m) h = h
apart_row net (row.CrossOut message way frames) h = h
apart_row net (row.CrossIn stack message way frames) h = h

apart_rows : (net : Net) (rows : List Row) → IsApart net.modules.filters → IsApart (after_rows net rows).modules.filters
apart_rows net [] h = h
apart_rows net (r ∷ rows) h = apart_rows (after net r) rows (apart_row net r h)

-- the next number is none of theirs
fresh : (n : ℕ) (fs : List ℕ) → AllBelow n fs → is_in n fs ≡ false
fresh n [] h = refl
fresh n (f ∷ fs) h =
    let less : f < n = h.0 in
    let rest : is_in n fs ≡ false = fresh n fs h.1 in
    grind (arith, nat_tests)

absent : (n : ℕ) (order : List ℕ) (entries : List Attached) → AllIn order entries → is_in n order ≡ false → is_in n (numbers entries) ≡ false
absent n order [] h e = refl
absent n order (a ∷ entries) h e = by (a.filter == n) refl (absent n order entries h.1 e)
  where
    clash : is_in a.filter order ≡ true → a.filter ≡ n → ⊥
    clash t same = let there : is_in n order ≡ true = ap (λ g. is_in g order) (sym same) ∙ t in cc (there, e)

    by : (b : Bool) → (a.filter == n) ≡ b → is_in n (numbers entries) ≡ false → (b || is_in n (numbers entries)) ≡ false
    by true t rest = let same : a.filter ≡ n = grind (arith, nat_tests) in absurd (clash h.0 same)
    by false t rest = rest

-- a new filter
apart_new : (net : Net) (s : IsShaped net) (kind : FilterKind) (setup : Setup) → net.phase ≡ phase.Paused → IsApart net.modules.filters → IsApart (net.modules.filters ++ record { filter = net.next.filter; kind = kind; setup = setup; state = state.Detached } ∷ [])
apart_new net s kind setup e h =
    let w : IsWired net.next.filter net.modules = (at_phase net phase.Paused s e).0 in
    let new : Attached = record { filter = net.next.filter; kind = kind; setup = setup; state = state.Detached } in
    subst IsDistinct (sym (numbers-push net.modules.filters new))
    (distinct-push net.next.filter (numbers net.modules.filters) (absent net.next.filter net.modules.order net.modules.filters w.within (fresh net.next.filter net.modules.order w.below)) h)

-- what an event tells
abbrev IsToldApart : Net → Event → Outcome → Type 0
IsToldApart net e o = IsApart (told net e o.reply).modules.filters

apart_insert : (net : Net) (s : IsShaped net) (kind : FilterKind) (position : ℕ) (setup : Setup) (c : Choice) → IsApart net.modules.filters → IsToldApart net (event.Insert kind position setup) (insert_outcome net position c)
apart_insert net s kind position setup c h =
    let K : Outcome → Type 0 = IsToldApart net (event.Insert kind position setup) in
    by_test K (phase_is_paused net.phase) _ _
    (λ t. by_test K (live_items net == 0) _ _
    (λ _. by_test K (length net.modules.order == max_filters net.head) _ _ (λ _. h)
    (λ _. by_test K (is_bad_position net position) _ _ (λ _. h)
    (λ _. by_test K c.shelf_empty _ _ (λ _. h)
    (λ _. by_test K c.refuses _ _ (λ _. h)
    (λ _. apart_new net s kind setup (when_paused net.phase t) h)))))
    (λ _. h))
    (λ _. h)

apart_replace : (net : Net) (s : IsShaped net) (old : ℕ) (kind : FilterKind) (setup : Setup) (c : Choice) → IsApart net.modules.filters → IsToldApart net (event.Replace old kind setup) (replace_outcome net old c)
apart_replace net s old kind setup c h =
    let K : Outcome → Type 0 = IsToldApart net (event.Replace old kind setup) in
    by_test K (phase_is_paused net.phase) _ _
    (λ t. by_test K (live_items net == 0) _ _
    (λ _. by_test K (is_in old net.modules.order) _ _
    (λ _. by_test K c.shelf_empty _ _ (λ _. h)
    (λ _. by_test K c.refuses _ _ (λ _. h)
    (λ _. apart_new net s kind setup (when_paused net.phase t) h)))
    (λ _. h))
    (λ _. h))
    (λ _. h)

-- the event attaches no filter
told_none : (net : Net) (e : Event) (o : Outcome) → (told net e o.reply).modules ≡ net.modules → IsApart net.modules.filters → IsToldApart net e o
told_none net e o same h = subst (λ (ms : Modules). IsApart ms.filters) (sym same) h

apart_told : (net : Net) (s : IsShaped net) (e : Event) (c : Choice) → IsApart net.modules.filters → IsToldApart net e (outcome net e c)
apart_told net s (event.Insert kind position setup) c h = apart_insert net s kind position setup c h
apart_told net s (event.Replace old kind setup) c h = apart_replace net s old kind setup c h
apart_told net s (event.CrossTakeUp binding vlan) c h = taken (outcome net (event.CrossTakeUp binding vlan) c).reply
  where
    taken : (r : Reply) → IsApart (told net (event.CrossTakeUp binding vlan) r).modules.filters
    taken (reply.Taken message frames) = h
    taken r = h
apart_told net s e c h = h

apart_turns : (net : Net) (turns : List Turn) → IsShaped net → SoundFrom net turns → IsApart net.modules.filters → IsApart (after_turns net turns).modules.filters
apart_turns net [] s sound h = h
apart_turns net (turn ∷ turns) s sound h =
    let e : Event = turn.event in
    let o : Outcome = outcome net e sound.0.choice in
    apart_turns (after_turn net turn) turns (shaped_turns net (turn ∷ []) s (sound.0, tt)) sound.1
    (subst (λ (x : Net). IsApart x.modules.filters) (sym (turn_is net turn sound.0)) (apart_rows (told net e o.reply) o.rows (apart_told net s e sound.0.choice h)))

-- a filter whose state is known is attached
there : (f : ℕ) (entries : List Attached) → is_detached (state_in (attached f entries)) ≡ false → is_in f (numbers entries) ≡ true
there f [] h = cc
there f (a ∷ entries) h =
    let cases : (b : Bool) → is_detached (state_in (cond b (Some a) (attached f entries))) ≡ false → (b || is_in f (numbers entries)) ≡ true = elim [
      | true ↦ λ h. refl
      | false ↦ λ h. there f entries h
    ] in
    cases (a.filter == f) h

all_there : (states : ℕ → ModuleState) (entries : List Attached) (p : ℕ) (fs : List ℕ) → NoneDetached states → FiltersAre states entries p fs → (g : ℕ) → is_in g fs ≡ true → is_in g (numbers entries) ≡ true
all_there states entries p [] d h g i = cc
all_there states entries p (f ∷ fs) d h g i =
    let cases : (b : Bool) → (f == g) ≡ b → (b || is_in g fs) ≡ true → is_in g (numbers entries) ≡ true = elim [
      | true ↦ λ t i. let same : f ≡ g = grind (arith, nat_tests) in subst (λ n. is_in n (numbers entries) ≡ true) same (there f entries (ap is_detached h.0 ∙ d p))
      | false ↦ λ t i. all_there states entries (p + 1) fs d h.1 g i
    ] in
    cases (f == g) refl i

all_ordered : (order : List ℕ) (entries : List Attached) → AllIn order entries → (g : ℕ) → is_in g (numbers entries) ≡ true → is_in g order ≡ true
all_ordered order [] h g i = cc
all_ordered order (a ∷ entries) h g i =
    let cases : (b : Bool) → (a.filter == g) ≡ b → (b || is_in g (numbers entries)) ≡ true → is_in g order ≡ true = elim [
      | true ↦ λ t i. let same : a.filter ≡ g = grind (arith, nat_tests) in subst (λ n. is_in n order ≡ true) same h.0
      | false ↦ λ t i. all_ordered order entries h.1 g i
    ] in
    cases (a.filter == g) refl i

as_many : (net : Net) (states : ℕ → ModuleState) → IsApart net.modules.filters → IsWired net.next.filter net.modules → NoneDetached states → FiltersAre states net.modules.filters 1 net.modules.order → length net.modules.filters ≡ length net.modules.order
as_many net states h w d f =
    let long : length (numbers net.modules.filters) ≡ length net.modules.filters = length-map net.modules.filters (λ (a : Attached). a.filter) in
    let few = no_longer (numbers net.modules.filters) net.modules.order h (all_ordered net.modules.order net.modules.filters w.within) in
    let many = no_longer net.modules.order (numbers net.modules.filters) w.distinct (all_there states net.modules.filters 1 net.modules.order d f) in
    omega (arith, long, few, many)

pub each_is_as_many : EachIsAsMany
each_is_as_many head turns sound = record { halted = λ e. (at_phase net phase.Halted s e).0.filters; attached = λ other. by net.phase refl other }
  where
    net : Net
    net = seen head turns

    s : IsShaped (seen head turns)
    s = shaped_journal head turns sound

    h : IsApart (seen head turns).modules.filters
    h = apart_turns (start head) turns (shaped_start head) sound tt

    by : (p : Phase) → (seen head turns).phase ≡ p → (seen head turns).phase ≢ phase.Halted → length (seen head turns).modules.filters ≡ length (seen head turns).modules.order
    by phase.Halted e other = absurd (other e)
    by phase.Paused e other = let f = at_phase (seen head turns) phase.Paused s e in as_many (seen head turns) (λ p. state.Paused) h f.0 (λ p. refl) f.1.0.filters
    by phase.Restarting e other = let f = at_phase (seen head turns) phase.Restarting s e in as_many (seen head turns) (state_at s.front s.front) h f.0 (none_at s.front s.front) f.1.states.filters
    by phase.Running e other = let f = at_phase (seen head turns) phase.Running s e in as_many (seen head turns) (state_at 0 0) h f.0 (none_at 0 0) f.1.0.states.filters
    by phase.Pausing e other = let f = at_phase (seen head turns) phase.Pausing s e in as_many (seen head turns) (state_at s.front (s.front + 1)) h f.0 (none_at s.front (s.front + 1)) f.1.states.filters
