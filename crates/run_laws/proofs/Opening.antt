-- Initialising, restarting and rewiring a stack.
use Rattle.std.proofs.Common.{◌≡◌, ℕ, ◌+◌, ◌-◌, ◌<◌, ◌≤◌, ◌==◌, ◌||◌, Bool, true, false, List, [], ◌∷◌, ◌++◌, length, get_or, reverse, refl, arith, ap, sym, subst, ◌∙◌, ◌⊎◌, inl, inr, if◌then◌else◌}
use Rattle.std.proofs.lemmas.Bool.Decides.{nat_tests}
use Rattle.std.proofs.lemmas.List.{get_or-reverse}
use Rattle.ndis_base.specs.declared.ModuleId.TheVariants.{Miniport}
use Rattle.ndis_base.specs.declared.ModuleState.TheVariants as state
use Rattle.ndis_base.specs.declared.Phase.TheVariants as phase
use Rattle.journal_types.specs.declared.Event.{Event}
use Rattle.journal_types.specs.declared.Event.TheVariants as event
use Rattle.journal_types.specs.declared.PhaseOf.TheVariants as of
use Rattle.journal_types.specs.declared.Refusal.TheVariants as refusal
use Rattle.journal_types.specs.declared.Reply.{Reply}
use Rattle.journal_types.specs.declared.Reply.TheVariants as reply
use Rattle.journal_types.specs.declared.Row.{Row}
use Rattle.journal_types.specs.declared.Row.TheVariants as row
use Rattle.journal_types.specs.declared.StackHead.{StackHead}
use Rattle.journal_types.specs.declared.Turn.{Turn}
use Rattle.stack_rules.specs.declared.Choice.{Choice}
use Rattle.stack_rules.specs.Tests.{phase_is_halted, phase_is_paused, phase_is_restarting}
use Rattle.stack_rules.specs.Net.{Net, Modules, after, after_rows, seen}
use Rattle.stack_rules.specs.Outcome.{Outcome, max_filters}
use Rattle.stack_rules.specs.Pauses.{binding_ids, floors, initialize_outcome, initialize_rows, is_top, live_items, restart_at, restart_outcome, restarting, running_floors, state_row, state_rows}
use Rattle.stack_rules.specs.Rewires.{is_bad_position, is_in}
use Rattle.stack_rules.specs.Sound.{outcome, Sound}
use Rattle.state_laws.specs.Shape.{state_at, IsDistinct, IsShaped, IsWired, StatesAre}
use Rattle.state_laws.proofs.Rows.{by_test, after_rows-append}
use Rattle.state_laws.proofs.Takes.{put, StatesAre-same}
use Rattle.state_laws.proofs.Floors.{length-floors, running_floors_are, IsPlain}
use Rattle.state_laws.proofs.Changes.{IsTold, none_at, told_floor_two}
use Rattle.state_laws.proofs.Phases.{all_paused_at}
use Rattle.state_laws.proofs.Events.{state_after, at_phase, shaped_journal, turn_is}
use Rattle.place_laws.specs.Kept.{IsInPlace}
use Rattle.work_laws.proofs.InPlace.{all_in_place}
use Rattle.drain_laws.proofs.Tests.{not_both}
use Rattle.run_laws.specs.Turns.{ChangesNothing, EachTurn, GoesOn, LeadsTo}
use Rattle.run_laws.specs.Opening.{is_rewire, restart_to_go, Initializes, Restarts, Rewires}
use Rattle.run_laws.proofs.Turns.{IsTurn, goes_on, leads, nothing, some_bindings, turn_of}

-- initialising
abbrev Initialized : Net → Turn → Type 0
Initialized net turn = LeadsTo net turn reply.Ok phase.Paused ⊎ ChangesNothing net turn (reply.Refused refusal.InitRefused)

initialized_phase : (net : Net) → (after_rows net (initialize_rows net)).phase ≡ phase.Paused
initialized_phase net =
    let low : Net = after_rows net (state_row state.Paused Miniport ∷ []) in
    let rows : List Row = state_rows (state.Opening ∷ state.Paused ∷ []) (binding_ids 0 net.modules.bindings) in
    ap (λ (m : Net). m.phase) (after_rows-append low rows _)

initialized_by : (net : Net) (turn : Turn) (refuses : Bool) → net.phase ≡ phase.Halted → IsTurn net turn (initialize_outcome net refuses) (after_rows net (initialize_outcome net refuses).rows) → Initialized net turn
initialized_by net turn refuses p =
    let By : Outcome → Type 0 = λ o. IsTurn net turn o (after_rows net o.rows) → Initialized net turn in
    by_test By (phase_is_halted net.phase) _ _
    (λ _. by_test By refuses _ _
    (λ _ t. inr (nothing net turn _ _ (reply.Refused refusal.InitRefused) t refl refl))
    (λ _ t. inl (leads net turn _ _ reply.Ok phase.Paused t refl (initialized_phase net))))
    (λ f. absurd (not_both (phase_is_halted net.phase) (ap phase_is_halted p) f))

pub initializes : EachTurn Initializes
initializes head turns turn s bound n e p = initialized_by (seen head turns) turn n.choice.refuses p (turn_of (seen head turns) turn event.Initialize n e)

-- restarting: the positions from q on run, and the one above them is next
restarted_at : (j i : ℕ) → put (state_at (j + 1) (j + 1)) j state.Running i ≡ state_at j j i
restarted_at j i = grind (arith, nat_tests)

plain_restarting : IsPlain state.Restarting
plain_restarting = record { stays = refl; old = λ f n. refl }

plain_running : IsPlain state.Running
plain_running = record { stays = refl; old = λ f n. refl }

below_top : (i j q k n : ℕ) → n ≡ k + 2 → j + 1 ≡ q → i + q ≡ k + 2 → (i + 1 == n) ≡ false → 0 < j
below_top i j q k n s e f t = grind (arith, nat_tests)

-- what is known of a stack that is to restart
record IsToRestart (net : Net) (q : ℕ) : Type 0 where
  some : 0 < length net.head.bindings
  wired : IsWired net.next.filter net.modules
  states : StatesAre (length net.head.bindings) net.modules (state_at q q)
  least : 0 < q
  most : q ≤ length net.modules.order + 2

abbrev Rises : Net → Reply → Net → Type 0
Rises net r next = ((r ≡ reply.Running) × (next.phase ≡ phase.Running)) ⊎ ((r ≡ reply.Next) × (next.phase ≡ phase.Restarting) × (restart_to_go next < restart_to_go net))

rises : (net now : Net) (q : ℕ) → IsToRestart net q → now.head ≡ net.head → now.modules ≡ net.modules → now.phase ≡ phase.Restarting →
    Rises net (restart_at net (running_floors net)).reply (after_rows now (state_rows (state.Restarting ∷ state.Running ∷ []) (get_or (reverse (floors net.modules)) (running_floors net) []) ++ (if is_top net (running_floors net) then row.Phase (of.Stack phase.Running) ∷ [] else [])))
rises net now q h head same p = by (is_top net i) refl
  where
    i : ℕ
    i = running_floors net

    j : ℕ
    j = q - 1

    from : j + 1 ≡ q
    from = let least = h.least in omega (arith, least)

    at : running_floors net + q ≡ length net.modules.order + 2
    at = (running_floors_are net (length net.head.bindings) q h.least h.most h.states).0 h.some

    size : length (floors net.modules) ≡ length net.modules.order + 2
    size = length-floors net.modules

    moved : List Row
    moved = state_rows (state.Restarting ∷ state.Running ∷ []) (get_or (floors net.modules) j [])

    floor : get_or (reverse (floors net.modules)) i [] ≡ get_or (floors net.modules) j []
    floor =
        let place : length (floors net.modules) - 1 - i ≡ j = omega (arith, size, from, at) in
        get_or-reverse (floors net.modules) i [] (omega (arith, size, from, at)) ∙ ap (λ k. get_or (floors net.modules) k []) place

    next : Net
    next = after_rows now moved

    order : now.modules.order ≡ net.modules.order
    order = ap (λ (ms : Modules). ms.order) same

    told : IsTold now next (λ states. put states j state.Running)
    told =
        let within : j ≤ length now.modules.order + 1 = let l = ap length order in let m = h.most in omega (arith, l, from, m) in
        subst (λ ms. IsTold now (after_rows now (state_rows (state.Restarting ∷ state.Running ∷ []) (get_or (floors ms) j []))) (λ states. put states j state.Running)) same
        (told_floor_two now state.Restarting state.Running j within (subst IsDistinct (sym order) h.wired.distinct) plain_restarting plain_running)

    ends : (last : List Row) → after_rows now (state_rows (state.Restarting ∷ state.Running ∷ []) (get_or (reverse (floors net.modules)) i []) ++ last) ≡ after_rows next last
    ends last = ap (λ ms. after_rows now (state_rows (state.Restarting ∷ state.Running ∷ []) ms ++ last)) floor ∙ after_rows-append now moved last

    many : length next.head.bindings ≡ length net.head.bindings
    many = ap (λ (h : StackHead). length h.bindings) (told.head ∙ head)

    states : StatesAre (length net.head.bindings) next.modules (state_at j j)
    states =
        StatesAre-same (put (state_at (j + 1) (j + 1)) j state.Running) (state_at j j) (length net.head.bindings) next.modules (λ i a. restarted_at j i)
        (told.states (length net.head.bindings) (state_at (j + 1) (j + 1)) (none_at (j + 1) (j + 1)) (subst (λ ms. StatesAre (length net.head.bindings) ms (state_at (j + 1) (j + 1))) (sym same) (subst (λ k. StatesAre (length net.head.bindings) net.modules (state_at k k)) (sym from) h.states)))

    less : 0 < j → restart_to_go next < restart_to_go net
    less low =
        let same_order : length next.modules.order ≡ length net.modules.order = ap length (told.order ∙ order) in
        let most = h.most in
        let later : running_floors next + j ≡ length next.modules.order + 2 = (running_floors_are next (length net.head.bindings) j low (omega (arith, same_order, from, most)) states).0 h.some in
        omega (arith, same_order, later, at, from, low)

    by : (b : Bool) → is_top net i ≡ b → Rises net (if b then reply.Running else reply.Next) (after_rows now (state_rows (state.Restarting ∷ state.Running ∷ []) (get_or (reverse (floors net.modules)) i []) ++ (if b then row.Phase (of.Stack phase.Running) ∷ [] else [])))
    by true t = inl (refl, ap (λ (m : Net). m.phase) (ends (row.Phase (of.Stack phase.Running) ∷ [])))
    by false t =
        let e : after_rows now (state_rows (state.Restarting ∷ state.Running ∷ []) (get_or (reverse (floors net.modules)) i []) ++ []) ≡ next = ends [] in
        inr (refl, ap (λ (m : Net). m.phase) e ∙ told.phase ∙ p, subst (λ m. restart_to_go m < restart_to_go net) (sym e) (less (below_top i j q (length net.modules.order) (length (floors net.modules)) size from at t)))

abbrev OutcomeRises : Net → Outcome → Type 0
OutcomeRises net o = Rises net o.reply (after_rows net o.rows)

-- the first restart of a Paused stack tells its phase
restart_rises : (net : Net) (q : ℕ) → IsToRestart net q → (net.phase ≡ phase.Paused) ⊎ (net.phase ≡ phase.Restarting) → OutcomeRises net (restart_at net (running_floors net))
restart_rises net q h = by
  where
    rest : List Row
    rest = state_rows (state.Restarting ∷ state.Running ∷ []) (get_or (reverse (floors net.modules)) (running_floors net) []) ++ (if is_top net (running_floors net) then row.Phase (of.Stack phase.Running) ∷ [] else [])

    begins : (b : Bool) → phase_is_paused net.phase ≡ b → restarting net ≡ (if b then row.Phase (of.Stack phase.Restarting) ∷ [] else [])
    begins b e = ap (λ c. if c then row.Phase (of.Stack phase.Restarting) ∷ [] else []) e

    from : (first : List Row) → restarting net ≡ first → Rises net (restart_at net (running_floors net)).reply (after_rows net (first ++ rest)) → OutcomeRises net (restart_at net (running_floors net))
    from first e r = subst (λ rows. Rises net (restart_at net (running_floors net)).reply (after_rows net (rows ++ rest))) (sym e) r

    by : (net.phase ≡ phase.Paused) ⊎ (net.phase ≡ phase.Restarting) → OutcomeRises net (restart_at net (running_floors net))
    by (inl p) = from (row.Phase (of.Stack phase.Restarting) ∷ []) (begins true (ap phase_is_paused p)) (rises net (after net (row.Phase (of.Stack phase.Restarting))) q h refl refl refl)
    by (inr p) = from [] (begins false (ap phase_is_paused p)) (rises net net q h refl refl p)

outcome_rises : (net : Net) (q : ℕ) → IsToRestart net q → (net.phase ≡ phase.Paused) ⊎ (net.phase ≡ phase.Restarting) → OutcomeRises net (restart_outcome net)
outcome_rises net q h p =
    by_test (OutcomeRises net) (phase_is_paused net.phase || phase_is_restarting net.phase) _ _ (λ _. restart_rises net q h p)
    (λ f. absurd (not_both (phase_is_paused net.phase || phase_is_restarting net.phase) (may p) f))
  where
    may : (net.phase ≡ phase.Paused) ⊎ (net.phase ≡ phase.Restarting) → (phase_is_paused net.phase || phase_is_restarting net.phase) ≡ true
    may (inl e) = ap (λ q. phase_is_paused q || phase_is_restarting q) e
    may (inr e) = ap (λ q. phase_is_paused q || phase_is_restarting q) e

to_restart : (head : StackHead) (turns : List Turn) → Sound head turns → 1 ≤ length head.bindings → ((seen head turns).phase ≡ phase.Paused) ⊎ ((seen head turns).phase ≡ phase.Restarting) → (q : ℕ) × IsToRestart (seen head turns) q
to_restart head turns s bound = by
  where
    net : Net
    net = seen head turns

    shape : IsShaped net
    shape = shaped_journal head turns s

    by : (net.phase ≡ phase.Paused) ⊎ (net.phase ≡ phase.Restarting) → (q : ℕ) × IsToRestart net q
    by (inl p) =
        let f = at_phase net phase.Paused shape p in
        let place : IsInPlace net = all_in_place head turns s bound (λ h. cc) in
        let q : ℕ = length net.modules.order + 2 in (
          q,
          record {
            some = some_bindings net (length net.head.bindings) (λ i. state.Paused) f.1.0 place.bound;
            wired = f.0;
            states = StatesAre-same (λ i. state.Paused) (state_at q q) (length net.head.bindings) net.modules (λ i a. all_paused_at q i (omega (arith, a))) f.1.0;
            least = omega arith;
            most = omega arith;
          },
        )
    by (inr p) =
        let f = at_phase net phase.Restarting shape p in
        let place : IsInPlace net = all_in_place head turns s bound (λ h. cc) in
        let within = f.1.within in (
          shape.front,
          record {
            some = some_bindings net (length net.head.bindings) (state_at shape.front shape.front) f.1.states place.bound;
            wired = f.0;
            states = f.1.states;
            least = f.1.some;
            most = omega (arith, within);
          },
        )

pub restarts : EachTurn Restarts
restarts head turns turn s bound n e p = by (outcome_rises net to.0 to.1 p)
  where
    net : Net
    net = seen head turns

    to : (q : ℕ) × IsToRestart net q
    to = to_restart head turns s bound p

    t : IsTurn net turn (restart_outcome net) (after_rows net (restart_outcome net).rows)
    t = turn_of net turn event.RestartNext n e

    by : OutcomeRises net (restart_outcome net) → LeadsTo net turn reply.Running phase.Running ⊎ GoesOn net turn reply.Next phase.Restarting restart_to_go
    by (inl r) = inl (leads net turn _ _ reply.Running phase.Running t r.0 r.1)
    by (inr r) = inr (goes_on net turn _ _ reply.Next phase.Restarting restart_to_go t r.0 r.1 r.2)

-- rewiring
abbrev PhaseStays : Net → Event → Outcome → Type 0
PhaseStays net e o = (state_after net e o).phase ≡ net.phase

rewired : (net : Net) (e : Event) (c : Choice) → is_rewire e ≡ true → PhaseStays net e (outcome net e c)
rewired net (event.Insert kind position setup) c r =
    let K : Outcome → Type 0 = PhaseStays net (event.Insert kind position setup) in
    by_test K (phase_is_paused net.phase) _ _
    (λ _. by_test K (live_items net == 0) _ _
    (λ _. by_test K (length net.modules.order == max_filters net.head) _ _ (λ _. refl)
    (λ _. by_test K (is_bad_position net position) _ _ (λ _. refl)
    (λ _. by_test K c.shelf_empty _ _ (λ _. refl)
    (λ _. by_test K c.refuses _ _ (λ _. refl) (λ _. refl)))))
    (λ _. refl))
    (λ _. refl)
rewired net (event.Remove filter) c r =
    let K : Outcome → Type 0 = PhaseStays net (event.Remove filter) in
    by_test K (phase_is_paused net.phase) _ _
    (λ _. by_test K (live_items net == 0) _ _
    (λ _. by_test K (is_in filter net.modules.order) _ _ (λ _. refl) (λ _. refl))
    (λ _. refl))
    (λ _. refl)
rewired net (event.Replace old kind setup) c r =
    let K : Outcome → Type 0 = PhaseStays net (event.Replace old kind setup) in
    by_test K (phase_is_paused net.phase) _ _
    (λ _. by_test K (live_items net == 0) _ _
    (λ _. by_test K (is_in old net.modules.order) _ _
    (λ _. by_test K c.shelf_empty _ _ (λ _. refl)
    (λ _. by_test K c.refuses _ _ (λ _. refl) (λ _. refl)))
    (λ _. refl))
    (λ _. refl))
    (λ _. refl)
rewired net _ c r = cc

pub rewires : EachTurn Rewires
rewires head turns turn s bound n r =
    let net : Net = seen head turns in
    ap (λ (m : Net). m.phase) (turn_is net turn n) ∙ rewired net turn.event n.choice r
