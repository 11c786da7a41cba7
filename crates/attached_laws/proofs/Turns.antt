-- After each sound journal statuses and lists go to modules that are there, and such modules have the requests.
use Rattle.std.proofs.Common.{◌≡◌, ℕ, ◌+◌, ◌≤◌, ◌==◌, ◌||◌, ◌⊎◌, inl, inr, nat_lt, not, Bool, true, false, cond, List, [], ◌∷◌, ◌++◌, Option, Some, None, map, length, reverse, count_by, slice_index_or, refl, ap, sym, ◌∙◌, arith, subst, if◌then◌else◌}
use Rattle.std.proofs.lemmas.Bool.Decides.{nat_tests}
use Rattle.ndis_base.specs.declared.ModuleId.{ModuleId}
use Rattle.ndis_base.specs.declared.ModuleId.TheVariants.{Miniport, Filter, Binding}
use Rattle.ndis_base.specs.declared.ModuleState.TheVariants as state
use Rattle.ndis_base.specs.declared.Phase.{Phase}
use Rattle.ndis_base.specs.declared.Phase.TheVariants as phase
use Rattle.journal_types.specs.declared.Event.{Event}
use Rattle.journal_types.specs.declared.Event.TheVariants as event
use Rattle.journal_types.specs.declared.PhaseOf.TheVariants as of
use Rattle.journal_types.specs.declared.Reply.TheVariants as reply
use Rattle.journal_types.specs.declared.Row.{Row}
use Rattle.journal_types.specs.declared.Row.TheVariants as row
use Rattle.journal_types.specs.declared.StackHead.{StackHead}
use Rattle.journal_types.specs.declared.Target.TheVariants.{Module, Bindings}
use Rattle.journal_types.specs.declared.Turn.{Turn}
use Rattle.stack_rules.specs.declared.Choice.{Choice}
use Rattle.stack_rules.specs.declared.LiveList.{LiveList}
use Rattle.stack_rules.specs.declared.Request.{Request}
use Rattle.stack_rules.specs.declared.RequestAt.{RequestAt}
use Rattle.stack_rules.specs.declared.RequestAt.TheVariants as at
use Rattle.stack_rules.specs.declared.Stand.{Stand}
use Rattle.stack_rules.specs.declared.Stand.TheVariants as stand
use Rattle.stack_rules.specs.declared.StatusAway.{StatusAway}
use Rattle.stack_rules.specs.declared.Thing.{Thing}
use Rattle.stack_rules.specs.declared.Thing.TheVariants as thing
use Rattle.stack_rules.specs.Tests.{phase_is_halted, phase_is_running, phase_is_pausing, phase_is_paused, phase_is_restarting}
use Rattle.stack_rules.specs.Net.{Net, Modules, start, seen, told, attached, lists, after_rows, after_turn, after_turns}
use Rattle.stack_rules.specs.Outcome.{Outcome, max_filters, config_no}
use Rattle.stack_rules.specs.Places.{outstanding}
use Rattle.stack_rules.specs.Pauses.{state_row, state_rows, first_unpaused, running_floors, is_top, floors, binding_ids, halt_items, live_items, halt_rows, statuses_away, is_status_thing}
use Rattle.stack_rules.specs.Requests.{is_at_entry}
use Rattle.stack_rules.specs.Rewires.{is_in, is_bad_position, inserted, removed, replaced}
use Rattle.stack_rules.specs.Sound.{Next, Sound, SoundFrom, outcome}
use Rattle.rule_basics.specs.Live.{Each, EachRequest}
use Rattle.rule_basics.proofs.Counts.{count_by-cons}
use Rattle.rule_basics.proofs.Each.{Each-implies}
use Rattle.state_laws.specs.Laws.{IsThere}
use Rattle.state_laws.proofs.Rows.{by_test}
use Rattle.state_laws.proofs.Quiet.{is_plain}
use Rattle.state_laws.proofs.Events.{state_after, plain_same, turn_is}
use Rattle.place_laws.specs.Kept.{EachStatus, IsInPlace}
use Rattle.work_laws.proofs.Halted.{HasNothing, nothing_while_halted}
use Rattle.work_laws.proofs.InPlace.{all_in_place}
use Rattle.homeward_laws.specs.Homeward.{IsOwned, IsBound, IsBoundFor}
use Rattle.homeward_laws.proofs.Owners.{each_is_owned}
use Rattle.homeward_laws.proofs.Targets.{each_is_bound}
use Rattle.family_laws.proofs.Changes.{halt_every}
use Rattle.attached_laws.proofs.Here.{IsHere, GoesHere, AtHere, RowIsHere, AreHere, HoldsHere, holds_rows}
use Rattle.attached_laws.proofs.Keeps.{AreMild, mild-append, mild_if, mild_states, holds_mild}
use Rattle.attached_laws.proofs.Works.{StandHere, ListHere}
use Rattle.attached_laws.proofs.Events.{event_here, phases_here, told_holds}

-- the lists
each_both : (P Q : LiveList → Type 0) (ls : List LiveList) → Each P ls → Each Q ls → Each (λ l. P l × Q l) ls
each_both P Q [] h k = tt
each_both P Q (l ∷ ls) h k = ((h.0, k.0), each_both P Q ls h.1 k.1)

there_is_here : (net : Net) → IsInPlace net → (m : ModuleId) → IsThere net m → IsHere net.modules m
there_is_here net p Miniport t = tt
there_is_here net p (Filter f) t = let a = p.ordered.attached f t in (a.0, a.1)
there_is_here net p (Binding b) t = tt

stand_is_here : (net : Net) → IsInPlace net → (s : Stand) → IsBoundFor net s → StandHere net.modules s
stand_is_here net p stand.Unplaced b = tt
stand_is_here net p (stand.Kept m) b = tt
stand_is_here net p (stand.Passed way Bindings) b = tt
stand_is_here net p (stand.Passed way (Module m)) b = there_is_here net p m b.0

pub lists_are_here : (head : StackHead) (turns : List Turn) → Sound head turns → 1 ≤ length head.bindings → Each (ListHere (seen head turns).modules) (lists (seen head turns).things)
lists_are_here head turns s bound = by (seen head turns).phase refl
  where
    placed : IsInPlace (seen head turns) → Each (ListHere (seen head turns).modules) (lists (seen head turns).things)
    placed p =
        let net : Net = seen head turns in
        each_both (λ l. IsHere net.modules l.owner) (λ l. StandHere net.modules l.stand) (lists net.things)
        (Each-implies (IsOwned net) (λ l. IsHere net.modules l.owner) (λ l o. there_is_here net p l.owner o.there) (lists net.things) (each_is_owned head turns s bound))
        (Each-implies (IsBound net) (λ l. StandHere net.modules l.stand) (λ l b. stand_is_here net p l.stand b) (lists net.things) (each_is_bound head turns s bound))

    by : (p : Phase) → (seen head turns).phase ≡ p → Each (ListHere (seen head turns).modules) (lists (seen head turns).things)
    by phase.Halted e =
        let nothing : HasNothing (seen head turns) = nothing_while_halted head turns s e in
        subst (λ ts. Each (ListHere (seen head turns).modules) (lists ts)) (sym nothing.things) tt
    by phase.Paused e = placed (all_in_place head turns s bound (λ h. cc))
    by phase.Restarting e = placed (all_in_place head turns s bound (λ h. cc))
    by phase.Running e = placed (all_in_place head turns s bound (λ h. cc))
    by phase.Pausing e = placed (all_in_place head turns s bound (λ h. cc))

-- where nothing is on its way, nothing goes elsewhere
none_away : (P : StatusAway → Type 0) (ts : List Thing) → count_by is_status_thing ts ≡ 0 → EachStatus P ts
none_away P [] e = tt
none_away P (thing.Status s ∷ ts) e = let cons = count_by-cons is_status_thing (thing.Status s) ts in absurd (omega (arith, cons, e))
none_away P (thing.List l ∷ ts) e = let cons = count_by-cons is_status_thing (thing.List l) ts in none_away P ts (omega (arith, cons, e))
none_away P (thing.Answer a ∷ ts) e = let cons = count_by-cons is_status_thing (thing.Answer a) ts in none_away P ts (omega (arith, cons, e))

entry_here : (ms : Modules) (a : RequestAt) → not (is_at_entry a) ≡ false → AtHere ms a
entry_here ms at.Entry e = tt
entry_here ms (at.Waiting m) e = tt
entry_here ms (at.Given m) e = cc

none_given : (ms : Modules) (rs : List Request) → count_by (λ (r : Request). not (is_at_entry r.at)) rs ≡ 0 → EachRequest (λ r. AtHere ms r.at) rs
none_given ms [] e = tt
none_given ms (r ∷ rs) e = by_entry (not (is_at_entry r.at)) refl (count_by-cons (λ (r : Request). not (is_at_entry r.at)) r rs) (none_given ms rs)
  where
    by_entry : (b : Bool) → not (is_at_entry r.at) ≡ b → count_by (λ (r : Request). not (is_at_entry r.at)) (r ∷ rs) ≡ cond b 1 0 + count_by (λ (r : Request). not (is_at_entry r.at)) rs
        → (count_by (λ (r : Request). not (is_at_entry r.at)) rs ≡ 0 → EachRequest (λ r. AtHere ms r.at) rs) → EachRequest (λ r. AtHere ms r.at) (r ∷ rs)
    by_entry true t cons rest = absurd (omega (arith, e, cons))
    by_entry false t cons rest = (entry_here ms r.at t, rest (omega (arith, e, cons)))

is_zero : (n : ℕ) → (n == 0) ≡ true → n ≡ 0
is_zero n t = grind (arith, nat_tests)

quiet_holds : (ms : Modules) (net : Net) → (live_items net == 0) ≡ true → HoldsHere ms net
quiet_holds ms net t =
    let none = is_zero (live_items net) t in
    record {
      statuses = none_away (λ s. GoesHere ms s.to) net.things (omega (arith, none));
      given = none_given ms net.requests (omega (arith, none));
    }

empty_requests : (ms : Modules) (rs : List Request) → length rs ≡ 0 → EachRequest (λ r. AtHere ms r.at) rs
empty_requests ms [] e = tt
empty_requests ms (r ∷ rs) e = absurd (omega (arith, e))

over_holds : (ms : Modules) (net : Net) → (halt_items net == 0) ≡ true → HoldsHere ms net
over_holds ms net t =
    let none = is_zero (halt_items net) t in
    record {
      statuses = none_away (λ s. GoesHere ms s.to) net.things (omega (arith, none));
      given = empty_requests ms net.requests (omega (arith, none));
    }

-- each event leaves it so
module _ (net : Net) (h : HoldsHere net.modules net) where
  abbrev Holds : Event → Outcome → Type 0
  Holds e o = HoldsHere (state_after net e o).modules (state_after net e o)

  -- nothing goes anywhere, whatever the modules become
  over : (e : Event) (o : Outcome) → ((ms : Modules) → HoldsHere ms net) → ((ms : Modules) → AreHere ms o.rows) → Holds e o
  over e o none here =
      let ms : Modules = (state_after net e o).modules in
      holds_rows ms (told net e o.reply) o.rows (here ms) (told_holds ms net e o.reply (none ms))

  changed_holds : (e : Event) (c : Choice) → is_plain e ≡ false → Holds e (outcome net e c)
  changed_holds event.Initialize c p =
      by_test (Holds event.Initialize) (phase_is_halted net.phase) _ _
      (λ _. by_test (Holds event.Initialize) c.refuses _ _ (λ _. h)
      (λ _.
      let rows : List Row = state_rows (state.Opening ∷ state.Paused ∷ []) (binding_ids 0 net.modules.bindings) in
      let last : List Row = row.Phase (of.Stack phase.Paused) ∷ row.Config (config_no 1) [] ∷ [] in
      holds_mild net (state_row state.Paused Miniport ∷ (rows ++ last)) (tt, mild-append rows last (mild_states (state.Opening ∷ state.Paused ∷ []) (binding_ids 0 net.modules.bindings) (refl, (refl, tt))) (tt, (tt, tt))) h))
      (λ _. h)
  changed_holds event.BeginPause c p =
      by_test (Holds event.BeginPause) (phase_is_running net.phase) _ _
      (λ _.
      let rows : List Row = state_rows (state.Pausing ∷ []) (binding_ids 0 net.modules.bindings) in
      holds_mild net (row.Phase (of.Stack phase.Pausing) ∷ rows) (tt, mild_states (state.Pausing ∷ []) (binding_ids 0 net.modules.bindings) (refl, tt)) h)
      (λ _. h)
  changed_holds event.PauseNext c p =
      by_test (Holds event.PauseNext) (phase_is_pausing net.phase) _ _
      (λ _. by_test (Holds event.PauseNext) (outstanding net (first_unpaused net) == 0) _ _
      (λ _.
      let front : List ModuleId = slice_index_or (floors net.modules) (first_unpaused net) [] in
      let after : List ModuleId = slice_index_or (floors net.modules) (first_unpaused net + 1) [] in
      let more : Bool = nat_lt (first_unpaused net + 1) (length (floors net.modules)) in
      let last : List Row = if more then state_rows (state.Pausing ∷ []) after else row.Phase (of.Stack phase.Paused) ∷ [] in
      holds_mild net (state_rows (state.Paused ∷ []) front ++ last)
      (mild-append (state_rows (state.Paused ∷ []) front) last (mild_states (state.Paused ∷ []) front (refl, tt))
      (mild_if more (state_rows (state.Pausing ∷ []) after) (row.Phase (of.Stack phase.Paused) ∷ []) (mild_states (state.Pausing ∷ []) after (refl, tt)) (tt, tt))) h)
      (λ _. h))
      (λ _. h)
  changed_holds event.RestartNext c p =
      by_test (Holds event.RestartNext) (phase_is_paused net.phase || phase_is_restarting net.phase) _ _
      (λ _.
      let first : List Row = if phase_is_paused net.phase then row.Phase (of.Stack phase.Restarting) ∷ [] else [] in
      let floor : List ModuleId = slice_index_or (reverse (floors net.modules)) (running_floors net) [] in
      let rows : List Row = state_rows (state.Restarting ∷ state.Running ∷ []) floor in
      let last : List Row = if is_top net (running_floors net) then row.Phase (of.Stack phase.Running) ∷ [] else [] in
      holds_mild net (first ++ (rows ++ last))
      (mild-append first (rows ++ last) (mild_if (phase_is_paused net.phase) (row.Phase (of.Stack phase.Restarting) ∷ []) [] (tt, tt) tt)
      (mild-append rows last (mild_states (state.Restarting ∷ state.Running ∷ []) floor (refl, (refl, tt)))
      (mild_if (is_top net (running_floors net)) (row.Phase (of.Stack phase.Running) ∷ []) [] (tt, tt) tt))) h)
      (λ _. h)
  changed_holds (event.Insert kind position setup) c p =
      let e : Event = event.Insert kind position setup in
      by_test (Holds e) (phase_is_paused net.phase) _ _
      (λ _. by_test (Holds e) (live_items net == 0) _ _
      (λ t. by_test (Holds e) (length net.modules.order == max_filters net.head) _ _ (λ _. h)
      (λ _. by_test (Holds e) (is_bad_position net position) _ _ (λ _. h)
      (λ _. by_test (Holds e) c.shelf_empty _ _ (λ _. h)
      (λ _. by_test (Holds e) c.refuses _ _ (λ _. h) (λ _. over e (inserted net position) (λ ms. quiet_holds ms net t) (λ ms. (tt, (tt, (tt, tt)))))))))
      (λ _. h))
      (λ _. h)
  changed_holds (event.Remove filter) c p =
      let e : Event = event.Remove filter in
      by_test (Holds e) (phase_is_paused net.phase) _ _
      (λ _. by_test (Holds e) (live_items net == 0) _ _
      (λ t. by_test (Holds e) (is_in filter net.modules.order) _ _ (λ _. over e (removed net filter) (λ ms. quiet_holds ms net t) (λ ms. (tt, (tt, tt)))) (λ _. h))
      (λ _. h))
      (λ _. h)
  changed_holds (event.Replace filter kind setup) c p =
      let e : Event = event.Replace filter kind setup in
      by_test (Holds e) (phase_is_paused net.phase) _ _
      (λ _. by_test (Holds e) (live_items net == 0) _ _
      (λ t. by_test (Holds e) (is_in filter net.modules.order) _ _
      (λ _. by_test (Holds e) c.shelf_empty _ _ (λ _. h)
      (λ _. by_test (Holds e) c.refuses _ _ (λ _. h) (λ _. over e (replaced net filter) (λ ms. quiet_holds ms net t) (λ ms. (tt, (tt, (tt, (tt, tt))))))))
      (λ _. h))
      (λ _. h))
      (λ _. h)
  changed_holds event.Halt c p =
      let K : Outcome → Type 0 = λ o. ((ms : Modules) → AreHere ms o.rows) → Holds event.Halt o in
      by_test K (phase_is_paused net.phase) _ _
      (λ _. by_test K (halt_items net == 0) _ _ (λ t here. over event.Halt (record { reply = reply.Halted; rows = halt_rows net }) (λ ms. over_holds ms net t) here) (λ _ here. h))
      (λ _ here. h)
      (λ ms. halt_every (RowIsHere ms) (phases_here ms) net)
  changed_holds _ c p = cc

  event_holds : (e : Event) (c : Choice) → Each (ListHere net.modules) (lists net.things) → Holds e (outcome net e c)
  event_holds e c owned = by_kind (is_plain e) refl
    where
      by_kind : (b : Bool) → is_plain e ≡ b → Holds e (outcome net e c)
      by_kind true p =
          subst (λ ms. HoldsHere ms (state_after net e (outcome net e c))) (sym (plain_same net e c p).modules)
          (holds_rows net.modules (told net e (outcome net e c).reply) (outcome net e c).rows (event_here net owned h e c) (told_holds net.modules net e (outcome net e c).reply h))
      by_kind false p = changed_holds e c p

-- and so each journal does
module _ (head : StackHead) (bound : 1 ≤ length head.bindings) where
  record IsKept (net : Net) : Type 0 where
    before : List Turn
    sound : Sound head before
    at : seen head before ≡ net
    holds : HoldsHere net.modules net

  turns_push : (net : Net) (before : List Turn) (t : Turn) → after_turns net (before ++ t ∷ []) ≡ after_turn (after_turns net before) t
  turns_push net [] t = refl
  turns_push net (b ∷ before) t = turns_push (after_turn net b) before t

  sound_push : (net : Net) (before : List Turn) (t : Turn) → SoundFrom net before → Next (after_turns net before) t → SoundFrom net (before ++ t ∷ [])
  sound_push net [] t s n = (n, tt)
  sound_push net (b ∷ before) t s n = (s.0, sound_push (after_turn net b) before t s.1 n)

  turn_kept : (net : Net) (t : Turn) → Next net t → IsKept net → IsKept (after_turn net t)
  turn_kept net t n k =
      let owned : Each (ListHere net.modules) (lists net.things) = subst (λ (x : Net). Each (ListHere x.modules) (lists x.things)) k.at (lists_are_here head k.before k.sound bound) in
      record {
        before = k.before ++ t ∷ [];
        sound = sound_push (start head) k.before t k.sound (subst (λ x. Next x t) (sym k.at) n);
        at = turns_push (start head) k.before t ∙ ap (λ x. after_turn x t) k.at;
        holds = subst (λ (x : Net). HoldsHere x.modules x) (sym (turn_is net t n)) (event_holds net k.holds t.event n.choice owned);
      }

  turns_kept : (net : Net) (turns : List Turn) → IsKept net → SoundFrom net turns → IsKept (after_turns net turns)
  turns_kept net [] k s = k
  turns_kept net (t ∷ turns) k s = turns_kept (after_turn net t) turns (turn_kept net t s.0 k) s.1

  start_kept : IsKept (start head)
  start_kept = record { before = []; sound = tt; at = refl; holds = record { statuses = tt; given = tt } }

pub each_holds_here : (head : StackHead) (turns : List Turn) → Sound head turns → 1 ≤ length head.bindings → HoldsHere (seen head turns).modules (seen head turns)
each_holds_here head turns s bound = (turns_kept head bound (start head) turns (start_kept head bound) s).holds
