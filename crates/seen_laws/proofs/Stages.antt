-- A status from the turn on that tells it: while it is on its way just the modules that it reaches below its target
-- have seen it, each once; once it is gone all that it reaches have.
use Rattle.std.proofs.Common.{◌≡◌, ℕ, ◌+◌, ◌-◌, ◌<◌, ◌≤◌, ◌==◌, ◌&&◌, nat_lt, Bool, true, false, cond, List, [], ◌∷◌, ◌++◌, Some, None, length, replicate, take, reverse, refl, arith, ap, sym, subst, append_assoc, ◌∙◌}
use Rattle.std.proofs.lemmas.Bool.Decides.{nat_tests}
use Rattle.std.proofs.lemmas.List.{length-replicate}
use Rattle.ndis_base.specs.declared.ModuleId.{ModuleId}
use Rattle.ndis_base.specs.declared.ModuleId.TheVariants.{Miniport, Filter, Binding}
use Rattle.ndis_base.specs.declared.ModuleState.{ModuleState}
use Rattle.ndis_base.specs.declared.ModuleState.TheVariants as state
use Rattle.ndis_base.specs.declared.Phase.{Phase}
use Rattle.ndis_base.specs.declared.Phase.TheVariants as phase
use Rattle.ndis_base.specs.declared.StatusName.{StatusName}
use Rattle.journal_types.specs.declared.Event.TheVariants as event
use Rattle.journal_types.specs.declared.Reply.TheVariants as reply
use Rattle.journal_types.specs.declared.Refusal.{Refusal}
use Rattle.journal_types.specs.declared.Refusal.TheVariants as refusal
use Rattle.journal_types.specs.declared.Row.{Row}
use Rattle.journal_types.specs.declared.Row.TheVariants as row
use Rattle.journal_types.specs.declared.StackHead.{StackHead}
use Rattle.journal_types.specs.declared.Target.{Target}
use Rattle.journal_types.specs.declared.Target.TheVariants.{Module, Bindings}
use Rattle.journal_types.specs.declared.Turn.{Turn}
use Rattle.stack_rules.specs.declared.StatusAway.{StatusAway}
use Rattle.stack_rules.specs.declared.Thing.TheVariants as thing
use Rattle.stack_rules.specs.Tests.{is_halted}
use Rattle.stack_rules.specs.Net.{Net, start, seen, told, after, after_rows, after_turn, after_turns}
use Rattle.stack_rules.specs.Outcome.{Outcome, status_no}
use Rattle.stack_rules.specs.Pauses.{statuses_away}
use Rattle.stack_rules.specs.Places.{position, position_of_target, agenda_first}
use Rattle.stack_rules.specs.Statuses.{seen_by_all, status_rows}
use Rattle.stack_rules.specs.Targets.{has_status, first_filter, next_status}
use Rattle.stack_rules.specs.Sound.{Next, outcome, SoundFrom, Sound}
use Rattle.rule_basics.proofs.Counts.{one_if, count_by-append}
use Rattle.home_laws.specs.Rows.{rows_of}
use Rattle.home_laws.proofs.Standing.{sound_front}
use Rattle.state_laws.specs.Shape.{IsDistinct, IsShaped}
use Rattle.state_laws.proofs.Rows.{by_test}
use Rattle.state_laws.proofs.Events.{at_phase, turn_is, shaped_journal}
use Rattle.family_laws.proofs.Goods.{distinct_of, turns-snoc}
use Rattle.family_laws.proofs.Chain.{next_at, snoc}
use Rattle.status_laws.proofs.Stands.{each_status_stands}
use Rattle.seen_laws.specs.Seen.{is_reached, sees, times_seen, is_on_its_way, once_if_reached, EachStatusIsSeenOnce}
use Rattle.seen_laws.proofs.Sorts.{Sorts, mute, tells, works, sorted, told_row}
use Rattle.seen_laws.proofs.Statuses.{statuses, is_equal, itself, status_in, status_of, sent, told_statuses, status_sends, all_take, first_status, none_found, none_at_all, turn_grows}
use Rattle.seen_laws.proofs.Alike.{IsAlike, alike_then, event_alike}
use Rattle.seen_laws.proofs.Places.{GoesOn, goes_on, so_far, none_yet, one_more, all_by_then}
use Rattle.seen_laws.proofs.Sights.{unseen, IsOff, off_mute, off_tells, off_works, all_see, filter_sees}

none_some : (s : StatusAway) → None ≡ Some s → ⊥
none_some s e = cc

some_same : (s x : StatusAway) → Some s ≡ Some x → s ≡ x
some_same s x e = cc

nil_end : {A : Type 0} (xs : List A) → xs ++ [] ≡ xs
nil_end [] = refl
nil_end (x ∷ xs) = ap (λ rest. x ∷ rest) (nil_end xs)

-- where a status goes next follows from the order and the handlers
same_first : (has other : ℕ → Bool) (fs : List ℕ) (to : Target) → ((f : ℕ) → has f ≡ other f) → first_filter has fs to ≡ first_filter other fs to
same_first has other [] to e = refl
same_first has other (f ∷ fs) to e =
    ap (λ b. cond b (Module (Filter f)) (first_filter has fs to)) (e f) ∙ ap (λ t. cond (other f) (Module (Filter f)) t) (same_first has other fs to e)

same_next : (at net : Net) → IsAlike at net → (m : ModuleId) → next_status net.modules (position net.modules.order m) ≡ next_status at.modules (position at.modules.order m)
same_next at net a m =
    same_first (has_status net.modules) (has_status at.modules) (reverse (take (position net.modules.order m - 1) net.modules.order)) Bindings a.handlers
    ∙ ap (λ order. first_filter (has_status at.modules) (reverse (take (position order m - 1) order)) Bindings) a.order

-- as many bindings as the head has
many_bindings : (net : Net) → IsShaped net → length net.modules.bindings ≡ length net.head.bindings
many_bindings net s = by net.phase refl
  where
    many : ℕ
    many = length net.head.bindings

    all : (x : ModuleState) → net.modules.bindings ≡ replicate many x → length net.modules.bindings ≡ many
    all x e = ap length e ∙ length-replicate many x

    by : (p : Phase) → net.phase ≡ p → length net.modules.bindings ≡ many
    by phase.Halted e = all state.Unbound (at_phase net phase.Halted s e).0.bindings
    by phase.Paused e = all state.Paused (at_phase net phase.Paused s e).1.0.bindings
    by phase.Restarting e = all _ (at_phase net phase.Restarting s e).1.states.bindings
    by phase.Running e = all _ (at_phase net phase.Running s e).1.0.states.bindings
    by phase.Pausing e = all _ (at_phase net phase.Pausing s e).1.states.bindings

-- The status of a number that was told in a state: on its way it goes to the bindings or to a filter that it reaches,
-- and the order and the handlers are still those of that state.
data Stage (at : Net) (n : ℕ) (rows : List Row) (net : Net) : Type 0 where
  away : (s : StatusAway) → status_of n net ≡ Some s → GoesOn at s.to → IsAlike at net → ((m : ModuleId) → times_seen n m rows ≡ so_far at s.to m) → Stage at n rows net
  gone : status_of n net ≡ None → ((m : ModuleId) → times_seen n m rows ≡ once_if_reached at m) → Stage at n rows net

module _ (at : Net) (d : IsDistinct at.modules.order) (n : ℕ) where
  -- rows that tell nothing of it
  stage_off : (past rows : List Row) (net next : Net) → IsOff n rows net next → ((s : StatusAway) → status_of n net ≡ Some s → IsAlike net next) → Stage at n past net → Stage at n (past ++ rows) next
  stage_off past rows net next off alike (away s f g a c) =
      away s (off.found ∙ f) g (alike_then at net next a (alike s f))
      (λ m. let whole = count_by-append (sees n m) past rows in let none = off.times m in let old = c m in omega (arith, whole, none, old))
  stage_off past rows net next off alike (gone e c) =
      gone (off.found ∙ e) (λ m. let whole = count_by-append (sees n m) past rows in let none = off.times m in let old = c m in omega (arith, whole, none, old))

  -- it is worked
  module _ (past : List Row) (net : Net) (s : StatusAway) (t : (s.number.0 == n) ≡ true) (found : status_of n net ≡ Some s) (g : GoesOn at s.to) (a : IsAlike at net) (c : (m : ModuleId) → times_seen n m past ≡ so_far at s.to m) (many : length net.modules.bindings ≡ length net.head.bindings) where
    -- all bindings see it, unless there is none
    at_bindings : (ss : List ModuleState) → net.modules.bindings ≡ ss → ((m : ModuleId) → times_seen n m past ≡ so_far at Bindings m) → Stage at n (past ++ seen_by_all s.number 0 ss) (after_rows net (seen_by_all s.number 0 ss))
    at_bindings [] e k = subst (λ rows. Stage at n rows net) (sym (nil_end past)) (away s found g a c)
    at_bindings (b ∷ bs) e k =
        let as_many : length (b ∷ bs) ≡ length at.head.bindings = ap length (sym e) ∙ many ∙ ap (λ (h : StackHead). length h.bindings) a.head in
        gone (all_take n net s.number 0 b bs t)
        (λ m.
        let whole = count_by-append (sees n m) past (seen_by_all s.number 0 (b ∷ bs)) in
        let all = all_see n s.number t m (b ∷ bs) in
        let old = k m in
        let then = all_by_then at (length (b ∷ bs)) as_many m in
        omega (arith, whole, all, old, then))

    at_target : (to : Target) → GoesOn at to → ((m : ModuleId) → times_seen n m past ≡ so_far at to m) → Stage at n (past ++ status_rows net s.number s.name to) (after_rows net (status_rows net s.number s.name to))
    at_target Bindings r k = at_bindings net.modules.bindings refl k
    at_target (Module Miniport) r k = absurd r
    at_target (Module (Binding b)) r k = absurd r
    at_target (Module (Filter f)) r k =
        let next : Target = next_status net.modules (position net.modules.order (Filter f)) in
        let same : next ≡ next_status at.modules (position at.modules.order (Filter f)) = same_next at net a (Filter f) in
        let rows : List Row = row.Seen s.number (Filter f) ∷ row.Status s.number s.name next ∷ [] in
        let then : Net = after_rows net rows in
        away (sent s.number s.name next) (status_sends n (after net (row.Seen s.number (Filter f))) s.number s.name next t)
        (subst (GoesOn at) (sym same) (goes_on at (position at.modules.order (Filter f))))
        (alike_then at net then a record { head = refl; order = refl; handlers = λ i. refl })
        (λ m.
        let whole = count_by-append (sees n m) past rows in
        let one = filter_sees n s.number t m f s.name next in
        let old = k m in
        let more = one_more at d f r m in
        let there : so_far at next m ≡ so_far at (next_status at.modules (position at.modules.order (Filter f))) m = ap (λ x. so_far at x m) same in
        omega (arith, whole, one, old, more, there))

  stage_works : (past : List Row) (net : Net) (s : StatusAway) → agenda_first net ≡ Some (thing.Status s) → (s.number.0 == n) ≡ true → length net.modules.bindings ≡ length net.head.bindings → Stage at n past net → Stage at n (past ++ status_rows net s.number s.name s.to) (after_rows net (status_rows net s.number s.name s.to))
  stage_works past net s e t many stage = by stage
    where
      found : status_of n net ≡ Some s
      found = ap (λ k. status_of k net) (sym (is_equal s.number.0 n t)) ∙ first_status net.things s e

      by : Stage at n past net → Stage at n (past ++ status_rows net s.number s.name s.to) (after_rows net (status_rows net s.number s.name s.to))
      by (gone g c) = absurd (none_some s (sym g ∙ found))
      by (away x f g a c) =
          let same : x ≡ s = some_same x s (sym f ∙ found) in
          let goes : GoesOn at s.to = subst (λ (y : StatusAway). GoesOn at y.to) same g in
          let counts : (m : ModuleId) → times_seen n m past ≡ so_far at s.to m = subst (λ (y : StatusAway). (m : ModuleId) → times_seen n m past ≡ so_far at y.to m) same c in
          at_target past net s t found goes a counts many s.to goes counts

  -- any turn
  stage_sort : (past : List Row) (net now : Net) (rows : List Row) → statuses now.things ≡ statuses net.things → ((s : StatusAway) → status_of n net ≡ Some s → IsAlike net (after_rows now rows)) → length net.modules.bindings ≡ length net.head.bindings → n < net.next.status →
      Sorts net now rows → Stage at n past net → Stage at n (past ++ rows) (after_rows now rows)
  stage_sort past net now _ same alike many low (mute rows q) stage = stage_off past rows net (after_rows now rows) (off_mute n net now rows same q) alike stage
  stage_sort past net now _ same alike many low (tells name e) stage =
      let rows : List Row = told_row net name ∷ [] in
      let other : (net.next.status == n) ≡ false = grind (arith, nat_tests) in
      stage_off past rows net (after_rows now rows) (subst (λ x. IsOff n rows net (after_rows x rows)) (sym e) (off_tells n net name other)) alike stage
  stage_sort past net now _ same alike many low (works s f e) stage =
      let rows : List Row = status_rows net s.number s.name s.to in
      let cases : (b : Bool) → (s.number.0 == n) ≡ b → Stage at n (past ++ rows) (after_rows now rows) = elim [
        | true ↦ λ t. subst (λ x. Stage at n (past ++ rows) (after_rows x rows)) (sym e) (stage_works past net s f t many stage)
        | false ↦ λ t. stage_off past rows net (after_rows now rows) (subst (λ x. IsOff n rows net (after_rows x rows)) (sym e) (off_works n net s.number s.name s.to t)) alike stage
      ] in
      cases (s.number.0 == n) refl

  stage_turn : (past : List Row) (net : Net) (turn : Turn) → Next net turn → IsShaped net → (net.phase ≡ phase.Halted → statuses_away net ≡ 0) → n < net.next.status → Stage at n past net → Stage at n (past ++ turn.rows) (after_turn net turn)
  stage_turn past net turn next shape halted low stage =
      let o : Outcome = outcome net turn.event next.choice in
      let now : Net = told net turn.event o.reply in
      subst (λ rows. Stage at n (past ++ rows) (after_turn net turn)) (sym next.rows)
      (subst (λ x. Stage at n (past ++ o.rows) x) (sym (turn_is net turn next))
      (stage_sort past net now o.rows (told_statuses net turn.event o.reply) (λ s f. event_alike net (busy s f) halted turn.event next.choice) (many_bindings net shape) low (sorted net turn.event next.choice) stage))
    where
      busy : (s : StatusAway) → status_of n net ≡ Some s → statuses_away net ≡ 0 → ⊥
      busy s f z = none_some s (sym (ap (status_in n) (none_at_all net.things z)) ∙ f)

  stage_turns : (head : StackHead) (before later : List Turn) (past : List Row) → Sound head (before ++ later) → n < (seen head before).next.status → Stage at n past (seen head before) → Stage at n (past ++ rows_of later) (seen head (before ++ later))
  stage_turns head before [] past s low stage =
      subst (λ turns. Stage at n (past ++ []) (seen head turns)) (sym (nil_end before)) (subst (λ rows. Stage at n rows (seen head before)) (sym (nil_end past)) stage)
  stage_turns head before (turn ∷ later) past s low stage =
      let net : Net = seen head before in
      let sound : Sound head before = sound_front head before (turn ∷ later) s in
      let next : Next net turn = next_at (start head) before turn later s in
      let then : seen head (before ++ turn ∷ []) ≡ after_turn net turn = turns-snoc (start head) before turn in
      let all : (before ++ turn ∷ []) ++ later ≡ before ++ turn ∷ later = snoc before turn later in
      let grows : net.next.status ≤ (after_turn net turn).next.status = turn_grows net turn in
      let one : Stage at n (past ++ turn.rows) (after_turn net turn) = stage_turn past net turn next (shaped_journal head before sound) (each_status_stands head before sound).halted low stage in
      subst (λ turns. Stage at n (past ++ (turn.rows ++ rows_of later)) (seen head turns)) all
      (subst (λ rows. Stage at n rows (seen head ((before ++ turn ∷ []) ++ later))) (append_assoc past turn.rows (rows_of later))
      (stage_turns head (before ++ turn ∷ []) later (past ++ turn.rows) (subst (Sound head) (sym all) s)
      (subst (λ (x : Net). n < x.next.status) (sym then) (omega (arith, low, grows)))
      (subst (Stage at n (past ++ turn.rows)) (sym then) one)))

-- no number from the next one on is told
record IsFresh (past : List Row) (net : Net) : Type 0 where
  free : (n : ℕ) → net.next.status ≤ n → status_of n net ≡ None
  unseen : (n : ℕ) → net.next.status ≤ n → (m : ModuleId) → times_seen n m past ≡ 0

fresh_off : (past rows : List Row) (net next : Net) → net.next.status ≤ next.next.status → ((n : ℕ) → next.next.status ≤ n → IsOff n rows net next) → IsFresh past net → IsFresh (past ++ rows) next
fresh_off past rows net next grows off h = record {
  free = λ n l. (off n l).found ∙ h.free n (omega (arith, grows, l));
  unseen = λ n l m.
      let whole = count_by-append (sees n m) past rows in
      let none = (off n l).times m in
      let old = h.unseen n (omega (arith, grows, l)) m in
      omega (arith, whole, none, old);
}

fresh_sort : (past : List Row) (net now : Net) (rows : List Row) → statuses now.things ≡ statuses net.things → net.next.status ≤ (after_rows now rows).next.status → Sorts net now rows → IsFresh past net → IsFresh (past ++ rows) (after_rows now rows)
fresh_sort past net now _ same grows (mute rows q) h = fresh_off past rows net (after_rows now rows) grows (λ n l. off_mute n net now rows same q) h
fresh_sort past net now _ same grows (tells name e) h =
    let rows : List Row = told_row net name ∷ [] in
    let up : (after_rows now rows).next.status ≡ net.next.status + 1 = ap (λ x. (after_rows x rows).next.status) e ∙ ap (λ b. cond b (net.next.status + 1) net.next.status) (itself net.next.status) in
    fresh_off past rows net (after_rows now rows) grows
    (λ n l.
    let low : net.next.status < n = omega (arith, up, l) in
    let other : (net.next.status == n) ≡ false = grind (arith, nat_tests) in
    subst (λ x. IsOff n rows net (after_rows x rows)) (sym e) (off_tells n net name other)) h
fresh_sort past net now _ same grows (works s f e) h =
    let rows : List Row = status_rows net s.number s.name s.to in
    fresh_off past rows net (after_rows now rows) grows
    (λ n l. subst (λ x. IsOff n rows net (after_rows x rows)) (sym e) (off_works n net s.number s.name s.to (other n (omega (arith, grows, l)) (s.number.0 == n) refl))) h
  where
    other : (n : ℕ) → net.next.status ≤ n → (b : Bool) → (s.number.0 == n) ≡ b → b ≡ false
    other n l true t = absurd (none_some s (sym (h.free n l) ∙ ap (λ k. status_of k net) (sym (is_equal s.number.0 n t)) ∙ first_status net.things s f))
    other n l false t = refl

fresh_turns : (past : List Row) (net : Net) (turns : List Turn) → SoundFrom net turns → IsFresh past net → IsFresh (past ++ rows_of turns) (after_turns net turns)
fresh_turns past net [] s h = subst (λ rows. IsFresh rows net) (sym (nil_end past)) h
fresh_turns past net (turn ∷ turns) s h =
    let o : Outcome = outcome net turn.event s.0.choice in
    let now : Net = told net turn.event o.reply in
    let grows : net.next.status ≤ (after_turn net turn).next.status = turn_grows net turn in
    let same : after_turn net turn ≡ after_rows now o.rows = turn_is net turn s.0 in
    let up : net.next.status ≤ (after_rows now o.rows).next.status = subst (λ (x : Net). net.next.status ≤ x.next.status) same grows in
    let one : IsFresh (past ++ o.rows) (after_rows now o.rows) = fresh_sort past net now o.rows (told_statuses net turn.event o.reply) up (sorted net turn.event s.0.choice) h in
    let then : IsFresh (past ++ turn.rows) (after_turn net turn) = subst (λ rows. IsFresh (past ++ rows) (after_turn net turn)) (sym s.0.rows) (subst (λ x. IsFresh (past ++ o.rows) x) (sym same) one) in
    subst (λ rows. IsFresh rows (after_turns (after_turn net turn) turns)) (append_assoc past turn.rows (rows_of turns)) (fresh_turns (past ++ turn.rows) (after_turn net turn) turns s.1 then)

fresh_journal : (head : StackHead) (turns : List Turn) → Sound head turns → IsFresh (rows_of turns) (seen head turns)
fresh_journal head turns s = fresh_turns [] (start head) turns s record { free = λ n l. refl; unseen = λ n l m. refl }

-- the turn that tells a status
rows_told : (net : Net) (turn : Turn) (name : StatusName) → Next net turn → turn.event ≡ event.Status name → turn.reply ≡ reply.Ok → turn.rows ≡ told_row net name ∷ []
rows_told net turn name next e r =
    by_test (λ (o : Outcome). turn.reply ≡ o.reply → turn.rows ≡ o.rows → turn.rows ≡ told_row net name ∷ []) (is_halted net.modules.miniport) _ _
    (λ _ p q. absurd (clash refusal.HaltedNow (sym r ∙ p))) (λ _ p q. q)
    (next.reply ∙ ap (λ v. (outcome net v next.choice).reply) e) (next.rows ∙ ap (λ v. (outcome net v next.choice).rows) e)
  where
    clash : (cause : Refusal) → reply.Ok ≡ reply.Refused cause → ⊥
    clash cause e = cc

turn_told : (net : Net) (turn : Turn) (name : StatusName) → Next net turn → turn.event ≡ event.Status name → turn.reply ≡ reply.Ok → after_turn net turn ≡ after net (told_row net name)
turn_told net turn name next e r =
    ap (after_rows (told net turn.event turn.reply)) (rows_told net turn name next e r) ∙ ap (λ v. after (told net v turn.reply) (told_row net name)) e

stage_told : (net : Net) → IsDistinct net.modules.order → (turn : Turn) (name : StatusName) → Next net turn → turn.event ≡ event.Status name → turn.reply ≡ reply.Ok → Stage net net.next.status turn.rows (after_turn net turn)
stage_told net d turn name next e r =
    let n : ℕ = net.next.status in
    let to : Target = next_status net.modules (position net.modules.order Miniport) in
    let sends : Row = told_row net name in
    let rows : turn.rows ≡ sends ∷ [] = rows_told net turn name next e r in
    let then : after_turn net turn ≡ after net sends = turn_told net turn name next e r in
    let first : Stage net n (sends ∷ []) (after net sends) =
    away (sent (status_no n) name to) (status_sends n net (status_no n) name to (itself n)) (goes_on net (position net.modules.order Miniport))
    record { head = refl; order = refl; handlers = λ f. refl }
    (λ m. unseen n m sends [] refl ∙ sym (none_yet net d m)) in
    subst (λ all. Stage net n all (after_turn net turn)) (sym rows) (subst (λ x. Stage net n (sends ∷ []) x) (sym then) first)

told_past : (net : Net) (turn : Turn) (name : StatusName) → Next net turn → turn.event ≡ event.Status name → turn.reply ≡ reply.Ok → net.next.status < (after_turn net turn).next.status
told_past net turn name next e r =
    let then : after_turn net turn ≡ after net (told_row net name) = turn_told net turn name next e r in
    let up : (after net (told_row net name)).next.status ≡ net.next.status + 1 = ap (λ b. cond b (net.next.status + 1) net.next.status) (itself net.next.status) in
    let same : (after_turn net turn).next.status ≡ (after net (told_row net name)).next.status = ap (λ (x : Net). x.next.status) then in
    omega (arith, up, same)

-- what a stage says
most_once : (at : Net) (n : ℕ) (rows : List Row) (now : Net) → Stage at n rows now → (m : ModuleId) → times_seen n m rows ≤ once_if_reached at m
most_once at n rows now (gone e c) m = let all = c m in omega (arith, all)
most_once at n rows now (away s f g a c) m =
    let seen_so_far = c m in
    let most = less (is_reached at m) (nat_lt (position_of_target at.modules.order s.to) (position at.modules.order m)) in
    omega (arith, seen_so_far, most)
  where
    less : (a b : Bool) → one_if (a && b) ≤ cond a 1 0
    less true true = omega arith
    less true false = omega arith
    less false b = omega arith

once_gone : (at : Net) (n : ℕ) (rows : List Row) (now : Net) → Stage at n rows now → is_on_its_way n now ≡ false → (m : ModuleId) → times_seen n m rows ≡ once_if_reached at m
once_gone at n rows now (gone e c) off m = c m
once_gone at n rows now (away s f g a c) off m = absurd (none_some s (sym (none_found n now.things off) ∙ f))

-- the law
pub each_status_is_seen_once : EachStatusIsSeenOnce
each_status_is_seen_once head before later turn name s e r =
    let net : Net = seen head before in
    let n : ℕ = net.next.status in
    let sound : Sound head before = sound_front head before (turn ∷ later) s in
    let next : Next net turn = next_at (start head) before turn later s in
    let d : IsDistinct net.modules.order = distinct_of net (shaped_journal head before sound) in
    let then : seen head (before ++ turn ∷ []) ≡ after_turn net turn = turns-snoc (start head) before turn in
    let all : (before ++ turn ∷ []) ++ later ≡ before ++ turn ∷ later = snoc before turn later in
    let told_now : Stage net n turn.rows (after_turn net turn) = stage_told net d turn name next e r in
    let low : n < (after_turn net turn).next.status = told_past net turn name next e r in
    let stage : Stage net n (turn.rows ++ rows_of later) (seen head (before ++ turn ∷ later)) =
    subst (λ turns. Stage net n (turn.rows ++ rows_of later) (seen head turns)) all
    (stage_turns net d n head (before ++ turn ∷ []) later turn.rows (subst (Sound head) (sym all) s) (subst (λ (x : Net). n < x.next.status) (sym then) low) (subst (Stage net n turn.rows) (sym then) told_now)) in
    record {
      new = (fresh_journal head before sound).unseen n (omega arith);
      most = most_once net n (turn.rows ++ rows_of later) (seen head (before ++ turn ∷ later)) stage;
      once = once_gone net n (turn.rows ++ rows_of later) (seen head (before ++ turn ∷ later)) stage;
    }
