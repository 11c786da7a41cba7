-- Which lists are with another stack: a list is by the turn that takes it, until it is done there.
use Rattle.std.proofs.Common.{◌≡◌, ℕ, ◌≤◌, ◌==◌, ◌&&◌, not, Bool, true, false, cond, List, [], ◌∷◌, ◌++◌, Option, Some, None, find, refl, arith, ap, sym, subst, ◌∙◌}
use Rattle.std.specs.List.{All}
use Rattle.std.proofs.lemmas.Bool.Decides.{nat_tests}
use Rattle.std.proofs.lemmas.List.Elements.{All-head, All-tail}
use Rattle.ndis_base.specs.declared.CrossNo.{CrossNo}
use Rattle.ndis_base.specs.declared.Direction.{Direction}
use Rattle.ndis_base.specs.declared.Direction.TheVariants as direction
use Rattle.ndis_base.specs.declared.ListNo.{ListNo}
use Rattle.ndis_base.specs.declared.ListStatus.{ListStatus}
use Rattle.ndis_base.specs.declared.ModuleId.{ModuleId}
use Rattle.ndis_base.specs.declared.ModuleId.TheVariants.{Miniport}
use Rattle.journal_types.specs.declared.Event.{Event}
use Rattle.journal_types.specs.declared.Event.TheVariants as event
use Rattle.journal_types.specs.declared.OutWay.TheVariants as out
use Rattle.journal_types.specs.declared.PassWay.{PassWay}
use Rattle.journal_types.specs.declared.PhaseOf.TheVariants as of
use Rattle.journal_types.specs.declared.Reply.{Reply}
use Rattle.journal_types.specs.declared.Reply.TheVariants as reply
use Rattle.journal_types.specs.declared.Row.{Row}
use Rattle.journal_types.specs.declared.Row.TheVariants as row
use Rattle.journal_types.specs.declared.StackHead.{StackHead}
use Rattle.journal_types.specs.declared.Target.{Target}
use Rattle.journal_types.specs.declared.Turn.{Turn}
use Rattle.stack_rules.specs.declared.Choice.{Choice}
use Rattle.stack_rules.specs.declared.LiveList.{LiveList}
use Rattle.stack_rules.specs.declared.Message.{Message}
use Rattle.stack_rules.specs.Messages.{is_for}
use Rattle.stack_rules.specs.Net.{Net, after, after_rows, after_turn, after_turns, as_kept, as_passed, had_by, list_of, lists, request_of, seen, start, taken_by, told}
use Rattle.stack_rules.specs.Places.{is_crossed, position}
use Rattle.stack_rules.specs.Targets.{homeward_by}
use Rattle.stack_rules.specs.Outcome.{cross_no}
use Rattle.stack_rules.specs.Crosses.{done_of, done_outcome, first_uncrossed, is_in_message, take_of, take_up_of}
use Rattle.stack_rules.specs.Sound.{outcome, Next, Sound, SoundFrom}
use Rattle.rule_basics.specs.Live.{retouched, with_last, others, Each}
use Rattle.rule_basics.proofs.Each.{Each-append, Each-found, Each-others}
use Rattle.rule_basics.proofs.Lists.{lists-append, lists-changed, lists-kept, lists-passed, lists-without}
use Rattle.rule_basics.proofs.Numbered.{lists-status, lists-things_done, lists-without_status}
use Rattle.state_laws.specs.Shape.{IsShaped}
use Rattle.state_laws.proofs.Quiet.{is_plain}
use Rattle.state_laws.proofs.Changes.{IsChanged}
use Rattle.state_laws.proofs.Events.{state_after, event_kept, shaped_journal, turn_is}
use Rattle.family_laws.proofs.Changes.{Every}
use Rattle.tip_laws.proofs.Sweeps.{Duties, plain_every}
use Rattle.work_laws.specs.Bounds.{is_take}
use Rattle.drain_laws.specs.Drains.{NoneCrossed}
use Rattle.drain_laws.proofs.Reached.{IsReached, of_reached, reached_next}
use Rattle.run_laws.specs.Crossing.{is_done_in, is_out, is_taken_in, takes_in, DoneIsBack, KeepsNoneIn, KeepsUncrossed, NoneCrossedWhereDone, NoneCrossUntaken, NoneIn}

-- a fact of each live list's number and message
abbrev Holds : (ℕ → Option CrossNo → Type 0) → List LiveList → Type 0
Holds P ls = Each (λ l. P l.list.0 l.crossed) ls

-- a row that takes no list to another stack
abbrev LeavesAll : Row → Type 0
LeavesAll (row.CrossOut message (out.Down list) frames) = ⊥
LeavesAll _ = Unit {0}

leaves : Duties LeavesAll
leaves = record {
  root = λ list owner config d cancel frames. tt;
  clone = λ list owner config d cancel o frames. tt;
  give = λ list m h. tt;
  pass = λ list w to. tt;
  keep = λ list m. tt;
  back = λ list m s. tt;
  home = λ list m s. tt;
  wire = λ list frames. tt;
  deliver = λ list b h frames. tt;
  asked = λ request parent b kind code value. tt;
  given = λ request m. tt;
  done = λ request s value. tt;
  status = λ number name to. tt;
  seen = λ number m. tt;
  enters = λ stack message w frames. tt;
}

taken_up : (net : Net) (o : Option Message) → Every LeavesAll (take_up_of net o).rows
taken_up net None = tt
taken_up net (Some m) = (tt, tt)

-- an event but a CrossTake takes no list to another stack
plain_leaves : (net : Net) (e : Event) (c : Choice) → is_plain e ≡ true → is_take e ≡ false → Every LeavesAll (outcome net e c).rows
plain_leaves net event.CrossTake c p t = cc
plain_leaves net (event.CrossTakeUp binding vlan) c p t = taken_up net (find (is_for binding vlan) net.messages)
plain_leaves net e c p t = plain_every LeavesAll leaves net e c p (λ _ list owner config d cancel o frames. tt) (λ q. cc)

told_lists : (net : Net) (e : Event) (r : Reply) → lists (told net e r).things ≡ lists net.things
told_lists net (event.Insert kind position setup) (reply.Inserted f) = refl
told_lists net (event.Replace old kind setup) (reply.Replaced f) = refl
told_lists net (event.CrossTakeUp binding vlan) (reply.Taken message frames) = refl
told_lists net e r = refl

-- a fact that holds of each list that is with no other stack stays
module _ (P : ℕ → Option CrossNo → Type 0) (none : (n : ℕ) → P n None) where
  touched : (k : ℕ) (m : ModuleId) (ls : List LiveList) → Holds P ls → Holds P (retouched k (had_by m) ls)
  touched k m [] h = tt
  touched k m (l ∷ ls) h = (elim (l.list.0 == k) as (λ b. P (cond b (had_by m l) l).list.0 (cond b (had_by m l) l).crossed) [ true ↦ h.0 | false ↦ h.0 ], touched k m ls h.1)

  kept : (m : ModuleId) (ls : List LiveList) (o : Option LiveList) → Holds P ls → ((l : LiveList) → o ≡ Some l → P l.list.0 l.crossed) → Holds P (with_last ls (as_kept m o))
  kept m ls None h f = h
  kept m ls (Some l) h f = Each-append (λ x. P x.list.0 x.crossed) ls _ h (f l refl)

  passed : (way : PassWay) (to : Target) (ls : List LiveList) (o : Option LiveList) → Holds P ls → Holds P (with_last ls (as_passed way to o))
  passed way to ls None h = h
  passed way to ls (Some l) h = Each-append (λ x. P x.list.0 x.crossed) ls _ h (none l.list.0)

  same : (ls ms : List LiveList) → ms ≡ ls → Holds P ls → Holds P ms
  same ls ms e h = subst (Holds P) (sym e) h

  holds_row : (net : Net) (r : Row) → LeavesAll r → Holds P (lists net.things) → Holds P (lists (after net r).things)
  holds_row net (row.Issue list owner config direction cancel origin frames) a h =
      same (lists net.things ++ _ ∷ []) _ (lists-append net.things _) (Each-append (λ x. P x.list.0 x.crossed) (lists net.things) _ h (none list.0))
  holds_row net (row.Give list m handler) a h = same (retouched list.0 (had_by m) (lists net.things)) _ (lists-changed list.0 (had_by m) net.things) (touched list.0 m (lists net.things) h)
  holds_row net (row.Pass list way to) a h =
      same (with_last (others list.0 (lists net.things)) (as_passed way to (list_of list.0 (lists net.things)))) _ (lists-passed list.0 way to net.things)
      (passed way to (others list.0 (lists net.things)) (list_of list.0 (lists net.things)) (Each-others (λ x. P x.list.0 x.crossed) list.0 (lists net.things) h))
  holds_row net (row.Keep list m) a h =
      same (with_last (others list.0 (lists net.things)) (as_kept m (list_of list.0 (lists net.things)))) _ (lists-kept list.0 m net.things)
      (kept m (others list.0 (lists net.things)) (list_of list.0 (lists net.things)) (Each-others (λ x. P x.list.0 x.crossed) list.0 (lists net.things) h)
      (λ l e. Each-found (λ x. P x.list.0 x.crossed) list.0 (lists net.things) l h e))
  holds_row net (row.TurnBack list m status) a h = same (retouched list.0 (had_by m) (lists net.things)) _ (lists-changed list.0 (had_by m) net.things) (touched list.0 m (lists net.things) h)
  holds_row net (row.Home list owner status) a h = same (others list.0 (lists net.things)) _ (lists-without list.0 net.things) (Each-others (λ x. P x.list.0 x.crossed) list.0 (lists net.things) h)
  holds_row net (row.Phase (of.Module m s)) a h = h
  holds_row net (row.Phase (of.Stack p)) a h = h
  holds_row net (row.OidDone request status value) a h = same (lists net.things) _ (lists-things_done (request_of request.0 net.requests) request status value net.things) h
  holds_row net (row.Status number name to) a h = same (lists net.things) _ (lists-status number.0 net.things _ refl) h
  holds_row net (row.Seen number m) a h = same (lists net.things) _ (lists-without_status number.0 net.things) h
  holds_row net (row.CrossOut message (out.Down list) frames) a h = absurd a
  holds_row net (row.CrossOut message out.Up frames) a h = h
  holds_row net _ a h = h

  holds_rows : (net : Net) (rows : List Row) → Every LeavesAll rows → Holds P (lists net.things) → Holds P (lists (after_rows net rows).things)
  holds_rows net [] a h = h
  holds_rows net (r ∷ rows) a h = holds_rows (after net r) rows a.1 (holds_row net r a.0 h)

  holds_event : (net : Net) (e : Event) (c : Choice) → IsShaped net → is_take e ≡ false → Holds P (lists net.things) → Holds P (lists (state_after net e (outcome net e c)).things)
  holds_event net e c s t h = cases (is_plain e) refl
    where
      cases : (b : Bool) → is_plain e ≡ b → Holds P (lists (state_after net e (outcome net e c)).things)
      cases true p =
          holds_rows (told net e (outcome net e c).reply) (outcome net e c).rows (plain_leaves net e c p t)
          (same (lists net.things) (lists (told net e (outcome net e c).reply).things) (told_lists net e (outcome net e c).reply) h)
      cases false p =
          let changed : IsChanged net (state_after net e (outcome net e c)) s = event_kept net s e c p in
          same (lists net.things) (lists (state_after net e (outcome net e c)).things) (ap lists changed.things) h

-- no list has crossed
abbrev IsFree : ℕ → Option CrossNo → Type 0
IsFree n crossed = is_crossed crossed ≡ false

pub keeps_uncrossed : KeepsUncrossed
keeps_uncrossed head turns turn s n t h =
    let net : Net = seen head turns in
    subst NoneCrossed (sym (turn_is net turn n)) (holds_event IsFree (λ n. refl) net turn.event n.choice (shaped_journal head turns s) t h)

free_turns : (head : StackHead) (net : Net) (turns : List Turn) → IsReached head net → SoundFrom net turns → All (λ turn. is_take turn.event ≡ false) turns → NoneCrossed net → NoneCrossed (after_turns net turns)
free_turns head net [] r s a h = h
free_turns head net (turn ∷ turns) r s a h =
    let here : is_take turn.event ≡ false = All-head (λ (t : Turn). is_take t.event ≡ false) turn turns a in
    let rest : All (λ (t : Turn). is_take t.event ≡ false) turns = All-tail (λ (t : Turn). is_take t.event ≡ false) turn turns a in
    let shape : IsShaped net = of_reached IsShaped head net r (shaped_journal head) in
    let next : NoneCrossed (after_turn net turn) = subst NoneCrossed (sym (turn_is net turn s.0)) (holds_event IsFree (λ n. refl) net turn.event s.0.choice shape here h) in
    free_turns head (after_turn net turn) turns (reached_next head net turn r s.0) s.1 rest next

pub none_cross_untaken : NoneCrossUntaken
none_cross_untaken head turns s a = free_turns head (start head) turns (record { turns = []; sound = tt; is = refl }) s a tt

-- a list is taken
take_changes : (P Q : ℕ → Option CrossNo → Type 0) (k : ℕ) (message : ℕ) (ls : List LiveList) → Q k (Some (cross_no message)) → ((n : ℕ) (c : Option CrossNo) → P n c → Q n c) → Holds P ls → Holds Q (retouched k (taken_by message) ls)
take_changes P Q k message [] q f h = tt
take_changes P Q k message (l ∷ ls) q f h = (cases (l.list.0 == k) refl, take_changes P Q k message ls q f h.1)
  where
    cases : (b : Bool) → (l.list.0 == k) ≡ b → Q (cond b (taken_by message l) l).list.0 (cond b (taken_by message l) l).crossed
    cases true t = let same : l.list.0 ≡ k = grind (arith, nat_tests) in subst (λ n. Q n (Some (cross_no message))) (sym same) q
    cases false t = f l.list.0 l.crossed h.0

-- no list is in a message
abbrev NotIn : ℕ → ℕ → Option CrossNo → Type 0
NotIn message n crossed = is_in_message message crossed ≡ false

-- only a list of this number is
abbrev OnlyAt : ℕ → ℕ → ℕ → Option CrossNo → Type 0
OnlyAt message k n crossed = is_in_message message crossed ≡ true → n ≡ k

taken_none : (net : Net) (message : ℕ) (o : Option LiveList) → is_taken_in message (take_of net o).reply ≡ false → Holds (NotIn message) (lists net.things) → Holds (NotIn message) (lists (after_rows net (take_of net o).rows).things)
taken_none net message None f h = h
taken_none net message (Some l) f h =
    subst (Holds (NotIn message)) (sym (lists-changed l.list.0 (taken_by net.next.message) net.things))
    (take_changes (NotIn message) (NotIn message) l.list.0 net.next.message (lists net.things) f (λ n c q. q) h)

event_none : (net : Net) (e : Event) (c : Choice) (message : ℕ) → IsShaped net → (is_take e && is_taken_in message (outcome net e c).reply) ≡ false → NoneIn message net → NoneIn message (state_after net e (outcome net e c))
event_none net e c message s f h = cases (is_take e) refl
  where
    take : (e : Event) → is_take e ≡ true → (is_take e && is_taken_in message (outcome net e c).reply) ≡ false → NoneIn message (state_after net e (outcome net e c))
    take event.CrossTake t f = taken_none net message (first_uncrossed net) f h
    take _ t f = cc

    cases : (b : Bool) → is_take e ≡ b → NoneIn message (state_after net e (outcome net e c))
    cases true t = take e t f
    cases false t = holds_event (NotIn message) (λ n. refl) net e c s t h

pub keeps_none_in : KeepsNoneIn
keeps_none_in head turns turn message s n f h =
    let net : Net = seen head turns in
    let reply_is : (is_take turn.event && is_taken_in message (outcome net turn.event n.choice).reply) ≡ false = ap (λ r. is_take turn.event && is_taken_in message r) (sym n.reply) ∙ f in
    subst (NoneIn message) (sym (turn_is net turn n)) (event_none net turn.event n.choice message (shaped_journal head turns s) reply_is h)

-- at most one list is in a message, and none is in a message that is to come
record IsUnique (message : ℕ) (net : Net) : Type 0 where
  at : ℕ
  only : Holds (OnlyAt message at) (lists net.things)
  fresh : net.next.message ≤ message → NoneIn message net

-- the numbers of the messages rise
up_row : (net : Net) (r : Row) → net.next.message ≤ (after net r).next.message
up_row net (row.Issue list owner config d cancel made frames) = omega arith
up_row net (row.Phase (of.Module m x)) = omega arith
up_row net (row.Phase (of.Stack p)) = omega arith
up_row net (row.OidIssue request parent binding kind code value) = omega arith
up_row net (row.Status number name to) = omega arith
up_row net (row.CrossOut message way frames) = omega arith
up_row net _ = omega arith

up_rows : (net : Net) (rows : List Row) → net.next.message ≤ (after_rows net rows).next.message
up_rows net [] = omega arith
up_rows net (r ∷ rows) =
    let first = up_row net r in
    let rest = up_rows (after net r) rows in
    omega (arith, first, rest)

told_next : (net : Net) (e : Event) (r : Reply) → (told net e r).next.message ≡ net.next.message
told_next net (event.Insert kind position setup) (reply.Inserted f) = refl
told_next net (event.Replace old kind setup) (reply.Replaced f) = refl
told_next net (event.CrossTakeUp binding vlan) (reply.Taken message frames) = refl
told_next net e r = refl

up_event : (net : Net) (e : Event) (c : Choice) → net.next.message ≤ (state_after net e (outcome net e c)).next.message
up_event net e c =
    let now : Net = told net e (outcome net e c).reply in
    let first : now.next.message ≡ net.next.message = told_next net e (outcome net e c).reply in
    let rest : now.next.message ≤ (after_rows now (outcome net e c).rows).next.message = up_rows now (outcome net e c).rows in
    omega (arith, first, rest)

taken_unique : (net : Net) (message : ℕ) (o : Option LiveList) → IsUnique message net → IsUnique message (after_rows net (take_of net o).rows)
taken_unique net message None u = u
taken_unique net message (Some l) u = cases (net.next.message == message) refl
  where
    next : Net
    next = after_rows net (take_of net (Some l)).rows

    lists_are : lists next.things ≡ retouched l.list.0 (taken_by net.next.message) (lists net.things)
    lists_are = lists-changed l.list.0 (taken_by net.next.message) net.things

    cases : (b : Bool) → (net.next.message == message) ≡ b → IsUnique message next
    cases true t = record {
      at = l.list.0;
      only =
          subst (Holds (OnlyAt message l.list.0)) (sym lists_are)
          (take_changes (NotIn message) (OnlyAt message l.list.0) l.list.0 net.next.message (lists net.things) (λ q. refl) (λ n c q w. cc) (u.fresh (grind (arith, nat_tests))));
      fresh = λ low. let same : net.next.message ≡ message = grind (arith, nat_tests) in absurd (omega (arith, low, same));
    }
    cases false t = record {
      at = u.at;
      only =
          subst (Holds (OnlyAt message u.at)) (sym lists_are)
          (take_changes (OnlyAt message u.at) (OnlyAt message u.at) l.list.0 net.next.message (lists net.things) (λ q. cc) (λ n c q. q) u.only);
      fresh = λ low.
          subst (Holds (NotIn message)) (sym lists_are)
          (take_changes (NotIn message) (NotIn message) l.list.0 net.next.message (lists net.things) t (λ n c q. q) (u.fresh (omega (arith, low))));
    }

unique_event : (net : Net) (e : Event) (c : Choice) (message : ℕ) → IsShaped net → IsUnique message net → IsUnique message (state_after net e (outcome net e c))
unique_event net e c message s u = cases (is_take e) refl
  where
    take : (e : Event) → is_take e ≡ true → IsUnique message (state_after net e (outcome net e c))
    take event.CrossTake t = taken_unique net message (first_uncrossed net) u
    take _ t = cc

    cases : (b : Bool) → is_take e ≡ b → IsUnique message (state_after net e (outcome net e c))
    cases true t = take e t
    cases false t =
        let up = up_event net e c in
        record {
          at = u.at;
          only = holds_event (OnlyAt message u.at) (λ n q. cc) net e c s t u.only;
          fresh = λ low. holds_event (NotIn message) (λ n. refl) net e c s t (u.fresh (omega (arith, low, up)));
        }

unique_turns : (head : StackHead) (net : Net) (turns : List Turn) (message : ℕ) → IsReached head net → SoundFrom net turns → IsUnique message net → IsUnique message (after_turns net turns)
unique_turns head net [] message r s u = u
unique_turns head net (turn ∷ turns) message r s u =
    let shape : IsShaped net = of_reached IsShaped head net r (shaped_journal head) in
    unique_turns head (after_turn net turn) turns message (reached_next head net turn r s.0) s.1 (subst (IsUnique message) (sym (turn_is net turn s.0)) (unique_event net turn.event s.0.choice message shape u))

unique_journal : (head : StackHead) (message : ℕ) (turns : List Turn) → Sound head turns → IsUnique message (seen head turns)
unique_journal head message turns s = unique_turns head (start head) turns message (record { turns = []; sound = tt; is = refl }) s (record { at = 0; only = tt; fresh = λ low. tt })

-- what a search finds, and what it tells where it finds nothing
found_passes : (P : LiveList → Type 0) (test : LiveList → Bool) (ls : List LiveList) (l : LiveList) → Each P ls → find test ls ≡ Some l → P l × (test l ≡ true)
found_passes P test [] l h e = cc
found_passes P test (x ∷ ls) l h e = cases (test x) refl (λ f. found_passes P test ls l h.1 f) e
  where
    cases : (b : Bool) → test x ≡ b → (find test ls ≡ Some l → P l × (test l ≡ true)) → cond b (Some x) (find test ls) ≡ Some l → P l × (test l ≡ true)
    cases true t rest f = let same : x ≡ l = cc in (subst P same h.0, ap test (sym same) ∙ t)
    cases false t rest f = rest f

none_passes : (test : LiveList → Bool) (ls : List LiveList) → find test ls ≡ None → Each (λ l. test l ≡ false) ls
none_passes test [] e = tt
none_passes test (x ∷ ls) e = let both = cases (test x) refl e in (both.0, none_passes test ls both.1)
  where
    cases : (b : Bool) → test x ≡ b → cond b (Some x) (find test ls) ≡ None → (test x ≡ false) × (find test ls ≡ None)
    cases true t f = cc
    cases false t f = (t, f)

-- the lists but the one that is in the message
others_none : (message k : ℕ) (ls : List LiveList) → Holds (OnlyAt message k) ls → Holds (NotIn message) (others k ls)
others_none message k [] h = tt
others_none message k (x ∷ ls) h = cases (x.list.0 == k) refl (others_none message k ls h.1)
  where
    apart : (c : Bool) → is_in_message message x.crossed ≡ c → (x.list.0 == k) ≡ false → is_in_message message x.crossed ≡ false
    apart true i t = let same : x.list.0 ≡ k = h.0 i in absurd (grind (arith, nat_tests))
    apart false i t = i

    cases : (b : Bool) → (x.list.0 == k) ≡ b → Holds (NotIn message) (others k ls) → Holds (NotIn message) (cond (not b) (x ∷ others k ls) (others k ls))
    cases true t rest = rest
    cases false t rest = (apart (is_in_message message x.crossed) refl t, rest)

-- a list that is done goes on its way
done_pass : (net : Net) (message k : ℕ) (list : ListNo) (way : PassWay) (to : Target) → list.0 ≡ k → Holds (OnlyAt message k) (lists net.things) → NoneIn message (after net (row.Pass list way to))
done_pass net message k list way to e h =
    subst (Holds (NotIn message)) (sym (lists-passed list.0 way to net.things))
    (passed (NotIn message) (λ n. refl) way to (others list.0 (lists net.things)) (list_of list.0 (lists net.things)) (others_none message list.0 (lists net.things) (subst (λ i. Holds (OnlyAt message i) (lists net.things)) (sym e) h)))

done_none : (net : Net) (message : CrossNo) (status : ListStatus) → IsUnique message.0 net → NoneIn message.0 (after_rows net (done_outcome net message status).rows)
done_none net message status u = by (find (λ l. is_in_message message.0 l.crossed) (lists net.things)) refl
  where
    by : (o : Option LiveList) → find (λ l. is_in_message message.0 l.crossed) (lists net.things) ≡ o → NoneIn message.0 (after_rows net (done_of net status o).rows)
    by None e = none_passes (λ l. is_in_message message.0 l.crossed) (lists net.things) e
    by (Some l) e = homewards l.direction
      where
        at : l.list.0 ≡ u.at
        at = let known = found_passes (λ x. OnlyAt message.0 u.at x.list.0 x.crossed) (λ x. is_in_message message.0 x.crossed) (lists net.things) l u.only e in known.0 known.1

        homewards : (d : Direction) → NoneIn message.0 (after net (homeward_by net.modules l.list l.owner d (position net.modules.order Miniport) status))
        homewards direction.Down = done_pass net message.0 u.at l.list _ _ at u.only
        homewards direction.Up = done_pass net message.0 u.at l.list _ _ at u.only
        homewards direction.Lent = done_pass net message.0 u.at l.list _ _ at u.only

event_done : (net : Net) (e : Event) (c : Choice) (message : ℕ) → is_done_in message e ≡ true → IsUnique message net → NoneIn message (state_after net e (outcome net e c))
event_done net (event.CrossDone taken status) c message d u =
    let same : taken.0 ≡ message = grind (arith, nat_tests) in
    subst (λ i. NoneIn i (after_rows net (done_outcome net taken status).rows)) same (done_none net taken status (subst (λ i. IsUnique i net) (sym same) u))
event_done net _ c message d u = cc

turn_done : (net : Net) (turn : Turn) (message : ℕ) → Next net turn → is_done_in message turn.event ≡ true → IsUnique message net → NoneIn message (after_turn net turn)
turn_done net turn message n d u = subst (NoneIn message) (sym (turn_is net turn n)) (event_done net turn.event n.choice message d u)

pub done_is_back : DoneIsBack
done_is_back head turns turn message s n d = turn_done (seen head turns) turn message n d (unique_journal head message turns s)

-- turn by turn
back_turns : (head : StackHead) (net : Net) (turns : List Turn) (message : ℕ) (before : Bool) → IsReached head net → SoundFrom net turns → (before ≡ false → NoneIn message net) → is_out message before turns ≡ false → NoneIn message (after_turns net turns)
back_turns head net [] message before r s h f = h f
back_turns head net (turn ∷ turns) message before r s h f =
    back_turns head (after_turn net turn) turns message _ (reached_next head net turn r s.0) s.1 (cases (takes_in message turn) refl (is_done_in message turn.event) refl) f
  where
    kept_none : takes_in message turn ≡ false → NoneIn message net → NoneIn message (after_turn net turn)
    kept_none t q =
        let reply_is : (is_take turn.event && is_taken_in message (outcome net turn.event s.0.choice).reply) ≡ false = ap (λ r. is_take turn.event && is_taken_in message r) (sym s.0.reply) ∙ t in
        let shape : IsShaped net = of_reached IsShaped head net r (shaped_journal head) in
        subst (NoneIn message) (sym (turn_is net turn s.0)) (event_none net turn.event s.0.choice message shape reply_is q)

    cases : (a : Bool) → takes_in message turn ≡ a → (b : Bool) → is_done_in message turn.event ≡ b → cond a true (cond b false before) ≡ false → NoneIn message (after_turn net turn)
    cases true t b d e = cc
    cases false t true d e = turn_done net turn message s.0 d (of_reached (IsUnique message) head net r (unique_journal head message))
    cases false t false d e = kept_none t (h e)

-- in no message at all
in_none : (ls : List LiveList) → ((message : ℕ) → Holds (NotIn message) ls) → Holds IsFree ls
in_none [] h = tt
in_none (l ∷ ls) h = (free l.crossed (λ message. (h message).0), in_none ls (λ message. (h message).1))
  where
    free : (c : Option CrossNo) → ((message : ℕ) → is_in_message message c ≡ false) → is_crossed c ≡ false
    free None f = refl
    free (Some m) f = let apart : (m.0 == m.0) ≡ false = f m.0 in absurd (grind (arith, nat_tests))

pub none_crossed_where_done : NoneCrossedWhereDone
none_crossed_where_done head turns s f =
    in_none (lists (seen head turns).things)
    (λ message. back_turns head (start head) turns message false (record { turns = []; sound = tt; is = refl }) s (λ _. tt) (f message))
