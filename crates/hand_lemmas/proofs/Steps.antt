-- The same rows as a book writes them: the list is taken from the front of the queue, from any place among those
-- that a module keeps, or from those that were issued in this turn.
use Rattle.std.proofs.Common.{◌≡◌, ℕ, ◌+◌, ◌==◌, not, Bool, true, false, cond, List, [], ◌∷◌, ◌++◌, Some, map, filter, length, count_by, refl, sym, ap, ◌∙◌, arith, eq-eqb}
use Rattle.std.proofs.lemmas.Bool.{cond-false}
use Rattle.std.proofs.lemmas.List.{length-append}
use Rattle.std.proofs.lemmas.List.Elements.{filter-append}
use Rattle.std.proofs.lemmas.List.Sums.{length-filter}
use Rattle.ndis_base.specs.declared.ModuleId.{ModuleId}
use Rattle.ndis_base.specs.declared.ListStatus.{ListStatus}
use Rattle.journal_types.specs.declared.PassWay.{PassWay}
use Rattle.journal_types.specs.declared.Target.{Target}
use Rattle.journal_types.specs.declared.Row.TheVariants as row
use Rattle.buffer_pools.specs.Views.{ListView, PoolView, Frees}
use Rattle.stack_rules.specs.declared.Stand.{Stand}
use Rattle.stack_rules.specs.declared.Stand.TheVariants as stand
use Rattle.stack_rules.specs.declared.LiveList.{LiveList}
use Rattle.stack_rules.specs.declared.Thing.{Thing}
use Rattle.stack_rules.specs.declared.Thing.TheVariants as thing
use Rattle.stack_rules.specs.Tests.{same_module}
use Rattle.stack_rules.specs.Net.{Net, lists, list_of, without, after}
use Rattle.stack_rules.specs.Places.{is_away, is_passed, is_kept_by}
use Rattle.rule_basics.specs.Live.{IsApart, others}
use Rattle.rule_basics.proofs.Lists.{lists-without}
use Rattle.rule_basics.proofs.Counts.{one_if, count_by-others}
use Rattle.agenda_items.specs.declared.Carried.{Carried}
use Rattle.hand_lemmas.specs.Hands.{in_hand, in_state, carried, seen, is_loose, Hands, Agrees, out, carries, taken, queued, put_at, kept_at, pooled}
use Rattle.agenda_items.specs.declared.Carried.TheVariants.{List as a_list}
use Rattle.hand_lemmas.proofs.Modules.{same_is, at_each}
use Rattle.hand_lemmas.proofs.Shows.{placed, shows_taken, kept_elsewhere}
use Rattle.hand_lemmas.proofs.Rows.{shows_of, passed, kept, homed, agrees_same}
use Rattle.hand_lemmas.proofs.Finds.{filter_whole, placed_stand, count_things}
use Rattle.hand_lemmas.proofs.Tells.{next_list, taken_first, kept_there, loose_there, shown_length, out_same}

pub put_same : {X : Type 0} (m : ModuleId) (x y : X) (f g : ModuleId → X) → x ≡ y → ((k : ModuleId) → f k ≡ g k) → (k : ModuleId) → put_at m x f k ≡ put_at m y g k
put_same m x y f g e h k = elim (same_module k m) as (λ b. cond b x (f k) ≡ cond b y (g k)) [ true ↦ e | false ↦ h k ]

-- From the front of the queue.

pub passed_first : (net : Net) (l : ListView) (was : PassWay) (from : Target) (way : PassWay) (to : Target) (h : Hands) (queue : List Carried) → Agrees net h → h.queue ≡ a_list l was from ∷ queue
    → Agrees (after net (row.Pass l.label.number way to)) (record h { queue = queue ++ a_list l way to ∷ [] })
passed_first net l was from way to h queue a e =
    let t = taken_first net h l was from queue a e in
    agrees_same (after net (row.Pass l.label.number way to)) (queued (a_list l way to) (taken l.label.number.0 h)) (record h { queue = queue ++ a_list l way to ∷ [] })
    (record { queue = ap (λ q. q ++ a_list l way to ∷ []) t.queue_is; loose = t.loose_is; kept = t.kept_is; pools = λ m. refl })
    (passed net l way to h a (next_list net h l was from queue a e).mine)

pub kept_first : (net : Net) (l : ListView) (was : PassWay) (from : Target) (m : ModuleId) (h : Hands) (queue : List Carried) → Agrees net h → h.queue ≡ a_list l was from ∷ queue
    → Agrees (after net (row.Keep l.label.number m)) (record h { queue = queue; kept = put_at m (h.kept m ++ l ∷ []) h.kept })
kept_first net l was from m h queue a e =
    let n : ℕ = l.label.number.0 in
    let t = taken_first net h l was from queue a e in
    agrees_same (after net (row.Keep l.label.number m)) (kept_at m l (taken n h)) (record h { queue = queue; kept = put_at m (h.kept m ++ l ∷ []) h.kept })
    (record {
      queue = t.queue_is;
      loose = t.loose_is;
      kept = put_same m (out n (h.kept m) ++ l ∷ []) (h.kept m ++ l ∷ []) (λ k. out n (h.kept k)) h.kept (ap (λ ls. ls ++ l ∷ []) (t.kept_is m)) t.kept_is;
      pools = λ k. refl;
    })
    (kept net l m h a (next_list net h l was from queue a e).mine)

pub homed_first : (net : Net) (l : ListView) (was : PassWay) (from : Target) (owner : ModuleId) (status : ListStatus) (p : PoolView) (h : Hands) (queue : List Carried) → Agrees net h → h.queue ≡ a_list l was from ∷ queue
    → Frees (h.pools l.label.owner) l p → Agrees (after net (row.Home l.label.number owner status)) (record h { queue = queue; pools = put_at l.label.owner p h.pools })
homed_first net l was from owner status p h queue a e frees =
    let n : ℕ = l.label.number.0 in
    let t = taken_first net h l was from queue a e in
    agrees_same (after net (row.Home l.label.number owner status)) (pooled l.label.owner p (taken n h)) (record h { queue = queue; pools = put_at l.label.owner p h.pools })
    (record { queue = t.queue_is; loose = t.loose_is; kept = t.kept_is; pools = λ m. refl })
    (homed net l owner status p h a (next_list net h l was from queue a e).mine frees)

-- From among those that a module keeps, or those that were issued.

-- what is left of a place that has the list
out_split : (q : Stand → Bool) (ts : List Thing) (x : LiveList) (front : List ListView) (l : ListView) (back : List ListView) → IsApart (lists ts) → list_of l.label.number.0 (lists ts) ≡ Some x → q x.stand ≡ true
    → map in_hand (front ++ l ∷ back) ≡ map in_state (placed q ts) → map in_hand (out l.label.number.0 (front ++ l ∷ back)) ≡ map in_state (placed q (without l.label.number.0 ts))
    → out l.label.number.0 (front ++ l ∷ back) ≡ front ++ back
out_split q ts x front l back apart live passes before after =
    let n : ℕ = l.label.number.0 in
    let p : LiveList → Bool = λ k. q k.stand in
    let stays : ListView → Bool = λ o. not (o.label.number.0 == n) in
    let skipped : out n (front ++ l ∷ back) ≡ out n (front ++ back) =
    filter-append stays front (l ∷ back)
    ∙ ap (λ zs. out n front ++ zs) (cond-false (not (l.label.number.0 == n)) (l ∷ out n back) (out n back) (ap not (eq-eqb l.label.number.0 n refl)))
    ∙ sym (filter-append stays front back) in
    let count = count_by-others p n (lists ts) x apart live in
    let one : one_if (p x) ≡ 1 = ap one_if passes in
    let left : length (out n (front ++ l ∷ back)) ≡ length (placed q (without n ts)) = shown_length in_state in_hand (placed q (without n ts)) (out n (front ++ l ∷ back)) after in
    let all : length (front ++ l ∷ back) ≡ length (placed q ts) = shown_length in_state in_hand (placed q ts) (front ++ l ∷ back) before in
    let left_count : length (placed q (without n ts)) ≡ count_by p (others n (lists ts)) = length-filter p (lists (without n ts)) ∙ ap (count_by p) (lists-without n ts) in
    let all_count : length (placed q ts) ≡ count_by p (lists ts) = length-filter p (lists ts) in
    let left_is : length (out n (front ++ l ∷ back)) ≡ length (out n (front ++ back)) = ap length skipped in
    let one_more : length (front ++ l ∷ back) ≡ length (front ++ back) + 1 = omega (arith, length-append front (l ∷ back), length-append front back) in
    skipped ∙ filter_whole stays (front ++ back) (omega (arith, count, one, left, all, left_count, all_count, left_is, one_more))

-- the queue, where the list isn't in it
queue_same : (n : ℕ) (ts : List Thing) (x : LiveList) (queue : List Carried) → IsApart (lists ts) → list_of n (lists ts) ≡ Some x → is_passed x.stand ≡ false
    → map carried queue ≡ map seen (filter is_away ts) → map carried (filter (λ c. not (carries n c)) queue) ≡ map seen (filter is_away (without n ts)) → filter (λ c. not (carries n c)) queue ≡ queue
queue_same n ts x queue apart live fails before after =
    let count = count_things is_away n ts x apart live in
    let none : one_if (is_away (thing.List x)) ≡ 0 = ap one_if fails in
    let left = shown_length seen carried (filter is_away (without n ts)) (filter (λ c. not (carries n c)) queue) after in
    let all = shown_length seen carried (filter is_away ts) queue before in
    let left_count = length-filter is_away (without n ts) in
    let all_count = length-filter is_away ts in
    filter_whole (λ c. not (carries n c)) queue (omega (arith, count, none, left, all, left_count, all_count))

-- what is left where a list that a module keeps is taken
pub record IsTakenKept (h : Hands) (m : ModuleId) (l : ListView) (rest : List ListView) : Type 0 where
  pub queue_is : (taken l.label.number.0 h).queue ≡ h.queue
  pub loose_is : out l.label.number.0 h.loose ≡ h.loose
  pub kept_is : (k : ModuleId) → out l.label.number.0 (h.kept k) ≡ put_at m rest h.kept k

stands_kept : (m : ModuleId) (s : Stand) → is_kept_by m s ≡ true → s ≡ stand.Kept m
stands_kept m stand.Unplaced e = cc
stands_kept m (stand.Kept k) e = ap stand.Kept (same_is k m e)
stands_kept m (stand.Passed way to) e = cc

pub taken_kept : (net : Net) (h : Hands) (m : ModuleId) (front : List ListView) (l : ListView) (back : List ListView) → Agrees net h → h.kept m ≡ front ++ l ∷ back → IsTakenKept h m l (front ++ back)
taken_kept net h m front l back a e =
    let n : ℕ = l.label.number.0 in
    let t = kept_there net h m front l back a e in
    let x : LiveList = t.mine.x in
    let s = shows_taken n net.things h (shows_of a) in
    let passes : is_kept_by m x.stand ≡ true = placed_stand (is_kept_by m) (lists net.things) t.before x t.after t.is in
    let stands : x.stand ≡ stand.Kept m = stands_kept m x.stand passes in
    let apart : IsApart (lists net.things) = a.numbered.apart in
    record {
      queue_is = queue_same n net.things x h.queue apart t.mine.live (ap is_passed stands) a.queue_is s.queue_is;
      loose_is = out_same is_loose n net.things x h.loose apart t.mine.live (ap is_loose stands) a.loose_is s.loose_is;
      kept_is = at_each (λ k rest. out n (h.kept k) ≡ rest) m (front ++ back) h.kept
          (ap (out n) e ∙ out_split (is_kept_by m) net.things x front l back apart t.mine.live passes (ap (map in_hand) (sym e) ∙ a.kept_is m) (ap (λ ls. map in_hand (out n ls)) (sym e) ∙ s.kept_is m))
          (λ k other. out_same (is_kept_by k) n net.things x (h.kept k) apart t.mine.live (ap (is_kept_by k) stands ∙ kept_elsewhere m k other) (a.kept_is k) (s.kept_is k));
    }

pub passed_kept : (net : Net) (m : ModuleId) (l : ListView) (way : PassWay) (to : Target) (h : Hands) (front back : List ListView) → Agrees net h → h.kept m ≡ front ++ l ∷ back
    → Agrees (after net (row.Pass l.label.number way to)) (record h { queue = h.queue ++ a_list l way to ∷ []; kept = put_at m (front ++ back) h.kept })
passed_kept net m l way to h front back a e =
    let t = taken_kept net h m front l back a e in
    agrees_same (after net (row.Pass l.label.number way to)) (queued (a_list l way to) (taken l.label.number.0 h)) (record h { queue = h.queue ++ a_list l way to ∷ []; kept = put_at m (front ++ back) h.kept })
    (record { queue = ap (λ q. q ++ a_list l way to ∷ []) t.queue_is; loose = t.loose_is; kept = t.kept_is; pools = λ k. refl })
    (passed net l way to h a (kept_there net h m front l back a e).mine)

pub homed_kept : (net : Net) (m : ModuleId) (l : ListView) (owner : ModuleId) (status : ListStatus) (p : PoolView) (h : Hands) (front back : List ListView) → Agrees net h → h.kept m ≡ front ++ l ∷ back
    → Frees (h.pools l.label.owner) l p → Agrees (after net (row.Home l.label.number owner status)) (record h { kept = put_at m (front ++ back) h.kept; pools = put_at l.label.owner p h.pools })
homed_kept net m l owner status p h front back a e frees =
    let t = taken_kept net h m front l back a e in
    agrees_same (after net (row.Home l.label.number owner status)) (pooled l.label.owner p (taken l.label.number.0 h)) (record h { kept = put_at m (front ++ back) h.kept; pools = put_at l.label.owner p h.pools })
    (record { queue = t.queue_is; loose = t.loose_is; kept = t.kept_is; pools = λ k. refl })
    (homed net l owner status p h a (kept_there net h m front l back a e).mine frees)

-- what is left where a list that was issued in this turn is taken
pub record IsTakenLoose (h : Hands) (l : ListView) (rest : List ListView) : Type 0 where
  pub queue_is : (taken l.label.number.0 h).queue ≡ h.queue
  pub loose_is : out l.label.number.0 h.loose ≡ rest
  pub kept_is : (k : ModuleId) → out l.label.number.0 (h.kept k) ≡ h.kept k

stands_loose : (s : Stand) → is_loose s ≡ true → s ≡ stand.Unplaced
stands_loose stand.Unplaced e = refl
stands_loose (stand.Kept m) e = cc
stands_loose (stand.Passed way to) e = cc

pub taken_loose : (net : Net) (h : Hands) (front : List ListView) (l : ListView) (back : List ListView) → Agrees net h → h.loose ≡ front ++ l ∷ back → IsTakenLoose h l (front ++ back)
taken_loose net h front l back a e =
    let n : ℕ = l.label.number.0 in
    let t = loose_there net h front l back a e in
    let x : LiveList = t.mine.x in
    let s = shows_taken n net.things h (shows_of a) in
    let passes : is_loose x.stand ≡ true = placed_stand is_loose (lists net.things) t.before x t.after t.is in
    let stands : x.stand ≡ stand.Unplaced = stands_loose x.stand passes in
    let apart : IsApart (lists net.things) = a.numbered.apart in
    record {
      queue_is = queue_same n net.things x h.queue apart t.mine.live (ap is_passed stands) a.queue_is s.queue_is;
      loose_is = ap (out n) e ∙ out_split is_loose net.things x front l back apart t.mine.live passes (ap (map in_hand) (sym e) ∙ a.loose_is) (ap (λ ls. map in_hand (out n ls)) (sym e) ∙ s.loose_is);
      kept_is = λ k. out_same (is_kept_by k) n net.things x (h.kept k) apart t.mine.live (ap (is_kept_by k) stands) (a.kept_is k) (s.kept_is k);
    }

pub passed_loose : (net : Net) (l : ListView) (way : PassWay) (to : Target) (h : Hands) (front back : List ListView) → Agrees net h → h.loose ≡ front ++ l ∷ back
    → Agrees (after net (row.Pass l.label.number way to)) (record h { queue = h.queue ++ a_list l way to ∷ []; loose = front ++ back })
passed_loose net l way to h front back a e =
    let t = taken_loose net h front l back a e in
    agrees_same (after net (row.Pass l.label.number way to)) (queued (a_list l way to) (taken l.label.number.0 h)) (record h { queue = h.queue ++ a_list l way to ∷ []; loose = front ++ back })
    (record { queue = ap (λ q. q ++ a_list l way to ∷ []) t.queue_is; loose = t.loose_is; kept = t.kept_is; pools = λ k. refl })
    (passed net l way to h a (loose_there net h front l back a e).mine)

pub homed_loose : (net : Net) (l : ListView) (owner : ModuleId) (status : ListStatus) (p : PoolView) (h : Hands) (front back : List ListView) → Agrees net h → h.loose ≡ front ++ l ∷ back
    → Frees (h.pools l.label.owner) l p → Agrees (after net (row.Home l.label.number owner status)) (record h { loose = front ++ back; pools = put_at l.label.owner p h.pools })
homed_loose net l owner status p h front back a e frees =
    let t = taken_loose net h front l back a e in
    agrees_same (after net (row.Home l.label.number owner status)) (pooled l.label.owner p (taken l.label.number.0 h)) (record h { loose = front ++ back; pools = put_at l.label.owner p h.pools })
    (record { queue = t.queue_is; loose = t.loose_is; kept = t.kept_is; pools = λ k. refl })
    (homed net l owner status p h a (loose_there net h front l back a e).mine frees)
