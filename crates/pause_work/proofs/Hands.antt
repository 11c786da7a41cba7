-- What a position has in hand is what the state says that it has.
use Rattle.std.proofs.Common.{◌≡◌, ℕ, Bool, false, List, [], length, map, count_by, sum_by, refl, sym, ap, ◌∙◌, arith}
use Rattle.std.proofs.lemmas.List.{length-map}
use Rattle.ndis_base.specs.declared.ModuleId.{ModuleId}
use Rattle.journal_types.specs.declared.PassWay.TheVariants as way
use Rattle.stack_rules.specs.declared.Thing.{Thing}
use Rattle.stack_rules.specs.declared.Thing.TheVariants as thing
use Rattle.stack_rules.specs.Net.{Net, Modules}
use Rattle.stack_rules.specs.Places.{kept_lists, agenda}
use Rattle.outstanding_laws.specs.Outstanding.{modules_at, in_module, counts_away, is_counted_away, in_hand_at}
use Rattle.agenda_items.specs.declared.Carried.{Carried}
use Rattle.agenda_items.specs.declared.Carried.TheVariants.{List as a_list, Status as a_status, Answer as an_answer}
use Rattle.hand_lemmas.specs.Hands.{Agrees, Seen, see_list, see_status, see_answer, carried, seen, in_hand, in_state}
use Rattle.driver_tray.specs.Away.{counts_there}
use Rattle.book_lemmas.specs.Views.{BookView, HeldView, kept_of, hands_of}
use Rattle.pause_work.specs.declared.floor.Floor.{Floor}
use Rattle.pause_work.specs.Positions.{modules_of, IsAt}
use Rattle.pause_work.specs.Hands.{hand_count, floor_count, all_count}
use Rattle.pause_work.proofs.Sums.{sum_same, count_same, count_map}

-- what something on its way shows counts there
counts_seen : Modules → ℕ → Seen → Bool
counts_seen ms i (see_list c s) = counts_away ms i c.owner s
counts_seen ms i (see_status s) = false
counts_seen ms i (see_answer a) = false

by_queue : (ms : Modules) (i : ℕ) (c : Carried) → counts_there ms i c ≡ counts_seen ms i (carried c)
unfolding counts_seen
by_queue ms i (a_list l way.Down to) = refl
by_queue ms i (a_list l way.Up to) = refl
by_queue ms i (a_list l (way.Done status) to) = refl
by_queue ms i (a_list l (way.Back status) to) = refl
by_queue ms i (a_status s) = refl
by_queue ms i (an_answer a) = refl

by_agenda : (ms : Modules) (i : ℕ) (t : Thing) → is_counted_away ms i t ≡ counts_seen ms i (seen t)
unfolding counts_seen
by_agenda ms i (thing.List l) = refl
by_agenda ms i (thing.Status s) = refl
by_agenda ms i (thing.Answer a) = refl

-- what is on its way
pub away_is : (ms : Modules) (i : ℕ) (queue : List Carried) (things : List Thing) → map carried queue ≡ map seen things → count_by (counts_there ms i) queue ≡ count_by (is_counted_away ms i) things
away_is ms i queue things same =
    count_same (counts_there ms i) (λ c. counts_seen ms i (carried c)) queue (by_queue ms i)
    ∙ count_map carried (counts_seen ms i) queue
    ∙ ap (count_by (counts_seen ms i)) same
    ∙ sym (count_map seen (counts_seen ms i) things)
    ∙ sym (count_same (is_counted_away ms i) (λ t. counts_seen ms i (seen t)) things (by_agenda ms i))

-- what a module owns and keeps
module_is : (net : Net) (queue : List Carried) (held : HeldView) → Agrees net (hands_of queue held []) → (m : ModuleId) → hand_count held m ≡ in_module net m
module_is net queue held a m =
    let kept : length (map in_hand (kept_of held m)) ≡ length (map in_state (kept_lists net m)) = ap length (a.kept_is m) in
    omega (arith, a.counts m, kept, length-map (kept_of held m) in_hand, length-map (kept_lists net m) in_state)

pub position_is : (v : BookView) (i : ℕ) (f : Floor) → Agrees v.tray.net (hands_of v.tray.queue v.held []) → IsAt v.tray.net.modules i f → all_count v i f ≡ in_hand_at v.tray.net i
position_is v i f a at =
    let net : Net = v.tray.net in
    let modules : floor_count v.held f ≡ sum_by (in_module net) (modules_at net i) =
    sum_same (hand_count v.held) (in_module net) (modules_of f) (module_is net v.tray.queue v.held a) ∙ ap (sum_by (in_module net)) at.are in
    let away : count_by (counts_there net.modules i) v.tray.queue ≡ count_by (is_counted_away net.modules i) (agenda net) = away_is net.modules i v.tray.queue (agenda net) a.queue_is in
    omega (arith, modules, away)
