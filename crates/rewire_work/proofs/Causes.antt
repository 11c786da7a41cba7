-- The rules' answers by the cause that refuses.
use Rattle.std.proofs.Common.{◌≡◌, ℕ, ◌==◌, Bool, true, false, cond, Option, Some, None, length, refl}
use Rattle.journal_types.specs.declared.Refusal.{Refusal}
use Rattle.journal_types.specs.declared.Refusal.TheVariants as refusal
use Rattle.ndis_base.specs.declared.Phase.TheVariants as phase
use Rattle.stack_rules.specs.declared.Choice.{Choice}
use Rattle.stack_rules.specs.Net.{Net}
use Rattle.stack_rules.specs.Outcome.{Outcome, refused, max_filters}
use Rattle.stack_rules.specs.Pauses.{live_items}
use Rattle.stack_rules.specs.Rewires.{is_in, is_bad_position, when_attached, inserted, removed, replaced, insert_outcome, remove_outcome, replace_outcome}
use Rattle.stack_rules.specs.Tests.{phase_is_paused}
use Rattle.state_laws.proofs.Events.{when_paused}
use Rattle.rewire_work.specs.Refusals.{quiet_refusal, or_cause, order_refusal, insert_refusal, module_refusal, rewire_refusal, refused_or}

-- what the driver on the shelf chooses
pub attaches : Choice
attaches = record { keeps = false; refuses = false; shelf_empty = false }

pub refuses : Choice
refuses = record { keeps = false; refuses = true; shelf_empty = false }

pub lacks : Choice
lacks = record { keeps = false; refuses = false; shelf_empty = true }

pub taken : (o : Outcome) → when_attached attaches o ≡ o
unfolding attaches
taken o = refl

pub balked : (o : Outcome) → when_attached refuses o ≡ refused refusal.AttachRefused
unfolding refuses
balked o = refl

pub lacking : (o : Outcome) → when_attached lacks o ≡ refused refusal.ShelfEmpty
unfolding lacks
lacking o = refl

insert_by : (a b c d : Bool) (n : ℕ) (o : Outcome)
    → cond a (cond b (cond c (refused refusal.Full) (cond d (refused refusal.BadPosition) o)) (refused (refusal.Busy n))) (refused refusal.NotPaused)
    ≡ refused_or (or_cause (cond a (cond b None (Some (refusal.Busy n))) (Some refusal.NotPaused)) (cond c (Some refusal.Full) (cond d (Some refusal.BadPosition) None))) o
insert_by true true true d n o = refl
insert_by true true false true n o = refl
insert_by true true false false n o = refl
insert_by true false c d n o = refl
insert_by false b c d n o = refl

pub insert_is : (net : Net) (position : ℕ) (choice : Choice) → insert_outcome net position choice ≡ refused_or (insert_refusal net position) (when_attached choice (inserted net position))
insert_is net position choice =
    insert_by (phase_is_paused net.phase) (live_items net == 0) (length net.modules.order == max_filters net.head) (is_bad_position net position) (live_items net) (when_attached choice (inserted net position))

rewire_by : (a b c : Bool) (n : ℕ) (o : Outcome)
    → cond a (cond b (cond c o (refused refusal.NoModule)) (refused (refusal.Busy n))) (refused refusal.NotPaused)
    ≡ refused_or (or_cause (cond a (cond b None (Some (refusal.Busy n))) (Some refusal.NotPaused)) (cond c None (Some refusal.NoModule))) o
rewire_by true true true n o = refl
rewire_by true true false n o = refl
rewire_by true false c n o = refl
rewire_by false b c n o = refl

pub remove_is : (net : Net) (f : ℕ) → remove_outcome net f ≡ refused_or (rewire_refusal net f) (removed net f)
remove_is net f = rewire_by (phase_is_paused net.phase) (live_items net == 0) (is_in f net.modules.order) (live_items net) (removed net f)

pub replace_is : (net : Net) (f : ℕ) (choice : Choice) → replace_outcome net f choice ≡ refused_or (rewire_refusal net f) (when_attached choice (replaced net f))
replace_is net f choice =
    rewire_by (phase_is_paused net.phase) (live_items net == 0) (is_in f net.modules.order) (live_items net) (when_attached choice (replaced net f))

-- where nothing refuses, the stack is Paused, and the order has room for the filter
paused_by : (a b : Bool) (n : ℕ) (other : Option Refusal) → or_cause (cond a (cond b None (Some (refusal.Busy n))) (Some refusal.NotPaused)) other ≡ None → (a ≡ true) × (other ≡ None)
paused_by true true n other e = (refl, e)
paused_by true false n other e = cc
paused_by false b n other e = cc

pub paused_first : (net : Net) (other : Option Refusal) → or_cause (quiet_refusal net) other ≡ None → net.phase ≡ phase.Paused
paused_first net other e = when_paused net.phase (paused_by (phase_is_paused net.phase) (live_items net == 0) (live_items net) other e).0

room_by : (c d : Bool) → cond c (Some refusal.Full) (cond d (Some refusal.BadPosition) None) ≡ None → (c ≡ false) × (d ≡ false)
room_by true d e = cc
room_by false true e = cc
room_by false false e = (refl, refl)

pub has_room : (net : Net) (position : ℕ) → insert_refusal net position ≡ None → ((length net.modules.order == max_filters net.head) ≡ false) × (is_bad_position net position ≡ false)
has_room net position e =
    room_by (length net.modules.order == max_filters net.head) (is_bad_position net position)
    (paused_by (phase_is_paused net.phase) (live_items net == 0) (live_items net) (order_refusal net position) e).1

there_by : (c : Bool) → cond c None (Some refusal.NoModule) ≡ None → c ≡ true
there_by true e = refl
there_by false e = cc

pub is_there : (net : Net) (f : ℕ) → rewire_refusal net f ≡ None → is_in f net.modules.order ≡ true
is_there net f e = there_by (is_in f net.modules.order) (paused_by (phase_is_paused net.phase) (live_items net == 0) (live_items net) (module_refusal net f) e).1
