-- What a stack and its drivers have in hand: what is on its way, in the order in which it is worked; the
-- lists that were issued in this turn and stand nowhere yet; the lists that each module keeps, the oldest
-- first; and each module's pool. It agrees with the things of the state, whatever the event.
use Rattle.std.specs.Prelude.{◌≡◌, ℕ, ◌==◌, ◌||◌, not, Bool, true, false, List, [], ◌∷◌, ◌++◌, Option, Some, None, map, filter, All, if◌then◌else◌}
use Rattle.ndis_base.specs.declared.ListNo.{ListNo}
use Rattle.ndis_base.specs.declared.ModuleId.{ModuleId}
use Rattle.ndis_base.specs.declared.Direction.{Direction}
use Rattle.ndis_base.specs.declared.Origin.{Origin}
use Rattle.ndis_base.specs.declared.OidNo.{OidNo}
use Rattle.ndis_base.specs.declared.OidStatus.{OidStatus}
use Rattle.stack_rules.specs.declared.Request.{Request}
use Rattle.buffer_pools.specs.Views.{ListView, PoolView, IsOf, live_count}
use Rattle.agenda_items.specs.declared.Carried.{Carried}
use Rattle.agenda_items.specs.declared.Carried.TheVariants.{List as a_list, Status as a_status, Answer as an_answer}
use Rattle.stack_rules.specs.declared.Stand.{Stand}
use Rattle.stack_rules.specs.declared.Stand.TheVariants as stand
use Rattle.stack_rules.specs.declared.LiveList.{LiveList}
use Rattle.stack_rules.specs.declared.StatusAway.{StatusAway}
use Rattle.stack_rules.specs.declared.Answered.{Answered}
use Rattle.stack_rules.specs.declared.Thing.{Thing}
use Rattle.stack_rules.specs.declared.Thing.TheVariants as thing
use Rattle.stack_rules.specs.Tests.{same_module}
use Rattle.stack_rules.specs.Net.{Net, lists, list_of}
use Rattle.stack_rules.specs.Places.{is_crossed, has_clone, agenda, kept_lists, owned}
use Rattle.rule_basics.specs.Numbers.{IsNumbered}
use Rattle.agenda_items.specs.Views.{carries_status, carries_answer}
use Rattle.agenda_items.specs.Waits.{waits_at}

-- what a list in hand and a live list have in common
pub record Common : Type 0 where
  pub list : ListNo
  pub owner : ModuleId
  pub direction : Direction
  pub cancel : Option ℕ
  pub origin : Origin
  pub frames : List (List ℕ)

-- that of a list in hand
abbrev pub in_hand : ListView → Common
in_hand l = record { list = l.label.number; owner = l.label.owner; direction = l.label.direction; cancel = l.label.cancel; origin = l.label.origin; frames = l.frames }

-- that of a live list
abbrev pub in_state : LiveList → Common
in_state l = record { list = l.list; owner = l.owner; direction = l.direction; cancel = l.cancel; origin = l.origin; frames = l.frames }

-- what both sides show of something on its way; of a list also which way it is passed and to where
pub data Seen : Type 0 where
  see_list : Common → Stand → Seen
  see_status : StatusAway → Seen
  see_answer : Answered → Seen

-- what something on its way shows, in hand
abbrev pub carried : Carried → Seen
carried (a_list l way to) = see_list (in_hand l) (stand.Passed way to)
carried (a_status s) = see_status s
carried (an_answer a) = see_answer a

-- what it shows, in the state
abbrev pub seen : Thing → Seen
seen (thing.List l) = see_list (in_state l) l.stand
seen (thing.Status s) = see_status s
seen (thing.Answer a) = see_answer a

-- issued in this turn and not yet kept or passed
abbrev pub is_loose : Stand → Bool
is_loose stand.Unplaced = true
is_loose _ = false

-- the live lists that stand nowhere yet
abbrev pub loose_lists : Net → List LiveList
loose_lists net = filter (λ l. is_loose l.stand) (lists net.things)

-- all that is in hand
pub record Hands : Type 0 where
  pub queue : List Carried
  pub loose : List ListView
  pub kept : ModuleId → List ListView
  pub pools : ModuleId → PoolView

-- a list is a live list of its owner's pool
abbrev pub IsHoused : (ModuleId → PoolView) → ListView → Type 0
IsHoused pools l = IsOf (pools l.label.owner) l

-- so is a list that is on its way; statuses and answers are of no pool
abbrev pub IsCarriedHome : (ModuleId → PoolView) → Carried → Type 0
IsCarriedHome pools (a_list l way to) = IsHoused pools l
IsCarriedHome pools (a_status s) = Unit {0}
IsCarriedHome pools (an_answer a) = Unit {0}

-- the hands agree with the state: what is on its way is the agenda, what each module keeps is what the state
-- says that it keeps, each list is of its owner's pool, and each pool has as many live lists as its module owns
pub record Agrees (net : Net) (h : Hands) : Type 0 where
  pub queue_is : map carried h.queue ≡ map seen (agenda net)
  pub loose_is : map in_hand h.loose ≡ map in_state (loose_lists net)
  pub kept_is : (m : ModuleId) → map in_hand (h.kept m) ≡ map in_state (kept_lists net m)
  pub numbered : IsNumbered net
  pub queue_housed : All (IsCarriedHome h.pools) h.queue
  pub loose_housed : All (IsHoused h.pools) h.loose
  pub kept_housed : (m : ModuleId) → All (IsHoused h.pools) (h.kept m)
  pub counts : (m : ModuleId) → live_count (h.pools m) ≡ owned net m

-- Changes of what is in hand, one for each thing that rows do.

-- the lists but the one of this number
abbrev pub out : ℕ → List ListView → List ListView
out n ls = filter (λ l. not (l.label.number.0 == n)) ls

-- the list of this number
abbrev pub carries : ℕ → Carried → Bool
carries n (a_list l way to) = l.label.number.0 == n
carries n (a_status s) = false
carries n (an_answer a) = false

-- the list of this number is taken from where it is
abbrev pub taken : ℕ → Hands → Hands
taken n h = record h { queue = filter (λ c. not (carries n c)) h.queue; loose = out n h.loose; kept = λ m. out n (h.kept m) }

-- one more thing is on its way
abbrev pub queued : Carried → Hands → Hands
queued c h = record h { queue = h.queue ++ c ∷ [] }

-- one more list was issued
abbrev pub loosed : ListView → Hands → Hands
loosed l h = record h { loose = h.loose ++ l ∷ [] }

-- a function that differs at one module
abbrev pub put_at : {X : Type 0} → ModuleId → X → (ModuleId → X) → ModuleId → X
put_at m x f k = if same_module k m then x else f k

-- a module keeps one more list
abbrev pub kept_at : ModuleId → ListView → Hands → Hands
kept_at m l h = record h { kept = put_at m (h.kept m ++ l ∷ []) h.kept }

-- a module has another pool
abbrev pub pooled : ModuleId → PoolView → Hands → Hands
pooled m p h = record h { pools = put_at m p h.pools }

-- the status of this number is no longer on its way
abbrev pub without_status : ℕ → Hands → Hands
without_status n h = record h { queue = filter (λ c. not (carries_status n c)) h.queue }

-- the answer to this request is no longer on its way
abbrev pub without_answer : ℕ → Hands → Hands
without_answer parent h = record h { queue = filter (λ c. not (carries_answer parent c)) h.queue }

-- a live list is in hand
pub record IsMine (net : Net) (h : Hands) (l : ListView) : Type 0 where
  pub x : LiveList
  pub live : list_of l.label.number.0 (lists net.things) ≡ Some x
  pub same : in_state x ≡ in_hand l
  pub housed : IsHoused h.pools l

-- a request that is done gives up its answered clone's answer, and is its own parent's answer where it has one
abbrev pub answered_to : Option OidNo → OidNo → OidStatus → List ℕ → Hands → Hands
answered_to None request status value h = h
answered_to (Some parent) request status value h = queued (an_answer (record { request = request; parent = parent; status = status; value = value })) h

-- what is in hand once a request is done
abbrev pub request_done : Option Request → OidNo → OidStatus → List ℕ → Hands → Hands
request_done None request status value h = h
request_done (Some r) request status value h = answered_to r.parent request status value (without_answer request.0 h)

-- the same in hand, module by module
pub record IsSame (h k : Hands) : Type 0 where
  pub queue : h.queue ≡ k.queue
  pub loose : h.loose ≡ k.loose
  pub kept : (m : ModuleId) → h.kept m ≡ k.kept m
  pub pools : (m : ModuleId) → h.pools m ≡ k.pools m

-- the lists that a module keeps ready, in hand
abbrev pub ready_of : Net → Hands → ModuleId → List ListView
ready_of net h m = filter (λ l. not (waits_at net l.label.number.0)) (h.kept m)
