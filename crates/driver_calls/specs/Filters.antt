-- What a filter does when it is called, in hand (WDK, "Sending Data from a Filter Driver", "Receiving Data in a Filter
-- Driver", "Canceling a Send Request in a Filter Driver").
use Rattle.std.specs.Prelude.{◌≡◌, ◌≢◌, ℕ, ◌==◌, ◌<◌, ◌≤◌, ◌^◌, ◌&&◌, not, Bool, true, false, List, [], ◌∷◌, ◌++◌, Option, Some, None, IsSome, find, filter, length, if◌then◌else◌}
use Rattle.ndis_base.specs.declared.Direction.{Direction}
use Rattle.ndis_base.specs.declared.ListStatus.{ListStatus}
use Rattle.ndis_base.specs.declared.ListStatus.TheVariants.{Dropped, Resources, Aborted}
use Rattle.ndis_base.specs.declared.Origin.{Origin}
use Rattle.ndis_base.specs.declared.Origin.TheVariants as origin
use Rattle.ndis_base.specs.declared.OidNo.{OidNo}
use Rattle.ndis_base.specs.declared.OidStatus.{OidStatus}
use Rattle.ndis_base.specs.declared.StatusName.{StatusName}
use Rattle.ndis_base.specs.declared.StatusNo.{StatusNo}
use Rattle.program_types.specs.Apply.{applied}
use Rattle.journal_types.specs.declared.Setup.{Setup}
use Rattle.buffer_pools.specs.Views.{ListView, PoolView, IsOf, Issues, Frees, live_count}
use Rattle.stack_rules.specs.declared.Request.{Request}
use Rattle.stack_rules.specs.Net.{Net}
use Rattle.stack_rules.specs.Tests.{is_down, is_hold, same_frames, same_number}
use Rattle.stack_rules.specs.Outcome.{max_frame}
use Rattle.stack_rules.specs.Handled.{program}
use Rattle.promise_rules.specs.declared.Called.{Called}
use Rattle.promise_rules.specs.declared.Called.TheVariants as called
use Rattle.agenda_items.specs.Waits.{waits_at}
use Rattle.hand_lemmas.specs.Frames.{AreSized}
use Rattle.driver_views.specs.States.{FilterState, IsRisen, called_for}
use Rattle.driver_tray.specs.Tray.{TrayView, turned_back, passed_on, passed_back, noted, clone_label, cloned_on, spent, each_turned_back, each_passed_on, Copies, indicated, forwarded, completed}
use Rattle.driver_calls.specs.declared.fates.LentFate.{LentFate}
use Rattle.driver_calls.specs.declared.fates.LentFate.TheVariants as fate
use Rattle.driver_calls.specs.Rooms.{CanCount, HasRoomFor, HasRoomForNew, HasRoomForAll}

-- a list may be given to it
pub record MayHandle (what : Called) (d : Direction) (s : FilterState) (l : ListView) (t : TrayView) : Type 0 where
  pub setup : IsSome s.setup
  pub count : CanCount what s.did.served
  pub direction : l.label.direction ≡ d
  pub sized : AreSized l.frames
  pub pool : t.pool.bytes ≡ 1518
  pub room : HasRoomForNew 3 1 t

-- what its program makes of the frames
abbrev pub made_by : Setup → ListView → TrayView → Option (List (List ℕ))
made_by p l t = applied (max_frame t.head) (program p l.label.direction) l.frames

-- it turns the list back with Dropped where its program leaves no frames, passes it on where they are the same (or keeps
-- it, if it is a hold filter), and else passes a clone on and keeps the list, or turns it back where its pool has no list
pub data Handles (s : FilterState) (p : Setup) (l : ListView) (t : TrayView) (kept' : List ListView) (t' : TrayView) : Type 0 where
  drops : made_by p l t ≡ None → kept' ≡ s.kept → t' ≡ turned_back t l Dropped → Handles s p l t kept' t'
  passes : (frames : List (List ℕ)) → made_by p l t ≡ Some frames → same_frames frames l.frames ≡ true
      → kept' ≡ s.kept → t' ≡ passed_on t l → Handles s p l t kept' t'
  holds : (frames : List (List ℕ)) → made_by p l t ≡ Some frames → same_frames frames l.frames ≡ true → is_hold s.kind ≡ true
      → kept' ≡ s.kept ++ l ∷ [] → t' ≡ noted t l.label.number → Handles s p l t kept' t'
  lacks : (frames : List (List ℕ)) → made_by p l t ≡ Some frames → same_frames frames l.frames ≡ false → live_count t.pool ≡ t.pool.size
      → kept' ≡ s.kept → t' ≡ turned_back t l Resources → Handles s p l t kept' t'
  clones : (frames : List (List ℕ)) (c : ListView) (pool : PoolView) → made_by p l t ≡ Some frames → same_frames frames l.frames ≡ false → live_count t.pool ≢ t.pool.size
      → c.label ≡ clone_label t l → c.frames ≡ frames → AreSized frames → Issues t.pool c pool
      → kept' ≡ s.kept ++ l ∷ [] → t' ≡ cloned_on t l c pool → Handles s p l t kept' t'

-- it counts the call, and nothing else changes but its kept lists
pub record IsHandled (what : Called) (s : FilterState) (l : ListView) (t : TrayView) (s' : FilterState) (t' : TrayView) : Type 0 where
  pub same : s' ≡ record s { did = called_for what s.did; kept = s'.kept }
  pub by : (p : Setup) → s.setup ≡ Some p → Handles s p l t s'.kept t'

-- a list on its way home may be given to it: one of its own is a live one of the pool in the tray
pub record MayComplete (what : Called) (d : Direction) (s : FilterState) (l : ListView) (t : TrayView) : Type 0 where
  pub setup : IsSome s.setup
  pub count : CanCount what s.did.served
  pub direction : l.label.direction ≡ d
  pub own : l.label.owner ≡ t.caller → IsOf t.pool l
  pub room : HasRoomFor 2 1 t

-- the kept list whose clone a list is
abbrev pub original_of : Origin → List ListView → Option ListView
original_of origin.Root kept = None
original_of (origin.Clone o) kept = find (λ k. k.label.number.0 == o.0) kept
original_of (origin.Copy o) kept = None

-- the kept lists but the first one of this number
abbrev pub without_first : ℕ → List ListView → List ListView
without_first n [] = []
without_first n (k ∷ kept) = if k.label.number.0 == n then kept else k ∷ without_first n kept

-- it passes a list of another owner on homewards; its own clone is home, and the original goes homewards with the clone's
-- status; a list of its own of which it keeps no original is home alone
pub data Completes (s : FilterState) (l : ListView) (status : ListStatus) (t : TrayView) (kept' : List ListView) (t' : TrayView) : Type 0 where
  passes_back : l.label.owner ≢ t.caller → kept' ≡ s.kept → t' ≡ passed_back t l status → Completes s l status t kept' t'
  releases : (o : ListView) (pool : PoolView) → l.label.owner ≡ t.caller → original_of l.label.origin s.kept ≡ Some o → Frees t.pool l pool
      → kept' ≡ without_first o.label.number.0 s.kept → t' ≡ passed_back (spent t l status pool) o status → Completes s l status t kept' t'
  homes : (pool : PoolView) → l.label.owner ≡ t.caller → original_of l.label.origin s.kept ≡ None → Frees t.pool l pool
      → kept' ≡ s.kept → t' ≡ spent t l status pool → Completes s l status t kept' t'

-- it counts the call, and nothing else changes but its kept lists
pub record IsCompleted (what : Called) (s : FilterState) (l : ListView) (status : ListStatus) (t : TrayView) (s' : FilterState) (t' : TrayView) : Type 0 where
  pub same : s' ≡ record s { did = called_for what s.did; kept = s'.kept }
  pub by : IsSome s.setup → Completes s l status t s'.kept t'

-- the lists that a module keeps and doesn't wait for
abbrev pub is_ready : Net → ListView → Bool
is_ready net l = not (waits_at net l.label.number.0)

-- a ready send that carries the identifier
abbrev pub is_cancelled : Net → ℕ → ListView → Bool
is_cancelled net id l = is_ready net l && (is_down l.label.direction && same_number l.label.cancel (Some id))

-- the ready sends with the identifier are turned back with Aborted, the oldest first; any module that queues sends
pub record Cancels (kept : List ListView) (id : ℕ) (t : TrayView) (kept' : List ListView) (t' : TrayView) : Type 0 where
  pub kept_are : kept' ≡ filter (λ l. not (is_cancelled t.net id l)) kept
  pub tray : t' ≡ each_turned_back t (filter (is_cancelled t.net id) kept) Aborted

-- a filter may be asked to cancel or to give away what it keeps
pub record MayGiveAll (s : FilterState) (t : TrayView) : Type 0 where
  pub setup : IsSome s.setup
  pub room : HasRoomForAll s.kept t

-- no call is counted; a hold filter turns back, any other filter does nothing
pub record IsCancelled (s : FilterState) (id : ℕ) (t : TrayView) (s' : FilterState) (t' : TrayView) : Type 0 where
  pub same : s' ≡ record s { kept = s'.kept }
  pub holds : is_hold s.kind ≡ true → Cancels s.kept id t s'.kept t'
  pub other : is_hold s.kind ≡ false → (s' ≡ s) × (t' ≡ t)

-- a drain: a hold filter passes on all ready lists that it keeps, the oldest first; any other filter does nothing
pub record PassesAll (kept : List ListView) (t : TrayView) (kept' : List ListView) (t' : TrayView) : Type 0 where
  pub kept_are : kept' ≡ filter (λ l. not (is_ready t.net l)) kept
  pub tray : t' ≡ each_passed_on t (filter (is_ready t.net) kept)

pub record IsDrained (s : FilterState) (t : TrayView) (s' : FilterState) (t' : TrayView) : Type 0 where
  pub same : s' ≡ record s { kept = s'.kept }
  pub holds : is_hold s.kind ≡ true → PassesAll s.kept t s'.kept t'
  pub other : is_hold s.kind ≡ false → (s' ≡ s) × (t' ≡ t)

-- it refused and counted that; a count at its last value stays
pub record Refuses (s s' : FilterState) : Type 0 where
  pub same : s' ≡ record s { refusals = s'.refusals }
  pub rose : IsRisen s.refusals s'.refusals

-- the driver may be attached: it rests, detached, and keeps nothing
pub record MayAttach (s : FilterState) : Type 0 where
  pub setup : s.setup ≡ None
  pub kept : s.kept ≡ []

-- it leaves a list that is lent to it as it is where its program does, and else passes a copy on, unless no frames are
-- left or its pool has no list
pub data HandlesLent (p : Setup) (l : ListView) (t : TrayView) (t' : TrayView) : LentFate → Type 0 where
  leaves : (frames : List (List ℕ)) → made_by p l t ≡ Some frames → same_frames frames l.frames ≡ true → t' ≡ t → HandlesLent p l t t' fate.Left
  drops : made_by p l t ≡ None → t' ≡ t → HandlesLent p l t t' fate.Dropped
  lacks : (frames : List (List ℕ)) → made_by p l t ≡ Some frames → same_frames frames l.frames ≡ false → live_count t.pool ≡ t.pool.size → t' ≡ t
      → HandlesLent p l t t' fate.Lacking
  copies : (frames : List (List ℕ)) → made_by p l t ≡ Some frames → same_frames frames l.frames ≡ false → live_count t.pool ≢ t.pool.size
      → AreSized frames → Copies t l frames t' → HandlesLent p l t t' fate.Copied

-- it counts the call, and nothing else of it changes
pub record IsLentTo (s : FilterState) (l : ListView) (t : TrayView) (became : LentFate) (s' : FilterState) (t' : TrayView) : Type 0 where
  pub same : s' ≡ record s { did = called_for called.ReceiveLent s.did }
  pub by : (p : Setup) → s.setup ≡ Some p → HandlesLent p l t t' became

-- a status may come to it
pub record MaySee (s : FilterState) (t : TrayView) : Type 0 where
  pub setup : IsSome s.setup
  pub count : CanCount called.Status s.did.served
  pub room : HasRoomFor 1 1 t
  pub low : t.net.next.status < 2 ^ 60

-- it counts the call and indicates the status further up (WDK, "Filter Module Status Indications")
pub record IsSeenBy (s : FilterState) (number : StatusNo) (name : StatusName) (t : TrayView) (s' : FilterState) (t' : TrayView) : Type 0 where
  pub same : s' ≡ record s { did = called_for called.Status s.did }
  pub tray : t' ≡ indicated t number name

-- room for a row of a request with its value, and for one more answer
pub record HasRoomForValue (value : List ℕ) (t : TrayView) : Type 0 where
  pub room : HasRoomFor 1 1 t
  pub frame_room : 1 ≤ t.room.frames
  pub byte_room : length value ≤ t.room.bytes

-- a request may be given to it
pub record MayForward (s : FilterState) (r : Request) (t : TrayView) : Type 0 where
  pub setup : IsSome s.setup
  pub count : CanCount called.Oid s.did.served
  pub room : HasRoomForValue r.value t
  pub low : t.net.next.request < 2 ^ 60

-- it counts the call and forwards the request by a clone (WDK, "Filter Module OID Requests")
pub record IsForwarded (s : FilterState) (r : Request) (t : TrayView) (s' : FilterState) (t' : TrayView) : Type 0 where
  pub same : s' ≡ record s { did = called_for called.Oid s.did }
  pub tray : t' ≡ forwarded t r

-- the clone of a request that was given to it may be told done
pub record MayFinish (s : FilterState) (value : List ℕ) (t : TrayView) : Type 0 where
  pub setup : IsSome s.setup
  pub count : CanCount called.OidComplete s.did.served
  pub room : HasRoomForValue value t

-- it counts the call and completes the request with the clone's status and value
pub record IsFinished (s : FilterState) (request : OidNo) (status : OidStatus) (value : List ℕ) (t : TrayView) (s' : FilterState) (t' : TrayView) : Type 0 where
  pub same : s' ≡ record s { did = called_for called.OidComplete s.did }
  pub tray : t' ≡ completed t request status value
