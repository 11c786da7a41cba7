-- A lent list goes up through the filters that have the receive pair, the lowest first.
use Rattle.std.specs.Prelude.{◌≡◌, ℕ, zero, suc, ◌+◌, ◌≤◌, ◌<◌, ◌*◌, ◌^◌, true, List, [], ◌∷◌, Option, Some, None, IsSome, if◌then◌else◌, length, slice_index}
use Rattle.ndis_base.specs.declared.Direction.TheVariants as direction
use Rattle.ndis_base.specs.declared.ListStatus.{ListStatus}
use Rattle.buffer_pools.specs.Views.{ListView}
use Rattle.stack_rules.specs.Net.{Modules}
use Rattle.stack_rules.specs.Targets.{has_receive}
use Rattle.promise_rules.specs.declared.Called.TheVariants as called
use Rattle.hand_lemmas.specs.Frames.{AreSized}
use Rattle.driver_views.specs.States.{times}
use Rattle.driver_tray.specs.Tray.{TrayView}
use Rattle.book_lemmas.specs.Views.{filter_at, pool_at, seat_of}
use Rattle.lend_work.specs.Visits.{Bench, VisitsAt}

-- the topmost so many filters of the order that have the receive pair, the lowest first
abbrev pub receivers : Modules → ℕ → List ℕ
receivers ms zero = []
receivers ms (suc k) = if has_receive ms (slice_index ms.order k) then slice_index ms.order k ∷ receivers ms k else receivers ms k

-- the list was lent to a filter, which had it go home, or left it as it is, so that it goes further up
pub data AtFilter (f : ℕ) (seats : List (ℕ × ℕ)) (l : ListView) (d : Bench) (went : Option ListStatus) (d' : Bench) (so : Bench → Type 0) : Type 0 where
  ends : (place : ℕ) (status : ListStatus) → seat_of seats f ≡ Some place → went ≡ Some status → VisitsAt f place l d (Some status) d' → AtFilter f seats l d went d' so
  goes_on : (place : ℕ) (mid : Bench) → seat_of seats f ≡ Some place → VisitsAt f place l d None mid → so mid → AtFilter f seats l d went d' so

-- nothing was done
pub record IsPast (d : Bench) (went : Option ListStatus) (d' : Bench) : Type 0 where
  pub same : d' ≡ d
  pub past : went ≡ None

-- it went up through these filters, or as far as one had it go home
abbrev pub Climbs : List (ℕ × ℕ) → ListView → List ℕ → Bench → Option ListStatus → Bench → Type 0
Climbs seats l [] d went d' = IsPast d went d'
Climbs seats l (f ∷ fs) d went d' = AtFilter f seats l d went d' (λ mid. Climbs seats l fs mid went d')

-- a filter's driver has a place and a pool, and is attached
pub record IsServed (seats : List (ℕ × ℕ)) (f : ℕ) (d : Bench) : Type 0 where
  pub place : ℕ
  pub seat : seat_of seats f ≡ Some place
  pub driver : place < length d.filters
  pub pool : place < length d.pools
  pub setup : IsSome (filter_at d.filters (Some place)).setup
  pub bytes : (pool_at d.pools (Some place)).bytes ≡ 1518

-- there is room in the tray for a lent list at so many filters
pub record HasRoomUp (many : ℕ) (t : TrayView) : Type 0 where
  pub rows : many + 4 ≤ t.room.rows
  pub slack : 1 ≤ t.slack
  pub frames : 8 ≤ t.room.frames
  pub bytes : 8 * 1518 ≤ t.room.bytes
  pub low : t.net.next.list < 2 ^ 60
  pub received : t.net.port.received < 2 ^ 60

-- a list may be lent to the topmost so many filters of the order
pub record MayClimb (seats : List (ℕ × ℕ)) (many : ℕ) (l : ListView) (d : Bench) : Type 0 where
  pub within : many ≤ length d.tray.net.modules.order
  pub served : (k : ℕ) → k < many → has_receive d.tray.net.modules (slice_index d.tray.net.modules.order k) ≡ true → IsServed seats (slice_index d.tray.net.modules.order k) d
  pub counts : (place : ℕ) → place < length d.filters → times (filter_at d.filters (Some place)).did.served called.ReceiveLent + many < 2 ^ 62
  pub direction : l.label.direction ≡ direction.Lent
  pub sized : AreSized l.frames
  pub room : HasRoomUp many d.tray
