-- A lock and its seats as a caller sees them.
use Rattle.std.specs.Prelude.{◌≡◌, ◌≢◌, ℕ, ◌+◌, ◌-◌, ◌<◌, List, [], ◌∷◌, ◌++◌, length, map, All, Contains, Some, Result}
use Rattle.std.specs.List.{AllPairs}
use Rattle.ndis_base.specs.declared.OutOfMemory.{OutOfMemory}
use Rattle.ndis_base.specs.declared.Phase.{Phase}
use Rattle.ndis_base.specs.declared.Front.{Front}
use Rattle.turn_lock.specs.declared.view.Entry.{Entry}
use Rattle.turn_lock.specs.declared.view.Ended.{Ended}
use Rattle.turn_lock.specs.declared.view.View.{View}
use Rattle.turn_lock.specs.declared.seat.SeatAt.{SeatAt}
use Rattle.turn_lock.specs.declared.table.TurnLock.{TurnLock}
use Rattle.turn_lock.specs.History.{entry, longer, phase_after, entries_by, Runs, StartsWith}
use Rattle.turn_lock.specs.Orderly.{ended_seat}

-- what a seat has and knows
pub record Account (C R : Type 0) : Type 0 where
  -- the seat's number
  pub number : ℕ
  -- its parts of the lock
  pub parts : ℕ
  -- how often it has loaded the front
  pub loads : ℕ
  -- a beginning of the lock's history that it has seen
  pub seen : List (Entry C R)
  -- its own calls
  pub own : List (Entry C R)
  -- the seats that were joined into it, with their calls
  pub ended : List (Ended C R)
  -- numbers of other seats that it knows
  pub known : List ℕ

module _ {O C R : Type 0} where
  -- what callers see of all that the table keeps of a seat
  abbrev pub account : View O C R → Account C R
  account v = record { number = v.number; parts = v.parts; loads = v.loads; seen = v.seen; own = v.own; ended = v.ended; known = v.known }

  -- the account of a seat
  abbrev pub account_of : SeatAt O C R → Account C R
  account_of s = account s.place.me.0

module _ {O C R F : Type 0} where
  -- how many parts the lock was made with
  abbrev pub seats_of : TurnLock O C R F → ℕ
  seats_of l = l.table.shared.key.seats

  -- the object that the lock was made with
  abbrev pub opening_of : TurnLock O C R F → O
  opening_of l = l.table.shared.key.object.value

  -- the seat is one of this lock
  pub record IsOf (l : TurnLock O C R F) (s : SeatAt O C R) : Type 0 where
    pub table : s.place.table_id ≡ l.table.shared.table_id
    pub opens : s.place.me.0.opening ≡ Some (opening_of l)

module _ {C R : Type 0} where
  -- the first seat
  abbrev pub first_account : ℕ → Account C R
  first_account seats = record { number = 0; parts = seats; loads = 0; seen = []; own = []; ended = []; known = [] }

  -- a seat after a seat with this number was split off
  abbrev pub after_split : Account C R → ℕ → Account C R
  after_split a n = record a { parts = a.parts - 1; known = a.known ++ n ∷ [] }

  -- a seat with this number that was split off
  abbrev pub newcomer_account : Account C R → ℕ → Account C R
  newcomer_account a n = record { number = n; parts = 1; loads = 0; seen = a.seen; own = []; ended = []; known = a.number ∷ a.known }

  -- a seat that has taken in another: it has the parts of both, has seen the longer of what they saw, and keeps the other's number and calls, with all ended seats that the other kept
  abbrev pub joined : Account C R → Account C R → Account C R
  joined a b = record a { parts = a.parts + b.parts; seen = longer a.seen b.seen; ended = a.ended ++ ended_seat b.number b.own ∷ b.ended; known = a.known ++ b.number ∷ b.known }

  -- the seat's own number, and those of the ended seats that it keeps
  abbrev pub numbers_of : Account C R → List ℕ
  numbers_of a = a.number ∷ map (λ (e : Ended C R). e.number) a.ended

-- no number stands twice
abbrev pub AreApart : List ℕ → Type 0
AreApart ns = AllPairs (λ m n. m ≢ n) ns

module _ {O C R : Type 0} (Stands : O → Entry C R → O → Type 0) where
  -- what was seen leads from the opening object to some object, and the entries with the seat's number are its own calls, in order
  pub record IsHistory (opening : O) (a : Account C R) : Type 0 where
    pub legal : (o : O) × Runs Stands opening a.seen o
    pub mine : entries_by a.number a.seen ≡ a.own

  -- a turn: the seat has now seen all that it had seen, then entries of others, then its own call with its answer. It loaded the front, and all else stays
  pub record Makes (opening : O) (call : C) (reply : Result R OutOfMemory) (old new : Account C R) : Type 0 where
    pub between : List (Entry C R)
    pub phase : Phase
    pub sees : new.seen ≡ (old.seen ++ between) ++ entry old.number call reply phase ∷ []
    pub adds : new.own ≡ old.own ++ entry old.number call reply phase ∷ []
    pub history : IsHistory opening new
    pub loaded : old.loads < new.loads
    pub same : new ≡ record old { seen = new.seen; own = new.own; loads = new.loads }

  -- a look: by one load the seat has seen a history that begins with all that it had seen, the answer is its front, and all else stays
  pub record Sees (phase_of : O → Phase) (opening : O) (front : Front) (old new : Account C R) : Type 0 where
    pub begins : StartsWith new.seen old.seen
    pub counts : front.turns ≡ length new.seen
    pub ends : front.phase ≡ phase_after (phase_of opening) new.seen
    pub history : IsHistory opening new
    pub same : new ≡ record old { seen = new.seen; loads = old.loads + 1 }

  -- a close: the object is the one after a whole history, which begins with all that was seen. Each entry is by the closing seat or by an ended one that it keeps, and these are their calls
  pub record Closes (opening : O) (a : Account C R) (object : O) : Type 0 where
    pub history : List (Entry C R)
    pub legal : Runs Stands opening history object
    pub begins : StartsWith history a.seen
    pub mine : entries_by a.number history ≡ a.own
    pub theirs : All (λ (e : Ended C R). entries_by e.number history ≡ e.calls) a.ended
    pub each : All (λ (e : Entry C R). Contains (numbers_of a) e.by) history
    pub apart : AreApart (numbers_of a)
