-- What each step tells its seat.
use Rattle.std.specs.Prelude.{◌≡◌, true, ◌≢◌, ◌⊎◌, ℕ, ◌+◌, ◌/◌, ◌<◌, ◌≤◌, ◌^◌, List, [], ◌∷◌, ◌++◌, length, Option, Some, Result}
use Rattle.atomic_table.specs.Table.{Me, Step, step}
use mathlib.Core.Option.{none}
use Rattle.ndis_base.specs.declared.OutOfMemory.{OutOfMemory}
use Rattle.ndis_base.specs.declared.Phase.{Phase}
use Rattle.turn_lock.specs.declared.view.Entry.{Entry}
use Rattle.turn_lock.specs.declared.view.Role.{Role}
use Rattle.turn_lock.specs.declared.view.Role.TheVariants.{Idle, Waits, Serves}
use Rattle.turn_lock.specs.declared.view.View.{View}
use Rattle.turn_lock.specs.History.{entry, front_word, phase_after, entries_by, Runs, StartsWith}
use Rattle.turn_lock.specs.Orderly.{AllKnown, ticket_of, times}

-- a play that does not read the step holds of any
abbrev pub no_step : {O : Type 0} → Step (Option O)
no_step = step 0 0 0 0 none

module _ {O C R : Type 0} where
  -- the seat with another role
  abbrev pub with_role : View O C R → Role O → View O C R
  with_role v r = record v { role = r }

  -- the seat after a load of the front that found the history h
  abbrev pub after_load : View O C R → Role O → List (Entry C R) → View O C R
  after_load v r h = record v { role = r; loads = v.loads + 1; seen = h }

  -- the seat after its turn
  abbrev pub after_turn : View O C R → Entry C R → View O C R
  after_turn v e = record v { role = Idle; seen = v.seen ++ e ∷ []; own = v.own ++ e ∷ [] }

  -- the seat has got its number, which is none of those that it knows
  abbrev pub has_number : Step (Option O) → Me (Option O) (View O C R) → ℕ → Me (Option O) (View O C R) → Type 0
  has_number st m n m' = (k : ℕ) × AllKnown m.0 (λ n. n ≢ k) × (m' ≡ (record m.0 { number = k; named = true }, m.1))

  -- no ended seat has the seat's own number, and no two have one
  abbrev pub NoneTwice : View O C R → Type 0
  NoneTwice v = (times v.number v.ended ≡ 0) × ((n : ℕ) → times n v.ended ≤ 1)

  -- both histories of a join begin one
  abbrev pub settled : Step (Option O) → Me (Option O) (View O C R) → ℕ → Me (Option O) (View O C R) → Type 0
  settled st m n m' = (h : List (Entry C R)) × StartsWith h m.0.seen × StartsWith h m.0.behind × NoneTwice m.0 × (m' ≡ m)

  -- a ticket was drawn
  abbrev pub drawn : Step (Option O) → Me (Option O) (View O C R) → ℕ → Me (Option O) (View O C R) → Type 0
  drawn st m n m' = (n < 2 ^ 61) × (m' ≡ (with_role m.0 (Waits n), m.1))

  module _ (Stands : O → Entry C R → O → Type 0) (phase_of : O → Phase) where
    -- the word n is the front of the whole history h, which begins with what was seen
    abbrev pub Finds : View O C R → ℕ → List (Entry C R) → Type 0
    Finds v n h = (o : O) × (v.opening ≡ Some o) × (n ≡ front_word (length h) (phase_after (phase_of o) h)) × (length h ≤ 2 ^ 60) × StartsWith h v.seen × ((z : O) × Runs Stands o h z) × (entries_by v.number h ≡ v.own)

    -- the load of a look
    abbrev pub looked : Step (Option O) → Me (Option O) (View O C R) → ℕ → Me (Option O) (View O C R) → Type 0
    looked st m n m' = (h : List (Entry C R)) × Finds m.0 n h × (m' ≡ (after_load m.0 m.0.role h, m.1))

    -- the load of a seat that waits: the object that is taken is the one after the history
    abbrev pub tried : Step (Option O) → Me (Option O) (View O C R) → ℕ → Me (Option O) (View O C R) → Type 0
    tried st m n m' = (h : List (Entry C R)) × Finds m.0 n h
        × ((n / 8 ≡ ticket_of m.0.role → ticket_of m.0.role < 2 ^ 60 → (x : O) × (m' ≡ (after_load m.0 (Serves (ticket_of m.0.role) x) h, (0, Some x) ∷ m.1)) × ((o : O) × (m.0.opening ≡ Some o) × Runs Stands o h x))
        × (((n / 8 ≢ ticket_of m.0.role) ⊎ (2 ^ 60 ≤ ticket_of m.0.role)) → m' ≡ (after_load m.0 m.0.role h, m.1)))

  -- the entry was added
  abbrev pub served : Option (Entry C R) → Step (Option O) → Me (Option O) (View O C R) → ℕ → Me (Option O) (View O C R) → Type 0
  served said st m n m' = (e : Entry C R) → said ≡ Some e → m' ≡ (after_turn m.0 e, [])

  -- the served ticket is the seat's, and it has the object
  abbrev pub Holds : ℕ → Me (Option O) (View O C R) → Type 0
  Holds t m = (x : O) × (m.0.role ≡ Serves t x) × (m.1 ≡ (0, Some x) ∷ [])

  -- after some loads: no less was seen
  abbrev pub Loaded : View O C R → Me (Option O) (View O C R) → Type 0
  Loaded v m = (l : ℕ) × (h : List (Entry C R)) × (v.loads ≤ l) × StartsWith h v.seen × (m ≡ (record v { loads = l; seen = h }, []))

  module _ (Stands : O → Entry C R → O → Type 0) where
    -- after more loads, the ticket t is served and the object is taken
    abbrev pub Takes : ℕ → View O C R → Me (Option O) (View O C R) → Type 0
    Takes t v m' = (l : ℕ) × (h : List (Entry C R)) × (x : O) × (o : O) × (v.loads < l) × StartsWith h v.seen × (v.opening ≡ Some o) × Runs Stands o h x
        × (entries_by v.number h ≡ v.own) × (length h ≡ t) × (t < 2 ^ 60) × (m' ≡ (record v { role = Serves t x; loads = l; seen = h }, (0, Some x) ∷ []))

    -- the call was made, the object is back in the slot, and the front is to be stored
    abbrev pub IsReady : Option (Entry C R) → ℕ → Me (Option O) (View O C R) → Type 0
    IsReady said front m = (t : ℕ) × (o : O) × (x : O) × (e : Entry C R) × (m.0.role ≡ Serves t o) × (m.1 ≡ (0, Some x) ∷ []) × (said ≡ Some e) × (e.by ≡ m.0.number)
        × Stands o e x × (t < 2 ^ 60) × (front ≡ front_word (t + 1) e.phase)

    -- the call is made on the object that is taken
    abbrev pub Serves_call : ℕ → C → Result R OutOfMemory → View O C R → Me (Option O) (View O C R) → Type 0
    Serves_call t call reply v m' = (o : O) × (z : O) × (phase : Phase) × (v.role ≡ Serves t o) × Stands o (entry v.number call reply phase) z × (m' ≡ (after_turn v (entry v.number call reply phase), []))
