-- The rule of the table: words 0 and 1 are the next ticket and the front, and the slot has the object.
use Rattle.std.specs.Prelude.{◌≡◌, ◌⊎◌, ℕ, ◌+◌, ◌-◌, ◌<◌, ◌≤◌, ◌==◌, ◌^◌, Bool, true, false, List, [], ◌∷◌, ◌++◌, length, slice_index, Option, Some, None, if◌then◌else◌}
use mathlib.Core.Option.{some}
use lib.ListN.{get_elem?}
use Rattle.atomic_table.specs.Table.{State}
use Rattle.ndis_base.specs.declared.Phase.{Phase}
use Rattle.turn_lock.specs.declared.view.Entry.{Entry}
use Rattle.turn_lock.specs.declared.view.Role.{Role}
use Rattle.turn_lock.specs.declared.view.Role.TheVariants.{Idle, Waits, Serves}
use Rattle.turn_lock.specs.declared.view.View.{View}
use Rattle.turn_lock.specs.declared.view.Ended.{Ended}
use Rattle.turn_lock.specs.History.{StartsWith, front_word, longer, shorter, phase_after, entries_by, Runs}

-- the first seat has number 0 and every part
abbrev pub first_view : {O C R : Type 0} → O → ℕ → View O C R
first_view o seats = record { live = true; parts = seats; role = Idle; named = true; number = 0; known = []; loads = 0; opening = Some o; seen = []; behind = []; own = []; ended = [] }

module _ {O : Type 0} where
  -- the ticket of a seat that has one
  abbrev pub ticket_of : Role O → ℕ
  ticket_of Idle = 0
  ticket_of (Waits t) = t
  ticket_of (Serves t o) = t

  -- how many tickets the seat has
  abbrev pub tickets_of : Role O → ℕ
  tickets_of Idle = 0
  tickets_of (Waits t) = 1
  tickets_of (Serves t o) = 1

  -- it does not hold the object
  abbrev pub IsQuiet : Role O → Bool
  IsQuiet Idle = true
  IsQuiet (Waits t) = true
  IsQuiet (Serves t o) = false

  -- a ticket is not yet served, and no other seat has it. The object in hand is the one after the history
  abbrev pub FitsRole : (O → Type 0) → ℕ → ℕ → (ℕ → ℕ) → ℕ → Role O → Type 0
  FitsRole Now turns next holder j Idle = Unit {0}
  FitsRole Now turns next holder j (Waits t) = (turns ≤ t) × (t < next) × (holder t ≡ j)
  FitsRole Now turns next holder j (Serves t o) = (turns ≡ t) × (t < next) × (holder t ≡ j) × Now o

module _ {C R : Type 0} where
  -- an ended seat by its parts
  abbrev pub ended_seat : ℕ → List (Entry C R) → Ended C R
  ended_seat n calls = record { number = n; calls = calls }

  -- how often a number stands among ended seats
  abbrev pub times : ℕ → List (Ended C R) → ℕ
  times n [] = 0
  times n (e ∷ es) = (if e.number == n then 1 else 0) + times n es

module _ {O C R : Type 0} where
  -- a seat that a new one was split off
  abbrev pub parent : View O C R → View O C R
  parent v = record v { parts = v.parts - 1 }

  -- a new seat has one part and what was seen, and no number yet
  abbrev pub newcomer : View O C R → View O C R
  newcomer v = record { live = true; parts = 1; role = Idle; named = false; number = 0; known = v.number ∷ v.known; loads = 0; opening = v.opening; seen = v.seen; behind = []; own = []; ended = [] }

  -- a seat that has taken in another
  abbrev pub both : View O C R → View O C R → View O C R
  both v w = record v { parts = v.parts + w.parts; known = v.known ++ w.number ∷ w.known; seen = longer v.seen w.seen; behind = shorter v.seen w.seen; ended = v.ended ++ ended_seat w.number w.own ∷ w.ended }

  -- what is left of a seat that was joined into another
  abbrev pub spent : View O C R
  spent = record { live = false; parts = 0; role = Idle; named = true; number = 0; known = []; loads = 0; opening = None; seen = []; behind = []; own = []; ended = [] }

  -- a note that tells the seat's number
  abbrev pub note : View O C R → View O C R
  note v = record { live = false; parts = 0; role = Idle; named = true; number = 0; known = v.number ∷ []; loads = 0; opening = None; seen = []; behind = []; own = []; ended = [] }

  -- a seat that was told by a note
  abbrev pub told : View O C R → View O C R → View O C R
  told v w = record v { known = v.known ++ w.known }

  -- each of the numbers that the seat knows is one of these
  abbrev pub AllKnown : View O C R → (ℕ → Type 0) → Type 0
  AllKnown v P = (i n : ℕ) → get_elem? v.known i ≡ some n → P n

  -- tickets that are out with the seat
  abbrev pub out : View O C R → ℕ
  out v = tickets_of v.role

  -- a sum over the seats
  abbrev pub total : (View O C R → ℕ) → List (View O C R) → ℕ
  total f [] = 0
  total f (v ∷ vs) = f v + total f vs

  abbrev pub parts_of : View O C R → ℕ
  parts_of v = v.parts

  -- how often the seat keeps the number of an ended seat
  abbrev pub keeps_number : ℕ → View O C R → ℕ
  keeps_number n v = times n v.ended

  -- the number of a seat that was joined into another
  abbrev pub Gone : List (View O C R) → ℕ → Type 0
  Gone views n = (u : View O C R) × (get_elem? views n ≡ some u) × (u.live ≡ false)

  -- a live seat keeps the calls of the seat j
  abbrev pub IsKept : List (View O C R) → ℕ → Type 0
  IsKept views j = (k : ℕ) × (w : View O C R) × (i : ℕ) × (e : Ended C R) × (get_elem? views k ≡ some w) × (w.live ≡ true) × (get_elem? w.ended i ≡ some e) × (e.number ≡ j)

  -- what holds of each seat: its tickets are few, it has seen a beginning of the history, its role fits, and the entries with its number and with those of its ended seats are the calls that it keeps
  pub record Knows (Now : O → Type 0) (opening : O) (history : List (Entry C R)) (next : ℕ) (holder : ℕ → ℕ) (IsGone : ℕ → Type 0) (j : ℕ) (v : View O C R) : Type 0 where
    pub part : out v ≤ v.parts
    pub prefix : StartsWith history v.seen
    pub fell_behind : StartsWith history v.behind
    pub role : FitsRole Now (length history) next holder j v.role
    pub now : IsQuiet v.role ≡ false → v.seen ≡ history
    pub opens : v.live ≡ true → v.opening ≡ Some opening
    pub alive : v.live ≡ true → 0 < v.parts
    pub own : v.live ≡ true → entries_by j history ≡ v.own
    pub named : v.live ≡ true → v.named ≡ true → v.number ≡ j
    pub unnamed : v.live ≡ true → v.named ≡ false → AllKnown v (λ n. n < j)
    pub ended : (i : ℕ) (e : Ended C R) → get_elem? v.ended i ≡ some e → IsGone e.number × (entries_by e.number history ≡ e.calls)

module _ {O C R : Type 0} (Stands : O → Entry C R → O → Type 0) (phase_of : O → Phase) (opening : O) (seats : ℕ) where
  -- the rule: one history leads from the opening object to the one in the slot, word 1 tells its length and last phase, word 0 counts it and the tickets that are out, and each seat knows what it may
  pub record Orderly (s : State (Option O) (View O C R)) : Type 0 where
    pub history : List (Entry C R)
    pub holder : ℕ → ℕ
    pub two : length s.words ≡ 2
    pub one : length s.homes ≡ 1
    pub few : length history ≤ 2 ^ 60
    pub front : slice_index s.words 1 ≡ front_word (length history) (phase_after (phase_of opening) history)
    pub tickets : total out s.views + length history ≡ slice_index s.words 0
    pub whole : total parts_of s.views ≡ seats
    pub seats_few : seats ≤ 65536
    pub each : (j : ℕ) (v : View O C R) → get_elem? s.views j ≡ some v → Knows (λ o. Runs Stands opening history o) opening history (slice_index s.words 0) holder (Gone s.views) j v
    pub kept : (j : ℕ) (u : View O C R) → get_elem? s.views j ≡ some u → u.live ≡ false → IsKept s.views j ⊎ (entries_by j history ≡ [])
    pub once : (n : ℕ) → total (keeps_number n) s.views ≤ 1
    pub made : (j : ℕ) (u : View O C R) → get_elem? s.views j ≡ some u → AllKnown u (λ n. n < length s.views)
    pub legal : (o : O) × Runs Stands opening history o
    pub home : ((j : ℕ) (v : View O C R) → get_elem? s.views j ≡ some v → IsQuiet v.role ≡ true)
        → (o : O) × (get_elem? s.homes 0 ≡ some (some (Some o))) × Runs Stands opening history o
    pub unmade : (by : ℕ) → length s.views ≤ by → entries_by by history ≡ []
