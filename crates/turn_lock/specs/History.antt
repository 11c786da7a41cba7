-- The history of a lock: the entries of its turns, and how they lead from its first object to a later one.
use Rattle.std.specs.Prelude.{◌≡◌, ℕ, ◌+◌, ◌*◌, nat_lt, ◌==◌, List, [], ◌∷◌, ◌++◌, length, Result, if◌then◌else◌}
use Rattle.ndis_base.specs.declared.OutOfMemory.{OutOfMemory}
use Rattle.ndis_base.specs.declared.Phase.{Phase}
use Rattle.ndis_base.specs.declared.Phase.TheVariants.{Halted, Paused, Restarting, Running, Pausing}
use Rattle.turn_lock.specs.declared.view.Entry.{Entry}

-- the number of a phase, from 0 in the order of the enum
abbrev pub phase_number : Phase → ℕ
phase_number Halted = 0
phase_number Paused = 1
phase_number Restarting = 2
phase_number Running = 3
phase_number Pausing = 4

-- the phase with a number
abbrev pub phase_numbered : ℕ → Phase
phase_numbered n = if n == 0 then Halted else if n == 1 then Paused else if n == 2 then Restarting else if n == 3 then Running else Pausing

-- the word of a front
abbrev pub front_word : ℕ → Phase → ℕ
front_word turns phase = turns * 8 + phase_number phase

-- ys begins with xs
abbrev pub StartsWith : {A : Type 0} → List A → List A → Type 0
StartsWith {A = A} ys xs = (rest : List A) × (ys ≡ xs ++ rest)

module _ {C R : Type 0} where
  -- an entry by its parts
  abbrev pub entry : ℕ → C → Result R OutOfMemory → Phase → Entry C R
  entry by call reply phase = record { by = by; call = call; reply = reply; phase = phase }

  -- the longer of two histories
  abbrev pub longer : List (Entry C R) → List (Entry C R) → List (Entry C R)
  longer xs ys = if nat_lt (length xs) (length ys) then ys else xs

  -- the shorter of two histories
  abbrev pub shorter : List (Entry C R) → List (Entry C R) → List (Entry C R)
  shorter xs ys = if nat_lt (length xs) (length ys) then xs else ys

  -- the phase after these entries, where it was p before them
  abbrev pub phase_after : Phase → List (Entry C R) → Phase
  phase_after p [] = p
  phase_after p (e ∷ es) = phase_after e.phase es

  -- the entries with one number
  abbrev pub entries_by : ℕ → List (Entry C R) → List (Entry C R)
  entries_by by [] = []
  entries_by by (e ∷ es) = if e.by == by then e ∷ entries_by by es else entries_by by es

module _ {O C R F : Type 0} (fixed : O → F) (steps : O → C → Result R OutOfMemory → O → Type 0) (phase_of : O → Phase) where
  -- an entry stands by one step: the object makes it with the entry's call and answer, keeps its fixed part, and then has the entry's phase
  pub record ByStep (before : O) (turn : Entry C R) (after : O) : Type 0 where
    pub stepped : steps before turn.call turn.reply after
    pub same : fixed after ≡ fixed before
    pub ends : phase_of after ≡ turn.phase

module _ {O C R : Type 0} (Stands : O → Entry C R → O → Type 0) where
  -- these entries lead from the first object to the last, each standing as Stands says
  abbrev pub Runs : O → List (Entry C R) → O → Type 0
  Runs a [] z = a ≡ z
  Runs a (e ∷ es) z = (b : O) × Stands a e b × Runs b es z
