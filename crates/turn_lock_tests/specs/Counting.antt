-- What turns do to a counter.
use Rattle.std.specs.Prelude.{◌≡◌, ℕ, ◌+◌, Bool, true, List, [], ◌∷◌, Result, Ok, Err}
use Rattle.ndis_base.specs.declared.OutOfMemory.{OutOfMemory}
use Rattle.ndis_base.specs.declared.Phase.TheVariants.{Paused}
use Rattle.turn_lock.specs.declared.view.Entry.{Entry}
use Rattle.turn_lock.specs.declared.seat.SeatAt.{SeatAt}
use Rattle.turn_lock.specs.declared.table.TurnLock.{TurnLock}
use Rattle.turn_lock.specs.Account.{Account, IsOf, account_of, first_account, seats_of}
use Rattle.turn_lock_tests.specs.declared.counter.Counter.{Counter}

-- a step of a counter: it adds so much and is paused, and without memory it stays as it was
abbrev pub Counts : Counter → ℕ → Result ℕ OutOfMemory → Counter → Type 0
Counts before more (Ok count) after = (count ≡ before.count + more) × (after.count ≡ count) × (after.phase ≡ Paused)
Counts before more (Err fault) after = after ≡ before

-- what an answered call of this size adds
abbrev pub amount : ℕ → Result ℕ OutOfMemory → ℕ
amount more (Ok count) = more
amount more (Err fault) = 0

-- what these turns add to the count
abbrev pub added : List (Entry ℕ ℕ) → ℕ
added [] = 0
added (e ∷ es) = amount e.call e.reply + added es

-- one turn of the seat: where it is done, it adds this much
pub record AddsCount (more : ℕ) (done : Bool) (old new : Account ℕ ℕ) : Type 0 where
  pub number : new.number ≡ old.number
  pub parts : new.parts ≡ old.parts
  pub ended : new.ended ≡ old.ended
  pub adds : done ≡ true → added new.own ≡ added old.own + more

-- a new lock of two parts, and its first seat
pub record IsShared (lock : TurnLock Counter ℕ ℕ ℕ) (seat : SeatAt Counter ℕ ℕ) : Type 0 where
  pub of : IsOf lock seat
  pub new : account_of seat ≡ first_account 2
  pub seats : seats_of lock ≡ 2
