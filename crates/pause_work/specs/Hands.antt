-- What of a module and of a position is in hand.
use Rattle.std.specs.Prelude.{◌≡◌, ℕ, ◌+◌, Option, IfSome, length, count_by, sum_by}
use Rattle.ndis_base.specs.declared.ModuleId.{ModuleId}
use Rattle.buffer_pools.specs.Views.{live_count}
use Rattle.driver_tray.specs.Away.{counts_there}
use Rattle.book_lemmas.specs.Views.{BookView, HeldView, held_pool, kept_of}
use Rattle.pause_work.specs.declared.floor.Floor.{Floor}
use Rattle.pause_work.specs.Positions.{modules_of}

-- the live lists of a module's pool, and the lists that it keeps
abbrev pub hand_count : HeldView → ModuleId → ℕ
hand_count held m = live_count (held_pool held m) + length (kept_of held m)

-- those of a position's modules
abbrev pub floor_count : HeldView → Floor → ℕ
floor_count held f = sum_by (hand_count held) (modules_of f)

-- and with them what else on its way counts there
abbrev pub all_count : BookView → ℕ → Floor → ℕ
all_count v i f = floor_count v.held f + count_by (counts_there v.tray.net.modules i) v.tray.queue

-- it is so many, where 64 bits hold the count
abbrev pub Counts : Option ℕ → ℕ → Type 0
Counts r n = IfSome r (λ count. count ≡ n)
