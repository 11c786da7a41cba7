-- Protocols that log what is delivered to them.
use Rattle.std.specs.Prelude.{◌≡◌, ◌≢◌, [], List, Bool, false, None}
use Rattle.ndis_base.specs.declared.Direction.TheVariants as direction
use Rattle.ndis_base.specs.declared.ProtocolKind.{ProtocolKind}
use Rattle.buffer_pools.specs.Views.{ListView, live_count}
use Rattle.driver_views.specs.declared.Served.{Served}
use Rattle.driver_views.specs.States.{ProtocolState, not_called}
use Rattle.driver_tray.specs.Tray.{TrayView, Starts}
use Rattle.driver_log.specs.Log.{LogView}

-- what a protocol shows
abbrev pub protocol_of : ProtocolKind → Bool → List ListView → Served → LogView → ProtocolState
protocol_of kind is_open kept served log = record { kind = kind; is_open = is_open; kept = kept; did = record { served = served; log = log.entries } }

-- a protocol that is bound to no adapter and was never called
abbrev pub new_protocol : ProtocolKind → ProtocolState
new_protocol kind = record { kind = kind; is_open = false; kept = []; did = record { served = not_called; log = [] } }

-- the same frames are sent, where the pool isn't full
pub data Answers (l : ListView) (t t' : TrayView) : Type 0 where
  lacks : live_count t.pool ≡ t.pool.size → t' ≡ t → Answers l t t'
  answers : live_count t.pool ≢ t.pool.size → Starts t direction.Down None l.frames t' → Answers l t t'
