-- The protocol of a binding gives back a list that it keeps.
use Rattle.std.specs.Prelude.{◌≡◌, ℕ, Bool}
use Rattle.ndis_base.specs.declared.ModuleId.TheVariants.{Binding}
use Rattle.buffer_pools.specs.Views.{PoolView}
use Rattle.driver_views.specs.States.{ProtocolState}
use Rattle.driver_tray.specs.Tray.{TrayView}
use Rattle.driver_calls.specs.Protocols.{IsGivenBack}
use Rattle.binding_work.specs.Sends.{called_with}

-- the protocol did so with its pool in the tray, and the pool is out again; it is told whether it kept the list
pub record Returns (binding number : ℕ) (s : ProtocolState) (t : TrayView) (pool : PoolView) (kept : Bool) (s' : ProtocolState) (t' : TrayView) (pool' : PoolView) : Type 0 where
  pub mid : TrayView
  pub gives : IsGivenBack s number (called_with t (Binding binding) pool) kept s' mid
  pub tray : t' ≡ record mid { pool = t.pool }
  pub pool_is : pool' ≡ mid.pool
