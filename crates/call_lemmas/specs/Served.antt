-- What the driver that is called counts and logs.
use Rattle.std.specs.Prelude.{◌≡◌, ℕ, ◌+◌, List, [], ◌∷◌, ◌++◌, count_by}
use Rattle.ndis_base.specs.declared.ModuleId.{ModuleId}
use Rattle.promise_rules.specs.declared.Call.{Call}
use Rattle.promise_rules.specs.declared.Called.{Called}
use Rattle.promise_rules.specs.Calls.{is_call_of}
use Rattle.driver_views.specs.States.{Record, times}

-- the calls are all of one module
abbrev pub AreCallsOf : ModuleId → List Call → Type 0
AreCallsOf m [] = Unit {0}
AreCallsOf m (c ∷ calls) = (c.module_id ≡ m) × AreCallsOf m calls

-- its driver counted them and logged this, and nothing else
pub record Counts (m : ModuleId) (calls : List Call) (log : List (List (List ℕ))) (old new : Record) : Type 0 where
  pub counted : (what : Called) → times new.served what ≡ times old.served what + count_by (is_call_of m what) calls
  pub logged : new.log ≡ old.log ++ log
