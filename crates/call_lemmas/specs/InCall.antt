-- While a module is called: what the tray and the module have in hand, with what the others have, agrees with the state,
-- and the rows so far are those of the call.
use Rattle.std.specs.Prelude.{◌≡◌, ℕ, false, List, [], ◌++◌, All}
use Rattle.ndis_base.specs.declared.ModuleId.{ModuleId}
use Rattle.journal_types.specs.declared.Row.{Row}
use Rattle.buffer_pools.specs.Views.{ListView}
use Rattle.stack_rules.specs.Net.{Net, after_rows}
use Rattle.promise_rules.specs.declared.Call.{Call}
use Rattle.agenda_items.specs.declared.Carried.{Carried}
use Rattle.hand_lemmas.specs.Hands.{Hands, Agrees, put_at}
use Rattle.stack_rules.specs.Tests.{same_module}
use Rattle.book_lemmas.specs.Did.{calls_in, logs_in}
use Rattle.book_lemmas.specs.Leaves.{ArePlain}
use Rattle.book_lemmas.specs.Stands.{IsSized, IsCarriedSized}
use Rattle.book_lemmas.specs.Turns.{HasUsed}
use Rattle.driver_tray.specs.Tray.{TrayView}

-- what is in hand beside the tray: the list that is worked, as it stood first on its way; lists that were issued and
-- stand nowhere yet; and what the module that is called keeps
pub record Beside : Type 0 where
  pub front : List Carried
  pub loose : List ListView
  pub kept : List ListView

-- all that is in hand, the others as they were before the call
abbrev pub hands_in : Hands → ModuleId → TrayView → Beside → Hands
hands_in h m t x = record { queue = x.front ++ t.queue; loose = x.loose; kept = put_at m x.kept h.kept; pools = put_at m t.pool h.pools }

-- all lists in hand have frames of the right sizes
pub record AreSizedIn (t : TrayView) (x : Beside) : Type 0 where
  pub front : All IsCarriedSized x.front
  pub queue : All IsCarriedSized t.queue
  pub loose : All IsSized x.loose
  pub kept : All IsSized x.kept

-- `before` is the tray as the rows began, and `h` what was in hand then; `calls` are the driver's calls that the rows
-- stand for, and `log` what they add to its log
pub record InCall (before : TrayView) (h : Hands) (m : ModuleId) (rows : List Row) (calls : List Call) (log : List (List (List ℕ))) (t : TrayView) (x : Beside) : Type 0 where
  pub agrees : Agrees t.net (hands_in h m t x)
  pub net : t.net ≡ after_rows before.net rows
  pub rows_are : t.rows ≡ before.rows ++ rows
  pub head : t.head ≡ before.head
  pub turns : t.turns ≡ before.turns
  pub told_by : t.told_by ≡ before.told_by
  pub plain : ArePlain rows
  pub calls_are : calls_in before.net rows ≡ calls
  pub log_is : logs_in m rows ≡ log
  pub quiet : (k : ModuleId) → same_module k m ≡ false → logs_in k rows ≡ []
  pub caller : t.caller ≡ m
  pub sized : AreSizedIn t x
  pub size : t.pool.size ≡ (h.pools m).size
  pub bytes : t.pool.bytes ≡ (h.pools m).bytes
  pub used : HasUsed before rows t
