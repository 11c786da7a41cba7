-- The rows of cancels fit.
use Rattle.std.proofs.Common.{ℕ, List, [], ◌∷◌, ◌++◌, flat_map}
use Rattle.ndis_base.specs.declared.ModuleId.{ModuleId}
use Rattle.ndis_base.specs.declared.ListStatus.TheVariants.{Aborted}
use Rattle.journal_types.specs.declared.Row.{Row}
use Rattle.stack_rules.specs.declared.LiveList.{LiveList}
use Rattle.stack_rules.specs.Net.{Net}
use Rattle.stack_rules.specs.Places.{position, kept_lists, ready_lists}
use Rattle.stack_rules.specs.Cancels.{is_named, cancelled_at, aborted, cancel_rows_at, queues, cancel_outcome}
use Rattle.rule_basics.specs.Live.{Each}
use Rattle.home_laws.proofs.Fits.{Register, AllFit}
use Rattle.home_laws.proofs.Agreed.{Agrees}
use Rattle.home_laws.proofs.Known.{Knows, Each-filter, live_as, homeward_fits}
use Rattle.home_laws.proofs.Issues.{FitOutcome, kept_known}

-- cancels: the rows leave each list live
aborted_fit : (net : Net) (reg : Register) (m : ModuleId) (rest : List Row) → AllFit reg rest → (ls : List LiveList) → Each (Knows reg) ls → AllFit reg (flat_map (aborted net m) ls ++ rest)
aborted_fit net reg m rest f [] k = f
aborted_fit net reg m rest f (l ∷ ls) k =
    (live_as reg l k.0, homeward_fits reg net.modules l (position net.modules.order m) Aborted (flat_map (aborted net m) ls ++ rest) k.0 (aborted_fit net reg m rest f ls k.1))

pub ready_known : (net : Net) (reg : Register) (m : ModuleId) → Agrees net reg → Each (Knows reg) (ready_lists net m)
ready_known net reg m h = Each-filter (Knows reg) _ (kept_lists net m) (kept_known net reg m h)

cancelled_fit : (net : Net) (reg : Register) (id : ℕ) → Agrees net reg → (ms : List ModuleId) → AllFit reg (flat_map (cancel_rows_at net id) ms)
cancelled_fit net reg id h [] = tt
cancelled_fit net reg id h (m ∷ ms) =
    aborted_fit net reg m (flat_map (cancel_rows_at net id) ms) (cancelled_fit net reg id h ms) (cancelled_at net id m) (Each-filter (Knows reg) (is_named id) (ready_lists net m) (ready_known net reg m h))

pub cancel_fits : (net : Net) (reg : Register) (id : ℕ) → Agrees net reg → FitOutcome reg (cancel_outcome net id)
cancel_fits net reg id h = cancelled_fit net reg id h (queues net.modules)
