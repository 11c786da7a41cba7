-- A status at the bindings: one after the other sees it, and its protocol counts that.
use Rattle.std.specs.Prelude.{ℕ, zero, suc, List, slice_index_or, slice_set}
use Rattle.ndis_base.specs.declared.ModuleId.TheVariants.{Binding}
use Rattle.ndis_base.specs.declared.StatusNo.{StatusNo}
use Rattle.promise_rules.specs.declared.Called.TheVariants as called
use Rattle.driver_views.specs.States.{ProtocolState, called_for}
use Rattle.driver_tray.specs.Tray.{TrayView, seen_at}
use Rattle.book_lemmas.specs.Views.{no_protocol}

-- the tray once so many bindings saw the status, from the first
abbrev pub seen_by_first : ℕ → StatusNo → TrayView → TrayView
seen_by_first zero number t = t
seen_by_first (suc b) number t = seen_at (seen_by_first b number t) number (Binding b)

-- a protocol counted a status
abbrev pub heard : ProtocolState → ProtocolState
heard s = record s { did = called_for called.Status s.did }

-- so many protocols did, from the first
abbrev pub heard_by_first : ℕ → List ProtocolState → List ProtocolState
heard_by_first zero ss = ss
heard_by_first (suc b) ss = slice_set (heard_by_first b ss) b (heard (slice_index_or (heard_by_first b ss) b no_protocol))
