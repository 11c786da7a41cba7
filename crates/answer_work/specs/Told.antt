-- The binding that asked is told that its request is done.
use Rattle.std.specs.Prelude.{ℕ, List, Option, Some, None, slice_index_or, slice_set}
use Rattle.ndis_base.specs.declared.OidNo.{OidNo}
use Rattle.promise_rules.specs.declared.Called.TheVariants as called
use Rattle.driver_views.specs.States.{ProtocolState, called_for}
use Rattle.book_lemmas.specs.Views.{no_protocol}

-- a protocol counted that
abbrev pub heard : ProtocolState → ProtocolState
heard s = record s { did = called_for called.OidComplete s.did }

-- the protocol of the binding did, where the request is no clone; no protocol hears of a clone
abbrev pub told_of_answer : Option OidNo → ℕ → List ProtocolState → List ProtocolState
told_of_answer None binding ss = slice_set ss binding (heard (slice_index_or ss binding no_protocol))
told_of_answer (Some parent) binding ss = ss
