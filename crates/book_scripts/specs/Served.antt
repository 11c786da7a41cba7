-- What the drivers of a stack did in a run, in the words in which it is promised of journals.
use Rattle.std.specs.Prelude.{◌≡◌, ◌⊎◌, ◌≤◌, ◌^◌, ℕ, ◌+◌, ◌==◌, ◌&&◌, Bool, true, false, List, [], ◌∷◌, ◌++◌, Option, Some, None, count_by, find, length, map, option_map, sum_by, slice_index_or, unwrap_or, if◌then◌else◌}
use Rattle.ndis_base.specs.declared.FilterKind.{FilterKind}
use Rattle.ndis_base.specs.declared.ModuleId.{ModuleId}
use Rattle.ndis_base.specs.declared.ModuleId.TheVariants.{Miniport, Filter, Binding}
use Rattle.ndis_base.specs.declared.Phase.TheVariants as phase
use Rattle.journal_types.specs.declared.Event.{Event}
use Rattle.journal_types.specs.declared.Event.TheVariants as event
use Rattle.journal_types.specs.declared.Refusal.{Refusal}
use Rattle.journal_types.specs.declared.Refusal.TheVariants as refusal
use Rattle.journal_types.specs.declared.Reply.{Reply}
use Rattle.journal_types.specs.declared.Reply.TheVariants as reply
use Rattle.journal_types.specs.declared.StackHead.{StackHead}
use Rattle.journal_types.specs.declared.Turn.{Turn}
use Rattle.script_types.specs.declared.FilterSetup.{FilterSetup}
use Rattle.stack_rules.specs.Net.{seen}
use Rattle.promise_rules.specs.declared.Called.{Called}
use Rattle.promise_rules.specs.Calls.{served, log_of}
use Rattle.promise_rules.specs.Drivers.{Shelf, is_of_kind, shelf_in_turns, shelf_of}
use Rattle.promise_rules.specs.Followed.{IsOpenedAndEnded}
use Rattle.driver_views.specs.States.{IsRisen, FilterState, MiniportState, ProtocolState, Record, times}
use Rattle.book_lemmas.specs.Views.{HeldView, filter_at, no_protocol}

-- a driver's counts rose by the calls of the module that the journal counts, and its log by what the journal logs of it
pub record IsServedBy (turns : List Turn) (m : ModuleId) (old new : Record) : Type 0 where
  pub calls : (what : Called) → times new.served what ≡ times old.served what + served turns m what
  pub log : new.log ≡ old.log ++ log_of turns m

-- a count of 64 bits rose by at least so much; at its last value, 2 to the power of 64 less one, it stands still
abbrev pub RoseBy : ℕ → ℕ → ℕ → Type 0
RoseBy n old new = (old + n ≤ new) ⊎ (2 ^ 64 ≤ new + 1)

-- the miniport was asked to be initialised, and refused
abbrev pub is_initialise : Event → Bool
is_initialise event.Initialize = true
is_initialise _ = false

abbrev pub is_init_refusal : Refusal → Bool
is_init_refusal refusal.InitRefused = true
is_init_refusal _ = false

abbrev pub was_init_refused : Reply → Bool
was_init_refused (reply.Refused cause) = is_init_refusal cause
was_init_refused _ = false

abbrev pub miniport_refused : Turn → Bool
miniport_refused t = is_initialise t.event && was_init_refused t.reply

-- so did those of the miniport's driver, and of each binding's; and the miniport counted each time that it refused
pub record AreServed (turns : List Turn) (miniport : MiniportState) (protocols : List ProtocolState) (miniport' : MiniportState) (protocols' : List ProtocolState) : Type 0 where
  pub miniport_served : IsServedBy turns Miniport miniport.did miniport'.did
  pub protocols_served : (i : ℕ) → IsServedBy turns (Binding i) (slice_index_or protocols i no_protocol).did (slice_index_or protocols' i no_protocol).did
  pub as_many : length protocols' ≡ length protocols
  pub refusals : RoseBy (count_by miniport_refused turns) miniport.refusals miniport'.refusals

-- after its opening the stack runs, unless its adapter refused to be initialised, and counted that
pub record RunsUnlessRefused (head : StackHead) (filters : List FilterSetup) (turns : List Turn) (miniport miniport' : MiniportState) : Type 0 where
  pub ended : IsOpenedAndEnded head filters turns
  pub running : ((seen head ended.opening).phase ≡ phase.Running) ⊎ IsRisen miniport.refusals miniport'.refusals

-- the drivers of a stack served its journal, and the filters' drivers are of the kinds that they were
pub record DriversServed (head : StackHead) (filters : List FilterSetup) (turns : List Turn) (old new : HeldView) : Type 0 where
  pub are : AreServed turns old.miniport old.protocols new.miniport new.protocols
  pub ran : RunsUnlessRefused head filters turns old.miniport new.miniport
  pub kinds : map (λ s. s.kind) new.filters ≡ map (λ s. s.kind) old.filters

-- how often a journal calls the filters that have or had the driver at a place
abbrev pub served_at : List FilterKind → List Turn → ℕ → Called → ℕ
served_at kinds turns place what = sum_by (λ d. if d.1 == place then served turns (Filter d.0) what else 0) (shelf_of kinds turns).drivers

-- a filter's driver refused to attach
abbrev pub is_attach_refusal : Refusal → Bool
is_attach_refusal refusal.AttachRefused = true
is_attach_refusal _ = false

abbrev pub was_attach_refused : Reply → Bool
was_attach_refused (reply.Refused cause) = is_attach_refusal cause
was_attach_refused _ = false

-- the kind of filter that is to be attached
abbrev pub kind_asked : Event → Option FilterKind
kind_asked (event.Insert kind position setup) = Some kind
kind_asked (event.Replace f kind setup) = Some kind
kind_asked _ = None

-- the driver at a place is asked: the first of the kind on the shelf
abbrev pub is_asked : List FilterKind → Shelf → ℕ → Option FilterKind → Bool
is_asked kinds shelf place None = false
is_asked kinds shelf place (Some kind) = unwrap_or (option_map (λ p. p == place) (find (is_of_kind kind kinds) shelf.places)) false

abbrev pub has_refused : List FilterKind → Shelf → ℕ → Turn → Bool
has_refused kinds shelf place t = was_attach_refused t.reply && is_asked kinds shelf place (kind_asked t.event)

-- how often it refused, from a shelf on
abbrev pub refusals_from : List FilterKind → Shelf → ℕ → List Turn → ℕ
refusals_from kinds shelf place [] = 0
refusals_from kinds shelf place (t ∷ ts) = (if has_refused kinds shelf place t then 1 else 0) + refusals_from kinds (shelf_in_turns kinds (t ∷ []) shelf) place ts

abbrev pub refusals_at : List FilterKind → List Turn → ℕ → ℕ
refusals_at kinds turns place = refusals_from kinds (shelf_of kinds []) place turns

-- the counts of each filters' driver rose by those calls, its log is as it was, and it counted each time that it refused
pub record FiltersServed (turns : List Turn) (old new : List FilterState) : Type 0 where
  pub calls : (place : ℕ) (what : Called) → times (filter_at new (Some place)).did.served what ≡ times (filter_at old (Some place)).did.served what + served_at (map (λ s. s.kind) old) turns place what
  pub log : (place : ℕ) → (filter_at new (Some place)).did.log ≡ (filter_at old (Some place)).did.log
  pub refusals : (place : ℕ) → RoseBy (refusals_at (map (λ s. s.kind) old) turns place) (filter_at old (Some place)).refusals (filter_at new (Some place)).refusals
