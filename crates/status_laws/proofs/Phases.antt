-- Rows of states and phases, by which no filter is detached, leave the order of the filters and their handlers.
use Rattle.std.proofs.Common.{◌≡◌, ℕ, ◌==◌, Bool, true, false, cond, List, [], ◌∷◌, ◌++◌, Option, Some, None, map, filter, option_map, not, refl, ap, ◌∙◌}
use Rattle.ndis_base.specs.declared.ModuleId.{ModuleId}
use Rattle.ndis_base.specs.declared.ModuleId.TheVariants.{Miniport, Filter, Binding}
use Rattle.ndis_base.specs.declared.ModuleState.{ModuleState}
use Rattle.journal_types.specs.declared.PhaseOf.TheVariants as of
use Rattle.journal_types.specs.declared.Row.{Row}
use Rattle.journal_types.specs.declared.Row.TheVariants as row
use Rattle.stack_rules.specs.declared.Attached.{Attached}
use Rattle.stack_rules.specs.Net.{Net, Modules, attached, after, after_rows, with_state, is_detached, handlers_of}
use Rattle.stack_rules.specs.Pauses.{state_row, state_rows}
use Rattle.stack_rules.specs.Targets.{has_status}
use Rattle.state_laws.proofs.Takes.{attached-with_state}

-- the row tells a state or a phase, by which no filter is detached
abbrev pub IsMild : Row → Type 0
IsMild (row.Phase (of.Module m s)) = is_detached s ≡ false
IsMild (row.Phase (of.Stack p)) = Unit {0}
IsMild _ = ⊥

abbrev pub AreMild : List Row → Type 0
AreMild [] = Unit {0}
AreMild (r ∷ rows) = IsMild r × AreMild rows

pub mild-append : (xs ys : List Row) → AreMild xs → AreMild ys → AreMild (xs ++ ys)
mild-append [] ys h k = k
mild-append (x ∷ xs) ys h k = (h.0, mild-append xs ys h.1 k)

pub mild_if : (b : Bool) (xs ys : List Row) → AreMild xs → AreMild ys → AreMild (cond b xs ys)
mild_if true xs ys h k = h
mild_if false xs ys h k = k

abbrev pub NoneDetaches : List ModuleState → Type 0
NoneDetaches [] = Unit {0}
NoneDetaches (s ∷ ss) = (is_detached s ≡ false) × NoneDetaches ss

pub mild_states : (ss : List ModuleState) (ms : List ModuleId) → NoneDetaches ss → AreMild (state_rows ss ms)
mild_states ss [] n = tt
mild_states ss (m ∷ ms) n = mild-append (map (λ s. state_row s m) ss) (state_rows ss ms) (each ss n) (mild_states ss ms n)
  where
    each : (ss : List ModuleState) → NoneDetaches ss → AreMild (map (λ s. state_row s m) ss)
    each [] n = tt
    each (s ∷ ss) n = (n.0, each ss n.1)

-- the order and the handlers are the same
pub record KeepsHandlers (ms next : Modules) : Type 0 where
  pub order : next.order ≡ ms.order
  pub has : (f : ℕ) → has_status next f ≡ has_status ms f

pub keeps_all : (ms : Modules) → KeepsHandlers ms ms
keeps_all ms = record { order = refl; has = λ f. refl }

status_same : (g f : ℕ) (s : ModuleState) (entries : List Attached) → is_detached s ≡ false
    → (handlers_of (attached g (cond (is_detached s) (filter (λ a. not (a.filter == f)) entries) (map (with_state f s) entries)))).status ≡ (handlers_of (attached g entries)).status
status_same g f s entries e =
    ap (λ b. (handlers_of (attached g (cond b (filter (λ a. not (a.filter == f)) entries) (map (with_state f s) entries)))).status) e
    ∙ ap (λ o. (handlers_of o).status) (attached-with_state g f s entries)
    ∙ at (attached g entries)
  where
    stays : (a : Attached) → (handlers_of (Some (with_state f s a))).status ≡ (handlers_of (Some a)).status
    stays a = elim (a.filter == f) as (λ b. (handlers_of (Some (cond b (record a { state = s }) a))).status ≡ (handlers_of (Some a)).status) [ true ↦ refl | false ↦ refl ]

    at : (o : Option Attached) → (handlers_of (option_map (with_state f s) o)).status ≡ (handlers_of o).status
    at None = refl
    at (Some a) = stays a

keeps_after : (net : Net) (r : Row) → IsMild r → KeepsHandlers net.modules (after net r).modules
keeps_after net (row.Phase (of.Module Miniport s)) q = record { order = refl; has = λ f. refl }
keeps_after net (row.Phase (of.Module (Binding b) s)) q = record { order = refl; has = λ f. refl }
keeps_after net (row.Phase (of.Module (Filter f) s)) q = record { order = refl; has = λ g. status_same g f s net.modules.filters q }
keeps_after net (row.Phase (of.Stack p)) q = record { order = refl; has = λ f. refl }
keeps_after net _ q = absurd q

pub keeps_rows : (net : Net) (rows : List Row) → AreMild rows → KeepsHandlers net.modules (after_rows net rows).modules
keeps_rows net [] q = keeps_all net.modules
keeps_rows net (r ∷ rows) q =
    let one = keeps_after net r q.0 in
    let more = keeps_rows (after net r) rows q.1 in
    record { order = more.order ∙ one.order; has = λ f. more.has f ∙ one.has f }
