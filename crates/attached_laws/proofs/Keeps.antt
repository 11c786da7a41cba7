-- Rows of phases that detach no filter leave the modules that are there.
use Rattle.std.proofs.Common.{◌≡◌, ℕ, Bool, true, false, cond, List, [], ◌∷◌, ◌++◌, Option, Some, None, map, filter, option_map, not, ◌==◌, refl, ap, sym, ◌∙◌, subst, if◌then◌else◌}
use Rattle.ndis_base.specs.declared.ModuleId.{ModuleId}
use Rattle.ndis_base.specs.declared.ModuleId.TheVariants.{Miniport, Filter, Binding}
use Rattle.ndis_base.specs.declared.ModuleState.{ModuleState}
use Rattle.journal_types.specs.declared.PhaseOf.TheVariants as of
use Rattle.journal_types.specs.declared.Row.{Row}
use Rattle.journal_types.specs.declared.Row.TheVariants as row
use Rattle.journal_types.specs.declared.Target.{Target}
use Rattle.journal_types.specs.declared.Target.TheVariants.{Module, Bindings}
use Rattle.stack_rules.specs.declared.Attached.{Attached}
use Rattle.stack_rules.specs.declared.RequestAt.{RequestAt}
use Rattle.stack_rules.specs.declared.RequestAt.TheVariants as at
use Rattle.stack_rules.specs.Net.{Net, Modules, attached, after, after_rows, with_state, is_detached}
use Rattle.stack_rules.specs.Pauses.{state_row, state_rows}
use Rattle.state_laws.proofs.Takes.{attached-with_state}
use Rattle.request_laws.proofs.Finds.{EachRequest-implies}
use Rattle.status_laws.proofs.Things.{each-implies}
use Rattle.attached_laws.proofs.Here.{IsHere, GoesHere, AtHere, AreHere, HoldsHere, holds_rows}

-- the row tells a phase by which no filter is detached, or a configuration
abbrev pub IsMild : Row → Type 0
IsMild (row.Phase (of.Module (Filter f) s)) = is_detached s ≡ false
IsMild (row.Phase (of.Module Miniport s)) = Unit {0}
IsMild (row.Phase (of.Module (Binding b) s)) = Unit {0}
IsMild (row.Phase (of.Stack p)) = Unit {0}
IsMild (row.Config config filters) = Unit {0}
IsMild _ = ⊥

abbrev pub AreMild : List Row → Type 0
AreMild [] = Unit {0}
AreMild (r ∷ rows) = IsMild r × AreMild rows

pub mild-append : (xs ys : List Row) → AreMild xs → AreMild ys → AreMild (xs ++ ys)
mild-append [] ys h k = k
mild-append (x ∷ xs) ys h k = (h.0, mild-append xs ys h.1 k)

pub mild_if : (b : Bool) (xs ys : List Row) → AreMild xs → AreMild ys → AreMild (if b then xs else ys)
mild_if true xs ys h k = h
mild_if false xs ys h k = k

abbrev pub NoneDetaches : List ModuleState → Type 0
NoneDetaches [] = Unit {0}
NoneDetaches (s ∷ ss) = (is_detached s ≡ false) × NoneDetaches ss

mild_state : (m : ModuleId) (s : ModuleState) → is_detached s ≡ false → IsMild (state_row s m)
mild_state Miniport s e = tt
mild_state (Filter f) s e = e
mild_state (Binding b) s e = tt

pub mild_states : (ss : List ModuleState) (others : List ModuleId) → NoneDetaches ss → AreMild (state_rows ss others)
mild_states ss [] n = tt
mild_states ss (m ∷ others) n = mild-append (map (λ s. state_row s m) ss) (state_rows ss others) (each ss n) (mild_states ss others n)
  where
    each : (ss : List ModuleState) → NoneDetaches ss → AreMild (map (λ s. state_row s m) ss)
    each [] n = tt
    each (s ∷ ss) n = (mild_state m s n.0, each ss n.1)

-- a filter that is attached stays so
stays_attached : (g f : ℕ) (s : ModuleState) (entries : List Attached) (a : Attached) → is_detached s ≡ false → attached g entries ≡ Some a
    → (b : Attached) × (attached g (cond (is_detached s) (filter (λ a. not (a.filter == f)) entries) (map (with_state f s) entries)) ≡ Some b)
stays_attached g f s entries a e there = (
  with_state f s a,
  ap (λ b. attached g (cond b (filter (λ a. not (a.filter == f)) entries) (map (with_state f s) entries))) e
      ∙ attached-with_state g f s entries ∙ ap (option_map (with_state f s)) there,
)

here_after : (net : Net) (r : Row) → IsMild r → (m : ModuleId) → IsHere net.modules m → IsHere (after net r).modules m
here_after net r q Miniport h = tt
here_after net r q (Binding b) h = tt
here_after net (row.Phase (of.Module Miniport s)) q (Filter g) h = h
here_after net (row.Phase (of.Module (Binding b) s)) q (Filter g) h = h
here_after net (row.Phase (of.Module (Filter f) s)) q (Filter g) h = stays_attached g f s net.modules.filters h.0 q h.1
here_after net (row.Phase (of.Stack p)) q (Filter g) h = h
here_after net (row.Config config filters) q (Filter g) h = h
here_after net _ q (Filter g) h = absurd q

pub here_rows : (net : Net) (rows : List Row) → AreMild rows → (m : ModuleId) → IsHere net.modules m → IsHere (after_rows net rows).modules m
here_rows net [] q m h = h
here_rows net (r ∷ rows) q m h = here_rows (after net r) rows q.1 m (here_after net r q.0 m h)

-- what is there in more modules
goes_wider : (ms more : Modules) → ((m : ModuleId) → IsHere ms m → IsHere more m) → (to : Target) → GoesHere ms to → GoesHere more to
goes_wider ms more wider (Module m) h = wider m h
goes_wider ms more wider Bindings h = tt

at_wider : (ms more : Modules) → ((m : ModuleId) → IsHere ms m → IsHere more m) → (a : RequestAt) → AtHere ms a → AtHere more a
at_wider ms more wider (at.Given m) h = wider m h
at_wider ms more wider (at.Waiting m) h = tt
at_wider ms more wider at.Entry h = tt

holds_wider : (ms more : Modules) (net : Net) → ((m : ModuleId) → IsHere ms m → IsHere more m) → HoldsHere ms net → HoldsHere more net
holds_wider ms more net wider h = record {
  statuses = each-implies (λ s. GoesHere ms s.to) (λ s. GoesHere more s.to) (λ s k. goes_wider ms more wider s.to k) net.things h.statuses;
  given = EachRequest-implies (λ r. AtHere ms r.at) (λ r. AtHere more r.at) (λ r k. at_wider ms more wider r.at k) net.requests h.given;
}

here_mild : (ms : Modules) (rows : List Row) → AreMild rows → AreHere ms rows
here_mild ms [] q = tt
here_mild ms (row.Phase whose ∷ rows) q = (tt, here_mild ms rows q.1)
here_mild ms (row.Config config filters ∷ rows) q = (tt, here_mild ms rows q.1)
here_mild ms (_ ∷ rows) q = absurd q.0

-- such rows leave what goes to modules that are there
pub holds_mild : (net : Net) (rows : List Row) → AreMild rows → HoldsHere net.modules net → HoldsHere (after_rows net rows).modules (after_rows net rows)
holds_mild net rows q h =
    holds_wider net.modules (after_rows net rows).modules (after_rows net rows) (here_rows net rows q)
    (holds_rows net.modules net rows (here_mild net.modules rows q) h)
