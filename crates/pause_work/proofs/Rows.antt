-- The rows by which a position is Paused, and the phase of the stack after them.
use Rattle.std.proofs.Common.{◌≡◌, ℕ, zero, suc, ◌+◌, ◌<◌, ◌≤◌, nat_lt, ◌==◌, Bool, true, false, List, [], ◌∷◌, ◌++◌, Option, Some, None, length, slice_index_or, refl, sym, ap, ◌∙◌, subst, arith, eq-eqb, ne_eqb}
use Rattle.std.proofs.lemmas.Bool.{cond-true, cond-false}
use Rattle.std.proofs.lemmas.Bool.Decides.{nat_tests}
use Rattle.ndis_base.specs.declared.ModuleId.{ModuleId}
use Rattle.ndis_base.specs.declared.ModuleState.{ModuleState}
use Rattle.ndis_base.specs.declared.ModuleState.TheVariants as state
use Rattle.ndis_base.specs.declared.Phase.{Phase}
use Rattle.ndis_base.specs.declared.Phase.TheVariants as phase
use Rattle.journal_types.specs.declared.PortSetup.{PortSetup}
use Rattle.journal_types.specs.declared.Reply.TheVariants as reply
use Rattle.journal_types.specs.declared.Refusal.TheVariants as refusal
use Rattle.journal_types.specs.declared.Row.{Row}
use Rattle.stack_rules.specs.Net.{Net, after, after_rows}
use Rattle.stack_rules.specs.Outcome.{Outcome, answered, refused}
use Rattle.stack_rules.specs.Places.{outstanding}
use Rattle.stack_rules.specs.Pauses.{floors, state_row, state_rows, first_unpaused, paused_rows, paused_reply, pause_at, pause_outcome}
use Rattle.stack_rules.specs.Tests.{phase_is_pausing}
use Rattle.driver_tray.specs.Tray.{TrayView}
use Rattle.phase_work.specs.Written.{each_written, bindings_from}
use Rattle.phase_work.proofs.EachBinding.{each_append, room_left}
use Rattle.book_lemmas.specs.Leaves.{ArePhases, IsStaying}
use Rattle.book_lemmas.specs.Stands.{DriversFit}
use Rattle.book_lemmas.specs.Views.{HeldView}
use Rattle.pause_work.specs.declared.floor.Floor.{Floor}
use Rattle.pause_work.specs.declared.floor.Floor.TheVariants as floor
use Rattle.pause_work.specs.Positions.{modules_of, width, IsAt, IsFound, next_rows, next_reply, rows_of}

abbrev first_rows : List ModuleId → List Row
first_rows ms = state_rows (state.Paused ∷ []) ms

phases_then : (s : ModuleState) → IsStaying s → (ms : List ModuleId) (rows : List Row) → ArePhases rows → ArePhases (state_rows (s ∷ []) ms ++ rows)
phases_then s h [] rows p = p
phases_then s h (m ∷ ms) rows p = (h, phases_then s h ms rows p)

phases_only : (s : ModuleState) → IsStaying s → (ms : List ModuleId) → ArePhases (state_rows (s ∷ []) ms)
phases_only s h [] = record {}
phases_only s h (m ∷ ms) = (h, phases_only s h ms)

next_phases : (next : Option Floor) → ArePhases (next_rows next)
next_phases None = (record {}, record {})
next_phases (Some f) = phases_only state.Pausing (record {}) (modules_of f)

pub rows_phases : (f : Floor) (next : Option Floor) → ArePhases (rows_of f next)
rows_phases f next = phases_then state.Paused (record {}) (modules_of f) (next_rows next) (next_phases next)

-- each module takes one row
length_bindings : (b n : ℕ) → length (bindings_from b n) ≡ n
length_bindings b zero = refl
length_bindings b (suc n) = ap suc (length_bindings (b + 1) n)

length_modules : (f : Floor) → length (modules_of f) ≡ width f
length_modules (floor.Bindings many) = length_bindings 0 many
length_modules (floor.Filter f) = refl
length_modules floor.Miniport = refl

length_rows : (s : ModuleState) (ms : List ModuleId) → length (state_rows (s ∷ []) ms) ≡ length ms
length_rows s [] = refl
length_rows s (m ∷ ms) = ap suc (length_rows s ms)

pub room_after : (t t' : TrayView) (f : Floor) (more : ℕ) → t' ≡ each_written t (first_rows (modules_of f)) → width f + more ≤ t.room.rows → more ≤ t'.room.rows
room_after t t' f more made room =
    let left = ap (λ (x : TrayView). x.room.rows) made ∙ room_left (first_rows (modules_of f)) t in
    omega (arith, left, room, length_rows state.Paused (modules_of f), length_modules f)

pub first_and_next : (t t' t'' : TrayView) (f : Floor) (next : Option Floor) → t' ≡ each_written t (first_rows (modules_of f)) → t'' ≡ each_written t' (next_rows next) → t'' ≡ each_written t (rows_of f next)
first_and_next t t' t'' f next first then =
    then ∙ ap (λ x. each_written x (next_rows next)) first ∙ sym (each_append (first_rows (modules_of f)) (next_rows next) t)

-- the phase after the rows
abbrev next_phase : Option Floor → Phase
next_phase None = phase.Paused
next_phase (Some f) = phase.Pausing

phase_only : (s : ModuleState) (ms : List ModuleId) (net : Net) → (after_rows net (state_rows (s ∷ []) ms)).phase ≡ net.phase
phase_only s [] net = refl
phase_only s (m ∷ ms) net = phase_only s ms (after net (state_row s m))

phase_then : (s : ModuleState) (ms : List ModuleId) (rows : List Row) (net : Net) (p : Phase) → ((n : Net) → n.phase ≡ net.phase → (after_rows n rows).phase ≡ p) → (after_rows net (state_rows (s ∷ []) ms ++ rows)).phase ≡ p
phase_then s [] rows net p h = h net refl
phase_then s (m ∷ ms) rows net p h = phase_then s ms rows (after net (state_row s m)) p h

phase_after : (net : Net) (f : Floor) (next : Option Floor) → net.phase ≡ phase.Pausing → (after_rows net (rows_of f next)).phase ≡ next_phase next
phase_after net f None e = phase_then state.Paused (modules_of f) (next_rows None) net phase.Paused (λ n same. refl)
phase_after net f (Some g) e =
    phase_then state.Paused (modules_of f) (next_rows (Some g)) net phase.Pausing (λ n same. phase_only state.Pausing (modules_of g) n ∙ same ∙ e)

fit_next : (port : PortSetup) (held : HeldView) (next : Option Floor) → held.miniport.port ≡ Some port → DriversFit port held (next_phase next)
fit_next port held None set = set
fit_next port held (Some f) set = set

pub drivers_after : (net : Net) (port : PortSetup) (held : HeldView) (f : Floor) (next : Option Floor) → net.phase ≡ phase.Pausing → DriversFit port held net.phase → DriversFit port held (after_rows net (rows_of f next)).phase
drivers_after net port held f next e d =
    let set : held.miniport.port ≡ Some port = subst (DriversFit port held) e d in
    subst (DriversFit port held) (sym (phase_after net f next e)) (fit_next port held next set)

-- the rows and the reply are those of the rules
abbrev shorter : Net → ℕ → Bool
shorter net i = nat_lt (i + 1) (length (floors net.modules))

is_shorter : (net : Net) (i : ℕ) → i + 1 < length (floors net.modules) → shorter net i ≡ true
is_shorter net i less = test (i + 1) (length (floors net.modules)) less
  where
    test : (a b : ℕ) → a < b → nat_lt a b ≡ true
    test a b less = grind (arith, nat_tests)

is_last : (net : Net) (i : ℕ) → length (floors net.modules) ≤ i + 1 → shorter net i ≡ false
is_last net i more = test (i + 1) (length (floors net.modules)) more
  where
    test : (a b : ℕ) → b ≤ a → nat_lt a b ≡ false
    test a b more = grind (arith, nat_tests)

rows_are : (net : Net) (i : ℕ) (f : Floor) (next : Option Floor) → IsAt net.modules i f → IsFound net.modules (i + 1) next → rows_of f next ≡ paused_rows net i
rows_are net i f None at end =
    ap (λ ms. first_rows ms ++ next_rows None) at.are
    ∙ ap (λ rows. first_rows (slice_index_or (floors net.modules) i []) ++ rows) (sym (cond-false (shorter net i) _ _ (is_last net i end)))
rows_are net i f (Some g) at below =
    ap (λ ms. first_rows ms ++ next_rows (Some g)) at.are
    ∙ ap (λ ms. first_rows (slice_index_or (floors net.modules) i []) ++ state_rows (state.Pausing ∷ []) ms) below.are
    ∙ ap (λ rows. first_rows (slice_index_or (floors net.modules) i []) ++ rows) (sym (cond-true (shorter net i) _ _ (is_shorter net i below.within)))

reply_is : (net : Net) (i : ℕ) (next : Option Floor) → IsFound net.modules (i + 1) next → next_reply next ≡ paused_reply net i
reply_is net i None end = sym (cond-false (shorter net i) _ _ (is_last net i end))
reply_is net i (Some g) below = sym (cond-true (shorter net i) _ _ (is_shorter net i below.within))

front_outcome : (net : Net) → net.phase ≡ phase.Pausing → pause_outcome net ≡ pause_at net (first_unpaused net)
front_outcome net e = cond-true (phase_is_pausing net.phase) _ _ (ap phase_is_pausing e)

abbrev paused_outcome : Net → ℕ → Outcome
paused_outcome net i = record { reply = paused_reply net i; rows = paused_rows net i }

empty_outcome : (net : Net) → net.phase ≡ phase.Pausing → outstanding net (first_unpaused net) ≡ 0 → pause_outcome net ≡ paused_outcome net (first_unpaused net)
empty_outcome net e none =
    let i : ℕ = first_unpaused net in
    front_outcome net e ∙ cond-true (outstanding net i == 0) (paused_outcome net i) (answered (reply.Waiting (outstanding net i))) (eq-eqb (outstanding net i) 0 none)

-- a position is Paused
pub paused_rows_are : (net : Net) (f : Floor) (next : Option Floor) → net.phase ≡ phase.Pausing → outstanding net (first_unpaused net) ≡ 0 → IsAt net.modules (first_unpaused net) f → IsFound net.modules (first_unpaused net + 1) next → rows_of f next ≡ (pause_outcome net).rows
paused_rows_are net f next e none at below =
    rows_are net (first_unpaused net) f next at below ∙ ap (λ (o : Outcome). o.rows) (sym (empty_outcome net e none))

pub paused_reply_is : (net : Net) (next : Option Floor) → net.phase ≡ phase.Pausing → outstanding net (first_unpaused net) ≡ 0 → IsFound net.modules (first_unpaused net + 1) next → next_reply next ≡ (pause_outcome net).reply
paused_reply_is net next e none below =
    reply_is net (first_unpaused net) next below ∙ ap (λ (o : Outcome). o.reply) (sym (empty_outcome net e none))

-- it waits
pub waiting_outcome : (net : Net) (n : ℕ) → net.phase ≡ phase.Pausing → n ≡ outstanding net (first_unpaused net) → 0 < n → pause_outcome net ≡ answered (reply.Waiting n)
waiting_outcome net n e is some =
    let i : ℕ = first_unpaused net in
    let more : outstanding net i ≡ 0 → ⊥ = λ none. omega (arith, none, is, some) in
    front_outcome net e
    ∙ cond-false (outstanding net i == 0) (paused_outcome net i) (answered (reply.Waiting (outstanding net i))) (ne_eqb (outstanding net i) 0 more)
    ∙ ap (λ k. answered (reply.Waiting k)) (sym is)

-- the stack doesn't pause
not_pausing : (p : Phase) → ¬ (p ≡ phase.Pausing) → phase_is_pausing p ≡ false
not_pausing phase.Halted still = refl
not_pausing phase.Paused still = refl
not_pausing phase.Restarting still = refl
not_pausing phase.Running still = refl
not_pausing phase.Pausing still = absurd (still refl)

pub still_outcome : (net : Net) → ¬ (net.phase ≡ phase.Pausing) → pause_outcome net ≡ refused (refusal.WrongPhase net.phase)
still_outcome net still = cond-false (phase_is_pausing net.phase) _ _ (not_pausing net.phase still)
