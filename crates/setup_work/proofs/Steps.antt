-- A step of a restart: some position is left, its drivers are there, and its rows are those of the rules.
use Rattle.std.proofs.Common.{◌≡◌, ℕ, ◌+◌, ◌*◌, ◌<◌, ◌≤◌, ◌^◌, ◌||◌, Bool, true, false, List, [], ◌++◌, Some, length, refl, sym, ap, ◌∙◌, subst, arith}
use Rattle.std.proofs.lemmas.Bool.{cond-true, cond-false}
use Rattle.ndis_base.specs.declared.ModuleState.TheVariants as state
use Rattle.ndis_base.specs.declared.Phase.{Phase}
use Rattle.ndis_base.specs.declared.Phase.TheVariants as phase
use Rattle.journal_types.specs.declared.Event.TheVariants as event
use Rattle.journal_types.specs.declared.PortSetup.{PortSetup}
use Rattle.journal_types.specs.declared.Refusal.TheVariants as refusal
use Rattle.journal_types.specs.declared.Reply.{Reply}
use Rattle.journal_types.specs.declared.Reply.TheVariants as reply
use Rattle.journal_types.specs.declared.Row.{Row}
use Rattle.journal_types.specs.declared.StackHead.{StackHead}
use Rattle.stack_rules.specs.Net.{Net, after_rows}
use Rattle.stack_rules.specs.Outcome.{Outcome, refused}
use Rattle.stack_rules.specs.Pauses.{floors, is_top, restart_at, restart_outcome, running_floors}
use Rattle.stack_rules.specs.Rewires.{is_in}
use Rattle.stack_rules.specs.Tests.{phase_is_paused, phase_is_restarting}
use Rattle.state_laws.specs.Shape.{state_at, AllBelow, IsShaped, StatesAre}
use Rattle.state_laws.proofs.Events.{at_phase, shaped_journal}
use Rattle.state_laws.proofs.Floors.{length-floors, running_floors_are}
use Rattle.state_laws.proofs.Phases.{all_paused_at}
use Rattle.state_laws.proofs.Takes.{StatesAre-same}
use Rattle.driver_tray.specs.Tray.{TrayView}
use Rattle.book_lemmas.specs.Between.{IsBetween}
use Rattle.book_lemmas.specs.Leaves.{ArePhases}
use Rattle.book_lemmas.specs.Stands.{DriversFit}
use Rattle.book_lemmas.specs.Views.{BookView, HeldView, seat_of}
use Rattle.book_lemmas.proofs.Between.{listed}
use Rattle.book_lemmas.proofs.Goes.{after_rows-append}
use Rattle.book_lemmas.proofs.Heads.{head_between}
use Rattle.book_parts.specs.Events.{IsBook, IsIdle, DidEvent}
use Rattle.book_parts.proofs.Events.{Begins, Ends, did_event, ends_still}
use Rattle.phase_work.specs.Written.{each_written}
use Rattle.phase_work.proofs.Pausing.{any_choice}
use Rattle.phase_work.proofs.Written.{ends_moved, has_written}
use Rattle.setup_work.specs.Floors.{CanRestart, Sits, next_floor, next_reply, next_rows, phase_when}
use Rattle.setup_work.proofs.Positions.{below}
use Rattle.setup_work.proofs.Halted.{between}
use Rattle.setup_work.proofs.Rows.{twice, twice_phase, twice_phases}

-- the phases in which a step may be made
abbrev pub IsStepping : Phase → Type 0
IsStepping phase.Paused = Unit {0}
IsStepping phase.Restarting = Unit {0}
IsStepping _ = ⊥

-- a position is left, of a stack with a binding, and its filters have numbers below the next one
record IsLeft (net : Net) : Type 0 where
  pub left : running_floors net < length (floors net.modules)
  pub below : AllBelow net.next.filter net.modules.order

left_at : (net : Net) (p : Phase) (s : IsShaped net) → 0 < length net.head.bindings → net.phase ≡ p → IsStepping p → IsLeft net
left_at net phase.Halted s some e h = absurd h
left_at net phase.Running s some e h = absurd h
left_at net phase.Pausing s some e h = absurd h
left_at net phase.Paused s some e h =
    let f = at_phase net phase.Paused s e in
    let q : ℕ = length net.modules.order + 2 in
    let many : ℕ = length net.head.bindings in
    let states : StatesAre many net.modules (state_at q q) = StatesAre-same (λ p. state.Paused) (state_at q q) many net.modules (λ i a. all_paused_at q i (omega (arith, a))) f.1.0 in
    let run = (running_floors_are net many q (omega arith) (omega arith) states).0 some in
    record { left = omega (arith, run, length-floors net.modules); below = f.0.below }
left_at net phase.Restarting s some e h =
    let f = at_phase net phase.Restarting s e in
    let many : ℕ = length net.head.bindings in
    let run = (running_floors_are net many s.front f.1.some (omega (arith, f.1.within)) f.1.states).0 some in
    record { left = omega (arith, run, f.1.some, length-floors net.modules); below = f.0.below }

is_left : (v : BookView) → IsBook v → IsIdle v → IsStepping v.tray.net.phase → IsLeft v.tray.net
is_left v k i stepping =
    let b : IsBetween v.tray.head v.tray.turns v.tray.net = between v k i in
    let shaped : IsShaped v.tray.net = subst IsShaped (sym b.is) (shaped_journal v.tray.head v.tray.turns b.sound) in
    let some : 0 < length v.tray.net.head.bindings = subst (λ (h : StackHead). 0 < length h.bindings) (sym (head_between b)) (omega (arith, b.bound)) in
    left_at v.tray.net v.tray.net.phase shaped some refl stepping

-- the stack isn't Halted, so its filters have their drivers
not_halted : (p : Phase) → IsStepping p → ¬ (p ≡ phase.Halted)
not_halted phase.Halted h e = h
not_halted phase.Paused h e = cc
not_halted phase.Restarting h e = cc
not_halted phase.Running h e = h
not_halted phase.Pausing h e = h

sits_in : (v : BookView) → IsBook v → IsIdle v → ¬ (v.tray.net.phase ≡ phase.Halted) → (f : ℕ) → is_in f v.tray.net.modules.order ≡ true → Sits v.held.seats (length v.held.filters) f
sits_in v k i other f inside =
    let a = (listed (between v k i) other).ordered.attached f inside in
    let s = k.stands.seated f a.0 a.1 in
    let seat = subst (λ n. seat_of v.held.seats n ≡ Some s.place) a.2 s.seat in
    record { place = s.place; seat = seat; within = (k.stands.places f s.place seat).driver }

pub can_restart : (old : BookView) (b : TrayView) (many : ℕ) (p : Phase) → IsBook old → IsIdle old → Begins old.tray b [] → p ≡ b.net.phase → IsStepping p → many ≡ length old.tray.net.modules.bindings → old.tray.net.next.filter < 2 ^ 64 → many * 2 + 4 ≤ b.room.rows
    → CanRestart (record { tray = b; held = old.held }) many
can_restart old b many p k i g phase_is stepping all fits room =
    let was : IsStepping old.tray.net.phase = subst IsStepping (phase_is ∙ ap (λ (n : Net). n.phase) g.net) stepping in
    let here : IsLeft old.tray.net = is_left old k i was in
    record {
      left = subst (λ (n : Net). running_floors n < length (floors n.modules)) (sym g.net) here.left;
      bindings = all ∙ ap (λ (n : Net). length n.modules.bindings) (sym g.net);
      sits = subst (λ (n : Net). (f : ℕ) → is_in f n.modules.order ≡ true → Sits old.held.seats (length old.held.filters) f) (sym g.net) (sits_in old k i (not_halted old.tray.net.phase was));
      numbers = subst (λ (n : Net). (f : ℕ) → is_in f n.modules.order ≡ true → f + 1 < 2 ^ 64) (sym g.net)
          (λ f inside. omega (arith, below f old.tray.net.next.filter old.tray.net.modules.order here.below inside, fits));
      room = room;
    }

-- the rows of a step are rows of phases
told_phases : (told : Bool) (p : Phase) (rest : List Row) → ArePhases rest → ArePhases (phase_when told p ++ rest)
told_phases true p rest r = (record {}, r)
told_phases false p rest r = r

alone : (told : Bool) (p : Phase) → ArePhases (phase_when told p)
alone true p = (record {}, record {})
alone false p = record {}

step_phases : (net : Net) (begun : Bool) → ArePhases (next_rows net begun)
step_phases net begun =
    told_phases begun phase.Restarting _
    (twice_phases state.Restarting state.Running (record {}) (record {}) (next_floor net) (phase_when (is_top net (running_floors net)) phase.Running) (alone (is_top net (running_floors net)) phase.Running))

-- after them the stack isn't Halted
told_other : (told : Bool) (p : Phase) (net : Net) → ¬ (p ≡ phase.Halted) → ¬ (net.phase ≡ phase.Halted) → ¬ ((after_rows net (phase_when told p)).phase ≡ phase.Halted)
told_other true p net h k = h
told_other false p net h k = k

step_other : (now net : Net) (begun : Bool) → ¬ (now.phase ≡ phase.Halted) → ¬ ((after_rows now (next_rows net begun)).phase ≡ phase.Halted)
step_other now net begun other =
    let told : List Row = phase_when begun phase.Restarting in
    let moved : List Row = twice state.Restarting state.Running (next_floor net) in
    let last : List Row = phase_when (is_top net (running_floors net)) phase.Running in
    let first : Net = after_rows now told in
    let mid : Net = after_rows first moved in
    let rows : (after_rows now (next_rows net begun)).phase ≡ (after_rows mid last).phase =
    ap (λ (n : Net). n.phase) (after_rows-append now told (moved ++ last)) ∙ ap (λ (n : Net). n.phase) (after_rows-append first moved last) in
    let begun_other : ¬ (first.phase ≡ phase.Halted) = told_other begun phase.Restarting now (λ e. cc) other in
    let mid_other : ¬ (mid.phase ≡ phase.Halted) = λ e. begun_other (sym (twice_phase state.Restarting state.Running (next_floor net) first) ∙ e) in
    λ e. told_other (is_top net (running_floors net)) phase.Running mid (λ e. cc) mid_other (sym rows ∙ e)

-- while the stack isn't Halted its miniport has its port
port_of : (port : PortSetup) (held : HeldView) (p : Phase) → ¬ (p ≡ phase.Halted) → DriversFit port held p → held.miniport.port ≡ Some port
port_of port held phase.Halted other d = absurd (other refl)
port_of port held phase.Paused other d = d
port_of port held phase.Restarting other d = d
port_of port held phase.Running other d = d
port_of port held phase.Pausing other d = d

ported : (port : PortSetup) (held : HeldView) (p : Phase) → ¬ (p ≡ phase.Halted) → held.miniport.port ≡ Some port → DriversFit port held p
ported port held phase.Halted other d = absurd (other refl)
ported port held phase.Paused other d = d
ported port held phase.Restarting other d = d
ported port held phase.Running other d = d
ported port held phase.Pausing other d = d

-- what the rules have of a step
step_outcome : (net : Net) → IsStepping net.phase → restart_outcome net ≡ restart_at net (running_floors net)
step_outcome net stepping = cond-true (phase_is_paused net.phase || phase_is_restarting net.phase) _ _ (is net.phase stepping)
  where
    is : (p : Phase) → IsStepping p → (phase_is_paused p || phase_is_restarting p) ≡ true
    is phase.Halted h = absurd h
    is phase.Paused h = refl
    is phase.Restarting h = refl
    is phase.Running h = absurd h
    is phase.Pausing h = absurd h

ends_step : (old : BookView) (b : TrayView) (begun : Bool) → IsBook old → Begins old.tray b [] → IsStepping b.net.phase → Ends old (record { tray = each_written b (next_rows b.net begun); held = old.held }) (next_rows b.net begun)
ends_step old b begun k g stepping =
    let other : ¬ (b.net.phase ≡ phase.Halted) = not_halted b.net.phase stepping in
    let drivers : DriversFit b.net.head.port old.held b.net.phase = subst (λ (n : Net). DriversFit n.head.port old.held n.phase) (sym g.net) k.stands.drivers in
    ends_moved (next_rows b.net begun) k g (step_phases b.net begun)
    (ported b.net.head.port old.held (after_rows b.net (next_rows b.net begun)).phase (step_other b.net b.net begun other) (port_of b.net.head.port old.held b.net.phase other drivers))

pub restarted : (old : BookView) (b t : TrayView) (held : HeldView) (begun : Bool) (answer : Reply) (p : Phase) → IsBook old → IsIdle old → Begins old.tray b [] → p ≡ b.net.phase → IsStepping p → begun ≡ phase_is_paused p
    → t ≡ each_written b (next_rows b.net begun) → held ≡ old.held → answer ≡ next_reply b.net → DidEvent old (record { tray = t; held = held }) event.RestartNext answer
restarted old b t held begun answer p k i g phase_is steps told_at made same answered =
    let stepping : IsStepping b.net.phase = subst IsStepping phase_is steps in
    let told : begun ≡ phase_is_paused b.net.phase = told_at ∙ ap phase_is_paused phase_is in
    let rows : List Row = next_rows b.net begun in
    let ends : Ends old (record { tray = t; held = held }) rows =
    subst (λ x. Ends old (record { tray = x; held = held }) rows) (sym made)
    (subst (λ h. Ends old (record { tray = each_written b rows; held = h }) rows) (sym same) (ends_step old b begun k g stepping)) in
    let is : restart_outcome b.net ≡ restart_at b.net (running_floors b.net) = step_outcome b.net stepping in
    let was : restart_outcome old.tray.net ≡ restart_outcome b.net = ap restart_outcome (sym g.net) in
    did_event old _ rows event.RestartNext any_choice answer k i ends
    (answered ∙ ap (λ (o : Outcome). o.reply) (sym is) ∙ ap (λ (o : Outcome). o.reply) (sym was))
    (ap (next_rows b.net) told ∙ ap (λ (o : Outcome). o.rows) (sym is) ∙ ap (λ (o : Outcome). o.rows) (sym was)) refl tt (ap (λ (h : HeldView). h.shelf) same, ap (λ (h : HeldView). h.seats) same)

-- in another phase
still_outcome : (net : Net) (p : Phase) → net.phase ≡ p → ¬ (p ≡ phase.Paused) → ¬ (p ≡ phase.Restarting) → restart_outcome net ≡ refused (refusal.WrongPhase net.phase)
still_outcome net p e paused restarting =
    cond-false (phase_is_paused net.phase || phase_is_restarting net.phase) _ _ (ap (λ q. phase_is_paused q || phase_is_restarting q) e ∙ is p paused restarting)
  where
    is : (p : Phase) → ¬ (p ≡ phase.Paused) → ¬ (p ≡ phase.Restarting) → (phase_is_paused p || phase_is_restarting p) ≡ false
    is phase.Halted paused restarting = refl
    is phase.Paused paused restarting = absurd (paused refl)
    is phase.Restarting paused restarting = absurd (restarting refl)
    is phase.Running paused restarting = refl
    is phase.Pausing paused restarting = refl

pub not_restarted : (old : BookView) (t : TrayView) (now : Phase) → IsBook old → IsIdle old → Begins old.tray t [] → now ≡ t.net.phase → ¬ (now ≡ phase.Paused) → ¬ (now ≡ phase.Restarting)
    → DidEvent old (record { tray = t; held = old.held }) event.RestartNext (reply.Refused (refusal.WrongPhase now))
not_restarted old t now k i g now_is paused restarting =
    let was : now ≡ old.tray.net.phase = now_is ∙ ap (λ (n : Net). n.phase) g.net in
    let is = still_outcome old.tray.net now (sym was) paused restarting in
    did_event old _ [] event.RestartNext any_choice _ k i (ends_still t k g)
    (ap (λ p. reply.Refused (refusal.WrongPhase p)) was ∙ ap (λ (o : Outcome). o.reply) (sym is)) (ap (λ (o : Outcome). o.rows) (sym is)) refl tt (refl, refl)

-- room for a turn is left
pub turns_left : (b t : TrayView) (begun : Bool) → 1 ≤ b.room.turns → t ≡ each_written b (next_rows b.net begun) → 1 ≤ t.room.turns
turns_left b t begun turns made =
    let used = (has_written (next_rows b.net begun) b (step_phases b.net begun)).used.turns in
    omega (arith, turns, used, ap (λ (x : TrayView). x.room.turns) made)
