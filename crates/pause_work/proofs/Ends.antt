-- A pause goes on: the book stands again, and the rows are those of the event.
use Rattle.std.proofs.Common.{◌≡◌, ℕ, ◌+◌, ◌≤◌, ◌<◌, false, [], Option, refl, sym, ap, ◌∙◌, subst, arith}
use Rattle.ndis_base.specs.declared.Phase.{Phase}
use Rattle.ndis_base.specs.declared.Phase.TheVariants as phase
use Rattle.journal_types.specs.declared.Event.TheVariants as event
use Rattle.journal_types.specs.declared.Refusal.TheVariants as refusal
use Rattle.journal_types.specs.declared.Reply.{Reply}
use Rattle.journal_types.specs.declared.Reply.TheVariants as reply
use Rattle.stack_rules.specs.declared.Choice.{Choice}
use Rattle.stack_rules.specs.Net.{Net, after_rows}
use Rattle.stack_rules.specs.Outcome.{Outcome}
use Rattle.stack_rules.specs.Places.{outstanding}
use Rattle.stack_rules.specs.Pauses.{first_unpaused}
use Rattle.driver_tray.specs.Tray.{TrayView}
use Rattle.book_lemmas.specs.Stands.{DriversFit}
use Rattle.book_lemmas.specs.Views.{BookView, HeldView}
use Rattle.book_parts.specs.Events.{IsBook, IsIdle, DidEvent}
use Rattle.book_parts.proofs.Events.{Begins, Ends, did_event, ends_still}
use Rattle.phase_work.specs.Written.{each_written}
use Rattle.phase_work.proofs.Written.{ends_moved, has_written}
use Rattle.pause_work.specs.declared.floor.Floor.{Floor}
use Rattle.pause_work.specs.Positions.{IsAt, IsFound, next_reply, rows_of}
use Rattle.pause_work.specs.Hands.{all_count}
use Rattle.pause_work.proofs.Fronts.{counted}
use Rattle.pause_work.proofs.Rows.{rows_phases, drivers_after, paused_rows_are, paused_reply_is, waiting_outcome, still_outcome}

-- what no driver is asked
any_choice : Choice
any_choice = record { keeps = false; refuses = false; shelf_empty = false }

paused : (old : BookView) (b t : TrayView) (f : Floor) (next : Option Floor) → IsBook old → IsIdle old → Begins old.tray b [] → old.tray.net.phase ≡ phase.Pausing → outstanding old.tray.net (first_unpaused old.tray.net) ≡ 0
    → IsAt old.tray.net.modules (first_unpaused old.tray.net) f → IsFound old.tray.net.modules (first_unpaused old.tray.net + 1) next → t ≡ each_written b (rows_of f next)
    → DidEvent old (record { tray = t; held = old.held }) event.PauseNext (next_reply next)
paused old b t f next k i g e none at below made =
    let rows = rows_of f next in
    let drivers : DriversFit b.net.head.port old.held (after_rows b.net rows).phase =
    subst (λ (n : Net). DriversFit n.head.port old.held (after_rows n rows).phase) (sym g.net) (drivers_after old.tray.net old.tray.net.head.port old.held f next e k.stands.drivers) in
    did_event old _ rows event.PauseNext any_choice (next_reply next) k i
    (subst (λ x. Ends old (record { tray = x; held = old.held }) rows) (sym made) (ends_moved rows k g (rows_phases f next) drivers))
    (paused_reply_is old.tray.net next e none below) (paused_rows_are old.tray.net f next e none at below) refl tt (refl, refl)

waits : (old : BookView) (t : TrayView) (n : ℕ) → IsBook old → IsIdle old → Begins old.tray t [] → old.tray.net.phase ≡ phase.Pausing → n ≡ outstanding old.tray.net (first_unpaused old.tray.net) → 0 < n
    → DidEvent old (record { tray = t; held = old.held }) event.PauseNext (reply.Waiting n)
waits old t n k i g e is some =
    let out = waiting_outcome old.tray.net n e is some in
    did_event old _ [] event.PauseNext any_choice (reply.Waiting n) k i (ends_still t k g) (ap (λ (o : Outcome). o.reply) (sym out)) (ap (λ (o : Outcome). o.rows) (sym out)) refl tt (refl, refl)

pub not_paused : (old : BookView) (t : TrayView) (now : Phase) → IsBook old → IsIdle old → Begins old.tray t [] → now ≡ old.tray.net.phase → ¬ (now ≡ phase.Pausing)
    → DidEvent old (record { tray = t; held = old.held }) event.PauseNext (reply.Refused (refusal.WrongPhase now))
not_paused old t now k i g is still =
    let out = still_outcome old.tray.net (λ e. still (is ∙ e)) in
    did_event old _ [] event.PauseNext any_choice _ k i (ends_still t k g)
    (ap (λ p. reply.Refused (refusal.WrongPhase p)) is ∙ ap (λ (o : Outcome). o.reply) (sym out)) (ap (λ (o : Outcome). o.rows) (sym out)) refl tt (refl, refl)

-- where the drivers are as they were, and for the reply that is given
given : (old : BookView) (t : TrayView) (held : HeldView) (answer r : Reply) → held ≡ old.held → r ≡ answer → DidEvent old (record { tray = t; held = old.held }) event.PauseNext answer
    → DidEvent old (record { tray = t; held = held }) event.PauseNext r
given old t held answer r same is d =
    subst (λ a. DidEvent old (record { tray = t; held = held }) event.PauseNext a) (sym is) (subst (λ h. DidEvent old (record { tray = t; held = h }) event.PauseNext answer) (sym same) d)

-- the first position that isn't Paused has something in hand, or nothing
pub stays : (old : BookView) (t : TrayView) (f : Floor) (n i : ℕ) → IsBook old → IsIdle old → Begins old.tray t [] → old.tray.net.phase ≡ phase.Pausing → i ≡ first_unpaused old.tray.net
    → IsAt old.tray.net.modules i f → n ≡ all_count old i f → 0 < n → DidEvent old (record { tray = t; held = old.held }) event.PauseNext (reply.Waiting n)
stays old t f n i k d g e is at count some = waits old t n k d g e (counted old f n i k d e is at count) some

pub goes_on : (old : BookView) (b t : TrayView) (held : HeldView) (f : Floor) (next : Option Floor) (n i : ℕ) (r : Reply) → IsBook old → IsIdle old → Begins old.tray b [] → old.tray.net.phase ≡ phase.Pausing → i ≡ first_unpaused old.tray.net
    → IsAt old.tray.net.modules i f → IsFound old.tray.net.modules (i + 1) next → n ≡ all_count old i f → n ≤ 0 → t ≡ each_written b (rows_of f next) → held ≡ old.held → r ≡ next_reply next
    → DidEvent old (record { tray = t; held = held }) event.PauseNext r
goes_on old b t held f next n i r k d g e is at below count none made same answer =
    let empty : outstanding old.tray.net (first_unpaused old.tray.net) ≡ 0 = omega (arith, counted old f n i k d e is at count, none) in
    given old t held (next_reply next) r same answer
    (paused old b t f next k d g e empty (subst (λ j. IsAt old.tray.net.modules j f) is at) (subst (λ j. IsFound old.tray.net.modules (j + 1) next) is below) made)

-- room for a turn is left
pub turns_left : (b t : TrayView) (f : Floor) (next : Option Floor) → 1 ≤ b.room.turns → t ≡ each_written b (rows_of f next) → 1 ≤ t.room.turns
turns_left b t f next turns made =
    let used = (has_written (rows_of f next) b (rows_phases f next)).used.turns in
    omega (arith, turns, used, ap (λ (x : TrayView). x.room.turns) made)
