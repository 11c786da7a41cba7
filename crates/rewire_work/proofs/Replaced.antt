-- The event of a replacement: the new filter sits down, and the old one gets up.
use Rattle.std.proofs.Common.{◌≡◌, ℕ, zero, ◌<◌, ◌==◌, ◌||◌, Bool, true, false, cond, List, [], ◌∷◌, ◌++◌, Option, Some, None, option_map, map, length, refl, sym, ap, ◌∙◌, subst, arith, append-nil, ne_eqb, ◌⊎◌, inl, inr}
use Rattle.std.specs.List.{insert}
use Rattle.std.proofs.lemmas.Bool.{cases_eq}
use Rattle.ndis_base.specs.declared.FilterKind.{FilterKind}
use Rattle.ndis_base.specs.declared.ModuleId.{ModuleId}
use Rattle.ndis_base.specs.declared.ModuleId.TheVariants.{Miniport, Filter, Binding}
use Rattle.ndis_base.specs.declared.ModuleState.TheVariants as state
use Rattle.ndis_base.specs.declared.Phase.TheVariants as phase
use Rattle.ndis_base.specs.declared.Who.{Who}
use Rattle.journal_types.specs.declared.Event.{Event}
use Rattle.journal_types.specs.declared.Event.TheVariants as event
use Rattle.journal_types.specs.declared.Refusal.{Refusal}
use Rattle.journal_types.specs.declared.Refusal.TheVariants as refusal
use Rattle.journal_types.specs.declared.Reply.TheVariants as reply
use Rattle.journal_types.specs.declared.Row.{Row}
use Rattle.journal_types.specs.declared.Setup.{Setup}
use Rattle.stack_rules.specs.declared.Attached.{Attached}
use Rattle.stack_rules.specs.Net.{Net, after_rows, attached, with_filter, with_state}
use Rattle.stack_rules.specs.Outcome.{Outcome, refused}
use Rattle.stack_rules.specs.Pauses.{state_row}
use Rattle.stack_rules.specs.Rewires.{is_in, swapped, config_row, inserted, replaced, replace_outcome, when_attached}
use Rattle.state_laws.proofs.Takes.{attached-with_state}
use Rattle.promise_rules.specs.Drivers.{Shelf, shelf_told, shelf_in_rows, shelf_of, taken_from, with_place, without_place, driver_of}
use Rattle.driver_views.specs.States.{FilterState}
use Rattle.driver_tray.specs.Tray.{turn_of}
use Rattle.driver_calls.specs.Filters.{Refuses}
use Rattle.book_lemmas.specs.Did.{KeepsCounts}
use Rattle.book_lemmas.proofs.Keeps.{keeps_set, keeps_then}
use Rattle.book_lemmas.specs.Did.{logs_in}
use Rattle.book_lemmas.specs.Stands.{Stands, IsShelved, DriversFit}
use Rattle.book_lemmas.specs.Views.{BookView, HeldView, filter_at, seat_of}
use Rattle.book_lemmas.proofs.Goes.{used_none}
use Rattle.book_parts.specs.Events.{IsBook, IsIdle, DidEvent}
use Rattle.book_parts.proofs.Events.{did_event, ends_still}
use Rattle.rewire_work.specs.Refusals.{rewire_refusal, refused_or}
use Rattle.rewire_work.specs.Rested.{IsAtRest}
use Rattle.rewire_work.specs.Seated.{took_state, seated, unseated, set_up, put_down, pool_for, replaced_tray}
use Rattle.book_lemmas.specs.Shelves.{FollowsShelf}
use Rattle.rewire_work.proofs.Balking.{did_still}
use Rattle.rewire_work.proofs.Causes.{attaches, refuses, lacks, taken, balked, lacking, replace_is, paused_first, is_there}
use Rattle.rewire_work.proofs.Asking.{rewire_asks, not_exchanged}
use Rattle.rewire_work.proofs.Inserted.{IsFirst, next_free, first_taken, ends_took, has_balked}
use Rattle.rewire_work.proofs.Inserting.{stands_inserted, was_there}
use Rattle.rewire_work.proofs.Orders.{less, attached_gone, attached_less, in_below}
use Rattle.rewire_work.proofs.Removed.{is_sitting, may_rise}
use Rattle.rewire_work.proofs.Reseated.{stands_reseated}
use Rattle.rewire_work.proofs.Rewired.{did_rewire}
use Rattle.rewire_work.proofs.Rising.{MayRise, are_left, left, theirs_unseated}
use Rattle.rewire_work.proofs.Shelving.{kinds_of, shelf_then, kinds_same, driver_new, driver_old, follows_still}
use Rattle.rewire_work.proofs.Sitting.{MaySit, here, there}

-- refused before a driver is asked
pub did_not_replace : (old : BookView) (f : ℕ) (kind : FilterKind) (setup : Setup) (cause : Refusal) → IsBook old → IsIdle old → rewire_refusal old.tray.net f ≡ Some cause
    → DidEvent old old (event.Replace f kind setup) (reply.Refused cause)
did_not_replace old f kind setup cause k i e =
    let is : replace_outcome old.tray.net f attaches ≡ refused cause = replace_is old.tray.net f attaches ∙ ap (λ c. refused_or c (when_attached attaches (replaced old.tray.net f))) e in
    did_event old old [] (event.Replace f kind setup) attaches (reply.Refused cause) k i
    (ends_still old.tray k (record { head = refl; turns = refl; told_by = refl; net = refl; rows = refl; queue = refl; used = used_none old.tray }))
    (sym (ap (λ (o : Outcome). o.reply) is)) (sym (ap (λ (o : Outcome). o.rows) is)) refl
    (not_exchanged f kind setup cause old.held old.held (λ c. rewire_asks old.tray.net f (e ∙ ap (λ x. Some x) c))) tt

pub did_lack_one : (old : BookView) (f : ℕ) (kind : FilterKind) (setup : Setup) → IsBook old → IsIdle old → rewire_refusal old.tray.net f ≡ None
    → DidEvent old old (event.Replace f kind setup) (reply.Refused refusal.ShelfEmpty)
did_lack_one old f kind setup k i e =
    let is : replace_outcome old.tray.net f lacks ≡ refused refusal.ShelfEmpty =
    replace_is old.tray.net f lacks ∙ ap (λ c. refused_or c (when_attached lacks (replaced old.tray.net f))) e ∙ lacking (replaced old.tray.net f) in
    did_event old old [] (event.Replace f kind setup) lacks (reply.Refused refusal.ShelfEmpty) k i
    (ends_still old.tray k (record { head = refl; turns = refl; told_by = refl; net = refl; rows = refl; queue = refl; used = used_none old.tray }))
    (sym (ap (λ (o : Outcome). o.reply) is)) (sym (ap (λ (o : Outcome). o.rows) is)) refl tt tt

pub shelf_not_replaced : (old : BookView) (f : ℕ) (kind : FilterKind) (setup : Setup) (cause : Refusal) → IsIdle old → FollowsShelf old old (event.Replace f kind setup) (reply.Refused cause)
shelf_not_replaced old f kind setup cause i = follows_still old old _ _ i.rows refl refl refl refl refl (λ kinds shelf. refl)

pub did_balk_replaced : (old : BookView) (f : ℕ) (kind : FilterKind) (setup : Setup) (place : ℕ) (s : FilterState) → IsBook old → IsIdle old → rewire_refusal old.tray.net f ≡ None → IsFirst old kind place
    → Refuses (filter_at old.held.filters (Some place)) s → DidEvent old (record { tray = old.tray; held = took_state old.held place s }) (event.Replace f kind setup) (reply.Refused refusal.AttachRefused)
did_balk_replaced old f kind setup place s k i e first r =
    let is : replace_outcome old.tray.net f refuses ≡ refused refusal.AttachRefused =
    replace_is old.tray.net f refuses ∙ ap (λ c. refused_or c (when_attached refuses (replaced old.tray.net f))) e ∙ balked (replaced old.tray.net f) in
    did_event old (record { tray = old.tray; held = took_state old.held place s }) [] (event.Replace f kind setup) refuses (reply.Refused refusal.AttachRefused) k i
    (ends_took old kind place s k i (paused_first old.tray.net _ e) first r)
    (sym (ap (λ (o : Outcome). o.reply) is)) (sym (ap (λ (o : Outcome). o.rows) is)) refl (has_balked old kind place s first r) tt

pub shelf_balked_replaced : (old : BookView) (f : ℕ) (kind : FilterKind) (setup : Setup) (place : ℕ) (s : FilterState) → IsIdle old → Refuses (filter_at old.held.filters (Some place)) s
    → FollowsShelf old (record { tray = old.tray; held = took_state old.held place s }) (event.Replace f kind setup) (reply.Refused refusal.AttachRefused)
shelf_balked_replaced old f kind setup place s i r =
    follows_still old (record { tray = old.tray; held = took_state old.held place s }) _ _ i.rows refl refl refl refl
    (kinds_same old.held.filters place s (ap (λ (x : FilterState). x.kind) r.same)) (λ kinds shelf. refl)

-- the order with another filter in the place of one
in_swapped : (f n g : ℕ) (fs : List ℕ) → is_in g (map (swapped f n) fs) ≡ true → (g ≡ f) ⊎ (is_in g (insert fs zero n) ≡ true)
in_swapped f n g [] h = cc
in_swapped f n g (x ∷ fs) h = cases (x == f) h (in_swapped f n g fs)
  where
    later : (a b c : Bool) → (b || c) ≡ true → (b || (a || c)) ≡ true
    later a true c h = refl
    later true false c h = refl
    later false false c h = h

    front : (a b : Bool) → a ≡ true → (a || b) ≡ true
    front true b h = refl
    front false b h = cc

    or_later : (a c d : Bool) → (a || c) ≡ true → (a ≡ true → (g ≡ f) ⊎ (d ≡ true)) → (c ≡ true → (g ≡ f) ⊎ (d ≡ true)) → (g ≡ f) ⊎ (d ≡ true)
    or_later true c d h k l = k refl
    or_later false c d h k l = l h

    keeps : (g ≡ f) ⊎ (((n == g) || is_in g fs) ≡ true) → (g ≡ f) ⊎ (((n == g) || ((x == g) || is_in g fs)) ≡ true)
    keeps (inl e) = inl e
    keeps (inr i) = inr (later (x == g) (n == g) (is_in g fs) i)

    second : (a b c : Bool) → b ≡ true → (a || (b || c)) ≡ true
    second true b c h = refl
    second false true c h = refl
    second false false c h = cc

    cases : (b : Bool) → ((cond b n x == g) || is_in g (map (swapped f n) fs)) ≡ true → (is_in g (map (swapped f n) fs) ≡ true → (g ≡ f) ⊎ (((n == g) || is_in g fs) ≡ true))
        → (g ≡ f) ⊎ (((n == g) || ((x == g) || is_in g fs)) ≡ true)
    cases true h rest = or_later (n == g) (is_in g (map (swapped f n) fs)) ((n == g) || ((x == g) || is_in g fs)) h (λ t. inr (front (n == g) ((x == g) || is_in g fs) t)) (λ i. keeps (rest i))
    cases false h rest = or_later (x == g) (is_in g (map (swapped f n) fs)) ((n == g) || ((x == g) || is_in g fs)) h (λ t. inr (second (n == g) (x == g) (is_in g fs) t)) (λ i. keeps (rest i))

-- the filters that are attached, once the new one took its two states
abbrev set_two : ℕ → List Attached → List Attached
set_two n entries = map (with_state n state.Paused) (map (with_state n state.Attaching) entries)

abbrev two_states : ℕ → Option Attached → Option Attached
two_states n o = option_map (with_state n state.Paused) (option_map (with_state n state.Attaching) o)

set_attached : (g n : ℕ) (entries : List Attached) → attached g (set_two n entries) ≡ two_states n (attached g entries)
set_attached g n entries = attached-with_state g n state.Paused (map (with_state n state.Attaching) entries) ∙ ap (option_map (with_state n state.Paused)) (attached-with_state g n state.Attaching entries)

module _ (old : BookView) (f : ℕ) (kind : FilterKind) (setup : Setup) (place q : ℕ) (k : IsBook old) (i : IsIdle old) (rest : IsAtRest old.tray.net) (quiet : rewire_refusal old.tray.net f ≡ None) (first : IsFirst old kind place) (seat : seat_of old.held.seats f ≡ Some q) (free : seat_of old.held.seats old.tray.net.next.filter ≡ None) where
  abbrev n : ℕ
  n = old.tray.net.next.filter

  abbrev s : FilterState
  s = set_up (filter_at old.held.filters (Some place)) setup

  abbrev sat : HeldView
  sat = seated old.held n place s (pool_for setup)

  abbrev d : FilterState
  d = put_down (filter_at sat.filters (Some q))

  abbrev new : BookView
  new = record { tray = replaced_tray old.tray f kind setup; held = unseated sat f q d }

  abbrev e : Event
  e = event.Replace f kind setup

  abbrev told_net : Net
  told_net = with_filter n kind setup old.tray.net

  abbrev rows : List Row
  rows = (replaced old.tray.net f).rows

  abbrev mid : Net
  mid = after_rows told_net (inserted old.tray.net 1).rows

  abbrev now : Net
  now = after_rows told_net rows

  may_sit : MaySit old.held n place s (pool_for setup)
  may_sit = record { is = first.on; free = free; kept = first.rests.kept; empty = refl }

  paused : old.tray.net.phase ≡ phase.Paused
  paused = paused_first old.tray.net _ quiet

  other : f ≡ n → ⊥
  other same = below_self n (subst (λ x. x < n) same (in_below f n old.tray.net.modules.order rest.wired.below (is_there old.tray.net f quiet)))
    where
      below_self : (m : ℕ) → m < m → ⊥
      below_self m h = omega (arith, h)

  mid_stands : Stands mid old.tray.queue sat []
  mid_stands = stands_inserted old.tray.net rest kind setup old.held place s (pool_for setup) may_sit first.kind_is refl 1 k.stands paused refl refl

  sat_seat : seat_of sat.seats f ≡ Some q
  sat_seat = there old.held n place s (pool_for setup) may_sit f other ∙ seat

  may : MayRise sat f q d
  may = may_rise f q mid_stands rest.nothing sat_seat

  away : attached f now.modules.filters ≡ None
  away = set_attached f n (less f told_net.modules.filters) ∙ ap (two_states n) (attached_gone f told_net.modules.filters)

  others : (g : ℕ) → (g ≡ f → ⊥) → attached g now.modules.filters ≡ attached g mid.modules.filters
  others g ne = set_attached g n (less f told_net.modules.filters) ∙ ap (two_states n) (attached_less g f told_net.modules.filters ne) ∙ sym (set_attached g n told_net.modules.filters)

  stands : Stands now old.tray.queue new.held []
  stands =
      stands_reseated mid now old.tray.queue sat new.held mid_stands rest.nothing (record { head = refl; bindings = refl; things = refl; next = refl }) (theirs_unseated sat f q d)
      (are_left sat f q d may {net = mid} {now = now} {queue = old.tray.queue} mid_stands rest.nothing away others (λ g at. in_swapped f n g old.tray.net.modules.order at))
      (subst (DriversFit old.tray.net.head.port new.held) (sym paused) drivers)
    where
      drivers : DriversFit old.tray.net.head.port old.held phase.Paused
      drivers = subst (DriversFit old.tray.net.head.port old.held) paused k.stands.drivers

  rows_are : new.tray.rows ≡ rows
  rows_are =
      ap (λ rs. (((rs ++ state_row state.Detached (Filter f) ∷ []) ++ state_row state.Attaching (Filter n) ∷ []) ++ state_row state.Paused (Filter n) ∷ []) ++ config_row old.tray.net (map (swapped f n) old.tray.net.modules.order) ∷ []) i.rows

  outcome_is : replace_outcome old.tray.net f attaches ≡ replaced old.tray.net f
  outcome_is = replace_is old.tray.net f attaches ∙ ap (λ c. refused_or c (when_attached attaches (replaced old.tray.net f))) quiet ∙ taken (replaced old.tray.net f)

  no_logs : (m : ModuleId) → logs_in m rows ≡ []
  no_logs Miniport = refl
  no_logs (Filter g) = refl
  no_logs (Binding b) = refl

  did_same : (p : ℕ) → (filter_at new.held.filters (Some p)).did ≡ (filter_at old.held.filters (Some p)).did
  did_same p = did_still sat.filters q d may.is.driver refl p (cases_eq p q) ∙ did_still old.held.filters place s first.on.is.driver refl p (cases_eq p place)

  keeps : KeepsCounts old.held new.held
  keeps =
      keeps_then old.held sat new.held
      (keeps_set old.held sat place s (omega arith) refl first.on.is.driver refl (omega arith))
      (keeps_set sat new.held q d (omega arith) refl may.is.driver refl (omega arith))

  pub did_replace : DidEvent old new e (reply.Replaced n)
  did_replace =
      let four : length rows ≡ 4 = refl in
      did_rewire old new e (reply.Replaced n) attaches rows k i
      (record {
        head = refl;
        turns = refl;
        tells = refl;
        net = refl;
        rows_are = rows_are;
        used = record {
          rows_used = omega (arith, four);
          frames = omega arith;
          bytes = omega arith;
          slack = omega arith;
          turns = omega arith;
          payloads = record { frames = ([], sym (append-nil _)); filters = (map (swapped f n) old.tray.net.modules.order, refl); setups = ([], sym (append-nil _)) };
        };
        calls = refl;
        logs = no_logs;
        counts = record { miniport = refl; protocols = λ j. refl; filters = did_same; keeps = keeps };
        stands = stands;
      })
      (sym (ap (λ (o : Outcome). o.reply) outcome_is)) (sym (ap (λ (o : Outcome). o.rows) outcome_is)) tt tt

  abbrev shelf : Shelf
  shelf = shelf_of (kinds_of old.held) old.tray.turns

  same_kinds : kinds_of new.held ≡ kinds_of old.held
  same_kinds = kinds_same sat.filters q d refl ∙ kinds_same old.held.filters place s refl

  -- its driver is the one that is promised
  same_driver : IsShelved old.tray.net old.tray.turns old.held → driver_of (shelf.drivers ++ (n, place) ∷ []) f ≡ Some q
  same_driver was =
      let at = is_sitting old f k rest (is_there old.tray.net f quiet) in
      driver_old shelf.drivers n place f (ne_eqb n f (λ e. other (sym e))) ∙ sym (was.seats f at.entry at.there) ∙ seat

  after_shelf : (who : Who) → IsShelved old.tray.net old.tray.turns old.held
      → shelf_of (kinds_of new.held) (new.tray.turns ++ turn_of new.tray who e (reply.Replaced n) ∷ []) ≡ record { places = with_place (without_place place shelf.places) (Some q); drivers = shelf.drivers ++ (n, place) ∷ [] }
  after_shelf who was =
      shelf_then (kinds_of new.held) old.tray.turns (turn_of new.tray who e (reply.Replaced n))
      ∙ ap (λ rs. shelf_in_rows rs (shelf_told (kinds_of new.held) e (reply.Replaced n) (shelf_of (kinds_of new.held) old.tray.turns))) rows_are
      ∙ ap (λ ks. shelf_in_rows rows (shelf_told ks e (reply.Replaced n) (shelf_of ks old.tray.turns))) same_kinds
      ∙ ap (λ o. shelf_in_rows rows (taken_from n shelf o)) (first_taken old kind place k was first)
      ∙ ap (λ o. record { places = with_place (without_place place shelf.places) o; drivers = shelf.drivers ++ (n, place) ∷ [] }) (same_driver was)

  none_there : (a : Attached) (o : Option Attached) → o ≡ None → o ≡ Some a → ⊥
  none_there a o none some = cc

  seat_by : IsShelved old.tray.net old.tray.turns old.held → (g : ℕ) (a : Attached) → attached g now.modules.filters ≡ Some a → (g ≡ f → ⊥) → (g ≡ n) ⊎ (g ≡ n → ⊥)
      → seat_of sat.seats g ≡ driver_of (shelf.drivers ++ (n, place) ∷ []) g
  seat_by was g a at ne (inl same) =
      ap (seat_of sat.seats) same ∙ here old.held n place s (pool_for setup) may_sit ∙ sym (driver_new shelf.drivers n place (next_free old k i)) ∙ ap (driver_of (shelf.drivers ++ (n, place) ∷ [])) (sym same)
  seat_by was g a at ne (inr no_new) =
      let w = was_there old.tray.net rest kind setup g a (sym (others g ne) ∙ at) no_new in
      there old.held n place s (pool_for setup) may_sit g no_new ∙ was.seats g w.0 w.1 ∙ sym (driver_old shelf.drivers n place g (ne_eqb n g (λ e. no_new (sym e))))

  seat_shelved : IsShelved old.tray.net old.tray.turns old.held → (g : ℕ) (a : Attached) → attached g now.modules.filters ≡ Some a → (g ≡ f) ⊎ (g ≡ f → ⊥)
      → seat_of new.held.seats g ≡ driver_of (shelf.drivers ++ (n, place) ∷ []) g
  seat_shelved was g a at (inl same) = absurd (none_there a (attached f now.modules.filters) away (ap (λ k. attached k now.modules.filters) (sym same) ∙ at))
  seat_shelved was g a at (inr ne) = left sat f q d may g ne ∙ seat_by was g a at ne (cases_eq g n)

  pub shelf_replace : FollowsShelf old new e (reply.Replaced n)
  shelf_replace = record {
    shelved = λ who was. record {
      shelf = ap (λ ps. without_place place ps ++ q ∷ []) was.shelf ∙ ap (λ (x : Shelf). x.places) (sym (after_shelf who was));
      seats = λ g a at. seat_shelved was g a at (cases_eq g f) ∙ ap (λ (x : Shelf). driver_of x.drivers g) (sym (after_shelf who was));
    };
  }
