-- The event of an insertion.
use Rattle.std.proofs.Common.{◌≡◌, ℕ, ◌-◌, ◌<◌, Bool, true, false, cond, List, [], ◌∷◌, ◌++◌, Some, None, find, length, refl, sym, ap, ◌∙◌, subst, All, arith, append-nil, ne_eqb, ◌⊎◌, inl, inr, ◌≤◌, get_or-set_same}
use Rattle.std.specs.List.{insert}
use Rattle.std.proofs.lemmas.Bool.{cases_eq}
use Rattle.std.proofs.lemmas.List.Elements.{All-head, All-tail, All-weaker}
use Rattle.ndis_base.specs.declared.FilterKind.{FilterKind}
use Rattle.ndis_base.specs.declared.FilterKind.TheVariants as filter_kind
use Rattle.ndis_base.specs.declared.ModuleId.{ModuleId}
use Rattle.ndis_base.specs.declared.ModuleId.TheVariants.{Miniport, Filter, Binding}
use Rattle.ndis_base.specs.declared.ModuleState.TheVariants as state
use Rattle.ndis_base.specs.declared.Phase.TheVariants as phase
use Rattle.ndis_base.specs.declared.Who.{Who}
use Rattle.journal_types.specs.declared.Event.{Event}
use Rattle.journal_types.specs.declared.Event.TheVariants as event
use Rattle.journal_types.specs.declared.Refusal.{Refusal}
use Rattle.journal_types.specs.declared.Refusal.TheVariants as refusal
use Rattle.journal_types.specs.declared.Reply.TheVariants as reply
use Rattle.journal_types.specs.declared.Row.{Row}
use Rattle.journal_types.specs.declared.Setup.{Setup}
use Rattle.stack_rules.specs.declared.Attached.{Attached}
use Rattle.stack_rules.specs.Net.{Net, seen, told, after_rows, attached, with_filter}
use Rattle.stack_rules.specs.Outcome.{Outcome, refused}
use Rattle.stack_rules.specs.Pauses.{state_row}
use Rattle.stack_rules.specs.Rewires.{config_row, inserted, insert_outcome, when_attached}
use Rattle.promise_rules.specs.Drivers.{Shelf, same_filter_kind, shelf_told, shelf_in_rows, shelf_of, taken_from, driver_of, is_of_kind, without_place}
use Rattle.driver_views.specs.States.{FilterState, IsRisen}
use Rattle.driver_tray.specs.Tray.{turn_of}
use Rattle.driver_calls.specs.Filters.{Refuses}
use Rattle.book_lemmas.proofs.Keeps.{keeps_set, risen_most}
use Rattle.rewire_work.proofs.Asking.{insert_asks, not_inserted}
use Rattle.book_lemmas.specs.Did.{Did, logs_in}
use Rattle.book_lemmas.specs.Follows.{Follows}
use Rattle.book_lemmas.specs.Stands.{IsResting, IsShelved}
use Rattle.book_lemmas.specs.Turns.{HasUsed}
use Rattle.book_lemmas.specs.Views.{BookView, HeldView, no_filter, filter_at, seat_of, IsOnShelf}
use Rattle.book_lemmas.proofs.Goes.{used_none}
use Rattle.book_parts.specs.Events.{IsBook, IsIdle, DidEvent, begun_with}
use Rattle.book_parts.proofs.Ended.{idle_state}
use Rattle.book_parts.proofs.Events.{Ends, did_event, ends_still}
use Rattle.phase_work.specs.Written.{CountsNothing}
use Rattle.phase_work.proofs.Written.{did_nothing}
use Rattle.rewire_work.specs.Refusals.{insert_refusal, refused_or}
use Rattle.rewire_work.specs.Rested.{IsAtRest}
use Rattle.rewire_work.specs.Seated.{is_kind_at, took_state, seated, set_up, pool_for, inserted_tray}
use Rattle.book_lemmas.specs.Shelves.{FollowsShelf, HasBalked}
use Rattle.rewire_work.proofs.Balking.{stands_took, did_still}
use Rattle.rewire_work.proofs.Causes.{attaches, refuses, lacks, taken, balked, lacking, insert_is, paused_first}
use Rattle.rewire_work.proofs.Fresh.{AreBelow, shelf_below, none_below}
use Rattle.rewire_work.proofs.Inserting.{stands_inserted, was_there}
use Rattle.rewire_work.proofs.Rested.{at_rest}
use Rattle.rewire_work.proofs.Shelving.{kinds_of, shelf_then, kinds_same, find_same, driver_new, driver_old, follows_still}
use Rattle.rewire_work.proofs.Sitting.{MaySit, here, there}

-- what is found passes the test, and what holds of all holds of it
pub record IsFound (P : ℕ → Type 0) (test : ℕ → Bool) (x : ℕ) : Type 0 where
  pub all : P x
  pub passes : test x ≡ true

pub found_in : (P : ℕ → Type 0) (test : ℕ → Bool) (xs : List ℕ) (x : ℕ) → All P xs → find test xs ≡ Some x → IsFound P test x
found_in P test [] x h e = cc
found_in P test (y ∷ ys) x h e = cases (test y) refl e (found_in P test ys x (All-tail P y ys h))
  where
    cases : (b : Bool) → test y ≡ b → cond b (Some y) (find test ys) ≡ Some x → (find test ys ≡ Some x → IsFound P test x) → IsFound P test x
    cases true t e rest = let same : y ≡ x = cc in record { all = subst P same (All-head P y ys h); passes = subst (λ z. test z ≡ true) same t }
    cases false t e rest = rest e

same_kind : (a b : FilterKind) → same_filter_kind a b ≡ true → a ≡ b
same_kind filter_kind.Pass filter_kind.Pass h = refl
same_kind filter_kind.Pass _ h = cc
same_kind filter_kind.Rule filter_kind.Rule h = refl
same_kind filter_kind.Rule _ h = cc
same_kind filter_kind.Hold filter_kind.Hold h = refl
same_kind filter_kind.Hold _ h = cc
same_kind filter_kind.Tag filter_kind.Tag h = refl
same_kind filter_kind.Tag _ h = cc
same_kind filter_kind.Count filter_kind.Count h = refl
same_kind filter_kind.Count _ h = cc
same_kind filter_kind.Classify filter_kind.Classify h = refl
same_kind filter_kind.Classify _ h = cc

-- the driver that was found on the shelf
pub record IsFirst (old : BookView) (kind : FilterKind) (place : ℕ) : Type 0 where
  pub on : IsOnShelf old.held place
  pub kind_is : (filter_at old.held.filters (Some place)).kind ≡ kind
  pub rests : IsResting (filter_at old.held.filters (Some place))
  pub found : find (is_kind_at kind old.held.filters) old.held.shelf ≡ Some place

pub is_first : (old : BookView) (kind : FilterKind) (place : ℕ) → IsBook old → find (is_kind_at kind old.held.filters) old.held.shelf ≡ Some place → IsFirst old kind place
is_first old kind place k e =
    let found = found_in (IsOnShelf old.held) (is_kind_at kind old.held.filters) old.held.shelf place k.stands.shelved e in
    record {
      on = found.all;
      kind_is = same_kind (filter_at old.held.filters (Some place)).kind kind found.passes;
      rests = k.stands.resting place found.all.vacant;
      found = e;
    }

-- refused before a driver is asked
pub did_refused : (old : BookView) (kind : FilterKind) (position : ℕ) (setup : Setup) (cause : Refusal) → IsBook old → IsIdle old → insert_refusal old.tray.net position ≡ Some cause
    → DidEvent old old (event.Insert kind position setup) (reply.Refused cause)
did_refused old kind position setup cause k i e =
    let is : insert_outcome old.tray.net position attaches ≡ refused cause = insert_is old.tray.net position attaches ∙ ap (λ c. refused_or c (when_attached attaches (inserted old.tray.net position))) e in
    did_event old old [] (event.Insert kind position setup) attaches (reply.Refused cause) k i (same_ends old k)
    (sym (ap (λ (o : Outcome). o.reply) is)) (sym (ap (λ (o : Outcome). o.rows) is)) refl
    (not_inserted kind position setup cause old.held old.held (λ c. insert_asks old.tray.net position (e ∙ ap (λ x. Some x) c))) tt
  where
    same_ends : (b : BookView) → IsBook b → Ends b b []
    same_ends b k = ends_still b.tray k (record { head = refl; turns = refl; told_by = refl; net = refl; rows = refl; queue = refl; used = used_none b.tray })

-- no driver of the kind stands on the shelf
pub did_lack : (old : BookView) (kind : FilterKind) (position : ℕ) (setup : Setup) → IsBook old → IsIdle old → insert_refusal old.tray.net position ≡ None
    → DidEvent old old (event.Insert kind position setup) (reply.Refused refusal.ShelfEmpty)
did_lack old kind position setup k i e =
    let is : insert_outcome old.tray.net position lacks ≡ refused refusal.ShelfEmpty =
    insert_is old.tray.net position lacks ∙ ap (λ c. refused_or c (when_attached lacks (inserted old.tray.net position))) e ∙ lacking (inserted old.tray.net position) in
    did_event old old [] (event.Insert kind position setup) lacks (reply.Refused refusal.ShelfEmpty) k i
    (ends_still old.tray k (record { head = refl; turns = refl; told_by = refl; net = refl; rows = refl; queue = refl; used = used_none old.tray }))
    (sym (ap (λ (o : Outcome). o.reply) is)) (sym (ap (λ (o : Outcome). o.rows) is)) refl tt tt

pub shelf_refused : (old : BookView) (kind : FilterKind) (position : ℕ) (setup : Setup) (cause : Refusal) → IsIdle old → FollowsShelf old old (event.Insert kind position setup) (reply.Refused cause)
shelf_refused old kind position setup cause i = follows_still old old _ _ i.rows refl refl refl refl refl (λ kinds shelf. refl)

-- the driver refused
counts_took : (held : HeldView) (place : ℕ) (s : FilterState) → place < length held.filters → s.did ≡ (filter_at held.filters (Some place)).did → s.kind ≡ (filter_at held.filters (Some place)).kind
    → (filter_at held.filters (Some place)).refusals ≤ s.refusals → CountsNothing held (took_state held place s)
counts_took held place s within same kind rose = record {
  miniport = refl;
  protocols = λ i. refl;
  filters = λ q. did_still held.filters place s within same q (cases_eq q place);
  keeps = keeps_set held (took_state held place s) place s (omega arith) refl within kind rose;
}

pub ends_took : (old : BookView) (kind : FilterKind) (place : ℕ) (s : FilterState) → IsBook old → IsIdle old → old.tray.net.phase ≡ phase.Paused → IsFirst old kind place
    → Refuses (filter_at old.held.filters (Some place)) s → Ends old (record { tray = old.tray; held = took_state old.held place s }) []
ends_took old kind place s k i paused first r =
    let rests : IsResting s = record { setup = ap (λ (x : FilterState). x.setup) r.same ∙ first.rests.setup; kept = ap (λ (x : FilterState). x.kept) r.same ∙ first.rests.kept } in
    let counts : CountsNothing old.held (took_state old.held place s) =
    counts_took old.held place s first.on.is.driver (ap (λ (x : FilterState). x.did) r.same) (ap (λ (x : FilterState). x.kind) r.same) (risen_most (filter_at old.held.filters (Some place)).refusals s.refusals r.rose) in
    record {
      head = refl;
      turns = refl;
      told_by = refl;
      net = refl;
      rows_are = sym (append-nil old.tray.rows);
      used = used_none old.tray;
      did = did_nothing old.held.seats old.held (took_state old.held place s) old.tray.net [] refl (λ m. refl) counts;
      stands = stands_took place s k.stands (at_rest old k i paused).nothing paused first.on rests;
    }

pub has_balked : (old : BookView) (kind : FilterKind) (place : ℕ) (s : FilterState) → IsFirst old kind place → Refuses (filter_at old.held.filters (Some place)) s → HasBalked kind old.held (took_state old.held place s)
has_balked old kind place s first r = record {
  place = place;
  first = first.found;
  rose = subst (λ (x : FilterState). IsRisen (filter_at old.held.filters (Some place)).refusals x.refusals) (sym (get_or-set_same old.held.filters place s no_filter first.on.is.driver)) r.rose;
}

pub did_balk : (old : BookView) (kind : FilterKind) (position : ℕ) (setup : Setup) (place : ℕ) (s : FilterState) → IsBook old → IsIdle old → insert_refusal old.tray.net position ≡ None → IsFirst old kind place
    → Refuses (filter_at old.held.filters (Some place)) s → DidEvent old (record { tray = old.tray; held = took_state old.held place s }) (event.Insert kind position setup) (reply.Refused refusal.AttachRefused)
did_balk old kind position setup place s k i e first r =
    let is : insert_outcome old.tray.net position refuses ≡ refused refusal.AttachRefused =
    insert_is old.tray.net position refuses ∙ ap (λ c. refused_or c (when_attached refuses (inserted old.tray.net position))) e ∙ balked (inserted old.tray.net position) in
    did_event old (record { tray = old.tray; held = took_state old.held place s }) [] (event.Insert kind position setup) refuses (reply.Refused refusal.AttachRefused) k i
    (ends_took old kind place s k i (paused_first old.tray.net _ e) first r)
    (sym (ap (λ (o : Outcome). o.reply) is)) (sym (ap (λ (o : Outcome). o.rows) is)) refl (has_balked old kind place s first r) tt

pub shelf_balked : (old : BookView) (kind : FilterKind) (position : ℕ) (setup : Setup) (place : ℕ) (s : FilterState) → IsIdle old → Refuses (filter_at old.held.filters (Some place)) s
    → FollowsShelf old (record { tray = old.tray; held = took_state old.held place s }) (event.Insert kind position setup) (reply.Refused refusal.AttachRefused)
shelf_balked old kind position setup place s i r =
    follows_still old (record { tray = old.tray; held = took_state old.held place s }) _ _ i.rows refl refl refl refl
    (kinds_same old.held.filters place s (ap (λ (x : FilterState). x.kind) r.same)) (λ kinds shelf. refl)

-- no filter has or had the next number
pub next_free : (old : BookView) → IsBook old → IsIdle old → driver_of (shelf_of (kinds_of old.held) old.tray.turns).drivers old.tray.net.next.filter ≡ None
next_free old k i =
    none_below old.tray.net.next.filter (shelf_of (kinds_of old.held) old.tray.turns).drivers
    (subst (λ (n : Net). AreBelow n.next.filter (shelf_of (kinds_of old.held) old.tray.turns).drivers) (sym (idle_state old k i)) (shelf_below (kinds_of old.held) old.tray.head old.tray.turns k.follows.sound))

-- the driver that was found is the one that is promised
pub first_taken : (old : BookView) (kind : FilterKind) (place : ℕ) → IsBook old → IsShelved old.tray.net old.tray.turns old.held → IsFirst old kind place
    → find (is_of_kind kind (kinds_of old.held)) (shelf_of (kinds_of old.held) old.tray.turns).places ≡ Some place
first_taken old kind place k was first =
    let within : All (λ p. p < length old.held.filters) old.held.shelf = All-weaker (IsOnShelf old.held) (λ p. p < length old.held.filters) (λ p o. o.is.driver) old.held.shelf k.stands.shelved in
    ap (find (is_of_kind kind (kinds_of old.held))) (sym was.shelf) ∙ find_same kind old.held.filters old.held.shelf within ∙ first.found

-- the filter was inserted
module _ (old : BookView) (kind : FilterKind) (position : ℕ) (setup : Setup) (place : ℕ) (k : IsBook old) (i : IsIdle old) (rest : IsAtRest old.tray.net) (quiet : insert_refusal old.tray.net position ≡ None) (first : IsFirst old kind place) (free : seat_of old.held.seats old.tray.net.next.filter ≡ None) where
  abbrev f : ℕ
  f = old.tray.net.next.filter

  abbrev s : FilterState
  s = set_up (filter_at old.held.filters (Some place)) setup

  abbrev new : BookView
  new = record { tray = inserted_tray old.tray kind position setup; held = seated old.held f place s (pool_for setup) }

  abbrev e : Event
  e = event.Insert kind position setup

  abbrev rows : List Row
  rows = (inserted old.tray.net position).rows

  may : MaySit old.held f place s (pool_for setup)
  may = record { is = first.on; free = free; kept = first.rests.kept; empty = refl }

  paused : old.tray.net.phase ≡ phase.Paused
  paused = paused_first old.tray.net _ quiet

  rows_are : new.tray.rows ≡ rows
  rows_are = ap (λ rs. ((rs ++ state_row state.Attaching (Filter f) ∷ []) ++ state_row state.Paused (Filter f) ∷ []) ++ config_row old.tray.net (insert old.tray.net.modules.order (position - 1) f) ∷ []) i.rows

  outcome_is : insert_outcome old.tray.net position attaches ≡ inserted old.tray.net position
  outcome_is = insert_is old.tray.net position attaches ∙ ap (λ c. refused_or c (when_attached attaches (inserted old.tray.net position))) quiet ∙ taken (inserted old.tray.net position)

  follows : Follows new.tray.head new.tray.turns new.tray.told_by new.tray.net new.tray.rows
  follows = record {
    state = ap (λ n. after_rows (told n e (reply.Inserted f)) rows) (idle_state old k i) ∙ ap (λ rs. after_rows (told (seen old.tray.head old.tray.turns) e (reply.Inserted f)) rs) (sym rows_are);
    sound = k.follows.sound;
  }

  no_logs : (m : ModuleId) → logs_in m rows ≡ []
  no_logs Miniport = refl
  no_logs (Filter g) = refl
  no_logs (Binding b) = refl

  counts : CountsNothing old.held new.held
  counts = record {
    miniport = refl;
    protocols = λ j. refl;
    filters = λ q. did_still old.held.filters place s first.on.is.driver refl q (cases_eq q place);
    keeps = keeps_set old.held new.held place s (omega arith) refl first.on.is.driver refl (omega arith);
  }

  did_rows : Did old.held.seats old.held new.held (with_filter f kind setup old.tray.net) rows
  did_rows = did_nothing old.held.seats old.held new.held (with_filter f kind setup old.tray.net) rows refl no_logs counts

  used_rows : HasUsed (begun_with old new.tray.told_by).tray rows new.tray
  used_rows =
      let three : length rows ≡ 3 = refl in
      record { rows_used = omega (arith, three); frames = omega arith; bytes = omega arith; slack = omega arith; turns = omega arith; payloads = record { frames = ([], sym (append-nil _)); filters = (insert old.tray.net.modules.order (position - 1) f, refl); setups = ([], sym (append-nil _)) } }

  pub did_insert : DidEvent old new e (reply.Inserted f)
  did_insert = record {
    book = record { stands = stands_inserted old.tray.net rest kind setup old.held place s (pool_for setup) may first.kind_is refl position k.stands paused refl refl; follows = follows; bound = k.bound };
    choice = attaches;
    reply = sym (ap (λ (o : Outcome). o.reply) outcome_is);
    rows = rows_are ∙ sym (ap (λ (o : Outcome). o.rows) outcome_is);
    tells = refl;
    goes = record {
      head = refl;
      turns = refl;
      told_by = refl;
      net = ap (after_rows (with_filter f kind setup old.tray.net)) (sym rows_are);
      rows = sym (ap (λ rs. rs ++ new.tray.rows) i.rows);
      used = subst (λ rs. HasUsed (begun_with old new.tray.told_by).tray rs new.tray) (sym rows_are) used_rows;
      did = subst (λ rs. Did old.held.seats old.held new.held (with_filter f kind setup old.tray.net) rs) (sym rows_are) did_rows;
    };
    refused = tt;
    still = tt;
  }

  same_kinds : kinds_of new.held ≡ kinds_of old.held
  same_kinds = kinds_same old.held.filters place s refl

  -- the shelf that is promised after the turn
  after_shelf : (who : Who) → IsShelved old.tray.net old.tray.turns old.held
      → shelf_of (kinds_of new.held) (new.tray.turns ++ turn_of new.tray who e (reply.Inserted f) ∷ []) ≡ taken_from f (shelf_of (kinds_of old.held) old.tray.turns) (Some place)
  after_shelf who was =
      shelf_then (kinds_of new.held) old.tray.turns (turn_of new.tray who e (reply.Inserted f))
      ∙ ap (λ rs. shelf_in_rows rs (shelf_told (kinds_of new.held) e (reply.Inserted f) (shelf_of (kinds_of new.held) old.tray.turns))) rows_are
      ∙ ap (λ ks. shelf_told ks e (reply.Inserted f) (shelf_of ks old.tray.turns)) same_kinds
      ∙ ap (taken_from f (shelf_of (kinds_of old.held) old.tray.turns)) (first_taken old kind place k was first)

  seat_shelved : IsShelved old.tray.net old.tray.turns old.held → (g : ℕ) (a : Attached) → attached g new.tray.net.modules.filters ≡ Some a → (g ≡ f) ⊎ (g ≡ f → ⊥)
      → seat_of new.held.seats g ≡ driver_of (taken_from f (shelf_of (kinds_of old.held) old.tray.turns) (Some place)).drivers g
  seat_shelved was g a at (inl same) =
      let drivers : List (ℕ × ℕ) = (shelf_of (kinds_of old.held) old.tray.turns).drivers in
      ap (seat_of new.held.seats) same ∙ here old.held f place s (pool_for setup) may ∙ sym (driver_new drivers f place (next_free old k i)) ∙ ap (driver_of (drivers ++ (f, place) ∷ [])) (sym same)
  seat_shelved was g a at (inr ne) =
      let drivers : List (ℕ × ℕ) = (shelf_of (kinds_of old.held) old.tray.turns).drivers in
      let w = was_there old.tray.net rest kind setup g a at ne in
      there old.held f place s (pool_for setup) may g ne ∙ was.seats g w.0 w.1 ∙ sym (driver_old drivers f place g (ne_eqb f g (λ e. ne (sym e))))

  pub shelf_insert : FollowsShelf old new e (reply.Inserted f)
  shelf_insert = record {
    shelved = λ who was. record {
      shelf = ap (without_place place) was.shelf ∙ ap (λ (x : Shelf). x.places) (sym (after_shelf who was));
      seats = λ g a at. seat_shelved was g a at (cases_eq g f) ∙ ap (λ (x : Shelf). driver_of x.drivers g) (sym (after_shelf who was));
    };
  }
