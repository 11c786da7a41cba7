-- One configuration, upwards: the claims stand after each turn of a sound journal, and its rows show what they
-- should.
use Rattle.std.proofs.Common.{◌≡◌, ℕ, ◌+◌, ◌==◌, ◌||◌, ◌&&◌, ◌⊎◌, inl, inr, Bool, true, false, List, [], ◌∷◌, ◌++◌, Option, Some, None, find, length, reverse, refl, arith, ap, sym, subst, append_assoc, ◌∙◌}
use Rattle.std.specs.List.{list_all}
use Rattle.std.proofs.lemmas.Bool.Decides.{nat_tests}
use Rattle.ndis_base.specs.declared.Phase.TheVariants as phase
use Rattle.journal_types.specs.declared.Event.{Event}
use Rattle.journal_types.specs.declared.Event.TheVariants as event
use Rattle.journal_types.specs.declared.OutWay.TheVariants as out
use Rattle.journal_types.specs.declared.Row.{Row}
use Rattle.journal_types.specs.declared.Row.TheVariants as row
use Rattle.journal_types.specs.declared.StackHead.{StackHead}
use Rattle.journal_types.specs.declared.Turn.{Turn}
use Rattle.stack_rules.specs.declared.Choice.{Choice}
use Rattle.stack_rules.specs.declared.LiveList.{LiveList}
use Rattle.stack_rules.specs.declared.Message.{Message}
use Rattle.stack_rules.specs.declared.Thing.{Thing}
use Rattle.stack_rules.specs.Tests.{same_frames, is_running}
use Rattle.stack_rules.specs.Messages.{is_for}
use Rattle.stack_rules.specs.Net.{Net, Modules, start, after_rows, after_turn, after_turns, seen, lists, list_of}
use Rattle.stack_rules.specs.Outcome.{Outcome}
use Rattle.stack_rules.specs.Crosses.{take_up_of}
use Rattle.stack_rules.specs.Rewires.{is_in}
use Rattle.stack_rules.specs.Sound.{Next, outcome, SoundFrom, Sound}
use Rattle.home_laws.specs.Rows.{Label, rows_of}
use Rattle.home_laws.proofs.Fits.{empty, registered_rows, AllFit, IsSane}
use Rattle.home_laws.proofs.Registers.{sane_empty, sane_rows}
use Rattle.home_laws.proofs.Events.{FitsAfter, journal_fits, turn_fits}
use Rattle.home_laws.proofs.Standing.{sound_front}
use Rattle.state_laws.proofs.Rows.{is_quiet, AreQuiet, IsSame}
use Rattle.state_laws.proofs.Quiet.{is_plain, quiet_event}
use Rattle.state_laws.proofs.Changes.{IsChanged, IsMove}
use Rattle.state_laws.proofs.Events.{state_after, at_phase, event_kept, plain_same, turn_is}
use Rattle.pause_laws.specs.Clear.{IsHeld}
use Rattle.pause_laws.proofs.Fronts.{none_live}
use Rattle.pause_laws.proofs.Turns.{held_journal}
use Rattle.place_laws.proofs.Looks.{look}
use Rattle.promise_rules.specs.Rows.{all_rows}
use Rattle.promise_rules.specs.Carried.{setup_of, config_at, filters_in, are_frames, keeps_configuration}
use Rattle.family_laws.specs.Looked.{last_config, LooksBack}
use Rattle.family_laws.specs.Claims.{frames_of, HasSetup, AllSetUp}
use Rattle.configuration_laws.specs.Claims.{whole_up, IsLeft}
use Rattle.family_laws.specs.Down.{shows_carried}
use Rattle.family_laws.specs.Issued.{is_issued_as_root}
use Rattle.family_laws.proofs.Chain.{each_is_carried_down}
use Rattle.family_laws.proofs.Configs.{each_is_issued_as_root}
use Rattle.configuration_laws.specs.Up.{EachHasOneConfiguration}
use Rattle.ndis_base.specs.declared.ModuleState.{ModuleState}
use Rattle.ndis_base.specs.declared.ModuleState.TheVariants as state
use Rattle.family_laws.proofs.Lookups.{each_looks_back}
use Rattle.configuration_laws.proofs.Rows.{AreClaimed, Claimed}
use Rattle.family_laws.proofs.Known.{longest, Looks, AllLook, frames_itself}
use Rattle.configuration_laws.proofs.Known.{IsKnown}
use Rattle.configuration_laws.proofs.Filters.{Shows, AllShow, Result}
use Rattle.configuration_laws.proofs.Sweep.{event_leaves}
use Rattle.family_laws.proofs.Goods.{distinct_of, attached_of, HasStates, states_of, turns-snoc, good_journal}
use Rattle.family_laws.proofs.Changes.{OfChanges, Every, initialize_every, begin_every, pause_every, restart_every, halt_every, remove_every, insert_every, replace_every}
use Rattle.family_laws.proofs.Setups.{last-append, config_in_force, setup_more, entries_told_so, entry_found}

itself : (n : ℕ) → (n == n) ≡ true
itself n = grind (arith, nat_tests)

-- the turn after the first ones
pub next_at : (net : Net) (before : List Turn) (t : Turn) (later : List Turn) → SoundFrom net (before ++ t ∷ later) → Next (after_turns net before) t
next_at net [] t later s = s.0
next_at net (x ∷ before) t later s = next_at (after_turn net x) before t later s.1

pub snoc : {A : Type 0} (xs : List A) (x : A) (ys : List A) → (xs ++ x ∷ []) ++ ys ≡ xs ++ x ∷ ys
snoc [] x ys = refl
snoc (y ∷ xs) x ys = ap (λ rest. y ∷ rest) (snoc xs x ys)

pub rows-append : (xs ys : List Turn) → rows_of (xs ++ ys) ≡ rows_of xs ++ rows_of ys
rows-append [] ys = refl
rows-append (x ∷ xs) ys = ap (λ rest. x.rows ++ rest) (rows-append xs ys) ∙ sym (append_assoc x.rows (rows_of xs) (rows_of ys))

-- all filters of an order are set up
all_set : (turns : List Turn) (ms : Modules) (fs : List ℕ) → ((f : ℕ) → is_in f fs ≡ true → HasSetup turns ms f) → AllSetUp turns ms fs
all_set turns ms [] h = tt
all_set turns ms (f ∷ fs) h = (h f (ap (λ b. b || is_in f fs) (itself f)), all_set turns ms fs (λ g i. h g (more (f == g) (is_in g fs) i)))
  where
    more : (a b : Bool) → b ≡ true → (a || b) ≡ true
    more true b i = refl
    more false b i = i

module _ (head : StackHead) (whole : List Turn) (s : Sound head whole) where
  pub front : (before later : List Turn) → whole ≡ before ++ later → Sound head before
  front before later e = sound_front head before later (subst (Sound head) e s)

  pub halted_none : (net : Net) → IsHeld net → net.phase ≡ phase.Halted → lists net.things ≡ []
  halted_none net h e = none_live net.modules h.shape.front (lists net.things) (at_phase net phase.Halted h.shape e).1 h.clear.each

  -- what is known after the first turns
  known : (before later : List Turn) → whole ≡ before ++ later → Claimed longest whole (reverse (seen head before).modules.order) (seen head before) → IsKnown whole (seen head before)
  known before later e claimed =
      let net : Net = seen head before in
      let sound : Sound head before = front before later e in
      let held : IsHeld net = held_journal head before sound in
      record {
        facts = record { distinct = distinct_of net held.shape; apart = held.clear.apart; good = good_journal head before sound };
        set_up = λ runs.
            let has : HasStates net = states_of net held.shape runs in
            all_set whole net.modules net.modules.order (λ f i.
            let a = attached_of has.states net.modules.filters f 1 net.modules.order has.none has.are.filters i in
            let told : setup_of before a.0.filter ≡ Some a.0.setup = entry_found (λ x. setup_of before x.filter ≡ Some x.setup) f net.modules.filters a.0 (entries_told_so head before sound) a.1 in
            record {
              entry = a.0;
              found = a.1;
              setup = ap (λ ts. setup_of ts f) e ∙ setup_more before later f a.0.setup (ap (setup_of before) (sym a.2) ∙ told);
            });
        live = λ l f h. clash l (sym (ap (list_of l.list.0) (halted_none net held h)) ∙ f);
        indicates = λ t h. idle (net.modules.miniport) (at_phase net phase.Halted held.shape h).0.miniport t;
        claimed = claimed;
      }
    where
      clash : (l : LiveList) → None ≡ Some l → ⊥
      clash l e = cc

      idle : (x : ModuleState) → x ≡ state.Halted → is_running x ≡ true → ⊥
      idle x e t = let off : is_running state.Halted ≡ true = ap is_running (sym e) ∙ t in absurd (cc (off))

  -- what is looked up of the lists that the rows issue
  config_quiet : (b : Option Row) (r : Row) → is_quiet r ≡ true → config_at b r ≡ b
  config_quiet b (row.Config config filters) q = cc
  config_quiet b _ q = refl

  pub looks : (order : List ℕ) (before rows later : List Row) → rows_of whole ≡ before ++ (rows ++ later) → filters_in (last_config None before) ≡ order → AreQuiet rows → AllLook whole order rows
  looks order before [] later e c q = tt
  looks order before (r ∷ rows) later e c q =
      (one r e, looks order (before ++ r ∷ []) rows later (e ∙ sym (snoc before r (rows ++ later))) (ap filters_in (last-append None before (r ∷ []) ∙ config_quiet (last_config None before) r q.0) ∙ c) q.1)
    where
      one : (r : Row) → rows_of whole ≡ before ++ (r ∷ (rows ++ later)) → Looks whole order r
      one (row.Issue list owner config d cancel made frames) e =
          let label : Label = record { owner = owner; direction = d; cancel = cancel; origin = made; frames = frames } in
          let back : LooksBack whole before list config label = each_looks_back head whole s before (rows ++ later) list config label e in
          record { issue = back.issue; root = back.root; filters = ap filters_in back.config_is ∙ c }
      one _ e = tt

  -- a plain event
  plain_claimed : (net : Net) (order : List ℕ) (e : Event) (c : Choice) → is_plain e ≡ true → Claimed longest whole order net → Claimed longest whole order (after_rows net (outcome net e c).rows) → Claimed longest whole order (state_after net e (outcome net e c))
  plain_claimed net order (event.CrossTakeUp binding vlan) c p k h = by (find (is_for binding vlan) net.messages)
    where
      by : (o : Option Message) → Claimed longest whole order (state_after net (event.CrossTakeUp binding vlan) (take_up_of net o))
      by None = k
      by (Some m) = k
  plain_claimed net order (event.Insert kind position setup) c p k h = cc
  plain_claimed net order (event.Replace old kind setup) c p k h = cc
  plain_claimed net order e c p k h = h

  -- an event that changes modules
  changed_claimed : (net next : Net) (h : IsHeld net) → IsChanged net next h.shape → Claimed longest whole (reverse net.modules.order) net → Claimed longest whole (reverse next.modules.order) next
  changed_claimed net next h c k = subst (λ (ts : List Thing). AreClaimed longest whole (reverse next.modules.order) None (λ n. list_of n (lists ts))) (sym c.things) (by c.kind)
    where
      by : (IsMove net next h.shape.front c.shape.front ⊎ (h.shape.front ≡ length net.modules.order + 2)) → AreClaimed longest whole (reverse next.modules.order) None (look net)
      by (inl m) = subst (λ order. AreClaimed longest whole (reverse order) None (look net)) (sym m.order) k
      by (inr e) =
          let none : lists net.things ≡ [] = none_live net.modules h.shape.front (lists net.things) e h.clear.each in
          record { claims = λ n l f g. absurd (clash l (sym (ap (list_of n) none) ∙ f)); told = λ n l f. absurd (clash l (sym (ap (list_of n) none) ∙ f)) }
        where
          clash : (l : LiveList) → None ≡ Some l → ⊥
          clash l e = cc

  of_shows : OfChanges (Shows whole)
  of_shows = record { states = λ x m h. tt; stack = λ p. tt }

  every_shows : (rows : List Row) → Every (Shows whole) rows → AllShow whole rows
  every_shows [] h = tt
  every_shows (r ∷ rows) h = (h.0, every_shows rows h.1)

  changed_shows : (net : Net) (e : Event) (c : Choice) → is_plain e ≡ false → AllShow whole (outcome net e c).rows
  changed_shows net event.Initialize c p = every_shows _ (initialize_every (Shows whole) of_shows (λ config filters. tt) net c.refuses)
  changed_shows net (event.Insert kind position setup) c p = every_shows _ (insert_every (Shows whole) of_shows (λ config filters. tt) (λ f. tt) net position c)
  changed_shows net (event.Remove f) c p = every_shows _ (remove_every (Shows whole) of_shows (λ config filters. tt) net f)
  changed_shows net (event.Replace old kind setup) c p = every_shows _ (replace_every (Shows whole) of_shows (λ config filters. tt) (λ f. tt) net old c)
  changed_shows net event.BeginPause c p = every_shows _ (begin_every (Shows whole) of_shows net)
  changed_shows net event.PauseNext c p = every_shows _ (pause_every (Shows whole) of_shows net)
  changed_shows net event.RestartNext c p = every_shows _ (restart_every (Shows whole) of_shows net)
  changed_shows net event.Halt c p = every_shows _ (halt_every (Shows whole) of_shows net)
  changed_shows net e c p = cc

  -- what a turn leaves and shows
  record Passes (net : Net) (rows : List Row) : Type 0 where
    claimed : Claimed longest whole (reverse net.modules.order) net
    shows : AllShow whole rows

  module _ (before : List Turn) (t : Turn) (later : List Turn) (e : whole ≡ before ++ t ∷ later) (k : Claimed longest whole (reverse (seen head before).modules.order) (seen head before)) (n : Next (seen head before) t) where
    abbrev net : Net
    net = seen head before

    abbrev o : Outcome
    o = outcome (seen head before) t.event n.choice

    held : IsHeld (seen head before)
    held = held_journal head before (front before (t ∷ later) e)

    rows_are : rows_of whole ≡ rows_of before ++ ((outcome (seen head before) t.event n.choice).rows ++ rows_of later)
    rows_are = ap rows_of e ∙ rows-append before (t ∷ later) ∙ ap (λ rows. rows_of before ++ (rows ++ rows_of later)) n.rows

    fits : FitsAfter empty (rows_of before) (seen head before)
    fits = journal_fits head before (front before (t ∷ later) e)

    sane : IsSane (registered_rows empty (rows_of before))
    sane = sane_rows empty (rows_of before) sane_empty fits.fit

    plain_result : is_plain t.event ≡ true → Result whole (seen head before) (outcome (seen head before) t.event n.choice).rows
    plain_result p =
        event_leaves whole net (known before (t ∷ later) e k) (registered_rows empty (rows_of before)) fits.agrees sane t.event n.choice p
        (subst (AllFit (registered_rows empty (rows_of before))) n.rows (turn_fits net (registered_rows empty (rows_of before)) t fits.agrees sane n))
        (looks net.modules.order (rows_of before) o.rows (rows_of later) rows_are (config_in_force head before) (quiet_event net t.event n.choice p))

    passes_by : (b : Bool) → is_plain t.event ≡ b → Passes (state_after (seen head before) t.event (outcome (seen head before) t.event n.choice)) (outcome (seen head before) t.event n.choice).rows
    passes_by true p =
        let r : Result whole net o.rows = plain_result p in
        let same : IsSame net (state_after net t.event o) = plain_same net t.event n.choice p in
        record {
          claimed = subst (λ (ms : Modules). Claimed longest whole (reverse ms.order) (state_after net t.event o)) (sym same.modules) (plain_claimed net (reverse net.modules.order) t.event n.choice p k r.claimed);
          shows = r.shows;
        }
    passes_by false p = record {
      claimed = changed_claimed net (state_after net t.event o) held (event_kept net held.shape t.event n.choice p) k;
      shows = changed_shows net t.event n.choice p;
    }

    turn_passes : Passes (after_turn (seen head before) t) t.rows
    turn_passes = subst (λ (x : Net). Passes x t.rows) (sym (turn_is net t n)) (subst (λ rows. Passes (state_after net t.event o) rows) (sym n.rows) (passes_by (is_plain t.event) refl))

  show-append : (xs ys : List Row) → AllShow whole xs → AllShow whole ys → AllShow whole (xs ++ ys)
  show-append [] ys h k = k
  show-append (x ∷ xs) ys h k = (h.0, show-append xs ys h.1 k)

  chain : (before later : List Turn) → whole ≡ before ++ later → Claimed longest whole (reverse (seen head before).modules.order) (seen head before) → AllShow whole (rows_of later)
  chain before [] e k = tt
  chain before (t ∷ later) e k =
      let n : Next (seen head before) t = next_at (start head) before t later (subst (Sound head) e s) in
      let p : Passes (after_turn (seen head before) t) t.rows = turn_passes before t later e k n in
      show-append t.rows (rows_of later) p.shows
      (chain (before ++ t ∷ []) later (e ∙ sym (snoc before t later)) (subst (λ (x : Net). Claimed longest whole (reverse x.modules.order) x) (sym (turns-snoc (start head) before t)) p.claimed))

  start_claimed : Claimed longest whole (reverse (seen head []).modules.order) (seen head [])
  start_claimed = record { claims = λ n l f g. absurd (clash l f); told = λ n l f. absurd (clash l f) }
    where
      clash : (l : LiveList) → None ≡ Some l → ⊥
      clash l e = cc

  all_show : AllShow whole (rows_of whole)
  all_show = chain [] whole refl start_claimed

  -- what is shown is what is asked
  carried : (n : ℕ) (frames : List (List ℕ)) → IsLeft longest whole [] n → frames_of whole n ≡ frames → are_frames frames (whole_up longest whole n) ≡ true
  carried n frames h e = ap (are_frames frames) (sym h) ∙ ap (λ xs. same_frames xs frames) e ∙ frames_itself frames

  -- the three parts of the promise
  row_carried : (r : Row) → Shows whole r → shows_carried head whole r ≡ true → is_issued_as_root whole r ≡ true → keeps_configuration head whole r ≡ true
  row_carried (row.Issue list owner config d cancel made frames) h down issued = issued
  row_carried (row.Wire list frames) h down issued = down
  row_carried (row.CrossOut message (out.Down list) frames) h down issued = down
  row_carried (row.CrossOut message out.Up frames) h down issued = refl
  row_carried (row.Deliver list b how frames) h down issued = carried list.0 frames h.0 h.1
  row_carried _ h down issued = refl

  both_true : (a b : Bool) → a ≡ true → b ≡ true → (a && b) ≡ true
  both_true a b h k = cc

  and_first : (a b : Bool) → (a && b) ≡ true → a ≡ true
  and_first true b h = refl
  and_first false b h = cc

  and_later : (a b : Bool) → (a && b) ≡ true → b ≡ true
  and_later true b h = h
  and_later false b h = cc

  rows_carried : (rows : List Row) → AllShow whole rows → list_all (shows_carried head whole) rows ≡ true → list_all (is_issued_as_root whole) rows ≡ true → list_all (keeps_configuration head whole) rows ≡ true
  rows_carried [] h down issued = refl
  rows_carried (r ∷ rows) h down issued =
      both_true _ _ (row_carried r h.0 (and_first _ _ down) (and_first _ _ issued)) (rows_carried rows h.1 (and_later (shows_carried head whole r) _ down) (and_later (is_issued_as_root whole r) _ issued))

  show-split : (xs ys : List Row) → AllShow whole (xs ++ ys) → AllShow whole xs × AllShow whole ys
  show-split [] ys h = (tt, h)
  show-split (x ∷ xs) ys h = let rest = show-split xs ys h.1 in ((h.0, rest.0), rest.1)

  turns_carried : (turns : List Turn) → AllShow whole (rows_of turns) → all_rows (shows_carried head whole) turns ≡ true → all_rows (is_issued_as_root whole) turns ≡ true → all_rows (keeps_configuration head whole) turns ≡ true
  turns_carried [] h down issued = refl
  turns_carried (t ∷ ts) h down issued =
      let parts = show-split t.rows (rows_of ts) h in
      both_true _ _ (rows_carried t.rows parts.0 (and_first _ _ down) (and_first _ _ issued))
      (turns_carried ts parts.1 (and_later (list_all (shows_carried head whole) t.rows) _ down) (and_later (list_all (is_issued_as_root whole) t.rows) _ issued))

pub each_has_one_configuration : EachHasOneConfiguration
each_has_one_configuration head turns s = turns_carried head turns s turns (all_show head turns s) (each_is_carried_down head turns s) (each_is_issued_as_root head turns s)
