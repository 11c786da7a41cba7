-- What each event that changes no state of a module leaves of the claims, and what its rows show.
use Rattle.std.proofs.Common.{◌≡◌, ℕ, ◌+◌, ◌&&◌, Bool, true, false, List, [], ◌∷◌, ◌++◌, Option, Some, None, map, filter, reverse, refl, not, cond, find, inl, ap, sym, subst, ◌∙◌, ◌⊎◌, inr, flat_map, ◌==◌, ◌||◌, arith, option_and_then}
use Rattle.std.specs.List.{list_any}
use Rattle.ndis_base.specs.declared.ModuleId.{ModuleId}
use Rattle.ndis_base.specs.declared.ModuleId.TheVariants.{Miniport, Filter, Binding}
use Rattle.ndis_base.specs.declared.ModuleState.{ModuleState}
use Rattle.ndis_base.specs.declared.ListNo.{ListNo}
use Rattle.ndis_base.specs.declared.ListStatus.{ListStatus}
use Rattle.ndis_base.specs.declared.ListStatus.TheVariants.{Success, Resources, Paused}
use Rattle.ndis_base.specs.declared.Direction.TheVariants as direction
use Rattle.ndis_base.specs.declared.StatusNo.{StatusNo}
use Rattle.ndis_base.specs.declared.StatusName.{StatusName}
use Rattle.journal_types.specs.declared.How.{How}
use Rattle.journal_types.specs.declared.How.TheVariants as how
use Rattle.journal_types.specs.declared.PassWay.TheVariants as way
use Rattle.journal_types.specs.declared.Target.{Target}
use Rattle.journal_types.specs.declared.Target.TheVariants.{Module, Bindings}
use Rattle.journal_types.specs.declared.Event.{Event}
use Rattle.journal_types.specs.declared.Event.TheVariants as event
use Rattle.journal_types.specs.declared.Row.{Row}
use Rattle.stack_rules.specs.declared.Stand.{Stand}
use Rattle.stack_rules.specs.declared.Stand.TheVariants as stand
use Rattle.stack_rules.specs.declared.LiveList.{LiveList}
use Rattle.stack_rules.specs.declared.Attached.{Attached}
use Rattle.stack_rules.specs.declared.Message.{Message}
use Rattle.stack_rules.specs.declared.Choice.{Choice}
use Rattle.stack_rules.specs.Tests.{phase_is_running, is_running, is_virtual, is_retain, is_halted, same_frames, same_module, is_down, is_unbound}
use Rattle.stack_rules.specs.Heads.{kind_of_binding, binding_numbers}
use Rattle.stack_rules.specs.Messages.{is_for}
use Rattle.stack_rules.specs.Net.{Net, attached, list_of, lists, below, handlers_of}
use Rattle.stack_rules.specs.Places.{position, is_full, ready_lists, is_kept_by, is_crossed, kept_lists, agenda_first, state_of, above}
use Rattle.stack_rules.specs.Targets.{onward, homeward, turned_back, has_receive, next_status}
use Rattle.stack_rules.specs.Outcome.{Outcome, oid_no, status_no, root, list_no, max_frame}
use Rattle.stack_rules.specs.Sends.{ring_is_full, at_filter, loops, looped, transmitted, transmit_of, first_of, first_in_ring, sent, miniport_rows}
use Rattle.stack_rules.specs.Dones.{homeward_rows, completed_by}
use Rattle.stack_rules.specs.Deliveries.{delivered, echoes, settled, last_of, takers, delivery_rows}
use Rattle.stack_rules.specs.Receives.{up_at_filter, give_back_of, lent_at, lent_handled, lent_up, lent_delivery, lent_home, lent_rows, indicated}
use Rattle.stack_rules.specs.Cancels.{cancel_outcome, cancel_rows_at, cancelled_at, aborted, queues, is_hold_filter}
use Rattle.stack_rules.specs.Drains.{returned_by, returns_all, passed_by, passes_all, empties, empties_ring, drain_rows, drained}
use Rattle.stack_rules.specs.Pumps.{moved_rows, request_pump, pump_of, is_pump_moving}
use Rattle.stack_rules.specs.Statuses.{seen_by_all, status_rows}
use Rattle.stack_rules.specs.Crosses.{first_uncrossed, take_of, done_of, take_up_of, is_too_long_tagged, mux_binding_for, is_in_message, put_rows}
use Rattle.stack_rules.specs.Sound.{outcome}
use Rattle.journal_types.specs.declared.Way.TheVariants as crossing
use Rattle.journal_types.specs.declared.Row.TheVariants as row
use Rattle.stack_rules.specs.declared.Thing.{Thing}
use Rattle.stack_rules.specs.declared.Thing.TheVariants as thing
use Rattle.stack_rules.specs.Requests.{Giving, given_rows_by, giving_rows, next_giving, answer_rows}
use Rattle.state_laws.proofs.Rows.{by_test}
use Rattle.state_laws.proofs.Quiet.{is_plain}
use Rattle.pause_laws.proofs.Works.{each_find, each_away}
use Rattle.place_laws.proofs.Good.{StandsAt}
use Rattle.place_laws.proofs.Looks.{look}
use Rattle.place_laws.proofs.Keepers.{all_found, IsKeptLive, kept_live, IsReady, ready_all}
use Rattle.program_types.specs.Apply.{applied}
use Rattle.ndis_base.specs.declared.Phase.{Phase}
use Rattle.ndis_base.specs.declared.Phase.TheVariants as phase
use Rattle.stack_rules.specs.Rewires.{is_in}
use Rattle.rule_basics.specs.Live.{Each}
use Rattle.home_laws.proofs.Fits.{Register, AllFit, IsSane}
use Rattle.home_laws.proofs.Agreed.{Agrees}
use Rattle.state_laws.proofs.Takes.{attached-is}
use Rattle.state_laws.proofs.Calm.{All-append, All-map, first_of_all}
use Rattle.promise_rules.specs.Rows.{issue_of}
use Rattle.family_laws.specs.Claims.{from_filter, frames_of, HasSetup}
use Rattle.configuration_laws.specs.Claims.{carried_back, whole_up, IsLeft, Receives}
use Rattle.configuration_laws.proofs.Carries.{goes_through, below_end as below_past, distinct_reverse, only_pairs}
use Rattle.place_laws.proofs.Spots.{in_reverse}
use Rattle.state_laws.specs.Shape.{IsDistinct}
use Rattle.promise_rules.specs.Rows.{frames_in}
use Rattle.promise_rules.specs.Carried.{setup_of, received_by, carried_up, filters_in, config_of}
use Rattle.std.proofs.lemmas.Bool.Decides.{nat_tests}
use Rattle.configuration_laws.proofs.Rows.{sends_in, clone_in, IsCloned, Claim, owe-append}
use Rattle.family_laws.proofs.Known.{longest, look-split, frames_same, set_of}
use Rattle.configuration_laws.proofs.Known.{IsKnown, OweAll, Owe, LookAll, frames_told, sends_told, above_is, above_end, root_left, onward_owes, homeward_owes, back_owes, sent_owes, risen_owes}
use Rattle.configuration_laws.proofs.Filters.{Result, owed_result, IsGivenHere, filter_result, home_result}
use Rattle.journal_types.specs.declared.Turn.{Turn}

module _ (turns : List Turn) (net : Net) (k : IsKnown turns net) where
  -- rows that owe nothing, given what is looked up of the lists that they issue
  abbrev Duty : List Row → Type 0
  Duty rows = LookAll turns net k rows → OweAll turns net k rows

  duty-append : (xs ys : List Row) → Duty xs → Duty ys → Duty (xs ++ ys)
  duty-append xs ys f g h = let both = look-split turns net.modules.order xs ys h in owe-append longest turns (reverse net.modules.order) xs ys (f both.0) (g both.1)

  runs_when : phase_is_running net.phase ≡ true → net.phase ≡ phase.Halted → ⊥
  runs_when t e = by net.phase t e
    where
      by : (p : Phase) → phase_is_running p ≡ true → p ≡ phase.Halted → ⊥
      by phase.Halted t e = cc
      by phase.Paused t e = cc
      by phase.Restarting t e = cc
      by phase.Running t e = cc
      by phase.Pausing t e = cc

  none_some : (n : ℕ) → None ≡ Some n → ⊥
  none_some n e = cc

  claim_of : (l : LiveList) (s : Stand) → look net l.list.0 ≡ Some l → l.stand ≡ s → Claim longest turns (reverse net.modules.order) (look net) l.list.0 s
  claim_of l s f e = subst (Claim longest turns (reverse net.modules.order) (look net) l.list.0) e (k.claimed.claims l.list.0 l f (none_some l.list.0))

  stands_at : (l : LiveList) (s : Stand) → look net l.list.0 ≡ Some l → l.stand ≡ s → StandsAt net.modules.order (is_down l.direction) l.owner s
  stands_at l s f e = subst (StandsAt net.modules.order (is_down l.direction) l.owner) e (k.facts.good.good.well l.list.0 l f).stands

  -- sends
  duty_looped : (l : LiveList) → (net.phase ≡ phase.Halted → ⊥) → Duty (looped net l)
  duty_looped l runs =
      by_test Duty (loops net) _ _
      (λ _ h. let r = risen_owes turns net k net.next.list Miniport l.frames runs h.0 in (r.0, (r.1, tt)))
      (λ _ h. tt)

  duty_transmitted : (l : LiveList) → look net l.list.0 ≡ Some l → l.stand ≡ stand.Kept Miniport → Duty (transmitted net l)
  duty_transmitted l f e h =
      (tt, duty-append (looped net l) (homeward net.modules l (position net.modules.order Miniport) Success ∷ []) (duty_looped l (k.live l f)) (λ _. (homeward_owes turns net k l (position net.modules.order Miniport) Success, tt)) h.1)

  duty_transmit : (o : Option LiveList) → ((l : LiveList) → o ≡ Some l → (look net l.list.0 ≡ Some l) × (l.stand ≡ stand.Kept Miniport)) → Duty (transmit_of net o).rows
  duty_transmit None w h = tt
  duty_transmit (Some l) w h = duty_transmitted l (w l refl).0 (w l refl).1 h

  duty_miniport : (l : LiveList) → look net l.list.0 ≡ Some l → l.stand ≡ stand.Passed way.Down (Module Miniport) → Duty (miniport_rows net l)
  duty_miniport l f e h = (tt, by_test (OweAll turns net k) (ring_is_full net) _ _ (λ _. back_owes turns net k l Miniport Resources) (λ _. (tt, tt)))

  -- receives
  duty_delivered : (list : ListNo) (frames : List (List ℕ)) (own : How) (n : ℕ) (bs : List ℕ) → IsLeft longest turns [] list.0 → frames_of turns list.0 ≡ frames → (net.phase ≡ phase.Halted → ⊥) → Duty (delivered net list frames own n bs)
  duty_delivered list frames own n [] d e runs h = tt
  duty_delivered list frames own n (b ∷ bs) d e runs h = (
    (d, e),
    by_test Duty (echoes net b) _ _
        (λ _ g. let r = sent_owes turns net k n (Binding b) None frames runs g.0 in (r.0, (r.1, duty_delivered list frames own (n + 1) bs d e runs g.1.1)))
        (λ _. duty_delivered list frames own n bs d e runs) h.1,
  )

  duty_settled : (l : LiveList) (keeps : Bool) (o : Option ℕ) → OweAll turns net k (settled net l keeps o)
  duty_settled l keeps None = (homeward_owes turns net k l 0 Success, tt)
  duty_settled l keeps (Some b) =
      by_test (OweAll turns net k) (keeps && is_retain (kind_of_binding net.head b)) _ _ (λ _. (tt, tt)) (λ _. (homeward_owes turns net k l 0 Success, tt))

  duty_delivery : (l : LiveList) (keeps : Bool) → look net l.list.0 ≡ Some l → l.stand ≡ stand.Passed way.Up Bindings → Duty (delivery_rows net l keeps)
  duty_delivery l keeps f e =
      duty-append (delivered net l.list l.frames how.Own net.next.list (takers net l.frames)) (settled net l keeps (last_of (takers net l.frames)))
      (duty_delivered l.list l.frames how.Own net.next.list (takers net l.frames) (claim_of l (stand.Passed way.Up Bindings) f e).0 (frames_told turns net k l f) (k.live l f)) (λ _. duty_settled l keeps (last_of (takers net l.frames)))

  -- lent lists
  itself : (n : ℕ) → (n == n) ≡ true
  itself n = grind (arith, nat_tests)

  not_before : (g : ℕ) (xs ys : List ℕ) → IsDistinct (xs ++ g ∷ ys) → is_in g xs ≡ false
  not_before g [] ys d = refl
  not_before g (x ∷ xs) ys d = ap (λ b. b || is_in g xs) (differ (x == g) (λ t. clash (is_equal x g t))) ∙ not_before g xs ys d.1
    where
      is_equal : (n m : ℕ) → (n == m) ≡ true → n ≡ m
      is_equal n m e = grind (arith, nat_tests)

      differ : (b : Bool) → (b ≡ true → ⊥) → b ≡ false
      differ true h = absurd (h refl)
      differ false h = refl

      there : (xs : List ℕ) → is_in g (xs ++ g ∷ ys) ≡ true
      there [] = ap (λ b. b || is_in g ys) (one g)
        where
          one : (n : ℕ) → (n == n) ≡ true
          one n = grind (arith, nat_tests)
      there (z ∷ zs) = more (z == g) (is_in g (zs ++ g ∷ ys)) (there zs)
        where
          more : (a b : Bool) → b ≡ true → (a || b) ≡ true
          more true b i = refl
          more false b i = i

      clash : x ≡ g → ⊥
      clash e = let a : is_in x (xs ++ g ∷ ys) ≡ true = ap (λ i. is_in i (xs ++ g ∷ ys)) e ∙ there xs in absurd (cc (sym d.0 ∙ a))

  in_middle : (g : ℕ) (xs ys : List ℕ) → is_in g (xs ++ g ∷ ys) ≡ true
  in_middle g [] ys = ap (λ b. b || is_in g ys) (itself g)
  in_middle g (z ∷ zs) ys = more (z == g) (is_in g (zs ++ g ∷ ys)) (in_middle g zs ys)
    where
      more : (a b : Bool) → b ≡ true → (a || b) ≡ true
      more true b i = refl
      more false b i = i

  module _ (list : ListNo) (frames : List (List ℕ)) (root_told : clone_in (issue_of turns list.0) ≡ None) (own : frames_of turns list.0 ≡ frames) (runs : net.phase ≡ phase.Halted → ⊥) where
    duty_lent_handled : (a : Attached) (gs : List ℕ) (further : List Row) (o : Option (List (List ℕ))) → below a.filter (reverse net.modules.order) ≡ gs → is_in a.filter net.modules.order ≡ true → ((made : List (List ℕ)) → o ≡ Some made → carried_back longest turns gs made ≡ whole_up longest turns list.0) → (IsLeft longest turns gs list.0 → Duty further) →
        Duty (lent_handled net a list frames further o)
    duty_lent_handled a gs further None low i left d h = (tt, (root_told, tt))
    duty_lent_handled a gs further (Some made) low i left d h =
        by_test Duty (same_frames made frames) _ _
        (λ t. d (ap (carried_back longest turns gs) (own ∙ sym (frames_same made frames t)) ∙ left made refl))
        (λ _. by_test Duty (is_full net (Filter a.filter)) _ _ (λ _ h. (tt, (root_told, tt)))
        (λ _ h.
        let c : ListNo = list_no (net.next.list + 1) in (
          h.0.issue,
          (
            onward_owes turns net k c direction.Up (above a.filter net.modules.order + 1) runs (above_end turns net k a.filter i)
                (λ _. ap (λ fs. carried_back longest turns fs (frames_of turns c.0)) (above_is turns net k a.filter i ∙ low)
                ∙ ap (carried_back longest turns gs) (ap frames_in h.0.issue)
                ∙ left made refl
                ∙ ap (λ r. carried_up longest turns (filters_in (config_of turns r)) (frames_of turns r)) (sym h.0.root)),
            (root_told, tt),
          ),
        )))
        h

    duty_lent_at : (o : Option Attached) (gs : List ℕ) (further : List Row) → ((a : Attached) → o ≡ Some a → Duty (lent_handled net a list frames further (applied (max_frame net.head) a.setup.receive frames))) → (o ≡ None → ⊥) → Duty (lent_at net o list frames further)
    duty_lent_at None gs further d there h = absurd (there refl)
    duty_lent_at (Some a) gs further d there h =
        by_test Duty (is_running a.state) _ _ (λ _ h. (tt, d a refl h.1)) (λ _ h. (tt, (root_told, tt))) h

    duty_lent_delivery : IsLeft longest turns [] list.0 → Duty (lent_delivery net list frames)
    duty_lent_delivery d =
        by_test Duty (phase_is_running net.phase) _ _
        (λ t. duty-append (delivered net list frames how.Lent (net.next.list + 1) (takers net frames)) (lent_home list Success)
        (duty_delivered list frames how.Lent (net.next.list + 1) (takers net frames) d own runs) (λ _. (root_told, tt)))
        (λ _ h. (tt, (root_told, tt)))

    duty_lent_up : (passed gs : List ℕ) → reverse net.modules.order ≡ passed ++ gs → IsLeft longest turns gs list.0 → Duty (lent_up net list frames (filter (has_receive net.modules) gs))
    duty_lent_up passed [] e d = duty_lent_delivery d
    duty_lent_up passed (g ∷ gs) e d =
        let there : is_in g net.modules.order ≡ true = sym (in_reverse g net.modules.order) ∙ ap (is_in g) e ∙ in_middle g passed gs in
        let s : HasSetup turns net.modules g = set_of turns net.modules g net.modules.order there (k.set_up runs) in
        let out : is_in g passed ≡ false = not_before g passed gs (subst IsDistinct e (distinct_reverse net.modules.order k.facts.distinct)) in
        let low : below g (reverse net.modules.order) ≡ gs = ap (below g) e ∙ below_past g passed (g ∷ gs) out ∙ ap (λ b. cond b gs (below g gs)) (itself g) in
        let next : IsLeft longest turns gs list.0 → Duty (lent_up net list frames (filter (has_receive net.modules) gs)) = duty_lent_up (passed ++ g ∷ []) gs (e ∙ sym (snoc passed g gs)) in
        let cases : (b : Bool) → has_receive net.modules g ≡ b → Duty (lent_up net list frames (cond b (g ∷ filter (has_receive net.modules) gs) (filter (has_receive net.modules) gs))) = elim [
          | true ↦ λ t. duty_lent_at (attached g net.modules.filters) gs (lent_up net list frames (filter (has_receive net.modules) gs))
              (λ a f.
              let same : a.filter ≡ g = attached-is g net.modules.filters a f in
              let told : setup_of turns g ≡ Some a.setup = s.setup ∙ ap (λ (y : Attached). Some y.setup) (some_entry s.entry a (sym s.found ∙ f)) in
              let pair : a.setup.handlers.receive ≡ true = sym (ap (λ o. (handlers_of o).receive) f) ∙ t in
              duty_lent_handled a gs (lent_up net list frames (filter (has_receive net.modules) gs)) (applied (max_frame net.head) a.setup.receive frames)
              (ap (λ i. below i (reverse net.modules.order)) same ∙ low) (ap (λ i. is_in i net.modules.order) same ∙ there)
              (λ made m. sym (ap (option_and_then (carried_back longest turns gs)) (ap (received_by longest (setup_of turns g)) own ∙ goes_through longest turns g a.setup frames told pair ∙ m)) ∙ d)
              next)
              (λ f. off (sym t ∙ ap (λ o. (handlers_of o).receive) f))
          | false ↦ λ t. next (sym (only_pairs longest turns net.modules g gs (frames_of turns list.0) s t) ∙ d)
        ] in
        cases (has_receive net.modules g) refl
      where
        some_entry : (x y : Attached) → Some x ≡ Some y → x ≡ y
        some_entry x y e = cc

        off : true ≡ false → ⊥
        off e = cc

        snoc : (xs : List ℕ) (x : ℕ) (ys : List ℕ) → (xs ++ x ∷ []) ++ ys ≡ xs ++ x ∷ ys
        snoc [] x ys = refl
        snoc (y ∷ xs) x ys = ap (λ rest. y ∷ rest) (snoc xs x ys)

  duty_lent : (frames : List (List ℕ)) → (net.phase ≡ phase.Halted → ⊥) → Duty (lent_rows net frames)
  duty_lent frames runs h =
      (h.0.issue, duty_lent_up (list_no net.next.list) frames (ap clone_in h.0.issue) (ap frames_in h.0.issue) runs [] (reverse net.modules.order) refl (root_left turns net k net.next.list Miniport direction.Lent None frames h.0) h.1)

  -- a list that a binding gives back
  duty_give_back : (b : ℕ) (o : Option LiveList) → OweAll turns net k (give_back_of net b o).rows
  duty_give_back b None = tt
  duty_give_back b (Some l) =
      by_test (λ (o : Outcome). OweAll turns net k o.rows) (is_kept_by (Binding b) l.stand) _ _ (λ _. (homeward_owes turns net k l 0 Success, tt)) (λ _. tt)

  -- a cancel
  owe-flat_map : {A : Type 0} (f : A → List Row) (xs : List A) → ((x : A) → OweAll turns net k (f x)) → OweAll turns net k (flat_map f xs)
  owe-flat_map f [] h = tt
  owe-flat_map f (x ∷ xs) h = owe-append longest turns (reverse net.modules.order) (f x) (flat_map f xs) (h x) (owe-flat_map f xs h)

  duty_cancel : (id : ℕ) → OweAll turns net k (cancel_outcome net id).rows
  duty_cancel id =
      owe-flat_map (cancel_rows_at net id) (queues net.modules)
      (λ m. owe-flat_map (aborted net m) (cancelled_at net id m) (λ l. back_owes turns net k l m _))

  -- drains
  owe-map : (P : LiveList → Type 0) (f : LiveList → Row) (ls : List LiveList) → Each P ls → ((l : LiveList) → P l → Owe turns net k (f l)) → OweAll turns net k (map f ls)
  owe-map P f [] e h = tt
  owe-map P f (l ∷ ls) e h = (h l e.0, owe-map P f ls e.1 h)

  duty_returns : (b : ℕ) → OweAll turns net k (returns_all net b)
  duty_returns b =
      by_test (OweAll turns net k) (is_retain (kind_of_binding net.head b)) _ _
      (λ _. owe-map (IsReady net (Binding b)) (returned_by net) (ready_lists net (Binding b)) (ready_all net (Binding b) k.facts.apart) (λ l _. homeward_owes turns net k l 0 Success)) (λ _. tt)

  pass_owes : (f : ℕ) (l : LiveList) → IsReady net (Filter f) l → Owe turns net k (passed_by net f l)
  pass_owes f l r =
      let found : look net l.list.0 ≡ Some l = r.free.found in
      let there : is_in f net.modules.order ≡ true = (stands_at l (stand.Kept (Filter f)) found r.stand).there in
      onward_owes turns net k l.list l.direction (above f net.modules.order + 1) (k.live l found) (above_end turns net k f there)
      (λ d. subst (λ fs. IsLeft longest turns fs l.list.0) (sym (above_is turns net k f there)) (left (claim_of l (stand.Kept (Filter f)) found r.stand) (sends_told turns net k l found ∙ d)))
    where
      left : (sends_in (issue_of turns l.list.0) ≡ false → IsLeft longest turns (below f (reverse net.modules.order)) l.list.0) ⊎ IsCloned (look net) l.list.0 → sends_in (issue_of turns l.list.0) ≡ false → IsLeft longest turns (below f (reverse net.modules.order)) l.list.0
      left (inl h) d = h d
      left (inr c) d = absurd (r.free.free c.number c.clone c.found c.from)

  duty_passes : (f : ℕ) → OweAll turns net k (passes_all net f)
  duty_passes f =
      by_test (OweAll turns net k) (is_hold_filter net.modules f) _ _
      (λ _. owe-map (IsReady net (Filter f)) (passed_by net f) (ready_lists net (Filter f)) (ready_all net (Filter f) k.facts.apart) (λ l r. pass_owes f l r))
      (λ _. tt)

  first_each : (P : LiveList → Type 0) (ls : List LiveList) (l : LiveList) → Each P ls → first_of ls ≡ Some l → P l
  first_each P [] l h e = cc
  first_each P (x ∷ ls) l h e = let same : x ≡ l = one x l e in subst P same h.0
    where
      one : (x y : LiveList) → Some x ≡ Some y → x ≡ y
      one x y e = cc

  duty_empties : (o : Option LiveList) → first_of (ready_lists net Miniport) ≡ o → Duty (empties net o)
  duty_empties None e h = tt
  duty_empties (Some l) e looks =
      let r : IsReady net Miniport l = first_each (IsReady net Miniport) (ready_lists net Miniport) l (ready_all net Miniport k.facts.apart) e in
      by_test Duty (is_virtual net.head.kind) _ _
      (λ _. by_test Duty (phase_is_running net.phase) _ _ (λ _ h. tt) (λ _ h. back_owes turns net k l Miniport Paused))
      (λ _. duty_transmitted l r.free.found r.stand)
      looks

  duty_drain_rows : Duty (drain_rows net)
  duty_drain_rows =
      first_of_all Duty (λ _. tt) (map (returns_all net) (binding_numbers net.head) ++ (map (passes_all net) net.modules.order ++ empties_ring net ∷ []))
      (All-append Duty (map (returns_all net) (binding_numbers net.head)) _ (All-map Duty (returns_all net) (binding_numbers net.head) (λ b _. duty_returns b))
      (All-append Duty (map (passes_all net) net.modules.order) _ (All-map Duty (passes_all net) net.modules.order (λ f _. duty_passes f)) (duty_empties (first_of (ready_lists net Miniport)) refl, tt)))

  duty_drained : Duty (drained (drain_rows net)).rows
  duty_drained = by (drain_rows net) duty_drain_rows
    where
      by : (rows : List Row) → Duty rows → Duty (drained rows).rows
      by [] d = d
      by (r ∷ rows) d = d

  -- statuses and requests
  duty_seen : (number : StatusNo) (b : ℕ) (ss : List ModuleState) → OweAll turns net k (seen_by_all number b ss)
  duty_seen number b [] = tt
  duty_seen number b (s ∷ ss) = (tt, duty_seen number (b + 1) ss)

  duty_status : (number : StatusNo) (name : StatusName) (to : Target) → OweAll turns net k (status_rows net number name to)
  duty_status number name (Module m) = (tt, (tt, tt))
  duty_status number name Bindings = duty_seen number 0 net.modules.bindings

  duty_given : (g : Giving) → OweAll turns net k (giving_rows net g)
  duty_given g = (tt, given g.module_id)
    where
      given : (m : ModuleId) → OweAll turns net k (given_rows_by net g.request m)
      given Miniport = (tt, tt)
      given (Filter f) = (tt, tt)
      given (Binding b) = tt

  -- crossings
  duty_take : (o : Option LiveList) → ((l : LiveList) → o ≡ Some l → (look net l.list.0 ≡ Some l) × (l.stand ≡ stand.Kept Miniport)) → OweAll turns net k (take_of net o).rows
  duty_take None w = tt
  duty_take (Some l) w = (tt, tt)

  duty_done : (s : ListStatus) (o : Option LiveList) → OweAll turns net k (done_of net s o).rows
  duty_done s None = tt
  duty_done s (Some l) = (homeward_owes turns net k l (position net.modules.order Miniport) s, tt)

  module _ (reg : Register) (g : Agrees net reg) (s : IsSane reg) where
    -- what rows leave, where they fit
    abbrev pub Leaves : List Row → Type 0
    Leaves rows = AllFit reg rows → LookAll turns net k rows → Result turns net rows

    owed : (rows : List Row) → Duty rows → Leaves rows
    owed rows d f h = owed_result turns net k reg g s rows f (d h)

    -- a list at a filter
    at_down : (l : LiveList) (f : ℕ) (a : Attached) → look net l.list.0 ≡ Some l → l.stand ≡ stand.Passed way.Down (Module (Filter f)) → attached f net.modules.filters ≡ Some a → IsGivenHere turns net a l
    at_down l f a found e h =
        let same : f ≡ a.filter = sym (attached-is f net.modules.filters a h) in
        let place = stands_at l (stand.Passed way.Down (Module (Filter f))) found e in
        record {
          found = found;
          there = ap (λ i. is_in i net.modules.order) (sym same) ∙ place.1.there;
          entry = ap (λ i. attached i net.modules.filters) (sym same) ∙ h;
          up = λ d. absurd (clash (is_down l.direction) place.0 d);
        }
      where
        clash : (b : Bool) → b ≡ true → b ≡ false → ⊥
        clash true d e = cc
        clash false d e = cc

    at_up : (l : LiveList) (f : ℕ) (a : Attached) → look net l.list.0 ≡ Some l → l.stand ≡ stand.Passed way.Up (Module (Filter f)) → attached f net.modules.filters ≡ Some a → IsGivenHere turns net a l
    at_up l f a found e h =
        let same : f ≡ a.filter = sym (attached-is f net.modules.filters a h) in
        let place = stands_at l (stand.Passed way.Up (Module (Filter f))) found e in
        let claim = claim_of l (stand.Passed way.Up (Module (Filter f))) found e in
        record {
          found = found;
          there = ap (λ i. is_in i net.modules.order) (sym same) ∙ place.1.there;
          entry = ap (λ i. attached i net.modules.filters) (sym same) ∙ h;
          up = λ _. subst (λ i. IsLeft longest turns (from_filter i (reverse net.modules.order)) l.list.0 × Receives turns i) same claim;
        }

    leaves_down : (l : LiveList) (f : ℕ) (keeps : Bool) (o : Option Attached) → look net l.list.0 ≡ Some l → l.stand ≡ stand.Passed way.Down (Module (Filter f)) → attached f net.modules.filters ≡ o → Leaves (at_filter net o l keeps)
    leaves_down l f keeps None found e h = owed [] (λ _. tt)
    leaves_down l f keeps (Some a) found e h = filter_result turns net k a l (at_down l f a found e h) reg g s keeps

    leaves_up : (l : LiveList) (f : ℕ) (keeps : Bool) (o : Option Attached) → look net l.list.0 ≡ Some l → l.stand ≡ stand.Passed way.Up (Module (Filter f)) → attached f net.modules.filters ≡ o → Leaves (up_at_filter net o l keeps)
    leaves_up l f keeps None found e h = owed [] (λ _. tt)
    leaves_up l f keeps (Some a) found e h =
        by_test Leaves (is_running a.state) _ _
        (λ _. filter_result turns net k a l (at_up l f a found e h) reg g s keeps)
        (λ _. owed (turned_back net.modules l (Filter a.filter) Paused) (λ _. back_owes turns net k l (Filter a.filter) Paused))

    leaves_home : (l : LiveList) (m : ModuleId) (status : ListStatus) → look net l.list.0 ≡ Some l → Leaves (homeward_rows net l m status)
    leaves_home l m status found =
        by_test Leaves (same_module m l.owner) _ _
        (λ _ f h. home_result turns net k l found status)
        (λ _. owed (row.Give l.list m (completed_by l.direction) ∷ homeward net.modules l (position net.modules.order m) status ∷ []) (λ _. (tt, (homeward_owes turns net k l (position net.modules.order m) status, tt))))

    leaves_moved : (l : LiveList) (s : Stand) (keeps : Bool) → look net l.list.0 ≡ Some l → l.stand ≡ s → Leaves (moved_rows net l s keeps)
    leaves_moved l stand.Unplaced keeps found e = owed [] (λ _. tt)
    leaves_moved l (stand.Kept m) keeps found e = owed [] (λ _. tt)
    leaves_moved l (stand.Passed way.Down (Module Miniport)) keeps found e = owed (miniport_rows net l) (duty_miniport l found e)
    leaves_moved l (stand.Passed way.Down (Module (Filter f))) keeps found e = leaves_down l f keeps (attached f net.modules.filters) found e refl
    leaves_moved l (stand.Passed way.Down (Module (Binding b))) keeps found e = owed [] (λ _. tt)
    leaves_moved l (stand.Passed way.Down Bindings) keeps found e = owed [] (λ _. tt)
    leaves_moved l (stand.Passed way.Up (Module Miniport)) keeps found e = owed [] (λ _. tt)
    leaves_moved l (stand.Passed way.Up (Module (Filter f))) keeps found e = leaves_up l f keeps (attached f net.modules.filters) found e refl
    leaves_moved l (stand.Passed way.Up (Module (Binding b))) keeps found e = owed [] (λ _. tt)
    leaves_moved l (stand.Passed way.Up Bindings) keeps found e =
        by_test Leaves (phase_is_running net.phase) _ _
        (λ _. owed (delivery_rows net l keeps) (duty_delivery l keeps found e))
        (λ _. owed (turned_back net.modules l (Binding 0) Paused) (λ _. back_owes turns net k l (Binding 0) Paused))
    leaves_moved l (stand.Passed (way.Done status) (Module m)) keeps found e = leaves_home l m status found
    leaves_moved l (stand.Passed (way.Done status) Bindings) keeps found e = owed [] (λ _. tt)
    leaves_moved l (stand.Passed (way.Back status) (Module m)) keeps found e = leaves_home l m status found
    leaves_moved l (stand.Passed (way.Back status) Bindings) keeps found e = owed [] (λ _. tt)

    leaves_pump : (keeps : Bool) (o : Option Thing) → agenda_first net ≡ o → Leaves (pump_of net keeps o).rows
    leaves_pump keeps None e = request (next_giving net)
      where
        request : (o : Option Giving) → Leaves (request_pump net o).rows
        request None = owed [] (λ _. tt)
        request (Some x) = owed (giving_rows net x) (λ _. duty_given x)
    leaves_pump keeps (Some (thing.List l)) e =
        leaves_moved l l.stand keeps (each_away (λ x. look net x.list.0 ≡ Some x) net.things l (all_found (lists net.things) k.facts.apart) e) refl
    leaves_pump keeps (Some (thing.Status x)) e = owed (status_rows net x.number x.name x.to) (λ _. duty_status x.number x.name x.to)
    leaves_pump keeps (Some (thing.Answer x)) e = owed (answer_rows x.parent x.status x.value) (λ _. (tt, tt))

    abbrev LeavesBy : Outcome → Type 0
    LeavesBy o = Leaves o.rows

    kept_first : (b : Bool) (l : LiveList) → cond b None (first_of (kept_lists net Miniport)) ≡ Some l → (look net l.list.0 ≡ Some l) × (l.stand ≡ stand.Kept Miniport)
    kept_first true l e = cc
    kept_first false l e = let kept : IsKeptLive net Miniport l = first_each (IsKeptLive net Miniport) (kept_lists net Miniport) l (kept_live net Miniport k.facts.apart) e in (kept.found, kept.stand)

    uncrossed : (b : Bool) (l : LiveList) → cond b (find (λ l. not (is_crossed l.crossed)) (kept_lists net Miniport)) None ≡ Some l → (look net l.list.0 ≡ Some l) × (l.stand ≡ stand.Kept Miniport)
    uncrossed true l e = let kept : IsKeptLive net Miniport l = (each_find (IsKeptLive net Miniport) (λ l. not (is_crossed l.crossed)) (kept_lists net Miniport) l (kept_live net Miniport k.facts.apart) e).0 in (kept.found, kept.stand)
    uncrossed false l e = cc

    sent_rows : (n : ℕ) (b : ℕ) (cancel : Option ℕ) (frames : List (List ℕ)) → (net.phase ≡ phase.Halted → ⊥) → Duty (root net n (Binding b) direction.Down cancel frames ∷ onward net.modules (list_no n) direction.Down 0 ∷ [])
    sent_rows n b cancel frames runs h = let r = sent_owes turns net k n (Binding b) cancel frames runs h.0 in (r.0, (r.1, tt))

    indicated_rows : (frames : List (List ℕ)) → (net.phase ≡ phase.Halted → ⊥) → Duty (indicated net frames)
    indicated_rows frames runs h = let r = risen_owes turns net k net.next.list Miniport frames runs h.0 in (r.0, (r.1, tt))

    take_up_rows : (o : Option Message) → OweAll turns net k (take_up_of net o).rows
    take_up_rows None = tt
    take_up_rows (Some m) = (tt, tt)

    -- each event that changes no state of a module
    pub event_leaves : (e : Event) (c : Choice) → is_plain e ≡ true → Leaves (outcome net e c).rows
    event_leaves event.Initialize c p = cc
    event_leaves (event.Insert kind position setup) c p = cc
    event_leaves (event.Remove filter) c p = cc
    event_leaves (event.Replace filter kind setup) c p = cc
    event_leaves event.BeginPause c p = cc
    event_leaves event.PauseNext c p = cc
    event_leaves event.RestartNext c p = cc
    event_leaves event.Halt c p = cc
    event_leaves (event.Send binding cancel frames) c p =
        by_test LeavesBy (phase_is_running net.phase) _ _
        (λ t. by_test LeavesBy (is_full net (Binding binding)) _ _ (λ _. owed [] (λ _. tt))
        (λ _. owed (sent net binding cancel frames) (sent_rows net.next.list binding cancel frames (runs_when t))))
        (λ _. owed [] (λ _. tt))
    event_leaves (event.Indicate frames) c p =
        by_test LeavesBy (is_running net.modules.miniport) _ _
        (λ t. by_test LeavesBy (is_full net Miniport) _ _ (λ _. owed [] (λ _. tt)) (λ _. owed (indicated net frames) (indicated_rows frames (k.indicates t))))
        (λ _. owed [] (λ _. tt))
    event_leaves (event.Lend frames) c p =
        by_test LeavesBy (is_running net.modules.miniport) _ _
        (λ t. by_test LeavesBy (is_full net Miniport) _ _ (λ _. owed [] (λ _. tt)) (λ _. owed (lent_rows net frames) (duty_lent frames (k.indicates t))))
        (λ _. owed [] (λ _. tt))
    event_leaves (event.GiveBack binding list) c p = owed (give_back_of net binding (list_of list.0 (lists net.things))).rows (λ _. duty_give_back binding (list_of list.0 (lists net.things)))
    event_leaves (event.Cancel id) c p = owed (cancel_outcome net id).rows (λ _. duty_cancel id)
    event_leaves (event.Ask binding kind code value) c p =
        by_test LeavesBy (is_unbound (state_of net (Binding binding))) _ _ (λ _. owed [] (λ _. tt)) (λ _. owed (row.OidIssue (oid_no net.next.request) None binding kind code value ∷ []) (λ _. (tt, tt)))
    event_leaves (event.Status name) c p =
        by_test LeavesBy (is_halted net.modules.miniport) _ _ (λ _. owed [] (λ _. tt))
        (λ _. owed (row.Status (status_no net.next.status) name (next_status net.modules (position net.modules.order Miniport)) ∷ []) (λ _. (tt, tt)))
    event_leaves event.Transmit c p = owed (transmit_of net (first_in_ring net)).rows (duty_transmit (first_in_ring net) (λ l e. kept_first (is_virtual net.head.kind) l e))
    event_leaves event.Pump c p = leaves_pump c.keeps (agenda_first net) refl
    event_leaves event.Drain c p =
        by_test LeavesBy (is_pump_moving net) _ _
        (λ _. leaves_pump c.keeps (agenda_first net) refl)
        (λ _. owed (drained (drain_rows net)).rows duty_drained)
    event_leaves event.CrossTake c p = owed (take_of net (first_uncrossed net)).rows (λ _. duty_take (first_uncrossed net) (λ l e. uncrossed (is_virtual net.head.kind) l e))
    event_leaves (event.CrossPut stack message vlan frames) c p =
        by_test LeavesBy (phase_is_running net.phase) _ _
        (λ t. by_test LeavesBy (list_any (is_too_long_tagged net.head) frames) _ _ (λ _. owed [] (λ _. tt))
        (λ _. by_test LeavesBy (is_full net (Binding (mux_binding_for net.head stack))) _ _ (λ _. owed [] (λ _. tt))
        (λ _. owed (put_rows net stack message vlan frames) (λ h. (tt, sent_rows net.next.list (mux_binding_for net.head stack) None _ (runs_when t) h.1)))))
        (λ _. owed [] (λ _. tt))
    event_leaves (event.CrossDone message status) c p = owed (done_of net status (find (λ l. is_in_message message.0 l.crossed) (lists net.things))).rows (λ _. duty_done status (find (λ l. is_in_message message.0 l.crossed) (lists net.things)))
    event_leaves (event.CrossTakeUp binding vlan) c p = owed (take_up_of net (find (is_for binding vlan) net.messages)).rows (λ _. take_up_rows (find (is_for binding vlan) net.messages))
    event_leaves (event.CrossPutUp stack message frames) c p =
        by_test LeavesBy (is_running net.modules.miniport) _ _
        (λ t. by_test LeavesBy (is_full net Miniport) _ _ (λ _. owed [] (λ _. tt))
        (λ _. owed (row.CrossIn stack message crossing.Up frames ∷ indicated net frames) (λ h. (tt, indicated_rows frames (k.indicates t) h.1))))
        (λ _. owed [] (λ _. tt))
