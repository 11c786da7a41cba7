-- What each event that changes no state of a module settles, and what its rows owe.
use Rattle.std.proofs.Common.{◌≡◌, ℕ, ◌+◌, ◌<◌, ◌≤◌, ◌==◌, ◌&&◌, ◌⊎◌, inl, inr, Bool, true, false, cond, List, [], ◌∷◌, ◌++◌, Option, Some, None, map, filter, reverse, find, refl, arith, ap, sym, subst, ◌∙◌}
use Rattle.std.specs.List.{list_any}
use Rattle.std.proofs.lemmas.Bool.Decides.{nat_tests}
use Rattle.ndis_base.specs.declared.CrossNo.{CrossNo}
use Rattle.ndis_base.specs.declared.ModuleId.{ModuleId}
use Rattle.ndis_base.specs.declared.ModuleId.TheVariants.{Miniport, Filter, Binding}
use Rattle.ndis_base.specs.declared.ModuleState.{ModuleState}
use Rattle.ndis_base.specs.declared.ListNo.{ListNo}
use Rattle.ndis_base.specs.declared.ListStatus.{ListStatus}
use Rattle.ndis_base.specs.declared.ListStatus.TheVariants.{Success, Resources, Paused, Dropped}
use Rattle.ndis_base.specs.declared.Direction.{Direction}
use Rattle.ndis_base.specs.declared.Direction.TheVariants as direction
use Rattle.ndis_base.specs.declared.Origin.{Origin}
use Rattle.ndis_base.specs.declared.Origin.TheVariants as origin
use Rattle.ndis_base.specs.declared.StatusNo.{StatusNo}
use Rattle.ndis_base.specs.declared.StatusName.{StatusName}
use Rattle.journal_types.specs.declared.Handler.TheVariants as handler
use Rattle.journal_types.specs.declared.How.{How}
use Rattle.journal_types.specs.declared.How.TheVariants as how
use Rattle.journal_types.specs.declared.PassWay.{PassWay}
use Rattle.journal_types.specs.declared.PassWay.TheVariants as way
use Rattle.journal_types.specs.declared.Target.{Target}
use Rattle.journal_types.specs.declared.Target.TheVariants.{Module, Bindings}
use Rattle.journal_types.specs.declared.Event.{Event}
use Rattle.journal_types.specs.declared.Event.TheVariants as event
use Rattle.journal_types.specs.declared.Row.{Row}
use Rattle.journal_types.specs.declared.Row.TheVariants as row
use Rattle.journal_types.specs.declared.Turn.{Turn}
use Rattle.journal_types.specs.declared.Way.TheVariants as crossing
use Rattle.program_types.specs.Apply.{applied}
use Rattle.stack_rules.specs.declared.Stand.{Stand}
use Rattle.stack_rules.specs.declared.Stand.TheVariants as stand
use Rattle.stack_rules.specs.declared.LiveList.{LiveList}
use Rattle.stack_rules.specs.declared.Attached.{Attached}
use Rattle.stack_rules.specs.declared.Message.{Message}
use Rattle.stack_rules.specs.declared.Choice.{Choice}
use Rattle.stack_rules.specs.declared.Thing.{Thing}
use Rattle.stack_rules.specs.declared.Thing.TheVariants as thing
use Rattle.stack_rules.specs.Tests.{phase_is_running, is_running, is_virtual, is_retain, is_halted, is_hold, same_frames, same_module, is_down, is_unbound}
use Rattle.stack_rules.specs.Heads.{kind_of_binding, binding_numbers}
use Rattle.stack_rules.specs.Messages.{is_for}
use Rattle.stack_rules.specs.Net.{Net, Modules, after, after_rows, attached, list_of, lists}
use Rattle.stack_rules.specs.Places.{position, is_full, ready_lists, is_kept_by, is_crossed, kept_lists, agenda_first, state_of, has_clone}
use Rattle.stack_rules.specs.Targets.{onward, homeward, has_receive, next_status}
use Rattle.stack_rules.specs.Outcome.{Outcome, oid_no, status_no, root, list_no, max_frame}
use Rattle.stack_rules.specs.Handled.{made_of, cloned, stays, handled_as, given_by, filter_rows}
use Rattle.stack_rules.specs.Sends.{ring_is_full, at_filter, loops, looped, transmitted, transmit_of, first_of, first_in_ring, sent, miniport_rows}
use Rattle.stack_rules.specs.Dones.{homeward_rows, released, released_list, completed_by}
use Rattle.stack_rules.specs.Deliveries.{delivered, echoes, settled, last_of, takers, delivery_rows}
use Rattle.stack_rules.specs.Receives.{up_at_filter, give_back_of, lent_at, lent_handled, lent_up, lent_home, lent_rows, indicated}
use Rattle.stack_rules.specs.Cancels.{is_hold_filter}
use Rattle.stack_rules.specs.Drains.{returned_by, returns_all, passed_by, passes_all, empties, empties_ring, drain_rows, drained}
use Rattle.stack_rules.specs.Pumps.{moved_rows, request_pump, pump_of, is_pump_moving}
use Rattle.stack_rules.specs.Statuses.{seen_by_all, status_rows}
use Rattle.stack_rules.specs.Crosses.{first_uncrossed, take_of, done_of, take_up_of, is_too_long_tagged, mux_binding_for, is_in_message, put_rows}
use Rattle.stack_rules.specs.Requests.{Giving, given_rows_by, giving_rows, next_giving, answer_rows}
use Rattle.stack_rules.specs.Sound.{outcome}
use Rattle.rule_basics.specs.Live.{Each}
use Rattle.rule_basics.proofs.Lives.{find_is}
use Rattle.state_laws.proofs.Rows.{by_test}
use Rattle.state_laws.proofs.Quiet.{is_plain}
use Rattle.state_laws.proofs.Calm.{All-append, All-map, first_of_all}
use Rattle.pause_laws.proofs.Keepers.{kept_is}
use Rattle.pause_laws.proofs.Works.{each_find, each_away}
use Rattle.place_laws.proofs.Good.{StandsAt, cloned_from, by_number, IsFrom}
use Rattle.place_laws.proofs.Looks.{look}
use Rattle.place_laws.proofs.Keepers.{all_found, IsKeptLive, kept_live, IsReady, ready_all}
use Rattle.promise_rules.specs.Rows.{issue_of, is_home, status_in}
use Rattle.promise_rules.specs.Families.{root_of}
use Rattle.promise_rules.specs.Fates.{crossing_of, took}
use Rattle.completion_laws.proofs.Tells.{NonePass, none_find}
use Rattle.family_laws.proofs.Rows.{sends_in, clone_in, IsCloned}
use Rattle.family_laws.specs.Looked.{HasRoot}
use Rattle.family_laws.proofs.Known.{AllLook, look-split}
use Rattle.tip_laws.proofs.Kin.{root_low}
use Rattle.send_fates.proofs.Tally.{settled_by, settled_rows, as_list}
use Rattle.send_fates.proofs.Rows.{is_placed, placed-later, Send, Open, Settled, Claim, Owes, AllOwe}
use Rattle.send_fates.proofs.Starts.{Start, Goes, came_home, nil_end, no_status, none_list, same_number, differ, clash, Calm, AllCalm, calm-append, calm_owes, calm_mute, calm_none, calm_homeward, homeward_places, quiet, calm, bare_at, with_one, one_settled, settles_one, one_row, goes_back, given_back}
use Rattle.send_fates.proofs.Cancels.{cancel_goes}
use Rattle.send_fates.proofs.Grows.{grows_rows}

module _ (whole : List Turn) where
  abbrev R : ℕ → ℕ
  R n = root_of whole n

  calm_onward : (w : ℕ → List ListStatus) (ms : Modules) (list : ListNo) (d : Direction) (i : ℕ) → (is_down d ≡ true → Open whole w list.0) → Calm whole w (onward ms list d i)
  calm_onward w ms list direction.Down i h = h refl
  calm_onward w ms list direction.Up i h = tt
  calm_onward w ms list direction.Lent i h = tt

  module _ (done : List Row) (v : ℕ → List ListStatus) (net : Net) (k : Start whole done v net) where
    abbrev Looked : List Row → Type 0
    Looked rows = AllLook whole net.modules.order rows

    abbrev Does : List Row → Type 0
    Does rows = AllLook whole net.modules.order rows → Goes whole done v net (λ r. settled_rows whole r rows) rows

    does_calm : (rows : List Row) → (Looked rows → AllCalm whole v rows) → Does rows
    does_calm rows h looks = calm whole done v net k rows (h looks)

    sends_told : (l : LiveList) → look net l.list.0 ≡ Some l → sends_in (issue_of whole l.list.0) ≡ is_down l.direction
    sends_told l f = ap sends_in (k.told l.list.0 l f).is

    claim_of : (l : LiveList) (s : Stand) → look net l.list.0 ≡ Some l → l.stand ≡ s → Claim whole v (look net) l.list.0 s
    claim_of l s f e = subst (Claim whole v (look net) l.list.0) e (k.claims l.list.0 l f)

    stands_at : (l : LiveList) (s : Stand) → look net l.list.0 ≡ Some l → l.stand ≡ s → StandsAt net.modules.order (is_down l.direction) l.owner s
    stands_at l s f e = subst (StandsAt net.modules.order (is_down l.direction) l.owner) e (k.facts.good.good.well l.list.0 l f).stands

    never : (P : Type 0) (d : Direction) → is_down d ≡ false → is_down d ≡ true → P
    never P d e t = absurd (clash (is_down d) t e)

    bare_passed : (l : LiveList) (w : PassWay) (to : Target) → look net l.list.0 ≡ Some l → l.stand ≡ stand.Passed w to → has_clone net l.list.0 ≡ false
    bare_passed l w to f e = bare_at whole done v net k l f (λ i g. differs i (sym e ∙ g))
      where
        differs : (i : ℕ) → stand.Passed w to ≡ stand.Kept (Filter i) → ⊥
        differs i g = cc

    bare_kept : (l : LiveList) → look net l.list.0 ≡ Some l → l.stand ≡ stand.Kept Miniport → has_clone net l.list.0 ≡ false
    bare_kept l f e = bare_at whole done v net k l f (λ i g. differs i (sym e ∙ g))
      where
        differs : (i : ℕ) → stand.Kept Miniport ≡ stand.Kept (Filter i) → ⊥
        differs i g = cc

    -- a list at a filter
    module _ (a : Attached) (l : LiveList) (found : look net l.list.0 ≡ Some l) (bare : has_clone net l.list.0 ≡ false) (opens : is_down l.direction ≡ true → Open whole v l.list.0) where
      abbrev give : Row
      give = row.Give l.list (Filter a.filter) (given_by l.direction)

      opens_told : Send whole l.list.0 → Open whole v l.list.0
      opens_told t = opens (sym (sends_told l found) ∙ t)

      does_stays : (keeps : Bool) → Does (give ∷ stays net a l keeps)
      does_stays keeps =
          by_test (λ rows. Does (give ∷ rows)) (keeps && is_hold a.kind) _ _
          (λ _. does_calm (give ∷ row.Keep l.list (Filter a.filter) ∷ []) (λ _. (tt, (opens_told, tt))))
          (λ _. does_calm (give ∷ onward net.modules l.list l.direction (position net.modules.order (Filter a.filter)) ∷ []) (λ _. (tt, (calm_onward v net.modules l.list l.direction (position net.modules.order (Filter a.filter)) opens, tt))))

      does_cloned : (made : List (List ℕ)) → Does (give ∷ cloned net a l made)
      does_cloned made =
          does_calm (give ∷ cloned net a l made)
          (λ looks. (tt, ((looks.1.0.issue, λ d. ap v looks.1.0.root ∙ opens d), (opens_told, (calm_onward v net.modules (list_no net.next.list) l.direction (position net.modules.order (Filter a.filter)) (λ d. ap v looks.1.0.root ∙ opens d), tt)))))

      does_handled : (keeps : Bool) (o : Option (List (List ℕ))) → Does (give ∷ handled_as net a l keeps o)
      does_handled keeps None looks = given_back whole done v net k l found bare Dropped (Filter a.filter) (given_by l.direction) opens
      does_handled keeps (Some made) looks =
          by_test (λ rows. Does (give ∷ rows)) (same_frames made l.frames) _ _
          (λ _. does_stays keeps)
          (λ _. by_test (λ rows. Does (give ∷ rows)) (is_full net (Filter a.filter)) _ _
          (λ _ looks. given_back whole done v net k l found bare Resources (Filter a.filter) (given_by l.direction) opens)
          (λ _. does_cloned made))
          looks

      does_filter : (keeps : Bool) → Does (filter_rows net a l keeps)
      does_filter keeps = does_handled keeps (made_of net a l)

    does_down : (l : LiveList) (f : ℕ) (keeps : Bool) (o : Option Attached) → look net l.list.0 ≡ Some l → l.stand ≡ stand.Passed way.Down (Module (Filter f)) → Does (at_filter net o l keeps)
    does_down l f keeps None found e = does_calm [] (λ _. tt)
    does_down l f keeps (Some a) found e = does_filter a l found (bare_passed l way.Down (Module (Filter f)) found e) (λ _. claim_of l (stand.Passed way.Down (Module (Filter f))) found e) keeps

    does_up : (l : LiveList) (f : ℕ) (keeps : Bool) (o : Option Attached) → look net l.list.0 ≡ Some l → l.stand ≡ stand.Passed way.Up (Module (Filter f)) → Does (up_at_filter net o l keeps)
    does_up l f keeps None found e = does_calm [] (λ _. tt)
    does_up l f keeps (Some a) found e =
        let bare : has_clone net l.list.0 ≡ false = bare_passed l way.Up (Module (Filter f)) found e in
        let opens : is_down l.direction ≡ true → Open whole v l.list.0 = never (Open whole v l.list.0) l.direction (stands_at l (stand.Passed way.Up (Module (Filter f))) found e).0 in
        by_test Does (is_running a.state) _ _
        (λ _. does_filter a l found bare opens keeps)
        (λ _ looks. goes_back whole done v net k l found bare Paused (Filter a.filter) opens)

    -- at the miniport
    does_miniport : (l : LiveList) → look net l.list.0 ≡ Some l → l.stand ≡ stand.Passed way.Down (Module Miniport) → Does (miniport_rows net l)
    does_miniport l found e =
        let opens : Open whole v l.list.0 = claim_of l (stand.Passed way.Down (Module Miniport)) found e in
        by_test (λ rows. Does (row.Give l.list Miniport handler.Send ∷ rows)) (ring_is_full net) _ _
        (λ _ looks. given_back whole done v net k l found (bare_passed l way.Down (Module Miniport) found e) Resources Miniport handler.Send (λ _. opens))
        (λ _. does_calm (row.Give l.list Miniport handler.Send ∷ row.Keep l.list Miniport ∷ []) (λ _. (tt, (opens, tt))))

    calm_looped : (w : ℕ → List ListStatus) (l : LiveList) → Looked (looped net l) → AllCalm whole w (looped net l)
    calm_looped w l =
        by_test (λ rows. Looked rows → AllCalm whole w rows) (loops net) _ _
        (λ _ looks. ((looks.0.issue, λ d. absurd (clash (is_down direction.Up) d refl)), (tt, tt))) (λ _ looks. tt)

    does_transmitted : (l : LiveList) → look net l.list.0 ≡ Some l → l.stand ≡ stand.Kept Miniport → Does (transmitted net l)
    does_transmitted l found e looks =
        let bare : has_clone net l.list.0 ≡ false = bare_kept l found e in
        let now : ℕ → List ListStatus = with_one whole done v net k l found bare Success in
        let post : List Row = looped net l ++ homeward net.modules l (position net.modules.order Miniport) Success ∷ [] in
        one_row whole done v net k l found bare Success [] post (row.Wire l.list l.frames) (λ q. refl) tt (λ q. refl) tt
        (calm-append whole now (looped net l) (homeward net.modules l (position net.modules.order Miniport) Success ∷ [])
        (calm_looped now l (look-split whole net.modules.order (looped net l) (homeward net.modules l (position net.modules.order Miniport) Success ∷ []) looks.1).0)
        (calm_homeward whole now net.modules l.list l.owner l.direction (position net.modules.order Miniport) Success (λ _. one_settled whole done v net k l found bare Success (claim_of l (stand.Kept Miniport) found e)), tt))
        (placed-later l.list.0 (looped net l) (homeward net.modules l (position net.modules.order Miniport) Success ∷ []) (homeward_places whole net.modules l.list l.owner l.direction (position net.modules.order Miniport) Success []))
        (grows_rows net (row.Wire l.list l.frames ∷ post))

    does_transmit : (o : Option LiveList) → ((l : LiveList) → o ≡ Some l → (look net l.list.0 ≡ Some l) × (l.stand ≡ stand.Kept Miniport)) → Does (transmit_of net o).rows
    does_transmit None w = does_calm [] (λ _. tt)
    does_transmit (Some l) w = does_transmitted l (w l refl).0 (w l refl).1

    -- lists that a row issues of their own
    module _ (w : ℕ → List ListStatus) (low : ℕ) (opened : (n : ℕ) → low ≤ n → w n ≡ []) where
      root_open : (n : ℕ) → low ≤ n → R n ≡ n → Open whole w n
      root_open n h e = ap w e ∙ opened n h

      calm_delivered : (list : ListNo) (frames : List (List ℕ)) (own : How) (n : ℕ) (bs : List ℕ) → low ≤ n → Looked (delivered net list frames own n bs) → AllCalm whole w (delivered net list frames own n bs)
      calm_delivered list frames own n [] h looks = tt
      calm_delivered list frames own n (b ∷ bs) h looks = (
        tt,
        by_test (λ rows. Looked rows → AllCalm whole w rows) (echoes net b) _ _
            (λ _ looks. ((looks.0.issue, λ d. root_open n h looks.0.root), (calm_onward w net.modules (list_no n) direction.Down 0 (λ d. root_open n h looks.0.root), calm_delivered list frames own (n + 1) bs (omega (arith, h)) looks.1.1)))
            (λ _ looks. calm_delivered list frames own n bs h looks) looks.1,
      )

    calm_settled : (l : LiveList) (keeps : Bool) (o : Option ℕ) → is_down l.direction ≡ false → AllCalm whole v (settled net l keeps o)
    calm_settled l keeps None up = (calm_homeward whole v net.modules l.list l.owner l.direction 0 Success (never _ l.direction up), tt)
    calm_settled l keeps (Some b) up =
        by_test (AllCalm whole v) (keeps && is_retain (kind_of_binding net.head b)) _ _ (λ _. (tt, tt)) (λ _. (calm_homeward whole v net.modules l.list l.owner l.direction 0 Success (never _ l.direction up), tt))

    does_delivery : (l : LiveList) (keeps : Bool) → is_down l.direction ≡ false → Does (delivery_rows net l keeps)
    does_delivery l keeps up =
        does_calm (delivery_rows net l keeps)
        (λ looks. calm-append whole v (delivered net l.list l.frames how.Own net.next.list (takers net l.frames)) (settled net l keeps (last_of (takers net l.frames)))
        (calm_delivered v net.next.list k.fresh l.list l.frames how.Own net.next.list (takers net l.frames) (omega arith) (look-split whole net.modules.order (delivered net l.list l.frames how.Own net.next.list (takers net l.frames)) (settled net l keeps (last_of (takers net l.frames))) looks).0)
        (calm_settled l keeps (last_of (takers net l.frames)) up))

    -- a list on its way home
    module _ (l : LiveList) (found : look net l.list.0 ≡ Some l) (status : ListStatus) (settles : is_down l.direction ≡ true → Settled whole v l.list.0 status) where
      abbrev home : Row
      home = row.Home l.list l.owner status

      home_goes : (rest : List Row) → AllCalm whole v rest → ((i : ℕ) → cloned_from l.origin ≡ Some i → is_placed i rest ≡ true) → Goes whole done v net (λ r. settled_rows whole r (home ∷ rest)) (home ∷ rest)
      home_goes rest h placed = record {
        now = v;
        adds = λ r. sym (ap (λ x. v r ++ x) (calm_mute whole v r rest h) ∙ nil_end (v r));
        tips = λ n x f b. inr refl;
        owes = (λ o e. placed o (sym (ap clone_in (k.told l.list.0 l found).is) ∙ e), calm_owes whole v rest h);
        old = λ r s d e. refl;
        later = λ r e. refl;
        homes = λ r s send own e. cases r s send own (l.list.0 == r) refl e;
      }
        where
          equal : (n m : ℕ) → (n == m) ≡ true → n ≡ m
          equal n m t = grind (arith, nat_tests)

          one : (x y : ListStatus) → Some x ≡ Some y → x ≡ y
          one x y e = cc

          cases : (r : ℕ) (s : ListStatus) → Send whole r → R r ≡ r → (b : Bool) → (l.list.0 == r) ≡ b → status_in (cond b (Some home) (find (is_home r) rest)) ≡ Some s → v r ≡ s ∷ []
          cases r s send own true t e =
              let same : l.list.0 ≡ r = equal l.list.0 r t in
              let down : is_down l.direction ≡ true = sym (sends_told l found) ∙ ap (λ i. sends_in (issue_of whole i)) same ∙ send in
              ap v (sym own ∙ ap (root_of whole) (sym same)) ∙ settles down ∙ ap (λ x. x ∷ []) (one status s e)
          cases r s send own false t e = absurd (no_status s (sym (ap status_in (none_find (is_home r) rest (calm_none whole v r rest h))) ∙ e))

      home_clone : (o : ListNo) → l.origin ≡ origin.Clone o → (x : Option LiveList) → list_of o.0 (lists net.things) ≡ x → Goes whole done v net (λ r. settled_rows whole r (home ∷ released_list net l.owner status x)) (home ∷ released_list net l.owner status x)
      home_clone o e None f = let b = k.kin.backed l.list.0 l o found e in absurd (none_list b.0 (sym f ∙ b.1))
      home_clone o e (Some original) f =
          let number : original.list.0 ≡ o.0 = (find_is o.0 (lists net.things) original f).0 in
          let from : IsFrom net.modules.order (is_virtual net.head.kind) l original = k.facts.good.good.from l.list.0 o.0 l original found (ap cloned_from e) f in
          let kin : R l.list.0 ≡ R o.0 = subst (λ x. HasRoot whole l.list.0 x) e (k.kin.roots l.list.0 l found) in
          home_goes (homeward net.modules original (position net.modules.order l.owner) status ∷ [])
          (calm_homeward whole v net.modules original.list original.owner original.direction (position net.modules.order l.owner) status (λ d. ap v (ap (root_of whole) number ∙ sym kin) ∙ settles (sym from.same ∙ d)), tt)
          (λ i c. subst (λ j. is_placed j (homeward net.modules original (position net.modules.order l.owner) status ∷ []) ≡ true) (number ∙ one o.0 i (sym (ap cloned_from e) ∙ c)) (homeward_places whole net.modules original.list original.owner original.direction (position net.modules.order l.owner) status []))
        where
          one : (x y : ℕ) → Some x ≡ Some y → x ≡ y
          one x y e = cc

      home_by : (x : Origin) → l.origin ≡ x → Goes whole done v net (λ r. settled_rows whole r (home ∷ released net l.owner x status)) (home ∷ released net l.owner x status)
      home_by origin.Root e = home_goes [] tt (λ i c. absurd (none_number i (sym (ap cloned_from e) ∙ c)))
        where
          none_number : (i : ℕ) → None ≡ Some i → ⊥
          none_number i e = cc
      home_by (origin.Copy o) e = home_goes [] tt (λ i c. absurd (none_number i (sym (ap cloned_from e) ∙ c)))
        where
          none_number : (i : ℕ) → None ≡ Some i → ⊥
          none_number i e = cc
      home_by (origin.Clone o) e = home_clone o e (list_of o.0 (lists net.things)) refl

      does_homeward : (m : ModuleId) → Does (homeward_rows net l m status)
      does_homeward m =
          by_test Does (same_module m l.owner) _ _
          (λ _ looks. home_by l.origin refl)
          (λ _. does_calm (row.Give l.list m (completed_by l.direction) ∷ homeward net.modules l (position net.modules.order m) status ∷ []) (λ _. (tt, (calm_homeward whole v net.modules l.list l.owner l.direction (position net.modules.order m) status settles, tt))))

    does_moved : (l : LiveList) (s : Stand) (keeps : Bool) → look net l.list.0 ≡ Some l → l.stand ≡ s → Does (moved_rows net l s keeps)
    does_moved l stand.Unplaced keeps found e = does_calm [] (λ _. tt)
    does_moved l (stand.Kept m) keeps found e = does_calm [] (λ _. tt)
    does_moved l (stand.Passed way.Down (Module Miniport)) keeps found e = does_miniport l found e
    does_moved l (stand.Passed way.Down (Module (Filter f))) keeps found e = does_down l f keeps (attached f net.modules.filters) found e
    does_moved l (stand.Passed way.Down (Module (Binding b))) keeps found e = does_calm [] (λ _. tt)
    does_moved l (stand.Passed way.Down Bindings) keeps found e = does_calm [] (λ _. tt)
    does_moved l (stand.Passed way.Up (Module Miniport)) keeps found e = does_calm [] (λ _. tt)
    does_moved l (stand.Passed way.Up (Module (Filter f))) keeps found e = does_up l f keeps (attached f net.modules.filters) found e
    does_moved l (stand.Passed way.Up (Module (Binding b))) keeps found e = does_calm [] (λ _. tt)
    does_moved l (stand.Passed way.Up Bindings) keeps found e =
        let up : is_down l.direction ≡ false = stands_at l (stand.Passed way.Up Bindings) found e in
        by_test Does (phase_is_running net.phase) _ _
        (λ _. does_delivery l keeps up)
        (λ _ looks. goes_back whole done v net k l found (bare_passed l way.Up Bindings found e) Paused (Binding 0) (never (Open whole v l.list.0) l.direction up))
    does_moved l (stand.Passed (way.Done status) (Module m)) keeps found e = does_homeward l found status (λ _. claim_of l (stand.Passed (way.Done status) (Module m)) found e) m
    does_moved l (stand.Passed (way.Done status) Bindings) keeps found e = does_calm [] (λ _. tt)
    does_moved l (stand.Passed (way.Back status) (Module m)) keeps found e = does_homeward l found status (never (Settled whole v l.list.0 status) l.direction (stands_at l (stand.Passed (way.Back status) (Module m)) found e).0) m
    does_moved l (stand.Passed (way.Back status) Bindings) keeps found e = does_calm [] (λ _. tt)

    -- a binding's list that it gives back
    does_give_back : (b n : ℕ) (o : Option LiveList) → look net n ≡ o → Does (give_back_of net b o).rows
    does_give_back b n None f = does_calm [] (λ _. tt)
    does_give_back b n (Some l) f =
        let number : l.list.0 ≡ n = (find_is n (lists net.things) l f).0 in
        by_test (λ (o : Outcome). Does o.rows) (is_kept_by (Binding b) l.stand) _ _
        (λ t. does_calm (homeward net.modules l 0 Success ∷ []) (λ _. (calm_homeward whole v net.modules l.list l.owner l.direction 0 Success (never _ l.direction (stands_at l (stand.Kept (Binding b)) (ap (look net) number ∙ f) (kept_is (Binding b) l.stand t))), tt)))
        (λ _. does_calm [] (λ _. tt))

    -- statuses and requests
    calm_seen : (number : StatusNo) (b : ℕ) (ss : List ModuleState) → AllCalm whole v (seen_by_all number b ss)
    calm_seen number b [] = tt
    calm_seen number b (s ∷ ss) = (tt, calm_seen number (b + 1) ss)

    calm_status : (number : StatusNo) (name : StatusName) (to : Target) → AllCalm whole v (status_rows net number name to)
    calm_status number name (Module m) = (tt, (tt, tt))
    calm_status number name Bindings = calm_seen number 0 net.modules.bindings

    calm_given : (g : Giving) → AllCalm whole v (giving_rows net g)
    calm_given g = (tt, given g.module_id)
      where
        given : (m : ModuleId) → AllCalm whole v (given_rows_by net g.request m)
        given Miniport = (tt, tt)
        given (Filter f) = (tt, tt)
        given (Binding b) = tt

    does_pump : (keeps : Bool) (o : Option Thing) → agenda_first net ≡ o → Does (pump_of net keeps o).rows
    does_pump keeps None e = request (next_giving net)
      where
        request : (o : Option Giving) → Does (request_pump net o).rows
        request None = does_calm [] (λ _. tt)
        request (Some x) = does_calm (giving_rows net x) (λ _. calm_given x)
    does_pump keeps (Some (thing.List l)) e = does_moved l l.stand keeps (each_away (λ x. look net x.list.0 ≡ Some x) net.things l (all_found (lists net.things) k.facts.apart) e) refl
    does_pump keeps (Some (thing.Status x)) e = does_calm (status_rows net x.number x.name x.to) (λ _. calm_status x.number x.name x.to)
    does_pump keeps (Some (thing.Answer x)) e = does_calm (answer_rows x.parent x.status x.value) (λ _. (tt, tt))

    -- drains
    calm_map : (P : LiveList → Type 0) (f : LiveList → Row) (ls : List LiveList) → Each P ls → ((l : LiveList) → P l → Calm whole v (f l)) → AllCalm whole v (map f ls)
    calm_map P f [] e h = tt
    calm_map P f (l ∷ ls) e h = (h l e.0, calm_map P f ls e.1 h)

    calm_returns : (b : ℕ) → AllCalm whole v (returns_all net b)
    calm_returns b =
        by_test (AllCalm whole v) (is_retain (kind_of_binding net.head b)) _ _
        (λ _. calm_map (IsReady net (Binding b)) (returned_by net) (ready_lists net (Binding b)) (ready_all net (Binding b) k.facts.apart)
        (λ l r. calm_homeward whole v net.modules l.list l.owner l.direction 0 Success (never _ l.direction (stands_at l (stand.Kept (Binding b)) r.free.found r.stand))))
        (λ _. tt)

    pass_calm : (f : ℕ) (l : LiveList) → IsReady net (Filter f) l → Calm whole v (passed_by net f l)
    pass_calm f l r = calm_onward v net.modules l.list l.direction (position net.modules.order (Filter f)) (λ d. left (claim_of l (stand.Kept (Filter f)) r.free.found r.stand) (sends_told l r.free.found ∙ d))
      where
        left : (Send whole l.list.0 → Open whole v l.list.0) ⊎ IsCloned (look net) l.list.0 → Send whole l.list.0 → Open whole v l.list.0
        left (inl h) d = h d
        left (inr c) d = absurd (r.free.free c.number c.clone c.found c.from)

    calm_passes : (f : ℕ) → AllCalm whole v (passes_all net f)
    calm_passes f =
        by_test (AllCalm whole v) (is_hold_filter net.modules f) _ _
        (λ _. calm_map (IsReady net (Filter f)) (passed_by net f) (ready_lists net (Filter f)) (ready_all net (Filter f) k.facts.apart) (λ l r. pass_calm f l r))
        (λ _. tt)

    first_each : (P : LiveList → Type 0) (ls : List LiveList) (l : LiveList) → Each P ls → first_of ls ≡ Some l → P l
    first_each P [] l h e = cc
    first_each P (x ∷ ls) l h e = let same : x ≡ l = one x l e in subst P same h.0
      where
        one : (x y : LiveList) → Some x ≡ Some y → x ≡ y
        one x y e = cc

    does_empties : (o : Option LiveList) → first_of (ready_lists net Miniport) ≡ o → Does (empties net o)
    does_empties None e = does_calm [] (λ _. tt)
    does_empties (Some l) e =
        let r : IsReady net Miniport l = first_each (IsReady net Miniport) (ready_lists net Miniport) l (ready_all net Miniport k.facts.apart) e in
        by_test Does (is_virtual net.head.kind) _ _
        (λ _. by_test Does (phase_is_running net.phase) _ _ (λ _. does_calm [] (λ _. tt))
        (λ _ looks. goes_back whole done v net k l r.free.found (bare_kept l r.free.found r.stand) Paused Miniport (λ _. claim_of l (stand.Kept Miniport) r.free.found r.stand)))
        (λ _. does_transmitted l r.free.found r.stand)

    does_drain_rows : Does (drain_rows net)
    does_drain_rows =
        first_of_all Does (does_calm [] (λ _. tt)) (map (returns_all net) (binding_numbers net.head) ++ (map (passes_all net) net.modules.order ++ empties_ring net ∷ []))
        (All-append Does (map (returns_all net) (binding_numbers net.head)) _ (All-map Does (returns_all net) (binding_numbers net.head) (λ b. does_calm (returns_all net b) (λ _. calm_returns b)))
        (All-append Does (map (passes_all net) net.modules.order) _ (All-map Does (passes_all net) net.modules.order (λ f. does_calm (passes_all net f) (λ _. calm_passes f))) (does_empties (first_of (ready_lists net Miniport)) refl, tt)))

    does_drained : Does (drained (drain_rows net)).rows
    does_drained = by (drain_rows net) does_drain_rows
      where
        by : (rows : List Row) → Does rows → Does (drained rows).rows
        by [] d = d
        by (r ∷ rows) d = d

    -- a lent list: it alone may be turned back, and it alone comes home
    abbrev Lent : (ℕ → List ListStatus) → Row → Type 0
    Lent w (row.Home list owner status) = list.0 ≡ net.next.list
    Lent w (row.TurnBack list m status) = list.0 ≡ net.next.list
    Lent w r = Calm whole w r

    abbrev AllLent : (ℕ → List ListStatus) → List Row → Type 0
    AllLent w [] = Unit {0}
    AllLent w (r ∷ rows) = Lent w r × AllLent w rows

    lent-append : (w : ℕ → List ListStatus) (xs ys : List Row) → AllLent w xs → AllLent w ys → AllLent w (xs ++ ys)
    lent-append w [] ys h g = g
    lent-append w (x ∷ xs) ys h g = (h.0, lent-append w xs ys h.1 g)

    calm_lent : (w : ℕ → List ListStatus) (r : Row) → Calm whole w r → Lent w r
    calm_lent w (row.Home list owner status) h = absurd h
    calm_lent w (row.TurnBack list m status) h = absurd h
    calm_lent w (row.Issue list owner config d cancel made frames) h = h
    calm_lent w (row.Pass list way.Down to) h = h
    calm_lent w (row.Pass list way.Up to) h = h
    calm_lent w (row.Pass list (way.Done status) to) h = h
    calm_lent w (row.Pass list (way.Back status) to) h = h
    calm_lent w (row.Keep list Miniport) h = h
    calm_lent w (row.Keep list (Filter f)) h = h
    calm_lent w (row.Keep list (Binding b)) h = h
    calm_lent w (row.Wire list frames) h = absurd h
    calm_lent w _ h = tt

    calm_lents : (w : ℕ → List ListStatus) (rows : List Row) → AllCalm whole w rows → AllLent w rows
    calm_lents w [] h = tt
    calm_lents w (r ∷ rows) h = (calm_lent w r h.0, calm_lents w rows h.1)

    module _ (w : ℕ → List ListStatus) (opened : (n : ℕ) → net.next.list + 1 ≤ n → w n ≡ []) (list : ListNo) (here : list.0 ≡ net.next.list) where
      lent_does_handled : (a : Attached) (frames : List (List ℕ)) (further : List Row) (o : Option (List (List ℕ))) → (Looked further → AllLent w further) → Looked (lent_handled net a list frames further o) → AllLent w (lent_handled net a list frames further o)
      lent_does_handled a frames further None d looks = (here, (here, tt))
      lent_does_handled a frames further (Some made) d looks =
          by_test (λ rows. Looked rows → AllLent w rows) (same_frames made frames) _ _ (λ _. d)
          (λ _. by_test (λ rows. Looked rows → AllLent w rows) (is_full net (Filter a.filter)) _ _ (λ _ looks. (here, (here, tt)))
          (λ _ looks. ((looks.0.issue, λ d. absurd (clash (is_down direction.Up) d refl)), (tt, (here, tt)))))
          looks

      lent_does_at : (o : Option Attached) (frames : List (List ℕ)) (further : List Row) → (Looked further → AllLent w further) → Looked (lent_at net o list frames further) → AllLent w (lent_at net o list frames further)
      lent_does_at None frames further d = d
      lent_does_at (Some a) frames further d =
          by_test (λ rows. Looked rows → AllLent w rows) (is_running a.state) _ _
          (λ _ looks. (tt, lent_does_handled a frames further (applied (max_frame net.head) a.setup.receive frames) d looks.1)) (λ _ looks. (here, (here, tt)))

      lent_does_up : (frames : List (List ℕ)) (fs : List ℕ) → Looked (lent_up net list frames fs) → AllLent w (lent_up net list frames fs)
      lent_does_up frames [] =
          by_test (λ rows. Looked rows → AllLent w rows) (phase_is_running net.phase) _ _
          (λ _ looks. lent-append w (delivered net list frames how.Lent (net.next.list + 1) (takers net frames)) (lent_home list Success)
          (calm_lents w (delivered net list frames how.Lent (net.next.list + 1) (takers net frames))
          (calm_delivered w (net.next.list + 1) opened list frames how.Lent (net.next.list + 1) (takers net frames) (omega arith) (look-split whole net.modules.order (delivered net list frames how.Lent (net.next.list + 1) (takers net frames)) (lent_home list Success) looks).0))
          (here, tt))
          (λ _ looks. (here, (here, tt)))
      lent_does_up frames (f ∷ fs) = lent_does_at (attached f net.modules.filters) frames (lent_up net list frames fs) (lent_does_up frames fs)

    -- what such rows settle, owe and bring home
    module _ (w : ℕ → List ListStatus) (root_is : R net.next.list ≡ net.next.list) (told : clone_in (issue_of whole net.next.list) ≡ None) where
      lent_by : (q : ℕ) (r : Row) → (net.next.list ≡ q → ⊥) → Lent w r → settled_by whole q r ≡ []
      lent_by q (row.TurnBack list m status) off h = ap (λ b. cond b (status ∷ []) []) (differ (R list.0) q (λ e. off (sym root_is ∙ ap (root_of whole) (sym h) ∙ e)))
      lent_by q (row.Wire list frames) off h = absurd h
      lent_by q _ off h = refl

      lent_mute : (q : ℕ) (rows : List Row) → (net.next.list ≡ q → ⊥) → AllLent w rows → settled_rows whole q rows ≡ []
      lent_mute q [] off h = refl
      lent_mute q (r ∷ rows) off h = ap (λ x. x ++ settled_rows whole q rows) (lent_by q r off h.0) ∙ lent_mute q rows off h.1

      lent_not_home : (q : ℕ) (r : Row) → (net.next.list ≡ q → ⊥) → Lent w r → is_home q r ≡ false
      lent_not_home q (row.Home list owner status) off h = differ list.0 q (λ e. off (sym h ∙ e))
      lent_not_home q _ off h = refl

      lent_none : (q : ℕ) (rows : List Row) → (net.next.list ≡ q → ⊥) → AllLent w rows → NonePass (is_home q) rows
      lent_none q [] off h = tt
      lent_none q (r ∷ rows) off h = (lent_not_home q r off h.0, lent_none q rows off h.1)

      lent_one : (r : Row) (rest : List Row) → Lent w r → Owes whole w r rest
      lent_one (row.Home list owner status) rest h = λ o e. absurd (none_number o (sym told ∙ ap (λ i. clone_in (issue_of whole i)) (sym h) ∙ e))
        where
          none_number : (i : ℕ) → None ≡ Some i → ⊥
          none_number i e = cc
      lent_one (row.TurnBack list m status) rest h = tt
      lent_one (row.Issue list owner config d cancel made frames) rest h = h
      lent_one (row.Pass list way.Down to) rest h = h
      lent_one (row.Pass list way.Up to) rest h = h
      lent_one (row.Pass list (way.Done status) to) rest h = h
      lent_one (row.Pass list (way.Back status) to) rest h = h
      lent_one (row.Keep list Miniport) rest h = h
      lent_one (row.Keep list (Filter f)) rest h = h
      lent_one (row.Keep list (Binding b)) rest h = h
      lent_one (row.Wire list frames) rest h = tt
      lent_one _ rest h = tt

      lent_owes : (rows : List Row) → AllLent w rows → AllOwe whole w rows
      lent_owes [] h = tt
      lent_owes (r ∷ rows) h = (lent_one r rows h.0, lent_owes rows h.1)

    does_lent : (frames : List (List ℕ)) → Does (lent_rows net frames)
    does_lent frames looks =
        let n : ℕ = net.next.list in
        let rows : List Row = lent_rows net frames in
        let told : issue_of whole n ≡ Some (root net n Miniport direction.Lent None frames) = looks.0.issue in
        let w : ℕ → List ListStatus = λ r. v r ++ cond (n == r) (settled_rows whole n rows) [] in
        let off : (r : ℕ) → (n ≡ r → ⊥) → w r ≡ v r = λ r h. ap (λ b. v r ++ cond b (settled_rows whole n rows) []) (differ n r h) ∙ nil_end (v r) in
        let opened : (i : ℕ) → n + 1 ≤ i → w i ≡ [] = λ i h. off i (λ e. too_low n i h e) ∙ k.fresh i (omega (arith, h)) in
        let all : AllLent w rows = ((told, λ d. absurd (clash (is_down direction.Lent) d refl)), lent_does_up w opened (list_no n) refl frames (filter (has_receive net.modules) (reverse net.modules.order)) looks.1) in
        record {
          now = w;
          adds = λ r. ap (λ x. v r ++ x) (sym (gains w looks.0.root (ap clone_in told) rows r all));
          tips = λ i l f b. inr (off (R i) (λ e. above i l f e));
          owes = lent_owes w looks.0.root (ap clone_in told) rows all;
          old = λ r s d e. off r (λ same. early r s e same);
          later = λ r high. off r (λ same. late r high same);
          homes = λ r s send own e. absurd (by_number n r ⊥ (λ t. no_status s (sym (ap status_in (none_find (is_home r) rows (lent_none w looks.0.root (ap clone_in told) r rows (λ same. equal_clash n r t same) all))) ∙ e)) (λ same. clash (sends_in (issue_of whole n)) (ap (λ i. sends_in (issue_of whole i)) same ∙ send) (ap sends_in told)));
        }
      where
        too_low : (n i : ℕ) → n + 1 ≤ i → n ≡ i → ⊥
        too_low n i h e = omega (arith, h, e)

        equal_clash : (n m : ℕ) → (n == m) ≡ false → n ≡ m → ⊥
        equal_clash n m t e = grind (arith, nat_tests)

        above : (i : ℕ) (l : LiveList) → look net i ≡ Some l → net.next.list ≡ R i → ⊥
        above i l f e =
            let low : R i ≤ i = root_low whole net k.kin i l f in
            let below : i < net.next.list = k.facts.good.good.below i l f in
            omega (arith, low, below, e)

        early : (r : ℕ) (s : ListStatus) → came_home done r ≡ Some s → net.next.list ≡ r → ⊥
        early r s e same = let low : r < net.next.list = (k.gone r s e).1 in omega (arith, low, same)

        late : (r : ℕ) → (after_rows net (lent_rows net frames)).next.list ≤ r → net.next.list ≡ r → ⊥
        late r high same =
            let first : Net = after net (root net net.next.list Miniport direction.Lent None frames) in
            let grown : first.next.list ≤ (after_rows net (lent_rows net frames)).next.list = grows_rows first (lent_up net (list_no net.next.list) frames (filter (has_receive net.modules) (reverse net.modules.order))) in
            let one : first.next.list ≡ net.next.list + 1 = refl in
            omega (arith, grown, one, high, same)

        gains : (w : ℕ → List ListStatus) → R net.next.list ≡ net.next.list → clone_in (issue_of whole net.next.list) ≡ None → (rows : List Row) (r : ℕ) → AllLent w rows → settled_rows whole r rows ≡ cond (net.next.list == r) (settled_rows whole net.next.list rows) []
        gains w root_is none rows r h =
            by_number net.next.list r (settled_rows whole r rows ≡ cond (net.next.list == r) (settled_rows whole net.next.list rows) [])
            (λ t. lent_mute w root_is none r rows (λ e. equal_clash net.next.list r t e) h ∙ sym (ap (λ b. cond b (settled_rows whole net.next.list rows) []) t))
            (λ e. ap (λ i. settled_rows whole i rows) (sym e) ∙ sym (ap (λ b. cond b (settled_rows whole net.next.list rows) []) (ap (λ i. net.next.list == i) (sym e) ∙ same_number net.next.list)))

    -- each event that changes no state of a module
    abbrev pub Turned : Event → Outcome → Type 0
    Turned e o = AllLook whole net.modules.order o.rows → Goes whole done v net (λ r. as_list whole r (crossing_of whole r e o.reply) ++ settled_rows whole r o.rows) o.rows

    abbrev DoesBy : Outcome → Type 0
    DoesBy o = Does o.rows

    kept_first : (b : Bool) (l : LiveList) → cond b None (first_of (kept_lists net Miniport)) ≡ Some l → (look net l.list.0 ≡ Some l) × (l.stand ≡ stand.Kept Miniport)
    kept_first true l e = cc
    kept_first false l e = let kept : IsKeptLive net Miniport l = first_each (IsKeptLive net Miniport) (kept_lists net Miniport) l (kept_live net Miniport k.facts.apart) e in (kept.found, kept.stand)

    sent_does : (b : ℕ) (cancel : Option ℕ) (frames : List (List ℕ)) → Looked (root net net.next.list (Binding b) direction.Down cancel frames ∷ onward net.modules (list_no net.next.list) direction.Down 0 ∷ []) → AllCalm whole v (root net net.next.list (Binding b) direction.Down cancel frames ∷ onward net.modules (list_no net.next.list) direction.Down 0 ∷ [])
    sent_does b cancel frames looks =
        let opened : Open whole v net.next.list = ap v looks.0.root ∙ k.fresh net.next.list (omega arith) in
        ((looks.0.issue, λ d. opened), (opened, tt))

    indicated_does : (frames : List (List ℕ)) → Looked (indicated net frames) → AllCalm whole v (indicated net frames)
    indicated_does frames looks = ((looks.0.issue, λ d. absurd (clash (is_down direction.Up) d refl)), (tt, tt))

    -- a crossing that ends
    module _ (taken : (n : ℕ) (l : LiveList) (m : CrossNo) → look net n ≡ Some l → l.crossed ≡ Some m → (r : ℕ) → took whole r m.0 ≡ (R n == r)) where
      done_turned : (message : CrossNo) (s : ListStatus) (o : Option LiveList) → find (λ l. is_in_message message.0 l.crossed) (lists net.things) ≡ o → Turned (event.CrossDone message s) (done_of net s o)
      done_turned message s None e looks = quiet whole done v net k (λ r. []) [] (λ r. refl) tt
      done_turned message s (Some l) e looks =
          let both = each_find (λ x. look net x.list.0 ≡ Some x) (λ x. is_in_message message.0 x.crossed) (lists net.things) l (all_found (lists net.things) k.facts.apart) e in
          let found : look net l.list.0 ≡ Some l = both.0 in
          let in_it = message_of l.crossed both.1 in
          let kept : l.stand ≡ stand.Kept Miniport = ((k.facts.good.good.well l.list.0 l found).crossed (ap is_crossed in_it.1)).0 in
          let bare : has_clone net l.list.0 ≡ false = bare_kept l found kept in
          let now : ℕ → List ListStatus = with_one whole done v net k l found bare s in
          let back : Row = homeward net.modules l (position net.modules.order Miniport) s in
          let calm_row : Calm whole now back = calm_homeward whole now net.modules l.list l.owner l.direction (position net.modules.order Miniport) s (λ _. one_settled whole done v net k l found bare s (claim_of l (stand.Kept Miniport) found kept)) in
          settles_one whole done v net k l found bare s
          (λ r. as_list whole r (cond (took whole r message.0) (Some s) None) ++ settled_rows whole r (back ∷ [])) (back ∷ [])
          (λ r. ap (λ x. as_list whole r (cond (took whole r message.0) (Some s) None) ++ x) (calm_mute whole now r (back ∷ []) (calm_row, tt))
          ∙ nil_end (as_list whole r (cond (took whole r message.0) (Some s) None))
          ∙ ap (λ b. as_list whole r (cond b (Some s) None)) (ap (took whole r) (sym in_it.2) ∙ taken l.list.0 l in_it.0 found in_it.1 r)
          ∙ listed r (R l.list.0 == r))
          (homeward_places whole net.modules l.list l.owner l.direction (position net.modules.order Miniport) s [])
          (calm_owes whole now (back ∷ []) (calm_row, tt))
          (λ r. calm_none whole now r (back ∷ []) (calm_row, tt))
          (grows_rows net (back ∷ []))
        where
          equal : (n m : ℕ) → (n == m) ≡ true → n ≡ m
          equal n m t = grind (arith, nat_tests)

          message_of : (o : Option CrossNo) → is_in_message message.0 o ≡ true → (m : CrossNo) × (o ≡ Some m) × (m.0 ≡ message.0)
          message_of None t = cc
          message_of (Some m) t = (m, refl, equal m.0 message.0 t)

          listed : (r : ℕ) (b : Bool) → as_list whole r (cond b (Some s) None) ≡ cond b (s ∷ []) []
          listed r true = refl
          listed r false = refl

      pub event_turned : (e : Event) (c : Choice) → is_plain e ≡ true → Turned e (outcome net e c)
      event_turned event.Initialize c p = cc
      event_turned (event.Insert kind position setup) c p = cc
      event_turned (event.Remove filter) c p = cc
      event_turned (event.Replace filter kind setup) c p = cc
      event_turned event.BeginPause c p = cc
      event_turned event.PauseNext c p = cc
      event_turned event.RestartNext c p = cc
      event_turned event.Halt c p = cc
      event_turned (event.Send binding cancel frames) c p =
          by_test DoesBy (phase_is_running net.phase) _ _
          (λ t. by_test DoesBy (is_full net (Binding binding)) _ _ (λ _. does_calm [] (λ _. tt))
          (λ _. does_calm (sent net binding cancel frames) (sent_does binding cancel frames)))
          (λ _. does_calm [] (λ _. tt))
      event_turned (event.Indicate frames) c p =
          by_test DoesBy (is_running net.modules.miniport) _ _
          (λ t. by_test DoesBy (is_full net Miniport) _ _ (λ _. does_calm [] (λ _. tt)) (λ _. does_calm (indicated net frames) (indicated_does frames)))
          (λ _. does_calm [] (λ _. tt))
      event_turned (event.Lend frames) c p =
          by_test DoesBy (is_running net.modules.miniport) _ _
          (λ t. by_test DoesBy (is_full net Miniport) _ _ (λ _. does_calm [] (λ _. tt)) (λ _. does_lent frames))
          (λ _. does_calm [] (λ _. tt))
      event_turned (event.GiveBack binding list) c p = does_give_back binding list.0 (list_of list.0 (lists net.things)) refl
      event_turned (event.Cancel id) c p = λ looks. cancel_goes whole done v net k id
      event_turned (event.Ask binding kind code value) c p =
          by_test DoesBy (is_unbound (state_of net (Binding binding))) _ _ (λ _. does_calm [] (λ _. tt)) (λ _. does_calm (row.OidIssue (oid_no net.next.request) None binding kind code value ∷ []) (λ _. (tt, tt)))
      event_turned (event.Status name) c p =
          by_test DoesBy (is_halted net.modules.miniport) _ _ (λ _. does_calm [] (λ _. tt))
          (λ _. does_calm (row.Status (status_no net.next.status) name (next_status net.modules (position net.modules.order Miniport)) ∷ []) (λ _. (tt, tt)))
      event_turned event.Transmit c p = does_transmit (first_in_ring net) (λ l e. kept_first (is_virtual net.head.kind) l e)
      event_turned event.Pump c p = does_pump c.keeps (agenda_first net) refl
      event_turned event.Drain c p =
          by_test DoesBy (is_pump_moving net) _ _
          (λ _. does_pump c.keeps (agenda_first net) refl)
          (λ _. does_drained)
      event_turned event.CrossTake c p = take (first_uncrossed net)
        where
          take : (o : Option LiveList) → Does (take_of net o).rows
          take None = does_calm [] (λ _. tt)
          take (Some l) = does_calm (take_of net (Some l)).rows (λ _. (tt, tt))
      event_turned (event.CrossPut stack message vlan frames) c p =
          by_test DoesBy (phase_is_running net.phase) _ _
          (λ t. by_test DoesBy (list_any (is_too_long_tagged net.head) frames) _ _ (λ _. does_calm [] (λ _. tt))
          (λ _. by_test DoesBy (is_full net (Binding (mux_binding_for net.head stack))) _ _ (λ _. does_calm [] (λ _. tt))
          (λ _. does_calm (put_rows net stack message vlan frames) (λ looks. (tt, sent_does (mux_binding_for net.head stack) None _ looks.1)))))
          (λ _. does_calm [] (λ _. tt))
      event_turned (event.CrossDone message status) c p = done_turned message status (find (λ l. is_in_message message.0 l.crossed) (lists net.things)) refl
      event_turned (event.CrossTakeUp binding vlan) c p = take (find (is_for binding vlan) net.messages)
        where
          take : (o : Option Message) → Does (take_up_of net o).rows
          take None = does_calm [] (λ _. tt)
          take (Some m) = does_calm (take_up_of net (Some m)).rows (λ _. (tt, tt))
      event_turned (event.CrossPutUp stack message frames) c p =
          by_test DoesBy (is_running net.modules.miniport) _ _
          (λ t. by_test DoesBy (is_full net Miniport) _ _ (λ _. does_calm [] (λ _. tt))
          (λ _. does_calm (row.CrossIn stack message crossing.Up frames ∷ indicated net frames) (λ looks. (tt, indicated_does frames looks.1))))
          (λ _. does_calm [] (λ _. tt))
