-- The fate of sends: what settles a family stands by its tip after each turn of a sound journal, and is what its
-- root comes home with.
use Rattle.std.proofs.Common.{◌≡◌, ℕ, ◌+◌, ◌<◌, ◌≤◌, ◌==◌, ◌||◌, ◌&&◌, not, ◌⊎◌, inl, inr, Bool, true, false, cond, List, [], ◌∷◌, ◌++◌, Option, Some, None, is_some, find, refl, arith, ap, sym, subst, ◌∙◌}
use Rattle.std.specs.List.{list_all}
use Rattle.std.specs.Option.{option_or}
use Rattle.std.proofs.lemmas.Bool.Decides.{nat_tests}
use Rattle.std.proofs.lemmas.List.Folds.{find-append}
use Rattle.ndis_base.specs.declared.CrossNo.{CrossNo}
use Rattle.ndis_base.specs.declared.ListStatus.{ListStatus}
use Rattle.ndis_base.specs.declared.ModuleId.TheVariants.{Miniport, Filter, Binding}
use Rattle.ndis_base.specs.declared.Direction.TheVariants as direction
use Rattle.ndis_base.specs.declared.Origin.TheVariants as origin
use Rattle.journal_types.specs.declared.Event.{Event}
use Rattle.journal_types.specs.declared.Event.TheVariants as event
use Rattle.journal_types.specs.declared.PassWay.TheVariants as way
use Rattle.journal_types.specs.declared.Reply.{Reply}
use Rattle.journal_types.specs.declared.Row.{Row}
use Rattle.journal_types.specs.declared.Row.TheVariants as row
use Rattle.journal_types.specs.declared.StackHead.{StackHead}
use Rattle.journal_types.specs.declared.Turn.{Turn}
use Rattle.stack_rules.specs.declared.Choice.{Choice}
use Rattle.stack_rules.specs.declared.LiveList.{LiveList}
use Rattle.stack_rules.specs.declared.Message.{Message}
use Rattle.stack_rules.specs.declared.Stand.{Stand}
use Rattle.stack_rules.specs.declared.Stand.TheVariants as stand
use Rattle.stack_rules.specs.declared.Thing.{Thing}
use Rattle.stack_rules.specs.Messages.{is_for}
use Rattle.stack_rules.specs.Net.{Net, start, after_rows, seen, lists, list_of}
use Rattle.stack_rules.specs.Outcome.{Outcome}
use Rattle.stack_rules.specs.Crosses.{take_up_of}
use Rattle.stack_rules.specs.Sound.{Next, outcome, Sound}
use Rattle.home_laws.specs.Rows.{Label, rows_of}
use Rattle.home_laws.proofs.Fits.{Register, empty, registered, registered_rows, Fits, AllFit, IsSane}
use Rattle.home_laws.proofs.Registers.{sane_empty, sane_after, sane_rows, live_below}
use Rattle.home_laws.proofs.Agreed.{label_in}
use Rattle.home_laws.proofs.Events.{FitsAfter, journal_fits, turn_fits}
use Rattle.state_laws.proofs.Quiet.{is_plain, quiet_event}
use Rattle.state_laws.proofs.Changes.{IsChanged}
use Rattle.state_laws.proofs.Events.{state_after, event_kept, turn_is}
use Rattle.pause_laws.specs.Clear.{IsHeld}
use Rattle.pause_laws.proofs.Turns.{held_journal}
use Rattle.place_laws.proofs.Looks.{look}
use Rattle.promise_rules.specs.Rows.{all_rows, is_home, home_of, is_home_again, status_in}
use Rattle.promise_rules.specs.Families.{root_of}
use Rattle.promise_rules.specs.Fates.{crossing_of, took, has_fate, is_sent_once}
use Rattle.family_laws.specs.Looked.{LooksBack}
use Rattle.family_laws.proofs.Lookups.{each_looks_back, rows_found}
use Rattle.family_laws.proofs.Rows.{sends_in, IsIssuedAs}
use Rattle.family_laws.proofs.Known.{AllLook}
use Rattle.family_laws.proofs.Goods.{distinct_of, turns-snoc, good_journal}
use Rattle.family_laws.proofs.Setups.{config_in_force}
use Rattle.family_laws.proofs.Changes.{Every}
use Rattle.family_laws.proofs.Configs.{changed_rows}
use Rattle.family_laws.proofs.Chain.{next_at, snoc, rows-append, front, looks}
use Rattle.tip_laws.proofs.Kin.{kin}
use Rattle.message_laws.proofs.Outs.{each_takes_one_family}
use Rattle.send_fates.specs.Sends.{has_fate_below, EachSendMeetsItsFate}
use Rattle.send_fates.proofs.Tally.{settled_by, settled_rows, settled_turn, settled_turns, as_list, sent_once}
use Rattle.send_fates.proofs.Tally as tally
use Rattle.send_fates.proofs.Rows.{is_placed, Send, Claim, AreFated, rows_fated, claim_as}
use Rattle.send_fates.proofs.Starts.{Start, Goes, came_home, nil_end, no_status, none_list, claims_then}
use Rattle.send_fates.proofs.Grows.{grows_rows}
use Rattle.send_fates.proofs.Sweep.{event_turned}

-- a list that came home is live no more
abbrev Gone : List Row → Register → Type 0
Gone done reg = (r : ℕ) (y : Row) → find (is_home r) done ≡ Some y → (reg.live r ≡ None) × (r < reg.next)

no_row : (y : Row) → None ≡ Some y → ⊥
no_row y e = cc

gone_issue : (reg : Register) (m r : ℕ) (new : Label) → m ≡ reg.next → (reg.live r ≡ None) × (r < reg.next) → (cond (r == m) (Some new) (reg.live r) ≡ None) × (r < reg.next + 1)
gone_issue reg m r new e h = (ap (λ b. cond b (Some new) (reg.live r)) (apart r m (below h.1)) ∙ h.0, grown h.1)
  where
    below : r < reg.next → r < m
    below l = omega (arith, l, e)

    grown : r < reg.next → r < reg.next + 1
    grown l = omega (arith, l)

    apart : (a b : ℕ) → a < b → (a == b) ≡ false
    apart a b l = grind (arith, nat_tests)

none_none : (b : Bool) (o : Option Label) → o ≡ None → cond b None o ≡ None
none_none true o e = refl
none_none false o e = e

gone_still : (reg : Register) (x : Row) (r : ℕ) → Fits reg x → (reg.live r ≡ None) × (r < reg.next) → ((registered reg x).live r ≡ None) × (r < (registered reg x).next)
gone_still reg (row.Issue list owner config d cancel made frames) r f h = gone_issue reg list.0 r (record { owner = owner; direction = d; cancel = cancel; origin = made; frames = frames }) f.0 h
gone_still reg (row.Home list owner status) r f h = (none_none (r == list.0) (reg.live r) h.0, h.1)
gone_still reg _ r f h = h

gone_now : (reg : Register) (x : Row) (r : ℕ) → IsSane reg → Fits reg x → is_home r x ≡ true → ((registered reg x).live r ≡ None) × (r < (registered reg x).next)
gone_now reg (row.Home list owner status) r s f h =
    let same : list.0 ≡ r = equal list.0 r h in
    let low : list.0 < reg.next = live_below reg list.0 f.label s f.found in
    (ap (λ b. cond b None (reg.live r)) (equals r list.0 (sym same)), lower same low)
  where
    equal : (n m : ℕ) → (n == m) ≡ true → n ≡ m
    equal n m t = grind (arith, nat_tests)

    equals : (n m : ℕ) → n ≡ m → (n == m) ≡ true
    equals n m e = grind (arith, nat_tests)

    lower : list.0 ≡ r → list.0 < reg.next → r < reg.next
    lower e l = omega (arith, e, l)
gone_now reg _ r s f h = cc

gone_row : (done : List Row) (reg : Register) (x : Row) → IsSane reg → Fits reg x → Gone done reg → Gone (done ++ x ∷ []) (registered reg x)
gone_row done reg x s f h r y e = by (find (is_home r) done) refl (sym (find-append (is_home r) done (x ∷ [])) ∙ e)
  where
    here : (b : Bool) → is_home r x ≡ b → cond b (Some x) None ≡ Some y → ((registered reg x).live r ≡ None) × (r < (registered reg x).next)
    here true t e = gone_now reg x r s f t
    here false t e = absurd (no_row y e)

    by : (o : Option Row) → find (is_home r) done ≡ o → option_or o (find (is_home r) (x ∷ [])) ≡ Some y → ((registered reg x).live r ≡ None) × (r < (registered reg x).next)
    by None g e = here (is_home r x) refl e
    by (Some z) g e = gone_still reg x r f (h r z g)

gone_rows : (done rows : List Row) (reg : Register) → IsSane reg → AllFit reg rows → Gone done reg → Gone (done ++ rows) (registered_rows reg rows)
gone_rows done [] reg s f h = subst (λ more. Gone more reg) (sym (none_end done)) h
  where
    none_end : (rows : List Row) → rows ++ [] ≡ rows
    none_end [] = refl
    none_end (r ∷ rows) = ap (λ rest. r ∷ rest) (none_end rows)
gone_rows done (x ∷ rows) reg s f h = subst (λ more. Gone more (registered_rows (registered reg x) rows)) (snoc done x rows) (gone_rows (done ++ x ∷ []) rows (registered reg x) (sane_after reg x s f.0) f.1 (gone_row done reg x s f.0 h))

-- a Home row tells its status
home_status : (r : ℕ) (rows : List Row) (y : Row) → find (is_home r) rows ≡ Some y → (s : ListStatus) × (status_in (Some y) ≡ Some s)
home_status r [] y e = absurd (no_row y e)
home_status r (x ∷ rows) y e = by (is_home r x) refl (λ g. home_status r rows y g) e
  where
    one : (x y : Row) → Some x ≡ Some y → x ≡ y
    one x y e = cc

    told : (x : Row) → is_home r x ≡ true → (s : ListStatus) × (status_in (Some x) ≡ Some s)
    told (row.Home list owner status) t = (status, refl)
    told _ t = cc

    by : (b : Bool) → is_home r x ≡ b → (find (is_home r) rows ≡ Some y → (s : ListStatus) × (status_in (Some y) ≡ Some s)) → cond b (Some x) (find (is_home r) rows) ≡ Some y → (s : ListStatus) × (status_in (Some y) ≡ Some s)
    by true t more e = subst (λ i. (s : ListStatus) × (status_in (Some i) ≡ Some s)) (one x y e) (told x t)
    by false t more e = more e

-- the claims after some turns
record IsFated (whole : List Turn) (done : List Row) (v : ℕ → List ListStatus) (net : Net) : Type 0 where
  claims : (n : ℕ) (l : LiveList) → look net n ≡ Some l → Claim whole v (look net) n l.stand
  told : (n : ℕ) (l : LiveList) → look net n ≡ Some l → IsIssuedAs whole n l
  fresh : (r : ℕ) → net.next.list ≤ r → v r ≡ []
  homes : (r : ℕ) (s : ListStatus) → Send whole r → root_of whole r ≡ r → came_home done r ≡ Some s → v r ≡ s ∷ []

-- what a plain event tells beside its rows changes no list
record IsAlike (next after : Net) : Type 0 where
  found : (n : ℕ) → look next n ≡ look after n
  list : next.next.list ≡ after.next.list

plain_alike : (net : Net) (e : Event) (c : Choice) → is_plain e ≡ true → IsAlike (state_after net e (outcome net e c)) (after_rows net (outcome net e c).rows)
plain_alike net (event.CrossTakeUp binding vlan) c p = by (find (is_for binding vlan) net.messages)
  where
    by : (o : Option Message) → IsAlike (state_after net (event.CrossTakeUp binding vlan) (take_up_of net o)) (after_rows net (take_up_of net o).rows)
    by None = record { found = λ n. refl; list = refl }
    by (Some m) = record { found = λ n. refl; list = refl }
plain_alike net (event.Insert kind position setup) c p = cc
plain_alike net (event.Replace old kind setup) c p = cc
plain_alike net e c p = record { found = λ n. refl; list = refl }

-- rows that settle nothing and bring nothing home
abbrev IsIdle : List Turn → Row → Type 0
IsIdle whole x = (q : ℕ) → (settled_by whole q x ≡ []) × (is_home q x ≡ false)

idle_rows : (whole : List Turn) (rows : List Row) → Every (IsIdle whole) rows → (q : ℕ) → (settled_rows whole q rows ≡ []) × (find (is_home q) rows ≡ None)
idle_rows whole [] h q = (refl, refl)
idle_rows whole (x ∷ rows) h q =
    let rest = idle_rows whole rows h.1 q in
    (ap (λ y. y ++ settled_rows whole q rows) (h.0 q).0 ∙ rest.0, ap (λ b. cond b (Some x) (find (is_home q) rows)) (h.0 q).1 ∙ rest.1)

no_crossing : (whole : List Turn) (q : ℕ) (e : Event) (r : Reply) → is_plain e ≡ false → crossing_of whole q e r ≡ None
no_crossing whole q event.Initialize r p = refl
no_crossing whole q (event.Insert kind position setup) r p = refl
no_crossing whole q (event.Remove f) r p = refl
no_crossing whole q (event.Replace old kind setup) r p = refl
no_crossing whole q event.BeginPause r p = refl
no_crossing whole q event.PauseNext r p = refl
no_crossing whole q event.RestartNext r p = refl
no_crossing whole q event.Halt r p = refl
no_crossing whole q e r p = cc

home-append : (xs ys : List Row) (r : ℕ) (s : ListStatus) → came_home (xs ++ ys) r ≡ Some s → (came_home xs r ≡ Some s) ⊎ (came_home ys r ≡ Some s)
home-append xs ys r s e = by (find (is_home r) xs) refl (sym (ap status_in (find-append (is_home r) xs ys)) ∙ e)
  where
    by : (o : Option Row) → find (is_home r) xs ≡ o → status_in (option_or o (find (is_home r) ys)) ≡ Some s → (came_home xs r ≡ Some s) ⊎ (came_home ys r ≡ Some s)
    by None f e = inr e
    by (Some y) f e = inl (ap status_in f ∙ e)

module _ (head : StackHead) (whole : List Turn) (s : Sound head whole) where
  abbrev V : List Turn → ℕ → List ListStatus
  V before r = settled_turns whole r before

  abbrev After : List Turn → Type 0
  After before = IsFated whole (rows_of before) (V before) (seen head before)

  module _ (before : List Turn) (t : Turn) (later : List Turn) (e : whole ≡ before ++ t ∷ later) (h : IsFated whole (rows_of before) (λ r. settled_turns whole r before) (seen head before)) (n : Next (seen head before) t) where
    abbrev net : Net
    net = seen head before

    abbrev o : Outcome
    o = outcome (seen head before) t.event n.choice

    abbrev reg : Register
    reg = registered_rows empty (rows_of before)

    sound : Sound head before
    sound = front head whole s before (t ∷ later) e

    held : IsHeld (seen head before)
    held = held_journal head before sound

    fits : FitsAfter empty (rows_of before) (seen head before)
    fits = journal_fits head before sound

    sane : IsSane (registered_rows empty (rows_of before))
    sane = sane_rows empty (rows_of before) sane_empty fits.fit

    fit : AllFit (registered_rows empty (rows_of before)) (outcome (seen head before) t.event n.choice).rows
    fit = subst (AllFit (registered_rows empty (rows_of before))) n.rows (turn_fits net (registered_rows empty (rows_of before)) t fits.agrees sane n)

    rows_are : rows_of whole ≡ rows_of before ++ ((outcome (seen head before) t.event n.choice).rows ++ rows_of later)
    rows_are = ap rows_of e ∙ rows-append before (t ∷ later) ∙ ap (λ rows. rows_of before ++ (rows ++ rows_of later)) n.rows

    gone_before : Gone (rows_of before) (registered_rows empty (rows_of before))
    gone_before = gone_rows [] (rows_of before) empty sane_empty fits.fit (λ r y f. absurd (no_row y f))

    starts : Start whole (rows_of before) (λ r. settled_turns whole r before) (seen head before)
    starts = record {
      facts = record { distinct = distinct_of net held.shape; apart = held.clear.apart; good = good_journal head before sound };
      kin = kin head whole s before (t ∷ later) e;
      claims = h.claims;
      told = h.told;
      fresh = h.fresh;
      gone = λ r x f. by r x (find (is_home r) (rows_of before)) refl f;
      homes = h.homes;
    }
      where
        unlabelled : (o : Option LiveList) → label_in o ≡ None → o ≡ None
        unlabelled None e = refl
        unlabelled (Some l) e = cc

        by : (r : ℕ) (x : ListStatus) (y : Option Row) → find (is_home r) (rows_of before) ≡ y → status_in y ≡ Some x → (look (seen head before) r ≡ None) × (r < (seen head before).next.list)
        by r x None f g = absurd (no_status x g)
        by r x (Some y) f g =
            let gone = gone_before r y f in
            let low : r < reg.next = gone.1 in
            let same : net.next.list ≡ reg.next = fits.agrees.next in
            (unlabelled (look net r) (fits.agrees.live r ∙ gone.0), omega (arith, low, same))

    taken : (i : ℕ) (l : LiveList) (m : CrossNo) → look (seen head before) i ≡ Some l → l.crossed ≡ Some m → (r : ℕ) → took whole r m.0 ≡ (root_of whole i == r)
    taken i l m f c r = subst (λ (w : List Turn). took w r m.0 ≡ (root_of w i == r)) (sym e) (each_takes_one_family head before (t ∷ later) (subst (Sound head) e s) i l m f c r)

    abbrev gain : ℕ → List ListStatus
    gain r = as_list whole r (crossing_of whole r t.event (outcome (seen head before) t.event n.choice).reply) ++ settled_rows whole r (outcome (seen head before) t.event n.choice).rows

    v_is : (r : ℕ) → settled_turns whole r (before ++ t ∷ []) ≡ settled_turns whole r before ++ gain r
    v_is r =
        tally.turns-snoc whole r before t
        ∙ ap (λ y. settled_turns whole r before ++ (as_list whole r (crossing_of whole r t.event y) ++ settled_rows whole r t.rows)) n.reply
        ∙ ap (λ rows. settled_turns whole r before ++ (as_list whole r (crossing_of whole r t.event (outcome (seen head before) t.event n.choice).reply) ++ settled_rows whole r rows)) n.rows

    abbrev Leaves : Net → Type 0
    Leaves next = IsFated whole (rows_of before ++ (outcome (seen head before) t.event n.choice).rows) (λ r. settled_turns whole r (before ++ t ∷ [])) next

    plain_leaves : is_plain t.event ≡ true → Leaves (state_after (seen head before) t.event (outcome (seen head before) t.event n.choice))
    plain_leaves p =
        let looked : AllLook whole net.modules.order o.rows = looks head whole s net.modules.order (rows_of before) o.rows (rows_of later) rows_are (config_in_force head before) (quiet_event net t.event n.choice p) in
        let g : Goes whole (rows_of before) (V before) net gain o.rows = event_turned whole (rows_of before) (V before) net starts taken t.event n.choice p looked in
        let now_is : (r : ℕ) → settled_turns whole r (before ++ t ∷ []) ≡ g.now r = λ r. v_is r ∙ sym (g.adds r) in
        let fated : AreFated whole g.now [] (look (after_rows net o.rows)) = rows_fated whole g.now net reg o.rows fits.agrees sane fit g.owes (claims_then whole (rows_of before) (V before) net starts gain o.rows g) in
        let alike : IsAlike (state_after net t.event o) (after_rows net o.rows) = plain_alike net t.event n.choice p in
        let next : Net = state_after net t.event o in
        let same : next.next.list ≡ (after_rows net o.rows).next.list = alike.list in
        let grown : net.next.list ≤ (after_rows net o.rows).next.list = grows_rows net o.rows in
        record {
          claims = λ i l f. claim_as whole g.now (V (before ++ t ∷ [])) (look next) i l.stand (now_is (root_of whole i))
              (moved g.now i l.stand (look (after_rows net o.rows)) (look next) (λ m. alike.found m) (owed g.now i l.stand (look (after_rows net o.rows)) (fated.claims i l (sym (alike.found i) ∙ f))));
          told = λ i l f. fated.told i l (sym (alike.found i) ∙ f);
          fresh = λ r high. now_is r ∙ g.later r (omega (arith, high, same)) ∙ h.fresh r (omega (arith, high, same, grown));
          homes = λ r x send own f. now_is r ∙ home g r x send own (home-append (rows_of before) o.rows r x f);
        }
      where
        moved : (w : ℕ → List ListStatus) (i : ℕ) (x : Stand) (get other : ℕ → Option LiveList) → ((m : ℕ) → other m ≡ get m) → Claim whole w get i x → Claim whole w other i x
        moved w i (stand.Kept (Filter f)) get other same (inl c) = inl c
        moved w i (stand.Kept (Filter f)) get other same (inr c) = inr record { number = c.number; clone = c.clone; found = same c.number ∙ c.found; from = c.from }
        moved w i stand.Unplaced get other same c = c
        moved w i (stand.Kept Miniport) get other same c = c
        moved w i (stand.Kept (Binding b)) get other same c = c
        moved w i (stand.Passed way.Down to) get other same c = c
        moved w i (stand.Passed way.Up to) get other same c = c
        moved w i (stand.Passed (way.Done x) to) get other same c = c
        moved w i (stand.Passed (way.Back x) to) get other same c = c

        owed : (w : ℕ → List ListStatus) (i : ℕ) (x : Stand) (get : ℕ → Option LiveList) → (is_placed i [] ≡ true) ⊎ Claim whole w get i x → Claim whole w get i x
        owed w i x get (inl f) = cc
        owed w i x get (inr c) = c

        home : (g : Goes whole (rows_of before) (λ r. settled_turns whole r before) (seen head before) gain (outcome (seen head before) t.event n.choice).rows) (r : ℕ) (x : ListStatus) → Send whole r → root_of whole r ≡ r → (came_home (rows_of before) r ≡ Some x) ⊎ (came_home (outcome (seen head before) t.event n.choice).rows r ≡ Some x) → g.now r ≡ x ∷ []
        home g r x send own (inl f) = g.old r x send f ∙ h.homes r x send own f
        home g r x send own (inr f) = g.homes r x send own f

    changed_leaves : is_plain t.event ≡ false → Leaves (state_after (seen head before) t.event (outcome (seen head before) t.event n.choice))
    changed_leaves p =
        let kept : IsChanged net (state_after net t.event o) held.shape = event_kept net held.shape t.event n.choice p in
        let idle : Every (IsIdle whole) o.rows = changed_rows (IsIdle whole) record { states = λ x m c q. (refl, refl); stack = λ x q. (refl, refl) } (λ config filters q. (refl, refl)) (λ f x q. (refl, refl)) net t.event n.choice p in
        let next : Net = state_after net t.event o in
        let same : next.next.list ≡ net.next.list = kept.list in
        let now_is : (r : ℕ) → settled_turns whole r (before ++ t ∷ []) ≡ settled_turns whole r before =
        λ r. v_is r
        ∙ ap (λ y. settled_turns whole r before ++ (as_list whole r y ++ settled_rows whole r o.rows)) (no_crossing whole r t.event o.reply p)
        ∙ ap (λ y. settled_turns whole r before ++ y) (idle_rows whole o.rows idle r).0
        ∙ nil_end (settled_turns whole r before) in
        let fated : IsFated whole (rows_of before) (V before) next = record {
          claims = λ i l f. subst (λ (ts : List Thing). Claim whole (V before) (λ m. list_of m (lists ts)) i l.stand) (sym kept.things) (h.claims i l (ap (λ (ts : List Thing). list_of i (lists ts)) (sym kept.things) ∙ f));
          told = λ i l f. h.told i l (ap (λ (ts : List Thing). list_of i (lists ts)) (sym kept.things) ∙ f);
          fresh = λ r high. h.fresh r (omega (arith, high, same));
          homes = h.homes;
        } in
        record {
          claims = λ i l f. claim_as whole (V before) (V (before ++ t ∷ [])) (look next) i l.stand (now_is (root_of whole i)) (fated.claims i l f);
          told = fated.told;
          fresh = λ r high. now_is r ∙ fated.fresh r high;
          homes = λ r x send own f. now_is r ∙ home r x send own (idle_rows whole o.rows idle r).1 (home-append (rows_of before) o.rows r x f);
        }
      where
        home : (r : ℕ) (x : ListStatus) → Send whole r → root_of whole r ≡ r → find (is_home r) (outcome (seen head before) t.event n.choice).rows ≡ None → (came_home (rows_of before) r ≡ Some x) ⊎ (came_home (outcome (seen head before) t.event n.choice).rows r ≡ Some x) → settled_turns whole r before ≡ x ∷ []
        home r x send own none (inl f) = h.homes r x send own f
        home r x send own none (inr f) = absurd (no_status x (sym (ap status_in none) ∙ f))

    turn_leaves : IsFated whole (rows_of (before ++ t ∷ [])) (λ r. settled_turns whole r (before ++ t ∷ [])) (seen head (before ++ t ∷ []))
    turn_leaves =
        subst (λ (x : Net). IsFated whole (rows_of (before ++ t ∷ [])) (V (before ++ t ∷ [])) x) (sym (turns-snoc (start head) before t ∙ turn_is net t n))
        (subst (λ rows. IsFated whole rows (V (before ++ t ∷ [])) (state_after net t.event o)) (sym (rows-append before (t ∷ []) ∙ ap (λ more. rows_of before ++ more) (none_end t.rows) ∙ ap (λ more. rows_of before ++ more) n.rows))
        (by (is_plain t.event) refl))
      where
        none_end : (rows : List Row) → rows ++ [] ≡ rows
        none_end [] = refl
        none_end (r ∷ rows) = ap (λ rest. r ∷ rest) (none_end rows)

        by : (b : Bool) → is_plain t.event ≡ b → Leaves (state_after (seen head before) t.event (outcome (seen head before) t.event n.choice))
        by true p = plain_leaves p
        by false p = changed_leaves p

  chain : (before later : List Turn) → whole ≡ before ++ later → After before → After whole
  chain before [] e h = subst After (sym (e ∙ none_end before)) h
    where
      none_end : (ts : List Turn) → ts ++ [] ≡ ts
      none_end [] = refl
      none_end (t ∷ ts) = ap (λ rest. t ∷ rest) (none_end ts)
  chain before (t ∷ later) e h =
      chain (before ++ t ∷ []) later (e ∙ sym (snoc before t later)) (turn_leaves before t later e h (next_at (start head) before t later (subst (Sound head) e s)))

  all_fated : After whole
  all_fated = chain [] whole refl record {
    claims = λ n l f. absurd (none_list l f);
    told = λ n l f. absurd (none_list l f);
    fresh = λ r high. refl;
    homes = λ r x send own f. absurd (no_status x f);
  }

  -- what the promise asks of a root
  or_true : (a b : Bool) → b ≡ true → (a || b) ≡ true
  or_true true b h = refl
  or_true false b h = h

  fate_met : (r : ℕ) → Send whole r → root_of whole r ≡ r → has_fate head whole r direction.Down ≡ true
  fate_met r send own = by (home_of whole r) refl
    where
      by : (o : Option Row) → home_of whole r ≡ o → has_fate head whole r direction.Down ≡ true
      by None f = ap (λ (o : Option Row). not (is_some o) || is_sent_once whole r) f
      by (Some y) f =
          let found : find (is_home r) (rows_of whole) ≡ Some y = sym (rows_found (is_home r) whole) ∙ f in
          let told = home_status r (rows_of whole) y found in
          or_true (not (is_home_again whole r)) (is_sent_once whole r) (sent_once whole r told.0 (all_fated.homes r told.0 send own (ap status_in found ∙ told.1)) (ap status_in f ∙ told.1))

  both_true : (a b : Bool) → a ≡ true → b ≡ true → (a && b) ≡ true
  both_true a b h k = cc

  row_met : (done later : List Row) (r : Row) → rows_of whole ≡ done ++ r ∷ later → has_fate_below head whole r ≡ true
  row_met done later (row.Issue list owner config direction.Down cancel origin.Root frames) e =
      let label : Label = record { owner = owner; direction = direction.Down; cancel = cancel; origin = origin.Root; frames = frames } in
      let back : LooksBack whole done list config label = each_looks_back head whole s done later list config label e in
      fate_met list.0 (ap sends_in back.issue) back.root
  row_met done later (row.Issue list owner config direction.Down cancel (origin.Clone o) frames) e = refl
  row_met done later (row.Issue list owner config direction.Down cancel (origin.Copy o) frames) e = refl
  row_met done later (row.Issue list owner config direction.Up cancel made frames) e = refl
  row_met done later (row.Issue list owner config direction.Lent cancel made frames) e = refl
  row_met done later _ e = refl

  rows_met : (done rows : List Row) → rows_of whole ≡ done ++ rows → list_all (has_fate_below head whole) rows ≡ true
  rows_met done [] e = refl
  rows_met done (r ∷ rows) e = both_true _ _ (row_met done rows r e) (rows_met (done ++ r ∷ []) rows (e ∙ sym (snoc done r rows)))

-- a test of all rows, turn by turn
all-split : (test : Row → Bool) (xs ys : List Row) → list_all test (xs ++ ys) ≡ true → (list_all test xs ≡ true) × (list_all test ys ≡ true)
all-split test [] ys h = (refl, h)
all-split test (x ∷ xs) ys h =
    let rest = all-split test xs ys (and_later (test x) (list_all test (xs ++ ys)) h) in
    (both (test x) (list_all test xs) (and_first (test x) (list_all test (xs ++ ys)) h) rest.0, rest.1)
  where
    and_first : (a b : Bool) → (a && b) ≡ true → a ≡ true
    and_first true b h = refl
    and_first false b h = cc

    and_later : (a b : Bool) → (a && b) ≡ true → b ≡ true
    and_later true b h = h
    and_later false b h = cc

    both : (a b : Bool) → a ≡ true → b ≡ true → (a && b) ≡ true
    both a b h k = cc

by_turns : (test : Row → Bool) (turns : List Turn) → list_all test (rows_of turns) ≡ true → all_rows test turns ≡ true
by_turns test [] h = refl
by_turns test (t ∷ ts) h = let parts = all-split test t.rows (rows_of ts) h in both (list_all test t.rows) (all_rows test ts) parts.0 (by_turns test ts parts.1)
  where
    both : (a b : Bool) → a ≡ true → b ≡ true → (a && b) ≡ true
    both a b h k = cc

pub each_send_meets_its_fate : EachSendMeetsItsFate
each_send_meets_its_fate head turns s = by_turns (has_fate_below head turns) turns (rows_met head turns s [] (rows_of turns) refl)
