-- A list at a filter, and a clone that comes home: what is left to be done with their frames.
use Rattle.std.proofs.Common.{◌≡◌, ℕ, ◌+◌, ◌<◌, ◌==◌, ◌&&◌, ◌⊎◌, inl, inr, Bool, true, false, List, [], ◌∷◌, Option, Some, None, reverse, refl, arith, ap, sym, subst, ◌∙◌}
use Rattle.std.proofs.lemmas.Bool.Decides.{nat_tests}
use Rattle.ndis_base.specs.declared.Direction.{Direction}
use Rattle.ndis_base.specs.declared.Direction.TheVariants as direction
use Rattle.ndis_base.specs.declared.ListNo.{ListNo}
use Rattle.ndis_base.specs.declared.ListStatus.{ListStatus}
use Rattle.ndis_base.specs.declared.ListStatus.TheVariants.{Resources, Dropped}
use Rattle.ndis_base.specs.declared.ModuleId.{ModuleId}
use Rattle.ndis_base.specs.declared.ModuleId.TheVariants.{Filter}
use Rattle.ndis_base.specs.declared.Origin.{Origin}
use Rattle.ndis_base.specs.declared.Origin.TheVariants as origin
use Rattle.ndis_base.specs.declared.Phase.TheVariants as phase
use Rattle.program_types.specs.declared.Rule.{Rule}
use Rattle.program_types.specs.Apply.{applied}
use Rattle.journal_types.specs.declared.PassWay.TheVariants as way
use Rattle.journal_types.specs.declared.Row.{Row}
use Rattle.journal_types.specs.declared.Row.TheVariants as row
use Rattle.journal_types.specs.declared.Setup.{Setup}
use Rattle.journal_types.specs.declared.Turn.{Turn}
use Rattle.stack_rules.specs.declared.Attached.{Attached}
use Rattle.stack_rules.specs.declared.LiveList.{LiveList}
use Rattle.stack_rules.specs.Tests.{is_down, is_hold, same_frames}
use Rattle.stack_rules.specs.Net.{Net, Modules, after, after_rows, attached, below, lists, list_of}
use Rattle.stack_rules.specs.Outcome.{list_no, config_no}
use Rattle.stack_rules.specs.Places.{above, position, is_full}
use Rattle.stack_rules.specs.Rewires.{is_in}
use Rattle.stack_rules.specs.Targets.{filters_above, onward, homeward_by, turned_back}
use Rattle.stack_rules.specs.Handled.{program, made_of, cloned, stays, handled_as, given_by, filter_rows}
use Rattle.stack_rules.specs.Dones.{released_list, released, home_rows}
use Rattle.rule_basics.proofs.Lives.{find_is}
use Rattle.home_laws.proofs.Fits.{Register, registered, AllFit, IsSane}
use Rattle.home_laws.proofs.Registers.{sane_after}
use Rattle.home_laws.proofs.Agreed.{Agrees, agrees_after}
use Rattle.state_laws.proofs.Rows.{by_test}
use Rattle.place_laws.proofs.Good.{cloned_from}
use Rattle.place_laws.proofs.Looks.{look, keeping, passing, issued, look_keep, look_pass, look_home, look_issue, not_live}
use Rattle.promise_rules.specs.Rows.{frames_in}
use Rattle.promise_rules.specs.Carried.{setup_of, carried_up, filters_in, config_of}
use Rattle.family_laws.specs.Claims.{from_filter, frames_of, HasSetup}
use Rattle.configuration_laws.specs.Claims.{carried_back, whole_up, IsLeft, Receives}
use Rattle.configuration_laws.proofs.Carries.{goes_below}
use Rattle.place_laws.proofs.Spots.{in_reverse}
use Rattle.configuration_laws.proofs.Rows.{IsCloned, AreClaimed, Claimed, Owes, AllOwe, free_look, claims_changed, claims_gone, row_claimed, rows_claimed}
use Rattle.family_laws.proofs.Known.{longest, IsLooked, frames_same, set_of}
use Rattle.configuration_laws.proofs.Known.{IsKnown, OweAll, Owe, LookAll, frames_told, sends_told, above_is, above_end, onward_owes, back_owes}

module _ (turns : List Turn) where
  -- what a row shows that is on a wire or taken to another stack
  abbrev pub Shows : Row → Type 0
  Shows (row.Deliver list binding how frames) = IsLeft longest turns [] list.0 × (frames_of turns list.0 ≡ frames)
  Shows _ = Unit {0}

  abbrev pub AllShow : List Row → Type 0
  AllShow [] = Unit {0}
  AllShow (r ∷ rows) = Shows r × AllShow rows

  show_owed : (order : List ℕ) (r : Row) → Owes longest turns order r → Shows r
  show_owed order (row.Deliver list binding how frames) h = h
  show_owed order _ h = tt

  pub shows_owed : (order : List ℕ) (rows : List Row) → AllOwe longest turns order rows → AllShow rows
  shows_owed order [] h = tt
  shows_owed order (r ∷ rows) h = (show_owed order r h.0, shows_owed order rows h.1)

  -- what the rows of a turn leave and show
  pub record Result (net : Net) (rows : List Row) : Type 0 where
    pub claimed : Claimed longest turns (reverse net.modules.order) (after_rows net rows)
    pub shows : AllShow rows

  module _ (net : Net) (k : IsKnown turns net) (reg : Register) (a : Agrees net reg) (s : IsSane reg) where
    pub owed_result : (rows : List Row) → AllFit reg rows → OweAll turns net k rows → Result net rows
    owed_result rows f o = record {
      claimed = rows_claimed longest turns (reverse net.modules.order) net reg rows a s f o k.claimed;
      shows = shows_owed (reverse net.modules.order) rows o;
    }

  -- a list at a filter: where it is a send, the filters from there on are left, and this one has the send pair
  pub record IsGivenHere (net : Net) (a : Attached) (l : LiveList) : Type 0 where
    pub found : look net l.list.0 ≡ Some l
    pub there : is_in a.filter net.modules.order ≡ true
    pub entry : attached a.filter net.modules.filters ≡ Some a
    pub up : is_down l.direction ≡ false → IsLeft longest turns (from_filter a.filter (reverse net.modules.order)) l.list.0 × Receives turns a.filter

  program_up : (x : Setup) (d : Direction) → is_down d ≡ false → program x d ≡ x.receive
  program_up x direction.Down h = cc
  program_up x direction.Up h = refl
  program_up x direction.Lent h = refl

  some_setup : (x y : Setup) → Some x ≡ Some y → x ≡ y
  some_setup x y e = cc

  some_entry : (x y : Attached) → Some x ≡ Some y → x ≡ y
  some_entry x y e = cc

  module _ (net : Net) (k : IsKnown turns net) (a : Attached) (l : LiveList) (h : IsGivenHere net a l) where
    runs : net.phase ≡ phase.Halted → ⊥
    runs = k.live l h.found

    told : setup_of turns a.filter ≡ Some a.setup
    told =
        let x : HasSetup turns net.modules a.filter = set_of turns net.modules a.filter net.modules.order h.there (k.set_up runs) in
        x.setup ∙ ap (λ (y : Attached). Some y.setup) (some_entry x.entry a (sym x.found ∙ h.entry))

    -- what the filter makes of a send's frames, and those below it of that
    made_below : (made : List (List ℕ)) → made_of net a l ≡ Some made → is_down l.direction ≡ false → carried_back longest turns (below a.filter (reverse net.modules.order)) made ≡ whole_up longest turns l.list.0
    made_below made e d =
        let x = h.up d in
        let pair : a.setup.handlers.receive ≡ true = ap (λ (y : Setup). y.handlers.receive) (some_setup a.setup x.1.setup (sym told ∙ x.1.told)) ∙ x.1.pair in
        let made_is : applied longest a.setup.receive (frames_of turns l.list.0) ≡ Some made =
        ap (λ y. applied longest a.setup.receive y) (frames_told turns net k l h.found) ∙ ap (λ (p : List Rule). applied longest p l.frames) (sym (program_up a.setup l.direction d)) ∙ e in
        sym (goes_below longest turns (reverse net.modules.order) a.filter a.setup (frames_of turns l.list.0) made (in_reverse a.filter net.modules.order ∙ h.there) told pair made_is) ∙ x.0

    below_left : (made : List (List ℕ)) → made_of net a l ≡ Some made → made ≡ l.frames → is_down l.direction ≡ false → IsLeft longest turns (below a.filter (reverse net.modules.order)) l.list.0
    below_left made e same d = ap (carried_back longest turns (below a.filter (reverse net.modules.order))) (frames_told turns net k l h.found ∙ sym same) ∙ made_below made e d

    stays_owes : (keeps : Bool) (made : List (List ℕ)) → made_of net a l ≡ Some made → made ≡ l.frames → OweAll turns net k (stays net a l keeps)
    stays_owes keeps made e same =
        by_test (OweAll turns net k) (keeps && is_hold a.kind) _ _
        (λ _. (λ t. below_left made e same (sym (sends_told turns net k l h.found) ∙ t), tt))
        (λ _. (
          onward_owes turns net k l.list l.direction (above a.filter net.modules.order + 1) runs (above_end turns net k a.filter h.there)
              (λ d. subst (λ fs. IsLeft longest turns fs l.list.0) (sym (above_is turns net k a.filter h.there)) (below_left made e same d)),
          tt,
        ))

    module _ (reg : Register) (g : Agrees net reg) (s : IsSane reg) where
      abbrev give : Row
      give = row.Give l.list (Filter a.filter) (given_by l.direction)

      cloned_result : (made : List (List ℕ)) → made_of net a l ≡ Some made → AllFit reg (give ∷ cloned net a l made) → LookAll turns net k (give ∷ cloned net a l made) → Result net (give ∷ cloned net a l made)
      cloned_result made e f looks =
          let c : ListNo = list_no net.next.list in
          let issue : Row = row.Issue c (Filter a.filter) (config_no net.modules.config) l.direction l.cancel (origin.Clone l.list) made in
          let keep : Row = row.Keep l.list (Filter a.filter) in
          let pass : Row = onward net.modules c l.direction (position net.modules.order (Filter a.filter)) in
          let looked : IsLooked turns net.modules.order c.0 issue (origin.Clone l.list) = looks.1.0 in
          let n1 : Net = after net give in
          let n2 : Net = after n1 issue in
          let n3 : Net = after n2 keep in
          let r1 : Register = registered reg give in
          let r2 : Register = registered r1 issue in
          let r3 : Register = registered r2 keep in
          let c1 : Claimed longest turns (reverse net.modules.order) n1 = row_claimed longest turns (reverse net.modules.order) net reg give g s f.0 tt k.claimed in
          let g1 : Agrees n1 r1 = agrees_after net reg give g s f.0 in
          let s1 : IsSane r1 = sane_after reg give s f.0 in
          let c2 : Claimed longest turns (reverse net.modules.order) n2 = row_claimed longest turns (reverse net.modules.order) n1 r1 issue g1 s1 f.1.0 looked.issue c1 in
          let g2 : Agrees n2 r2 = agrees_after n1 r1 issue g1 s1 f.1.0 in
          let s2 : IsSane r2 = sane_after r1 issue s1 f.1.0 in
          let ui = look_issue n1 c (Filter a.filter) (config_no net.modules.config) l.direction l.cancel (origin.Clone l.list) made (not_live c.0 (lists n1.things) (free_look longest turns (reverse net.modules.order) n1 r1 c.0 g1 s1 f.1.0.0)) in
          let uk = look_keep n2 l.list (Filter a.filter) in
          let low = k.facts.good.good.below l.list.0 l h.found in
          let cloned_now : IsCloned (look n3) l.list.0 = record {
            number = c.0;
            clone = issued c (Filter a.filter) l.direction l.cancel (origin.Clone l.list) made;
            found = uk.others c.0 (apart l.list.0 net.next.list low) ∙ ui.here;
            from = refl;
          } in
          let c3 : Claimed longest turns (reverse net.modules.order) n3 =
          claims_changed longest turns (reverse net.modules.order) (look n2) (look n3) l.list.0 uk.others (keeping (Filter a.filter)) record { same = λ x. refl; number = λ x. refl } uk.here None (λ m t. absurd (none_some m t)) c2
          (λ x t. inr cloned_now) in
          let g3 : Agrees n3 r3 = agrees_after n2 r2 keep g2 s2 f.1.1.0 in
          let s3 : IsSane r3 = sane_after r2 keep s2 f.1.1.0 in
          let left : is_down l.direction ≡ false → IsLeft longest turns (reverse (filters_above net.modules (above a.filter net.modules.order + 1))) c.0 =
          λ d. ap (λ fs. carried_back longest turns fs (frames_of turns c.0)) (above_is turns net k a.filter h.there)
          ∙ ap (carried_back longest turns (below a.filter (reverse net.modules.order))) (ap frames_in looked.issue)
          ∙ made_below made e d
          ∙ ap (λ r. carried_up longest turns (filters_in (config_of turns r)) (frames_of turns r)) (sym looked.root) in
          let owed : Owe turns net k pass = onward_owes turns net k c l.direction (above a.filter net.modules.order + 1) runs (above_end turns net k a.filter h.there) left in
          record {
            claimed = row_claimed longest turns (reverse net.modules.order) n3 r3 pass g3 s3 f.1.1.1.0 owed c3;
            shows = (tt, (tt, (tt, (show_owed (reverse net.modules.order) pass owed, tt))));
          }
        where
          none_some : (m : ℕ) → None ≡ Some m → ⊥
          none_some m t = cc

          apart : (n m : ℕ) → n < m → (n == m) ≡ false
          apart n m t = grind (arith, nat_tests)

      handled_result : (keeps : Bool) (o : Option (List (List ℕ))) → made_of net a l ≡ o → AllFit reg (give ∷ handled_as net a l keeps o) → LookAll turns net k (give ∷ handled_as net a l keeps o) → Result net (give ∷ handled_as net a l keeps o)
      handled_result keeps None e f looks = owed_result net k reg g s (give ∷ turned_back net.modules l (Filter a.filter) Dropped) f (tt, back_owes turns net k l (Filter a.filter) Dropped)
      handled_result keeps (Some made) e f looks =
          by_test (λ rows. AllFit reg (give ∷ rows) → LookAll turns net k (give ∷ rows) → Result net (give ∷ rows)) (same_frames made l.frames) _ _
          (λ t f looks. owed_result net k reg g s (give ∷ stays net a l keeps) f (tt, stays_owes keeps made e (frames_same made l.frames t)))
          (λ _. by_test (λ rows. AllFit reg (give ∷ rows) → LookAll turns net k (give ∷ rows) → Result net (give ∷ rows)) (is_full net (Filter a.filter)) _ _
          (λ _ f looks. owed_result net k reg g s (give ∷ turned_back net.modules l (Filter a.filter) Resources) f (tt, back_owes turns net k l (Filter a.filter) Resources))
          (λ _ f looks. cloned_result made e f looks))
          f looks

      pub filter_result : (keeps : Bool) → AllFit reg (filter_rows net a l keeps) → LookAll turns net k (filter_rows net a l keeps) → Result net (filter_rows net a l keeps)
      filter_result keeps f looks = handled_result keeps (made_of net a l) refl f looks

  -- a list that is home, and the original that it releases
  none_left : (net : Net) (order : List ℕ) (n : ℕ) → look net n ≡ None → AreClaimed longest turns order (Some n) (look net) → Claimed longest turns order net
  none_left net order n e h = record {
    claims = λ m l f not_it. h.claims m l f (λ t. clash l (sym e ∙ ap (look net) (some_number n m t) ∙ f));
    told = h.told;
  }
    where
      clash : (l : LiveList) → None ≡ Some l → ⊥
      clash l e = cc

      some_number : (x y : ℕ) → Some x ≡ Some y → x ≡ y
      some_number x y e = cc

  module _ (net : Net) (k : IsKnown turns net) (l : LiveList) (found : look net l.list.0 ≡ Some l) (status : ListStatus) where
    abbrev home : Row
    home = row.Home l.list l.owner status

    abbrev now : Net
    now = after net home

    gone : AreClaimed longest turns (reverse net.modules.order) (cloned_from l.origin) (look now)
    gone = let u = look_home net l.list l.owner status in claims_gone longest turns (reverse net.modules.order) (look net) (look now) l.list.0 u.others l found u.here k.claimed

    release : (n : ℕ) (original : LiveList) (d : Direction) (i : ℕ) → original.list.0 ≡ n → AreClaimed longest turns (reverse net.modules.order) (Some n) (look now) → Claimed longest turns (reverse net.modules.order) (after now (homeward_by net.modules original.list original.owner d i status))
    release n original direction.Down i e c =
        let u = look_pass now original.list (way.Done status) _ in
        claims_changed longest turns (reverse net.modules.order) (look now) _ original.list.0 u.others (passing (way.Done status) _) record { same = λ x. refl; number = λ x. refl } u.here (Some n) (λ m t. e ∙ some_number n m t) c (λ x t. tt)
      where
        some_number : (x y : ℕ) → Some x ≡ Some y → x ≡ y
        some_number x y e = cc
    release n original direction.Up i e c =
        let u = look_pass now original.list (way.Back status) _ in
        claims_changed longest turns (reverse net.modules.order) (look now) _ original.list.0 u.others (passing (way.Back status) _) record { same = λ x. refl; number = λ x. refl } u.here (Some n) (λ m t. e ∙ some_number n m t) c (λ x t. tt)
      where
        some_number : (x y : ℕ) → Some x ≡ Some y → x ≡ y
        some_number x y e = cc
    release n original direction.Lent i e c =
        let u = look_pass now original.list (way.Back status) _ in
        claims_changed longest turns (reverse net.modules.order) (look now) _ original.list.0 u.others (passing (way.Back status) _) record { same = λ x. refl; number = λ x. refl } u.here (Some n) (λ m t. e ∙ some_number n m t) c (λ x t. tt)
      where
        some_number : (x y : ℕ) → Some x ≡ Some y → x ≡ y
        some_number x y e = cc

    shows_home : (ms : Modules) (list : ListNo) (owner : ModuleId) (d : Direction) (i : ℕ) (s : ListStatus) → Shows (homeward_by ms list owner d i s)
    shows_home ms list owner direction.Down i s = tt
    shows_home ms list owner direction.Up i s = tt
    shows_home ms list owner direction.Lent i s = tt

    list_result : (n : ℕ) (o : Option LiveList) → list_of n (lists net.things) ≡ o → look now n ≡ o ⊎ (n ≡ l.list.0) → AreClaimed longest turns (reverse net.modules.order) (Some n) (look now) → Result net (home ∷ released_list net l.owner status o)
    list_result n None e (inl f) c = record { claimed = none_left now (reverse net.modules.order) n f c; shows = (tt, tt) }
    list_result n None e (inr f) c = absurd (clash l (sym e ∙ ap (look net) f ∙ found))
      where
        clash : (l : LiveList) → None ≡ Some l → ⊥
        clash l e = cc
    list_result n (Some original) e h c = record {
      claimed = release n original original.direction (position net.modules.order l.owner) (find_is n (lists net.things) original e).0 c;
      shows = (tt, (shows_home net.modules original.list original.owner original.direction (position net.modules.order l.owner) status, tt));
    }

    origin_result : (o : Origin) → l.origin ≡ o → Result net (home ∷ released net l.owner o status)
    origin_result origin.Root e = record { claimed = subst (λ b. AreClaimed longest turns (reverse net.modules.order) b (look now)) (ap cloned_from e) gone; shows = (tt, tt) }
    origin_result (origin.Copy o) e = record { claimed = subst (λ b. AreClaimed longest turns (reverse net.modules.order) b (look now)) (ap cloned_from e) gone; shows = (tt, tt) }
    origin_result (origin.Clone o) e =
        list_result o.0 (list_of o.0 (lists net.things)) refl (same (l.list.0 == o.0) refl) (subst (λ b. AreClaimed longest turns (reverse net.modules.order) b (look now)) (ap cloned_from e) gone)
      where
        same : (b : Bool) → (l.list.0 == o.0) ≡ b → (look now o.0 ≡ look net o.0) ⊎ (o.0 ≡ l.list.0)
        same true t = inr (equal l.list.0 o.0 t)
          where
            equal : (n m : ℕ) → (n == m) ≡ true → m ≡ n
            equal n m t = grind (arith, nat_tests)
        same false t = inl ((look_home net l.list l.owner status).others o.0 t)

    pub home_result : Result net (home_rows net l status)
    home_result = origin_result l.origin refl
