-- What is known where a turn begins, and turns that settle no family or one.
use Rattle.std.proofs.Common.{◌≡◌, ℕ, ◌<◌, ◌≤◌, ◌==◌, ◌||◌, ◌⊎◌, inl, inr, Bool, true, false, cond, List, [], ◌∷◌, ◌++◌, Option, Some, None, find, refl, arith, ap, sym, subst, ◌∙◌}
use Rattle.std.proofs.lemmas.Bool.Decides.{nat_tests}
use Rattle.ndis_base.specs.declared.ListNo.{ListNo}
use Rattle.ndis_base.specs.declared.ListStatus.{ListStatus}
use Rattle.ndis_base.specs.declared.ModuleId.{ModuleId}
use Rattle.ndis_base.specs.declared.ModuleId.TheVariants.{Miniport, Filter, Binding}
use Rattle.ndis_base.specs.declared.Direction.{Direction}
use Rattle.ndis_base.specs.declared.Direction.TheVariants as direction
use Rattle.journal_types.specs.declared.Handler.{Handler}
use Rattle.journal_types.specs.declared.PassWay.TheVariants as way
use Rattle.journal_types.specs.declared.Row.{Row}
use Rattle.journal_types.specs.declared.Row.TheVariants as row
use Rattle.journal_types.specs.declared.Turn.{Turn}
use Rattle.stack_rules.specs.declared.LiveList.{LiveList}
use Rattle.stack_rules.specs.declared.Stand.TheVariants as stand
use Rattle.stack_rules.specs.Tests.{is_down, is_virtual}
use Rattle.stack_rules.specs.Net.{Net, Modules, after_rows, lists}
use Rattle.stack_rules.specs.Places.{position, has_clone}
use Rattle.stack_rules.specs.Targets.{homeward, homeward_by, turned_back}
use Rattle.place_laws.proofs.Good.{cloned_from, by_number, unkept, IsUncloned, IsFrom}
use Rattle.place_laws.proofs.Looks.{look}
use Rattle.place_laws.proofs.Keepers.{Facts}
use Rattle.promise_rules.specs.Rows.{issue_of, is_home, status_in}
use Rattle.promise_rules.specs.Families.{root_of}
use Rattle.promise_rules.specs.Fates.{is_lent_issue}
use Rattle.completion_laws.proofs.Tells.{NonePass, none_find}
use Rattle.family_laws.proofs.Rows.{sends_in, IsIssuedAs}
use Rattle.tip_laws.specs.Tips.{IsRootLive}
use Rattle.tip_laws.proofs.Kin.{Kin, root_low, one_tip, root_live, IsCloneOf, find_clone}
use Rattle.send_fates.proofs.Tally.{settled_by, settled_rows, settled-append}
use Rattle.send_fates.proofs.Rows.{places, is_placed, placed-later, Send, Open, Settled, Claim, AreFated, Owes, AllOwe, owe-append, claim_as}

-- the status with which a list came home in these rows
abbrev pub came_home : List Row → ℕ → Option ListStatus
came_home rows r = status_in (find (is_home r) rows)

pub record Start (whole : List Turn) (done : List Row) (v : ℕ → List ListStatus) (net : Net) : Type 0 where
  pub facts : Facts net
  pub kin : Kin whole net
  pub claims : (n : ℕ) (l : LiveList) → look net n ≡ Some l → Claim whole v (look net) n l.stand
  pub told : (n : ℕ) (l : LiveList) → look net n ≡ Some l → IsIssuedAs whole n l
  pub fresh : (r : ℕ) → net.next.list ≤ r → v r ≡ []
  pub gone : (r : ℕ) (s : ListStatus) → came_home done r ≡ Some s → (look net r ≡ None) × (r < net.next.list)
  pub homes : (r : ℕ) (s : ListStatus) → Send whole r → root_of whole r ≡ r → came_home done r ≡ Some s → v r ≡ s ∷ []

-- what a turn does that settles these families
pub record Goes (whole : List Turn) (done : List Row) (v : ℕ → List ListStatus) (net : Net) (gain : ℕ → List ListStatus) (rows : List Row) : Type 0 where
  pub now : ℕ → List ListStatus
  pub adds : (r : ℕ) → now r ≡ v r ++ gain r
  pub tips : (n : ℕ) (l : LiveList) → look net n ≡ Some l → has_clone net n ≡ false → (is_placed n rows ≡ true) ⊎ (now (root_of whole n) ≡ v (root_of whole n))
  pub owes : AllOwe whole now rows
  pub old : (r : ℕ) (s : ListStatus) → Send whole r → came_home done r ≡ Some s → now r ≡ v r
  pub later : (r : ℕ) → (after_rows net rows).next.list ≤ r → now r ≡ v r
  pub homes : (r : ℕ) (s : ListStatus) → Send whole r → root_of whole r ≡ r → came_home rows r ≡ Some s → now r ≡ s ∷ []

pub nil_end : (xs : List ListStatus) → xs ++ [] ≡ xs
nil_end [] = refl
nil_end (x ∷ xs) = ap (λ rest. x ∷ rest) (nil_end xs)

pub no_status : (s : ListStatus) → None ≡ Some s → ⊥
no_status s e = cc

pub none_list : (l : LiveList) → None ≡ Some l → ⊥
none_list l e = cc

pub same_number : (n : ℕ) → (n == n) ≡ true
same_number n = grind (arith, nat_tests)

pub differ : (n m : ℕ) → (n ≡ m → ⊥) → (n == m) ≡ false
differ n m h = cases (n == m) refl
  where
    equal : (n m : ℕ) → (n == m) ≡ true → n ≡ m
    equal n m t = grind (arith, nat_tests)

    cases : (b : Bool) → (n == m) ≡ b → b ≡ false
    cases true t = absurd (h (equal n m t))
    cases false t = refl

pub clash : (b : Bool) → b ≡ true → b ≡ false → ⊥
clash true t q = cc
clash false t q = cc

-- the next number of lists never falls
module _ (whole : List Turn) where
  abbrev R : ℕ → ℕ
  R n = root_of whole n

  -- rows that settle nothing, and by which nothing is home
  abbrev pub Calm : (ℕ → List ListStatus) → Row → Type 0
  Calm v (row.Issue list owner config d cancel made frames) = (issue_of whole list.0 ≡ Some (row.Issue list owner config d cancel made frames)) × (is_down d ≡ true → Open whole v list.0)
  Calm v (row.Pass list way.Down to) = Open whole v list.0
  Calm v (row.Pass list (way.Done status) to) = Settled whole v list.0 status
  Calm v (row.Keep list Miniport) = Open whole v list.0
  Calm v (row.Keep list (Filter f)) = Send whole list.0 → Open whole v list.0
  Calm v (row.Home list owner status) = ⊥
  Calm v (row.Wire list frames) = ⊥
  Calm v (row.TurnBack list m status) = ⊥
  Calm v _ = Unit {0}

  abbrev pub AllCalm : (ℕ → List ListStatus) → List Row → Type 0
  AllCalm v [] = Unit {0}
  AllCalm v (r ∷ rows) = Calm v r × AllCalm v rows

  pub calm-append : (v : ℕ → List ListStatus) (xs ys : List Row) → AllCalm v xs → AllCalm v ys → AllCalm v (xs ++ ys)
  calm-append v [] ys h k = k
  calm-append v (x ∷ xs) ys h k = (h.0, calm-append v xs ys h.1 k)

  calm_one : (v : ℕ → List ListStatus) (r : Row) (rest : List Row) → Calm v r → Owes whole v r rest
  calm_one v (row.Issue list owner config d cancel made frames) rest h = h
  calm_one v (row.Pass list way.Down to) rest h = h
  calm_one v (row.Pass list way.Up to) rest h = h
  calm_one v (row.Pass list (way.Done status) to) rest h = h
  calm_one v (row.Pass list (way.Back status) to) rest h = h
  calm_one v (row.Keep list Miniport) rest h = h
  calm_one v (row.Keep list (Filter f)) rest h = h
  calm_one v (row.Keep list (Binding b)) rest h = h
  calm_one v (row.Home list owner status) rest h = absurd h
  calm_one v (row.Wire list frames) rest h = absurd h
  calm_one v (row.TurnBack list m status) rest h = absurd h
  calm_one v _ rest h = tt

  pub calm_owes : (v : ℕ → List ListStatus) (rows : List Row) → AllCalm v rows → AllOwe whole v rows
  calm_owes v [] h = tt
  calm_owes v (r ∷ rows) h = (calm_one v r rows h.0, calm_owes v rows h.1)

  calm_by : (v : ℕ → List ListStatus) (q : ℕ) (r : Row) → Calm v r → settled_by whole q r ≡ []
  calm_by v q (row.Wire list frames) h = absurd h
  calm_by v q (row.TurnBack list m status) h = absurd h
  calm_by v q _ h = refl

  pub calm_mute : (v : ℕ → List ListStatus) (q : ℕ) (rows : List Row) → AllCalm v rows → settled_rows whole q rows ≡ []
  calm_mute v q [] h = refl
  calm_mute v q (r ∷ rows) h = ap (λ x. x ++ settled_rows whole q rows) (calm_by v q r h.0) ∙ calm_mute v q rows h.1

  calm_home : (v : ℕ → List ListStatus) (q : ℕ) (r : Row) → Calm v r → is_home q r ≡ false
  calm_home v q (row.Home list owner status) h = absurd h
  calm_home v q _ h = refl

  pub calm_none : (v : ℕ → List ListStatus) (q : ℕ) (rows : List Row) → AllCalm v rows → NonePass (is_home q) rows
  calm_none v q [] h = tt
  calm_none v q (r ∷ rows) h = (calm_home v q r h.0, calm_none v q rows h.1)

  -- homewards
  pub calm_homeward : (v : ℕ → List ListStatus) (ms : Modules) (list : ListNo) (owner : ModuleId) (d : Direction) (i : ℕ) (s : ListStatus) → (is_down d ≡ true → Settled whole v list.0 s) → Calm v (homeward_by ms list owner d i s)
  calm_homeward v ms list owner direction.Down i s h = h refl
  calm_homeward v ms list owner direction.Up i s h = tt
  calm_homeward v ms list owner direction.Lent i s h = tt

  pub homeward_places : (ms : Modules) (list : ListNo) (owner : ModuleId) (d : Direction) (i : ℕ) (s : ListStatus) (rest : List Row) → is_placed list.0 (homeward_by ms list owner d i s ∷ rest) ≡ true
  homeward_places ms list owner direction.Down i s rest = ap (λ b. b || is_placed list.0 rest) (same_number list.0)
  homeward_places ms list owner direction.Up i s rest = ap (λ b. b || is_placed list.0 rest) (same_number list.0)
  homeward_places ms list owner direction.Lent i s rest = ap (λ b. b || is_placed list.0 rest) (same_number list.0)

  module _ (done : List Row) (v : ℕ → List ListStatus) (net : Net) (k : Start whole done v net) where
    abbrev pub GoesBy : List Row → Type 0
    GoesBy rows = Goes whole done v net (λ r. settled_rows whole r rows) rows

    -- no family is settled
    pub quiet : (gain : ℕ → List ListStatus) (rows : List Row) → ((r : ℕ) → gain r ≡ []) → AllCalm v rows → Goes whole done v net gain rows
    quiet gain rows none h = record {
      now = v;
      adds = λ r. sym (ap (λ x. v r ++ x) (none r) ∙ nil_end (v r));
      tips = λ n l f b. inr refl;
      owes = calm_owes v rows h;
      old = λ r s d e. refl;
      later = λ r e. refl;
      homes = λ r s d o e. absurd (no_status s (sym (ap status_in (none_find (is_home r) rows (calm_none v r rows h))) ∙ e));
    }

    pub calm : (rows : List Row) → AllCalm v rows → GoesBy rows
    calm rows h = quiet (λ r. settled_rows whole r rows) rows (λ r. calm_mute v r rows h) h

    -- a list that isn't kept by a filter is a tip
    pub bare_of : (n : ℕ) → IsUncloned (look net) n → has_clone net n ≡ false
    bare_of n free = by (has_clone net n) refl
      where
        by : (b : Bool) → has_clone net n ≡ b → b ≡ false
        by false e = refl
        by true e =
            let c : IsCloneOf whole net k.kin n = find_clone whole net k.kin n (lists net.things) k.kin.found e in
            absurd (free c.number c.clone c.found (ap cloned_from c.origin_is ∙ ap (λ i. Some i) c.same))

    pub bare_at : (l : LiveList) → look net l.list.0 ≡ Some l → ((f : ℕ) → l.stand ≡ stand.Kept (Filter f) → ⊥) → has_clone net l.list.0 ≡ false
    bare_at l found other = bare_of l.list.0 (unkept net.modules.order (is_virtual net.head.kind) net.next.list (look net) k.facts.good.good l.list.0 l found other)

    -- a send that is home has no live list in its family
    pub home_apart : (n : ℕ) (l : LiveList) (r : ℕ) (s : ListStatus) → look net n ≡ Some l → Send whole r → came_home done r ≡ Some s → R n ≡ r → ⊥
    home_apart n l r s found send home same = by (root_live whole net k.kin n l found)
      where
        lent_not : (o : Option Row) → sends_in o ≡ true → is_lent_issue o ≡ true → ⊥
        lent_not None a b = cc
        lent_not (Some (row.Issue list owner config direction.Down cancel made frames)) a b = cc
        lent_not (Some (row.Issue list owner config direction.Up cancel made frames)) a b = cc
        lent_not (Some (row.Issue list owner config direction.Lent cancel made frames)) a b = cc
        lent_not (Some _) a b = cc

        by : IsRootLive whole net n → ⊥
        by (inl x) = none_list x.0 (sym (k.gone r s home).0 ∙ ap (look net) (sym same) ∙ x.1)
        by (inr x) = lent_not (issue_of whole r) send (ap (λ i. is_lent_issue (issue_of whole i)) (sym same) ∙ x)

    -- one family is settled, that of a tip
    module _ (l : LiveList) (found : look net l.list.0 ≡ Some l) (bare : has_clone net l.list.0 ≡ false) (s : ListStatus) where
      abbrev pub with_one : ℕ → List ListStatus
      with_one r = v r ++ cond (R l.list.0 == r) (s ∷ []) []

      off : (r : ℕ) → (R l.list.0 ≡ r → ⊥) → with_one r ≡ v r
      off r h = ap (λ b. v r ++ cond b (s ∷ []) []) (differ (R l.list.0) r h) ∙ nil_end (v r)

      pub one_settled : Open whole v l.list.0 → Settled whole with_one l.list.0 s
      one_settled h = ap (λ b. v (R l.list.0) ++ cond b (s ∷ []) []) (same_number (R l.list.0)) ∙ ap (λ x. x ++ (s ∷ [])) h

      pub settles_one : (gain : ℕ → List ListStatus) (rows : List Row) → ((r : ℕ) → gain r ≡ cond (R l.list.0 == r) (s ∷ []) []) → is_placed l.list.0 rows ≡ true → AllOwe whole with_one rows → ((r : ℕ) → NonePass (is_home r) rows) → net.next.list ≤ (after_rows net rows).next.list → Goes whole done v net gain rows
      settles_one gain rows gains placed owes homes grows = record {
        now = with_one;
        adds = λ r. ap (λ x. v r ++ x) (sym (gains r));
        tips = λ n x f b. by_number l.list.0 n ((is_placed n rows ≡ true) ⊎ (with_one (R n) ≡ v (R n)))
            (λ t. inr (off (R n) (λ e. clash (l.list.0 == n) (same l.list.0 n (one_tip whole net k.kin l.list.0 n record { list = l; found = found; bare = bare } record { list = x; found = f; bare = b } e)) t)))
            (λ e. inl (subst (λ i. is_placed i rows ≡ true) e placed));
        owes = owes;
        old = λ r x d e. off r (λ same. home_apart l.list.0 l r x found d e same);
        later = λ r high. off r (λ same. too_high r high same);
        homes = λ r x d o e. absurd (no_status x (sym (ap status_in (none_find (is_home r) rows (homes r))) ∙ e));
      }
        where
          same : (n m : ℕ) → n ≡ m → (n == m) ≡ true
          same n m e = grind (arith, nat_tests)

          too_high : (r : ℕ) → (after_rows net rows).next.list ≤ r → R l.list.0 ≡ r → ⊥
          too_high r high same =
              let low : R l.list.0 ≤ l.list.0 = root_low whole net k.kin l.list.0 l found in
              let below : l.list.0 < net.next.list = k.facts.good.good.below l.list.0 l found in
              omega (arith, low, below, grows, high, same)

      -- a row that settles it, between others
      pub one_row : (pre post : List Row) (r : Row) → ((q : ℕ) → settled_by whole q r ≡ cond (R l.list.0 == q) (s ∷ []) []) → Owes whole with_one r post → ((q : ℕ) → is_home q r ≡ false) → AllCalm with_one pre → AllCalm with_one post → is_placed l.list.0 post ≡ true → net.next.list ≤ (after_rows net (pre ++ r ∷ post)).next.list → GoesBy (pre ++ r ∷ post)
      one_row pre post r by owes home before after placed grows =
          settles_one (λ q. settled_rows whole q (pre ++ r ∷ post)) (pre ++ r ∷ post)
          (λ q. settled-append whole q pre (r ∷ post) ∙ ap (λ x. x ++ (settled_by whole q r ++ settled_rows whole q post)) (calm_mute with_one q pre before) ∙ ap (λ x. settled_by whole q r ++ x) (calm_mute with_one q post after) ∙ nil_end (settled_by whole q r) ∙ by q)
          (placed-later l.list.0 pre (r ∷ post) (later (places l.list.0 r) (is_placed l.list.0 post) placed))
          (owe-append whole with_one pre (r ∷ post) (calm_owes with_one pre before) (owes, calm_owes with_one post after))
          (λ q. none-append (is_home q) pre (r ∷ post) (calm_none with_one q pre before) (home q, calm_none with_one q post after))
          grows
        where
          later : (a b : Bool) → b ≡ true → (a || b) ≡ true
          later true b h = refl
          later false b h = h

          none-append : (test : Row → Bool) (xs ys : List Row) → NonePass test xs → NonePass test ys → NonePass test (xs ++ ys)
          none-append test [] ys h g = g
          none-append test (x ∷ xs) ys h g = (h.0, none-append test xs ys h.1 g)

      -- it is turned back
      calm_back : (is_down l.direction ≡ true → Open whole v l.list.0) → (i : ℕ) → Calm with_one (homeward net.modules l i s)
      calm_back opens i = calm_homeward with_one net.modules l.list l.owner l.direction i s (λ d. one_settled (opens d))

      next_homeward : (pre : List Row) (ms : Modules) (d : Direction) (i : ℕ) (x : Net) → net.next.list ≤ x.next.list → net.next.list ≤ (after_rows x (homeward_by ms l.list l.owner d i s ∷ [])).next.list
      next_homeward pre ms direction.Down i x h = h
      next_homeward pre ms direction.Up i x h = h
      next_homeward pre ms direction.Lent i x h = h

      pub goes_back : (m : ModuleId) → (is_down l.direction ≡ true → Open whole v l.list.0) → GoesBy (turned_back net.modules l m s)
      goes_back m opens =
          one_row [] (homeward net.modules l (position net.modules.order m) s ∷ []) (row.TurnBack l.list m s) (λ q. refl) tt (λ q. refl) tt (calm_back opens (position net.modules.order m), tt)
          (homeward_places net.modules l.list l.owner l.direction (position net.modules.order m) s [])
          (next_homeward [] net.modules l.direction (position net.modules.order m) _ (omega arith))

      pub given_back : (m : ModuleId) (h : Handler) → (is_down l.direction ≡ true → Open whole v l.list.0) → GoesBy (row.Give l.list m h ∷ turned_back net.modules l m s)
      given_back m h opens =
          one_row (row.Give l.list m h ∷ []) (homeward net.modules l (position net.modules.order m) s ∷ []) (row.TurnBack l.list m s) (λ q. refl) tt (λ q. refl) (tt, tt) (calm_back opens (position net.modules.order m), tt)
          (homeward_places net.modules l.list l.owner l.direction (position net.modules.order m) s [])
          (next_homeward [] net.modules l.direction (position net.modules.order m) _ (omega arith))

    -- the claims where the turn begins
    pub claims_then : (gain : ℕ → List ListStatus) (rows : List Row) (g : Goes whole done v net gain rows) → AreFated whole g.now rows (look net)
    claims_then gain rows g = record {
      claims = λ n l f. by n l f (has_clone net n) refl;
      told = k.told;
    }
      where
        by : (n : ℕ) (l : LiveList) → look net n ≡ Some l → (b : Bool) → has_clone net n ≡ b → (is_placed n rows ≡ true) ⊎ Claim whole g.now (look net) n l.stand
        by n l f false b = tip (g.tips n l f b)
          where
            tip : (is_placed n rows ≡ true) ⊎ (g.now (R n) ≡ v (R n)) → (is_placed n rows ≡ true) ⊎ Claim whole g.now (look net) n l.stand
            tip (inl p) = inl p
            tip (inr e) = inr (claim_as whole v g.now (look net) n l.stand e (k.claims n l f))
        by n l f true b =
            let c : IsCloneOf whole net k.kin n = find_clone whole net k.kin n (lists net.things) k.kin.found b in
            let made : cloned_from c.clone.origin ≡ Some n = ap cloned_from c.origin_is ∙ ap (λ i. Some i) c.same in
            let from : IsFrom net.modules.order (is_virtual net.head.kind) c.clone l = k.facts.good.good.from c.number n c.clone l c.found made f in
            let kept : l.stand ≡ stand.Kept (Filter from.filter.0) = from.kept ∙ ap (λ m. stand.Kept m) from.filter.1 in
            inr (subst (Claim whole g.now (look net) n) (sym kept) (inr record { number = c.number; clone = c.clone; found = c.found; from = made }))
