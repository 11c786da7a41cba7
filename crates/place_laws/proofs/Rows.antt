-- What each row of a turn leaves in place: the lists stand where they may, the statuses go up, and each list that
-- was live at the turn's begin is alike what it was.
use Rattle.std.proofs.Common.{◌≡◌, ℕ, ◌+◌, ◌<◌, ◌≤◌, ◌==◌, ◌⊎◌, inl, inr, nat_lt, Bool, true, false, not, List, [], ◌∷◌, Option, Some, None, option_map, length, refl, arith, ap, sym, subst, ◌∙◌}
use Rattle.std.proofs.lemmas.Bool.Decides.{nat_tests}
use Rattle.ndis_base.specs.declared.ModuleId.{ModuleId}
use Rattle.ndis_base.specs.declared.ListNo.{ListNo}
use Rattle.ndis_base.specs.declared.StatusNo.{StatusNo}
use Rattle.ndis_base.specs.declared.StatusName.{StatusName}
use Rattle.ndis_base.specs.declared.ListStatus.{ListStatus}
use Rattle.ndis_base.specs.declared.ConfigNo.{ConfigNo}
use Rattle.ndis_base.specs.declared.Direction.{Direction}
use Rattle.ndis_base.specs.declared.Origin.{Origin}
use Rattle.journal_types.specs.declared.Handler.{Handler}
use Rattle.journal_types.specs.declared.PassWay.{PassWay}
use Rattle.journal_types.specs.declared.Target.{Target}
use Rattle.journal_types.specs.declared.OutWay.TheVariants as out
use Rattle.journal_types.specs.declared.Row.{Row}
use Rattle.journal_types.specs.declared.Row.TheVariants as row
use Rattle.stack_rules.specs.declared.LiveList.{LiveList}
use Rattle.stack_rules.specs.declared.Stand.TheVariants as stand
use Rattle.stack_rules.specs.declared.Thing.TheVariants as thing
use Rattle.stack_rules.specs.Tests.{is_down}
use Rattle.stack_rules.specs.Net.{Net, after, lists, list_of, had_by, request_of, is_list, is_status, without_status}
use Rattle.stack_rules.specs.Places.{position, is_crossed}
use Rattle.rule_basics.specs.Live.{is_live}
use Rattle.rule_basics.proofs.Numbered.{lists-things_done, lists-status, lists-without_status}
use Rattle.place_laws.specs.Kept.{GoesUp}
use Rattle.place_laws.proofs.Good.{StandsAt, cloned_from, IsUncloned, by_number, one_found, none_found, IsMild, IsWell, AreGood, changed_is, good_changed, good_gone, good_new, good_same}
use Rattle.place_laws.proofs.Looks.{look, IsUpdate, passing, keeping, issued, look_pass, look_keep, look_give, look_back, look_home, look_issue, not_live}
use Rattle.place_laws.proofs.Statuses.{AllGoUp, up_filter, up_append, up_changed, up_kept, up_passed, up_done}

-- a list of the same owner, direction and origin, that hasn't crossed since
pub record IsAlike (x was : LiveList) : Type 0 where
  pub owner : x.owner ≡ was.owner
  pub direction : x.direction ≡ was.direction
  pub origin : x.origin ≡ was.origin
  pub crossed : is_crossed x.crossed ≡ true → is_crossed was.crossed ≡ true

pub record WasThere (find : ℕ → Option LiveList) (n : ℕ) (x : LiveList) : Type 0 where
  pub was : LiveList
  pub found : find n ≡ Some was
  pub alike : IsAlike x was

-- each list that is live now is alike one that was live then, or is new and no clone
pub record AreAlike (next : ℕ) (find later : ℕ → Option LiveList) : Type 0 where
  pub old : (n : ℕ) (x : LiveList) → n < next → later n ≡ Some x → WasThere find n x
  pub fresh : (n : ℕ) (x : LiveList) → next ≤ n → later n ≡ Some x → cloned_from x.origin ≡ None

abbrev Keeps : (LiveList → LiveList) → Type 0
Keeps g = (x : LiveList) → is_crossed (g x).crossed ≡ true → is_crossed x.crossed ≡ true

alike_changed : (next n : ℕ) (find a b : ℕ → Option LiveList) (g : LiveList → LiveList) → IsMild g → Keeps g → b n ≡ option_map g (a n) → ((m : ℕ) → (n == m) ≡ false → b m ≡ a m) → AreAlike next find a → AreAlike next find b
alike_changed next n find a b g mild keeps here others h = record {
  old = λ k y small f. by_number n k (WasThere find k y) (λ t. h.old k y small (sym (others k t) ∙ f))
      (λ e. let c = at k y e f in let w : WasThere find k c.0 = h.old k c.0 small (ap a (sym e) ∙ c.1) in
      record {
        was = w.was;
        found = w.found;
        alike = subst (λ z. IsAlike z w.was) (sym c.2) record {
          owner = mild.owner c.0 ∙ w.alike.owner;
          direction = mild.direction c.0 ∙ w.alike.direction;
          origin = mild.origin c.0 ∙ w.alike.origin;
          crossed = λ t. w.alike.crossed (keeps c.0 t);
        };
      });
  fresh = λ k y large f. by_number n k (cloned_from y.origin ≡ None) (λ t. h.fresh k y large (sym (others k t) ∙ f))
      (λ e. let c = at k y e f in
      let none : cloned_from c.0.origin ≡ None = h.fresh k c.0 large (ap a (sym e) ∙ c.1) in
      let same : cloned_from (g c.0).origin ≡ cloned_from c.0.origin = ap cloned_from (mild.origin c.0) in
      subst (λ (z : LiveList). cloned_from z.origin ≡ None) (sym c.2) (same ∙ none));
}
  where
    at : (k : ℕ) (y : LiveList) → n ≡ k → b k ≡ Some y → (x : LiveList) × (a n ≡ Some x) × (y ≡ g x)
    at k y e f = changed_is g (a n) y (sym here ∙ ap b e ∙ f)

alike_gone : (next n : ℕ) (find a b : ℕ → Option LiveList) → b n ≡ None → ((m : ℕ) → (n == m) ≡ false → b m ≡ a m) → AreAlike next find a → AreAlike next find b
alike_gone next n find a b here others h = record {
  old = λ k y small f. by_number n k (WasThere find k y) (λ t. h.old k y small (sym (others k t) ∙ f)) (λ e. absurd (none_found (b k) y (ap b (sym e) ∙ here) f));
  fresh = λ k y large f. by_number n k (cloned_from y.origin ≡ None) (λ t. h.fresh k y large (sym (others k t) ∙ f)) (λ e. absurd (none_found (b k) y (ap b (sym e) ∙ here) f));
}

alike_new : (next n : ℕ) (find a b : ℕ → Option LiveList) (new : LiveList) → next ≤ n → cloned_from new.origin ≡ None → b n ≡ Some new → ((m : ℕ) → (n == m) ≡ false → b m ≡ a m) → AreAlike next find a → AreAlike next find b
alike_new next n find a b new above no_clone here others h = record {
  old = λ k y small f. by_number n k (WasThere find k y) (λ t. h.old k y small (sym (others k t) ∙ f)) (λ e. absurd (omega (arith, e, above, small)));
  fresh = λ k y large f. by_number n k (cloned_from y.origin ≡ None) (λ t. h.fresh k y large (sym (others k t) ∙ f))
      (λ e. ap (λ (z : LiveList). cloned_from z.origin) (sym (one_found (b k) new y (ap b (sym e) ∙ here) f)) ∙ no_clone);
}

alike_same : (next : ℕ) (find a b : ℕ → Option LiveList) → ((m : ℕ) → b m ≡ a m) → AreAlike next find a → AreAlike next find b
alike_same next find a b e h = record {
  old = λ k y small f. h.old k y small (sym (e k) ∙ f);
  fresh = λ k y large f. h.fresh k y large (sym (e k) ∙ f);
}

had_mild : (m : ModuleId) → IsMild (had_by m)
had_mild m = record { owner = λ x. refl; direction = λ x. refl; origin = λ x. refl }

passing_mild : (way : PassWay) (to : Target) → IsMild (passing way to)
passing_mild way to = record { owner = λ x. refl; direction = λ x. refl; origin = λ x. refl }

pub keeping_mild : (m : ModuleId) → IsMild (keeping m)
keeping_mild m = record { owner = λ x. refl; direction = λ x. refl; origin = λ x. refl }

-- the row moves no list and is no status
abbrev pub is_skipped : Row → Bool
is_skipped (row.Wire list frames) = true
is_skipped (row.Deliver list binding how frames) = true
is_skipped (row.OidIssue request parent binding kind code value) = true
is_skipped (row.OidGive request m) = true
is_skipped (row.OidDone request status value) = true
is_skipped (row.Seen number m) = true
is_skipped (row.CrossOut message out.Up frames) = true
is_skipped (row.CrossIn stack message way frames) = true
is_skipped _ = false

module _ (order : List ℕ) (virtual : Bool) where
  -- the lists and statuses of a state are in place
  pub record IsGood (net : Net) : Type 0 where
    pub good : AreGood order virtual net.next.list (look net)
    pub statuses : AllGoUp net.things

  -- a state inside a turn
  pub record Goes (start net : Net) : Type 0 where
    pub begun : AreGood order virtual start.next.list (look start)
    pub now : IsGood net
    pub alike : AreAlike start.next.list (look start) (look net)
    pub more : start.next.list ≤ net.next.list

  pub goes_start : (net : Net) → IsGood net → Goes net net
  goes_start net h = record {
    begun = h.good;
    now = h;
    alike = record {
      old = λ n x small f. record { was = x; found = f; alike = record { owner = refl; direction = refl; origin = refl; crossed = λ t. t } };
      fresh = λ n x large f. absurd (omega (arith, large, h.good.below n x f));
    };
    more = omega arith;
  }

  -- a list without clones has none later in the turn
  pub still_uncloned : (start net : Net) → Goes start net → (n : ℕ) → IsUncloned (look start) n → IsUncloned (look net) n
  still_uncloned start net h n free k c f o = by (nat_lt_or k start.next.list)
    where
      nat_lt_or : (k m : ℕ) → (k < m) ⊎ (m ≤ k)
      nat_lt_or k m =
          let cases : (b : Bool) → nat_lt k m ≡ b → (k < m) ⊎ (m ≤ k) = elim [ true ↦ λ t. inl (grind (arith, nat_tests)) | false ↦ λ t. inr (grind (arith, nat_tests)) ] in
          cases (nat_lt k m) refl

      by : ((k < start.next.list) ⊎ (start.next.list ≤ k)) → ⊥
      by (inl small) = let w : WasThere (look start) k c = h.alike.old k c small f in free k w.was w.found (ap cloned_from (sym w.alike.origin) ∙ o)
      by (inr large) = let none : cloned_from c.origin ≡ None = h.alike.fresh k c large f in cc

  -- what a list that is live in the turn was
  pub was_start : (start net : Net) → Goes start net → (n : ℕ) (l x : LiveList) → look start n ≡ Some l → look net n ≡ Some x → IsAlike x l
  was_start start net h n l x e f =
      let w : WasThere (look start) n x = h.alike.old n x (h.begun.below n l e) f in
      subst (IsAlike x) (one_found (look start n) w.was l w.found e) w.alike

  -- a list is passed on
  pub pass_good : (net : Net) (list : ListNo) (way : PassWay) (to : Target) → IsUncloned (look net) list.0 → ((x : LiveList) → look net list.0 ≡ Some x → StandsAt order (is_down x.direction) x.owner (stand.Passed way to)) → IsGood net → IsGood (after net (row.Pass list way to))
  pass_good net list way to free may h =
      let u = look_pass net list way to in
      record {
        good = good_changed order virtual net.next.list (look net) (look (after net (row.Pass list way to))) list.0 u.others h.good (passing way to) (passing_mild way to) u.here
            (λ x f. let w : IsWell order virtual x = h.good.well list.0 x f in record { down = w.down; up = w.up; stands = may x f; crossed = λ t. cc }) (λ x f. inr free);
        statuses = up_passed list.0 way to net.things h.statuses;
      }

  pub goes_pass : (start net : Net) (list : ListNo) (way : PassWay) (to : Target) → IsUncloned (look net) list.0 → ((x : LiveList) → look net list.0 ≡ Some x → StandsAt order (is_down x.direction) x.owner (stand.Passed way to)) → Goes start net → Goes start (after net (row.Pass list way to))
  goes_pass start net list way to free may h =
      let u = look_pass net list way to in
      record {
        begun = h.begun;
        now = pass_good net list way to free may h.now;
        alike = alike_changed start.next.list list.0 (look start) (look net) (look (after net (row.Pass list way to))) (passing way to) (passing_mild way to) (λ x t. cc) u.here u.others h.alike;
        more = h.more;
      }

  -- a list is kept
  pub goes_keep : (start net : Net) (list : ListNo) (m : ModuleId) → IsUncloned (look net) list.0 → ((x : LiveList) → look net list.0 ≡ Some x → StandsAt order (is_down x.direction) x.owner (stand.Kept m) × (is_crossed x.crossed ≡ false)) → Goes start net → Goes start (after net (row.Keep list m))
  goes_keep start net list m free may h =
      let u = look_keep net list m in
      record {
        begun = h.begun;
        now = record {
          good = good_changed order virtual net.next.list (look net) (look (after net (row.Keep list m))) list.0 u.others h.now.good (keeping m) (keeping_mild m) u.here
              (λ x f. let w : IsWell order virtual x = h.now.good.well list.0 x f in let apart = (may x f).1 in record { down = w.down; up = w.up; stands = (may x f).0; crossed = λ t. absurd (cc (sym t ∙ apart)) }) (λ x f. inr free);
          statuses = up_kept list.0 m net.things h.now.statuses;
        };
        alike = alike_changed start.next.list list.0 (look start) (look net) (look (after net (row.Keep list m))) (keeping m) (keeping_mild m) (λ x t. t) u.here u.others h.alike;
        more = h.more;
      }

  had_good : (net next : Net) (n : ℕ) (m : ModuleId) → IsUpdate net next n (option_map (had_by m) (look net n)) → AreGood order virtual net.next.list (look net) → AreGood order virtual net.next.list (look next)
  had_good net next n m u h =
      good_changed order virtual net.next.list (look net) (look next) n u.others h (had_by m) (had_mild m) u.here
      (λ x f. let w : IsWell order virtual x = h.well n x f in record { down = w.down; up = w.up; stands = w.stands; crossed = w.crossed }) (λ x f. inl refl)

  -- a list is given to a module, or is turned back by it
  pub goes_give : (start net : Net) (list : ListNo) (m : ModuleId) (handler : Handler) → Goes start net → Goes start (after net (row.Give list m handler))
  goes_give start net list m handler h =
      let u = look_give net list m handler in
      record {
        begun = h.begun;
        now = record { good = had_good net (after net (row.Give list m handler)) list.0 m u h.now.good; statuses = up_changed list.0 (had_by m) net.things h.now.statuses };
        alike = alike_changed start.next.list list.0 (look start) (look net) (look (after net (row.Give list m handler))) (had_by m) (had_mild m) (λ x t. t) u.here u.others h.alike;
        more = h.more;
      }

  pub goes_back : (start net : Net) (list : ListNo) (m : ModuleId) (status : ListStatus) → Goes start net → Goes start (after net (row.TurnBack list m status))
  goes_back start net list m status h =
      let u = look_back net list m status in
      record {
        begun = h.begun;
        now = record { good = had_good net (after net (row.TurnBack list m status)) list.0 m u h.now.good; statuses = up_changed list.0 (had_by m) net.things h.now.statuses };
        alike = alike_changed start.next.list list.0 (look start) (look net) (look (after net (row.TurnBack list m status))) (had_by m) (had_mild m) (λ x t. t) u.here u.others h.alike;
        more = h.more;
      }

  -- a list is home
  pub goes_home : (start net : Net) (list : ListNo) (owner : ModuleId) (status : ListStatus) → Goes start net → Goes start (after net (row.Home list owner status))
  goes_home start net list owner status h =
      let u = look_home net list owner status in
      record {
        begun = h.begun;
        now = record {
          good = good_gone order virtual net.next.list (look net) (look (after net (row.Home list owner status))) list.0 u.others h.now.good u.here;
          statuses = up_filter (λ t. not (is_list list.0 t)) net.things h.now.statuses;
        };
        alike = alike_gone start.next.list list.0 (look start) (look net) (look (after net (row.Home list owner status))) u.here u.others h.alike;
        more = h.more;
      }

  -- the next number is free
  pub next_free : (net : Net) (list : ListNo) → list.0 ≡ net.next.list → AreGood order virtual net.next.list (look net) → is_live list.0 (lists net.things) ≡ false
  next_free net list e h = by (look net list.0) refl
    where
      by : (o : Option LiveList) → look net list.0 ≡ o → is_live list.0 (lists net.things) ≡ false
      by None f = not_live list.0 (lists net.things) f
      by (Some x) f = absurd (omega (arith, e, h.below list.0 x f))

  -- a new list, which is no clone
  pub goes_issue : (start net : Net) (list : ListNo) (owner : ModuleId) (config : ConfigNo) (way_of : Direction) (cancel : Option ℕ) (origin : Origin) (frames : List (List ℕ)) → list.0 ≡ net.next.list → cloned_from origin ≡ None →
      (is_down way_of ≡ true → position order owner < length order + 1) → (is_down way_of ≡ false → 1 ≤ position order owner) → Goes start net → Goes start (after net (row.Issue list owner config way_of cancel origin frames))
  goes_issue start net list owner config way_of cancel origin frames e no_clone down up h =
      let next : Net = after net (row.Issue list owner config way_of cancel origin frames) in
      let new : LiveList = issued list owner way_of cancel origin frames in
      let u = look_issue net list owner config way_of cancel origin frames (next_free net list e h.now.good) in
      record {
        begun = h.begun;
        now = record {
          good = good_new order virtual net.next.list (look net) (look next) list.0 u.others h.now.good new e u.here record { down = down; up = up; stands = tt; crossed = λ t. cc } (λ m o. absurd (none_some (cloned_from origin) m no_clone o));
          statuses = up_append net.things (thing.List new ∷ []) h.now.statuses tt;
        };
        alike = alike_new start.next.list list.0 (look start) (look net) (look next) new (omega (arith, e, h.more)) no_clone u.here u.others h.alike;
        more = omega (arith, h.more);
      }
    where
      none_some : (o : Option ℕ) (m : ℕ) → o ≡ None → o ≡ Some m → ⊥
      none_some o m a b = cc

  same_goes : (start net next : Net) → next.next.list ≡ net.next.list → lists next.things ≡ lists net.things → AllGoUp next.things → Goes start net → Goes start next
  same_goes start net next e ls up h =
      let same : (m : ℕ) → look next m ≡ look net m = λ m. ap (list_of m) ls in
      record {
        begun = h.begun;
        now = record {
          good = subst (λ n. AreGood order virtual n (look next)) (sym e) (good_same order virtual net.next.list (look net) (look next) same h.now.good);
          statuses = up;
        };
        alike = alike_same start.next.list (look start) (look net) (look next) same h.alike;
        more = omega (arith, e, h.more);
      }

  -- rows that move no list
  pub goes_skip : (start net : Net) (r : Row) → is_skipped r ≡ true → Goes start net → Goes start (after net r)
  goes_skip start net (row.Wire list frames) q h = same_goes start net (after net (row.Wire list frames)) refl refl h.now.statuses h
  goes_skip start net (row.Deliver list binding how frames) q h = same_goes start net (after net (row.Deliver list binding how frames)) refl refl h.now.statuses h
  goes_skip start net (row.OidIssue request parent binding kind code value) q h = same_goes start net (after net (row.OidIssue request parent binding kind code value)) refl refl h.now.statuses h
  goes_skip start net (row.OidGive request m) q h = same_goes start net (after net (row.OidGive request m)) refl refl h.now.statuses h
  goes_skip start net (row.OidDone request status value) q h =
      same_goes start net (after net (row.OidDone request status value)) refl (lists-things_done (request_of request.0 net.requests) request status value net.things)
      (up_done (request_of request.0 net.requests) request status value net.things h.now.statuses) h
  goes_skip start net (row.Seen number m) q h =
      same_goes start net (after net (row.Seen number m)) refl (lists-without_status number.0 net.things) (up_filter (λ t. not (is_status number.0 t)) net.things h.now.statuses) h
  goes_skip start net (row.CrossOut message out.Up frames) q h = same_goes start net (after net (row.CrossOut message out.Up frames)) refl refl h.now.statuses h
  goes_skip start net (row.CrossIn stack message way frames) q h = same_goes start net (after net (row.CrossIn stack message way frames)) refl refl h.now.statuses h
  goes_skip start net (row.CrossOut message (out.Down list) frames) q h = cc
  goes_skip start net (row.Issue list owner config direction cancel origin frames) q h = cc
  goes_skip start net (row.Give list m handler) q h = cc
  goes_skip start net (row.Pass list way to) q h = cc
  goes_skip start net (row.Keep list m) q h = cc
  goes_skip start net (row.TurnBack list m status) q h = cc
  goes_skip start net (row.Home list owner status) q h = cc
  goes_skip start net (row.Status number name to) q h = cc
  goes_skip start net (row.Phase of) q h = cc
  goes_skip start net (row.Config config filters) q h = cc

  -- a status that goes up
  pub goes_status : (start net : Net) (number : StatusNo) (name : StatusName) (to : Target) → GoesUp to → Goes start net → Goes start (after net (row.Status number name to))
  goes_status start net number name to up h =
      same_goes start net (after net (row.Status number name to)) refl (lists-status number.0 net.things _ refl)
      (up_append (without_status number.0 net.things) (thing.Status (record { number = number; name = name; to = to }) ∷ []) (up_filter (λ t. not (is_status number.0 t)) net.things h.now.statuses) (up, tt)) h
