-- A list at a filter: it is passed on, kept or turned back, or kept while a clone goes on.
use Rattle.std.proofs.Common.{◌≡◌, ℕ, ◌+◌, ◌<◌, ◌==◌, ◌&&◌, inr, Bool, true, false, cond, List, [], ◌∷◌, Option, Some, None, option_map, refl, arith, ap, sym, subst, ◌∙◌}
use Rattle.std.proofs.lemmas.Bool.Decides.{nat_tests}
use Rattle.ndis_base.specs.declared.ModuleId.{ModuleId}
use Rattle.ndis_base.specs.declared.ModuleId.TheVariants.{Filter}
use Rattle.ndis_base.specs.declared.ListNo.{ListNo}
use Rattle.ndis_base.specs.declared.ListStatus.TheVariants.{Resources, Dropped}
use Rattle.ndis_base.specs.declared.Origin.TheVariants as origin
use Rattle.journal_types.specs.declared.Row.{Row}
use Rattle.journal_types.specs.declared.Row.TheVariants as row
use Rattle.stack_rules.specs.declared.LiveList.{LiveList}
use Rattle.stack_rules.specs.declared.Attached.{Attached}
use Rattle.stack_rules.specs.declared.Thing.TheVariants as thing
use Rattle.stack_rules.specs.Tests.{is_down, is_hold, is_virtual, same_frames}
use Rattle.stack_rules.specs.Net.{Net, after, after_rows}
use Rattle.stack_rules.specs.Places.{position, is_crossed, is_full}
use Rattle.stack_rules.specs.Outcome.{list_no, config_no}
use Rattle.stack_rules.specs.Handled.{stays, changes, cloned, handled_as, made_of, filter_rows, given_by}
use Rattle.state_laws.proofs.Rows.{by_test}
use Rattle.place_laws.proofs.Spots.{in_above}
use Rattle.place_laws.proofs.Good.{IsPast, cloned_from, IsUncloned, by_number, some_same, one_found, IsMild, IsWell, IsFrom, AreGood, changed_is, good_changed, good_new}
use Rattle.place_laws.proofs.Looks.{look, keeping, issued, look_keep, look_issue}
use Rattle.place_laws.proofs.Statuses.{up_append, up_kept}
use Rattle.place_laws.proofs.Rows.{keeping_mild, IsGood, goes_start, goes_give, goes_keep, next_free, still_uncloned, was_start}
use Rattle.place_laws.proofs.Routes.{IsFree, go_on, back_from, on_from, same_as, newest_free}
use Rattle.place_laws.proofs.Keepers.{Good, Going, Facts}

-- what rows leave
abbrev pub Leaves : Net → List Row → Type 0
Leaves net rows = Good net (after_rows net rows)

-- a list that a filter may have, and that is with no other stack
pub record MayHave (net : Net) (f : ℕ) (l : LiveList) : Type 0 where
  pub free : IsFree net l
  pub apart : is_crossed l.crossed ≡ false
  pub past : IsPast net.modules.order (is_down l.direction) l.owner f

past_same : (order : List ℕ) (f : ℕ) (x l : LiveList) → x.owner ≡ l.owner → x.direction ≡ l.direction → IsPast order (is_down l.direction) l.owner f → IsPast order (is_down x.direction) x.owner f
past_same order f x l a b h =
    subst (λ o. IsPast order (is_down x.direction) o f) (sym a) (subst (λ w. IsPast order (is_down w) l.owner f) (sym b) h)

not_true : (b c : Bool) → (b ≡ true → c ≡ true) → c ≡ false → b ≡ false
not_true true c h e = absurd (cc (h refl))
not_true false c h e = refl

-- a list that was with no other stack isn't later in the turn
pub still_apart : (net next : Net) (l x : LiveList) → Going net next → look net l.list.0 ≡ Some l → look next l.list.0 ≡ Some x → is_crossed l.crossed ≡ false → is_crossed x.crossed ≡ false
still_apart net next l x h f g e =
    not_true (is_crossed x.crossed) (is_crossed l.crossed) (was_start net.modules.order (is_virtual net.head.kind) net next h l.list.0 l x f g).crossed e

-- a filter keeps a list
pub filter_keeps : (net next : Net) → Facts net → (f : ℕ) (l : LiveList) → MayHave net f l → Going net next → Going net (after next (row.Keep l.list (Filter f)))
filter_keeps net next facts f l m h =
    goes_keep net.modules.order (is_virtual net.head.kind) net next l.list (Filter f) (still_uncloned net.modules.order (is_virtual net.head.kind) net next h l.list.0 m.free.free)
    (λ x e. let a = same_as net.modules (is_virtual net.head.kind) facts.distinct net next l m.free h x e in (past_same net.modules.order f x l a.0 a.1 m.past, still_apart net next l x h m.free.found e m.apart)) h

less_apart : (k n : ℕ) → k < n → (n == k) ≡ false
less_apart k n a = grind (arith, nat_tests)

more_apart : (k n : ℕ) → k < n → (k == n) ≡ false
more_apart k n a = grind (arith, nat_tests)

-- a list without clones is changed, and its first clone comes
cloned_good : (order : List ℕ) (virtual : Bool) (next : ℕ) (find later : ℕ → Option LiveList) (n k : ℕ) (g : LiveList → LiveList) (new : LiveList) → IsMild g → AreGood order virtual next find → n ≡ next → k < n → IsUncloned find k →
    later n ≡ Some new → later k ≡ option_map g (find k) → ((m : ℕ) → (n == m) ≡ false → (k == m) ≡ false → later m ≡ find m) → ((x : LiveList) → find k ≡ Some x → IsWell order virtual (g x) × IsFrom order virtual new (g x)) → IsWell order virtual new → cloned_from new.origin ≡ Some k →
    AreGood order virtual (next + 1) later
cloned_good order virtual next find later n k g new mild h number small free here there others may well made =
    let between : ℕ → Option LiveList = λ m. cond (k == m) (option_map g (find k)) (find m) in
    let between_other : (m : ℕ) → (k == m) ≡ false → between m ≡ find m = λ m t. rw t refl in
    let at_k : (k == k) ≡ true = grind (arith, nat_tests) in
    let between_here : between k ≡ option_map g (find k) = rw at_k refl in
    let now : AreGood order virtual next between =
    good_changed order virtual next find between k between_other h g mild between_here (λ x e. (may x e).0) (λ x e. inr free) in
    let between_free : IsUncloned between k = λ i c e o. by_number k i ⊥
    (λ t. free i c (sym (between_other i t) ∙ e) o)
    (λ same. let c_is = changed_is g (find k) c (sym between_here ∙ ap between same ∙ e) in
    free k c_is.0 c_is.1 (sym (ap cloned_from (mild.origin c_is.0)) ∙ ap (λ (z : LiveList). cloned_from z.origin) (sym c_is.2) ∙ o)) in
    good_new order virtual next between later n
    (λ m t. by_number k m (later m ≡ between m) (λ u. others m t u ∙ sym (between_other m u)) (λ same. subst (λ i. later i ≡ between i) same (there ∙ sym between_here)))
    now new number here well
    (λ m o.
    let is : k ≡ m = some_same k m (sym made ∙ o) in
    subst (λ i. (i < n) × IsUncloned between i × ((l : LiveList) → between i ≡ Some l → IsFrom order virtual new l)) is
    (small, between_free, λ l e. let c_is = changed_is g (find k) l (sym between_here ∙ e) in subst (IsFrom order virtual new) (sym c_is.2) (may c_is.0 c_is.1).1))

-- the filter keeps the list, and a clone goes on
cloned_leaves : (net first : Net) → Facts net → (a : Attached) (l : LiveList) (frames : List (List ℕ)) → first.next.list ≡ net.next.list → MayHave net a.filter l → Going net first → Good net (after_rows first (cloned net a l frames))
cloned_leaves net first facts a l frames e m h =
    let order : List ℕ = net.modules.order in
    let virtual : Bool = is_virtual net.head.kind in
    let f : ModuleId = Filter a.filter in
    let n : ListNo = list_no net.next.list in
    let new : LiveList = issued n f l.direction l.cancel (origin.Clone l.list) frames in
    let second : Net = after first (row.Issue n f (config_no net.modules.config) l.direction l.cancel (origin.Clone l.list) frames) in
    let third : Net = after second (row.Keep l.list f) in
    let small : l.list.0 < net.next.list = facts.good.good.below l.list.0 l m.free.found in
    let other : (n.0 == l.list.0) ≡ false = less_apart l.list.0 net.next.list small in
    let apart : (l.list.0 == n.0) ≡ false = more_apart l.list.0 net.next.list small in
    let u = look_issue first n f (config_no net.modules.config) l.direction l.cancel (origin.Clone l.list) frames (next_free order virtual first n (sym e) h.now.good) in
    let v = look_keep second l.list f in
    let here : look third n.0 ≡ Some new = v.others n.0 apart ∙ u.here in
    let there : look third l.list.0 ≡ option_map (keeping f) (look first l.list.0) = v.here ∙ ap (option_map (keeping f)) (u.others l.list.0 other) in
    let past : IsPast order (is_down l.direction) l.owner a.filter = m.past in
    let good : AreGood order virtual (first.next.list + 1) (look third) =
    cloned_good order virtual first.next.list (look first) (look third) n.0 l.list.0 (keeping f) new (keeping_mild f) h.now.good (sym e) small (still_uncloned order virtual net first h l.list.0 m.free.free) here there
    (λ i s t. v.others i t ∙ u.others i s)
    (λ x g.
    let same = same_as net.modules virtual facts.distinct net first l m.free h x g in
    let was : IsWell order virtual x = h.now.good.well l.list.0 x g in
    let not_crossed : is_crossed x.crossed ≡ false = still_apart net first l x h m.free.found g m.apart in (
      record { down = was.down; up = was.up; stands = past_same order a.filter x l same.0 same.1 past; crossed = λ t. absurd (cc (sym t ∙ not_crossed)) },
      record {
        kept = refl;
        filter = (a.filter, refl);
        same = ap is_down same.1;
        down = λ t. subst (λ o. position order o < position order f) (sym same.0) (past.sent t);
        up = λ t. subst (λ o. position order f < position order o) (sym same.0) (past.risen t);
      },
    ))
    record { down = λ t. omega (arith, in_above a.filter order past.there); up = λ t. omega arith; stands = tt; crossed = λ t. cc } refl in
    let now : IsGood order virtual third = record { good = good; statuses = up_kept l.list.0 f second.things (up_append first.things (thing.List new ∷ []) h.now.statuses tt) } in
    (go_on net.modules virtual facts.distinct third third n f l.direction (position order f) (newest_free net.modules virtual facts.distinct third n good (omega (arith, e)))
    (λ x g. let is : new ≡ x = one_found (look third n.0) new x here g in (ap (λ (y : LiveList). y.owner) (sym is), ap (λ (y : LiveList). y.direction) (sym is)))
    (λ t. omega arith) (λ t. omega arith) (goes_start order virtual third now)).now

-- frames that stay
stays_leaves : (net first : Net) → Facts net → (a : Attached) (l : LiveList) (keeps : Bool) → MayHave net a.filter l → Going net first → Good net (after_rows first (stays net a l keeps))
stays_leaves net first facts a l keeps m h =
    let past : IsPast net.modules.order (is_down l.direction) l.owner a.filter = m.past in
    by_test (λ rows. Good net (after_rows first rows)) (keeps && is_hold a.kind) _ _
    (λ _. (filter_keeps net first facts a.filter l m h).now)
    (λ _. (on_from net.modules (is_virtual net.head.kind) facts.distinct net first l (position net.modules.order (Filter a.filter)) m.free (λ t. omega (arith, past.sent t)) (λ t. omega (arith, past.risen t)) h).now)

changes_leaves : (net first : Net) → Facts net → (a : Attached) (l : LiveList) (frames : List (List ℕ)) → first.next.list ≡ net.next.list → MayHave net a.filter l → Going net first → Good net (after_rows first (changes net a l frames))
changes_leaves net first facts a l frames e m h =
    by_test (λ rows. Good net (after_rows first rows)) (is_full net (Filter a.filter)) _ _
    (λ _. (back_from net.modules (is_virtual net.head.kind) facts.distinct net first l (Filter a.filter) Resources m.free h).now)
    (λ _. cloned_leaves net first facts a l frames e m h)

handled_leaves : (net first : Net) → Facts net → (a : Attached) (l : LiveList) (keeps : Bool) (made : Option (List (List ℕ))) → first.next.list ≡ net.next.list → MayHave net a.filter l → Going net first → Good net (after_rows first (handled_as net a l keeps made))
handled_leaves net first facts a l keeps None e m h = (back_from net.modules (is_virtual net.head.kind) facts.distinct net first l (Filter a.filter) Dropped m.free h).now
handled_leaves net first facts a l keeps (Some frames) e m h =
    by_test (λ rows. Good net (after_rows first rows)) (same_frames frames l.frames) _ _
    (λ _. stays_leaves net first facts a l keeps m h)
    (λ _. changes_leaves net first facts a l frames e m h)

pub filter_leaves : (net : Net) → Facts net → (a : Attached) (l : LiveList) (keeps : Bool) → MayHave net a.filter l → Leaves net (filter_rows net a l keeps)
filter_leaves net facts a l keeps m =
    handled_leaves net (after net (row.Give l.list (Filter a.filter) (given_by l.direction))) facts a l keeps (made_of net a l) refl m
    (goes_give net.modules.order (is_virtual net.head.kind) net net l.list (Filter a.filter) (given_by l.direction) (goes_start net.modules.order (is_virtual net.head.kind) net facts.good))
