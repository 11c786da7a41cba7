-- Where lists go on and homewards they may stand, and so do new lists that go on.
use Rattle.std.proofs.Common.{◌≡◌, ℕ, ◌+◌, ◌-◌, ◌<◌, ◌≤◌, inl, inr, Bool, true, false, List, [], ◌∷◌, Option, Some, None, length, take, drop, reverse, refl, arith, ap, sym, subst, ◌∙◌}
use Rattle.ndis_base.specs.declared.ModuleId.{ModuleId}
use Rattle.ndis_base.specs.declared.ModuleId.TheVariants.{Miniport}
use Rattle.ndis_base.specs.declared.ListNo.{ListNo}
use Rattle.ndis_base.specs.declared.ListStatus.{ListStatus}
use Rattle.ndis_base.specs.declared.ConfigNo.{ConfigNo}
use Rattle.ndis_base.specs.declared.Direction.{Direction}
use Rattle.ndis_base.specs.declared.Direction.TheVariants as direction
use Rattle.ndis_base.specs.declared.Origin.{Origin}
use Rattle.journal_types.specs.declared.PassWay.TheVariants as way
use Rattle.journal_types.specs.declared.Target.TheVariants.{Module, Bindings}
use Rattle.journal_types.specs.declared.Row.TheVariants as row
use Rattle.stack_rules.specs.declared.LiveList.{LiveList}
use Rattle.stack_rules.specs.declared.Stand.TheVariants as stand
use Rattle.stack_rules.specs.Tests.{is_down}
use Rattle.stack_rules.specs.Net.{Net, Modules, after, after_rows}
use Rattle.stack_rules.specs.Places.{position}
use Rattle.stack_rules.specs.Targets.{has_send, has_receive, has_status, next_down, next_up, next_done, next_back, next_status, filters_above, onward, homeward, homeward_by, turned_back}
use Rattle.stack_rules.specs.Rewires.{is_in}
use Rattle.state_laws.specs.Shape.{IsDistinct}
use Rattle.pause_laws.proofs.Places.{found_or}
use Rattle.place_laws.specs.Kept.{GoesUp}
use Rattle.place_laws.proofs.Spots.{in_drop, in_take, in_reverse, drop_low, take_high, drop_take_low}
use Rattle.place_laws.proofs.Good.{StandsAt, cloned_from, IsUncloned, one_found, AreGood}
use Rattle.place_laws.proofs.Looks.{look, issued, look_issue}
use Rattle.place_laws.proofs.Rows.{IsAlike, Goes, goes_pass, goes_back, goes_issue, next_free, still_uncloned, was_start}

-- a status goes to a filter or to the bindings
pub status_up : (ms : Modules) (i : ℕ) → GoesUp (next_status ms i)
status_up ms i = found_or GoesUp (has_status ms) (reverse (filters_above ms i)) Bindings (λ f h x. refl) tt

-- a list that was live at the turn's begin, and had no clone
pub record IsFree (start : Net) (l : LiveList) : Type 0 where
  pub found : look start l.list.0 ≡ Some l
  pub free : IsUncloned (look start) l.list.0

module _ (ms : Modules) (virtual : Bool) (d : IsDistinct ms.order) where
  -- where lists go next
  pub down_stands : (i : ℕ) (owner : ModuleId) → position ms.order owner ≤ i → StandsAt ms.order true owner (stand.Passed way.Down (next_down ms i))
  down_stands i owner a =
      found_or (λ t. StandsAt ms.order true owner (stand.Passed way.Down t)) (has_send ms) (drop i ms.order) (Module Miniport)
      (λ f h x. (refl, record { there = in_drop f i ms.order x; sent = λ t. omega (arith, a, drop_low f i ms.order d x); risen = λ t. cc })) refl

  pub up_stands : (i : ℕ) (owner : ModuleId) → i ≤ position ms.order owner → StandsAt ms.order false owner (stand.Passed way.Up (next_up ms i))
  up_stands i owner a =
      found_or (λ t. StandsAt ms.order false owner (stand.Passed way.Up t)) (has_receive ms) (reverse (filters_above ms i)) Bindings
      (λ f h x.
      let first : is_in f (take (i - 1) ms.order) ≡ true = sym (in_reverse f (take (i - 1) ms.order)) ∙ x in
      (refl, record { there = in_take f (i - 1) ms.order first; sent = λ t. cc; risen = λ t. omega (arith, a, take_high f (i - 1) ms.order first) })) refl

  pub done_stands : (i : ℕ) (owner : ModuleId) (status : ListStatus) → StandsAt ms.order true owner (stand.Passed (way.Done status) (next_done ms i owner))
  done_stands i owner status =
      let fs : List ℕ = drop (position ms.order owner) (take (i - 1) ms.order) in
      found_or (λ t. StandsAt ms.order true owner (stand.Passed (way.Done status) t)) (has_send ms) (reverse fs) (Module owner)
      (λ f h x. (refl, inr (omega (arith, drop_take_low f (position ms.order owner) (i - 1) ms.order d (sym (in_reverse f fs) ∙ x))))) (refl, inl refl)

  pub back_stands : (i : ℕ) (owner : ModuleId) (status : ListStatus) → StandsAt ms.order false owner (stand.Passed (way.Back status) (next_back ms i owner))
  back_stands i owner status =
      let n : ℕ = position ms.order owner - 1 in
      found_or (λ t. StandsAt ms.order false owner (stand.Passed (way.Back status) t)) (has_receive ms) (drop i (take n ms.order)) (Module owner)
      (λ f h x. (refl, inr (omega (arith, take_high f n ms.order (in_drop f i (take n ms.order) x))))) (refl, inl refl)

  -- a list goes homewards
  pub go_home : (start net : Net) (list : ListNo) (owner : ModuleId) (way_of : Direction) (i : ℕ) (status : ListStatus) → IsUncloned (look net) list.0 → ((x : LiveList) → look net list.0 ≡ Some x → (x.owner ≡ owner) × (x.direction ≡ way_of)) → Goes ms.order virtual start net →
      Goes ms.order virtual start (after net (homeward_by ms list owner way_of i status))
  go_home start net list owner direction.Down i status free same h =
      goes_pass ms.order virtual start net list _ _ free
      (λ x f. let s = same x f in subst (λ o. StandsAt ms.order (is_down x.direction) o (stand.Passed (way.Done status) (next_done ms i owner))) (sym s.0)
      (subst (λ b. StandsAt ms.order b owner (stand.Passed (way.Done status) (next_done ms i owner))) (sym (ap is_down s.1)) (done_stands i owner status))) h
  go_home start net list owner direction.Up i status free same h =
      goes_pass ms.order virtual start net list _ _ free
      (λ x f. let s = same x f in subst (λ o. StandsAt ms.order (is_down x.direction) o (stand.Passed (way.Back status) (next_back ms i owner))) (sym s.0)
      (subst (λ b. StandsAt ms.order b owner (stand.Passed (way.Back status) (next_back ms i owner))) (sym (ap is_down s.1)) (back_stands i owner status))) h
  go_home start net list owner direction.Lent i status free same h =
      goes_pass ms.order virtual start net list _ _ free
      (λ x f. let s = same x f in subst (λ o. StandsAt ms.order (is_down x.direction) o (stand.Passed (way.Back status) (next_back ms i owner))) (sym s.0)
      (subst (λ b. StandsAt ms.order b owner (stand.Passed (way.Back status) (next_back ms i owner))) (sym (ap is_down s.1)) (back_stands i owner status))) h

  -- a list goes on from a position below its owner if it is a send, and above it if it is a receive
  pub go_on : (start net : Net) (list : ListNo) (owner : ModuleId) (way_of : Direction) (i : ℕ) → IsUncloned (look net) list.0 → ((x : LiveList) → look net list.0 ≡ Some x → (x.owner ≡ owner) × (x.direction ≡ way_of)) →
      (is_down way_of ≡ true → position ms.order owner ≤ i) → (is_down way_of ≡ false → i ≤ position ms.order owner) → Goes ms.order virtual start net → Goes ms.order virtual start (after net (onward ms list way_of i))
  go_on start net list owner direction.Down i free same down up h =
      goes_pass ms.order virtual start net list _ _ free
      (λ x f. let s = same x f in subst (λ o. StandsAt ms.order (is_down x.direction) o (stand.Passed way.Down (next_down ms i))) (sym s.0)
      (subst (λ b. StandsAt ms.order b owner (stand.Passed way.Down (next_down ms i))) (sym (ap is_down s.1)) (down_stands i owner (down refl)))) h
  go_on start net list owner direction.Up i free same down up h =
      goes_pass ms.order virtual start net list _ _ free
      (λ x f. let s = same x f in subst (λ o. StandsAt ms.order (is_down x.direction) o (stand.Passed way.Up (next_up ms i))) (sym s.0)
      (subst (λ b. StandsAt ms.order b owner (stand.Passed way.Up (next_up ms i))) (sym (ap is_down s.1)) (up_stands i owner (up refl)))) h
  go_on start net list owner direction.Lent i free same down up h =
      goes_pass ms.order virtual start net list _ _ free
      (λ x f. let s = same x f in subst (λ o. StandsAt ms.order (is_down x.direction) o (stand.Passed way.Up (next_up ms i))) (sym s.0)
      (subst (λ b. StandsAt ms.order b owner (stand.Passed way.Up (next_up ms i))) (sym (ap is_down s.1)) (up_stands i owner (up refl)))) h

  pub same_as : (start net : Net) (l : LiveList) → IsFree start l → Goes ms.order virtual start net → (x : LiveList) → look net l.list.0 ≡ Some x → (x.owner ≡ l.owner) × (x.direction ≡ l.direction)
  same_as start net l w h x f = let a : IsAlike x l = was_start ms.order virtual start net h l.list.0 l x w.found f in (a.owner, a.direction)

  pub home_from : (start net : Net) (l : LiveList) (i : ℕ) (status : ListStatus) → IsFree start l → Goes ms.order virtual start net → Goes ms.order virtual start (after net (homeward ms l i status))
  home_from start net l i status w h =
      go_home start net l.list l.owner l.direction i status (still_uncloned ms.order virtual start net h l.list.0 w.free) (same_as start net l w h) h

  pub back_from : (start net : Net) (l : LiveList) (m : ModuleId) (status : ListStatus) → IsFree start l → Goes ms.order virtual start net → Goes ms.order virtual start (after_rows net (turned_back ms l m status))
  back_from start net l m status w h =
      home_from start (after net (row.TurnBack l.list m status)) l (position ms.order m) status w (goes_back ms.order virtual start net l.list m status h)

  pub on_from : (start net : Net) (l : LiveList) (i : ℕ) → IsFree start l → (is_down l.direction ≡ true → position ms.order l.owner ≤ i) → (is_down l.direction ≡ false → i ≤ position ms.order l.owner) → Goes ms.order virtual start net → Goes ms.order virtual start (after net (onward ms l.list l.direction i))
  on_from start net l i w down up h =
      go_on start net l.list l.owner l.direction i (still_uncloned ms.order virtual start net h l.list.0 w.free) (same_as start net l w h) down up h

  -- the newest list has no clone
  pub newest_free : (net : Net) (list : ListNo) → AreGood ms.order virtual net.next.list (look net) → list.0 + 1 ≡ net.next.list → IsUncloned (look net) list.0
  newest_free net list h e k c f o = absurd (omega (arith, e, h.older k list.0 c f o, h.below k c f))

  -- a new list that is no clone goes on from its owner
  pub issue_on : (start net : Net) (list : ListNo) (owner : ModuleId) (config : ConfigNo) (way_of : Direction) (cancel : Option ℕ) (origin : Origin) (frames : List (List ℕ)) (i : ℕ) → list.0 ≡ net.next.list → cloned_from origin ≡ None → i ≡ position ms.order owner →
      (is_down way_of ≡ true → position ms.order owner < length ms.order + 1) → (is_down way_of ≡ false → 1 ≤ position ms.order owner) → Goes ms.order virtual start net → Goes ms.order virtual start (after_rows net (row.Issue list owner config way_of cancel origin frames ∷ onward ms list way_of i ∷ []))
  issue_on start net list owner config way_of cancel origin frames i e no_clone at down up h =
      let next : Net = after net (row.Issue list owner config way_of cancel origin frames) in
      let now : Goes ms.order virtual start next = goes_issue ms.order virtual start net list owner config way_of cancel origin frames e no_clone down up h in
      let u = look_issue net list owner config way_of cancel origin frames (next_free ms.order virtual net list e h.now.good) in
      go_on start next list owner way_of i (newest_free next list now.now.good (omega (arith, e)))
      (λ x f. let is : issued list owner way_of cancel origin frames ≡ x = one_found (look next list.0) (issued list owner way_of cancel origin frames) x u.here f in
      (ap (λ (y : LiveList). y.owner) (sym is), ap (λ (y : LiveList). y.direction) (sym is)))
      (λ t. omega (arith, at)) (λ t. omega (arith, at)) now
