-- Lists go on and homewards from the module that had them last.
use Rattle.std.proofs.Common.{◌≡◌, ℕ, ◌+◌, ◌-◌, ◌<◌, ◌≤◌, ◌&&◌, inl, inr, Bool, true, false, List, [], ◌∷◌, Option, Some, length, take, drop, reverse, refl, arith, ap, sym, subst, ◌∙◌}
use Rattle.ndis_base.specs.declared.ModuleId.{ModuleId}
use Rattle.ndis_base.specs.declared.ModuleId.TheVariants.{Miniport, Filter, Binding}
use Rattle.ndis_base.specs.declared.ListNo.{ListNo}
use Rattle.ndis_base.specs.declared.ListStatus.{ListStatus}
use Rattle.ndis_base.specs.declared.ConfigNo.{ConfigNo}
use Rattle.ndis_base.specs.declared.Direction.{Direction}
use Rattle.ndis_base.specs.declared.Direction.TheVariants as direction
use Rattle.ndis_base.specs.declared.Origin.{Origin}
use Rattle.journal_types.specs.declared.PassWay.TheVariants as way
use Rattle.journal_types.specs.declared.Target.TheVariants.{Module, Bindings}
use Rattle.journal_types.specs.declared.Row.TheVariants as row
use Rattle.stack_rules.specs.declared.LiveList.{LiveList}
use Rattle.stack_rules.specs.declared.Stand.TheVariants as stand
use Rattle.stack_rules.specs.Tests.{is_down}
use Rattle.stack_rules.specs.Net.{Net, Modules, after, after_rows}
use Rattle.stack_rules.specs.Places.{position}
use Rattle.stack_rules.specs.Targets.{has_send, has_receive, next_down, next_up, next_done, next_back, onward, homeward, homeward_by, turned_back}
use Rattle.stack_rules.specs.Rewires.{is_in}
use Rattle.state_laws.specs.Shape.{IsDistinct}
use Rattle.state_laws.specs.Laws.{IsThere}
use Rattle.pause_laws.proofs.Places.{found_or}
use Rattle.place_laws.proofs.Spots.{in_drop, in_take, in_reverse, in_above, take_high, drop_low, drop_take_low}
use Rattle.place_laws.proofs.Good.{one_found}
use Rattle.place_laws.proofs.Looks.{look, issued}
use Rattle.outstanding_laws.specs.Outstanding.{passes_sends, passes_receives}
use Rattle.outstanding_laws.proofs.Rows.{May, GoesDown, GoesBack, Fits, All, IsSame, Goes, Has, has_again, has_back, has_known, pass_held, back_good, issue_good, look_new}

and_both : (a b : Bool) → a ≡ true → b ≡ true → (a && b) ≡ true
and_both a b h k = cc

pub and_first : (a b : Bool) → (a && b) ≡ true → a ≡ true
and_first true b h = refl
and_first false b h = cc

pub and_second : (a b : Bool) → (a && b) ≡ true → b ≡ true
and_second true b h = h
and_second false b h = cc

-- a module that passes receives is below the bindings
pub passer_low : (ms : Modules) (m : ModuleId) → passes_receives ms m ≡ true → 1 ≤ position ms.order m
passer_low ms Miniport h = omega arith
passer_low ms (Filter f) h = omega arith
passer_low ms (Binding b) h = absurd (cc)

-- a list of an owner and a direction that is found under a number
abbrev pub IsOf : Net → ListNo → ModuleId → Direction → Type 0
IsOf net list owner way_of = (x : LiveList) → look net list.0 ≡ Some x → (x.owner ≡ owner) × (x.direction ≡ way_of)

module _ (ms : Modules) (start : Net) (begun : All (λ k x. k < start.next.list) start) (d : IsDistinct ms.order) where
  -- the module that a send goes down to passes sends, and is below where it comes from
  pub down_fits : (i : ℕ) (owner : ModuleId) → position ms.order owner ≤ i → i < length ms.order + 1 → GoesDown ms owner (next_down ms i)
  down_fits i owner a b =
      found_or (GoesDown ms owner) (has_send ms) (drop i ms.order) (Module Miniport)
      (λ f h x. (and_both (is_in f ms.order) (has_send ms f) (in_drop f i ms.order x) h, omega (arith, a, drop_low f i ms.order d x)))
      (refl, omega (arith, a, b))

  -- the module that a done send goes to passes sends, and is below the owner, or is the owner
  pub record IsDoneTo (owner m : ModuleId) : Type 0 where
    pub passes : passes_sends ms m ≡ true
    pub below : position ms.order owner < position ms.order m

  pub done_to : (i : ℕ) (owner m : ModuleId) → Module m ≡ next_done ms i owner → (m ≡ owner → ⊥) → IsDoneTo owner m
  done_to i owner m e other =
      let fs : List ℕ = drop (position ms.order owner) (take (i - 1) ms.order) in
      found_or (λ t. Module m ≡ t → IsDoneTo owner m) (has_send ms) (reverse fs) (Module owner)
      (λ f h x same.
      let is : Filter f ≡ m = sym (one_module m (Filter f) same) in
      let inside : is_in f fs ≡ true = sym (in_reverse f fs) ∙ x in
      subst (IsDoneTo owner) is record {
        passes = and_both (is_in f ms.order) (has_send ms f) (in_take f (i - 1) ms.order (in_drop f (position ms.order owner) (take (i - 1) ms.order) inside)) h;
        below = omega (arith, drop_take_low f (position ms.order owner) (i - 1) ms.order d inside);
      })
      (λ same. absurd (other (one_module m owner same))) e
    where
      one_module : (a b : ModuleId) → Module a ≡ Module b → a ≡ b
      one_module a b e = cc

  -- the filter that a receive goes up to passes receives, and is above where it comes from
  pub record IsUpTo (i f : ℕ) : Type 0 where
    pub passes : passes_receives ms (Filter f) ≡ true
    pub above : position ms.order (Filter f) < i

  pub up_to : (i f : ℕ) → Module (Filter f) ≡ next_up ms i → IsUpTo i f
  up_to i f e =
      let fs : List ℕ = take (i - 1) ms.order in
      found_or (λ t. Module (Filter f) ≡ t → IsUpTo i f) (has_receive ms) (reverse fs) Bindings
      (λ g h x same.
      let is : g ≡ f = one_filter f g same in
      let first : is_in g fs ≡ true = sym (in_reverse g fs) ∙ x in
      subst (IsUpTo i) is record { passes = and_both (is_in g ms.order) (has_receive ms g) (in_take g (i - 1) ms.order first) h; above = omega (arith, take_high g (i - 1) ms.order first) })
      (λ same. absurd (cc)) e
    where
      one_filter : (a b : ℕ) → Module (Filter a) ≡ Module (Filter b) → b ≡ a
      one_filter a b e = cc

  -- from wherever a receive goes back, it goes to its owner or to a filter that passes receives
  back_to : (i : ℕ) (owner : ModuleId) → GoesBack ms owner (next_back ms i owner)
  back_to i owner =
      let fs : List ℕ = take (position ms.order owner - 1) ms.order in
      found_or (GoesBack ms owner) (has_receive ms) (drop i fs) (Module owner)
      (λ f h x. inr (f, refl, and_both (is_in f ms.order) (has_receive ms f) (in_take f (position ms.order owner - 1) ms.order (in_drop f i fs x)) h))
      (inl refl)

  back_fits : (net : Net) (list : ListNo) (owner : ModuleId) (way_of : Direction) (i : ℕ) → is_down way_of ≡ false → IsOf net list owner way_of → (x : LiveList) → look net list.0 ≡ Some x → (is_down x.direction ≡ false) × GoesBack ms x.owner (next_back ms i owner)
  back_fits net list owner way_of i up is x f = let s = is x f in (ap is_down s.1 ∙ up, subst (λ o. GoesBack ms o (next_back ms i owner)) (sym s.0) (back_to i owner))

  -- a list in a module's hand goes homewards
  pub go_home : (net : Net) (list : ListNo) (owner : ModuleId) (way_of : Direction) (m : ModuleId) (i : ℕ) (status : ListStatus) → i ≡ position ms.order m → IsOf net list owner way_of → May ms (is_down way_of) owner m → Has ms start begun list.0 m net → Goes ms start begun (after net (homeward_by ms list owner way_of i status))
  go_home net list owner direction.Down m i status e is may h =
      pass_held ms start begun net list m (way.Done status) (next_done ms i owner)
      (λ x f. let s = is x f in let p = may.sent refl in subst (λ o. Fits ms (is_down x.direction) o m (stand.Passed (way.Done status) (next_done ms i owner))) (sym s.0) (ap is_down s.1, (p.0, (ap (λ n. next_done ms n owner) e, p.1)))) h
  go_home net list owner direction.Up m i status e is may h =
      pass_held ms start begun net list m (way.Back status) _ (back_fits net list owner direction.Up i refl is) h
  go_home net list owner direction.Lent m i status e is may h =
      pass_held ms start begun net list m (way.Back status) _ (back_fits net list owner direction.Lent i refl is) h

  -- a receive goes homewards from wherever it is
  pub go_back : (net : Net) (list : ListNo) (owner : ModuleId) (way_of : Direction) (i : ℕ) (status : ListStatus) → is_down way_of ≡ false → IsOf net list owner way_of → Goes ms start begun net → Goes ms start begun (after net (homeward_by ms list owner way_of i status))
  go_back net list owner direction.Down i status up is h = absurd (cc)
  go_back net list owner direction.Up i status up is h = back_good ms start begun net list status _ (back_fits net list owner direction.Up i refl is) h
  go_back net list owner direction.Lent i status up is h = back_good ms start begun net list status _ (back_fits net list owner direction.Lent i refl is) h

  -- a receive in a module's hand goes on
  up_on : (net : Net) (list : ListNo) (owner m : ModuleId) (i : ℕ) → i ≡ position ms.order m → ((x : LiveList) → look net list.0 ≡ Some x → (x.owner ≡ owner) × (is_down x.direction ≡ false)) → (passes_receives ms m ≡ true) × (i ≤ position ms.order owner) → Has ms start begun list.0 m net →
      Goes ms start begun (after net (row.Pass list way.Up (next_up ms i)))
  up_on net list owner m i e is up h =
      pass_held ms start begun net list m way.Up (next_up ms i)
      (λ x f. let s = is x f in (s.1, (up.0, (ap (next_up ms) e, omega (arith, up.1, e, ap (position ms.order) s.0))))) h

  -- a list in a module's hand goes on
  pub go_on : (net : Net) (list : ListNo) (owner : ModuleId) (way_of : Direction) (m : ModuleId) (i : ℕ) → i ≡ position ms.order m → IsOf net list owner way_of → (is_down way_of ≡ true → (position ms.order owner ≤ i) × (i < length ms.order + 1)) → (is_down way_of ≡ false → (passes_receives ms m ≡ true) × (i ≤ position ms.order owner)) →
      Has ms start begun list.0 m net → Goes ms start begun (after net (onward ms list way_of i))
  go_on net list owner direction.Down m i e is down up h =
      pass_held ms start begun net list m way.Down (next_down ms i)
      (λ x f. let s = is x f in let p = down refl in (ap is_down s.1, subst (λ o. GoesDown ms o (next_down ms i)) (sym s.0) (down_fits i owner p.0 p.1))) h
  go_on net list owner direction.Up m i e is down up h = up_on net list owner m i e (λ x f. ((is x f).0, ap is_down (is x f).1)) (up refl) h
  go_on net list owner direction.Lent m i e is down up h = up_on net list owner m i e (λ x f. ((is x f).0, ap is_down (is x f).1)) (up refl) h

  -- a list that was live at the turn's begin
  pub same_as : (net : Net) (l : LiveList) → look start l.list.0 ≡ Some l → ((k : ℕ) (x : LiveList) → look net k ≡ Some x → IsSame ms start begun k x) → IsOf net l.list l.owner l.direction
  same_as net l e all x f = let s : IsSame ms start begun l.list.0 x = all l.list.0 x f in (s.owner l e, s.direction l e)

  pub good_as : (net : Net) (l : LiveList) → look start l.list.0 ≡ Some l → Goes ms start begun net → IsOf net l.list l.owner l.direction
  good_as net l e h = same_as net l e (λ k x f. (h.all k x f).same)

  pub held_as : (net : Net) (n : ℕ) (m : ModuleId) (l : LiveList) → look start l.list.0 ≡ Some l → Has ms start begun n m net → IsOf net l.list l.owner l.direction
  held_as net n m l e h = same_as net l e (λ k x f. (h.all k x f).same)

  abbrev pub MayList : LiveList → ModuleId → Type 0
  MayList l m = May ms (is_down l.direction) l.owner m

  pub home_from : (net : Net) (l : LiveList) (m : ModuleId) (status : ListStatus) → look start l.list.0 ≡ Some l → MayList l m → Has ms start begun l.list.0 m net → Goes ms start begun (after net (homeward ms l (position ms.order m) status))
  home_from net l m status e may h = go_home net l.list l.owner l.direction m (position ms.order m) status refl (held_as net l.list.0 m l e h) may h

  pub back_from : (net : Net) (l : LiveList) (m : ModuleId) (status : ListStatus) → look start l.list.0 ≡ Some l → MayList l m → Goes ms start begun net → Goes ms start begun (after_rows net (turned_back ms l m status))
  back_from net l m status e may h = home_from (after net (row.TurnBack l.list m status)) l m status e may (has_back ms start begun net l.list m status h)

  pub back_again : (net : Net) (l : LiveList) (m : ModuleId) (status : ListStatus) → look start l.list.0 ≡ Some l → MayList l m → Has ms start begun l.list.0 m net → Goes ms start begun (after_rows net (turned_back ms l m status))
  back_again net l m status e may h = home_from (after net (row.TurnBack l.list m status)) l m status e may (has_again ms start begun net l.list m m status h)

  -- a receive that isn't given to the module that turns it back
  pub home_up : (net : Net) (l : LiveList) (m : ModuleId) (i : ℕ) (status : ListStatus) → look start l.list.0 ≡ Some l → is_down l.direction ≡ false → Has ms start begun l.list.0 m net → Goes ms start begun (after net (homeward ms l i status))
  home_up net l m i status e up h = by l.direction refl up
    where
      by : (w : Direction) → l.direction ≡ w → is_down w ≡ false → Goes ms start begun (after net (homeward_by ms l.list l.owner w i status))
      by direction.Down q u = absurd (cc)
      by direction.Up q u = pass_held ms start begun net l.list m (way.Back status) _ (back_fits net l.list l.owner l.direction i up (held_as net l.list.0 m l e h)) h
      by direction.Lent q u = pass_held ms start begun net l.list m (way.Back status) _ (back_fits net l.list l.owner l.direction i up (held_as net l.list.0 m l e h)) h

  pub back_up : (net : Net) (l : LiveList) (m : ModuleId) (status : ListStatus) → look start l.list.0 ≡ Some l → is_down l.direction ≡ false → Goes ms start begun net → Goes ms start begun (after_rows net (turned_back ms l m status))
  back_up net l m status e up h = home_up (after net (row.TurnBack l.list m status)) l m (position ms.order m) status e up (has_back ms start begun net l.list m status h)

  -- a filter of the order is above the miniport
  pub filter_most : (f : ℕ) → is_in f ms.order ≡ true → position ms.order (Filter f) < length ms.order + 1
  filter_most f i = omega (arith, in_above f ms.order i)

  -- a list goes on from a filter
  pub on_from : (net : Net) (l : LiveList) (f : ℕ) → look start l.list.0 ≡ Some l → MayList l (Filter f) → Has ms start begun l.list.0 (Filter f) net → Goes ms start begun (after net (onward ms l.list l.direction (position ms.order (Filter f))))
  on_from net l f e may h =
      go_on net l.list l.owner l.direction (Filter f) (position ms.order (Filter f)) refl (held_as net l.list.0 (Filter f) l e h)
      (λ t. let p = may.sent t in (omega (arith, p.1), filter_most f (and_first (is_in f ms.order) (has_send ms f) p.0))) (λ t. let p = may.risen t in (p.0, omega (arith, p.1))) h

  -- a new list goes on from its owner
  pub issue_on : (net : Net) (list : ListNo) (owner : ModuleId) (config : ConfigNo) (way_of : Direction) (cancel : Option ℕ) (origin : Origin) (frames : List (List ℕ)) (i : ℕ) → list.0 ≡ net.next.list → IsThere start owner → i ≡ position ms.order owner →
      (is_down way_of ≡ true → position ms.order owner < length ms.order + 1) → (is_down way_of ≡ false → passes_receives ms owner ≡ true) → Goes ms start begun net → Goes ms start begun (after_rows net (row.Issue list owner config way_of cancel origin frames ∷ onward ms list way_of i ∷ []))
  issue_on net list owner config way_of cancel origin frames i e there at down up h =
      let next : Net = after net (row.Issue list owner config way_of cancel origin frames) in
      let new : LiveList = issued list owner way_of cancel origin frames in
      let here : look next list.0 ≡ Some new = look_new ms start begun net list owner config way_of cancel origin frames e h.below in
      let is : (x : LiveList) → look next list.0 ≡ Some x → new ≡ x = λ x f. one_found (look next list.0) new x here f in
      go_on next list owner way_of owner i at
      (λ x f. (ap (λ (y : LiveList). y.owner) (sym (is x f)), ap (λ (y : LiveList). y.direction) (sym (is x f))))
      (λ t. (omega (arith, at), omega (arith, at, down t))) (λ t. (up t, omega (arith, at)))
      (has_known ms start begun next list.0 owner (λ x f. ap (λ (y : LiveList). y.last) (sym (is x f))) (issue_good ms start begun net list owner config way_of cancel origin frames e there h))
