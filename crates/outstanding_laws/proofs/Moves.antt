-- A list at a filter, at the miniport, at the bindings and on its way home.
use Rattle.std.proofs.Common.{◌≡◌, ℕ, ◌+◌, ◌<◌, ◌≤◌, ◌==◌, ◌&&◌, ◌⊎◌, inl, inr, Bool, true, false, List, [], ◌∷◌, ◌++◌, Option, Some, None, nat_lt, not, length, count_by, refl, arith, ap, sym, subst, ◌∙◌}
use Rattle.std.proofs.lemmas.Bool.Decides.{nat_tests}
use Rattle.std.proofs.lemmas.List.{get_or_past}
use Rattle.ndis_base.specs.declared.ModuleId.{ModuleId}
use Rattle.ndis_base.specs.declared.ModuleId.TheVariants.{Miniport, Filter, Binding}
use Rattle.ndis_base.specs.declared.ListNo.{ListNo}
use Rattle.ndis_base.specs.declared.ListStatus.{ListStatus}
use Rattle.ndis_base.specs.declared.ListStatus.TheVariants.{Success, Paused, Resources, Dropped}
use Rattle.ndis_base.specs.declared.Direction.TheVariants as direction
use Rattle.ndis_base.specs.declared.Origin.{Origin}
use Rattle.ndis_base.specs.declared.Origin.TheVariants as origin
use Rattle.ndis_base.specs.declared.ProtocolKind.{ProtocolKind}
use Rattle.ndis_base.specs.declared.ProtocolKind.TheVariants as protocol_kind
use Rattle.journal_types.specs.declared.Handler.{Handler}
use Rattle.journal_types.specs.declared.Handler.TheVariants as handler
use Rattle.journal_types.specs.declared.PassWay.TheVariants as way
use Rattle.journal_types.specs.declared.How.{How}
use Rattle.journal_types.specs.declared.How.TheVariants as how
use Rattle.journal_types.specs.declared.Row.{Row}
use Rattle.journal_types.specs.declared.Row.TheVariants as row
use Rattle.journal_types.specs.declared.Target.TheVariants.{Module, Bindings}
use Rattle.stack_rules.specs.declared.LiveList.{LiveList}
use Rattle.stack_rules.specs.declared.Attached.{Attached}
use Rattle.stack_rules.specs.declared.Stand.{Stand}
use Rattle.stack_rules.specs.declared.Stand.TheVariants as stand
use Rattle.stack_rules.specs.Tests.{is_down, is_hold, is_running, is_retain, is_echo, phase_is_running, same_frames, same_module}
use Rattle.stack_rules.specs.Heads.{kind_of_binding}
use Rattle.stack_rules.specs.Net.{Net, after, after_rows, attached, lists, list_of}
use Rattle.stack_rules.specs.Places.{position, is_crossed, is_full, owned, pool_of}
use Rattle.stack_rules.specs.Targets.{has_send, has_receive, onward, homeward, turned_back}
use Rattle.stack_rules.specs.Rewires.{is_in}
use Rattle.stack_rules.specs.Outcome.{list_no, config_no, root}
use Rattle.stack_rules.specs.Handled.{stays, changes, cloned, handled_as, made_of, filter_rows, given_by}
use Rattle.stack_rules.specs.Sends.{ring_is_full, at_filter, down_rows, loops, transmitted}
use Rattle.stack_rules.specs.Deliveries.{takers, echoes, echoed, how_for, delivered, last_of, settled}
use Rattle.stack_rules.specs.Receives.{up_at_filter, up_rows}
use Rattle.stack_rules.specs.Dones.{released, released_list, homeward_rows, completed_by}
use Rattle.rule_basics.specs.Live.{IsApart, Each}
use Rattle.rule_basics.proofs.Each.{Each-implies}
use Rattle.rule_basics.proofs.Counts.{one_if, count_by-cons}
use Rattle.rule_basics.proofs.Lives.{find_is}
use Rattle.state_laws.specs.Shape.{IsDistinct}
use Rattle.state_laws.specs.Laws.{IsThere}
use Rattle.state_laws.proofs.Rows.{by_test, after_rows-append}
use Rattle.state_laws.proofs.Takes.{attached-is}
use Rattle.place_laws.proofs.Good.{one_found}
use Rattle.place_laws.proofs.Keepers.{all_found}
use Rattle.place_laws.proofs.Looks.{look, issued, look_keep}
use Rattle.outstanding_laws.proofs.Rows.{May, MayKeep, Fits, IsRight, All, IsKin, Goes, Has, has_give, has_known, keep_held, keep_good, issue_held, look_new, home_good, skip_good, kin_pass, kin_home, kin_issue, starts, kin_starts}
use Rattle.outstanding_laws.proofs.Routes.{and_first, done_to, go_back, go_on, good_as, held_as, home_from, home_up, back_from, back_again, back_up, filter_most, on_from, issue_on}

-- what is known where a turn begins
pub record Facts (net : Net) : Type 0 where
  pub distinct : IsDistinct net.modules.order
  pub apart : IsApart (lists net.things)
  pub below : All (λ k x. k < net.next.list) net
  pub right : All (λ k x. IsRight net.modules x) net
  pub there : All (λ k x. IsThere net x.owner) net
  pub many : length net.modules.bindings ≡ length net.head.bindings
  pub originals : (c l : LiveList) (o : ListNo) → look net c.list.0 ≡ Some c → c.origin ≡ origin.Clone o → look net o.0 ≡ Some l → l.stand ≡ stand.Kept c.owner
  pub crossed : (l : LiveList) → look net l.list.0 ≡ Some l → is_crossed l.crossed ≡ true → l.stand ≡ stand.Kept Miniport

-- what a binding may keep is a receive
pub may_or_up : (net : Net) (sends : Bool) (owner m : ModuleId) → MayKeep net.modules sends owner m → May net.modules sends owner m ⊎ (sends ≡ false)
may_or_up net sends owner Miniport h = inl h
may_or_up net sends owner (Filter f) h = inl h
may_or_up net sends owner (Binding b) h = inr h.0

module _ (net : Net) (facts : Facts net) where
  abbrev pub Going : Net → Type 0
  Going next = Goes net.modules net facts.below next

  abbrev pub Holds : ℕ → ModuleId → Net → Type 0
  Holds n m next = Has net.modules net facts.below n m next

  abbrev pub Kin : Net → Type 0
  Kin next = All (IsKin net.modules net facts.below) next

  abbrev pub Leaves : List Row → Type 0
  Leaves rows = Going (after_rows net rows)

  -- a list that is live where the turn begins, and that a module may have
  pub record MayHave (m : ModuleId) (l : LiveList) : Type 0 where
    pub found : look net l.list.0 ≡ Some l
    pub may : May net.modules (is_down l.direction) l.owner m

  pub begins : Going net
  begins = starts net.modules net facts.below facts.right facts.there

  pub kin_begins : Kin net
  kin_begins = kin_starts net.modules net facts.below

  may_same : (x l : LiveList) (m : ModuleId) → (x.owner ≡ l.owner) × (x.direction ≡ l.direction) → May net.modules (is_down l.direction) l.owner m → May net.modules (is_down x.direction) x.owner m
  may_same x l m s h =
      subst (λ o. May net.modules (is_down x.direction) o m) (sym s.0) (subst (λ w. May net.modules (is_down w) l.owner m) (sym s.1) h)

  pub give : (next : Net) (l : LiveList) (m : ModuleId) (h : Handler) → Going next → Holds l.list.0 m (after next (row.Give l.list m h))
  give next l m h g = has_give net.modules net facts.below next l.list m h g

  -- a filter of the order
  there : (f : ℕ) (l : LiveList) → MayHave (Filter f) l → is_in f net.modules.order ≡ true
  there f l m = by (is_down l.direction) refl
    where
      by : (b : Bool) → is_down l.direction ≡ b → is_in f net.modules.order ≡ true
      by true e = and_first (is_in f net.modules.order) (has_send net.modules f) (m.may.sent e).0
      by false e = and_first (is_in f net.modules.order) (has_receive net.modules f) (m.may.risen e).0

  filter_keeps : (next : Net) (f : ℕ) (l : LiveList) → MayHave (Filter f) l → Holds l.list.0 (Filter f) next → Going (after next (row.Keep l.list (Filter f)))
  filter_keeps next f l m h =
      keep_held net.modules net facts.below next l.list (Filter f) (Filter f) (λ x e. may_same x l (Filter f) (held_as net.modules net facts.below facts.distinct next l.list.0 (Filter f) l m.found h x e) m.may) h

  stays_leaves : (next : Net) (a : Attached) (l : LiveList) (keeps : Bool) → MayHave (Filter a.filter) l → Holds l.list.0 (Filter a.filter) next → Going (after_rows next (stays net a l keeps))
  stays_leaves next a l keeps m h =
      by_test (λ rows. Going (after_rows next rows)) (keeps && is_hold a.kind) _ _
      (λ _. filter_keeps next a.filter l m h)
      (λ _. on_from net.modules net facts.below facts.distinct next l a.filter m.found m.may h)

  more_apart : (k n : ℕ) → k < n → (k == n) ≡ false
  more_apart k n a = grind (arith, nat_tests)

  -- the filter keeps the list, and a clone goes on
  cloned_leaves : (first : Net) (a : Attached) (l : LiveList) (frames : List (List ℕ)) → first.next.list ≡ net.next.list → MayHave (Filter a.filter) l → Holds l.list.0 (Filter a.filter) first → Going (after_rows first (cloned net a l frames))
  cloned_leaves first a l frames e m h =
      let f : ModuleId = Filter a.filter in
      let n : ListNo = list_no net.next.list in
      let new : LiveList = issued n f l.direction l.cancel (origin.Clone l.list) frames in
      let second : Net = after first (row.Issue n f (config_no net.modules.config) l.direction l.cancel (origin.Clone l.list) frames) in
      let third : Net = after second (row.Keep l.list f) in
      let small : l.list.0 < net.next.list = facts.below l.list.0 l m.found in
      let here : look third n.0 ≡ Some new = (look_keep second l.list f).others n.0 (more_apart l.list.0 net.next.list small) ∙ look_new net.modules net facts.below first n f (config_no net.modules.config) l.direction l.cancel (origin.Clone l.list) frames (sym e) h.below in
      let is : (x : LiveList) → look third n.0 ≡ Some x → new ≡ x = λ x g. one_found (look third n.0) new x here g in
      let held : Holds l.list.0 f second = issue_held net.modules net facts.below first l.list.0 f n f (config_no net.modules.config) l.direction l.cancel (origin.Clone l.list) frames (sym e) (there a.filter l m) (omega (arith, small, e)) h in
      go_on net.modules net facts.below facts.distinct third n f l.direction f (position net.modules.order f) refl
      (λ x g. (ap (λ (y : LiveList). y.owner) (sym (is x g)), ap (λ (y : LiveList). y.direction) (sym (is x g))))
      (λ t. (omega arith, filter_most net.modules net facts.below facts.distinct a.filter (there a.filter l m)))
      (λ t. ((m.may.risen t).0, omega arith))
      (has_known net.modules net facts.below third n.0 f (λ x g. ap (λ (y : LiveList). y.last) (sym (is x g))) (filter_keeps second a.filter l m held))

  changes_leaves : (first : Net) (a : Attached) (l : LiveList) (frames : List (List ℕ)) → first.next.list ≡ net.next.list → MayHave (Filter a.filter) l → Holds l.list.0 (Filter a.filter) first → Going (after_rows first (changes net a l frames))
  changes_leaves first a l frames e m h =
      by_test (λ rows. Going (after_rows first rows)) (is_full net (Filter a.filter)) _ _
      (λ _. back_again net.modules net facts.below facts.distinct first l (Filter a.filter) Resources m.found m.may h)
      (λ _. cloned_leaves first a l frames e m h)

  handled_leaves : (first : Net) (a : Attached) (l : LiveList) (keeps : Bool) (made : Option (List (List ℕ))) → first.next.list ≡ net.next.list → MayHave (Filter a.filter) l → Holds l.list.0 (Filter a.filter) first → Going (after_rows first (handled_as net a l keeps made))
  handled_leaves first a l keeps None e m h = back_again net.modules net facts.below facts.distinct first l (Filter a.filter) Dropped m.found m.may h
  handled_leaves first a l keeps (Some frames) e m h =
      by_test (λ rows. Going (after_rows first rows)) (same_frames frames l.frames) _ _
      (λ _. stays_leaves first a l keeps m h)
      (λ _. changes_leaves first a l frames e m h)

  filter_leaves : (a : Attached) (l : LiveList) (keeps : Bool) → MayHave (Filter a.filter) l → Leaves (filter_rows net a l keeps)
  filter_leaves a l keeps m =
      handled_leaves (after net (row.Give l.list (Filter a.filter) (given_by l.direction))) a l keeps (made_of net a l) refl m (give net l (Filter a.filter) (given_by l.direction) begins)

  -- a send at a module on its way down
  at_filter_leaves : (f : ℕ) (o : Option Attached) (l : LiveList) (keeps : Bool) → attached f net.modules.filters ≡ o → MayHave (Filter f) l → Leaves (at_filter net o l keeps)
  at_filter_leaves f None l keeps e m = begins
  at_filter_leaves f (Some a) l keeps e m = filter_leaves a l keeps (subst (λ g. MayHave (Filter g) l) (sym (attached-is f net.modules.filters a e)) m)

  pub down_leaves : (l : LiveList) (f : ℕ) (keeps : Bool) → MayHave (Filter f) l → Leaves (down_rows net l (Filter f) keeps)
  down_leaves l f keeps m = at_filter_leaves f (attached f net.modules.filters) l keeps refl m

  pub miniport_leaves : (l : LiveList) (keeps : Bool) → MayHave Miniport l → Leaves (down_rows net l Miniport keeps)
  miniport_leaves l keeps m =
      let first : Net = after net (row.Give l.list Miniport handler.Send) in
      let h : Holds l.list.0 Miniport first = give net l Miniport handler.Send begins in
      by_test (λ rows. Going (after_rows first rows)) (ring_is_full net) _ _
      (λ _. back_again net.modules net facts.below facts.distinct first l Miniport Resources m.found m.may h)
      (λ _. keep_held net.modules net facts.below first l.list Miniport Miniport (λ x e. may_same x l Miniport (held_as net.modules net facts.below facts.distinct first l.list.0 Miniport l m.found h x e) m.may) h)

  -- a new list of the miniport, and one of a binding, goes on
  pub indicated_goes : (next : Net) (n : ℕ) (frames : List (List ℕ)) → n ≡ next.next.list → Going next → Going (after_rows next (root net n Miniport direction.Up None frames ∷ onward net.modules (list_no n) direction.Up (position net.modules.order Miniport) ∷ []))
  indicated_goes next n frames e h =
      issue_on net.modules net facts.below facts.distinct next (list_no n) Miniport (config_no net.modules.config) direction.Up None origin.Root frames (position net.modules.order Miniport) e tt refl (λ t. absurd (cc)) (λ t. refl) h

  pub sent_goes : (next : Net) (n b : ℕ) (cancel : Option ℕ) (frames : List (List ℕ)) → n ≡ next.next.list → b < length net.modules.bindings → Going next → Going (after_rows next (root net n (Binding b) direction.Down cancel frames ∷ onward net.modules (list_no n) direction.Down 0 ∷ []))
  sent_goes next n b cancel frames e few h =
      issue_on net.modules net facts.below facts.distinct next (list_no n) (Binding b) (config_no net.modules.config) direction.Down cancel origin.Root frames 0 e few refl (λ t. omega arith) (λ t. absurd (cc)) h

  -- a list that a module keeps goes homewards
  kept_known : (next : Net) (l : LiveList) (m : ModuleId) → look net l.list.0 ≡ Some l → l.last ≡ m → Kin next → Going next → Holds l.list.0 m next
  kept_known next l m e last k h = has_known net.modules net facts.below next l.list.0 m (λ x f. k l.list.0 x f l e ∙ last) h

  -- a live list that a module keeps
  pub record IsKeptBy (m : ModuleId) (l : LiveList) : Type 0 where
    pub found : look net l.list.0 ≡ Some l
    pub last : l.last ≡ m
    pub may : MayKeep net.modules (is_down l.direction) l.owner m

  pub kept_by : (m : ModuleId) (l : LiveList) → look net l.list.0 ≡ Some l → l.stand ≡ stand.Kept m → IsKeptBy m l
  kept_by m l e s = by l.stand s (facts.right l.list.0 l e)
    where
      by : (at : Stand) → at ≡ stand.Kept m → Fits net.modules (is_down l.direction) l.owner l.last at → IsKeptBy m l
      by at q f = let g : Fits net.modules (is_down l.direction) l.owner l.last (stand.Kept m) = subst (Fits net.modules (is_down l.direction) l.owner l.last) q f in record { found = e; last = g.0; may = g.1 }

  pub kept_home : (next : Net) (l : LiveList) (m : ModuleId) (status : ListStatus) → IsKeptBy m l → Kin next → Going next → Going (after next (homeward net.modules l (position net.modules.order m) status))
  kept_home next l m status kept k h = by (may_or_up net (is_down l.direction) l.owner m kept.may)
    where
      by : (May net.modules (is_down l.direction) l.owner m ⊎ (is_down l.direction ≡ false)) → Going (after next (homeward net.modules l (position net.modules.order m) status))
      by (inl may) = home_from net.modules net facts.below facts.distinct next l m status kept.found may (kept_known next l m kept.found kept.last k h)
      by (inr up) = go_back net.modules net facts.below facts.distinct next l.list l.owner l.direction (position net.modules.order m) status up (good_as net.modules net facts.below facts.distinct next l kept.found h) h

  pub kept_back : (next : Net) (l : LiveList) (m : ModuleId) (status : ListStatus) → IsKeptBy m l → Going next → Going (after_rows next (turned_back net.modules l m status))
  kept_back next l m status kept h = by (may_or_up net (is_down l.direction) l.owner m kept.may)
    where
      by : (May net.modules (is_down l.direction) l.owner m ⊎ (is_down l.direction ≡ false)) → Going (after_rows next (turned_back net.modules l m status))
      by (inl may) = back_from net.modules net facts.below facts.distinct next l m status kept.found may h
      by (inr up) = back_up net.modules net facts.below facts.distinct next l m status kept.found up h

  -- a transmit
  pub transmitted_leaves : (l : LiveList) → IsKeptBy Miniport l → Leaves (transmitted net l)
  transmitted_leaves l kept =
      let first : Net = after net (row.Wire l.list l.frames) in
      let last : Row = homeward net.modules l (position net.modules.order Miniport) Success in
      let h : Going first = skip_good net.modules net facts.below net (row.Wire l.list l.frames) refl begins in
      let k : Kin first = kin_begins in
      let n : ListNo = list_no net.next.list in
      let second : Net = after first (root net net.next.list Miniport direction.Up None l.frames) in
      by_test (λ rows. Going (after_rows first (rows ++ last ∷ []))) (loops net) _ _
      (λ t. kept_home _ l Miniport Success kept
      (kin_pass net.modules net facts.below second n _ _ (kin_issue net.modules net facts.below first n Miniport (config_no net.modules.config) direction.Up None origin.Root l.frames refl h k))
      (indicated_goes first net.next.list l.frames refl h))
      (λ t. kept_home first l Miniport Success kept k h)

  -- the original of a clone that is home goes homewards
  released_leaves : (l : LiveList) (status : ListStatus) (o : Origin) → look net l.list.0 ≡ Some l → l.origin ≡ o → Going (after_rows (after net (row.Home l.list l.owner status)) (released net l.owner o status))
  released_leaves l status origin.Root found made = home_good net.modules net facts.below net l.list l.owner status begins
  released_leaves l status (origin.Copy o) found made = home_good net.modules net facts.below net l.list l.owner status begins
  released_leaves l status (origin.Clone o) found made = by (list_of o.0 (lists net.things)) refl
    where
      next : Net
      next = after net (row.Home l.list l.owner status)

      by : (x : Option LiveList) → look net o.0 ≡ x → Going (after_rows next (released_list net l.owner status x))
      by None e = home_good net.modules net facts.below net l.list l.owner status begins
      by (Some original) e =
          let number : original.list.0 ≡ o.0 = (find_is o.0 (lists net.things) original e).0 in
          let at : look net original.list.0 ≡ Some original = ap (look net) number ∙ e in
          kept_home next original l.owner status (kept_by l.owner original at (facts.originals l original o found made e))
          (kin_home net.modules net facts.below net l.list l.owner status kin_begins) (home_good net.modules net facts.below net l.list l.owner status begins)

  not_same : (m owner : ModuleId) → same_module m owner ≡ false → m ≡ owner → ⊥
  not_same m owner t e = differ owner (ap (λ k. same_module k owner) (sym e) ∙ t)
    where
      itself : (n : ℕ) → (n == n) ≡ false → ⊥
      itself n h = grind (arith, nat_tests)

      differ : (k : ModuleId) → same_module k k ≡ false → ⊥
      differ Miniport h = cc
      differ (Filter f) h = itself f h
      differ (Binding b) h = itself b h

  -- at its owner a list is home, at another module it goes on homewards
  pub homeward_leaves : (l : LiveList) (m : ModuleId) (status : ListStatus) → look net l.list.0 ≡ Some l → ((same_module m l.owner ≡ false → MayHave m l) ⊎ (is_down l.direction ≡ false)) → Leaves (homeward_rows net l m status)
  homeward_leaves l m status found may =
      by_test Leaves (same_module m l.owner) _ _
      (λ _. released_leaves l status l.origin found refl)
      (λ t. by t may)
    where
      first : Net
      first = after net (row.Give l.list m (completed_by l.direction))

      by : same_module m l.owner ≡ false → ((same_module m l.owner ≡ false → MayHave m l) ⊎ (is_down l.direction ≡ false)) → Going (after first (homeward net.modules l (position net.modules.order m) status))
      by t (inl may) = home_from net.modules net facts.below facts.distinct first l m status found (may t).may (give net l m (completed_by l.direction) begins)
      by t (inr up) = home_up net.modules net facts.below facts.distinct first l m (position net.modules.order m) status found up (give net l m (completed_by l.direction) begins)

  pub done_may : (l : LiveList) (m : ModuleId) (status : ListStatus) → look net l.list.0 ≡ Some l → l.stand ≡ stand.Passed (way.Done status) (Module m) → same_module m l.owner ≡ false → MayHave m l
  done_may l m status found s t =
      let f : Fits net.modules (is_down l.direction) l.owner l.last (stand.Passed (way.Done status) (Module m)) = subst (Fits net.modules (is_down l.direction) l.owner l.last) s (facts.right l.list.0 l found) in
      let to = done_to net.modules net facts.below facts.distinct (position net.modules.order l.last) l.owner m f.1.1.0 (not_same m l.owner t) in
      record { found = found; may = record { sent = λ _. (to.passes, to.below); risen = λ u. absurd (cc (sym f.0 ∙ u)) } }

  -- a binding that isn't full is one of the stack's
  none_owned : (b : ℕ) (ls : List LiveList) → length net.modules.bindings ≤ b → Each (λ l. IsThere net l.owner) ls → count_by (λ l. same_module l.owner (Binding b)) ls ≡ 0
  none_owned b [] a h = refl
  none_owned b (l ∷ ls) a h =
      let here : one_if (same_module l.owner (Binding b)) ≡ 0 = ap one_if (other l.owner h.0) in
      omega (arith, count_by-cons (λ x. same_module x.owner (Binding b)) l ls, here, none_owned b ls a h.1)
    where
      other : (m : ModuleId) → IsThere net m → same_module m (Binding b) ≡ false
      other Miniport t = refl
      other (Filter f) t = refl
      other (Binding c) t = grind (arith, nat_tests)

  all_there : Each (λ l. IsThere net l.owner) (lists net.things)
  all_there = Each-implies (λ l. look net l.list.0 ≡ Some l) (λ l. IsThere net l.owner) (λ l e. facts.there l.list.0 l e) (lists net.things) (all_found (lists net.things) facts.apart)

  is_few : (b : ℕ) (Q : Type 0) → (length net.modules.bindings ≤ b → Q → ⊥) → Q → b < length net.modules.bindings
  is_few b Q h q = by (nat_lt b (length net.modules.bindings)) refl
    where
      by : (c : Bool) → nat_lt b (length net.modules.bindings) ≡ c → b < length net.modules.bindings
      by true t = grind (arith, nat_tests)
      by false t = let past : length net.modules.bindings ≤ b = grind (arith, nat_tests) in absurd (h past q)

  pub not_full : (b : ℕ) → is_full net (Binding b) ≡ false → b < length net.modules.bindings
  not_full b t =
      is_few b (is_full net (Binding b) ≡ false)
      (λ past e.
      let no_pool : pool_of net (Binding b) ≡ 0 = ap (λ (p : ProtocolKind × ℕ). p.1) (get_or_past net.head.bindings b (protocol_kind.Log, 0) (omega (arith, past, facts.many))) in
      let none : owned net (Binding b) ≡ 0 = none_owned b (lists net.things) past all_there in
      full (owned net (Binding b)) (pool_of net (Binding b)) none no_pool e) t
    where
      full : (a b : ℕ) → a ≡ 0 → b ≡ 0 → (a == b) ≡ false → ⊥
      full a b h k t = grind (arith, nat_tests)

  and_last : (a b : Bool) → (a && b) ≡ true → b ≡ true
  and_last true b h = h
  and_last false b h = cc

  echo_few : (b : ℕ) → echoes net b ≡ true → b < length net.modules.bindings
  echo_few b t = not_full b (off (is_full net (Binding b)) (and_last (phase_is_running net.phase) _ (and_last (is_echo (kind_of_binding net.head b)) _ t)))
    where
      off : (c : Bool) → not c ≡ true → c ≡ false
      off true h = cc
      off false h = refl

  retain_few : (b : ℕ) → is_retain (kind_of_binding net.head b) ≡ true → b < length net.modules.bindings
  retain_few b t =
      is_few b (is_retain (kind_of_binding net.head b) ≡ true)
      (λ past e.
      let none : kind_of_binding net.head b ≡ protocol_kind.Log = ap (λ (p : ProtocolKind × ℕ). p.0) (get_or_past net.head.bindings b (protocol_kind.Log, 0) (omega (arith, past, facts.many))) in
      log (kind_of_binding net.head b) none e) t
    where
      log : (k : ProtocolKind) → k ≡ protocol_kind.Log → is_retain k ≡ true → ⊥
      log k h t = let off : is_retain protocol_kind.Log ≡ true = ap is_retain (sym h) ∙ t in cc

  -- only echo bindings issue lists
  pub delivered_goes : (next : Net) (list : ListNo) (frames : List (List ℕ)) (own : How) (n : ℕ) (bs : List ℕ) → n ≡ next.next.list → Going next → Going (after_rows next (delivered net list frames own n bs))
  delivered_goes next list frames own n [] e h = h
  delivered_goes next list frames own n (b ∷ bs) e h =
      let first : Net = after next (row.Deliver list b (how_for own bs) frames) in
      let g : Going first = skip_good net.modules net facts.below next (row.Deliver list b (how_for own bs) frames) refl h in
      by_test (λ rows. Going (after_rows first rows)) (echoes net b) _ _
      (λ t. delivered_goes (after_rows first (echoed net n b frames)) list frames own (n + 1) bs (ap (λ i. i + 1) e) (sent_goes first n b None frames e (echo_few b t) g))
      (λ t. delivered_goes first list frames own n bs e g)

  pub go_up_back : (next : Net) (l : LiveList) (i : ℕ) (status : ListStatus) → look net l.list.0 ≡ Some l → is_down l.direction ≡ false → Going next → Going (after next (homeward net.modules l i status))
  go_up_back next l i status found up h = go_back net.modules net facts.below facts.distinct next l.list l.owner l.direction i status up (good_as net.modules net facts.below facts.distinct next l found h) h

  settled_leaves : (next : Net) (l : LiveList) (keeps : Bool) (o : Option ℕ) → is_down l.direction ≡ false → 0 < position net.modules.order l.owner → look net l.list.0 ≡ Some l → Going next → Going (after_rows next (settled net l keeps o))
  settled_leaves next l keeps None up low found h = go_up_back next l 0 Success found up h
  settled_leaves next l keeps (Some b) up low found h =
      by_test (λ rows. Going (after_rows next rows)) (keeps && is_retain (kind_of_binding net.head b)) _ _
      (λ t. keep_good net.modules net facts.below next l.list (Binding b)
      (λ x e. let s = good_as net.modules net facts.below facts.distinct next l found h x e in (ap is_down s.1 ∙ up, (retain_few b (and_last keeps _ t), omega (arith, low, ap (position net.modules.order) s.0)))) h)
      (λ _. go_up_back next l 0 Success found up h)

  -- an owned list at the bindings
  pub delivery_leaves : (l : LiveList) (keeps : Bool) → is_down l.direction ≡ false → 0 < position net.modules.order l.owner → look net l.list.0 ≡ Some l → Leaves (up_rows net l Bindings keeps)
  delivery_leaves l keeps up low found =
      by_test Leaves (phase_is_running net.phase) _ _
      (λ _.
      let rows : List Row = delivered net l.list l.frames how.Own net.next.list (takers net l.frames) in
      subst Going (sym (after_rows-append net rows (settled net l keeps (last_of (takers net l.frames)))))
      (settled_leaves (after_rows net rows) l keeps (last_of (takers net l.frames)) up low found (delivered_goes net l.list l.frames how.Own net.next.list (takers net l.frames) refl begins)))
      (λ _. back_up net.modules net facts.below facts.distinct net l (Binding 0) Paused found up begins)

  -- a receive at a filter
  up_filter_leaves : (f : ℕ) (o : Option Attached) (l : LiveList) (keeps : Bool) → attached f net.modules.filters ≡ o → is_down l.direction ≡ false → MayHave (Filter f) l → Leaves (up_at_filter net o l keeps)
  up_filter_leaves f None l keeps e up m = begins
  up_filter_leaves f (Some a) l keeps e up m =
      by_test Leaves (is_running a.state) _ _
      (λ _. filter_leaves a l keeps (subst (λ g. MayHave (Filter g) l) (sym (attached-is f net.modules.filters a e)) m))
      (λ _. back_up net.modules net facts.below facts.distinct net l (Filter a.filter) Paused m.found up begins)

  pub up_leaves : (l : LiveList) (f : ℕ) (keeps : Bool) → is_down l.direction ≡ false → MayHave (Filter f) l → Leaves (up_rows net l (Module (Filter f)) keeps)
  up_leaves l f keeps up m = up_filter_leaves f (attached f net.modules.filters) l keeps refl up m
