-- A list that is in hand goes onwards, homewards or is turned back.
use Rattle.std.proofs.Common.{◌≡◌, ℕ, ◌≤◌, true, false, List, [], ◌∷◌, Option, None, refl, arith, ap, sym, subst}
use Rattle.ndis_base.specs.declared.ModuleId.{ModuleId}
use Rattle.ndis_base.specs.declared.ListNo.{ListNo}
use Rattle.ndis_base.specs.declared.ListStatus.{ListStatus}
use Rattle.ndis_base.specs.declared.ConfigNo.{ConfigNo}
use Rattle.ndis_base.specs.declared.Direction.{Direction}
use Rattle.ndis_base.specs.declared.Direction.TheVariants as direction
use Rattle.ndis_base.specs.declared.Origin.{Origin}
use Rattle.journal_types.specs.declared.PassWay.TheVariants as way
use Rattle.journal_types.specs.declared.Row.TheVariants as row
use Rattle.stack_rules.specs.declared.LiveList.{LiveList}
use Rattle.stack_rules.specs.Tests.{is_down}
use Rattle.stack_rules.specs.Net.{Net, Modules, after, after_rows, lists, list_of, had_by}
use Rattle.stack_rules.specs.Places.{position, position_of_target}
use Rattle.stack_rules.specs.Targets.{next_down, next_up, next_done, next_back, onward, homeward_by, turned_back}
use Rattle.state_laws.specs.Shape.{IsDistinct}
use Rattle.pause_laws.specs.Clear.{IsNearest}
use Rattle.state_laws.proofs.Tops.{position_most}
use Rattle.pause_laws.proofs.Places.{down_low, done_low, back_low, up_nearest}
use Rattle.pause_laws.proofs.Hands.{Clear, Hand, issued, hand_back, put_pass, pass_none, issue_new}

module _ (ms : Modules) (front : ℕ) (d : IsDistinct ms.order) where
  -- where a list was that a module has: its owner is at the front or below it, and a send was last at its
  -- owner or below it
  pub record IsOwned (x : LiveList) : Type 0 where
    pub owner : front ≤ position ms.order x.owner
    pub down : is_down x.direction ≡ true → position ms.order x.owner ≤ position ms.order x.last

  pub go_home : (net : Net) (list : ListNo) (owner : ModuleId) (way_of : Direction) (i : ℕ) (status : ListStatus) (x : LiveList) → Hand ms front list.0 x net → owner ≡ x.owner → way_of ≡ x.direction → IsOwned x →
      (is_down x.direction ≡ false → front ≤ position_of_target ms.order (next_back ms i x.owner)) → Clear ms front (after net (homeward_by ms list owner way_of i status))
  go_home net list owner direction.Down i status x h e f o b =
      put_pass ms front net list (way.Done status) (next_done ms i owner) x h record {
        owner = o.owner;
        down = o.down;
        stands = (ap is_down (sym f), subst (λ k. position ms.order k ≤ position_of_target ms.order (next_done ms i owner)) e (done_low ms i owner d));
      }
  go_home net list owner direction.Up i status x h e f o b =
      put_pass ms front net list (way.Back status) (next_back ms i owner) x h record {
        owner = o.owner;
        down = o.down;
        stands = (ap is_down (sym f), subst (λ k. front ≤ position_of_target ms.order (next_back ms i k)) (sym e) (b (ap is_down (sym f))));
      }
  go_home net list owner direction.Lent i status x h e f o b =
      put_pass ms front net list (way.Back status) (next_back ms i owner) x h record {
        owner = o.owner;
        down = o.down;
        stands = (ap is_down (sym f), subst (λ k. front ≤ position_of_target ms.order (next_back ms i k)) (sym e) (b (ap is_down (sym f))));
      }

  pub home_none : (net : Net) (list : ListNo) (owner : ModuleId) (way_of : Direction) (i : ℕ) (status : ListStatus) → list_of list.0 (lists net.things) ≡ None → Clear ms front net → Clear ms front (after net (homeward_by ms list owner way_of i status))
  home_none net list owner direction.Down i status e h = pass_none ms front net list _ _ e h
  home_none net list owner direction.Up i status e h = pass_none ms front net list _ _ e h
  home_none net list owner direction.Lent i status e h = pass_none ms front net list _ _ e h

  -- homewards from a position at the front or below it
  pub go_home_from : (net : Net) (list : ListNo) (owner : ModuleId) (way_of : Direction) (i : ℕ) (status : ListStatus) (x : LiveList) → Hand ms front list.0 x net → owner ≡ x.owner → way_of ≡ x.direction → IsOwned x → front ≤ i →
      Clear ms front (after net (homeward_by ms list owner way_of i status))
  go_home_from net list owner way_of i status x h e f o a = go_home net list owner way_of i status x h e f o (λ _. back_low ms front i x.owner d a o.owner)

  -- onwards from where it was last
  pub go_on : (net : Net) (list : ListNo) (way_of : Direction) (i : ℕ) (x : LiveList) → Hand ms front list.0 x net → way_of ≡ x.direction → IsOwned x → i ≡ position ms.order x.last → front ≤ i → Clear ms front (after net (onward ms list way_of i))
  go_on net list direction.Down i x h f o e a =
      let down : is_down x.direction ≡ true = ap is_down (sym f) in
      put_pass ms front net list way.Down (next_down ms i) x h record {
        owner = o.owner;
        down = o.down;
        stands = (down, down_low ms (position ms.order x.owner) i d (omega (arith, o.down down, e)) (omega (arith, e, position_most ms.order x.last)));
      }
  go_on net list direction.Up i x h f o e a =
      put_pass ms front net list way.Up (next_up ms i) x h record {
        owner = o.owner;
        down = o.down;
        stands = (ap is_down (sym f), (omega (arith, a, e), subst (λ p. IsNearest ms p (position_of_target ms.order (next_up ms i))) e (up_nearest ms i d)));
      }
  go_on net list direction.Lent i x h f o e a =
      put_pass ms front net list way.Up (next_up ms i) x h record {
        owner = o.owner;
        down = o.down;
        stands = (ap is_down (sym f), (omega (arith, a, e), subst (λ p. IsNearest ms p (position_of_target ms.order (next_up ms i))) e (up_nearest ms i d)));
      }

  -- turned back by a module
  pub go_back : (net : Net) (l : LiveList) (m : ModuleId) (status : ListStatus) (x : LiveList) → Hand ms front l.list.0 x net → l.owner ≡ x.owner → l.direction ≡ x.direction → front ≤ position ms.order x.owner →
      (is_down x.direction ≡ true → position ms.order x.owner ≤ position ms.order m) → (is_down x.direction ≡ false → front ≤ position_of_target ms.order (next_back ms (position ms.order m) x.owner)) → Clear ms front (after_rows net (turned_back ms l m status))
  go_back net l m status x h e f a b c =
      go_home (after net (row.TurnBack l.list m status)) l.list l.owner l.direction (position ms.order m) status (had_by m x) (hand_back ms front net l.list m status x h) e f record { owner = a; down = b } c

  pub go_back_from : (net : Net) (l : LiveList) (m : ModuleId) (status : ListStatus) (x : LiveList) → Hand ms front l.list.0 x net → l.owner ≡ x.owner → l.direction ≡ x.direction → front ≤ position ms.order x.owner →
      (is_down x.direction ≡ true → position ms.order x.owner ≤ position ms.order m) → front ≤ position ms.order m → Clear ms front (after_rows net (turned_back ms l m status))
  go_back_from net l m status x h e f a b c = go_back net l m status x h e f a b (λ _. back_low ms front (position ms.order m) x.owner d c a)

  -- a new list goes on from its owner
  pub issue_on : (net : Net) (list : ListNo) (owner : ModuleId) (config : ConfigNo) (way_of : Direction) (cancel : Option ℕ) (origin : Origin) (frames : List (List ℕ)) (i : ℕ) → list.0 ≡ net.next.list → front ≤ position ms.order owner → i ≡ position ms.order owner → Clear ms front net →
      Clear ms front (after_rows net (row.Issue list owner config way_of cancel origin frames ∷ onward ms list way_of i ∷ []))
  issue_on net list owner config way_of cancel origin frames i e a f h =
      go_on (after net (row.Issue list owner config way_of cancel origin frames)) list way_of i (issued list owner way_of cancel origin frames)
      (issue_new ms front net list owner config way_of cancel origin frames e h) refl record { owner = a; down = λ _. omega arith } f (omega (arith, f, a))
