-- A list on its way home.
use Rattle.std.proofs.Common.{◌≡◌, ℕ, ◌≤◌, Option, Some, None, refl, ap, sym, ◌∙◌}
use Rattle.ndis_base.specs.declared.ModuleId.{ModuleId}
use Rattle.ndis_base.specs.declared.ListStatus.{ListStatus}
use Rattle.ndis_base.specs.declared.Origin.{Origin}
use Rattle.ndis_base.specs.declared.Origin.TheVariants as origin
use Rattle.journal_types.specs.declared.Row.TheVariants as row
use Rattle.stack_rules.specs.declared.LiveList.{LiveList}
use Rattle.stack_rules.specs.Tests.{same_module}
use Rattle.stack_rules.specs.Net.{Net, after, after_rows, lists, list_of, had_by}
use Rattle.stack_rules.specs.Places.{position}
use Rattle.stack_rules.specs.Dones.{released, released_list, home_rows, homeward_rows, completed_by}
use Rattle.stack_rules.specs.Targets.{homeward}
use Rattle.rule_basics.proofs.Lists.{lists-without}
use Rattle.rule_basics.proofs.Lives.{find_is}
use Rattle.state_laws.proofs.Rows.{by_test}
use Rattle.pause_laws.specs.Clear.{IsClear}
use Rattle.pause_laws.proofs.Lists.{same_found, hand_take, clear_found, found-others}
use Rattle.pause_laws.proofs.Hands.{Clear, clear_skip, hand_give}
use Rattle.pause_laws.proofs.Routes.{go_home_from, home_none}
use Rattle.pause_laws.proofs.Works.{Facts, IsWorked}
use Rattle.pause_laws.proofs.Sends.{Leaves, MayHave}

-- the original of a clone that has come home goes homewards from the clone's owner
original_clear : (net next : Net) (front : ℕ) → Facts net front → (original : LiveList) (i : ℕ) (status : ListStatus) → Clear net.modules front next → ((x : LiveList) → list_of original.list.0 (lists next.things) ≡ Some x → x ≡ original) → front ≤ i → Clear net.modules front (after next (homeward net.modules original i status))
original_clear net next front facts original i status k same a = at (list_of original.list.0 (lists next.things)) refl
  where
    at : (o : Option LiveList) → list_of original.list.0 (lists next.things) ≡ o → Clear net.modules front (after next (homeward net.modules original i status))
    at None e = home_none net.modules front facts.distinct next original.list original.owner original.direction i status e k
    at (Some x) e =
        let c : IsClear net.modules front x = clear_found net.modules front original.list.0 (lists next.things) next.next.list x k e in
        let is : x ≡ original = same x e in
        go_home_from net.modules front facts.distinct next original.list original.owner original.direction i status x (hand_take net.modules front original.list.0 x (lists next.things) next.next.list k e)
        (ap (λ (y : LiveList). y.owner) (sym is)) (ap (λ (y : LiveList). y.direction) (sym is)) record { owner = c.owner; down = c.down } a

released_clear : (net next : Net) (front : ℕ) → Facts net front → (m : ModuleId) (o : Origin) (status : ListStatus) → Clear net.modules front next → ((n : ℕ) (x : LiveList) → list_of n (lists next.things) ≡ Some x → list_of n (lists net.things) ≡ Some x) → front ≤ position net.modules.order m → Clear net.modules front (after_rows next (released net m o status))
released_clear net next front facts m origin.Root status k was a = k
released_clear net next front facts m (origin.Copy o) status k was a = k
released_clear net next front facts m (origin.Clone o) status k was a = at (list_of o.0 (lists net.things)) refl
  where
    at : (found : Option LiveList) → list_of o.0 (lists net.things) ≡ found → Clear net.modules front (after_rows next (released_list net m status found))
    at None e = k
    at (Some original) e =
        let number : original.list.0 ≡ o.0 = (find_is o.0 (lists net.things) original e).0 in
        original_clear net next front facts original (position net.modules.order m) status k
        (λ x f. same_found (list_of o.0 (lists net.things)) x original (was o.0 x (ap (λ n. list_of n (lists next.things)) (sym number) ∙ f)) e) a

pub home_clear : (net : Net) (front : ℕ) → Facts net front → (l : LiveList) (status : ListStatus) → Clear net.modules front net → IsWorked net front l → Leaves net front (home_rows net l status)
home_clear net front facts l status k w =
    let next : Net = after net (row.Home l.list l.owner status) in
    released_clear net next front facts l.owner l.origin status (clear_skip net.modules front net (row.Home l.list l.owner status) refl k)
    (λ n x f. found-others l.list.0 n (lists net.things) x (ap (list_of n) (sym (lists-without l.list.0 net.things)) ∙ f)) w.clear.owner

-- at its owner the list is home, at a filter that had passed it it is passed on
pub homeward_clear : (net : Net) (front : ℕ) → Facts net front → (l : LiveList) (m : ModuleId) (status : ListStatus) → Clear net.modules front net → IsWorked net front l → MayHave net front m l → Leaves net front (homeward_rows net l m status)
homeward_clear net front facts l m status k w may =
    by_test (Leaves net front) (same_module m l.owner) _ _
    (λ _. home_clear net front facts l status k w)
    (λ _. go_home_from net.modules front facts.distinct (after net (row.Give l.list m (completed_by l.direction))) l.list l.owner l.direction (position net.modules.order m) status (had_by m l)
    (hand_give net.modules front net l.list m (completed_by l.direction) l (hand_take net.modules front l.list.0 l (lists net.things) net.next.list k w.found)) refl refl record { owner = w.clear.owner; down = may.below } may.at)
