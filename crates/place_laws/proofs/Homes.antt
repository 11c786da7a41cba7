-- A list on its way home.
use Rattle.std.proofs.Common.{◌≡◌, ℕ, ◌==◌, false, Option, Some, None, refl, arith, ap, sym, subst, ◌∙◌}
use Rattle.std.proofs.lemmas.Bool.Decides.{nat_tests}
use Rattle.ndis_base.specs.declared.ModuleId.{ModuleId}
use Rattle.ndis_base.specs.declared.ListStatus.{ListStatus}
use Rattle.ndis_base.specs.declared.Origin.{Origin}
use Rattle.ndis_base.specs.declared.Origin.TheVariants as origin
use Rattle.journal_types.specs.declared.Row.TheVariants as row
use Rattle.stack_rules.specs.declared.LiveList.{LiveList}
use Rattle.stack_rules.specs.Tests.{is_virtual, same_module}
use Rattle.stack_rules.specs.Net.{Net, after, after_rows, lists, list_of}
use Rattle.stack_rules.specs.Places.{position}
use Rattle.stack_rules.specs.Dones.{released, released_list, homeward_rows, completed_by}
use Rattle.rule_basics.proofs.Lives.{find_is}
use Rattle.state_laws.proofs.Rows.{by_test}
use Rattle.place_laws.proofs.Good.{cloned_from, IsUncloned, by_number, none_found}
use Rattle.place_laws.proofs.Looks.{look, look_home}
use Rattle.place_laws.proofs.Rows.{IsAlike, goes_give, goes_home, was_start}
use Rattle.place_laws.proofs.Routes.{IsFree, go_home, home_from}
use Rattle.place_laws.proofs.Keepers.{Good, Going, Facts}
use Rattle.place_laws.proofs.Clones.{Leaves}
use Rattle.place_laws.proofs.Sends.{begins}

-- once a clone is home its original has no other
only_clone : (net : Net) → Facts net → (l : LiveList) (status : ListStatus) (n : ℕ) → look net l.list.0 ≡ Some l → cloned_from l.origin ≡ Some n → IsUncloned (look (after net (row.Home l.list l.owner status))) n
only_clone net facts l status n found made k c f o =
    let u = look_home net l.list l.owner status in
    by_number l.list.0 k ⊥
    (λ t.
    let same : l.list.0 ≡ k = facts.good.good.single l.list.0 k n l c found made (sym (u.others k t) ∙ f) o in
    differ l.list.0 k same t)
    (λ e. none_found (look (after net (row.Home l.list l.owner status)) k) c (ap (look (after net (row.Home l.list l.owner status))) (sym e) ∙ u.here) f)
  where
    differ : (a b : ℕ) → a ≡ b → (a == b) ≡ false → ⊥
    differ a b e t = grind (arith, nat_tests)

home_goes : (net : Net) → Facts net → (l : LiveList) (status : ListStatus) → Going net (after net (row.Home l.list l.owner status))
home_goes net facts l status = goes_home net.modules.order (is_virtual net.head.kind) net net l.list l.owner status (begins net facts)

-- the original of a clone that is home goes homewards
original_leaves : (net : Net) → Facts net → (l : LiveList) (status : ListStatus) (m : ModuleId) (n : ℕ) (o : Option LiveList) → look net l.list.0 ≡ Some l → cloned_from l.origin ≡ Some n → look net n ≡ o →
    Good net (after_rows (after net (row.Home l.list l.owner status)) (released_list net m status o))
original_leaves net facts l status m n None found made e = (home_goes net facts l status).now
original_leaves net facts l status m n (Some original) found made e =
    let next : Net = after net (row.Home l.list l.owner status) in
    let h : Going net next = home_goes net facts l status in
    let number : original.list.0 ≡ n = (find_is n (lists net.things) original e).0 in
    (go_home net.modules (is_virtual net.head.kind) facts.distinct net next original.list original.owner original.direction (position net.modules.order m) status
    (subst (IsUncloned (look next)) (sym number) (only_clone net facts l status n found made))
    (λ x f.
    let like : IsAlike x original = was_start net.modules.order (is_virtual net.head.kind) net next h n original x e (ap (look next) (sym number) ∙ f) in
    (like.owner, like.direction)) h).now

released_leaves : (net : Net) → Facts net → (l : LiveList) (status : ListStatus) (m : ModuleId) (o : Origin) → look net l.list.0 ≡ Some l → l.origin ≡ o → Good net (after_rows (after net (row.Home l.list l.owner status)) (released net m o status))
released_leaves net facts l status m origin.Root found made = (home_goes net facts l status).now
released_leaves net facts l status m (origin.Copy o) found made = (home_goes net facts l status).now
released_leaves net facts l status m (origin.Clone o) found made =
    original_leaves net facts l status m o.0 (list_of o.0 (lists net.things)) found (ap cloned_from made) refl

-- at its owner the list is home, at a filter that had passed it it is passed on
pub homeward_leaves : (net : Net) → Facts net → (l : LiveList) (m : ModuleId) (status : ListStatus) → IsFree net l → Leaves net (homeward_rows net l m status)
homeward_leaves net facts l m status w =
    by_test (Leaves net) (same_module m l.owner) _ _
    (λ _. released_leaves net facts l status l.owner l.origin w.found refl)
    (λ _. (home_from net.modules (is_virtual net.head.kind) facts.distinct net (after net (row.Give l.list m (completed_by l.direction))) l (position net.modules.order m) status w
    (goes_give net.modules.order (is_virtual net.head.kind) net net l.list m (completed_by l.direction) (begins net facts))).now)
