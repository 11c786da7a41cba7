-- The order has room for the filter, at the position.
use Rattle.std.proofs.Common.{◌≡◌, ℕ, ◌+◌, ◌-◌, ◌≤◌, ◌<◌, ◌==◌, ◌||◌, nat_lt, Bool, true, false, List, None, Some, length, find, map, refl, sym, ap, subst, arith, All}
use Rattle.std.specs.List.{insert}
use Rattle.std.proofs.lemmas.Bool.Decides.{nat_tests}
use Rattle.std.proofs.lemmas.List.{length-map}
use Rattle.std.proofs.lemmas.List.Elements.{All-weaker}
use Rattle.ndis_base.specs.declared.FilterKind.{FilterKind}
use Rattle.stack_rules.specs.Net.{Net}
use Rattle.order_laws.proofs.Lists.{length-insert}
use Rattle.driver_calls.specs.Filters.{MayAttach}
use Rattle.driver_views.specs.States.{FilterState}
use Rattle.book_lemmas.specs.Views.{BookView, filter_at, IsOnShelf}
use Rattle.book_parts.specs.Events.{IsBook}
use Rattle.rewire_work.specs.Refusals.{insert_refusal}
use Rattle.rewire_work.specs.Rested.{IsAtRest}
use Rattle.rewire_work.specs.Seated.{is_kind_at}
use Rattle.rewire_work.proofs.Causes.{has_room}
use Rattle.rewire_work.proofs.Inserted.{is_first}

good_position : (position many : ℕ) → ((position == 0) || nat_lt (many + 1) position) ≡ false → (1 ≤ position) × (position ≤ many + 1)
good_position position many e = cases (position == 0) (nat_lt (many + 1) position) refl refl e
  where
    cases : (a b : Bool) → (position == 0) ≡ a → nat_lt (many + 1) position ≡ b → (a || b) ≡ false → (1 ≤ position) × (position ≤ many + 1)
    cases true b s t e = cc
    cases false true s t e = cc
    cases false false s t e = (grind (arith, nat_tests), grind (arith, nat_tests))

pub position_above : (net : Net) (position : ℕ) → insert_refusal net position ≡ None → 1 ≤ position
position_above net position e = (good_position position (length net.modules.order) (has_room net position e).1).0

pub position_within : (net : Net) (position : ℕ) → insert_refusal net position ≡ None → position ≤ length net.modules.order + 1
position_within net position e = (good_position position (length net.modules.order) (has_room net position e).1).1

other_than : (n : ℕ) → (n == 16) ≡ false → n ≤ 16 → n + 1 ≤ 16
other_than n t l = let ne : n ≡ 16 → ⊥ = λ e. absurd (not_same n t e) in grind (arith, nat_tests)
  where
    not_same : (n : ℕ) → (n == 16) ≡ false → n ≡ 16 → ⊥
    not_same n t e = grind (arith, nat_tests)

pub longer_fits : (net : Net) (position f : ℕ) (order : List ℕ) → IsAtRest net → insert_refusal net position ≡ None → order ≡ insert net.modules.order (position - 1) f → length order ≤ 16
longer_fits net position f order rest e is =
    let more = other_than (length net.modules.order) (has_room net position e).0 rest.few in
    omega (arith, ap length is, length-insert f (position - 1) net.modules.order, more)

pub few_attached : (net : Net) → IsAtRest net → length net.modules.filters ≤ 16
few_attached net rest = let as_many = rest.as_many in let few = rest.few in omega (arith, as_many, few)

-- the driver that was found may be attached, at its place
pub may_attach : (old : BookView) (kind : FilterKind) (place : ℕ) → IsBook old → find (is_kind_at kind old.held.filters) old.held.shelf ≡ Some place → MayAttach (filter_at old.held.filters (Some place))
may_attach old kind place k e = let first = is_first old kind place k e in record { setup = first.rests.setup; kept = first.rests.kept }

pub driver_there : {X : Type 0} (f : X → FilterState) (xs : List X) (old : BookView) (kind : FilterKind) (place : ℕ) → IsBook old → old.held.filters ≡ map f xs → find (is_kind_at kind old.held.filters) old.held.shelf ≡ Some place → place < length xs
driver_there f xs old kind place k is e =
    let within : place < length old.held.filters = (is_first old kind place k e).on.is.driver in
    omega (arith, within, ap length is, length-map xs f)

pub pool_there : (old : BookView) (kind : FilterKind) (place : ℕ) → IsBook old → find (is_kind_at kind old.held.filters) old.held.shelf ≡ Some place → place < length old.held.filter_pools
pool_there old kind place k e = (is_first old kind place k e).on.is.pool

-- each place on the shelf has a driver
pub places_there : {X : Type 0} (f : X → FilterState) (xs : List X) (shelf : List ℕ) (old : BookView) → IsBook old → old.held.filters ≡ map f xs → shelf ≡ old.held.shelf → All (λ place. place < length xs) shelf
places_there f xs shelf old k is same =
    subst (All (λ place. place < length xs)) (sym same)
    (All-weaker (IsOnShelf old.held) (λ place. place < length xs) (λ place o. let within = o.is.driver in omega (arith, within, ap length is, length-map xs f)) old.held.shelf k.stands.shelved)
