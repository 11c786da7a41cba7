-- The filter of the next number is inserted: the book stands again.
use Rattle.std.proofs.Common.{◌≡◌, ℕ, ◌-◌, List, [], Option, Some, refl, sym, ap, ◌∙◌, subst, ne_eqb, ◌⊎◌, inl, inr}
use Rattle.std.specs.List.{insert}
use Rattle.std.proofs.lemmas.Bool.{cases_eq}
use Rattle.ndis_base.specs.declared.FilterKind.{FilterKind}
use Rattle.ndis_base.specs.declared.ModuleId.TheVariants.{Filter}
use Rattle.ndis_base.specs.declared.ModuleState.TheVariants as state
use Rattle.ndis_base.specs.declared.Phase.TheVariants as phase
use Rattle.journal_types.specs.declared.Setup.{Setup}
use Rattle.buffer_pools.specs.Views.{PoolView}
use Rattle.stack_rules.specs.declared.Attached.{Attached}
use Rattle.stack_rules.specs.Net.{Net, attached, with_filter, after, after_rows}
use Rattle.stack_rules.specs.Places.{pool_in}
use Rattle.stack_rules.specs.Rewires.{attach_rows, config_row, inserted}
use Rattle.state_laws.proofs.Takes.{attached-is}
use Rattle.agenda_items.specs.declared.Carried.{Carried}
use Rattle.driver_views.specs.States.{FilterState}
use Rattle.book_lemmas.specs.Leaves.{IsSeatedStill}
use Rattle.book_lemmas.specs.Views.{HeldView, seat_of}
use Rattle.book_lemmas.specs.Stands.{Stands, IsSeated, DriversFit}
use Rattle.book_lemmas.proofs.Phases.{still_phases}
use Rattle.rewire_work.specs.Rested.{IsAtRest}
use Rattle.rewire_work.specs.Reseated.{AreTheirs}
use Rattle.rewire_work.specs.Seated.{seated}
use Rattle.rewire_work.proofs.Orders.{fresh, in_longer, attached_new, attached_old}
use Rattle.rewire_work.proofs.Reseated.{stands_reseated}
use Rattle.rewire_work.proofs.Sitting.{MaySit, are_seated, pool_by, own_seat, other_seat}

pub theirs_seated : (held : HeldView) (f place : ℕ) (s : FilterState) (pool : PoolView) → AreTheirs held (seated held f place s pool)
theirs_seated held f place s pool = record {
  miniport_kind = refl;
  miniport_kept = refl;
  miniport_pool = refl;
  protocol_kinds = λ i. refl;
  protocols_kept = λ i. refl;
  protocols = refl;
  protocol_pools = refl;
}

-- what the new filter is attached with
abbrev pub new_entry : ℕ → FilterKind → Setup → Attached
new_entry f kind setup = record { filter = f; kind = kind; setup = setup; state = state.Detached }

one_entry : (a b : Attached) (o : Option Attached) → o ≡ Some a → o ≡ Some b → a ≡ b
one_entry a b o e k = cc

module _ (net : Net) (rest : IsAtRest net) (kind : FilterKind) (setup : Setup) where
  abbrev f : ℕ
  f = net.next.filter

  abbrev told_net : Net
  told_net = with_filter f kind setup net

  abbrev mid : Net
  mid = after_rows told_net (attach_rows f)

  still : IsSeatedStill told_net mid
  still = still_phases told_net (attach_rows f) (record {}, (record {}, record {}))

  is_new : attached f told_net.modules.filters ≡ Some (new_entry f kind setup)
  is_new = attached_new f net.modules.order net.modules.filters (new_entry f kind setup) refl (fresh f net.modules.order rest.wired.below) rest.wired.within

  is_old : (g : ℕ) → (g ≡ f → ⊥) → attached g told_net.modules.filters ≡ attached g net.modules.filters
  is_old g ne = attached_old g net.modules.filters (new_entry f kind setup) (ne_eqb f g (λ e. ne (sym e)))

  -- another filter that is attached was attached before
  pub was_there : (g : ℕ) (a : Attached) → attached g mid.modules.filters ≡ Some a → (g ≡ f → ⊥) → (was : Attached) × (attached g net.modules.filters ≡ Some was)
  was_there g a e ne = let w = still.filters g a e in (w.was, sym (is_old g ne) ∙ w.there)

  -- the pools that the rules give
  pub own_pool_now : pool_in (attached f mid.modules.filters) ≡ setup.pool
  own_pool_now = still.pools f ∙ ap pool_in is_new

  pub other_pools_now : (g : ℕ) → (g ≡ f → ⊥) → pool_in (attached g mid.modules.filters) ≡ pool_in (attached g net.modules.filters)
  other_pools_now g ne = still.pools g ∙ ap pool_in (is_old g ne)

  module _ (held : HeldView) (place : ℕ) (s : FilterState) (pool : PoolView) (may : MaySit held f place s pool) (kind_is : s.kind ≡ kind) (setup_is : s.setup ≡ Some setup) where
    seat_by : {queue : List Carried} → Stands net queue held [] → (g : ℕ) (a : Attached) → attached g mid.modules.filters ≡ Some a → (g ≡ f) ⊎ (g ≡ f → ⊥) → IsSeated (seated held f place s pool) a
    seat_by b g a e (inl same) =
        let w = still.filters g a e in
        let it : w.was ≡ new_entry f kind setup = one_entry w.was (new_entry f kind setup) (attached f told_net.modules.filters) (ap (λ k. attached k told_net.modules.filters) (sym same) ∙ w.there) is_new in
        own_seat held f place s pool may a
        (w.number ∙ ap (λ (x : Attached). x.filter) it)
        (kind_is ∙ sym (w.kind ∙ ap (λ (x : Attached). x.kind) it))
        (setup_is ∙ ap (λ x. Some x) (sym (w.setup ∙ ap (λ (x : Attached). x.setup) it)))
    seat_by b g a e (inr ne) =
        let w = still.filters g a e in
        let there : attached g net.modules.filters ≡ Some w.was = sym (is_old g ne) ∙ w.there in
        let sat : IsSeated held w.was = b.seated g w.was there in
        let number : a.filter ≡ g = w.number ∙ attached-is g net.modules.filters w.was there in
        other_seat held f place s pool may a (λ e. ne (sym number ∙ e)) (record {
          place = sat.place;
          seat = ap (seat_of held.seats) w.number ∙ sat.seat;
          kind = sat.kind ∙ sym w.kind;
          setup = sat.setup ∙ ap (λ x. Some x) (sym w.setup);
        })

    pub stands_inserted : {queue : List Carried} (position : ℕ) → Stands net queue held [] → net.phase ≡ phase.Paused → pool.size ≡ setup.pool → pool.bytes ≡ 1518
        → Stands (after_rows told_net (inserted net position).rows) queue (seated held f place s pool) []
    stands_inserted {queue} position b paused size bytes =
        let order : List ℕ = insert net.modules.order (position - 1) f in
        let now : Net = after mid (config_row net order) in
        let drivers : DriversFit net.head.port held phase.Paused = subst (DriversFit net.head.port held) paused b.drivers in
        stands_reseated net now queue held (seated held f place s pool) b rest.nothing
        (record { head = refl; bindings = refl; things = refl; next = refl }) (theirs_seated held f place s pool)
        (are_seated held f place s pool may {net = net} {now = now} {queue = queue} b rest.nothing
        (λ g i. pool_by held f place s pool may {net = net} {now = now} setup (λ k. b.pools (Filter k)) size bytes own_pool_now other_pools_now g (in_longer g f (position - 1) net.modules.order i) (cases_eq g f))
        (λ g a e. seat_by b g a e (cases_eq g f)))
        (subst (DriversFit net.head.port (seated held f place s pool)) (sym paused) drivers)
