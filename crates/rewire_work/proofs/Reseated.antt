-- A book stands again where its filters sit at other places, while no list is live.
use Rattle.std.proofs.Common.{◌≡◌, ◌≤◌, ◌<◌, List, [], length, slice_index_or, sym, ap, ◌∙◌, subst, All}
use Rattle.std.proofs.lemmas.List.Elements.{All-nil}
use Rattle.ndis_base.specs.declared.ModuleId.{ModuleId}
use Rattle.ndis_base.specs.declared.ModuleId.TheVariants.{Miniport, Filter, Binding}
use Rattle.ndis_base.specs.declared.ProtocolKind.TheVariants as protocol_kind
use Rattle.journal_types.specs.declared.StackHead.{StackHead}
use Rattle.buffer_pools.specs.Views.{ListView, PoolView, live_count}
use Rattle.stack_rules.specs.Heads.{kind_of_binding}
use Rattle.stack_rules.specs.Net.{Net, lists}
use Rattle.state_laws.specs.Laws.{IsThere}
use Rattle.rule_basics.specs.Live.{IsApart, IsBelow}
use Rattle.rule_basics.specs.Numbers.{IsNumbered}
use Rattle.agenda_items.specs.declared.Carried.{Carried}
use Rattle.book_lemmas.specs.Views.{HeldView, no_pool, held_pool, kept_of, hands_of}
use Rattle.book_lemmas.specs.Stands.{Stands, IsPoolOf, IsSized, DriversFit}
use Rattle.rewire_work.specs.Reseated.{IsSameStack, AreTheirs, AreSeated}
use Rattle.rewire_work.proofs.Empty.{kept_none, live_none, agrees_empty}

pub numbered_same : (net now : Net) → IsSameStack net now → IsNumbered net → IsNumbered now
numbered_same net now s n = record {
  apart = subst (λ ts. IsApart (lists ts)) (sym s.things) n.apart;
  below = subst (λ ts. IsBelow now.next.list (lists ts)) (sym s.things) (subst (λ n. IsBelow n (lists net.things)) (sym s.next) n.below);
}

pub stands_reseated : (net now : Net) (queue : List Carried) (old new : HeldView) → Stands net queue old [] → lists net.things ≡ [] → IsSameStack net now → AreTheirs old new → AreSeated now new → DriversFit now.head.port new now.phase → Stands now queue new []
stands_reseated net now queue old new s none same theirs seats drivers =
    record {
      agrees = agrees_empty net now (hands_of queue old []) (kept_of new) (held_pool new) s.agrees none same.things (numbered_same net now same s.agrees.numbered) kept empty;
      pools = pools;
      sized = record { carried = s.sized.carried; loose_sized = All-nil IsSized; kept = λ m. subst (All IsSized) (sym (kept m)) (All-nil IsSized) };
      ring = subst (λ (h : StackHead). length new.miniport.kept ≤ h.port.ring) (sym same.head) (subst (λ (ls : List ListView). length ls ≤ net.head.port.ring) (sym theirs.miniport_kept) s.ring);
      miniport_kind = theirs.miniport_kind ∙ s.miniport_kind ∙ ap (λ (h : StackHead). h.kind) (sym same.head);
      protocol_kinds = λ i within. theirs.protocol_kinds i ∙ s.protocol_kinds i (subst (λ (h : StackHead). i < length h.bindings) same.head within) ∙ ap (λ h. kind_of_binding h i) (sym same.head);
      protocols = theirs.protocols ∙ s.protocols ∙ ap (λ (h : StackHead). length h.bindings) (sym same.head);
      protocol_pools = ap length theirs.protocol_pools ∙ s.protocol_pools ∙ ap (λ (h : StackHead). length h.bindings) (sym same.head);
      seated = seats.seated;
      places = seats.places;
      shelved = seats.shelved;
      apart = seats.apart;
      resting = seats.resting;
      drivers = drivers;
    }
  where
    kept : (m : ModuleId) → kept_of new m ≡ []
    kept Miniport = theirs.miniport_kept ∙ kept_none net (hands_of queue old []) s.agrees none Miniport
    kept (Filter f) = seats.kept f
    kept (Binding i) = theirs.protocols_kept i ∙ kept_none net (hands_of queue old []) s.agrees none (Binding i)

    empty : (m : ModuleId) → live_count (held_pool new m) ≡ 0
    empty Miniport = ap live_count theirs.miniport_pool ∙ live_none net (hands_of queue old []) s.agrees none Miniport
    empty (Filter f) = seats.empty f
    empty (Binding i) = ap (λ ps. live_count (slice_index_or ps i no_pool)) theirs.protocol_pools ∙ live_none net (hands_of queue old []) s.agrees none (Binding i)

    pools : (m : ModuleId) → IsThere now m → IsPoolOf now m (held_pool new m)
    pools Miniport there =
        let p = s.pools Miniport tt in
        record { size = ap (λ (p : PoolView). p.size) theirs.miniport_pool ∙ p.size ∙ ap (λ (h : StackHead). h.port.pool) (sym same.head); bytes = ap (λ (p : PoolView). p.bytes) theirs.miniport_pool ∙ p.bytes }
    pools (Filter f) there = seats.pools f there
    pools (Binding i) there =
        let p = s.pools (Binding i) (subst (λ n. i < n) same.bindings there) in
        record {
          size = ap (λ ps. (slice_index_or ps i no_pool).size) theirs.protocol_pools ∙ p.size ∙ ap (λ (h : StackHead). (slice_index_or h.bindings i (protocol_kind.Log, 0)).1) (sym same.head);
          bytes = ap (λ ps. (slice_index_or ps i no_pool).bytes) theirs.protocol_pools ∙ p.bytes;
        }
