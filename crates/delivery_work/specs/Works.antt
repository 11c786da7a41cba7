-- What a receive at the bindings wants and does, in a book.
use Rattle.std.specs.Prelude.{◌≡◌, true, ℕ, ◌≤◌, List, [], ◌∷◌, length}
use Rattle.std.specs.List.{All}
use Rattle.buffer_pools.specs.Views.{PoolView}
use Rattle.book_lemmas.specs.Stands.{IsCarriedSized}
use Rattle.book_parts.specs.Events.{FirstIs}
use Rattle.journal_types.specs.declared.PassWay.TheVariants as way
use Rattle.journal_types.specs.declared.Target.TheVariants.{Bindings}
use Rattle.buffer_pools.specs.Views.{ListView}
use Rattle.agenda_items.specs.declared.Carried.TheVariants.{List as a_list}
use Rattle.driver_tray.specs.Tray.{TrayView}
use Rattle.book_lemmas.specs.Views.{BookView}
use Rattle.binding_work.specs.Ups.{HasGoneBack}
use Rattle.delivery_work.specs.Takers.{takers_from}
use Rattle.delivery_work.specs.Desks.{Delivers, CanTake, HasRoomFrom, desk}

-- there is room for a turn in which all bindings of a stack take a list
pub record IsReadyForAll (many : ℕ) (v : BookView) : Type 0 where
  pub turns : 1 ≤ v.tray.room.turns
  pub room : HasRoomFrom 0 many v.tray
  pub counts : All CanTake v.held.protocols

-- the first list on its way, a receive, was delivered to those that take it, or went back, since nobody does
pub data Works (many : ℕ) (old new : BookView) : Type 0 where
  delivers : (l : ListView) (t : TrayView) (b : ℕ) (bs : List ℕ) → old.tray ≡ record t { queue = a_list l way.Up Bindings ∷ t.queue }
      → takers_from t.net l.frames 0 many ≡ b ∷ bs → Delivers l b bs (desk old.held.protocols old.held.protocol_pools t) (desk new.held.protocols new.held.protocol_pools new.tray)
      → new.held ≡ record old.held { protocols = new.held.protocols; protocol_pools = new.held.protocol_pools } → Works many old new
  returns : (g : HasGoneBack true old new) → takers_from old.tray.net g.list.frames 0 many ≡ [] → Works many old new

-- there is room in the tray for deliveries to so many bindings
pub record IsTrayReady (many : ℕ) (t : TrayView) : Type 0 where
  pub turns : 1 ≤ t.room.turns
  pub room : HasRoomFrom 0 many t

-- the first thing on its way is a receive at the bindings, and there is room to deliver it to all of them
pub record MayWork (many : ℕ) (v : BookView) : Type 0 where
  pub first : FirstIs v way.Up Bindings
  pub sized : All IsCarriedSized v.tray.queue
  pub some : 1 ≤ many
  pub protocols : many ≡ length v.held.protocols
  pub pools : length v.held.protocol_pools ≡ length v.held.protocols
  pub bytes : All (λ (p : PoolView). p.bytes ≡ 1518) v.held.protocol_pools
  pub ready : IsReadyForAll many v
