-- What the parts of a book show.
use Rattle.std.specs.Prelude.{map}
use Rattle.driver_views.specs.States.{FilterState, MiniportState, ProtocolState}
use Rattle.book_lemmas.specs.Views.{BookView, HeldView}
use Rattle.book_parts.specs.declared.parts.BookParts.{BookParts}

-- what is held, by the states of the drivers
abbrev pub held_of : {M P F : Type 0} → (M → MiniportState) → (P → ProtocolState) → (F → FilterState) → BookParts M P F → HeldView
held_of m p f b = record {
  miniport = m b.miniport;
  protocols = map p b.protocols.items;
  filters = map f b.filters.items;
  shelf = b.shelf.items;
  seats = b.seats.items;
  miniport_pool = b.miniport_pool;
  protocol_pools = b.protocol_pools.items;
  filter_pools = b.filter_pools.items;
}

abbrev pub view_of : {M P F : Type 0} → (M → MiniportState) → (P → ProtocolState) → (F → FilterState) → BookParts M P F → BookView
view_of m p f b = record { tray = b.tray; held = held_of m p f b }
