-- A book that was opened stands: nothing is in hand, and no filter is attached.
use Rattle.std.proofs.Common.{◌≡◌, ℕ, List, [], ◌∷◌, Some, length, refl, sym, ap, subst, All, arith}
use Rattle.std.proofs.lemmas.List.Elements.{All-nil, All-weaker}
use Rattle.ndis_base.specs.declared.ModuleId.TheVariants.{Miniport}
use Rattle.journal_types.specs.declared.StackHead.{StackHead}
use Rattle.stack_rules.specs.declared.Attached.{Attached}
use Rattle.stack_rules.specs.Net.{start, attached}
use Rattle.rule_basics.proofs.Numbered.{numbered_start}
use Rattle.hand_lemmas.specs.Hands.{Hands}
use Rattle.hand_lemmas.proofs.Rows.{agrees_start, agrees_same}
use Rattle.book_lemmas.specs.Views.{HeldView, IsPlace, IsOnShelf, seat_of, held_pool, hands_of}
use Rattle.book_lemmas.specs.Opened.{IsOpened}
use Rattle.book_lemmas.specs.Stands.{Stands, IsSized, IsCarriedSized}

none_attached : (f : ℕ) (a : Attached) (entries : List Attached) → entries ≡ [] → attached f entries ≡ Some a → ⊥
none_attached f a [] e some = cc
none_attached f a (x ∷ entries) e some = cc

none_seated : (seats : List (ℕ × ℕ)) (f place : ℕ) → seats ≡ [] → seat_of seats f ≡ Some place → ⊥
none_seated [] f place e some = cc
none_seated (s ∷ seats) f place e some = cc

-- with nothing on its way it stands in the state in which every journal starts
pub stands_start : (head : StackHead) (held : HeldView) → IsOpened (start head) held → Stands (start head) [] held []
stands_start head held o =
    let none : Hands = record { queue = []; loose = []; kept = λ m. []; pools = held_pool held } in
    record {
      agrees = agrees_same (start head) none (hands_of [] held []) (record { queue = refl; loose = refl; kept = λ m. sym (o.kept m); pools = λ m. refl })
          (agrees_start (start head) (held_pool held) refl o.empty (numbered_start head));
      pools = o.pools;
      sized = record {
        carried = All-nil IsCarriedSized;
        loose_sized = All-nil IsSized;
        kept = λ m. subst (All IsSized) (sym (o.kept m)) (All-nil IsSized);
      };
      ring = omega (arith, ap length (o.kept Miniport));
      miniport_kind = o.miniport_kind;
      protocol_kinds = o.protocol_kinds;
      protocols = o.protocols;
      protocol_pools = o.protocol_pools;
      seated = λ f a there. absurd (none_attached f a (start head).modules.filters refl there);
      places = λ f place e. absurd (none_seated held.seats f place o.seats e);
      shelved = All-weaker (IsPlace held) (IsOnShelf held) (λ place is. record { is = is; vacant = λ f e. none_seated held.seats f place o.seats e }) held.shelf o.shelf;
      apart = λ f g place e k. absurd (none_seated held.seats f place o.seats e);
      resting = λ place none. o.resting place;
      drivers = (o.port, o.closed);
    }
