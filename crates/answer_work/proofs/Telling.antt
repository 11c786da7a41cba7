-- The protocol of a binding among all protocols, and what a filter wants.
use Rattle.std.proofs.Common.{◌≡◌, ℕ, ◌<◌, List, IsSome, length, map, slice_index_or, slice_set, sym, ap, ◌∙◌, subst, arith}
use Rattle.std.proofs.Math.Seq.{map-set}
use Rattle.ndis_base.specs.declared.ModuleId.TheVariants.{Filter}
use Rattle.promise_rules.specs.declared.Called.TheVariants as called
use Rattle.driver_views.specs.States.{FilterState, ProtocolState}
use Rattle.driver_tray.specs.Tray.{TrayView}
use Rattle.driver_calls.specs.Filters.{MayFinish}
use Rattle.driver_calls.specs.Rooms.{CanCount}
use Rattle.book_lemmas.specs.Views.{no_protocol}
use Rattle.binding_work.proofs.Homing.{old_at}
use Rattle.answer_work.specs.Rooms.{IsReady}
use Rattle.answer_work.specs.Told.{heard}

-- it counts that it is told
pub hears : {P : Type 0} (f : P → ProtocolState) (items : List P) (n : ℕ) (old new : P) → old ≡ slice_index_or items n old → n < length items → f new ≡ heard (f old)
    → map f (slice_set items n new) ≡ slice_set (map f items) n (heard (slice_index_or (map f items) n no_protocol))
hears f items n old new place within same = map-set f items n new ∙ ap (slice_set (map f items) n) (same ∙ ap heard (sym (old_at f items n no_protocol old within place)))

-- a filter may be told that a clone is done
pub may_finish : (f : ℕ) (s : FilterState) (value : List ℕ) (t now : TrayView) → now ≡ record t { caller = Filter f } → IsSome s.setup → CanCount called.OidComplete s.did.served → IsReady 1 (length value) t → MayFinish s value now
may_finish f s value t now is setup count ready =
    subst (λ (x : TrayView). MayFinish s value x) (sym is) (record {
      setup = setup;
      count = count;
      room = record { room = record { rows = omega (arith, ready.rows); slack = omega (arith, ready.slack) }; frame_room = omega (arith, ready.frames); byte_room = ready.bytes };
    })
