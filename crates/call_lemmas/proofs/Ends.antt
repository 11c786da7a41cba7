-- Where a call begins and where it ends, in a book.
use Rattle.std.proofs.Common.{◌≡◌, ℕ, ◌≤◌, List, [], ◌∷◌, ◌++◌, All, length, refl, sym, ap, ◌∙◌, subst, append-nil}
use Rattle.std.proofs.lemmas.List.Elements.{All-nil}
use Rattle.ndis_base.specs.declared.ModuleId.{ModuleId}
use Rattle.journal_types.specs.declared.Row.{Row}
use Rattle.journal_types.specs.declared.StackHead.{StackHead}
use Rattle.buffer_pools.specs.Views.{ListView, PoolView}
use Rattle.stack_rules.specs.Net.{Net, after_rows}
use Rattle.promise_rules.specs.declared.Call.{Call}
use Rattle.agenda_items.specs.declared.Carried.{Carried}
use Rattle.hand_lemmas.specs.Hands.{Hands, Agrees, put_at}
use Rattle.hand_lemmas.proofs.Rows.{agrees_same}
use Rattle.book_lemmas.specs.Views.{HeldView, kept_of, held_pool, hands_of}
use Rattle.book_lemmas.specs.Called.{IsCalled}
use Rattle.book_lemmas.specs.Leaves.{Leaves}
use Rattle.book_lemmas.specs.Stands.{Stands, IsSized, IsCarriedSized}
use Rattle.book_lemmas.proofs.Called.{called_hands, called_sized}
use Rattle.book_lemmas.proofs.Goes.{used_none}
use Rattle.book_lemmas.proofs.Standing.{stands_step}
use Rattle.driver_tray.specs.Tray.{TrayView}
use Rattle.call_lemmas.specs.InCall.{Beside, hands_in, AreSizedIn, InCall}
use Rattle.call_lemmas.proofs.Steps.{put_same, put_twice}

-- the tray of a stack with the pool of a module, and some of what was on its way in the hands of the event's function
pub enters : (t : TrayView) (held : HeldView) (m : ModuleId) (front : List Carried) (loose : List ListView) → Stands t.net (front ++ t.queue) held loose → t.caller ≡ m → t.pool ≡ held_pool held m
    → All IsCarriedSized front → All IsCarriedSized t.queue → InCall t (hands_of (front ++ t.queue) held loose) m [] [] [] t (record { front = front; loose = loose; kept = kept_of held m })
enters t held m front loose s caller pool sized_front sized_queue = record {
  agrees = agrees_same t.net (hands_of (front ++ t.queue) held loose) (hands_in (hands_of (front ++ t.queue) held loose) m t (record { front = front; loose = loose; kept = kept_of held m }))
      (record { queue = refl; loose = refl; kept = put_same m (kept_of held m) (kept_of held) refl; pools = put_same m t.pool (held_pool held) (sym pool) }) s.agrees;
  net = refl;
  rows_are = sym (append-nil t.rows);
  head = refl;
  turns = refl;
  told_by = refl;
  plain = tt;
  calls_are = refl;
  log_is = refl;
  quiet = λ k other. refl;
  caller = caller;
  sized = record { front = sized_front; queue = sized_queue; loose = s.sized.loose_sized; kept = s.sized.kept m };
  size = ap (λ (p : PoolView). p.size) pool;
  bytes = ap (λ (p : PoolView). p.bytes) pool;
  used = used_none t;
}

-- the book stands again once the call is over
pub leaves : {b : TrayView} {queue : List Carried} {held held' : HeldView} {m : ModuleId} {rows : List Row} {calls : List Call} {log : List (List (List ℕ))} {t : TrayView} {before loose kept : List ListView}
    → Stands b.net queue held before → InCall b (hands_of queue held before) m rows calls log t (record { front = []; loose = loose; kept = kept }) → IsCalled held held' m kept t.pool → Leaves held held'
    → length held'.miniport.kept ≤ b.net.head.port.ring → Stands t.net t.queue held' loose
leaves {b} {queue} {held} {held'} {m} {rows} {calls} {log} {t} {before} {loose} {kept} s i c l ring =
    stands_step b.net t.net queue t.queue held held' before loose rows s l i.plain i.net
    (agrees_same t.net (hands_in (hands_of queue held before) m t (record { front = []; loose = loose; kept = kept })) (hands_of t.queue held' loose) (called_hands t.queue loose c) i.agrees)
    (called_sized c s.sized.kept i.sized.kept i.sized.queue i.sized.loose) ring
