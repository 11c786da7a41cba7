-- Rows of lists that are lent: a copy goes on in the place of one, and one that is in hand is home.
use Rattle.std.proofs.Common.{◌≡◌, ℕ, List, [], ◌∷◌, ◌++◌, None, refl, sym, ap, ◌∙◌, subst, arith, append_assoc, append-nil}
use Rattle.std.proofs.lemmas.List.Elements.{All-nil}
use Rattle.flat_journal.proofs.Grown.{grown_by_frames}
use Rattle.ndis_base.specs.declared.Direction.TheVariants as direction
use Rattle.ndis_base.specs.declared.ListNo.{ListNo}
use Rattle.ndis_base.specs.declared.ListStatus.{ListStatus}
use Rattle.ndis_base.specs.declared.ModuleId.{ModuleId}
use Rattle.ndis_base.specs.declared.ModuleId.TheVariants.{Miniport, Filter, Binding}
use Rattle.ndis_base.specs.declared.Origin.TheVariants as origin
use Rattle.journal_types.specs.declared.Row.{Row}
use Rattle.journal_types.specs.declared.Row.TheVariants as row
use Rattle.buffer_pools.specs.declared.label.Label.{Label}
use Rattle.buffer_pools.specs.Views.{ListView, PoolView, Frees}
use Rattle.stack_rules.specs.Net.{Net, after, lists, list_of}
use Rattle.stack_rules.specs.Outcome.{root, list_no, config_no}
use Rattle.stack_rules.specs.Places.{position}
use Rattle.stack_rules.specs.Targets.{onward}
use Rattle.promise_rules.specs.declared.Call.{Call}
use Rattle.promise_rules.specs.Calls.{home_call, logged_at}
use Rattle.hand_lemmas.specs.Frames.{AreSized}
use Rattle.hand_lemmas.specs.Hands.{Common, Hands, put_at}
use Rattle.hand_lemmas.proofs.Modules.{put_here}
use Rattle.hand_lemmas.proofs.Rows.{agrees_same}
use Rattle.hand_lemmas.proofs.Steps.{homed_loose}
use Rattle.hand_lemmas.proofs.Tells.{loose_there}
use Rattle.book_lemmas.specs.Did.{direction_of}
use Rattle.book_lemmas.specs.Stands.{IsSized}
use Rattle.driver_tray.specs.Tray as tray
use Rattle.driver_tray.specs.Tray.{TrayView, Copies, LendsOut}
use Rattle.call_lemmas.specs.InCall.{Beside, hands_in, InCall}
use Rattle.call_lemmas.proofs.Steps.{Wrote, wrote, used_row, put_twice, onward_is, in_row, in_issued, in_passed_loose}

-- the row by which the miniport issues a list that it lends
pub in_lent_out : {b : TrayView} {h : Hands} {m : ModuleId} {rows : List Row} {calls : List Call} {log : List (List (List ℕ))} {t t' : TrayView} {loose kept : List ListView} {made : List (List ℕ)} (l : ListView)
    → InCall b h m rows calls log t (record { front = []; loose = loose; kept = kept }) → LendsOut t made l t' → AreSized made
    → InCall b h m (rows ++ root t.net t.net.next.list m direction.Lent None made ∷ []) calls log t' (record { front = []; loose = loose ++ l ∷ []; kept = kept })
in_lent_out {b} {h} {m} {rows} {calls} {log} {t} {t'} {loose} {kept} {made} l i s sized =
    let r : Row = tray.issue_row l.label l.frames in
    let t1 : TrayView = tray.written (record t { pool = t'.pool }) r in
    let own : l.label.owner ≡ m = ap (λ (k : Label). k.owner) s.label ∙ i.caller in
    let number : l.label.number.0 ≡ t.net.next.list = ap (λ (k : Label). k.number.0) s.label in
    let row_is : r ≡ root t.net t.net.next.list m direction.Lent None made =
    ap (λ (k : Label). tray.issue_row k l.frames) s.label
    ∙ ap (λ fs. tray.issue_row (tray.root_label t direction.Lent None) fs) s.frames
    ∙ ap (λ k. root t.net t.net.next.list k direction.Lent None made) i.caller in
    subst (λ (q : TrayView). InCall b h m (rows ++ root t.net t.net.next.list m direction.Lent None made ∷ []) calls log q (record { front = []; loose = loose ++ l ∷ []; kept = kept })) (sym s.tray)
    (subst (λ q. InCall b h m (rows ++ q ∷ []) calls log t1 (record { front = []; loose = loose ++ l ∷ []; kept = kept })) row_is
    (in_issued l t'.pool t1 i own number s.issues (subst AreSized (sym s.frames) sized) (wrote t r t.queue t.slack t'.pool (omega arith) s.issues.size s.issues.bytes) refl refl))

-- the rows by which a module passes a copy on in the place of a list that is lent to it
abbrev pub copy_rows : Net → ModuleId → ListNo → List (List ℕ) → List Row
copy_rows net m lent frames =
    row.Issue (list_no net.next.list) m (config_no net.modules.config) direction.Up None (origin.Copy lent) frames
    ∷ onward net.modules (list_no net.next.list) direction.Up (position net.modules.order m)
    ∷ []

copy_rows_are : (t : TrayView) (m : ModuleId) (l c : ListView) (frames : List (List ℕ)) (t1 : TrayView) → c.label ≡ tray.copy_label t l → c.frames ≡ frames → t.caller ≡ m → t1.net.modules ≡ t.net.modules → t1.caller ≡ t.caller
    → tray.issue_row c.label c.frames ∷ tray.onward_row t1 c ∷ [] ≡ copy_rows t.net m l.label.number frames
copy_rows_are t m l c frames t1 label made caller modules same =
    ap (λ (k : Label). tray.issue_row k c.frames ∷ onward t1.net.modules k.number k.direction (position t1.net.modules.order t1.caller) ∷ []) label
    ∙ ap (λ fs. tray.issue_row (tray.copy_label t l) fs ∷ onward t1.net.modules (list_no t.net.next.list) direction.Up (position t1.net.modules.order t1.caller) ∷ []) made
    ∙ ap (λ ms. tray.issue_row (tray.copy_label t l) frames ∷ onward ms (list_no t.net.next.list) direction.Up (position ms.order t1.caller) ∷ []) modules
    ∙ ap (λ k. tray.issue_row (tray.copy_label t l) frames ∷ onward t.net.modules (list_no t.net.next.list) direction.Up (position t.net.modules.order k) ∷ []) (same ∙ caller)
    ∙ ap (λ k. row.Issue (list_no t.net.next.list) k (config_no t.net.modules.config) direction.Up None (origin.Copy l.label.number) frames
    ∷ onward t.net.modules (list_no t.net.next.list) direction.Up (position t.net.modules.order m) ∷ []) caller

issued_wrote : (t : TrayView) (c : ListView) (pool : PoolView) → pool.size ≡ t.pool.size → pool.bytes ≡ t.pool.bytes → Wrote t (tray.issue_row c.label c.frames) (tray.issued (record t { pool = pool }) c.label c.frames)
issued_wrote t c pool size bytes = record {
  net = refl;
  rows = refl;
  head = refl;
  turns = refl;
  told_by = refl;
  caller = refl;
  size = size;
  bytes = bytes;
  used = used_row t (tray.issued (record t { pool = pool }) c.label c.frames) (tray.issue_row c.label c.frames) (omega arith) (omega arith) (omega arith) (omega arith) (omega arith) (grown_by_frames t.payloads _ c.frames refl refl refl);
}

pub in_copied : {b : TrayView} {h : Hands} {m : ModuleId} {rows : List Row} {calls : List Call} {log : List (List (List ℕ))} {t t' : TrayView} {loose kept : List ListView} {frames : List (List ℕ)} (l : ListView)
    → InCall b h m rows calls log t (record { front = []; loose = loose; kept = kept }) → Copies t l frames t' → AreSized frames
    → InCall b h m (rows ++ copy_rows t.net m l.label.number frames) calls log t' (record { front = []; loose = loose; kept = kept })
in_copied {b} {h} {m} {rows} {calls} {log} {t} {t'} {loose} {kept} {frames} l i s sized =
    let c : ListView = s.copy in
    let r : Row = tray.issue_row c.label c.frames in
    let t1 : TrayView = tray.issued (record t { pool = t'.pool }) c.label c.frames in
    let own : c.label.owner ≡ m = ap (λ (k : Label). k.owner) s.label ∙ i.caller in
    let number : c.label.number.0 ≡ t.net.next.list = ap (λ (k : Label). k.number.0) s.label in
    let loosed = in_issued c t'.pool t1 i own number s.issues (subst AreSized (sym s.frames) sized) (issued_wrote t c t'.pool s.issues.size s.issues.bytes) refl refl in
    let passed = in_passed_loose loose [] c (tray.onward_row t1 c) loosed (onward_is t1 c) in
    subst (λ (q : TrayView). InCall b h m (rows ++ copy_rows t.net m l.label.number frames) calls log q (record { front = []; loose = loose; kept = kept })) (sym s.tray)
    (subst (λ ls. InCall b h m (rows ++ copy_rows t.net m l.label.number frames) calls log (tray.copied_on t c t'.pool) (record { front = []; loose = ls; kept = kept })) (append-nil loose)
    (subst (λ rs. InCall b h m rs calls log (tray.copied_on t c t'.pool) (record { front = []; loose = loose ++ []; kept = kept }))
    (append_assoc rows (r ∷ []) (tray.onward_row t1 c ∷ []) ∙ ap (λ rs. rows ++ rs) (copy_rows_are t m l c frames t1 s.label s.frames i.caller refl refl)) passed))

still_home : (n : ListNo) (owner : ModuleId) (status : ListStatus) (k : ModuleId) → logged_at k (row.Home n owner status) ≡ []
still_home n owner status Miniport = refl
still_home n owner status (Filter f) = refl
still_home n owner status (Binding b) = refl

-- a list in hand is home, in its owner's pool
pub in_homed : {b : TrayView} {h : Hands} {m : ModuleId} {rows : List Row} {calls : List Call} {log : List (List (List ℕ))} {t : TrayView} {kept : List ListView} (l : ListView) (status : ListStatus) (pool : PoolView)
    → InCall b h m rows calls log t (record { front = []; loose = l ∷ []; kept = kept }) → l.label.owner ≡ m → Frees t.pool l pool
    → InCall b h m (rows ++ row.Home l.label.number l.label.owner status ∷ []) (calls ++ home_call l.label.owner l.label.direction) log (tray.spent t l status pool) (record { front = []; loose = []; kept = kept })
in_homed {b} {h} {m} {rows} {calls} {log} {t} {kept} l status pool i own frees =
    let x : Beside = record { front = []; loose = l ∷ []; kept = kept } in
    let x' : Beside = record { front = []; loose = []; kept = kept } in
    let r : Row = row.Home l.label.number l.label.owner status in
    let now : Net = after t.net r in
    let t' : TrayView = tray.spent t l status pool in
    let mine = (loose_there t.net (hands_in h m t x) [] l [] i.agrees refl).mine in
    let way : direction_of (list_of l.label.number.0 (lists t.net.things)) ≡ l.label.direction = ap direction_of mine.live ∙ ap (λ (c : Common). c.direction) mine.same in
    let pool_is : put_at m t.pool h.pools l.label.owner ≡ t.pool = ap (put_at m t.pool h.pools) own ∙ put_here m t.pool h.pools in
    subst (λ ls. InCall b h m (rows ++ r ∷ []) (calls ++ home_call l.label.owner l.label.direction) ls t' x') (append-nil log)
    (in_row r (home_call l.label.owner l.label.direction) [] t' x' i (wrote t r t.queue t.slack pool (omega arith) frees.size frees.bytes) tt (ap (home_call l.label.owner) way)
    (still_home l.label.number l.label.owner status m) (λ k other. still_home l.label.number l.label.owner status k)
    (agrees_same now _ (hands_in h m t' x')
    (record { queue = refl; loose = refl; kept = λ k. refl; pools = λ k. ap (λ o. put_at o pool (put_at m t.pool h.pools) k) own ∙ put_twice m pool t.pool h.pools k })
    (homed_loose t.net l l.label.owner status pool (hands_in h m t x) [] [] i.agrees refl (subst (λ p. Frees p l pool) (sym pool_is) frees)))
    (record { front = i.sized.front; queue = i.sized.queue; loose = All-nil IsSized; kept = i.sized.kept }))
