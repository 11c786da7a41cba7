-- What a filter does with a list that it is given: the rows that it writes are those of the rules for what it chose, and
-- the list is in other hands.
use Rattle.std.proofs.Common.{◌≡◌, ◌≢◌, ℕ, ◌+◌, ◌==◌, ◌&&◌, Bool, true, false, List, [], ◌∷◌, ◌++◌, Option, Some, None, length, sum_by, refl, sym, ap, ◌∙◌, subst, arith, append_assoc, append-nil, ne_eqb, eq-eqb}
use Rattle.flat_journal.proofs.Grown.{grown_by_frames}
use Rattle.ndis_base.specs.declared.ModuleId.{ModuleId}
use Rattle.ndis_base.specs.declared.ModuleId.TheVariants.{Filter}
use Rattle.ndis_base.specs.declared.ListStatus.{ListStatus}
use Rattle.ndis_base.specs.declared.ListStatus.TheVariants.{Dropped, Resources}
use Rattle.ndis_base.specs.declared.Origin.TheVariants as origin
use Rattle.program_types.specs.Apply.{applied}
use Rattle.journal_types.specs.declared.PassWay.{PassWay}
use Rattle.journal_types.specs.declared.Row.{Row}
use Rattle.journal_types.specs.declared.Row.TheVariants as row
use Rattle.journal_types.specs.declared.Setup.{Setup}
use Rattle.journal_types.specs.declared.Target.{Target}
use Rattle.buffer_pools.specs.declared.label.Label.{Label}
use Rattle.buffer_pools.specs.Views.{ListView, PoolView, Issues, live_count}
use Rattle.stack_rules.specs.declared.Attached.{Attached}
use Rattle.stack_rules.specs.declared.LiveList.{LiveList}
use Rattle.stack_rules.specs.Handled.{program, made_of, given_by, filter_rows}
use Rattle.stack_rules.specs.Net.{Net, Modules}
use Rattle.stack_rules.specs.Outcome.{list_no, config_no, max_frame}
use Rattle.stack_rules.specs.Places.{position, is_full, pool_of}
use Rattle.stack_rules.specs.Targets.{onward}
use Rattle.stack_rules.specs.Tests.{is_hold, same_frames}
use Rattle.promise_rules.specs.declared.Call.{Call}
use Rattle.promise_rules.specs.Calls.{call, called_by}
use Rattle.agenda_items.specs.declared.Carried.{Carried}
use Rattle.agenda_items.specs.declared.Carried.TheVariants.{List as a_list}
use Rattle.hand_lemmas.specs.Hands.{Common, Hands, in_state, in_hand, put_at}
use Rattle.hand_lemmas.specs.Frames.{AreSized}
use Rattle.hand_lemmas.proofs.Modules.{put_here}
use Rattle.hand_lemmas.proofs.Tells.{full_is}
use Rattle.driver_views.specs.States.{FilterState}
use Rattle.driver_tray.specs.Tray as tray
use Rattle.driver_tray.specs.Tray.{TrayView}
use Rattle.driver_calls.specs.Filters.{made_by, Handles}
use Rattle.driver_calls.specs.Filters.Handles.{drops, passes, holds, lacks, clones}
use Rattle.call_lemmas.specs.InCall.{Beside, hands_in, InCall}
use Rattle.call_lemmas.proofs.Miniports.{calm_in, home_row, homeward_in}
use Rattle.call_lemmas.proofs.Steps.{Wrote, wrote, in_given, in_turned_back, in_passed_front, in_passed_loose, in_kept, in_issued, used_row, onward_is, homeward_is}

-- The list that is worked goes on, or back.

-- the row by which a list goes on from a module
abbrev pub on_row : Modules → ModuleId → Common → Row
on_row ms m c = onward ms c.list c.direction (position ms.order m)

pub onward_in : {b : TrayView} {h : Hands} {m : ModuleId} {rows : List Row} {calls : List Call} {log : List (List (List ℕ))} {t : TrayView} {x : Beside} (l : ListView)
    → InCall b h m rows calls log t x → tray.onward_row t l ≡ on_row b.net.modules m (in_hand l)
onward_in {b} {h} {m} {rows} {calls} {log} {t} l i =
    ap (λ ms. on_row ms t.caller (in_hand l)) (calm_in i).modules ∙ ap (λ k. on_row b.net.modules k (in_hand l)) i.caller

pub in_on : {b : TrayView} {h : Hands} {m : ModuleId} {rows : List Row} {calls : List Call} {log : List (List (List ℕ))} {t : TrayView} {loose kept : List ListView} (l : ListView) (was : PassWay) (at : Target)
    → InCall b h m rows calls log t (record { front = a_list l was at ∷ []; loose = loose; kept = kept })
    → InCall b h m (rows ++ on_row b.net.modules m (in_hand l) ∷ []) calls log (tray.passed_on t l) (record { front = []; loose = loose; kept = kept })
in_on {b} {h} {m} {rows} {calls} {log} {t} {loose} {kept} l was at i =
    subst (λ r. InCall b h m (rows ++ r ∷ []) calls log (tray.passed_on t l) (record { front = []; loose = loose; kept = kept })) (onward_in l i)
    (in_passed_front l was at (tray.onward_row t l) i (onward_is t l))

pub in_homeward : {b : TrayView} {h : Hands} {m : ModuleId} {rows : List Row} {calls : List Call} {log : List (List (List ℕ))} {t : TrayView} {loose kept : List ListView} (l : ListView) (was : PassWay) (at : Target) (status : ListStatus)
    → InCall b h m rows calls log t (record { front = a_list l was at ∷ []; loose = loose; kept = kept })
    → InCall b h m (rows ++ home_row b.net.modules m (in_hand l) status ∷ []) calls log (tray.passed_back t l status) (record { front = []; loose = loose; kept = kept })
in_homeward {b} {h} {m} {rows} {calls} {log} {t} {loose} {kept} l was at status i =
    subst (λ r. InCall b h m (rows ++ r ∷ []) calls log (tray.passed_back t l status) (record { front = []; loose = loose; kept = kept })) (homeward_in l status i)
    (in_passed_front l was at (tray.homeward_row t l status) i (homeward_is t l status))

-- the rows by which a module turns a list back
abbrev pub back_rows : Modules → ModuleId → Common → ListStatus → List Row
back_rows ms m c status = row.TurnBack c.list m status ∷ home_row ms m c status ∷ []

pub in_back : {b : TrayView} {h : Hands} {m : ModuleId} {rows : List Row} {calls : List Call} {log : List (List (List ℕ))} {t : TrayView} {loose kept : List ListView} (l : ListView) (was : PassWay) (at : Target) (status : ListStatus)
    → InCall b h m rows calls log t (record { front = a_list l was at ∷ []; loose = loose; kept = kept })
    → InCall b h m (rows ++ back_rows b.net.modules m (in_hand l) status) calls log (tray.turned_back t l status) (record { front = []; loose = loose; kept = kept })
in_back {b} {h} {m} {rows} {calls} {log} {t} {loose} {kept} l was at status i =
    subst (λ rs. InCall b h m rs calls log (tray.turned_back t l status) (record { front = []; loose = loose; kept = kept }))
    (append_assoc rows (row.TurnBack l.label.number m status ∷ []) (home_row b.net.modules m (in_hand l) status ∷ []))
    (in_homeward l was at status (in_turned_back l.label.number status i))

-- The filter sends a clone in the place of the list that is worked, and keeps that.

-- the rows by which a module makes a clone of a list
abbrev pub clone_rows : Net → ModuleId → Common → List (List ℕ) → List Row
clone_rows net m c frames =
    row.Issue (list_no net.next.list) m (config_no net.modules.config) c.direction c.cancel (origin.Clone c.list) frames
    ∷ row.Keep c.list m
    ∷ onward net.modules (list_no net.next.list) c.direction (position net.modules.order m)
    ∷ []

clone_rows_are : (t : TrayView) (m : ModuleId) (l c : ListView) (frames : List (List ℕ)) (t2 : TrayView) → c.label ≡ tray.clone_label t l → c.frames ≡ frames → t.caller ≡ m → t2.net.modules ≡ t.net.modules → t2.caller ≡ t.caller
    → tray.issue_row c.label c.frames ∷ row.Keep l.label.number m ∷ tray.onward_row t2 c ∷ [] ≡ clone_rows t.net m (in_hand l) frames
clone_rows_are t m l c frames t2 label made caller modules same =
    ap (λ (k : Label). tray.issue_row k c.frames ∷ row.Keep l.label.number m ∷ onward t2.net.modules k.number k.direction (position t2.net.modules.order t2.caller) ∷ []) label
    ∙ ap (λ fs. tray.issue_row (tray.clone_label t l) fs ∷ row.Keep l.label.number m ∷ onward t2.net.modules (list_no t.net.next.list) l.label.direction (position t2.net.modules.order t2.caller) ∷ []) made
    ∙ ap (λ ms. tray.issue_row (tray.clone_label t l) frames ∷ row.Keep l.label.number m ∷ onward ms (list_no t.net.next.list) l.label.direction (position ms.order t2.caller) ∷ []) modules
    ∙ ap (λ k. tray.issue_row (tray.clone_label t l) frames ∷ row.Keep l.label.number m ∷ onward t.net.modules (list_no t.net.next.list) l.label.direction (position t.net.modules.order k) ∷ []) (same ∙ caller)
    ∙ ap (λ k. row.Issue (list_no t.net.next.list) k (config_no t.net.modules.config) l.label.direction l.label.cancel (origin.Clone l.label.number) frames
    ∷ row.Keep l.label.number m ∷ onward t.net.modules (list_no t.net.next.list) l.label.direction (position t.net.modules.order m) ∷ []) caller

-- the tray that has the pool with the clone, and shows its frames
issued_wrote : (t : TrayView) (c : ListView) (pool : PoolView) → pool.size ≡ t.pool.size → pool.bytes ≡ t.pool.bytes → Wrote t (tray.issue_row c.label c.frames) (tray.issued (record t { pool = pool }) c.label c.frames)
issued_wrote t c pool size bytes = record {
  net = refl;
  rows = refl;
  head = refl;
  turns = refl;
  told_by = refl;
  caller = refl;
  size = size;
  bytes = bytes;
  used = used_row t (tray.issued (record t { pool = pool }) c.label c.frames) (tray.issue_row c.label c.frames) (omega arith) (omega arith) (omega arith) (omega arith) (omega arith) (grown_by_frames t.payloads _ c.frames refl refl refl);
}

pub in_cloned : {b : TrayView} {h : Hands} {m : ModuleId} {rows : List Row} {calls : List Call} {log : List (List (List ℕ))} {t : TrayView} {loose kept : List ListView} (l : ListView) (was : PassWay) (at : Target) (c : ListView) (frames : List (List ℕ)) (pool : PoolView)
    → InCall b h m rows calls log t (record { front = a_list l was at ∷ []; loose = loose; kept = kept }) → c.label ≡ tray.clone_label t l → c.frames ≡ frames → AreSized frames → Issues t.pool c pool
    → InCall b h m (rows ++ clone_rows t.net m (in_hand l) frames) calls log (tray.cloned_on t l c pool) (record { front = []; loose = loose; kept = kept ++ l ∷ [] })
in_cloned {b} {h} {m} {rows} {calls} {log} {t} {loose} {kept} l was at c frames pool i label made sized issues =
    let r : Row = tray.issue_row c.label c.frames in
    let t1 : TrayView = tray.issued (record t { pool = pool }) c.label c.frames in
    let t2 : TrayView = tray.noted t1 l.label.number in
    let own : c.label.owner ≡ m = ap (λ (k : Label). k.owner) label ∙ i.caller in
    let number : c.label.number.0 ≡ t.net.next.list = ap (λ (k : Label). k.number.0) label in
    let w : Wrote t r t1 = issued_wrote t c pool issues.size issues.bytes in
    let loosed = in_issued c pool t1 i own number issues (subst AreSized (sym made) sized) w refl refl in
    let held = in_kept l was at loosed in
    let passed = in_passed_loose loose [] c (tray.onward_row t2 c) held (onward_is t2 c) in
    let x' : Beside = record { front = []; loose = loose; kept = kept ++ l ∷ [] } in
    subst (λ ls. InCall b h m (rows ++ clone_rows t.net m (in_hand l) frames) calls log (tray.cloned_on t l c pool) (record { front = []; loose = ls; kept = kept ++ l ∷ [] })) (append-nil loose)
    (subst (λ rs. InCall b h m rs calls log (tray.cloned_on t l c pool) (record { front = []; loose = loose ++ []; kept = kept ++ l ∷ [] }))
    (append_assoc (rows ++ r ∷ []) (row.Keep l.label.number m ∷ []) (tray.onward_row t2 c ∷ [])
    ∙ append_assoc rows (r ∷ []) (row.Keep l.label.number m ∷ tray.onward_row t2 c ∷ [])
    ∙ ap (λ rs. rows ++ rs) (clone_rows_are t m l c frames t2 label made i.caller refl refl)) passed)

-- What the rules say of a list at a filter, by what its program makes of the frames.

-- the row by which a filter is given a list
abbrev pub given_row : ModuleId → Common → Row
given_row m c = row.Give c.list m (given_by c.direction)

none_rows : (net : Net) (a : Attached) (x : LiveList) → made_of net a x ≡ None → filter_rows net a x false ≡ given_row (Filter a.filter) (in_state x) ∷ back_rows net.modules (Filter a.filter) (in_state x) Dropped
none_rows net a x made = rw made refl

same_rows : (net : Net) (a : Attached) (x : LiveList) (frames : List (List ℕ)) → made_of net a x ≡ Some frames → same_frames frames x.frames ≡ true
    → filter_rows net a x false ≡ given_row (Filter a.filter) (in_state x) ∷ on_row net.modules (Filter a.filter) (in_state x) ∷ []
same_rows net a x frames made same = rw (made, same) refl

held_rows : (net : Net) (a : Attached) (x : LiveList) (frames : List (List ℕ)) → made_of net a x ≡ Some frames → same_frames frames x.frames ≡ true → is_hold a.kind ≡ true
    → filter_rows net a x true ≡ given_row (Filter a.filter) (in_state x) ∷ row.Keep x.list (Filter a.filter) ∷ []
held_rows net a x frames made same hold = rw (made, same, hold) refl

lacked_rows : (net : Net) (a : Attached) (x : LiveList) (frames : List (List ℕ)) → made_of net a x ≡ Some frames → same_frames frames x.frames ≡ false → is_full net (Filter a.filter) ≡ true
    → filter_rows net a x false ≡ given_row (Filter a.filter) (in_state x) ∷ back_rows net.modules (Filter a.filter) (in_state x) Resources
lacked_rows net a x frames made other full = rw (made, other, full) refl

cloned_rows : (net : Net) (a : Attached) (x : LiveList) (frames : List (List ℕ)) → made_of net a x ≡ Some frames → same_frames frames x.frames ≡ false → is_full net (Filter a.filter) ≡ false
    → filter_rows net a x false ≡ given_row (Filter a.filter) (in_state x) ∷ clone_rows net (Filter a.filter) (in_state x) frames
cloned_rows net a x frames made other spare = rw (made, other, spare) refl

-- the filter that is called, and the list in hand that it is given
pub record IsGiven (net : Net) (a : Attached) (x : LiveList) (f : ℕ) (l : ListView) (s : FilterState) : Type 0 where
  pub number : a.filter ≡ f
  pub kind : s.kind ≡ a.kind
  pub same : in_state x ≡ in_hand l

-- rows in the words of the state are those in the words of the hand
in_words : {net : Net} {a : Attached} {x : LiveList} {f : ℕ} {l : ListView} {s : FilterState} (P : ModuleId → Common → List Row) → IsGiven net a x f l s → P (Filter f) (in_hand l) ≡ P (Filter a.filter) (in_state x)
in_words {a = a} {x = x} {l = l} P g = ap (λ k. P (Filter k) (in_hand l)) (sym g.number) ∙ ap (P (Filter a.filter)) (sym g.same)

made_is : (net : Net) (a : Attached) (x : LiveList) (l : ListView) (t : TrayView) → in_state x ≡ in_hand l → made_of net a x ≡ made_by a.setup l t
made_is net a x l t same = ap (λ (c : Common). applied 1518 (program a.setup c.direction) c.frames) same

alike_is : (x : LiveList) (l : ListView) (frames : List (List ℕ)) → in_state x ≡ in_hand l → same_frames frames x.frames ≡ same_frames frames l.frames
alike_is x l frames same = ap (λ (c : Common). same_frames frames c.frames) same

-- the rows are those of the rules for what the filter chose
pub record HandledAs (b : TrayView) (h : Hands) (f : ℕ) (calls : List Call) (a : Attached) (x : LiveList) (loose kept' : List ListView) (t' : TrayView) : Type 0 where
  pub keeps : Bool
  pub call_is : InCall b h (Filter f) (filter_rows b.net a x keeps) calls [] t' (record { front = []; loose = loose; kept = kept' })

handled_as : {b : TrayView} {h : Hands} {f : ℕ} {calls : List Call} {a : Attached} {x : LiveList} {loose kept' : List ListView} {t' : TrayView} (keeps : Bool) (kept : List ListView) (q : TrayView) (rows : List Row) → rows ≡ filter_rows b.net a x keeps
    → kept' ≡ kept → t' ≡ q → InCall b h (Filter f) rows calls [] q (record { front = []; loose = loose; kept = kept }) → HandledAs b h f calls a x loose kept' t'
handled_as {b} {h} {f} {calls} {a} {x} {loose} {kept'} {t'} keeps kept q rows are kept_is tray_is i = record {
  keeps = keeps;
  call_is =
      subst (λ rs. InCall b h (Filter f) rs calls [] t' (record { front = []; loose = loose; kept = kept' })) are
      (subst (λ ls. InCall b h (Filter f) rows calls [] t' (record { front = []; loose = loose; kept = ls })) (sym kept_is)
      (subst (λ (y : TrayView). InCall b h (Filter f) rows calls [] y (record { front = []; loose = loose; kept = kept })) (sym tray_is) i));
}

-- the pool of the module that is called is full where the rules say so
pub full_in : {b : TrayView} {h : Hands} {m : ModuleId} {rows : List Row} {calls : List Call} {log : List (List (List ℕ))} {t : TrayView} {x : Beside} → InCall b h m rows calls log t x → pool_of t.net m ≡ t.pool.size
    → is_full t.net m ≡ (live_count t.pool == t.pool.size)
full_in {h = h} {m = m} {t = t} {x = x} i size =
    let here : put_at m t.pool h.pools m ≡ t.pool = put_here m t.pool h.pools in
    full_is t.net (hands_in h m t x) m i.agrees (size ∙ ap (λ (p : PoolView). p.size) (sym here)) ∙ ap (λ (p : PoolView). live_count p == p.size) here

pub in_handled : {b : TrayView} {h : Hands} {f : ℕ} {t' : TrayView} {loose kept' : List ListView} (l : ListView) (was : PassWay) (at : Target) (s : FilterState) (a : Attached) (x : LiveList)
    → InCall b h (Filter f) [] [] [] b (record { front = a_list l was at ∷ []; loose = loose; kept = s.kept }) → IsGiven b.net a x f l s → is_full b.net (Filter f) ≡ (live_count b.pool == b.pool.size)
    → Handles s a.setup l (tray.given b l.label.number (given_by l.label.direction)) kept' t'
    → HandledAs b h f (call (Filter f) (called_by (given_by l.label.direction))) a x loose kept' t'
in_handled {b} l was at s a x i g full (drops made kept tray_is) =
    let given = in_given l.label.number (given_by l.label.direction) i in
    handled_as false _ _ _
    (in_words (λ m c. given_row m c ∷ back_rows b.net.modules m c Dropped) g ∙ sym (none_rows b.net a x (made_is b.net a x l b g.same ∙ made)))
    kept tray_is (in_back l was at Dropped given)
in_handled {b} l was at s a x i g full (passes frames made alike kept tray_is) =
    let given = in_given l.label.number (given_by l.label.direction) i in
    handled_as false _ _ _
    (in_words (λ m c. given_row m c ∷ on_row b.net.modules m c ∷ []) g ∙ sym (same_rows b.net a x frames (made_is b.net a x l b g.same ∙ made) (alike_is x l frames g.same ∙ alike)))
    kept tray_is (in_on l was at given)
in_handled {b} l was at s a x i g full (holds frames made alike hold kept tray_is) =
    let given = in_given l.label.number (given_by l.label.direction) i in
    handled_as true _ _ _
    (in_words (λ m c. given_row m c ∷ row.Keep c.list m ∷ []) g ∙ sym (held_rows b.net a x frames (made_is b.net a x l b g.same ∙ made) (alike_is x l frames g.same ∙ alike) (ap is_hold (sym g.kind) ∙ hold)))
    kept tray_is (in_kept l was at given)
in_handled {b} {f = f} l was at s a x i g full (lacks frames made alike none kept tray_is) =
    let given = in_given l.label.number (given_by l.label.direction) i in
    let is : is_full b.net (Filter a.filter) ≡ true = ap (λ k. is_full b.net (Filter k)) g.number ∙ full ∙ eq-eqb (live_count b.pool) b.pool.size none in
    handled_as false _ _ _
    (in_words (λ m c. given_row m c ∷ back_rows b.net.modules m c Resources) g ∙ sym (lacked_rows b.net a x frames (made_is b.net a x l b g.same ∙ made) (alike_is x l frames g.same ∙ alike) is))
    kept tray_is (in_back l was at Resources given)
in_handled {b} {f = f} l was at s a x i g full (clones frames c pool made alike spare label shown sized issues kept tray_is) =
    let given = in_given l.label.number (given_by l.label.direction) i in
    let is : is_full b.net (Filter a.filter) ≡ false = ap (λ k. is_full b.net (Filter k)) g.number ∙ full ∙ ne_eqb (live_count b.pool) b.pool.size spare in
    handled_as false _ _ _
    (in_words (λ m c. given_row m c ∷ clone_rows b.net m c frames) g ∙ sym (cloned_rows b.net a x frames (made_is b.net a x l b g.same ∙ made) (alike_is x l frames g.same ∙ alike) is))
    kept tray_is (in_cloned l was at c frames pool given label shown sized issues)
