-- A module turns some of the lists that it keeps back, one after the other, the oldest first.
use Rattle.std.proofs.Common.{◌≡◌, ℕ, ◌+◌, ◌*◌, ◌≤◌, not, Bool, true, false, cond, List, [], ◌∷◌, ◌++◌, flat_map, length, filter, refl, sym, ap, ◌∙◌, subst, arith, append_assoc, append-nil}
use Rattle.ndis_base.specs.declared.ModuleId.{ModuleId}
use Rattle.ndis_base.specs.declared.ListStatus.{ListStatus}
use Rattle.journal_types.specs.declared.Row.{Row}
use Rattle.journal_types.specs.declared.Row.TheVariants as row
use Rattle.buffer_pools.specs.Views.{ListView}
use Rattle.stack_rules.specs.Net.{Net, after}
use Rattle.rule_basics.specs.Numbers.{IsNumbered}
use Rattle.rule_basics.proofs.Numbered.{numbered_after}
use Rattle.promise_rules.specs.declared.Call.{Call}
use Rattle.agenda_items.specs.declared.Carried.{Carried}
use Rattle.agenda_items.specs.Waits.{waits_at}
use Rattle.hand_lemmas.specs.Hands.{Hands, in_hand}
use Rattle.driver_tray.specs.Tray as tray
use Rattle.driver_tray.specs.Tray.{TrayView}
use Rattle.call_lemmas.specs.InCall.{InCall}
use Rattle.call_lemmas.proofs.Filters.{back_rows}
use Rattle.call_lemmas.proofs.Miniports.{home_row, homeward_in}
use Rattle.call_lemmas.proofs.Steps.{IsPass, in_turned_back, in_passed_kept, homeward_is}
use Rattle.cancel_work.proofs.Waits.{waits_back, waits_pass}

-- the rows by which a module turns a list back
abbrev pub back_by : TrayView → ModuleId → ListStatus → ListView → List Row
back_by b m status l = back_rows b.net.modules m (in_hand l) status

-- a list that the module keeps
in_back_kept : {b : TrayView} {h : Hands} {m : ModuleId} {rows : List Row} {calls : List Call} {log : List (List (List ℕ))} {t : TrayView} {front : List Carried} {loose : List ListView} (status : ListStatus) (before back : List ListView) (l : ListView)
    → InCall b h m rows calls log t (record { front = front; loose = loose; kept = before ++ l ∷ back })
    → InCall b h m (rows ++ back_by b m status l) calls log (tray.turned_back t l status) (record { front = front; loose = loose; kept = before ++ back })
in_back_kept {b} {h} {m} {rows} {calls} {log} {t} {front} {loose} status before back l i =
    let t1 : TrayView = tray.written t (row.TurnBack l.label.number t.caller status) in
    let turned = in_turned_back l.label.number status i in
    subst (λ rs. InCall b h m rs calls log (tray.turned_back t l status) (record { front = front; loose = loose; kept = before ++ back }))
    (append_assoc rows (row.TurnBack l.label.number m status ∷ []) (home_row b.net.modules m (in_hand l) status ∷ []))
    (subst (λ q. InCall b h m ((rows ++ row.TurnBack l.label.number m status ∷ []) ++ q ∷ []) calls log (tray.turned_back t l status) (record { front = front; loose = loose; kept = before ++ back })) (homeward_in l status turned)
    (in_passed_kept before back l (tray.homeward_row t1 l status) turned (homeward_is t1 l status)))

pub in_each_back : {b : TrayView} {h : Hands} {m : ModuleId} {rows : List Row} {calls : List Call} {log : List (List (List ℕ))} {t : TrayView} {front : List Carried} {loose : List ListView} (status : ListStatus) (p : ListView → Bool) (before ls : List ListView)
    → InCall b h m rows calls log t (record { front = front; loose = loose; kept = before ++ ls })
    → InCall b h m (rows ++ flat_map (back_by b m status) (filter p ls)) calls log (tray.each_turned_back t (filter p ls) status) (record { front = front; loose = loose; kept = before ++ filter (λ l. not (p l)) ls })
in_each_back {b} {h} {m} {rows} {calls} {log} {t} {front} {loose} status p before [] i =
    subst (λ rs. InCall b h m rs calls log t (record { front = front; loose = loose; kept = before ++ [] })) (sym (append-nil rows)) i
in_each_back {b} {h} {m} {rows} {calls} {log} {t} {front} {loose} status p before (l ∷ ls) i =
    elim (p l) as (λ c. InCall b h m (rows ++ flat_map (back_by b m status) (cond c (l ∷ filter p ls) (filter p ls))) calls log (tray.each_turned_back t (cond c (l ∷ filter p ls) (filter p ls)) status)
    (record { front = front; loose = loose; kept = before ++ cond (not c) (l ∷ filter (λ k. not (p k)) ls) (filter (λ k. not (p k)) ls) })) [
      | true ↦ subst (λ rs. InCall b h m rs calls log (tray.each_turned_back (tray.turned_back t l status) (filter p ls) status) (record { front = front; loose = loose; kept = before ++ filter (λ k. not (p k)) ls }))
          (append_assoc rows (back_by b m status l) (flat_map (back_by b m status) (filter p ls)))
          (in_each_back {rows = rows ++ back_by b m status l} {t = tray.turned_back t l status} status p before ls (in_back_kept status before ls l i))
      | false ↦ subst (λ ks. InCall b h m (rows ++ flat_map (back_by b m status) (filter p ls)) calls log (tray.each_turned_back t (filter p ls) status) (record { front = front; loose = loose; kept = ks }))
          (append_assoc before (l ∷ []) (filter (λ k. not (p k)) ls))
          (in_each_back {rows = rows} {t = t} status p (before ++ l ∷ []) ls
          (subst (λ ks. InCall b h m rows calls log t (record { front = front; loose = loose; kept = ks })) (sym (append_assoc before (l ∷ []) ls)) i))
    ]

-- how much room that takes
pub record BackRoom (t : TrayView) (many : ℕ) (t' : TrayView) : Type 0 where
  pub rows : t.room.rows ≤ t'.room.rows + 2 * many
  pub slack : t.slack ≤ t'.slack + many

pub room_each : (t : TrayView) (ls : List ListView) (status : ListStatus) → BackRoom t (length ls) (tray.each_turned_back t ls status)
room_each t [] status = record { rows = omega arith; slack = omega arith }
room_each t (l ∷ ls) status =
    let more : BackRoom (tray.turned_back t l status) (length ls) (tray.each_turned_back (tray.turned_back t l status) ls status) = room_each (tray.turned_back t l status) ls status in
    let rows : t.room.rows ≤ (tray.turned_back t l status).room.rows + 2 = omega arith in
    let slack : t.slack ≤ (tray.turned_back t l status).slack + 1 = omega arith in
    record { rows = omega (arith, more.rows, rows); slack = omega (arith, more.slack, slack) }

-- where the lists are ready, which lists wait stays the same
numbered_pass : {l : ListView} {r : Row} (net : Net) → IsPass l r → IsNumbered net → IsNumbered (after net r)
numbered_pass net p n = subst (λ q. IsNumbered (after net q)) (sym p.is) (numbered_after net (row.Pass _ p.way p.to) tt n)

waits_row : {l : ListView} {r : Row} (net : Net) → IsPass l r → IsNumbered net → waits_at net l.label.number.0 ≡ false → (k : ℕ) → waits_at (after net r) k ≡ waits_at net k
waits_row {l} net p n ready k = ap (λ q. waits_at (after net q) k) p.is ∙ waits_pass net l.label.number p.way p.to n ready k

pub waits_each : (t : TrayView) (status : ListStatus) (p : ListView → Bool) (ls : List ListView) → IsNumbered t.net → ((l : ListView) → p l ≡ true → waits_at t.net l.label.number.0 ≡ false)
    → (k : ℕ) → waits_at (tray.each_turned_back t (filter p ls) status).net k ≡ waits_at t.net k
waits_each t status p [] n ready k = refl
waits_each t status p (l ∷ ls) n ready k = by (p l) refl (λ q m r. waits_each q status p ls m r k)
  where
    passes : IsPass l (tray.homeward_row (tray.written t (row.TurnBack l.label.number t.caller status)) l status)
    passes = homeward_is (tray.written t (row.TurnBack l.label.number t.caller status)) l status

    numbered : IsNumbered (after t.net (row.TurnBack l.label.number t.caller status))
    numbered = numbered_after t.net (row.TurnBack l.label.number t.caller status) tt n

    here : p l ≡ true → (j : ℕ) → waits_at (tray.turned_back t l status).net j ≡ waits_at t.net j
    here e j =
        waits_row (after t.net (row.TurnBack l.label.number t.caller status)) passes numbered (waits_back t.net l.label.number t.caller status l.label.number.0 ∙ ready l e) j
        ∙ waits_back t.net l.label.number t.caller status j

    by : (c : Bool) → p l ≡ c → ((q : TrayView) → IsNumbered q.net → ((x : ListView) → p x ≡ true → waits_at q.net x.label.number.0 ≡ false) → waits_at (tray.each_turned_back q (filter p ls) status).net k ≡ waits_at q.net k)
        → waits_at (tray.each_turned_back t (cond c (l ∷ filter p ls) (filter p ls)) status).net k ≡ waits_at t.net k
    by true e more = more (tray.turned_back t l status) (numbered_pass (after t.net (row.TurnBack l.label.number t.caller status)) passes numbered) (λ x f. here e x.label.number.0 ∙ ready x f) ∙ here e k
    by false e more = more t n ready
