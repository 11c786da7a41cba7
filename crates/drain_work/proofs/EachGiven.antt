-- A module gives some of the lists that it keeps away, one after the other, the oldest first.
use Rattle.std.proofs.Common.{◌≡◌, ℕ, ◌+◌, not, Bool, true, false, cond, List, [], ◌∷◌, ◌++◌, length, map, filter, refl, sym, ap, ◌∙◌, subst, arith, append_assoc, append-nil, length-append}
use Rattle.ndis_base.specs.declared.ModuleId.{ModuleId}
use Rattle.ndis_base.specs.declared.ListStatus.{ListStatus}
use Rattle.journal_types.specs.declared.Row.{Row}
use Rattle.buffer_pools.specs.Views.{ListView}
use Rattle.promise_rules.specs.declared.Call.{Call}
use Rattle.agenda_items.specs.declared.Carried.{Carried}
use Rattle.agenda_items.specs.Views.{passed_by}
use Rattle.hand_lemmas.specs.Hands.{Hands, in_hand}
use Rattle.driver_tray.specs.Tray as tray
use Rattle.driver_tray.specs.Tray.{TrayView}
use Rattle.call_lemmas.specs.InCall.{InCall}
use Rattle.call_lemmas.proofs.Filters.{on_row, onward_in}
use Rattle.call_lemmas.proofs.Miniports.{home_row, homeward_in}
use Rattle.call_lemmas.proofs.Steps.{IsPass, in_passed_kept, onward_is, homeward_is}

-- the rows by which a list goes on from a module, and home
abbrev pub on_by : TrayView → ModuleId → ListView → Row
on_by b m l = on_row b.net.modules m (in_hand l)

abbrev pub home_by : TrayView → ModuleId → ListStatus → ListView → Row
home_by b m status l = home_row b.net.modules m (in_hand l) status

pub in_each_on : {b : TrayView} {h : Hands} {m : ModuleId} {rows : List Row} {calls : List Call} {log : List (List (List ℕ))} {t : TrayView} {front : List Carried} {loose : List ListView} (p : ListView → Bool) (before ls : List ListView)
    → InCall b h m rows calls log t (record { front = front; loose = loose; kept = before ++ ls })
    → InCall b h m (rows ++ map (on_by b m) (filter p ls)) calls log (tray.each_passed_on t (filter p ls)) (record { front = front; loose = loose; kept = before ++ filter (λ l. not (p l)) ls })
in_each_on {b} {h} {m} {rows} {calls} {log} {t} {front} {loose} p before [] i =
    subst (λ rs. InCall b h m rs calls log t (record { front = front; loose = loose; kept = before ++ [] })) (sym (append-nil rows)) i
in_each_on {b} {h} {m} {rows} {calls} {log} {t} {front} {loose} p before (l ∷ ls) i =
    elim (p l) as (λ c. InCall b h m (rows ++ map (on_by b m) (cond c (l ∷ filter p ls) (filter p ls))) calls log (tray.each_passed_on t (cond c (l ∷ filter p ls) (filter p ls)))
    (record { front = front; loose = loose; kept = before ++ cond (not c) (l ∷ filter (λ k. not (p k)) ls) (filter (λ k. not (p k)) ls) })) [
      | true ↦ subst (λ rs. InCall b h m rs calls log (tray.each_passed_on (tray.passed_on t l) (filter p ls)) (record { front = front; loose = loose; kept = before ++ filter (λ k. not (p k)) ls }))
          (append_assoc rows (on_by b m l ∷ []) (map (on_by b m) (filter p ls)))
          (in_each_on {rows = rows ++ on_by b m l ∷ []} {t = tray.passed_on t l} p before ls
          (subst (λ q. InCall b h m (rows ++ q ∷ []) calls log (tray.passed_on t l) (record { front = front; loose = loose; kept = before ++ ls })) (onward_in l i)
          (in_passed_kept before ls l (tray.onward_row t l) i (onward_is t l))))
      | false ↦ subst (λ ks. InCall b h m (rows ++ map (on_by b m) (filter p ls)) calls log (tray.each_passed_on t (filter p ls)) (record { front = front; loose = loose; kept = ks }))
          (append_assoc before (l ∷ []) (filter (λ k. not (p k)) ls))
          (in_each_on {rows = rows} {t = t} p (before ++ l ∷ []) ls
          (subst (λ ks. InCall b h m rows calls log t (record { front = front; loose = loose; kept = ks })) (sym (append_assoc before (l ∷ []) ls)) i))
    ]

pub in_each_home : {b : TrayView} {h : Hands} {m : ModuleId} {rows : List Row} {calls : List Call} {log : List (List (List ℕ))} {t : TrayView} {front : List Carried} {loose : List ListView} (status : ListStatus) (p : ListView → Bool) (before ls : List ListView)
    → InCall b h m rows calls log t (record { front = front; loose = loose; kept = before ++ ls })
    → InCall b h m (rows ++ map (home_by b m status) (filter p ls)) calls log (tray.each_passed_back t (filter p ls) status) (record { front = front; loose = loose; kept = before ++ filter (λ l. not (p l)) ls })
in_each_home {b} {h} {m} {rows} {calls} {log} {t} {front} {loose} status p before [] i =
    subst (λ rs. InCall b h m rs calls log t (record { front = front; loose = loose; kept = before ++ [] })) (sym (append-nil rows)) i
in_each_home {b} {h} {m} {rows} {calls} {log} {t} {front} {loose} status p before (l ∷ ls) i =
    elim (p l) as (λ c. InCall b h m (rows ++ map (home_by b m status) (cond c (l ∷ filter p ls) (filter p ls))) calls log (tray.each_passed_back t (cond c (l ∷ filter p ls) (filter p ls)) status)
    (record { front = front; loose = loose; kept = before ++ cond (not c) (l ∷ filter (λ k. not (p k)) ls) (filter (λ k. not (p k)) ls) })) [
      | true ↦ subst (λ rs. InCall b h m rs calls log (tray.each_passed_back (tray.passed_back t l status) (filter p ls) status) (record { front = front; loose = loose; kept = before ++ filter (λ k. not (p k)) ls }))
          (append_assoc rows (home_by b m status l ∷ []) (map (home_by b m status) (filter p ls)))
          (in_each_home {rows = rows ++ home_by b m status l ∷ []} {t = tray.passed_back t l status} status p before ls
          (subst (λ q. InCall b h m (rows ++ q ∷ []) calls log (tray.passed_back t l status) (record { front = front; loose = loose; kept = before ++ ls })) (homeward_in l status i)
          (in_passed_kept before ls l (tray.homeward_row t l status) i (homeward_is t l status))))
      | false ↦ subst (λ ks. InCall b h m (rows ++ map (home_by b m status) (filter p ls)) calls log (tray.each_passed_back t (filter p ls) status) (record { front = front; loose = loose; kept = ks }))
          (append_assoc before (l ∷ []) (filter (λ k. not (p k)) ls))
          (in_each_home {rows = rows} {t = t} status p (before ++ l ∷ []) ls
          (subst (λ ks. InCall b h m rows calls log t (record { front = front; loose = loose; kept = ks })) (sym (append_assoc before (l ∷ []) ls)) i))
    ]

-- as many things are on their way as lists were given away
passed_one : (t : TrayView) (l : ListView) (r : Row) → IsPass l r → length (tray.passed t l r).queue ≡ length t.queue + 1
passed_one t l r p =
    ap (λ q. length (t.queue ++ passed_by l q)) p.is ∙ length-append t.queue _

pub many_on : (t : TrayView) (ls : List ListView) → length (tray.each_passed_on t ls).queue ≡ length t.queue + length ls
many_on t [] = omega arith
many_on t (l ∷ ls) =
    let one : length (tray.passed_on t l).queue ≡ length t.queue + 1 = passed_one t l (tray.onward_row t l) (onward_is t l) in
    let more : length (tray.each_passed_on (tray.passed_on t l) ls).queue ≡ length (tray.passed_on t l).queue + length ls = many_on (tray.passed_on t l) ls in
    omega (arith, one, more)

pub many_home : (t : TrayView) (ls : List ListView) (status : ListStatus) → length (tray.each_passed_back t ls status).queue ≡ length t.queue + length ls
many_home t [] status = omega arith
many_home t (l ∷ ls) status =
    let one : length (tray.passed_back t l status).queue ≡ length t.queue + 1 = passed_one t l (tray.homeward_row t l status) (homeward_is t l status) in
    let more : length (tray.each_passed_back (tray.passed_back t l status) ls status).queue ≡ length (tray.passed_back t l status).queue + length ls = many_home (tray.passed_back t l status) ls status in
    omega (arith, one, more)

-- the lists that are left where none was given away
pub all_left : (p : ListView → Bool) (ls : List ListView) → filter p ls ≡ [] → filter (λ l. not (p l)) ls ≡ ls
all_left p [] e = refl
all_left p (l ∷ ls) e = by (p l) e (all_left p ls)
  where
    by : (c : Bool) → cond c (l ∷ filter p ls) (filter p ls) ≡ [] → (filter p ls ≡ [] → filter (λ k. not (p k)) ls ≡ ls) → cond (not c) (l ∷ filter (λ k. not (p k)) ls) (filter (λ k. not (p k)) ls) ≡ l ∷ ls
    by true g more = absurd cc
    by false g more = ap (λ ks. l ∷ ks) (more g)
