-- What is left when lists are parted or given away one by one.
use Rattle.std.proofs.Common.{◌≡◌, ℕ, suc, ◌+◌, ◌-◌, ◌*◌, ◌<◌, ◌≤◌, Bool, not, List, ◌∷◌, Some, length, take, drop, get_or, arith, ap, ◌∙◌, sym, subst}
use Rattle.std.specs.Prelude.{filter, remove}
use Rattle.std.proofs.lemmas.List.{length-append, length-drop}
use Rattle.ndis_base.specs.declared.ListStatus.{ListStatus}
use Rattle.buffer_pools.specs.Views.{ListView}
use Rattle.driver_tray.specs.Tray.{TrayView, turned_back, each_turned_back}
use Rattle.kept_lists.specs.Kept.{KeptView, StandsAt, Takes}
use Rattle.kept_lists.proofs.Parted.{IsParted}
use Rattle.kept_lists.proofs.Found.{takes_at}

-- while not all are parted, one is left
pub some_left : (goes : ListView → Bool) (all kept leaving : List ListView) (i : ℕ) → i < length all → IsParted goes all kept leaving i → 0 < length kept
some_left goes all kept leaving i h p =
    let long : length kept ≡ length (drop i all) + length (filter (λ l. not (goes l)) (take i all)) = ap length p.stay ∙ length-append (drop i all) (filter (λ l. not (goes l)) (take i all)) in
    omega (arith, long, length-drop i all, h)

-- one list is turned back, and the others are still to be
pub record IsTurned (t' : TrayView) (rest : List ListView) (status : ListStatus) (end : TrayView) : Type 0 where
  pub tray : each_turned_back t' rest status ≡ end
  pub rows : 2 * length rest ≤ t'.room.rows
  pub slack : length rest ≤ t'.slack

pub turned_one : (t t' end : TrayView) (l l' : ListView) (ls rest : List ListView) (status : ListStatus) → ls ≡ l ∷ rest → l' ≡ l → t' ≡ turned_back t l' status → each_turned_back t ls status ≡ end
    → 2 * length ls ≤ t.room.rows → length ls ≤ t.slack → IsTurned t' rest status end
turned_one t t' end l l' ls rest status is same now all rows slack =
    let room : t'.room.rows ≡ t.room.rows - 1 - 1 = ap (λ (x : TrayView). x.room.rows) now in
    let ways : t'.slack ≡ t.slack - 1 = ap (λ (x : TrayView). x.slack) now in
    let long : length ls ≡ suc (length rest) = ap length is in
    record {
      tray = ap (λ (x : TrayView). each_turned_back x rest status) (now ∙ ap (λ (k : ListView). turned_back t k status) same) ∙ ap (λ (ks : List ListView). each_turned_back t ks status) (sym is) ∙ all;
      rows = omega (arith, room, long, rows);
      slack = omega (arith, ways, long, slack);
    }

-- a list that was taken from its place
pub takes_seen : (n : ℕ) (was old after : KeptView) (i : ℕ) (taken l : ListView) → was ≡ old → StandsAt n was.lists i → l ≡ get_or was.lists i l → taken ≡ l → after.lists ≡ remove was.lists i → after.room ≡ was.room + 1
    → Takes old n (Some taken) after
takes_seen n was old after i taken l same stands is so now room =
    let here : taken ≡ get_or was.lists i taken = subst (λ (x : ListView). x ≡ get_or was.lists i x) (sym so) is in
    subst (λ (k : KeptView). Takes k n (Some taken) after) same (takes_at n was after i taken stands here now room)
