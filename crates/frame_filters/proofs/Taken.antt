-- The list that was kept for a clone.
use Rattle.std.proofs.Common.{◌≡◌, ◌∙◌, refl, ap, sym, [], List, Option, Some, None, arith}
use Rattle.std.proofs.lemmas.Bool.Decides.{nat_tests}
use Rattle.ndis_base.specs.declared.ListNo.{ListNo}
use Rattle.ndis_base.specs.declared.ListStatus.{ListStatus}
use Rattle.ndis_base.specs.declared.Origin.{Origin}
use Rattle.ndis_base.specs.declared.Origin.TheVariants as origin
use Rattle.buffer_pools.specs.Views.{ListView}
use Rattle.driver_calls.specs.Filters.{original_of, without_first, Completes}
use Rattle.driver_calls.specs.Filters.Completes.{releases, homes}
use Rattle.driver_tray.specs.Tray.{TrayView, passed_back, Spends}
use Rattle.kept_lists.specs.Kept.{KeptView, Takes}
use Rattle.kept_lists.specs.Kept.Takes.{lacks, takes}
use Rattle.kept_lists.proofs.Found.{IsTaken, taken_first, found_none}
use Rattle.frame_filters.specs.Filters.{keeping}
use Rattle.frame_filters.specs.Originals.{TakesOriginal}

-- a list taken by its number is the original of its clone
pub taken_original : (n : ListNo) (old : KeptView) (l : ListView) (after : KeptView) (taken : Option ListView) → Takes old n.0 taken after → taken ≡ Some l → TakesOriginal (origin.Clone n) old.lists l after.lists
taken_original n old l after taken (lacks others none same) is = absurd (cc (none, is))
taken_original n old l after taken (takes front list back others parts here some left room) is =
    let same : list ≡ l = cc (some, is) in
    let t : IsTaken old.lists n.0 list after.lists = taken_first n.0 old.lists front back after.lists list others parts here left in
    let number : list.label.number.0 ≡ n.0 = grind (arith, nat_tests, here) in
    record {
      is = t.found ∙ ap (λ (x : ListView). Some x) same;
      left = t.left ∙ ap (λ m. without_first m old.lists) (sym number ∙ ap (λ (x : ListView). x.label.number.0) same);
    }

pub lacking_original : (n : ListNo) (old after : KeptView) (taken : Option ListView) → Takes old n.0 taken after → taken ≡ None → (original_of (origin.Clone n) old.lists ≡ None) × (after.lists ≡ old.lists)
lacking_original n old after taken (lacks others none same) is = (found_none n.0 old.lists others, ap (λ (k : KeptView). k.lists) same)
lacking_original n old after taken (takes front list back others parts here some left room) is = absurd (cc (some, is))

-- the original goes homewards in the place of its clone
pub homes_original : (kept kept' : List ListView) (l o : ListView) (status : ListStatus) (t between t' : TrayView) → l.label.owner ≡ t.caller → TakesOriginal l.label.origin kept o kept' → Spends t l status between
    → t' ≡ passed_back between o status → Completes (keeping kept) l status t kept' t'
homes_original kept kept' l o status t between t' own h spends back =
    releases o between.pool own h.is spends.frees h.left (back ∙ ap (λ (b : TrayView). passed_back b o status) spends.tray)

-- a list of which no original is kept is home alone
pub homes_alone : (kept kept' : List ListView) (l : ListView) (status : ListStatus) (t t' : TrayView) → l.label.owner ≡ t.caller → original_of l.label.origin kept ≡ None → kept' ≡ kept → Spends t l status t'
    → Completes (keeping kept) l status t kept' t'
homes_alone kept kept' l status t t' own none same spends = homes t'.pool own none spends.frees same spends.tray

-- no original is kept where no list is
pub none_kept : (o : Origin) → original_of o [] ≡ None
none_kept origin.Root = refl
none_kept (origin.Clone n) = refl
none_kept (origin.Copy n) = refl
