-- The rows of a filter that is given a list fit.
use Rattle.std.proofs.Common.{ℕ, ◌&&◌, Bool, List, [], Option, Some, None}
use Rattle.ndis_base.specs.declared.ListStatus.TheVariants.{Resources, Dropped}
use Rattle.ndis_base.specs.declared.ModuleId.TheVariants.{Filter}
use Rattle.ndis_base.specs.declared.Origin.TheVariants as origin
use Rattle.stack_rules.specs.declared.Attached.{Attached}
use Rattle.stack_rules.specs.declared.LiveList.{LiveList}
use Rattle.stack_rules.specs.Tests.{is_hold, same_frames}
use Rattle.stack_rules.specs.Net.{Net}
use Rattle.stack_rules.specs.Places.{is_full}
use Rattle.stack_rules.specs.Outcome.{list_no}
use Rattle.stack_rules.specs.Handled.{cloned, stays, changes, made_of, handled_as, filter_rows}
use Rattle.home_laws.specs.Rows.{Label}
use Rattle.home_laws.proofs.Fits.{Register, AllFit, IsSane}
use Rattle.home_laws.proofs.Agreed.{Agrees}
use Rattle.home_laws.proofs.Known.{by_test, Knows, live_as, onward_fits, turned_back_fits, with_new, new_live, still_known}

-- at a filter
cloned_fits : (net : Net) (reg : Register) (a : Attached) (l : LiveList) (frames : List (List ℕ)) → Agrees net reg → IsSane reg → Knows reg l → AllFit reg (cloned net a l frames)
cloned_fits net reg a l frames h s k =
    let label : Label = record { owner = Filter a.filter; direction = l.direction; cancel = l.cancel; origin = origin.Clone l.list; frames = frames } in
    let more : Register = with_new reg net.next.list label in (
      (h.next, live_as reg l k),
      (
        live_as more l (still_known reg net.next.list label l s h.next k),
        onward_fits more net.modules (list_no net.next.list) l.direction _ [] (new_live reg net.next.list label) tt,
      ),
    )

stays_fits : (net : Net) (reg : Register) (a : Attached) (l : LiveList) (keeps : Bool) → Knows reg l → AllFit reg (stays net a l keeps)
stays_fits net reg a l keeps k =
    by_test (AllFit reg) (keeps && is_hold a.kind) _ _ (λ _. (live_as reg l k, tt)) (λ _. onward_fits reg net.modules l.list l.direction _ [] (live_as reg l k) tt)

changes_fits : (net : Net) (reg : Register) (a : Attached) (l : LiveList) (frames : List (List ℕ)) → Agrees net reg → IsSane reg → Knows reg l → AllFit reg (changes net a l frames)
changes_fits net reg a l frames h s k =
    by_test (AllFit reg) (is_full net (Filter a.filter)) _ _
    (λ _. turned_back_fits reg net.modules l (Filter a.filter) Resources k)
    (λ _. cloned_fits net reg a l frames h s k)

handled_fits : (net : Net) (reg : Register) (a : Attached) (l : LiveList) (keeps : Bool) (made : Option (List (List ℕ))) → Agrees net reg → IsSane reg → Knows reg l → AllFit reg (handled_as net a l keeps made)
handled_fits net reg a l keeps None h s k = turned_back_fits reg net.modules l (Filter a.filter) Dropped k
handled_fits net reg a l keeps (Some frames) h s k =
    by_test (AllFit reg) (same_frames frames l.frames) _ _ (λ _. stays_fits net reg a l keeps k) (λ _. changes_fits net reg a l frames h s k)

pub filter_fits : (net : Net) (reg : Register) (a : Attached) (l : LiveList) (keeps : Bool) → Agrees net reg → IsSane reg → Knows reg l → AllFit reg (filter_rows net a l keeps)
filter_fits net reg a l keeps h s k = (live_as reg l k, handled_fits net reg a l keeps (made_of net a l) h s k)
