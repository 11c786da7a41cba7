-- A filter that is given a list lowers the work.
use Rattle.std.proofs.Common.{◌≡◌, ℕ, ◌+◌, ◌≤◌, ◌&&◌, Bool, true, false, List, [], ◌∷◌, Option, Some, None, refl, arith, sym, subst}
use Rattle.ndis_base.specs.declared.ListNo.{ListNo}
use Rattle.ndis_base.specs.declared.ListStatus.{ListStatus}
use Rattle.ndis_base.specs.declared.ListStatus.TheVariants.{Dropped, Resources}
use Rattle.ndis_base.specs.declared.ModuleId.{ModuleId}
use Rattle.ndis_base.specs.declared.ModuleId.TheVariants.{Filter}
use Rattle.ndis_base.specs.declared.Direction.{Direction}
use Rattle.ndis_base.specs.declared.Direction.TheVariants as direction
use Rattle.ndis_base.specs.declared.Origin.TheVariants as origin
use Rattle.journal_types.specs.declared.PassWay.{PassWay}
use Rattle.journal_types.specs.declared.PassWay.TheVariants as way
use Rattle.journal_types.specs.declared.Target.{Target}
use Rattle.journal_types.specs.declared.Row.{Row}
use Rattle.journal_types.specs.declared.Row.TheVariants as row
use Rattle.stack_rules.specs.declared.Attached.{Attached}
use Rattle.stack_rules.specs.declared.LiveList.{LiveList}
use Rattle.stack_rules.specs.Tests.{is_down, is_hold, same_frames}
use Rattle.stack_rules.specs.Net.{Net, Modules, after_rows}
use Rattle.stack_rules.specs.Places.{position, is_full}
use Rattle.stack_rules.specs.Targets.{next_down, next_up, next_done, next_back, onward, homeward, homeward_by, turned_back}
use Rattle.stack_rules.specs.Outcome.{list_no, config_no}
use Rattle.stack_rules.specs.Handled.{made_of, cloned, stays, changes, handled_as, given_by, filter_rows}
use Rattle.stack_rules.specs.Work.{list_work, kept_work, work}
use Rattle.home_laws.proofs.Known.{by_test}
use Rattle.work_laws.proofs.Weights.{passed_work}
use Rattle.work_laws.proofs.Lowers.{IsFree, give_trades, give_back_trades, keep_trades, clone_trades}

-- the rows lower the work
abbrev pub Lowers : Net → List Row → Type 0
Lowers net rows = work (after_rows net rows) + 1 ≤ work net

-- onwards and homewards by the direction
pub onward_down : (ms : Modules) (list : ListNo) (d : Direction) (i : ℕ) → is_down d ≡ true → onward ms list d i ≡ row.Pass list way.Down (next_down ms i)
onward_down ms list direction.Down i e = refl
onward_down ms list direction.Up i e = cc
onward_down ms list direction.Lent i e = cc

pub onward_up : (ms : Modules) (list : ListNo) (d : Direction) (i : ℕ) → is_down d ≡ false → onward ms list d i ≡ row.Pass list way.Up (next_up ms i)
onward_up ms list direction.Down i e = cc
onward_up ms list direction.Up i e = refl
onward_up ms list direction.Lent i e = refl

pub homeward_done : (ms : Modules) (list : ListNo) (owner : ModuleId) (d : Direction) (i : ℕ) (status : ListStatus) → is_down d ≡ true → homeward_by ms list owner d i status ≡ row.Pass list (way.Done status) (next_done ms i owner)
homeward_done ms list owner direction.Down i status e = refl
homeward_done ms list owner direction.Up i status e = cc
homeward_done ms list owner direction.Lent i status e = cc

pub homeward_back : (ms : Modules) (list : ListNo) (owner : ModuleId) (d : Direction) (i : ℕ) (status : ListStatus) → is_down d ≡ false → homeward_by ms list owner d i status ≡ row.Pass list (way.Back status) (next_back ms i owner)
homeward_back ms list owner direction.Down i status e = cc
homeward_back ms list owner direction.Up i status e = refl
homeward_back ms list owner direction.Lent i status e = refl

-- each way that a filter may send the list leaves less to do
pub record AllLess (net : Net) (l : LiveList) (f : ℕ) : Type 0 where
  pub on_way : PassWay
  pub on_to : Target
  pub on : (n : ListNo) → onward net.modules n l.direction (position net.modules.order (Filter f)) ≡ row.Pass n on_way on_to
  pub on_less : passed_work net on_way on_to + 1 ≤ list_work net l l.stand
  pub back_way : ListStatus → PassWay
  pub back_to : Target
  pub back : (status : ListStatus) → homeward net.modules l (position net.modules.order (Filter f)) status ≡ row.Pass l.list (back_way status) back_to
  pub back_less : (status : ListStatus) → passed_work net (back_way status) back_to + 1 ≤ list_work net l l.stand
  pub kept_less : kept_work net (is_down l.direction) (Filter f) + 1 ≤ list_work net l l.stand

module _ (net : Net) (a : Attached) (l : LiveList) (h : IsFree net l) (s : AllLess net l a.filter) where
  abbrev Given : List Row → Type 0
  Given rows = Lowers net (row.Give l.list (Filter a.filter) (given_by l.direction) ∷ rows)

  turned : (status : ListStatus) → Given (turned_back net.modules l (Filter a.filter) status)
  turned status =
      let trade = give_back_trades net l (Filter a.filter) (given_by l.direction) (Filter a.filter) status (s.back_way status) s.back_to h in
      let less = s.back_less status in
      subst (λ (r : Row). Given (row.TurnBack l.list (Filter a.filter) status ∷ r ∷ [])) (sym (s.back status)) (omega (arith, trade, less))

  stays_lowers : (keeps : Bool) → Given (stays net a l keeps)
  stays_lowers keeps =
      by_test Given (keeps && is_hold a.kind) _ _
      (λ _. let trade = keep_trades net l (Filter a.filter) (given_by l.direction) (Filter a.filter) h in let less = s.kept_less in omega (arith, trade, less))
      (λ _.
      let trade = give_trades net l (Filter a.filter) (given_by l.direction) s.on_way s.on_to h in
      let less = s.on_less in
      subst (λ (r : Row). Given (r ∷ [])) (sym (s.on l.list)) (omega (arith, trade, less)))

  cloned_lowers : (frames : List (List ℕ)) → Given (cloned net a l frames)
  cloned_lowers frames =
      let trade = clone_trades net l (Filter a.filter) (given_by l.direction) (Filter a.filter) (config_no net.modules.config) l.direction l.cancel frames (Filter a.filter) s.on_way s.on_to h in
      let less = s.on_less in
      let issue : Row = row.Issue (list_no net.next.list) (Filter a.filter) (config_no net.modules.config) l.direction l.cancel (origin.Clone l.list) frames in
      subst (λ (r : Row). Given (issue ∷ row.Keep l.list (Filter a.filter) ∷ r ∷ [])) (sym (s.on (list_no net.next.list))) (omega (arith, trade, less))

  changes_lower : (frames : List (List ℕ)) → Given (changes net a l frames)
  changes_lower frames = by_test Given (is_full net (Filter a.filter)) _ _ (λ _. turned Resources) (λ _. cloned_lowers frames)

  handled_lowers : (keeps : Bool) (made : Option (List (List ℕ))) → Given (handled_as net a l keeps made)
  handled_lowers keeps None = turned Dropped
  handled_lowers keeps (Some frames) = by_test Given (same_frames frames l.frames) _ _ (λ _. stays_lowers keeps) (λ _. changes_lower frames)

  pub filter_lowers : (keeps : Bool) → Lowers net (filter_rows net a l keeps)
  filter_lowers keeps = handled_lowers keeps (made_of net a l)
