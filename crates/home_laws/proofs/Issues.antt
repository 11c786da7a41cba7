-- A list that is issued and goes on; and lists that are found.
use Rattle.std.proofs.Common.{◌≡◌, ℕ, List, ◌∷◌, Option, Some}
use Rattle.ndis_base.specs.declared.Direction.{Direction}
use Rattle.ndis_base.specs.declared.ModuleId.{ModuleId}
use Rattle.ndis_base.specs.declared.Origin.TheVariants as origin
use Rattle.journal_types.specs.declared.Row.{Row}
use Rattle.stack_rules.specs.declared.LiveList.{LiveList}
use Rattle.stack_rules.specs.Net.{Net, lists}
use Rattle.stack_rules.specs.Places.{kept_lists, is_kept_by}
use Rattle.stack_rules.specs.Targets.{onward}
use Rattle.stack_rules.specs.Outcome.{Outcome, root, list_no}
use Rattle.rule_basics.specs.Live.{Each}
use Rattle.home_laws.specs.Rows.{Label}
use Rattle.home_laws.proofs.Fits.{Register, AllFit, IsSane}
use Rattle.home_laws.proofs.Registers.{sane_after}
use Rattle.home_laws.proofs.Agreed.{Agrees}
use Rattle.home_laws.proofs.Known.{Knows, knows_all, Each-filter, onward_fits, with_new, new_live}

-- the label of a list that is no clone and no copy
abbrev pub root_label : ModuleId → Direction → Option ℕ → List (List ℕ) → Label
root_label owner d cancel frames = record { owner = owner; direction = d; cancel = cancel; origin = origin.Root; frames = frames }

-- a list is issued and goes on
pub issued_fits : (net : Net) (reg : Register) (n : ℕ) (owner : ModuleId) (d : Direction) (cancel : Option ℕ) (frames : List (List ℕ)) (i : ℕ) (rest : List Row) → n ≡ reg.next →
    AllFit (with_new reg n (root_label owner d cancel frames)) rest → AllFit reg (root net n owner d cancel frames ∷ onward net.modules (list_no n) d i ∷ rest)
issued_fits net reg n owner d cancel frames i rest e f =
    let label = root_label owner d cancel frames in
    ((e, tt), onward_fits (with_new reg n label) net.modules (list_no n) d i rest (new_live reg n label) f)

pub sane_new : (net : Net) (reg : Register) (n : ℕ) (owner : ModuleId) (d : Direction) (cancel : Option ℕ) (frames : List (List ℕ)) → IsSane reg → n ≡ reg.next →
    IsSane (with_new reg n (root_label owner d cancel frames))
sane_new net reg n owner d cancel frames s e = sane_after reg (root net n owner d cancel frames) s (e, tt)

abbrev pub FitOutcome : Register → Outcome → Type 0
FitOutcome reg o = AllFit reg o.rows

-- a list that is found, if any, is known
abbrev pub KnowsFound : Register → Option LiveList → Type 0
KnowsFound reg o = (l : LiveList) → o ≡ Some l → Knows reg l

pub kept_known : (net : Net) (reg : Register) (m : ModuleId) → Agrees net reg → Each (Knows reg) (kept_lists net m)
kept_known net reg m h = Each-filter (Knows reg) (λ l. is_kept_by m l.stand) (lists net.things) (knows_all net reg h)
