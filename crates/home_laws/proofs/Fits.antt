-- The register of lists, told by the rows alone: the number that comes next, and the label of each live
-- list. A row fits where the register allows it.
use Rattle.std.proofs.Common.{◌≡◌, ℕ, ◌+◌, ◌==◌, ◌≤◌, List, [], ◌∷◌, Option, Some, None, cond}
use Rattle.ndis_base.specs.declared.ListNo.{ListNo}
use Rattle.ndis_base.specs.declared.Origin.{Origin}
use Rattle.ndis_base.specs.declared.Origin.TheVariants as origin
use Rattle.journal_types.specs.declared.OutWay.TheVariants as out
use Rattle.journal_types.specs.declared.Row.{Row}
use Rattle.journal_types.specs.declared.Row.TheVariants as row
use Rattle.home_laws.specs.Rows.{Label}
use Rattle.home_laws.specs.Standing.{IsYounger}

pub record Register : Type 0 where
  pub next : ℕ
  pub live : ℕ → Option Label

-- before the first row
abbrev pub empty : Register
empty = record { next = 1; live = λ n. None }

-- another entry at a number
abbrev pub entered : ℕ → Option Label → (ℕ → Option Label) → ℕ → Option Label
entered n entry live m = cond (m == n) entry (live m)

-- the register after one more row
abbrev pub registered : Register → Row → Register
registered reg (row.Issue list owner config direction cancel origin frames) = record {
  next = reg.next + 1;
  live = entered list.0 (Some (record { owner = owner; direction = direction; cancel = cancel; origin = origin; frames = frames })) reg.live;
}
registered reg (row.Home list owner status) = record reg { live = entered list.0 None reg.live }
registered reg _ = reg

abbrev pub registered_rows : Register → List Row → Register
registered_rows reg [] = reg
registered_rows reg (r ∷ rows) = registered_rows (registered reg r) rows

-- the list is live, and its label passes
pub record IsLive (reg : Register) (list : ListNo) (Passes : Label → Type 0) : Type 0 where
  pub label : Label
  pub found : reg.live list.0 ≡ Some label
  pub passes : Passes label

abbrev pub AnyLabel : Label → Type 0
AnyLabel label = Unit {0}

-- the list that a clone or a copy is made of is live
abbrev pub IsOriginLive : Register → Origin → Type 0
IsOriginLive reg origin.Root = Unit {0}
IsOriginLive reg (origin.Clone list) = IsLive reg list AnyLabel
IsOriginLive reg (origin.Copy list) = IsLive reg list AnyLabel

-- The row fits: an Issue row takes the next number, each other row names a live list, a Home row shows its
-- owner, and rows with frames show its frames.
abbrev pub Fits : Register → Row → Type 0
Fits reg (row.Issue list owner config direction cancel origin frames) = (list.0 ≡ reg.next) × IsOriginLive reg origin
Fits reg (row.Give list m handler) = IsLive reg list AnyLabel
Fits reg (row.Pass list way to) = IsLive reg list AnyLabel
Fits reg (row.Keep list m) = IsLive reg list AnyLabel
Fits reg (row.TurnBack list m status) = IsLive reg list AnyLabel
Fits reg (row.Home list owner status) = IsLive reg list (λ label. label.owner ≡ owner)
Fits reg (row.Wire list frames) = IsLive reg list (λ label. label.frames ≡ frames)
Fits reg (row.Deliver list binding how frames) = IsLive reg list (λ label. label.frames ≡ frames)
Fits reg (row.CrossOut message (out.Down list) frames) = IsLive reg list (λ label. label.frames ≡ frames)
Fits reg _ = Unit {0}

-- each row fits in the register that those before it left
abbrev pub AllFit : Register → List Row → Type 0
AllFit reg [] = Unit {0}
AllFit reg (r ∷ rows) = Fits reg r × AllFit (registered reg r) rows

-- no number from the next one on is live, and each live list is younger than its origin
pub record IsSane (reg : Register) : Type 0 where
  pub free : (n : ℕ) → reg.next ≤ n → reg.live n ≡ None
  pub younger : (n : ℕ) (label : Label) → reg.live n ≡ Some label → IsYounger n label.origin
