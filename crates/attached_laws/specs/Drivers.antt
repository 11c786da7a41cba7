-- That each filter has one driver.
use Rattle.std.specs.Prelude.{◌≡◌, ℕ, List, [], ◌∷◌, None}
use Rattle.ndis_base.specs.declared.FilterKind.{FilterKind}
use Rattle.journal_types.specs.declared.StackHead.{StackHead}
use Rattle.journal_types.specs.declared.Turn.{Turn}
use Rattle.stack_rules.specs.Sound.{Sound}
use Rattle.promise_rules.specs.Drivers.{driver_of, shelf_of}

-- no filter stands twice with a driver
abbrev pub AreApart : List (ℕ × ℕ) → Type 0
AreApart [] = Unit {0}
AreApart (d ∷ ds) = (driver_of ds d.0 ≡ None) × AreApart ds

-- In a sound journal no filter takes a driver twice.
abbrev pub EachHasOneDriver : Type 0
EachHasOneDriver = (head : StackHead) (turns : List Turn) → Sound head turns → (kinds : List FilterKind) → AreApart (shelf_of kinds turns).drivers
