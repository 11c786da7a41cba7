-- Where the first thing on its way is a list, nothing else is.
use Rattle.std.proofs.Common.{◌≡◌, List, ◌∷◌}
use Rattle.stack_rules.specs.declared.Answered.{Answered}
use Rattle.stack_rules.specs.declared.StatusAway.{StatusAway}
use Rattle.agenda_items.specs.declared.Carried.{Carried}
use Rattle.agenda_items.specs.declared.Item.{Item}
use Rattle.agenda_items.specs.declared.Item.TheVariants as item
use Rattle.agenda_items.specs.Views.{kept_as}
use Rattle.binding_work.specs.Homes.{BeginsWithList}

pub no_status : {queue rest : List Carried} {i : Item} {s : StatusAway} → BeginsWithList queue → queue ≡ kept_as i ∷ rest → i ≡ item.Status s → ⊥
no_status {queue} {rest} {i} {s} f e is = let a = f.is in cc

pub no_answer : {queue rest : List Carried} {i : Item} {a : Answered} → BeginsWithList queue → queue ≡ kept_as i ∷ rest → i ≡ item.Answer a → ⊥
no_answer {queue} {rest} {i} {a} f e is = let k = f.is in cc
