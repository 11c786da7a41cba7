-- The rows of lists on their way home fit.
use Rattle.std.proofs.Common.{◌≡◌, ℕ, ◌==◌, ◌<◌, false, [], Option, Some, None, refl, arith, ◌∙◌}
use Rattle.std.proofs.lemmas.Bool.Decides.{nat_tests}
use Rattle.ndis_base.specs.declared.ListStatus.{ListStatus}
use Rattle.ndis_base.specs.declared.ModuleId.{ModuleId}
use Rattle.ndis_base.specs.declared.Origin.{Origin}
use Rattle.ndis_base.specs.declared.Origin.TheVariants as origin
use Rattle.stack_rules.specs.declared.LiveList.{LiveList}
use Rattle.stack_rules.specs.Tests.{same_module}
use Rattle.stack_rules.specs.Net.{Net, lists, list_of}
use Rattle.stack_rules.specs.Places.{position}
use Rattle.stack_rules.specs.Dones.{released_list, released, home_rows, homeward_rows}
use Rattle.rule_basics.proofs.Lives.{find_is}
use Rattle.home_laws.specs.Standing.{IsYounger, label_of}
use Rattle.home_laws.proofs.Fits.{Register, entered, AllFit, IsSane}
use Rattle.home_laws.proofs.Registers.{entered-other}
use Rattle.home_laws.proofs.Agreed.{Agrees}
use Rattle.home_laws.proofs.Known.{by_test, Knows, knows_all, Each-find, live_as, owned_as, homeward_fits}
use Rattle.home_laws.proofs.Issues.{KnowsFound}

-- after a list is home
abbrev without_home : Register → LiveList → Register
without_home reg l = record reg { live = entered l.list.0 None reg.live }

released_list_fits : (net : Net) (reg : Register) (m : ModuleId) (status : ListStatus) (o : Option LiveList) → KnowsFound reg o → AllFit reg (released_list net m status o)
released_list_fits net reg m status None k = tt
released_list_fits net reg m status (Some original) k = homeward_fits reg net.modules original (position net.modules.order m) status [] (k original refl) tt

-- an original is older than its clone, so it is still live
original_known : (net : Net) (reg : Register) (l original : LiveList) (n : ℕ) → Agrees net reg → n < l.list.0 → list_of n (lists net.things) ≡ Some original → Knows (without_home reg l) original
original_known net reg l original n h low e =
    let number : original.list.0 ≡ n = (find_is n (lists net.things) original e).0 in
    let known : Knows reg original = Each-find (Knows reg) (λ x. x.list.0 == n) (lists net.things) original (knows_all net reg h) e in
    entered-other l.list.0 original.list.0 None reg.live (below original.list.0 n l.list.0 number low) ∙ known
  where
    below : (a n b : ℕ) → a ≡ n → n < b → (a == b) ≡ false
    below a n b e h = grind (arith, nat_tests)

released_fits : (net : Net) (reg : Register) (l : LiveList) (o : Origin) (status : ListStatus) → Agrees net reg → IsYounger l.list.0 o → AllFit (without_home reg l) (released net l.owner o status)
released_fits net reg l origin.Root status h y = tt
released_fits net reg l (origin.Copy list) status h y = tt
released_fits net reg l (origin.Clone list) status h y =
    released_list_fits net (without_home reg l) l.owner status (list_of list.0 (lists net.things)) (λ original e. original_known net reg l original list.0 h y e)

home_rows_fit : (net : Net) (reg : Register) (l : LiveList) (status : ListStatus) → Agrees net reg → IsSane reg → Knows reg l → AllFit reg (home_rows net l status)
home_rows_fit net reg l status h s k = (owned_as reg l k, released_fits net reg l l.origin status h (s.younger l.list.0 (label_of l) k))

pub homeward_rows_fit : (net : Net) (reg : Register) (l : LiveList) (m : ModuleId) (status : ListStatus) → Agrees net reg → IsSane reg → Knows reg l → AllFit reg (homeward_rows net l m status)
homeward_rows_fit net reg l m status h s k =
    by_test (AllFit reg) (same_module m l.owner) _ _
    (λ _. home_rows_fit net reg l status h s k)
    (λ _. (live_as reg l k, homeward_fits reg net.modules l (position net.modules.order m) status [] k tt))
