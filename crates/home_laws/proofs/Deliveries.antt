-- The rows of deliveries to the bindings fit.
use Rattle.std.proofs.Common.{◌≡◌, ℕ, ◌+◌, ◌==◌, ◌<◌, ◌&&◌, Bool, false, List, [], ◌∷◌, ◌++◌, Option, Some, None, refl, arith, ap, ◌∙◌}
use Rattle.std.proofs.lemmas.Bool.Decides.{nat_tests}
use Rattle.ndis_base.specs.declared.Direction.TheVariants as direction
use Rattle.ndis_base.specs.declared.ListNo.{ListNo}
use Rattle.ndis_base.specs.declared.ListStatus.TheVariants.{Success}
use Rattle.ndis_base.specs.declared.ModuleId.TheVariants.{Binding}
use Rattle.journal_types.specs.declared.How.{How}
use Rattle.journal_types.specs.declared.How.TheVariants as how
use Rattle.journal_types.specs.declared.Row.{Row}
use Rattle.stack_rules.specs.declared.LiveList.{LiveList}
use Rattle.stack_rules.specs.Tests.{is_retain}
use Rattle.stack_rules.specs.Heads.{kind_of_binding}
use Rattle.stack_rules.specs.Net.{Net}
use Rattle.stack_rules.specs.Deliveries.{takers, echoes, delivered, last_of, settled, delivery_rows}
use Rattle.home_laws.specs.Rows.{Label}
use Rattle.home_laws.proofs.Fits.{Register, IsLive, AnyLabel, AllFit, IsSane}
use Rattle.home_laws.specs.Standing.{label_of}
use Rattle.home_laws.proofs.Registers.{entered-other, live_below}
use Rattle.home_laws.proofs.Agreed.{Agrees}
use Rattle.home_laws.proofs.Known.{by_test, Knows, live_as, homeward_fits, with_new}
use Rattle.home_laws.proofs.Issues.{root_label, issued_fits, sane_new}

-- a list of this number is live with this label
abbrev pub HasLabel : Register → ListNo → Label → Type 0
HasLabel reg list label = reg.live list.0 ≡ Some label

pub still_has : (reg : Register) (n : ℕ) (new : Label) (list : ListNo) (label : Label) → IsSane reg → n ≡ reg.next → HasLabel reg list label → HasLabel (with_new reg n new) list label
still_has reg n new list label s e k = entered-other n list.0 (Some new) reg.live (below list.0 n reg.next e (live_below reg list.0 label s k)) ∙ k
  where
    below : (m n next : ℕ) → n ≡ next → m < next → (m == n) ≡ false
    below m n next e h = grind (arith, nat_tests)

pub is_live : (reg : Register) (list : ListNo) (label : Label) → HasLabel reg list label → IsLive reg list AnyLabel
is_live reg list label k = record { label = label; found = k; passes = tt }

-- delivery to the bindings, and then rows that fit wherever the list is live
pub delivered_fits : (net : Net) (list : ListNo) (label : Label) (own : How) (rest : List Row) → ((reg : Register) → HasLabel reg list label → AllFit reg rest) →
    (bs : List ℕ) (n : ℕ) (reg : Register) → IsSane reg → n ≡ reg.next → HasLabel reg list label → AllFit reg (delivered net list label.frames own n bs ++ rest)
delivered_fits net list label own rest last [] n reg s e k = last reg k
delivered_fits net list label own rest last (b ∷ bs) n reg s e k =
    let new : Label = root_label (Binding b) direction.Down None label.frames in
    let more : Register = with_new reg n new in (
      record { label = label; found = k; passes = refl },
      by_test (λ rows. AllFit reg (rows ++ rest)) (echoes net b) _ _
          (λ _. issued_fits net reg n (Binding b) direction.Down None label.frames 0 (delivered net list label.frames own (n + 1) bs ++ rest) e
          (delivered_fits net list label own rest last bs (n + 1) more (sane_new net reg n (Binding b) direction.Down None label.frames s e) (ap (λ i. i + 1) e) (still_has reg n new list label s e k)))
          (λ _. delivered_fits net list label own rest last bs n reg s e k),
    )

settled_fits : (net : Net) (reg : Register) (l : LiveList) (keeps : Bool) (o : Option ℕ) → Knows reg l → AllFit reg (settled net l keeps o)
settled_fits net reg l keeps None k = homeward_fits reg net.modules l 0 Success [] k tt
settled_fits net reg l keeps (Some b) k =
    by_test (AllFit reg) (keeps && is_retain (kind_of_binding net.head b)) _ _ (λ _. (live_as reg l k, tt)) (λ _. homeward_fits reg net.modules l 0 Success [] k tt)

pub delivery_fits : (net : Net) (reg : Register) (l : LiveList) (keeps : Bool) → Agrees net reg → IsSane reg → Knows reg l → AllFit reg (delivery_rows net l keeps)
delivery_fits net reg l keeps h s k =
    let last : List Row = settled net l keeps (last_of (takers net l.frames)) in
    delivered_fits net l.list (label_of l) how.Own last (λ more k. settled_fits net more l keeps (last_of (takers net l.frames)) k) (takers net l.frames) net.next.list reg s h.next k
