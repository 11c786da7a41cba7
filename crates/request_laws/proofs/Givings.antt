-- A request that a pump gives to a module: the miniport answers it, and a filter forwards it by a clone.
use Rattle.std.proofs.Common.{◌≡◌, ℕ, ◌==◌, ◌&&◌, not, Bool, true, false, cond, List, [], ◌∷◌, Option, Some, None, option_map, ◌⊎◌, inl, inr, refl, arith, ap, sym, subst, ◌∙◌, find, map}
use Rattle.std.proofs.lemmas.Bool.Decides.{nat_tests}
use Rattle.ndis_base.specs.declared.ModuleId.{ModuleId}
use Rattle.ndis_base.specs.declared.ModuleId.TheVariants.{Miniport, Filter, Binding}
use Rattle.journal_types.specs.declared.Row.TheVariants as row
use Rattle.stack_rules.specs.declared.Request.{Request}
use Rattle.stack_rules.specs.declared.RequestAt.{RequestAt}
use Rattle.stack_rules.specs.declared.RequestAt.TheVariants as at
use Rattle.stack_rules.specs.Net.{Net, after, after_rows, request_of, given_to, first_oid, below, place_of_clone, place_of_request}
use Rattle.stack_rules.specs.Requests.{Giving, is_waiting_at, is_at_entry, is_busy, has_waiting, first_waiting, oid_modules, giving_to, lowest_giving, entry_giving, or_else, next_giving, given_rows_by, giving_rows}
use Rattle.stack_rules.specs.OidTable.{report_of}
use Rattle.stack_rules.specs.Outcome.{oid_no}
use Rattle.state_laws.specs.Shape.{IsDistinct}
use Rattle.request_laws.proofs.Asked.{Each, HasNoClone, IsAbove, some_same, none_some}
use Rattle.request_laws.proofs.Changes.{MayStart, waits_childless, waits_unanswered}
use Rattle.request_laws.proofs.Finds.{found_by_number, found_given}
use Rattle.request_laws.proofs.Answers.{answered}
use Rattle.request_laws.proofs.Rows.{found_in, IsKept, kept_issue, kept_give, kept_done}
use Rattle.request_laws.proofs.Orders.{TakesRequests, clone_below, topmost_takes, AllTake, all_take, same_is}

-- which request is given, and to which module: one that waits there or is at the entry, where the module takes requests
pub record GivesNext (net : Net) (g : Giving) : Type 0 where
  pub test : Request → Bool
  pub found : find test net.requests ≡ Some g.request
  pub at : (g.request.at ≡ at.Entry) ⊎ (g.request.at ≡ at.Waiting g.module_id)
  pub takes : TakesRequests net.modules g.module_id

find_true : (p : Request → Bool) (rs : List Request) (r : Request) → find p rs ≡ Some r → p r ≡ true
find_true p [] r f = absurd (none_some r f)
find_true p (q ∷ rs) r f =
    let cases : (b : Bool) → p q ≡ b → cond b (Some q) (find p rs) ≡ Some r → p r ≡ true = elim [
      | true ↦ λ t e. subst (λ (k : Request). p k ≡ true) (some_same q r e) t
      | false ↦ λ t e. find_true p rs r e
    ] in
    cases (p q) refl f

waiting_is : (m : ModuleId) (a : RequestAt) → is_waiting_at m a ≡ true → a ≡ at.Waiting m
waiting_is m at.Entry e = cc
waiting_is m (at.Waiting k) e = ap (λ i. at.Waiting i) (same_is k m e)
waiting_is m (at.Given k) e = cc

entry_is : (a : RequestAt) → is_at_entry a ≡ true → a ≡ at.Entry
entry_is at.Entry e = refl
entry_is (at.Waiting m) e = cc
entry_is (at.Given m) e = cc

giving_found : (net : Net) (m : ModuleId) (p : Request → Bool) (o : Option Request) (g : Giving) → find p net.requests ≡ o → ((r : Request) → p r ≡ true → (r.at ≡ at.Entry) ⊎ (r.at ≡ at.Waiting m)) → TakesRequests net.modules m → giving_to m o ≡ Some g → GivesNext net g
giving_found net m p None g f at takes e = absurd (none_some g e)
giving_found net m p (Some r) g f at takes e =
    subst (GivesNext net) (some_same (record { request = r; module_id = m }) g e) record { test = p; found = f; at = at r (find_true p net.requests r f); takes = takes }

lowest_gives : (net : Net) (ms : List ModuleId) (g : Giving) → AllTake net.modules ms → lowest_giving net.requests ms ≡ Some g → GivesNext net g
lowest_gives net [] g a e = absurd (none_some g e)
lowest_gives net (m ∷ ms) g a e =
    let cases : (b : Bool) → cond b (giving_to m (first_waiting net.requests m)) (lowest_giving net.requests ms) ≡ Some g → GivesNext net g = elim [
      | true ↦ λ f. giving_found net m (λ r. is_waiting_at m r.at) (first_waiting net.requests m) g refl (λ r t. inr (waiting_is m r.at t)) a.0 f
      | false ↦ λ f. lowest_gives net ms g a.1 f
    ] in
    cases (has_waiting net.requests m && not (is_busy net.requests m)) e

entry_gives : (net : Net) (g : Giving) → entry_giving net ≡ Some g → GivesNext net g
entry_gives net g e =
    let m : ModuleId = first_oid net.modules net.modules.order in
    let cases : (b : Bool) → cond b None (giving_to m (find (λ r. is_at_entry r.at) net.requests)) ≡ Some g → GivesNext net g = elim [
      | true ↦ λ f. absurd (none_some g f)
      | false ↦ λ f. giving_found net m (λ r. is_at_entry r.at) (find (λ r. is_at_entry r.at) net.requests) g refl (λ r t. inl (entry_is r.at t)) (topmost_takes net.modules) f
    ] in
    cases _ e

pub gives_next : (net : Net) (g : Giving) → next_giving net ≡ Some g → GivesNext net g
gives_next net g e = cases (lowest_giving net.requests (oid_modules net.modules)) refl e
  where
    cases : (o : Option Giving) → lowest_giving net.requests (oid_modules net.modules) ≡ o → or_else o (entry_giving net) ≡ Some g → GivesNext net g
    cases None f e = entry_gives net g e
    cases (Some k) f e = lowest_gives net (oid_modules net.modules) g (all_take net.modules) (f ∙ e)

-- after the request is given no clone of it is there yet
clones_stay : (n i : ℕ) (m : ModuleId) (rs : List Request) → HasNoClone (λ j. request_of j rs) i → HasNoClone (λ j. request_of j (map (given_to n m) rs)) i
clones_stay n i m rs h j q g e p s = by (request_of j rs) refl (sym (found_given n m rs j) ∙ e)
  where
    same : (o : Request) → (given_to n m o).parent ≡ o.parent
    same o = elim (o.request.0 == n) as (λ b. (cond b (record o { at = at.Given m }) o).parent ≡ o.parent) [ true ↦ refl | false ↦ refl ]

    by : (o : Option Request) → request_of j rs ≡ o → option_map (given_to n m) o ≡ Some q → ⊥
    by None f e = none_some q e
    by (Some o) f e = h j o g f (sym (same o) ∙ ap (λ (x : Request). x.parent) (some_same (given_to n m o) q e) ∙ p) s

module _ (net : Net) (k : IsKept net) (r : Request) (f : found_in net r.request.0 ≡ Some r) where
  given_now : (m : ModuleId) → found_in (after net (row.OidGive r.request m)) r.request.0 ≡ Some (record r { at = at.Given m })
  given_now m = found_given r.request.0 m net.requests r.request.0 ∙ ap (option_map (given_to r.request.0 m)) f ∙ ap (λ b. Some (cond b (record r { at = at.Given m }) r)) (itself r.request.0)
    where
      itself : (n : ℕ) → (n == n) ≡ true
      itself n = grind (arith, nat_tests)

  -- the miniport answers it
  to_miniport : (w : (r.at ≡ at.Entry) ⊎ (r.at ≡ at.Waiting Miniport)) → IsKept (after_rows net (row.OidGive r.request Miniport ∷ given_rows_by net r Miniport))
  to_miniport w =
      let next : Net = after net (row.OidGive r.request Miniport) in
      let childless : HasNoClone (found_in net) r.request.0 = waits_childless net.modules.order (found_in net) (answered net.things) net.next.request k.asked r.request.0 r Miniport f w in
      kept_done next r.request (report_of net r).status (report_of net r).value (record r { at = at.Given Miniport }) (kept_give net r.request Miniport r k f w) (given_now Miniport) (clones_stay r.request.0 r.request.0 Miniport net.requests childless)

  -- a filter forwards it
  to_filter : (filter : ℕ) → IsDistinct net.modules.order → TakesRequests net.modules (Filter filter) → (w : (r.at ≡ at.Entry) ⊎ (r.at ≡ at.Waiting (Filter filter))) → IsKept (after_rows net (row.OidGive r.request (Filter filter) ∷ given_rows_by net r (Filter filter)))
  to_filter filter d takes w =
      let next : Net = after net (row.OidGive r.request (Filter filter)) in
      let now : Request = record r { at = at.Given (Filter filter) } in
      let low : ModuleId = first_oid net.modules (below filter net.modules.order) in
      let place : place_of_request next.modules next.requests (Some r.request) ≡ at.Waiting low = ap (place_of_clone net.modules) (given_now (Filter filter)) in
      let above : IsAbove net.modules.order (found_in next) (at.Waiting low) r.request.0 = record { filter = filter; parent = record { request = now; here = given_now (Filter filter); at = refl; there = takes }; below = clone_below net.modules filter d takes } in
      let childless : HasNoClone (found_in net) r.request.0 = waits_childless net.modules.order (found_in net) (answered net.things) net.next.request k.asked r.request.0 r (Filter filter) f w in
      let unanswered : Each (λ a. a.parent.0 ≡ r.request.0 → ⊥) (answered net.things) = waits_unanswered net.modules.order (found_in net) (answered net.things) net.next.request k.asked r.request.0 r (Filter filter) f w in
      let may : MayStart net.modules.order (found_in next) (answered net.things) (place_of_request next.modules next.requests (Some r.request)) r.request = record {
        above = subst (λ p. IsAbove net.modules.order (found_in next) p r.request.0) (sym place) above;
        childless = clones_stay r.request.0 r.request.0 (Filter filter) net.requests childless;
        unanswered = unanswered;
      } in
      kept_issue next (oid_no net.next.request) (Some r.request) r.binding r.kind r.code r.value (kept_give net r.request (Filter filter) r k f w) refl (λ e. none_some r (sym (ap (request_of r.request.0) (k.halted e)) ∙ f))
      (λ g e. subst (MayStart net.modules.order (found_in next) (answered net.things) (place_of_request next.modules next.requests (Some r.request))) (some_same r.request g e) may)

pub kept_giving : (net : Net) (g : Giving) → IsKept net → IsDistinct net.modules.order → GivesNext net g → IsKept (after_rows net (giving_rows net g))
kept_giving net g k d may = by g.module_id may.takes may.at
  where
    f : found_in net g.request.request.0 ≡ Some g.request
    f = found_by_number may.test net.requests g.request k.apart may.found

    by : (m : ModuleId) → TakesRequests net.modules m → (g.request.at ≡ at.Entry) ⊎ (g.request.at ≡ at.Waiting m) → IsKept (after_rows net (row.OidGive g.request.request m ∷ given_rows_by net g.request m))
    by Miniport takes w = to_miniport net k g.request f w
    by (Filter filter) takes w = to_filter net k g.request f filter d takes w
    by (Binding b) takes w = absurd takes
