-- Rows that name modules that are there call no filter that isn't.
use Rattle.std.proofs.Common.{◌≡◌, ℕ, ◌==◌, ◌+◌, ◌≤◌, ◌&&◌, Bool, true, false, List, [], ◌∷◌, ◌++◌, Option, Some, None, length, count_by, refl, ap, sym, ◌∙◌, arith, subst}
use Rattle.std.proofs.lemmas.Bool.Decides.{nat_tests}
use Rattle.ndis_base.specs.declared.Direction.{Direction}
use Rattle.ndis_base.specs.declared.Direction.TheVariants as direction
use Rattle.ndis_base.specs.declared.ModuleId.{ModuleId}
use Rattle.ndis_base.specs.declared.ModuleId.TheVariants.{Miniport, Filter, Binding}
use Rattle.ndis_base.specs.declared.OidNo.{OidNo}
use Rattle.journal_types.specs.declared.Event.{Event}
use Rattle.journal_types.specs.declared.Event.TheVariants as event
use Rattle.journal_types.specs.declared.Reply.{Reply}
use Rattle.journal_types.specs.declared.Reply.TheVariants as reply
use Rattle.journal_types.specs.declared.Row.{Row}
use Rattle.journal_types.specs.declared.Row.TheVariants as row
use Rattle.journal_types.specs.declared.StackHead.{StackHead}
use Rattle.journal_types.specs.declared.Turn.{Turn}
use Rattle.stack_rules.specs.declared.Attached.{Attached}
use Rattle.stack_rules.specs.declared.Request.{Request}
use Rattle.stack_rules.specs.declared.RequestAt.{RequestAt}
use Rattle.stack_rules.specs.declared.RequestAt.TheVariants as at
use Rattle.stack_rules.specs.Tests.{same_module}
use Rattle.stack_rules.specs.Net.{Net, Modules, attached, after, told, lists, list_of, request_of, seen}
use Rattle.stack_rules.specs.Sound.{Next, Sound, outcome}
use Rattle.rule_basics.specs.Live.{EachRequest}
use Rattle.rule_basics.proofs.Counts.{one_if, count_by-cons, count_by-append}
use Rattle.request_laws.proofs.Finds.{EachRequest-find}
use Rattle.promise_rules.specs.declared.Call.{Call}
use Rattle.promise_rules.specs.declared.Called.{Called}
use Rattle.promise_rules.specs.declared.Called.TheVariants as called
use Rattle.promise_rules.specs.Calls.{call, called_by, received_as, home_call, is_call_of, same_called}
use Rattle.book_lemmas.specs.Did.{calls_now, calls_in, completes, holder_now, asker_now, direction_of}
use Rattle.attached_laws.specs.Attached.{EachCallsAttached}
use Rattle.attached_laws.proofs.Here.{IsHere, AtHere, RowIsHere, AreHere, HoldsHere, holds_rows}
use Rattle.attached_laws.proofs.Events.{event_here, told_holds}
use Rattle.attached_laws.proofs.Turns.{each_holds_here, lists_are_here}

none_some : (o : Option Attached) (a : Attached) → o ≡ None → o ≡ Some a → ⊥
none_some o a e g = cc

module _ (ms : Modules) (f : ℕ) (absent : attached f ms.filters ≡ None) (what : Called) where
  abbrev CallsNone : List Call → Type 0
  CallsNone calls = count_by (is_call_of (Filter f) what) calls ≡ 0

  -- a module that is there is another one
  other : (m : ModuleId) → IsHere ms m → same_module m (Filter f) ≡ false
  other Miniport i = refl
  other (Binding b) i = refl
  other (Filter g) i = by_number (g == f) refl
    where
      by_number : (b : Bool) → (g == f) ≡ b → (g == f) ≡ false
      by_number false e = e
      by_number true e = let same : g ≡ f = grind (arith, nat_tests) in absurd (none_some (attached f ms.filters) i.0 absent (ap (λ n. attached n ms.filters) (sym same) ∙ i.1))

  none_of : (c : Call) → same_module c.module_id (Filter f) ≡ false → CallsNone (c ∷ [])
  none_of c apart = count_by-cons (is_call_of (Filter f) what) c [] ∙ ap (λ b. one_if (b && same_called c.what what) + 0) apart

  called_none : (m : ModuleId) (w : Called) → IsHere ms m → CallsNone (call m w)
  called_none m w i = none_of (record { module_id = m; what = w }) (other m i)

  home_none : (owner : ModuleId) (d : Direction) → IsHere ms owner → CallsNone (home_call owner d)
  home_none owner direction.Down i = called_none owner called.SendComplete i
  home_none owner direction.Up i = called_none owner called.Returned i
  home_none owner direction.Lent i = refl

  both_none : (xs ys : List Call) → CallsNone xs → CallsNone ys → CallsNone (xs ++ ys)
  both_none xs ys h k = let sum = count_by-append (is_call_of (Filter f) what) xs ys in omega (arith, sum, h, k)

  holder_none : (a : RequestAt) → AtHere ms a → CallsNone (holder_now a)
  holder_none at.Entry i = refl
  holder_none (at.Waiting m) i = refl
  holder_none (at.Given Miniport) i = refl
  holder_none (at.Given (Filter g)) i = called_none (Filter g) called.OidComplete i
  holder_none (at.Given (Binding b)) i = refl

  asker_none : (parent : Option OidNo) (binding : ℕ) → CallsNone (asker_now parent binding)
  asker_none None binding = called_none (Binding binding) called.OidComplete tt
  asker_none (Some parent) binding = refl

  done_none : (o : Option Request) → ((r : Request) → o ≡ Some r → AtHere ms r.at) → CallsNone (completes o)
  done_none None i = refl
  done_none (Some r) i = both_none (holder_now r.at) (asker_now r.parent r.binding) (holder_none r.at (i r refl)) (asker_none r.parent r.binding)

  row_none : (net : Net) (r : Row) → RowIsHere ms r → HoldsHere ms net → CallsNone (calls_now net r)
  row_none net (row.Give list m handler) i h = called_none m (called_by handler) i
  row_none net (row.Home list owner status) i h = home_none owner (direction_of (list_of list.0 (lists net.things))) i
  row_none net (row.Deliver list b how frames) i h = called_none (Binding b) (received_as how) tt
  row_none net (row.OidGive request m) i h = called_none m called.Oid i
  row_none net (row.OidDone request status value) i h = done_none (request_of request.0 net.requests) (λ r e. EachRequest-find (λ r. AtHere ms r.at) (λ (r : Request). r.request.0 == request.0) net.requests r h.given e)
  row_none net (row.Seen number m) i h = called_none m called.Status i
  row_none net (row.Issue list owner config direction cancel origin frames) i h = refl
  row_none net (row.Pass list way to) i h = refl
  row_none net (row.Keep list m) i h = refl
  row_none net (row.TurnBack list m status) i h = refl
  row_none net (row.Wire list frames) i h = refl
  row_none net (row.Phase whose) i h = refl
  row_none net (row.Config config filters) i h = refl
  row_none net (row.OidIssue request parent binding kind code value) i h = refl
  row_none net (row.Status number name to) i h = refl
  row_none net (row.CrossOut message way frames) i h = refl
  row_none net (row.CrossIn stack message way frames) i h = refl

  rows_none : (net : Net) (rows : List Row) → AreHere ms rows → HoldsHere ms net → CallsNone (calls_in net rows)
  rows_none net [] i h = refl
  rows_none net (r ∷ rows) i h =
      both_none (calls_now net r) (calls_in (after net r) rows) (row_none net r i.0 h)
      (rows_none (after net r) rows i.1 (holds_rows ms net (r ∷ []) (i.0, tt) h))

pub each_calls_attached : EachCallsAttached
each_calls_attached head turns turn s bound next f absent what =
    let net : Net = seen head turns in
    rows_none net.modules f absent what (told net turn.event turn.reply) turn.rows
    (subst (AreHere net.modules) (sym next.rows) (event_here net (lists_are_here head turns s bound) (each_holds_here head turns s bound) turn.event next.choice))
    (told_holds net.modules net turn.event turn.reply (each_holds_here head turns s bound))
