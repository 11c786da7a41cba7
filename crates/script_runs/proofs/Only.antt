-- A script of one stack that can be run.
use Rattle.std.proofs.Common.{◌≡◌, ℕ, ◌&&◌, ◌<◌, ◌≤◌, nat_le, Bool, true, false, List, [], ◌∷◌, All, length, get_or, refl, sym, ap, ◌∙◌, subst, arith}
use Rattle.std.proofs.lemmas.Bool.Decides.{nat_tests}
use Rattle.std.proofs.lemmas.List.Elements.{All-nil}
use Rattle.std.specs.List.{list_all}
use Rattle.ndis_base.specs.declared.MiniportKind.{MiniportKind}
use Rattle.ndis_base.specs.declared.MiniportKind.TheVariants as miniport_kind
use Rattle.ndis_base.specs.declared.Phase.TheVariants as phase
use Rattle.journal_types.specs.declared.StackHead.{StackHead}
use Rattle.journal_types.specs.declared.Turn.{Turn}
use Rattle.stack_rules.specs.Conditions.{is_between}
use Rattle.stack_rules.specs.Net.{Net, seen}
use Rattle.stack_rules.specs.Tests.{is_virtual}
use Rattle.script_types.specs.declared.Script.{Script}
use Rattle.script_types.specs.declared.Call.{Call}
use Rattle.script_types.specs.declared.FilterSetup.{FilterSetup}
use Rattle.script_types.specs.declared.StackSetup.{StackSetup}
use Rattle.work_laws.specs.Bounds.{is_take}
use Rattle.book_lemmas.specs.Views.{BookView}
use Rattle.book_parts.proofs.Ended.{idle_state}
use Rattle.book_opening.specs.Opened.{IsOpenedBook}
use Rattle.book_scripts.specs.Scripts.{IsInPhase, is_fine}
use Rattle.lane_orders.specs.Orders.{is_below}
use Rattle.book_scripts.specs.Scripts.{is_asked_call}
use Rattle.script_runs.specs.Built as form

-- a list of one item is that item
pub only_item : (s : List StackSetup) (x : StackSetup) → 1 ≤ length s → length s < 2 → x ≡ get_or s 0 x → s ≡ x ∷ []
only_item [] x some few is = search arith
only_item (y ∷ []) x some few is = rw is refl
only_item (y ∷ z ∷ s) x some few is = search arith

differ : {A : Type 0} → false ≡ true → A
differ e = absurd (cc)

both_true : (a b : Bool) → (a && b) ≡ true → (a ≡ true) × (b ≡ true)
both_true true true e = (refl, refl)
both_true true false e = differ e
both_true false b e = differ e

-- a script that can be run has a stack, by parts
pub record IsRunnable (stack : StackSetup) (calls : List Call) : Type 0 where
  pub ring : is_virtual stack.miniport.kind ≡ false
  pub bound : 1 ≤ length stack.bindings
  pub few : length stack.filters ≤ 16
  pub fine : list_all is_fine stack.filters ≡ true
  pub asked : list_all (is_asked_call (form.head_of stack)) calls ≡ true

rings : (kind : MiniportKind) → form.is_built_miniport kind ≡ true → is_virtual kind ≡ false
rings miniport_kind.Ring e = refl
rings miniport_kind.Loop e = refl
rings miniport_kind.Virtual e = differ e

at_most : (n m : ℕ) → nat_le n m ≡ true → n ≤ m
at_most n m e = grind (arith, nat_tests, e)

pub runnable : (script : Script) (s : List StackSetup) (stack : StackSetup) (cs : List Call) → form.is_built script ≡ true → s ≡ script.stacks → s ≡ stack ∷ [] → cs ≡ script.calls → IsRunnable stack cs
runnable script s stack cs built same only calls =
    let are : form.are_built script.stacks script.calls ≡ true = (both_true (list_all (is_below script.lanes) script.calls) (form.are_built script.stacks script.calls) built).1 in
    let one : form.are_built (stack ∷ []) script.calls ≡ true = ap (λ ss. form.are_built ss script.calls) (sym only ∙ same) ∙ are in
    let a = both_true (form.is_built_stack stack) (list_all (is_asked_call (form.head_of stack)) script.calls) one in
    let b = both_true (form.is_built_miniport stack.miniport.kind) _ a.0 in
    let c = both_true (is_between 1 8 (length stack.bindings)) _ b.1 in
    let d = both_true (list_all form.is_built_binding stack.bindings) _ c.1 in
    let e = both_true (nat_le (length stack.filters) 16) _ d.1 in
    record {
      ring = rings stack.miniport.kind b.0;
      bound = at_most 1 (length stack.bindings) (both_true (nat_le 1 (length stack.bindings)) (nat_le (length stack.bindings) 8) c.0).0;
      few = at_most (length stack.filters) 16 e.0;
      fine = e.1;
      asked = ap (list_all (is_asked_call (form.head_of stack))) calls ∙ a.1;
    }

-- a stack that was just opened may be run
pub may_run : (stack : StackSetup) (calls : List Call) (head : StackHead) (b : BookView) → IsRunnable stack calls → head ≡ form.head_of stack → IsOpenedBook head b → IsInPhase b phase.Halted
may_run stack calls head b r is o = record {
  between = record {
    book = o.book;
    idle = o.idle;
    rings = ap (λ (h : StackHead). is_virtual h.kind) (o.head_is ∙ is) ∙ r.ring;
    untaken = subst (All (λ (turn : Turn). is_take turn.event ≡ false)) (sym o.turns) (All-nil (λ (turn : Turn). is_take turn.event ≡ false));
  };
  phase_is = ap (λ (n : Net). n.phase) (idle_state b o.book o.idle) ∙ ap (λ ts. (seen b.tray.head ts).phase) o.turns;
}

pub few_filters : (stack : StackSetup) (calls : List Call) (fs : List FilterSetup) → IsRunnable stack calls → fs ≡ stack.filters → length fs ≤ 16
few_filters stack calls fs r same = subst (λ (xs : List FilterSetup). length xs ≤ 16) (sym same) r.few

pub fine_filters : (stack : StackSetup) (calls : List Call) (fs : List FilterSetup) → IsRunnable stack calls → fs ≡ stack.filters → list_all is_fine fs ≡ true
fine_filters stack calls fs r same = ap (list_all is_fine) same ∙ r.fine

pub calls_below : (script : Script) (cs : List Call) → form.is_built script ≡ true → cs ≡ script.calls → list_all (is_below script.lanes) cs ≡ true
calls_below script cs built calls = ap (list_all (is_below script.lanes)) calls ∙ (both_true (list_all (is_below script.lanes) script.calls) (form.are_built script.stacks script.calls) built).0

pub calls_asked : (stack : StackSetup) (calls : List Call) (begun head : StackHead) → IsRunnable stack calls → begun ≡ head → head ≡ form.head_of stack → list_all (is_asked_call begun) calls ≡ true
calls_asked stack calls begun head r kept is = ap (λ (h : StackHead). list_all (is_asked_call h) calls) (kept ∙ is) ∙ r.asked
