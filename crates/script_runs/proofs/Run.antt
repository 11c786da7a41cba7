-- The run of a script's only stack.
use Rattle.std.proofs.Common.{◌≡◌, ℕ, List, [], ◌∷◌, sym, ap, ◌∙◌, subst}
use Rattle.ndis_base.specs.declared.LaneNo.{LaneNo}
use Rattle.journal_types.specs.declared.StackHead.{StackHead}
use Rattle.journal_types.specs.declared.Turn.{Turn}
use Rattle.stack_rules.specs.Sound.{Sound}
use Rattle.promise_rules.specs.Followed.{IsFollowed, IsOpenedAndEnded}
use Rattle.script_types.specs.declared.Script.{Script}
use Rattle.script_types.specs.declared.Call.{Call}
use Rattle.script_types.specs.declared.FilterSetup.{FilterSetup}
use Rattle.script_types.specs.declared.StackSetup.{StackSetup}
use Rattle.book_lemmas.specs.Views.{BookView}
use Rattle.lane_orders.specs.Orders.{ordered}
use Rattle.book_scripts.specs.Laws.{MeetsLaws}
use Rattle.book_scripts.specs.Orders.{CallsInOrder}
use Rattle.book_scripts.specs.Scripts.{RunsWhole}
use Rattle.book_scripts.specs.Served.{DriversServed}
use Rattle.book_scripts.proofs.Asked.{pauses_are_asked}
use Rattle.script_runs.specs.Built.{IsRun, head_of}

-- what holds at a head and a journal holds at the same ones
moved : (P : StackHead → List Turn → Type 0) (h h' : StackHead) (ts ts' : List Turn) → h ≡ h' → ts ≡ ts' → P h ts → P h' ts'
moved P h h' ts ts' eh et p = subst (λ x. P x ts') eh (subst (P h) et p)

pub is_run : (script : Script) (order : List ℕ) (s : List StackSetup) (stack : StackSetup) (cs : List Call) (fs : List FilterSetup) (h head : StackHead) (turns : List Turn) (a b : BookView) → s ≡ script.stacks → s ≡ stack ∷ [] → cs ≡ script.calls → fs ≡ stack.filters
    → h ≡ head_of stack → a.tray.head ≡ h → RunsWhole fs (ordered script.lanes order cs) a b → ((stacks : List StackSetup) → CallsInOrder stacks a.tray.head fs (ordered script.lanes order cs) b.tray.turns) → ((stacks : List StackSetup) (lane : LaneNo) → IsFollowed stacks lane cs (b.tray.turns ∷ [])) → MeetsLaws a.tray.head b.tray.turns → Sound a.tray.head b.tray.turns
    → DriversServed a.tray.head fs b.tray.turns a.held b.held → head ≡ b.tray.head → turns ≡ b.tray.turns → IsRun script order head turns
is_run script order s stack cs fs h head turns a b same only calls filters is begun w sorted followed laws sound served eh et =
    let at : a.tray.head ≡ head = sym w.head_is ∙ sym eh in
    let calls_followed : (lane : LaneNo) → IsFollowed script.stacks lane script.calls (turns ∷ []) =
    λ lane. subst (λ xs. IsFollowed script.stacks lane xs (turns ∷ [])) calls (subst (λ ts. IsFollowed script.stacks lane cs (ts ∷ [])) (sym et) (followed script.stacks lane)) in
    let opened_and_ended : IsOpenedAndEnded head stack.filters turns =
    subst (λ xs. IsOpenedAndEnded head xs turns) filters (moved (λ x ts. IsOpenedAndEnded x fs ts) a.tray.head head b.tray.turns turns at (sym et) served.ran.ended) in
    record {
      stack = stack;
      only = sym same ∙ only;
      head_is = sym at ∙ begun ∙ is;
      sound = moved Sound a.tray.head head b.tray.turns turns at (sym et) sound;
      laws = moved MeetsLaws a.tray.head head b.tray.turns turns at (sym et) laws;
      followed = calls_followed;
      ended = opened_and_ended;
      in_order =
          subst (λ xs. CallsInOrder script.stacks head xs (ordered script.lanes order script.calls) turns) filters
          (subst (λ xs. CallsInOrder script.stacks head fs (ordered script.lanes order xs) turns) calls
          (moved (λ x ts. CallsInOrder script.stacks x fs (ordered script.lanes order cs) ts) a.tray.head head b.tray.turns turns at (sym et) (sorted script.stacks)));
      pauses_asked = pauses_are_asked script.stacks head stack.filters script.calls turns opened_and_ended calls_followed;
    }
