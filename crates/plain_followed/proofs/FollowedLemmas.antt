-- The steps of a walk over what is left of the journals.
use Rattle.std.proofs.Common.{◌≡◌, ◌≢◌, ℕ, ◌≤◌, ◌<◌, Bool, true, All, List, [], ◌∷◌, length, drop, get_or, Some, None, Result, Ok, Err, IfOk, refl, sym, subst, arith}
use Rattle.ndis_base.specs.declared.LaneNo.{LaneNo}
use Rattle.ndis_base.specs.declared.OutOfMemory.{OutOfMemory}
use Rattle.ndis_base.specs.declared.Who.TheVariants as who
use Rattle.journal_types.specs.declared.Turn.{Turn}
use Rattle.script_types.specs.declared.Call.{Call}
use Rattle.script_types.specs.declared.StackSetup.{StackSetup}
use Rattle.promise_rules.specs.declared.Tail.{Tail}
use Rattle.promise_rules.specs.declared.Tail.TheVariants.{Ended, Pumping, PumpingBoth, Pausing, Draining, Restarting, Putting, EndingMessage, PuttingUp}
use Rattle.promise_rules.specs.Tails.{next_stack, next_event, tail_after, tail_of, stack_asked, event_asked}
use Rattle.promise_rules.specs.Followed.{Follows, done, other, called, helped, link_of, next_turn, next_turn_on, rests_after}

pub is_ended : (tail : Tail) → next_stack tail ≡ None → tail ≡ Ended
is_ended Ended none = refl
is_ended (Pumping s) none = cc
is_ended (PumpingBoth s after) none = cc
is_ended (Pausing s) none = cc
is_ended (Draining s) none = cc
is_ended (Restarting s) none = cc
is_ended (Putting upper lower message vlan frames pumps) none = cc
is_ended (EndingMessage upper lower message status pumps) none = cc
is_ended (PuttingUp upper lower message frames pumps) none = cc

-- a verdict stands for more where what it says does
pub passed_on : (A B : Type 0) (r : Result Bool OutOfMemory) → (A → B) → IfOk r (λ holds. holds ≡ true → A) → IfOk r (λ holds. holds ≡ true → B)
passed_on A B (Ok holds) step held = λ is. step (held is)
passed_on A B (Err e) step held = tt

pub ends_here : (stacks : List StackSetup) (lane : LaneNo) (tail : Tail) (rests : List (List Turn)) → next_stack tail ≡ None → All (λ rest. next_turn lane.0 rest ≡ None) rests → Follows stacks lane [] tail rests
ends_here stacks lane tail rests none left =
    let P : Tail → Type 0 = λ t. Follows stacks lane [] t rests in
    subst P (sym (is_ended tail none)) (done rests left)

pub passes_over : (stacks : List StackSetup) (lane : LaneNo) (call : Call) (calls : List Call) (tail : Tail) (rests : List (List Turn)) → next_stack tail ≡ None → call.lane.0 ≢ lane.0 → Follows stacks lane calls tail rests → Follows stacks lane (call ∷ calls) tail rests
passes_over stacks lane call calls tail rests none not_its more =
    let P : Tail → Type 0 = λ t. Follows stacks lane (call ∷ calls) t rests in
    let Q : Tail → Type 0 = λ t. Follows stacks lane calls t rests in
    subst P (sym (is_ended tail none)) (other call calls rests not_its (subst Q (is_ended tail none) more))

pub calls_next : (stacks : List StackSetup) (lane : LaneNo) (call : Call) (calls : List Call) (tail next : Tail) (rests left : List (List Turn)) (turn : Turn) → next_stack tail ≡ None → next_turn_on lane.0 (stack_asked (link_of stacks call.stack) call.stack call.kind) 0 rests ≡ Some turn → turn.who ≡ who.Call lane → turn.event ≡ event_asked (link_of stacks call.stack) call.kind → call.lane ≡ lane → next ≡ tail_of (link_of stacks call.stack) call.stack call.pump call.kind turn.reply → left ≡ rests_after lane.0 (stack_asked (link_of stacks call.stack) call.stack call.kind) 0 rests → Follows stacks lane calls next left → Follows stacks lane (call ∷ calls) tail rests
calls_next stacks lane call calls tail next rests left turn none at by what its is_next is_left more =
    let P : Tail → Type 0 = λ t. Follows stacks lane (call ∷ calls) t rests in
    let Q : Tail → Type 0 = λ t. Follows stacks lane calls t left in
    let R : List (List Turn) → Type 0 = λ l. Follows stacks lane calls (tail_of (link_of stacks call.stack) call.stack call.pump call.kind turn.reply) l in
    subst P (sym (is_ended tail none)) (called call calls rests turn at by what its (subst R is_left (subst Q is_next more)))

pub helps_next : (stacks : List StackSetup) (lane : LaneNo) (calls : List Call) (tail next : Tail) (rests left : List (List Turn)) (s : ℕ) (turn : Turn) → next_stack tail ≡ Some s → next_turn_on lane.0 s 0 rests ≡ Some turn → turn.who ≡ who.Help lane → next_event tail ≡ Some turn.event → next ≡ tail_after tail turn.reply → left ≡ rests_after lane.0 s 0 rests → Follows stacks lane calls next left → Follows stacks lane calls tail rests
helps_next stacks lane calls tail next rests left s turn at_stack at by what is_next is_left more =
    let Q : Tail → Type 0 = λ t. Follows stacks lane calls t left in
    let R : List (List Turn) → Type 0 = λ l. Follows stacks lane calls (tail_after tail turn.reply) l in
    helped calls tail rests s turn at_stack at by what (subst R is_left (subst Q is_next more))

-- a list is its first item and the others
pub from_first : {X : Type 0} (xs others : List X) (x : X) → others ≡ drop 1 xs → 1 ≤ length xs → x ≡ get_or xs 0 x → xs ≡ x ∷ others
from_first [] others x rest some first = absurd (omega arith)
from_first (y ∷ ys) others x rest some first = cc

pub no_items : {X : Type 0} (xs : List X) → length xs < 1 → xs ≡ []
no_items [] none = refl
no_items (x ∷ xs) none = absurd (omega arith)
