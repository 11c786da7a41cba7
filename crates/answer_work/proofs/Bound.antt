-- Each request of a stack is of a binding that has a protocol.
use Rattle.std.proofs.Common.{◌≡◌, ℕ, ◌<◌, ◌==◌, List, Some, map, length, sym, ap, ◌∙◌, subst}
use Rattle.std.proofs.lemmas.List.{length-map}
use Rattle.journal_types.specs.declared.StackHead.{StackHead}
use Rattle.stack_rules.specs.declared.Request.{Request}
use Rattle.stack_rules.specs.Net.{Net, request_of}
use Rattle.rule_basics.specs.Live.{EachRequest}
use Rattle.asked_laws.specs.Asked.{IsOurs}
use Rattle.asked_laws.proofs.Bound.{bound_found, each_is_of_a_binding}
use Rattle.book_lemmas.specs.Views.{BookView}
use Rattle.book_lemmas.proofs.Heads.{head_seen}
use Rattle.book_parts.specs.Events.{IsBook, IsIdle}
use Rattle.book_parts.proofs.Ended.{idle_state}

-- a request is of a binding that has a protocol
pub bound_within : (old : BookView) (r : Request) (n : ℕ) → IsBook old → IsIdle old → request_of n old.tray.net.requests ≡ Some r → r.binding < length old.held.protocols
bound_within old r n k i found =
    let many : ℕ = length old.tray.head.bindings in
    let all : EachRequest (IsOurs many) old.tray.net.requests = subst (λ (x : Net). EachRequest (IsOurs many) x.requests) (sym (idle_state old k i)) (each_is_of_a_binding old.tray.head old.tray.turns k.follows.sound) in
    let same : old.tray.net.head ≡ old.tray.head = ap (λ (x : Net). x.head) (idle_state old k i) ∙ head_seen old.tray.head old.tray.turns in
    let low : r.binding < many = bound_found many (λ q. q.request.0 == n) old.tray.net.requests r all found in
    subst (λ x. r.binding < x) (sym (k.stands.protocols ∙ ap (λ (h : StackHead). length h.bindings) same)) low

-- among the protocols themselves
pub bound_items : {P S : Type 0} (f : P → S) (items shown : List P) (b : ℕ) → shown ≡ items → b < length (map f items) → b < length shown
bound_items f items shown b same low = subst (λ xs. b < length xs) (sym same) (subst (λ n. b < n) (length-map items f) low)
