-- What is kept of the requests of a stack, after each row.
use Rattle.std.proofs.Common.{◌≡◌, ℕ, ◌<◌, ◌==◌, Bool, true, false, not, cond, List, [], ◌∷◌, ◌++◌, Option, Some, None, ◌⊎◌, refl, arith, ap, sym, subst, ◌∙◌}
use Rattle.ndis_base.specs.declared.ModuleId.{ModuleId}
use Rattle.ndis_base.specs.declared.ModuleId.TheVariants.{Miniport, Filter, Binding}
use Rattle.ndis_base.specs.declared.OidNo.{OidNo}
use Rattle.ndis_base.specs.declared.OidKind.{OidKind}
use Rattle.ndis_base.specs.declared.OidStatus.{OidStatus}
use Rattle.ndis_base.specs.declared.ConfigNo.{ConfigNo}
use Rattle.ndis_base.specs.declared.Phase.{Phase}
use Rattle.ndis_base.specs.declared.Phase.TheVariants as phase
use Rattle.journal_types.specs.declared.OutWay.TheVariants as out
use Rattle.journal_types.specs.declared.PhaseOf.TheVariants as of
use Rattle.journal_types.specs.declared.Row.{Row}
use Rattle.journal_types.specs.declared.Row.TheVariants as row
use Rattle.journal_types.specs.declared.StackHead.{StackHead}
use Rattle.stack_rules.specs.declared.Request.{Request}
use Rattle.stack_rules.specs.declared.RequestAt.TheVariants as at
use Rattle.stack_rules.specs.declared.Thing.{Thing}
use Rattle.stack_rules.specs.declared.Thing.TheVariants as thing
use Rattle.stack_rules.specs.Tests.{phase_is_halted}
use Rattle.stack_rules.specs.Net.{Net, Modules, start, after, after_rows, request_of, place_of_request, things_after_done, had_by, taken_by, without_status}
use Rattle.request_laws.proofs.Asked.{AreKept, HasNoClone, none_some}
use Rattle.request_laws.proofs.Changes.{keeps_given, MayStart, keeps_issued, AreFrom, keeps_done, AllAtEntry, keeps_reordered}
use Rattle.request_laws.proofs.Finds.{found_push, apart_push, found_given, apart_given, found_but, apart_but}
use Rattle.request_laws.proofs.Answers.{answered, answered-push, answered-without, answered-without_status, answered-changed, answered-kept, answered-passed, answer_of, answered-done}
use Rattle.rule_basics.specs.Live.{EachApart}

-- the request of a number
abbrev pub found_in : Net → ℕ → Option Request
found_in net n = request_of n net.requests

-- What is kept of requests and answers; each number is that of one request; a halted stack has no request.
pub record IsKept (net : Net) : Type 0 where
  pub asked : AreKept net.modules.order (found_in net) (answered net.things) net.next.request
  pub apart : EachApart net.requests
  pub halted : net.phase ≡ phase.Halted → net.requests ≡ []

-- the requests, their answers, their next number and the order are the same, and the stack isn't halted by it
pub record AsksSame (net next : Net) : Type 0 where
  pub order : next.modules.order ≡ net.modules.order
  pub requests : next.requests ≡ net.requests
  pub answers : answered next.things ≡ answered net.things
  pub number : next.next.request ≡ net.next.request
  pub phase : next.phase ≡ phase.Halted → net.phase ≡ phase.Halted

pub asks-refl : (net : Net) → AsksSame net net
asks-refl net = record { order = refl; requests = refl; answers = refl; number = refl; phase = λ e. e }

pub asks-then : (a b c : Net) → AsksSame a b → AsksSame b c → AsksSame a c
asks-then a b c h k = record {
  order = k.order ∙ h.order;
  requests = k.requests ∙ h.requests;
  answers = k.answers ∙ h.answers;
  number = k.number ∙ h.number;
  phase = λ e. h.phase (k.phase e);
}

pub kept_same : (net next : Net) → AsksSame net next → IsKept net → IsKept next
kept_same net next s k = record {
  asked =
      subst (λ o. AreKept o (found_in next) (answered next.things) next.next.request) (sym s.order)
      (subst (λ (rs : List Request). AreKept net.modules.order (λ n. request_of n rs) (answered next.things) next.next.request) (sym s.requests)
      (subst (λ xs. AreKept net.modules.order (found_in net) xs next.next.request) (sym s.answers)
      (subst (λ n. AreKept net.modules.order (found_in net) (answered net.things) n) (sym s.number) k.asked)));
  apart = subst EachApart (sym s.requests) k.apart;
  halted = λ e. s.requests ∙ k.halted (s.phase e);
}

-- the row tells nothing of requests, no configuration and no halt
abbrev pub is_still : Row → Bool
is_still (row.Phase (of.Stack p)) = not (phase_is_halted p)
is_still (row.Config config filters) = false
is_still (row.OidIssue request parent binding kind code value) = false
is_still (row.OidGive request m) = false
is_still (row.OidDone request status value) = false
is_still _ = true

abbrev pub AreStill : List Row → Type 0
AreStill [] = Unit {0}
AreStill (r ∷ rows) = (is_still r ≡ true) × AreStill rows

pub still-append : (xs ys : List Row) → AreStill xs → AreStill ys → AreStill (xs ++ ys)
still-append [] ys h k = k
still-append (x ∷ xs) ys h k = (h.0, still-append xs ys h.1 k)

not_halted : (p : Phase) → not (phase_is_halted p) ≡ true → p ≡ phase.Halted → ⊥
not_halted p q e = let h : not (phase_is_halted phase.Halted) ≡ true = subst (λ p. not (phase_is_halted p) ≡ true) e q in cc

-- only things change, and no answer
things_only : (net : Net) (things : List Thing) → answered things ≡ answered net.things → (next : Net) → next.modules ≡ net.modules → next.requests ≡ net.requests → next.things ≡ things → next.next.request ≡ net.next.request → next.phase ≡ net.phase → AsksSame net next
things_only net things a next m r t n p = record { order = ap (λ (x : Modules). x.order) m; requests = r; answers = ap answered t ∙ a; number = n; phase = λ e. sym p ∙ e }

still_row : (net : Net) (r : Row) → is_still r ≡ true → AsksSame net (after net r)
still_row net (row.Issue list owner config direction cancel origin frames) q =
    things_only net _ (answered-push net.things _ refl) (after net (row.Issue list owner config direction cancel origin frames)) refl refl refl refl refl
still_row net (row.Give list m handler) q = things_only net _ (answered-changed list.0 (had_by m) net.things) (after net (row.Give list m handler)) refl refl refl refl refl
still_row net (row.Pass list way to) q = things_only net _ (answered-passed list.0 way to net.things) (after net (row.Pass list way to)) refl refl refl refl refl
still_row net (row.Keep list m) q = things_only net _ (answered-kept list.0 m net.things) (after net (row.Keep list m)) refl refl refl refl refl
still_row net (row.TurnBack list m status) q = things_only net _ (answered-changed list.0 (had_by m) net.things) (after net (row.TurnBack list m status)) refl refl refl refl refl
still_row net (row.Home list owner status) q = things_only net _ (answered-without list.0 net.things) (after net (row.Home list owner status)) refl refl refl refl refl
still_row net (row.Wire list frames) q = things_only net net.things refl (after net (row.Wire list frames)) refl refl refl refl refl
still_row net (row.Deliver list binding how frames) q = things_only net net.things refl (after net (row.Deliver list binding how frames)) refl refl refl refl refl
still_row net (row.Phase (of.Module Miniport s)) q = record { order = refl; requests = refl; answers = refl; number = refl; phase = λ e. e }
still_row net (row.Phase (of.Module (Filter f) s)) q = record { order = refl; requests = refl; answers = refl; number = refl; phase = λ e. e }
still_row net (row.Phase (of.Module (Binding b) s)) q = record { order = refl; requests = refl; answers = refl; number = refl; phase = λ e. e }
still_row net (row.Phase (of.Stack p)) q = record { order = refl; requests = refl; answers = refl; number = refl; phase = λ e. absurd (not_halted p q e) }
still_row net (row.Config config filters) q = cc
still_row net (row.OidIssue request parent binding kind code value) q = cc
still_row net (row.OidGive request m) q = cc
still_row net (row.OidDone request status value) q = cc
still_row net (row.Status number name to) q =
    things_only net _ (answered-push (without_status number.0 net.things) (thing.Status (record { number = number; name = name; to = to })) refl ∙ answered-without_status number.0 net.things) (after net (row.Status number name to)) refl refl refl refl refl
still_row net (row.Seen number m) q = things_only net _ (answered-without_status number.0 net.things) (after net (row.Seen number m)) refl refl refl refl refl
still_row net (row.CrossOut message (out.Down list) frames) q =
    things_only net _ (answered-changed list.0 (taken_by message.0) net.things) (after net (row.CrossOut message (out.Down list) frames)) refl refl refl refl refl
still_row net (row.CrossOut message out.Up frames) q = things_only net net.things refl (after net (row.CrossOut message out.Up frames)) refl refl refl refl refl
still_row net (row.CrossIn stack message way frames) q = asks-refl net

pub still_rows : (net : Net) (rows : List Row) → AreStill rows → AsksSame net (after_rows net rows)
still_rows net [] q = asks-refl net
still_rows net (r ∷ rows) q = asks-then net (after net r) (after_rows (after net r) rows) (still_row net r q.0) (still_rows (after net r) rows q.1)

-- the next number is free
free : (net : Net) → IsKept net → found_in net net.next.request ≡ None
free net k = by (found_in net net.next.request) refl
  where
    by : (o : Option Request) → found_in net net.next.request ≡ o → o ≡ None
    by None e = refl
    by (Some r) e = let low : net.next.request < net.next.request = k.asked.below net.next.request r e in absurd (omega (arith, low))

-- a request is issued
pub kept_issue : (net : Net) (request : OidNo) (parent : Option OidNo) (binding : ℕ) (kind : OidKind) (code : ℕ) (value : List ℕ) → IsKept net → request.0 ≡ net.next.request → (net.phase ≡ phase.Halted → ⊥) → ((g : OidNo) → parent ≡ Some g → MayStart net.modules.order (found_in net) (answered net.things) (place_of_request net.modules net.requests parent) g) →
    IsKept (after net (row.OidIssue request parent binding kind code value))
kept_issue net request parent binding kind code value k number runs may =
    let r : Request = record { request = request; parent = parent; binding = binding; kind = kind; code = code; value = value; at = place_of_request net.modules net.requests parent } in
    let next : Net = after net (row.OidIssue request parent binding kind code value) in
    let none : found_in net request.0 ≡ None = ap (found_in net) number ∙ free net k in
    record {
      asked = keeps_issued net.modules.order (found_in net) (answered net.things) net.next.request k.asked r number may (found_in next)
          (λ i. found_push net.requests r i none ∙ ap (λ n. cond (i == n) (Some r) (found_in net i)) number);
      apart = apart_push net.requests r none k.apart;
      halted = λ e. absurd (runs e);
    }

-- a request that waits is given to a module
pub kept_give : (net : Net) (request : OidNo) (m : ModuleId) (r : Request) → IsKept net → found_in net request.0 ≡ Some r → (r.at ≡ at.Entry) ⊎ (r.at ≡ at.Waiting m) → IsKept (after net (row.OidGive request m))
kept_give net request m r k f w = record {
  asked = keeps_given net.modules.order (found_in net) (answered net.things) net.next.request k.asked request.0 r m f w (found_in (after net (row.OidGive request m))) (found_given request.0 m net.requests);
  apart = apart_given request.0 m net.requests k.apart;
  halted = λ e. absurd (none_some r (sym (ap (request_of request.0) (k.halted e)) ∙ f));
}

-- a request of which no clone is left is done
pub kept_done : (net : Net) (request : OidNo) (status : OidStatus) (value : List ℕ) (r : Request) → IsKept net → found_in net request.0 ≡ Some r → HasNoClone (found_in net) request.0 → IsKept (after net (row.OidDone request status value))
kept_done net request status value r k f childless =
    let next : Net = after net (row.OidDone request status value) in
    let things : answered next.things ≡ answered (things_after_done (Some r) request status value net.things) = ap (λ o. answered (things_after_done o request status value net.things)) f in
    record {
      asked = subst (λ xs. AreKept net.modules.order (found_in next) xs net.next.request) (sym (things ∙ answered-done r request status value net.things))
          (keeps_done net.modules.order (found_in net) (answered net.things) net.next.request k.asked request.0 r f childless (found_in next) (found_but request.0 net.requests) (answer_of r.parent request status value) (from r.parent));
      apart = apart_but request.0 net.requests k.apart;
      halted = λ e. absurd (none_some r (sym (ap (request_of request.0) (k.halted e)) ∙ f));
    }
  where
    from : (o : Option OidNo) → AreFrom o (answer_of o request status value)
    from None = refl
    from (Some g) = (refl, tt)

-- another order, while all requests are at the entry
pub kept_config : (net : Net) (config : ConfigNo) (filters : List ℕ) → IsKept net → AllAtEntry (found_in net) → IsKept (after net (row.Config config filters))
kept_config net config filters k entry = record {
  asked = keeps_reordered net.modules.order filters (found_in net) (answered net.things) net.next.request k.asked entry;
  apart = k.apart;
  halted = k.halted;
}

-- a stack without requests is halted
pub kept_halt : (net : Net) → IsKept net → net.requests ≡ [] → IsKept (after net (row.Phase (of.Stack phase.Halted)))
kept_halt net k none = record { asked = k.asked; apart = k.apart; halted = λ e. none }

pub kept_start : (head : StackHead) → IsKept (start head)
kept_start head = record {
  asked = record {
    named = λ n r e. absurd (none_some r e);
    below = λ n r e. absurd (none_some r e);
    asked = λ n r g e p. absurd (none_some r e);
    single = λ n m r q g h e d u v s. absurd (none_some r e);
    held = tt;
    alone = tt;
  };
  apart = tt;
  halted = λ e. refl;
}
