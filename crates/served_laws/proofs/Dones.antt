-- Whom a row calls by which a request is done: its first Issue row and its first Give row show what the state
-- before that row tells.
use Rattle.std.proofs.Common.{◌≡◌, ℕ, ◌==◌, true, cond, List, [], ◌∷◌, ◌++◌, Option, Some, None, option_map, inl, inr, find, count_by, refl, arith, ap, ap₂, sym, subst, ◌∙◌}
use Rattle.std.specs.List.{Contains}
use Rattle.std.proofs.lemmas.Bool.Decides.{nat_tests}
use Rattle.ndis_base.specs.declared.ModuleId.{ModuleId}
use Rattle.ndis_base.specs.declared.ModuleId.TheVariants.{Miniport, Filter, Binding}
use Rattle.ndis_base.specs.declared.OidNo.{OidNo}
use Rattle.journal_types.specs.declared.Row.{Row}
use Rattle.journal_types.specs.declared.Row.TheVariants as row
use Rattle.stack_rules.specs.declared.Request.{Request}
use Rattle.stack_rules.specs.declared.RequestAt.{RequestAt}
use Rattle.stack_rules.specs.declared.RequestAt.TheVariants as at
use Rattle.stack_rules.specs.Net.{Net, after, request_of, given_to}
use Rattle.stack_rules.specs.Places.{is_away}
use Rattle.promise_rules.specs.declared.Call.{Call}
use Rattle.promise_rules.specs.Completions.{gives}
use Rattle.promise_rules.specs.Calls.{asks, holder_call, asker_call}
use Rattle.request_laws.proofs.Asked.{HasHolder}
use Rattle.request_laws.proofs.Answers.{answer_found}
use Rattle.request_laws.proofs.Finds.{found_given, number_found, EachRequest-find}
use Rattle.request_laws.proofs.Rows.{found_in, IsKept}
use Rattle.completion_laws.proofs.Tells.{AreMute, zero_find, find_new}
use Rattle.completion_laws.proofs.Ends.{IsGivenAs}
use Rattle.completion_laws.proofs.Steps.{itself}
use Rattle.completion_laws.proofs.Sorts.{IsWaiting, Sorts, mute, asked, done, low, on}
use Rattle.completion_laws.proofs.Events.{IsEnded}
use Rattle.request_standing_laws.specs.Standing.{issue_row, IsGivenBy, RequestsStandByRows}
use Rattle.book_lemmas.specs.Did.{holder_now, asker_now, completes}
use Rattle.served_laws.proofs.Finds.{found_once, found_still}
use Rattle.served_laws.proofs.Asked.{AskedOnce}

-- what is known before a turn: of the rows before it and of the state that they led to
pub record IsBefore (past : List Row) (net : Net) : Type 0 where
  pub kept : IsKept net
  pub stands : RequestsStandByRows past net
  pub ended : IsEnded past net
  pub once : AskedOnce past net

passes : (a b : ℕ) → a ≡ b → (a == b) ≡ true
passes a b e = grind (arith, nat_tests)

-- the row that issued a request is the first of its number
asked_first : (past later : List Row) (net : Net) (n : ℕ) (r : Request) → IsBefore past net → found_in net n ≡ Some r → find (asks n) (past ++ later) ≡ Some (issue_row r)
asked_first past later net n r h f =
    let name : r.request.0 ≡ n = number_found n net.requests r f in
    let here : Contains past (issue_row r) = EachRequest-find (λ r. Contains past (issue_row r)) (λ r. r.request.0 == n) net.requests r h.stands.issued f in
    found_still (asks n) past later (issue_row r) (found_once (asks n) past (issue_row r) (h.once.once n) (passes r.request.0 n name) here)

-- so is the row that gave it
given_first : (past later : List Row) (net : Net) (n : ℕ) (r : Request) (m : ModuleId) → IsBefore past net → found_in net n ≡ Some r → r.at ≡ at.Given m → find (gives n) (past ++ later) ≡ Some (row.OidGive r.request m)
given_first past later net n r m h f e =
    let give : Row = row.OidGive r.request m in
    let name : r.request.0 ≡ n = number_found n net.requests r f in
    let by : IsGivenBy past r.request r.at = EachRequest-find (λ r. IsGivenBy past r.request r.at) (λ r. r.request.0 == n) net.requests r h.stands.given f in
    let here : Contains past give = subst (λ (p : RequestAt). IsGivenBy past r.request p) e by in
    found_still (gives n) past later give (found_once (gives n) past give (h.ended.tally n).once (passes r.request.0 n name) here)

-- a request that waits was never given
ungiven : (past : List Row) (net : Net) (r : Request) (m : ModuleId) → IsBefore past net → found_in net r.request.0 ≡ Some r → IsWaiting r m → count_by (gives r.request.0) past ≡ 0
ungiven past net r m h f w = by w (h.ended.there r.request.0 r f).given
  where
    by : IsWaiting r m → IsGivenAs r.at (count_by (gives r.request.0) past) → count_by (gives r.request.0) past ≡ 0
    by (inl a) g = subst (λ (p : RequestAt). IsGivenAs p (count_by (gives r.request.0) past)) a g
    by (inr a) g = subst (λ (p : RequestAt). IsGivenAs p (count_by (gives r.request.0) past)) a g

-- the calls that are promised where a request is done
abbrev pub promised_done : List Row → ℕ → List Call
promised_done rows n = holder_call (find (gives n) rows) ++ asker_call (find (asks n) rows)

held_call : (request : OidNo) (m : ModuleId) → holder_now (at.Given m) ≡ holder_call (Some (row.OidGive request m))
held_call request Miniport = refl
held_call request (Filter f) = refl
held_call request (Binding b) = refl

asked_call : (r : Request) → asker_now r.parent r.binding ≡ asker_call (Some (issue_row r))
asked_call r = by r.parent
  where
    by : (parent : Option OidNo) → asker_now parent r.binding ≡ asker_call (Some (row.OidIssue r.request parent r.binding r.kind r.code r.value))
    by None = refl
    by (Some parent) = refl

completed : (rows : List Row) (n : ℕ) (request : OidNo) (r : Request) (m : ModuleId) → r.at ≡ at.Given m → find (gives n) rows ≡ Some (row.OidGive request m) → find (asks n) rows ≡ Some (issue_row r) → completes (Some r) ≡ promised_done rows n
completed rows n request r m place given issued =
    ap₂ (λ a b. a ++ b) (ap holder_now place ∙ held_call request m ∙ ap holder_call (sym given)) (asked_call r ∙ ap asker_call (sym issued))

-- the calls of the rows by which requests are done, by the states before them, are those that are promised
abbrev pub IsDoneTold : List Row → Net → Row → Type 0
IsDoneTold whole net (row.OidDone request status value) = completes (request_of request.0 net.requests) ≡ promised_done whole request.0
IsDoneTold whole net _ = Unit {0}

abbrev pub AreDonesTold : List Row → Net → List Row → Type 0
AreDonesTold whole net [] = Unit {0}
AreDonesTold whole net (r ∷ rows) = IsDoneTold whole net r × AreDonesTold whole (after net r) rows

mute_told : (whole : List Row) (net : Net) (rows : List Row) → AreMute rows → AreDonesTold whole net rows
mute_told whole net [] q = tt
mute_told whole net (row.OidDone request status value ∷ rows) q = cc
mute_told whole net (r ∷ rows) q = (tt, mute_told whole (after net r) rows q.1)

pub dones_told : (whole past later : List Row) (net now : Net) (rows : List Row) → whole ≡ past ++ (rows ++ later) → IsBefore past net → Sorts net now rows → AreDonesTold whole now rows
dones_told whole past later net now _ is h (mute rows q) = mute_told whole now rows q
dones_told whole past later net now _ is h (asked binding kind code value s) = (tt, tt)
dones_told whole past later net now _ is h (done a first s) =
    let finish : Row = row.OidDone a.parent a.status a.value in
    let holds : HasHolder net.modules.order (found_in net) a.parent.0 = answer_found (λ a. HasHolder net.modules.order (found_in net) a.parent.0) is_away net.things a h.kept.asked.held first in
    let r : Request = holds.1.request in
    let given : find (gives a.parent.0) whole ≡ Some (row.OidGive r.request (Filter holds.0)) =
    ap (find (gives a.parent.0)) is ∙ given_first past (finish ∷ later) net a.parent.0 r (Filter holds.0) h holds.1.here holds.1.at in
    let issued : find (asks a.parent.0) whole ≡ Some (issue_row r) = ap (find (asks a.parent.0)) is ∙ asked_first past (finish ∷ later) net a.parent.0 r h holds.1.here in
    let claim : completes (request_of a.parent.0 net.requests) ≡ promised_done whole a.parent.0 =
    ap completes holds.1.here ∙ completed whole a.parent.0 r.request r (Filter holds.0) holds.1.at given issued in
    subst (λ (n : Net). AreDonesTold whole n (finish ∷ [])) (sym s) (claim, tt)
dones_told whole past later net now _ is h (low r status value f w s) =
    let p : ℕ = r.request.0 in
    let give : Row = row.OidGive r.request Miniport in
    let finish : Row = row.OidDone r.request status value in
    let held : Request = record r { at = at.Given Miniport } in
    let here : found_in (after net give) p ≡ Some held = found_given p Miniport net.requests p ∙ ap (option_map (given_to p Miniport)) f ∙ ap (λ b. Some (cond b held r)) (itself p) in
    let none : find (gives p) past ≡ None = zero_find (gives p) past (ungiven past net r Miniport h f w) in
    let given : find (gives p) whole ≡ Some give =
    ap (find (gives p)) is ∙ find_new (gives p) past (give ∷ finish ∷ later) none ∙ ap (λ b. cond b (Some give) (find (gives p) (finish ∷ later))) (itself p) in
    let issued : find (asks p) whole ≡ Some (issue_row r) = ap (find (asks p)) is ∙ asked_first past (give ∷ finish ∷ later) net p r h f in
    let claim : completes (request_of p (after net give).requests) ≡ promised_done whole p = ap completes here ∙ completed whole p r.request held Miniport refl given issued in
    subst (λ (n : Net). AreDonesTold whole n (give ∷ finish ∷ [])) (sym s) (tt, (claim, tt))
dones_told whole past later net now _ is h (on r filter f w s) = (tt, (tt, tt))
