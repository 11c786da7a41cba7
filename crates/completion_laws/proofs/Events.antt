-- Each turn keeps what is kept of the ends of requests.
use Rattle.std.proofs.Common.{◌≡◌, ℕ, ◌<◌, ◌==◌, Bool, true, false, cond, List, [], ◌∷◌, ◌++◌, Option, Some, None, option_map, inl, inr, count_by, refl, arith, ap, sym, subst, append_assoc, ◌∙◌}
use Rattle.std.proofs.lemmas.Bool.Decides.{nat_tests}
use Rattle.ndis_base.specs.declared.ModuleId.{ModuleId}
use Rattle.ndis_base.specs.declared.ModuleId.TheVariants.{Miniport, Filter, Binding}
use Rattle.ndis_base.specs.declared.OidNo.{OidNo}
use Rattle.ndis_base.specs.declared.OidKind.{OidKind}
use Rattle.ndis_base.specs.declared.OidStatus.{OidStatus}
use Rattle.journal_types.specs.declared.Row.{Row}
use Rattle.journal_types.specs.declared.Row.TheVariants as row
use Rattle.journal_types.specs.declared.StackHead.{StackHead}
use Rattle.journal_types.specs.declared.Turn.{Turn}
use Rattle.stack_rules.specs.declared.Answered.{Answered}
use Rattle.stack_rules.specs.declared.Request.{Request}
use Rattle.stack_rules.specs.declared.RequestAt.{RequestAt}
use Rattle.stack_rules.specs.declared.RequestAt.TheVariants as at
use Rattle.stack_rules.specs.declared.Thing.TheVariants as thing
use Rattle.stack_rules.specs.Net.{Net, Modules, start, told, after, after_rows, after_turn, after_turns, seen, request_of, given_to, place_of_request, place_of_clone, place_below, things_after_done}
use Rattle.stack_rules.specs.Outcome.{oid_no}
use Rattle.stack_rules.specs.Places.{agenda_first, is_away}
use Rattle.stack_rules.specs.Sound.{outcome, Next, SoundFrom, Sound}
use Rattle.home_laws.specs.Rows.{rows_of}
use Rattle.state_laws.specs.Shape.{IsShaped}
use Rattle.state_laws.proofs.Events.{turn_is, shaped_start, shaped_turns}
use Rattle.request_laws.proofs.Asked.{HasHolder, none_some, answers_but}
use Rattle.request_laws.proofs.Answers.{answered, answered-done, answer_of, answer_found}
use Rattle.request_laws.proofs.Finds.{found_push, found_given, found_but, number_found}
use Rattle.request_laws.proofs.Rows.{found_in, IsKept, kept_start}
use Rattle.request_laws.proofs.Events.{event_asks}
use Rattle.promise_rules.specs.Completions.{gives}
use Rattle.completion_laws.proofs.Tells.{AreMute, deaf_gives, deaf_low, deaf_on, deaf_done, deaf_clone, none_mute}
use Rattle.completion_laws.proofs.Ends.{IsGivenAs, IsTold, Ends, AreOff, ends_off}
use Rattle.completion_laws.proofs.Steps.{itself, ends_asked, ends_answered, ends_low, ends_on}
use Rattle.completion_laws.proofs.Mutes.{AsksAlike, mute_after}
use Rattle.completion_laws.proofs.Sorts.{IsWaiting, Sorts, mute, asked, done, low, on, sorted}

-- what is kept at a state, after these rows
abbrev pub IsEnded : List Row → Net → Type 0
IsEnded past net = Ends past (found_in net) (answered net.things) net.next.request

ended_alike : (past : List Row) (net next : Net) → AsksAlike net next → IsEnded past net → IsEnded past next
ended_alike past net next s e =
    subst (λ (rs : List Request). Ends past (λ n. request_of n rs) (answered next.things) next.next.request) (sym s.requests)
    (subst (λ xs. Ends past (found_in net) xs next.next.request) (sym s.answers)
    (subst (λ n. Ends past (found_in net) (answered net.things) n) (sym s.number) e))

off_mute : (rows : List Row) → AreMute rows → (n : ℕ) → AreOff rows n
off_mute rows h n = record {
  gives = none_mute (gives n) (deaf_gives n) rows h;
  low = none_mute _ (deaf_low n) rows h;
  on = none_mute _ (deaf_on n) rows h;
  done = none_mute _ (deaf_done n) rows h;
  clone = none_mute _ (deaf_clone n) rows h;
}

-- the next number is free
free : (past : List Row) (net : Net) → IsEnded past net → found_in net net.next.request ≡ None
free past net e = by (found_in net net.next.request) refl
  where
    by : (o : Option Request) → found_in net net.next.request ≡ o → o ≡ None
    by None f = refl
    by (Some r) f = let low : net.next.request < net.next.request = e.below net.next.request r f in absurd (omega (arith, low))

turned : (a b : ℕ) (c : Bool) → (a == b) ≡ c → (b == a) ≡ c
turned a b c h = swap a b ∙ h
  where
    swap : (a b : ℕ) → (b == a) ≡ (a == b)
    swap a b = grind (arith, nat_tests)

-- a request that waits was never given
ungiven : (past : List Row) (net : Net) (r : Request) (m : ModuleId) → IsEnded past net → found_in net r.request.0 ≡ Some r → IsWaiting r m → count_by (gives r.request.0) past ≡ 0
ungiven past net r m e f w = by w (e.there r.request.0 r f).given
  where
    by : IsWaiting r m → IsGivenAs r.at (count_by (gives r.request.0) past) → count_by (gives r.request.0) past ≡ 0
    by (inl a) g = subst (λ (p : RequestAt). IsGivenAs p (count_by (gives r.request.0) past)) a g
    by (inr a) g = subst (λ (p : RequestAt). IsGivenAs p (count_by (gives r.request.0) past)) a g

-- but the one that is done
but_one : (p i : ℕ) (q : Request) (o : Option Request) → cond (i == p) None o ≡ Some q → ((p == i) ≡ false) × (o ≡ Some q)
but_one p i q o e = cases (i == p) refl e
  where
    cases : (b : Bool) → (i == p) ≡ b → cond b None o ≡ Some q → ((p == i) ≡ false) × (o ≡ Some q)
    cases true t f = absurd (none_some q f)
    cases false t f = (turned i p false t, f)

-- another request is as it was
given_apart : (p i : ℕ) (m : ModuleId) (rs : List Request) (q : Request) → (p == i) ≡ false → option_map (given_to p m) (request_of i rs) ≡ Some q → request_of i rs ≡ Some q
given_apart p i m rs q t e = by (request_of i rs) refl e
  where
    by : (o : Option Request) → request_of i rs ≡ o → option_map (given_to p m) o ≡ Some q → o ≡ Some q
    by None f e = absurd (none_some q e)
    by (Some old) f e =
        let name : old.request.0 ≡ i = number_found i rs old f in
        let apart : (old.request.0 == p) ≡ false = ap (λ n. n == p) name ∙ turned p i false t in
        let same : given_to p m old ≡ old = ap (λ b. cond b (record old { at = at.Given m }) old) apart in
        ap (λ (x : Request). Some x) (sym same) ∙ e

-- a clone is given to nobody yet
place_waits : (ms : Modules) (place : RequestAt) → IsGivenAs (place_below ms place) 0
place_waits ms at.Entry = refl
place_waits ms (at.Waiting m) = refl
place_waits ms (at.Given Miniport) = refl
place_waits ms (at.Given (Filter f)) = refl
place_waits ms (at.Given (Binding b)) = refl

clone_waits : (ms : Modules) (o : Option Request) → IsGivenAs (place_of_clone ms o) 0
clone_waits ms None = refl
clone_waits ms (Some r) = place_waits ms r.at

ended_asked : (past : List Row) (net : Net) (binding : ℕ) (kind : OidKind) (code : ℕ) (value : List ℕ) → IsEnded past net →
    IsEnded (past ++ row.OidIssue (oid_no net.next.request) None binding kind code value ∷ []) (after net (row.OidIssue (oid_no net.next.request) None binding kind code value))
ended_asked past net binding kind code value e =
    let made : Request = record { request = oid_no net.next.request; parent = None; binding = binding; kind = kind; code = code; value = value; at = at.Entry } in
    let rows : List Row = row.OidIssue (oid_no net.next.request) None binding kind code value ∷ [] in
    ends_asked (past ++ rows) (found_in net) (λ i. request_of i (net.requests ++ made ∷ [])) (answered net.things) net.next.request made
    (ends_off past rows (found_in net) (answered net.things) net.next.request (λ n. record { gives = (refl, tt); low = (refl, tt); on = (refl, tt); done = (refl, tt); clone = (refl, tt) }) e)
    refl refl (λ i. found_push net.requests made i (free past net e))

-- the things of a request that is done
done_things : (net : Net) (r : Request) (p : OidNo) (status : OidStatus) (value : List ℕ) → found_in net p.0 ≡ Some r → answered (after net (row.OidDone p status value)).things ≡ answers_but p.0 (answered net.things) ++ answer_of r.parent p status value
done_things net r p status value f = ap (λ o. answered (things_after_done o p status value net.things)) f ∙ answered-done r p status value net.things

ended_done : (past : List Row) (net : Net) (a : Answered) → IsKept net → agenda_first net ≡ Some (thing.Answer a) → IsEnded past net →
    IsEnded (past ++ row.OidDone a.parent a.status a.value ∷ []) (after net (row.OidDone a.parent a.status a.value))
ended_done past net a k first e =
    let h : HasHolder net.modules.order (found_in net) a.parent.0 = answer_found (λ a. HasHolder net.modules.order (found_in net) a.parent.0) is_away net.things a k.asked.held first in
    let told : IsTold past a = answer_found (IsTold past) is_away net.things a e.told first in
    let next : Net = after net (row.OidDone a.parent a.status a.value) in
    subst (λ xs. Ends (past ++ row.OidDone a.parent a.status a.value ∷ []) (found_in next) xs net.next.request) (sym (done_things net h.1.request a.parent a.status a.value h.1.here))
    (ends_answered past (found_in net) (found_in next) (answered net.things) net.next.request a h.1.request (Filter h.0) e told h.1.here h.1.at
    (λ i q f. but_one a.parent.0 i q (found_in net i) (sym (found_but a.parent.0 net.requests i) ∙ f)))

ended_low : (past : List Row) (net : Net) (r : Request) (status : OidStatus) (value : List ℕ) → found_in net r.request.0 ≡ Some r → IsWaiting r Miniport → IsEnded past net →
    IsEnded (past ++ row.OidGive r.request Miniport ∷ row.OidDone r.request status value ∷ []) (after_rows net (row.OidGive r.request Miniport ∷ row.OidDone r.request status value ∷ []))
ended_low past net r status value f w e =
    let p : ℕ = r.request.0 in
    let given : Net = after net (row.OidGive r.request Miniport) in
    let next : Net = after given (row.OidDone r.request status value) in
    let now : Request = record r { at = at.Given Miniport } in
    let here : found_in given p ≡ Some now = found_given p Miniport net.requests p ∙ ap (option_map (given_to p Miniport)) f ∙ ap (λ b. Some (cond b now r)) (itself p) in
    subst (λ xs. Ends (past ++ row.OidGive r.request Miniport ∷ row.OidDone r.request status value ∷ []) (found_in next) xs net.next.request) (sym (done_things given now r.request status value here))
    (ends_low past (found_in net) (found_in next) (answered net.things) net.next.request r.request status value r e f (ungiven past net r Miniport e f w)
    (λ i q g.
    let but : ((p == i) ≡ false) × (found_in given i ≡ Some q) = but_one p i q (found_in given i) (sym (found_but p given.requests i) ∙ g) in
    (but.0, given_apart p i Miniport net.requests q but.0 (sym (found_given p Miniport net.requests i) ∙ but.1))))

ended_on : (past : List Row) (net : Net) (r : Request) (filter : ℕ) → found_in net r.request.0 ≡ Some r → IsWaiting r (Filter filter) → IsEnded past net →
    IsEnded (past ++ row.OidGive r.request (Filter filter) ∷ row.OidIssue (oid_no net.next.request) (Some r.request) r.binding r.kind r.code r.value ∷ [])
    (after_rows net (row.OidGive r.request (Filter filter) ∷ row.OidIssue (oid_no net.next.request) (Some r.request) r.binding r.kind r.code r.value ∷ []))
ended_on past net r filter f w e =
    let p : ℕ = r.request.0 in
    let given : Net = after net (row.OidGive r.request (Filter filter)) in
    let next : Net = after given (row.OidIssue (oid_no net.next.request) (Some r.request) r.binding r.kind r.code r.value) in
    let made : Request = record { request = oid_no net.next.request; parent = Some r.request; binding = r.binding; kind = r.kind; code = r.code; value = r.value; at = place_of_request given.modules given.requests (Some r.request) } in
    let none : request_of made.request.0 given.requests ≡ None = found_given p (Filter filter) net.requests net.next.request ∙ ap (option_map (given_to p (Filter filter))) (free past net e) in
    ends_on past (found_in net) (found_in next) (answered net.things) net.next.request r.request (oid_no net.next.request) filter r.binding r.kind r.code r.value r made e f (ungiven past net r (Filter filter) e f w) refl refl
    (clone_waits given.modules (request_of p given.requests)) (λ i q g. number_found i net.requests q g)
    (λ i. found_push given.requests made i none ∙ ap (λ o. cond (i == net.next.request) (Some made) o) (found_given p (Filter filter) net.requests i))

-- a turn
ended_now : (past : List Row) (net now : Net) (rows : List Row) → IsKept net → now ≡ net → IsEnded (past ++ rows) (after_rows net rows) → IsEnded (past ++ rows) (after_rows now rows)
ended_now past net now rows k s e = subst (λ (n : Net). IsEnded (past ++ rows) (after_rows n rows)) (sym s) e

ended_sort : (past : List Row) (net now : Net) (rows : List Row) → IsKept net → IsEnded past net → ((rows : List Row) → AreMute rows → AsksAlike net (after_rows now rows)) → Sorts net now rows → IsEnded (past ++ rows) (after_rows now rows)
ended_sort past net now _ k e alike (mute rows h) =
    ended_alike (past ++ rows) net (after_rows now rows) (alike rows h) (ends_off past rows (found_in net) (answered net.things) net.next.request (off_mute rows h) e)
ended_sort past net now _ k e alike (asked binding kind code value s) = ended_now past net now _ k s (ended_asked past net binding kind code value e)
ended_sort past net now _ k e alike (done a first s) = ended_now past net now _ k s (ended_done past net a k first e)
ended_sort past net now _ k e alike (low r status value f w s) = ended_now past net now _ k s (ended_low past net r status value f w e)
ended_sort past net now _ k e alike (on r filter f w s) = ended_now past net now _ k s (ended_on past net r filter f w e)

-- the rows of a turn that may come next
pub sorted_turn : (net : Net) (turn : Turn) → IsKept net → Next net turn → Sorts net (told net turn.event turn.reply) turn.rows
sorted_turn net turn k n =
    subst (λ rows. Sorts net (told net turn.event turn.reply) rows) (sym n.rows)
    (subst (λ r. Sorts net (told net turn.event r) (outcome net turn.event n.choice).rows) (sym n.reply) (sorted net k turn.event n.choice))

ended_turn : (past : List Row) (net : Net) (turn : Turn) → IsKept net → Next net turn → IsEnded past net → IsEnded (past ++ turn.rows) (after_turn net turn)
ended_turn past net turn k n e =
    ended_sort past net (told net turn.event turn.reply) turn.rows k e (λ rows h. mute_after net turn.event turn.reply rows h) (sorted_turn net turn k n)

-- what is kept from turn to turn
pub kept_turn : (net : Net) (turn : Turn) → IsShaped net → IsKept net → Next net turn → IsKept (after_turn net turn)
kept_turn net turn s k n = subst IsKept (sym (turn_is net turn n)) (event_asks net s turn.event n.choice k)

pub shaped_turn : (net : Net) (turn : Turn) → IsShaped net → Next net turn → IsShaped (after_turn net turn)
shaped_turn net turn s n = shaped_turns net (turn ∷ []) s (n, tt)

ended_turns : (past : List Row) (net : Net) (turns : List Turn) → IsShaped net → IsKept net → SoundFrom net turns → IsEnded past net → IsEnded (past ++ rows_of turns) (after_turns net turns)
ended_turns past net [] s k h e = subst (λ rows. IsEnded rows net) (sym (nil_end past)) e
  where
    nil_end : (xs : List Row) → xs ++ [] ≡ xs
    nil_end [] = refl
    nil_end (x ∷ xs) = ap (λ rest. x ∷ rest) (nil_end xs)
ended_turns past net (turn ∷ turns) s k h e =
    subst (λ rows. IsEnded rows (after_turns (after_turn net turn) turns)) (append_assoc past turn.rows (rows_of turns))
    (ended_turns (past ++ turn.rows) (after_turn net turn) turns (shaped_turn net turn s h.0) (kept_turn net turn s k h.0) h.1 (ended_turn past net turn k h.0 e))

ended_start : (head : StackHead) → IsEnded [] (start head)
ended_start head = record {
  tally = λ n. record { once = omega arith; done = omega arith; clones = refl; either = refl };
  there = λ n r f. absurd (none_some r f);
  below = λ n r f. absurd (none_some r f);
  new = λ n h. refl;
  clone = λ n r g f p. absurd (none_some r f);
  told = tt;
  same = λ n. refl;
}

pub ended_journal : (head : StackHead) (turns : List Turn) → Sound head turns → IsEnded (rows_of turns) (seen head turns)
ended_journal head turns h = ended_turns [] (start head) turns (shaped_start head) (kept_start head) h (ended_start head)
