-- Each request that isn't done was issued and given by rows.
use Rattle.std.proofs.Common.{◌≡◌, ℕ, ◌≤◌, ◌==◌, Bool, true, false, cond, List, [], ◌∷◌, ◌++◌, Option, Some, None, option_map, count_by, refl, arith, ap, sym, subst, append_assoc, ◌∙◌}
use Rattle.std.specs.List.{Contains}
use Rattle.std.proofs.lemmas.List.Elements.{Contains-append_left, Contains-push}
use Rattle.ndis_base.specs.declared.ModuleId.{ModuleId}
use Rattle.ndis_base.specs.declared.ModuleId.TheVariants.{Miniport, Filter, Binding}
use Rattle.ndis_base.specs.declared.OidNo.{OidNo}
use Rattle.journal_types.specs.declared.Row.{Row}
use Rattle.journal_types.specs.declared.Row.TheVariants as row
use Rattle.journal_types.specs.declared.StackHead.{StackHead}
use Rattle.journal_types.specs.declared.Turn.{Turn}
use Rattle.stack_rules.specs.declared.Request.{Request}
use Rattle.stack_rules.specs.declared.RequestAt.{RequestAt}
use Rattle.stack_rules.specs.declared.RequestAt.TheVariants as at
use Rattle.stack_rules.specs.Net.{Net, Modules, start, told, after, after_rows, after_turn, after_turns, seen, request_of, given_to, place_of_request, place_of_clone, place_below}
use Rattle.stack_rules.specs.Outcome.{oid_no}
use Rattle.stack_rules.specs.Sound.{SoundFrom, Sound}
use Rattle.home_laws.specs.Rows.{rows_of}
use Rattle.state_laws.specs.Shape.{IsShaped}
use Rattle.state_laws.proofs.Events.{shaped_start}
use Rattle.request_laws.proofs.Asked.{some_same, none_some, is_equal}
use Rattle.request_laws.proofs.Finds.{EachRequest-implies, found_push, found_given, found_but, each_found}
use Rattle.request_laws.proofs.Rows.{found_in, IsKept, kept_start}
use Rattle.rule_basics.specs.Live.{EachRequest}
use Rattle.promise_rules.specs.Completions.{gives}
use Rattle.completion_laws.proofs.Tells.{AreMute}
use Rattle.completion_laws.proofs.Ends.{IsGivenAs}
use Rattle.completion_laws.proofs.Mutes.{AsksAlike, mute_after}
use Rattle.completion_laws.proofs.Sorts.{Sorts, mute, asked, done, low, on}
use Rattle.completion_laws.proofs.Events.{IsEnded, ended_journal, kept_turn, shaped_turn, sorted_turn}
use Rattle.serialization_laws.proofs.Overs.{Over, over_sort, over_start, free}
use Rattle.request_standing_laws.specs.Standing.{issue_row, IsGivenBy, EachRequestStands}

-- a module that has the request was given it
abbrev HasGive : List Row → OidNo → RequestAt → Type 0
HasGive rows request (at.Given m) = Contains rows (row.OidGive request m)
HasGive rows request _ = Unit {0}

-- what rows show of the requests that are there
record AreShown (past : List Row) (found : ℕ → Option Request) : Type 0 where
  some : (n : ℕ) (r : Request) → found n ≡ Some r → 1 ≤ n
  issued : (n : ℕ) (r : Request) → found n ≡ Some r → Contains past (issue_row r)
  given : (n : ℕ) (r : Request) → found n ≡ Some r → HasGive past r.request r.at

give_more : (past rows : List Row) (request : OidNo) (place : RequestAt) → HasGive past request place → HasGive (past ++ rows) request place
give_more past rows request at.Entry h = tt
give_more past rows request (at.Waiting m) h = tt
give_more past rows request (at.Given m) h = Contains-append_left past rows (row.OidGive request m) h

-- no request comes or is given
shown_still : (past rows : List Row) (found then : ℕ → Option Request) → ((n : ℕ) (r : Request) → then n ≡ Some r → found n ≡ Some r) → AreShown past found → AreShown (past ++ rows) then
shown_still past rows found then old h = record {
  some = λ n r f. h.some n r (old n r f);
  issued = λ n r f. Contains-append_left past rows (issue_row r) (h.issued n r (old n r f));
  given = λ n r f. give_more past rows r.request r.at (h.given n r (old n r f));
}

-- a request comes
shown_issued : (past : List Row) (found then : ℕ → Option Request) (next : ℕ) (made : Request) → 1 ≤ next → HasGive (past ++ issue_row made ∷ []) made.request made.at → ((i : ℕ) → then i ≡ cond (i == next) (Some made) (found i)) → AreShown past found → AreShown (past ++ issue_row made ∷ []) then
shown_issued past found then next made positive waits is h = record {
  some = λ n r f. some n r (n == next) refl (sym (is n) ∙ f);
  issued = λ n r f. issued n r (n == next) (sym (is n) ∙ f);
  given = λ n r f. given n r (n == next) (sym (is n) ∙ f);
}
  where
    some : (n : ℕ) (r : Request) (b : Bool) → (n == next) ≡ b → cond b (Some made) (found n) ≡ Some r → 1 ≤ n
    some n r true t f = let same = is_equal n next t in omega (arith, same, positive)
    some n r false t f = h.some n r f

    issued : (n : ℕ) (r : Request) (b : Bool) → cond b (Some made) (found n) ≡ Some r → Contains (past ++ issue_row made ∷ []) (issue_row r)
    issued n r true f = subst (λ (x : Request). Contains (past ++ issue_row made ∷ []) (issue_row x)) (some_same made r f) (Contains-push past (issue_row made))
    issued n r false f = Contains-append_left past (issue_row made ∷ []) (issue_row r) (h.issued n r f)

    given : (n : ℕ) (r : Request) (b : Bool) → cond b (Some made) (found n) ≡ Some r → HasGive (past ++ issue_row made ∷ []) r.request r.at
    given n r true f = subst (λ (x : Request). HasGive (past ++ issue_row made ∷ []) x.request x.at) (some_same made r f) waits
    given n r false f = give_more past (issue_row made ∷ []) r.request r.at (h.given n r f)

-- a request is given
shown_given : (past : List Row) (found then : ℕ → Option Request) (p : OidNo) (m : ModuleId) → ((i : ℕ) → then i ≡ option_map (given_to p.0 m) (found i)) → AreShown past found → AreShown (past ++ row.OidGive p m ∷ []) then
shown_given past found then p m is h = record {
  some = λ n q f. let x = old n q (found n) refl (sym (is n) ∙ f) in h.some n x.0 x.1;
  issued = λ n q f.
      let x = old n q (found n) refl (sym (is n) ∙ f) in
      subst (λ (y : Request). Contains (past ++ row.OidGive p m ∷ []) (issue_row y)) x.2 (issued x.0 (x.0.request.0 == p.0) (Contains-append_left past (row.OidGive p m ∷ []) (issue_row x.0) (h.issued n x.0 x.1)));
  given = λ n q f.
      let x = old n q (found n) refl (sym (is n) ∙ f) in
      subst (λ (y : Request). HasGive (past ++ row.OidGive p m ∷ []) y.request y.at) x.2 (given x.0 (x.0.request.0 == p.0) refl (h.given n x.0 x.1));
}
  where
    old : (n : ℕ) (q : Request) (o : Option Request) → found n ≡ o → option_map (given_to p.0 m) o ≡ Some q → (x : Request) × (found n ≡ Some x) × (given_to p.0 m x ≡ q)
    old n q None e f = absurd (none_some q f)
    old n q (Some x) e f = (x, e, some_same (given_to p.0 m x) q f)

    issued : (x : Request) (b : Bool) → Contains (past ++ row.OidGive p m ∷ []) (issue_row x) → Contains (past ++ row.OidGive p m ∷ []) (issue_row (cond b (record x { at = at.Given m }) x))
    issued x true k = k
    issued x false k = k

    given : (x : Request) (b : Bool) → (x.request.0 == p.0) ≡ b → HasGive past x.request x.at → HasGive (past ++ row.OidGive p m ∷ []) (cond b (record x { at = at.Given m }) x).request (cond b (record x { at = at.Given m }) x).at
    given x true t k = subst (λ n. Contains (past ++ row.OidGive p m ∷ []) (row.OidGive (oid_no n) m)) (sym (is_equal x.request.0 p.0 t)) (Contains-push past (row.OidGive p m))
    given x false t k = give_more past (row.OidGive p m ∷ []) x.request x.at k

-- a clone is given to nobody yet
below_waits : (rows : List Row) (request : OidNo) (ms : Modules) (place : RequestAt) → HasGive rows request (place_below ms place)
below_waits rows request ms at.Entry = tt
below_waits rows request ms (at.Waiting m) = tt
below_waits rows request ms (at.Given Miniport) = tt
below_waits rows request ms (at.Given (Filter f)) = tt
below_waits rows request ms (at.Given (Binding b)) = tt

clone_waits : (rows : List Row) (request : OidNo) (ms : Modules) (o : Option Request) → HasGive rows request (place_of_clone ms o)
clone_waits rows request ms None = tt
clone_waits rows request ms (Some r) = below_waits rows request ms r.at

-- but the one that is done
but_one : (p i : ℕ) (q : Request) (o : Option Request) → cond (i == p) None o ≡ Some q → o ≡ Some q
but_one p i q o e = cases (i == p) e
  where
    cases : (b : Bool) → cond b None o ≡ Some q → o ≡ Some q
    cases true f = absurd (none_some q f)
    cases false f = f

abbrev Shown : List Row → Net → Type 0
Shown past net = AreShown past (found_in net)

shown_now : (past : List Row) (net now : Net) (rows : List Row) → now ≡ net → Shown (past ++ rows) (after_rows net rows) → Shown (past ++ rows) (after_rows now rows)
shown_now past net now rows s h = subst (λ (x : Net). Shown (past ++ rows) (after_rows x rows)) (sym s) h

shown_sort : (past : List Row) (net now : Net) (rows : List Row) → IsKept net → ((rows : List Row) → AreMute rows → AsksAlike net (after_rows now rows)) → Sorts net now rows → 1 ≤ net.next.request → Shown past net → Shown (past ++ rows) (after_rows now rows)
shown_sort past net now _ k alike (mute rows q) one h =
    subst (λ (rs : List Request). AreShown (past ++ rows) (λ n. request_of n rs)) (sym (alike rows q).requests) (shown_still past rows (found_in net) (found_in net) (λ n r f. f) h)
shown_sort past net now _ k alike (asked binding kind code value s) one h =
    let made : Request = record { request = oid_no net.next.request; parent = None; binding = binding; kind = kind; code = code; value = value; at = at.Entry } in
    shown_now past net now (issue_row made ∷ []) s
    (shown_issued past (found_in net) (found_in (after net (issue_row made))) net.next.request made one tt (λ i. found_push net.requests made i (free net k)) h)
shown_sort past net now _ k alike (done a first s) one h =
    let finish : Row = row.OidDone a.parent a.status a.value in
    shown_now past net now (finish ∷ []) s
    (shown_still past (finish ∷ []) (found_in net) (found_in (after net finish)) (λ n r f. but_one a.parent.0 n r (found_in net n) (sym (found_but a.parent.0 net.requests n) ∙ f)) h)
shown_sort past net now _ k alike (low r status value f w s) one h =
    let p : ℕ = r.request.0 in
    let give : Row = row.OidGive r.request Miniport in
    let finish : Row = row.OidDone r.request status value in
    let given : Net = after net give in
    let first : Shown (past ++ give ∷ []) given = shown_given past (found_in net) (found_in given) r.request Miniport (λ i. found_given p Miniport net.requests i) h in
    shown_now past net now (give ∷ finish ∷ []) s
    (subst (λ rows. AreShown rows (found_in (after given finish))) (append_assoc past (give ∷ []) (finish ∷ []))
    (shown_still (past ++ give ∷ []) (finish ∷ []) (found_in given) (found_in (after given finish)) (λ n q g. but_one p n q (found_in given n) (sym (found_but p given.requests n) ∙ g)) first))
shown_sort past net now _ k alike (on r filter f w s) one h =
    let p : ℕ = r.request.0 in
    let give : Row = row.OidGive r.request (Filter filter) in
    let given : Net = after net give in
    let made : Request = record { request = oid_no net.next.request; parent = Some r.request; binding = r.binding; kind = r.kind; code = r.code; value = r.value; at = place_of_request given.modules given.requests (Some r.request) } in
    let none : request_of made.request.0 given.requests ≡ None = found_given p (Filter filter) net.requests net.next.request ∙ ap (option_map (given_to p (Filter filter))) (free net k) in
    let first : Shown (past ++ give ∷ []) given = shown_given past (found_in net) (found_in given) r.request (Filter filter) (λ i. found_given p (Filter filter) net.requests i) h in
    shown_now past net now (give ∷ issue_row made ∷ []) s
    (subst (λ rows. AreShown rows (found_in (after given (issue_row made)))) (append_assoc past (give ∷ []) (issue_row made ∷ []))
    (shown_issued (past ++ give ∷ []) (found_in given) (found_in (after given (issue_row made))) net.next.request made one (clone_waits ((past ++ give ∷ []) ++ issue_row made ∷ []) made.request given.modules (request_of p given.requests)) (λ i. found_push given.requests made i none) first))

-- what is kept from turn to turn
record IsStanding (past : List Row) (net : Net) : Type 0 where
  kept : IsKept net
  over : Over past net
  shown : Shown past net

standing_turn : (past : List Row) (net : Net) (turn : Turn) → IsShaped net → SoundFrom net (turn ∷ []) → IsStanding past net → IsStanding (past ++ turn.rows) (after_turn net turn)
standing_turn past net turn s h i = record {
  kept = kept_turn net turn s i.kept h.0;
  over = over_sort past net (told net turn.event turn.reply) turn.rows i.kept alike (sorted_turn net turn i.kept h.0) i.over;
  shown = shown_sort past net (told net turn.event turn.reply) turn.rows i.kept alike (sorted_turn net turn i.kept h.0) i.over.some i.shown;
}
  where
    alike : (rows : List Row) → AreMute rows → AsksAlike net (after_rows (told net turn.event turn.reply) rows)
    alike rows q = mute_after net turn.event turn.reply rows q

standing_turns : (past : List Row) (net : Net) (turns : List Turn) → IsShaped net → SoundFrom net turns → IsStanding past net → IsStanding (past ++ rows_of turns) (after_turns net turns)
standing_turns past net [] s h i = subst (λ rows. IsStanding rows net) (sym (nil_end past)) i
  where
    nil_end : (xs : List Row) → xs ++ [] ≡ xs
    nil_end [] = refl
    nil_end (x ∷ xs) = ap (λ rest. x ∷ rest) (nil_end xs)
standing_turns past net (turn ∷ turns) s h i =
    subst (λ rows. IsStanding rows (after_turns (after_turn net turn) turns)) (append_assoc past turn.rows (rows_of turns))
    (standing_turns (past ++ turn.rows) (after_turn net turn) turns (shaped_turn net turn s h.0) h.1 (standing_turn past net turn s (h.0, tt) i))

standing_journal : (head : StackHead) (turns : List Turn) → Sound head turns → IsStanding (rows_of turns) (seen head turns)
standing_journal head turns h =
    standing_turns [] (start head) turns (shaped_start head) h record {
      kept = kept_start head;
      over = over_start head;
      shown = record { some = λ n r f. absurd (none_some r f); issued = λ n r f. absurd (none_some r f); given = λ n r f. absurd (none_some r f) };
    }

-- a request that no module has was never given
given_by : (rows : List Row) (request : OidNo) (place : RequestAt) → HasGive rows request place → IsGivenAs place (count_by (gives request.0) rows) → IsGivenBy rows request place
given_by rows request at.Entry h k = k
given_by rows request (at.Waiting m) h k = k
given_by rows request (at.Given m) h k = h

pub each_request_stands : EachRequestStands
each_request_stands head turns h =
    let rows : List Row = rows_of turns in
    let net : Net = seen head turns in
    let i : IsStanding rows net = standing_journal head turns h in
    let e : IsEnded rows net = ended_journal head turns h in
    let found : EachRequest (λ r. request_of r.request.0 net.requests ≡ Some r) net.requests = each_found net.requests i.kept.apart in
    record {
      numbered = EachRequest-implies _ _ (λ r f. (i.shown.some r.request.0 r f, e.below r.request.0 r f)) net.requests found;
      issued = EachRequest-implies _ _ (λ r f. i.shown.issued r.request.0 r f) net.requests found;
      given = EachRequest-implies _ _ (λ r f. given_by rows r.request r.at (i.shown.given r.request.0 r f) (e.there r.request.0 r f).given) net.requests found;
      undone = EachRequest-implies _ _ (λ r f. (e.there r.request.0 r f).done) net.requests found;
      all = i.over.over;
    }
