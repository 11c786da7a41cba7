-- Each pause of a run was asked for: by a call of the script, or by the ending.
use Rattle.std.proofs.Common.{ℕ, ◌≡◌, ◌≢◌, ◌==◌, Bool, true, false, List, [], ◌∷◌, ◌++◌, Option, Some, None, if◌then◌else◌, All, refl, ap, sym, subst, ◌∙◌, inl, inr, ◌⊎◌, arith, eq-eqb}
use Rattle.std.specs.List.{Contains}
use Rattle.std.proofs.lemmas.List.Elements.{All-cons, All-nil, All-contains, Contains-append_cases, Contains-append_right}
use Rattle.ndis_base.specs.declared.LaneNo.{LaneNo}
use Rattle.ndis_base.specs.declared.Who.{Who}
use Rattle.ndis_base.specs.declared.Who.TheVariants as who
use Rattle.journal_types.specs.declared.Event.{Event}
use Rattle.journal_types.specs.declared.Event.TheVariants as event
use Rattle.journal_types.specs.declared.StackHead.{StackHead}
use Rattle.journal_types.specs.declared.Turn.{Turn}
use Rattle.journal_types.specs.declared.Way.TheVariants as way
use Rattle.script_types.specs.declared.Call.{Call}
use Rattle.script_types.specs.declared.CallKind.{CallKind}
use Rattle.script_types.specs.declared.CallKind.TheVariants as ask
use Rattle.script_types.specs.declared.FilterSetup.{FilterSetup}
use Rattle.script_types.specs.declared.StackSetup.{StackSetup}
use Rattle.promise_rules.specs.declared.Ending.{Ending}
use Rattle.promise_rules.specs.declared.Link.{Link}
use Rattle.promise_rules.specs.declared.Opening.{Opening}
use Rattle.promise_rules.specs.declared.Opening.TheVariants as openings
use Rattle.promise_rules.specs.declared.Tail.{Tail}
use Rattle.promise_rules.specs.declared.Tail.TheVariants as tails
use Rattle.promise_rules.specs.Own.{opening_event, opening_after, filters_after, ending_after}
use Rattle.promise_rules.specs.Tails.{next_event, event_asked, stack_asked}
use Rattle.promise_rules.specs.Followed.{is_of_lane, next_turn, after_next, next_turn_on, rests_after, link_of, Follows, done, other, called, helped, Opens, Ends, IsFollowed, IsOpenedAndEnded}
use Rattle.book_scripts.specs.Asked.{IsPauseCall, IsInEnding, PausesAreAsked}

clash : {A : Type 0} → false ≡ true → A
clash e = absurd (cc)

nothing : {A : Type 0} (x : A) → None ≡ Some x → ⊥
nothing x e = cc

some_same : {A : Type 0} (x y : A) → Some x ≡ Some y → x ≡ y
some_same x y e = cc

only_one : (x t : Turn) → Contains (x ∷ []) t → x ≡ t
only_one x t c = All-contains (λ z. x ≡ z) (x ∷ []) t (All-cons (λ z. x ≡ z) x [] refl (All-nil (λ z. x ≡ z))) c

-- a turn of the lane is its next one, or stands after that
next_or_later : (lane : ℕ) (rest : List Turn) (t : Turn) → Contains rest t → is_of_lane lane t.who ≡ true → (next_turn lane rest ≡ Some t) ⊎ Contains (after_next lane rest) t
next_or_later lane [] t c mine = absurd (All-contains (λ x. ⊥) [] t (All-nil (λ x. ⊥)) c)
next_or_later lane (x ∷ xs) t c mine = by (is_of_lane lane x.who) refl (Contains-append_cases (x ∷ []) xs t c) (λ later. next_or_later lane xs t later mine)
  where
    by : (b : Bool) → is_of_lane lane x.who ≡ b → Contains (x ∷ []) t ⊎ Contains xs t → (Contains xs t → (next_turn lane xs ≡ Some t) ⊎ Contains (after_next lane xs) t)
        → ((if b then Some x else next_turn lane xs) ≡ Some t) ⊎ Contains (if b then xs else after_next lane xs) t
    by true e (inl here) f = inl (ap Some (only_one x t here))
    by true e (inr later) f = inr later
    by false e (inl here) f = clash (sym e ∙ ap (λ (y : Turn). is_of_lane lane y.who) (only_one x t here) ∙ mine)
    by false e (inr later) f = f later

-- so there is a next one
none_next : (lane : ℕ) (rest : List Turn) (t : Turn) → Contains rest t → is_of_lane lane t.who ≡ true → next_turn lane rest ≡ None → ⊥
none_next lane [] t c mine e = All-contains (λ x. ⊥) [] t (All-nil (λ x. ⊥)) c
none_next lane (x ∷ xs) t c mine e = by (is_of_lane lane x.who) refl e (Contains-append_cases (x ∷ []) xs t c) (λ later n. none_next lane xs t later mine n)
  where
    by : (b : Bool) → is_of_lane lane x.who ≡ b → (if b then Some x else next_turn lane xs) ≡ None → Contains (x ∷ []) t ⊎ Contains xs t → (Contains xs t → next_turn lane xs ≡ None → ⊥) → ⊥
    by true m e found f = nothing x (sym e)
    by false m e (inl here) f = clash (sym m ∙ ap (λ (y : Turn). is_of_lane lane y.who) (only_one x t here) ∙ mine)
    by false m e (inr later) f = f later e

-- a turn of the lane in the only journal is the one that is asked next, or stands in what is left
asked_or_left : (lane s : ℕ) (rest : List Turn) (x t : Turn) → next_turn_on lane s 0 (rest ∷ []) ≡ Some x → Contains rest t → is_of_lane lane t.who ≡ true → (x ≡ t) ⊎ Contains (if 0 == s then after_next lane rest else rest) t
asked_or_left lane s rest x t next c mine = by (0 == s) next (next_or_later lane rest t c mine)
  where
    by : (b : Bool) → (if b then next_turn lane rest else None) ≡ Some x → (next_turn lane rest ≡ Some t) ⊎ Contains (after_next lane rest) t → (x ≡ t) ⊎ Contains (if b then after_next lane rest else rest) t
    by true e (inl is) = inl (some_same x t (sym e ∙ is))
    by true e (inr later) = inr later
    by false e found = absurd (nothing x e)

-- what a tail asks begins no pause, and of the calls only those that ask for it
no_help : (tail : Tail) (e : Event) → next_event tail ≡ Some e → e ≡ event.BeginPause → ⊥
no_help tails.Ended e a p = cc
no_help (tails.Pumping s) e a p = cc
no_help (tails.PumpingBoth s o) e a p = cc
no_help (tails.Pausing s) e a p = cc
no_help (tails.Draining s) e a p = cc
no_help (tails.Restarting s) e a p = cc
no_help (tails.Putting upper lower message vlan frames pumps) e a p = cc
no_help (tails.EndingMessage upper lower message status pumps) e a p = cc
no_help (tails.PuttingUp upper lower message frames pumps) e a p = cc

pause_is : (link : Link) (k : CallKind) → event_asked link k ≡ event.BeginPause → k ≡ ask.BeginPause
pause_is link ask.BeginPause e = refl
pause_is link (ask.Relay way.Down) e = cc
pause_is link (ask.Relay way.Up) e = cc
pause_is link _ e = cc

later_call : (c : Call) (cs : List Call) (t : Turn) → IsPauseCall cs t → IsPauseCall (c ∷ cs) t
later_call c cs t p = record { call = p.call; there = Contains-append_right (c ∷ []) cs p.call p.there; begins = p.begins; by = p.by }

-- a lane's turn that begins a pause is that of a call
lane_asked : (stacks : List StackSetup) (lane : LaneNo) {calls : List Call} {tail : Tail} {rests : List (List Turn)} → Follows stacks lane calls tail rests → (rest : List Turn) → rests ≡ rest ∷ [] → (t : Turn) → Contains rest t → is_of_lane lane.0 t.who ≡ true → t.event ≡ event.BeginPause → IsPauseCall calls t
lane_asked stacks lane (done rests none) rest is t c mine p =
    let first : next_turn lane.0 rest ≡ None = All-contains (λ r. next_turn lane.0 r ≡ None) (rest ∷ []) rest (subst (All (λ r. next_turn lane.0 r ≡ None)) is none) (0, omega arith, refl) in
    absurd (none_next lane.0 rest t c mine first)
lane_asked stacks lane (other call cs rests ne f) rest is t c mine p = later_call call cs t (lane_asked stacks lane f rest is t c mine p)
lane_asked stacks lane (called call cs rests turn at by what its f) rest is t c mine p =
    let s : ℕ = stack_asked (link_of stacks call.stack) call.stack call.kind in
    let next : next_turn_on lane.0 s 0 (rest ∷ []) ≡ Some turn = ap (next_turn_on lane.0 s 0) (sym is) ∙ at in
    let left : List Turn = if 0 == s then after_next lane.0 rest else rest in
    let left_is : rests_after lane.0 s 0 rests ≡ left ∷ [] = ap (rests_after lane.0 s 0) is in
    either (asked_or_left lane.0 s rest turn t next c mine) (λ later. later_call call cs t (lane_asked stacks lane f left left_is t later mine p))
  where
    pauses : turn ≡ t → IsPauseCall (call ∷ cs) t
    pauses same = record {
      call = call;
      there = (0, omega arith, refl);
      begins = pause_is (link_of stacks call.stack) call.kind (sym what ∙ ap (λ (x : Turn). x.event) same ∙ p);
      by = ap (λ (x : Turn). x.who) (sym same) ∙ by ∙ ap who.Call (sym its);
    }

    either : {L : Type 0} → (turn ≡ t) ⊎ L → (L → IsPauseCall (call ∷ cs) t) → IsPauseCall (call ∷ cs) t
    either (inl same) g = pauses same
    either (inr later) g = g later
lane_asked stacks lane (helped cs tail rests s turn at_stack at by what f) rest is t c mine p =
    let next : next_turn_on lane.0 s 0 (rest ∷ []) ≡ Some turn = ap (next_turn_on lane.0 s 0) (sym is) ∙ at in
    let left : List Turn = if 0 == s then after_next lane.0 rest else rest in
    let left_is : rests_after lane.0 s 0 rests ≡ left ∷ [] = ap (rests_after lane.0 s 0) is in
    either (asked_or_left lane.0 s rest turn t next c mine) (λ later. lane_asked stacks lane f left left_is t later mine p)
  where
    either : {L : Type 0} → (turn ≡ t) ⊎ L → (L → IsPauseCall cs t) → IsPauseCall cs t
    either (inl same) g = absurd (no_help tail turn.event what (ap (λ (x : Turn). x.event) same ∙ p))
    either (inr later) g = g later

-- an opening begins none, and an ending has the run's own turns alone
no_opening : (o : Opening) (filters : List FilterSetup) (e : Event) → opening_event o filters ≡ Some e → e ≡ event.BeginPause → ⊥
no_opening openings.Initialising filters e a p = cc
no_opening (openings.Inserting n) [] e a p = cc
no_opening (openings.Inserting n) (f ∷ fs) e a p = cc
no_opening openings.Opened filters e a p = cc

opens_none : (o : Opening) (filters : List FilterSetup) (ts : List Turn) → Opens o filters ts → All (λ t. t.event ≡ event.BeginPause → ⊥) ts
opens_none o filters [] h = All-nil (λ t. t.event ≡ event.BeginPause → ⊥)
opens_none o filters (x ∷ xs) h =
    All-cons (λ t. t.event ≡ event.BeginPause → ⊥) x xs (no_opening o filters x.event h.0.what) (opens_none (opening_after o filters x.reply) (filters_after o filters) xs h.1)

ends_own : (e : Ending) (ts : List Turn) → Ends e ts → All (λ t. t.who ≡ who.Own) ts
ends_own e [] h = All-nil (λ t. t.who ≡ who.Own)
ends_own e (x ∷ xs) h = All-cons (λ t. t.who ≡ who.Own) x xs h.0.by (ends_own (ending_after e x.reply) xs h.1)

pub pauses_are_asked : (stacks : List StackSetup) (head : StackHead) (filters : List FilterSetup) (calls : List Call) (turns : List Turn) (ended : IsOpenedAndEnded head filters turns) → ((lane : LaneNo) → IsFollowed stacks lane calls (turns ∷ [])) → PausesAreAsked calls ended.last turns
pauses_are_asked stacks head filters calls turns ended followed t c p = by t.who refl
  where
    own : t.who ≡ who.Own → IsPauseCall calls t ⊎ IsInEnding ended.last t
    own is = first (Contains-append_cases ended.opening (ended.middle ++ ended.last) t (subst (λ ts. Contains ts t) ended.split c))
      where
        second : Contains ended.middle t ⊎ Contains ended.last t → IsPauseCall calls t ⊎ IsInEnding ended.last t
        second (inl middle) = absurd (All-contains (λ x. x.who ≢ who.Own) ended.middle t ended.calls middle is)
        second (inr last) = inr (record { there = last; by = is })

        first : Contains ended.opening t ⊎ Contains (ended.middle ++ ended.last) t → IsPauseCall calls t ⊎ IsInEnding ended.last t
        first (inl opening) = absurd (All-contains (λ x. x.event ≡ event.BeginPause → ⊥) ended.opening t (opens_none openings.Initialising filters ended.opening ended.opens) opening p)
        first (inr rest) = second (Contains-append_cases ended.middle ended.last t rest)

    by : (w : Who) → t.who ≡ w → IsPauseCall calls t ⊎ IsInEnding ended.last t
    by who.Own is = own is
    by (who.Call lane) is = inl (lane_asked stacks lane (followed lane) turns refl t c (ap (is_of_lane lane.0) is ∙ eq-eqb lane.0 lane.0 refl) p)
    by (who.Help lane) is = inl (lane_asked stacks lane (followed lane) turns refl t c (ap (is_of_lane lane.0) is ∙ eq-eqb lane.0 lane.0 refl) p)
