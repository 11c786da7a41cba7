-- The turns of a run follow the script.
use Rattle.std.proofs.Common.{ℕ, ◌≡◌, ◌≢◌, ◌==◌, ◌&&◌, Bool, true, false, List, [], ◌∷◌, ◌++◌, Option, Some, None, if◌then◌else◌, All, refl, ap, sym, subst, ◌∙◌, inl, inr, ◌⊎◌, arith, eq-eqb}
use Rattle.std.specs.List.{list_all}
use Rattle.std.proofs.lemmas.List.{append_assoc}
use Rattle.std.proofs.lemmas.List.Elements.{All-append, All-cons, All-nil}
use Rattle.std.proofs.lemmas.Bool.Decides.{nat_tests}
use Rattle.ndis_base.specs.declared.LaneNo.{LaneNo}
use Rattle.ndis_base.specs.declared.Phase.TheVariants as phase
use Rattle.ndis_base.specs.declared.Who.TheVariants as who
use Rattle.journal_types.specs.declared.Event.{Event}
use Rattle.journal_types.specs.declared.Reply.{Reply}
use Rattle.journal_types.specs.declared.StackHead.{StackHead}
use Rattle.journal_types.specs.declared.Turn.{Turn}
use Rattle.script_types.specs.declared.Call.{Call}
use Rattle.script_types.specs.declared.CallKind.{CallKind}
use Rattle.script_types.specs.declared.CallKind.TheVariants as ask
use Rattle.script_types.specs.declared.FilterSetup.{FilterSetup}
use Rattle.script_types.specs.declared.StackSetup.{StackSetup}
use Rattle.script_events.specs.Events.{event_of}
use Rattle.stack_rules.specs.Net.{seen}
use Rattle.promise_rules.specs.declared.Link.{Link}
use Rattle.promise_rules.specs.declared.Opening.{Opening}
use Rattle.promise_rules.specs.declared.Opening.TheVariants.{Initialising, Opened}
use Rattle.promise_rules.specs.declared.Ending.{Ending}
use Rattle.promise_rules.specs.declared.Ending.TheVariants as ending
use Rattle.promise_rules.specs.declared.Tail.{Tail}
use Rattle.promise_rules.specs.declared.Tail.TheVariants as tails
use Rattle.promise_rules.specs.Tails.{next_stack, next_event, tail_after, tail_of, stack_asked, event_asked, pumping_if}
use Rattle.promise_rules.specs.Own.{opening_after, filters_after, ending_of, ending_event, ending_after}
use Rattle.promise_rules.specs.Followed.{is_of_lane, next_turn, after_next, link_of, Follows, done, other, called, helped, IsFollowed, IsOpenedAndEnded}
use Rattle.promise_rules.specs.Followed as promised
use Rattle.driver_views.specs.States.{IsRisen}
use Rattle.book_lemmas.specs.Views.{BookView}
use Rattle.book_runs.specs.Adds.{IsTail, IsCall, OpensTo, EndsTo, TurnsLead, asked_here, opening_asks, opening_goes, tail_asks, tail_of_call}
use Rattle.book_scripts.specs.Scripts.{Makes, MakesAll, IsWhole, RunsWhole, is_asked_call, is_asked_event}
use Rattle.book_scripts.specs.Served.{RunsUnlessRefused}
use Rattle.book_scripts.proofs.Whole.{both_true}

differ : {A : Type 0} → false ≡ true → A
differ e = absurd (cc)

-- turns of which none is the lane's
abbrev pub NoneOf : ℕ → List Turn → Type 0
NoneOf lane [] = Unit {0}
NoneOf lane (t ∷ ts) = (is_of_lane lane t.who ≡ false) × NoneOf lane ts

none_append : (lane : ℕ) (xs ys : List Turn) → NoneOf lane xs → NoneOf lane ys → NoneOf lane (xs ++ ys)
none_append lane [] ys p q = q
none_append lane (x ∷ xs) ys p q = (p.0, none_append lane xs ys p.1 q)

-- they are passed over
passed : (lane : ℕ) (front ys : List Turn) → NoneOf lane front → next_turn lane (front ++ ys) ≡ next_turn lane ys
passed lane [] ys n = refl
passed lane (t ∷ ts) ys n = ap (λ b. if b then Some t else next_turn lane (ts ++ ys)) n.0 ∙ passed lane ts ys n.1

left : (lane : ℕ) (front ys : List Turn) → NoneOf lane front → after_next lane (front ++ ys) ≡ after_next lane ys
left lane [] ys n = refl
left lane (t ∷ ts) ys n = ap (λ b. if b then ts ++ ys else after_next lane (ts ++ ys)) n.0 ∙ left lane ts ys n.1

none_next : (lane : ℕ) (ys : List Turn) → NoneOf lane ys → next_turn lane ys ≡ None
none_next lane [] n = refl
none_next lane (t ∷ ts) n = ap (λ b. if b then Some t else next_turn lane ts) n.0 ∙ none_next lane ts n.1

-- a turn of the lane behind them is the lane's next one
next_is : (lane : ℕ) (front : List Turn) (t : Turn) (ys : List Turn) → NoneOf lane front → is_of_lane lane t.who ≡ true → next_turn lane (front ++ t ∷ ys) ≡ Some t
next_is lane front t ys n e = passed lane front (t ∷ ys) n ∙ ap (λ b. if b then Some t else next_turn lane ys) e

rest_is : (lane : ℕ) (front : List Turn) (t : Turn) (ys : List Turn) → NoneOf lane front → is_of_lane lane t.who ≡ true → after_next lane (front ++ t ∷ ys) ≡ ys
rest_is lane front t ys n e = left lane front (t ∷ ys) n ∙ ap (λ b. if b then ys else after_next lane ys) e

-- the stack's own turns are of no lane
own_turns : {S : Type 0} (asks : S → Option Event) (goes : S → Reply → S) (a b : S) (lane : ℕ) (xs : List Turn) → TurnsLead who.Own asks goes a b xs → NoneOf lane xs
own_turns asks goes a b lane [] p = tt
own_turns asks goes a b lane (x ∷ xs) p = (ap (is_of_lane lane) p.0, own_turns asks goes (goes a x.reply) b lane xs p.2)

-- the turns are asked by a lane, as its calls or as their tails
abbrev pub IsBy : LaneNo → Turn → Type 0
IsBy lane t = (t.who ≡ who.Call lane) ⊎ (t.who ≡ who.Help lane)

abbrev pub AllBy : LaneNo → List Turn → Type 0
AllBy lane [] = Unit {0}
AllBy lane (t ∷ ts) = IsBy lane t × AllBy lane ts

by_tail : {S : Type 0} (asks : S → Option Event) (goes : S → Reply → S) (a b : S) (lane : LaneNo) (xs : List Turn) → TurnsLead (who.Help lane) asks goes a b xs → AllBy lane xs
by_tail asks goes a b lane [] p = tt
by_tail asks goes a b lane (x ∷ xs) p = (inr p.0, by_tail asks goes (goes a x.reply) b lane xs p.2)

pub by_call : (lane : LaneNo) (e : Event) (pump : Bool) (xs : List Turn) → IsCall lane e pump xs → AllBy lane xs
by_call lane e pump xs c = subst (AllBy lane) (sym c.all) (inl c.by, by_tail tail_asks tail_after (pumping_if pump (tail_of_call e c.call.reply)) tails.Ended lane c.tail c.follows)

pub of_lane : (lane : LaneNo) (l : ℕ) (t : Turn) → IsBy lane t → is_of_lane l t.who ≡ (lane.0 == l)
of_lane lane l t (inl is) = ap (is_of_lane l) is
of_lane lane l t (inr is) = ap (is_of_lane l) is

none_of_lane : (lane : LaneNo) (l : ℕ) (xs : List Turn) → (lane.0 == l) ≡ false → AllBy lane xs → NoneOf l xs
none_of_lane lane l [] e p = tt
none_of_lane lane l (x ∷ xs) e p = (of_lane lane l x p.0 ∙ e, none_of_lane lane l xs e p.1)

-- no turn of a call is the stack's own
no_clash : (lane : LaneNo) (t : Turn) → IsBy lane t → t.who ≢ who.Own
no_clash lane t (inl is) e = cc
no_clash lane t (inr is) e = cc

none_own : (lane : LaneNo) (xs : List Turn) → AllBy lane xs → All (λ t. t.who ≢ who.Own) xs
none_own lane [] p = All-nil (λ t. t.who ≢ who.Own)
none_own lane (x ∷ xs) p = All-cons (λ t. t.who ≢ who.Own) x xs (no_clash lane x p.0) (none_own lane xs p.1)

pub calls_own : (calls : List Call) (xs : List Turn) → MakesAll calls xs → All (λ t. t.who ≢ who.Own) xs
calls_own [] xs m = subst (All (λ t. t.who ≢ who.Own)) (sym m) (All-nil (λ t. t.who ≢ who.Own))
calls_own (c ∷ cs) xs m = subst (All (λ t. t.who ≢ who.Own)) (sym m.2)
    (All-append (λ t. t.who ≢ who.Own) m.0 m.1 (none_own c.lane m.0 (by_call c.lane m.3.event c.pump m.0 m.3.is)) (calls_own cs m.1 m.4))

-- a turn of a tail, and the rest
help_step : (stacks : List StackSetup) (lane : LaneNo) (cs : List Call) (tail : Tail) (t : Turn) (rest : List Turn) → next_stack tail ≡ Some 0 → next_event tail ≡ Some t.event → t.who ≡ who.Help lane
    → Follows stacks lane cs (tail_after tail t.reply) (rest ∷ []) → Follows stacks lane cs tail ((t ∷ rest) ∷ [])
help_step stacks lane cs tail t rest at asks by f =
    let mine : is_of_lane lane.0 t.who ≡ true = ap (is_of_lane lane.0) by ∙ eq-eqb lane.0 lane.0 refl in
    helped cs tail ((t ∷ rest) ∷ []) 0 t at (next_is lane.0 [] t rest tt mine) by asks
    (subst (λ (r : List Turn). Follows stacks lane cs (tail_after tail t.reply) (r ∷ [])) (sym (rest_is lane.0 [] t rest tt mine)) f)

pub zero_stack : (n : ℕ) → (n == 0) ≡ true → n ≡ 0
zero_stack n e = grind (arith, nat_tests, e)

-- what is asked of the only stack is asked of stack 0
here : (stack : Option ℕ) (asked : Option Event) (e : Event) → asked_here stack asked ≡ Some e → (stack ≡ Some 0) × (asked ≡ Some e)
here None asked e is = absurd (nothing is)
  where
    nothing : None ≡ Some e → ⊥
    nothing is = cc
here (Some s) asked e is = by_test (s == 0) refl
  where
    nothing : None ≡ Some e → ⊥
    nothing is = cc

    by_test : (b : Bool) → (s == 0) ≡ b → (Some s ≡ Some 0) × (asked ≡ Some e)
    by_test true at = (ap Some (zero_stack s at), ap (λ b. if b then asked else None) (sym at) ∙ is)
    by_test false at = absurd (nothing (ap (λ b. if b then asked else None) (sym at) ∙ is))

-- a tail's turns follow it
follows_tail : (stacks : List StackSetup) (lane : LaneNo) (cs : List Call) (tail : Tail) (xs rest : List Turn) → IsTail lane tail xs → Follows stacks lane cs tails.Ended (rest ∷ []) → Follows stacks lane cs tail ((xs ++ rest) ∷ [])
follows_tail stacks lane cs tail [] rest p f = subst (λ s. Follows stacks lane cs s (rest ∷ [])) (sym p) f
follows_tail stacks lane cs tail (x ∷ xs) rest p f =
    let at = here (next_stack tail) (next_event tail) x.event p.1 in
    help_step stacks lane cs tail x (xs ++ rest) at.0 at.1 p.0 (follows_tail stacks lane cs (tail_after tail x.reply) xs rest p.2 f)

no_tail : (p : Bool) → tails.Ended ≡ pumping_if p tails.Ended
no_tail true = refl
no_tail false = refl

-- the tail of a call that can be made
tail_is : (head : StackHead) (link : Link) (k : CallKind) (p : Bool) (r : Reply) → is_asked_event head (event_of k) ≡ true → tail_of link 0 p k r ≡ pumping_if p (tail_of_call (event_asked link k) r)
tail_is head link (ask.Send binding cancel frames) p r h = refl
tail_is head link (ask.Indicate frames) p r h = refl
tail_is head link (ask.Lend frames) p r h = refl
tail_is head link (ask.GiveBack binding list) p r h = refl
tail_is head link (ask.Cancel id) p r h = refl
tail_is head link (ask.Status name) p r h = refl
tail_is head link (ask.Ask binding kind code value) p r h = refl
tail_is head link ask.Transmit p r h = refl
tail_is head link ask.Pump p r h = refl
tail_is head link ask.Drain p r h = refl
tail_is head link ask.BeginPause p r h = refl
tail_is head link ask.PauseNext p r h = refl
tail_is head link ask.RestartNext p r h = refl
tail_is head link (ask.Insert position kind setup) p r h = no_tail p
tail_is head link (ask.Remove filter) p r h = no_tail p
tail_is head link (ask.Replace filter kind setup) p r h = no_tail p
tail_is head link _ p r h = differ h

asks_event : (head : StackHead) (link : Link) (k : CallKind) (e : Event) → is_asked_event head (event_of k) ≡ true → event_of k ≡ Some e → e ≡ event_asked link k
asks_event head link (ask.Send binding cancel frames) e h is = cc
asks_event head link (ask.Indicate frames) e h is = cc
asks_event head link (ask.Lend frames) e h is = cc
asks_event head link (ask.GiveBack binding list) e h is = cc
asks_event head link (ask.Cancel id) e h is = cc
asks_event head link (ask.Status name) e h is = cc
asks_event head link (ask.Ask binding kind code value) e h is = cc
asks_event head link ask.Transmit e h is = cc
asks_event head link ask.Pump e h is = cc
asks_event head link ask.Drain e h is = cc
asks_event head link ask.BeginPause e h is = cc
asks_event head link ask.PauseNext e h is = cc
asks_event head link ask.RestartNext e h is = cc
asks_event head link (ask.Insert position kind setup) e h is = cc
asks_event head link (ask.Remove filter) e h is = cc
asks_event head link (ask.Replace filter kind setup) e h is = cc
asks_event head link _ e h is = differ h

asks_stack : (head : StackHead) (link : Link) (s : ℕ) (k : CallKind) → is_asked_event head (event_of k) ≡ true → stack_asked link s k ≡ s
asks_stack head link s (ask.Send binding cancel frames) h = refl
asks_stack head link s (ask.Indicate frames) h = refl
asks_stack head link s (ask.Lend frames) h = refl
asks_stack head link s (ask.GiveBack binding list) h = refl
asks_stack head link s (ask.Cancel id) h = refl
asks_stack head link s (ask.Status name) h = refl
asks_stack head link s (ask.Ask binding kind code value) h = refl
asks_stack head link s ask.Transmit h = refl
asks_stack head link s ask.Pump h = refl
asks_stack head link s ask.Drain h = refl
asks_stack head link s ask.BeginPause h = refl
asks_stack head link s ask.PauseNext h = refl
asks_stack head link s ask.RestartNext h = refl
asks_stack head link s (ask.Insert position kind setup) h = refl
asks_stack head link s (ask.Remove filter) h = refl
asks_stack head link s (ask.Replace filter kind setup) h = refl
asks_stack head link s _ h = differ h

pub same_lane : (a b : LaneNo) → (a.0 == b.0) ≡ true → a ≡ b
same_lane a b e =
    let same : a.0 ≡ b.0 = grind (arith, nat_tests, e) in
    ap (λ (n : ℕ). let x : LaneNo = record { 0 = n } in x) same

other_lane : (a b : LaneNo) → (a.0 == b.0) ≡ false → a.0 ≢ b.0
other_lane a b e is = differ (sym e ∙ eq-eqb a.0 b.0 is)

-- a call of the lane and its tail, and then the rest
pub follows_call : (stacks : List StackSetup) (head : StackHead) (lane : LaneNo) (c : Call) (cs : List Call) (front first rest : List Turn) → c.stack ≡ 0 → is_asked_event head (event_of c.kind) ≡ true → c.lane ≡ lane → NoneOf lane.0 front → Makes c first
    → Follows stacks lane cs tails.Ended (rest ∷ []) → Follows stacks lane (c ∷ cs) tails.Ended ((front ++ (first ++ rest)) ∷ [])
follows_call stacks head lane c cs front first rest zero built same n m f =
    let call : Turn = m.is.call in
    let link : Link = link_of stacks c.stack in
    let then_tail : Tail = pumping_if c.pump (tail_of_call m.event call.reply) in
    let later : List Turn = m.is.tail ++ rest in
    let all : List Turn = front ++ call ∷ later in
    let by : call.who ≡ who.Call lane = m.is.by ∙ ap who.Call same in
    let mine : is_of_lane lane.0 call.who ≡ true = ap (is_of_lane lane.0) by ∙ eq-eqb lane.0 lane.0 refl in
    let at : stack_asked link c.stack c.kind ≡ 0 = asks_stack head link c.stack c.kind built ∙ zero in
    let asks : m.event ≡ event_asked link c.kind = asks_event head link c.kind m.event built m.asked in
    let tail : tail_of link c.stack c.pump c.kind call.reply ≡ then_tail =
    ap (λ (s : ℕ). tail_of link s c.pump c.kind call.reply) zero
    ∙ tail_is head link c.kind c.pump call.reply built
    ∙ ap (λ (e : Event). pumping_if c.pump (tail_of_call e call.reply)) (sym asks) in
    let rests : Follows stacks lane cs then_tail (later ∷ []) = follows_tail stacks lane cs then_tail m.is.tail rest (subst (λ (l : LaneNo). IsTail l then_tail m.is.tail) same m.is.follows) f in
    let after : Follows stacks lane cs (tail_of link c.stack c.pump c.kind call.reply) (after_next lane.0 all ∷ []) =
    subst (λ (s : Tail). Follows stacks lane cs s (after_next lane.0 all ∷ [])) (sym tail) (subst (λ (r : List Turn). Follows stacks lane cs then_tail (r ∷ [])) (sym (rest_is lane.0 front call later n mine)) rests) in
    subst (λ (ts : List Turn). Follows stacks lane (c ∷ cs) tails.Ended ((front ++ (ts ++ rest)) ∷ [])) (sym m.is.all)
    (called c cs (all ∷ []) call
    (subst (λ (s : ℕ). promised.next_turn_on lane.0 s 0 (all ∷ []) ≡ Some call) (sym at) (next_is lane.0 front call later n mine))
    by (m.is.what ∙ asks) same
    (subst (λ (s : ℕ). Follows stacks lane cs (tail_of link c.stack c.pump c.kind call.reply) (promised.rests_after lane.0 s 0 (all ∷ []))) (sym at) after))

-- the calls' turns follow the lane's calls, wherever they stand between turns of no lane
follows_all : (stacks : List StackSetup) (head : StackHead) (lane : LaneNo) (calls : List Call) (front xs rest : List Turn) → list_all (is_asked_call head) calls ≡ true → MakesAll calls xs → NoneOf lane.0 front → NoneOf lane.0 rest
    → Follows stacks lane calls tails.Ended ((front ++ (xs ++ rest)) ∷ [])
follows_all stacks head lane [] front xs rest built m n r =
    let none : next_turn lane.0 (front ++ (xs ++ rest)) ≡ None =
    passed lane.0 front (xs ++ rest) n ∙ ap (λ (ts : List Turn). next_turn lane.0 (ts ++ rest)) m ∙ none_next lane.0 rest r in
    done ((front ++ (xs ++ rest)) ∷ []) (All-cons (λ ts. next_turn lane.0 ts ≡ None) (front ++ (xs ++ rest)) [] none (All-nil (λ ts. next_turn lane.0 ts ≡ None)))
follows_all stacks head lane (c ∷ cs) front xs rest built m n r =
    by_lane (c.lane.0 == lane.0) refl
    (λ (before : List Turn). λ (none : NoneOf lane.0 before). follows_all stacks head lane cs before m.1 rest (both_true (is_asked_call head c) (list_all (is_asked_call head) cs) built).1 m.4 none r)
  where
    of : (is_asked_call head c ≡ true) × (list_all (is_asked_call head) cs ≡ true)
    of = both_true (is_asked_call head c) (list_all (is_asked_call head) cs) built

    parts : ((c.stack == 0) ≡ true) × (is_asked_event head (event_of c.kind) ≡ true)
    parts = both_true (c.stack == 0) (is_asked_event head (event_of c.kind)) of.0

    by : AllBy c.lane m.0
    by = by_call c.lane m.3.event c.pump m.0 m.3.is

    apart : xs ++ rest ≡ m.0 ++ (m.1 ++ rest)
    apart = ap (λ (ts : List Turn). ts ++ rest) m.2 ∙ append_assoc m.0 m.1 rest

    by_lane : (b : Bool) → (c.lane.0 == lane.0) ≡ b → ((before : List Turn) → NoneOf lane.0 before → Follows stacks lane cs tails.Ended ((before ++ (m.1 ++ rest)) ∷ [])) → Follows stacks lane (c ∷ cs) tails.Ended ((front ++ (xs ++ rest)) ∷ [])
    by_lane true e later =
        subst (λ (ts : List Turn). Follows stacks lane (c ∷ cs) tails.Ended ((front ++ ts) ∷ [])) (sym apart)
        (follows_call stacks head lane c cs front m.0 (m.1 ++ rest) (zero_stack c.stack parts.0) parts.1 (same_lane c.lane lane e) n m.3 (later [] tt))
    by_lane false e later =
        let skipped : (front ++ m.0) ++ (m.1 ++ rest) ≡ front ++ (xs ++ rest) = append_assoc front m.0 (m.1 ++ rest) ∙ ap (λ (ts : List Turn). front ++ ts) (sym apart) in
        other c cs ((front ++ (xs ++ rest)) ∷ []) (other_lane c.lane lane e)
        (subst (λ (ts : List Turn). Follows stacks lane cs tails.Ended (ts ∷ [])) skipped
        (later (front ++ m.0) (none_append lane.0 front m.0 n (none_of_lane c.lane lane.0 m.0 e by))))

-- a whole run's turns follow each lane's calls
whole_followed : (stacks : List StackSetup) (head : StackHead) (before : List Turn) (filters : List FilterSetup) (calls : List Call) (turns : List Turn) (lane : LaneNo) → list_all (is_asked_call head) calls ≡ true → IsWhole head before filters calls turns → Follows stacks lane calls tails.Ended (turns ∷ [])
whole_followed stacks head before filters calls turns lane asked w =
    subst (λ (ts : List Turn). Follows stacks lane calls tails.Ended (ts ∷ [])) (sym w.split)
    (follows_all stacks head lane calls w.opening w.middle w.last asked w.made (own_turns opening_asks opening_goes (Initialising, filters) (Opened, w.left) lane.0 w.opening w.opens)
    (own_turns ending_event ending_after (ending_of (seen head (before ++ (w.opening ++ w.middle))).phase) ending.Ended lane.0 w.last w.ends))

pub followed : (stacks : List StackSetup) (filters : List FilterSetup) (calls : List Call) (a b : BookView) (lane : LaneNo) → list_all (is_asked_call a.tray.head) calls ≡ true → a.tray.turns ≡ [] → RunsWhole filters calls a b → IsFollowed stacks lane calls (b.tray.turns ∷ [])
followed stacks filters calls a b lane asked none w =
    subst (λ (ts : List Turn). Follows stacks lane calls tails.Ended (ts ∷ [])) (sym (w.turns ∙ ap (λ ts. ts ++ w.added.more) none))
    (whole_followed stacks a.tray.head a.tray.turns filters calls w.added.more lane asked w.added.kind)

-- an opening that ends opened is one, and an ending that ends
opens_as : (a : Opening) (fs gs : List FilterSetup) (xs : List Turn) → OpensTo a fs Opened gs xs → promised.Opens a fs xs
opens_as a fs gs [] p = ap (λ (o : Opening × List FilterSetup). o.0) p
opens_as a fs gs (x ∷ xs) p = (record { by = p.0; what = p.1 }, opens_as (opening_after a fs x.reply) (filters_after a fs) gs xs p.2)

ends_as : (a : Ending) (xs : List Turn) → EndsTo a ending.Ended xs → promised.Ends a xs
ends_as a [] p = p
ends_as a (x ∷ xs) p = (record { by = p.0; what = p.1 }, ends_as (ending_after a x.reply) xs p.2)

pub opened_and_ended : (filters : List FilterSetup) (calls : List Call) (a b : BookView) → a.tray.turns ≡ [] → RunsWhole filters calls a b → IsOpenedAndEnded a.tray.head filters b.tray.turns
opened_and_ended filters calls a b none w =
    let k : IsWhole a.tray.head a.tray.turns filters calls w.added.more = w.added.kind in
    record {
      opening = k.opening;
      middle = k.middle;
      last = k.last;
      split = w.turns ∙ ap (λ ts. ts ++ w.added.more) none ∙ k.split;
      opens = opens_as Initialising filters k.left k.opening k.opens;
      calls = calls_own calls k.middle k.made;
      ends = subst (λ ts. promised.Ends (ending_of (seen a.tray.head (ts ++ (k.opening ++ k.middle))).phase) k.last) none (ends_as (ending_of (seen a.tray.head (a.tray.turns ++ (k.opening ++ k.middle))).phase) k.last k.ends);
    }

-- its middle is the calls' turns
pub middle_is : (filters : List FilterSetup) (calls : List Call) (a b : BookView) (none : a.tray.turns ≡ []) (w : RunsWhole filters calls a b) → (opened_and_ended filters calls a b none w).middle ≡ w.added.kind.middle
unfolding opened_and_ended
middle_is filters calls a b none w = refl

-- the stack runs, unless its adapter refused
pub runs_unless_refused : (filters : List FilterSetup) (calls : List Call) (a b : BookView) → a.tray.turns ≡ [] → RunsWhole filters calls a b → RunsUnlessRefused a.tray.head filters b.tray.turns a.held.miniport b.held.miniport
unfolding opened_and_ended
runs_unless_refused filters calls a b none w =
    let k : IsWhole a.tray.head a.tray.turns filters calls w.added.more = w.added.kind in
    record {
      ended = opened_and_ended filters calls a b none w;
      running = subst (λ ts. ((seen a.tray.head (ts ++ k.opening)).phase ≡ phase.Running) ⊎ IsRisen a.held.miniport.refusals b.held.miniport.refusals) none w.ran;
    }
