-- Which drivers counted that they refused.
use Rattle.std.proofs.Common.{◌≡◌, ◌⊎◌, inl, inr, ℕ, ◌+◌, ◌<◌, ◌≤◌, ◌^◌, ◌==◌, ◌&&◌, Bool, true, false, cond, List, [], ◌∷◌, ◌++◌, Option, Some, None, All, count_by, find, length, map, option_map, unwrap_or, refl, sym, ap, ◌∙◌, subst, arith}
use Rattle.std.proofs.lemmas.Bool.Decides.{nat_tests}
use Rattle.std.proofs.lemmas.List.Elements.{All-weaker}
use Rattle.ndis_base.specs.declared.FilterKind.{FilterKind}
use Rattle.journal_types.specs.declared.Event.{Event}
use Rattle.journal_types.specs.declared.Event.TheVariants as event
use Rattle.journal_types.specs.declared.Refusal.{Refusal}
use Rattle.journal_types.specs.declared.Refusal.TheVariants as refusal
use Rattle.journal_types.specs.declared.Reply.{Reply}
use Rattle.journal_types.specs.declared.Reply.TheVariants as reply
use Rattle.journal_types.specs.declared.Turn.{Turn}
use Rattle.rule_basics.proofs.Counts.{count_by-cons, one_if}
use Rattle.promise_rules.specs.Drivers.{Shelf, is_of_kind, shelf_in_turns, shelf_of}
use Rattle.driver_views.specs.States.{FilterState, IsRisen}
use Rattle.book_lemmas.specs.Shelves.{Balks, HasBalked, first_on_shelf}
use Rattle.book_lemmas.specs.Stands.{IsShelved}
use Rattle.book_lemmas.specs.Views.{BookView, HeldView, IsOnShelf, filter_at}
use Rattle.book_parts.specs.Events.{IsBook}
use Rattle.rewire_work.proofs.Shelving.{find_same}
use Rattle.book_runs.specs.Adds.{Adds, AddsThis}
use Rattle.book_scripts.specs.Served.{RoseBy, has_refused, is_asked, is_attach_refusal, is_init_refusal, is_initialise, kind_asked, miniport_refused, refusals_at, refusals_from, was_attach_refused, was_init_refused}
use Rattle.book_scripts.proofs.Whole.{added_turns}

never : false ≡ true → ⊥
never e = cc

-- which refusals they are
attach_is : (r : Refusal) → is_attach_refusal r ≡ true → r ≡ refusal.AttachRefused
attach_is (refusal.WrongPhase a) e = absurd (never e)
attach_is refusal.InitRefused e = absurd (never e)
attach_is refusal.NotPaused e = absurd (never e)
attach_is (refusal.Busy a) e = absurd (never e)
attach_is refusal.Full e = absurd (never e)
attach_is refusal.BadPosition e = absurd (never e)
attach_is refusal.ShelfEmpty e = absurd (never e)
attach_is refusal.AttachRefused e = refl
attach_is refusal.NoModule e = absurd (never e)
attach_is (refusal.Paused a) e = absurd (never e)
attach_is refusal.NoList e = absurd (never e)
attach_is refusal.NotRunning e = absurd (never e)
attach_is refusal.NotHeld e = absurd (never e)
attach_is refusal.Unbound e = absurd (never e)
attach_is refusal.HaltedNow e = absurd (never e)
attach_is refusal.TooLong e = absurd (never e)
attach_is refusal.NotTaken e = absurd (never e)

init_is : (r : Refusal) → is_init_refusal r ≡ true → r ≡ refusal.InitRefused
init_is (refusal.WrongPhase a) e = absurd (never e)
init_is refusal.InitRefused e = refl
init_is refusal.NotPaused e = absurd (never e)
init_is (refusal.Busy a) e = absurd (never e)
init_is refusal.Full e = absurd (never e)
init_is refusal.BadPosition e = absurd (never e)
init_is refusal.ShelfEmpty e = absurd (never e)
init_is refusal.AttachRefused e = absurd (never e)
init_is refusal.NoModule e = absurd (never e)
init_is (refusal.Paused a) e = absurd (never e)
init_is refusal.NoList e = absurd (never e)
init_is refusal.NotRunning e = absurd (never e)
init_is refusal.NotHeld e = absurd (never e)
init_is refusal.Unbound e = absurd (never e)
init_is refusal.HaltedNow e = absurd (never e)
init_is refusal.TooLong e = absurd (never e)
init_is refusal.NotTaken e = absurd (never e)

balked_is : (r : Reply) → was_attach_refused r ≡ true → r ≡ reply.Refused refusal.AttachRefused
balked_is reply.Ok e = absurd (never e)
balked_is (reply.Inserted a) e = absurd (never e)
balked_is reply.Removed e = absurd (never e)
balked_is (reply.Replaced a) e = absurd (never e)
balked_is (reply.Sent a) e = absurd (never e)
balked_is (reply.Indicated a) e = absurd (never e)
balked_is (reply.Lent a) e = absurd (never e)
balked_is (reply.Cancelled a) e = absurd (never e)
balked_is (reply.Asked a) e = absurd (never e)
balked_is (reply.Wired a) e = absurd (never e)
balked_is reply.Moved e = absurd (never e)
balked_is reply.Idle e = absurd (never e)
balked_is reply.Next e = absurd (never e)
balked_is reply.Paused e = absurd (never e)
balked_is reply.Running e = absurd (never e)
balked_is (reply.Waiting a) e = absurd (never e)
balked_is reply.Halted e = absurd (never e)
balked_is (reply.Taken a b) e = absurd (never e)
balked_is reply.Nothing e = absurd (never e)
balked_is (reply.Crossed a) e = absurd (never e)
balked_is (reply.Refused cause) e = ap reply.Refused (attach_is cause e)

refused_is : (r : Reply) → was_init_refused r ≡ true → r ≡ reply.Refused refusal.InitRefused
refused_is reply.Ok e = absurd (never e)
refused_is (reply.Inserted a) e = absurd (never e)
refused_is reply.Removed e = absurd (never e)
refused_is (reply.Replaced a) e = absurd (never e)
refused_is (reply.Sent a) e = absurd (never e)
refused_is (reply.Indicated a) e = absurd (never e)
refused_is (reply.Lent a) e = absurd (never e)
refused_is (reply.Cancelled a) e = absurd (never e)
refused_is (reply.Asked a) e = absurd (never e)
refused_is (reply.Wired a) e = absurd (never e)
refused_is reply.Moved e = absurd (never e)
refused_is reply.Idle e = absurd (never e)
refused_is reply.Next e = absurd (never e)
refused_is reply.Paused e = absurd (never e)
refused_is reply.Running e = absurd (never e)
refused_is (reply.Waiting a) e = absurd (never e)
refused_is reply.Halted e = absurd (never e)
refused_is (reply.Taken a b) e = absurd (never e)
refused_is reply.Nothing e = absurd (never e)
refused_is (reply.Crossed a) e = absurd (never e)
refused_is (reply.Refused cause) e = ap reply.Refused (init_is cause e)

initialise_is : (e : Event) → is_initialise e ≡ true → e ≡ event.Initialize
initialise_is event.Initialize t = refl
initialise_is (event.Insert a b c) t = absurd (never t)
initialise_is (event.Remove a) t = absurd (never t)
initialise_is (event.Replace a b c) t = absurd (never t)
initialise_is (event.Send a b c) t = absurd (never t)
initialise_is (event.Indicate a) t = absurd (never t)
initialise_is (event.Lend a) t = absurd (never t)
initialise_is (event.GiveBack a b) t = absurd (never t)
initialise_is (event.Cancel a) t = absurd (never t)
initialise_is (event.Ask a b c d) t = absurd (never t)
initialise_is (event.Status a) t = absurd (never t)
initialise_is event.Transmit t = absurd (never t)
initialise_is event.Pump t = absurd (never t)
initialise_is event.Drain t = absurd (never t)
initialise_is event.BeginPause t = absurd (never t)
initialise_is event.PauseNext t = absurd (never t)
initialise_is event.RestartNext t = absurd (never t)
initialise_is event.Halt t = absurd (never t)
initialise_is event.CrossTake t = absurd (never t)
initialise_is (event.CrossPut a b c d) t = absurd (never t)
initialise_is (event.CrossDone a b) t = absurd (never t)
initialise_is (event.CrossTakeUp a b) t = absurd (never t)
initialise_is (event.CrossPutUp a b c) t = absurd (never t)

-- the first driver of the kind that is asked for balked
record Balked (e : Event) (old new : HeldView) : Type 0 where
  kind : FilterKind
  asked : kind_asked e ≡ Some kind
  balked : HasBalked kind old new

balked : (e : Event) (kinds : List FilterKind) (shelf : Shelf) (place : ℕ) (old new : HeldView) → Balks e (reply.Refused refusal.AttachRefused) old new → is_asked kinds shelf place (kind_asked e) ≡ true → Balked e old new
balked event.Initialize kinds shelf place old new did t = absurd (never t)
balked (event.Insert kind position setup) kinds shelf place old new did t = record { kind = kind; asked = refl; balked = did }
balked (event.Remove a) kinds shelf place old new did t = absurd (never t)
balked (event.Replace f kind setup) kinds shelf place old new did t = record { kind = kind; asked = refl; balked = did }
balked (event.Send a b c) kinds shelf place old new did t = absurd (never t)
balked (event.Indicate a) kinds shelf place old new did t = absurd (never t)
balked (event.Lend a) kinds shelf place old new did t = absurd (never t)
balked (event.GiveBack a b) kinds shelf place old new did t = absurd (never t)
balked (event.Cancel a) kinds shelf place old new did t = absurd (never t)
balked (event.Ask a b c d) kinds shelf place old new did t = absurd (never t)
balked (event.Status a) kinds shelf place old new did t = absurd (never t)
balked event.Transmit kinds shelf place old new did t = absurd (never t)
balked event.Pump kinds shelf place old new did t = absurd (never t)
balked event.Drain kinds shelf place old new did t = absurd (never t)
balked event.BeginPause kinds shelf place old new did t = absurd (never t)
balked event.PauseNext kinds shelf place old new did t = absurd (never t)
balked event.RestartNext kinds shelf place old new did t = absurd (never t)
balked event.Halt kinds shelf place old new did t = absurd (never t)
balked event.CrossTake kinds shelf place old new did t = absurd (never t)
balked (event.CrossPut a b c d) kinds shelf place old new did t = absurd (never t)
balked (event.CrossDone a b) kinds shelf place old new did t = absurd (never t)
balked (event.CrossTakeUp a b) kinds shelf place old new did t = absurd (never t)
balked (event.CrossPutUp a b c) kinds shelf place old new did t = absurd (never t)

place_of_asked : (place : ℕ) (o : Option ℕ) → unwrap_or (option_map (λ p. p == place) o) false ≡ true → o ≡ Some place
place_of_asked place None e = absurd (never e)
place_of_asked place (Some p) e = ap Some (equal p place e)
  where
    equal : (n m : ℕ) → (n == m) ≡ true → n ≡ m
    equal n m t = grind (arith, nat_tests)

same_place : (p place : ℕ) → Some p ≡ Some place → p ≡ place
same_place p place e = cc

left_true : (a b : Bool) → (a && b) ≡ true → a ≡ true
left_true true b e = refl
left_true false b e = absurd (never e)

right_true : (a b : Bool) → (a && b) ≡ true → b ≡ true
right_true true b e = e
right_true false b e = absurd (never e)

-- a count that is risen rose by one, and one that didn't fall by none
one_risen : (a b : ℕ) → IsRisen a b → RoseBy 1 a b
one_risen a b (inl h) = inl (omega (arith, h))
one_risen a b (inr h) = inr (let last = h.0 in let still = h.1 in omega (arith, last, still))

rose_then : (n m a b c : ℕ) → RoseBy n a b → RoseBy m b c → b ≤ c → RoseBy (n + m) a c
rose_then n m a b c (inl h) (inl g) le = inl (omega (arith, h, g))
rose_then n m a b c (inl h) (inr g) le = inr g
rose_then n m a b c (inr h) g le = inr (omega (arith, h, le))

abbrev kinds_of : HeldView → List FilterKind
kinds_of held = map (λ s. s.kind) held.filters

abbrev refused_at : HeldView → ℕ → ℕ
refused_at held place = (filter_at held.filters (Some place)).refusals

-- the shelf after one more turn
shelf_push : (kinds : List FilterKind) (before : List Turn) (t : Turn) (shelf : Shelf) → shelf_in_turns kinds (before ++ t ∷ []) shelf ≡ shelf_in_turns kinds (t ∷ []) (shelf_in_turns kinds before shelf)
shelf_push kinds [] t shelf = refl
shelf_push kinds (b ∷ before) t shelf = shelf_push kinds before t (shelf_in_turns kinds (b ∷ []) shelf)

-- a turn: the filter's driver that was asked counted that it refused
turn_rose : (old mid : BookView) (t : Turn) (place : ℕ) → IsBook old → IsShelved old.tray.net old.tray.turns old.held → AddsThis old mid t
    → RoseBy (cond (has_refused (kinds_of old.held) (shelf_of (kinds_of old.held) old.tray.turns) place t) 1 0) (refused_at old.held place) (refused_at mid.held place)
turn_rose old mid t place k s p = by_test (has_refused (kinds_of old.held) shelf place t) refl
  where
    shelf : Shelf
    shelf = shelf_of (kinds_of old.held) old.tray.turns

    risen : Balked t.event old.held mid.held → is_asked (kinds_of old.held) shelf place (kind_asked t.event) ≡ true → RoseBy 1 (refused_at old.held place) (refused_at mid.held place)
    risen b asked =
        let here : find (is_of_kind b.kind (kinds_of old.held)) shelf.places ≡ Some place =
        place_of_asked place (find (is_of_kind b.kind (kinds_of old.held)) shelf.places) (subst (λ o. is_asked (kinds_of old.held) shelf place o ≡ true) b.asked asked) in
        let within : All (λ q. q < length old.held.filters) old.held.shelf = All-weaker (IsOnShelf old.held) (λ q. q < length old.held.filters) (λ q o. o.is.driver) old.held.shelf k.stands.shelved in
        let first : first_on_shelf b.kind old.held ≡ Some place =
        sym (find_same b.kind old.held.filters old.held.shelf within) ∙ ap (find (is_of_kind b.kind (kinds_of old.held))) s.shelf ∙ here in
        let same : b.balked.place ≡ place = same_place b.balked.place place (sym b.balked.first ∙ first) in
        one_risen (refused_at old.held place) (refused_at mid.held place) (subst (λ q. IsRisen (refused_at old.held q) (refused_at mid.held q)) same b.balked.rose)

    by_test : (b : Bool) → has_refused (kinds_of old.held) shelf place t ≡ b → RoseBy (cond b 1 0) (refused_at old.held place) (refused_at mid.held place)
    by_test false e = let stays = p.adds.did.keeps.filters place in inl (omega (arith, stays))
    by_test true e =
        let asked : is_asked (kinds_of old.held) shelf place (kind_asked t.event) ≡ true = right_true (was_attach_refused t.reply) (is_asked (kinds_of old.held) shelf place (kind_asked t.event)) e in
        let answer : t.reply ≡ reply.Refused refusal.AttachRefused = balked_is t.reply (left_true (was_attach_refused t.reply) (is_asked (kinds_of old.held) shelf place (kind_asked t.event)) e) in
        risen (balked t.event (kinds_of old.held) shelf place old.held mid.held (subst (λ r. Balks t.event r old.held mid.held) answer p.adds.refused) asked) asked

-- and turns, one after the other
record Rises (n old new : ℕ) : Type 0 where
  rose : RoseBy n old new
  stays : old ≤ new

turns_rose : (kinds : List FilterKind) (place : ℕ) (old new : BookView) (ts : List Turn) → Adds old new ts → IsBook old → IsShelved old.tray.net old.tray.turns old.held → kinds_of old.held ≡ kinds
    → Rises (refusals_from kinds (shelf_of kinds old.tray.turns) place ts) (refused_at old.held place) (refused_at new.held place)
turns_rose kinds place old new [] p k s same =
    let still : refused_at old.held place ≡ refused_at new.held place = ap (λ (v : BookView). refused_at v.held place) p in
    record { rose = inl (omega (arith, still)); stays = omega (arith, still) }
turns_rose kinds place old new (t ∷ ts) p k s same =
    let mid : BookView = p.0 in
    let here = subst (λ ks. RoseBy (cond (has_refused ks (shelf_of ks old.tray.turns) place t) 1 0) (refused_at old.held place) (refused_at mid.held place)) same (turn_rose old mid t place k s p.1) in
    let then : shelf_of kinds mid.tray.turns ≡ shelf_in_turns kinds (t ∷ []) (shelf_of kinds old.tray.turns) = ap (shelf_of kinds) (added_turns old mid (t ∷ []) (mid, p.1, refl)) ∙ shelf_push kinds old.tray.turns t (shelf_of kinds []) in
    let later : Rises (refusals_from kinds (shelf_of kinds mid.tray.turns) place ts) (refused_at mid.held place) (refused_at new.held place) =
    turns_rose kinds place mid new ts p.2 p.1.book (p.1.adds.shelved s) (p.1.adds.did.keeps.kinds ∙ same) in
    let stays = p.1.adds.did.keeps.filters place in
    let after = later.stays in
    let rest : RoseBy (refusals_from kinds (shelf_in_turns kinds (t ∷ []) (shelf_of kinds old.tray.turns)) place ts) (refused_at mid.held place) (refused_at new.held place) =
    subst (λ (sh : Shelf). RoseBy (refusals_from kinds sh place ts) (refused_at mid.held place) (refused_at new.held place)) then later.rose in
    record {
      rose = rose_then (cond (has_refused kinds (shelf_of kinds old.tray.turns) place t) 1 0) (refusals_from kinds (shelf_in_turns kinds (t ∷ []) (shelf_of kinds old.tray.turns)) place ts)
          (refused_at old.held place) (refused_at mid.held place) (refused_at new.held place) here rest after;
      stays = omega (arith, stays, after);
    }

-- from no turn on
pub filters_refused : (place : ℕ) (old new : BookView) (turns more : List Turn) → old.tray.turns ≡ [] → turns ≡ more → Adds old new more → IsBook old → IsShelved old.tray.net old.tray.turns old.held
    → RoseBy (refusals_at (kinds_of old.held) turns place) (refused_at old.held place) (refused_at new.held place)
filters_refused place old new turns more none are p k s =
    let all = (turns_rose (kinds_of old.held) place old new more p k s refl).rose in
    subst (λ ts. RoseBy (refusals_at (kinds_of old.held) ts place) (refused_at old.held place) (refused_at new.held place)) (sym are)
    (subst (λ ts. RoseBy (refusals_from (kinds_of old.held) (shelf_of (kinds_of old.held) ts) place more) (refused_at old.held place) (refused_at new.held place)) none all)

-- the miniport: a turn, and turns
init_rose : (old mid : BookView) (t : Turn) → AddsThis old mid t → (b : Bool) → miniport_refused t ≡ b → RoseBy (cond b 1 0) old.held.miniport.refusals mid.held.miniport.refusals
init_rose old mid t p false e = let stays = p.adds.did.keeps.miniport in inl (omega (arith, stays))
init_rose old mid t p true e =
    let what : t.event ≡ event.Initialize = initialise_is t.event (left_true (is_initialise t.event) (was_init_refused t.reply) e) in
    let answer : t.reply ≡ reply.Refused refusal.InitRefused = refused_is t.reply (right_true (is_initialise t.event) (was_init_refused t.reply) e) in
    let balks : Balks event.Initialize (reply.Refused refusal.InitRefused) old.held mid.held =
    subst (λ ev. Balks ev (reply.Refused refusal.InitRefused) old.held mid.held) what (subst (λ r. Balks t.event r old.held mid.held) answer p.adds.refused) in
    one_risen old.held.miniport.refusals mid.held.miniport.refusals balks

inits_rose : (old new : BookView) (ts : List Turn) → Adds old new ts → Rises (count_by miniport_refused ts) old.held.miniport.refusals new.held.miniport.refusals
inits_rose old new [] p =
    let still : old.held.miniport.refusals ≡ new.held.miniport.refusals = ap (λ (v : BookView). v.held.miniport.refusals) p in
    record { rose = inl (omega (arith, still)); stays = omega (arith, still) }
inits_rose old new (t ∷ ts) p =
    let mid : BookView = p.0 in
    let later : Rises (count_by miniport_refused ts) mid.held.miniport.refusals new.held.miniport.refusals = inits_rose mid new ts p.2 in
    let stays = p.1.adds.did.keeps.miniport in
    let after = later.stays in
    record {
      rose = subst (λ n. RoseBy n old.held.miniport.refusals new.held.miniport.refusals) (sym (count_by-cons miniport_refused t ts))
          (rose_then (one_if (miniport_refused t)) (count_by miniport_refused ts) old.held.miniport.refusals mid.held.miniport.refusals new.held.miniport.refusals (init_rose old mid t p.1 (miniport_refused t) refl) later.rose after);
      stays = omega (arith, stays, after);
    }

pub miniport_counted : (old new : BookView) (ts : List Turn) → Adds old new ts → RoseBy (count_by miniport_refused ts) old.held.miniport.refusals new.held.miniport.refusals
miniport_counted old new ts p = (inits_rose old new ts p).rose
