-- A run, call by call.
use Rattle.std.proofs.Common.{◌≡◌, ◌⊎◌, inl, inr, ℕ, ◌≤◌, ◌<◌, ◌+◌, ◌&&◌, Bool, true, false, Bor, List, [], ◌∷◌, ◌++◌, Some, zero, suc, length, map, take, get_or, refl, sym, ap, subst, ◌∙◌, arith}
use Rattle.std.specs.List.{list_all}
use Rattle.std.proofs.lemmas.Bool.{cases_lt}
use Rattle.std.proofs.lemmas.List.{append-nil, append_assoc, take_more, get_or-map, length-map}
use Rattle.ndis_base.specs.declared.Phase.TheVariants as phase
use Rattle.journal_types.specs.declared.Event.{Event}
use Rattle.journal_types.specs.declared.StackHead.{StackHead}
use Rattle.journal_types.specs.declared.Turn.{Turn}
use Rattle.script_types.specs.declared.Call.{Call}
use Rattle.script_types.specs.declared.FilterSetup.{FilterSetup}
use Rattle.script_events.specs.Events.{event_of}
use Rattle.stack_rules.specs.Net.{Net, seen}
use Rattle.promise_rules.specs.declared.Ending.TheVariants as ending
use Rattle.promise_rules.specs.Own.{ending_of}
use Rattle.driver_views.specs.States.{IsRisen}
use Rattle.book_lemmas.specs.Did.{KeepsCounts}
use Rattle.book_lemmas.specs.Stands.{IsShelved}
use Rattle.book_lemmas.specs.Turns.{asked_turn}
use Rattle.book_lemmas.specs.Views.{BookView}
use Rattle.book_lemmas.proofs.Keeps.{keeps_none, keeps_then}
use Rattle.book_parts.proofs.Ended.{idle_state}
use Rattle.book_runs.specs.Adds.{Adds, AddsThis, IsCall, EndsTo, asked_of}
use Rattle.book_runs.specs.Runs.{IsBetween, MakesCall, OpensStack, EndsStack}
use Rattle.book_runs.proofs.Added.{adds_append, as_kind, both, none_added}
use Rattle.book_scripts.specs.Scripts.{Makes, MakesAll, MakesOne, MakesEach, RunsWhole, is_asked_call}

differ : {A : Type 0} → false ≡ true → A
differ e = absurd (cc)

pub both_true : (a b : Bool) → (a && b) ≡ true → (a ≡ true) × (b ≡ true)
both_true true true e = (refl, refl)
both_true true false e = differ e
both_true false b e = differ e

-- the turn that was added is the journal's last
pub turn_is : (t : Turn) (a b : BookView) (x : AddsThis a b t) → asked_turn (asked_of t) t.reply x.adds.rows ≡ t
turn_is t a b x = ap (asked_turn (asked_of t) t.reply) (sym x.rows)

-- the turns that were added are the journal's last, and the head stays
pub added_turns : (old new : BookView) (ts : List Turn) → Adds old new ts → new.tray.turns ≡ old.tray.turns ++ ts
added_turns old new [] p = ap (λ (v : BookView). v.tray.turns) (sym p) ∙ sym (append-nil old.tray.turns)
added_turns old new (t ∷ ts) p =
    added_turns p.0 new ts p.2
    ∙ ap (λ xs. xs ++ ts) (p.1.adds.turns ∙ ap (λ x. old.tray.turns ++ x ∷ []) (turn_is t old p.0 p.1))
    ∙ append_assoc old.tray.turns (t ∷ []) ts

pub added_head : (old new : BookView) (ts : List Turn) → Adds old new ts → new.tray.head ≡ old.tray.head
added_head old new [] p = ap (λ (v : BookView). v.tray.head) (sym p)
added_head old new (t ∷ ts) p = added_head p.0 new ts p.2 ∙ p.1.adds.head

-- no count of refusals fell, and the filters' drivers are of the kinds that they were
pub keeps_all : (old new : BookView) (ts : List Turn) → Adds old new ts → KeepsCounts old.held new.held
keeps_all old new [] p = subst (λ (v : BookView). KeepsCounts old.held v.held) p (keeps_none old.held)
keeps_all old new (t ∷ ts) p = keeps_then old.held p.0.held new.held p.1.adds.did.keeps (keeps_all p.0 new ts p.2)

-- shelf and seats follow the journal
shelved_all : (old new : BookView) (ts : List Turn) → Adds old new ts → IsShelved old.tray.net old.tray.turns old.held → IsShelved new.tray.net new.tray.turns new.held
shelved_all old new [] p was = subst (λ (v : BookView). IsShelved v.tray.net v.tray.turns v.held) p was
shelved_all old new (t ∷ ts) p was = shelved_all p.0 new ts p.2 (p.1.adds.shelved was)

pub run_shelved : (filters : List FilterSetup) (calls : List Call) (a b : BookView) → RunsWhole filters calls a b → IsShelved a.tray.net a.tray.turns a.held → IsShelved b.tray.net b.tray.turns b.held
run_shelved filters calls a b w = shelved_all a b w.added.more w.added.adds

-- a count that rose and didn't fall then has risen
stays_risen : (n m k : ℕ) → IsRisen n m → m ≤ k → IsRisen n k
stays_risen n m k (inl rose) most = inl (omega (arith, rose, most))
stays_risen n m k (inr last) most = by_case (cases_lt n k)
  where
    by_case : (n < k) ⊎ (k ≤ n) → IsRisen n k
    by_case (inl more) = inl more
    by_case (inr less) = inr (last.0, omega (arith, last.1, most, less))

-- a call was made
pub makes : (c : Call) (e : Event) (x y : BookView) → Some e ≡ event_of c.kind → MakesCall c.lane e c.pump x y → MakesOne c x y
makes c e x y is m = record {
  between = m.between;
  head_is = added_head x y m.added.more m.added.adds;
  added = as_kind (IsCall c.lane e c.pump) (Makes c) (λ xs p. record { event = e; asked = sym is; is = p }) m.added;
}

-- calls and one more
makes_last : (cs : List Call) (c : Call) (xs ys : List Turn) → MakesAll cs xs → Makes c ys → MakesAll (cs ++ c ∷ []) (xs ++ ys)
makes_last [] c xs ys m n = subst (λ (ts : List Turn). MakesAll (c ∷ []) (ts ++ ys)) (sym m) (ys, [], sym (append-nil ys), n, refl)
makes_last (d ∷ cs) c xs ys m n = (m.0, m.1 ++ ys, ap (λ (ts : List Turn). ts ++ ys) m.2 ∙ append_assoc m.0 m.1 ys, m.3, makes_last cs c m.1 ys m.4 n)

pub made_none : (calls : List Call) (x : BookView) → IsBetween x → MakesEach (take 0 calls) x x
made_none calls x k = record { between = k; head_is = refl; added = none_added (MakesAll []) x refl }

pub made_more : (calls : List Call) (k : ℕ) (c : Call) (x y z : BookView) → k < length calls → c ≡ get_or calls k c → MakesEach (take k calls) x y → MakesOne c y z → MakesEach (take (k + 1) calls) x z
made_more calls k c x y z less is p q =
    subst (λ (cs : List Call). MakesEach cs x z) (ap (λ (d : Call). take k calls ++ d ∷ []) is ∙ sym (take_more calls k c less))
    (record {
      between = q.between;
      head_is = q.head_is ∙ p.head_is;
      added = both (MakesAll (take k calls)) (Makes c) (MakesAll (take k calls ++ c ∷ [])) (λ xs ys m n. makes_last (take k calls) c xs ys m n) p.added q.added;
    })

-- each of these calls can be asked
pub asked_at : (p : Call → Bool) (calls : List Call) (k : ℕ) (d : Call) → list_all p calls ≡ true → k < length calls → p (get_or calls k d) ≡ true
asked_at p [] k d all less = absurd (omega (arith, less))
asked_at p (c ∷ calls) zero d all less = (both_true (p c) (list_all p calls) all).0
asked_at p (c ∷ calls) (suc k) d all less = asked_at p calls k d (both_true (p c) (list_all p calls) all).1 (omega (arith, less))

-- the same of calls that are borrowed
now_at : (calls : List (Bor Call)) (k : ℕ) (call : Bor Call) → k < length calls → call ≡ get_or calls k call → call.now ≡ get_or (map (λ (c : Bor Call). c.now) calls) k call.now
now_at calls k call less is = ap (λ (c : Bor Call). c.now) is ∙ sym (get_or-map (λ (c : Bor Call). c.now) calls k call call.now less)

pub asked_next : (h h' : StackHead) (calls : List (Bor Call)) (k : ℕ) (call : Bor Call) → h' ≡ h → k < length calls → call ≡ get_or calls k call → list_all (is_asked_call h) (map (λ (c : Bor Call). c.now) calls) ≡ true → is_asked_call h' call.now ≡ true
asked_next h h' calls k call same less is all =
    let there : k < length (map (λ (c : Bor Call). c.now) calls) = subst (λ (n : ℕ). k < n) (sym (length-map calls (λ (c : Bor Call). c.now))) less in
    ap (λ (x : StackHead). is_asked_call x call.now) same
    ∙ ap (is_asked_call h) (now_at calls k call less is)
    ∙ asked_at (is_asked_call h) (map (λ (c : Bor Call). c.now) calls) k call.now all there

pub made_next : (calls : List (Bor Call)) (k : ℕ) (call : Bor Call) (x y z : BookView) → k < length calls → call ≡ get_or calls k call → MakesEach (take k (map (λ (c : Bor Call). c.now) calls)) x y → MakesOne call.now y z
    → MakesEach (take (k + 1) (map (λ (c : Bor Call). c.now) calls)) x z
made_next calls k call x y z less is p q =
    let there : k < length (map (λ (c : Bor Call). c.now) calls) = subst (λ (n : ℕ). k < n) (sym (length-map calls (λ (c : Bor Call). c.now))) less in
    made_more (map (λ (c : Bor Call). c.now) calls) k call.now x y z there (now_at calls k call less is) p q

-- the calls can be asked of the opened stack too
pub asked_opened : (s : List Call) (filters : List FilterSetup) (x y : BookView) → OpensStack filters x y → list_all (is_asked_call x.tray.head) s ≡ true → list_all (is_asked_call y.tray.head) s ≡ true
asked_opened s filters x y o h = ap (λ (head : StackHead). list_all (is_asked_call head) s) (added_head x y o.added.more o.added.adds) ∙ h

-- an opening, the calls and an ending are a run
pub runs_whole : (filters : List FilterSetup) (calls : List Call) (a b c d : BookView) → OpensStack filters a b → MakesEach calls b c → EndsStack c d → RunsWhole filters calls a d
runs_whole filters calls a b c d o m e =
    let front : Adds a c (o.added.more ++ m.added.more) = adds_append a b c o.added.more m.added.more o.added.adds m.added.adds in
    let all : Adds a d ((o.added.more ++ m.added.more) ++ e.added.more) = adds_append a c d (o.added.more ++ m.added.more) e.added.more front e.added.adds in
    let at : c.tray.net ≡ seen a.tray.head (a.tray.turns ++ (o.added.more ++ m.added.more)) =
    idle_state c m.between.book m.between.idle
    ∙ ap (λ (h : StackHead). seen h c.tray.turns) (added_head a c (o.added.more ++ m.added.more) front)
    ∙ ap (seen a.tray.head) (added_turns a c (o.added.more ++ m.added.more) front) in
    let kept : KeepsCounts b.held d.held = keeps_then b.held c.held d.held (keeps_all b c m.added.more m.added.adds) (keeps_all c d e.added.more e.added.adds) in
    let ends : EndsTo (ending_of (seen a.tray.head (a.tray.turns ++ (o.added.more ++ m.added.more))).phase) ending.Ended e.added.more =
    subst (λ (n : Net). EndsTo (ending_of n.phase) ending.Ended e.added.more) at e.added.kind in
    record {
      now = e.now;
      head_is = added_head a d ((o.added.more ++ m.added.more) ++ e.added.more) all;
      added = record {
        more = (o.added.more ++ m.added.more) ++ e.added.more;
        adds = all;
        kind = record {
          opening = o.added.more;
          middle = m.added.more;
          last = e.added.more;
          left = o.left;
          split = append_assoc o.added.more m.added.more e.added.more;
          opens = o.added.kind;
          made = m.added.kind;
          ends = ends;
        };
      };
      turns = added_turns a d ((o.added.more ++ m.added.more) ++ e.added.more) all;
      ran = still_ran kept o.ran;
    }
  where
    opened : b.tray.net ≡ seen a.tray.head (a.tray.turns ++ o.added.more)
    opened =
        idle_state b o.between.book o.between.idle
        ∙ ap (λ (h : StackHead). seen h b.tray.turns) (added_head a b o.added.more o.added.adds)
        ∙ ap (seen a.tray.head) (added_turns a b o.added.more o.added.adds)

    still_ran : KeepsCounts b.held d.held
        → (b.tray.net.phase ≡ phase.Running) ⊎ ((b.tray.net.phase ≡ phase.Halted) × IsRisen a.held.miniport.refusals b.held.miniport.refusals)
        → ((seen a.tray.head (a.tray.turns ++ o.added.more)).phase ≡ phase.Running) ⊎ IsRisen a.held.miniport.refusals d.held.miniport.refusals
    still_ran kept (inl runs) = inl (ap (λ (n : Net). n.phase) (sym opened) ∙ runs)
    still_ran kept (inr refused) = inr (stays_risen a.held.miniport.refusals b.held.miniport.refusals d.held.miniport.refusals refused.1 kept.miniport)
