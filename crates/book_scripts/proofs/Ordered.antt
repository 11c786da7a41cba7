-- A run in an order of lanes follows each lane's calls, and its calls stand in that order.
use Rattle.std.proofs.Common.{ℕ, ◌≡◌, ◌≢◌, ◌==◌, Bool, true, false, All, Bor, List, [], ◌∷◌, ◌++◌, map, Some, None, if◌then◌else◌, refl, ap, sym, subst, ◌∙◌, inl, inr, arith, eq-eqb}
use Rattle.std.proofs.lemmas.Bool.Decides.{nat_tests}
use Rattle.std.specs.List.{list_all}
use Rattle.std.proofs.lemmas.List.{append-nil}
use Rattle.std.proofs.lemmas.List.Elements.{All-cons, All-nil}
use Rattle.ndis_base.specs.declared.LaneNo.{LaneNo}
use Rattle.ndis_base.specs.declared.Who.TheVariants as who
use Rattle.journal_types.specs.declared.StackHead.{StackHead}
use Rattle.journal_types.specs.declared.Turn.{Turn}
use Rattle.script_types.specs.declared.Call.{Call}
use Rattle.script_types.specs.declared.FilterSetup.{FilterSetup}
use Rattle.script_types.specs.declared.StackSetup.{StackSetup}
use Rattle.script_events.specs.Events.{event_of}
use Rattle.lane_orders.specs.Orders.{calls_of, is_below, ordered}
use Rattle.lane_orders.proofs.Kept.{lane_kept, all_kept}
use Rattle.promise_rules.specs.declared.Tail.{Tail}
use Rattle.promise_rules.specs.declared.Tail.TheVariants as tails
use Rattle.promise_rules.specs.Followed.{is_of_lane, next_turn, Follows, done, other, called, helped, IsFollowed, IsOpenedAndEnded}
use Rattle.book_lemmas.specs.Views.{BookView}
use Rattle.book_runs.specs.Runs.{OpensStack, EndsStack}
use Rattle.book_scripts.specs.Orders.{IsCallAlone, StandTogether, CallsInOrder}
use Rattle.book_scripts.specs.Scripts.{Makes, MakesAll, MakesEach, RunsWhole, is_asked_call, is_asked_event}
use Rattle.book_scripts.proofs.Whole.{both_true, asked_opened, runs_whole}
use Rattle.book_scripts.proofs.Followed.{AllBy, IsBy, by_call, of_lane, same_lane, zero_stack, follows_call, followed, opened_and_ended, middle_is}

differ : {A : Type 0} → true ≡ false → A
differ e = absurd (cc)

is_same : (a l : ℕ) → (a == l) ≡ true → a ≡ l
is_same a l e = grind (arith, nat_tests, e)

not_its : (a l : ℕ) → (a == l) ≡ false → a ≢ l
not_its a l e is = differ (sym (eq-eqb a l is) ∙ e)

-- a lane's calls of a list that begins with a call of its own, or of another lane
own_first : (lane : ℕ) (c : Call) (cs : List Call) → (c.lane.0 == lane) ≡ true → calls_of lane (c ∷ cs) ≡ c ∷ calls_of lane cs
own_first lane c cs e = ap (λ (b : Bool). if b then c ∷ calls_of lane cs else calls_of lane cs) e

other_first : (lane : ℕ) (c : Call) (cs : List Call) → (c.lane.0 == lane) ≡ false → calls_of lane (c ∷ cs) ≡ calls_of lane cs
other_first lane c cs e = ap (λ (b : Bool). if b then c ∷ calls_of lane cs else calls_of lane cs) e

differs : (a l : ℕ) → a ≢ l → (a == l) ≡ false
differs a l ne = by_test (a == l) refl
  where
    by_test : (b : Bool) → (a == l) ≡ b → (a == l) ≡ false
    by_test false e = e
    by_test true e = absurd (ne (is_same a l e))

-- what follows calls follows the lane's own among them
lane_follows : (stacks : List StackSetup) (lane : LaneNo) {calls : List Call} {tail : Tail} {rests : List (List Turn)} → Follows stacks lane calls tail rests → Follows stacks lane (calls_of lane.0 calls) tail rests
lane_follows stacks lane (done rests none) = done rests none
lane_follows stacks lane (other c cs rests ne f) =
    subst (λ (xs : List Call). Follows stacks lane xs tails.Ended rests) (sym (other_first lane.0 c cs (differs c.lane.0 lane.0 ne))) (lane_follows stacks lane f)
lane_follows stacks lane (called c cs rests turn at by what its f) =
    subst (λ (xs : List Call). Follows stacks lane xs tails.Ended rests) (sym (own_first lane.0 c cs (eq-eqb c.lane.0 lane.0 (ap (λ (l : LaneNo). l.0) its))))
    (called c (calls_of lane.0 cs) rests turn at by what its (lane_follows stacks lane f))
lane_follows stacks lane (helped cs tail rests s turn at_stack at by what f) = helped (calls_of lane.0 cs) tail rests s turn at_stack at by what (lane_follows stacks lane f)

-- calls of other lanes may stand between
skips_all : (stacks : List StackSetup) (lane : LaneNo) (calls : List Call) (rests : List (List Turn)) → calls_of lane.0 calls ≡ [] → Follows stacks lane [] tails.Ended rests → Follows stacks lane calls tails.Ended rests
skips_all stacks lane [] rests none f = f
skips_all stacks lane (c ∷ cs) rests none f = by_test (c.lane.0 == lane.0) refl (λ left. skips_all stacks lane cs rests left f)
  where
    by_test : (b : Bool) → (c.lane.0 == lane.0) ≡ b → (calls_of lane.0 cs ≡ [] → Follows stacks lane cs tails.Ended rests) → Follows stacks lane (c ∷ cs) tails.Ended rests
    by_test true e later = absurd (nothing (sym (own_first lane.0 c cs e) ∙ none))
      where
        nothing : c ∷ calls_of lane.0 cs ≡ [] → ⊥
        nothing is = cc
    by_test false e later = other c cs rests (not_its c.lane.0 lane.0 e) (later (sym (other_first lane.0 c cs e) ∙ none))

head_is : (x y : Call) (xs ys : List Call) → x ∷ xs ≡ y ∷ ys → x ≡ y
head_is x y xs ys e = cc

tail_is : (x y : Call) (xs ys : List Call) → x ∷ xs ≡ y ∷ ys → xs ≡ ys
tail_is x y xs ys e = cc

skips_to : (stacks : List StackSetup) (lane : LaneNo) (calls : List Call) (d : Call) (ds : List Call) (rests : List (List Turn)) → calls_of lane.0 calls ≡ d ∷ ds
    → ((cs : List Call) → calls_of lane.0 cs ≡ ds → Follows stacks lane (d ∷ cs) tails.Ended rests) → Follows stacks lane calls tails.Ended rests
skips_to stacks lane [] d ds rests is f = absurd (nothing is)
  where
    nothing : [] ≡ d ∷ ds → ⊥
    nothing e = cc
skips_to stacks lane (c ∷ cs) d ds rests is f = by_test (c.lane.0 == lane.0) refl (λ left. skips_to stacks lane cs d ds rests left f)
  where
    by_test : (b : Bool) → (c.lane.0 == lane.0) ≡ b → (calls_of lane.0 cs ≡ d ∷ ds → Follows stacks lane cs tails.Ended rests) → Follows stacks lane (c ∷ cs) tails.Ended rests
    by_test true e later =
        let both : c ∷ calls_of lane.0 cs ≡ d ∷ ds = sym (own_first lane.0 c cs e) ∙ is in
        subst (λ (x : Call). Follows stacks lane (x ∷ cs) tails.Ended rests) (sym (head_is c d (calls_of lane.0 cs) ds both)) (f cs (tail_is c d (calls_of lane.0 cs) ds both))
    by_test false e later = other c cs rests (not_its c.lane.0 lane.0 e) (later (sym (other_first lane.0 c cs e) ∙ is))

of_its_lane : (lane : ℕ) (calls : List Call) (d : Call) (ds : List Call) → calls_of lane calls ≡ d ∷ ds → d.lane.0 ≡ lane
of_its_lane lane [] d ds is = absurd (nothing is)
  where
    nothing : [] ≡ d ∷ ds → ⊥
    nothing e = cc
of_its_lane lane (c ∷ cs) d ds is = by_test (c.lane.0 == lane) refl (λ left. of_its_lane lane cs d ds left)
  where
    by_test : (b : Bool) → (c.lane.0 == lane) ≡ b → (calls_of lane cs ≡ d ∷ ds → d.lane.0 ≡ lane) → d.lane.0 ≡ lane
    by_test true e later = ap (λ (x : Call). x.lane.0) (sym (head_is c d (calls_of lane cs) ds (sym (own_first lane c cs e) ∙ is))) ∙ same
      where
        same : c.lane.0 ≡ lane
        same = is_same c.lane.0 lane e
    by_test false e later = later (sym (other_first lane c cs e) ∙ is)

-- what follows a lane's own calls follows all calls
all_follow : (stacks : List StackSetup) (lane : LaneNo) {own : List Call} {tail : Tail} {rests : List (List Turn)} → Follows stacks lane own tail rests → (calls : List Call) → calls_of lane.0 calls ≡ own → Follows stacks lane calls tail rests
all_follow stacks lane (done rests none) calls is = skips_all stacks lane calls rests is (done rests none)
all_follow stacks lane (other d ds rests ne f) calls is = absurd (ne (of_its_lane lane.0 calls d ds is))
all_follow stacks lane (called d ds rests turn at by what its f) calls is = skips_to stacks lane calls d ds rests is (λ cs left. called d cs rests turn at by what its (all_follow stacks lane f cs left))
all_follow stacks lane (helped own tail rests s turn at_stack at by what f) calls is = helped calls tail rests s turn at_stack at by what (all_follow stacks lane f calls is)

-- lists with the same calls of a lane are followed alike
same_followed : (stacks : List StackSetup) (lane : LaneNo) (xs ys : List Call) (rests : List (List Turn)) → calls_of lane.0 xs ≡ calls_of lane.0 ys → IsFollowed stacks lane xs rests → IsFollowed stacks lane ys rests
same_followed stacks lane xs ys rests same f = all_follow stacks lane (lane_follows stacks lane f) ys (sym same)

pub followed_in_order : (stacks : List StackSetup) (filters : List FilterSetup) (lanes : ℕ) (order : List ℕ) (calls : List Call) (a b : BookView) (lane : LaneNo) → list_all (is_asked_call a.tray.head) calls ≡ true → list_all (is_below lanes) calls ≡ true → a.tray.turns ≡ []
    → RunsWhole filters (ordered lanes order calls) a b → IsFollowed stacks lane calls (b.tray.turns ∷ [])
followed_in_order stacks filters lanes order calls a b lane asked below none w =
    same_followed stacks lane (ordered lanes order calls) calls (b.tray.turns ∷ []) (lane_kept lane.0 lanes order calls below)
    (followed stacks filters (ordered lanes order calls) a b lane (all_kept (is_asked_call a.tray.head) lanes order calls asked) none w)

-- the calls in order can be asked of the opened stack too
pub asked_in_order : (lanes : ℕ) (order : List ℕ) (calls made : List Call) (filters : List FilterSetup) (x y : BookView) → OpensStack filters x y → list_all (is_asked_call x.tray.head) calls ≡ true → made ≡ ordered lanes order calls → list_all (is_asked_call y.tray.head) made ≡ true
asked_in_order lanes order calls made filters x y o asked is =
    ap (list_all (is_asked_call y.tray.head)) is
    ∙ all_kept (is_asked_call y.tray.head) lanes order calls (asked_opened calls filters x y o asked)

-- the turns of a call stand alone
all_its : (lane : LaneNo) (xs : List Turn) → AllBy lane xs → All (λ t. is_of_lane lane.0 t.who ≡ true) xs
all_its lane [] p = All-nil (λ t. is_of_lane lane.0 t.who ≡ true)
all_its lane (x ∷ xs) p = All-cons (λ t. is_of_lane lane.0 t.who ≡ true) x xs (of_lane lane lane.0 x p.0 ∙ eq-eqb lane.0 lane.0 refl) (all_its lane xs p.1)

stands_alone : (stacks : List StackSetup) (head : StackHead) (c : Call) (first : List Turn) → is_asked_call head c ≡ true → Makes c first → IsCallAlone stacks c first
stands_alone stacks head c first asked m =
    let parts : ((c.stack == 0) ≡ true) × (is_asked_event head (event_of c.kind) ≡ true) = both_true (c.stack == 0) (is_asked_event head (event_of c.kind)) asked in
    let over : Follows stacks c.lane [] tails.Ended ([] ∷ []) = done ([] ∷ []) (All-cons (λ ts. next_turn c.lane.0 ts ≡ None) [] [] refl (All-nil (λ ts. next_turn c.lane.0 ts ≡ None))) in
    record {
      followed = subst (λ (ts : List Turn). Follows stacks c.lane (c ∷ []) tails.Ended (ts ∷ [])) (append-nil first)
          (follows_call stacks head c.lane c [] [] first [] (zero_stack c.stack parts.0) parts.1 refl tt m over);
      alone = all_its c.lane first (by_call c.lane m.event c.pump first m.is);
    }

stand_together : (stacks : List StackSetup) (head : StackHead) (calls : List Call) (turns : List Turn) → list_all (is_asked_call head) calls ≡ true → MakesAll calls turns → StandTogether stacks calls turns
stand_together stacks head [] turns asked m = m
stand_together stacks head (c ∷ cs) turns asked m =
    let parts : (is_asked_call head c ≡ true) × (list_all (is_asked_call head) cs ≡ true) = both_true (is_asked_call head c) (list_all (is_asked_call head) cs) asked in
    (m.0, m.1, m.2, stands_alone stacks head c m.0 parts.0 m.3, stand_together stacks head cs m.1 parts.1 m.4)

-- an opening, the calls in their order and an ending are a run
pub runs_in_order : (filters : List FilterSetup) (lanes : ℕ) (order : List ℕ) (calls made : List Call) (a b c d : BookView) → made ≡ ordered lanes order calls → OpensStack filters a b → MakesEach made b c → EndsStack c d → RunsWhole filters (ordered lanes order calls) a d
runs_in_order filters lanes order calls made a b c d is o m e = runs_whole filters (ordered lanes order calls) a b c d o (subst (λ (cs : List Call). MakesEach cs b c) is m) e

-- the calls of a run stand in their order
pub calls_in_order : (stacks : List StackSetup) (filters : List FilterSetup) (lanes : ℕ) (order : List ℕ) (calls : List Call) (a b : BookView) → list_all (is_asked_call a.tray.head) calls ≡ true → a.tray.turns ≡ []
    → RunsWhole filters (ordered lanes order calls) a b → CallsInOrder stacks a.tray.head filters (ordered lanes order calls) b.tray.turns
calls_in_order stacks filters lanes order calls a b asked none w = record {
  ended = opened_and_ended filters (ordered lanes order calls) a b none w;
  together = subst (StandTogether stacks (ordered lanes order calls)) (sym (middle_is filters (ordered lanes order calls) a b none w))
      (stand_together stacks a.tray.head (ordered lanes order calls) w.added.kind.middle (all_kept (is_asked_call a.tray.head) lanes order calls asked) w.added.kind.made);
}

-- the same, from the slice of the calls in order
pub slice_in_order : (xs ys : List (Bor Call)) (zs : List Call) → xs ≡ ys → map (λ (c : Bor Call). c.now) ys ≡ zs → map (λ (c : Bor Call). c.now) xs ≡ zs
slice_in_order xs ys zs same is = ap (map (λ (c : Bor Call). c.now)) same ∙ is
