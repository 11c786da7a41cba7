-- The turns of a run, one after the other.
use Rattle.std.proofs.Common.{◌≡◌, ◌≢◌, ℕ, Bool, true, false, List, [], ◌∷◌, ◌++◌, Option, Some, refl, ap, sym, subst, ◌∙◌}
use Rattle.ndis_base.specs.declared.LaneNo.{LaneNo}
use Rattle.ndis_base.specs.declared.Who.{Who}
use Rattle.ndis_base.specs.declared.Who.TheVariants as who
use Rattle.journal_types.specs.declared.Event.{Event}
use Rattle.journal_types.specs.declared.Event.TheVariants as event
use Rattle.journal_types.specs.declared.Reply.{Reply}
use Rattle.journal_types.specs.declared.Reply.TheVariants as reply
use Rattle.journal_types.specs.declared.Turn.{Turn}
use Rattle.script_types.specs.declared.FilterSetup.{FilterSetup}
use Rattle.flat_journal.specs.declared.types.FlatReply.{FlatReply}
use Rattle.flat_journal.specs.Payloads.{Payloads}
use Rattle.flat_journal.specs.Shown.{reply_of}
use Rattle.promise_rules.specs.declared.Opening.{Opening}
use Rattle.promise_rules.specs.declared.Ending.{Ending}
use Rattle.promise_rules.specs.declared.Tail.{Tail}
use Rattle.promise_rules.specs.Own.{opening_event, opening_after, filters_after, ending_event, ending_after}
use Rattle.promise_rules.specs.Tails.{pumping_if}
use Rattle.book_lemmas.specs.Views.{BookView}
use Rattle.book_runs.specs.Adds.{Adds, AddsTurns, Told, IsOne, AreEach, AreUntil, IsPauseStep, ArePauseSteps, ArePauses, ArePausing, TurnsLead, IsTail, IsCall, OpensTo, EndsTo, opening_asks, opening_goes, tail_of_call}
use Rattle.book_runs.specs.Runs.{Turned, IsAnswer}

pub adds_append : (a b c : BookView) (xs ys : List Turn) → Adds a b xs → Adds b c ys → Adds a c (xs ++ ys)
adds_append a b c [] ys p q = subst (λ (v : BookView). Adds v c ys) (sym p) q
adds_append a b c (x ∷ xs) ys p q = (p.0, p.1, adds_append p.0 b c xs ys p.2 q)

-- a turn that was added is one turn
pub one_of : {old new : BookView} {w : Who} {e : Event} {r : Reply} → Turned old new w e r → AddsTurns (IsOne w e r) old new
one_of {old} {new} t = record { more = t.turn ∷ []; adds = (new, t.adds, refl); kind = record { turn = t.turn; only = refl; told = t.told } }

-- turns of one kind and then of another
pub both : (P Q R : List Turn → Type 0) {a b c : BookView} → ((xs ys : List Turn) → P xs → Q ys → R (xs ++ ys)) → AddsTurns P a b → AddsTurns Q b c → AddsTurns R a c
both P Q R {a} {b} {c} join p q = record { more = p.more ++ q.more; adds = adds_append a b c p.more q.more p.adds q.adds; kind = join p.more q.more p.kind q.kind }

pub as_kind : (P Q : List Turn → Type 0) {a b : BookView} → ((xs : List Turn) → P xs → Q xs) → AddsTurns P a b → AddsTurns Q a b
as_kind P Q of p = record { more = p.more; adds = p.adds; kind = of p.more p.kind }

pub none_added : (P : List Turn → Type 0) (a : BookView) → P [] → AddsTurns P a a
none_added P a p = record { more = []; adds = refl; kind = p }

-- what a test of an answer finds
pub found_yes : (expected : Reply) (answer : FlatReply) (found : Bool) (p : Payloads) → IsAnswer expected answer found → reply_of p answer ≡ expected → found ≡ true
found_yes expected answer true p a is = refl
found_yes expected answer false p a is = absurd (a.no refl p is)

pub found_no : (expected : Reply) (answer : FlatReply) (found : Bool) (p : Payloads) → IsAnswer expected answer found → reply_of p answer ≢ expected → found ≡ false
found_no expected answer true p a other = absurd (other (a.yes refl p))
found_no expected answer false p a other = refl

-- one turn more that is answered so
each_then : (w : Who) (e : Event) (r : Reply) (xs ys : List Turn) → AreEach w e r xs → IsOne w e r ys → AreEach w e r (xs ++ ys)
each_then w e r [] ys m o = subst (AreEach w e r) (sym o.only) (o.told, tt)
each_then w e r (x ∷ xs) ys m o = (m.0, each_then w e r xs ys m.1 o)

pub one_more : {a b c : BookView} (w : Who) (e : Event) (answer : Bool → Reply) (found again : Bool) → found ≡ again → AddsTurns (AreEach w e (answer again)) a b → AddsTurns (IsOne w e (answer found)) b c → AddsTurns (AreEach w e (answer again)) a c
one_more {a} {b} {c} w e answer found again is m o =
    both (AreEach w e (answer again)) (IsOne w e (answer again)) (AreEach w e (answer again)) (each_then w e (answer again)) m (subst (λ x. AddsTurns (IsOne w e (answer x)) b c) is o)

-- the turn that is answered otherwise ends them
pub one_last : {a b c : BookView} (w : Who) (e : Event) (answer : Bool → Reply) (found again at_last : Bool) → found ≡ at_last → AddsTurns (AreEach w e (answer again)) a b → AddsTurns (IsOne w e (answer found)) b c → AddsTurns (AreUntil w e (answer again) (answer at_last)) a c
one_last {a} {b} {c} w e answer found again at_last is m o =
    both (AreEach w e (answer again)) (IsOne w e (answer at_last)) (AreUntil w e (answer again) (answer at_last))
    (λ xs ys each one. record { before = xs; last = one.turn; all = ap (λ (ts : List Turn). xs ++ ts) one.only; each = each; over = one.told })
    m (subst (λ x. AddsTurns (IsOne w e (answer x)) b c) is o)

-- steps of a pause, and then others
steps_join : (w : Who) (xs : List Turn) (drains : Bool) (ys : List Turn) → ArePauseSteps w drains xs → ArePauseSteps w false ys → ArePauseSteps w drains (xs ++ ys)
steps_join w [] true ys p q = absurd p
steps_join w [] false ys p q = q
steps_join w (x ∷ xs) true ys p q = (p.0, steps_join w xs false ys p.1 q)
steps_join w (x ∷ xs) false ys p q = (p.0, p.1, steps_join w xs p.0 ys p.2 q)

pub steps_then : {a b c : BookView} (w : Who) (done x : Bool) → done ≡ x → x ≡ false → AddsTurns (ArePauseSteps w false) a b → AddsTurns (ArePausing w done) b c → AddsTurns (ArePauseSteps w false) a c
steps_then {a} {b} {c} w done x is goes p q =
    both (ArePauseSteps w false) (ArePauseSteps w false) (ArePauseSteps w false) (λ xs ys. steps_join w xs false ys) p
    (subst (λ y. AddsTurns (ArePausing w y) b c) (is ∙ goes) q)

pub steps_end : {a b c : BookView} (w : Who) (done : Bool) → done ≡ true → AddsTurns (ArePauseSteps w false) a b → AddsTurns (ArePausing w done) b c → AddsTurns (ArePauses w) a c
steps_end {a} {b} {c} w done is p q =
    both (ArePauseSteps w false) (IsOne w event.PauseNext reply.Paused) (ArePauses w)
    (λ xs ys steps one. record { before = xs; last = one.turn; all = ap (λ (ts : List Turn). xs ++ ts) one.only; steps = steps; over = one.told })
    p (subst (λ y. AddsTurns (ArePausing w y) b c) is q)

-- a call and its tail
call_then : (lane : LaneNo) (e : Event) (r : Reply) (pump : Bool) (tail : Tail) (xs ys : List Turn) → tail ≡ pumping_if pump (tail_of_call e r) → IsOne (who.Call lane) e r xs → IsTail lane tail ys → IsCall lane e pump (xs ++ ys)
call_then lane e r pump tail xs ys is o p = record {
  call = o.turn;
  tail = ys;
  all = ap (λ (ts : List Turn). ts ++ ys) o.only;
  by = o.told.by;
  what = o.told.what;
  follows = subst (λ q. IsTail lane (pumping_if pump (tail_of_call e q)) ys) (sym o.told.told) (subst (λ t. IsTail lane t ys) is p);
}

pub call_and_tail : {old mid new : BookView} (lane : LaneNo) (e : Event) (r : Reply) (pump : Bool) (tail : Tail) → tail ≡ pumping_if pump (tail_of_call e r) → AddsTurns (IsOne (who.Call lane) e r) old mid → AddsTurns (IsTail lane tail) mid new → AddsTurns (IsCall lane e pump) old new
call_and_tail lane e r pump tail is a p = both (IsOne (who.Call lane) e r) (IsTail lane tail) (IsCall lane e pump) (λ xs ys o q. call_then lane e r pump tail xs ys is o q) a p

-- the state in which a pause goes on, or is drained
abbrev pub pause_at : {S : Type 0} → S → S → Bool → S
pause_at a d true = d
pause_at a d false = a

-- turns that lead from state to state
module _ {S : Type 0} (w : Who) (asks : S → Option Event) (goes : S → Reply → S) where
  leads_join : (a b c : S) (xs ys : List Turn) → TurnsLead w asks goes a b xs → TurnsLead w asks goes b c ys → TurnsLead w asks goes a c (xs ++ ys)
  leads_join a b c [] ys p q = subst (λ s. TurnsLead w asks goes s c ys) (sym p) q
  leads_join a b c (x ∷ xs) ys p q = (p.0, p.1, leads_join (goes a x.reply) b c xs ys p.2 q)

  -- one turn
  lead_step : (a b : S) (e : Event) (r : Reply) (xs : List Turn) → asks a ≡ Some e → goes a r ≡ b → IsOne w e r xs → TurnsLead w asks goes a b xs
  lead_step a b e r xs asked on o = subst (TurnsLead w asks goes a b) (sym o.only) (o.told.by, asked ∙ ap Some (sym o.told.what), ap (goes a) o.told.told ∙ on)

  -- a turn before others
  lead_on : (a b c : S) (e : Event) (r : Reply) (x : Turn) (xs : List Turn) → asks a ≡ Some e → goes a r ≡ b → Told w e r x → TurnsLead w asks goes b c xs → TurnsLead w asks goes a c (x ∷ xs)
  lead_on a b c e r x xs asked on t p = (t.by, asked ∙ ap Some (sym t.what), subst (λ s. TurnsLead w asks goes s c xs) (sym (ap (goes a) t.told ∙ on)) p)

  -- turns that are each answered so
  each_leads : (a : S) (e : Event) (r : Reply) (xs : List Turn) → asks a ≡ Some e → goes a r ≡ a → AreEach w e r xs → TurnsLead w asks goes a a xs
  each_leads a e r [] asked stays m = refl
  each_leads a e r (x ∷ xs) asked stays m = lead_on a a a e r x xs asked stays m.0 (each_leads a e r xs asked stays m.1)

  until_leads : (a b : S) (e : Event) (again at_last : Reply) (xs : List Turn) → asks a ≡ Some e → goes a again ≡ a → goes a at_last ≡ b → AreUntil w e again at_last xs → TurnsLead w asks goes a b xs
  until_leads a b e again at_last xs asked stays on p =
      subst (TurnsLead w asks goes a b) (sym p.all) (leads_join a a b p.before (p.last ∷ []) (each_leads a e again p.before asked stays p.each)
      (lead_on a b b e at_last p.last [] asked on p.over refl))

  pause_step : (a d c : S) (waits : Bool) (x : Turn) (xs : List Turn) → asks a ≡ Some event.PauseNext → goes a reply.Next ≡ a → ((lists : ℕ) → goes a (reply.Waiting lists) ≡ d)
      → IsPauseStep w waits x → TurnsLead w asks goes (pause_at a d waits) c xs → TurnsLead w asks goes a c (x ∷ xs)
  pause_step a d c true x xs asked stays waiting t p = lead_on a d c event.PauseNext (reply.Waiting t.0) x xs asked (waiting t.0) t.1 p
  pause_step a d c false x xs asked stays waiting t p = lead_on a a c event.PauseNext reply.Next x xs asked stays t p

  steps_lead : (a d : S) (xs : List Turn) (drains : Bool) → asks a ≡ Some event.PauseNext → asks d ≡ Some event.Drain → goes a reply.Next ≡ a → ((lists : ℕ) → goes a (reply.Waiting lists) ≡ d) → goes d reply.Moved ≡ a
      → ArePauseSteps w drains xs → TurnsLead w asks goes (pause_at a d drains) a xs
  steps_lead a d [] true asked drained stays waiting moved p = absurd p
  steps_lead a d [] false asked drained stays waiting moved p = refl
  steps_lead a d (x ∷ xs) true asked drained stays waiting moved p = lead_on d a a event.Drain reply.Moved x xs drained moved p.0 (steps_lead a d xs false asked drained stays waiting moved p.1)
  steps_lead a d (x ∷ xs) false asked drained stays waiting moved p = pause_step a d a p.0 x xs asked stays waiting p.1 (steps_lead a d xs p.0 asked drained stays waiting moved p.2)

  pauses_lead : (a d b : S) (xs : List Turn) → asks a ≡ Some event.PauseNext → asks d ≡ Some event.Drain → goes a reply.Next ≡ a → ((lists : ℕ) → goes a (reply.Waiting lists) ≡ d) → goes d reply.Moved ≡ a → goes a reply.Paused ≡ b
      → ArePauses w xs → TurnsLead w asks goes a b xs
  pauses_lead a d b xs asked drained stays waiting moved on p =
      subst (TurnsLead w asks goes a b) (sym p.all) (leads_join a a b p.before (p.last ∷ []) (steps_lead a d p.before false asked drained stays waiting moved p.steps)
      (lead_on a b b event.PauseNext reply.Paused p.last [] asked on p.over refl))

  -- and the same of turns that were added
  pub leads_then : {x y z : BookView} (a b c : S) → AddsTurns (TurnsLead w asks goes a b) x y → AddsTurns (TurnsLead w asks goes b c) y z → AddsTurns (TurnsLead w asks goes a c) x z
  leads_then a b c p q = both (TurnsLead w asks goes a b) (TurnsLead w asks goes b c) (TurnsLead w asks goes a c) (leads_join a b c) p q

  pub leads_by : {x y : BookView} (a b : S) (e : Event) (r : Reply) → asks a ≡ Some e → goes a r ≡ b → AddsTurns (IsOne w e r) x y → AddsTurns (TurnsLead w asks goes a b) x y
  leads_by a b e r asked on t = as_kind (IsOne w e r) (TurnsLead w asks goes a b) (λ xs. lead_step a b e r xs asked on) t

  pub leads_until : {x y : BookView} (a b : S) (e : Event) (again at_last : Reply) → asks a ≡ Some e → goes a again ≡ a → goes a at_last ≡ b → AddsTurns (AreUntil w e again at_last) x y → AddsTurns (TurnsLead w asks goes a b) x y
  leads_until a b e again at_last asked stays on p = as_kind (AreUntil w e again at_last) (TurnsLead w asks goes a b) (λ xs. until_leads a b e again at_last xs asked stays on) p

  pub leads_paused : {x y : BookView} (a d b : S) → asks a ≡ Some event.PauseNext → asks d ≡ Some event.Drain → goes a reply.Next ≡ a → ((lists : ℕ) → goes a (reply.Waiting lists) ≡ d) → goes d reply.Moved ≡ a → goes a reply.Paused ≡ b
      → AddsTurns (ArePauses w) x y → AddsTurns (TurnsLead w asks goes a b) x y
  leads_paused a d b asked drained stays waiting moved on p = as_kind (ArePauses w) (TurnsLead w asks goes a b) (λ xs. pauses_lead a d b xs asked drained stays waiting moved on) p

-- endings and openings, one after the other, and their turns
pub ends_then : {x y z : BookView} (a b c : Ending) → AddsTurns (EndsTo a b) x y → AddsTurns (EndsTo b c) y z → AddsTurns (EndsTo a c) x z
ends_then a b c p q = leads_then who.Own ending_event ending_after a b c p q

pub ends_by : {x y : BookView} (a b : Ending) (e : Event) (r : Reply) → ending_event a ≡ Some e → ending_after a r ≡ b → AddsTurns (IsOne who.Own e r) x y → AddsTurns (EndsTo a b) x y
ends_by a b e r asked on t = leads_by who.Own ending_event ending_after a b e r asked on t

pub opens_then : {x y z : BookView} (a : Opening) (fs : List FilterSetup) (b : Opening) (gs : List FilterSetup) (c : Opening) (hs : List FilterSetup) → AddsTurns (OpensTo a fs b gs) x y → AddsTurns (OpensTo b gs c hs) y z → AddsTurns (OpensTo a fs c hs) x z
opens_then a fs b gs c hs p q = leads_then who.Own opening_asks opening_goes (a, fs) (b, gs) (c, hs) p q

pub opens_by : {x y : BookView} (a : Opening) (fs : List FilterSetup) (b : Opening) (e : Event) (r : Reply) → opening_event a fs ≡ Some e → opening_after a fs r ≡ b → AddsTurns (IsOne who.Own e r) x y → AddsTurns (OpensTo a fs b (filters_after a fs)) x y
opens_by a fs b e r asked on t = leads_by who.Own opening_asks opening_goes (a, fs) (b, filters_after a fs) e r asked (ap (λ (o : Opening). (o, filters_after a fs)) on) t
