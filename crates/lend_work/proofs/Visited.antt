-- A lent list goes up through the filters: the rows are those of the rules.
use Rattle.std.proofs.Common.{◌≡◌, ℕ, ◌==◌, ◌≤◌, List, [], ◌∷◌, ◌++◌, Option, Some, None, slice_index_or, slice_set, refl, sym, ap, ◌∙◌, subst, arith, append_assoc, append-nil}
use Rattle.ndis_base.specs.declared.Direction.TheVariants as direction
use Rattle.ndis_base.specs.declared.ListStatus.{ListStatus}
use Rattle.ndis_base.specs.declared.ModuleId.{ModuleId}
use Rattle.ndis_base.specs.declared.ModuleId.TheVariants.{Filter}
use Rattle.journal_types.specs.declared.Row.{Row}
use Rattle.buffer_pools.specs.Views.{ListView, PoolView, live_count}
use Rattle.stack_rules.specs.declared.Attached.{Attached}
use Rattle.stack_rules.specs.Net.{Net, Modules, attached}
use Rattle.stack_rules.specs.Places.{is_full}
use Rattle.stack_rules.specs.Receives.{lent_at, lent_up, lent_delivery}
use Rattle.driver_views.specs.States.{FilterState}
use Rattle.driver_tray.specs.Tray.{TrayView}
use Rattle.book_lemmas.specs.Called.{SitsAt, filter_called}
use Rattle.book_lemmas.specs.Stands.{IsSeated}
use Rattle.book_lemmas.specs.Views.{BookView, HeldView, no_pool, filter_at, pool_at, seat_of, held_pool, hands_of}
use Rattle.book_lemmas.proofs.Called.{sits_at, filter_is_called, filter_leaves}
use Rattle.call_lemmas.specs.InCall.{InCall}
use Rattle.call_lemmas.proofs.Served.{did_filter}
use Rattle.book_parts.specs.Events.{IsBook}
use Rattle.binding_work.specs.Sends.{called_with}
use Rattle.binding_work.proofs.Sending.{full_at}
use Rattle.lend_work.specs.Visits.{Bench, VisitsAt}
use Rattle.lend_work.specs.Climbs.{Climbs}
use Rattle.lend_work.specs.Climbs.AtFilter.{ends, goes_on}
use Rattle.lend_work.proofs.Placed.{still_at}
use Rattle.lend_work.proofs.Meeting.{went_on}
use Rattle.lend_work.proofs.Along.{Along, along_enters, along_further}
use Rattle.lend_work.proofs.Given.{IsOn, IsAsked, HasMet, then_rows, met}
use Rattle.lend_work.proofs.Readied.{IsReceiver}

-- the book while the list is at its filters
abbrev pub at_bench : HeldView → Bench → BookView
at_bench held d = record { tray = d.tray; held = record held { filters = d.filters; filter_pools = d.pools } }

abbrev state_at : Bench → ℕ → FilterState
state_at d place = filter_at d.filters (Some place)

abbrev pool_of_place : Bench → ℕ → PoolView
pool_of_place d place = pool_at d.pools (Some place)

-- what holds before each filter
pub record IsClimbing (old : BookView) (held : HeldView) (l : ListView) (d : Bench) (rows : List Row) : Type 0 where
  pub along : Along old (at_bench held d) rows (l ∷ [])
  pub on : IsOn old.tray.net d.tray.net
  pub pools : (place : ℕ) → slice_index_or d.pools place no_pool ≡ slice_index_or old.held.filter_pools place no_pool
  pub turns : 1 ≤ d.tray.room.turns

-- one filter's rows
record IsVisited (old : BookView) (held : HeldView) (l : ListView) (d' : Bench) (rows : List Row) (a : Attached) (went : Option ListStatus) : Type 0 where
  more : List Row
  along : Along old (at_bench held d') (rows ++ more) (l ∷ [])
  is : (further : List Row) → more ++ then_rows l.label.number went further ≡ lent_at old.tray.net (Some a) l.label.number l.frames further
  turns : 1 ≤ d'.tray.room.turns

book_is : (held : HeldView) (d' : Bench) (filters : List FilterState) {pools pools' : List PoolView} {t : TrayView} → d'.filters ≡ filters → d'.pools ≡ pools' → pools' ≡ pools → d'.tray ≡ t
    → record { tray = t; held = record held { filters = filters; filter_pools = pools } } ≡ at_bench held d'
book_is held d' filters {pools} {pools'} {t} e f g h =
    ap (λ fs. record { tray = t; held = record held { filters = fs; filter_pools = pools } }) (sym e)
    ∙ ap (λ ps. record { tray = t; held = record held { filters = d'.filters; filter_pools = ps } }) (sym (f ∙ g))
    ∙ ap (λ x. record { tray = x; held = record held { filters = d'.filters; filter_pools = d'.pools } }) (sym h)

same_place : (p q : ℕ) (o : Option ℕ) → o ≡ Some p → o ≡ Some q → p ≡ q
same_place p q o e f = cc (e, f)

-- the driver at the filter's place is attached with its set-up
setup_at : (v : BookView) (a : Attached) (place : ℕ) → IsSeated v.held a → seat_of v.held.seats a.filter ≡ Some place → (filter_at v.held.filters (Some place)).setup ≡ Some a.setup
setup_at v a place s seat = ap (λ p. (filter_at v.held.filters (Some p)).setup) (same_place place s.place (seat_of v.held.seats a.filter) seat s.seat) ∙ s.setup

visit_one : (old : BookView) (held : HeldView) (l : ListView) (d d' : Bench) (a : Attached) (place : ℕ) (rows : List Row) (went : Option ListStatus) → IsBook old → IsClimbing old held l d rows → l.label.direction ≡ direction.Lent
    → attached a.filter old.tray.net.modules.filters ≡ Some a → IsReceiver old.tray.net a.filter → seat_of held.seats a.filter ≡ Some place → VisitsAt a.filter place l d went d' → IsVisited old held l d' rows a went
visit_one old held l d d' a place rows went k c lent there r seat v =
    let m : ModuleId = Filter a.filter in
    let h : HeldView = (at_bench held d).held in
    let s : FilterState = state_at d place in
    let pool : PoolView = pool_of_place d place in
    let b : TrayView = called_with d.tray m pool in
    let mine : pool ≡ held_pool h m = ap (pool_at d.pools) (sym seat) in
    let stands = c.along.stands in
    let attached_now : attached a.filter d.tray.net.modules.filters ≡ Some a = ap (λ (ms : Modules). attached a.filter ms.filters) c.on.modules ∙ there in
    let seats : held.seats ≡ old.held.seats = c.along.seats in
    let full : is_full old.tray.net m ≡ (live_count b.pool == b.pool.size) =
    full_at old m k r.inside ∙ ap (λ o. live_count (pool_at old.held.filter_pools o) == (pool_at old.held.filter_pools o).size) (ap (λ ss. seat_of ss a.filter) (sym seats) ∙ seat)
    ∙ ap (λ (p : PoolView). live_count p == p.size) (sym (c.pools place)) in
    let asked : IsAsked b l s old.tray.net a = record {
      on = record { head = c.on.head; phase = c.on.phase; modules = c.on.modules; filters = c.on.filters; list = c.on.list };
      there = there;
      setup = setup_at (at_bench held d) a place (stands.seated a.filter a attached_now) seat;
      direction = lent;
      full = full;
      caller = refl;
    } in
    let enter = along_enters d.tray h m pool c.along mine in
    let begin = subst (λ o. InCall b (hands_of d.tray.queue h (l ∷ [])) m [] [] [] b (record { front = []; loose = l ∷ []; kept = (filter_at d.filters o).kept })) seat enter in
    let w : HasMet b (hands_of d.tray.queue h (l ∷ [])) l s v.state v.visits.left old.tray.net a went = met begin asked v.visits.meets in
    let sits : SitsAt h a.filter place = sits_at stands a.filter place seat in
    let further = along_further (filter_called h place v.state v.visits.left.pool) d.tray.pool c.along w.call_is (filter_is_called h a.filter place v.state v.visits.left.pool sits)
    (filter_leaves h a.filter place v.state v.visits.left.pool sits w.kind w.setup w.call_is.size w.call_is.bytes) stands.ring
    (did_filter h place v.state v.visits.left.pool w.call_is sits w.own w.counts w.kind w.refusals) in
    let turns = ap (λ (t : TrayView). t.room.turns) v.visits.tray in
    record {
      more = w.more;
      along = subst (λ (x : BookView). Along old x (rows ++ w.more) (l ∷ [])) (book_is held d' (slice_set d.filters place v.state) v.filters v.pools (ap (slice_set d.pools place) v.visits.pool_is) v.visits.tray) further;
      is = w.is;
      turns = omega (arith, c.turns, turns, w.call_is.used.turns);
    }

visit : (old : BookView) (held : HeldView) (l : ListView) (d d' : Bench) (f place : ℕ) (rows : List Row) (went : Option ListStatus) → IsBook old → IsClimbing old held l d rows → l.label.direction ≡ direction.Lent
    → (r : IsReceiver old.tray.net f) → seat_of held.seats f ≡ Some place → VisitsAt f place l d went d' → IsVisited old held l d' rows r.a went
visit old held l d d' f place rows went k c lent r seat v =
    let there : attached r.a.filter old.tray.net.modules.filters ≡ Some r.a = ap (λ g. attached g old.tray.net.modules.filters) r.number ∙ r.there in
    visit_one old held l d d' r.a place rows went k c lent there (subst (IsReceiver old.tray.net) (sym r.number) r) (ap (seat_of held.seats) r.number ∙ seat) (subst (λ g. VisitsAt g place l d went d') (sym r.number) v)

-- what is left for the next filter
climbing_next : (old : BookView) (held : HeldView) (l : ListView) (d mid : Bench) (f place : ℕ) (rows more : List Row) → IsClimbing old held l d rows → VisitsAt f place l d None mid → Along old (at_bench held mid) more (l ∷ []) → 1 ≤ mid.tray.room.turns
    → IsClimbing old held l mid more
climbing_next old held l d mid f place rows more c v along turns =
    let w = went_on refl v.setup v.visits in
    record {
      along = along;
      on = record {
        head = ap (λ (t : TrayView). t.net.head) w.tray ∙ c.on.head;
        phase = ap (λ (t : TrayView). t.net.phase) w.tray ∙ c.on.phase;
        modules = ap (λ (t : TrayView). t.net.modules) w.tray ∙ c.on.modules;
        filters = ap (λ (t : TrayView). t.net.port.delivers_by) w.tray ∙ c.on.filters;
        list = ap (λ (t : TrayView). t.net.next.list) w.tray ∙ c.on.list;
      };
      pools = λ p. ap (λ ps. slice_index_or ps p no_pool) v.pools ∙ still_at (λ (x : PoolView). x) d.pools place v.pool no_pool v.housed w.pool_is p ∙ c.pools p;
      turns = turns;
    }

-- all these filters are attached
pub data AreReceivers (net : Net) : List ℕ → Type 0 where
  no_more : AreReceivers net []
  one_more : {f : ℕ} {fs : List ℕ} → IsReceiver net f → AreReceivers net fs → AreReceivers net (f ∷ fs)

-- the rows up to the filter that has the list go home, or to the bindings
pub record HasClimbed (old : BookView) (held : HeldView) (l : ListView) (fs : List ℕ) (d' : Bench) (rows : List Row) (went : Option ListStatus) : Type 0 where
  pub more : List Row
  pub along : Along old (at_bench held d') (rows ++ more) (l ∷ [])
  pub is : more ++ then_rows l.label.number went (lent_delivery old.tray.net l.label.number l.frames) ≡ lent_up old.tray.net l.label.number l.frames fs
  pub turns : 1 ≤ d'.tray.room.turns
  pub past : went ≡ None → IsClimbing old held l d' (rows ++ more)

lent_next : (net : Net) (l : ListView) (f : ℕ) (fs : List ℕ) (r : IsReceiver net f) → lent_at net (Some r.a) l.label.number l.frames (lent_up net l.label.number l.frames fs) ≡ lent_up net l.label.number l.frames (f ∷ fs)
lent_next net l f fs r = ap (λ o. lent_at net o l.label.number l.frames (lent_up net l.label.number l.frames fs)) (sym r.there)

pub climbed : (old : BookView) (held : HeldView) (l : ListView) (fs : List ℕ) (d d' : Bench) (rows : List Row) (went : Option ListStatus) → IsBook old → l.label.direction ≡ direction.Lent → AreReceivers old.tray.net fs → IsClimbing old held l d rows
    → Climbs held.seats l fs d went d' → HasClimbed old held l fs d' rows went
climbed old held l [] d d' rows went k lent are c past =
    let along : IsClimbing old held l d' (rows ++ []) = subst (IsClimbing old held l d') (sym (append-nil rows)) (subst (λ (x : Bench). IsClimbing old held l x rows) (sym past.same) c) in
    record {
      more = [];
      along = along.along;
      is = ap (λ o. then_rows l.label.number o (lent_delivery old.tray.net l.label.number l.frames)) past.past;
      turns = along.turns;
      past = λ e. along;
    }
climbed old held l (f ∷ fs) d d' rows went k lent (one_more r are) c (ends place status seat went_is v) =
    let o = visit old held l d d' f place rows (Some status) k c lent r seat v in
    subst (HasClimbed old held l (f ∷ fs) d' rows) (sym went_is)
    (record {
      more = o.more;
      along = o.along;
      is = o.is (lent_up old.tray.net l.label.number l.frames fs) ∙ lent_next old.tray.net l f fs r;
      turns = o.turns;
      past = λ e. absurd (cc (e));
    })
climbed old held l (f ∷ fs) d d' rows went k lent (one_more r are) c (goes_on place mid seat v rest) =
    let o = visit old held l d mid f place rows None k c lent r seat v in
    let after = climbed old held l fs mid d' (rows ++ o.more) went k lent are (climbing_next old held l d mid f place rows (rows ++ o.more) c v o.along o.turns) rest in
    let all : (rows ++ o.more) ++ after.more ≡ rows ++ (o.more ++ after.more) = append_assoc rows o.more after.more in
    let tail : List Row = then_rows l.label.number went (lent_delivery old.tray.net l.label.number l.frames) in
    record {
      more = o.more ++ after.more;
      along = subst (λ rs. Along old (at_bench held d') rs (l ∷ [])) all after.along;
      is = append_assoc o.more after.more tail ∙ ap (λ rs. o.more ++ rs) after.is ∙ o.is (lent_up old.tray.net l.label.number l.frames fs) ∙ lent_next old.tray.net l f fs r;
      turns = after.turns;
      past = λ e. subst (IsClimbing old held l d') all (after.past e);
    }
