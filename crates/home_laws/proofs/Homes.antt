-- The laws, of rows that all fit.
use Rattle.std.proofs.Common.{◌≡◌, ℕ, ◌+◌, ◌==◌, ◌<◌, ◌≤◌, Bool, true, false, cond, List, [], ◌∷◌, ◌++◌, Option, Some, None, refl, arith, subst, sym, ap, ◌∙◌, All, count_by}
use Rattle.std.proofs.lemmas.Bool.Decides.{nat_tests}
use Rattle.std.proofs.lemmas.List.Elements.{All-nil, All-cons}
use Rattle.ndis_base.specs.declared.ListNo.{ListNo}
use Rattle.ndis_base.specs.declared.ListStatus.{ListStatus}
use Rattle.ndis_base.specs.declared.ModuleId.{ModuleId}
use Rattle.ndis_base.specs.declared.Origin.{Origin}
use Rattle.ndis_base.specs.declared.Origin.TheVariants as origin
use Rattle.journal_types.specs.declared.OutWay.TheVariants as out
use Rattle.journal_types.specs.declared.Row.{Row}
use Rattle.journal_types.specs.declared.Row.TheVariants as row
use Rattle.rule_basics.proofs.Counts.{count_by-cons, one_if}
use Rattle.home_laws.specs.Rows.{names, is_issue_of, is_home_of, Label, issue_row, IsIssuedWith, IsAway}
use Rattle.home_laws.specs.Homes.{IsSilent, IsOut, IsOriginOut, EachIssuedOnce, EachNamedAfterIssue, EachOriginOut, EachHomeAtOwner, EachHomeOnce, ShowsIssued, EachShowsIssued}
use Rattle.home_laws.proofs.Fits.{Register, empty, registered, registered_rows, IsLive, AnyLabel, IsOriginLive, Fits, AllFit, IsSane}
use Rattle.home_laws.proofs.Registers.{entered-here, entered-other, clash, is_same, live_below, sane_empty, sane_after, sane_rows, AllFit-front, AllFit-back, next_after, next_rows}
use Rattle.home_laws.proofs.Histories.{tells_rows}

-- the list was issued and is live no more
record IsGone (reg : Register) (list : ListNo) : Type 0 where
  dead : reg.live list.0 ≡ None
  old : list.0 < reg.next

-- a live list isn't one that is gone
other : (reg : Register) (live gone : ListNo) (P : Label → Type 0) → IsLive reg live P → reg.live gone.0 ≡ None → (live.0 == gone.0) ≡ false
other reg live gone P h dead = cases (live.0 == gone.0) refl
  where
    cases : (b : Bool) → (live.0 == gone.0) ≡ b → (live.0 == gone.0) ≡ false
    cases true t = absurd (clash (reg.live gone.0) h.label (ap reg.live (sym (is_same live.0 gone.0 t)) ∙ h.found) dead)
    cases false t = t

none_either : (b : Bool) (o : Option Label) → o ≡ None → cond b None o ≡ None
none_either true o h = refl
none_either false o h = h

silent_row : (reg : Register) (r : Row) (list : ListNo) → Fits reg r → IsGone reg list → (names list r ≡ false) × IsGone (registered reg r) list
silent_row reg (row.Issue next owner config direction cancel made frames) list f g =
    let apart : (list.0 == next.0) ≡ false = lower list.0 next.0 reg.next f.0 g.old in
    (higher next.0 list.0 reg.next f.0 g.old, record { dead = entered-other next.0 list.0 _ reg.live apart ∙ g.dead; old = omega (arith, g.old) })
  where
    lower : (n m next : ℕ) → m ≡ next → n < next → (n == m) ≡ false
    lower n m next e h = grind (arith, nat_tests)

    higher : (m n next : ℕ) → m ≡ next → n < next → (m == n) ≡ false
    higher m n next e h = grind (arith, nat_tests)
silent_row reg (row.Home home owner status) list f g =
    (other reg home list _ f g.dead, record { dead = none_either (list.0 == home.0) (reg.live list.0) g.dead; old = g.old })
silent_row reg (row.Give one m by) list f g = (other reg one list _ f g.dead, g)
silent_row reg (row.Pass one way to) list f g = (other reg one list _ f g.dead, g)
silent_row reg (row.Keep one m) list f g = (other reg one list _ f g.dead, g)
silent_row reg (row.TurnBack one m status) list f g = (other reg one list _ f g.dead, g)
silent_row reg (row.Wire one frames) list f g = (other reg one list _ f g.dead, g)
silent_row reg (row.Deliver one binding how frames) list f g = (other reg one list _ f g.dead, g)
silent_row reg (row.CrossOut message (out.Down one) frames) list f g = (other reg one list _ f g.dead, g)
silent_row reg _ list f g = (refl, g)

silent_rows : (reg : Register) (rows : List Row) (list : ListNo) → AllFit reg rows → IsGone reg list → IsSilent list rows
silent_rows reg [] list f g = All-nil (λ r. names list r ≡ false)
silent_rows reg (r ∷ rows) list f g =
    let step = silent_row reg r list f.0 g in
    All-cons (λ x. names list x ≡ false) r rows step.0 (silent_rows (registered reg r) rows list f.1 step.1)

-- a list that isn't issued yet is named by no row
unnamed_row : (reg : Register) (r : Row) (list : ListNo) → Fits reg r → IsSane reg → (registered reg r).next ≤ list.0 → names list r ≡ false
unnamed_row reg (row.Issue next owner config direction cancel made frames) list f s h = below next.0 list.0 reg.next f.0 h
  where
    below : (m n next : ℕ) → m ≡ next → next + 1 ≤ n → (m == n) ≡ false
    below m n next e g = grind (arith, nat_tests)
unnamed_row reg (row.Home one owner status) list f s h = other reg one list _ f (s.free list.0 h)
unnamed_row reg (row.Give one m by) list f s h = other reg one list _ f (s.free list.0 h)
unnamed_row reg (row.Pass one way to) list f s h = other reg one list _ f (s.free list.0 h)
unnamed_row reg (row.Keep one m) list f s h = other reg one list _ f (s.free list.0 h)
unnamed_row reg (row.TurnBack one m status) list f s h = other reg one list _ f (s.free list.0 h)
unnamed_row reg (row.Wire one frames) list f s h = other reg one list _ f (s.free list.0 h)
unnamed_row reg (row.Deliver one binding how frames) list f s h = other reg one list _ f (s.free list.0 h)
unnamed_row reg (row.CrossOut message (out.Down one) frames) list f s h = other reg one list _ f (s.free list.0 h)
unnamed_row reg _ list f s h = refl

unnamed_rows : (reg : Register) (rows : List Row) (list : ListNo) → AllFit reg rows → IsSane reg → (registered_rows reg rows).next ≤ list.0 → IsSilent list rows
unnamed_rows reg [] list f s h = All-nil (λ r. names list r ≡ false)
unnamed_rows reg (r ∷ rows) list f s h =
    All-cons (λ x. names list x ≡ false) r rows (unnamed_row reg r list f.0 s (omega (arith, next_rows (registered reg r) rows)))
    (unnamed_rows (registered reg r) rows list f.1 (sane_after reg r s f.0) h)

-- a list that was issued is issued no more
unissued_row : (reg : Register) (r : Row) (list : ListNo) → Fits reg r → list.0 < reg.next → is_issue_of list r ≡ false
unissued_row reg (row.Issue next owner config direction cancel made frames) list f h = above next.0 list.0 reg.next f.0 h
  where
    above : (m n next : ℕ) → m ≡ next → n < next → (m == n) ≡ false
    above m n next e g = grind (arith, nat_tests)
unissued_row reg _ list f h = refl

unissued_rows : (reg : Register) (rows : List Row) (list : ListNo) → AllFit reg rows → list.0 < reg.next → All (λ r. is_issue_of list r ≡ false) rows
unissued_rows reg [] list f h = All-nil (λ r. is_issue_of list r ≡ false)
unissued_rows reg (r ∷ rows) list f h =
    All-cons (λ x. is_issue_of list x ≡ false) r rows (unissued_row reg r list f.0 h)
    (unissued_rows (registered reg r) rows list f.1 (omega (arith, next_after reg r)))

-- what is known at any place: of the rows before it, of its row, and of the rows after it
record IsPlace (before : List Row) (r : Row) (later : List Row) : Type 0 where
  front : AllFit empty before
  here : Fits (registered_rows empty before) r
  back : AllFit (registered (registered_rows empty before) r) later

place : (rows before : List Row) (r : Row) (later : List Row) → AllFit empty rows → rows ≡ before ++ r ∷ later → IsPlace before r later
place rows before r later f e =
    let whole : AllFit empty (before ++ r ∷ later) = subst (AllFit empty) e f in
    let rest : AllFit (registered_rows empty before) (r ∷ later) = AllFit-back empty before (r ∷ later) whole in
    record { front = AllFit-front empty before (r ∷ later) whole; here = rest.0; back = rest.1 }

pub issued_once : (rows : List Row) → AllFit empty rows → EachIssuedOnce rows
issued_once rows f before later list config label e =
    let p : IsPlace before (issue_row list config label) later = place rows before _ later f e in
    record {
      unnamed = unnamed_rows empty before list p.front sane_empty (omega (arith, p.here.0));
      unissued = unissued_rows _ later list p.back (omega (arith, p.here.0));
    }

-- a row that names a list names a live one, unless it issues it
named_live : (reg : Register) (r : Row) (list : ListNo) → Fits reg r → names list r ≡ true → is_issue_of list r ≡ false → (label : Label) × (reg.live list.0 ≡ Some label)
named_live reg (row.Issue one owner config direction cancel made frames) list f n h = absurd (cc)
named_live reg (row.Home one owner status) list f n h = (f.label, ap reg.live (sym (is_same one.0 list.0 n)) ∙ f.found)
named_live reg (row.Give one m by) list f n h = (f.label, ap reg.live (sym (is_same one.0 list.0 n)) ∙ f.found)
named_live reg (row.Pass one way to) list f n h = (f.label, ap reg.live (sym (is_same one.0 list.0 n)) ∙ f.found)
named_live reg (row.Keep one m) list f n h = (f.label, ap reg.live (sym (is_same one.0 list.0 n)) ∙ f.found)
named_live reg (row.TurnBack one m status) list f n h = (f.label, ap reg.live (sym (is_same one.0 list.0 n)) ∙ f.found)
named_live reg (row.Wire one frames) list f n h = (f.label, ap reg.live (sym (is_same one.0 list.0 n)) ∙ f.found)
named_live reg (row.Deliver one binding how frames) list f n h = (f.label, ap reg.live (sym (is_same one.0 list.0 n)) ∙ f.found)
named_live reg (row.CrossOut message (out.Down one) frames) list f n h = (f.label, ap reg.live (sym (is_same one.0 list.0 n)) ∙ f.found)
named_live reg _ list f n h = absurd (false_true n)
  where
    false_true : false ≡ true → ⊥
    false_true e = cc

pub named_after_issue : (rows : List Row) → AllFit empty rows → EachNamedAfterIssue rows
named_after_issue rows f before later r list e n h =
    let p : IsPlace before r later = place rows before r later f e in
    let live = named_live (registered_rows empty before) r list p.here n h in
    (live.0, (tells_rows before p.front).issued list.0 live.0 live.1)

gone_home : (reg : Register) (list : ListNo) (owner : ModuleId) (status : ListStatus) → IsSane reg → Fits reg (row.Home list owner status) → IsGone (registered reg (row.Home list owner status)) list
gone_home reg list owner status s f = record { dead = entered-here list.0 None reg.live; old = live_below reg list.0 f.label s f.found }

pub home_at_owner : (rows : List Row) → AllFit empty rows → EachHomeAtOwner rows
home_at_owner rows f before later list owner status e =
    let p : IsPlace before (row.Home list owner status) later = place rows before _ later f e in
    let sane : IsSane (registered_rows empty before) = sane_rows empty before sane_empty p.front in
    record {
      issued = (p.here.label, (tells_rows before p.front).issued list.0 p.here.label p.here.found, p.here.passes);
      silent = silent_rows _ later list p.back (gone_home (registered_rows empty before) list owner status sane p.here);
    }

-- a Home row is the last that names its list, so there is one
home_named : (list : ListNo) (r : Row) → names list r ≡ false → is_home_of list r ≡ false
home_named list (row.Home one owner status) h = h
home_named list _ h = refl

none_home : (reg : Register) (rows : List Row) (list : ListNo) → AllFit reg rows → IsGone reg list → count_by (is_home_of list) rows ≡ 0
none_home reg [] list f g = refl
none_home reg (r ∷ rows) list f g =
    let step = silent_row reg r list f.0 g in
    let here : is_home_of list r ≡ false = home_named list r step.0 in
    let rest : count_by (is_home_of list) rows ≡ 0 = none_home (registered reg r) rows list f.1 step.1 in
    let split = count_by-cons (is_home_of list) r rows in
    omega (arith, split, rest, ap one_if here)

gone_after : (reg : Register) (r : Row) (list : ListNo) → IsSane reg → Fits reg r → is_home_of list r ≡ true → IsGone (registered reg r) list
gone_after reg (row.Home one owner status) list s f h =
    subst (λ n. IsGone (registered reg (row.Home one owner status)) (record { 0 = n })) (is_same one.0 list.0 h) (gone_home reg one owner status s f)
gone_after reg _ list s f h = absurd (false_true h)
  where
    false_true : false ≡ true → ⊥
    false_true e = cc

once_step : (reg : Register) (r : Row) (rows : List Row) (list : ListNo) → IsSane reg → AllFit reg (r ∷ rows) → count_by (is_home_of list) rows ≤ 1 → (b : Bool) → is_home_of list r ≡ b → count_by (is_home_of list) (r ∷ rows) ≤ 1
once_step reg r rows list s f few true h =
    let rest : count_by (is_home_of list) rows ≡ 0 = none_home (registered reg r) rows list f.1 (gone_after reg r list s f.0 h) in
    omega (arith, count_by-cons (is_home_of list) r rows, rest, ap one_if h)
once_step reg r rows list s f few false h = omega (arith, count_by-cons (is_home_of list) r rows, few, ap one_if h)

once_home : (reg : Register) (rows : List Row) (list : ListNo) → IsSane reg → AllFit reg rows → count_by (is_home_of list) rows ≤ 1
once_home reg [] list s f = omega arith
once_home reg (r ∷ rows) list s f =
    once_step reg r rows list s f (once_home (registered reg r) rows list (sane_after reg r s f.0) f.1) (is_home_of list r) refl

pub home_once : (rows : List Row) → AllFit empty rows → EachHomeOnce rows
home_once rows f list = once_home empty rows list sane_empty f

-- a live list has no Home row
gone_rows : (reg : Register) (rows : List Row) (list : ListNo) → AllFit reg rows → IsGone reg list → IsGone (registered_rows reg rows) list
gone_rows reg [] list f g = g
gone_rows reg (r ∷ rows) list f g = gone_rows (registered reg r) rows list f.1 (silent_row reg r list f.0 g).1

away_row : (reg : Register) (r : Row) (rows : List Row) (list : ListNo) (label : Label) → IsSane reg → AllFit reg (r ∷ rows) → (registered_rows reg (r ∷ rows)).live list.0 ≡ Some label → (b : Bool) → is_home_of list r ≡ b → is_home_of list r ≡ false
away_row reg r rows list label s f k true h =
    absurd (clash ((registered_rows reg (r ∷ rows)).live list.0) label k (gone_rows (registered reg r) rows list f.1 (gone_after reg r list s f.0 h)).dead)
away_row reg r rows list label s f k false h = h

pub away_rows : (reg : Register) (rows : List Row) (list : ListNo) (label : Label) → IsSane reg → AllFit reg rows → (registered_rows reg rows).live list.0 ≡ Some label → IsAway rows list
away_rows reg [] list label s f k = All-nil (λ r. is_home_of list r ≡ false)
away_rows reg (r ∷ rows) list label s f k =
    All-cons (λ x. is_home_of list x ≡ false) r rows (away_row reg r rows list label s f k (is_home_of list r) refl)
    (away_rows (registered reg r) rows list label (sane_after reg r s f.0) f.1 k)

-- what a clone or a copy is made of
out_of : (before : List Row) (list : ListNo) → AllFit empty before → IsLive (registered_rows empty before) list AnyLabel → IsOut before list
out_of before list f h = record {
  label = h.label;
  issued = (tells_rows before f).issued list.0 h.label h.found;
  away = away_rows empty before list h.label sane_empty f h.found;
}

origin_of : (before : List Row) (o : Origin) → AllFit empty before → IsOriginLive (registered_rows empty before) o → IsOriginOut before o
origin_of before origin.Root f h = tt
origin_of before (origin.Clone list) f h = out_of before list f h
origin_of before (origin.Copy list) f h = out_of before list f h

pub origin_out : (rows : List Row) → AllFit empty rows → EachOriginOut rows
origin_out rows f before later list config label e =
    let p : IsPlace before (issue_row list config label) later = place rows before _ later f e in
    origin_of before label.origin p.front p.here.1

-- rows with frames
shows : (before : List Row) (list : ListNo) (frames : List (List ℕ)) → AllFit empty before → IsLive (registered_rows empty before) list (λ label. label.frames ≡ frames) → IsIssuedWith before list frames
shows before list frames f h = (h.label, (tells_rows before f).issued list.0 h.label h.found, h.passes)

shows_row : (before : List Row) (r : Row) → AllFit empty before → Fits (registered_rows empty before) r → ShowsIssued before r
shows_row before (row.Wire list frames) f h = shows before list frames f h
shows_row before (row.Deliver list binding how frames) f h = shows before list frames f h
shows_row before (row.CrossOut message (out.Down list) frames) f h = shows before list frames f h
shows_row before _ f h = tt

pub shows_issued : (rows : List Row) → AllFit empty rows → EachShowsIssued rows
shows_issued rows f before later r e =
    let p : IsPlace before r later = place rows before r later f e in
    shows_row before r p.front p.here
