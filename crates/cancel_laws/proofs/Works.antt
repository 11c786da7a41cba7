-- What the rules turn back in a cancel is just what is to be cancelled.
use Rattle.std.proofs.Common.{◌≡◌, ℕ, ◌==◌, ◌&&◌, ◌||◌, ◌⊎◌, inl, inr, not, Bool, true, false, cond, List, [], ◌∷◌, ◌++◌, Option, Some, None, refl, arith, ap, sym, subst, ◌∙◌, map, filter}
use Rattle.std.specs.List.{list_any}
use Rattle.std.proofs.lemmas.Bool.Decides.{nat_tests}
use Rattle.ndis_base.specs.declared.CrossNo.{CrossNo}
use Rattle.ndis_base.specs.declared.Direction.{Direction}
use Rattle.ndis_base.specs.declared.Direction.TheVariants as direction
use Rattle.ndis_base.specs.declared.FilterKind.{FilterKind}
use Rattle.ndis_base.specs.declared.FilterKind.TheVariants as filter_kind
use Rattle.ndis_base.specs.declared.ListNo.{ListNo}
use Rattle.ndis_base.specs.declared.ModuleId.{ModuleId}
use Rattle.ndis_base.specs.declared.ModuleId.TheVariants.{Miniport, Filter, Binding}
use Rattle.ndis_base.specs.declared.Origin.{Origin}
use Rattle.ndis_base.specs.declared.Origin.TheVariants as origin
use Rattle.stack_rules.specs.declared.Attached.{Attached}
use Rattle.stack_rules.specs.declared.LiveList.{LiveList}
use Rattle.stack_rules.specs.Cancels.{hold_in, is_hold_filter, is_named, cancelled_at, queues}
use Rattle.stack_rules.specs.Net.{Net, Modules, attached, list_of, lists}
use Rattle.stack_rules.specs.Outcome.{list_no}
use Rattle.stack_rules.specs.Places.{is_kept_by, kept_lists, ready_lists, is_waiting, is_clone_of, has_clone, is_crossed}
use Rattle.stack_rules.specs.Rewires.{is_in}
use Rattle.stack_rules.specs.Tests.{is_down, is_hold, same_module, same_number}
use Rattle.rule_basics.specs.Live.{is_live, IsApart, Each}
use Rattle.pause_laws.proofs.Keepers.{kept_is}
use Rattle.place_laws.proofs.Keepers.{all_found}
use Rattle.state_laws.specs.Shape.{IsDistinct}
use Rattle.cancel_laws.specs.Cancelled.{IsLive, IsHoldFilter, QueuesSends, IsFree, IsCancelled}
use Rattle.cancel_laws.proofs.Within.{Within, within-left, within-right, within-cases, within-filter, passes, some_passes, within-map, mapped}

pub itself : (n : ℕ) → (n == n) ≡ true
itself n = grind (arith, nat_tests)

same_itself : (m : ModuleId) → same_module m m ≡ true
same_itself Miniport = refl
same_itself (Filter f) = itself f
same_itself (Binding b) = itself b

both : (a b : Bool) → (a && b) ≡ true → (a ≡ true) × (b ≡ true)
both true b h = (refl, h)
both false b h = cc

neither : (a b : Bool) → not (a || b) ≡ true → (a ≡ false) × (b ≡ false)
neither true b h = cc
neither false true h = cc
neither false false h = (refl, refl)

more : (a b : Bool) → b ≡ true → (a || b) ≡ true
more true b h = refl
more false b h = h

-- hold filters
hold_is : (k : FilterKind) → is_hold k ≡ true → k ≡ filter_kind.Hold
hold_is filter_kind.Hold h = refl
hold_is _ h = cc

held : (o : Option Attached) → hold_in o ≡ true → (a : Attached) × (o ≡ Some a) × (a.kind ≡ filter_kind.Hold)
held None h = cc
held (Some a) h = (a, refl, hold_is a.kind h)

in_order : (f : ℕ) (fs : List ℕ) → Within fs f → is_in f fs ≡ true
in_order f [] h = absurd h
in_order f (g ∷ fs) (inl e) = ap (λ b. b || is_in f fs) (ap (λ x. x == f) e ∙ itself f)
in_order f (g ∷ fs) (inr h) = more (g == f) (is_in f fs) (in_order f fs h)

within_order : (f : ℕ) (fs : List ℕ) → is_in f fs ≡ true → Within fs f
within_order f [] h = cc
within_order f (g ∷ fs) h = by (g == f) refl h (λ r. within_order f fs r)
  where
    by : (b : Bool) → (g == f) ≡ b → (b || is_in f fs) ≡ true → (is_in f fs ≡ true → Within fs f) → Within (g ∷ fs) f
    by true t h rest = let same : g ≡ f = grind (arith, nat_tests) in inl same
    by false t h rest = inr (rest h)

hold_filter : (ms : Modules) (f : ℕ) → Within ms.order f → is_hold_filter ms f ≡ true → IsHoldFilter ms f
hold_filter ms f i h = let is = held (attached f ms.filters) h in record { inside = in_order f ms.order i; entry = is.0; found = is.1; hold = is.2 }

-- the modules that queue sends
pub queues_are : (ms : Modules) (m : ModuleId) → Within (queues ms) m → QueuesSends ms m
queues_are ms m h = by (within-cases (map Filter (filter (is_hold_filter ms) ms.order)) (Miniport ∷ []) m h)
  where
    by : Within (map Filter (filter (is_hold_filter ms) ms.order)) m ⊎ Within (Miniport ∷ []) m → QueuesSends ms m
    by (inl a) =
        let of = mapped Filter (filter (is_hold_filter ms) ms.order) m a in
        let is = passes (is_hold_filter ms) ms.order of.0 of.1 in
        subst (QueuesSends ms) of.2 (hold_filter ms of.0 is.0 is.1)
    by (inr (inl e)) = subst (QueuesSends ms) e tt
    by (inr (inr h)) = absurd h

pub queues_have : (ms : Modules) (m : ModuleId) → QueuesSends ms m → Within (queues ms) m
queues_have ms Miniport q = within-right (map Filter (filter (is_hold_filter ms) ms.order)) (Miniport ∷ []) Miniport (inl refl)
queues_have ms (Filter f) q =
    let is : is_hold_filter ms f ≡ true = ap hold_in q.found ∙ ap is_hold q.hold in
    within-left (map Filter (filter (is_hold_filter ms) ms.order)) (Miniport ∷ []) (Filter f) (within-map Filter (filter (is_hold_filter ms) ms.order) f (within-filter (is_hold_filter ms) ms.order f (within_order f ms.order q.inside) is))
queues_have ms (Binding b) q = absurd q

-- no module is twice in a list
abbrev pub AreDistinct : List ModuleId → Type 0
AreDistinct [] = Unit {0}
AreDistinct (m ∷ ms) = (Within ms m → ⊥) × AreDistinct ms

queues_from : (test : ℕ → Bool) (fs : List ℕ) → IsDistinct fs → AreDistinct (map Filter (filter test fs) ++ Miniport ∷ [])
queues_from test [] d = (λ h. h, tt)
queues_from test (f ∷ fs) d = by (test f) (queues_from test fs d.1)
  where
    same : (g h : ℕ) → Filter g ≡ Filter h → g ≡ h
    same g h e = cc

    other : Within (map Filter (filter test fs)) (Filter f) ⊎ Within (Miniport ∷ []) (Filter f) → ⊥
    other (inl a) =
        let of = mapped Filter (filter test fs) (Filter f) a in
        let is : is_in of.0 fs ≡ true = in_order of.0 fs (passes test fs of.0 of.1).0 in
        let is_f : is_in f fs ≡ true = ap (λ x. is_in x fs) (sym (same of.0 f of.2)) ∙ is in
        cc (is_f, d.0)
    other (inr (inl e)) = cc
    other (inr (inr h)) = h

    by : (b : Bool) → AreDistinct (map Filter (filter test fs) ++ Miniport ∷ []) → AreDistinct (map Filter (cond b (f ∷ filter test fs) (filter test fs)) ++ Miniport ∷ [])
    by true rest = (λ h. other (within-cases (map Filter (filter test fs)) (Miniport ∷ []) (Filter f) h), rest)
    by false rest = rest

pub queues_distinct : (ms : Modules) → IsDistinct ms.order → AreDistinct (queues ms)
queues_distinct ms d = queues_from (is_hold_filter ms) ms.order d

-- live lists
pub each_within : (P : LiveList → Type 0) (ls : List LiveList) (l : LiveList) → Each P ls → Within ls l → P l
each_within P [] l h w = absurd w
each_within P (x ∷ ls) l h (inl e) = subst P e h.0
each_within P (x ∷ ls) l h (inr w) = each_within P ls l h.1 w

pub within_lists : (n : ℕ) (ls : List LiveList) (l : LiveList) → list_of n ls ≡ Some l → Within ls l
within_lists n [] l h = cc
within_lists n (x ∷ ls) l h = by (x.list.0 == n) h (λ r. within_lists n ls l r)
  where
    some_same : (a b : LiveList) → Some a ≡ Some b → a ≡ b
    some_same a b e = cc

    by : (b : Bool) → cond b (Some x) (list_of n ls) ≡ Some l → (list_of n ls ≡ Some l → Within ls l) → Within (x ∷ ls) l
    by true h rest = inl (some_same x l h)
    by false h rest = inr (rest h)

-- a live list that the module keeps
pub record IsKept (net : Net) (m : ModuleId) (l : LiveList) : Type 0 where
  pub live : IsLive net l
  pub kept : is_kept_by m l.stand ≡ true

module _ (net : Net) (apart : IsApart (lists net.things)) where
  live : (l : LiveList) → Within (lists net.things) l → IsLive net l
  live l w = each_within (λ x. list_of x.list.0 (lists net.things) ≡ Some x) (lists net.things) l (all_found (lists net.things) apart) w

  pub cancelled_kept : (id : ℕ) (m : ModuleId) (l : LiveList) → Within (cancelled_at net id m) l → IsKept net m l
  cancelled_kept id m l w =
      let named = passes (is_named id) (ready_lists net m) l w in
      let ready = passes (λ x. not (is_waiting net x)) (kept_lists net m) l named.0 in
      let kept = passes (λ x. is_kept_by m x.stand) (lists net.things) l ready.0 in
      record { live = live l kept.0; kept = kept.1 }

  down_is : (d : Direction) → is_down d ≡ true → d ≡ direction.Down
  down_is direction.Down h = refl
  down_is _ h = cc

  pub cancelled_down : (id : ℕ) (m : ModuleId) (l : LiveList) → Within (cancelled_at net id m) l → l.direction ≡ direction.Down
  cancelled_down id m l w = down_is l.direction (both (is_down l.direction) (same_number l.cancel (Some id)) (passes (is_named id) (ready_lists net m) l w).1).0

  number_is : (o : Option ℕ) (id : ℕ) → same_number o (Some id) ≡ true → o ≡ Some id
  number_is None id h = cc
  number_is (Some a) id h = ap (λ x. Some x) (grind (arith, nat_tests))

  none_is : (o : Option CrossNo) → is_crossed o ≡ false → o ≡ None
  none_is None h = refl
  none_is (Some message) h = cc

  any_within : (test : LiveList → Bool) (ls : List LiveList) (l : LiveList) → Within ls l → test l ≡ true → list_any test ls ≡ true
  any_within test [] l w t = absurd w
  any_within test (x ∷ ls) l (inl e) t = ap (λ b. b || list_any test ls) (ap test e ∙ t)
  any_within test (x ∷ ls) l (inr w) t = more (test x) (list_any test ls) (any_within test ls l w t)

  -- what the rules turn back
  pub cancelled_is : (id : ℕ) (m : ModuleId) (l : LiveList) → QueuesSends net.modules m → Within (cancelled_at net id m) l → IsCancelled net id m l
  cancelled_is id m l q w =
      let kept : IsKept net m l = cancelled_kept id m l w in
      let named = passes (is_named id) (ready_lists net m) l w in
      let ready = passes (λ x. not (is_waiting net x)) (kept_lists net m) l named.0 in
      let free = neither (is_crossed l.crossed) (has_clone net l.list.0) ready.1 in
      let number : same_number l.cancel (Some id) ≡ true = (both (is_down l.direction) (same_number l.cancel (Some id)) named.1).1 in
      record {
        live = kept.live;
        send = cancelled_down id m l w;
        named = number_is l.cancel id number;
        queues = q;
        kept = kept_is m l.stand kept.kept;
        free = record { here = none_is l.crossed free.0; whole = λ clone c e. cloned clone c e free.1 };
      }
    where
      cloned : (clone : LiveList) → IsLive net clone → clone.origin ≡ origin.Clone l.list → has_clone net l.list.0 ≡ false → ⊥
      cloned clone c e f =
          let is : is_clone_of l.list.0 clone.origin ≡ true = ap (is_clone_of l.list.0) e ∙ itself l.list.0 in
          let any : has_clone net l.list.0 ≡ true = any_within (λ x. is_clone_of l.list.0 x.origin) (lists net.things) clone (within_lists clone.list.0 (lists net.things) clone c) is in
          cc (any, f)

  -- what is to be cancelled
  clone_is : (n : ListNo) (o : Origin) → is_clone_of n.0 o ≡ true → o ≡ origin.Clone n
  clone_is n origin.Root h = cc
  clone_is n (origin.Copy o) h = cc
  clone_is n (origin.Clone o) h = let same : o.0 ≡ n.0 = grind (arith, nat_tests) in ap (λ x. origin.Clone (list_no x)) same

  no_clone : (l : LiveList) → IsFree net l → has_clone net l.list.0 ≡ false
  no_clone l free = by (has_clone net l.list.0) refl
    where
      by : (b : Bool) → has_clone net l.list.0 ≡ b → b ≡ false
      by false e = refl
      by true e =
          let some = some_passes (λ x. is_clone_of l.list.0 x.origin) (lists net.things) e in
          absurd (free.whole some.0 (live some.0 some.1) (clone_is l.list some.0.origin some.2))

  pub cancelled_has : (id : ℕ) (m : ModuleId) (l : LiveList) → IsCancelled net id m l → Within (cancelled_at net id m) l
  cancelled_has id m l c =
      let kept : is_kept_by m l.stand ≡ true = ap (is_kept_by m) c.kept ∙ same_itself m in
      let ready : not (is_waiting net l) ≡ true = waits_not (is_crossed l.crossed) (has_clone net l.list.0) (ap is_crossed c.free.here) (no_clone l c.free) in
      let named : is_named id l ≡ true = are (is_down l.direction) (same_number l.cancel (Some id)) (ap is_down c.send) (ap (λ o. same_number o (Some id)) c.named ∙ itself id) in
      within-filter (is_named id) (ready_lists net m) l
      (within-filter (λ x. not (is_waiting net x)) (kept_lists net m) l (within-filter (λ x. is_kept_by m x.stand) (lists net.things) l (within_lists l.list.0 (lists net.things) l c.live) kept) ready) named
    where
      waits_not : (a b : Bool) → a ≡ false → b ≡ false → not (a || b) ≡ true
      waits_not a b e f = cc

      are : (a b : Bool) → a ≡ true → b ≡ true → (a && b) ≡ true
      are a b e f = cc
