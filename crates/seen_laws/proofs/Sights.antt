-- How often rows tell that a module sees a status, and the turns that tell nothing of it.
use Rattle.std.proofs.Common.{◌≡◌, ℕ, zero, suc, ◌+◌, ◌<◌, ◌==◌, ◌&&◌, nat_lt, Bool, true, false, List, [], ◌∷◌, length, refl, arith, ap, sym, subst, ◌∙◌}
use Rattle.std.proofs.lemmas.Bool.Decides.{nat_tests}
use Rattle.ndis_base.specs.declared.ModuleId.{ModuleId}
use Rattle.ndis_base.specs.declared.ModuleId.TheVariants.{Miniport, Filter, Binding}
use Rattle.ndis_base.specs.declared.ModuleState.{ModuleState}
use Rattle.ndis_base.specs.declared.StatusName.{StatusName}
use Rattle.ndis_base.specs.declared.StatusNo.{StatusNo}
use Rattle.journal_types.specs.declared.Row.{Row}
use Rattle.journal_types.specs.declared.Row.TheVariants as row
use Rattle.journal_types.specs.declared.Target.{Target}
use Rattle.journal_types.specs.declared.Target.TheVariants.{Module, Bindings}
use Rattle.stack_rules.specs.Tests.{same_module}
use Rattle.stack_rules.specs.Net.{Net, after, after_rows}
use Rattle.stack_rules.specs.Places.{position}
use Rattle.stack_rules.specs.Statuses.{seen_by_all, status_rows}
use Rattle.stack_rules.specs.Targets.{next_status}
use Rattle.rule_basics.proofs.Counts.{one_if, count_by-cons}
use Rattle.seen_laws.specs.Seen.{sees, times_seen}
use Rattle.seen_laws.proofs.Mutes.{is_mute, AreMute}
use Rattle.seen_laws.proofs.Sorts.{told_row}
use Rattle.seen_laws.proofs.Statuses.{statuses, status_in, status_of, mute_rows, seen_leaves, status_leaves, all_leave}
use Rattle.seen_laws.proofs.Places.{is_within}

module _ (n : ℕ) where
  -- one more row
  one_seen : (m : ModuleId) (r : Row) (b : Bool) (rows : List Row) → sees n m r ≡ b → times_seen n m (r ∷ rows) ≡ one_if b + times_seen n m rows
  one_seen m r b rows e = subst (λ c. times_seen n m (r ∷ rows) ≡ one_if c + times_seen n m rows) e (count_by-cons (sees n m) r rows)

  pub unseen : (m : ModuleId) (r : Row) (rows : List Row) → sees n m r ≡ false → times_seen n m (r ∷ rows) ≡ times_seen n m rows
  unseen m r rows e = let whole = one_seen m r false rows e in omega (arith, whole)

  -- rows that tell nothing of statuses
  deaf : (m : ModuleId) (r : Row) → is_mute r ≡ true → sees n m r ≡ false
  deaf m (row.Seen number k) h = cc
  deaf m _ h = refl

  pub mute_unseen : (m : ModuleId) (rows : List Row) → AreMute rows → times_seen n m rows ≡ 0
  mute_unseen m [] q = refl
  mute_unseen m (r ∷ rows) q = unseen m r rows (deaf m r q.0) ∙ mute_unseen m rows q.1

  -- a Seen row of another number, and one of this number
  other_sees : (m k : ModuleId) (number : StatusNo) → (number.0 == n) ≡ false → sees n m (row.Seen number k) ≡ false
  other_sees m k number f = ap (λ b. b && same_module k m) f

  own_sees : (m k : ModuleId) (number : StatusNo) → (number.0 == n) ≡ true → sees n m (row.Seen number k) ≡ same_module k m
  own_sees m k number t = ap (λ b. b && same_module k m) t

  -- all bindings see a status of another number
  all_unseen : (m : ModuleId) (number : StatusNo) (b : ℕ) (ss : List ModuleState) → (number.0 == n) ≡ false → times_seen n m (seen_by_all number b ss) ≡ 0
  all_unseen m number b [] f = refl
  all_unseen m number b (s ∷ ss) f =
      unseen m (row.Seen number (Binding b)) (seen_by_all number (b + 1) ss) (other_sees m (Binding b) number f) ∙ all_unseen m number (b + 1) ss f

  -- and of this number
  module _ (number : StatusNo) (t : (number.0 == n) ≡ true) where
    pass : (m : ModuleId) (b : ℕ) (s : ModuleState) (ss : List ModuleState) → same_module (Binding b) m ≡ false → times_seen n m (seen_by_all number b (s ∷ ss)) ≡ times_seen n m (seen_by_all number (b + 1) ss)
    pass m b s ss f = unseen m (row.Seen number (Binding b)) (seen_by_all number (b + 1) ss) (own_sees m (Binding b) number t ∙ f)

    before_them : (c b : ℕ) (ss : List ModuleState) → c < b → times_seen n (Binding c) (seen_by_all number b ss) ≡ 0
    before_them c b [] l = refl
    before_them c b (s ∷ ss) l = pass (Binding c) b s ss (grind (arith, nat_tests)) ∙ before_them c (b + 1) ss (omega (arith, l))

    among_them : (k b : ℕ) (ss : List ModuleState) → times_seen n (Binding (b + k)) (seen_by_all number b ss) ≡ one_if (nat_lt k (length ss))
    among_them k b [] = ap one_if (sym (none k))
      where
        none : (k : ℕ) → nat_lt k 0 ≡ false
        none k = grind (arith, nat_tests)
    among_them zero b (s ∷ ss) =
        let m : ModuleId = Binding (b + 0) in
        let here : sees n m (row.Seen number (Binding b)) ≡ true = own_sees m (Binding b) number t ∙ same b in
        let whole = one_seen m (row.Seen number (Binding b)) true (seen_by_all number (b + 1) ss) here in
        let rest = before_them (b + 0) (b + 1) ss (omega arith) in
        let low : nat_lt 0 (length (s ∷ ss)) ≡ true = some (length ss) in
        rw low (omega (arith, whole, rest))
      where
        same : (b : ℕ) → (b == b + 0) ≡ true
        same b = grind (arith, nat_tests)

        some : (many : ℕ) → nat_lt 0 (suc many) ≡ true
        some many = grind (arith, nat_tests)
    among_them (suc k) b (s ∷ ss) =
        let at : b + 1 + k ≡ b + suc k = omega arith in
        pass (Binding (b + suc k)) b s ss (differ b k)
        ∙ subst (λ c. times_seen n (Binding c) (seen_by_all number (b + 1) ss) ≡ one_if (nat_lt k (length ss))) at (among_them k (b + 1) ss)
        ∙ ap one_if (less k (length ss))
      where
        differ : (b k : ℕ) → (b == b + suc k) ≡ false
        differ b k = grind (arith, nat_tests)

        less : (k many : ℕ) → nat_lt k many ≡ nat_lt (suc k) (suc many)
        less k many = grind (arith, nat_tests)

    none_of_them : (m : ModuleId) (b : ℕ) (ss : List ModuleState) → ((c : ℕ) → same_module (Binding c) m ≡ false) → times_seen n m (seen_by_all number b ss) ≡ 0
    none_of_them m b [] f = refl
    none_of_them m b (s ∷ ss) f = pass m b s ss (f b) ∙ none_of_them m (b + 1) ss f

    pub all_see : (m : ModuleId) (ss : List ModuleState) → times_seen n m (seen_by_all number 0 ss) ≡ one_if (is_within (length ss) m)
    all_see Miniport ss = none_of_them Miniport 0 ss (λ c. refl)
    all_see (Filter f) ss = none_of_them (Filter f) 0 ss (λ c. refl)
    all_see (Binding c) ss =
        let at : 0 + c ≡ c = omega arith in
        subst (λ k. times_seen n (Binding k) (seen_by_all number 0 ss) ≡ one_if (nat_lt c (length ss))) at (among_them c 0 ss)

    -- a filter sees it, and it goes on
    pub filter_sees : (m : ModuleId) (f : ℕ) (name : StatusName) (to : Target) → times_seen n m (row.Seen number (Filter f) ∷ row.Status number name to ∷ []) ≡ one_if (same_module (Filter f) m)
    filter_sees m f name to =
        let whole = one_seen m (row.Seen number (Filter f)) (same_module (Filter f) m) (row.Status number name to ∷ []) (own_sees m (Filter f) number t) in
        let rest = unseen m (row.Status number name to) [] refl in
        omega (arith, whole, rest)

  -- what tells nothing of this status
  pub record IsOff (rows : List Row) (net next : Net) : Type 0 where
    pub found : status_of n next ≡ status_of n net
    pub times : (m : ModuleId) → times_seen n m rows ≡ 0

  pub off_mute : (net now : Net) (rows : List Row) → statuses now.things ≡ statuses net.things → AreMute rows → IsOff rows net (after_rows now rows)
  off_mute net now rows same q = record { found = ap (status_in n) (mute_rows now rows q ∙ same); times = λ m. mute_unseen m rows q }

  pub off_tells : (net : Net) (name : StatusName) → (net.next.status == n) ≡ false → IsOff (told_row net name ∷ []) net (after_rows net (told_row net name ∷ []))
  off_tells net name f = record { found = status_leaves n net _ name _ f; times = λ m. unseen m (told_row net name) [] refl }

  pub off_works : (net : Net) (number : StatusNo) (name : StatusName) (to : Target) → (number.0 == n) ≡ false → IsOff (status_rows net number name to) net (after_rows net (status_rows net number name to))
  off_works net number name (Module k) f =
      let next : Target = next_status net.modules (position net.modules.order k) in
      record {
        found = status_leaves n (after net (row.Seen number k)) number name next f ∙ seen_leaves n net number k f;
        times = λ m.
            unseen m (row.Seen number k) (row.Status number name next ∷ []) (other_sees m k number f) ∙ unseen m (row.Status number name next) [] refl;
      }
  off_works net number name Bindings f = record { found = all_leave n net number 0 net.modules.bindings f; times = λ m. all_unseen m number 0 net.modules.bindings f }
