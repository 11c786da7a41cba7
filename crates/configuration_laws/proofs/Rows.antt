-- What each row leaves of the claims: each live list is found as it was issued, and what is left to be done with
-- the frames of a send is what the promise asks for.
use Rattle.std.proofs.Common.{◌≡◌, ℕ, ◌==◌, ◌⊎◌, inl, inr, Bool, false, List, [], ◌∷◌, ◌++◌, Option, Some, None, option_map, refl, arith, ap, sym, subst, ◌∙◌}
use Rattle.std.proofs.lemmas.Bool.Decides.{nat_tests}
use Rattle.ndis_base.specs.declared.ConfigNo.{ConfigNo}
use Rattle.ndis_base.specs.declared.ListNo.{ListNo}
use Rattle.ndis_base.specs.declared.ModuleId.{ModuleId}
use Rattle.ndis_base.specs.declared.ModuleId.TheVariants.{Miniport, Filter, Binding}
use Rattle.journal_types.specs.declared.OutWay.TheVariants as out
use Rattle.journal_types.specs.declared.PassWay.{PassWay}
use Rattle.journal_types.specs.declared.PassWay.TheVariants as way
use Rattle.journal_types.specs.declared.PhaseOf.TheVariants as of
use Rattle.journal_types.specs.declared.Row.{Row}
use Rattle.journal_types.specs.declared.Row.TheVariants as row
use Rattle.journal_types.specs.declared.Target.{Target}
use Rattle.journal_types.specs.declared.Target.TheVariants.{Module}
use Rattle.journal_types.specs.declared.Turn.{Turn}
use Rattle.stack_rules.specs.declared.LiveList.{LiveList}
use Rattle.stack_rules.specs.declared.Stand.{Stand}
use Rattle.stack_rules.specs.declared.Stand.TheVariants as stand
use Rattle.stack_rules.specs.Tests.{is_down}
use Rattle.stack_rules.specs.Net.{Net, after, after_rows, below, lists, list_of, had_by, taken_by, request_of}
use Rattle.rule_basics.proofs.Numbered.{lists-things_done, lists-status, lists-without_status}
use Rattle.home_laws.specs.Rows.{Label, issue_row}
use Rattle.home_laws.specs.Standing.{label_of}
use Rattle.home_laws.proofs.Fits.{Register, registered, Fits, AllFit, IsSane}
use Rattle.home_laws.proofs.Registers.{sane_after, next_is_free}
use Rattle.home_laws.proofs.Agreed.{Agrees, label_in, agrees_after}
use Rattle.place_laws.proofs.Good.{cloned_from, by_number, one_found, none_found, changed_is}
use Rattle.place_laws.proofs.Looks.{look, passing, keeping, issued, look_pass, look_keep, look_give, look_back, look_home, look_issue, look_out, not_live}
use Rattle.promise_rules.specs.Rows.{issue_of}
use Rattle.family_laws.specs.Claims.{frames_of}
use Rattle.configuration_laws.specs.Claims.{left_up, IsLeft, Receives}

-- what the journal tells of a list: whether it is a send, and what it is a clone of
abbrev pub sends_in : Option Row → Bool
sends_in (Some (row.Issue list owner config d cancel made frames)) = is_down d
sends_in _ = false

abbrev pub clone_in : Option Row → Option ℕ
clone_in (Some (row.Issue list owner config d cancel made frames)) = cloned_from made
clone_in _ = None

-- the live list is the one that the journal tells of
pub record IsIssuedAs (turns : List Turn) (n : ℕ) (l : LiveList) : Type 0 where
  pub config : ConfigNo
  pub is : issue_of turns n ≡ Some (issue_row l.list config (label_of l))

-- a clone of it is live
pub record IsCloned (find : ℕ → Option LiveList) (n : ℕ) : Type 0 where
  pub number : ℕ
  pub clone : LiveList
  pub found : find number ≡ Some clone
  pub from : cloned_from clone.origin ≡ Some n

module _ (max : ℕ) (turns : List Turn) (order : List ℕ) where
  abbrev pub ReceivesTo : Target → Type 0
  ReceivesTo (Module (Filter f)) = Receives turns f
  ReceivesTo _ = Unit {0}

  -- what is left to be done with a list's frames, by where it stands
  abbrev pub Claim : (ℕ → Option LiveList) → ℕ → Stand → Type 0
  Claim find n stand.Unplaced = Unit {0}
  Claim find n (stand.Kept Miniport) = Unit {0}
  Claim find n (stand.Kept (Filter f)) = (sends_in (issue_of turns n) ≡ false → IsLeft max turns (below f order) n) ⊎ IsCloned find n
  Claim find n (stand.Kept (Binding b)) = Unit {0}
  Claim find n (stand.Passed way.Down to) = Unit {0}
  Claim find n (stand.Passed way.Up to) = IsLeft max turns (left_up order to) n × ReceivesTo to
  Claim find n (stand.Passed (way.Done status) to) = Unit {0}
  Claim find n (stand.Passed (way.Back status) to) = Unit {0}

  -- each live list but one, that of which the clone has just come home
  pub record AreClaimed (but : Option ℕ) (find : ℕ → Option LiveList) : Type 0 where
    pub claims : (n : ℕ) (l : LiveList) → find n ≡ Some l → (but ≡ Some n → ⊥) → Claim find n l.stand
    pub told : (n : ℕ) (l : LiveList) → find n ≡ Some l → IsIssuedAs turns n l

  claim_later : (find later : ℕ → Option LiveList) (n : ℕ) (s : Stand) → (IsCloned find n → IsCloned later n) → Claim find n s → Claim later n s
  claim_later find later n (stand.Kept (Filter f)) go (inl h) = inl h
  claim_later find later n (stand.Kept (Filter f)) go (inr h) = inr (go h)
  claim_later find later n stand.Unplaced go h = h
  claim_later find later n (stand.Kept Miniport) go h = h
  claim_later find later n (stand.Kept (Binding b)) go h = h
  claim_later find later n (stand.Passed way.Down to) go h = h
  claim_later find later n (stand.Passed way.Up to) go h = h
  claim_later find later n (stand.Passed (way.Done status) to) go h = h
  claim_later find later n (stand.Passed (way.Back status) to) go h = h

  none_some : (n : ℕ) → None ≡ Some n → ⊥
  none_some n e = cc

  -- a change keeps what the list was issued as
  pub record IsLabelled (g : LiveList → LiveList) : Type 0 where
    pub same : (x : LiveList) → label_of (g x) ≡ label_of x
    pub number : (x : LiveList) → (g x).list ≡ x.list

  module _ (find later : ℕ → Option LiveList) (n : ℕ) (others : (m : ℕ) → (n == m) ≡ false → later m ≡ find m) where
    cloned_still : (g : LiveList → LiveList) → IsLabelled g → later n ≡ option_map g (find n) → (m : ℕ) → IsCloned find m → IsCloned later m
    cloned_still g same here m c =
        by_number n c.number (IsCloned later m)
        (λ t. record { number = c.number; clone = c.clone; found = others c.number t ∙ c.found; from = c.from })
        (λ e. record {
          number = c.number;
          clone = g c.clone;
          found = ap later (sym e) ∙ here ∙ ap (option_map g) (ap find e ∙ c.found);
          from = ap (λ (x : Label). cloned_from x.origin) (same.same c.clone) ∙ c.from;
        })

    -- a list has changed
    pub claims_changed : (g : LiveList → LiveList) → IsLabelled g → later n ≡ option_map g (find n) → (but : Option ℕ) → ((m : ℕ) → but ≡ Some m → n ≡ m) → AreClaimed but find → ((x : LiveList) → find n ≡ Some x → Claim later n (g x).stand) → AreClaimed None later
    claims_changed g same here but only h new = record {
      claims = λ m l f not_it. by_number n m (Claim later m l.stand)
          (λ t. claim_later find later m l.stand (cloned_still g same here m) (h.claims m l (sym (others m t) ∙ f) (λ e. differ m t (only m e))))
          (λ e. let x = changed_is g (find n) l (sym here ∙ ap later e ∙ f) in
          subst (λ i. Claim later i l.stand) e (subst (λ (y : LiveList). Claim later n y.stand) (sym x.2) (new x.0 x.1)));
      told = λ m l f. by_number n m (IsIssuedAs turns m l)
          (λ t. h.told m l (sym (others m t) ∙ f))
          (λ e. let x = changed_is g (find n) l (sym here ∙ ap later e ∙ f) in
          let was : IsIssuedAs turns n x.0 = h.told n x.0 x.1 in
          subst (λ i. IsIssuedAs turns i l) e (subst (IsIssuedAs turns n) (sym x.2) record {
            config = was.config;
            is = was.is ∙ ap (λ i. Some (issue_row i was.config (label_of x.0))) (sym (same.number x.0)) ∙ ap (λ i. Some (issue_row (g x.0).list was.config i)) (sym (same.same x.0));
          }));
    }
      where
        differ : (m : ℕ) → (n == m) ≡ false → n ≡ m → ⊥
        differ m t e = grind (arith, nat_tests)

    -- a list stays where it stands
    pub claims_touched : (g : LiveList → LiveList) → IsLabelled g → ((x : LiveList) → (g x).stand ≡ x.stand) → later n ≡ option_map g (find n) → AreClaimed None find → AreClaimed None later
    claims_touched g same stays here h =
        claims_changed g same here None (λ m e. absurd (none_some m e)) h
        (λ x f. subst (Claim later n) (sym (stays x)) (claim_later find later n x.stand (cloned_still g same here n) (h.claims n x f (none_some n))))

    -- a list has come
    pub claims_new : (new : LiveList) → find n ≡ None → later n ≡ Some new → new.stand ≡ stand.Unplaced → IsIssuedAs turns n new → AreClaimed None find → AreClaimed None later
    claims_new new free here at is h = record {
      claims = λ m l f not_it. by_number n m (Claim later m l.stand)
          (λ t. claim_later find later m l.stand (still m) (h.claims m l (sym (others m t) ∙ f) (none_some m)))
          (λ e. let one : new ≡ l = one_found (later m) new l (ap later (sym e) ∙ here) f in
          subst (Claim later m) (sym at ∙ ap (λ (x : LiveList). x.stand) one) tt);
      told = λ m l f. by_number n m (IsIssuedAs turns m l)
          (λ t. h.told m l (sym (others m t) ∙ f))
          (λ e. let one : new ≡ l = one_found (later m) new l (ap later (sym e) ∙ here) f in
          subst (λ i. IsIssuedAs turns i l) e (subst (IsIssuedAs turns n) one is));
    }
      where
        still : (m : ℕ) → IsCloned find m → IsCloned later m
        still m c =
            by_number n c.number (IsCloned later m)
            (λ t. record { number = c.number; clone = c.clone; found = others c.number t ∙ c.found; from = c.from })
            (λ e. absurd (none_found (find c.number) c.clone (ap find (sym e) ∙ free) c.found))

    -- a list has gone
    pub claims_gone : (gone : LiveList) → find n ≡ Some gone → later n ≡ None → AreClaimed None find → AreClaimed (cloned_from gone.origin) later
    claims_gone gone was here h = record {
      claims = λ m l f not_it. claim_later find later m l.stand (still m not_it) (h.claims m l (old m l f) (none_some m));
      told = λ m l f. h.told m l (old m l f);
    }
      where
        old : (m : ℕ) (l : LiveList) → later m ≡ Some l → find m ≡ Some l
        old m l f = by_number n m (find m ≡ Some l) (λ t. sym (others m t) ∙ f) (λ e. absurd (none_found (later m) l (ap later (sym e) ∙ here) f))

        still : (m : ℕ) → (cloned_from gone.origin ≡ Some m → ⊥) → IsCloned find m → IsCloned later m
        still m not_it c =
            by_number n c.number (IsCloned later m)
            (λ t. record { number = c.number; clone = c.clone; found = others c.number t ∙ c.found; from = c.from })
            (λ e. let one : gone ≡ c.clone = one_found (find c.number) gone c.clone (ap find (sym e) ∙ was) c.found in absurd (not_it (ap (λ (x : LiveList). cloned_from x.origin) one ∙ c.from)))

  -- what a row owes
  abbrev pub Owes : Row → Type 0
  Owes (row.Issue list owner config d cancel made frames) = issue_of turns list.0 ≡ Some (row.Issue list owner config d cancel made frames)
  Owes (row.Pass list way.Up to) = IsLeft max turns (left_up order to) list.0 × ReceivesTo to
  Owes (row.Keep list (Filter f)) = sends_in (issue_of turns list.0) ≡ false → IsLeft max turns (below f order) list.0
  Owes (row.Home list owner status) = clone_in (issue_of turns list.0) ≡ None
  Owes (row.Deliver list binding how frames) = IsLeft max turns [] list.0 × (frames_of turns list.0 ≡ frames)
  Owes _ = Unit {0}

  abbrev pub AllOwe : List Row → Type 0
  AllOwe [] = Unit {0}
  AllOwe (r ∷ rows) = Owes r × AllOwe rows

  pub owe-append : (xs ys : List Row) → AllOwe xs → AllOwe ys → AllOwe (xs ++ ys)
  owe-append [] ys h k = k
  owe-append (x ∷ xs) ys h k = (h.0, owe-append xs ys h.1 k)

  abbrev pub Claimed : Net → Type 0
  Claimed net = AreClaimed None (look net)

  claimed_same : (net next : Net) → lists next.things ≡ lists net.things → Claimed net → Claimed next
  claimed_same net next e h = subst (λ (ls : List LiveList). AreClaimed None (λ n. list_of n ls)) (sym e) h

  pass_claim : (find : ℕ → Option LiveList) (list : ListNo) (w : PassWay) (to : Target) → Owes (row.Pass list w to) → Claim find list.0 (stand.Passed w to)
  pass_claim find list way.Down to h = tt
  pass_claim find list way.Up to h = h
  pass_claim find list (way.Done status) to h = tt
  pass_claim find list (way.Back status) to h = tt

  keep_claim : (find : ℕ → Option LiveList) (list : ListNo) (m : ModuleId) → Owes (row.Keep list m) → Claim find list.0 (stand.Kept m)
  keep_claim find list Miniport h = tt
  keep_claim find list (Filter f) h = inl h
  keep_claim find list (Binding b) h = tt

  -- a number that isn't in the register finds nothing
  pub free_look : (net : Net) (reg : Register) (n : ℕ) → Agrees net reg → IsSane reg → n ≡ reg.next → look net n ≡ None
  free_look net reg n h s e = by (look net n) refl
    where
      by : (o : Option LiveList) → look net n ≡ o → look net n ≡ None
      by None f = f
      by (Some l) f = absurd (clash (label_of l) (sym (ap label_in f) ∙ h.live n ∙ ap reg.live e ∙ next_is_free reg s))
        where
          clash : (x : Label) → Some x ≡ None → ⊥
          clash x e = cc

  -- each row
  pub row_claimed : (net : Net) (reg : Register) (r : Row) → Agrees net reg → IsSane reg → Fits reg r → Owes r → Claimed net → Claimed (after net r)
  row_claimed net reg (row.Issue list owner config d cancel made frames) a s f o h =
      let free : look net list.0 ≡ None = free_look net reg list.0 a s f.0 in
      let u = look_issue net list owner config d cancel made frames (not_live list.0 (lists net.things) free) in
      claims_new (look net) (look (after net (row.Issue list owner config d cancel made frames))) list.0 u.others (issued list owner d cancel made frames) free u.here refl record { config = config; is = o } h
  row_claimed net reg (row.Give list m handler) a s f o h =
      let u = look_give net list m handler in
      claims_touched (look net) (look (after net (row.Give list m handler))) list.0 u.others (had_by m) record { same = λ x. refl; number = λ x. refl } (λ x. refl) u.here h
  row_claimed net reg (row.Pass list w to) a s f o h =
      let u = look_pass net list w to in
      let next : Net = after net (row.Pass list w to) in
      claims_changed (look net) (look next) list.0 u.others (passing w to) record { same = λ x. refl; number = λ x. refl } u.here None (λ m e. absurd (none_some m e)) h (λ x g. pass_claim (look next) list w to o)
  row_claimed net reg (row.Keep list m) a s f o h =
      let u = look_keep net list m in
      let next : Net = after net (row.Keep list m) in
      claims_changed (look net) (look next) list.0 u.others (keeping m) record { same = λ x. refl; number = λ x. refl } u.here None (λ m e. absurd (none_some m e)) h (λ x g. keep_claim (look next) list m o)
  row_claimed net reg (row.TurnBack list m status) a s f o h =
      let u = look_back net list m status in
      claims_touched (look net) (look (after net (row.TurnBack list m status))) list.0 u.others (had_by m) record { same = λ x. refl; number = λ x. refl } (λ x. refl) u.here h
  row_claimed net reg (row.Home list owner status) a s f o h = by (look net list.0) refl
    where
      by : (x : Option LiveList) → look net list.0 ≡ x → Claimed (after net (row.Home list owner status))
      by (Some l) e =
          let u = look_home net list owner status in
          let none : cloned_from l.origin ≡ None = sym (ap clone_in (h.told list.0 l e).is) ∙ o in
          subst (λ b. AreClaimed b (look (after net (row.Home list owner status)))) none (claims_gone (look net) (look (after net (row.Home list owner status))) list.0 u.others l e u.here h)
      by None e = absurd (clash f.label (sym (ap label_in e) ∙ a.live list.0 ∙ f.found))
        where
          clash : (x : Label) → None ≡ Some x → ⊥
          clash x e = cc
  row_claimed net reg (row.Wire list frames) a s f o h = h
  row_claimed net reg (row.Deliver list binding how frames) a s f o h = h
  row_claimed net reg (row.Phase (of.Module m x)) a s f o h = h
  row_claimed net reg (row.Phase (of.Stack p)) a s f o h = h
  row_claimed net reg (row.Config config filters) a s f o h = h
  row_claimed net reg (row.OidIssue request parent binding kind code value) a s f o h = h
  row_claimed net reg (row.OidGive request m) a s f o h = h
  row_claimed net reg (row.OidDone request status value) a s f o h =
      claimed_same net (after net (row.OidDone request status value)) (lists-things_done (request_of request.0 net.requests) request status value net.things) h
  row_claimed net reg (row.Status number name to) a s f o h = claimed_same net (after net (row.Status number name to)) (lists-status number.0 net.things _ refl) h
  row_claimed net reg (row.Seen number m) a s f o h = claimed_same net (after net (row.Seen number m)) (lists-without_status number.0 net.things) h
  row_claimed net reg (row.CrossOut message (out.Down list) frames) a s f o h =
      let u = look_out net message list frames in
      claims_touched (look net) (look (after net (row.CrossOut message (out.Down list) frames))) list.0 u.others (taken_by message.0) record { same = λ x. refl; number = λ x. refl } (λ x. refl) u.here h
  row_claimed net reg (row.CrossOut message out.Up frames) a s f o h = h
  row_claimed net reg (row.CrossIn stack message way frames) a s f o h = h

  -- rows that owe nothing that isn't there
  pub rows_claimed : (net : Net) (reg : Register) (rows : List Row) → Agrees net reg → IsSane reg → AllFit reg rows → AllOwe rows → Claimed net → Claimed (after_rows net rows)
  rows_claimed net reg [] a s f o h = h
  rows_claimed net reg (r ∷ rows) a s f o h =
      rows_claimed (after net r) (registered reg r) rows (agrees_after net reg r a s f.0) (sane_after reg r s f.0) f.1 o.1 (row_claimed net reg r a s f.0 o.0 h)
