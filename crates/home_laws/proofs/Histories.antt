-- What the register says of the rows that led to it.
use Rattle.std.proofs.Common.{◌≡◌, ℕ, ◌+◌, ◌==◌, ◌<◌, ◌≤◌, Bool, true, false, cond, List, [], ◌∷◌, ◌++◌, Option, Some, None, refl, arith, subst, sym, ap, ◌⊎◌, inl, inr}
use Rattle.std.proofs.lemmas.Bool.Decides.{nat_tests}
use Rattle.std.proofs.lemmas.List.Elements.{Contains-append_left, Contains-push}
use Rattle.ndis_base.specs.declared.ConfigNo.{ConfigNo}
use Rattle.ndis_base.specs.declared.ListNo.{ListNo}
use Rattle.ndis_base.specs.declared.ListStatus.{ListStatus}
use Rattle.ndis_base.specs.declared.ModuleId.{ModuleId}
use Rattle.journal_types.specs.declared.Row.{Row}
use Rattle.journal_types.specs.declared.Row.TheVariants as row
use Rattle.stack_rules.specs.Outcome.{list_no}
use Rattle.home_laws.specs.Rows.{Label, issue_row, IsIssued, IsHome}
use Rattle.home_laws.proofs.Fits.{Register, empty, entered, registered, registered_rows, Fits, AllFit}
use Rattle.home_laws.proofs.Registers.{is_same}

-- each live list was issued with its label; each number that was given out is live or home
pub record Tells (rows : List Row) (reg : Register) : Type 0 where
  pub issued : (n : ℕ) (label : Label) → reg.live n ≡ Some label → IsIssued rows (list_no n) label
  pub all : (n : ℕ) → 1 ≤ n → n < reg.next → ((label : Label) × (reg.live n ≡ Some label)) ⊎ IsHome rows (list_no n)

issued_more : (rows more : List Row) (list : ListNo) (label : Label) → IsIssued rows list label → IsIssued (rows ++ more) list label
issued_more rows more list label h = record { config = h.config; here = Contains-append_left rows more (issue_row list h.config label) h.here }

home_more : (rows more : List Row) (list : ListNo) → IsHome rows list → IsHome (rows ++ more) list
home_more rows more list h = record { owner = h.owner; status = h.status; here = Contains-append_left rows more (row.Home list h.owner h.status) h.here }

abbrev LiveOrHome : List Row → (ℕ → Option Label) → ℕ → Type 0
LiveOrHome rows live n = ((label : Label) × (live n ≡ Some label)) ⊎ IsHome rows (list_no n)

still : (rows more : List Row) (live : ℕ → Option Label) (n : ℕ) → LiveOrHome rows live n → LiveOrHome (rows ++ more) live n
still rows more live n (inl h) = inl h
still rows more live n (inr h) = inr (home_more rows more (list_no n) h)

-- a row that changes no entry
tells_more : (rows more : List Row) (reg : Register) → Tells rows reg → Tells (rows ++ more) reg
tells_more rows more reg h = record {
  issued = λ n label f. issued_more rows more (list_no n) label (h.issued n label f);
  all = λ n a b. still rows more reg.live n (h.all n a b);
}

some_same : (a b : Label) → Some a ≡ Some b → a ≡ b
some_same a b h = cc

tells_issue : (rows : List Row) (reg : Register) (list : ListNo) (config : ConfigNo) (label : Label) → Tells rows reg → list.0 ≡ reg.next →
    Tells (rows ++ issue_row list config label ∷ []) (record { next = reg.next + 1; live = entered list.0 (Some label) reg.live })
tells_issue rows reg list config label h e = record {
  issued = λ n found f.
      let cases : (b : Bool) → (n == list.0) ≡ b → cond b (Some label) (reg.live n) ≡ Some found → IsIssued (rows ++ issue_row list config label ∷ []) (list_no n) found = elim [
        | true ↦ λ t g.
            let here : IsIssued (rows ++ issue_row list config label ∷ []) list label = record { config = config; here = Contains-push rows (issue_row list config label) } in
            subst (λ (l : Label). IsIssued (rows ++ issue_row list config label ∷ []) (list_no n) l) (some_same label found g)
            (subst (λ k. IsIssued (rows ++ issue_row list config label ∷ []) (list_no k) label) (sym (is_same n list.0 t)) here)
        | false ↦ λ t g. issued_more rows (issue_row list config label ∷ []) (list_no n) found (h.issued n found g)
      ] in
      cases (n == list.0) refl f;
  all = λ n a b.
      let cases : (c : Bool) → (n == list.0) ≡ c → ((l : Label) × (cond c (Some label) (reg.live n) ≡ Some l)) ⊎ IsHome (rows ++ issue_row list config label ∷ []) (list_no n) = elim [
        | true ↦ λ t. inl (label, refl)
        | false ↦ λ t. still rows (issue_row list config label ∷ []) reg.live n (h.all n a (below n reg.next list.0 b e t))
      ] in
      cases (n == list.0) refl;
}
  where
    below : (n next m : ℕ) → n < next + 1 → m ≡ next → (n == m) ≡ false → n < next
    below n next m a b c = grind (arith, nat_tests)

none_some : (label : Label) → None ≡ Some label → ⊥
none_some label h = cc

tells_home : (rows : List Row) (reg : Register) (list : ListNo) (owner : ModuleId) (status : ListStatus) → Tells rows reg →
    Tells (rows ++ row.Home list owner status ∷ []) (record reg { live = entered list.0 None reg.live })
tells_home rows reg list owner status h = record {
  issued = λ n found f.
      let cases : (b : Bool) → cond b None (reg.live n) ≡ Some found → IsIssued (rows ++ row.Home list owner status ∷ []) (list_no n) found = elim [
        | true ↦ λ g. absurd (none_some found g)
        | false ↦ λ g. issued_more rows (row.Home list owner status ∷ []) (list_no n) found (h.issued n found g)
      ] in
      cases (n == list.0) f;
  all = λ n a b.
      let cases : (c : Bool) → (n == list.0) ≡ c → ((l : Label) × (cond c None (reg.live n) ≡ Some l)) ⊎ IsHome (rows ++ row.Home list owner status ∷ []) (list_no n) = elim [
        | true ↦ λ t.
            let here : IsHome (rows ++ row.Home list owner status ∷ []) list = record { owner = owner; status = status; here = Contains-push rows (row.Home list owner status) } in
            inr (subst (λ k. IsHome (rows ++ row.Home list owner status ∷ []) (list_no k)) (sym (is_same n list.0 t)) here)
        | false ↦ λ t. still rows (row.Home list owner status ∷ []) reg.live n (h.all n a b)
      ] in
      cases (n == list.0) refl;
}

pub tells_empty : Tells [] empty
tells_empty = record { issued = λ n label h. absurd (none_some label h); all = λ n a b. absurd (omega arith) }

pub tells_after : (rows : List Row) (reg : Register) (r : Row) → Tells rows reg → Fits reg r → Tells (rows ++ r ∷ []) (registered reg r)
tells_after rows reg (row.Issue list owner config direction cancel made frames) h f =
    tells_issue rows reg list config (record { owner = owner; direction = direction; cancel = cancel; origin = made; frames = frames }) h f.0
tells_after rows reg (row.Home list owner status) h f = tells_home rows reg list owner status h
tells_after rows reg (row.Give list m by) h f = tells_more rows _ reg h
tells_after rows reg (row.Pass list way to) h f = tells_more rows _ reg h
tells_after rows reg (row.Keep list m) h f = tells_more rows _ reg h
tells_after rows reg (row.TurnBack list m status) h f = tells_more rows _ reg h
tells_after rows reg (row.Wire list frames) h f = tells_more rows _ reg h
tells_after rows reg (row.Deliver list binding how frames) h f = tells_more rows _ reg h
tells_after rows reg (row.Phase of) h f = tells_more rows _ reg h
tells_after rows reg (row.Config config filters) h f = tells_more rows _ reg h
tells_after rows reg (row.OidIssue request parent binding kind code value) h f = tells_more rows _ reg h
tells_after rows reg (row.OidGive request m) h f = tells_more rows _ reg h
tells_after rows reg (row.OidDone request status value) h f = tells_more rows _ reg h
tells_after rows reg (row.Status number name to) h f = tells_more rows _ reg h
tells_after rows reg (row.Seen number m) h f = tells_more rows _ reg h
tells_after rows reg (row.CrossOut message way frames) h f = tells_more rows _ reg h
tells_after rows reg (row.CrossIn stack message way frames) h f = tells_more rows _ reg h

snoc : (rows : List Row) (r : Row) (more : List Row) → (rows ++ r ∷ []) ++ more ≡ rows ++ r ∷ more
snoc [] r more = refl
snoc (x ∷ rows) r more = ap (λ rest. x ∷ rest) (snoc rows r more)

tells_from : (past : List Row) (reg : Register) (rows : List Row) → Tells past reg → AllFit reg rows → Tells (past ++ rows) (registered_rows reg rows)
tells_from past reg [] h f = tells_more past [] reg h
tells_from past reg (r ∷ rows) h f =
    subst (λ all. Tells all (registered_rows (registered reg r) rows)) (snoc past r rows) (tells_from (past ++ r ∷ []) (registered reg r) rows (tells_after past reg r h f.0) f.1)

-- the rows from the start
pub tells_rows : (rows : List Row) → AllFit empty rows → Tells rows (registered_rows empty rows)
tells_rows rows f = tells_from [] empty rows tells_empty f
