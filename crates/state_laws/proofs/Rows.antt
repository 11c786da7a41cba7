-- Rows one after the other, and rows that change no state of a module.
use Rattle.std.proofs.Common.{◌≡◌, Bool, true, false, cond, List, [], ◌∷◌, ◌++◌, refl, ◌∙◌, map}
use Rattle.std.specs.List.{flat_map}
use Rattle.journal_types.specs.declared.PhaseOf.TheVariants as of
use Rattle.journal_types.specs.declared.Row.{Row}
use Rattle.journal_types.specs.declared.Row.TheVariants as row
use Rattle.stack_rules.specs.Net.{Net, after, after_rows}

-- a goal about a choice, by its cases
pub by_test : {A : Type 0} (P : A → Type 0) (b : Bool) (x y : A) → (b ≡ true → P x) → (b ≡ false → P y) → P (cond b x y)
by_test P true x y f g = f refl
by_test P false x y f g = g refl

pub after_rows-append : (net : Net) (xs ys : List Row) → after_rows net (xs ++ ys) ≡ after_rows (after_rows net xs) ys
after_rows-append net [] ys = refl
after_rows-append net (x ∷ xs) ys = after_rows-append (after net x) xs ys

-- the row tells no state and no configuration
abbrev pub is_quiet : Row → Bool
is_quiet (row.Phase of) = false
is_quiet (row.Config config filters) = false
is_quiet _ = true

abbrev pub AreQuiet : List Row → Type 0
AreQuiet [] = Unit {0}
AreQuiet (r ∷ rows) = (is_quiet r ≡ true) × AreQuiet rows

-- the row tells no state, no configuration and nothing of a request
abbrev pub is_calm : Row → Bool
is_calm (row.OidIssue request parent binding kind code value) = false
is_calm (row.OidGive request m) = false
is_calm (row.OidDone request status value) = false
is_calm r = is_quiet r

abbrev pub AreCalm : List Row → Type 0
AreCalm [] = Unit {0}
AreCalm (r ∷ rows) = (is_calm r ≡ true) × AreCalm rows

calm_row : (r : Row) → is_calm r ≡ true → is_quiet r ≡ true
calm_row (row.OidIssue request parent binding kind code value) h = refl
calm_row (row.OidGive request m) h = refl
calm_row (row.OidDone request status value) h = refl
calm_row r h = h

pub calm_quiet : (rows : List Row) → AreCalm rows → AreQuiet rows
calm_quiet [] h = tt
calm_quiet (r ∷ rows) h = (calm_row r h.0, calm_quiet rows h.1)

pub calm-append : (xs ys : List Row) → AreCalm xs → AreCalm ys → AreCalm (xs ++ ys)
calm-append [] ys h k = k
calm-append (x ∷ xs) ys h k = (h.0, calm-append xs ys h.1 k)

pub calm-map : {A : Type 0} (f : A → Row) (xs : List A) → ((x : A) → is_calm (f x) ≡ true) → AreCalm (map f xs)
calm-map f [] h = tt
calm-map f (x ∷ xs) h = (h x, calm-map f xs h)

pub calm-flat_map : {A : Type 0} (f : A → List Row) (xs : List A) → ((x : A) → AreCalm (f x)) → AreCalm (flat_map f xs)
calm-flat_map f [] h = tt
calm-flat_map f (x ∷ xs) h = calm-append (f x) (flat_map f xs) (h x) (calm-flat_map f xs h)

-- the same head, phase, modules and next filter
pub record IsSame (net next : Net) : Type 0 where
  pub head : next.head ≡ net.head
  pub phase : next.phase ≡ net.phase
  pub modules : next.modules ≡ net.modules
  pub filter : next.next.filter ≡ net.next.filter

pub same-refl : (net : Net) → IsSame net net
same-refl net = record { head = refl; phase = refl; modules = refl; filter = refl }

pub same-then : (a b c : Net) → IsSame a b → IsSame b c → IsSame a c
same-then a b c h k = record {
  head = k.head ∙ h.head;
  phase = k.phase ∙ h.phase;
  modules = k.modules ∙ h.modules;
  filter = k.filter ∙ h.filter;
}

pub quiet_row : (net : Net) (r : Row) → is_quiet r ≡ true → IsSame net (after net r)
quiet_row net (row.Issue list owner config direction cancel origin frames) q = record { head = refl; phase = refl; modules = refl; filter = refl }
quiet_row net (row.Give list m handler) q = record { head = refl; phase = refl; modules = refl; filter = refl }
quiet_row net (row.Pass list way to) q = record { head = refl; phase = refl; modules = refl; filter = refl }
quiet_row net (row.Keep list m) q = record { head = refl; phase = refl; modules = refl; filter = refl }
quiet_row net (row.TurnBack list m status) q = record { head = refl; phase = refl; modules = refl; filter = refl }
quiet_row net (row.Home list owner status) q = record { head = refl; phase = refl; modules = refl; filter = refl }
quiet_row net (row.Wire list frames) q = record { head = refl; phase = refl; modules = refl; filter = refl }
quiet_row net (row.Deliver list binding how frames) q = record { head = refl; phase = refl; modules = refl; filter = refl }
quiet_row net (row.Phase (of.Module m s)) q = cc
quiet_row net (row.Phase (of.Stack p)) q = cc
quiet_row net (row.Config config filters) q = cc
quiet_row net (row.OidIssue request parent binding kind code value) q = record { head = refl; phase = refl; modules = refl; filter = refl }
quiet_row net (row.OidGive request m) q = record { head = refl; phase = refl; modules = refl; filter = refl }
quiet_row net (row.OidDone request status value) q = record { head = refl; phase = refl; modules = refl; filter = refl }
quiet_row net (row.Status number name to) q = record { head = refl; phase = refl; modules = refl; filter = refl }
quiet_row net (row.Seen number m) q = record { head = refl; phase = refl; modules = refl; filter = refl }
quiet_row net (row.CrossOut message way frames) q = record { head = refl; phase = refl; modules = refl; filter = refl }
quiet_row net (row.CrossIn stack message way frames) q = record { head = refl; phase = refl; modules = refl; filter = refl }

pub quiet_rows : (net : Net) (rows : List Row) → AreQuiet rows → IsSame net (after_rows net rows)
quiet_rows net [] q = same-refl net
quiet_rows net (r ∷ rows) q = same-then net (after net r) (after_rows (after net r) rows) (quiet_row net r q.0) (quiet_rows (after net r) rows q.1)
