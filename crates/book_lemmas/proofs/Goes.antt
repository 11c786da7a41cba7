-- Pieces of a turn, one after the other.
use Rattle.std.proofs.Common.{◌≡◌, ℕ, List, [], ◌∷◌, ◌++◌, count_by, flat_map, refl, sym, ap, ◌∙◌, subst, arith, append_assoc, append-nil}
use Rattle.std.proofs.lemmas.List.{length-append}
use Rattle.std.proofs.lemmas.List.Sums.{sum_by-append}
use Rattle.flat_journal.proofs.Grown.{grows_nothing, grows_twice}
use Rattle.ndis_base.specs.declared.ModuleId.{ModuleId}
use Rattle.journal_types.specs.declared.Row.{Row}
use Rattle.stack_rules.specs.Net.{Net, after, after_rows}
use Rattle.promise_rules.specs.Calls.{is_call_of, logged_at}
use Rattle.rule_basics.proofs.Counts.{count_by-append}
use Rattle.book_lemmas.specs.Views.{BookView, HeldView}
use Rattle.driver_views.specs.States.{Record}
use Rattle.book_lemmas.specs.Did.{calls_now, calls_in, logs_in, IsServed, Did}
use Rattle.book_lemmas.specs.Turns.{Goes, HasUsed, row_frames, shown_bytes, is_way}
use Rattle.driver_tray.specs.Tray.{TrayView}
use Rattle.book_lemmas.proofs.Keeps.{keeps_none, keeps_then}

pub after_rows-append : (net : Net) (xs ys : List Row) → after_rows net (xs ++ ys) ≡ after_rows (after_rows net xs) ys
after_rows-append net [] ys = refl
after_rows-append net (x ∷ xs) ys = after_rows-append (after net x) xs ys

pub calls_in-append : (net : Net) (xs ys : List Row) → calls_in net (xs ++ ys) ≡ calls_in net xs ++ calls_in (after_rows net xs) ys
calls_in-append net [] ys = refl
calls_in-append net (x ∷ xs) ys = ap (λ cs. calls_now net x ++ cs) (calls_in-append (after net x) xs ys) ∙ sym (append_assoc (calls_now net x) (calls_in (after net x) xs) (calls_in (after_rows (after net x) xs) ys))

flat_more : {X Y : Type 0} (f : X → List Y) (xs ys : List X) → flat_map f (xs ++ ys) ≡ flat_map f xs ++ flat_map f ys
flat_more f [] ys = refl
flat_more f (x ∷ xs) ys = ap (λ zs. f x ++ zs) (flat_more f xs ys) ∙ sym (append_assoc (f x) (flat_map f xs) (flat_map f ys))

pub served_none : (m : ModuleId) (net : Net) (r : Record) → IsServed m net [] r r
served_none m net r = record { calls = λ what. omega arith; log = sym (append-nil r.log) }

pub served_then : (m : ModuleId) (net : Net) (xs ys : List Row) (a b c : Record) → IsServed m net xs a b → IsServed m (after_rows net xs) ys b c → IsServed m net (xs ++ ys) a c
served_then m net xs ys a b c s t = record {
  calls = λ what.
      let first = s.calls what in
      let then = t.calls what in
      let both = ap (count_by (is_call_of m what)) (calls_in-append net xs ys) ∙ count_by-append (is_call_of m what) (calls_in net xs) (calls_in (after_rows net xs) ys) in
      omega (arith, first, then, both);
  log = t.log ∙ ap (λ log. log ++ logs_in m ys) s.log ∙ append_assoc a.log (logs_in m xs) (logs_in m ys) ∙ ap (λ more. a.log ++ more) (sym (flat_more (logged_at m) xs ys));
}

pub did_none : (seats : List (ℕ × ℕ)) (held : HeldView) (net : Net) → Did seats held held net []
did_none seats held net = record {
  miniport = served_none _ net _;
  protocols = λ i. served_none _ net _;
  filters = λ f place seat. served_none _ net _;
  shelved = λ place none. record { calls = λ what. refl; log = refl };
  keeps = keeps_none held;
}

pub did_then : (seats : List (ℕ × ℕ)) (a b c : HeldView) (net : Net) (xs ys : List Row) → Did seats a b net xs → Did seats b c (after_rows net xs) ys → Did seats a c net (xs ++ ys)
did_then seats a b c net xs ys s t = record {
  miniport = served_then _ net xs ys _ _ _ s.miniport t.miniport;
  protocols = λ i. served_then _ net xs ys _ _ _ (s.protocols i) (t.protocols i);
  filters = λ f place seat. served_then _ net xs ys _ _ _ (s.filters f place seat) (t.filters f place seat);
  shelved = λ place none. record { calls = λ what. (t.shelved place none).calls what ∙ (s.shelved place none).calls what; log = (t.shelved place none).log ∙ (s.shelved place none).log };
  keeps = keeps_then a b c s.keeps t.keeps;
}

pub used_none : (t : TrayView) → HasUsed t [] t
used_none t = record { rows_used = omega arith; frames = omega arith; bytes = omega arith; slack = omega arith; turns = omega arith; payloads = grows_nothing t.payloads }

pub used_then : (a b c : TrayView) (xs ys : List Row) → HasUsed a xs b → HasUsed b ys c → HasUsed a (xs ++ ys) c
used_then a b c xs ys g k = record {
  rows_used = omega (arith, g.rows_used, k.rows_used, length-append xs ys);
  frames = omega (arith, g.frames, k.frames, sum_by-append row_frames xs ys);
  bytes = omega (arith, g.bytes, k.bytes, sum_by-append shown_bytes xs ys);
  slack = omega (arith, g.slack, k.slack, count_by-append is_way xs ys);
  turns = omega (arith, g.turns, k.turns);
  payloads = grows_twice a.payloads b.payloads c.payloads g.payloads k.payloads;
}

pub goes_none : (seats : List (ℕ × ℕ)) (b : BookView) → Goes seats b b []
goes_none seats b = record {
  head = refl;
  turns = refl;
  told_by = refl;
  net = refl;
  rows = sym (append-nil b.tray.rows);
  used = used_none b.tray;
  did = did_none seats b.held b.tray.net;
}

pub goes_then : (seats : List (ℕ × ℕ)) (a b c : BookView) (xs ys : List Row) → Goes seats a b xs → Goes seats b c ys → Goes seats a c (xs ++ ys)
goes_then seats a b c xs ys g k = record {
  head = k.head ∙ g.head;
  turns = k.turns ∙ g.turns;
  told_by = k.told_by ∙ g.told_by;
  net = k.net ∙ ap (λ n. after_rows n ys) g.net ∙ sym (after_rows-append a.tray.net xs ys);
  rows = k.rows ∙ ap (λ rows. rows ++ ys) g.rows ∙ append_assoc a.tray.rows xs ys;
  used = used_then a.tray b.tray c.tray xs ys g.used k.used;
  did = did_then seats a.held b.held c.held a.tray.net xs ys g.did (subst (λ n. Did seats b.held c.held n ys) g.net k.did);
}
