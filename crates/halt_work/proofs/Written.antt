-- The rows of a halt: nobody is called, and the state after them.
use Rattle.std.proofs.Common.{◌≡◌, ℕ, cond, List, [], ◌∷◌, ◌++◌, length, refl, sym, ap, ◌∙◌, subst, arith, append_assoc, append-nil}
use Rattle.std.proofs.lemmas.List.Sums.{sum_by-cons}
use Rattle.flat_journal.proofs.Grown.{grows_nothing}
use Rattle.ndis_base.specs.declared.ModuleId.{ModuleId}
use Rattle.ndis_base.specs.declared.ModuleId.TheVariants.{Miniport, Filter, Binding}
use Rattle.ndis_base.specs.declared.ModuleState.TheVariants as state
use Rattle.journal_types.specs.declared.Row.{Row}
use Rattle.stack_rules.specs.Net.{Net, after, after_rows}
use Rattle.stack_rules.specs.Pauses.{state_row, state_rows, halt_rows}
use Rattle.promise_rules.specs.Calls.{logged_at}
use Rattle.driver_tray.specs.Tray.{TrayView, written}
use Rattle.book_lemmas.specs.Did.{calls_in, logs_in}
use Rattle.book_lemmas.specs.Leaves.{ArePhases}
use Rattle.book_lemmas.specs.Turns.{HasUsed, row_frames, shown_bytes, is_way}
use Rattle.book_lemmas.proofs.Goes.{after_rows-append, calls_in-append, used_none, used_then}
use Rattle.phase_work.specs.Written.{each_written, bindings_from}
use Rattle.phase_work.proofs.EachBinding.{each_append}
use Rattle.phase_work.proofs.Pausing.{all_bindings}
use Rattle.phase_work.proofs.Written.{HasWritten, has_written, phases_call, phases_log}
use Rattle.setup_work.proofs.Rows.{twice_phases, written_then}
use Rattle.halt_work.specs.Halted.{closing, detached, last_rows, halted_rows}

-- the row of a filter that is detached
abbrev pub off_row : ℕ → Row
off_row f = state_row state.Detached (Filter f)

off_used : (t : TrayView) (f : ℕ) → HasUsed t (off_row f ∷ []) (written t (off_row f))
off_used t f =
    let one : length (off_row f ∷ []) ≡ 1 = refl in
    let shown = sum_by-cons row_frames (off_row f) [] in
    let long = sum_by-cons shown_bytes (off_row f) [] in
    let ways = sum_by-cons (λ q. cond (is_way q) 1 0) (off_row f) [] in
    record { rows_used = omega (arith, one); frames = omega (arith, shown); bytes = omega (arith, long); slack = omega (arith, ways); turns = omega arith; payloads = grows_nothing t.payloads }

detached_written : (fs : List ℕ) (t : TrayView) → HasWritten t (detached fs) (each_written t (detached fs))
detached_written [] t = record { net = refl; rows_are = sym (append-nil t.rows); head = refl; turns = refl; told_by = refl; queue = refl; used = used_none t }
detached_written (f ∷ fs) t =
    let more = detached_written fs (written t (off_row f)) in
    record {
      net = more.net;
      rows_are = more.rows_are ∙ append_assoc t.rows (off_row f ∷ []) (detached fs);
      head = more.head;
      turns = more.turns;
      told_by = more.told_by;
      queue = more.queue;
      used = used_then t (written t (off_row f)) (each_written (written t (off_row f)) (detached fs)) (off_row f ∷ []) (detached fs) (off_used t f) more.used;
    }

-- the rows before and after them are of phases alone
pub closing_phases : (n : ℕ) → ArePhases (closing n)
closing_phases n = plain (closing n) (twice_phases state.Closing state.Unbound (record {}) (record {}) (bindings_from 0 n) [] (record {}))
  where
    plain : (rows : List Row) → ArePhases (rows ++ []) → ArePhases rows
    plain rows p = subst ArePhases (append-nil rows) p

last_phases : ArePhases last_rows
last_phases = (record {}, (record {}, record {}))

pub halted_written : (n : ℕ) (fs : List ℕ) (t : TrayView) → HasWritten t (halted_rows n fs) (each_written t (halted_rows n fs))
halted_written n fs t =
    let a : TrayView = each_written t (closing n) in
    let b : TrayView = each_written a (detached fs) in
    let c : TrayView = each_written b last_rows in
    let whole : each_written t (halted_rows n fs) ≡ c = each_append (closing n) (detached fs ++ last_rows) t ∙ each_append (detached fs) last_rows a in
    subst (HasWritten t (halted_rows n fs)) (sym whole)
    (written_then t a c (closing n) (detached fs ++ last_rows) (has_written (closing n) t (closing_phases n))
    (written_then a b c (detached fs) last_rows (detached_written fs a) (has_written last_rows b last_phases)))

-- nobody is called, and nothing is logged
detached_calls : (fs : List ℕ) (net : Net) → calls_in net (detached fs) ≡ []
detached_calls [] net = refl
detached_calls (f ∷ fs) net = detached_calls fs (after net (off_row f))

off_silent : (m : ModuleId) (f : ℕ) → logged_at m (off_row f) ≡ []
off_silent Miniport f = refl
off_silent (Filter g) f = refl
off_silent (Binding b) f = refl

detached_logs : (m : ModuleId) (fs : List ℕ) → logs_in m (detached fs) ≡ []
detached_logs m [] = refl
detached_logs m (f ∷ fs) = ap (λ ls. ls ++ logs_in m (detached fs)) (off_silent m f) ∙ detached_logs m fs

logs_append : (m : ModuleId) (xs ys : List Row) → logs_in m (xs ++ ys) ≡ logs_in m xs ++ logs_in m ys
logs_append m [] ys = refl
logs_append m (x ∷ xs) ys = ap (λ zs. logged_at m x ++ zs) (logs_append m xs ys) ∙ sym (append_assoc (logged_at m x) (logs_in m xs) (logs_in m ys))

pub halted_calls : (net : Net) (n : ℕ) (fs : List ℕ) → calls_in net (halted_rows n fs) ≡ []
halted_calls net n fs =
    let a : Net = after_rows net (closing n) in
    calls_in-append net (closing n) (detached fs ++ last_rows)
    ∙ ap (λ cs. cs ++ calls_in a (detached fs ++ last_rows)) (phases_call net (closing n) (closing_phases n))
    ∙ calls_in-append a (detached fs) last_rows
    ∙ ap (λ cs. cs ++ calls_in (after_rows a (detached fs)) last_rows) (detached_calls fs a)
    ∙ phases_call (after_rows a (detached fs)) last_rows last_phases

pub halted_logs : (m : ModuleId) (n : ℕ) (fs : List ℕ) → logs_in m (halted_rows n fs) ≡ []
halted_logs m n fs =
    logs_append m (closing n) (detached fs ++ last_rows)
    ∙ ap (λ ls. ls ++ logs_in m (detached fs ++ last_rows)) (phases_log m (closing n) (closing_phases n))
    ∙ logs_append m (detached fs) last_rows
    ∙ ap (λ ls. ls ++ logs_in m last_rows) (detached_logs m fs)
    ∙ phases_log m last_rows last_phases

-- they are those of the rules
pub rows_are : (n : ℕ) (net : Net) → n ≡ length net.modules.bindings → halted_rows n net.modules.order ≡ halt_rows net
rows_are n net e = ap (λ ms. state_rows (state.Closing ∷ state.Unbound ∷ []) ms ++ (detached net.modules.order ++ last_rows)) (ap (bindings_from 0) e ∙ all_bindings 0 net.modules.bindings)

-- the state after them, by its parts
abbrev pub closed_net : Net → ℕ → Net
closed_net net n = after_rows net (closing n)

abbrev pub left_net : Net → ℕ → List ℕ → Net
left_net net n fs = after_rows (closed_net net n) (detached fs)

pub halted_net : (net : Net) (n : ℕ) (fs : List ℕ) → after_rows net (halted_rows n fs) ≡ after_rows (left_net net n fs) last_rows
halted_net net n fs = after_rows-append net (closing n) (detached fs ++ last_rows) ∙ after_rows-append (closed_net net n) (detached fs) last_rows
