-- Rows of phases of modules that take two states, and the row of a configuration without filters: nobody is called.
use Rattle.std.proofs.Common.{◌≡◌, ◌*◌, ◌+◌, List, [], ◌∷◌, ◌++◌, length, refl, sym, ap, ◌∙◌, subst, arith, append_assoc, append-nil}
use Rattle.std.proofs.Math.Nat.{suc-mul}
use Rattle.ndis_base.specs.declared.ConfigNo.{ConfigNo}
use Rattle.ndis_base.specs.declared.ModuleId.{ModuleId}
use Rattle.ndis_base.specs.declared.ModuleId.TheVariants.{Miniport, Filter, Binding}
use Rattle.ndis_base.specs.declared.ModuleState.{ModuleState}
use Rattle.journal_types.specs.declared.Row.{Row}
use Rattle.journal_types.specs.declared.Row.TheVariants as row
use Rattle.flat_journal.specs.Grows.{Grows}
use Rattle.flat_journal.proofs.Grown.{grows_nothing}
use Rattle.stack_rules.specs.Net.{Net, after, after_rows}
use Rattle.stack_rules.specs.Pauses.{state_row, state_rows}
use Rattle.promise_rules.specs.Calls.{logged_at}
use Rattle.driver_tray.specs.Tray.{TrayView, configured}
use Rattle.book_lemmas.specs.Did.{calls_in, logs_in}
use Rattle.book_lemmas.specs.Leaves.{ArePhases, IsStaying}
use Rattle.book_lemmas.proofs.Goes.{after_rows-append, calls_in-append, used_then}
use Rattle.phase_work.proofs.Written.{HasWritten, phases_call, phases_log}

abbrev pub twice : ModuleState → ModuleState → List ModuleId → List Row
twice a b ms = state_rows (a ∷ b ∷ []) ms

pub twice_phases : (a b : ModuleState) → IsStaying a → IsStaying b → (ms : List ModuleId) (rest : List Row) → ArePhases rest → ArePhases (twice a b ms ++ rest)
twice_phases a b p q [] rest r = r
twice_phases a b p q (m ∷ ms) rest r = (p, (q, twice_phases a b p q ms rest r))

pub twice_phase : (a b : ModuleState) (ms : List ModuleId) (net : Net) → (after_rows net (twice a b ms)).phase ≡ net.phase
twice_phase a b [] net = refl
twice_phase a b (m ∷ ms) net = twice_phase a b ms (after (after net (state_row a m)) (state_row b m))

pub twice_length : (a b : ModuleState) (ms : List ModuleId) → length (twice a b ms) ≡ length ms * 2
twice_length a b [] = refl
twice_length a b (m ∷ ms) =
    let two : length (twice a b (m ∷ ms)) ≡ length (twice a b ms) + 2 = omega arith in
    omega (arith, two, twice_length a b ms, suc-mul (length ms) 2)

-- rows one after the other
pub written_then : (a b c : TrayView) (xs ys : List Row) → HasWritten a xs b → HasWritten b ys c → HasWritten a (xs ++ ys) c
written_then a b c xs ys g k = record {
  net = k.net ∙ ap (λ n. after_rows n ys) g.net ∙ sym (after_rows-append a.net xs ys);
  rows_are = k.rows_are ∙ ap (λ rows. rows ++ ys) g.rows_are ∙ append_assoc a.rows xs ys;
  head = k.head ∙ g.head;
  turns = k.turns ∙ g.turns;
  told_by = k.told_by ∙ g.told_by;
  queue = k.queue ∙ g.queue;
  used = used_then a b c xs ys g.used k.used;
}

-- the row of a configuration without filters
abbrev pub bare_config : ConfigNo → List Row
bare_config config = row.Config config [] ∷ []

nothing_listed : (t : TrayView) → Grows t.payloads (configured t (record { 0 = 0 }) []).payloads
nothing_listed t = subst (λ fs. Grows t.payloads (record t.payloads { filters = fs })) (sym (append-nil t.payloads.filters)) (grows_nothing t.payloads)

pub config_written : (t : TrayView) (config : ConfigNo) → HasWritten t (bare_config config) (configured t config [])
config_written t config =
    let one : length (bare_config config) ≡ 1 = refl in
    record {
      net = refl;
      rows_are = refl;
      head = refl;
      turns = refl;
      told_by = refl;
      queue = refl;
      used = record { rows_used = omega (arith, one); frames = omega arith; bytes = omega arith; slack = omega arith; turns = omega arith; payloads = nothing_listed t };
    }

-- nobody is called, and nothing is logged
pub config_calls : (net : Net) (xs : List Row) (config : ConfigNo) → ArePhases xs → calls_in net (xs ++ bare_config config) ≡ []
config_calls net xs config p = calls_in-append net xs (bare_config config) ∙ ap (λ cs. cs ++ []) (phases_call net xs p)

logs-append : (m : ModuleId) (xs ys : List Row) → logs_in m (xs ++ ys) ≡ logs_in m xs ++ logs_in m ys
logs-append m [] ys = refl
logs-append m (x ∷ xs) ys = ap (λ zs. logged_at m x ++ zs) (logs-append m xs ys) ∙ sym (append_assoc (logged_at m x) (logs_in m xs) (logs_in m ys))

config_silent : (m : ModuleId) (config : ConfigNo) → logs_in m (bare_config config) ≡ []
config_silent Miniport config = refl
config_silent (Filter f) config = refl
config_silent (Binding b) config = refl

pub config_logs : (m : ModuleId) (xs : List Row) (config : ConfigNo) → ArePhases xs → logs_in m (xs ++ bare_config config) ≡ []
config_logs m xs config p =
    logs-append m xs (bare_config config) ∙ ap (λ ls. ls ++ logs_in m (bare_config config)) (phases_log m xs p) ∙ config_silent m config
